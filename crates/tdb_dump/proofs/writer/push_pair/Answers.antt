-- The lines of the pair, put together.
use Rattle.std.proofs.Common.{[], ◌∷◌, length}
use Rattle.std.specs.Prelude.{codes, decimal}
use Rattle.tdb_dump.specs.Escape.{escaped}
use Rattle.tdb_dump.specs.DumpText.{pair_text}
use Rattle.tdb_dump.proofs.Runs.{fields_put, pair_parts}
use Rattle.tdb_dump.proofs.writer.push_pair.Goals as goal

pub returns : goal.returns
returns c =
    fields_put c.extend_from_slice.result c.args.text.now.items c.push_behind.new.text.items c.push_behind-2.new.text.items c.extend_from_slice.new.self.items
    (123 ∷ 10 ∷ 107 ∷ 101 ∷ 121 ∷ 40 ∷ []) (decimal (length c.args.key.now)) (41 ∷ 32 ∷ 61 ∷ 32 ∷ 34 ∷ []) (escaped c.args.key.now)
    (34 ∷ 10 ∷ 100 ∷ 97 ∷ 116 ∷ 97 ∷ 40 ∷ []) (decimal (length c.args.value.now)) (escaped c.args.value.now) (34 ∷ 10 ∷ 125 ∷ 10 ∷ []) (pair_text c.args.key.now c.args.value.now)
    c.in_ok-push_behind.ensures c.in_ok-push_behind-2.ensures c.extend_from_slice.ensures.items
    (pair_parts (codes "{\n") (codes "key") (codes "(") (decimal (length c.args.key.now)) (codes ") = \"") (escaped c.args.key.now) (codes "\"") (codes "\n") (codes "data") (decimal (length c.args.value.now)) (escaped c.args.value.now) (codes "\n}\n"))
