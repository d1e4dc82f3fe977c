use Rattle.std.proofs.Common.{arith}
use Rattle.std.proofs.lemmas.Grind.{common_steps}
use Rattle.tdb_disk.proofs.ReadFront.{read_splits}
use Rattle.tdb_disk.proofs.mem_source.MemSourceSource.read.Goals as goal

pub returns-clause-bytes : goal.returns-clause-bytes
returns-clause-bytes c =
    read_splits c.args.self.now.bytes.items c.copy_from_slice.new.self _ c.args.self.now.next c.min-n.result
    (cc (c.copy_from_slice.ensures.after, c.left-left.ensures)) (grind (arith, common_steps, c.copy_from_slice.ensures.len, c.min-n.ensures))
