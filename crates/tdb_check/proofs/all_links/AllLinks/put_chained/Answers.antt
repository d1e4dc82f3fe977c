-- A record of a chain, which counts as used or as dead.
use Rattle.std.proofs.Common.{refl, ap, ◌∙◌}
use Rattle.tdb_words.specs.declared.record.Rec.{Rec}
use Rattle.tdb_space.specs.FirstFault.{chain_number}
use Rattle.tdb_check.proofs.PutDown.{put_chained}
use Rattle.tdb_check.proofs.all_links.AllLinks.put_chained.Goals as goal

pub returns-clause-put : goal.returns-clause-put
returns-clause-put c f img xs old stands header =
    put_chained f img xs c.args.self.now _ c.args.at c.used_count-used.result c.args.header.now old header c.used_count-used.ensures.one
    (c.in_ok-put.ensures.told chain_number f img old.chained stands (ap (λ (x : Rec). x.next) header)) c.in_ok-put.ensures.weight refl refl refl refl
