-- A record of the free list.
use Rattle.std.proofs.Common.{refl, ap, ◌∙◌}
use Rattle.tdb_words.specs.declared.record.Rec.{Rec}
use Rattle.tdb_space.specs.FirstFault.{free_list}
use Rattle.tdb_check.proofs.PutDown.{put_free}
use Rattle.tdb_check.proofs.all_links.AllLinks.put_free.Goals as goal

pub returns-clause-put : goal.returns-clause-put
returns-clause-put c f img xs old stands header =
    put_free f img xs c.args.self.now _ c.args.at old (c.in_ok-put.ensures.told (λ _. free_list) f img old.frees stands (ap (λ (x : Rec). x.next) header)) c.in_ok-put.ensures.weight refl refl refl refl
