use Rattle.std.proofs.Common.{◌≤◌, length, inr, subst, rules}
use Rattle.tdb_disk.specs.History.{seen}
use Rattle.tdb_cache.specs.Content.{content_bytes, SameWritten}
use Rattle.tdb_cache.specs.declared.content.Content.{Content}
use Rattle.tdb_cache.proofs.Contents.{SameWritten-write, take-overlay}
use Rattle.tdb_cache.proofs.Kepts.{same_Whole, view_of-whole}
use Rattle.tdb_cache.proofs.write_behind.WriteBehindDisk.write_word.Goals as goal

pub invariant_of-self-in-Whole-clause-same : goal.invariant_of-self-in-Whole-clause-same
invariant_of-self-in-Whole-clause-same g c = λ told content is.
    let image = seen (g.D.Disk.history c.args.self.now.inner) in
    subst (λ (kept : Content). SameWritten kept image) (same_Whole _ _ is)
    (SameWritten-write c.in-Whole.content c.write.new.self image c.args.w c.args.off c.write.ensures.bytes
    c.write.ensures.before c.write.ensures.apart (c.args.self.now.same told c.in-Whole.content c.in-Whole.is))

pub returns-in-Whole-clause-view : goal.returns-in-Whole-clause-view
returns-in-Whole-clause-view g c = λ told.
    let self = c.args.self.now in
    let kept = c.in-Whole.content in
    let reaches : g.D.Disk.size self.inner ≤ length (content_bytes kept) = self.reaches kept c.in-Whole.is in
    rw (c.write.ensures.bytes, view_of-whole self.kept kept (g.D.Disk.size self.inner) (seen (g.D.Disk.history self.inner)) c.in-Whole.is)
    (take-overlay (content_bytes kept) c.args.w c.args.off (g.D.Disk.size self.inner) (search rules) reaches)

pub returns-in-Whole-clause-tried : goal.returns-in-Whole-clause-tried
returns-in-Whole-clause-tried g c = λ told. inr (returns-in-Whole-clause-view g c told)
