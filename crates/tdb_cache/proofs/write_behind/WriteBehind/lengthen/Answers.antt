use Rattle.std.proofs.Common.{◌≡◌, ◌∙◌, ◌≤◌, length, take, sym, subst, arith}
use Rattle.std.proofs.lemmas.Grind.{common_steps}
use Rattle.tdb_disk.specs.History.{seen}
use Rattle.tdb_cache.specs.Content.{content_bytes, SameWritten}
use Rattle.tdb_cache.specs.declared.content.Content.{Content}
use Rattle.tdb_cache.proofs.Contents.{SameWritten-cut, SameWritten-lengthen}
use Rattle.tdb_cache.proofs.Kepts.{same_Whole, view_of-whole}
use Rattle.tdb_cache.proofs.Laids.{laid-none}
use Rattle.tdb_cache.proofs.write_behind.WriteBehind.lengthen.Goals as goal

pub flush-requires-clause-same : goal.flush-requires-clause-same
flush-requires-clause-same g c = λ told.
    let inner = c.args.self.now.inner in
    let kept = c.in-Whole.content in
    let image = seen (g.D.Disk.history inner) in
    let size : length image ≡ g.D.Disk.size inner = g.met.D.Disk.told_size inner told in
    let from : length image ≡ c.in_ok-from-in-Whole.from = omega (arith, size, c.in_ok-from-in-Whole.ensures.length) in
    let reaches : g.D.Disk.size inner ≤ length (content_bytes kept) = c.args.self.now.reaches kept c.in-Whole.is in
    rw (c.len.ensures.history)
    (SameWritten-cut kept c.lengthen.new.self image (omega (arith, size, reaches)) (rw from c.if-not-lengthen.ensures.as_long)
    c.lengthen.ensures.written (c.args.self.now.same told kept c.in-Whole.is))

pub invariant_of-self-else-not-lengthen-clause-same : goal.invariant_of-self-else-not-lengthen-clause-same
invariant_of-self-else-not-lengthen-clause-same g c = λ told content is.
    let inner = c.args.self.now.inner in
    let kept = c.in-Whole.content in
    let image = seen (g.D.Disk.history inner) in
    let size : length image ≡ g.D.Disk.size inner = g.met.D.Disk.told_size inner told in
    let from : length image ≡ c.in_ok-from-in-Whole.from = omega (arith, size, c.in_ok-from-in-Whole.ensures.length) in
    let reaches : g.D.Disk.size inner ≤ length (content_bytes kept) = c.args.self.now.reaches kept c.in-Whole.is in
    rw (c.len.ensures.history) (subst (λ (k : Content). SameWritten k image) (same_Whole _ _ is)
    (SameWritten-lengthen kept c.lengthen.new.self image c.args.to (omega (arith, size, reaches)) (omega (arith, size, c.requires))
    (rw from c.if-not-lengthen.ensures.longer) c.lengthen.ensures.written (c.args.self.now.same told kept c.in-Whole.is)))

pub returns-in_ok-flush-in-Whole-clause-view : goal.returns-in_ok-flush-in-Whole-clause-view
returns-in_ok-flush-in-Whole-clause-view g c = λ told.
    let self = c.args.self.now in
    let kept = c.in-Whole.content in
    let image = seen (g.D.Disk.history self.inner) in
    let now = seen (g.D.Disk.history c.flush.new.d) in
    let written : now ≡ take (g.D.Disk.size self.inner) (content_bytes kept) =
    grind (
      arith,
      common_steps,
      c.in_ok-flush-in-Whole.ensures.written told,
      c.if-not-lengthen.ensures.as_long,
      c.len.ensures.size,
      c.in_ok-from-in-Whole.ensures.length,
    ) in
    laid-none c.new.result.blocks now c.new.ensures ∙ written
    ∙ sym (view_of-whole self.kept kept (g.D.Disk.size self.inner) image c.in-Whole.is)
