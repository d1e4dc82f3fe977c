-- No page, no byte so far, one block more, and all.
use Rattle.std.proofs.Common.{◌≡◌, ◌+◌, ◌≤◌, [], length, take, drop, length-take, count_by, not, refl, sym, ◌∙◌, ap, arith, rules}
use Rattle.std.specs.Prelude.{◌==◌, slice_index}
use Rattle.std.specs.List.{range_with_len}
use Rattle.std.proofs.lemmas.List.{nil_from_length}
use Rattle.tdb_disk.specs.History.{seen}
use Rattle.tdb_space.specs.DiskState.{disk_state}
use Rattle.tdb_txn.specs.Txn.{txn_pages}
use Rattle.tdb_mend.specs.View.{mended_view, view_length}
use Rattle.tdb_mend.proofs.Overlays.{same_now, same_then}
use Rattle.tdb_mend.proofs.Viewed.{part_behind, none_changed, compared_more}
use Rattle.tdb_mend.proofs.counting.count_changed.Goals as goal

pub returns-then-pages-eq0-clause-count : goal.returns-then-pages-eq0-clause-count
returns-then-pages-eq0-clause-count g c told =
    let none : txn_pages c.args.file.now.pages ≡ [] = nil_from_length (txn_pages c.args.file.now.pages) (omega (arith, c.pages.ensures, c.if-pages-eq0.true)) in
    sym (none_changed c.args.file.now (seen (g.D.Disk.history c.args.d.now)) none)

pub returns-then-pages-eq0-clause-same : goal.returns-then-pages-eq0-clause-same
returns-then-pages-eq0-clause-same g c = same_now (seen (g.D.Disk.history c.args.d.now)) c.args.file.now

pub loop-at-init : goal.loop-at-init
loop-at-init g c = record {
  within = omega arith;
  most = omega arith;
  count = λ told. refl;
  same = same_now (seen (g.D.Disk.history c.args.d.now)) c.args.file.now;
  disk = refl;
  faults = refl;
}

pub loop-at-preserved : goal.loop-at-preserved
loop-at-preserved g c =
    let v = c.loop-at.invariant in
    let was = g.D.Disk.history c.args.d.now in
    let whole = seen was in
    let base = drop c.args.file.now.start whole in
    let n = c.min-size.result in
    let block : length (take c.min-size.result c.loop-at.now) ≡ c.min-size.result = omega (arith, length-take c.min-size.result c.loop-at.now, c.min-size.ensures) in
    let other : length (take c.min-size.result c.loop-at.before) ≡ c.min-size.result = omega (arith, length-take c.min-size.result c.loop-at.before, c.min-size.ensures) in
    let sized : length c.read.new.buf ≡ c.min-size.result = c.read.auto.buf ∙ block in
    let sized_before : length c.read-in-loop-at.new.buf ≡ c.min-size.result = c.read-in-loop-at.auto.buf ∙ other in
    let fits : c.loop-at.at + c.min-size.result ≤ c.args.file.now.len = omega (arith, c.min-size.ensures, c.loop-at-test.true) in
    record {
      within = fits;
      most = omega (arith, v.most, c.count_differences-changed.ensures.most, sized);
      count = λ told.
          (let read : c.read-in-loop-at.new.buf ≡ take c.min-size.result (drop c.loop-at.at base) =
          c.in_ok-read-2.ensures.bytes told ∙ (λ j. take (other j) (drop (c.args.file.now.start + c.loop-at.at) (seen (g.D.Disk.history c.read.new.d)))) ∙ ap (λ h. take c.min-size.result (drop (c.args.file.now.start + c.loop-at.at) (seen h))) (ap (λ s. s.history) (c.read.ensures.disk ∙ v.disk))
          ∙ part_behind whole c.args.file.now.start c.loop-at.at c.min-size.result in
          let shown : c.read.new.buf ≡ take c.min-size.result (drop c.loop-at.at (mended_view c.args.file.now whole)) =
          c.in_ok-read.ensures.bytes told ∙ (λ j. take (block j) (drop c.loop-at.at (mended_view c.loop-at.file (seen (v.disk j).history))))
          ∙ ap (λ xs. take c.min-size.result (drop c.loop-at.at xs)) v.same.view in
          compared_more c.args.file.now whole base c.read-in-loop-at.new.buf c.read.new.buf c.loop-at.at n read shown sized c.loop-at.changed c.count_differences-changed.result (sized_before ∙ sym sized) (v.count told) c.count_differences-changed.ensures.count);
      same = same_then whole (seen (g.D.Disk.history c.loop-at.d)) c.args.file.now c.loop-at.file c.read.new.self (ap (λ s. seen s.history) v.disk) v.same c.read.ensures.same;
      disk = (λ j. disk_state (c.read-in-loop-at.ensures.history j) (c.read-in-loop-at.ensures.size j) (c.read-in-loop-at.ensures.syncs j)) ∙ c.read.ensures.disk ∙ v.disk;
      faults = search rules;
    }

pub returns-clause-count : goal.returns-clause-count
returns-clause-count g c told =
    let v = c.loop-at.invariant in
    let m = c.args.file.now in
    let whole = seen (g.D.Disk.history c.args.d.now) in
    let all : c.loop-at.at ≡ length (mended_view m whole) = omega (arith, v.within, c.loop-at-test.false, view_length m whole) in
    v.count told ∙ ap (λ n. count_by (λ i. not (slice_index (drop m.start whole) i == slice_index (mended_view m whole) i)) (range_with_len 0 n)) all
