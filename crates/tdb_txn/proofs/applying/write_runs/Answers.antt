use Rattle.std.proofs.Common.{◌≡◌, ◌∙◌, ◌<◌, ◌≤◌, sym, subst, length, List, ℕ, arith, refl, take, get_or}
use Rattle.std.proofs.lemmas.List.{take_all}
use Rattle.tdb_disk.specs.History.{seen}
use Rattle.tdb_disk.proofs.Runs.{leaves_start, leaves_join, leaves_now}
use Rattle.tdb_space.specs.Extents.{Extent, times}
use Rattle.tdb_space.specs.Scheme.{Within}
use Rattle.tdb_space.specs.Planned.{PutRuns}
use Rattle.tdb_txn.specs.Stock.{page_list}
use Rattle.tdb_txn.proofs.WrittenOut.{run_more, run_none, may_run, runs_inside, over_runs, held_in}
use Rattle.tdb_txn.proofs.applying.write_runs.Goals as goal

pub loop-i-init : goal.loop-i-init
loop-i-init g c = record {
  stops = λ told p base same clear left. leaves_start (g.D.Disk.history c.args.d.now) (Within p base) left;
  put = λ told b bytes. run_none b (seen (g.D.Disk.history c.args.d.now));
  size = refl;
  faults = refl;
  syncs = refl;
  bytes_read = refl;
}

pub returns-in_err-write_range-clause-stops : goal.returns-in_err-write_range-clause-stops
returns-in_err-write_range-clause-stops g c told p base same clear left =
    let es = c.args.runs.now in
    let k = c.loop-i.i in
    let first = g.D.Disk.history c.args.d.now in
    let mid = g.D.Disk.history c.loop-i.d in
    let e : Extent = c.in-Some.run' in
    let low : k < length es = c.in-Some.ensures.0 in
    let is : get_or es k e ≡ e = sym c.in-Some.ensures.1 in
    let so_far = c.loop-i.invariant.stops told p base same clear left in
    leaves_join first mid (g.D.Disk.history c.write_range.new.d) (Within p base) so_far
    (c.write_range.ensures.stops told p base (may_run p es k e same clear low is) (leaves_now first mid (Within p base) so_far))

pub loop-i-preserved : goal.loop-i-preserved
loop-i-preserved g c =
    let es = c.args.runs.now in
    let k = c.loop-i.i in
    let was = c.loop-i.invariant in
    let first = g.D.Disk.history c.args.d.now in
    let mid = g.D.Disk.history c.loop-i.d in
    let last = g.D.Disk.history c.write_range.new.d in
    let e : Extent = c.in-Some.run' in
    let low : k < length es = c.in-Some.ensures.0 in
    let is : get_or es k e ≡ e = sym c.in-Some.ensures.1 in
    record {
      stops = λ told p base same clear left.
          leaves_join first mid last (Within p base) (was.stops told p base same clear left)
          (c.write_range.ensures.stops told p base (may_run p es k e same clear low is) (leaves_now first mid (Within p base) (was.stops told p base same clear left)));
      put = λ told b bytes.
          let long : length (seen first) ≡ g.D.Disk.size c.args.d.now = g.met.D.Disk.told_size c.args.d.now told in
          let inside : (i : ℕ) → 1 ≤ times es i → i < length (seen first) =
          λ i held. (let under : i < c.args.below = runs_inside c.args.below i es c.requires.runs_end held in omega (arith, under, long, c.requires.inside)) in
          let before = was.put told b bytes in
          run_more b (seen first) (seen mid) (seen last) es k e low is before
          (c.in_ok-write_range.ensures.put told b (λ i from to.
          (let held : 1 ≤ times es i = held_in es k i e low is from to in
          over_runs (page_list c.args.pages.now) b (seen first) (seen mid) (take k es) i before (inside i held) (bytes i held))))
          inside;
      size = c.write_range.ensures.size ∙ was.size;
      faults = c.in_ok-write_range.ensures.cause.done ∙ was.faults;
      syncs = c.write_range.ensures.syncs ∙ was.syncs;
      bytes_read = c.write_range.ensures.bytes_read ∙ was.bytes_read;
    }

pub returns-clause-put : goal.returns-clause-put
returns-clause-put g c told b bytes =
    subst (λ (es : List Extent). PutRuns b es (seen (g.D.Disk.history c.args.d.now)) (seen (g.D.Disk.history c.loop-i.d)))
    (take_all c.loop-i.i c.args.runs.now (omega arith)) (c.loop-i.invariant.put told b bytes)
