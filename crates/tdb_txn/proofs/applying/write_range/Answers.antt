use Rattle.std.proofs.Common.{◌≡◌, ◌∙◌, ◌+◌, ◌*◌, ◌-◌, ◌≤◌, sym, subst, ℕ, arith, refl, inr, add-zero}
use Rattle.tdb_disk.specs.History.{seen}
use Rattle.tdb_disk.proofs.Runs.{leaves_start, leaves_join, leaves_now}
use Rattle.tdb_space.specs.Scheme.{Within}
use Rattle.tdb_space.specs.Planned.{PutRange}
use Rattle.tdb_txn.specs.Pages.{page_size}
use Rattle.tdb_txn.specs.Stock.{page_list}
use Rattle.tdb_txn.proofs.WrittenOut.{range_more, range_none, over_same, may_part}
use Rattle.tdb_txn.proofs.applying.write_range.Goals as goal

pub loop-done-init : goal.loop-done-init
loop-done-init g c = record {
  inside = omega arith;
  count = refl;
  stops = λ told p base may left. leaves_start (g.D.Disk.history c.args.d.now) (Within p base) left;
  put = λ told b bytes.
      subst (λ (n : ℕ). PutRange b c.args.from n (seen (g.D.Disk.history c.args.d.now)) (seen (g.D.Disk.history c.args.d.now))) (sym (add-zero c.args.from))
      (range_none b (seen (g.D.Disk.history c.args.d.now)) c.args.from);
  size = refl;
  faults = refl;
  syncs = refl;
  bytes_read = refl;
}

pub returns-in_err-write_part-clause-stops : goal.returns-in_err-write_part-clause-stops
returns-in_err-write_part-clause-stops g c told p base may left =
    let part = c.after-part.result in
    let is_part = c.after-part.ensures in
    let at = part.number * page_size + part.within in
    let first = g.D.Disk.history c.args.d.now in
    let mid = g.D.Disk.history c.loop-done.d in
    let so_far = c.loop-done.invariant.stops told p base may left in
    leaves_join first mid (g.D.Disk.history c.write_part.new.d) (Within p base) so_far
    (c.write_part.ensures.stops told p base
    (may_part p c.args.from c.args.to at (at + (part.end - c.loop-done.done)) (omega (arith, is_part.start))
    (omega (arith, is_part.start, is_part.inside, is_part.more, c.requires.order)) may)
    (leaves_now first mid (Within p base) so_far))

pub loop-done-preserved : goal.loop-done-preserved
loop-done-preserved g c =
    let part = c.after-part.result in
    let is_part = c.after-part.ensures in
    let was = c.loop-done.invariant in
    let at = part.number * page_size + part.within in
    let first = g.D.Disk.history c.args.d.now in
    let mid = g.D.Disk.history c.loop-done.d in
    let last = g.D.Disk.history c.write_part.new.d in
    let end : at + (part.end - c.loop-done.done) ≡ c.args.from + part.end = omega (arith, is_part.start, is_part.more) in
    let within : c.args.from + part.end ≤ c.args.to = omega (arith, is_part.inside, c.requires.order) in
    record {
      inside = is_part.inside;
      count = refl;
      stops = λ told p base may left.
          leaves_join first mid last (Within p base) (was.stops told p base may left)
          (c.write_part.ensures.stops told p base
          (may_part p c.args.from c.args.to at (at + (part.end - c.loop-done.done)) (omega (arith, is_part.start)) (omega (arith, end, within)) may)
          (leaves_now first mid (Within p base) (was.stops told p base may left)));
      put = λ told b bytes.
          let before = was.put told b bytes in
          let written : PutRange b at (at + (part.end - c.loop-done.done)) (seen mid) (seen last) =
          c.in_ok-write_part.ensures.put told b (λ i from to.
          over_same (page_list c.args.pages.now) (seen first) (seen mid) i (before.beside i (inr (omega (arith, from, is_part.start))))
          ∙ bytes i (omega (arith, from, is_part.start)) (omega (arith, to, end, within))) in
          range_more b (seen first) (seen mid) (seen last) c.args.from (c.args.from + c.loop-done.done) (c.args.from + part.end)
          (omega arith) (omega (arith, is_part.more)) before
          (subst (λ (n : ℕ). PutRange b n (c.args.from + part.end) (seen mid) (seen last)) is_part.start
          (subst (λ (n : ℕ). PutRange b at n (seen mid) (seen last)) end written));
      size = c.write_part.ensures.size ∙ was.size;
      faults = c.in_ok-write_part.ensures.cause.done ∙ was.faults;
      syncs = c.write_part.ensures.syncs ∙ was.syncs;
      bytes_read = c.write_part.ensures.bytes_read ∙ was.bytes_read;
    }
