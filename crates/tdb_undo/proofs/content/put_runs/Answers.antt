-- No room, one more entry, and the end.
use Rattle.std.proofs.Common.{◌≡◌, ◌+◌, ap, drop, sym, subst, ◌∙◌, arith, rules}
use Rattle.std.proofs.lemmas.Bool.{MatchBool-at_true, MatchBool-at_false}
use Rattle.std.proofs.lemmas.List.Sums.{sum_by-cons}
use Rattle.tdb_disk.specs.History.{seen}
use Rattle.tdb_space.specs.Opening.{lies_in}
use Rattle.tdb_undo.specs.Content.{RunsFit, HasRoom}
use Rattle.tdb_undo.specs.Reads.{run_bytes}
use Rattle.tdb_undo.proofs.Blocks.{start_torn}
use Rattle.tdb_undo.proofs.Puts.{Putting, content_least, putting_none, putting_room, putting_more, putting_all, entry_torn, drop_next, drop_end}
use Rattle.tdb_undo.proofs.content.put_runs.Goals as goal

pub returns-then-end-place-clause-stops : goal.returns-then-end-place-clause-stops
returns-then-end-place-clause-stops g c told =
    start_torn (g.D.Disk.history c.args.d.now) (lies_in (c.args.area.now.at + 24) c.args.area.now.header.rec_len)

pub returns-then-end-place-clause-filled : goal.returns-then-end-place-clause-filled
returns-then-end-place-clause-filled g c told fit =
    absurd (omega (arith, content_least c.args.runs.now, fit.fits, c.if-end-place.true, c.end.ensures))

pub loop-i-init : goal.loop-i-init
loop-i-init g c =
    record {
      above = omega arith;
      within = omega (arith, c.if-end-place.false, c.end.ensures);
      stops = λ told. start_torn (g.D.Disk.history c.args.d.now) (lies_in (c.args.area.now.at + 24) c.args.area.now.header.rec_len);
      putting = λ told fit. putting_none c.args.order c.args.area.now c.args.runs.now (seen (g.D.Disk.history c.args.d.now)) fit;
      size = search rules;
      faults = search rules;
      syncs = search rules;
      rises = omega arith;
      reads = omega arith;
    }

pub returns-then-not-has_room-clause-filled : goal.returns-then-not-has_room-clause-filled
returns-then-not-has_room-clause-filled g c told fit =
    let next = drop_next c.args.runs.now c.loop-i.i c.in-Some.run' c.in-Some.ensures.0 c.in-Some.ensures.1 in
    absurd (MatchBool-at_false _ _ c.if-not-has_room.true c.has_room.ensures (subst (λ n. HasRoom c.args.area.now n (c.loop-i.place + 8 + c.in-Some.run'.1) c.in-Some.run') (g.met.D.Disk.told_size c.args.d.now told ∙ sym c.requires.length)
    (putting_room c.args.order c.args.area.now c.args.runs.now (drop (c.loop-i.i + 1) c.args.runs.now) c.in-Some.run' (seen (g.D.Disk.history c.args.d.now)) (seen (g.D.Disk.history c.loop-i.d)) c.loop-i.place (subst (λ n. RunsFit c.args.area.now n c.args.runs.now) (sym (g.met.D.Disk.told_size c.args.d.now told ∙ sym c.requires.length)) fit) (subst (λ r. Putting c.args.order c.args.area.now c.args.runs.now r (seen (g.D.Disk.history c.args.d.now)) c.loop-i.place (seen (g.D.Disk.history c.loop-i.d))) next (c.loop-i.invariant.putting told (subst (λ n. RunsFit c.args.area.now n c.args.runs.now) (sym (g.met.D.Disk.told_size c.args.d.now told ∙ sym c.requires.length)) fit))))))

pub returns-in_err-put_entry-clause-stops : goal.returns-in_err-put_entry-clause-stops
returns-in_err-put_entry-clause-stops g c told =
    let room = MatchBool-at_true _ _ c.if-not-has_room.false c.has_room.ensures in
    entry_torn c.args.area.now c.loop-i.place c.in-Some.run'.1 (g.D.Disk.history c.args.d.now) (g.D.Disk.history c.loop-i.d) (g.D.Disk.history c.put_entry.new.d) c.loop-i.invariant.above (omega (arith, room.fits)) (c.loop-i.invariant.stops told) (c.put_entry.ensures.stops told)

pub loop-i-preserved : goal.loop-i-preserved
loop-i-preserved g c =
    let room = MatchBool-at_true _ _ c.if-not-has_room.false c.has_room.ensures in
    record {
      above = omega (arith, c.loop-i.invariant.above);
      within = room.fits;
      stops = λ told. entry_torn c.args.area.now c.loop-i.place c.in-Some.run'.1 (g.D.Disk.history c.args.d.now) (g.D.Disk.history c.loop-i.d) (g.D.Disk.history c.put_entry.new.d) c.loop-i.invariant.above (omega (arith, room.fits)) (c.loop-i.invariant.stops told) (c.put_entry.ensures.stops told);
      putting = λ told fit. (let next = drop_next c.args.runs.now c.loop-i.i c.in-Some.run' c.in-Some.ensures.0 c.in-Some.ensures.1 in
          let long = g.met.D.Disk.told_size c.args.d.now told ∙ sym c.requires.length in
          putting_more c.args.order c.args.area.now c.args.runs.now (drop (c.loop-i.i + 1) c.args.runs.now) c.in-Some.run' (seen (g.D.Disk.history c.args.d.now)) (seen (g.D.Disk.history c.loop-i.d)) (seen (g.D.Disk.history c.put_entry.new.d)) c.loop-i.place
          (subst (λ r. Putting c.args.order c.args.area.now c.args.runs.now r (seen (g.D.Disk.history c.args.d.now)) c.loop-i.place (seen (g.D.Disk.history c.loop-i.d))) next (c.loop-i.invariant.putting told fit)) c.loop-i.invariant.above
          (subst (λ n. HasRoom c.args.area.now n (c.loop-i.place + 8 + c.in-Some.run'.1) c.in-Some.run') (sym long) room) (omega (arith, long, c.requires.room)) (c.in_ok-put_entry.ensures.put told));
      size = search rules;
      faults = search rules;
      syncs = search rules;
      rises = omega (arith, c.loop-i.invariant.rises, c.put_entry.ensures.bytes_read.never_falls);
      reads = (let next = drop_next c.args.runs.now c.loop-i.i c.in-Some.run' c.in-Some.ensures.0 c.in-Some.ensures.1 in
          let now : run_bytes (drop c.loop-i.i c.args.runs.now) ≡ c.in-Some.run'.1 + run_bytes (drop (c.loop-i.i + 1) c.args.runs.now) = ap run_bytes next ∙ sum_by-cons (λ e. e.1) c.in-Some.run' (drop (c.loop-i.i + 1) c.args.runs.now) in
          omega (arith, c.loop-i.invariant.reads, c.put_entry.ensures.bytes_read.no_more, now));
    }

pub returns-clause-filled : goal.returns-clause-filled
returns-clause-filled g c told fit =
    putting_all c.args.order c.args.area.now c.args.runs.now (seen (g.D.Disk.history c.args.d.now)) (seen (g.D.Disk.history c.loop-i.d)) c.loop-i.place (subst (λ r. Putting c.args.order c.args.area.now c.args.runs.now r (seen (g.D.Disk.history c.args.d.now)) c.loop-i.place (seen (g.D.Disk.history c.loop-i.d))) (drop_end c.args.runs.now c.loop-i.i (omega (arith, c.loop-i-test.false, c.len-i-end.ensures))) (c.loop-i.invariant.putting told (subst (λ n. RunsFit c.args.area.now n c.args.runs.now) (sym (g.met.D.Disk.told_size c.args.d.now told ∙ sym c.requires.length)) fit)))
