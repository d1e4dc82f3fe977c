-- An entry with a fault, one more without, and the end.
use Rattle.std.proofs.Common.{◌≡◌, ◌+◌, true, false, take, drop, sym, subst, ◌∙◌, ap, arith, rules}
use Rattle.std.specs.Prelude.{slice_index}
use Rattle.tdb_disk.specs.History.{seen}
use Rattle.tdb_words.specs.Word.{word}
use Rattle.tdb_space.specs.Opening.{entry_at, entry_fault, is_bad_entry, last_covering, given_back}
use Rattle.tdb_undo.specs.Entries.{entries_stop, lengths}
use Rattle.tdb_undo.proofs.Rest.{Tested, tested_none, tested_more, tested_bad, tested_all, enough}
use Rattle.tdb_undo.proofs.testing.test_entries.Goals as goal

pub loop-place-init : goal.loop-place-init
loop-place-init g c = record {
  above = omega arith;
  within = omega arith;
  fits = omega arith;
  short = c.new-window.ensures.short;
  holds = λ told. c.new-window.ensures.holds (seen (g.D.Disk.history c.args.d.now));
  tested = λ told. tested_none c.args.order (seen (g.D.Disk.history c.args.d.now)) (c.args.area.now.at + 24) (c.args.area.now.at + 24 + c.args.area.now.header.data_len) c.args.area.now.header.key_len c.args.front.now;
  still = search rules;
  size = search rules;
  faults = search rules;
  syncs = search rules;
  from = omega (arith, c.new-window.ensures.empty.0);
  ends = omega (arith, c.new-window.ensures.empty.0, c.new-window.ensures.empty.1);
  reads = record { no_more = omega arith; never_falls = omega arith };
}

pub returns-then-is_bad_entry-clause-bad : goal.returns-then-is_bad_entry-clause-bad
returns-then-is_bad_entry-clause-bad g c told =
    let img = seen (g.D.Disk.history c.args.d.now) in
    let v = c.loop-place.invariant in
    let a = c.args.area.now in
    let place = c.loop-place.place in
    let words = c.in_ok-off.ensures.words told img (λ i low high. ap (λ h. slice_index (seen h) i) v.still) (v.holds told) in
    let bad : is_bad_entry (entries_stop a) a.header.key_len (entry_at c.args.order img place) ≡ true =
    ap (λ n. is_bad_entry (entries_stop a) a.header.key_len (record { place = place; off = word c.args.order img place; len = n; olds = take n (drop (place + 8) img) })) (sym words.1)
    ∙ ap (λ n. is_bad_entry (entries_stop a) a.header.key_len (record { place = place; off = n; len = c.in_ok-off.len; olds = take c.in_ok-off.len (drop (place + 8) img) })) (sym words.0)
    ∙ sym c.is_bad_entry.ensures ∙ c.if-is_bad_entry.true in
    ap (entry_fault (entries_stop a) a.header.key_len) (enough c.args.order img a.header.data_len (entries_stop a) (a.at + 24) (entries_stop a) (omega arith) (omega arith))
    ∙ tested_bad c.args.order img (a.at + 24) (entries_stop a) a.header.key_len place c.loop-place.total c.args.front.now c.loop-place.front (v.tested told) c.loop-place-test.true bad

pub loop-place-preserved : goal.loop-place-preserved
loop-place-preserved g c =
    let img = seen (g.D.Disk.history c.args.d.now) in
    let v = c.loop-place.invariant in
    let a = c.args.area.now in
    let place = c.loop-place.place in
    record {
      above = omega arith;
      within = search rules;
      fits = omega arith;
      short = c.entry_words.ensures.short_still;
      holds = λ told. c.in_ok-off.ensures.holds told img (λ i low high. ap (λ h. slice_index (seen h) i) v.still) (v.holds told);
      tested = λ told.
          (let words = c.in_ok-off.ensures.words told img (λ i low high. ap (λ h. slice_index (seen h) i) v.still) (v.holds told) in
          let good : is_bad_entry (entries_stop a) a.header.key_len (entry_at c.args.order img place) ≡ false =
          ap (λ n. is_bad_entry (entries_stop a) a.header.key_len (record { place = place; off = word c.args.order img place; len = n; olds = take n (drop (place + 8) img) })) (sym words.1)
          ∙ ap (λ n. is_bad_entry (entries_stop a) a.header.key_len (record { place = place; off = n; len = c.in_ok-off.len; olds = take c.in_ok-off.len (drop (place + 8) img) })) (sym words.0)
          ∙ sym c.is_bad_entry.ensures ∙ c.if-is_bad_entry.false in
          let same = c.entry_words.ensures.still ∙ v.still in
          subst (λ n. Tested c.args.order img (a.at + 24) (entries_stop a) a.header.key_len (place + 8 + n) (c.loop-place.total + n) c.args.front.now c.take_front.new.front) (sym words.1)
          (tested_more c.args.order img (a.at + 24) (entries_stop a) a.header.key_len place c.loop-place.total c.args.front.now c.loop-place.front c.take_front.new.front (v.tested told) c.loop-place-test.true good
          (c.in_ok-take_front.ensures.front told (entry_at c.args.order img place) (sym words.0) (sym words.1) (ap (λ n. take n (drop (place + 8) img)) (sym words.1) ∙ ap (λ h. take c.in_ok-off.len (drop (place + 8) (seen h))) (sym same)))));
      still = search rules;
      size = search rules;
      faults = search rules;
      syncs = search rules;
      from = omega (arith, c.in_ok-off.ensures.reached);
      ends = (c.in_ok-off.ensures.reads v.from v.ends).within;
      reads = (let moved = c.in_ok-off.ensures.reads v.from v.ends in record {
        no_more = omega (arith, v.above, v.reads.no_more, moved.read.no_more, moved.no_less, moved.has, c.take_front.ensures.bytes_read.no_more);
        never_falls = omega (arith, v.reads.never_falls, moved.read.never_falls, c.take_front.ensures.bytes_read.never_falls);
      });
    }

pub returns-clause-sound : goal.returns-clause-sound
returns-clause-sound g c told =
    let img = seen (g.D.Disk.history c.args.d.now) in
    let a = c.args.area.now in
    let e = enough c.args.order img a.header.data_len (entries_stop a) (a.at + 24) (entries_stop a) (omega arith) (omega arith) in
    let all = tested_all c.args.order img (a.at + 24) (entries_stop a) a.header.key_len c.loop-place.place c.loop-place.total c.args.front.now c.loop-place.front (c.loop-place.invariant.tested told) c.loop-place-test.false in
    (ap (entry_fault (entries_stop a) a.header.key_len) e ∙ all.0, all.1 ∙ ap lengths (sym e))

pub returns-clause-front : goal.returns-clause-front
returns-clause-front g c told i low =
    let img = seen (g.D.Disk.history c.args.d.now) in
    let a = c.args.area.now in
    let e = enough c.args.order img a.header.data_len (entries_stop a) (a.at + 24) (entries_stop a) (omega arith) (omega arith) in
    let all = tested_all c.args.order img (a.at + 24) (entries_stop a) a.header.key_len c.loop-place.place c.loop-place.total c.args.front.now c.loop-place.front (c.loop-place.invariant.tested told) c.loop-place-test.false in
    all.2 i low ∙ ap (λ l. given_back (last_covering l i) i (slice_index c.args.front.now i)) (sym e)
