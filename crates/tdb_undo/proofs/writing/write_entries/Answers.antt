-- An entry that has become bad, one more that was written back, and the end.
use Rattle.std.proofs.Common.{◌≡◌, ◌+◌, ◌-◌, true, false, sym, subst, ◌∙◌, ap, arith, rules}
use Rattle.std.specs.Prelude.{slice_index}
use Rattle.tdb_disk.specs.History.{seen}
use Rattle.tdb_disk.specs.Stop.{LeavesOnly}
use Rattle.tdb_space.specs.Opening.{entry_fault}
use Rattle.tdb_undo.specs.Torn.{TornIn, Put}
use Rattle.tdb_undo.specs.Entries.{entries_stop, entries_in, is_given, is_written, Given}
use Rattle.tdb_undo.proofs.Blocks.{start_torn}
use Rattle.tdb_undo.proofs.GivenBack.{giving_none, giving_all, giving_read, more_torn, read_sound, content_same}
use Rattle.tdb_undo.proofs.Rest.{enough}
use Rattle.tdb_undo.proofs.writing.write_entries.Goals as goal

pub loop-place-init : goal.loop-place-init
loop-place-init g c = record {
  above = omega arith;
  within = omega arith;
  short = c.new-window.ensures.short;
  holds = λ told good. c.new-window.ensures.holds (seen (g.D.Disk.history c.args.d.now));
  giving = λ told good.
      (let a = c.args.area.now in
      let e = enough c.args.order (seen (g.D.Disk.history c.args.d.now)) a.header.data_len (entries_stop a) (a.at + 24) (entries_stop a) (omega arith) (omega arith) in
      giving_none c.args.order a (seen (g.D.Disk.history c.args.d.now)) (a.at + 24) (ap (entry_fault (entries_stop a) a.header.key_len) (sym e) ∙ good));
  stops = λ told good. start_torn (g.D.Disk.history c.args.d.now) (is_written c.args.area.now (entries_in c.args.order (seen (g.D.Disk.history c.args.d.now)) c.args.area.now));
  size = search rules;
  faults = search rules;
  syncs = search rules;
  from = omega (arith, c.new-window.ensures.empty.0);
  ends = omega (arith, c.new-window.ensures.empty.0, c.new-window.ensures.empty.1);
  reads = record { no_more = omega arith; never_falls = omega arith };
}

pub returns-then-is_bad_entry-clause-refusal : goal.returns-then-is_bad_entry-clause-refusal
returns-then-is_bad_entry-clause-refusal g c told good =
    let first = seen (g.D.Disk.history c.args.d.now) in
    let now = seen (g.D.Disk.history c.loop-place.d) in
    let v = c.loop-place.invariant in
    let words = c.in_ok-off.ensures.words told first (content_same c.args.order c.args.area.now first now (c.args.area.now.at + 24) c.loop-place.place c.requires.content v.above (v.giving told good)) (v.holds told good) in
    let sound = read_sound c.args.order c.args.area.now first now c.loop-place.place c.in_ok-off.off c.in_ok-off.len (v.giving told good) c.requires.content v.above c.loop-place-test.true words.0 words.1 in
    let h : true ≡ false = sym c.if-is_bad_entry.true ∙ c.is_bad_entry.ensures ∙ sound in
    cc

pub returns-in_err-give_entry-clause-stops : goal.returns-in_err-give_entry-clause-stops
returns-in_err-give_entry-clause-stops g c told good =
    let h = g.D.Disk.history c.args.d.now in
    let first = seen h in
    let now = seen (g.D.Disk.history c.loop-place.d) in
    let a = c.args.area.now in
    let v = c.loop-place.invariant in
    let words = c.in_ok-off.ensures.words told first (content_same c.args.order a first now (a.at + 24) c.loop-place.place c.requires.content v.above (v.giving told good)) (v.holds told good) in
    more_torn c.args.order a first now c.loop-place.place c.in_ok-off.off c.in_ok-off.len (v.giving told good) c.requires.content v.above c.loop-place-test.true words.0 words.1
    h (g.D.Disk.history c.entry_words.new.d) (g.D.Disk.history c.give_entry.new.d)
    (subst (λ k. LeavesOnly h k (TornIn (is_written a (entries_in c.args.order first a)) h)) (sym c.entry_words.ensures.still) (v.stops told good)) (c.give_entry.ensures.stops told)

pub loop-place-preserved : goal.loop-place-preserved
loop-place-preserved g c =
    let h = g.D.Disk.history c.args.d.now in
    let first = seen h in
    let now = seen (g.D.Disk.history c.loop-place.d) in
    let a = c.args.area.now in
    let v = c.loop-place.invariant in
    record {
      above = omega arith;
      within = search rules;
      short = c.entry_words.ensures.short_still;
      holds = λ told good. c.in_ok-off.ensures.holds told first (content_same c.args.order a first now (a.at + 24) c.loop-place.place c.requires.content v.above (v.giving told good)) (v.holds told good);
      giving = λ told good.
          (let words = c.in_ok-off.ensures.words told first (content_same c.args.order a first now (a.at + 24) c.loop-place.place c.requires.content v.above (v.giving told good)) (v.holds told good) in
          giving_read c.args.order a first now c.loop-place.place c.in_ok-off.off c.in_ok-off.len (v.giving told good) c.requires.content v.above c.loop-place-test.true words.0 words.1
          (seen (g.D.Disk.history c.give_entry.new.d))
          (subst (λ k. Put (is_given a c.in_ok-off.off c.in_ok-off.len) (λ i. slice_index (seen k) (c.loop-place.place + 8 + (i - c.in_ok-off.off))) (seen k) (seen (g.D.Disk.history c.give_entry.new.d)))
          c.entry_words.ensures.still (c.in_ok-give_entry.ensures.put told)));
      stops = λ told good.
          (let words = c.in_ok-off.ensures.words told first (content_same c.args.order a first now (a.at + 24) c.loop-place.place c.requires.content v.above (v.giving told good)) (v.holds told good) in
          more_torn c.args.order a first now c.loop-place.place c.in_ok-off.off c.in_ok-off.len (v.giving told good) c.requires.content v.above c.loop-place-test.true words.0 words.1
          h (g.D.Disk.history c.entry_words.new.d) (g.D.Disk.history c.give_entry.new.d)
          (subst (λ k. LeavesOnly h k (TornIn (is_written a (entries_in c.args.order first a)) h)) (sym c.entry_words.ensures.still) (v.stops told good)) (c.give_entry.ensures.stops told));
      size = search rules;
      faults = search rules;
      syncs = search rules;
      from = omega (arith, c.in_ok-off.ensures.reached);
      ends = (c.in_ok-off.ensures.reads v.from v.ends).within;
      reads = (let moved = c.in_ok-off.ensures.reads v.from v.ends in record {
        no_more = omega (arith, v.above, v.reads.no_more, moved.read.no_more, moved.no_less, moved.has, c.give_entry.ensures.bytes_read.no_more);
        never_falls = omega (arith, v.reads.never_falls, moved.read.never_falls, c.give_entry.ensures.bytes_read.never_falls);
      });
    }

pub returns-clause-given : goal.returns-clause-given
returns-clause-given g c told good =
    let a = c.args.area.now in
    let first = seen (g.D.Disk.history c.args.d.now) in
    let now = seen (g.D.Disk.history c.loop-place.d) in
    let e = enough c.args.order first a.header.data_len (entries_stop a) (a.at + 24) (entries_stop a) (omega arith) (omega arith) in
    subst (λ es. Given a es first now) (sym e) (giving_all c.args.order a first now (a.at + 24) c.loop-place.place (c.loop-place.invariant.giving told good) c.loop-place-test.false)
