-- One more record, and each way out of the walk.
use Rattle.std.proofs.Common.{◌≡◌, ◌∷◌, [], ◌+◌, ◌-◌, ◌<◌, ◌≤◌, Some, length, length-append, sym, ◌∙◌, ap, subst, arith, rules}
use Rattle.std.specs.Prelude.{◌/◌, sum_by}
use Rattle.tdb_disk.specs.Count.{RoseUpTo}
use Rattle.tdb_words.specs.declared.record.Rec.{Rec}
use Rattle.tdb_words.specs.Record.{rec_at}
use Rattle.tdb_space.specs.Form.{chain_head}
use Rattle.tdb_space.specs.Chain.{offsets, chain_of}
use Rattle.tdb_space.specs.FirstFault.{chain_number}
use Rattle.tdb_check.specs.Seen.{Names}
use Rattle.tdb_check.specs.Notes.{NotesOf, RecordPassed}
use Rattle.tdb_check.specs.Walked.{fault_but_twin}
use Rattle.tdb_check.specs.Reads.{record_reads}
use Rattle.tdb_check.proofs.Walking.{walk_start, walk_read}
use Rattle.tdb_check.proofs.SameViews.{same_view}
use Rattle.tdb_check.proofs.OneChain.{walking_start, walking_never, walking_more}
use Rattle.tdb_check.proofs.chain.walk_chain.Goals as goal

pub loop-turn-init : goal.loop-turn-init
loop-turn-init g c = record {
  going = λ told long is. walking_start (g.S.Space.form c.args.s.now) c.args.j (g.S.Space.image c.args.s.now) c.clear.new.self c.args.extents.now.items c.args.first is (c.clear.ensures.none (g.S.Space.form c.args.s.now) (g.S.Space.image c.args.s.now));
  reads = λ told long is. walk_start (g.S.Space.form c.args.s.now) (g.S.Space.image c.args.s.now) _ _ c.args.first _ is;
  never_falls = λ told long. omega arith;
  tails = search rules;
  turns = search rules;
  count = search rules;
  looked = search rules;
  faults = search rules;
}

pub returns-in-Err-Corrupt-clause-walked : goal.returns-in-Err-Corrupt-clause-walked
returns-in-Err-Corrupt-clause-walked g c told long is =
    let f = g.S.Space.form c.args.s.now in
    let img = g.S.Space.image c.args.s.now in
    let f2 = g.S.Space.form c.loop-turn.s in
    let img2 = g.S.Space.image c.loop-turn.s in
    let v = c.loop-turn.invariant in
    let h = (v.going told long is).so_far in
    let again : length img2 ≡ c.args.len = ap length v.looked.image ∙ long in
    let a = c.in-Err-Corrupt.ensures in
    let kept : c.pass_record.new.notes ≡ c.loop-turn.notes = subst (λ e. Names e (λ _. c.pass_record.new.notes ≡ c.loop-turn.notes)) c.in-Err-Corrupt.field-0-is a.kept in
    let found : fault_but_twin f2 (chain_number c.args.j) img2 h.xs c.loop-turn.place c.loop-turn.at ≡ Some (c.in-Err-Corrupt.what, c.in-Err-Corrupt.at) =
    subst (λ e. Names e (λ fault. fault_but_twin f2 (chain_number c.args.j) img2 h.xs c.loop-turn.place c.loop-turn.at ≡ Some fault)) c.in-Err-Corrupt.field-0-is
    (a.bad told again h.xs (same_view (λ k i. NotesOf k i h.xs c.loop-turn.notes) f f2 img img2 v.looked.form v.looked.image h.noted)) in
    record {
      place = c.loop-turn.place;
      at = c.loop-turn.at;
      so_far = record { xs = h.xs; walked = h.walked; next = h.next; noted = subst (NotesOf f img h.xs) (sym kept) h.noted; seen = h.seen; used = h.used };
      ends = (c.if-at-eq0.false, (λ i. fault_but_twin (sym v.looked.form i) (chain_number c.args.j) (sym v.looked.image i) h.xs c.loop-turn.place c.loop-turn.at) ∙ found);
    }

pub loop-turn-preserved : goal.loop-turn-preserved
loop-turn-preserved g c =
    let f = g.S.Space.form c.args.s.now in
    let img = g.S.Space.image c.args.s.now in
    let f2 = g.S.Space.form c.loop-turn.s in
    let img2 = g.S.Space.image c.loop-turn.s in
    let v = c.loop-turn.invariant in
    let put = c.in_ok-put.ensures.ok in
    let longer = ap length put ∙ length-append c.loop-turn.extents.items ((record { off = c.loop-turn.at; rec_len = c.in-Ok.r.rec_len }) ∷ []) in
    record {
      going = λ told long is.
          (let w = v.going told long is in
          let xs = w.so_far.xs in
          let again : length img2 ≡ c.args.len = ap length v.looked.image ∙ long in
          let there : RecordPassed f2 c.args.j img2 xs c.loop-turn.place c.loop-turn.at c.in-Ok.r c.pass_record.new.notes =
          c.in-Ok.ensures.good told again xs (same_view (λ k i. NotesOf k i xs c.loop-turn.notes) f f2 img img2 v.looked.form v.looked.image w.so_far.noted) in
          let here : RecordPassed f c.args.j img xs c.loop-turn.place c.loop-turn.at c.in-Ok.r c.pass_record.new.notes =
          same_view (λ k i. RecordPassed k c.args.j i xs c.loop-turn.place c.loop-turn.at c.in-Ok.r c.pass_record.new.notes) f2 f img2 img (sym v.looked.form) (sym v.looked.image) there in
          walking_more f c.args.j img c.loop-turn.notes c.args.extents.now.items c.loop-turn.extents.items c.loop-turn.live c.loop-turn._turn c.loop-turn.place c.loop-turn.at w
          c.pass_record.new.notes c.put.new.extents.items (c.loop-turn.live + c.used_count-live.result) c.in-Ok.r c.if-at-eq0.false here put (ap (λ n. c.loop-turn.live + n) c.used_count-live.ensures.one));
      reads = λ told long is.
          (let w = v.going told long is in
          let xs = w.so_far.xs in
          let again : length img2 ≡ c.args.len = ap length v.looked.image ∙ long in
          let there : RecordPassed f2 c.args.j img2 xs c.loop-turn.place c.loop-turn.at c.in-Ok.r c.pass_record.new.notes =
          c.in-Ok.ensures.good told again xs (same_view (λ k i. NotesOf k i xs c.loop-turn.notes) f f2 img img2 v.looked.form v.looked.image w.so_far.noted) in
          let header : c.in-Ok.r ≡ rec_at f.order img c.loop-turn.at = there.header ∙ (λ i. rec_at (v.looked.form i).order (v.looked.image i) c.loop-turn.at) in
          let here : RoseUpTo (record_reads f img c.loop-turn.at) (g.S.Space.bytes_read c.loop-turn.s) (g.S.Space.bytes_read c.pass_record.new.s) =
          same_view (λ k i. RoseUpTo (record_reads k i c.loop-turn.at) (g.S.Space.bytes_read c.loop-turn.s) (g.S.Space.bytes_read c.pass_record.new.s)) f2 f img2 img (sym v.looked.form) (sym v.looked.image) (c.in-Ok.ensures.bytes_read told again) in
          let both = walk_read f (chain_number c.args.j) img (chain_head c.args.j) xs c.loop-turn.place c.loop-turn._turn c.loop-turn.at (g.S.Space.bytes_read c.loop-turn.s) (g.S.Space.bytes_read c.pass_record.new.s) (g.S.Space.bytes_read c.args.s.now + sum_by (record_reads f img) (chain_of f img c.args.j))
          (omega (arith, long, c.requires.heads)) w.so_far.walked w.count c.if-at-eq0.false (v.reads told long is) here.no_more in
          subst (λ n. g.S.Space.bytes_read c.pass_record.new.s + sum_by (record_reads f img) (offsets f.order img (length img / 4 - (c.loop-turn._turn + 1)) n) ≤ g.S.Space.bytes_read c.args.s.now + sum_by (record_reads f img) (chain_of f img c.args.j))
          (sym (ap (λ (x : Rec). x.next) header)) both.1);
      never_falls = λ told long. omega (arith, v.never_falls told long, (c.in-Ok.ensures.bytes_read told (ap length v.looked.image ∙ long)).never_falls);
      tails = search rules;
      turns = omega (arith, v.turns, c.used_count-live.ensures.at_most);
      count = omega (arith, v.count, c.used_count-live.ensures.at_most, longer);
      looked = search rules;
      faults = search rules;
    }

pub returns-clause-walked : goal.returns-clause-walked
returns-clause-walked g c told long is =
    let f = g.S.Space.form c.args.s.now in
    let img = g.S.Space.image c.args.s.now in
    let some : 0 < length img = omega (arith, long, c.requires.heads) in
    let turns : c.loop-turn._turn ≡ length img = omega (arith, long) in
    absurd (walking_never f c.args.j img c.loop-turn.notes c.args.extents.now.items c.loop-turn.extents.items c.loop-turn.live c.loop-turn._turn c.loop-turn.place c.loop-turn.at (c.loop-turn.invariant.going told long is) some turns)

pub returns-then-at-eq0-clause-bytes_read : goal.returns-then-at-eq0-clause-bytes_read
returns-then-at-eq0-clause-bytes_read g c told long is = let v = c.loop-turn.invariant in record { no_more = omega (arith, v.reads told long is); never_falls = v.never_falls told long }

pub returns-in-Some-clause-bytes_read : goal.returns-in-Some-clause-bytes_read
returns-in-Some-clause-bytes_read g c told long is = let v = c.loop-turn.invariant in record { no_more = omega (arith, v.reads told long is); never_falls = v.never_falls told long }

pub returns-clause-bytes_read : goal.returns-clause-bytes_read
returns-clause-bytes_read g c told long is = let v = c.loop-turn.invariant in record { no_more = omega (arith, v.reads told long is); never_falls = v.never_falls told long }

pub returns-in-Err-Corrupt-clause-bytes_read : goal.returns-in-Err-Corrupt-clause-bytes_read
returns-in-Err-Corrupt-clause-bytes_read g c told long is =
    let f = g.S.Space.form c.args.s.now in
    let img = g.S.Space.image c.args.s.now in
    let v = c.loop-turn.invariant in
    let w = v.going told long is in
    let here : RoseUpTo (record_reads f img c.loop-turn.at) (g.S.Space.bytes_read c.loop-turn.s) (g.S.Space.bytes_read c.pass_record.new.s) =
    same_view (λ k i. RoseUpTo (record_reads k i c.loop-turn.at) (g.S.Space.bytes_read c.loop-turn.s) (g.S.Space.bytes_read c.pass_record.new.s)) (g.S.Space.form c.loop-turn.s) f (g.S.Space.image c.loop-turn.s) img (sym v.looked.form) (sym v.looked.image)
    (c.in-Err-Corrupt.ensures.bytes_read told (ap length v.looked.image ∙ long)) in
    let both = walk_read f (chain_number c.args.j) img (chain_head c.args.j) w.so_far.xs c.loop-turn.place c.loop-turn._turn c.loop-turn.at (g.S.Space.bytes_read c.loop-turn.s) (g.S.Space.bytes_read c.pass_record.new.s) (g.S.Space.bytes_read c.args.s.now + sum_by (record_reads f img) (chain_of f img c.args.j))
    (omega (arith, long, c.requires.heads)) w.so_far.walked w.count c.if-at-eq0.false (v.reads told long is) here.no_more in
    record { no_more = both.0; never_falls = omega (arith, v.never_falls told long, here.never_falls) }

pub returns-in-Err-Io-clause-bytes_read : goal.returns-in-Err-Io-clause-bytes_read
returns-in-Err-Io-clause-bytes_read g c told long is =
    let f = g.S.Space.form c.args.s.now in
    let img = g.S.Space.image c.args.s.now in
    let v = c.loop-turn.invariant in
    let w = v.going told long is in
    let here : RoseUpTo (record_reads f img c.loop-turn.at) (g.S.Space.bytes_read c.loop-turn.s) (g.S.Space.bytes_read c.pass_record.new.s) =
    same_view (λ k i. RoseUpTo (record_reads k i c.loop-turn.at) (g.S.Space.bytes_read c.loop-turn.s) (g.S.Space.bytes_read c.pass_record.new.s)) (g.S.Space.form c.loop-turn.s) f (g.S.Space.image c.loop-turn.s) img (sym v.looked.form) (sym v.looked.image)
    (c.in-Err-Io.ensures.bytes_read told (ap length v.looked.image ∙ long)) in
    let both = walk_read f (chain_number c.args.j) img (chain_head c.args.j) w.so_far.xs c.loop-turn.place c.loop-turn._turn c.loop-turn.at (g.S.Space.bytes_read c.loop-turn.s) (g.S.Space.bytes_read c.pass_record.new.s) (g.S.Space.bytes_read c.args.s.now + sum_by (record_reads f img) (chain_of f img c.args.j))
    (omega (arith, long, c.requires.heads)) w.so_far.walked w.count c.if-at-eq0.false (v.reads told long is) here.no_more in
    record { no_more = both.0; never_falls = omega (arith, v.never_falls told long, here.never_falls) }

pub returns-in-Err-Memory-clause-bytes_read : goal.returns-in-Err-Memory-clause-bytes_read
returns-in-Err-Memory-clause-bytes_read g c told long is =
    let f = g.S.Space.form c.args.s.now in
    let img = g.S.Space.image c.args.s.now in
    let v = c.loop-turn.invariant in
    let w = v.going told long is in
    let here : RoseUpTo (record_reads f img c.loop-turn.at) (g.S.Space.bytes_read c.loop-turn.s) (g.S.Space.bytes_read c.pass_record.new.s) =
    same_view (λ k i. RoseUpTo (record_reads k i c.loop-turn.at) (g.S.Space.bytes_read c.loop-turn.s) (g.S.Space.bytes_read c.pass_record.new.s)) (g.S.Space.form c.loop-turn.s) f (g.S.Space.image c.loop-turn.s) img (sym v.looked.form) (sym v.looked.image)
    (c.in-Err-Memory.ensures.bytes_read told (ap length v.looked.image ∙ long)) in
    let both = walk_read f (chain_number c.args.j) img (chain_head c.args.j) w.so_far.xs c.loop-turn.place c.loop-turn._turn c.loop-turn.at (g.S.Space.bytes_read c.loop-turn.s) (g.S.Space.bytes_read c.pass_record.new.s) (g.S.Space.bytes_read c.args.s.now + sum_by (record_reads f img) (chain_of f img c.args.j))
    (omega (arith, long, c.requires.heads)) w.so_far.walked w.count c.if-at-eq0.false (v.reads told long is) here.no_more in
    record { no_more = both.0; never_falls = omega (arith, v.never_falls told long, here.never_falls) }

pub returns-in_err-put-clause-bytes_read : goal.returns-in_err-put-clause-bytes_read
returns-in_err-put-clause-bytes_read g c told long is =
    let f = g.S.Space.form c.args.s.now in
    let img = g.S.Space.image c.args.s.now in
    let v = c.loop-turn.invariant in
    let w = v.going told long is in
    let here : RoseUpTo (record_reads f img c.loop-turn.at) (g.S.Space.bytes_read c.loop-turn.s) (g.S.Space.bytes_read c.pass_record.new.s) =
    same_view (λ k i. RoseUpTo (record_reads k i c.loop-turn.at) (g.S.Space.bytes_read c.loop-turn.s) (g.S.Space.bytes_read c.pass_record.new.s)) (g.S.Space.form c.loop-turn.s) f (g.S.Space.image c.loop-turn.s) img (sym v.looked.form) (sym v.looked.image)
    (c.in-Ok.ensures.bytes_read told (ap length v.looked.image ∙ long)) in
    let both = walk_read f (chain_number c.args.j) img (chain_head c.args.j) w.so_far.xs c.loop-turn.place c.loop-turn._turn c.loop-turn.at (g.S.Space.bytes_read c.loop-turn.s) (g.S.Space.bytes_read c.pass_record.new.s) (g.S.Space.bytes_read c.args.s.now + sum_by (record_reads f img) (chain_of f img c.args.j))
    (omega (arith, long, c.requires.heads)) w.so_far.walked w.count c.if-at-eq0.false (v.reads told long is) here.no_more in
    record { no_more = both.0; never_falls = omega (arith, v.never_falls told long, here.never_falls) }
