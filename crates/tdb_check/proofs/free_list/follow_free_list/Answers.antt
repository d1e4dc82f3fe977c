-- Each way out of the walk, from what was followed so far.
use Rattle.std.proofs.Common.{◌≡◌, ◌+◌, ◌-◌, ◌<◌, ◌≤◌, [], not, false, Some, length, take, drop, sym, ◌∙◌, ap, subst, arith, rules}
use Rattle.std.specs.Prelude.{◌/◌, sum_by}
use Rattle.tdb_disk.specs.Count.{RoseUpTo}
use Rattle.tdb_words.specs.declared.record.Rec.{Rec}
use Rattle.tdb_words.specs.Word.{word}
use Rattle.tdb_words.specs.Record.{rec_at}
use Rattle.tdb_words.proofs.Words.{word_of_part}
use Rattle.tdb_space.specs.Form.{free_head}
use Rattle.tdb_space.specs.Chain.{offsets, free_of}
use Rattle.tdb_space.specs.FirstFault.{free_list, FirstInList, is_out}
use Rattle.tdb_check.specs.Area.{is_out_at}
use Rattle.tdb_check.specs.Trail.{met}
use Rattle.tdb_check.specs.Seen.{own_fault}
use Rattle.tdb_check.proofs.Areas.{out_is, not_true}
use Rattle.tdb_check.proofs.Following.{following_start, following_own, following_never, free_more, names_then}
use Rattle.tdb_check.specs.Reads.{record_reads}
use Rattle.tdb_check.proofs.Quarters.{passed_walked}
use Rattle.tdb_check.proofs.Still.{still_then}
use Rattle.tdb_check.proofs.Walking.{walk_start, walk_read}
use Rattle.tdb_check.proofs.free_list.follow_free_list.Goals as goal

pub loop-turn-init : goal.loop-turn-init
loop-turn-init g c = record {
  followed = λ told long.
      (let f = g.S.Space.form c.args.s.now in
      let img = g.S.Space.image c.args.s.now in
      let order : c.order.result ≡ f.order = c.order.ensures ∙ ap (λ x. x.order) c.read.ensures.form in
      let bytes : c.read.new.buf ≡ take 4 (drop 168 img) = c.in_ok-read.ensures.bytes told in
      let is : c.word_at-at.result ≡ word f.order img 168 = c.word_at-at.ensures ∙ (λ j. word (order j) (bytes j) 0) ∙ word_of_part f.order img 168 4 0 (omega arith) in
      following_start f free_list img free_head c.word_at-at.result (met c.new-met.result) c.args.extents.now.items (sym is) c.new-met.ensures);
  reads = λ told long.
      (let f = g.S.Space.form c.args.s.now in
      let img = g.S.Space.image c.args.s.now in
      let order : c.order.result ≡ f.order = c.order.ensures ∙ ap (λ x. x.order) c.read.ensures.form in
      let bytes : c.read.new.buf ≡ take 4 (drop 168 img) = c.in_ok-read.ensures.bytes told in
      let is : c.word_at-at.result ≡ word f.order img 168 = c.word_at-at.ensures ∙ (λ j. word (order j) (bytes j) 0) ∙ word_of_part f.order img 168 4 0 (omega arith) in
      omega (arith, walk_start f img (length img / 4) (word f.order img free_head) c.word_at-at.result (g.S.Space.bytes_read c.read.new.self) (sym is), c.read.ensures.bytes_read.no_more));
  never_falls = λ told long. c.read.ensures.bytes_read.never_falls;
  looked = search rules;
  faults = search rules;
}

pub returns-in-Err-clause-bad : goal.returns-in-Err-clause-bad
returns-in-Err-clause-bad g c told long =
    let f = g.S.Space.form c.args.s.now in
    let img = g.S.Space.image c.args.s.now in
    let v = c.loop-turn.invariant in
    let noted = met c.loop-turn.met in
    let old = c.args.extents.now.items in
    let h = v.followed told long in
    let chains : c.hash_size.result ≡ f.chains = c.hash_size.ensures ∙ ap (λ x. x.chains) v.looked.form in
    let test = c.can_stand.ensures ∙ ap (λ n. not (is_out_at n c.args.len c.loop-turn.at)) chains in
    let stands : is_out f img c.loop-turn.at ≡ false = out_is f img c.loop-turn.at c.args.len long ∙ not_true (is_out_at f.chains c.args.len c.loop-turn.at) (sym test ∙ c.if-not-can_stand.false) in
    let again : length (g.S.Space.image c.loop-turn.s) ≡ c.args.len = ap length v.looked.image ∙ long in
    names_then c.in-Err.e (λ fault. own_fault (g.S.Space.form c.loop-turn.s) free_list (g.S.Space.image c.loop-turn.s) c.loop-turn.at ≡ Some fault) (FirstInList f free_list img free_head)
    (λ fault own. following_own f free_list img free_head noted old c.loop-turn.extents.items c.loop-turn._turn c.loop-turn.place c.loop-turn.at h fault c.if-at-eq0.false stands (sym c.contains.ensures ∙ c.if-contains.false)
    ((λ j. own_fault (sym v.looked.form j) free_list (sym v.looked.image j) c.loop-turn.at) ∙ own))
    (c.in-Err.ensures.bad told again)

pub loop-turn-preserved : goal.loop-turn-preserved
loop-turn-preserved g c =
    let f = g.S.Space.form c.args.s.now in
    let img = g.S.Space.image c.args.s.now in
    let v = c.loop-turn.invariant in
    record {
      followed = λ told long.
          (let chains : c.hash_size.result ≡ f.chains = c.hash_size.ensures ∙ ap (λ x. x.chains) v.looked.form in
          let test = c.can_stand.ensures ∙ ap (λ n. not (is_out_at n c.args.len c.loop-turn.at)) chains in
          let stands : is_out f img c.loop-turn.at ≡ false = out_is f img c.loop-turn.at c.args.len long ∙ not_true (is_out_at f.chains c.args.len c.loop-turn.at) (sym test ∙ c.if-not-can_stand.false) in
          let again : length (g.S.Space.image c.loop-turn.s) ≡ c.args.len = ap length v.looked.image ∙ long in
          let good = c.in-Ok.ensures.good told again in
          free_more f img free_head (met c.loop-turn.met) (met c.note.new.self) c.args.extents.now.items c.loop-turn.extents.items c.put.new.extents.items c.loop-turn._turn c.loop-turn.place c.loop-turn.at c.in-Ok.found.header
          (v.followed told long) c.if-at-eq0.false stands (sym c.contains.ensures ∙ c.if-contains.false)
          ((λ j. own_fault (sym v.looked.form j) free_list (sym v.looked.image j) c.loop-turn.at) ∙ good.0)
          (good.1.header ∙ (λ j. rec_at (v.looked.form j).order (v.looked.image j) c.loop-turn.at))
          c.in_ok-note.ensures c.in_ok-put.ensures.ok);
      reads = λ told long.
          (let h = v.followed told long in
          let here : RoseUpTo (record_reads f img c.loop-turn.at) (g.S.Space.bytes_read c.loop-turn.s) (g.S.Space.bytes_read c.read_record.new.s) =
          still_then (λ k i. RoseUpTo (record_reads k i c.loop-turn.at) (g.S.Space.bytes_read c.loop-turn.s) (g.S.Space.bytes_read c.read_record.new.s)) v.looked.form v.looked.image
          (c.in-Ok.ensures.bytes_read told (ap length v.looked.image ∙ long)) in
          let both = walk_read f free_list img free_head h.xs c.loop-turn.place c.loop-turn._turn c.loop-turn.at (g.S.Space.bytes_read c.loop-turn.s) (g.S.Space.bytes_read c.read_record.new.s) (g.S.Space.bytes_read c.args.s.now + (4 + sum_by (record_reads f img) (free_of f img)))
          (omega (arith, long, c.requires.heads)) (passed_walked f free_list img [] free_head h.xs c.loop-turn.place h.passed) h.count c.if-at-eq0.false (v.reads told long) here.no_more in
          let header : c.in-Ok.found.header ≡ rec_at f.order img c.loop-turn.at = (c.in-Ok.ensures.good told (ap length v.looked.image ∙ long)).1.header ∙ (λ j. rec_at (v.looked.form j).order (v.looked.image j) c.loop-turn.at) in
          subst (λ n. g.S.Space.bytes_read c.read_record.new.s + sum_by (record_reads f img) (offsets f.order img (length img / 4 - (c.loop-turn._turn + 1)) n) ≤ g.S.Space.bytes_read c.args.s.now + (4 + sum_by (record_reads f img) (free_of f img)))
          (sym (ap (λ (x : Rec). x.next) header)) both.1);
      never_falls = λ told long. omega (arith, v.never_falls told long, (c.in-Ok.ensures.bytes_read told (ap length v.looked.image ∙ long)).never_falls);
      looked = search rules;
      faults = search rules;
    }

pub returns-clause-bad : goal.returns-clause-bad
returns-clause-bad g c told long =
    let f = g.S.Space.form c.args.s.now in
    let img = g.S.Space.image c.args.s.now in
    let v = c.loop-turn.invariant in
    let noted = met c.loop-turn.met in
    let old = c.args.extents.now.items in
    let h = v.followed told long in
    let some : 0 < length img = omega (arith, long, c.requires.heads) in
    let turns : c.loop-turn._turn ≡ length img = omega (arith, long) in
    absurd (following_never f free_list img free_head noted old c.loop-turn.extents.items c.loop-turn._turn c.loop-turn.place c.loop-turn.at h some turns)

pub returns-then-at-eq0-clause-bytes_read : goal.returns-then-at-eq0-clause-bytes_read
returns-then-at-eq0-clause-bytes_read g c told long = let v = c.loop-turn.invariant in record { no_more = omega (arith, v.reads told long); never_falls = v.never_falls told long }

pub returns-then-not-can_stand-clause-bytes_read : goal.returns-then-not-can_stand-clause-bytes_read
returns-then-not-can_stand-clause-bytes_read g c told long = let v = c.loop-turn.invariant in record { no_more = omega (arith, v.reads told long); never_falls = v.never_falls told long }

pub returns-then-contains-clause-bytes_read : goal.returns-then-contains-clause-bytes_read
returns-then-contains-clause-bytes_read g c told long = let v = c.loop-turn.invariant in record { no_more = omega (arith, v.reads told long); never_falls = v.never_falls told long }

pub returns-clause-bytes_read : goal.returns-clause-bytes_read
returns-clause-bytes_read g c told long = let v = c.loop-turn.invariant in record { no_more = omega (arith, v.reads told long); never_falls = v.never_falls told long }

pub returns-in-Err-clause-bytes_read : goal.returns-in-Err-clause-bytes_read
returns-in-Err-clause-bytes_read g c told long =
    let f = g.S.Space.form c.args.s.now in
    let img = g.S.Space.image c.args.s.now in
    let v = c.loop-turn.invariant in
    let h = v.followed told long in
    let here : RoseUpTo (record_reads f img c.loop-turn.at) (g.S.Space.bytes_read c.loop-turn.s) (g.S.Space.bytes_read c.read_record.new.s) =
    still_then (λ k i. RoseUpTo (record_reads k i c.loop-turn.at) (g.S.Space.bytes_read c.loop-turn.s) (g.S.Space.bytes_read c.read_record.new.s)) v.looked.form v.looked.image
    (c.in-Err.ensures.bytes_read told (ap length v.looked.image ∙ long)) in
    let both = walk_read f free_list img free_head h.xs c.loop-turn.place c.loop-turn._turn c.loop-turn.at (g.S.Space.bytes_read c.loop-turn.s) (g.S.Space.bytes_read c.read_record.new.s) (g.S.Space.bytes_read c.args.s.now + (4 + sum_by (record_reads f img) (free_of f img)))
    (omega (arith, long, c.requires.heads)) (passed_walked f free_list img [] free_head h.xs c.loop-turn.place h.passed) h.count c.if-at-eq0.false (v.reads told long) here.no_more in
    record { no_more = both.0; never_falls = omega (arith, v.never_falls told long, here.never_falls) }

pub returns-in_err-note-clause-bytes_read : goal.returns-in_err-note-clause-bytes_read
returns-in_err-note-clause-bytes_read g c told long =
    let f = g.S.Space.form c.args.s.now in
    let img = g.S.Space.image c.args.s.now in
    let v = c.loop-turn.invariant in
    let h = v.followed told long in
    let here : RoseUpTo (record_reads f img c.loop-turn.at) (g.S.Space.bytes_read c.loop-turn.s) (g.S.Space.bytes_read c.read_record.new.s) =
    still_then (λ k i. RoseUpTo (record_reads k i c.loop-turn.at) (g.S.Space.bytes_read c.loop-turn.s) (g.S.Space.bytes_read c.read_record.new.s)) v.looked.form v.looked.image
    (c.in-Ok.ensures.bytes_read told (ap length v.looked.image ∙ long)) in
    let both = walk_read f free_list img free_head h.xs c.loop-turn.place c.loop-turn._turn c.loop-turn.at (g.S.Space.bytes_read c.loop-turn.s) (g.S.Space.bytes_read c.read_record.new.s) (g.S.Space.bytes_read c.args.s.now + (4 + sum_by (record_reads f img) (free_of f img)))
    (omega (arith, long, c.requires.heads)) (passed_walked f free_list img [] free_head h.xs c.loop-turn.place h.passed) h.count c.if-at-eq0.false (v.reads told long) here.no_more in
    record { no_more = both.0; never_falls = omega (arith, v.never_falls told long, here.never_falls) }

pub returns-in_err-put-clause-bytes_read : goal.returns-in_err-put-clause-bytes_read
returns-in_err-put-clause-bytes_read g c told long =
    let f = g.S.Space.form c.args.s.now in
    let img = g.S.Space.image c.args.s.now in
    let v = c.loop-turn.invariant in
    let h = v.followed told long in
    let here : RoseUpTo (record_reads f img c.loop-turn.at) (g.S.Space.bytes_read c.loop-turn.s) (g.S.Space.bytes_read c.read_record.new.s) =
    still_then (λ k i. RoseUpTo (record_reads k i c.loop-turn.at) (g.S.Space.bytes_read c.loop-turn.s) (g.S.Space.bytes_read c.read_record.new.s)) v.looked.form v.looked.image
    (c.in-Ok.ensures.bytes_read told (ap length v.looked.image ∙ long)) in
    let both = walk_read f free_list img free_head h.xs c.loop-turn.place c.loop-turn._turn c.loop-turn.at (g.S.Space.bytes_read c.loop-turn.s) (g.S.Space.bytes_read c.read_record.new.s) (g.S.Space.bytes_read c.args.s.now + (4 + sum_by (record_reads f img) (free_of f img)))
    (omega (arith, long, c.requires.heads)) (passed_walked f free_list img [] free_head h.xs c.loop-turn.place h.passed) h.count c.if-at-eq0.false (v.reads told long) here.no_more in
    record { no_more = both.0; never_falls = omega (arith, v.never_falls told long, here.never_falls) }
