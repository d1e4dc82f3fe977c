-- One byte more, which becomes another or stays.
use Rattle.std.proofs.Common.{◌≡◌, true, ◌+◌, ◌-◌, ◌≤◌, ℕ, length, take, drop, sym, subst, ◌∙◌, ap, arith, rules}
use Rattle.std.specs.Prelude.{slice_index}
use Rattle.tdb_disk.specs.History.{seen}
use Rattle.tdb_undo.proofs.Blocks.{start_torn, write_torn}
use Rattle.tdb_undo.specs.Front.{differs}
use Rattle.tdb_disk.specs.Stop.{LeavesOnly}
use Rattle.std.proofs.lemmas.List.{length-take, length-drop, get_or-take, get_or-drop}
use Rattle.tdb_undo.specs.Torn.{TornIn, Put}
use Rattle.tdb_undo.proofs.Fronts.{below, front_none, front_stays, front_written, front_all}
use Rattle.tdb_undo.proofs.front.write_front.Goals as goal
use Rattle.tdb_undo.proofs.front.write_front.Goals.{then-becomes_another+in_ok-write, else-becomes_another}

pub loop-i-init : goal.loop-i-init
loop-i-init g c = record {
  stops = λ told. start_torn (g.D.Disk.history c.args.d.now) (differs c.args.before.now c.args.after.now);
  put = λ told. front_none c.args.before.now c.args.after.now (seen (g.D.Disk.history c.args.d.now));
  size = search rules;
  faults = search rules;
  syncs = search rules;
  bytes_read = search rules;
}

pub returns-in_err-write-clause-stops : goal.returns-in_err-write-clause-stops
returns-in_err-write-clause-stops g c told =
    let i = c.loop-i.i in
    let after = c.args.after.now in
    let n : ℕ = length (take (i + 1 - i) (drop i after)) in
    let one : n ≤ 1 = omega (arith, length-take (i + 1 - i) (drop i after)) in
    let other : differs c.args.before.now after i ≡ true = sym c.becomes_another.ensures ∙ c.if-becomes_another.true in
    write_torn _ (g.D.Disk.history c.loop-i.d) _ (differs c.args.before.now after) i n
    (λ k low high. (let e : k ≡ i = omega (arith, low, high, one) in subst (λ j. differs c.args.before.now after j ≡ true) (sym e) other))
    (c.loop-i.invariant.stops told) c.write.ensures.tried

pub loop-i-preserved : goal.loop-i-preserved
loop-i-preserved g c =
    let i = c.loop-i.i in
    let before = c.args.before.now in
    let after = c.args.after.now in
    let first = seen (g.D.Disk.history c.args.d.now) in
    let n : ℕ = length (take (i + 1 - i) (drop i after)) in
    let one : n ≤ 1 = omega (arith, length-take (i + 1 - i) (drop i after)) in
    let v = c.loop-i.invariant in
    record {
      stops = λ told. elim c.if-becomes_another.branch [
        | then-becomes_another+in_ok-write w ↦ (
            let other : differs before after i ≡ true = sym c.becomes_another.ensures ∙ w.if-becomes_another.true in
            subst (λ d. LeavesOnly (g.D.Disk.history c.args.d.now) (g.D.Disk.history d) (TornIn (differs before after) (g.D.Disk.history c.args.d.now))) (sym w.d-is)
            (write_torn _ (g.D.Disk.history c.loop-i.d) _ (differs before after) i n
            (λ k low high. (let e : k ≡ i = omega (arith, low, high, one) in subst (λ j. differs before after j ≡ true) (sym e) other))
            (v.stops told) w.write.ensures.tried))
        | else-becomes_another w ↦ subst (λ d. LeavesOnly (g.D.Disk.history c.args.d.now) (g.D.Disk.history d) (TornIn (differs before after) (g.D.Disk.history c.args.d.now))) (sym w.d-is) (v.stops told)
      ];
      put = λ told. elim c.if-becomes_another.branch [
        | then-becomes_another+in_ok-write w ↦ (
            let other : differs before after i ≡ true = sym c.becomes_another.ensures ∙ w.if-becomes_another.true in
            let long = g.met.D.Disk.told_size c.args.d.now told in
            let exact : n ≡ 1 = omega (arith, length-take (i + 1 - i) (drop i after), length-drop i after, c.loop-i-test.true) in
            subst (Put (below before after (i + 1)) (slice_index after) first) (sym (ap (λ d. seen (g.D.Disk.history d)) w.d-is ∙ ap seen (w.in_ok-write.ensures.done told)))
            (front_written before after first (seen (g.D.Disk.history c.loop-i.d)) (take (i + 1 - i) (drop i after)) i other (omega (arith, long, c.requires, c.loop-i-test.true)) exact
            (get_or-take (i + 1 - i) (drop i after) 0 0 (omega arith) ∙ get_or-drop i after 0 0 ∙ ap (slice_index after) (let e : i + 0 ≡ i = omega arith in e)) (v.put told)))
        | else-becomes_another w ↦ (
            subst (λ d. Put (below before after (i + 1)) (slice_index after) first (seen (g.D.Disk.history d))) (sym w.d-is)
            (front_stays before after first (seen (g.D.Disk.history c.loop-i.d)) i (sym c.becomes_another.ensures ∙ w.if-becomes_another.false) (v.put told)))
      ];
      size = search rules;
      faults = search rules;
      syncs = search rules;
      bytes_read = search rules;
    }

pub returns-clause-put : goal.returns-clause-put
returns-clause-put g c told = front_all c.args.before.now c.args.after.now (seen (g.D.Disk.history c.args.d.now)) (seen (g.D.Disk.history c.loop-i.d)) c.loop-i.i (omega arith) (c.loop-i.invariant.put told)
