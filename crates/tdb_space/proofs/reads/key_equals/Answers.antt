-- One piece more, and a piece that differs.
use Rattle.std.proofs.Common.{◌≡◌, ◌+◌, ◌-◌, ◌≤◌, length, take, drop, sym, subst, arith, rules}
use Rattle.std.proofs.lemmas.Bool.{MatchBool-at_true, MatchBool-at_false}
use Rattle.tdb_space.proofs.Record.Pieces.{part_joined, part_of}
use Rattle.tdb_space.proofs.reads.key_equals.Goals as goal

pub returns-then-not-branch-clause-equal : goal.returns-then-not-branch-clause-equal
returns-then-not-branch-clause-equal g c told whole =
    let img = g.S.Space.image c.args.s.now in
    let differs = MatchBool-at_false _ _ c.if-not-branch.true (c.in_ok-piece_equals.ensures.equal told) in
    let within : c.loop-done.done + c.min-count.result ≤ length c.args.key.now = omega (arith, c.min-count.ensures) in
    differs (subst (λ i. take (length (take ((c.loop-done.done + c.min-count.result) - c.loop-done.done) (drop c.loop-done.done c.args.key.now))) (drop (c.args.off + c.loop-done.done) i)
    ≡ take ((c.loop-done.done + c.min-count.result) - c.loop-done.done) (drop c.loop-done.done c.args.key.now)) (sym c.loop-done.invariant.looked.image)
    (part_of img c.args.key.now c.args.off c.loop-done.done c.min-count.result within whole))

pub loop-done-preserved : goal.loop-done-preserved
loop-done-preserved g c =
    let img = g.S.Space.image c.args.s.now in
    let within : c.loop-done.done + c.min-count.result ≤ length c.args.key.now = omega (arith, c.min-count.ensures) in
    record {
      within = within;
      same = λ told.
          (let equal = MatchBool-at_true _ _ c.if-not-branch.false (c.in_ok-piece_equals.ensures.equal told) in
          part_joined img c.args.key.now c.args.off c.loop-done.done c.min-count.result within (c.loop-done.invariant.same told)
          (subst (λ i. take (length (take ((c.loop-done.done + c.min-count.result) - c.loop-done.done) (drop c.loop-done.done c.args.key.now))) (drop (c.args.off + c.loop-done.done) i)
          ≡ take ((c.loop-done.done + c.min-count.result) - c.loop-done.done) (drop c.loop-done.done c.args.key.now)) c.loop-done.invariant.looked.image equal));
      looked = search rules;
      faults = search rules;
      bytes_read = search rules;
    }
