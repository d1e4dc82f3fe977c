use Rattle.std.proofs.Common.{◌≡◌, [], List, ℕ, sym, subst}
use Rattle.tdb_dump.specs.Expected.{State, TakesByte, moved, taken_of}
use Rattle.tdb_dump.proofs.ExpectedLemmas.{empty_list}
use Rattle.tdb_dump.proofs.MoveLemmas.{takes_move}
use Rattle.tdb_dump.proofs.partial.Partial.take_byte.Goals as goal

pub returns-in_ok-taken-in-None-clause-ok : goal.returns-in_ok-taken-in-None-clause-ok
returns-in_ok-taken-in-None-clause-ok c =
    let s = c.args.self.now in
    let none : s.fixed.now ≡ [] = empty_list s.fixed.now c.in-None.ensures.cases in
    let at : List ℕ → State = λ fixed. record { fixed = fixed; step = s.step; field = s.field; key = s.key.items; value = s.value.items } in
    rw (c.in_ok-taken-in-None.ensures.state, c.in_ok-taken-in-None.ensures.taken)
    (subst (λ fixed. TakesByte (at fixed) c.args.byte (moved c.next_move.result (at fixed)) (taken_of c.next_move.result)) (sym none) (takes_move c.next_move.result s.step s.field s.key.items s.value.items c.args.byte c.next_move.ensures))
