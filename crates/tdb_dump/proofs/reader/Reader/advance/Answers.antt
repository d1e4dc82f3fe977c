use Rattle.std.proofs.Common.{◌≡◌, ◌∷◌, [], ◌++◌, refl, sym, ◌∙◌, subst, arith, take, drop, get_or, length-take}
use Rattle.std.proofs.lemmas.Result.{err_from_is_err_and}
use Rattle.tdb_dump.specs.declared.partial.Taken.TheVariants.{More, Ended, Refused}
use Rattle.tdb_dump.specs.declared.reader.Reader.{Reader}
use Rattle.tdb_dump.specs.Expected.{LeadsAll, Leads, Ends, Bars, TakesByte, IsSound}
use Rattle.tdb_dump.specs.Partial.{state_of}
use Rattle.tdb_dump.specs.Taken.{Goes, RefusedAt}
use Rattle.tdb_dump.proofs.ReadingLemmas.{IsSound_going}
use Rattle.tdb_dump.proofs.TakenLemmas.{Goes_same, Goes_leads, Goes_ends, Goes_repeats, Goes_barred, take_first, first_and_rest}
use Rattle.tdb_dump.proofs.reader.Reader.advance.Goals as goal

pub returns-then-run-gt0-clause-goes : goal.returns-then-run-gt0-clause-goes
returns-then-run-gt0-clause-goes c = λ text before goes.
    let run = take c.in_ok-run.run' c.args.piece.now in
    Goes_leads text before c.args.self.now _ goes run c.in_ok-run.ensures.leads refl refl (omega (arith, length-take c.in_ok-run.run' c.args.piece.now, c.saturating_add-self.ensures, c.in_ok-run.ensures.within))

pub returns-in-More-clause-goes : goal.returns-in-More-clause-goes
returns-in-More-clause-goes c = λ text before goes.
    let piece = c.args.piece.now in
    let byte = get_or piece 0 0 in
    let s = state_of c.args.self.now.partial in
    let middle = state_of c.take_run.new.self in
    let next = state_of c.take_byte.new.self in
    let none : c.in_ok-run.run' ≡ 0 = omega arith in
    let same : middle ≡ s = subst (λ n. LeadsAll s (take n piece) middle) none c.in_ok-run.ensures.leads in
    let takes : TakesByte middle byte next More = subst (TakesByte middle byte next) c.in-More.is c.in_ok-take_byte.ensures.ok in
    let leads : Leads s byte next = subst (λ t. Leads t byte next) same (takes (subst IsSound (sym same) (IsSound_going text before s goes.going))) in
    let new : Reader = record c.args.self.now { partial = c.take_byte.new.self; taken = c.saturating_add-self-in-More.result } in
    subst (λ xs. Goes (text ++ xs) (before ++ []) new) (sym (take_first piece c.requires))
    (Goes_leads text before c.args.self.now new goes (byte ∷ []) (next, leads, refl) refl refl (omega (arith, c.saturating_add-self-in-More.ensures)))

pub returns-in-Refused-clause-malformed : goal.returns-in-Refused-clause-malformed
returns-in-Refused-clause-malformed c = λ text before at goes e.
    let piece = c.args.piece.now in
    let byte = get_or piece 0 0 in
    let s = state_of c.args.self.now.partial in
    let middle = state_of c.take_run.new.self in
    let next = state_of c.take_byte.new.self in
    let none : c.in_ok-run.run' ≡ 0 = omega arith in
    let same : middle ≡ s = subst (λ n. LeadsAll s (take n piece) middle) none c.in_ok-run.ensures.leads in
    let takes : TakesByte middle byte next Refused = subst (TakesByte middle byte next) c.in-Refused.is c.in_ok-take_byte.ensures.ok in
    let place : c.args.self.now.taken ≡ at = cc in
    subst (RefusedAt (text ++ piece) before) place
    (subst (λ xs. RefusedAt (text ++ xs) before c.args.self.now.taken) (sym (first_and_rest piece c.requires))
    (Goes_barred text before c.args.self.now c.args.self.now goes byte (drop 1 piece) (subst (λ t. Bars t byte) same takes)))

pub returns-in_ok-pair-in-Ended-clause-goes : goal.returns-in_ok-pair-in-Ended-clause-goes
returns-in_ok-pair-in-Ended-clause-goes c = λ text before goes.
    let piece = c.args.piece.now in
    let byte = get_or piece 0 0 in
    let s = state_of c.args.self.now.partial in
    let middle = state_of c.take_run.new.self in
    let next = state_of c.take_byte.new.self in
    let none : c.in_ok-run.run' ≡ 0 = omega arith in
    let same : middle ≡ s = subst (λ n. LeadsAll s (take n piece) middle) none c.in_ok-run.ensures.leads in
    let takes : TakesByte middle byte next Ended = subst (TakesByte middle byte next) c.in-Ended.is c.in_ok-take_byte.ensures.ok in
    let old : Reader = record c.args.self.now { partial = c.take_byte.new.self } in
    subst (λ xs. Goes (text ++ xs) (before ++ c.in_ok-pair-in-Ended.pair ∷ []) c.end_record.new.self) (sym (take_first piece c.requires))
    (Goes_ends text before old c.end_record.new.self (Goes_same text before c.args.self.now c.take_byte.new.self (takes.1 ∙ same) goes) byte c.in_ok-pair-in-Ended.pair (subst (λ t. Ends t byte) (sym takes.1) takes.0) c.in_ok-pair-in-Ended.ensures.added)

pub returns-in_err-pair-in-Ended-clause-malformed : goal.returns-in_err-pair-in-Ended-clause-malformed
returns-in_err-pair-in-Ended-clause-malformed c = λ text before at goes e.
    let piece = c.args.piece.now in
    let byte = get_or piece 0 0 in
    let s = state_of c.args.self.now.partial in
    let middle = state_of c.take_run.new.self in
    let next = state_of c.take_byte.new.self in
    let none : c.in_ok-run.run' ≡ 0 = omega arith in
    let same : middle ≡ s = subst (λ n. LeadsAll s (take n piece) middle) none c.in_ok-run.ensures.leads in
    let takes : TakesByte middle byte next Ended = subst (TakesByte middle byte next) c.in-Ended.is c.in_ok-take_byte.ensures.ok in
    let old : Reader = record c.args.self.now { partial = c.take_byte.new.self } in
    let goes_there : Goes text before old = Goes_same text before c.args.self.now c.take_byte.new.self (takes.1 ∙ same) goes in
    let p = err_from_is_err_and c.from_residual-in_err-pair-in-Ended.result c.from_residual-in_err-pair-in-Ended.ensures.1 in
    let repeated = c.in_err-pair-in-Ended.ensures.repeated at before goes.keys (cc (p.1, p.2)) in
    subst (RefusedAt (text ++ piece) before) (sym repeated.1)
    (subst (λ xs. RefusedAt (text ++ xs) before c.args.self.now.start) (sym (first_and_rest piece c.requires))
    (Goes_repeats text before old old goes_there byte (drop 1 piece) (subst (λ t. Ends t byte) (sym takes.1) takes.0) repeated.0))

pub returns-in_err-run-clause-wanting : goal.returns-in_err-run-clause-wanting
returns-in_err-run-clause-wanting c = λ wanting text before goes. Goes_same text before c.args.self.now c.take_run.new.self c.in_err-run.ensures.err goes

pub returns-in_err-take_byte-clause-wanting : goal.returns-in_err-take_byte-clause-wanting
returns-in_err-take_byte-clause-wanting c = λ wanting text before goes.
    let piece = c.args.piece.now in
    let s = state_of c.args.self.now.partial in
    let middle = state_of c.take_run.new.self in
    let none : c.in_ok-run.run' ≡ 0 = omega arith in
    let same : middle ≡ s = subst (λ n. LeadsAll s (take n piece) middle) none c.in_ok-run.ensures.leads in
    Goes_same text before c.args.self.now c.take_byte.new.self (c.in_err-take_byte.ensures.err ∙ same) goes

pub returns-in_err-pair-in-Ended-clause-wanting : goal.returns-in_err-pair-in-Ended-clause-wanting
returns-in_err-pair-in-Ended-clause-wanting c = λ wanting text before goes.
    let piece = c.args.piece.now in
    let byte = get_or piece 0 0 in
    let s = state_of c.args.self.now.partial in
    let middle = state_of c.take_run.new.self in
    let next = state_of c.take_byte.new.self in
    let none : c.in_ok-run.run' ≡ 0 = omega arith in
    let same : middle ≡ s = subst (λ n. LeadsAll s (take n piece) middle) none c.in_ok-run.ensures.leads in
    let takes : TakesByte middle byte next Ended = subst (TakesByte middle byte next) c.in-Ended.is c.in_ok-take_byte.ensures.ok in
    let p = err_from_is_err_and c.from_residual-in_err-pair-in-Ended.result c.from_residual-in_err-pair-in-Ended.ensures.1 in
    c.in_err-pair-in-Ended.ensures.wanting (cc (p.1, p.2)) text before (Goes_same text before c.args.self.now c.take_byte.new.self (takes.1 ∙ same) goes)
