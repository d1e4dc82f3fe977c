-- Who may die in the world may die in each of its states.
use Rattle.std.proofs.Common.{◌≡◌, false, [], sym, ◌∙◌, ap, subst}
use Rattle.std.proofs.lemmas.Bool.Decides.{when_false, when_true}
use Rattle.tdb_commands.specs.InLaw.{law_opener}
use Rattle.tdb_openers.specs.Died.{CanDie as CanDieAmong, MayDieIn}
use Rattle.tdb_openers.specs.Worlds.{state_in}
use Rattle.tdb_world.specs.Died.CanDie.{dies_aside, dies_among}
use Rattle.tdb_world.specs.Whole.{is_starting, Whole}
use Rattle.tdb_world.proofs.Mortal.{among_may, among_may_not, aside_may, aside_may_not, start_may_not}
use Rattle.tdb_world.proofs.all_openers.AllOpeners.may_die.Goals as goal

pub returns-in-Some-clause-can : goal.returns-in-Some-clause-can
returns-in-Some-clause-can c = λ e. dies_aside c.in-Some.holder.now c.in-Some.ensures.some.0 c.in-Some.ensures.some.1 (when_true _ _ e c.may_die.ensures)

pub returns-in-Some-clause-may : goal.returns-in-Some-clause-may
returns-in-Some-clause-may c = λ e history state S.
    let F = c.requires.fits in
    let some = c.in-Some.ensures.some in
    aside_may c.args.self.now c.args.who F.0 F.1 F.2 history state S c.in-Some.holder.now some.0 some.1 (when_true _ _ e c.may_die.ensures)

pub returns-in-Some-clause-may_not : goal.returns-in-Some-clause-may_not
returns-in-Some-clause-may_not c = λ e history state S.
    let F = c.requires.fits in
    let some = c.in-Some.ensures.some in
    aside_may_not c.args.self.now c.args.who F.0 F.1 F.2 history state S c.in-Some.holder.now some.0 some.1 (when_false _ _ e c.may_die.ensures)

pub returns-else-not-is_starting-clause-may_not : goal.returns-else-not-is_starting-clause-may_not
returns-else-not-is_starting-clause-may_not c = λ e history state S.
    let F = c.requires.fits in
    start_may_not c.args.self.now c.args.who F.0 F.1 F.2 history state S (sym c.is_starting.ensures ∙ c.if-not-is_starting.false)

module _ (c : goal.After-may_die-then-not-is_starting) where
  abbrev w : Whole
  w = c.args.self.now

  those : c.self.inside.openers ≡ w.openers
  those = ap (λ (z : Whole). z.openers) c.self.view_is

  none : is_starting w.starts (law_opener c.args.who) ≡ false
  none = sym c.is_starting.ensures ∙ c.if-not-is_starting.true

pub returns-then-not-is_starting-clause-can : goal.returns-then-not-is_starting-clause-can
returns-then-not-is_starting-clause-can c = λ e.
    let X = c.may_die-then-not-is_starting.ensures.can e in
    dies_among X.0 (subst (λ z. CanDieAmong z c.args.who X.0) (those c) X.1) (none c) c.in-None.ensures.none

pub returns-then-not-is_starting-clause-may : goal.returns-then-not-is_starting-clause-may
returns-then-not-is_starting-clause-may c = λ e history state S.
    let F = c.requires.fits in
    among_may (w c) c.args.who F.0 F.1 F.2 history state S c.requires.named c.in-None.ensures.none (none c)
    (subst (λ z. MayDieIn (state_in z []) (law_opener c.args.who)) (those c) (c.may_die-then-not-is_starting.ensures.may e []))

pub returns-then-not-is_starting-clause-may_not : goal.returns-then-not-is_starting-clause-may_not
returns-then-not-is_starting-clause-may_not c = λ e history state S.
    let F = c.requires.fits in
    among_may_not (w c) c.args.who F.0 F.1 F.2 history state S c.requires.named c.in-None.ensures.none (none c)
    (subst (λ z. MayDieIn (state_in z []) (law_opener c.args.who) → ⊥) (those c) (c.may_die-then-not-is_starting.ensures.may_not e []))
