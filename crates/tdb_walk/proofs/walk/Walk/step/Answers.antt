-- What is kept of the reply leaves the cursor where its step has brought it.
use Rattle.std.proofs.Common.{◌≡◌, sym, ◌∙◌, ap, subst}
use Rattle.tdb_walk.specs.Cursors.{At, StepMade}
use Rattle.tdb_walk.specs.declared.walk.Walk.{Walk}
use Rattle.tdb_walk.proofs.walk.Walk.step.Goals.{in-Done, in_default}
use Rattle.tdb_space.proofs.Results.{on_err}
use Rattle.tdb_walk.proofs.walk.Walk.step.Goals as goal

pub returns-clause-made : goal.returns-clause-made
returns-clause-made g c told small hands A knows =
    let made = c.in_ok-turn.ensures.made told small hands A knows in
    let at : (later : At) → later ≡ c.step.new.self → StepMade (g.S.Space.form c.args.s.now) (g.S.Space.image c.args.s.now) (g.S.Space.image c.step.new.s) hands c.args.self.now.cursor later c.in_ok-turn.turn =
    λ later same. subst (λ z. StepMade (g.S.Space.form c.args.s.now) (g.S.Space.image c.args.s.now) (g.S.Space.image c.step.new.s) hands c.args.self.now.cursor z c.in_ok-turn.turn) (sym same) made in
    elim c.match-turn.branch [
      | in-Done w ↦ at _ (ap (λ (v : Walk). v.cursor) w.self-is ∙ w.keep.ensures.cursor)
      | in_default w ↦ at _ (ap (λ (v : Walk). v.cursor) w.self-is)
    ]

-- the step failed
pub returns-in_err-turn-clause-stopped : goal.returns-in_err-turn-clause-stopped
returns-in_err-turn-clause-stopped g c = on_err c.from_residual.result c.in_err-turn.ensures.stopped
