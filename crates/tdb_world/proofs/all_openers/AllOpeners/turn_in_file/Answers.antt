-- The turn is the opener's in the view of the file.
use Rattle.std.proofs.Common.{◌≡◌, ℕ, List, sym, ◌∙◌, ap, subst}
use Rattle.std.specs.Prelude.{Result, IfOk, IsTrue, OnErr}
use Rattle.tdb_disk.specs.History.{seen}
use Rattle.tdb_space.specs.DiskState.{DiskState}
use Rattle.tdb_space.specs.Form.{form_in}
use Rattle.tdb_locks.specs.declared.turn.Turn.{Turn}
use Rattle.tdb_law.specs.Turned.{Turned}
use Rattle.tdb_steps.specs.Memory.{StarvesOutside}
use Rattle.tdb_steps.specs.Room.{FullOutside}
use Rattle.tdb_commands.specs.InLaw.{law_opener, law_turn}
use Rattle.tdb_openers.specs.Laws.{other_hands}
use Rattle.tdb_openers.specs.Stopped.{JobStopped}
use Rattle.tdb_openers.specs.Worlds.{World, law_of_task, state_in, BytesStand, IsBusy}
use Rattle.tdb_openers.specs.declared.job.Task.{Task}
use Rattle.tdb_openers.specs.declared.opener.Opener.{Opener}
use Rattle.tdb_world.specs.Whole.{Whole}
use Rattle.tdb_world.proofs.all_openers.AllOpeners.turn_in_file.Goals as goal

abbrev Turns : {E : Type 0} → Result Turn E → Type 0 → World → List ℕ → ℕ → World → List ℕ → Type 0
Turns r tells z a who v b = IfOk r (λ turn. tells → BytesStand z a → (x : Opener) (t : Task) → IsBusy z who x t
    → Turned (form_in z.header) (state_in z a) (law_opener who) (law_of_task t) (law_turn turn) (state_in v b))

pub returns-clause-turned : goal.returns-clause-turned
returns-clause-turned g c =
    let is = ap (λ (z : Whole). z.openers) c.self.view_is in
    let under = c.turn.ensures.wrote.under in
    let kept : c.turn.new.s.disk.ghost_name ≡ c.new-view.result.disk.ghost_name = cc in
    let a = ap (λ d. seen (g.D.Disk.history d)) c.new-view.ensures.disk in
    let b = ap (λ d. seen (g.D.Disk.history d)) (sym (c.d-1.given.1 (sym c.new-view.ensures.same_reference ∙ sym kept))) in
    subst (λ z. Turns c.turn.result (IsTrue g.D.Disk.tells) z (seen (g.D.Disk.history c.args.d.now)) c.args.who c.turn.new.self (seen (g.D.Disk.history c.d-1.given.0))) is
    (subst (λ y. Turns c.turn.result (IsTrue g.D.Disk.tells) c.self.inside.openers y c.args.who c.turn.new.self (seen (g.D.Disk.history c.d-1.given.0))) a
    (subst (λ y. Turns c.turn.result (IsTrue g.D.Disk.tells) c.self.inside.openers (seen (g.D.Disk.history c.new-view.result.disk.now)) c.args.who c.turn.new.self y) b c.turn.ensures.turned))

abbrev Fulls : {E : Type 0} → Result Turn E → Type 0 → World → List ℕ → ℕ → Type 0
Fulls r tells z a who = IfOk r (λ turn. tells → BytesStand z a → (x : Opener) (t : Task) → IsBusy z who x t → FullOutside (form_in z.header) a z.options.limit (law_of_task t) (law_turn turn))

pub returns-clause-full : goal.returns-clause-full
returns-clause-full g c =
    let is = ap (λ (z : Whole). z.openers) c.self.view_is in
    let a = ap (λ d. seen (g.D.Disk.history d)) c.new-view.ensures.disk in
    subst (λ z. Fulls c.turn.result (IsTrue g.D.Disk.tells) z (seen (g.D.Disk.history c.args.d.now)) c.args.who) is
    (subst (λ y. Fulls c.turn.result (IsTrue g.D.Disk.tells) c.self.inside.openers y c.args.who) a c.turn.ensures.full)

-- where memory is wanting
abbrev Starving : {E : Type 0} → Result Turn E → World → ℕ → Type 0
Starving r z who = IfOk r (λ turn. (x : Opener) (t : Task) → IsBusy z who x t → StarvesOutside (form_in z.header) (law_of_task t) (law_turn turn))

pub returns-clause-starves : goal.returns-clause-starves
returns-clause-starves g c = subst (λ z. Starving c.turn.result z c.args.who) (ap (λ (z : Whole). z.openers) c.self.view_is) c.turn.ensures.starves

abbrev Stopped : {E : Type 0} → Result Turn E → Type 0 → World → List ℕ → List ℕ → ℕ → Type 0
Stopped r tells z a b who = OnErr r (tells → BytesStand z a → (x : Opener) (t : Task) → IsBusy z who x t → JobStopped (form_in z.header) a b x.walk.cursor t.job t.steps (other_hands z.openers (law_opener who)))

pub returns-clause-stopped : goal.returns-clause-stopped
returns-clause-stopped g c =
    let is = ap (λ (z : Whole). z.openers) c.self.view_is in
    let under = c.turn.ensures.wrote.under in
    let kept : c.turn.new.s.disk.ghost_name ≡ c.new-view.result.disk.ghost_name = cc in
    let a = ap (λ d. seen (g.D.Disk.history d)) c.new-view.ensures.disk in
    let b = ap (λ d. seen (g.D.Disk.history d)) (sym (c.d-1.given.1 (sym c.new-view.ensures.same_reference ∙ sym kept))) in
    subst (λ z. Stopped c.turn.result (IsTrue g.D.Disk.tells) z (seen (g.D.Disk.history c.args.d.now)) (seen (g.D.Disk.history c.d-1.given.0)) c.args.who) is
    (subst (λ y. Stopped c.turn.result (IsTrue g.D.Disk.tells) c.self.inside.openers y (seen (g.D.Disk.history c.d-1.given.0)) c.args.who) a
    (subst (λ y. Stopped c.turn.result (IsTrue g.D.Disk.tells) c.self.inside.openers (seen (g.D.Disk.history c.new-view.result.disk.now)) y c.args.who) b c.turn.ensures.stopped))

pub returns-clause-moves : goal.returns-clause-moves
returns-clause-moves g c x t B moves =
    let is = ap (λ (z : Whole). z.openers) c.self.view_is in
    let under = c.turn.ensures.wrote.under in
    let kept : c.turn.new.s.disk.ghost_name ≡ c.new-view.result.disk.ghost_name = cc in
    let looked = c.turn.ensures.moves x t (subst (λ z. IsBusy z c.args.who x t) (sym is) B) moves in
    ap g.D.Disk.history (c.d-1.given.1 (sym c.new-view.ensures.same_reference ∙ sym kept)) ∙ (ap (λ (z : DiskState). z.history) looked.disk ∙ ap g.D.Disk.history c.new-view.ensures.disk)
