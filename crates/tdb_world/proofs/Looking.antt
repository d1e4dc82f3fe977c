-- Whose turns only look at the file isn't aside, and has no Start that its own state grants.
use Rattle.std.proofs.Common.{◌≡◌, ◌≤◌, ℕ, List, true, Option, Some, None, refl, sym, ◌∙◌, ap, subst, inl, inr, arith}
use Rattle.std.proofs.lemmas.Bool.{cases_Bool, cond-false, cond-true}
use Rattle.tdb_disk.specs.History.{History}
use Rattle.tdb_space.specs.Form.{Form}
use Rattle.tdb_locks.specs.declared.piece.Piece.{Piece}
use Rattle.tdb_law.specs.Commands.GroupCommand.{Start}
use Rattle.tdb_law.specs.Commands.Command.{OnGroup}
use Rattle.tdb_law.specs.Openers.{Own, Task}
use Rattle.tdb_law.specs.Refusals.{refusal}
use Rattle.tdb_law.specs.World.{State}
use Rattle.tdb_law.proofs.Walking.{put_here}
use Rattle.tdb_commands.specs.InLaw.{law_opener}
use Rattle.tdb_commands.specs.declared.options.Options.{Options}
use Rattle.tdb_law.specs.OneAside.Sides.{Past, Side}
use Rattle.tdb_law.specs.OneAside.Starts.{new_start}
use Rattle.tdb_txn_turns.specs.Starts.{start_steps}
use Rattle.tdb_txn_owner.specs.Ends.{task_of}
use Rattle.tdb_txn_owner.specs.Holders.{HolderState}
use Rattle.tdb_txn_owner.specs.Stages.{IsSide, Known}
use Rattle.tdb_txn_owner.specs.declared.stage.Stage.{Stage}
use Rattle.tdb_txn_owner.specs.declared.stage.Stage.TheVariants as At
use Rattle.tdb_openers.specs.Openers.{own_at}
use Rattle.tdb_openers.specs.Worlds.{state_in}
use Rattle.tdb_world.specs.Looks.{WritesNothing}
use Rattle.tdb_world.specs.Steps.{IsAmong}
use Rattle.tdb_world.specs.Syncs.{OnlyLooks}
use Rattle.tdb_world.specs.States.{state_with, IsStateOf, SideIs}
use Rattle.tdb_world.specs.States.IsStateOf.{of_stale, of_whole}
use Rattle.tdb_world.specs.Whole.{form_at, is_starting, options_at, Whole, WorldFits}
use Rattle.tdb_world.proofs.OwnStart.{granted}
use Rattle.tdb_world.proofs.Reopening.{HasTxn}
use Rattle.tdb_world.proofs.Standings.{own_in, start_in}
use Rattle.tdb_world.proofs.Stopping.{txn_at}

-- An opener has a Start that its own state grants.
record HasStart (f : Form) (state : State) (o : ℕ) : Type 0 where
  task : Task
  has : state.task o ≡ Some task
  starts : task.command ≡ OnGroup Start
  granted : refusal f (OnGroup Start) (state.own o) ≡ None

-- the opener aside has one where it has no transaction
module _ (f : Form) (o : Options) (owner : ℕ) (ps : List Piece) (k : Known) (past : Past) (s : Side) (out : s.own.txn ≡ None) where
  never : (stage : Stage) → HasTxn stage → IsSide f o owner ps stage k past s → ⊥
  never stage has S = let was = txn_at f o owner ps k past s stage has S in let none : Some was.0 ≡ None = sym was.1 ∙ out in cc none

  starts : (stage : Stage) → IsSide f o owner ps stage k past s → (t : Task) × (s.task ≡ Some t) × (t.command ≡ OnGroup Start) × (refusal f (OnGroup Start) s.own ≡ None)
  starts (At.Starting st) S = (task_of (OnGroup Start) (start_steps st), S.task, refl, S.own.granted)
  starts (At.Open txn command) S = absurd (never (At.Open txn command) tt S)
  starts (At.Committing c) S = absurd (never (At.Committing c) tt S)
  starts (At.Preparing p) S = absurd (never (At.Preparing p) tt S)
  starts (At.Prepared left command) S = absurd (never (At.Prepared left command) tt S)
  starts (At.Finishing c) S = absurd (never (At.Finishing c) tt S)

module _ (w : Whole) (h : History) where
  -- a Start that has had no turn is its opener's command
  pub looks_unstarted : (state : State) (o : ℕ) → is_starting w.starts o ≡ true → IsStateOf w h state → OnlyLooks (form_at w) state o → ⊥
  looks_unstarted state o begun S L = L.no_start new_start (start_in w o h state begun S) refl

  -- and its own state grants it
  pub writes_unstarted : (who : ℕ) (any : List ℕ) (size : ℕ) → 1 ≤ who → WorldFits w any size → IsAmong w who → is_starting w.starts (law_opener who) ≡ true
      → (state : State) → IsStateOf w h state → WritesNothing (form_at w) state (law_opener who) → ⊥
  writes_unstarted who any size named F among begun state S L =
      let own = own_in w who named among h state S ∙ ap (own_at (options_at w)) (F.starts (law_opener who) begun).there in
      L.no_start new_start (start_in w (law_opener who) h state begun S) refl
      (subst (λ z. refusal (form_at w) (OnGroup Start) z ≡ None) (sym own) (granted w (law_opener who) any size F begun))

  module _ (holder : HolderState) where
    abbrev o : ℕ
    o = law_opener holder.owner

    by_side : (aside : Option HolderState) (img : List ℕ) (past : Past) (side : Option Side) → SideIs w aside h img past side → aside ≡ Some holder → ((state_with w img past side).own o).txn ≡ None
        → HasStart (form_at w) (state_with w img past side) o
    by_side None img past side A e out = cc e
    by_side (Some g) img past None A e out = absurd A
    by_side (Some g) img past (Some s) A e out =
        let same : g ≡ holder = cc e in
        let here : o ≡ s.here = let is = ap (λ (x : HolderState). x.owner) same in let at = A.side.here in omega (arith, is, at) in
        let p = state_in w.openers img in
        let own = put_here p.own s.here s.own o here in
        let found = starts (form_at w) (options_at w) g.owner g.locks A.known past s (sym (ap (λ (x : Own). x.txn) own) ∙ out) g.stage A.side in
        let granted = subst (λ z. refusal (form_at w) (OnGroup Start) z ≡ None) (sym own) found.3 in
        elim (cases_Bool (is_starting w.starts o)) [
          | inl begun ↦ record { task = new_start; has = cond-true (is_starting w.starts o) (Some new_start) _ begun; starts = refl; granted = granted }
          | inr not_begun ↦ record { task = found.0; has = cond-false (is_starting w.starts o) (Some new_start) _ not_begun ∙ (put_here p.task s.here s.task o here ∙ found.1); starts = found.2; granted = granted }
        ]

    start_aside : (state : State) → w.aside ≡ Some holder → IsStateOf w h state → (state.own o).txn ≡ None → HasStart (form_at w) state o
    start_aside state aside (of_whole S) out =
        subst (λ z. HasStart (form_at w) z o) (sym S.is) (by_side w.aside S.image S.past S.side S.is_side aside (subst (λ (z : State). (z.own o).txn ≡ None) S.is out))
    start_aside state aside (of_stale S) out = let none : None ≡ Some holder = sym S.nobody ∙ aside in cc none

    pub looks_among : (state : State) → w.aside ≡ Some holder → IsStateOf w h state → OnlyLooks (form_at w) state o → ⊥
    looks_among state aside S L = let H = start_aside state aside S L.outside in L.no_start H.task H.has H.starts

    pub writes_among : (state : State) → w.aside ≡ Some holder → IsStateOf w h state → WritesNothing (form_at w) state o → ⊥
    writes_among state aside S L = let H = start_aside state aside S L.outside in L.no_start H.task H.has H.starts H.granted
