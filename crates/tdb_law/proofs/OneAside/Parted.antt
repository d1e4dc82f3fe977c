-- Turns of an opener that is shut out, in parts: what the file adds to cursors is no matter then, and what changes of
-- the opener changes beside the one that is aside.
use Rattle.std.proofs.Common.{◌≡◌, ◌≢◌, ℕ, Bool, true, cond, ◌==◌, None, sym, ◌∙◌, ap, subst, inl, inr}
use Rattle.std.specs.Prelude.{if◌then◌else◌}
use Rattle.std.proofs.lemmas.Bool.{cases_eq}
use Rattle.tdb_space.specs.Form.{Form}
use Rattle.tdb_law.specs.Commands.{WalkCommand, Turn}
use Rattle.tdb_law.specs.Commands.Reply.{Done}
use Rattle.tdb_law.specs.Openers.{Mark, Task, View}
use Rattle.tdb_law.specs.Outcomes.{own_walked}
use Rattle.tdb_law.specs.Counting.{settled_after}
use Rattle.tdb_law.specs.World.{State}
use Rattle.tdb_law.specs.Turned.{Turned}
use Rattle.tdb_law.proofs.Walking.{put_here, put_else}
use Rattle.tdb_law.specs.OneAside.Sides.{Past, Side, but_at, heads_ahead, beside}
use Rattle.tdb_law.specs.OneAside.Turns.{past_after, without_task, held_after, without_cursor}

-- two openers get another value in either order
pub two_put : {A : Type 0} (here who : ℕ) (a b : A) (g : ℕ → A) → who ≢ here → but_at here a (but_at who b g) ≡ but_at who b (but_at here a g)
two_put here who a b g ne = λ i o. at o i
  where
    at : (o : ℕ) → but_at here a (but_at who b g) o ≡ but_at who b (but_at here a g) o
    at o = elim (cases_eq o here) [
      | inl is ↦ put_here (but_at who b g) here a o is ∙ sym (put_else (but_at here a g) who b o (λ e. ne (sym e ∙ is)) ∙ put_here g here a o is)
      | inr other ↦ put_else (but_at who b g) here a o other ∙ ap (cond (o == who) b) (sym (put_else g here a o other))
    ]

-- and one that gets the value that it has keeps it
pub put_back : {A : Type 0} (who : ℕ) (b : A) (g : ℕ → A) → g who ≡ b → but_at who b g ≡ g
put_back who b g same = λ i o. at o i
  where
    at : (o : ℕ) → but_at who b g o ≡ g o
    at o = elim (cases_eq o who) [
      | inl is ↦ put_here g who b o is ∙ sym (ap g is ∙ same)
      | inr other ↦ put_else g who b o other
    ]

module _ (past : Past) (s : Side) (shut : s.shuts ≡ true) where
  -- the whole state, where plain states are the same but for what the file adds to cursors
  pub beside_same : (a b : State) → record a { view = b.view } ≡ b → beside a past s ≡ beside b past s
  beside_same a b same = ap (λ v. record (beside a past s) { view = but_at s.here s.view v }) unseen ∙ ap (λ w. beside w past s) same
    where
      seen : Bool → (ℕ → Mark) → (ℕ → View) → ℕ → View
      seen z marks views = if z then (λ o. heads_ahead s.heads (marks o)) else views

      unseen : seen s.shuts a.mark a.view ≡ seen s.shuts (record a { view = b.view }).mark b.view
      unseen = ap (λ z. seen z a.mark a.view) shut ∙ sym (ap (λ z. seen z a.mark b.view) shut)

  module _ (p : State) (who : ℕ) (ne : who ≢ s.here) where
    its_own : (beside p past s).own who ≡ p.own who
    its_own = put_else p.own s.here s.own who ne

    -- where the opener's command ends
    pub beside_ended : beside (without_task p who) past s ≡ without_task (beside p past s) who
    beside_ended = λ i. record (beside p past s) { task = two_put s.here who s.task None p.task ne i }

    -- and its cursor too
    pub beside_left : (c : WalkCommand) → beside (without_cursor c p who) past s ≡ without_cursor c (beside p past s) who
    beside_left c = ends ∙ (λ i. record (without_task (beside p past s) who) { own = owns i; table = tables i })
      where
        ends : beside (without_cursor c p who) past s ≡ record (without_task (beside p past s) who) { own = (beside (without_cursor c p who) past s).own; table = (beside (without_cursor c p who) past s).table }
        ends = ap (λ (w : State). record w { own = (beside (without_cursor c p who) past s).own; table = (beside (without_cursor c p who) past s).table }) beside_ended

        owns : (beside (without_cursor c p who) past s).own ≡ (without_cursor c (beside p past s) who).own
        owns = two_put s.here who s.own (own_walked c (p.own who) Done) p.own ne ∙ ap (λ x. but_at who (own_walked c x Done) (beside p past s).own) (sym its_own)

        tables : (beside (without_cursor c p who) past s).table ≡ (without_cursor c (beside p past s) who).table
        tables = two_put s.here who s.table (held_after c (p.table who)) p.table ne ∙ ap (λ g. but_at who (held_after c g) (beside p past s).table) (sym (put_else p.table s.here s.table who ne))

    -- a turn that neither settles the world nor unsettles it
    pub turned_beside : (f : Form) (t : Task) (turn : Turn) (later w : State) → Turned f (beside p past s) who t turn w → w.settled ≡ past.settled → w ≡ beside later past s → Turned f (beside p past s) who t turn (beside later (past_after f p who t turn past) s)
    turned_beside f t turn later w T settled is =
        let kept : settled_after f t.command (p.own who) t.steps turn past.settled ≡ past.settled = ap (λ x. settled_after f t.command x t.steps turn past.settled) (sym its_own) ∙ sym T.settled ∙ settled in
        subst (λ z. Turned f (beside p past s) who t turn (beside later (record past { settled = z }) s)) (sym kept) (subst (Turned f (beside p past s) who t turn) is T)
