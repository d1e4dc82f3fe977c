-- A pending command holds what it touches for writing, so nobody else reads or touches it; what that leaves of a turn.
use Rattle.std.proofs.Common.{◌≡◌, ℕ, ◌≤◌, max, List, true, false, Option, Some, None, refl, sym, ◌∙◌, ap, subst, subst₂, inl, inr, ◌⊎◌, arith, ◌≢◌}
use Rattle.std.proofs.lemmas.Bool.{cases_Bool}
use Rattle.tdb_space.specs.Form.{Form}
use Rattle.tdb_law.specs.Commands.{Command, Reply, Turn}
use Rattle.tdb_law.specs.Commands.Turn.{Step, Blocked, Ends}
use Rattle.tdb_law.specs.Openers.{Own, Task}
use Rattle.tdb_law.specs.Refusals.{chain_byte}
use Rattle.tdb_law.specs.Rows.{look, is_changed}
use Rattle.tdb_law.specs.Outcomes.{reads, touches}
use Rattle.tdb_law.specs.Held.{kept, held, holding}
use Rattle.tdb_law.specs.World.{State, IsPending, IsSound}
use Rattle.tdb_law.specs.Effects.{task_left, IsReady}
use Rattle.tdb_law.specs.Turned.{Turned}
use Rattle.tdb_law.proofs.Covered.{touched_held, read_held, changed_late}
use Rattle.tdb_law.proofs.Local.{reads_touched}

pub same_task : (t u : Task) → ◌≡◌ {A = Option Task} (Some t) (Some u) → t ≡ u
same_task t u e = cc

pub no_task : (t : Task) → ◌≡◌ {A = Option Task} None (Some t) → ⊥
no_task t e = cc

module _ (f : Form) (w : State) (S : IsSound f w) where
  -- what a command that has had its look holds
  held_now : (o : ℕ) (t : Task) → w.task o ≡ Some t → (b : ℕ) → w.table o b ≡ max (held f t.command (w.own o) (w.spot o) t.steps b) (kept f (w.own o) (w.spot o) b)
  held_now o t mine b = S.agrees o b ∙ ap (λ z. holding f (w.own o) (w.spot o) z b) mine

  pub reads_locked : (o : ℕ) (t : Task) (k : List ℕ) → w.task o ≡ Some t → reads f t.command (w.own o) k ≡ true → look f t.command (w.own o) ≤ t.steps → 1 ≤ w.table o (chain_byte f k)
  reads_locked o t k mine e late = subst (λ u. 1 ≤ u) (sym (held_now o t mine (chain_byte f k))) (read_held f S.chains t.command (w.own o) (w.spot o) t.steps k e late)

  pub touches_locked : (o : ℕ) (t : Task) (k : List ℕ) → w.task o ≡ Some t → touches f t.command (w.own o) k ≡ true → look f t.command (w.own o) ≤ t.steps → 2 ≤ w.table o (chain_byte f k)
  touches_locked o t k mine e late = subst (λ u. 2 ≤ u) (sym (held_now o t mine (chain_byte f k))) (touched_held f S.chains t.command (w.own o) (w.spot o) t.steps k e late)

  module _ (o : ℕ) (d : Command) (y : Own) (p : IsPending f w o d y) where
    late : look f p.task.command (w.own o) ≤ p.task.steps
    late = changed_late f p.task.command (w.own o) p.task.steps (subst₂ (λ e z. is_changed f e z p.task.steps ≡ true) (sym p.command) (sym p.owned) p.made)

    pub pending_touches : (k : List ℕ) → touches f d y k ≡ true → 2 ≤ w.table o (chain_byte f k)
    pending_touches k e = touches_locked o p.task k p.has_task (subst₂ (λ z u. touches f z u k ≡ true) (sym p.command) (sym p.owned) e) late

    pub pending_reads : (k : List ℕ) → reads f d y k ≡ true → 1 ≤ w.table o (chain_byte f k)
    pending_reads k e = reads_locked o p.task k p.has_task (subst₂ (λ z u. reads f z u k ≡ true) (sym p.command) (sym p.owned) e) late

    module _ (who : ℕ) (task : Task) (mine : w.task who ≡ Some task) (other : o ≢ who) (ready : IsReady f task.command (w.own who) task.steps) where
      -- what it touches another that has had its look doesn't read
      pub clash_read : (k : List ℕ) → touches f d y k ≡ true → reads f task.command (w.own who) k ≡ true → ⊥
      clash_read k touching reading = omega (arith, pending_touches k touching, reads_locked who task k mine reading (ready k reading), S.apart o who (chain_byte f k) other)

      -- and what it reads another doesn't touch
      pub clash_touch : (k : List ℕ) → reads f d y k ≡ true → touches f task.command (w.own who) k ≡ true → ⊥
      clash_touch k reading touching = omega (arith, pending_reads k reading, touches_locked who task k mine touching (ready k (reads_touched f task.command (w.own who) k touching)), S.apart o who (chain_byte f k) other)

      pub apart_touch : (k : List ℕ) → touches f d y k ≡ true → touches f task.command (w.own who) k ≡ false
      apart_touch k touching =
          elim (cases_Bool (touches f task.command (w.own who) k)) [
            | inl both ↦ absurd (clash_touch k (reads_touched f d y k touching) both)
            | inr never ↦ never
          ]

      pub apart_read : (k : List ℕ) → reads f d y k ≡ true → touches f task.command (w.own who) k ≡ false
      apart_read k reading =
          elim (cases_Bool (touches f task.command (w.own who) k)) [
            | inl both ↦ absurd (clash_touch k reading both)
            | inr never ↦ never
          ]

-- pending commands of other openers are the same before and after a turn
module _ (f : Form) (old new : State) (who : ℕ) (task : Task) (turn : Turn) (T : Turned f old who task turn new) (o : ℕ) (d : Command) (y : Own) (other : o ≢ who) where
  pub pending_before : IsPending f new o d y → IsPending f old o d y
  pending_before p = record { task = p.task; has_task = sym (T.others o other) ∙ p.has_task; command = p.command; owned = sym (T.others_own o other) ∙ p.owned; made = p.made }

  pub pending_after : IsPending f old o d y → IsPending f new o d y
  pending_after p = record { task = p.task; has_task = T.others o other ∙ p.has_task; command = p.command; owned = T.others_own o other ∙ p.owned; made = p.made }

-- the opener's own command is pending exactly where its task says so
module _ (f : Form) (old new : State) (who : ℕ) (task : Task) (turn : Turn) (T : Turned f old who task turn new) where
  pub own_pending : is_changed f task.command (old.own who) task.steps ≡ true → IsPending f old who task.command (old.own who)
  own_pending made = record { task = task; has_task = T.mine; command = refl; owned = refl; made = made }

  pub pending_own : (d : Command) (y : Own) → IsPending f old who d y → (task.command ≡ d) × (old.own who ≡ y) × (is_changed f task.command (old.own who) task.steps ≡ true)
  pending_own d y p =
      let same : p.task ≡ task = same_task p.task task (sym p.has_task ∙ T.mine) in
      let command : task.command ≡ d = ap (λ t. t.command) (sym same) ∙ p.command in
      (command, p.owned, subst₂ (λ e z. is_changed f e z task.steps ≡ true) (sym command) (sym p.owned) (subst (λ t. is_changed f d y t.steps ≡ true) same p.made))

  pub not_pending : (d : Command) (y : Own) → is_changed f task.command (old.own who) task.steps ≡ false → IsPending f old who d y → ⊥
  not_pending d y never p = never_true (sym never ∙ (pending_own d y p).2)
    where
      never_true : false ≡ true → ⊥
      never_true e = cc

  -- afterwards: what the turn leaves of it
  pub pending_left : (d : Command) (y : Own) → IsPending f new who d y → (turn ≡ Step ⊎ ((o : ℕ) × (b : ℕ) × (turn ≡ Blocked o b)))
      × ((r : Reply) → turn ≡ Ends r → ⊥)
  pending_left d y p = by_turn turn refl
    where
      by_turn : (u : Turn) → turn ≡ u → (turn ≡ Step ⊎ ((o : ℕ) × (b : ℕ) × (turn ≡ Blocked o b))) × ((r : Reply) → turn ≡ Ends r → ⊥)
      by_turn Step e = (inl e, λ r end. step_end r (sym e ∙ end))
        where
          step_end : (r : Reply) → Step ≡ Ends r → ⊥
          step_end r end = cc
      by_turn (Blocked o b) e = (inr (o, b, e), λ r end. block_end r (sym e ∙ end))
        where
          block_end : (r : Reply) → Blocked o b ≡ Ends r → ⊥
          block_end r end = cc
      by_turn (Ends r) e = absurd (no_task p.task (sym (T.leaves ∙ ap (task_left task.command task.steps) e) ∙ p.has_task))

  -- a step or a block leaves the command with these steps
  pub left_pending : (m : ℕ) (d : Command) (y : Own) → new.task who ≡ Some (record { command = task.command; steps = m }) → new.own who ≡ old.own who → IsPending f new who d y
      → (task.command ≡ d) × (old.own who ≡ y) × (is_changed f task.command (old.own who) m ≡ true)
  left_pending m d y left own p =
      let same : p.task ≡ record { command = task.command; steps = m } = same_task p.task (record { command = task.command; steps = m }) (sym p.has_task ∙ left) in
      let command : task.command ≡ d = ap (λ t. t.command) (sym same) ∙ p.command in
      let owned : old.own who ≡ y = sym own ∙ p.owned in
      (command, owned, subst₂ (λ e z. is_changed f e z m ≡ true) (sym command) (sym owned) (subst (λ t. is_changed f d y t.steps ≡ true) same p.made))

  pub make_pending : (m : ℕ) → new.task who ≡ Some (record { command = task.command; steps = m }) → new.own who ≡ old.own who → is_changed f task.command (old.own who) m ≡ true
      → IsPending f new who task.command (old.own who)
  make_pending m left own made = record { task = record { command = task.command; steps = m }; has_task = left; command = refl; owned = own; made = made }
