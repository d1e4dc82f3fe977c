-- The file of a world in which no command is unfinished can be opened.
use Rattle.std.proofs.Common.{◌≡◌, ◌≤◌, ◌<◌, ◌+◌, ℕ, zero, suc, Bool, true, false, List, [], ◌∷◌, length, slice_get, Option, None, Some, refl, sym, ◌∙◌, ap, subst, arith, inl, inr}
use Rattle.std.specs.Prelude.{if◌then◌else◌}
use Rattle.std.proofs.lemmas.Bool.{cases_lt}
use Rattle.std.proofs.lemmas.Option.{slice_get_cases}
use Rattle.tdb_disk.specs.History.{History, seen}
use Rattle.tdb_space.specs.Accepted.{AcceptWith}
use Rattle.tdb_space.specs.Opening.{Opens}
use Rattle.tdb_space.proofs.Opening.Undone.{accepted_opens}
use Rattle.tdb_law.specs.Lines.{MayDie}
use Rattle.tdb_law.specs.Openers.{Task}
use Rattle.tdb_law.specs.World.{State, IsSound}
use Rattle.tdb_law.proofs.Walking.{put_here}
use Rattle.tdb_law.specs.OneAside.Sides.{Past, Side, but_at, whole}
use Rattle.tdb_law.specs.OneAside.Starts.{new_start}
use Rattle.tdb_commands.specs.declared.line.Line.TheVariants.{Unfinished}
use Rattle.tdb_txn_owner.specs.Holders.{HolderState}
use Rattle.tdb_txn_owner.specs.Stages.{stage_task}
use Rattle.tdb_openers.proofs.Joining.AllHands.{joined_none}
use Rattle.tdb_openers.specs.Openers.{law_task, task_at, hands_of_task, hands_at}
use Rattle.tdb_openers.specs.Worlds.{state_in}
use Rattle.tdb_openers.specs.declared.job.Task.{Task as JobTask}
use Rattle.tdb_openers.specs.declared.opener.Opener.{Opener}
use Rattle.tdb_world.specs.States.{state_with, IsSeen, IsStateOf, SideIs}
use Rattle.tdb_world.specs.States.IsStateOf.{of_stale, of_whole}
use Rattle.tdb_world.specs.Whole.{form_at, is_starting, Whole}
use Rattle.tdb_world.specs.Courses.Laws.{EndedFileOpens}
use Rattle.tdb_world.specs.Courses.Unfinished.{TellsUnfinished}
use Rattle.tdb_world.proofs.Reopening.{aside_reopens, dying_records}
use Rattle.tdb_world.proofs.Courses.Standings.{joined_in}

-- an opener without a command has no record in hand
hands_none : (t : Option JobTask) → law_task t ≡ None → hands_of_task t ≡ []
hands_none None e = refl
hands_none (Some t) e = absurd (cc e)

idle_hands : (x : Option Opener) → task_at x ≡ None → hands_at x ≡ []
idle_hands None e = refl
idle_hands (Some x) e = hands_none x.task e

-- nor has it a Start without a turn
none_if : (z : Bool) (a : Task) (t : Option Task) → (if z then Some a else t) ≡ None → t ≡ None
none_if true a t e = absurd (cc e)
none_if false a t e = e

-- so a file that the others see is accepted
seen_opens : (w : Whole) (h : History) (img : List ℕ) → IsSeen w h img → ((o : ℕ) → task_at (slice_get w.openers.openers o) ≡ None) → Opens (seen h)
seen_opens w h img S none =
    let A : AcceptWith (form_at w) img [] =
    subst (AcceptWith (form_at w) img) (joined_none (length w.openers.openers) (λ o. hands_at (slice_get w.openers.openers o)) (λ o. idle_hands (slice_get w.openers.openers o) (none o))) S.bytes.accepted in
    subst Opens S.image (accepted_opens img (subst (λ g. AcceptWith g img []) (sym A.form) A)).opens

-- In a state in which no opener of those that joined has a command, it reopens too where one has a transaction.
module _ (w : Whole) (h : History) (state : State) (idle : (o : ℕ) → o < state.joined → state.task o ≡ None) (joined : state.joined ≡ length w.openers.openers) where
  -- of the openers of the world, and of all others
  none_there : (img : List ℕ) (past : Past) → state ≡ state_with w img past None → (o : ℕ) → task_at (slice_get w.openers.openers o) ≡ None
  none_there img past is o =
      elim (slice_get_cases w.openers.openers o).1 [
        | inl here ↦ none_if (is_starting w.starts o) new_start _ (sym (ap (λ (z : State). z.task o) is) ∙ idle o (let low = here.1 in omega (arith, joined, low)))
        | inr none ↦ ap task_at none.1
      ]

  -- of the one aside
  none_aside : (img : List ℕ) (past : Past) (s : Side) → IsSound (form_at w) (whole (state_in w.openers img) past (Some s)) → state ≡ state_with w img past (Some s) → (t : Option Task) → s.task ≡ t → s.task ≡ None
  none_aside img past s sound is None e = e
  none_aside img past s sound is (Some t) e =
      let mine : but_at s.here s.task (state_in w.openers img).task s.here ≡ s.task = put_here (state_in w.openers img).task s.here s.task s.here refl in
      let low = sound.live_joined s.here (sound.busy_there s.here t (mine ∙ e)) in
      let there : s.here < state.joined = subst (λ n. s.here < n) (sym joined) low in
      sym mine ∙ none_if (is_starting w.starts s.here) new_start _ (sym (ap (λ (z : State). z.task s.here) is) ∙ idle s.here there)

  side_opens : (holder : Option HolderState) (img : List ℕ) (past : Past) (side : Option Side) → IsSound (form_at w) (whole (state_in w.openers img) past side) → SideIs w holder h img past side → state ≡ state_with w img past side → Opens (seen h)
  side_opens None img past None sound S is = seen_opens w h img S (none_there img past is)
  side_opens None img past (Some s) sound S is = absurd S
  side_opens (Some holder) img past None sound S is = absurd S
  side_opens (Some holder) img past (Some s) sound A is =
      let none : stage_task holder.stage ≡ None = sym A.side.task ∙ none_aside img past s sound is s.task refl in
      (aside_reopens w holder h img past s A (dying_records holder.stage (subst MayDie (sym none) tt))).opens.opens

  idle_opens : IsStateOf w h state → Opens (seen h)
  idle_opens (of_whole S) = side_opens w.aside S.image S.past S.side S.sound S.is_side S.is
  idle_opens (of_stale S) = S.reopens.opens.opens

-- where no line tells of an unfinished command there is none
none_left : (s : State) (n o : ℕ) → TellsUnfinished s o n [] → (k : ℕ) → o ≤ k → k < o + n → s.task k ≡ None
none_left s zero o told k low high = absurd (omega (arith, low, high))
none_left s (suc n) o (inl told) k low high = let wrong : [] ≡ Unfinished (suc o) ∷ told.1 = told.2 in absurd (cc)
none_left s (suc n) o (inr none) k low high =
    elim (cases_lt o k) [
      | inl later ↦ none_left s n (suc o) none.1 k (omega (arith, later)) (omega (arith, high))
      | inr here ↦ ap s.task (let same : k ≡ o = omega (arith, here, low) in same) ∙ none.0
    ]

pub ended_opens : EndedFileOpens
ended_opens w h state is ends = idle_opens w h state (λ o low. none_left state state.joined 0 ends o (omega arith) (omega (arith, low))) (joined_in w h state is) is
