-- The file of a world in which each unfinished command is on one key: nobody has a transaction, so its bytes are those
-- of the state.
use Rattle.std.proofs.Common.{◌≡◌, ℕ, Bool, true, false, List, [], length, slice_get, Option, None, Some, refl, sym, ◌∙◌, ap, subst}
use Rattle.std.specs.Prelude.{if◌then◌else◌}
use Rattle.tdb_disk.specs.History.{History, seen}
use Rattle.tdb_space.specs.Accepted.{AcceptWith}
use Rattle.tdb_space.specs.Form.{Form}
use Rattle.tdb_law.specs.Openers.{Own, Task, Txn}
use Rattle.tdb_law.specs.World.{State}
use Rattle.tdb_law.proofs.Tests.{never_true}
use Rattle.tdb_law.proofs.Walking.{put_here}
use Rattle.tdb_law.specs.OneAside.Sides.{Past, Side, but_at}
use Rattle.tdb_law.specs.OneAside.Starts.{new_start}
use Rattle.tdb_commands.specs.declared.options.Options.{Options}
use Rattle.tdb_txn_owner.specs.Holders.{HolderState}
use Rattle.tdb_txn_owner.specs.Stages.{stage_task, Known, OwnIs}
use Rattle.tdb_txn_owner.specs.declared.stage.Stage.{Stage}
use Rattle.tdb_txn_owner.specs.declared.stage.Stage.TheVariants as At
use Rattle.tdb_openers.proofs.Joining.AllHands.{joined_none}
use Rattle.tdb_openers.specs.Openers.{law_task, task_at, hands_of_task, hands_at}
use Rattle.tdb_openers.specs.Worlds.{state_in, BytesStand}
use Rattle.tdb_openers.specs.declared.job.Task.{Task as JobTask}
use Rattle.tdb_openers.specs.declared.opener.Opener.{Opener}
use Rattle.tdb_world.specs.Whole.{Whole, form_at, is_starting}
use Rattle.tdb_world.specs.States.{state_with, IsAside, SideIs, IsStateOf}
use Rattle.tdb_world.specs.States.IsStateOf.{of_whole, of_stale}
use Rattle.tdb_gen.specs.Generated.{HasFile}
use Rattle.tdb_gen.specs.Rounds.{IsOnKey, OnKeys, IsIdle}

-- The openers stand over the bytes of the file, which are those of the state.
pub record IsPlainly (w : Whole) (h : History) (state : State) : Type 0 where
  pub bytes : BytesStand w.openers (seen h)
  pub file : HasFile (form_at w) (seen h) state
  pub joined : state.joined ≡ length w.openers.openers
  pub idle : IsIdle state → IsIdle (state_in w.openers (seen h))

no_txn : (x : Own) (t : Txn) → x.txn ≡ None → x.txn ≡ Some t → ⊥
no_txn x t none some = let wrong : None ≡ Some t = sym none ∙ some in cc

none_if : (z : Bool) (a : Task) (t : Option Task) → (if z then Some a else t) ≡ None → t ≡ None
none_if true a t e = absurd (cc e)
none_if false a t e = e

-- who is aside has a transaction, or a Start
module _ (f : Form) (o : Options) (k : Known) (x : Own) (task : Option Task) (none : x.txn ≡ None) (keyed : (t : Task) → task ≡ Some t → IsOnKey t.command) where
  not_aside : (stage : Stage) → task ≡ stage_task stage → OwnIs f o k stage x → ⊥
  not_aside (At.Starting s) is own = keyed _ is
  not_aside (At.Open txn command) is own = no_txn x _ none own.txn
  not_aside (At.Committing c) is own = no_txn x own.txn none own.has.outer.has
  not_aside (At.Preparing p) is own = no_txn x own.txn none own.has.outer.has
  not_aside (At.Prepared left command) is own = no_txn x own.txn none own.has.outer.has
  not_aside (At.Finishing s) is own = no_txn x own.txn none own.has.outer.has

module _ (f : Form) (w : Whole) (h : History) (state : State) (K : OnKeys f state) where
  nobody_aside : (holder : HolderState) (img : List ℕ) (past : Past) (s : Side) → IsAside w holder h img past s → state ≡ state_with w img past (Some s) → ⊥
  nobody_aside holder img past s A is = either (is_starting w.starts s.here) refl
    where
      owns : (state.own s.here).txn ≡ s.own.txn
      owns = ap (λ (z : State). (z.own s.here).txn) is ∙ ap (λ (x : Own). x.txn) (put_here (state_in w.openers img).own s.here s.own s.here refl)

      theirs : Option Task
      theirs = but_at s.here s.task (state_in w.openers img).task s.here

      either : (z : Bool) → is_starting w.starts s.here ≡ z → ⊥
      either true e = (K.busy s.here new_start (ap (λ (v : State). v.task s.here) is ∙ ap (λ z. if z then Some new_start else theirs) e)).keyed
      either false e =
          let tasks : state.task s.here ≡ s.task = ap (λ (v : State). v.task s.here) is ∙ ap (λ z. if z then Some new_start else theirs) e ∙ put_here (state_in w.openers img).task s.here s.task s.here refl in
          not_aside _ _ _ s.own s.task (sym owns ∙ (K.bare s.here).txn) (λ t some. (K.busy s.here t (tasks ∙ some)).keyed) holder.stage A.side.task A.side.own

  by_side : (holder : Option HolderState) (img : List ℕ) (past : Past) (side : Option Side) → SideIs w holder h img past side → state ≡ state_with w img past side → IsPlainly w h state
  by_side None img past None S is =
      let e : state ≡ state_with w (seen h) past None = is ∙ ap (λ a. state_with w a past None) S.image in
      record {
        bytes = subst (BytesStand w.openers) S.image S.bytes;
        file = record { file = ap (λ (z : State). z.file) e; number = ap (λ (z : State). z.number) e };
        joined = ap (λ (z : State). z.joined) e;
        idle = λ idle o. none_if (is_starting w.starts o) new_start _ (sym (ap (λ (z : State). z.task o) e) ∙ idle o);
      }
  by_side None img past (Some s) S is = absurd S
  by_side (Some holder) img past None S is = absurd S
  by_side (Some holder) img past (Some s) S is = absurd (nobody_aside holder img past s S is)

  pub plainly : IsStateOf w h state → IsPlainly w h state
  plainly (of_whole S) = by_side w.aside S.image S.past S.side S.is_side S.is
  plainly (of_stale S) = absurd (never_true (sym K.fresh ∙ ap (λ (z : State). z.stale) S.is))

-- where nobody has an unfinished command no record is out of the lists
hands_none : (t : Option JobTask) → law_task t ≡ None → hands_of_task t ≡ []
hands_none None e = refl
hands_none (Some t) e = absurd (cc e)

idle_hands : (x : Option Opener) → task_at x ≡ None → hands_at x ≡ []
idle_hands None e = refl
idle_hands (Some x) e = hands_none x.task e

pub idle_accepted : (w : Whole) (h : History) (state : State) → IsPlainly w h state → IsIdle state → AcceptWith (form_at w) (seen h) []
idle_accepted w h state P idle =
    subst (AcceptWith (form_at w) (seen h)) (joined_none (length w.openers.openers) (λ o. hands_at (slice_get w.openers.openers o)) (λ o. idle_hands (slice_get w.openers.openers o) (P.idle idle o))) P.bytes.accepted
