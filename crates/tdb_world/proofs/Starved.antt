-- A turn of the one aside for whose lock of records memory was wanting.
use Rattle.std.proofs.Common.{◌≡◌, ℕ, List, true, false, Option, Some, None, refl, sym, ◌∙◌, subst}
use Rattle.tdb_disk.specs.History.{History}
use Rattle.tdb_space.specs.Form.{Form}
use Rattle.tdb_locks.specs.declared.piece.Piece.{Piece}
use Rattle.tdb_law.specs.Commands.{Command, GroupCommand, Reply, Turn}
use Rattle.tdb_law.specs.Commands.Command.{OnGroup}
use Rattle.tdb_law.specs.Commands.Reply.{Memory}
use Rattle.tdb_law.specs.Commands.Turn.{Ends}
use Rattle.tdb_law.specs.Effects.{Effect}
use Rattle.tdb_law.specs.Effects.Effect.{effect_waits, effect_goes_on, effect_changes, effect_answers, effect_shows, effect_starves, effect_is_full, effect_is_busy, effect_numbers, effect_finishes}
use Rattle.tdb_law.specs.Openers.{Map, Own, Task}
use Rattle.tdb_law.specs.Outcomes.{moves, told, told_by}
use Rattle.tdb_law.specs.Refusals.{Refusal, refusal}
use Rattle.tdb_law.specs.Refusals.Refusal.{OnlyReads, IsPrepared, LocksStand, NothingLocked, NeverNests, NoneOpen, IsDoomed}
use Rattle.tdb_law.specs.OneAside.Sides.{Past, Side}
use Rattle.tdb_txn_owner.specs.Stages.{Known}
use Rattle.tdb_txn_owner.specs.Turned.{StageTurned}
use Rattle.tdb_txn_owner.specs.declared.stage.Stage.{Stage}
use Rattle.tdb_commands.specs.declared.options.Options.{Options}
use Rattle.tdb_world.proofs.Staged.{IsEarly}

-- no command on a transaction is told that memory is wanting but by that end
told_not : (q : Option Refusal) (g : GroupCommand) (x : Own) (m : Map) → told_by q (OnGroup g) x m ≡ Memory → ⊥
told_not None g x m e = cc e
told_not (Some OnlyReads) g x m e = cc e
told_not (Some IsPrepared) g x m e = cc e
told_not (Some LocksStand) g x m e = cc e
told_not (Some NothingLocked) g x m e = cc e
told_not (Some NeverNests) g x m e = cc e
told_not (Some NoneOpen) g x m e = cc e
told_not (Some IsDoomed) g x m e = cc e

pub early_told : (f : Form) (t : Task) (x : Own) (m : Map) → IsEarly t → told f t.command x m ≡ Memory → ⊥
early_told f t x m E e = told_not (refusal f (OnGroup E.group) x) E.group x m (subst (λ c. told f c x m ≡ Memory) E.command e)

-- such an end is the same whoever holds what
module _ (f : Form) (free free2 : Type 0) (conflict conflict2 : ℕ → ℕ → Type 0) (finds finds2 : Reply → Type 0) (number n : ℕ) (c : Command) (x y : Own) (m mm : Map) (still : moves f c x ≡ false)
    (untold : told f c x m ≡ Memory → ⊥) where
  pub starved_effect : (turn : Turn) → turn ≡ Ends Memory → Effect f free conflict finds number c n x m turn y mm → Effect f free2 conflict2 finds2 number c n x m turn y mm
  starved_effect turn e (effect_waits o b is first un map own) = absurd (cc)
  starved_effect turn e (effect_goes_on is free un map own) = absurd (cc)
  starved_effect turn e (effect_changes is free late un made told map own) = absurd (cc)
  starved_effect turn e (effect_answers r is free still un ready unmade says map own) = absurd (untold (let same : Ends r ≡ Ends Memory = sym is ∙ e in let r_is : r ≡ Memory = cc same in sym says ∙ r_is))
  starved_effect turn e (effect_shows r is free moving found map own) = absurd (let both : false ≡ true = sym still ∙ moving in cc both)
  starved_effect turn e (effect_starves is may un map own) = effect_starves is may un map own
  starved_effect turn e (effect_is_full len need is free may ready un told map own) = absurd (cc)
  starved_effect turn e (effect_is_busy o b is first may map own) = absurd (cc)
  starved_effect turn e (effect_numbers q is free may same map own) = absurd (cc)
  starved_effect turn e (effect_finishes is free made map own) = absurd (cc)

module _ (f : Form) (o : Options) (table table2 : ℕ → ℕ → ℕ) (owner : ℕ) (rs : List Piece) (stage : Stage) (old new : History) (k : Known) (past : Past) (s : Side) (t : Task) (early : IsEarly t)
    (T : StageTurned f o table owner rs stage None old new k past s t (Ends Memory)) where
  pub starved_so : StageTurned f o table2 owner rs stage None old new k past s t (Ends Memory)
  starved_so = record {
    known = T.known;
    later = T.later;
    side = T.side;
    left = T.left;
    file = T.file;
    kept = T.kept;
    still = T.still;
    turned = record {
      mine = T.turned.mine;
      here = T.turned.here;
      keeps = T.turned.keeps;
      row = T.turned.row;
      leaves = T.turned.leaves;
      effect = starved_effect f _ _ _ _ _ _ _ _ t.command s.own T.side.own _ _ T.still (early_told f t s.own _ early) (Ends Memory) refl T.turned.effect;
      holds = T.turned.holds;
      walks = T.turned.walks;
      settled = T.turned.settled;
      number = T.turned.number;
      image_number = T.turned.image_number;
      other_numbers = T.turned.other_numbers;
    };
  }
