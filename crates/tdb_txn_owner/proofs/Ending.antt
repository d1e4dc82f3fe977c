-- A turn that ends the transaction of the opener aside, by a command on it.
use Rattle.std.proofs.Common.{◌≡◌, ℕ, Some, refl, sym, ap, arith}
use Rattle.std.specs.Prelude.{is_none}
use Rattle.tdb_space.specs.Form.{Form}
use Rattle.tdb_law.specs.Commands.{GroupCommand, Reply}
use Rattle.tdb_law.specs.Commands.Command.{OnGroup}
use Rattle.tdb_law.specs.Commands.Turn.{Ends}
use Rattle.tdb_law.specs.Openers.{Map, Own, Txn, ended}
use Rattle.tdb_law.specs.Counting.{number_after}
use Rattle.tdb_law.specs.Ends.{IsRow}
use Rattle.tdb_law.specs.OneAside.Own.{OwnTurned}
use Rattle.tdb_law.specs.OneAside.Sides.{Past, Side}
use Rattle.tdb_txn_owner.specs.Ends.{TurnBegins, TurnLeaves, task_of}
use Rattle.tdb_txn_owner.proofs.GroupCounts.{end_settles, image_kept}
use Rattle.tdb_txn_owner.proofs.Keeping.{keeps_nothing}
use Rattle.tdb_txn_owner.proofs.Turning.{EffectIs, still_turned, group_still}

module _ (f : Form) (table : ℕ → ℕ → ℕ) (m mm : Map) (q qq : ℕ) (old new : Past) (s z : Side) (x : Own) (txn : Txn) (g : GroupCommand) (n : ℕ) (r : Reply) (has : x.txn ≡ Some txn)
    (B : TurnBegins f table s x (task_of (OnGroup g) n)) (L : TurnLeaves old new s z (task_of (OnGroup g) n) (Ends r) (ended x) old.settled (old.numbers s.here)) where
  pub ended_turned : IsRow f (OnGroup g) x n (Ends r) → EffectIs f (OnGroup g) n x m (Ends r) (ended x) mm → ((b : ℕ) → z.table b ≡ 0) → qq ≡ number_after f (OnGroup g) x (Ends r) q (old.numbers s.here)
      → OwnTurned f table m mm q qq old new s z (task_of (OnGroup g) n) (Ends r)
  ended_turned row effect none counts =
      still_turned f table m mm q qq old new s z x (ended x) (task_of (OnGroup g) n) (Ends r) old.settled (old.numbers s.here) B L (group_still f g x) (λ shown. absurd (cc shown)) row effect
      (λ b. let e = none b in let bare = keeps_nothing f (ended x) refl refl refl b in omega (arith, e, bare))
      (sym (end_settles f x (ap is_none has) (OnGroup g) n r old.settled)) counts (sym (image_kept f x (ap is_none has) g r q (old.numbers s.here)))
