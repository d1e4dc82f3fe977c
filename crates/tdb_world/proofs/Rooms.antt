-- When a command may be given.
use Rattle.std.proofs.Common.{◌≡◌, ℕ, Err, Ok, Some, sym, subst}
use Rattle.std.specs.Prelude.{OnErr, Result}
use Rattle.tdb_commands.specs.declared.command.Command.{Command}
use Rattle.tdb_txn_owner.specs.Holders.{stage_depth, HolderState}
use Rattle.tdb_txn_owner.specs.Stages.{MayBeGiven}
use Rattle.tdb_world.specs.Steps.{HasRoom, IsAmong}
use Rattle.tdb_world.specs.Whole.{Whole}
use Rattle.tdb_world.proofs.Standings.{never_both, same_holder}

-- what holds of an answer that is Err
pub on_err : {V E : Type 0} (r : Result V E) (P Q : Type 0) → (P → Q) → OnErr r P → OnErr r Q
on_err (Ok x) P Q from p = tt
on_err (Err e) P Q from p = from p

-- the one aside has room where its stage has, and another opener always has
pub aside_room : (w : Whole) (h : HolderState) (who : ℕ) (c : Command) → w.aside ≡ Some h → MayBeGiven c (stage_depth h.stage) → HasRoom w who c
aside_room w h who c is may g also named = subst (λ (z : HolderState). MayBeGiven c (stage_depth z.stage)) (sym (same_holder w h g is also)) may

pub among_room : (w : Whole) (who : ℕ) (c : Command) → IsAmong w who → HasRoom w who c
among_room w who c among h is named = absurd (never_both w who h is named among)
