-- Where nobody shuts an opener out, the bytes of the file stand with what the openers have.
use Rattle.std.proofs.Common.{◌≡◌, ℕ, List, false, Option, None, Some, refl, sym, ◌∙◌, ap, subst}
use Rattle.tdb_disk.specs.History.{History, seen}
use Rattle.tdb_locks.specs.declared.kind.Kind.{Kind}
use Rattle.tdb_locks.specs.declared.kind.Kind.TheVariants.{Read, Write}
use Rattle.tdb_law.specs.OneAside.Sides.{Past, Side}
use Rattle.tdb_law.specs.World.{State}
use Rattle.tdb_openers.specs.Worlds.{BytesStand}
use Rattle.tdb_txn_owner.specs.Holders.{HolderState}
use Rattle.tdb_txn_owner.specs.Stages.{stage_records}
use Rattle.tdb_world.specs.Whole.{Whole}
use Rattle.tdb_world.specs.States.{writes_all, IsSeen, SideIs, IsStateOf}
use Rattle.tdb_world.specs.States.IsStateOf.{of_whole, of_stale}
use Rattle.tdb_world.specs.Shut.{IsOpen}
use Rattle.tdb_world.specs.Steps.{IsAmong}
use Rattle.tdb_world.specs.Steps.IsAmong.{among_all, among_others}

reads_so : (all : Option Kind) → (all ≡ Some Write → ⊥) → writes_all all ≡ false
reads_so None never = refl
reads_so (Some Read) never = refl
reads_so (Some Write) never = absurd (never refl)

side_seen : (w : Whole) (h : History) (img : List ℕ) (past : Past) (a : Option HolderState) (side : Option Side) → w.aside ≡ a → IsOpen w → SideIs w a h img past side → IsSeen w h img
side_seen w h img past None None is shut S = S
side_seen w h img past None (Some s) is shut S = absurd S
side_seen w h img past (Some hd) None is shut S = absurd S
side_seen w h img past (Some hd) (Some s) is shut S = S.others (reads_so (stage_records hd.stage) (shut hd is))

pub file_stands : (w : Whole) (h : History) (state : State) → w.stale ≡ false → IsOpen w → IsStateOf w h state → BytesStand w.openers (seen h)
file_stands w h state fresh shut (of_whole W) = let N = side_seen w h W.image W.past w.aside W.side refl shut W.is_side in subst (BytesStand w.openers) N.image N.bytes
file_stands w h state fresh shut (of_stale W) = absurd (cc (sym fresh ∙ W.stale))

-- the one aside isn't among the others
pub aside_not : (w : Whole) (who : ℕ) (h : HolderState) → w.aside ≡ Some h → who ≡ h.owner → IsAmong w who → ⊥
aside_not w who h is mine (among_all none) = cc (sym is ∙ none)
aside_not w who h is mine (among_others other there ne) = let same : h ≡ other = cc in ne (mine ∙ ap (λ z. z.owner) same)
