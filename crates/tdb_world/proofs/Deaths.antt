-- An opener of the world dies.
use Rattle.std.proofs.Common.{◌≡◌, ◌≤◌, ℕ, List, Bool, true, false, Some, None, refl, sym, ◌∙◌, ap, subst}
use Rattle.tdb_disk.specs.History.{History}
use Rattle.tdb_law.specs.Events.{Dies}
use Rattle.tdb_law.specs.Lines.{MayDie}
use Rattle.tdb_law.specs.World.{State, IsSound}
use Rattle.tdb_commands.specs.InLaw.{law_opener}
use Rattle.tdb_law.specs.OneAside.Sides.{beside, whole}
use Rattle.tdb_law.specs.OneAside.Starts.{with_starts}
use Rattle.tdb_txn_owner.specs.Holders.{stage_gate, HolderState}
use Rattle.tdb_txn_owner.proofs.Gates.{gate_writes}
use Rattle.tdb_txn_owner.specs.Stages.{stage_task}
use Rattle.tdb_openers.specs.Died.{HasDied}
use Rattle.tdb_openers.specs.Worlds.{World, state_in, BytesStand, Stands}
use Rattle.tdb_world.specs.States.{IsStateOf}
use Rattle.tdb_world.specs.States.IsStateOf.{of_whole, of_stale}
use Rattle.tdb_world.specs.Steps.{DeathLeads, IsAmong}
use Rattle.tdb_world.specs.Whole.{Whole, HolderFits, StaleFits, WorldFits, form_at, is_starting}
use Rattle.tdb_world.proofs.Claimed.{as_list, with_list}
use Rattle.tdb_world.proofs.OthersKept.{OneChanges}
use Rattle.tdb_world.proofs.DeathsAmong.{died_one, fits_without, other_dies, others_fit}
use Rattle.tdb_world.proofs.DeathsAside.{free_of_locks, holder_dies, holder_fits, side_of}
use Rattle.tdb_world.proofs.Lengths.{any_length}

-- The world in which this opener has died.
module _ (w : Whole) (who : ℕ) (z : World) (G : HasDied w.openers who z) (stands : (img : List ℕ) (size : ℕ) → Stands w.openers img size → Stands z img size) where
  abbrev listed : World
  listed = with_list w.openers z.openers z.table

  as_listed : z ≡ listed
  as_listed = as_list w.openers z G.rest

  one : OneChanges w.openers.openers z.openers w.openers.table z.table (law_opener who)
  one = died_one w.openers who z G

  listed_stand : (img : List ℕ) (size : ℕ) → Stands w.openers img size → Stands listed img size
  listed_stand img size W = subst (λ y. Stands y img size) as_listed (stands img size W)

  -- where it was one of the others
  pub among_fits : 1 ≤ who → IsAmong w who → is_starting w.starts (law_opener who) ≡ false → (img : List ℕ) (size : ℕ) → WorldFits w img size → WorldFits (record w { openers = z }) img size
  among_fits named among ne img size F =
      subst (λ y. WorldFits (record w { openers = y }) img size) (sym as_listed) (others_fit w who named among ne z.openers z.table one listed_stand img size F)

  -- and where it was aside
  module _ (h : HolderState) (e : w.aside ≡ Some h) (named : who ≡ h.owner) (gate : Bool) (leaves : gate ≡ stage_gate h.stage) (img : List ℕ) (size : ℕ) (F : WorldFits w img size) where
    HF : HolderFits w h size
    HF = holder_fits w h img size F e

    begun : is_starting w.starts (law_opener who) ≡ false
    begun = ap (λ i. is_starting w.starts (law_opener i)) named ∙ HF.begun

    stale_now : gate ≡ true → StaleFits (record w { openers = listed; aside = None; stale = gate })
    stale_now open_gate =
        let free = free_of_locks w h img size F.openers HF (gate_writes h.stage (sym leaves ∙ open_gate)) img in
        record { nobody = refl; lengths = λ i n short. listed_stand i n (any_length w.openers img size F.openers free i n short) }

    pub aside_fits : WorldFits (record w { openers = z; aside = None; stale = gate }) img size
    aside_fits =
        subst (λ y. WorldFits (record w { openers = y; aside = None; stale = gate }) img size) (sym as_listed)
        (fits_without w who z.openers z.table one begun None gate img size (listed_stand img size F.openers) tt stale_now F)

  module _ (bytes : (img : List ℕ) → BytesStand w.openers img → BytesStand z img) (dies : (img : List ℕ) → Dies (form_at w) (state_in w.openers img) (law_opener who) (state_in z img)) (any : List ℕ) (size : ℕ) (F : WorldFits w any size) where
    listed_bytes : (img : List ℕ) → BytesStand w.openers img → BytesStand listed img
    listed_bytes img B = subst (λ y. BytesStand y img) as_listed (bytes img B)

    listed_dies : (img : List ℕ) → Dies (form_at w) (state_in w.openers img) (law_opener who) (state_in listed img)
    listed_dies img = subst (λ y. Dies (form_at w) (state_in w.openers img) (law_opener who) (state_in y img)) as_listed (dies img)

    pub among_leads : (named : 1 ≤ who) (among : IsAmong w who) (ne : is_starting w.starts (law_opener who) ≡ false) (history : History) → DeathLeads w (record w { openers = z }) history who
    among_leads named among ne history state is =
        subst (λ y. (after : State) × IsStateOf (record w { openers = y }) history after × Dies (form_at w) state (law_opener who) after) (sym as_listed)
        (other_dies w who named among ne z.openers z.table one any size F history listed_bytes listed_dies state is)

    pub aside_leads : (h : HolderState) → w.aside ≡ Some h → who ≡ h.owner → MayDie (stage_task h.stage) → (gate : Bool) → gate ≡ stage_gate h.stage → (history : History)
        → DeathLeads w (record w { openers = z; aside = None; stale = gate }) history who
    aside_leads h e named may gate left history state (of_stale S) = absurd (let none : None ≡ Some h = sym S.nobody ∙ e in cc none)
    aside_leads h e named may gate left history state (of_whole S) =
        let q = state_in w.openers S.image in
        let P = side_of w h history S.image S.past w.aside e S.side S.is_side in
        let was : state ≡ with_starts (is_starting w.starts) (beside q S.past P.0) = S.is ∙ ap (λ v. with_starts (is_starting w.starts) (whole q S.past v)) P.1 in
        let R =
        holder_dies w h any size F (holder_fits w h any size F e) may z.openers z.table (subst (λ i. OneChanges w.openers.openers z.openers w.openers.table z.table (law_opener i)) named one)
        (λ i. subst (λ j. Dies (form_at w) (state_in w.openers i) (law_opener j) (state_in listed i)) named (listed_dies i)) listed_bytes history S.image S.past P.0 P.2
        (subst (λ v. IsSound (form_at w) (whole q S.past v)) P.1 S.sound) in (
          R.0,
          subst (λ y. IsStateOf (record w { openers = y; aside = None; stale = gate }) history R.0) (sym as_listed) (subst (λ b. IsStateOf (record w { openers = listed; aside = None; stale = b }) history R.0) (sym left) R.1),
          subst (λ v. Dies (form_at w) v (law_opener who) R.0) (sym was) (subst (λ j. Dies (form_at w) (with_starts (is_starting w.starts) (beside q S.past P.0)) (law_opener j) R.0) (sym named) R.2),
        )
