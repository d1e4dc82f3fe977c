-- An opener that has let go of all records, or has ended besides.
use Rattle.std.proofs.Common.{◌≡◌, ℕ, List, Option, Some, None, sym, ◌∙◌, ap, subst, arith}
use Rattle.std.specs.Prelude.{slice_get, Bool, true, false, is_some}
use Rattle.tdb_txn_owner.specs.Holders.{HolderState}
use Rattle.tdb_locks.specs.declared.kind.Kind.{Kind}
use Rattle.tdb_commands.specs.InLaw.{law_opener}
use Rattle.tdb_openers.specs.Aside.{with_records, HoldsRecords, IsBare}
use Rattle.tdb_openers.specs.Died.{HasDied}
use Rattle.tdb_openers.specs.Worlds.{World, IsNumber}
use Rattle.tdb_openers.specs.declared.opener.Opener.{Opener}
use Rattle.tdb_txn_owner.specs.Wanting.{stage_wants}
use Rattle.tdb_world.specs.Claims.{Claimed, ClaimStands, IsReleased, IsSettled}
use Rattle.tdb_world.specs.Steps.{with_aside}
use Rattle.tdb_world.specs.Whole.{Whole, WorldFits}

-- the opener is there with what it holds then, as bare as it was
module _ {old new : World} {who : ℕ} {x : Opener} {all : Option (Kind × ℕ)} (H : HoldsRecords old who x all new) (N : IsNumber old who x) where
  pub named_after : IsNumber new who (with_records x all)
  named_after =
      let here : law_opener who ≡ N.place = (let counted = N.counted in omega arith) in
      record { place = N.place; counted = N.counted; there = subst (λ p. slice_get new.openers p ≡ Some (with_records x all)) here H.put.there }

pub bare_after : {x : Opener} → (all : Option (Kind × ℕ)) → IsBare x → IsBare (with_records x all)
bare_after all B = record { live = B.live; idle = B.idle; no_chains = B.no_chains; no_cursor = B.no_cursor }

-- whether the opener is aside still
pub settled_none : (old new : World) (who : ℕ) (x : Opener) (closes : Bool) (holder : Option HolderState) → is_some holder ≡ false → IsReleased old who x closes new → IsSettled old who x closes holder new
settled_none old new who x closes None none R = R
settled_none old new who x closes (Some h) none R = absurd (cc none)

pub settled_some : (old new : World) (who : ℕ) (x : Opener) (closes : Bool) (holder : Option HolderState) → is_some holder ≡ true → new ≡ old → IsSettled old who x closes holder new
settled_some old new who x closes None some same = absurd (cc some)
settled_some old new who x closes (Some h) some same = same

-- it has ended by a Close alone
pub released_closed : (old mid new : World) (who : ℕ) (x : Opener) (closes : Bool) → closes ≡ true → HoldsRecords old who x None mid → HasDied mid who new → IsReleased old who x closes new
released_closed old mid new who x true is H D = (_, H, D)
released_closed old mid new who x false is H D = absurd (cc is)

pub released_live : (old new : World) (who : ℕ) (x : Opener) (closes : Bool) → closes ≡ false → HoldsRecords old who x None new → IsReleased old who x closes new
released_live old new who x true is H = absurd (cc is)
released_live old new who x false is H = H

-- the world with the one aside taken away, and put back
pub put_back : (w : Whole) (h : HolderState) → w.aside ≡ Some h → with_aside w h ≡ w
put_back w h is = ap (λ a. record w { aside = a }) (sym is)

pub same_holder : (a : Option HolderState) (h k : HolderState) → a ≡ Some h → a ≡ Some k → h ≡ k
same_holder a h k is also = cc

-- the openers that the lock of records was taken among
pub claim_stands : (w : Whole) (h : HolderState) (img : List ℕ) (size : ℕ) (F : WorldFits (with_aside w h) img size) (v : World) → Claimed w.openers h.owner F.aside.opener (stage_wants h.stage) v
    → ClaimStands (record w { openers = v }) h img size w.openers F.aside.opener
claim_stands w h img size F v C = record { number = F.aside.number; claimed = C; fits = F }

-- what a turn leaves of a world, by what its calls leave
pub settled_world : (self kept left : Whole) (after : Option HolderState) → record kept { number = self.number } ≡ self → record left { openers = kept.openers; aside = kept.aside } ≡ kept → left.aside ≡ after
    → left ≡ record self { openers = left.openers; aside = after; number = kept.number }
settled_world self kept left after K L is =
    ap (λ (q : Whole). record q { openers = left.openers; aside = left.aside }) L
    ∙ (ap (λ (q : Whole). record q { openers = left.openers; aside = left.aside; number = kept.number }) K
    ∙ ap (λ a. record self { openers = left.openers; aside = a; number = kept.number }) is)
