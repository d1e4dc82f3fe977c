-- Where all of a world but the room of its transaction is as it was, it stands as before.
use Rattle.std.proofs.Common.{◌≡◌, ℕ, List, Option, None, Some, is_some, refl, sym, ◌∙◌, ap, subst}
use Rattle.tdb_disk.specs.History.{History}
use Rattle.tdb_law.specs.OneAside.Sides.{Past, Side}
use Rattle.tdb_law.specs.World.{State}
use Rattle.tdb_commands.specs.InLaw.{law_opener}
use Rattle.tdb_openers.specs.Worlds.{IsNumber}
use Rattle.tdb_txn_owner.specs.ButRoom.{HolderButRoom}
use Rattle.tdb_txn_owner.specs.ButRoom.StageButRoom.{same_stage}
use Rattle.tdb_txn_owner.specs.Holders.{HolderState}
use Rattle.tdb_txn_owner.specs.Stages.{stage_records, IsSide, Known}
use Rattle.tdb_txn_owner.proofs.ButRoom.{same_records, still_file, still_fit, still_side}
use Rattle.tdb_world.specs.ButRoom.{AsideButRoom, WholeButRoom}
use Rattle.tdb_world.specs.States.{IsAside, IsStateOf, SideIs, once, writes_all}
use Rattle.tdb_world.specs.States.IsStateOf.{of_whole, of_stale}
use Rattle.tdb_world.specs.Whole.{Whole, AsideFits, HolderFits, WorldFits, form_at, options_at, is_starting}

-- The one aside has other room.
module _ (w : Whole) (old new : HolderState) (is : w.aside ≡ Some old) (S : HolderButRoom old new) where
  abbrev later : Whole
  later = record w { aside = Some new }

  records : stage_records new.stage ≡ stage_records old.stage
  records = same_records old.stage new.stage S.stage

  holder_fits : (size : ℕ) → HolderFits w old size → HolderFits later new size
  holder_fits size F = record {
    opener = F.opener;
    number = subst (λ n. IsNumber w.openers n F.opener) (sym S.owner) F.number;
    bare = F.bare;
    writes = λ all. F.writes (sym records ∙ all);
    reads = λ all. F.reads (sym records ∙ all);
    fit = still_fit old.stage new.stage S.stage w.openers.header w.openers.options.limit size F.fit;
    begun = ap (λ n. is_starting w.starts (law_opener n)) S.owner ∙ F.begun;
  }

  still_fits : (img : List ℕ) (size : ℕ) → WorldFits w img size → WorldFits later img size
  still_fits img size F = record {
    openers = F.openers;
    each = F.each;
    starts = λ o s. (let T = F.starts o s in record { opener = T.opener; there = T.there; bare = T.bare; none = T.none; writes = T.writes });
    aside = holder_fits size (subst (λ z. AsideFits w z size) is F.aside);
    stale = λ s. absurd (let both : None ≡ Some old = sym (F.stale s).nobody ∙ is in cc both);
  }

  side_then : (k : Known) (past : Past) (s : Side) → IsSide (form_at w) (options_at w) old.owner old.locks old.stage k past s → IsSide (form_at w) (options_at w) new.owner new.locks new.stage k past s
  side_then k past s I =
      subst (λ n. IsSide (form_at w) (options_at w) n new.locks new.stage k past s) (sym S.owner)
      (subst (λ ps. IsSide (form_at w) (options_at w) old.owner ps new.stage k past s) (sym S.locks) (still_side old.stage new.stage S.stage (form_at w) (options_at w) old.owner old.locks k past s I))

  aside_still : (h : History) (img : List ℕ) (past : Past) (s : Side) → IsAside w old h img past s → IsAside later new h img past s
  aside_still h img past s A = record {
    known = A.known;
    image = A.image;
    side = side_then A.known past s A.side;
    file = still_file old.stage new.stage S.stage (form_at w) h A.known A.file;
    records = λ x N. A.records x (subst (λ n. IsNumber w.openers n x) S.owner N) ∙ ap once (sym records);
    shuts = A.shuts ∙ ap writes_all (sym records);
    accepted = λ some. A.accepted (ap is_some (sym records) ∙ some);
    others = λ reads. (let B = A.others (ap writes_all (sym records) ∙ reads) in record { image = B.image; bytes = B.bytes });
    number = λ writes. A.number (ap writes_all (sym records) ∙ writes);
    heads = λ writes. A.heads (ap writes_all (sym records) ∙ writes);
  }

  side_still : (h : History) (img : List ℕ) (past : Past) (side : Option Side) → SideIs w (Some old) h img past side → SideIs later (Some new) h img past side
  side_still h img past None A = absurd A
  side_still h img past (Some s) A = aside_still h img past s A

  state_still : (h : History) (state : State) → IsStateOf w h state → IsStateOf later h state
  state_still h state (of_whole T) = of_whole (record {
    fresh = T.fresh;
    image = T.image;
    past = T.past;
    side = T.side;
    is_side = side_still h T.image T.past T.side (subst (λ z. SideIs w z h T.image T.past T.side) is T.is_side);
    sound = T.sound;
    is = T.is;
  })
  state_still h state (of_stale T) = absurd (let both : None ≡ Some old = sym T.nobody ∙ is in cc both)

-- one that is the same has the same room
pub same_aside : (aside : Option HolderState) → AsideButRoom aside aside
same_aside None = refl
same_aside (Some h) = record { owner = refl; locks = refl; stage = same_stage refl }

-- What holds of a world holds still, where it does so with other room of the one aside.
with_room : (P : Whole → Type 0) (old new : Whole) → WholeButRoom old new → ((h g : HolderState) → old.aside ≡ Some h → HolderButRoom h g → P (record old { aside = Some g })) → P old → P new
with_room P old new S more p = subst P (sym S.rest) (go old.aside new.aside refl S.aside)
  where
    none : (b : Option HolderState) → old.aside ≡ b → P (record old { aside = b })
    none b is = subst P (λ i. record old { aside = is i }) p

    go : (a b : Option HolderState) → old.aside ≡ a → AsideButRoom a b → P (record old { aside = b })
    go (Some h) (Some g) is room = more h g is room
    go (Some h) None is room = absurd (cc room)
    go None b is room = none b (is ∙ sym room)

pub fits_still : (old new : Whole) → WholeButRoom old new → (img : List ℕ) (size : ℕ) → WorldFits old img size → WorldFits new img size
fits_still old new S img size F = with_room (λ w. WorldFits w img size) old new S (λ h g is room. still_fits old h g is room img size F) F

pub states_still : (old new : Whole) → WholeButRoom old new → (h : History) (state : State) → IsStateOf old h state → IsStateOf new h state
states_still old new S h state I = with_room (λ w. IsStateOf w h state) old new S (λ k g is room. state_still old k g is room h state I) I

pub rest_still : (old new : Whole) → WholeButRoom old new → new.openers ≡ old.openers
rest_still old new S = ap (λ (w : Whole). w.openers) S.rest
