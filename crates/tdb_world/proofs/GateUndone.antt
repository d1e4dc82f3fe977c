-- The gate that a dead opener left open is undone.
use Rattle.std.proofs.Common.{◌≡◌, ℕ, ◌+◌, ◌≤◌, List, true, false, length, Some, None, refl, sym, ◌∙◌, ap, subst, inl, inr, arith}
use Rattle.tdb_disk.specs.Count.{RoseBy}
use Rattle.tdb_disk.specs.History.{History, seen}
use Rattle.tdb_words.specs.declared.what.What.{What}
use Rattle.tdb_space.specs.Form.{Form, form_of}
use Rattle.tdb_space.specs.Opening.{restored, Opens}
use Rattle.tdb_space.specs.OpeningFault.{opening_fault}
use Rattle.tdb_space.proofs.Opening.Undone.{read_as_it_is}
use Rattle.tdb_space.proofs.OpeningFault.OneFault.{opening_to}
use Rattle.tdb_space.proofs.RecoverySteps.Steps.{restored_length}
use Rattle.tdb_space.proofs.Undoing.Alike.{alike_self}
use Rattle.tdb_undo.specs.Refusal.{Names}
use Rattle.tdb_undo.specs.declared.refusal.UndoRefusal.{UndoRefusal}
use Rattle.tdb_undo.specs.declared.refusal.UndoRefusal.TheVariants.{UndoBad}
use Rattle.tdb_law.specs.Events.{Undoes}
use Rattle.tdb_law.specs.World.{State, IsSound}
use Rattle.tdb_law.proofs.Tests.{never_true}
use Rattle.tdb_law.specs.OneAside.Sides.{alone}
use Rattle.tdb_law.specs.OneAside.Starts.{with_starts}
use Rattle.tdb_openers.specs.Worlds.{state_in}
use Rattle.tdb_openers.proofs.Files.Images.{image_keeps_file}
use Rattle.tdb_openers.proofs.Walks.StillWalks.{still_shift}
use Rattle.tdb_world.specs.States.{SideIs}
use Rattle.tdb_world.specs.States.IsStateOf.{of_whole, of_stale}
use Rattle.tdb_world.specs.Steps.{UndoLeads}
use Rattle.tdb_world.specs.Whole.{form_at, is_starting, AsideFits, Whole, WorldFits}
use Rattle.tdb_world.proofs.Standings.{any_image}

-- an image that opens has no fault in its undo area
pub no_fault : (f : Form) (a : List ℕ) → form_of a ≡ f → Opens a → opening_fault f a ≡ None
no_fault f a is O = subst (λ g. opening_fault g a ≡ None) is (opening_to (form_of a) a O.area_ok O.undo)

-- so its recovery isn't refused for one
pub never_bad : (f : Form) (a : List ℕ) (e : UndoRefusal) (what : What) (at : ℕ) (Rest : Type 0) → form_of a ≡ f → Opens a → e ≡ UndoBad what at → Names e (λ fault. (opening_fault f a ≡ Some fault) × Rest) → ⊥
never_bad f a e what at Rest is O bad names =
    let found : opening_fault f a ≡ Some (what, at) = (subst (λ z. Names z (λ fault. (opening_fault f a ≡ Some fault) × Rest)) bad names).0 in
    let none = no_fault f a is O in
    cc (found, none)

-- and it is no shorter than what its undo gives
pub gets_shorter : (f : Form) (a : List ℕ) → form_of a ≡ f → Opens a → length (restored f a) ≤ length a
gets_shorter f a is O = subst (λ g. length (restored g a) ≤ length a) is (elim O.undo [
  | inl shut ↦ (let same = ap length (read_as_it_is (form_of a) a shut) in omega (arith, same))
  | inr u ↦ (let size = restored_length (form_of a) a u in let reach = (alike_self (form_of a) a O.sized u).reach in omega (arith, size, reach))
])

-- counts that rise one after the other
pub rose_then : (n m a b c : ℕ) → RoseBy n a b → RoseBy m b c → RoseBy (n + m) a c
rose_then n m a b c one two = record {
  no_less = let first = one.no_less in let second = two.no_less in omega (arith, first, second);
  no_more = let first = one.no_more in let second = two.no_more in omega (arith, first, second);
  never_falls = let first = one.never_falls in let second = two.never_falls in omega (arith, first, second);
}

-- what a sync, an undo and a cut that isn't made leave
pub restored_by : (f : Form) (h mid done later : History) (len size : ℕ) → seen mid ≡ seen h → (form_of (seen mid) ≡ f → Opens (seen mid) → seen done ≡ restored f (seen mid)) → len ≡ length (seen h)
    → length (seen done) ≡ size → (size ≤ len → later ≡ done) → form_of (seen h) ≡ f → Opens (seen h) → seen later ≡ restored f (seen h)
restored_by f h mid done later len size same undo long short still is O =
    let made : seen done ≡ restored f (seen h) = subst (λ a. form_of a ≡ f → Opens a → seen done ≡ restored f a) same undo is O in
    let less = gets_shorter f (seen h) is O in
    let size_is = ap length made in
    ap seen (still (omega (arith, less, size_is, long, short))) ∙ made

-- a stale state is as sound where no gate stands open
shut_sound : (p : State) (f : Form) → IsSound f (record p { stale = true }) → p.stale ≡ false → IsSound f p
shut_sound p f S shut = record {
  chains = S.chains;
  agrees = S.agrees;
  apart = S.apart;
  stands = S.stands;
  busy_there = S.busy_there;
  live_joined = S.live_joined;
  stale = λ e. absurd (never_true (sym shut ∙ e));
}

-- The world is as it was but for its gate, and the file may be shorter.
module _ (w : Whole) (a : List ℕ) (size : ℕ) (F : WorldFits w a size) (was : w.stale ≡ true) where
  abbrev pub undone_world : Whole
  undone_world = record w { stale = false }

  pub undone_fits : (b : List ℕ) (shorter : ℕ) → shorter ≤ size → WorldFits undone_world b shorter
  undone_fits b shorter less = record {
    openers = (F.stale was).lengths b shorter (let short = F.openers.short in omega (arith, short, less));
    each = F.each;
    starts = λ o e. (let S = F.starts o e in record { opener = S.opener; there = S.there; bare = S.bare; none = S.none; writes = S.writes });
    aside = subst (λ z. AsideFits undone_world z shorter) (sym (F.stale was).nobody) tt;
    stale = λ e. absurd (cc e);
  }

  -- The file is what the undo gives, which is accepted; no command and no cursor holds a record, so the openers' bytes
  -- stand.
  pub undone_leads : (h later : History) → (form_of (seen h) ≡ form_at w → Opens (seen h) → seen later ≡ restored (form_at w) (seen h)) → UndoLeads w undone_world h later
  undone_leads h later undo state (of_whole S) = absurd (never_true (sym S.fresh ∙ was))
  undone_leads h later undo state (of_stale S) =
      let p = alone (state_in w.openers S.image) S.past in
      let file : S.image ≡ seen later = S.undone ∙ sym (undo S.form S.reopens.opens.opens) in (
        with_starts (is_starting w.starts) p,
        of_whole (record {
          fresh = refl;
          image = S.image;
          past = S.past;
          side = None;
          is_side = subst (λ z. SideIs undone_world z later S.image S.past None) (sym S.nobody) (record {
            image = file;
            bytes = image_keeps_file (form_at w) w.openers.options w.openers.openers w.openers.table S.image S.image size (any_image w.openers a S.image size F.openers) S.apart S.accepted;
          });
          sound = shut_sound p (form_at w) S.sound refl;
          is = refl;
        }),
        subst (λ z. Undoes (form_at w) z (with_starts (is_starting w.starts) p)) (sym S.is) (record { was = refl; now = refl; rest = refl; walk = λ o. still_shift (form_at w) _ (p.mark o) }),
      )
