-- The faults of an undo area by what was read of it, and the recovery of the whole image.
use Rattle.std.proofs.Common.{◌≡◌, ◌≢◌, ℕ, ◌+◌, ◌*◌, ◌<◌, ◌≤◌, ◌⊎◌, ◌%◌, ◌&&◌, Bool, true, false, Option, Some, None, List, length, take, drop, slice_index, not, refl, sym, ◌∙◌, ap, subst, inl, inr, arith}
use Rattle.std.specs.Prelude.{nat_lt, ◌==◌, if◌then◌else◌}
use Rattle.std.proofs.lemmas.Bool.{le-ltb, or_left, or_right, and_left, and_right, and_cases, not-false, not_from_true, lt-ltb, eq-eqb, ne_eqb, eqb-true}
use Rattle.std.proofs.lemmas.List.{get_or-take, get_or-drop}
use Rattle.tdb_disk.specs.Count.{RoseBy, RoseUpTo}
use Rattle.tdb_disk.specs.History.{History, seen}
use Rattle.tdb_disk.specs.Stop.{Quiet, LeavesOnly}
use Rattle.tdb_disk.proofs.Runs.{leaves_quiet}
use Rattle.tdb_words.specs.declared.record.TheConstants.{GATE_OPEN, GATE_SHUT}
use Rattle.tdb_words.specs.declared.what.What.TheVariants.{AreaBad, UndoBad}
use Rattle.tdb_words.specs.Word.{word}
use Rattle.tdb_words.specs.Record.{rec_at}
use Rattle.tdb_space.specs.Form.{Form, form_of, data_start}
use Rattle.tdb_space.specs.Record.{magic_of, rec_len_of, data_len_of}
use Rattle.tdb_space.specs.Accepted.{Shut, Accept}
use Rattle.tdb_space.specs.FirstFault.{Fault, is_out, is_long}
use Rattle.tdb_space.specs.Opening.{entries, entries_end, entry_fault, undo_fault, is_bad_cut, Undoable, is_open, last_covering, given_back, restored, Opens, Mild}
use Rattle.tdb_space.specs.OpeningFault.{opening_fault}
use Rattle.tdb_space.specs.Undoing.{area_at, old_size, TailOf, Reopens}
use Rattle.tdb_space.proofs.Undoing.Alike.{alike_self, alike_reopens, exact_reopens}
use Rattle.tdb_space.proofs.Form.Headers.{form_kept}
use Rattle.tdb_space.proofs.RecoverySteps.Steps.{restored_no_area, restored_length}
use Rattle.tdb_space.proofs.Undoing.Tails.{tail_reopens}
use Rattle.tdb_space.proofs.Opening.Undone.{read_as_it_is}
use Rattle.tdb_undo.specs.declared.area.Area.{Area}
use Rattle.tdb_undo.specs.Area.{place_fault, place_fault_at, content_fault_at, IsAreaOf, Stands}
use Rattle.tdb_undo.specs.declared.refusal.UndoRefusal.{UndoRefusal}
use Rattle.tdb_undo.specs.declared.refusal.UndoRefusal.TheVariants.{UndoBad as UndoRefused, Io}
use Rattle.tdb_undo.specs.Refusal.{Names, IsIo}
use Rattle.tdb_undo.specs.Recovery.{ReadFrom, recovery_syncs, Undoing, alike, exact, tail}
use Rattle.tdb_undo.specs.Entries.{entries_in, entries_stop, lengths}
use Rattle.tdb_undo.specs.Reads.{entries_reads, recovery_reads}
use Rattle.tdb_undo.proofs.Whole.{same_header, same_entries, same_end, same_old}

-- the first of two faults, where there is one
abbrev pub first_of : Option Fault → Option Fault → Option Fault
first_of (Some e) later = Some e
first_of None later = later

split : (p q : Bool) (a b : Fault) (later : Option Fault) → (if p then Some a else if q then Some b else later) ≡ first_of (if p then Some a else if q then Some b else None) later
split true q a b later = refl
split false true a b later = refl
split false false a b later = refl

-- what the header tells of the content, and then the entries
module _ (f : Form) (img : List ℕ) (a : Area) (is : IsAreaOf f.order img a) (len : ℕ) (long : length img ≡ len) where
  pub by_header : undo_fault f img ≡ first_of (content_fault_at a.header a.at (data_start f) len) (entry_fault (entries_stop a) a.header.key_len (entries_in f.order img a))
  by_header =
      split (is_bad_cut f img (area_at f img)) (nat_lt (rec_len_of f.order img (area_at f img)) (rec_at f.order img (area_at f img)).data_len) (UndoBad, area_at f img + 8) (UndoBad, area_at f img + 12)
      (entry_fault (entries_end f.order img (area_at f img)) (old_size f img) (entries f img))
      ∙ (λ j. first_of (content_fault_at (sym (same_header f img a is) j) (sym is.there j) (data_start f) (long j))
      (entry_fault (sym is.there j + 24 + (sym (same_header f img a is) j).data_len) (sym (same_header f img a is) j).key_len (entries_in f.order img (record { at = sym is.there j; header = sym (same_header f img a is) j }))))

  pub header_bad : (e : Fault) → content_fault_at a.header a.at (data_start f) len ≡ Some e → undo_fault f img ≡ Some e
  header_bad e bad = by_header ∙ ap (λ o. first_of o (entry_fault (entries_stop a) a.header.key_len (entries_in f.order img a))) bad

  pub entries_bad : (o : Option Fault) → content_fault_at a.header a.at (data_start f) len ≡ None → entry_fault (entries_stop a) a.header.key_len (entries_in f.order img a) ≡ o → undo_fault f img ≡ o
  entries_bad o good is_o = by_header ∙ ap (λ p. first_of p (entry_fault (entries_stop a) a.header.key_len (entries_in f.order img a))) good ∙ is_o

  pub undoable : Stands f len a → a.header.magic ≡ GATE_OPEN → undo_fault f img ≡ None → Undoable f img
  undoable s gate good = record {
    in_place = record {
      aligned = ap (λ n. n % 4) (sym is.there) ∙ s.aligned;
      above = omega (arith, s.above, is.there);
      len_aligned = ap (λ r. r.rec_len % 4) (sym (same_header f img a is)) ∙ s.len_aligned;
      within = omega (arith, s.within, same_end f img a is, long);
      gate = inl (ap (λ r. r.magic) (sym (same_header f img a is)) ∙ gate);
    };
    gate_open = ap (λ r. r.magic) (sym (same_header f img a is)) ∙ gate;
    no_fault = good;
  }

-- the place of an undo area without a fault: nothing to undo, or an open gate
none_is : (o : Option Fault) (e : Fault) → o ≡ None → o ≡ Some e → ⊥
none_is o e a b = cc

gone : (p : Bool) (x y : Option Fault) (e : Fault) → x ≡ Some e → (if p then x else y) ≡ None → (p ≡ false) × (y ≡ None)
gone true x y e is h = absurd (none_is x e h is)
gone false x y e is h = (refl, h)

other : (p : Bool) (x y : Option Fault) → p ≡ false → (if p then x else y) ≡ y
other true x y h = absurd (cc)
other false x y h = refl

module _ (f : Form) (img : List ℕ) (good : place_fault f img ≡ None) where
  abbrev at : ℕ
  at = area_at f img

  place_parts : at ≢ 0 → (is_out f img at ≡ false) × (is_long f img at ≡ false) × ((not (magic_of f.order img at == GATE_OPEN) && not (magic_of f.order img at == GATE_SHUT)) ≡ false)
  place_parts some =
      let h : place_fault_at f img at ≡ None = sym (other (at == 0) None (place_fault_at f img at) (ne_eqb at 0 some)) ∙ good in
      let out = gone (is_out f img at) (Some (AreaBad, 44)) _ (AreaBad, 44) refl h in
      let long = gone (is_long f img at) (Some (AreaBad, at + 4)) _ (AreaBad, at + 4) refl out.1 in
      let gate = gone (not (magic_of f.order img at == GATE_OPEN) && not (magic_of f.order img at == GATE_SHUT)) (Some (AreaBad, at + 20)) None (AreaBad, at + 20) refl long.1 in
      (out.0, long.0, gate.0)

  -- there is none
  pub none_closed : at ≡ 0 → is_open f img ≡ false
  none_closed none = rw (lt-ltb at (data_start f) (omega (arith, none))) (and_left _ _ (and_left _ _ (not_from_true _ (or_left _ _ (or_right _ _ refl)))))

  pub none_sound : at ≡ 0 → opening_fault f img ≡ None
  none_sound none = rw (eq-eqb at 0 none) refl

  -- its gate is shut
  pub shut_closed : at ≢ 0 → magic_of f.order img at ≢ GATE_OPEN → is_open f img ≡ false
  shut_closed some shut = and_right _ _ (ne_eqb (magic_of f.order img at) GATE_OPEN shut)

  pub shut_gate : at ≢ 0 → magic_of f.order img at ≢ GATE_OPEN → magic_of f.order img at ≡ GATE_SHUT
  shut_gate some shut = elim (and_cases _ _ (place_parts some).2) [
    | inl wrong ↦ absurd (shut (eqb-true (magic_of f.order img at) GATE_OPEN (not-false _ wrong)))
    | inr is ↦ eqb-true (magic_of f.order img at) GATE_SHUT (not-false _ is)
  ]

  pub shut_sound : at ≢ 0 → magic_of f.order img at ≢ GATE_OPEN → opening_fault f img ≡ None
  shut_sound some shut =
      let p = place_parts some in
      rw (ne_eqb at 0 some) (rw p.0 (rw p.1 (rw (ne_eqb (magic_of f.order img at) GATE_OPEN shut) (rw (eq-eqb (magic_of f.order img at) GATE_SHUT (shut_gate some shut)) refl))))

  -- its gate is open
  pub open_is : at ≢ 0 → magic_of f.order img at ≡ GATE_OPEN → is_open f img ≡ true
  open_is some gate =
      let p = place_parts some in
      rw p.0 (rw p.1 (eq-eqb (magic_of f.order img at) GATE_OPEN gate))

  pub open_fault : at ≢ 0 → magic_of f.order img at ≡ GATE_OPEN → opening_fault f img ≡ undo_fault f img
  open_fault some gate =
      let p = place_parts some in
      rw (ne_eqb at 0 some) (rw p.0 (rw p.1 (rw (eq-eqb (magic_of f.order img at) GATE_OPEN gate) refl)))

-- a fault of its place is the first that opening meets
pub place_first : (f : Form) (img : List ℕ) (e : Fault) → place_fault f img ≡ Some e → opening_fault f img ≡ Some e
place_first f img e bad = go (area_at f img == 0) (is_out f img (area_at f img)) (is_long f img (area_at f img)) (magic_of f.order img (area_at f img) == GATE_OPEN) (magic_of f.order img (area_at f img) == GATE_SHUT) (undo_fault f img) (AreaBad, 44) (AreaBad, area_at f img + 4) (AreaBad, area_at f img + 20) bad
  where
    go : (none out long gate shut : Bool) (undo : Option Fault) (a b c : Fault)
        → (if none then None else if out then Some a else if long then Some b else if not gate && not shut then Some c else None) ≡ Some e
        → (if none then None else if out then Some a else if long then Some b else if gate then undo else if not shut then Some c else None) ≡ Some e
    go true out long gate shut undo a b c h = h
    go false true long gate shut undo a b c h = h
    go false false true gate shut undo a b c h = h
    go false false false true shut undo a b c h = absurd (cc)
    go false false false false true undo a b c h = h
    go false false false false false undo a b c h = h

-- a refusal that names one fault names another where that one tells it, and one of the disk names none
pub names_then : (e : UndoRefusal) (P Q : Fault → Type 0) → ((fault : Fault) → P fault → Q fault) → Names e P → Names e Q
names_then (UndoRefused what at) P Q more h = more (what, at) h
names_then Io P Q more h = tt

pub io_names : (e : UndoRefusal) (P : Fault → Type 0) → IsIo e → Names e P
io_names (UndoRefused what at) P h = absurd h
io_names Io P h = tt

-- while nothing was written, the image itself is left
pub still_alike : (f : Form) (h k : History) → k ≡ h → Quiet h → length (seen h) % 4 ≡ 0 → Undoable f (seen h) → LeavesOnly h k (Undoing f (seen h))
still_alike f h k same quiet sized u = subst (λ m. LeavesOnly h m (Undoing f (seen h))) (sym same) (leaves_quiet h (Undoing f (seen h)) quiet (alike (alike_self f (seen h) sized u)))

-- what was read of the first bytes, and what the entries give back of them
pub read_from : (f : Form) (img : List ℕ) (a : Area) (before after : List ℕ) → (is : IsAreaOf f.order img a) → before ≡ take 64 (drop 0 img)
    → ((i : ℕ) → i < 64 → slice_index after i ≡ given_back (last_covering (entries_in f.order img a) i) i (slice_index before i)) → ReadFrom f img a before after
read_from f img a before after is read given = record {
  area = is;
  front = λ i low. ap (λ l. slice_index l i) read ∙ get_or-take 64 (drop 0 img) i 0 low ∙ get_or-drop 0 img i 0 ∙ ap (slice_index img) (let e : 0 + i ≡ i = omega arith in e);
  given = λ i low. given i low ∙ ap (λ l. given_back (last_covering l i) i (slice_index before i)) (same_entries f img a is);
}

-- an image that opens reopens as it is
pub reopens_itself : (f : Form) (a : List ℕ) → Opens a → Shut (form_of a) a ⊎ Mild a → form_of a ≡ f → Reopens (restored f a) a
reopens_itself f a o again is = subst (λ g. Reopens (restored g a) a) is (elim again [
  | inl shut ↦ (let same = read_as_it_is (form_of a) a shut in subst (λ r. Reopens r a) (sym same) (exact_reopens a (subst Accept same o.accepted)))
  | inr mild ↦ alike_reopens a a o mild (alike_self (form_of a) a o.sized mild.undoable)
])

pub still_reopens : (f : Form) (h k : History) → k ≡ h → Quiet h → Opens (seen h) → Shut (form_of (seen h)) (seen h) ⊎ Mild (seen h) → form_of (seen h) ≡ f → LeavesOnly h k (Reopens (restored f (seen h)))
still_reopens f h k same quiet o again is =
    subst (λ m. LeavesOnly h m (Reopens (restored f (seen h)))) (sym same) (leaves_quiet h (Reopens (restored f (seen h))) quiet (reopens_itself f (seen h) o again is))

-- what a stop of a recovery leaves reopens
pub undoing_reopens : (f : Form) (a c : List ℕ) → Opens a → Mild a → form_of a ≡ f → Undoing f a c → Reopens (restored f a) c
undoing_reopens f a c o mild is s = go (subst (λ g. Undoing g a c) (sym is) s)
  where
    own : form_of (restored (form_of a) a) ≡ form_of a
    own = form_kept a (restored (form_of a) a) mild.header

    move : Reopens (restored (form_of a) a) c → Reopens (restored f a) c
    move r = subst (λ g. Reopens (restored g a) c) is r

    go : Undoing (form_of a) a c → Reopens (restored f a) c
    go (alike t) = move (alike_reopens a c o mild t)
    go (exact e) = move (subst (Reopens (restored (form_of a) a)) (sym e) (exact_reopens (restored (form_of a) a) o.accepted))
    go (tail high t) = move (tail_reopens (restored (form_of a) a) c o.accepted
        (subst (λ g. word g.order (restored (form_of a) a) 44 ≡ 0) (sym own) (restored_no_area (form_of a) a mild.undoable high))
        (subst (λ g. TailOf g (restored (form_of a) a) c) (sym own) t))

-- where the gate is open it isn't shut
pub open_not_shut : (f : Form) (a : List ℕ) → area_at f a ≢ 0 → magic_of f.order a (area_at f a) ≡ GATE_OPEN → Shut f a → ⊥
open_not_shut f a some gate (inl none) = some none
open_not_shut f a some gate (inr shut) = absurd (omega (arith, gate, shut))

-- where the gate is open the image is Mild
pub mild_where_open : (f : Form) (a : List ℕ) → form_of a ≡ f → Shut (form_of a) a ⊎ Mild a → area_at f a ≢ 0 → magic_of f.order a (area_at f a) ≡ GATE_OPEN → Mild a
mild_where_open f a is (inl shut) some gate = absurd (open_not_shut f a some gate (subst (λ g. Shut g a) is shut))
mild_where_open f a is (inr mild) some gate = mild

-- the old length of an image that opens is a whole number of words
pub old_words : (f : Form) (a : List ℕ) → Opens a → form_of a ≡ f → Undoable f a → old_size f a % 4 ≡ 0
old_words f a o is u = ap (λ n. n % 4) (sym (restored_length f a u) ∙ ap (λ g. length (restored g a)) (sym is)) ∙ o.accepted.sized

-- an image whose gate isn't open is read as it is, keeps no byte to give back, and needs no sync
pub closed_same : (f : Form) (a : List ℕ) → is_open f a ≡ false → restored f a ≡ a
closed_same f a closed = rw closed refl

pub closed_sum : (f : Form) (a : List ℕ) → is_open f a ≡ false → (if is_open f a then lengths (entries f a) else 0) ≡ 0
closed_sum f a closed = rw closed refl

pub closed_syncs : (f : Form) (a : List ℕ) → is_open f a ≡ false → recovery_syncs f a ≡ 0
closed_syncs f a closed = rw closed refl

pub open_sum : (f : Form) (a : List ℕ) → is_open f a ≡ true → (if is_open f a then lengths (entries f a) else 0) ≡ lengths (entries f a)
open_sum f a opened = rw opened refl

pub open_syncs : (f : Form) (a : List ℕ) (area : Area) → IsAreaOf f.order a area → is_open f a ≡ true → (before now : ℕ)
    → ((area.at < area.header.key_len) × RoseBy 3 before now) ⊎ ((area.header.key_len ≤ area.at) × RoseBy 6 before now) → RoseBy (recovery_syncs f a) before now
open_syncs f a area is opened before now (inl below) = rw opened (rw (lt-ltb (area_at f a) (old_size f a) (omega (arith, below.0, is.there, same_old f a area is))) below.1)
open_syncs f a area is opened before now (inr behind) = rw opened (rw (le-ltb (area_at f a) (old_size f a) (omega (arith, behind.0, is.there, same_old f a area is))) behind.1)

-- what was read: the area's place and header, and what the undo reads
pub open_reads : (f : Form) (a : List ℕ) (area : Area) → IsAreaOf f.order a area → is_open f a ≡ true → (before middle now : ℕ)
    → RoseUpTo 28 before middle → RoseUpTo (64 + 2 * entries_reads area.header.data_len) middle now → RoseUpTo (recovery_reads f a) before now
open_reads f a area is opened before middle now found undone =
    let whole : recovery_reads f a ≡ 28 + (64 + 2 * entries_reads (data_len_of f.order a (area_at f a))) = rw opened refl in
    let content : area.header.data_len ≡ data_len_of f.order a (area_at f a) = λ j. (same_header f a area is j).data_len in
    record { no_more = omega (arith, whole, content, found.no_more, undone.no_more); never_falls = omega (arith, found.never_falls, undone.never_falls) }
