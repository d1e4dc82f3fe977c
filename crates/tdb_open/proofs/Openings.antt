-- What an opening answers and leaves, from what its parts found.
use Rattle.std.proofs.Common.{◌≡◌, ◌≢◌, ℕ, ◌+◌, ◌⊎◌, ◌≤◌, true, false, List, length, Option, Some, None, refl, sym, ◌∙◌, ap, subst, inl, inr, arith}
use Rattle.std.specs.Prelude.{◌<◌, ◌%◌, Bool, ◌==◌, ◌&&◌, not, if◌then◌else◌, Result, Ok, Err, IfErr, OnOk}
use Rattle.std.proofs.lemmas.Bool.{cases_eq, false≢true}
use Rattle.tdb_disk.specs.History.{History, seen}
use Rattle.tdb_disk.specs.Stop.{Quiet, LeavesOnly}
use Rattle.tdb_words.specs.Word.{word}
use Rattle.tdb_words.specs.Header.{header_at}
use Rattle.tdb_words.specs.declared.what.What.TheVariants.{Short as TooShort, Header as BadHeader, AreaBad}
use Rattle.tdb_words.specs.declared.record.TheConstants.{GATE_OPEN, GATE_SHUT}
use Rattle.tdb_space.specs.Form.{Form, form_of}
use Rattle.tdb_space.specs.Record.{magic_of}
use Rattle.tdb_space.specs.Accepted.{Shut, Accept}
use Rattle.tdb_space.specs.FirstFault.{Fault, is_out, is_long, front_fault, IsFirstFault, at_front}
use Rattle.tdb_space.specs.Opening.{is_open, entries, restored, Opens, Mild}
use Rattle.tdb_space.specs.OpeningFault.{opening_fault, IsOpeningFault, in_front, in_undo_area, in_restored}
use Rattle.tdb_space.specs.Undoing.{Reopens}
use Rattle.tdb_space.proofs.FirstFault.Agreed.{front_ok, accepted_no_fault}
use Rattle.tdb_space.proofs.FirstFault.Faults.{none_first}
use Rattle.tdb_space.proofs.OpeningFault.OneFault.{opens_or_fault}
use Rattle.tdb_check.specs.Front.{Refuses}
use Rattle.tdb_check.specs.Report.{Counted}
use Rattle.tdb_check.specs.Seen.{Names}
use Rattle.tdb_check.specs.declared.front.FrontRefusal as Front
use Rattle.tdb_check.specs.declared.refusal.CheckRefusal as Check
use Rattle.tdb_undo.specs.declared.refusal.UndoRefusal as Undo
use Rattle.tdb_undo.specs.Refusal.{Names as Tells}
use Rattle.tdb_undo.specs.Area.{place_fault}
use Rattle.tdb_undo.specs.Entries.{lengths}
use Rattle.tdb_undo.proofs.Found.{none_sound, shut_sound, open_is, place_first, still_reopens}
use Rattle.tdb_open.specs.declared.halt.Halt.{Halt}
use Rattle.tdb_open.specs.declared.halt.Halt.TheVariants.{Refused, Device, Memory, Log}
use Rattle.tdb_open.specs.declared.halt.Refusal.TheVariants.{TooLong, Header, Corrupt, NeedsRecovery}
use Rattle.tdb_open.specs.declared.opening.Opened.{Opened}
use Rattle.tdb_open.specs.declared.limits.TheConstants.{LONGEST_FILE}
use Rattle.tdb_open.specs.Opening.{opened_bytes, CanOpen, CanRead, HasOpenGate, IsOpenedOn, IsCheckedOn, Undone, SameOrUndone, UndoneIfOpen, UndoBroken, HaltsRightly, ReadHaltsRightly, HaltsAtFault, HaltLeaves, asks_for_undo, of_front, of_restored_front, of_undo, of_check, OpenedBelow, HaltsBelow, LeavesBelow, ReadHaltsBelow}
use Rattle.tdb_open.specs.Opening.{OpensSafely}

pub none_some : (o : Option Fault) (e : Fault) → o ≡ None → o ≡ Some e → ⊥
none_some o e none some = cc

short_apart : (o : Option Fault) (x y : Fault) → o ≡ Some x → o ≡ Some y → (x.0 ≡ y.0 → ⊥) → ⊥
short_apart o x y a b apart = let both : Some x ≡ Some y = sym a ∙ b in let same : x ≡ y = cc in apart (ap (λ e. e.0) same)

-- an image whose gate isn't open is read as it is
pub closed_reads : (img : List ℕ) → is_open (form_of img) img ≡ false → opened_bytes img ≡ img
closed_reads img closed = rw closed refl

-- where the place of its undo area is sound and its gate isn't open, opening finds nothing wrong with it
closed_sound : (f : Form) (img : List ℕ) → place_fault f img ≡ None → is_open f img ≡ false → opening_fault f img ≡ None
closed_sound f img good closed =
    elim (cases_eq (word f.order img 44) 0) [
      | inl none ↦ none_sound f img good none
      | inr some ↦
          elim (cases_eq (magic_of f.order img (word f.order img 44)) GATE_OPEN) [
            | inl gate ↦ absurd (false≢true (sym closed ∙ open_is f img good some gate))
            | inr shut ↦ shut_sound f img good some shut
          ]
    ]

module _ (img : List ℕ) (within : length img ≤ LONGEST_FILE) where
  -- a refusal of the front is rightly told
  pub front_halts : (e : Front.FrontRefusal) → Refuses img e → HaltsRightly img (of_front e)
  front_halts (Front.TheVariants.Short len) h = (within, (λ header. short_apart (front_fault img) (TooShort, len) (BadHeader, 0) h header (λ e. cc)), in_front _ h)
  front_halts (Front.TheVariants.Header fault) h = (within, h.0, h.1)
  front_halts Front.TheVariants.Io h = tt

  module _ (front : front_fault img ≡ None) where
    own_header : front_fault img ≢ Some (BadHeader, 0)
    own_header header = none_some (front_fault img) (BadHeader, 0) front header

    -- and so is one of the undo area
    pub undo_halts : (e : Undo.UndoRefusal) → Tells e (λ fault. opening_fault (form_of img) img ≡ Some fault) → HaltsRightly img (of_undo e)
    undo_halts (Undo.TheVariants.UndoBad what at) h = (within, own_header, in_undo_area (what, at) front h)
    undo_halts Undo.TheVariants.Io h = tt

    pub place_halts : (e : Undo.UndoRefusal) → Tells e (λ fault. place_fault (form_of img) img ≡ Some fault) → HaltsRightly img (of_undo e)
    place_halts (Undo.TheVariants.UndoBad what at) h = (within, own_header, in_undo_area (what, at) front (place_first (form_of img) img (what, at) h))
    place_halts Undo.TheVariants.Io h = tt

    -- and a fault of the image that it is read as
    pub restored_halts : (halt : Halt) → opening_fault (form_of img) img ≡ None → HaltsAtFault (opened_bytes img) halt → HaltsRightly img halt
    restored_halts (Refused (TooLong len)) sound h = absurd h
    restored_halts (Refused (Header fault)) sound h = absurd h
    restored_halts (Refused NeedsRecovery) sound h = absurd h
    restored_halts (Refused (Corrupt what at)) sound h = (within, own_header, in_restored (what, at) front sound h)
    restored_halts Device sound h = tt
    restored_halts Memory sound h = tt
    restored_halts Log sound h = absurd h

    pub check_halts : (e : Check.CheckRefusal) → place_fault (form_of img) img ≡ None → is_open (form_of img) img ≡ false → Names e (IsFirstFault img) → HaltsRightly img (of_check e)
    check_halts (Check.TheVariants.Corrupt what at) good closed h =
        (within, own_header, in_restored (what, at) front (closed_sound (form_of img) img good closed) (subst (λ i. IsFirstFault i (what, at)) (sym (closed_reads img closed)) h))
    check_halts Check.TheVariants.Io good closed h = tt
    check_halts Check.TheVariants.Memory good closed h = tt

    -- what can be opened: nothing is wrong with the front and the undo area, and what the image is read as is accepted
    pub opens_where : opening_fault (form_of img) img ≡ None → Accept (opened_bytes img) → CanOpen img
    opens_where sound accepted = elim (opens_or_fault img) [
      | inl opens ↦ record { opens = opens; within = within }
      | inr found ↦ absurd (no_fault found.0 found.1)
    ]
      where
        no_fault : (e : Fault) → IsOpeningFault img e → ⊥
        no_fault _ (in_front e h) = none_some (front_fault img) e front h
        no_fault _ (in_undo_area e f h) = none_some (opening_fault (form_of img) img) e sound h
        no_fault _ (in_restored e f o h) = none_first (opened_bytes img) e h (accepted_no_fault (opened_bytes img) accepted)

-- where the place of an undo area has a fault its gate isn't open
place_not_open : (f : Form) (img : List ℕ) (e : Fault) → place_fault f img ≡ Some e → is_open f img ≡ false
place_not_open f img e bad =
    let at = word f.order img 44 in
    go (at == 0) (is_out f img at) (is_long f img at) (magic_of f.order img at == GATE_OPEN) (magic_of f.order img at == GATE_SHUT) (AreaBad, 44) (AreaBad, at + 4) (AreaBad, at + 20) bad
  where
    go : (none out long gate shut : Bool) (a b c : Fault) → (if none then None else if out then Some a else if long then Some b else if not gate && not shut then Some c else None) ≡ Some e → (not out && not long && gate) ≡ false
    go true out long gate shut a b c h = absurd (cc)
    go false true long gate shut a b c h = refl
    go false false true gate shut a b c h = refl
    go false false false true shut a b c h = absurd (cc)
    go false false false false shut a b c h = refl

-- a file that was to be read alone, and isn't one to be undone first, is refused as others are
read_rightly : (img : List ℕ) (halt : Halt) → HaltsRightly img halt → (HasOpenGate img → ⊥) → ReadHaltsRightly img halt
read_rightly img (Refused (TooLong len)) h none = h
read_rightly img (Refused (Header fault)) h none = h
read_rightly img (Refused (Corrupt what at)) h none = (h, none)
read_rightly img (Refused NeedsRecovery) h none = absurd h
read_rightly img Device h none = tt
read_rightly img Memory h none = none
read_rightly img Log h none = none

pub no_open_gate : (img : List ℕ) → is_open (form_of img) img ≡ false → HasOpenGate img → ⊥
no_open_gate img closed gate = false≢true (sym closed ∙ gate.gate_open)

module _ (img : List ℕ) (within : length img ≤ LONGEST_FILE) where
  pub front_read : (e : Front.FrontRefusal) → Refuses img e → ReadHaltsRightly img (of_front e)
  front_read (Front.TheVariants.Short len) h = read_rightly img (of_front (Front.TheVariants.Short len)) (front_halts img within (Front.TheVariants.Short len) h) (λ gate. none_some (front_fault img) _ gate.front h)
  front_read (Front.TheVariants.Header fault) h = read_rightly img (of_front (Front.TheVariants.Header fault)) (front_halts img within (Front.TheVariants.Header fault) h) (λ gate. none_some (front_fault img) _ gate.front h.0)
  front_read Front.TheVariants.Io h = tt

  module _ (front : front_fault img ≡ None) where
    pub place_read : (e : Undo.UndoRefusal) → Tells e (λ fault. place_fault (form_of img) img ≡ Some fault) → ReadHaltsRightly img (of_undo e)
    place_read (Undo.TheVariants.UndoBad what at) h =
        read_rightly img (of_undo (Undo.TheVariants.UndoBad what at)) (place_halts img within front (Undo.TheVariants.UndoBad what at) h) (no_open_gate img (place_not_open (form_of img) img (what, at) h))
    place_read Undo.TheVariants.Io h = tt

    pub check_read : (e : Check.CheckRefusal) → place_fault (form_of img) img ≡ None → is_open (form_of img) img ≡ false → Names e (IsFirstFault img) → ReadHaltsRightly img (of_check e)
    check_read e good closed h = read_rightly img (of_check e) (check_halts img within front e good closed h) (no_open_gate img closed)

    -- what is read alone: its gate isn't open, and it is accepted
    pub can_read : place_fault (form_of img) img ≡ None → is_open (form_of img) img ≡ false → Accept img → CanRead img
    can_read good closed accepted = record {
      can_open = opens_where img within front (closed_sound (form_of img) img good closed) (subst Accept (sym (closed_reads img closed)) accepted);
      shut = closed;
    }

-- the same refusals where the file may be undone first
pub read_halts : (img : List ℕ) (halt : Halt) → asks_for_undo halt ≡ false → ReadHaltsRightly img halt → HaltsRightly img halt
read_halts img (Refused (TooLong len)) asks h = h
read_halts img (Refused (Header fault)) asks h = h
read_halts img (Refused (Corrupt what at)) asks h = h.0
read_halts img (Refused NeedsRecovery) asks h = absurd (false≢true (sym asks))
read_halts img Device asks h = tt
read_halts img Memory asks h = tt
read_halts img Log asks h = tt

-- a file that isn't one to be undone is left as it is
module _ (old now : History) (same : now ≡ old) where
  kept_where : (HasOpenGate (seen old) → ⊥) → UndoneIfOpen old now
  kept_where none = inr ((λ u. none (record { within = u.within; front = u.front; gate_open = u.gate_open })), same)

  pub read_leaves : (halt : Halt) → asks_for_undo halt ≡ false → ReadHaltsRightly (seen old) halt → HaltLeaves halt old now
  read_leaves (Refused (TooLong len)) asks h = kept_where (λ gate. absurd (omega (arith, h.0, h.1, gate.within)))
  read_leaves (Refused (Header fault)) asks h = kept_where (λ gate. none_some (front_fault (seen old)) _ gate.front h.1)
  read_leaves (Refused (Corrupt what at)) asks h = kept_where h.1
  read_leaves (Refused NeedsRecovery) asks h = absurd (false≢true (sym asks))
  read_leaves Device asks h = inl (inr same)
  read_leaves Memory asks h = kept_where h
  read_leaves Log asks h = kept_where h

  pub front_leaves : (e : Front.FrontRefusal) → front_fault (seen old) ≡ None → Refuses (seen old) e → HaltLeaves (of_front e) old now
  front_leaves (Front.TheVariants.Short len) front h = absurd (none_some (front_fault (seen old)) _ front h)
  front_leaves (Front.TheVariants.Header fault) front h = absurd (none_some (front_fault (seen old)) _ front h.0)
  front_leaves Front.TheVariants.Io front h = inl (inr same)

  pub shut_leaves : is_open (form_of (seen old)) (seen old) ≡ false → UndoneIfOpen old now
  shut_leaves closed = kept_where (no_open_gate (seen old) closed)

-- a refusal of the front that an undo gave, and a fault that the check then found
pub front_at_fault : (img : List ℕ) (e : Front.FrontRefusal) → Refuses img e → HaltsAtFault img (of_restored_front e)
front_at_fault img (Front.TheVariants.Short len) h = at_front _ h
front_at_fault img (Front.TheVariants.Header fault) h = at_front _ h.0
front_at_fault img Front.TheVariants.Io h = tt

pub check_at_fault : (img : List ℕ) (e : Check.CheckRefusal) → Names e (IsFirstFault img) → HaltsAtFault img (of_check e)
check_at_fault img (Check.TheVariants.Corrupt what at) h = h
check_at_fault img Check.TheVariants.Io h = tt
check_at_fault img Check.TheVariants.Memory h = tt

-- an opening that was undone, and then halted
pub undone_halts : (halt : Halt) (old now : History) → Undone old now → HaltLeaves halt old now
undone_halts (Refused refusal) old now undone = inl undone
undone_halts Device old now undone = inl (inl undone)
undone_halts Memory old now undone = inl undone
undone_halts Log old now undone = inl undone

-- a refusal of the undo: its fault was told before anything was written, or a call failed in its midst
pub undo_leaves : (old now : History) (e : Undo.UndoRefusal) → Tells e (λ fault. (opening_fault (form_of (seen old)) (seen old) ≡ Some fault) × (now ≡ old)) → UndoBroken old now → HaltLeaves (of_undo e) old now
undo_leaves old now (Undo.TheVariants.UndoBad what at) h broken = inr ((λ u. none_some (opening_fault (form_of (seen old)) (seen old)) _ u.sound h.0), h.1)
undo_leaves old now Undo.TheVariants.Io h broken = inr broken

-- what it leaves that halted otherwise than for a call that failed
pub other_halts : (halt : Halt) (old now : History) → (halt ≡ Device → ⊥) → HaltLeaves halt old now → UndoneIfOpen old now
other_halts (Refused refusal) old now other left = left
other_halts Device old now other left = absurd (other refl)
other_halts Memory old now other left = left
other_halts Log old now other left = left

-- the weaker of the two, where a look after the opening leaves what it left
pub same_or_undone : (old now : History) → UndoneIfOpen old now → SameOrUndone old now
same_or_undone old now (inl undone) = inl undone
same_or_undone old now (inr kept) = inr kept.1

-- an opened file, after an undo and where there was nothing to undo
module _ (img : List ℕ) (within : length img ≤ LONGEST_FILE) (front : front_fault img ≡ None) (o : Opened) where
  pub undone_opened : (now : List ℕ) → opening_fault (form_of img) img ≡ None → now ≡ opened_bytes img → IsCheckedOn now o → IsOpenedOn img o
  undone_opened now sound bytes checked = record {
    can_open = opens_where img within front sound (subst Accept bytes checked.accepted);
    header = checked.header ∙ ap header_at bytes;
    counted = subst (λ i. Counted i o.report) bytes checked.counted;
  }

-- a file that was read alone is opened as it is
pub read_opened : (img : List ℕ) (o : Opened) → CanRead img → IsCheckedOn img o → IsOpenedOn img o
read_opened img o can checked =
    let as_it_is = sym (closed_reads img can.shut) in
    record { can_open = can.can_open; header = checked.header ∙ ap header_at as_it_is; counted = subst (λ i. Counted i o.report) as_it_is checked.counted }

-- what the undo of a file gives, told of the file before its header was read
module _ (old mid now : History) (f : Form) (same : mid ≡ old) (form : f ≡ form_of (seen old)) where
  pub undo_sound : front_fault (seen old) ≡ None → (length (seen mid) % 4 ≡ 0 → opening_fault f (seen mid) ≡ None) → opening_fault (form_of (seen old)) (seen old) ≡ None
  undo_sound front sound =
      subst (λ (q : Form × History). length (seen q.1) % 4 ≡ 0 → opening_fault q.0 (seen q.1) ≡ None) (λ j. (form j, same j)) sound (front_ok (seen old) front).sized

  pub undo_reads : front_fault (seen old) ≡ None → (length (seen mid) % 4 ≡ 0 → seen now ≡ restored f (seen mid)) → seen now ≡ opened_bytes (seen old)
  undo_reads front reads =
      subst (λ (q : Form × History). length (seen q.1) % 4 ≡ 0 → seen now ≡ restored q.0 (seen q.1)) (λ j. (form j, same j)) reads (front_ok (seen old) front).sized

  pub undo_stops : (Quiet mid → Opens (seen mid) → Shut (form_of (seen mid)) (seen mid) ⊎ Mild (seen mid) → form_of (seen mid) ≡ f → LeavesOnly mid now (Reopens (restored f (seen mid)))) → OpensSafely old now
  undo_stops stops quiet opens again =
      subst (λ (q : Form × History). Quiet q.1 → Opens (seen q.1) → Shut (form_of (seen q.1)) (seen q.1) ⊎ Mild (seen q.1) → form_of (seen q.1) ≡ q.0 → LeavesOnly q.1 now (Reopens (restored q.0 (seen q.1))))
      (λ j. (form j, same j)) stops quiet opens again refl

  -- how many bytes it put back, where the gate was open
  pub undo_sum : (n : ℕ) → is_open (form_of (seen old)) (seen old) ≡ true → n ≡ (if is_open f (seen mid) then lengths (entries f (seen mid)) else 0) → n ≡ lengths (entries (form_of (seen old)) (seen old))
  undo_sum n gate sum =
      subst (λ (q : Form × History). n ≡ (if is_open q.0 (seen q.1) then lengths (entries q.0 (seen q.1)) else 0)) (λ j. (form j, same j)) sum
      ∙ ap (λ b. if b then lengths (entries (form_of (seen old)) (seen old)) else 0) gate

-- what stops leave of a file that an opening leaves as it is
pub still_safe : (old now : History) → now ≡ old → OpensSafely old now
still_safe old now same quiet opens again = still_reopens (form_of (seen old)) old now same quiet opens again refl

-- bytes that were checked, after calls that left them
pub checked_still : (old now : History) (o : Opened) → now ≡ old → Accept (seen old) → o.header ≡ header_at (seen old) → Counted (seen old) o.report → IsCheckedOn (seen now) o
checked_still old now o same accepted header counted = subst (λ h. IsCheckedOn (seen h) o) (sym same) (record { accepted = accepted; header = header; counted = counted })

-- a file that may have so many bytes is refused where it has more
pub long_halts : (limit len : ℕ) (img : List ℕ) → len ≡ length img → limit < len → HaltsBelow limit img (Refused (TooLong len))
long_halts limit len img is past = let long : limit < length img = omega (arith, is, past) in inl (ap TooLong is, long)

pub long_leaves : (limit len : ℕ) (old now : History) → len ≡ length (seen old) → limit < len → now ≡ old → OpenedBelow limit old now
long_leaves limit len old now is past same = let long : limit < length (seen old) = omega (arith, is, past) in inl (long, same)

pub long_unread : (limit len : ℕ) (img : List ℕ) → len ≡ length img → limit < len → ReadHaltsBelow limit img (Refused (TooLong len))
long_unread limit len img is past = let long : limit < length img = omega (arith, is, past) in inl (ap TooLong is, long)

-- and else as any opening refuses it
below_halts : (limit : ℕ) (img : List ℕ) (halt : Halt) → length img ≤ limit → HaltsRightly img halt → HaltsBelow limit img halt
below_halts limit img (Refused refusal) within right = inr (within, right)
below_halts limit img Device within right = tt
below_halts limit img Memory within right = tt
below_halts limit img Log within right = tt

below_unread : (limit : ℕ) (img : List ℕ) (halt : Halt) → length img ≤ limit → ReadHaltsRightly img halt → ReadHaltsBelow limit img halt
below_unread limit img (Refused refusal) within right = inr (within, right)
below_unread limit img Device within right = tt
below_unread limit img Memory within right = tt
below_unread limit img Log within right = tt

below_leaves : (limit : ℕ) (old now : History) (halt : Halt) → HaltLeaves halt old now → LeavesBelow limit halt old now
below_leaves limit old now (Refused refusal) left = inr left
below_leaves limit old now Device left = left
below_leaves limit old now Memory left = left
below_leaves limit old now Log left = left

module _ (told : Type 0) (limit : ℕ) (r : Result Opened Halt) where
  pub within_opened : (img : List ℕ) → (told → length img ≤ limit) → OnOk r (told → length img ≤ limit)
  within_opened img within = of r
    where
      of : (r : Result Opened Halt) → OnOk r (told → length img ≤ limit)
      of (Ok o) = within
      of (Err halt) = tt

  pub halted_below : (img : List ℕ) → (told → length img ≤ limit) → IfErr r (λ halt. told → HaltsRightly img halt) → IfErr r (λ halt. told → HaltsBelow limit img halt)
  halted_below img within = of r
    where
      of : (r : Result Opened Halt) → IfErr r (λ halt. told → HaltsRightly img halt) → IfErr r (λ halt. told → HaltsBelow limit img halt)
      of (Ok o) right = tt
      of (Err halt) right = λ is. below_halts limit img halt (within is) (right is)

  pub unread_below : (img : List ℕ) → (told → length img ≤ limit) → IfErr r (λ halt. told → ReadHaltsRightly img halt) → IfErr r (λ halt. told → ReadHaltsBelow limit img halt)
  unread_below img within = of r
    where
      of : (r : Result Opened Halt) → IfErr r (λ halt. told → ReadHaltsRightly img halt) → IfErr r (λ halt. told → ReadHaltsBelow limit img halt)
      of (Ok o) right = tt
      of (Err halt) right = λ is. below_unread limit img halt (within is) (right is)

  pub left_below : (old now : History) → IfErr r (λ halt. told → HaltLeaves halt old now) → IfErr r (λ halt. told → LeavesBelow limit halt old now)
  left_below old now = of r
    where
      of : (r : Result Opened Halt) → IfErr r (λ halt. told → HaltLeaves halt old now) → IfErr r (λ halt. told → LeavesBelow limit halt old now)
      of (Ok o) left = tt
      of (Err halt) left = λ is. below_leaves limit old now halt (left is)

-- no part of an opening but a log's refusal is answered as one
pub front_no_log : (e : Front.FrontRefusal) → of_front e ≢ Log
front_no_log (Front.TheVariants.Short len) is = cc
front_no_log (Front.TheVariants.Header fault) is = cc
front_no_log Front.TheVariants.Io is = cc

pub undo_no_log : (e : Undo.UndoRefusal) → of_undo e ≢ Log
undo_no_log (Undo.TheVariants.UndoBad what at) is = cc
undo_no_log Undo.TheVariants.Io is = cc

pub check_no_log : (e : Check.CheckRefusal) → of_check e ≢ Log
check_no_log (Check.TheVariants.Corrupt what at) is = cc
check_no_log Check.TheVariants.Io is = cc
check_no_log Check.TheVariants.Memory is = cc
