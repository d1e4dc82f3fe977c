-- How the undo area of an image stands, by what was read of it.
use Rattle.std.proofs.Common.{◌≡◌, ◌≢◌, ℕ, ◌+◌, ◌*◌, ◌≤◌, ◌&&◌, ◌||◌, not, Bool, true, false, List, length, Some, None, refl, sym, ◌∙◌, ap, arith}
use Rattle.std.specs.Prelude.{◌%◌, ◌==◌, nat_lt, if◌then◌else◌}
use Rattle.std.proofs.lemmas.Bool.{eq-eqb, ne_eqb, ltb-false}
use Rattle.std.proofs.lemmas.Bool.Decides.{nat_tests}
use Rattle.tdb_words.specs.declared.record.Rec.{Rec}
use Rattle.tdb_words.specs.declared.record.TheConstants.{GATE_OPEN}
use Rattle.tdb_words.specs.declared.what.What.TheVariants.{AreaBad}
use Rattle.tdb_words.specs.Word.{word}
use Rattle.tdb_words.specs.Record.{rec_at}
use Rattle.tdb_space.specs.Form.{Form}
use Rattle.tdb_space.specs.Record.{magic_of}
use Rattle.tdb_space.specs.FirstFault.{Fault, is_out, is_long}
use Rattle.tdb_space.specs.Opening.{is_open}
use Rattle.tdb_space.proofs.FirstFault.Cleared.{none_parts, stands_from}
use Rattle.tdb_check.specs.Area.{is_out_at}
use Rattle.tdb_check.proofs.Areas.{out_is}
use Rattle.tdb_mend.specs.declared.area.UndoArea.{UndoArea}
use Rattle.tdb_mend.specs.Mended.{padding_word, lacks_header}
use Rattle.tdb_mend.specs.Area.{area_of, header_fault_in, state_fault, state_fault_at, Stands}

-- an undo area by its offset and its header
abbrev pub area_from : ℕ → Rec → UndoArea
area_from at r = record { at = at; header = r }

-- there is none
pub no_area : (f : Form) (img : List ℕ) (at : ℕ) → at ≡ word f.order img 44 → at ≡ 0 → (state_fault f img ≡ None) × (lacks_header f img ≡ false) × (is_open f img ≡ false)
no_area f img at is none = (
  rw (eq-eqb (word f.order img 44) 0 (sym is ∙ none)) refl,
  rw (nothing (is_out f img (word f.order img 44)) refl) refl,
  rw (nothing (is_out f img (word f.order img 44)) refl) refl,
)
  where
    nothing : (b : Bool) → is_out f img (word f.order img 44) ≡ b → is_out f img (word f.order img 44) ≡ true
    nothing true h = h
    nothing false h = absurd (omega (arith, is, none, (stands_from f img (word f.order img 44) h).1))

some_area : (f : Form) (img : List ℕ) (at : ℕ) → at ≡ word f.order img 44 → at ≢ 0 → state_fault f img ≡ state_fault_at f img at
some_area f img at is some = rw (ne_eqb (word f.order img 44) 0 (λ e. some (is ∙ e))) (ap (state_fault_at f img) (sym is))

-- it can't stand where the word leads
pub area_out : (f : Form) (img : List ℕ) (at len : ℕ) → at ≡ word f.order img 44 → at ≢ 0 → length img ≡ len → is_out_at f.chains len at ≡ true → state_fault f img ≡ Some (AreaBad, 44)
area_out f img at len is some long out = some_area f img at is some ∙ rw (out_is f img at len long ∙ out) refl

-- a record header can stand there
pub stands_parts : (chains len at : ℕ) → is_out_at chains len at ≡ false → (at % 4 ≡ 0) × (168 + 4 * (chains + 1) ≤ at) × (at + 24 ≤ len)
stands_parts chains len at h = grind (arith, nat_tests)

-- and the header has no fault, so it stands
pub area_stands : (chains len : ℕ) (a : UndoArea) → is_out_at chains len a.at ≡ false → header_fault_in a len ≡ None → Stands (168 + 4 * (chains + 1)) len a
area_stands chains len a inside good =
    let p = stands_parts chains len a.at inside in
    let q = none_parts (not (a.header.rec_len % 4 == 0) || nat_lt len (a.at + 24 + a.header.rec_len)) _ _ good in
    record { aligned = p.0; above = p.1; within = fits (not (a.header.rec_len % 4 == 0)) (nat_lt len (a.at + 24 + a.header.rec_len)) refl q.0 }
  where
    fits : (x y : Bool) → nat_lt len (a.at + 24 + a.header.rec_len) ≡ y → (x || y) ≡ false → a.at + 24 + a.header.rec_len ≤ len
    fits x false is h = ltb-false len (a.at + 24 + a.header.rec_len) is
    fits true true is h = absurd (cc)
    fits false true is h = absurd (cc)

-- what its header says of it
module _ (f : Form) (img : List ℕ) (at len : ℕ) (r : Rec) (is : at ≡ word f.order img 44) (some : at ≢ 0) (long : length img ≡ len) (inside : is_out_at f.chains len at ≡ false) (read : r ≡ rec_at f.order img at) where
  by_header : state_fault f img ≡ (if r.magic == padding_word then None else header_fault_in (area_from at r) len)
  by_header =
      some_area f img at is some
      ∙ rw (out_is f img at len long ∙ inside) (λ j. if (sym read j).magic == padding_word then None else header_fault_in (area_from at (sym read j)) (long j))

  lacking : (b : Bool) → (r.magic == padding_word) ≡ b → lacks_header f img ≡ b
  lacking b h =
      ap (λ x. not (is_out f img x) && (magic_of f.order img x == padding_word)) (sym is)
      ∙ rw (out_is f img at len long ∙ inside) ((λ j. (sym read j).magic == padding_word) ∙ h)

  short : header_fault_in (area_from at r) len ≡ None → is_long f img at ≡ false
  short good =
      (λ j. not ((sym read j).rec_len % 4 == 0) || nat_lt (long j) (at + 24 + (sym read j).rec_len))
      ∙ (none_parts (not (r.rec_len % 4 == 0) || nat_lt len (at + 24 + r.rec_len)) _ _ good).0

  opening : (b : Bool) → header_fault_in (area_from at r) len ≡ None → (r.magic == GATE_OPEN) ≡ b → is_open f img ≡ b
  opening b good h =
      ap (λ x. not (is_out f img x) && not (is_long f img x) && (magic_of f.order img x == GATE_OPEN)) (sym is)
      ∙ rw (out_is f img at len long ∙ inside) (rw (short good) ((λ j. (sym read j).magic == GATE_OPEN) ∙ h))

  -- it has none
  pub without_header : (r.magic == padding_word) ≡ true → (state_fault f img ≡ None) × (lacks_header f img ≡ true)
  without_header pads = (by_header ∙ rw pads refl, lacking true pads)

  -- its header has a fault
  pub header_bad : (e : Fault) → (r.magic == padding_word) ≡ false → header_fault_in (area_from at r) len ≡ Some e → state_fault f img ≡ Some e
  header_bad e has bad = by_header ∙ rw has bad

  -- it has none, and the gate is open, or it isn't
  pub area_open : (r.magic == padding_word) ≡ false → header_fault_in (area_from at r) len ≡ None → (r.magic == GATE_OPEN) ≡ true
      → (state_fault f img ≡ None) × (lacks_header f img ≡ false) × (is_open f img ≡ true) × (area_from at r ≡ area_of f.order img)
  area_open has good gate = (
    by_header ∙ rw has good,
    lacking false has,
    opening true good gate,
    (λ j. area_from at (read j)) ∙ (λ j. area_from (is j) (rec_at f.order img (is j))),
  )

  pub area_shut : (r.magic == padding_word) ≡ false → header_fault_in (area_from at r) len ≡ None → (r.magic == GATE_OPEN) ≡ false → (state_fault f img ≡ None) × (lacks_header f img ≡ false) × (is_open f img ≡ false)
  area_shut has good gate = (by_header ∙ rw has good, lacking false has, opening false good gate)
