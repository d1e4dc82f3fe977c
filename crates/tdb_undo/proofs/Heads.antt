-- The undo area of an image by what was read of it.
use Rattle.std.proofs.Common.{◌≡◌, ◌≢◌, ℕ, Bool, true, false, List, length, Some, None, not, refl, sym, ◌∙◌, ap}
use Rattle.std.proofs.lemmas.Bool.{eq-eqb, ne_eqb}
use Rattle.tdb_words.specs.declared.record.Rec.{Rec}
use Rattle.tdb_words.specs.declared.what.What.TheVariants.{AreaBad}
use Rattle.tdb_words.specs.Word.{word}
use Rattle.tdb_words.specs.Record.{rec_at}
use Rattle.tdb_space.specs.Form.{Form}
use Rattle.tdb_space.specs.FirstFault.{is_out}
use Rattle.tdb_undo.specs.Area.{is_out_at, header_fault_at, place_fault_at, place_fault}

-- there is none
pub no_area : (f : Form) (img : List ℕ) (at : ℕ) → at ≡ word f.order img 44 → at ≡ 0 → (place_fault f img ≡ None) × (word f.order img 44 ≡ 0)
no_area f img at is none = (rw (eq-eqb (word f.order img 44) 0 (sym is ∙ none)) refl, sym is ∙ none)

some_area : (f : Form) (img : List ℕ) (at : ℕ) → at ≡ word f.order img 44 → at ≢ 0 → place_fault f img ≡ place_fault_at f img at
some_area f img at is some = rw (ne_eqb (word f.order img 44) 0 (λ e. some (is ∙ e))) (ap (place_fault_at f img) (sym is))

out_is : (f : Form) (img : List ℕ) (at len : ℕ) → length img ≡ len → is_out f img at ≡ is_out_at f.chains len at
out_is f img at len long = λ j. is_out_at f.chains (long j) at

-- it can't stand where the word leads
pub area_out : (f : Form) (img : List ℕ) (at len : ℕ) → at ≡ word f.order img 44 → at ≢ 0 → length img ≡ len → is_out_at f.chains len at ≡ true → place_fault f img ≡ Some (AreaBad, 44)
area_out f img at len is some long out = some_area f img at is some ∙ rw (out_is f img at len long ∙ out) refl

-- it has the faults of its header
pub area_by_header : (f : Form) (img : List ℕ) (at len : ℕ) (r : Rec) → at ≡ word f.order img 44 → at ≢ 0 → length img ≡ len → is_out_at f.chains len at ≡ false → r ≡ rec_at f.order img at → place_fault f img ≡ header_fault_at r at len
area_by_header f img at len r is some long stands read =
    some_area f img at is some ∙ rw (out_is f img at len long ∙ stands) (λ j. header_fault_at (sym read j) at (long j))

pub not_false : (b : Bool) → not b ≡ false → b ≡ true
not_false true h = refl
not_false false h = sym h

pub not_true : (b : Bool) → not b ≡ true → b ≡ false
not_true true h = sym h
not_true false h = refl
