-- The undo area of an image by what was read of it.
use Rattle.std.proofs.Common.{◌≡◌, ◌≢◌, ℕ, ◌+◌, Bool, true, false, List, [], ◌∷◌, length, Some, None, not, refl, sym, ◌∙◌, ap}
use Rattle.std.proofs.lemmas.Bool.{eq-eqb, ne_eqb}
use Rattle.tdb_words.specs.declared.record.Rec.{Rec}
use Rattle.tdb_words.specs.declared.what.What.TheVariants.{AreaBad}
use Rattle.tdb_words.specs.declared.word.Order.{Order}
use Rattle.tdb_words.specs.Word.{word}
use Rattle.tdb_words.specs.Record.{rec_at}
use Rattle.tdb_space.specs.Form.{Form}
use Rattle.tdb_space.specs.Extents.{area, extent_at}
use Rattle.tdb_space.specs.FirstFault.{is_out, area_fault, area_fault_at}
use Rattle.tdb_check.specs.Area.{is_out_at, header_area_fault}

-- there is none
pub no_area : (f : Form) (img : List ℕ) (at : ℕ) → at ≡ word f.order img 44 → at ≡ 0 → (area_fault f img ≡ None) × ([] ≡ area f.order img)
no_area f img at is none = let zero_there = eq-eqb (word f.order img 44) 0 (sym is ∙ none) in (rw zero_there refl, rw zero_there refl)

some_area : (f : Form) (img : List ℕ) (at : ℕ) → at ≡ word f.order img 44 → at ≢ 0 → area_fault f img ≡ area_fault_at f img at
some_area f img at is some = rw (ne_eqb (word f.order img 44) 0 (λ e. some (is ∙ e))) (ap (area_fault_at f img) (sym is))

pub out_is : (f : Form) (img : List ℕ) (at len : ℕ) → length img ≡ len → is_out f img at ≡ is_out_at f.chains len at
out_is f img at len long = λ j. is_out_at f.chains (long j) at

-- it can't stand where the word leads
pub area_out : (f : Form) (img : List ℕ) (at len : ℕ) → at ≡ word f.order img 44 → at ≢ 0 → length img ≡ len → is_out_at f.chains len at ≡ true → area_fault f img ≡ Some (AreaBad, 44)
area_out f img at len is some long out = some_area f img at is some ∙ rw (out_is f img at len long ∙ out) refl

-- it has the faults of its header
pub area_by_header : (f : Form) (img : List ℕ) (at len : ℕ) (r : Rec) → at ≡ word f.order img 44 → at ≢ 0 → length img ≡ len → is_out_at f.chains len at ≡ false → r ≡ rec_at f.order img at → area_fault f img ≡ header_area_fault r at len
area_by_header f img at len r is some long stands read =
    some_area f img at is some ∙ rw (out_is f img at len long ∙ stands) (λ j. header_area_fault (sym read j) at (long j))

pub area_there : (o : Order) (img : List ℕ) (at : ℕ) (r : Rec) → at ≡ word o img 44 → at ≢ 0 → r ≡ rec_at o img at → (at, 24 + r.rec_len) ∷ [] ≡ area o img
area_there o img at r is some read =
    rw (ne_eqb (word o img 44) 0 (λ e. some (is ∙ e))) ((λ j. (at, 24 + (read j).rec_len) ∷ []) ∙ ap (λ x. extent_at o img x ∷ []) is)

pub not_false : (b : Bool) → not b ≡ false → b ≡ true
not_false true h = refl
not_false false h = sym h

pub not_true : (b : Bool) → not b ≡ true → b ≡ false
not_true true h = sym h
not_true false h = refl
