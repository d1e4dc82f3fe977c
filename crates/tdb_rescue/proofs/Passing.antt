-- What it says that a pair can be read at a place.
use Rattle.std.proofs.Common.{◌≡◌, ℕ, ◌+◌, ◌<◌, ◌≤◌, true, false, List, length, arith}
use Rattle.std.specs.Prelude.{◌%◌}
use Rattle.std.proofs.lemmas.Bool.{and_parts, and_from, false_from_ne_true, eqb-true, leb-true, eq-eqb, le-leb}
use Rattle.tdb_words.specs.declared.record.TheConstants.{USED}
use Rattle.tdb_words.specs.Hash.{h_of}
use Rattle.tdb_words.specs.Record.{rec_at}
use Rattle.tdb_space.specs.Form.{Form}
use Rattle.tdb_space.specs.Record.{Fits, key_at, rec_len_of, full_hash_of, magic_of}
use Rattle.tdb_rescue.specs.Rescued.{has_room, has_tailer, is_readable}

-- each of the tests finds what it asks for
pub record Passes (f : Form) (img : List ℕ) (at : ℕ) : Type 0 where
  pub used : magic_of f.order img at ≡ USED
  pub room : has_room (rec_at f.order img at) at (length img) ≡ true
  pub tailed : has_tailer f.order img at (rec_len_of f.order img at) ≡ true
  pub hashed : full_hash_of f.order img at ≡ h_of f.hash (key_at f.order img at)

pub passes_from : (f : Form) (img : List ℕ) (at : ℕ) → is_readable f img at ≡ true → Passes f img at
passes_from f img at e =
    let last = and_parts _ _ e in
    let third = and_parts _ _ last.0 in
    let second = and_parts _ _ third.0 in
    record { used = eqb-true _ _ second.0; room = second.1; tailed = third.1; hashed = eqb-true _ _ last.1 }

pub passes_to : (f : Form) (img : List ℕ) (at : ℕ) → Passes f img at → is_readable f img at ≡ true
passes_to f img at p = and_from _ _ (and_from _ _ (and_from _ _ (eq-eqb _ _ p.used) p.room) p.tailed) (eq-eqb _ _ p.hashed)

-- where one of them finds something else, none can be read
pub fails_from : (f : Form) (img : List ℕ) (at : ℕ) → (Passes f img at → ⊥) → is_readable f img at ≡ false
fails_from f img at fails = false_from_ne_true (is_readable f img at) (λ e. fails (passes_from f img at e))

-- the lengths that have room
pub record Room (f : Form) (img : List ℕ) (at : ℕ) : Type 0 where
  pub len_aligned : rec_len_of f.order img at % 4 ≡ 0
  pub within : at + 24 + rec_len_of f.order img at ≤ length img
  pub fits : Fits f.order img at

pub room_from : (f : Form) (img : List ℕ) (at : ℕ) → has_room (rec_at f.order img at) at (length img) ≡ true → Room f img at
room_from f img at e =
    let last = and_parts _ _ e in
    let first = and_parts _ _ last.0 in
    record { len_aligned = eqb-true _ _ first.0; within = leb-true _ _ first.1; fits = leb-true _ _ last.1 }

pub room_to : (f : Form) (img : List ℕ) (at : ℕ) → Room f img at → has_room (rec_at f.order img at) at (length img) ≡ true
room_to f img at r = and_from _ _ (and_from _ _ (eq-eqb _ _ r.len_aligned) (le-leb _ _ r.within)) (le-leb _ _ r.fits)

-- no pair can be read so near the end
pub none_at_end : (f : Form) (img : List ℕ) (at : ℕ) → length img < at + 28 → is_readable f img at ≡ false
none_at_end f img at near = fails_from f img at (λ p. (let r = room_from f img at p.room in omega (arith, r.within, r.fits, near)))
