-- A transaction that might be committed may be committed after a command that leaves the front of its image and the
-- undo area.
use Rattle.std.proofs.Common.{◌≡◌, ℕ, ◌+◌, ◌<◌, ◌≤◌, List, [], ◌∷◌, refl, sym, ◌∙◌, ap, subst, inl, inr, arith}
use Rattle.std.specs.Prelude.{◌⊎◌, slice_index}
use Rattle.std.proofs.lemmas.Bool.{cases_eq, eq-eqb, ne_eqb}
use Rattle.tdb_words.specs.Word.{word}
use Rattle.tdb_words.proofs.Words.{word_agrees}
use Rattle.tdb_space.specs.Form.{Form, form_of}
use Rattle.tdb_space.specs.Record.{rec_len_of}
use Rattle.tdb_space.specs.Accepted.{Accept, AcceptWith}
use Rattle.tdb_space.specs.Extents.{times, area, extent_at}
use Rattle.tdb_space.specs.Stays.{FrontStays}
use Rattle.tdb_space.proofs.Extents.Counts.{once_in}
use Rattle.tdb_space.proofs.Exchange.Kept.{word_kept}
use Rattle.tdb_space.proofs.Form.Headers.{form_kept}
use Rattle.tdb_txn.specs.Committing.{MayCommit}
use Rattle.tdb_txn.specs.Planning.{KeepsFront}
use Rattle.tdb_txn.specs.Txn.{txn_form, txn_image}
use Rattle.tdb_txn.specs.declared.txn.Txn.{Txn}

-- the undo area is where it is in the file
area_kept : (r a : List ℕ) → KeepsFront r a → area (form_of r).order a ≡ area (form_of r).order r
area_kept r a K =
    let o = (form_of r).order in
    let at : word o a 44 ≡ word o r 44 = word_agrees o a r 44 (λ i from to. K.front i (inl (omega arith))) in
    elim (cases_eq (word o r 44) 0) [
      | inl none ↦ rw (eq-eqb (word o a 44) 0 (at ∙ none)) (rw (eq-eqb (word o r 44) 0 none) refl)
      | inr some ↦
          let some_a : word o a 44 ≡ 0 → ⊥ = λ e. some (sym at ∙ e) in
          let x = word o r 44 in
          let held : (i : ℕ) → x ≤ i → i < x + 24 + rec_len_of o r x → slice_index a i ≡ slice_index r i = λ i low high.
          K.undo_area i (rw (ne_eqb (word o r 44) 0 some) (omega (arith, once_in (extent_at o r x) i low (omega arith)))) in
          let len : rec_len_of o a x ≡ rec_len_of o r x = word_kept o r a (x + 4) x (x + 24 + rec_len_of o r x) held (omega arith) (omega arith) in
          rw (ne_eqb (word o a 44) 0 some_a) (rw (ne_eqb (word o r 44) 0 some) (λ i. (at i, 24 + (ap (rec_len_of o a) at ∙ len) i) ∷ []))
    ]

keeps_then : (r a b : List ℕ) (f : Form) → f ≡ form_of r → KeepsFront r a → FrontStays f a b → KeepsFront r b
keeps_then r a b f same K F = record {
  front = λ i at. F.low i (below i at) (beside i at) ∙ K.front i at;
  undo_area = λ i inside. F.undo_area i (subst (λ es. 1 ≤ times es i) (sym (ap (λ g. area g.order a) same ∙ area_kept r a K)) inside) ∙ K.undo_area i inside;
}
  where
    below : (i : ℕ) → (i < 48) ⊎ ((48 + 4 ≤ i) × (i < 64)) → i < 168
    below i (inl low) = omega (arith, low)
    below i (inr high) = omega (arith, high.1)

    beside : (i : ℕ) → (i < 48) ⊎ ((48 + 4 ≤ i) × (i < 64)) → (i < 48) ⊎ (48 + 4 ≤ i)
    beside i (inl low) = inl low
    beside i (inr high) = inr high.0

accepts : (f : Form) (b : List ℕ) → AcceptWith f b [] → Accept b
accepts f b A = subst (λ g. AcceptWith g b []) (sym A.form) A

wider : (i : ℕ) → (i < 44) ⊎ ((48 + 4 ≤ i) × (i < 64)) → (i < 48) ⊎ ((48 + 4 ≤ i) × (i < 64))
wider i (inl low) = inl (omega (arith, low))
wider i (inr high) = inr high

-- where it may be committed its image is accepted, with the form that it has
pub accepted_as : (txn : Txn) (r : List ℕ) → MayCommit txn r → AcceptWith (txn_form txn) (txn_image txn r) []
accepted_as txn r M =
    subst (λ g. AcceptWith g (txn_image txn r) []) (form_kept r (txn_image txn r) (λ i at. M.keeps.front i (wider i at)) ∙ sym M.header) M.after

pub may_commit_still : (old new : Txn) (r : List ℕ) → txn_form new ≡ txn_form old → AcceptWith (txn_form old) (txn_image new r) [] → FrontStays (txn_form old) (txn_image old r) (txn_image new r) → MayCommit old r → MayCommit new r
may_commit_still old new r form A F M = record {
  before = M.before;
  after = accepts (txn_form old) (txn_image new r) A;
  header = form ∙ M.header;
  keeps = keeps_then r (txn_image old r) (txn_image new r) (txn_form old) M.header M.keeps F;
}
