-- A header is known by the bytes below 44 and from 52 to 63: where they stay it has the same form, and no fault as
-- before.
use Rattle.std.proofs.Common.{◌≡◌, ℕ, ◌+◌, ◌<◌, ◌≤◌, ◌⊎◌, List, length, take, refl, sym, ◌∙◌, ap, inl, inr, arith}
use Rattle.std.specs.Prelude.{slice_index}
use Rattle.std.proofs.lemmas.List.{same_lists, get_or_default, length-take-le, get_or-take}
use Rattle.tdb_words.specs.declared.word.Order.{Order}
use Rattle.tdb_words.specs.declared.word.Order.TheVariants.{Little, Big}
use Rattle.tdb_words.specs.Word.{word}
use Rattle.tdb_words.specs.Header.{HeaderOk, header_fault, header_order, header_hash, hash_size_of}
use Rattle.tdb_words.proofs.Words.{word_agrees}
use Rattle.tdb_space.specs.Form.{form_of, SameHeader}

header_word : (o : Order) (a b : List ℕ) (at : ℕ) → SameHeader a b → (at + 4 ≤ 44) ⊎ ((52 ≤ at) × (at + 4 ≤ 64)) → word o b at ≡ word o a at
header_word o a b at same where_at = word_agrees o b a at (λ i low high. same i (elim where_at [ inl below ↦ inl (omega arith) | inr above ↦ inr (omega (arith, above.0), omega (arith, above.1)) ]))

pub order_kept : (a b : List ℕ) → SameHeader a b → header_order b ≡ header_order a
unfolding header_order
order_kept a b same =
    let little : word Little b 32 ≡ word Little a 32 = header_word Little a b 32 same (inl (omega arith)) in
    let big : word Big b 32 ≡ word Big a 32 = header_word Big a b 32 same (inl (omega arith)) in
    rw (little, big) refl

pub hash_kept : (a b : List ℕ) → SameHeader a b → header_hash b ≡ header_hash a
unfolding header_hash
hash_kept a b same =
    let order : header_order b ≡ header_order a = order_kept a b same in
    let first : word (header_order a) b 52 ≡ word (header_order a) a 52 = header_word (header_order a) a b 52 same (inr (omega arith, omega arith)) in
    let second : word (header_order a) b 56 ≡ word (header_order a) a 56 = header_word (header_order a) a b 56 same (inr (omega arith, omega arith)) in
    rw order (rw (first, second) refl)

pub size_kept : (a b : List ℕ) → SameHeader a b → hash_size_of b ≡ hash_size_of a
size_kept a b same = ap (λ o. word o b 36) (order_kept a b same) ∙ header_word (header_order a) a b 36 same (inl (omega arith))

pub form_kept : (a b : List ℕ) → SameHeader a b → form_of b ≡ form_of a
form_kept a b same = λ i. record { order = order_kept a b same i; hash = hash_kept a b same i; chains = size_kept a b same i }

front_kept : (a b : List ℕ) (n : ℕ) → n ≤ length a → n ≤ length b → ((i : ℕ) → i < n → slice_index b i ≡ slice_index a i) → take n b ≡ take n a
front_kept a b n long_a long_b same =
    let len_b : length (take n b) ≡ n = length-take-le n b long_b in
    let len_a : length (take n a) ≡ n = length-take-le n a long_a in
    same_lists (take n b) (take n a) (len_b ∙ sym len_a) (λ k d below.
    (let low : k < n = omega (arith, below, len_b) in
    get_or_default (take n b) k d 0 below ∙ get_or-take n b k 0 low ∙ same k low ∙ sym (get_or-take n a k 0 low) ∙ get_or_default (take n a) k 0 d (omega (arith, low, len_a))))

pub fault_kept : (a b : List ℕ) → 168 ≤ length a → 168 ≤ length b → SameHeader a b → header_fault b ≡ header_fault a
unfolding header_fault
fault_kept a b long_a long_b same =
    let food : take 10 b ≡ take 10 a = front_kept a b 10 (omega arith) (omega arith) (λ i low. same i (inl (omega arith))) in
    let order : header_order b ≡ header_order a = order_kept a b same in
    let little : word Little b 32 ≡ word Little a 32 = header_word Little a b 32 same (inl (omega arith)) in
    let big : word Big b 32 ≡ word Big a 32 = header_word Big a b 32 same (inl (omega arith)) in
    let locks : word (header_order a) b 40 ≡ word (header_order a) a 40 = header_word (header_order a) a b 40 same (inl (omega arith)) in
    let features : word (header_order a) b 60 ≡ word (header_order a) a 60 = header_word (header_order a) a b 60 same (inr (omega arith, omega arith)) in
    let first : word (header_order a) b 52 ≡ word (header_order a) a 52 = header_word (header_order a) a b 52 same (inr (omega arith, omega arith)) in
    let second : word (header_order a) b 56 ≡ word (header_order a) a 56 = header_word (header_order a) a b 56 same (inr (omega arith, omega arith)) in
    let chains : word (header_order a) b 36 ≡ word (header_order a) a 36 = header_word (header_order a) a b 36 same (inl (omega arith)) in
    simp (food, order, little, big, locks, features, first, second, chains)

pub header_kept : (a b : List ℕ) → 168 ≤ length b → SameHeader a b → HeaderOk a → HeaderOk b
header_kept a b long same ok = record {
  long_enough = long;
  no_fault = fault_kept a b ok.long_enough long same ∙ ok.no_fault;
}
