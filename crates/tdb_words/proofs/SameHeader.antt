-- Images whose headers say the same. The words at 44 and 48, where the undo area stands and the sequence number, may
-- differ.
use Rattle.std.proofs.Common.{◌≡◌, ℕ, ◌+◌, ◌*◌, ◌<◌, ◌≤◌, List, take, Some, None, ap, ◌∙◌, arith}
use Rattle.std.specs.Prelude.{slice_index, ◌==◌, ◌&&◌, ◌||◌, not, is_none, unwrap_or, if◌then◌else◌}
use Rattle.std.specs.Cmp.Lexicographic.{pointwise}
use Rattle.std.proofs.lemmas.List.{get_or-take, take-take}
use Rattle.tdb_words.specs.declared.word.Order.{Order}
use Rattle.tdb_words.specs.declared.word.Order.TheVariants.{Little, Big}
use Rattle.tdb_words.specs.declared.hash.HashKind.TheVariants.{Old}
use Rattle.tdb_words.specs.declared.header.HeaderFault.TheVariants.{NotTdb, Version, OldLocks, Mutexes, UnknownHash, NoBuckets}
use Rattle.tdb_words.specs.Word.{word}
use Rattle.tdb_words.specs.Header.{food, version, jenkins_locks, mutex_locks, order_named, hash_named, header_order, header_hash, header_fault, header_at, hash_size_of, start}
use Rattle.tdb_words.proofs.Words.{word_agrees}

-- two images have the same bytes in their headers, but for the words at 44 and 48
pub record SameHeader (x y : List ℕ) : Type 0 where
  pub text : take 10 x ≡ take 10 y
  pub low : (i : ℕ) → 10 ≤ i → i < 44 → slice_index x i ≡ slice_index y i
  pub high : (i : ℕ) → 52 ≤ i → i < 64 → slice_index x i ≡ slice_index y i

-- the front of an image has its header
pub same_front : (img : List ℕ) (n : ℕ) → 168 ≤ n → SameHeader (take n img) img
same_front img n within = record {
  text = take-take 10 n img (omega arith);
  low = λ i a b. get_or-take n img i 0 (omega arith);
  high = λ i a b. get_or-take n img i 0 (omega arith);
}

low_word : (x y : List ℕ) (o : Order) (at : ℕ) → SameHeader x y → 10 ≤ at → at + 4 ≤ 44 → word o x at ≡ word o y at
low_word x y o at same a b = word_agrees o x y at (λ i p q. same.low i (omega arith) (omega arith))

high_word : (x y : List ℕ) (o : Order) (at : ℕ) → SameHeader x y → 52 ≤ at → at + 4 ≤ 64 → word o x at ≡ word o y at
high_word x y o at same a b = word_agrees o x y at (λ i p q. same.high i (omega arith) (omega arith))

same_named : (x y : List ℕ) → SameHeader x y → order_named x ≡ order_named y
same_named x y same =
    let little = low_word x y Little 32 same (omega arith) (omega arith) in
    let big = low_word x y Big 32 same (omega arith) (omega arith) in
    λ j. if little j == version then Some Little else if big j == version then Some Big else None

pub same_order : (x y : List ℕ) → SameHeader x y → header_order x ≡ header_order y
unfolding header_order
same_order x y same = ap (λ o. unwrap_or o Little) (same_named x y same)

low_in_order : (x y : List ℕ) (at : ℕ) → SameHeader x y → 10 ≤ at → at + 4 ≤ 44 → word (header_order x) x at ≡ word (header_order y) y at
low_in_order x y at same a b = low_word x y (header_order x) at same a b ∙ ap (λ o. word o y at) (same_order x y same)

high_in_order : (x y : List ℕ) (at : ℕ) → SameHeader x y → 52 ≤ at → at + 4 ≤ 64 → word (header_order x) x at ≡ word (header_order y) y at
high_in_order x y at same a b = high_word x y (header_order x) at same a b ∙ ap (λ o. word o y at) (same_order x y same)

same_hash_named : (x y : List ℕ) → SameHeader x y → hash_named (header_order x) (word (header_order x) x 52) (word (header_order x) x 56) ≡ hash_named (header_order y) (word (header_order y) y 52) (word (header_order y) y 56)
same_hash_named x y same =
    let o = same_order x y same in
    let first = high_in_order x y 52 same (omega arith) (omega arith) in
    let second = high_in_order x y 56 same (omega arith) (omega arith) in
    λ j. hash_named (o j) (first j) (second j)

pub same_hash : (x y : List ℕ) → SameHeader x y → header_hash x ≡ header_hash y
unfolding header_hash
same_hash x y same = ap (λ h. unwrap_or h Old) (same_hash_named x y same)

pub same_hash_size : (x y : List ℕ) → SameHeader x y → hash_size_of x ≡ hash_size_of y
same_hash_size x y same = low_in_order x y 36 same (omega arith) (omega arith)

pub same_start : (x y : List ℕ) → SameHeader x y → start x ≡ start y
same_start x y same = ap (λ n. 168 + 4 * (n + 1)) (same_hash_size x y same)

pub same_fault : (x y : List ℕ) → SameHeader x y → header_fault x ≡ header_fault y
unfolding header_fault
same_fault x y same =
    let named = same_named x y same in
    let locks = low_in_order x y 40 same (omega arith) (omega arith) in
    let features = high_in_order x y 60 same (omega arith) (omega arith) in
    let hash = same_hash_named x y same in
    let size = same_hash_size x y same in
    λ j.
    if not (pointwise ◌==◌ food (same.text j)) then Some NotTdb
    else if is_none (named j) then Some Version
    else if not ((locks j == 0) || (locks j == jenkins_locks) || (locks j == mutex_locks)) then Some OldLocks
    else if (locks j == mutex_locks) && not (features j == 0) then Some Mutexes
    else if is_none (hash j) then Some UnknownHash
    else if size j == 0 then Some NoBuckets
    else None

-- what the header says is told by its first 168 bytes
pub header_at_front : (img : List ℕ) (n : ℕ) → 168 ≤ n → header_at (take n img) ≡ header_at img
header_at_front img n within =
    let same = same_front img n within in
    let o = same_order (take n img) img same in
    let part : (at : ℕ) → at + 4 ≤ 168 → word (header_order (take n img)) (take n img) at ≡ word (header_order img) img at =
    λ at low. word_agrees _ (take n img) img at (λ i p q. get_or-take n img i 0 (omega arith)) ∙ ap (λ p. word p img at) o in
    let hash = same_hash (take n img) img same in
    let size = part 36 (omega arith) in
    let recovery = part 44 (omega arith) in
    let sequence = part 48 (omega arith) in
    λ j. record { order = o j; hash = hash j; hash_size = size j; recovery_start = recovery j; sequence = sequence j }
