-- Where a header says that the database begins, and a header whose word for features counts as 0.
use Rattle.std.proofs.Common.{◌≡◌, ◌≢◌, ℕ, ◌+◌, ◌<◌, ◌≤◌, ◌&&◌, ◌++◌, true, false, List, length, take, drop, None, refl, sym, ◌∙◌, ap, inl, inr, arith}
use borrow.Rule.Slice.PartMut.{put_mid}
use Rattle.std.specs.Prelude.{◌%◌, ◌==◌, nat_lt, unwrap_or, if◌then◌else◌, slice_index}
use Rattle.std.proofs.lemmas.Bool.{cases_Bool, cases_eq, le-ltb, eq-eqb, ne_eqb}
use Rattle.std.proofs.lemmas.List.{append_assoc, drop-drop, get_or-take, length-append, length-drop, length-take, length-take-le, take_all}
use Rattle.tdb_disk.specs.Image.{overlay}
use Rattle.tdb_disk.proofs.Image.{length-overlay, overlay_below}
use Rattle.tdb_words.specs.declared.word.Order.{Order}
use Rattle.tdb_words.specs.declared.word.Order.TheVariants.{Little, Big}
use Rattle.tdb_words.specs.declared.hash.HashKind.TheVariants.{Old}
use Rattle.tdb_words.specs.Word.{word, bytes_of_word}
use Rattle.tdb_words.specs.Header.{hash_named, header_order, header_hash, header_fault, header_at, version}
use Rattle.tdb_words.proofs.SameHeader.{same_fault, same_front, same_order}
use Rattle.tdb_words.proofs.Words.{word_agrees}
use Rattle.tdb_space.proofs.Exchange.Overlaid.{word_length}
use Rattle.tdb_mend.specs.Mutexes.{asks_features, database_at, mutexes_end, only_mutexes, without_mutexes}
use Rattle.tdb_mend.proofs.Overwritten.{overlay_cut}

-- the byte order, by the word at 32
pub order_little : (img : List ℕ) → word Little img 32 ≡ version → header_order img ≡ Little
unfolding header_order
order_little img is = rw (eq-eqb (word Little img 32) version is) refl

pub order_big : (img : List ℕ) → word Little img 32 ≢ version → word Big img 32 ≡ version → header_order img ≡ Big
unfolding header_order
order_big img other is = rw (ne_eqb (word Little img 32) version other, eq-eqb (word Big img 32) version is) refl

pub order_none : (img : List ℕ) → word Little img 32 ≢ version → word Big img 32 ≢ version → header_order img ≡ Little
unfolding header_order
order_none img other neither = rw (ne_eqb (word Little img 32) version other, ne_eqb (word Big img 32) version neither) refl

-- where a header says that the database begins that asks for features
pub begins_behind : (img : List ℕ) → 168 ≤ length img → asks_features (header_fault img) ≡ true → database_at img ≡ mutexes_end img
begins_behind img long is = rw (le-ltb (length img) 168 long) (rw is refl)

-- one that doesn't
pub begins_here : (img : List ℕ) → asks_features (header_fault img) ≡ false → database_at img ≡ 0
begins_here img other = elim (cases_Bool (nat_lt (length img) 168)) [
  | inl short ↦ rw short refl
  | inr long ↦ rw long (rw other refl)
]

pub sound_here : (img : List ℕ) → header_fault img ≡ None → database_at img ≡ 0
sound_here img sound = begins_here img (ap asks_features sound)

-- the first bytes tell it
pub begins_front : (img : List ℕ) (n : ℕ) → 168 ≤ n → n ≤ length img → database_at (take n img) ≡ database_at img
begins_front img n within reaches =
    let same = same_front img n within in
    let order = same_order (take n img) img same in
    let fault = same_fault (take n img) img same in
    let long : nat_lt (length (take n img)) 168 ≡ nat_lt (length img) 168 = le-ltb (length (take n img)) 168 (omega (arith, length-take-le n img reaches, within)) ∙ sym (le-ltb (length img) 168 (omega (arith, within, reaches))) in
    let at_word : (at : ℕ) → at + 4 ≤ 168 → word (header_order (take n img)) (take n img) at ≡ word (header_order img) img at =
    λ at low. word_agrees _ (take n img) img at (λ i p q. get_or-take n img i 0 (omega (arith, p, q, low, within))) ∙ ap (λ o. word o img at) order in
    let features = at_word 60 (omega arith) in
    let place = at_word 64 (omega arith) in
    λ j. if long j then 0 else if asks_features (fault j) then (if (features j == only_mutexes) && (place j % 4 == 0) then place j else 0) else 0

-- an image whose header is sound stays as it is, and so does each that doesn't tell of mutexes
pub unlocked_none : (img : List ℕ) → database_at img ≡ 0 → without_mutexes img ≡ img
unlocked_none img none = rw (eq-eqb (database_at img) 0 none) refl

pub unlocked_some : (img : List ℕ) → (database_at img ≡ 0 → ⊥) → without_mutexes img ≡ overlay img 60 (bytes_of_word (header_order img) 0)
unlocked_some img some = rw (ne_eqb (database_at img) 0 some) refl

pub unlocked_length : (img : List ℕ) → length (without_mutexes img) ≡ length img
unlocked_length img = elim (cases_eq (database_at img) 0) [
  | inl none ↦ ap length (unlocked_none img none)
  | inr some ↦ ap length (unlocked_some img some) ∙ length-overlay img 60 (bytes_of_word (header_order img) 0)
]

pub sound_unlocked : (img : List ℕ) → header_fault img ≡ None → without_mutexes img ≡ img
sound_unlocked img sound = unlocked_none img (sound_here img sound)

-- four bytes of a header that are written are written over it
pub put_four : (xs ys : List ℕ) → length xs ≡ 168 → length ys ≡ 4 → put_mid 60 4 xs ys ≡ overlay xs 60 ys
put_four xs ys long four =
    let back : drop 4 (drop 60 xs) ≡ drop (60 + length ys) xs = drop-drop 4 60 xs ∙ ap (λ n. drop (60 + n) xs) (sym four) in
    let rest = drop (60 + length ys) xs in
    let front = length-append (take 60 xs) ys in
    let all = length-append (take 60 xs ++ ys) rest in
    let fits : length (take 60 xs ++ ys ++ rest) ≤ length xs =
    omega (arith, long, four, front, all, length-take 60 xs, length-drop (60 + length ys) xs) in
    ap (λ tail. take 60 xs ++ (ys ++ tail)) back ∙ sym (append_assoc (take 60 xs) ys rest) ∙ sym (take_all (length xs) (take 60 xs ++ ys ++ rest) fits)

-- the front of such an image
pub unlocked_front : (img : List ℕ) (n : ℕ) → 168 ≤ n → n ≤ length img → take n (without_mutexes img) ≡ without_mutexes (take n img)
unlocked_front img n within reaches =
    let same = begins_front img n within reaches in
    elim (cases_eq (database_at img) 0) [
      | inl none ↦ ap (take n) (unlocked_none img none) ∙ sym (unlocked_none (take n img) (same ∙ none))
      | inr some ↦
          let order = same_order (take n img) img (same_front img n within) in
          let z = bytes_of_word (header_order img) 0 in
          ap (take n) (unlocked_some img some)
          ∙ overlay_cut img z 60 n (omega (arith, word_length (header_order img) 0, within)) reaches
          ∙ ap (λ o. overlay (take n img) 60 (bytes_of_word o 0)) (sym order)
          ∙ sym (unlocked_some (take n img) (λ none. some (sym same ∙ none)))
    ]

-- what a header says stands in front of its word for features
module _ (x y : List ℕ) (same : (i : ℕ) → i < 60 → slice_index x i ≡ slice_index y i) where
  word_told : (o : Order) (at : ℕ) → at + 4 ≤ 60 → word o x at ≡ word o y at
  word_told o at low = word_agrees o x y at (λ i p q. same i (omega (arith, p, q, low)))

  order_told : header_order x ≡ header_order y
  unfolding header_order
  order_told = rw (word_told Little 32 (omega arith), word_told Big 32 (omega arith)) refl

  in_order : (at : ℕ) → at + 4 ≤ 60 → word (header_order x) x at ≡ word (header_order y) y at
  in_order at low = word_told (header_order x) at low ∙ ap (λ o. word o y at) order_told

  hash_told : header_hash x ≡ header_hash y
  unfolding header_hash
  hash_told =
      let order = order_told in
      let first = in_order 52 (omega arith) in
      let second = in_order 56 (omega arith) in
      λ j. unwrap_or (hash_named (order j) (first j) (second j)) Old

  pub told : header_at x ≡ header_at y
  told =
      let order = order_told in
      let hash = hash_told in
      let size = in_order 36 (omega arith) in
      let recovery = in_order 44 (omega arith) in
      let sequence = in_order 48 (omega arith) in
      λ j. record { order = order j; hash = hash j; hash_size = size j; recovery_start = recovery j; sequence = sequence j }

pub unlocked_told : (img : List ℕ) → header_at (without_mutexes img) ≡ header_at img
unlocked_told img = elim (cases_eq (database_at img) 0) [
  | inl none ↦ ap header_at (unlocked_none img none)
  | inr some ↦ ap header_at (unlocked_some img some) ∙ told (overlay img 60 (bytes_of_word (header_order img) 0)) img (λ i low. overlay_below img 60 (bytes_of_word (header_order img) 0) i low)
]
