-- Two images that differ at most in the sequence number, the word at 48: they have the same words beside it, and the
-- same records.
use Rattle.std.proofs.Common.{◌≡◌, ℕ, ◌+◌, ◌≤◌, ◌⊎◌, List, [], ◌∷◌, ◌++◌, take, drop, refl, sym, ◌∙◌, ap, inl, inr, arith, length-drop, get_or-drop}
use Rattle.std.specs.Prelude.{◌==◌, if◌then◌else◌}
use Rattle.std.proofs.lemmas.Grind.{same_number_lists}
use Rattle.tdb_words.specs.declared.record.TheConstants.{USED}
use Rattle.tdb_words.specs.declared.word.Order.{Order}
use Rattle.tdb_words.specs.Word.{word}
use Rattle.tdb_words.proofs.Words.{word_agrees}
use Rattle.tdb_space.specs.Form.{Form}
use Rattle.tdb_space.specs.Record.{Whole, key_at, data_at, rec_len_of, key_len_of, data_len_of, full_hash_of, magic_of}
use Rattle.tdb_space.specs.Pairs.{pair_of, pairs}
use Rattle.tdb_space.specs.Extents.{extents}
use Rattle.tdb_space.specs.Exchange.{ButSequence}
use Rattle.tdb_space.specs.Sequence.{SameRecords}
use Rattle.tdb_space.proofs.Exchange.Kept.{record_left}

-- the images the other way round
pub turned : (a b : List ℕ) → ButSequence a b → ButSequence b a
turned a b s = record { size = sym s.size; others = λ i apart. sym (s.others i apart) }

-- each of these offsets lies past the sequence number
abbrev pub AllPast : List ℕ → Type 0
AllPast [] = Unit {0}
AllPast (x ∷ xs) = (52 ≤ x) × AllPast xs

pub past_more : (xs : List ℕ) (x : ℕ) → AllPast xs → 52 ≤ x → AllPast (xs ++ x ∷ [])
past_more [] x past here = (here, tt)
past_more (y ∷ ys) x past here = (past.0, past_more ys x past.1 here)

module _ (a b : List ℕ) (s : ButSequence a b) where
  -- a word beside the sequence number
  pub word_beside : (o : Order) (at : ℕ) → (at + 4 ≤ 48) ⊎ (52 ≤ at) → word o b at ≡ word o a at
  word_beside o at apart = word_agrees o b a at (λ i low high. s.others i (elim apart [ inl under ↦ inl (omega arith) | inr over ↦ inr (omega arith) ]))

  pub word_past : (o : Order) (at : ℕ) → 52 ≤ at → word o b at ≡ word o a at
  word_past o at past = word_beside o at (inr past)

  -- all that follows the sequence number
  pub rest_past : (n : ℕ) → 52 ≤ n → drop n b ≡ drop n a
  rest_past n past = same_number_lists (drop n b) (drop n a) (omega (arith, length-drop n b, length-drop n a, s.size)) (λ k low. get_or-drop n b k 0 ∙ s.others (n + k) (inr (omega arith)) ∙ sym (get_or-drop n a k 0))

  -- the words of a record past it, its key, its value and its pair
  pub rec_len_past : (o : Order) (x : ℕ) → 52 ≤ x → rec_len_of o b x ≡ rec_len_of o a x
  rec_len_past o x past = word_past o (x + 4) (omega arith)

  pub key_len_past : (o : Order) (x : ℕ) → 52 ≤ x → key_len_of o b x ≡ key_len_of o a x
  key_len_past o x past = word_past o (x + 8) (omega arith)

  pub data_len_past : (o : Order) (x : ℕ) → 52 ≤ x → data_len_of o b x ≡ data_len_of o a x
  data_len_past o x past = word_past o (x + 12) (omega arith)

  pub full_hash_past : (o : Order) (x : ℕ) → 52 ≤ x → full_hash_of o b x ≡ full_hash_of o a x
  full_hash_past o x past = word_past o (x + 16) (omega arith)

  pub magic_past : (o : Order) (x : ℕ) → 52 ≤ x → magic_of o b x ≡ magic_of o a x
  magic_past o x past = word_past o (x + 20) (omega arith)

  pub key_past : (o : Order) (x : ℕ) → 52 ≤ x → key_at o b x ≡ key_at o a x
  key_past o x past = λ j. take (key_len_past o x past j) (rest_past (x + 24) (omega arith) j)

  pub data_past : (o : Order) (x : ℕ) → 52 ≤ x → data_at o b x ≡ data_at o a x
  data_past o x past =
      ap (λ n. take (data_len_of o b x) (drop (x + 24 + n) b)) (key_len_past o x past)
      ∙ (λ j. take (data_len_past o x past j) (rest_past (x + 24 + key_len_of o a x) (omega arith) j))

  pair_past : (o : Order) (x : ℕ) → 52 ≤ x → pair_of o b x ≡ pair_of o a x
  pair_past o x past = λ j. if magic_past o x past j == USED then (key_past o x past j, data_past o x past j) ∷ [] else []

  -- records past it hold the same pairs, and have the same extents
  pub pairs_past : (o : Order) (xs : List ℕ) → AllPast xs → pairs o b xs ≡ pairs o a xs
  pairs_past o [] past = refl
  pairs_past o (x ∷ xs) past = λ j. pair_past o x past.0 j ++ pairs_past o xs past.1 j

  pub extents_past : (o : Order) (xs : List ℕ) → AllPast xs → extents o b xs ≡ extents o a xs
  extents_past o [] past = refl
  extents_past o (x ∷ xs) past = λ j. (x, 24 + rec_len_past o x past.0 j) ∷ extents_past o xs past.1 j

  pub whole_past : (f : Form) (x : ℕ) → Whole f a x → Whole f b x
  whole_past f x w = (record_left f a b x (omega (arith, s.size)) w (λ i low high. s.others i (inr (omega (arith, w.above))))).0

pub same_records : (a b : List ℕ) → ButSequence a b → SameRecords a b
same_records a b s = record {
  words = word_beside a b s;
  whole = λ f x. (whole_past a b s f x, whole_past b a (turned a b s) f x);
  record_there = λ f x w. (record_left f a b x (omega (arith, s.size)) w (λ i low high. s.others i (inr (omega (arith, w.above))))).1;
  key_there = λ f x w. key_past a b s f.order x (omega (arith, w.above));
  value_there = λ f x w. data_past a b s f.order x (omega (arith, w.above));
}
