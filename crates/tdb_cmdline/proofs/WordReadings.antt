-- The bytes that a word stands for are those that its grammar says.
use Rattle.std.proofs.Common.{◌≡◌, ℕ, ◌+◌, ◌*◌, true, false, List, [], ◌∷◌, ◌++◌, Option, None, Some, refl, sym, ◌∙◌, ap, subst, inl, inr}
use Rattle.std.specs.Prelude.{◌==◌, ◌≢◌, not}
use Rattle.std.specs.Option.{option_map}
use Rattle.std.proofs.lemmas.Bool.{eq-eqb, ne_eqb, cases_Bool, cases_eq, false≢true}
use Rattle.tdb_dump.specs.Escape.{hex_value, IsLetter, Letters}
use Rattle.tdb_dump.specs.Word.{stands_in_word, IsWord, IsBadEscapeAt}
use Rattle.tdb_dump.proofs.GrammarLemmas.{no_word}
use Rattle.tdb_space.specs.Pairs.{same_key}
use Rattle.tdb_space.proofs.Pairs.Maps.{same_key-eq, same_key-refl, same_key-other}
use Rattle.tdb_cmdline.specs.Words.{escaped, letters_of, bytes_of}

-- a letter that is a byte itself, in front of what follows
letter_itself : (b : ℕ) (rest : List ℕ) → b ≢ 92 → letters_of (b ∷ rest) ≡ option_map (λ bytes. b ∷ bytes) (letters_of rest)
letter_itself b [] other = rw (ne_eqb b 92 other) refl
letter_itself b (c ∷ []) other = rw (ne_eqb b 92 other) refl
letter_itself b (c ∷ d ∷ rest) other = rw (ne_eqb b 92 other) refl

not_backslash : (b : ℕ) → stands_in_word b ≡ true → b ≢ 92
unfolding stands_in_word
not_backslash b stands is = false≢true (sym (ap (λ x. not (x == 92)) is) ∙ stands)

stands_alone : (b : ℕ) → b ≢ 92 → stands_in_word b ≡ true
unfolding stands_in_word
stands_alone b other = rw (ne_eqb b 92 other) refl

-- what the grammar says is what the letters stand for
complete : (bytes text : List ℕ) → Letters stands_in_word text bytes → letters_of text ≡ Some bytes
complete [] text none = ap letters_of none
complete (b ∷ bytes) text p = ap letters_of p.2 ∙ letter p.0 p.3 (complete bytes p.1 p.4)
  where
    letter : (front : List ℕ) → IsLetter stands_in_word front b → letters_of p.1 ≡ Some bytes → letters_of (front ++ p.1) ≡ Some (b ∷ bytes)
    letter front (inl l) rest = ap (λ x. letters_of (x ++ p.1)) l.0 ∙ letter_itself b p.1 (not_backslash b l.1) ∙ ap (option_map (λ more. b ∷ more)) rest
    letter front (inr l) rest =
        ap (λ x. letters_of (x ++ p.1)) l.4 ∙ (λ j. escaped (l.5 j) (l.6 j) (rest j)) ∙ ap (λ x. Some (x ∷ bytes)) (sym l.7)

-- and the other way round
one_letter : (b : ℕ) (rest bytes : List ℕ) → b ≢ 92 → Letters stands_in_word rest bytes → Letters stands_in_word (b ∷ rest) (b ∷ bytes)
one_letter b rest bytes other more = (b ∷ [], rest, refl, inl (refl, stands_alone b other), more)

letters_moved : (text bytes others : List ℕ) → bytes ≡ others → Letters stands_in_word text others → Letters stands_in_word text bytes
letters_moved text bytes others same = subst (Letters stands_in_word text) (sym same)

under : (o : Option (List ℕ)) (b : ℕ) (bytes : List ℕ) → option_map (λ more. b ∷ more) o ≡ Some bytes → (more : List ℕ) × (o ≡ Some more) × (bytes ≡ b ∷ more)
under None b bytes is = absurd cc
under (Some more) b bytes is = (more, refl, cc)

record Escaped (high low : Option ℕ) (rest : Option (List ℕ)) (bytes : List ℕ) : Type 0 where
  h : ℕ
  l : ℕ
  more : List ℕ
  high_is : high ≡ Some h
  low_is : low ≡ Some l
  rest_is : rest ≡ Some more
  bytes_are : bytes ≡ (16 * h + l) ∷ more

escape_of : (high low : Option ℕ) (rest : Option (List ℕ)) (bytes : List ℕ) → escaped high low rest ≡ Some bytes → Escaped high low rest bytes
escape_of None low rest bytes is = absurd cc
escape_of (Some h) None rest bytes is = absurd cc
escape_of (Some h) (Some l) None bytes is = absurd cc
escape_of (Some h) (Some l) (Some more) bytes is = record { h = h; l = l; more = more; high_is = refl; low_is = refl; rest_is = refl; bytes_are = cc }

sound : (text bytes : List ℕ) → letters_of text ≡ Some bytes → Letters stands_in_word text bytes
sound [] bytes is = let none : [] ≡ bytes = cc in subst (Letters stands_in_word []) none refl
sound (b ∷ []) bytes is = elim (cases_eq b 92) [
  | inl same ↦
      let none : letters_of (b ∷ []) ≡ None = rw (eq-eqb b 92 same) refl in
      let bad : None ≡ Some bytes = sym none ∙ is in absurd cc
  | inr other ↦
      let at = under (letters_of []) b bytes (sym (letter_itself b [] other) ∙ is) in
      letters_moved (b ∷ []) bytes (b ∷ at.0) at.2 (one_letter b [] at.0 other (sound [] at.0 at.1))
]
sound (b ∷ c ∷ []) bytes is = elim (cases_eq b 92) [
  | inl same ↦
      let none : letters_of (b ∷ c ∷ []) ≡ None = rw (eq-eqb b 92 same) refl in
      let bad : None ≡ Some bytes = sym none ∙ is in absurd cc
  | inr other ↦
      let at = under (letters_of (c ∷ [])) b bytes (sym (letter_itself b (c ∷ []) other) ∙ is) in
      letters_moved (b ∷ c ∷ []) bytes (b ∷ at.0) at.2 (one_letter b (c ∷ []) at.0 other (sound (c ∷ []) at.0 at.1))
]
sound (b ∷ c ∷ d ∷ rest) bytes is = elim (cases_eq b 92) [
  | inl same ↦
      let opened : letters_of (b ∷ c ∷ d ∷ rest) ≡ escaped (hex_value c) (hex_value d) (letters_of rest) = rw (eq-eqb b 92 same) refl in
      let at = escape_of (hex_value c) (hex_value d) (letters_of rest) bytes (sym opened ∙ is) in
      letters_moved (b ∷ c ∷ d ∷ rest) bytes ((16 * at.h + at.l) ∷ at.more) at.bytes_are
      (b ∷ c ∷ d ∷ [], rest, refl, inr (at.h, at.l, c, d, ap (λ x. x ∷ c ∷ d ∷ []) same, at.high_is, at.low_is, refl), sound rest at.more at.rest_is)
  | inr other ↦
      let at = under (letters_of (c ∷ d ∷ rest)) b bytes (sym (letter_itself b (c ∷ d ∷ rest) other) ∙ is) in
      letters_moved (b ∷ c ∷ d ∷ rest) bytes (b ∷ at.0) at.2 (one_letter b (c ∷ d ∷ rest) at.0 other (sound (c ∷ d ∷ rest) at.0 at.1))
]

-- the reading of a word
empty_word : (word : List ℕ) → word ≡ 34 ∷ 34 ∷ [] → bytes_of word ≡ Some []
empty_word word is = rw (subst (λ w. same_key word w ≡ true) is (same_key-refl word)) refl

other_word : (word : List ℕ) → same_key word (34 ∷ 34 ∷ []) ≡ false → bytes_of word ≡ letters_of word
other_word word other = rw other refl

pub word_read : (word bytes : List ℕ) → IsWord word bytes → Some bytes ≡ bytes_of word
word_read word bytes (inl p) = ap Some p.1 ∙ sym (empty_word word p.0)
word_read word bytes (inr p) = sym (other_word word (same_key-other word (34 ∷ 34 ∷ []) p.0) ∙ complete bytes word p.1)

-- and a word without one
no_letters : (word : List ℕ) (at : ℕ) → IsBadEscapeAt word at → (word ≡ 34 ∷ 34 ∷ [] → ⊥) → (o : Option (List ℕ)) → o ≡ letters_of word → letters_of word ≡ None
no_letters word at bad apart None is = sym is
no_letters word at bad apart (Some bytes) is = absurd (no_word word bytes at bad (inr (apart, sound word bytes (sym is))))

pub word_unread : (word : List ℕ) (at : ℕ) → IsBadEscapeAt word at → None ≡ bytes_of word
word_unread word at bad = elim (cases_Bool (same_key word (34 ∷ 34 ∷ []))) [
  | inl same ↦ absurd (no_word word [] at bad (inl (same_key-eq word (34 ∷ 34 ∷ []) same, refl)))
  | inr other ↦ sym (other_word word other ∙ no_letters word at bad (λ same. false≢true (sym other ∙ ap (same_key word) (sym same) ∙ same_key-refl word)) (letters_of word) refl)
]
