-- The number that a word writes is what its digits say.
use Rattle.std.proofs.Common.{◌≡◌, ℕ, ◌≤◌, Bool, true, false, List, [], ◌∷◌, length, Option, None, Some, refl, sym, ◌∙◌, ap, arith}
use Rattle.std.specs.Prelude.{◌&&◌, nat_lt, nat_le, IfSome}
use Rattle.std.specs.Str.Parse.{AllDigits, IsNumeral, digits_value}
use Rattle.std.specs.Char.{digit_value}
use Rattle.std.proofs.lemmas.Bool.{and_parts, lt-ltb, ltb-true, le-leb, leb-true, false_from_ne_true}
use Rattle.tdb_cmdline.specs.declared.limits.TheConstants.{LONGEST_NUMBER}
use Rattle.tdb_cmdline.specs.Words.{all_digits, is_numeral, is_number, number_of, IsNumber}

digits_are : (word : List ℕ) → all_digits word ≡ true → AllDigits 10 word
digits_are [] is = tt
digits_are (c ∷ cs) is =
    let parts = and_parts (nat_lt (digit_value c) 10) (all_digits cs) is in
    (ltb-true (digit_value c) 10 parts.0, digits_are cs parts.1)

are_digits : (word : List ℕ) → AllDigits 10 word → all_digits word ≡ true
are_digits [] all = refl
are_digits (c ∷ cs) all = rw (lt-ltb (digit_value c) 10 all.0) (are_digits cs all.1)

numeral_is : (word : List ℕ) → is_numeral word ≡ true → IsNumeral 10 word
numeral_is word is =
    let parts = and_parts (nat_lt 0 (length word)) (all_digits word) is in
    (ltb-true 0 (length word) parts.0, digits_are word parts.1)

is_numeral_of : (word : List ℕ) → IsNumeral 10 word → is_numeral word ≡ true
is_numeral_of word p = rw (lt-ltb 0 (length word) p.0) (are_digits word p.1)

all_true : (a b c d : Bool) → a ≡ true → b ≡ true → c ≡ true → d ≡ true → (a && (b && (c && d))) ≡ true
all_true a b c d p q r s = (λ j. p j && (q j && (r j && s j)))

module _ (least most : ℕ) where
  number_is : (word : List ℕ) → is_number least most word ≡ true → IsNumber least most word (digits_value 10 word)
  number_is word is =
      let value = digits_value 10 word in
      let first = and_parts (is_numeral word) (nat_le (length word) LONGEST_NUMBER && (nat_le least value && nat_le value most)) is in
      let second = and_parts (nat_le (length word) LONGEST_NUMBER) (nat_le least value && nat_le value most) first.1 in
      let third = and_parts (nat_le least value) (nat_le value most) second.1 in
      record {
        numeral = numeral_is word first.0;
        short = leb-true (length word) LONGEST_NUMBER second.0;
        value = refl;
        no_less = leb-true least value third.0;
        no_more = leb-true value most third.1;
      }

  is_number_of : (word : List ℕ) (n : ℕ) → IsNumber least most word n → is_number least most word ≡ true
  is_number_of word n p =
      let value = digits_value 10 word in
      let no_less : least ≤ value = omega (arith, p.value, p.no_less) in
      let no_more : value ≤ most = omega (arith, p.value, p.no_more) in
      all_true (is_numeral word) (nat_le (length word) LONGEST_NUMBER) (nat_le least value) (nat_le value most)
      (is_numeral_of word p.numeral) (le-leb (length word) LONGEST_NUMBER p.short) (le-leb least value no_less) (le-leb value most no_more)

  numbered : (word : List ℕ) → is_number least most word ≡ true → number_of least most word ≡ Some (digits_value 10 word)
  numbered word is = rw is refl

  unnumbered : (word : List ℕ) → is_number least most word ≡ false → number_of least most word ≡ None
  unnumbered word is = rw is refl

  pub number_found : (word : List ℕ) (r : Option ℕ) → IfSome r (λ n. IsNumber least most word n) → (r ≡ None → (n : ℕ) → IsNumber least most word n → ⊥) → r ≡ number_of least most word
  number_found word None read refused = sym (unnumbered word (false_from_ne_true (is_number least most word) (λ is. refused refl (digits_value 10 word) (number_is word is))))
  number_found word (Some n) read refused = ap Some read.value ∙ sym (numbered word (is_number_of word n read))
