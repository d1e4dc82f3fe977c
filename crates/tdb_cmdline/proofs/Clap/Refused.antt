-- Words that `clap` might read in another way have no reading as a line.
use Rattle.std.proofs.Common.{◌≡◌, ℕ, suc, Bool, true, false, ◌&&◌, cond, ◌==◌, List, [], ◌∷◌, ◌++◌, Option, Some, None, option_map, refl, sym, ◌∙◌, ap, subst, inl, inr, option_and_then, length, nat_lt, arith, lt-ltb}
use Rattle.std.proofs.lemmas.Bool.{cases_Bool, false≢true, and_from, and_right, and_cases, or_right, not-false, eqb-true}
use Rattle.std.specs.List.{after_first, before_first}
use Rattle.tdb_space.specs.Pairs.{same_key}
use Rattle.tdb_space.proofs.Pairs.Maps.{same_key-eq}
use Rattle.clap.specs.Lexer.{has_byte}
use Rattle.tdb_cmdline.specs.declared.options.Command.{Command}
use Rattle.tdb_cmdline.specs.declared.options.Kind.{Kind}
use Rattle.tdb_cmdline.specs.declared.options.Kind.TheVariants.{Valued, Flag}
use Rattle.tdb_cmdline.specs.declared.options.GivenOption.{GivenOption}
use Rattle.tdb_cmdline.specs.Options.{Reading, kind_of, is_given, line_of, parted, with_option, with_option_word, with_parted, with_position, with_value, with_word, with_words, whole}
use Rattle.tdb_cmdline.specs.Words.{is_option, is_short}
use Rattle.tdb_cmdline.specs.Clap.{all_plain, is_plain, some_behind, stands_alone}
use Rattle.tdb_cmdline.proofs.Clap.Words.{Text, is_equals, parted_behind, parted_has, parted_here, parted_lacks}
use Rattle.tdb_cmdline.proofs.Clap.Views.{hyphen_alone, no_value, two_at_least, unnamed}
use Rattle.tdb_cmdline.proofs.Clap.Runs.{dashes, reading_at}

abbrev Keeps : Bool → Option Reading → Type 0
Keeps ended None = Unit {0}
Keeps ended (Some reading) = reading.ended ≡ ended

keeps_option : (reading : Reading) (name : Text) (v : Option Text) → Keeps reading.ended (with_option reading name v)
keeps_option reading name v = go (is_given name reading.options)
  where
    go : (b : Bool) → Keeps reading.ended (cond b None (Some (record reading { options = reading.options ++ record { name = name; value = v } ∷ [] })))
    go true = tt
    go false = refl

keeps_value : (k : Option Kind) (reading : Reading) (name v : Text) → Keeps reading.ended (with_value k reading name v)
keeps_value (Some Valued) reading name v = go (length v == 0)
  where
    go : (b : Bool) → Keeps reading.ended (cond b None (with_option reading name (Some v)))
    go true = tt
    go false = keeps_option reading name (Some v)
keeps_value (Some Flag) reading name v = tt
keeps_value None reading name v = tt

keeps_parted : (parts : Option (Text × Text)) (command : Command) (reading : Reading) → Keeps reading.ended (with_parted parts command reading)
keeps_parted (Some p) command reading = keeps_value (kind_of command p.0) reading p.0 p.1
keeps_parted None command reading = tt

keeps_option_word : (k : Option Kind) (command : Command) (reading : Reading) (word : Text) → Keeps reading.ended (with_option_word k command reading word)
keeps_option_word (Some Valued) command reading word = refl
keeps_option_word (Some Flag) command reading word = keeps_option reading word None
keeps_option_word None command reading word = keeps_parted (parted word) command reading

-- a word other than `--` leaves it at that
keeps_word : (command : Command) (os : List GivenOption) (ps : List Text) (o : Option Text) (word : Text) → is_short word ≡ true → same_key word dashes ≡ false → Keeps false (with_word command (reading_at os ps o false) word)
keeps_word command os ps None word short apart = rw (short, apart) (go (is_option word))
  where
    go : (b : Bool) → Keeps false (cond b (with_option_word (kind_of command word) command (reading_at os ps None false) word) (with_position (reading_at os ps None false) word))
    go true = keeps_option_word (kind_of command word) command (reading_at os ps None false) word
    go false = refl
keeps_word command os ps (Some name) word short apart = rw short (go (is_option word))
  where
    go : (b : Bool) → Keeps false (cond b None (with_option (reading_at os ps None false) name (Some word)))
    go true = tt
    go false = keeps_option (reading_at os ps None false) name (Some word)

module _ (command : Command) where
  empty_value : (k : Option Kind) (reading : Reading) (name v : Text) → (length v == 0) ≡ true → with_value k reading name v ≡ None
  empty_value (Some Valued) reading name v empty = rw empty refl
  empty_value (Some Flag) reading name v empty = refl
  empty_value None reading name v empty = refl

  -- options of the wrong form
  long_refused : (xs : Text) (reading : Reading) → some_behind (parted (45 ∷ 45 ∷ xs)) ≡ false → with_option_word (kind_of command (45 ∷ 45 ∷ xs)) command reading (45 ∷ 45 ∷ xs) ≡ None
  long_refused xs reading bare = elim (cases_Bool (has_byte 61 (45 ∷ 45 ∷ xs))) [
    | inl has ↦
        let parts = parted_has (45 ∷ 45 ∷ xs) has in
        let none : kind_of command (45 ∷ 45 ∷ xs) ≡ None = unnamed command (45 ∷ 45 ∷ xs) (rw has (and_right _ false refl)) in
        let empty : (length (after_first is_equals (45 ∷ 45 ∷ xs)) == 0) ≡ true = not-false _ (rw parts at bare) in
        rw (none, parts) (empty_value (kind_of command (before_first is_equals (45 ∷ 45 ∷ xs))) reading (before_first is_equals (45 ∷ 45 ∷ xs)) (after_first is_equals (45 ∷ 45 ∷ xs)) empty)
    | inr lacks ↦ absurd (false≢true (sym bare ∙ rw (parted_lacks (45 ∷ 45 ∷ xs) lacks) refl))
  ]

  module _ (x : ℕ) (reading : Reading) (letter : (x == 45) ≡ false) where
    no_ascii : (b : Bool) → (nat_lt x 128 && b) ≡ false → b ≡ true → nat_lt x 128 ≡ false
    no_ascii b both is = elim (and_cases (nat_lt x 128) b both) [ inl wide ↦ wide | inr no_b ↦ absurd (false≢true (sym no_b ∙ is)) ]

    parts_refused : (y : ℕ) (ys : Text) → stands_alone (45 ∷ x ∷ y ∷ ys) ≡ false → with_parted (parted (45 ∷ x ∷ y ∷ ys)) command reading ≡ None
    parts_refused y ys bare = elim (cases_Bool (x == 61)) [
      | inl is ↦
          let parts : parted (45 ∷ x ∷ y ∷ ys) ≡ Some (45 ∷ [], y ∷ ys) = parted_behind 45 (x ∷ y ∷ ys) refl ∙ ap (option_map (λ p. (45 ∷ p.0, p.1))) (ap (λ b. parted (b ∷ y ∷ ys)) (eqb-true x 61 is) ∙ parted_here (y ∷ ys)) in
          rw (parts, hyphen_alone command) refl
      | inr other ↦
          let front : parted (45 ∷ x ∷ y ∷ ys) ≡ option_map (λ p. (45 ∷ p.0, p.1)) (option_map (λ p. (x ∷ p.0, p.1)) (parted (y ∷ ys))) =
          parted_behind 45 (x ∷ y ∷ ys) refl ∙ ap (option_map (λ p. (45 ∷ p.0, p.1))) (parted_behind x (y ∷ ys) other) in
          elim (cases_Bool (y == 61)) [
            | inl is ↦
                let here : parted (y ∷ ys) ≡ Some ([], ys) = ap (λ b. parted (b ∷ ys)) (eqb-true y 61 is) ∙ parted_here ys in
                rw (front, here) (value_refused ys is bare)
            | inr apart ↦ elim (cases_Bool (has_byte 61 (y ∷ ys))) [
              | inl has ↦
                  let first : parted (y ∷ ys) ≡ option_map (λ p. (y ∷ p.0, p.1)) (parted ys) = parted_behind y ys apart in
                  rw (front, first) (rest_refused (parted ys))
              | inr lacks ↦ rw (front, parted_lacks (y ∷ ys) lacks) refl
            ]
          ]
    ]
      where
        value_refused : (zs : Text) → (y == 61) ≡ true → stands_alone (45 ∷ x ∷ y ∷ zs) ≡ false → with_value (kind_of command (45 ∷ x ∷ [])) reading (45 ∷ x ∷ []) zs ≡ None
        value_refused [] is bare = empty_value (kind_of command (45 ∷ x ∷ [])) reading (45 ∷ x ∷ []) [] refl
        value_refused (v ∷ vs) is bare =
            let four : nat_lt 3 (suc (suc (suc (suc (length vs))))) ≡ true = lt-ltb 3 (suc (suc (suc (suc (length vs))))) (omega arith) in
            let wide = no_ascii _ bare (or_right (suc (suc (suc (suc (length vs)))) == 2) _ (and_from _ _ four is)) in
            rw (unnamed command (45 ∷ x ∷ []) (rw wide refl)) refl

        rest_refused : (parts : Option (Text × Text)) → with_parted (option_map (λ (p : Text × Text). (45 ∷ p.0, p.1)) (option_map (λ (p : Text × Text). (x ∷ p.0, p.1)) (option_map (λ (p : Text × Text). (y ∷ p.0, p.1)) parts))) command reading ≡ None
        rest_refused None = refl
        rest_refused (Some p) = rw (unnamed command (45 ∷ x ∷ y ∷ p.0) (rw letter refl)) refl

    letter_refused : (xs : Text) → stands_alone (45 ∷ x ∷ xs) ≡ false → with_option_word (kind_of command (45 ∷ x ∷ xs)) command reading (45 ∷ x ∷ xs) ≡ None
    letter_refused [] bare = rw (unnamed command (45 ∷ x ∷ []) (let wide = no_ascii true bare refl in rw wide refl)) (no_value command x reading)
    letter_refused (y ∷ ys) bare = rw (unnamed command (45 ∷ x ∷ y ∷ ys) (rw letter refl)) (parts_refused y ys bare)

  abbrev IsRefused : Text → Type 0
  IsRefused word = (reading : Reading) → (is_option word ≡ true) × (with_option_word (kind_of command word) command reading word ≡ None)

  hyphen_refused : (y : ℕ) (ys : Text) → is_plain (45 ∷ y ∷ ys) ≡ false → IsRefused (45 ∷ y ∷ ys)
  hyphen_refused y ys bare reading =
      let parts : is_plain (45 ∷ y ∷ ys) ≡ cond (y == 45) (some_behind (parted (45 ∷ y ∷ ys))) (stands_alone (45 ∷ y ∷ ys)) = rw (two_at_least command 45 y ys) refl in (
        rw (two_at_least command 45 y ys) refl,
        elim (cases_Bool (y == 45)) [
          | inl is ↦
              let long : some_behind (parted (45 ∷ y ∷ ys)) ≡ false = ap (λ b. cond b (some_behind (parted (45 ∷ y ∷ ys))) (stands_alone (45 ∷ y ∷ ys))) (sym is) ∙ sym parts ∙ bare in
              let hyphen = eqb-true y 45 is in
              subst (λ b. with_option_word (kind_of command (45 ∷ b ∷ ys)) command reading (45 ∷ b ∷ ys) ≡ None) (sym hyphen) (long_refused ys reading (subst (λ b. some_behind (parted (45 ∷ b ∷ ys)) ≡ false) hyphen long))
          | inr letter ↦ letter_refused y reading letter ys (ap (λ b. cond b (some_behind (parted (45 ∷ y ∷ ys))) (stands_alone (45 ∷ y ∷ ys))) (sym letter) ∙ sym parts ∙ bare)
        ],
      )

  option_refused : (word : Text) → is_plain word ≡ false → IsRefused word
  option_refused [] bare = absurd (false≢true (sym bare))
  option_refused (x ∷ []) bare = absurd (false≢true (sym bare))
  option_refused (x ∷ y ∷ ys) bare = elim (cases_Bool (x == 45)) [
    | inl is ↦
        let hyphen = eqb-true x 45 is in
        subst (λ b. IsRefused (b ∷ y ∷ ys)) (sym hyphen) (hyphen_refused y ys (subst (λ b. is_plain (b ∷ y ∷ ys) ≡ false) hyphen bare))
    | inr other ↦
        let no_option : is_option (x ∷ y ∷ ys) ≡ false = and_right _ (x == 45) other in
        absurd (false≢true (sym bare ∙ rw no_option refl))
  ]

  -- all words
  word_refused : (os : List GivenOption) (ps : List Text) (o : Option Text) (word : Text) → is_short word ≡ true → same_key word dashes ≡ false → is_plain word ≡ false → with_word command (reading_at os ps o false) word ≡ None
  word_refused os ps None word short apart bare = let no = option_refused word bare (reading_at os ps None false) in rw (short, apart, no.0) no.1
  word_refused os ps (Some name) word short apart bare = rw (short, (option_refused word bare (reading_at os ps None false)).0) refl

  words_refused : (words : List Text) (os : List GivenOption) (ps : List Text) (o : Option Text) (ended : Bool) → all_plain ended words ≡ false → with_words command (reading_at os ps o ended) words ≡ None
  words_refused [] os ps o ended bare = absurd (false≢true (sym bare))
  words_refused (word ∷ words) os ps o true bare = elim (cases_Bool (is_short word)) [
    | inr long ↦ rw long refl
    | inl short ↦ rw short (words_refused words os (ps ++ word ∷ []) o true (rw short at bare))
  ]
  words_refused (word ∷ words) os ps o false bare = elim (cases_Bool (is_short word)) [
    | inr long ↦ rw long refl
    | inl short ↦ elim (cases_Bool (same_key word dashes)) [
      | inl end ↦ subst (λ t. with_words command (reading_at os ps o false) (t ∷ words) ≡ None) (sym (same_key-eq word dashes end)) (ends o (rw (short, end) at bare) (λ r. words_refused words os ps None true r))
      | inr apart ↦ elim (and_cases (is_plain word) (all_plain false words) (rw (short, apart) at bare)) [
        | inl own ↦ ap (option_and_then (λ more. with_words command more words)) (word_refused os ps o word short apart own)
        | inr rest ↦ behind (with_word command (reading_at os ps o false) word) (keeps_word command os ps o word short apart) (λ r none. words_refused words r.options r.positions r.waiting r.ended (ap (λ b. all_plain b words) none ∙ rest))
      ]
    ]
  ]
    where
      ends : (p : Option Text) → all_plain true words ≡ false → (all_plain true words ≡ false → with_words command (reading_at os ps None true) words ≡ None) → with_words command (reading_at os ps p false) (dashes ∷ words) ≡ None
      ends None r more = more r
      ends (Some name) r more = refl

      behind : (reading : Option Reading) → Keeps false reading → ((r : Reading) → r.ended ≡ false → with_words command r words ≡ None) → option_and_then (λ more. with_words command more words) reading ≡ None
      behind None keeps more = refl
      behind (Some r) keeps more = more r keeps

  pub line_refused : (words : List Text) → all_plain false words ≡ false → line_of command words ≡ None
  line_refused words bare = ap (option_and_then (λ reading. whole reading.waiting reading)) (words_refused words [] [] None false bare)
