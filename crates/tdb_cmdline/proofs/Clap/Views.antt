-- What the reading and `clap` make of a word that stands where an option may.
use Rattle.std.proofs.Common.{◌≡◌, ℕ, suc, ◌⊎◌, true, false, ◌&&◌, cond, ◌==◌, List, [], ◌∷◌, Option, Some, None, option_map, refl, sym, ◌∙◌, ap, ap₂, subst, inl, inr, arith, nat_lt, length, lt-ltb}
use Rattle.std.proofs.lemmas.Bool.{eqb-true, ne_eqb, cases_Bool, false≢true, and_parts, and_right, or_cases, not-true}
use Rattle.std.specs.List.{before_first, after_first}
use Rattle.tdb_space.specs.Pairs.{same_key}
use Rattle.clap.specs.Lexer.{has_byte, long_of, short_of}
use Rattle.clap.specs.Words.{Row}
use Rattle.clap.specs.Walk.{Waiting}
use Rattle.tdb_cmdline.specs.declared.options.Command.{Command}
use Rattle.tdb_cmdline.specs.declared.options.Kind.{Kind}
use Rattle.tdb_cmdline.specs.declared.options.Kind.TheVariants.{Valued, Flag}
use Rattle.tdb_cmdline.specs.Options.{Reading, parted, kind_of, options_of, with_option, with_option_word, with_parted, with_value}
use Rattle.tdb_cmdline.specs.Words.{is_option}
use Rattle.tdb_cmdline.specs.Clap.{is_plain, some_behind, stands_alone}
use Rattle.tdb_cmdline.proofs.Clap.Rules.{is_name, names, named}
use Rattle.tdb_cmdline.proofs.Clap.Words.{Text, fault, next, Says, is_equals, no_equals, parted_behind, parted_has, parted_lacks, parted_here, long_word, letter_alone, letter_valued}

-- what a use of an option does to the reading
abbrev pub says : Option Kind → Text → Option Text → Reading → Option Reading
says (Some Valued) name None reading = Some (record reading { waiting = Some name })
says (Some Valued) name (Some v) reading = with_option reading name (Some v)
says (Some Flag) name None reading = with_option reading name None
says (Some Flag) name (Some v) reading = None
says None name v reading = None

not_empty : (v : ℕ) (vs : Text) → (length (v ∷ vs) == 0) ≡ false
not_empty v vs = ne_eqb (suc (length vs)) 0 (λ e. omega arith)

module _ (command : Command) where
  -- an option word is a use of an option, or of none that the command has
  pub record OptionWord (word : Text) : Type 0 where
    pub name : Text
    pub value : Option Text
    pub said : (rows : List Row) (pending : Option (Text × List Text)) (waiting : Waiting)
        → Says (options_of command) (names command) rows pending (kind_of command name) name value (fault (options_of command) (names command) rows pending waiting false word) (next (options_of command) (names command) rows pending waiting false word)
    pub reading : (reading : Reading) → with_option_word (kind_of command word) command reading word ≡ says (kind_of command name) name value reading

  -- a name has no `=`, and begins with a hyphen
  pub unnamed : (name : Text) → is_name name ≡ false → kind_of command name ≡ None
  unnamed name other = go (kind_of command name) refl
    where
      go : (k : Option Kind) → kind_of command name ≡ k → k ≡ None
      go None e = refl
      go (Some k) e = absurd (false≢true (sym other ∙ named (options_of command) name k (names command) e))

  -- a word without a value
  reading_alone : (word : Text) (reading : Reading) → with_parted (parted word) command reading ≡ None → with_option_word (kind_of command word) command reading word ≡ says (kind_of command word) word None reading
  reading_alone word reading none = go (kind_of command word)
    where
      go : (k : Option Kind) → with_option_word k command reading word ≡ says k word None reading
      go (Some Valued) = refl
      go (Some Flag) = refl
      go None = none

  -- a word with one
  reading_valued : (word name value : Text) (reading : Reading) → kind_of command word ≡ None → parted word ≡ Some (name, value) → (length value == 0) ≡ false
      → with_option_word (kind_of command word) command reading word ≡ says (kind_of command name) name (Some value) reading
  reading_valued word name value reading none parts some = rw (none, parts) (go (kind_of command name))
    where
      go : (k : Option Kind) → with_value k reading name value ≡ says k name (Some value) reading
      go (Some Valued) = rw some refl
      go (Some Flag) = refl
      go None = refl

  some_value : (word name value : Text) → parted word ≡ Some (name, value) → some_behind (parted word) ≡ true → (length value == 0) ≡ false
  some_value word name value parts plain = not-true _ (rw parts at plain)

  long_option : (x : ℕ) (xs : Text) → some_behind (parted (45 ∷ 45 ∷ x ∷ xs)) ≡ true → OptionWord (45 ∷ 45 ∷ x ∷ xs)
  long_option x xs plain = elim (cases_Bool (has_byte 61 (x ∷ xs))) [
    | inl has ↦
        let parts : parted (45 ∷ 45 ∷ x ∷ xs) ≡ Some (45 ∷ 45 ∷ before_first is_equals (x ∷ xs), after_first is_equals (x ∷ xs)) =
        parted_behind 45 (45 ∷ x ∷ xs) refl ∙ ap (option_map (λ p. (45 ∷ p.0, p.1))) (parted_behind 45 (x ∷ xs) refl ∙ ap (option_map (λ p. (45 ∷ p.0, p.1))) (parted_has (x ∷ xs) has)) in
        let is : long_of (45 ∷ 45 ∷ x ∷ xs) ≡ Some (before_first is_equals (x ∷ xs), Some (after_first is_equals (x ∷ xs))) = rw has refl in
        record {
          name = 45 ∷ 45 ∷ before_first is_equals (x ∷ xs);
          value = Some (after_first is_equals (x ∷ xs));
          said = λ rows pending waiting. long_word (options_of command) (names command) rows pending (45 ∷ 45 ∷ x ∷ xs) waiting (before_first is_equals (x ∷ xs)) (Some (after_first is_equals (x ∷ xs))) refl is;
          reading = λ reading. reading_valued (45 ∷ 45 ∷ x ∷ xs) (45 ∷ 45 ∷ before_first is_equals (x ∷ xs)) (after_first is_equals (x ∷ xs)) reading (unnamed (45 ∷ 45 ∷ x ∷ xs) (rw has refl)) parts (some_value (45 ∷ 45 ∷ x ∷ xs) _ _ parts plain);
        }
    | inr lacks ↦
        let is : long_of (45 ∷ 45 ∷ x ∷ xs) ≡ Some (x ∷ xs, None) = ap₂ (λ n v. Some (n, v)) (no_equals (x ∷ xs) lacks) (rw lacks refl) in
        record {
          name = 45 ∷ 45 ∷ x ∷ xs;
          value = None;
          said = λ rows pending waiting. long_word (options_of command) (names command) rows pending (45 ∷ 45 ∷ x ∷ xs) waiting (x ∷ xs) None refl is;
          reading = λ reading. reading_alone (45 ∷ 45 ∷ x ∷ xs) reading (ap (λ p. with_parted p command reading) (parted_lacks (45 ∷ 45 ∷ x ∷ xs) lacks));
        }
  ]

  pub hyphen_alone : kind_of command (45 ∷ []) ≡ None
  hyphen_alone = unnamed (45 ∷ []) refl

  pub no_value : (x : ℕ) (reading : Reading) → with_parted (parted (45 ∷ x ∷ [])) command reading ≡ None
  no_value x reading = elim (cases_Bool (x == 61)) [
    | inl is ↦
        let parts : parted (45 ∷ x ∷ []) ≡ Some (45 ∷ [], []) = parted_behind 45 (x ∷ []) refl ∙ rw is refl in
        rw (parts, hyphen_alone) refl
    | inr other ↦
        let parts : parted (45 ∷ x ∷ []) ≡ None = parted_behind 45 (x ∷ []) refl ∙ rw other refl in
        rw parts refl
  ]

  module _ (x : ℕ) (ascii : nat_lt x 128 ≡ true) (letter : (x == 45) ≡ false) where
    letter_option : OptionWord (45 ∷ x ∷ [])
    letter_option = record {
      name = 45 ∷ x ∷ [];
      value = None;
      said = λ rows pending waiting. letter_alone (options_of command) (names command) rows pending x ascii letter waiting;
      reading = λ reading. reading_alone (45 ∷ x ∷ []) reading (no_value x reading);
    }

    valued_option : (v : ℕ) (vs : Text) → OptionWord (45 ∷ x ∷ 61 ∷ v ∷ vs)
    valued_option v vs = record {
      name = 45 ∷ x ∷ [];
      value = Some (v ∷ vs);
      said = λ rows pending waiting. letter_valued (options_of command) (names command) rows pending x ascii letter v vs waiting;
      reading = λ reading. elim (cases_Bool (x == 61)) [
        | inl is ↦
            let parts : parted (45 ∷ x ∷ 61 ∷ v ∷ vs) ≡ Some (45 ∷ [], 61 ∷ v ∷ vs) = parted_behind 45 (x ∷ 61 ∷ v ∷ vs) refl ∙ ap (option_map (λ p. (45 ∷ p.0, p.1))) (ap (λ b. parted (b ∷ 61 ∷ v ∷ vs)) (eqb-true x 61 is) ∙ parted_here (61 ∷ v ∷ vs)) in
            let none : kind_of command (45 ∷ x ∷ 61 ∷ v ∷ vs) ≡ None = unnamed (45 ∷ x ∷ 61 ∷ v ∷ vs) (rw letter refl) in
            let other : kind_of command (45 ∷ x ∷ []) ≡ None = unnamed (45 ∷ x ∷ []) (rw (is, letter, ascii) refl) in
            rw (none, parts, hyphen_alone, other) refl
        | inr other ↦
            let parts : parted (45 ∷ x ∷ 61 ∷ v ∷ vs) ≡ Some (45 ∷ x ∷ [], v ∷ vs) = parted_behind 45 (x ∷ 61 ∷ v ∷ vs) refl ∙ ap (option_map (λ p. (45 ∷ p.0, p.1))) (parted_behind x (61 ∷ v ∷ vs) other ∙ ap (option_map (λ p. (x ∷ p.0, p.1))) (parted_here (v ∷ vs))) in
            reading_valued (45 ∷ x ∷ 61 ∷ v ∷ vs) (45 ∷ x ∷ []) (v ∷ vs) reading (unnamed (45 ∷ x ∷ 61 ∷ v ∷ vs) (rw letter refl)) parts (not_empty v vs)
      ];
    }

  -- a word where an option may stand is `--`, a position, or a plain option
  pub record PositionWord (word : Text) : Type 0 where
    pub no_option : is_option word ≡ false
    pub no_end : same_key word (45 ∷ 45 ∷ []) ≡ false
    pub no_long : long_of word ≡ None
    pub no_short : short_of word ≡ None

  pub record PlainOption (word : Text) : Type 0 where
    pub option : is_option word ≡ true
    pub no_end : same_key word (45 ∷ 45 ∷ []) ≡ false
    pub use_of : OptionWord word

  abbrev pub View : Text → Type 0
  View word = (word ≡ 45 ∷ 45 ∷ []) ⊎ (PositionWord word ⊎ PlainOption word)

  pub two_at_least : (x y : ℕ) (ys : Text) → nat_lt 1 (length (x ∷ y ∷ ys)) ≡ true
  two_at_least x y ys = lt-ltb 1 (suc (suc (length ys))) (omega arith)

  no_hyphen : (x : ℕ) (xs : Text) → (x == 45) ≡ false → PositionWord (x ∷ xs)
  no_hyphen x xs other = record {
    no_option = and_right _ (x == 45) other;
    no_end = rw other refl;
    no_long = rw other refl;
    no_short = rw other refl;
  }

  letter_view : (x : ℕ) (xs : Text) → (x == 45) ≡ false → stands_alone (45 ∷ x ∷ xs) ≡ true → View (45 ∷ x ∷ xs)
  letter_view x [] letter plain = inr (inr (record {
    option = rw (two_at_least 45 x []) refl;
    no_end = rw letter refl;
    use_of = letter_option x (and_parts _ _ plain).0 letter;
  }))
  letter_view x (y ∷ []) letter plain = absurd (false≢true ((and_parts (nat_lt x 128) false plain).1))
  letter_view x (y ∷ v ∷ vs) letter plain =
      let parts = and_parts (nat_lt x 128) _ plain in
      let is : y ≡ 61 = third (or_cases (suc (suc (suc (suc (length vs)))) == 2) _ parts.1) in
      inr (inr (record {
        option = rw (two_at_least 45 x (y ∷ v ∷ vs)) refl;
        no_end = rw letter refl;
        use_of = subst (λ b. OptionWord (45 ∷ x ∷ b ∷ v ∷ vs)) (sym is) (valued_option x parts.0 letter v vs);
      }))
    where
      third : (((suc (suc (suc (suc (length vs)))) == 2) ≡ true) ⊎ ((nat_lt 3 (suc (suc (suc (suc (length vs))))) && (y == 61)) ≡ true)) → y ≡ 61
      third (inl two) = absurd (let e = eqb-true (suc (suc (suc (suc (length vs))))) 2 two in omega arith)
      third (inr more) = eqb-true y 61 (and_parts _ _ more).1

  hyphen_first : (y : ℕ) (ys : Text) → is_plain (45 ∷ y ∷ ys) ≡ true → View (45 ∷ y ∷ ys)
  hyphen_first y ys plain =
      let parts : is_plain (45 ∷ y ∷ ys) ≡ cond (y == 45) (some_behind (parted (45 ∷ y ∷ ys))) (stands_alone (45 ∷ y ∷ ys)) = rw (two_at_least 45 y ys) refl in
      elim (cases_Bool (y == 45)) [
        | inl is ↦
            let long : some_behind (parted (45 ∷ y ∷ ys)) ≡ true = ap (λ b. cond b (some_behind (parted (45 ∷ y ∷ ys))) (stands_alone (45 ∷ y ∷ ys))) (sym is) ∙ sym parts ∙ plain in
            let hyphen = eqb-true y 45 is in
            subst (λ b. View (45 ∷ b ∷ ys)) (sym hyphen) (two_hyphens ys (subst (λ b. some_behind (parted (45 ∷ b ∷ ys)) ≡ true) hyphen long))
        | inr letter ↦ letter_view y ys letter (ap (λ b. cond b (some_behind (parted (45 ∷ y ∷ ys))) (stands_alone (45 ∷ y ∷ ys))) (sym letter) ∙ sym parts ∙ plain)
      ]
    where
      two_hyphens : (zs : Text) → some_behind (parted (45 ∷ 45 ∷ zs)) ≡ true → View (45 ∷ 45 ∷ zs)
      two_hyphens [] long = inl refl
      two_hyphens (z ∷ zs) long = inr (inr (record {
        option = rw (two_at_least 45 45 (z ∷ zs)) refl;
        no_end = refl;
        use_of = long_option z zs long;
      }))

  pub view : (word : Text) → is_plain word ≡ true → View word
  view [] plain = inr (inl (record { no_option = refl; no_end = refl; no_long = refl; no_short = refl }))
  view (x ∷ []) plain = elim (cases_Bool (x == 45)) [
    | inr other ↦ inr (inl (no_hyphen x [] other))
    | inl is ↦ inr (inl (record { no_option = refl; no_end = and_right (x == 45) false refl; no_long = rw is refl; no_short = rw is refl }))
  ]
  view (x ∷ y ∷ ys) plain = elim (cases_Bool (x == 45)) [
    | inr other ↦ inr (inl (no_hyphen x (y ∷ ys) other))
    | inl is ↦
        let hyphen = eqb-true x 45 is in
        subst View (ap (λ b. b ∷ y ∷ ys) (sym hyphen)) (hyphen_first y ys (subst (λ b. is_plain (b ∷ y ∷ ys) ≡ true) hyphen plain))
  ]
