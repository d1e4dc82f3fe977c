-- What `clap` makes of one word, of the options of a command and any number of positions.
use Rattle.std.proofs.Common.{◌≡◌, ℕ, suc, ◌+◌, Bool, true, false, not, ◌||◌, cond, ◌==◌, List, [], ◌∷◌, Option, Some, None, option_map, refl, sym, ◌∙◌, ap, inl, inr, arith, slice_get, nat_lt, length, lt-ltb, le-ltb, ltb-true, ltb-false, one-add, add-one}
use Rattle.std.proofs.lemmas.Bool.{cases_Bool, false≢true, and_right, or_parts}
use Rattle.std.specs.Char.{encode_utf8}
use Rattle.std.specs.Str.{chars}
use Rattle.std.specs.Map.{lookup}
use Rattle.std.specs.List.{before_first, after_first, position_or_len}
use Rattle.tdb_space.specs.Pairs.{same_key}
use Rattle.tdb_space.proofs.Pairs.Maps.{same_key-refl}
use Rattle.clap.specs.Lexer.{has_byte, long_of, short_of}
use Rattle.clap.specs.Words.{Row}
use Rattle.clap.specs.Kinds.{Kinds, or_else}
use Rattle.clap.specs.Walk.{Held, Walk, Waiting, subcommand_met, idle, option, positional, walked, bundle_met, used, settled_rows}
use Rattle.clap.specs.Faults.{turn_fault, settle_fault, use_fault, flags_fault}
use Rattle.clap.specs.declared.error.kind.ErrorKind.{ErrorKind}
use Rattle.tdb_cmdline.specs.declared.options.Kind.{Kind}
use Rattle.tdb_cmdline.specs.declared.options.Kind.TheVariants.{Valued, Flag}
use Rattle.tdb_cmdline.specs.Options.{parted}
use Rattle.tdb_cmdline.specs.Clap.{positions_id}
use Rattle.tdb_cmdline.proofs.Clap.Rules.{option_rule, rules, shape, are_names, named, by_id, by_long, by_short, by_place}

abbrev pub Text : Type 0
Text = List ℕ

abbrev pub fails : Kinds → Bool
fails [] = false
fails (k ∷ ks) = true

pub fails_first : (a b : Kinds) → fails a ≡ true → fails (or_else a b) ≡ true
fails_first [] b f = cc
fails_first (k ∷ ks) b f = refl

pub fails_second : (a b : Kinds) → fails b ≡ true → fails (or_else a b) ≡ true
fails_second [] b f = f
fails_second (k ∷ ks) b f = refl

fails_between : (a b : Kinds) (k : ErrorKind) → fails (or_else (or_else a (k ∷ [])) b) ≡ true
fails_between [] b k = refl
fails_between (x ∷ xs) b k = refl

pub or_else-nil : (a : Kinds) → or_else a [] ≡ a
or_else-nil [] = refl
or_else-nil (k ∷ ks) = refl

-- ---- `=` in a word

abbrev pub is_equals : ℕ → Bool
is_equals b = b == 61

equals_at : (w : Text) → nat_lt (position_or_len is_equals w) (length w) ≡ has_byte 61 w
equals_at [] = refl
equals_at (x ∷ xs) = elim (cases_Bool (x == 61)) [
  | inl is ↦
      let some : nat_lt 0 (suc (length xs)) ≡ true = lt-ltb 0 (suc (length xs)) (omega arith) in
      rw (is, some) refl
  | inr other ↦ rw other (more (position_or_len is_equals xs) (length xs) (has_byte 61 xs) (equals_at xs))
]
  where
    more : (p n : ℕ) (b : Bool) → nat_lt p n ≡ b → nat_lt (1 + p) (suc n) ≡ b
    more p n true e = let less = ltb-true p n e in lt-ltb (1 + p) (suc n) (omega arith)
    more p n false e = let no_less = ltb-false p n e in le-ltb (1 + p) (suc n) (omega arith)

pub no_equals : (w : Text) → has_byte 61 w ≡ false → before_first is_equals w ≡ w
no_equals [] without = refl
no_equals (x ∷ xs) without =
    let parts = or_parts (x == 61) (has_byte 61 xs) without in
    rw (parts.0, one-add) (ap (λ t. x ∷ t) (no_equals xs parts.1))

-- a byte in front that is no `=`
pub parted_behind : (x : ℕ) (xs : Text) → (x == 61) ≡ false → parted (x ∷ xs) ≡ option_map (λ p. (x ∷ p.0, p.1)) (parted xs)
parted_behind x xs other = elim (cases_Bool (has_byte 61 xs)) [
  | inl has ↦
      let here : nat_lt (position_or_len is_equals xs) (length xs) ≡ true = equals_at xs ∙ has in
      let before : nat_lt (1 + position_or_len is_equals xs) (length (x ∷ xs)) ≡ true = ap (λ b. nat_lt (cond (not b) (1 + position_or_len is_equals xs) 0) (length (x ∷ xs))) (sym other) ∙ equals_at (x ∷ xs) ∙ ap (λ b. b || has_byte 61 xs) other ∙ has in
      rw (other, before, here, one-add, add-one (suc (position_or_len is_equals xs)), add-one (position_or_len is_equals xs)) refl
  | inr lacks ↦
      let here : nat_lt (position_or_len is_equals xs) (length xs) ≡ false = equals_at xs ∙ lacks in
      let before : nat_lt (1 + position_or_len is_equals xs) (length (x ∷ xs)) ≡ false = ap (λ b. nat_lt (cond (not b) (1 + position_or_len is_equals xs) 0) (length (x ∷ xs))) (sym other) ∙ equals_at (x ∷ xs) ∙ ap (λ b. b || has_byte 61 xs) other ∙ lacks in
      rw (other, before, here) refl
]

pub parted_has : (w : Text) → has_byte 61 w ≡ true → parted w ≡ Some (before_first is_equals w, after_first is_equals w)
parted_has w has = rw (equals_at w ∙ has) refl

pub parted_lacks : (w : Text) → has_byte 61 w ≡ false → parted w ≡ None
parted_lacks w lacks = rw (equals_at w ∙ lacks) refl

pub parted_here : (xs : Text) → parted (61 ∷ xs) ≡ Some ([], xs)
parted_here xs = let some : nat_lt 0 (suc (length xs)) ≡ true = lt-ltb 0 (suc (length xs)) (omega arith) in rw some refl

-- ---- letters

first_char : (x : ℕ) (xs : Text) → nat_lt x 128 ≡ true → slice_get (chars (x ∷ xs)) 0 ≡ Some x
unfolding chars
first_char x [] ascii = rw ascii refl
first_char x (y ∷ ys) ascii = rw ascii refl

one_byte : (x : ℕ) → nat_lt x 128 ≡ true → length (encode_utf8 x) ≡ 1
unfolding encode_utf8
one_byte x ascii = rw ascii refl

-- ---- where the walk stands between two words

no_subcommand : (waiting : Waiting) (word : Text) → subcommand_met [] waiting word ≡ None
no_subcommand idle word = refl
no_subcommand positional word = refl
no_subcommand (option id) word = refl

abbrev pub holds : List Row → Option (Text × List Text) → Held
holds rows pending = record { rows = rows; pending = pending; skip = 0 }

abbrev pub stands : List Row → Option (Text × List Text) → Waiting → Bool → Walk
stands rows pending waiting ended = record { held = holds rows pending; waiting = waiting; position = 1; is_trailing = ended; stopped = None }

abbrev pub IsIdle : Waiting → Type 0
IsIdle idle = Unit {0}
IsIdle positional = Unit {0}
IsIdle (option id) = ⊥

module _ (options : List (Text × Kind)) (all : are_names options ≡ true) where
  abbrev pub kind : Text → Option Kind
  kind name = lookup (same_key name) options

  abbrev pub settling : List Row → Option (Text × List Text) → Kinds
  settling rows pending = settle_fault (rules options) false (holds rows pending)

  abbrev pub settled_with : List Row → Option (Text × List Text) → List Row
  settled_with rows pending = settled_rows (rules options) pending rows

  abbrev pub fault : List Row → Option (Text × List Text) → Waiting → Bool → Text → Kinds
  fault rows pending waiting ended word = turn_fault (shape options) [] (stands rows pending waiting ended) word

  abbrev pub next : List Row → Option (Text × List Text) → Waiting → Bool → Text → Walk
  next rows pending waiting ended word = walked (rules options) [] (stands rows pending waiting ended) word

  -- a position
  module _ (rows : List Row) (pending : Option (Text × List Text)) (word : Text) where
    abbrev pub IsPosition : Waiting → Bool → Type 0
    IsPosition waiting ended = (fault rows pending waiting ended word ≡ settling rows pending)
        × (next rows pending waiting ended word ≡ stands (settled_with rows pending) (Some (positions_id, word ∷ [])) positional ended)

    pub trailing_word : (waiting : Waiting) → IsPosition waiting true
    unfolding walked
    trailing_word waiting = (rw (by_place options, and_right _ false refl) refl, rw (by_place options, and_right _ false refl) refl)

    pub plain_word : (waiting : Waiting) → IsIdle waiting → same_key word (45 ∷ 45 ∷ []) ≡ false → long_of word ≡ None → short_of word ≡ None → IsPosition waiting false
    unfolding walked
    plain_word idle is no_end no_long no_short = (rw (no_end, no_long, no_short, by_place options, and_right _ false refl) refl, rw (no_end, no_long, no_short, by_place options, and_right _ false refl) refl)
    plain_word positional is no_end no_long no_short = (rw (no_end, no_long, no_short, by_place options, and_right _ false refl) refl, rw (no_end, no_long, no_short, by_place options, and_right _ false refl) refl)
    plain_word (option id) is no_end no_long no_short = absurd is

  -- `--`
  pub end_word : (rows : List Row) (pending : Option (Text × List Text)) (waiting : Waiting)
      → (fault rows pending waiting false (45 ∷ 45 ∷ []) ≡ []) × (next rows pending waiting false (45 ∷ 45 ∷ []) ≡ stands rows pending waiting true)
  unfolding walked
  end_word rows pending idle = (refl, refl)
  end_word rows pending positional = (refl, refl)
  end_word rows pending (option id) = (refl, refl)

  -- the value of the option before it
  pub value_word : (rows : List Row) (name word : Text) → kind name ≡ Some Valued → same_key word (45 ∷ 45 ∷ []) ≡ false → long_of word ≡ None → short_of word ≡ None
      → (fault rows (Some (name, [])) (option name) false word ≡ []) × (next rows (Some (name, [])) (option name) false word ≡ stands rows (Some (name, word ∷ [])) idle false)
  unfolding walked
  value_word rows name word known no_end no_long no_short =
      let rule = by_id options name Valued (named options name Valued all known) known in
      (rw (no_end, no_long, no_short) refl, rw (no_end, no_long, no_short, rule, same_key-refl name) refl)

  -- an option word: it is refused, its option waits for its value, or it is a use of an option
  module _ (rows : List Row) (pending : Option (Text × List Text)) where
    abbrev pub Uses : Kind → Text → List Text → Kinds → Walk → Type 0
    Uses k name values f n = (f ≡ or_else (settling rows pending) (use_fault false (option_rule name k) values (settled_with rows pending)))
        × (n ≡ stands (used (option_rule name k) values (settled_with rows pending)) None idle false)

    abbrev pub Waits : Text → Kinds → Walk → Type 0
    Waits name f n = (f ≡ settling rows pending) × (n ≡ stands (settled_with rows pending) (Some (name, [])) (option name) false)

    abbrev pub Says : Option Kind → Text → Option Text → Kinds → Walk → Type 0
    Says (Some Valued) name None f n = Waits name f n
    Says (Some Valued) name (Some v) f n = Uses Valued name (v ∷ []) f n
    Says (Some Flag) name None f n = Uses Flag name [] f n
    Says (Some Flag) name (Some v) f n = fails f ≡ true
    Says None name v f n = fails f ≡ true

    module _ (word : Text) where
      abbrev pub IsSaid : Waiting → Text → Option Text → Type 0
      IsSaid waiting name v = Says (kind name) name v (fault rows pending waiting false word) (next rows pending waiting false word)

      long_at : (waiting : Waiting) (name : Text) (v : Option Text) → same_key word (45 ∷ 45 ∷ []) ≡ false → long_of word ≡ Some (name, v)
          → (k : Option Kind) → kind (45 ∷ 45 ∷ name) ≡ k → Says k (45 ∷ 45 ∷ name) v (fault rows pending waiting false word) (next rows pending waiting false word)
      unfolding walked
      long_at waiting name None no_end is (Some Valued) e = (rw (no_subcommand waiting word, no_end, is, by_long options name, e) (or_else-nil _), rw (no_subcommand waiting word, no_end, is, by_long options name, e) refl)
      long_at waiting name None no_end is (Some Flag) e = (rw (no_subcommand waiting word, no_end, is, by_long options name, e) (or_else-nil _), rw (no_subcommand waiting word, no_end, is, by_long options name, e) refl)
      long_at waiting name (Some v) no_end is (Some Valued) e = (rw (no_subcommand waiting word, no_end, is, by_long options name, e) (or_else-nil _), rw (no_subcommand waiting word, no_end, is, by_long options name, e) refl)
      long_at waiting name (Some v) no_end is (Some Flag) e = rw (no_subcommand waiting word, no_end, is, by_long options name, e) refl
      long_at waiting name v no_end is None e = rw (no_subcommand waiting word, no_end, is, by_long options name, e) refl

      pub long_word : (waiting : Waiting) (name : Text) (v : Option Text) → same_key word (45 ∷ 45 ∷ []) ≡ false → long_of word ≡ Some (name, v) → IsSaid waiting (45 ∷ 45 ∷ name) v
      long_word waiting name v no_end is = long_at waiting name v no_end is (kind (45 ∷ 45 ∷ name)) refl

    -- one letter behind a hyphen, alone or with a value behind `=`
    module _ (x : ℕ) (ascii : nat_lt x 128 ≡ true) (letter : (x == 45) ≡ false) where
      no_end : (rest : Text) → same_key (45 ∷ x ∷ rest) (45 ∷ 45 ∷ []) ≡ false
      no_end rest = rw letter refl

      no_long : (rest : Text) → long_of (45 ∷ x ∷ rest) ≡ None
      no_long rest = rw letter refl

      is_short : (rest : Text) → short_of (45 ∷ x ∷ rest) ≡ Some (x ∷ rest)
      is_short rest = rw letter refl

      module _ (word : Text) (apart : same_key word (45 ∷ 45 ∷ []) ≡ false) (other : long_of word ≡ None) where
        alone_at : short_of word ≡ Some (x ∷ []) → (waiting : Waiting) (k : Option Kind) → kind (45 ∷ x ∷ []) ≡ k
            → Says k (45 ∷ x ∷ []) None (fault rows pending waiting false word) (next rows pending waiting false word)
        unfolding walked bundle_met flags_fault
        alone_at is waiting (Some Valued) e = (rw (no_subcommand waiting word, apart, other, is, first_char x [] ascii, one_byte x ascii, by_short options x letter, e) (or_else-nil _), rw (no_subcommand waiting word, apart, other, is, first_char x [] ascii, one_byte x ascii, by_short options x letter, e) refl)
        alone_at is waiting (Some Flag) e = (rw (no_subcommand waiting word, apart, other, is, first_char x [] ascii, one_byte x ascii, by_short options x letter, e) (or_else-nil _ ∙ or_else-nil _), rw (no_subcommand waiting word, apart, other, is, first_char x [] ascii, one_byte x ascii, by_short options x letter, e) refl)
        alone_at is waiting None e = rw (no_subcommand waiting word, apart, other, is, first_char x [] ascii, one_byte x ascii, by_short options x letter, e) refl

        module _ (v : ℕ) (vs : Text) where
          equals_is_none : kind (45 ∷ 61 ∷ []) ≡ None
          equals_is_none = go (kind (45 ∷ 61 ∷ [])) refl
            where
              go : (k : Option Kind) → kind (45 ∷ 61 ∷ []) ≡ k → k ≡ None
              go None e = refl
              go (Some k) e = let bad : false ≡ true = named options (45 ∷ 61 ∷ []) k all e in absurd (false≢true bad)

          valued_at : short_of word ≡ Some (x ∷ 61 ∷ v ∷ vs) → (waiting : Waiting) (k : Option Kind) → kind (45 ∷ x ∷ []) ≡ k
              → Says k (45 ∷ x ∷ []) (Some (v ∷ vs)) (fault rows pending waiting false word) (next rows pending waiting false word)
          unfolding walked bundle_met flags_fault
          valued_at is waiting (Some Valued) e = (rw (no_subcommand waiting word, apart, other, is, first_char x (61 ∷ v ∷ vs) ascii, one_byte x ascii, by_short options x letter, e) (or_else-nil _), rw (no_subcommand waiting word, apart, other, is, first_char x (61 ∷ v ∷ vs) ascii, one_byte x ascii, by_short options x letter, e) refl)
          valued_at is waiting (Some Flag) e = rw (no_subcommand waiting word, apart, other, is, first_char x (61 ∷ v ∷ vs) ascii, one_byte x ascii, by_short options x letter, e, first_char 61 (v ∷ vs) refl, by_short options 61 refl, equals_is_none, fails_between) refl
          valued_at is waiting None e = rw (no_subcommand waiting word, apart, other, is, first_char x (61 ∷ v ∷ vs) ascii, one_byte x ascii, by_short options x letter, e) refl

      pub letter_alone : (waiting : Waiting) → IsSaid (45 ∷ x ∷ []) waiting (45 ∷ x ∷ []) None
      letter_alone waiting = alone_at (45 ∷ x ∷ []) (no_end []) (no_long []) (is_short []) waiting (kind (45 ∷ x ∷ [])) refl

      pub letter_valued : (v : ℕ) (vs : Text) (waiting : Waiting) → IsSaid (45 ∷ x ∷ 61 ∷ v ∷ vs) waiting (45 ∷ x ∷ []) (Some (v ∷ vs))
      letter_valued v vs waiting = valued_at (45 ∷ x ∷ 61 ∷ v ∷ vs) (no_end (61 ∷ v ∷ vs)) (no_long (61 ∷ v ∷ vs)) v vs (is_short (61 ∷ v ∷ vs)) waiting (kind (45 ∷ x ∷ [])) refl
