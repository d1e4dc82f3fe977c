-- The arguments of a built command, and which of them a name, a letter or a place finds.
use Rattle.std.proofs.Common.{◌≡◌, ℕ, Bool, true, false, not, ◌&&◌, cond, ◌==◌, List, [], ◌∷◌, Some, None, option_map, is_some, refl, sym, ◌∙◌, ap, inl, inr, find, bytes_eq, nat_lt}
use Rattle.std.proofs.lemmas.Bool.{eq-eqb, eqb-true, ne_eqb, cases_Bool, cases_eq, and_parts, and_left, and_right}
use Rattle.std.specs.Map.{lookup}
use Rattle.std.specs.List.{list_all}
use Rattle.std.specs.Option.{option_map_or}
use Rattle.tdb_space.specs.Pairs.{same_key}
use Rattle.tdb_space.proofs.Pairs.Maps.{same_key-eq}
use Rattle.clap.specs.Lexer.{has_byte}
use Rattle.clap.specs.Words.{Rule}
use Rattle.clap.specs.Walk.{arg_by_id, arg_by_long, arg_by_short, arg_by_index, has_long, has_short}
use Rattle.clap.specs.Simple.{Shape, new_shape, built, default_of, missing_of, parser_for, values_of}
use Rattle.clap.specs.Faults.{is_simple_and_free}
use Rattle.clap.specs.declared.builder.action.ArgAction.{ArgAction}
use Rattle.clap.specs.declared.builder.action.ArgAction.TheVariants.{Set, SetTrue, Append}
use Rattle.std.proofs.Math.Bool.{or-false}
use Rattle.tdb_cmdline.proofs.SameKey.{same_key-sym}
use Rattle.tdb_cmdline.specs.declared.options.Command.{Command}
use Rattle.tdb_cmdline.specs.declared.options.Command.TheVariants.{Tool, Dump, Restore, Backup, Convert, Mend, Turns, Generate}
use Rattle.tdb_cmdline.specs.declared.options.Kind.{Kind}
use Rattle.tdb_cmdline.specs.declared.options.Kind.TheVariants.{Valued, Flag}
use Rattle.tdb_cmdline.specs.Options.{options_of}
use Rattle.tdb_cmdline.specs.Clap.{app_for, told_option, told_positions, positions_id, long_name, short_name}

abbrev pub action : Kind → ArgAction
action Valued = Set
action Flag = SetTrue

-- an argument that building completes
abbrev pub completed : ArgAction → Rule → Rule
completed act rule = record rule {
  action = Some act;
  range = Some (record { start_inclusive = values_of act; end_inclusive = values_of act });
  defaults = default_of act;
  missing = missing_of act;
  parser = Some (parser_for act);
}

abbrev pub option_rule : List ℕ → Kind → Rule
option_rule name kind = completed (action kind) (told_option (name, kind))

abbrev pub positions_rule : Rule
positions_rule = record (completed Append told_positions) { index = Some 1 }

abbrev pub rules : List (List ℕ × Kind) → List Rule
rules [] = positions_rule ∷ []
rules (option ∷ rest) = option_rule option.0 option.1 ∷ rules rest

abbrev pub shape : List (List ℕ × Kind) → Shape
shape options = record (new_shape []) {
  rules = rules options;
  no_binary_name = true;
  disable_help_flag = true;
  disable_help_subcommand = true;
  is_built = true;
}

pub built_app : (command : Command) → built (app_for command) ≡ record { top = shape (options_of command); subs = [] }
built_app Tool = refl
built_app Dump = refl
built_app Restore = refl
built_app Backup = refl
built_app Convert = refl
built_app Mend = refl
built_app Turns = refl
built_app Generate = refl

pub is_simple_app : (command : Command) → is_simple_and_free (app_for command) ≡ true
is_simple_app Tool = refl
is_simple_app Dump = refl
is_simple_app Restore = refl
is_simple_app Backup = refl
is_simple_app Convert = refl
is_simple_app Mend = refl
is_simple_app Turns = refl
is_simple_app Generate = refl

-- a name of an option: two hyphens and more, or one and an ASCII letter; no `=`
abbrev pub is_letter : List ℕ → Bool
is_letter [] = false
is_letter (x ∷ []) = nat_lt x 128 && not (x == 45)
is_letter (x ∷ y ∷ ys) = x == 45

abbrev pub is_name : List ℕ → Bool
is_name [] = false
is_name (x ∷ xs) = (x == 45) && (is_letter xs && not (has_byte 61 xs))

abbrev pub are_names : List (List ℕ × Kind) → Bool
are_names options = list_all (λ option. is_name option.0) options

pub names : (command : Command) → are_names (options_of command) ≡ true
names Tool = refl
names Dump = refl
names Restore = refl
names Backup = refl
names Convert = refl
names Mend = refl
names Turns = refl
names Generate = refl

-- what a look-up finds is a name
pub named : (options : List (List ℕ × Kind)) (name : List ℕ) (kind : Kind) → are_names options ≡ true → lookup (same_key name) options ≡ Some kind → is_name name ≡ true
named [] name kind all found = cc
named (option ∷ rest) name kind all found =
    let parts = and_parts (is_name option.0) (are_names rest) all in
    elim (cases_Bool (same_key name option.0)) [
      | inl same ↦ ap is_name (same_key-eq name option.0 same) ∙ parts.0
      | inr other ↦ named rest name kind parts.1 (rw other at found)
    ]

-- tests of bytes are the same either way round
eq_sym : (a b : ℕ) → (a == b) ≡ (b == a)
eq_sym a b = elim (cases_eq a b) [
  | inl same ↦ eq-eqb a b same ∙ sym (eq-eqb b a (sym same))
  | inr other ↦ ne_eqb a b other ∙ sym (ne_eqb b a (λ e. other (sym e)))
]

-- a search that passes the options of a name alone finds what a look-up of the name does
module _ (test : Rule → Bool) (name : List ℕ) (at_options : (n : List ℕ) (k : Kind) → test (option_rule n k) ≡ same_key name n) (past : test positions_rule ≡ false) where
  pub found : (options : List (List ℕ × Kind)) → find test (rules options) ≡ option_map (option_rule name) (lookup (same_key name) options)
  found [] = rw past refl
  found (option ∷ rest) = elim (cases_Bool (same_key name option.0)) [
    | inl same ↦ rw (at_options option.0 option.1, same) (ap (λ n. Some (option_rule n option.1)) (sym (same_key-eq name option.0 same)))
    | inr other ↦ rw (at_options option.0 option.1, other) (found rest)
  ]

strip : (b : Bool) (xs n : List ℕ) → option_map_or (λ s. bytes_eq s n) (cond b (Some xs) None) false ≡ (b && same_key xs n)
strip true xs n = refl
strip false xs n = refl

long_is : (name n : List ℕ) → option_map_or (λ s. bytes_eq s n) (long_name name) false ≡ same_key name (45 ∷ 45 ∷ n)
long_is [] n = refl
long_is (x ∷ []) n = elim (cases_Bool (x == 45)) [
  | inl same ↦ rw (same) refl
  | inr other ↦ rw (other) refl
]
long_is (x ∷ y ∷ ys) n = elim (cases_Bool (x == 45)) [
  | inl same ↦ rw same (strip (y == 45) ys n)
  | inr other ↦ rw other refl
]

short_is : (name : List ℕ) (x : ℕ) → (x == 45) ≡ false → option_map_or (λ s. s == x) (short_name name) false ≡ same_key name (45 ∷ x ∷ [])
short_is [] x other = refl
short_is (h ∷ []) x other = elim (cases_Bool (h == 45)) [
  | inl same ↦ rw same refl
  | inr apart ↦ rw apart refl
]
short_is (h ∷ y ∷ z ∷ zs) x other = elim (cases_Bool (h == 45)) [
  | inl same ↦ rw same (sym (and_right (y == x) false refl))
  | inr apart ↦ rw apart refl
]
short_is (h ∷ y ∷ []) x other = elim (cases_Bool (h == 45)) [
  | inl same ↦ rw same (elim (cases_Bool (y == 45)) [
    | inl hyphen ↦ rw hyphen (sym (and_left (y == x) true (ap (λ b. b == x) (eqb-true y 45 hyphen) ∙ eq_sym 45 x ∙ other)))
    | inr letter ↦ rw letter (all (y == x))
  ])
  | inr apart ↦ rw apart refl
]
  where
    all : (b : Bool) → b ≡ (b && true)
    all true = refl
    all false = refl

module _ (options : List (List ℕ × Kind)) where
  pub by_long : (n : List ℕ) → arg_by_long (rules options) n ≡ option_map (option_rule (45 ∷ 45 ∷ n)) (lookup (same_key (45 ∷ 45 ∷ n)) options)
  by_long n = found (λ a. not (is_some a.index) && has_long a n) (45 ∷ 45 ∷ n)
      (λ name k. or-false _ ∙ long_is name n ∙ same_key-sym name (45 ∷ 45 ∷ n)) refl options

  pub by_short : (x : ℕ) → (x == 45) ≡ false → arg_by_short (rules options) x ≡ option_map (option_rule (45 ∷ x ∷ [])) (lookup (same_key (45 ∷ x ∷ [])) options)
  by_short x letter = found (λ a. not (is_some a.index) && has_short a x) (45 ∷ x ∷ [])
      (λ name k. or-false _ ∙ short_is name x letter ∙ same_key-sym name (45 ∷ x ∷ [])) refl options

-- the names of options are not the one under which the positions are kept
pub not_positions : (name : List ℕ) → is_name name ≡ true → same_key positions_id name ≡ false
not_positions [] is = cc
not_positions (x ∷ xs) is =
    let hyphen = eqb-true x 45 (and_parts (x == 45) _ is).0 in
    rw hyphen refl

pub by_id : (options : List (List ℕ × Kind)) (name : List ℕ) (kind : Kind) → is_name name ≡ true → lookup (same_key name) options ≡ Some kind → arg_by_id (rules options) name ≡ Some (option_rule name kind)
by_id options name kind is known =
    found (λ a. bytes_eq a.id name) name (λ n k. same_key-sym n name) (not_positions name is) options ∙ ap (option_map (option_rule name)) known

pub by_positions_id : (options : List (List ℕ × Kind)) → are_names options ≡ true → arg_by_id (rules options) positions_id ≡ Some positions_rule
by_positions_id [] all = refl
by_positions_id (option ∷ rest) all =
    let parts = and_parts (is_name option.0) (are_names rest) all in
    let other : same_key option.0 positions_id ≡ false = same_key-sym option.0 positions_id ∙ not_positions option.0 parts.0 in
    rw other (by_positions_id rest parts.1)

pub by_place : (options : List (List ℕ × Kind)) → arg_by_index (rules options) 1 ≡ Some positions_rule
by_place [] = refl
by_place (option ∷ rest) = by_place rest
