-- The rows of matches that show the options and positions that were read.
use Rattle.std.proofs.Common.{◌≡◌, Bool, true, false, not, ◌&&◌, ◌||◌, cond, List, [], ◌∷◌, ◌++◌, Option, Some, None, refl, sym, ◌∙◌, ap, ap₂, subst, inl, inr, codes, find, bytes_eq, slice_get, append-nil, option_map, unwrap_or, fold}
use Rattle.std.proofs.lemmas.Bool.{cases_Bool, and_parts, and_from, not-true, or_parts, or_from, not_from_false}
use Rattle.std.proofs.lemmas.List.Folds.{list_any-append}
use Rattle.std.specs.List.{list_any}
use Rattle.tdb_space.specs.Pairs.{same_key}
use Rattle.clap.specs.Words.{Row, Rule}
use Rattle.clap.specs.Kinds.{Kinds}
use Rattle.clap.specs.Walk.{at_row, without, with_values, more_values, has_row, used, with_default}
use Rattle.clap.specs.Faults.{use_fault, default_fault, defaults_fault, check_fault}
use Rattle.clap.specs.declared.builder.value_parser.Reading.{Reading}
use Rattle.clap.specs.declared.parser.matches.ValueSource.{ValueSource}
use Rattle.clap.specs.declared.parser.matches.ValueSource.TheVariants.{DefaultValue, CommandLine}
use Rattle.tdb_cmdline.specs.declared.options.Command.{Command}
use Rattle.tdb_cmdline.specs.declared.options.Kind.{Kind}
use Rattle.tdb_cmdline.specs.declared.options.Kind.TheVariants.{Valued, Flag}
use Rattle.tdb_cmdline.specs.declared.options.GivenOption.{GivenOption}
use Rattle.clap.specs.Takes.{is_given as is_met}
use Rattle.tdb_cmdline.specs.Options.{kind_of, is_given}
use Rattle.tdb_cmdline.specs.Clap.{positions_id, value_given, options_in, positions_in, is_given_row, from_words, distinct, given_by}
use Rattle.std.proofs.Math.Bool.{or-false}
use Rattle.tdb_cmdline.proofs.SameKey.{same_key-sym}
use Rattle.tdb_cmdline.proofs.Clap.Rules.{option_rule, rules, shape, is_name, are_names, not_positions}
use Rattle.tdb_cmdline.proofs.Clap.Words.{Text, fails}

-- ---- rows of an id that has none

absent_row : (id : Text) (change : Row → List Row) (missing rows : List Row) → has_row id rows ≡ false → at_row id change missing rows ≡ rows ++ missing
absent_row id change missing [] none = refl
absent_row id change missing (r ∷ rs) none =
    let parts = or_parts (bytes_eq r.id id) (has_row id rs) none in
    rw parts.0 (ap (λ more. r ∷ more) (absent_row id change missing rs parts.1))

abbrev pub row_for : ValueSource → Text → Reading → List Text → Row
row_for source id how values = record { id = id; values = values; count = None; source = Some source; reading = how }

pub new_row : (id : Text) (how : Reading) (source : ValueSource) (values : List Text) (rows : List Row) → has_row id rows ≡ false
    → with_values id how source values (without id rows) ≡ rows ++ row_for source id how values ∷ []
new_row id how source values rows none =
    let gone : without id rows ≡ rows = absent_row id (λ r. []) [] rows none ∙ append-nil rows in
    ap (with_values id how source values) gone ∙ absent_row id (more_values source values) (row_for source id how values ∷ []) rows none

pub default_row : (id : Text) (how : Reading) (source : ValueSource) (values : List Text) (rows : List Row) → has_row id rows ≡ false
    → with_values id how source values rows ≡ rows ++ row_for source id how values ∷ []
default_row id how source values rows none = absent_row id (more_values source values) (row_for source id how values ∷ []) rows none

-- ---- one more row at the end

find_more : (p : Row → Bool) (rows : List Row) (row : Row) → p row ≡ false → find p (rows ++ row ∷ []) ≡ find p rows
find_more p [] row other = rw other refl
find_more p (r ∷ rs) row other = ap (λ more. cond (p r) (Some r) more) (find_more p rs row other)

pub has_more : (id : Text) (rows : List Row) (row : Row) → has_row id (rows ++ row ∷ []) ≡ (has_row id rows || same_key row.id id)
has_more id rows row = list_any-append (λ r. bytes_eq r.id id) rows (row ∷ []) ∙ ap (λ b. has_row id rows || b) (or-false (same_key row.id id))

distinct_more : (rows : List Row) (row : Row) → has_row row.id rows ≡ false → distinct rows ≡ true → distinct (rows ++ row ∷ []) ≡ true
distinct_more [] row none apart = refl
distinct_more (r ∷ rs) row none apart =
    let parts = or_parts (bytes_eq r.id row.id) (has_row row.id rs) none in
    let own = and_parts (not (has_row r.id rs)) (distinct rs) apart in
    let other : has_row r.id (rs ++ row ∷ []) ≡ false = has_more r.id rs row ∙ or_from _ _ (not-true _ own.0) (same_key-sym row.id r.id ∙ parts.0) in
    and_from _ _ (not_from_false _ other) (distinct_more rs row parts.1 own.1)

given_more : (name : Text) (os : List GivenOption) (o : GivenOption) → is_given name (os ++ o ∷ []) ≡ (is_given name os || same_key o.name name)
given_more name [] o = if_or (same_key o.name name)
  where
    if_or : (b : Bool) → cond b true false ≡ b
    if_or true = refl
    if_or false = refl
given_more name (x ∷ os) o = go (same_key x.name name) (given_more name os o)
  where
    go : (b : Bool) → is_given name (os ++ o ∷ []) ≡ (is_given name os || same_key o.name name) → cond b true (is_given name (os ++ o ∷ [])) ≡ (cond b true (is_given name os) || same_key o.name name)
    go true more = refl
    go false more = more

-- ---- one more position

module _ (how : Reading) (word : Text) where
  abbrev pub with_word : List Row → List Row
  with_word rows = with_values positions_id how CommandLine (word ∷ []) rows

  positions_more : (rows : List Row) → positions_in (with_word rows) ≡ positions_in rows ++ word ∷ []
  positions_more [] = refl
  positions_more (r ∷ rs) = elim (cases_Bool (same_key r.id positions_id)) [
    | inl is ↦ rw (is, is) refl
    | inr other ↦ rw (other, other) (positions_more rs)
  ]

  has_still : (name : Text) → same_key positions_id name ≡ false → (rows : List Row) → has_row name (with_word rows) ≡ has_row name rows
  has_still name apart [] = rw apart refl
  has_still name apart (r ∷ rs) = elim (cases_Bool (same_key r.id positions_id)) [
    | inl is ↦ rw is refl
    | inr other ↦ rw other (ap (λ b. bytes_eq r.id name || b) (has_still name apart rs))
  ]

  distinct_still : (rows : List Row) → distinct rows ≡ true → distinct (with_word rows) ≡ true
  distinct_still [] apart = refl
  distinct_still (r ∷ rs) apart = elim (cases_Bool (same_key r.id positions_id)) [
    | inl is ↦ rw is apart
    | inr other ↦
        let own = and_parts (not (has_row r.id rs)) (distinct rs) apart in
        rw other (and_from _ _ (ap not (has_still r.id (same_key-sym positions_id r.id ∙ other) rs) ∙ own.0) (distinct_still rs own.1))
  ]

module _ (command : Command) where
  options_append : (xs ys : List Row) → options_in command (xs ++ ys) ≡ options_in command xs ++ options_in command ys
  options_append [] ys = refl
  options_append (r ∷ rs) ys = go (is_given_row r) (options_append rs ys)
    where
      go : (b : Bool) → options_in command (rs ++ ys) ≡ options_in command rs ++ options_in command ys → cond b (given_by command r ∷ options_in command (rs ++ ys)) (options_in command (rs ++ ys)) ≡ cond b (given_by command r ∷ options_in command rs) (options_in command rs) ++ options_in command ys
      go true more = ap (λ more. given_by command r ∷ more) more
      go false more = more

  options_still : (how : Reading) (word : Text) (rows : List Row) → options_in command (with_word how word rows) ≡ options_in command rows
  options_still how word [] = refl
  options_still how word (r ∷ rs) = elim (cases_Bool (same_key r.id positions_id)) [
    | inl is ↦ rw (is, is) refl
    | inr other ↦ rw (other, other) (ap (λ more. cond (from_words r.source) (given_by command r ∷ more) more) (options_still how word rs))
  ]

  -- the rows show these options and positions
  pub record Shows (os : List GivenOption) (ps : List Text) (rows : List Row) : Type 0 where
    pub options : options_in command rows ≡ os
    pub positions : positions_in rows ≡ ps
    pub met : (name : Text) → is_name name ≡ true → has_row name rows ≡ is_given name os
    pub apart : distinct rows ≡ true

  pub shows_nothing : Shows [] [] []
  shows_nothing = record { options = refl; positions = refl; met = λ name is. refl; apart = refl }

  pub shows_position : (os : List GivenOption) (ps : List Text) (rows : List Row) (how : Reading) (word : Text) → Shows os ps rows → Shows os (ps ++ word ∷ []) (with_word how word rows)
  shows_position os ps rows how word shows = record {
    options = options_still how word rows ∙ shows.options;
    positions = positions_more how word rows ∙ ap (λ p. p ++ word ∷ []) shows.positions;
    met = λ name is. has_still how word name (not_positions name is) rows ∙ shows.met name is;
    apart = distinct_still how word rows shows.apart;
  }

  pub shows_option : (os : List GivenOption) (ps : List Text) (rows : List Row) (name : Text) (k : Kind) (how : Reading) (values : List Text) → is_name name ≡ true → kind_of command name ≡ Some k
      → has_row name rows ≡ false → Shows os ps rows
      → Shows (os ++ record { name = name; value = value_given (Some k) (slice_get values 0) } ∷ []) ps (rows ++ row_for CommandLine name how values ∷ [])
  shows_option os ps rows name k how values is known none shows =
      let other : same_key name positions_id ≡ false = same_key-sym name positions_id ∙ not_positions name is in
      record {
        options = options_append rows _ ∙ ap₂ (λ a b. a ++ b) shows.options (rw (other, known) refl);
        positions = ap (λ found. unwrap_or (option_map (λ row. row.values) found) []) (find_more (λ row. same_key row.id positions_id) rows (row_for CommandLine name how values) other) ∙ shows.positions;
        met = λ n named. has_more n rows (row_for CommandLine name how values) ∙ ap (λ b. b || same_key name n) (shows.met n named) ∙ sym (given_more n os (record { name = name; value = value_given (Some k) (slice_get values 0) }));
        apart = distinct_more rows (row_for CommandLine name how values) none shows.apart;
      }

-- ---- uses of options, and their faults

abbrev pub values_fit : Kind → List Text → Type 0
values_fit Valued [] = ⊥
values_fit Valued (v ∷ []) = Unit {0}
values_fit Valued (v ∷ w ∷ vs) = ⊥
values_fit Flag [] = Unit {0}
values_fit Flag (v ∷ vs) = ⊥

module _ (name : Text) (rows : List Row) where
  pub first_use : (k : Kind) (values : List Text) → values_fit k values → has_row name rows ≡ false → use_fault false (option_rule name k) values rows ≡ []
  first_use Valued [] fit none = absurd fit
  first_use Valued (v ∷ []) fit none = rw none refl
  first_use Valued (v ∷ w ∷ vs) fit none = absurd fit
  first_use Flag [] fit none = rw none refl
  first_use Flag (v ∷ vs) fit none = absurd fit

  pub second_use : (k : Kind) (values : List Text) → values_fit k values → has_row name rows ≡ true → fails (use_fault false (option_rule name k) values rows) ≡ true
  second_use Valued [] fit none = absurd fit
  second_use Valued (v ∷ []) fit none = rw none refl
  second_use Valued (v ∷ w ∷ vs) fit none = absurd fit
  second_use Flag [] fit none = rw none refl
  second_use Flag (v ∷ vs) fit none = absurd fit

abbrev pub value_of_use : List Text → Option Text
value_of_use [] = None
value_of_use (v ∷ vs) = Some v

module _ (command : Command) where
  pub shows_use : (os : List GivenOption) (ps : List Text) (rows : List Row) (name : Text) (k : Kind) (values : List Text) → values_fit k values → is_name name ≡ true → kind_of command name ≡ Some k
      → has_row name rows ≡ false → Shows command os ps rows
      → Shows command (os ++ record { name = name; value = value_of_use values } ∷ []) ps (used (option_rule name k) values rows)
  shows_use os ps rows name Valued [] fit is known none shows = absurd fit
  shows_use os ps rows name Valued (v ∷ w ∷ vs) fit is known none shows = absurd fit
  shows_use os ps rows name Flag (v ∷ vs) fit is known none shows = absurd fit
  shows_use os ps rows name Valued (v ∷ []) fit is known none shows =
      subst (Shows command (os ++ record { name = name; value = Some v } ∷ []) ps) (sym (new_row name _ CommandLine (v ∷ []) rows none)) (shows_option command os ps rows name Valued _ (v ∷ []) is known none shows)
  shows_use os ps rows name Flag [] fit is known none shows =
      subst (Shows command (os ++ record { name = name; value = None } ∷ []) ps) (sym (new_row name _ CommandLine (codes "true" ∷ []) rows none)) (shows_option command os ps rows name Flag _ (codes "true" ∷ []) is known none shows)

-- ---- the end

same_both : {A : Type 0} (b : Bool) (x : A) → cond b x x ≡ x
same_both true x = refl
same_both false x = refl

-- a flag that wasn't given gets a row of its own
module _ (command : Command) where
  pub record Ends (os : List GivenOption) (ps : List Text) (rows : List Row) : Type 0 where
    pub options : options_in command rows ≡ os
    pub positions : positions_in rows ≡ ps
    pub apart : distinct rows ≡ true

  ends_default : (os : List GivenOption) (ps : List Text) (rows : List Row) (name : Text) (k : Kind) → is_name name ≡ true → Ends os ps rows → Ends os ps (with_default rows (option_rule name k))
  ends_default os ps rows name Valued is ends = rw (same_both (has_row name rows) rows) ends
  ends_default os ps rows name Flag is ends = elim (cases_Bool (has_row name rows)) [
    | inl some ↦ rw some ends
    | inr none ↦
        let other : same_key name positions_id ≡ false = same_key-sym name positions_id ∙ not_positions name is in
        rw (none, default_row name _ DefaultValue (codes "false" ∷ []) rows none) (record {
          options = options_append command rows _ ∙ ap₂ (λ a b. a ++ b) ends.options (rw other refl) ∙ append-nil os;
          positions = ap (λ found. unwrap_or (option_map (λ row. row.values) found) []) (find_more (λ row. same_key row.id positions_id) rows (row_for DefaultValue name _ (codes "false" ∷ [])) other) ∙ ends.positions;
          apart = distinct_more rows (row_for DefaultValue name _ (codes "false" ∷ [])) none ends.apart;
        })
  ]

  pub ends_defaults : (options : List (Text × Kind)) (os : List GivenOption) (ps : List Text) (rows : List Row) → are_names options ≡ true → Ends os ps rows → Ends os ps (fold with_default rows (rules options))
  ends_defaults [] os ps rows all ends = rw (same_both (has_row positions_id rows) rows) ends
  ends_defaults (option ∷ rest) os ps rows all ends =
      let parts = and_parts (is_name option.0) (are_names rest) all in
      ends_defaults rest os ps (with_default rows (option_rule option.0 option.1)) parts.1 (ends_default os ps rows option.0 option.1 parts.0 ends)

-- no default and no last test fails
default_passes : (rows : List Row) (name : Text) (k : Kind) → default_fault rows (option_rule name k) ≡ []
default_passes rows name Valued = same_both {A = Kinds} (has_row name rows || true) []
default_passes rows name Flag = same_both {A = Kinds} (has_row name rows || false) []

pub defaults_pass : (options : List (Text × Kind)) (rows : List Row) → defaults_fault rows (rules options) ≡ []
unfolding defaults_fault
defaults_pass [] rows = rw (same_both {A = Kinds} (has_row positions_id rows || true) []) refl
defaults_pass (option ∷ rest) rows = rw (default_passes rows option.0 option.1) (defaults_pass rest (with_default rows (option_rule option.0 option.1)))

none_required : (options : List (Text × Kind)) (given : Rule → Bool) → list_any (λ a. a.required && given a) (rules options) ≡ false
none_required [] given = refl
none_required (option ∷ rest) given = none_required rest given

pub check_passes : (options : List (Text × Kind)) (rows : List Row) → check_fault (shape options) rows false ≡ []
check_passes options rows = rw (none_required options (λ a. not (is_met a.id rows))) refl
