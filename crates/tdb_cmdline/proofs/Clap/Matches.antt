-- What the rows of matches say of an id.
use Rattle.std.proofs.Common.{◌≡◌, ℕ, zero, suc, Bool, true, false, not, ◌&&◌, cond, List, [], ◌∷◌, ◌++◌, map, Option, Some, None, option_map, option_and_then, refl, sym, ◌∙◌, ap, ap₂, subst, inl, inr, find, slice_get, drop, bytes_eq, append_assoc}
use Rattle.std.proofs.lemmas.Bool.{cases_Bool, false≢true, and_parts, not-true, or_left, or_right}
use Rattle.tdb_space.specs.Pairs.{same_key}
use Rattle.tdb_space.proofs.Pairs.Maps.{same_key-eq, same_key-refl}
use Rattle.clap.specs.Words.{Row, matched_of, raw_values, rows_of}
use Rattle.clap.specs.Walk.{has_row, row_of}
use Rattle.clap.specs.Facts.{Entry}
use Rattle.clap.specs.declared.parser.matches.Found.{Found}
use Rattle.clap.specs.declared.parser.matches.ValueSource.{ValueSource}
use Rattle.clap.specs.declared.parser.matches.ValueSource.TheVariants.{DefaultValue, CommandLine}
use Rattle.clap.proofs.WalkLemmas.{find-map}
use Rattle.tdb_cmdline.specs.declared.options.Command.{Command}
use Rattle.tdb_cmdline.specs.declared.options.GivenOption.{GivenOption}
use Rattle.tdb_cmdline.specs.Options.{kind_of}
use Rattle.tdb_cmdline.specs.Clap.{positions_id, is_given_row, given_by, value_given, option_named, option_of, options_in, distinct, value_of}

abbrev pub of_id : List ℕ → List Row → Option Row
of_id id rows = find (λ row. same_key row.id id) rows

pub source_of : (f : Found) (id : List ℕ) → option_and_then (λ a. a.source) (matched_of f id) ≡ option_and_then (λ (row : Row). row.source) (of_id id (rows_of f))
source_of f id = go (find (λ e. bytes_eq e.0.now id) f.entries.items) ∙ ap (option_and_then (λ (row : Row). row.source)) (find-map (λ row. same_key row.id id) row_of f.entries.items)
  where
    go : (e : Option Entry) → option_and_then (λ a. a.source) (option_map (λ x. x.1) e) ≡ option_and_then (λ (row : Row). row.source) (option_map row_of e)
    go None = refl
    go (Some e) = refl

module _ (command : Command) (id : List ℕ) (rows : List Row) where
  pub positions_none : same_key id positions_id ≡ true → None ≡ option_of command id rows
  positions_none is = go (of_id id rows)
    where
      go : (row : Option Row) → None ≡ option_and_then (option_named command id) row
      go None = refl
      go (Some row) = rw is refl

  pub default_none : (source : Option ValueSource) → source ≡ option_and_then (λ (row : Row). row.source) (of_id id rows) → (source ≡ Some CommandLine → ⊥) → None ≡ option_of command id rows
  default_none source at other = go (of_id id rows) (λ e. other (at ∙ e))
    where
      and_false : (b : Bool) (x : GivenOption) → None ≡ cond (b && false) (Some x) None
      and_false true x = refl
      and_false false x = refl

      named : (row : Row) (s : Option ValueSource) → row.source ≡ s → (s ≡ Some CommandLine → ⊥) → None ≡ option_named command id row
      named row (Some CommandLine) is never = absurd (never refl)
      named row (Some DefaultValue) is never = rw is (and_false _ _)
      named row None is never = rw is (and_false _ _)

      go : (row : Option Row) → (option_and_then (λ (r : Row). r.source) row ≡ Some CommandLine → ⊥) → None ≡ option_and_then (option_named command id) row
      go None never = refl
      go (Some row) never = named row row.source refl never

  pub given_some : (name : List ℕ) (value : Option (List ℕ)) → name ≡ id → same_key id positions_id ≡ false → Some CommandLine ≡ option_and_then (λ (row : Row). row.source) (of_id id rows) → value ≡ value_of command id rows
      → Some (record { name = name; value = value }) ≡ option_of command id rows
  given_some name value same other at is = ap₂ (λ n v. Some (record { name = n; value = v })) same is ∙ go (of_id id rows) at
    where
      go : (row : Option Row) → Some CommandLine ≡ option_and_then (λ (r : Row). r.source) row
          → Some (record { name = id; value = value_given (kind_of command id) (option_and_then (λ (r : Row). slice_get r.values 0) row) }) ≡ option_and_then (option_named command id) row
      go None at = cc
      go (Some row) at = rw (other, sym at) refl

-- ---- the rows one by one

has_at : (id : List ℕ) (rows : List Row) (n : ℕ) (row : Row) (rest : List Row) → drop n rows ≡ row ∷ rest → same_key row.id id ≡ true → has_row id rows ≡ true
has_at id [] zero row rest at same = cc
has_at id [] (suc n) row rest at same = cc
has_at id (r ∷ rs) zero row rest at same =
    let is : r ≡ row = cc in
    or_left (bytes_eq r.id id) (has_row id rs) (ap (λ (x : Row). same_key x.id id) is ∙ same)
has_at id (r ∷ rs) (suc n) row rest at same = or_right (bytes_eq r.id id) (has_row id rs) (has_at id rs n row rest at same)

-- in rows of distinct ids each is the one that its id finds
pub found_at : (rows : List Row) (n : ℕ) (row : Row) (rest : List Row) → drop n rows ≡ row ∷ rest → distinct rows ≡ true → of_id row.id rows ≡ Some row
found_at [] zero row rest at apart = cc
found_at [] (suc n) row rest at apart = cc
found_at (r ∷ rs) zero row rest at apart =
    let is : r ≡ row = cc in
    rw (ap (λ (x : Row). same_key x.id row.id) is ∙ same_key-refl row.id) (ap Some is)
found_at (r ∷ rs) (suc n) row rest at apart =
    let own = and_parts (not (has_row r.id rs)) (distinct rs) apart in
    elim (cases_Bool (same_key r.id row.id)) [
      | inl same ↦
          let has : has_row r.id rs ≡ true = has_at r.id rs n row rest at (subst (λ i. same_key i r.id ≡ true) (same_key-eq r.id row.id same) (same_key-refl r.id)) in
          absurd (false≢true (sym (not-true _ own.0) ∙ has))
      | inr other ↦ rw other (found_at rs n row rest at own.1)
    ]

-- the next id is the next row's
pub next_row : (rows : List Row) (n : ℕ) (id : List ℕ) → Some id ≡ slice_get (map (λ (row : Row). row.id) (drop n rows)) 0
    → (row : Row) × (drop n rows ≡ row ∷ drop (suc n) rows) × (row.id ≡ id)
next_row [] zero id at = cc
next_row [] (suc n) id at = cc
next_row (r ∷ rs) zero id at = (r, refl, let same : id ≡ r.id = cc in sym same)
next_row (r ∷ rs) (suc n) id at = next_row rs n id at

pub no_row : (rows : List Row) (n : ℕ) → None ≡ slice_get (map (λ (row : Row). row.id) (drop n rows)) 0 → drop n rows ≡ []
no_row [] zero at = refl
no_row [] (suc n) at = refl
no_row (r ∷ rs) zero at = cc
no_row (r ∷ rs) (suc n) at = no_row rs n at

module _ (command : Command) (rows : List Row) (apart : distinct rows ≡ true) where
  -- one row more
  abbrev more : Option GivenOption → List GivenOption → List GivenOption
  more None os = os
  more (Some o) os = os ++ o ∷ []

  one_row : (row : Row) (rest : List Row) (os : List GivenOption) → os ++ options_in command (row ∷ rest) ≡ more (option_named command row.id row) os ++ options_in command rest
  one_row row rest os = go (is_given_row row)
    where
      go : (b : Bool) → os ++ cond b (given_by command row ∷ options_in command rest) (options_in command rest) ≡ more (cond b (Some (given_by command row)) None) os ++ options_in command rest
      go true = sym (append_assoc os (given_by command row ∷ []) (options_in command rest))
      go false = refl

  pub row_step : (n : ℕ) (id : List ℕ) (os : List GivenOption) (ids : List (List ℕ)) (o : Option GivenOption) → ids ≡ map (λ (row : Row). row.id) (drop n rows) → Some id ≡ slice_get ids 0
      → os ++ options_in command (drop n rows) ≡ options_in command rows → o ≡ option_of command id rows
      → (drop 1 ids ≡ map (λ (row : Row). row.id) (drop (suc n) rows)) × (more o os ++ options_in command (drop (suc n) rows) ≡ options_in command rows)
  row_step n id os ids o are first given is =
      let next = next_row rows n id (first ∙ ap (λ i. slice_get i 0) are) in
      let here : option_of command id rows ≡ option_named command next.0.id next.0 =
      ap (λ i. option_of command i rows) (sym next.2) ∙ ap (option_and_then (option_named command next.0.id)) (found_at rows n next.0 (drop (suc n) rows) next.1 apart) in (
        ap (drop 1) (are ∙ ap (map (λ (row : Row). row.id)) next.1),
        ap (λ x. more x os ++ options_in command (drop (suc n) rows)) (is ∙ here) ∙ sym (one_row next.0 (drop (suc n) rows) os) ∙ sym (ap (λ r. os ++ options_in command r) next.1) ∙ given,
      )

-- the values of the positions
pub raw_of : (f : Found) (id : List ℕ) → option_map raw_values (matched_of f id) ≡ option_map (λ (row : Row). row.values) (of_id id (rows_of f))
raw_of f id = go (find (λ e. bytes_eq e.0.now id) f.entries.items) ∙ ap (option_map (λ (row : Row). row.values)) (find-map (λ row. same_key row.id id) row_of f.entries.items)
  where
    go : (e : Option Entry) → option_map raw_values (option_map (λ x. x.1) e) ≡ option_map (λ (row : Row). row.values) (option_map row_of e)
    go None = refl
    go (Some e) = refl

-- the ids of entries are those of their rows
pub ids_of : (es : List Entry) → map (λ (e : Entry). e.0.now) es ≡ map (λ (row : Row). row.id) (map row_of es)
ids_of [] = refl
ids_of (e ∷ es) = ap (λ ids. e.0.now ∷ ids) (ids_of es)
