-- The bytes of keys and values, record by record and chain by chain.
use Rattle.std.proofs.Common.{◌≡◌, ◌≢◌, ℕ, ◌+◌, ◌-◌, ◌^◌, min, List, [], ◌∷◌, ◌++◌, length, drop, append_assoc, append-nil, Some, refl, sym, ◌∙◌, ap, subst, inl, inr, arith, length-take, length-drop}
use Rattle.std.specs.Prelude.{◌==◌, if◌then◌else◌}
use Rattle.std.proofs.lemmas.Bool.{cases_eq, eq-eqb, ne_eqb}
use Rattle.std.proofs.lemmas.List.Sums.{sum_by-cons, sum_by-append}
use Rattle.tdb_words.specs.declared.record.TheConstants.{USED}
use Rattle.tdb_words.specs.declared.record.Rec.{Rec}
use Rattle.tdb_words.specs.declared.word.Order.{Order}
use Rattle.tdb_space.specs.Form.{Form}
use Rattle.tdb_space.specs.Record.{Whole, Fits, magic_of, key_len_of, data_len_of, key_at, data_at}
use Rattle.tdb_space.specs.Chain.{chain_of}
use Rattle.tdb_space.specs.Pairs.{pair_of, pairs}
use Rattle.tdb_space.specs.Accepted.{AllFiled}
use Rattle.tdb_space.proofs.Pairs.Listed.{joined_more}
use Rattle.tdb_rewrite.specs.Walk.{IsWholeList, Ahead, Gives}
use Rattle.tdb_rewrite.specs.Sums.{added, key_bytes, value_bytes, pairs_below, Sums}
use Rattle.tdb_rewrite.specs.declared.walk.Listed.{Listed}
use Rattle.tdb_rewrite.specs.declared.walk.ListWalk.{ListWalk}
use Rattle.tdb_rewrite.specs.declared.sums.PairBytes.{PairBytes}

-- a number is added to a sum that stays at a greatest number
capped : (top a k : ℕ) → min (min (0 + a) top + k) top ≡ min (0 + (a + k)) top
capped top a k = omega arith

pub pair_used : (o : Order) (img : List ℕ) (x : ℕ) → magic_of o img x ≡ USED → pair_of o img x ≡ (key_at o img x, data_at o img x) ∷ []
pair_used o img x used = rw (eq-eqb (magic_of o img x) USED used) refl

pub pair_other : (o : Order) (img : List ℕ) (x : ℕ) → magic_of o img x ≢ USED → pair_of o img x ≡ []
pair_other o img x other = rw (ne_eqb (magic_of o img x) USED other) refl

where_used : (magic n m : ℕ) → magic ≡ USED → (if magic == USED then n else m) ≡ n
where_used magic n m used = rw (eq-eqb magic USED used) refl

where_other : (magic n m : ℕ) → magic ≢ USED → (if magic == USED then n else m) ≡ m
where_other magic n m other = rw (ne_eqb magic USED other) refl

-- one pair more
module _ (given : List (List ℕ × List ℕ)) (before now : PairBytes) (h : Sums given before) where
  one_more : (pair : List ℕ × List ℕ) → now.keys ≡ added before.keys (length pair.0) → now.values ≡ added before.values (length pair.1) → Sums (given ++ pair ∷ []) now
  one_more pair keys values = record {
    keys = keys ∙ ap (λ n. added n (length pair.0)) h.keys ∙ capped (2 ^ 64 - 1) (key_bytes given) (length pair.0)
        ∙ ap (added 0) (omega (arith, sum_by-append (λ (p : List ℕ × List ℕ). length p.0) given (pair ∷ []), sum_by-cons (λ (p : List ℕ × List ℕ). length p.0) pair []));
    values = values ∙ ap (λ n. added n (length pair.1)) h.values ∙ capped (2 ^ 64 - 1) (value_bytes given) (length pair.1)
        ∙ ap (added 0) (omega (arith, sum_by-append (λ (p : List ℕ × List ℕ). length p.1) given (pair ∷ []), sum_by-cons (λ (p : List ℕ × List ℕ). length p.1) pair []));
  }

  none_more : now.keys ≡ before.keys → now.values ≡ before.values → Sums (given ++ []) now
  none_more keys values = subst (λ ps. Sums ps now) (sym (append-nil given)) (record { keys = keys ∙ h.keys; values = values ∙ h.values })

  -- one record more: its pair, where it is used
  record_more : (f : Form) (img : List ℕ) (x : ℕ) → Whole f img x → (magic_of f.order img x ≡ USED → Fits f.order img x)
      → now.keys ≡ (if magic_of f.order img x == USED then added before.keys (key_len_of f.order img x) else before.keys)
      → now.values ≡ (if magic_of f.order img x == USED then added before.values (data_len_of f.order img x) else before.values)
      → Sums (given ++ pair_of f.order img x) now
  record_more f img x whole fits keys values =
      let o = f.order in
      elim (cases_eq (magic_of o img x) USED) [
        | inl used ↦
            let key : length (key_at o img x) ≡ key_len_of o img x =
            omega (arith, length-take (key_len_of o img x) (drop (x + 24) img), length-drop (x + 24) img, whole.within, fits used) in
            let value : length (data_at o img x) ≡ data_len_of o img x =
            omega (arith, length-take (data_len_of o img x) (drop (x + 24 + key_len_of o img x) img), length-drop (x + 24 + key_len_of o img x) img, whole.within, fits used) in
            subst (λ ps. Sums (given ++ ps) now) (sym (pair_used o img x used))
            (one_more (key_at o img x, data_at o img x)
            (keys ∙ where_used (magic_of o img x) (added before.keys (key_len_of o img x)) before.keys used ∙ ap (added before.keys) (sym key))
            (values ∙ where_used (magic_of o img x) (added before.values (data_len_of o img x)) before.values used ∙ ap (added before.values) (sym value)))
        | inr other ↦
            subst (λ ps. Sums (given ++ ps) now) (sym (pair_other o img x other))
            (none_more (keys ∙ where_other (magic_of o img x) (added before.keys (key_len_of o img x)) before.keys other)
            (values ∙ where_other (magic_of o img x) (added before.values (data_len_of o img x)) before.values other))
      ]

-- The pairs of some chains and of the first records of chain j are summed up; the records at some offsets are ahead in
-- that chain, and with their pairs those are the pairs of all chains up to it.
pub record Adding (f : Form) (img : List ℕ) (j : ℕ) (walk : ListWalk) (sums : PairBytes) : Type 0 where
  pub given : List (List ℕ × List ℕ)
  pub left : List ℕ
  pub ahead : Ahead f img left walk
  pub filed : AllFiled f img j left
  pub all : pairs_below f img (j + 1) ≡ given ++ pairs f.order img left
  pub sums_up : Sums given sums

pub adding_first : (f : Form) (img : List ℕ) (j : ℕ) (walk : ListWalk) (sums : PairBytes) → Ahead f img (chain_of f img j) walk → AllFiled f img j (chain_of f img j) → Sums (pairs_below f img j) sums → Adding f img j walk sums
adding_first f img j walk sums ahead filed so_far = record {
  given = pairs_below f img j;
  left = chain_of f img j;
  ahead = ahead;
  filed = filed;
  all = joined_more j (λ i. pairs f.order img (chain_of f img i));
  sums_up = so_far;
}

module _ (f : Form) (img : List ℕ) (j : ℕ) (walk : ListWalk) (sums : PairBytes) (h : Adding f img j walk sums) where
  -- one record more
  pub adding_more : (next : ListWalk) (now : PairBytes) (found : Listed) → Gives f img h.left (Some found) next
      → now.keys ≡ (if found.rec.magic == USED then added sums.keys found.rec.key_len else sums.keys)
      → now.values ≡ (if found.rec.magic == USED then added sums.values found.rec.data_len else sums.values)
      → Adding f img j next now
  adding_more next now found g keys values =
      let x = found.off in
      let linked : IsWholeList f img walk.at (x ∷ g.0) = subst (IsWholeList f img walk.at) g.1 h.ahead.linked in
      let filed : AllFiled f img j (x ∷ g.0) = subst (AllFiled f img j) g.1 h.filed in
      record {
        given = h.given ++ pair_of f.order img x;
        left = g.0;
        ahead = g.3;
        filed = filed.1;
        all = h.all ∙ ap (λ ys. h.given ++ pairs f.order img ys) g.1 ∙ sym (append_assoc h.given (pair_of f.order img x) (pairs f.order img g.0));
        sums_up = record_more h.given sums now h.sums_up f img x linked.1 (λ used. (filed.0 used).fits)
            (keys ∙ ap (λ (r : Rec). if r.magic == USED then added sums.keys r.key_len else sums.keys) g.2)
            (values ∙ ap (λ (r : Rec). if r.magic == USED then added sums.values r.data_len else sums.values) g.2);
      }

  -- all of the chain
  pub adding_all : h.left ≡ [] → Sums (pairs_below f img (j + 1)) sums
  adding_all none = subst (λ ps. Sums ps sums) (sym (h.all ∙ ap (λ ys. h.given ++ pairs f.order img ys) none ∙ append-nil h.given)) h.sums_up
