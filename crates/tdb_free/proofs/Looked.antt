-- What a few words tell of the records of the free list beside a place.
use Rattle.std.proofs.Common.{◌≡◌, ℕ, ◌+◌, ◌-◌, ◌≤◌, List, [], ◌∷◌, None, refl, sym, ◌∙◌, ap, subst, inl, inr, arith}
use Rattle.std.specs.List.{find}
use Rattle.std.proofs.lemmas.Bool.{cases_eq, eq-eqb, ne_eqb}
use Rattle.tdb_words.specs.Word.{word}
use Rattle.tdb_space.specs.Form.{Form}
use Rattle.tdb_space.specs.Record.{Whole, IsFree, rec_len_of, magic_of, next_of}
use Rattle.tdb_space.specs.Chain.{Free}
use Rattle.tdb_space.specs.Extents.{HandPair}
use Rattle.tdb_free.specs.FreeList.{free_pairs, starts_at, ends_at}
use Rattle.tdb_free.specs.Look.{LooksFree, StartsByTailer, EndsFree}
use Rattle.tdb_free.specs.Search.{IsFirst, count_before}
use Rattle.tdb_free.specs.declared.search.Spot.{Spot}
use Rattle.tdb_free.proofs.Passed.{find_here, find_later, count_here, count_later}

module _ (f : Form) (img : List ℕ) where
  -- a free record that stands whole looks free, and from its end it starts by its tailer
  looks : (x : ℕ) → Whole f img x → IsFree (magic_of f.order img x) → LooksFree f.order img x
  looks x whole free = record { within = omega (arith, whole.within); magic = free }

  by_tailer : (x at : ℕ) → Whole f img x → x + 24 + rec_len_of f.order img x ≡ at → StartsByTailer f.order img at x
  by_tailer x at whole e =
      let place : at - 4 ≡ x + 20 + rec_len_of f.order img x = omega (arith, e, whole.len_least) in
      let tells : word f.order img (at - 4) ≡ 24 + rec_len_of f.order img x = ap (word f.order img) place ∙ whole.tailer in
      record {
        within = omega (arith, whole.within, e);
        least = omega (arith, tells, whole.len_least);
        back = omega (arith, tells, e);
      }

  -- no record of the list starts where nothing looks free
  pub none_starts : (at from : ℕ) (offs : List ℕ) → Free f img from offs → (LooksFree f.order img at → ⊥) → find (starts_at at) (free_pairs f img offs) ≡ None
  none_starts at from [] list none = refl
  none_starts at from (x ∷ xs) list none =
      find_later (starts_at at) (x, rec_len_of f.order img x) (free_pairs f img xs) (ne_eqb x at (λ e. none (subst (LooksFree f.order img) e (looks x list.1 list.2))))
      ∙ none_starts at (next_of f.order img x) xs list.3 none

  -- none ends where no record that starts by the tailer looks free and is so long
  none_so_long : (at from : ℕ) (offs : List ℕ) → Free f img from offs → ((x : ℕ) → StartsByTailer f.order img at x → LooksFree f.order img x → x + 24 + rec_len_of f.order img x ≡ at → ⊥)
      → find (ends_at at) (free_pairs f img offs) ≡ None
  none_so_long at from [] list none = refl
  none_so_long at from (x ∷ xs) list none =
      find_later (ends_at at) (x, rec_len_of f.order img x) (free_pairs f img xs) (ne_eqb (x + 24 + rec_len_of f.order img x) at (λ e. none x (by_tailer x at list.1 e) (looks x list.1 list.2) e))
      ∙ none_so_long at (next_of f.order img x) xs list.3 none

  -- none ends where nothing looks free
  pub none_ends : (at from : ℕ) (offs : List ℕ) → Free f img from offs → (EndsFree f.order img at → ⊥) → find (ends_at at) (free_pairs f img offs) ≡ None
  none_ends at from offs list none = none_so_long at from offs list (λ x s free e. none (x, s, free))

  module _ (at start : ℕ) (there : StartsByTailer f.order img at start) where
    -- what ends at a place starts where the tailer there says
    starts : (x : ℕ) → StartsByTailer f.order img at x → x ≡ start
    starts x s = omega (arith, s.back, there.back)

    -- where the record that starts there ends at the place, it is the one of the list that ends there
    same_found : (from : ℕ) (offs : List ℕ) → Free f img from offs → start + 24 + rec_len_of f.order img start ≡ at → find (ends_at at) (free_pairs f img offs) ≡ find (starts_at start) (free_pairs f img offs)
    same_found from [] list long = refl
    same_found from (x ∷ xs) list long =
        let here : HandPair = (x, rec_len_of f.order img x) in
        let rest = free_pairs f img xs in
        elim (cases_eq x start) [
          | inl e ↦
              find_here (ends_at at) here rest (eq-eqb (x + 24 + rec_len_of f.order img x) at ((λ j. e j + 24 + rec_len_of f.order img (e j)) ∙ long))
              ∙ sym (find_here (starts_at start) here rest (eq-eqb x start e))
          | inr ne ↦
              find_later (ends_at at) here rest (ne_eqb (x + 24 + rec_len_of f.order img x) at (λ e. ne (starts x (by_tailer x at list.1 e))))
              ∙ same_found (next_of f.order img x) xs list.3 long
              ∙ sym (find_later (starts_at start) here rest (ne_eqb x start ne))
        ]

    -- none of the list ends there where what starts there ends elsewhere
    pub none_long : (from : ℕ) (offs : List ℕ) → Free f img from offs → (start + 24 + rec_len_of f.order img start ≡ at → ⊥) → find (ends_at at) (free_pairs f img offs) ≡ None
    none_long from offs list short =
        none_so_long at from offs list (λ x s free e. short ((λ j. sym (starts x s) j + 24 + rec_len_of f.order img (sym (starts x s) j)) ∙ e))

    -- and where none of the list starts there
    pub none_before : (from : ℕ) (offs : List ℕ) → Free f img from offs → find (starts_at start) (free_pairs f img offs) ≡ None → find (ends_at at) (free_pairs f img offs) ≡ None
    none_before from offs list none =
        elim (cases_eq (start + 24 + rec_len_of f.order img start) at) [
          | inl long ↦ same_found from offs list long ∙ none
          | inr short ↦ none_long from offs list short
        ]

    -- the one that starts there and ends at the place is found as the one that ends there
    pub ends_first : (from : ℕ) (offs : List ℕ) (p : Spot) → Free f img from offs → IsFirst f img offs (starts_at start) p → p.off ≡ start → p.off + 24 + p.rec_len ≡ at → IsFirst f img offs (ends_at at) p
    ends_first from offs p list first is ends =
        let len : p.rec_len ≡ rec_len_of f.order img start = first.rec_len ∙ ap (rec_len_of f.order img) is in
        record {
          leads = first.leads;
          next = first.next;
          rec_len = first.rec_len;
          first = same_found from offs list (omega (arith, ends, is, len)) ∙ first.first;
        }

    -- no fewer records stand in front of the one that ends there than in front of the one that starts there
    pub starts_before : (from : ℕ) (offs : List ℕ) → Free f img from offs → count_before (starts_at start) (free_pairs f img offs) ≤ count_before (ends_at at) (free_pairs f img offs)
    starts_before from [] list = omega arith
    starts_before from (x ∷ xs) list =
        let here : HandPair = (x, rec_len_of f.order img x) in
        let rest = free_pairs f img xs in
        elim (cases_eq x start) [
          | inl e ↦ omega (arith, count_here (starts_at start) here rest (eq-eqb x start e))
          | inr ne ↦
              omega (
                arith,
                count_later (starts_at start) here rest (ne_eqb x start ne),
                count_later (ends_at at) here rest (ne_eqb (x + 24 + rec_len_of f.order img x) at (λ e. ne (starts x (by_tailer x at list.1 e)))),
                starts_before (next_of f.order img x) xs list.3,
              )
        ]
