-- The records that were made free, from the last one on.
use Rattle.std.proofs.Common.{◌≡◌, ℕ, ◌+◌, ◌-◌, ◌<◌, ◌≤◌, List, [], ◌∷◌, suc, length, refl, sym, ◌∙◌, ap, subst, inl, inr, arith}
use Rattle.std.specs.Prelude.{slice_index, nat_le, if◌then◌else◌, ◌%◌, All}
use Rattle.std.specs.List.{Contains}
use Rattle.std.proofs.lemmas.Bool.{cases_lt, le-leb, lt-leb}
use Rattle.std.proofs.lemmas.List.Elements.{All-cons}
use Rattle.tdb_words.specs.declared.record.Rec.{Rec}
use Rattle.tdb_words.specs.Word.{word}
use Rattle.tdb_space.specs.Form.{Form, data_start}
use Rattle.tdb_space.specs.Record.{Whole, IsFree, rec_len_of, magic_of}
use Rattle.tdb_space.specs.Chain.{Linked}
use Rattle.tdb_space.specs.Extents.{Extent, once, times, extents, extent_at}
use Rattle.tdb_space.specs.Runs.{InOrder}
use Rattle.tdb_space.proofs.Extents.Counts.{where_is}
use Rattle.tdb_space.proofs.Extents.Counts.Lies.{lies, below, above}
use Rattle.tdb_free.specs.FreeList.{HoldsNothing}
use Rattle.tdb_steps.specs.Wiped.{MadeFree}
use Rattle.tdb_steps.specs.Wiped.MadeFree.{as_record, as_zeros}

-- the list with a stretch of n bytes in front, where it is long enough for a record
abbrev pub freed : ℕ → ℕ → List ℕ → List ℕ
freed at n offs = if nat_le 28 n then at ∷ offs else offs

pub freed_long : (at n : ℕ) (offs : List ℕ) → 28 ≤ n → freed at n offs ≡ at ∷ offs
freed_long at n offs long = rw (le-leb 28 n long) refl

pub freed_short : (at n : ℕ) (offs : List ℕ) → n < 28 → freed at n offs ≡ offs
freed_short at n offs short = rw (lt-leb 28 n short) refl

pub order_less : (m n : ℕ) (es : List Extent) → m ≤ n → InOrder n es → InOrder m es
order_less m n [] less o = tt
order_less m n (e ∷ es) less o = (omega (arith, less, o.0), o.1, o.2)

none_before : (n : ℕ) (es : List Extent) (i : ℕ) → InOrder n es → i < n → times es i ≡ 0
none_before n [] i o low = refl
none_before n (e ∷ es) i o low =
    elim (where_is e i) [
      | lies high _ _ ↦ absurd (omega (arith, high, o.0, low))
      | below under none ↦ omega (arith, none, none_before (e.0 + e.1 + 1) es i o.2 (omega (arith, under)))
      | above over _ ↦ absurd (omega (arith, over, o.0, low))
    ]

-- From an offset on, the free list of an image has these records, in order of place and beside an undo area; what
-- neither holds is 0
pub record Tail (f : Form) (b : List ℕ) (skip : Extent) (from first : ℕ) (offs : List ℕ) : Type 0 where
  pub linked : Linked f IsFree b first offs
  pub ordered : InOrder from (extents f.order b offs)
  pub apart : (i : ℕ) → times (extents f.order b offs) i + once skip i ≤ 1
  pub rest : (i : ℕ) → from ≤ i → i < length b → times (extents f.order b offs) i + once skip i ≡ 0 → slice_index b i ≡ 0

once_least : (e : Extent) (i : ℕ) → once e i ≤ 1
once_least e i = elim (where_is e i) [ lies _ _ one ↦ omega (arith, one) | below _ none ↦ omega (arith, none) | above _ none ↦ omega (arith, none) ]

-- behind the end there is none
pub tail_none : (f : Form) (b : List ℕ) (skip : Extent) (from first : ℕ) → length b ≤ from → first ≡ 0 → Tail f b skip from first []
tail_none f b skip from first past none = record {
  linked = none;
  ordered = tt;
  apart = λ i. omega (arith, once_least skip i);
  rest = λ i low high _. absurd (omega (arith, low, high, past));
}

-- what a stretch's record says
module _ (f : Form) (a b : List ℕ) (at n next first : ℕ) (long : 28 ≤ n) (made : MadeFree f a b at n next first) where
  pub record Says : Type 0 where
    pub rec_len : rec_len_of f.order b at ≡ n - 24
    pub leads : word f.order b at ≡ next
    pub is_free : IsFree (magic_of f.order b at)
    pub empty : HoldsNothing f.order b at
    pub tailer : word f.order b (at + n - 4) ≡ n
    pub kept : (i : ℕ) → at + 24 ≤ i → i + 4 < at + n → slice_index b i ≡ slice_index a i
    pub begins : first ≡ at

  pub says : Says
  says = elim made [
    | as_record _ header tailer kept begins ↦ record {
      rec_len = ap (λ (r : Rec). r.rec_len) header;
      leads = ap (λ (r : Rec). r.next) header;
      is_free = ap (λ (r : Rec). r.magic) header;
      empty = record { key_len = ap (λ (r : Rec). r.key_len) header; data_len = ap (λ (r : Rec). r.data_len) header; full_hash = ap (λ (r : Rec). r.full_hash) header };
      tailer = tailer;
      kept = kept;
      begins = begins;
    }
    | as_zeros short _ _ ↦ absurd (omega (arith, short, long))
  ]

  pub extent_is : extent_at f.order b at ≡ (at, n)
  extent_is = (let len : 24 + rec_len_of f.order b at ≡ n = omega (arith, says.rec_len, long) in λ i. (at, len i))

  pub whole : at % 4 ≡ 0 → n % 4 ≡ 0 → data_start f ≤ at → at + n ≤ length b → Whole f b at
  whole aligned words behind within =
      let len : 24 + rec_len_of f.order b at ≡ n = omega (arith, says.rec_len, long) in
      let place : at + 20 + rec_len_of f.order b at ≡ at + n - 4 = omega (arith, len) in
      record {
        aligned = aligned;
        above = behind;
        len_aligned = omega (arith, len, words);
        len_least = omega (arith, len, long);
        within = omega (arith, len, within);
        tailer = ap (word f.order b) place ∙ says.tailer ∙ sym len;
      }

-- what a stretch says that is too short
module _ (f : Form) (a b : List ℕ) (at n next first : ℕ) (short : n < 28) (made : MadeFree f a b at n next first) where
  pub record Blanks : Type 0 where
    pub zeros : (i : ℕ) → at ≤ i → i < at + n → slice_index b i ≡ 0
    pub begins : first ≡ next

  pub blanks : Blanks
  blanks = elim made [
    | as_zeros _ zeros begins ↦ record { zeros = zeros; begins = begins }
    | as_record long _ _ _ _ ↦ absurd (omega (arith, short, long))
  ]

-- one stretch more, before those that were made free already
module _ (f : Form) (a b : List ℕ) (skip : Extent) (at n next first from : ℕ) (offs : List ℕ) (aligned : at % 4 ≡ 0) (words : n % 4 ≡ 0) (behind : data_start f ≤ at) (within : at + n ≤ length b) (before : at + n + 1 ≤ from) (clear : (i : ℕ) → at ≤ i → i < at + n → once skip i ≡ 0) (between : (i : ℕ) → at + n ≤ i → i < from → i < length b → once skip i ≡ 1) (made : MadeFree f a b at n next first) (T : Tail f b skip from next offs) where
  with_record : 28 ≤ n → Tail f b skip at first (at ∷ offs)
  with_record long =
      let s = says f a b at n next first long made in
      let len : 24 + rec_len_of f.order b at ≡ n = omega (arith, s.rec_len, long) in
      record {
        linked = (s.begins, whole f a b at n next first long made aligned words behind within, s.is_free, subst (λ x. Linked f IsFree b x offs) (sym s.leads) T.linked);
        ordered = (omega arith, omega arith, order_less (at + (24 + rec_len_of f.order b at) + 1) from (extents f.order b offs) (omega (arith, len, before)) T.ordered);
        apart = λ i. elim (where_is (extent_at f.order b at) i) [
          | lies low high one ↦ omega (arith, one, none_before from (extents f.order b offs) i T.ordered (omega (arith, high, len, before)), clear i low (omega (arith, high, len)))
          | below _ none ↦ omega (arith, none, T.apart i)
          | above _ none ↦ omega (arith, none, T.apart i)
        ];
        rest = λ i low high none. elim (where_is (extent_at f.order b at) i) [
          | lies _ _ one ↦ absurd (omega (arith, one, none))
          | below under _ ↦ absurd (omega (arith, under, low))
          | above over _ ↦ elim (cases_lt i from) [
            | inl gap ↦ absurd (omega (arith, none, between i (omega (arith, over, len)) gap high))
            | inr further ↦ T.rest i further high (omega (arith, none))
          ]
        ];
      }

  without_record : n < 28 → Tail f b skip at first offs
  without_record short =
      let s = blanks f a b at n next first short made in
      record {
        linked = subst (λ x. Linked f IsFree b x offs) (sym s.begins) T.linked;
        ordered = order_less at from (extents f.order b offs) (omega (arith, before)) T.ordered;
        apart = T.apart;
        rest = λ i low high none. elim (cases_lt i (at + n)) [
          | inl here ↦ s.zeros i low here
          | inr past ↦ elim (cases_lt i from) [
            | inl gap ↦ absurd (omega (arith, none, between i past gap high))
            | inr further ↦ T.rest i further high none
          ]
        ];
      }

  pub tail_more : Tail f b skip at first (freed at n offs)
  tail_more =
      elim (cases_lt n 28) [
        | inl short ↦ subst (Tail f b skip at first) (sym (freed_short at n offs short)) (without_record short)
        | inr long ↦ subst (Tail f b skip at first) (sym (freed_long at n offs long)) (with_record long)
      ]

-- what holds of a stretch and of the extents behind it holds of all
pub each_more : (P : Extent → Type 0) (f : Form) (a b : List ℕ) (at n next first : ℕ) (offs : List ℕ) → MadeFree f a b at n next first → (1 ≤ n → P (at, n)) → All P (extents f.order b offs) → All P (extents f.order b (freed at n offs))
each_more P f a b at n next first offs made is all =
    elim (cases_lt n 28) [
      | inl short ↦ subst (λ xs. All P (extents f.order b xs)) (sym (freed_short at n offs short)) all
      | inr long ↦
          subst (λ xs. All P (extents f.order b xs)) (sym (freed_long at n offs long))
          (All-cons P (extent_at f.order b at) (extents f.order b offs) (subst P (sym (extent_is f a b at n next first long made)) (is (omega (arith, long)))) all)
    ]

contains_first : (e : Extent) (es : List Extent) → Contains (e ∷ es) e
contains_first e es = (0, omega arith, refl)

contains_later : (e g : Extent) (es : List Extent) → Contains es e → Contains (g ∷ es) e
contains_later e g es (k, within, is) = (suc k, omega arith, is)

pub listed_here : (f : Form) (a b : List ℕ) (at n next first : ℕ) (offs : List ℕ) → 28 ≤ n → MadeFree f a b at n next first → Contains (extents f.order b (freed at n offs)) (at, n)
listed_here f a b at n next first offs long made =
    subst (λ xs. Contains (extents f.order b xs) (at, n)) (sym (freed_long at n offs long))
    (subst (Contains (extent_at f.order b at ∷ extents f.order b offs)) (extent_is f a b at n next first long made) (contains_first (extent_at f.order b at) (extents f.order b offs)))

pub listed_behind : (f : Form) (b : List ℕ) (at n : ℕ) (offs : List ℕ) (e : Extent) → Contains (extents f.order b offs) e → Contains (extents f.order b (freed at n offs)) e
listed_behind f b at n offs e there =
    elim (cases_lt n 28) [
      | inl short ↦ subst (λ xs. Contains (extents f.order b xs) e) (sym (freed_short at n offs short)) there
      | inr long ↦ subst (λ xs. Contains (extents f.order b xs) e) (sym (freed_long at n offs long)) (contains_later e (extent_at f.order b at) (extents f.order b offs) there)
    ]
