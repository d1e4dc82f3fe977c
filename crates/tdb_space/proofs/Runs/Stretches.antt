-- The runs of the bytes that change are one list, and where they lie.
use Rattle.std.proofs.Common.{◌≡◌, ℕ, ◌+◌, ◌<◌, ◌≤◌, ◌⊎◌, List, [], ◌∷◌, refl, sym, ◌∙◌, ap, inl, inr, arith}
use Rattle.std.specs.Prelude.{slice_index}
use Rattle.std.proofs.lemmas.Bool.{cases_lt}
use Rattle.tdb_space.specs.Form.{SameHeader}
use Rattle.tdb_space.specs.Extents.{Extent, once, times}
use Rattle.tdb_space.specs.Runs.{Changed, Near, InOrder, IsRuns, ChangedRuns, RunsLie}
use Rattle.tdb_space.proofs.Extents.Counts.{once_in, once_lies, where_is}
use Rattle.tdb_space.proofs.Extents.Counts.Lies.{lies, below, above}

-- a byte of extents in order stands at their start or behind it
order_from : (from : ℕ) (es : List Extent) (i : ℕ) → InOrder from es → 1 ≤ times es i → from ≤ i
order_from from [] i o held = absurd (omega (arith, held))
order_from from (e ∷ es) i o held =
    elim (cases_lt 0 (once e i)) [
      | inl some ↦ omega (arith, o.0, (once_lies e i (omega (arith, some))).0)
      | inr none ↦ omega (arith, o.0, order_from (e.0 + e.1 + 1) es i o.2 (omega (arith, held, none)))
    ]

-- each byte of the one list is one of the other
abbrev Covers : List Extent → List Extent → Type 0
Covers es fs = (i : ℕ) → 1 ≤ times es i → 1 ≤ times fs i

-- the first of a list, where another holds all of its bytes
start_in : (from m : ℕ) (e g : Extent) (es gs : List Extent) → InOrder from (e ∷ es) → InOrder m (g ∷ gs) → Covers (e ∷ es) (g ∷ gs) → g.0 ≤ e.0
start_in from m e g es gs o q all = order_from g.0 (g ∷ gs) e.0 (omega arith, q.1, q.2) (all e.0 (omega (arith, once_in e e.0 (omega arith) (omega (arith, o.1)))))

length_in : (from m : ℕ) (e g : Extent) (es gs : List Extent) → e.0 ≡ g.0 → InOrder from (e ∷ es) → InOrder m (g ∷ gs) → Covers (e ∷ es) (g ∷ gs) → e.1 ≤ g.1
length_in from m e g es gs same o q all =
    elim (cases_lt g.1 e.1) [
      | inr fits ↦ fits
      | inl longer ↦
          let i = g.0 + g.1 in
          let held : 1 ≤ times (g ∷ gs) i = all i (omega (arith, once_in e i (omega (arith, same)) (omega (arith, same, longer)))) in
          elim (where_is g i) [
            | lies _ to _ ↦ absurd (omega (arith, to))
            | below under _ ↦ absurd (omega (arith, under))
            | above _ none ↦ absurd (omega (arith, order_from (g.0 + g.1 + 1) gs i q.2 (omega (arith, held, none))))
          ]
    ]

rest_in : (from m : ℕ) (e g : Extent) (es gs : List Extent) → e.0 ≡ g.0 → e.1 ≡ g.1 → InOrder from (e ∷ es) → Covers (e ∷ es) (g ∷ gs) → Covers es gs
rest_in from m e g es gs start len o all i held =
    let past = order_from (e.0 + e.1 + 1) es i o.2 held in
    let there : 1 ≤ times (g ∷ gs) i = all i (omega (arith, held)) in
    elim (where_is g i) [
      | lies _ to _ ↦ absurd (omega (arith, to, past, start, len))
      | below under _ ↦ absurd (omega (arith, under, past, start))
      | above _ none ↦ omega (arith, there, none)
    ]

one_list : (from m : ℕ) (es fs : List Extent) → InOrder from es → InOrder m fs → Covers es fs → Covers fs es → es ≡ fs
one_list from m [] [] o q all back = refl
one_list from m [] (g ∷ gs) o q all back = absurd (omega (arith, back g.0 (omega (arith, once_in g g.0 (omega arith) (omega (arith, q.1))))))
one_list from m (e ∷ es) [] o q all back = absurd (omega (arith, all e.0 (omega (arith, once_in e e.0 (omega arith) (omega (arith, o.1))))))
one_list from m (e ∷ es) (g ∷ gs) o q all back =
    let start : e.0 ≡ g.0 = omega (arith, start_in from m e g es gs o q all, start_in m from g e gs es q o back) in
    let len : e.1 ≡ g.1 = omega (arith, length_in from m e g es gs start o q all, length_in m from g e gs es (sym start) q o back) in
    let rest = one_list (e.0 + e.1 + 1) (g.0 + g.1 + 1) es gs o.2 q.2 (rest_in from m e g es gs start len o all) (rest_in m from g e gs es (sym start) (sym len) q back) in
    λ i. (start i, len i) ∷ rest i

pub runs_one : (a b : List ℕ) (old : ℕ) (skip : Extent) (es fs : List Extent) → ChangedRuns a b old skip es → ChangedRuns a b old skip fs → es ≡ fs
runs_one a b old skip es fs r s = one_list 0 0 es fs r.in_order s.in_order (λ i held. s.all i (r.near i held)) (λ i held. r.all i (s.near i held))

-- a byte that changes is near
pub near_itself : (C : ℕ → Type 0) (i : ℕ) → C i → Near C i
near_itself C i c = record { first = i; last = i; from = omega arith; to = omega arith; close = omega arith; changed_first = c; changed_last = c }

none_held : (C : ℕ → Type 0) (es : List Extent) → IsRuns C es → ((i : ℕ) → C i → ⊥) → es ≡ []
none_held C [] r never = refl
none_held C (e ∷ es) r never =
    absurd (let n = r.near e.0 (omega (arith, once_in e e.0 (omega arith) (omega (arith, r.in_order.1)))) in never n.first n.changed_first)

none_changed : (C : ℕ → Type 0) (es : List Extent) → IsRuns C es → es ≡ [] → (i : ℕ) → C i → ⊥
none_changed C es r none i c =
    let held : 1 ≤ times es i = r.all i (near_itself C i c) in
    let gone : times es i ≡ 0 = ap (λ fs. times fs i) none in
    absurd (omega (arith, held, gone))

pub no_run_no_change : (a b : List ℕ) (old : ℕ) (skip : Extent) (es : List Extent) → ChangedRuns a b old skip es → (es ≡ [] → (i : ℕ) → Changed a b old skip i → ⊥) × (((i : ℕ) → Changed a b old skip i → ⊥) → es ≡ [])
no_run_no_change a b old skip es r = (none_changed (Changed a b old skip) es r, none_held (Changed a b old skip) es r)

-- runs of places that are the same
near_same : (C D : ℕ → Type 0) (i : ℕ) → ((j : ℕ) → C j → D j) → Near C i → Near D i
near_same C D i same n = record { first = n.first; last = n.last; from = n.from; to = n.to; close = n.close; changed_first = same n.first n.changed_first; changed_last = same n.last n.changed_last }

pub runs_of_other : (a b c : List ℕ) (old : ℕ) (skip other : Extent) (es : List Extent) → ((i : ℕ) → i < old → once other i ≡ once skip i) → ((i : ℕ) → i < old → (i < 44) ⊎ (48 ≤ i) → once skip i ≡ 0 → slice_index c i ≡ slice_index a i) → ChangedRuns a b old skip es → ChangedRuns c b old other es
runs_of_other a b c old skip other es area same r = record {
  in_order = r.in_order;
  near = λ i held. near_same (Changed a b old skip) (Changed c b old other) i forth (r.near i held);
  all = λ i n. r.all i (near_same (Changed c b old other) (Changed a b old skip) i back n);
}
  where
    forth : (j : ℕ) → Changed a b old skip j → Changed c b old other j
    forth j h = record { low = h.low; beside = h.beside; outside = area j h.low ∙ h.outside; differs = λ e. h.differs (e ∙ same j h.low h.beside h.outside) }

    back : (j : ℕ) → Changed c b old other j → Changed a b old skip j
    back j h = (let out : once skip j ≡ 0 = sym (area j h.low) ∙ h.outside in record { low = h.low; beside = h.beside; outside = out; differs = λ e. h.differs (e ∙ sym (same j h.low h.beside out)) })

module _ (a b : List ℕ) (old : ℕ) (skip : Extent) (es : List Extent) (stays : SameHeader a b) (room : 10 ≤ skip.1) (r : ChangedRuns a b old skip es) where
  -- where a byte that changes can stand
  changed_past : (i : ℕ) → Changed a b old skip i → (48 ≤ i) × ((i < 52) ⊎ (64 ≤ i))
  changed_past i c = (
    elim c.beside [ inl low ↦ absurd (c.differs (stays i (inl low))) | inr high ↦ high ],
    elim (cases_lt i 52) [
      | inl under ↦ inl under
      | inr over ↦ elim (cases_lt i 64) [ inl front ↦ absurd (c.differs (stays i (inr (over, front)))) | inr past ↦ inr past ]
    ],
  )

  changed_outside : (i : ℕ) → Changed a b old skip i → (i < skip.0) ⊎ (skip.0 + skip.1 ≤ i)
  changed_outside i c = elim (where_is skip i) [ lies _ _ one ↦ absurd (omega (arith, one, c.outside)) | below under _ ↦ inl under | above over _ ↦ inr over ]

  not_held : (i : ℕ) → (Near (Changed a b old skip) i → ⊥) → times es i ≡ 0
  not_held i never = elim (cases_lt 0 (times es i)) [ inl some ↦ absurd (never (r.near i (omega (arith, some)))) | inr none ↦ omega (arith, none) ]

  not_front : (i : ℕ) → (i < 48) ⊎ ((52 ≤ i) × (i < 64)) → Near (Changed a b old skip) i → ⊥
  not_front i (inl low) n = omega (arith, low, n.from, (changed_past n.first n.changed_first).0)
  not_front i (inr high) n =
      elim (changed_past n.first n.changed_first).1 [
        | inr past ↦ omega (arith, past, n.from, high.1)
        | inl under ↦
            elim (changed_past n.last n.changed_last).1 [ inl short ↦ omega (arith, short, n.to, high.0) | inr far ↦ omega (arith, far, n.close, under) ]
      ]

  not_area : (i : ℕ) → skip.0 ≤ i → i < skip.0 + skip.1 → Near (Changed a b old skip) i → ⊥
  not_area i from to n =
      elim (changed_outside n.first n.changed_first) [
        | inr past ↦ omega (arith, past, n.from, to)
        | inl under ↦ elim (changed_outside n.last n.changed_last) [ inl short ↦ omega (arith, short, n.to, from) | inr far ↦ omega (arith, far, n.close, under, room) ]
      ]

  pub runs_lie : RunsLie old skip es
  runs_lie = record {
    low = λ i held. (let n = r.near i held in omega (arith, n.to, n.changed_last.low));
    front = λ i where_at. not_held i (not_front i where_at);
    clear = λ i from to. not_held i (not_area i from to);
  }
