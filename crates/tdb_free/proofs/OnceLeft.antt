-- The record before a hand, once the record behind it has left the free list.
use Rattle.std.proofs.Common.{◌≡◌, ℕ, ◌⊎◌, Bool, false, List, [], ◌∷◌, Option, Some, None, refl, sym, ◌∙◌, ap, subst, inl, inr, arith}
use Rattle.std.specs.Prelude.{◌%◌, ◌==◌, if◌then◌else◌, IfSome}
use Rattle.std.specs.List.{find}
use Rattle.std.proofs.lemmas.Bool.{cases_eq, cases_lt, eq-eqb, ne_eqb, eqb-true, false≢true}
use Rattle.tdb_words.specs.Word.{word}
use Rattle.tdb_words.proofs.Words.{word_agrees}
use Rattle.tdb_space.specs.Form.{Form, free_head}
use Rattle.tdb_space.specs.Record.{Whole, IsFree, next_of, rec_len_of}
use Rattle.tdb_space.specs.Chain.{Free, Leads, Member, without}
use Rattle.tdb_space.specs.Extents.{HandPair}
use Rattle.tdb_space.specs.Exchange.{LedPast}
use Rattle.tdb_space.proofs.Chain.Walks.{linked_whole, linked_apart, member_first, member_other}
use Rattle.tdb_space.proofs.Chain.Members.{led_member, led_from}
use Rattle.tdb_space.proofs.Chain.Unlinks.{unlinked_bodies}
use Rattle.tdb_free.specs.FreeList.{ListedOnce, free_pairs, without_first, starts_at, ends_at, end_of}
use Rattle.tdb_free.specs.Search.{IsFirst, IsSpot, SpotWithin, once_left, previous_then, spot_pair}
use Rattle.tdb_free.specs.Removal.{LeftOut, rest_of}
use Rattle.tdb_free.specs.declared.search.Spot.{Spot}
use Rattle.tdb_free.proofs.Removed.{TakenOut, taken_out}
use Rattle.tdb_free.proofs.TakenAs.{found_passes, lens_kept}

-- what passes a test is found alike without the first that passes another one, if that doesn't pass this test
find_without : (t u : HandPair → Bool) (ps : List HandPair) (q : HandPair) → find t ps ≡ Some q → u q ≡ false → find u (without_first t ps) ≡ find u ps
find_without t u [] q found fails = refl
find_without t u (p ∷ ps) q found fails = grind (arith, found, fails, find_without t u ps q)

-- no offset of a list comes twice in it
abbrev Differ : List ℕ → Type 0
Differ [] = Unit {0}
Differ (x ∷ xs) = (Member x xs → ⊥) × Differ xs

differ_linked : (f : Form) (a : List ℕ) (at : ℕ) (xs : List ℕ) → Free f a at xs → Differ xs
differ_linked f a at [] list = tt
differ_linked f a at (x ∷ xs) list = (linked_apart f IsFree a at x xs list, differ_linked f a (word f.order a x) xs list.3)

-- the word that leads to a record, where another has left the list
led_then : (p : ℕ) (xs : List ℕ) (b y c z : ℕ) → (Member p xs → ⊥) → Differ xs → (y ≡ z → ⊥) → Leads p xs b y → Leads p xs c z → Leads p (without z xs) (if b == z then c else b) y
led_then p [] b y c z out differ ne one other = one
led_then p (x ∷ xs) b y c z out differ ne (inl here) (inl there) = absurd (ne (sym here.1 ∙ there.1))
led_then p (x ∷ xs) b y c z out differ ne (inl here) (inr there) =
    let member = led_member x xs c z there in
    let apart : x ≡ z → ⊥ = λ e. differ.0 (subst (λ w. Member w xs) (sym e) member) in
    let not_p : b ≡ z → ⊥ = λ e. out (member_other p x xs (subst (λ w. Member w xs) (sym (here.0 ∙ e)) member)) in
    rw (ne_eqb x z apart) (rw (ne_eqb b z not_p) (inl here))
led_then p (x ∷ xs) b y c z out differ ne (inr here) (inl there) =
    rw (eq-eqb x z there.1) (first xs out differ here)
  where
    first : (xs : List ℕ) → (Member p (x ∷ xs) → ⊥) → Differ (x ∷ xs) → Leads x xs b y → Leads p xs (if b == z then c else b) y
    first [] out differ led = led
    first (w ∷ ws) out differ (inl led) = rw (eq-eqb b z (sym led.0 ∙ there.1)) (inl (there.0, led.1))
    first (w ∷ ws) out differ (inr led) =
        let from : (b ≡ w) ⊎ Member b ws = led_from w ws b y led in
        let in_list : Member b (w ∷ ws) = elim from [ inl e ↦ subst (λ v. Member v (w ∷ ws)) (sym e) (member_first w ws) | inr m ↦ member_other b w ws m ] in
        let apart : b ≡ z → ⊥ = λ e. differ.0 (subst (λ v. Member v (w ∷ ws)) (e ∙ sym there.1) in_list) in
        rw (ne_eqb b z apart) (inr led)
led_then p (x ∷ xs) b y c z out differ ne (inr here) (inr there) =
    let apart : x ≡ z → ⊥ = λ e. differ.0 (subst (λ w. Member w xs) (sym e) (led_member x xs c z there)) in
    rw (ne_eqb x z apart) (inr (led_then x xs b y c z differ.0 differ.1 ne here there))

-- the word that leads past a record is another than the first word of a record beside it, or is that word
word_then : (f : Form) (a b : List ℕ) (before y at : ℕ) → before % 4 ≡ 0 → at % 4 ≡ 0 → LedPast f a b before y → (before ≡ at → ⊥) → next_of f.order b at ≡ next_of f.order a at
word_then f a b before y at aligned aligned_at past ne =
    word_agrees f.order b a at (λ i from to.
    past.others i (elim (cases_lt at before) [ inl less ↦ inl (omega (arith, less, aligned, aligned_at, to)) | inr more ↦ inr (omega (arith, more, ne, aligned, aligned_at, from)) ]))

module _ (f : Form) (a b offs : List ℕ) (t u : HandPair → Bool) (n p : Spot) (L : ListedOnce f a offs) (N : IsFirst f a offs t n) (P : IsFirst f a offs u p) (fails : u (spot_pair n) ≡ false) (past : LedPast f a b n.before n.off) where
  whole : (z : ℕ) → Member z offs → Whole f a z
  whole z m = (linked_whole f IsFree a (word f.order a free_head) offs z L.list m).0

  member : Member p.off offs
  member = led_member free_head offs p.before p.off P.leads

  aligned : n.before % 4 ≡ 0
  aligned = elim (led_from free_head offs n.before n.off N.leads) [ inl e ↦ ap (λ m. m % 4) e | inr m ↦ (whole n.before m).aligned ]

  -- the record that passes the one test is another than the one that passes the other
  apart : p.off ≡ n.off → ⊥
  apart e =
      let len : p.rec_len ≡ n.rec_len = P.rec_len ∙ ap (rec_len_of f.order a) e ∙ sym N.rec_len in
      let same : spot_pair p ≡ spot_pair n = λ j. (e j, len j) in
      false≢true (sym (sym (found_passes u (free_pairs f a offs) (spot_pair p) P.first) ∙ ap u same ∙ fails))

  left : TakenOut f a b offs t (Some n)
  left = taken_out f a b offs t (Some n) L N (λ _. past)

  next_there : (once_left p n).next ≡ next_of f.order b p.off
  next_there =
      elim (cases_eq n.before p.off) [
        | inl e ↦ rw (eq-eqb n.before p.off e) (N.next ∙ sym past.next ∙ ap (word f.order b) e)
        | inr ne ↦ rw (ne_eqb n.before p.off ne) (P.next ∙ sym (word_then f a b n.before n.off p.off aligned (whole p.off member).aligned past ne))
      ]

  pub still_first : IsFirst f b (without n.off offs) u (once_left p n)
  still_first =
      let bodies = unlinked_bodies f IsFree a b free_head offs n.before n.off L.list (omega arith) L.once_held N.leads past in
      record {
        leads = led_then free_head offs p.before p.off n.before n.off (λ m. absurd (omega (arith, (whole free_head m).above)))
            (differ_linked f a (word f.order a free_head) offs L.list) apart P.leads N.leads;
        next = next_there;
        rec_len = P.rec_len ∙ sym (lens_kept f a b offs bodies p.off member);
        first = ap (find u) left.pairs ∙ find_without t u (free_pairs f a offs) (spot_pair n) N.first fails ∙ P.first;
      }

-- the record before a hand is found in what is left
pub previous_spot : (f : Form) (a b offs : List ℕ) (h : HandPair) → ListedOnce f a offs → (next previous : Option Spot) → IsSpot f a offs (starts_at (end_of h)) next → IsSpot f a offs (ends_at h.0) previous → LeftOut f a b next
    → IsSpot f b (rest_of next offs) (ends_at h.0) (previous_then next previous)
previous_spot f a b offs h L None previous N P e = subst (λ i. IsSpot f i offs (ends_at h.0) previous) (sym e) P
previous_spot f a b offs h L (Some n) previous N P past = there previous P
  where
    start : n.off ≡ end_of h
    start = eqb-true n.off (end_of h) (found_passes (starts_at (end_of h)) (free_pairs f a offs) (spot_pair n) N.first)

    fails : ends_at h.0 (spot_pair n) ≡ false
    fails = ne_eqb (end_of (spot_pair n)) h.0 (λ e. absurd (omega (arith, e, start)))

    led : LedPast f a b n.before n.off
    led = past N.next

    there : (previous : Option Spot) → IsSpot f a offs (ends_at h.0) previous → IsSpot f b (without n.off offs) (ends_at h.0) (previous_then (Some n) previous)
    there None none =
        ap (find (ends_at h.0)) (taken_out f a b offs (starts_at (end_of h)) (Some n) L N past).pairs
        ∙ find_without (starts_at (end_of h)) (ends_at h.0) (free_pairs f a offs) (spot_pair n) N.first fails ∙ none
    there (Some p) first = still_first f a b offs (starts_at (end_of h)) (ends_at h.0) n p L N first fails led

-- and it can stand there
pub previous_within : (f : Form) (len : ℕ) (next previous : Option Spot) → IfSome next (λ p. SpotWithin p f len) → IfSome previous (λ p. SpotWithin p f len) → IfSome (previous_then next previous) (λ p. SpotWithin p f len)
previous_within f len None previous N P = P
previous_within f len (Some n) None N P = tt
previous_within f len (Some n) (Some p) N P =
    elim (cases_eq p.before n.off) [
      | inl e ↦ rw (eq-eqb p.before n.off e) (record { aligned = N.aligned; led = N.led; stands = P.stands })
      | inr ne ↦ rw (ne_eqb p.before n.off ne) (record { aligned = P.aligned; led = P.led; stands = P.stands })
    ]
