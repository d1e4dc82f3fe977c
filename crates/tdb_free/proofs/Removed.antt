-- A record is taken out of the free list by the word that leads to it.
use Rattle.std.proofs.Common.{◌≡◌, ℕ, ◌+◌, ◌≤◌, ◌⊎◌, Bool, List, [], ◌∷◌, Option, Some, None, refl, sym, ap, subst, inl, inr, arith}
use Rattle.std.specs.List.{find}
use Rattle.tdb_words.specs.Word.{word}
use Rattle.tdb_space.specs.Form.{Form, data_start, free_head}
use Rattle.tdb_space.specs.Record.{IsFree}
use Rattle.tdb_space.specs.Exchange.{FreeExchanged, LedPast}
use Rattle.tdb_space.proofs.Exchange.Kept.{Bodies, words_kept}
use Rattle.std.proofs.lemmas.Bool.{cases_eq, eq-eqb, ne_eqb, false≢true}
use Rattle.tdb_space.specs.Chain.{Linked, Leads, Member, without}
use Rattle.tdb_space.specs.Extents.{HandPair, once, times}
use Rattle.tdb_space.proofs.Extents.Counts.{where_is}
use Rattle.tdb_space.proofs.Extents.Counts.Lies.{lies, below, above}
use Rattle.tdb_space.proofs.Chain.Walks.{member_cases, member_first, member_other, linked_apart}
use Rattle.tdb_space.proofs.Chain.Members.{led_member}
use Rattle.tdb_space.proofs.Chain.Unlinks.{unlinked_bodies}
use Rattle.tdb_space.proofs.Chain.Trades.{FreeIs, free_taken}
use Rattle.tdb_space.specs.Stays.{OnlyIn}
use Rattle.tdb_free.specs.FreeList.{ListedOnce, free_pairs, without_first, words_at}
use Rattle.tdb_free.specs.Search.{IsFirst, IsSpot}
use Rattle.tdb_free.specs.Stretch.{found_pair, found_hands, found_offsets}
use Rattle.tdb_free.specs.Removal.{LeftOut, rest_of}
use Rattle.tdb_free.specs.declared.search.Spot.{Spot}
use Rattle.tdb_free.proofs.TakenAs.{lens_kept, pairs_without}

-- the free list of an image, as the trades with it take it
pub free_is_listed : (f : Form) (a offs : List ℕ) → ListedOnce f a offs → FreeIs f a offs
free_is_listed f a offs L = record { list = L.list; once_held = L.once_held }

-- records whose bytes behind the next word stay have the same lengths
pub pairs_same : (f : Form) (a b xs : List ℕ) → Bodies a b f xs → free_pairs f b xs ≡ free_pairs f a xs
pairs_same f a b [] bodies = refl
pairs_same f a b (x ∷ xs) bodies = let len = (words_kept f a b x bodies.0).rec_len in let rest = pairs_same f a b xs bodies.1 in λ j. (x, len j) ∷ rest j

-- a word of a list holds its bytes
word_held : (z : ℕ) (xs : List ℕ) (i : ℕ) → Member z xs → once (z, 4) i ≤ times (words_at xs) i
word_held z [] i m = absurd (false≢true m)
word_held z (x ∷ xs) i m =
    elim (member_cases z x xs m) [
      | inl e ↦ let same : once (z, 4) i ≡ once (x, 4) i = ap (λ y. once (y, 4) i) e in omega (arith, same)
      | inr there ↦ omega (arith, word_held z xs i there)
    ]

-- without a record the list has that record's word less
words_without : (xs : List ℕ) (y i : ℕ) → Member y xs → times (words_at xs) i ≡ times (words_at (without y xs)) i + once (y, 4) i
words_without [] y i m = absurd (false≢true m)
words_without (x ∷ xs) y i m =
    elim (cases_eq x y) [
      | inl e ↦ let same : once (x, 4) i ≡ once (y, 4) i = ap (λ z. once (z, 4) i) e in rw (eq-eqb x y e) (omega (arith, same))
      | inr ne ↦
          elim (member_cases y x xs m) [
            | inl e ↦ absurd (ne (sym e))
            | inr there ↦ rw (ne_eqb x y ne) (omega (arith, words_without xs y i there))
          ]
    ]

-- the record that leads to one that leaves stays
led_stays : (f : Form) (M : ℕ → Type 0) (a : List ℕ) (at p : ℕ) (xs : List ℕ) (before y : ℕ) → Linked f M a at xs → Leads p xs before y → (before ≡ p) ⊎ Member before (without y xs)
led_stays f M a at p [] before y list led = absurd led
led_stays f M a at p (x ∷ xs) before y list (inl here) = inl (sym here.0)
led_stays f M a at p (x ∷ xs) before y list (inr there) =
    let other : x ≡ y → ⊥ = λ e. linked_apart f M a at x xs list (subst (λ w. Member w xs) (sym e) (led_member x xs before y there)) in
    rw (ne_eqb x y other)
    (elim (led_stays f M a (word f.order a x) x xs before y list.3 there) [
      | inl e ↦ inr (subst (λ z. Member z (x ∷ without y xs)) (sym e) (member_first x (without y xs)))
      | inr m ↦ inr (member_other before x (without y xs) m)
    ])

-- so only a word changed that leads to a record of the list
only_link : (f : Form) (a b offs : List ℕ) (before y : ℕ) → ListedOnce f a offs → Leads free_head offs before y → LedPast f a b before y → OnlyIn (words_at (free_head ∷ without y offs)) a b
only_link f a b offs before y L leads past i none =
    let outside : once (before, 4) i ≡ 0 =
    elim (led_stays f IsFree a (word f.order a free_head) free_head offs before y L.list leads) [
      | inl e ↦ let same : once (before, 4) i ≡ once (free_head, 4) i = ap (λ z. once (z, 4) i) e in omega (arith, same, none)
      | inr m ↦ omega (arith, none, word_held before (without y offs) i m)
    ] in
    past.others i (elim (where_is (before, 4) i) [ lies _ _ one ↦ absurd (omega (arith, one, outside)) | below under _ ↦ inl under | above over _ ↦ inr over ])

-- From image a to image b the first record that passes a test left the free list, which had the records at these
-- offsets, and is a hand; a word that leads to a record of the list is all that changed. Where none passes, nothing was
-- found and the list is as it was.
pub record TakenOut (f : Form) (a b offs : List ℕ) (test : HandPair → Bool) (found : Option Spot) : Type 0 where
  pub first : find test (free_pairs f a offs) ≡ found_pair found
  pub pairs : free_pairs f b (rest_of found offs) ≡ without_first test (free_pairs f a offs)
  pub exchanged : FreeExchanged f a b offs (rest_of found offs) [] (found_hands found)
  pub words : (i : ℕ) → times (words_at offs) i ≡ times (words_at (rest_of found offs)) i + times (words_at (found_offsets found)) i
  pub others : OnlyIn (words_at (free_head ∷ rest_of found offs)) a b

-- the record that was found is taken out by that word
removed : (f : Form) (a b offs : List ℕ) (test : HandPair → Bool) (s : Spot) → ListedOnce f a offs → IsFirst f a offs test s → LedPast f a b s.before s.off → TakenOut f a b offs test (Some s)
removed f a b offs test s L F past =
    let low_head : free_head + 4 ≤ data_start f = omega arith in
    let bodies = unlinked_bodies f IsFree a b free_head offs s.before s.off L.list low_head L.once_held F.leads past in
    record {
      first = F.first;
      pairs = pairs_without f a b test (λ _. []) (s.off, s.rec_len) offs F.first L.once_held refl (lens_kept f a b offs bodies);
      exchanged = subst (λ n. FreeExchanged f a b offs (without s.off offs) [] ((s.off, n) ∷ [])) (sym F.rec_len) (free_taken f a b offs s.before s.off (free_is_listed f a offs L) F.leads past);
      words = λ i. omega (arith, words_without offs s.off i (led_member free_head offs s.before s.off F.leads));
      others = only_link f a b offs s.before s.off L F.leads past;
    }

-- where none passes a test, none is left out
without_none : (test : HandPair → Bool) (ps : List HandPair) → find test ps ≡ None → without_first test ps ≡ ps
without_none test [] e = refl
without_none test (p ∷ ps) e = grind (arith, without_none test ps)

nothing_removed : (f : Form) (a b offs : List ℕ) (test : HandPair → Bool) → ListedOnce f a offs → find test (free_pairs f a offs) ≡ None → b ≡ a → TakenOut f a b offs test None
nothing_removed f a b offs test L none e = subst (λ i. TakenOut f a i offs test None) (sym e) (record {
  first = none;
  pairs = sym (without_none test (free_pairs f a offs) none);
  exchanged = record { size = refl; low = λ i under apart. refl; high = λ i from free. refl; linked = L.list; held = tt; count = λ i. refl };
  words = λ i. omega arith;
  others = λ i none. refl;
})

-- so what was found and left its list is taken out
pub taken_out : (f : Form) (a b offs : List ℕ) (test : HandPair → Bool) (found : Option Spot) → ListedOnce f a offs → IsSpot f a offs test found → LeftOut f a b found → TakenOut f a b offs test found
taken_out f a b offs test None L none e = nothing_removed f a b offs test L none e
taken_out f a b offs test (Some s) L F past = removed f a b offs test s L F (past F.next)
