-- A file whose undo area is emptied keeps its pairs.
use Rattle.std.proofs.Common.{◌≡◌, Bool, true, false, not, ◌&&◌, None, Some, ℕ, zero, suc, ◌+◌, ◌-◌, ◌<◌, ◌≤◌, ◌⊎◌, ◌%◌, List, [], length, slice_index, refl, sym, ◌∙◌, ap, subst, inl, inr, arith}
use Rattle.std.specs.Prelude.{◌==◌, if◌then◌else◌}
use Rattle.std.proofs.lemmas.Bool.{cases_lt, cases_eq, eq-eqb, ne_eqb}
use Rattle.tdb_disk.specs.Count.{RoseBy}
use Rattle.tdb_disk.specs.History.{History, seen}
use Rattle.tdb_disk.specs.Stop.{LeavesOnly, Quiet}
use Rattle.tdb_disk.proofs.Runs.{leaves_weaker, leaves_join}
use Rattle.tdb_words.specs.declared.word.Order.{Order}
use Rattle.tdb_words.specs.declared.word.Order.TheVariants.{Little, Big}
use Rattle.tdb_words.specs.declared.record.TheConstants.{GATE_OPEN, GATE_SHUT}
use Rattle.tdb_words.specs.declared.what.What.TheVariants.{AreaBad}
use Rattle.tdb_space.specs.FirstFault.{Fault}
use Rattle.tdb_space.proofs.FirstFault.Cleared.{stands_to, long_to}
use Rattle.tdb_words.specs.Word.{word}
use Rattle.tdb_words.specs.Header.{sequence_of, area_head}
use Rattle.tdb_words.proofs.Words.{word_agrees}
use Rattle.tdb_space.specs.Form.{Form, form_of}
use Rattle.tdb_space.specs.Record.{rec_len_of, magic_of}
use Rattle.tdb_space.specs.Chain.{chain_of, free_of}
use Rattle.tdb_space.specs.Pairs.{joined, map_of}
use Rattle.tdb_space.specs.Extents.{times, extents, area}
use Rattle.tdb_space.specs.Accepted.{AreaInPlace, Accept, AcceptWith}
use Rattle.tdb_space.specs.Opening.{lies_in}
use Rattle.tdb_space.specs.Moved.{StaysAccepted}
use Rattle.tdb_space.specs.Gate.{InContent}
use Rattle.tdb_space.specs.Undoing.{area_at, area_end, Reopens}
use Rattle.tdb_space.proofs.NewArea.AreaSets.{area_set_stays}
use Rattle.tdb_space.proofs.Gate.Contents.{content_free, area_apart, area_in, area_out, area_not}
use Rattle.tdb_space.proofs.Accepted.Fresh.{word_zero}
use Rattle.tdb_space.proofs.Undoing.Tails.{no_area_held, area_from}
use Rattle.tdb_space.proofs.Opening.Undone.{accepted_opens, read_as_it_is}
use Rattle.tdb_undo.specs.Area.{place_fault}
use Rattle.tdb_undo.specs.Torn.{TornIn, Put}
use Rattle.tdb_undo.specs.Recovery.{HeaderTouched}
use Rattle.tdb_undo.specs.Placing.{IsCleared, clearing_syncs}
use Rattle.tdb_undo.proofs.Lies.{lies, lies_not}

-- what stays accepted reopens, where the sequence number stays
pub stays_reopens : (f : Form) (a c : List ℕ) → Accept a → form_of a ≡ f → StaysAccepted f a c → ((i : ℕ) → 48 ≤ i → i < 52 → slice_index c i ≡ slice_index a i) → Reopens a c
stays_reopens f a c A is stays number =
    let form : form_of c ≡ f = stays.accepted.form in
    let accepted : Accept c = subst (λ g. AcceptWith g c []) (sym form) stays.accepted in
    let opens = accepted_opens c accepted in
    let seq : sequence_of c ≡ sequence_of a =
    ap (λ g. word g.order c 48) form ∙ word_agrees f.order c a 48 (λ i from to. number i from (omega (arith, to))) ∙ ap (λ g. word g.order a 48) (sym is) in
    record {
      opens = record { opens = opens.opens; holds = λ key. opens.holds key ∙ ap (λ g. map_of g c key) form ∙ stays.same_map key ∙ ap (λ g. map_of g a key) (sym is) };
      again = inl accepted.shut;
      sequence = ap sequence_of (read_as_it_is (form_of c) c accepted.shut) ∙ seq;
    }

pub stays_itself : (f : Form) (a : List ℕ) → AcceptWith f a [] → StaysAccepted f a a
stays_itself f a A = record { accepted = A; same_chains = λ k low. refl; same_free = refl; same_order = refl; same_map = λ key. refl }

pub stays_further : (f : Form) (a b c : List ℕ) → StaysAccepted f a b → StaysAccepted f b c → StaysAccepted f a c
stays_further f a b c one two = record {
  accepted = two.accepted;
  same_chains = λ k low. two.same_chains k low ∙ one.same_chains k low;
  same_free = two.same_free ∙ one.same_free;
  same_order = two.same_order ∙ one.same_order;
  same_map = λ key. two.same_map key ∙ one.same_map key;
}

-- a file that has an undo area
module _ (f : Form) (a : List ℕ) (A : AcceptWith f a []) (some : word f.order a 44 ≡ 0 → ⊥) where
  abbrev x : ℕ
  x = area_at f a

  abbrev n : ℕ
  n = rec_len_of f.order a (area_at f a)

  pub place : AreaInPlace f a (area_at f a)
  place = elim A.area_ok [ inl none ↦ absurd (some none) | inr there ↦ there ]

  pub gate : magic_of f.order a (area_at f a) ≡ GATE_SHUT
  gate = elim A.shut [ inl none ↦ absurd (some none) | inr shut ↦ shut ]

  -- its content may be any
  in_content : (c : List ℕ) → length c ≡ length a → ((i : ℕ) → (i < x + 24) ⊎ (x + 24 + n ≤ i) → slice_index c i ≡ slice_index a i) → InContent f a c
  in_content c size same = record {
    some = some;
    size = size;
    others = λ i out. same i (elim out [ inl low ↦ inl (omega (arith, low)) | inr high ↦ inr high ]);
    rec_len = word_agrees f.order c a (x + 4) (λ i from to. same i (inl (omega (arith, to))));
    shut = word_agrees f.order c a (x + 20) (λ i from to. same i (inl (omega (arith, to)))) ∙ gate;
  }

  pub content_stays : (c : List ℕ) → length c ≡ length a → ((i : ℕ) → (i < x + 24) ⊎ (x + 24 + n ≤ i) → slice_index c i ≡ slice_index a i) → StaysAccepted f a c
  content_stays c size same = content_free f a c A (in_content c size same)

  -- once its content is 0, words of its header may become 0
  pub header_stays : (b c : List ℕ) → length b ≡ length a → ((i : ℕ) → (i < x + 24) ⊎ (x + 24 + n ≤ i) → slice_index b i ≡ slice_index a i) → ((i : ℕ) → x + 24 ≤ i → i < x + 24 + n → slice_index b i ≡ 0)
      → HeaderTouched f.order x b c → StaysAccepted f b c
  header_stays b c size same zeros t =
      let B = content_stays b size same in
      let there : word f.order b 44 ≡ x = word_agrees f.order b a 44 (λ i from to. same i (inl (omega (arith, to, place.above)))) in
      let rec_len : rec_len_of f.order b x ≡ n = word_agrees f.order b a (x + 4) (λ i from to. same i (inl (omega (arith, to)))) in
      let shut : magic_of f.order c x ≡ GATE_SHUT = word_agrees f.order c b (x + 20) (λ i from to. t.others i (inr from)) ∙ word_agrees f.order b a (x + 20) (λ i from to. same i (inl (omega (arith, to)))) ∙ gate in
      let m = rec_len_of f.order c x in
      let least : m ≤ n = elim t.len [ inl old ↦ omega (arith, old, rec_len) | inr none ↦ omega (arith, none) ] in
      area_set_stays f b c x m B.accepted (record {
        size = t.size;
        there = word_agrees f.order c b 44 (λ i from to. t.others i (inl (omega (arith, to, place.above)))) ∙ there;
        rec_len = refl;
        shut = shut;
        aligned = place.aligned;
        len_aligned = elim t.len [ inl old ↦ ap (λ k. k % 4) (old ∙ rec_len) ∙ place.len_aligned | inr none ↦ ap (λ k. k % 4) none ];
        above = place.above;
        within = omega (arith, least, place.within, size);
        beside = λ i out apart. t.others i (elim apart [ inl low ↦ inl low | inr high ↦ inr (omega (arith, high)) ]);
        left = λ i held apart. left_zero b c there rec_len zeros t i held apart;
        apart = λ i low high. apart_there b B.accepted there rec_len i low (omega (arith, high, least));
      })
    where
      held_in : (b : List ℕ) → word f.order b 44 ≡ x → rec_len_of f.order b x ≡ n → (i : ℕ) → 1 ≤ times (area f.order b) i → (x ≤ i) × (i < x + 24 + n)
      held_in b there rec_len i held =
          let from = area_from f b i held in
          let len : rec_len_of f.order b (word f.order b 44) ≡ n = ap (rec_len_of f.order b) there ∙ rec_len in
          (omega (arith, from.0, there), elim (cases_lt i (x + 24 + n)) [ inl low ↦ low | inr high ↦ absurd (omega (arith, held, area_out f b i (inr (omega (arith, high, there, len))))) ])

      left_zero : (b c : List ℕ) → word f.order b 44 ≡ x → rec_len_of f.order b x ≡ n → ((i : ℕ) → x + 24 ≤ i → i < x + 24 + n → slice_index b i ≡ 0) → HeaderTouched f.order x b c
          → (i : ℕ) → 1 ≤ times (area f.order b) i → (i < x) ⊎ (x + 24 + rec_len_of f.order c x ≤ i) → slice_index b i ≡ 0
      left_zero b c there rec_len zeros t i held (inl low) = absurd (omega (arith, low, (held_in b there rec_len i held).0))
      left_zero b c there rec_len zeros t i held (inr high) = zeros i (omega (arith, high)) (held_in b there rec_len i held).1

      apart_there : (b : List ℕ) → AcceptWith f b [] → word f.order b 44 ≡ x → rec_len_of f.order b x ≡ n → (i : ℕ) → x ≤ i → i < x + 24 + n
          → times (joined f.chains (λ k. extents f.order b (chain_of f b k))) i + times (extents f.order b (free_of f b)) i ≡ 0
      apart_there b B there rec_len i low high =
          let len : rec_len_of f.order b (word f.order b 44) ≡ n = ap (rec_len_of f.order b) there ∙ rec_len in
          let one = area_in f b i (λ none. some (sym there ∙ none)) (omega (arith, low, there)) (omega (arith, high, there, len)) in
          omega (arith, area_apart f b B i, one)

-- the bytes of a word that is 0
bytes_zero : (o : Order) (img : List ℕ) (at : ℕ) → word o img at ≡ 0 → (j : ℕ) → j < 4 → slice_index img (at + j) ≡ 0
unfolding word
bytes_zero Little img at none zero low = let e : at + 0 ≡ at = omega arith in ap (slice_index img) e ∙ omega (arith, none)
bytes_zero Little img at none (suc zero) low = omega (arith, none)
bytes_zero Little img at none (suc (suc zero)) low = omega (arith, none)
bytes_zero Little img at none (suc (suc (suc zero))) low = omega (arith, none)
bytes_zero Little img at none (suc (suc (suc (suc j)))) low = absurd (omega (arith, low))
bytes_zero Big img at none zero low = let e : at + 0 ≡ at = omega arith in ap (slice_index img) e ∙ omega (arith, none)
bytes_zero Big img at none (suc zero) low = omega (arith, none)
bytes_zero Big img at none (suc (suc zero)) low = omega (arith, none)
bytes_zero Big img at none (suc (suc (suc zero))) low = omega (arith, none)
bytes_zero Big img at none (suc (suc (suc (suc j)))) low = absurd (omega (arith, low))

-- a file without an undo area
pub cleared_none : (f : Form) (a : List ℕ) → AcceptWith f a [] → word f.order a 44 ≡ 0 → IsCleared f a a
cleared_none f a A none = record {
  stays = stays_itself f a A;
  size = refl;
  there = refl;
  others = λ i _. refl;
  zeros = λ i held. absurd (omega (arith, held, no_area_held f a i none));
}

-- a file with one, at x with n bytes
module _ (f : Form) (h one two : History) (A : Accept (seen h)) (is : form_of (seen h) ≡ f) (x n : ℕ) (is_x : x ≡ area_at f (seen h)) (is_n : n ≡ rec_len_of f.order (seen h) (area_at f (seen h))) (above : 172 ≤ x) where
  abbrev a : List ℕ
  a = seen h

  accepted : AcceptWith f (seen h) []
  accepted = subst (λ g. AcceptWith g (seen h) []) is A

  some : word f.order (seen h) 44 ≡ 0 → ⊥
  some none = omega (arith, none, is_x, above)

  torn_same : (c : List ℕ) → ((i : ℕ) → lies_in (x + 24) n i ≡ false → slice_index c i ≡ slice_index a i) → (i : ℕ) → (i < area_at f a + 24) ⊎ (area_at f a + 24 + rec_len_of f.order a (area_at f a) ≤ i) → slice_index c i ≡ slice_index a i
  torn_same c same i out = same i (lies_not (x + 24) n i (elim out [ inl low ↦ inl (omega (arith, low, is_x)) | inr high ↦ inr (omega (arith, high, is_x, is_n)) ]))

  pub clear_one : Quiet h → LeavesOnly h one (TornIn (lies_in (x + 24) n) h) → LeavesOnly h one (Reopens (seen h))
  clear_one quiet torn = leaves_weaker h one (TornIn (lies_in (x + 24) n) h) (Reopens (seen h))
      (λ image t. (
      let same : (i : ℕ) → lies_in (x + 24) n i ≡ false → slice_index image i ≡ slice_index a i = λ i out. t.2.others i out ∙ ap (λ l. slice_index l i) (quiet t.0 t.1) in
      stays_reopens f a image A is (content_stays f a accepted some image (t.2.size ∙ ap length (quiet t.0 t.1)) (torn_same image same))
      (λ i from to. same i (lies_not (x + 24) n i (inl (omega (arith, to, above))))))) torn

  content_put : Put (lies_in (x + 24) n) (λ _. 0) (seen h) (seen one) → (i : ℕ) → (i < area_at f a + 24) ⊎ (area_at f a + 24 + rec_len_of f.order a (area_at f a) ≤ i) → slice_index (seen one) i ≡ slice_index a i
  content_put put = torn_same (seen one) put.others

  content_zero : Put (lies_in (x + 24) n) (λ _. 0) (seen h) (seen one) → (i : ℕ) → area_at f a + 24 ≤ i → i < area_at f a + 24 + rec_len_of f.order a (area_at f a) → slice_index (seen one) i ≡ 0
  content_zero put i from to = put.inside i (lies (x + 24) n i (omega (arith, from, is_x)) (omega (arith, to, is_x, is_n)))

  both_stay : Put (lies_in (x + 24) n) (λ _. 0) (seen h) (seen one) → (c : List ℕ) → HeaderTouched f.order x (seen one) c → StaysAccepted f a c
  both_stay put c t =
      stays_further f a (seen one) c (content_stays f a accepted some (seen one) put.size (content_put put))
      (header_stays f a accepted some (seen one) c put.size (content_put put) (content_zero put) (subst (λ q. HeaderTouched f.order q (seen one) c) is_x t))

  pub clear_two : Quiet h → LeavesOnly h one (TornIn (lies_in (x + 24) n) h) → Put (lies_in (x + 24) n) (λ _. 0) (seen h) (seen one) → LeavesOnly one two (HeaderTouched f.order x (seen one)) → LeavesOnly h two (Reopens (seen h))
  clear_two quiet torn put touched =
      leaves_join h one two (Reopens (seen h)) (clear_one quiet torn)
      (leaves_weaker one two (HeaderTouched f.order x (seen one)) (Reopens (seen h))
      (λ image t. stays_reopens f a image A is (both_stay put image t) (λ i from to. t.others i (inl (omega (arith, to, above))) ∙ put.others i (lies_not (x + 24) n i (inl (omega (arith, to, above)))))) touched)

  pub cleared_some : Put (lies_in (x + 24) n) (λ _. 0) (seen h) (seen one) → Put (lies_in x 20) (λ _. 0) (seen one) (seen two) → IsCleared f (seen h) (seen two)
  cleared_some put header = record {
    stays = both_stay put (seen two) (record {
      size = header.size;
      others = λ i out. header.others i (lies_not x 20 i out);
      len = inr (word_zero f.order (seen two) (x + 4) (λ i from to. header.inside i (lies x 20 i (omega (arith, from)) (omega (arith, to)))));
    });
    size = header.size ∙ put.size;
    there = word_agrees f.order (seen two) a 44 (λ i from to. header.others i (lies_not x 20 i (inl (omega (arith, to, above)))) ∙ put.others i (lies_not (x + 24) n i (inl (omega (arith, to, above)))));
    others = λ i free. outside i (area_not f a i some free);
    zeros = λ i held. inside i (held_from i held) (held_to i held);
  }
    where
      outside : (i : ℕ) → (i < area_at f a) ⊎ (area_end f a ≤ i) → slice_index (seen two) i ≡ slice_index a i
      outside i apart =
          header.others i (lies_not x 20 i (elim apart [ inl low ↦ inl (omega (arith, low, is_x)) | inr high ↦ inr (omega (arith, high, is_x)) ]))
          ∙ put.others i (lies_not (x + 24) n i (elim apart [ inl low ↦ inl (omega (arith, low, is_x)) | inr high ↦ inr (omega (arith, high, is_x, is_n)) ]))

      held_from : (i : ℕ) → 1 ≤ times (area f.order a) i → x ≤ i
      held_from i held = omega (arith, (area_from f a i held).0, is_x)

      held_to : (i : ℕ) → 1 ≤ times (area f.order a) i → i < x + 24 + n
      held_to i held = elim (cases_lt i (x + 24 + n)) [ inl low ↦ low | inr high ↦ absurd (omega (arith, held, area_out f a i (inr (omega (arith, high, is_x, is_n))))) ]

      gate_zero : (i : ℕ) → x + 20 ≤ i → i < x + 24 → slice_index a i ≡ 0
      gate_zero i from to = ap (slice_index a) (let e : i ≡ area_at f a + 20 + (i - (area_at f a + 20)) = omega (arith, from, is_x) in e) ∙ bytes_zero f.order a (area_at f a + 20) (gate f a accepted some) (i - (area_at f a + 20)) (omega (arith, from, to, is_x))

      inside : (i : ℕ) → x ≤ i → i < x + 24 + n → slice_index (seen two) i ≡ 0
      inside i from to = elim (cases_lt i (x + 20)) [
        | inl head ↦ header.inside i (lies x 20 i from head)
        | inr past ↦ header.others i (lies_not x 20 i (inr past)) ∙ elim (cases_lt i (x + 24)) [
          | inl word_there ↦ put.others i (lies_not (x + 24) n i (inl word_there)) ∙ gate_zero i past word_there
          | inr content ↦ put.inside i (lies (x + 24) n i content to)
        ]
      ]

-- an accepted file has no fault in the place of its undo area
pub accepted_no_fault : (f : Form) (a : List ℕ) → AcceptWith f a [] → (e : Fault) → place_fault f a ≡ Some e → ⊥
accepted_no_fault f a A e bad = elim (cases_eq (word f.order a 44) 0) [
  | inl none ↦ (let h : None ≡ Some e = sym (rw (eq-eqb (word f.order a 44) 0 none) refl) ∙ bad in cc)
  | inr some ↦ (
      let p = place f a A some in
      let none : place_fault f a ≡ None =
      rw (ne_eqb (word f.order a 44) 0 some)
      (rw (stands_to f a (area_at f a) p.aligned p.above (omega (arith, p.within)))
      (rw (long_to f a (area_at f a) p.len_aligned p.within)
      (rw (eq-eqb (magic_of f.order a (area_at f a)) GATE_SHUT (gate f a A some)) (shut_tests (magic_of f.order a (area_at f a) == GATE_OPEN) (AreaBad, area_at f a + 20))))) in
      let h : None ≡ Some e = sym none ∙ bad in
      cc)
]
  where
    shut_tests : (b : Bool) (fault : Fault) → (if not b && false then Some fault else None) ≡ None
    shut_tests true fault = refl
    shut_tests false fault = refl

-- to make an area zero takes two syncs, and none where there is no area
pub clears_twice : (o : Order) (a : List ℕ) (before now : ℕ) → (word o a area_head ≡ 0 → ⊥) → RoseBy 2 before now → RoseBy (clearing_syncs o a) before now
clears_twice o a before now some rose = rw (ne_eqb (word o a area_head) 0 some) rose

pub clears_never : (o : Order) (a : List ℕ) (before : ℕ) → word o a area_head ≡ 0 → RoseBy (clearing_syncs o a) before before
clears_never o a before none = rw none (record { no_less = omega (arith); no_more = omega (arith); never_falls = omega (arith) })
