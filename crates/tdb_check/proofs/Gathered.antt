-- A file whose records and undo area stand one after the other, where its lists have just these records, and no key
-- comes twice: it is accepted, and its records are counted.
use Rattle.std.proofs.Common.{◌≡◌, ℕ, zero, suc, ◌+◌, ◌-◌, ◌<◌, ◌≤◌, Bool, false, Option, None, List, [], ◌∷◌, ◌++◌, length, cond, count_by, length-append, refl, sym, ◌∙◌, ap, subst, inl, inr, arith}
use Rattle.std.specs.Prelude.{◌==◌, if◌then◌else◌, sum_by}
use Rattle.std.specs.List.{AllByRecursion, range_with_len}
use Rattle.std.proofs.lemmas.Bool.{cases_eq, eq-eqb, ne_eqb}
use Rattle.std.proofs.lemmas.List.Sums.{sum_by-cons}
use Rattle.tdb_words.specs.declared.record.TheConstants.{USED, DEAD}
use Rattle.tdb_words.specs.declared.word.Order.{Order}
use Rattle.tdb_words.specs.Word.{word}
use Rattle.tdb_space.specs.Form.{Form, form_of, data_start, chain_head, free_head}
use Rattle.tdb_space.specs.Record.{IsChained, IsFree, magic_of, next_of}
use Rattle.tdb_space.specs.Chain.{Linked, chain_of, free_of}
use Rattle.tdb_space.specs.Pairs.{joined, pair_of, pairs}
use Rattle.tdb_space.specs.Extents.{once, times, extent_at, extents, area, all_extents}
use Rattle.tdb_space.specs.Accepted.{AllFiled, KeysDiffer, LaidOut, Accept}
use Rattle.tdb_space.specs.FirstFault.{chain_number, free_list, HeadsSound, extents_of}
use Rattle.tdb_space.proofs.Extents.Counts.{lies, below, above, where_is, once_in, joined_same, times_all}
use Rattle.tdb_space.proofs.Pairs.Listed.{pairs-append}
use Rattle.tdb_space.proofs.Accepted.Laid.{accepted, chains_met, free_met, order_met}
use Rattle.tdb_space.proofs.FirstFault.Agreed.{front_ok, area_ok, chains_some}
use Rattle.tdb_check.specs.declared.extent.Extent.{Extent}
use Rattle.tdb_check.specs.declared.keys.Keys.{Keys}
use Rattle.tdb_check.specs.declared.all_links.AllLinks.{AllLinks}
use Rattle.tdb_check.specs.Area.{area_seen}
use Rattle.tdb_check.specs.InSequence.{ListFrom}
use Rattle.tdb_check.specs.Links.{is_used, is_unused, PutDown, AreLists, Tiled, GatheredTo}
use Rattle.tdb_check.specs.Report.{Counted, chained, bytes_held_by_none}
use Rattle.tdb_check.proofs.Weights.{sum_member, times_weight, times_joined, differ_lighter, length_sum}
use Rattle.tdb_check.proofs.Gaps.{count_no}

-- the records of a chain are linked, and filed where they are used
chain_linked : (f : Form) (j : ℕ) (img : List ℕ) (at : ℕ) (xs : List ℕ) → ListFrom f (chain_number j) img at xs → Linked f IsChained img at xs
chain_linked f j img at [] p = p
chain_linked f j img at (x ∷ xs) p = (p.0, p.1.whole, p.1.magic, chain_linked f j img (next_of f.order img x) xs p.2)

chain_filed : (f : Form) (j : ℕ) (img : List ℕ) (at : ℕ) (xs : List ℕ) → ListFrom f (chain_number j) img at xs → AllFiled f img j xs
chain_filed f j img at [] p = tt
chain_filed f j img at (x ∷ xs) p = (p.1.filed.1, chain_filed f j img (next_of f.order img x) xs p.2)

-- and those of the free list are linked
free_linked : (f : Form) (img : List ℕ) (at : ℕ) (xs : List ℕ) → ListFrom f free_list img at xs → Linked f IsFree img at xs
free_linked f img at [] p = p
free_linked f img at (x ∷ xs) p = (p.0, p.1.whole, p.1.magic, free_linked f img (next_of f.order img x) xs p.2)

-- records of chains
abbrev AllChained : Order → List ℕ → List ℕ → Type 0
AllChained o img xs = AllByRecursion (λ x. IsChained (magic_of o img x)) xs

-- those of a chain are
chain_magics : (f : Form) (img : List ℕ) (at : ℕ) (xs : List ℕ) → Linked f IsChained img at xs → AllChained f.order img xs
chain_magics f img at [] p = tt
chain_magics f img at (x ∷ xs) p = (p.2, chain_magics f img (next_of f.order img x) xs p.3)

-- two such lists, one after the other
chained_append : (o : Order) (img xs ys : List ℕ) → AllChained o img xs → AllChained o img ys → AllChained o img (xs ++ ys)
chained_append o img [] ys p q = q
chained_append o img (x ∷ xs) ys p q = (p.0, chained_append o img xs ys p.1 q)

-- and more of them
chained_joined : (o : Order) (img : List ℕ) (n : ℕ) (F : ℕ → List ℕ) → ((j : ℕ) → j < n → AllChained o img (F j)) → AllChained o img (joined n F)
chained_joined o img zero F each = tt
chained_joined o img (suc n) F each = chained_append o img (joined n F) (F n) (chained_joined o img n F (λ j low. each j (omega arith))) (each n (omega arith))

-- each used record has a pair
used_pairs : (o : Order) (img xs : List ℕ) → length (pairs o img xs) ≡ sum_by (is_used o img) xs
used_pairs o img [] = refl
used_pairs o img (x ∷ xs) =
    elim (cases_eq (magic_of o img x) USED) [
      | inl used ↦
          let one : ◌≡◌ {A = ℕ} (length (pair_of o img x)) 1 = rw (eq-eqb (magic_of o img x) USED used) refl in
          let weight : is_used o img x ≡ 1 = rw (eq-eqb (magic_of o img x) USED used) refl in
          omega (arith, length-append (pair_of o img x) (pairs o img xs), one, weight, used_pairs o img xs, sum_by-cons (is_used o img) x xs)
      | inr other ↦
          let none : ◌≡◌ {A = ℕ} (length (pair_of o img x)) 0 = rw (ne_eqb (magic_of o img x) USED other) refl in
          let weight : is_used o img x ≡ 0 = rw (ne_eqb (magic_of o img x) USED other) refl in
          omega (arith, length-append (pair_of o img x) (pairs o img xs), none, weight, used_pairs o img xs, sum_by-cons (is_used o img) x xs)
    ]

-- a record of a chain that isn't used is dead
unused_dead : (o : Order) (img xs : List ℕ) → AllChained o img xs → count_by (λ x. magic_of o img x == DEAD) xs ≡ sum_by (is_unused o img) xs
unused_dead o img [] all = refl
unused_dead o img (x ∷ xs) all =
    let rest = unused_dead o img xs all.1 in
    let counts = sum_by-cons (λ y. cond (magic_of o img y == DEAD) 1 0) x xs in
    let weights = sum_by-cons (is_unused o img) x xs in
    elim all.0 [
      | inl used ↦
          let none : ◌≡◌ {A = ℕ} (cond (magic_of o img x == DEAD) 1 0) 0 = rw (ne_eqb (magic_of o img x) DEAD (λ dead. absurd (omega (arith, used, dead)))) refl in
          let weight : is_unused o img x ≡ 0 = rw (eq-eqb (magic_of o img x) USED used) refl in
          omega (arith, rest, counts, weights, none, weight)
      | inr dead ↦
          let one : ◌≡◌ {A = ℕ} (cond (magic_of o img x == DEAD) 1 0) 1 = rw (eq-eqb (magic_of o img x) DEAD dead) refl in
          let weight : is_unused o img x ≡ 1 = rw (ne_eqb (magic_of o img x) USED (λ used. absurd (omega (arith, used, dead)))) refl in
          omega (arith, rest, counts, weights, one, weight)
    ]

-- the pairs of lists are those of the joined list
pairs_joined : (o : Order) (img : List ℕ) (n : ℕ) (F : ℕ → List ℕ) → joined n (λ j. pairs o img (F j)) ≡ pairs o img (joined n F)
pairs_joined o img zero F = refl
pairs_joined o img (suc n) F = ap (λ ps. ps ++ pairs o img (F n)) (pairs_joined o img n F) ∙ sym (pairs-append o img (joined n F) (F n))

-- bytes from an offset on, each held once at most
once_most : (at n i : ℕ) → once (at, n) i ≤ 1
once_most at n i = elim (where_is (at, n) i) [ lies _ _ one ↦ omega (arith, one) | below _ none ↦ omega (arith, none) | above _ none ↦ omega (arith, none) ]

-- the file, what was gathered of it, and that its lists have just these records
module _ (img : List ℕ) (undo : Option Extent) (a : AllLinks) (keys : Keys) (heads : HeadsSound img) (there : area_seen undo ≡ area (form_of img).order img) (g : GatheredTo (form_of img) img undo None a keys (length img)) (l : AreLists (form_of img) img a) (differ : KeysDiffer (form_of img) img g.xs) where
  -- the form that its header states
  abbrev f : Form
  f = form_of img

  -- the lists weigh as much as the records
  same : (w : ℕ → ℕ) → sum_by w (joined f.chains l.chain) + sum_by w l.free ≡ sum_by w g.xs
  same w = omega (arith, l.chained w, l.freed w, g.put.same w)

  -- they and the undo area hold each byte from the data start to the end once, and no other
  held_once : (i : ℕ) → times (all_extents f img l.chain l.free []) i ≡ once (data_start f, length img - data_start f) i
  held_once i =
      let undo_area : times (area_seen undo) i ≡ times (area f.order img) i = ap (λ es. times es i) there in
      omega (
        arith,
        times_all f img l.chain l.free [] i,
        times_joined f.order img i f.chains l.chain,
        times_weight f.order img i l.free,
        times_weight f.order img i g.xs,
        same (λ x. once (extent_at f.order img x) i),
        g.tiled i,
        undo_area,
      )

  held_there : (i : ℕ) → data_start f ≤ i → i < length img → times (all_extents f img l.chain l.free []) i ≡ 1
  held_there i high low = held_once i ∙ once_in (data_start f, length img - data_start f) i high (omega (arith, high, low))

  -- each chain is the list from its head
  chain_is : (j : ℕ) → j < f.chains → Linked f IsChained img (word f.order img (chain_head j)) (l.chain j)
  chain_is j low = chain_linked f j img (word f.order img (chain_head j)) (l.chain j) (l.chains j low)

  -- the file is laid out in these lists
  laid : LaidOut f img l.chain l.free []
  laid =
      let front = front_ok img heads.0 in
      let shut = area_ok f img heads.1 in
      record {
        header = front.header;
        form = refl;
        some = chains_some img front.header.no_fault;
        sized = front.sized;
        long = front.long;
        area_ok = shut.0;
        shut = shut.1;
        chains = chain_is;
        frees = free_linked f img (word f.order img free_head) l.free l.frees;
        filed = λ j low. chain_filed f j img (word f.order img (chain_head j)) (l.chain j) (l.chains j low);
        keys = λ j low. differ_lighter f.order img g.xs (l.chain j) differ (λ w. omega (arith, sum_member w l.chain j f.chains low, same w));
        held = tt;
        apart = λ i. omega (arith, held_once i, once_most (data_start f) (length img - data_start f) i);
        stray = λ i high low none. absurd (omega (arith, none, held_there i high low));
      }

  -- the records of the chains
  chains_chained : AllChained f.order img (joined f.chains l.chain)
  chains_chained = chained_joined f.order img f.chains l.chain (λ j low. chain_magics f img (word f.order img (chain_head j)) (l.chain j) (chain_is j low))

  -- the computed chains are these
  chained_met : chained f img ≡ joined f.chains l.chain
  chained_met = joined_same f.chains (chain_of f img) l.chain (chains_met f img l.chain l.free [] laid)

  -- and the computed lists hold the same bytes
  extents_met : (i : ℕ) → times (extents_of img) i ≡ times (all_extents f img l.chain l.free []) i
  extents_met i =
      let chains : joined f.chains (λ j. extents f.order img (chain_of f img j)) ≡ joined f.chains (λ j. extents f.order img (l.chain j)) = joined_same f.chains (λ j. extents f.order img (chain_of f img j)) (λ j. extents f.order img (l.chain j)) (λ j low. ap (extents f.order img) (chains_met f img l.chain l.free [] laid j low)) in
      let frees : times (extents f.order img (free_of f img)) i ≡ times (extents f.order img l.free) i = ap (λ ys. times (extents f.order img ys) i) (free_met f img l.chain l.free [] laid) in
      omega (arith, times_all f img (chain_of f img) (free_of f img) [] i, times_all f img l.chain l.free [] i, ap (λ es. times es i) chains, frees)

  -- so no byte from the data start on is held by none
  all_held : bytes_held_by_none img ≡ 0
  all_held =
      count_no (λ i. times (extents_of img) i == 0) (data_start f) (length img - data_start f) (λ i high low.
      ne_eqb (times (extents_of img) i) 0 (λ none. absurd (omega (arith, none, extents_met i, held_there i high (omega (arith, high, low))))))

  -- the file is accepted, and these are its counts
  pub met_accepted : Accept img × Counted img (record { live = a.live; dead_records = a.dead; free_records = a.free_records; dead_bytes = 0; area = sum_by (λ e. e.1) (area_seen undo) })
  met_accepted = (
    accepted f img l.chain l.free [] laid,
    record {
      live = omega (
        arith,
        g.put.live,
        l.chained (is_used f.order img),
        ap length (order_met f img l.chain l.free [] laid),
        ap length (pairs_joined f.order img f.chains l.chain),
        used_pairs f.order img (joined f.chains l.chain),
      );
      dead_records = g.put.dead ∙ l.chained (is_unused f.order img) ∙ sym (ap (count_by (λ x. magic_of f.order img x == DEAD)) chained_met ∙ unused_dead f.order img (joined f.chains l.chain) chains_chained);
      free_records = g.put.free_records ∙ l.freed (λ _. 1) ∙ sym (length_sum l.free) ∙ ap length (sym (free_met f img l.chain l.free [] laid));
      dead_bytes = sym all_held;
      area = ap (sum_by (λ e. e.1)) there;
    },
  )

-- the same by a form that is the image's, and by a length that is
pub accepted_in_sequence : (f : Form) (img : List ℕ) (len : ℕ) (undo : Option Extent) (a : AllLinks) (keys : Keys) → length img ≡ len → f ≡ form_of img → HeadsSound img → area_seen undo ≡ area f.order img → (g : GatheredTo f img undo None a keys len) → AreLists f img a → KeysDiffer f img g.xs
    → Accept img × Counted img (record { live = a.live; dead_records = a.dead; free_records = a.free_records; dead_bytes = 0; area = sum_by (λ e. e.1) (area_seen undo) })
accepted_in_sequence f img len undo a keys long form heads =
    subst (λ n. area_seen undo ≡ area f.order img → (g : GatheredTo f img undo None a keys n) → AreLists f img a → KeysDiffer f img g.xs → Accept img × Counted img (record { live = a.live; dead_records = a.dead; free_records = a.free_records; dead_bytes = 0; area = sum_by (λ e. e.1) (area_seen undo) }))
    long
    (subst (λ h. area_seen undo ≡ area h.order img → (g : GatheredTo h img undo None a keys (length img)) → AreLists h img a → KeysDiffer h img g.xs → Accept img × Counted img (record { live = a.live; dead_records = a.dead; free_records = a.free_records; dead_bytes = 0; area = sum_by (λ e. e.1) (area_seen undo) }))
    (sym form) (λ there g l differ. met_accepted img undo a keys heads there g l differ))
