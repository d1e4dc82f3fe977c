-- What the walks along all lists leave, together.
use Rattle.std.proofs.Common.{◌≡◌, ℕ, zero, suc, ◌+◌, ◌-◌, ◌<◌, Bool, List, [], ◌∷◌, ◌++◌, length, cond, count_by, length-append, refl, sym, ◌∙◌, ap, subst, inl, inr, arith}
use Rattle.std.specs.Prelude.{◌==◌}
use Rattle.std.proofs.lemmas.Bool.{eq-eqb, ne_eqb}
use Rattle.std.proofs.lemmas.List.{length-map}
use Rattle.std.proofs.lemmas.List.Sums.{sum_by-append, sum_by-cons}
use Rattle.tdb_words.specs.declared.record.TheConstants.{USED, DEAD}
use Rattle.tdb_words.specs.declared.word.Order.{Order}
use Rattle.tdb_words.specs.Word.{word}
use Rattle.tdb_space.specs.Form.{Form, chain_head, free_head}
use Rattle.tdb_space.specs.Record.{IsChained, IsFree, magic_of}
use Rattle.tdb_space.specs.Chain.{Linked, chain_of, free_of}
use Rattle.tdb_space.specs.Pairs.{joined, pair_of, pairs, order_of}
use Rattle.tdb_space.specs.Extents.{times, extents}
use Rattle.tdb_space.specs.FirstFault.{chain_number, free_list, Sound}
use Rattle.tdb_space.proofs.Extents.Counts.{times-append}
use Rattle.tdb_space.proofs.FirstFault.Passed.{sound_listed}
use Rattle.tdb_space.proofs.Chain.Walks.{walk_meets}
use Rattle.tdb_check.specs.declared.extent.Extent.{Extent}
use Rattle.tdb_check.specs.declared.lists.Listed.{Listed}
use Rattle.tdb_check.specs.Chains.{Shows, ChainsFollowed, chain_extents}
use Rattle.tdb_check.specs.Extent.{extent_seen, extents_seen}
use Rattle.tdb_check.specs.Followed.{FollowedTo}
use Rattle.tdb_check.specs.Lists.{AllChainsSound, ListsFollowed, listed_extents}
use Rattle.tdb_check.specs.Report.{chained}
use Rattle.tdb_check.specs.Stray.{NoOverlapAmong}
use Rattle.tdb_check.proofs.Among.{shows_more, shown_whole}
use Rattle.tdb_check.proofs.Still.{still_then}

-- the records of a sound list are those that the words lead to
chain_linked : (f : Form) (j : ℕ) (img : List ℕ) → Sound f (chain_number j) img (chain_head j) → Linked f IsChained img (word f.order img (chain_head j)) (chain_of f img j)
chain_linked f j img s =
    let l = sound_listed f (chain_number j) img (chain_head j) s in
    subst (Linked f IsChained img (word f.order img (chain_head j))) (sym (walk_meets f IsChained img (word f.order img (chain_head j)) s.0 l.linked)) l.linked

free_met : (f : Form) (img : List ℕ) (s : Sound f free_list img free_head) → free_of f img ≡ s.0
free_met f img s = walk_meets f IsFree img (word f.order img free_head) s.0 (sound_listed f free_list img free_head s).linked

-- a record has one extent
length-extents : (o : Order) (img xs : List ℕ) → length (extents o img xs) ≡ length xs
length-extents o img [] = refl
length-extents o img (x ∷ xs) = ap suc (length-extents o img xs)

-- lists of the same lengths, joined
joined_long : {A B : Type 0} (n : ℕ) (F : ℕ → List A) (G : ℕ → List B) → ((j : ℕ) → j < n → length (F j) ≡ length (G j)) → length (joined n F) ≡ length (joined n G)
joined_long zero F G same = refl
joined_long (suc n) F G same = omega (arith, length-append (joined n F) (F n), length-append (joined n G) (G n), joined_long n F G (λ j low. same j (omega arith)), same n (omega arith))

-- a record of a chain is used and has a pair, or is dead
chain_counted : (f : Form) (img : List ℕ) (at : ℕ) (xs : List ℕ) → Linked f IsChained img at xs → length xs ≡ length (pairs f.order img xs) + count_by (λ x. magic_of f.order img x == DEAD) xs
chain_counted f img at [] l = refl
chain_counted f img at (x ∷ xs) l =
    let rest = chain_counted f img (word f.order img x) xs l.3 in
    let both = length-append (pair_of f.order img x) (pairs f.order img xs) in
    let count = sum_by-cons (λ y. cond (magic_of f.order img y == DEAD) 1 0) x xs in
    elim l.2 [
      | inl used ↦
          let one : ◌≡◌ {A = ℕ} (length (pair_of f.order img x)) 1 = rw (eq-eqb (magic_of f.order img x) USED used) refl in
          let none : ◌≡◌ {A = ℕ} (cond (magic_of f.order img x == DEAD) 1 0) 0 = rw (ne_eqb (magic_of f.order img x) DEAD (λ dead. absurd (omega (arith, used, dead)))) refl in
          omega (arith, rest, both, count, one, none)
      | inr dead ↦
          let none : ◌≡◌ {A = ℕ} (length (pair_of f.order img x)) 0 = rw (ne_eqb (magic_of f.order img x) USED (λ used. absurd (omega (arith, used, dead)))) refl in
          let one : ◌≡◌ {A = ℕ} (cond (magic_of f.order img x == DEAD) 1 0) 1 = rw (eq-eqb (magic_of f.order img x) DEAD dead) refl in
          omega (arith, rest, both, count, one, none)
    ]

joined_counted : {A : Type 0} (n : ℕ) (F : ℕ → List ℕ) (G : ℕ → List A) (p : ℕ → Bool) → ((j : ℕ) → j < n → length (F j) ≡ length (G j) + count_by p (F j)) → length (joined n F) ≡ length (joined n G) + count_by p (joined n F)
joined_counted zero F G p each = refl
joined_counted (suc n) F G p each =
    omega (
      arith,
      length-append (joined n F) (F n),
      length-append (joined n G) (G n),
      sum_by-append (λ y. cond (p y) 1 0) (joined n F) (F n),
      joined_counted n F G p (λ j low. each j (omega arith)),
      each n (omega arith),
    )

-- of the records of sound chains those that aren't used are dead
chains_counted : (f : Form) (img : List ℕ) → AllChainsSound f img → length (chain_extents f img) ≡ length (order_of f img) + count_by (λ x. magic_of f.order img x == DEAD) (chained f img)
chains_counted f img sound =
    joined_long f.chains (λ j. extents f.order img (chain_of f img j)) (chain_of f img) (λ j low. length-extents f.order img (chain_of f img j))
    ∙ joined_counted f.chains (chain_of f img) (λ j. pairs f.order img (chain_of f img j)) (λ x. magic_of f.order img x == DEAD)
    (λ j low. chain_counted f img (word f.order img (chain_head j)) (chain_of f img j) (chain_linked f j img (sound j low)))

-- so many dead records were put down, where no byte is held twice
dead_counted : (f : Form) (img : List ℕ) (mid : List Extent) (live : ℕ) → ChainsFollowed f img [] mid live → NoOverlapAmong (extents_seen mid) → length mid - live ≡ count_by (λ x. magic_of f.order img x == DEAD) (chained f img)
dead_counted f img mid live h apart =
    let whole : length (extents_seen mid) ≡ length (chain_extents f img) = ap length (shown_whole (extents_seen mid) (chain_extents f img) h.shows apart) in
    omega (arith, whole, length-map mid extent_seen, chains_counted f img h.sound, h.used)

pub lists_followed : (f : Form) (img : List ℕ) (old mid : List Extent) (live chained : ℕ) (l : Listed) {f2 : Form} {img2 : List ℕ} → old ≡ [] → ChainsFollowed f img old mid live → f2 ≡ f → img2 ≡ img → FollowedTo f2 free_list img2 free_head mid l.extents.items → chained ≡ length mid → l.live ≡ live → l.dead ≡ chained - live → l.free ≡ length l.extents.items - chained → ListsFollowed f img l
lists_followed f img old mid live chained l none walked form image freed long is_live is_dead is_free =
    let h : ChainsFollowed f img [] mid live = subst (λ es. ChainsFollowed f img es mid live) none walked in
    let (xs, last, passed, ends, seen) = still_then (λ g i. FollowedTo g free_list i free_head mid l.extents.items) form image freed in
    let frees : Sound f free_list img free_head = (xs, last, passed, ends) in
    let met : free_of f img ≡ xs = free_met f img frees in
    let all : extents_seen l.extents.items ≡ extents_seen mid ++ extents f.order img (free_of f img) = seen ∙ ap (λ ys. extents_seen mid ++ extents f.order img ys) (sym met) in
    record {
      chains = h.sound;
      frees = frees;
      shows = subst (λ es. Shows es (listed_extents f img)) (sym all) (shows_more (extents_seen mid) (chain_extents f img) (extents f.order img (free_of f img)) h.shows);
      live = is_live ∙ h.used;
      dead = λ apart. is_dead ∙ ap (λ n. n - live) long
          ∙ dead_counted f img mid live h (λ i. omega (arith, apart i, ap (λ es. times es i) all, times-append (extents_seen mid) (extents f.order img (free_of f img)) i));
      free = omega (
        arith,
        is_free,
        long,
        ap length all,
        length-append (extents_seen mid) (extents f.order img (free_of f img)),
        length-map mid extent_seen,
        length-map l.extents.items extent_seen,
        length-extents f.order img (free_of f img),
      );
    }
