-- A list is sound exactly where it is linked, each used record is filed in it, and no offset and no key comes twice.
use Rattle.std.proofs.Common.{◌≡◌, ℕ, ◌&&◌, Bool, true, false, List, [], ◌∷◌, ◌++◌, map, eqb, append_assoc, append-nil, refl, sym, ◌∙◌, ap, subst, inl, inr, arith}
use Rattle.std.specs.Prelude.{◌==◌}
use Rattle.std.specs.Cmp.{IsEquivalence}
use Rattle.std.specs.List.{IsDistinct, AllByRecursion, list_any}
use Rattle.std.proofs.lemmas.Bool.{eq-eqb, ne_eqb, cases_eq, false≢true}
use Rattle.std.proofs.lemmas.Cmp.{nat_eq_equiv, nat_list_eq_equiv}
use Rattle.std.proofs.lemmas.List.{map-append}
use Rattle.std.proofs.lemmas.Map.Keys.{IsDistinct-push}
use Rattle.tdb_words.specs.declared.record.TheConstants.{USED}
use Rattle.tdb_words.specs.declared.word.Order.{Order}
use Rattle.tdb_words.specs.Word.{word}
use Rattle.tdb_space.specs.Form.{Form}
use Rattle.tdb_space.specs.Record.{Fits, IsFree, magic_of, key_at}
use Rattle.tdb_space.specs.Chain.{Linked}
use Rattle.tdb_space.specs.Pairs.{pairs, same_key}
use Rattle.tdb_space.specs.Accepted.{Filed, AllFiled, KeysDiffer}
use Rattle.tdb_space.specs.FirstFault.{ListKind, chain_number, free_list, Passed, Sound, has_twin, is_misfiled}
use Rattle.tdb_space.proofs.Chain.Walks.{linked_distinct}
use Rattle.tdb_space.proofs.Pairs.Listed.{pairs-append}
use Rattle.tdb_space.proofs.Pairs.Maps.{pairs_used, pairs_other}
use Rattle.tdb_space.proofs.FirstFault.Cleared.{Clear, clear_from, clear_to, good_from, good_to, filed_from, filed_to, Marked}

-- what stands in front of an element of a list without two alike is not like it
each_front : {K : Type 0} {eq : K → K → Bool} → IsEquivalence eq → (x : K) (xs : List K) (b : K) (bs : List K) → AllByRecursion (λ y. eq x y ≡ false) (xs ++ b ∷ bs) → eq b x ≡ false
each_front laws x [] b bs h = laws.symm b x ∙ h.0
each_front laws x (y ∷ ys) b bs h = each_front laws x ys b bs h.1

distinct_front : {K : Type 0} {eq : K → K → Bool} → IsEquivalence eq → (xs : List K) (b : K) (bs : List K) → IsDistinct eq (xs ++ b ∷ bs) → list_any (eq b) xs ≡ false
unfolding IsDistinct
distinct_front laws [] b bs h = refl
distinct_front laws (x ∷ xs) b bs h = rw (each_front laws x xs b bs h.0) (distinct_front laws xs b bs h.1)

and_there : (a b : Bool) → a ≡ true → (a && b) ≡ false → b ≡ false
and_there true b e h = h
and_there false b e h = absurd (false≢true e)

-- the keys that the used records at these offsets hold
abbrev pub keys_at : Order → List ℕ → List ℕ → List (List ℕ)
keys_at o img offs = map (λ p. p.0) (pairs o img offs)

keys-append : (o : Order) (img xs ys : List ℕ) → keys_at o img (xs ++ ys) ≡ keys_at o img xs ++ keys_at o img ys
keys-append o img xs ys = ap (map (λ (p : List ℕ × List ℕ). p.0)) (pairs-append o img xs ys) ∙ map-append (λ (p : List ℕ × List ℕ). p.0) (pairs o img xs) (pairs o img ys)

-- a list that begins with a used record, and with another one
keys_used : (o : Order) (img : List ℕ) (x : ℕ) (xs : List ℕ) → magic_of o img x ≡ USED → keys_at o img (x ∷ xs) ≡ key_at o img x ∷ keys_at o img xs
keys_used o img x xs used = ap (map (λ (p : List ℕ × List ℕ). p.0)) (pairs_used o img x xs used)

keys_other : (o : Order) (img : List ℕ) (x : ℕ) (xs : List ℕ) → (magic_of o img x ≡ USED → ⊥) → keys_at o img (x ∷ xs) ≡ keys_at o img xs
keys_other o img x xs other = ap (map (λ (p : List ℕ × List ℕ). p.0)) (pairs_other o img x xs other)

-- a record without a twin among the earlier ones adds no key twice
twin_none : (f : Form) (img earlier : List ℕ) (x : ℕ) → has_twin f img earlier x ≡ false → KeysDiffer f img earlier → KeysDiffer f img (earlier ++ x ∷ [])
twin_none f img earlier x h differ =
    elim (cases_eq (magic_of f.order img x) USED) [
      | inl used ↦ subst (IsDistinct same_key) (sym (keys-append f.order img earlier (x ∷ []) ∙ ap (λ ks. keys_at f.order img earlier ++ ks) (keys_used f.order img x [] used)))
          (IsDistinct-push nat_list_eq_equiv (keys_at f.order img earlier) (key_at f.order img x) differ (and_there (magic_of f.order img x == USED) (list_any (same_key (key_at f.order img x)) (keys_at f.order img earlier)) (eq-eqb (magic_of f.order img x) USED used) h))
      | inr other ↦ subst (IsDistinct same_key) (sym (keys-append f.order img earlier (x ∷ []) ∙ ap (λ ks. keys_at f.order img earlier ++ ks) (keys_other f.order img x [] other) ∙ append-nil (keys_at f.order img earlier))) differ
    ]

-- where no key comes twice, a record has no twin among those before it
twin_never : (f : Form) (img earlier : List ℕ) (x : ℕ) (xs : List ℕ) → KeysDiffer f img (earlier ++ x ∷ xs) → has_twin f img earlier x ≡ false
twin_never f img earlier x xs differ =
    elim (cases_eq (magic_of f.order img x) USED) [
      | inl used ↦ rw (eq-eqb (magic_of f.order img x) USED used)
          (distinct_front nat_list_eq_equiv (keys_at f.order img earlier) (key_at f.order img x) (keys_at f.order img xs)
          (subst (IsDistinct same_key) (keys-append f.order img earlier (x ∷ xs) ∙ ap (λ ks. keys_at f.order img earlier ++ ks) (keys_used f.order img x xs used)) differ))
      | inr other ↦ rw (ne_eqb (magic_of f.order img x) USED other) refl
    ]

-- records that follow one another to a next word 0 are linked
pub passed_linked : (f : Form) (kind : ListKind) (img earlier : List ℕ) (place : ℕ) (xs : List ℕ) (last : ℕ) → Passed f kind img earlier place xs last → word f.order img last ≡ 0 → Linked f (Marked kind) img (word f.order img place) xs
passed_linked f kind img earlier place [] last p ends = ap (word f.order img) (sym p) ∙ ends
passed_linked f kind img earlier place (x ∷ xs) last p ends =
    let c = clear_from f kind img earlier place x p.2 in
    let g = good_from f kind img x c.stands c.good c.tailed in
    (p.0, g.whole, g.marked, passed_linked f kind img (earlier ++ x ∷ []) x xs last p.3 ends)

-- the used ones of a chain are filed in it
pub passed_filed : (f : Form) (j : ℕ) (img earlier : List ℕ) (place : ℕ) (xs : List ℕ) (last : ℕ) → Passed f (chain_number j) img earlier place xs last → AllFiled f img j xs
passed_filed f j img earlier place [] last p = tt
passed_filed f j img earlier place (x ∷ xs) last p =
    let c = clear_from f (chain_number j) img earlier place x p.2 in
    let g = good_from f (chain_number j) img x c.stands c.good c.tailed in
    (filed_from f img j x g.fits c.placed, passed_filed f j img (earlier ++ x ∷ []) x xs last p.3)

-- no key comes twice
pub passed_keys : (f : Form) (kind : ListKind) (img earlier : List ℕ) (place : ℕ) (xs : List ℕ) (last : ℕ) → Passed f kind img earlier place xs last → KeysDiffer f img earlier → KeysDiffer f img (earlier ++ xs)
passed_keys f kind img earlier place [] last p differ = subst (KeysDiffer f img) (sym (append-nil earlier)) differ
passed_keys f kind img earlier place (x ∷ xs) last p differ =
    let c = clear_from f kind img earlier place x p.2 in
    subst (KeysDiffer f img) (append_assoc earlier (x ∷ []) xs) (passed_keys f kind img (earlier ++ x ∷ []) x xs last p.3 (twin_none f img earlier x c.alone differ))

-- what a record has to be in its list besides standing whole: a used one is filed in its chain, and a free list has no
-- used one
abbrev pub Belongs : Form → ListKind → List ℕ → ℕ → Type 0
Belongs f (chain_number j) img x = magic_of f.order img x ≡ USED → Filed f img j x
Belongs f free_list img x = Unit {0}

abbrev pub AllBelong : Form → ListKind → List ℕ → List ℕ → Type 0
AllBelong f kind img [] = Unit {0}
AllBelong f kind img (x ∷ xs) = Belongs f kind img x × AllBelong f kind img xs

fits_where : (f : Form) (kind : ListKind) (img : List ℕ) (x : ℕ) → Marked kind (magic_of f.order img x) → Belongs f kind img x → magic_of f.order img x ≡ USED → Fits f.order img x
fits_where f (chain_number j) img x m b used = (b used).fits
fits_where f free_list img x m b used = absurd (omega (arith, m, used))

placed_where : (f : Form) (kind : ListKind) (img : List ℕ) (x : ℕ) → Belongs f kind img x → is_misfiled f kind img x ≡ false
placed_where f (chain_number j) img x b = filed_to f img j x b
placed_where f free_list img x b = refl

-- records that are linked and belong to their list, with no offset and no key twice, are passed, up to a next word 0
pub linked_passed : (f : Form) (kind : ListKind) (img earlier : List ℕ) (place : ℕ) (xs : List ℕ) → Linked f (Marked kind) img (word f.order img place) xs → AllBelong f kind img xs → IsDistinct eqb (earlier ++ xs) → KeysDiffer f img (earlier ++ xs) → (last : ℕ) × Passed f kind img earlier place xs last × (word f.order img last ≡ 0)
linked_passed f kind img earlier place [] p b d k = (place, refl, p)
linked_passed f kind img earlier place (x ∷ xs) p b d k =
    let good = good_to f kind img x (record { whole = p.1; marked = p.2; fits = fits_where f kind img x p.2 b.0 }) in
    let clear : Clear f kind img earlier x = record {
      stands = good.0;
      new = distinct_front nat_eq_equiv earlier x xs d;
      good = good.1;
      tailed = good.2;
      placed = placed_where f kind img x b.0;
      alone = twin_never f img earlier x xs k;
    } in
    let rest = linked_passed f kind img (earlier ++ x ∷ []) x xs p.3 b.1 (subst (IsDistinct eqb) (sym (append_assoc earlier (x ∷ []) xs)) d) (subst (KeysDiffer f img) (sym (append_assoc earlier (x ∷ []) xs)) k) in
    (rest.0, (p.0, (λ zero_there. absurd (omega (arith, zero_there, p.1.above))), clear_to f kind img earlier place x clear, rest.1), rest.2)

-- no record holds no key
pub differ_none : (f : Form) (img : List ℕ) → KeysDiffer f img []
unfolding IsDistinct
differ_none f img = tt

-- a sound list is linked, and no key comes twice in it
pub record Listed (f : Form) (kind : ListKind) (img : List ℕ) (head : ℕ) (xs : List ℕ) : Type 0 where
  pub linked : Linked f (Marked kind) img (word f.order img head) xs
  pub keys : KeysDiffer f img xs

pub sound_listed : (f : Form) (kind : ListKind) (img : List ℕ) (head : ℕ) (s : Sound f kind img head) → Listed f kind img head s.0
sound_listed f kind img head s = record { linked = passed_linked f kind img [] head s.0 s.1 s.2 s.3; keys = passed_keys f kind img [] head s.0 s.1 s.2 (differ_none f img) }

-- a list that is linked, whose records belong to it, and which has no key twice, is sound
pub sound_from : (f : Form) (kind : ListKind) (img : List ℕ) (head : ℕ) (xs : List ℕ) → Linked f (Marked kind) img (word f.order img head) xs → AllBelong f kind img xs → KeysDiffer f img xs → Sound f kind img head
sound_from f kind img head xs p b k =
    let passed = linked_passed f kind img [] head xs p b (linked_distinct f (Marked kind) img (word f.order img head) xs p) k in
    (xs, passed.0, passed.1, passed.2)

-- the records of a chain that are filed belong to it
pub filed_belong : (f : Form) (j : ℕ) (img xs : List ℕ) → AllFiled f img j xs → AllBelong f (chain_number j) img xs
filed_belong f j img [] h = tt
filed_belong f j img (x ∷ xs) h = (h.0, filed_belong f j img xs h.1)

-- free records belong to the free list, and hold no key
pub free_belong : (f : Form) (img xs : List ℕ) → AllBelong f free_list img xs
free_belong f img [] = tt
free_belong f img (x ∷ xs) = (tt, free_belong f img xs)

free_pairs : (f : Form) (img : List ℕ) (at : ℕ) (xs : List ℕ) → Linked f IsFree img at xs → pairs f.order img xs ≡ []
free_pairs f img at [] p = refl
free_pairs f img at (x ∷ xs) p = pairs_other f.order img x xs (λ used. absurd (omega (arith, p.2, used))) ∙ free_pairs f img (word f.order img x) xs p.3

pub free_keys : (f : Form) (img : List ℕ) (at : ℕ) (xs : List ℕ) → Linked f IsFree img at xs → KeysDiffer f img xs
unfolding IsDistinct
free_keys f img at xs p = subst (λ (ps : List (List ℕ × List ℕ)). IsDistinct same_key (map (λ (q : List ℕ × List ℕ). q.0) ps)) (sym (free_pairs f img at xs p)) tt
