-- A move that comes to the next live record goes on to that record's key.
use Rattle.std.proofs.Common.{◌≡◌, ℕ, ◌+◌, ◌<◌, ◌≤◌, List, [], ◌∷◌, Bool, true, false, cond, ◌==◌, eqb, Option, Some, None, refl, sym, ◌∙◌, ap, subst, inl, inr, ◌⊎◌, arith, le_refl}
use Rattle.std.specs.Prelude.{◌&&◌, ◌||◌, if◌then◌else◌}
use Rattle.std.specs.Map.{keys_of}
use Rattle.std.specs.List.{IsDistinct, AllByRecursion}
use Rattle.std.proofs.lemmas.Bool.{cases_Bool, cases_eq, cases_lt, eq-eqb, ne_eqb, eqb-true, false≢true, or_cases, or_right}
use Rattle.std.proofs.lemmas.Map.Keys.{IsDistinct-head, IsDistinct-tail}
use Rattle.tdb_words.specs.declared.record.TheConstants.{USED}
use Rattle.tdb_words.specs.Word.{word}
use Rattle.tdb_space.specs.Form.{Form, chain_head}
use Rattle.tdb_space.specs.Record.{key_at, magic_of, IsChained}
use Rattle.tdb_space.specs.Chain.{chain_of}
use Rattle.tdb_space.specs.Pairs.{home, pairs, same_key}
use Rattle.tdb_space.specs.Extents.{HandPair}
use Rattle.tdb_space.specs.Accepted.{AcceptWith, KeysDiffer}
use Rattle.tdb_space.proofs.Pairs.Maps.{pairs_used, pairs_other, same_key-refl}
use Rattle.tdb_space.proofs.Chain.Walks.{linked_distinct}
use Rattle.tdb_space.proofs.Accepted.Removes.{home_of_member}
use Rattle.tdb_law.specs.Openers.{is_key}
use Rattle.tdb_law.specs.Layout.{Cell, Chains, Place, cells, behind, chains_in, live_in, ahead_of}
use Rattle.tdb_law.specs.Layout.Place.{off_chains, before_chain, on_record}
use Rattle.tdb_law.proofs.Maps.{is_key-eq, is_key-refl}
use Rattle.tdb_walk.specs.declared.live.Live.{Live}
use Rattle.tdb_walk.specs.NextLive.{first_live, left_in, NoneLive, IsNext}
use Rattle.tdb_walk.specs.Laws.{IsUnentered, ComesTo, ComesRightly}
use Rattle.tdb_walk.proofs.Ahead.{none_some, left_before, passed_before, left_here, left_else}
use Rattle.tdb_walk.proofs.Arrived.{met_member, off_or}
use Rattle.tdb_walk.proofs.Going.{ahead_is_left, none_live, unentered_left, unentered_reached}

-- what holds of one of two equal records holds of the other
some_inner : {T : Type 0} {x y : T} (P : T → Type 0) → Some x ≡ Some y → P x → P y
some_inner {T} {x} {y} P e p = subst (λ o. holds o) e p
  where
    holds : Option T → Type 0
    holds None = ⊥
    holds (Some z) = P z

-- the record of an image at an offset
abbrev cell_at : Form → List ℕ → ℕ → Cell
cell_at f img x = record { place = x; key = key_at f.order img x; live = magic_of f.order img x == USED }

-- no record of these stands at an offset; no offset comes twice, and no key of a used record
abbrev IsFreeOf : ℕ → List Cell → Type 0
IsFreeOf p [] = Unit {0}
IsFreeOf p (c ∷ cs) = (c.place ≡ p → ⊥) × IsFreeOf p cs

abbrev AreApart : List Cell → Type 0
AreApart [] = Unit {0}
AreApart (c ∷ cs) = IsFreeOf c.place cs × (c.live ≡ true → live_in cs c.key ≡ false) × AreApart cs

-- so it is in a chain of an accepted image
free_of_cells : (f : Form) (img : List ℕ) (x : ℕ) (xs : List ℕ) → AllByRecursion (λ y. eqb x y ≡ false) xs → IsFreeOf x (cells f img xs)
free_of_cells f img x [] all = tt
free_of_cells f img x (y ∷ ys) all = ((λ e. false≢true (sym all.0 ∙ eq-eqb x y (sym e))), free_of_cells f img x ys all.1)

other_key : (k q : List ℕ) → same_key k q ≡ false → is_key q k ≡ false
other_key k q differs = elim (cases_Bool (is_key q k)) [
  | inl same ↦ absurd (false≢true (sym differs ∙ subst (λ x. same_key k x ≡ true) (is_key-eq q k same) (same_key-refl k)))
  | inr isnt ↦ isnt
]

no_key : (f : Form) (img k : List ℕ) (xs : List ℕ) → AllByRecursion (λ q. same_key k q ≡ false) (keys_of (pairs f.order img xs)) → live_in (cells f img xs) k ≡ false
no_key f img k [] all = refl
no_key f img k (x ∷ xs) all = elim (cases_eq (magic_of f.order img x) USED) [
  | inl used ↦
      let parts : AllByRecursion (λ q. same_key k q ≡ false) (key_at f.order img x ∷ keys_of (pairs f.order img xs)) = subst (λ ps. AllByRecursion (λ q. same_key k q ≡ false) (keys_of ps)) (pairs_used f.order img x xs used) all in
      rw (eq-eqb (magic_of f.order img x) USED used, other_key k (key_at f.order img x) parts.0) (no_key f img k xs parts.1)
  | inr other ↦
      rw (ne_eqb (magic_of f.order img x) USED other) (no_key f img k xs (subst (λ ps. AllByRecursion (λ q. same_key k q ≡ false) (keys_of ps)) (pairs_other f.order img x xs other) all))
]

cells_apart : (f : Form) (img : List ℕ) (xs : List ℕ) → IsDistinct eqb xs → KeysDiffer f img xs → AreApart (cells f img xs)
cells_apart f img [] distinct keys = tt
cells_apart f img (x ∷ xs) distinct keys = elim (cases_eq (magic_of f.order img x) USED) [
  | inl used ↦
      let spread : IsDistinct same_key (key_at f.order img x ∷ keys_of (pairs f.order img xs)) = subst (λ ps. IsDistinct same_key (keys_of ps)) (pairs_used f.order img x xs used) keys in (
        free_of_cells f img x xs (IsDistinct-head eqb x xs distinct),
        (λ live. no_key f img (key_at f.order img x) xs (IsDistinct-head same_key (key_at f.order img x) (keys_of (pairs f.order img xs)) spread)),
        cells_apart f img xs (IsDistinct-tail eqb x xs distinct) (IsDistinct-tail same_key (key_at f.order img x) (keys_of (pairs f.order img xs)) spread),
      )
  | inr other ↦ (
    free_of_cells f img x xs (IsDistinct-head eqb x xs distinct),
    (λ live. absurd (other (eqb-true (magic_of f.order img x) USED live))),
    cells_apart f img xs (IsDistinct-tail eqb x xs distinct) (subst (λ ps. IsDistinct same_key (keys_of ps)) (pairs_other f.order img x xs other) keys),
  )
]

chain_apart : (f : Form) (img : List ℕ) (hands : List HandPair) → AcceptWith f img hands → (j : ℕ) → j < f.chains → AreApart (chains_in f img j)
chain_apart f img hands A j low = cells_apart f img (chain_of f img j) (linked_distinct f IsChained img (word f.order img (chain_head j)) (chain_of f img j) (A.chains j low)) (A.keys j low)

-- what stands behind a record
free_behind : (p q : ℕ) (cs : List Cell) → IsFreeOf q cs → IsFreeOf q (behind cs p)
free_behind p q [] free = tt
free_behind p q (c ∷ cs) free = go (c.place == p) (free_behind p q cs free.1)
  where
    go : (b : Bool) → IsFreeOf q (behind cs p) → IsFreeOf q (if b then cs else behind cs p)
    go true rest = free.1
    go false rest = rest

apart_behind : (p : ℕ) (cs : List Cell) → AreApart cs → AreApart (behind cs p)
apart_behind p [] apart = tt
apart_behind p (c ∷ cs) apart = go (c.place == p) (apart_behind p cs apart.2)
  where
    go : (b : Bool) → AreApart (behind cs p) → AreApart (if b then cs else behind cs p)
    go true rest = apart.2
    go false rest = rest

live_behind : (cs : List Cell) (p : ℕ) (k : List ℕ) → live_in (behind cs p) k ≡ true → live_in cs k ≡ true
live_behind [] p k e = e
live_behind (c ∷ cs) p k e = or_right (c.live && is_key c.key k) (live_in cs k) (go (c.place == p) (λ s. live_behind cs p k s) e)
  where
    go : (b : Bool) → (live_in (behind cs p) k ≡ true → live_in cs k ≡ true) → live_in (if b then cs else behind cs p) k ≡ true → live_in cs k ≡ true
    go true rest s = s
    go false rest s = rest s

-- the first live record of a list: the key of each other one that is live stands behind it
first_elsewhere : (q : ℕ) (cs : List Cell) (c : Cell) → IsFreeOf q cs → first_live cs ≡ Some c → q ≡ c.place → ⊥
first_elsewhere q [] c free e here = none_some e
first_elsewhere q (x ∷ xs) c free e here = go x.live (λ s. first_elsewhere q xs c free.1 s here) e
  where
    go : (b : Bool) → (first_live xs ≡ Some c → ⊥) → cond b (Some x) (first_live xs) ≡ Some c → ⊥
    go true rest s = free.0 (some_inner (λ (d : Cell). x.place ≡ d.place) s refl ∙ sym here)
    go false rest s = rest s

first_is_live : (cs : List Cell) (c : Cell) → first_live cs ≡ Some c → c.live ≡ true
first_is_live [] c e = absurd (none_some e)
first_is_live (x ∷ xs) c e = go x.live refl (λ s. first_is_live xs c s) e
  where
    go : (b : Bool) → x.live ≡ b → (first_live xs ≡ Some c → c.live ≡ true) → cond b (Some x) (first_live xs) ≡ Some c → c.live ≡ true
    go true is rest s = some_inner (λ (d : Cell). d.live ≡ true) s is
    go false is rest s = rest s

record OfFirst (cs : List Cell) (c : Cell) : Type 0 where
  live : c.live ≡ true
  there : live_in cs c.key ≡ true
  gone : live_in (behind cs c.place) c.key ≡ false
  others : (k : List ℕ) → live_in cs k ≡ true → (is_key c.key k ≡ true) ⊎ (live_in (behind cs c.place) k ≡ true)

of_first : (cs : List Cell) (c : Cell) → AreApart cs → first_live cs ≡ Some c → OfFirst cs c
of_first [] c apart e = absurd (none_some e)
of_first (x ∷ xs) c apart e = go x.live refl (λ s. of_first xs c apart.2 s) e
  where
    here : x.live ≡ true → OfFirst (x ∷ xs) x
    here is = record {
      live = is;
      there = rw (is, is_key-refl x.key) refl;
      gone = rw (eq-eqb x.place x.place refl) (apart.1 is);
      others = λ k e. elim (or_cases (x.live && is_key x.key k) (live_in xs k) e) [
        | inl mine ↦ inl (subst (λ b. b && is_key x.key k ≡ true) is mine)
        | inr rest ↦ inr (rw (eq-eqb x.place x.place refl) rest)
      ];
    }

    later : x.live ≡ false → first_live xs ≡ Some c → OfFirst xs c → OfFirst (x ∷ xs) c
    later isnt s rest =
        let apart_here : (x.place == c.place) ≡ false = ne_eqb x.place c.place (first_elsewhere x.place xs c apart.0 s) in
        record {
          live = rest.live;
          there = or_right (x.live && is_key x.key c.key) (live_in xs c.key) rest.there;
          gone = rw apart_here rest.gone;
          others = λ k e. rw apart_here (rest.others k (subst (λ b. (b && is_key x.key k) || live_in xs k ≡ true) isnt e));
        }

    go : (b : Bool) → x.live ≡ b → (first_live xs ≡ Some c → OfFirst xs c) → cond b (Some x) (first_live xs) ≡ Some c → OfFirst (x ∷ xs) c
    go true is rest s = some_inner (OfFirst (x ∷ xs)) s (here is)
    go false is rest s = later is s (rest s)

-- behind the first live record behind a record stands what stands behind it in the whole chain
behind_twice : (cs : List Cell) (p : ℕ) (c : Cell) → AreApart cs → first_live (behind cs p) ≡ Some c → behind cs c.place ≡ behind (behind cs p) c.place
behind_twice [] p c apart e = refl
behind_twice (x ∷ xs) p c apart e = go (x.place == p) (λ s. behind_twice xs p c apart.2 s) e
  where
    go : (b : Bool) → (first_live (behind xs p) ≡ Some c → behind xs c.place ≡ behind (behind xs p) c.place) → first_live (if b then xs else behind xs p) ≡ Some c
        → behind (x ∷ xs) c.place ≡ behind (if b then xs else behind xs p) c.place
    go true rest s = rw (ne_eqb x.place c.place (first_elsewhere x.place xs c apart.0 s)) refl
    go false rest s = rw (ne_eqb x.place c.place (first_elsewhere x.place (behind xs p) c (free_behind p x.place xs apart.0) s)) (rest s)

-- what is left of a chain that has a live record left: all of it, or what stands behind a record
pub data LeftOf (cs : Chains) (place : Place) (j : ℕ) : Type 0 where
  left_whole : left_in cs place j ≡ cs j → IsUnentered place (j + 1) → LeftOf cs place j
  left_part : (p : ℕ) → left_in cs place j ≡ behind (cs j) p → IsUnentered place (j + 1) → LeftOf cs place j

pub left_of : (cs : Chains) (place : Place) (j : ℕ) (c : Cell) → first_live (left_in cs place j) ≡ Some c → LeftOf cs place j
left_of cs off_chains j c e = absurd (none_some e)
left_of cs (before_chain i) j c e = elim (cases_lt j i) [
  | inl early ↦ absurd (none_some (sym (ap first_live (passed_before cs i j early)) ∙ e))
  | inr late ↦ left_whole (left_before cs i j late) (omega (arith, late))
]
left_of cs (on_record i p) j c e = elim (cases_eq j i) [
  | inl here ↦ left_part p (subst (λ k. left_in cs (on_record i p) k ≡ behind (cs k) p) (sym here) (left_here cs i p)) (omega (arith, here))
  | inr apart ↦ elim (cases_lt j (i + 1)) [
    | inl early ↦ absurd (none_some (sym (ap first_live (left_else cs i p j apart ∙ passed_before cs (i + 1) j early)) ∙ e))
    | inr late ↦ left_whole (left_else cs i p j apart ∙ left_before cs (i + 1) j late) (omega (arith, late))
  ]
]

pub left_unentered : (cs : Chains) (place : Place) (j : ℕ) → LeftOf cs place j → IsUnentered place (j + 1)
left_unentered cs place j (left_whole is un) = un
left_unentered cs place j (left_part p is un) = un

left_apart : (cs : Chains) (place : Place) (j : ℕ) → AreApart (cs j) → LeftOf cs place j → AreApart (left_in cs place j)
left_apart cs place j apart (left_whole is un) = subst AreApart (sym is) apart
left_apart cs place j apart (left_part p is un) = subst AreApart (sym is) (apart_behind p (cs j) apart)

left_behind : (cs : Chains) (place : Place) (j : ℕ) (c : Cell) → AreApart (cs j) → LeftOf cs place j → first_live (left_in cs place j) ≡ Some c → behind (cs j) c.place ≡ behind (left_in cs place j) c.place
left_behind cs place j c apart (left_whole is un) e = ap (λ xs. behind xs c.place) (sym is)
left_behind cs place j c apart (left_part p is un) e = behind_twice (cs j) p c apart (sym (ap first_live is) ∙ e) ∙ ap (λ xs. behind xs c.place) (sym is)

module _ (f : Form) (cs : Chains) (place : Place) (j : ℕ) (c : Cell) (apart : AreApart (cs j)) (passed : NoneLive cs place j) (first : first_live (left_in cs place j) ≡ Some c) (filed : home f c.key ≡ j) where
  left_now : LeftOf cs place j
  left_now = left_of cs place j c first

  facts : OfFirst (left_in cs place j) c
  facts = of_first (left_in cs place j) c (left_apart cs place j apart left_now) first

  here_later : (k : List ℕ) → home f k ≡ j → ahead_of f cs (on_record j c.place) k ≡ live_in (behind (left_in cs place j) c.place) k
  here_later k here =
      ahead_is_left f cs (on_record j c.place) k ∙ ap (λ i. live_in (left_in cs (on_record j c.place) i) k) here
      ∙ ap (λ xs. live_in xs k) (left_here cs j c.place ∙ left_behind cs place j c apart left_now first)

  here_before : (k : List ℕ) → home f k ≡ j → ahead_of f cs place k ≡ live_in (left_in cs place j) k
  here_before k here = ahead_is_left f cs place k ∙ ap (λ i. live_in (left_in cs place i) k) here

  further : (k : List ℕ) → j + 1 ≤ home f k → ahead_of f cs (on_record j c.place) k ≡ ahead_of f cs place k
  further k late =
      ahead_is_left f cs (on_record j c.place) k
      ∙ ap (λ xs. live_in xs k) (unentered_left cs (on_record j c.place) (j + 1) (home f k) (le_refl (j + 1)) late ∙ sym (unentered_left cs place (j + 1) (home f k) (left_unentered cs place j left_now) late))
      ∙ sym (ahead_is_left f cs place k)

  early_later : (k : List ℕ) → home f k < j → ahead_of f cs (on_record j c.place) k ≡ false
  early_later k early =
      ahead_is_left f cs (on_record j c.place) k
      ∙ ap (λ xs. live_in xs k) (left_else cs j c.place (home f k) (λ e. absurd (omega (arith, e, early))) ∙ passed_before cs (j + 1) (home f k) (omega (arith, early)))

  early_before : (k : List ℕ) → home f k < j → ahead_of f cs place k ≡ false
  early_before k early = ahead_is_left f cs place k ∙ none_live (left_in cs place (home f k)) k (passed (home f k) early)

  came_fewer : (k : List ℕ) → ahead_of f cs (on_record j c.place) k ≡ true → ahead_of f cs place k ≡ true
  came_fewer k e = elim (cases_lt (home f k) j) [
    | inl early ↦ absurd (false≢true (sym (early_later k early) ∙ e))
    | inr late ↦ elim (cases_eq (home f k) j) [
      | inl here ↦ here_before k here ∙ live_behind (left_in cs place j) c.place k (sym (here_later k here) ∙ e)
      | inr beyond ↦ sym (further k (omega (arith, late, beyond))) ∙ e
    ]
  ]

  came_kept : (k : List ℕ) → ahead_of f cs place k ≡ true → (Some c.key ≡ Some k) ⊎ (ahead_of f cs (on_record j c.place) k ≡ true)
  came_kept k e = elim (cases_lt (home f k) j) [
    | inl early ↦ absurd (false≢true (sym (early_before k early) ∙ e))
    | inr late ↦ elim (cases_eq (home f k) j) [
      | inl here ↦ elim (facts.others k (sym (here_before k here) ∙ e)) [
        | inl same ↦ inl (ap Some (sym (is_key-eq c.key k same)))
        | inr rest ↦ inr (here_later k here ∙ rest)
      ]
      | inr beyond ↦ inr (further k (omega (arith, late, beyond)) ∙ e)
    ]
  ]

  came_to : ComesTo f cs place (on_record j c.place) c.key
  came_to = record {
    goes = record { reached = unentered_reached place (j + 1) (left_unentered cs place j left_now); fewer = came_fewer; kept = came_kept };
    was = here_before c.key filed ∙ facts.there;
    behind = here_later c.key filed ∙ facts.gone;
    reached = omega (arith, filed);
  }

-- a record that is found in an image is the image's
first_cell : (f : Form) (img : List ℕ) (c : Cell) (offs : List ℕ) → first_live (cells f img offs) ≡ Some c → c ≡ cell_at f img c.place
first_cell f img c [] e = absurd (none_some e)
first_cell f img c (x ∷ xs) e = go (magic_of f.order img x == USED) (λ s. first_cell f img c xs s) e
  where
    go : (b : Bool) → (first_live (cells f img xs) ≡ Some c → c ≡ cell_at f img c.place) → cond b (Some (cell_at f img x)) (first_live (cells f img xs)) ≡ Some c → c ≡ cell_at f img c.place
    go true rest s = some_inner (λ (d : Cell). d ≡ cell_at f img d.place) s refl
    go false rest s = rest s

behind_cell : (f : Form) (img : List ℕ) (c : Cell) (p : ℕ) (offs : List ℕ) → first_live (behind (cells f img offs) p) ≡ Some c → c ≡ cell_at f img c.place
behind_cell f img c p [] e = absurd (none_some e)
behind_cell f img c p (x ∷ xs) e = go (x == p) (λ s. behind_cell f img c p xs s) e
  where
    go : (b : Bool) → (first_live (behind (cells f img xs) p) ≡ Some c → c ≡ cell_at f img c.place) → first_live (if b then cells f img xs else behind (cells f img xs) p) ≡ Some c → c ≡ cell_at f img c.place
    go true rest s = first_cell f img c xs s
    go false rest s = rest s

left_cell : (f : Form) (img : List ℕ) (place : Place) (j : ℕ) (c : Cell) → LeftOf (chains_in f img) place j → first_live (left_in (chains_in f img) place j) ≡ Some c → c ≡ cell_at f img c.place
left_cell f img place j c (left_whole is un) e = first_cell f img c (chain_of f img j) (sym (ap first_live is) ∙ e)
left_cell f img place j c (left_part p is un) e = behind_cell f img c p (chain_of f img j) (sym (ap first_live is) ∙ e)

-- the next live record is used
record OfNext (f : Form) (img : List ℕ) (place : Place) (live : Live) : Type 0 where
  cell : Cell
  is : cell ≡ cell_at f img live.off
  first : first_live (left_in (chains_in f img) place live.chain) ≡ Some cell
  used : magic_of f.order img live.off ≡ USED

of_next : (f : Form) (img : List ℕ) (place : Place) (live : Live) → IsNext f img place (Some live) → OfNext f img place live
of_next f img place live (cell, next, read) =
    let off : cell.place ≡ live.off = ap off_or read in
    let is : cell ≡ cell_at f img live.off = left_cell f img place live.chain cell (left_of (chains_in f img) place live.chain cell next.first) next.first ∙ ap (cell_at f img) off in
    record { cell = cell; is = is; first = next.first; used = eqb-true (magic_of f.order img live.off) USED (ap (λ (d : Cell). d.live) (sym is) ∙ first_is_live (left_in (chains_in f img) place live.chain) cell next.first) }

pub met_used : (f : Form) (img : List ℕ) (place : Place) (live : Live) → IsNext f img place (Some live) → magic_of f.order img live.off ≡ USED
met_used f img place live next = (of_next f img place live next).used

-- so is its key filed in its chain
pub met_filed : (f : Form) (img : List ℕ) (hands : List HandPair) (place : Place) (live : Live) → AcceptWith f img hands → IsNext f img place (Some live) → home f (key_at f.order img live.off) ≡ live.chain
met_filed f img hands place live A next =
    let there = met_member f img place live next in
    home_of_member f img live.chain (chain_of f img live.chain) live.off (A.filed live.chain there.0) there.1 (met_used f img place live next)

pub comes_rightly : ComesRightly
comes_rightly f img hands place live A next =
    let o = of_next f img place live next in
    let there = met_member f img place live next in
    let home_is = home_of_member f img live.chain (chain_of f img live.chain) live.off (A.filed live.chain there.0) there.1 o.used in
    let first : first_live (left_in (chains_in f img) place live.chain) ≡ Some (cell_at f img live.off) = o.first ∙ ap Some o.is in
    came_to f (chains_in f img) place live.chain (cell_at f img live.off) (chain_apart f img hands A live.chain there.0) next.1.passed first home_is
