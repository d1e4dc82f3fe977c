-- The cells of a chain of which records stay, one is changed where it stands, one is taken out, or one comes in front.
use Rattle.std.proofs.Common.{◌≡◌, ℕ, ◌<◌, ◌≤◌, List, [], ◌∷◌, length, Bool, true, false, cond, ◌==◌, Option, Some, is_some, refl, sym, ◌∙◌, ap, subst, inl, inr}
use Rattle.std.specs.Prelude.{◌&&◌, ◌||◌}
use Rattle.std.specs.Map.{lookup, update}
use Rattle.std.proofs.lemmas.Bool.{cases_eq, eq-eqb, ne_eqb, eqb-true, false_from_ne_true}
use Rattle.tdb_words.specs.declared.record.TheConstants.{USED}
use Rattle.tdb_space.specs.Form.{Form}
use Rattle.tdb_space.specs.Record.{Whole, Fits, key_at, data_at, magic_of}
use Rattle.tdb_space.specs.Chain.{Member, chain_of, without}
use Rattle.tdb_space.specs.Pairs.{home, map_of, pairs, same_key}
use Rattle.tdb_space.specs.Extents.{HandPair}
use Rattle.tdb_space.specs.Accepted.{AcceptWith}
use Rattle.tdb_space.proofs.Exchange.Kept.{Body, words_kept, key_kept}
use Rattle.tdb_space.proofs.Chain.Walks.{member_first, member_other}
use Rattle.tdb_space.proofs.Pairs.Maps.{same_key-eq, absent, map_home}
use Rattle.tdb_law.specs.Openers.{is_key}
use Rattle.tdb_law.specs.Layout.{Cell, Keeps, HasKeyAt, live_in, behind, unlinked, cells, chains_in}
use Rattle.tdb_law.proofs.HandsOut.{same_test}
use Rattle.tdb_law.proofs.Maps.{is_key-refl}
use Rattle.tdb_law.proofs.Tests.{never_true}
use Rattle.tdb_law.proofs.Marking.{unlink_keeps}
use Rattle.tdb_steps.specs.Walks.{KeepsAll}

-- the record at an offset is used and has the key
abbrev pub here : Form → List ℕ → ℕ → List ℕ → Bool
here f img x q = (magic_of f.order img x == USED) && is_key (key_at f.order img x) q

-- a record that stays is as before
module _ (f : Form) (a b : List ℕ) (longer : length a ≤ length b) (x : ℕ) where
  pub here_kept : (q : List ℕ) → Whole f a x → (magic_of f.order a x ≡ USED → Fits f.order a x) → Body a b f x → here f b x q ≡ here f a x q
  here_kept q whole fits body = first (magic_of f.order b x == USED) (magic_of f.order a x == USED) (ap (λ m. m == USED) (words_kept f a b x body).magic) (λ used. key_kept f a b x longer whole (fits (eqb-true (magic_of f.order a x) USED used)) body)
    where
      first : (u v : Bool) → u ≡ v → (v ≡ true → key_at f.order b x ≡ key_at f.order a x) → (u && is_key (key_at f.order b x) q) ≡ (v && is_key (key_at f.order a x) q)
      first u true e same = rw e (ap (λ k. is_key k q) (same refl))
      first u false e same = rw e refl

-- records of which each is as before at a key, and those of which none has come to have it
abbrev pub SameAt : Form → List ℕ → List ℕ → List ℕ → List ℕ → Type 0
SameAt f a b q [] = Unit {0}
SameAt f a b q (x ∷ xs) = (here f b x q ≡ here f a x q) × SameAt f a b q xs

abbrev pub FewerAt : Form → List ℕ → List ℕ → List ℕ → List ℕ → Type 0
FewerAt f a b q [] = Unit {0}
FewerAt f a b q (x ∷ xs) = (here f b x q ≡ true → here f a x q ≡ true) × FewerAt f a b q xs

-- a test of two, by each of them
or_fewer : (u v x y : Bool) → (u ≡ true → x ≡ true) → (v ≡ true → y ≡ true) → u || v ≡ true → x || y ≡ true
or_fewer true v x y one two e = ap (λ z. z || y) (one refl)
or_fewer false v true y one two e = refl
or_fewer false v false y one two e = two e

choice_same : (z : Bool) (l m u v : List Cell) (q : List ℕ) → live_in l q ≡ live_in u q → live_in m q ≡ live_in v q → live_in (cond z l m) q ≡ live_in (cond z u v) q
choice_same true l m u v q one two = one
choice_same false l m u v q one two = two

choice_fewer : (z : Bool) (l m u v : List Cell) (q : List ℕ) → (live_in l q ≡ true → live_in u q ≡ true) → (live_in m q ≡ true → live_in v q ≡ true) → live_in (cond z l m) q ≡ true → live_in (cond z u v) q ≡ true
choice_fewer true l m u v q one two = one
choice_fewer false l m u v q one two = two

module _ (f : Form) (a b : List ℕ) (q : List ℕ) where
  pub same_from : (xs : List ℕ) → ((x : ℕ) → Member x xs → here f b x q ≡ here f a x q) → SameAt f a b q xs
  same_from [] each = tt
  same_from (x ∷ xs) each = (each x (member_first x xs), same_from xs (λ z there. each z (member_other z x xs there)))

  pub fewer_from : (xs : List ℕ) → ((x : ℕ) → Member x xs → here f b x q ≡ true → here f a x q ≡ true) → FewerAt f a b q xs
  fewer_from [] each = tt
  fewer_from (x ∷ xs) each = (each x (member_first x xs), fewer_from xs (λ z there. each z (member_other z x xs there)))

  pub live_same : (xs : List ℕ) → SameAt f a b q xs → live_in (cells f b xs) q ≡ live_in (cells f a xs) q
  live_same [] same = refl
  live_same (x ∷ xs) same = let rest = live_same xs same.1 in λ i. same.0 i || rest i

  pub behind_same : (xs : List ℕ) (p : ℕ) → SameAt f a b q xs → live_in (behind (cells f b xs) p) q ≡ live_in (behind (cells f a xs) p) q
  behind_same [] p same = refl
  behind_same (x ∷ xs) p same = choice_same (x == p) (cells f b xs) (behind (cells f b xs) p) (cells f a xs) (behind (cells f a xs) p) q (live_same xs same.1) (behind_same xs p same.1)

  live_fewer : (xs : List ℕ) → FewerAt f a b q xs → live_in (cells f b xs) q ≡ true → live_in (cells f a xs) q ≡ true
  live_fewer [] fewer e = e
  live_fewer (x ∷ xs) fewer e = or_fewer (here f b x q) (live_in (cells f b xs) q) (here f a x q) (live_in (cells f a xs) q) fewer.0 (live_fewer xs fewer.1) e

  pub behind_fewer : (xs : List ℕ) (p : ℕ) → FewerAt f a b q xs → live_in (behind (cells f b xs) p) q ≡ true → live_in (behind (cells f a xs) p) q ≡ true
  behind_fewer [] p fewer e = e
  behind_fewer (x ∷ xs) p fewer e = choice_fewer (x == p) (cells f b xs) (behind (cells f b xs) p) (cells f a xs) (behind (cells f a xs) p) q (live_fewer xs fewer.1) (behind_fewer xs p fewer.1) e

-- a chain of which each record is as before keeps all keys, and one of which each is so at every key but one keeps
-- these
pub same_keeps : (f : Form) (a b : List ℕ) (stands : ℕ → Bool) (xs : List ℕ) → ((q : List ℕ) → SameAt f a b q xs) → KeepsAll stands (cells f a xs) (cells f b xs)
same_keeps f a b stands xs same = record { whole = λ q. live_same f a b q xs (same q); behind_same = λ p q on. behind_same f a b q xs p (same q) }

pub but_keeps : (f : Form) (a b : List ℕ) (stands : ℕ → Bool) (key : List ℕ) (xs : List ℕ) → ((q : List ℕ) → is_key key q ≡ false → SameAt f a b q xs) → ((q : List ℕ) → FewerAt f a b q xs) → Keeps stands key (cells f a xs) (cells f b xs)
but_keeps f a b stands key xs same fewer = record {
  whole = λ q other. live_same f a b q xs (same q other);
  behind_same = λ p q on other. behind_same f a b q xs p (same q other);
  behind_fewer = λ p q on e. behind_fewer f a b q xs p (fewer q) e;
}

-- without a record the cells are those without its cell
unlinked_cells : (f : Form) (img : List ℕ) (y : ℕ) (xs : List ℕ) → cells f img (without y xs) ≡ unlinked (cells f img xs) y
unlinked_cells f img y [] = refl
unlinked_cells f img y (x ∷ xs) = go (x == y) (unlinked_cells f img y xs)
  where
    go : (z : Bool) → cells f img (without y xs) ≡ unlinked (cells f img xs) y → cells f img (cond z xs (x ∷ without y xs)) ≡ cond z (cells f img xs) (record { place = x; key = key_at f.order img x; live = magic_of f.order img x == USED } ∷ unlinked (cells f img xs) y)
    go true e = refl
    go false e = ap (λ l. record { place = x; key = key_at f.order img x; live = magic_of f.order img x == USED } ∷ l) e

has_key_at : (f : Form) (img : List ℕ) (y : ℕ) (key : List ℕ) (xs : List ℕ) → key_at f.order img y ≡ key → HasKeyAt (cells f img xs) y key
has_key_at f img y key [] is = tt
has_key_at f img y key (x ∷ xs) is = (λ e. ap (key_at f.order img) (eqb-true x y e) ∙ is, λ e. has_key_at f img y key xs is)

pub without_keeps : (f : Form) (img : List ℕ) (stands : ℕ → Bool) (key : List ℕ) (y : ℕ) (xs : List ℕ) → stands y ≡ false → key_at f.order img y ≡ key → Keeps stands key (cells f img xs) (cells f img (without y xs))
without_keeps f img stands key y xs off is = subst (Keeps stands key (cells f img xs)) (sym (unlinked_cells f img y xs)) (unlink_keeps stands key y (cells f img xs) off (has_key_at f img y key xs is))

-- all keys are all but one
pub all_keeps : (stands : ℕ → Bool) (key : List ℕ) (cs later : List Cell) → KeepsAll stands cs later → Keeps stands key cs later
all_keeps stands key cs later A = record { whole = λ q other. A.whole q; behind_same = λ p q on other. A.behind_same p q on; behind_fewer = λ p q on e. sym (A.behind_same p q on) ∙ e }

-- one change after another
module _ (stands : ℕ → Bool) (key : List ℕ) (cs mid later : List Cell) where
  pub keeps_then_all : Keeps stands key cs mid → KeepsAll stands mid later → Keeps stands key cs later
  keeps_then_all K A = record {
    whole = λ q other. A.whole q ∙ K.whole q other;
    behind_same = λ p q on other. A.behind_same p q on ∙ K.behind_same p q on other;
    behind_fewer = λ p q on e. K.behind_fewer p q on (sym (A.behind_same p q on) ∙ e);
  }

  pub keeps_then : Keeps stands key cs mid → Keeps stands key mid later → Keeps stands key cs later
  keeps_then K L = record {
    whole = λ q other. L.whole q other ∙ K.whole q other;
    behind_same = λ p q on other. L.behind_same p q on other ∙ K.behind_same p q on other;
    behind_fewer = λ p q on e. K.behind_fewer p q on (L.behind_fewer p q on e);
  }

-- A cell in front on which no cursor stands keeps what is behind those on which one does, where the keys of the whole
-- are kept.
pub front_keeps : (stands : ℕ → Bool) (key : List ℕ) (new : Cell) (cs later : List Cell) → stands new.place ≡ false → ((q : List ℕ) → is_key key q ≡ false → live_in (new ∷ later) q ≡ live_in cs q) → Keeps stands key cs later → Keeps stands key cs (new ∷ later)
front_keeps stands key new cs later off whole K = record {
  whole = whole;
  behind_same = λ p q on other. ap (λ l. live_in l q) (past p on) ∙ K.behind_same p q on other;
  behind_fewer = λ p q on e. K.behind_fewer p q on (sym (ap (λ l. live_in l q) (past p on)) ∙ e);
}
  where
    past : (p : ℕ) → stands p ≡ true → behind (new ∷ later) p ≡ behind later p
    past p on = rw (ne_eqb new.place p (λ e. never_true (sym off ∙ ap stands e ∙ on))) refl

-- a chain has a used record with a key exactly where a look-up of its pairs finds it
live_found : (f : Form) (img q : List ℕ) (xs : List ℕ) → live_in (cells f img xs) q ≡ is_some (lookup (same_key q) (pairs f.order img xs))
live_found f img q [] = refl
live_found f img q (x ∷ xs) = elim (cases_eq (magic_of f.order img x) USED) [
  | inl used ↦ rw (eq-eqb (magic_of f.order img x) USED used) (go (is_key (key_at f.order img x) q) (same_key q (key_at f.order img x)) (same_test q (key_at f.order img x)) (live_found f img q xs))
  | inr other ↦ rw (ne_eqb (magic_of f.order img x) USED other) (live_found f img q xs)
]
  where
    go : (u v : Bool) → u ≡ v → live_in (cells f img xs) q ≡ is_some (lookup (same_key q) (pairs f.order img xs)) → u || live_in (cells f img xs) q ≡ is_some (cond v (Some (data_at f.order img x)) (lookup (same_key q) (pairs f.order img xs)))
    go true v e rest = rw (sym e) refl
    go false v e rest = rw (sym e) rest

-- and so it is of the map at the key's own chain
pub live_mapped : (f : Form) (img q : List ℕ) (hands : List HandPair) → AcceptWith f img hands → live_in (chains_in f img (home f q)) q ≡ is_some (map_of f img q)
live_mapped f img q hands I = live_found f img q (chain_of f img (home f q)) ∙ ap is_some (sym (map_home f img q (record { some = I.some; chains = I.chains; filed = I.filed })))

-- so where the map changes at one key alone, the chain of that key keeps every other one
module _ (f : Form) (a b key : List ℕ) (value : Option (List ℕ)) (hands news : List HandPair) (A : AcceptWith f a hands) (B : AcceptWith f b news) (map : (other : List ℕ) → map_of f b other ≡ update same_key (map_of f a) key value other) (low : home f key < f.chains) where
  found_here : (img : List ℕ) (outs : List HandPair) (q : List ℕ) → AcceptWith f img outs → home f q ≡ home f key → live_in (chains_in f img (home f key)) q ≡ is_some (map_of f img q)
  found_here img outs q I at_home = subst (λ j. live_in (chains_in f img j) q ≡ is_some (map_of f img q)) at_home (live_mapped f img q outs I)

  none_here : (img : List ℕ) (outs : List HandPair) (q : List ℕ) → AcceptWith f img outs → (home f q ≡ home f key → ⊥) → live_in (chains_in f img (home f key)) q ≡ false
  none_here img outs q I apart = live_found f img q (chain_of f img (home f key)) ∙ ap is_some (absent f img q (home f key) (chain_of f img (home f key)) (I.filed (home f key) low) apart)

  map_else : (q : List ℕ) → is_key key q ≡ false → map_of f b q ≡ map_of f a q
  map_else q other = map q ∙ rw (false_from_ne_true (same_key key q) (λ e. never_true (sym other ∙ subst (λ k. is_key key k ≡ true) (same_key-eq key q e) (is_key-refl key)))) refl

  pub others_kept : (q : List ℕ) → is_key key q ≡ false → live_in (chains_in f b (home f key)) q ≡ live_in (chains_in f a (home f key)) q
  others_kept q other = elim (cases_eq (home f q) (home f key)) [
    | inl at_home ↦ found_here b news q B at_home ∙ ap is_some (map_else q other) ∙ sym (found_here a hands q A at_home)
    | inr apart ↦ none_here b news q B apart ∙ sym (none_here a hands q A apart)
  ]
