-- A dead record that leaves its chain leaves the keys that are further on for each walk that doesn't stand on it.
use Rattle.std.proofs.Common.{◌≡◌, ℕ, ◌+◌, ◌<◌, ◌≤◌, List, [], ◌∷◌, length, Bool, true, false, cond, ◌==◌, nat_le, nat_lt, refl, sym, ◌∙◌, ap, subst, inl, inr, arith, ◌^◌}
use Rattle.std.specs.Prelude.{◌&&◌, ◌||◌, slice_index}
use Rattle.std.proofs.lemmas.Bool.{cases_eq, eq-eqb, ne_eqb, eqb-true}
use Rattle.tdb_words.specs.declared.record.TheConstants.{USED}
use Rattle.tdb_words.specs.Word.{word}
use Rattle.tdb_words.proofs.Words.{word_agrees}
use Rattle.tdb_space.specs.Form.{Form, chain_head}
use Rattle.tdb_space.specs.Record.{IsChained, key_at, magic_of}
use Rattle.tdb_space.specs.Chain.{Linked, chain_of, free_of, without}
use Rattle.tdb_space.specs.Pairs.{home}
use Rattle.tdb_space.specs.Extents.{HandPair, times, extents}
use Rattle.tdb_space.specs.Accepted.{AllFiled, AcceptWith}
use Rattle.tdb_space.specs.Stays.{ChainStays, ChainsStay}
use Rattle.tdb_space.proofs.Extents.Counts.{times_all, times_member}
use Rattle.tdb_space.proofs.Exchange.Kept.{Bodies, words_kept, key_kept, bodies_still}
use Rattle.tdb_space.proofs.Chain.Members.{bodies_from}
use Rattle.tdb_space.proofs.Pairs.Maps.{home_below}
use Rattle.tdb_space.proofs.Chain.Unlinks.{unlinked_bodies}
use Rattle.tdb_chain.specs.declared.place.Place.{Place as Found}
use Rattle.tdb_chain.specs.Place.{IsPlace}
use Rattle.tdb_chain.specs.Changed.{ChainChanged, Purged, OldOrWord}
use Rattle.tdb_chain.proofs.Changed.{header_stays}
use Rattle.tdb_chain.proofs.Unlinked.{led_past_place}
use Rattle.tdb_law.specs.Openers.{is_key}
use Rattle.tdb_law.specs.Layout.{Place, cells, chains_in, behind, live_in, ahead_of}
use Rattle.tdb_law.specs.Layout.Place.{off_chains, before_chain, on_record}

-- each of these records is used or dead as before, and a used one has its key still
abbrev StayLive : Form → List ℕ → List ℕ → List ℕ → Type 0
StayLive f a b [] = Unit {0}
StayLive f a b (x ∷ xs) = (magic_of f.order b x ≡ magic_of f.order a x) × (magic_of f.order a x ≡ USED → key_at f.order b x ≡ key_at f.order a x) × StayLive f a b xs

stay_live : (f : Form) (M : ℕ → Type 0) (a b : List ℕ) (j at : ℕ) (xs : List ℕ) → length a ≤ length b → Linked f M a at xs → Bodies a b f xs → AllFiled f a j xs → StayLive f a b xs
stay_live f M a b j at [] longer linked bodies filed = tt
stay_live f M a b j at (x ∷ xs) longer linked bodies filed = (
  (words_kept f a b x bodies.0).magic,
  (λ used. key_kept f a b x longer linked.1 (filed.0 used).fits bodies.0),
  stay_live f M a b j (word f.order a x) xs longer linked.3 bodies.1 filed.1,
)

stay_without : (f : Form) (a b : List ℕ) (y : ℕ) (xs : List ℕ) → StayLive f a b xs → StayLive f a b (without y xs)
stay_without f a b y [] stay = tt
stay_without f a b y (x ∷ xs) stay =
    elim (cases_eq x y) [
      | inl e ↦ rw (eq-eqb x y e) stay.2
      | inr ne ↦ rw (ne_eqb x y ne) (stay.0, stay.1, stay_without f a b y xs stay.2)
    ]

-- so they have the same live keys
first_same : (x y : Bool) (k q r : List ℕ) → x ≡ y → (y ≡ true → q ≡ r) → (x && is_key q k) ≡ (y && is_key r k)
first_same x true k q r e same = rw e (ap (λ u. is_key u k) (same refl))
first_same x false k q r e same = rw e refl

live_same : (f : Form) (a b : List ℕ) (xs : List ℕ) (k : List ℕ) → StayLive f a b xs → live_in (cells f b xs) k ≡ live_in (cells f a xs) k
live_same f a b [] k stay = refl
live_same f a b (x ∷ xs) k stay =
    let here = first_same (magic_of f.order b x == USED) (magic_of f.order a x == USED) k (key_at f.order b x) (key_at f.order a x) (ap (λ m. m == USED) stay.0) (λ used. stay.1 (eqb-true (magic_of f.order a x) USED used)) in
    let rest = live_same f a b xs k stay.2 in
    λ i. here i || rest i

behind_same : (f : Form) (a b : List ℕ) (xs : List ℕ) (p : ℕ) (k : List ℕ) → StayLive f a b xs → live_in (behind (cells f b xs) p) k ≡ live_in (behind (cells f a xs) p) k
behind_same f a b [] p k stay = refl
behind_same f a b (x ∷ xs) p k stay = go (x == p) (behind_same f a b xs p k stay.2)
  where
    go : (z : Bool) → live_in (behind (cells f b xs) p) k ≡ live_in (behind (cells f a xs) p) k → live_in (cond z (cells f b xs) (behind (cells f b xs) p)) k ≡ live_in (cond z (cells f a xs) (behind (cells f a xs) p)) k
    go true rest = live_same f a b xs k stay.2
    go false rest = rest

-- without a dead record the live keys are the same, also behind each other one
dead_live : (f : Form) (a : List ℕ) (y : ℕ) (xs : List ℕ) (k : List ℕ) → (magic_of f.order a y ≡ USED → ⊥) → live_in (cells f a (without y xs)) k ≡ live_in (cells f a xs) k
dead_live f a y [] k dead = refl
dead_live f a y (x ∷ xs) k dead =
    elim (cases_eq x y) [
      | inl e ↦ rw (eq-eqb x y e, ne_eqb (magic_of f.order a x) USED (λ used. dead (ap (magic_of f.order a) (sym e) ∙ used))) refl
      | inr ne ↦ rw (ne_eqb x y ne) (ap (λ l. ((magic_of f.order a x == USED) && is_key (key_at f.order a x) k) || l) (dead_live f a y xs k dead))
    ]

dead_behind : (f : Form) (a : List ℕ) (y p : ℕ) (xs : List ℕ) (k : List ℕ) → (magic_of f.order a y ≡ USED → ⊥) → (p ≡ y → ⊥) → live_in (behind (cells f a (without y xs)) p) k ≡ live_in (behind (cells f a xs) p) k
dead_behind f a y p [] k dead apart = refl
dead_behind f a y p (x ∷ xs) k dead apart =
    elim (cases_eq x y) [
      | inl e ↦ rw (eq-eqb x y e, ne_eqb x p (λ same. apart (sym same ∙ e))) refl
      | inr ne ↦ rw (ne_eqb x y ne) (go (x == p) (dead_behind f a y p xs k dead apart))
    ]
  where
    go : (z : Bool) → live_in (behind (cells f a (without y xs)) p) k ≡ live_in (behind (cells f a xs) p) k
        → live_in (cond z (cells f a (without y xs)) (behind (cells f a (without y xs)) p)) k ≡ live_in (cond z (cells f a xs) (behind (cells f a xs) p)) k
    go true rest = dead_live f a y xs k dead
    go false rest = rest

-- the records of a chain stay where at most the word that leads to one of them was written
module _ (f : Form) (a m : List ℕ) (p : Found) (hands : List HandPair) (A : AcceptWith f a hands) (at : IsPlace f a p) (fits : p.rec.next < 2 ^ 32) (within : p.before + 4 ≤ length a) where
  abbrev offs : List ℕ
  offs = chain_of f a at.chain

  once_held : (i : ℕ) → times (extents f.order a offs) i ≤ 1
  once_held i = omega (arith, A.apart i, times_all f a (chain_of f a) (free_of f a) hands i, times_member (λ l. extents f.order a (chain_of f a l)) at.chain i f.chains at.below)

  led_bodies : OldOrWord f.order a p.before p.rec.next m → Bodies a m f offs
  led_bodies (inl same) = bodies_from a m f offs (λ z there i low high. ap (λ (img : List ℕ). slice_index img i) same)
  led_bodies (inr put) =
      unlinked_bodies f IsChained a m (chain_head at.chain) offs p.before p.off (A.chains at.chain at.below) (omega (arith, at.below)) once_held at.leads (led_past_place f a m p at fits within put)

  pub led_live : length a ≤ length m → OldOrWord f.order a p.before p.rec.next m → StayLive f a m offs
  led_live longer written = stay_live f IsChained a m at.chain (word f.order a (chain_head at.chain)) offs longer (A.chains at.chain at.below) (led_bodies written) (A.filed at.chain at.below)

-- and where the chain stays
pub chain_live : (f : Form) (a b : List ℕ) (hands : List HandPair) (j : ℕ) → j < f.chains → AcceptWith f a hands → length a ≤ length b → ChainStays f a b j → StayLive f a b (chain_of f a j)
chain_live f a b hands j low A longer S =
    stay_live f IsChained a b j (word f.order a (chain_head j)) (chain_of f a j) longer (A.chains j low) (bodies_still f a b (chain_of f a j) S.bytes) (A.filed j low)

-- A record of a chain is led past from image a to image m, and from there to image b no chain changes.
module _ (f : Form) (a m b : List ℕ) (chain off : ℕ) (hands news : List HandPair) (below : chain < f.chains) (A : AcceptWith f a hands) (dead : magic_of f.order a off ≡ USED → ⊥)
    (P : Purged f a m chain (without off (chain_of f a chain)) hands news) (led : StayLive f a m (chain_of f a chain)) (S : ChainsStay f m b hands) where
  rest_live : StayLive f m b (chain_of f m chain)
  rest_live = chain_live f m b news chain below P.changed.accepted S.only.front.longer (S.only.chains chain below (λ never. never))

  offs_now : chain_of f b chain ≡ without off (chain_of f a chain)
  offs_now = (S.only.chains chain below (λ never. never)).same_offsets ∙ P.changed.offsets

  left_live : StayLive f m b (without off (chain_of f a chain))
  left_live = subst (StayLive f m b) P.changed.offsets rest_live

  whole_here : (k : List ℕ) → live_in (chains_in f b chain) k ≡ live_in (chains_in f a chain) k
  whole_here k =
      ap (λ xs. live_in (cells f b xs) k) offs_now ∙ live_same f m b (without off (chain_of f a chain)) k left_live
      ∙ live_same f a m (without off (chain_of f a chain)) k (stay_without f a m off (chain_of f a chain) led) ∙ dead_live f a off (chain_of f a chain) k dead

  behind_here : (p : ℕ) (k : List ℕ) → (p ≡ off → ⊥) → live_in (behind (chains_in f b chain) p) k ≡ live_in (behind (chains_in f a chain) p) k
  behind_here p k apart =
      ap (λ xs. live_in (behind (cells f b xs) p) k) offs_now ∙ behind_same f m b (without off (chain_of f a chain)) p k left_live
      ∙ behind_same f a m (without off (chain_of f a chain)) p k (stay_without f a m off (chain_of f a chain) led) ∙ dead_behind f a off p (chain_of f a chain) k dead apart

  -- another chain stays
  module _ (j : ℕ) (low : j < f.chains) (apart : j ≡ chain → ⊥) where
    first_stays : ChainStays f a m j
    first_stays = P.changed.only.chains j low apart

    then_stays : ChainStays f m b j
    then_stays = S.only.chains j low (λ never. never)

    offs_else : chain_of f b j ≡ chain_of f a j
    offs_else = then_stays.same_offsets ∙ first_stays.same_offsets

    first_else : StayLive f a m (chain_of f a j)
    first_else = chain_live f a m hands j low A P.changed.only.front.longer first_stays

    then_else : StayLive f m b (chain_of f a j)
    then_else = subst (StayLive f m b) first_stays.same_offsets (chain_live f m b news j low P.changed.accepted S.only.front.longer then_stays)

    whole_else : (k : List ℕ) → live_in (chains_in f b j) k ≡ live_in (chains_in f a j) k
    whole_else k = ap (λ xs. live_in (cells f b xs) k) offs_else ∙ live_same f m b (chain_of f a j) k then_else ∙ live_same f a m (chain_of f a j) k first_else

    behind_else : (p : ℕ) (k : List ℕ) → live_in (behind (chains_in f b j) p) k ≡ live_in (behind (chains_in f a j) p) k
    behind_else p k = ap (λ xs. live_in (behind (cells f b xs) p) k) offs_else ∙ behind_same f m b (chain_of f a j) p k then_else ∙ behind_same f a m (chain_of f a j) p k first_else

  whole_now : (j : ℕ) → j < f.chains → (k : List ℕ) → live_in (chains_in f b j) k ≡ live_in (chains_in f a j) k
  whole_now j low k = elim (cases_eq j chain) [
    | inl here ↦ subst (λ i. live_in (chains_in f b i) k ≡ live_in (chains_in f a i) k) (sym here) (whole_here k)
    | inr apart ↦ whole_else j low apart k
  ]

  behind_now : (j p : ℕ) → j < f.chains → (j ≡ chain → p ≡ off → ⊥) → (k : List ℕ) → live_in (behind (chains_in f b j) p) k ≡ live_in (behind (chains_in f a j) p) k
  behind_now j p low off_it k = elim (cases_eq j chain) [
    | inl here ↦ subst (λ i. live_in (behind (chains_in f b i) p) k ≡ live_in (behind (chains_in f a i) p) k) (sym here) (behind_here p k (off_it here))
    | inr apart ↦ behind_else j low apart p k
  ]

  pub ahead_now : (place : Place) → (place ≡ on_record chain off → ⊥) → (k : List ℕ) → ahead_of f (chains_in f b) place k ≡ ahead_of f (chains_in f a) place k
  ahead_now off_chains apart k = refl
  ahead_now (before_chain i) apart k = ap (λ l. nat_le i (home f k) && l) (whole_now (home f k) (home_below f k A.some) k)
  ahead_now (on_record i p) apart k = elim (cases_eq (home f k) i) [
    | inl here ↦ rw (eq-eqb (home f k) i here) (behind_now i p (subst (λ j. j < f.chains) here (home_below f k A.some)) (λ c o. apart (λ j. on_record (c j) (o j))) k)
    | inr ne ↦ rw (ne_eqb (home f k) i ne) (ap (λ l. nat_lt i (home f k) && l) (whole_now (home f k) (home_below f k A.some) k))
  ]

-- the sequence number stays where one chain changes
pub number_led : (f : Form) (a m : List ℕ) (k : ℕ) (offs : List ℕ) (before after : List HandPair) → AcceptWith f a before → k < f.chains → ChainChanged f a m k offs [] before after → word f.order m 48 ≡ word f.order a 48
number_led f a m k offs before after A low C =
    word_agrees f.order m a 48 (λ i from to. header_stays f a m k offs [] before after low A tt C i (omega (arith, to)))
