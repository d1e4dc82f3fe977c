-- The room that is left where a record is taken and put in front of its chain.
use Rattle.std.proofs.Common.{◌≡◌, ℕ, ◌+◌, ◌-◌, ◌<◌, ◌≤◌, ◌^◌, List, [], ◌∷◌, ◌++◌, length, Option, Some, None, refl, sym, ◌∙◌, ap, subst, inl, arith}
use Rattle.std.specs.Prelude.{◌%◌, map, option_and_then}
use Rattle.std.specs.Option.{option_or}
use Rattle.std.proofs.lemmas.List.{map-append}
use Rattle.tdb_words.specs.Word.{word}
use Rattle.tdb_disk.specs.Image.{padded}
use Rattle.tdb_disk.proofs.Image.{length-padded, padded_below}
use Rattle.tdb_space.specs.Chain.{chain_of, free_of}
use Rattle.tdb_space.specs.Extents.{HandPair, once}
use Rattle.tdb_space.proofs.Extents.Counts.{once_out}
use Rattle.tdb_space.specs.Form.{Form, chain_head, free_head}
use Rattle.tdb_space.specs.NewRecord.{rec_len_for}
use Rattle.tdb_space.specs.Record.{IsFree}
use Rattle.tdb_space.specs.Accepted.{AcceptWith}
use Rattle.tdb_space.specs.Pairs.{home, map_of}
use Rattle.tdb_space.specs.Stays.{ChainsStay, FreeStays, OnlyIn}
use Rattle.tdb_space.proofs.Chain.Walks.{walk_meets}
use Rattle.tdb_space.proofs.Exchange.Kept.{Still, bodies_still, times_within}
use Rattle.tdb_chain.specs.Changed.{KeySet, with_hand, without_place}
use Rattle.tdb_chain.specs.Place.{IsFound}
use Rattle.tdb_free.specs.FreeList.{Taken, first_fit, free_pairs, give_to, taken, taken_as}
use Rattle.tdb_free.specs.Growth.{CanBeTaken, TakenBy, TakenGrown, grown_hand, grown_length}
use Rattle.tdb_free.specs.Growth.TakenBy.{as_it_was, after_growth}
use Rattle.tdb_free.specs.OnlyList.{OnlyListChanges}
use Rattle.tdb_free.specs.TakenFrom.{TakenFrom}
use Rattle.tdb_free.proofs.Growth.{Grows, grows}
use Rattle.tdb_free.proofs.Removed.{pairs_same}
use Rattle.tdb_free.proofs.Traded.{can_take}
use Rattle.tdb_backup.specs.Filling.{Filled}
use Rattle.tdb_backup.specs.Room.{Room, record_lengths, room_behind, room_grown, room_in, room_left, room_taken}
use Rattle.tdb_backup.proofs.Walk.{moved}

-- one more behind others, where it is so behind those that follow the first
behind_first : (limit : ℕ) (ns : List ℕ) (n : ℕ) (s t : Room) (first : Option Room) → ((u : Room) → room_behind limit u ns ≡ Some s → room_behind limit u (ns ++ n ∷ []) ≡ Some t)
    → option_and_then (λ u. room_behind limit u ns) first ≡ Some s → option_and_then (λ u. room_behind limit u (ns ++ n ∷ [])) first ≡ Some t
behind_first limit ns n s t None rest never = absurd (cc)
behind_first limit ns n s t (Some u) rest there = rest u there

-- one record more is taken behind others
pub room_more : (limit : ℕ) (r s t : Room) (ns : List ℕ) (n : ℕ) → room_behind limit r ns ≡ Some s → room_left limit s n ≡ Some t → room_behind limit r (ns ++ n ∷ []) ≡ Some t
room_more limit r s t [] n behind left =
    let here : r ≡ s = cc in
    subst (λ q. option_and_then (λ u. Some u) (room_left limit q n) ≡ Some t) (sym here) (rw left refl)
room_more limit r s t (m ∷ ns) n behind left = behind_first limit ns n s t (room_left limit r m) (λ u there. room_more limit u s t ns n there left) behind

-- and a pair more behind others
pub room_of_more : (limit : ℕ) (r s t : Room) (given : List (List ℕ × List ℕ)) (p : List ℕ × List ℕ) → room_behind limit r (record_lengths given) ≡ Some s
    → room_left limit s (rec_len_for (length p.0) (length p.1)) ≡ Some t → room_behind limit r (record_lengths (given ++ p ∷ [])) ≡ Some t
room_of_more limit r s t given p behind left =
    subst (λ ns. room_behind limit r ns ≡ Some t) (sym (map-append (λ (q : List ℕ × List ℕ). rec_len_for (length q.0) (length q.1)) given (p ∷ []))) (room_more limit r s t (record_lengths given) (rec_len_for (length p.0) (length p.1)) behind left)

-- a record was taken from image a to image b
module _ (f : Form) (a b : List ℕ) (n limit : ℕ) (h : HandPair) (A : AcceptWith f a []) (short : length a < 2 ^ 32) (words : n % 4 ≡ 0) (least : 4 ≤ n) (most : limit ≤ 4294963200) where
  listed : (c offs : List ℕ) (t : TakenFrom f c b offs n h) → taken (free_pairs f c offs) n ≡ Some (record { hand = h; pairs = free_pairs f b (free_of f b) })
  listed c offs t =
      let met : free_of f b ≡ t.news = walk_meets f IsFree b (word f.order b free_head) t.news t.exchanged.linked in
      subst (λ xs. taken (free_pairs f c offs) n ≡ Some (record { hand = h; pairs = free_pairs f b xs })) (sym met) t.pairs

  pub room_of_taken : TakenBy f a b (free_of f a) n limit h → room_left limit (room_in f a) n ≡ Some (room_in f b)
  room_of_taken (as_it_was t) =
      let long : length a ≡ length b = sym t.exchanged.size in
      rw (listed a (free_of f a) t) (ap (λ l. Some (record { len = l; free = free_pairs f b (free_of f b) })) long)
  room_of_taken (after_growth t) =
      let C = can_take f a [] A short in
      let G = grows (length a) (24 + n) limit t.to C.aligned (omega (arith, words)) t.grown in
      let still : Still a (padded a t.to) f (free_of f a) = λ i held. padded_below a t.to i (times_within f IsFree a (word f.order a free_head) (free_of f a) i C.listed.list held).1 in
      let same_list : free_pairs f (padded a t.to) (free_of f a) ≡ free_pairs f a (free_of f a) = pairs_same f a (padded a t.to) (free_of f a) (bodies_still f a (padded a t.to) (free_of f a) still) in
      let long : t.to ≡ length b = omega (arith, t.taken.exchanged.size, t.gain.exchanged.size, length-padded a t.to, G.enough) in
      let none : taken (free_pairs f a (free_of f a)) n ≡ None = ap (taken_as (free_pairs f a (free_of f a)) n) t.none_before in
      let gained : free_pairs f t.given (t.gain.at ∷ t.gain.stay) ≡ give_to (free_pairs f a (free_of f a)) (grown_hand (length a) t.to) = t.gain.pairs ∙ ap (λ ps. give_to ps (grown_hand (length a) t.to)) same_list in
      let then : taken (give_to (free_pairs f a (free_of f a)) (grown_hand (length a) t.to)) n ≡ Some (record { hand = h; pairs = free_pairs f b (free_of f b) }) = ap (λ ps. taken ps n) (sym gained) ∙ listed t.given (t.gain.at ∷ t.gain.stay) t.taken in
      rw none (rw t.grown (rw then (ap (λ l. Some (record { len = l; free = free_pairs f b (free_of f b) })) long)))

-- the room stays where the length and the free list do
pub room_stays : (f : Form) (b c : List ℕ) → length c ≡ length b → FreeStays f b c → room_in f c ≡ room_in f b
room_stays f b c long F =
    let same : free_pairs f c (free_of f c) ≡ free_pairs f b (free_of f b) = ap (free_pairs f c) F.same_offsets ∙ pairs_same f b c (free_of f b) (bodies_still f b c (free_of f b) F.bytes) in
    λ j. record { len = long j; free = same j }

-- a record was taken, and put in front of its chain
pub filled : (f k l : Form) (a v b c key value : List ℕ) (n limit : ℕ) (h : HandPair) (out : Option HandPair) → AcceptWith f a [] → length a < 2 ^ 32 → n % 4 ≡ 0 → 4 ≤ n → limit ≤ 4294963200 → map_of f a key ≡ None → k ≡ f → v ≡ a → l ≡ f
    → ((hands : List HandPair) → AcceptWith k v hands → ChainsStay k v b (h ∷ hands))
    → ((offs : List ℕ) → CanBeTaken k v offs → TakenBy k v b offs n limit h)
    → ((offs : List ℕ) → CanBeTaken k v offs → OnlyListChanges k v b offs [])
    → ((hands : List HandPair) → AcceptWith l b (h ∷ hands) → IsFound l b key None → KeySet l b c key (Some value) (h.0 ∷ without_place None (chain_of l b (home l key))) (h ∷ []) (h ∷ hands) (with_hand out hands))
    → OnlyIn ((chain_head (home l key), 4) ∷ (h.0, 24 + h.1) ∷ []) b c
    → Filled f a c n limit
filled f k l a v b c key value n limit h out A short words least most none form image same stays takes keeps linked written =
    let stay : ChainsStay f a b (h ∷ []) = moved (λ x img. (hands : List HandPair) → AcceptWith x img hands → ChainsStay x img b (h ∷ hands)) f k a v form image stays [] A in
    let C = can_take f a [] A short in
    let by : TakenBy f a b (free_of f a) n limit h = moved (λ x img. (offs : List ℕ) → CanBeTaken x img offs → TakenBy x img b offs n limit h) f k a v form image takes (free_of f a) C in
    let only : OnlyListChanges f a b (free_of f a) [] = moved (λ x img. (offs : List ℕ) → CanBeTaken x img offs → OnlyListChanges x img b offs []) f k a v form image keeps (free_of f a) C in
    let there : AcceptWith l b (h ∷ []) = subst (λ x. AcceptWith x b (h ∷ [])) (sym same) stay.accepted in
    let absent : map_of l b key ≡ None = ap (λ x. map_of x b key) same ∙ stay.map key ∙ none in
    let set = linked [] there absent in
    let frees : FreeStays f b c = subst (λ x. FreeStays x b c) same set.changed.frees in
    let hand = stay.accepted.held.0 in
    record {
      room = room_of_taken f a b n limit h A short words least most by ∙ ap Some (sym (room_stays f b c set.changed.size frees));
      header = λ i low.
          (let head : once (chain_head (home l key), 4) i ≡ 0 = once_out (chain_head (home l key), 4) i (inl (omega (arith, low))) in
          let held : once (h.0, 24 + h.1) i ≡ 0 = once_out (h.0, 24 + h.1) i (inl (omega (arith, low, hand.above))) in
          written i (omega (arith, head, held)) ∙ only.header i low);
    }
