-- The growth of a file: how long it becomes, that the free list stays, and that a record is found then.
use Rattle.std.proofs.Common.{◌≡◌, ℕ, ◌+◌, ◌-◌, ◌<◌, ◌≤◌, ◌^◌, List, ◌∷◌, length, Option, Some, None, refl, sym, ◌∙◌, ap, subst, inl, inr, arith}
use Rattle.std.specs.Prelude.{◌%◌, ◌/◌}
use Rattle.std.specs.List.{find}
use Rattle.std.proofs.lemmas.Bool.{cases_lt}
use Rattle.tdb_words.specs.Word.{word}
use Rattle.tdb_disk.specs.Image.{padded}
use Rattle.tdb_disk.proofs.Image.{length-padded, padded_below}
use Rattle.tdb_space.specs.Form.{Form, free_head}
use Rattle.tdb_space.specs.Record.{IsFree}
use Rattle.tdb_space.specs.Chain.{Linked}
use Rattle.tdb_space.specs.Spare.{Spare, RoomUpTo}
use Rattle.tdb_space.specs.Spare.Spare.{without_bound, bounded}
use Rattle.tdb_space.specs.Extents.{HandPair, extents, times, once}
use Rattle.tdb_space.proofs.Extents.Counts.{where_is}
use Rattle.tdb_space.proofs.Extents.Counts.Lies.{lies, below, above}
use Rattle.tdb_space.proofs.Exchange.Kept.{Still, bodies_still, list_left, extents_kept, times_within, word_kept}
use Rattle.tdb_free.specs.FreeList.{CanBeGiven, Given, ListedOnce, free_pairs, first_fit, taken, taken_as, give_to, with_next, with_previous, without_first, starts_at, ends_at, end_of}
use Rattle.tdb_free.specs.TakenFrom.{IsTaken}
use Rattle.tdb_free.specs.Growth.{CanBeTaken, TakenBy, usual_length, grown_length, grown_hand}
use Rattle.tdb_free.specs.Growth.TakenBy.{after_growth}

-- a file grows to whole words, past what is needed, within the limit, and by no more than room is made for
pub record Grows (len need limit to : ℕ) : Type 0 where
  pub whole_words : to % 4 ≡ 0
  pub enough : len + need ≤ to
  pub within : to ≤ limit
  pub near : to ≤ len + len / 4 + need + 4096

pub grows : (len need limit to : ℕ) → len % 4 ≡ 0 → need % 4 ≡ 0 → grown_length len need limit ≡ Some to → Grows len need limit to
grows len need limit to aligned words e =
    elim (cases_lt limit (usual_length len need)) [
      | inl past ↦
          elim (cases_lt limit (len + need)) [
            | inl short ↦ grind (arith, e, past, short)
            | inr just ↦
                let is : to ≡ len + need = grind (arith, e, past, just) in
                record { whole_words = omega (arith, is, aligned, words); enough = omega (arith, is); within = omega (arith, is, just); near = omega (arith, is) }
          ]
      | inr low ↦
          let is : to ≡ usual_length len need = grind (arith, e, low) in
          record { whole_words = omega (arith, is); enough = omega (arith, is); within = omega (arith, is, low); near = omega (arith, is) }
    ]

-- where it doesn't grow, just enough passes the limit
pub grows_not : (len need limit : ℕ) → grown_length len need limit ≡ None → limit < len + need
grows_not len need limit e =
    elim (cases_lt limit (len + need)) [
      | inl past ↦ past
      | inr just ↦ elim (cases_lt limit (usual_length len need)) [ inl past ↦ grind (arith, e, past, just) | inr low ↦ grind (arith, e, low) ]
    ]

-- a growth to a shorter length has room too
pub room_up_to : (s : Spare) (m n : ℕ) → n ≤ m → RoomUpTo s m → RoomUpTo s n
room_up_to without_bound m n low room = tt
room_up_to (bounded w b r) m n low room = omega (arith, low, room)

-- what a longer file gains can be given to its free list, which stays
module _ (f : Form) (a offs : List ℕ) (to : ℕ) (C : CanBeTaken f a offs) (words : to % 4 ≡ 0) (more : length a + 28 ≤ to) (short : to < 2 ^ 32) where
  longer : length (padded a to) ≡ to
  longer = omega (arith, length-padded a to, more)

  still : Still a (padded a to) f offs
  still i held = padded_below a to i (times_within f IsFree a (word f.order a free_head) offs i C.listed.list held).1

  pub same : extents f.order (padded a to) offs ≡ extents f.order a offs
  same = extents_kept f a (padded a to) offs (bodies_still f a (padded a to) offs still)

  head : word f.order (padded a to) free_head ≡ word f.order a free_head
  head = word_kept f.order a (padded a to) free_head free_head (free_head + 4) (λ i from below. padded_below a to i (omega (arith, below, C.above))) (omega arith) (omega arith)

  apart : (i : ℕ) → times (extents f.order a offs) i + once (length a, 24 + (to - length a - 24)) i ≤ 1
  apart i =
      elim (where_is (length a, 24 + (to - length a - 24)) i) [
        | lies from _ one ↦
            elim (cases_lt 0 (times (extents f.order a offs) i)) [
              | inl some ↦ absurd (omega (arith, from, (times_within f IsFree a (word f.order a free_head) offs i C.listed.list (omega (arith, some))).1))
              | inr none ↦ omega (arith, one, none)
            ]
        | below _ out ↦ omega (arith, out, C.listed.once_held i)
        | above _ out ↦ omega (arith, out, C.listed.once_held i)
      ]

  pub gain_given : CanBeGiven f (padded a to) offs (grown_hand (length a) to)
  gain_given = record {
    listed = record {
      list = subst (λ at. Linked f IsFree (padded a to) at offs) (sym head) (list_left f IsFree a (padded a to) (word f.order a free_head) offs (omega (arith, longer, more)) C.listed.list still);
      once_held = λ i. subst (λ es. times es i ≤ 1) (sym same) (C.listed.once_held i);
    };
    in_place = record { aligned = C.aligned; len_aligned = omega (arith, C.aligned, words, more); above = C.above; within = omega (arith, longer, more) };
    apart = λ i. subst (λ es. times es i + once (length a, 24 + (to - length a - 24)) i ≤ 1) (sym same) (apart i);
    short = omega (arith, longer, short);
  }

-- no hand is taken just where no record is long enough
pub none_fits : (pairs : List HandPair) (rec_len : ℕ) → taken pairs rec_len ≡ None → first_fit pairs rec_len ≡ None
none_fits pairs rec_len e = none (first_fit pairs rec_len) e
  where
    none : (found : Option HandPair) → taken_as pairs rec_len found ≡ None → found ≡ None
    none None e = refl
    none (Some p) e = grind (arith, e)

pub next_longer : (h : HandPair) (found : Option HandPair) → h.1 ≤ (with_next h found).1
next_longer h None = omega arith
next_longer h (Some p) = omega arith

pub previous_longer : (h : HandPair) (found : Option HandPair) → h.1 ≤ (with_previous h found).1
previous_longer h None = omega arith
previous_longer h (Some p) = omega arith

-- the first record of a list fits where it is long enough
first_fits : (p : HandPair) (ps : List HandPair) (rec_len : ℕ) → rec_len ≤ p.1 → first_fit (p ∷ ps) rec_len ≡ None → ⊥
first_fits p ps rec_len long e = grind (arith, long, e)

-- after a give of a hand that is long enough, a record of the list is
pub given_fits : (pairs : List HandPair) (h : HandPair) (rec_len : ℕ) → rec_len ≤ h.1 → first_fit (give_to pairs h) rec_len ≡ None → ⊥
given_fits pairs h rec_len long e =
    let behind = find (starts_at (end_of h)) pairs in
    let others = without_first (starts_at (end_of h)) pairs in
    let joined = with_next h behind in
    let before = find (ends_at h.0) others in
    first_fits (with_previous joined before) (without_first (ends_at h.0) others) rec_len (omega (arith, long, next_longer h behind, previous_longer joined before)) e

-- a hand that isn't there
pub not_some : (found : Option HandPair) → ((h : HandPair) → found ≡ Some h → ⊥) → found ≡ None
not_some None never = refl
not_some (Some h) never = absurd (never h refl)

-- after a growth and the give of what the file gained, the list has each byte once, and a record that is long enough
module _ (f : Form) (a offs : List ℕ) (rec_len limit to : ℕ) (C : CanBeTaken f a offs) (words : rec_len % 4 ≡ 0) (least : 4 ≤ rec_len) (low : limit ≤ 4294963200) (e : grown_length (length a) (24 + rec_len) limit ≡ Some to) (w : List ℕ) (G : Given f (padded a to) w offs (grown_hand (length a) to)) where
  grown : Grows (length a) (24 + rec_len) limit to
  grown = grows (length a) (24 + rec_len) limit to C.aligned (omega (arith, words)) e

  given : CanBeGiven f (padded a to) offs (grown_hand (length a) to)
  given = gain_given f a offs to C grown.whole_words (omega (arith, grown.enough, least)) (omega (arith, grown.within, low))

  pub grown_listed : ListedOnce f w (G.at ∷ G.stay)
  grown_listed = record { list = G.exchanged.linked; once_held = λ i. omega (arith, G.exchanged.count i, given.apart i) }

  grown_short : length w < 2 ^ 32
  grown_short = omega (arith, G.exchanged.size, given.short)

  grown_fits : taken (free_pairs f w (G.at ∷ G.stay)) rec_len ≡ None → ⊥
  grown_fits none =
      given_fits (free_pairs f (padded a to) offs) (grown_hand (length a) to) rec_len (omega (arith, grown.enough))
      (subst (λ ps. first_fit ps rec_len ≡ None) G.pairs (none_fits (free_pairs f w (G.at ∷ G.stay)) rec_len none))

-- where each part that a statement speaks of is another one by name, the give is that of the image
pub given_moved : (f k : Form) (a v w offs : List ℕ) (len to : ℕ) → k ≡ f → v ≡ a → len ≡ length a → (CanBeTaken k v offs → Given k (padded v to) w offs (grown_hand len to)) → CanBeTaken f a offs → Given f (padded a to) w offs (grown_hand (length a) to)
given_moved f k a v w offs len to form image size G =
    subst (λ n. CanBeTaken f a offs → Given f (padded a to) w offs (grown_hand n to)) size
    (subst (λ x. CanBeTaken f x offs → Given f (padded x to) w offs (grown_hand len to)) image
    (subst (λ q. CanBeTaken q v offs → Given q (padded v to) w offs (grown_hand len to)) form G))

-- from image a the file grew and what it gained was given; the second search of the list, up to image b, answers this
pub record SecondLook (f : Form) (a b offs : List ℕ) (rec_len limit : ℕ) (found : Option HandPair) : Type 0 where
  pub to : ℕ
  pub grown : grown_length (length a) (24 + rec_len) limit ≡ Some to
  pub given : List ℕ
  pub gain : Given f (padded a to) given offs (grown_hand (length a) to)
  pub taken : IsTaken f given b (gain.at ∷ gain.stay) rec_len found

module _ (f : Form) (a b offs : List ℕ) (rec_len limit : ℕ) (C : CanBeTaken f a offs) (words : rec_len % 4 ≡ 0) (least : 4 ≤ rec_len) (low : limit ≤ 4294963200) where
  -- from what the give and the search answer, each of them over a view of its own
  pub second_look : (k l : Form) (v w : List ℕ) (len to : ℕ) (found : Option HandPair) → k ≡ f → l ≡ f → v ≡ a → len ≡ length a → grown_length len (24 + rec_len) limit ≡ Some to
      → (CanBeTaken k v offs → Given k (padded v to) w offs (grown_hand len to))
      → ((os : List ℕ) → ListedOnce l w os → length w < 2 ^ 32 → IsTaken l w b os rec_len found)
      → SecondLook f a b offs rec_len limit found
  second_look k l v w len to found form later image size grows_to given looked =
      let G = given_moved f k a v w offs len to form image size given C in
      let e : grown_length (length a) (24 + rec_len) limit ≡ Some to = ap (λ n. grown_length n (24 + rec_len) limit) (sym size) ∙ grows_to in
      record {
        to = to;
        grown = e;
        given = w;
        gain = G;
        taken = subst (λ q. (os : List ℕ) → ListedOnce q w os → length w < 2 ^ 32 → IsTaken q w b os rec_len found) later looked (G.at ∷ G.stay)
            (grown_listed f a offs rec_len limit to C words least low e w G) (grown_short f a offs rec_len limit to C words least low e w G);
      }

  -- it finds a record
  pub look_finds : SecondLook f a b offs rec_len limit None → ⊥
  look_finds L = grown_fits f a offs rec_len limit L.to C words least low L.grown L.given L.gain L.taken.0

-- what it finds is taken from what the file grew by
pub look_takes : (f : Form) (a b offs : List ℕ) (rec_len limit : ℕ) (hand : HandPair) → taken (free_pairs f a offs) rec_len ≡ None → SecondLook f a b offs rec_len limit (Some hand) → TakenBy f a b offs rec_len limit hand
look_takes f a b offs rec_len limit hand none L =
    after_growth (record { none_before = none_fits (free_pairs f a offs) rec_len none; to = L.to; grown = L.grown; given = L.given; gain = L.gain; taken = L.taken })
