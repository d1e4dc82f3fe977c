-- What a take changes: bytes of the record that it takes from, the list, and what the file gains.
use Rattle.std.proofs.Common.{◌≡◌, ℕ, ◌+◌, ◌-◌, ◌^◌, Bool, ◌<◌, ◌≤◌, List, [], ◌∷◌, length, Some, sym, ◌∙◌, ap, subst, inl, arith}
use Rattle.std.specs.Prelude.{◌%◌}
use Rattle.tdb_disk.specs.Image.{padded}
use Rattle.tdb_disk.proofs.Image.{length-padded, padded_below}
use Rattle.tdb_words.specs.Word.{word}
use Rattle.tdb_space.specs.Form.{Form, free_head}
use Rattle.tdb_space.specs.Record.{IsFree, rec_len_of}
use Rattle.tdb_space.specs.Extents.{HandPair, once, times, extents}
use Rattle.tdb_space.specs.Stays.{OnlyIn}
use Rattle.tdb_space.proofs.Extents.Counts.{once_out}
use Rattle.tdb_space.proofs.Chain.Members.{member_held, led_member}
use Rattle.tdb_space.proofs.Chain.Walks.{linked_whole}
use Rattle.tdb_free.specs.FreeList.{ListedOnce, Given}
use Rattle.tdb_free.specs.Growth.{CanBeTaken, grown_hand, grown_length}
use Rattle.tdb_free.specs.OnlyList.{OnlyListChanges}
use Rattle.tdb_free.specs.Search.{IsFirst}
use Rattle.tdb_free.specs.declared.search.Spot.{Spot}
use Rattle.tdb_free.proofs.Growth.{same, grows, given_moved, grown_listed}
use Rattle.tdb_free.proofs.Inside.{among}
use Rattle.tdb_free.proofs.Stopped.{exchanged_only}

-- bytes of a record of the list
pub record_only : (f : Form) (a b offs : List ℕ) (test : HandPair → Bool) (p : Spot) → length b ≡ length a → ListedOnce f a offs → IsFirst f a offs test p → OnlyIn ((p.off + 4, 20 + p.rec_len) ∷ []) a b → OnlyListChanges f a b offs []
record_only f a b offs test p size L F only =
    let member = led_member free_head offs p.before p.off F.leads in
    let above = (linked_whole f IsFree a (word f.order a free_head) offs p.off L.list member).0.above in
    record {
      longer = omega (arith, size);
      header = λ i low. only i (omega (arith, once_out (p.off + 4, 20 + p.rec_len) i (inl (omega (arith, low, above)))));
      others = λ i _ none.
          (let held = member_held f.order a offs p.off i member in
          let out : once (p.off, 24 + rec_len_of f.order a p.off) i ≡ 0 = omega (arith, none, held) in
          only i (omega (arith, among p.off (24 + rec_len_of f.order a p.off) (p.off + 4) (20 + p.rec_len) i (omega arith) (omega (arith, F.rec_len)) out)));
    }

-- one change of the list after another, the second of a list that holds bytes of the first one and bytes behind the old
-- end
pub only_both : (f : Form) (a b c offs news : List ℕ) → OnlyListChanges f a b offs [] → OnlyListChanges f b c news []
    → ((i : ℕ) → i < length a → times (extents f.order a offs) i ≡ 0 → times (extents f.order b news) i ≡ 0) → OnlyListChanges f a c offs []
only_both f a b c offs news first second within = record {
  longer = omega (arith, first.longer, second.longer);
  header = λ i low. second.header i low ∙ first.header i low;
  others = λ i low none.
      second.others i (omega (arith, low, first.longer)) (omega (arith, none, within i low (omega (arith, none)))) ∙ first.others i low none;
}

-- the file grew, and a change of the list in which what it gained takes part
module _ (f : Form) (a offs : List ℕ) (to : ℕ) (C : CanBeTaken f a offs) (words : to % 4 ≡ 0) (more : length a + 28 ≤ to) (short : to < 2 ^ 32) where
  gained_out : (i : ℕ) → i < length a → once (length a, 24 + (to - length a - 24)) i ≡ 0
  gained_out i low = once_out (length a, 24 + (to - length a - 24)) i (inl low)

  pub grown_only : (b : List ℕ) → OnlyListChanges f (padded a to) b offs (grown_hand (length a) to ∷ []) → OnlyListChanges f a b offs []
  grown_only b only = record {
    longer = omega (arith, length-padded a to, only.longer);
    header = λ i low. only.header i low ∙ padded_below a to i (omega (arith, low, C.above));
    others = λ i low none.
        (let held : times (extents f.order (padded a to) offs) i ≡ times (extents f.order a offs) i = ap (λ es. times es i) (same f a offs to C words more short) in
        only.others i (omega (arith, low, length-padded a to)) (omega (arith, none, held, gained_out i low)) ∙ padded_below a to i low);
  }

  -- the list after the give of the gain holds bytes of the old one below the old end
  pub given_within : (w : List ℕ) → (G : Given f (padded a to) w offs (grown_hand (length a) to)) → (i : ℕ) → i < length a → times (extents f.order a offs) i ≡ 0 → times (extents f.order w (G.at ∷ G.stay)) i ≡ 0
  given_within w G i low none =
      let held : times (extents f.order (padded a to) offs) i ≡ times (extents f.order a offs) i = ap (λ es. times es i) (same f a offs to C words more short) in
      omega (arith, G.exchanged.count i, held, none, gained_out i low)

-- the file alone grew
pub padded_only : (f : Form) (a offs : List ℕ) (to : ℕ) → CanBeTaken f a offs → OnlyListChanges f a (padded a to) offs []
padded_only f a offs to C = record {
  longer = omega (arith, length-padded a to);
  header = λ i low. padded_below a to i (omega (arith, low, C.above));
  others = λ i low _. padded_below a to i low;
}

-- a take from what the file grew by, whatever it answers: each step over a view of its own
pub take_only : (f : Form) (a b offs : List ℕ) (rec_len limit : ℕ) → CanBeTaken f a offs → rec_len % 4 ≡ 0 → 4 ≤ rec_len → limit ≤ 4294963200 → (k l : Form) (v w : List ℕ) (len to : ℕ) → k ≡ f → l ≡ f → v ≡ a → len ≡ length a → grown_length len (24 + rec_len) limit ≡ Some to
    → (CanBeTaken k v offs → Given k (padded v to) w offs (grown_hand len to))
    → ((os : List ℕ) → ListedOnce l w os → OnlyListChanges l w b os [])
    → OnlyListChanges f a b offs []
take_only f a b offs rec_len limit C words least low k l v w len to form later image size grows_to given looked =
    let G = given_moved f k a v w offs len to form image size given C in
    let e : grown_length (length a) (24 + rec_len) limit ≡ Some to = ap (λ n. grown_length n (24 + rec_len) limit) (sym size) ∙ grows_to in
    let grown = grows (length a) (24 + rec_len) limit to C.aligned (omega (arith, words)) e in
    let more : length a + 28 ≤ to = omega (arith, grown.enough, least) in
    let short : to < 2 ^ 32 = omega (arith, grown.within, low) in
    let first = grown_only f a offs to C grown.whole_words more short w (exchanged_only f (padded a to) w offs (G.at ∷ G.stay) (grown_hand (length a) to ∷ []) [] G.exchanged) in
    let second = subst (λ q. (os : List ℕ) → ListedOnce q w os → OnlyListChanges q w b os []) later looked (G.at ∷ G.stay) (grown_listed f a offs rec_len limit to C words least low e w G) in
    only_both f a w b offs (G.at ∷ G.stay) first second (given_within f a offs to C grown.whole_words more short w G)
