-- Two images that differ at most in the sequence number, the word at 48: they have the same lists, pairs and map.
use Rattle.std.proofs.Common.{◌≡◌, ℕ, ◌<◌, ◌≤◌, List, [], ◌∷◌, get_or, sym, ◌∙◌, ap, subst, inr, arith}
use Rattle.std.specs.Map.{lookup}
use Rattle.tdb_words.specs.declared.record.TheConstants.{USED}
use Rattle.tdb_words.specs.Word.{word}
use Rattle.tdb_space.specs.Form.{Form, chain_head, free_head}
use Rattle.tdb_space.specs.Record.{IsChained, IsFree, Fits, AllFit, rec_len_of, key_len_of, data_len_of, magic_of}
use Rattle.tdb_space.specs.Chain.{Linked, Free, chain_of, free_of, HasChains}
use Rattle.tdb_space.specs.Pairs.{pairs, order_of, map_of, same_key, HasPairs}
use Rattle.tdb_space.specs.Exchange.{ButSequence}
use Rattle.tdb_space.specs.Sequence.{SameLists}
use Rattle.tdb_space.proofs.Extents.Counts.{joined_same}
use Rattle.tdb_space.proofs.Exchange.Kept.{list_left, times_within}
use Rattle.tdb_space.proofs.Chain.Walks.{walk_meets, linked_each}
use Rattle.tdb_space.proofs.Sequence.SameRecords.{turned, AllPast, word_past, rec_len_past, key_len_past, data_len_past, magic_past, pairs_past}

-- the records of a list stand past the sequence number
pub linked_past : (f : Form) (M : ℕ → Type 0) (img : List ℕ) (at : ℕ) (xs : List ℕ) → Linked f M img at xs → AllPast xs
linked_past f M img at [] p = tt
linked_past f M img at (x ∷ xs) p = (omega (arith, p.1.above), linked_past f M img (word f.order img x) xs p.3)

module _ (a b : List ℕ) (s : ButSequence a b) where
  pub linked_same : (f : Form) (M : ℕ → Type 0) (at : ℕ) (xs : List ℕ) → Linked f M a at xs → Linked f M b at xs
  linked_same f M at xs p = list_left f M a b at xs (omega (arith, s.size)) p (λ i held. s.others i (inr (omega (arith, (times_within f M a at xs i p held).0))))

  pub chain_met : (f : Form) → HasChains f a → (j : ℕ) → j < f.chains → Linked f IsChained b (word f.order b (chain_head j)) (chain_of f a j)
  chain_met f h j low = subst (λ at. Linked f IsChained b at (chain_of f a j)) (sym (word_past a b s f.order (chain_head j) (omega arith))) (linked_same f IsChained (word f.order a (chain_head j)) (chain_of f a j) (h j low))

  pub chain_same : (f : Form) → HasChains f a → (j : ℕ) → j < f.chains → chain_of f b j ≡ chain_of f a j
  chain_same f h j low = walk_meets f IsChained b (word f.order b (chain_head j)) (chain_of f a j) (chain_met f h j low)

  pub chains_same : (f : Form) → HasChains f a → HasChains f b
  chains_same f h j low = subst (Linked f IsChained b (word f.order b (chain_head j))) (sym (chain_same f h j low)) (chain_met f h j low)

  free_met : (f : Form) → Free f a (word f.order a free_head) (free_of f a) → Linked f IsFree b (word f.order b free_head) (free_of f a)
  free_met f h = subst (λ at. Linked f IsFree b at (free_of f a)) (sym (word_past a b s f.order free_head (omega arith))) (linked_same f IsFree (word f.order a free_head) (free_of f a) h)

  pub free_same : (f : Form) → Free f a (word f.order a free_head) (free_of f a) → free_of f b ≡ free_of f a
  free_same f h = walk_meets f IsFree b (word f.order b free_head) (free_of f a) (free_met f h)

  pub order_same : (f : Form) → HasChains f a → order_of f b ≡ order_of f a
  order_same f h =
      joined_same f.chains (λ j. pairs f.order b (chain_of f b j)) (λ j. pairs f.order a (chain_of f a j)) (λ j low.
      ap (pairs f.order b) (chain_same f h j low) ∙ pairs_past a b s f.order (chain_of f a j) (linked_past f IsChained a (word f.order a (chain_head j)) (chain_of f a j) (h j low)))

  pub map_same_key : (f : Form) → HasChains f a → (key : List ℕ) → map_of f b key ≡ map_of f a key
  map_same_key f h key = ap (lookup (same_key key)) (order_same f h)

  fits_same : (f : Form) (x : ℕ) → 52 ≤ x → (magic_of f.order a x ≡ USED → Fits f.order a x) → magic_of f.order b x ≡ USED → Fits f.order b x
  fits_same f x past fits used =
      let held = fits (sym (magic_past a b s f.order x past) ∙ used) in
      let len : rec_len_of f.order b x ≡ rec_len_of f.order a x = rec_len_past a b s f.order x past in
      let key_len : key_len_of f.order b x ≡ key_len_of f.order a x = key_len_past a b s f.order x past in
      let data_len : data_len_of f.order b x ≡ data_len_of f.order a x = data_len_past a b s f.order x past in
      omega (arith, held, len, key_len, data_len)

  all_fit : (f : Form) (at : ℕ) (xs : List ℕ) → Linked f IsChained a at xs → AllFit f.order a xs → AllFit f.order b xs
  all_fit f at xs p fit = λ k d low. fits_same f (get_or xs k d) (omega (arith, (linked_each f IsChained a at xs p k d low).above)) (fit k d low)

  pub pairs_same : (f : Form) → HasPairs f a → HasPairs f b
  pairs_same f h = (
    chains_same f h.0,
    λ j low. subst (AllFit f.order b) (sym (chain_same f h.0 j low)) (all_fit f (word f.order a (chain_head j)) (chain_of f a j) (h.0 j low) (h.1 j low)),
  )

pub same_lists : (a b : List ℕ) → ButSequence a b → SameLists a b
same_lists a b s =
    let t = turned a b s in
    record {
      chain = λ f at offs. (linked_same a b s f IsChained at offs, linked_same b a t f IsChained at offs);
      free = λ f at offs. (linked_same a b s f IsFree at offs, linked_same b a t f IsFree at offs);
      has_chains = λ f. (chains_same a b s f, chains_same b a t f);
      has_pairs = λ f. (pairs_same a b s f, pairs_same b a t f);
      chain_offsets = chain_same a b s;
      free_offsets = free_same a b s;
      order = order_same a b s;
      map = map_same_key a b s;
    }
