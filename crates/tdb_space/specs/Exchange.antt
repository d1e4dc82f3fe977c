-- What a change of an image exchanges, and what it leaves.
use Rattle.std.specs.Prelude.{◌≡◌, ℕ, ◌+◌, ◌<◌, ◌≤◌, ◌⊎◌, ◌%◌, List, length, take, drop, slice_index}
use Rattle.tdb_words.specs.declared.record.TheConstants.{USED}
use Rattle.tdb_words.specs.declared.record.Rec.{Rec}
use Rattle.tdb_words.specs.declared.word.Order.{Order}
use Rattle.tdb_words.specs.Word.{word, bytes_of_word}
use Rattle.tdb_words.specs.Record.{bytes_of_rec}
use Rattle.tdb_words.specs.Hash.{h_of}
use Rattle.tdb_words.specs.Header.{sequence_at}
use Rattle.tdb_space.specs.Form.{Form, data_start, chain_head, free_head}
use Rattle.tdb_space.specs.Record.{IsChained, IsFree, Whole, Fits, key_at, data_at, next_of, rec_len_of, full_hash_of, magic_of}
use Rattle.tdb_space.specs.Chain.{Linked}
use Rattle.tdb_space.specs.Pairs.{home}
use Rattle.tdb_space.specs.Extents.{HandPair, AllHandOk, times, extents, hand_extents}
use Rattle.tdb_space.specs.Accepted.{AllFiled, KeysDiffer}

-- two images have the same bytes from an offset up to another
abbrev pub Agree : List ℕ → List ℕ → ℕ → ℕ → Type 0
Agree a b from to = (i : ℕ) → from ≤ i → i < to → slice_index b i ≡ slice_index a i

-- From image a to image b one chain goes from these records to those, and the hands become others. Below the records
-- only the head of the chain changes, and elsewhere only bytes of the chain's old records and of the old hands. Just
-- the bytes that these held are held by the new ones, each as often as before.
pub record Exchanged (f : Form) (a b : List ℕ) (chain : ℕ) (olds news : List ℕ) (before after : List HandPair) : Type 0 where
  pub size : length b ≡ length a
  pub low : (i : ℕ) → i < data_start f → (i < chain_head chain) ⊎ (chain_head chain + 4 ≤ i) → slice_index b i ≡ slice_index a i
  pub high : (i : ℕ) → data_start f ≤ i → times (extents f.order a olds) i + times (hand_extents before) i ≡ 0 → slice_index b i ≡ slice_index a i
  pub linked : Linked f IsChained b (word f.order b (chain_head chain)) news
  pub filed : AllFiled f b chain news
  pub keys : KeysDiffer f b news
  pub held : AllHandOk f a after
  pub count : (i : ℕ) → times (extents f.order b news) i + times (hand_extents after) i ≡ times (extents f.order a olds) i + times (hand_extents before) i

-- From image a to image b the free list goes from these records to those, and the hands become others, in the same way
pub record FreeExchanged (f : Form) (a b : List ℕ) (olds news : List ℕ) (before after : List HandPair) : Type 0 where
  pub size : length b ≡ length a
  pub low : (i : ℕ) → i < data_start f → (i < free_head) ⊎ (free_head + 4 ≤ i) → slice_index b i ≡ slice_index a i
  pub high : (i : ℕ) → data_start f ≤ i → times (extents f.order a olds) i + times (hand_extents before) i ≡ 0 → slice_index b i ≡ slice_index a i
  pub linked : Linked f IsFree b (word f.order b free_head) news
  pub held : AllHandOk f a after
  pub count : (i : ℕ) → times (extents f.order b news) i + times (hand_extents after) i ≡ times (extents f.order a olds) i + times (hand_extents before) i

-- the header of a new used record: what is next in its chain, how long it is, and its key and value
abbrev pub new_record : Form → ℕ → ℕ → List ℕ → List ℕ → Rec
new_record f next rec_len key value = record {
  next = next;
  rec_len = rec_len;
  key_len = length key;
  data_len = length value;
  full_hash = h_of f.hash key;
  magic = USED;
}

-- the bytes of a record stand at an offset: its header, its key, its value, and at its end its tailer
pub record WrittenAt (o : Order) (img : List ℕ) (at : ℕ) (r : Rec) (key value : List ℕ) : Type 0 where
  pub header : take 24 (drop at img) ≡ bytes_of_rec o r
  pub key_there : take (length key) (drop (at + 24) img) ≡ key
  pub value_there : take (length value) (drop (at + 24 + length key) img) ≡ value
  pub tailer : take 4 (drop (at + 20 + r.rec_len) img) ≡ bytes_of_word o (24 + r.rec_len)

-- A used record with this key and this value stands in what was a hand, and it is filed by the hash of its key
pub record Filled (f : Form) (img : List ℕ) (hand : HandPair) (key value : List ℕ) : Type 0 where
  pub whole : Whole f img hand.0
  pub used : magic_of f.order img hand.0 ≡ USED
  pub length_kept : rec_len_of f.order img hand.0 ≡ hand.1
  pub fits : Fits f.order img hand.0
  pub has_key : key_at f.order img hand.0 ≡ key
  pub has_value : data_at f.order img hand.0 ≡ value
  pub hashed : full_hash_of f.order img hand.0 ≡ h_of f.hash key

-- From image a to image b a hand becomes the first record of its key's chain: only its bytes and the chain's head
-- change, it leads to what was the first, and the head leads to it.
pub record PutInFront (f : Form) (a b : List ℕ) (hand : HandPair) (key value : List ℕ) : Type 0 where
  pub size : length b ≡ length a
  pub low : (i : ℕ) → i < data_start f → (i < chain_head (home f key)) ⊎ (chain_head (home f key) + 4 ≤ i) → slice_index b i ≡ slice_index a i
  pub high : (i : ℕ) → data_start f ≤ i → (i < hand.0) ⊎ (hand.0 + 24 + hand.1 ≤ i) → slice_index b i ≡ slice_index a i
  pub filled : Filled f b hand key value
  pub next : next_of f.order b hand.0 ≡ word f.order a (chain_head (home f key))
  pub head : word f.order b (chain_head (home f key)) ≡ hand.0

-- From image a to image b only bytes of hands change
pub record InHands (f : Form) (a b : List ℕ) (hands : List HandPair) : Type 0 where
  pub size : length b ≡ length a
  pub others : (i : ℕ) → times (hand_extents hands) i ≡ 0 → slice_index b i ≡ slice_index a i

-- Image b is image a with a hand more behind its end, whatever its bytes are
pub record GrownBy (f : Form) (a b : List ℕ) (rec_len : ℕ) : Type 0 where
  pub aligned : rec_len % 4 ≡ 0
  pub size : length b ≡ length a + 24 + rec_len
  pub others : (i : ℕ) → i < length a → slice_index b i ≡ slice_index a i

-- From image a to image b just one word changes, that at an offset which led to the record y: it leads to what comes
-- after y
pub record LedPast (f : Form) (a b : List ℕ) (before y : ℕ) : Type 0 where
  pub size : length b ≡ length a
  pub next : word f.order b before ≡ next_of f.order a y
  pub others : (i : ℕ) → (i < before) ⊎ (before + 4 ≤ i) → slice_index b i ≡ slice_index a i

-- From image a to image b only the record at an offset changes, within its old extent and not in its next word, and it
-- still stands whole
pub record Touched (f : Form) (a b : List ℕ) (at : ℕ) : Type 0 where
  pub size : length b ≡ length a
  pub others : (i : ℕ) → (i < at + 4) ⊎ (at + 24 + rec_len_of f.order a at ≤ i) → slice_index b i ≡ slice_index a i
  pub whole : Whole f b at

-- From image a to image b a hand becomes the first free record: only its bytes and the head of the free list change, it
-- leads to what was the first, and the head leads to it
pub record PutFree (f : Form) (a b : List ℕ) (hand : HandPair) : Type 0 where
  pub size : length b ≡ length a
  pub low : (i : ℕ) → i < data_start f → (i < free_head) ⊎ (free_head + 4 ≤ i) → slice_index b i ≡ slice_index a i
  pub high : (i : ℕ) → data_start f ≤ i → (i < hand.0) ⊎ (hand.0 + 24 + hand.1 ≤ i) → slice_index b i ≡ slice_index a i
  pub whole : Whole f b hand.0
  pub is_free : IsFree (magic_of f.order b hand.0)
  pub length_kept : rec_len_of f.order b hand.0 ≡ hand.1
  pub next : next_of f.order b hand.0 ≡ word f.order a free_head
  pub head : word f.order b free_head ≡ hand.0

-- two images differ at most in the sequence number, the word at 48
pub record ButSequence (a b : List ℕ) : Type 0 where
  pub size : length b ≡ length a
  pub others : (i : ℕ) → (i < sequence_at) ⊎ (sequence_at + 4 ≤ i) → slice_index b i ≡ slice_index a i
