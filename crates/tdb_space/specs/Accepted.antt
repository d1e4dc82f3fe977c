-- Accepted images: no byte is lost, and none belongs to two.
use Rattle.std.specs.Prelude.{◌≡◌, ℕ, ◌+◌, ◌%◌, ◌<◌, ◌≤◌, ◌⊎◌, List, [], ◌∷◌, length, slice_index}
use Rattle.std.specs.List.{IsDistinct}
use Rattle.std.specs.Map.{keys_of}
use Rattle.tdb_words.specs.declared.record.TheConstants.{USED, GATE_OPEN, GATE_SHUT, PADDING}
use Rattle.tdb_words.specs.Word.{word}
use Rattle.tdb_words.specs.Header.{HeaderOk, area_head}
use Rattle.tdb_words.specs.Hash.{h_of}
use Rattle.tdb_space.specs.Form.{Form, form_of, data_start, chain_head, free_head}
use Rattle.tdb_space.specs.Record.{IsChained, IsFree, Fits, key_at, full_hash_of, rec_len_of, magic_of}
use Rattle.tdb_space.specs.Chain.{Linked, chain_of, free_of, HasChains}
use Rattle.tdb_space.specs.Pairs.{pairs, same_key}
use Rattle.tdb_space.specs.Extents.{HandPair, times, all_extents, AllHandOk}

-- An undo area is in place, where the image has one: it is aligned and stands behind the heads, its header and its
-- content lie within the image, and its gate word is that of an open or of a shut gate.
pub record AreaInPlace (f : Form) (img : List ℕ) (at : ℕ) : Type 0 where
  pub aligned : at % 4 ≡ 0
  pub above : data_start f ≤ at
  pub len_aligned : rec_len_of f.order img at % 4 ≡ 0
  pub within : at + 24 + rec_len_of f.order img at ≤ length img
  pub gate : (magic_of f.order img at ≡ GATE_OPEN) ⊎ (magic_of f.order img at ≡ GATE_SHUT)

-- there is no undo area, or it is in place: the word at 44 is 0 or its offset
abbrev pub AreaOk : Form → List ℕ → Type 0
AreaOk f img = (word f.order img area_head ≡ 0) ⊎ AreaInPlace f img (word f.order img area_head)

-- there is no undo area, or its gate is shut: nothing has to be undone
abbrev pub Shut : Form → List ℕ → Type 0
Shut f img = (word f.order img area_head ≡ 0) ⊎ (magic_of f.order img (word f.order img area_head) ≡ GATE_SHUT)

-- the used record at this offset has room for what it holds, and is filed in this chain by the hash of its key
pub record Filed (f : Form) (img : List ℕ) (chain at : ℕ) : Type 0 where
  pub fits : Fits f.order img at
  pub hashed : full_hash_of f.order img at ≡ h_of f.hash (key_at f.order img at)
  pub placed : full_hash_of f.order img at % f.chains ≡ chain

-- each used record of these is filed in this chain
abbrev pub AllFiled : Form → List ℕ → ℕ → List ℕ → Type 0
AllFiled f img chain [] = Unit {0}
AllFiled f img chain (x ∷ xs) = (magic_of f.order img x ≡ USED → Filed f img chain x) × AllFiled f img chain xs

-- no two used records of these hold the same key
abbrev pub KeysDiffer : Form → List ℕ → List ℕ → Type 0
KeysDiffer f img offs = IsDistinct same_key (keys_of (pairs f.order img offs))

-- each chain head has its chain, and each used record is filed there by its key's hash; so the map at a key is found in
-- one chain
pub record IsFiled (f : Form) (img : List ℕ) : Type 0 where
  pub some : 0 < f.chains
  pub chains : HasChains f img
  pub filed : (j : ℕ) → j < f.chains → AllFiled f img j (chain_of f img j)

-- The image is laid out in these chains, this free list, its undo area and these hands: the header is one of ours; the
-- length is a whole number of words and reaches the data; the undo area is in place and shut; each chain head has its
-- chain and the free list is one; each used record is filed by its key's hash; no key comes twice in a chain; the hands
-- are in place; no byte is held twice; and a byte that nothing holds is 0x00 or the padding byte.
pub record LaidOut (f : Form) (img : List ℕ) (chain : ℕ → List ℕ) (free : List ℕ) (hands : List HandPair) : Type 0 where
  pub header : HeaderOk img
  pub form : form_of img ≡ f
  pub some : 0 < f.chains
  pub sized : length img % 4 ≡ 0
  pub long : data_start f ≤ length img
  pub area_ok : AreaOk f img
  pub shut : Shut f img
  pub chains : (j : ℕ) → j < f.chains → Linked f IsChained img (word f.order img (chain_head j)) (chain j)
  pub frees : Linked f IsFree img (word f.order img free_head) free
  pub filed : (j : ℕ) → j < f.chains → AllFiled f img j (chain j)
  pub keys : (j : ℕ) → j < f.chains → KeysDiffer f img (chain j)
  pub held : AllHandOk f img hands
  pub apart : (i : ℕ) → times (all_extents f img chain free hands) i ≤ 1
  pub stray : (i : ℕ) → data_start f ≤ i → i < length img → times (all_extents f img chain free hands) i ≡ 0
      → (slice_index img i ≡ 0) ⊎ (slice_index img i ≡ PADDING)

-- an image is accepted with these hands out: it is laid out in its own chains and free list, and in the hands
abbrev pub AcceptWith : Form → List ℕ → List HandPair → Type 0
AcceptWith f img hands = LaidOut f img (chain_of f img) (free_of f img) hands

-- an image is accepted: no hand is out
abbrev pub Accept : List ℕ → Type 0
Accept img = AcceptWith (form_of img) img []
