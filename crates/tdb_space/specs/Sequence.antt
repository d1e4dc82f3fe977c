-- The sequence number, the word at 48, counts for nothing: what two images that differ at most in it have in common.
-- Each record says it of an image a and an image b; the laws are over all of them.
use Rattle.std.specs.Prelude.{◌≡◌, ◌↔◌, ◌⊎◌, ℕ, ◌+◌, ◌<◌, ◌≤◌, Option, List}
use Rattle.tdb_words.specs.declared.word.Order.{Order}
use Rattle.tdb_words.specs.Word.{word}
use Rattle.tdb_words.specs.Record.{rec_at}
use Rattle.tdb_words.specs.Header.{header_fault, sequence_at}
use Rattle.tdb_space.specs.Form.{Form, form_of, free_head}
use Rattle.tdb_space.specs.Record.{Whole, key_at, data_at}
use Rattle.tdb_space.specs.Chain.{Chain, Free, chain_of, free_of, HasChains}
use Rattle.tdb_space.specs.Pairs.{order_of, map_of, HasPairs}
use Rattle.tdb_space.specs.Extents.{HandPair}
use Rattle.tdb_space.specs.Accepted.{AreaOk, Shut, AcceptWith}
use Rattle.tdb_space.specs.FirstFault.{Fault, front_fault, area_fault, IsFirstFault}
use Rattle.tdb_space.specs.Exchange.{ButSequence}
use Rattle.tdb_space.specs.Opening.{Undoable, restored, Opens, OpensTo, Mild}

-- the header has the same fault, if any, and states the same form, and the front and the undo area have the same fault
pub record SameFront (a b : List ℕ) : Type 0 where
  pub header : header_fault b ≡ header_fault a
  pub form : form_of b ≡ form_of a
  pub front : front_fault b ≡ front_fault a
  pub undo_area : (f : Form) → area_fault f b ≡ area_fault f a

-- the words beside the sequence number are the same, and the same records stand whole: their header, their key and
-- their value
pub record SameRecords (a b : List ℕ) : Type 0 where
  pub words : (o : Order) (at : ℕ) → (at + 4 ≤ sequence_at) ⊎ (sequence_at + 4 ≤ at) → word o b at ≡ word o a at
  pub whole : (f : Form) (at : ℕ) → Whole f a at ↔ Whole f b at
  pub record_there : (f : Form) (at : ℕ) → Whole f a at → rec_at f.order b at ≡ rec_at f.order a at
  pub key_there : (f : Form) (at : ℕ) → Whole f a at → key_at f.order b at ≡ key_at f.order a at
  pub value_there : (f : Form) (at : ℕ) → Whole f a at → data_at f.order b at ≡ data_at f.order a at

-- From an offset on the same records make a chain or a free list. Where the chains are there, both have the same ones,
-- and so the same pairs in the same order, and the same map. (A broken chain may lead into the word at 48.)
pub record SameLists (a b : List ℕ) : Type 0 where
  pub chain : (f : Form) (at : ℕ) (offs : List ℕ) → Chain f a at offs ↔ Chain f b at offs
  pub free : (f : Form) (at : ℕ) (offs : List ℕ) → Free f a at offs ↔ Free f b at offs
  pub has_chains : (f : Form) → HasChains f a ↔ HasChains f b
  pub has_pairs : (f : Form) → HasPairs f a ↔ HasPairs f b
  pub chain_offsets : (f : Form) → HasChains f a → (j : ℕ) → j < f.chains → chain_of f b j ≡ chain_of f a j
  pub free_offsets : (f : Form) → Free f a (word f.order a free_head) (free_of f a) → free_of f b ≡ free_of f a
  pub order : (f : Form) → HasChains f a → order_of f b ≡ order_of f a
  pub map : (f : Form) → HasChains f a → (key : List ℕ) → map_of f b key ≡ map_of f a key

-- Both are accepted or neither is, with any hands, and both have the same first fault. An undo area in place is shut in
-- both or in neither. (The gate of one that isn't in place may be the word at 48.)
pub record SameVerdict (a b : List ℕ) : Type 0 where
  pub area_ok : (f : Form) → AreaOk f a ↔ AreaOk f b
  pub shut : (f : Form) → AreaOk f a → Shut f a ↔ Shut f b
  pub accepted : (f : Form) (hands : List HandPair) → AcceptWith f a hands ↔ AcceptWith f b hands
  pub first_fault : (e : Fault) → IsFirstFault a e ↔ IsFirstFault b e

-- Both can be undone or neither, and both can be opened, to the same maps, or neither. What they are read as differs at
-- most in the sequence number too.
pub record SameOpening (a b : List ℕ) : Type 0 where
  pub undoable : (f : Form) → Undoable f a ↔ Undoable f b
  pub mild : Mild a ↔ Mild b
  pub read_as : (f : Form) → ButSequence (restored f a) (restored f b)
  pub opens : Opens a ↔ Opens b
  pub opens_to : (m : List ℕ → Option (List ℕ)) → OpensTo a m ↔ OpensTo b m

-- what one of these says of two images holds of any two that differ at most in the sequence number
abbrev pub WhateverSequence : (List ℕ → List ℕ → Type 0) → Type 0
WhateverSequence Same = (a b : List ℕ) → ButSequence a b → Same a b
