-- What a purge of a dead record makes of an image.
use Rattle.std.specs.Prelude.{◌≡◌, ◌<◌, ℕ, ◌+◌, List, ◌++◌, slice_index, Option, None, Some}
use Rattle.tdb_words.specs.declared.record.TheConstants.{USED}
use Rattle.tdb_words.specs.Header.{sequence_at}
use Rattle.tdb_words.specs.Record.{rec_at}
use Rattle.tdb_words.specs.Word.{word}
use Rattle.tdb_space.specs.Form.{Form, free_head, chain_head}
use Rattle.tdb_space.specs.Record.{magic_of, rec_len_of}
use Rattle.tdb_space.specs.Chain.{chain_of, free_of, without, Leads, Member}
use Rattle.tdb_space.specs.Pairs.{map_of}
use Rattle.tdb_space.specs.Extents.{HandPair, once, times, extents}
use Rattle.tdb_space.specs.Accepted.{AcceptWith}
use Rattle.tdb_space.specs.Stays.{ChangesOnly}
use Rattle.tdb_space.specs.Spare.{Spare, RoomForAll}
use Rattle.tdb_space.specs.declared.space.Space.{Ghosts}
use Rattle.tdb_free.specs.FreeList.{free_pairs, give_to}
use Rattle.tdb_chain.specs.declared.place.Place.{Place}
use Rattle.tdb_chain.specs.Place.{StandsWithin}
use Rattle.tdb_law.specs.Layout.{Place as WalkPlace, ahead_of, chains_in}
use Rattle.tdb_law.specs.Layout.Place.{on_record}
use Rattle.tdb_walk.specs.declared.purging.DeadRecord.{DeadRecord}

-- a dead record stands in a chain at an offset
pub record IsDeadIn (f : Form) (img : List ℕ) (chain off : ℕ) : Type 0 where
  pub member : Member off (chain_of f img chain)
  pub dead : magic_of f.order img off ≡ USED → ⊥

-- the place of the record of a chain at an offset
pub record IsPlaceIn (f : Form) (img : List ℕ) (chain off : ℕ) (p : Place) : Type 0 where
  pub there : p.off ≡ off
  pub leads : Leads (chain_head chain) (chain_of f img chain) p.before p.off
  pub header : p.rec ≡ rec_at f.order img p.off

-- such a place was found
abbrev pub FindsPlace : Form → List ℕ → ℕ → ℕ → Option Place → Type 0
FindsPlace f img chain off None = ⊥
FindsPlace f img chain off (Some p) = IsPlaceIn f img chain off p

-- From image a to image b the dead record of a chain at an offset went to the free list, as a give of it makes that: it
-- is in no chain, the map and the sequence number stay, no other chain changes, and b is accepted with the same hands.
-- A walk that doesn't stand on it has the same keys further on.
pub record IsPurged (f : Form) (a b : List ℕ) (chain off : ℕ) (hands : List HandPair) : Type 0 where
  pub accepted : AcceptWith f b hands
  pub map : (key : List ℕ) → map_of f b key ≡ map_of f a key
  pub offsets : chain_of f b chain ≡ without off (chain_of f a chain)
  pub only : ChangesOnly f a b (λ k. k ≡ chain)
  pub number : word f.order b sequence_at ≡ word f.order a sequence_at
  pub ahead : (place : WalkPlace) → (place ≡ on_record chain off → ⊥) → (k : List ℕ) → ahead_of f (chains_in f b) place k ≡ ahead_of f (chains_in f a) place k
  pub list : free_pairs f b (free_of f b) ≡ give_to (free_pairs f a (free_of f a)) (off, rec_len_of f.order a off)

-- From image a, accepted with some hands, to image b a purge of a record of a chain failed. At most bytes of these
-- changed: the heads of the chain and of the free list, and the records of both. So each byte of the header, of the
-- undo area, of all other chains and of the hands is as it was. Image b is accepted with the hands, and with what is in
-- no list then: each head leads to whole records alone. The map stays.
pub record PurgeStopped (f : Form) (a b : List ℕ) (chain : ℕ) (hands : List HandPair) : Type 0 where
  pub bytes : (i : ℕ) → once (chain_head chain, 4) i + once (free_head, 4) i + times (extents f.order a (chain_of f a chain)) i + times (extents f.order a (free_of f a)) i ≡ 0
      → slice_index b i ≡ slice_index a i
  pub only : ChangesOnly f a b (λ k. k ≡ chain)
  pub out : List HandPair
  pub accepted : AcceptWith f b (out ++ hands)
  pub map : (key : List ℕ) → map_of f b key ≡ map_of f a key

-- a record that a purge is asked for is dead, and one of a chain
abbrev pub IsDeadRecord : Form → List ℕ → Option DeadRecord → Type 0
IsDeadRecord f img None = Unit {0}
IsDeadRecord f img (Some d) = (d.chain < f.chains) × IsDeadIn f img d.chain d.off

-- the place of such a record was found, or there is none to purge
abbrev pub IsPrepared : Form → List ℕ → Option DeadRecord → Option Place → Type 0
IsPrepared f img None found = found ≡ None
IsPrepared f img (Some d) found = (d.chain < f.chains) × FindsPlace f img d.chain d.off found

-- a place can be purged: it stands within the file, is that of a record which isn't used, and there is room for the
-- writes
pub record CanPurge (size : ℕ) (spare : Spare) (p : Place) : Type 0 where
  pub within : StandsWithin p size
  pub dead : p.rec.magic ≡ USED → ⊥
  pub room : RoomForAll spare 6 44

-- what a purge makes of an image, where there is a record to purge; else it makes nothing of it
abbrev pub PurgesOf : Form → List ℕ → List ℕ → Option DeadRecord → List HandPair → Type 0
PurgesOf f a b None hands = b ≡ a
PurgesOf f a b (Some d) hands = IsPurged f a b d.chain d.off hands

-- what a purge that failed leaves, where there is a record to purge; else nothing was changed
abbrev pub PurgeBroken : Form → List ℕ → List ℕ → Option DeadRecord → List HandPair → Type 0
PurgeBroken f a b None hands = b ≡ a
PurgeBroken f a b (Some d) hands = PurgeStopped f a b d.chain hands

-- a call that looks and makes room for writes: it leaves the length, the bytes, what the header states, the disk under
-- the view, and the references that the view holds
pub record Readied {S : Type 0} (g : Ghosts S) (old new : S) : Type 0 where
  pub size : g.size new ≡ g.size old
  pub image : g.image new ≡ g.image old
  pub form : g.form new ≡ g.form old
  pub disk : g.disk new ≡ g.disk old
  pub under : g.under new ≡ g.under old
