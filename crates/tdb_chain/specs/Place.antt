-- Where a record of a chain stands, and what a look-up of a key finds.
use Rattle.std.specs.Prelude.{◌≡◌, ℕ, ◌+◌, ◌%◌, ◌<◌, ◌≤◌, List, Option, None, Some}
use Rattle.tdb_words.specs.declared.record.Rec.{Rec}
use Rattle.tdb_words.specs.declared.record.TheConstants.{USED}
use Rattle.tdb_words.specs.Record.{rec_at}
use Rattle.tdb_space.specs.Form.{Form, chain_head}
use Rattle.tdb_space.specs.Record.{key_at, data_at}
use Rattle.tdb_space.specs.Chain.{chain_of, Leads}
use Rattle.tdb_space.specs.Pairs.{map_of, home}
use Rattle.tdb_space.specs.Standing.{ContentStands}
use Rattle.tdb_chain.specs.declared.place.Place.{Place}

-- the record that has this header at this offset can stand in a file of this length, and a used one has room for its
-- key, its value and its tailer
pub record LiesWithin (r : Rec) (at len : ℕ) : Type 0 where
  pub content : ContentStands r.rec_len at len
  pub fits : r.magic ≡ USED → r.key_len + r.data_len + 4 ≤ r.rec_len

-- the record of a place can stand in a file of this length, and what leads to it is one of the file's words
pub record StandsWithin (p : Place) (len : ℕ) : Type 0 where
  pub led : p.before + 4 ≤ len
  pub led_aligned : p.before % 4 ≡ 0
  pub aligned : p.off % 4 ≡ 0
  pub lies : LiesWithin p.rec p.off len

-- A place of an image: its record stands in one of the chains, the word before it leads to it there, and its header is
-- the image's
pub record IsPlace (f : Form) (img : List ℕ) (p : Place) : Type 0 where
  pub chain : ℕ
  pub below : chain < f.chains
  pub leads : Leads (chain_head chain) (chain_of f img chain) p.before p.off
  pub header : p.rec ≡ rec_at f.order img p.off

-- the used record with a key stands at a place, in the key's own chain, and the map has its value
pub record HoldsKey (f : Form) (img key : List ℕ) (p : Place) : Type 0 where
  pub place : IsPlace f img p
  pub at_home : place.chain ≡ home f key
  pub used : p.rec.magic ≡ USED
  pub has_key : key_at f.order img p.off ≡ key
  pub mapped : map_of f img key ≡ Some (data_at f.order img p.off)

-- what a look-up of a key finds: the place of its record, or nothing where the map doesn't have the key
abbrev pub IsFound : Form → List ℕ → List ℕ → Option Place → Type 0
IsFound f img key None = map_of f img key ≡ None
IsFound f img key (Some p) = HoldsKey f img key p
