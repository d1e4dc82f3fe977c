-- The records of a file in the order in which they stand, and its lists as these are followed among them.
use Rattle.std.specs.Prelude.{◌≡◌, ◌≢◌, ℕ, ◌+◌, ◌-◌, ◌<◌, ◌≤◌, ◌==◌, if◌then◌else◌, Option, List, [], ◌∷◌, length, sum_by, slice_index, slice_index_or}
use Rattle.tdb_words.specs.declared.record.TheConstants.{USED}
use Rattle.tdb_words.specs.declared.word.Order.{Order}
use Rattle.tdb_words.specs.Word.{word}
use Rattle.tdb_space.specs.Form.{Form, data_start, chain_head, free_head}
use Rattle.tdb_space.specs.Record.{magic_of, next_of}
use Rattle.tdb_space.specs.Pairs.{joined}
use Rattle.tdb_space.specs.Extents.{once, times, extents}
use Rattle.tdb_space.specs.FirstFault.{ListKind as Kind, chain_number, free_list}
use Rattle.tdb_check.specs.declared.extent.Extent.{Extent}
use Rattle.tdb_check.specs.declared.links.TheConstants.{NO_LIST}
use Rattle.tdb_check.specs.declared.links.Link.{Link}
use Rattle.tdb_check.specs.declared.links.Links.{Links}
use Rattle.tdb_check.specs.declared.all_links.AllLinks.{AllLinks}
use Rattle.tdb_check.specs.declared.keys.Keys.{Keys}
use Rattle.tdb_check.specs.Area.{area_seen}
use Rattle.tdb_check.specs.Keys.{KeptIn, notes_of}
use Rattle.tdb_check.specs.Reads.{key_bytes}
use Rattle.tdb_check.specs.InSequence.{StandsIn, ListFrom}

-- a link tells of the record at its offset in which of some lists it stands, and where it leads
pub record LinkAt (kinds : ℕ → Kind) (f : Form) (img : List ℕ) (l : Link) : Type 0 where
  pub stands : StandsIn f (kinds l.list) img l.at
  pub next : l.next ≡ next_of f.order img l.at

-- the links of all records that weren't taken out tell of them
abbrev pub AllTold : (ℕ → Kind) → Form → List ℕ → Links → Type 0
AllTold kinds f img ls = (i : ℕ) (d : Link) → i < length ls.links.items → (slice_index_or ls.links.items i d).list ≢ NO_LIST → LinkAt kinds f img (slice_index_or ls.links.items i d)

-- what the record of a link weighs, where it wasn't taken out
abbrev pub weight_left : (ℕ → ℕ) → Link → ℕ
weight_left w l = if l.list == NO_LIST then 0 else w l.at

-- What all records weigh that weren't taken out. That a record is in one list, once, is said by such sums: whatever
-- each weighs, the lists weigh as much as the records.
abbrev pub left : (ℕ → ℕ) → Links → ℕ
left w ls = sum_by (weight_left w) ls.links.items

-- from an offset on records of a list follow one another by their next words, and the last leads to another offset
abbrev pub LeadsFrom : Form → Kind → List ℕ → ℕ → List ℕ → ℕ → Type 0
LeadsFrom f kind img at [] to = at ≡ to
LeadsFrom f kind img at (x ∷ xs) to = (at ≡ x) × StandsIn f kind img x × LeadsFrom f kind img (next_of f.order img x) xs to

-- from these heads some lists were followed to these offsets, and the records on the way were taken out
pub record Reached (kinds : ℕ → Kind) (f : Form) (img heads : List ℕ) (old new : Links) (at : List ℕ) : Type 0 where
  pub chain : ℕ → List ℕ
  pub from : (j : ℕ) → j < length at → LeadsFrom f (kinds j) img (slice_index heads j) (chain j) (slice_index at j)
  pub told : AllTold kinds f img new
  pub same : (w : ℕ → ℕ) → left w old ≡ sum_by w (joined (length at) chain) + left w new

-- lists that were followed to some offsets were then followed to these
abbrev pub StillReached : Links → List ℕ → Links → List ℕ → Type 0
StillReached mid at new next = (kinds : ℕ → Kind) (f : Form) (img heads : List ℕ) (old : Links) → Reached kinds f img heads old mid at → Reached kinds f img heads old new next

-- the records of some lists, from their heads to their ends, were taken out
pub record ListsTaken (kinds : ℕ → Kind) (f : Form) (img heads : List ℕ) (old new : Links) : Type 0 where
  pub chain : ℕ → List ℕ
  pub from : (j : ℕ) → j < length heads → ListFrom f (kinds j) img (slice_index heads j) (chain j)
  pub same : (w : ℕ → ℕ) → left w old ≡ sum_by w (joined (length heads) chain) + left w new

-- the first heads of the chains, by number
abbrev pub HeadsRead : Form → List ℕ → List ℕ → Type 0
HeadsRead f img heads = (j : ℕ) → j < length heads → slice_index heads j ≡ word f.order img (chain_head j)

-- 1 for a used record
abbrev pub is_used : Order → List ℕ → ℕ → ℕ
is_used o img x = if magic_of o img x == USED then 1 else 0

-- 1 for a record that isn't used
abbrev pub is_unused : Order → List ℕ → ℕ → ℕ
is_unused o img x = if magic_of o img x == USED then 0 else 1

-- how many records are counted
abbrev pub count_of : AllLinks → ℕ
count_of a = a.live + a.dead + a.free_records

-- what all records of all lists weigh that weren't taken out
abbrev pub all_left : (ℕ → ℕ) → AllLinks → ℕ
all_left w a = left w a.chained + left w a.free

-- these records were put into their lists, and they are counted
pub record PutDown (f : Form) (img xs : List ℕ) (a : AllLinks) : Type 0 where
  pub chained : AllTold chain_number f img a.chained
  pub frees : AllTold (λ _. free_list) f img a.free
  pub same : (w : ℕ → ℕ) → all_left w a ≡ sum_by w xs
  pub live : a.live ≡ left (is_used f.order img) a.chained
  pub dead : a.dead ≡ left (is_unused f.order img) a.chained
  pub free_records : a.free_records ≡ left (λ _. 1) a.free

-- the lists of the file have just the records that were put into them
pub record AreLists (f : Form) (img : List ℕ) (a : AllLinks) : Type 0 where
  pub chain : ℕ → List ℕ
  pub free : List ℕ
  pub chains : (j : ℕ) → j < f.chains → ListFrom f (chain_number j) img (word f.order img (chain_head j)) (chain j)
  pub frees : ListFrom f free_list img (word f.order img free_head) free
  pub chained : (w : ℕ → ℕ) → left w a.chained ≡ sum_by w (joined f.chains chain)
  pub freed : (w : ℕ → ℕ) → left w a.free ≡ sum_by w free

-- These records, and what of the undo area was passed, hold each byte between two offsets once, and no other.
abbrev pub Tiled : Form → List ℕ → ℕ → List ℕ → Option Extent → Option Extent → ℕ → Type 0
Tiled f img from xs undo rest to = (i : ℕ) → times (extents f.order img xs) i + times (area_seen undo) i ≡ once (from, to - from) i + times (area_seen rest) i

-- from the heads up to an offset records and maybe the undo area stand one after the other; each record was put into
-- its list, and its key was noted
pub record GatheredTo (f : Form) (img : List ℕ) (undo rest : Option Extent) (a : AllLinks) (keys : Keys) (to : ℕ) : Type 0 where
  pub xs : List ℕ
  pub tiled : Tiled f img (data_start f) xs undo rest to
  pub put : PutDown f img xs a
  pub kept : KeptIn f img xs keys
  pub short : data_start f + key_bytes (notes_of f img xs) ≤ to
