-- The first fault of an image, in the order in which a check reads it: what is wrong, and the place in the file.
use Rattle.std.specs.Prelude.{◌≡◌, ◌≢◌, ℕ, ◌+◌, ◌%◌, ◌<◌, ◌≤◌, ◌==◌, ◌⊎◌, Bool, true, false, ◌&&◌, ◌||◌, not, nat_eq, nat_lt, if◌then◌else◌, Option, Some, None, is_some, List, [], ◌∷◌, ◌++◌, length, map, slice_index}
use Rattle.std.specs.List.{list_any}
use Rattle.tdb_words.specs.declared.record.TheConstants.{USED, FREE, DEAD, GATE_OPEN, GATE_SHUT, PADDING}
use Rattle.tdb_words.specs.declared.what.What.{What}
use Rattle.tdb_words.specs.declared.what.What.TheVariants.{Short, Header, AreaBad, UndoBad, ChainOut, ChainLoop, BadRecord, Tailer, WrongHash, TwiceKey, FreeOut, FreeLoop, Overlap, Stray}
use Rattle.tdb_words.specs.Word.{word}
use Rattle.tdb_words.specs.Header.{header_fault, area_head, header_length}
use Rattle.tdb_words.specs.Hash.{h_of}
use Rattle.tdb_space.specs.Form.{Form, form_of, data_start, chain_head, free_head}
use Rattle.tdb_space.specs.Record.{rec_len_of, key_len_of, data_len_of, full_hash_of, magic_of, key_at}
use Rattle.tdb_space.specs.Chain.{chain_of, free_of}
use Rattle.tdb_space.specs.Pairs.{pairs, same_key}
use Rattle.tdb_space.specs.Extents.{Extent, times, all_extents}
use Rattle.tdb_space.specs.Accepted.{Accept}

-- a fault: what is wrong, and its place in the file
abbrev pub Fault : Type 0
Fault = What × ℕ

-- the length isn't a whole number of words, or doesn't reach the data
abbrev pub is_short : Form → List ℕ → Bool
is_short f img = not (length img % 4 == 0) || nat_lt (length img) (data_start f)

-- the front: the length is too short for a header, the header has a fault, or the length is none of a file with this
-- header
abbrev pub front_fault : List ℕ → Option Fault
front_fault img =
    if nat_lt (length img) header_length then Some (Short, length img)
    else if is_some (header_fault img) then Some (Header, 0)
    else if is_short (form_of img) img then Some (Short, length img)
    else None

-- no record header can stand at an offset: it isn't a multiple of 4, lies before the data, or 24 bytes from it pass the
-- end
abbrev pub is_out : Form → List ℕ → ℕ → Bool
is_out f img at = not (at % 4 == 0) || nat_lt at (data_start f) || nat_lt (length img) (at + 24)

-- the length in the header at an offset is no whole number of words, or passes the end
abbrev pub is_long : Form → List ℕ → ℕ → Bool
is_long f img at = not (rec_len_of f.order img at % 4 == 0) || nat_lt (length img) (at + 24 + rec_len_of f.order img at)

-- an undo area at an offset: it can't stand there, its length doesn't fit, its gate is open, or its gate word is
-- neither of the two
abbrev pub area_fault_at : Form → List ℕ → ℕ → Option Fault
area_fault_at f img at =
    if is_out f img at then Some (AreaBad, area_head)
    else if is_long f img at then Some (AreaBad, at + 4)
    else if magic_of f.order img at == GATE_OPEN then Some (UndoBad, at + 20)
    else if not (magic_of f.order img at == GATE_SHUT) then Some (AreaBad, at + 20)
    else None

-- the undo area, where the word at 44 says that there is one
abbrev pub area_fault : Form → List ℕ → Option Fault
area_fault f img = if word f.order img area_head == 0 then None else area_fault_at f img (word f.order img area_head)

-- which list a record is met in: the chain of a number, or the free list
pub data ListKind : Type 0 where
  chain_number : ℕ → ListKind
  free_list : ListKind

-- what a word is that leads out of the file, or back into its list
abbrev pub out_of : ListKind → What
out_of (chain_number j) = ChainOut
out_of free_list = FreeOut

abbrev pub loop_of : ListKind → What
loop_of (chain_number j) = ChainLoop
loop_of free_list = FreeLoop

-- the magic is that of a record of the list
abbrev pub has_magic : ListKind → ℕ → Bool
has_magic (chain_number j) magic = magic == USED || magic == DEAD
has_magic free_list magic = magic == FREE

-- a record is bad: its magic isn't its list's, its length is no whole number of words, below 4 or passes the end, or it
-- is used and what it holds doesn't fit
abbrev pub is_bad : Form → ListKind → List ℕ → ℕ → Bool
is_bad f kind img at =
    not (has_magic kind (magic_of f.order img at)) || is_long f img at || nat_lt (rec_len_of f.order img at) 4
    || (magic_of f.order img at == USED) && nat_lt (rec_len_of f.order img at) (key_len_of f.order img at + data_len_of f.order img at + 4)

-- the last word of a record isn't the length of the whole of it
abbrev pub has_wrong_tailer : Form → List ℕ → ℕ → Bool
has_wrong_tailer f img at = not (word f.order img (at + 20 + rec_len_of f.order img at) == 24 + rec_len_of f.order img at)

-- a used record of a chain whose hash isn't its key's, or is another chain's
abbrev pub is_misfiled : Form → ListKind → List ℕ → ℕ → Bool
is_misfiled f (chain_number j) img at =
    (magic_of f.order img at == USED)
    && (not (full_hash_of f.order img at == h_of f.hash (key_at f.order img at)) || not (full_hash_of f.order img at % f.chains == j))
is_misfiled f free_list img at = false

-- a used record whose key an earlier used one of its list has
abbrev pub has_twin : Form → List ℕ → List ℕ → ℕ → Bool
has_twin f img earlier at = (magic_of f.order img at == USED) && list_any (same_key (key_at f.order img at)) (map (λ p. p.0) (pairs f.order img earlier))

-- What is wrong with the record that the word at a place leads to, after these records of the same list. The first that
-- holds: the word leads out, it leads back, the record is bad, its tailer is wrong, it is misfiled, an earlier one has
-- its key.
abbrev pub record_fault : Form → ListKind → List ℕ → List ℕ → ℕ → ℕ → Option Fault
record_fault f kind img earlier place at =
    if is_out f img at then Some (out_of kind, place)
    else if list_any (nat_eq at) earlier then Some (loop_of kind, place)
    else if is_bad f kind img at then Some (BadRecord, at)
    else if has_wrong_tailer f img at then Some (Tailer, at)
    else if is_misfiled f kind img at then Some (WrongHash, at)
    else if has_twin f img earlier at then Some (TwiceKey, at)
    else None

-- After the earlier records of a list, from the word at a place on, these records follow one another and none has a
-- fault. The next word of the list stands at the last place.
abbrev pub Passed : Form → ListKind → List ℕ → List ℕ → ℕ → List ℕ → ℕ → Type 0
Passed f kind img earlier place [] last = last ≡ place
Passed f kind img earlier place (x ∷ xs) last =
    (word f.order img place ≡ x) × (x ≢ 0) × (record_fault f kind img earlier place x ≡ None) × Passed f kind img (earlier ++ x ∷ []) x xs last

-- a list whose first word stands at a place is sound: it ends, and none of its records has a fault
abbrev pub Sound : Form → ListKind → List ℕ → ℕ → Type 0
Sound f kind img head = (xs : List ℕ) × (last : ℕ) × Passed f kind img [] head xs last × (word f.order img last ≡ 0)

-- the first fault of a list: that of the record behind those without a fault
abbrev pub FirstInList : Form → ListKind → List ℕ → ℕ → Fault → Type 0
FirstInList f kind img head e =
    (xs : List ℕ) × (last : ℕ) × Passed f kind img [] head xs last × (word f.order img last ≢ 0)
    × (record_fault f kind img xs last (word f.order img last) ≡ Some e)

-- the front and the undo area of an image are sound
abbrev pub HeadsSound : List ℕ → Type 0
HeadsSound img = (front_fault img ≡ None) × (area_fault (form_of img) img ≡ None)

-- the first n chains are sound
abbrev pub ChainsSound : List ℕ → ℕ → Type 0
ChainsSound img n = (j : ℕ) → j < n → Sound (form_of img) (chain_number j) img (chain_head j)

-- all that comes before the extents is sound: the front, the undo area, the chains and the free list
pub record ListsSound (img : List ℕ) : Type 0 where
  pub heads : HeadsSound img
  pub chains : ChainsSound img (form_of img).chains
  pub frees : Sound (form_of img) free_list img free_head

-- the extents of all records of an image, and of its undo area
abbrev pub extents_of : List ℕ → List Extent
extents_of img = all_extents (form_of img) img (chain_of (form_of img) img) (free_of (form_of img) img) []

-- no byte is held twice
abbrev pub NoOverlap : List ℕ → Type 0
NoOverlap img = (i : ℕ) → times (extents_of img) i ≤ 1

-- The least byte that is held more than once. There an extent begins, into which another reaches that begins no later.
abbrev pub FirstOverlap : List ℕ → ℕ → Type 0
FirstOverlap img at = (2 ≤ times (extents_of img) at) × ((i : ℕ) → i < at → times (extents_of img) i ≤ 1)

-- a byte behind the heads that no extent holds, and that is neither 0 nor padding
abbrev pub is_stray : List ℕ → ℕ → Bool
is_stray img i =
    not (nat_lt i (data_start (form_of img))) && nat_lt i (length img) && (times (extents_of img) i == 0)
    && not (slice_index img i == 0) && not (slice_index img i == PADDING)

-- no byte is stray
abbrev pub NoStray : List ℕ → Type 0
NoStray img = (i : ℕ) → is_stray img i ≡ false

-- the least stray byte
abbrev pub FirstStray : List ℕ → ℕ → Type 0
FirstStray img at = (is_stray img at ≡ true) × ((i : ℕ) → i < at → is_stray img i ≡ false)

-- an image has no fault
pub record HasNoFault (img : List ℕ) : Type 0 where
  pub lists : ListsSound img
  pub apart : NoOverlap img
  pub clean : NoStray img

-- A fault is the first of an image: all that a check reads before it is sound. The order is the front, the undo area,
-- chain 0 and the next chains, the free list, bytes that are held twice, and stray bytes.
pub data IsFirstFault (img : List ℕ) : Fault → Type 0 where
  at_front : (e : Fault) → front_fault img ≡ Some e → IsFirstFault img e
  at_area : (e : Fault) → front_fault img ≡ None → area_fault (form_of img) img ≡ Some e → IsFirstFault img e
  in_chain : (e : Fault) (j : ℕ) → HeadsSound img → j < (form_of img).chains → ChainsSound img j → FirstInList (form_of img) (chain_number j) img (chain_head j) e → IsFirstFault img e
  in_free_list : (e : Fault) → HeadsSound img → ChainsSound img (form_of img).chains → FirstInList (form_of img) free_list img free_head e → IsFirstFault img e
  at_overlap : (at : ℕ) → ListsSound img → FirstOverlap img at → IsFirstFault img (Overlap, at)
  at_stray : (at : ℕ) → ListsSound img → NoOverlap img → FirstStray img at → IsFirstFault img (Stray, at)

-- an image without a fault is accepted, and an accepted image has none
abbrev pub AcceptedIsSound : Type 0
AcceptedIsSound = (img : List ℕ) → (HasNoFault img → Accept img) × (Accept img → HasNoFault img)

-- an image has at most one first fault
abbrev pub OneFirstFault : Type 0
OneFirstFault = (img : List ℕ) (a b : Fault) → IsFirstFault img a → IsFirstFault img b → a ≡ b

-- an accepted image has no first fault
abbrev pub NoneWhereAccepted : Type 0
NoneWhereAccepted = (img : List ℕ) (e : Fault) → IsFirstFault img e → Accept img → ⊥

-- an image that isn't accepted has a first fault
abbrev pub FaultWhereRefused : Type 0
FaultWhereRefused = (img : List ℕ) → Accept img ⊎ ((e : Fault) × IsFirstFault img e)
