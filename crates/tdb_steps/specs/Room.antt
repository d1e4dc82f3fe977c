-- The room that an image has for what a command stores, and that a turn ends for want of it exactly where there is
-- none.
use Rattle.std.specs.Prelude.{ℕ, ◌+◌, ◌≡◌, ◌<◌, ◌⊎◌, List, length, Option, None, Some, is_some, if◌then◌else◌}
use Rattle.tdb_space.specs.Form.{Form}
use Rattle.tdb_space.specs.Pairs.{map_of}
use Rattle.tdb_space.specs.Chain.{free_of}
use Rattle.tdb_space.specs.NewRecord.{rec_len_for}
use Rattle.tdb_free.specs.FreeList.{free_pairs, first_fit}
use Rattle.tdb_chain.specs.declared.place.Place.{Place}
use Rattle.tdb_chain.specs.Place.{IsFound}
use Rattle.tdb_law.specs.Commands.{Command, Reply, Turn}
use Rattle.tdb_law.specs.Commands.MapCommand.{Store, Insert, Modify, Append}
use Rattle.tdb_law.specs.Commands.Command.{OnMap}
use Rattle.tdb_law.specs.Commands.Reply.{Memory, Full}
use Rattle.tdb_law.specs.Commands.Turn.{Ends}
use Rattle.tdb_law.specs.Openers.{Task}
use Rattle.tdb_steps.specs.Asked.{joined}
use Rattle.tdb_steps.specs.Stages.{IsTooShort}

-- the key and the value that a command stores on a map, if it stores any
abbrev pub stored_pair : Command → (List ℕ → Option (List ℕ)) → Option (List ℕ × List ℕ)
stored_pair (OnMap (Store k v)) map = Some (k, v)
stored_pair (OnMap (Insert k v)) map = if is_some (map k) then None else Some (k, v)
stored_pair (OnMap (Modify k v)) map = if is_some (map k) then Some (k, v) else None
stored_pair (OnMap (Append k v)) map = Some (k, joined (map k) v)
stored_pair c map = None

-- An image has no room for a command, where a file may grow to a limit. The command stores a pair; the record of its
-- key, where there is one, is too short to be updated in place; no free record is long enough for a new one; and the
-- new record, with its header, would bring the image past the limit. `len` is the length of the image, `need` that of
-- the new record with its header.
pub record HasNoRoom (f : Form) (img : List ℕ) (limit : ℕ) (c : Command) (len need : ℕ) : Type 0 where
  pub key : List ℕ
  pub value : List ℕ
  pub stores : stored_pair c (map_of f img) ≡ Some (key, value)
  pub place : Option Place
  pub found : IsFound f img key place
  pub too_short : IsTooShort (length value) place
  pub none_fits : first_fit (free_pairs f img (free_of f img)) (rec_len_for (length key) (length value)) ≡ None
  pub past : limit < len + need
  pub length_is : len ≡ length img
  pub need_is : need ≡ 24 + rec_len_for (length key) (length value)

-- A turn in this image ends with Full only where the image has no room for the command, and there it does, with these
-- numbers, unless memory is wanting.
pub record FullExactly (f : Form) (img : List ℕ) (limit : ℕ) (c : Command) (turn : Turn) : Type 0 where
  pub only : (len need : ℕ) → turn ≡ Ends (Full len need) → HasNoRoom f img limit c len need
  pub always : (len need : ℕ) → HasNoRoom f img limit c len need → (turn ≡ Ends (Full len need)) ⊎ (turn ≡ Ends Memory)

-- A command that stores takes its record after three steps, and ends with Full at no other turn. Its look, after one
-- step, ends no command for which there is no room, unless memory is wanting.
pub record FullAtTake (f : Form) (img : List ℕ) (limit : ℕ) (t : Task) (turn : Turn) : Type 0 where
  pub only : (len need : ℕ) → turn ≡ Ends (Full len need) → t.steps ≡ 3
  pub takes : t.steps ≡ 3 → FullExactly f img limit t.command turn
  pub looks : t.steps ≡ 1 → (len need : ℕ) → HasNoRoom f img limit t.command len need → (r : Reply) → turn ≡ Ends r → r ≡ Memory

-- a command that joins bytes to those of its key
abbrev pub IsAppend : Command → Type 0
IsAppend (OnMap (Append k v)) = Unit {0}
IsAppend c = ⊥

-- Outside a transaction a turn ends with Full just where a command that stores takes its record, after three steps, and
-- the image has no room for it, with these numbers. Its look, after one step, ends no command for which there is no
-- room, but an append for which memory is wanting.
pub record FullOutside (f : Form) (img : List ℕ) (limit : ℕ) (t : Task) (turn : Turn) : Type 0 where
  pub only : (len need : ℕ) → turn ≡ Ends (Full len need) → (t.steps ≡ 3) × HasNoRoom f img limit t.command len need
  pub takes : t.steps ≡ 3 → (len need : ℕ) → HasNoRoom f img limit t.command len need → turn ≡ Ends (Full len need)
  pub looks : t.steps ≡ 1 → (len need : ℕ) → HasNoRoom f img limit t.command len need → (r : Reply) → turn ≡ Ends r → (r ≡ Memory) × IsAppend t.command
