-- What is noted along one chain, and what it says of the next record.
use Rattle.std.specs.Prelude.{◌≡◌, ◌≢◌, ℕ, List, [], ◌∷◌, ◌++◌, length, None, Some, nat_eq}
use Rattle.std.specs.List.{list_any}
use Rattle.tdb_words.specs.declared.record.Rec.{Rec}
use Rattle.tdb_words.specs.declared.record.TheConstants.{USED}
use Rattle.tdb_words.specs.Record.{rec_at}
use Rattle.tdb_words.specs.Word.{word}
use Rattle.tdb_space.specs.Form.{Form, chain_head}
use Rattle.tdb_space.specs.Record.{magic_of}
use Rattle.tdb_space.specs.Chain.{Member}
use Rattle.tdb_space.specs.Extents.{extents}
use Rattle.tdb_space.specs.Pairs.{pairs}
use Rattle.tdb_space.specs.FirstFault.{chain_number}
use Rattle.tdb_check.specs.declared.extent.Extent.{Extent}
use Rattle.tdb_check.specs.Extent.{extents_seen}
use Rattle.tdb_check.specs.declared.chain.Notes.{Notes}
use Rattle.tdb_check.specs.declared.chain.Walk.{Walk}
use Rattle.tdb_check.specs.declared.chain.End.{End}
use Rattle.tdb_check.specs.declared.chain.End.TheVariants.{Last, Known, Fault}
use Rattle.tdb_check.specs.Tails.{least_from}
use Rattle.tdb_check.specs.Walked.{fault_but_twin, Walked}
use Rattle.tdb_check.specs.Trail.{met}
use Rattle.tdb_check.specs.Keys.{KeptIn}

-- the dead records behind the last used one of these, by their extents
pub record DeadEnd (f : Form) (img xs : List ℕ) (dead : List Extent) : Type 0 where
  pub before : List ℕ
  pub tail : List ℕ
  pub parts : xs ≡ before ++ tail
  pub unused : (z : ℕ) → Member z tail → magic_of f.order img z ≢ USED
  pub shown : extents_seen dead ≡ extents f.order img tail

-- the offsets and the keys of these records are noted, and the dead ones at their end
pub record NotesOf (f : Form) (img xs : List ℕ) (notes : Notes) : Type 0 where
  pub offsets : (q : ℕ) → met notes.offsets q ≡ list_any (nat_eq q) xs
  pub keys : KeptIn f img xs notes.keys
  pub dead : DeadEnd f img xs notes.dead.items

-- after these records of a chain, the one that the word at a place leads to has no fault but maybe a twin; it has this
-- header, and is noted
pub record RecordPassed (f : Form) (j : ℕ) (img xs : List ℕ) (place at : ℕ) (r : Rec) (notes : Notes) : Type 0 where
  pub sound : fault_but_twin f (chain_number j) img xs place at ≡ None
  pub header : r ≡ rec_at f.order img at
  pub noted : NotesOf f img (xs ++ at ∷ []) notes

-- Records of chain j were walked along up to this place, whose word leads to this offset, and noted. Their extents were
-- put behind those before, and so many of them are used.
pub record Walking (f : Form) (j : ℕ) (img : List ℕ) (notes : Notes) (old new : List Extent) (live place at : ℕ) : Type 0 where
  pub xs : List ℕ
  pub walked : Walked f (chain_number j) img [] (chain_head j) xs place
  pub next : word f.order img place ≡ at
  pub noted : NotesOf f img xs notes
  pub seen : extents_seen new ≡ extents_seen old ++ extents f.order img xs
  pub used : live ≡ length (pairs f.order img xs)

-- why a walk goes no further: no record comes next, a known tail does, or what comes next has this fault
abbrev pub EndsBy : Form → ℕ → List ℕ → Notes → List ℕ → ℕ → ℕ → End → Type 0
EndsBy f j img notes xs place at Last = at ≡ 0
EndsBy f j img notes xs place at (Known least) = least_from notes.tails at ≡ Some least
EndsBy f j img notes xs place at (Fault what off) = (at ≢ 0) × (fault_but_twin f (chain_number j) img xs place at ≡ Some (what, off))

-- a walk along chain j as far as it goes
pub record WalkDone (f : Form) (j : ℕ) (img : List ℕ) (notes : Notes) (old new : List Extent) (walk : Walk) : Type 0 where
  pub place : ℕ
  pub at : ℕ
  pub so_far : Walking f j img notes old new walk.live place at
  pub ends : EndsBy f j img notes so_far.xs place at walk.end
