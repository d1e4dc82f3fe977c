-- What a turn of a plain command does to the walks of cursors, in the words of the law (`tdb_law`).
use Rattle.std.specs.Prelude.{ℕ, ◌≡◌, ◌<◌, List, ◌++◌, Bool, true, None}
use Rattle.tdb_space.specs.Form.{Form}
use Rattle.tdb_space.specs.Chain.{Member, chain_of}
use Rattle.tdb_space.specs.Extents.{HandPair}
use Rattle.tdb_space.specs.Accepted.{AcceptWith}
use Rattle.tdb_law.specs.Commands.{Turn}
use Rattle.tdb_law.specs.Commands.Command.{OnMap}
use Rattle.tdb_law.specs.Openers.{Own}
use Rattle.tdb_law.specs.Refusals.{refusal}
use Rattle.tdb_law.specs.Walks.{Lost, Shift}
use Rattle.tdb_law.specs.Layout.{Place, IsStood, IsOffRecords, chains_in, mark_of}
use Rattle.tdb_steps.specs.declared.plain.Plain.{Plain}
use Rattle.tdb_steps.specs.declared.plain.Plain.TheVariants.{Wipe}
use Rattle.tdb_steps.specs.Stages.{hands_in}
use Rattle.tdb_steps.specs.PlainCommands.{IsKeyed, command_of}
use Rattle.tdb_steps.specs.Order.{IsAfter}
use Rattle.tdb_steps.specs.Walks.{StandInChains}
use Rattle.tdb_steps.specs.Machines.{Doing, MachineTurned, Leaves, Spares}

-- A walk beside a command stands on no record but those on which cursors stand, and beside a wipe, which holds all
-- records, on none.
abbrev pub StandsBeside : Plain → (ℕ → Bool) → Place → Type 0
StandsBeside Wipe stands place = IsOffRecords place
StandsBeside command stands place = IsStood stands place

-- Each turn of a machine outside a transaction, of an opener whose own state doesn't refuse its command, shifts every
-- walk, the opener's own and those of others: what is further on was so before, or is in a chain that isn't entered
-- yet; and what was so is so still, or is lost by what the turn does.
abbrev pub TurnsShift : Type 0
TurnsShift =
    (f : Form) (a b : List ℕ) (d e : Doing) (n : ℕ) (turn : Turn) (others : List HandPair) (x : Own) (stands : ℕ → Bool) (place : Place) (mine : Bool)
    → AcceptWith f a (hands_in d.stage ++ others) → MachineTurned f a b d e n turn others → IsAfter d.command d.stage n → Leaves d e n turn
    → x.txn ≡ None → refusal f (OnMap (command_of d.command)) x ≡ None → StandInChains f a stands → Spares stands e turn → StandsBeside d.command stands place
    → Shift f (Lost f (OnMap (command_of d.command)) n x turn mine (mark_of f (chains_in f a) place)) (mark_of f (chains_in f a) place) (mark_of f (chains_in f b) place)

-- Each record on which a cursor stands is one of its chain still after a turn of a command on a key.
abbrev pub StoodStay : Type 0
StoodStay =
    (f : Form) (a b : List ℕ) (d e : Doing) (n : ℕ) (turn : Turn) (others : List HandPair) (stands : ℕ → Bool) → AcceptWith f a (hands_in d.stage ++ others) → MachineTurned f a b d e n turn others → IsKeyed d.command
    → StandInChains f a stands → Spares stands e turn → (j p : ℕ) → j < f.chains → stands p ≡ true → Member p (chain_of f a j) → Member p (chain_of f b j)
