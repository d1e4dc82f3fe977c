-- Over a disk a turn of a machine ends for want of memory only where it takes a lock or a value.
use Rattle.std.proofs.Common.{◌≡◌, ℕ, List, true, Option, Some, refl, sym, ◌∙◌, ap, subst}
use Rattle.tdb_space.specs.Form.{Form}
use Rattle.tdb_space.specs.Spare.{Spare}
use Rattle.tdb_chain.specs.declared.place.Place.{Place}
use Rattle.tdb_locks.specs.declared.turn.Reply.{Reply}
use Rattle.tdb_locks.specs.declared.turn.Turn.{Turn}
use Rattle.tdb_locks.specs.declared.turn.Turn.TheVariants as Turns
use Rattle.tdb_law.specs.Commands as Law
use Rattle.tdb_law.specs.Commands.Command.{OnMap}
use Rattle.tdb_law.specs.Commands.Reply.{Memory}
use Rattle.tdb_law.specs.Commands.Turn.{Ends}
use Rattle.tdb_steps.specs.declared.flag.Flag.TheVariants as Flags
use Rattle.tdb_steps.specs.declared.plain.Plain.{Plain}
use Rattle.tdb_steps.specs.declared.plain.Plain.TheVariants.{Fetch, Has, Store, Append, Delete, Wipe}
use Rattle.tdb_steps.specs.declared.rows.LockRow.{LockRow}
use Rattle.tdb_steps.specs.declared.stage.Stage.{Stage}
use Rattle.tdb_steps.specs.declared.stage.WipeStage.TheVariants as Wipes
use Rattle.tdb_steps.specs.declared.stage.Next.{Next}
use Rattle.tdb_steps.specs.LockRows.{row_at, rows_of}
use Rattle.tdb_steps.specs.Order.{AnswersHas, LookOrder, LinksOn, IsAfter}
use Rattle.tdb_steps.specs.PlainCommands.{command_of, reply_of, turn_of}
use Rattle.tdb_steps.specs.Machines.{Doing}
use Rattle.tdb_steps.specs.Memory.{StarvesBounded, StarvesRightly, StarvesOutside, TakesValue, may_starve}
use Rattle.tdb_steps.proofs.Turning.{LockStage, lock_stage}
use Rattle.tdb_steps.proofs.Turning.LockStage.{lock_first, lock_second, lock_both}

-- by the kind of command
pub fetch_starves : (spare : Spare) (k : List ℕ) (stage : Stage) (next : Next) → LookOrder stage next → StarvesRightly spare (Fetch k) stage next
fetch_starves spare k Stage.Begun next order = λ is free. absurd (cc (sym order ∙ is))
fetch_starves spare k Stage.Chained next order = λ is free. tt
fetch_starves spare k (Stage.Looked found) next order = elim order [ ]
fetch_starves spare k (Stage.Listed found) next order = elim order [ ]
fetch_starves spare k (Stage.Taken found hand) next order = elim order [ ]
fetch_starves spare k (Stage.Changed hand) next order = elim order [ ]
fetch_starves spare k (Stage.Wiping locked) next order = elim order [ ]
fetch_starves spare k Stage.Ending next order = elim order [ ]

pub append_looks : (spare : Spare) (k v : List ℕ) (stage : Stage) (next : Next) → stage ≡ Stage.Chained → StarvesRightly spare (Append k v) stage next
append_looks spare k v stage next at is free = subst (TakesValue (Append k v)) (sym at) tt

pub has_starves : (spare : Spare) (command : Plain) (stage : Stage) (next : Next) → AnswersHas next → StarvesRightly spare command stage next
has_starves spare command stage next answers is free = absurd (subst AnswersHas is answers)

pub bounded_starves : (spare : Spare) (command : Plain) (stage : Stage) (next : Next) → StarvesBounded spare next → StarvesRightly spare command stage next
bounded_starves spare command stage next bounded is free = absurd (bounded is free)

pub give_starves : (spare : Spare) (next : Next) → next ≡ Next.Step Stage.Ending → StarvesBounded spare next
give_starves spare next on is free = cc (sym on ∙ is)

pub link_starves : (spare : Spare) (next : Next) → LinksOn next → StarvesBounded spare next
link_starves spare next order is free = subst LinksOn is order

-- at a turn that takes a lock
begun_starves : (f : Form) (command : Plain) (n : ℕ) → IsAfter command Stage.Begun n → may_starve f (command_of command) n ≡ true
begun_starves f (Fetch k) n is = ap (may_starve f (Law.MapCommand.Fetch k)) is
begun_starves f (Has k) n is = ap (may_starve f (Law.MapCommand.Has k)) is
begun_starves f (Store k v Flags.Replace) n is = ap (may_starve f (Law.MapCommand.Store k v)) is
begun_starves f (Store k v Flags.Insert) n is = ap (may_starve f (Law.MapCommand.Insert k v)) is
begun_starves f (Store k v Flags.Modify) n is = ap (may_starve f (Law.MapCommand.Modify k v)) is
begun_starves f (Append k v) n is = ap (may_starve f (Law.MapCommand.Append k v)) is
begun_starves f (Delete k) n is = ap (may_starve f (Law.MapCommand.Delete k)) is
begun_starves f Wipe n is = ap (may_starve f Law.MapCommand.Wipe) is

looked_starves : (f : Form) (command : Plain) (found : Option Place) (n : ℕ) → IsAfter command (Stage.Looked found) n → may_starve f (command_of command) n ≡ true
looked_starves f (Fetch k) found n is = elim is [ ]
looked_starves f (Has k) found n is = elim is [ ]
looked_starves f (Store k v Flags.Replace) found n is = ap (may_starve f (Law.MapCommand.Store k v)) is
looked_starves f (Store k v Flags.Insert) found n is = ap (may_starve f (Law.MapCommand.Insert k v)) is
looked_starves f (Store k v Flags.Modify) found n is = ap (may_starve f (Law.MapCommand.Modify k v)) is
looked_starves f (Append k v) found n is = ap (may_starve f (Law.MapCommand.Append k v)) is
looked_starves f (Delete k) found n is = ap (may_starve f (Law.MapCommand.Delete k)) is
looked_starves f Wipe found n is = elim is [ ]

wiping_starves : (f : Form) (command : Plain) (n : ℕ) → IsAfter command (Stage.Wiping Wipes.Records) n → may_starve f (command_of command) n ≡ true
wiping_starves f (Fetch k) n is = elim is [ ]
wiping_starves f (Has k) n is = elim is [ ]
wiping_starves f (Store k v flag) n is = elim is [ ]
wiping_starves f (Append k v) n is = elim is [ ]
wiping_starves f (Delete k) n is = elim is [ ]
wiping_starves f Wipe n is = ap (may_starve f Law.MapCommand.Wipe) is

lock_starves : (f : Form) (command : Plain) (n : ℕ) (stage : Stage) → LockStage stage → IsAfter command stage n → may_starve f (command_of command) n ≡ true
lock_starves f command n stage (lock_first at) is = begun_starves f command n (subst (λ x. IsAfter command x n) at is)
lock_starves f command n stage (lock_second found at) is = looked_starves f command found n (subst (λ x. IsAfter command x n) at is)
lock_starves f command n stage (lock_both at) is = wiping_starves f command n (subst (λ x. IsAfter command x n) at is)

-- at one that takes a value
value_starves : (f : Form) (command : Plain) (n : ℕ) (stage : Stage) → TakesValue command stage → IsAfter command stage n → may_starve f (command_of command) n ≡ true
value_starves f (Fetch k) n Stage.Chained takes is = ap (may_starve f (Law.MapCommand.Fetch k)) is
value_starves f (Fetch k) n Stage.Begun takes is = elim takes [ ]
value_starves f (Fetch k) n (Stage.Looked found) takes is = elim takes [ ]
value_starves f (Fetch k) n (Stage.Listed found) takes is = elim takes [ ]
value_starves f (Fetch k) n (Stage.Taken found hand) takes is = elim takes [ ]
value_starves f (Fetch k) n (Stage.Changed hand) takes is = elim takes [ ]
value_starves f (Fetch k) n (Stage.Wiping locked) takes is = elim takes [ ]
value_starves f (Fetch k) n Stage.Ending takes is = elim takes [ ]
value_starves f (Append k v) n Stage.Chained takes is = ap (may_starve f (Law.MapCommand.Append k v)) is
value_starves f (Append k v) n Stage.Begun takes is = elim takes [ ]
value_starves f (Append k v) n (Stage.Looked found) takes is = elim takes [ ]
value_starves f (Append k v) n (Stage.Listed found) takes is = elim takes [ ]
value_starves f (Append k v) n (Stage.Taken found hand) takes is = elim takes [ ]
value_starves f (Append k v) n (Stage.Changed hand) takes is = elim takes [ ]
value_starves f (Append k v) n (Stage.Wiping locked) takes is = elim takes [ ]
value_starves f (Append k v) n Stage.Ending takes is = elim takes [ ]
value_starves f (Has k) n stage takes is = elim takes [ ]
value_starves f (Store k v flag) n stage takes is = elim takes [ ]
value_starves f (Delete k) n stage takes is = elim takes [ ]
value_starves f Wipe n stage takes is = elim takes [ ]

-- a reply in the words of the law that says so
memory_reply : (r : Reply) → reply_of r ≡ Memory → r ≡ Reply.Memory
memory_reply Reply.Ok e = cc
memory_reply (Reply.Value v) e = cc
memory_reply (Reply.Pair k v) e = cc
memory_reply Reply.End e = cc
memory_reply Reply.KeyMissing e = cc
memory_reply Reply.KeyThere e = cc
memory_reply (Reply.Busy o b) e = cc
memory_reply Reply.ReadOnly e = cc
memory_reply Reply.NoTransaction e = cc
memory_reply Reply.InTransaction e = cc
memory_reply Reply.Nesting e = cc
memory_reply Reply.Doomed e = cc
memory_reply (Reply.HeldLocks n) e = cc
memory_reply Reply.NotLocked e = cc
memory_reply (Reply.Full len need) e = cc
memory_reply Reply.Memory e = refl
memory_reply Reply.Yes e = cc
memory_reply Reply.No e = cc
memory_reply (Reply.Number n) e = cc

ends_so : {r s : Law.Reply} → Ends r ≡ Ends s → r ≡ s
ends_so e = cc

memory_turn : (turn : Turn) → turn_of turn ≡ Ends Memory → turn ≡ Turns.Done Reply.Memory
memory_turn Turns.Step e = absurd (cc e)
memory_turn (Turns.Blocked owner byte) e = absurd (cc e)
memory_turn (Turns.Done r) e = ap Turns.Done (memory_reply r (ends_so e))

pub done_so : {r s : Reply} → Turns.Done r ≡ Turns.Done s → r ≡ s
done_so e = cc

map_so : {b c : Law.MapCommand} → OnMap b ≡ OnMap c → b ≡ c
map_so e = cc

-- a turn that takes a lock, and one that takes none
pub outside_lock : (f : Form) (d : Doing) (n : ℕ) (r : LockRow) (turn : Turn) → row_at (rows_of d.command d.chain) d.stage ≡ Some r → IsAfter d.command d.stage n
    → StarvesOutside f (record { command = OnMap (command_of d.command); steps = n }) (turn_of turn)
outside_lock f d n r turn at is c on e = subst (λ x. may_starve f x n ≡ true) (map_so on) (lock_starves f d.command n d.stage (lock_stage (rows_of d.command d.chain) d.stage r at) is)

pub outside_act : (f : Form) (d : Doing) (n : ℕ) (turn : Turn) → (turn ≡ Turns.Done Reply.Memory → TakesValue d.command d.stage) → IsAfter d.command d.stage n
    → StarvesOutside f (record { command = OnMap (command_of d.command); steps = n }) (turn_of turn)
outside_act f d n turn takes is c on e = subst (λ x. may_starve f x n ≡ true) (map_so on) (value_starves f d.command n d.stage (takes (memory_turn turn e)) is)
