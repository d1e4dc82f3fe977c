-- What the commands do with a file that is there: what each replies, and what it leaves of the file.
use Rattle.std.specs.Prelude.{◌≡◌, ◌≢◌, ◌⊎◌, ◌≤◌, ℕ, List, length, Result, Ok, Err}
use Rattle.tdb_disk.specs.History.{History, seen}
use Rattle.tdb_cmdline.specs.declared.act.Act.{Act}
use Rattle.tdb_cmdline.specs.declared.act.Verb.{Verb}
use Rattle.tdb_cmdline.specs.declared.act.Verb.TheVariants.{Show, Insert, Store, Delete, Erase, Check, First, Next, TransactionStart, TransactionCommit, TransactionCancel, Quit}
use Rattle.tdb_answer.specs.declared.ending.Reply.{Reply}
use Rattle.tdb_answer.specs.declared.ending.Reply.TheVariants.{Done}
use Rattle.tdb_open.specs.declared.halt.Fault.{Fault}
use Rattle.tdb_open.specs.declared.halt.Fault.TheVariants as F
use Rattle.tdb_open.specs.declared.halt.Halt.{Halt}
use Rattle.tdb_open.specs.declared.halt.Halt.TheVariants.{Refused, Device, Memory, Log}
use Rattle.tdb_open.specs.Opening.{opened_bytes, CanOpen, UndoneIfOpen, LookBroken, IsRefusedBelow, OpenedBelow}
use Rattle.tdb_answer.specs.Commands.Show.{show_reply}
use Rattle.tdb_answer.specs.Commands.Check.{check_reply}
use Rattle.tdb_answer.specs.Commands.Insert.{insert_reply}
use Rattle.tdb_answer.specs.Commands.Store.{store_reply, Stores, StoreBroken}
use Rattle.tdb_answer.specs.Commands.Delete.{delete_reply, Deletes, DeleteBroken}
use Rattle.tdb_answer.specs.Commands.Erase.{erase_reply, Erases, EraseBroken}
use Rattle.tdb_answer.specs.Commands.First.{first_reply, next_reply}
use Rattle.tdb_answer.specs.Commands.Transaction.{start_reply, commit_reply, cancel_reply}
use Rattle.tdb_answer.specs.Commands.Quit.{quit_reply}

-- what is replied over a file that is read as these bytes and may have so many, and what an act replies so
abbrev pub verb_reply : ℕ → Verb → List ℕ → Reply
verb_reply limit (Show key) img = show_reply key img
verb_reply limit (Insert key value) img = insert_reply limit key value img
verb_reply limit (Store key value) img = store_reply limit key value img
verb_reply limit (Delete key) img = delete_reply key img
verb_reply limit Erase img = erase_reply img
verb_reply limit Check img = check_reply img
verb_reply limit First img = first_reply img
verb_reply limit Next img = next_reply img
verb_reply limit TransactionStart img = start_reply img
verb_reply limit TransactionCommit img = commit_reply img
verb_reply limit TransactionCancel img = cancel_reply img
verb_reply limit Quit img = quit_reply img

abbrev pub reply_of : Act → List ℕ → Reply
reply_of act img = verb_reply act.limit act.verb img

-- what an act leaves of an opened file that may have so many bytes, where it replies that it is done; a transaction
-- that was started is cancelled at the end, and no other act that changes nothing replies so
abbrev pub Does : ℕ → Verb → History → History → Type 0
Does limit (Show key) old now = now ≡ old
Does limit (Insert key value) old now = Stores limit key value old now
Does limit (Store key value) old now = Stores limit key value old now
Does limit (Delete key) old now = Deletes key old now
Does limit Erase old now = Erases old now
Does limit Check old now = now ≡ old
Does limit First old now = now ≡ old
Does limit Next old now = now ≡ old
Does limit TransactionStart old now = now ≡ old
Does limit TransactionCommit old now = now ≡ old
Does limit TransactionCancel old now = now ≡ old
Does limit Quit old now = now ≡ old

-- what a call that failed in the midst of an act leaves of an opened file
abbrev pub Breaks : Verb → History → History → Type 0
Breaks (Show key) old now = now ≡ old
Breaks (Insert key value) old now = StoreBroken key old now
Breaks (Store key value) old now = StoreBroken key old now
Breaks (Delete key) old now = DeleteBroken key old now
Breaks Erase old now = EraseBroken old now
Breaks Check old now = now ≡ old
Breaks First old now = now ≡ old
Breaks Next old now = now ≡ old
Breaks TransactionStart old now = now ≡ old
Breaks TransactionCommit old now = now ≡ old
Breaks TransactionCancel old now = now ≡ old
Breaks Quit old now = now ≡ old

-- what an act leaves of an opened file: what it is to do where it replies that it is done, else the file as it was
pub record Leaves (limit : ℕ) (verb : Verb) (old now : History) : Type 0 where
  pub done : verb_reply limit verb (seen old) ≡ Done → Does limit verb old now
  pub kept : verb_reply limit verb (seen old) ≢ Done → now ≡ old

-- how an act on an opened file ends, and what it leaves of it; it tells no log
abbrev pub Acted : ℕ → Verb → History → History → Result Reply Fault → Type 0
Acted limit verb old now (Ok reply) = (reply ≡ verb_reply limit verb (seen old)) × Leaves limit verb old now
Acted limit verb old now (Err F.Device) = Breaks verb old now
Acted limit verb old now (Err F.Memory) = now ≡ old
Acted limit verb old now (Err F.Log) = ⊥

-- The same where the last log is told then that the file grew. That may not take it; the act stands then.
abbrev pub ActedAndTold : ℕ → Verb → History → History → Result Reply Fault → Type 0
ActedAndTold limit verb old now (Ok reply) = Acted limit verb old now (Ok reply)
ActedAndTold limit verb old now (Err F.Device) = Breaks verb old now
ActedAndTold limit verb old now (Err F.Memory) = now ≡ old
ActedAndTold limit verb old now (Err F.Log) = Leaves limit verb old now

-- the file was opened, and then an act replied: what is left of it
pub record Left (act : Act) (old now : History) : Type 0 where
  pub opened : History
  pub undone : UndoneIfOpen old opened
  pub reads : seen opened ≡ opened_bytes (seen old)
  pub leaves : Leaves act.limit act.verb opened now

-- the file was opened, and then a call failed in the midst of an act
pub record Broken (act : Act) (old now : History) : Type 0 where
  pub opened : History
  pub undone : UndoneIfOpen old opened
  pub reads : seen opened ≡ opened_bytes (seen old)
  pub breaks : Breaks act.verb opened now

-- a call failed in the midst of the opening, or of the act
abbrev pub Interrupted : Act → History → History → Type 0
Interrupted act old now = LookBroken old now ⊎ Broken act old now

-- how an act on a file ends that has to be opened first, and what it leaves of it
abbrev pub OpenedAndActed : Act → History → History → Result Reply Halt → Type 0
OpenedAndActed act old now (Ok reply) =
    (length (seen old) ≤ act.limit) × CanOpen (seen old) × (reply ≡ reply_of act (opened_bytes (seen old))) × Left act old now
OpenedAndActed act old now (Err (Refused refusal)) = IsRefusedBelow act.limit (seen old) refusal × OpenedBelow act.limit old now
OpenedAndActed act old now (Err Device) = Interrupted act old now
OpenedAndActed act old now (Err Memory) = UndoneIfOpen old now
OpenedAndActed act old now (Err Log) = UndoneIfOpen old now ⊎ Left act old now
