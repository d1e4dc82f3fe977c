-- What logs heard of the lines of plays, from play to play.
use Rattle.std.proofs.Common.{ℕ, zero, suc, List, ◌++◌, Result, Ok, Err, refl, sym, subst, inl, inr}
use Rattle.tdb_law.specs.World.{State}
use Rattle.tdb_commands.specs.declared.line.Line.{Line}
use Rattle.tdb_log.specs.Logs.{Logged}
use Rattle.tdb_log.specs.declared.log.LogRefusal.{LogRefusal}
use Rattle.tdb_log.specs.declared.log.LogRefusal.TheVariants as Unlogged
use Rattle.tdb_world.specs.Courses.Hearing.{Heard, HeardBy}
use Rattle.tdb_world.specs.Courses.Unfinished.{TellsUnfinished}
use Rattle.tdb_world.proofs.Courses.HeardLines.{heard_joined}
use Rattle.tdb_dump.specs.declared.writer.WriteRefusal.{WriteRefusal}
use Rattle.tdb_dump.specs.declared.writer.WriteRefusal.TheVariants as Untold
use Rattle.tdb_openers.specs.declared.fault.RunFault.{RunFault}
use Rattle.tdb_openers.specs.declared.fault.RunFault.TheVariants as Run
use Rattle.tdb_open.specs.declared.halt.Fault.TheVariants as F
use Rattle.tdb_tool.specs.Serving.{HeardSo}
use Rattle.tdb_answer.specs.Playing.{PlaysEnd, IsUnbroken, broke_off, end_of}
use Rattle.tdb_answer.specs.declared.ending.Unprinted.TheVariants as Rest

-- lines of unfinished commands tell logs nothing
heard_ends : (s : State) (o n : ℕ) (lines : List Line) (logs : List Logged) → TellsUnfinished s o n lines → Heard logs lines logs
heard_ends s o zero lines logs is = subst (λ ls. Heard logs ls logs) (sym is) refl
heard_ends s o (suc n) lines logs (inl one) = subst (λ ls. Heard logs ls logs) (sym one.2) (logs, refl, heard_ends s (suc o) n one.1 logs one.3)
heard_ends s o (suc n) lines logs (inr none) = heard_ends s (suc o) n lines logs none.1

-- behind lines that were heard whole
pub heard_more : (s : State) (o n : ℕ) (lines more : List Line) (logs later : List Logged) → TellsUnfinished s o n more → Heard logs lines later → Heard logs (lines ++ more) later
heard_more s o n lines more logs later ends heard = heard_joined logs later later lines more heard (heard_ends s o n more later ends)

-- lines that were heard whole, where what came behind them ended so
pub heard_whole : (answer : PlaysEnd) (logs later : List Logged) (lines : List Line) → IsUnbroken answer → Heard logs lines later → HeardSo (broke_off answer) logs lines later
heard_whole (Ok (Ok v)) logs later lines un heard = heard
heard_whole (Ok (Err F.Device)) logs later lines un heard = absurd un
heard_whole (Ok (Err F.Memory)) logs later lines un heard = inl heard
heard_whole (Ok (Err F.Log)) logs later lines un heard = absurd un
heard_whole (Err Rest.Report) logs later lines un heard = inl heard
heard_whole (Err Rest.Fault) logs later lines un heard = absurd un
heard_whole (Err Rest.Pairs) logs later lines un heard = absurd un
heard_whole (Err Rest.Files) logs later lines un heard = absurd un

-- plays that were taken, and then told
pub heard_end : (logs later : List Logged) (lines : List Line) (played : Result (Result (Unit {0}) LogRefusal) RunFault) (untold : Result (Unit {0}) WriteRefusal) → HeardBy logs lines later played → HeardSo (broke_off (end_of played untold)) logs lines later
heard_end logs later lines (Ok (Ok v)) (Ok w) heard = heard
heard_end logs later lines (Ok (Ok v)) (Err Untold.Memory) heard = inl heard
heard_end logs later lines (Ok (Ok v)) (Err Untold.Failed) heard = inl heard
heard_end logs later lines (Ok (Err Unlogged.Failed)) (Ok w) heard = heard
heard_end logs later lines (Ok (Err Unlogged.Memory)) (Ok w) heard = inr (Unlogged.Memory, heard)
heard_end logs later lines (Ok (Err Unlogged.Failed)) (Err Untold.Memory) heard = inr (Unlogged.Failed, heard)
heard_end logs later lines (Ok (Err Unlogged.Memory)) (Err Untold.Memory) heard = inr (Unlogged.Memory, heard)
heard_end logs later lines (Ok (Err refusal)) (Err Untold.Failed) heard = inr (refusal, heard)
heard_end logs later lines (Err Run.Memory) (Ok w) heard = heard
heard_end logs later lines (Err Run.Memory) (Err Untold.Memory) heard = heard
heard_end logs later lines (Err Run.Memory) (Err Untold.Failed) heard = heard
heard_end logs later lines (Err Run.Io) (Ok w) heard = heard
heard_end logs later lines (Err Run.Io) (Err Untold.Memory) heard = heard
heard_end logs later lines (Err Run.Io) (Err Untold.Failed) heard = heard
