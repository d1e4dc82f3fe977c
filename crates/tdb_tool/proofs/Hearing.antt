-- What logs hear of the parts of a session.
use Rattle.std.proofs.Common.{List, ◌++◌, Option, None, Some, Result, Ok, Err, inl, inr}
use Rattle.tdb_world.specs.Courses.Hearing.{Heard, HeardBy}
use Rattle.tdb_world.proofs.Courses.HeardLines.{heard_joined, heard_then_refused}
use Rattle.tdb_log.specs.Logs.{Logged}
use Rattle.tdb_log.specs.declared.log.LogRefusal.{LogRefusal}
use Rattle.tdb_log.specs.declared.log.LogRefusal.TheVariants as Unheard
use Rattle.tdb_commands.specs.declared.line.Line.{Line}
use Rattle.tdb_tool.specs.declared.fault.SessionFault.{SessionFault}
use Rattle.tdb_tool.specs.declared.fault.SessionFault.TheVariants as F
use Rattle.tdb_tool.specs.Serving.{HeardOrRefused, HeardSo}

module _ (old mid new : List Logged) (front rest : List Line) where
  or_refused : Heard old front mid → HeardOrRefused mid rest new → HeardOrRefused old (front ++ rest) new
  or_refused heard (inl all) = inl (heard_joined old mid new front rest heard all)
  or_refused heard (inr (refusal, up_to)) = inr (refusal, heard_then_refused refusal old mid new front rest heard up_to)

  -- lines that were heard whole, and others behind them
  pub heard_after : (answer : Option SessionFault) → Heard old front mid → HeardSo answer mid rest new → HeardSo answer old (front ++ rest) new
  heard_after None heard so = heard_joined old mid new front rest heard so
  heard_after (Some F.Input) heard so = heard_joined old mid new front rest heard so
  heard_after (Some F.Output) heard so = or_refused heard so
  heard_after (Some F.Device) heard so = or_refused heard so
  heard_after (Some F.Log) heard so = heard_then_refused Unheard.Failed old mid new front rest heard so
  heard_after (Some F.Memory) heard so = or_refused heard so

-- lines of which nothing broke off the plays: all was heard, or a log refused
pub heard_or_refused : (old new : List Logged) (lines : List Line) (told : Result (Unit {0}) LogRefusal) → HeardBy old lines new (Ok told) → HeardOrRefused old lines new
heard_or_refused old new lines (Ok unit) heard = inl heard
heard_or_refused old new lines (Err refusal) heard = inr (refusal, heard)

-- whatever broke off, all was heard or a log refused
pub heard_or_not : (answer : Option SessionFault) (old new : List Logged) (lines : List Line) → HeardSo answer old lines new → HeardOrRefused old lines new
heard_or_not None old new lines heard = inl heard
heard_or_not (Some F.Input) old new lines heard = inl heard
heard_or_not (Some F.Output) old new lines heard = heard
heard_or_not (Some F.Device) old new lines heard = heard
heard_or_not (Some F.Log) old new lines heard = inr (Unheard.Failed, heard)
heard_or_not (Some F.Memory) old new lines heard = heard
