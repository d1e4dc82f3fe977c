-- How often the disk had failed where plays or a session end, which were taken in a world that was loaded.
use Rattle.std.proofs.Common.{◌≡◌, ℕ, ◌≤◌, Result, Ok, Err, refl, ◌∙◌, subst, arith}
use Rattle.std.specs.Prelude.{Bool, IsTrue}
use Rattle.tdb_disk.specs.Count.{Rose}
use Rattle.tdb_open.specs.declared.halt.Fault.TheVariants as F
use Rattle.tdb_tool.specs.Serving.{fault_of, UnlessBroken, OnBroken}
use Rattle.tdb_tool.specs.declared.fault.SessionEnd.{SessionEnd}
use Rattle.tdb_tool.specs.declared.fault.SessionEnd.TheVariants as End
use Rattle.tdb_tool.specs.declared.fault.SessionFault.{SessionFault}
use Rattle.tdb_tool.specs.declared.fault.SessionFault.TheVariants as S
use Rattle.tdb_answer.specs.declared.ending.Ending.{Ending}
use Rattle.tdb_answer.specs.declared.ending.Ending.TheVariants.{Replied, DeviceFault, InputFault, Malformed, NoMemory, LogFault}
use Rattle.tdb_answer.specs.declared.ending.Reply.TheVariants.{Played, Dumped}
use Rattle.tdb_answer.specs.declared.ending.Unprinted.TheVariants as Rest
use Rattle.tdb_answer.specs.Commands.Session.{session_told}
use Rattle.tdb_answer.specs.Ending.{CountedIf}
use Rattle.tdb_answer.specs.Looks.{ending_of}
use Rattle.tdb_answer.specs.Playing as P
use Rattle.tdb_answer.specs.Playing.{PlaysEnd, end_told}

-- the disk hadn't failed while the file was opened
module _ (tells : Bool) (before mid after : ℕ) (same : mid ≡ before) (rises : mid ≤ after) where
  sound : (e : Ending) → (e ≡ DeviceFault → ⊥) → after ≡ mid → CountedIf tells before after e
  sound e other quiet = record {
    never_falls = omega (arith, same, rises);
    failed = λ is. absurd (other is);
    sound = λ x. quiet ∙ same;
  }

  broke : (IsTrue tells → Rose mid after) → CountedIf tells before after DeviceFault
  broke rose = record {
    never_falls = omega (arith, same, rises);
    failed = λ is told. subst (λ n. Rose n after) same (rose told);
    sound = λ other. absurd (other refl);
  }

  pub plays_counted : (answer : PlaysEnd) → P.UnlessBroken answer (after ≡ mid) → (IsTrue tells → P.OnBroken answer (Rose mid after)) → CountedIf tells before after (ending_of (end_told answer))
  plays_counted (Ok (Ok v)) quiet rose = sound (Replied Played) (λ is. cc) quiet
  plays_counted (Ok (Err F.Device)) quiet rose = broke rose
  plays_counted (Ok (Err F.Memory)) quiet rose = sound NoMemory (λ is. cc) quiet
  plays_counted (Ok (Err F.Log)) quiet rose = sound LogFault (λ is. cc) quiet
  plays_counted (Err Rest.Pairs) quiet rose = sound (Replied Dumped) (λ is. cc) quiet
  plays_counted (Err Rest.Report) quiet rose = sound (Replied Played) (λ is. cc) quiet
  plays_counted (Err Rest.Fault) quiet rose = broke rose
  plays_counted (Err Rest.Files) quiet rose = sound NoMemory (λ is. cc) quiet

  pub session_counted : (answer : Result SessionEnd SessionFault) → UnlessBroken (fault_of answer) (after ≡ mid) → (IsTrue tells → OnBroken (fault_of answer) (Rose mid after)) → CountedIf tells before after (ending_of (session_told answer))
  session_counted (Ok End.Ended) quiet rose = sound (Replied Played) (λ is. cc) quiet
  session_counted (Ok (End.Malformed at)) quiet rose = sound (Malformed at) (λ is. cc) quiet
  session_counted (Err S.Input) quiet rose = sound InputFault (λ is. cc) quiet
  session_counted (Err S.Output) quiet rose = sound (Replied Played) (λ is. cc) quiet
  session_counted (Err S.Device) quiet rose = broke rose
  session_counted (Err S.Memory) quiet rose = sound NoMemory (λ is. cc) quiet
  session_counted (Err S.Log) quiet rose = sound LogFault (λ is. cc) quiet
