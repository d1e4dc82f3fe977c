-- What a run of a session leaves and has printed, from how it ended and what the output took.
use Rattle.std.proofs.Common.{◌≡◌, ◌⊎◌, ℕ, List, [], ◌++◌, take, Option, Some, Result, Ok, Err, refl, sym, ◌∙◌, ap, subst, inl, inr, arith}
use Rattle.std.specs.Prelude.{Bool, IsTrue}
use Rattle.std.proofs.lemmas.Bool.{false≢true}
use Rattle.std.proofs.lemmas.List.{append-nil}
use Rattle.tdb_disk.specs.History.{History, seen}
use Rattle.tdb_space.specs.Form.{form_of}
use Rattle.tdb_world.specs.Courses.Hearing.{HeardUpTo}
use Rattle.tdb_log.specs.Logs.{Logged}
use Rattle.tdb_log.specs.declared.log.LogRefusal.TheVariants as Unheard
use Rattle.tdb_commands.specs.declared.line.Line.{Line}
use Rattle.tdb_tool.proofs.Wholes.{begins, over_comes}
use Rattle.tdb_tool.specs.Whole.{CameSo, SaidSo, StopsOpen}
use Rattle.tdb_tool.specs.declared.fault.SessionEnd.{SessionEnd}
use Rattle.tdb_tool.specs.declared.fault.SessionEnd.TheVariants as End
use Rattle.tdb_tool.specs.declared.fault.SessionFault.{SessionFault}
use Rattle.tdb_tool.specs.declared.fault.SessionFault.TheVariants as F
use Rattle.tdb_answer.specs.declared.ending.Ending.{Ending}
use Rattle.tdb_answer.specs.declared.ending.Ending.TheVariants.{Replied, Refused, DeviceFault, InputFault, Malformed, NoMemory, LogFault}
use Rattle.tdb_answer.specs.declared.ending.Reply.TheVariants.{Played}
use Rattle.tdb_answer.specs.declared.ending.Unprinted.{Unprinted}
use Rattle.tdb_open.specs.declared.halt.Halt.TheVariants as H
use Rattle.tdb_open.specs.declared.halt.Refusal.{Refusal}
use Rattle.tdb_answer.specs.Commands.Session.{session_options, of_end, IsServed, IsServedSoFar, IsServedBroken, SessionOn, SessionFile, file_unopened, session_ran, SessionHeld}
use Rattle.tdb_tool.specs.Serving.{fault_of, HeardOrRefused, HeardSo}
use Rattle.tdb_answer.specs.Ending.{status_of, text_of, PrintedFor, PrintsAll, CountedBy}
use Rattle.tdb_answer.specs.Input.{Input}
use Rattle.tdb_answer.specs.Looks.{ending_of}
use Rattle.tdb_answer.specs.Output.{Output, output_by}
use Rattle.tdb_answer.specs.Printed.{Finishes}
use Rattle.tdb_open.specs.Opening.{SameOrUndone}
use Rattle.tdb_answer.specs.Run.{HaltHeard, SessionBroken, SessionRun}
use Rattle.tdb_answer.proofs.Runs.{Exits, refusal_status, log_exits, log_no_keep, refusal_apart, refused_seven, fault_exits, fault_no_done, fault_no_keep, memory_exits, memory_apart, memory_no_keep, opened_same, played_exits, played_kept, unheard_exits, malformed_exits, malformed_kept, malformed_four, either_not}
use Rattle.tdb_answer.proofs.Held.{same_held}
use Rattle.tdb_top.proofs.StopsServing.{begun_since, so_since, whole_since}

module _ (limit : ℕ) (input : Input) (tells : Bool) (w0 w1 w2 : List ℕ) (f0 f1 f2 : ℕ) (old now : History) (logs later : List Logged) where
  abbrev Out : Output
  Out = output_by tells w0 w2 f0 f2

  abbrev On : Result SessionEnd SessionFault → Type 0
  On answer = SessionOn limit input old now tells w0 w1 logs later answer

  abbrev More : Type 0
  More = IsTrue tells → (more : List ℕ) × (w2 ≡ w1 ++ more)

  abbrev SoFar : (List Logged → List Line → List Logged → Type 0) → Type 0
  SoFar Hears = IsServedSoFar limit input Out old now logs later Hears

  -- what is said of the lines of one that ended so
  abbrev Said : (answer : Result SessionEnd SessionFault) → On answer → List Line → Type 0
  Said answer on = SaidSo (form_of (seen on.opened)) (session_options limit) on.opened now on.mid later (fault_of answer)

  -- a session as far as it came
  so_far : (answer : Result SessionEnd SessionFault) (on : On answer) (Hears : List Logged → List Line → List Logged → Type 0) → ((lines : List Line) → HeardSo (fault_of answer) on.mid lines later → Hears on.mid lines later)
      → CameSo (form_of (seen on.opened)) (session_options limit) (seen on.opened) (seen now) input.tells input.text tells w0 w1 (StopsOpen (form_of (seen on.opened)) on.opened now) (Said answer on) → More → SoFar Hears
  so_far answer on Hears softer came more = record {
    opened = on.opened;
    is_opened = on.is_opened;
    mid = on.mid;
    opening = on.opening;
    told = w1;
    came = so_since limit input old now tells w0 w1 logs later answer on (Said answer on) (λ lines. Hears on.mid lines later) (λ lines said. softer lines said.0) came;
    rest = more;
  }

  whole_came : (end : SessionEnd) → On (Ok end) → More → SoFar HeardOrRefused
  whole_came end on more =
      so_far (Ok end) on HeardOrRefused (λ lines heard. inl heard) (
        on.ran.0,
        λ heard. begins input.text on.ran.0 end (on.ran.1 heard),
        on.ran.2.new,
        over_comes (form_of (seen on.opened)) (session_options limit) (seen on.opened) on.ran.0 (seen now) tells w0 w1 (StopsOpen (form_of (seen on.opened)) on.opened now) (Said (Ok end) on) on.ran.2,
        on.ran.2.left,
      ) more

  -- one that a failed call broke off
  broken : On (Err F.Device) → More → IsServedBroken limit input Out old now logs later
  broken on more = record {
    opened = on.opened;
    is_opened = on.is_opened;
    mid = on.mid;
    opening = on.opening;
    orders = on.ran.0;
    asks = on.ran.1;
    told = w1;
    left = on.ran.2;
    came = begun_since limit input old now tells w0 w1 logs later (Err F.Device) on (Said (Err F.Device) on) (λ lines. HeardOrRefused on.mid lines later) (λ lines said. said.0) on.ran.0 on.ran.2 on.ran.3;
    rest = more;
  }

  module _ (before after : ℕ) (e : Ending) (status : ℕ) where
    -- what stands behind the replies: the line, or a part of it
    line_more : (found : Ending) → Finishes (Ok found) (output_by tells w1 w2 f1 f2) e status → More
    line_more found (inl all) told = (text_of e, all.written told)
    line_more found (inr part) told = let p = part.written told in (take p.0 (text_of e), p.1)

    -- a session that was taken to its end
    whole : (end : SessionEnd) → On (Ok end) → e ≡ of_end end → PrintsAll (output_by tells w1 w2 f1 f2) e status → IsServed limit input Out end old now logs later
    whole end on same all = record {
      opened = on.opened;
      is_opened = on.is_opened;
      mid = on.mid;
      opening = on.opening;
      orders = on.ran.0;
      asks = on.ran.1;
      told = w1;
      over = whole_since limit input old now tells w0 w1 logs later end on;
      line = λ told. all.written told ∙ ap (λ x. w1 ++ text_of x) same;
    }

    ended : On (Ok End.Ended) → PrintedFor e (Replied Played) → Finishes (Ok (Replied Played)) (output_by tells w1 w2 f1 f2) e status → status ≡ 0 → IsServed limit input Out End.Ended old now logs later
    ended on (inl same) (inl all) is = whole End.Ended on same all
    ended on (inl same) (inr part) is = absurd (omega (arith, part.exits, is))
    ended on (inr want) finishes is = absurd (false≢true want.1)

    malformed : (at : ℕ) → On (Ok (End.Malformed at)) → PrintedFor e (Malformed at) → Finishes (Ok (Malformed at)) (output_by tells w1 w2 f1 f2) e status → status ≡ 7 → IsServed limit input Out (End.Malformed at) old now logs later
    malformed at on (inl same) (inl all) is = whole (End.Malformed at) on same all
    malformed at on (inl same) (inr part) is = absurd (omega (arith, part.exits, is))
    malformed at on (inr want) (inl all) is = absurd (omega (arith, ap status_of want.0, all.exits, is))
    malformed at on (inr want) (inr part) is = absurd (omega (arith, part.exits, is))

    -- a refusal has no status of a log
    refused_ten : (refusal : Refusal) → Exits status (Refused refusal) → status ≡ 10 → ⊥
    refused_ten refusal (inl own) is = of (refusal_status refusal)
      where
        of : (status_of (Refused refusal) ≡ 3) ⊎ (status_of (Refused refusal) ≡ 6) → ⊥
        of (inl three) = absurd (omega (arith, own, is, three))
        of (inr six) = absurd (omega (arith, own, is, six))
    refused_ten refusal (inr (inl want)) is = absurd (omega (arith, want.0, is))
    refused_ten refusal (inr (inr eight)) is = absurd (omega (arith, eight, is))

    abbrev Runs : Type 0
    Runs = SessionRun limit input Out old before after status now logs later

    broke : SessionBroken limit input Out old now logs later → Exits status DeviceFault → CountedBy before after DeviceFault → Runs
    broke heard out counted =
        let ends = fault_exits before after status out in
        record {
          any = inr (inr (counted.failed refl, heard));
          done = λ is. absurd (fault_no_done before after status ends is);
          malformed = λ is. absurd (either_not before after status 4 8 7 (λ z. absurd (omega (arith, z))) (λ z. absurd (omega (arith, z))) ends is);
          failed = λ is. (counted.failed refl, heard);
          wanting = λ is. absurd (either_not before after status 4 8 5 (λ z. absurd (omega (arith, z))) (λ z. absurd (omega (arith, z))) ends is);
          logged = λ is. absurd (either_not before after status 4 8 10 (λ z. absurd (omega (arith, z))) (λ z. absurd (omega (arith, z))) ends is);
          kept = λ keeps five seven. absurd (fault_no_keep before after status ends keeps);
          halted = λ keeps five seven. absurd (fault_no_keep before after status ends keeps);
        }

    -- a session that memory was wanting for, or in whose midst the input, the output or a log failed
    midway : SoFar HeardOrRefused → Exits status NoMemory → Runs
    midway came out =
        let ends = memory_exits before after status out in
        record {
          any = inr (inl came);
          done = λ is. absurd (memory_apart before after status ends (inl is));
          malformed = λ is. absurd (either_not before after status 5 8 7 (λ z. absurd (omega (arith, z))) (λ z. absurd (omega (arith, z))) ends is);
          failed = λ is. absurd (memory_apart before after status ends (inr is));
          wanting = λ is. inr came;
          logged = λ is. absurd (either_not before after status 5 8 10 (λ z. absurd (omega (arith, z))) (λ z. absurd (omega (arith, z))) ends is);
          kept = λ keeps five seven. absurd (memory_no_keep before after status ends keeps five);
          halted = λ keeps five seven. absurd (memory_no_keep before after status ends keeps five);
        }

    cut : SoFar HeardOrRefused → status ≡ 8 → Runs
    cut came eight = record {
      any = inr (inl came);
      done = λ is. absurd (omega (arith, eight, is));
      malformed = λ is. absurd (omega (arith, eight, is));
      failed = λ is. absurd (omega (arith, eight, is));
      wanting = λ is. inr came;
      logged = λ is. absurd (omega (arith, eight, is));
      kept = λ keeps five seven. absurd (keeps.2 eight);
      halted = λ keeps five seven. absurd (keeps.2 eight);
    }

    logged : SoFar HeardOrRefused → SoFar (HeardUpTo Unheard.Failed) → Exits status LogFault → Runs
    logged came upto out =
        let ends = log_exits before after status out in
        record {
          any = inr (inl came);
          done = λ is. absurd (either_not before after status 10 8 0 (λ z. absurd (omega (arith, z))) (λ z. absurd (omega (arith, z))) ends is);
          malformed = λ is. absurd (either_not before after status 10 8 7 (λ z. absurd (omega (arith, z))) (λ z. absurd (omega (arith, z))) ends is);
          failed = λ is. absurd (either_not before after status 10 8 4 (λ z. absurd (omega (arith, z))) (λ z. absurd (omega (arith, z))) ends is);
          wanting = λ is. inr came;
          logged = λ is. inr upto;
          kept = λ keeps five seven. absurd (log_no_keep before after status ends keeps);
          halted = λ keeps five seven. absurd (log_no_keep before after status ends keeps);
        }

    pub session_run : (r : Result Ending Unprinted) → SessionFile limit input old now tells w0 w1 logs later r → PrintedFor e (ending_of r) → Finishes r (output_by tells w1 w2 f1 f2) e status → CountedBy before after (ending_of r) → Exits status (ending_of r) → Runs
    session_run _ (file_unopened (H.Refused refusal) opened safe same heard) printed finishes counted out =
        let only : SameOrUndone old now × HaltHeard limit (seen old) logs later = (opened_same (session_options limit) old now opened.1, (H.Refused refusal, heard)) in
        record {
          any = inl only;
          done = λ is. absurd (refusal_apart before after status refusal out (inl is));
          malformed = λ is. absurd (refused_seven before after status refusal out is);
          failed = λ is. absurd (refusal_apart before after status refusal out (inr is));
          wanting = λ is. inl only;
          logged = λ is. absurd (refused_ten refusal out is);
          kept = λ keeps five seven. opened.1;
          halted = λ keeps five seven. (H.Refused refusal, heard);
        }
    session_run _ (file_unopened H.Device opened safe same heard) printed finishes counted out = broke (inl heard) out counted
    session_run _ (file_unopened H.Memory opened safe same heard) printed finishes counted out =
        let ends = memory_exits before after status out in
        record {
          any = inl (opened, (H.Memory, heard));
          done = λ is. absurd (memory_apart before after status ends (inl is));
          malformed = λ is. absurd (either_not before after status 5 8 7 (λ z. absurd (omega (arith, z))) (λ z. absurd (omega (arith, z))) ends is);
          failed = λ is. absurd (memory_apart before after status ends (inr is));
          wanting = λ is. inl (opened, (H.Memory, heard));
          logged = λ is. absurd (either_not before after status 5 8 10 (λ z. absurd (omega (arith, z))) (λ z. absurd (omega (arith, z))) ends is);
          kept = λ keeps five seven. absurd (memory_no_keep before after status ends keeps five);
          halted = λ keeps five seven. absurd (memory_no_keep before after status ends keeps five);
        }
    session_run _ (file_unopened H.Log opened safe same heard) printed finishes counted out =
        let ends = log_exits before after status out in
        record {
          any = inl (opened, (H.Log, heard));
          done = λ is. absurd (either_not before after status 10 8 0 (λ z. absurd (omega (arith, z))) (λ z. absurd (omega (arith, z))) ends is);
          malformed = λ is. absurd (either_not before after status 10 8 7 (λ z. absurd (omega (arith, z))) (λ z. absurd (omega (arith, z))) ends is);
          failed = λ is. absurd (either_not before after status 10 8 4 (λ z. absurd (omega (arith, z))) (λ z. absurd (omega (arith, z))) ends is);
          wanting = λ is. inl (opened, (H.Log, heard));
          logged = λ is. inl (opened, heard);
          kept = λ keeps five seven. absurd (log_no_keep before after status ends keeps);
          halted = λ keeps five seven. absurd (log_no_keep before after status ends keeps);
        }
    session_run _ (session_ran (Ok End.Ended) on) printed finishes counted out =
        let ends = played_exits before after status Played refl out in
        record {
          any = inr (inl (whole_came End.Ended on (line_more (Replied Played) finishes)));
          done = λ is. ended on printed finishes is;
          malformed = λ is. absurd (either_not before after status 0 8 7 (λ z. absurd (omega (arith, z))) (λ z. absurd (omega (arith, z))) ends is);
          failed = λ is. absurd (either_not before after status 0 8 4 (λ z. absurd (omega (arith, z))) (λ z. absurd (omega (arith, z))) ends is);
          wanting = λ is. inr (whole_came End.Ended on (line_more (Replied Played) finishes));
          logged = λ is. absurd (either_not before after status 0 8 10 (λ z. absurd (omega (arith, z))) (λ z. absurd (omega (arith, z))) ends is);
          kept = λ keeps five seven. absurd (played_kept before after status ends keeps);
          halted = λ keeps five seven. absurd (played_kept before after status ends keeps);
        }
    session_run _ (session_ran (Ok (End.Malformed at)) on) printed finishes counted out =
        let ends = malformed_exits before after status at out in
        record {
          any = inr (inl (whole_came (End.Malformed at) on (line_more (Malformed at) finishes)));
          done = λ is. absurd (no_zero ends is);
          malformed = λ is. (at, malformed at on printed finishes is);
          failed = λ is. absurd (malformed_four before after status ends is);
          wanting = λ is. inr (whole_came (End.Malformed at) on (line_more (Malformed at) finishes));
          logged = λ is. absurd (no_ten ends is);
          kept = λ keeps five seven. absurd (malformed_kept before after status ends keeps five seven);
          halted = λ keeps five seven. absurd (malformed_kept before after status ends keeps five seven);
        }
      where
        no_zero : (status ≡ 7) ⊎ (status ≡ 5) ⊎ (status ≡ 8) → status ≡ 0 → ⊥
        no_zero (inl is) zero = absurd (omega (arith, is, zero))
        no_zero (inr (inl is)) zero = absurd (omega (arith, is, zero))
        no_zero (inr (inr is)) zero = absurd (omega (arith, is, zero))

        no_ten : (status ≡ 7) ⊎ (status ≡ 5) ⊎ (status ≡ 8) → status ≡ 10 → ⊥
        no_ten (inl is) ten = absurd (omega (arith, is, ten))
        no_ten (inr (inl is)) ten = absurd (omega (arith, is, ten))
        no_ten (inr (inr is)) ten = absurd (omega (arith, is, ten))
    session_run _ (session_ran (Err F.Input) on) printed finishes counted out =
        cut (so_far (Err F.Input) on HeardOrRefused (λ lines heard. inl heard) on.ran (line_more InputFault finishes)) (unheard_exits before after status out)
    session_run _ (session_ran (Err F.Output) on) printed finishes counted out =
        cut (so_far (Err F.Output) on HeardOrRefused (λ lines heard. heard) on.ran (λ told. ([], finishes.2 ∙ sym (append-nil w1)))) finishes.1
    session_run _ (session_ran (Err F.Device) on) printed finishes counted out = broke (inr (broken on (line_more DeviceFault finishes))) out counted
    session_run _ (session_ran (Err F.Log) on) printed finishes counted out =
        let more = line_more LogFault finishes in
        logged (so_far (Err F.Log) on HeardOrRefused (λ lines heard. inr (Unheard.Failed, heard)) on.ran more) (so_far (Err F.Log) on (HeardUpTo Unheard.Failed) (λ lines heard. heard) on.ran more) out
    session_run _ (session_ran (Err F.Memory) on) printed finishes counted out =
        midway (so_far (Err F.Memory) on HeardOrRefused (λ lines heard. heard) on.ran (line_more NoMemory finishes)) out

-- a session over what is held at the name of its file
pub session_by : (limit : ℕ) (input : Input) (tells : Bool) (w0 w1 w2 : List ℕ) (f0 f1 f2 before after : ℕ) (e : Ending) (status : ℕ) (r : Result Ending Unprinted) → PrintedFor e (ending_of r) → Finishes r (output_by tells w1 w2 f1 f2) e status
    → CountedBy before after (ending_of r) → Exits status (ending_of r) → (held given : Option History) (logs later : List Logged) → SessionHeld limit input held given tells w0 w1 logs later r
    → (old now : History) → held ≡ Some old → given ≡ Some now → SessionRun limit input (output_by tells w0 w2 f0 f2) old before after status now logs later
session_by limit input tells w0 w1 w2 f0 f1 f2 before after e status r printed finishes counted out held given logs later served old now there is =
    let at = subst (λ o. SessionHeld limit input o given tells w0 w1 logs later r) there served in
    session_run limit input tells w0 w1 w2 f0 f1 f2 old now logs later before after e status r (subst (λ h. SessionFile limit input old h tells w0 w1 logs later r) (same_held at.0 now given at.1 is) at.2) printed finishes counted out
