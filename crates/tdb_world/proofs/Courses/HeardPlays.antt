-- What logs hear of a play that drops no log: the notices of the lines that it added.
use Rattle.std.proofs.Common.{◌≡◌, ℕ, Bool, IsTrue, false, List, ◌++◌, Result, Ok, Err, length, drop, sym, ◌∙◌, ap, subst, inl, inr}
use Rattle.std.proofs.Math.Seq.{drop-append_seam}
use Rattle.tdb_law.specs.World.{State}
use Rattle.tdb_log.specs.Logs.{Logged}
use Rattle.tdb_log.specs.declared.log.LogRefusal.{LogRefusal}
use Rattle.tdb_commands.specs.declared.line.Line.{Line}
use Rattle.tdb_commands.specs.declared.play.Play.{Play}
use Rattle.tdb_commands.specs.InLaw.{law_lines, law_play}
use Rattle.tdb_openers.specs.declared.fault.RunFault.{RunFault}
use Rattle.tdb_world.specs.Whole.{form_at}
use Rattle.tdb_world.specs.Courses.Hearing.{HeardBy, HeardLed, HeardNotices, KeepLogs, drops_log}
use Rattle.tdb_world.specs.Courses.Led.{Moment, IsStateAt}
use Rattle.tdb_world.specs.Courses.Told.{PlayLed}
use Rattle.tdb_world.proofs.Courses.Dropping.{comes_keep, drops_only}
use Rattle.tdb_world.proofs.Courses.Stopping.{same_added}

-- where the play broke off
pub by_fault : {U : Type 0} (V : Type 0) (old new : List Logged) (lines : List Line) (told : Result U LogRefusal) (fault : RunFault) → HeardBy old lines new (Ok told) → HeardBy {V = V} old lines new (Err fault)
by_fault V old new lines (Ok v) fault heard = inl heard
by_fault V old new lines (Err refusal) fault heard = inr (refusal, heard)

module _ (tells : Bool) (old new : Moment) (before after : List Logged) (play : Play) (stays : drops_log play ≡ false) (taken : Result (Unit {0}) RunFault)
    (A : PlayLed tells old new taken (law_play play)) (from : ℕ) (start : from ≡ length old.lines) (told : Result (Unit {0}) LogRefusal) (heard : HeardNotices (drop from new.lines) before after told) where
  added_is : (added : List Line) → new.lines ≡ old.lines ++ added → drop from new.lines ≡ added
  added_is added e = ap (λ n. drop n new.lines) start ∙ (ap (λ (ls : List Line). drop (length old.lines) ls) e ∙ drop-append_seam old.lines added)

  added_keeps : IsTrue tells → (state : State) → IsStateAt old state → KeepLogs (law_lines A.added)
  added_keeps sees state is = comes_keep (form_at old.world) state (law_play play) taken (IsStateAt new) (law_lines A.added) (drops_only play stays) (A.told sees state is)

  pub play_heard : HeardLed tells old new before after (Ok told)
  play_heard sees state added is e =
      let same = same_added old.lines new.lines A.added added A.lines e in
      subst (λ ls. HeardBy before ls after (Ok told)) (added_is added e)
      (heard (subst (λ ls. KeepLogs (law_lines ls)) (same ∙ sym (added_is added e)) (added_keeps sees state is)))

  pub fault_heard : (fault : RunFault) → HeardLed {V = Unit {0}} tells old new before after (Err fault)
  fault_heard fault sees state added is e = by_fault (Unit {0}) before after added told fault (play_heard sees state added is e)
