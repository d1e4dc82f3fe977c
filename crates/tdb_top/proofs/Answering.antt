-- What answering words leads to where nothing is done: they ask for nothing, or there was no memory for them.
use Rattle.std.proofs.Common.{◌≡◌, ℕ, Option, None, Some, Ok, refl, inl, inr, arith}
use Rattle.std.specs.Prelude.{Bool}
use Rattle.tdb_cmdline.specs.declared.ask.Task.{Task}
use Rattle.tdb_cmdline.specs.declared.ask.Task.TheVariants.{Create, On, Read, Rescue, Print, Repack, Restore, Backup, Verify, Convert, Merge, Mend, Move, Turns, Session, Generate}
use Rattle.tdb_cmdline.specs.Ask.{Ask}
use Rattle.tdb_answer.specs.declared.ending.Ending.{Ending}
use Rattle.tdb_answer.specs.declared.ending.Ending.TheVariants.{DeviceFault, NoMemory, Usage}
use Rattle.tdb_answer.specs.Ending.{CountedAsked, CountedBy, CountedFor, CountedIf}
use Rattle.tdb_answer.specs.Printed.{TextBefore}
use Rattle.tdb_answer.specs.Run.{is_due, memory_wanting}
use Rattle.tdb_answer.proofs.Acting.{words_want, not_heard}
use Rattle.tdb_answer.proofs.Hearing.{ask_unheard}
use Rattle.tdb_answer.proofs.Looking.{nothing}
use Rattle.tdb_answer.proofs.Sessions.{wants_held}
use Rattle.tdb_answer.proofs.StopsTurning.{unscripted_stops}
use Rattle.tdb_top.specs.AnsweredWords.{AnsweredWords}
use Rattle.tdb_top.specs.Outside.{Outside, input_between}
use Rattle.tdb_top.proofs.Writing.{nothing_before}

-- no call failed, and none is told
module _ (tells : Bool) (n : ℕ) (e : Ending) (sound : e ≡ DeviceFault → ⊥) where
  by : CountedBy n n e
  by = record { never_falls = omega arith; failed = λ is. absurd (sound is); sound = λ other. refl }

  if_tells : CountedIf tells n n e
  if_tells = record { never_falls = omega arith; failed = λ is told. absurd (sound is); sound = λ other. refl }

  counted_for : (task : Task) → CountedFor tells task n n e
  counted_for (On act) = by
  counted_for (Read look) = by
  counted_for Rescue = by
  counted_for (Print printout limit) = by
  counted_for (Repack limit) = by
  counted_for (Create form) = by
  counted_for (Restore limit) = by
  counted_for (Backup more suffix) = by
  counted_for (Verify more suffix) = by
  counted_for (Convert new made prefix) = by
  counted_for (Mend new) = by
  counted_for (Merge into prefix limit) = if_tells
  counted_for (Move key into limit) = if_tells
  counted_for (Turns options) = if_tells
  counted_for (Session limit) = if_tells
  counted_for (Generate commands seed) = if_tells

  counted_asked : (ask : Option Ask) → CountedAsked tells ask n n e
  counted_asked None = by
  counted_asked (Some ask) = counted_for ask.task

module _ (tells input_tells output_tells : Bool) (at : Outside) where
  -- there was no memory for the words
  pub words_unread : (ask : Option Ask) → AnsweredWords tells input_tells output_tells ask at at (Ok NoMemory)
  words_unread ask =
      let input = input_between input_tells at at in
      record {
        cause = λ told. memory_wanting;
        left = λ told. words_want input ask at.held;
        began = λ told. nothing (TextBefore ask at.held) NoMemory at.written (nothing_before ask at.held);
        played = λ options name asks told is. cc;
        stops = λ options name asks told. unscripted_stops input options (at.held name) output_tells _ _ _ at.written;
        served = λ limit name asks told. wants_held limit input name (at.held name) at.logs (at.held name) (at.held name) output_tells at.written refl;
        told = λ told. ask_unheard input ask at.held at.logs;
        counted = counted_asked tells at.faults NoMemory (λ is. cc) ask;
        output_cause = record { never_falls = omega arith; failed = tt; done = refl };
        heard = not_heard at.read_faults at.read_faults NoMemory refl refl;
        unread = λ none. refl;
        usage = λ is. cc;
        usage_exact = λ none. inr refl;
      }

  -- they ask for nothing
  pub nothing_asked : AnsweredWords tells input_tells output_tells None at at (Ok Usage)
  nothing_asked = record {
    cause = λ told. is_due Usage refl;
    left = λ told name. refl;
    began = λ told. nothing (TextBefore None at.held) Usage at.written refl;
    played = λ options name asks told is. cc;
    stops = λ options name asks told. absurd (none_asks asks);
    served = λ limit name asks told. absurd (none_asks asks);
    told = λ told. (refl, λ is. cc);
    counted = counted_asked tells at.faults Usage (λ is. cc) None;
    output_cause = record { never_falls = omega arith; failed = tt; done = refl };
    heard = not_heard at.read_faults at.read_faults Usage refl refl;
    unread = λ none. refl;
    usage = λ is. refl;
    usage_exact = λ none. inl refl;
  }
    where
      none_asks : {a : Ask} → None ≡ Some a → ⊥
      none_asks is = cc
