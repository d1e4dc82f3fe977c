-- Turns with status 0 were played whole.
use Rattle.std.proofs.Common.{◌≡◌, ◌⊎◌, ℕ, true, false, List, ◌++◌, Option, None, Some, Result, Ok, Err, refl, sym, ◌∙◌, ap, subst, inl, inr, arith}
use Rattle.std.specs.Prelude.{Bool, IsTrue, ◌≢◌, OnErr}
use Rattle.std.proofs.lemmas.Bool.{false≢true}
use Rattle.std.proofs.lemmas.List.{append-nil}
use Rattle.tdb_disk.specs.History.{History}
use Rattle.tdb_cmdline.specs.declared.ask.Task.{Task}
use Rattle.tdb_cmdline.specs.declared.ask.Task.TheVariants.{Create, On, Read, Rescue, Print, Repack, Restore, Backup, Verify, Convert, Merge, Mend, Move, Turns, Session, Generate}
use Rattle.tdb_answer.specs.declared.ending.Ending.{Ending}
use Rattle.tdb_answer.specs.declared.ending.Ending.TheVariants.{Replied, Refused, Usage, DeviceFault, NoMemory, Malformed, InputFault, LogFault, Missing, There}
use Rattle.tdb_answer.specs.declared.ending.Reply.{Reply}
use Rattle.tdb_answer.specs.declared.ending.Reply.TheVariants as R
use Rattle.tdb_answer.specs.declared.ending.Reply.TheVariants.{Played}
use Rattle.tdb_answer.specs.declared.ending.Unprinted.{Unprinted}
use Rattle.tdb_log.specs.Logs.{Logged}
use Rattle.tdb_commands.specs.declared.options.Options.{Options}
use Rattle.tdb_cmdline.specs.Ask.{Ask}
use Rattle.tdb_answer.specs.Commands.Turns.{PlaysSo, script_unread, script_bad, no_file, file_refused, file_opened, IsPlayed, AllPlayed}
use Rattle.tdb_answer.specs.Ending.{status_of, text_of, PrintedFor, Due}
use Rattle.tdb_answer.specs.Input.{Input}
use Rattle.tdb_answer.specs.Looks.{ending_of}
use Rattle.tdb_answer.specs.Output.{output_by}
use Rattle.tdb_answer.specs.Printed.{Finishes}
use Rattle.tdb_answer.specs.Stops.{SaysAllLines}
use Rattle.tdb_answer.specs.Run.{MayEnd, is_due, is_read, is_copied, is_verified, is_played, is_served, is_generated, is_repacked, is_converted, is_merged, is_mended, is_moved, call_failed, memory_wanting, log_failed}
use Rattle.tdb_open.specs.declared.halt.Refusal.TheVariants.{Header, Corrupt, NeedsRecovery, TooLong}
use Rattle.tdb_answer.proofs.Held.{same_held}
use Rattle.tdb_answer.proofs.Runs.{refusal_status}

-- turns are no other task
abbrev reads_turns : Task → Bool
reads_turns (On act) = false
reads_turns (Read look) = false
reads_turns Rescue = false
reads_turns (Print printout limit) = false
reads_turns (Repack limit) = false
reads_turns (Convert new made prefix) = false
reads_turns (Mend new) = false
reads_turns (Merge into prefix limit) = false
reads_turns (Move key into limit) = false
reads_turns (Create form) = false
reads_turns (Restore limit) = false
reads_turns (Backup more suffix) = false
reads_turns (Verify more suffix) = false
reads_turns (Turns options) = true
reads_turns (Session limit) = false
reads_turns (Generate commands seed) = false

abbrev is_turns : Option Ask → Bool
is_turns None = false
is_turns (Some ask) = reads_turns ask.task

no_zero : (n : ℕ) → (n ≡ 3) ⊎ (n ≡ 6) → n ≡ 0 → ⊥
no_zero n (inl is) zero = omega (arith, is, zero)
no_zero n (inr is) zero = omega (arith, is, zero)

-- what turns end with, where the status is 0
plays_zero : (input : Input) (options : Options) (name : List ℕ) (held : Option History) (e : Ending) → PlaysSo input options name held e → status_of e ≡ 0 → e ≡ Replied Played
plays_zero input options name held _ (script_unread rose) zero = absurd (omega (arith, zero))
plays_zero input options name held _ (script_bad at bad) zero = absurd (omega (arith, zero))
plays_zero input options name held _ (no_file script none) zero = absurd (omega (arith, zero))
plays_zero input options name held _ (file_refused h refusal script there is) zero = absurd (no_zero (status_of (Refused refusal)) (refusal_status refusal) zero)
plays_zero input options name held _ (file_opened h script there opens) zero = refl

ended_zero : (ask : Option Ask) (options : Options) (name : List ℕ) (held : List ℕ → Option History) (input : Input) (before after : ℕ) (e : Ending) → ask ≡ Some (record { file = name; task = Turns options }) → MayEnd ask held input before after e → status_of e ≡ 0 → e ≡ Replied Played
ended_zero ask options name held input before after _ asks (is_due e due) zero = absurd (subst (λ a. Due a held e) asks due)
ended_zero ask options name held input before after _ asks (is_read e limit other restores none so) zero = absurd (false≢true (ap is_turns (sym restores ∙ asks)))
ended_zero ask options name held input before after _ asks (is_copied e more suffix other copies ends) zero = absurd (false≢true (ap is_turns (sym copies ∙ asks)))
ended_zero ask options name held input before after _ asks (is_verified e more suffix other text verifies ends) zero = absurd (false≢true (ap is_turns (sym verifies ∙ asks)))
ended_zero ask options name held input before after _ asks (is_played e others other also so) zero = plays_zero input others other (held other) e so zero
ended_zero ask options name held input before after _ asks (is_served e limit other serves so) zero = absurd (false≢true (ap is_turns (sym serves ∙ asks)))
ended_zero ask options name held input before after _ asks (is_generated e commands seed other also none so) zero = absurd (false≢true (ap is_turns (sym also ∙ asks)))
ended_zero ask options name held input before after _ asks (is_repacked e limit other h repacks there ends) zero = absurd (false≢true (ap is_turns (sym repacks ∙ asks)))
ended_zero ask options name held input before after _ asks (is_converted e made prefix new other h converts there ends) zero = absurd (false≢true (ap is_turns (sym converts ∙ asks)))
ended_zero ask options name held input before after _ asks (is_mended e new other h mends there ends) zero = absurd (false≢true (ap is_turns (sym mends ∙ asks)))
ended_zero ask options name held input before after _ asks (is_merged e into prefix other limit h merges there ends) zero = absurd (false≢true (ap is_turns (sym merges ∙ asks)))
ended_zero ask options name held input before after _ asks (is_moved e key into other limit moves so) zero = absurd (false≢true (ap is_turns (sym moves ∙ asks)))
ended_zero ask options name held input before after _ asks (call_failed a is rose) zero = absurd (omega (arith, zero))
ended_zero ask options name held input before after _ asks memory_wanting zero = absurd (omega (arith, zero))
ended_zero ask options name held input before after _ asks (log_failed a is) zero = absurd (omega (arith, zero))

-- status 10 tells of a log that failed alone
reply_not : (reply : Reply) → status_of (Replied reply) ≡ 10 → ⊥
reply_not R.Done is = omega (arith, is)
reply_not (R.Value value) is = omega (arith, is)
reply_not (R.Escaped value) is = omega (arith, is)
reply_not R.Dumped is = omega (arith, is)
reply_not R.Restored is = omega (arith, is)
reply_not R.Copied is = omega (arith, is)
reply_not R.Verified is = omega (arith, is)
reply_not R.Played is = omega (arith, is)
reply_not R.Closed is = omega (arith, is)
reply_not (R.Generated text) is = omega (arith, is)
reply_not (R.Number n) is = omega (arith, is)
reply_not (R.Pair key value) is = omega (arith, is)
reply_not R.End is = omega (arith, is)
reply_not R.KeyMissing is = omega (arith, is)
reply_not R.KeyThere is = omega (arith, is)
reply_not R.NoTransaction is = omega (arith, is)
reply_not (R.Full len need) is = omega (arith, is)

ten_log : (e : Ending) → status_of e ≡ 10 → e ≡ LogFault
ten_log LogFault is = refl
ten_log (Replied reply) is = absurd (reply_not reply is)
ten_log Usage is = absurd (omega (arith, is))
ten_log (Refused (Header fault)) is = absurd (omega (arith, is))
ten_log (Refused (Corrupt what at)) is = absurd (omega (arith, is))
ten_log (Refused NeedsRecovery) is = absurd (omega (arith, is))
ten_log (Refused (TooLong len)) is = absurd (omega (arith, is))
ten_log DeviceFault is = absurd (omega (arith, is))
ten_log NoMemory is = absurd (omega (arith, is))
ten_log (Malformed at) is = absurd (omega (arith, is))
ten_log InputFault is = absurd (omega (arith, is))
ten_log (Missing name) is = absurd (omega (arith, is))
ten_log (There name) is = absurd (omega (arith, is))

module _ (tells : Bool) (text last : List ℕ) (f1 f2 : ℕ) where
  -- what was answered, by the status of a run whose ending was printed
  log_told : (r : Result Ending Unprinted) (e : Ending) (status : ℕ) → PrintedFor e (ending_of r) → Finishes r (output_by tells text last f1 f2) e status → status ≡ 10 → r ≡ Ok LogFault
  log_told (Err rest) e status printed done ten = absurd (omega (arith, done.1, ten))
  log_told (Ok found) e status printed (inr part) ten = absurd (omega (arith, part.exits, ten))
  log_told (Ok found) e status (inr want) (inl every) ten = absurd (omega (arith, ap status_of want.0, every.exits, ten))
  log_told (Ok found) e status (inl same) (inl every) ten = ap Ok (ten_log found (ap status_of (sym same) ∙ sym every.exits ∙ ten))

  pub said_by : (r : Result Ending Unprinted) (e : Ending) (status : ℕ) → PrintedFor e (ending_of r) → Finishes r (output_by tells text last f1 f2) e status → (status ≡ 0 → r ≡ Ok (Replied Played))
      → (status ≡ 0) ⊎ (status ≡ 10) → SaysAllLines r
  said_by r e status printed done played (inl zero) = inl (played zero)
  said_by r e status printed done played (inr ten) = inr (log_told r e status printed done ten)

  -- the output took what stands before the line
  pub unfailed_told : (r : Result Ending Unprinted) (e : Ending) (status : ℕ) → Finishes r (output_by tells text last f1 f2) e status → status ≢ 8 → OnErr r ⊥
  unfailed_told (Ok found) e status done other = tt
  unfailed_told (Err rest) e status done other = other done.1

module _ (options : Options) (input : Input) (tells : Bool) (w0 w1 w2 : List ℕ) (f0 f1 f2 : ℕ) where
  -- status 0 says that all plays were taken and told, and then nothing is written behind the report
  pub zero_played : (ask : Option Ask) (name : List ℕ) (held : List ℕ → Option History) (before after : ℕ) (r : Result Ending Unprinted) (e : Ending) (status : ℕ) → ask ≡ Some (record { file = name; task = Turns options })
      → MayEnd ask held input before after (ending_of r) → PrintedFor e (ending_of r) → Finishes r (output_by tells w1 w2 f1 f2) e status → status ≡ 0
      → (r ≡ Ok (Replied Played)) × (IsTrue tells → w2 ≡ w1)
  zero_played ask name held before after (Err rest) e status asks cause printed done zero = absurd (omega (arith, done.1, zero))
  zero_played ask name held before after (Ok found) e status asks cause printed (inr part) zero = absurd (omega (arith, part.exits, zero))
  zero_played ask name held before after (Ok found) e status asks cause (inr want) (inl every) zero = absurd (omega (arith, ap status_of want.0, every.exits, zero))
  zero_played ask name held before after (Ok found) e status asks cause (inl same) (inl every) zero =
      let played : found ≡ Replied Played = ended_zero ask options name held input before after found asks cause (ap status_of (sym same) ∙ sym every.exits ∙ zero) in
      (ap Ok played, λ told. every.written told ∙ ap (λ x. w1 ++ text_of x) (same ∙ played) ∙ append-nil w1)

  module _ (logs later : List Logged) where
    -- what was written behind the report is nothing
    with_output : (old now : History) → (IsTrue tells → w2 ≡ w1) → IsPlayed options input (output_by tells w0 w1 f0 f1) logs later old now → IsPlayed options input (output_by tells w0 w2 f0 f2) logs later old now
    with_output old now same p = record {
      opened = p.opened;
      is_opened = p.is_opened;
      found = p.found;
      mid = p.mid;
      counted = p.counted;
      heard = p.heard;
      plays = p.plays;
      script = p.script;
      whole = record {
        lines = p.whole.lines;
        left = p.whole.left;
        leads = p.whole.leads;
        over = p.whole.over;
        more = p.whole.more;
        ends = p.whole.ends;
        again = p.whole.again;
        lawful = p.whole.lawful;
        printed = λ told. same told ∙ p.whole.printed told;
        heard = p.whole.heard;
      };
    }

    there : (old now : History) (before after : Option History) → before ≡ Some old → after ≡ Some now → (IsTrue tells → w2 ≡ w1) → AllPlayed options input (output_by tells w0 w1 f0 f1) logs later before after
        → IsPlayed options input (output_by tells w0 w2 f0 f2) logs later old now
    there old now before after is left same all =
        subst (λ (q : History × History). IsPlayed options input (output_by tells w0 w2 f0 f2) logs later q.0 q.1) (λ j. (same_held all.0 old before all.2 is j, same_held all.1 now after all.3 left j)) (with_output all.0 all.1 same all.4)

    pub whole_by : (ask : Option Ask) (name : List ℕ) (held now : List ℕ → Option History) (before after : ℕ) (r : Result Ending Unprinted) (e : Ending) (status : ℕ) → ask ≡ Some (record { file = name; task = Turns options })
        → MayEnd ask held input before after (ending_of r) → PrintedFor e (ending_of r) → Finishes r (output_by tells w1 w2 f1 f2) e status → status ≡ 0
        → (r ≡ Ok (Replied Played) → AllPlayed options input (output_by tells w0 w1 f0 f1) logs later (held name) (now name))
        → (old left : History) → held name ≡ Some old → now name ≡ Some left → IsPlayed options input (output_by tells w0 w2 f0 f2) logs later old left
    whole_by ask name held now before after r e status asks cause printed done zero all old left is then =
        let z = zero_played ask name held before after r e status asks cause printed done zero in
        there old left (held name) (now name) is then z.1 (all z.0)
