-- What an opening with options answers and leaves, and what logs hear of it, from what other openings do.
use Rattle.std.proofs.Common.{◌≡◌, ℕ, ◌<◌, ◌≤◌, true, false, List, length, Result, Ok, Err, refl, sym, ◌∙◌, ap, subst, inl, inr, arith}
use Rattle.std.specs.Prelude.{Bool, IfOk, IfErr, OnOk}
use Rattle.std.proofs.lemmas.Bool.{cases_lt, false≢true}
use Rattle.tdb_disk.specs.History.{History, seen}
use Rattle.tdb_space.specs.Form.{form_of}
use Rattle.tdb_space.specs.Opening.{Opens}
use Rattle.tdb_space.proofs.RecoverySteps.Steps.{restored_length}
use Rattle.tdb_space.proofs.Opening.Undone.{old_length, read_as_it_is}
use Rattle.tdb_log.specs.Logs.{Logged}
use Rattle.tdb_commands.specs.declared.options.Options.{Options}
use Rattle.tdb_open.specs.declared.halt.Halt.{Halt}
use Rattle.tdb_open.specs.declared.halt.Halt.TheVariants as H
use Rattle.tdb_open.specs.declared.halt.Refusal.TheVariants.{TooLong}
use Rattle.tdb_open.specs.declared.opening.Opened.{Opened}
use Rattle.tdb_open.specs.Loading.{RefusedBy, TurnOpened, OpenedToTurn, OpeningHeardBy, TurnOpeningHeard}
use Rattle.tdb_open.specs.Opening.{opened_bytes, CanOpen, CanRead, IsOpenedOn, HaltsRightly, ReadHaltsRightly, HaltLeaves, UndoneIfOpen}
use Rattle.tdb_open.proofs.Openings.{closed_reads, same_or_undone}

-- what a file is read as is no longer than it is
pub opened_short : (img : List ℕ) → Opens img → length (opened_bytes img) ≤ length img
opened_short img opens = elim opens.undo [
  | inl shut ↦ omega (arith, ap length (read_as_it_is (form_of img) img shut))
  | inr undoable ↦ omega (arith, restored_length (form_of img) img undoable, (old_length (form_of img) img undoable).within)
]

-- opening a file for turns
module _ (options : Options) (old now : History) (within : length (seen old) ≤ options.limit) where
  read_alone : options.read_only ≡ true → now ≡ old → TurnOpened options old now
  read_alone alone same = inl (inl alone, same)

  pub read_opened : (o : Opened) → options.read_only ≡ true → now ≡ old → CanRead (seen old) → OpenedToTurn options old now (Ok o)
  read_opened o alone same can = (
    record { can_open = can.can_open; within = within; shut = λ is. can.shut },
    record { left = read_alone alone same; reads = ap seen same ∙ sym (closed_reads (seen old) can.shut) },
  )

  pub read_halted : (halt : Halt) → options.read_only ≡ true → now ≡ old → ReadHaltsRightly (seen old) halt → OpenedToTurn options old now (Err halt)
  read_halted (H.Refused refusal) alone same right = (inr (within, subst (λ b. RefusedBy b (seen old) refusal) (sym alone) right), read_alone alone same)
  read_halted H.Device alone same right = tt
  read_halted H.Memory alone same right = inr same
  read_halted H.Log alone same right = inr same

  pub turn_opened : (o : Opened) → options.read_only ≡ false → CanOpen (seen old) → UndoneIfOpen old now → seen now ≡ opened_bytes (seen old) → OpenedToTurn options old now (Ok o)
  turn_opened o writes can left reads = (record { can_open = can; within = within; shut = λ is. absurd (false≢true (sym writes ∙ is)) }, record { left = inr left; reads = reads })

  pub turn_halted : (halt : Halt) → options.read_only ≡ false → HaltsRightly (seen old) halt → HaltLeaves halt old now → OpenedToTurn options old now (Err halt)
  turn_halted (H.Refused refusal) writes right left = (inr (within, subst (λ b. RefusedBy b (seen old) refusal) (sym writes) right), inr left)
  turn_halted H.Device writes right left = tt
  turn_halted H.Memory writes right left = same_or_undone old now left
  turn_halted H.Log writes right left = same_or_undone old now left

  -- an opening that answered either way
  module _ (T : Type 0) (told : T) where
    pub read_result : (r : Result Opened Halt) → options.read_only ≡ true → now ≡ old → IfOk r (λ o. T → CanRead (seen old)) → IfErr r (λ halt. T → ReadHaltsRightly (seen old) halt) → OpenedToTurn options old now r
    read_result (Ok o) alone same can right = read_opened o alone same (can told)
    read_result (Err halt) alone same can right = read_halted halt alone same (right told)

    pub turn_result : (r : Result Opened Halt) → options.read_only ≡ false → IfOk r (λ o. T → IsOpenedOn (seen old) o) → OnOk r (T → seen now ≡ opened_bytes (seen old)) → OnOk r (T → UndoneIfOpen old now)
        → IfErr r (λ halt. T → HaltsRightly (seen old) halt) → IfErr r (λ halt. T → HaltLeaves halt old now) → OpenedToTurn options old now r
    turn_result (Ok o) writes can reads left right leaves = turn_opened o writes (can told).can_open (left told) (reads told)
    turn_result (Err halt) writes can reads left right leaves = turn_halted halt writes (right told) (leaves told)

-- what logs heard where its length isn't known
pub unknown_heard : (options : Options) (img : List ℕ) (logs : List Logged) → TurnOpeningHeard options img logs logs (Err H.Device)
unknown_heard options img logs = elim (cases_lt options.limit (length img)) [
  | inl longer ↦ inl (longer, refl, inr refl)
  | inr within ↦ inr (within, of options.read_only)
]
  where
    of : (b : Bool) → OpeningHeardBy b img logs logs (Err H.Device)
    of true = refl
    of false = inl refl

pub too_long : (options : Options) (old now : History) (len : ℕ) → len ≡ length (seen old) → options.limit < len → now ≡ old → OpenedToTurn options old now (Err (H.Refused (TooLong len)))
too_long options old now len is past same =
    let long : options.limit < length (seen old) = omega (arith, is, past) in
    (inl (ap TooLong is, long), inl (inr long, same))
