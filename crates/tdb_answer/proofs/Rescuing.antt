-- What a rescue of a file gives, from what its parts gave.
use Rattle.std.proofs.Common.{◌≡◌, ℕ, List, [], Option, None, Some, refl, sym, ap, subst, inl, inr}
use Rattle.tdb_disk.specs.History.{History, seen}
use Rattle.tdb_disk.specs.declared.files.TakeRefusal.{TakeRefusal}
use Rattle.tdb_space.specs.Form.{Form, form_of}
use Rattle.tdb_rescue.specs.Text.{rescued_text}
use Rattle.tdb_cmdline.specs.declared.ask.Task.TheVariants.{Rescue}
use Rattle.tdb_open.specs.declared.halt.Halt.{Halt}
use Rattle.tdb_open.specs.declared.halt.Halt.TheVariants as H
use Rattle.tdb_answer.specs.declared.ending.Ending.{Ending}
use Rattle.tdb_answer.specs.declared.ending.Ending.TheVariants as E
use Rattle.tdb_answer.specs.Commands.Print.{PrintEnds}
use Rattle.tdb_answer.specs.Commands.Rescue.{CanRescue, RescueHalts, RescueEnds, RescueText}
use Rattle.tdb_answer.specs.Ending.{TaskDue, TaskCause, task_due, task_failed, task_wanting, CountedBy, Untaken, of_halt}
use Rattle.tdb_answer.proofs.Looking.{untaken_stands}

-- what holds of bytes and a form holds of the same ones
pub moved : (P : Form → List ℕ → Type 0) (f g : Form) (a b : List ℕ) → f ≡ g → a ≡ b → P f a → P g b
moved P f g a b form same = subst (λ (q : Form × List ℕ). P q.0 q.1) (λ j. (form j, same j))

-- the pairs were printed or not
pub printed_rescue : (img : List ℕ) (e : Ending) → CanRescue img → PrintEnds e → RescueEnds img e
printed_rescue img (E.Replied reply) can ends = (can, ends)
printed_rescue img E.DeviceFault can ends = tt
printed_rescue img E.NoMemory can ends = tt
printed_rescue img E.LogFault can ends = absurd ends
printed_rescue img (E.Refused refusal) can ends = absurd ends
printed_rescue img (E.Missing name) can ends = absurd ends
printed_rescue img (E.There name) can ends = absurd ends
printed_rescue img E.Usage can ends = absurd ends
printed_rescue img E.InputFault can ends = absurd ends
printed_rescue img (E.Malformed at) can ends = absurd ends

-- the look at the header halted
pub halted_rescue : (img : List ℕ) (halt : Halt) → RescueHalts img halt → RescueEnds img (of_halt halt)
halted_rescue img (H.Refused refusal) right = right
halted_rescue img H.Device right = tt
halted_rescue img H.Memory right = absurd right
halted_rescue img H.Log right = absurd right

-- no log is told of it
pub rescue_unlogged : (img : List ℕ) (e : Ending) → RescueEnds img e → e ≡ E.LogFault → ⊥
rescue_unlogged img e ends is = subst (RescueEnds img) is ends

-- how it ended is why its task ends so
pub rescue_cause : (name : List ℕ) (h : History) (held : Option History) (before after : ℕ) (e : Ending) → held ≡ Some h → RescueEnds (seen h) e → CountedBy before after e → TaskCause Rescue name held before after e
rescue_cause name h held before after (E.Replied reply) there ends counted =
    task_due (E.Replied reply) (subst (λ o. TaskDue Rescue name o (E.Replied reply)) (sym there) (inl (ends.0, ap E.Replied ends.1)))
rescue_cause name h held before after (E.Refused refusal) there ends counted =
    task_due (E.Refused refusal) (subst (λ o. TaskDue Rescue name o (E.Refused refusal)) (sym there) (inr (refusal, ends, refl)))
rescue_cause name h held before after E.DeviceFault there ends counted = task_failed (counted.failed refl)
rescue_cause name h held before after E.NoMemory there ends counted = task_wanting
rescue_cause name h held before after E.LogFault there ends counted = absurd ends
rescue_cause name h held before after (E.Missing n) there ends counted = absurd ends
rescue_cause name h held before after (E.There n) there ends counted = absurd ends
rescue_cause name h held before after E.Usage there ends counted = absurd ends
rescue_cause name h held before after E.InputFault there ends counted = absurd ends
rescue_cause name h held before after (E.Malformed at) there ends counted = absurd ends

-- before the line of a file that wasn't taken nothing stands
pub untaken_rescue : (held : Option History) (name : List ℕ) (refusal : TakeRefusal) (e : Ending) → Untaken name refusal e → RescueText held e []
untaken_rescue None name refusal e is = refl
untaken_rescue (Some h) name refusal e is = untaken_stands (rescued_text (form_of (seen h)) (seen h)) name refusal e is
