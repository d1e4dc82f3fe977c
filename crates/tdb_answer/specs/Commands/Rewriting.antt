-- Files that are written anew from the pairs of an opened one: what such a file is, and why it isn't written to its
-- end.
use Rattle.std.specs.Prelude.{◌≡◌, ℕ, Option, None, Some, List, Result, Ok, Err}
use Rattle.tdb_words.specs.declared.word.Order.{Order}
use Rattle.tdb_words.specs.Header.{sequence_at, sequence_of}
use Rattle.tdb_words.specs.Word.{word}
use Rattle.tdb_disk.specs.History.{History, seen}
use Rattle.tdb_disk.specs.Stop.{Quiet}
use Rattle.tdb_space.specs.Exchange.{ButSequence}
use Rattle.tdb_space.specs.Form.{Form, form_of}
use Rattle.tdb_space.specs.Pairs.{order_of}
use Rattle.tdb_backup.specs.declared.refusal.CopyRefusal.{CopyRefusal}
use Rattle.tdb_backup.specs.declared.refusal.CopyRefusal.TheVariants as C
use Rattle.tdb_rewrite.specs.Rewritten.{Rewritten, RewriteCause, chosen}
use Rattle.tdb_open.specs.declared.creating.NewForm.{NewForm}
use Rattle.tdb_answer.specs.declared.ending.Ending.{Ending}
use Rattle.tdb_answer.specs.declared.ending.Ending.TheVariants.{Replied, DeviceFault, NoMemory}
use Rattle.tdb_answer.specs.declared.ending.Reply.{Reply}
use Rattle.tdb_answer.specs.declared.ending.Reply.TheVariants.{Done, Full}

-- the form of a file that is made so
abbrev pub made_form : NewForm → Form
made_form form = record { order = form.order; hash = form.hash; chains = form.size }

-- A file was written anew in this form, of the pairs of an image whose key begins with a prefix (`Rewritten`). It has
-- the sequence number of the image, and all of it is on the medium.
pub record IsWrittenAnew (img prefix : List ℕ) (f : Form) (now : History) : Type 0 where
  pub rewritten : Rewritten f (seen now) (chosen prefix (order_of (form_of img) img))
  pub number : sequence_of (seen now) ≡ sequence_of img
  pub quiet : Quiet now

-- why not all of these pairs come into a new file that may have so many bytes, whatever it holds then
abbrev pub IsNotWritten : List ℕ → List ℕ → Form → ℕ → CopyRefusal → Type 0
IsNotWritten img prefix f limit refusal = (made : List ℕ) × RewriteCause f made (chosen prefix (order_of (form_of img) img)) limit refusal

-- a file got this sequence number: nothing else in it changed, and all of it is on the medium
pub record GotSequence (o : Order) (number : ℕ) (old now : History) : Type 0 where
  pub beside : ButSequence (seen old) (seen now)
  pub told : word o (seen now) sequence_at ≡ number
  pub quiet : Quiet now

-- such a file stands at a name
abbrev pub HoldsAnew : List ℕ → List ℕ → Form → Option History → Type 0
HoldsAnew img prefix f now = (new : History) × (now ≡ Some new) × IsWrittenAnew img prefix f new

-- the reply where there is no room for the next of these pairs, and none is left of the new file
abbrev pub IsFullFor : List ℕ → List ℕ → Form → ℕ → Reply → Type 0
IsFullFor img prefix f limit reply = (len : ℕ) × (need : ℕ) × (reply ≡ Full len need) × IsNotWritten img prefix f limit (C.Full len need)

-- how the writing of a new file ends where it isn't written to its end, and what stands at its name then: nothing, but
-- where a call failed
abbrev pub NotWrittenTo : List ℕ → List ℕ → Form → ℕ → Ending → Option History → Type 0
NotWrittenTo img prefix f limit (Replied reply) now = IsFullFor img prefix f limit reply × (now ≡ None)
NotWrittenTo img prefix f limit DeviceFault now = Unit {0}
NotWrittenTo img prefix f limit NoMemory now = now ≡ None
NotWrittenTo img prefix f limit _ now = ⊥

-- the endings of such a writing: no other reply than that there is no room
abbrev pub EndsUnwritten : Ending → Type 0
EndsUnwritten (Replied reply) = (len : ℕ) × (need : ℕ) × (reply ≡ Full len need)
EndsUnwritten DeviceFault = Unit {0}
EndsUnwritten NoMemory = Unit {0}
EndsUnwritten _ = ⊥

-- how a file was written anew, or wasn't
abbrev pub anew_ending : Result (Unit {0}) Ending → Ending
anew_ending (Ok done) = Replied Done
anew_ending (Err e) = e
