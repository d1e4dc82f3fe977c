-- What the move of a key of a file into another one gives, from what its parts gave.
use Rattle.std.proofs.Common.{◌≡◌, ◌⊎◌, ◌≤◌, ℕ, List, Option, None, Some, Result, Ok, Err, refl, sym, ◌∙◌, subst, inl, inr, arith}
use Rattle.std.specs.Prelude.{Bool, IsTrue, IsSome, false}
use Rattle.tdb_disk.specs.Count.{Rose}
use Rattle.tdb_disk.specs.History.{History, seen}
use Rattle.tdb_disk.specs.declared.files.TakeRefusal.{TakeRefusal}
use Rattle.tdb_disk.specs.declared.files.TakeRefusal.TheVariants as Take
use Rattle.tdb_space.specs.Form.{Form, form_of}
use Rattle.tdb_space.specs.Pairs.{map_of}
use Rattle.tdb_move.specs.Faults.{UnlessDevice, OnDevice}
use Rattle.tdb_move.specs.Moved.{Moves}
use Rattle.tdb_move.specs.declared.fault.MoveFault.{MoveFault}
use Rattle.tdb_move.specs.declared.fault.MoveFault.TheVariants as M
use Rattle.tdb_cmdline.specs.declared.ask.Task.{Task}
use Rattle.tdb_cmdline.specs.declared.ask.Task.TheVariants.{Move}
use Rattle.tdb_open.specs.Loading.{OpensToTurn, IsRefusedToTurn, OpenedToTurn, IsOpened}
use Rattle.tdb_open.specs.Opening.{OpensSafely}
use Rattle.tdb_open.specs.declared.halt.Halt.{Halt}
use Rattle.tdb_open.specs.declared.halt.Halt.TheVariants as H
use Rattle.tdb_open.specs.declared.halt.Refusal.{Refusal}
use Rattle.tdb_open.specs.declared.opening.Opened.{Opened}
use Rattle.tdb_commands.specs.declared.options.Options.{Options}
use Rattle.tdb_answer.specs.declared.ending.Ending.{Ending}
use Rattle.tdb_answer.specs.declared.ending.Ending.TheVariants as E
use Rattle.tdb_answer.specs.declared.ending.Reply.TheVariants.{Done, Full, KeyMissing}
use Rattle.tdb_answer.specs.Commands.Backup.{IsUntaken}
use Rattle.tdb_answer.specs.Commands.Merge.{EndsMerge, CountedPair}
use Rattle.tdb_answer.specs.Commands.Moving.{move_told, opened_value, BothOpen, MoveSo, no_file, file_refused, no_other, other_refused, no_key, key_moved, no_room, WasOpened, NotOpened, MovedOn, MoveLeft, move_unopened, move_ran, MoveInto, other_untaken, other_taken, MoveFrom, from_unopened, from_opened, MoveLeaves, from_untaken, from_taken, EndsMove}
use Rattle.tdb_answer.specs.Commands.Restore.{of_input}
use Rattle.tdb_answer.specs.Commands.Session.{session_options}
use Rattle.tdb_answer.specs.Ending.{Untaken, TaskCause, task_failed, task_wanting, task_unlogged, CountedIf, of_halt}
use Rattle.tdb_answer.specs.Input.{Input}
use Rattle.tdb_answer.specs.Reads.{AskEnds}
use Rattle.tdb_answer.proofs.Merging.{halted_known, untaken_known}

-- a file was opened with the options of a session, or wasn't
pub was_opened : (limit : ℕ) (o : Options) (old opened : History) (x : Opened) → o ≡ session_options limit → OpenedToTurn o old opened (Ok x) → OpensSafely old opened → WasOpened limit old opened
was_opened limit o old opened x is left safe = record {
  opens = subst (λ q. OpensToTurn q (seen old)) is left.0;
  is_opened = subst (λ q. IsOpened q old opened) is left.1;
  safe = safe;
}

pub not_opened : (limit : ℕ) (o : Options) (old now : History) (halt : Halt) → o ≡ session_options limit → OpenedToTurn o old now (Err halt) → OpensSafely old now → NotOpened limit old now halt
not_opened limit o old now halt is left safe = record { halted = subst (λ q. OpenedToTurn q old now (Err halt)) is left; safe = safe }

-- a move ran, over files that are read in their own forms
pub moved_on : (limit : ℕ) (key : List ℕ) (f g : Form) (from last old into now : History) (answer : Result (Unit {0}) MoveFault) → f ≡ form_of (seen from) → g ≡ form_of (seen into) → WasOpened limit old into → Moves f g key from into last now answer → MovedOn limit key from last old now answer
moved_on limit key f g from last old into now answer is other opened moves = record {
  into = into;
  opened = opened;
  moves = subst (λ (q : Form × Form). Moves q.0 q.1 key from into last now answer) (λ j. (is j, other j)) moves;
}

-- its endings
pub told_known : (answer : Result (Unit {0}) MoveFault) → EndsMove (move_told answer)
told_known (Ok v) = tt
told_known (Err M.KeyMissing) = tt
told_known (Err (M.Full len need)) = tt
told_known (Err M.Device) = tt
told_known (Err M.Log) = tt
told_known (Err M.Memory) = tt

-- those of a merge are among them
merge_known : (e : Ending) → EndsMerge e → EndsMove e
merge_known (E.Replied Done) ends = tt
merge_known (E.Replied (Full len need)) ends = tt
merge_known (E.Replied reply) ends = absurd ends
merge_known (E.Refused refusal) ends = tt
merge_known (E.Missing name) ends = tt
merge_known (E.There name) ends = absurd ends
merge_known E.Usage ends = absurd ends
merge_known E.DeviceFault ends = tt
merge_known E.NoMemory ends = tt
merge_known E.LogFault ends = tt
merge_known E.InputFault ends = absurd ends
merge_known (E.Malformed at) ends = absurd ends

pub move_halted_known : (halt : Halt) (e : Ending) → e ≡ of_halt halt → EndsMove e
move_halted_known halt e is = merge_known e (halted_known halt e is)

pub move_untaken_known : (name : List ℕ) (refusal : TakeRefusal) (e : Ending) → (refusal ≡ Take.There → ⊥) → Untaken name refusal e → EndsMove e
move_untaken_known name refusal e other is = merge_known e (untaken_known name refusal e other is)

-- it is no usage, and tells nothing of the input
pub move_asked : (e : Ending) → EndsMove e → e ≡ E.Usage → ⊥
move_asked e ends is = subst EndsMove is ends

pub move_unread : (e : Ending) → EndsMove e → of_input e ≡ false
move_unread (E.Replied reply) ends = refl
move_unread (E.Refused refusal) ends = refl
move_unread (E.Missing name) ends = refl
move_unread (E.There name) ends = refl
move_unread E.Usage ends = refl
move_unread E.DeviceFault ends = refl
move_unread E.NoMemory ends = refl
move_unread E.LogFault ends = refl
move_unread E.InputFault ends = absurd ends
move_unread (E.Malformed at) ends = absurd ends

-- how often the disks had failed in a move, of which the second hadn't while its file was opened
module _ (tells : Bool) (start last before mid after : ℕ) (same : mid ≡ before) (low : start ≤ last) (rises : mid ≤ after) where
  calm : (e : Ending) → (e ≡ E.DeviceFault → ⊥) → (last ≡ start) × (after ≡ mid) → CountedPair tells start last before after e
  calm e other quiet = record {
    read_never_falls = low;
    never_falls = omega (arith, same, rises);
    failed = λ is. absurd (other is);
    sound = λ x. (quiet.0, quiet.1 ∙ same);
  }

  pub move_counted : (answer : Result (Unit {0}) MoveFault) → UnlessDevice answer ((last ≡ start) × (after ≡ mid)) → (IsTrue tells → OnDevice answer (Rose start last ⊎ Rose mid after)) → CountedPair tells start last before after (move_told answer)
  move_counted (Ok v) quiet rose = calm (E.Replied Done) (λ is. cc) quiet
  move_counted (Err M.KeyMissing) quiet rose = calm (E.Replied KeyMissing) (λ is. cc) quiet
  move_counted (Err (M.Full len need)) quiet rose = calm (E.Replied (Full len need)) (λ is. cc) quiet
  move_counted (Err M.Device) quiet rose = record {
    read_never_falls = low;
    never_falls = omega (arith, same, rises);
    failed = λ is told. elim (rose told) [
      | inl first ↦ inl first
      | inr second ↦ inr (subst (λ n. Rose n after) same second)
    ];
    sound = λ other. absurd (other refl);
  }
  move_counted (Err M.Log) quiet rose = calm E.LogFault (λ is. cc) quiet
  move_counted (Err M.Memory) quiet rose = calm E.NoMemory (λ is. cc) quiet

-- why the command ended so is why its task did
module _ (input : Input) (task : Task) (key into name : List ℕ) (limit : ℕ) (held : List ℕ → Option History) (before after : ℕ) (is : task ≡ Move key into limit) where
  abbrev Why : Ending → Type 0
  Why e = AskEnds input task name held before after e

  abbrev So : Ending → Type 0
  So e = MoveSo limit key name into held e

  abbrev Failed : Ending → Type 0
  Failed e = e ≡ E.DeviceFault → Rose before after

  caused : (e : Ending) → TaskCause (Move key into limit) name (held name) before after e → Why e
  caused e cause = inl (inl (subst (λ t. TaskCause t name (held name) before after e) (sym is) cause))

  -- what the files tell of it
  by_files : (e : Ending) → So e → Why e
  by_files e so = inr (inr (inr (inr (inr (inr (inr (inr (record { key = key; into = into; limit = limit; moves = is; ends = so }))))))))

  by_untaken : (e : Ending) → (e ≡ E.DeviceFault) ⊎ (e ≡ E.NoMemory) → Failed e → Why e
  by_untaken e (inl fault) rose = subst Why (sym fault) (caused E.DeviceFault (task_failed (rose fault)))
  by_untaken e (inr wanting) rose = subst Why (sym wanting) (caused E.NoMemory task_wanting)

  by_halt : (h k : History) (halt : Halt) → NotOpened limit h k halt → ((refusal : Refusal) → IsRefusedToTurn (session_options limit) (seen h) refusal → So (E.Refused refusal)) → Failed (of_halt halt) → Why (of_halt halt)
  by_halt h k (H.Refused refusal) not so rose = by_files (E.Refused refusal) (so refusal not.halted.0)
  by_halt h k H.Device not so rose = caused E.DeviceFault (task_failed (rose refl))
  by_halt h k H.Memory not so rose = caused E.NoMemory task_wanting
  by_halt h k H.Log not so rose = caused E.LogFault task_unlogged

  -- the first file was opened; what became of the second
  module _ (h from last : History) (there : held name ≡ Some h) (opened : WasOpened limit h from) where
    gives : (P : Option (List ℕ) → Type 0) → P (map_of (form_of (seen from)) (seen from) key) → P (opened_value (seen h) key)
    gives P p = subst (λ img. P (map_of (form_of img) img key)) opened.is_opened.reads p

    both : (k into_opened : History) → held into ≡ Some k → WasOpened limit k into_opened → BothOpen limit name into held h k
    both k into_opened stands other = record { there = there; opens = opened.opens; other_there = stands; other_opens = other.opens }

    ran_so : (k now : History) (answer : Result (Unit {0}) MoveFault) → held into ≡ Some k → MovedOn limit key from last k now answer → Failed (move_told answer) → Why (move_told answer)
    ran_so k now (Ok v) stands on rose = by_files (E.Replied Done) (key_moved h k (both k on.into stands on.opened) (gives IsSome on.moves.left.0))
    ran_so k now (Err M.KeyMissing) stands on rose = by_files (E.Replied KeyMissing) (no_key h k (both k on.into stands on.opened) (gives (λ v. v ≡ None) on.moves.left.0))
    ran_so k now (Err (M.Full len need)) stands on rose = by_files (E.Replied (Full len need)) (no_room h k len need (both k on.into stands on.opened) (gives IsSome on.moves.left.0))
    ran_so k now (Err M.Device) stands on rose = caused E.DeviceFault (task_failed (rose refl))
    ran_so k now (Err M.Log) stands on rose = caused E.LogFault task_unlogged
    ran_so k now (Err M.Memory) stands on rose = caused E.NoMemory task_wanting

    left_so : (k now : History) (e : Ending) → held into ≡ Some k → MoveLeft limit key from last k now e → Failed e → Why e
    left_so k now _ stands (move_unopened halt same not) rose = by_halt k now halt not (λ refusal right. other_refused h k refusal there opened.opens stands right) rose
    left_so k now _ stands (move_ran answer on) rose = ran_so k now answer stands on rose

    into_so : (now : Option History) (e : Ending) → MoveInto limit key into from last (held into) now e → Failed e → Why e
    into_so now e (other_untaken same kept (inl missing)) rose = by_files e (subst So (sym missing.1) (no_other h there opened.opens missing.0))
    into_so now e (other_untaken same kept (inr other)) rose = by_untaken e other rose
    into_so now e (other_taken k m stands gives left) rose = left_so k m e stands left rose

  from_so : (h last : History) (now : Option History) (e : Ending) → held name ≡ Some h → MoveFrom limit key into h last (held into) now e → Failed e → Why e
  from_so h last now e there (from_unopened halt not same ends) rose = subst Why (sym ends) (by_halt h last halt not (λ refusal right. file_refused h refusal there right) (λ fault. rose (ends ∙ fault)))
  from_so h last now e there (from_opened from opened left) rose = into_so h from last there opened now e left rose

  ends_so : (e : Ending) (now_held now : Option History) → MoveLeaves limit key name into (held name) now_held (held into) now e → Failed e → Why e
  ends_so e now_held now (from_untaken same kept (inl missing)) rose = by_files e (subst So (sym missing.1) (no_file missing.0))
  ends_so e now_held now (from_untaken same kept (inr other)) rose = by_untaken e other rose
  ends_so e now_held now (from_taken h last there stands left) rose = from_so h last now e there left rose

  pub move_ends : (tells : Bool) (e : Ending) (now_held now : Option History) → IsTrue tells → MoveLeaves limit key name into (held name) now_held (held into) now e → CountedIf tells before after e → Why e
  move_ends tells e now_held now told left counted = ends_so e now_held now left (λ fault. counted.failed fault told)
