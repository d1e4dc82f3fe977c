-- The command that tells how many keys files have, and restores those that are refused from their copies: what it
-- prints, why it ends, and what it leaves at their names.
use Rattle.std.specs.Prelude.{◌≡◌, ◌≢◌, ◌⊎◌, ℕ, Bool, true, false, IsTrue, Option, None, Some, List, [], ◌∷◌, ◌++◌, take, codes, decimal}
use Rattle.tdb_disk.specs.Count.{Rose}
use Rattle.tdb_disk.specs.History.{History, seen}
use Rattle.tdb_answer.specs.declared.commands.verify.Unverified.{Unverified}
use Rattle.tdb_answer.specs.declared.commands.verify.Unverified.TheVariants.{Ends, Unprinted}
use Rattle.tdb_answer.specs.declared.ending.Ending.{Ending}
use Rattle.tdb_answer.specs.declared.ending.Ending.TheVariants.{Replied, Refused, Missing, There, Usage, DeviceFault, InputFault, Malformed, NoMemory, LogFault}
use Rattle.tdb_answer.specs.declared.ending.Reply.{Reply}
use Rattle.tdb_open.specs.declared.halt.Refusal.{Refusal}
use Rattle.tdb_open.specs.declared.halt.Refusal.TheVariants.{TooLong, Header, Corrupt, NeedsRecovery}
use Rattle.tdb_cmdline.specs.CopyNames.{copy_name, temporary_name}
use Rattle.tdb_answer.specs.Commands.Backup.{IsCopyOf, IsLeftOf, EndsAt, AllStay}
use Rattle.tdb_answer.specs.Commands.Check.{keys_in}
use Rattle.tdb_open.specs.Opening.{opened_bytes, CanOpen, IsRefused, UndoneIfOpen, HeldOrUndone, HeldBroken}

-- what is held at the names of a file: at its own, at that of its copy, and at the one at which it is made anew
pub record AtNames : Type 0 where
  pub own : Option History
  pub copy : Option History
  pub temporary : Option History

abbrev pub at_names : List ℕ → List ℕ → (List ℕ → Option History) → AtNames
at_names suffix file held = record { own = held file; copy = held (copy_name suffix file); temporary = held (temporary_name file) }

-- the lines that tell of a file: that it is restored, and how many keys it has
abbrev pub restoring_line : List ℕ → List ℕ
restoring_line file = codes "restoring " ++ file ++ 10 ∷ []

abbrev pub count_line : List ℕ → ℕ → List ℕ
count_line file keys = file ++ codes " : " ++ decimal keys ++ codes " records" ++ 10 ∷ []

-- a file that is refused so is restored: it has a fault, and isn't too long
abbrev pub is_fault : Refusal → Bool
is_fault (TooLong len) = false
is_fault (Header fault) = true
is_fault (Corrupt what at) = true
is_fault NeedsRecovery = false

abbrev pub tells_fault : Ending → Bool
tells_fault (Replied reply) = false
tells_fault (Refused refusal) = is_fault refusal
tells_fault (Missing name) = false
tells_fault (There name) = false
tells_fault Usage = false
tells_fault DeviceFault = false
tells_fault InputFault = false
tells_fault (Malformed at) = false
tells_fault NoMemory = false
tells_fault LogFault = false

-- the file at a name has a fault
pub record IsFaulty (own : Option History) : Type 0 where
  pub was : History
  pub refusal : Refusal
  pub there : own ≡ Some was
  pub right : IsRefused (seen was) refusal
  pub fault : is_fault refusal ≡ true

-- How many keys a file is told to have, and what is printed before that: those of the file where it is opened, or where
-- it has a fault those of its copy, if that is opened.
pub data KeysOf (file : List ℕ) (own copy : Option History) : ℕ → List ℕ → Type 0 where
  own_keys : (h : History) → own ≡ Some h → CanOpen (seen h) → KeysOf file own copy (keys_in (opened_bytes (seen h))) []
  copy_keys : (h : History) → IsFaulty own → copy ≡ Some h → CanOpen (seen h) → KeysOf file own copy (keys_in (opened_bytes (seen h))) (restoring_line file)

-- what is printed of a file that is verified
pub record Tells (file : List ℕ) (own copy : Option History) (text : List ℕ) : Type 0 where
  pub keys : ℕ
  pub before : List ℕ
  pub keys_of : KeysOf file own copy keys before
  pub all : text ≡ before ++ count_line file keys

-- Why a file isn't verified, but for a failed call and want of memory, and what is printed of it: it isn't there or is
-- too long; or it has a fault, and its copy isn't there, or is refused, or there is no room for the pairs of that.
pub data StopsAt (file at_copy : List ℕ) (own copy : Option History) : Ending → List ℕ → Type 0 where
  is_missing : own ≡ None → StopsAt file at_copy own copy (Missing file) []
  is_refused : (h : History) (refusal : Refusal) → own ≡ Some h → IsRefused (seen h) refusal → is_fault refusal ≡ false → StopsAt file at_copy own copy (Refused refusal) []
  is_unrestored : (e : Ending) → IsFaulty own → EndsAt at_copy copy e → StopsAt file at_copy own copy e (restoring_line file)

-- How a verification of these files ends, but for those, and what it prints before that: as the first one that isn't
-- verified says, or all were.
abbrev pub VerifyEnds : List ℕ → List (List ℕ) → (List ℕ → Option History) → Ending → List ℕ → Type 0
VerifyEnds suffix [] held e text = (e ≡ Replied Reply.Verified) × (text ≡ [])
VerifyEnds suffix (file ∷ files) held e text =
    StopsAt file (copy_name suffix file) (held file) (held (copy_name suffix file)) e text
    ⊎ ((line : List ℕ) × (rest : List ℕ) × Tells file (held file) (held (copy_name suffix file)) line × VerifyEnds suffix files held e rest × (text ≡ line ++ rest))

-- the lines of the first of these files, and maybe that the next one is restored
abbrev pub FileFront : List ℕ → Option History → Option History → List ℕ → Type 0
FileFront file own copy text = (text ≡ []) ⊎ (IsFaulty own × (text ≡ restoring_line file)) ⊎ Tells file own copy text

abbrev pub VerifyFront : List ℕ → List (List ℕ) → (List ℕ → Option History) → List ℕ → Type 0
VerifyFront suffix [] held text = text ≡ []
VerifyFront suffix (file ∷ files) held text =
    FileFront file (held file) (held (copy_name suffix file)) text
    ⊎ ((line : List ℕ) × (rest : List ℕ) × Tells file (held file) (held (copy_name suffix file)) line × VerifyFront suffix files held rest × (text ≡ line ++ rest))

-- what is printed before the line of an ending: the lines of all files that were verified, and where a call failed or
-- memory was wanting some of them
abbrev pub IsUntold : Ending → Type 0
IsUntold e = (e ≡ DeviceFault) ⊎ (e ≡ NoMemory) ⊎ (e ≡ LogFault)

abbrev pub VerifyText : List ℕ → List (List ℕ) → (List ℕ → Option History) → Ending → List ℕ → Type 0
VerifyText suffix files held e text = VerifyEnds suffix files held e text ⊎ (IsUntold e × VerifyFront suffix files held text)

-- a file was opened: it is as its opening left it, and nothing changed at its other names
pub record StaysOpened (old now : AtNames) : Type 0 where
  pub was : History
  pub is : History
  pub there : old.own ≡ Some was
  pub can_open : CanOpen (seen was)
  pub stands : now.own ≡ Some is
  pub undone : UndoneIfOpen was is
  pub copy : now.copy ≡ old.copy
  pub temporary : now.temporary ≡ old.temporary

-- A file had a fault and was restored: a copy of what its own copy is read as stands in its place, that one is as its
-- opening left it, and nothing stands at the name at which the file was made anew.
pub record IsRestored (old now : AtNames) : Type 0 where
  pub faulty : IsFaulty old.own
  pub was : History
  pub is : History
  pub restored : History
  pub there : old.copy ≡ Some was
  pub can_open : CanOpen (seen was)
  pub stands : now.copy ≡ Some is
  pub undone : UndoneIfOpen was is
  pub own : now.own ≡ Some restored
  pub copy_of : IsCopyOf (opened_bytes (seen was)) restored
  pub gone : now.temporary ≡ None

abbrev pub Verified : AtNames → AtNames → Type 0
Verified old now = StaysOpened old now ⊎ IsRestored old now

abbrev pub VerifiedAll : List ℕ → List (List ℕ) → (List ℕ → Option History) → (List ℕ → Option History) → Type 0
VerifiedAll suffix [] old now = Unit {0}
VerifiedAll suffix (file ∷ files) old now = Verified (at_names suffix file old) (at_names suffix file now) × VerifiedAll suffix files old now

-- A file wasn't restored: it and its copy are as they were, or were undone. What stood at the name at which a file is
-- made anew may be removed. Where a call failed an undo may be broken off, and anything may stand at that name.
pub record Unrestored (broken : Type 0) (old now : AtNames) : Type 0 where
  pub own : HeldOrUndone old.own now.own ⊎ (broken × HeldBroken old.own now.own)
  pub copy : HeldOrUndone old.copy now.copy ⊎ (broken × HeldBroken old.copy now.copy)
  pub left : IsLeftOf old.temporary now.temporary ⊎ broken

-- what is left where a file wasn't verified, or was and that wasn't told
abbrev pub LeftThere : Type 0 → AtNames → AtNames → Type 0
LeftThere broken old now = Unrestored broken old now ⊎ IsRestored old now

-- the first of these files were verified, the next one wasn't, and the others weren't looked at
abbrev pub LeftAt : Type 0 → List ℕ → List (List ℕ) → (List ℕ → Option History) → (List ℕ → Option History) → Type 0
LeftAt broken suffix [] old now = ⊥
LeftAt broken suffix (file ∷ files) old now =
    (Verified (at_names suffix file old) (at_names suffix file now) × LeftAt broken suffix files old now)
    ⊎ (LeftThere broken (at_names suffix file old) (at_names suffix file now) × AllStay true suffix files old now)

-- the endings of a verification that isn't done
abbrev pub EndsUnverified : Ending → Type 0
EndsUnverified (Replied reply) = (len : ℕ) × (need : ℕ) × (reply ≡ Reply.Full len need)
EndsUnverified (Refused refusal) = Unit {0}
EndsUnverified (Missing name) = Unit {0}
EndsUnverified (There name) = Unit {0}
EndsUnverified DeviceFault = Unit {0}
EndsUnverified NoMemory = Unit {0}
EndsUnverified LogFault = Unit {0}
EndsUnverified Usage = ⊥
EndsUnverified InputFault = ⊥
EndsUnverified (Malformed at) = ⊥

abbrev pub EndsVerify : Ending → Type 0
EndsVerify e = (e ≡ Replied Reply.Verified) ⊎ EndsUnverified e

-- what a verification of these files leaves at their names where it ends so
pub record VerifyLeaves (suffix : List ℕ) (files : List (List ℕ)) (old : List ℕ → Option History) (e : Ending) (now : List ℕ → Option History) : Type 0 where
  pub known : EndsVerify e
  pub done : e ≡ Replied Reply.Verified → VerifiedAll suffix files old now
  pub stopped : e ≢ Replied Reply.Verified → LeftAt (e ≡ DeviceFault) suffix files old now

-- why it ends so: as the files say; or a call failed; or memory was wanting
abbrev pub VerifyCause : List ℕ → List (List ℕ) → (List ℕ → Option History) → ℕ → ℕ → Ending → Type 0
VerifyCause suffix files held before after e = ((text : List ℕ) × VerifyEnds suffix files held e text) ⊎ ((e ≡ DeviceFault) × Rose before after) ⊎ (e ≡ NoMemory) ⊎ (e ≡ LogFault)

-- the file at a name was opened, and is told to have so many keys
pub record OwnKeys (old now : Option History) (keys : ℕ) : Type 0 where
  pub was : History
  pub is : History
  pub there : old ≡ Some was
  pub can_open : CanOpen (seen was)
  pub stands : now ≡ Some is
  pub undone : UndoneIfOpen was is
  pub number : keys ≡ keys_in (opened_bytes (seen was))

-- it wasn't
pub data NotOpened (file : List ℕ) (old now : Option History) : Ending → Type 0 where
  file_missing : old ≡ None → now ≡ None → NotOpened file old now (Missing file)
  file_refused : (was : History) (refusal : Refusal) → old ≡ Some was → HeldOrUndone old now → IsRefused (seen was) refusal → NotOpened file old now (Refused refusal)
  file_failed : HeldOrUndone old now ⊎ HeldBroken old now → NotOpened file old now DeviceFault
  file_wanting : HeldOrUndone old now → NotOpened file old now NoMemory
  file_unlogged : HeldOrUndone old now → NotOpened file old now LogFault

-- an output took these bytes behind those before, where it tells that; or a part of them, from the first one on
abbrev pub Took : Bool → List ℕ → List ℕ → List ℕ → Type 0
Took told before text after = IsTrue told → after ≡ before ++ text

abbrev pub TookPart : Bool → List ℕ → List ℕ → List ℕ → Type 0
TookPart told before text after = IsTrue told → (n : ℕ) × (after ≡ before ++ take n text)

-- a line wasn't told: there was no memory for it; or the output failed, and took a part of it
abbrev pub LineUntold : Bool → List ℕ → List ℕ → List ℕ → Unverified → Type 0
LineUntold told line before after (Ends e) = (e ≡ NoMemory) × Took told before [] after
LineUntold told line before after Unprinted = TookPart told before line after

-- the ending is one of a verification that isn't done, where there is one
abbrev pub IsKnown : Unverified → Type 0
IsKnown (Ends e) = EndsUnverified e
IsKnown Unprinted = Unit {0}

-- the number of keys of a file was found, which was restored before where it has a fault, and that was told
pub record KeysFound (told : Bool) (file : List ℕ) (old now : AtNames) (before after : List ℕ) (keys : ℕ) : Type 0 where
  pub text : List ℕ
  pub keys_of : KeysOf file old.own old.copy keys text
  pub verified : Verified old now
  pub took : Took told before text after

-- a file was verified, and that was told
pub record FileTold (told : Bool) (file : List ℕ) (old now : AtNames) (before after : List ℕ) : Type 0 where
  pub text : List ℕ
  pub tells : Tells file old.own old.copy text
  pub verified : Verified old now
  pub took : Took told before text after

-- it wasn't, or that wasn't told
abbrev pub FileText : List ℕ → List ℕ → Option History → Option History → Ending → List ℕ → Type 0
FileText suffix file own copy e text = StopsAt file (copy_name suffix file) own copy e text ⊎ (IsUntold e × FileFront file own copy text)

abbrev pub FileUntold : Bool → List ℕ → List ℕ → AtNames → AtNames → List ℕ → List ℕ → Unverified → Type 0
FileUntold told suffix file old now before after (Ends e) =
    (text : List ℕ) × FileText suffix file old.own old.copy e text × LeftThere (e ≡ DeviceFault) old now × Took told before text after
FileUntold told suffix file old now before after Unprinted =
    (text : List ℕ) × FileFront file old.own old.copy text × LeftThere ⊥ old now × TookPart told before text after

-- the same of files one after the other
pub record AllTold (told : Bool) (suffix : List ℕ) (files : List (List ℕ)) (old now : List ℕ → Option History) (before after : List ℕ) : Type 0 where
  pub text : List ℕ
  pub tells : VerifyEnds suffix files old (Replied Reply.Verified) text
  pub verified : VerifiedAll suffix files old now
  pub took : Took told before text after

abbrev pub SomeUntold : Bool → List ℕ → List (List ℕ) → (List ℕ → Option History) → (List ℕ → Option History) → List ℕ → List ℕ → Unverified → Type 0
SomeUntold told suffix files old now before after (Ends e) =
    (text : List ℕ) × VerifyText suffix files old e text × LeftAt (e ≡ DeviceFault) suffix files old now × Took told before text after
SomeUntold told suffix files old now before after Unprinted =
    (text : List ℕ) × VerifyFront suffix files old text × LeftAt ⊥ suffix files old now × TookPart told before text after
