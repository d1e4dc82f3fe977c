-- The command that makes a file: what making it leaves, and why that ends so.
use Rattle.std.specs.Prelude.{◌≡◌, ℕ, ◌<◌, ◌≤◌, ◌⊎◌, List, Option, None, Some, IsSome, []}
use Rattle.tdb_cmdline.specs.declared.lines.create.NewFile.{NewFile}
use Rattle.tdb_disk.specs.Count.{Rose}
use Rattle.tdb_disk.specs.History.{History, seen}
use Rattle.tdb_space.specs.Form.{Form}
use Rattle.tdb_open.specs.declared.creating.NewForm.{NewForm}
use Rattle.tdb_open.specs.Creating.{new_image, new_length, IsMade, MadeInPart}
use Rattle.tdb_answer.specs.declared.commands.create.Creation.{Creation}
use Rattle.tdb_answer.specs.declared.commands.create.Creation.TheVariants.{Made, There, TooLong, Device, Memory}

-- the bytes of a new file of this form
abbrev pub new_file_of : Form → List ℕ
new_file_of f = new_image f.chains f.order f.hash

-- where none was a file was made, and is empty
abbrev pub LeftEmpty : Option History → Option History → Type 0
LeftEmpty old now = (h : History) × (old ≡ None) × (now ≡ Some h) × (seen h ≡ [])

-- why the making of a file ends so, by what was held at its name and by how often the files had failed before and after
abbrev pub CreateCause : NewFile → Option History → ℕ → ℕ → Creation → Type 0
CreateCause file held before after Made = (held ≡ None) × (new_length file.form ≤ file.limit)
CreateCause file held before after There = IsSome held
CreateCause file held before after (TooLong len) = (held ≡ None) × (len ≡ new_length file.form) × (file.limit < new_length file.form)
CreateCause file held before after Device = Rose before after
CreateCause file held before after Memory = Unit {0}

-- What is held at the name after the making of a file, by what was held before: the new file where it was made, what
-- was held where the name was there or memory was wanting, an empty file where the new one would be too long, and after
-- a fault that, or where nothing was held a file made in part.
abbrev pub CreateLeaves : NewForm → Option History → Creation → Option History → Type 0
CreateLeaves form old Made now = (h : History) × (now ≡ Some h) × IsMade form.size form.order form.hash h
CreateLeaves form old There now = now ≡ old
CreateLeaves form old (TooLong len) now = LeftEmpty old now
CreateLeaves form old Device now =
    (now ≡ old) ⊎ ((h : History) × (old ≡ None) × (now ≡ Some h) × MadeInPart form.size (seen h))
CreateLeaves form old Memory now = now ≡ old
