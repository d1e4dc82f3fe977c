-- The names of a backup and of a verification: those of the files, of their copies, and those at which files are made.
use Rattle.std.specs.Prelude.{◌≡◌, ◌≢◌, ◌⊎◌, ℕ, Bool, true, false, Option, None, Some, List, [], ◌∷◌, ◌++◌, codes}

-- the first of these names, and those behind it
abbrev pub first_and_rest : List (List ℕ) → Option (List ℕ × List (List ℕ))
first_and_rest [] = None
first_and_rest (name ∷ names) = Some (name, names)

-- the name of the copy of a file, the one at which the copy is made, and the one at which the file is made anew where
-- it is restored
abbrev pub copy_name : List ℕ → List ℕ → List ℕ
copy_name suffix file = file ++ suffix

abbrev pub new_name : List ℕ → List ℕ → List ℕ
new_name suffix file = copy_name suffix file ++ codes ".tmp"

abbrev pub temporary_name : List ℕ → List ℕ
temporary_name file = file ++ codes ".tmp"

-- the name at which a file is made, where files are verified, and where they are copied
abbrev pub made_name : Bool → List ℕ → List ℕ → List ℕ
made_name true suffix file = temporary_name file
made_name false suffix file = new_name suffix file

-- The names at which what is held may change where a file is copied or verified: its own, where it is undone or
-- restored, and two more, of its copy and of the file that is made.
abbrev pub IsForCopy : Bool → List ℕ → List ℕ → List ℕ → Type 0
IsForCopy verify suffix file name = (name ≡ copy_name suffix file) ⊎ (name ≡ made_name verify suffix file)

abbrev pub IsNameOf : Bool → List ℕ → List ℕ → List ℕ → Type 0
IsNameOf verify suffix file name = (name ≡ file) ⊎ IsForCopy verify suffix file name

-- a name is one of those of some file of these
abbrev pub IsNameAmong : Bool → List ℕ → List (List ℕ) → List ℕ → Type 0
IsNameAmong verify suffix [] name = ⊥
IsNameAmong verify suffix (file ∷ files) name = IsNameOf verify suffix file name ⊎ IsNameAmong verify suffix files name

-- or one for its copy, where files are copied
abbrev pub IsForCopyAmong : List ℕ → List (List ℕ) → List ℕ → Type 0
IsForCopyAmong suffix [] name = ⊥
IsForCopyAmong suffix (file ∷ files) name = IsForCopy false suffix file name ⊎ IsForCopyAmong suffix files name

-- or one at which a file is restored, where files are verified
abbrev pub IsForRestoreAmong : List (List ℕ) → List ℕ → Type 0
IsForRestoreAmong [] name = ⊥
IsForRestoreAmong (file ∷ files) name = (name ≡ file) ⊎ (name ≡ temporary_name file) ⊎ IsForRestoreAmong files name

-- the names of these files are all different
abbrev pub NamesDiffer : Bool → List ℕ → List (List ℕ) → Type 0
NamesDiffer verify suffix [] = Unit {0}
NamesDiffer verify suffix (file ∷ files) =
    ((name : List ℕ) → IsNameOf verify suffix file name → IsNameAmong verify suffix files name → ⊥) × NamesDiffer verify suffix files

-- each file has a copy beside its own name, and the names of all are different
pub record BackupFits (suffix : List ℕ) (files : List (List ℕ)) : Type 0 where
  pub some : suffix ≢ []
  pub differ : NamesDiffer false suffix files

-- the same where files are verified, which are made anew at a name that is none of a copy
pub record VerifyFits (suffix : List ℕ) (files : List (List ℕ)) : Type 0 where
  pub some : suffix ≢ []
  pub other : suffix ≢ codes ".tmp"
  pub differ : NamesDiffer true suffix files
