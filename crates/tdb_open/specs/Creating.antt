-- The bytes of a new file, and what making one leaves.
use Rattle.std.specs.Prelude.{◌≡◌, ℕ, ◌+◌, ◌*◌, ◌⊎◌, List, [], ◌++◌, length, replicate}
use Rattle.tdb_words.specs.declared.word.Order.{Order}
use Rattle.tdb_words.specs.declared.hash.HashKind.{HashKind}
use Rattle.tdb_words.specs.declared.header.Header.{Header}
use Rattle.tdb_words.specs.Header.{new_header}
use Rattle.tdb_disk.specs.History.{History, seen}
use Rattle.tdb_disk.specs.Stop.{Quiet}
use Rattle.tdb_space.specs.Form.{form_of}
use Rattle.tdb_space.specs.Pairs.{order_of}
use Rattle.tdb_space.specs.Accepted.{Accept}
use Rattle.tdb_open.specs.declared.creating.NewForm.{NewForm}

-- how many bytes stand behind the header of a new file: the head of the free list and those of the chains
abbrev pub heads_length : ℕ → ℕ
heads_length size = 4 * (size + 1)

-- the bytes of a new file: its header, and heads that are all 0
abbrev pub new_image : ℕ → Order → HashKind → List ℕ
new_image size order hash = new_header size order hash ++ replicate (heads_length size) 0

-- how many they are, and what the header says
abbrev pub new_length : NewForm → ℕ
new_length form = 172 + 4 * form.size

abbrev pub new_file_header : NewForm → Header
new_file_header form = record { order = form.order; hash = form.hash; hash_size = form.size; recovery_start = 0; sequence = 0 }

-- these are the bytes of a new file: an accepted image with the form that was asked for, which holds no pair
pub record IsNewFile (size : ℕ) (order : Order) (hash : HashKind) (img : List ℕ) : Type 0 where
  pub bytes : img ≡ new_image size order hash
  pub long : length img ≡ 172 + 4 * size
  pub accepted : Accept img
  pub form : form_of img ≡ record { order = order; hash = hash; chains = size }
  pub empty : order_of (form_of img) img ≡ []

-- a new file was made, and all of it is on the medium
pub record IsMade (size : ℕ) (order : Order) (hash : HashKind) (now : History) : Type 0 where
  pub file : IsNewFile size order hash (seen now)
  pub quiet : Quiet now

-- A call failed while a new file was made: it is empty, or has its full length, with any bytes in place of the
-- header and heads that are all 0.
abbrev pub MadeInPart : ℕ → List ℕ → Type 0
MadeInPart size img = (img ≡ []) ⊎ ((front : List ℕ) × (length front ≡ 168) × (img ≡ front ++ replicate (heads_length size) 0))
