-- What a contract sees of a mended file.
use Rattle.std.specs.Prelude.{◌≡◌, ◌-◌, ◌≤◌, ℕ, List, length, take, drop}
use Rattle.std.proofs.Common.{sym, subst, ◌∙◌, ap}
use Rattle.std.proofs.lemmas.List.{length-take-le, length-drop}
use Rattle.tdb_words.specs.declared.header.Header.{Header}
use Rattle.tdb_space.specs.Form.{Form, form_in}
use Rattle.tdb_txn.specs.Pages.{byte_over, length_filled}
use Rattle.tdb_space.specs.Spare.{Spare}
use Rattle.tdb_space.specs.Spare.Spare.{bounded}
use Rattle.tdb_txn.specs.Txn.{txn_pages, txn_size, txn_image, txn_start}
use Rattle.tdb_mend.specs.declared.file.MendedFile.{MendedFile}

-- how long the file is that it was read of
abbrev pub file_length : MendedFile → ℕ
file_length m = txn_start m.pages

-- where its database begins
abbrev pub mended_start : MendedFile → ℕ
mended_start m = m.start

-- how many bytes it is read as
abbrev pub mended_length : MendedFile → ℕ
mended_length m = m.len

-- what a file of these bytes is read as, from where its database begins
abbrev pub mended_view : MendedFile → List ℕ → List ℕ
mended_view m base = take m.len (drop m.start (txn_image m.pages base))

-- there are as many: the file with its pages is no shorter
pub view_length : (m : MendedFile) (base : List ℕ) → length (mended_view m base) ≡ mended_length m
view_length m base =
    length-take-le m.len (drop m.start (txn_image m.pages base))
    (subst (λ n. m.len ≤ n) (sym (length-drop m.start (txn_image m.pages base) ∙ ap (λ n. n - m.start) (length_filled (byte_over (txn_pages m.pages) base) (txn_size m.pages)))) m.shown)

-- and that is no more than the file has
pub length_within : (m : MendedFile) → mended_length m ≤ file_length m
length_within m = m.within

-- the header that is so read
abbrev pub mended_header : MendedFile → Header
mended_header m = m.header

-- what it says of the form
abbrev pub mended_form : MendedFile → Form
mended_form m = form_in m.header

-- how many bytes were changed to read it
abbrev pub mended_bytes : MendedFile → ℕ
mended_bytes m = m.changed

-- what may be written of it without asking for memory: what may be of its pages, and nothing makes it longer
abbrev pub mended_spare : MendedFile → Spare
mended_spare m = bounded m.pages.writes m.pages.bytes 0

-- it is as long as it was, begins where it did, and has the same form
pub record SameBounds (old new : MendedFile) : Type 0 where
  pub form : mended_form new ≡ mended_form old
  pub file : file_length new ≡ file_length old
  pub start : mended_start new ≡ mended_start old
  pub length : mended_length new ≡ mended_length old

-- it is as it was, but that its pages may be stored otherwise: a file of these bytes is read as the same
pub record SameFile (base : List ℕ) (old new : MendedFile) : Type 0 where
  pub view : mended_view new base ≡ mended_view old base
  pub bounds : SameBounds old new
