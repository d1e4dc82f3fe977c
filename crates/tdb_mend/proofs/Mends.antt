-- What a mended file shows that was found sound but for stray bytes.
use Rattle.std.proofs.Common.{◌≡◌, List, ℕ, None, sym, ◌∙◌, ap, subst}
use Rattle.tdb_words.specs.declared.header.Header.{Header}
use Rattle.tdb_words.specs.Header.{HeaderOk, header_at}
use Rattle.tdb_space.specs.Form.{form_in, form_of}
use Rattle.tdb_space.specs.Pairs.{order_of}
use Rattle.tdb_check.specs.Report.{IsFormOf}
use Rattle.tdb_rewrite.specs.Readable.{Readable}
use Rattle.tdb_mend.specs.declared.file.MendedFile.{MendedFile}
use Rattle.tdb_mend.specs.Mended.{mend_fault, read_as, mended, IsSoundButStrays}
use Rattle.tdb_mend.specs.View.{mended_form, mended_header, mended_view}
use Rattle.tdb_mend.proofs.Strays.{strays_count_for_nothing}

-- over a file that was only synced it shows what the database is read as, in its own form
module _ (a whole now : List ℕ) (m : MendedFile) (first : now ≡ whole)
    (r : (mend_fault (form_of a) a ≡ None) × HeaderOk (read_as a) × (mended_view m whole ≡ read_as a) × (mended_header m ≡ header_at (read_as a))) where
  pub read_now : mended_view m now ≡ read_as a
  read_now = ap (mended_view m) first ∙ r.2

  pub own_form : IsFormOf (mended_form m) (mended_view m now)
  own_form ok = ap form_in r.3 ∙ ap form_of (sym read_now)

-- and its pairs are those of the mended image
pub pairs_mended : (a view : List ℕ) (h : Header) → IsSoundButStrays (read_as a) → h ≡ header_at (read_as a) → view ≡ read_as a
    → Readable (form_in h) view × (order_of (form_in h) view ≡ order_of (form_of (mended a)) (mended a))
pairs_mended a view h sound is same =
    let law = strays_count_for_nothing (read_as a) sound in
    let form : form_in h ≡ form_of (read_as a) = ap form_in is in (
      subst (λ f. Readable f view) (sym form) (subst (Readable (form_of (read_as a))) (sym same) law.3),
      (λ j. order_of (form j) (same j)) ∙ sym law.2 ∙ ap (λ f. order_of f (mended a)) (sym law.1),
    )
