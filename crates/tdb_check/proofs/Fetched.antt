-- What is read of one record.
use Rattle.std.proofs.Common.{◌≡◌, ◌+◌, ℕ, List, sym, ◌∙◌, ap}
use Rattle.std.proofs.lemmas.Bool.{eq-eqb}
use Rattle.tdb_words.specs.declared.record.Rec.{Rec}
use Rattle.tdb_words.specs.declared.record.TheConstants.{USED}
use Rattle.tdb_words.specs.Record.{rec_at}
use Rattle.tdb_space.specs.Form.{Form}
use Rattle.tdb_space.specs.Record.{magic_of}
use Rattle.tdb_check.specs.Reads.{record_reads}

-- of a used one its key
pub used_reads : (f : Form) (img : List ℕ) (at : ℕ) (r : Rec) → r ≡ rec_at f.order img at → r.magic ≡ USED → record_reads f img at ≡ 132 + r.key_len
used_reads f img at r is used =
    let magic : magic_of f.order img at ≡ USED = sym (ap (λ (x : Rec). x.magic) is) ∙ used in
    rw (eq-eqb (magic_of f.order img at) USED magic) (ap (λ (x : Rec). 132 + x.key_len) (sym is))
