-- The text of what is shown, piece by piece.
use Rattle.std.proofs.Common.{◌≡◌, ℕ, ◌+◌, ◌≤◌, List, ◌++◌, length, take, drop, append-nil, Ok, Err, sym, ◌∙◌, ap, arith}
use Rattle.std.specs.Prelude.{Result, OnErr}
use Rattle.std.specs.List.{flat_map}
use Rattle.std.proofs.lemmas.List.{take-append-drop}
use Rattle.std.proofs.Math.Seq.{take-add}
use Rattle.std.proofs.lemmas.List.Concat.{flat_map-append}
use Rattle.tdb_words.specs.Header.{sequence_at, sequence_of}
use Rattle.tdb_words.specs.Word.{word}
use Rattle.tdb_space.specs.Accepted.{Accept}
use Rattle.tdb_space.specs.Form.{Form, form_of}
use Rattle.tdb_space.specs.Pairs.{joined}
use Rattle.tdb_space.proofs.Pairs.Listed.{joined_more}
use Rattle.tdb_check.specs.declared.report.Report.{Report}
use Rattle.tdb_check.specs.Report.{Counted}
use Rattle.tdb_backup.specs.Dump.{WroteFront}
use Rattle.tdb_rewrite.proofs.Streamed.{joined_front}
use Rattle.tdb_rewrite.specs.Lines.{lines_of}
use Rattle.tdb_rewrite.specs.Summary.{SumsUp, report_of, summary_of}
use Rattle.tdb_rewrite.specs.Text.{spot_text, spots_text, chains_text, free_line, summary_text, info_text}
use Rattle.tdb_rewrite.specs.declared.numbers.Summary.{Summary}

-- the text of the first n chains
abbrev pub text_below : Form → List ℕ → ℕ → List ℕ
text_below f img n = spots_text (joined n (lines_of f img))

-- a chain more
pub text_more : (f : Form) (img : List ℕ) (n : ℕ) → text_below f img (n + 1) ≡ text_below f img n ++ spots_text (lines_of f img n)
text_more f img n = ap spots_text (joined_more n (lines_of f img)) ∙ flat_map-append spot_text (joined n (lines_of f img)) (lines_of f img n)

-- others follow
pub text_front : (f : Form) (img : List ℕ) (n : ℕ) → n ≤ f.chains → (rest : List ℕ) × (chains_text f img ≡ text_below f img n ++ rest)
text_front f img n le =
    let more = joined_front n f.chains (lines_of f img) le in
    (spots_text more.0, ap spots_text more.1 ∙ flat_map-append spot_text (joined n (lines_of f img)) more.0)

-- the text of the first n free records, and of all of them
abbrev pub free_below : List (ℕ × ℕ) → ℕ → List ℕ
free_below records n = flat_map free_line (take n records)

pub free_front : (records : List (ℕ × ℕ)) (n : ℕ) → (rest : List ℕ) × (flat_map free_line records ≡ free_below records n ++ rest)
free_front records n =
    (flat_map free_line (drop n records), ap (flat_map free_line) (sym (take-append-drop n records)) ∙ flat_map-append free_line (take n records) (drop n records))

-- a free record more
pub free_more : (records : List (ℕ × ℕ)) (n : ℕ) → free_below records (n + 1) ≡ free_below records n ++ flat_map free_line (take 1 (drop n records))
free_more records n = ap (flat_map free_line) (take-add n 1 records) ∙ flat_map-append free_line (take n records) (take 1 (drop n records))

-- what an error leaves says more
pub on_err_more : {X E P Q : Type 0} (r : Result X E) → (P → Q) → OnErr r P → OnErr r Q
on_err_more (Ok x) more given = tt
on_err_more (Err e) more given = more given

-- nothing was written
pub nothing_written : (before text : List ℕ) → WroteFront before text before
nothing_written before text = (0, omega arith, sym (append-nil before))

-- the counts of an image, and its summary, are just these
counts_are : (img : List ℕ) (r : Report) → Counted img r → r ≡ report_of img
counts_are img r c = λ j. record { live = c.live j; dead_records = c.dead_records j; free_records = c.free_records j; dead_bytes = c.dead_bytes j; area = c.area j }

pub summary_is : (img : List ℕ) (sum : Summary) → SumsUp img sum → sum ≡ summary_of img
summary_is img sum s = λ j. record {
  report = counts_are img sum.report s.report j;
  key_bytes = s.key_bytes j;
  data_bytes = s.data_bytes j;
  largest_free = s.largest_free j;
}

-- the text of a summary, of the length and of the sequence number that were read is that of the image
pub text_is : (f : Form) (img : List ℕ) (len sequence : ℕ) (sum : Summary) (text : List ℕ) (k : Form) → f ≡ form_of img → Accept img → len ≡ length img → (sequence_at + 4 ≤ len → sequence ≡ word f.order img sequence_at)
    → SumsUp img sum → k ≡ f → text ≡ summary_text len k sequence sum → text ≡ info_text img
text_is f img len sequence sum text k stated accepted long number summed same is =
    let far : sequence_at + 4 ≤ len = omega (arith, long, accepted.long) in
    let here : sequence ≡ sequence_of img = number far ∙ ap (λ x. word x.order img sequence_at) stated in
    is ∙ (λ j. summary_text (long j) ((same ∙ stated) j) (here j) (summary_is img sum summed j))
