-- What is counted of one line more, and of several.
use Rattle.std.proofs.Common.{◌≡◌, ℕ, ◌+◌, min, cond, Bool, true, false, List, [], ◌∷◌, ◌++◌, sym, ◌∙◌, ap, arith}
use Rattle.std.specs.Prelude.{count_by}
use Rattle.std.proofs.lemmas.List.{append_assoc, append-nil}
use Rattle.std.proofs.lemmas.List.Sums.{sum_by-append}
use Rattle.tdb_disk.specs.Count.{last_count}
use Rattle.tdb_commands.specs.declared.line.Line.{Line}
use Rattle.tdb_gen.specs.declared.counts.Counts.{Counts}
use Rattle.tdb_gen.specs.Counts.{is_blocked, is_end, is_ok, is_value, is_missing, is_yes, is_no, is_full, is_memory, counted, counts_of, more, counts_with}

-- a count that stands still at its greatest, with one more or none
raised : (a m : ℕ) (b : Bool) → min (a + (0 + cond b 1 0)) m ≡ cond b (min (min a m + 1) m) (min a m)
raised a m true = omega arith
raised a m false = omega arith

counted_more : (is : Line → Bool) (lines : List Line) (line : Line) → counted is (lines ++ line ∷ []) ≡ more (counted is lines) (is line)
counted_more is lines line = ap (λ n. min n last_count) (sum_by-append (λ x. cond (is x) 1 0) lines (line ∷ [])) ∙ raised (count_by is lines) last_count (is line)

counts_more : (lines : List Line) (line : Line) → counts_of (lines ++ line ∷ []) ≡ counts_with (counts_of lines) line
counts_more lines line = λ j. record {
  ok = counted_more (is_end is_ok) lines line j;
  values = counted_more (is_end is_value) lines line j;
  missing = counted_more (is_end is_missing) lines line j;
  yes = counted_more (is_end is_yes) lines line j;
  no = counted_more (is_end is_no) lines line j;
  full = counted_more (is_end is_full) lines line j;
  memory = counted_more (is_end is_memory) lines line j;
  blocked = counted_more is_blocked lines line j;
}

-- counts with more lines
abbrev pub tally : Counts → List Line → Counts
tally c [] = c
tally c (line ∷ lines) = tally (counts_with c line) lines

pub counts_tally : (told lines : List Line) → counts_of (told ++ lines) ≡ tally (counts_of told) lines
counts_tally told [] = ap counts_of (append-nil told)
counts_tally told (line ∷ lines) = ap counts_of (sym (append_assoc told (line ∷ []) lines)) ∙ counts_tally (told ++ line ∷ []) lines ∙ ap (λ c. tally c lines) (counts_more told line)
