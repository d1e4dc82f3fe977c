-- Lines whose notices are told one after the other.
use Rattle.std.proofs.Common.{◌≡◌, ℕ, ◌+◌, ◌<◌, List, [], ◌∷◌, ◌++◌, Some, Ok, Err, length, take, drop, get_or, sym, ◌∙◌, ap, subst, append_assoc}
use Rattle.std.proofs.lemmas.List.{take_more, take-append-drop, append_cancel_left, map-append}
use Rattle.tdb_log.specs.Logs.{Logged, ToldIfAny, LastRefused}
use Rattle.tdb_log.specs.declared.log.LogRefusal.{LogRefusal}
use Rattle.tdb_log.specs.declared.notice.Notice.{Notice}
use Rattle.tdb_commands.specs.declared.line.Line.{Line}
use Rattle.tdb_commands.specs.InLaw.{law_line, law_lines}
use Rattle.tdb_world.specs.Courses.Hearing.{HeardNotices, KeepLogs, notice_of}
use Rattle.tdb_world.proofs.Courses.Dropping.{keep_front, keep_rest}
use Rattle.tdb_world.proofs.Courses.HeardLines.{heard_joined, heard_then_refused, refused_longer, heard_one, refused_one}

-- the lines from a place on, up to another
pub told_more : (lines told : List Line) (from i : ℕ) (line : Line) → i < length lines → line ≡ get_or lines i line → take i lines ≡ take from lines ++ told
    → take (i + 1) lines ≡ take from lines ++ (told ++ line ∷ [])
told_more lines told from i line low at so =
    take_more lines i line low ∙ (ap (λ (x : Line). take i lines ++ x ∷ []) (sym at) ∙ (ap (λ (ls : List Line). ls ++ line ∷ []) so ∙ append_assoc (take from lines) told (line ∷ [])))

pub told_drops : (lines told : List Line) (from j : ℕ) → take j lines ≡ take from lines ++ told → drop from lines ≡ told ++ drop j lines
told_drops lines told from j so =
    append_cancel_left (take from lines) (drop from lines) (told ++ drop j lines)
    (take-append-drop from lines ∙ (sym (take-append-drop j lines) ∙ (ap (λ (ls : List Line). ls ++ drop j lines) so ∙ append_assoc (take from lines) told (drop j lines))))

-- The parts of lines that drop no log.
keeps_parts : (front rest : List Line) → KeepLogs (law_lines (front ++ rest)) → KeepLogs (law_lines front) × KeepLogs (law_lines rest)
keeps_parts front rest keep =
    let all : KeepLogs (law_lines front ++ law_lines rest) = subst KeepLogs (map-append law_line front rest) keep in (keep_front (law_lines front) (law_lines rest) all, keep_rest (law_lines front) (law_lines rest) all)

module _ (old mid new : List Logged) (front : List Line) (line : Line) (heard : HeardNotices front old mid (Ok tt)) where
  pub heard_more : ToldIfAny (notice_of line) mid new → HeardNotices (front ++ line ∷ []) old new (Ok tt)
  heard_more told keep =
      let parts = keeps_parts front (line ∷ []) keep in heard_joined old mid new front (line ∷ []) (heard parts.0) (heard_one mid new line parts.1.0 told)

  pub refused_more : (rest : List Line) (refusal : LogRefusal) (notice : Notice) → notice_of line ≡ Some notice → LastRefused refusal mid new → HeardNotices (front ++ line ∷ rest) old new (Err refusal)
  refused_more rest refusal notice tells refused keep =
      heard_then_refused refusal old mid new front (line ∷ rest) (heard (keeps_parts front (line ∷ rest) keep).0)
      (refused_longer refusal mid new (line ∷ []) rest (refused_one refusal mid new line notice tells refused))
