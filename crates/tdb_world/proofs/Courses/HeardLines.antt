-- What logs heard of lines, one part after the other.
use Rattle.std.proofs.Common.{◌≡◌, List, [], ◌∷◌, ◌++◌, Some, Result, Ok, Err, IfErr, OnOk, refl, sym, ◌∙◌, ap, subst, append_assoc, arith, length, ◌-◌}
use Rattle.tdb_log.specs.Logs.{Logged, ToldIfAny, Took, LastBecame, LastRefused, but_last}
use Rattle.tdb_log.specs.declared.log.LogRefusal.{LogRefusal}
use Rattle.tdb_log.specs.declared.notice.Notice.{Notice}
use Rattle.tdb_commands.specs.declared.line.Line.{Line}
use Rattle.tdb_commands.specs.declared.line.Line.TheVariants.{LogsLeft}
use Rattle.tdb_commands.specs.InLaw.{law_line}
use Rattle.tdb_world.specs.Courses.Hearing.{Heard, HeardBy, HeardUpTo, KeepsLogs, notice_of}

pub heard_joined : (old mid new : List Logged) (a b : List Line) → Heard old a mid → Heard mid b new → Heard old (a ++ b) new
heard_joined old mid new [] b one two = subst (λ logs. Heard logs b new) one two
heard_joined old mid new (LogsLeft count ∷ a) b one two = (one.0, heard_joined _ mid new a b one.1 two)
heard_joined old mid new (line ∷ a) b one two = (one.0, one.1, heard_joined one.0 mid new a b one.2 two)

pub heard_then_refused : (refusal : LogRefusal) (old mid new : List Logged) (a b : List Line) → Heard old a mid → HeardUpTo refusal mid b new → HeardUpTo refusal old (a ++ b) new
heard_then_refused refusal old mid new a b one two = record {
  front = a ++ two.front;
  line = two.line;
  rest = two.rest;
  parts = ap (λ lines. a ++ lines) two.parts ∙ sym (append_assoc a two.front (two.line ∷ two.rest));
  notice = two.notice;
  tells = two.tells;
  mid = two.mid;
  heard = heard_joined old mid two.mid a two.front one two.heard;
  refused = two.refused;
}

pub refused_longer : (refusal : LogRefusal) (old new : List Logged) (a b : List Line) → HeardUpTo refusal old a new → HeardUpTo refusal old (a ++ b) new
refused_longer refusal old new a b one = record {
  front = one.front;
  line = one.line;
  rest = one.rest ++ b;
  parts = ap (λ lines. lines ++ b) one.parts ∙ append_assoc one.front (one.line ∷ one.rest) b;
  notice = one.notice;
  tells = one.tells;
  mid = one.mid;
  heard = one.heard;
  refused = one.refused;
}

-- one line, which drops no log
pub heard_one : (old new : List Logged) (line : Line) → KeepsLogs (law_line line) → ToldIfAny (notice_of line) old new → Heard old (line ∷ []) new
heard_one old new (LogsLeft count) keeps told = absurd keeps
heard_one old new line keeps told = (new, told, refl)

pub refused_one : (refusal : LogRefusal) (old new : List Logged) (line : Line) (notice : Notice) → notice_of line ≡ Some notice → LastRefused refusal old new → HeardUpTo refusal old (line ∷ []) new
refused_one refusal old new line notice tells refused = record {
  front = [];
  line = line;
  rest = [];
  parts = refl;
  notice = notice;
  tells = tells;
  mid = old;
  heard = refl;
  refused = refused;
}

-- one line whose notice was told, or refused
pub heard_notice : (old new : List Logged) (line : Line) (notice : Notice) → KeepsLogs (law_line line) → notice_of line ≡ Some notice
    → (told : Result (Unit {0}) LogRefusal) → OnOk told (LastBecame (Took notice) old new) → IfErr told (λ refusal. LastRefused refusal old new) → HeardBy old (line ∷ []) new (Ok told)
heard_notice old new line notice keeps tells (Ok v) taken refused = heard_one old new line keeps (subst (λ n. ToldIfAny n old new) (sym tells) taken)
heard_notice old new line notice keeps tells (Err refusal) taken refused = refused_one refusal old new line notice tells refused

-- so many logs are left
pub length_but_last : (logs : List Logged) → length (but_last logs) ≡ length logs - 1
length_but_last [] = refl
length_but_last (log ∷ []) = refl
length_but_last (log ∷ next ∷ others) = omega (arith, length_but_last (next ∷ others))
