-- Plays that are taken one after the other, what was counted of them, and what logs heard.
use Rattle.std.proofs.Common.{◌≡◌, Bool, false, List, [], ◌++◌, Result, Ok, Err, refl, sym, ◌∙◌, ap, subst, inl, inr, arith, le_refl}
use Rattle.std.proofs.lemmas.List.{append_assoc, append-nil, map-append}
use Rattle.tdb_disk.specs.Count.{Rose}
use Rattle.tdb_space.specs.Form.{Form, form_in}
use Rattle.tdb_law.specs.Plays.{Course}
use Rattle.tdb_law.specs.World.{State}
use Rattle.tdb_log.specs.Logs.{Logged}
use Rattle.tdb_log.specs.declared.log.LogRefusal.TheVariants as Unheard
use Rattle.tdb_commands.specs.InLaw.{law_play, law_plays, law_line, law_lines}
use Rattle.tdb_commands.specs.declared.line.Line.{Line}
use Rattle.tdb_commands.specs.declared.play.Play.{Play}
use Rattle.tdb_openers.specs.Played.{ComesTo}
use Rattle.tdb_world.specs.Whole.{form_at}
use Rattle.tdb_world.specs.Courses.Hearing.{Heard}
use Rattle.tdb_world.proofs.Courses.HeardLines.{heard_joined, heard_then_refused}
use Rattle.tdb_gen.specs.declared.fault.GenFault.{GenFault}
use Rattle.tdb_gen.specs.declared.fault.GenFault.TheVariants.{Io, Memory, Log}
use Rattle.tdb_gen.specs.Counts.{counts_of}
use Rattle.tdb_gen.specs.Taking.{UnlessIo, OnIo, HeardSo, Place, TookAll, TookSome, TakesTo, Taken}
use Rattle.tdb_openers.proofs.Joining.Courses.{course_join}
use Rattle.tdb_world.proofs.Courses.Coming.{whole_comes, comes_more, comes_after}

-- what came behind a course, or before others
pub course_behind : (f : Form) (ps qs : List Play) (old mid new : State) (lines rest : List Line) → Course f old (law_plays ps) (law_lines lines) mid → Course f mid (law_plays qs) (law_lines rest) new
    → Course f old (law_plays (ps ++ qs)) (law_lines (lines ++ rest)) new
course_behind f ps qs old mid new lines rest A B =
    subst (λ ls. Course f old (law_plays (ps ++ qs)) ls new) (sym (map-append law_line lines rest))
    (subst (λ l. Course f old l (law_lines lines ++ law_lines rest) new) (sym (map-append law_play ps qs)) (course_join f (law_plays ps) (law_plays qs) old mid new (law_lines lines) (law_lines rest) A B))

came_behind : (f : Form) (ps qs : List Play) (old mid new : State) (lines rest : List Line) → Course f old (law_plays ps) (law_lines lines) mid → ComesTo f mid (law_plays qs) (law_lines rest) new
    → ComesTo f old (law_plays (ps ++ qs)) (law_lines (lines ++ rest)) new
came_behind f ps qs old mid new lines rest A B =
    subst (λ ls. ComesTo f old (law_plays (ps ++ qs)) ls new) (sym (map-append law_line lines rest))
    (subst (λ l. ComesTo f old l (law_lines lines ++ law_lines rest) new) (sym (map-append law_play ps qs)) (comes_after f (law_plays ps) (law_plays qs) old mid new (law_lines lines) (law_lines rest) A B))

came_more : (f : Form) (ps qs : List Play) (old new : State) (lines : List Line) → ComesTo f old (law_plays ps) (law_lines lines) new → ComesTo f old (law_plays (ps ++ qs)) (law_lines lines) new
came_more f ps qs old new lines B = subst (λ l. ComesTo f old l (law_lines lines) new) (sym (map-append law_play ps qs)) (comes_more f (law_plays ps) (law_plays qs) old new (law_lines lines) B)

-- what logs heard of lines behind others
or_refused : (old mid new : List Logged) (front rest : List Line) → Heard old front mid → HeardSo Memory mid rest new → HeardSo Memory old (front ++ rest) new
or_refused old mid new front rest one (inl two) = inl (heard_joined old mid new front rest one two)
or_refused old mid new front rest one (inr two) = inr (two.0, heard_then_refused two.0 old mid new front rest one two.1)

heard_behind : (fault : GenFault) (old mid new : List Logged) (front rest : List Line) → Heard old front mid → HeardSo fault mid rest new → HeardSo fault old (front ++ rest) new
heard_behind Io old mid new front rest one two = or_refused old mid new front rest one two
heard_behind Memory old mid new front rest one two = or_refused old mid new front rest one two
heard_behind Log old mid new front rest one two = heard_then_refused Unheard.Failed old mid new front rest one two

-- plays behind others, by the answer
module _ (f : Form) (p q r : Place) (ps qs : List Play) (start between : State) (A : TookAll f p q ps start between) where
  some_behind : (fault : GenFault) (last : State) → TookSome f q r qs fault between last → TookSome f p r (ps ++ qs) fault start last
  some_behind fault last B = record {
    lines = A.lines ++ B.lines;
    came = came_behind f ps qs start between last A.lines B.lines A.course B.came;
    heard = heard_behind fault p.logs q.logs r.logs A.lines B.lines A.heard B.heard;
  }

  abbrev pub all_behind : (last : State) → TookAll f q r qs between last → TookAll f p r (ps ++ qs) start last
  all_behind last B = record {
    lines = A.lines ++ B.lines;
    course = course_behind f ps qs start between last A.lines B.lines A.course B.course;
    counted = λ told e. B.counted (told ++ A.lines) (A.counted told e) ∙ ap counts_of (append_assoc told A.lines B.lines);
    heard = heard_joined p.logs q.logs r.logs A.lines B.lines A.heard B.heard;
  }

  takes_behind : (answer : Result (Unit {0}) GenFault) → TakesTo f q r qs between answer → TakesTo f p r (ps ++ qs) start answer
  takes_behind (Ok v) (last, is, B) = (last, is, all_behind last B)
  takes_behind (Err Io) (last, B) = (last, some_behind Io last B)
  takes_behind (Err Memory) (last, is, B) = (last, is, some_behind Memory last B)
  takes_behind (Err Log) (last, is, B) = (last, is, some_behind Log last B)

some_more : (f : Form) (p r : Place) (ps qs : List Play) (fault : GenFault) (start last : State) → TookSome f p r ps fault start last → TookSome f p r (ps ++ qs) fault start last
some_more f p r ps qs fault start last B = record { lines = B.lines; came = came_more f ps qs start last B.lines B.came; heard = B.heard }

takes_more : (f : Form) (p r : Place) (ps qs : List Play) (start : State) (e : GenFault) → TakesTo f p r ps start (Err e) → TakesTo f p r (ps ++ qs) start (Err e)
takes_more f p r ps qs start Io (last, B) = (last, some_more f p r ps qs Io start last B)
takes_more f p r ps qs start Memory (last, is, B) = (last, is, some_more f p r ps qs Memory start last B)
takes_more f p r ps qs start Log (last, is, B) = (last, is, some_more f p r ps qs Log start last B)

-- what holds unless the disk failed, or where it did, and what follows from that
unless_map : {A B : Type 0} (answer : Result (Unit {0}) GenFault) → (A → B) → UnlessIo answer A → UnlessIo answer B
unless_map (Ok v) g a = g a
unless_map (Err Io) g a = tt
unless_map (Err Memory) g a = g a
unless_map (Err Log) g a = g a

on_io_map : {A B : Type 0} (answer : Result (Unit {0}) GenFault) → (A → B) → OnIo answer A → OnIo answer B
on_io_map (Ok v) g a = tt
on_io_map (Err Io) g a = g a
on_io_map (Err Memory) g a = tt
on_io_map (Err Log) g a = tt

-- no play yet
pub all_none : (f : Form) (p : Place) (state : State) → TookAll f p p [] state state
all_none f p state = record { lines = []; course = (refl, refl); counted = λ told e. e ∙ ap counts_of (sym (append-nil told)); heard = refl }

pub taken_none : (t : Bool) (p : Place) → p.over.spent ≡ false → Taken t p p [] (Ok tt)
taken_none t p unspent = record {
  header = refl;
  unspent = unspent;
  rises = le_refl p.over.faults;
  quiet = refl;
  told = λ tells start is. (start, is, all_none (form_at p.over.world) p start);
  rose = λ tells start is. tt;
}

-- plays behind others, and others that weren't begun
pub same_form : (t : Bool) (old mid : Place) (ps : List Play) → Taken t old mid ps (Ok tt) → form_at mid.over.world ≡ form_at old.over.world
same_form t old mid ps A = ap form_in A.header

module _ (t : Bool) (old mid new : Place) (ps : List Play) (A : Taken t old mid ps (Ok tt)) where
  pub taken_join : (answer : Result (Unit {0}) GenFault) (qs : List Play) → Taken t mid new qs answer → Taken t old new (ps ++ qs) answer
  taken_join answer qs B = record {
    header = unless_map answer (λ e. e ∙ A.header) B.header;
    unspent = B.unspent;
    rises = let one = A.rises in let two = B.rises in omega (arith, one, two);
    quiet = unless_map answer (λ e. e ∙ A.quiet) B.quiet;
    told = λ tells start is.
        (let a = A.told tells start is in takes_behind (form_at old.over.world) old mid new ps qs start a.0 a.2 answer (subst (λ g. TakesTo g mid new qs a.0 answer) (same_form t old mid ps A) (B.told tells a.0 a.1)));
    rose = λ tells start is. (let a = A.told tells start is in on_io_map answer (λ r. subst (λ n. Rose n new.over.faults) A.quiet r) (B.rose tells a.0 a.1));
  }

pub taken_more : (t : Bool) (old new : Place) (ps qs : List Play) (e : GenFault) → Taken t old new ps (Err e) → Taken t old new (ps ++ qs) (Err e)
taken_more t old new ps qs e A = record {
  header = A.header;
  unspent = A.unspent;
  rises = A.rises;
  quiet = A.quiet;
  told = λ tells start is. takes_more (form_at old.over.world) old new ps qs start e (A.told tells start is);
  rose = A.rose;
}

-- plays that were taken whole are as far as they came, whatever failed then but a log
pub heard_whole : (fault : GenFault) (logs later : List Logged) (lines : List Line) → (fault ≡ Log → ⊥) → Heard logs lines later → HeardSo fault logs lines later
heard_whole Io logs later lines apart heard = inl heard
heard_whole Memory logs later lines apart heard = inl heard
heard_whole Log logs later lines apart heard = absurd (apart refl)

pub all_some : (f : Form) (p q : Place) (plays : List Play) (start last : State) (fault : GenFault) → (fault ≡ Log → ⊥) → TookAll f p q plays start last → TookSome f p q plays fault start last
all_some f p q plays start last fault apart A = record {
  lines = A.lines;
  came = whole_comes f (law_plays plays) start last (law_lines A.lines) A.course;
  heard = heard_whole fault p.logs q.logs A.lines apart A.heard;
}

-- and then memory was wanting
pub taken_short : (t : Bool) (old new : Place) (plays : List Play) → Taken t old new plays (Ok tt) → Taken t old new plays (Err Memory)
taken_short t old new plays A = record {
  header = A.header;
  unspent = A.unspent;
  rises = A.rises;
  quiet = A.quiet;
  told = λ tells start is. (let a = A.told tells start is in (a.0, a.1, all_some (form_at old.over.world) old new plays start a.0 Memory (λ e. cc) a.2));
  rose = λ tells start is. tt;
}

-- no play was begun, for want of memory
pub taken_not : (t : Bool) (p : Place) (plays : List Play) → p.over.spent ≡ false → Taken t p p plays (Err Memory)
taken_not t p plays unspent = taken_more t p p [] plays Memory (taken_short t p p [] (taken_none t p unspent))
