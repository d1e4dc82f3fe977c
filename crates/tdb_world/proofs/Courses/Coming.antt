-- Courses and plays that broke off, one after the other.
use Rattle.std.proofs.Common.{List, [], ◌∷◌, ◌++◌, refl, sym, ◌∙◌, ap}
use Rattle.std.proofs.lemmas.List.{append_assoc, append-nil}
use Rattle.tdb_space.specs.Form.{Form}
use Rattle.tdb_law.specs.Lines.{Line}
use Rattle.tdb_law.specs.Plays.{Play, Course}
use Rattle.tdb_law.specs.World.{State}
use Rattle.tdb_openers.specs.Played.{ComesTo, FirstBegun, begun_not}
use Rattle.tdb_openers.proofs.Joining.Courses.{course_join}

-- one that is whole is as far as it came, and one that broke off may have been that of more plays
pub whole_comes : (f : Form) (plays : List Play) (old new : State) (lines : List Line) → Course f old plays lines new → ComesTo f old plays lines new
whole_comes f plays old new lines C = record {
  done = plays;
  left = [];
  parts = sym (append-nil plays);
  mid = new;
  front = lines;
  rest = [];
  told = sym (append-nil lines);
  course = C;
  begun = (refl, refl);
}

more_begun : (f : Form) (mid new : State) (left more : List Play) (rest : List Line) → FirstBegun f mid left rest new → FirstBegun f mid (left ++ more) rest new
more_begun f mid new [] [] rest B = B
more_begun f mid new [] (play ∷ more) rest B = begun_not B.0 B.1
more_begun f mid new (play ∷ left) more rest B = B

pub comes_more : (f : Form) (plays more : List Play) (old new : State) (lines : List Line) → ComesTo f old plays lines new → ComesTo f old (plays ++ more) lines new
comes_more f plays more old new lines C = record {
  done = C.done;
  left = C.left ++ more;
  parts = ap (λ ps. ps ++ more) C.parts ∙ append_assoc C.done C.left more;
  mid = C.mid;
  front = C.front;
  rest = C.rest;
  told = C.told;
  course = C.course;
  begun = more_begun f C.mid new C.left more C.rest C.begun;
}

pub comes_after : (f : Form) (plays more : List Play) (old mid new : State) (front rest : List Line) → Course f old plays front mid → ComesTo f mid more rest new → ComesTo f old (plays ++ more) (front ++ rest) new
comes_after f plays more old mid new front rest C D = record {
  done = plays ++ D.done;
  left = D.left;
  parts = ap (λ ps. plays ++ ps) D.parts ∙ sym (append_assoc plays D.done D.left);
  mid = D.mid;
  front = front ++ D.front;
  rest = D.rest;
  told = ap (λ ls. front ++ ls) D.told ∙ sym (append_assoc front D.front D.rest);
  course = course_join f plays D.done old mid D.mid front D.front C D.course;
  begun = D.begun;
}
