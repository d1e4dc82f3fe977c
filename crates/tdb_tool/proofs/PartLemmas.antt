-- Parts of a session that are done one after the other, and the plays that they are.
use Rattle.std.proofs.Common.{◌≡◌, ℕ, zero, suc, List, [], ◌∷◌, ◌++◌, refl, sym, ◌∙◌, ap, subst, inl, inr}
use Rattle.std.proofs.lemmas.List.{append_assoc, append-nil, map-append}
use Rattle.tdb_space.specs.Form.{Form}
use Rattle.tdb_law.specs.Plays.{Play as LawPlay, Gives, Course}
use Rattle.tdb_law.specs.World.{State}
use Rattle.tdb_commands.specs.InLaw.{law_play, law_line, law_lines}
use Rattle.tdb_commands.specs.declared.line.Line.{Line}
use Rattle.tdb_openers.specs.Played.{ComesTo, PlaysLast}
use Rattle.tdb_openers.specs.Played.Begun.{begun_not}
use Rattle.tdb_tool.specs.Parts.{Part, Silent, Told, Listed, play_of, text_of, Going, PartDone, PartBegun, AllDone, FirstBegun, AllCame}
use Rattle.tdb_openers.proofs.Joining.Courses.{course_join}
use Rattle.tdb_world.proofs.Courses.Coming.{whole_comes, comes_after}

-- nothing is printed of no lines
no_text : (part : Part) → text_of part [] ≡ []
no_text (Silent play) = refl
no_text (Told play) = refl
no_text (Listed listing) = refl

module _ (f : Form) where
  -- one part
  pub one_done : (part : Part) (old new : State) (lines : List Line) → PartDone f part old lines new → AllDone (part ∷ []) f old lines (text_of part lines) new
  one_done part old new lines done = (new, lines, [], [], sym (append-nil lines), sym (append-nil (text_of part lines)), done, (refl, refl, refl))

  pub one_begun : (part : Part) (old new : State) (lines : List Line) → PartBegun f part old lines new → AllCame (part ∷ []) f old lines (text_of part lines) new
  one_begun part old new lines begun = record {
    done = [];
    left = part ∷ [];
    cut = refl;
    mid = old;
    front = [];
    rest = lines;
    lines_cut = refl;
    first = [];
    more = text_of part lines;
    text_cut = refl;
    whole = (refl, refl, refl);
    begun = (begun, refl);
  }

  -- parts that go on in others
  pub all_join : (parts others : List Part) (old mid new : State) (front rest : List Line) (text more : List ℕ) → AllDone parts f old front text mid → AllDone others f mid rest more new → AllDone (parts ++ others) f old (front ++ rest) (text ++ more) new
  all_join [] others old mid new front rest text more A B =
      subst (λ (q : State × List Line × List ℕ). AllDone others f q.0 q.1 q.2 new) (λ j. (A.2 j, sym (ap (λ ls. ls ++ rest) A.0) j, sym (ap (λ t. t ++ more) A.1) j)) B
  all_join (part ∷ parts) others old mid new front rest text more A B = (
    A.0,
    A.1,
    A.2 ++ rest,
    A.3 ++ more,
    ap (λ ls. ls ++ rest) A.4 ∙ append_assoc A.1 A.2 rest,
    ap (λ t. t ++ more) A.5 ∙ append_assoc (text_of part A.1) A.3 more,
    A.6,
    all_join parts others A.0 mid new A.2 rest A.3 more A.7 B,
  )

  -- parts that were done came as far as that, and parts that came so far may be more
  pub all_came : (parts : List Part) (old new : State) (lines : List Line) (text : List ℕ) → AllDone parts f old lines text new → AllCame parts f old lines text new
  all_came parts old new lines text A = record {
    done = parts;
    left = [];
    cut = sym (append-nil parts);
    mid = new;
    front = lines;
    rest = [];
    lines_cut = sym (append-nil lines);
    first = text;
    more = [];
    text_cut = sym (append-nil text);
    whole = A;
    begun = (refl, refl, refl);
  }

  first_more : (left others : List Part) (mid new : State) (rest : List Line) (more : List ℕ) → FirstBegun left f mid rest more new → FirstBegun (left ++ others) f mid rest more new
  first_more [] [] mid new rest more B = B
  first_more [] (part ∷ others) mid new rest more B = (
    record { count = 0; mid = mid; front = []; rest = rest; lines_cut = refl; going = (refl, refl); last = inl (begun_not (ap law_lines B.0) B.2) },
    B.1 ∙ sym (no_text part) ∙ ap (text_of part) (sym B.0),
  )
  first_more (part ∷ left) others mid new rest more B = B

  pub came_more : (parts others : List Part) (old new : State) (lines : List Line) (text : List ℕ) → AllCame parts f old lines text new → AllCame (parts ++ others) f old lines text new
  came_more parts others old new lines text C = record {
    done = C.done;
    left = C.left ++ others;
    cut = ap (λ ps. ps ++ others) C.cut ∙ append_assoc C.done C.left others;
    mid = C.mid;
    front = C.front;
    rest = C.rest;
    lines_cut = C.lines_cut;
    first = C.first;
    more = C.more;
    text_cut = C.text_cut;
    whole = C.whole;
    begun = first_more C.left others C.mid new C.rest C.more C.begun;
  }

  -- parts that were done, and others as far as they came
  pub came_after : (parts others : List Part) (old mid new : State) (front rest : List Line) (text more : List ℕ) → AllDone parts f old front text mid → AllCame others f mid rest more new → AllCame (parts ++ others) f old (front ++ rest) (text ++ more) new
  came_after parts others old mid new front rest text more A C = record {
    done = parts ++ C.done;
    left = C.left;
    cut = ap (λ ps. parts ++ ps) C.cut ∙ sym (append_assoc parts C.done C.left);
    mid = C.mid;
    front = front ++ C.front;
    rest = C.rest;
    lines_cut = ap (λ ls. front ++ ls) C.lines_cut ∙ sym (append_assoc front C.front C.rest);
    first = text ++ C.first;
    more = C.more;
    text_cut = ap (λ t. text ++ t) C.text_cut ∙ sym (append_assoc text C.first C.more);
    whole = all_join parts C.done old mid C.mid front C.front text C.first A C.whole;
    begun = C.begun;
  }

  -- the plays of parts, in the words of the law
  abbrev pub HasCourse : State → List Line → State → Type 0
  HasCourse old lines new = (plays : List LawPlay) × Course f old plays (law_lines lines) new

  in_two : (front rest : List Line) → law_lines (front ++ rest) ≡ law_lines front ++ law_lines rest
  in_two front rest = map-append law_line front rest

  join_two : (old mid new : State) (lines front rest : List Line) → lines ≡ front ++ rest → HasCourse old front mid → HasCourse mid rest new → HasCourse old lines new
  join_two old mid new lines front rest cut (one, C) (two, D) = (
    one ++ two,
    subst (λ ls. Course f old (one ++ two) ls new) (sym (ap law_lines cut ∙ in_two front rest)) (course_join f one two old mid new (law_lines front) (law_lines rest) C D),
  )

  one_play : (play : LawPlay) (old new : State) (lines : List Line) → Gives f old play (law_lines lines) new → HasCourse old lines new
  one_play play old new lines G = (play ∷ [], (new, law_lines lines, [], sym (append-nil (law_lines lines)), G, (refl, refl)))

  pub going_course : (part : Part) (n : ℕ) (old new : State) (lines : List Line) → Going f part old n lines new → HasCourse old lines new
  going_course part zero old new lines G = ([], (ap law_lines G.0, G.1))
  going_course part (suc n) old new lines G = join_two old G.0 new lines G.1 G.2 G.3 (going_course part n old G.0 G.1 G.4) (one_play (law_play (play_of part n)) G.0 new G.2 G.5)

  pub all_course : (parts : List Part) (old new : State) (lines : List Line) (text : List ℕ) → AllDone parts f old lines text new → HasCourse old lines new
  all_course [] old new lines text A = ([], (ap law_lines A.0, A.2))
  all_course (part ∷ parts) old new lines text A = join_two old A.0 new lines A.1 A.2 A.4 (done_course A.6) (all_course parts A.0 new A.2 A.3 A.7)
    where
      done_course : PartDone f part old A.1 A.0 → HasCourse old A.1 A.0
      done_course D = join_two old D.mid A.0 A.1 D.front D.rest D.lines_cut (going_course part D.count old D.mid D.front D.going) (one_play (law_play (play_of part D.count)) D.mid A.0 D.rest D.last)

  abbrev pub HasComing : State → List Line → State → Type 0
  HasComing old lines new = (plays : List LawPlay) × ComesTo f old plays (law_lines lines) new

  behind : (old mid new : State) (lines front rest : List Line) → lines ≡ front ++ rest → HasCourse old front mid → HasComing mid rest new → HasComing old lines new
  behind old mid new lines front rest cut (one, C) (two, D) = (
    one ++ two,
    subst (λ ls. ComesTo f old (one ++ two) ls new) (sym (ap law_lines cut ∙ in_two front rest)) (comes_after f one two old mid new (law_lines front) (law_lines rest) C D),
  )

  last_comes : (play : LawPlay) (old new : State) (lines : List Line) → PlaysLast f old play (law_lines lines) new → HasComing old lines new
  last_comes play old new lines (inl B) = (
    play ∷ [],
    record { done = []; left = play ∷ []; parts = refl; mid = old; front = []; rest = law_lines lines; told = refl; course = (refl, refl); begun = B },
  )
  last_comes play old new lines (inr G) = let one = one_play play old new lines G in (one.0, whole_comes f one.0 old new (law_lines lines) one.1)

  pub came_comes : (parts : List Part) (old new : State) (lines : List Line) (text : List ℕ) → AllCame parts f old lines text new → HasComing old lines new
  came_comes parts old new lines text C = behind old C.mid new lines C.front C.rest C.lines_cut (all_course C.done old C.mid C.front C.first C.whole) (first_comes C.left C.mid C.rest C.more C.begun)
    where
      first_comes : (left : List Part) (mid : State) (rest : List Line) (more : List ℕ) → FirstBegun left f mid rest more new → HasComing mid rest new
      first_comes [] mid rest more B = ([], whole_comes f [] mid new (law_lines rest) (ap law_lines B.0, B.2))
      first_comes (part ∷ left) mid rest more B =
          let b = B.0 in behind mid b.mid new rest b.front b.rest b.lines_cut (going_course part b.count mid b.mid b.front b.going) (last_comes (law_play (play_of part b.count)) b.mid new b.rest b.last)
