-- Moments of plays: what leads on from one to the next.
use Rattle.std.proofs.Common.{◌≡◌, ℕ, ◌≤◌, Bool, true, false, nat_lt, List, [], ◌∷◌, ◌++◌, Result, Ok, Err, refl, sym, ◌∙◌, ap, subst, arith, append_assoc, append-nil, le_refl, ltb-true, ltb-false}
use Rattle.std.proofs.lemmas.List.{map-append}
use Rattle.std.specs.Prelude.{if◌then◌else◌}
use Rattle.tdb_disk.specs.Count.{Rose}
use Rattle.tdb_disk.specs.History.{History, seen}
use Rattle.tdb_law.specs.World.{State}
use Rattle.tdb_law.specs.Lines.{Line as LawLine}
use Rattle.tdb_law.specs.Plays.{Grows}
use Rattle.tdb_law.specs.Plays.Grows.{grows_not, grows_longer}
use Rattle.tdb_commands.specs.declared.line.Line.{Line}
use Rattle.tdb_commands.specs.declared.line.Line.TheVariants.{Grew, Undone}
use Rattle.tdb_commands.specs.InLaw.{law_line, law_lines}
use Rattle.tdb_openers.specs.Played.{growth}
use Rattle.tdb_openers.specs.declared.fault.RunFault.{RunFault}
use Rattle.tdb_openers.specs.declared.fault.RunFault.TheVariants.{Io, Memory}
use Rattle.tdb_world.specs.Whole.{Whole, WorldFits}
use Rattle.tdb_world.specs.Courses.Led.{Lengths, Moment, moment, IsStateAt, Led}
use Rattle.tdb_world.proofs.Courses.Calling.{told_fault, told_join, told_none, told_whole}

-- lengths that lines tell
pub lengths_join : (front rest : List Line) (from mid to : ℕ) → Lengths from front mid → Lengths mid rest to → Lengths from (front ++ rest) to
lengths_join [] rest from mid to one two = subst (λ n. Lengths n rest to) one two
lengths_join (Grew a b ∷ front) rest from mid to one two = (one.0, one.1, lengths_join front rest b mid to one.2 two)
lengths_join (Undone bytes a ∷ front) rest from mid to one two = (one.0, lengths_join front rest a mid to one.1 two)
lengths_join (line ∷ front) rest from mid to one two = lengths_join front rest from mid to one two

-- the line of a growth, where it is one
grown_so : (z : Bool) (from to : ℕ) → nat_lt from to ≡ z → from ≤ to → Grows (law_lines (if z then Grew from to ∷ [] else [])) × Lengths from (if z then Grew from to ∷ [] else []) to
grown_so true from to e low = (grows_longer from to refl (ltb-true from to e), (refl, ltb-true from to e, refl))
grown_so false from to e low = (grows_not refl, (let high = ltb-false from to e in omega (arith, low, high)))

pub growth_grows : (from to : ℕ) → from ≤ to → Grows (law_lines (growth from to)) × Lengths from (growth from to) to
growth_grows from to low = grown_so (nat_lt from to) from to refl low

-- the lines of two parts
pub lines_join : (a b c front rest : List Line) → b ≡ a ++ front → c ≡ b ++ rest → c ≡ a ++ (front ++ rest)
lines_join a b c front rest one two = two ∙ (ap (λ l. l ++ rest) one ∙ append_assoc a front rest)

-- nothing has happened yet
pub led_none : {V : Type 0} (tells : Bool) (m : Moment) (v : V) (All : State → V → List LawLine → State → Type 0) (Part Last : State → List LawLine → State → Type 0) → WorldFits m.world (seen m.history) m.size
    → ((state : State) → IsStateAt m state → All state v [] state) → Led tells m m (Ok v) All Part Last
led_none tells m v All Part Last fits whole = record {
  header = refl;
  options = refl;
  rises = le_refl m.faults;
  added = [];
  lines = sym (append-nil m.lines);
  grown = refl;
  fits = fits;
  quiet = refl;
  told = λ told state is. (state, is, whole state is);
  calls = λ told state is. told_none m m (Ok v) refl refl refl;
  rose = λ told state is. tt;
}

-- a moment that is another
pub same_moment : (w : Whole) (h g : History) (m n p q : ℕ) (old new : List Line) → g ≡ h → n ≡ m → q ≡ p → new ≡ old → moment w g n q new ≡ moment w h m p old
same_moment w h g m n p q old new a b c d = λ i. moment w (a i) (b i) (c i) (d i)

-- the same with other words for it
module _ {V W : Type 0} (tells : Bool) (old new : Moment) (WA : State → V → List LawLine → State → Type 0) (PA LA : State → List LawLine → State → Type 0)
    (WC : State → W → List LawLine → State → Type 0) (PC LC : State → List LawLine → State → Type 0) where
  pub led_whole : (v : V) (w : W) → Led tells old new (Ok v) WA PA LA → ((state : State) (lines : List LawLine) (z : State) → IsStateAt old state → WA state v lines z → WC state w lines z) → Led tells old new (Ok w) WC PC LC
  led_whole v w A whole = record {
    header = A.header;
    options = A.options;
    rises = A.rises;
    added = A.added;
    lines = A.lines;
    grown = A.grown;
    fits = A.fits;
    quiet = A.quiet;
    told = λ told state is. (let end = A.told told state is in (end.0, end.1, whole state (law_lines A.added) end.0 is end.2));
    calls = λ told state is. told_whole old new v w A.added (A.calls told state is);
    rose = A.rose;
  }

  pub led_fault : (e : RunFault) → Led {V = V} tells old new (Err e) WA PA LA → ((state : State) (lines : List LawLine) (z : State) → IsStateAt old state → PA state lines z → PC state lines z)
      → ((state : State) (lines : List LawLine) (z : State) → IsStateAt old state → LA state lines z → LC state lines z) → Led {V = W} tells old new (Err e) WC PC LC
  led_fault Memory A part last = record {
    header = A.header;
    options = A.options;
    rises = A.rises;
    added = A.added;
    lines = A.lines;
    grown = A.grown;
    fits = A.fits;
    quiet = A.quiet;
    told = λ told state is. (let end = A.told told state is in (end.0, end.1, part state (law_lines A.added) end.0 is end.2));
    calls = λ told state is. told_fault old new Memory A.added (A.calls told state is);
    rose = A.rose;
  }
  led_fault Io A part last = record {
    header = A.header;
    options = A.options;
    rises = A.rises;
    added = A.added;
    lines = A.lines;
    grown = A.grown;
    fits = A.fits;
    quiet = A.quiet;
    told = λ told state is. (let end = A.told told state is in (end.0, last state (law_lines A.added) end.0 is end.1));
    calls = λ told state is. told_fault old new Io A.added (A.calls told state is);
    rose = A.rose;
  }

-- one after the other
module _ {U V : Type 0} (tells : Bool) (old mid new : Moment) (u : U) (WA : State → U → List LawLine → State → Type 0) (PA LA : State → List LawLine → State → Type 0)
    (WB WC : State → V → List LawLine → State → Type 0) (PB LB PC LC : State → List LawLine → State → Type 0) (A : Led tells old mid (Ok u) WA PA LA) where
  pub led_join : (r : Result V RunFault) → Led tells mid new r WB PB LB
      → ((state m : State) (v : V) (front rest : List LawLine) (z : State) → IsStateAt old state → WA state u front m → WB m v rest z → WC state v (front ++ rest) z)
      → ((state m : State) (front rest : List LawLine) (z : State) → IsStateAt old state → WA state u front m → PB m rest z → PC state (front ++ rest) z)
      → ((state m : State) (front rest : List LawLine) (z : State) → IsStateAt old state → WA state u front m → LB m rest z → LC state (front ++ rest) z) → Led tells old new r WC PC LC
  led_join (Ok v) B whole part last = record {
    header = B.header ∙ A.header;
    options = B.options ∙ A.options;
    rises = (let one = A.rises in let two = B.rises in omega (arith, one, two));
    added = A.added ++ B.added;
    lines = lines_join old.lines mid.lines new.lines A.added B.added A.lines B.lines;
    grown = lengths_join A.added B.added old.size mid.size new.size A.grown B.grown;
    fits = B.fits;
    quiet = B.quiet ∙ A.quiet;
    told = λ told state is. (let one = A.told told state is in
        let two = B.told told one.0 one.1 in
        (two.0, two.1, subst (λ ls. WC state v ls two.0) (sym (map-append law_line A.added B.added)) (whole state one.0 v (law_lines A.added) (law_lines B.added) two.0 is one.2 two.2)));
    calls = λ told state is. (let one = A.told told state is in told_join old mid new u (Ok v) A.added B.added (A.calls told state is) (B.calls told one.0 one.1));
    rose = λ told state is. tt;
  }
  led_join (Err Memory) B whole part last = record {
    header = B.header ∙ A.header;
    options = B.options ∙ A.options;
    rises = (let one = A.rises in let two = B.rises in omega (arith, one, two));
    added = A.added ++ B.added;
    lines = lines_join old.lines mid.lines new.lines A.added B.added A.lines B.lines;
    grown = lengths_join A.added B.added old.size mid.size new.size A.grown B.grown;
    fits = B.fits;
    quiet = B.quiet ∙ A.quiet;
    told = λ told state is. (let one = A.told told state is in
        let two = B.told told one.0 one.1 in
        (two.0, two.1, subst (λ ls. PC state ls two.0) (sym (map-append law_line A.added B.added)) (part state one.0 (law_lines A.added) (law_lines B.added) two.0 is one.2 two.2)));
    calls = λ told state is. (let one = A.told told state is in told_join old mid new u (Err Memory) A.added B.added (A.calls told state is) (B.calls told one.0 one.1));
    rose = λ told state is. tt;
  }
  led_join (Err Io) B whole part last = record {
    header = tt;
    options = tt;
    rises = (let one = A.rises in let two = B.rises in omega (arith, one, two));
    added = A.added ++ B.added;
    lines = lines_join old.lines mid.lines new.lines A.added B.added A.lines B.lines;
    grown = tt;
    fits = tt;
    quiet = tt;
    told = λ told state is. (let one = A.told told state is in
        let two = B.told told one.0 one.1 in
        (two.0, subst (λ ls. LC state ls two.0) (sym (map-append law_line A.added B.added)) (last state one.0 (law_lines A.added) (law_lines B.added) two.0 is one.2 two.1)));
    calls = λ told state is. (let one = A.told told state is in told_join old mid new u (Err Io) A.added B.added (A.calls told state is) (B.calls told one.0 one.1));
    rose = λ told state is. (let one = A.told told state is in subst (λ n. Rose n new.faults) A.quiet (B.rose told one.0 one.1));
  }
