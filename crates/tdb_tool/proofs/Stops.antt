-- What stops leave while parts of a session are done: where nothing is done, and of one part after another.
use Rattle.std.proofs.Common.{◌≡◌, ℕ, List, [], ◌++◌, Option, None, sym, subst}
use Rattle.std.proofs.lemmas.List.{map-append}
use Rattle.tdb_disk.specs.History.{History, seen}
use Rattle.tdb_disk.specs.Stop.{Quiet}
use Rattle.tdb_space.specs.Accepted.{AcceptWith}
use Rattle.tdb_space.specs.Form.{Form}
use Rattle.tdb_space.specs.Undoing.{Reopens}
use Rattle.tdb_space.proofs.Opening.Undone.{read_as_it_is}
use Rattle.tdb_space.proofs.Undoing.Alike.{exact_reopens}
use Rattle.tdb_law.specs.Lines.{Line as LawLine}
use Rattle.tdb_law.specs.World.{State}
use Rattle.tdb_commands.specs.InLaw.{law_line, law_lines}
use Rattle.tdb_commands.specs.declared.line.Line.{Line}
use Rattle.tdb_world.specs.Stops.{IsSafe}
use Rattle.tdb_world.specs.Whole.{form_at}
use Rattle.tdb_world.specs.Courses.Stops.{Leads, IsTransacted, OpensAndStays}
use Rattle.tdb_world.proofs.Courses.Stopping.{both_open, nothing_stays, opens_first, passes_behind, passes_front, safe_opens}
use Rattle.tdb_tool.specs.declared.fault.SessionFault.{SessionFault}
use Rattle.tdb_world.specs.Courses.Scene.{Scene, IsStateAt}
use Rattle.tdb_tool.specs.Serving.{Deed, StopsBetween}

-- what was done led on by plays
abbrev pub LeadsOn : Deed → Type 0
LeadsOn deed = (f : Form) (old new : State) (lines : List Line) (text : List ℕ) → deed f old lines text new → Leads f old (law_lines lines) new

-- a file is safe that is accepted, and all of which is on the medium
pub accepted_safe : (f : Form) (h : History) → AcceptWith f (seen h) [] → Quiet h → IsSafe f h
accepted_safe f h accepted quiet c left =
    let itself : Reopens (seen h) (seen h) = exact_reopens (seen h) (subst (λ g. AcceptWith g (seen h) []) (sym accepted.form) accepted) in
    subst (λ (q : List ℕ × List ℕ). Reopens q.0 q.1) (λ i. (sym (read_as_it_is f (seen h) accepted.shut) i, sym (quiet c left) i)) itself

-- nothing was done
pub stops_nowhere : (start : Scene) (state : State) → IsStateAt start state → IsSafe (form_at start.over.world) start.over.history → StopsBetween start start None (form_at start.over.world) state []
stops_nowhere start state is safe = record {
  stops = opens_first (form_at start.over.world) start.over.history start.over.history state 0 [] (safe_opens start.over.world start.over.history state is safe);
  stays = nothing_stays (form_at start.over.world) start.over.history start.over.history state;
  safe = safe;
}

-- Something was done, and then something else. The lines of both are calm only where those of each are.
module _ (f : Form) (start mid new : Scene) (answer : Option SessionFault) (old at : State) (front rest : List Line) (leads : Leads f old (law_lines front) at) where
  abbrev one : List LawLine
  one = law_lines front

  abbrev two : List LawLine
  two = law_lines rest

  pub stops_after : (IsSafe f start.over.history → IsTransacted f old one → StopsBetween start mid None f old front) → (IsSafe f mid.over.history → IsTransacted f at two → StopsBetween mid new answer f at rest)
      → IsSafe f start.over.history → IsTransacted f old (law_lines (front ++ rest)) → StopsBetween start new answer f old (front ++ rest)
  stops_after first next safe calm =
      let cut : law_lines (front ++ rest) ≡ one ++ two = map-append law_line front rest in
      let both : IsTransacted f old (one ++ two) = subst (IsTransacted f old) cut calm in
      let S = first safe (λ s o P. both s o (passes_front f old s one two P)) in
      let T = next S.safe (λ s o P. both s o (passes_behind f old at s one two leads P)) in
      let W = subst (OpensAndStays f start.over.history new.over.history old) (sym cut)
      (both_open f start.over.history mid.over.history new.over.history old at one two leads (record { opens = S.stops; stays = S.stays }) (record { opens = T.stops; stays = T.stays })) in
      record { stops = W.opens; stays = W.stays; safe = T.safe }
