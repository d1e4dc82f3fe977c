-- What is done in a session, one after the other, with its text written as it is made.
use Rattle.std.proofs.Common.{◌≡◌, ℕ, List, [], ◌++◌, Option, None, Some, inl, refl, sym, ◌∙◌, ap, subst, arith}
use Rattle.std.specs.Prelude.{Bool}
use Rattle.std.proofs.lemmas.List.{append_assoc, append-nil}
use Rattle.tdb_disk.specs.Count.{Rose}
use Rattle.tdb_space.specs.Form.{Form, form_in}
use Rattle.tdb_law.specs.World.{State}
use Rattle.tdb_commands.specs.declared.line.Line.{Line}
use Rattle.tdb_world.specs.Stops.{IsSafe}
use Rattle.tdb_world.specs.Whole.{form_at}
use Rattle.tdb_tool.specs.declared.fault.SessionFault.{SessionFault}
use Rattle.tdb_tool.specs.declared.fault.SessionFault.TheVariants as F
use Rattle.tdb_world.specs.Courses.Scene.{Scene, IsStateAt}
use Rattle.tdb_tool.specs.Serving.{UnlessBroken, OnBroken, HeardSo, Deed, TellsAll, TellsFront, LeavesAll, LeavesFront, RunsTo, IsUnspent, DoneBetween, Led}
use Rattle.tdb_tool.proofs.Calling.{calls_after, calls_as, calls_none}
use Rattle.tdb_tool.proofs.Hearing.{heard_after}
use Rattle.tdb_tool.proofs.Stops.{LeadsOn, stops_nowhere, stops_after}
use Rattle.tdb_tool.proofs.Telling.{front_all, front_after}

-- What is done behind something else makes a third thing: its lines and its text are those of both.
abbrev pub Follows : Deed → Deed → Deed → Type 0
Follows first next both =
    (f : Form) (old mid new : State) (front rest : List Line) (text more : List ℕ) → first f old front text mid → next f mid rest more new → both f old (front ++ rest) (text ++ more) new

-- what was done is something else too
abbrev pub IsToo : Deed → Deed → Type 0
IsToo one two = (f : Form) (old new : State) (lines : List Line) (text : List ℕ) → one f old lines text new → two f old lines text new

module _ (f : Form) (told : Bool) where
  all_then_all : (first next both : Deed) → Follows first next both → (old mid new : State) (before between now : List ℕ) → TellsAll first f old mid told before between → TellsAll next f mid new told between now → TellsAll both f old new told before now
  all_then_all first next both follows old mid new before between now p q = (
    p.0 ++ q.0,
    p.1 ++ q.1,
    follows f old mid new p.0 q.0 p.1 q.1 p.2 q.2,
    λ heard. q.3 heard ∙ ap (λ b. b ++ q.1) (p.3 heard) ∙ append_assoc before p.1 q.1,
  )

  all_then_front : (first next both : Deed) → Follows first next both → (old mid new : State) (before between now : List ℕ) → TellsAll first f old mid told before between → TellsFront next f mid new told between now → TellsFront both f old new told before now
  all_then_front first next both follows old mid new before between now p q = (
    p.0 ++ q.0,
    p.1 ++ q.1,
    follows f old mid new p.0 q.0 p.1 q.1 p.2 q.2,
    λ heard. front_after before between now p.1 q.1 (p.3 heard) (q.3 heard),
  )

  pub all_as : (one two : Deed) → IsToo one two → (old new : State) (before now : List ℕ) → TellsAll one f old new told before now → TellsAll two f old new told before now
  all_as one two too old new before now p = (p.0, p.1, too f old new p.0 p.1 p.2, p.3)

  pub front_as : (one two : Deed) → IsToo one two → (old new : State) (before now : List ℕ) → TellsFront one f old new told before now → TellsFront two f old new told before now
  front_as one two too old new before now p = (p.0, p.1, too f old new p.0 p.1 p.2, p.3)

  -- the text that was written whole is a front of itself
  pub all_is_front : (deed : Deed) (old new : State) (before now : List ℕ) → TellsAll deed f old new told before now → TellsFront deed f old new told before now
  all_is_front deed old new before now p = (p.0, p.1, p.2, λ heard. front_all before p.1 now (p.3 heard))

  -- and so what leaves a state that may be left
  module _ (IsLeft : State → Type 0) where
    left_as : (one two : Deed) → IsToo one two → (old : State) (before now : List ℕ) → LeavesAll one f old IsLeft told before now → LeavesAll two f old IsLeft told before now
    left_as one two too old before now p = (p.0, p.1, all_as one two too old p.0 before now p.2)

    pub left_front_as : (one two : Deed) → IsToo one two → (old : State) (before now : List ℕ) → LeavesFront one f old IsLeft told before now → LeavesFront two f old IsLeft told before now
    left_front_as one two too old before now p = (p.0, p.1, front_as one two too old p.0 before now p.2)

    pub left_front : (deed : Deed) (old : State) (before now : List ℕ) → LeavesAll deed f old IsLeft told before now → LeavesFront deed f old IsLeft told before now
    left_front deed old before now p = (p.0, p.1, all_is_front deed old p.0 before now p.2)

    left_on : (first next both : Deed) → Follows first next both → (old mid : State) (before between now : List ℕ) → TellsAll first f old mid told before between → LeavesAll next f mid IsLeft told between now → LeavesAll both f old IsLeft told before now
    left_on first next both follows old mid before between now p q = (q.0, q.1, all_then_all first next both follows old mid q.0 before between now p q.2)

    left_front_on : (first next both : Deed) → Follows first next both → (old mid : State) (before between now : List ℕ) → TellsAll first f old mid told before between → LeavesFront next f mid IsLeft told between now → LeavesFront both f old IsLeft told before now
    left_front_on first next both follows old mid before between now p q = (q.0, q.1, all_then_front first next both follows old mid q.0 before between now p q.2)

    -- what was done behind something else, as far as it came
    runs_after : (first whole part both half : Deed) → Follows first whole both → Follows first part half → (old mid : State) (before between now : List ℕ) (answer : Option SessionFault)
        → TellsAll first f old mid told before between → RunsTo whole part f mid IsLeft told between now answer → RunsTo both half f old IsLeft told before now answer
    runs_after first whole part both half all some old mid before between now None p q = left_on first whole both all old mid before between now p q
    runs_after first whole part both half all some old mid before between now (Some F.Input) p q = left_on first whole both all old mid before between now p q
    runs_after first whole part both half all some old mid before between now (Some F.Output) p q = left_front_on first part half some old mid before between now p q
    runs_after first whole part both half all some old mid before between now (Some F.Device) p q = (q.0, all_then_front first part half some old mid q.0 before between now p q.1)
    runs_after first whole part both half all some old mid before between now (Some F.Log) p q = left_on first part half some old mid before between now p q
    runs_after first whole part both half all some old mid before between now (Some F.Memory) p q = left_front_on first part half some old mid before between now p q

    runs_as : (whole part all some : Deed) → IsToo whole all → IsToo part some → (old : State) (before now : List ℕ) (answer : Option SessionFault) → RunsTo whole part f old IsLeft told before now answer → RunsTo all some f old IsLeft told before now answer
    runs_as whole part all some w p old before now None q = left_as whole all w old before now q
    runs_as whole part all some w p old before now (Some F.Input) q = left_as whole all w old before now q
    runs_as whole part all some w p old before now (Some F.Output) q = left_front_as part some p old before now q
    runs_as whole part all some w p old before now (Some F.Device) q = (q.0, front_as part some p old q.0 before now q.1)
    runs_as whole part all some w p old before now (Some F.Log) q = left_as part some p old before now q
    runs_as whole part all some w p old before now (Some F.Memory) q = left_front_as part some p old before now q

-- what holds unless the disk failed is weakened, or moved
pub unless_map : {A B : Type 0} (answer : Option SessionFault) → (A → B) → UnlessBroken answer A → UnlessBroken answer B
unless_map None h a = h a
unless_map (Some F.Input) h a = h a
unless_map (Some F.Output) h a = h a
unless_map (Some F.Device) h a = tt
unless_map (Some F.Log) h a = h a
unless_map (Some F.Memory) h a = h a

pub on_map : {A B : Type 0} (answer : Option SessionFault) → (A → B) → OnBroken answer A → OnBroken answer B
on_map None h a = tt
on_map (Some F.Input) h a = tt
on_map (Some F.Output) h a = tt
on_map (Some F.Device) h a = h a
on_map (Some F.Log) h a = tt
on_map (Some F.Memory) h a = tt

-- what was done with what stops leave, what logs heard and which calls lines tell is something else too, and so it is
-- behind something else
pub done_too : (start new : Scene) (answer other : Option SessionFault) (one two : Deed) → ((A : Type 0) → UnlessBroken answer A → UnlessBroken other A)
    → ((lines : List Line) → HeardSo answer start.logs lines new.logs → HeardSo other start.logs lines new.logs) → IsToo one two
    → IsToo (DoneBetween start new answer one) (DoneBetween start new other two)
done_too start new answer other one two moved told too f old after lines text (done, stops, heard, calls) = (
  too f old after lines text done,
  λ safe calm. (let S = stops safe calm in record { stops = S.stops; stays = S.stays; safe = moved (IsSafe f new.over.history) S.safe }),
  told lines heard,
  calls_as start new answer other moved lines calls,
)

done_follows : (start mid new : Scene) (answer : Option SessionFault) (first next both : Deed) → LeadsOn first → Follows first next both
    → Follows (DoneBetween start mid None first) (DoneBetween mid new answer next) (DoneBetween start new answer both)
done_follows start mid new answer first next both leads follows f old at after front rest text more (done, stops, heard, calls) (went, others, told, called) = (
  follows f old at after front rest text more done went,
  stops_after f start mid new answer old at front rest (leads f old at front text done) stops others,
  heard_after start.logs mid.logs new.logs front rest answer heard told,
  calls_after start mid new answer front rest calls called,
)

module _ (disk_tells told : Bool) where
  -- nothing was done, which is something
  pub led_nowhere : (whole part : Deed) (start : Scene) → ((f : Form) (old : State) → whole f old [] [] old) → IsUnspent start → Led disk_tells told whole part start start None
  led_nowhere whole part start nothing unspent = record {
    header = refl;
    options = refl;
    unspent = unspent;
    rises = omega arith;
    quiet = refl;
    runs = λ heard state is. (state, is, ([], [], (nothing (form_at start.over.world) state, (λ safe calm. stops_nowhere start state is safe), refl, calls_none start), λ out. sym (append-nil start.written)));
    rose = λ heard state is. tt;
  }

  -- the whole was done, and then the input failed, or memory was wanting
  pub led_input : (whole part : Deed) (start new : Scene) → Led disk_tells told whole part start new None → Led disk_tells told whole part start new (Some F.Input)
  led_input whole part start new led = record {
    header = led.header;
    options = led.options;
    unspent = led.unspent;
    rises = led.rises;
    quiet = led.quiet;
    runs = λ heard state is.
        left_as (form_at start.over.world) told (IsStateAt new) (DoneBetween start new None whole) (DoneBetween start new (Some F.Input) whole)
        (done_too start new None (Some F.Input) whole whole (λ A a. a) (λ lines heard. heard) (λ f old after lines text done. done)) state start.written new.written (led.runs heard state is);
    rose = λ heard state is. tt;
  }

  pub led_memory : (whole part : Deed) → IsToo whole part → (start new : Scene) → Led disk_tells told whole part start new None → Led disk_tells told whole part start new (Some F.Memory)
  led_memory whole part too start new led = record {
    header = led.header;
    options = led.options;
    unspent = led.unspent;
    rises = led.rises;
    quiet = led.quiet;
    runs = λ heard state is.
        left_front_as (form_at start.over.world) told (IsStateAt new) (DoneBetween start new None whole) (DoneBetween start new (Some F.Memory) part)
        (done_too start new None (Some F.Memory) whole part (λ A a. a) (λ lines heard. inl heard) too) state start.written new.written
        (left_front (form_at start.over.world) told (IsStateAt new) (DoneBetween start new None whole) state start.written new.written (led.runs heard state is));
    rose = λ heard state is. tt;
  }

  -- what was done is something else too
  pub led_as : (whole part all some : Deed) → IsToo whole all → IsToo part some → (start new : Scene) (answer : Option SessionFault) → Led disk_tells told whole part start new answer → Led disk_tells told all some start new answer
  led_as whole part all some w p start new answer led = record {
    header = led.header;
    options = led.options;
    unspent = led.unspent;
    rises = led.rises;
    quiet = led.quiet;
    runs = λ heard state is.
        runs_as (form_at start.over.world) told (IsStateAt new) (DoneBetween start new answer whole) (DoneBetween start new answer part) (DoneBetween start new answer all) (DoneBetween start new answer some)
        (done_too start new answer answer whole all (λ A a. a) (λ lines heard. heard) w) (done_too start new answer answer part some (λ A a. a) (λ lines heard. heard) p) state start.written new.written answer (led.runs heard state is);
    rose = led.rose;
  }

  -- where it broke off but at the input, of the whole nothing is said
  pub led_but_input : (whole other part : Deed) (start new : Scene) (fault : SessionFault) → (fault ≡ F.Input → ⊥) → Led disk_tells told whole part start new (Some fault) → Led disk_tells told other part start new (Some fault)
  led_but_input whole other part start new fault but led = record {
    header = led.header;
    options = led.options;
    unspent = led.unspent;
    rises = led.rises;
    quiet = led.quiet;
    runs = λ heard state is. of (DoneBetween start new (Some fault) whole) (DoneBetween start new (Some fault) other) (DoneBetween start new (Some fault) part) state fault but (led.runs heard state is);
    rose = led.rose;
  }
    where
      of : (one two some : Deed) (state : State) (fault : SessionFault) → (fault ≡ F.Input → ⊥)
          → RunsTo one some (form_at start.over.world) state (IsStateAt new) told start.written new.written (Some fault)
          → RunsTo two some (form_at start.over.world) state (IsStateAt new) told start.written new.written (Some fault)
      of one two some state F.Input but runs = absurd (but refl)
      of one two some state F.Output but runs = runs
      of one two some state F.Device but runs = runs
      of one two some state F.Log but runs = runs
      of one two some state F.Memory but runs = runs

  -- something was done, and then something else
  module _ (first begun whole part both half : Deed) (leads : LeadsOn first) (all : Follows first whole both) (some : Follows first part half) (start mid new : Scene)
      (before : Led disk_tells told first begun start mid None) where
    same_form : form_at mid.over.world ≡ form_at start.over.world
    same_form = ap form_in before.header

    pub led_on : (answer : Option SessionFault) → Led disk_tells told whole part mid new answer → Led disk_tells told both half start new answer
    led_on answer next = record {
      header = unless_map answer (λ same. same ∙ before.header) next.header;
      options = unless_map answer (λ same. same ∙ before.options) next.options;
      unspent = next.unspent;
      rises = (let one = before.rises in let two = next.rises in omega (arith, one, two));
      quiet = unless_map answer (λ same. same ∙ before.quiet) next.quiet;
      runs = λ heard state is.
          (let r = before.runs heard state is in
          runs_after (form_at start.over.world) told (IsStateAt new) (DoneBetween start mid None first) (DoneBetween mid new answer whole) (DoneBetween mid new answer part)
          (DoneBetween start new answer both) (DoneBetween start new answer half)
          (done_follows start mid new answer first whole both leads all) (done_follows start mid new answer first part half leads some) state r.0 start.written mid.written new.written answer r.2
          (subst (λ f. RunsTo (DoneBetween mid new answer whole) (DoneBetween mid new answer part) f r.0 (IsStateAt new) told mid.written new.written answer) same_form (next.runs heard r.0 r.1)));
      rose = λ heard state is. (let r = before.runs heard state is in on_map answer (λ rose. subst (λ n. Rose n new.over.faults) before.quiet rose) (next.rose heard r.0 r.1));
    }
