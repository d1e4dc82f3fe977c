-- Plays over an opened image, from a world just loaded.
use Rattle.std.proofs.Common.{◌≡◌, ℕ, List, [], ◌++◌, false, Ok, Err, refl, sym, ◌∙◌, ap, subst}
use Rattle.std.specs.Prelude.{Bool, IsTrue}
use Rattle.std.proofs.lemmas.List.{append_assoc, map-append}
use Rattle.tdb_space.specs.Form.{Form}
use Rattle.tdb_backup.specs.Dump.{WroteFront}
use Rattle.tdb_law.specs.Beginning.{IsLoaded, beginning}
use Rattle.tdb_law.specs.Openers.{Map}
use Rattle.tdb_law.specs.Lines.{IsLawful}
use Rattle.tdb_law.specs.World.{State}
use Rattle.tdb_commands.specs.InLaw.{law_plays, law_line, law_lines, options_of}
use Rattle.tdb_commands.specs.declared.line.Line.{Line}
use Rattle.tdb_commands.specs.declared.options.Options.{Options}
use Rattle.tdb_commands.specs.declared.play.Play.{Play}
use Rattle.tdb_script.specs.Text.{report_text}
use Rattle.tdb_world.specs.Died.{IsReadAs}
use Rattle.tdb_world.specs.Courses.Laws.{ReportIsLawful}
use Rattle.tdb_world.specs.Courses.Unfinished.{EndsWith}
use Rattle.tdb_world.proofs.Courses.Coming.{whole_comes}
use Rattle.tdb_tool.proofs.Telling.{front_after}
use Rattle.tdb_world.specs.Loaded.{IsOver}
use Rattle.tdb_tool.specs.Whole.{beginning_over}
use Rattle.tdb_answer.specs.Commands.Turns.{LeadsTo, CameOver, report_so_far, report_whole}
use Rattle.tdb_answer.specs.declared.ending.Unprinted.TheVariants as Rest
use Rattle.tdb_open.specs.declared.halt.Fault.TheVariants as F
use Rattle.tdb_open.specs.Loading.{OpensToTurn}
use Rattle.tdb_answer.specs.Playing.{PlaysEnd, UnlessBroken, IsUnbroken, TellsAll, TellsFront, RunsTo, PlayedFront, PlayedOver}
use Rattle.tdb_log.specs.Logs.{Logged}
use Rattle.tdb_answer.proofs.Coming.{text_more}
use Rattle.tdb_answer.proofs.HeardPlays.{heard_more, heard_whole}

module _ (f : Form) (options : Options) (a : List ℕ) (plays : List Play) (old : State) (loaded : IsLoaded f old (options_of options)) (over : IsOver f a old) (told : Bool) (logs later : List Logged) where
  front_of : (new : State) (before now : List ℕ) (answer : PlaysEnd) → TellsFront f old plays new told before now logs later answer → PlayedFront f options a told before now logs later answer
  front_of new before now answer p = (p.0, report_so_far plays p.0 new (record { old = old; loaded = loaded; over = over; came = p.1 }), p.2, p.3)

  came_of : (new : State) (b before now : List ℕ) (answer : PlaysEnd) → IsReadAs f b new → TellsFront f old plays new told before now logs later answer → CameOver f options a b
  came_of new b before now answer is p = (plays, p.0, new, record { old = old; loaded = loaded; over = over; came = p.1 }, is)

  -- plays that broke off
  pub broken_off : (IsLeft : State → Type 0) (b before now : List ℕ) (answer : PlaysEnd) → (answer ≡ Ok (Ok tt) → ⊥) → ((new : State) → IsLeft new → UnlessBroken answer (IsReadAs f b new)) → RunsTo f old plays IsLeft told before now logs later answer
      → PlayedOver f options a plays b told before now logs later answer
  broken_off IsLeft b before now (Ok (Ok v)) other is p = absurd (other refl)
  broken_off IsLeft b before now (Ok (Err F.Device)) other is p = front_of p.0 before now (Ok (Err F.Device)) p.1
  broken_off IsLeft b before now (Ok (Err F.Memory)) other is p = (front_of p.0 before now (Ok (Err F.Memory)) p.2, came_of p.0 b before now (Ok (Err F.Memory)) (is p.0 p.1) p.2)
  broken_off IsLeft b before now (Ok (Err F.Log)) other is p = (front_of p.0 before now (Ok (Err F.Log)) p.2, came_of p.0 b before now (Ok (Err F.Log)) (is p.0 p.1) p.2)
  broken_off IsLeft b before now (Err Rest.Report) other is p = (front_of p.0 before now (Err Rest.Report) p.2, came_of p.0 b before now (Err Rest.Report) (is p.0 p.1) p.2)
  broken_off IsLeft b before now (Err Rest.Fault) other is p = front_of p.0 before now (Err Rest.Fault) p.1
  broken_off IsLeft b before now (Err Rest.Pairs) other is p = absurd p
  broken_off IsLeft b before now (Err Rest.Files) other is p = absurd p

  -- plays that were taken whole, and then the commands told that are unfinished
  module _ (new : State) (more : List Line) (ends : EndsWith new more) (b before mid now : List ℕ) (is : IsReadAs f b new) (p : TellsAll f old plays new told before mid logs later) where
    leads : LeadsTo f options a plays p.0 new
    leads = record { old = old; loaded = loaded; over = over; course = p.1 }

    lawful : ReportIsLawful → IsLawful f (beginning_over f options a) (law_lines (p.0 ++ more))
    lawful law = subst (λ ls. IsLawful f (beginning_over f options a) ls) (sym (map-append law_line p.0 more))
        (subst (λ (q : Map × ℕ). IsLawful f (beginning (options_of options) q.0 q.1) (law_lines p.0 ++ law_lines more)) (λ j. (over.file j, over.number j))
        (law f (options_of options) old new (law_plays plays) (law_lines p.0) more loaded p.1 ends))

    text : report_text (p.0 ++ more) ≡ report_text p.0 ++ report_text more
    text = text_more p.0 more

    whole_front : (answer : PlaysEnd) → IsUnbroken answer → (IsTrue told → WroteFront mid (report_text more) now) → PlayedFront f options a told before now logs later answer
    whole_front answer un front = (
      p.0 ++ more,
      report_whole plays p.0 more new leads ends,
      (λ heard. subst (λ t. WroteFront before t now) (sym text) (front_after before mid now (report_text p.0) (report_text more) (p.2 heard) (front heard))),
      heard_whole answer logs later (p.0 ++ more) un (heard_more new 0 new.joined p.0 more logs later ends p.3),
    )

    whole_came : CameOver f options a b
    whole_came = (plays, p.0, new, record { old = old; loaded = loaded; over = over; came = whole_comes f (law_plays plays) old new (law_lines p.0) p.1 }, is)

    pub finished : ReportIsLawful → (more ≡ [] → options.read_only ≡ false → OpensToTurn options b) → (answer : PlaysEnd) → IsUnbroken answer → (answer ≡ Ok (Ok tt) → IsTrue told → now ≡ mid ++ report_text more) → (IsTrue told → WroteFront mid (report_text more) now)
        → PlayedOver f options a plays b told before now logs later answer
    finished law again (Ok (Ok v)) un all front = record {
      lines = p.0;
      left = new;
      leads = leads;
      over = is;
      more = more;
      ends = ends;
      again = again;
      lawful = lawful law;
      printed = λ heard. all refl heard ∙ ap (λ m. m ++ report_text more) (p.2 heard) ∙ append_assoc before (report_text p.0) (report_text more) ∙ ap (λ t. before ++ t) (sym text);
      heard = p.3;
    }
    finished law again (Ok (Err F.Device)) un all front = absurd un
    finished law again (Ok (Err F.Memory)) un all front = (whole_front (Ok (Err F.Memory)) un front, whole_came)
    finished law again (Ok (Err F.Log)) un all front = absurd un
    finished law again (Err Rest.Report) un all front = (whole_front (Err Rest.Report) un front, whole_came)
    finished law again (Err Rest.Fault) un all front = absurd un
    finished law again (Err Rest.Pairs) un all front = absurd un
    finished law again (Err Rest.Files) un all front = absurd un
