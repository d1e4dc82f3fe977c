-- What is said of plays whose text was held, once it is written, or a front of it.
use Rattle.std.proofs.Common.{◌≡◌, List, ℕ, [], ◌++◌, append-nil, Result, Ok, Err, ◌⊎◌, Option, None, Some, true, false, inl, inr, refl, sym, ◌∙◌, subst}
use Rattle.std.specs.Prelude.{Bool, IsTrue, OnOk}
use Rattle.std.proofs.lemmas.Bool.{true≢false}
use Rattle.std.proofs.lemmas.List.{append_assoc}
use Rattle.tdb_space.specs.Form.{Form}
use Rattle.tdb_backup.specs.Dump.{WroteFront}
use Rattle.tdb_law.specs.World.{State}
use Rattle.tdb_log.specs.Logs.{Logged}
use Rattle.tdb_commands.specs.declared.line.Line.{Line}
use Rattle.tdb_world.specs.Stops.{IsSafe}
use Rattle.tdb_world.specs.Whole.{form_at}
use Rattle.tdb_world.specs.OverFile.{OverFile}
use Rattle.tdb_world.specs.Courses.Scene.{Scene, scene, IsStateAt}
use Rattle.tdb_tool.specs.declared.fault.SessionFault.{SessionFault}
use Rattle.tdb_tool.specs.declared.fault.SessionFault.TheVariants as F
use Rattle.tdb_tool.specs.Serving.{is_broken, UnlessBroken, OnBroken, HeardSo, Deed, TellsAll, TellsFront, LeavesFront, RunsTo, DoneBetween, Led, HeldBehind, EndsPrinted}
use Rattle.tdb_tool.proofs.Calling.{calls_as, unless_whole}
use Rattle.tdb_tool.proofs.Coming.{IsToo, all_is_front}
use Rattle.tdb_tool.proofs.Hearing.{heard_or_not}
use Rattle.tdb_tool.proofs.Telling.{nothing_behind, front_none, front_of_held}

-- what stops leave, what logs heard and which calls lines tell is the same, whatever was written
done_at : (start : Scene) (b : OverFile) (w now : List ℕ) (logs : List Logged) (answer other : Option SessionFault) (one two : Deed) → ((A : Type 0) → UnlessBroken answer A → UnlessBroken other A)
    → ((lines : List Line) → HeardSo answer start.logs lines logs → HeardSo other start.logs lines logs) → IsToo one two
    → IsToo (DoneBetween start (scene b w logs) answer one) (DoneBetween start (scene b now logs) other two)
done_at start b w now logs answer other one two moved told too f old after lines text (done, stops, heard, calls) = (
  too f old after lines text done,
  λ safe calm. (let S = stops safe calm in record { stops = S.stops; stays = S.stays; safe = moved (IsSafe f b.history) S.safe }),
  told lines heard,
  calls_as start (scene b w logs) answer other moved lines calls,
)

-- what was done, where another text was written, of which what is told follows
module _ (f : Form) (told : Bool) (IsLeft : State → Type 0) (old : State) (before w now : List ℕ) where
  all_moved : (one two : Deed) → IsToo one two → (new : State) → (IsTrue told → now ≡ w) → TellsAll one f old new told before w → TellsAll two f old new told before now
  all_moved one two too new same p = (p.0, p.1, too f old new p.0 p.1 p.2, λ heard. same heard ∙ p.3 heard)

  abbrev Cut : Type 0
  Cut = (text : List ℕ) → IsTrue told → WroteFront before text w → WroteFront before text now

  front_cut : (one two : Deed) → IsToo one two → (new : State) → Cut → TellsFront one f old new told before w → TellsFront two f old new told before now
  front_cut one two too new cut p = (p.0, p.1, too f old new p.0 p.1 p.2, λ heard. cut p.1 heard (p.3 heard))

  cut_moved : (IsTrue told → now ≡ w) → Cut
  cut_moved same text heard p = (p.0, p.1, same heard ∙ p.2)

  runs_moved : (whole part all some : Deed) → IsToo whole all → IsToo part some → (IsTrue told → now ≡ w) → (answer : Option SessionFault) → RunsTo whole part f old IsLeft told before w answer → RunsTo all some f old IsLeft told before now answer
  runs_moved whole part all some a s same None q = (q.0, q.1, all_moved whole all a q.0 same q.2)
  runs_moved whole part all some a s same (Some F.Input) q = (q.0, q.1, all_moved whole all a q.0 same q.2)
  runs_moved whole part all some a s same (Some F.Output) q = (q.0, q.1, front_cut part some s q.0 (cut_moved same) q.2)
  runs_moved whole part all some a s same (Some F.Device) q = (q.0, front_cut part some s q.0 (cut_moved same) q.1)
  runs_moved whole part all some a s same (Some F.Log) q = (q.0, q.1, all_moved part some s q.0 same q.2)
  runs_moved whole part all some a s same (Some F.Memory) q = (q.0, q.1, front_cut part some s q.0 (cut_moved same) q.2)

  runs_cut : (whole part some : Deed) → IsToo whole some → IsToo part some → Cut → (answer : Option SessionFault) → is_broken answer ≡ false → RunsTo whole part f old IsLeft told before w answer → LeavesFront some f old IsLeft told before now
  runs_cut whole part some a s cut None unbroken q = (q.0, q.1, front_cut whole some a q.0 cut (all_is_front f told whole old q.0 before w q.2))
  runs_cut whole part some a s cut (Some F.Input) unbroken q = (q.0, q.1, front_cut whole some a q.0 cut (all_is_front f told whole old q.0 before w q.2))
  runs_cut whole part some a s cut (Some F.Output) unbroken q = (q.0, q.1, front_cut part some s q.0 cut q.2)
  runs_cut whole part some a s cut (Some F.Device) unbroken q = absurd (true≢false unbroken)
  runs_cut whole part some a s cut (Some F.Log) unbroken q = (q.0, q.1, front_cut part some s q.0 cut (all_is_front f told part old q.0 before w q.2))
  runs_cut whole part some a s cut (Some F.Memory) unbroken q = (q.0, q.1, front_cut part some s q.0 cut q.2)

module _ (disk_tells told : Bool) (whole part : Deed) (start : Scene) (b : OverFile) (logs : List Logged) (w now : List ℕ) where
  -- the text is another in name alone
  pub led_moved : (IsTrue told → now ≡ w) → (answer : Option SessionFault) → Led disk_tells told whole part start (scene b w logs) answer → Led disk_tells told whole part start (scene b now logs) answer
  led_moved same answer led = record {
    header = led.header;
    options = led.options;
    unspent = led.unspent;
    rises = led.rises;
    quiet = led.quiet;
    runs = λ heard state is.
        runs_moved (form_at start.over.world) told (IsStateAt (scene b now logs)) state start.written w now
        (DoneBetween start (scene b w logs) answer whole) (DoneBetween start (scene b w logs) answer part) (DoneBetween start (scene b now logs) answer whole) (DoneBetween start (scene b now logs) answer part)
        (at_now whole) (at_now part) same answer (led.runs heard state is);
    rose = led.rose;
  }
    where
      at_now : (deed : Deed) → IsToo (DoneBetween start (scene b w logs) answer deed) (DoneBetween start (scene b now logs) answer deed)
      at_now deed = done_at start b w now logs answer answer deed deed (λ A a. a) (λ lines heard. heard) (λ f old new lines text done. done)

  module _ (cut : (text : List ℕ) → IsTrue told → WroteFront start.written text w → WroteFront start.written text now) where
    -- the output failed, and of the whole nothing is said
    pub led_lost : (other : Deed) → IsToo whole part → (answer : Option SessionFault) → is_broken answer ≡ false → Led disk_tells told whole part start (scene b w logs) answer → Led disk_tells told other part start (scene b now logs) (Some F.Output)
    led_lost other too answer unbroken led = record {
      header = unless_whole answer unbroken led.header;
      options = unless_whole answer unbroken led.options;
      unspent = unless_whole answer unbroken led.unspent;
      rises = led.rises;
      quiet = unless_whole answer unbroken led.quiet;
      runs = λ heard state is.
          runs_cut (form_at start.over.world) told (IsStateAt (scene b now logs)) state start.written w now
          (DoneBetween start (scene b w logs) answer whole) (DoneBetween start (scene b w logs) answer part) (DoneBetween start (scene b now logs) (Some F.Output) part)
          (at_now whole too) (at_now part (λ f old new lines text done. done)) cut answer unbroken (led.runs heard state is);
      rose = λ heard state is. tt;
    }
      where
        at_now : (deed : Deed) → IsToo deed part → IsToo (DoneBetween start (scene b w logs) answer deed) (DoneBetween start (scene b now logs) (Some F.Output) part)
        at_now deed is =
            done_at start b w now logs answer (Some F.Output) deed part (λ A a. unless_whole answer unbroken a) (λ lines heard. heard_or_not answer start.logs logs lines heard) is

    -- the disk failed, and of the text a front was written
    pub led_unwritten : Led disk_tells told whole part start (scene b w logs) (Some F.Device) → Led disk_tells told whole part start (scene b now logs) (Some F.Device)
    led_unwritten led = record {
      header = tt;
      options = tt;
      unspent = tt;
      rises = led.rises;
      quiet = tt;
      runs = λ heard state is.
          (let q = led.runs heard state is in (
            q.0,
            front_cut (form_at start.over.world) told (IsStateAt (scene b now logs)) state start.written w now (DoneBetween start (scene b w logs) (Some F.Device) part) (DoneBetween start (scene b now logs) (Some F.Device) part)
                (done_at start b w now logs (Some F.Device) (Some F.Device) part part (λ A a. a) (λ lines heard. heard) (λ f old new lines text done. done)) q.0 cut q.1,
          ));
      rose = led.rose;
    }

-- Plays ended, whose text was written but for what is held, and a text behind it. Both are written then, or a front is.
module _ (disk_tells told : Bool) (whole part : Deed) (too : IsToo whole part) (start : Scene) (b : OverFile) (logs : List Logged) (written held text : List ℕ)
    (grew : IsTrue told → (done : List ℕ) × (written ≡ start.written ++ done)) (now : List ℕ) where
  abbrev Left : Option SessionFault → Type 0
  Left answer = Led disk_tells told whole part start (scene b ((written ++ held) ++ text) logs) answer

  abbrev Printed : Option SessionFault → Type 0
  Printed answer = Led disk_tells told whole part start (scene b now logs) answer

  cut : (IsTrue told → WroteFront written (held ++ text) now) → (all : List ℕ) → IsTrue told → WroteFront start.written all ((written ++ held) ++ text) → WroteFront start.written all now
  cut some all heard p =
      let g = grew heard in
      front_of_held start.written g.0 written (held ++ text) all now g.1 (subst (WroteFront start.written all) (append_assoc written held text) p) (some heard)

  pub written_front : (other : Deed) → (IsTrue told → WroteFront written (held ++ text) now) → (answer : Option SessionFault) → is_broken answer ≡ false → Left answer → Led disk_tells told other part start (scene b now logs) (Some F.Output)
  written_front other some = led_lost disk_tells told whole part start b logs ((written ++ held) ++ text) now (cut some) other too

  written_all : (IsTrue told → now ≡ written ++ (held ++ text)) → (plays : Option SessionFault) → Left plays → Printed plays
  written_all wrote = led_moved disk_tells told whole part start b logs ((written ++ held) ++ text) now (λ heard. wrote heard ∙ sym (append_assoc written held text))

  as_taken : (plays : Option SessionFault) → (IsTrue told → UnlessBroken plays (now ≡ written ++ (held ++ text)) × OnBroken plays (now ≡ written)) → Left plays → Printed plays
  as_taken None wrote = written_all (λ heard. (wrote heard).0) None
  as_taken (Some F.Input) wrote = written_all (λ heard. (wrote heard).0) (Some F.Input)
  as_taken (Some F.Output) wrote = written_all (λ heard. (wrote heard).0) (Some F.Output)
  as_taken (Some F.Device) wrote = led_unwritten disk_tells told whole part start b logs ((written ++ held) ++ text) now (cut (λ heard. front_none written (held ++ text) now (wrote heard).1))
  as_taken (Some F.Log) wrote = written_all (λ heard. (wrote heard).0) (Some F.Log)
  as_taken (Some F.Memory) wrote = written_all (λ heard. (wrote heard).0) (Some F.Memory)

  pub ended : (plays answer : Option SessionFault) → EndsPrinted told plays written (held ++ text) now answer → Left plays → Printed answer
  ended plays answer (inl (same, wrote)) left = subst Printed (sym same) (as_taken plays wrote left)
  ended plays answer (inr (failed, unbroken, some)) left = subst Printed (sym failed) (written_front whole some plays unbroken left)

-- how a part ends: of plays that the disk broke off nothing more is written
pub broken_ends : (told : Bool) (plays : Option SessionFault) (before text now : List ℕ) → is_broken plays ≡ true → now ≡ before → EndsPrinted told plays before text now plays
broken_ends told None before text now broken same = absurd (true≢false (sym broken))
broken_ends told (Some F.Input) before text now broken same = absurd (true≢false (sym broken))
broken_ends told (Some F.Output) before text now broken same = absurd (true≢false (sym broken))
broken_ends told (Some F.Device) before text now broken same = inl (refl, λ heard. (tt, same))
broken_ends told (Some F.Log) before text now broken same = absurd (true≢false (sym broken))
broken_ends told (Some F.Memory) before text now broken same = absurd (true≢false (sym broken))

-- and of others all is
pub others_end : (told : Bool) (plays : Option SessionFault) (before text now : List ℕ) → is_broken plays ≡ false → (IsTrue told → now ≡ before ++ text) → EndsPrinted told plays before text now plays
others_end told None before text now whole wrote = inl (refl, λ heard. (wrote heard, tt))
others_end told (Some F.Input) before text now whole wrote = inl (refl, λ heard. (wrote heard, tt))
others_end told (Some F.Output) before text now whole wrote = inl (refl, λ heard. (wrote heard, tt))
others_end told (Some F.Device) before text now whole wrote = absurd (true≢false whole)
others_end told (Some F.Log) before text now whole wrote = inl (refl, λ heard. (wrote heard, tt))
others_end told (Some F.Memory) before text now whole wrote = inl (refl, λ heard. (wrote heard, tt))

-- all of a text is held, and none of it
pub all_held : (before text left : List ℕ) → left ≡ text → HeldBehind before text before left
all_held before text left same = ([], sym (append-nil before), same)

pub none_held : {T E : Type 0} (told : Bool) (answer : Result T E) (before text now left : List ℕ) → OnOk answer (IsTrue told → now ≡ before ++ text) → OnOk answer (left ≡ []) → OnOk answer (IsTrue told → HeldBehind before text now left)
none_held told (Ok x) before text now left wrote none = λ heard. (text, wrote heard, nothing_behind text left none)
none_held told (Err e) before text now left wrote none = tt
