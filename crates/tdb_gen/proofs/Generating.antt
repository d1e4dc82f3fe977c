-- All plays of generated commands, from their parts.
use Rattle.std.proofs.Common.{◌≡◌, ◌≢◌, ℕ, ◌+◌, ◌≤◌, Bool, [], length, Result, Ok, Err, refl, sym, ◌∙◌, ap, subst}
use Rattle.std.specs.Prelude.{IsTrue, IfOk, IfErr}
use Rattle.std.specs.List.{range_with_len}
use Rattle.tdb_disk.specs.Count.{Rose, HasCauseOf}
use Rattle.tdb_disk.specs.History.{History, seen}
use Rattle.tdb_space.specs.Accepted.{AcceptWith}
use Rattle.tdb_space.specs.Form.{Form, form_in}
use Rattle.tdb_space.specs.Pairs.{order_of}
use Rattle.tdb_law.specs.World.{State}
use Rattle.tdb_commands.specs.InLaw.{law_lines, options_of}
use Rattle.tdb_commands.specs.declared.options.Options.{Options}
use Rattle.tdb_world.specs.Loaded.{IsJustLoaded}
use Rattle.tdb_world.specs.States.{IsStateOf}
use Rattle.tdb_world.specs.Whole.{Whole, form_at, options_at}
use Rattle.tdb_world.proofs.Courses.Standings.{joined_in}
use Rattle.tdb_gen.specs.declared.fault.GenFault.{GenFault}
use Rattle.tdb_gen.specs.declared.fault.GenFault.TheVariants.{Io, Memory, Log}
use Rattle.tdb_gen.specs.declared.summary.Summary.{Summary}
use Rattle.tdb_gen.specs.Counts.{counts_of}
use Rattle.tdb_gen.specs.Generated.{HasFile, IsFirst, CameSo, CameOver, GeneratedOver}
use Rattle.tdb_gen.specs.Plays.{joins, groups, group_list, together, gen_plays}
use Rattle.tdb_gen.specs.Rounds.{IsReady}
use Rattle.tdb_gen.specs.Taking.{UnlessIo, OnIo, HaveJoined, Parts, Place, IsStateAt, TookAll, TookSome, LeavesSome, TakesTo, Taken}
use Rattle.tdb_gen.proofs.Plain.{IsPlainly, plainly, idle_accepted}
use Rattle.tdb_gen.proofs.Keeping.{gen_stay}
use Rattle.tdb_gen.proofs.Parting.{joins_parts, groups_parts}
use Rattle.tdb_gen.proofs.GoingOn.{joins_done, loaded_ready}
use Rattle.tdb_gen.proofs.Takings.{same_form, all_behind, all_some}

-- what holds of an answer that is this one
pub at_ok : {V F : Type 0} (r : Result V F) (P : V → Type 0) → IfOk r P → (v : V) → r ≡ Ok v → P v
at_ok r P h v e = subst (λ z. IfOk z P) e h

pub at_err : {V F : Type 0} (r : Result V F) (P : F → Type 0) → IfErr r P → (fault : F) → r ≡ Err fault → P fault
at_err r P h fault e = subst (λ z. IfErr z P) e h

-- why no summary is told where plays broke off
pub broke_cause : (before now : ℕ) (e : GenFault) → before ≤ now → UnlessIo {V = Unit {0}} (Err e) (now ≡ before) → OnIo {V = Unit {0}} (Err e) (Rose before now) → HasCauseOf {V = Summary} Io before now (Err e)
broke_cause before now Io low quiet rose = record { never_falls = low; failed = λ is. rose; refused = λ other. absurd (other refl); done = tt }
broke_cause before now Memory low quiet rose = record { never_falls = low; failed = λ is. cc; refused = λ other. quiet; done = tt }
broke_cause before now Log low quiet rose = record { never_falls = low; failed = λ is. cc; refused = λ other. quiet; done = tt }

pub broke_quiet : (before now : ℕ) (e : GenFault) → UnlessIo {V = Unit {0}} (Err e) (now ≡ before) → UnlessIo {V = Summary} (Err e) (now ≡ before)
broke_quiet before now Io quiet = tt
broke_quiet before now Memory quiet = quiet
broke_quiet before now Log quiet = quiet

-- a state of a world that was just made or loaded is a first one
pub just_first : (w : Whole) (h : History) (state : State) → IsJustLoaded w h state → IsFirst (form_at w) (options_at w) (seen h) state
just_first w h state J = record { loaded = J.loaded; file = record { file = J.over.file; number = J.over.number } }

-- three openers have joined where nobody had
pub three_there : (w v : Whole) (h : History) (state : State) → IsStateOf w h state → state.joined ≡ 0 → HaveJoined w v 3 → length v.openers.openers ≡ 3
three_there w v h state is none three =
    let more = three h state is in
    sym (joined_in v h more.0 more.1) ∙ more.2 ∙ ap (λ n. n + 3) none

module _ (options : Options) (n seed : ℕ) (old new : Place) (start : State) (begins : IsFirst (form_at old.over.world) options (seen old.over.history) start) where
  pub ready : IsReady (form_at old.over.world) start
  ready = loaded_ready (form_at old.over.world) start (options_of options) begins.loaded

  so : (fault : GenFault) (last : State) → TookSome (form_at old.over.world) old new (gen_plays n seed) fault start last → CameSo (form_at old.over.world) options (seen old.over.history) n seed fault last old.logs new.logs
  so fault last T = record { first = start; begins = begins; lines = T.lines; came = T.came; heard = T.heard }

  -- the file's bytes are those of the state
  file_of : (last : State) → new.over.world.openers.header ≡ old.over.world.openers.header → IsPlainly new.over.world new.over.history last → HasFile (form_at old.over.world) (seen new.over.history) last
  file_of last same P = subst (λ g. HasFile g (seen new.over.history) last) (ap form_in same) P.file

  -- they broke off
  over : (fault : GenFault) → new.over.world.openers.header ≡ old.over.world.openers.header → LeavesSome (form_at old.over.world) old new (gen_plays n seed) fault start
      → CameOver (form_at old.over.world) options (seen old.over.history) n seed (seen new.over.history) fault old.logs new.logs
  over fault same (last, is, T) =
      let K = gen_stay (form_at old.over.world) n seed start last (law_lines T.lines) ready.keys T.came in
      (last, file_of last same (plainly (form_at old.over.world) new.over.world new.over.history last K is), so fault last T)

  pub broke_over : (e : GenFault) → UnlessIo {V = Unit {0}} (Err e) (new.over.world.openers.header ≡ old.over.world.openers.header) → TakesTo (form_at old.over.world) old new (gen_plays n seed) start (Err e)
      → GeneratedOver (form_at old.over.world) options (seen old.over.history) n seed (seen new.over.history) old.logs new.logs (Err e)
  broke_over Io same (last, T) = (last, so Io last T)
  broke_over Memory same T = over Memory same T
  broke_over Log same T = over Log same T

  -- or they are done
  module _ (t : Bool) (mid : Place) (J : Taken t old mid joins (Ok tt)) (G : Taken t mid new (together (group_list n seed (groups n))) (Ok tt)) (tells : IsTrue t) (is : IsStateAt old start) where
    abbrev f : Form
    f = form_at old.over.world

    joined : (state : State) × IsStateAt mid state × TookAll f old mid joins start state
    joined = J.told tells start is

    rest : (state : State) × IsStateAt new state × TookAll f mid new (together (group_list n seed (groups n))) joined.0 state
    rest = subst (λ g. TakesTo g mid new (together (group_list n seed (groups n))) joined.0 (Ok tt)) (same_form t old mid joins J) (G.told tells joined.0 joined.1)

    abbrev all : TookAll f old new (gen_plays n seed) start rest.0
    all = all_behind f old mid new joins (together (group_list n seed (groups n))) start joined.0 joined.2 rest.0 rest.2

    ready_joined : IsReady f joined.0
    ready_joined = joins_done f start joined.0 (law_lines joined.2.lines) ready joined.2.course

    parts : Parts f joined.0 (group_list n seed (groups n)) rest.2.lines rest.0 × IsReady f rest.0
    parts = groups_parts f n seed (range_with_len 0 (groups n)) joined.0 rest.0 rest.2.lines ready_joined rest.2.course

    plain : IsPlainly new.over.world new.over.history rest.0
    plain = plainly f new.over.world new.over.history rest.0 parts.1.keys rest.1

    same : new.over.world.openers.header ≡ old.over.world.openers.header
    same = G.header ∙ J.header

    pub accepted : AcceptWith f (seen new.over.history) []
    accepted = subst (λ g. AcceptWith g (seen new.over.history) []) (ap form_in same) (idle_accepted new.over.world new.over.history rest.0 plain parts.1.idle)

    some : (fault : GenFault) → fault ≢ Log → TookSome f old new (gen_plays n seed) fault start rest.0
    some fault apart = all_some f old new (gen_plays n seed) start rest.0 fault apart all

    -- and then a summary was to be told
    pub done_over : old.counts ≡ counts_of [] → length mid.over.world.openers.openers ≡ 3 → (r : Result Summary GenFault)
        → ((s : Summary) → r ≡ Ok s → (s.commands ≡ n) × (s.counts ≡ new.counts) × (s.live ≡ length (order_of f (seen new.over.history))) × (s.length ≡ length (seen new.over.history))) → (r ≡ Err Log → ⊥)
        → GeneratedOver f options (seen old.over.history) n seed (seen new.over.history) old.logs new.logs r
    done_over none three (Ok s) told unlogged = (
      record {
        first = start;
        begins = begins;
        last = rest.0;
        file = file_of rest.0 same plain;
        lines = all.lines;
        course = all.course;
        done = record {
          mid = joined.0;
          front = joined.2.lines;
          rest = rest.2.lines;
          told = refl;
          joined = joins_parts f start joined.0 joined.2.lines ready joined.2.course;
          three = (plainly f mid.over.world mid.over.history joined.0 ready_joined.keys joined.1).joined ∙ three;
          done = parts.0;
        };
        accepted = accepted;
        commands = (told s refl).0;
        counts = (told s refl).1 ∙ all.counted [] none;
        live = (told s refl).2;
        size = (told s refl).3;
      },
      all.heard,
    )
    done_over none three (Err Io) told unlogged = (rest.0, so Io rest.0 (some Io (λ e. cc)))
    done_over none three (Err Memory) told unlogged = (rest.0, file_of rest.0 same plain, so Memory rest.0 (some Memory (λ e. cc)))
    done_over none three (Err Log) told unlogged = absurd (unlogged refl)
