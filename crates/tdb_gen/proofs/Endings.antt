-- What plays lead to, by how a turn ended.
use Rattle.std.proofs.Common.{◌≡◌, ℕ, Bool, List, [], ◌++◌, Result, Ok, Err, IfOk, refl, sym, subst, inr}
use Rattle.std.specs.Prelude.{IsTrue}
use Rattle.tdb_law.specs.Lines.{Line as LawLine}
use Rattle.tdb_law.specs.Plays.{Course}
use Rattle.tdb_law.specs.World.{State}
use Rattle.tdb_log.specs.Logs.{Logged}
use Rattle.tdb_log.specs.declared.log.LogRefusal.{LogRefusal}
use Rattle.tdb_log.specs.declared.log.LogRefusal.TheVariants as Unheard
use Rattle.tdb_commands.specs.InLaw.{law_plays, law_lines}
use Rattle.tdb_commands.specs.declared.line.Line.{Line}
use Rattle.tdb_commands.specs.declared.play.Play.{Play}
use Rattle.tdb_openers.specs.Played.{ComesTo}
use Rattle.tdb_openers.specs.declared.fault.RunFault.{RunFault}
use Rattle.tdb_openers.specs.declared.fault.RunFault.TheVariants as Run
use Rattle.tdb_world.specs.Whole.{form_at}
use Rattle.tdb_world.specs.OverFile.{OverFile, moment_of}
use Rattle.tdb_world.specs.OverFiles.Plays.{is_io}
use Rattle.tdb_world.specs.Courses.Hearing.{HeardLed}
use Rattle.tdb_world.specs.Courses.Led.{Moment, Led}
use Rattle.tdb_gen.specs.declared.counts.Counts.{Counts}
use Rattle.tdb_gen.specs.declared.fault.GenFault.{GenFault}
use Rattle.tdb_gen.specs.declared.fault.GenFault.TheVariants.{Io, Memory, Log}
use Rattle.tdb_gen.specs.Counts.{counts_of}
use Rattle.tdb_gen.specs.Taking.{end_of, end_only, HeardSo, Place, place, IsStateAt, TookAll, TookSome, Taken}

-- lines were counted behind others
abbrev pub AreCounted : Counts → List Line → Counts → Type 0
AreCounted before lines after = (told : List Line) → before ≡ counts_of told → after ≡ counts_of (told ++ lines)

-- What is said of the plays in other words: all of them, those in front where a log refused, a part of them where
-- memory was wanting, and what was done where the disk failed.
module _ {V : Type 0} (t : Bool) (w v : OverFile) (lines : List Line) (before after : Counts) (logs later : List Logged) (plays : List Play)
    (Does : State → Result V LogRefusal → List LawLine → State → Type 0) (Begins Fails : State → List LawLine → State → Type 0)
    (all : (state : State) (u : V) (ls : List LawLine) (z : State) → Does state (Ok u) ls z → Course (form_at w.world) state (law_plays plays) ls z)
    (some : (state : State) (refusal : LogRefusal) (ls : List LawLine) (z : State) → Does state (Err refusal) ls z → ComesTo (form_at w.world) state (law_plays plays) ls z)
    (begun : (state : State) (ls : List LawLine) (z : State) → Begins state ls z → ComesTo (form_at w.world) state (law_plays plays) ls z)
    (failed : (state : State) (ls : List LawLine) (z : State) → Fails state ls z → ComesTo (form_at w.world) state (law_plays plays) ls z) where
  abbrev Old : Place
  Old = place w before logs

  abbrev New : Place
  New = place v after later

  abbrev Start : Moment
  Start = moment_of w []

  abbrev End : Moment
  End = moment_of v lines

  module _ (answer : Result (Result V LogRefusal) RunFault) (led : Led t Start End answer Does Begins Fails) where
    pub added_is : led.added ≡ lines
    added_is = sym led.lines

    -- they came so far, and the logs heard of that
    came : (fault : GenFault) (start last : State) → ComesTo (form_at w.world) start (law_plays plays) (law_lines led.added) last → HeardSo fault logs lines later → TookSome (form_at w.world) Old New plays fault start last
    came fault start last C heard = record {
      lines = lines;
      came = subst (λ ls. ComesTo (form_at w.world) start (law_plays plays) (law_lines ls) last) added_is C;
      heard = heard;
    }

  abbrev pub all_taken : (u : V) → Led t Start End (Ok (Ok u)) Does Begins Fails → HeardLed {V = V} t Start End logs later (Ok (Ok u)) → AreCounted before lines after → IsTrue t → (start : State) → IsStateAt Old start
      → (last : State) × IsStateAt New last × TookAll (form_at w.world) Old New plays start last
  all_taken u led hears counted tells start is =
      let r = led.told tells start is in (
        r.0,
        r.1,
        record {
          lines = lines;
          course = subst (λ ls. Course (form_at w.world) start (law_plays plays) (law_lines ls) r.0) (added_is (Ok (Ok u)) led) (all start u (law_lines led.added) r.0 r.2);
          counted = counted;
          heard = hears tells start lines is refl;
        },
      )

  pub led_taken : (answer : Result (Result V LogRefusal) RunFault) → IfOk (end_of answer) (λ u. AreCounted before lines after) → Led t Start End answer Does Begins Fails → HeardLed t Start End logs later answer
      → v.spent ≡ is_io answer → Taken t Old New plays (end_only (end_of answer))
  led_taken (Ok (Ok u)) counted led hears spent = record {
    header = led.header;
    unspent = spent;
    rises = led.rises;
    quiet = led.quiet;
    told = all_taken u led hears counted;
    rose = λ tells start is. tt;
  }
  led_taken (Ok (Err Unheard.Failed)) counted led hears spent = record {
    header = led.header;
    unspent = spent;
    rises = led.rises;
    quiet = led.quiet;
    told = λ tells start is.
        (let r = led.told tells start is in (r.0, r.1, came (Ok (Err Unheard.Failed)) led Log start r.0 (some start Unheard.Failed (law_lines led.added) r.0 r.2) (hears tells start lines is refl)));
    rose = λ tells start is. tt;
  }
  led_taken (Ok (Err Unheard.Memory)) counted led hears spent = record {
    header = led.header;
    unspent = spent;
    rises = led.rises;
    quiet = led.quiet;
    told = λ tells start is.
        (let r = led.told tells start is in
        (r.0, r.1, came (Ok (Err Unheard.Memory)) led Memory start r.0 (some start Unheard.Memory (law_lines led.added) r.0 r.2) (inr (Unheard.Memory, hears tells start lines is refl))));
    rose = λ tells start is. tt;
  }
  led_taken (Err Run.Memory) counted led hears spent = record {
    header = led.header;
    unspent = spent;
    rises = led.rises;
    quiet = led.quiet;
    told = λ tells start is. (let r = led.told tells start is in (r.0, r.1, came (Err Run.Memory) led Memory start r.0 (begun start (law_lines led.added) r.0 r.2) (hears tells start lines is refl)));
    rose = λ tells start is. tt;
  }
  led_taken (Err Run.Io) counted led hears spent = record {
    header = tt;
    unspent = tt;
    rises = led.rises;
    quiet = tt;
    told = λ tells start is. (let r = led.told tells start is in (r.0, came (Err Run.Io) led Io start r.0 (failed start (law_lines led.added) r.0 r.1) (hears tells start lines is refl)));
    rose = λ tells start is. led.rose tells start is;
  }
