-- What generated commands leave, and what is told of them.
use Rattle.std.specs.Prelude.{ℕ, ◌≡◌, List, [], ◌∷◌, ◌++◌, length, Result, Ok, Err}
use Rattle.tdb_space.specs.Form.{Form}
use Rattle.tdb_space.specs.Accepted.{AcceptWith}
use Rattle.tdb_space.specs.Pairs.{order_of}
use Rattle.tdb_steps.specs.Turns.{number_of}
use Rattle.tdb_law.specs.Beginning.{IsLoaded}
use Rattle.tdb_law.specs.Images.{image_map}
use Rattle.tdb_law.specs.Plays.{Course}
use Rattle.tdb_law.specs.World.{State}
use Rattle.tdb_log.specs.Logs.{Logged}
use Rattle.tdb_commands.specs.InLaw.{law_plays, law_lines, options_of}
use Rattle.tdb_commands.specs.declared.line.Line.{Line}
use Rattle.tdb_commands.specs.declared.options.Options.{Options}
use Rattle.tdb_openers.specs.Played.{ComesTo}
use Rattle.tdb_world.specs.Courses.Hearing.{Heard}
use Rattle.tdb_gen.specs.declared.fault.GenFault.{GenFault}
use Rattle.tdb_gen.specs.declared.fault.GenFault.TheVariants.{Io, Memory, Log}
use Rattle.tdb_gen.specs.declared.summary.Summary.{Summary}
use Rattle.tdb_gen.specs.Counts.{counts_of}
use Rattle.tdb_gen.specs.Plays.{joins, groups, group_list, gen_plays}
use Rattle.tdb_gen.specs.Taking.{HeardSo, Parts}

-- Three openers joined, and then each group of commands was taken to its end: nobody had an unfinished command behind
-- it.
pub record AllDone (f : Form) (n seed : ℕ) (old : State) (lines : List Line) (new : State) : Type 0 where
  pub mid : State
  pub front : List Line
  pub rest : List Line
  pub told : lines ≡ front ++ rest
  pub joined : Parts f old (joins ∷ []) front mid
  pub three : mid.joined ≡ 3
  pub done : Parts f mid (group_list n seed (groups n)) rest new

-- the file of a state has these bytes: their map and their sequence number
pub record HasFile (f : Form) (img : List ℕ) (state : State) : Type 0 where
  pub file : state.file ≡ image_map f img
  pub number : state.number ≡ number_of f img

-- a state of a world that is just loaded over a file with these bytes, with these options
pub record IsFirst (f : Form) (options : Options) (a : List ℕ) (first : State) : Type 0 where
  pub loaded : IsLoaded f first (options_of options)
  pub file : HasFile f a first

-- All plays of n commands from a seed on were taken over the image a, which is b after them, an accepted one; every
-- command is done; and the summary counts the lines of the plays, and the keys and bytes of b.
pub record Generated (f : Form) (options : Options) (a : List ℕ) (n seed : ℕ) (b : List ℕ) (summary : Summary) : Type 0 where
  pub first : State
  pub begins : IsFirst f options a first
  pub last : State
  pub file : HasFile f b last
  pub lines : List Line
  pub course : Course f first (law_plays (gen_plays n seed)) (law_lines lines) last
  pub done : AllDone f n seed first lines last
  pub accepted : AcceptWith f b []
  pub commands : summary.commands ≡ n
  pub counts : summary.counts ≡ counts_of lines
  pub live : summary.live ≡ length (order_of f b)
  pub size : summary.length ≡ length b

-- They were taken over the image a as far as they came, to this state, where they broke off so; and logs heard of their
-- lines.
pub record CameSo (f : Form) (options : Options) (a : List ℕ) (n seed : ℕ) (fault : GenFault) (last : State) (logs later : List Logged) : Type 0 where
  pub first : State
  pub begins : IsFirst f options a first
  pub lines : List Line
  pub came : ComesTo f first (law_plays (gen_plays n seed)) (law_lines lines) last
  pub heard : HeardSo fault logs lines later

-- and the image is b then
abbrev pub CameOver : Form → Options → List ℕ → ℕ → ℕ → List ℕ → GenFault → List Logged → List Logged → Type 0
CameOver f options a n seed b fault logs later = (last : State) × HasFile f b last × CameSo f options a n seed fault last logs later

-- By the answer, with what logs heard, of all lines where all was done. Where the disk failed nothing is said of what
-- is left.
abbrev pub GeneratedOver : Form → Options → List ℕ → ℕ → ℕ → List ℕ → List Logged → List Logged → Result Summary GenFault → Type 0
GeneratedOver f options a n seed b logs later (Ok summary) = (g : Generated f options a n seed b summary) × Heard logs g.lines later
GeneratedOver f options a n seed b logs later (Err Io) = (last : State) × CameSo f options a n seed Io last logs later
GeneratedOver f options a n seed b logs later (Err Memory) = CameOver f options a n seed b Memory logs later
GeneratedOver f options a n seed b logs later (Err Log) = CameOver f options a n seed b Log logs later
