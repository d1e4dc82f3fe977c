-- Nobody holds a byte below the free list's, as those of the opening lock, of the transaction lock and of the sequence
-- number are: the rows of commands that have had a step, and explicit locks, lie behind them. Nor does anybody write
-- past the last lock byte.
use Rattle.std.proofs.Common.{◌≡◌, ℕ, ◌+◌, ◌-◌, ◌<◌, ◌≤◌, ◌⊎◌, List, [], ◌∷◌, slice_get, Bool, true, false, nat_lt, Option, Some, None, refl, sym, ◌∙◌, ap, subst, inl, inr, arith, lit<, lit≤}
use Rattle.std.proofs.lemmas.Bool.{cases_eq, le-ltb}
use Rattle.tdb_space.specs.Form.{Form, data_start}
use Rattle.tdb_locks.specs.declared.piece.Piece.{Piece}
use Rattle.tdb_law.specs.Commands.{MapCommand, WalkCommand}
use Rattle.tdb_law.specs.Commands.WalkCommand.{First, Next, EndWalk, Close as CloseWalk}
use Rattle.tdb_law.specs.Openers.{nowhere, count_at}
use Rattle.tdb_law.specs.Beginning.{nobody}
use Rattle.tdb_law.specs.Rows.{Lock, lock_chain, lock_free, all_end, map_locks, walk_locks, locks_by, locks}
use Rattle.tdb_law.specs.Held.{locked, explicit_held, kept, is_gone, held, task_held, holding}
use Rattle.tdb_law.specs.World.{HasFewChains}
use Rattle.tdb_law.proofs.Locks.{locked_none, chain_place}
use Rattle.tdb_law.proofs.Kept.{closed_base}
use Rattle.tdb_steps.specs.Holdings.{strength, table_of}
use Rattle.tdb_steps.specs.PlainCommands.{command_of}
use Rattle.tdb_walk.specs.Cursors.{spot_of}
use Rattle.tdb_walk.specs.InLaw.{is_purging}
use Rattle.tdb_walk.proofs.Holding.{locks_are}
use Rattle.tdb_commands.specs.declared.options.Options.{Options}
use Rattle.tdb_commands.specs.InLaw.{options_of}
use Rattle.tdb_openers.specs.declared.opener.Opener.{Opener}
use Rattle.tdb_openers.specs.declared.job.Job.{Job}
use Rattle.tdb_openers.specs.declared.job.Job.TheVariants as Jobs
use Rattle.tdb_openers.specs.declared.job.Task.{Task}
use Rattle.tdb_openers.specs.Aside.{LowIsFree}
use Rattle.tdb_openers.specs.Openers.{own_of, own_at, rest_of, spot_by, spot_at, walk_command, walk_of, steps_of, task_at, command_in, law_task, JobStands, TaskStands, OpenerStands}
use Rattle.tdb_openers.specs.States.{WorldStands}
use Rattle.tdb_openers.proofs.ExplicitLocks.Beside.{below_bare, all_past}
use Rattle.tdb_openers.proofs.ExplicitLocks.Keeping.{kept_is, counts_keep}
use Rattle.tdb_openers.proofs.PlainTurns.PlainRows.{Misses, missed}
use Rattle.tdb_openers.proofs.Joining.Single.{either}
use Rattle.tdb_openers.proofs.Walks.Rests.{stand_most, walk_well}

-- each of these locks is of bytes from the free list's on
abbrev AreInside : List Lock → Type 0
AreInside [] = Unit {0}
AreInside (l ∷ ls) = (164 ≤ l.start) × (l.end ≤ all_end) × AreInside ls

-- the other bytes
abbrev IsOutside : ℕ → Type 0
IsOutside b = (b < 164) ⊎ (all_end ≤ b)

misses : (ls : List Lock) (b : ℕ) → AreInside ls → IsOutside b → Misses b ls
misses [] b inside out = tt
misses (l ∷ ls) b inside (inl low) = (inl (omega (arith, low, inside.0)), misses ls b inside.2 (inl low))
misses (l ∷ ls) b inside (inr past) = (inr (omega (arith, past, inside.1)), misses ls b inside.2 (inr past))

inside_bare : (ls : List Lock) (n b : ℕ) → AreInside ls → IsOutside b → locked ls n b ≡ 0
inside_bare ls n b inside out = missed ls n b (misses ls b inside out)

-- the rows of commands on the map and on cursors
module _ (f : Form) (few : HasFewChains f) where
  chain_inside : (k : List ℕ) (turn s : ℕ) (ls : List Lock) → AreInside ls → AreInside (lock_chain f turn k s ∷ ls)
  chain_inside k turn s ls rest = let place = chain_place f few k in (omega (arith, place.above), omega (arith, place.below, place.far), rest)

  two_inside : (k : List ℕ) (turn : ℕ) → AreInside (lock_chain f 0 k 2 ∷ lock_free turn 2 ∷ [])
  two_inside k turn = chain_inside k 0 2 (lock_free turn 2 ∷ []) (lit≤ tt, lit≤ tt, tt)

  map_inside : (c : MapCommand) → AreInside (map_locks f c)
  map_inside (MapCommand.Fetch k) = chain_inside k 0 1 [] tt
  map_inside (MapCommand.Has k) = chain_inside k 0 1 [] tt
  map_inside (MapCommand.Delete k) = two_inside k 2
  map_inside (MapCommand.Store k v) = two_inside k 2
  map_inside (MapCommand.Insert k v) = two_inside k 2
  map_inside (MapCommand.Modify k v) = two_inside k 2
  map_inside (MapCommand.Append k v) = two_inside k 2
  map_inside MapCommand.Wipe = (lit≤ tt, lit≤ tt, (lit≤ tt, lit≤ tt, tt))
  map_inside MapCommand.Check = (lit≤ tt, lit≤ tt, (lit≤ tt, lit≤ tt, tt))

  walk_inside : (w : WalkCommand) (cursor : Option (List ℕ)) (z : Bool) → AreInside (walk_locks f w cursor z)
  walk_inside w None z = tt
  walk_inside First (Some k) false = tt
  walk_inside Next (Some k) false = chain_inside k 0 1 [] tt
  walk_inside EndWalk (Some k) false = tt
  walk_inside CloseWalk (Some k) false = tt
  walk_inside First (Some k) true = two_inside k 1
  walk_inside Next (Some k) true = two_inside k 1
  walk_inside EndWalk (Some k) true = two_inside k 1
  walk_inside CloseWalk (Some k) true = two_inside k 1

-- a command that has had no step has locked nothing
pub early : (ls : List Lock) (n b : ℕ) → n ≡ 0 → locked ls n b ≡ 0
early ls n b none = ap (λ m. locked ls m b) none ∙ locked_none ls b

-- an opener that has nothing holds nothing
pub nobody_holds : (f : Form) (options : Options) (b : ℕ) → holding f (nobody (options_of options)) nowhere None b ≡ 0
nobody_holds f options b = let none : explicit_held f (nobody (options_of options)) b ≤ 0 = closed_base f 0 b (nobody (options_of options)) in omega (arith, none)

module _ (f : Form) (few : HasFewChains f) (options : Options) (x : Opener) (size b : ℕ) where
  row_bare : (job : Job) (n : ℕ) (z : Bool) → JobStands f (own_of options x) job n size → IsOutside b → locked (locks f (command_in job) (own_of options x) z) n b ≡ 0
  row_bare (Jobs.Refused command reply) n z K out = early (locks f (command_in (Jobs.Refused command reply)) (own_of options x) z) n b K.0
  row_bare (Jobs.Plain d) n z K out =
      ap (λ q. locked (locks_by f q (command_in (Jobs.Plain d)) (own_of options x) z) n b) K.granted ∙ inside_bare (map_locks f (command_of d.command)) n b (map_inside f few (command_of d.command)) out
  row_bare (Jobs.Check checking) n z K out =
      ap (λ q. locked (locks_by f q (command_in (Jobs.Check checking)) (own_of options x) z) n b) K.0 ∙ inside_bare (map_locks f MapCommand.Check) n b (map_inside f few MapCommand.Check) out
  row_bare (Jobs.Locking locking) n z K out = early (locks f (command_in (Jobs.Locking locking)) (own_of options x) z) n b K.0
  row_bare Jobs.Seqnum n z K out = early (locks f (command_in Jobs.Seqnum) (own_of options x) z) n b K.0
  row_bare (Jobs.Walk walking) n z K out =
      let w = walk_command walking in
      ap (λ ls. locked ls n b) (locks_are f w (own_of options x) z refl) ∙ inside_bare (walk_locks f w x.walk.shown z) n b (walk_inside f few w x.walk.shown z) out

  held_bare : (job : Job) (n : ℕ) → JobStands f (own_of options x) job n size → IsOutside b → held f (command_in job) (own_of options x) (spot_by x.walk.cursor) n b ≡ 0
  unfolding held
  held_bare job n K out =
      let none = row_bare job n (is_purging x.walk.cursor.stage) K out in
      either (is_gone (command_in job) (spot_by x.walk.cursor)) 0 _ (sym none) ∙ none

  task_bare : (t : Option Task) → TaskStands f (own_of options x) t size → IsOutside b → task_held f (own_of options x) (spot_by x.walk.cursor) (law_task t) b ≡ 0
  task_bare None K out = refl
  task_bare (Some t) K out = held_bare t.job t.steps K out

  -- nor does it keep such a byte, or write it at least
  kept_low : OpenerStands f options size (Some x) → b < 164 → kept f (own_of options x) (spot_by x.walk.cursor) b ≡ 0
  kept_low S low =
      let well = walk_well f x.held (own_of options x) (walk_of x.task) (steps_of x.task) x.walk.cursor S.2 in
      below_bare f few options x.live x.held (rest_of x.walk) S.0.counts well b (omega arith)

  kept_past : all_end ≤ b → kept f (own_of options x) (spot_by x.walk.cursor) b ≤ 1
  kept_past past =
      let whole = kept_is f (own_of options x) (spot_by x.walk.cursor) refl b in
      let far : nat_lt b (data_start f) ≡ false = le-ltb b (data_start f) (let place = chain_place f few [] in omega (arith, place.far, past)) in
      let none : counts_keep f (count_at (own_of options x) b) b ≡ 0 = rw far refl in
      let all = all_past x.held.all b past in
      let one = stand_most (spot_of x.walk.cursor.place) b in
      omega (arith, whole, none, all, one)

module _ (f : Form) (few : HasFewChains f) (options : Options) (size b : ℕ) where
  opener_low : (z : Option Opener) → OpenerStands f options size z → b < 164 → holding f (own_at options z) (spot_at z) (task_at z) b ≡ 0
  opener_low None K low = nobody_holds f options b
  opener_low (Some x) K low =
      let bare = task_bare f few options x size b x.task K.1 (inl low) in
      let none = kept_low f few options x size b K low in
      omega (arith, bare, none)

  opener_past : (z : Option Opener) → OpenerStands f options size z → all_end ≤ b → holding f (own_at options z) (spot_at z) (task_at z) b ≤ 1
  opener_past None K past = let none = nobody_holds f options b in omega (arith, none)
  opener_past (Some x) K past =
      let bare = task_bare f few options x size b x.task K.1 (inr past) in
      let most = kept_past f few options x size b past in
      omega (arith, bare, most)

module _ (f : Form) (options : Options) (xs : List Opener) (ps : List Piece) (a : List ℕ) (size : ℕ) (W : WorldStands f options xs ps a size) where
  none_below : (o b : ℕ) → b < 164 → table_of ps (o + 1) b ≡ 0
  none_below o b low = W.sound.agrees o b ∙ opener_low f W.sound.chains options size b (slice_get xs o) (W.openers_stand o) low

  pub nobody_opens : (o : ℕ) → table_of ps (o + 1) 0 ≡ 0
  nobody_opens o = none_below o 0 (lit< tt)

  -- past the last lock byte nobody writes
  pub none_past : (o b : ℕ) → all_end ≤ b → table_of ps (o + 1) b ≤ 1
  none_past o b past = let whole = W.sound.agrees o b in let most = opener_past f W.sound.chains options size b (slice_get xs o) (W.openers_stand o) past in omega (arith, whole, most)

pub low_is_free : LowIsFree
low_is_free f options xs ps a size W o b low = elim (cases_eq o 0) [
  | inl none ↦ ap (λ p. table_of ps p b) none ∙ ap strength (W.numbered b)
  | inr some ↦ (let before : o - 1 + 1 ≡ o = omega arith in subst (λ p. table_of ps p b ≡ 0) before (none_below f options xs ps a size W (o - 1) b low))
]
