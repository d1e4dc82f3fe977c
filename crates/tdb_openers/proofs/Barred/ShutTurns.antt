-- The turns of an opener that is shut out are turns of the law in the whole state.
use Rattle.std.proofs.Common.{◌≡◌, ℕ, ◌+◌, ◌*◌, ◌≤◌, List, true, false, Some, None, refl, sym, ◌∙◌, ap, subst, inl, inr, arith}
use Rattle.tdb_space.specs.Form.{Form, form_in}
use Rattle.tdb_space.specs.Pairs.{home}
use Rattle.tdb_locks.specs.HeldLocks.{HeldLocks}
use Rattle.tdb_locks.specs.declared.turn.Reply.{Reply}
use Rattle.tdb_locks.specs.declared.turn.Turn.{Turn}
use Rattle.tdb_locks.specs.declared.turn.Turn.TheVariants.{Blocked, Done}
use Rattle.tdb_law.specs.Commands as Law
use Rattle.tdb_law.specs.Commands.{Command, WalkCommand}
use Rattle.tdb_law.specs.Commands.Command.{OnMap, OnLocks, OnWalk}
use Rattle.tdb_law.specs.Commands.WalkCommand.{First, Next, EndWalk, Close}
use Rattle.tdb_law.specs.Openers.{Own, Spot, Task as LawTask, View}
use Rattle.tdb_law.specs.Refusals.{refusal, says}
use Rattle.tdb_law.specs.Rows.{is_changed}
use Rattle.tdb_law.specs.Ends.{waits}
use Rattle.tdb_law.specs.Outcomes.{walk_moves, own_refused}
use Rattle.tdb_law.specs.Held.{wanted, decided}
use Rattle.tdb_law.specs.World.{State}
use Rattle.tdb_law.specs.Effects.{IsFirstConflict}
use Rattle.tdb_law.specs.Turned.{Turned, want}
use Rattle.tdb_law.proofs.Emptied.{unchanged_start}
use Rattle.tdb_law.specs.OneAside.Sides.{Past, Side, but_at, heads_ahead, beside}
use Rattle.tdb_law.specs.OneAside.Turns.{IsUngrouped, EndsAtOnce, LeavesNothing, IsLeave, without_task, without_cursor}
use Rattle.tdb_law.specs.OneAside.Turns.EndsAtOnce.{ends_refused, ends_busy, ends_past}
use Rattle.tdb_law.proofs.OneAside.Idle.{waiting_is_turned, end_is_turned}
use Rattle.tdb_law.proofs.OneAside.Leaving.{leaving_is_turned}
use Rattle.tdb_law.proofs.OneAside.Parted.{put_back}
use Rattle.tdb_law.proofs.OneAside.Shut.{shut_out_meets}
use Rattle.tdb_commands.specs.InLaw.{law_opener, law_command, law_reply, law_turn}
use Rattle.tdb_steps.specs.LockRows.{start_of, rows_of}
use Rattle.tdb_steps.specs.Order.{IsAfter}
use Rattle.tdb_steps.specs.PlainCommands.{command_of}
use Rattle.tdb_steps.specs.Machines.{Doing}
use Rattle.tdb_walk.specs.declared.standing.Standing.{Standing}
use Rattle.tdb_walk.specs.declared.standing.Standing.TheVariants.{Before, On, Past as PastChains}
use Rattle.tdb_walk.specs.declared.stage.Stage.{Stage}
use Rattle.tdb_walk.specs.Cursors.{spot_of}
use Rattle.tdb_walk.specs.InLaw.{StandsAfter, is_before}
use Rattle.tdb_walk.specs.Again.{RestsAt}
use Rattle.tdb_walk.proofs.Holding.{granted}
use Rattle.tdb_walk.proofs.Rows.{unchanged}
use Rattle.tdb_openers.specs.declared.opener.Opener.{Opener}
use Rattle.tdb_openers.specs.declared.job.Job.{Job}
use Rattle.tdb_openers.specs.declared.job.Job.TheVariants as Jobs
use Rattle.tdb_openers.specs.declared.job.Locking.{Locking}
use Rattle.tdb_openers.specs.declared.job.Locking.TheVariants as Locks
use Rattle.tdb_openers.specs.declared.job.Walking.{Walking}
use Rattle.tdb_openers.specs.declared.job.Walking.TheVariants as Walks
use Rattle.tdb_openers.specs.declared.job.Task.{Task}
use Rattle.tdb_openers.specs.Openers.{own_of, spot_by, command_in, locking_command, walk_command, IsRefused}
use Rattle.tdb_openers.specs.Openers.IsRefused.{refuses, has_ended}
use Rattle.tdb_openers.specs.ShutOut.{LockingMeets, WalkMeets, JobMeets}
use Rattle.tdb_openers.specs.Worlds.{World, state_in, law_of_task}
use Rattle.tdb_openers.proofs.Joining.Begun.{begun_stage}
use Rattle.tdb_openers.proofs.Joining.Endings.{refused_same}
use Rattle.tdb_openers.proofs.Joining.Occupied.{job_at, cursor_at, near_at}
use Rattle.tdb_openers.proofs.Barred.ShutOut.{IsBarred, apart, its_own, its_spot, its_task, its_view, few, stands_on_none, map_new}
use Rattle.tdb_openers.proofs.ExplicitLocks.Wanting.{FirstAt, plain_first, check_first, chain_first, busy_first, all_first, all_read_first}

-- the whole state after such a turn of a job: as it was where the turn is blocked, and else without the command; after
-- a Close its opener has ended
abbrev pub state_after : Law.Turn → Job → State → ℕ → State
state_after (Law.Turn.Ends r) (Jobs.Walk Walks.Close) v l = without_cursor Close v l
state_after (Law.Turn.Ends r) job v l = without_task v l
state_after turn job v l = v

-- An EndWalk or a Close of a cursor that stands on no record: the cursor has ended before, and the command has had no
-- step.
pub record Ended (f : Form) (x : Own) (place : Standing) (stage : Stage) (n : ℕ) : Type 0 where
  pub rests : RestsAt f x.cursor place stage
  pub none : x.cursor ≡ None
  pub past : place ≡ PastChains
  pub new : n ≡ 0

leave_ended : (f : Form) (held : HeldLocks) (x : Own) (w : WalkCommand) (place : Standing) (stage : Stage) (n : ℕ) → walk_moves w x ≡ false → spot_of place ≡ None → StandsAfter f held x w place stage (is_before place) n → Ended f x place stage n
leave_ended f held x w (On chain off) stage n still off_records S = absurd (cc off_records)
leave_ended f held x w (Before chain) stage n still off_records (rested, inl moved) = absurd (let bad : false ≡ true = sym still ∙ moved.1 in cc bad)
leave_ended f held x w (Before chain) stage n still off_records (rested, inr new) = absurd (let bad : true ≡ false = new.0 in cc bad)
leave_ended f held x w PastChains stage n still off_records (rested, none, near, new, asked) = record { rests = (none, rested); none = none; past = refl; new = new }

module _ {w : World} {img : List ℕ} {past : Past} {s : Side} {holder who : ℕ} {x : Opener} {t : Task} {any : List ℕ} {size : ℕ} (C : IsBarred w img past s holder who x t any size) where
  abbrev f : Form
  f = form_in w.header

  abbrev l : ℕ
  l = law_opener who

  abbrev own : Own
  own = own_of w.options x

  abbrev spot : Spot
  spot = spot_by x.walk.cursor

  abbrev lt : LawTask
  lt = law_of_task t

  abbrev q : State
  q = beside (state_in w img) past s

  here_is : law_opener holder ≡ s.here
  here_is = let counted = C.shuts.counted in omega (arith, counted)

  -- what a command wants in the whole state
  abbrev view : View
  view = heads_ahead s.heads ((state_in w img).mark l)

  abbrev Wants : Command → ℕ → ℕ → ℕ
  Wants c n b = wanted f c own (decided spot view n) view n b

  abbrev asked : Command → ℕ → LawTask
  asked c n = record { command = c; steps = n }

  want_is : (c : Command) (n b : ℕ) → want f q l (asked c n) b ≡ Wants c n b
  want_is c n b = λ i. wanted f c (its_own C i) (decided (its_spot C i) (its_view C i) n) (its_view C i) n b

  conflict : (c : Command) (n byte : ℕ) → IsUngrouped c → FirstAt (Wants c n) byte → IsFirstConflict q.table l (want f q l (asked c n)) s.here byte
  conflict c n byte free F =
      shut_out_meets f (state_in w img) past s l (asked c n) byte C.shuts.sound C.shuts.aside C.shuts.shuts (apart C) free F.from F.below
      (subst (λ z. 1 ≤ z) (sym (want_is c n byte)) F.some) (λ b low. want_is c n b ∙ F.first b low)

  -- a command that waits is blocked at the first byte that it wants
  blocked : (c : Command) (n byte : ℕ) → asked c n ≡ lt → IsUngrouped c → waits c ≡ true → is_changed f c own n ≡ false → FirstAt (Wants c n) byte → Turned f q l lt (Law.Turn.Blocked s.here byte) q
  blocked c n byte same free waiting unchanged F =
      subst (λ u. q.task l ≡ Some u → Turned f q l u (Law.Turn.Blocked s.here byte) q) same
      (λ mine. waiting_is_turned f q l (asked c n) s.here byte C.shuts.sound refl mine waiting (subst (λ z. is_changed f c z n ≡ false) (sym (its_own C)) unchanged) (conflict c n byte free F)) (its_task C)

  blocked_so : (j : Job) (byte : ℕ) (turn : Turn) → turn ≡ Blocked holder byte → Turned f q l lt (Law.Turn.Blocked s.here byte) q → Turned f q l lt (law_turn turn) (state_after (law_turn turn) j q l)
  blocked_so j byte turn is T = subst (λ u. Turned f q l lt (law_turn u) (state_after (law_turn u) j q l)) (sym is) (subst (λ o. Turned f q l lt (Law.Turn.Blocked o byte) q) (sym here_is) T)

  -- a command that ends at its first turn, and changes nothing
  ended : (c : Command) (r : Law.Reply) → asked c 0 ≡ lt → spot.gone ≡ false → EndsAtOnce f q l (asked c 0) r → Turned f q l lt (Law.Turn.Ends r) (without_task q l)
  ended c r same near E =
      subst (λ u. q.task l ≡ Some u → Turned f q l u (Law.Turn.Ends r) (without_task q l)) same
      (λ mine. end_is_turned f q l (asked c 0) r C.shuts.sound refl mine refl (ap (λ (z : Spot). z.gone) (its_spot C) ∙ near) E) (its_task C)

  refused : (c : Command) (r : Law.Reply) → own_refused c (q.own l) ≡ q.own l → IsRefused f own c r → EndsAtOnce f q l (asked c 0) r
  refused c r kept (refuses why is told) = ends_refused why (subst (λ z. refusal f c z ≡ Some why) (sym (its_own C)) is) kept (told ∙ ap (λ z. says z why) (sym (its_own C)))
  refused c r kept (has_ended is out none told) =
      ends_past is (subst (λ d. refusal f d (q.own l) ≡ None) (sym is) (granted f Next (q.own l) (ap (λ (z : Own). z.txn) (its_own C)))) (ap (λ (z : Own). z.txn) (its_own C)) (ap (λ (z : Own). z.cursor) (its_own C) ∙ none) told

  -- a cursor that ends
  module _ (c : WalkCommand) (same : asked (OnWalk c) 0 ≡ lt) (E : Ended f own x.walk.cursor.place x.walk.cursor.stage 0) where
    nothing_left : LeavesNothing q l
    nothing_left = record {
      outside = ap (λ (z : Own). z.txn) (its_own C);
      stands = ap (λ (z : Spot). z.stands) (its_spot C) ∙ ap spot_of E.past;
      near = ap (λ (z : Spot). z.gone) (its_spot C) ∙ ap is_before E.past;
      clean = ap (λ (z : View). z.must) (its_view C);
    }

    left : IsLeave c → Turned f q l lt (Law.Turn.Ends Law.Reply.Done) (without_cursor c q l)
    left is =
        subst (λ u. q.task l ≡ Some u → Turned f q l u (Law.Turn.Ends Law.Reply.Done) (without_cursor c q l)) same
        (λ mine. leaving_is_turned f q l (asked (OnWalk c) 0) c C.shuts.sound refl mine refl refl is nothing_left) (its_task C)

  -- where there was none, the end of the walk changes nothing more
  no_cursor_left : own.cursor ≡ None → without_cursor EndWalk q l ≡ without_task q l
  no_cursor_left none = λ i. record (without_task q l) { own = owns i; table = put_back l (q.table l) q.table refl i }
    where
      bare : (q.own l).cursor ≡ None
      bare = ap (λ (z : Own). z.cursor) (its_own C) ∙ none

      owns : but_at l (record (q.own l) { cursor = None }) q.own ≡ q.own
      owns = put_back l (record (q.own l) { cursor = None }) q.own (λ i. record (q.own l) { cursor = bare i })

  ended_so : (j : Job) (reply : Reply) (turn : Turn) → turn ≡ Done reply → Turned f q l lt (Law.Turn.Ends (law_reply reply)) (state_after (Law.Turn.Ends (law_reply reply)) j q l) → Turned f q l lt (law_turn turn) (state_after (law_turn turn) j q l)
  ended_so j reply turn is T = subst (λ u. Turned f q l lt (law_turn u) (state_after (law_turn u) j q l)) (sym is) T

  same_task : (j : Job) (n : ℕ) → t.job ≡ j → t.steps ≡ n → asked (command_in j) n ≡ lt
  same_task j n is steps = λ i. record { command = command_in (sym is i); steps = sym steps i }

  -- by its job
  plain_turned : (d : Doing) (turn : Turn) → t.job ≡ Jobs.Plain d → turn ≡ Blocked holder (start_of (rows_of d.command d.chain).first.region) → Turned f q l lt (law_turn turn) (state_after (law_turn turn) (Jobs.Plain d) q l)
  plain_turned d turn is M =
      let J = job_at C.busy C.stands (Jobs.Plain d) is in
      let new = map_new C (command_of d.command) (ap command_in is) J.granted in
      let begun = subst (λ n. IsAfter d.command d.stage n) new J.after in
      let F = subst (λ chain. FirstAt (Wants (OnMap (command_of d.command)) 0) (start_of (rows_of d.command chain).first.region)) (sym J.chain)
      (plain_first f (few C) own refl spot view d.command J.granted (subst (λ z. IsAfter d.command z 0) (begun_stage d.command d.stage begun) begun)) in
      blocked_so (Jobs.Plain d) (start_of (rows_of d.command d.chain).first.region) turn M
      (blocked (OnMap (command_of d.command)) 0 (start_of (rows_of d.command d.chain).first.region) (same_task (Jobs.Plain d) 0 is new) tt refl (unchanged_start f (OnMap (command_of d.command)) own) F)

  locking_turned : (locking : Locking) (turn : Turn) → t.job ≡ Jobs.Locking locking → LockingMeets f locking holder turn → Turned f q l lt (law_turn turn) (state_after (law_turn turn) (Jobs.Locking locking) q l)
  locking_turned (Locks.Chain key) turn is M =
      let J = job_at C.busy C.stands (Jobs.Locking (Locks.Chain key)) is in
      let c = OnLocks (locking_command (Locks.Chain key)) in
      blocked_so (Jobs.Locking (Locks.Chain key)) (168 + 4 * home f key) turn M
      (blocked c 0 (168 + 4 * home f key) (same_task (Jobs.Locking (Locks.Chain key)) 0 is J.0) tt refl (unchanged_start f c own) (chain_first f (few C) own refl spot view key J.1))
  locking_turned (Locks.ChainNb key) turn is M =
      let J = job_at C.busy C.stands (Jobs.Locking (Locks.ChainNb key)) is in
      let c = OnLocks (locking_command (Locks.ChainNb key)) in
      ended_so (Jobs.Locking (Locks.ChainNb key)) (Reply.Busy holder (168 + 4 * home f key)) turn M
      (ended c (Law.Reply.Busy (law_opener holder) (168 + 4 * home f key)) (same_task (Jobs.Locking (Locks.ChainNb key)) 0 is J.0) (near_at C.busy C.stands (Jobs.Locking (Locks.ChainNb key)) is refl)
      (ends_busy key s.here (168 + 4 * home f key) refl (subst (λ z. refusal f c z ≡ None) (sym (its_own C)) J.1)
      (conflict c 0 (168 + 4 * home f key) tt (busy_first f (few C) own refl spot view key J.1)) (ap (λ o. Law.Reply.Busy o (168 + 4 * home f key)) here_is)))
  locking_turned (Locks.Unchain key) turn is M = absurd M
  locking_turned Locks.All turn is M =
      let J = job_at C.busy C.stands (Jobs.Locking Locks.All) is in
      let c = OnLocks (locking_command Locks.All) in
      blocked_so (Jobs.Locking Locks.All) 168 turn M
      (blocked c 0 168 (same_task (Jobs.Locking Locks.All) 0 is J.0) tt refl (unchanged_start f c own) (all_first f (few C) own refl spot view J.1))
  locking_turned Locks.AllRead turn is M =
      let J = job_at C.busy C.stands (Jobs.Locking Locks.AllRead) is in
      let c = OnLocks (locking_command Locks.AllRead) in
      blocked_so (Jobs.Locking Locks.AllRead) 168 turn M
      (blocked c 0 168 (same_task (Jobs.Locking Locks.AllRead) 0 is J.0) tt refl (unchanged_start f c own) (all_read_first f (few C) own refl spot view J.1))
  locking_turned Locks.UnlockAll turn is M = absurd M

  -- a cursor stands on no record
  module _ (walking : Walking) (is : t.job ≡ Jobs.Walk walking) where
    its_stand : StandsAfter f x.held own (walk_command walking) x.walk.cursor.place x.walk.cursor.stage (is_before x.walk.cursor.place) t.steps
    its_stand = (cursor_at C.busy C.stands (Jobs.Walk walking) is).stands

    off : spot_of x.walk.cursor.place ≡ None
    off = stands_on_none C

    pub cursor_ended : walk_moves (walk_command walking) own ≡ false → Ended f own x.walk.cursor.place x.walk.cursor.stage t.steps
    cursor_ended still = leave_ended f x.held own (walk_command walking) x.walk.cursor.place x.walk.cursor.stage t.steps still off its_stand

    leave_turned : walk_moves (walk_command walking) own ≡ false → IsLeave (walk_command walking) → Turned f q l lt (Law.Turn.Ends Law.Reply.Done) (without_cursor (walk_command walking) q l)
    leave_turned still leaves =
        let E = cursor_ended still in
        left (walk_command walking) (same_task (Jobs.Walk walking) 0 is E.new) (subst (Ended f own x.walk.cursor.place x.walk.cursor.stage) E.new E) leaves

  walk_turned : (walking : Walking) (turn : Turn) → t.job ≡ Jobs.Walk walking → WalkMeets walking turn → Turned f q l lt (law_turn turn) (state_after (law_turn turn) (Jobs.Walk walking) q l)
  walk_turned Walks.First turn is M = absurd M
  walk_turned Walks.Next turn is M = absurd M
  walk_turned Walks.EndWalk turn is M = ended_so (Jobs.Walk Walks.EndWalk) Reply.Ok turn M (subst (Turned f q l lt (Law.Turn.Ends Law.Reply.Done)) (no_cursor_left (cursor_ended Walks.EndWalk is refl).none) (leave_turned Walks.EndWalk is refl tt))
  walk_turned Walks.Close turn is M = ended_so (Jobs.Walk Walks.Close) Reply.Ok turn M (leave_turned Walks.Close is refl tt)

  pub turned : (j : Job) (turn : Turn) → t.job ≡ j → JobMeets f j holder turn → Turned f q l lt (law_turn turn) (state_after (law_turn turn) j q l)
  turned (Jobs.Refused command reply) turn is M =
      let J = job_at C.busy C.stands (Jobs.Refused command reply) is in
      ended_so (Jobs.Refused command reply) reply turn M
      (ended (law_command command) (law_reply reply) (same_task (Jobs.Refused command reply) 0 is J.0) (near_at C.busy C.stands (Jobs.Refused command reply) is refl) (refused (law_command command) (law_reply reply) (refused_same (law_command command) (q.own l) (ap (λ (z : Own). z.txn) (its_own C))) J.1))
  turned (Jobs.Plain d) turn is M = plain_turned d turn is M
  turned (Jobs.Check checking) turn is M =
      let J = job_at C.busy C.stands (Jobs.Check checking) is in
      let new = map_new C Law.MapCommand.Check (ap command_in is) J.0 in
      blocked_so (Jobs.Check checking) 168 turn M
      (blocked (OnMap Law.MapCommand.Check) 0 168 (same_task (Jobs.Check checking) 0 is new) tt refl (unchanged_start f (OnMap Law.MapCommand.Check) own) (check_first f (few C) own refl spot view J.0))
  turned (Jobs.Locking locking) turn is M = locking_turned locking turn is M
  turned Jobs.Seqnum turn is M = absurd M
  turned (Jobs.Walk walking) turn is M = walk_turned walking turn is M
