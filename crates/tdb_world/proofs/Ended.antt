-- An opener whose command has ended has none, and is live, unless the command was a Close.
use Rattle.std.proofs.Common.{◌≡◌, ◌≢◌, ◌≤◌, ◌-◌, ℕ, List, slice_get, Option, Bool, true, false, Some, None, Result, Ok, Err, IfOk, OnOk, if◌then◌else◌, nat_lt, refl, sym, ◌∙◌, ap, arith, inl, inr, IsTrue}
use Rattle.std.proofs.lemmas.Bool.{cases_Bool, cases_eq}
use Rattle.tdb_disk.specs.History.{History}
use Rattle.tdb_space.specs.Form.{Form}
use Rattle.tdb_law.specs.Commands.{Command, GroupCommand, LockCommand, Reply, Turn, WalkCommand}
use Rattle.tdb_law.specs.Commands.Command.{OnMap, OnLocks, OnGroup, OnWalk, Seqnum}
use Rattle.tdb_law.specs.Commands.GroupCommand.{Start, Commit, Prepare, Cancel}
use Rattle.tdb_law.specs.Commands.LockCommand.{ChainLock, ChainLockNb, ChainUnlock, LockAll, LockAllRead, UnlockAll}
use Rattle.tdb_law.specs.Commands.WalkCommand.{First, Next, EndWalk, Close}
use Rattle.tdb_law.specs.Commands.Turn.{Step, Blocked, Ends}
use Rattle.tdb_law.specs.Effects.{Effect, task_left}
use Rattle.tdb_law.specs.Effects.Effect.{effect_waits, effect_goes_on, effect_changes, effect_answers, effect_shows, effect_starves, effect_is_full, effect_is_busy, effect_numbers, effect_finishes}
use Rattle.tdb_law.specs.Openers.{Map, Own, Txn, ended}
use Rattle.tdb_law.specs.Outcomes.{own_by, own_cancelled, own_grouped, own_left, own_locked, own_prepared, own_refused, own_spared, own_started, own_walked}
use Rattle.tdb_law.specs.Refusals.{Refusal, refusal}
use Rattle.tdb_law.specs.World.{State}
use Rattle.tdb_law.proofs.Tests.{never_true}
use Rattle.tdb_locks.specs.declared.turn.Reply.{Reply as CodeReply}
use Rattle.tdb_locks.specs.declared.turn.Turn.{Turn as CodeTurn}
use Rattle.tdb_locks.specs.declared.turn.Turn.TheVariants.{Done}
use Rattle.tdb_commands.specs.InLaw.{law_opener, law_reply, law_turn}
use Rattle.tdb_openers.specs.Openers.{law_task, own_at, task_at}
use Rattle.tdb_openers.specs.declared.job.Task.{Task as JobTask}
use Rattle.tdb_openers.specs.declared.opener.Opener.{Opener}
use Rattle.tdb_txn_owner.specs.Holders.{HolderState}
use Rattle.tdb_world.specs.OverFiles.Turns.{OutlivesCommand}
use Rattle.tdb_world.specs.States.{IsStateOf}
use Rattle.tdb_world.specs.Steps.{HasCommand, HasNoCommand, IsAmong, TurnLeads}
use Rattle.tdb_world.specs.Steps.HasNoCommand.{idle_aside, idle_among}
use Rattle.tdb_world.specs.Steps.IsAmong.{among_all, among_others}
use Rattle.tdb_world.specs.Whole.{Whole, WorldFits, is_starting}
use Rattle.tdb_world.proofs.Courses.Standings.{busy_live}
use Rattle.tdb_world.proofs.Standings.{aside_task, own_in, start_in, task_in}

-- An end leaves its opener live, by each command but a Close.
live_either : (b : Bool) (x y z : Own) → y.live ≡ x.live → z.live ≡ x.live → (if b then y else z).live ≡ x.live
live_either true x y z one two = one
live_either false x y z one two = two

live_left : (t : Option Txn) (x : Own) → (own_left t x).live ≡ x.live
live_left None x = refl
live_left (Some t) x = live_either (nat_lt 1 t.depth) x (record x { txn = Some (record t { depth = t.depth - 1 }) }) (ended x) refl refl

live_prepared : (t : Option Txn) (x : Own) (steps : ℕ) → (own_prepared t x steps).live ≡ x.live
live_prepared None x steps = refl
live_prepared (Some t) x steps = live_either (nat_lt 1 t.depth) x x _ refl refl

live_cancelled : (t : Option Txn) (x : Own) → (own_cancelled t x).live ≡ x.live
live_cancelled None x = refl
live_cancelled (Some t) x = live_either (nat_lt 1 t.depth) x (record x { txn = Some (record t { depth = t.depth - 1; doomed = true }) }) (ended x) refl refl

live_started : (t : Option Txn) (x : Own) (m : Map) → (own_started t x m).live ≡ x.live
live_started None x m = refl
live_started (Some t) x m = refl

live_grouped : (g : GroupCommand) (x : Own) (steps : ℕ) (m : Map) → (own_grouped g x steps m).live ≡ x.live
live_grouped Start x steps m = live_started x.txn x m
live_grouped Commit x steps m = live_left x.txn x
live_grouped Prepare x steps m = live_prepared x.txn x steps
live_grouped Cancel x steps m = live_cancelled x.txn x

live_locked : (f : Form) (c : LockCommand) (x : Own) → (own_locked f c x).live ≡ x.live
live_locked f (ChainLock k) x = refl
live_locked f (ChainLockNb k) x = refl
live_locked f (ChainUnlock k) x = refl
live_locked f LockAll x = refl
live_locked f LockAllRead x = refl
live_locked f UnlockAll x = refl

live_walked : (w : WalkCommand) (x : Own) (r : Reply) → OnWalk w ≢ OnWalk Close → (own_walked w x r).live ≡ x.live
live_walked First x r stays = refl
live_walked Next x r stays = refl
live_walked EndWalk x r stays = refl
live_walked Close x r stays = absurd (stays refl)

live_refused : (c : Command) (x : Own) → (own_refused c x).live ≡ x.live
live_refused (OnGroup Start) x = refl
live_refused (OnGroup Commit) x = live_left x.txn x
live_refused (OnGroup Prepare) x = live_left x.txn x
live_refused (OnGroup Cancel) x = refl
live_refused (OnMap c) x = refl
live_refused (OnLocks c) x = refl
live_refused (OnWalk w) x = refl
live_refused Seqnum x = refl

live_by : (f : Form) (q : Option Refusal) (c : Command) (x : Own) (steps : ℕ) (r : Reply) (m : Map) → c ≢ OnWalk Close → (own_by f q c x steps r m).live ≡ x.live
live_by f (Some q) c x steps r m stays = live_refused c x
live_by f None (OnMap c) x steps r m stays = refl
live_by f None (OnLocks c) x steps r m stays = live_locked f c x
live_by f None Seqnum x steps r m stays = refl
live_by f None (OnGroup g) x steps r m stays = live_grouped g x steps m
live_by f None (OnWalk w) x steps r m stays = live_walked w x r stays

live_spared : (c : Command) (x : Own) → c ≢ OnWalk Close → (own_spared c x).live ≡ x.live
live_spared (OnGroup Start) x stays = refl
live_spared (OnGroup Commit) x stays = refl
live_spared (OnGroup Prepare) x stays = refl
live_spared (OnGroup Cancel) x stays = refl
live_spared (OnWalk First) x stays = refl
live_spared (OnWalk Next) x stays = refl
live_spared (OnWalk EndWalk) x stays = refl
live_spared (OnWalk Close) x stays = absurd (stays refl)
live_spared (OnMap c) x stays = refl
live_spared (OnLocks c) x stays = refl
live_spared Seqnum x stays = refl

abbrev is_live : Own → Bool
is_live y = y.live

live_after : (f : Form) (free : Type 0) (conflict : ℕ → ℕ → Type 0) (finds : Reply → Type 0) (number : ℕ) (c : Command) (n : ℕ) (x : Own) (file : Map) (turn : Turn) (y : Own) (next : Map) → Effect f free conflict finds number c n x file turn y next
    → (r : Reply) → turn ≡ Ends r → c ≢ OnWalk Close → y.live ≡ x.live
live_after f free conflict finds number c n x file turn y next (effect_waits o b is _ _ _ _) r ends stays = absurd (let both : Blocked o b ≡ Ends r = sym is ∙ ends in cc both)
live_after f free conflict finds number c n x file turn y next (effect_goes_on is _ _ _ _) r ends stays = absurd (let both : Step ≡ Ends r = sym is ∙ ends in cc both)
live_after f free conflict finds number c n x file turn y next (effect_changes is _ _ _ _ _ _ _) r ends stays = absurd (let both : Step ≡ Ends r = sym is ∙ ends in cc both)
live_after f free conflict finds number c n x file turn y next (effect_answers q _ _ _ _ _ _ _ _ own) r ends stays = ap is_live own ∙ live_by f (refusal f c x) c x n q file stays
live_after f free conflict finds number c n x file turn y next (effect_shows q _ _ _ _ _ own) r ends stays = ap is_live own ∙ live_by f (refusal f c x) c x n q file stays
live_after f free conflict finds number c n x file turn y next (effect_starves _ _ _ _ own) r ends stays = ap is_live own ∙ live_spared c x stays
live_after f free conflict finds number c n x file turn y next (effect_is_full len need _ _ _ _ _ _ _ own) r ends stays = ap is_live own ∙ live_spared c x stays
live_after f free conflict finds number c n x file turn y next (effect_is_busy o b _ _ _ _ own) r ends stays = ap is_live own ∙ live_spared c x stays
live_after f free conflict finds number c n x file turn y next (effect_numbers q _ _ _ _ _ own) r ends stays = ap is_live own
live_after f free conflict finds number c n x file turn y next (effect_finishes _ _ _ _ own) r ends stays = ap is_live own ∙ live_by f (refusal f c x) c x n _ file stays

-- A world in whose state an opener is live and has no command: so it stands in the world.
module _ (w : Whole) (img : List ℕ) (size : ℕ) (F : WorldFits w img size) (who : ℕ) (named : 1 ≤ who) (h : History) (state : State) (is : IsStateOf w h state) (none : state.task (law_opener who) ≡ None)
    (lives : (state.own (law_opener who)).live ≡ true) where
  there : IsAmong w who → is_starting w.starts (law_opener who) ≡ false → (x : Option Opener) → slice_get w.openers.openers (law_opener who) ≡ x → own_at w.openers.options x ≡ state.own (law_opener who) → task_at x ≡ None → HasNoCommand w who
  there among begun None found own task = absurd (never_true (ap is_live own ∙ lives))
  there among begun (Some x) found own task =
      idle_among x (record { number = record { place = law_opener who; counted = omega (arith, named); there = found }; live = ap is_live own ∙ lives; idle = no_task x.task task }) begun among
    where
      no_task : (t : Option JobTask) → law_task t ≡ None → t ≡ None
      no_task None e = refl
      no_task (Some t) e = absurd (cc e)

  idle_there : IsAmong w who → HasNoCommand w who
  idle_there among = elim (cases_Bool (is_starting w.starts (law_opener who))) [
    | inl begun ↦ absurd (let both = sym (start_in w (law_opener who) h state begun is) ∙ none in cc both)
    | inr begun ↦
        there among begun (slice_get w.openers.openers (law_opener who)) refl (sym (own_in w who named among h state is)) (sym (task_in w who named among h state begun is) ∙ none)
  ]

  idle_by : (holder : Option HolderState) → w.aside ≡ holder → HasNoCommand w who
  idle_by None e = idle_there (among_all e)
  idle_by (Some hd) e = elim (cases_eq who hd.owner) [
    | inl owner ↦ idle_aside hd e owner (sym (aside_task w hd img size F e h state is) ∙ (ap (λ n. state.task (law_opener n)) (sym owner) ∙ none))
    | inr other ↦ idle_there (among_others hd e other)
  ]

  pub idle_in : HasNoCommand w who
  idle_in = idle_by w.aside refl

-- So it is after a turn that ended its command.
abbrev pub IsIdleAfter : Whole → Whole → History → ℕ → CodeTurn → Type 0
IsIdleAfter w v h who turn = (state : State) (reply : CodeReply) → IsStateOf w h state → OutlivesCommand state (law_opener who) → turn ≡ Done reply → HasNoCommand v who

module _ (tells : Bool) (w v : Whole) (h g : History) (before after : List ℕ) (size longer who : ℕ) (named : 1 ≤ who) (F : WorldFits w before size) (busy : HasCommand w who) where
  idle_after : (turn : CodeTurn) → WorldFits v after longer → TurnLeads w v h g who (law_turn turn) → IsIdleAfter w v h who turn
  idle_after turn G leads state reply is stays done =
      let J = leads state is in
      let T = J.3 in
      let ends : law_turn turn ≡ Ends (law_reply reply) = ap law_turn done in
      let lives = live_after _ _ _ _ _ _ _ _ _ _ _ _ T.effect (law_reply reply) ends (stays J.1 T.mine) ∙ busy_live w before size F who h state is busy named in
      idle_in v after longer G who named g J.0 J.2 (T.leaves ∙ ap (task_left J.1.command J.1.steps) ends) lives

  pub idle_so : {E : Type 0} (r : Result CodeTurn E) → OnOk r (WorldFits v after longer) → IfOk r (λ turn. IsTrue tells → TurnLeads w v h g who (law_turn turn)) → IfOk r (λ turn. IsTrue tells → IsIdleAfter w v h who turn)
  idle_so (Ok turn) G leads = λ told. idle_after turn G (leads told)
  idle_so (Err e) G leads = tt
