-- The calls of the opener aside as one value.
use Rattle.std.proofs.Common.{◌≡◌, ℕ, ◌+◌, ◌≤◌, List, [], Bool, true, false, nat_lt, Option, Some, None, refl, sym, ◌∙◌, ap, subst, arith}
use Rattle.std.specs.Prelude.{◌&&◌, not, if◌then◌else◌}
use Rattle.std.proofs.lemmas.Bool.Decides.{nat_tests}
use Rattle.tdb_disk.specs.History.{History}
use Rattle.tdb_words.specs.declared.header.Header.{Header}
use Rattle.tdb_space.specs.Form.{Form, form_in}
use Rattle.tdb_locks.specs.HeldLocks.{total_of}
use Rattle.tdb_locks.specs.declared.kind.Kind.{Kind}
use Rattle.tdb_locks.specs.declared.kind.Kind.TheVariants.{Read, Write}
use Rattle.tdb_locks.specs.declared.piece.Piece.{Piece}
use Rattle.tdb_law.specs.Commands as Law
use Rattle.tdb_law.specs.Commands.Turn.{Ends}
use Rattle.tdb_law.specs.Commands.Reply.{Memory}
use Rattle.tdb_law.specs.Commands.GroupCommand.{Start, Commit, Prepare}
use Rattle.tdb_law.specs.Commands.Command.{OnGroup}
use Rattle.tdb_law.specs.Effects.{Effect, IsFree, IsFirstConflict}
use Rattle.tdb_law.specs.Effects.Effect.{effect_waits, effect_goes_on, effect_changes, effect_answers, effect_shows, effect_starves, effect_is_full, effect_is_busy, effect_numbers, effect_finishes}
use Rattle.tdb_law.specs.Held.{holding}
use Rattle.tdb_law.specs.Images.{image_map}
use Rattle.tdb_law.specs.Openers.{Map, Own, Task, Txn, ended, nowhere}
use Rattle.tdb_law.specs.Outcomes.{moves}
use Rattle.tdb_law.specs.Rows.{Lock, plans_in, start_locks}
use Rattle.tdb_steps.specs.Holdings.{table_of}
use Rattle.tdb_steps.specs.LockRows.{strength_of}
use Rattle.tdb_steps.specs.Turns.{number_of}
use Rattle.tdb_txn.specs.Txn.{txn_depth, txn_doomed}
use Rattle.tdb_law.specs.OneAside.Own.{side_wants, OwnTurned}
use Rattle.tdb_law.specs.OneAside.Sides.{Past, Side}
use Rattle.tdb_txn_turns.specs.Committings.{commit_row, commit_steps, IsNumbered, MayGoOn}
use Rattle.tdb_txn_turns.specs.Holding.{RowTurned}
use Rattle.tdb_txn_turns.specs.Laws.{HasChange, HasPlan}
use Rattle.tdb_txn_turns.specs.Prepares.{begun_with, prepare_row, prepare_steps, stage_steps, start_held, IsPlanning}
use Rattle.tdb_txn_turns.specs.Starts.{start_steps}
use Rattle.tdb_txn_turns.specs.declared.committing.Committing.{Committing}
use Rattle.tdb_txn_turns.specs.declared.committing.Committing.TheVariants as Commits
use Rattle.tdb_txn_turns.specs.declared.committing.CommitTurn.TheVariants as CommitTurn
use Rattle.tdb_txn_turns.specs.declared.preparing.Preparing.{Preparing}
use Rattle.tdb_txn_turns.specs.declared.preparing.PrepareStage.{PrepareStage}
use Rattle.tdb_txn_turns.specs.declared.preparing.PrepareStage.TheVariants.{Unchanged, Begun, Records, Locked, Planned, Filled}
use Rattle.tdb_txn_turns.specs.declared.preparing.PrepareTurn.TheVariants as PrepareTurn
use Rattle.tdb_txn_turns.specs.declared.starting.Starting.{Starting}
use Rattle.tdb_txn_turns.specs.declared.starting.Starting.TheVariants as Starts
use Rattle.tdb_txn_turns.specs.declared.starting.StartTurn.TheVariants as StartTurn
use Rattle.tdb_commands.specs.InLaw.{law_command, law_turn}
use Rattle.tdb_commands.specs.declared.command.Command.{Command}
use Rattle.tdb_commands.specs.declared.command.Command.TheVariants as Given
use Rattle.tdb_txn_owner.specs.declared.open_txn.OpenTxn.{OpenTxn}
use Rattle.tdb_commands.specs.declared.options.Options.{Options}
use Rattle.tdb_txn_owner.specs.declared.stage.Stage.{Stage}
use Rattle.tdb_txn_owner.specs.declared.stage.Stage.TheVariants as At
use Rattle.tdb_txn_owner.specs.declared.stage.Went.{Went}
use Rattle.tdb_txn_owner.specs.declared.wanting.Wants.{Wants}
use Rattle.tdb_txn_owner.specs.declared.wanting.Wants.TheVariants as Wants
use Rattle.tdb_txn_owner.specs.Ends.{task_of, IsBlocked, IsOuter}
use Rattle.tdb_commands.specs.Short.{IsShortCommand}
use Rattle.tdb_txn_owner.specs.Holders.{is_idle, stage_depth, with_command}
use Rattle.tdb_txn_owner.specs.Open.{HasOpen, OpenFits}
use Rattle.tdb_txn_owner.specs.Stages.{is_closing, stage_task, Known, IsFit, IsSide, KnowsFile, MayBeGiven}
use Rattle.tdb_txn_owner.specs.Turned.{BeginsOn, KnowsLeft, MayTurn, StageTurned, keeps}
use Rattle.tdb_txn_owner.specs.Waits.{IsRowOfEnds, of_start, of_prepare, of_commit}
use Rattle.tdb_txn_owner.specs.Wanting.{given_wants, plans_open, plan_wants, stage_wants, start_wants, wanted_by}
use Rattle.tdb_txn_owner.proofs.CommitTurns.{commit_is_own}
use Rattle.tdb_txn_owner.proofs.Keeping.{keeps_nothing}
use Rattle.tdb_txn_owner.proofs.Opened.{txn_of}
use Rattle.tdb_txn_owner.proofs.PrepareTurns.{prepare_is_own}
use Rattle.tdb_txn_owner.proofs.RecordsHeld.{holds_given}
use Rattle.tdb_txn_owner.proofs.PlanStages.{early_like}
use Rattle.tdb_txn_owner.proofs.Resting.{ready_like}
use Rattle.tdb_txn_owner.proofs.Sided.{begins, leaves, same_task, side_after}
use Rattle.tdb_txn_owner.proofs.Turning.{group_still}
use Rattle.tdb_txn_owner.proofs.StartTurns.{start_is_own}
use Rattle.tdb_txn_owner.proofs.Waiting.{alone_free, commit_wants}
use Rattle.tdb_txn_owner.proofs.Wanted.{commit_why, outer_plans, prepare_why, wanted_law}

-- a stage is idle where it has no task
pub idle_task : (stage : Stage) → is_idle stage ≡ true → stage_task stage ≡ None
idle_task (At.Starting st) idle = absurd (cc idle)
idle_task (At.Open txn None) idle = refl
idle_task (At.Open txn (Some c)) idle = absurd (cc idle)
idle_task (At.Committing c) idle = absurd (cc idle)
idle_task (At.Preparing p) idle = absurd (cc idle)
idle_task (At.Prepared left None) idle = refl
idle_task (At.Prepared left (Some c)) idle = absurd (cc idle)
idle_task (At.Finishing c) idle = absurd (cc idle)

pub busy_task : (stage : Stage) → is_idle stage ≡ false → (t : Task) × (stage_task stage ≡ Some t)
busy_task (At.Starting st) busy = (_, refl)
busy_task (At.Open txn None) busy = absurd (cc busy)
busy_task (At.Open txn (Some c)) busy = (_, refl)
busy_task (At.Committing c) busy = (_, refl)
busy_task (At.Preparing p) busy = (_, refl)
busy_task (At.Prepared left None) busy = absurd (cc busy)
busy_task (At.Prepared left (Some c)) busy = (_, refl)
busy_task (At.Finishing c) busy = (_, refl)

-- every command but a Start may be given
pub others_may : (c : Command) (depth : ℕ) → (c ≡ Given.Start → ⊥) → MayBeGiven c depth
others_may (Given.Fetch key) depth other = tt
others_may (Given.Has key) depth other = tt
others_may (Given.Store key value flag) depth other = tt
others_may (Given.Append key value) depth other = tt
others_may (Given.Delete key) depth other = tt
others_may Given.Wipe depth other = tt
others_may Given.Check depth other = tt
others_may (Given.ChainLock key) depth other = tt
others_may (Given.ChainLockNb key) depth other = tt
others_may (Given.ChainUnlock key) depth other = tt
others_may Given.LockAll depth other = tt
others_may Given.LockAllRead depth other = tt
others_may Given.UnlockAll depth other = tt
others_may Given.Start depth other = absurd (other refl)
others_may Given.Commit depth other = tt
others_may Given.Prepare depth other = tt
others_may Given.Cancel depth other = tt
others_may Given.First depth other = tt
others_may Given.Next depth other = tt
others_may Given.EndWalk depth other = tt
others_may Given.Seqnum depth other = tt
others_may Given.Close depth other = tt

-- a command that is given changes nothing but the task
module _ (f : Form) (o : Options) (owner : ℕ) (ps : List Piece) (k : Known) (past : Past) (s : Side) (c : Command) where
  abbrev given : Side
  given = record s { task = Some (task_of (law_command c) 0) }

  holds_so : s.task ≡ None → ((b : ℕ) → s.table b ≡ holding f s.own nowhere s.task b) → (b : ℕ) → s.table b ≡ holding f s.own nowhere (Some (task_of (law_command c) 0)) b
  holds_so idle holds b = holds b ∙ ap (λ task. holding f s.own nowhere task b) idle ∙ sym (holds_given f s.own (law_command c) b)

  pub given_side : (stage : Stage) → is_idle stage ≡ true → IsSide f o owner ps stage k past s → IsSide f o owner ps (with_command stage c) k past given
  given_side (At.Starting st) idle S = absurd (cc idle)
  given_side (At.Open txn None) idle S = record {
    here = S.here;
    alone = S.alone;
    table = S.table;
    holds = holds_so S.task S.holds;
    task = refl;
    keeps = S.keeps;
    live = S.live;
    options = S.options;
    own = S.own;
    numbers = S.numbers;
    mark = S.mark;
  }
  given_side (At.Open txn (Some before)) idle S = absurd (cc idle)
  given_side (At.Committing before) idle S = absurd (cc idle)
  given_side (At.Preparing p) idle S = absurd (cc idle)
  given_side (At.Prepared left None) idle S = record {
    here = S.here;
    alone = S.alone;
    table = S.table;
    holds = holds_so S.task S.holds;
    task = refl;
    keeps = S.keeps;
    live = S.live;
    options = S.options;
    own = S.own;
    numbers = S.numbers;
    mark = tt;
  }
  given_side (At.Prepared left (Some before)) idle S = absurd (cc idle)
  given_side (At.Finishing before) idle S = absurd (cc idle)

pub given_known : (f : Form) (stage : Stage) (c : Command) (h : History) (k : Known) → KnowsFile f stage h k → KnowsFile f (with_command stage c) h k
given_known f (At.Starting st) c h k K = K
given_known f (At.Open txn command) c h k K = record { at = K.at; forms = K.forms; reads = K.reads }
given_known f (At.Committing before) c h k K = K
given_known f (At.Preparing p) c h k K = K
given_known f (At.Prepared left command) c h k K = record { at = K.at; forms = K.forms; reads = K.reads }
given_known f (At.Finishing before) c h k K = K

pub given_fits : (stage : Stage) (c : Command) (h : Header) (limit size : ℕ) → is_idle stage ≡ true → IsShortCommand c → MayBeGiven c (stage_depth stage) → IsFit stage h limit size
    → IsFit (with_command stage c) h limit size
given_fits (At.Starting st) c h limit size idle short may fits = fits
given_fits (At.Open txn command) c h limit size idle short may fits = (fits.0, (short, may))
given_fits (At.Committing before) c h limit size idle short may fits = fits
given_fits (At.Preparing p) c h limit size idle short may fits = fits
given_fits (At.Prepared left command) c h limit size idle short may fits = (fits.0, (short, may))
given_fits (At.Finishing before) c h limit size idle short may fits = fits

pub given_busy : (stage : Stage) (c : Command) → is_idle stage ≡ true → is_idle (with_command stage c) ≡ false
given_busy (At.Starting st) c idle = refl
given_busy (At.Open txn command) c idle = refl
given_busy (At.Committing before) c idle = refl
given_busy (At.Preparing p) c idle = refl
given_busy (At.Prepared left command) c idle = refl
given_busy (At.Finishing before) c idle = refl

-- where nothing conflicts no turn is blocked
no_block : (f : Form) (table : ℕ → ℕ → ℕ) (who : ℕ) (want : ℕ → ℕ) (finds : Law.Reply → Type 0) (number : ℕ) (c : Law.Command) (n : ℕ) (x y : Own) (file next : Map) (u : Law.Turn)
    → IsFree table who want → Effect f (IsFree table who want) (IsFirstConflict table who want) finds number c n x file u y next → IsBlocked u → ⊥
no_block f table who want finds number c n x y file next u F (effect_waits o b turn conflict before same own) blocked =
    let more = conflict.conflict in let few = F.free o b conflict.other in absurd (omega (arith, more, few))
no_block f table who want finds number c n x y file next u F (effect_goes_on turn free before same own) blocked = subst IsBlocked turn blocked
no_block f table who want finds number c n x y file next u F (effect_changes turn free looks before after says is own) blocked = subst IsBlocked turn blocked
no_block f table who want finds number c n x y file next u F (effect_answers r turn free unmoved uncounted ready before says is own) blocked = subst IsBlocked turn blocked
no_block f table who want finds number c n x y file next u F (effect_shows r turn free moved found same own) blocked = subst IsBlocked turn blocked
no_block f table who want finds number c n x y file next u F (effect_starves turn starves before same own) blocked = subst IsBlocked turn blocked
no_block f table who want finds number c n x y file next u F (effect_is_full len need turn free fills ready before says same own) blocked = subst IsBlocked turn blocked
no_block f table who want finds number c n x y file next u F (effect_is_busy o b turn conflict busies same own) blocked = subst IsBlocked turn blocked
no_block f table who want finds number c n x y file next u F (effect_numbers q turn free counts is same own) blocked = subst IsBlocked turn blocked
no_block f table who want finds number c n x y file next u F (effect_finishes turn free before same own) blocked = subst IsBlocked turn blocked

few_wanted : (w : Wants) (b : ℕ) → wanted_by w b ≤ 2
few_wanted Wants.Nothing b = omega arith
few_wanted Wants.Transaction b = go _
  where
    go : (p : Bool) → (if p then 2 else 0) ≤ 2
    go true = omega arith
    go false = omega arith
few_wanted (Wants.Records kind) b = go kind _
  where
    go : (kind : Kind) (p : Bool) → (if p then strength_of kind else 0) ≤ 2
    go Read true = omega arith
    go Write true = omega arith
    go Read false = omega arith
    go Write false = omega arith
few_wanted (Wants.Opening numbered) b = commit_wants numbered 1 b

-- in its own lock table, in which it is alone, it may take its turn
module _ (f : Form) (o : Options) (owner : ℕ) (ps : List Piece) (stage : Stage) (k : Known) (past : Past) (s : Side) (t : Task) (S : IsSide f o owner ps stage k past s) (has : stage_task stage ≡ Some t) where
  abbrev pub own_table : ℕ → ℕ → ℕ
  own_table p b = table_of ps (p + 1) b

  pub may_alone : MayTurn f own_table s t
  may_alone = record {
    in_table = λ b. ap (λ p. table_of ps p b) (sym S.here) ∙ sym (S.table b);
    free = record {
      free = λ p b differs. (let none = S.alone (p + 1) b (λ same. differs (let here = S.here in omega (arith, here, same))) in
          let wants = wanted_law f o owner ps stage k past s t S has b in let few = few_wanted (stage_wants stage) b in omega (arith, none, wants, few));
    };
  }

  pub alone_goes_on : (rs : List Piece) (after : Option Stage) (h new : History) (u : Law.Turn) → StageTurned f o own_table owner rs stage after h new k past s t u → IsBlocked u → ⊥
  alone_goes_on rs after h new u T = no_block f own_table s.here (side_wants f s t) _ _ t.command t.steps s.own _ _ _ u may_alone.free T.turned.effect

-- memory was wanting: the opener is back, and holds nothing
module _ (f : Form) (o : Options) (table : ℕ → ℕ → ℕ) (owner : ℕ) (ps : List Piece) (stage : Stage) (h : History) (k : Known) (past : Past) (s : Side) (S : IsSide f o owner ps stage k past s) where
  abbrev m : Map
  m = image_map f k.file

  abbrev q : ℕ
  q = number_of f k.file

  abbrev Starved : Task → Type 0
  Starved t = StageTurned f o table owner [] stage None h h k past s t (Ends Memory)

  row_starved : (stays : Bool) (row : List Lock) (kept : ℕ → ℕ) (n : ℕ) → IsRowOfEnds row → RowTurned stays row kept owner n ps [] (Ends Memory)
  row_starved true row kept n R = record { holds = λ b. refl; others = λ p b differs. sym (S.alone p b differs); rightly = alone_free row owner n ps R S.alone }
  row_starved false row kept n R = record { holds = λ b. refl; others = λ p b differs. sym (S.alone p b differs); rightly = alone_free row owner n ps R S.alone }

  abbrev z : Side
  z = side_after s owner [] (ended s.own) None

  starved : (t : Task) → is_closing stage ≡ false → moves f t.command s.own ≡ false → KnowsLeft f stage None h h k → OwnTurned f table m m q q past past s z t (Ends Memory) → Starved t
  starved t goes calm file turned = record {
    known = k;
    later = past;
    side = z;
    left = record { here = S.here; alone = λ p b differs. refl; table = λ b. refl; nothing = λ b. refl; task = refl; own = refl; live = S.live ∙ sym (ap not goes); options = S.options };
    file = file;
    kept = keeps refl;
    still = calm;
    turned = turned;
  }

  -- a Commit or a Prepare that goes on
  commit_starved : (txn : Txn) (c : Committing) → IsOuter f s.own txn Commit → txn.prepared ≡ None → HasChange txn c → IsNumbered c txn.numbered → MayGoOn c → commit_steps c ≤ 2
      → let t = task_of (OnGroup Commit) (commit_steps c) in stage_task stage ≡ Some t → MayTurn f table s t → OwnTurned f table m m q q past past s z t (Ends Memory)
  commit_starved txn c O free change numbered going early has M =
      let t = task_of (OnGroup Commit) (commit_steps c) in
      commit_is_own f table m m q q owner past past s z s.own txn c CommitTurn.Memory ps [] O free (λ e. e) change numbered (going, omega (arith, early))
      (row_starved false (commit_row c txn.numbered) start_held (commit_steps c) (of_commit c txn.numbered)) (λ b. refl)
      (record { map = refl; number = refl; done = λ ends commits. absurd (cc ends) })
      (begins f o table owner ps stage k past s t S has M) (leaves past s t (Ends Memory) owner [] (ended s.own)) (λ step. absurd (cc step))

  prepare_starved : (txn : Txn) (p : Preparing) → IsOuter f s.own txn Prepare → HasPlan txn p.stage → p.numbered ≡ txn.numbered → IsPlanning p.stage → prepare_steps p ≤ 2
      → let t = task_of (OnGroup Prepare) (prepare_steps p) in stage_task stage ≡ Some t → MayTurn f table s t → OwnTurned f table m m q q past past s z t (Ends Memory)
  prepare_starved txn p O plan numbered going early has M =
      let t = task_of (OnGroup Prepare) (prepare_steps p) in
      prepare_is_own f table m q owner past past s z s.own txn p PrepareTurn.Memory ps [] O (λ e. e) plan numbered (going, omega (arith, early))
      (row_starved true (prepare_row p) start_held (prepare_steps p) (of_prepare p)) (λ b. refl)
      (begins f o table owner ps stage k past s t S has M) (leaves past s t (Ends Memory) owner [] (ended s.own)) (λ shown. absurd (cc shown))

-- a transaction that plans at the first turn of its Commit or Prepare isn't refused, and is the outer one
module _ (f : Form) (o : Options) (t : OpenTxn) (base : List ℕ) (x : Own) (H : HasOpen o t base x) (plans : plans_open t ≡ true) where
  rest_of : (d rest : Bool) → (not d && rest) ≡ true → rest ≡ true
  rest_of false rest e = e
  rest_of true rest e = absurd (cc e)

  flag_of : (d rest : Bool) → (not d && rest) ≡ true → d ≡ false
  flag_of false rest e = refl
  flag_of true rest e = absurd (cc e)

  abbrev deep : Bool
  deep = nat_lt 0 (txn_depth t.own.txn)

  abbrev stand : Bool
  stand = nat_lt 0 (total_of t.held)

  sound : txn_doomed t.own.txn ≡ false
  sound = flag_of (txn_doomed t.own.txn) (not deep && (not stand && t.own.changed)) plans

  outer : (not deep && (not stand && t.own.changed)) ≡ true
  outer = rest_of (txn_doomed t.own.txn) (not deep && (not stand && t.own.changed)) plans

  unnested : nat_lt 0 (txn_depth t.own.txn) ≡ false
  unnested = flag_of deep (not stand && t.own.changed) outer

  free : (not stand && t.own.changed) ≡ true
  free = rest_of deep (not stand && t.own.changed) outer

  unlocked : nat_lt 0 (total_of t.held) ≡ false
  unlocked = flag_of stand t.own.changed free

  changed : t.own.changed ≡ true
  changed = rest_of stand t.own.changed free

  pub open_plans : plans_in (txn_of t.own base) ≡ true
  open_plans = outer_plans f o t base x H ∙ rw (unnested, changed) refl

  depth_one : txn_depth t.own.txn + 1 ≡ 1
  depth_one = zero (txn_depth t.own.txn) unnested
    where
      zero : (d : ℕ) → nat_lt 0 d ≡ false → d + 1 ≡ 1
      zero d none = grind (arith, nat_tests)

  pub open_commit : IsOuter f x (txn_of t.own base) Commit
  open_commit = record { has = H.txn; outer = depth_one; granted = commit_why f o t base x H ∙ rw (sound, unnested, unlocked) refl }

  pub open_prepare : IsOuter f x (txn_of t.own base) Prepare
  open_prepare = record { has = H.txn; outer = depth_one; granted = prepare_why f o t base x H ∙ rw (sound, unnested, unlocked) refl }

-- the stages that want something
module _ (f : Form) (o : Options) (table : ℕ → ℕ → ℕ) (owner : ℕ) (ps : List Piece) (h : History) (k : Known) (past : Past) (s : Side) where
  abbrev At_stage : Stage → Task → Type 0
  At_stage stage t = StageTurned f o table owner [] stage None h h k past s t (Ends Memory)

  start_at : (st : Starting) → start_steps st ≤ 1 → IsSide f o owner ps (At.Starting st) k past s → MayTurn f table s (task_of (OnGroup Start) (start_steps st)) → At_stage (At.Starting st) (task_of (OnGroup Start) (start_steps st))
  start_at st early S M =
      let t = task_of (OnGroup Start) (start_steps st) in
      let m = image_map f k.file in
      let q = number_of f k.file in
      let bare = S.own.bare in
      let out : s.own.txn ≡ None = ap (λ (x : Own). x.txn) (sym bare) in
      let z = side_after s owner [] s.own None in
      record {
        known = k;
        later = past;
        side = z;
        left = record { here = S.here; alone = λ p b differs. refl; table = λ b. refl; nothing = λ b. refl; task = refl; own = bare; live = S.live; options = S.options };
        file = refl;
        kept = keeps refl;
        still = group_still f Start s.own;
        turned =
            start_is_own f f table m q 0 owner past past s z s.own st StartTurn.Memory ps [] out S.own.granted
            (keeps_nothing f s.own out (ap (λ (x : Own). x.counts) (sym bare)) (ap (λ (x : Own). x.all) (sym bare))) (λ e. e) (omega (arith, early))
            (row_starved f o table owner ps (At.Starting st) h k past s S true start_locks (λ b. 0) (start_steps st) of_start) (λ b. refl)
            (begins f o table owner ps (At.Starting st) k past s t S refl M) (leaves past s t (Ends Memory) owner [] s.own) (λ step. absurd (cc step));
      }

  -- the stages of a plan that want something
  plan_starves : (numbered : Bool) (st : PrepareStage) → (plan_wants numbered st ≡ Wants.Nothing → ⊥) → IsPlanning st × (stage_steps st ≤ 1)
  plan_starves numbered Unchanged some = absurd (some refl)
  plan_starves numbered (Begun txn) some = (tt, omega arith)
  plan_starves numbered (Records txn) some = (tt, omega arith)
  plan_starves numbered (Locked txn) some = absurd (some refl)
  plan_starves numbered (Planned state) some = absurd (some refl)
  plan_starves numbered (Filled state) some = absurd (some refl)

  starts : (st : Starting) → (start_wants st ≡ Wants.Nothing → ⊥) → start_steps st ≤ 1
  starts Starts.Begun some = omega arith
  starts Starts.Claimed some = omega arith
  starts Starts.Reading some = absurd (some refl)

  plans_so : (t : OpenTxn) (b : Bool) → plans_open t ≡ b → ((if b then Wants.Records Write else Wants.Nothing) ≡ Wants.Nothing → ⊥) → plans_open t ≡ true
  plans_so t true is some = is
  plans_so t false is some = absurd (some refl)

  -- a command that plans inside a transaction is the first of its Commit or Prepare
  open_starved : (txn : OpenTxn) (c : Command) → (given_wants txn (Some c) ≡ Wants.Nothing → ⊥) → IsSide f o owner ps (At.Open txn (Some c)) k past s → KnowsFile f (At.Open txn (Some c)) h k
      → MayTurn f table s (task_of (law_command c) 0) → At_stage (At.Open txn (Some c)) (task_of (law_command c) 0)
  open_starved txn Given.Commit some S K M =
      let stage = At.Open txn (Some Given.Commit) in
      let plans = plans_so txn (plans_open txn) refl some in
      let has = txn_of txn.own k.file in
      starved f o table owner ps stage h k past s S (task_of (OnGroup Commit) 0) refl (group_still f Commit s.own) (ready_like f txn.own.txn h k.file k.image K.forms.0 K.at.0, λ only. refl)
      (commit_starved f o table owner ps stage h k past s S has (Commits.Preparing (begun_with txn.own.txn true txn.own.numbered)) (open_commit f o txn k.file s.own S.own plans) refl
      (open_plans f o txn k.file s.own S.own plans) refl tt (omega arith) refl M)
  open_starved txn Given.Prepare some S K M =
      let stage = At.Open txn (Some Given.Prepare) in
      let plans = plans_so txn (plans_open txn) refl some in
      let has = txn_of txn.own k.file in
      starved f o table owner ps stage h k past s S (task_of (OnGroup Prepare) 0) refl (group_still f Prepare s.own) (ready_like f txn.own.txn h k.file k.image K.forms.0 K.at.0, λ only. refl)
      (prepare_starved f o table owner ps stage h k past s S has (begun_with txn.own.txn true txn.own.numbered) (open_prepare f o txn k.file s.own S.own plans)
      (open_plans f o txn k.file s.own S.own plans) refl tt (omega arith) refl M)
  open_starved txn _ some S K M = absurd (some refl)

  pub stage_starved : (stage : Stage) (t : Task) → (stage_wants stage ≡ Wants.Nothing → ⊥) → IsSide f o owner ps stage k past s → KnowsFile f stage h k → stage_task stage ≡ Some t → MayTurn f table s t
      → At_stage stage t
  stage_starved (At.Starting st) t some S K has M =
      let mine = same_task (task_of (OnGroup Start) (start_steps st)) t has in
      subst (At_stage (At.Starting st)) mine (start_at st (starts st some) S (subst (MayTurn f table s) (sym mine) M))
  stage_starved (At.Open txn None) t some S K has M = absurd (cc has)
  stage_starved (At.Open txn (Some c)) t some S K has M =
      let mine = same_task (task_of (law_command c) 0) t has in
      subst (At_stage (At.Open txn (Some c))) mine (open_starved txn c some S K (subst (MayTurn f table s) (sym mine) M))
  stage_starved (At.Committing (Commits.Preparing p)) t some S K has M =
      let stage = At.Committing (Commits.Preparing p) in
      let mine = same_task (task_of (OnGroup Commit) (prepare_steps p)) t has in
      let going = plan_starves p.numbered p.stage some in
      subst (At_stage stage) mine
      (starved f o table owner ps stage h k past s S (task_of (OnGroup Commit) (prepare_steps p)) refl (group_still f Commit s.own) (early_like f p.stage h k.file k.image K.forms.0 going.0 (let few = going.1 in omega (arith, few)) K.at.0, λ only. refl)
      (commit_starved f o table owner ps stage h k past s S S.own.txn (Commits.Preparing p) S.own.has.outer S.own.has.prepared_is S.own.change S.own.numbered going.0
      (let few = going.1 in omega (arith, few)) refl (subst (MayTurn f table s) (sym mine) M)))
  stage_starved (At.Committing (Commits.Finishing c)) t some S K has M = absurd (some refl)
  stage_starved (At.Preparing p) t some S K has M =
      let stage = At.Preparing p in
      let mine = same_task (task_of (OnGroup Prepare) (prepare_steps p)) t has in
      let going = plan_starves p.numbered p.stage some in
      subst (At_stage stage) mine
      (starved f o table owner ps stage h k past s S (task_of (OnGroup Prepare) (prepare_steps p)) refl (group_still f Prepare s.own) (early_like f p.stage h k.file k.image K.forms.0 going.0 (let few = going.1 in omega (arith, few)) K.at, λ only. refl)
      (prepare_starved f o table owner ps stage h k past s S S.own.txn p S.own.has.outer S.own.plan S.own.numbered going.0
      (let few = going.1 in omega (arith, few)) refl (subst (MayTurn f table s) (sym mine) M)))
  stage_starved (At.Prepared left command) t some S K has M = absurd (some refl)
  stage_starved (At.Finishing c) t some S K has M = absurd (some refl)

-- inside a transaction the header tells the form of the file
pub open_form : (f : Form) (header : Header) (limit size : ℕ) (txn : OpenTxn) (c : Command) (h : History) (k : Known) → OpenFits txn header limit size → KnowsFile f (At.Open txn (Some c)) h k → f ≡ form_in header
open_form f header limit size txn c h k fits K = sym K.forms.0 ∙ sym K.at.0.may.header ∙ sym fits.header

-- a turn at a stage, that led to this, is one of the law's
abbrev pub TurnsAt : Form → Options → ℕ → List Piece → List Piece → Stage → History → History → Went → Type 0
TurnsAt f o owner ps rs stage h new went =
    (table : ℕ → ℕ → ℕ) (k : Known) (past : Past) (s : Side) (t : Task) → IsSide f o owner ps stage k past s → KnowsFile f stage h k → BeginsOn f stage k.file → stage_task stage ≡ Some t → MayTurn f table s t
    → StageTurned f o table owner rs stage went.stage h new k past s t (law_turn went.turn)
