-- The turns by which a transaction that is open ends, or begins to be committed or prepared, as turns of the opener
-- aside.
use Rattle.std.proofs.Common.{◌≡◌, ◌≢◌, ℕ, ◌+◌, List, Bool, true, false, None, Some, refl, sym, ◌∙◌, ap, subst, arith}
use Rattle.std.specs.Prelude.{◌<◌, ◌&&◌, if◌then◌else◌, nat_lt, not, Option, IfSome}
use Rattle.std.proofs.lemmas.Bool.Decides.{nat_tests}
use Rattle.tdb_disk.specs.History.{History, seen}
use Rattle.tdb_disk.specs.Stop.{LeavesOnly}
use Rattle.tdb_space.specs.Undoing.{Reopens}
use Rattle.tdb_space.specs.Form.{Form}
use Rattle.tdb_locks.specs.declared.kind.Kind.TheVariants.{Read, Write}
use Rattle.tdb_locks.specs.HeldLocks.{total_of}
use Rattle.tdb_locks.specs.declared.piece.Piece.{Piece}
use Rattle.tdb_locks.specs.declared.turn.Turn.{Turn as TurnIs}
use Rattle.tdb_law.specs.Commands.{GroupCommand, Reply}
use Rattle.tdb_law.specs.Commands.Command.{OnGroup, OnWalk}
use Rattle.tdb_law.specs.Commands.GroupCommand.{Cancel, Commit, Prepare}
use Rattle.tdb_law.specs.Commands.WalkCommand.{Close}
use Rattle.tdb_law.specs.Commands.Turn.{Ends}
use Rattle.tdb_law.specs.Images.{image_map}
use Rattle.tdb_law.specs.Openers.{Task, Txn, closed, ended}
use Rattle.tdb_law.specs.Refusals.{Refusal, refusal, says}
use Rattle.tdb_law.specs.Rows.{plans_in}
use Rattle.tdb_law.specs.OneAside.Sides.{Past, Side}
use Rattle.tdb_steps.specs.Holdings.{table_of}
use Rattle.tdb_steps.specs.declared.flag.Flag.{Flag}
use Rattle.tdb_steps.specs.Turns.{number_of}
use Rattle.tdb_txn.specs.Txn.{txn_depth, txn_doomed}
use Rattle.tdb_txn.specs.declared.txn.Txn.{Txn as Pages}
use Rattle.tdb_txn_turns.specs.Commits.{RestsAt}
use Rattle.tdb_txn_turns.specs.Laws.{HasPlan}
use Rattle.tdb_txn_turns.specs.Prepares.{begun_with, stage_steps, KnowsStage, MayPlan, StageFits}
use Rattle.tdb_txn_turns.proofs.Carried.{ready_rests, rests_stops}
use Rattle.tdb_txn_turns.specs.declared.committing.Committing.TheVariants.{Preparing as PreparingFirst}
use Rattle.tdb_txn_turns.specs.declared.preparing.Preparing.{Preparing}
use Rattle.tdb_txn_turns.specs.declared.preparing.PrepareStage.TheVariants.{Unchanged, Begun}
use Rattle.tdb_txn_turns.specs.InsideTxn.OwnTxns.{image_of}
use Rattle.tdb_txn_turns.specs.InsideTxn.Laws.{IsEnd}
use Rattle.tdb_txn_turns.specs.InsideTxn.Turns.{EndsInside}
use Rattle.tdb_commands.specs.InLaw.{law_command, law_turn}
use Rattle.tdb_commands.specs.declared.command.Command.{Command as Given}
use Rattle.tdb_commands.specs.declared.command.Command.TheVariants as Names
use Rattle.tdb_txn_owner.specs.declared.open_txn.OpenTxn.{OpenTxn}
use Rattle.tdb_commands.specs.declared.options.Options.{Options}
use Rattle.tdb_txn_owner.specs.declared.stage.Stage.{Stage}
use Rattle.tdb_txn_owner.specs.declared.stage.Stage.TheVariants as At
use Rattle.tdb_txn_owner.specs.declared.stage.Went.{Went}
use Rattle.tdb_txn_owner.specs.Ends.{task_of}
use Rattle.tdb_txn_owner.specs.Stages.{is_close, is_closing, plan_records, stage_records, HasOuter, Known, IsSide, KnowsFile}
use Rattle.tdb_txn_owner.specs.Turned.{IsBackAs, IsLeft, KnowsLeft, MayTurn, StageTurned, keeps}
use Rattle.tdb_txn_owner.specs.Given.{IsInside}
use Rattle.tdb_txn_owner.specs.Wanting.{given_wants, open_wants, plan_wants, plans_open, records_by, records_with, RecordsGo}
use Rattle.tdb_txn_owner.specs.declared.wanting.Wants.TheVariants as Wants
use Rattle.tdb_txn_owner.specs.Wents.{TurnsFrom}
use Rattle.tdb_txn_owner.proofs.InsideTurns.{cancel_ends, close_is_own, end_is_own, refusal_ends}
use Rattle.tdb_txn_owner.proofs.Opened.{txn_of}
use Rattle.tdb_txn_owner.proofs.Resting.{ready_like}
use Rattle.tdb_txn_owner.proofs.Sided.{begins, leaves, side_after}
use Rattle.tdb_txn_owner.proofs.Turning.{close_still, group_still}

-- which commands end the opener itself
no_close : (c : Given) (g : GroupCommand) → law_command c ≡ OnGroup g → is_close (Some c) ≡ false
no_close Names.Close g is = absurd (cc is)
no_close (Names.Fetch key) g is = refl
no_close (Names.Has key) g is = refl
no_close (Names.Store key value flag) g is = refl
no_close (Names.Append key value) g is = refl
no_close (Names.Delete key) g is = refl
no_close Names.Wipe g is = refl
no_close (Names.ChainLock key) g is = refl
no_close (Names.ChainLockNb key) g is = refl
no_close (Names.ChainUnlock key) g is = refl
no_close Names.LockAll g is = refl
no_close Names.LockAllRead g is = refl
no_close Names.UnlockAll g is = refl
no_close Names.Start g is = refl
no_close Names.Commit g is = refl
no_close Names.Prepare g is = refl
no_close Names.Cancel g is = refl
no_close Names.First g is = refl
no_close Names.Next g is = refl
no_close Names.EndWalk g is = refl
no_close Names.Check g is = refl
no_close Names.Seqnum g is = refl

pub its_close : (c : Given) → law_command c ≡ OnWalk Close → is_close (Some c) ≡ true
its_close Names.Close is = refl
its_close (Names.Fetch key) is = absurd (cc is)
its_close (Names.Has key) is = absurd (cc is)
its_close (Names.Store key value Flag.Replace) is = absurd (cc is)
its_close (Names.Store key value Flag.Insert) is = absurd (cc is)
its_close (Names.Store key value Flag.Modify) is = absurd (cc is)
its_close (Names.Append key value) is = absurd (cc is)
its_close (Names.Delete key) is = absurd (cc is)
its_close Names.Wipe is = absurd (cc is)
its_close (Names.ChainLock key) is = absurd (cc is)
its_close (Names.ChainLockNb key) is = absurd (cc is)
its_close (Names.ChainUnlock key) is = absurd (cc is)
its_close Names.LockAll is = absurd (cc is)
its_close Names.LockAllRead is = absurd (cc is)
its_close Names.UnlockAll is = absurd (cc is)
its_close Names.Start is = absurd (cc is)
its_close Names.Commit is = absurd (cc is)
its_close Names.Prepare is = absurd (cc is)
its_close Names.Cancel is = absurd (cc is)
its_close Names.First is = absurd (cc is)
its_close Names.Next is = absurd (cc is)
its_close Names.EndWalk is = absurd (cc is)
its_close Names.Check is = absurd (cc is)
its_close Names.Seqnum is = absurd (cc is)

-- Its opener lets go of all that it holds, and the file stays.
module _ (f : Form) (o : Options) (table : ℕ → ℕ → ℕ) (owner : ℕ) (ps rs : List Piece) (h : History) (old : OpenTxn) (command : Given) (k : Known) (past : Past) (s : Side)
    (gone : (b : ℕ) → table_of rs owner b ≡ 0) (others : (p b : ℕ) → p ≢ owner → table_of rs p b ≡ table_of ps p b)
    (S : IsSide f o owner ps (At.Open old (Some command)) k past s) (K : KnowsFile f (At.Open old (Some command)) h k) where
  abbrev txn : Txn
  txn = txn_of old.own k.file

  module _ (g : GroupCommand) (is : law_command command ≡ OnGroup g) (M : MayTurn f table s (task_of (OnGroup g) 0)) where
    pub open_ends : (r : Reply) → EndsInside f s.own (OnGroup g) (number_of f k.file) (past.numbers s.here) r
        → StageTurned f o table owner rs (At.Open old (Some command)) None h h k past s (task_of (OnGroup g) 0) (Ends r)
    open_ends r E =
        let z = side_after s owner rs (ended s.own) None in
        record {
          known = k;
          later = past;
          side = z;
          left = record { here = S.here; alone = λ p b differs. others p b differs ∙ S.alone p b differs; table = λ b. refl; nothing = gone; task = refl; own = refl; live = S.live ∙ sym (ap not (no_close command g is)); options = S.options };
          file = (ready_like f old.own.txn h k.file k.image K.forms.0 K.at.0, λ reads. refl);
          kept = keeps refl;
          still = group_still f g s.own;
          turned =
              end_is_own f table (image_map f k.file) (number_of f k.file) past past s z s.own txn g r S.own.txn E gone
              (begins f o table owner ps (At.Open old (Some command)) k past s (task_of (OnGroup g) 0) S (ap (λ c. Some (task_of c 0)) is) M)
              (leaves past s (task_of (OnGroup g) 0) (Ends r) owner rs (ended s.own));
        }

    module _ (outer : txn_depth old.own.txn ≡ 0) where
      depth : txn.depth ≡ 1
      depth = ap (λ d. d + 1) outer

      pub cancels : g ≡ Cancel → StageTurned f o table owner rs (At.Open old (Some command)) None h h k past s (task_of (OnGroup g) 0) (Ends Reply.Done)
      cancels cancel =
          open_ends Reply.Done
          (subst (λ e. EndsInside f s.own (OnGroup e) (number_of f k.file) (past.numbers s.here) Reply.Done) (sym cancel)
          (cancel_ends f s.own txn (number_of f k.file) (past.numbers s.here) S.own.txn depth))

      pub refuses : IsEnd (OnGroup g) → (why : Refusal) (r : Reply) → refusal f (OnGroup g) s.own ≡ Some why → r ≡ says s.own why
          → StageTurned f o table owner rs (At.Open old (Some command)) None h h k past s (task_of (OnGroup g) 0) (Ends r)
      refuses end why r R told =
          open_ends r
          (subst (EndsInside f s.own (OnGroup g) (number_of f k.file) (past.numbers s.here)) (sym told)
          (refusal_ends f s.own txn (OnGroup g) why (number_of f k.file) (past.numbers s.here) S.own.txn depth end R))

  -- a Close ends the opener too
  pub open_closes : law_command command ≡ OnWalk Close → MayTurn f table s (task_of (OnWalk Close) 0)
      → StageTurned f o table owner rs (At.Open old (Some command)) None h h k past s (task_of (OnWalk Close) 0) (Ends Reply.Done)
  open_closes is M =
      let z = side_after s owner rs (closed s.own) None in
      record {
        known = k;
        later = past;
        side = z;
        left = record { here = S.here; alone = λ p b differs. others p b differs ∙ S.alone p b differs; table = λ b. refl; nothing = gone; task = refl; own = refl; live = sym (ap not (its_close command is)); options = S.options };
        file = (ready_like f old.own.txn h k.file k.image K.forms.0 K.at.0, λ reads. refl);
        kept = keeps refl;
        still = close_still f s.own;
        turned =
            close_is_own f table (image_map f k.file) (number_of f k.file) past past s z s.own txn S.own.txn gone
            (begins f o table owner ps (At.Open old (Some command)) k past s (task_of (OnWalk Close) 0) S (ap (λ c. Some (task_of c 0)) is) M)
            (leaves past s (task_of (OnWalk Close) 0) (Ends Reply.Done) owner rs (closed s.own));
      }

-- others may read the file before the first turn
reads_still : (f : Form) (h : History) (old : OpenTxn) (command : Given) (k : Known) → KnowsFile f (At.Open old (Some command)) h k → seen h ≡ k.file
reads_still f h old command k K = K.at.0.file

first_reads : (pages : Pages) (b : Bool) → plan_records (if b then Begun pages else Unchanged) ≡ Read
first_reads pages true = refl
first_reads pages false = refl

-- what is wanted of all records, and held, is the same before that turn as inside the transaction
wants_first : (pages : Pages) (numbered b : Bool) → plan_wants numbered (if b then Begun pages else Unchanged) ≡ (if b then Wants.Records Write else Wants.Nothing)
wants_first pages numbered true = refl
wants_first pages numbered false = refl

module _ (t : OpenTxn) (outer : txn_depth t.own.txn ≡ 0) (whole : txn_doomed t.own.txn ≡ false) (unlocked : nat_lt 0 (total_of t.held) ≡ false) where
  plans_as : plans_open t ≡ t.own.changed
  plans_as = rw (outer, whole, unlocked) refl

  wants_as : plan_wants t.own.numbered (if t.own.changed then Begun t.own.txn else Unchanged) ≡ open_wants t
  wants_as = wants_first t.own.txn t.own.numbered t.own.changed ∙ sym (ap (λ b. if b then Wants.Records Write else Wants.Nothing) plans_as)

  records_as : (turn : TurnIs) → records_by turn (plan_wants t.own.numbered (if t.own.changed then Begun t.own.txn else Unchanged)) (Some (plan_records (if t.own.changed then Begun t.own.txn else Unchanged))) ≡ records_by turn (open_wants t) (Some Read)
  records_as turn = ap (λ w. records_by turn w (Some (plan_records (if t.own.changed then Begun t.own.txn else Unchanged)))) wants_as ∙ ap (λ k. records_by turn (open_wants t) (Some k)) (first_reads t.own.txn t.own.changed)

  pub commit_records_go : (turn : TurnIs) (after : Option Stage) → RecordsGo (At.Committing (PreparingFirst (begun_with t.own.txn t.own.changed t.own.numbered))) turn after → RecordsGo (At.Open t (Some Names.Commit)) turn after
  commit_records_go turn after R = subst (λ r. IfSome after (λ later. stage_records later ≡ r)) (records_as turn) R

  pub prepare_records_go : (turn : TurnIs) (after : Option Stage) → RecordsGo (At.Preparing (begun_with t.own.txn t.own.changed t.own.numbered)) turn after → RecordsGo (At.Open t (Some Names.Prepare)) turn after
  prepare_records_go turn after R = subst (λ r. IfSome after (λ later. stage_records later ≡ r)) (records_as turn) R

-- a command that leaves the transaction open wants none
deep_none : (t : OpenTxn) → 0 < txn_depth t.own.txn → plans_open t ≡ false
deep_none t deep = ap (λ b. not (txn_doomed t.own.txn) && (not b && (not (nat_lt 0 (total_of t.held)) && t.own.changed))) (lt-true deep) ∙ and_none (not (txn_doomed t.own.txn))
  where
    lt-true : 0 < txn_depth t.own.txn → nat_lt 0 (txn_depth t.own.txn) ≡ true
    lt-true more = grind (arith, nat_tests)

    and_none : (b : Bool) → (b && false) ≡ false
    and_none true = refl
    and_none false = refl

pub stay_records : (t : OpenTxn) (c : Given) → IsInside c (txn_depth t.own.txn) → records_with (given_wants t (Some c)) (Some Read) ≡ Some Read
stay_records t Names.Commit deep = ap (λ b. records_with (if b then Wants.Records Write else Wants.Nothing) (Some Read)) (deep_none t deep)
stay_records t Names.Prepare deep = ap (λ b. records_with (if b then Wants.Records Write else Wants.Nothing) (Some Read)) (deep_none t deep)
stay_records t Names.Close inside = refl
stay_records t (Names.Fetch key) inside = refl
stay_records t (Names.Has key) inside = refl
stay_records t (Names.Store key value flag) inside = refl
stay_records t (Names.Append key value) inside = refl
stay_records t (Names.Delete key) inside = refl
stay_records t Names.Wipe inside = refl
stay_records t (Names.ChainLock key) inside = refl
stay_records t (Names.ChainLockNb key) inside = refl
stay_records t (Names.ChainUnlock key) inside = refl
stay_records t Names.LockAll inside = refl
stay_records t Names.LockAllRead inside = refl
stay_records t Names.UnlockAll inside = refl
stay_records t Names.Start inside = refl
stay_records t Names.Cancel inside = refl
stay_records t Names.First inside = refl
stay_records t Names.Next inside = refl
stay_records t Names.EndWalk inside = refl
stay_records t Names.Check inside = refl
stay_records t Names.Seqnum inside = refl

-- what is known of the file before the first turn of an outer Commit or Prepare, of a transaction in which something
-- was changed, or nothing
pub knows_first : (f : Form) (h : History) (old : OpenTxn) (command : Given) (k : Known) → KnowsFile f (At.Open old (Some command)) h k → (b : Bool) → KnowsStage (if b then Begun old.own.txn else Unchanged) h k.file k.image
knows_first f h old command k K true = K.at.0
knows_first f h old command k K false = ready_rests old.own.txn h k.file k.image K.at.0

pub first_rests : (pages : Pages) (b : Bool) (h : History) (r image : List ℕ) → KnowsStage (if b then Begun pages else Unchanged) h r image → RestsAt h r
first_rests pages true h r image K = ready_rests pages h r image K
first_rests pages false h r image K = K

pub first_fits : (pages : Pages) (b : Bool) (size limit : ℕ) → MayPlan pages size limit → StageFits (if b then Begun pages else Unchanged) size limit
first_fits pages true size limit plan = plan
first_fits pages false size limit plan = tt

-- An outer Commit or Prepare that isn't refused, before its first turn.
module _ (o : Options) (owner : ℕ) (ps : List Piece) (h : History) (old : OpenTxn) (k : Known) (past : Past) (s : Side) (outer : txn_depth old.own.txn ≡ 0) where
  abbrev first : Preparing
  first = begun_with old.own.txn old.own.changed old.own.numbered

  abbrev started : Txn
  started = txn_of old.own k.file

  no_steps : (b : Bool) → stage_steps (if b then Begun old.own.txn else Unchanged) ≡ 0
  no_steps true = refl
  no_steps false = refl

  flat : started.depth ≡ 1
  flat = ap (λ d. d + 1) outer

  plans : plans_in started ≡ old.own.changed
  plans = rw outer (go old.own.changed)
    where
      go : (b : Bool) → (true && (b && true)) ≡ b
      go true = refl
      go false = refl

  has_plan : (b : Bool) → plans_in started ≡ b → HasPlan started (if b then Begun old.own.txn else Unchanged)
  has_plan true is = is
  has_plan false is = is

  module _ (f : Form) (command : Given) (K : KnowsFile f (At.Open old (Some command)) h k) where
    pub commit_file : KnowsFile f (At.Committing (PreparingFirst first)) h k
    commit_file = record { at = (knows_first f h old command k K old.own.changed, λ late. absurd (let none = no_steps old.own.changed in omega (arith, none, late))); forms = K.forms; reads = λ only. reads_still f h old command k K }

    pub prepare_file : KnowsFile f (At.Preparing first) h k
    prepare_file = record { at = knows_first f h old command k K old.own.changed; forms = K.forms; reads = λ only. reads_still f h old command k K }

    has_outer : (g : GroupCommand) → IsSide f o owner ps (At.Open old (Some command)) k past s → refusal f (OnGroup g) s.own ≡ None
        → HasOuter f k.image g None started s.own
    has_outer g S granted = record {
      outer = record { has = S.own.txn; outer = flat; granted = granted };
      map = ap (λ g. image_map g (image_of old.own k.file)) (K.at.0.may.header ∙ K.forms.0) ∙ ap (image_map f) (sym K.at.0.image);
      prepared_is = refl;
    }

    pub commit_side : law_command command ≡ OnGroup Commit → IsSide f o owner ps (At.Open old (Some command)) k past s → refusal f (OnGroup Commit) s.own ≡ None
        → IsSide f o owner ps (At.Committing (PreparingFirst first)) k past s
    commit_side is S granted = record {
      here = S.here;
      alone = S.alone;
      table = S.table;
      holds = S.holds;
      task = S.task ∙ ap (λ c. Some (task_of c 0)) is ∙ ap (λ n. Some (task_of (OnGroup Commit) n)) (sym (no_steps old.own.changed));
      keeps = S.keeps;
      live = S.live;
      options = S.options;
      own = record { txn = started; has = has_outer Commit S granted; change = has_plan old.own.changed plans; numbered = refl };
      numbers = S.numbers;
      mark = tt;
    }

    pub prepare_side : law_command command ≡ OnGroup Prepare → IsSide f o owner ps (At.Open old (Some command)) k past s → refusal f (OnGroup Prepare) s.own ≡ None
        → IsSide f o owner ps (At.Preparing first) k past s
    prepare_side is S granted = record {
      here = S.here;
      alone = S.alone;
      table = S.table;
      holds = S.holds;
      task = S.task ∙ ap (λ c. Some (task_of c 0)) is ∙ ap (λ n. Some (task_of (OnGroup Prepare) n)) (sym (no_steps old.own.changed));
      keeps = S.keeps;
      live = S.live;
      options = S.options;
      own = record { txn = started; has = has_outer Prepare S granted; plan = has_plan old.own.changed plans; numbered = refl };
      numbers = S.numbers;
      mark = tt;
    }

  pub first_task : (g : GroupCommand) → Some (task_of (OnGroup g) (stage_steps first.stage)) ≡ Some (task_of (OnGroup g) 0)
  first_task g = ap (λ n. Some (task_of (OnGroup g) n)) (no_steps old.own.changed)

-- a stage that isn't in a Start
abbrev IsBegun : Stage → Type 0
IsBegun (At.Starting start) = ⊥
IsBegun stage = Unit {0}

-- Their first turn is one from the stage inside the transaction.
module _ (f : Form) (o : Options) (owner : ℕ) (ps rs : List Piece) (h new : History) (old : OpenTxn) (went : Went) (outer : txn_depth old.own.txn ≡ 0)
    (table : ℕ → ℕ → ℕ) (k : Known) (past : Past) (s : Side) (t : Task) where
  abbrev Goes : Stage → Type 0
  Goes stage = StageTurned f o table owner rs stage went.stage h new k past s t (law_turn went.turn)

  left_from : (first : Stage) (command : Given) (after : Option Stage) (k : Known) (past : Past) (s : Side) → is_closing first ≡ false → is_close (Some command) ≡ false
      → IsLeft f o owner rs first after k past s → IsLeft f o owner rs (At.Open old (Some command)) after k past s
  left_from first command None k past s ongoing stays L = subst (λ b. IsBackAs o (not b) owner rs s) (ongoing ∙ sym stays) L
  left_from first command (Some stage) k past s ongoing stays L = L

  file_from : (first : Stage) (command : Given) (after : Option Stage) (k : Known) → IsBegun first → stage_records first ≡ Some Read → KnowsLeft f first after h new k → KnowsLeft f (At.Open old (Some command)) after h new k
  file_from (At.Starting start) command None k begun reads K = absurd begun
  file_from (At.Open txn other) command None k begun reads K = K
  file_from (At.Committing c) command None k begun reads K = (K.0, λ only. K.1 (λ e. only (sym reads ∙ e)))
  file_from (At.Preparing p) command None k begun reads K = (K.0, λ only. K.1 (λ e. only (sym reads ∙ e)))
  file_from (At.Prepared left other) command None k begun reads K = (K.0, λ only. K.1 (λ e. only (sym reads ∙ e)))
  file_from (At.Finishing c) command None k begun reads K = (K.0, λ only. K.1 (λ e. only (sym reads ∙ e)))
  file_from first command (Some stage) k begun reads K = K

  from_first : (first : Stage) (command : Given) → is_closing first ≡ false → stage_records first ≡ Some Read → is_close (Some command) ≡ false → IsBegun first → Goes first → Goes (At.Open old (Some command))
  from_first first command ongoing reads stays begun T = record {
    known = T.known;
    later = T.later;
    side = T.side;
    left = left_from first command went.stage T.known T.later T.side ongoing stays T.left;
    file = file_from first command went.stage T.known begun reads T.file;
    kept = T.kept;
    still = T.still;
    turned = T.turned;
  }

  pub commit_goes : TurnsFrom f o owner ps rs (At.Committing (PreparingFirst (begun_with old.own.txn old.own.changed old.own.numbered))) went h new
      → refusal f (OnGroup Commit) s.own ≡ None → IsSide f o owner ps (At.Open old (Some Names.Commit)) k past s → KnowsFile f (At.Open old (Some Names.Commit)) h k
      → Some (task_of (OnGroup Commit) 0) ≡ Some t → MayTurn f table s t → Goes (At.Open old (Some Names.Commit))
  commit_goes turned granted S K has M =
      let T = turned table k past s t (commit_side o owner ps h old k past s outer f Names.Commit K refl S granted) (commit_file o owner ps h old k past s outer f Names.Commit K) (first_task o owner ps h old k past s outer Commit ∙ has) M in
      from_first (At.Committing (PreparingFirst (begun_with old.own.txn old.own.changed old.own.numbered))) Names.Commit refl (ap Some (first_reads old.own.txn old.own.changed)) refl tt T

  pub prepare_goes : TurnsFrom f o owner ps rs (At.Preparing (begun_with old.own.txn old.own.changed old.own.numbered)) went h new
      → refusal f (OnGroup Prepare) s.own ≡ None → IsSide f o owner ps (At.Open old (Some Names.Prepare)) k past s → KnowsFile f (At.Open old (Some Names.Prepare)) h k
      → Some (task_of (OnGroup Prepare) 0) ≡ Some t → MayTurn f table s t → Goes (At.Open old (Some Names.Prepare))
  prepare_goes turned granted S K has M =
      let T = turned table k past s t (prepare_side o owner ps h old k past s outer f Names.Prepare K refl S granted) (prepare_file o owner ps h old k past s outer f Names.Prepare K) (first_task o owner ps h old k past s outer Prepare ∙ has) M in
      from_first (At.Preparing (begun_with old.own.txn old.own.changed old.own.numbered)) Names.Prepare refl (ap Some (first_reads old.own.txn old.own.changed)) refl tt T

-- where no call changes the file
pub open_stops : (f : Form) (h : History) (old : OpenTxn) (command : Given) (k : Known) → KnowsFile f (At.Open old (Some command)) h k → LeavesOnly h h (Reopens k.file)
open_stops f h old command k K = rests_stops h k.file (ready_rests old.own.txn h k.file k.image K.at.0)
