-- The turns of an opener whose transaction is prepared are turns of the opener aside.
use Rattle.std.proofs.Common.{◌≡◌, ℕ, ◌<◌, List, Bool, true, false, Option, Some, None, Result, Ok, Err, refl, sym, ◌∙◌, ap, subst, arith}
use Rattle.std.specs.Prelude.{◌≢◌, ◌&&◌, IfOk, OnOk, not}
use Rattle.tdb_disk.specs.History.{History}
use Rattle.tdb_disk.specs.Stop.{LeavesOnly}
use Rattle.tdb_disk.proofs.Runs.{leaves_quiet}
use Rattle.tdb_space.specs.Form.{Form}
use Rattle.tdb_locks.specs.declared.kind.Kind.TheVariants.{Write}
use Rattle.tdb_locks.specs.declared.piece.Piece.{Piece}
use Rattle.tdb_locks.specs.declared.turn.Reply.{Reply}
use Rattle.tdb_locks.specs.declared.turn.Turn.{Turn}
use Rattle.tdb_law.specs.Commands as Law
use Rattle.tdb_law.specs.Commands.GroupCommand.{Commit, Prepare, Cancel}
use Rattle.tdb_law.specs.Commands.Command.{OnGroup}
use Rattle.tdb_law.specs.Commands.Turn.{Ends}
use Rattle.tdb_law.specs.Openers.{Own, Task, Txn, closed, ended}
use Rattle.tdb_law.specs.Images.{image_map}
use Rattle.tdb_law.specs.Outcomes.{moves, moves_by}
use Rattle.tdb_law.specs.Refusals.{refusal, says}
use Rattle.tdb_law.specs.Refusals.Refusal.{IsPrepared}
use Rattle.tdb_law.specs.Walks.{Lost}
use Rattle.tdb_steps.specs.Holdings.{table_of}
use Rattle.tdb_steps.specs.Turns.{number_of}
use Rattle.tdb_space.specs.Undoing.{Reopens}
use Rattle.tdb_space.proofs.Scheme.WritesUndone.{within_itself}
use Rattle.tdb_txn.specs.Commit as State
use Rattle.tdb_txn.specs.Commit.{opened, scheme_of}
use Rattle.tdb_txn.specs.CommitStates.{prepared_plan}
use Rattle.tdb_txn.proofs.StatesKept.{fills_of}
use Rattle.tdb_txn_turns.proofs.Carried.{carried_stops, rests_stops}
use Rattle.tdb_txn.specs.declared.states.Prepared.{Prepared}
use Rattle.tdb_txn_turns.specs.InsideTxn.Laws.{IsEnd}
use Rattle.tdb_txn_turns.proofs.InsideTxn.Nested.{refuses_inside}
use Rattle.tdb_law.specs.OneAside.Own.{OwnTurned}
use Rattle.tdb_law.specs.OneAside.Sides.{Past, Side}
use Rattle.tdb_txn_turns.specs.Commits.{RestsAt}
use Rattle.tdb_txn_turns.specs.Holding.{OthersHold}
use Rattle.tdb_txn_turns.specs.declared.finishing.Finishing.TheVariants.{Open}
use Rattle.tdb_commands.specs.InLaw.{law_command, law_reply}
use Rattle.tdb_commands.specs.declared.command.Command.{Command}
use Rattle.tdb_commands.specs.declared.command.Command.TheVariants as Given
use Rattle.tdb_commands.specs.declared.options.Options.{Options}
use Rattle.tdb_txn_owner.specs.declared.stage.PreparedTxn.{PreparedTxn}
use Rattle.tdb_txn_owner.specs.declared.stage.PreparedTxn.TheVariants.{Opened, Nothing}
use Rattle.tdb_txn_owner.specs.declared.stage.Stage.{Stage}
use Rattle.tdb_txn_owner.specs.declared.stage.Stage.TheVariants as At
use Rattle.tdb_txn_owner.specs.Ends.{task_of}
use Rattle.tdb_txn_owner.specs.Prepared.{prepared_told}
use Rattle.tdb_txn_owner.specs.Refusing.{passes_prepared}
use Rattle.tdb_txn_owner.specs.Stages.{is_close, prepared_records, prepared_steps, Known, IsSide, KnowsFile, KnowsPrepared}
use Rattle.tdb_txn_owner.specs.Turned.{IsLeft, KnowsLeft, MayTurn, StageTurned, keeps}
use Rattle.tdb_txn_owner.proofs.Filed.{file_by}
use Rattle.tdb_txn_owner.proofs.FinishTurns.{nothing_is_own}
use Rattle.tdb_txn_owner.proofs.InsideTurns.{cancel_ends, close_is_own, end_is_own, inside_is_own, refusal_ends, walk_shifts}
use Rattle.tdb_txn_owner.proofs.PreparedTold.{prepared_why, told_prepared, why_prepared}
use Rattle.tdb_txn_owner.proofs.Resting.{rests_like}
use Rattle.tdb_txn_owner.proofs.Sided.{begins, leaves, side_after}
use Rattle.tdb_txn_owner.proofs.Turning.{close_still, group_still, still_shift}

-- a stop leaves what opens to the map of the file before
pub prepared_stops : (left : PreparedTxn) (h : History) (r b : List ℕ) → KnowsPrepared left h r b → LeavesOnly h h (Reopens r)
prepared_stops (Opened state) h r b K =
    let plan = prepared_plan state in
    carried_stops (State.IsPrepared plan) h h r b K
    (λ x y S. leaves_quiet h (Reopens x) S.quiet (subst (Reopens x) (sym S.file) ((fills_of plan x y S.brings).undoes (opened plan x) (within_itself (scheme_of plan) (opened plan x)))))
prepared_stops (Nothing changed) h r b K = rests_stops h r K

-- what is told of each Ok, by three facts of it
pub over_with : {V F : Type 0} (r : Result V F) (P : V → Type 0) (Q R : Type 0) (Z : V → Type 0) → IfOk r P → OnOk r Q → OnOk r R → ((v : V) → P v → Q → R → Z v) → IfOk r Z
over_with (Ok v) P Q R Z p q k more = more v p q k
over_with (Err e) P Q R Z p q k more = tt

-- a command that ends no prepared transaction isn't taken
pub not_taken : (c : Command) → (c ≡ Given.Commit → ⊥) → (c ≡ Given.Cancel → ⊥) → (c ≡ Given.Close → ⊥) → passes_prepared c ≡ false
not_taken (Given.Fetch key) commit cancel close = refl
not_taken (Given.Has key) commit cancel close = refl
not_taken (Given.Store key value flag) commit cancel close = refl
not_taken (Given.Append key value) commit cancel close = refl
not_taken (Given.Delete key) commit cancel close = refl
not_taken Given.Wipe commit cancel close = refl
not_taken Given.Check commit cancel close = refl
not_taken (Given.ChainLock key) commit cancel close = refl
not_taken (Given.ChainLockNb key) commit cancel close = refl
not_taken (Given.ChainUnlock key) commit cancel close = refl
not_taken Given.LockAll commit cancel close = refl
not_taken Given.LockAllRead commit cancel close = refl
not_taken Given.UnlockAll commit cancel close = refl
not_taken Given.Start commit cancel close = refl
not_taken Given.Commit commit cancel close = absurd (commit refl)
not_taken Given.Prepare commit cancel close = refl
not_taken Given.Cancel commit cancel close = absurd (cancel refl)
not_taken Given.First commit cancel close = refl
not_taken Given.Next commit cancel close = refl
not_taken Given.EndWalk commit cancel close = refl
not_taken Given.Seqnum commit cancel close = refl
not_taken Given.Close commit cancel close = absurd (close refl)

-- where others may read the file an end makes no call that changes it
pub still_read : (left : PreparedTxn) (old new : History) → ((changed : Bool) → left ≡ Nothing changed → new ≡ old) → Some (prepared_records left) ≢ Some Write → new ≡ old
still_read (Opened state) old new same only = absurd (only refl)
still_read (Nothing changed) old new same only = same changed refl

-- the replies with which a command ends the transaction without a commit
abbrev pub EndsPrepared : Command → Reply → Type 0
EndsPrepared Given.Cancel r = r ≡ Reply.Ok
EndsPrepared Given.Close r = r ≡ Reply.Ok
EndsPrepared Given.Prepare r = r ≡ Reply.InTransaction
EndsPrepared _ r = ⊥

changed_in : (a b c : Bool) → (a && b && c) ≡ true → b ≡ true
changed_in a true c e = refl
changed_in true false c e = absurd (cc e)
changed_in false false c e = absurd (cc e)

-- another Prepare is refused
prepare_why : (f : Form) (x : Own) (txn : Txn) (steps : ℕ) → x.txn ≡ Some txn → txn.prepared ≡ Some steps → refusal f (OnGroup Prepare) x ≡ Some IsPrepared
unfolding refusal
prepare_why f x txn steps has is = rw (has, is) refl

few_steps : (changed : Bool) → prepared_steps (Nothing changed) < 4
few_steps true = omega arith
few_steps false = omega arith

module _ (f : Form) (o : Options) (table : ℕ → ℕ → ℕ) (owner : ℕ) (ps rs : List Piece) (left : PreparedTxn) (h new : History) (k : Known) (past : Past) (s : Side) where
  abbrev at : Command → Stage
  at c = At.Prepared left (Some c)

  abbrev OwnBy : Command → Own → Law.Reply → Type 0
  OwnBy c y r = OwnTurned f table (image_map f k.file) (image_map f k.file) (number_of f k.file) (number_of f k.file) past past s (side_after s owner rs y None) (task_of (law_command c) 0) (Ends r)

  abbrev Left : Command → Law.Reply → Type 0
  Left c r = StageTurned f o table owner rs (at c) None h new k past s (task_of (law_command c) 0) (Ends r)

  -- the transaction is over, and the opener holds nothing
  module _ (c : Command) (S : IsSide f o owner ps (at c) k past s) (K : KnowsFile f (at c) h k) (gone : (b : ℕ) → table_of rs owner b ≡ 0) (others : OthersHold owner ps rs) (rests : RestsAt new k.file)
      (reads : Some (prepared_records left) ≢ Some Write → new ≡ h) (calm : moves f (law_command c) s.own ≡ false) where
    over : (y : Own) (r : Law.Reply) → ended y ≡ y → y.live ≡ not (is_close (Some c)) → y.options ≡ s.own.options → OwnBy c y r → Left c r
    over y r out live same turned = record {
      known = k;
      later = past;
      side = side_after s owner rs y None;
      left = record { here = S.here; alone = λ p b differs. others p b differs ∙ S.alone p b differs; table = λ b. refl; nothing = gone; task = refl; own = out; live = live; options = same ∙ S.options };
      file = (rests_like f new k.file K.forms.0 rests, reads);
      kept = keeps refl;
      still = calm;
      turned = turned;
    }

  -- a Cancel, a Close or another Prepare
  pub end_turned : (c : Command) (r : Reply) → EndsPrepared c r → IsSide f o owner ps (at c) k past s → KnowsFile f (at c) h k → MayTurn f table s (task_of (law_command c) 0)
      → ((b : ℕ) → table_of rs owner b ≡ 0) → OthersHold owner ps rs → RestsAt new k.file → (Some (prepared_records left) ≢ Some Write → new ≡ h) → Left c (law_reply r)
  end_turned Given.Cancel r is S K M gone others rests reads =
      let t = task_of (OnGroup Cancel) 0 in
      let q = number_of f k.file in
      let O = S.own.has.outer in
      subst (λ r. Left Given.Cancel (law_reply r)) (sym is)
      (over Given.Cancel S K gone others rests reads (group_still f Cancel s.own) (ended s.own) Law.Reply.Done refl S.live refl
      (end_is_own f table (image_map f k.file) q past past s (side_after s owner rs (ended s.own) None) s.own S.own.txn Cancel Law.Reply.Done O.has
      (cancel_ends f s.own S.own.txn q (past.numbers s.here) O.has O.outer) gone (begins f o table owner ps (at Given.Cancel) k past s t S refl M)
      (leaves past s t (Ends Law.Reply.Done) owner rs (ended s.own))))
  end_turned Given.Prepare r is S K M gone others rests reads =
      let t = task_of (OnGroup Prepare) 0 in
      let q = number_of f k.file in
      let O = S.own.has.outer in
      subst (λ r. Left Given.Prepare (law_reply r)) (sym is)
      (over Given.Prepare S K gone others rests reads (group_still f Prepare s.own) (ended s.own) Law.Reply.InTransaction refl S.live refl
      (end_is_own f table (image_map f k.file) q past past s (side_after s owner rs (ended s.own) None) s.own S.own.txn Prepare Law.Reply.InTransaction O.has
      (refusal_ends f s.own S.own.txn (OnGroup Prepare) IsPrepared q (past.numbers s.here) O.has O.outer tt
      (prepare_why f s.own S.own.txn (prepared_steps left) O.has S.own.has.prepared_is)) gone (begins f o table owner ps (at Given.Prepare) k past s t S refl M)
      (leaves past s t (Ends Law.Reply.InTransaction) owner rs (ended s.own))))
  end_turned Given.Close r is S K M gone others rests reads =
      let t = task_of (law_command Given.Close) 0 in
      subst (λ r. Left Given.Close (law_reply r)) (sym is)
      (over Given.Close S K gone others rests reads (close_still f s.own) (closed s.own) Law.Reply.Done refl refl refl
      (close_is_own f table (image_map f k.file) (number_of f k.file) past past s (side_after s owner rs (closed s.own) None) s.own S.own.txn S.own.has.outer.has gone
      (begins f o table owner ps (at Given.Close) k past s t S refl M) (leaves past s t (Ends Law.Reply.Done) owner rs (closed s.own))))
  end_turned _ r is S K M gone others rests reads = absurd is

-- a Commit where nothing is to be committed
pub nothing_turned : (f : Form) (o : Options) (table : ℕ → ℕ → ℕ) (owner : ℕ) (ps rs : List Piece) (changed : Bool) (h : History) (k : Known) (past : Past) (s : Side)
    → let stage = At.Prepared (Nothing changed) (Some Given.Commit) in let t = task_of (OnGroup Commit) 0 in
    IsSide f o owner ps stage k past s → KnowsFile f stage h k → MayTurn f table s t → ((b : ℕ) → table_of rs owner b ≡ 0) → OthersHold owner ps rs
    → StageTurned f o table owner rs stage None h h k past s t (Ends Law.Reply.Done)
nothing_turned f o table owner ps rs changed h k past s S K M gone others =
    let t = task_of (OnGroup Commit) 0 in
    let m = image_map f k.file in
    let q = number_of f k.file in
    let txn = S.own.txn in
    let O = S.own.has.outer in
    over f o table owner ps rs (Nothing changed) h h k past s Given.Commit S K gone others K.at.0 (λ only. refl) (group_still f Commit s.own) (ended s.own) Law.Reply.Done refl S.live refl
    (nothing_is_own f table m q (prepared_steps (Nothing changed)) past past s (side_after s owner rs (ended s.own) None) s.own txn O S.own.has.prepared_is (few_steps changed)
    (λ commits. (file_by f k s.own txn (past.numbers s.here) O.has S.own.has.map S.numbers 7 0 (Ends Law.Reply.Done)
    (λ ends change. K.at.1 (sym S.own.change ∙ changed_in _ _ _ change))).done refl commits) gone
    (begins f o table owner ps (At.Prepared (Nothing changed) (Some Given.Commit)) k past s t S refl M)
    (leaves past s t (Ends Law.Reply.Done) owner rs (ended s.own)))

-- the first turn of a Commit that writes is that of a Commit from its open gate on
module _ (f : Form) (o : Options) (table : ℕ → ℕ → ℕ) (owner : ℕ) (ps rs : List Piece) (state : Prepared) (h new : History) (k : Known) (past : Past) (s : Side) where
  abbrev given : Stage
  given = At.Prepared (Opened state) (Some Given.Commit)

  abbrev first : Stage
  first = At.Finishing (Open state)

  pub open_side : IsSide f o owner ps given k past s → IsSide f o owner ps first k past s
  open_side S = record {
    here = S.here;
    alone = S.alone;
    table = S.table;
    holds = S.holds;
    task = S.task;
    keeps = S.keeps;
    live = S.live;
    options = S.options;
    own = S.own;
    numbers = S.numbers;
    mark = tt;
  }

  pub open_known : KnowsFile f given h k → KnowsFile f first h k
  open_known K = record { at = (K.at.0, λ late. absurd (omega (arith, late))); forms = K.forms; reads = λ only. absurd (only refl) }

  side_left : (after : Option Stage) (known : Known) (later : Past) (z : Side) → IsLeft f o owner rs first after known later z → IsLeft f o owner rs given after known later z
  side_left None known later z L = L
  side_left (Some stage) known later z L = L

  open_left : (after : Option Stage) (known : Known) → KnowsLeft f first after h new known → KnowsLeft f given after h new known
  open_left None known L = L
  open_left (Some stage) known L = L

  pub open_turned : (after : Option Stage) (t : Task) (u : Law.Turn) → StageTurned f o table owner rs first after h new k past s t u → StageTurned f o table owner rs given after h new k past s t u
  open_turned after t u T = record { known = T.known; later = T.later; side = T.side; left = side_left after T.known T.later T.side T.left; file = open_left after T.known T.file; kept = T.kept; still = T.still; turned = T.turned }

-- a command that is refused
module _ (f : Form) (o : Options) (table : ℕ → ℕ → ℕ) (owner : ℕ) (ps : List Piece) (left : PreparedTxn) (c : Command) (h : History) (k : Known) (past : Past) (s : Side)
    (S : IsSide f o owner ps (At.Prepared left (Some c)) k past s) (K : KnowsFile f (At.Prepared left (Some c)) h k) (M : MayTurn f table s (task_of (law_command c) 0))
    (other : passes_prepared c ≡ false) (stays : IsEnd (law_command c) → ⊥) where
  abbrev t : Task
  t = task_of (law_command c) 0

  abbrev z : Side
  z = side_after s owner ps s.own None

  abbrev reply : Law.Reply
  reply = says s.own (prepared_why o c)

  why : refusal f (law_command c) s.own ≡ Some (prepared_why o c)
  why = why_prepared f o s.own S.own.txn (prepared_steps left) S.options S.own.has.outer.has S.own.has.prepared_is c other

  still : OwnTurned f table (image_map f k.file) (image_map f k.file) (number_of f k.file) (number_of f k.file) past past s (side_after s owner ps s.own None) (task_of (law_command c) 0)
      (Ends (says s.own (prepared_why o c)))
  still =
      inside_is_own f table (image_map f k.file) (number_of f k.file) (past.numbers s.here) past past s z s.own s.own S.own.txn (law_command c) reply S.own.has.outer.has
      (refuses_inside f s.own S.own.txn (law_command c) (prepared_why o c) (number_of f k.file) (past.numbers s.here) S.own.has.outer.has stays why)
      (record { in_table = M.in_table; holds = S.holds; goes_on = λ b. sym (S.table b) })
      (walk_shifts f (image_map f k.file) (image_map f k.file) s z s.own s.own (law_command c) 0 reply refl refl refl (ap (λ q. moves_by q (law_command c) s.own) why)
      (λ shown. still_shift f (Lost f (law_command c) 0 s.own (Ends reply) true s.mark) s.mark s.mark refl))
      (begins f o table owner ps (At.Prepared left (Some c)) k past s t S refl M) (leaves past s t (Ends reply) owner ps s.own)

  pub refused_turned : (r : Law.Reply) → r ≡ prepared_told o c → StageTurned f o table owner ps (At.Prepared left (Some c)) (Some (At.Prepared left None)) h h k past s (task_of (law_command c) 0) (Ends r)
  refused_turned r told =
      subst (λ r. StageTurned f o table owner ps (At.Prepared left (Some c)) (Some (At.Prepared left None)) h h k past s (task_of (law_command c) 0) (Ends r)) (told_prepared o c s.own ∙ sym told)
      (record {
        known = k;
        later = past;
        side = z;
        left = record {
          here = S.here;
          alone = S.alone;
          table = λ b. refl;
          holds = still.holds;
          task = refl;
          keeps = S.keeps;
          live = S.live;
          options = S.options;
          own = S.own;
          numbers = S.numbers;
          mark = tt;
        };
        file = record { at = K.at; forms = K.forms; reads = K.reads };
        kept = keeps refl;
        still = tt;
        turned = still;
      })
