-- A turn of an outer Prepare, as a turn of the opener aside.
use Rattle.std.proofs.Common.{◌≡◌, ℕ, ◌⊎◌, max, List, Bool, true, false, None, Some, refl, sym, ◌∙◌, ap, subst, inl, inr, arith}
use Rattle.std.specs.Prelude.{◌≢◌, ◌==◌, ◌&&◌, if◌then◌else◌}
use Rattle.tdb_disk.specs.History.{History, seen}
use Rattle.tdb_space.specs.Form.{Form}
use Rattle.tdb_locks.specs.declared.kind.Kind.{Kind}
use Rattle.tdb_locks.specs.declared.kind.Kind.TheVariants.{Read, Write}
use Rattle.tdb_locks.specs.declared.piece.Piece.{Piece}
use Rattle.tdb_law.specs.Commands.{Reply, Turn, is_done}
use Rattle.tdb_law.specs.Commands.Turn.{Ends}
use Rattle.tdb_law.specs.Commands.GroupCommand.{Commit, Prepare}
use Rattle.tdb_law.specs.Commands.Command.{OnGroup}
use Rattle.tdb_law.specs.Openers.{Own, Txn, ended, nowhere}
use Rattle.tdb_law.specs.Effects.{task_left}
use Rattle.tdb_law.specs.Held.{holding, locked}
use Rattle.tdb_law.specs.Images.{image_map}
use Rattle.tdb_law.specs.Refusals.{refusal}
use Rattle.tdb_law.specs.Rows.{commit_locks, plans_in}
use Rattle.tdb_txn_turns.specs.Commits.{RestsAt}
use Rattle.tdb_txn_turns.specs.Holding.{held_after, HoldsRow, RowTurned}
use Rattle.tdb_txn_turns.specs.Prepares.{prepare_row, prepare_steps, prepare_turn, start_held, stage_steps, KnowsStage, PrepareLeads, PrepareMade}
use Rattle.tdb_txn_turns.specs.Laws.{HasPlan, prepares}
use Rattle.tdb_txn_turns.proofs.Carried.{ready_rests}
use Rattle.tdb_txn_turns.proofs.Lawful.{commit_holds}
use Rattle.tdb_txn_turns.specs.declared.preparing.Preparing.{Preparing}
use Rattle.tdb_txn_turns.specs.declared.preparing.PrepareStage.{PrepareStage}
use Rattle.tdb_txn_turns.specs.declared.preparing.PrepareStage.TheVariants.{Unchanged, Begun, Records, Locked, Planned, Filled}
use Rattle.tdb_txn_turns.specs.declared.preparing.PrepareTurn.{PrepareTurn}
use Rattle.tdb_txn_turns.specs.declared.preparing.PrepareTurn.TheVariants as To
use Rattle.tdb_steps.specs.Turns.{number_of}
use Rattle.tdb_commands.specs.InLaw.{law_turn}
use Rattle.tdb_law.specs.OneAside.Sides.{Past, Side}
use Rattle.tdb_law.specs.OneAside.Own.{OwnTurned}
use Rattle.tdb_commands.specs.declared.options.Options.{Options}
use Rattle.tdb_txn_owner.specs.declared.stage.PreparedTxn.{PreparedTxn}
use Rattle.tdb_txn_owner.specs.declared.stage.PreparedTxn.TheVariants.{Opened, Nothing}
use Rattle.tdb_txn_owner.specs.declared.stage.Stage.TheVariants as At
use Rattle.tdb_txn_owner.specs.Ends.{task_of, prepared, IsBlocked, IsOuter, MarkRests}
use Rattle.tdb_txn_owner.specs.Stages.{plan_records, prepared_records, prepared_steps, was_changed, HasNumbers, HasOuter, Known, IsSide, KnowsFile}
use Rattle.tdb_txn_owner.specs.Turned.{MayTurn, StageTurned, RestsLike, keeps}
use Rattle.tdb_txn_owner.specs.Waits.{IsAlone, of_prepare}
use Rattle.tdb_txn_owner.specs.Wents.{has_changed, prepare_went}
use Rattle.tdb_txn_owner.proofs.Sided.{begins, leaves, same_txn, side_after}
use Rattle.tdb_txn_owner.proofs.Planned.{has_plan, planning_row}
use Rattle.tdb_txn_owner.proofs.PlanStages.{early_like, going_or_none, plan_goes, planned_writes}
use Rattle.tdb_txn_owner.proofs.Rows.{holds_at_first}
use Rattle.tdb_txn_owner.proofs.Turning.{group_still}
use Rattle.tdb_txn_owner.proofs.Waiting.{alone_goes}
use Rattle.tdb_txn_owner.proofs.PrepareTurns.{prepare_is_own}

-- the opener once its transaction is prepared
abbrev ready : Own → Txn → ℕ → Own
ready x txn n = record x { txn = Some (record txn { prepared = Some n }) }

-- its own state doesn't refuse the Commit, as it didn't refuse the Prepare
commit_granted : (f : Form) (x : Own) (txn : Txn) (n : ℕ) → IsOuter f x txn Prepare → txn.prepared ≡ None → refusal f (OnGroup Commit) (ready x txn n) ≡ None
unfolding refusal
commit_granted f x txn n O free = let has = O.has in let outer = O.outer in let before = O.granted in rw outer (rw (has, free, outer) at before)

-- where something was changed
has_change : (t : Txn) (s : PrepareStage) → t.depth ≡ 1 → t.prepared ≡ None → HasPlan t s → t.changed ≡ has_changed s
has_change t s outer free plan = by_stage s plan
  where
    with_true : (b : Bool) → (b && true) ≡ b
    with_true true = refl
    with_true false = refl

    changed : t.changed ≡ plans_in t
    changed = rw (outer, free) (sym (with_true t.changed))

    by_stage : (s : PrepareStage) → HasPlan t s → t.changed ≡ has_changed s
    by_stage Unchanged plan = changed ∙ plan
    by_stage (Begun txn) plan = changed ∙ plan
    by_stage (Records txn) plan = changed ∙ plan
    by_stage (Locked txn) plan = changed ∙ plan
    by_stage (Planned state) plan = changed ∙ plan
    by_stage (Filled state) plan = changed ∙ plan

-- what a Prepare that found nothing knows
nothing_steps : (s : PrepareStage) → (s ≡ Unchanged) ⊎ (stage_steps s ≡ 2) → prepared_steps (Nothing (has_changed s)) ≡ stage_steps s
nothing_steps s (inl none) = rw none refl
nothing_steps s (inr third) = by_stage s third
  where
    by_stage : (s : PrepareStage) → stage_steps s ≡ 2 → prepared_steps (Nothing (has_changed s)) ≡ stage_steps s
    by_stage Unchanged third = refl
    by_stage (Begun txn) third = sym third
    by_stage (Records txn) third = sym third
    by_stage (Locked txn) third = refl
    by_stage (Planned state) third = sym third
    by_stage (Filled state) third = sym third

nothing_rests : (s : PrepareStage) (h : History) (r b : List ℕ) → (s ≡ Unchanged) ⊎ (stage_steps s ≡ 2) → KnowsStage s h r b → RestsAt h r
nothing_rests s h r b (inl none) K = subst (λ stage. KnowsStage stage h r b) none K
nothing_rests s h r b (inr third) K = by_stage s third K
  where
    by_stage : (s : PrepareStage) → stage_steps s ≡ 2 → KnowsStage s h r b → RestsAt h r
    by_stage Unchanged third K = K
    by_stage (Begun txn) third K = ready_rests txn h r b K
    by_stage (Records txn) third K = ready_rests txn h r b K
    by_stage (Locked txn) third K = ready_rests txn h r b K
    by_stage (Planned state) third K = absurd (omega (arith, third))
    by_stage (Filled state) third K = absurd (omega (arith, third))

nothing_changed : (s : PrepareStage) → (s ≡ Unchanged) ⊎ (stage_steps s ≡ 2) → has_changed s ≡ true → stage_steps s ≡ 2
nothing_changed s (inl none) changed = absurd (let e : false ≡ true = ap has_changed (sym none) ∙ changed in cc)
nothing_changed s (inr third) changed = third

-- where something was changed all records are held for writing
third_writes : (s : PrepareStage) → stage_steps s ≡ 2 → prepared_records (Nothing (has_changed s)) ≡ Write
third_writes Unchanged third = absurd (omega (arith, third))
third_writes (Begun txn) third = refl
third_writes (Records txn) third = refl
third_writes (Locked txn) third = refl
third_writes (Planned state) third = refl
third_writes (Filled state) third = refl

-- where nothing was changed others may still read the file, which stays
nothing_reads : (s : PrepareStage) {h new : History} {r : List ℕ} → (s ≡ Unchanged) ⊎ (stage_steps s ≡ 2) → new ≡ h → (Some (plan_records s) ≢ Some Write → seen h ≡ r)
    → Some (prepared_records (Nothing (has_changed s))) ≢ Some Write → seen new ≡ r
nothing_reads s (inl none) same reads only = ap seen same ∙ reads (λ write. absurd (let e = ap (λ u. Some (plan_records u)) (sym none) ∙ write in cc e))
nothing_reads s (inr third) same reads only = absurd (only (ap Some (third_writes s third)))

late_changed : (s : PrepareStage) → stage_steps s ≡ 4 → has_changed s ≡ true
late_changed Unchanged late = absurd (omega (arith, late))
late_changed (Begun txn) late = refl
late_changed (Records txn) late = refl
late_changed (Locked txn) late = refl
late_changed (Planned state) late = refl
late_changed (Filled state) late = refl

module _ (f : Form) (o : Options) (table : ℕ → ℕ → ℕ) (owner : ℕ) (ps rs : List Piece) (p : Preparing) (h new : History) (k : Known) (past : Past) (s : Side)
    (S : IsSide f o owner ps (At.Preparing p) k past s) (K : KnowsFile f (At.Preparing p) h k) (M : MayTurn f table s (task_of (OnGroup Prepare) (prepare_steps p))) where
  abbrev txn : Txn
  txn = S.own.txn

  abbrev steps : ℕ
  steps = prepare_steps p

  abbrev Locks : PrepareTurn → Type 0
  Locks turn = HoldsRow (prepare_row p) start_held owner (prepare_steps p) ps → RowTurned true (prepare_row p) start_held owner (prepare_steps p) ps rs (prepare_turn turn)

  abbrev Goal : PrepareTurn → Type 0
  Goal turn = let went = prepare_went (has_changed p.stage) turn in StageTurned f o table owner rs (At.Preparing p) went.stage h new k past s (task_of (OnGroup Prepare) (prepare_steps p)) (law_turn went.turn)

  holds_row : HoldsRow (prepare_row p) start_held owner steps ps
  holds_row b = sym (S.table b) ∙ S.holds b ∙ ap (λ task. holding f s.own nowhere task b) S.task ∙ elim (going_or_none p.stage) [
    | inl some ↦
        (commit_holds f s.own txn nowhere s.view Prepare steps b prepares S.own.has.outer.granted S.own.has.outer.has (has_plan txn p.stage some S.own.plan)).0
        ∙ ap (λ row. max (locked row steps b) (start_held b)) (sym (planning_row p.stage p.numbered some ∙ ap commit_locks S.own.numbered))
    | inr none ↦
        ap (λ n. holding f s.own nowhere (Some (task_of (OnGroup Prepare) n)) b) none.0
        ∙ holds_at_first f s.own txn Prepare b S.own.has.outer.has S.own.has.prepared_is
        ∙ (let e = ap (λ row. locked row steps b) (none.1 p.numbered) in omega (arith, e))
  ]

  module _ (turn : PrepareTurn) (locks : Locks turn) where
    row_turned : RowTurned true (prepare_row p) start_held owner steps ps rs (prepare_turn turn)
    row_turned = locks holds_row

    alone : (IsBlocked (prepare_turn turn) → ⊥) × IsAlone owner rs
    alone = alone_goes true (prepare_row p) start_held owner steps ps rs (prepare_turn turn) (of_prepare p) S.alone row_turned

    abbrev own_after : Own
    own_after = prepared (prepare_turn turn) s.own S.own.txn (prepare_steps p)

    abbrev later : Side
    later = side_after s owner rs (prepared (prepare_turn turn) s.own S.own.txn (prepare_steps p)) (task_left (OnGroup Prepare) (prepare_steps p) (prepare_turn turn))

    own_turned : PrepareLeads p turn → OwnTurned f table (image_map f k.file) (image_map f k.file) (number_of f k.file) (number_of f k.file) past past s later (task_of (OnGroup Prepare) (prepare_steps p)) (prepare_turn turn)
    own_turned leads =
        prepare_is_own f table (image_map f k.file) (number_of f k.file) owner past past s later s.own txn p turn ps rs
        S.own.has.outer alone.0 S.own.plan S.own.numbered leads row_turned (λ b. refl)
        (begins f o table owner ps (At.Preparing p) k past s (task_of (OnGroup Prepare) steps) S refl M)
        (leaves past s (task_of (OnGroup Prepare) steps) (prepare_turn turn) owner rs own_after)
        (rests (prepare_turn turn))
      where
        rests : (u : Turn) → MarkRests own_after u s.mark s.mark
        rests Turn.Step = refl
        rests (Turn.Blocked other byte) = refl
        rests (Ends r) = λ some. refl

  -- a step leads to the next stage
  stepped : (next : Preparing) → Locks (To.Step next) → PrepareLeads p (To.Step next) → PrepareMade k.file k.image h new p (To.Step next) → Goal (To.Step next)
  stepped next locks leads made = record {
    known = k;
    later = past;
    side = later (To.Step next) locks;
    left = record {
      here = S.here;
      alone = (alone (To.Step next) locks).1;
      table = λ byte. refl;
      holds = (own_turned (To.Step next) locks leads).holds;
      task = ap (λ n. Some (task_of (OnGroup Prepare) n)) (sym leads.2);
      keeps = S.keeps;
      live = S.live;
      options = S.options;
      own = record { txn = txn; has = S.own.has; plan = plan_goes txn next.stage leads.1 (has_plan txn p.stage leads.0 S.own.plan); numbered = leads.3 ∙ S.own.numbered };
      numbers = S.numbers;
      mark = tt;
    };
    file = record { at = made; forms = K.forms; reads = λ only. absurd (only (ap Some (planned_writes next.stage leads.1 (let more = leads.2 in omega (arith, more))))) };
    kept = keeps refl;
    still = tt;
    turned = own_turned (To.Step next) locks leads;
  }

  -- its end leaves a prepared transaction
  with_steps : (n : ℕ) → HasOuter f k.image Commit (Some n) (record txn { prepared = Some n }) (ready s.own txn n)
  with_steps n = record { outer = record { has = refl; outer = S.own.has.outer.outer; granted = commit_granted f s.own txn n S.own.has.outer S.own.has.prepared_is }; map = S.own.has.map; prepared_is = refl }

  numbers_after : (n : ℕ) → HasNumbers f k (past.numbers s.here) (ready s.own txn n)
  numbers_after n = record {
    image = λ t has. S.numbers.image txn S.own.has.outer.has;
    still = λ t has counts. S.numbers.still txn S.own.has.outer.has (ap (λ u. u.numbered) (same_txn (record txn { prepared = Some n }) t has) ∙ counts);
  }

  abbrev is_ready : Side
  is_ready = side_after s owner rs (ready s.own S.own.txn (prepare_steps p)) None

  readied : (left : PreparedTxn) → IsAlone owner rs
      → OwnTurned f table (image_map f k.file) (image_map f k.file) (number_of f k.file) (number_of f k.file) past past s is_ready (task_of (OnGroup Prepare) (prepare_steps p)) (Ends Reply.Done)
      → prepared_steps left ≡ prepare_steps p → was_changed left ≡ has_changed p.stage → IsSide f o owner rs (At.Prepared left None) k past is_ready
  readied left by_itself T same changed = record {
    here = S.here;
    alone = by_itself;
    table = λ byte. refl;
    holds = T.holds;
    task = refl;
    keeps = S.keeps;
    live = S.live;
    options = S.options;
    own = record {
      txn = record txn { prepared = Some steps };
      has = subst (λ n. HasOuter f k.image Commit (Some n) (record txn { prepared = Some steps }) (ready s.own txn steps)) (sym same) (with_steps steps);
      change = has_change txn p.stage S.own.has.outer.outer S.own.has.prepared_is S.own.plan ∙ sym changed;
    };
    numbers = numbers_after steps;
    mark = tt;
  }

  -- one without room or memory ends the transaction
  over : (turn : PrepareTurn) (locks : Locks turn) (r : Reply) → prepare_turn turn ≡ Ends r → is_done r ≡ false → PrepareLeads p turn → prepared (Ends r) s.own S.own.txn (prepare_steps p) ≡ ended s.own → new ≡ h → RestsLike f new k.file
      → StageTurned f o table owner rs (At.Preparing p) None h new k past s (task_of (OnGroup Prepare) (prepare_steps p)) (Ends r)
  over turn locks r ends undone leads gone same like = record {
    known = k;
    later = past;
    side = later turn locks;
    left = record {
      here = S.here;
      alone = (alone turn locks).1;
      table = λ b. refl;
      nothing = λ b. (row_turned turn locks).holds b ∙ ap (λ u. held_after true (prepare_row p) start_held steps u b) ends ∙ ap (λ done. if done then max (locked (prepare_row p) steps b) (start_held b) else 0) undone;
      task = ap (task_left (OnGroup Prepare) steps) ends;
      own = let is = ap (λ u. prepared u s.own txn steps) ends ∙ gone in ap ended is ∙ sym is;
      live = ap (λ x. x.live) (ap (λ u. prepared u s.own txn steps) ends ∙ gone) ∙ S.live;
      options = ap (λ x. x.options) (ap (λ u. prepared u s.own txn steps) ends ∙ gone) ∙ S.options;
    };
    file = (like, λ reads. same);
    kept = keeps refl;
    still = group_still f Prepare s.own;
    turned = subst (λ u. OwnTurned f table (image_map f k.file) (image_map f k.file) (number_of f k.file) (number_of f k.file) past past s (later turn locks) (task_of (OnGroup Prepare) (prepare_steps p)) u) ends (own_turned turn locks leads);
  }

  planning_before : prepare_steps p ≡ 2 → RestsLike f h k.file
  planning_before third = elim (going_or_none p.stage) [
    | inl some ↦ early_like f p.stage h k.file k.image K.forms.0 some (omega (arith, third)) K.at
    | inr none ↦ absurd (let first = none.0 in omega (arith, third, first))
  ]

  pub prepare_turned : (turn : PrepareTurn) → Locks turn → PrepareLeads p turn → PrepareMade k.file k.image h new p turn → Goal turn
  prepare_turned (To.Step next) locks leads made = stepped next locks leads made
  prepare_turned (To.Blocked other byte again) locks leads made = absurd ((alone (To.Blocked other byte again) locks).0 tt)
  prepare_turned To.Nothing locks leads made =
      let T = own_turned To.Nothing locks leads in
      record {
        known = k;
        later = past;
        side = is_ready;
        left = readied (Nothing (has_changed p.stage)) (alone To.Nothing locks).1 T (nothing_steps p.stage leads) refl;
        file = record {
          at = (subst (λ d. RestsAt d k.file) (sym made.0) (nothing_rests p.stage h k.file k.image leads K.at), λ changed. made.1 (nothing_changed p.stage leads changed));
          forms = K.forms;
          reads = nothing_reads p.stage leads made.0 K.reads;
        };
        kept = keeps refl;
        still = tt;
        turned = T;
      }
  prepare_turned (To.Full len need) locks leads made =
      over (To.Full len need) locks (Reply.Full len need) refl refl leads refl made (subst (λ d. RestsLike f d k.file) (sym made) (planning_before leads))
  prepare_turned To.Memory locks leads made =
      over To.Memory locks Reply.Memory refl refl leads refl made
      (subst (λ d. RestsLike f d k.file) (sym made) (early_like f p.stage h k.file k.image K.forms.0 leads.0 (let early = leads.1 in omega (arith, early)) K.at))
  prepare_turned (To.Done state) locks leads made =
      let T = own_turned (To.Done state) locks leads in
      record {
        known = k;
        later = past;
        side = is_ready;
        left = readied (Opened state) (alone (To.Done state) locks).1 T (sym leads) (sym (late_changed p.stage leads));
        file = record { at = (made, tt); forms = K.forms; reads = λ only. absurd (only refl) };
        kept = keeps refl;
        still = tt;
        turned = T;
      }
