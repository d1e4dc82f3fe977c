-- The turn that plans a commit ends with Full exactly where the plan has no room, and no other turn does.
use Rattle.std.proofs.Common.{◌≡◌, ℕ, ◌+◌, ◌<◌, ◌⊎◌, List, Bool, Err, refl, sym, ◌∙◌, ap, subst, inl, inr, arith}
use Rattle.tdb_disk.specs.History.{History}
use Rattle.tdb_words.specs.Word.{word}
use Rattle.tdb_space.specs.Extents.{Extent}
use Rattle.tdb_space.specs.Form.{form_of}
use Rattle.tdb_space.specs.Planned.{content_length}
use Rattle.tdb_space.specs.Runs.{ChangedRuns}
use Rattle.tdb_space.proofs.Runs.Stretches.{runs_one}
use Rattle.tdb_law.specs.Commands.{Turn}
use Rattle.tdb_law.specs.Commands.Reply.{Done, Full, Memory}
use Rattle.tdb_law.specs.Commands.Turn.{Step, Blocked, Ends}
use Rattle.tdb_txn.specs.Answered.{AnsweredRightly, ChangesNothing, StarvesRightly, WantsArea, first, other, PlannedFor, keeps, places}
use Rattle.tdb_txn.specs.AreaRoom.{new_area_length}
use Rattle.tdb_txn.specs.Committing.{MayKeep}
use Rattle.tdb_txn.specs.Txn.{txn_image, txn_start}
use Rattle.tdb_txn.specs.declared.planned.Plan.{Plan}
use Rattle.tdb_txn.specs.declared.refusal.TxnRefusal.TheVariants as TxnRefusal
use Rattle.tdb_txn.specs.declared.txn.Txn.{Txn}
use Rattle.tdb_txn_turns.specs.Committings.{commit_after, commit_turn}
use Rattle.tdb_txn_turns.specs.Prepares.{at_stage, prepare_turn, stage_steps, PrepareLeads}
use Rattle.tdb_txn_turns.specs.Room.{FullAsPlanned, HasNoArea, NeverFull, NoneFits, PrepareFull}
use Rattle.tdb_txn_turns.specs.declared.preparing.PrepareStage.{PrepareStage}
use Rattle.tdb_txn_turns.specs.declared.preparing.PrepareStage.TheVariants.{Unchanged, Begun, Records, Locked, Planned, Filled}
use Rattle.tdb_txn_turns.specs.declared.preparing.PrepareTurn.{PrepareTurn}
use Rattle.tdb_txn_turns.specs.declared.preparing.PrepareTurn.TheVariants as To

-- a turn that is no end with Full
pub never : (turn : Turn) → ((len need : ℕ) → turn ≡ Ends (Full len need) → ⊥) → NeverFull turn
never turn not = record { only = not; always = λ len need N. absurd N }

pub never_step : NeverFull Step
never_step = never Step (λ len need e. cc e)

pub never_done : NeverFull (Ends Done)
never_done = never (Ends Done) (λ len need e. cc e)

module _ (txn : Txn) (limit : ℕ) (r : List ℕ) where
  -- where the undo area may be kept no new one is wanted
  kept_not : (x b : List ℕ) (runs : List Extent) (e : Extent) (es : List Extent) → WantsArea txn r x b runs → MayKeep txn r e es → ⊥
  kept_not x b runs e es (first absent same is changed) K = K.there.some absent
  kept_not x b runs e es (other d too_much has changed short replaced) K =
      let same : d ≡ e = has.extent ∙ sym K.there.extent in
      let one : too_much ≡ es = runs_one r (txn_image txn r) (txn_start txn) e too_much es (subst (λ (z : Extent). ChangedRuns r (txn_image txn r) (txn_start txn) z too_much) same changed) K.changed in
      omega (arith, short, K.fits, ap (λ (z : Extent). z.1) same, ap content_length one)

  -- where no new one fits, and one is wanted, no plan is ready
  ready_not : (x b : List ℕ) (runs : List Extent) (h : History) (plan : Plan) → WantsArea txn r x b runs → NoneFits txn limit r → PlannedFor txn limit r h plan → ⊥
  ready_not x b runs h plan W none (keeps e keep state) = kept_not x b runs e plan.runs W keep
  ready_not x b runs h plan W none (places y c wants long room state) = omega (arith, none y c plan.runs wants, long, room)

  -- where the file has no undo area the one that is wanted has one content
  one_first : (x b y c : List ℕ) (es fs : List Extent) → word (form_of r).order r 44 ≡ 0 → WantsArea txn r x b es → WantsArea txn r y c fs → es ≡ fs
  one_first x b y c es fs absent (first zero same is changed) (first none like so others) = runs_one r (txn_image txn r) (txn_start txn) (0, 0) es fs changed others
  one_first x b y c es fs absent (first zero same is changed) (other e too_much has others short replaced) = absurd (has.some absent)
  one_first x b y c es fs absent (other e too_much has changed short replaced) W = absurd (has.some absent)

  first_length : (len need : ℕ) (y c : List ℕ) (fs : List Extent) → word (form_of r).order r 44 ≡ 0 → HasNoArea txn limit r len need → WantsArea txn r y c fs → new_area_length (content_length fs) ≡ need
  first_length len need y c fs absent N W =
      ap (λ es. new_area_length (content_length es)) (one_first y c N.area.x N.area.b fs N.area.runs absent W N.area.wants) ∙ sym N.area.need_is

  none_fits : (len need : ℕ) → word (form_of r).order r 44 ≡ 0 → HasNoArea txn limit r len need → NoneFits txn limit r
  none_fits len need absent N y c fs W = omega (arith, N.area.past, N.area.len_is, first_length len need y c fs absent N W)

  module _ (turn : Turn) (only : (len need : ℕ) → turn ≡ Ends (Full len need) → HasNoArea txn limit r len need) (starved : turn ≡ Ends Memory → StarvesRightly txn limit r)
      (always : (len need : ℕ) → HasNoArea txn limit r len need → NoneFits txn limit r → ((l : ℕ) × (n : ℕ) × (turn ≡ Ends (Full l n))) ⊎ (turn ≡ Ends Memory)) where
    pub as_planned : FullAsPlanned txn limit r turn
    as_planned = record {
      only = only;
      always = always;
      first = λ len need N absent. elim (always len need N (none_fits len need absent N)) [
        | inl full ↦
            let M = only full.0 full.1 full.2 in
            let same : full.0 ≡ len = M.area.len_is ∙ sym N.area.len_is in
            let more : full.1 ≡ need = M.area.need_is ∙ first_length len need M.area.x M.area.b M.area.runs absent N M.area.wants in
            subst (λ l. turn ≡ Ends (Full l need)) same (subst (λ n. turn ≡ Ends (Full full.0 n)) more full.2)
        | inr starves ↦ absurd ((starved starves).room len need absent N.area)
      ];
    }

  pub planned_nothing : ChangesNothing txn r → FullAsPlanned txn limit r (Ends Done)
  planned_nothing nothing = as_planned (Ends Done) (λ len need e. absurd (cc e)) (λ e. absurd (cc e)) (λ len need N none. absurd (N.changes nothing))

  pub planned_ready : (h : History) (plan : Plan) → PlannedFor txn limit r h plan → FullAsPlanned txn limit r Step
  planned_ready h plan P = as_planned Step (λ len need e. absurd (cc e)) (λ e. absurd (cc e)) (λ len need N none. absurd (ready_not N.area.x N.area.b N.area.runs h plan N.area.wants none P))

  pub planned_full : (h : History) (len need : ℕ) → AnsweredRightly txn limit r h (Err (TxnRefusal.Full len need)) → FullAsPlanned txn limit r (Ends (Full len need))
  planned_full h len need A = as_planned (Ends (Full len need))
      (λ l n e.
      let here : len ≡ l = cc in
      let more : need ≡ n = cc in
      subst (λ z. HasNoArea txn limit r z n) here (subst (HasNoArea txn limit r len) more (record { changes = A.0; area = A.1 })))
      (λ e. absurd (cc e))
      (λ l n N none. inl (len, need, refl))

  pub planned_memory : StarvesRightly txn limit r → FullAsPlanned txn limit r (Ends Memory)
  planned_memory S = as_planned (Ends Memory) (λ len need e. absurd (cc e)) (λ e. S) (λ len need N none. inr refl)

-- a turn of a Prepare that doesn't plan never ends with Full
early_never : (numbered : Bool) (s : PrepareStage) (turn : PrepareTurn) → PrepareLeads (at_stage numbered s) turn → (stage_steps s ≡ 2 → ⊥) → NeverFull (prepare_turn turn)
early_never numbered s (To.Step next) leads early = never_step
early_never numbered s (To.Blocked owner byte again) leads early = never (Blocked owner byte) (λ len need e. cc e)
early_never numbered s To.Nothing leads early = never_done
early_never numbered s (To.Full len need) leads early = absurd (early leads)
early_never numbered s To.Memory leads early = never (Ends Memory) (λ len need e. cc e)
early_never numbered s (To.Done state) leads early = never_done

pub early_full : (numbered : Bool) (s : PrepareStage) (limit : ℕ) (r : List ℕ) (turn : PrepareTurn) → PrepareLeads (at_stage numbered s) turn → (stage_steps s ≡ 2 → ⊥) → PrepareFull s limit r (prepare_turn turn)
early_full numbered Unchanged limit r turn leads early = early_never numbered Unchanged turn leads early
early_full numbered (Begun txn) limit r turn leads early = early_never numbered (Begun txn) turn leads early
early_full numbered (Records txn) limit r turn leads early = early_never numbered (Records txn) turn leads early
early_full numbered (Locked txn) limit r turn leads early = absurd (early refl)
early_full numbered (Planned state) limit r turn leads early = early_never numbered (Planned state) turn leads early
early_full numbered (Filled state) limit r turn leads early = early_never numbered (Filled state) turn leads early

-- what is so of a turn that ends with neither Full nor Memory is so of each other one that doesn't end with Full
module _ (limit : ℕ) (r : List ℕ) (u v : Turn) (fits : (len need : ℕ) → u ≡ Ends (Full len need) → ⊥) (has : u ≡ Ends Memory → ⊥) (not : (len need : ℕ) → v ≡ Ends (Full len need) → ⊥) (goes : v ≡ Ends Memory → ⊥) where
  pub other_turn : (s : PrepareStage) → PrepareFull s limit r u → PrepareFull s limit r v
  other_turn Unchanged F = never v not
  other_turn (Begun txn) F = never v not
  other_turn (Records txn) F = never v not
  other_turn (Locked txn) F = as_planned txn limit r v (λ len need e. absurd (not len need e)) (λ e. absurd (goes e))
      (λ len need N none. elim (F.always len need N none) [ inl full ↦ absurd (fits full.0 full.1 full.2) | inr starves ↦ absurd (has starves) ])
  other_turn (Planned state) F = never v not
  other_turn (Filled state) F = never v not

-- the turn that opens the gate ends a Prepare, and is a step of a Commit
pub commit_full : (s : PrepareStage) (limit : ℕ) (r : List ℕ) (turn : PrepareTurn) → PrepareFull s limit r (prepare_turn turn) → PrepareFull s limit r (commit_turn (commit_after turn))
commit_full s limit r (To.Step next) F = F
commit_full s limit r (To.Blocked owner byte again) F = F
commit_full s limit r To.Nothing F = F
commit_full s limit r (To.Full len need) F = F
commit_full s limit r To.Memory F = F
commit_full s limit r (To.Done state) F = other_turn limit r (Ends Done) Step (λ len need e. cc e) (λ e. cc e) (λ len need e. cc e) (λ e. cc e) s F
