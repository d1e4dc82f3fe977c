-- The turns of a Prepare are turns of the opener aside.
use Rattle.std.proofs.Common.{◌≡◌, ℕ, List, ◌+◌, max, Bool, true, false, Some, refl, sym, ap, ◌∙◌, subst, arith}
use Rattle.std.specs.Prelude.{is_none}
use Rattle.tdb_space.specs.Form.{Form}
use Rattle.tdb_locks.specs.declared.piece.Piece.{Piece}
use Rattle.tdb_law.specs.Commands.{Reply}
use Rattle.tdb_law.specs.Ends.{IsRow}
use Rattle.tdb_law.specs.Commands.GroupCommand.{Prepare}
use Rattle.tdb_law.specs.Commands.Command.{OnGroup}
use Rattle.tdb_law.specs.Commands.Turn.{Step, Ends}
use Rattle.tdb_law.specs.Openers.{Map, Own, Txn, nowhere}
use Rattle.tdb_law.specs.Held.{locked}
use Rattle.tdb_law.specs.Rows.{commit_locks, plans_in}
use Rattle.tdb_steps.specs.Holdings.{table_of}
use Rattle.tdb_txn_turns.specs.Prepares.{prepare_row, prepare_steps, row_of, start_held, stage_steps}
use Rattle.tdb_txn_turns.specs.Laws.{HasPlan, prepares}
use Rattle.tdb_txn_turns.specs.declared.preparing.Preparing.{Preparing}
use Rattle.tdb_txn_turns.specs.declared.preparing.PrepareStage.{PrepareStage}
use Rattle.tdb_txn_turns.specs.declared.preparing.PrepareStage.TheVariants.{Unchanged, Begun, Records, Locked, Planned, Filled}
use Rattle.tdb_txn_turns.specs.declared.preparing.PrepareTurn.TheVariants.{Step as Steps, Blocked, Nothing, Full, Memory, Done}
use Rattle.tdb_txn_turns.proofs.Lawful.{commit_holds, prepare_keeps, prepare_row_law}
use Rattle.tdb_txn_turns.proofs.CommitTurns.{late_planning}
use Rattle.tdb_law.specs.OneAside.Own.{OwnTurned}
use Rattle.tdb_law.specs.OneAside.Sides.{Past, Side}
use Rattle.tdb_txn_owner.specs.Ends.{PrepareIsOwn, HoldsIn, IsOuter, MarkRests, TurnBegins, TurnLeaves, task_of}
use Rattle.tdb_txn_owner.proofs.GroupCounts.{step_settles, end_settles, step_counts, end_counts, image_kept, prepares as no_commit}
use Rattle.tdb_txn_owner.proofs.GroupEffects.{prepare_goes_on, prepare_starves, prepare_full, prepare_answers}
use Rattle.tdb_txn_owner.proofs.Ending.{ended_turned}
use Rattle.tdb_txn_owner.proofs.Planned.{has_plan, planning_row}
use Rattle.tdb_txn_owner.proofs.Turning.{still_turned, group_still}

-- what a Prepare that takes no lock has locked of its row, is what the row of a commit has then
locked_alike : (s : PrepareStage) (numbered : Bool) (b : ℕ) → locked (row_of s numbered) (stage_steps s) b ≡ locked (commit_locks numbered) (stage_steps s) b
locked_alike Unchanged true b = refl
locked_alike Unchanged false b = refl
locked_alike (Begun txn) numbered b = refl
locked_alike (Records txn) numbered b = refl
locked_alike (Locked txn) numbered b = refl
locked_alike (Planned state) numbered b = refl
locked_alike (Filled state) numbered b = refl

-- one that has nothing to plan has had no step
bare_steps : (t : Txn) (s : PrepareStage) → HasPlan t s → plans_in t ≡ false → stage_steps s ≡ 0
bare_steps t Unchanged plan none = refl
bare_steps t (Begun txn) plan none = refl
bare_steps t (Records txn) plan none = absurd (let e : true ≡ false = sym plan ∙ none in cc)
bare_steps t (Locked txn) plan none = absurd (let e : true ≡ false = sym plan ∙ none in cc)
bare_steps t (Planned state) plan none = absurd (let e : true ≡ false = sym plan ∙ none in cc)
bare_steps t (Filled state) plan none = absurd (let e : true ≡ false = sym plan ∙ none in cc)

-- one that is done, whether it found something or not
module _ (f : Form) (table : ℕ → ℕ → ℕ) (m : Map) (q owner : ℕ) (old new : Past) (s z : Side) (x : Own) (txn : Txn) (p : Preparing) (rs : List Piece) (O : IsOuter f x txn Prepare) (plan : HasPlan txn p.stage)
    (numbered : p.numbered ≡ txn.numbered) (row : IsRow f (OnGroup Prepare) x (prepare_steps p) (Ends Reply.Done))
    (holds : (b : ℕ) → table_of rs owner b ≡ max (locked (prepare_row p) (prepare_steps p) b) (start_held b)) (H : HoldsIn rs owner z) where
  abbrev left : Own
  left = record x { txn = Some (record txn { prepared = Some (prepare_steps p) }) }

  prepared_turned : TurnBegins f table s x (task_of (OnGroup Prepare) (prepare_steps p)) → TurnLeaves old new s z (task_of (OnGroup Prepare) (prepare_steps p)) (Ends Reply.Done) left old.settled (old.numbers s.here)
      → MarkRests left (Ends Reply.Done) s.mark z.mark → OwnTurned f table m m q q old new s z (task_of (OnGroup Prepare) (prepare_steps p)) (Ends Reply.Done)
  prepared_turned B L M =
      still_turned f table m m q q old new s z x left (task_of (OnGroup Prepare) (prepare_steps p)) (Ends Reply.Done) old.settled (old.numbers s.here) B L (group_still f Prepare x) M
      row (prepare_answers f x txn m O (prepare_steps p) (bare_steps txn p.stage plan))
      (λ b. let e = H b in let held = holds b in let alike = locked_alike p.stage p.numbered b in
      let counted = ap (λ k. locked (commit_locks k) (prepare_steps p) b) numbered in let same = prepare_keeps f x txn nowhere (prepare_steps p) b in omega (arith, e, held, alike, counted, same))
      (sym (end_settles f x (ap is_none O.has) (OnGroup Prepare) (prepare_steps p) Reply.Done old.settled)) (sym (end_counts f x Prepare no_commit Reply.Done q (old.numbers s.here)))
      (sym (image_kept f x (ap is_none O.has) Prepare Reply.Done q (old.numbers s.here)))

pub prepare_is_own : PrepareIsOwn
prepare_is_own f table m q owner old new s z x txn p (Steps next) ps rs O unblocked plan numbered leads R H B L M =
    still_turned f table m m q q old new s z x x (task_of (OnGroup Prepare) (prepare_steps p)) Step old.settled (old.numbers s.here) B L (group_still f Prepare x) M
    (prepare_row_law f x txn p (Steps next) O.granted O.has plan leads) (prepare_goes_on f x txn m O (prepare_steps p))
    (λ b. let e = H b in let held = subst (λ l. table_of rs owner b ≡ max (locked l (prepare_steps p + 1) b) (start_held b)) (planning_row p.stage p.numbered leads.0 ∙ ap commit_locks numbered) (R.holds b) in
    let same = (commit_holds f x txn nowhere s.view Prepare (prepare_steps p + 1) b prepares O.granted O.has (has_plan txn p.stage leads.0 plan)).0 in omega (arith, e, held, same))
    (sym (step_settles f Prepare x (prepare_steps p) old.settled)) (sym (step_counts f x Prepare no_commit (prepare_steps p) q (old.numbers s.here))) refl
prepare_is_own f table m q owner old new s z x txn p (Blocked o byte again) ps rs O unblocked plan numbered leads R H B L M = absurd (unblocked tt)
prepare_is_own f table m q owner old new s z x txn p Nothing ps rs O unblocked plan numbered leads R H B L M =
    prepared_turned f table m q owner old new s z x txn p rs O plan numbered (prepare_row_law f x txn p Nothing O.granted O.has plan leads) R.holds H B L M
prepare_is_own f table m q owner old new s z x txn p (Full len need) ps rs O unblocked plan numbered leads R H B L M =
    ended_turned f table m m q q old new s z x txn Prepare (prepare_steps p) (Reply.Full len need) O.has B L (prepare_row_law f x txn p (Full len need) O.granted O.has plan leads)
    (prepare_full f x txn m O (prepare_steps p) len need (has_plan txn p.stage (late_planning p.stage (omega (arith, leads))) plan)) (λ b. H b ∙ R.holds b) refl
prepare_is_own f table m q owner old new s z x txn p Memory ps rs O unblocked plan numbered leads R H B L M =
    ended_turned f table m m q q old new s z x txn Prepare (prepare_steps p) Reply.Memory O.has B L (prepare_row_law f x txn p Memory O.granted O.has plan leads)
    (prepare_starves f x txn m O (prepare_steps p) (has_plan txn p.stage leads.0 plan)) (λ b. H b ∙ R.holds b) refl
prepare_is_own f table m q owner old new s z x txn p (Done state) ps rs O unblocked plan numbered leads R H B L M =
    prepared_turned f table m q owner old new s z x txn p rs O plan numbered (prepare_row_law f x txn p (Done state) O.granted O.has plan leads) R.holds H B L M
