-- When a turn of the opener aside is blocked.
use Rattle.std.proofs.Common.{ℕ, ◌≤◌, max, Bool, true, false, List, [], ◌∷◌, refl, sym, ap, ◌∙◌, ◌==◌, arith}
use Rattle.std.specs.Prelude.{if◌then◌else◌, ◌&&◌}
use Rattle.tdb_law.specs.Commands.Turn.{Step, Blocked, Ends}
use Rattle.tdb_law.specs.Rows.{Lock, commit_locks}
use Rattle.tdb_law.specs.Held.{covers, locked_next}
use Rattle.tdb_law.specs.Effects.{IsFree}
use Rattle.tdb_law.specs.Effects.Effect.{effect_waits}
use Rattle.tdb_law.specs.Openers.{Spot}
use Rattle.tdb_law.specs.Walks.{Lost}
use Rattle.tdb_law.specs.Walks.Walked.{walk_rests}
use Rattle.tdb_locks.specs.declared.piece.Piece.{Piece}
use Rattle.tdb_steps.specs.Holdings.{table_of}
use Rattle.tdb_txn_turns.specs.Holding.{first_next}
use Rattle.tdb_txn_turns.specs.Prepares.{row_of}
use Rattle.tdb_txn_turns.specs.declared.committing.Committing.TheVariants.{Preparing, Finishing}
use Rattle.tdb_txn_turns.specs.declared.preparing.PrepareStage.{PrepareStage}
use Rattle.tdb_txn_turns.specs.declared.preparing.PrepareStage.TheVariants.{Unchanged, Begun, Records, Locked, Planned, Filled}
use Rattle.tdb_txn_owner.specs.Waits.{BlockIsOwn, AloneGoes, IsAlone, IsRowOfEnds, of_start, of_prepare, of_commit, of_finish}
use Rattle.tdb_txn_owner.proofs.Turning.{still_shift}

pub block_is_own : BlockIsOwn
block_is_own f table m q past s t o byte mine keeps waits unchanged holds first = record {
  mine = mine;
  here = refl;
  keeps = keeps;
  row = waits;
  leaves = mine;
  effect = effect_waits o byte refl first unchanged refl refl;
  holds = holds;
  walks = λ w v W V. walk_rests o byte refl (ap (λ (a : Spot). a.gone) V.spot ∙ sym (ap (λ (a : Spot). a.gone) W.spot))
      (still_shift f (Lost f t.command t.steps (w.own s.here) (Blocked o byte) true (w.mark s.here)) (w.mark s.here) (v.mark s.here) (V.mark ∙ sym W.mark));
  settled = refl;
  number = refl;
  image_number = refl;
  other_numbers = λ p differs. refl;
}

-- no lock of these rows is more than one for writing
picked : (p : Bool) (strength rest : ℕ) → strength ≤ 2 → rest ≤ 2 → max (if p then strength else 0) rest ≤ 2
picked true strength rest weak few = omega arith
picked false strength rest weak few = omega arith

pub commit_wants : (numbered : Bool) (n b : ℕ) → locked_next (commit_locks numbered) n b ≤ 2
commit_wants true n b = picked _ 2 _ (omega arith) (picked _ 2 _ (omega arith) (picked _ 2 0 (omega arith) (omega arith)))
commit_wants false n b = picked _ 2 _ (omega arith) (picked _ 2 0 (omega arith) (omega arith))

prepare_wants : (s : PrepareStage) (numbered : Bool) (n b : ℕ) → locked_next (row_of s numbered) n b ≤ 2
prepare_wants Unchanged numbered n b = omega arith
prepare_wants (Begun txn) numbered n b = commit_wants numbered n b
prepare_wants (Records txn) numbered n b = commit_wants numbered n b
prepare_wants (Locked txn) numbered n b = commit_wants numbered n b
prepare_wants (Planned state) numbered n b = commit_wants numbered n b
prepare_wants (Filled state) numbered n b = commit_wants numbered n b

wants_two : (row : List Lock) (n b : ℕ) → IsRowOfEnds row → locked_next row n b ≤ 2
wants_two row n b of_start = picked _ 2 _ (omega arith) (picked _ 1 0 (omega arith) (omega arith))
wants_two row n b (of_prepare p) = prepare_wants p.stage p.numbered n b
wants_two row n b (of_commit (Preparing p) numbered) = prepare_wants p.stage p.numbered n b
wants_two row n b (of_commit (Finishing s) numbered) = commit_wants numbered n b
wants_two row n b of_finish = omega arith

-- the first lock that a turn takes wants no more than all of them
first_of : (picks over : Bool) (strength first rest : ℕ) → first ≤ rest → (if picks then (if over then strength else 0) else first) ≤ max (if picks && over then strength else 0) rest
first_of true true strength first rest less = omega arith
first_of true false strength first rest less = omega arith
first_of false over strength first rest less = omega (arith, less)

first_below : (row : List Lock) (n b : ℕ) → first_next row n b ≤ locked_next row n b
first_below [] n b = omega arith
first_below (l ∷ ls) n b = first_of (l.turn == n) (covers l b) l.strength (first_next ls n b) (locked_next ls n b) (first_below ls n b)

-- where the opener is alone nothing is in its way
pub alone_free : (row : List Lock) (owner n : ℕ) (ps : List Piece) → IsRowOfEnds row → IsAlone owner ps → IsFree (table_of ps) owner (first_next row n)
alone_free row owner n ps R alone = record { free = λ p b differs. let none = alone p b differs in let few = first_below row n b in let two = wants_two row n b R in omega (arith, none, few, two) }

pub alone_goes : AloneGoes
alone_goes stays row kept owner n ps rs Step R alone T = (λ e. e, λ o b differs. T.others o b differs ∙ alone o b differs)
alone_goes stays row kept owner n ps rs (Blocked o byte) R alone T =
    (λ e. let more = T.rightly.conflict in let none = alone o byte T.rightly.other in let two = wants_two row n byte R in omega (arith, more, none, two), λ o b differs. T.others o b differs ∙ alone o b differs)
alone_goes stays row kept owner n ps rs (Ends r) R alone T = (λ e. e, λ o b differs. T.others o b differs ∙ alone o b differs)
