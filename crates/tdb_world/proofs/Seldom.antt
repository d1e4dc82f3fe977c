-- How many syncs the turns of a whole Commit make.
use Rattle.std.proofs.Common.{◌≡◌, ◌<◌, ◌≤◌, ℕ, zero, suc, ◌+◌, List, length, slice_index, subst, inl, inr, refl, sym, ◌∙◌, ap, arith}
use Rattle.tdb_disk.specs.Count.{RoseBy}
use Rattle.tdb_disk.specs.History.{History, seen}
use Rattle.tdb_words.specs.declared.word.Order.{Order}
use Rattle.tdb_space.specs.Extents.{Extent}
use Rattle.tdb_space.specs.Form.{form_of}
use Rattle.tdb_space.specs.Planned.{content_length}
use Rattle.tdb_space.specs.Runs.{ChangedRuns}
use Rattle.tdb_space.proofs.Runs.Stretches.{runs_one}
use Rattle.tdb_txn.specs.Answered.{AreaSyncs, kept, anew, replaced, ChangesNothing}
use Rattle.tdb_txn.specs.Committing.{HasAreaIn}
use Rattle.tdb_txn.specs.Pages.{byte_over, length_filled}
use Rattle.tdb_txn.specs.Txn.{txn_image, txn_pages, txn_size, txn_start}
use Rattle.tdb_txn.specs.declared.txn.Txn.{Txn}
use Rattle.tdb_txn_turns.specs.Committings.{commit_steps, CanEnd, LastSyncs, StepSyncs}
use Rattle.tdb_txn_turns.specs.Committings.CanEnd.{unchanged, planned, shut}
use Rattle.tdb_txn_turns.specs.Finishes.{finish_steps, FinishSyncs}
use Rattle.tdb_txn_turns.specs.PlanSyncs.{PlannedSyncs}
use Rattle.tdb_txn_turns.specs.Prepares.{at_stage, stage_steps, IsPlanning, IsReady, KnowsStage, MayPlan, StageFits, StageSyncs}
use Rattle.tdb_txn_turns.specs.declared.committing.Committing.{Committing}
use Rattle.tdb_txn_turns.specs.declared.committing.Committing.TheVariants.{Preparing, Finishing}
use Rattle.tdb_txn_turns.specs.declared.finishing.Finishing.{Finishing as Ending}
use Rattle.tdb_txn_turns.specs.declared.finishing.Finishing.TheVariants.{Open, Applied, Settled, Shut}
use Rattle.tdb_txn_turns.specs.declared.preparing.Preparing.{Preparing as Prepare}
use Rattle.tdb_txn_turns.specs.declared.preparing.PrepareStage.{PrepareStage}
use Rattle.tdb_txn_turns.specs.declared.preparing.PrepareStage.TheVariants.{Unchanged, Begun, Records, Locked, Planned, Filled}
use Rattle.tdb_world.specs.Syncs.{syncs_from, CommitsBy, CommitsInto, CommitsSyncExactly, CommitsSyncSeldom, IsCommitInto, SyncsInAll}
use Rattle.tdb_world.proofs.GateUndone.{rose_then}

-- what a turn makes, and what is left then
plan_few : (s : PrepareStage) (before now : ℕ) → StageSyncs s before now → now + syncs_from (stage_steps s + 1) ≤ before + syncs_from (stage_steps s)
plan_few Unchanged before now S = omega (arith, S)
plan_few (Begun txn) before now S = omega (arith, S)
plan_few (Records txn) before now S = omega (arith, S)
plan_few (Locked txn) before now S = elim S [
  | inl none ↦ omega (arith, none)
  | inr some ↦ elim some [
    | inl three ↦ (let most = three.no_more in omega (arith, most))
    | inr five ↦ (let most = five.no_more in omega (arith, most))
  ]
]
plan_few (Planned state) before now S = let most = S.no_more in omega (arith, most)
plan_few (Filled state) before now S = let most = S.no_more in omega (arith, most)

finish_few : (s : Ending) (before now : ℕ) → FinishSyncs s before now → now + syncs_from (5 + finish_steps s + 1) ≤ before + syncs_from (5 + finish_steps s)
finish_few (Open state) before now S = omega (arith, S)
finish_few (Applied state) before now S = let most = S.no_more in omega (arith, most)
finish_few (Settled state) before now S = let most = S.no_more in omega (arith, most)
finish_few Shut before now S = omega (arith, S)

turn_few : (c : Committing) (before now : ℕ) → StepSyncs c before now → now + syncs_from (commit_steps c + 1) ≤ before + syncs_from (commit_steps c)
turn_few (Preparing p) before now S = plan_few p.stage before now S
turn_few (Finishing s) before now S = finish_few s before now S

last_few : (c : Committing) (before now : ℕ) → LastSyncs c before now → now ≤ before + syncs_from (commit_steps c)
last_few (Preparing p) before now S = omega (arith, S)
last_few (Finishing s) before now S = let few = finish_few s before now S in omega (arith, few)

few : (n before now : ℕ) (c : Committing) → CommitsBy n c before now → now ≤ before + syncs_from (commit_steps c)
few zero before now c (ends, S) = last_few c before now S
few (suc n) before now c (next, mid, leads, S, more) =
    let one = subst (λ k. mid + syncs_from k ≤ before + syncs_from (commit_steps c)) (sym leads.2) (turn_few c before mid S) in
    let rest = few n mid now next more in
    omega (arith, one, rest)

-- From the open gate on each turn makes just so many.
none_rose : (before now : ℕ) → now ≡ before → RoseBy 0 before now
none_rose before now S = record { no_less = omega (arith, S); no_more = omega (arith, S); never_falls = omega (arith, S) }

abbrev finish_count : Ending → ℕ
finish_count (Open state) = 0
finish_count (Applied state) = 1
finish_count (Settled state) = 1
finish_count Shut = 0

finish_rose : (s : Ending) (before now : ℕ) → FinishSyncs s before now → RoseBy (finish_count s) before now
finish_rose (Open state) before now S = none_rose before now S
finish_rose (Applied state) before now S = S
finish_rose (Settled state) before now S = S
finish_rose Shut before now S = none_rose before now S

finish_left : (s : Ending) → finish_count s + syncs_from (5 + finish_steps s + 1) ≡ syncs_from (5 + finish_steps s)
finish_left (Open state) = refl
finish_left (Applied state) = refl
finish_left (Settled state) = refl
finish_left Shut = refl

finish_is : (s t : Ending) → Finishing s ≡ Finishing t → s ≡ t
finish_is s t e = cc

finish_ends : (s : Ending) → CanEnd (Finishing s) → finish_steps s ≡ 3
finish_ends s (unchanged numbered is) = absurd (cc is)
finish_ends s (planned two) = absurd (omega (arith, two))
finish_ends s (shut is) = ap finish_steps (finish_is s Shut is)

last_rose : (s : Ending) (before now : ℕ) → finish_steps s ≡ 3 → FinishSyncs s before now → RoseBy (syncs_from (5 + finish_steps s)) before now
last_rose (Open state) before now last S = absurd (omega (arith, last))
last_rose (Applied state) before now last S = absurd (omega (arith, last))
last_rose (Settled state) before now last S = absurd (omega (arith, last))
last_rose Shut before now last S = none_rose before now S

stage_low : (s : PrepareStage) → stage_steps s ≤ 4
stage_low Unchanged = omega arith
stage_low (Begun txn) = omega arith
stage_low (Records txn) = omega arith
stage_low (Locked txn) = omega arith
stage_low (Planned state) = omega arith
stage_low (Filled state) = omega arith

not_open : (p : Prepare) → 5 ≤ stage_steps p.stage → ⊥
not_open p late = let low = stage_low p.stage in omega (arith, late, low)

open_rose : (n before now : ℕ) (c : Committing) → 5 ≤ commit_steps c → CommitsBy n c before now → RoseBy (syncs_from (commit_steps c)) before now
open_rose zero before now (Preparing p) late chain = absurd (not_open p late)
open_rose zero before now (Finishing s) late (ends, S) = last_rose s before now (finish_ends s ends) S
open_rose (suc n) before now (Preparing p) late chain = absurd (not_open p late)
open_rose (suc n) before now (Finishing s) late (next, mid, leads, S, more) =
    let steps = leads.2 in
    let rest = open_rose n mid now next (omega (arith, steps, late)) more in
    subst (λ k. RoseBy k before now) (ap (λ k. finish_count s + syncs_from k) steps ∙ finish_left s)
    (rose_then (finish_count s) (syncs_from (commit_steps next)) before mid now (finish_rose s before mid S) rest)

pub commits_seldom : CommitsSyncSeldom
commits_seldom n before now c chain = (few n before now c chain, λ late. open_rose n before now c late chain)

-- a stage of a Prepare from which a Commit may end
prepare_is : (p q : Prepare) → Preparing p ≡ Preparing q → p ≡ q
prepare_is p q e = cc

plan_ends : (p : Prepare) → CanEnd (Preparing p) → stage_steps p.stage ≤ 2
plan_ends p (unchanged numbered is) = let none = ap (λ (q : Prepare). stage_steps q.stage) (prepare_is p (at_stage numbered Unchanged) is) in omega (arith, none)
plan_ends p (planned two) = omega (arith, two)
plan_ends p (shut is) = absurd (cc is)

filled_one : (s : PrepareStage) (before now : ℕ) → stage_steps s ≡ 4 → StageSyncs s before now → RoseBy 1 before now
filled_one Unchanged before now at S = absurd (omega (arith, at))
filled_one (Begun txn) before now at S = absurd (omega (arith, at))
filled_one (Records txn) before now at S = absurd (omega (arith, at))
filled_one (Locked txn) before now at S = absurd (omega (arith, at))
filled_one (Planned state) before now at S = absurd (omega (arith, at))
filled_one (Filled state) before now at S = S

planned_one : (s : PrepareStage) (r : List ℕ) (before now : ℕ) → stage_steps s ≡ 3 → PlannedSyncs s r before now → RoseBy 1 before now
planned_one Unchanged r before now at P = absurd (omega (arith, at))
planned_one (Begun txn) r before now at P = absurd (omega (arith, at))
planned_one (Records txn) r before now at P = absurd (omega (arith, at))
planned_one (Locked txn) r before now at P = absurd (omega (arith, at))
planned_one (Planned state) r before now at P = P
planned_one (Filled state) r before now at P = absurd (omega (arith, at))

-- two images have one undo area and one list of what changes, so it has room or has none
not_both : (o : Order) (r b : List ℕ) (old : ℕ) (e f : Extent) (xs ys : List Extent) → HasAreaIn o r e → HasAreaIn o r f → ChangedRuns r b old e xs → ChangedRuns r b old f ys
    → 24 + content_length xs ≤ e.1 → f.1 < 24 + content_length ys → ⊥
not_both o r b old e f xs ys here there changed others fits short =
    let same : e ≡ f = here.extent ∙ sym there.extent in
    let runs : xs ≡ ys = runs_one r b old f xs ys (subst (λ x. ChangedRuns r b old x xs) same changed) others in
    let room : 24 + content_length ys ≤ f.1 = subst (λ zs. 24 + content_length zs ≤ f.1) runs (subst (λ (x : Extent). 24 + content_length xs ≤ x.1) same fits) in
    omega (arith, room, short)

module _ (limit : ℕ) (r b : List ℕ) where
  forget : (n before now : ℕ) (c : Committing) → CommitsInto limit r b n c before now → CommitsBy n c before now
  forget zero before now c (ends, S, same) = (ends, S)
  forget (suc n) before now c (next, mid, leads, S, P, into, more) = (next, mid, leads, S, forget n mid now next more)

  -- from the filled area on three, and from the plan on four
  filled_rose : (n before now : ℕ) (p : Prepare) → stage_steps p.stage ≡ 4 → CommitsInto limit r b n (Preparing p) before now → RoseBy 3 before now
  filled_rose zero before now p at (ends, S, same) = absurd (let low = plan_ends p ends in omega (arith, low, at))
  filled_rose (suc n) before now p at (next, mid, leads, S, P, into, more) =
      let five : commit_steps next ≡ 5 = (let steps = leads.2 in omega (arith, steps, at)) in
      let rest = subst (λ k. RoseBy (syncs_from k) mid now) five (open_rose n mid now next (omega (arith, five)) (forget n mid now next more)) in
      rose_then 1 2 before mid now (filled_one p.stage before mid at S) rest

  filled_next : (n before now : ℕ) (c : Committing) → commit_steps c ≡ 4 → CommitsInto limit r b n c before now → RoseBy 3 before now
  filled_next n before now (Preparing p) at chain = filled_rose n before now p at chain
  filled_next n before now (Finishing s) at chain = absurd (omega (arith, at))

  planned_rose : (n before now : ℕ) (p : Prepare) → stage_steps p.stage ≡ 3 → CommitsInto limit r b n (Preparing p) before now → RoseBy 4 before now
  planned_rose zero before now p at (ends, S, same) = absurd (let low = plan_ends p ends in omega (arith, low, at))
  planned_rose (suc n) before now p at (next, mid, leads, S, P, into, more) =
      let rest = filled_next n mid now next (let steps = leads.2 in omega (arith, steps, at)) more in
      rose_then 1 3 before mid now (planned_one p.stage r before mid at P) rest

  planned_next : (n before now : ℕ) (c : Committing) → commit_steps c ≡ 3 → CommitsInto limit r b n c before now → RoseBy 4 before now
  planned_next n before now (Preparing p) at chain = planned_rose n before now p at chain
  planned_next n before now (Finishing s) at chain = absurd (omega (arith, at))

  -- the plan, and the turns behind it
  module _ (txn : Txn) (h : History) (ready : IsReady txn h r b) (may : MayPlan txn (length (seen h)) limit) where
    start : txn_start txn ≡ length r
    start = sym may.sized ∙ ap length ready.file

    of_txn : (e : Extent) (runs : List Extent) → ChangedRuns r b (length r) e runs → ChangedRuns r (txn_image txn r) (txn_start txn) e runs
    of_txn e runs changed = subst (λ n. ChangedRuns r (txn_image txn r) n e runs) (sym start) (subst (λ x. ChangedRuns r x (length r) e runs) ready.image changed)

    nothing_changes : b ≡ r → ChangesNothing txn r
    nothing_changes same =
        let image : txn_image txn r ≡ r = sym ready.image ∙ same in
        record {
          bytes = λ e is i C. C.differs (ap (λ x. slice_index x i) image);
          size = sym (length_filled (byte_over (txn_pages txn) r) (txn_size txn)) ∙ ap length image ∙ sym start;
        }

    module _ (before mid now : ℕ) (changes : ChangesNothing txn r → ⊥) (rest : RoseBy 4 mid now) where
      by_area : AreaSyncs txn r before mid → SyncsInAll r b before now
      by_area (kept e runs keep still) = record {
        nothing = λ same. absurd (changes (nothing_changes same));
        kept = λ other holds. subst (λ n. RoseBy 4 n now) still rest;
        anew = λ other absent. absurd (keep.there.some absent);
        replaced = λ other lacks.
            absurd (not_both (form_of r).order r (txn_image txn r) (txn_start txn) e lacks.area runs lacks.runs keep.there lacks.there keep.changed (of_txn lacks.area lacks.runs lacks.changed) keep.fits lacks.short);
      }
      by_area (anew absent rose) = record {
        nothing = λ same. absurd (changes (nothing_changes same));
        kept = λ other holds. absurd (holds.there.some absent);
        anew = λ other absent. rose_then 3 4 before mid now rose rest;
        replaced = λ other lacks. absurd (lacks.there.some absent);
      }
      by_area (replaced e runs has changed short rose) = record {
        nothing = λ same. absurd (changes (nothing_changes same));
        kept = λ other holds.
            absurd (not_both (form_of r).order r (txn_image txn r) (txn_start txn) holds.area e holds.runs runs holds.there has (of_txn holds.area holds.runs holds.changed) changed holds.fits short);
        anew = λ other absent. absurd (has.some absent);
        replaced = λ other lacks. rose_then 5 4 before mid now rose rest;
      }

  -- a turn up to the plan, by what the turns behind it make
  turn_all : (s : PrepareStage) (h : History) (before mid now : ℕ) (steps : ℕ) → stage_steps s ≤ 2 → IsPlanning s → KnowsStage s h r b → StageFits s (length (seen h)) limit → StageSyncs s before mid
      → PlannedSyncs s r before mid → steps ≡ stage_steps s + 1 → (steps ≤ 2 → SyncsInAll r b mid now) → (steps ≡ 3 → RoseBy 4 mid now) → SyncsInAll r b before now
  turn_all Unchanged h before mid now steps low plans knows fits S P is early late = absurd plans
  turn_all (Begun txn) h before mid now steps low plans knows fits S P is early late = subst (λ n. SyncsInAll r b n now) S (early (omega (arith, is)))
  turn_all (Records txn) h before mid now steps low plans knows fits S P is early late = subst (λ n. SyncsInAll r b n now) S (early (omega (arith, is)))
  turn_all (Locked txn) h before mid now steps low plans knows fits S P is early late = by_area txn h knows fits before mid now P.0 (late (omega (arith, is))) P.1
  turn_all (Planned state) h before mid now steps low plans knows fits S P is early late = absurd (omega (arith, low))
  turn_all (Filled state) h before mid now steps low plans knows fits S P is early late = absurd (omega (arith, low))

  -- one that ends before the plan has nothing to commit
  same_image : (p : Prepare) → IsCommitInto limit r b (Preparing p) → (stage_steps p.stage ≡ 2 → b ≡ r) → CanEnd (Preparing p) → b ≡ r
  same_image p into same (unchanged numbered is) = into.unchanged numbered is
  same_image p into same (planned two) = same two
  same_image p into same (shut is) = absurd (cc is)

  ended_all : (before now : ℕ) → b ≡ r → now ≡ before → SyncsInAll r b before now
  ended_all before now same S = record {
    nothing = λ again. S;
    kept = λ other holds. absurd (other same);
    anew = λ other absent. absurd (other same);
    replaced = λ other lacks. absurd (other same);
  }

  exactly : (n before now : ℕ) (c : Committing) → commit_steps c ≤ 2 → IsCommitInto limit r b c → CommitsInto limit r b n c before now → SyncsInAll r b before now
  exactly zero before now (Preparing p) low into (ends, S, same) = ended_all before now (same_image p into same ends) S
  exactly zero before now (Finishing s) low into chain = absurd (omega (arith, low))
  exactly (suc n) before now (Preparing p) low into (next, mid, leads, S, P, after, more) =
      turn_all p.stage into.history before mid now (commit_steps next) low leads.0 into.knows into.fits S P leads.2
      (λ early. exactly n mid now next early after more) (λ at. planned_next n mid now next at more)
  exactly (suc n) before now (Finishing s) low into chain = absurd (omega (arith, low))

pub commits_exactly : CommitsSyncExactly
commits_exactly limit r b n before now c low into chain = exactly limit r b n before now c low into chain
