-- From one state of a commit to the next, where what it is known of is carried along.
use Rattle.std.proofs.Common.{◌⊎◌, ℕ, List, [], sym, ◌∙◌, subst, inl, inr}
use Rattle.tdb_disk.specs.History.{History, seen}
use Rattle.tdb_disk.specs.Stop.{LeavesOnly}
use Rattle.tdb_disk.proofs.Runs.{leaves_weaker, leaves_quiet, leaves_seen_now}
use Rattle.tdb_space.specs.Accepted.{AcceptWith}
use Rattle.tdb_space.specs.Form.{form_of}
use Rattle.tdb_space.specs.Planned.{finished}
use Rattle.tdb_space.specs.Undoing.{Reopens}
use Rattle.tdb_space.proofs.Form.Headers.{form_kept}
use Rattle.tdb_space.proofs.Undoing.Alike.{exact_reopens}
use Rattle.tdb_txn.specs.Commit.{scheme_of, IsFilled, IsPrepared, IsSettled, IsFinished, IsUndone}
use Rattle.tdb_txn.specs.Filling.{IsFilledFrom}
use Rattle.tdb_txn.specs.Planned.{IsPlannedOn}
use Rattle.tdb_txn.specs.declared.planned.Plan.{Plan}
use Rattle.tdb_txn.specs.declared.txn.Txn.{Txn}
use Rattle.tdb_txn.proofs.StatesKept.{fills_of}
use Rattle.tdb_txn_turns.specs.Commits.{Carries, OpensAs, RestsAt}
use Rattle.tdb_txn_turns.specs.Finishes.{IsShut}
use Rattle.tdb_txn_turns.specs.Prepares.{IsReady}
use Rattle.tdb_txn_turns.proofs.Shutting.{finished_accepted}

-- a stop leaves what opens to the map of the file before the commit
pub carried_stops : (State : History → List ℕ → List ℕ → Type 0) (h new : History) (r b : List ℕ) → Carries State h r b
    → ((x y : List ℕ) → State h x y → LeavesOnly h new (Reopens x)) → LeavesOnly h new (Reopens r)
carried_stops State h new r b C stops = leaves_weaker h new (Reopens C.before) (Reopens r) C.reopens (stops C.before C.after C.state)

-- the next state is of the same images
pub carried_on : (State Next : History → List ℕ → List ℕ → Type 0) (h new : History) (r b : List ℕ) → Carries State h r b
    → ((x y : List ℕ) → State h x y → Next new x y) → Carries Next new r b
carried_on State Next h new r b C next = record { before = C.before; after = C.after; reopens = C.reopens; stands = C.stands; accepted = C.accepted; header = C.header; state = next C.before C.after C.state }

-- once the undo area is filled, of the file as it is then
pub carried_filled : (R : Type 0) (plan next : Plan) (h new : History) (r b : List ℕ) → Carries (IsPlannedOn plan) h r b
    → ((x y : List ℕ) → IsPlannedOn plan h x y → IsFilledFrom next new x y × R) → Carries (IsFilled next) new r b
carried_filled R plan next h new r b C filled =
    let F = (filled C.before C.after C.state).0 in
    record { before = seen new; after = C.after; reopens = λ c opens. C.reopens c (F.reopens c opens); stands = C.stands; accepted = C.accepted; header = C.header; state = F.filled }

-- a turn that makes no call leaves a quiet disk
pub rests_stops : (h : History) (r : List ℕ) → RestsAt h r → LeavesOnly h h (Reopens r)
rests_stops h r rest = leaves_quiet h (Reopens r) rest.quiet rest.opens

pub ready_rests : (txn : Txn) (h : History) (r b : List ℕ) → IsReady txn h r b → RestsAt h r
ready_rests txn h r b ready = record { quiet = ready.quiet; accepted = subst (λ x. AcceptWith (form_of r) x []) (sym ready.file) ready.may.before; opens = subst (Reopens r) (sym ready.file) (exact_reopens r ready.may.before) }

-- a stop while the gate is shut leaves what opens to either map
pub shutting_stops : (State : History → List ℕ → List ℕ → Type 0) (h new : History) (r b : List ℕ) → Carries State h r b
    → ((x y : List ℕ) → State h x y → LeavesOnly h new (λ c. Reopens x c ⊎ Reopens y c)) → LeavesOnly h new (λ c. Reopens r c ⊎ OpensAs b c)
shutting_stops State h new r b C stops =
    leaves_weaker h new (λ c. Reopens C.before c ⊎ Reopens C.after c) (λ c. Reopens r c ⊎ OpensAs b c)
    (λ c either. elim either [ inl old ↦ inl (C.reopens c old) | inr now ↦ inr (record { image = C.after; stands = C.stands; opens = now }) ])
    (stops C.before C.after C.state)

-- and once it is shut, to that of the transaction
pub carried_shut : (plan : Plan) (h new : History) (r b : List ℕ) → Carries (IsSettled plan) h r b
    → ((x y : List ℕ) → IsSettled plan h x y → IsFinished plan new x y) → IsShut new b
carried_shut plan h new r b C finish =
    let F = finish C.before C.after C.state in
    record {
      quiet = F.quiet;
      accepted =
          let brings = C.state.brings in
          let form = form_kept b C.after C.stands.header in
          subst (λ x. AcceptWith (form_of b) x []) (sym F.file)
          (subst (λ g. AcceptWith g (finished (scheme_of plan) C.before C.after) []) form (finished_accepted (scheme_of plan) C.before C.after brings.before brings.after brings.planned));
      opens = record { image = C.after; stands = C.stands; opens = subst (Reopens C.after) (sym F.file) (fills_of plan C.before C.after C.state.brings).becomes };
    }

pub shut_stops : (h : History) (b : List ℕ) → IsShut h b → LeavesOnly h h (OpensAs b)
shut_stops h b shut = leaves_quiet h (OpensAs b) shut.quiet shut.opens

-- a gate that is shut with nothing written leaves what opens to the map before
pub carried_undone : (plan : Plan) (h new : History) (r b : List ℕ) → Carries (IsPrepared plan) h r b
    → ((x y : List ℕ) → IsPrepared plan h x y → LeavesOnly h new (Reopens x)) → ((x y : List ℕ) → IsPrepared plan h x y → IsUndone new x) → RestsAt new r
carried_undone plan h new r b C stops undone = record {
  quiet = (undone C.before C.after C.state).quiet;
  accepted =
      let form = form_kept C.before C.after C.state.brings.planned.header in
      let same = form_kept b C.after C.stands.header ∙ form_kept r b C.header in
      subst (λ f. AcceptWith f (seen new) []) (sym form ∙ same) (undone C.before C.after C.state).stays.accepted;
  opens = C.reopens (seen new) (leaves_seen_now h new (Reopens C.before) (stops C.before C.after C.state));
}
