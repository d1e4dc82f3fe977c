-- A turn of a job without a record that leaves the bytes of the file.
use Rattle.std.proofs.Common.{◌≡◌, ℕ, List, [], ◌++◌, Bool, refl, sym, ◌∙◌, subst}
use Rattle.tdb_space.specs.Form.{Form}
use Rattle.tdb_space.specs.Chain.{Member, chain_of}
use Rattle.tdb_space.specs.Extents.{HandPair}
use Rattle.tdb_space.specs.Accepted.{AcceptWith}
use Rattle.tdb_space.proofs.Stays.Changes.{changes_none}
use Rattle.tdb_locks.specs.declared.piece.Piece.{Piece}
use Rattle.tdb_law.specs.Commands.{Turn}
use Rattle.tdb_law.specs.Commands.Turn.{Step, Blocked, Ends}
use Rattle.tdb_law.specs.Openers.{Own, Spot, View}
use Rattle.tdb_openers.specs.declared.job.Job.{Job}
use Rattle.tdb_openers.specs.Openers.{command_in, hands_of_job, JobKnows}
use Rattle.tdb_openers.specs.Turning.{TurnsFile, TurnsImage}
use Rattle.tdb_openers.specs.Cursors.{is_stood, JobSpares, TaskSpares, LeavesCursors}
use Rattle.tdb_openers.specs.Jobs.{task_after, JobFiled}
use Rattle.tdb_openers.proofs.Walks.StillWalks.{still_walk}

-- where the bytes stay, so do all walks and the records on which cursors stand
pub same_leaves : (f : Form) (x : Own) (job left : Job) (n : ℕ) (a b : List ℕ) (stands : ℕ → Bool) → b ≡ a → ((stands : ℕ → Bool) → JobSpares stands left) → (turn : Turn)
    → LeavesCursors f x (record { steps = n; job = job }) (task_after left n turn) turn a b stands
same_leaves f x job left n a b stands same spares turn = record {
  walks = λ place on. still_walk f x (command_in job) n turn a b place same;
  members = λ chain off low on there. subst (λ i. Member off (chain_of f i chain)) (sym same) there;
  spares = left_spares turn;
}
  where
    left_spares : (t : Turn) → TaskSpares stands (task_after left n t)
    left_spares Step = spares stands
    left_spares (Blocked owner byte) = spares stands
    left_spares (Ends r) = tt

module _ (f : Form) (x y : Own) (s : Spot) (v : View) (job left : Job) (n who : ℕ) (ps : List Piece) (a : List ℕ) (others : List HandPair) (spots : List ℕ) (bare : hands_of_job job ≡ []) (bare_left : hands_of_job left ≡ []) (knows : JobKnows f a left)
    (A : AcceptWith f a (hands_of_job job ++ others)) where
  same_image : (turn : Turn) → TurnsImage f (record { steps = n; job = job }) (task_after left n turn) a a others
  same_image Step = record { accepted = subst (λ l. AcceptWith f a (l ++ others)) (bare ∙ sym bare_left) A; knows = knows; only = changes_none f a _ }
  same_image (Blocked owner byte) = record { accepted = subst (λ l. AcceptWith f a (l ++ others)) (bare ∙ sym bare_left) A; knows = knows; only = changes_none f a _ }
  same_image (Ends r) = record { accepted = subst (λ l. AcceptWith f a (l ++ others)) bare A; knows = tt; only = changes_none f a _ }

  pub same_filed : (turn : Turn) → n ≡ 0 → ((stands : ℕ → Bool) → JobSpares stands left) → TurnsFile f x y s v (command_in job) 0 who ps a a turn → JobFiled f x y s v job left n who ps a a others spots turn
  same_filed turn none spares T = record {
    file = subst (λ m. TurnsFile f x y s v (command_in job) m who ps a a turn) (sym none) T;
    image = same_image turn;
    cursors = λ C. same_leaves f x job left n a a (is_stood spots) refl spares turn;
  }
