-- What a stop leaves where a turn of an opener that isn't aside makes no change of the file.
use Rattle.std.proofs.Common.{◌≡◌, ◌≤◌, ◌⊎◌, ℕ, List, [], true, false, None, Some, refl, sym, ◌∙◌, ap, subst, inl, inr, arith}
use Rattle.tdb_disk.specs.History.{History, seen}
use Rattle.tdb_disk.specs.Stop.{LeavesOnly}
use Rattle.tdb_disk.proofs.Runs.{leaves_start}
use Rattle.tdb_space.specs.Form.{Form}
use Rattle.tdb_space.specs.Opening.{restored}
use Rattle.tdb_space.specs.Undoing.{Reopens}
use Rattle.tdb_law.specs.Commands.{WalkCommand}
use Rattle.tdb_law.specs.Commands.Command.{OnWalk}
use Rattle.tdb_law.specs.Openers.{Own, Spot}
use Rattle.tdb_law.specs.World.{State}
use Rattle.tdb_commands.specs.InLaw.{law_opener}
use Rattle.tdb_walk.specs.Cursors.{dead_of}
use Rattle.tdb_walk.specs.InLaw.{is_before, is_purging}
use Rattle.tdb_walk.specs.declared.stage.Stage.{Stage}
use Rattle.tdb_walk.specs.declared.stage.Stage.TheVariants.{Rested, Reading, Writing, Freeing}
use Rattle.tdb_walk.specs.declared.standing.Standing.{Standing}
use Rattle.tdb_walk.specs.declared.standing.Standing.TheVariants.{On, Before, Past as Over}
use Rattle.tdb_openers.specs.Calm.{IsMidway, OnlyMoves}
use Rattle.tdb_openers.specs.Openers.{command_in, own_of, walk_command, walk_in, JobStands, OpenerStands, TaskStands}
use Rattle.tdb_openers.specs.declared.job.Job.{Job}
use Rattle.tdb_openers.specs.declared.job.Job.TheVariants as Jobs
use Rattle.tdb_openers.specs.Worlds.{law_of_task, IsBusy, Stands}
use Rattle.tdb_openers.specs.declared.job.Task.{Task}
use Rattle.tdb_openers.specs.declared.opener.Opener.{Opener}
use Rattle.tdb_openers.proofs.Joining.Occupied.{found, own_here, spot_here, task_here}
use Rattle.tdb_world.specs.Looks.{MayWrite}
use Rattle.tdb_world.specs.States.{IsStateOf}
use Rattle.tdb_world.specs.Steps.{IsAmong}
use Rattle.tdb_world.specs.Stops.{IsChanging, IsSafe}
use Rattle.tdb_world.specs.Whole.{form_at, is_starting, options_at, Whole}
use Rattle.tdb_world.proofs.Standings.{own_in, spot_in, task_in}

-- where the history of a safe file stays, a stop leaves what opens to the file as it is read
pub still_stops : (f : Form) (h later : History) → later ≡ h → IsSafe f h → LeavesOnly h later (Reopens (restored f (seen h)))
still_stops f h later same safe = subst (λ z. LeavesOnly h z (Reopens (restored f (seen h)))) (sym same) (leaves_start h (Reopens (restored f (seen h))) safe)

-- Where a state of the world doesn't say that an opener among the others is in the middle of a change, by the opener's
-- task it isn't.
pub not_midway : (w : Whole) (who : ℕ) (x : Opener) (t : Task) (h : History) (state : State) → 1 ≤ who → IsBusy w.openers who x t → IsAmong w who
    → is_starting w.starts (law_opener who) ≡ false → IsStateOf w h state → (IsChanging (form_at w) state (law_opener who) → ⊥) → IsMidway (form_at w) (own_of (options_at w) x) (law_of_task t) → ⊥
not_midway w who x t h state named B among begun S never midway =
    let own : state.own (law_opener who) ≡ own_of (options_at w) x = own_in w who named among h state S ∙ own_here B [] in
    never (record {
      task = law_of_task t;
      has = task_in w who named among h state begun S ∙ task_here B [];
      midway = subst (λ (z : Own). IsMidway (form_at w) z (law_of_task t)) (sym own) midway;
    })

-- Unless a cursor purges the record on which it stands, it isn't at the last step of that.
dead_case : (place : Standing) (stage : Stage) → (dead_of place stage ≡ None) ⊎ ((is_purging stage ≡ true) × (is_before place ≡ false))
dead_case (On chain off) Rested = inl refl
dead_case (On chain off) Reading = inl refl
dead_case (On chain off) Writing = inl refl
dead_case (On chain off) Freeing = inr (refl, refl)
dead_case (Before chain) stage = inl refl
dead_case Over stage = inl refl

-- By its job an opener only moves its cursor, or it purges with it where its command is midway and on that.
job_case : (f : Form) (x : Own) (n size : ℕ) (job : Job) (place : Standing) (stage : Stage) → JobStands f x job n size
    → ((w : WalkCommand) × (walk_in job ≡ Some w) × (dead_of place stage ≡ None))
    ⊎ (IsMidway f x (record { command = command_in job; steps = n }) → (w : WalkCommand) → command_in job ≡ OnWalk w → (is_purging stage ≡ true) × (is_before place ≡ false))
job_case f x n size (Jobs.Refused command reply) place stage S = inr (λ M w e. absurd (let none = S.0 in let taken = M.taken in omega (arith, none, taken)))
job_case f x n size (Jobs.Plain doing) place stage S = inr (λ M w e. absurd (cc e))
job_case f x n size (Jobs.Check checking) place stage S = inr (λ M w e. absurd (cc e))
job_case f x n size (Jobs.Locking locking) place stage S = inr (λ M w e. absurd (cc e))
job_case f x n size Jobs.Seqnum place stage S = inr (λ M w e. absurd (cc e))
job_case f x n size (Jobs.Walk walking) place stage S = elim (dead_case place stage) [ inl none ↦ inl (walk_command walking, refl, none) | inr purging ↦ inr (λ M w e. purging) ]

-- Where a state of the world doesn't say that an opener among the others may write, by the opener's task it only moves
-- its cursor, or isn't in the middle of a change.
pub writes_not : (w : Whole) (size who : ℕ) (x : Opener) (t : Task) (img : List ℕ) (h : History) (state : State) → 1 ≤ who → Stands w.openers img size → IsBusy w.openers who x t → IsAmong w who
    → is_starting w.starts (law_opener who) ≡ false → IsStateOf w h state → (MayWrite (form_at w) state (law_opener who) → ⊥)
    → OnlyMoves x t ⊎ (IsMidway (form_at w) (own_of (options_at w) x) (law_of_task t) → ⊥)
writes_not w size who x t img h state named W B among begun S never =
    let stands = subst (OpenerStands (form_at w) (options_at w) size) (found B) (W.openers_stand (law_opener who)) in
    let job = subst (λ u. TaskStands (form_at w) (own_of (options_at w) x) u size) B.busy stands.1 in
    elim (job_case (form_at w) (own_of (options_at w) x) t.steps size t.job x.walk.cursor.place x.walk.cursor.stage job) [
      | inl moves ↦ inl (record { walk = moves.0; on = moves.1; spares = moves.2 })
      | inr purges ↦ inr (λ midway.
          let own : state.own (law_opener who) ≡ own_of (options_at w) x = own_in w who named among h state S ∙ own_here B [] in
          let spot = spot_in w who named among h state S ∙ spot_here B [] in
          never (record {
            task = law_of_task t;
            has = task_in w who named among h state begun S ∙ task_here B [];
            midway = subst (λ (z : Own). IsMidway (form_at w) z (law_of_task t)) (sym own) midway;
            purges = λ c e. (let P = purges midway c e in (ap (λ (z : Spot). z.purging) spot ∙ P.0, ap (λ (z : Spot). z.gone) spot ∙ P.1));
          }))
    ]
