-- An opener of a world that has a command, and what holds where it has none any more.
use Rattle.std.proofs.Common.{◌≡◌, ℕ, List, [], slice_get, Bool, true, false, Option, Some, None, refl, sym, ◌∙◌, ap, subst, inr, arith}
use Rattle.tdb_space.specs.Form.{Form, form_in}
use Rattle.tdb_locks.specs.HeldLocks.{HeldLocks}
use Rattle.tdb_law.specs.Held.{held, holding}
use Rattle.tdb_law.proofs.Covered.{none_held}
use Rattle.tdb_commands.specs.InLaw.{law_opener}
use Rattle.tdb_walk.specs.declared.standing.Standing.{Standing}
use Rattle.tdb_walk.specs.declared.standing.Standing.TheVariants.{Before, On, Past}
use Rattle.tdb_walk.specs.declared.stage.Stage.{Stage}
use Rattle.tdb_walk.specs.InLaw.{is_before}
use Rattle.tdb_walk.specs.Again.{RestsAt}
use Rattle.tdb_openers.specs.declared.opener.Opener.{Opener}
use Rattle.tdb_openers.specs.declared.job.Job.{Job}
use Rattle.tdb_openers.specs.declared.job.Task.{Task}
use Rattle.tdb_openers.specs.Given.{IsWellHeld}
use Rattle.tdb_openers.specs.Laws.{IsPut, MayStand}
use Rattle.tdb_openers.specs.Openers.{rest_of, own_with, own_of, own_at, spot_by, spot_at, task_at, law_task, walk_in, walk_of, steps_of, hands_of_job, hands_of_task, command_in, JobStands, TaskStands, OpenerStands, WalkStands}
use Rattle.tdb_openers.specs.Turning.{law_table}
use Rattle.tdb_openers.specs.Worlds.{World, law_of_task, state_in, Stands, BytesStand, IsBusy}
use Rattle.tdb_openers.proofs.ExplicitLocks.Aside.{one_number}
use Rattle.tdb_openers.proofs.Joining.Putting.{by_number}
use Rattle.tdb_openers.proofs.Joining.Replacing.{world_replaced, file_replaced}
use Rattle.tdb_openers.proofs.Walks.Rests.{walk_rests, walk_still}
use Rattle.tdb_openers.proofs.PlainTurns.Standing.{Holds, opener_is_ready}
use Rattle.tdb_openers.proofs.Joining.Stood.{injected}

-- a cursor that rests has let nothing go
rests_near : (f : Form) (shown : Option (List ℕ)) (place : Standing) (stage : Stage) → RestsAt f shown place stage → is_before place ≡ false
rests_near f shown (On chain off) stage R = refl
rests_near f shown (Before chain) stage R = absurd R
rests_near f shown Past stage R = refl

module _ {w : World} {who : ℕ} {x : Opener} {t : Task} (B : IsBusy w who x t) where
  pub found : slice_get w.openers (law_opener who) ≡ Some x
  found = subst (λ o. slice_get w.openers o ≡ Some x) (sym (by_number who B.number.place B.number.counted)) B.number.there

  pub task_here : (img : List ℕ) → (state_in w img).task (law_opener who) ≡ Some (law_of_task t)
  task_here img = ap task_at found ∙ ap law_task B.busy

  pub own_here : (img : List ℕ) → (state_in w img).own (law_opener who) ≡ own_of w.options x
  own_here img = ap (own_at w.options) found

  pub spot_here : (img : List ℕ) → (state_in w img).spot (law_opener who) ≡ spot_by x.walk.cursor
  spot_here img = ap spot_at found

  -- the command is the one that the opener with the number has
  pub one_task : {y : Opener} {u : Task} → IsBusy w who y u → t ≡ u
  one_task {y = y} D = injected (sym B.busy ∙ ap (λ (z : Opener). z.task) (one_number w who x y B.number D.number) ∙ D.busy)

  module _ {any : List ℕ} {size : ℕ} (W : Stands w any size) where
    pub stands : OpenerStands (form_in w.header) w.options size (Some x)
    stands = subst (OpenerStands (form_in w.header) w.options size) found (W.openers_stand (law_opener who))

    pub job : JobStands (form_in w.header) (own_of w.options x) t.job t.steps size
    job = subst (λ z. TaskStands (form_in w.header) (own_of w.options x) z size) B.busy stands.1

    pub job_at : (j : Job) → t.job ≡ j → JobStands (form_in w.header) (own_of w.options x) j t.steps size
    job_at j is = subst (λ z. JobStands (form_in w.header) (own_of w.options x) z t.steps size) is job

    pub cursor_at : (j : Job) → t.job ≡ j → WalkStands (form_in w.header) x.held (own_of w.options x) (walk_in j) t.steps x.walk.cursor
    cursor_at j is = subst (λ z. WalkStands (form_in w.header) x.held (own_of w.options x) (walk_in z) t.steps x.walk.cursor) is
        (subst (λ z. WalkStands (form_in w.header) x.held (own_of w.options x) (walk_of z) (steps_of z) x.walk.cursor) B.busy stands.2)

    pub near_at : (j : Job) → t.job ≡ j → walk_in j ≡ None → (spot_by x.walk.cursor).gone ≡ false
    near_at j is off = rests_near (form_in w.header) x.walk.shown x.walk.cursor.place x.walk.cursor.stage (walk_rests (form_in w.header) x.held (own_of w.options x) (walk_in j) t.steps x.walk.cursor (cursor_at j is) off)

    pub holds : (b : ℕ) → law_table w.table (law_opener who) b ≡ holding (form_in w.header) (own_of w.options x) (spot_by x.walk.cursor) (Some (law_of_task t)) b
    holds = (opener_is_ready (form_in w.header) w.options w.openers w.table any size (law_opener who) x t W (record { there = found; busy = B.busy })).holds

    -- A command that has had no step holds no record, and its opener's cursor rests.
    pub record Rests : Type 0 where
      pub rests : RestsAt (form_in w.header) x.walk.shown x.walk.cursor.place x.walk.cursor.stage
      pub new : t.steps ≡ 0
      pub bare : hands_of_task x.task ≡ []

    pub rests_by : (j : Job) → t.job ≡ j → walk_in j ≡ None → t.steps ≡ 0 → hands_of_job j ≡ [] → Rests
    rests_by j is off new bare = record {
      rests = walk_rests (form_in w.header) x.held (own_of w.options x) (walk_in j) t.steps x.walk.cursor (cursor_at j is) off;
      new = new;
      bare = ap hands_of_task B.busy ∙ ap hands_of_job is ∙ bare;
    }

    -- another opener in its place, which holds what is held for it
    module _ (ys : List Opener) where
      pub world_by : (y : Opener) → IsPut w.openers (law_opener who) y ys → ((b : ℕ) → Holds (form_in w.header) w.options w.table (law_opener who) (Some y) b) → MayStand (form_in w.header) w.options size y → Stands (record w { openers = ys }) any size
      world_by y P holds M = world_replaced w.openers ys (law_opener who) x y found P (form_in w.header) w.options w.table any size W holds M

      pub world_same : IsPut w.openers (law_opener who) x ys → Stands (record w { openers = ys }) any size
      world_same P = world_by x P (λ b. W.sound.agrees (law_opener who) b ∙ ap (λ z. holding (form_in w.header) (own_at w.options z) (spot_at z) (task_at z) b) found) (record {
        stands = stands;
        busy_live = λ u busy. subst (λ z. (own_at w.options z).live ≡ true) found (W.sound.busy_there (law_opener who) (law_of_task u) (ap task_at found ∙ ap law_task busy));
      })

      module _ (R : Rests) where
        pub may_end : (held : HeldLocks) (live : Bool) → IsWellHeld held → MayStand (form_in w.header) w.options size (record x { held = held; live = live; task = None })
        may_end held live well = record {
          stands = (well, tt, walk_still (form_in w.header) held (own_with w.options live held (rest_of x.walk)) None 0 x.walk.cursor stands.2.placed R.rests refl);
          busy_live = λ u busy. absurd (cc busy);
        }

        pub world_ended : IsPut w.openers (law_opener who) (record x { task = None }) ys → Stands (record w { openers = ys }) any size
        world_ended P = world_by (record x { task = None }) P
            (λ b. (let whole = holds b in
            let bare = ap (λ n. held (form_in w.header) (command_in t.job) (own_of w.options x) (spot_by x.walk.cursor) n b) R.new ∙ none_held (form_in w.header) (command_in t.job) (own_of w.options x) (spot_by x.walk.cursor) b in
            omega (arith, whole, bare)))
            (may_end x.held x.live stands.0)

        pub bytes_ended : (y : Opener) → y.walk ≡ x.walk → y.task ≡ None → IsPut w.openers (law_opener who) y ys → (a : List ℕ) → BytesStand w a → BytesStand (record w { openers = ys }) a
        bytes_ended y walk none P a F = file_replaced w.openers ys (law_opener who) x y found P walk (form_in w.header) a (inr (none, R.bare)) F
