-- How the openers of a world stand in a state of it: the one aside stands aside, those that have a Start may have it.
use Rattle.std.proofs.Common.{◌≡◌, ◌≢◌, ◌≤◌, ℕ, max, List, slice_get, Option, Bool, true, false, Some, None, if◌then◌else◌, refl, sym, ◌∙◌, ap, subst, arith, le_refl}
use Rattle.tdb_disk.specs.History.{History}
use Rattle.tdb_space.specs.Form.{form_in}
use Rattle.tdb_locks.specs.declared.kind.Kind.{Kind}
use Rattle.tdb_locks.specs.declared.kind.Kind.TheVariants.{Write}
use Rattle.tdb_law.specs.Held.{all_held, covers}
use Rattle.tdb_law.specs.Rows.{lock_all}
use Rattle.tdb_law.specs.Commands.{Command}
use Rattle.tdb_law.specs.Openers.{Task, nowhere}
use Rattle.tdb_law.specs.World.{State}
use Rattle.tdb_law.proofs.Tests.{never_true}
use Rattle.tdb_law.proofs.Walking.{put_here, put_else}
use Rattle.tdb_commands.specs.InLaw.{law_opener}
use Rattle.tdb_commands.specs.declared.options.Options.{Options}
use Rattle.tdb_steps.specs.LockRows.{strength_of}
use Rattle.tdb_law.specs.OneAside.Events.{StandsBy, IsElse}
use Rattle.tdb_law.specs.OneAside.Sides.{Past, Side, alone, beside, whole, IsPlain, StandsAside}
use Rattle.tdb_law.specs.OneAside.Starts.{MayStart, new_start, with_starts}
use Rattle.tdb_law.proofs.OneAside.Starting.{task_is, task_not}
use Rattle.tdb_txn_owner.specs.Holders.{HolderState}
use Rattle.tdb_txn_owner.specs.Stages.{stage_records, stage_task}
use Rattle.tdb_txn_owner.specs.Wanting.{records_at}
use Rattle.tdb_txn_owner.proofs.RecordsHeld.{records_law}
use Rattle.tdb_openers.specs.Openers.{all_of, law_task, own_at, spot_at, spot_by, task_at}
use Rattle.tdb_openers.specs.Worlds.{World, law_of_task, state_in, Stands, IsBusy, IsFree, IsNumber}
use Rattle.tdb_openers.specs.declared.job.Task.{Task as JobTask}
use Rattle.tdb_openers.specs.declared.opener.Opener.{Opener}
use Rattle.tdb_openers.proofs.ExplicitLocks.Aside.{held_before}
use Rattle.tdb_openers.proofs.ExplicitLocks.Beside.{all_here, all_below}
use Rattle.tdb_openers.proofs.Joining.Closed.{bare_walk}
use Rattle.tdb_openers.proofs.Files.Images.{image_keeps_world}
use Rattle.tdb_openers.proofs.Joining.Putting.{by_number}
use Rattle.tdb_openers.proofs.Joining.Stood.{injected}
use Rattle.tdb_world.specs.States.{IsAside, IsStateOf, SideIs, once}
use Rattle.tdb_world.specs.States.IsStateOf.{of_whole, of_stale}
use Rattle.tdb_world.specs.Steps.{HasCommand, HasNoCommand, HasThis, IsAmong}
use Rattle.tdb_world.specs.Steps.HasCommand.{by_aside, by_start, by_job}
use Rattle.tdb_world.specs.Steps.HasNoCommand.{idle_aside, idle_among}
use Rattle.tdb_world.specs.Steps.IsAmong.{among_all, among_others}
use Rattle.tdb_world.specs.Whole.{Whole, AsideFits, HolderFits, WorldFits, form_at, is_starting}
use Rattle.tdb_world.proofs.Staged.{writing_is}

-- the openers stand over any bytes
pub any_image : (w : World) (a b : List ℕ) (size : ℕ) → Stands w a size → Stands w b size
any_image w a b size W = image_keeps_world (form_in w.header) w.options w.openers w.table a b size size W (le_refl size) W.short

outside : (options : Options) (x : Option Opener) → (own_at options x).txn ≡ None
outside options None = refl
outside options (Some x) = refl

-- none of the openers has a transaction
pub plain : (w : World) (img : List ℕ) → IsPlain (state_in w img)
plain w img = record { outside = λ o. outside w.options (slice_get w.openers o); ready = refl }

-- a lock of all records is held as it is at that byte
once_held : (r : Option Kind) (b : ℕ) → all_held (all_of (once r)) b ≡ records_at r b
once_held None b = refl
once_held (Some kind) b = at (covers (lock_all 0 (strength_of kind)) b)
  where
    at : (z : Bool) → max (if z then strength_of kind else 0) 0 ≡ (if z then strength_of kind else 0)
    at true = omega arith
    at false = omega arith

-- the one aside, in a state
module _ (w : Whole) (h : HolderState) (any : List ℕ) (size : ℕ) (W : Stands w.openers any size) (F : HolderFits w h size) (history : History) (img : List ℕ) (past : Past) (s : Side) (A : IsAside w h history img past s) where
  abbrev p : State
  p = state_in w.openers img

  stands : Stands w.openers img size
  stands = any_image w.openers any img size W

  -- it is this opener
  pub aside_here : law_opener h.owner ≡ s.here
  aside_here = by_number h.owner s.here A.side.here

  pub aside_there : slice_get w.openers.openers s.here ≡ Some F.opener
  aside_there = subst (λ o. slice_get w.openers.openers o ≡ Some F.opener) (let a = A.side.here in let b = F.number.counted in omega (arith, a, b)) F.number.there

  pub aside_begun : is_starting w.starts s.here ≡ false
  aside_begun = ap (is_starting w.starts) (sym aside_here) ∙ F.begun

  holds : (b : ℕ) → p.table s.here b ≡ all_held (all_of (once (stage_records h.stage))) b
  holds b = held_before (form_at w) w.openers.options w.openers.openers w.openers.table img size s.here F.opener stands aside_there F.bare b ∙ ap (λ all. all_held (all_of all) b) (A.records F.opener F.number)

  pub stands_aside : StandsAside p s
  stands_aside = record {
    joined = stands.sound.live_joined s.here (ap (λ z. (own_at w.openers.options z).live) aside_there ∙ F.bare.live);
    idle = ap task_at aside_there ∙ ap law_task F.bare.idle;
    spot = ap spot_at aside_there ∙ ap (λ z. spot_by z.cursor) (bare_walk w.openers h.owner F.opener F.number F.bare img size stands);
    records = λ b from. records_law (form_at w) w.openers.options h.owner h.locks h.stage A.known past s A.side b from ∙ (sym (once_held (stage_records h.stage) b) ∙ sym (holds b));
    below = λ b under. holds b ∙ all_below (once (stage_records h.stage)) b (omega (arith, under));
    shuts = λ e b from upto.
        let all = writing_is (stage_records h.stage) (sym A.shuts ∙ e) in
        records_law (form_at w) w.openers.options h.owner h.locks h.stage A.known past s A.side b (omega (arith, from))
        ∙ (sym (once_held (stage_records h.stage) b) ∙ (ap (λ r. all_held (all_of (once r)) b) all ∙ all_here Write 1 b from upto));
  }

-- whoever is aside stands by
pub stands_by : (w : Whole) (holder : Option HolderState) (any : List ℕ) (size : ℕ) → Stands w.openers any size → AsideFits w holder size → (history : History) (img : List ℕ) (past : Past) (side : Option Side)
    → SideIs w holder history img past side → StandsBy (state_in w.openers img) side
stands_by w None any size W F history img past None A = tt
stands_by w (Some h) any size W F history img past (Some s) A = stands_aside w h any size W F history img past s A
stands_by w None any size W F history img past (Some s) A = absurd A
stands_by w (Some h) any size W F history img past None A = absurd A

-- Those that have a Start without a turn may have it, also beside the one aside.
module _ (w : Whole) (any : List ℕ) (size : ℕ) (F : WorldFits w any size) (img : List ℕ) where
  abbrev q : State
  q = state_in w.openers img

  pub may_start : MayStart (is_starting w.starts) q
  may_start = record {
    live = λ o e. ap (λ z. (own_at w.openers.options z).live) (F.starts o e).there ∙ (F.starts o e).bare.live;
    idle = λ o e. ap task_at (F.starts o e).there ∙ ap law_task (F.starts o e).bare.idle;
  }

  start_else : (s : Side) → is_starting w.starts s.here ≡ false → (o : ℕ) → is_starting w.starts o ≡ true → o ≢ s.here
  start_else s ne o e is = never_true (sym ne ∙ ap (is_starting w.starts) (sym is) ∙ e)

  pub may_start_whole : (holder : Option HolderState) → AsideFits w holder size → (history : History) (past : Past) (side : Option Side) → SideIs w holder history img past side → MayStart (is_starting w.starts) (whole q past side)
  may_start_whole None A history past None is = record { live = may_start.live; idle = may_start.idle }
  may_start_whole (Some h) A history past (Some s) is =
      let else_where = start_else s (aside_begun w h any size F.openers A history img past s is) in
      record {
        live = λ o e. ap (λ x. x.live) (put_else q.own s.here s.own o (else_where o e)) ∙ may_start.live o e;
        idle = λ o e. put_else q.task s.here s.task o (else_where o e) ∙ may_start.idle o e;
      }
  may_start_whole None A history past (Some s) is = absurd is
  may_start_whole (Some h) A history past None is = absurd is

-- an opener that isn't the one aside is another in a state
pub same_holder : (w : Whole) (h g : HolderState) → w.aside ≡ Some h → w.aside ≡ Some g → g ≡ h
same_holder w h g e d = injected (sym d ∙ e)

pub side_else : (w : Whole) (who : ℕ) → 1 ≤ who → IsAmong w who → (holder : Option HolderState) → w.aside ≡ holder → (history : History) (img : List ℕ) (past : Past) (side : Option Side) → SideIs w holder history img past side → IsElse side (law_opener who)
side_else w who named among None e history img past None is = tt
side_else w who named among None e history img past (Some s) is = absurd is
side_else w who named among (Some h) e history img past None is = absurd is
side_else w who named (among_all none) (Some h) e history img past (Some s) is = absurd (let both : None ≡ Some h = sym none ∙ e in cc both)
side_else w who named (among_others g some other) (Some h) e history img past (Some s) is = λ same.
    let here = is.side.here in
    let owner : g.owner ≡ h.owner = ap (λ (z : HolderState). z.owner) (same_holder w h g e some) in
    other (omega (arith, here, owner, same, named))

-- What the state has of another opener is what the openers have, but for a Start.
pub own_else : (q : State) (past : Past) (side : Option Side) (o : ℕ) → IsElse side o → (whole q past side).own o ≡ q.own o
own_else q past None o ne = refl
own_else q past (Some s) o ne = put_else q.own s.here s.own o ne

pub task_else : (q : State) (past : Past) (side : Option Side) (o : ℕ) → IsElse side o → (whole q past side).task o ≡ q.task o
task_else q past None o ne = refl
task_else q past (Some s) o ne = put_else q.task s.here s.task o ne

pub spot_else : (q : State) (past : Past) (side : Option Side) (o : ℕ) → IsElse side o → (whole q past side).spot o ≡ q.spot o
spot_else q past None o ne = refl
spot_else q past (Some s) o ne = put_else q.spot s.here nowhere o ne

module _ (w : Whole) (who : ℕ) (named : 1 ≤ who) (among : IsAmong w who) (history : History) (state : State) where
  pub own_in : IsStateOf w history state → state.own (law_opener who) ≡ own_at w.openers.options (slice_get w.openers.openers (law_opener who))
  own_in (of_whole S) =
      ap (λ (z : State). z.own (law_opener who)) S.is
      ∙ own_else (state_in w.openers S.image) S.past S.side (law_opener who) (side_else w who named among w.aside refl history S.image S.past S.side S.is_side)
  own_in (of_stale S) = ap (λ (z : State). z.own (law_opener who)) S.is

  pub task_in : is_starting w.starts (law_opener who) ≡ false → IsStateOf w history state → state.task (law_opener who) ≡ task_at (slice_get w.openers.openers (law_opener who))
  task_in none (of_whole S) =
      ap (λ (z : State). z.task (law_opener who)) S.is ∙ task_not (is_starting w.starts) (whole (state_in w.openers S.image) S.past S.side) (law_opener who) none
      ∙ task_else (state_in w.openers S.image) S.past S.side (law_opener who) (side_else w who named among w.aside refl history S.image S.past S.side S.is_side)
  task_in none (of_stale S) =
      ap (λ (z : State). z.task (law_opener who)) S.is ∙ task_not (is_starting w.starts) (record (alone (state_in w.openers S.image) S.past) { stale = true }) (law_opener who) none

  pub spot_in : IsStateOf w history state → state.spot (law_opener who) ≡ spot_at (slice_get w.openers.openers (law_opener who))
  spot_in (of_whole S) =
      ap (λ (z : State). z.spot (law_opener who)) S.is
      ∙ spot_else (state_in w.openers S.image) S.past S.side (law_opener who) (side_else w who named among w.aside refl history S.image S.past S.side S.is_side)
  spot_in (of_stale S) = ap (λ (z : State). z.spot (law_opener who)) S.is

-- and that has the new Start
pub start_in : (w : Whole) (o : ℕ) (history : History) (state : State) → is_starting w.starts o ≡ true → IsStateOf w history state → state.task o ≡ Some new_start
start_in w o history state e (of_whole S) = ap (λ (z : State). z.task o) S.is ∙ task_is (is_starting w.starts) (whole (state_in w.openers S.image) S.past S.side) o e
start_in w o history state e (of_stale S) = ap (λ (z : State). z.task o) S.is ∙ task_is (is_starting w.starts) (record (alone (state_in w.openers S.image) S.past) { stale = true }) o e

-- The one aside has the command of its stage.
side_task : (w : Whole) (h : HolderState) (any : List ℕ) (size : ℕ) → Stands w.openers any size → (holder : Option HolderState) → holder ≡ Some h → AsideFits w holder size → (history : History) (img : List ℕ) (past : Past) (side : Option Side)
    → SideIs w holder history img past side → (with_starts (is_starting w.starts) (whole (state_in w.openers img) past side)).task (law_opener h.owner) ≡ stage_task h.stage
side_task w h any size W None e F history img past side is = absurd (cc e)
side_task w h any size W (Some g) e F history img past None is = absurd is
side_task w h any size W (Some g) e F history img past (Some s) is =
    let q = state_in w.openers img in
    let same : g ≡ h = injected e in
    let begun = F.begun in
    let task : (with_starts (is_starting w.starts) (beside q past s)).task (law_opener g.owner) ≡ stage_task g.stage =
    task_not (is_starting w.starts) (beside q past s) (law_opener g.owner) begun ∙ put_here q.task s.here s.task (law_opener g.owner) (aside_here w g any size W F history img past s is) ∙ is.side.task in
    subst (λ (z : HolderState). (with_starts (is_starting w.starts) (beside q past s)).task (law_opener z.owner) ≡ stage_task z.stage) same task

pub aside_task : (w : Whole) (h : HolderState) (any : List ℕ) (size : ℕ) → WorldFits w any size → w.aside ≡ Some h → (history : History) (state : State) → IsStateOf w history state → state.task (law_opener h.owner) ≡ stage_task h.stage
aside_task w h any size F e history state (of_whole S) =
    ap (λ (z : State). z.task (law_opener h.owner)) S.is ∙ side_task w h any size F.openers w.aside e F.aside history S.image S.past S.side S.is_side
aside_task w h any size F e history state (of_stale S) = absurd (let none : None ≡ Some h = sym S.nobody ∙ e in cc none)

-- an opener isn't aside and among the others
pub never_both : (w : Whole) (who : ℕ) (h : HolderState) → w.aside ≡ Some h → who ≡ h.owner → IsAmong w who → ⊥
never_both w who h e is (among_all none) = let both : None ≡ Some h = sym none ∙ e in cc both
never_both w who h e is (among_others g some other) = other (is ∙ ap (λ (z : HolderState). z.owner) (sym (same_holder w h g e some)))

-- among the others it has its command, or none, as they have it
pub busy_among : (w : Whole) (who : ℕ) → IsAmong w who → is_starting w.starts (law_opener who) ≡ false → HasCommand w who → (x : Opener) × (t : JobTask) × IsBusy w.openers who x t
busy_among w who among none (by_aside h t e is busy) = absurd (never_both w who h e is among)
busy_among w who among none (by_start begun other) = absurd (never_true (sym none ∙ begun))
busy_among w who among none (by_job x t B still other) = (x, t, B)

-- what is told of the one aside, and of another, is the command that it has
pub aside_has : (w : Whole) (who : ℕ) (c : Command) (h : HolderState) → w.aside ≡ Some h → who ≡ h.owner → ((t : Task) → stage_task h.stage ≡ Some t → c ≡ t.command) → HasCommand w who → HasThis w who c
aside_has w who c h e is told (by_aside g t d owner busy) = (by_aside g t d owner busy, told t (subst (λ (z : HolderState). stage_task z.stage ≡ Some t) (same_holder w h g e d) busy))
aside_has w who c h e is told (by_start begun among) = absurd (never_both w who h e is among)
aside_has w who c h e is told (by_job x t B none among) = absurd (never_both w who h e is among)

pub among_has : (w : Whole) (who : ℕ) (c : Command) → IsAmong w who → is_starting w.starts (law_opener who) ≡ false → ((x : Opener) (t : JobTask) → IsBusy w.openers who x t → c ≡ (law_of_task t).command) → HasCommand w who → HasThis w who c
among_has w who c among none told (by_aside h t e is busy) = absurd (never_both w who h e is among)
among_has w who c among none told (by_start begun other) = absurd (never_true (sym none ∙ begun))
among_has w who c among none told (by_job x t B still other) = (by_job x t B still other, told x t B)

pub free_among : (w : Whole) (who : ℕ) → IsAmong w who → HasNoCommand w who → (x : Opener) × IsFree w.openers who x × (is_starting w.starts (law_opener who) ≡ false)
free_among w who among (idle_aside h e is idle) = absurd (never_both w who h e is among)
free_among w who among (idle_among x X none other) = (x, X, none)

-- the one aside has none
pub idle_holder : (w : Whole) (who : ℕ) (h : HolderState) → w.aside ≡ Some h → who ≡ h.owner → HasNoCommand w who → stage_task h.stage ≡ None
idle_holder w who h e is (idle_aside g some its idle) = subst (λ (z : HolderState). stage_task z.stage ≡ None) (same_holder w h g e some) idle
idle_holder w who h e is (idle_among x X none among) = absurd (never_both w who h e is among)

pub there_named : (w : World) (who : ℕ) (x : Opener) → IsNumber w who x → slice_get w.openers (law_opener who) ≡ Some x
there_named w who x N = subst (λ o. slice_get w.openers o ≡ Some x) (sym (by_number who N.place N.counted)) N.there
