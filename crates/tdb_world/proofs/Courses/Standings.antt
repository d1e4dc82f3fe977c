-- How the openers of a world stand in its states.
use Rattle.std.proofs.Common.{◌≡◌, ◌≤◌, ℕ, List, length, slice_get, Option, true, false, Some, None, refl, sym, ◌∙◌, ap, subst, arith, inl, inr, ◌⊎◌}
use Rattle.std.proofs.lemmas.Bool.{cases_Bool, cases_eq}
use Rattle.tdb_disk.specs.History.{History}
use Rattle.tdb_law.specs.Openers.{Own, Task}
use Rattle.tdb_law.specs.World.{State}
use Rattle.tdb_law.proofs.Tests.{never_true}
use Rattle.tdb_law.proofs.Walking.{put_here}
use Rattle.tdb_law.specs.OneAside.Sides.{Past, Side, whole}
use Rattle.tdb_law.specs.OneAside.Starts.{new_start}
use Rattle.tdb_txn_owner.specs.Holders.{HolderState}
use Rattle.tdb_txn_owner.specs.Stages.{stage_task}
use Rattle.tdb_commands.proofs.NameLemmas.{each_command}
use Rattle.tdb_commands.specs.InLaw.{law_opener, law_command}
use Rattle.tdb_commands.specs.declared.command.Command.{Command}
use Rattle.tdb_openers.specs.Openers.{law_task, own_at, task_at}
use Rattle.tdb_openers.specs.Worlds.{state_in, law_of_task, IsBusy, IsFree, IsNumber}
use Rattle.tdb_openers.specs.declared.job.Task.{Task as JobTask}
use Rattle.tdb_openers.specs.declared.opener.Opener.{Opener}
use Rattle.tdb_world.specs.States.{IsStateOf, SideIs}
use Rattle.tdb_world.specs.States.IsStateOf.{of_whole, of_stale}
use Rattle.tdb_world.specs.Steps.{command_had, HasCommand, HasNoCommand, HasThis, IsAmong}
use Rattle.tdb_world.specs.Steps.HasCommand.{by_aside, by_start, by_job}
use Rattle.tdb_world.specs.Steps.HasNoCommand.{idle_aside, idle_among}
use Rattle.tdb_world.specs.Steps.IsAmong.{among_all, among_others}
use Rattle.tdb_world.specs.Whole.{Whole, AsideFits, WorldFits, is_starting}
use Rattle.tdb_world.proofs.Standings.{aside_here, aside_task, own_in, same_holder, start_in, task_in, there_named}
use Rattle.tdb_world.specs.Courses.Turns.{IsToldOf}

-- as many have joined as the world has openers
joined_so : (w : Whole) (img : List ℕ) (past : Past) (side : Option Side) → (whole (state_in w.openers img) past side).joined ≡ length w.openers.openers
joined_so w img past None = refl
joined_so w img past (Some s) = refl

pub joined_in : (w : Whole) (h : History) (state : State) → IsStateOf w h state → state.joined ≡ length w.openers.openers
joined_in w h state (of_whole S) = ap (λ (z : State). z.joined) S.is ∙ joined_so w S.image S.past S.side
joined_in w h state (of_stale S) = ap (λ (z : State). z.joined) S.is

named_by : (w : Whole) (who : ℕ) (x : Opener) → IsNumber w.openers who x → 1 ≤ who
named_by w who x N = let counted = N.counted in omega (arith, counted)

module _ (w : Whole) (img : List ℕ) (size : ℕ) (F : WorldFits w img size) where
  -- the one aside is live
  side_live : (hd : HolderState) (holder : Option HolderState) → holder ≡ Some hd → AsideFits w holder size → (h : History) (image : List ℕ) (past : Past) (side : Option Side) → SideIs w holder h image past side
      → ((whole (state_in w.openers image) past side).own (law_opener hd.owner)).live ≡ true
  side_live hd None e A h image past side is = absurd (cc e)
  side_live hd (Some g) e A h image past None is = absurd is
  side_live hd (Some g) e A h image past (Some s) is =
      let q = state_in w.openers image in
      let owner : g.owner ≡ hd.owner = cc in
      ap (λ (x : Own). x.live) (put_here q.own s.here s.own (law_opener hd.owner) (ap law_opener (sym owner) ∙ aside_here w g img size F.openers A h image past s is)) ∙ is.side.live

  aside_live : (hd : HolderState) → w.aside ≡ Some hd → (h : History) (state : State) → IsStateOf w h state → (state.own (law_opener hd.owner)).live ≡ true
  aside_live hd e h state (of_whole S) = ap (λ (z : State). (z.own (law_opener hd.owner)).live) S.is ∙ side_live hd w.aside e F.aside h S.image S.past S.side S.is_side
  aside_live hd e h state (of_stale S) = absurd (let none : None ≡ Some hd = sym S.nobody ∙ e in cc none)

  -- an opener that has a command has the same one in each state
  same_task : (who : ℕ) (B : HasCommand w who) → (t : Task) × ((h : History) (state : State) → IsStateOf w h state → state.task (law_opener who) ≡ Some t) × (t.command ≡ command_had B)
  same_task who (by_aside hd t e owner busy) = (t, (λ h state is. ap (λ n. state.task (law_opener n)) owner ∙ aside_task w hd img size F e h state is ∙ busy), refl)
  same_task who (by_start begun among) = (new_start, (λ h state is. start_in w (law_opener who) h state begun is), refl)
  same_task who (by_job x t B none among) =
      (law_of_task t, (λ h state is. task_in w who (named_by w who x B.number) among h state none is ∙ ap task_at (there_named w.openers who x B.number) ∙ ap law_task B.busy), refl)

  -- and some command of the code is that one
  pub told_command : (who : ℕ) → HasCommand w who
      → (command : Command) × ((h : History) (state : State) → IsStateOf w h state → IsToldOf state (law_opener who) (law_command command)) × HasThis w who (law_command command)
  told_command who B =
      let T = same_task who B in
      let C = each_command.each T.0.command in (
        C.0,
        (λ h state is t e. let same : T.0 ≡ t = (let both : Some T.0 ≡ Some t = sym (T.1 h state is) ∙ e in cc both) in C.2 ∙ ap (λ (u : Task). u.command) same),
        (B, C.2 ∙ T.2),
      )

  module _ (who : ℕ) (h : History) (state : State) (is : IsStateOf w h state) where
    -- an opener that has a command has it in each state, and is live there
    pub busy_task : HasCommand w who → (t : Task) × (state.task (law_opener who) ≡ Some t)
    busy_task B = let T = same_task who B in (T.0, T.1 h state is)

    pub busy_live : HasCommand w who → 1 ≤ who → (state.own (law_opener who)).live ≡ true
    busy_live (by_aside hd t e owner busy) named = ap (λ n. (state.own (law_opener n)).live) owner ∙ aside_live hd e h state is
    busy_live (by_start begun among) named =
        let S = F.starts (law_opener who) begun in
        ap (λ (x : Own). x.live) (own_in w who named among h state is) ∙ ap (λ z. (own_at w.openers.options z).live) S.there ∙ S.bare.live
    busy_live (by_job x t B none among) named =
        ap (λ (x : Own). x.live) (own_in w who named among h state is)
        ∙ F.openers.sound.busy_there (law_opener who) (law_of_task t) (ap task_at (there_named w.openers who x B.number) ∙ ap law_task B.busy)

    pub busy_never_idle : HasCommand w who → state.task (law_opener who) ≡ None → ⊥
    busy_never_idle B none = let T = busy_task B in let both : Some T.0 ≡ None = sym T.1 ∙ none in cc both

    -- and one that has none is live and has none there
    pub free_task : HasNoCommand w who → state.task (law_opener who) ≡ None
    free_task (idle_aside hd e owner idle) = ap (λ n. state.task (law_opener n)) owner ∙ aside_task w hd img size F e h state is ∙ idle
    free_task (idle_among x X none among) =
        task_in w who (named_by w who x X.number) among h state none is ∙ ap task_at (there_named w.openers who x X.number) ∙ ap law_task X.idle

    pub free_live : HasNoCommand w who → (state.own (law_opener who)).live ≡ true
    free_live (idle_aside hd e owner idle) = ap (λ n. (state.own (law_opener n)).live) owner ∙ aside_live hd e h state is
    free_live (idle_among x X none among) =
        ap (λ (x : Own). x.live) (own_in w who (named_by w who x X.number) among h state is) ∙ ap (λ z. (own_at w.openers.options z).live) (there_named w.openers who x X.number) ∙ X.live

-- an opener has no command and one both
never_twice : (w : Whole) (who : ℕ) (x y : Opener) (t : JobTask) → IsFree w.openers who x → IsBusy w.openers who y t → ⊥
never_twice w who x y t X B =
    let same : Some x ≡ Some y = sym (there_named w.openers who x X.number) ∙ there_named w.openers who y B.number in
    let both : None ≡ Some t = sym X.idle ∙ ap (λ (z : Opener). z.task) (injected same) ∙ B.busy in
    cc both
  where
    injected : {A : Type 0} {a b : A} → Some a ≡ Some b → a ≡ b
    injected e = cc

-- nor is it aside and among the others
never_both : (w : Whole) (who : ℕ) (hd : HolderState) → w.aside ≡ Some hd → who ≡ hd.owner → IsAmong w who → ⊥
never_both w who hd e owner (among_all none) = let both : None ≡ Some hd = sym none ∙ e in cc both
never_both w who hd e owner (among_others g some other) = other (owner ∙ ap (λ (z : HolderState). z.owner) (sym (same_holder w hd g e some)))

pub free_never_busy : (w : Whole) (who : ℕ) → HasNoCommand w who → HasCommand w who → ⊥
free_never_busy w who (idle_aside g some its idle) (by_aside hd t e owner busy) =
    let both : None ≡ Some t = sym (subst (λ (z : HolderState). stage_task z.stage ≡ None) (same_holder w hd g e some) idle) ∙ busy in
    cc both
free_never_busy w who (idle_aside g some its idle) (by_start begun among) = never_both w who g some its among
free_never_busy w who (idle_aside g some its idle) (by_job x t B none among) = never_both w who g some its among
free_never_busy w who (idle_among x X none among) (by_aside hd t e owner busy) = never_both w who hd e owner among
free_never_busy w who (idle_among x X none among) (by_start begun other) = never_true (sym none ∙ begun)
free_never_busy w who (idle_among x X none among) (by_job y t B ne other) = never_twice w who x y t X B

-- it has one, or it has none
abbrev pub HasOrNot : Whole → ℕ → Type 0
HasOrNot w who = HasCommand w who ⊎ (HasCommand w who → ⊥)

has_at : (w : Whole) (who : ℕ) (hd : HolderState) → w.aside ≡ Some hd → who ≡ hd.owner → (o : Option Task) → stage_task hd.stage ≡ o → HasOrNot w who
has_at w who hd e owner (Some t) busy = inl (by_aside hd t e owner busy)
has_at w who hd e owner None idle = inr (free_never_busy w who (idle_aside hd e owner idle))

no_place : (w : Whole) (who : ℕ) → IsAmong w who → is_starting w.starts (law_opener who) ≡ false → ((x : Opener) (t : JobTask) → IsBusy w.openers who x t → ⊥) → HasCommand w who → ⊥
no_place w who among none not (by_aside hd t e owner busy) = never_both w who hd e owner among
no_place w who among none not (by_start begun other) = never_true (sym none ∙ begun)
no_place w who among none not (by_job x t B ne other) = not x t B

has_in : (w : Whole) (who : ℕ) → 1 ≤ who → IsAmong w who → is_starting w.starts (law_opener who) ≡ false → (x : Option Opener) → slice_get w.openers.openers (law_opener who) ≡ x → HasOrNot w who
has_in w who named among none None there =
    inr (no_place w who among none (λ y t B. let both : None ≡ Some y = sym there ∙ there_named w.openers who y B.number in cc both))
has_in w who named among none (Some x) there = by_its_task x.task refl
  where
    number : IsNumber w.openers who x
    number = record { place = law_opener who; counted = omega (arith, named); there = there }

    same : (y : Opener) → IsNumber w.openers who y → x ≡ y
    same y N = let e : Some x ≡ Some y = sym there ∙ there_named w.openers who y N in cc e

    by_its_task : (o : Option JobTask) → x.task ≡ o → HasOrNot w who
    by_its_task (Some t) busy = inl (by_job x t (record { number = number; busy = busy }) none among)
    by_its_task None idle =
        inr (no_place w who among none (λ y t B. let both : None ≡ Some t = sym idle ∙ ap (λ (z : Opener). z.task) (same y B.number) ∙ B.busy in cc both))

has_among : (w : Whole) (who : ℕ) → 1 ≤ who → IsAmong w who → HasOrNot w who
has_among w who named among = elim (cases_Bool (is_starting w.starts (law_opener who))) [
  | inl begun ↦ inl (by_start begun among)
  | inr none ↦ has_in w who named among none (slice_get w.openers.openers (law_opener who)) refl
]

has_by : (w : Whole) (who : ℕ) → 1 ≤ who → (holder : Option HolderState) → w.aside ≡ holder → HasOrNot w who
has_by w who named None e = has_among w who named (among_all e)
has_by w who named (Some hd) e = elim (cases_eq who hd.owner) [
  | inl is ↦ has_at w who hd e is (stage_task hd.stage) refl
  | inr other ↦ has_among w who named (among_others hd e other)
]

pub has_or_not : (w : Whole) (who : ℕ) → 1 ≤ who → HasOrNot w who
has_or_not w who named = has_by w who named w.aside refl

-- without a command in the world it has none in a state
idle_side : (w : Whole) (img : List ℕ) (size : ℕ) → WorldFits w img size → (who : ℕ) → 1 ≤ who → (HasCommand w who → ⊥) → (h : History) (state : State) → IsStateOf w h state → (hd : HolderState) → w.aside ≡ Some hd → who ≡ hd.owner
    → (o : Option Task) → stage_task hd.stage ≡ o → state.task (law_opener who) ≡ None
idle_side w img size F who named not h state is hd e owner None idle = free_task w img size F who h state is (idle_aside hd e owner idle)
idle_side w img size F who named not h state is hd e owner (Some t) busy = absurd (not (by_aside hd t e owner busy))

idle_there : (w : Whole) (who : ℕ) → 1 ≤ who → IsAmong w who → is_starting w.starts (law_opener who) ≡ false → (HasCommand w who → ⊥) → (x : Option Opener) → slice_get w.openers.openers (law_opener who) ≡ x → task_at x ≡ None
idle_there w who named among none not None there = refl
idle_there w who named among none not (Some x) there = by_its_task x.task refl
  where
    by_its_task : (o : Option JobTask) → x.task ≡ o → law_task x.task ≡ None
    by_its_task None idle = ap law_task idle
    by_its_task (Some t) busy = absurd (not (by_job x t (record { number = record { place = law_opener who; counted = omega (arith, named); there = there }; busy = busy }) none among))

idle_else : (w : Whole) (who : ℕ) → 1 ≤ who → (HasCommand w who → ⊥) → (h : History) (state : State) → IsStateOf w h state → IsAmong w who → state.task (law_opener who) ≡ None
idle_else w who named not h state is among = elim (cases_Bool (is_starting w.starts (law_opener who))) [
  | inl begun ↦ absurd (not (by_start begun among))
  | inr none ↦ task_in w who named among h state none is ∙ idle_there w who named among none not (slice_get w.openers.openers (law_opener who)) refl
]

idle_by : (w : Whole) (img : List ℕ) (size : ℕ) → WorldFits w img size → (who : ℕ) → 1 ≤ who → (HasCommand w who → ⊥) → (h : History) (state : State) → IsStateOf w h state → (holder : Option HolderState) → w.aside ≡ holder
    → state.task (law_opener who) ≡ None
idle_by w img size F who named not h state is None e = idle_else w who named not h state is (among_all e)
idle_by w img size F who named not h state is (Some hd) e = elim (cases_eq who hd.owner) [
  | inl owner ↦ idle_side w img size F who named not h state is hd e owner (stage_task hd.stage) refl
  | inr other ↦ idle_else w who named not h state is (among_others hd e other)
]

pub never_busy_idle : (w : Whole) (img : List ℕ) (size : ℕ) → WorldFits w img size → (who : ℕ) → 1 ≤ who → (HasCommand w who → ⊥) → (h : History) (state : State) → IsStateOf w h state → state.task (law_opener who) ≡ None
never_busy_idle w img size F who named not h state is = idle_by w img size F who named not h state is w.aside refl
