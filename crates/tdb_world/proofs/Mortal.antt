-- Which openers may die, in each state of the world.
use Rattle.std.proofs.Common.{◌≡◌, ◌≤◌, ℕ, List, [], true, false, Some, None, sym, ◌∙◌, ap, subst}
use Rattle.tdb_disk.specs.History.{History}
use Rattle.tdb_law.specs.Lines.{MayDie}
use Rattle.tdb_law.specs.Openers.{Own}
use Rattle.tdb_law.specs.World.{State}
use Rattle.tdb_law.proofs.Walking.{put_here}
use Rattle.tdb_commands.specs.InLaw.{law_opener}
use Rattle.tdb_law.specs.OneAside.Sides.{whole}
use Rattle.tdb_txn_owner.specs.Holders.{HolderState}
use Rattle.tdb_txn_owner.specs.Stages.{stage_task}
use Rattle.tdb_openers.specs.Died.{MayDieIn}
use Rattle.tdb_openers.specs.Died.{CanDie as CanDieAmong}
use Rattle.tdb_openers.specs.Worlds.{state_in}
use Rattle.tdb_openers.specs.declared.opener.Opener.{Opener}
use Rattle.tdb_world.specs.Died.{CanDie}
use Rattle.tdb_world.specs.Died.CanDie.{dies_aside, dies_among}
use Rattle.tdb_world.specs.States.{IsStateOf}
use Rattle.tdb_world.specs.States.IsStateOf.{of_whole, of_stale}
use Rattle.tdb_world.specs.Steps.{IsAmong}
use Rattle.tdb_world.specs.Whole.{Whole, WorldFits, is_starting}
use Rattle.tdb_world.proofs.DeathsAside.{holder_fits, side_of}
use Rattle.tdb_world.proofs.Standings.{aside_here, aside_task, never_both, own_in, same_holder, start_in, task_in}

-- the one aside is live in each state
aside_live : (w : Whole) (h : HolderState) (any : List ℕ) (size : ℕ) → WorldFits w any size → w.aside ≡ Some h → (history : History) (state : State) → IsStateOf w history state → (state.own (law_opener h.owner)).live ≡ true
aside_live w h any size F e history state (of_stale S) = absurd (let none : None ≡ Some h = sym S.nobody ∙ e in cc none)
aside_live w h any size F e history state (of_whole S) =
    let q = state_in w.openers S.image in
    let P = side_of w h history S.image S.past w.aside e S.side S.is_side in
    let at = aside_here w h any size F.openers (holder_fits w h any size F e) history S.image S.past P.0 P.2 in
    ap (λ (z : State). (z.own (law_opener h.owner)).live) S.is
    ∙ (ap (λ v. ((whole q S.past v).own (law_opener h.owner)).live) P.1 ∙ (ap (λ (x : Own). x.live) (put_here q.own P.0.here P.0.own (law_opener h.owner) at) ∙ P.2.side.live))

module _ (w : Whole) (who : ℕ) (any : List ℕ) (size : ℕ) (F : WorldFits w any size) (history : History) (state : State) (S : IsStateOf w history state) where
  -- so it may die where its command may be left so
  module _ (h : HolderState) (e : w.aside ≡ Some h) (named : who ≡ h.owner) where
    pub aside_may : MayDie (stage_task h.stage) → MayDieIn state (law_opener who)
    aside_may may =
        subst (λ i. MayDieIn state (law_opener i)) (sym named)
        (record { live = aside_live w h any size F e history state S; may_die = subst MayDie (sym (aside_task w h any size F e history state S)) may })

    pub aside_may_not : (MayDie (stage_task h.stage) → ⊥) → MayDieIn state (law_opener who) → ⊥
    aside_may_not never M = never (subst MayDie (ap (λ i. state.task (law_opener i)) named ∙ aside_task w h any size F e history state S) M.may_die)

  -- who has a Start may not
  pub start_may_not : is_starting w.starts (law_opener who) ≡ true → MayDieIn state (law_opener who) → ⊥
  start_may_not e M = subst MayDie (start_in w (law_opener who) history state e S) M.may_die

  -- and of all others their own state tells it
  module _ (named : 1 ≤ who) (among : IsAmong w who) (ne : is_starting w.starts (law_opener who) ≡ false) where
    pub among_may : MayDieIn (state_in w.openers []) (law_opener who) → MayDieIn state (law_opener who)
    among_may M = record { live = ap (λ (x : Own). x.live) (own_in w who named among history state S) ∙ M.live; may_die = subst MayDie (sym (task_in w who named among history state ne S)) M.may_die }

    pub among_may_not : (MayDieIn (state_in w.openers []) (law_opener who) → ⊥) → MayDieIn state (law_opener who) → ⊥
    among_may_not never M = never (record { live = ap (λ (x : Own). x.live) (sym (own_in w who named among history state S)) ∙ M.live; may_die = subst MayDie (task_in w who named among history state ne S) M.may_die })

-- who may die is among the others, or aside
pub can_among : (w : Whole) (who : ℕ) → IsAmong w who → CanDie w who → (x : Opener) × CanDieAmong w.openers who x × (is_starting w.starts (law_opener who) ≡ false)
can_among w who among (dies_aside h e named may) = absurd (never_both w who h e named among)
can_among w who among (dies_among x can ne here) = (x, can, ne)

pub can_aside : (w : Whole) (who : ℕ) (h : HolderState) → w.aside ≡ Some h → who ≡ h.owner → CanDie w who → MayDie (stage_task h.stage)
can_aside w who h e named (dies_aside g some its may) = subst (λ (z : HolderState). MayDie (stage_task z.stage)) (same_holder w h g e some) may
can_aside w who h e named (dies_among x can ne among) = absurd (never_both w who h e named among)
