-- The turn for which the lock of records is taken; or it is blocked by another's lock; or memory was wanting for it.
use Rattle.std.proofs.Common.{◌≡◌, ℕ, List, Some, None, refl, sym, ◌∙◌, ap, subst}
use Rattle.std.proofs.lemmas.Result.{IfOk-weaker, on_err_weaker, on_ok_weaker}
use Rattle.tdb_disk.specs.History.{seen}
use Rattle.tdb_disk.specs.Stop.{LeavesOnly}
use Rattle.tdb_commands.specs.InLaw.{law_opener, law_turn}
use Rattle.tdb_law.specs.Commands.Turn.{Blocked}
use Rattle.tdb_locks.specs.declared.kind.Kind.{Kind}
use Rattle.tdb_txn_owner.specs.Holders.{HolderState, HolderTurned}
use Rattle.tdb_txn_owner.specs.Syncs.{HolderPlans}
use Rattle.tdb_txn_owner.specs.Wanting.{stage_wants}
use Rattle.tdb_txn_owner.specs.declared.wanting.Wants.{Wants}
use Rattle.tdb_openers.specs.Aside.{HoldsRecords}
use Rattle.tdb_openers.specs.Worlds.{BytesStand, IsNumber, Stands}
use Rattle.tdb_world.specs.contracts.all_openers.AllOpeners.{the_view}
use Rattle.tdb_world.specs.Claims.{Claimed, ClaimStands, IsBarred}
use Rattle.tdb_world.specs.States.{IsStateOf}
use Rattle.tdb_world.specs.Steps.{with_aside, TurnLeads}
use Rattle.tdb_world.specs.Room.{FullAside}
use Rattle.tdb_world.specs.Stopped.{StoppedAside}
use Rattle.tdb_world.specs.Stops.{IsSafe, TurnMayLeave}
use Rattle.tdb_world.specs.Syncs.{PlansAside}
use Rattle.tdb_world.specs.Whole.{form_at, options_at, Whole, WorldFits}
use Rattle.tdb_world.proofs.Fitting.{fits_starved}
use Rattle.tdb_world.proofs.Fullness.{blocked_full, starved_full}
use Rattle.tdb_world.proofs.Settled.{claim_stands}
use Rattle.tdb_world.proofs.Stopping.{still_leaves}
use Rattle.tdb_world.proofs.TurnsLead.{blocked_leads, starved_leads}
use Rattle.tdb_world.proofs.Synced.{barred_records, records_still}
use Rattle.tdb_world.proofs.all_openers.AllOpeners.step_aside.Given
use Rattle.tdb_world.proofs.all_openers.AllOpeners.step_aside.Goals as goal

module _ (g : Given.Over) (c : goal.After-claimed_turn g) where
  F : WorldFits (with_aside (the_view c.self.inside) c.args.holder) (seen (g.D.Disk.history c.args.d.now)) (g.D.Disk.size c.args.d.now)
  F = subst (λ w. WorldFits (with_aside w c.args.holder) (seen (g.D.Disk.history c.args.d.now)) (g.D.Disk.size c.args.d.now)) (sym c.self.view_is) c.requires.fits

  stands : ClaimStands (record (the_view c.self.inside) { openers = c.claim_records.new.openers }) c.args.holder (seen (g.D.Disk.history c.args.d.now)) (g.D.Disk.size c.args.d.now) c.self.inside.openers F.aside.opener
  stands = claim_stands (the_view c.self.inside) c.args.holder (seen (g.D.Disk.history c.args.d.now)) (g.D.Disk.size c.args.d.now) F c.claim_records.new.openers
      (subst (λ (wants : Wants). Claimed c.self.inside.openers c.args.holder.owner F.aside.opener wants c.claim_records.new.openers) c.wants-wants.ensures.stage
      (subst (λ who. Claimed c.self.inside.openers who F.aside.opener c.wants-wants.result c.claim_records.new.openers) c.owner-who.ensures
      (c.in-Taken.ensures.taken refl F.aside.opener (subst (λ who. IsNumber c.self.inside.openers who F.aside.opener) (sym c.owner-who.ensures) F.aside.number))))

pub returns-in-Taken-clause-turned : goal.returns-in-Taken-clause-turned
returns-in-Taken-clause-turned g c =
    IfOk-weaker c.claimed_turn.result _ _
    (λ turn lead told. subst (λ w. TurnLeads (with_aside w c.args.holder) c.claimed_turn.new.self (g.D.Disk.history c.args.d.now) (g.D.Disk.history c.claimed_turn.new.d) c.args.holder.owner (law_turn turn)) c.self.view_is
    (lead told c.self.inside.openers (F g c).aside.opener (stands g c)))
    c.claimed_turn.ensures.turned

pub returns-in-Taken-clause-cause : goal.returns-in-Taken-clause-cause
returns-in-Taken-clause-cause g c = λ told state S.
    c.claimed_turn.ensures.cause told c.self.inside.openers (F g c).aside.opener state (stands g c)
    (subst (λ w. IsStateOf (with_aside w c.args.holder) (g.D.Disk.history c.args.d.now) state) (sym c.self.view_is) S)

pub returns-in-Blocked-clause-turned : goal.returns-in-Blocked-clause-turned
returns-in-Blocked-clause-turned g c = λ told.
    let h = c.args.holder in
    let kept = c.in-Blocked.ensures.kept (λ e. cc e) in
    let same : c.put_aside.new.self ≡ with_aside c.args.self.now h =
    c.put_aside.ensures ∙ (ap (λ o. record (the_view c.self.inside) { openers = o; aside = Some h }) kept ∙ ap (λ (w : Whole). with_aside w h) c.self.view_is) in
    let barred = subst (λ o. IsBarred o h.owner (stage_wants h.stage) c.in-Blocked.owner c.in-Blocked.byte) (ap (λ (w : Whole). w.openers) c.self.view_is)
    (subst (λ (wants : Wants). IsBarred c.self.inside.openers h.owner wants c.in-Blocked.owner c.in-Blocked.byte) c.wants-wants.ensures.stage
    (subst (λ who. IsBarred c.self.inside.openers who c.wants-wants.result c.in-Blocked.owner c.in-Blocked.byte) c.owner-who.ensures (c.in-Blocked.ensures.blocked c.in-Blocked.owner c.in-Blocked.byte refl))) in
    subst (λ z. TurnLeads (with_aside c.args.self.now h) z (g.D.Disk.history c.args.d.now) (g.D.Disk.history c.args.d.now) h.owner (Blocked (law_opener c.in-Blocked.owner) c.in-Blocked.byte)) (sym same)
    (blocked_leads c.args.self.now h c.requires.fresh c.requires.busy (seen (g.D.Disk.history c.args.d.now)) (g.D.Disk.size c.args.d.now) c.requires.fits (g.D.Disk.history c.args.d.now) c.in-Blocked.owner c.in-Blocked.byte barred)

module _ (g : Given.Over) (c : goal.After-starve g) where
  abbrev w : Whole
  w = the_view c.self.inside

  abbrev h : HolderState
  h = c.args.holder

  abbrev img : List ℕ
  img = seen (g.D.Disk.history c.args.d.now)

  abbrev size : ℕ
  size = g.D.Disk.size c.args.d.now

  stood : WorldFits (with_aside w h) img size
  stood = subst (λ v. WorldFits (with_aside v h) img size) (sym c.self.view_is) c.requires.fits

  nobody : w.aside ≡ None
  nobody = ap (λ (v : Whole). v.aside) c.self.view_is ∙ c.requires.none

  same : c.claim_records.new.openers ≡ w.openers
  same = c.in-Starved.ensures.kept (λ e. cc e)

  freed : HoldsRecords w.openers h.owner stood.aside.opener None c.let_go_of_records.new.self
  freed =
      subst (λ o. HoldsRecords o h.owner stood.aside.opener None c.let_go_of_records.new.self) same
      (subst (λ who. HoldsRecords c.claim_records.new.openers who stood.aside.opener None c.let_go_of_records.new.self) c.owner-who.ensures
      (c.let_go_of_records.ensures.let_go stood.aside.opener
      (subst (λ who. IsNumber c.claim_records.new.openers who stood.aside.opener) (sym c.owner-who.ensures) (subst (λ o. IsNumber o h.owner stood.aside.opener) (sym same) stood.aside.number))))

  bytes : (i : List ℕ) → BytesStand w.openers i → BytesStand c.let_go_of_records.new.self i
  bytes i G = c.let_go_of_records.ensures.bytes i (subst (λ o. BytesStand o i) (sym same) G)

  left_fits : WorldFits (record w { openers = c.let_go_of_records.new.self; aside = None }) img size
  left_fits = fits_starved w h img size stood w.number c.let_go_of_records.new.self freed (c.let_go_of_records.ensures.stands img size (subst (λ o. Stands o img size) (sym same) stood.openers))

  told_kind : (kind : Kind) × (stage_wants h.stage ≡ Wants.Records kind)
  told_kind = let k = c.in-Starved.ensures.starved refl in (k.0, sym c.wants-wants.ensures.stage ∙ k.1)

  left_leads : TurnLeads (with_aside w h) (record w { openers = c.let_go_of_records.new.self; aside = None }) (g.D.Disk.history c.args.d.now) (g.D.Disk.history c.args.d.now) h.owner (law_turn c.starve.result)
  left_leads =
      let history = g.D.Disk.history c.args.d.now in
      subst (λ u. TurnLeads (with_aside w h) (record w { openers = c.let_go_of_records.new.self; aside = None }) history history h.owner u) (sym (ap law_turn c.starve.ensures.turn))
      (starved_leads w h (ap (λ (v : Whole). v.stale) c.self.view_is ∙ c.requires.fresh) c.requires.busy img size stood told_kind.0 told_kind.1 history c.let_go_of_records.new.self freed bytes
      (λ table k past s t S K has M. subst (λ u. HolderTurned (form_at w) (options_at w) table h None history history k past s t u) (ap law_turn c.starve.ensures.turn)
      (c.starve.ensures.turned (form_at w) (options_at w) table history k past s t S K has M)))

pub returns-in-Starved-clause-fits : goal.returns-in-Starved-clause-fits
returns-in-Starved-clause-fits g c = subst (λ a. WorldFits (record (the_view c.self.inside) { openers = c.let_go_of_records.new.self; aside = a }) (img g c) (size g c)) (sym (nobody g c)) (left_fits g c)

pub returns-in-Starved-clause-turned : goal.returns-in-Starved-clause-turned
returns-in-Starved-clause-turned g c = λ told.
    let history = g.D.Disk.history c.args.d.now in
    subst (λ v. TurnLeads (with_aside v c.args.holder) (record (the_view c.self.inside) { openers = c.let_go_of_records.new.self }) history history c.args.holder.owner (law_turn c.starve.result)) c.self.view_is
    (subst (λ a. TurnLeads (with_aside (the_view c.self.inside) c.args.holder) (record (the_view c.self.inside) { openers = c.let_go_of_records.new.self; aside = a }) history history c.args.holder.owner (law_turn c.starve.result))
    (sym (nobody g c)) (left_leads g c))

pub returns-in-Taken-clause-stops : goal.returns-in-Taken-clause-stops
returns-in-Taken-clause-stops g c = λ told state S safe.
    let header = ap (λ (w : Whole). form_at w) c.self.view_is in
    let h = g.D.Disk.history c.args.d.now in
    subst (λ f. LeavesOnly h (g.D.Disk.history c.claimed_turn.new.d) (TurnMayLeave f state (law_opener c.args.holder.owner))) header
    (c.claimed_turn.ensures.stops told c.self.inside.openers (F g c).aside.opener state (stands g c)
    (subst (λ w. IsStateOf (with_aside w c.args.holder) h state) (sym c.self.view_is) S) (subst (λ f. IsSafe f h) (sym header) safe))

pub returns-in-Taken-clause-safe : goal.returns-in-Taken-clause-safe
returns-in-Taken-clause-safe g c =
    let header = ap (λ (w : Whole). form_at w) c.self.view_is in
    let h = g.D.Disk.history c.args.d.now in
    on_ok_weaker c.claimed_turn.result
    (λ keeps told state S safe. subst (λ f. IsSafe f (g.D.Disk.history c.claimed_turn.new.d)) header
    (keeps told c.self.inside.openers (F g c).aside.opener state (stands g c)
    (subst (λ w. IsStateOf (with_aside w c.args.holder) h state) (sym c.self.view_is) S) (subst (λ f. IsSafe f h) (sym header) safe)))
    c.claimed_turn.ensures.safe

pub returns-in-Blocked-clause-stops : goal.returns-in-Blocked-clause-stops
returns-in-Blocked-clause-stops g c = λ told state S safe.
    let h = g.D.Disk.history c.args.d.now in still_leaves (with_aside c.args.self.now c.args.holder) h h state (law_opener c.args.holder.owner) refl S safe

pub returns-in-Starved-clause-stops : goal.returns-in-Starved-clause-stops
returns-in-Starved-clause-stops g c = λ told state S safe.
    let h = g.D.Disk.history c.args.d.now in still_leaves (with_aside c.args.self.now c.args.holder) h h state (law_opener c.args.holder.owner) refl S safe

pub returns-in-Blocked-clause-syncs : goal.returns-in-Blocked-clause-syncs
returns-in-Blocked-clause-syncs g c =
    let wants = barred_records c.self.inside.openers c.owner-who.result c.in-Blocked.owner c.in-Blocked.byte c.wants-wants.result (c.in-Blocked.ensures.blocked c.in-Blocked.owner c.in-Blocked.byte refl) in
    records_still c.args.holder.stage wants.0 c.in-Blocked.owner c.in-Blocked.byte (g.D.Disk.syncs c.args.d.now) (sym c.wants-wants.ensures.stage ∙ wants.1)

pub returns-in-Taken-clause-full : goal.returns-in-Taken-clause-full
returns-in-Taken-clause-full g c =
    IfOk-weaker c.claimed_turn.result _ _
    (λ turn full told. subst (λ w. FullAside (with_aside w c.args.holder) c.args.holder (g.D.Disk.history c.args.d.now) (law_turn turn)) c.self.view_is
    (full told c.self.inside.openers (F g c).aside.opener (stands g c)))
    c.claimed_turn.ensures.full

pub returns-in-Blocked-clause-full : goal.returns-in-Blocked-clause-full
returns-in-Blocked-clause-full g c = λ told.
    let wants = barred_records c.self.inside.openers c.owner-who.result c.in-Blocked.owner c.in-Blocked.byte c.wants-wants.result (c.in-Blocked.ensures.blocked c.in-Blocked.owner c.in-Blocked.byte refl) in
    blocked_full (with_aside c.args.self.now c.args.holder) c.args.holder (g.D.Disk.history c.args.d.now) wants.0 (sym c.wants-wants.ensures.stage ∙ wants.1) (law_opener c.in-Blocked.owner) c.in-Blocked.byte

pub returns-in-Starved-clause-full : goal.returns-in-Starved-clause-full
returns-in-Starved-clause-full g c = λ told.
    let w = with_aside c.args.self.now c.args.holder in
    let history = g.D.Disk.history c.args.d.now in
    let wants = c.in-Starved.ensures.starved refl in
    subst (FullAside w c.args.holder history) (sym (ap law_turn c.starve.ensures.turn)) (starved_full w c.args.holder history wants.0 (sym c.wants-wants.ensures.stage ∙ wants.1))

pub returns-in-Taken-clause-stopped : goal.returns-in-Taken-clause-stopped
returns-in-Taken-clause-stopped g c =
    on_err_weaker c.claimed_turn.result
    (λ stopped told. subst (λ w. StoppedAside (with_aside w c.args.holder) c.args.holder (g.D.Disk.history c.args.d.now) (g.D.Disk.history c.claimed_turn.new.d)) c.self.view_is
    (stopped told c.self.inside.openers (F g c).aside.opener (stands g c)))
    c.claimed_turn.ensures.stopped

pub returns-in-Taken-clause-plans : goal.returns-in-Taken-clause-plans
returns-in-Taken-clause-plans g c =
    IfOk-weaker c.claimed_turn.result _ _
    (λ turn plans told. subst (λ w. PlansAside (with_aside w c.args.holder) c.args.holder (g.D.Disk.history c.args.d.now) turn (g.D.Disk.syncs c.args.d.now) (g.D.Disk.syncs c.claimed_turn.new.d)) c.self.view_is
    (plans told c.self.inside.openers (F g c).aside.opener (stands g c)))
    c.claimed_turn.ensures.plans

pub returns-in-Starved-clause-plans : goal.returns-in-Starved-clause-plans
returns-in-Starved-clause-plans g c told image past s A =
    let n = g.D.Disk.syncs c.args.d.now in
    subst (λ turn. HolderPlans c.args.holder.stage image turn n n) (sym c.starve.ensures.turn) tt
