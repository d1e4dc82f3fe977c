-- The turn for which the lock of records was taken, and what it leaves.
use Rattle.std.proofs.Common.{◌≡◌, ◌≤◌, ℕ, false, List, Option, None, Some, length, IsTrue, refl, sym, ◌∙◌, ap, subst, inl, arith}
use Rattle.std.proofs.lemmas.Result.{err_from_is_err_and}
use Rattle.tdb_disk.specs.History.{seen}
use Rattle.tdb_locks.specs.declared.kind.Kind.TheVariants.{Write}
use Rattle.tdb_space.specs.Form.{form_in}
use Rattle.tdb_steps.specs.Turns.{number_of}
use Rattle.tdb_commands.specs.InLaw.{law_opener, law_turn}
use Rattle.std.specs.Prelude.{IfSome}
use Rattle.tdb_words.specs.declared.header.Header.{Header}
use Rattle.tdb_locks.specs.declared.turn.Turn.{Turn as TurnIs}
use Rattle.tdb_locks.specs.declared.turn.Turn.TheVariants as Turn
use Rattle.tdb_commands.specs.declared.options.Options.{Options}
use Rattle.tdb_txn_owner.specs.Holders.{is_idle, left_stage, HolderState}
use Rattle.tdb_txn_owner.proofs.HolderTurns.{busy_task}
use Rattle.tdb_txn_owner.specs.Stages.{is_closing, IsFitLeft}
use Rattle.tdb_txn_owner.specs.Wanting.{stage_wants, StepGoesOn}
use Rattle.tdb_txn_owner.specs.declared.wanting.Wants.TheVariants as Wants
use Rattle.tdb_openers.specs.Worlds.{BytesStand, IsNumber, Stands, World}
use Rattle.tdb_openers.specs.declared.opener.Opener.{Opener}
use Rattle.tdb_world.specs.Claims.{ClaimStands, IsSettled}
use Rattle.tdb_world.specs.Room.{FullAside}
use Rattle.tdb_world.specs.Steps.{TurnLeads}
use Rattle.tdb_world.specs.Syncs.{PlansAside}
use Rattle.tdb_world.specs.Steps.HasCommand.{by_aside}
use Rattle.tdb_world.specs.Whole.{Whole, WorldFits}
use Rattle.tdb_world.proofs.ClaimUsed.{number_now, stood_now, used_fits, used_leads, C}
use Rattle.tdb_world.proofs.Fullness.{used_full}
use Rattle.tdb_world.proofs.Settled.{settled_world}
use Rattle.tdb_world.proofs.Stopped.{used_stopped}
use Rattle.tdb_world.proofs.Stopping.{still_leaves, used_safe, used_stops}
use Rattle.tdb_world.proofs.Synced.{used_plans}
use Rattle.tdb_world.proofs.all_openers.AllOpeners.claimed_turn.Given
use Rattle.tdb_world.proofs.all_openers.AllOpeners.claimed_turn.Goals as goal

module _ (g : Given.Over) (c : goal.After-settle-arg-1 g) where
  -- the openers stay while the number is read
  kept_openers : c.keep_number.new.self.openers ≡ c.args.self.now.openers
  kept_openers = ap (λ (w : Whole). w.openers) c.keep_number.ensures.rest

pub settle-requires-clause-bare : goal.settle-requires-clause-bare
settle-requires-clause-bare g c =
    let S = c.requires.claimed in
    let D = C c.args.self.now c.args.holder _ _ S.0 S.1 S.2 in
    let N = number_now c.args.self.now c.args.holder _ _ S.0 S.1 S.2 in
    (D.opener, subst (λ who. IsNumber c.keep_number.new.self.openers who D.opener) (sym c.owner-who.ensures) (subst (λ o. IsNumber o c.args.holder.owner D.opener) (sym (kept_openers g c)) N), D.bare)

pub settle-requires-clause-stands : goal.settle-requires-clause-stands
settle-requires-clause-stands g c =
    let S = c.requires.claimed in
    (_, _, subst (λ o. Stands o (seen (g.D.Disk.history c.args.d.now)) (g.D.Disk.size c.args.d.now)) (sym (kept_openers g c)) (stood_now c.args.self.now c.args.holder _ _ S.0 S.1 S.2))

module _ (g : Given.Over) (c : goal.After-settle g) where
  abbrev self : Whole
  self = c.args.self.now

  abbrev kept : Whole
  kept = c.keep_number.new.self

  abbrev left : Whole
  left = c.settle.new.self

  abbrev h : HolderState
  h = c.args.holder

  abbrev after : Option HolderState
  after = c.in_ok-moved.moved.holder

  abbrev img : List ℕ
  img = seen (g.D.Disk.history c.args.d.now)

  abbrev size : ℕ
  size = g.D.Disk.size c.args.d.now

  same : kept.openers ≡ self.openers
  same = ap (λ (w : Whole). w.openers) c.keep_number.ensures.rest

  world : left ≡ record self { openers = left.openers; aside = after; number = kept.number }
  world = settled_world self kept left after c.keep_number.ensures.rest c.settle.ensures.rest c.settle.ensures.aside

  stands : (i : List ℕ) (n : ℕ) → Stands self.openers i n → Stands left.openers i n
  stands i n W = c.settle.ensures.stands i n (subst (λ o. Stands o i n) (sym same) W)

  bytes : (i : List ℕ) → BytesStand self.openers i → BytesStand left.openers i
  bytes i G = c.settle.ensures.bytes i (subst (λ o. BytesStand o i) (sym same) G)

  header : c.header.result.now ≡ self.openers.header
  header = c.header.ensures ∙ (ap (λ (w : Whole). w.openers.header) c.self.view_is ∙ ap (λ (w : World). w.header) same)

  options : c.options.result.now ≡ self.openers.options
  options = c.options.ensures ∙ (ap (λ (w : Whole). w.openers.options) c.self.view_is ∙ ap (λ (w : World). w.options) same)

  module _ (before : World) (x : Opener) (S : ClaimStands self h img size before x) where
    abbrev D : Opener
    D = (C self h img size before x S).opener

    settled : IsSettled self.openers h.owner D (is_closing h.stage) after left.openers
    settled =
        subst (λ closes. IsSettled self.openers h.owner D closes after left.openers) c.closes-closes.ensures
        (subst (λ who. IsSettled self.openers who D c.closes-closes.result after left.openers) c.owner-who.ensures
        (subst (λ o. IsSettled o c.owner-who.result D c.closes-closes.result after left.openers) same
        (c.settle.ensures.settled D (subst (λ o. IsNumber o c.owner-who.result D) (sym same) (subst (λ who. IsNumber self.openers who D) (sym c.owner-who.ensures) (number_now self h img size before x S))))))

    keeps : (stage_wants h.stage ≡ Wants.Records Write → ⊥) → kept.number ≡ self.number
    keeps none = ap (λ (w : Whole). w.number) (c.keep_number.ensures.kept (λ is. none (sym c.wants.ensures.stage ∙ is)))

    module _ (told : IsTrue g.D.Disk.tells) where
      reads : stage_wants h.stage ≡ Wants.Records Write → 52 ≤ length (seen (g.D.Disk.history c.keep_number.new.d)) → kept.number ≡ number_of (form_in self.openers.header) (seen (g.D.Disk.history c.keep_number.new.d))
      reads ws long =
          let sized = g.met.D.Disk.told_size c.args.d.now told in
          let same_length = ap (λ q. length (seen q)) c.keep_number.ensures.history in
          c.in_default.ensures.number told (c.wants.ensures.stage ∙ ws) (omega (arith, long, sized, same_length)) ∙ sym (ap (λ q. number_of (form_in self.openers.header) (seen q)) c.keep_number.ensures.history)

      leads : TurnLeads (record self { openers = before; aside = Some h }) left (g.D.Disk.history c.args.d.now) (g.D.Disk.history c.turn.new.d) h.owner (law_turn c.settle.result)
      leads =
          subst (λ q. TurnLeads (record self { openers = before; aside = Some h }) left q (g.D.Disk.history c.turn.new.d) h.owner (law_turn c.settle.result)) c.keep_number.ensures.history
          (subst (λ u. TurnLeads (record self { openers = before; aside = Some h }) left (g.D.Disk.history c.keep_number.new.d) (g.D.Disk.history c.turn.new.d) h.owner (law_turn u)) (sym c.settle.ensures.turn)
          (subst (λ q. TurnLeads (record self { openers = before; aside = Some h }) q (g.D.Disk.history c.keep_number.new.d) (g.D.Disk.history c.turn.new.d) h.owner (law_turn c.in_ok-moved.moved.turn)) (sym world)
          (used_leads self h img size before x S c.requires.fresh c.requires.busy kept.number keeps (g.D.Disk.history c.keep_number.new.d) (g.D.Disk.history c.turn.new.d) reads c.in_ok-moved.moved.turn left.openers bytes after
          c.header.result.now c.options.result.now header options (c.in_ok-moved.ensures.turned told) (c.in_ok-moved.ensures.blocked told) c.in_ok-moved.ensures.records settled)))

pub returns-clause-fits : goal.returns-clause-fits
returns-clause-fits g c =
    let K = c.requires.claimed in
    let w = self g c in
    let z = (left g c).openers in
    let longer = g.D.Disk.size c.turn.new.d in
    let kept_size = c.keep_number.ensures.size in
    let length : (g.D.Disk.size c.keep_number.new.d ≤ longer) × (g.D.Disk.size c.keep_number.new.d ≤ c.options.result.now.limit → longer ≤ c.options.result.now.limit) = c.in_ok-moved.ensures.length in
    let more = length.0 in
    let within : size g c ≤ w.openers.options.limit → longer ≤ w.openers.options.limit =
    subst (λ (n : ℕ). n ≤ w.openers.options.limit → longer ≤ w.openers.options.limit) kept_size
    (subst (λ (o : Options). g.D.Disk.size c.keep_number.new.d ≤ o.limit → longer ≤ o.limit) (options g c) length.1) in
    let fit = subst (λ (q : Options). IsFitLeft (left_stage (after g c)) w.openers.header q.limit longer) (options g c)
    (subst (λ (q : Header). IsFitLeft (left_stage (after g c)) q c.options.result.now.limit longer) (header g c) c.in_ok-moved.ensures.fits) in
    subst (λ q. WorldFits q (seen (g.D.Disk.history c.turn.new.d)) longer) (sym (world g c))
    (used_fits w (h g c) (img g c) (size g c) K.0 K.1 K.2 (kept g c).number c.in_ok-moved.moved.turn z (c.settle.ensures.header ∙ ap (λ (q : World). q.header) (same g c)) (c.settle.ensures.options ∙ ap (λ (q : World). q.options) (same g c)) (stands g c) (bytes g c) (seen (g.D.Disk.history c.turn.new.d)) longer
    (omega (arith, more, kept_size)) within (after g c) (settled g c K.0 K.1 K.2) c.in_ok-moved.ensures.records c.in_ok-moved.ensures.owner fit)

pub returns-clause-turned : goal.returns-clause-turned
returns-clause-turned g c = λ told before x S. leads g c before x S told

pub returns-in-Err-clause-stops : goal.returns-in-Err-clause-stops
returns-in-Err-clause-stops g c = λ told before x state S is safe.
    still_leaves (record c.args.self.now { openers = before; aside = Some c.args.holder }) (g.D.Disk.history c.args.d.now) (g.D.Disk.history c.keep_number.new.d) state (law_opener c.args.holder.owner)
    c.keep_number.ensures.history is safe

pub returns-in_err-moved-clause-stops : goal.returns-in_err-moved-clause-stops
returns-in_err-moved-clause-stops g c = λ told before x state S is safe.
    used_stops c.args.self.now c.args.holder (seen (g.D.Disk.history c.args.d.now)) (g.D.Disk.size c.args.d.now) before x S c.requires.fresh c.requires.busy
    (g.D.Disk.history c.args.d.now) (g.D.Disk.history c.keep_number.new.d) c.keep_number.ensures.history state is safe (g.D.Disk.history c.turn.new.d) (c.turn.ensures.stops told)

-- the number couldn't be read, and nothing was changed; or the turn failed
pub returns-in-Err-clause-stopped : goal.returns-in-Err-clause-stopped
returns-in-Err-clause-stopped g c = λ told before x S. inl c.keep_number.ensures.history

pub returns-in_err-moved-clause-stopped : goal.returns-in_err-moved-clause-stopped
returns-in_err-moved-clause-stopped g c =
    let q = err_from_is_err_and c.from_residual.result c.from_residual.ensures.1 in
    rw (q.1) (λ told before x S.
    used_stopped (record c.args.self.now { openers = before; aside = Some c.args.holder }) c.args.holder (g.D.Disk.history c.args.d.now) (g.D.Disk.history c.keep_number.new.d) (g.D.Disk.history c.turn.new.d)
    c.keep_number.ensures.history (c.turn.ensures.stops told))

pub returns-clause-stops : goal.returns-clause-stops
returns-clause-stops g c = λ told before x state S is safe.
    used_stops c.args.self.now c.args.holder (seen (g.D.Disk.history c.args.d.now)) (g.D.Disk.size c.args.d.now) before x S c.requires.fresh c.requires.busy
    (g.D.Disk.history c.args.d.now) (g.D.Disk.history c.keep_number.new.d) c.keep_number.ensures.history state is safe (g.D.Disk.history c.turn.new.d) (c.turn.ensures.stops told)

pub returns-clause-safe : goal.returns-clause-safe
returns-clause-safe g c = λ told before x state S is safe.
    used_safe c.args.self.now c.args.holder (seen (g.D.Disk.history c.args.d.now)) (g.D.Disk.size c.args.d.now) before x S c.requires.fresh c.requires.busy
    (g.D.Disk.history c.args.d.now) (g.D.Disk.history c.keep_number.new.d) c.keep_number.ensures.history state is safe (g.D.Disk.history c.turn.new.d) (c.turn.ensures.stops told)
    c.header.result.now c.options.result.now (header g c) (options g c) c.in_ok-moved.moved.turn c.in_ok-moved.moved.holder (c.in_ok-moved.ensures.turned told)

-- who is left has its number
owner_at : (owner : ℕ) (o : Option HolderState) (a : HolderState) → o ≡ Some a → IfSome o (λ q. q.owner ≡ owner) → a.owner ≡ owner
owner_at owner o a is p = subst (λ q. IfSome q (λ q. q.owner ≡ owner)) is p

-- after a step the one aside is so still, and its command isn't done
goes_on : (turn : TurnIs) (after : Option HolderState) → StepGoesOn turn (left_stage after) → turn ≡ Turn.Step → (later : HolderState) × (after ≡ Some later) × (is_idle later.stage ≡ false)
goes_on turn None G is = absurd (subst (λ q. StepGoesOn q None) is G)
goes_on turn (Some later) G is = (later, refl, subst (λ q. StepGoesOn q (Some later.stage)) is G)

pub returns-clause-busy : goal.returns-clause-busy
returns-clause-busy g c = λ is.
    let left = goes_on c.in_ok-moved.moved.turn c.in_ok-moved.moved.holder c.in_ok-moved.ensures.goes_on (sym c.settle.ensures.turn ∙ is) in
    let busy = busy_task left.0.stage left.2 in
    by_aside left.0 busy.0 (c.settle.ensures.aside ∙ left.1) (sym (owner_at c.args.holder.owner c.in_ok-moved.moved.holder left.0 left.1 c.in_ok-moved.ensures.owner)) busy.1

pub returns-clause-full : goal.returns-clause-full
returns-clause-full g c = λ told before x S.
    let old = g.D.Disk.history c.args.d.now in
    let holder = c.args.holder in
    subst (λ turn. FullAside (record (self g c) { openers = before; aside = Some holder }) holder old (law_turn turn)) (sym c.settle.ensures.turn)
    (used_full (self g c) holder (img g c) (size g c) before x S old (g.D.Disk.history c.keep_number.new.d) c.keep_number.ensures.history
    c.header.result.now c.options.result.now (header g c) (options g c) c.in_ok-moved.moved.turn (c.in_ok-moved.ensures.full told))

pub returns-clause-plans : goal.returns-clause-plans
returns-clause-plans g c = λ told before x S.
    let old = g.D.Disk.history c.args.d.now in
    let holder = c.args.holder in
    let was = record (self g c) { openers = before; aside = Some holder } in
    let now = g.D.Disk.syncs c.turn.new.d in
    subst (λ turn. PlansAside was holder old turn (g.D.Disk.syncs c.args.d.now) now) (sym c.settle.ensures.turn)
    (subst (λ n. PlansAside was holder old c.in_ok-moved.moved.turn n now) c.keep_number.ensures.syncs
    (used_plans was holder old (g.D.Disk.history c.keep_number.new.d) c.keep_number.ensures.history c.in_ok-moved.moved.turn (g.D.Disk.syncs c.keep_number.new.d) now (c.in_ok-moved.ensures.plans told)))
