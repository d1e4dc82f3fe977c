-- What a turn makes of the image, and what is known of it where the cursor stands then.
use Rattle.std.proofs.Common.{◌≡◌, ℕ, ◌<◌, List, Option, Some, None, refl, sym, ◌∙◌, ap, subst, inl, inr}
use Rattle.std.specs.Prelude.{Result, IfOk, OnErr}
use Rattle.std.proofs.lemmas.Result.{on_err_weaker}
use Rattle.std.proofs.lemmas.Bool.{cases_eq}
use Rattle.tdb_words.specs.declared.record.TheConstants.{USED}
use Rattle.tdb_space.specs.Form.{Form}
use Rattle.tdb_space.specs.Record.{magic_of}
use Rattle.tdb_space.specs.Chain.{chain_of, Member}
use Rattle.tdb_space.specs.Extents.{HandPair}
use Rattle.tdb_space.specs.Accepted.{AcceptWith}
use Rattle.tdb_free.proofs.TakenAs.{member_without}
use Rattle.tdb_chain.specs.declared.place.Place.{Place as Found}
use Rattle.tdb_locks.specs.HeldLocks.{HeldLocks}
use Rattle.tdb_locks.specs.declared.piece.Piece.{Piece}
use Rattle.tdb_locks.specs.declared.turn.Reply.{Reply}
use Rattle.tdb_locks.specs.declared.turn.Turn.{Turn}
use Rattle.tdb_locks.specs.declared.turn.Turn.TheVariants.{Blocked, Done}
use Rattle.tdb_walk.specs.declared.purging.DeadRecord.{DeadRecord}
use Rattle.tdb_walk.specs.declared.standing.Standing.{Standing}
use Rattle.tdb_walk.specs.declared.standing.Standing.TheVariants.{Before, On, Past}
use Rattle.tdb_walk.specs.declared.stage.Stage.{Stage}
use Rattle.tdb_walk.specs.declared.stage.Stage.TheVariants.{Rested, Reading, Writing, Freeing}
use Rattle.tdb_walk.specs.NextLive.{StandsIn}
use Rattle.tdb_walk.specs.Purging.{IsDeadIn, IsDeadRecord, IsPrepared, IsPurged, PurgesOf, PurgeBroken}
use Rattle.tdb_walk.specs.Cursors.{At, Knows, LeaveLed, MoveLed, StepMade, dead_of}
use Rattle.tdb_walk.specs.Cursors.LeaveLed.{leaves, cannot}
use Rattle.tdb_walk.specs.Cursors.Came.{shown, barred, wants}
use Rattle.tdb_walk.specs.Cursors.MoveLed.{comes, stops, ends, gives_up}
use Rattle.tdb_walk.specs.Cursors.StepMade.{keeps, purges, waits, starves}
use Rattle.tdb_walk.proofs.Ahead.{none_some}
use Rattle.tdb_walk.proofs.Arrived.{met_member}
use Rattle.tdb_walk.proofs.Coming.{met_used}
use Rattle.tdb_walk.proofs.Purged.{purge_nothing}
use Rattle.tdb_walk.proofs.Turns.{ok_more}
use Rattle.tdb_walk.proofs.Views.{moved}

-- a record that a cursor is going to purge is dead
pub dead_known : (f : Form) (img : List ℕ) (place : Standing) (stage : Stage) → Knows f img place stage → IsDeadRecord f img (dead_of place stage)
dead_known f img (On chain off) Rested knows = tt
dead_known f img (On chain off) Reading knows = tt
dead_known f img (On chain off) Writing knows = tt
dead_known f img (On chain off) Freeing knows = knows
dead_known f img (Before chain) stage knows = tt
dead_known f img Past stage knows = tt

-- before a command there is none to purge
dead_rested : (place : Standing) → dead_of place Rested ≡ None
dead_rested (On chain off) = refl
dead_rested (Before chain) = refl
dead_rested Past = refl

made_by : (f : Form) (a b : List ℕ) (hands : List HandPair) (at later : At) (turn : Turn) (dead : Option DeadRecord) → dead_of at.place at.stage ≡ dead → later.stage ≡ Rested → (turn ≡ Done Reply.Memory → ⊥) → PurgesOf f a b dead hands → StepMade f a b hands at later turn
made_by f a b hands at later turn None is over never same = keeps is same
made_by f a b hands at later turn (Some d) is over never gone = purges d is over never gone

-- a place that was prepared is purged
pub purge_made : (f f2 : Form) (img img2 b : List ℕ) (hands : List HandPair) (at later : At) (turn : Turn) (asked : Option DeadRecord) (found : Option Found)
    → asked ≡ dead_of at.place at.stage → f2 ≡ f → img2 ≡ img → later.stage ≡ Rested → (turn ≡ Done Reply.Memory → ⊥)
    → (AcceptWith f img hands → IsDeadRecord f img asked → IsPrepared f img asked found)
    → ((dead : Option DeadRecord) → AcceptWith f2 img2 hands → IsPrepared f2 img2 dead found → PurgesOf f2 img2 b dead hands)
    → AcceptWith f img hands → Knows f img at.place at.stage → StepMade f img b hands at later turn
purge_made f f2 img img2 b hands at later turn asked found is form image over never prepared purged A knows =
    let ready = prepared A (subst (IsDeadRecord f img) (sym is) (dead_known f img at.place at.stage knows)) in
    let done : PurgesOf f img b asked hands = moved (λ x i. AcceptWith x i hands → IsPrepared x i asked found → PurgesOf x i b asked hands) f f2 img img2 form image (purged asked) A ready in
    made_by f img b hands at later turn asked (sym is) over never done

-- what a turn makes of the image, over a view that was looked at before
pub made_then : {E : Type 0} (told small smaller : Type 0) (r : Result Turn E) (f f2 : Form) (img img2 b : List ℕ) (at later : At) → f2 ≡ f → img2 ≡ img → (small → smaller)
    → IfOk r (λ turn. told → smaller → (hands : List HandPair) → AcceptWith f2 img2 hands → Knows f2 img2 at.place at.stage → StepMade f2 img2 b hands at later turn)
    → IfOk r (λ turn. told → small → (hands : List HandPair) → AcceptWith f img hands → Knows f img at.place at.stage → StepMade f img b hands at later turn)
made_then told small smaller r f f2 img img2 b at later form image less made =
    ok_more r (λ turn made told is hands A knows.
    moved (λ x i. AcceptWith x i hands → Knows x i at.place at.stage → StepMade x i b hands at later turn) f f2 img img2 form image (made told (less is) hands) A knows)
    made

-- a move that is blocked before a chain leaves the cursor there
pub stopped_led : (f : Form) (img : List ℕ) (ps : List Piece) (owner : ℕ) (own : HeldLocks) (from : Standing) (at later : At) (turn : Turn) (dead : Option DeadRecord) (chain other byte : ℕ)
    → MoveLed f img ps owner own from at (record { place = Before chain; stage = Rested }) (Blocked other byte) → LeaveLed dead (Before chain) Past (Blocked other byte) later turn → MoveLed f img ps owner own from at later turn
stopped_led f img ps owner own from at later turn dead chain other byte led (leaves is there) =
    subst (λ x. MoveLed f img ps owner own from at later x) (sym is) (subst (λ x. MoveLed f img ps owner own from at x (Blocked other byte)) (sym there) led)
stopped_led f img ps owner own from at later turn dead chain other byte led (cannot some is there) = gives_up is there

-- a record of a chain that isn't dead is in its chain after a purge too
purged_stands : (f : Form) (a b : List ℕ) (hands : List HandPair) (d : DeadRecord) (chain off : ℕ) → IsPurged f a b d.chain d.off hands → IsDeadIn f a d.chain d.off → magic_of f.order a off ≡ USED
    → (chain < f.chains) × Member off (chain_of f a chain) → (chain < f.chains) × Member off (chain_of f b chain)
purged_stands f a b hands d chain off purged dead used (below, member) = (
  below,
  elim (cases_eq chain d.chain) [
    | inl here ↦ subst (λ x. Member off x) (sym (ap (chain_of f b) here ∙ purged.offsets)) (member_without off d.off (chain_of f a d.chain) (subst (λ k. Member off (chain_of f a k)) here member) (λ e. dead.dead (ap (magic_of f.order a) (sym e) ∙ used)))
    | inr apart ↦ subst (λ x. Member off x) (sym (purged.only.chains chain below apart).same_offsets) member
  ],
)

module _ (f : Form) (a b : List ℕ) (hands : List HandPair) (at later : At) (turn : Turn) (knows : Knows f a at.place at.stage) where
  -- where the cursor comes to a used record
  came_knows : (chain off : ℕ) → magic_of f.order a off ≡ USED → StandsIn f a (On chain off) → StepMade f a b hands at later turn → Knows f b (On chain off) Rested
  came_knows chain off used there (keeps none same) = subst (λ i. Knows f i (On chain off) Rested) (sym same) there
  came_knows chain off used there (purges d is over never gone) = purged_stands f a b hands d chain off gone (subst (IsDeadRecord f a) is (dead_known f a at.place at.stage knows)).1 used there
  came_knows chain off used there (waits other byte is stays same) = subst (λ i. Knows f i (On chain off) Rested) (sym same) there
  came_knows chain off used there (starves is same) = subst (λ i. Knows f i (On chain off) Rested) (sym same) there

  -- where it is as it was
  same_knows : later ≡ at → StepMade f a b hands at later turn → Knows f b at.place at.stage
  same_knows stays (keeps none same) = subst (λ i. Knows f i at.place at.stage) (sym same) knows
  same_knows stays (purges d is over never gone) =
      let none : dead_of at.place at.stage ≡ None = subst (λ s. dead_of at.place s ≡ None) (sym over ∙ ap (λ (x : At). x.stage) stays) (dead_rested at.place) in
      absurd (none_some (sym none ∙ is))
  same_knows stays (waits other byte is again same) = subst (λ i. Knows f i at.place at.stage) (sym same) knows
  same_knows stays (starves is same) = subst (λ i. Knows f i at.place at.stage) (sym same) knows

  later_knows : (x : At) → later ≡ x → Knows f b x.place x.stage → Knows f b later.place later.stage
  later_knows x is known = subst (λ (y : At). Knows f b y.place y.stage) (sym is) known

  pub moved_knows : (ps : List Piece) (owner : ℕ) (own : HeldLocks) (from : Standing) → MoveLed f a ps owner own from at later turn → StepMade f a b hands at later turn → Knows f b later.place later.stage
  moved_knows ps owner own from (comes live way (shown says there can)) made =
      later_knows _ there (came_knows live.chain live.off (met_used f a _ live way.0) (met_member f a _ live way.0) made)
  moved_knows ps owner own from (comes live way (barred other byte says stays bar)) made = later_knows at stays (same_knows stays made)
  moved_knows ps owner own from (comes live way (wants says ended)) made = later_knows _ ended tt
  moved_knows ps owner own from (stops chain other byte way says there) made = later_knows _ there tt
  moved_knows ps owner own from (ends way says ended) made = later_knows _ ended tt
  moved_knows ps owner own from (gives_up says ended) made = later_knows _ ended tt

-- where nothing was written
pub broken_nothing : (f : Form) (a b : List ℕ) (dead : Option DeadRecord) (hands : List HandPair) → AcceptWith f a hands → b ≡ a → PurgeBroken f a b dead hands
broken_nothing f a b None hands A same = same
broken_nothing f a b (Some d) hands A same = purge_nothing f a b d.chain hands A same

-- the purge of a place that was prepared failed
pub purge_broken : (f f2 : Form) (img img2 b : List ℕ) (hands : List HandPair) (at : At) (asked : Option DeadRecord) (found : Option Found)
    → asked ≡ dead_of at.place at.stage → f2 ≡ f → img2 ≡ img
    → (AcceptWith f img hands → IsDeadRecord f img asked → IsPrepared f img asked found)
    → ((dead : Option DeadRecord) → AcceptWith f2 img2 hands → IsPrepared f2 img2 dead found → PurgeBroken f2 img2 b dead hands)
    → AcceptWith f img hands → Knows f img at.place at.stage → PurgeBroken f img b (dead_of at.place at.stage) hands
purge_broken f f2 img img2 b hands at asked found is form image prepared broken A knows =
    let ready = prepared A (subst (IsDeadRecord f img) (sym is) (dead_known f img at.place at.stage knows)) in
    subst (λ d. PurgeBroken f img b d hands) is
    (moved (λ x i. AcceptWith x i hands → IsPrepared x i asked found → PurgeBroken x i b asked hands) f f2 img img2 form image (broken asked) A ready)

-- a turn failed over a view that was looked at before
pub broken_then : {E : Type 0} (told small smaller : Type 0) (r : Result Turn E) (f f2 : Form) (img img2 b : List ℕ) (at : At) → f2 ≡ f → img2 ≡ img → (small → smaller)
    → OnErr r (told → smaller → (hands : List HandPair) → AcceptWith f2 img2 hands → Knows f2 img2 at.place at.stage → PurgeBroken f2 img2 b (dead_of at.place at.stage) hands)
    → OnErr r (told → small → (hands : List HandPair) → AcceptWith f img hands → Knows f img at.place at.stage → PurgeBroken f img b (dead_of at.place at.stage) hands)
broken_then told small smaller r f f2 img img2 b at form image less broken =
    on_err_weaker r (λ broken told is hands A knows.
    moved (λ x i. AcceptWith x i hands → Knows x i at.place at.stage → PurgeBroken x i b (dead_of at.place at.stage) hands) f f2 img img2 form image (broken told (less is) hands) A knows)
    broken
