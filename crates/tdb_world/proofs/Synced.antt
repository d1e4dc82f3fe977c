-- How many syncs the turn of an opener makes, by its place in the world.
use Rattle.std.proofs.Common.{◌≡◌, ℕ, Bool, true, false, inl, IsTrue, Some, None, refl, sym, ◌∙◌, ap, subst, arith}
use Rattle.tdb_disk.specs.Count.{RoseUpTo}
use Rattle.tdb_disk.specs.History.{History}
use Rattle.tdb_space.specs.Form.{Form}
use Rattle.tdb_locks.specs.declared.kind.Kind.{Kind}
use Rattle.tdb_locks.specs.declared.turn.Turn.{Turn}
use Rattle.tdb_locks.specs.declared.turn.Turn.TheVariants.{Blocked}
use Rattle.tdb_txn_turns.specs.declared.committing.Committing.TheVariants as Commits
use Rattle.tdb_txn_turns.specs.Prepares.{StageSyncs}
use Rattle.tdb_txn_turns.specs.declared.preparing.PrepareStage.{PrepareStage}
use Rattle.tdb_txn_turns.specs.declared.preparing.PrepareStage.TheVariants as Plans
use Rattle.tdb_txn_turns.specs.declared.starting.Starting.TheVariants as Starts
use Rattle.tdb_commands.specs.InLaw.{law_opener}
use Rattle.tdb_txn_owner.specs.Holders.{HolderState}
use Rattle.tdb_txn_owner.specs.Stages.{Known, KnowsFile}
use Rattle.tdb_txn_owner.specs.Syncs.{HolderPlans, HolderSyncs, TurnSyncs}
use Rattle.tdb_txn_owner.specs.Wanting.{plan_wants, stage_wants}
use Rattle.tdb_txn_owner.specs.declared.stage.Stage.{Stage}
use Rattle.tdb_txn_owner.specs.declared.stage.Stage.TheVariants as At
use Rattle.tdb_txn_owner.specs.declared.wanting.Wants.{Wants}
use Rattle.tdb_openers.specs.Worlds.{World}
use Rattle.tdb_world.specs.Claims.{IsBarred}
use Rattle.tdb_world.specs.Steps.{IsAmong}
use Rattle.tdb_world.specs.Steps.IsAmong.{among_all, among_others}
use Rattle.tdb_world.specs.Syncs.{PlansAside, StandsAt, SyncsByStage}
use Rattle.tdb_world.specs.Syncs.StandsAt.{at_aside, at_start}
use Rattle.tdb_world.specs.Whole.{form_at, is_starting, Whole}

-- only a lock of all records is barred
pub barred_records : (w : World) (who owner byte : ℕ) (wants : Wants) → IsBarred w who wants owner byte → (kind : Kind) × (wants ≡ Wants.Records kind)
barred_records w who owner byte Wants.Nothing B = absurd B
barred_records w who owner byte Wants.Transaction B = absurd B
barred_records w who owner byte (Wants.Records kind) B = (kind, refl)
barred_records w who owner byte (Wants.Opening numbered) B = absurd B

-- the stages whose turn wants it make no sync that must be
still_start : (n : ℕ) → RoseUpTo 1 n n
still_start n = record { no_more = omega arith; never_falls = omega arith }

plan_still : (stage : PrepareStage) (numbered : Bool) (kind : Kind) (n : ℕ) → plan_wants numbered stage ≡ Wants.Records kind → StageSyncs stage n n
plan_still Plans.Unchanged numbered kind n ws = refl
plan_still (Plans.Begun txn) numbered kind n ws = refl
plan_still (Plans.Records txn) numbered kind n ws = refl
plan_still (Plans.Locked txn) numbered kind n ws = inl refl
plan_still (Plans.Planned state) numbered kind n ws = absurd (cc ws)
plan_still (Plans.Filled state) numbered kind n ws = absurd (cc ws)

pub records_still : (stage : Stage) (kind : Kind) (owner byte n : ℕ) → stage_wants stage ≡ Wants.Records kind → TurnSyncs stage (Blocked owner byte) n n
records_still (At.Starting s) kind owner byte n ws = still_start n
records_still (At.Open txn command) kind owner byte n ws = refl
records_still (At.Committing (Commits.Preparing p)) kind owner byte n ws = plan_still p.stage p.numbered kind n ws
records_still (At.Committing (Commits.Finishing s)) kind owner byte n ws = absurd (cc ws)
records_still (At.Preparing p) kind owner byte n ws = plan_still p.stage p.numbered kind n ws
records_still (At.Prepared left command) kind owner byte n ws = absurd (cc ws)
records_still (At.Finishing s) kind owner byte n ws = absurd (cc ws)

-- who is among the others isn't the one aside
pub not_aside : (w : Whole) (who : ℕ) (h : HolderState) → IsAmong w who → w.aside ≡ Some h → who ≡ h.owner → ⊥
not_aside w who h (among_all none) is owner = let both : None ≡ Some h = sym none ∙ is in cc both
not_aside w who h (among_others g other ne) is owner =
    let same : g ≡ h = let both = sym other ∙ is in cc both in ne (owner ∙ ap (λ (x : HolderState). x.owner) (sym same))

one_holder : (w : Whole) (a b : HolderState) → w.aside ≡ Some a → w.aside ≡ Some b → a ≡ b
one_holder w a b is there = let both = sym is ∙ there in cc both

-- a turn of it for which the records were taken, where what was read before left the file as it was
pub used_plans : (w : Whole) (holder : HolderState) (old mid : History) → mid ≡ old → (turn : Turn) (before now : ℕ) → ((f : Form) (k : Known) → KnowsFile f holder.stage mid k → HolderPlans holder.stage k.file turn before now)
    → PlansAside w holder old turn before now
used_plans w holder old mid same turn before now plans image past s A =
    subst (λ i. HolderPlans holder.stage i turn before now) (sym A.image) (plans (form_at w) A.known (subst (λ h. KnowsFile (form_at w) holder.stage h A.known) (sym same) A.file))

module _ (tells : Bool) (w : Whole) (h : History) (who : ℕ) (turn : Turn) (before now : ℕ) where
  -- the one aside
  by_aside : (holder : HolderState) → w.aside ≡ Some holder → who ≡ holder.owner → HolderSyncs holder.stage turn before now → (stage : Stage) → StandsAt w who stage → HolderSyncs stage turn before now
  by_aside holder is owner S stage (at_aside other there same at) =
      subst (λ z. HolderSyncs z turn before now) (sym (at ∙ ap (λ (x : HolderState). x.stage) (one_holder w other holder there is))) S
  by_aside holder is owner S stage (at_start begun among at) = absurd (not_aside w who holder among is owner)

  pub aside_syncs : (holder : HolderState) → w.aside ≡ Some holder → who ≡ holder.owner → HolderSyncs holder.stage turn before now → (IsTrue tells → PlansAside w holder h turn before now)
      → SyncsByStage tells w h who turn before now
  aside_syncs holder is owner S plans = record {
    by_stage = by_aside holder is owner S;
    by_area = λ told other there same. subst (λ z. PlansAside w z h turn before now) (one_holder w holder other is there) (plans told);
  }

  -- the first turn of a Start
  by_start : IsAmong w who → HolderSyncs (At.Starting Starts.Begun) turn before now → (stage : Stage) → StandsAt w who stage → HolderSyncs stage turn before now
  by_start among S stage (at_aside other is owner at) = absurd (not_aside w who other among is owner)
  by_start among S stage (at_start begun there at) = subst (λ z. HolderSyncs z turn before now) (sym at) S

  pub start_syncs : IsAmong w who → HolderSyncs (At.Starting Starts.Begun) turn before now → SyncsByStage tells w h who turn before now
  start_syncs among S = record { by_stage = by_start among S; by_area = λ told other is owner. absurd (not_aside w who other among is owner) }

  -- of any other nothing is said by its stage
  by_other : IsAmong w who → is_starting w.starts (law_opener who) ≡ false → (stage : Stage) → StandsAt w who stage → HolderSyncs stage turn before now
  by_other among none stage (at_aside other is owner at) = absurd (not_aside w who other among is owner)
  by_other among none stage (at_start begun there at) = absurd (let both : false ≡ true = sym none ∙ begun in cc both)

  pub other_syncs : IsAmong w who → is_starting w.starts (law_opener who) ≡ false → SyncsByStage tells w h who turn before now
  other_syncs among none = record { by_stage = by_other among none; by_area = λ told other is owner. absurd (not_aside w who other among is owner) }
