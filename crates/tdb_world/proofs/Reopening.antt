-- As what the file is read beside the one aside: it opens to the map of the side's image, an open gate undone; and so
-- does what a stop leaves.
use Rattle.std.proofs.Common.{◌≡◌, ℕ, ◌%◌, ◌≤◌, List, [], length, true, false, Option, None, Some, is_some, refl, sym, ◌∙◌, ap, subst, inl, inr, arith}
use Rattle.std.proofs.lemmas.Bool.{cases_lt}
use Rattle.tdb_disk.specs.History.{History, seen}
use Rattle.tdb_disk.specs.Stop.{Leaves, Quiet}
use Rattle.tdb_disk.proofs.Stop.{leaves_seen}
use Rattle.tdb_space.specs.Accepted.{AcceptWith, Shut}
use Rattle.tdb_space.specs.Form.{Form, form_of}
use Rattle.tdb_space.specs.NewArea.{Longer}
use Rattle.tdb_space.specs.Opening.{restored}
use Rattle.tdb_space.specs.Undoing.{Reopens}
use Rattle.tdb_space.proofs.Form.Headers.{form_kept}
use Rattle.tdb_space.proofs.Opening.Undone.{read_as_it_is}
use Rattle.tdb_space.proofs.Undoing.Alike.{exact_reopens}
use Rattle.tdb_undo.proofs.Growths.{growth_grew}
use Rattle.tdb_law.specs.Images.{image_map}
use Rattle.tdb_law.specs.Lines.{MayDie}
use Rattle.tdb_steps.specs.Turns.{number_of}
use Rattle.tdb_txn.specs.Commit.{IsApplied, IsPrepared}
use Rattle.tdb_txn.specs.CommitStates.{applied_plan, planned_plan, prepared_plan}
use Rattle.tdb_txn.specs.Planned.{grown, rests, IsPlannedOn, RestsButGrown}
use Rattle.tdb_txn.specs.declared.planned.Plan.{Plan}
use Rattle.tdb_txn.proofs.KeptArea.{longer_reopens}
use Rattle.tdb_txn_turns.specs.Commits.{Carries, RestsAt}
use Rattle.tdb_txn_turns.specs.Committings.{commit_steps, KnowsCommit}
use Rattle.tdb_txn_turns.specs.Finishes.{finish_steps, KnowsFinish}
use Rattle.tdb_txn_turns.specs.Prepares.{KnowsStage}
use Rattle.tdb_txn_turns.specs.declared.committing.Committing.{Committing}
use Rattle.tdb_txn_turns.specs.declared.committing.Committing.TheVariants as Commits
use Rattle.tdb_txn_turns.specs.declared.finishing.Finishing.{Finishing}
use Rattle.tdb_txn_turns.specs.declared.finishing.Finishing.TheVariants as Finishes
use Rattle.tdb_txn_turns.specs.declared.preparing.PrepareStage.{PrepareStage}
use Rattle.tdb_txn_turns.specs.declared.preparing.PrepareStage.TheVariants as Prepares
use Rattle.tdb_txn_turns.specs.declared.starting.Starting.{Starting}
use Rattle.tdb_txn_turns.specs.declared.starting.Starting.TheVariants as Starts
use Rattle.tdb_txn_turns.proofs.Carried.{ready_rests}
use Rattle.tdb_law.specs.OneAside.Sides.{Past, Side}
use Rattle.tdb_txn_owner.specs.Holders.{HolderState}
use Rattle.tdb_txn_owner.specs.Reads.{IsReadAs as IsReadFrom}
use Rattle.tdb_txn_owner.specs.Stages.{start_records, stage_records, stage_task, Known, KnowsFile}
use Rattle.tdb_txn_owner.specs.declared.stage.PreparedTxn.TheVariants.{Opened, Nothing}
use Rattle.tdb_txn_owner.specs.declared.stage.Stage.{Stage}
use Rattle.tdb_txn_owner.specs.declared.stage.Stage.TheVariants as At
use Rattle.tdb_txn_owner.proofs.ReadAs.{carried_opens, commit_reads, finish_opens, finish_reads, open_in, opens_as, planned_seen, prepare_opens, prepare_reads, prepared_opens, prepared_reads, rest_opens, rest_reads, shut_commit_reads, shut_finish_reads, OpensIn}
use Rattle.tdb_world.specs.Died.{IsReadAs, StatesAreRead}
use Rattle.tdb_world.specs.States.{state_with, writes_all, IsAside, SideIs}
use Rattle.tdb_world.specs.States.IsStateOf.{of_stale, of_whole}
use Rattle.tdb_world.specs.Whole.{form_at, Whole}

-- Where the file was getting longer a stop leaves one that is longer than what was there, and opens to the map of that.
planned_in : (plan : Plan) (h : History) (x y : List ℕ) → IsPlannedOn plan h x y → (c : List ℕ) → Leaves h c → OpensIn (form_of y) x c
planned_in plan h x y S c left = go S.rest
  where
    go : RestsButGrown x h → OpensIn (form_of y) x c
    go (rests quiet) = subst (OpensIn (form_of y) x) (sym (quiet c left)) (planned_seen plan h x y S)
    go (grown old to quiet is words done) =
        let even : length (seen old) % 4 ≡ 0 = ap (λ l. length l % 4) is ∙ S.before.sized in
        let longer : Longer x c = subst (λ l. Longer l c) is (growth_grew old h to even words quiet (inr done) c left) in
        record {
          form =
              form_kept x c (λ i front. longer.front i (let long = S.before.long in elim front [ inl lt ↦ omega (arith, lt, long) | inr le ↦ omega (arith, le, long) ]))
              ∙ (sym S.stays.accepted.form ∙ sym (form_kept (seen h) y S.awaits.header));
          reopens = longer_reopens x c S.before longer;
        }

-- Each image that a stop leaves in a commit opens to the map of the file before it.
module _ (f : Form) (h : History) (r b : List ℕ) (form : form_of r ≡ f) (c : List ℕ) (left : Leaves h c) where
  -- on a quiet disk that is what is seen
  seen_in : Quiet h → OpensIn f r (seen h) → OpensIn f r c
  seen_in quiet O = subst (OpensIn f r) (sym (quiet c left)) O

  rest_in : RestsAt h r → OpensIn f r c
  rest_in R = seen_in R.quiet (rest_opens f h r form R)

  prepared_in : (plan : Plan) → Carries (IsPrepared plan) h r b → OpensIn f r c
  prepared_in plan K = seen_in K.state.quiet (prepared_opens f plan h r b form K)

  prepare_in : (s : PrepareStage) → KnowsStage s h r b → OpensIn f r c
  prepare_in Prepares.Unchanged K = rest_in K
  prepare_in (Prepares.Begun txn) K = rest_in (ready_rests txn h r b K)
  prepare_in (Prepares.Records txn) K = rest_in (ready_rests txn h r b K)
  prepare_in (Prepares.Locked txn) K = rest_in (ready_rests txn h r b K)
  prepare_in (Prepares.Planned state) K = carried_opens (IsPlannedOn (planned_plan state)) f h r b c form K (λ x y S. planned_in (planned_plan state) h x y S c left)
  prepare_in (Prepares.Filled state) K = seen_in K.state.quiet (prepare_opens f (Prepares.Filled state) h r b form K)

  finish_in : (s : Finishing) → KnowsFinish s h r b → (3 ≤ finish_steps s → r ≡ b) → OpensIn f r c
  finish_in (Finishes.Open state) K late = prepared_in (prepared_plan state) K
  finish_in (Finishes.Applied state) K late = carried_opens (IsApplied (applied_plan state)) f h r b c form K (λ x y S. open_in (applied_plan state) x y c S.brings (S.within c left))
  finish_in (Finishes.Settled state) K late = seen_in K.state.quiet (finish_opens f (Finishes.Settled state) h r b form (omega arith) K)
  finish_in Finishes.Shut K late =
      let same : r ≡ b = late (omega arith) in
      seen_in K.quiet (record { form = K.accepted.form ∙ ap form_of (sym same) ∙ form; reopens = subst (λ i. Reopens i (seen h)) (sym same) (opens_as b (seen h) K.opens) })

  commit_in : (m : Committing) → KnowsCommit m h r b → (8 ≤ commit_steps m → r ≡ b) → OpensIn f r c
  commit_in (Commits.Preparing p) K late = prepare_in p.stage K
  commit_in (Commits.Finishing s) K late = finish_in s K (λ few. late (omega (arith, few)))

-- an opener at this stage has a transaction
abbrev pub HasTxn : Stage → Type 0
HasTxn (At.Starting s) = ⊥
HasTxn stage = Unit {0}

-- At each stage at which the opener has a transaction a stop leaves an image that opens so.
pub stage_leaves : (f : Form) (stage : Stage) (h : History) (k : Known) → HasTxn stage → KnowsFile f stage h k → (c : List ℕ) → Leaves h c → OpensIn f k.file c
stage_leaves f (At.Starting s) h k has K c left = absurd has
stage_leaves f (At.Open txn command) h k has K c left = rest_in f h k.file k.image K.forms.0 c left (ready_rests txn.own.txn h k.file k.image K.at.0)
stage_leaves f (At.Committing m) h k has K c left = commit_in f h k.file k.image K.forms.0 c left m K.at.0 K.at.1
stage_leaves f (At.Preparing p) h k has K c left = prepare_in f h k.file k.image K.forms.0 c left p.stage K.at
stage_leaves f (At.Prepared (Opened state) command) h k has K c left = prepared_in f h k.file k.image K.forms.0 c left (prepared_plan state) K.at.0
stage_leaves f (At.Prepared (Nothing changed) command) h k has K c left = rest_in f h k.file k.image K.forms.0 c left K.at.0
stage_leaves f (At.Finishing s) h k has K c left = finish_in f h k.file k.image K.forms.0 c left s K.at.0 K.at.1

-- At each stage at which the opener has all records the file opens so. Before that others may have a record in hand.
stage_in : (f : Form) (stage : Stage) (h : History) (k : Known) → is_some (stage_records stage) ≡ true → AcceptWith f k.file [] → KnowsFile f stage h k → OpensIn f k.file (seen h)
stage_in f (At.Starting s) h k has A K =
    record { form = ap form_of K.at ∙ A.form; reopens = subst (Reopens k.file) (sym K.at) (exact_reopens k.file (subst (λ g. AcceptWith g k.file []) (sym A.form) A)) }
stage_in f (At.Open txn command) h k has A K = stage_leaves f (At.Open txn command) h k tt K (seen h) (leaves_seen h)
stage_in f (At.Committing m) h k has A K = stage_leaves f (At.Committing m) h k tt K (seen h) (leaves_seen h)
stage_in f (At.Preparing p) h k has A K = stage_leaves f (At.Preparing p) h k tt K (seen h) (leaves_seen h)
stage_in f (At.Prepared left command) h k has A K = stage_leaves f (At.Prepared left command) h k tt K (seen h) (leaves_seen h)
stage_in f (At.Finishing s) h k has A K = stage_leaves f (At.Finishing s) h k tt K (seen h) (leaves_seen h)

-- who may die has all records
pub dying_records : (stage : Stage) → MayDie (stage_task stage) → is_some (stage_records stage) ≡ true
dying_records (At.Starting s) may = absurd may
dying_records (At.Open txn command) may = refl
dying_records (At.Committing c) may = refl
dying_records (At.Preparing p) may = refl
dying_records (At.Prepared left command) may = refl
dying_records (At.Finishing s) may = refl

-- Where the one aside has all records the file opens to the map of the side's image.
module _ (w : Whole) (holder : HolderState) (h : History) (img : List ℕ) (past : Past) (s : Side) (A : IsAside w holder h img past s) (has : is_some (stage_records holder.stage) ≡ true) where
  pub aside_opens : OpensIn (form_at w) img (seen h)
  aside_opens =
      subst (λ i. OpensIn (form_at w) i (seen h)) (sym A.image)
      (stage_in (form_at w) holder.stage h A.known has (subst (λ i. AcceptWith (form_at w) i []) A.image (A.accepted has)) A.file)

  pub aside_reopens : Reopens img (seen h)
  aside_reopens = aside_opens.reopens

-- At each stage the file is read as the image that is known of it.
starts_reading : (s : Starting) → writes_all (start_records s) ≡ false
starts_reading Starts.Begun = refl
starts_reading Starts.Claimed = refl
starts_reading Starts.Reading = refl

shut_reads : (f : Form) (h : History) (img : List ℕ) → img ≡ seen h → Shut f img → IsReadFrom f h img
shut_reads f h img is shut =
    let same : restored f (seen h) ≡ img = ap (restored f) (sym is) ∙ read_as_it_is f img shut in
    record { map = ap (image_map f) same; number = ap (number_of f) same }

stage_reads : (f : Form) (stage : Stage) (h : History) (k : Known) → (writes_all (stage_records stage) ≡ false → Shut f k.file) → KnowsFile f stage h k → IsReadFrom f h k.file
stage_reads f (At.Starting s) h k shut K = shut_reads f h k.file (sym K.at) (shut (starts_reading s))
stage_reads f (At.Open txn command) h k shut K = rest_reads f h k.file K.forms.0 (ready_rests txn.own.txn h k.file k.image K.at.0)
stage_reads f (At.Committing c) h k shut K = elim (cases_lt (commit_steps c) 8) [
  | inl few ↦ commit_reads f c h k.file k.image K.forms.0 few K.at.0
  | inr late ↦ subst (IsReadFrom f h) (sym (K.at.1 late)) (shut_commit_reads f c h k.file k.image K.forms.1 late K.at.0)
]
stage_reads f (At.Preparing p) h k shut K = prepare_reads f p.stage h k.file k.image K.forms.0 K.at
stage_reads f (At.Prepared (Opened state) command) h k shut K = prepared_reads f (prepared_plan state) h k.file k.image K.forms.0 K.at.0
stage_reads f (At.Prepared (Nothing changed) command) h k shut K = rest_reads f h k.file K.forms.0 K.at.0
stage_reads f (At.Finishing s) h k shut K = elim (cases_lt (finish_steps s) 3) [
  | inl few ↦ finish_reads f s h k.file k.image K.forms.0 few K.at.0
  | inr late ↦ subst (IsReadFrom f h) (sym (K.at.1 late)) (shut_finish_reads f s h k.file k.image K.forms.1 late K.at.0)
]

pub aside_reads : (w : Whole) (holder : HolderState) (h : History) (img : List ℕ) (past : Past) (s : Side) → IsAside w holder h img past s → IsReadFrom (form_at w) h img
aside_reads w holder h img past s A =
    subst (IsReadFrom (form_at w) h) (sym A.image)
    (stage_reads (form_at w) holder.stage h A.known (λ e. subst (Shut (form_at w)) A.image (A.others e).bytes.accepted.shut) A.file)

-- So it is read as each state says.
side_reads : (w : Whole) (holder : Option HolderState) (h : History) (img : List ℕ) (past : Past) (side : Option Side) → SideIs w holder h img past side → IsReadAs (form_at w) (seen h) (state_with w img past side)
side_reads w None h img past None S = let R = shut_reads (form_at w) h img S.image S.bytes.accepted.shut in record { file = sym R.map; number = sym R.number }
side_reads w None h img past (Some s) S = absurd S
side_reads w (Some holder) h img past None A = absurd A
side_reads w (Some holder) h img past (Some s) A = let R = aside_reads w holder h img past s A in record { file = sym R.map; number = sym R.number }

pub state_reopens : StatesAreRead
state_reopens w h state (of_whole S) = subst (IsReadAs (form_at w) (seen h)) (sym S.is) (side_reads w w.aside h S.image S.past S.side S.is_side)
state_reopens w h state (of_stale S) =
    subst (IsReadAs (form_at w) (seen h)) (sym S.is) (record { file = ap (image_map (form_at w)) S.undone; number = ap (number_of (form_at w)) S.undone })
