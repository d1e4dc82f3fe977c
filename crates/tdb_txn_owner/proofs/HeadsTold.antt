-- What the heads of the chains tell while an opener holds all records for writing.
use Rattle.std.proofs.Common.{◌≡◌, ℕ, ◌+◌, ◌<◌, ◌≤◌, List, [], ◌∷◌, true, false, not, nat_le, Option, Some, None, length, slice_index, refl, sym, ap, ◌∙◌, subst, inl, inr, arith}
use Rattle.std.specs.Prelude.{◌&&◌, if◌then◌else◌}
use Rattle.std.specs.FinMap.{from_entries}
use Rattle.tdb_disk.specs.History.{History, seen}
use Rattle.tdb_disk.proofs.Image.{length-overlay, overlay_below}
use Rattle.tdb_words.specs.Word.{word, bytes_of_word}
use Rattle.tdb_words.specs.declared.record.TheConstants.{GATE_OPEN, GATE_SHUT}
use Rattle.tdb_space.specs.Accepted.{AcceptWith}
use Rattle.tdb_space.specs.Chain.{Linked, chain_of}
use Rattle.tdb_space.specs.Form.{Form, form_of, data_start, chain_head}
use Rattle.tdb_space.specs.Pairs.{home}
use Rattle.tdb_space.specs.Planned.{settled_with}
use Rattle.tdb_space.specs.Record.{IsChained}
use Rattle.tdb_space.specs.Undoing.{Reopens}
use Rattle.tdb_space.proofs.Exchange.Kept.{word_kept}
use Rattle.tdb_space.proofs.Form.Headers.{form_kept}
use Rattle.tdb_space.proofs.Opening.Undone.{read_as_it_is}
use Rattle.tdb_space.proofs.Pairs.Maps.{home_below}
use Rattle.tdb_space.proofs.Planned.Ready.{area_within}
use Rattle.tdb_space.proofs.Undoing.Alike.{exact_reopens}
use Rattle.tdb_locks.specs.declared.kind.Kind.TheVariants.{Write}
use Rattle.tdb_law.specs.Commands.GroupCommand.{Commit}
use Rattle.tdb_law.specs.Commands.Command.{OnGroup}
use Rattle.tdb_law.specs.Counting.{commit_writes, commit_takes, takes_by, takes}
use Rattle.tdb_law.specs.Images.{image_map}
use Rattle.tdb_law.specs.Layout.{cells, live_in}
use Rattle.tdb_law.specs.Openers.{Own, Txn, has}
use Rattle.tdb_law.proofs.OneAside.Committed.{live_mapped}
use Rattle.tdb_law.proofs.Tests.{never_true}
use Rattle.tdb_txn.specs.Commit.{Brings, IsApplied, IsPrepared, IsSettled, opened, scheme_of}
use Rattle.tdb_txn.specs.CommitStates.{prepared_plan, applied_plan, settled_plan}
use Rattle.tdb_txn.specs.declared.planned.Plan.{Plan}
use Rattle.tdb_txn.proofs.StatesKept.{fills_of, opened_beside}
use Rattle.tdb_txn_turns.specs.Commits.{Carries, RestsAt}
use Rattle.tdb_txn_turns.specs.Committings.{commit_steps, KnowsCommit}
use Rattle.tdb_txn_turns.specs.Finishes.{finish_steps, IsShut, KnowsFinish}
use Rattle.tdb_txn_turns.specs.Prepares.{KnowsStage, stage_steps}
use Rattle.tdb_txn_turns.specs.declared.committing.Committing.{Committing}
use Rattle.tdb_txn_turns.specs.declared.committing.Committing.TheVariants as Commits
use Rattle.tdb_txn_turns.specs.declared.finishing.Finishing.{Finishing}
use Rattle.tdb_txn_turns.specs.declared.finishing.Finishing.TheVariants as Finishes
use Rattle.tdb_txn_turns.specs.declared.preparing.PrepareStage.{PrepareStage}
use Rattle.tdb_txn_turns.specs.declared.preparing.PrepareStage.TheVariants as Prepares
use Rattle.tdb_txn_turns.specs.declared.starting.Starting.{Starting}
use Rattle.tdb_txn_turns.specs.declared.starting.Starting.TheVariants as Starts
use Rattle.tdb_txn_turns.proofs.Carried.{ready_rests}
use Rattle.tdb_txn_owner.specs.Heads.{HeadsHold, HeadsAreThere, LackedAreOut}
use Rattle.tdb_txn_owner.specs.Reads.{IsReadAs}
use Rattle.tdb_txn_owner.specs.Stages.{start_records, HasOuter}
use Rattle.tdb_txn_owner.specs.Ends.{task_of}
use Rattle.tdb_txn_owner.specs.declared.stage.PreparedTxn.TheVariants.{Opened, Nothing}
use Rattle.tdb_txn_owner.specs.declared.stage.Stage.TheVariants as At
use Rattle.tdb_txn_owner.proofs.ReadAs.{end_reads, own_map_read, prepare_opens, prepare_reads, rest_reads}

-- a chain whose head is 0 has no record, since none stands before the records
empty_chain : (f : Form) (img k : List ℕ) (at : ℕ) (xs : List ℕ) → at ≡ 0 → Linked f IsChained img at xs → live_in (cells f img xs) k ≡ false
empty_chain f img k at [] none L = refl
empty_chain f img k at (x ∷ xs) none L = absurd (let above = L.1.above in let same = L.0 in omega (arith, none, same, above))

-- the heads of an accepted image tell of it
accepted_heads : (f : Form) (img : List ℕ) → AcceptWith f img [] → HeadsHold f img img
accepted_heads f img A = record {
  reaches = A.long;
  keys = λ k there none. never_true (sym (sym (live_mapped f img k [] A) ∙ empty_chain f img k (word f.order img (chain_head (home f k))) (chain_of f img (home f k)) none (A.chains (home f k) (home_below f k A.some))) ∙ there);
}

-- so do the same heads, of an image with the same map
heads_kept : (f : Form) (a b img : List ℕ) → 0 < f.chains → length b ≡ length a → ((i : ℕ) → 172 ≤ i → i < data_start f → slice_index b i ≡ slice_index a i) → HeadsHold f a img → HeadsHold f b img
heads_kept f a b img some size same H = record {
  reaches = (let reaches = H.reaches in omega (arith, reaches, size));
  keys = λ k there none. H.keys k there (sym (word_kept f.order a b (chain_head (home f k)) 172 (data_start f) same (omega arith) (let low = home_below f k some in omega (arith, low))) ∙ none);
}

heads_of : (f : Form) (bytes a b : List ℕ) → image_map f b ≡ image_map f a → HeadsHold f bytes a → HeadsHold f bytes b
heads_of f bytes a b same H = record { reaches = H.reaches; keys = λ k there. H.keys k (ap (λ m. has m k) (sym same) ∙ there) }

-- where the file is accepted as it is, it is read as it is
shut_heads : (f : Form) (h : History) (r : List ℕ) → AcceptWith f (seen h) [] → IsReadAs f h r → HeadsHold f (seen h) r
shut_heads f h r A R = heads_of f (seen h) (seen h) r (sym R.map ∙ ap (image_map f) (read_as_it_is f (seen h) A.shut)) (accepted_heads f (seen h) A)

by_form : (f g : Form) (img : List ℕ) → g ≡ f → AcceptWith g img [] → AcceptWith f img []
by_form f g img is A = subst (λ x. AcceptWith x img []) is A

rest_heads : (f : Form) (h : History) (r : List ℕ) → form_of r ≡ f → RestsAt h r → HeadsHold f (seen h) r
rest_heads f h r form R = shut_heads f h r (by_form f (form_of r) (seen h) form R.accepted) (rest_reads f h r form R)

end_heads : (f : Form) (h : History) (b : List ℕ) → form_of b ≡ f → IsShut h b → HeadsHold f (seen h) b
end_heads f h b form S = shut_heads f h b (by_form f (form_of b) (seen h) form S.accepted) (end_reads f h b form S)

-- a plan from image x to image y, of the file as it was before the gate was opened, which opens to the map of image r
module _ (f : Form) (plan : Plan) (r x y : List ℕ) (form : form_of r ≡ f) (its : form_of x ≡ f) (B : Brings plan x y) (O : Reopens r x) where
  accepted : AcceptWith f x []
  accepted = by_form f (form_of x) x its B.before

  same_map : image_map f r ≡ image_map f x
  same_map =
      let shut = read_as_it_is (form_of x) x B.before.shut in
      ap (λ g. image_map g r) (sym form) ∙ sym (own_map_read r x O) ∙ ap (image_map (form_of x)) shut ∙ ap (λ g. image_map g x) its

  -- the gate lies behind the heads
  area_above : data_start f ≤ plan.area
  area_above = subst (λ g. data_start g ≤ plan.area) its (area_within (scheme_of plan) x y B.before B.planned).1

  opened_heads : HeadsHold f (opened plan x) r
  opened_heads =
      heads_of f (opened plan x) x r same_map
      (heads_kept f x (opened plan x) x accepted.some (length-overlay x (plan.area + 20) (bytes_of_word plan.header.order GATE_OPEN))
      (λ i from to. opened_beside plan x i (inl (omega (arith, to, area_above)))) (accepted_heads f x accepted))

-- once the plan is written the heads are those of image y
module _ (f : Form) (plan : Plan) (x y : List ℕ) (its : form_of x ≡ f) (B : Brings plan x y) where
  abbrev written : List ℕ
  written = settled_with (scheme_of plan) y (opened plan x)

  after_form : form_of y ≡ f
  after_form = form_kept x y B.planned.header ∙ its

  above : data_start f ≤ plan.area
  above = subst (λ g. data_start g ≤ plan.area) its (area_within (scheme_of plan) x y B.before B.planned).1

  accepted_after : AcceptWith f y []
  accepted_after = by_form f (form_of y) y after_form B.after

  same_bytes : (i : ℕ) → 172 ≤ i → i < data_start f → slice_index written i ≡ slice_index y i
  same_bytes i from to =
      let long = accepted_after.long in
      let gate = B.planned.gate in
      sym (overlay_below written (scheme_of plan).gate (bytes_of_word plan.header.order GATE_SHUT) i (omega (arith, to, above, gate)))
      ∙ (fills_of plan x y B).reads i (omega (arith, to, long)) (inr (omega (arith, from))) (inl (omega (arith, to, above)))

  written_long : data_start f ≤ length written
  written_long =
      let size = (fills_of plan x y B).size in
      let same = length-overlay written (scheme_of plan).gate (bytes_of_word plan.header.order GATE_SHUT) in
      let reaches = (fills_of plan x y B).reaches in
      let long = accepted_after.long in
      omega (arith, size, same, reaches, long)

  written_heads : HeadsHold f written y
  written_heads =
      let H = accepted_heads f y accepted_after in
      record {
        reaches = written_long;
        keys = λ k there none. H.keys k there (sym (word_kept f.order y written (chain_head (home f k)) 172 (data_start f) same_bytes (omega arith) (let low = home_below f k accepted_after.some in omega (arith, low))) ∙ none);
      }

-- the stages of a commit
module _ (f : Form) (h : History) (r b : List ℕ) (old : form_of r ≡ f) (form : form_of b ≡ f) where
  -- what is carried along
  carried_form : (State : History → List ℕ → List ℕ → Type 0) (plan : Plan) (C : Carries State h r b) → Brings plan C.before C.after → form_of C.before ≡ f
  carried_form State plan C B = sym (form_kept C.before C.after B.planned.header) ∙ form_kept b C.after C.stands.header ∙ form

  opened_at : (plan : Plan) → Carries (IsPrepared plan) h r b → HeadsHold f (seen h) r
  opened_at plan C =
      let S = C.state in
      subst (λ c. HeadsHold f c r) (sym S.file) (opened_heads f plan r C.before C.after old (carried_form (IsPrepared plan) plan C S.brings) S.brings (C.reopens C.before (exact_reopens C.before S.brings.before)))

  after_map : (State : History → List ℕ → List ℕ → Type 0) (C : Carries State h r b) → image_map f b ≡ image_map f C.after
  after_map State C = sym (subst (λ g. image_map g C.after ≡ image_map g b) form (ap from_entries C.stands.same_order))

  applied_at : (plan : Plan) → Carries (IsApplied plan) h r b → HeadsHold f (seen h) b
  applied_at plan C =
      let S = C.state in
      subst (λ c. HeadsHold f c b) (sym S.file) (heads_of f _ C.after b (after_map (IsApplied plan) C) (written_heads f plan C.before C.after (carried_form (IsApplied plan) plan C S.brings) S.brings))

  settled_at : (plan : Plan) → Carries (IsSettled plan) h r b → HeadsHold f (seen h) b
  settled_at plan C =
      let S = C.state in
      subst (λ c. HeadsHold f c b) (sym S.file) (heads_of f _ C.after b (after_map (IsSettled plan) C) (written_heads f plan C.before C.after (carried_form (IsSettled plan) plan C S.brings) S.brings))

  prepare_at : (s : PrepareStage) → KnowsStage s h r b → HeadsHold f (seen h) r
  prepare_at Prepares.Unchanged K = rest_heads f h r old K
  prepare_at (Prepares.Begun txn) K = rest_heads f h r old (ready_rests txn h r b K)
  prepare_at (Prepares.Records txn) K = rest_heads f h r old (ready_rests txn h r b K)
  prepare_at (Prepares.Locked txn) K = rest_heads f h r old (ready_rests txn h r b K)
  prepare_at (Prepares.Planned state) K =
      let A = K.state.stays.accepted in
      shut_heads f h r (by_form f (form_of K.before) (seen h) (sym A.form ∙ (prepare_opens f (Prepares.Planned state) h r b old K).form) A) (prepare_reads f (Prepares.Planned state) h r b old K)
  prepare_at (Prepares.Filled state) K =
      shut_heads f h r
      (by_form f (form_of (seen h)) (seen h) (prepare_opens f (Prepares.Filled state) h r b old K).form (subst (λ c. AcceptWith (form_of c) c []) (sym K.state.file) K.state.brings.before))
      (prepare_reads f (Prepares.Filled state) h r b old K)

  finish_at : (s : Finishing) → KnowsFinish s h r b → HeadsHold f (seen h) (if nat_le 1 (finish_steps s) then b else r)
  finish_at (Finishes.Open state) K = opened_at (prepared_plan state) K
  finish_at (Finishes.Applied state) K = applied_at (applied_plan state) K
  finish_at (Finishes.Settled state) K = settled_at (settled_plan state) K
  finish_at Finishes.Shut K = end_heads f h b form K

  commit_at : (c : Committing) → KnowsCommit c h r b → HeadsHold f (seen h) (if nat_le 6 (commit_steps c) then b else r)
  commit_at (Commits.Preparing p) K = prepare_in p.stage K
    where
      prepare_in : (s : PrepareStage) → KnowsStage s h r b → HeadsHold f (seen h) (if nat_le 6 (stage_steps s) then b else r)
      prepare_in Prepares.Unchanged K = prepare_at Prepares.Unchanged K
      prepare_in (Prepares.Begun txn) K = prepare_at (Prepares.Begun txn) K
      prepare_in (Prepares.Records txn) K = prepare_at (Prepares.Records txn) K
      prepare_in (Prepares.Locked txn) K = prepare_at (Prepares.Locked txn) K
      prepare_in (Prepares.Planned state) K = prepare_at (Prepares.Planned state) K
      prepare_in (Prepares.Filled state) K = prepare_at (Prepares.Filled state) K
  commit_at (Commits.Finishing Finishes.Shut) K = finish_at Finishes.Shut K
  commit_at (Commits.Finishing (Finishes.Open state)) K = finish_at (Finishes.Open state) K
  commit_at (Commits.Finishing (Finishes.Applied state)) K = finish_at (Finishes.Applied state) K
  commit_at (Commits.Finishing (Finishes.Settled state)) K = finish_at (Finishes.Settled state) K

-- a Start doesn't write, nor does an opener in the midst of its transaction
never_starts : (s : Starting) → start_records s ≡ Some Write → ⊥
never_starts Starts.Begun e = cc e
never_starts Starts.Claimed e = cc e
never_starts Starts.Reading e = cc e

pub heads_there : HeadsAreThere
heads_there f (At.Starting s) h k writes K = absurd (never_starts s writes)
heads_there f (At.Open txn command) h k writes K = absurd (cc writes)
heads_there f (At.Committing c) h k writes K = commit_at f h k.file k.image K.forms.0 K.forms.1 c K.at.0
heads_there f (At.Preparing p) h k writes K = prepare_at f h k.file k.image K.forms.0 K.forms.1 p.stage K.at
heads_there f (At.Prepared (Opened state) command) h k writes K = opened_at f h k.file k.image K.forms.0 K.forms.1 (prepared_plan state) K.at.0
heads_there f (At.Prepared (Nothing changed) command) h k writes K = rest_heads f h k.file K.forms.0 K.at.0
heads_there f (At.Finishing s) h k writes K = finish_at f h k.file k.image K.forms.0 K.forms.1 s K.at.0

-- A commit takes out what its image lacks, once it has written that.
taken_by : (f : Form) (x : Own) (txn : Txn) (image : List ℕ) (prepared : Option ℕ) (n : ℕ) (key : List ℕ) → HasOuter f image Commit prepared txn x → commit_writes prepared n ≡ true → has (image_map f image) key ≡ false → takes f (OnGroup Commit) x n key ≡ true
unfolding takes
taken_by f x txn image prepared n key H writes lacks =
    ap (λ q. takes_by q (OnGroup Commit) x n key) H.outer.granted ∙ ap (λ o. commit_takes o n key) H.outer.has
    ∙ ap (λ p. commit_writes p n && not (has txn.image key)) H.prepared_is ∙ ap (λ z. z && not (has txn.image key)) writes
    ∙ ap (λ m. not (has m key)) H.map ∙ ap not lacks

pub lacked_out : LackedAreOut
lacked_out f o owner ps (At.Starting st) k past s S written key lacks = absurd (never_true written)
lacked_out f o owner ps (At.Open txn command) k past s S written key lacks = absurd (never_true written)
lacked_out f o owner ps (At.Committing c) k past s S written key lacks =
    record { task = task_of (OnGroup Commit) (commit_steps c); has_task = S.task; commits = refl; taken_out = taken_by f s.own S.own.txn k.image None (commit_steps c) key S.own.has written lacks }
lacked_out f o owner ps (At.Preparing p) k past s S written key lacks = absurd (never_true written)
lacked_out f o owner ps (At.Prepared left command) k past s S written key lacks = absurd (never_true written)
lacked_out f o owner ps (At.Finishing st) k past s S written key lacks =
    record { task = task_of (OnGroup Commit) (finish_steps st); has_task = S.task; commits = refl; taken_out = taken_by f s.own S.own.txn k.image (Some 4) (finish_steps st) key S.own.has written lacks }
