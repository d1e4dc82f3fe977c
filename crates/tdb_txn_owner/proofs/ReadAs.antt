-- As what the file is read while a transaction is committed into it.
use Rattle.std.proofs.Common.{◌≡◌, ℕ, ◌<◌, ◌≤◌, List, [], refl, sym, ap, ◌∙◌, subst, inl, inr, arith}
use Rattle.std.specs.FinMap.{from_entries, get}
use Rattle.tdb_disk.specs.History.{History, seen}
use Rattle.tdb_disk.proofs.Stop.{leaves_seen}
use Rattle.tdb_words.specs.Word.{word}
use Rattle.tdb_words.specs.declared.record.TheConstants.{GATE_OPEN}
use Rattle.tdb_space.specs.Accepted.{Accept, AcceptWith}
use Rattle.tdb_space.specs.Form.{Form, form_of, SameHeader}
use Rattle.tdb_space.specs.Opening.{own_map, restored}
use Rattle.tdb_space.specs.Pairs.{map_of}
use Rattle.tdb_space.specs.Planned.{IsPlanned}
use Rattle.tdb_space.specs.Scheme.{Scheme, Within, with_gate}
use Rattle.tdb_space.specs.Undoing.{Reopens}
use Rattle.tdb_space.proofs.Form.Headers.{form_kept}
use Rattle.tdb_space.proofs.Moved.SameLists.{stays_reopens}
use Rattle.tdb_space.proofs.Opening.Undone.{read_as_it_is}
use Rattle.tdb_space.proofs.Planned.Ready.{area_within, plan_lies}
use Rattle.tdb_space.proofs.RecoverySteps.Emptying.{word_beside}
use Rattle.tdb_space.proofs.Scheme.WritesUndone.{within_itself}
use Rattle.tdb_space.proofs.Undoing.Alike.{exact_reopens}
use Rattle.tdb_law.specs.Images.{image_map}
use Rattle.tdb_law.specs.Openers.{Map}
use Rattle.tdb_law.proofs.HandsOut.{image_answers}
use Rattle.tdb_law.proofs.Maps.{maps_equal}
use Rattle.tdb_steps.specs.Turns.{number_of}
use Rattle.tdb_txn.specs.Commit.{Brings, IsPrepared, opened, scheme_of}
use Rattle.tdb_txn.specs.Planned.{IsPlannedOn}
use Rattle.tdb_txn.specs.declared.planned.Plan.{Plan}
use Rattle.tdb_txn.proofs.StatesKept.{fills_of}
use Rattle.tdb_txn_turns.specs.Commits.{Carries, OpensAs, RestsAt, StandsFor}
use Rattle.tdb_txn_turns.specs.Committings.{commit_steps, KnowsCommit}
use Rattle.tdb_txn_turns.specs.Finishes.{finish_steps, IsShut, KnowsFinish}
use Rattle.tdb_txn_turns.specs.Prepares.{stage_steps, KnowsStage}
use Rattle.tdb_txn_turns.specs.declared.committing.Committing.{Committing}
use Rattle.tdb_txn_turns.specs.declared.committing.Committing.TheVariants as Commits
use Rattle.tdb_txn_turns.specs.declared.finishing.Finishing.{Finishing}
use Rattle.tdb_txn_turns.specs.declared.finishing.Finishing.TheVariants as Finishes
use Rattle.tdb_txn_turns.specs.declared.preparing.PrepareStage.{PrepareStage}
use Rattle.tdb_txn_turns.specs.declared.preparing.PrepareStage.TheVariants as Prepares
use Rattle.tdb_txn_turns.proofs.Carried.{ready_rests}
use Rattle.tdb_txn_owner.specs.Reads.{IsReadAs}

-- images with the same map, at each key, are the same as maps
pub maps_alike : (f g : Form) (a b : List ℕ) → ((key : List ℕ) → map_of f a key ≡ map_of g b key) → image_map f a ≡ image_map g b
maps_alike f g a b same = maps_equal (image_map f a) (image_map g b) (λ key. image_answers f a key ∙ same key ∙ sym (image_answers g b key))

-- an image that opens to the map of another one, by its own form
module _ (r c : List ℕ) (R : Reopens r c) where
  abbrev img : List ℕ
  img = restored (form_of c) c

  pub restored_form : form_of img ≡ form_of c
  restored_form = elim R.again [ inl shut ↦ ap form_of (read_as_it_is (form_of c) c shut) | inr mild ↦ form_kept c img mild.header ]

  pub own_map_read : image_map (form_of c) img ≡ image_map (form_of r) r
  own_map_read = maps_alike (form_of c) (form_of r) img r (λ key. ap (λ g. map_of g img key) (sym restored_form) ∙ R.opens.holds key)

  own_number_read : number_of (form_of c) img ≡ number_of (form_of r) r
  own_number_read = ap (λ (g : Form). word g.order img 48) (sym restored_form) ∙ R.sequence

-- and by a form that both have
reopens_reads : (f : Form) (h : History) (r : List ℕ) → form_of r ≡ f → form_of (seen h) ≡ f → Reopens r (seen h) → IsReadAs f h r
reopens_reads f h r old now R = record {
  map = ap (λ g. image_map g (restored g (seen h))) (sym now) ∙ own_map_read r (seen h) R ∙ ap (λ g. image_map g r) old;
  number = ap (λ g. number_of g (restored g (seen h))) (sym now) ∙ own_number_read r (seen h) R ∙ ap (λ g. number_of g r) old;
}

-- what stands for an image has its map
stands_map : (b x : List ℕ) → StandsFor b x → (key : List ℕ) → own_map x key ≡ own_map b key
stands_map b x S key =
    let same : image_map (form_of b) x ≡ image_map (form_of b) b = ap from_entries S.same_order in
    ap (λ g. map_of g x key) (form_kept b x S.header) ∙ sym (image_answers (form_of b) x key) ∙ ap (λ (m : Map). get m key) same ∙ image_answers (form_of b) b key

-- so what opens as the transaction's image opens to the map of that, and is read as it
pub opens_as : (b c : List ℕ) → OpensAs b c → Reopens b c
opens_as b c O = record {
  opens = record { opens = O.opens.opens.opens; holds = λ key. O.opens.opens.holds key ∙ stands_map b O.image O.stands key };
  again = O.opens.again;
  sequence = O.opens.sequence ∙ O.stands.number;
}

opened_reads : (f : Form) (h : History) (b : List ℕ) → form_of b ≡ f → form_of (seen h) ≡ f → OpensAs b (seen h) → IsReadAs f h b
opened_reads f h b form now O = reopens_reads f h b form now (opens_as b (seen h) O)

-- what is written within a plan leaves the header
within_form : (p : Scheme) (a b d : List ℕ) → Accept a → Accept b → IsPlanned p a b → Within p (with_gate GATE_OPEN p a) d → form_of d ≡ form_of a
within_form p a b d A B h W = form_kept a d header
  where
    header : SameHeader a d
    header i front =
        let low : i < 64 = elim front [ inl lt ↦ omega (arith, lt) | inr le ↦ omega (arith, le) ] in
        W.others i (omega (arith, low, h.old_above)) ((plan_lies p a b A h).front i (elim front [ inl lt ↦ inl (omega (arith, lt)) | inr le ↦ inr (omega (arith, le)) ]))
        ∙ word_beside p.order a p.gate GATE_OPEN i (inl (omega (arith, low, h.gate, (area_within p a b A h).1)))

-- An image of the file has this form, and opens to the map of image r.
pub record OpensIn (f : Form) (r c : List ℕ) : Type 0 where
  pub form : form_of c ≡ f
  pub reopens : Reopens r c

-- What an undo gives has the form of the file before it; it is accepted, and the file opens to its map.
module _ (f : Form) (r c : List ℕ) (O : OpensIn f r c) where
  undone : restored (form_of c) c ≡ restored f c
  undone = ap (λ g. restored g c) O.form

  pub restored_accepted : AcceptWith f (restored f c) []
  restored_accepted =
      subst (λ i. AcceptWith f i []) undone
      (subst (λ g. AcceptWith g (restored (form_of c) c) []) (restored_form r c O.reopens ∙ O.form) O.reopens.opens.opens.accepted)

  pub restored_opens : Reopens (restored f c) c
  restored_opens =
      subst (λ i. Reopens i c) undone
      (record { opens = record { opens = O.reopens.opens.opens; holds = λ key. refl }; again = O.reopens.again; sequence = refl })

-- The states of a commit: the file has the form of what is written, and opens to the map of what was there. With the
-- gate open so does whatever is written within the plan.
pub open_in : (plan : Plan) (x y c : List ℕ) → Brings plan x y → Within (scheme_of plan) (opened plan x) c → OpensIn (form_of y) x c
open_in plan x y c brings W = record {
  form = within_form (scheme_of plan) x y c brings.before brings.after brings.planned W ∙ sym (form_kept x y brings.planned.header);
  reopens = (fills_of plan x y brings).undoes c W;
}

prepared_seen : (plan : Plan) (h : History) (x y : List ℕ) → IsPrepared plan h x y → OpensIn (form_of y) x (seen h)
prepared_seen plan h x y S = open_in plan x y (seen h) S.brings (subst (Within (scheme_of plan) (opened plan x)) (sym S.file) (within_itself (scheme_of plan) (opened plan x)))

pub planned_seen : (plan : Plan) (h : History) (x y : List ℕ) → IsPlannedOn plan h x y → OpensIn (form_of y) x (seen h)
planned_seen plan h x y S = record { form = sym (form_kept (seen h) y S.awaits.header); reopens = stays_reopens x (seen h) S.stays S.sequence }

-- so each image that opens to the map of what was there opens to that of the file before the commit
pub carried_opens : (State : History → List ℕ → List ℕ → Type 0) (f : Form) (h : History) (r b c : List ℕ) → form_of r ≡ f → Carries State h r b
    → ((x y : List ℕ) → State h x y → OpensIn (form_of y) x c) → OpensIn f r c
carried_opens State f h r b c form C state =
    let S = state C.before C.after C.state in
    record { form = S.form ∙ form_kept b C.after C.stands.header ∙ form_kept r b C.header ∙ form; reopens = C.reopens c S.reopens }

pub prepared_opens : (f : Form) (plan : Plan) (h : History) (r b : List ℕ) → form_of r ≡ f → Carries (IsPrepared plan) h r b → OpensIn f r (seen h)
prepared_opens f plan h r b form C = carried_opens (IsPrepared plan) f h r b (seen h) form C (prepared_seen plan h)

pub rest_opens : (f : Form) (h : History) (r : List ℕ) → form_of r ≡ f → RestsAt h r → OpensIn f r (seen h)
rest_opens f h r form R = record { form = R.accepted.form ∙ form; reopens = R.opens }

pub prepare_opens : (f : Form) (s : PrepareStage) (h : History) (r b : List ℕ) → form_of r ≡ f → KnowsStage s h r b → OpensIn f r (seen h)
prepare_opens f Prepares.Unchanged h r b form K = rest_opens f h r form K
prepare_opens f (Prepares.Begun txn) h r b form K = rest_opens f h r form (ready_rests txn h r b K)
prepare_opens f (Prepares.Records txn) h r b form K = rest_opens f h r form (ready_rests txn h r b K)
prepare_opens f (Prepares.Locked txn) h r b form K = rest_opens f h r form (ready_rests txn h r b K)
prepare_opens f (Prepares.Planned state) h r b form K = carried_opens _ f h r b (seen h) form K (planned_seen _ h)
prepare_opens f (Prepares.Filled state) h r b form K =
    carried_opens _ f h r b (seen h) form K
    (λ x y S. record { form = ap form_of S.file ∙ sym (form_kept x y S.brings.planned.header); reopens = subst (Reopens x) (sym S.file) (exact_reopens x S.brings.before) })

pub finish_opens : (f : Form) (s : Finishing) (h : History) (r b : List ℕ) → form_of r ≡ f → finish_steps s < 3 → KnowsFinish s h r b → OpensIn f r (seen h)
finish_opens f (Finishes.Open state) h r b form few K = prepared_opens f _ h r b form K
finish_opens f (Finishes.Applied state) h r b form few K = carried_opens _ f h r b (seen h) form K (λ x y S. open_in _ x y (seen h) S.brings (S.within (seen h) (leaves_seen h)))
finish_opens f (Finishes.Settled state) h r b form few K = carried_opens _ f h r b (seen h) form K (λ x y S. open_in _ x y (seen h) S.brings S.within)
finish_opens f Finishes.Shut h r b form few K = absurd (omega (arith, few))

-- and is read as it
pub opens_reads : (f : Form) (h : History) (r : List ℕ) → form_of r ≡ f → OpensIn f r (seen h) → IsReadAs f h r
opens_reads f h r form O = reopens_reads f h r form O.form O.reopens

pub prepared_reads : (f : Form) (plan : Plan) (h : History) (r b : List ℕ) → form_of r ≡ f → Carries (IsPrepared plan) h r b → IsReadAs f h r
prepared_reads f plan h r b form C = opens_reads f h r form (prepared_opens f plan h r b form C)

pub rest_reads : (f : Form) (h : History) (r : List ℕ) → form_of r ≡ f → RestsAt h r → IsReadAs f h r
rest_reads f h r form R = opens_reads f h r form (rest_opens f h r form R)

pub end_reads : (f : Form) (h : History) (b : List ℕ) → form_of b ≡ f → IsShut h b → IsReadAs f h b
end_reads f h b form S = opened_reads f h b form (S.accepted.form ∙ form) S.opens

pub prepare_reads : (f : Form) (s : PrepareStage) (h : History) (r b : List ℕ) → form_of r ≡ f → KnowsStage s h r b → IsReadAs f h r
prepare_reads f s h r b form K = opens_reads f h r form (prepare_opens f s h r b form K)

pub finish_reads : (f : Form) (s : Finishing) (h : History) (r b : List ℕ) → form_of r ≡ f → finish_steps s < 3 → KnowsFinish s h r b → IsReadAs f h r
finish_reads f s h r b form few K = opens_reads f h r form (finish_opens f s h r b form few K)

pub shut_finish_reads : (f : Form) (s : Finishing) (h : History) (r b : List ℕ) → form_of b ≡ f → 3 ≤ finish_steps s → KnowsFinish s h r b → IsReadAs f h b
shut_finish_reads f (Finishes.Open state) h r b form late K = absurd (omega (arith, late))
shut_finish_reads f (Finishes.Applied state) h r b form late K = absurd (omega (arith, late))
shut_finish_reads f (Finishes.Settled state) h r b form late K = absurd (omega (arith, late))
shut_finish_reads f Finishes.Shut h r b form late K = end_reads f h b form K

pub commit_reads : (f : Form) (c : Committing) (h : History) (r b : List ℕ) → form_of r ≡ f → commit_steps c < 8 → KnowsCommit c h r b → IsReadAs f h r
commit_reads f (Commits.Preparing p) h r b form few K = prepare_reads f p.stage h r b form K
commit_reads f (Commits.Finishing s) h r b form few K = finish_reads f s h r b form (omega (arith, few)) K

-- a Prepare has four steps at most before its last turn
few_steps : (s : PrepareStage) → stage_steps s < 8
few_steps Prepares.Unchanged = omega arith
few_steps (Prepares.Begun txn) = omega arith
few_steps (Prepares.Records txn) = omega arith
few_steps (Prepares.Locked txn) = omega arith
few_steps (Prepares.Planned state) = omega arith
few_steps (Prepares.Filled state) = omega arith

pub shut_commit_reads : (f : Form) (c : Committing) (h : History) (r b : List ℕ) → form_of b ≡ f → 8 ≤ commit_steps c → KnowsCommit c h r b → IsReadAs f h b
shut_commit_reads f (Commits.Preparing p) h r b form late K = absurd (omega (arith, late, few_steps p.stage))
shut_commit_reads f (Commits.Finishing s) h r b form late K = shut_finish_reads f s h r b form (omega (arith, late)) K
