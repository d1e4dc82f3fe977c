-- The file once a transaction is over: it is accepted, and has the map and the number of an image.
use Rattle.std.proofs.Common.{◌≡◌, ℕ, List, [], sym, ◌∙◌, ap, subst}
use Rattle.std.specs.FinMap.{from_entries, same_map}
use Rattle.tdb_disk.specs.History.{History, seen}
use Rattle.tdb_space.specs.Accepted.{AcceptWith, Shut}
use Rattle.tdb_space.specs.Form.{Form, form_of}
use Rattle.tdb_space.specs.Opening.{own_map, restored}
use Rattle.tdb_space.specs.Pairs.{map_of, order_of}
use Rattle.tdb_space.specs.Undoing.{Reopens}
use Rattle.tdb_space.proofs.Form.Headers.{form_kept}
use Rattle.tdb_space.proofs.Opening.Undone.{read_as_it_is}
use Rattle.tdb_words.specs.Header.{sequence_of}
use Rattle.tdb_law.specs.Images.{image_map}
use Rattle.tdb_law.proofs.HandsOut.{image_answers}
use Rattle.tdb_law.proofs.Maps.{keys_apart, keys_total}
use Rattle.tdb_steps.specs.Turns.{number_of}
use Rattle.tdb_txn_turns.specs.Commits.{RestsAt}
use Rattle.tdb_txn_turns.specs.Finishes.{IsShut}
use Rattle.tdb_txn_turns.specs.Prepares.{IsReady}
use Rattle.tdb_txn_turns.proofs.Carried.{ready_rests}
use Rattle.tdb_txn.specs.declared.txn.Txn.{Txn}
use Rattle.tdb_txn_owner.specs.Turned.{RestsLike}

-- the number of an image by its own header
number_own : (f : Form) (x : List ℕ) → form_of x ≡ f → number_of f x ≡ sequence_of x
number_own f x form = ap (λ g. number_of g x) (sym form)

-- an accepted image that opens to the map of another, of the same form
module _ (f : Form) (c x : List ℕ) (A : AcceptWith f c []) (form : form_of x ≡ f) (R : Reopens x c) where
  as_it_is : restored (form_of c) c ≡ c
  as_it_is = read_as_it_is (form_of c) c (subst (λ g. Shut g c) (sym A.form) A.shut)

  same_key : (key : List ℕ) → map_of f c key ≡ map_of f x key
  same_key key =
      ap (λ g. map_of g c key) (sym A.form) ∙ ap (λ img. own_map img key) (sym as_it_is) ∙ R.opens.holds key ∙ ap (λ g. map_of g x key) form

  pub opened_map : image_map f c ≡ image_map f x
  opened_map = same_map keys_total keys_apart (image_map f c) (image_map f x) (λ key. image_answers f c key ∙ same_key key ∙ sym (image_answers f x key))

  pub opened_number : number_of f c ≡ number_of f x
  opened_number = number_own f c A.form ∙ ap sequence_of (sym as_it_is) ∙ R.sequence ∙ sym (number_own f x form)

-- where the transaction is ended without a commit, or found nothing to commit
pub rests_like : (f : Form) (h : History) (r : List ℕ) → form_of r ≡ f → RestsAt h r → RestsLike f h r
rests_like f h r form R =
    let A = subst (λ g. AcceptWith g (seen h) []) form R.accepted in
    record { quiet = R.quiet; accepted = A; map = opened_map f (seen h) r A form R.opens; number = opened_number f (seen h) r A form R.opens }

pub ready_like : (f : Form) (txn : Txn) (h : History) (r b : List ℕ) → form_of r ≡ f → IsReady txn h r b → RestsLike f h r
ready_like f txn h r b form ready = rests_like f h r form (ready_rests txn h r b ready)

-- where the gate is shut after a commit
pub shut_like : (f : Form) (h : History) (b : List ℕ) → form_of b ≡ f → IsShut h b → RestsLike f h b
shut_like f h b form S =
    let A = subst (λ g. AcceptWith g (seen h) []) form S.accepted in
    let x = S.opens.image in
    let stands = S.opens.stands in
    let same = form_kept b x stands.header ∙ form in
    record {
      quiet = S.quiet;
      accepted = A;
      map = opened_map f (seen h) x A same S.opens.opens ∙ ap (λ es. from_entries es) (ap (λ g. order_of g x) (sym form) ∙ stands.same_order ∙ ap (λ g. order_of g b) form);
      number = opened_number f (seen h) x A same S.opens.opens ∙ number_own f x same ∙ stands.number ∙ sym (number_own f b form);
    }
