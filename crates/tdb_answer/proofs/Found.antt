-- What a look-up finds in an opened file is what the map of the bytes holds that the file is read as.
use Rattle.std.proofs.Common.{◌≡◌, List, ℕ, [], Option, None, Some, sym, ◌∙◌, ap, subst}
use Rattle.std.specs.Prelude.{IsSome, is_some, MatchBool}
use Rattle.tdb_words.specs.Header.{header_at}
use Rattle.tdb_words.specs.Record.{rec_at}
use Rattle.tdb_space.specs.Form.{Form, form_in, form_of}
use Rattle.tdb_space.specs.Record.{data_at}
use Rattle.tdb_space.specs.Pairs.{map_of}
use Rattle.tdb_space.specs.Extents.{HandPair}
use Rattle.tdb_space.specs.Accepted.{AcceptWith, Accept}
use Rattle.tdb_chain.specs.Place.{IsFound}
use Rattle.tdb_chain.specs.declared.place.Place.{Place}
use Rattle.tdb_open.specs.declared.opening.Opened.{Opened}

-- a look-up found a place, or none
pub some_found : (f : Form) (img key : List ℕ) (found : Option Place) → IsFound f img key found → MatchBool (is_some found) (IsSome (map_of f img key)) (map_of f img key ≡ None)
some_found f img key None h = h
some_found f img key (Some p) h = ap is_some h.mapped

module _ (img key : List ℕ) (o : Opened) (accepted : Accept img) (header : o.header ≡ header_at img) where
  pub same_form : form_in o.header ≡ form_of img
  same_form = ap form_in header

  -- what holds of accepted bytes, told of the same bytes and their form
  pub told_of : (P : Form → List ℕ → Type 0) (f : Form) (i : List ℕ) → f ≡ form_in o.header → i ≡ img → (AcceptWith f i [] → P f i) → P (form_of img) img
  told_of P f i ef ei tells =
      subst (λ (q : Form × List ℕ). P q.0 q.1) (λ j. ((ef ∙ same_form) j, ei j))
      (tells (subst (λ (q : Form × List ℕ). AcceptWith q.0 q.1 []) (λ j. (sym (ef ∙ same_form) j, sym ei j)) accepted))

  -- the value that is read at the place that was found
  pub value_found : (f g : Form) (i k : List ℕ) (found : Option Place) (p : Place) (v : List ℕ) → f ≡ form_in o.header → i ≡ img → g ≡ form_in o.header → k ≡ img → found ≡ Some p → ((hands : List HandPair) → AcceptWith f i hands → IsFound f i key found) → (p.rec ≡ rec_at g.order k p.off → v ≡ data_at g.order k p.off) → map_of (form_of img) img key ≡ Some v
  value_found f g i k found p v ef ei eg ek is finds reads =
      let here : IsFound (form_of img) img key (Some p) = subst (IsFound (form_of img) img key) is (told_of (λ f i. IsFound f i key found) f i ef ei (finds [])) in
      let read : p.rec ≡ rec_at (form_of img).order img p.off → v ≡ data_at (form_of img).order img p.off =
      subst (λ (q : Form × List ℕ). p.rec ≡ rec_at q.0.order q.1 p.off → v ≡ data_at q.0.order q.1 p.off) (λ j. ((eg ∙ same_form) j, ek j)) reads in
      here.mapped ∙ ap Some (sym (read here.place.header))

  pub none_found : (f : Form) (i : List ℕ) (found : Option Place) → f ≡ form_in o.header → i ≡ img → found ≡ None → ((hands : List HandPair) → AcceptWith f i hands → IsFound f i key found) → map_of (form_of img) img key ≡ None
  none_found f i found ef ei is finds = subst (IsFound (form_of img) img key) is (told_of (λ f i. IsFound f i key found) f i ef ei (finds []))
