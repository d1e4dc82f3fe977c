-- The plan that a transaction becomes.
use Rattle.std.proofs.Common.{◌≡◌, ◌∙◌, ℕ, ◌+◌, ◌≤◌, List, length, refl, sym, ap, subst, inl, inr, arith}
use Rattle.tdb_words.specs.Word.{word}
use Rattle.tdb_words.proofs.Words.{word_agrees}
use Rattle.tdb_space.specs.Extents.{Extent}
use Rattle.tdb_space.specs.Form.{form_of, form_in}
use Rattle.tdb_space.specs.Runs.{ChangedRuns}
use Rattle.tdb_space.specs.Record.{rec_len_of}
use Rattle.tdb_space.specs.Planned.{content_length}
use Rattle.tdb_space.proofs.Undoing.Tails.{no_area_held}
use Rattle.tdb_txn.specs.Committing.{MayCommit, MayKeep, MayPlace}
use Rattle.tdb_txn.specs.Pages.{byte_over, length_filled}
use Rattle.tdb_txn.specs.Planning.{IsPlanFrom, KeepsArea, PlacesArea}
use Rattle.tdb_txn.specs.Txn.{txn_image}
use Rattle.tdb_txn.specs.Stock.{page_list}
use Rattle.tdb_txn.specs.declared.planned.Plan.{Plan}
use Rattle.tdb_txn.specs.declared.txn.Txn.{Txn}
use Rattle.tdb_txn.proofs.Places.{filled_at}

-- its header and its lengths
leads : (txn : Txn) (plan : Plan) (r : List ℕ) → MayCommit txn r → plan.header ≡ txn.header → plan.old_length ≡ length r → plan.new_length ≡ txn.size
    → IsPlanFrom plan r (txn_image txn r)
leads txn plan r may header old new = record {
  before = may.before;
  after = may.after;
  header = ap form_in header ∙ may.header;
  same_header = λ i front. may.keeps.front i (elim front [ inl low ↦ inl (omega (arith, low)) | inr high ↦ inr high ]);
  old = old;
  new = new ∙ sym (length_filled (byte_over (page_list txn.pages) r) txn.size);
}

-- where the undo area is kept
pub keeps : (txn : Txn) (plan : Plan) (r : List ℕ) (e : Extent) → MayKeep txn r e plan.runs → plan.header ≡ txn.header → plan.old_length ≡ length r → txn.start ≡ length r
    → plan.new_length ≡ txn.size → plan.area ≡ e.0 → plan.area_length ≡ e.1 → page_list plan.pages ≡ page_list txn.pages → KeepsArea plan r (txn_image txn r)
keeps txn plan r e may header old start new area area_length pages =
    let o = (form_of r).order in
    let at : word o r 44 ≡ plan.area = sym (area ∙ ap (λ (x : Extent). x.0) may.there.extent) in
    let long : plan.area_length ≡ 24 + rec_len_of o r plan.area = area_length ∙ ap (λ (x : Extent). x.1) may.there.extent ∙ ap (λ x. 24 + rec_len_of o r x) at in
    record {
      leads = leads txn plan r may.commit header old new;
      keeps = may.commit.keeps;
      some = may.there.some;
      there = at;
      long = long;
      fits = omega (arith, may.fits, long, area_length);
      runs =
          subst (λ n. ChangedRuns r (txn_image txn r) n (plan.area, plan.area_length) plan.runs) (start ∙ sym old)
          (subst (λ (x : Extent). ChangedRuns r (txn_image txn r) txn.start x plan.runs) (pair (sym area) (sym area_length)) may.changed);
      bytes = λ i low.
          filled_at (byte_over (page_list txn.pages) r) txn.size i (omega (arith, low, length_filled (byte_over (page_list txn.pages) r) txn.size))
          ∙ ap (λ ps. byte_over ps r i) (sym pages);
    }
  where
    pair : {x y : ℕ} {e : Extent} → e.0 ≡ x → e.1 ≡ y → e ≡ (x, y)
    pair {x} {y} {e} first second = ap (λ (n : ℕ). (n, e.1)) first ∙ ap (λ (n : ℕ). (x, n)) second

-- where a new one is placed
pub places : (txn : Txn) (plan : Plan) (r x : List ℕ) → MayPlace txn r x plan.runs → 24 + content_length plan.runs ≤ plan.area_length → plan.header ≡ txn.header → plan.old_length ≡ length r
    → txn.start ≡ length r → plan.new_length ≡ txn.size → plan.area ≡ plan.new_length → page_list plan.pages ≡ page_list txn.pages → PlacesArea plan r x (txn_image txn r)
places txn plan r x may fits header old start new at pages = record {
  leads = record {
    before = may.before;
    after = may.after;
    header = ap form_in header ∙ may.header;
    same_header = may.same_header;
    old = old;
    new = new ∙ sym (length_filled (byte_over (page_list txn.pages) r) txn.size);
  };
  none = may.none;
  at = at;
  inside = may.inside;
  beside = may.beside;
  fits = fits;
  runs = subst (λ n. ChangedRuns x (txn_image txn r) n (0, 0) plan.runs) (start ∙ sym old) may.changed;
  bytes = λ i low.
      filled_at (byte_over (page_list txn.pages) r) txn.size i (omega (arith, low, length_filled (byte_over (page_list txn.pages) r) txn.size))
      ∙ sym (may.pages i)
      ∙ ap (λ ps. byte_over ps x i) (sym pages);
}

-- where that is the first one, no byte of the file counts as another
pub first_place : (txn : Txn) (r : List ℕ) (runs : List Extent) → MayCommit txn r → word (form_of r).order r 44 ≡ 0 → ChangedRuns r (txn_image txn r) txn.start (0, 0) runs
    → MayPlace txn r r runs
first_place txn r runs may none changed = record {
  before = may.before;
  after = may.after;
  header = may.header;
  same_header = λ i front. may.keeps.front i (elim front [ inl low ↦ inl (omega (arith, low)) | inr high ↦ inr high ]);
  none = word_agrees (form_of r).order (txn_image txn r) r 44 (λ i from to. may.keeps.front i (inl to)) ∙ none;
  inside = λ i held. absurd (omega (arith, held, no_area_held (form_of r) r i none));
  beside = λ i free. refl;
  pages = λ i. refl;
  changed = changed;
}
