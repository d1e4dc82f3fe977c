-- The undo area of a transaction is replaced.
use Rattle.std.proofs.Common.{◌≡◌, ℕ, ◌+◌, ◌/◌, ◌%◌, ◌<◌, List, [], replicate, slice_index, Option, None, Some, IsSome, Result, Ok, Err, IfOk, refl, sym, ◌∙◌, ap, subst, inl, inr, arith}
use Rattle.std.proofs.lemmas.Bool.{cases_lt, false≢true}
use Rattle.std.proofs.lemmas.List.{get_or-replicate, length-replicate}
use Rattle.tdb_disk.specs.History.{History, seen}
use Rattle.tdb_disk.specs.Image.{overlay}
use Rattle.tdb_disk.specs.Stop.{LeavesOnly, Quiet}
use Rattle.tdb_disk.proofs.Runs.{leaves_quiet}
use Rattle.tdb_words.specs.Word.{word}
use Rattle.tdb_words.proofs.Words.{word_agrees}
use Rattle.tdb_space.specs.Accepted.{Accept, AcceptWith, AreaInPlace}
use Rattle.tdb_space.specs.Extents.{Extent, extent_at, once}
use Rattle.tdb_space.specs.Form.{Form, form_of}
use Rattle.tdb_space.specs.Record.{rec_len_of}
use Rattle.tdb_space.specs.Runs.{ChangedRuns}
use Rattle.tdb_space.specs.Undoing.{Reopens}
use Rattle.tdb_space.proofs.Undoing.Alike.{exact_reopens}
use Rattle.tdb_space.proofs.Gate.Contents.{area_in}
use Rattle.tdb_space.proofs.Extents.Counts.{once_lies}
use Rattle.tdb_space.proofs.Form.Headers.{form_kept}
use Rattle.tdb_txn.specs.Answered.{AreaReplaced}
use Rattle.tdb_txn.specs.Committing.{HasAreaIn, MayCommit, MayPlace}
use Rattle.tdb_txn.specs.Found.{Blanked}
use Rattle.tdb_txn.specs.GivenUp.{AreaGivenUp}
use Rattle.tdb_txn.specs.Pages.{HasPage, Meets, byte_in, byte_over, contents, page_at, page_size}
use Rattle.tdb_txn.specs.Txn.{OnlyPages, txn_image, txn_pages, txn_size}
use Rattle.tdb_txn.specs.declared.txn.Txn.{Txn}
use Rattle.tdb_txn.proofs.Blanks.{blanked_written}
use Rattle.tdb_txn.proofs.DroppedArea.{area_once}
use Rattle.tdb_txn.proofs.Places.{filled_at}
use Rattle.tdb_txn.proofs.WrittenOut.{over_same}

-- where nothing was done, a stop leaves the file
pub still_stops : (h new : History) → Quiet h → new ≡ h → Accept (seen h) → LeavesOnly h new (Reopens (seen h))
still_stops h new quiet same before = subst (λ n. LeavesOnly h n (Reopens (seen h))) (sym same) (leaves_quiet h (Reopens (seen h)) quiet (exact_reopens (seen h) before))

-- the image of the same pages is the same
pub same_image : (t u : Txn) (r : List ℕ) → txn_pages u ≡ txn_pages t → txn_size u ≡ txn_size t → txn_image u r ≡ txn_image t r
same_image t u r pages size = ap (λ ps. contents ps r u.size) pages ∙ ap (contents (txn_pages t) r) size

-- the transaction's image has the header of the file
pub form_is : (txn : Txn) (r : List ℕ) → MayCommit txn r → form_of (txn_image txn r) ≡ form_of r
form_is txn r may = form_kept r (txn_image txn r) (λ i front. may.keeps.front i (elim front [ inl low ↦ inl (omega (arith, low)) | inr high ↦ inr high ]))

-- and is accepted under it
pub image_accepted : (txn : Txn) (r : List ℕ) → MayCommit txn r → AcceptWith (form_of r) (txn_image txn r) []
image_accepted txn r may = subst (λ (f : Form). AcceptWith f (txn_image txn r) []) (form_is txn r may) may.after

-- its undo area is that of the file
pub image_area : (txn : Txn) (r : List ℕ) (e : Extent) → MayCommit txn r → HasAreaIn (form_of r).order r e → HasAreaIn (form_of r).order (txn_image txn r) e
image_area txn r e may has =
    let f = form_of r in
    let a = txn_image txn r in
    let w = word f.order r 44 in
    let at : word f.order a 44 ≡ w = word_agrees f.order a r 44 (λ i from to. may.keeps.front i (inl to)) in
    let long : rec_len_of f.order a w ≡ rec_len_of f.order r w =
    word_agrees f.order a r (w + 4) (λ i from to. may.keeps.undo_area i (omega (arith, area_in f r i has.some (omega (arith, from)) (omega (arith, to))))) in
    record {
      some = λ none. has.some (sym at ∙ none);
      extent = has.extent ∙ ap (λ n. (w, 24 + n)) (sym long) ∙ ap (extent_at f.order a) (sym at);
    }

-- where a page is there, the file's byte doesn't count
byte_there : (o : Option (List ℕ)) → IsSome o → (place x y : ℕ) → byte_in o place x ≡ byte_in o place y
byte_there None there place x y = absurd (false≢true there)
byte_there (Some page) there place x y = refl

module _ (old new : Txn) (r : List ℕ) (e : Extent) (only : OnlyPages old new) (may : MayCommit old r) (has : HasAreaIn (form_of r).order r e)
    (G : AreaGivenUp (form_of r) (txn_image old r) (txn_image new r) e) (pages : (number : ℕ) → Meets e.0 e.1 number → HasPage (txn_pages new) number) where
  -- the file with zeros in its undo area
  abbrev pub cleared : List ℕ
  cleared = overlay r e.0 (replicate {A = ℕ} e.1 0)

  place : AreaInPlace (form_of r) r (word (form_of r).order r 44)
  place = elim may.before.area_ok [ inl none ↦ absurd (has.some none) | inr there ↦ there ]

  pub cleared_blanked : Blanked e r cleared
  cleared_blanked =
      blanked_written e.0 e.1 (replicate {A = ℕ} e.1 0) r cleared (length-replicate {A = ℕ} e.1 0) (λ k low. get_or-replicate e.1 k 0 0 low)
      (omega (arith, place.within, ap (λ (x : Extent). x.0) has.extent, ap (λ (x : Extent). x.1) has.extent)) refl

  -- the pages give the same over it
  pub same_over : (i : ℕ) → byte_over (txn_pages new) cleared i ≡ byte_over (txn_pages new) r i
  same_over i = elim (cases_lt 0 (once e i)) [
    | inl held ↦
        (let w = once_lies e i held in
        byte_there (page_at (txn_pages new) (i / page_size)) (pages (i / page_size) (record { place = i; from = w.0; to = w.1; inside = refl })) (i % page_size) (slice_index cleared i) (slice_index r i))
    | inr none ↦ over_same (txn_pages new) r cleared i (cleared_blanked.outside i (omega (arith, none)))
  ]

  pub found_bytes : (i : ℕ) → i < new.start → slice_index (txn_image new r) i ≡ byte_over (txn_pages new) cleared i
  found_bytes i low = filled_at (byte_over (txn_pages new) r) new.size i (omega (arith, low, new.longer)) ∙ sym (same_over i)

  pub replaced_places : (runs : List Extent) → ChangedRuns cleared (txn_image new r) new.start (0, 0) runs → MayPlace new r cleared runs
  replaced_places runs changed = record {
    before = may.before;
    after = subst (λ (f : Form). AcceptWith f (txn_image new r) []) (sym G.accepted.form) G.accepted;
    header = only.form ∙ may.header;
    same_header = λ i front. G.same_header i front ∙ may.keeps.front i (elim front [ inl low ↦ inl (omega (arith, low)) | inr high ↦ inr high ]);
    none = G.none;
    inside = λ i held. cleared_blanked.inside i (omega (arith, held, area_once (form_of r) r e has i));
    beside = λ i free. cleared_blanked.outside i (sym (area_once (form_of r) r e has i) ∙ free);
    pages = same_over;
    changed = changed;
  }

  pub replaced_area : (runs : List Extent) → ChangedRuns cleared (txn_image new r) new.start (0, 0) runs → AreaReplaced old r e cleared (txn_image new r) runs
  replaced_area runs changed = record {
    given_up = G;
    blanked = cleared_blanked;
    changed = subst (λ n. ChangedRuns cleared (txn_image new r) n (0, 0) runs) only.start changed;
  }

-- what holds of an Ok by two clauses
pub both_ok : {V F : Type 0} (result : Result V F) (P Q : V → Type 0) → IfOk result P → IfOk result Q → IfOk result (λ v. P v × Q v)
both_ok (Ok v) P Q p q = (p, q)
both_ok (Err e) P Q p q = tt
