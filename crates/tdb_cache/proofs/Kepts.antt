-- What is kept of a disk that is written behind, and what a read gives of it, by cases.
use Rattle.std.proofs.Common.{◌≡◌, ◌∙◌, refl, sym, ap, ℕ, ◌≤◌, List, length, take, inl, inr, arith, Ok, Err, Bool}
use Rattle.std.specs.Prelude.{IsTrue, OnOk, Result}
use Rattle.std.proofs.lemmas.Grind.{common_steps}
use Rattle.tdb_disk.specs.History.{History, called, cut, grew, seen, Tried}
use Rattle.tdb_disk.specs.Image.{padded}
use Rattle.tdb_disk.proofs.Image.{length-padded}
use Rattle.tdb_cache.specs.Content.{content_bytes}
use Rattle.tdb_cache.specs.Kept.{view_of, ForGathered, ForWhole}
use Rattle.tdb_cache.specs.Laid.{laid, NoneKept}
use Rattle.tdb_cache.specs.View.{ViewTried}
use Rattle.tdb_cache.specs.declared.content.Content.{Content}
use Rattle.tdb_cache.specs.declared.kept.Kept.{Kept}
use Rattle.tdb_cache.specs.declared.kept.Kept.TheVariants.{Nothing, Whole, Gathered}
use Rattle.tdb_cache.specs.declared.pending.Pending.{Pending}
use Rattle.tdb_cache.proofs.Laids.{length-laid, laid-none}

-- the content, or another one where none is kept
abbrev content_of : Kept → Content → Content
content_of Nothing other = other
content_of (Whole content) other = content
content_of (Gathered pending) other = other

-- two contents that are kept alike are one
pub same_Whole : (one two : Content) → Whole one ≡ Whole two → one ≡ two
same_Whole one two is = ap (λ kept. content_of kept one) is

-- the blocks, or others where none are gathered
abbrev pending_of : Kept → Pending → Pending
pending_of Nothing other = other
pending_of (Whole content) other = other
pending_of (Gathered pending) other = pending

-- and so are blocks that are gathered
pub same_Gathered : (one two : Pending) → Gathered one ≡ Gathered two → one ≡ two
same_Gathered one two is = ap (λ kept. pending_of kept one) is

-- a content that is kept is what a read gives, up to the size
pub view_of-whole : (kept : Kept) (content : Content) (size : ℕ) (image : List ℕ) → kept ≡ Whole content
    → view_of kept size image ≡ take size (content_bytes content)
view_of-whole kept content size image is = ap (λ k. view_of k size image) is

-- blocks that are gathered are laid over the image
pub view_of-gathered : (kept : Kept) (pending : Pending) (size : ℕ) (image : List ℕ) → kept ≡ Gathered pending
    → view_of kept size image ≡ laid pending.blocks image
view_of-gathered kept pending size image is = ap (λ k. view_of k size image) is

-- what a read gives is as long as the file
pub length-view_of : (kept : Kept) (size : ℕ) (image : List ℕ) → ForWhole kept (λ content. size ≤ length (content_bytes content))
    → length image ≡ size → length (view_of kept size image) ≡ length image
length-view_of Nothing size image reaches long = refl
length-view_of (Whole content) size image reaches long =
    let reach : size ≤ length (content_bytes content) = reaches content refl in grind (arith, common_steps, reach, long)
length-view_of (Gathered pending) size image reaches long = length-laid pending.blocks image

-- what a read gives after a growth
pub view_of-grown : (kept : Kept) (size to : ℕ) (image : List ℕ)
    → ForWhole kept (λ content. content_bytes content ≡ padded (view_of kept size image) to)
    → ForGathered kept (λ pending. NoneKept pending.blocks)
    → ForWhole kept (λ content. size ≤ length (content_bytes content)) → length image ≡ size → size ≤ to
    → view_of kept to (padded image to) ≡ padded (view_of kept size image) to
view_of-grown Nothing size to image is none reaches long more = refl
view_of-grown (Whole content) size to image is none reaches long more =
    let reach : size ≤ length (content_bytes content) = reaches content refl in
    let all : length (padded (take size (content_bytes content)) to) ≡ to =
    length-padded (take size (content_bytes content)) to ∙ grind (arith, common_steps, reach, more) in
    ap (take to) (is content refl) ∙ grind (arith, common_steps, all)
view_of-grown (Gathered pending) size to image is none reaches long more =
    laid-none pending.blocks (padded image to) (none pending refl)
    ∙ ap (λ bytes. padded bytes to) (sym (laid-none pending.blocks image (none pending refl)))

-- and after a cut
pub view_of-cut : (kept : Kept) (size to : ℕ) (image : List ℕ) → ForGathered kept (λ pending. NoneKept pending.blocks)
    → to ≤ size → view_of kept to (take to image) ≡ take to (view_of kept size image)
view_of-cut Nothing size to image none less = refl
view_of-cut (Whole content) size to image none less = grind (arith, common_steps, less)
view_of-cut (Gathered pending) size to image none less =
    laid-none pending.blocks (take to image) (none pending refl)
    ∙ ap (take to) (sym (laid-none pending.blocks image (none pending refl)))

-- the same where the growth may have failed
pub view_of-grow_tried : (kept : Kept) (old new : History) (size to now : ℕ)
    → ForWhole kept (λ content. content_bytes content ≡ padded (view_of kept size (seen old)) to)
    → ForGathered kept (λ pending. NoneKept pending.blocks)
    → ForWhole kept (λ content. size ≤ length (content_bytes content)) → length (seen old) ≡ size
    → length (seen new) ≡ now → size ≤ to → Tried (grew to) old new
    → ViewTried (grew to) (view_of kept size (seen old)) (view_of kept now (seen new))
view_of-grow_tried kept old new size to now is none reaches long long_now more tried = elim tried [
  | inl unchanged ↦
      let same : now ≡ size = sym long_now ∙ ap (λ h. length (seen h)) unchanged ∙ long in
      inl (ap (λ n. view_of kept n (seen new)) same ∙ ap (λ h. view_of kept size (seen h)) unchanged)
  | inr done ↦
      let image_long : length (padded (seen old) to) ≡ to = length-padded (seen old) to ∙ omega (arith, long, more) in
      let grown : now ≡ to = sym long_now ∙ ap (λ h. length (seen h)) done ∙ image_long in
      inr (ap (λ n. view_of kept n (seen new)) grown ∙ ap (λ h. view_of kept to (seen h)) done
      ∙ view_of-grown kept size to (seen old) is none reaches long more)
]

-- and where the cut may have failed
pub view_of-cut_tried : (kept : Kept) (old new : History) (size to now : ℕ)
    → ForGathered kept (λ pending. NoneKept pending.blocks) → length (seen old) ≡ size → length (seen new) ≡ now → to ≤ size
    → Tried (cut to) old new → ViewTried (cut to) (view_of kept size (seen old)) (view_of kept now (seen new))
view_of-cut_tried kept old new size to now none long long_now less tried = elim tried [
  | inl unchanged ↦
      let same : now ≡ size = sym long_now ∙ ap (λ h. length (seen h)) unchanged ∙ long in
      inl (ap (λ n. view_of kept n (seen new)) same ∙ ap (λ h. view_of kept size (seen h)) unchanged)
  | inr done ↦
      let shorter : length (take to (seen old)) ≡ to = grind (arith, common_steps, long, less) in
      let is : now ≡ to = sym long_now ∙ ap (λ h. length (seen h)) done ∙ shorter in
      inr (ap (λ n. view_of kept n (seen new)) is ∙ ap (λ h. view_of kept to (seen h)) done
      ∙ view_of-cut kept size to (seen old) none less)
]

-- a growth that answered Ok did it
pub view_of-grow_done : {V F : Type 0} (answer : Result V F) (kept : Kept) (old new : History) (size to now : ℕ) (tells : Bool)
    → ForWhole kept (λ content. content_bytes content ≡ padded (view_of kept size (seen old)) to)
    → ForGathered kept (λ pending. NoneKept pending.blocks)
    → ForWhole kept (λ content. size ≤ length (content_bytes content))
    → (IsTrue tells → length (seen old) ≡ size) → size ≤ to → OnOk answer (now ≡ to)
    → OnOk answer (IsTrue tells → new ≡ called old (grew to))
    → OnOk answer (IsTrue tells → view_of kept now (seen new) ≡ padded (view_of kept size (seen old)) to)
view_of-grow_done (Ok value) kept old new size to now tells is none reaches long more grown done = λ told.
    ap (λ n. view_of kept n (seen new)) grown ∙ ap (λ h. view_of kept to (seen h)) (done told)
    ∙ view_of-grown kept size to (seen old) is none reaches (long told) more
view_of-grow_done (Err fault) kept old new size to now tells is none reaches long more grown done = tt

-- and so did a cut
pub view_of-cut_done : {V F : Type 0} (answer : Result V F) (kept : Kept) (old new : History) (size to now : ℕ) (tells : Bool)
    → ForGathered kept (λ pending. NoneKept pending.blocks) → to ≤ size → OnOk answer (now ≡ to)
    → OnOk answer (IsTrue tells → new ≡ called old (cut to))
    → OnOk answer (IsTrue tells → view_of kept now (seen new) ≡ take to (view_of kept size (seen old)))
view_of-cut_done (Ok value) kept old new size to now tells none less shortened done = λ told.
    ap (λ n. view_of kept n (seen new)) shortened ∙ ap (λ h. view_of kept to (seen h)) (done told)
    ∙ view_of-cut kept size to (seen old) none less
view_of-cut_done (Err fault) kept old new size to now tells none less shortened done = tt
