-- What is read along a list, against what all offsets of the list take.
use Rattle.std.proofs.Common.{◌≡◌, ◌≢◌, ℕ, zero, suc, ◌+◌, ◌-◌, ◌*◌, ◌≤◌, List, [], ◌∷◌, ◌++◌, length, refl, sym, ◌∙◌, ap, subst, inl, inr, arith}
use Rattle.std.specs.Prelude.{◌/◌, sum_by}
use Rattle.std.proofs.lemmas.Bool.{cases_eq, ne_eqb}
use Rattle.std.proofs.lemmas.List.Sums.{sum_by-cons}
use Rattle.tdb_disk.specs.Count.{RoseUpTo}
use Rattle.tdb_words.specs.declared.record.TheConstants.{USED}
use Rattle.tdb_words.specs.declared.word.Order.{Order}
use Rattle.tdb_words.specs.Word.{word}
use Rattle.tdb_space.specs.Form.{Form, chain_head}
use Rattle.tdb_space.specs.Record.{magic_of}
use Rattle.tdb_space.specs.Chain.{offsets, chain_of}
use Rattle.tdb_space.specs.FirstFault.{ListKind, chain_number}
use Rattle.tdb_check.specs.Keys.{noted_at, notes_of}
use Rattle.tdb_check.specs.Walked.{Walked}
use Rattle.tdb_check.specs.Reads.{record_reads, twin_reads, chain_reads}
use Rattle.tdb_check.proofs.Notings.{notes_used, notes_other}
use Rattle.tdb_check.proofs.Pairs.{twin_reads_front}
use Rattle.tdb_check.proofs.Rising.{rose_then}
use Rattle.tdb_check.proofs.Quarters.{walked_few}
use Rattle.tdb_check.proofs.SameViews.{same_view}

-- the offsets from one that isn't 0 on
offsets_next : (o : Order) (img : List ℕ) (n at : ℕ) → at ≢ 0 → offsets o img (suc n) at ≡ at ∷ offsets o img n (word o img at)
offsets_next o img n at some = rw (ne_eqb at 0 some) refl

-- one more record was read: no more than all of the list in all, and what the others take is left
pub walk_read : (f : Form) (kind : ListKind) (img : List ℕ) (head : ℕ) (xs : List ℕ) (last turn at now after total : ℕ) → 4 ≤ length img → Walked f kind img [] head xs last → length xs ≡ turn → at ≢ 0
    → now + sum_by (record_reads f img) (offsets f.order img (length img / 4 - turn) at) ≤ total → after ≤ now + record_reads f img at
    → (after ≤ total) × (after + sum_by (record_reads f img) (offsets f.order img (length img / 4 - (turn + 1)) (word f.order img at)) ≤ total)
walk_read f kind img head xs last turn at now after total long walked count some so_far one =
    let few = walked_few f kind img head xs last long walked in
    let next : suc (length img / 4 - (turn + 1)) ≡ length img / 4 - turn = omega (arith, few, count) in
    let parts : sum_by (record_reads f img) (offsets f.order img (length img / 4 - turn) at) ≡ record_reads f img at + sum_by (record_reads f img) (offsets f.order img (length img / 4 - (turn + 1)) (word f.order img at)) =
    ap (λ n. sum_by (record_reads f img) (offsets f.order img n at)) (sym next)
    ∙ ap (sum_by (record_reads f img)) (offsets_next f.order img (length img / 4 - (turn + 1)) at some)
    ∙ sum_by-cons (record_reads f img) at (offsets f.order img (length img / 4 - (turn + 1)) (word f.order img at)) in
    (omega (arith, so_far, one, parts), omega (arith, so_far, one, parts))

-- at the start all of the list is left
pub walk_start : (f : Form) (img : List ℕ) (n at first now : ℕ) → at ≡ first → now + sum_by (record_reads f img) (offsets f.order img (n - 0) first) ≤ now + sum_by (record_reads f img) (offsets f.order img n at)
walk_start f img n at first now is =
    let same : n - 0 ≡ n = omega arith in
    let all : sum_by (record_reads f img) (offsets f.order img (n - 0) first) ≡ sum_by (record_reads f img) (offsets f.order img n at) = λ i. sum_by (record_reads f img) (offsets f.order img (same i) (sym is i)) in
    omega (arith, all)

-- the records that were walked along stand in front of the computed offsets
walked_front : (f : Form) (kind : ListKind) (img earlier : List ℕ) (head : ℕ) (xs : List ℕ) (last n : ℕ) → Walked f kind img earlier head xs last → length xs ≤ n → (ys : List ℕ) × (offsets f.order img n (word f.order img head) ≡ xs ++ ys)
walked_front f kind img earlier head [] last n p few = (offsets f.order img n (word f.order img head), refl)
walked_front f kind img earlier head (x ∷ xs) last zero p few = absurd (omega (arith, few))
walked_front f kind img earlier head (x ∷ xs) last (suc n) p few =
    let rest = walked_front f kind img (earlier ++ x ∷ []) x xs last n p.3 (omega (arith, few)) in
    (rest.0, ap (offsets f.order img (suc n)) p.0 ∙ offsets_next f.order img n x p.1 ∙ ap (λ ys. x ∷ ys) rest.1)

notes-append : (f : Form) (img xs ys : List ℕ) → notes_of f img (xs ++ ys) ≡ notes_of f img xs ++ notes_of f img ys
notes-append f img [] ys = refl
notes-append f img (x ∷ xs) ys =
    elim (cases_eq (magic_of f.order img x) USED) [
      | inl used ↦ notes_used f img x (xs ++ ys) used ∙ ap (λ es. noted_at f img x ∷ es) (notes-append f img xs ys) ∙ ap (λ es. es ++ notes_of f img ys) (sym (notes_used f img x xs used))
      | inr other ↦ notes_other f img x (xs ++ ys) other ∙ notes-append f img xs ys ∙ ap (λ es. es ++ notes_of f img ys) (sym (notes_other f img x xs other))
    ]

-- a chain that was walked along as far as it went, and whose keys were looked through
pub chain_read : (f f2 : Form) (img img2 : List ℕ) (j rounds : ℕ) (xs : List ℕ) (last x y z : ℕ) → 4 ≤ length img → f2 ≡ f → img2 ≡ img → Walked f (chain_number j) img [] (chain_head j) xs last
    → RoseUpTo (sum_by (record_reads f img) (chain_of f img j)) x y → RoseUpTo (rounds * twin_reads f2 img2 (notes_of f2 img2 xs)) y z → RoseUpTo (chain_reads rounds f img j) x z
chain_read f f2 img img2 j rounds xs last x y z long form image walked records twins =
    let few = walked_few f (chain_number j) img (chain_head j) xs last long walked in
    let front = walked_front f (chain_number j) img [] (chain_head j) xs last (length img / 4) walked (omega (arith, few)) in
    let notes : notes_of f img (chain_of f img j) ≡ notes_of f img xs ++ notes_of f img front.0 = ap (notes_of f img) front.1 ∙ notes-append f img xs front.0 in
    let less : twin_reads f img (notes_of f img xs) ≤ twin_reads f img (notes_of f img (chain_of f img j)) =
    subst (λ es. twin_reads f img (notes_of f img xs) ≤ twin_reads f img es) (sym notes) (twin_reads_front f img (notes_of f img xs) (notes_of f img front.0)) in
    let here : RoseUpTo (rounds * twin_reads f img (notes_of f img xs)) y z = same_view (λ h i. RoseUpTo (rounds * twin_reads h i (notes_of h i xs)) y z) f2 f img2 img (sym form) (sym image) twins in
    rose_then _ _ _ _ _ _ records here (added (sum_by (record_reads f img) (chain_of f img j)) rounds (twin_reads f img (notes_of f img xs)) (twin_reads f img (notes_of f img (chain_of f img j))) less)
  where
    added : (a r b c : ℕ) → b ≤ c → a + r * b ≤ a + r * c
    added a r b c h = grind arith
