-- How many syncs the plan of a commit makes.
use Rattle.std.proofs.Common.{◌≡◌, ℕ, ◌+◌, ◌<◌, ◌≤◌, List, refl, sym, ◌∙◌, ap, subst}
use Rattle.std.proofs.lemmas.Bool.{ne_eqb}
use Rattle.tdb_disk.specs.Count.{RoseBy}
use Rattle.tdb_words.specs.declared.word.Order.{Order}
use Rattle.tdb_words.specs.Word.{word}
use Rattle.tdb_words.specs.Header.{area_head}
use Rattle.tdb_space.specs.Extents.{Extent}
use Rattle.tdb_space.specs.Form.{form_of}
use Rattle.tdb_space.specs.Planned.{content_length}
use Rattle.tdb_space.specs.Runs.{ChangedRuns}
use Rattle.tdb_undo.specs.Placing.{clearing_syncs}
use Rattle.tdb_txn.specs.Answered.{AreaSyncs, kept, anew, replaced}
use Rattle.tdb_txn.specs.AreaExtent.{IsAreaExtent}
use Rattle.tdb_txn.specs.Committing.{MayCommit}
use Rattle.tdb_txn.specs.Txn.{txn_image, txn_start}
use Rattle.tdb_txn.specs.declared.txn.Txn.{Txn}
use Rattle.tdb_txn.proofs.Plans.{no_area, has_area}

-- to make an area zero takes two syncs, and none where there is none
pub two_syncs : (o : Order) (r : List ℕ) → (word o r area_head ≡ 0 → ⊥) → clearing_syncs o r + 3 ≡ 5
two_syncs o r some = rw (ne_eqb (word o r area_head) 0 some) refl

pub no_syncs : (o : Order) (r : List ℕ) → word o r area_head ≡ 0 → clearing_syncs o r + 3 ≡ 3
no_syncs o r zero = rw zero refl

module _ (txn : Txn) (r : List ℕ) (e : Extent) (runs : List Extent) (may : MayCommit txn r) (is : IsAreaExtent (form_of r).order r e)
    (changed : ChangedRuns r (txn_image txn r) (txn_start txn) e runs) (before now : ℕ) where
  pub anew_syncs : e.1 ≡ 0 → RoseBy (clearing_syncs (form_of r).order r + 3) before now → AreaSyncs txn r before now
  anew_syncs short rose =
      let zero = no_area (form_of r).order r e is short in
      anew zero (subst (λ n. RoseBy n before now) (no_syncs (form_of r).order r zero) rose)

  pub kept_syncs : (e.1 ≡ 0 → ⊥) → 24 + content_length runs ≤ e.1 → now ≡ before → AreaSyncs txn r before now
  kept_syncs long fits still = kept e runs (record { commit = may; there = has_area (form_of r).order r e is long; fits = fits; changed = changed }) still

  pub replaced_syncs : (e.1 ≡ 0 → ⊥) → e.1 < 24 + content_length runs → RoseBy 5 before now → AreaSyncs txn r before now
  replaced_syncs long short rose = replaced e runs (has_area (form_of r).order r e is long) changed short rose
