-- The transaction of an opener, in the words of the law (`tdb_law`).
use Rattle.std.specs.Prelude.{ℕ, ◌≡◌, ◌+◌, List, Bool, None, Some}
use Rattle.tdb_space.specs.Form.{Form}
use Rattle.tdb_law.specs.Openers.{Own, Txn, Map}
use Rattle.tdb_law.specs.Images.{image_map}
use Rattle.tdb_txn.specs.Txn.{txn_form, txn_image, txn_depth, txn_doomed, txn_start}
use Rattle.tdb_txn.specs.declared.txn.Txn as Pages
use Rattle.tdb_txn_turns.specs.declared.inside_txn.own_txn.OwnTxn.{OwnTxn}

-- The law counts the outer transaction in the depth. It isn't prepared.
abbrev pub law_txn : Map → Pages.Txn → Bool → Bool → Txn
law_txn m txn changed numbered = record { image = m; depth = txn_depth txn + 1; doomed = txn_doomed txn; prepared = None; changed = changed; numbered = numbered }

-- its image over a file with these bytes, and the map of that
abbrev pub image_of : OwnTxn → List ℕ → List ℕ
image_of t base = txn_image t.txn base

abbrev pub form_of : OwnTxn → Form
form_of t = txn_form t.txn

-- an opener that has this transaction over a file with these bytes
abbrev pub own_inside : Own → OwnTxn → List ℕ → Own
own_inside x t base = record x { txn = Some (law_txn (image_map (form_of t) (image_of t base)) t.txn t.changed t.numbered) }

-- all of it but its pages, its length and whether anything was changed stays
pub record SameTxn (old new : OwnTxn) : Type 0 where
  pub form : form_of new ≡ form_of old
  pub start : txn_start new.txn ≡ txn_start old.txn
  pub depth : txn_depth new.txn ≡ txn_depth old.txn
  pub doomed : txn_doomed new.txn ≡ txn_doomed old.txn
  pub numbered : new.numbered ≡ old.numbered
