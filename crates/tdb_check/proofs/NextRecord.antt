-- The next record of a chain, where it has no fault of its own.
use Rattle.std.proofs.Common.{◌≡◌, ℕ, false, List, None, arith}
use Rattle.tdb_space.specs.Form.{Form}
use Rattle.tdb_space.specs.FirstFault.{chain_number, is_out, is_bad, has_wrong_tailer, is_misfiled}
use Rattle.tdb_space.proofs.FirstFault.Cleared.{none_parts, good_from, filed_from}
use Rattle.tdb_check.specs.Seen.{own_fault}
use Rattle.tdb_check.specs.Keys.{IsKeyed}

module _ (f : Form) (j : ℕ) (img : List ℕ) (at : ℕ) (stands : is_out f img at ≡ false) (own : own_fault f (chain_number j) img at ≡ None) where
  -- a used record without a fault of its own has its key within the image
  pub keyed_where : IsKeyed f img at
  keyed_where used =
      let a = none_parts (is_bad f (chain_number j) img at) _ _ own in
      let b = none_parts (has_wrong_tailer f img at) _ _ a.1 in
      let c = none_parts (is_misfiled f (chain_number j) img at) _ _ b.1 in
      let g = good_from f (chain_number j) img at stands a.0 b.0 in
      let filed = filed_from f img j at g.fits c.0 used in
      omega (arith, filed.fits, g.whole.within)
