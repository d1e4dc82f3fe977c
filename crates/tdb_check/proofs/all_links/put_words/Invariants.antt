-- The heads so far were read.
use Rattle.std.proofs.Common.{◌≡◌, ℕ, ◌+◌, ◌*◌, List, length, take, drop}
use Rattle.tdb_space.specs.Form.{Form, chain_head}
use Rattle.tdb_check.specs.Links.{HeadsRead}
use Rattle.tdb_check.proofs.all_links.put_words.Given as goal

abbrev pub invariant-loop-i : goal.invariant-loop-i
invariant-loop-i l = record {
  heads : (f : Form) (img : List ℕ) → l.order ≡ f.order → l.words ≡ take (4 * l.count) (drop (chain_head (length l.fn.heads.items)) img) → HeadsRead f img l.fn.heads.items → HeadsRead f img l.heads.items;
  long : length l.heads.items ≡ length l.fn.heads.items + l.i;
}
