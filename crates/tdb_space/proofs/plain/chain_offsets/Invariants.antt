-- The records that were followed so far come first in any chain from the head.
use Rattle.std.proofs.Common.{◌≡◌, length}
use Rattle.tdb_words.specs.Word.{word}
use Rattle.tdb_space.specs.Form.{form_in}
use Rattle.tdb_space.proofs.Chain.Followed.{Followed}
use Rattle.tdb_space.proofs.plain.chain_offsets.Given as goal

abbrev pub invariant-loop-turn : goal.invariant-loop-turn
invariant-loop-turn l = record {
  followed : Followed (form_in l.header) l.image (word l.header.order l.image l.head) l.at l.offs.items;
  turns : length l.offs.items ≡ l._turn;
}
