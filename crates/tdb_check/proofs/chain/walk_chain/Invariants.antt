-- The records so far were walked along and noted, and their extents put at the end.
use Rattle.std.proofs.Common.{◌≡◌, ◌+◌, ◌-◌, ◌≤◌, IsTrue, length}
use Rattle.std.specs.Prelude.{◌/◌, sum_by}
use Rattle.tdb_words.specs.Word.{word}
use Rattle.tdb_space.specs.Form.{chain_head}
use Rattle.tdb_space.specs.Chain.{offsets, chain_of}
use Rattle.tdb_check.specs.Reads.{record_reads}
use Rattle.tdb_space.specs.Frame.{Looked}
use Rattle.tdb_check.proofs.OneChain.{ChainWalking}
use Rattle.tdb_check.proofs.chain.walk_chain.Given as goal

abbrev pub invariant-loop-turn : goal.invariant-loop-turn
invariant-loop-turn g l = record {
  going : IsTrue g.S.Space.tells → length (g.S.Space.image l.fn.s) ≡ l.len → word (g.S.Space.form l.fn.s).order (g.S.Space.image l.fn.s) (chain_head l.j) ≡ l.first
      → ChainWalking (g.S.Space.form l.fn.s) l.j (g.S.Space.image l.fn.s) l.notes l.fn.extents.items l.extents.items l.live l._turn l.place l.at;
  tails : l.notes.tails ≡ l.fn.notes.tails;
  turns : l.live ≤ l._turn;
  count : l.live + length l.fn.extents.items ≤ length l.extents.items;
  reads : IsTrue g.S.Space.tells → length (g.S.Space.image l.fn.s) ≡ l.len → word (g.S.Space.form l.fn.s).order (g.S.Space.image l.fn.s) (chain_head l.j) ≡ l.first
      → g.S.Space.bytes_read l.s + sum_by (record_reads (g.S.Space.form l.fn.s) (g.S.Space.image l.fn.s)) (offsets (g.S.Space.form l.fn.s).order (g.S.Space.image l.fn.s) (length (g.S.Space.image l.fn.s) / 4 - l._turn) l.at)
      ≤ g.S.Space.bytes_read l.fn.s + sum_by (record_reads (g.S.Space.form l.fn.s) (g.S.Space.image l.fn.s)) (chain_of (g.S.Space.form l.fn.s) (g.S.Space.image l.fn.s) l.j);
  never_falls : IsTrue g.S.Space.tells → length (g.S.Space.image l.fn.s) ≡ l.len → g.S.Space.bytes_read l.fn.s ≤ g.S.Space.bytes_read l.s;
  looked : Looked g.S.Space l.fn.s l.s;
  faults : g.S.Space.faults l.s ≡ g.S.Space.faults l.fn.s;
}
