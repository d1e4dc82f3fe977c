-- The words of the first 24 bytes.
use Rattle.std.proofs.Common.{◌∙◌, ap, arith}
use Rattle.tdb_words.specs.Record.{rec_at}
use Rattle.tdb_words.proofs.Words.{rec_of_part}
use Rattle.tdb_space.proofs.reads.rec_in.Goals as goal

pub returns : goal.returns
returns c =
    c.rec_of.ensures.header ∙ ap (λ w. rec_at c.args.order w 0) c.copy_from_slice.ensures.after ∙ rec_of_part c.args.order c.args.bytes.now 0 24 (omega arith)
