use Rattle.std.proofs.Common.{refl}
use Rattle.tdb_dump.proofs.TakenLemmas.{Goes_begin, Took_begin}
use Rattle.tdb_dump.proofs.reader.Reader.new.Goals as goal

pub returns-clause-took : goal.returns-clause-took
returns-clause-took c = Took_begin _ (Goes_begin _ c.new.ensures c.new-2.ensures refl refl) refl
