-- The pair in the bytes that were read.
use Rattle.std.proofs.Common.{refl}
use Rattle.tdb_backup.proofs.Bytes.{known_cut, known_key_cut}
use Rattle.tdb_backup.proofs.held.Held.read_known.Goals as goal

pub returns-clause-pair : goal.returns-clause-pair
returns-clause-pair g c told =
    known_cut c.read_up_to.new.room.items (g.S.Space.image c.args.s.now) c.args.at c.args.rec.now (c.in_ok-read_up_to.ensures.shows told refl)

pub returns-clause-key_length : goal.returns-clause-key_length
returns-clause-key_length g c = known_key_cut c.read_up_to.new.room.items c.args.rec.now.key_len c.args.rec.now.data_len c.in_ok-read_up_to.ensures.long
