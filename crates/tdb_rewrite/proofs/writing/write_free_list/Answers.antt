-- The lines are those of the image's free list.
use Rattle.std.proofs.Common.{subst}
use Rattle.std.specs.List.{flat_map}
use Rattle.tdb_free.proofs.Results.{on_err}
use Rattle.tdb_space.specs.Chain.{free_of}
use Rattle.tdb_backup.specs.Dump.{WroteFront}
use Rattle.tdb_rewrite.specs.Text.{free_line, free_text}
use Rattle.tdb_rewrite.proofs.Written.{nothing_written, on_err_more}
use Rattle.tdb_rewrite.proofs.writing.write_free_list.Goals as goal

pub returns-in_err-records-clause-front : goal.returns-in_err-records-clause-front
returns-in_err-records-clause-front g c = on_err c.from_residual.result (λ told heard hands A.
    nothing_written (g.K.Sink.written c.args.out.now) (free_text (g.S.Space.form c.args.s.now) (g.S.Space.image c.args.s.now)))

pub returns-clause-front : goal.returns-clause-front
returns-clause-front g c = on_err_more c.write_records.result (λ front told heard hands A.
    subst (λ rs. WroteFront (g.K.Sink.written c.args.out.now) (flat_map free_line rs) (g.K.Sink.written c.write_records.new.out))
    (c.in_ok-records.ensures.listed told (free_of (g.S.Space.form c.args.s.now) (g.S.Space.image c.args.s.now)) A.frees) (front heard)) c.write_records.ensures.front
