-- The commands broke off, and the transactions are cancelled; or the files are prepared, or aren't.
use Rattle.std.proofs.Common.{Err, Ok}
use Rattle.std.proofs.lemmas.Result.{err_from_is_err_and}
use Rattle.tdb_move.specs.Faults.{of_stop}
use Rattle.tdb_move.specs.Parts.{LeadsSome}
use Rattle.tdb_move.proofs.Parts.{prepared_failed, prepared_went, unless_else, went_join}
use Rattle.tdb_move.proofs.Steps.{readied_gave, readied_not, readied_ok}
use Rattle.tdb_move.proofs.moving.ready.Goals as goal

pub returns-in_err-prepare-in-Ok-clause-went : goal.returns-in_err-prepare-in-Ok-clause-went
returns-in_err-prepare-in-Ok-clause-went g c =
    let q = err_from_is_err_and c.from_residual.result c.from_residual.ensures.1 in
    let stop = c.in_err-prepare-in-Ok.field-0.0 in
    rw (q.1, q.2)
    (went_join g.D.Disk.tells _ _ _ (Ok (tt {0})) (Err (of_stop stop)) (λ P p. p) c.in-Ok.ensures.went (λ told ps has. c.in-Ok.ensures.goes.leads told ps has) (prepared_failed g.D.Disk.tells _ _ _ _ stop c.in_err-prepare-in-Ok.ensures))

pub returns-in_err-prepare-in-Ok-clause-readied : goal.returns-in_err-prepare-in-Ok-clause-readied
returns-in_err-prepare-in-Ok-clause-readied g c told ps has fresh =
    let q = err_from_is_err_and c.from_residual.result c.from_residual.ensures.1 in
    rw (q.1, q.2) (readied_not c.args.key.now ps g.D.Disk.tells _ _ _ _ told (c.in-Ok.ensures.edited told ps has fresh) c.in_err-prepare-in-Ok.field-0.0 c.in_err-prepare-in-Ok.ensures)

pub returns-in_ok-prepare-in-Ok-clause-went : goal.returns-in_ok-prepare-in-Ok-clause-went
returns-in_ok-prepare-in-Ok-clause-went g c =
    went_join g.D.Disk.tells _ _ _ (Ok (tt {0})) (Ok (tt {0})) (λ P p. p) c.in-Ok.ensures.went (λ told ps has. c.in-Ok.ensures.goes.leads told ps has) (prepared_went g.D.Disk.tells _ _ _ _ c.in_ok-prepare-in-Ok.ensures)

pub returns-in_ok-prepare-in-Ok-clause-readied : goal.returns-in_ok-prepare-in-Ok-clause-readied
returns-in_ok-prepare-in-Ok-clause-readied g c told ps has fresh = readied_ok c.args.key.now ps g.D.Disk.tells _ _ _ _ told (c.in-Ok.ensures.edited told ps has fresh) c.in_ok-prepare-in-Ok.ensures

pub returns-in-Err : goal.returns-in-Err
returns-in-Err g c =
    let E = c.in-Err.ensures in
    let G = c.give_up.ensures in
    let fault = c.in-Err.fault in
    record {
      went = went_join g.D.Disk.tells _ _ _ (Err fault) (Err c.give_up.result) (unless_else (Unit {0}) fault G.other) E.went (λ told ps has. unless_else (Unit {0}) fault G.other (LeadsSome ps c.edit.new.group) (E.goes.leads told ps has)) G.went;
      prepared = tt;
      readied = λ told ps has fresh.
          readied_gave c.args.key.now ps g.D.Disk.tells _ _ fault c.give_up.result told (E.edited told ps has fresh)
          (unless_else (Unit {0}) fault G.other (LeadsSome ps c.edit.new.group) (E.goes.leads told ps has)) G;
    }
