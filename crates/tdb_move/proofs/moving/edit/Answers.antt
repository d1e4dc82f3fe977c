-- A command broke off, or all three were done.
use Rattle.std.proofs.Common.{Err, Ok, ◌∙◌}
use Rattle.std.proofs.lemmas.Result.{err_from_is_err_and}
use Rattle.tdb_move.proofs.Parts.{goes_as, goes_join, went_as, went_join}
use Rattle.tdb_move.proofs.Steps.{edited_so, fetch_told, found_before, tells_found}
use Rattle.tdb_move.proofs.moving.edit.Goals as goal

pub returns-in_err-value-clause-went : goal.returns-in_err-value-clause-went
returns-in_err-value-clause-went g c =
    let q = err_from_is_err_and c.from_residual.result c.from_residual.ensures.1 in
    rw (q.1, q.2) (went_as g.D.Disk.tells _ _ c.in_err-value.field-0.0 c.in_err-value.ensures.went)

pub returns-in_err-value-clause-goes : goal.returns-in_err-value-clause-goes
returns-in_err-value-clause-goes g c =
    let q = err_from_is_err_and c.from_residual.result c.from_residual.ensures.1 in
    rw (q.1, q.2) (goes_as g.D.Disk.tells _ _ c.in_err-value.field-0.0 c.in_err-value.ensures.goes)

pub returns-in_err-value-clause-edited : goal.returns-in_err-value-clause-edited
returns-in_err-value-clause-edited g c told ps has fresh =
    let q = err_from_is_err_and c.from_residual.result c.from_residual.ensures.1 in
    rw (q.1, q.2) (fetch_told c.args.key.now ps fresh c.in_err-value.field-0.0 (c.in_err-value.ensures.fetched told ps has))

pub store-requires-clause-none : goal.store-requires-clause-none
store-requires-clause-none g c = c.in_ok-value.ensures.went.finished ∙ c.requires.none

pub store-requires-clause-two : goal.store-requires-clause-two
store-requires-clause-two g c = c.in_ok-value.ensures.went.count ∙ c.requires.two

pub returns-in_err-store-clause-went : goal.returns-in_err-store-clause-went
returns-in_err-store-clause-went g c =
    let q = err_from_is_err_and c.from_residual-in_err-store.result c.from_residual-in_err-store.ensures.1 in
    rw (q.1, q.2)
    (went_join g.D.Disk.tells _ _ _ (Ok c.in_ok-value.value) (Err c.in_err-store.field-0.0) (λ P p. p) c.in_ok-value.ensures.went (λ told ps has. (c.in_ok-value.ensures.fetched told ps has).1.some) c.in_err-store.ensures.went)

pub returns-in_err-store-clause-goes : goal.returns-in_err-store-clause-goes
returns-in_err-store-clause-goes g c =
    let q = err_from_is_err_and c.from_residual-in_err-store.result c.from_residual-in_err-store.ensures.1 in
    rw (q.1, q.2)
    (goes_join g.D.Disk.tells _ _ _ (Ok c.in_ok-value.value) (Err c.in_err-store.field-0.0) (λ P p. p) (λ told ps has. (c.in_ok-value.ensures.fetched told ps has).1.some) c.in_err-store.ensures.goes)

pub returns-in_err-store-clause-edited : goal.returns-in_err-store-clause-edited
returns-in_err-store-clause-edited g c told ps has fresh =
    let q = err_from_is_err_and c.from_residual-in_err-store.result c.from_residual-in_err-store.ensures.1 in
    rw (q.1, q.2)
    (tells_found _ c.in_ok-value.value (found_before c.args.key.now ps fresh c.in_ok-value.value (c.in_ok-value.ensures.fetched told ps has).0) c.in_err-store.field-0.0 c.in_err-store.ensures.fault)

pub delete-requires-clause-none : goal.delete-requires-clause-none
delete-requires-clause-none g c = c.in_ok-store.ensures.went.finished ∙ c.in_ok-value.ensures.went.finished ∙ c.requires.none

pub delete-requires-clause-two : goal.delete-requires-clause-two
delete-requires-clause-two g c = c.in_ok-store.ensures.went.count ∙ c.in_ok-value.ensures.went.count ∙ c.requires.two

pub returns-clause-went : goal.returns-clause-went
returns-clause-went g c =
    went_join g.D.Disk.tells _ _ _ (Ok c.in_ok-value.value) c.delete.result (λ P p. p) c.in_ok-value.ensures.went (λ told ps has. (c.in_ok-value.ensures.fetched told ps has).1.some)
    (went_join g.D.Disk.tells _ _ _ (Ok tt) c.delete.result (λ P p. p) c.in_ok-store.ensures.went (λ told ps has. (c.in_ok-store.ensures.stored told ps has).some) c.delete.ensures.went)

pub returns-clause-goes : goal.returns-clause-goes
returns-clause-goes g c =
    goes_join g.D.Disk.tells _ _ _ (Ok c.in_ok-value.value) c.delete.result (λ P p. p) (λ told ps has. (c.in_ok-value.ensures.fetched told ps has).1.some)
    (goes_join g.D.Disk.tells _ _ _ (Ok (tt {0})) c.delete.result (λ P p. p) (λ told ps has. (c.in_ok-store.ensures.stored told ps has).some) c.delete.ensures.goes)

pub returns-clause-edited : goal.returns-clause-edited
returns-clause-edited g c told ps has fresh =
    let F = c.in_ok-value.ensures.fetched told ps has in
    let S = c.in_ok-store.ensures.stored told F.1.some.maps F.1.some.has in
    edited_so c.args.key.now ps fresh _ _ _ c.in_ok-value.value F.0 F.1 S c.delete.result (c.delete.ensures.deleted told S.some.maps S.some.has) c.delete.ensures.fault
