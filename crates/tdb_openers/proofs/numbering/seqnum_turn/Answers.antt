-- The number is read under its lock, or another opener's lock is in the way, or memory is wanting.
use Rattle.std.proofs.Common.{◌+◌, None, Some, sym, ◌∙◌, ap, subst}
use Rattle.tdb_locks.specs.LockTable.{ChangesRange, IsFree, IsFirstConflict}
use Rattle.tdb_locks.specs.Refusal.{IsRefusal}
use Rattle.tdb_locks.specs.declared.kind.Kind.TheVariants.{Read}
use Rattle.tdb_law.specs.Commands.Command.{Seqnum}
use Rattle.tdb_law.specs.Commands.Reply.{Memory, Number}
use Rattle.tdb_law.specs.Commands.Turn.{Ends}
use Rattle.tdb_steps.specs.Holdings.{strength, table_of}
use Rattle.tdb_openers.specs.Openers.{own_with}
use Rattle.tdb_openers.specs.Turning.{TurnsFile, resting}
use Rattle.tdb_openers.proofs.Checks.Numbered.{ends_locks, read_same, number_file, waits_file, starves_file}
use Rattle.tdb_openers.proofs.numbering.seqnum_turn.Goals as goal

pub returns-in-Err-Conflict-clause-file : goal.returns-in-Err-Conflict-clause-file
returns-in-Err-Conflict-clause-file g c told long options live old rest who number v M =
    let i = c.in-Err-Conflict in
    let refused = subst (IsRefusal c.args.locks.now c.args.owner 48 49 Read) i.field-0-is i.ensures.refused in
    waits_file (g.S.Space.form c.args.s.now) options live old rest who c.args.locks.now M v (g.S.Space.image c.args.s.now) i.owner i.byte i.field-0-2
    (subst (λ o. IsFirstConflict c.args.locks.now o 48 49 Read i.owner i.byte i.field-0-2) number refused)

pub returns-in-Err-Memory-clause-locks : goal.returns-in-Err-Memory-clause-locks
returns-in-Err-Memory-clause-locks g c f options live old rest who number M =
    ends_locks f options live old rest who c.args.locks.now M c.try_lock.new.self
    (λ b. ap (λ ps. table_of ps (who + 1) b) c.in-Err-Memory.ensures.err) (λ o b differs. ap (λ ps. table_of ps o b) c.in-Err-Memory.ensures.err) Memory

pub returns-in-Err-Memory-clause-file : goal.returns-in-Err-Memory-clause-file
returns-in-Err-Memory-clause-file g c told long options live old rest who number v M = starves_file (g.S.Space.form c.args.s.now) options live old rest who c.args.locks.now M v (g.S.Space.image c.args.s.now)

pub returns-clause-locks : goal.returns-clause-locks
returns-clause-locks g c f options live old rest who number M =
    let mid = c.try_lock.new.self in
    let qs = c.let_go_of_number.new.locks in
    let taken = c.in-Ok.ensures.held in
    let gone = c.let_go_of_number.ensures in
    ends_locks f options live old rest who c.args.locks.now M qs
    (read_same f options live old rest who c.args.locks.now M mid qs (subst (λ o. ChangesRange c.args.locks.now mid o 48 49 (Some Read)) number taken) (subst (λ o. ChangesRange mid qs o 48 49 None) number gone))
    (λ o b differs. ap strength (gone.others o b (λ e. differs (e ∙ number)) ∙ taken.others o b (λ e. differs (e ∙ number)))) (Number c.from.result)

pub returns-clause-file : goal.returns-clause-file
returns-clause-file g c told long options live old rest who number v M =
    let f = g.S.Space.form c.args.s.now in
    let img = g.S.Space.image c.args.s.now in
    let x = own_with options live old rest in
    subst (λ b. TurnsFile f x x (resting rest) v Seqnum 0 who c.args.locks.now img b (Ends (Number c.from.result))) (sym c.number_in-number.ensures.looked.image)
    (number_file f options live old rest who c.args.locks.now M v img (subst (λ o. IsFree c.args.locks.now o 48 49 Read) number c.in-Ok.ensures.granted) c.from.result (c.from.ensures ∙ c.in_ok-number.ensures.value told long))
