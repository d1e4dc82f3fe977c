-- The transaction goes on.
use Rattle.std.proofs.Common.{None, Some, sym, ◌∙◌, subst, arith}
use Rattle.std.specs.Prelude.{◌<◌, ◌^◌}
use Rattle.tdb_txn.specs.Committing.{MayCommit}
use Rattle.tdb_txn.specs.Txn.{txn_size}
use Rattle.tdb_law.specs.Commands.Turn.{Ends}
use Rattle.tdb_txn_turns.specs.InsideTxn.OwnTxns.{form_of}
use Rattle.tdb_txn_turns.specs.InsideTxn.Walks.{RestsInside}
use Rattle.tdb_commands.specs.InLaw.{law_command, law_reply, law_turn}
use Rattle.tdb_txn_owner.specs.declared.stage.Stage.TheVariants as Stage
use Rattle.tdb_txn_owner.specs.Ends.{task_of}
use Rattle.tdb_txn_owner.specs.Open.{GoesOn, HasOpen}
use Rattle.tdb_txn_owner.specs.Turned.{MayTurn, StageTurned}
use Rattle.tdb_txn_owner.specs.Wents.{TurnsFrom}
use Rattle.tdb_txn_owner.proofs.OpenTurns.{stays_turned}
use Rattle.tdb_txn_owner.proofs.Sided.{same_task}
use Rattle.tdb_txn_owner.proofs.OpenEnds.{stay_records}
use Rattle.tdb_txn_owner.specs.Wanting.{RecordsGo}
use Rattle.tdb_disk.specs.History.{seen}
use Rattle.tdb_txn_owner.specs.Room.{GrantedFull}
use Rattle.tdb_txn_owner.proofs.inside.stay_turn.Goals as goal

pub returns-clause-turned : goal.returns-clause-turned
returns-clause-turned g c told owner ps =
    let a = c.args in
    let o = a.options.now in
    let h = g.D.Disk.history a.d.now in
    let new = g.D.Disk.history c.turn.new.d in
    let i = c.in_ok-reply in
    let old = a.txn in
    let next = c.turn.new.self in
    let stage = Stage.Open old (Some a.command) in
    let open_fits = c.requires.fits.0 in
    let form = sym c.turn.ensures.fits.header ∙ open_fits.header in
    let short : txn_size old.own.txn < 2 ^ 32 = let within = open_fits.within in let most = c.requires.limit in omega (arith, within, most) in
    subst (λ f. TurnsFrom f o owner ps ps stage c.on.result h new) (sym open_fits.header)
    (λ table k past s t S K has M.
    let mine = same_task (task_of (law_command a.command) 0) t has in
    let f = form_of old.own in
    let here = K.at.0.file in
    let may = K.at.0.may in
    let goes = subst (λ b. HasOpen o old b s.own → RestsInside old.own b old.walk → MayCommit old.own.txn b → GoesOn o old next b s.own (law_command a.command) (law_reply i.reply)) here (i.ensures.turned told s.own) in
    let still = subst (λ b. RestsInside old.own b old.walk → MayCommit old.own.txn b → MayCommit next.own.txn b) here (i.ensures.commits told) in
    subst (λ went. StageTurned f o table owner ps stage went.stage h new k past s t (law_turn went.turn)) (sym c.on.ensures)
    (subst (λ u. StageTurned f o table owner ps stage (Some (Stage.Open next None)) h new k past s u (Ends (law_reply i.reply))) mine
    (stays_turned o table owner ps h new old next a.command i.reply k past s c.turn.ensures.history form c.turn.ensures.numbered short S K (subst (MayTurn f table s) (sym mine) M) (still K.at.1 may) (goes S.own K.at.1 may))))

pub returns-clause-records : goal.returns-clause-records
returns-clause-records g c =
    let a = c.args in
    subst (λ went. RecordsGo (Stage.Open a.txn (Some a.command)) went.turn went.stage) (sym c.on.ensures) (sym (stay_records a.txn a.command c.requires.inside))

pub returns-clause-full : goal.returns-clause-full
returns-clause-full g c told =
    let a = c.args in
    subst (λ went. GrantedFull a.options.now a.txn (seen (g.D.Disk.history a.d.now)) a.command (law_turn went.turn)) (sym c.on.ensures) (c.in_ok-reply.ensures.full told)
