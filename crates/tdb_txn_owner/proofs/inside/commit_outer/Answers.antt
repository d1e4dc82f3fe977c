-- A Commit that is refused ends the transaction; the first turn of another one is that of the machine.
use Rattle.std.proofs.Common.{None, Some, refl, sym, ◌∙◌, ap, subst}
use Rattle.std.specs.Option.{option_map}
use Rattle.tdb_law.specs.Commands.Command.{OnGroup}
use Rattle.tdb_law.specs.Commands.GroupCommand.{Commit}
use Rattle.tdb_law.specs.Commands.Turn.{Ends}
use Rattle.tdb_law.specs.Refusals.{refusal}
use Rattle.tdb_txn_turns.specs.Laws.{commits}
use Rattle.tdb_commands.specs.InLaw.{law_reply, law_turn}
use Rattle.tdb_commands.specs.declared.command.Command.TheVariants as Given
use Rattle.tdb_txn_owner.specs.declared.stage.Stage.TheVariants as Stage
use Rattle.tdb_txn_owner.specs.Ends.{task_of}
use Rattle.tdb_txn_owner.specs.Turned.{MayTurn, StageTurned}
use Rattle.tdb_txn_owner.proofs.OpenEnds.{commit_goes, knows_first, open_stops, refuses, commit_records_go}
use Rattle.tdb_txn_owner.proofs.Opened.{told_none, told_why, weaker}
use Rattle.tdb_txn_owner.proofs.Sided.{same_task}
use Rattle.tdb_txn_owner.proofs.Synced.{first_of_commit}
use Rattle.tdb_txn_owner.proofs.inside.commit_outer.Goals as goal

pub returns-in-Some-clause-turned : goal.returns-in-Some-clause-turned
returns-in-Some-clause-turned g c told f o table k past s t S K has M =
    let a = c.args in
    let rs = c.end.new.locks in
    let h = g.D.Disk.history a.d.now in
    let stage = Stage.Open a.txn (Some Given.Commit) in
    let reply = c.in-Some.reply in
    let mine = same_task (task_of (OnGroup Commit) 0) t has in
    let why = told_why f s.own (OnGroup Commit) reply (refusal f (OnGroup Commit) s.own) refl (ap (option_map law_reply) (sym c.in-Some.is) ∙ c.end_refusal.ensures.told f o k.file s.own Commit commits S.own) in
    subst (λ went. StageTurned f o table a.owner rs stage went.stage h h k past s t (law_turn went.turn)) (sym c.over.ensures)
    (subst (λ u. StageTurned f o table a.owner rs stage None h h k past s u (Ends (law_reply reply))) mine
    (refuses f o table a.owner a.locks.now rs h a.txn Given.Commit k past s c.end.ensures.gone c.end.ensures.others S K Commit refl (subst (MayTurn f table s) (sym mine) M) c.requires.outer tt why.0 (law_reply reply) why.1 why.2))

pub returns-in-Some-clause-stops : goal.returns-in-Some-clause-stops
returns-in-Some-clause-stops g c told f k K = open_stops f (g.D.Disk.history c.args.d.now) c.args.txn Given.Commit k K

pub returns-clause-turned : goal.returns-clause-turned
returns-clause-turned g c =
    let a = c.args in
    let h = g.D.Disk.history a.d.now in
    let new = g.D.Disk.history c.commit_first.new.d in
    let rs = c.commit_first.new.locks in
    weaker c.commit_first.result _ _
    (λ went turned told f o table k past s t S K has M.
    let granted = told_none f s.own (OnGroup Commit) (refusal f (OnGroup Commit) s.own) refl (ap (option_map law_reply) (sym c.in_default.is) ∙ c.end_refusal.ensures.told f o k.file s.own Commit commits S.own) in
    commit_goes f o a.owner a.locks.now rs h new a.txn went c.requires.outer table k past s t (turned told f o) granted S K has M) c.commit_first.ensures.turned

pub returns-clause-stops : goal.returns-clause-stops
returns-clause-stops g c told f k K =
    let a = c.args in
    let h = g.D.Disk.history a.d.now in
    c.commit_first.ensures.stops told k.file k.image (knows_first f h a.txn Given.Commit k K a.txn.own.changed)

pub returns-clause-records : goal.returns-clause-records
returns-clause-records g c =
    let a = c.args in
    weaker c.commit_first.result _ _
    (λ went go. commit_records_go a.txn c.requires.outer (c.end_refusal.ensures.whole c.in_default.is) (c.end_refusal.ensures.unlocked c.in_default.is) went.turn went.stage go) c.commit_first.ensures.records

-- its first turn makes no sync
pub returns-clause-syncs : goal.returns-clause-syncs
returns-clause-syncs g c =
    let own = c.args.txn.own in
    weaker c.commit_first.result _ _
    (λ went S. first_of_commit own.txn own.changed own.numbered went.turn (g.D.Disk.syncs c.args.d.now) (g.D.Disk.syncs c.commit_first.new.d) S) c.commit_first.ensures.syncs
