-- Each command turns as the law says.
use Rattle.std.proofs.Common.{◌≡◌, sym, refl, subst, Some, None, inl, inr, arith}
use Rattle.tdb_space.specs.Form.{form_in}
use Rattle.tdb_law.specs.Commands.Turn.{Ends}
use Rattle.tdb_commands.specs.InLaw.{law_command, law_reply, law_turn}
use Rattle.tdb_locks.specs.declared.turn.Reply.{Reply}
use Rattle.tdb_txn_owner.specs.declared.stage.Stage.TheVariants as Stage
use Rattle.tdb_txn_owner.specs.declared.stage.Went.{Went}
use Rattle.tdb_txn_owner.specs.Ends.{task_of}
use Rattle.tdb_txn_owner.specs.Stages.{stage_task, IsFitLeft, IsSide, KnowsFile}
use Rattle.tdb_txn_owner.specs.Turned.{MayTurn, StageTurned}
use Rattle.tdb_txn_owner.specs.Wanting.{RecordsGo, StepGoesOn}
use Rattle.tdb_txn_owner.proofs.Opened.{stays_open, weaker}
use Rattle.tdb_txn_owner.proofs.PreparedTurns.{end_turned, not_taken, over_with, prepared_stops, refused_turned, still_read, EndsPrepared}
use Rattle.tdb_txn_owner.proofs.Sided.{same_task}
use Rattle.tdb_txn_owner.proofs.Synced.{still_syncs}
use Rattle.tdb_txn_owner.proofs.prepared.prepared_turn.Goals as goal

pub returns-in-Commit-clause-turned : goal.returns-in-Commit-clause-turned
returns-in-Commit-clause-turned g c =
    weaker c.commit_prepared.result _ _
    (λ went turn told table k past s t S K has M.
    let a = c.args in
    let f = form_in a.header.now in
    let o = a.options.now in
    let h = g.D.Disk.history a.d.now in
    let new = g.D.Disk.history c.commit_prepared.new.d in
    let rs = c.commit_prepared.new.locks in
    let is = c.in-Commit.is in
    subst (λ command. StageTurned f o table a.owner rs (Stage.Prepared a.left (Some command)) went.stage h new k past s t (law_turn went.turn)) (sym is)
    (turn told f o table k past s t (subst (λ command. IsSide f o a.owner a.locks.now (Stage.Prepared a.left (Some command)) k past s) is S)
    (subst (λ command. KnowsFile f (Stage.Prepared a.left (Some command)) h k) is K) (subst (λ command. stage_task (Stage.Prepared a.left (Some command)) ≡ Some t) is has) M)) c.commit_prepared.ensures.turned

pub returns-in-Cancel-clause-turned : goal.returns-in-Cancel-clause-turned
returns-in-Cancel-clause-turned g c =
    over_with c.end_with.result _ _ _ _ c.end_with.ensures.over c.end_with.ensures.gone c.end_with.ensures.undone
    (λ went is gone undone told table k past s t S K has M.
    let a = c.args in
    let f = form_in a.header.now in
    let o = a.options.now in
    let h = g.D.Disk.history a.d.now in
    let new = g.D.Disk.history c.end_with.new.d in
    let rs = c.end_with.new.locks in
    let stage = Stage.Prepared a.left (Some a.command) in
    let mine = same_task (task_of (law_command a.command) 0) t has in
    let ends : EndsPrepared a.command Reply.Ok = elim c.in-Cancel.is [ inl cancel ↦ subst (λ command. EndsPrepared command Reply.Ok) (sym cancel) refl | inr close ↦ subst (λ command. EndsPrepared command Reply.Ok) (sym close) refl ] in
    subst (λ (w : Went). StageTurned f o table a.owner rs stage w.stage h new k past s t (law_turn w.turn)) (sym is)
    (subst (λ u. StageTurned f o table a.owner rs stage None h new k past s u (Ends (law_reply Reply.Ok))) mine
    (end_turned f o table a.owner a.locks.now rs a.left h new k past s a.command Reply.Ok ends S K (subst (MayTurn f table s) (sym mine) M) gone c.end_with.ensures.others
    (undone told k.file k.image K.at.0) (still_read a.left h new c.end_with.ensures.still))))

pub returns-in-Prepare-clause-turned : goal.returns-in-Prepare-clause-turned
returns-in-Prepare-clause-turned g c =
    over_with c.end_with-in-Prepare.result _ _ _ _ c.end_with-in-Prepare.ensures.over c.end_with-in-Prepare.ensures.gone c.end_with-in-Prepare.ensures.undone
    (λ went is gone undone told table k past s t S K has M.
    let a = c.args in
    let f = form_in a.header.now in
    let o = a.options.now in
    let h = g.D.Disk.history a.d.now in
    let new = g.D.Disk.history c.end_with-in-Prepare.new.d in
    let rs = c.end_with-in-Prepare.new.locks in
    let stage = Stage.Prepared a.left (Some a.command) in
    let mine = same_task (task_of (law_command a.command) 0) t has in
    let ends : EndsPrepared a.command Reply.InTransaction = subst (λ command. EndsPrepared command Reply.InTransaction) (sym c.in-Prepare.is) refl in
    subst (λ (w : Went). StageTurned f o table a.owner rs stage w.stage h new k past s t (law_turn w.turn)) (sym is)
    (subst (λ u. StageTurned f o table a.owner rs stage None h new k past s u (Ends (law_reply Reply.InTransaction))) mine
    (end_turned f o table a.owner a.locks.now rs a.left h new k past s a.command Reply.InTransaction ends S K (subst (MayTurn f table s) (sym mine) M) gone c.end_with-in-Prepare.ensures.others
    (undone told k.file k.image K.at.0) (still_read a.left h new c.end_with-in-Prepare.ensures.still))))

pub returns-in_default : goal.returns-in_default
returns-in_default g c =
    let a = c.args in
    let f = form_in a.header.now in
    let o = a.options.now in
    let h = g.D.Disk.history a.d.now in
    let ps = a.locks.now in
    let stage = Stage.Prepared a.left (Some a.command) in
    let after = Some (Stage.Prepared a.left None) in
    let R = c.refused.ensures in
    record {
      turned = λ told table k past s t S K has M.
          (let mine = same_task (task_of (law_command a.command) 0) t has in
          subst (λ (w : Went). StageTurned f o table a.owner ps stage w.stage h h k past s t (law_turn w.turn)) (sym R.2)
          (subst (λ u. StageTurned f o table a.owner ps stage after h h k past s u (Ends (law_reply R.0))) mine
          (refused_turned f o table a.owner ps a.left a.command h k past s S K (subst (MayTurn f table s) (sym mine) M) (not_taken a.command c.in_default.not-Commit c.in_default.not-Cancel c.in_default.not-Close)
          (stays_open a.command c.in_default.not-Commit c.in_default.not-Prepare) (law_reply R.0) R.1)));
      fits =
          let size = g.D.Disk.size a.d.now in
          subst (λ (w : Went). IsFitLeft w.stage a.header.now o.limit size) (sym R.2) (c.requires.fits.0, tt);
      records = subst (λ (w : Went). RecordsGo stage w.turn w.stage) (sym R.2) refl;
      goes_on = subst (λ (w : Went). StepGoesOn w.turn w.stage) (sym R.2) tt;
      stops = λ told r b K. prepared_stops a.left h r b K;
      size = refl;
      syncs = still_syncs a.left (Some a.command) _ (g.D.Disk.syncs a.d.now);
      cause = record { never_falls = omega arith; failed = tt; done = refl };
    }
