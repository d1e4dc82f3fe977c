-- A run that might have gone on is the last one.
use Rattle.std.proofs.Common.{sym, subst}
use Rattle.tdb_txn.specs.EndBelow.{EndBelow}
use Rattle.tdb_txn.specs.declared.found.Found.{Found}
use Rattle.tdb_txn.proofs.Gathered.{Finished, closed_all, finished_fed, finished_starved, stood_all}
use Rattle.tdb_txn.proofs.Scans.{ends_later}
use Rattle.tdb_txn.proofs.found.Found.finish.Goals.{then-self, else-self}
use Rattle.tdb_txn.proofs.found.Found.finish.Goals as goal

pub returns-then-starved-clause-starved : goal.returns-then-starved-clause-starved
returns-then-starved-clause-starved c a b old skip low F =
    let s = c.args.self in
    let now = c.if-self.self in
    finished_starved a b old skip now
    (elim c.if-self.branch [
      | then-self w ↦ subst (Finished a b old skip) (sym w.self-is) (closed_all a b old skip s w.close.new.self F low w.if-self.true (w.close.ensures.keeps F.runs F.keeps))
      | else-self w ↦ subst (Finished a b old skip) (sym w.self-is) (stood_all a b old skip s s F low w.if-self.false)
    ]) c.if-starved.true

pub returns-else-starved-clause-runs : goal.returns-else-starved-clause-runs
returns-else-starved-clause-runs c a b old skip low F =
    let s = c.args.self in
    let now = c.if-self.self in
    finished_fed a b old skip now
    (elim c.if-self.branch [
      | then-self w ↦ subst (Finished a b old skip) (sym w.self-is) (closed_all a b old skip s w.close.new.self F low w.if-self.true (w.close.ensures.keeps F.runs F.keeps))
      | else-self w ↦ subst (Finished a b old skip) (sym w.self-is) (stood_all a b old skip s s F low w.if-self.false)
    ]) c.if-starved.false

pub returns-else-starved-clause-ends : goal.returns-else-starved-clause-ends
returns-else-starved-clause-ends c =
    let s = c.args.self in
    elim c.if-self.branch [
      | then-self w ↦ subst (λ (f : Found). EndBelow s.next f.list) (sym w.self-is) (ends_later w.close.new.self.list s.to s.next (w.close.ensures.done c.requires.place.done) c.requires.place.below)
      | else-self w ↦ subst (λ (f : Found). EndBelow s.next f.list) (sym w.self-is) (ends_later s.list s.to s.next c.requires.place.done c.requires.place.below)
    ]
