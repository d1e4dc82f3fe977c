-- The run is counted, and put on the list where there is memory.
use Rattle.std.proofs.Common.{◌-◌, true}
use Rattle.tdb_txn.proofs.Gathered.{keeps_listed, keeps_lost}
use Rattle.tdb_txn.proofs.found.Found.close.Goals as goal

pub returns-then-self-clause-keeps : goal.returns-then-self-clause-keeps
returns-then-self-clause-keeps c runs K =
    let s = c.args.self.now in keeps_lost runs s _ (s.from, s.to - s.from) K c.saturating_add-self.ensures c.if-self.true

pub returns-in-Ok-clause-keeps : goal.returns-in-Ok-clause-keeps
returns-in-Ok-clause-keeps c runs K =
    let s = c.args.self.now in keeps_listed runs s _ (s.from, s.to - s.from) K c.saturating_add-self.ensures c.if-self.false c.in-Ok.ensures.ok

pub returns-in-Err-clause-keeps : goal.returns-in-Err-clause-keeps
returns-in-Err-clause-keeps c runs K =
    let s = c.args.self.now in keeps_lost runs s _ (s.from, s.to - s.from) K c.saturating_add-self.ensures (λ i. true)
