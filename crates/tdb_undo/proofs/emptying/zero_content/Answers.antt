-- The zeros, and the sync.
use Rattle.std.proofs.Common.{◌+◌, sym, subst, ap}
use Rattle.tdb_disk.specs.History.{seen}
use Rattle.tdb_disk.proofs.Runs.{leaves_then_sync, quiet_synced}
use Rattle.tdb_space.specs.Opening.{lies_in}
use Rattle.tdb_undo.specs.Torn.{TornIn, Put}
use Rattle.tdb_undo.proofs.emptying.zero_content.Goals as goal

pub returns-in_err-sync-clause-stops : goal.returns-in_err-sync-clause-stops
returns-in_err-sync-clause-stops g c told =
    leaves_then_sync _ (g.D.Disk.history c.zero_bytes.new.d) _ (TornIn (lies_in (c.args.area.now.at + 24) c.args.area.now.header.rec_len) (g.D.Disk.history c.args.d.now)) (c.zero_bytes.ensures.stops told) c.sync.ensures.tried

pub returns-clause-stops : goal.returns-clause-stops
returns-clause-stops g c told =
    leaves_then_sync _ (g.D.Disk.history c.zero_bytes.new.d) _ (TornIn (lies_in (c.args.area.now.at + 24) c.args.area.now.header.rec_len) (g.D.Disk.history c.args.d.now)) (c.zero_bytes.ensures.stops told) c.sync.ensures.tried

pub returns-clause-put : goal.returns-clause-put
returns-clause-put g c told =
    subst (Put (lies_in (c.args.area.now.at + 24) c.args.area.now.header.rec_len) (λ _. 0) (seen (g.D.Disk.history c.args.d.now))) (sym (ap seen (c.in_ok-sync.ensures.done told))) (c.in_ok-zero_bytes.ensures.put told)

pub returns-clause-quiet : goal.returns-clause-quiet
returns-clause-quiet g c told = quiet_synced _ _ (c.in_ok-sync.ensures.done told)
