use Rattle.std.proofs.Common.{◌++◌, length, ap, ◌∙◌, arith, rules}
use Rattle.tdb_disk.specs.History.{seen}
use Rattle.tdb_disk.specs.Published.{published, NothingOr}
use Rattle.tdb_disk.proofs.Publish.{after_name, after_value, after_sync, shut_or, after_word, seen_published}
use Rattle.tdb_disk.proofs.Runs.{leaves_then_sync}
use Rattle.tdb_disk.proofs.example.publish.Goals as goal

pub returns-in_err-write-clause-stops : goal.returns-in_err-write-clause-stops
returns-in_err-write-clause-stops g c told =
    shut_or (g.D.Disk.history c.args.d.now) (g.D.Disk.history c.write.new.self) (c.args.name ++ c.args.value)
    (after_name _ _ _ (c.requires.quiet told) (c.requires.nothing told) c.write.ensures.tried)

pub returns-in_err-write-2-clause-stops : goal.returns-in_err-write-2-clause-stops
returns-in_err-write-2-clause-stops g c told =
    shut_or (g.D.Disk.history c.args.d.now) (g.D.Disk.history c.write-2.new.self) (c.args.name ++ c.args.value)
    (after_value _ (g.D.Disk.history c.write.new.self) _ (length c.args.name) (length c.args.value)
    (c.requires.quiet told) (c.requires.nothing told) c.write.ensures.tried c.write-2.ensures.tried)

pub returns-in_err-sync-clause-stops : goal.returns-in_err-sync-clause-stops
returns-in_err-sync-clause-stops g c told =
    shut_or (g.D.Disk.history c.args.d.now) (g.D.Disk.history c.sync.new.self) (c.args.name ++ c.args.value)
    (after_sync _ (g.D.Disk.history c.write.new.self) (g.D.Disk.history c.write-2.new.self) _ (length c.args.name) (length c.args.value)
    (c.requires.quiet told) (c.requires.nothing told) c.write.ensures.tried c.write-2.ensures.tried c.sync.ensures.tried)

pub returns-in_err-write_word-clause-stops : goal.returns-in_err-write_word-clause-stops
returns-in_err-write_word-clause-stops g c told =
    after_word _ _ _ (g.D.Disk.history c.sync.new.self) _ c.args.name c.args.value (c.requires.quiet told) (c.requires.nothing told)
    (omega (arith, g.met.D.Disk.told_size c.args.d.now told, c.requires.room)) (search rules) (search rules)
    (c.in_ok-write.ensures.done told) (c.in_ok-write-2.ensures.done told) (c.in_ok-sync.ensures.done told) c.write_word.ensures.tried

pub returns-in_err-sync-2-clause-stops : goal.returns-in_err-sync-2-clause-stops
returns-in_err-sync-2-clause-stops g c told =
    leaves_then_sync _ (g.D.Disk.history c.write_word.new.self) _ (NothingOr (c.args.name ++ c.args.value))
    (after_word _ _ _ (g.D.Disk.history c.sync.new.self) _ c.args.name c.args.value (c.requires.quiet told) (c.requires.nothing told)
    (omega (arith, g.met.D.Disk.told_size c.args.d.now told, c.requires.room)) (search rules) (search rules)
    (c.in_ok-write.ensures.done told) (c.in_ok-write-2.ensures.done told) (c.in_ok-sync.ensures.done told) c.write_word.ensures.tried)
    c.sync-2.ensures.tried

pub returns-clause-stops : goal.returns-clause-stops
returns-clause-stops g c told =
    leaves_then_sync _ (g.D.Disk.history c.write_word.new.self) _ (NothingOr (c.args.name ++ c.args.value))
    (after_word _ _ _ (g.D.Disk.history c.sync.new.self) _ c.args.name c.args.value (c.requires.quiet told) (c.requires.nothing told)
    (omega (arith, g.met.D.Disk.told_size c.args.d.now told, c.requires.room)) (search rules) (search rules)
    (c.in_ok-write.ensures.done told) (c.in_ok-write-2.ensures.done told) (c.in_ok-sync.ensures.done told) c.write_word.ensures.tried)
    c.sync-2.ensures.tried

pub returns-clause-both : goal.returns-clause-both
returns-clause-both g c told =
    ap (λ h. published (seen h)) (c.in_ok-sync-2.ensures.done told)
    ∙ ap (λ h. published (seen h)) (c.in_ok-write_word.ensures.done told)
    ∙ seen_published (g.D.Disk.history c.args.d.now) _ _ (g.D.Disk.history c.sync.new.self) c.args.name c.args.value
    (omega (arith, g.met.D.Disk.told_size c.args.d.now told, c.requires.room)) (search rules) (search rules)
    (c.in_ok-write.ensures.done told) (c.in_ok-write-2.ensures.done told) (c.in_ok-sync.ensures.done told)
