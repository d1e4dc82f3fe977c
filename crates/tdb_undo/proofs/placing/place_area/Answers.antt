-- What a stop leaves of each step, and the new area.
use Rattle.std.proofs.Common.{arith}
use Rattle.tdb_disk.proofs.Runs.{quiet_synced}
use Rattle.tdb_undo.proofs.Places.{place_one, place_two, place_three, place_four, place_five, place_six, place_set}
use Rattle.tdb_undo.proofs.placing.place_area.Goals as goal

pub returns-in_err-grow-clause-stops : goal.returns-in_err-grow-clause-stops
returns-in_err-grow-clause-stops g c told quiet words =
    place_one c.args.order c.args.at c.args.capacity (g.D.Disk.history c.args.d.now) (g.D.Disk.history c.grow.new.self) (g.D.Disk.history c.grow.new.self) (g.D.Disk.history c.grow.new.self) (g.D.Disk.history c.grow.new.self) (g.D.Disk.history c.grow.new.self) (g.D.Disk.history c.grow.new.self) (omega (arith, (g.met.D.Disk.told_size c.args.d.now told), c.requires.heads)) (omega (arith, (g.met.D.Disk.told_size c.args.d.now told), c.requires.behind)) words c.requires.aligned c.requires.len_aligned c.requires.short quiet c.grow.ensures.tried

pub returns-in_err-sync-clause-stops : goal.returns-in_err-sync-clause-stops
returns-in_err-sync-clause-stops g c told quiet words =
    place_two c.args.order c.args.at c.args.capacity (g.D.Disk.history c.args.d.now) (g.D.Disk.history c.grow.new.self) (g.D.Disk.history c.sync.new.self) (g.D.Disk.history c.sync.new.self) (g.D.Disk.history c.sync.new.self) (g.D.Disk.history c.sync.new.self) (g.D.Disk.history c.sync.new.self) (omega (arith, (g.met.D.Disk.told_size c.args.d.now told), c.requires.heads)) (omega (arith, (g.met.D.Disk.told_size c.args.d.now told), c.requires.behind)) words c.requires.aligned c.requires.len_aligned c.requires.short quiet (c.in_ok-grow.ensures.done told) c.sync.ensures.tried

pub returns-in_err-write_word-clause-stops : goal.returns-in_err-write_word-clause-stops
returns-in_err-write_word-clause-stops g c told quiet words =
    place_three c.args.order c.args.at c.args.capacity (g.D.Disk.history c.args.d.now) (g.D.Disk.history c.grow.new.self) (g.D.Disk.history c.sync.new.self) (g.D.Disk.history c.write_word.new.self) (g.D.Disk.history c.write_word.new.self) (g.D.Disk.history c.write_word.new.self) (g.D.Disk.history c.write_word.new.self) (omega (arith, (g.met.D.Disk.told_size c.args.d.now told), c.requires.heads)) (omega (arith, (g.met.D.Disk.told_size c.args.d.now told), c.requires.behind)) words c.requires.aligned c.requires.len_aligned c.requires.short quiet c.word_bytes.result c.word_bytes.ensures.bytes (c.in_ok-grow.ensures.done told) (c.in_ok-sync.ensures.done told) c.write_word.ensures.tried

pub returns-in_err-sync-2-clause-stops : goal.returns-in_err-sync-2-clause-stops
returns-in_err-sync-2-clause-stops g c told quiet words =
    place_four c.args.order c.args.at c.args.capacity (g.D.Disk.history c.args.d.now) (g.D.Disk.history c.grow.new.self) (g.D.Disk.history c.sync.new.self) (g.D.Disk.history c.write_word.new.self) (g.D.Disk.history c.sync-2.new.self) (g.D.Disk.history c.sync-2.new.self) (g.D.Disk.history c.sync-2.new.self) (omega (arith, (g.met.D.Disk.told_size c.args.d.now told), c.requires.heads)) (omega (arith, (g.met.D.Disk.told_size c.args.d.now told), c.requires.behind)) words c.requires.aligned c.requires.len_aligned c.requires.short quiet c.word_bytes.result c.word_bytes.ensures.bytes (c.in_ok-grow.ensures.done told) (c.in_ok-sync.ensures.done told) (c.in_ok-write_word.ensures.done told) c.sync-2.ensures.tried

pub returns-in_err-write_word-2-clause-stops : goal.returns-in_err-write_word-2-clause-stops
returns-in_err-write_word-2-clause-stops g c told quiet words =
    place_five c.args.order c.args.at c.args.capacity (g.D.Disk.history c.args.d.now) (g.D.Disk.history c.grow.new.self) (g.D.Disk.history c.sync.new.self) (g.D.Disk.history c.write_word.new.self) (g.D.Disk.history c.sync-2.new.self) (g.D.Disk.history c.write_word-2.new.self) (g.D.Disk.history c.write_word-2.new.self) (omega (arith, (g.met.D.Disk.told_size c.args.d.now told), c.requires.heads)) (omega (arith, (g.met.D.Disk.told_size c.args.d.now told), c.requires.behind)) words c.requires.aligned c.requires.len_aligned c.requires.short quiet c.word_bytes.result c.word_bytes-2.result c.word_bytes.ensures.bytes c.word_bytes-2.ensures.bytes (c.in_ok-grow.ensures.done told) (c.in_ok-sync.ensures.done told) (c.in_ok-write_word.ensures.done told) (c.in_ok-sync-2.ensures.done told) c.write_word-2.ensures.tried

pub returns-in_err-sync-3-clause-stops : goal.returns-in_err-sync-3-clause-stops
returns-in_err-sync-3-clause-stops g c told quiet words =
    place_six c.args.order c.args.at c.args.capacity (g.D.Disk.history c.args.d.now) (g.D.Disk.history c.grow.new.self) (g.D.Disk.history c.sync.new.self) (g.D.Disk.history c.write_word.new.self) (g.D.Disk.history c.sync-2.new.self) (g.D.Disk.history c.write_word-2.new.self) (g.D.Disk.history c.sync-3.new.self) (omega (arith, (g.met.D.Disk.told_size c.args.d.now told), c.requires.heads)) (omega (arith, (g.met.D.Disk.told_size c.args.d.now told), c.requires.behind)) words c.requires.aligned c.requires.len_aligned c.requires.short quiet c.word_bytes.result c.word_bytes-2.result c.word_bytes.ensures.bytes c.word_bytes-2.ensures.bytes (c.in_ok-grow.ensures.done told) (c.in_ok-sync.ensures.done told) (c.in_ok-write_word.ensures.done told) (c.in_ok-sync-2.ensures.done told) (c.in_ok-write_word-2.ensures.done told) c.sync-3.ensures.tried

pub returns-clause-stops : goal.returns-clause-stops
returns-clause-stops g c told quiet words =
    place_six c.args.order c.args.at c.args.capacity (g.D.Disk.history c.args.d.now) (g.D.Disk.history c.grow.new.self) (g.D.Disk.history c.sync.new.self) (g.D.Disk.history c.write_word.new.self) (g.D.Disk.history c.sync-2.new.self) (g.D.Disk.history c.write_word-2.new.self) (g.D.Disk.history c.sync-3.new.self) (omega (arith, (g.met.D.Disk.told_size c.args.d.now told), c.requires.heads)) (omega (arith, (g.met.D.Disk.told_size c.args.d.now told), c.requires.behind)) words c.requires.aligned c.requires.len_aligned c.requires.short quiet c.word_bytes.result c.word_bytes-2.result c.word_bytes.ensures.bytes c.word_bytes-2.ensures.bytes (c.in_ok-grow.ensures.done told) (c.in_ok-sync.ensures.done told) (c.in_ok-write_word.ensures.done told) (c.in_ok-sync-2.ensures.done told) (c.in_ok-write_word-2.ensures.done told) c.sync-3.ensures.tried

pub returns-clause-set : goal.returns-clause-set
returns-clause-set g c told words =
    place_set c.args.order c.args.at c.args.capacity (g.D.Disk.history c.args.d.now) (g.D.Disk.history c.grow.new.self) (g.D.Disk.history c.sync.new.self) (g.D.Disk.history c.write_word.new.self) (g.D.Disk.history c.sync-2.new.self) (g.D.Disk.history c.write_word-2.new.self) (g.D.Disk.history c.sync-3.new.self) (omega (arith, (g.met.D.Disk.told_size c.args.d.now told), c.requires.heads)) (omega (arith, (g.met.D.Disk.told_size c.args.d.now told), c.requires.behind)) words c.requires.aligned c.requires.len_aligned c.requires.short c.word_bytes.result c.word_bytes-2.result c.word_bytes.ensures.bytes c.word_bytes-2.ensures.bytes (c.in_ok-grow.ensures.done told) (c.in_ok-sync.ensures.done told) (c.in_ok-write_word.ensures.done told) (c.in_ok-sync-2.ensures.done told) (c.in_ok-write_word-2.ensures.done told) (c.in_ok-sync-3.ensures.done told)

pub returns-clause-quiet : goal.returns-clause-quiet
returns-clause-quiet g c told =
    quiet_synced _ _ (c.in_ok-sync-3.ensures.done told)
