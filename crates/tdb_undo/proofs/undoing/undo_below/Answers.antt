-- What a stop leaves of each step, and the restored file.
use Rattle.std.proofs.Common.{◌+◌, subst, ◌∙◌, ap, arith}
use Rattle.tdb_disk.specs.History.{called, cut, wrote_word, Tried}
use Rattle.tdb_disk.proofs.Runs.{quiet_synced}
use Rattle.tdb_space.specs.Form.{form_in}
use Rattle.tdb_undo.proofs.Whole.{same_old}
use Rattle.tdb_undo.proofs.Lows.{low_one, low_two, low_three, low_four, low_five, low_seen}
use Rattle.tdb_undo.proofs.undoing.undo_below.Goals as goal

pub returns-in_err-sync-clause-stops : goal.returns-in_err-sync-clause-stops
returns-in_err-sync-clause-stops g c told a u is words all written =
    low_one (form_in c.args.h.now) a u (omega (arith, c.requires.below, is.there, same_old (form_in c.args.h.now) a c.args.area.now is)) (g.D.Disk.history c.args.d.now) (g.D.Disk.history c.sync.new.self) (g.D.Disk.history c.sync.new.self) (g.D.Disk.history c.sync.new.self) (g.D.Disk.history c.sync.new.self) (g.D.Disk.history c.sync.new.self) all c.sync.ensures.tried

pub returns-in_err-cut-clause-stops : goal.returns-in_err-cut-clause-stops
returns-in_err-cut-clause-stops g c told a u is words all written =
    low_two (form_in c.args.h.now) a u (omega (arith, c.requires.below, is.there, same_old (form_in c.args.h.now) a c.args.area.now is)) (g.D.Disk.history c.args.d.now) (g.D.Disk.history c.sync.new.self) (g.D.Disk.history c.cut.new.self) (g.D.Disk.history c.cut.new.self) (g.D.Disk.history c.cut.new.self) (g.D.Disk.history c.cut.new.self) all words (c.in_ok-sync.ensures.done told) (subst (λ n. Tried (cut n) (g.D.Disk.history c.sync.new.self) (g.D.Disk.history c.cut.new.self)) (same_old (form_in c.args.h.now) a c.args.area.now is) c.cut.ensures.tried)

pub returns-in_err-sync-2-clause-stops : goal.returns-in_err-sync-2-clause-stops
returns-in_err-sync-2-clause-stops g c told a u is words all written =
    low_three (form_in c.args.h.now) a u (omega (arith, c.requires.below, is.there, same_old (form_in c.args.h.now) a c.args.area.now is)) (g.D.Disk.history c.args.d.now) (g.D.Disk.history c.sync.new.self) (g.D.Disk.history c.cut.new.self) (g.D.Disk.history c.sync-2.new.self) (g.D.Disk.history c.sync-2.new.self) (g.D.Disk.history c.sync-2.new.self) all words (c.in_ok-sync.ensures.done told) (c.in_ok-cut.ensures.done told ∙ ap (λ n. called (g.D.Disk.history c.sync.new.self) (cut n)) (same_old (form_in c.args.h.now) a c.args.area.now is)) c.sync-2.ensures.tried

pub returns-in_err-write_word-clause-stops : goal.returns-in_err-write_word-clause-stops
returns-in_err-write_word-clause-stops g c told a u is words all written =
    low_four (form_in c.args.h.now) a u (omega (arith, c.requires.below, is.there, same_old (form_in c.args.h.now) a c.args.area.now is)) (g.D.Disk.history c.args.d.now) (g.D.Disk.history c.sync.new.self) (g.D.Disk.history c.cut.new.self) (g.D.Disk.history c.sync-2.new.self) (g.D.Disk.history c.write_word.new.self) (g.D.Disk.history c.write_word.new.self) all words written c.word_bytes.result c.word_bytes.ensures.bytes (c.in_ok-sync.ensures.done told) (c.in_ok-cut.ensures.done told ∙ ap (λ n. called (g.D.Disk.history c.sync.new.self) (cut n)) (same_old (form_in c.args.h.now) a c.args.area.now is)) (c.in_ok-sync-2.ensures.done told) (subst (λ p. Tried (wrote_word (p + 20) c.word_bytes.result) (g.D.Disk.history c.sync-2.new.self) (g.D.Disk.history c.write_word.new.self)) is.there c.write_word.ensures.tried)

pub returns-in_err-sync-3-clause-stops : goal.returns-in_err-sync-3-clause-stops
returns-in_err-sync-3-clause-stops g c told a u is words all written =
    low_five (form_in c.args.h.now) a u (omega (arith, c.requires.below, is.there, same_old (form_in c.args.h.now) a c.args.area.now is)) (g.D.Disk.history c.args.d.now) (g.D.Disk.history c.sync.new.self) (g.D.Disk.history c.cut.new.self) (g.D.Disk.history c.sync-2.new.self) (g.D.Disk.history c.write_word.new.self) (g.D.Disk.history c.sync-3.new.self) all words written c.word_bytes.result c.word_bytes.ensures.bytes (c.in_ok-sync.ensures.done told) (c.in_ok-cut.ensures.done told ∙ ap (λ n. called (g.D.Disk.history c.sync.new.self) (cut n)) (same_old (form_in c.args.h.now) a c.args.area.now is)) (c.in_ok-sync-2.ensures.done told) (c.in_ok-write_word.ensures.done told ∙ ap (λ p. called (g.D.Disk.history c.sync-2.new.self) (wrote_word (p + 20) c.word_bytes.result)) is.there) c.sync-3.ensures.tried

pub returns-clause-stops : goal.returns-clause-stops
returns-clause-stops g c told a u is words all written =
    low_five (form_in c.args.h.now) a u (omega (arith, c.requires.below, is.there, same_old (form_in c.args.h.now) a c.args.area.now is)) (g.D.Disk.history c.args.d.now) (g.D.Disk.history c.sync.new.self) (g.D.Disk.history c.cut.new.self) (g.D.Disk.history c.sync-2.new.self) (g.D.Disk.history c.write_word.new.self) (g.D.Disk.history c.sync-3.new.self) all words written c.word_bytes.result c.word_bytes.ensures.bytes (c.in_ok-sync.ensures.done told) (c.in_ok-cut.ensures.done told ∙ ap (λ n. called (g.D.Disk.history c.sync.new.self) (cut n)) (same_old (form_in c.args.h.now) a c.args.area.now is)) (c.in_ok-sync-2.ensures.done told) (c.in_ok-write_word.ensures.done told ∙ ap (λ p. called (g.D.Disk.history c.sync-2.new.self) (wrote_word (p + 20) c.word_bytes.result)) is.there) c.sync-3.ensures.tried

pub returns-clause-restored : goal.returns-clause-restored
returns-clause-restored g c told a u is written =
    low_seen (form_in c.args.h.now) a u (omega (arith, c.requires.below, is.there, same_old (form_in c.args.h.now) a c.args.area.now is)) (g.D.Disk.history c.args.d.now) (g.D.Disk.history c.sync.new.self) (g.D.Disk.history c.cut.new.self) (g.D.Disk.history c.sync-2.new.self) (g.D.Disk.history c.write_word.new.self) (g.D.Disk.history c.sync-3.new.self) written c.word_bytes.result c.word_bytes.ensures.bytes (c.in_ok-sync.ensures.done told) (c.in_ok-cut.ensures.done told ∙ ap (λ n. called (g.D.Disk.history c.sync.new.self) (cut n)) (same_old (form_in c.args.h.now) a c.args.area.now is)) (c.in_ok-sync-2.ensures.done told) (c.in_ok-write_word.ensures.done told ∙ ap (λ p. called (g.D.Disk.history c.sync-2.new.self) (wrote_word (p + 20) c.word_bytes.result)) is.there) (c.in_ok-sync-3.ensures.done told)

pub returns-clause-quiet : goal.returns-clause-quiet
returns-clause-quiet g c told =
    quiet_synced _ _ (c.in_ok-sync-3.ensures.done told)
