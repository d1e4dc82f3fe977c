-- What a stop leaves of each step, and the area behind the restored file.
use Rattle.std.proofs.Common.{◌+◌, subst, ◌∙◌, ap, arith}
use Rattle.tdb_disk.specs.History.{called, wrote_word, Tried}
use Rattle.tdb_disk.proofs.Runs.{quiet_synced}
use Rattle.tdb_space.specs.Form.{form_in}
use Rattle.tdb_undo.proofs.Whole.{same_old}
use Rattle.tdb_undo.proofs.Highs.{high_one, high_two, high_three, high_four, high_shut}
use Rattle.tdb_undo.proofs.undoing.shut_behind.Goals as goal

pub returns-in_err-blank_past-clause-stops : goal.returns-in_err-blank_past-clause-stops
returns-in_err-blank_past-clause-stops g c told a long sized u is all written =
    high_one (form_in c.args.h.now) a u (omega (arith, c.requires.behind, is.there, same_old (form_in c.args.h.now) a c.args.area.now is)) sized c.args.area.now is c.args.len long (g.D.Disk.history c.args.d.now) (g.D.Disk.history c.blank_past.new.d) (g.D.Disk.history c.blank_past.new.d) (g.D.Disk.history c.blank_past.new.d) (g.D.Disk.history c.blank_past.new.d) all (c.blank_past.ensures.stops told)

pub returns-in_err-sync-clause-stops : goal.returns-in_err-sync-clause-stops
returns-in_err-sync-clause-stops g c told a long sized u is all written =
    high_two (form_in c.args.h.now) a u (omega (arith, c.requires.behind, is.there, same_old (form_in c.args.h.now) a c.args.area.now is)) sized c.args.area.now is c.args.len long (g.D.Disk.history c.args.d.now) (g.D.Disk.history c.blank_past.new.d) (g.D.Disk.history c.sync.new.self) (g.D.Disk.history c.sync.new.self) (g.D.Disk.history c.sync.new.self) all (c.blank_past.ensures.stops told) c.sync.ensures.tried

pub returns-in_err-write_word-clause-stops : goal.returns-in_err-write_word-clause-stops
returns-in_err-write_word-clause-stops g c told a long sized u is all written =
    high_three (form_in c.args.h.now) a u (omega (arith, c.requires.behind, is.there, same_old (form_in c.args.h.now) a c.args.area.now is)) sized c.args.area.now is c.args.len long (g.D.Disk.history c.args.d.now) (g.D.Disk.history c.blank_past.new.d) (g.D.Disk.history c.sync.new.self) (g.D.Disk.history c.write_word.new.self) (g.D.Disk.history c.write_word.new.self) all written c.word_bytes.result c.word_bytes.ensures.bytes (c.blank_past.ensures.stops told) (c.in_ok-blank_past.ensures.put told) (c.in_ok-sync.ensures.done told) (subst (λ p. Tried (wrote_word (p + 20) c.word_bytes.result) (g.D.Disk.history c.sync.new.self) (g.D.Disk.history c.write_word.new.self)) is.there c.write_word.ensures.tried)

pub returns-in_err-sync-2-clause-stops : goal.returns-in_err-sync-2-clause-stops
returns-in_err-sync-2-clause-stops g c told a long sized u is all written =
    high_four (form_in c.args.h.now) a u (omega (arith, c.requires.behind, is.there, same_old (form_in c.args.h.now) a c.args.area.now is)) sized c.args.area.now is c.args.len long (g.D.Disk.history c.args.d.now) (g.D.Disk.history c.blank_past.new.d) (g.D.Disk.history c.sync.new.self) (g.D.Disk.history c.write_word.new.self) (g.D.Disk.history c.sync-2.new.self) all written c.word_bytes.result c.word_bytes.ensures.bytes (c.blank_past.ensures.stops told) (c.in_ok-blank_past.ensures.put told) (c.in_ok-sync.ensures.done told) (c.in_ok-write_word.ensures.done told ∙ ap (λ p. called (g.D.Disk.history c.sync.new.self) (wrote_word (p + 20) c.word_bytes.result)) is.there) c.sync-2.ensures.tried

pub returns-clause-stops : goal.returns-clause-stops
returns-clause-stops g c told a long sized u is all written =
    high_four (form_in c.args.h.now) a u (omega (arith, c.requires.behind, is.there, same_old (form_in c.args.h.now) a c.args.area.now is)) sized c.args.area.now is c.args.len long (g.D.Disk.history c.args.d.now) (g.D.Disk.history c.blank_past.new.d) (g.D.Disk.history c.sync.new.self) (g.D.Disk.history c.write_word.new.self) (g.D.Disk.history c.sync-2.new.self) all written c.word_bytes.result c.word_bytes.ensures.bytes (c.blank_past.ensures.stops told) (c.in_ok-blank_past.ensures.put told) (c.in_ok-sync.ensures.done told) (c.in_ok-write_word.ensures.done told ∙ ap (λ p. called (g.D.Disk.history c.sync.new.self) (wrote_word (p + 20) c.word_bytes.result)) is.there) c.sync-2.ensures.tried

pub returns-clause-shut : goal.returns-clause-shut
returns-clause-shut g c told a long sized u is written =
    high_shut (form_in c.args.h.now) a u (omega (arith, c.requires.behind, is.there, same_old (form_in c.args.h.now) a c.args.area.now is)) sized c.args.area.now is c.args.len long (g.D.Disk.history c.args.d.now) (g.D.Disk.history c.blank_past.new.d) (g.D.Disk.history c.sync.new.self) (g.D.Disk.history c.write_word.new.self) (g.D.Disk.history c.sync-2.new.self) written c.word_bytes.result c.word_bytes.ensures.bytes (c.in_ok-blank_past.ensures.put told) (c.in_ok-sync.ensures.done told) (c.in_ok-write_word.ensures.done told ∙ ap (λ p. called (g.D.Disk.history c.sync.new.self) (wrote_word (p + 20) c.word_bytes.result)) is.there) (c.in_ok-sync-2.ensures.done told)

pub returns-clause-quiet : goal.returns-clause-quiet
returns-clause-quiet g c told =
    quiet_synced _ _ (c.in_ok-sync-2.ensures.done told)
