-- The word at 44, and the cut.
use Rattle.std.proofs.Common.{◌+◌, [], ◌∷◌, sym, subst, ◌∙◌, ap}
use Rattle.tdb_disk.specs.History.{called, cut, Tried}
use Rattle.tdb_disk.proofs.Runs.{quiet_synced}
use Rattle.tdb_space.specs.Form.{form_in}
use Rattle.tdb_undo.proofs.Empties.{zero_word, drop_one, drop_two, drop_three, drop_four, drop_seen}
use Rattle.tdb_undo.proofs.emptying.drop_area.Goals as goal

pub returns-in_err-write_word-clause-stops : goal.returns-in_err-write_word-clause-stops
returns-in_err-write_word-clause-stops g c told quiet r is_long words b t zero =
    drop_one (form_in c.args.h.now) r c.args.area.now.at (c.args.area.now.at + 24 + c.args.area.now.header.rec_len) b (g.D.Disk.history c.args.d.now) (g.D.Disk.history c.write_word.new.self) (g.D.Disk.history c.write_word.new.self) (g.D.Disk.history c.write_word.new.self) (g.D.Disk.history c.write_word.new.self) quiet t zero (0 ∷ 0 ∷ 0 ∷ 0 ∷ []) (zero_word c.args.h.now.order) c.write_word.ensures.tried

pub returns-in_err-sync-clause-stops : goal.returns-in_err-sync-clause-stops
returns-in_err-sync-clause-stops g c told quiet r is_long words b t zero =
    drop_two (form_in c.args.h.now) r c.args.area.now.at (c.args.area.now.at + 24 + c.args.area.now.header.rec_len) b (g.D.Disk.history c.args.d.now) (g.D.Disk.history c.write_word.new.self) (g.D.Disk.history c.sync.new.self) (g.D.Disk.history c.sync.new.self) (g.D.Disk.history c.sync.new.self) quiet t zero (0 ∷ 0 ∷ 0 ∷ 0 ∷ []) (zero_word c.args.h.now.order) (c.in_ok-write_word.ensures.done told) c.sync.ensures.tried

pub returns-in_err-cut-clause-stops : goal.returns-in_err-cut-clause-stops
returns-in_err-cut-clause-stops g c told quiet r is_long words b t zero =
    drop_three (form_in c.args.h.now) r c.args.area.now.at (c.args.area.now.at + 24 + c.args.area.now.header.rec_len) b (g.D.Disk.history c.args.d.now) (g.D.Disk.history c.write_word.new.self) (g.D.Disk.history c.sync.new.self) (g.D.Disk.history c.cut.new.self) (g.D.Disk.history c.cut.new.self) quiet t zero (0 ∷ 0 ∷ 0 ∷ 0 ∷ []) (zero_word c.args.h.now.order) words (c.in_ok-write_word.ensures.done told) (c.in_ok-sync.ensures.done told) (subst (λ n. Tried (cut n) (g.D.Disk.history c.sync.new.self) (g.D.Disk.history c.cut.new.self)) (sym is_long) c.cut.ensures.tried)

pub returns-in_err-sync-2-clause-stops : goal.returns-in_err-sync-2-clause-stops
returns-in_err-sync-2-clause-stops g c told quiet r is_long words b t zero =
    drop_four (form_in c.args.h.now) r c.args.area.now.at (c.args.area.now.at + 24 + c.args.area.now.header.rec_len) b (g.D.Disk.history c.args.d.now) (g.D.Disk.history c.write_word.new.self) (g.D.Disk.history c.sync.new.self) (g.D.Disk.history c.cut.new.self) (g.D.Disk.history c.sync-2.new.self) quiet t zero (0 ∷ 0 ∷ 0 ∷ 0 ∷ []) (zero_word c.args.h.now.order) words (c.in_ok-write_word.ensures.done told) (c.in_ok-sync.ensures.done told) (c.in_ok-cut.ensures.done told ∙ ap (λ n. called (g.D.Disk.history c.sync.new.self) (cut n)) (sym is_long)) c.sync-2.ensures.tried

pub returns-clause-stops : goal.returns-clause-stops
returns-clause-stops g c told quiet r is_long words b t zero =
    drop_four (form_in c.args.h.now) r c.args.area.now.at (c.args.area.now.at + 24 + c.args.area.now.header.rec_len) b (g.D.Disk.history c.args.d.now) (g.D.Disk.history c.write_word.new.self) (g.D.Disk.history c.sync.new.self) (g.D.Disk.history c.cut.new.self) (g.D.Disk.history c.sync-2.new.self) quiet t zero (0 ∷ 0 ∷ 0 ∷ 0 ∷ []) (zero_word c.args.h.now.order) words (c.in_ok-write_word.ensures.done told) (c.in_ok-sync.ensures.done told) (c.in_ok-cut.ensures.done told ∙ ap (λ n. called (g.D.Disk.history c.sync.new.self) (cut n)) (sym is_long)) c.sync-2.ensures.tried

pub returns-clause-restored : goal.returns-clause-restored
returns-clause-restored g c told r is_long none b t zero =
    drop_seen (form_in c.args.h.now) r c.args.area.now.at (c.args.area.now.at + 24 + c.args.area.now.header.rec_len) b (g.D.Disk.history c.args.d.now) (g.D.Disk.history c.write_word.new.self) (g.D.Disk.history c.sync.new.self) (g.D.Disk.history c.cut.new.self) (g.D.Disk.history c.sync-2.new.self) t zero (0 ∷ 0 ∷ 0 ∷ 0 ∷ []) (zero_word c.args.h.now.order) none (c.in_ok-write_word.ensures.done told) (c.in_ok-sync.ensures.done told) (c.in_ok-cut.ensures.done told ∙ ap (λ n. called (g.D.Disk.history c.sync.new.self) (cut n)) (sym is_long)) (c.in_ok-sync-2.ensures.done told)

pub returns-clause-quiet : goal.returns-clause-quiet
returns-clause-quiet g c told =
    quiet_synced _ _ (c.in_ok-sync-2.ensures.done told)
