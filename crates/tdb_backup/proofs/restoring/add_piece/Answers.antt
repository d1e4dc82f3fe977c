-- A piece is read, and then an empty one.
use Rattle.std.proofs.Common.{◌++◌, [], length, append-nil, sym, subst}
use Rattle.std.specs.Prelude.{◌≤◌, ◌<◌, ◌^◌, IsTrue}
use Rattle.std.proofs.lemmas.Result.{on_ok_weaker, IfErr-weaker}
use Rattle.tdb_backup.specs.declared.restoring.TheConstants.{LONGEST_TEXT}
use Rattle.tdb_backup.specs.Building.{HoldsPairs}
use Rattle.tdb_log.specs.Logs.{ToldAll}
use Rattle.tdb_backup.specs.Growths.{growths_of}
use Rattle.tdb_backup.specs.Restoring.{keys_and_values, RestoreCause, TextHeard, WentOn}
use Rattle.tdb_backup.proofs.Inserting.{within_short}
use Rattle.tdb_backup.proofs.Restored.{went_on}
use Rattle.tdb_backup.proofs.restoring.add_piece.Goals as goal

pub add_whole-requires-2-clause-reading : goal.add_whole-requires-2-clause-reading
add_whole-requires-2-clause-reading g c =
    let (text, before, took) = c.requires.reading in
    let w = c.in_ok-add_whole.ensures.added text before took in
    (text ++ c.args.piece.now, before ++ w.pairs, w.took)

pub returns-clause-added : goal.returns-clause-added
returns-clause-added g c = on_ok_weaker c.add_whole-2.result
    (λ later text before took.
    (let f = g.T.Space.form c.args.to.now in
    let a = g.T.Space.image c.args.to.now in
    let b = g.T.Space.image c.add_whole.new.to in
    let d = g.T.Space.image c.add_whole-2.new.to in
    let told = IsTrue g.T.Space.tells × (g.T.Space.size c.args.to.now < 2 ^ 32) in
    let still = IsTrue g.T.Space.tells × (g.T.Space.size c.add_whole.new.to < 2 ^ 32) in
    let w = c.in_ok-add_whole.ensures.added text before took in
    subst (λ t. WentOn c.args.limit told f a d text before t c.add_whole-2.new.reader (g.L.Logs.logs c.args.logs.now) (g.L.Logs.logs c.add_whole-2.new.logs)) (append-nil c.args.piece.now)
    (went_on c.args.limit told still f (g.T.Space.form c.add_whole.new.to) a b d text before c.args.piece.now [] c.add_whole.new.reader c.add_whole-2.new.reader (g.L.Logs.logs c.args.logs.now) (g.L.Logs.logs c.add_whole.new.logs) (g.L.Logs.logs c.add_whole-2.new.logs) c.add_whole.ensures.wrote.form
    (λ t. (t.0, within_short (g.T.Space.size c.args.to.now) (g.T.Space.size c.add_whole.new.to) c.args.limit c.requires.limit c.add_whole.ensures.within t.1)) w (later (text ++ c.args.piece.now) (before ++ w.pairs) w.took))))
    c.add_whole-2.ensures.added

pub returns-clause-refused : goal.returns-clause-refused
returns-clause-refused g c = IfErr-weaker c.add_whole-2.result _ _
    (λ e later text more before took low told first holds.
    (let f = g.T.Space.form c.args.to.now in
    let k = g.T.Space.form c.add_whole.new.to in
    let b = g.T.Space.image c.add_whole.new.to in
    let d = g.T.Space.image c.add_whole-2.new.to in
    let same = c.add_whole.ensures.wrote.form in
    let so_far = text ++ c.args.piece.now in
    let w = c.in_ok-add_whole.ensures.added text before took in
    let there = subst (λ x. HoldsPairs c.args.limit first x b (keys_and_values (before ++ w.pairs))) (sym same) (w.holds told first holds) in
    let cause = later so_far more (before ++ w.pairs) w.took (subst (λ t. length t ≤ LONGEST_TEXT) (sym (append-nil so_far)) low) (told.0, within_short (g.T.Space.size c.args.to.now) (g.T.Space.size c.add_whole.new.to) c.args.limit c.requires.limit c.add_whole.ensures.within told.1) first there in
    subst (λ t. RestoreCause first f d (t ++ more) c.args.limit e) (append-nil so_far) (subst (λ x. RestoreCause first x d ((so_far ++ []) ++ more) c.args.limit e) same cause)))
    c.add_whole-2.ensures.refused

pub returns-clause-heard : goal.returns-clause-heard
returns-clause-heard g c = IfErr-weaker c.add_whole-2.result _ _
    (λ e later text more before took low told first holds start so_far.
    (let f = g.T.Space.form c.args.to.now in
    let k = g.T.Space.form c.add_whole.new.to in
    let b = g.T.Space.image c.add_whole.new.to in
    let mid = g.L.Logs.logs c.add_whole.new.logs in
    let last = g.L.Logs.logs c.add_whole-2.new.logs in
    let same = c.add_whole.ensures.wrote.form in
    let all = text ++ c.args.piece.now in
    let w = c.in_ok-add_whole.ensures.added text before took in
    let there = subst (λ x. HoldsPairs c.args.limit first x b (keys_and_values (before ++ w.pairs))) (sym same) (w.holds told first holds) in
    let told_there = subst (λ x. ToldAll (growths_of c.args.limit x first (keys_and_values (before ++ w.pairs))) start mid) (sym same) (w.heard told first holds start so_far) in
    let heard = later all more (before ++ w.pairs) w.took (subst (λ t. length t ≤ LONGEST_TEXT) (sym (append-nil all)) low) (told.0, within_short (g.T.Space.size c.args.to.now) (g.T.Space.size c.add_whole.new.to) c.args.limit c.requires.limit c.add_whole.ensures.within told.1) first there start told_there in
    subst (λ t. TextHeard c.args.limit f first (t ++ more) start last e) (append-nil all) (subst (λ x. TextHeard c.args.limit x first ((all ++ []) ++ more) start last e) same heard)))
    c.add_whole-2.ensures.heard
