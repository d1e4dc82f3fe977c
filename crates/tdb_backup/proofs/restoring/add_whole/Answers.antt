-- The pairs of a piece are added, or the piece or one of them is refused.
use Rattle.std.proofs.Common.{◌++◌, ◌∙◌, Err, sym, ap, subst}
use Rattle.std.specs.List.{All, IsDistinct}
use Rattle.std.specs.Map.{keys_of}
use Rattle.std.proofs.lemmas.Result.{err_from_is_err_and}
use Rattle.tdb_space.specs.Pairs.{same_key}
use Rattle.tdb_log.specs.Logs.{ToldAll}
use Rattle.tdb_backup.specs.Building.{HoldsPairs, BackupRefused, of_added}
use Rattle.tdb_backup.specs.Growths.{CopyHeard, growths_of}
use Rattle.tdb_backup.specs.Restoring.{keys_and_values, IsShort}
use Rattle.tdb_backup.proofs.Restored.{begun_short, begun_distinct, begun_more, pair_heard, pair_refused, text_heard, text_refused}
use Rattle.tdb_backup.proofs.restoring.add_whole.Goals as goal

pub returns-in_err-feed-clause-refused : goal.returns-in_err-feed-clause-refused
returns-in_err-feed-clause-refused g c =
    let q = err_from_is_err_and c.from_residual.result c.from_residual.ensures.1 in
    rw (q.1, q.2)
    (λ text more before took low told first holds.
    text_refused (text ++ c.args.piece.now) more before c.args.limit first (g.T.Space.form c.args.to.now) (begun_more text c.args.piece.now before took.begins) low c.in_err-feed.field-0.0
    (λ at is. c.in_err-feed.ensures.malformed text before at took (ap Err is)) (g.T.Space.image c.args.to.now) holds)

pub returns-in_err-feed-clause-heard : goal.returns-in_err-feed-clause-heard
returns-in_err-feed-clause-heard g c =
    let q = err_from_is_err_and c.from_residual.result c.from_residual.ensures.1 in
    rw (q.1, q.2)
    (λ text more before took low told first holds start so_far.
    text_heard (text ++ c.args.piece.now) more before c.args.limit first (g.T.Space.form c.args.to.now) (begun_more text c.args.piece.now before took.begins) low c.in_err-feed.field-0.0
    (λ at is. c.in_err-feed.ensures.malformed text before at took (ap Err is)) start (g.L.Logs.logs c.args.logs.now) so_far)

pub add_pairs-requires-clause-short : goal.add_pairs-requires-clause-short
add_pairs-requires-clause-short g c =
    let (text, before, took) = c.requires.reading in
    let given = c.in_ok-feed.ensures.given text before took in
    let same = c.deref.ensures.value ∙ c.into_vec-pairs.ensures in
    subst (All IsShort) (sym same) (begun_short (text ++ c.args.piece.now) before c.in_ok-feed.field-0 given.begins)

pub returns-in_err-add_pairs-clause-refused : goal.returns-in_err-add_pairs-clause-refused
returns-in_err-add_pairs-clause-refused g c =
    let q = err_from_is_err_and c.from_residual-in_err-add_pairs.result c.from_residual-in_err-add_pairs.ensures.1 in
    let f = g.T.Space.form c.args.to.now in
    let b = g.T.Space.image c.add_pairs.new.to in
    let pairs = c.in_ok-feed.field-0 in
    let e = c.in_err-add_pairs.field-0.0 in
    let same = c.deref.ensures.value ∙ c.into_vec-pairs.ensures in
    rw (q.1, q.2)
    (λ text more before took low told first holds.
    (let so_far = text ++ c.args.piece.now in
    let given = c.in_ok-feed.ensures.given text before took in
    let distinct = subst (λ ps. IsDistinct same_key (keys_of (keys_and_values (before ++ ps)))) (sym same) (begun_distinct so_far (before ++ pairs) given.begins) in
    pair_refused first f b (so_far ++ more) (before ++ pairs) c.args.limit e (begun_more so_far more (before ++ pairs) given.begins)
    (subst (λ ps. BackupRefused first f b (keys_and_values (before ++ ps)) c.args.limit (of_added e)) same (c.in_err-add_pairs.ensures.refused told.0 told.1 before distinct first holds))))

pub returns-in_err-add_pairs-clause-heard : goal.returns-in_err-add_pairs-clause-heard
returns-in_err-add_pairs-clause-heard g c =
    let q = err_from_is_err_and c.from_residual-in_err-add_pairs.result c.from_residual-in_err-add_pairs.ensures.1 in
    let f = g.T.Space.form c.args.to.now in
    let later = g.L.Logs.logs c.add_pairs.new.logs in
    let pairs = c.in_ok-feed.field-0 in
    let e = c.in_err-add_pairs.field-0.0 in
    let same = c.deref.ensures.value ∙ c.into_vec-pairs.ensures in
    rw (q.1, q.2)
    (λ text more before took low told first holds start so_far.
    (let all = text ++ c.args.piece.now in
    let given = c.in_ok-feed.ensures.given text before took in
    let distinct = subst (λ ps. IsDistinct same_key (keys_of (keys_and_values (before ++ ps)))) (sym same) (begun_distinct all (before ++ pairs) given.begins) in
    pair_heard c.args.limit first f (all ++ more) (before ++ pairs) start later e (begun_more all more (before ++ pairs) given.begins)
    (subst (λ ps. CopyHeard c.args.limit f first (keys_and_values (before ++ ps)) start later (of_added e)) same (c.in_err-add_pairs.ensures.heard told.0 told.1 before distinct first holds start so_far))))

pub returns-clause-added : goal.returns-clause-added
returns-clause-added g c text before took =
    let pairs = c.in_ok-feed.field-0 in
    let same = c.deref.ensures.value ∙ c.into_vec-pairs.ensures in
    let given = c.in_ok-feed.ensures.given text before took in
    let distinct = subst (λ ps. IsDistinct same_key (keys_of (keys_and_values (before ++ ps)))) (sym same) (begun_distinct (text ++ c.args.piece.now) (before ++ pairs) given.begins) in
    record {
      pairs = pairs;
      took = given;
      holds = λ told first holds.
          subst (λ ps. HoldsPairs c.args.limit first (g.T.Space.form c.args.to.now) (g.T.Space.image c.add_pairs.new.to) (keys_and_values (before ++ ps))) same (c.in_ok-add_pairs.ensures.added told.0 told.1 before distinct first holds);
      heard = λ told first holds start so_far.
          subst (λ ps. ToldAll (growths_of c.args.limit (g.T.Space.form c.args.to.now) first (keys_and_values (before ++ ps))) start (g.L.Logs.logs c.add_pairs.new.logs)) same (c.in_ok-add_pairs.ensures.told told.0 told.1 before distinct first holds start so_far);
    }
