-- Each piece is taken behind the text so far.
use Rattle.std.proofs.Common.{◌≡◌, ◌<◌, ◌≤◌, ◌++◌, [], length, take, drop, refl, sym, subst, rules, arith}
use Rattle.std.specs.Prelude.{◌^◌, IsTrue}
use Rattle.std.proofs.lemmas.List.{length-take}
use Rattle.std.proofs.lemmas.Result.{err_from_is_err_and}
use Rattle.tdb_backup.specs.declared.restoring.TheConstants.{LONGEST_TEXT}
use Rattle.tdb_backup.specs.Building.{HoldsPairs}
use Rattle.tdb_log.specs.Logs.{ToldAll}
use Rattle.tdb_backup.specs.Growths.{growths_of}
use Rattle.tdb_backup.specs.Restoring.{keys_and_values, HoldsSome, RestoreCause, TextHeard, ToldSome}
use Rattle.tdb_backup.proofs.Inserting.{within_short}
use Rattle.tdb_backup.proofs.Restored.{holds_given, told_given, went_on, read_on, longer_by, read_all, read_most}
use Rattle.tdb_backup.proofs.restoring.add_text.Goals as goal

pub returns-in_err-count-clause-refused : goal.returns-in_err-count-clause-refused
returns-in_err-count-clause-refused g c =
    let q = err_from_is_err_and c.from_residual.result c.from_residual.ensures.1 in
    rw (q.1, q.2)
    (λ heard told small first holds.
    (let (text, w, count, front) = c.loop-left.invariant.taken in
    let f = g.T.Space.form c.args.to.now in
    let b = g.T.Space.image c.loop-left.to in
    subst (HoldsSome c.args.limit first f b) (sym (front heard)) (holds_given c.args.limit first f b text (g.S.Source.left c.loop-left.input) w.pairs w.took.begins (w.holds (told, small) first holds))))

pub returns-in_err-count-clause-heard : goal.returns-in_err-count-clause-heard
returns-in_err-count-clause-heard g c =
    let q = err_from_is_err_and c.from_residual.result c.from_residual.ensures.1 in
    rw (q.1, q.2)
    (λ heard told small first holds.
    (let (text, w, count, front) = c.loop-left.invariant.taken in
    let f = g.T.Space.form c.args.to.now in
    let logs = g.L.Logs.logs c.args.logs.now in
    let later = g.L.Logs.logs c.loop-left.logs in
    subst (λ t. ToldSome c.args.limit f first t logs later) (sym (front heard)) (told_given c.args.limit first f text (g.S.Source.left c.loop-left.input) w.pairs logs later w.took.begins (w.heard (told, small) first holds logs refl))))

pub returns-then-count-eq0-clause-read : goal.returns-then-count-eq0-clause-read
returns-then-count-eq0-clause-read g c =
    let (text, w, count, front) = c.loop-left.invariant.taken in (
      text,
      w,
      λ heard.
          (let room : 0 < length (take c.min-room.result c.loop-left.piece) = omega (arith, length-take c.min-room.result c.loop-left.piece, c.min-room.ensures, c.loop-left-test.true, c.loop-left.invariant.room) in
          read_all text (g.S.Source.left c.loop-left.input) (g.S.Source.left c.args.input.now) c.loop-left.left (front heard) (c.in_ok-count.ensures.end heard c.if-count-eq0.true room) count),
    )

pub returns-in_err-add_piece-clause-refused : goal.returns-in_err-add_piece-clause-refused
returns-in_err-add_piece-clause-refused g c =
    let q = err_from_is_err_and c.from_residual-in_err-add_piece.result c.from_residual-in_err-add_piece.ensures.1 in
    rw (q.1, q.2)
    (λ heard told small first holds.
    (let (text, w, count, front) = c.loop-left.invariant.taken in
    let v = c.loop-left.invariant in
    let f = g.T.Space.form c.args.to.now in
    let k = g.T.Space.form c.loop-left.to in
    let a = g.T.Space.image c.loop-left.to in
    let b = g.T.Space.image c.add_piece.new.to in
    let n = c.in_ok-count.count in
    let buf = c.read.new.buf in
    let behind = drop c.min-room.result c.loop-left.piece in
    let now = g.S.Source.left c.read.new.self in
    let within : n ≤ length buf = omega (arith, c.in_ok-count.ensures.within, c.read.auto.buf) in
    let few : n ≤ c.loop-left.left = omega (arith, c.in_ok-count.ensures.within, length-take c.min-room.result c.loop-left.piece, c.min-room.ensures) in
    let low : length (text ++ take n (buf ++ behind)) ≤ LONGEST_TEXT = omega (arith, longer_by text buf behind n within, few, count) in
    let there = subst (λ x. HoldsPairs c.args.limit first x a (keys_and_values w.pairs)) (sym v.wrote.form) (w.holds (told, small) first holds) in
    let cause = c.in_err-add_piece.ensures.refused text now w.pairs w.took low (told, within_short (g.T.Space.size c.args.to.now) (g.T.Space.size c.loop-left.to) c.args.limit c.requires.limit v.within small) first there in
    let whole = read_on text (g.S.Source.left c.loop-left.input) (g.S.Source.left c.args.input.now) buf behind now n (front heard) within (c.in_ok-count.ensures.bytes heard) in
    subst (λ t. RestoreCause first f b t c.args.limit c.in_err-add_piece.field-0.0) (sym whole) (subst (λ x. RestoreCause first x b ((text ++ take n (buf ++ behind)) ++ now) c.args.limit c.in_err-add_piece.field-0.0) v.wrote.form cause)))

pub returns-in_err-add_piece-clause-heard : goal.returns-in_err-add_piece-clause-heard
returns-in_err-add_piece-clause-heard g c =
    let q = err_from_is_err_and c.from_residual-in_err-add_piece.result c.from_residual-in_err-add_piece.ensures.1 in
    rw (q.1, q.2)
    (λ heard told small first holds.
    (let (text, w, count, front) = c.loop-left.invariant.taken in
    let v = c.loop-left.invariant in
    let f = g.T.Space.form c.args.to.now in
    let k = g.T.Space.form c.loop-left.to in
    let a = g.T.Space.image c.loop-left.to in
    let e = c.in_err-add_piece.field-0.0 in
    let logs = g.L.Logs.logs c.args.logs.now in
    let between = g.L.Logs.logs c.loop-left.logs in
    let later = g.L.Logs.logs c.add_piece.new.logs in
    let n = c.in_ok-count.count in
    let buf = c.read.new.buf in
    let behind = drop c.min-room.result c.loop-left.piece in
    let now = g.S.Source.left c.read.new.self in
    let within : n ≤ length buf = omega (arith, c.in_ok-count.ensures.within, c.read.auto.buf) in
    let few : n ≤ c.loop-left.left = omega (arith, c.in_ok-count.ensures.within, length-take c.min-room.result c.loop-left.piece, c.min-room.ensures) in
    let low : length (text ++ take n (buf ++ behind)) ≤ LONGEST_TEXT = omega (arith, longer_by text buf behind n within, few, count) in
    let there = subst (λ x. HoldsPairs c.args.limit first x a (keys_and_values w.pairs)) (sym v.wrote.form) (w.holds (told, small) first holds) in
    let told_there = subst (λ x. ToldAll (growths_of c.args.limit x first (keys_and_values w.pairs)) logs between) (sym v.wrote.form) (w.heard (told, small) first holds logs refl) in
    let hears = c.in_err-add_piece.ensures.heard text now w.pairs w.took low (told, within_short (g.T.Space.size c.args.to.now) (g.T.Space.size c.loop-left.to) c.args.limit c.requires.limit v.within small) first there logs told_there in
    let whole = read_on text (g.S.Source.left c.loop-left.input) (g.S.Source.left c.args.input.now) buf behind now n (front heard) within (c.in_ok-count.ensures.bytes heard) in
    subst (λ t. TextHeard c.args.limit f first t logs later e) (sym whole) (subst (λ x. TextHeard c.args.limit x first ((text ++ take n (buf ++ behind)) ++ now) logs later e) v.wrote.form hears)))

pub loop-left-preserved : goal.loop-left-preserved
loop-left-preserved g c =
    let (text, w, count, front) = c.loop-left.invariant.taken in
    let v = c.loop-left.invariant in
    let n = c.in_ok-count.count in
    let buf = c.read.new.buf in
    let behind = drop c.min-room.result c.loop-left.piece in
    let within : n ≤ length buf = omega (arith, c.in_ok-count.ensures.within, c.read.auto.buf) in
    let few : n ≤ c.loop-left.left = omega (arith, c.in_ok-count.ensures.within, length-take c.min-room.result c.loop-left.piece, c.min-room.ensures) in
    let told = IsTrue g.T.Space.tells × (g.T.Space.size c.args.to.now < 2 ^ 32) in
    let still = IsTrue g.T.Space.tells × (g.T.Space.size c.loop-left.to < 2 ^ 32) in
    record {
      taken = (
        text ++ take n (buf ++ behind),
        went_on c.args.limit told still (g.T.Space.form c.args.to.now) (g.T.Space.form c.loop-left.to) (g.T.Space.image c.args.to.now) (g.T.Space.image c.loop-left.to) (g.T.Space.image c.add_piece.new.to) [] [] text (take n (buf ++ behind)) c.loop-left.reader c.add_piece.new.reader
            (g.L.Logs.logs c.args.logs.now) (g.L.Logs.logs c.loop-left.logs) (g.L.Logs.logs c.add_piece.new.logs)
            v.wrote.form (λ t. (t.0, within_short (g.T.Space.size c.args.to.now) (g.T.Space.size c.loop-left.to) c.args.limit c.requires.limit v.within t.1)) w (c.in_ok-add_piece.ensures.added text w.pairs w.took),
        omega (arith, longer_by text buf behind n within, few, count),
        λ heard. read_on text (g.S.Source.left c.loop-left.input) (g.S.Source.left c.args.input.now) buf behind (g.S.Source.left c.read.new.self) n (front heard) within (c.in_ok-count.ensures.bytes heard),
      );
      room = search rules;
      within = omega (arith, v.within, c.add_piece.ensures.within);
      wrote = search rules;
      read_faults = search rules;
      write_faults = search rules;
    }

pub returns-in_err-read-clause-refused : goal.returns-in_err-read-clause-refused
returns-in_err-read-clause-refused g c =
    let q = err_from_is_err_and c.from_residual-in_err-read.result c.from_residual-in_err-read.ensures.1 in
    rw (q.1, q.2)
    (λ heard told small first holds.
    (let (text, w, count, front) = c.loop-left.invariant.taken in
    let f = g.T.Space.form c.args.to.now in
    let b = g.T.Space.image c.loop-left.to in
    subst (HoldsSome c.args.limit first f b) (sym (front heard)) (holds_given c.args.limit first f b text (g.S.Source.left c.loop-left.input) w.pairs w.took.begins (w.holds (told, small) first holds))))

pub returns-in_err-read-clause-heard : goal.returns-in_err-read-clause-heard
returns-in_err-read-clause-heard g c =
    let q = err_from_is_err_and c.from_residual-in_err-read.result c.from_residual-in_err-read.ensures.1 in
    rw (q.1, q.2)
    (λ heard told small first holds.
    (let (text, w, count, front) = c.loop-left.invariant.taken in
    let f = g.T.Space.form c.args.to.now in
    let logs = g.L.Logs.logs c.args.logs.now in
    let later = g.L.Logs.logs c.loop-left.logs in
    subst (λ t. ToldSome c.args.limit f first t logs later) (sym (front heard)) (told_given c.args.limit first f text (g.S.Source.left c.loop-left.input) w.pairs logs later w.took.begins (w.heard (told, small) first holds logs refl))))

pub returns-clause-read : goal.returns-clause-read
returns-clause-read g c =
    let (text, w, count, front) = c.loop-left.invariant.taken in
    let most : length text ≡ LONGEST_TEXT = omega (arith, count, c.loop-left-test.false) in
    let within : c.in_ok-read.field-0 ≤ length c.read-2.new.buf = omega (arith, c.in_ok-read.ensures.within, c.read-2.auto.buf) in (
      text,
      w,
      λ heard.
          (let room : 0 < length (take 1 c.loop-left.piece) = omega (arith, length-take 1 c.loop-left.piece, c.loop-left.invariant.room) in
          read_most text (g.S.Source.left c.loop-left.input) (g.S.Source.left c.args.input.now) c.read-2.new.buf (g.S.Source.left c.read-2.new.self) c.in_ok-read.field-0
          (front heard) most within (c.in_ok-read.ensures.bytes heard) (λ none. c.in_ok-read.ensures.end heard none room)),
    )
