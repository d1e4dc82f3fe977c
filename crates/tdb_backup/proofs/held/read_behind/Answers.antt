-- What was read follows what was held.
use Rattle.std.proofs.Common.{◌-◌, ◌+◌, ◌≡◌, ◌∙◌, ap, length, take, drop, rules}
use Rattle.std.proofs.lemmas.Result.{on_ok_weaker}
use Rattle.tdb_backup.proofs.Bytes.{joined_rest}
use Rattle.tdb_backup.proofs.held.read_behind.Goals as goal

pub returns-clause-shows : goal.returns-clause-shows
returns-clause-shows g c =
    let img = g.S.Space.image c.args.s.now in
    let at = c.args.at in
    let held = c.args.held in
    let end = c.args.end in
    let many : length (take (end - held) (drop held c.args.room.now)) ≡ end - held = search rules in
    let long : length c.read.new.buf ≡ end - held = search rules in
    on_ok_weaker c.read.result
    (λ read told front.
    joined_rest c.args.room.now img c.read.new.buf _ at held end c.requires.held c.requires.end front long (read told ∙ ap (λ n. take n (drop (at + held) img)) many))
    c.read.ensures.bytes
