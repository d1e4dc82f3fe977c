-- What was held stands in the room that got longer, and what was read follows it.
use Rattle.std.proofs.Common.{◌≡◌, ◌++◌, length, take, drop, ◌∙◌, ap, arith, rules}
use Rattle.std.proofs.Math.Seq.{take-append_seam}
use Rattle.tdb_backup.proofs.Bytes.{kept_front}
use Rattle.tdb_backup.proofs.held.read_up_to.Goals as goal

pub returns-in_ok-read_behind-clause-shows : goal.returns-in_ok-read_behind-clause-shows
returns-in_ok-read_behind-clause-shows g c told front =
    let img = g.S.Space.image c.args.s.now in
    let new = c.lengthen.new.room in
    let room = c.read_behind.new.room in
    let long : new.len ≡ length room = search rules in
    let whole = ap (λ n. take n (room ++ drop (length room) new.items)) long ∙ take-append_seam room (drop (length room) new.items) in
    let before = kept_front c.args.room.now.items new.items img c.args.at c.args.held c.args.held c.lengthen.ensures.kept (omega arith) c.requires.held front in
    ap (take c.args.end) whole ∙ c.in_ok-read_behind.ensures.shows told (ap (take c.args.held) c.deref_mut.ensures.value ∙ before)

-- all of it was held
pub returns-else-held-end-clause-shows : goal.returns-else-held-end-clause-shows
returns-else-held-end-clause-shows g c told front =
    kept_front c.args.room.now.items c.lengthen.new.room.items (g.S.Space.image c.args.s.now) c.args.at c.args.end c.args.held c.lengthen.ensures.kept (omega (arith, c.if-held-end.false)) c.requires.held front
