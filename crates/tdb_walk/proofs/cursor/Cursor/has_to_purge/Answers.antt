-- The header of the record tells whether it is dead.
use Rattle.std.proofs.Common.{sym, ◌∙◌, ap}
use Rattle.tdb_walk.specs.Cursors.{At}
use Rattle.tdb_walk.proofs.Decided.{rested_decided, not_there}
use Rattle.tdb_walk.proofs.Turns.{ok_more}
use Rattle.tdb_walk.proofs.cursor.Cursor.has_to_purge.Goals as goal

pub returns-else-has-clause-decided : goal.returns-else-has-clause-decided
returns-else-has-clause-decided g c =
    ok_more c.is_dead.result (λ due dead told hands A knows.
    rested_decided (g.S.Space.form c.args.s.now) (g.S.Space.image c.args.s.now) hands c.args.own.now c.args.stood_on.now c.args.read_only c.args.self.now c.in-On-Rested.field-0-0 c.in-On-Rested.off
    (ap (λ (a : At). a.place) (sym c.self.view_is) ∙ c.in-On-Rested.is-0) (ap (λ (a : At). a.stage) (sym c.self.view_is) ∙ c.in-On-Rested.is-1)
    (λ stands. not_there c.has.result (c.has.ensures.1 stands) c.if-has.false) (sym c.only_reads.ensures ∙ c.if-only_reads.false) c.if-read_only.false due (dead told) A knows)
    c.is_dead.ensures.dead
