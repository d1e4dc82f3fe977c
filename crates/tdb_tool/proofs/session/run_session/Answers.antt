use Rattle.std.proofs.Common.{length, sym, ◌∙◌, ap}
use Rattle.tdb_disk.specs.History.{seen}
use Rattle.tdb_tool.proofs.Wholes.{session_ran}
use Rattle.tdb_tool.proofs.session.run_session.Goals as goal

pub serve_and_close-answer-requires : goal.serve_and_close-answer-requires
serve_and_close-answer-requires g c = record { unspent = c.requires.unspent }

-- the world was just loaded
pub returns-clause-session : goal.returns-clause-session
returns-clause-session g c told state just =
    rw c.close.ensures.history
    (session_ran g.D.Disk.tells g.I.Source.tells g.K.Sink.tells (g.I.Source.left c.args.input.now) _ _ c.serve_and_close-answer.result c.serve_and_close-answer.ensures.led told state just (c.requires.accepted told) (c.stands.ensures.sized told)
    (ap (λ h. length (seen h)) (sym c.close.ensures.history) ∙ g.met.D.Disk.told_size c.close.result told ∙ c.close.ensures.size))

pub returns-clause-rises : goal.returns-clause-rises
returns-clause-rises g c = rw c.close.ensures.faults c.serve_and_close-answer.ensures.led.2.rises

pub returns-clause-quiet : goal.returns-clause-quiet
returns-clause-quiet g c = rw c.close.ensures.faults c.serve_and_close-answer.ensures.led.2.quiet

pub returns-clause-rose : goal.returns-clause-rose
returns-clause-rose g c told state just = rw c.close.ensures.faults (c.serve_and_close-answer.ensures.led.2.rose told state just.of_world)
