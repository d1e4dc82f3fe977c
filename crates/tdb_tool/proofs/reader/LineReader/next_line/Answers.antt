use Rattle.std.proofs.Common.{sym, ◌∙◌, ◌++◌}
use Rattle.std.proofs.lemmas.Bool.{false≢true}
use Rattle.tdb_tool.specs.Lines.{unread}
use Rattle.tdb_tool.proofs.LineLemmas.{unfit}
use Rattle.tdb_tool.proofs.reader.LineReader.next_line.Goals as goal

-- the line is too long
pub returns-then-not-fits-clause-long : goal.returns-then-not-fits-clause-long
returns-then-not-fits-clause-long g c is told =
    unfit (unread c.args.self.now ++ g.S.Source.left c.args.input.now) c.read_line.new.line _ c.args.self.now.at c.read_line.new.self.at c.args.self.now.over c.if-self.false
    (c.in_ok-read_line.ensures.first told) c.read_line.ensures.place (λ fits. false≢true (sym c.if-not-fits.true ∙ c.fits.ensures.1 fits))
