use Rattle.std.proofs.Common.{subst}
use Rattle.tdb_tool.specs.Asked.{LineIs}
use Rattle.tdb_tool.proofs.LineLemmas.{matched, next_is}
use Rattle.tdb_tool.proofs.asking.next_asked.Goals as goal

pub returns-in_ok-asked_by-in-Ok-Some-clause-is : goal.returns-in_ok-asked_by-in-Ok-Some-clause-is
returns-in_ok-asked_by-in-Ok-Some-clause-is g c =
    let n = matched _ _ c.in-Ok-Some.field-0 c.in-Ok-Some.line c.in-Ok-Some.field-0-is c.in-Ok-Some.ensures.next in
    next_is g.S.Source.tells c.args.reader.now.at _ c.in-Ok-Some.line c.next_line.new.self.at _ c.in_ok-asked_by-in-Ok-Some.field-0 n.0 n.2
    (subst (λ l. LineIs c.args.reader.now.at l c.in_ok-asked_by-in-Ok-Some.field-0) c.as_slice.ensures c.in_ok-asked_by-in-Ok-Some.ensures)
