use Rattle.std.proofs.Common.{Some}
use Rattle.std.proofs.lemmas.Bool.{and_parts}
use Rattle.tdb_disk.specs.History.{seen}
use Rattle.tdb_dump.specs.declared.listing.Listing.TheVariants.{Pairs}
use Rattle.tdb_cmdline.specs.declared.look.Look.TheVariants.{Dump}
use Rattle.tdb_answer.specs.Commands.Dump.{pairs_text}
use Rattle.tdb_answer.specs.Looks.{LookText, StandsBefore, ending_of}
use Rattle.tdb_answer.proofs.Looking.{began_as, dump_ends}
use Rattle.tdb_answer.proofs.look.look_into.Goals as goal

-- a dump ends as its printing does
pub returns-in-Dump-clause-ends : goal.returns-in-Dump-clause-ends
returns-in-Dump-clause-ends g c told =
    rw c.in-Dump.is (dump_ends (seen (g.D.Disk.history c.args.disk.now)) (ending_of c.print_opened.result) (c.requires.can_read told) c.print_opened.ensures.ends)

-- and has written what that has
pub returns-in-Dump-clause-began : goal.returns-in-Dump-clause-began
returns-in-Dump-clause-began g c =
    let h = g.D.Disk.history c.args.disk.now in
    rw c.in-Dump.is
    (λ both.
    (let parts = and_parts g.K.Sink.tells g.D.Disk.tells both in
    began_as (StandsBefore (pairs_text Pairs (seen h))) (LookText Dump (Some h)) (g.K.Sink.written c.args.output.now) (g.K.Sink.written c.print_opened.new.output) c.print_opened.result (λ e text stands. stands) (c.print_opened.ensures.began parts.1 parts.0)))
