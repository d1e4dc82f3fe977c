-- The number behind the last is that of the next command.
use Rattle.std.proofs.Common.{◌∙◌, ap, sym}
use Rattle.std.proofs.lemmas.Result.{IfOk-weaker}
use Rattle.tdb_gen.specs.Numbers.{next_number}
use Rattle.tdb_gen.specs.Commands.{command_of}
use Rattle.tdb_gen.proofs.Numbering.{iterate_more}
use Rattle.tdb_gen.proofs.generator.Generator.next_command.Goals as goal

pub returns-clause-from : goal.returns-clause-from
returns-clause-from c seed from = c.number_behind-self.ensures ∙ ap next_number from ∙ sym (iterate_more next_number c.args.self.now.index seed)

pub returns-clause-made : goal.returns-clause-made
returns-clause-made c =
    IfOk-weaker c.command.result _ _
    (λ command made seed from. made ∙ ap command_of (c.number_behind-self.ensures ∙ ap next_number from ∙ sym (iterate_more next_number c.args.self.now.index seed)))
    c.command.ensures.made
