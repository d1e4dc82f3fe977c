-- The next command was given to its opener, or memory was wanting.
use Rattle.std.proofs.Common.{◌∷◌, ◌∙◌, [], Ok, refl, ap, subst}
use Rattle.std.proofs.lemmas.Result.{err_from_is_err_and}
use Rattle.tdb_commands.specs.declared.play.Play.TheVariants.{Give}
use Rattle.tdb_world.specs.OverFile.{OverFile}
use Rattle.tdb_gen.specs.Plays.{gift}
use Rattle.tdb_gen.specs.Taking.{of_run, TakenUncounted}
use Rattle.tdb_gen.proofs.Gifting.{any_not, gift_taken}
use Rattle.tdb_gen.proofs.group.give_next.Goals as goal

pub returns-in_err-command-clause-taken : goal.returns-in_err-command-clause-taken
returns-in_err-command-clause-taken g c seed from =
    let q = err_from_is_err_and c.from_residual.result c.from_residual.ensures.1 in
    rw (q.1, q.2) (any_not g.D.Disk.tells c.args.world.now c.args.world.now (gift seed c.args.generator.now.index ∷ []) c.requires.unspent refl)

pub returns-in_err-give_unreported-clause-taken : goal.returns-in_err-give_unreported-clause-taken
returns-in_err-give_unreported-clause-taken g c seed from =
    let q = err_from_is_err_and c.from_residual-in_err-give_unreported.result c.from_residual-in_err-give_unreported.ensures.1 in
    rw (q.1, q.2 ∙ ap of_run c.in_err-give_unreported.ensures.fault) (any_not g.D.Disk.tells c.args.world.now c.give_unreported.new.self (gift seed c.args.generator.now.index ∷ []) c.requires.unspent c.in_err-give_unreported.ensures.err)

pub returns-clause-taken : goal.returns-clause-taken
returns-clause-taken g c seed from =
    subst (λ play. TakenUncounted g.D.Disk.tells c.args.world.now c.give_unreported.new.self (play ∷ []) (Ok tt)) (λ j. Give (c.owner-who.ensures j) (c.in_ok-command.ensures.made seed from j))
    (gift_taken g.D.Disk.tells c.args.world.now c.give_unreported.new.self c.owner-who.result c.in_ok-command.command c.in_ok-give_unreported.field-0
    (ap (λ (w : OverFile). w.spent) c.give_unreported.ensures.memory.file ∙ c.requires.unspent) c.in_ok-give_unreported.ensures.led)
