-- The opener has a command already, or there is no room for a Start, or a gate stands open, or it has the command now.
use Rattle.std.proofs.Common.{◌≡◌, Bool, true, false, not, refl, sym, ◌∙◌, subst}
use Rattle.tdb_law.proofs.Tests.{from_not, never_true}
use Rattle.tdb_commands.specs.InLaw.{law_command}
use Rattle.tdb_group.specs.Turns.{NotGiven}
use Rattle.tdb_group.proofs.Gifts.{never_busy, no_room, stale_given, was_given}
use Rattle.tdb_group.proofs.turns.give.Goals as goal

not_false : (b : Bool) → not b ≡ false → b ≡ true
not_false true e = refl
not_false false e = absurd (never_true (sym e))

pub returns-then-not-is_idle-clause-not_given : goal.returns-then-not-is_idle-clause-not_given
returns-then-not-is_idle-clause-not_given g c e =
    never_busy g.D.Disk.tells (law_command c.args.command) c.args.world.now (c.stands.ensures.fits c.requires.unspent) (c.is_idle.ensures.no c.if-not-is_idle.true)

pub assign-requires-clause-idle : goal.assign-requires-clause-idle
assign-requires-clause-idle g c = c.is_idle.ensures.yes c.if-not-is_idle.false

pub returns-in-Ok-clause-given : goal.returns-in-Ok-clause-given
returns-in-Ok-clause-given g c told = was_given g.D.Disk.tells c.args.command c.args.world.now c.assign.new.self c.in-Ok.ensures.given (sym c.is_stale.ensures ∙ from_not c.is_stale.result told)

pub returns-in-Ok-clause-not_given : goal.returns-in-Ok-clause-not_given
returns-in-Ok-clause-not_given g c e = stale_given g.D.Disk.tells c.args.command c.args.world.now c.assign.new.self c.in-Ok.ensures.given (sym c.is_stale.ensures ∙ not_false c.is_stale.result e)

pub returns-in-Err-clause-not_given : goal.returns-in-Err-clause-not_given
returns-in-Err-clause-not_given g c e =
    subst (λ z. NotGiven g.D.Disk.tells (law_command c.args.command) c.args.world.now z) (sym c.in-Err.ensures.err) (no_room g.D.Disk.tells c.args.command c.args.world.now c.in-Err.ensures.full)
