-- An idle opener is given the command; another is not.
use Rattle.std.proofs.Common.{◌∙◌}
use Rattle.std.proofs.lemmas.Result.{err_from_is_err_and}
use Rattle.tdb_world.proofs.Courses.UnreportedGifts.{gift_given, gift_not, gift_wanting}
use Rattle.tdb_world.proofs.course.unreported.give_unreported.Goals as goal

pub give-requires-clause-free : goal.give-requires-clause-free
give-requires-clause-free c = c.standing-standing.ensures.idle c.in-Idle.is

pub returns-in_err-give-clause-led : goal.returns-in_err-give-clause-led
returns-in_err-give-clause-led c =
    let q = err_from_is_err_and c.from_residual.result c.from_residual.ensures.1 in
    rw q.1 (gift_wanting c.args.world.now c.give.new.world c.args.who c.args.command q.0 c.in_err-give.ensures.err (q.2 ∙ c.in_err-give.ensures.memory))

pub returns-in_ok-give-clause-led : goal.returns-in_ok-give-clause-led
returns-in_ok-give-clause-led c = gift_given c.args.world.now c.give.new.world c.args.who c.args.command c.standing-standing.result c.in-Idle.is c.in_ok-give.ensures.gifted

pub returns-in_default-clause-led : goal.returns-in_default-clause-led
returns-in_default-clause-led c =
    let stands = c.standing-standing in
    let W = c.requires.fits in
    gift_not c.args.world.now c.args.world.now c.args.who c.args.command W.0 W.1 W.2 c.requires.named stands.result c.in_default.not-Idle stands.ensures.absent stands.ensures.busy
