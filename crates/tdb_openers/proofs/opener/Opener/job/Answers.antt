-- A command that the opener's own state refuses has its reply.
use Rattle.std.proofs.Common.{◌≡◌, Option, Some, None, refl, sym, ◌∙◌, ap}
use Rattle.std.specs.Option.{option_map}
use Rattle.tdb_space.specs.Form.{Form, form_in}
use Rattle.tdb_locks.specs.declared.turn.Reply.{Reply}
use Rattle.tdb_law.specs.Commands.{Command}
use Rattle.tdb_law.specs.Openers.{Own}
use Rattle.tdb_law.specs.Refusals.{Refusal, refusal, says}
use Rattle.tdb_commands.specs.InLaw.{law_command, law_reply}
use Rattle.tdb_openers.specs.Openers.{own_of, IsRefused}
use Rattle.tdb_openers.specs.Openers.IsRefused.{refuses}
use Rattle.tdb_openers.proofs.Joining.Beginning.{untold, served_granted}
use Rattle.tdb_openers.proofs.opener.Opener.job.Goals as goal

told_why : (f : Form) (x : Own) (c : Command) (reply : Reply) (q : Option Refusal) → refusal f c x ≡ q → Some (law_reply reply) ≡ option_map (says x) q → IsRefused f x c (law_reply reply)
told_why f x c reply None is e = absurd (cc e)
told_why f x c reply (Some why) is e = refuses why is (let same : law_reply reply ≡ says x why = cc in same)

pub returns-in-Some-clause-stands : goal.returns-in-Some-clause-stands
returns-in-Some-clause-stands c size =
    let f = form_in c.args.header.now in
    let x = own_of c.args.options.now c.args.self.now in
    (refl, told_why f x (law_command c.args.command) c.in-Some.reply (refusal f (law_command c.args.command) x) refl (ap (option_map law_reply) (sym c.in-Some.is) ∙ c.refusal.ensures))

pub job_of-requires-clause-served : goal.job_of-requires-clause-served
job_of-requires-clause-served c =
    let f = form_in c.args.header.now in
    let x = own_of c.args.options.now c.args.self.now in
    served_granted f x c.args.command refl (untold x c.refusal.result (refusal f (law_command c.args.command) x) c.in-None.is c.refusal.ensures) c.requires.begun
