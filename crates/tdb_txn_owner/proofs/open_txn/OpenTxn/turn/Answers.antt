-- A command is refused, or done by what does it.
use Rattle.std.proofs.Common.{◌≡◌, None, Some, refl, sym, ◌∙◌, ap, subst}
use Rattle.std.specs.Option.{option_map}
use Rattle.tdb_disk.specs.History.{seen}
use Rattle.tdb_space.specs.Form.{form_in}
use Rattle.tdb_law.specs.Commands as Law
use Rattle.tdb_law.specs.Refusals.{refusal}
use Rattle.tdb_commands.specs.InLaw.{law_command, law_reply}
use Rattle.tdb_commands.specs.declared.command.Command.TheVariants as Given
use Rattle.tdb_txn_owner.specs.Given.{IsInside, IsMapped}
use Rattle.tdb_txn_owner.specs.Open.{GoesOn}
use Rattle.tdb_txn_owner.proofs.Opened.{goes_as, prepare_still, refused_still, stays_open, told_none, told_why, weaker}
use Rattle.tdb_txn_owner.proofs.open_txn.OpenTxn.turn.Goals as goal

pub returns-in-Commit-clause-turned : goal.returns-in-Commit-clause-turned
returns-in-Commit-clause-turned g c told x H Rest M =
    let base = seen (g.D.Disk.history c.args.d.now) in
    goes_as c.args.options.now c.args.self.now c.commit_inner.new.self base x c.args.command Given.Commit (law_reply c.commit_inner.result) c.in-Commit.is (c.commit_inner.ensures.turned c.args.options.now base x H)

pub returns-in-Prepare-clause-turned : goal.returns-in-Prepare-clause-turned
returns-in-Prepare-clause-turned g c told x H Rest M =
    let base = seen (g.D.Disk.history c.args.d.now) in
    let t = c.args.self.now in
    goes_as c.args.options.now t t base x c.args.command Given.Prepare Law.Reply.Done c.in-Prepare.is
    (prepare_still c.args.options.now t base x H (subst (λ k. IsInside k t.own.txn.depth) c.in-Prepare.is c.requires.inside))

pub returns-in-Some-clause-turned : goal.returns-in-Some-clause-turned
returns-in-Some-clause-turned g c told x H Rest M =
    let o = c.args.options.now in
    let base = seen (g.D.Disk.history c.args.d.now) in
    let t = c.args.self.now in
    let f = form_in c.args.header.now in
    let command = law_command c.args.command in
    let why = told_why f x command c.in-Some.reply (refusal f command x) refl (ap (option_map law_reply) (sym c.in-Some.is) ∙ c.refusal.ensures base x H) in
    subst (GoesOn o t t base x command) (sym why.2)
    (refused_still o t base x H command why.0 (stays_open c.args.command c.in_default.not-Commit c.in_default.not-Prepare) (subst (λ form. refusal form command x ≡ Some why.0) c.requires.fits.header why.1))

pub returns-in-None-clause-turned : goal.returns-in-None-clause-turned
returns-in-None-clause-turned g c =
    let o = c.args.options.now in
    let base = seen (g.D.Disk.history c.args.d.now) in
    let f = form_in c.args.header.now in
    let command = law_command c.args.command in
    weaker c.granted_turn.result _ _
    (λ reply turned told x H Rest M.
    turned told o x H Rest M
    (subst (λ form. refusal form command x ≡ None) c.requires.fits.header
    (told_none f x command (refusal f command x) refl (ap (option_map law_reply) (sym c.in-None.is) ∙ c.refusal.ensures base x H)))) c.granted_turn.ensures.turned

-- Full, of a command on the map that isn't refused
pub returns-in-Commit-clause-full : goal.returns-in-Commit-clause-full
returns-in-Commit-clause-full g c told x H R M mapped = absurd (subst IsMapped c.in-Commit.is mapped)

pub returns-in-Prepare-clause-full : goal.returns-in-Prepare-clause-full
returns-in-Prepare-clause-full g c told x H R M mapped = absurd (subst IsMapped c.in-Prepare.is mapped)

pub returns-in-Some-clause-full : goal.returns-in-Some-clause-full
returns-in-Some-clause-full g c told x H R M mapped =
    let f = form_in c.args.header.now in
    let command = law_command c.args.command in
    let why = told_why f x command c.in-Some.reply (refusal f command x) refl (ap (option_map law_reply) (sym c.in-Some.is) ∙ c.refusal.ensures (seen (g.D.Disk.history c.args.d.now)) x H) in
    let refused = subst (λ form. refusal form command x ≡ Some why.0) c.requires.fits.header why.1 in
    absurd (cc (sym R ∙ refused))

pub returns-in-None-clause-full : goal.returns-in-None-clause-full
returns-in-None-clause-full g c = weaker c.granted_turn.result _ _ (λ reply full told x H R M mapped. full told M mapped) c.granted_turn.ensures.full
