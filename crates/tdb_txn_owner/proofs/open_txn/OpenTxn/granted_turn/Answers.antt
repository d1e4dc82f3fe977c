-- Each command is what does it.
use Rattle.std.proofs.Common.{◌≡◌, None, sym, subst, inl, inr}
use Rattle.tdb_disk.specs.History.{seen}
use Rattle.tdb_law.specs.Commands.Command.{OnMap}
use Rattle.tdb_law.specs.Refusals.{refusal}
use Rattle.tdb_steps.specs.PlainCommands.{command_of}
use Rattle.tdb_txn_turns.specs.InsideTxn.OwnTxns.{form_of, image_of}
use Rattle.tdb_commands.specs.InLaw.{law_command, law_reply}
use Rattle.tdb_commands.specs.declared.command.Command.TheVariants as Given
use Rattle.tdb_txn_owner.proofs.Opened.{goes_as, goes_is, refused_as, weaker}
use Rattle.tdb_law.specs.Commands.Turn.{Ends}
use Rattle.tdb_steps.specs.Room.{FullExactly}
use Rattle.tdb_txn_owner.specs.Given.{IsMapped}
use Rattle.tdb_txn_owner.proofs.Room.{every}
use Rattle.tdb_txn_owner.proofs.open_txn.OpenTxn.granted_turn.Goals as goal

pub returns-in-Check-clause-turned : goal.returns-in-Check-clause-turned
returns-in-Check-clause-turned g c =
    let t = c.args.self.now in
    let base = seen (g.D.Disk.history c.args.d.now) in
    weaker c.check.result _ _
    (λ reply turned told o x H Rest M R.
    goes_as o t c.check.new.self base x c.args.command Given.Check (law_reply reply) c.in-Check.is
    (turned told o x H M (refused_as (form_of t.own) x c.args.command Given.Check None c.in-Check.is R))) c.check.ensures.turned

pub returns-in-Seqnum-clause-turned : goal.returns-in-Seqnum-clause-turned
returns-in-Seqnum-clause-turned g c =
    let t = c.args.self.now in
    let base = seen (g.D.Disk.history c.args.d.now) in
    weaker c.sequence.result _ _
    (λ reply turned told o x H Rest M R.
    goes_as o t c.sequence.new.self base x c.args.command Given.Seqnum (law_reply reply) c.in-Seqnum.is
    (turned told o x H M (refused_as (form_of t.own) x c.args.command Given.Seqnum None c.in-Seqnum.is R))) c.sequence.ensures.turned

pub returns-in-ChainLock-clause-turned : goal.returns-in-ChainLock-clause-turned
returns-in-ChainLock-clause-turned g c told o x H Rest M R = c.count.ensures.turned o (seen (g.D.Disk.history c.args.d.now)) x H

pub returns-in-Start-clause-turned : goal.returns-in-Start-clause-turned
returns-in-Start-clause-turned g c told o x H Rest M R =
    let t = c.args.self.now in
    let base = seen (g.D.Disk.history c.args.d.now) in
    goes_as o t c.start_inner.new.self base x c.args.command Given.Start (law_reply c.start_inner.result) c.in-Start.is
    (c.start_inner.ensures.turned o base x H (refused_as (form_of t.own) x c.args.command Given.Start None c.in-Start.is R))

pub returns-in-Cancel-clause-turned : goal.returns-in-Cancel-clause-turned
returns-in-Cancel-clause-turned g c told o x H Rest M R =
    let base = seen (g.D.Disk.history c.args.d.now) in
    goes_as o c.args.self.now c.cancel_inner.new.self base x c.args.command Given.Cancel (law_reply c.cancel_inner.result) c.in-Cancel.is (c.cancel_inner.ensures.turned o base x H)

pub returns-in-First-clause-turned : goal.returns-in-First-clause-turned
returns-in-First-clause-turned g c =
    let t = c.args.self.now in
    let base = seen (g.D.Disk.history c.args.d.now) in
    weaker c.ask.result _ _
    (λ reply turned told o x H Rest M R. goes_as o t c.ask.new.self base x c.args.command Given.First (law_reply reply) c.in-First.is (turned told o x H Rest)) c.ask.ensures.turned

pub returns-in-Next-clause-turned : goal.returns-in-Next-clause-turned
returns-in-Next-clause-turned g c =
    let t = c.args.self.now in
    let base = seen (g.D.Disk.history c.args.d.now) in
    weaker c.ask-in-Next.result _ _
    (λ reply turned told o x H Rest M R. goes_as o t c.ask-in-Next.new.self base x c.args.command Given.Next (law_reply reply) c.in-Next.is (turned told o x H Rest)) c.ask-in-Next.ensures.turned

pub returns-in-EndWalk-clause-turned : goal.returns-in-EndWalk-clause-turned
returns-in-EndWalk-clause-turned g c =
    let t = c.args.self.now in
    let base = seen (g.D.Disk.history c.args.d.now) in
    weaker c.ask-in-EndWalk.result _ _
    (λ reply turned told o x H Rest M R. goes_as o t c.ask-in-EndWalk.new.self base x c.args.command Given.EndWalk (law_reply reply) c.in-EndWalk.is (turned told o x H Rest)) c.ask-in-EndWalk.ensures.turned

pub returns-in_default-clause-turned : goal.returns-in_default-clause-turned
returns-in_default-clause-turned g c =
    let t = c.args.self.now in
    let base = seen (g.D.Disk.history c.args.d.now) in
    let plain = OnMap (command_of c.plain_of.result) in
    let command = law_command c.args.command in
    weaker c.run.result _ _
    (λ reply turned told o x H Rest M R.
    goes_is o t c.run.new.self base x plain command (law_reply reply) c.plain_of.ensures.same
    (turned told o x H Rest M (subst (λ k. refusal (form_of t.own) k x ≡ None) (sym c.plain_of.ensures.same) R))) c.run.ensures.turned

-- Full, of a command on the map
pub returns-in-Check-clause-full : goal.returns-in-Check-clause-full
returns-in-Check-clause-full g c = every c.check.result _ (λ reply told M mapped. absurd (subst IsMapped c.in-Check.is mapped))

pub returns-in-Seqnum-clause-full : goal.returns-in-Seqnum-clause-full
returns-in-Seqnum-clause-full g c = every c.sequence.result _ (λ reply told M mapped. absurd (subst IsMapped c.in-Seqnum.is mapped))

pub returns-in-First-clause-full : goal.returns-in-First-clause-full
returns-in-First-clause-full g c = every c.ask.result _ (λ reply told M mapped. absurd (subst IsMapped c.in-First.is mapped))

pub returns-in-Next-clause-full : goal.returns-in-Next-clause-full
returns-in-Next-clause-full g c = every c.ask-in-Next.result _ (λ reply told M mapped. absurd (subst IsMapped c.in-Next.is mapped))

pub returns-in-EndWalk-clause-full : goal.returns-in-EndWalk-clause-full
returns-in-EndWalk-clause-full g c = every c.ask-in-EndWalk.result _ (λ reply told M mapped. absurd (subst IsMapped c.in-EndWalk.is mapped))

pub returns-in-ChainLock-clause-full : goal.returns-in-ChainLock-clause-full
returns-in-ChainLock-clause-full g c told M mapped =
    elim c.in-ChainLock.is [
      | inl w ↦ absurd (subst IsMapped w.1 mapped)
      | inr b ↦ elim b [
        | inl w ↦ absurd (subst IsMapped w.1 mapped)
        | inr d ↦ elim d [
          | inl w ↦ absurd (subst IsMapped w.1 mapped)
          | inr k ↦ elim k [
            | inl e ↦ absurd (subst IsMapped e mapped)
            | inr h ↦ elim h [ inl e ↦ absurd (subst IsMapped e mapped) | inr e ↦ absurd (subst IsMapped e mapped) ]
          ]
        ]
      ]
    ]

pub returns-in-Start-clause-full : goal.returns-in-Start-clause-full
returns-in-Start-clause-full g c told M mapped = absurd (subst IsMapped c.in-Start.is mapped)

pub returns-in-Cancel-clause-full : goal.returns-in-Cancel-clause-full
returns-in-Cancel-clause-full g c told M mapped = absurd (subst IsMapped c.in-Cancel.is mapped)

pub returns-in_default-clause-full : goal.returns-in_default-clause-full
returns-in_default-clause-full g c =
    let t = c.args.self.now in
    weaker c.run.result _ _
    (λ reply full told M mapped. subst (λ k. FullExactly (form_of t.own) (image_of t.own (seen (g.D.Disk.history c.args.d.now))) c.args.limit k (Ends (law_reply reply))) c.plain_of.ensures.same (full told M)) c.run.ensures.full
