-- The bytes that an append writes are those that were joined, or those to be appended.
use Rattle.std.proofs.Common.{◌<◌, None, sym, ◌∙◌, ap, subst}
use Rattle.std.specs.Prelude.{◌^◌, IsTrue, IfOk, unwrap_or}
use Rattle.tdb_steps.specs.Asked.{stores}
use Rattle.tdb_steps.specs.Turns.{Makes}
use Rattle.tdb_steps.specs.Reads.{costs_of, TurnReads}
use Rattle.tdb_steps.specs.declared.plain.Plain.TheVariants as Plain
use Rattle.tdb_steps.specs.declared.flag.Flag.TheVariants as Flags
use Rattle.tdb_steps.proofs.append_turns.store_joined.Goals as goal

pub returns-in-Some-clause-made : goal.returns-in-Some-clause-made
returns-in-Some-clause-made g c =
    subst (λ v. IfOk c.store_turn.result (λ next. IsTrue g.S.Space.tells → g.S.Space.size c.args.s.now < 2 ^ 32 → Makes (g.S.Space.form c.args.s.now) (g.S.Space.image c.args.s.now) (g.S.Space.image c.store_turn.new.s) c.args.key.now (stores Flags.Replace v) c.args.stage next))
    (c.as_slice.ensures ∙ sym (ap (λ w. unwrap_or w c.args.more.now) c.in-Some.is)) c.store_turn.ensures.made

pub returns-in-None-clause-made : goal.returns-in-None-clause-made
returns-in-None-clause-made g c =
    subst (λ v. IfOk c.store_turn-in-None.result (λ next. IsTrue g.S.Space.tells → g.S.Space.size c.args.s.now < 2 ^ 32 → Makes (g.S.Space.form c.args.s.now) (g.S.Space.image c.args.s.now) (g.S.Space.image c.store_turn-in-None.new.s) c.args.key.now (stores Flags.Replace v) c.args.stage next))
    (sym (ap (λ w. unwrap_or w c.args.more.now) c.in-None.is)) c.store_turn-in-None.ensures.made

pub returns-in-Some-clause-reads : goal.returns-in-Some-clause-reads
returns-in-Some-clause-reads g c told small hands A =
    subst (λ v. TurnReads (costs_of (g.S.Space.form c.args.s.now) (g.S.Space.image c.args.s.now) (Plain.Store c.args.key.now v Flags.Replace) None) 0 c.args.stage (g.S.Space.bytes_read c.args.s.now) (g.S.Space.bytes_read c.store_turn.new.s))
    (c.as_slice.ensures ∙ sym (ap (λ w. unwrap_or w c.args.more.now) c.in-Some.is)) (c.store_turn.ensures.reads told small hands A)

pub returns-in-None-clause-reads : goal.returns-in-None-clause-reads
returns-in-None-clause-reads g c told small hands A =
    subst (λ v. TurnReads (costs_of (g.S.Space.form c.args.s.now) (g.S.Space.image c.args.s.now) (Plain.Store c.args.key.now v Flags.Replace) None) 0 c.args.stage (g.S.Space.bytes_read c.args.s.now) (g.S.Space.bytes_read c.store_turn-in-None.new.s))
    (sym (ap (λ w. unwrap_or w c.args.more.now) c.in-None.is)) (c.store_turn-in-None.ensures.reads told small hands A)
