use Rattle.std.proofs.Common.{◌++◌, ◌∙◌, ap, subst}
use Rattle.std.specs.Prelude.{IsTrue, OnOk, if◌then◌else◌}
use Rattle.tdb_tool.specs.Serving.{HeldBehind}
use Rattle.tdb_tool.proofs.HeldText.{all_held, none_held}
use Rattle.tdb_tool.proofs.printing.hold.Goals as goal

-- both are held
pub returns-then-append_short-clause-held : goal.returns-then-append_short-clause-held
returns-then-append_short-clause-held g c told =
    all_held (g.K.Sink.written c.args.output.now) (c.args.held.now.items ++ c.args.text.now.items) c.append_short.new.held.items
    (c.append_short.ensures ∙ ap (λ b. if b then c.args.held.now.items ++ c.deref.result.now else c.args.held.now.items) c.if-append_short.true ∙ ap (λ t. c.args.held.now.items ++ t) c.deref.ensures.value)

-- or both are written
pub returns-clause-held : goal.returns-clause-held
returns-clause-held g c =
    let kept = c.append_short.ensures ∙ ap (λ b. if b then c.args.held.now.items ++ c.deref.result.now else c.args.held.now.items) c.if-append_short.false in
    subst (λ t. OnOk c.flush_both.result (IsTrue g.K.Sink.tells → HeldBehind (g.K.Sink.written c.args.output.now) (t ++ c.args.text.now.items) (g.K.Sink.written c.flush_both.new.output) c.flush_both.new.held.items)) kept
    (none_held g.K.Sink.tells c.flush_both.result (g.K.Sink.written c.args.output.now) (c.append_short.new.held.items ++ c.args.text.now.items) (g.K.Sink.written c.flush_both.new.output) c.flush_both.new.held.items c.flush_both.ensures.whole c.flush_both.ensures.emptied)
