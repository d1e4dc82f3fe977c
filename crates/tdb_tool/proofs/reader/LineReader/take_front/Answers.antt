use Rattle.std.proofs.Common.{sym, ◌∙◌, ◌-◌, ap, take, drop, refl}
use Rattle.tdb_tool.proofs.LineLemmas.{moved, moved_all}
use Rattle.tdb_tool.proofs.reader.LineReader.take_front.Goals as goal

-- up to a newline
pub returns-in_ok-push_all-in-Some-clause-moved : goal.returns-in_ok-push_all-in-Some-clause-moved
returns-in_ok-push_all-in-Some-clause-moved c =
    let r = c.args.self.now in
    moved _ r.piece.items c.args.line.now c.push_all.new.self r.start r.end c.in-Some.end (ap (λ p. take (r.end - r.start) (drop r.start p)) c.deref.ensures.value) (sym c.line_end.ensures ∙ c.in-Some.is) c.in_ok-push_all-in-Some.ensures.ok

-- all bytes at hand
pub returns-in_ok-push_all-in-None-clause-moved : goal.returns-in_ok-push_all-in-None-clause-moved
returns-in_ok-push_all-in-None-clause-moved c =
    let r = c.args.self.now in
    moved_all _ (take (r.end - r.start) (drop r.start r.piece.items)) c.args.line.now _ r.end r.end (ap (λ p. take (r.end - r.start) (drop r.start p)) c.deref.ensures.value) (sym c.line_end.ensures ∙ c.in-None.is) c.in_ok-push_all-in-None.ensures.ok refl
