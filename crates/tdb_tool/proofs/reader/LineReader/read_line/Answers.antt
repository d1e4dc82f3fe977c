use Rattle.std.proofs.Common.{rules, Ok, ◌≡◌, false, ap, sym, ◌∙◌, ◌++◌, subst, arith}
use Rattle.tdb_tool.specs.Lines.{MovedOn, NeedsNoMore, unread}
use Rattle.tdb_tool.proofs.LineLemmas.{gone_on, still_bare, read_ended, read_last, first_long, no_line, used}
use Rattle.tdb_tool.proofs.reader.LineReader.read_line.Goals as goal

-- the newline was there
pub returns-then-branch-clause-first : goal.returns-then-branch-clause-first
returns-then-branch-clause-first g c told =
    let m = subst (MovedOn c.loop-self.self c.take_front.new.self c.loop-self.line c.take_front.new.line) c.if-branch.true c.in_ok-take_front.ensures.moved in
    read_ended _ c.loop-self.line c.take_front.new.line (unread c.loop-self.self) (unread c.take_front.new.self) (g.S.Source.left c.loop-self.input) c.take_front.new.self.over
    (c.loop-self.invariant.text told) c.loop-self.invariant.bare m (c.take_front.ensures.over ∙ c.loop-self.invariant.more)

-- the source is at its end
pub returns-then-not-branch-clause-first : goal.returns-then-not-branch-clause-first
returns-then-not-branch-clause-first g c told =
    let m = subst (MovedOn c.loop-self.self c.take_front.new.self c.loop-self.line c.take_front.new.line) c.if-branch.false c.in_ok-take_front.ensures.moved in
    let e = c.in_ok-refill.ensures in
    let is = ap Ok c.if-not-branch.true in
    let r = c.refill.new.self in
    read_last _ c.loop-self.line c.take_front.new.line (unread c.loop-self.self) (g.S.Source.left c.loop-self.input) (unread c.refill.new.self) (g.S.Source.left c.refill.new.input)
    (c.loop-self.invariant.text told) c.loop-self.invariant.bare m.0 m.1 (e.bytes told) (used r.piece.items r.start r.end (e.none is)) (e.end is told)

pub returns-then-not-branch-clause-no_sooner : goal.returns-then-not-branch-clause-no_sooner
returns-then-not-branch-clause-no_sooner g c n =
    let m = subst (MovedOn c.loop-self.self c.take_front.new.self c.loop-self.line c.take_front.new.line) c.if-branch.false c.in_ok-take_front.ensures.moved in
    absurd (no_line c.loop-self.self (subst NeedsNoMore (sym (c.loop-self.invariant.no_sooner n).0) n) c.loop-self.invariant.more m.0)

pub loop-self-preserved : goal.loop-self-preserved
loop-self-preserved g c =
    let m = subst (MovedOn c.loop-self.self c.take_front.new.self c.loop-self.line c.take_front.new.line) c.if-branch.false c.in_ok-take_front.ensures.moved in
    record {
      text = λ told. gone_on _ c.loop-self.line c.take_front.new.line (unread c.loop-self.self) (g.S.Source.left c.loop-self.input) (unread c.refill.new.self) (g.S.Source.left c.refill.new.input)
          (c.loop-self.invariant.text told) m.1 (c.in_ok-refill.ensures.bytes told);
      bare = still_bare c.loop-self.line c.take_front.new.line (unread c.loop-self.self) c.loop-self.invariant.bare m.0 m.1;
      more = search rules;
      no_sooner = λ n. absurd (no_line c.loop-self.self (subst NeedsNoMore (sym (c.loop-self.invariant.no_sooner n).0) n) c.loop-self.invariant.more m.0);
      place = search rules;
      len = search rules;
      faults = search rules;
    }

-- the line is too long
pub returns-clause-first : goal.returns-clause-first
returns-clause-first g c told =
    first_long _ c.loop-self.line (unread c.loop-self.self ++ g.S.Source.left c.loop-self.input) _ (c.loop-self.invariant.text told) c.loop-self.invariant.bare (omega (arith, c.loop-self-test.false, c.len.ensures))
