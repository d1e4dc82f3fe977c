-- The first four of the bytes from the offset on.
use Rattle.std.proofs.Common.{◌≡◌, ◌+◌, ◌≤◌, sym, ◌∙◌, ap, subst, arith}
use Rattle.tdb_words.specs.Word.{word}
use Rattle.tdb_check.specs.InSequence.{IsWindowOn, reach_of}
use Rattle.tdb_check.proofs.Forward.{first_word}
use Rattle.tdb_check.proofs.window.Window.word.Goals as goal
use Rattle.tdb_check.proofs.window.Window.word.Goals.{then-reach-at+in_ok-move_to, else-reach-at}

pub returns-clause-value : goal.returns-clause-value
returns-clause-value g c told shows =
    let img = g.S.Space.image c.args.s.now in
    let f = g.S.Space.form c.args.s.now in
    let now : IsWindowOn img c.if-reach-at.self = elim c.if-reach-at.branch [
      | then-reach-at+in_ok-move_to w ↦ subst (IsWindowOn img) (sym w.self-is) (w.in_ok-move_to.ensures.shows told shows)
      | else-reach-at w ↦ subst (IsWindowOn img) (sym w.self-is) shows
    ] in
    let form : g.S.Space.form c.if-reach-at.s ≡ f = elim c.if-reach-at.branch [
      | then-reach-at+in_ok-move_to w ↦ ap g.S.Space.form w.s-is ∙ w.in_ok-move_to.ensures.looked.form
      | else-reach-at w ↦ ap g.S.Space.form w.s-is
    ] in
    let order : c.order.result ≡ f.order = c.order.ensures ∙ ap (λ x. x.order) form in
    let reach : c.args.at + 4 ≤ c.if-reach-at.self.from + c.if-reach-at.self.held = elim c.if-reach-at.branch [
      | then-reach-at+in_ok-move_to w ↦ subst (λ x. c.args.at + 4 ≤ reach_of x) (sym w.self-is) (omega (arith, w.in_ok-move_to.ensures.reach, c.requires.within))
      | else-reach-at w ↦ subst (λ x. c.args.at + 4 ≤ reach_of x) (sym w.self-is) (omega (arith, w.if-reach-at.false, c.reach.ensures))
    ] in
    c.word_in.ensures ∙ ap (λ o. word o c.bytes_from.result.now 0) order ∙ first_word f.order img c.bytes_from.result.now c.args.at (omega (arith, c.bytes_from.ensures.size, reach)) (c.bytes_from.ensures.bytes img now)
