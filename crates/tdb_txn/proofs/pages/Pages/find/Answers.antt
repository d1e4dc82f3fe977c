use Rattle.std.proofs.Common.{◌≡◌, ap, sym, ◌∙◌, arith, rules, ◌<◌, length}
use Rattle.std.proofs.lemmas.List.{get_or_read}
use Rattle.tdb_txn.proofs.Listed.{page_first, page_between}
use Rattle.tdb_txn.specs.declared.page.Page.{Page}
use Rattle.tdb_txn.proofs.pages.Pages.find.Goals as goal
use Rattle.tdb_txn.proofs.pages.Pages.find.Goals.{else-at-len-via-then-at-len+else-index-number, else-at-len-via-else-at-len}

pub returns-then-index-number-clause-first : goal.returns-then-index-number-clause-first
returns-then-index-number-clause-first c = λ d.
    let ps = c.args.self.now.list.items in
    let at = c.position-at.result in
    let low : at < length ps = search rules in
    let number : c.index.result.now.number ≡ c.args.number = search rules in
    page_first ps at c.args.number d low c.position-at.ensures.before
    (ap (λ (q : Page). q.number) (sym (get_or_read ps at c.index.result.now low c.index.ensures d)) ∙ number)

pub returns-else-at-len-clause-none : goal.returns-else-at-len-clause-none
returns-else-at-len-clause-none c =
    let ps = c.args.self.now.list.items in
    let at = c.position-at.result in
    page_between ps at c.args.number c.position-at.ensures.before c.position-at.ensures.behind c.args.self.now.rising
    (elim c.else-at-len.branch [
      | else-at-len-via-then-at-len+else-index-number w ↦ λ d low equal.
          let is : c.args.number ≡ w.index.result.now.number =
          sym (ap (λ (q : Page). q.number) (get_or_read ps at w.index.result.now low w.index.ensures d) ∙ equal) in
          omega (arith, is, w.if-index-number.false)
      | else-at-len-via-else-at-len w ↦ λ d low equal. omega (arith, low, w.if-at-len.false)
    ])
