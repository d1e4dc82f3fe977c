use Rattle.std.proofs.Common.{◌≡◌, sym, subst, arith}
use Rattle.std.proofs.lemmas.Grind.{common_steps}
use Rattle.std.specs.List.{insert}
use Rattle.tdb_txn.proofs.Listed.{added, rising_added}
use Rattle.tdb_txn.specs.Pages.{Added, Rising}
use Rattle.tdb_txn.proofs.pages.Pages.add.Goals as goal

pub returns-clause-added : goal.returns-clause-added
returns-clause-added c =
    let ps = c.args.self.now.list.items in
    let at = c.position-at.result in
    let now : c.insert.new.self.items ≡ insert ps at c.args.page = grind (arith, common_steps) in
    subst (Added c.args.page.number c.args.page.bytes.items ps) (sym now)
    (added ps at c.args.page c.position-at.ensures.within c.position-at.ensures.before c.requires.before)

pub invariant_of-self : goal.invariant_of-self
invariant_of-self c =
    let ps = c.args.self.now.list.items in
    let at = c.position-at.result in
    let now : c.insert.new.self.items ≡ insert ps at c.args.page = grind (arith, common_steps) in
    record {
      rising = subst Rising (sym now) (rising_added ps at c.args.page c.position-at.ensures.within c.position-at.ensures.before c.position-at.ensures.behind c.args.self.now.rising c.requires.before);
      room = grind (arith, common_steps);
    }
