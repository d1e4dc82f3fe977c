use Rattle.std.proofs.Common.{◌≡◌, [], None, Some, sym, ◌∙◌, ap}
use Rattle.tdb_disk.specs.History.{seen}
use Rattle.tdb_space.specs.Form.{form_in}
use Rattle.tdb_space.specs.Pairs.{order_of}
use Rattle.tdb_answer.specs.Commands.First.{first_pair_of}
use Rattle.tdb_answer.proofs.FirstPair.{first_given, none_given}
use Rattle.tdb_answer.proofs.Found.{told_of}
use Rattle.tdb_answer.proofs.commands.first.first_pair.Goals as goal

-- the walk gave no pair
pub returns-then-not-branch-clause-found : goal.returns-then-not-branch-clause-found
returns-then-not-branch-clause-found g c told =
    let on = c.requires.opened told in
    told_of (seen (g.D.Disk.history c.args.disk.now)) [] c.args.opened.now on.accepted on.header (λ f i. first_pair_of (order_of f i) ≡ None) _ _
    (ap form_in c.new-space.ensures.header) (ap (λ d. seen (g.D.Disk.history d)) c.new-space.ensures.disk)
    (λ accept. none_given _ _ c.advance.new.self c.in_ok-advance.field-0 (c.in_ok-advance.ensures.gave told [] accept [] (c.new-traversal.ensures.gave _ _)) c.if-not-branch.true)

-- it gave this one
pub returns-clause-found : goal.returns-clause-found
returns-clause-found g c told =
    let on = c.requires.opened told in
    told_of (seen (g.D.Disk.history c.args.disk.now)) [] c.args.opened.now on.accepted on.header (λ f i. first_pair_of (order_of f i) ≡ Some (c.in_ok-key.key, c.in_ok-value.value)) _ _
    (ap form_in c.new-space.ensures.header) (ap (λ d. seen (g.D.Disk.history d)) c.new-space.ensures.disk)
    (λ accept.
    first_given _ _ c.advance.new.self c.in_ok-advance.field-0 (c.in_ok-advance.ensures.gave told [] accept [] (c.new-traversal.ensures.gave _ _)) c.if-not-branch.false
    ∙ (λ j. Some (sym (c.in_ok-key.ensures ∙ c.key.ensures) j, sym (c.in_ok-value.ensures ∙ c.value.ensures) j)))
