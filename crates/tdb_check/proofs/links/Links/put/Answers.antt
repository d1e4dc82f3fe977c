-- One more link.
use Rattle.std.proofs.Common.{◌≡◌, ◌∷◌, ◌++◌, [], ◌∙◌}
use Rattle.tdb_check.proofs.Taken.{told_push, left_push}
use Rattle.tdb_check.proofs.links.Links.put.Goals as goal

pub returns-clause-told : goal.returns-clause-told
returns-clause-told c kinds f img told stands next =
    told_push kinds f img c.args.self.now _ (record { at = c.args.at; next = c.args.next; list = c.args.list })
    (c.in_ok-push.ensures.items ∙ (λ k. (c.index_to.ensures k).items ++ (record { at = c.args.at; next = c.args.next; list = c.args.list }) ∷ []))
    told (record { stands = stands; next = next })

pub returns-clause-weight : goal.returns-clause-weight
returns-clause-weight c w =
    left_push w c.args.self.now _ (record { at = c.args.at; next = c.args.next; list = c.args.list })
    (c.in_ok-push.ensures.items ∙ (λ k. (c.index_to.ensures k).items ++ (record { at = c.args.at; next = c.args.next; list = c.args.list }) ∷ []))
    c.requires.number
