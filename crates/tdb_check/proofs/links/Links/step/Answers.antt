-- The record at a place, and its link with the number of no list.
use Rattle.std.proofs.Common.{◌≡◌, ◌≢◌, ◌<◌, length, sym, ◌∙◌, ap, subst, refl, arith}
use Rattle.std.specs.Prelude.{slice_index}
use Rattle.tdb_space.specs.Record.{next_of}
use Rattle.tdb_check.specs.declared.links.TheConstants.{NO_LIST}
use Rattle.tdb_check.specs.declared.links.Link.{Link}
use Rattle.tdb_check.specs.InSequence.{StandsIn}
use Rattle.tdb_check.specs.Links.{LinkAt}
use Rattle.tdb_check.proofs.Taken.{told_set, left_set, reached_more}
use Rattle.tdb_check.proofs.links.Links.step.Goals as goal

pub returns-clause-reached : goal.returns-clause-reached
returns-clause-reached c kinds f img heads old r =
    let l = c.index-link.result.now in
    let i = c.args.i in
    let gone : Link = record { at = l.at; next = l.next; list = NO_LIST } in
    let low : l.list < length c.args.at.now = omega (arith, c.if-list-at.false) in
    let some : l.list ≢ NO_LIST = λ none. absurd (omega (arith, none, low, c.requires.lists)) in
    let there : LinkAt kinds f img l = subst (LinkAt kinds f img) (sym c.index-link.ensures) (r.told i l c.requires.place (λ none. some (ap (λ (x : Link). x.list) c.index-link.ensures ∙ none))) in
    let here : slice_index c.args.at.now l.list ≡ l.at = c.if-at-list.false in
    reached_more kinds f img heads old c.args.self.now _ c.args.at.now _ l.list l.next r low refl
    (subst (λ z. StandsIn f (kinds l.list) img z) (sym here) there.stands) (there.next ∙ ap (next_of f.order img) (sym here))
    (told_set kinds f img c.args.self.now i gone c.requires.place refl r.told)
    (λ w. omega (arith, left_set w c.args.self.now i gone l c.requires.place refl some c.index-link.ensures, ap w here))
