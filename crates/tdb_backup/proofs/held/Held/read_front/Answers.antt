-- The header that was read.
use Rattle.std.proofs.Common.{◌≡◌, ◌≤◌, ◌∙◌, ap, take, refl, rules}
use Rattle.tdb_words.specs.Record.{rec_at}
use Rattle.tdb_words.proofs.Words.{rec_of_part}
use Rattle.tdb_backup.proofs.held.Held.read_front.Goals as goal

pub returns-clause-header : goal.returns-clause-header
returns-clause-header g c told =
    let f = g.S.Space.form c.args.s.now in
    let end = c.min-end.result in
    let order : c.order.result ≡ f.order = c.order.ensures ∙ ap (λ x. x.order) c.read_up_to.ensures.looked.form in
    let bytes = ap (take end) c.deref.ensures.value ∙ c.in_ok-read_up_to.ensures.shows told refl in
    let many : 24 ≤ end = search rules in
    c.rec_in.ensures ∙ (λ j. rec_at (order j) (bytes j) 0) ∙ rec_of_part f.order (g.S.Space.image c.args.s.now) c.args.at end many
