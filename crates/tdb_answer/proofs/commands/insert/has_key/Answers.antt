use Rattle.std.proofs.Common.{◌≡◌, ℕ, List, [], None, sym, subst}
use Rattle.std.specs.Prelude.{IsSome, MatchBool}
use Rattle.tdb_disk.specs.History.{seen}
use Rattle.tdb_space.specs.Form.{Form, form_in}
use Rattle.tdb_space.specs.Pairs.{map_of}
use Rattle.tdb_space.specs.Accepted.{AcceptWith}
use Rattle.tdb_chain.specs.Place.{IsFound}
use Rattle.tdb_answer.proofs.Found.{some_found}
use Rattle.tdb_answer.proofs.commands.insert.has_key.Goals as goal

-- the view is the disk itself, and a key is there where its place is found
pub returns-clause-told : goal.returns-clause-told
returns-clause-told g c told accepted =
    let f = form_in c.args.header.now in
    let img = seen (g.D.Disk.history c.args.disk.now) in
    let key = c.args.key.now in
    let found = c.in_ok-find.field-0 in
    let header = c.new-space.ensures.header in
    let disk = c.new-space.ensures.disk in
    let seen_so = subst (λ (q : Form × List ℕ). AcceptWith q.0 q.1 []) (λ j. (form_in (sym header j), seen (g.D.Disk.history (sym disk j)))) accepted in
    let here : IsFound f img key found = subst (λ (q : Form × List ℕ). IsFound q.0 q.1 key found) (λ j. (form_in (header j), seen (g.D.Disk.history (disk j)))) (c.in_ok-find.ensures.found told [] seen_so) in
    subst (λ b. MatchBool b (IsSome (map_of f img key)) (map_of f img key ≡ None)) (sym c.is_some.ensures) (some_found f img key found here)
