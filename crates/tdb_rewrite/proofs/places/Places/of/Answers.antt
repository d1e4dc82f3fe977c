-- All places are to come.
use Rattle.std.proofs.Common.{◌++◌, [], append-nil, ◌∙◌, ap}
use Rattle.std.proofs.lemmas.List.Elements.{All-nil, All-same}
use Rattle.tdb_space.specs.Chain.{chain_of}
use Rattle.tdb_space.specs.Pairs.{joined}
use Rattle.tdb_rewrite.specs.Places.{HasHeader, offs_of}
use Rattle.tdb_rewrite.proofs.places.Places.of.Goals as goal

pub returns-clause-headers : goal.returns-clause-headers
returns-clause-headers g c =
    let has = HasHeader (g.S.Space.form c.args.s.now) (g.S.Space.image c.args.s.now) in
    All-same has _ [] c.new.ensures.items (All-nil has)

pub returns-clause-all : goal.returns-clause-all
returns-clause-all g c =
    let f = g.S.Space.form c.args.s.now in
    let img = g.S.Space.image c.args.s.now in
    ap (λ xs. joined c.hash_size.result (chain_of f img) ++ offs_of xs) c.new.ensures.items ∙ append-nil (joined c.hash_size.result (chain_of f img)) ∙ ap (λ n. joined n (chain_of f img)) (c.hash_size.ensures ∙ ap (λ x. x.chains) c.len.ensures.form)
