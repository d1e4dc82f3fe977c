-- One more chain.
use Rattle.std.proofs.Common.{◌≡◌, ◌<◌, ◌++◌, List, ℕ, length, get_or, map, sym, subst}
use Rattle.std.proofs.lemmas.Bool.{OnTrue_at, iff_false, false≢true}
use Rattle.tdb_words.specs.Word.{word}
use Rattle.tdb_space.specs.Form.{form_in, chain_head}
use Rattle.tdb_space.specs.Record.{Whole, IsChained, AllFit}
use Rattle.tdb_space.specs.Chain.{Chain}
use Rattle.tdb_space.specs.Pairs.{pair_seen, pairs, HasPairs}
use Rattle.tdb_space.proofs.Chain.Walks.{linked_each}
use Rattle.tdb_space.proofs.Pairs.Gathered.{gathered_more, unfit}
use Rattle.tdb_space.proofs.plain.pairs_in_order.Goals as goal

pub push_pairs-requires : goal.push_pairs-requires
push_pairs-requires c =
    let f = form_in c.args.header.now in
    let img = c.args.image.now in
    let first = word c.args.header.now.order img (chain_head c.loop-chain.chain) in
    let chain : Chain f img first c.in-Some.offs.items = rw c.in-Some.is at c.in_ok-offs.ensures.found in
    subst (λ (xs : List ℕ). (k d : ℕ) → k < length xs → Whole f img (get_or xs k d)) (sym c.deref.ensures.value) (linked_each f IsChained img first c.in-Some.offs.items chain)

pub returns-then-not-branch-clause-found : goal.returns-then-not-branch-clause-found
returns-then-not-branch-clause-found c =
    let f = form_in c.args.header.now in
    let img = c.args.image.now in
    let first = word c.args.header.now.order img (chain_head c.loop-chain.chain) in
    let chain : Chain f img first c.in-Some.offs.items = rw c.in-Some.is at c.in_ok-offs.ensures.found in
    let too_long = iff_false c.in_ok-push_pairs.ensures.fit c.if-not-branch.true in
    let no_pairs : HasPairs f img → ⊥ = λ has.
    unfit f img c.loop-chain.chain c.in-Some.offs.items chain (λ fit. too_long (subst (AllFit f.order img) (sym c.deref.ensures.value) fit)) (has.1 c.loop-chain.chain c.loop-chain-test.true) in
    (λ some. absurd (false≢true some), λ has. absurd (no_pairs has))

pub loop-chain-preserved : goal.loop-chain-preserved
loop-chain-preserved c =
    let f = form_in c.args.header.now in
    let img = c.args.image.now in
    let first = word c.args.header.now.order img (chain_head c.loop-chain.chain) in
    let chain : Chain f img first c.in-Some.offs.items = rw c.in-Some.is at c.in_ok-offs.ensures.found in
    let fit = c.in_ok-push_pairs.ensures.fit.0 c.if-not-branch.false in
    let pushed = OnTrue_at c.if-not-branch.false c.in_ok-push_pairs.ensures.pairs in
    gathered_more f img c.loop-chain.chain (map pair_seen c.loop-chain.all.items) (map pair_seen c.push_pairs.new.all.items) c.in-Some.offs.items c.loop-chain.invariant chain
    (subst (AllFit f.order img) c.deref.ensures.value fit)
    (subst (λ xs. map pair_seen c.push_pairs.new.all.items ≡ map pair_seen c.loop-chain.all.items ++ pairs f.order img xs) c.deref.ensures.value pushed)
