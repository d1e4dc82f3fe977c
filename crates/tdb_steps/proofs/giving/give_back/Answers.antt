-- The old record goes into the free list, and no chain changes.
use Rattle.std.proofs.Common.{◌<◌, ◌^◌, [], ◌∷◌, length, refl, arith}
use Rattle.tdb_space.specs.Chain.{free_of}
use Rattle.tdb_free.proofs.Accepted.{can_be_given, can_be_taken}
use Rattle.tdb_free.proofs.Costs.{beside_most}
use Rattle.tdb_free.proofs.Traded.{given_stays}
use Rattle.tdb_steps.proofs.Made.{stays_made, number_same}
use Rattle.tdb_steps.specs.declared.stage.Stage.TheVariants as Stage
use Rattle.tdb_steps.specs.declared.stage.Next.TheVariants as Next
use Rattle.tdb_steps.proofs.Stopped.{stopped_list}
use Rattle.tdb_steps.proofs.giving.give_back.Goals as goal

pub returns-in-Ok-clause-made : goal.returns-in-Ok-clause-made
returns-in-Ok-clause-made g c told small key asked others A known =
    let f = g.S.Space.form c.args.s.now in
    let a = g.S.Space.image c.args.s.now in
    let b = g.S.Space.image c.give.new.s in
    let h = c.args.hand in
    let short : length a < 2 ^ 32 = omega (arith, g.met.S.Space.told_size c.args.s.now told, small) in
    stays_made f a b key asked (Stage.Changed h) (Next.Step Stage.Ending) (h ∷ others) others A
    (given_stays f a b h others A (c.in-Ok.ensures.given told (free_of f a) (can_be_given f a h others A short)))
    (number_same f a b (c.give.ensures.only told (free_of f a) (can_be_given f a h others A short)).header) refl tt tt

-- the give failed
pub returns-in-Err-clause-stopped : goal.returns-in-Err-clause-stopped
returns-in-Err-clause-stopped g c told small key others A =
    let f = g.S.Space.form c.args.s.now in
    let a = g.S.Space.image c.args.s.now in
    let b = g.S.Space.image c.give.new.s in
    let h = c.args.hand in
    let short : length a < 2 ^ 32 = omega (arith, g.met.S.Space.told_size c.args.s.now told, small) in
    stopped_list f a b (h ∷ []) (h ∷ others) A (λ i. omega arith) (c.give.ensures.only told (free_of f a) (can_be_given f a h others A short)) key

-- what was read along the list
pub returns-in-Ok-clause-reads : goal.returns-in-Ok-clause-reads
returns-in-Ok-clause-reads g c told hands A =
    let f = g.S.Space.form c.args.s.now in
    let a = g.S.Space.image c.args.s.now in
    c.give.ensures.walked told (free_of f a) (can_be_taken f a hands A).list (length (free_of f a)) (beside_most f a (free_of f a) c.args.hand)

pub returns-in-Err-clause-reads : goal.returns-in-Err-clause-reads
returns-in-Err-clause-reads g c told hands A =
    let f = g.S.Space.form c.args.s.now in
    let a = g.S.Space.image c.args.s.now in
    c.give.ensures.walked told (free_of f a) (can_be_taken f a hands A).list (length (free_of f a)) (beside_most f a (free_of f a) c.args.hand)
