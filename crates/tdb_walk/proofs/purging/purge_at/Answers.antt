-- The record is taken out of its chain and given back.
use Rattle.std.proofs.Common.{◌≡◌, ◌<◌, ◌^◌, [], ◌∷◌, ℕ, List, length, refl, inl, inr, arith, rules}
use Rattle.tdb_words.proofs.Words.{word_agrees}
use Rattle.tdb_space.specs.Chain.{chain_of, free_of, without}
use Rattle.tdb_space.specs.Extents.{HandPair}
use Rattle.tdb_space.specs.Accepted.{AcceptWith}
use Rattle.tdb_space.proofs.Results.{on_err}
use Rattle.tdb_free.specs.FreeList.{CanBeGiven, Given, GivenBack}
use Rattle.tdb_free.specs.GiveStopped.{GiveStopped}
use Rattle.tdb_free.specs.OnlyList.{OnlyListChanges}
use Rattle.tdb_free.proofs.Accepted.{can_be_given}
use Rattle.tdb_free.proofs.Traded.{given_stays}
use Rattle.tdb_walk.proofs.Views.{moved}
use Rattle.tdb_chain.specs.Changed.{hand_at}
use Rattle.tdb_walk.proofs.Purged.{place_of_chain, purged_given, purge_nothing, purge_led, purge_giving}
use Rattle.tdb_walk.proofs.purging.purge_at.Goals as goal

pub returns-in-Ok-clause-purged : goal.returns-in-Ok-clause-purged
returns-in-Ok-clause-purged g c told small hands A chain off below place =
    let f = g.S.Space.form c.args.s.now in
    let a = g.S.Space.image c.args.s.now in
    let m = g.S.Space.image c.purge.new.s in
    let b = g.S.Space.image c.give.new.s in
    let p = c.args.place in
    let h = c.in_ok-hand.hand in
    let P = c.in_ok-hand.ensures.purged told hands A (place_of_chain f a chain off p below place) in
    let form : g.S.Space.form c.purge.new.s ≡ f = c.in_ok-hand.ensures.wrote.form in
    let size : g.S.Space.size c.purge.new.s < 2 ^ 32 = omega (arith, small, c.in_ok-hand.ensures.size) in
    let short : length m < 2 ^ 32 = omega (arith, size, g.met.S.Space.told_size c.purge.new.s told) in
    let back = moved (λ x i. (all : List HandPair) → AcceptWith x i (h ∷ all) → GivenBack x i b h all) f (g.S.Space.form c.purge.new.s) m m form refl (c.in-Ok.ensures.kept told size) hands P.changed.accepted in
    let given = moved (λ x i. (offs : List ℕ) → CanBeGiven x i offs h → Given x i b offs h) f (g.S.Space.form c.purge.new.s) m m form refl (c.in-Ok.ensures.given told) (free_of f m) (can_be_given f m h hands P.changed.accepted short) in
    let only = moved (λ x i. (offs : List ℕ) → CanBeGiven x i offs h → OnlyListChanges x i b offs (h ∷ [])) f (g.S.Space.form c.purge.new.s) m m form refl (c.give.ensures.only told) (free_of f m) (can_be_given f m h hands P.changed.accepted short) in
    let long = g.met.S.Space.told_size c.args.s.now told in
    purged_given f a m b chain off p h hands below place c.in_ok-hand.ensures.hand A c.requires.can.dead (search rules) (omega (arith, long, c.requires.can.within.led)) (omega (arith, long, g.met.S.Space.told_size c.purge.new.s told, c.in_ok-hand.ensures.size))
    (c.in_ok-hand.ensures.written told) P back (given_stays f m b h hands P.changed.accepted given) (word_agrees f.order b m 48 (λ i from to. only.header i (omega (arith, to))))

-- the record is in its chain, or has left it
pub returns-in_err-hand-clause-stopped : goal.returns-in_err-hand-clause-stopped
returns-in_err-hand-clause-stopped g c = on_err c.from_residual.result (λ told small hands A chain off below place.
    (let f = g.S.Space.form c.args.s.now in
    let a = g.S.Space.image c.args.s.now in
    let m = g.S.Space.image c.purge.new.s in
    let p = c.args.place in
    elim (c.in_err-hand.ensures.stopped told hands A (place_of_chain f a chain off p below place)) [
      | inl same ↦ purge_nothing f a m chain hands A same
      | inr taken ↦ purge_led f a m chain (without p.off (chain_of f a chain)) (hand_at p) hands A below taken
    ]))

-- it has left it, and the give failed
pub returns-in-Err-clause-stopped : goal.returns-in-Err-clause-stopped
returns-in-Err-clause-stopped g c told small hands A chain off below place =
    let f = g.S.Space.form c.args.s.now in
    let a = g.S.Space.image c.args.s.now in
    let m = g.S.Space.image c.purge.new.s in
    let b = g.S.Space.image c.give.new.s in
    let p = c.args.place in
    let h = c.in_ok-hand.hand in
    let P = c.in_ok-hand.ensures.purged told hands A (place_of_chain f a chain off p below place) in
    let form : g.S.Space.form c.purge.new.s ≡ f = c.in_ok-hand.ensures.wrote.form in
    let short : length m < 2 ^ 32 = omega (arith, small, c.in_ok-hand.ensures.size, g.met.S.Space.told_size c.purge.new.s told) in
    purge_giving f a m chain (without p.off (chain_of f a chain)) h hands A below P b
    (moved (λ x i. (offs : List ℕ) → CanBeGiven x i offs h → GiveStopped x i b offs h) f (g.S.Space.form c.purge.new.s) m m form refl (c.in-Err.ensures.stopped told) (free_of f m) (can_be_given f m h hands P.changed.accepted short))
