-- A byte that two extents share, and the count where there is none.
use Rattle.std.proofs.Common.{◌≡◌, ℕ, refl, ◌∙◌, ap, subst, arith}
use Rattle.tdb_space.specs.Form.{data_start}
use Rattle.tdb_space.specs.Extents.{times}
use Rattle.tdb_check.specs.Extent.{extents_seen}
use Rattle.tdb_check.specs.Stray.{FirstOverlapAmong, NoOverlapAmong}
use Rattle.tdb_check.proofs.Among.{overlap_same}
use Rattle.tdb_mend.proofs.Counted.{strays_same}
use Rattle.tdb_mend.proofs.surveying.strays_beside.Goals as goal

pub returns-in-Some-clause-bad : goal.returns-in-Some-clause-bad
returns-in-Some-clause-bad g c =
    let old = extents_seen c.args.extents.now.items in
    let new = extents_seen c.sort_extents.new.extents.items in
    let found = subst (λ xs. FirstOverlapAmong (extents_seen xs) c.in-Some.at) c.deref.ensures.value c.in-Some.ensures in
    (refl, overlap_same new old c.sort_extents.ensures.same (data_start (g.S.Space.form c.args.s.now)) (g.S.Space.image c.args.s.now) c.in-Some.at found)

pub returns-clause-apart : goal.returns-clause-apart
returns-clause-apart g c =
    let apart : NoOverlapAmong (extents_seen c.sort_extents.new.extents.items) = subst (λ xs. NoOverlapAmong (extents_seen xs)) c.deref.ensures.value c.in_default.ensures in
    λ i. omega (arith, apart i, c.sort_extents.ensures.same i)

pub returns-clause-count : goal.returns-clause-count
returns-clause-count g c told =
    let same : (i : ℕ) → times (extents_seen c.deref-2.result.now) i ≡ times (extents_seen c.args.extents.now.items) i = λ i. ap (λ xs. times (extents_seen xs) i) c.deref-2.ensures.value ∙ c.sort_extents.ensures.same i in
    c.in_ok-strays.ensures.count told ∙ strays_same (extents_seen c.deref-2.result.now) (extents_seen c.args.extents.now.items) (data_start (g.S.Space.form c.args.s.now)) (g.S.Space.image c.args.s.now) same
