-- A byte that two extents share, and what the scan finds where there is none.
use Rattle.std.proofs.Common.{◌≡◌, ℕ, ◌∙◌, ap, subst, sym}
use Rattle.std.proofs.lemmas.Result.{IfOk-weaker, MatchResult-weaker}
use Rattle.tdb_space.specs.Form.{data_start}
use Rattle.tdb_space.specs.Extents.{times}
use Rattle.tdb_check.specs.Extent.{extents_seen}
use Rattle.tdb_check.specs.Stray.{FirstOverlapAmong, NoOverlapAmong, shared}
use Rattle.tdb_check.proofs.Among.{overlap_same, first_stray_same, none_same}
use Rattle.tdb_check.proofs.Following.{names_then}
use Rattle.tdb_check.proofs.judge.judge_extents.Goals as goal

pub returns-in-Some-clause-bad : goal.returns-in-Some-clause-bad
returns-in-Some-clause-bad g c told long =
    let old = extents_seen c.args.extents.now.items in
    let new = extents_seen c.sort_extents.new.extents.items in
    let found = subst (λ xs. FirstOverlapAmong (extents_seen xs) c.in-Some.at) c.deref.ensures.value c.in-Some.ensures in
    shared c.in-Some.at (overlap_same new old c.sort_extents.ensures.same (data_start (g.S.Space.form c.args.s.now)) (g.S.Space.image c.args.s.now) c.in-Some.at found)

pub returns-clause-clean : goal.returns-clause-clean
returns-clause-clean g c =
    let old = extents_seen c.args.extents.now.items in
    let es = extents_seen c.deref-2.result.now in
    let start = data_start (g.S.Space.form c.args.s.now) in
    let img = g.S.Space.image c.args.s.now in
    let same : (i : ℕ) → times (extents_seen c.deref-2.result.now) i ≡ times (extents_seen c.args.extents.now.items) i = λ i. ap (λ xs. times (extents_seen xs) i) c.deref-2.ensures.value ∙ c.sort_extents.ensures.same i in
    let apart : NoOverlapAmong es = subst (λ xs. NoOverlapAmong (extents_seen xs)) (c.deref.ensures.value ∙ sym c.deref-2.ensures.value) c.in_default.ensures in
    IfOk-weaker c.scan.result _ _ (λ n h told long. none_same es old same start img n (record { apart = apart; clean = (h told long).0; count = (h told long).1 })) c.scan.ensures.clean

pub returns-clause-bad : goal.returns-clause-bad
returns-clause-bad g c =
    let old = extents_seen c.args.extents.now.items in
    let es = extents_seen c.deref-2.result.now in
    let start = data_start (g.S.Space.form c.args.s.now) in
    let img = g.S.Space.image c.args.s.now in
    let same : (i : ℕ) → times (extents_seen c.deref-2.result.now) i ≡ times (extents_seen c.args.extents.now.items) i = λ i. ap (λ xs. times (extents_seen xs) i) c.deref-2.ensures.value ∙ c.sort_extents.ensures.same i in
    let apart : NoOverlapAmong es = subst (λ xs. NoOverlapAmong (extents_seen xs)) (c.deref.ensures.value ∙ sym c.deref-2.ensures.value) c.in_default.ensures in
    MatchResult-weaker c.scan.result c.scan.ensures.found (λ n t. t) (λ e h told long. names_then e _ _ (λ fault f. first_stray_same es old same start img fault f.0 apart f.1) (h told long))
