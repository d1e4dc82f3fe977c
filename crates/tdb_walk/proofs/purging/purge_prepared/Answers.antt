-- A place that was prepared is that of the record.
use Rattle.std.proofs.Common.{◌≡◌, ◌<◌, List, ℕ, Option, None, Some, sym, ◌∙◌, subst}
use Rattle.std.proofs.lemmas.Result.{on_err_weaker}
use Rattle.tdb_chain.specs.declared.place.Place.{Place}
use Rattle.tdb_space.specs.Form.{Form}
use Rattle.tdb_space.specs.Extents.{HandPair}
use Rattle.tdb_walk.specs.Purging.{FindsPlace, IsPlaceIn, IsPrepared, IsPurged, PurgesOf, PurgeStopped, PurgeBroken}
use Rattle.tdb_walk.specs.declared.purging.DeadRecord.{DeadRecord}
use Rattle.tdb_walk.proofs.Ahead.{none_some}
use Rattle.tdb_walk.proofs.Views.{on_ok_more}
use Rattle.tdb_walk.proofs.purging.purge_prepared.Goals as goal

prepared_purges : (f : Form) (a b : List ℕ) (hands : List HandPair) (found : Option Place) (p : Place) → found ≡ Some p
    → ((chain off : ℕ) → chain < f.chains → IsPlaceIn f a chain off p → IsPurged f a b chain off hands)
    → (dead : Option DeadRecord) → IsPrepared f a dead found → PurgesOf f a b dead hands
prepared_purges f a b hands found p is purges None none = absurd (none_some (sym none ∙ is))
prepared_purges f a b hands found p is purges (Some d) (below, finds) = purges d.chain d.off below (subst (FindsPlace f a d.chain d.off) is finds)

pub returns-in-Some-clause-purged : goal.returns-in-Some-clause-purged
returns-in-Some-clause-purged g c =
    on_ok_more c.purge_at.result (λ purged told small hands A dead prepared.
    prepared_purges (g.S.Space.form c.args.s.now) (g.S.Space.image c.args.s.now) (g.S.Space.image c.purge_at.new.s) hands c.args.place c.in-Some.place c.in-Some.is (purged told small hands A) dead prepared)
    c.purge_at.ensures.purged

-- and so it is where that failed
prepared_stops : (f : Form) (a b : List ℕ) (hands : List HandPair) (found : Option Place) (p : Place) → found ≡ Some p
    → ((chain off : ℕ) → chain < f.chains → IsPlaceIn f a chain off p → PurgeStopped f a b chain hands)
    → (dead : Option DeadRecord) → IsPrepared f a dead found → PurgeBroken f a b dead hands
prepared_stops f a b hands found p is stops None none = absurd (none_some (sym none ∙ is))
prepared_stops f a b hands found p is stops (Some d) (below, finds) = stops d.chain d.off below (subst (FindsPlace f a d.chain d.off) is finds)

pub returns-in-Some-clause-stopped : goal.returns-in-Some-clause-stopped
returns-in-Some-clause-stopped g c =
    on_err_weaker c.purge_at.result (λ stopped told small hands A dead prepared.
    prepared_stops (g.S.Space.form c.args.s.now) (g.S.Space.image c.args.s.now) (g.S.Space.image c.purge_at.new.s) hands c.args.place c.in-Some.place c.in-Some.is (stopped told small hands A) dead prepared)
    c.purge_at.ensures.stopped
