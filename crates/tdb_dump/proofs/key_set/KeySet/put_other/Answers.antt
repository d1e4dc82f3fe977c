-- The set has the key among the others.
use Rattle.std.proofs.Common.{◌≡◌, cond, true, ℕ, List, subst}
use Rattle.std.specs.BTreeSet.{contains}
use Rattle.std.specs.BTreeMap.{is_at}
use Rattle.std.specs.Ordering.{nat_cmp}
use Rattle.std.specs.Cmp.Lexicographic.{slice_cmp}
use Rattle.tdb_dump.proofs.KeySetLemmas.{on_either, has_in-other, NoneBeside-other, NoneBeside-same}
use Rattle.tdb_dump.proofs.key_set.KeySet.put_other.Goals as goal

pub invariant_of-self-clause-beside : goal.invariant_of-self-clause-beside
invariant_of-self-clause-beside c =
    let s = c.args.self.now in
    on_either c.insert.result c.insert.ensures.updates c.insert.ensures.err
    (λ updates. NoneBeside-other s.first s.bytes.items c.args.key.now s.others c.insert.new.self c.requires.no_place
    (subst (λ (k : List ℕ). (q : List ℕ) → contains (slice_cmp nat_cmp) c.insert.new.self q ≡ cond (is_at (slice_cmp nat_cmp k) q) true (contains (slice_cmp nat_cmp) s.others q)) c.in_ok-key.ensures updates.0) s.beside)
    (λ same. NoneBeside-same s.first s.bytes.items s.others c.insert.new.self same s.beside)

pub returns-clause-keys : goal.returns-clause-keys
returns-clause-keys c =
    let s = c.args.self.now in
    has_in-other s.first s.bytes.items c.args.key.now s.others c.insert.new.self
    (subst (λ (k : List ℕ). (q : List ℕ) → contains (slice_cmp nat_cmp) c.insert.new.self q ≡ cond (is_at (slice_cmp nat_cmp k) q) true (contains (slice_cmp nat_cmp) s.others q)) c.in_ok-key.ensures c.in_ok-insert.ensures.updates.0)
