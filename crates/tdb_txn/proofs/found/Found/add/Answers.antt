-- The next byte begins a run, goes on with one, or begins the next.
use Rattle.std.proofs.Common.{◌+◌, ◌-◌, ◌≤◌, [], ◌∷◌, ◌++◌, sym, subst, arith}
use Rattle.tdb_space.specs.Runs.{Changed}
use Rattle.tdb_txn.specs.EndBelow.{EndBelow}
use Rattle.tdb_txn.specs.Found.{FoundSoFar, InPlace}
use Rattle.tdb_txn.specs.declared.found.Found.{Found}
use Rattle.tdb_txn.proofs.Gathered.{keeps_on}
use Rattle.tdb_txn.proofs.Scans.{scan_first, scan_more, scan_next, ends_later}
use Rattle.tdb_txn.proofs.found.Found.add.Goals.{then-self, else-self+then-at-self-gt-GAP, else-self+else-at-self-gt-GAP}
use Rattle.tdb_txn.proofs.found.Found.add.Goals as goal

pub returns-clause-found : goal.returns-clause-found
returns-clause-found c a b old skip here so_far =
    let s = c.args.self.now in
    let next = s.next + 1 in
    let K = so_far.keeps in
    let S = so_far.scanned in
    elim c.if-self.branch [
      | then-self w ↦
          subst (λ (f : Found). FoundSoFar a b old skip (record f { to = next; next = next })) (sym w.self-is)
          (record {
            runs = so_far.runs;
            keeps = keeps_on so_far.runs s s.next next next K;
            scanned = scan_first (Changed a b old skip) so_far.runs s.from s.to s.next w.if-self.true here S;
          })
      | else-self+then-at-self-gt-GAP w ↦
          subst (λ (f : Found). FoundSoFar a b old skip (record f { to = next; next = next })) (sym w.self-is)
          (record {
            runs = so_far.runs ++ (s.from, s.to - s.from) ∷ [];
            keeps = keeps_on (so_far.runs ++ (s.from, s.to - s.from) ∷ []) w.close.new.self s.next next next (w.close.ensures.keeps so_far.runs K);
            scanned = scan_next (Changed a b old skip) so_far.runs s.from s.to s.next (omega (arith, w.if-self.false, c.requires.place.ends)) (omega (arith, w.if-at-self-gt-GAP.true, c.requires.place.below)) here S;
          })
      | else-self+else-at-self-gt-GAP w ↦
          subst (λ (f : Found). FoundSoFar a b old skip (record f { to = next; next = next })) (sym w.self-is)
          (record {
            runs = so_far.runs;
            keeps = keeps_on so_far.runs s s.from next next K;
            scanned = scan_more (Changed a b old skip) so_far.runs s.from s.to s.next (omega (arith, w.if-self.false, c.requires.place.ends)) (omega (arith, w.if-at-self-gt-GAP.false, c.requires.place.below)) here S;
          })
    ]

pub returns-clause-place : goal.returns-clause-place
returns-clause-place c =
    let s = c.args.self.now in
    let next = s.next + 1 in
    let up : s.to ≤ next = omega (arith, c.requires.place.below) in
    let later : EndBelow next s.list = ends_later s.list s.to next c.requires.place.done up in
    elim c.if-self.branch [
      | then-self w ↦ subst (λ (f : Found). InPlace (record f { to = next; next = next })) (sym w.self-is) (record { done = later; ends = omega arith; below = omega arith })
      | else-self+then-at-self-gt-GAP w ↦
          subst (λ (f : Found). InPlace (record f { to = next; next = next })) (sym w.self-is)
          (record { done = ends_later w.close.new.self.list s.to next (w.close.ensures.done c.requires.place.done) up; ends = omega arith; below = omega arith })
      | else-self+else-at-self-gt-GAP w ↦
          subst (λ (f : Found). InPlace (record f { to = next; next = next })) (sym w.self-is)
          (record { done = later; ends = omega (arith, c.requires.place.ends, c.requires.place.below); below = omega arith })
    ]
