-- One piece after the other becomes zero.
use Rattle.std.proofs.Common.{◌≡◌, ◌+◌, ◌-◌, ◌≤◌, ◌⊎◌, ℕ, inl, inr, ap, refl, subst, ◌∙◌, arith}
use Rattle.tdb_disk.specs.History.{History, seen}
use Rattle.tdb_txn.specs.Found.{Blanked}
use Rattle.tdb_txn.specs.Txn.{txn_image}
use Rattle.std.proofs.lemmas.Grind.{common_steps}
use Rattle.tdb_space.specs.Spare.{Spare}
use Rattle.tdb_space.specs.Spare.Spare.{bounded, without_bound}
use Rattle.tdb_txn.proofs.Blanks.{blanked_none, blanked_more}
use Rattle.tdb_txn.proofs.txn.Txn.blank.Goals as goal

-- how many writes and bytes are left
abbrev writes_of : Spare → ℕ
writes_of without_bound = 0
writes_of (bounded writes bytes reach) = writes

abbrev bytes_of : Spare → ℕ
bytes_of without_bound = 0
bytes_of (bounded writes bytes reach) = bytes

pub loop-done-init : goal.loop-done-init
loop-done-init g c = record {
  inside = omega arith;
  blanked = λ told. blanked_none c.args.extent.0 (txn_image c.args.self.now (seen (g.D.Disk.history c.args.d.now)));
  room = (omega (arith, c.requires.room.0), omega (arith, c.requires.room.1));
  only = record { start = refl; size = refl; form = refl; depth = refl; doomed = refl };
  size = refl;
  history = refl;
  faults = refl;
  syncs = refl;
}

pub loop-done-preserved : goal.loop-done-preserved
loop-done-preserved g c =
    let was = c.loop-done.invariant in
    let put = c.in_ok-write_zeros.ensures in
    let r = seen (g.D.Disk.history c.args.d.now) in
    let now = c.write_zeros.new.self in
    let count = c.min-count.result in
    let few : count ≤ 4096 = omega (arith, c.min-count.ensures) in
    let rest : count ≤ c.args.extent.1 - c.loop-done.done = omega (arith, c.min-count.ensures) in
    let whole : (count ≡ 4096) ⊎ (count ≡ c.args.extent.1 - c.loop-done.done) = grind (arith, common_steps) in
    let left_writes : now.writes ≡ c.loop-done.self.writes - 1 = ap writes_of put.spare in
    let left_bytes : now.bytes ≡ c.loop-done.self.bytes - count = ap bytes_of put.spare in
    record {
      inside = omega (arith, was.inside, rest);
      blanked = λ told.
          blanked_more c.args.extent.0 c.loop-done.done count _ (txn_image c.loop-done.self r) (txn_image now r) (was.blanked told)
          (subst (λ (h : History). Blanked (c.args.extent.0 + c.loop-done.done, count) (txn_image c.loop-done.self (seen h)) (txn_image now (seen h))) was.history
          (put.blanked told));
      room = elim whole [
        | inl full ↦ (omega (arith, full, was.room.0, c.loop-done-test.true, left_writes), omega (arith, full, was.room.1, left_bytes))
        | inr all ↦ (omega (arith, all, was.room.0, c.loop-done-test.true, left_writes), omega (arith, all, was.room.1, left_bytes))
      ];
      only = record {
        start = put.only.start ∙ was.only.start;
        size = put.only.size ∙ was.only.size;
        form = put.only.form ∙ was.only.form;
        depth = put.only.depth ∙ was.only.depth;
        doomed = put.only.doomed ∙ was.only.doomed;
      };
      size = put.size ∙ was.size;
      history = put.history ∙ was.history;
      faults = put.cause.done ∙ was.faults;
      syncs = put.syncs ∙ was.syncs;
    }
