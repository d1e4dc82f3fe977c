-- One block more.
use Rattle.std.proofs.Common.{◌≡◌, inl, inr, ◌+◌, ◌-◌, ◌*◌, ◌≤◌, length, subst, ◌∙◌, ap, arith, rules}
use Rattle.std.specs.Prelude.{slice_index, ◌/◌}
use Rattle.std.proofs.lemmas.Bool.{cases_lt}
use Rattle.tdb_disk.proofs.Image.{overlay_below, overlay_in}
use Rattle.tdb_space.specs.Form.{data_start, free_head}
use Rattle.tdb_space.specs.Spare.{spent, SpentUpTo}
use Rattle.tdb_space.proofs.SpareLeft.Rooms.{room_for, room_spent, room_tried, room_then, room_more}
use Rattle.tdb_steps.proofs.Rooms.{room_fewer}
use Rattle.tdb_steps.proofs.FreeWrites.{zeros_of, zeros_long, zero_there, torn_put, torn_wider, torn_then}
use Rattle.tdb_steps.proofs.wiping.zero_heads.Goals as goal

pub write-requires-clause-room : goal.write-requires-clause-room
write-requires-clause-room g c =
    let v = c.loop-at.invariant in
    let n = c.min-count.result in
    let chains = (g.S.Space.form c.args.s.now).chains in
    let w = (c.loop-at.at - 168 + 4095) / 4096 in
    let done = c.loop-at.at - 168 in
    let long : length (zeros_of n 4096) ≡ n = zeros_long n 4096 (omega (arith, c.min-count.ensures)) in
    let fewer : w + 1 ≤ chains / 1024 + 1 = elim v.blocks [ inl whole ↦ omega (arith, whole, v.low, c.loop-at-test.true, c.data_start-end.ensures, c.hash_size.ensures) | inr last ↦ absurd (omega (arith, last, c.loop-at-test.true, c.data_start-end.ensures, c.hash_size.ensures)) ] in
    let shorter : done + n ≤ 4 * chains + 4 = omega (arith, v.low, c.min-count.ensures, c.loop-at-test.true, c.data_start-end.ensures, c.hash_size.ensures) in
    room_for (g.S.Space.spare c.loop-at.s) 1 n (v.spare.each 1 n (room_fewer (g.S.Space.spare c.args.s.now) (chains / 1024 + 1) (4 * chains + 4) (w + 1) (done + n) fewer shorter c.requires.room)) (omega arith)
    (length (zeros_of n 4096)) (omega (arith, long))

pub returns-in_err-write-clause-spare : goal.returns-in_err-write-clause-spare
returns-in_err-write-clause-spare g c =
    let v = c.loop-at.invariant in
    let n = c.min-count.result in
    let chains = (g.S.Space.form c.args.s.now).chains in
    let w = (c.loop-at.at - 168 + 4095) / 4096 in
    let done = c.loop-at.at - 168 in
    let old = g.S.Space.spare c.args.s.now in
    let mid = g.S.Space.spare c.loop-at.s in
    let new = g.S.Space.spare c.write.new.self in
    let long : length (zeros_of n 4096) ≡ n = zeros_long n 4096 (omega (arith, c.min-count.ensures)) in
    let fewer : w + 1 ≤ chains / 1024 + 1 = elim v.blocks [ inl whole ↦ omega (arith, whole, v.low, c.loop-at-test.true, c.data_start-end.ensures, c.hash_size.ensures) | inr last ↦ absurd (omega (arith, last, c.loop-at-test.true, c.data_start-end.ensures, c.hash_size.ensures)) ] in
    let shorter : done + n ≤ 4 * chains + 4 = omega (arith, v.low, c.min-count.ensures, c.loop-at-test.true, c.data_start-end.ensures, c.hash_size.ensures) in
    room_more old new (w + 1) (done + n) (chains / 1024 + 1) (4 * chains + 4) fewer shorter
    (room_then old mid new w done 1 n v.spare (room_tried mid new n (subst (λ k. SpentUpTo mid k new) long c.in_err-write.ensures.spare)))

pub returns-in_err-write-clause-bytes_read : goal.returns-in_err-write-clause-bytes_read
returns-in_err-write-clause-bytes_read g c =
    let v = c.loop-at.invariant in
    let n = c.min-count.result in
    let chains = (g.S.Space.form c.args.s.now).chains in
    let w = (c.loop-at.at - 168 + 4095) / 4096 in
    let long : length (zeros_of n 4096) ≡ n = zeros_long n 4096 (omega (arith, c.min-count.ensures)) in
    let fewer : w + 1 ≤ chains / 1024 + 1 = elim v.blocks [ inl whole ↦ omega (arith, whole, v.low, c.loop-at-test.true, c.data_start-end.ensures, c.hash_size.ensures) | inr last ↦ absurd (omega (arith, last, c.loop-at-test.true, c.data_start-end.ensures, c.hash_size.ensures)) ] in
    let shorter : c.loop-at.at - 168 + n ≤ 4 * chains + 4 = omega (arith, v.low, c.min-count.ensures, c.loop-at-test.true, c.data_start-end.ensures, c.hash_size.ensures) in
    record {
      no_more = omega (arith, v.bytes_read.no_more, c.write.ensures.bytes_read.no_more, long, fewer, shorter);
      never_falls = omega (arith, v.bytes_read.never_falls, c.write.ensures.bytes_read.never_falls);
    }

pub loop-at-preserved : goal.loop-at-preserved
loop-at-preserved g c =
    let v = c.loop-at.invariant in
    let n = c.min-count.result in
    let at = c.loop-at.at in
    let chains = (g.S.Space.form c.args.s.now).chains in
    let end : c.data_start-end.result ≡ data_start (g.S.Space.form c.args.s.now) = omega (arith, c.data_start-end.ensures, c.hash_size.ensures) in
    let w = (at - 168 + 4095) / 4096 in
    let done = at - 168 in
    let old = g.S.Space.spare c.args.s.now in
    let mid = g.S.Space.spare c.loop-at.s in
    let new = g.S.Space.spare c.write.new.self in
    let zeros = zeros_of n 4096 in
    let short : n ≤ 4096 = omega (arith, c.min-count.ensures) in
    let some : 1 ≤ n = omega (arith, c.min-count.ensures, c.loop-at-test.true) in
    let long : length zeros ≡ n = zeros_long n 4096 short in
    let high : at + n ≤ data_start (g.S.Space.form c.args.s.now) = omega (arith, c.min-count.ensures, c.loop-at-test.true, end) in
    let image = g.S.Space.image c.loop-at.s in
    record {
      low = omega (arith, v.low);
      high = high;
      blocks = elim v.blocks [
        | inl whole ↦ elim (cases_lt n 4096) [
          | inl less ↦ inr (omega (arith, less, c.min-count.ensures, c.loop-at-test.true, end))
          | inr full ↦ inl (omega (arith, whole, full, short, v.low))
        ]
        | inr last ↦ absurd (omega (arith, last, c.loop-at-test.true, end))
      ];
      zeros = λ told i low below.
          ap (λ x. slice_index x i) (c.in_ok-write.ensures.image told)
          ∙ elim (cases_lt i at) [
            | inl before ↦ overlay_below image at zeros i before ∙ v.zeros told i low before
            | inr from ↦
                overlay_in image at zeros i from (omega (arith, below, long))
                (omega (arith, below, high, g.met.S.Space.told_size c.args.s.now told, c.requires.heads, (v.only told).size))
                ∙ zero_there n 4096 (i - at) short (omega (arith, from, below))
          ];
      only = λ told.
          torn_then free_head (4 * (chains + 1)) (g.S.Space.image c.args.s.now) image (g.S.Space.image c.write.new.self) (v.only told)
          (torn_wider at n free_head (4 * (chains + 1)) image (g.S.Space.image c.write.new.self) (omega (arith, v.low)) (omega (arith, high))
          (torn_put image (g.S.Space.image c.write.new.self) at zeros n long (c.in_ok-write.ensures.image told)));
      size = search rules;
      wrote = record {
        form = c.write.ensures.form ∙ v.wrote.form;
        disk = λ still. c.write.ensures.disk still ∙ v.wrote.disk still;
        under = c.write.ensures.under ∙ v.wrote.under;
      };
      faults = search rules;
      bytes_read =
          (let more : w + 1 ≤ (at + n - 168 + 4095) / 4096 = elim v.blocks [ inl whole ↦ omega (arith, whole, some, v.low) | inr last ↦ absurd (omega (arith, last, c.loop-at-test.true, end)) ] in
          record {
            no_more = omega (arith, v.bytes_read.no_more, c.write.ensures.bytes_read.no_more, long, more, v.low);
            never_falls = omega (arith, c.write.ensures.bytes_read.never_falls, v.bytes_read.never_falls);
          });
      spare =
          room_more old new (w + 1) (done + n) ((at + n - 168 + 4095) / 4096) (at + n - 168)
          (elim v.blocks [ inl whole ↦ omega (arith, whole, some, v.low) | inr last ↦ absurd (omega (arith, last, c.loop-at-test.true, end)) ]) (omega (arith, v.low))
          (room_then old mid new w done 1 n v.spare (room_spent mid new n (c.in_ok-write.ensures.spare ∙ ap (spent mid) long)));
    }

pub returns-clause-bytes_read : goal.returns-clause-bytes_read
returns-clause-bytes_read g c =
    let v = c.loop-at.invariant in
    let chains = (g.S.Space.form c.args.s.now).chains in
    let blocks : (c.loop-at.at - 168 + 4095) / 4096 ≤ chains / 1024 + 1 = omega (arith, v.low, v.high) in
    record { no_more = omega (arith, v.bytes_read.no_more, v.low, v.high, blocks); never_falls = v.bytes_read.never_falls }
