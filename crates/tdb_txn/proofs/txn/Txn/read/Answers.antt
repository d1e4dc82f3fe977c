use Rattle.std.proofs.Common.{◌≡◌, ◌∙◌, ◌-◌, length, arith}
use Rattle.std.proofs.lemmas.Grind.{common_steps}
use Rattle.tdb_disk.specs.History.{seen}
use Rattle.tdb_txn.specs.Pages.{length_filled, byte_over}
use Rattle.tdb_txn.specs.Stock.{page_list}
use Rattle.tdb_txn.specs.Txn.{txn_image}
use Rattle.tdb_txn.proofs.Places.{part_read}
use Rattle.tdb_txn.proofs.txn.Txn.read.Goals as goal

pub loop-done-preserved : goal.loop-done-preserved
loop-done-preserved g c =
    let part = c.after-part.result in
    let is_part = c.after-part.ensures in
    let was = c.loop-done.invariant in
    let read = c.read_part.ensures in
    let file = seen (g.D.Disk.history c.args.d.now) in
    let image = txn_image c.args.self.now file in
    let image_long : length image ≡ c.args.self.now.size = length_filled (byte_over (page_list c.args.self.now.pages) file) c.args.self.now.size in
    let same : length c.loop-done.buf ≡ length c.args.buf.now = c.loop-done.auto.buf in
    let piece_long : length c.read_part.new.buf ≡ part.end - c.loop-done.done = grind (arith, common_steps) in
    record {
      inside = omega (arith, is_part.inside, same);
      bytes = λ told.
          part_read image c.loop-done.buf c.read_part.new.buf c.args.off c.loop-done.done part.end is_part.more is_part.inside
          (omega (arith, c.requires.inside, same, image_long)) (was.bytes told)
          (rw (← is_part.start, ← was.history) (grind (arith, common_steps, c.in_ok-read_part.ensures.bytes told)));
      size = read.size ∙ was.size;
      history = read.history ∙ was.history;
      faults = c.in_ok-read_part.ensures.cause.done ∙ was.faults;
      syncs = read.syncs ∙ was.syncs;
      bytes_read = omega (arith, read.bytes_read.no_more, was.bytes_read, piece_long, is_part.more);
      never_falls = omega (arith, was.never_falls, read.bytes_read.never_falls);
    }
