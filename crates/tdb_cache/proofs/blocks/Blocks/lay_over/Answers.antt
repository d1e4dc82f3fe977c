use Rattle.std.proofs.Common.{◌≡◌, ◌≤◌, ◌-◌, length, take, drop, arith}
use Rattle.std.proofs.lemmas.Grind.{common_steps}
use Rattle.tdb_cache.proofs.Laids.{lay-more, lay-rest}
use Rattle.tdb_cache.proofs.Tables.{piece_reached}
use Rattle.tdb_cache.proofs.blocks.Blocks.lay_over.Goals as goal

pub copy_out-requires : goal.copy_out-requires
copy_out-requires c =
    let piece = c.after-piece.result in
    piece_reached c.args.self.now piece.number piece.within
    (length (take (piece.end - c.loop-done.done) (drop c.loop-done.done c.loop-done.buf))) _ c.requires
    (grind (arith, common_steps)) (grind (arith, common_steps))

pub loop-done-preserved : goal.loop-done-preserved
loop-done-preserved c =
    let piece = c.after-piece.result in
    let is_piece = c.after-piece.ensures in
    let was = c.loop-done.invariant in
    let same : length c.loop-done.buf ≡ length c.args.buf.now = c.loop-done.auto.buf in
    let part : length c.copy_out.new.buf ≡ piece.end - c.loop-done.done = grind (arith, common_steps) in
    let reached = piece_reached c.args.self.now piece.number piece.within (piece.end - c.loop-done.done) _ c.requires
    (grind (arith, common_steps)) (grind (arith, common_steps)) in
    record {
      inside = omega (arith, is_piece.inside, same);
      front = lay-more c.args.self.now c.args.buf.now c.loop-done.buf c.copy_out.new.buf c.args.off c.loop-done.done piece.end
          piece.number piece.within is_piece.more is_piece.inside is_piece.start is_piece.one_block part
          (λ block is. grind (arith, common_steps, c.copy_out.ensures.copied block is))
          (λ none. c.copy_out.ensures.rest none) reached was.front was.back;
      back = lay-rest c.args.buf.now c.loop-done.buf c.copy_out.new.buf c.loop-done.done piece.end is_piece.more is_piece.inside part
          was.back;
    }
