use Rattle.std.proofs.Common.{◌≡◌, ◌≤◌, ◌<◌, ◌+◌, ◌-◌, ◌/◌, ◌∙◌, ap, inl, inr, length, arith}
use Rattle.std.proofs.lemmas.Bool.{cases_lt}
use Rattle.std.proofs.lemmas.Grind.{common_steps}
use Rattle.tdb_disk.specs.History.{seen}
use Rattle.tdb_cache.specs.Blocks.{block_at, block_size}
use Rattle.tdb_cache.specs.Cached.{cached_inner}
use Rattle.std.specs.Prelude.{IsSome}
use Rattle.tdb_cache.proofs.Bytes.{part_read}
use Rattle.tdb_cache.proofs.Looks.{Looked-join, Refused-later, Refused-since}
use Rattle.tdb_cache.proofs.cached.Cached.read_pieces.Goals as goal

pub loop-done-preserved : goal.loop-done-preserved
loop-done-preserved g c =
    let piece = c.after-piece.result in
    let is_piece = c.after-piece.ensures in
    let was = c.loop-done.invariant in
    let read = c.read_piece.ensures in
    let image = seen (g.D.Disk.history c.args.self.now.inner) in
    let same : length c.loop-done.buf ≡ length c.args.buf.now = c.loop-done.auto.buf in
    let inside : piece.end ≤ length c.args.buf.now = omega (arith, is_piece.inside, same) in
    let more : c.loop-done.done < length c.args.buf.now = omega (arith, is_piece.more, inside) in
    let here : piece.number ≡ (c.args.off + c.loop-done.done) / block_size =
    omega (arith, is_piece.start, is_piece.more, is_piece.one_block) in
    let part : length c.read_piece.new.buf ≡ piece.end - c.loop-done.done = grind (arith, common_steps) in
    record {
      inside = inside;
      bytes = λ told.
          part_read image c.loop-done.buf c.read_piece.new.buf c.args.off c.loop-done.done piece.end is_piece.more is_piece.inside
          (omega (arith, g.met.D.Disk.told_size c.args.self.now.inner told, c.requires, same)) (was.bytes told)
          (rw (← is_piece.start, ← was.looked.history) (grind (arith, common_steps, c.in_ok-read_piece.ensures.bytes told)));
      looked = Looked-join c.args.self.now c.loop-done.self c.read_piece.new.self was.looked read.looked;
      faults = c.in_ok-read_piece.ensures.cause.done ∙ was.faults;
      bytes_read = omega (arith, read.bytes_read.no_more, is_piece.more, was.on_the_way more);
      never_falls = omega (arith, was.never_falls, read.bytes_read.never_falls);
      at_a_block = elim is_piece.whole [
        | inl end ↦ inl (omega (arith, end, same))
        | inr full ↦ inr (inr (omega (arith, full, is_piece.start)))
      ];
      at_first = λ none. absurd (omega (arith, none, is_piece.more));
      on_the_way = λ less. elim is_piece.whole [
        | inl end ↦ absurd (omega (arith, end, less, same))
        | inr full ↦ elim was.at_a_block [
          | inl all ↦ absurd (omega (arith, all, more))
          | inr (inl none) ↦ omega (arith, none, full, is_piece.start, is_piece.one_block, was.at_first none, read.bytes_read.no_more)
          | inr (inr start) ↦ omega (arith, start, full, is_piece.start, is_piece.one_block, was.on_the_way more, read.bytes_read.no_more)
        ]
      ];
      full = λ most.
          grind (arith, common_steps, (read.full (omega (arith, most, was.looked.count))).no_more, was.full most, part);
      there = λ keeps.
          let kept : IsSome (block_at c.loop-done.self.blocks piece.number) =
          rw here (was.looked.kept _ (keeps (c.args.off + c.loop-done.done) (omega arith) (omega (arith, more)))) in
          ap cached_inner (read.there kept) ∙ was.there keeps;
      filled = λ at low high. elim (cases_lt at (c.args.off + c.loop-done.done)) [
        | inl before ↦ elim (was.filled at low before) [
          | inl kept ↦ inl (read.looked.kept _ kept)
          | inr refused ↦ inr (Refused-later c.args.self.now.blocks c.loop-done.self.blocks c.read_piece.new.self.blocks _
              read.looked.count read.looked.starved refused)
        ]
        | inr behind ↦
            let same_block : at / block_size ≡ piece.number =
            omega (arith, behind, high, is_piece.start, is_piece.more, is_piece.one_block) in
            rw same_block (elim c.in_ok-read_piece.ensures.filled [
              | inl kept ↦ inl kept
              | inr refused ↦ inr (Refused-since c.args.self.now.blocks c.loop-done.self.blocks c.read_piece.new.self.blocks _
                  was.looked.starved refused)
            ])
      ];
      asked = read.asked ∙ was.asked;
    }
