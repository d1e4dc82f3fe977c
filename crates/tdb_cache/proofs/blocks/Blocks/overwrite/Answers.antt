use Rattle.std.proofs.Common.{◌≡◌, ◌-◌, List, ℕ, length, take, drop, subst, ◌∙◌, arith}
use Rattle.std.proofs.lemmas.Grind.{common_steps}
use Rattle.std.proofs.lemmas.List.{take_all}
use Rattle.tdb_disk.specs.Image.{overlay}
use Rattle.tdb_cache.specs.Blocks.{AllShown}
use Rattle.tdb_cache.proofs.Tables.{AllSized-patch, AllShown-more, Reaches-patch, SameKept-patch, piece_reached}
use Rattle.tdb_cache.proofs.blocks.Blocks.overwrite.Goals as goal

pub patch-requires : goal.patch-requires
patch-requires c =
    let piece = c.after-piece.result in
    let bytes = take (piece.end - c.loop-done.done) (drop c.loop-done.done c.args.bytes.now) in
    piece_reached c.loop-done.self piece.number piece.within (length bytes) _ c.loop-done.invariant.reaches
    (grind (arith, common_steps)) (grind (arith, common_steps))

pub loop-done-preserved : goal.loop-done-preserved
loop-done-preserved c =
    let piece = c.after-piece.result in
    let bytes = take (piece.end - c.loop-done.done) (drop c.loop-done.done c.args.bytes.now) in
    let patched = c.patch.ensures.patched in
    let others = c.patch.ensures.others in
    let was = c.loop-done.invariant in
    record {
      inside = c.after-piece.ensures.inside;
      reaches = Reaches-patch c.loop-done.self c.patch.new.self piece.number piece.within _ bytes patched others was.reaches;
      sized = λ size sized.
          AllSized-patch c.loop-done.self c.patch.new.self piece.number piece.within size bytes patched others (was.sized size sized);
      shown = λ image room sized shown.
          AllShown-more c.loop-done.self c.patch.new.self piece.number piece.within c.args.off c.loop-done.done piece.end image
          c.args.bytes.now patched others c.after-piece.ensures.start c.after-piece.ensures.more c.after-piece.ensures.inside
          c.after-piece.ensures.one_block room (was.sized (length image) sized) (was.shown image room sized shown);
      same = λ number.
          SameKept-patch c.loop-done.self c.patch.new.self piece.number piece.within bytes patched others number ∙ was.same number;
      count = c.patch.ensures.count ∙ was.count;
    }

pub returns-clause-shown : goal.returns-clause-shown
returns-clause-shown c = λ image room sized shown.
    let all : take c.loop-done.done c.args.bytes.now ≡ c.args.bytes.now = take_all _ _ (omega arith) in
    subst (λ (bytes : List ℕ). AllShown c.loop-done.self (overlay image c.args.off bytes)) all
    (c.loop-done.invariant.shown image room sized shown)
