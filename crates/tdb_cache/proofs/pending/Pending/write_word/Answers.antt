use Rattle.std.proofs.Common.{◌≡◌, ◌∙◌, ◌≤◌, ◌+◌, ◌/◌, ◌%◌, None, length, inr, ap, subst, arith, rules, List, ℕ}
use Rattle.tdb_disk.specs.History.{seen, wrote_word}
use Rattle.tdb_cache.specs.View.{ViewTried}
use Rattle.tdb_disk.specs.Image.{overlay}
use Rattle.tdb_cache.specs.Blocks.{block_at, block_size}
use Rattle.tdb_cache.specs.Laid.{laid, LiesInKept}
use Rattle.tdb_cache.proofs.Laids.{laid-held, laid-tried_word, unheld, word_done}
use Rattle.tdb_cache.proofs.pending.Pending.write_word.Goals as goal

pub returns-then-holds-clause-view : goal.returns-then-holds-clause-view
returns-then-holds-clause-view g c = λ told.
    let image = seen (g.D.Disk.history c.gather.new.d) in
    let blocks = c.gather.new.self.blocks in
    let size : length image ≡ g.D.Disk.size c.gather.new.d = g.met.D.Disk.told_size c.gather.new.d told in
    let long : length c.args.w ≡ 4 = search rules in
    let held : LiesInKept blocks c.args.off (length c.args.w) = rw long (c.holds.ensures.0 c.if-holds.true) in
    laid-held blocks c.overwrite.new.self image c.args.w c.args.off (rw (size) c.gather.ensures.sized)
    (c.overwrite.ensures.sized (length image) (rw (size) c.gather.ensures.sized)) c.overwrite.ensures.same
    (omega (arith, long, size, c.gather.ensures.size, c.requires.range)) c.overwrite.ensures.shown held
    ∙ ap (λ view. overlay view c.args.off c.args.w) (c.gather.ensures.view told)

pub returns-then-holds-clause-tried : goal.returns-then-holds-clause-tried
returns-then-holds-clause-tried g c = λ told. inr (returns-then-holds-clause-view g c told)

pub returns-clause-view : goal.returns-clause-view
returns-clause-view g c =
    let blocks = c.gather.new.self.blocks in
    let long : length c.args.w ≡ 4 = search rules in
    let one_block : c.args.off % block_size + 4 ≤ block_size = omega (arith, c.requires.aligned) in
    let none : block_at blocks (c.args.off / block_size) ≡ None =
    unheld blocks c.args.off 4 (λ held. absurd (grind (arith, c.holds.ensures.1 held, c.if-holds.false))) one_block in
    word_done c.write_word.result blocks (g.D.Disk.history c.gather.new.d) (g.D.Disk.history c.write_word.new.self) c.args.off
    c.args.w _ g.D.Disk.tells none (omega (arith, long, one_block)) c.gather.ensures.view c.write_word.ensures.done

pub returns-clause-tried : goal.returns-clause-tried
returns-clause-tried g c = λ told.
    let blocks = c.gather.new.self.blocks in
    let now = g.D.Disk.history c.write_word.new.self in
    let long : length c.args.w ≡ 4 = search rules in
    let one_block : c.args.off % block_size + 4 ≤ block_size = omega (arith, c.requires.aligned) in
    let none : block_at blocks (c.args.off / block_size) ≡ None =
    unheld blocks c.args.off 4 (λ held. absurd (grind (arith, c.holds.ensures.1 held, c.if-holds.false))) one_block in
    subst (λ (view : List ℕ). ViewTried (wrote_word c.args.off c.args.w) view (laid blocks (seen now))) (c.gather.ensures.view told)
    (laid-tried_word blocks (g.D.Disk.history c.gather.new.d) now c.args.off c.args.w none (omega (arith, long, one_block))
    c.write_word.ensures.tried)
