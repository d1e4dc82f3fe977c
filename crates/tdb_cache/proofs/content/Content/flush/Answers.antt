use Rattle.std.proofs.Common.{◌≡◌, ◌-◌, ◌≤◌, length, take, drop, arith}
use Rattle.std.proofs.lemmas.Grind.{common_steps}
use Rattle.std.proofs.lemmas.List.{places}
use Rattle.tdb_disk.specs.History.{seen}
use Rattle.tdb_cache.specs.Content.{content_bytes}
use Rattle.tdb_cache.proofs.Contents.{SameWritten-tried, image_if_written, image_written}
use Rattle.tdb_cache.proofs.content.Content.flush.Goals as goal
use Rattle.tdb_cache.proofs.content.Content.flush.Goals.{then-start-end+in_ok-write, else-start-end}

pub returns-in_err-write-clause-same : goal.returns-in_err-write-clause-same
returns-in_err-write-clause-same g c = λ told.
    let start = c.args.self.now.pending.start in
    let end = c.min-end.result in
    let bytes = take (end - start) (drop start c.deref.result.now) in
    let long : length bytes ≡ end - start = grind (arith, common_steps) in
    SameWritten-tried c.args.self.now (g.D.Disk.history c.len.new.self) (g.D.Disk.history c.write.new.self) (length bytes)
    c.write.ensures.tried (omega (arith, long)) (rw c.len.ensures.history (c.requires.same told))

pub returns-clause-written : goal.returns-clause-written
returns-clause-written g c = λ told.
    let content = c.args.self.now in
    let image = seen (g.D.Disk.history c.args.d.now) in
    let size : length image ≡ g.D.Disk.size c.args.d.now = g.met.D.Disk.told_size c.args.d.now told in
    let known : c.in_ok-size.size ≡ g.D.Disk.size c.args.d.now = c.in_ok-size.ensures.length in
    let reaches : length image ≤ length (content_bytes content) = omega (arith, size, c.requires.reaches) in
    elim c.if-start-end.branch [
      | then-start-end+in_ok-write w ↦
          rw (w.d-is, w.in_ok-write.ensures.done told, c.len.ensures.history, w.deref.ensures.value, ← size)
          (image_written content image c.min-end.result (c.requires.same told) reaches (omega (arith, size, known)))
      | else-start-end w ↦
          rw (w.d-is, c.len.ensures.history, ← size)
          (image_if_written content image (c.requires.same told) reaches (omega (arith, size, known)))
    ]

pub returns-clause-same : goal.returns-clause-same
returns-clause-same g c = λ told.
    rw (returns-clause-written g c told) (λ at within written. grind (arith, places, within))
