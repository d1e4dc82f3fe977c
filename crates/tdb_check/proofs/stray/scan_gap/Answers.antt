-- A block that was read, without content and with.
use Rattle.std.proofs.Common.{◌≡◌, ◌+◌, ◌≤◌, length, take, drop, length-take, refl, sym, ◌∙◌, arith, rules}
use Rattle.tdb_check.proofs.Contents.{no_content_more, content_found}
use Rattle.tdb_check.proofs.stray.scan_gap.Goals as goal

pub returns-in-Some-clause-found : goal.returns-in-Some-clause-found
returns-in-Some-clause-found g c told =
    let img = g.S.Space.image c.args.s.now in
    let v = c.loop-at.invariant in
    let count : length (take c.min-count.result c.loop-at.block) ≡ c.min-count.result = omega (arith, length-take c.min-count.result c.loop-at.block, c.min-count.ensures) in
    let read : c.read.new.buf ≡ take c.min-count.result (drop c.loop-at.at img) = c.in_ok-read.ensures.bytes told ∙ (λ j. take (count j) (drop c.loop-at.at (v.looked.image j))) in
    let within : c.loop-at.at + c.min-count.result ≤ c.args.to = omega (arith, c.min-count.ensures, c.loop-at-test.true) in
    (refl, content_found img c.read.new.buf c.args.from c.loop-at.at c.min-count.result c.args.to c.in-Some.place (v.clean told) read (c.read.auto.buf ∙ count) (sym c.first_content.ensures ∙ c.in-Some.is) v.from within)

pub loop-at-preserved : goal.loop-at-preserved
loop-at-preserved g c =
    let img = g.S.Space.image c.args.s.now in
    let v = c.loop-at.invariant in
    let count : length (take c.min-count.result c.loop-at.block) ≡ c.min-count.result = omega (arith, length-take c.min-count.result c.loop-at.block, c.min-count.ensures) in
    record {
      from = omega arith;
      clean = λ told.
          (let read : c.read.new.buf ≡ take c.min-count.result (drop c.loop-at.at img) = c.in_ok-read.ensures.bytes told ∙ (λ j. take (count j) (drop c.loop-at.at (v.looked.image j))) in
          no_content_more img c.read.new.buf c.args.from c.loop-at.at c.min-count.result (v.clean told) read (c.read.auto.buf ∙ count) (sym c.first_content.ensures ∙ c.in_default.is));
      looked = search rules;
      within = omega arith;
      bytes_read = search rules;
      faults = search rules;
    }
