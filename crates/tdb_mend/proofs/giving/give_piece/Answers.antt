-- A run that begins, one block more of it, and all of it.
use Rattle.std.proofs.Common.{◌≡◌, ◌+◌, ◌-◌, ◌≤◌, length, take, drop, sym, subst, ◌∙◌, ap, arith, rules}
use Rattle.std.specs.Prelude.{slice_index}
use Rattle.std.proofs.lemmas.List.{length-take}
use Rattle.tdb_disk.specs.Image.{overlay}
use Rattle.tdb_space.specs.Opening.{lies_in}
use Rattle.tdb_undo.specs.Torn.{Put}
use Rattle.tdb_mend.proofs.Pieces.{piece_none, piece_more, piece_all}
use Rattle.tdb_mend.proofs.giving.give_piece.Goals as goal

pub loop-at-init : goal.loop-at-init
loop-at-init g c = record {
  from = omega arith;
  within = omega arith;
  put = λ told. piece_none c.args.source c.args.off c.args.from (g.S.Space.image c.args.s.now);
  wrote = search rules;
  size = search rules;
  faults = search rules;
}

pub loop-at-preserved : goal.loop-at-preserved
loop-at-preserved g c =
    let sized : length c.read.new.buf ≡ c.min-size.result = c.read.auto.buf ∙ omega (arith, length-take c.min-size.result c.loop-at.block, c.min-size.ensures) in
    let v = c.loop-at.invariant in
    let first = g.S.Space.image c.args.s.now in
    let now = g.S.Space.image c.loop-at.s in
    let at = c.loop-at.at in
    let size = c.min-size.result in
    let fits : c.loop-at.at + c.min-size.result ≤ c.args.to = omega (arith, c.min-size.ensures, c.loop-at-test.true) in
    record {
      from = omega (arith, v.from);
      within = omega (arith, v.from, fits);
      put = λ told.
          (let long = g.met.S.Space.told_size c.args.s.now told in
          let read : c.read.new.buf ≡ take c.min-size.result (drop (c.args.source + (c.loop-at.at - c.args.off)) (g.S.Space.image c.loop-at.s)) =
          c.in_ok-read.ensures.bytes told ∙ ap (λ n. take n (drop (c.args.source + (c.loop-at.at - c.args.off)) (g.S.Space.image c.loop-at.s))) (sym c.read.auto.buf ∙ sized) in
          subst (Put (lies_in c.args.from (c.loop-at.at + c.min-size.result - c.args.from)) (λ i. slice_index first (c.args.source + (i - c.args.off))) first)
          (sym (c.in_ok-put.ensures.set told ∙ ap (λ img. overlay img c.loop-at.at c.read.new.buf) c.read.ensures.image))
          (piece_more c.args.source c.args.off c.args.from c.args.to at size first now c.read.new.buf c.requires.above v.from fits (omega (arith, long, c.requires.target_within)) (omega (arith, long, c.requires.source_within))
          c.requires.apart (v.put told) read));
      wrote = search rules;
      size = search rules;
      faults = search rules;
    }

pub returns-clause-put : goal.returns-clause-put
returns-clause-put g c told =
    let v = c.loop-at.invariant in
    piece_all c.args.source c.args.off c.args.from c.args.to c.loop-at.at (g.S.Space.image c.args.s.now) (g.S.Space.image c.loop-at.s) v.from v.within (omega (arith, c.loop-at-test.false)) (v.put told)
