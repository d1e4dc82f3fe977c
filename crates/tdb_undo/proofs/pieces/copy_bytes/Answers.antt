-- A run that begins, and one block more of it.
use Rattle.std.proofs.Common.{◌≡◌, ◌+◌, ◌-◌, ◌≤◌, length, take, drop, sym, subst, ◌∙◌, ap, arith, rules}
use Rattle.std.specs.Prelude.{slice_index}
use Rattle.std.proofs.lemmas.List.{length-take}
use Rattle.tdb_disk.specs.History.{seen, called, wrote}
use Rattle.tdb_disk.specs.Stop.{LeavesOnly}
use Rattle.tdb_space.specs.Opening.{lies_in}
use Rattle.tdb_undo.specs.Torn.{TornIn, Put}
use Rattle.tdb_undo.proofs.Blocks.{start_torn, write_torn, put_none, put_copied}
use Rattle.tdb_undo.proofs.Lies.{lies}
use Rattle.tdb_undo.proofs.pieces.copy_bytes.Goals as goal

pub loop-done-init : goal.loop-done-init
loop-done-init g c = record {
  within = omega arith;
  stops = λ told. start_torn (g.D.Disk.history c.args.d.now) (lies_in c.args.to c.args.count);
  put = λ told. put_none _ c.args.to (seen (g.D.Disk.history c.args.d.now));
  size = search rules;
  faults = search rules;
  syncs = search rules;
  bytes_read = record { no_more = omega arith; never_falls = omega arith };
}

pub returns-in_err-write-clause-stops : goal.returns-in_err-write-clause-stops
returns-in_err-write-clause-stops g c told =
    let sized : length c.read.new.buf ≡ c.min-size.result = c.read.auto.buf ∙ omega (arith, length-take c.min-size.result c.loop-done.block, c.min-size.ensures) in
    write_torn _ (g.D.Disk.history c.read.new.self) _ (lies_in c.args.to c.args.count) (c.args.to + c.loop-done.done) (length c.read.new.buf)
    (λ i low high. lies c.args.to c.args.count i (omega (arith, low)) (omega (arith, high, sized, c.min-size.ensures)))
    (subst (λ h. LeavesOnly (g.D.Disk.history c.args.d.now) h (TornIn (lies_in c.args.to c.args.count) (g.D.Disk.history c.args.d.now))) (sym c.read.ensures.history) (c.loop-done.invariant.stops told))
    c.write.ensures.tried

pub loop-done-preserved : goal.loop-done-preserved
loop-done-preserved g c =
    let sized : length c.read.new.buf ≡ c.min-size.result = c.read.auto.buf ∙ omega (arith, length-take c.min-size.result c.loop-done.block, c.min-size.ensures) in
    let v = c.loop-done.invariant in
    let first = seen (g.D.Disk.history c.args.d.now) in
    let within : c.loop-done.done + c.min-size.result ≤ c.args.count = omega (arith, c.min-size.ensures) in
    record {
      within = within;
      stops = λ told.
          write_torn _ (g.D.Disk.history c.read.new.self) _ (lies_in c.args.to c.args.count) (c.args.to + c.loop-done.done) (length c.read.new.buf)
          (λ i low high. lies c.args.to c.args.count i (omega (arith, low)) (omega (arith, high, sized, within)))
          (subst (λ h. LeavesOnly (g.D.Disk.history c.args.d.now) h (TornIn (lies_in c.args.to c.args.count) (g.D.Disk.history c.args.d.now))) (sym c.read.ensures.history) (v.stops told))
          c.write.ensures.tried;
      put = λ told.
          (let long = g.met.D.Disk.told_size c.args.d.now told in
          let read : c.read.new.buf ≡ take c.min-size.result (drop (c.args.from + c.loop-done.done) (seen (g.D.Disk.history c.loop-done.d))) =
          c.in_ok-read.ensures.bytes told ∙ ap (λ n. take n (drop (c.args.from + c.loop-done.done) (seen (g.D.Disk.history c.loop-done.d)))) (sym c.read.auto.buf ∙ sized) in
          subst (Put (lies_in c.args.to (c.loop-done.done + c.min-size.result)) (λ i. slice_index first (c.args.from + (i - c.args.to))) first)
          (sym (ap seen (c.in_ok-write.ensures.done told) ∙ ap (λ h. seen (called h (wrote (c.args.to + c.loop-done.done) c.read.new.buf))) c.read.ensures.history))
          (put_copied c.args.from c.args.to c.args.count c.loop-done.done c.min-size.result first (seen (g.D.Disk.history c.loop-done.d)) c.read.new.buf
          (omega (arith, long, c.requires.source)) (omega (arith, long, c.requires.target)) c.requires.apart within (v.put told) read));
      size = search rules;
      faults = search rules;
      syncs = search rules;
      bytes_read = record { no_more = omega (arith, v.bytes_read.no_more, c.read.ensures.bytes_read.no_more, c.write.ensures.bytes_read, sized); never_falls = omega (arith, v.bytes_read.never_falls, c.read.ensures.bytes_read.never_falls, c.write.ensures.bytes_read) };
    }
