-- A run that begins, and one block more of it.
use Rattle.std.proofs.Common.{◌≡◌, inl, inr, List, ◌+◌, ◌≤◌, ℕ, length, take, replicate, sym, subst, ◌∙◌, ap, arith, rules}
use Rattle.std.specs.Prelude.{slice_index}
use Rattle.std.proofs.lemmas.List.{length-take, length-replicate, get_or-take, get_or-replicate, get_or_past}
use Rattle.std.proofs.lemmas.Bool.{cases_lt}
use Rattle.tdb_disk.specs.History.{seen}
use Rattle.tdb_space.specs.Opening.{lies_in}
use Rattle.tdb_undo.specs.Torn.{Put}
use Rattle.tdb_undo.proofs.Blocks.{start_torn, write_torn, put_none, put_zeros}
use Rattle.tdb_undo.proofs.Lies.{lies}
use Rattle.tdb_undo.proofs.pieces.zero_bytes.Goals as goal

pub loop-done-init : goal.loop-done-init
loop-done-init g c = record {
  within = omega arith;
  stops = λ told. start_torn (g.D.Disk.history c.args.d.now) (lies_in c.args.from c.args.count);
  put = λ told. put_none _ c.args.from (seen (g.D.Disk.history c.args.d.now));
  size = search rules;
  faults = search rules;
  syncs = search rules;
  bytes_read = search rules;
}

pub returns-in_err-write-clause-stops : goal.returns-in_err-write-clause-stops
returns-in_err-write-clause-stops g c told =
    let zeros : List ℕ = replicate 4096 0 in
    let sized : length (take c.min-size.result zeros) ≡ c.min-size.result = omega (arith, length-take c.min-size.result zeros, length-replicate {A = ℕ} 4096 0, c.min-size.ensures) in
    write_torn _ (g.D.Disk.history c.loop-done.d) _ (lies_in c.args.from c.args.count) (c.args.from + c.loop-done.done) (length (take c.min-size.result zeros))
    (λ i low high. lies c.args.from c.args.count i (omega (arith, low)) (omega (arith, high, sized, c.min-size.ensures)))
    (c.loop-done.invariant.stops told)
    c.write.ensures.tried

pub loop-done-preserved : goal.loop-done-preserved
loop-done-preserved g c =
    let v = c.loop-done.invariant in
    let zeros : List ℕ = replicate 4096 0 in
    let sized : length (take c.min-size.result zeros) ≡ c.min-size.result = omega (arith, length-take c.min-size.result zeros, length-replicate {A = ℕ} 4096 0, c.min-size.ensures) in
    let first = seen (g.D.Disk.history c.args.d.now) in
    let within : c.loop-done.done + c.min-size.result ≤ c.args.count = omega (arith, c.min-size.ensures) in
    record {
      within = within;
      stops = λ told.
          write_torn _ (g.D.Disk.history c.loop-done.d) _ (lies_in c.args.from c.args.count) (c.args.from + c.loop-done.done) (length (take c.min-size.result zeros))
          (λ i low high. lies c.args.from c.args.count i (omega (arith, low)) (omega (arith, high, sized, within)))
          (v.stops told)
          c.write.ensures.tried;
      put = λ told.
          (let long = g.met.D.Disk.told_size c.args.d.now told in
          subst (Put (lies_in c.args.from (c.loop-done.done + c.min-size.result)) (λ _. 0) first)
          (sym (ap seen (c.in_ok-write.ensures.done told)))
          (put_zeros c.args.from c.loop-done.done c.min-size.result first (seen (g.D.Disk.history c.loop-done.d)) (take c.min-size.result zeros)
          (omega (arith, long, c.requires.within, within)) sized (v.put told)
          (λ k low. get_or-take c.min-size.result zeros k 0 low ∙ zero_there k)));
      size = search rules;
      faults = search rules;
      syncs = search rules;
      bytes_read = search rules;
    }
  where
    zero_there : (k : ℕ) → slice_index (replicate 4096 0) k ≡ 0
    zero_there k = elim (cases_lt k 4096) [
      | inl low ↦ get_or-replicate 4096 k 0 0 low
      | inr high ↦ get_or_past (replicate 4096 0) k 0 (omega (arith, high, length-replicate {A = ℕ} 4096 0))
    ]
