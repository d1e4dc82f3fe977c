-- One piece more.
use Rattle.std.proofs.Common.{◌≡◌, ◌+◌, ◌≤◌, length, take, drop, length-take, ◌∙◌, subst, arith, rules}
use Rattle.sha2.specs.Hashers.{Holds256}
use Rattle.tdb_check.proofs.Windows.{pieces_join}
use Rattle.tdb_check.proofs.Rising.{rose_then, rose_within}
use Rattle.tdb_check.proofs.same_key.bytes_digest.Goals as goal

pub loop-done-preserved : goal.loop-done-preserved
loop-done-preserved g c =
    let img = g.S.Space.image c.args.s.now in
    let n = length c.read.new.buf in
    let at = c.loop-done.done in
    let long : length (take c.min.result c.loop-done.buf) ≡ n = omega arith in
    let within : at + n ≤ c.args.count = omega (arith, length-take c.min.result c.loop-done.buf, c.min.ensures, c.min.array_long) in
    record {
      within = within;
      held = λ told.
          (let piece : c.read.new.buf ≡ take n (drop (c.args.from + at) img) = c.in_ok-read.ensures.bytes told ∙ (λ i. take (long i) (drop (c.args.from + at) (c.loop-done.invariant.looked.image i))) in
          subst (Holds256 c.update.new.self) (pieces_join img c.args.from at n c.read.new.buf piece)
          (c.update.ensures (take at (drop c.args.from img)) (c.loop-done.invariant.held told)));
      bytes_read = rose_then _ _ _ _ _ _ c.loop-done.invariant.bytes_read c.in_ok-read.ensures.bytes_read (omega (arith, long));
      looked = search rules;
      faults = search rules;
    }

pub returns-in_err-read-clause-bytes_read : goal.returns-in_err-read-clause-bytes_read
returns-in_err-read-clause-bytes_read g c =
    let within : c.loop-done.done + length (take c.min.result c.loop-done.buf) ≤ c.args.count = omega (arith, length-take c.min.result c.loop-done.buf, c.min.ensures, c.min.array_long) in
    rose_then _ _ _ _ _ _ c.loop-done.invariant.bytes_read c.in_err-read.ensures.bytes_read within

pub returns-clause-bytes_read : goal.returns-clause-bytes_read
returns-clause-bytes_read g c = rose_within _ _ _ _ c.loop-done.invariant.bytes_read (omega (arith, c.loop-done.invariant.within))
