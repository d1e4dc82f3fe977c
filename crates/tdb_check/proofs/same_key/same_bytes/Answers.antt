-- A piece that differs, and one more that is the same.
use Rattle.std.proofs.Common.{◌≡◌, ◌+◌, ◌*◌, ◌≤◌, length, take, drop, length-take, sym, ◌∙◌, arith, rules}
use Rattle.std.proofs.lemmas.Bool.{MatchBool-at_true, MatchBool-at_false}
use Rattle.tdb_check.proofs.Windows.{pieces_same, piece_same}
use Rattle.tdb_check.proofs.Rising.{rose_then, rose_within}
use Rattle.tdb_check.proofs.same_key.same_bytes.Goals as goal

pub returns-then-not-branch-clause-same : goal.returns-then-not-branch-clause-same
returns-then-not-branch-clause-same g c told whole =
    let img = g.S.Space.image c.args.s.now in
    let image = c.loop-done.invariant.looked.image in
    let n = length c.read.new.buf in
    let at = c.loop-done.done in
    let long : length (take c.min.result c.loop-done.buf) ≡ n = omega arith in
    let first : c.read.new.buf ≡ take n (drop (c.args.first + at) img) = c.in_ok-read.ensures.bytes told ∙ (λ i. take (long i) (drop (c.args.first + at) (image i))) in
    let differs = MatchBool-at_false _ _ c.if-not-branch.true (c.in_ok-key_equals.ensures.equal told) in
    let within : at + n ≤ c.args.count = omega (arith, length-take c.min.result c.loop-done.buf, c.min.ensures, c.min.array_long) in
    differs ((λ i. take n (drop (c.args.second + at) ((c.read.ensures.image ∙ image) i))) ∙ sym (piece_same img c.args.first c.args.second at n c.args.count within whole) ∙ sym first)

pub loop-done-preserved : goal.loop-done-preserved
loop-done-preserved g c =
    let img = g.S.Space.image c.args.s.now in
    let image = c.loop-done.invariant.looked.image in
    let n = length c.read.new.buf in
    let at = c.loop-done.done in
    let long : length (take c.min.result c.loop-done.buf) ≡ n = omega arith in
    let within : at + n ≤ c.args.count = omega (arith, length-take c.min.result c.loop-done.buf, c.min.ensures, c.min.array_long) in
    record {
      within = within;
      same = λ told.
          (let first : c.read.new.buf ≡ take n (drop (c.args.first + at) img) = c.in_ok-read.ensures.bytes told ∙ (λ i. take (long i) (drop (c.args.first + at) (image i))) in
          let equal = MatchBool-at_true _ _ c.if-not-branch.false (c.in_ok-key_equals.ensures.equal told) in
          pieces_same img c.args.first c.args.second at n (c.loop-done.invariant.same told)
          (sym first ∙ sym equal ∙ (λ i. take n (drop (c.args.second + at) ((c.read.ensures.image ∙ image) i)))));
      bytes_read = rose_then (2 * at + n) n _ _ _ _ (rose_then _ _ _ _ _ _ c.loop-done.invariant.bytes_read c.in_ok-read.ensures.bytes_read (omega (arith, long))) c.in_ok-key_equals.ensures.bytes_read (omega arith);
      looked = search rules;
      faults = search rules;
    }

pub returns-in_err-read-clause-bytes_read : goal.returns-in_err-read-clause-bytes_read
returns-in_err-read-clause-bytes_read g c =
    let within : c.loop-done.done + length (take c.min.result c.loop-done.buf) ≤ c.args.count = omega (arith, length-take c.min.result c.loop-done.buf, c.min.ensures, c.min.array_long) in
    rose_then _ _ _ _ _ _ c.loop-done.invariant.bytes_read c.in_err-read.ensures.bytes_read (omega (arith, within))

pub returns-in_err-key_equals-clause-bytes_read : goal.returns-in_err-key_equals-clause-bytes_read
returns-in_err-key_equals-clause-bytes_read g c =
    let n = length c.read.new.buf in
    let at = c.loop-done.done in
    let long : length (take c.min.result c.loop-done.buf) ≡ n = omega arith in
    let within : at + n ≤ c.args.count = omega (arith, length-take c.min.result c.loop-done.buf, c.min.ensures, c.min.array_long) in
    rose_then (2 * at + n) n _ _ _ _ (rose_then _ _ _ _ _ _ c.loop-done.invariant.bytes_read c.in_ok-read.ensures.bytes_read (omega (arith, long))) c.in_err-key_equals.ensures.bytes_read (omega (arith, within))

pub returns-then-not-branch-clause-bytes_read : goal.returns-then-not-branch-clause-bytes_read
returns-then-not-branch-clause-bytes_read g c =
    let n = length c.read.new.buf in
    let at = c.loop-done.done in
    let long : length (take c.min.result c.loop-done.buf) ≡ n = omega arith in
    let within : at + n ≤ c.args.count = omega (arith, length-take c.min.result c.loop-done.buf, c.min.ensures, c.min.array_long) in
    rose_then (2 * at + n) n _ _ _ _ (rose_then _ _ _ _ _ _ c.loop-done.invariant.bytes_read c.in_ok-read.ensures.bytes_read (omega (arith, long))) c.in_ok-key_equals.ensures.bytes_read (omega (arith, within))

pub returns-clause-bytes_read : goal.returns-clause-bytes_read
returns-clause-bytes_read g c = rose_within _ _ _ _ c.loop-done.invariant.bytes_read (omega (arith, c.loop-done.invariant.within))
