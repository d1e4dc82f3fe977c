-- One piece more, and the whole key.
use Rattle.std.proofs.Common.{◌≡◌, ◌+◌, ◌≤◌, length, take, drop, length-take, length-drop, sym, ◌∙◌, subst, arith, rules}
use Rattle.tdb_check.specs.Hashes.{BothHold}
use Rattle.tdb_check.proofs.Windows.{pieces_join}
use Rattle.tdb_check.proofs.Rising.{rose_then, rose_within}
use Rattle.tdb_check.proofs.record.long_hashes.Goals as goal

pub loop-done-preserved : goal.loop-done-preserved
loop-done-preserved g c =
    let img = g.S.Space.image c.args.s.now in
    let within : c.loop-done.done + c.min-count.result ≤ c.args.key_len = omega (arith, c.min-count.ensures) in
    let count : length (take c.min-count.result c.loop-done.buf) ≡ c.min-count.result = omega (arith, length-take c.min-count.result c.loop-done.buf, c.min-count.ensures, c.min-count.array_long) in
    record {
      within = within;
      held = λ told.
          (let piece = c.in_ok-read.ensures.bytes told ∙ (λ j. take (count j) (drop (c.args.off + c.loop-done.done) (c.loop-done.invariant.looked.image j))) in
          subst (λ bytes. BothHold (g.S.Space.form c.args.s.now).hash c.args.key_len bytes c.feed.new.self) (pieces_join img c.args.off c.loop-done.done c.min-count.result c.read.new.buf piece)
          (c.feed.ensures (g.S.Space.form c.args.s.now).hash c.args.key_len (take c.loop-done.done (drop c.args.off img)) (c.loop-done.invariant.held told)));
      bytes_read = rose_then _ _ _ _ _ _ c.loop-done.invariant.bytes_read c.in_ok-read.ensures.bytes_read (omega (arith, count));
      looked = search rules;
      faults = search rules;
    }

pub returns-in_err-read-clause-bytes_read : goal.returns-in_err-read-clause-bytes_read
returns-in_err-read-clause-bytes_read g c =
    let within : c.loop-done.done + c.min-count.result ≤ c.args.key_len = omega (arith, c.min-count.ensures) in
    let count : length (take c.min-count.result c.loop-done.buf) ≡ c.min-count.result = omega (arith, length-take c.min-count.result c.loop-done.buf, c.min-count.ensures, c.min-count.array_long) in
    rose_then _ _ _ _ _ _ c.loop-done.invariant.bytes_read c.in_err-read.ensures.bytes_read (omega (arith, count, within))

pub returns-clause-bytes_read : goal.returns-clause-bytes_read
returns-clause-bytes_read g c = rose_within _ _ _ _ c.loop-done.invariant.bytes_read (omega (arith, c.loop-done.invariant.within))

pub returns-clause-value : goal.returns-clause-value
returns-clause-value g c told =
    let h = (g.S.Space.form c.args.s.now).hash in
    let img = g.S.Space.image c.args.s.now in
    let key = take c.args.key_len (drop c.args.off img) in
    let all : c.loop-done.done ≡ c.args.key_len = omega (arith, c.loop-done.invariant.within, c.loop-done-test.false) in
    let long : length key ≡ c.args.key_len =
    omega (arith, length-take c.args.key_len (drop c.args.off img), length-drop c.args.off img, g.met.S.Space.told_size c.args.s.now told, c.requires.within) in
    let held : BothHold h c.args.key_len key c.loop-done.run = subst (λ n. BothHold h c.args.key_len (take n (drop c.args.off img)) c.loop-done.run) all (c.loop-done.invariant.held told) in
    c.end.ensures h key (subst (λ n. BothHold h n key c.loop-done.run) (sym long) held)
