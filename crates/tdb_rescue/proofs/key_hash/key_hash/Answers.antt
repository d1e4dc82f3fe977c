-- One piece more, and the whole key.
use Rattle.std.proofs.Common.{◌≡◌, ◌+◌, ◌≤◌, length, take, drop, length-take, length-drop, sym, ◌∙◌, subst, arith, rules}
use Rattle.tdb_words.specs.HashRun.{Holds}
use Rattle.tdb_rescue.specs.Window.{Shows}
use Rattle.tdb_rescue.proofs.Bytes.{piece_joined}
use Rattle.tdb_rescue.proofs.key_hash.key_hash.Goals as goal

pub loop-done-preserved : goal.loop-done-preserved
loop-done-preserved g c =
    let img = g.S.Space.image c.args.s.now in
    let within : c.loop-done.done + c.min-count.result ≤ c.args.key_len = omega (arith, c.min-count.ensures) in
    let count : length (take c.min-count.result c.loop-done.buf) ≡ c.min-count.result = omega (arith, length-take c.min-count.result c.loop-done.buf, c.min-count.ensures, c.min-count.array_long) in
    let same = c.loop-done.invariant.looked.image in
    record {
      within = within;
      held = λ told shows.
          (let shown = subst (λ i. Shows i c.args.window.now) (sym same) shows in
          let piece = c.in_ok-read.ensures.bytes told shown ∙ (λ j. take (count j) (drop (c.args.off + c.loop-done.done) (same j))) in
          subst (Holds c.feed.new.self (g.S.Space.form c.args.s.now).hash c.args.key_len) (piece_joined img c.read.new.buf c.args.off c.loop-done.done c.min-count.result piece)
          (c.feed.ensures (g.S.Space.form c.args.s.now).hash c.args.key_len (take c.loop-done.done (drop c.args.off img)) (c.loop-done.invariant.held told shows)));
      bytes_read = search rules;
      looked = search rules;
      faults = search rules;
    }

pub returns-clause-value : goal.returns-clause-value
returns-clause-value g c told shows =
    let h = (g.S.Space.form c.args.s.now).hash in
    let img = g.S.Space.image c.args.s.now in
    let key = take c.args.key_len (drop c.args.off img) in
    let all : c.loop-done.done ≡ c.args.key_len = omega (arith, c.loop-done.invariant.within, c.loop-done-test.false) in
    let long : length key ≡ c.args.key_len =
    omega (arith, length-take c.args.key_len (drop c.args.off img), length-drop c.args.off img, g.met.S.Space.told_size c.args.s.now told, c.requires.within) in
    let held : Holds c.loop-done.run h c.args.key_len key = subst (λ n. Holds c.loop-done.run h c.args.key_len (take n (drop c.args.off img))) all (c.loop-done.invariant.held told shows) in
    c.end.ensures h key (subst (λ n. Holds c.loop-done.run h n key) (sym long) held)
