-- The key stands in the window.
use Rattle.std.proofs.Common.{◌≡◌, ◌+◌, ◌-◌, ◌≤◌, length, take, drop, ◌∙◌, ap, subst, arith}
use Rattle.tdb_check.specs.Hashes.{AreHashesOf}
use Rattle.tdb_check.proofs.Windows.{window_bytes}
use Rattle.tdb_check.proofs.record.key_hashes.Goals as goal

pub returns-then-end-window-clause-value : goal.returns-then-end-window-clause-value
returns-then-end-window-clause-value g c told shows =
    let img = g.S.Space.image c.args.s.now in
    let len : (c.args.key_len + 24) - 24 ≡ c.args.key_len = omega arith in
    let within : 24 + c.args.key_len ≤ length c.args.window.now = omega (arith, c.if-end-window.true) in
    let key = ap (λ n. take n (drop 24 c.args.window.now)) len ∙ window_bytes img c.args.window.now c.args.at 24 c.args.key_len within shows in
    subst (λ h. AreHashesOf h (take c.args.key_len (drop (c.args.at + 24) img)) c.hashes_of.result) c.hash.ensures
    (subst (λ bytes. AreHashesOf c.hash.result bytes c.hashes_of.result) key c.hashes_of.ensures)
