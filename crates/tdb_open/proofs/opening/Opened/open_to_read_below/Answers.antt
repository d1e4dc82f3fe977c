use Rattle.std.proofs.Common.{rules, ◌≡◌, ◌≤◌, Err, length, sym, subst, inl, inr, arith}
use Rattle.std.specs.Prelude.{IsTrue, IfOk, IfErr}
use Rattle.tdb_disk.specs.History.{History, seen}
use Rattle.tdb_open.specs.declared.halt.Halt.TheVariants.{Device}
use Rattle.tdb_open.specs.Opening.{CanRead, IsCheckedOn, ReadHaltsBelow}
use Rattle.tdb_open.proofs.Errors.{if_this_err}
use Rattle.tdb_open.proofs.Openings.{long_unread, within_opened, unread_below}
use Rattle.tdb_open.specs.Notices.{ReadingBelowHeard, ReadingHeard}
use Rattle.tdb_open.proofs.Notices.{no_length_unread, long_unheard}
use Rattle.tdb_open.proofs.opening.Opened.open_to_read_below.Goals as goal

-- its length couldn't be told
pub returns-in_err-len-clause-refused : goal.returns-in_err-len-clause-refused
returns-in_err-len-clause-refused g c =
    if_this_err (λ halt. IsTrue g.D.Disk.tells → ReadHaltsBelow c.args.limit (seen (g.D.Disk.history c.args.disk.now)) halt) c.from_residual.result Device (search rules) (λ told. tt)

-- it has more bytes than it may
pub returns-then-len-limit-clause-refused : goal.returns-then-len-limit-clause-refused
returns-then-len-limit-clause-refused g c told =
    long_unread c.args.limit c.in_ok-len.len (seen (g.D.Disk.history c.args.disk.now)) (omega (arith, g.met.D.Disk.told_size c.args.disk.now told, c.in_ok-len.ensures.length)) c.if-len-limit.true

-- it has no more, and is opened as any other
pub returns-clause-within : goal.returns-clause-within
returns-clause-within g c =
    within_opened (IsTrue g.D.Disk.tells) c.args.limit c.open_to_read.result (seen (g.D.Disk.history c.args.disk.now))
    (λ told. omega (arith, g.met.D.Disk.told_size c.args.disk.now told, c.in_ok-len.ensures.length, c.if-len-limit.false))

pub returns-clause-can_read : goal.returns-clause-can_read
returns-clause-can_read g c =
    subst (λ (h : History). IfOk c.open_to_read.result (λ o. IsTrue g.D.Disk.tells → CanRead (seen h))) c.in_ok-len.ensures.history c.open_to_read.ensures.can_read

pub returns-clause-checked : goal.returns-clause-checked
returns-clause-checked g c =
    subst (λ (h : History). IfOk c.open_to_read.result (λ o. IsTrue g.D.Disk.tells → IsCheckedOn (seen h) o)) c.in_ok-len.ensures.history c.open_to_read.ensures.checked

pub returns-clause-refused : goal.returns-clause-refused
returns-clause-refused g c =
    subst (λ (h : History). IfErr c.open_to_read.result (λ halt. IsTrue g.D.Disk.tells → ReadHaltsBelow c.args.limit (seen h) halt)) c.in_ok-len.ensures.history
    (unread_below (IsTrue g.D.Disk.tells) c.args.limit c.open_to_read.result (seen (g.D.Disk.history c.len.new.self))
    (λ told. omega (arith, g.met.D.Disk.told_size c.len.new.self told, c.in_ok-len.ensures.length, c.in_ok-len.ensures.size, c.if-len-limit.false)) c.open_to_read.ensures.refused)

-- what logs hear
pub returns-in_err-len-clause-heard : goal.returns-in_err-len-clause-heard
returns-in_err-len-clause-heard g c told =
    let img = seen (g.D.Disk.history c.args.disk.now) in
    let logs = g.L.Logs.logs c.args.logs.now in
    let is : c.from_residual.result ≡ Err Device = search rules in
    subst (ReadingBelowHeard c.args.limit img logs logs) (sym is) (no_length_unread c.args.limit img logs)

pub returns-then-len-limit-clause-heard : goal.returns-then-len-limit-clause-heard
returns-then-len-limit-clause-heard g c told =
    inl (long_unheard c.args.limit c.in_ok-len.len (seen (g.D.Disk.history c.args.disk.now)) (g.L.Logs.logs c.args.logs.now)
    (omega (arith, g.met.D.Disk.told_size c.args.disk.now told, c.in_ok-len.ensures.length)) c.if-len-limit.true)

pub returns-clause-heard : goal.returns-clause-heard
returns-clause-heard g c told =
    let within : length (seen (g.D.Disk.history c.args.disk.now)) ≤ c.args.limit = omega (arith, g.met.D.Disk.told_size c.args.disk.now told, c.in_ok-len.ensures.length, c.if-len-limit.false) in
    inr (within, subst (λ (h : History). ReadingHeard (seen h) (g.L.Logs.logs c.args.logs.now) (g.L.Logs.logs c.open_to_read.new.logs) c.open_to_read.result) c.in_ok-len.ensures.history (c.open_to_read.ensures.heard told))
