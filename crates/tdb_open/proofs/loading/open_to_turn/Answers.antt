use Rattle.std.proofs.Common.{◌≡◌, ◌≤◌, ◌<◌, true, Ok, length, ap, subst, inl, inr, arith}
use Rattle.std.proofs.lemmas.Result.{err_from_is_err_and}
use Rattle.tdb_disk.specs.History.{History, seen}
use Rattle.tdb_open.specs.Loading.{OpenedToTurn}
use Rattle.tdb_open.specs.Opening.{OpensSafely}
use Rattle.tdb_open.proofs.Openings.{still_safe}
use Rattle.tdb_open.specs.Loading.{TurnOpeningHeard}
use Rattle.tdb_open.proofs.Notices.{long_unheard}
use Rattle.tdb_open.proofs.ToTurn.{opened_short, unknown_heard}
use Rattle.tdb_open.proofs.loading.open_to_turn.Goals as goal
use Rattle.tdb_open.proofs.loading.open_to_turn.Goals.{After-open_as_asked, In_ok-opened}

-- the file was opened
opened : (g : _) (c : In_ok-opened g) → g.D.Disk.tells ≡ true → OpenedToTurn c.args.options.now (g.D.Disk.history c.args.disk.now) (g.D.Disk.history c.open_as_asked.new.disk) (Ok c.in_ok-opened.opened)
opened g c told =
    let before = c.len.new.self in
    let within : length (seen (g.D.Disk.history before)) ≤ c.args.options.now.limit = omega (arith, g.met.D.Disk.told_size before told, c.in_ok-len.ensures.length, c.in_ok-len.ensures.size, c.if-len-options.false) in
    subst (λ (h : History). OpenedToTurn c.args.options.now h (g.D.Disk.history c.open_as_asked.new.disk) (Ok c.in_ok-opened.opened)) c.in_ok-len.ensures.history (c.in_ok-opened.ensures.opened told within)

-- so it isn't longer
not_longer : (g : _) (c : In_ok-opened g) → g.D.Disk.tells ≡ true → c.args.options.now.limit < c.in_ok-opened.opened.len → ⊥
not_longer g c told longer =
    let o = opened g c told in
    let old = g.D.Disk.history c.args.disk.now in
    let now = c.open_as_asked.new.disk in
    let short : length (seen old) ≤ c.args.options.now.limit = o.0.within in
    let less = opened_short (seen old) o.0.can_open.opens in
    omega (arith, longer, c.in_ok-opened.ensures.length, g.met.D.Disk.told_size now told, ap length o.1.reads, less, short)

pub returns-then-opened-options-clause-opened : goal.returns-then-opened-options-clause-opened
returns-then-opened-options-clause-opened g c told = absurd (not_longer g ((goal.at.returns-then-opened-options-clause-opened g c).In_ok-opened) told c.if-opened-options.true)

pub returns-clause-opened : goal.returns-clause-opened
returns-clause-opened g c told = opened g ((goal.at.returns-clause-opened g c).In_ok-opened) told

-- what stops leave: nothing was done to the file before it was opened, and nothing after
pub returns-in_err-len-clause-stops : goal.returns-in_err-len-clause-stops
returns-in_err-len-clause-stops g c told = still_safe (g.D.Disk.history c.args.disk.now) (g.D.Disk.history c.len.new.self) c.in_err-len.ensures.history

pub returns-then-len-options-clause-stops : goal.returns-then-len-options-clause-stops
returns-then-len-options-clause-stops g c told = still_safe (g.D.Disk.history c.args.disk.now) (g.D.Disk.history c.len.new.self) c.in_ok-len.ensures.history

opening : (g : _) (c : After-open_as_asked g) → g.D.Disk.tells ≡ true → OpensSafely (g.D.Disk.history c.args.disk.now) (g.D.Disk.history c.open_as_asked.new.disk)
opening g c told = subst (λ (h : History). OpensSafely h (g.D.Disk.history c.open_as_asked.new.disk)) c.in_ok-len.ensures.history (c.open_as_asked.ensures.stops told)

pub returns-in_err-opened-clause-stops : goal.returns-in_err-opened-clause-stops
returns-in_err-opened-clause-stops g c = opening g ((goal.at.returns-in_err-opened-clause-stops g c).After-open_as_asked)

pub returns-then-opened-options-clause-stops : goal.returns-then-opened-options-clause-stops
returns-then-opened-options-clause-stops g c = opening g ((goal.at.returns-then-opened-options-clause-stops g c).After-open_as_asked)

pub returns-clause-stops : goal.returns-clause-stops
returns-clause-stops g c = opening g ((goal.at.returns-clause-stops g c).After-open_as_asked)

-- what logs heard: nothing, where its length isn't known, or is too great
pub returns-in_err-len-clause-heard : goal.returns-in_err-len-clause-heard
returns-in_err-len-clause-heard g c =
    let q = err_from_is_err_and c.from_residual.result c.from_residual.ensures.1 in
    rw (q.1, q.2)
    (λ told. unknown_heard c.args.options.now (seen (g.D.Disk.history c.args.disk.now)) (g.L.Logs.logs c.args.logs.now))

pub returns-then-len-options-clause-heard : goal.returns-then-len-options-clause-heard
returns-then-len-options-clause-heard g c told =
    inl (long_unheard c.args.options.now.limit c.in_ok-len.len (seen (g.D.Disk.history c.args.disk.now)) (g.L.Logs.logs c.args.logs.now)
    (omega (arith, g.met.D.Disk.told_size c.args.disk.now told, c.in_ok-len.ensures.length)) c.if-len-options.true)

-- what the opening tells
opens_heard : (g : _) (c : After-open_as_asked g) → g.D.Disk.tells ≡ true → TurnOpeningHeard c.args.options.now (seen (g.D.Disk.history c.args.disk.now)) (g.L.Logs.logs c.args.logs.now) (g.L.Logs.logs c.open_as_asked.new.logs) c.open_as_asked.result
opens_heard g c told =
    let before = c.len.new.self in
    let within : length (seen (g.D.Disk.history before)) ≤ c.args.options.now.limit = omega (arith, g.met.D.Disk.told_size before told, c.in_ok-len.ensures.length, c.in_ok-len.ensures.size, c.if-len-options.false) in
    subst (λ (h : History). TurnOpeningHeard c.args.options.now (seen h) (g.L.Logs.logs c.args.logs.now) (g.L.Logs.logs c.open_as_asked.new.logs) c.open_as_asked.result) c.in_ok-len.ensures.history
    (inr (within, c.open_as_asked.ensures.heard told within))

pub returns-in_err-opened-clause-heard : goal.returns-in_err-opened-clause-heard
returns-in_err-opened-clause-heard g c =
    let q = err_from_is_err_and c.from_residual-in_err-opened.result c.from_residual-in_err-opened.ensures.1 in
    rw (q.1, q.2)
    (λ told. subst (TurnOpeningHeard c.args.options.now (seen (g.D.Disk.history c.args.disk.now)) (g.L.Logs.logs c.args.logs.now) (g.L.Logs.logs c.open_as_asked.new.logs)) c.in_err-opened.was
    (opens_heard g ((goal.at.returns-in_err-opened-clause-heard g c).After-open_as_asked) told))

pub returns-then-opened-options-clause-heard : goal.returns-then-opened-options-clause-heard
returns-then-opened-options-clause-heard g c told = absurd (not_longer g ((goal.at.returns-then-opened-options-clause-heard g c).In_ok-opened) told c.if-opened-options.true)

pub returns-clause-heard : goal.returns-clause-heard
returns-clause-heard g c told =
    subst (TurnOpeningHeard c.args.options.now (seen (g.D.Disk.history c.args.disk.now)) (g.L.Logs.logs c.args.logs.now) (g.L.Logs.logs c.open_as_asked.new.logs)) c.in_ok-opened.was
    (opens_heard g ((goal.at.returns-clause-heard g c).After-open_as_asked) told)
