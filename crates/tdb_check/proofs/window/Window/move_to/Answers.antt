-- What is kept, and behind it what was read.
use Rattle.std.proofs.Common.{rules, ◌≡◌, ◌+◌, ◌-◌, length, take, drop, ◌∙◌, ap, arith}
use Rattle.std.proofs.lemmas.List.{with_items_is}
use Rattle.tdb_check.proofs.Forward.{forward_shows}
use Rattle.tdb_check.proofs.window.Window.move_to.Goals as goal

pub returns-clause-shows : goal.returns-clause-shows
returns-clause-shows g c told shows =
    let img = g.S.Space.image c.args.s.now in
    let w = c.args.self.now in
    let kept = c.saturating_sub-kept.result in
    let is : kept ≡ (w.from + w.held) - c.args.at = omega (arith, c.saturating_sub-kept.ensures, c.reach.ensures) in
    let long : length c.read.new.buf ≡ c.min-held.result - kept = search rules in
    let all : kept + length c.read.new.buf ≡ c.min-held.result = omega (arith, long, c.min-held.ensures, c.requires.reach, is, w.fits) in
    let whole : length (take (c.min-held.result - kept) (drop kept c.deref_mut.result.now)) ≡ length c.read.new.buf = search rules in
    let copied = c.deref_mut.ensures.value ∙ c.copy_within.ensures.items in
    forward_shows img w.bytes.items c.deref_mut.result.now c.read.new.buf _ _ w.from w.held c.args.at kept c.min-held.result c.requires.back w.fits is all copied (c.in_ok-read.ensures.bytes told ∙ ap (λ n. take n (drop (c.args.at + kept) img)) whole) shows
    (with_items_is c.copy_within.new.self _ (search rules))
