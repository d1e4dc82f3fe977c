-- Both pieces.
use Rattle.std.proofs.Common.{◌≡◌, ◌+◌, ◌-◌, max, subst, ◌∙◌}
use Rattle.std.specs.Prelude.{slice_index}
use Rattle.tdb_disk.specs.History.{seen}
use Rattle.tdb_disk.specs.Stop.{LeavesOnly}
use Rattle.tdb_space.specs.Opening.{lies_in}
use Rattle.tdb_undo.specs.Torn.{TornIn, Put}
use Rattle.tdb_undo.specs.Entries.{is_given}
use Rattle.tdb_undo.proofs.Blocks.{wider_torn, join_torn}
use Rattle.tdb_undo.proofs.Gives.{in_first, in_second, not_first, not_second, put_entry}
use Rattle.tdb_undo.proofs.writing.give_entry.Goals as goal

pub returns-in_err-give_piece-clause-stops : goal.returns-in_err-give_piece-clause-stops
returns-in_err-give_piece-clause-stops g c told =
    let a = c.args.area.now in
    let first : lies_in c.max-from.result (c.min.result - c.max-from.result) ≡ in_first a c.args.off c.args.len = λ j. lies_in (c.max-from.ensures j) (c.min.ensures j - c.max-from.ensures j) in
    let h = g.D.Disk.history c.args.d.now in
    wider_torn h (g.D.Disk.history c.give_piece.new.d) (in_first a c.args.off c.args.len) (is_given a c.args.off c.args.len) (not_first a c.args.off c.args.len)
    (subst (λ p. LeavesOnly h (g.D.Disk.history c.give_piece.new.d) (TornIn p h)) first (c.give_piece.ensures.stops told))

pub returns-in_err-give_piece-2-clause-stops : goal.returns-in_err-give_piece-2-clause-stops
returns-in_err-give_piece-2-clause-stops g c told =
    let a = c.args.area.now in
    let first : lies_in c.max-from.result (c.min.result - c.max-from.result) ≡ in_first a c.args.off c.args.len = λ j. lies_in (c.max-from.ensures j) (c.min.ensures j - c.max-from.ensures j) in
    let behind : c.max-behind.result ≡ max (max c.args.off 64) (a.at + 24 + a.header.rec_len) = c.max-behind.ensures ∙ (λ j. max (c.max-from.ensures j) (c.end.ensures j)) in
    let second : lies_in c.max-behind.result (c.args.off + c.args.len - c.max-behind.result) ≡ in_second a c.args.off c.args.len = λ j. lies_in (behind j) (c.args.off + c.args.len - behind j) in
    let h = g.D.Disk.history c.args.d.now in
    let mid = g.D.Disk.history c.give_piece.new.d in
    let last = g.D.Disk.history c.give_piece-2.new.d in
    join_torn h mid last (is_given a c.args.off c.args.len)
    (wider_torn h mid (in_first a c.args.off c.args.len) (is_given a c.args.off c.args.len) (not_first a c.args.off c.args.len)
    (subst (λ p. LeavesOnly h mid (TornIn p h)) first (c.give_piece.ensures.stops told)))
    (wider_torn mid last (in_second a c.args.off c.args.len) (is_given a c.args.off c.args.len) (not_second a c.args.off c.args.len)
    (subst (λ p. LeavesOnly mid last (TornIn p mid)) second (c.give_piece-2.ensures.stops told)))

pub returns-clause-stops : goal.returns-clause-stops
returns-clause-stops g c told =
    let a = c.args.area.now in
    let first : lies_in c.max-from.result (c.min.result - c.max-from.result) ≡ in_first a c.args.off c.args.len = λ j. lies_in (c.max-from.ensures j) (c.min.ensures j - c.max-from.ensures j) in
    let behind : c.max-behind.result ≡ max (max c.args.off 64) (a.at + 24 + a.header.rec_len) = c.max-behind.ensures ∙ (λ j. max (c.max-from.ensures j) (c.end.ensures j)) in
    let second : lies_in c.max-behind.result (c.args.off + c.args.len - c.max-behind.result) ≡ in_second a c.args.off c.args.len = λ j. lies_in (behind j) (c.args.off + c.args.len - behind j) in
    let h = g.D.Disk.history c.args.d.now in
    let mid = g.D.Disk.history c.give_piece.new.d in
    let last = g.D.Disk.history c.give_piece-2.new.d in
    join_torn h mid last (is_given a c.args.off c.args.len)
    (wider_torn h mid (in_first a c.args.off c.args.len) (is_given a c.args.off c.args.len) (not_first a c.args.off c.args.len)
    (subst (λ p. LeavesOnly h mid (TornIn p h)) first (c.give_piece.ensures.stops told)))
    (wider_torn mid last (in_second a c.args.off c.args.len) (is_given a c.args.off c.args.len) (not_second a c.args.off c.args.len)
    (subst (λ p. LeavesOnly mid last (TornIn p mid)) second (c.give_piece-2.ensures.stops told)))

pub returns-clause-put : goal.returns-clause-put
returns-clause-put g c told =
    let a = c.args.area.now in
    let first : lies_in c.max-from.result (c.min.result - c.max-from.result) ≡ in_first a c.args.off c.args.len = λ j. lies_in (c.max-from.ensures j) (c.min.ensures j - c.max-from.ensures j) in
    let behind : c.max-behind.result ≡ max (max c.args.off 64) (a.at + 24 + a.header.rec_len) = c.max-behind.ensures ∙ (λ j. max (c.max-from.ensures j) (c.end.ensures j)) in
    let second : lies_in c.max-behind.result (c.args.off + c.args.len - c.max-behind.result) ≡ in_second a c.args.off c.args.len = λ j. lies_in (behind j) (c.args.off + c.args.len - behind j) in
    let x = seen (g.D.Disk.history c.args.d.now) in
    let y = seen (g.D.Disk.history c.give_piece.new.d) in
    let z = seen (g.D.Disk.history c.give_piece-2.new.d) in
    put_entry a c.args.off c.args.len c.args.source x y z c.requires.above c.requires.within
    (subst (λ p. Put p (λ i. slice_index x (c.args.source + (i - c.args.off))) x y) first (c.in_ok-give_piece.ensures.put told))
    (subst (λ p. Put p (λ i. slice_index y (c.args.source + (i - c.args.off))) y z) second (c.in_ok-give_piece-2.ensures.put told))
