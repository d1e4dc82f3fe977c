-- Both pieces.
use Rattle.std.proofs.Common.{◌≡◌, ◌+◌, ◌-◌, max, min, subst, ◌∙◌, ap}
use Rattle.std.specs.Prelude.{slice_index}
use Rattle.tdb_space.specs.Opening.{lies_in}
use Rattle.tdb_undo.specs.Torn.{Put}
use Rattle.tdb_mend.proofs.Gives.{last_to, in_first, in_second, put_entry}
use Rattle.tdb_mend.proofs.giving.give_entry.Goals as goal

pub returns-clause-put : goal.returns-clause-put
returns-clause-put g c told =
    let a = c.args.area.now in
    let off = c.args.off in
    let len = c.args.len in
    let to : c.min-to.result ≡ last_to a c.args.off c.args.len = c.min-to.ensures ∙ ap (min (c.args.off + c.args.len)) c.old_len.ensures in
    let end : c.min.result ≡ min (last_to a c.args.off c.args.len) a.at = c.min.ensures ∙ ap (λ n. min n a.at) to in
    let behind : c.max-behind.result ≡ max c.args.off (a.at + 24 + a.header.rec_len) = c.max-behind.ensures ∙ ap (max c.args.off) c.end.ensures in
    let first : lies_in c.args.off (c.min.result - c.args.off) ≡ in_first a c.args.off c.args.len = λ j. lies_in c.args.off (end j - c.args.off) in
    let second : lies_in c.max-behind.result (c.min-to.result - c.max-behind.result) ≡ in_second a c.args.off c.args.len = λ j. lies_in (behind j) (to j - behind j) in
    let x = g.S.Space.image c.args.s.now in
    let y = g.S.Space.image c.give_piece.new.s in
    let z = g.S.Space.image c.give_piece-2.new.s in
    put_entry a off len c.args.source x y z c.requires.above
    (subst (λ p. Put p (λ i. slice_index x (c.args.source + (i - c.args.off))) x y) first (c.in_ok-give_piece.ensures.put told))
    (subst (λ p. Put p (λ i. slice_index y (c.args.source + (i - c.args.off))) y z) second (c.in_ok-give_piece-2.ensures.put told))
