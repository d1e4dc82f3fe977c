-- The map stays.
use Rattle.std.proofs.Common.{◌<◌, ◌^◌, ◌∷◌, sym, subst, inl, inr, arith, rules}
use Rattle.tdb_space.specs.Chain.{chain_of, without}
use Rattle.tdb_space.proofs.Results.{on_err}
use Rattle.tdb_chain.specs.Changed.{Purged}
use Rattle.tdb_chain.proofs.Unlinked.{led_past_place, unlinked_purged}
use Rattle.tdb_chain.proofs.removal.purge.Goals as goal

pub returns-clause-purged : goal.returns-clause-purged
returns-clause-purged g c told hands accepted at =
    let f = g.S.Space.form c.args.s.now in
    let a = g.S.Space.image c.args.s.now in
    let b = g.S.Space.image c.lead_past.new.s in
    let p = c.args.p in
    subst (λ h. Purged f a b at.chain (without p.off (chain_of f a at.chain)) hands (h ∷ hands)) (sym c.new.ensures)
    (unlinked_purged f a b hands p accepted at
    (led_past_place f a b p at (search rules) (omega (arith, g.met.S.Space.told_size c.args.s.now told, c.requires.within.led)) (c.in_ok-lead_past.ensures.past told)) c.requires.dead)

-- the word leads to the record, or past it
pub returns-in_err-lead_past-clause-stopped : goal.returns-in_err-lead_past-clause-stopped
returns-in_err-lead_past-clause-stopped g c = on_err c.from_residual.result (λ told hands accepted at.
    (let f = g.S.Space.form c.args.s.now in
    let a = g.S.Space.image c.args.s.now in
    let b = g.S.Space.image c.lead_past.new.s in
    let p = c.args.p in
    let fits : p.rec.next < 2 ^ 32 = search rules in
    elim (c.lead_past.ensures.written told) [
      | inl same ↦ inl same
      | inr put ↦ inr (unlinked_purged f a b hands p accepted at (led_past_place f a b p at fits (omega (arith, g.met.S.Space.told_size c.args.s.now told, c.requires.within.led)) put) c.requires.dead)
    ]))
