-- The map loses the key of the record.
use Rattle.std.proofs.Common.{◌<◌, ◌^◌, [], ◌∷◌, None, sym, subst, inl, inr, arith, rules}
use Rattle.tdb_space.specs.Record.{key_at}
use Rattle.tdb_space.specs.Chain.{chain_of, without}
use Rattle.tdb_space.specs.Pairs.{home}
use Rattle.tdb_space.proofs.Results.{on_err}
use Rattle.tdb_chain.specs.Changed.{KeySet}
use Rattle.tdb_chain.proofs.Unlinked.{led_past_place, unlinked_set}
use Rattle.tdb_chain.proofs.removal.unlink.Goals as goal

pub returns-clause-removed : goal.returns-clause-removed
returns-clause-removed g c told hands accepted at used =
    let f = g.S.Space.form c.args.s.now in
    let a = g.S.Space.image c.args.s.now in
    let b = g.S.Space.image c.lead_past.new.s in
    let p = c.args.p in
    subst (λ h. KeySet f a b (key_at f.order a p.off) None (without p.off (chain_of f a (home f (key_at f.order a p.off)))) [] hands (h ∷ hands)) (sym c.new.ensures)
    (unlinked_set f a b hands p accepted at
    (led_past_place f a b p at (search rules) (omega (arith, g.met.S.Space.told_size c.args.s.now told, c.requires.within.led)) (c.in_ok-lead_past.ensures.past told)) used)

-- the word leads to the record, or past it
pub returns-in_err-lead_past-clause-stopped : goal.returns-in_err-lead_past-clause-stopped
returns-in_err-lead_past-clause-stopped g c = on_err c.from_residual.result (λ told hands accepted at used.
    (let f = g.S.Space.form c.args.s.now in
    let a = g.S.Space.image c.args.s.now in
    let b = g.S.Space.image c.lead_past.new.s in
    let p = c.args.p in
    let fits : p.rec.next < 2 ^ 32 = search rules in
    elim (c.lead_past.ensures.written told) [
      | inl same ↦ inl same
      | inr put ↦ inr (unlinked_set f a b hands p accepted at (led_past_place f a b p at fits (omega (arith, g.met.S.Space.told_size c.args.s.now told, c.requires.within.led)) put) used)
    ]))
