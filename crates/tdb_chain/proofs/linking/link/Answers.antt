-- The map has the value at the key.
use Rattle.std.proofs.Common.{◌≡◌, Some, None, length, sym, ◌∙◌, ap, inl, inr, arith}
use Rattle.tdb_space.proofs.Results.{on_err}
use Rattle.tdb_chain.specs.Changed.{hands_back}
use Rattle.tdb_chain.proofs.Linked.{link_by_calls}
use Rattle.tdb_chain.proofs.Stopped.{stopped_before, stopped_out, stopped_putting}
use Rattle.tdb_chain.proofs.linking.link.Goals as goal

pub returns-in-Some-clause-set : goal.returns-in-Some-clause-set
returns-in-Some-clause-set g c told small hands accepted found =
    let f = g.S.Space.form c.args.s.now in
    let a = g.S.Space.image c.args.s.now in
    let m = g.S.Space.image c.lead_past_old.new.s in
    let b = g.S.Space.image c.put_in_front.new.s in
    let size = c.lead_past_old.ensures.size ∙ c.len.ensures.size in
    let long : length m ≡ length a = g.met.S.Space.told_size c.lead_past_old.new.s told ∙ size ∙ sym (g.met.S.Space.told_size c.args.s.now told) in
    let back : Some c.new.result ≡ hands_back c.args.over = ap Some c.new.ensures ∙ ap hands_back (sym c.in-Some.is) in
    link_by_calls f (g.S.Space.form c.len.new.self) (g.S.Space.form c.lead_past_old.new.s) a (g.S.Space.image c.len.new.self) m b c.args.h c.off-at.result c.rec_len-rec_len.result hands c.args.key.now c.args.value.now
    c.args.over (Some c.new.result) c.len.ensures.form (c.lead_past_old.ensures.wrote.form ∙ c.len.ensures.form) c.len.ensures.image c.off-at.ensures.value c.rec_len-rec_len.ensures.value long accepted found
    (c.in_ok-lead_past_old.ensures.took told) (c.in_ok-put_in_front.ensures.put told (omega (arith, size, small))) back

pub returns-in-None-clause-set : goal.returns-in-None-clause-set
returns-in-None-clause-set g c told small hands accepted found =
    let f = g.S.Space.form c.args.s.now in
    let a = g.S.Space.image c.args.s.now in
    let m = g.S.Space.image c.lead_past_old.new.s in
    let b = g.S.Space.image c.put_in_front.new.s in
    let size = c.lead_past_old.ensures.size ∙ c.len.ensures.size in
    let long : length m ≡ length a = g.met.S.Space.told_size c.lead_past_old.new.s told ∙ size ∙ sym (g.met.S.Space.told_size c.args.s.now told) in
    link_by_calls f (g.S.Space.form c.len.new.self) (g.S.Space.form c.lead_past_old.new.s) a (g.S.Space.image c.len.new.self) m b c.args.h c.off-at.result c.rec_len-rec_len.result hands c.args.key.now c.args.value.now
    c.args.over None c.len.ensures.form (c.lead_past_old.ensures.wrote.form ∙ c.len.ensures.form) c.len.ensures.image c.off-at.ensures.value c.rec_len-rec_len.ensures.value long accepted found
    (c.in_ok-lead_past_old.ensures.took told) (c.in_ok-put_in_front.ensures.put told (omega (arith, size, small))) (ap hands_back (sym c.in-None.is))

-- nothing was written
pub returns-in_err-len-clause-stopped : goal.returns-in_err-len-clause-stopped
returns-in_err-len-clause-stopped g c = on_err c.from_residual.result (λ told small hands accepted found.
    stopped_before (g.S.Space.form c.args.s.now) (g.S.Space.image c.args.s.now) (g.S.Space.image c.len.new.self) c.args.key.now c.args.value.now c.args.over c.args.h hands accepted c.len.ensures.image)

-- the old record stays in the chain, or has left it
pub returns-in_err-lead_past_old-clause-stopped : goal.returns-in_err-lead_past_old-clause-stopped
returns-in_err-lead_past_old-clause-stopped g c = on_err c.from_residual-in_err-lead_past_old.result (λ told small hands accepted found.
    (let f = g.S.Space.form c.args.s.now in
    let a = g.S.Space.image c.args.s.now in
    let m = g.S.Space.image c.lead_past_old.new.s in
    elim (c.in_err-lead_past_old.ensures.stopped told) [
      | inl same ↦ stopped_before f a m c.args.key.now c.args.value.now c.args.over c.args.h hands accepted (same ∙ c.len.ensures.image)
      | inr took ↦
          stopped_out f (g.S.Space.form c.len.new.self) a (g.S.Space.image c.len.new.self) m c.args.h hands c.args.key.now c.args.value.now c.args.over
          c.len.ensures.form c.len.ensures.image accepted found took
    ]))

-- the new record was written in part, or the head leads to it
pub returns-in_err-put_in_front-clause-stopped : goal.returns-in_err-put_in_front-clause-stopped
returns-in_err-put_in_front-clause-stopped g c = on_err c.from_residual-in_err-put_in_front.result (λ told small hands accepted found.
    (let f = g.S.Space.form c.args.s.now in
    let a = g.S.Space.image c.args.s.now in
    let m = g.S.Space.image c.lead_past_old.new.s in
    let b = g.S.Space.image c.put_in_front.new.s in
    let size = c.lead_past_old.ensures.size ∙ c.len.ensures.size in
    let long : length m ≡ length a = g.met.S.Space.told_size c.lead_past_old.new.s told ∙ size ∙ sym (g.met.S.Space.told_size c.args.s.now told) in
    stopped_putting f (g.S.Space.form c.len.new.self) (g.S.Space.form c.lead_past_old.new.s) a (g.S.Space.image c.len.new.self) m b c.args.h c.off-at.result c.rec_len-rec_len.result hands c.args.key.now c.args.value.now c.args.over
    c.len.ensures.form (c.lead_past_old.ensures.wrote.form ∙ c.len.ensures.form) c.len.ensures.image c.off-at.ensures.value c.rec_len-rec_len.ensures.value long accepted found
    (c.in_ok-lead_past_old.ensures.took told) (c.in_err-put_in_front.ensures.stopped told (omega (arith, size, small)))))
