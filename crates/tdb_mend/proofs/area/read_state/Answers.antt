-- Each way out, by the word at 44 and the header that it leads to.
use Rattle.std.proofs.Common.{◌≡◌, false, not, sym, ◌∙◌, ap}
use Rattle.std.proofs.lemmas.Bool.{eq-eqb, ne_eqb}
use Rattle.tdb_words.specs.Record.{rec_at}
use Rattle.tdb_check.specs.Area.{is_out_at}
use Rattle.tdb_check.proofs.Areas.{not_true, not_false}
use Rattle.tdb_mend.proofs.Areas.{no_area, area_out, area_stands, without_header, header_bad, area_open, area_shut}
use Rattle.tdb_mend.proofs.area.read_state.Goals as goal

pub returns-then-at-eq0-clause-state : goal.returns-then-at-eq0-clause-state
returns-then-at-eq0-clause-state g c told long =
    let none = no_area (g.S.Space.form c.args.s.now) (g.S.Space.image c.args.s.now) c.in_ok-at.at (c.in_ok-at.ensures.value told) c.if-at-eq0.true in
    (none.0, (none.1, none.2))

pub returns-then-not-can_stand-clause-bad : goal.returns-then-not-can_stand-clause-bad
returns-then-not-can_stand-clause-bad g c told long =
    let f = g.S.Space.form c.args.s.now in
    let img = g.S.Space.image c.args.s.now in
    let chains : c.hash_size.result ≡ f.chains = c.hash_size.ensures ∙ ap (λ x. x.chains) c.in_ok-at.ensures.looked.form in
    let stands = c.can_stand.ensures ∙ ap (λ n. not (is_out_at n c.args.len c.in_ok-at.at)) chains in
    area_out f img c.in_ok-at.at c.args.len (c.in_ok-at.ensures.value told) c.if-at-eq0.false long (not_false (is_out_at f.chains c.args.len c.in_ok-at.at) (sym stands ∙ c.if-not-can_stand.true))

pub returns-then-header-eq-PADDING_WORD-clause-state : goal.returns-then-header-eq-PADDING_WORD-clause-state
returns-then-header-eq-PADDING_WORD-clause-state g c told long =
    let f = g.S.Space.form c.args.s.now in
    let img = g.S.Space.image c.args.s.now in
    let at = c.in_ok-at.at in
    let chains : c.hash_size.result ≡ f.chains = c.hash_size.ensures ∙ ap (λ x. x.chains) c.in_ok-at.ensures.looked.form in
    let stands = c.can_stand.ensures ∙ ap (λ n. not (is_out_at n c.args.len c.in_ok-at.at)) chains in
    let inside : is_out_at f.chains c.args.len c.in_ok-at.at ≡ false = not_true (is_out_at f.chains c.args.len c.in_ok-at.at) (sym stands ∙ c.if-not-can_stand.false) in
    let read : c.in_ok-header.header ≡ rec_at f.order img c.in_ok-at.at = c.in_ok-header.ensures.header told ∙ (λ j. rec_at (c.in_ok-at.ensures.looked.form j).order (c.in_ok-at.ensures.looked.image j) c.in_ok-at.at) in
    without_header f img at c.args.len c.in_ok-header.header (c.in_ok-at.ensures.value told) c.if-at-eq0.false long inside read (eq-eqb _ _ c.if-header-eq-PADDING_WORD.true)

pub returns-in-Some-clause-bad : goal.returns-in-Some-clause-bad
returns-in-Some-clause-bad g c told long =
    let f = g.S.Space.form c.args.s.now in
    let img = g.S.Space.image c.args.s.now in
    let at = c.in_ok-at.at in
    let chains : c.hash_size.result ≡ f.chains = c.hash_size.ensures ∙ ap (λ x. x.chains) c.in_ok-at.ensures.looked.form in
    let stands = c.can_stand.ensures ∙ ap (λ n. not (is_out_at n c.args.len c.in_ok-at.at)) chains in
    let inside : is_out_at f.chains c.args.len c.in_ok-at.at ≡ false = not_true (is_out_at f.chains c.args.len c.in_ok-at.at) (sym stands ∙ c.if-not-can_stand.false) in
    let read : c.in_ok-header.header ≡ rec_at f.order img c.in_ok-at.at = c.in_ok-header.ensures.header told ∙ (λ j. rec_at (c.in_ok-at.ensures.looked.form j).order (c.in_ok-at.ensures.looked.image j) c.in_ok-at.at) in
    header_bad f img at c.args.len c.in_ok-header.header (c.in_ok-at.ensures.value told) c.if-at-eq0.false long inside read _ (ne_eqb _ _ c.if-header-eq-PADDING_WORD.false)
    (sym c.header_fault.ensures ∙ c.in-Some.is)

pub returns-then-header-clause-state : goal.returns-then-header-clause-state
returns-then-header-clause-state g c told long =
    let f = g.S.Space.form c.args.s.now in
    let img = g.S.Space.image c.args.s.now in
    let at = c.in_ok-at.at in
    let chains : c.hash_size.result ≡ f.chains = c.hash_size.ensures ∙ ap (λ x. x.chains) c.in_ok-at.ensures.looked.form in
    let stands = c.can_stand.ensures ∙ ap (λ n. not (is_out_at n c.args.len c.in_ok-at.at)) chains in
    let inside : is_out_at f.chains c.args.len c.in_ok-at.at ≡ false = not_true (is_out_at f.chains c.args.len c.in_ok-at.at) (sym stands ∙ c.if-not-can_stand.false) in
    let read : c.in_ok-header.header ≡ rec_at f.order img c.in_ok-at.at = c.in_ok-header.ensures.header told ∙ (λ j. rec_at (c.in_ok-at.ensures.looked.form j).order (c.in_ok-at.ensures.looked.image j) c.in_ok-at.at) in
    let whole = area_open f img at c.args.len c.in_ok-header.header (c.in_ok-at.ensures.value told) c.if-at-eq0.false long inside read (ne_eqb _ _ c.if-header-eq-PADDING_WORD.false)
    (sym c.header_fault.ensures ∙ c.in_default.is) (eq-eqb _ _ c.if-header.true) in
    (whole.0, (whole.1, whole.2, whole.3))

pub returns-then-header-clause-stands : goal.returns-then-header-clause-stands
returns-then-header-clause-stands g c =
    let f = g.S.Space.form c.args.s.now in
    let chains : c.hash_size.result ≡ f.chains = c.hash_size.ensures ∙ ap (λ x. x.chains) c.in_ok-at.ensures.looked.form in
    let stands = c.can_stand.ensures ∙ ap (λ n. not (is_out_at n c.args.len c.in_ok-at.at)) chains in
    let inside : is_out_at f.chains c.args.len c.in_ok-at.at ≡ false = not_true (is_out_at f.chains c.args.len c.in_ok-at.at) (sym stands ∙ c.if-not-can_stand.false) in
    area_stands f.chains c.args.len (record { at = c.in_ok-at.at; header = c.in_ok-header.header }) inside (sym c.header_fault.ensures ∙ c.in_default.is)

pub returns-clause-state : goal.returns-clause-state
returns-clause-state g c told long =
    let f = g.S.Space.form c.args.s.now in
    let img = g.S.Space.image c.args.s.now in
    let at = c.in_ok-at.at in
    let chains : c.hash_size.result ≡ f.chains = c.hash_size.ensures ∙ ap (λ x. x.chains) c.in_ok-at.ensures.looked.form in
    let stands = c.can_stand.ensures ∙ ap (λ n. not (is_out_at n c.args.len c.in_ok-at.at)) chains in
    let inside : is_out_at f.chains c.args.len c.in_ok-at.at ≡ false = not_true (is_out_at f.chains c.args.len c.in_ok-at.at) (sym stands ∙ c.if-not-can_stand.false) in
    let read : c.in_ok-header.header ≡ rec_at f.order img c.in_ok-at.at = c.in_ok-header.ensures.header told ∙ (λ j. rec_at (c.in_ok-at.ensures.looked.form j).order (c.in_ok-at.ensures.looked.image j) c.in_ok-at.at) in
    let whole = area_shut f img at c.args.len c.in_ok-header.header (c.in_ok-at.ensures.value told) c.if-at-eq0.false long inside read (ne_eqb _ _ c.if-header-eq-PADDING_WORD.false)
    (sym c.header_fault.ensures ∙ c.in_default.is) (ne_eqb _ _ c.if-header.false) in
    (whole.0, (whole.1, whole.2))
