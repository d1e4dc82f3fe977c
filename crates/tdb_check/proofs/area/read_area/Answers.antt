-- Each way out, by the word at 44 and the header that it leads to.
use Rattle.std.proofs.Common.{◌≡◌, not, false, take, drop, sym, ◌∙◌, ap, arith}
use Rattle.tdb_words.specs.Word.{word}
use Rattle.tdb_words.specs.Record.{rec_at}
use Rattle.tdb_words.proofs.Words.{word_of_part}
use Rattle.tdb_check.specs.Area.{is_out_at}
use Rattle.tdb_check.proofs.Areas.{no_area, area_out, area_by_header, area_there, not_true, not_false}
use Rattle.tdb_check.proofs.area.read_area.Goals as goal

pub returns-then-at-eq0-clause-sound : goal.returns-then-at-eq0-clause-sound
returns-then-at-eq0-clause-sound g c told long =
    let f = g.S.Space.form c.args.s.now in
    let img = g.S.Space.image c.args.s.now in
    let order : c.order.result ≡ f.order = c.order.ensures ∙ ap (λ x. x.order) c.read.ensures.form in
    let bytes : c.read.new.buf ≡ take 4 (drop 44 img) = c.in_ok-read.ensures.bytes told in
    let is : c.word_at-at.result ≡ word f.order img 44 = c.word_at-at.ensures ∙ (λ j. word (order j) (bytes j) 0) ∙ word_of_part f.order img 44 4 0 (omega arith) in
    no_area f img c.word_at-at.result is c.if-at-eq0.true

pub returns-then-not-can_stand-clause-bad : goal.returns-then-not-can_stand-clause-bad
returns-then-not-can_stand-clause-bad g c told long =
    let f = g.S.Space.form c.args.s.now in
    let img = g.S.Space.image c.args.s.now in
    let order : c.order.result ≡ f.order = c.order.ensures ∙ ap (λ x. x.order) c.read.ensures.form in
    let bytes : c.read.new.buf ≡ take 4 (drop 44 img) = c.in_ok-read.ensures.bytes told in
    let is : c.word_at-at.result ≡ word f.order img 44 = c.word_at-at.ensures ∙ (λ j. word (order j) (bytes j) 0) ∙ word_of_part f.order img 44 4 0 (omega arith) in
    let chains : c.hash_size.result ≡ f.chains = c.hash_size.ensures ∙ ap (λ x. x.chains) c.read.ensures.form in
    let stands = c.can_stand.ensures ∙ ap (λ n. not (is_out_at n c.args.len c.word_at-at.result)) chains in
    area_out f img c.word_at-at.result c.args.len is c.if-at-eq0.false long (not_false (is_out_at f.chains c.args.len c.word_at-at.result) (sym stands ∙ c.if-not-can_stand.true))

pub returns-in-Some-clause-bad : goal.returns-in-Some-clause-bad
returns-in-Some-clause-bad g c told long =
    let f = g.S.Space.form c.args.s.now in
    let img = g.S.Space.image c.args.s.now in
    let order : c.order.result ≡ f.order = c.order.ensures ∙ ap (λ x. x.order) c.read.ensures.form in
    let bytes : c.read.new.buf ≡ take 4 (drop 44 img) = c.in_ok-read.ensures.bytes told in
    let is : c.word_at-at.result ≡ word f.order img 44 = c.word_at-at.ensures ∙ (λ j. word (order j) (bytes j) 0) ∙ word_of_part f.order img 44 4 0 (omega arith) in
    let chains : c.hash_size.result ≡ f.chains = c.hash_size.ensures ∙ ap (λ x. x.chains) c.read.ensures.form in
    let stands = c.can_stand.ensures ∙ ap (λ n. not (is_out_at n c.args.len c.word_at-at.result)) chains in
    let inside : is_out_at f.chains c.args.len c.word_at-at.result ≡ false = not_true (is_out_at f.chains c.args.len c.word_at-at.result) (sym stands ∙ c.if-not-can_stand.false) in
    let read : c.in_ok-r.r ≡ rec_at f.order img c.word_at-at.result = c.in_ok-r.ensures.header told ∙ (λ j. rec_at (c.read.ensures.form j).order (c.read.ensures.image j) c.word_at-at.result) in
    area_by_header f img c.word_at-at.result c.args.len c.in_ok-r.r is c.if-at-eq0.false long inside read ∙ sym c.fault_in.ensures ∙ c.in-Some.is

pub returns-in-None-clause-sound : goal.returns-in-None-clause-sound
returns-in-None-clause-sound g c told long =
    let f = g.S.Space.form c.args.s.now in
    let img = g.S.Space.image c.args.s.now in
    let order : c.order.result ≡ f.order = c.order.ensures ∙ ap (λ x. x.order) c.read.ensures.form in
    let bytes : c.read.new.buf ≡ take 4 (drop 44 img) = c.in_ok-read.ensures.bytes told in
    let is : c.word_at-at.result ≡ word f.order img 44 = c.word_at-at.ensures ∙ (λ j. word (order j) (bytes j) 0) ∙ word_of_part f.order img 44 4 0 (omega arith) in
    let chains : c.hash_size.result ≡ f.chains = c.hash_size.ensures ∙ ap (λ x. x.chains) c.read.ensures.form in
    let stands = c.can_stand.ensures ∙ ap (λ n. not (is_out_at n c.args.len c.word_at-at.result)) chains in
    let inside : is_out_at f.chains c.args.len c.word_at-at.result ≡ false = not_true (is_out_at f.chains c.args.len c.word_at-at.result) (sym stands ∙ c.if-not-can_stand.false) in
    let read : c.in_ok-r.r ≡ rec_at f.order img c.word_at-at.result = c.in_ok-r.ensures.header told ∙ (λ j. rec_at (c.read.ensures.form j).order (c.read.ensures.image j) c.word_at-at.result) in (
      area_by_header f img c.word_at-at.result c.args.len c.in_ok-r.r is c.if-at-eq0.false long inside read ∙ sym c.fault_in.ensures ∙ c.in-None.is,
      area_there f.order img c.word_at-at.result c.in_ok-r.r is c.if-at-eq0.false read,
    )
