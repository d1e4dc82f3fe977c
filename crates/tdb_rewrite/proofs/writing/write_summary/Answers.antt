-- The text of the summary is that of the image.
use Rattle.std.proofs.Common.{◌≡◌, ◌+◌, ◌≤◌, ◌++◌, length, ◌∙◌, ap, subst, arith}
use Rattle.tdb_free.proofs.Results.{on_err}
use Rattle.tdb_words.specs.Header.{sequence_at}
use Rattle.tdb_words.specs.Word.{word}
use Rattle.tdb_backup.specs.Dump.{WroteFront}
use Rattle.tdb_rewrite.specs.Text.{info_text}
use Rattle.tdb_rewrite.proofs.Written.{text_is, nothing_written}
use Rattle.tdb_rewrite.proofs.writing.write_summary.Goals as goal

pub returns-in_err-sum-clause-front : goal.returns-in_err-sum-clause-front
returns-in_err-sum-clause-front g c = on_err c.from_residual.result (λ told heard stated accepted counted.
    nothing_written (g.K.Sink.written c.args.out.now) (info_text (g.S.Space.image c.args.s.now)))

pub returns-in_err-len-clause-front : goal.returns-in_err-len-clause-front
returns-in_err-len-clause-front g c = on_err c.from_residual-in_err-len.result (λ told heard stated accepted counted.
    nothing_written (g.K.Sink.written c.args.out.now) (info_text (g.S.Space.image c.args.s.now)))

pub returns-in_err-sequence-clause-front : goal.returns-in_err-sequence-clause-front
returns-in_err-sequence-clause-front g c = on_err c.from_residual-in_err-sequence.result (λ told heard stated accepted counted.
    nothing_written (g.K.Sink.written c.args.out.now) (info_text (g.S.Space.image c.args.s.now)))

pub returns-in_err-text-clause-front : goal.returns-in_err-text-clause-front
returns-in_err-text-clause-front g c = on_err c.from_residual-in_err-text.result (λ told heard stated accepted counted.
    nothing_written (g.K.Sink.written c.args.out.now) (info_text (g.S.Space.image c.args.s.now)))

pub returns-in_err-write-clause-front : goal.returns-in_err-write-clause-front
returns-in_err-write-clause-front g c = on_err c.from_residual-in_err-write.result (λ told heard stated accepted counted.
    (let f = g.S.Space.form c.args.s.now in
    let img = g.S.Space.image c.args.s.now in
    let k = g.S.Space.form c.sum_up.new.s in
    let v = g.S.Space.image c.sum_up.new.s in
    let m = g.S.Space.form c.len.new.self in
    let w = g.S.Space.image c.len.new.self in
    let form : k ≡ f = c.sum_up.ensures.looked.form in
    let image : v ≡ img = c.sum_up.ensures.looked.image in
    let form_then : m ≡ f = c.len.ensures.form ∙ form in
    let image_then : w ≡ img = c.len.ensures.image ∙ image in
    let long : c.in_ok-len.len ≡ length img = omega (arith, c.in_ok-len.ensures.length, c.sum_up.ensures.looked.size, g.met.S.Space.told_size c.args.s.now told) in
    let number : sequence_at + 4 ≤ c.in_ok-len.len → c.in_ok-sequence.sequence ≡ word f.order img sequence_at = λ far. subst (λ x. c.in_ok-sequence.sequence ≡ word x.order img sequence_at) form_then (subst (λ i. c.in_ok-sequence.sequence ≡ word m.order i sequence_at) image_then (c.in_ok-sequence.ensures.number told far)) in
    let text = text_is f img c.in_ok-len.len c.in_ok-sequence.sequence c.in_ok-sum.sum c.in_ok-text.text.items (g.S.Space.form c.sequence_number.new.s) (stated accepted.header) accepted long number (c.in_ok-sum.ensures.summed_up told stated accepted counted) (c.sequence_number.ensures.looked.form ∙ form_then) c.in_ok-text.ensures in
    subst (λ t. WroteFront (g.K.Sink.written c.args.out.now) t (g.K.Sink.written c.write.new.self)) (c.deref.ensures.value ∙ text) (c.in_err-write.ensures.some heard)))

pub returns-clause-written : goal.returns-clause-written
returns-clause-written g c told heard stated accepted counted =
    let f = g.S.Space.form c.args.s.now in
    let img = g.S.Space.image c.args.s.now in
    let k = g.S.Space.form c.sum_up.new.s in
    let v = g.S.Space.image c.sum_up.new.s in
    let m = g.S.Space.form c.len.new.self in
    let w = g.S.Space.image c.len.new.self in
    let form : k ≡ f = c.sum_up.ensures.looked.form in
    let image : v ≡ img = c.sum_up.ensures.looked.image in
    let form_then : m ≡ f = c.len.ensures.form ∙ form in
    let image_then : w ≡ img = c.len.ensures.image ∙ image in
    let long : c.in_ok-len.len ≡ length img = omega (arith, c.in_ok-len.ensures.length, c.sum_up.ensures.looked.size, g.met.S.Space.told_size c.args.s.now told) in
    let number : sequence_at + 4 ≤ c.in_ok-len.len → c.in_ok-sequence.sequence ≡ word f.order img sequence_at = λ far. subst (λ x. c.in_ok-sequence.sequence ≡ word x.order img sequence_at) form_then (subst (λ i. c.in_ok-sequence.sequence ≡ word m.order i sequence_at) image_then (c.in_ok-sequence.ensures.number told far)) in
    let text = text_is f img c.in_ok-len.len c.in_ok-sequence.sequence c.in_ok-sum.sum c.in_ok-text.text.items (g.S.Space.form c.sequence_number.new.s) (stated accepted.header) accepted long number (c.in_ok-sum.ensures.summed_up told stated accepted counted) (c.sequence_number.ensures.looked.form ∙ form_then) c.in_ok-text.ensures in
    c.in_ok-write.ensures.all heard ∙ ap (λ t. g.K.Sink.written c.args.out.now ++ t) (c.deref.ensures.value ∙ text)
