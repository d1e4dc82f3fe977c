-- Each way out, by the word at 44 and the header that it leads to.
use Rattle.std.proofs.Common.{◌≡◌, false, take, drop, sym, ◌∙◌, ap, arith}
use Rattle.tdb_disk.specs.History.{seen}
use Rattle.tdb_words.specs.Word.{word}
use Rattle.tdb_words.specs.Record.{rec_at}
use Rattle.tdb_words.proofs.Words.{word_of_part, rec_of_part}
use Rattle.tdb_space.specs.Form.{form_in}
use Rattle.tdb_undo.specs.Area.{is_out_at}
use Rattle.tdb_undo.proofs.Heads.{no_area, area_out, area_by_header, not_true, not_false}
use Rattle.tdb_undo.proofs.area.read_area.Goals as goal

pub returns-then-at-eq0-clause-found : goal.returns-then-at-eq0-clause-found
returns-then-at-eq0-clause-found g c told =
    let f = form_in c.args.h.now in
    let img = seen (g.D.Disk.history c.args.d.now) in
    let bytes : c.read.new.buf ≡ take 4 (drop 44 img) = c.in_ok-read.ensures.bytes told ∙ ap (λ h. take 4 (drop 44 (seen h))) c.len.ensures.history in
    let is : c.word_at-at.result ≡ word f.order img 44 = c.word_at-at.ensures ∙ ap (λ b. word f.order b 0) bytes ∙ word_of_part f.order img 44 4 0 (omega arith) in
    no_area f img c.word_at-at.result is c.if-at-eq0.true

pub returns-then-not-can_stand-clause-bad : goal.returns-then-not-can_stand-clause-bad
returns-then-not-can_stand-clause-bad g c told =
    let f = form_in c.args.h.now in
    let img = seen (g.D.Disk.history c.args.d.now) in
    let bytes : c.read.new.buf ≡ take 4 (drop 44 img) = c.in_ok-read.ensures.bytes told ∙ ap (λ h. take 4 (drop 44 (seen h))) c.len.ensures.history in
    let is : c.word_at-at.result ≡ word f.order img 44 = c.word_at-at.ensures ∙ ap (λ b. word f.order b 0) bytes ∙ word_of_part f.order img 44 4 0 (omega arith) in
    let long = g.met.D.Disk.told_size c.args.d.now told ∙ sym c.in_ok-len.ensures.length in
    area_out f img c.word_at-at.result c.in_ok-len.len is c.if-at-eq0.false long (not_false (is_out_at f.chains c.in_ok-len.len c.word_at-at.result) (sym c.can_stand.ensures ∙ c.if-not-can_stand.true))

pub returns-in-Some-clause-bad : goal.returns-in-Some-clause-bad
returns-in-Some-clause-bad g c told =
    let f = form_in c.args.h.now in
    let img = seen (g.D.Disk.history c.args.d.now) in
    let bytes : c.read.new.buf ≡ take 4 (drop 44 img) = c.in_ok-read.ensures.bytes told ∙ ap (λ h. take 4 (drop 44 (seen h))) c.len.ensures.history in
    let is : c.word_at-at.result ≡ word f.order img 44 = c.word_at-at.ensures ∙ ap (λ b. word f.order b 0) bytes ∙ word_of_part f.order img 44 4 0 (omega arith) in
    let long = g.met.D.Disk.told_size c.args.d.now told ∙ sym c.in_ok-len.ensures.length in
    let inside : is_out_at f.chains c.in_ok-len.len c.word_at-at.result ≡ false = not_true (is_out_at f.chains c.in_ok-len.len c.word_at-at.result) (sym c.can_stand.ensures ∙ c.if-not-can_stand.false) in
    let more : c.read-2.new.buf ≡ take 24 (drop c.word_at-at.result img) = c.in_ok-read-2.ensures.bytes told ∙ ap (λ h. take 24 (drop c.word_at-at.result (seen h))) (c.read.ensures.history ∙ c.len.ensures.history) in
    let header : c.rec_of.result ≡ rec_at f.order img c.word_at-at.result = c.rec_of.ensures.header ∙ ap (λ b. rec_at f.order b 0) more ∙ rec_of_part f.order img c.word_at-at.result 24 (omega arith) in
    area_by_header f img c.word_at-at.result c.in_ok-len.len c.rec_of.result is c.if-at-eq0.false long inside header ∙ sym c.header_fault.ensures ∙ c.in-Some.is

pub returns-in-None-clause-found : goal.returns-in-None-clause-found
returns-in-None-clause-found g c told =
    let f = form_in c.args.h.now in
    let img = seen (g.D.Disk.history c.args.d.now) in
    let bytes : c.read.new.buf ≡ take 4 (drop 44 img) = c.in_ok-read.ensures.bytes told ∙ ap (λ h. take 4 (drop 44 (seen h))) c.len.ensures.history in
    let is : c.word_at-at.result ≡ word f.order img 44 = c.word_at-at.ensures ∙ ap (λ b. word f.order b 0) bytes ∙ word_of_part f.order img 44 4 0 (omega arith) in
    let long = g.met.D.Disk.told_size c.args.d.now told ∙ sym c.in_ok-len.ensures.length in
    let inside : is_out_at f.chains c.in_ok-len.len c.word_at-at.result ≡ false = not_true (is_out_at f.chains c.in_ok-len.len c.word_at-at.result) (sym c.can_stand.ensures ∙ c.if-not-can_stand.false) in
    let more : c.read-2.new.buf ≡ take 24 (drop c.word_at-at.result img) = c.in_ok-read-2.ensures.bytes told ∙ ap (λ h. take 24 (drop c.word_at-at.result (seen h))) (c.read.ensures.history ∙ c.len.ensures.history) in
    let header : c.rec_of.result ≡ rec_at f.order img c.word_at-at.result = c.rec_of.ensures.header ∙ ap (λ b. rec_at f.order b 0) more ∙ rec_of_part f.order img c.word_at-at.result 24 (omega arith) in (
      area_by_header f img c.word_at-at.result c.in_ok-len.len c.rec_of.result is c.if-at-eq0.false long inside header ∙ sym c.header_fault.ensures ∙ c.in-None.is,
      record { there = is; head = header },
    )
