-- Each way out, by the tests so far.
use Rattle.std.proofs.Common.{◌≡◌, ◌+◌, ◌≤◌, false, length, take, drop, sym, ◌∙◌, ap, arith}
use Rattle.tdb_words.specs.declared.record.Rec.{Rec}
use Rattle.tdb_words.specs.Word.{word}
use Rattle.tdb_words.specs.Hash.{h_jenkins}
use Rattle.tdb_words.specs.Record.{rec_at}
use Rattle.tdb_check.specs.Hashes.{AreHashesOf}
use Rattle.tdb_check.specs.Seen.{kind_of, is_bad_header, is_misfiled_header}
use Rattle.tdb_check.proofs.Judged.{header_seen, window_again, bad_found, tailer_found, unused_good, misfiled_found, good_found}
use Rattle.tdb_check.proofs.Rising.{rose_then}
use Rattle.tdb_check.proofs.Fetched.{used_reads}
use Rattle.tdb_check.proofs.Still.{still_then}
use Rattle.tdb_check.proofs.record.read_record.Goals as goal

pub returns-then-is_bad-clause-bad : goal.returns-then-is_bad-clause-bad
returns-then-is_bad-clause-bad g c told long =
    let f = g.S.Space.form c.args.s.now in
    let img = g.S.Space.image c.args.s.now in
    let a = c.in_ok-held.ensures in
    let order : c.order.result ≡ f.order = c.order.ensures ∙ ap (λ x. x.order) a.looked.form in
    let is : c.header_in-r.result ≡ rec_at f.order img c.args.at = c.header_in-r.ensures ∙ (λ j. rec_at (order j) (take c.in_ok-held.held c.fill.new.buf) 0)
    ∙ header_seen f.order img (take c.in_ok-held.held c.fill.new.buf) c.args.at c.in_ok-held.held a.held.0 (a.shows told) in
    bad_found f (kind_of c.args.kind) img c.args.at c.args.len c.header_in-r.result is long (sym c.is_bad.ensures ∙ c.if-is_bad.true)

pub returns-then-tailer-r-clause-bad : goal.returns-then-tailer-r-clause-bad
returns-then-tailer-r-clause-bad g c told long =
    let f = g.S.Space.form c.args.s.now in
    let img = g.S.Space.image c.args.s.now in
    let a = c.in_ok-held.ensures in
    let order : c.order.result ≡ f.order = c.order.ensures ∙ ap (λ x. x.order) a.looked.form in
    let is : c.header_in-r.result ≡ rec_at f.order img c.args.at = c.header_in-r.ensures ∙ (λ j. rec_at (order j) (take c.in_ok-held.held c.fill.new.buf) 0)
    ∙ header_seen f.order img (take c.in_ok-held.held c.fill.new.buf) c.args.at c.in_ok-held.held a.held.0 (a.shows told) in
    let fits : c.in_ok-held.held ≤ length c.fill.new.buf = omega (arith, a.long, a.held.1) in
    let window = window_again img (g.S.Space.image c.fill.new.s) c.fill.new.buf c.args.at c.in_ok-held.held fits (a.shows told) a.looked.image in
    let t : c.in_ok-tailer.tailer ≡ word f.order img (c.args.at + 20 + c.header_in-r.result.rec_len) =
    c.in_ok-tailer.ensures.value told window ∙ (λ j. word (a.looked.form j).order (a.looked.image j) (c.args.at + 20 + c.header_in-r.result.rec_len)) in
    let good : is_bad_header (kind_of c.args.kind) c.header_in-r.result c.args.at c.args.len ≡ false = sym c.is_bad.ensures ∙ c.if-is_bad.false in
    tailer_found f (kind_of c.args.kind) img c.args.at c.args.len c.header_in-r.result is long c.in_ok-tailer.tailer good t c.if-tailer-r.true

pub returns-then-r-ne-USED-clause-good : goal.returns-then-r-ne-USED-clause-good
returns-then-r-ne-USED-clause-good g c told long =
    let f = g.S.Space.form c.args.s.now in
    let img = g.S.Space.image c.args.s.now in
    let a = c.in_ok-held.ensures in
    let order : c.order.result ≡ f.order = c.order.ensures ∙ ap (λ x. x.order) a.looked.form in
    let is : c.header_in-r.result ≡ rec_at f.order img c.args.at = c.header_in-r.ensures ∙ (λ j. rec_at (order j) (take c.in_ok-held.held c.fill.new.buf) 0)
    ∙ header_seen f.order img (take c.in_ok-held.held c.fill.new.buf) c.args.at c.in_ok-held.held a.held.0 (a.shows told) in
    let fits : c.in_ok-held.held ≤ length c.fill.new.buf = omega (arith, a.long, a.held.1) in
    let window = window_again img (g.S.Space.image c.fill.new.s) c.fill.new.buf c.args.at c.in_ok-held.held fits (a.shows told) a.looked.image in
    let t : c.in_ok-tailer.tailer ≡ word f.order img (c.args.at + 20 + c.header_in-r.result.rec_len) =
    c.in_ok-tailer.ensures.value told window ∙ (λ j. word (a.looked.form j).order (a.looked.image j) (c.args.at + 20 + c.header_in-r.result.rec_len)) in
    let good : is_bad_header (kind_of c.args.kind) c.header_in-r.result c.args.at c.args.len ≡ false = sym c.is_bad.ensures ∙ c.if-is_bad.false in
    (unused_good f (kind_of c.args.kind) img c.args.at c.args.len c.header_in-r.result is long c.in_ok-tailer.tailer good t c.if-tailer-r.false c.if-r-ne-USED.true, record { header = is; mark = λ used. absurd (c.if-r-ne-USED.true (ap (λ (x : Rec). x.magic) is ∙ used)) })

pub returns-then-is_misfiled-clause-bad : goal.returns-then-is_misfiled-clause-bad
returns-then-is_misfiled-clause-bad g c told long =
    let f = g.S.Space.form c.args.s.now in
    let img = g.S.Space.image c.args.s.now in
    let a = c.in_ok-held.ensures in
    let order : c.order.result ≡ f.order = c.order.ensures ∙ ap (λ x. x.order) a.looked.form in
    let is : c.header_in-r.result ≡ rec_at f.order img c.args.at = c.header_in-r.ensures ∙ (λ j. rec_at (order j) (take c.in_ok-held.held c.fill.new.buf) 0)
    ∙ header_seen f.order img (take c.in_ok-held.held c.fill.new.buf) c.args.at c.in_ok-held.held a.held.0 (a.shows told) in
    let fits : c.in_ok-held.held ≤ length c.fill.new.buf = omega (arith, a.long, a.held.1) in
    let window = window_again img (g.S.Space.image c.fill.new.s) c.fill.new.buf c.args.at c.in_ok-held.held fits (a.shows told) a.looked.image in
    let t : c.in_ok-tailer.tailer ≡ word f.order img (c.args.at + 20 + c.header_in-r.result.rec_len) =
    c.in_ok-tailer.ensures.value told window ∙ (λ j. word (a.looked.form j).order (a.looked.image j) (c.args.at + 20 + c.header_in-r.result.rec_len)) in
    let good : is_bad_header (kind_of c.args.kind) c.header_in-r.result c.args.at c.args.len ≡ false = sym c.is_bad.ensures ∙ c.if-is_bad.false in
    let b = c.in_ok-tailer.ensures in
    let again = window_again img (g.S.Space.image c.tailer_of.new.s) c.fill.new.buf c.args.at c.in_ok-held.held fits (a.shows told) (b.looked.image ∙ a.looked.image) in
    let hashes : AreHashesOf f.hash (take c.header_in-r.result.key_len (drop (c.args.at + 24) img)) c.in_ok-hashes.hashes =
    still_then (λ h i. AreHashesOf h.hash (take c.header_in-r.result.key_len (drop (c.args.at + 24) i)) c.in_ok-hashes.hashes) (b.looked.form ∙ a.looked.form) (b.looked.image ∙ a.looked.image)
    (c.in_ok-hashes.ensures.value told again) in
    let form = c.in_ok-hashes.ensures.looked.form ∙ b.looked.form ∙ a.looked.form in
    let chains : c.hash_size.result ≡ f.chains = c.hash_size.ensures ∙ ap (λ x. x.chains) form in
    let placed : c.is_misfiled.result ≡ is_misfiled_header (kind_of c.args.kind) c.header_in-r.result c.in_ok-hashes.hashes.own f.chains =
    c.is_misfiled.ensures ∙ ap (is_misfiled_header (kind_of c.args.kind) c.header_in-r.result c.in_ok-hashes.hashes.own) chains in
    misfiled_found f (kind_of c.args.kind) img c.args.at c.args.len c.header_in-r.result is long c.in_ok-tailer.tailer c.in_ok-hashes.hashes.own good t c.if-tailer-r.false hashes.own c.if-r-ne-USED.false (sym placed ∙ c.if-is_misfiled.true)

pub returns-clause-good : goal.returns-clause-good
returns-clause-good g c told long =
    let f = g.S.Space.form c.args.s.now in
    let img = g.S.Space.image c.args.s.now in
    let a = c.in_ok-held.ensures in
    let order : c.order.result ≡ f.order = c.order.ensures ∙ ap (λ x. x.order) a.looked.form in
    let is : c.header_in-r.result ≡ rec_at f.order img c.args.at = c.header_in-r.ensures ∙ (λ j. rec_at (order j) (take c.in_ok-held.held c.fill.new.buf) 0)
    ∙ header_seen f.order img (take c.in_ok-held.held c.fill.new.buf) c.args.at c.in_ok-held.held a.held.0 (a.shows told) in
    let fits : c.in_ok-held.held ≤ length c.fill.new.buf = omega (arith, a.long, a.held.1) in
    let window = window_again img (g.S.Space.image c.fill.new.s) c.fill.new.buf c.args.at c.in_ok-held.held fits (a.shows told) a.looked.image in
    let t : c.in_ok-tailer.tailer ≡ word f.order img (c.args.at + 20 + c.header_in-r.result.rec_len) =
    c.in_ok-tailer.ensures.value told window ∙ (λ j. word (a.looked.form j).order (a.looked.image j) (c.args.at + 20 + c.header_in-r.result.rec_len)) in
    let good : is_bad_header (kind_of c.args.kind) c.header_in-r.result c.args.at c.args.len ≡ false = sym c.is_bad.ensures ∙ c.if-is_bad.false in
    let b = c.in_ok-tailer.ensures in
    let again = window_again img (g.S.Space.image c.tailer_of.new.s) c.fill.new.buf c.args.at c.in_ok-held.held fits (a.shows told) (b.looked.image ∙ a.looked.image) in
    let hashes : AreHashesOf f.hash (take c.header_in-r.result.key_len (drop (c.args.at + 24) img)) c.in_ok-hashes.hashes =
    still_then (λ h i. AreHashesOf h.hash (take c.header_in-r.result.key_len (drop (c.args.at + 24) i)) c.in_ok-hashes.hashes) (b.looked.form ∙ a.looked.form) (b.looked.image ∙ a.looked.image)
    (c.in_ok-hashes.ensures.value told again) in
    let form = c.in_ok-hashes.ensures.looked.form ∙ b.looked.form ∙ a.looked.form in
    let chains : c.hash_size.result ≡ f.chains = c.hash_size.ensures ∙ ap (λ x. x.chains) form in
    let placed : c.is_misfiled.result ≡ is_misfiled_header (kind_of c.args.kind) c.header_in-r.result c.in_ok-hashes.hashes.own f.chains =
    c.is_misfiled.ensures ∙ ap (is_misfiled_header (kind_of c.args.kind) c.header_in-r.result c.in_ok-hashes.hashes.own) chains in
    (good_found f (kind_of c.args.kind) img c.args.at c.args.len c.header_in-r.result is long c.in_ok-tailer.tailer c.in_ok-hashes.hashes.own good t c.if-tailer-r.false hashes.own c.if-r-ne-USED.false (sym placed ∙ c.if-is_misfiled.false), record { header = is; mark = λ used. hashes.mark ∙ ap (λ (x : Rec). h_jenkins (take x.key_len (drop (c.args.at + 24) img))) is })

pub returns-in_err-hashes-clause-bytes_read : goal.returns-in_err-hashes-clause-bytes_read
returns-in_err-hashes-clause-bytes_read g c told long =
    let f = g.S.Space.form c.args.s.now in
    let img = g.S.Space.image c.args.s.now in
    let a = c.in_ok-held.ensures in
    let order : c.order.result ≡ f.order = c.order.ensures ∙ ap (λ x. x.order) a.looked.form in
    let is : c.header_in-r.result ≡ rec_at f.order img c.args.at = c.header_in-r.ensures ∙ (λ j. rec_at (order j) (take c.in_ok-held.held c.fill.new.buf) 0)
    ∙ header_seen f.order img (take c.in_ok-held.held c.fill.new.buf) c.args.at c.in_ok-held.held a.held.0 (a.shows told) in
    let all = used_reads f img c.args.at c.header_in-r.result is c.if-r-ne-USED.false in
    rose_then 132 c.header_in-r.result.key_len _ _ _ _ (rose_then _ _ _ _ _ _ a.bytes_read c.in_ok-tailer.ensures.bytes_read (omega arith)) c.in_err-hashes.ensures.bytes_read (omega (arith, all))

pub returns-then-is_misfiled-clause-bytes_read : goal.returns-then-is_misfiled-clause-bytes_read
returns-then-is_misfiled-clause-bytes_read g c told long =
    let f = g.S.Space.form c.args.s.now in
    let img = g.S.Space.image c.args.s.now in
    let a = c.in_ok-held.ensures in
    let order : c.order.result ≡ f.order = c.order.ensures ∙ ap (λ x. x.order) a.looked.form in
    let is : c.header_in-r.result ≡ rec_at f.order img c.args.at = c.header_in-r.ensures ∙ (λ j. rec_at (order j) (take c.in_ok-held.held c.fill.new.buf) 0)
    ∙ header_seen f.order img (take c.in_ok-held.held c.fill.new.buf) c.args.at c.in_ok-held.held a.held.0 (a.shows told) in
    let all = used_reads f img c.args.at c.header_in-r.result is c.if-r-ne-USED.false in
    rose_then 132 c.header_in-r.result.key_len _ _ _ _ (rose_then _ _ _ _ _ _ a.bytes_read c.in_ok-tailer.ensures.bytes_read (omega arith)) c.in_ok-hashes.ensures.bytes_read (omega (arith, all))

pub returns-clause-bytes_read : goal.returns-clause-bytes_read
returns-clause-bytes_read g c told long =
    let f = g.S.Space.form c.args.s.now in
    let img = g.S.Space.image c.args.s.now in
    let a = c.in_ok-held.ensures in
    let order : c.order.result ≡ f.order = c.order.ensures ∙ ap (λ x. x.order) a.looked.form in
    let is : c.header_in-r.result ≡ rec_at f.order img c.args.at = c.header_in-r.ensures ∙ (λ j. rec_at (order j) (take c.in_ok-held.held c.fill.new.buf) 0)
    ∙ header_seen f.order img (take c.in_ok-held.held c.fill.new.buf) c.args.at c.in_ok-held.held a.held.0 (a.shows told) in
    let all = used_reads f img c.args.at c.header_in-r.result is c.if-r-ne-USED.false in
    rose_then 132 c.header_in-r.result.key_len _ _ _ _ (rose_then _ _ _ _ _ _ a.bytes_read c.in_ok-tailer.ensures.bytes_read (omega arith)) c.in_ok-hashes.ensures.bytes_read (omega (arith, all))
