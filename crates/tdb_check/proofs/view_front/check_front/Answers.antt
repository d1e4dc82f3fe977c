-- Each way out, by the bytes that were read and the form of the view.
use Rattle.std.proofs.Common.{◌≡◌, ◌≤◌, length, take, drop, sym, ◌∙◌, ap, arith}
use Rattle.tdb_words.specs.Header.{hash_size_of}
use Rattle.tdb_space.proofs.FirstFault.Agreed.{chains_some}
use Rattle.tdb_check.proofs.Fronts.{front_header, header_whole, length_short, front_sound}
use Rattle.tdb_check.proofs.view_front.check_front.Goals as goal

pub returns-in-Err-clause-bad : goal.returns-in-Err-clause-bad
returns-in-Err-clause-bad g c told same =
    let img = g.S.Space.image c.args.s.now in
    let long : length img ≡ c.in_ok-len.len = g.met.S.Space.told_size c.args.s.now told ∙ sym c.in_ok-len.ensures.length in
    let held : 168 ≤ length img = omega (arith, long, c.if-len-lt168.false) in
    let read : c.read.new.buf ≡ take 168 (drop 0 img) = c.in_ok-read.ensures.bytes told ∙ ap (λ i. take 168 (drop 0 i)) c.len.ensures.image in
    (front_header img c.read.new.buf c.in-Err._fault held read c.in-Err.ensures.fault).0

pub returns-then-is_short-clause-bad : goal.returns-then-is_short-clause-bad
returns-then-is_short-clause-bad g c told same =
    let img = g.S.Space.image c.args.s.now in
    let long : length img ≡ c.in_ok-len.len = g.met.S.Space.told_size c.args.s.now told ∙ sym c.in_ok-len.ensures.length in
    let held : 168 ≤ length img = omega (arith, long, c.if-len-lt168.false) in
    let read : c.read.new.buf ≡ take 168 (drop 0 img) = c.in_ok-read.ensures.bytes told ∙ ap (λ i. take 168 (drop 0 i)) c.len.ensures.image in
    let ok = header_whole img c.read.new.buf held read c.in_default.ensures.header.0.no_fault in
    let chains : c.hash_size-chains.result ≡ hash_size_of img = c.hash_size-chains.ensures ∙ ap (λ f. f.chains) (c.read.ensures.form ∙ c.len.ensures.form ∙ same ok) in
    length_short img c.in_ok-len.len c.hash_size-chains.result long ok chains (sym c.is_short.ensures ∙ c.if-is_short.true)

pub returns-clause-sound : goal.returns-clause-sound
returns-clause-sound g c told same =
    let img = g.S.Space.image c.args.s.now in
    let long : length img ≡ c.in_ok-len.len = g.met.S.Space.told_size c.args.s.now told ∙ sym c.in_ok-len.ensures.length in
    let held : 168 ≤ length img = omega (arith, long, c.if-len-lt168.false) in
    let read : c.read.new.buf ≡ take 168 (drop 0 img) = c.in_ok-read.ensures.bytes told ∙ ap (λ i. take 168 (drop 0 i)) c.len.ensures.image in
    let ok = header_whole img c.read.new.buf held read c.in_default.ensures.header.0.no_fault in
    let chains : c.hash_size-chains.result ≡ hash_size_of img = c.hash_size-chains.ensures ∙ ap (λ f. f.chains) (c.read.ensures.form ∙ c.len.ensures.form ∙ same ok) in
    (front_sound img c.in_ok-len.len c.hash_size-chains.result long ok chains (sym c.is_short.ensures ∙ c.if-is_short.false), same ok)

pub returns-then-chains-eq0-clause-bad : goal.returns-then-chains-eq0-clause-bad
returns-then-chains-eq0-clause-bad g c told same =
    let img = g.S.Space.image c.args.s.now in
    let long : length img ≡ c.in_ok-len.len = g.met.S.Space.told_size c.args.s.now told ∙ sym c.in_ok-len.ensures.length in
    let held : 168 ≤ length img = omega (arith, long, c.if-len-lt168.false) in
    let read : c.read.new.buf ≡ take 168 (drop 0 img) = c.in_ok-read.ensures.bytes told ∙ ap (λ i. take 168 (drop 0 i)) c.len.ensures.image in
    let ok = header_whole img c.read.new.buf held read c.in_default.ensures.header.0.no_fault in
    let chains : c.hash_size-chains.result ≡ hash_size_of img = c.hash_size-chains.ensures ∙ ap (λ f. f.chains) (c.read.ensures.form ∙ c.len.ensures.form ∙ same ok) in
    absurd (omega (arith, chains, chains_some img ok.no_fault, c.if-chains-eq0.true))
