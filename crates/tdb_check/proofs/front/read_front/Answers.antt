-- Each way out, by the bytes that were read.
use Rattle.std.proofs.Common.{◌≡◌, ◌≤◌, length, take, drop, sym, ◌∙◌, ap, arith}
use Rattle.tdb_disk.specs.History.{seen}
use Rattle.tdb_words.specs.Header.{header_at}
use Rattle.tdb_space.proofs.FirstFault.Agreed.{chains_some}
use Rattle.tdb_check.proofs.Fronts.{front_header, header_whole, header_read, length_short, front_sound, fits_from}
use Rattle.tdb_check.proofs.front.read_front.Goals as goal

pub returns-in-Err-clause-refused : goal.returns-in-Err-clause-refused
returns-in-Err-clause-refused g c told =
    let img = seen (g.D.Disk.history c.args.d.now) in
    let long : length img ≡ c.in_ok-len.len = g.met.D.Disk.told_size c.args.d.now told ∙ sym c.in_ok-len.ensures.length in
    let held : 168 ≤ length img = omega (arith, long, c.if-len-lt168.false) in
    let read : c.read.new.buf ≡ take 168 (drop 0 img) = c.in_ok-read.ensures.bytes told ∙ ap (λ h. take 168 (drop 0 (seen h))) c.len.ensures.history in
    front_header img c.read.new.buf c.in-Err.fault held read c.in-Err.ensures.fault

pub returns-then-is_short-clause-refused : goal.returns-then-is_short-clause-refused
returns-then-is_short-clause-refused g c told =
    let img = seen (g.D.Disk.history c.args.d.now) in
    let long : length img ≡ c.in_ok-len.len = g.met.D.Disk.told_size c.args.d.now told ∙ sym c.in_ok-len.ensures.length in
    let held : 168 ≤ length img = omega (arith, long, c.if-len-lt168.false) in
    let read : c.read.new.buf ≡ take 168 (drop 0 img) = c.in_ok-read.ensures.bytes told ∙ ap (λ h. take 168 (drop 0 (seen h))) c.len.ensures.history in
    let ok = header_whole img c.read.new.buf held read c.in-Ok.ensures.header.0.no_fault in
    let is : c.in-Ok.header ≡ header_at img = c.in-Ok.ensures.header.1 ∙ header_read img c.read.new.buf read in
    length_short img c.in_ok-len.len c.in-Ok.header.hash_size long ok (ap (λ h. h.hash_size) is) (sym c.is_short.ensures ∙ c.if-is_short.true)

pub returns-clause-sound : goal.returns-clause-sound
returns-clause-sound g c told =
    let img = seen (g.D.Disk.history c.args.d.now) in
    let long : length img ≡ c.in_ok-len.len = g.met.D.Disk.told_size c.args.d.now told ∙ sym c.in_ok-len.ensures.length in
    let held : 168 ≤ length img = omega (arith, long, c.if-len-lt168.false) in
    let read : c.read.new.buf ≡ take 168 (drop 0 img) = c.in_ok-read.ensures.bytes told ∙ ap (λ h. take 168 (drop 0 (seen h))) c.len.ensures.history in
    let ok = header_whole img c.read.new.buf held read c.in-Ok.ensures.header.0.no_fault in
    let is : c.in-Ok.header ≡ header_at img = c.in-Ok.ensures.header.1 ∙ header_read img c.read.new.buf read in
    (front_sound img c.in_ok-len.len c.in-Ok.header.hash_size long ok (ap (λ h. h.hash_size) is) (sym c.is_short.ensures ∙ c.if-is_short.false), is)

pub returns-clause-chains : goal.returns-clause-chains
returns-clause-chains g c =
    let some = chains_some c.read.new.buf c.in-Ok.ensures.header.0.no_fault in
    omega (arith, some, ap (λ h. h.hash_size) c.in-Ok.ensures.header.1)

pub returns-clause-sized : goal.returns-clause-sized
returns-clause-sized g c =
    let fits = fits_from c.in-Ok.header.hash_size c.in_ok-len.len (sym c.is_short.ensures ∙ c.if-is_short.false) in
    omega (arith, fits.0, c.in_ok-len.ensures.length)

pub returns-clause-long : goal.returns-clause-long
returns-clause-long g c =
    let fits = fits_from c.in-Ok.header.hash_size c.in_ok-len.len (sym c.is_short.ensures ∙ c.if-is_short.false) in
    omega (arith, fits.1, c.in_ok-len.ensures.length)
