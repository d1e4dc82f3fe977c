-- What the bytes that were read say of the front.
use Rattle.std.proofs.Common.{◌≡◌, ◌≤◌, length, take, drop, ◌∙◌, ap, arith}
use Rattle.tdb_disk.specs.History.{seen}
use Rattle.tdb_space.proofs.FirstFault.Agreed.{chains_some}
use Rattle.tdb_check.proofs.Fronts.{front_header, header_whole, header_read}
use Rattle.tdb_mend.specs.View.{mended_view, view_length}
use Rattle.tdb_mend.proofs.mending.shown_header.Goals as goal

pub returns-in-Ok-clause-header : goal.returns-in-Ok-clause-header
returns-in-Ok-clause-header g c told =
    let base = seen (g.D.Disk.history c.args.d.now) in
    let img = mended_view c.args.file.now base in
    let held : 168 ≤ length img = omega (arith, view_length c.args.file.now base, c.requires.long) in
    let read : c.read.new.buf ≡ take 168 (drop 0 img) = c.in_ok-read.ensures.bytes told in
    (header_whole img c.read.new.buf held read c.in-Ok.ensures.header.0.no_fault, c.in-Ok.ensures.header.1 ∙ header_read img c.read.new.buf read)

pub returns-in-Err-clause-refused : goal.returns-in-Err-clause-refused
returns-in-Err-clause-refused g c told =
    let base = seen (g.D.Disk.history c.args.d.now) in
    let img = mended_view c.args.file.now base in
    let held : 168 ≤ length img = omega (arith, view_length c.args.file.now base, c.requires.long) in
    let read : c.read.new.buf ≡ take 168 (drop 0 img) = c.in_ok-read.ensures.bytes told in
    (front_header img c.read.new.buf c.in-Err._fault held read c.in-Err.ensures.fault).0

pub returns-in-Ok-clause-chains : goal.returns-in-Ok-clause-chains
returns-in-Ok-clause-chains g c =
    let some = chains_some c.read.new.buf c.in-Ok.ensures.header.0.no_fault in
    omega (arith, some, ap (λ h. h.hash_size) c.in-Ok.ensures.header.1)
