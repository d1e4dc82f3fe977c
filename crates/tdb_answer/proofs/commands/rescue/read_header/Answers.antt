use Rattle.std.proofs.Common.{◌≡◌, ◌≤◌, length, take, drop, sym, ◌∙◌, ap, arith}
use Rattle.tdb_disk.specs.History.{seen}
use Rattle.tdb_check.proofs.Fronts.{front_header, header_whole, header_read}
use Rattle.tdb_answer.proofs.commands.rescue.read_header.Goals as goal

-- the header has no fault
pub returns-in-Ok-clause-header : goal.returns-in-Ok-clause-header
returns-in-Ok-clause-header g c told =
    let img = seen (g.D.Disk.history c.args.disk.now) in
    let long : length img ≡ c.in_ok-len.len = g.met.D.Disk.told_size c.args.disk.now told ∙ sym c.in_ok-len.ensures.length in
    let held : 168 ≤ length img = omega (arith, long, c.if-len-lt168.false) in
    let read : c.read.new.buf ≡ take 168 (drop 0 img) = c.in_ok-read.ensures.bytes told ∙ ap (λ h. take 168 (drop 0 (seen h))) c.len.ensures.history in (
      record { within = omega (arith, long, c.if-len-gt-LONGEST_FILE.false); header = header_whole img c.read.new.buf held read c.in-Ok.ensures.header.0.no_fault },
      c.in-Ok.ensures.header.1 ∙ header_read img c.read.new.buf read,
    )

-- and where it has one
pub returns-in-Err-clause-refused : goal.returns-in-Err-clause-refused
returns-in-Err-clause-refused g c told =
    let img = seen (g.D.Disk.history c.args.disk.now) in
    let long : length img ≡ c.in_ok-len.len = g.met.D.Disk.told_size c.args.disk.now told ∙ sym c.in_ok-len.ensures.length in
    let held : 168 ≤ length img = omega (arith, long, c.if-len-lt168.false) in
    let read : c.read.new.buf ≡ take 168 (drop 0 img) = c.in_ok-read.ensures.bytes told ∙ ap (λ h. take 168 (drop 0 (seen h))) c.len.ensures.history in
    (omega (arith, long, c.if-len-gt-LONGEST_FILE.false), held, (front_header img c.read.new.buf c.in-Err.fault held read c.in-Err.ensures.fault).1)
