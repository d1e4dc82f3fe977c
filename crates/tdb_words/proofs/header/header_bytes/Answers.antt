use Rattle.std.proofs.Common.{◌≡◌, ap, ◌∙◌}
use Rattle.tdb_words.specs.Header.{header_at, header_fault, new_header}
use Rattle.tdb_words.proofs.NewHeader.{new_header_read, new_header_sound}
use Rattle.tdb_words.proofs.header.header_bytes.Goals as goal

pub returns-clause-no_fault : goal.returns-clause-no_fault
returns-clause-no_fault c =
    let size = c.args.hash_size in
    let made : c.header_with.result ≡ new_header size c.args.o c.args.h = cc in
    ap header_fault made ∙ new_header_sound size c.args.o c.args.h c.ranges.hash_size.fits c.requires

pub returns-clause-read_back : goal.returns-clause-read_back
returns-clause-read_back c =
    let size = c.args.hash_size in
    let made : c.header_with.result ≡ new_header size c.args.o c.args.h = cc in
    ap header_at made ∙ new_header_read size c.args.o c.args.h c.ranges.hash_size.fits
