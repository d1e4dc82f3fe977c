-- The content, and the header.
use Rattle.tdb_space.specs.Form.{form_in}
use Rattle.tdb_undo.proofs.Empties.{content_torn, header_torn, header_emptied}
use Rattle.tdb_undo.proofs.emptying.empty_area.Goals as goal

pub returns-in_err-zero_content-clause-stops : goal.returns-in_err-zero_content-clause-stops
returns-in_err-zero_content-clause-stops g c told quiet r b t =
    content_torn (form_in c.args.h.now) r c.args.area.now.at c.args.area.now.header.rec_len b (g.D.Disk.history c.args.d.now) (g.D.Disk.history c.zero_content.new.d) (g.D.Disk.history c.zero_content.new.d) quiet t (c.zero_content.ensures.stops told)

pub returns-in_err-blank_header-clause-stops : goal.returns-in_err-blank_header-clause-stops
returns-in_err-blank_header-clause-stops g c told quiet r b t =
    header_torn (form_in c.args.h.now) r c.args.area.now.at c.args.area.now.header.rec_len b (g.D.Disk.history c.args.d.now) (g.D.Disk.history c.zero_content.new.d) (g.D.Disk.history c.blank_header.new.d) quiet t
    (c.zero_content.ensures.stops told) (c.in_ok-zero_content.ensures.put told) (c.blank_header.ensures.stops told (c.in_ok-zero_content.ensures.quiet told))

pub returns-clause-stops : goal.returns-clause-stops
returns-clause-stops g c told quiet r b t =
    header_torn (form_in c.args.h.now) r c.args.area.now.at c.args.area.now.header.rec_len b (g.D.Disk.history c.args.d.now) (g.D.Disk.history c.zero_content.new.d) (g.D.Disk.history c.blank_header.new.d) quiet t
    (c.zero_content.ensures.stops told) (c.in_ok-zero_content.ensures.put told) (c.blank_header.ensures.stops told (c.in_ok-zero_content.ensures.quiet told))

pub returns-clause-emptied : goal.returns-clause-emptied
returns-clause-emptied g c told r b t =
    header_emptied (form_in c.args.h.now) r c.args.area.now.at c.args.area.now.header.rec_len b (g.D.Disk.history c.args.d.now) (g.D.Disk.history c.zero_content.new.d) (g.D.Disk.history c.blank_header.new.d) t
    (c.in_ok-zero_content.ensures.put told) (c.in_ok-blank_header.ensures.put told)
