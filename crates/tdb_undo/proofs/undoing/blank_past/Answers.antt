-- Both runs of zeros.
use Rattle.std.proofs.Common.{◌≡◌, ◌+◌, ◌-◌, subst}
use Rattle.tdb_disk.specs.History.{seen}
use Rattle.tdb_disk.specs.Stop.{LeavesOnly}
use Rattle.tdb_space.specs.Opening.{lies_in}
use Rattle.tdb_undo.specs.Torn.{TornIn, Put}
use Rattle.tdb_undo.specs.Recovery.{is_past}
use Rattle.tdb_undo.proofs.Blocks.{wider_torn, join_torn}
use Rattle.tdb_undo.proofs.Past.{not_before, not_behind, put_past}
use Rattle.tdb_undo.proofs.undoing.blank_past.Goals as goal

pub returns-in_err-zero_bytes-clause-stops : goal.returns-in_err-zero_bytes-clause-stops
returns-in_err-zero_bytes-clause-stops g c told =
    wider_torn (g.D.Disk.history c.args.d.now) (g.D.Disk.history c.zero_bytes.new.d) (lies_in c.args.area.now.header.key_len (c.args.area.now.at - c.args.area.now.header.key_len)) (is_past c.args.area.now c.args.len) (not_before c.args.area.now c.args.len c.requires.behind c.requires.room) (c.zero_bytes.ensures.stops told)

pub returns-in_err-zero_bytes-2-clause-stops : goal.returns-in_err-zero_bytes-2-clause-stops
returns-in_err-zero_bytes-2-clause-stops g c told =
    let e : lies_in c.end.result (c.args.len - c.end-2.result) ≡ lies_in (c.args.area.now.at + 24 + c.args.area.now.header.rec_len) (c.args.len - (c.args.area.now.at + 24 + c.args.area.now.header.rec_len)) = λ j. lies_in (c.end.ensures j) (c.args.len - c.end-2.ensures j) in
    join_torn (g.D.Disk.history c.args.d.now) (g.D.Disk.history c.zero_bytes.new.d) (g.D.Disk.history c.zero_bytes-2.new.d) (is_past c.args.area.now c.args.len) (wider_torn (g.D.Disk.history c.args.d.now) (g.D.Disk.history c.zero_bytes.new.d) (lies_in c.args.area.now.header.key_len (c.args.area.now.at - c.args.area.now.header.key_len)) (is_past c.args.area.now c.args.len) (not_before c.args.area.now c.args.len c.requires.behind c.requires.room) (c.zero_bytes.ensures.stops told)) (wider_torn (g.D.Disk.history c.zero_bytes.new.d) (g.D.Disk.history c.zero_bytes-2.new.d) (lies_in (c.args.area.now.at + 24 + c.args.area.now.header.rec_len) (c.args.len - (c.args.area.now.at + 24 + c.args.area.now.header.rec_len))) (is_past c.args.area.now c.args.len) (not_behind c.args.area.now c.args.len c.requires.behind c.requires.room) (subst (λ p. LeavesOnly (g.D.Disk.history c.zero_bytes.new.d) (g.D.Disk.history c.zero_bytes-2.new.d) (TornIn p (g.D.Disk.history c.zero_bytes.new.d))) e (c.zero_bytes-2.ensures.stops told)))

pub returns-clause-stops : goal.returns-clause-stops
returns-clause-stops g c told =
    let e : lies_in c.end.result (c.args.len - c.end-2.result) ≡ lies_in (c.args.area.now.at + 24 + c.args.area.now.header.rec_len) (c.args.len - (c.args.area.now.at + 24 + c.args.area.now.header.rec_len)) = λ j. lies_in (c.end.ensures j) (c.args.len - c.end-2.ensures j) in
    join_torn (g.D.Disk.history c.args.d.now) (g.D.Disk.history c.zero_bytes.new.d) (g.D.Disk.history c.zero_bytes-2.new.d) (is_past c.args.area.now c.args.len) (wider_torn (g.D.Disk.history c.args.d.now) (g.D.Disk.history c.zero_bytes.new.d) (lies_in c.args.area.now.header.key_len (c.args.area.now.at - c.args.area.now.header.key_len)) (is_past c.args.area.now c.args.len) (not_before c.args.area.now c.args.len c.requires.behind c.requires.room) (c.zero_bytes.ensures.stops told)) (wider_torn (g.D.Disk.history c.zero_bytes.new.d) (g.D.Disk.history c.zero_bytes-2.new.d) (lies_in (c.args.area.now.at + 24 + c.args.area.now.header.rec_len) (c.args.len - (c.args.area.now.at + 24 + c.args.area.now.header.rec_len))) (is_past c.args.area.now c.args.len) (not_behind c.args.area.now c.args.len c.requires.behind c.requires.room) (subst (λ p. LeavesOnly (g.D.Disk.history c.zero_bytes.new.d) (g.D.Disk.history c.zero_bytes-2.new.d) (TornIn p (g.D.Disk.history c.zero_bytes.new.d))) e (c.zero_bytes-2.ensures.stops told)))

pub returns-clause-put : goal.returns-clause-put
returns-clause-put g c told =
    let e : lies_in c.end.result (c.args.len - c.end-2.result) ≡ lies_in (c.args.area.now.at + 24 + c.args.area.now.header.rec_len) (c.args.len - (c.args.area.now.at + 24 + c.args.area.now.header.rec_len)) = λ j. lies_in (c.end.ensures j) (c.args.len - c.end-2.ensures j) in
    put_past c.args.area.now c.args.len c.requires.behind c.requires.room (seen (g.D.Disk.history c.args.d.now)) (seen (g.D.Disk.history c.zero_bytes.new.d)) (seen (g.D.Disk.history c.zero_bytes-2.new.d)) (c.in_ok-zero_bytes.ensures.put told) (subst (λ p. Put p (λ _. 0) (seen (g.D.Disk.history c.zero_bytes.new.d)) (seen (g.D.Disk.history c.zero_bytes-2.new.d))) e (c.in_ok-zero_bytes-2.ensures.put told))
