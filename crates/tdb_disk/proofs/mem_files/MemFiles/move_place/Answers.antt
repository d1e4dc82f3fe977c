use Rattle.std.proofs.Common.{sym, ◌∙◌}
use Rattle.tdb_disk.specs.MemFiles.{name_is_taken}
use Rattle.tdb_disk.proofs.SameNames.{same_after_four}
use Rattle.tdb_disk.proofs.mem_files.MemFiles.move_place.Goals as goal

pub returns-clause-taken : goal.returns-clause-taken
returns-clause-taken c =
    same_after_four c.args.to.now c.args.from.now
    (name_is_taken c.args.self.now) (name_is_taken c.empty_place.new.self) (name_is_taken c.take_tape-tape.new.self)
    (name_is_taken c.fill_place.new.self) (name_is_taken c.drop_place.new.self)
    c.in_ok-empty_place.ensures.taken_others c.take_tape-tape.ensures.taken_others c.fill_place.ensures.taken_others c.drop_place.ensures.taken_others
    c.requires.differ (c.drop_place.ensures.free ∙ sym c.requires.from_free) (c.fill_place.ensures.free ∙ sym c.requires.to_free)
