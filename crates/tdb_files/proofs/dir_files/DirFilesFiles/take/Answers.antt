use Rattle.std.proofs.Common.{◌∙◌, sym, ap}
use Rattle.tdb_files.specs.DirFiles.{name_is_taken}
use Rattle.tdb_files.proofs.Elsewhere.{same_after_two}
use Rattle.tdb_files.proofs.dir_files.DirFilesFiles.take.Goals as goal

pub returns-in-Missing-clause-refused_taken : goal.returns-in-Missing-clause-refused_taken
returns-in-Missing-clause-refused_taken c =
    same_after_two c.args.name.now (name_is_taken c.args.self.now) (name_is_taken c.mark.new.self) (name_is_taken c.unmark-kept.new.self)
    c.in_ok-mark.ensures.others
    (λ other apart. c.unmark-kept.ensures.others other apart
    ∙ ap (λ files. name_is_taken files other) c.prepare-making.ensures.rest)
    (c.unmark-kept.ensures.free ∙ sym c.requires.free)

pub returns-in-There-clause-refused_taken : goal.returns-in-There-clause-refused_taken
returns-in-There-clause-refused_taken c =
    same_after_two c.args.name.now (name_is_taken c.args.self.now) (name_is_taken c.mark.new.self) (name_is_taken c.unmark-kept.new.self)
    c.in_ok-mark.ensures.others
    (λ other apart. c.unmark-kept.ensures.others other apart
    ∙ ap (λ files. name_is_taken files other) c.prepare-making.ensures.rest)
    (c.unmark-kept.ensures.free ∙ sym c.requires.free)

pub returns-in-Memory-clause-refused_taken : goal.returns-in-Memory-clause-refused_taken
returns-in-Memory-clause-refused_taken c =
    same_after_two c.args.name.now (name_is_taken c.args.self.now) (name_is_taken c.mark.new.self) (name_is_taken c.unmark-kept.new.self)
    c.in_ok-mark.ensures.others
    (λ other apart. c.unmark-kept.ensures.others other apart
    ∙ ap (λ files. name_is_taken files other) c.prepare-making.ensures.rest)
    (c.unmark-kept.ensures.free ∙ sym c.requires.free)

pub returns-in-Failed-clause-refused_taken : goal.returns-in-Failed-clause-refused_taken
returns-in-Failed-clause-refused_taken c = λ other.
    ap (λ files. name_is_taken files other) c.fault.ensures.rest
    ∙ same_after_two c.args.name.now (name_is_taken c.args.self.now) (name_is_taken c.mark.new.self) (name_is_taken c.unmark-kept.new.self)
    c.in_ok-mark.ensures.others
    (λ other apart. c.unmark-kept.ensures.others other apart
    ∙ ap (λ files. name_is_taken files other) c.prepare-making.ensures.rest)
    (c.unmark-kept.ensures.free ∙ sym c.requires.free) other
