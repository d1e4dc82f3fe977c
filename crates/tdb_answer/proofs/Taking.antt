-- How the files of a task may be taken, one after the other, by its name as it is read.
use Rattle.std.proofs.Common.{◌≡◌, ℕ, List, sym, subst}
use Rattle.std.proofs.lemmas.List.Elements.{recursion_from_All}
use Rattle.tdb_cmdline.specs.declared.ask.Task.{Task}
use Rattle.tdb_disk.specs.declared.files.Take.{Take}
use Rattle.tdb_answer.specs.Takes.{Taking, MayTake, MayTakeEach, takes}

pub named : (may : List ℕ → Take → Type 0) {task other : Task} {file name : List ℕ} → task ≡ other → name ≡ file → MayTake may (takes task file) → MayTakeEach may (takes other name)
named may {task} {other} {file} {name} is value all =
    recursion_from_All (λ (taking : Taking). may taking.0 taking.1) (takes other name)
    (subst (λ (q : Task × List ℕ). MayTake may (takes q.0 q.1)) (λ j. (is j, sym value j)) all)
