use Rattle.std.proofs.Common.{◌≡◌, ◌≤◌, length, take, drop, arith, sym, length-take}
use Rattle.std.proofs.lemmas.List.{take-append-drop, take_rest}
use Rattle.std.proofs.Math.Seq.{take-add}
use Rattle.tdb_dump.proofs.LetterLemmas.{Letters-append}
use Rattle.tdb_dump.specs.Word.{stands_in_word}
use Rattle.tdb_dump.proofs.words.letters_of.Goals as goal

pub loop-at-preserved : goal.loop-at-preserved
loop-at-preserved c =
    let letter = rw take_rest at c.in-Some.ensures in record {
      within = omega (arith, c.in-Some.ensures);
      read = rw (take-add c.loop-at.at c.in-Some.len c.args.word.now, c.in_ok-push-in-Some.ensures.items) (Letters-append stands_in_word _ _ _ c.in-Some.byte c.loop-at.invariant.read letter.2);
    }

pub returns-in-None-clause-refused : goal.returns-in-None-clause-refused
returns-in-None-clause-refused c = λ at e.
    let word = c.args.word.now in
    let place : at ≡ c.loop-at.at = cc in
    let within : c.loop-at.at ≤ length word = omega arith in
    (take c.loop-at.at word, drop c.loop-at.at word, c.loop-at.bytes.items, sym (take-append-drop c.loop-at.at word), omega (arith, length-take c.loop-at.at word), c.loop-at.invariant.read, rw take_rest at c.in-None.ensures)
