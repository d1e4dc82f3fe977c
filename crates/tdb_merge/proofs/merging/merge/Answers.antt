-- The world is given up, whose disk comes back as it is.
use Rattle.tdb_merge.proofs.Parts.{ok_more}
use Rattle.tdb_merge.proofs.Whole.{chosen_differ, first_rest, merges}
use Rattle.tdb_merge.proofs.merging.merge.Goals as goal

pub merge_in-answer-requires : goal.merge_in-answer-requires
merge_in-answer-requires g c = record { unspent = c.requires.unspent }

pub returns-clause-merged : goal.returns-clause-merged
returns-clause-merged g c heard told hands A state just =
    let f = g.S.Space.form c.args.from.now in
    let img = g.S.Space.image c.args.from.now in
    rw c.close.ensures.history
    (merges c.args.world _ state just (c.requires.accepted told) _ (chosen_differ f img hands c.args.prefix.now A) g.D.Disk.tells c.merge_in-answer.result told c.merge_in-answer.ensures.ran (c.merge_in-answer.ensures.led heard hands A state.file)
    (ok_more c.merge_in-answer.result _ _ (λ safe. safe heard told hands A state.file (first_rest c.args.world state just)) c.merge_in-answer.ensures.safe))

pub returns-clause-rises : goal.returns-clause-rises
returns-clause-rises g c = rw c.close.ensures.faults c.merge_in-answer.ensures.ran.rises

pub returns-clause-quiet : goal.returns-clause-quiet
returns-clause-quiet g c = rw c.close.ensures.faults c.merge_in-answer.ensures.ran.quiet

pub returns-clause-rose : goal.returns-clause-rose
returns-clause-rose g c heard told hands A state just = rw c.close.ensures.faults ((c.merge_in-answer.ensures.led heard hands A state.file).rose told (first_rest c.args.world state just))
