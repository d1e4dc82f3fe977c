-- The walk stands at the head of the next chain.
use Rattle.std.proofs.Common.{◌/◌, refl, sym, ◌∙◌, ap}
use Rattle.tdb_words.specs.Word.{word}
use Rattle.tdb_space.proofs.Accepted.Laid.{accepted_filed}
use Rattle.tdb_backup.proofs.Walk.{gave_entered}
use Rattle.tdb_backup.proofs.traversal.Traversal.enter_chain.Goals as goal

pub returns-clause-gave : goal.returns-clause-gave
returns-clause-gave g c told hands A given h =
    let f = g.S.Space.form c.args.s.now in
    let img = g.S.Space.image c.args.s.now in
    let head = c.in_ok-self.ensures.value told ∙ ap (word f.order img) c.chain_head.ensures in
    let len = c.requires.length ∙ sym (g.met.S.Space.told_size c.args.s.now told) in
    gave_entered f img given c.args.self.now _ (accepted_filed f img hands A) h c.requires.more head (ap (λ n. n / 4) len) refl
