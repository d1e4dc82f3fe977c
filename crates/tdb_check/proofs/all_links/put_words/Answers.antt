-- One more head.
use Rattle.std.proofs.Common.{◌≡◌, ◌+◌, ◌*◌, length, length-append, ◌∙◌, ap, arith, [], ◌∷◌}
use Rattle.tdb_words.specs.Word.{word}
use Rattle.tdb_words.proofs.Words.{word_of_part}
use Rattle.tdb_space.specs.Form.{chain_head}
use Rattle.tdb_check.proofs.Taken.{heads_more}
use Rattle.tdb_check.proofs.all_links.put_words.Goals as goal

pub loop-i-preserved : goal.loop-i-preserved
loop-i-preserved c =
    let v = c.loop-i.invariant in
    let first = length c.args.heads.now.items in
    record {
      heads = λ f img order read old.
          (let place : chain_head first + 4 * c.loop-i.i ≡ chain_head (length c.loop-i.heads.items) = omega (arith, v.long) in
          let head : c.word_in.result ≡ word f.order img (chain_head (length c.loop-i.heads.items)) =
          c.word_in.ensures ∙ (λ k. word (order k) (read k) (4 * c.loop-i.i)) ∙ word_of_part f.order img (chain_head first) (4 * c.args.count) (4 * c.loop-i.i) (omega arith) ∙ ap (word f.order img) place in
          heads_more f img c.loop-i.heads.items _ c.word_in.result (v.heads f img order read old) c.in_ok-push.ensures.items head);
      long = omega (arith, v.long, ap length c.in_ok-push.ensures.items, length-append c.loop-i.heads.items (c.word_in.result ∷ []));
    }
