-- The lists from the heads that were read.
use Rattle.std.proofs.Common.{◌≡◌, ℕ, ◌<◌, ◌*◌, ◌+◌, List, length, sym, ◌∙◌, ap, subst, arith}
use Rattle.std.specs.Prelude.{sum_by}
use Rattle.tdb_words.specs.Word.{word}
use Rattle.tdb_words.proofs.Words.{word_of_part}
use Rattle.tdb_space.specs.Form.{chain_head, free_head}
use Rattle.tdb_space.specs.Pairs.{joined}
use Rattle.tdb_space.specs.FirstFault.{chain_number, free_list}
use Rattle.tdb_check.specs.InSequence.{ListFrom}
use Rattle.tdb_check.specs.Links.{HeadsRead, ListsTaken}
use Rattle.tdb_check.proofs.all_links.AllLinks.are_lists.Goals as goal

pub returns-clause-lists : goal.returns-clause-lists
returns-clause-lists g c taken told xs put =
    let f = g.S.Space.form c.args.s.now in
    let img = g.S.Space.image c.args.s.now in
    let frees = c.follow.ensures c.if-not-follow.false (λ _. free_list) f img put.frees in
    let chains = subst (λ hs. ListsTaken chain_number f img hs c.args.self.chained c.follow-2.new.self) c.deref_mut.ensures.value (c.follow-2.ensures c.if-not-follow-2.false chain_number f img put.chained) in
    let head : c.word_at.result ≡ word f.order img free_head =
    c.word_at.ensures ∙ (λ k. word ((c.order.ensures ∙ ap (λ h. h.order) c.read.ensures.form) k) (c.in_ok-read.ensures.bytes told k) 0) ∙ word_of_part f.order img free_head 4 0 (omega arith) in
    let read : HeadsRead f img c.in_ok-heads.heads.items =
    subst (λ h. HeadsRead h img c.in_ok-heads.heads.items) c.read.ensures.form (subst (λ i. HeadsRead (g.S.Space.form c.read.new.self) i c.in_ok-heads.heads.items) c.read.ensures.image (c.in_ok-heads.ensures.heads told)) in
    let long : length c.in_ok-heads.heads.items ≡ f.chains = c.in_ok-heads.ensures.long ∙ ap (λ h. h.chains) c.read.ensures.form in
    record {
      chain = chains.chain;
      free = frees.chain 0;
      chains = λ j low.
          (let under : j < length c.in_ok-heads.heads.items = omega (arith, low, long) in
          subst (λ h. ListFrom f (chain_number j) img h (chains.chain j)) (read j under) (chains.from j under));
      frees = subst (λ h. ListFrom f free_list img h (frees.chain 0)) head (frees.from 0 (omega arith));
      chained = λ w. omega (arith, chains.same w, c.are_taken.ensures taken w, ap (λ n. sum_by w (joined n chains.chain)) long);
      freed = λ w. omega (arith, frees.same w, c.are_taken.ensures taken w);
    }
