-- One more record.
use Rattle.std.proofs.Common.{◌≡◌, ◌++◌, ℕ, map, take, get_or, append_assoc, sym, ◌∙◌, ap}
use Rattle.std.proofs.lemmas.Bool.{OnTrue_at}
use Rattle.std.proofs.lemmas.List.Elements.{All-more}
use Rattle.tdb_words.specs.declared.record.TheConstants.{USED}
use Rattle.tdb_space.specs.Record.{Fits, magic_of}
use Rattle.tdb_space.specs.Pairs.{pair_seen, pair_of, pairs}
use Rattle.tdb_space.proofs.Pairs.Listed.{pairs_more}
use Rattle.tdb_space.proofs.plain.push_pairs.Goals as goal

pub loop-at-preserved : goal.loop-at-preserved
loop-at-preserved c =
    let o = c.args.header.now.order in
    let img = c.args.image.now in
    let offs = c.args.offs.now in
    let i = c.loop-at.at-index in
    let fits = c.in_ok-push_pair.ensures.fits.0 c.if-not-branch.false in
    let pair = OnTrue_at c.if-not-branch.false c.in_ok-push_pair.ensures.pair in
    record {
      fit = All-more (λ (x : ℕ). magic_of o img x ≡ USED → Fits o img x) offs i 0 c.loop-at-test.true c.loop-at.invariant.fit fits;
      held = pair ∙ ap (λ ps. ps ++ pair_of o img (get_or offs i 0)) c.loop-at.invariant.held
          ∙ append_assoc (map pair_seen c.args.all.now.items) (pairs o img (take i offs)) (pair_of o img (get_or offs i 0))
          ∙ ap (λ ps. map pair_seen c.args.all.now.items ++ ps) (sym (pairs_more o img offs i c.loop-at-test.true));
    }
