-- One more play may be taken, and at the end all of them.
use Rattle.std.proofs.Common.{◌+◌, [], ◌∷◌, ◌++◌, take, get_or, sym, subst}
use Rattle.std.proofs.lemmas.List.{take_more, take_all}
use Rattle.std.proofs.lemmas.List.Elements.{All-push, All-same}
use Rattle.tdb_world.specs.Courses.Playable.{IsPlayable}
use Rattle.world_tests.proofs.world.worlds.are_playable.Goals as goal

pub loop-play-preserved : goal.loop-play-preserved
loop-play-preserved c =
    let xs = c.args.plays.now in
    let i = c.loop-play.play-index in
    let x = c.play-item.result in
    let mine : IsPlayable (get_or xs i x) = subst IsPlayable c.play-item.is (c.is_playable.ensures c.if-not-is_playable.false) in
    All-same IsPlayable (take (i + 1) xs) (take i xs ++ get_or xs i x ∷ []) (take_more xs i x c.loop-play-test.true) (All-push IsPlayable (take i xs) (get_or xs i x) c.loop-play.invariant mine)

pub returns : goal.returns
returns c holds =
    let xs = c.args.plays.now in
    let i = c.loop-play.play-index in
    All-same IsPlayable xs (take i xs) (sym (take_all i xs c.loop-play-test.false)) c.loop-play.invariant
