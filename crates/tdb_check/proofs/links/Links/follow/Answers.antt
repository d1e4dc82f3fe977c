-- The lists were followed to their ends.
use Rattle.std.proofs.Common.{◌∙◌}
use Rattle.tdb_check.proofs.Taken.{reached_all}
use Rattle.tdb_check.proofs.links.Links.follow.Goals as goal

pub returns : goal.returns
returns c ended kinds f img told =
    let v = c.loop-first.invariant in
    reached_all kinds f img c.args.heads.now c.loop-first.heads c.args.self.now c.loop-first.self told v.reached v.long (c.have_ended.ensures ended)
