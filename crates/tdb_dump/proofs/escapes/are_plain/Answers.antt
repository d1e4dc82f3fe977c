-- One more byte stands as it is, where all do.
use Rattle.std.proofs.Common.{◌≡◌, Bool, true, false, refl, sym, ◌∙◌}
use Rattle.std.proofs.Math.Bool.{◌&&◌}
use Rattle.tdb_dump.proofs.Runs.{one_plain}
use Rattle.tdb_dump.proofs.escapes.are_plain.Goals as goal

both : (a b : Bool) → (a && b) ≡ true → (a ≡ true) × (b ≡ true)
both true b so = (refl, so)
both false b so = cc

pub loop-byte-preserved : goal.loop-byte-preserved
loop-byte-preserved c all =
    let last = both c.is_plain-plain.result c.loop-byte.plain all in
    one_plain c.loop-byte.byte-index c.args.bytes.now c.loop-byte-test.true (sym c.is_plain-plain.ensures ∙ last.0) (c.loop-byte.invariant last.1)
