-- The byte that was taken is let go.
use Rattle.std.proofs.Common.{◌+◌, Contains, sym, subst, refl}
use Rattle.tdb_locks.specs.declared.kind.Kind.TheVariants.{Read}
use Rattle.tdb_locks.proofs.Keeping.{Contains-new_piece}
use Rattle.tdb_walk.proofs.looking.look_along.Goals as goal

pub unwrap-requires : goal.unwrap-requires
unwrap-requires g c =
    let b = c.lock_byte-byte.result in
    c.unlock.ensures.whole (record { owner = c.args.owner; start = b; end = b + 1; kind = Read })
    (subst (λ t. Contains t (record { owner = c.args.owner; start = b; end = b + 1; kind = Read })) (sym c.in-Ok.ensures.table) (Contains-new_piece c.args.locks.now c.args.owner b (b + 1) Read))
    (record { owned = refl; begins = refl; ends = refl })
