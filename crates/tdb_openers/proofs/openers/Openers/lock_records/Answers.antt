-- It claims all records, and the world stands as before.
use Rattle.std.proofs.Common.{Some, refl, sym, subst}
use Rattle.tdb_openers.specs.Worlds.{Stands, BytesStand}
use Rattle.tdb_openers.proofs.ExplicitLocks.Aside.{either_way, stands_with, bytes_with, taken_apart}
use Rattle.tdb_openers.proofs.openers.Openers.lock_records.Goals as goal

pub returns-clause-stands : goal.returns-clause-stands
returns-clause-stands c img size W =
    let w = c.args.self.now in
    let v = c.claim_records.new.self in
    let B = c.requires.bare in
    either_way c.claim_records.result _ _ _ _
    (λ taken free. stands_with w c.args.who B.0 B.1 B.2 (Some (c.args.kind, 1)) refl v (taken B.0 B.1) img (taken_apart w c.args.who B.0 B.1 B.2 c.args.kind free) size W)
    (λ same. subst (λ z. Stands z img size) (sym same) W)
    c.claim_records.ensures.taken c.claim_records.ensures.free c.claim_records.ensures.err

pub returns-clause-bytes : goal.returns-clause-bytes
returns-clause-bytes c img F =
    let w = c.args.self.now in
    let v = c.claim_records.new.self in
    let B = c.requires.bare in
    either_way c.claim_records.result _ _ _ _
    (λ taken free. bytes_with w c.args.who B.0 B.1 B.2 (Some (c.args.kind, 1)) refl v (taken B.0 B.1) img F)
    (λ same. subst (λ z. BytesStand z img) (sym same) F)
    c.claim_records.ensures.taken c.claim_records.ensures.free c.claim_records.ensures.err
