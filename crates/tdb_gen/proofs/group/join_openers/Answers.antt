-- Each opener joined, one after the other, or one did not.
use Rattle.std.proofs.Common.{[], Bool, ◌∷◌, Result, Ok, Err, OnOk}
use Rattle.std.proofs.lemmas.Result.{err_from_is_err_and}
use Rattle.tdb_commands.specs.declared.play.Play.TheVariants.{Join}
use Rattle.tdb_world.specs.OverFile.{OverFile}
use Rattle.tdb_world.specs.Whole.{Whole}
use Rattle.tdb_gen.specs.Counts.{counts_of}
use Rattle.tdb_gen.specs.declared.fault.GenFault.{GenFault}
use Rattle.tdb_gen.specs.Taking.{HaveJoined, TakenUncounted}
use Rattle.tdb_gen.proofs.Gifting.{any_join, any_more, more_joined}
use Rattle.tdb_gen.proofs.group.join_openers.Goals as goal

two : (t : Bool) (a b c : OverFile) (answer : Result (Unit {0}) GenFault) → TakenUncounted t a b (Join ∷ []) (Ok tt) → TakenUncounted t b c (Join ∷ []) answer → TakenUncounted t a c (Join ∷ Join ∷ []) answer
two t a b c answer one other = any_join t a b c (Join ∷ []) (Join ∷ []) answer one other

three_joined : (a b c d : Whole) (answer : Result (Unit {0}) GenFault) → HaveJoined a b 1 → HaveJoined b c 1 → OnOk answer (HaveJoined c d 1) → OnOk answer (HaveJoined a d 3)
three_joined a b c d (Ok v) one two three = more_joined a c d 2 1 (more_joined a b c 1 1 one two) three
three_joined a b c d (Err e) one two three = tt

pub returns-in_err-join-clause-taken : goal.returns-in_err-join-clause-taken
returns-in_err-join-clause-taken g c =
    let q = err_from_is_err_and c.from_residual.result c.from_residual.ensures.1 in
    rw (q.1, q.2) (any_more g.D.Disk.tells c.args.world.now c.join.new.world (Join ∷ []) (Join ∷ Join ∷ []) c.in_err-join.field-0.0 c.in_err-join.ensures.taken)

pub join-requires-2 : goal.join-requires-2
join-requires-2 g c = record { unspent = (c.in_ok-join.ensures.taken (counts_of []) []).unspent }

pub returns-in_err-join-2-clause-taken : goal.returns-in_err-join-2-clause-taken
returns-in_err-join-2-clause-taken g c =
    let q = err_from_is_err_and c.from_residual-in_err-join-2.result c.from_residual-in_err-join-2.ensures.1 in
    let e = c.in_err-join-2.field-0.0 in
    rw (q.1, q.2)
    (any_more g.D.Disk.tells c.args.world.now c.join-2.new.world (Join ∷ Join ∷ []) (Join ∷ []) e
    (two g.D.Disk.tells c.args.world.now c.join.new.world c.join-2.new.world (Err e) c.in_ok-join.ensures.taken c.in_err-join-2.ensures.taken))

pub join-requires-3 : goal.join-requires-3
join-requires-3 g c = record { unspent = (c.in_ok-join-2.ensures.taken (counts_of []) []).unspent }

pub returns-clause-taken : goal.returns-clause-taken
returns-clause-taken g c =
    any_join g.D.Disk.tells c.args.world.now c.join-2.new.world c.join-3.new.world (Join ∷ Join ∷ []) (Join ∷ []) c.join-3.result
    (two g.D.Disk.tells c.args.world.now c.join.new.world c.join-2.new.world (Ok tt) c.in_ok-join.ensures.taken c.in_ok-join-2.ensures.taken) c.join-3.ensures.taken

pub returns-clause-joined : goal.returns-clause-joined
returns-clause-joined g c =
    three_joined c.args.world.now.world c.join.new.world.world c.join-2.new.world.world c.join-3.new.world.world c.join-3.result c.in_ok-join.ensures.joined c.in_ok-join-2.ensures.joined c.join-3.ensures.joined
