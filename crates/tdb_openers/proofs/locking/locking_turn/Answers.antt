-- Each arm ends as its command does.
use Rattle.std.proofs.Common.{◌≡◌, ◌+◌, ◌<◌, is_some, sym, ◌∙◌, subst, arith}
use Rattle.tdb_space.specs.Form.{form_in}
use Rattle.tdb_locks.specs.HeldLocks.{Lowers, count_of}
use Rattle.tdb_locks.specs.declared.kind.Kind.TheVariants.{Read}
use Rattle.tdb_commands.specs.InLaw.{law_turn}
use Rattle.tdb_locks.specs.LockTable.{held}
use Rattle.tdb_law.specs.Commands as Law
use Rattle.tdb_steps.specs.LockRows.{IsLetGo}
use Rattle.tdb_steps.specs.Holdings.{strength}
use Rattle.tdb_openers.specs.Openers.{locking_command}
use Rattle.tdb_openers.specs.Locked.{MayLock, LockingTurned, chain_row, all_row}
use Rattle.tdb_openers.proofs.ExplicitLocks.Beside.{below_bare}
use Rattle.tdb_openers.proofs.ExplicitLocks.Granted.{chain_granted, chain_nb_granted, all_read_granted, unchain_granted, between_bare, all_none, none_held_there}
use Rattle.tdb_openers.proofs.ExplicitLocks.Lockings.{holds_kept}
use Rattle.tdb_openers.proofs.ExplicitLocks.LockEnds.{chain_ends_at, chain_nb_ends_at, all_ends_at, all_read_ends_at, unchain_ends, unlock_all_ends, holds_after, holds_all_read}
use Rattle.tdb_openers.proofs.locking.locking_turn.Goals as goal

pub returns-in-Chain-clause-turned : goal.returns-in-Chain-clause-turned
returns-in-Chain-clause-turned c options live rest who number M =
    let f = form_in c.args.header.now in
    let old = c.args.held.now in
    let ps = c.args.locks.now in
    let h = c.hold_chain in
    let at = subst (λ l. MayLock f options live old rest (locking_command l) who ps) c.in-Chain.is M in
    subst (λ l. LockingTurned f options live old h.new.held rest (locking_command l) who ps h.new.locks (law_turn c.waited.result)) (sym c.in-Chain.is)
    (chain_ends_at f options live old h.new.held rest c.requires.well.counts h.ensures.counts who ps h.new.locks c.in-Chain.key c.args.owner c.chain_in-chain.result number c.chain_in-chain.ensures at
    h.result c.waited.result h.ensures.taken h.ensures.raised h.ensures.room h.ensures.refused h.ensures.err h.ensures.same c.waited.ensures)

pub returns-in-Chain-clause-well : goal.returns-in-Chain-clause-well
returns-in-Chain-clause-well c =
    let f = form_in c.args.header.now in
    let old = c.args.held.now in
    let m = c.requires.may in
    let h = c.hold_chain in
    let at = subst (λ l. MayLock f m.0 m.1 old m.2 (locking_command l) m.3 c.args.locks.now) c.in-Chain.is m.5 in
    holds_after old h.new.held c.chain_in-chain.result h.result c.requires.well h.ensures.counts h.ensures.few (chain_granted f m.0 m.1 old m.2 c.requires.well.counts c.in-Chain.key at.granted) h.ensures.raised h.ensures.same

pub returns-in-ChainNb-clause-turned : goal.returns-in-ChainNb-clause-turned
returns-in-ChainNb-clause-turned c options live rest who number M =
    let f = form_in c.args.header.now in
    let old = c.args.held.now in
    let ps = c.args.locks.now in
    let h = c.hold_chain-in-ChainNb in
    let at = subst (λ l. MayLock f options live old rest (locking_command l) who ps) c.in-ChainNb.is M in
    subst (λ l. LockingTurned f options live old h.new.held rest (locking_command l) who ps h.new.locks (law_turn c.told_at_once.result)) (sym c.in-ChainNb.is)
    (chain_nb_ends_at f options live old h.new.held rest c.requires.well.counts h.ensures.counts who ps h.new.locks c.in-ChainNb.key c.args.owner c.chain_in-chain-in-ChainNb.result number c.chain_in-chain-in-ChainNb.ensures at
    h.result c.told_at_once.result h.ensures.taken h.ensures.raised h.ensures.room h.ensures.refused h.ensures.err h.ensures.same c.told_at_once.ensures)

pub returns-in-ChainNb-clause-well : goal.returns-in-ChainNb-clause-well
returns-in-ChainNb-clause-well c =
    let f = form_in c.args.header.now in
    let old = c.args.held.now in
    let m = c.requires.may in
    let h = c.hold_chain-in-ChainNb in
    let at = subst (λ l. MayLock f m.0 m.1 old m.2 (locking_command l) m.3 c.args.locks.now) c.in-ChainNb.is m.5 in
    holds_after old h.new.held c.chain_in-chain-in-ChainNb.result h.result c.requires.well h.ensures.counts h.ensures.few (chain_nb_granted f m.0 m.1 old m.2 c.requires.well.counts c.in-ChainNb.key at.granted) h.ensures.raised h.ensures.same

pub release_chain-requires-clause-some : goal.release_chain-requires-clause-some
release_chain-requires-clause-some c =
    let f = form_in c.args.header.now in
    let old = c.args.held.now in
    let m = c.requires.may in
    let at = subst (λ l. MayLock f m.0 m.1 old m.2 (locking_command l) m.3 c.args.locks.now) c.in-Unchain.is m.5 in
    subst (λ z. 0 < count_of old z) (sym c.chain_in.ensures) (unchain_granted f m.0 m.1 old m.2 c.requires.well.counts c.in-Unchain.key at.granted)

pub release_chain-requires-clause-alone : goal.release_chain-requires-clause-alone
release_chain-requires-clause-alone c bare b next =
    let f = form_in c.args.header.now in
    let old = c.args.held.now in
    let m = c.requires.may in
    let at = subst (λ l. MayLock f m.0 m.1 old m.2 (locking_command l) m.3 c.args.locks.now) c.in-Unchain.is m.5 in
    let some = subst (λ z. 0 < count_of old z) (sym c.chain_in.ensures) (unchain_granted f m.0 m.1 old m.2 c.requires.well.counts c.in-Unchain.key at.granted) in
    let zero_kept = between_bare f m.0 m.1 old m.2 c.requires.well.counts at.holds.rests c.chain_in.result b next (all_none old c.chain_in.result c.requires.well some bare) in
    none_held_there (held c.args.locks.now c.args.owner b) (subst (λ o. strength (held c.args.locks.now o b) ≡ 0) (sym m.4) (holds_kept f m.0 m.1 old old m.2 _ m.3 c.args.locks.now c.args.locks.now at b ∙ zero_kept))

pub release_all-requires : goal.release_all-requires
release_all-requires c =
    let f = form_in c.args.header.now in
    let old = c.args.held.now in
    let m = c.requires.may in
    record { alone = none_held_there (held c.args.locks.now c.args.owner 167) (subst (λ o. strength (held c.args.locks.now o 167) ≡ 0) (sym m.4) (holds_kept f m.0 m.1 old old m.2 _ m.3 c.args.locks.now c.args.locks.now m.5 167 ∙ below_bare f m.5.few m.0 m.1 old m.2 c.requires.well.counts m.5.holds.rests 167 (omega arith))) }

pub returns-in-Unchain-clause-turned : goal.returns-in-Unchain-clause-turned
returns-in-Unchain-clause-turned c options live rest who number M =
    let f = form_in c.args.header.now in
    let old = c.args.held.now in
    let ps = c.args.locks.now in
    let h = c.release_chain in
    let at = subst (λ l. MayLock f options live old rest (locking_command l) who ps) c.in-Unchain.is M in
    let gone = subst (λ o. IsLetGo h.new.held o ps h.new.locks (chain_row c.chain_in.result)) number h.ensures.let_go in
    subst (λ l. LockingTurned f options live old h.new.held rest (locking_command l) who ps h.new.locks (Law.Turn.Ends Law.Reply.Done)) (sym c.in-Unchain.is)
    (unchain_ends f options live old h.new.held rest c.requires.well.counts h.ensures.counts who ps h.new.locks c.in-Unchain.key at c.requires.well
    (subst (λ z. Lowers old h.new.held z) c.chain_in.ensures h.ensures.lowered)
    (subst (λ z. IsLetGo h.new.held (who + 1) ps h.new.locks (chain_row z)) c.chain_in.ensures gone))

pub returns-in-All-clause-turned : goal.returns-in-All-clause-turned
returns-in-All-clause-turned c options live rest who number M =
    let f = form_in c.args.header.now in
    let old = c.args.held.now in
    let ps = c.args.locks.now in
    let h = c.hold_all in
    let at = subst (λ l. MayLock f options live old rest (locking_command l) who ps) c.in-All.is M in
    subst (λ l. LockingTurned f options live old h.new.held rest (locking_command l) who ps h.new.locks (law_turn c.waited-in-All.result)) (sym c.in-All.is)
    (all_ends_at f options live old h.new.held rest c.requires.well.counts who ps h.new.locks c.args.owner number at h.result c.waited-in-All.result h.ensures.taken h.ensures.set h.ensures.refused h.ensures.err h.ensures.same c.waited-in-All.ensures)

pub returns-in-AllRead-clause-turned : goal.returns-in-AllRead-clause-turned
returns-in-AllRead-clause-turned c options live rest who number M =
    let f = form_in c.args.header.now in
    let old = c.args.held.now in
    let ps = c.args.locks.now in
    let h = c.hold_all-in-AllRead in
    let at = subst (λ l. MayLock f options live old rest (locking_command l) who ps) c.in-AllRead.is M in
    subst (λ l. LockingTurned f options live old h.new.held rest (locking_command l) who ps h.new.locks (law_turn c.waited-in-AllRead.result)) (sym c.in-AllRead.is)
    (all_read_ends_at f options live old h.new.held rest c.requires.well.counts who ps h.new.locks c.args.owner number at h.result c.waited-in-AllRead.result h.ensures.taken h.ensures.set h.ensures.refused h.ensures.err h.ensures.same c.waited-in-AllRead.ensures)

pub returns-in-AllRead-clause-well : goal.returns-in-AllRead-clause-well
returns-in-AllRead-clause-well c =
    let f = form_in c.args.header.now in
    let old = c.args.held.now in
    let m = c.requires.may in
    let h = c.hold_all-in-AllRead in
    let at = subst (λ l. MayLock f m.0 m.1 old m.2 (locking_command l) m.3 c.args.locks.now) c.in-AllRead.is m.5 in
    holds_all_read old h.new.held (is_some m.2.shown) h.result c.requires.well h.ensures.few (all_read_granted f m.0 m.1 old m.2 c.requires.well.counts at.granted) h.ensures.set h.ensures.same

pub returns-in-UnlockAll-clause-turned : goal.returns-in-UnlockAll-clause-turned
returns-in-UnlockAll-clause-turned c options live rest who number M =
    let f = form_in c.args.header.now in
    let old = c.args.held.now in
    let ps = c.args.locks.now in
    let h = c.release_all in
    let at = subst (λ l. MayLock f options live old rest (locking_command l) who ps) c.in-UnlockAll.is M in
    subst (λ l. LockingTurned f options live old h.new.held rest (locking_command l) who ps h.new.locks (Law.Turn.Ends Law.Reply.Done)) (sym c.in-UnlockAll.is)
    (unlock_all_ends f options live old h.new.held rest c.requires.well.counts who ps h.new.locks at c.requires.well h.ensures.set (subst (λ o. IsLetGo h.new.held o ps h.new.locks (all_row Read)) number h.ensures.let_go))
