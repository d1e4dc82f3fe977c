-- Whether a cursor has to purge the record on which it stands.
use Rattle.std.proofs.Common.{◌≡◌, ℕ, ◌<◌, Bool, true, false, IsTrue, List, Contains, refl, sym, subst}
use Rattle.std.specs.Prelude.{MatchBool}
use Rattle.tdb_words.specs.declared.record.TheConstants.{USED}
use Rattle.tdb_words.specs.Word.{word}
use Rattle.tdb_space.specs.Form.{Form, chain_head}
use Rattle.tdb_space.specs.Record.{Whole, magic_of}
use Rattle.tdb_space.specs.Chain.{chain_of, Member}
use Rattle.tdb_space.specs.Extents.{HandPair}
use Rattle.tdb_space.specs.Accepted.{AcceptWith}
use Rattle.tdb_locks.specs.HeldLocks.{HeldLocks}
use Rattle.tdb_walk.specs.declared.standing.Standing.TheVariants.{On}
use Rattle.tdb_walk.specs.declared.stage.Stage.TheVariants.{Rested}
use Rattle.tdb_walk.specs.ByteLocks.{only_reads}
use Rattle.tdb_walk.specs.Cursors.{At, HasToPurge, IsToPurge, Knows}
use Rattle.tdb_walk.proofs.Left.{rest_behind}

-- a record of a chain stands whole in its image
pub whole_in : (f : Form) (img : List ℕ) (hands : List HandPair) → AcceptWith f img hands → (chain off : ℕ) → chain < f.chains → Member off (chain_of f img chain) → Whole f img off
whole_in f img hands A chain off below member = (rest_behind f img chain (word f.order img (chain_head chain)) off (chain_of f img chain) (A.chains chain below) (A.filed chain below) member).whole

-- one on which no other cursor stands, where its chain may be changed, has to be purged exactly where it is dead
purge_decided : (f : Form) (img : List ℕ) (own : HeldLocks) (stood_on : List ℕ) (off : ℕ) → (Contains stood_on off → ⊥) → only_reads own ≡ false → (due : Bool)
    → MatchBool due (magic_of f.order img off ≡ USED → ⊥) (magic_of f.order img off ≡ USED)
    → MatchBool due (IsToPurge f img own stood_on false off) (IsToPurge f img own stood_on false off → ⊥)
purge_decided f img own stood_on off alone writes true dead = record { dead = dead; alone = alone; writable = refl; writes = writes }
purge_decided f img own stood_on off alone writes false used = λ due. due.dead used

pub rested_decided : (f : Form) (img : List ℕ) (hands : List HandPair) (own : HeldLocks) (stood_on : List ℕ) (read_only : Bool) (at : At) (chain off : ℕ) → at.place ≡ On chain off → at.stage ≡ Rested
    → (Contains stood_on off → ⊥) → only_reads own ≡ false → read_only ≡ false → (due : Bool)
    → (Whole f img off → MatchBool due (magic_of f.order img off ≡ USED → ⊥) (magic_of f.order img off ≡ USED))
    → AcceptWith f img hands → Knows f img at.place at.stage
    → MatchBool due (HasToPurge f img own stood_on read_only at.place at.stage) (HasToPurge f img own stood_on read_only at.place at.stage → ⊥)
rested_decided f img hands own stood_on read_only at chain off place stage alone writes writable due dead A knows =
    let known : Knows f img (On chain off) Rested = subst (λ x. Knows f img x Rested) place (subst (Knows f img at.place) stage knows) in
    subst (λ r. MatchBool due (HasToPurge f img own stood_on r at.place at.stage) (HasToPurge f img own stood_on r at.place at.stage → ⊥)) (sym writable)
    (subst (λ s. MatchBool due (HasToPurge f img own stood_on false at.place s) (HasToPurge f img own stood_on false at.place s → ⊥)) (sym stage)
    (subst (λ x. MatchBool due (HasToPurge f img own stood_on false x Rested) (HasToPurge f img own stood_on false x Rested → ⊥)) (sym place)
    (purge_decided f img own stood_on off alone writes due (dead (whole_in f img hands A chain off known.0 known.1)))))

-- what is true isn't false
pub not_there : (b : Bool) → IsTrue b → b ≡ false → ⊥
not_there b there isnt = cc
