-- No turn of a cursor makes locks that conflict with those of others.
use Rattle.std.proofs.Common.{◌≡◌, ◌≢◌, ℕ, ◌+◌, ◌≤◌, Bool, true, false, List, Some, None, refl, ◌∙◌, ap, inl, inr, arith}
use Rattle.std.specs.Prelude.{◌||◌}
use Rattle.std.proofs.lemmas.Bool.{cases_eq}
use Rattle.tdb_space.specs.Form.{Form}
use Rattle.tdb_space.specs.Pairs.{home}
use Rattle.tdb_locks.specs.HeldLocks.{HeldLocks}
use Rattle.tdb_locks.specs.LockTable.{held}
use Rattle.tdb_locks.specs.declared.kind.Kind.{Kind}
use Rattle.tdb_locks.specs.declared.kind.Kind.TheVariants.{Read}
use Rattle.tdb_locks.specs.declared.piece.Piece.{Piece}
use Rattle.tdb_locks.specs.declared.turn.Turn.{Turn}
use Rattle.tdb_locks.proofs.Strengths.{strength, strength-free}
use Rattle.tdb_law.specs.Commands.{WalkCommand}
use Rattle.tdb_law.specs.Openers.{Own}
use Rattle.tdb_walk.specs.declared.standing.Standing.{Standing}
use Rattle.tdb_walk.specs.declared.standing.Standing.TheVariants.{Before, On, Past}
use Rattle.tdb_walk.specs.declared.stage.Stage.{Stage}
use Rattle.tdb_walk.specs.declared.stage.Stage.TheVariants.{Rested, Reading, Writing, Freeing}
use Rattle.tdb_walk.specs.declared.stage.StepLock.{StepLock}
use Rattle.tdb_walk.specs.Way.{SameOthers, lock_byte, reads_chain}
use Rattle.tdb_walk.specs.ByteLocks.{Holding, CanHold, with_byte, reads_all}
use Rattle.tdb_walk.specs.Cursors.{At, LockLed, WentTo, is_on, let_go, free_byte, byte_of, kind_of, covers, held_locked, held_moved, spared_of}
use Rattle.tdb_walk.specs.Cursors.WentTo.{arrives, held_up, halts, finishes, lacks}
use Rattle.tdb_walk.specs.InLaw.{goal_of, strengths}
use Rattle.tdb_walk.proofs.Explicit.{mine_at, mine_off}
use Rattle.tdb_walk.proofs.TurnKinds.{TurnKind}
use Rattle.tdb_walk.proofs.TurnKinds.TurnKind.{kind_locks, kind_moves, kind_leaves}

-- who lets go of a byte holds no more
less_gone : (covered : Bool) (owner byte : ℕ) (h : Holding) (z : ℕ) → strength (with_byte covered owner byte None h owner z) ≤ strength (h owner z)
less_gone true owner byte h z = omega arith
less_gone false owner byte h z = elim (cases_eq z byte) [
  | inl here ↦ let none = mine_at owner byte None h z here in omega (arith, none)
  | inr apart ↦ let same = mine_off false owner byte None h z apart in omega (arith, same)
]

less_let_go : (own : HeldLocks) (owner : ℕ) (place : Standing) (stage : Stage) (to : Standing) (h : Holding) (z : ℕ) → strength (let_go own owner place stage to h owner z) ≤ strength (h owner z)
less_let_go own owner (On chain off) Rested to h z = less_gone (reads_all own || is_on to off) owner off h z
less_let_go own owner (On chain off) Reading to h z =
    let record_gone = less_gone (reads_all own || is_on to off) owner off h z in
    let chain_gone = less_gone (reads_chain own chain) owner (lock_byte chain) (with_byte (reads_all own || is_on to off) owner off None h) z in
    omega (arith, record_gone, chain_gone)
less_let_go own owner (On chain off) Writing to h z =
    let record_gone = less_gone (reads_all own || is_on to off) owner off h z in
    let chain_gone = less_gone (reads_chain own chain) owner (lock_byte chain) (with_byte (reads_all own || is_on to off) owner off None h) z in
    omega (arith, record_gone, chain_gone)
less_let_go own owner (On chain off) Freeing to h z =
    let record_gone = less_gone (reads_all own || is_on to off) owner off h z in
    let chain_gone = less_gone (reads_chain own chain) owner (lock_byte chain) (with_byte (reads_all own || is_on to off) owner off None h) z in
    let list_gone = less_gone false owner free_byte (with_byte (reads_chain own chain) owner (lock_byte chain) None (with_byte (reads_all own || is_on to off) owner off None h)) z in
    omega (arith, record_gone, chain_gone, list_gone)
less_let_go own owner (Before chain) stage to h z = omega arith
less_let_go own owner Past stage to h z = omega arith

module _ (f : Form) (own : HeldLocks) (x : Own) (w : WalkCommand) (later : At) (n who : ℕ) (ps qs : List Piece) (before : (p z : ℕ) → p ≢ who → strengths ps who z + strengths ps p z ≤ 2) (O : SameOthers (who + 1) ps qs) where
  -- who takes a byte that can be held is in nobody's way
  took_apart : (covered : Bool) (byte : ℕ) (kind : Kind) → CanHold covered ps (who + 1) byte kind → (p z : ℕ) → p ≢ who → strength (with_byte covered (who + 1) byte (Some kind) (held ps) (who + 1) z) + strengths ps p z ≤ 2
  took_apart true byte kind can p z differs = before p z differs
  took_apart false byte kind (inl e) p z differs = cc
  took_apart false byte kind (inr free) p z differs = elim (cases_eq z byte) [
    | inl here ↦
        let room = strength-free ps (who + 1) byte (byte + 1) kind free (p + 1) z (λ e. differs (omega (arith, e))) (omega (arith, here)) (omega (arith, here)) in
        let is = mine_at (who + 1) byte (Some kind) (held ps) z here in
        omega (arith, room, is)
    | inr apart ↦ let same = mine_off false (who + 1) byte (Some kind) (held ps) z apart in let room = before p z differs in omega (arith, same, room)
  ]

  -- so is who holds no more than that
  apart_by : (h : Holding) → ((p z : ℕ) → p ≢ who → strength (h (who + 1) z) + strengths ps p z ≤ 2) → ((z : ℕ) → strengths qs who z ≤ strength (h (who + 1) z)) → (p z : ℕ) → p ≢ who → strengths qs who z + strengths qs p z ≤ 2
  apart_by h room less p z differs =
      let there = room p z differs in
      let most = less z in
      let same : strengths qs p z ≡ strengths ps p z = ap strength (O (p + 1) z (λ e. differs (omega (arith, e)))) in
      omega (arith, there, most, same)

  left_apart : (place : Standing) (stage : Stage) (to : Standing) → ((z : ℕ) → held qs (who + 1) z ≡ let_go own (who + 1) place stage to (held ps) (who + 1) z) → (p z : ℕ) → p ≢ who → strengths qs who z + strengths qs p z ≤ 2
  left_apart place stage to holds = apart_by (held ps) before (λ z. (let is : strengths qs who z ≡ strength (let_go own (who + 1) place stage to (held ps) (who + 1) z) = ap strength (holds z) in let less = less_let_go own (who + 1) place stage to (held ps) z in omega (arith, is, less)))

  same_apart : ((z : ℕ) → held qs (who + 1) z ≡ held ps (who + 1) z) → (p z : ℕ) → p ≢ who → strengths qs who z + strengths qs p z ≤ 2
  same_apart holds = apart_by (held ps) before (λ z. (let is : strengths qs who z ≡ strengths ps who z = ap strength (holds z) in omega (arith, is)))

  locks_apart : (at : At) (lock : StepLock) (spared : Standing) (did : Turn) → LockLed ps (who + 1) own lock spared at later did → ((z : ℕ) → held qs (who + 1) z ≡ held_locked own (who + 1) at later.place lock did (held ps) (who + 1) z) → (p z : ℕ) → p ≢ who → strengths qs who z + strengths qs p z ≤ 2
  locks_apart at lock spared Turn.Step led holds =
      apart_by (with_byte (covers own lock) (who + 1) (byte_of lock) (Some (kind_of lock)) (held ps)) (took_apart (covers own lock) (byte_of lock) (kind_of lock) led.1)
      (λ z. (let is : strengths qs who z ≡ strength (with_byte (covers own lock) (who + 1) (byte_of lock) (Some (kind_of lock)) (held ps) (who + 1) z) = ap strength (holds z) in omega (arith, is)))
  locks_apart at lock spared (Turn.Blocked other byte) led holds = same_apart holds
  locks_apart at lock spared (Turn.Done reply) led holds = left_apart at.place at.stage later.place holds

  -- a move that is held up changes nothing
  up_same : (place : Standing) (stage : Stage) (other byte z : ℕ) → held_moved own (who + 1) (record { place = place; stage = stage }) place (Turn.Blocked other byte) (held ps) (who + 1) z ≡ held ps (who + 1) z
  up_same (On chain off) stage other byte z = refl
  up_same (Before chain) stage other byte z = refl
  up_same Past stage other byte z = refl

  moves_apart : (place : Standing) (stage : Stage) (did : Turn) → WentTo f ps (who + 1) own (record { place = place; stage = stage }) later did
      → ((z : ℕ) → held qs (who + 1) z ≡ held_moved own (who + 1) (record { place = place; stage = stage }) later.place did (held ps) (who + 1) z) → (p z : ℕ) → p ≢ who → strengths qs who z + strengths qs p z ≤ 2
  moves_apart place stage did (arrives key value off says there above can) holds =
      let took : Holding = with_byte (reads_all own) (who + 1) off (Some Read) (held ps) in
      apart_by took (took_apart (reads_all own) off Read can)
      (λ z. (let is : strengths qs who z ≡ strength (let_go own (who + 1) place stage (On (home f key) off) took (who + 1) z) =
      ap strength (holds z) ∙ (λ i. strength (held_moved own (who + 1) (record { place = place; stage = stage }) ((there i).place) (says i) (held ps) (who + 1) z)) in
      let less = less_let_go own (who + 1) place stage (On (home f key) off) took z in omega (arith, is, less)))
  moves_apart place stage did (held_up other byte says there) holds =
      same_apart (λ z. holds z ∙ (λ i. held_moved own (who + 1) (record { place = place; stage = stage }) ((there i).place) (says i) (held ps) (who + 1) z) ∙ up_same place stage other byte z)
  moves_apart place stage did (halts chain other byte says there) holds =
      left_apart place stage (Before chain) (λ z. holds z ∙ (λ i. held_moved own (who + 1) (record { place = place; stage = stage }) ((there i).place) (says i) (held ps) (who + 1) z))
  moves_apart place stage did (finishes says there) holds =
      left_apart place stage Past (λ z. holds z ∙ (λ i. held_moved own (who + 1) (record { place = place; stage = stage }) ((there i).place) (says i) (held ps) (who + 1) z))
  moves_apart place stage did (lacks says there) holds =
      left_apart place stage Past (λ z. holds z ∙ (λ i. held_moved own (who + 1) (record { place = place; stage = stage }) ((there i).place) (says i) (held ps) (who + 1) z))

  pub kind_apart : (place : Standing) (stage : Stage) (did : Turn) → TurnKind f own x w place stage later n who ps qs did → (p z : ℕ) → p ≢ who → strengths qs who z + strengths qs p z ≤ 2
  kind_apart place stage did (kind_locks chain off lock on fits early next led holds) = locks_apart (record { place = On chain off; stage = stage }) lock (spared_of (goal_of w) (On chain off)) did led holds
  kind_apart place stage did (kind_moves moving ending went holds) = moves_apart place stage did went holds
  kind_apart place stage did (kind_leaves kind ending led holds) = left_apart place stage later.place holds
