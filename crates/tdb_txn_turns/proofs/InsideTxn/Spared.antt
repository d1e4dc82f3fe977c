-- A command takes no record out of its chain on which a cursor stands.
use Rattle.std.proofs.Common.{◌≡◌, ℕ, ◌+◌, Bool, List, [], ◌∷◌, ◌++◌, length, Option, None, Some, refl, sym, subst, inl, inr, arith}
use Rattle.std.specs.Prelude.{Contains}
use Rattle.tdb_space.specs.Form.{Form}
use Rattle.tdb_space.specs.Pairs.{map_of}
use Rattle.tdb_space.specs.NewRecord.{rec_len_for}
use Rattle.tdb_space.specs.Extents.{HandPair}
use Rattle.tdb_space.specs.Accepted.{AcceptWith}
use Rattle.tdb_chain.specs.declared.place.Place.{Place}
use Rattle.tdb_chain.specs.Place.{IsFound}
use Rattle.tdb_locks.specs.HeldLocks.{HeldLocks}
use Rattle.tdb_locks.specs.declared.piece.Piece.{Piece}
use Rattle.tdb_locks.specs.declared.turn.Turn.{Turn}
use Rattle.tdb_locks.specs.declared.turn.Turn.TheVariants as Turns
use Rattle.tdb_steps.specs.declared.plain.Plain.{Plain}
use Rattle.tdb_steps.specs.declared.plain.Plain.TheVariants.{Fetch, Has, Store, Append, Delete, Wipe}
use Rattle.tdb_steps.specs.declared.stage.Stage.{Stage}
use Rattle.tdb_steps.specs.declared.stage.Stage.TheVariants.{Begun, Chained, Looked, Listed, Taken, Changed, Wiping, Ending}
use Rattle.tdb_steps.specs.declared.stage.WipeStage.TheVariants.{Records, FreeList}
use Rattle.tdb_steps.specs.declared.stage.Next.{Next}
use Rattle.tdb_steps.specs.declared.rows.LockRow.{LockRow}
use Rattle.tdb_steps.specs.declared.rows.Rows.{Rows}
use Rattle.tdb_steps.specs.Asked.{Asked, joined}
use Rattle.tdb_steps.specs.Stages.{hands_in, locked_stage, IsIdle, Knows}
use Rattle.tdb_steps.specs.Order.{StoreAfter, DeleteAfter, IsAfter}
use Rattle.tdb_steps.specs.LockRows.{row_at, rows_of}
use Rattle.tdb_steps.specs.LockTurns.{ActRightly, LockLed}
use Rattle.tdb_steps.specs.PlainCommands.{asked_of, turn_of}
use Rattle.tdb_steps.specs.Turns.{LinksRightly, StoresRightly, DeletesRightly, MarksRightly}
use Rattle.tdb_steps.specs.Machines.{Doing, DoingKnows, Leaves, CommandRightly}
use Rattle.tdb_txn_turns.specs.InsideTxn.Spared.{StageSpares, TurnSpares}

stepped : {x y : Stage} → Next.Step x ≡ Next.Step y → x ≡ y
stepped e = cc

changed : {h k : HandPair} → Changed h ≡ Changed k → h ≡ k
changed e = cc

found_is : {p q : Place} → Looked (Some p) ≡ Looked (Some q) → p ≡ q
found_is e = cc

-- a turn that takes a lock
lock_spares : (stood_on : List ℕ) (stage : Stage) (command : Plain) → StageSpares stood_on stage command → StageSpares stood_on (locked_stage command stage) command
lock_spares stood_on Begun (Fetch key) S = tt
lock_spares stood_on Begun (Has key) S = tt
lock_spares stood_on Begun (Store key value flag) S = tt
lock_spares stood_on Begun (Append key value) S = tt
lock_spares stood_on Begun (Delete key) S = tt
lock_spares stood_on Begun Wipe S = tt
lock_spares stood_on Chained command S = tt
lock_spares stood_on (Looked None) command S = tt
lock_spares stood_on (Looked (Some place)) (Fetch key) S = tt
lock_spares stood_on (Looked (Some place)) (Has key) S = tt
lock_spares stood_on (Looked (Some place)) (Store key value flag) S = tt
lock_spares stood_on (Looked (Some place)) (Append key value) S = tt
lock_spares stood_on (Looked (Some place)) (Delete key) S = S
lock_spares stood_on (Looked (Some place)) Wipe S = tt
lock_spares stood_on (Listed found) command S = S
lock_spares stood_on (Taken found hand) command S = tt
lock_spares stood_on (Changed hand) command S = S
lock_spares stood_on (Wiping Records) command S = tt
lock_spares stood_on (Wiping FreeList) command S = tt
lock_spares stood_on Ending command S = tt

pub lock_turn_spares : (stood_on : List ℕ) (locks : HeldLocks) (owner : ℕ) (old new : List Piece) (rows : Rows) (r : LockRow) (d e : Doing) (turn : Turn) → LockLed locks owner old new rows r d e turn → StageSpares stood_on d.stage d.command
    → TurnSpares stood_on e (turn_of turn)
lock_turn_spares stood_on locks owner old new rows r d e Turns.Step L S = subst (λ (q : Doing). StageSpares stood_on q.stage q.command) (sym L.0) (lock_spares stood_on d.stage d.command S)
lock_turn_spares stood_on locks owner old new rows r d e (Turns.Blocked other byte) L S = tt
lock_turn_spares stood_on locks owner old new rows r d e (Turns.Done reply) L S = tt

-- a turn that looks or changes the image
module _ (f : Form) (a b : List ℕ) (limit : ℕ) (stood_on : List ℕ) (n : ℕ) where
  abbrev Free : HandPair → Type 0
  Free gone = Contains stood_on gone.0 → ⊥

  link_spares : (key : List ℕ) (found : Option Place) (hand gone : HandPair) → AcceptWith f a (hand ∷ []) → IsFound f a key found → LinksRightly f a hand stood_on found (Next.Step (Changed gone)) → Free gone
  link_spares key None hand gone A F R = absurd (let bad = stepped (R [] A) in cc bad)
  link_spares key (Some place) hand gone A F R = elim (R key [] A F) [
    | inl w ↦ absurd (let bad = stepped w.1 in cc bad)
    | inr w ↦ subst Free (sym (changed (stepped w.1))) w.0
  ]

  store_spares : (key : List ℕ) (value_len rec_len : ℕ) (asked : Asked) (stage : Stage) (gone : HandPair) → StoreAfter stage n → n + 1 ≡ 5 → AcceptWith f a (hands_in stage ++ []) → Knows f a key asked stage
      → ((IsIdle stage → ⊥) → StoresRightly f a b key value_len rec_len limit stood_on stage (Next.Step (Changed gone))) → Free gone
  store_spares key value_len rec_len asked Begun gone is late A K R = absurd (omega (arith, is, late))
  store_spares key value_len rec_len asked Chained gone is late A K R = absurd (omega (arith, is, late))
  store_spares key value_len rec_len asked (Looked found) gone is late A K R = absurd (omega (arith, is, late))
  store_spares key value_len rec_len asked (Listed found) gone is late A K R = absurd (omega (arith, is, late))
  store_spares key value_len rec_len asked (Taken found hand) gone is late A K R = link_spares key found hand gone A K.found (R (λ idle. idle))
  store_spares key value_len rec_len asked (Changed hand) gone is late A K R = absurd (omega (arith, is, late))
  store_spares key value_len rec_len asked (Wiping stage) gone is late A K R = elim is [ ]
  store_spares key value_len rec_len asked Ending gone is late A K R = absurd (elim is [ inl five ↦ omega (arith, five, late) | inr six ↦ omega (arith, six, late) ])

  -- a delete takes out the record that it has found
  delete_spares : (key : List ℕ) (stage : Stage) (gone : HandPair) → DeleteAfter stage n → n + 1 ≡ 4 → ((IsIdle stage → ⊥) → DeletesRightly f a b key stood_on stage (Next.Step (Changed gone))) → StageSpares stood_on stage (Delete key) → Free gone
  delete_spares key Begun gone is late R S = absurd (omega (arith, is, late))
  delete_spares key Chained gone is late R S = absurd (omega (arith, is, late))
  delete_spares key (Looked found) gone is late R S = absurd (omega (arith, is, late))
  delete_spares key (Listed None) gone is late R S = absurd (R (λ idle. idle))
  delete_spares key (Listed (Some place)) gone is late R S = elim (R (λ idle. idle)) [
    | inl w ↦ absurd (cc w)
    | inr w ↦ subst Free (sym (changed (stepped w))) S
  ]
  delete_spares key (Taken found hand) gone is late R S = elim is [ ]
  delete_spares key (Changed hand) gone is late R S = absurd (omega (arith, is, late))
  delete_spares key (Wiping stage) gone is late R S = elim is [ ]
  delete_spares key Ending gone is late R S = absurd (omega (arith, is, late))

  -- and it goes on with one that it has found where no cursor stands on that
  mark_spares : (found : Option Place) (place : Place) → MarksRightly stood_on found (Next.Step (Looked (Some place))) → Contains stood_on place.off → ⊥
  mark_spares None place M = absurd M
  mark_spares (Some p) place M = subst (λ (q : Place). Contains stood_on q.off → ⊥) (sym (found_is M.0)) M.1

  look_spares : (key : List ℕ) (stage : Stage) (place : Place) → DeleteAfter stage n → n + 1 ≡ 2 → AcceptWith f a (hands_in stage ++ []) → ((IsIdle stage → ⊥) → DeletesRightly f a b key stood_on stage (Next.Step (Looked (Some place))))
      → Contains stood_on place.off → ⊥
  look_spares key Begun place is late A R = absurd (omega (arith, is, late))
  look_spares key Chained place is late A R = let found = R (λ idle. idle) [] A in mark_spares found.0 place found.2
  look_spares key (Looked found) place is late A R = absurd (omega (arith, is, late))
  look_spares key (Listed found) place is late A R = absurd (omega (arith, is, late))
  look_spares key (Taken found hand) place is late A R = elim is [ ]
  look_spares key (Changed hand) place is late A R = absurd (omega (arith, is, late))
  look_spares key (Wiping stage) place is late A R = elim is [ ]
  look_spares key Ending place is late A R = absurd (omega (arith, is, late))

  -- the turn behind the look takes the lock of the free list
  list_locks : (key : List ℕ) (chain : ℕ) (stage : Stage) → DeleteAfter stage n → n + 1 ≡ 3 → row_at (rows_of (Delete key) chain) stage ≡ None → ⊥
  list_locks key chain Begun is late none = omega (arith, is, late)
  list_locks key chain Chained is late none = omega (arith, is, late)
  list_locks key chain (Looked found) is late none = cc none
  list_locks key chain (Listed found) is late none = omega (arith, is, late)
  list_locks key chain (Taken found hand) is late none = elim is [ ]
  list_locks key chain (Changed hand) is late none = omega (arith, is, late)
  list_locks key chain (Wiping stage) is late none = elim is [ ]
  list_locks key chain Ending is late none = omega (arith, is, late)

  module _ (chain : ℕ) (seqnum : Bool) (whole : Option (List ℕ)) where
    abbrev at : Plain → Stage → Doing
    at command stage = record { command = command; chain = chain; seqnum = seqnum; stage = stage; whole = whole }

    abbrev Goes : Plain → Stage → Stage → Type 0
    Goes command stage later = (IsIdle stage → ⊥) → CommandRightly f a b command whole limit stood_on stage (Next.Step later)

    unlink_spares : (command : Plain) (stage : Stage) (gone : HandPair) → IsAfter command stage n → IsAfter command (Changed gone) (n + 1) → AcceptWith f a (hands_in stage ++ []) → DoingKnows f a (at command stage) → Goes command stage (Changed gone)
        → StageSpares stood_on stage command → Free gone
    unlink_spares (Fetch key) stage gone is late A K R S = elim late [ ]
    unlink_spares (Has key) stage gone is late A K R S = elim late [ ]
    unlink_spares (Store key value flag) stage gone is late A K R S = store_spares key (length value) (rec_len_for (length key) (length value)) (asked_of (Store key value flag)) stage gone is late A K.found R
    unlink_spares (Append key value) stage gone is late A K R S =
        store_spares key (length (joined (map_of f a key) value)) (rec_len_for (length key) (length (joined (map_of f a key) value))) (asked_of (Append key value)) stage gone is late A K.found (λ busy. R busy (K.joined key value refl))
    unlink_spares (Delete key) stage gone is late A K R S = delete_spares key stage gone is late R S
    unlink_spares Wipe stage gone is late A K R S = elim late [ ]

    step_spares : (command : Plain) (stage later : Stage) → IsAfter command stage n → IsAfter command later (n + 1) → AcceptWith f a (hands_in stage ++ []) → DoingKnows f a (at command stage) → row_at (rows_of command chain) stage ≡ None → Goes command stage later
        → StageSpares stood_on stage command → StageSpares stood_on later command
    step_spares command stage Begun is late A K none R S = tt
    step_spares command stage Chained is late A K none R S = tt
    step_spares command stage (Looked None) is late A K none R S = tt
    step_spares (Fetch key) stage (Looked (Some place)) is late A K none R S = tt
    step_spares (Has key) stage (Looked (Some place)) is late A K none R S = tt
    step_spares (Store key value flag) stage (Looked (Some place)) is late A K none R S = tt
    step_spares (Append key value) stage (Looked (Some place)) is late A K none R S = tt
    step_spares (Delete key) stage (Looked (Some place)) is late A K none R S = look_spares key stage place is late A R
    step_spares Wipe stage (Looked (Some place)) is late A K none R S = tt
    step_spares command stage (Listed None) is late A K none R S = tt
    step_spares (Fetch key) stage (Listed (Some place)) is late A K none R S = tt
    step_spares (Has key) stage (Listed (Some place)) is late A K none R S = tt
    step_spares (Store key value flag) stage (Listed (Some place)) is late A K none R S = tt
    step_spares (Append key value) stage (Listed (Some place)) is late A K none R S = tt
    step_spares (Delete key) stage (Listed (Some place)) is late A K none R S = absurd (list_locks key chain stage is late none)
    step_spares Wipe stage (Listed (Some place)) is late A K none R S = tt
    step_spares command stage (Taken found hand) is late A K none R S = tt
    step_spares command stage (Changed gone) is late A K none R S = unlink_spares command stage gone is late A K R S
    step_spares command stage (Wiping locked) is late A K none R S = tt
    step_spares command stage Ending is late A K none R S = tt

  pub act_turn_spares : (d e : Doing) (turn : Turn) → IsAfter d.command d.stage n → Leaves d e n (turn_of turn) → AcceptWith f a (hands_in d.stage ++ []) → DoingKnows f a d → row_at (rows_of d.command d.chain) d.stage ≡ None
      → ((IsIdle d.stage → ⊥) → ActRightly f a b d e limit stood_on turn) → StageSpares stood_on d.stage d.command → TurnSpares stood_on e (turn_of turn)
  act_turn_spares d e Turns.Step is L A K none R S =
      subst (StageSpares stood_on e.stage) (sym L.0) (step_spares d.chain d.seqnum d.whole d.command d.stage e.stage is (subst (λ p. IsAfter p e.stage (n + 1)) L.0 L.3) A K none R S)
  act_turn_spares d e (Turns.Blocked other byte) is L A K none R S = tt
  act_turn_spares d e (Turns.Done reply) is L A K none R S = tt
