-- Each turn of a command is one of its row.
use Rattle.std.proofs.Common.{◌≡◌, ℕ, ◌<◌, ◌≤◌, inl, inr, Bool, true, List, Option, Some, max, refl, sym, ◌∙◌, ap, subst, arith}
use Rattle.tdb_locks.specs.declared.turn.Reply.{Reply}
use Rattle.tdb_locks.specs.declared.turn.Turn.{Turn}
use Rattle.tdb_locks.specs.declared.turn.Turn.TheVariants as Turns
use Rattle.tdb_locks.specs.HeldLocks.{HeldLocks}
use Rattle.tdb_locks.specs.declared.piece.Piece.{Piece}
use Rattle.tdb_law.specs.Commands as Law
use Rattle.tdb_law.specs.Ends.{map_last, map_ends, store_ends, delete_ends}
use Rattle.tdb_steps.specs.declared.flag.Flag.{Flag}
use Rattle.tdb_steps.specs.declared.flag.Flag.TheVariants as Flags
use Rattle.tdb_steps.specs.declared.plain.Plain.{Plain}
use Rattle.tdb_steps.specs.declared.plain.Plain.TheVariants.{Fetch, Has, Store, Append, Delete, Wipe}
use Rattle.tdb_steps.specs.declared.rows.LockRow.{LockRow}
use Rattle.tdb_steps.specs.declared.rows.Rows.{Rows}
use Rattle.tdb_steps.specs.declared.stage.Stage.{Stage}
use Rattle.tdb_steps.specs.declared.stage.WipeStage.TheVariants as Wipes
use Rattle.tdb_steps.specs.declared.stage.Next.{Next}
use Rattle.tdb_steps.specs.Stages.{locked_stage}
use Rattle.tdb_steps.specs.PlainCommands.{command_of, store_of, reply_of, turn_of}
use Rattle.tdb_steps.specs.LockRows.{row_at, start_of, end_of, is_covered, locks_in, rows_of, AreLetGo}
use Rattle.tdb_steps.specs.Order.{NotFull, InOrder, LookOrder, StoreOrder, DeleteOrder, WipeOrder, LookAfter, StoreAfter, DeleteAfter, WipeAfter, IsAfter}
use Rattle.tdb_steps.specs.Machines.{Doing, MapRow, Leaves}
use Rattle.tdb_steps.specs.LockTurns.{LockLed, ActLed}
use Rattle.tdb_steps.proofs.Cases.{looks_case, takes_case, links_case, unlinks_case}
use Rattle.tdb_steps.proofs.Cases.LooksCase.{look_on, look_ends}
use Rattle.tdb_steps.proofs.Cases.TakesCase.{take_on, take_full, take_starves}
use Rattle.tdb_steps.proofs.Cases.LinksCase.{link_over, link_ends}
use Rattle.tdb_steps.proofs.Cases.UnlinksCase.{unlink_on, unlink_starves}
use Rattle.tdb_steps.proofs.Lawful.{next_turn}
use Rattle.tdb_law.specs.Held.{locked_next}
use Rattle.tdb_steps.specs.Holdings.{table_of, HoldsBefore, LocksTurned}
use Rattle.tdb_steps.proofs.Holdings.{others_changed, lock_holds, lock_free, lock_blocked, let_go_holds, let_go_others, idle_free, next_turn as next_more}
use Rattle.tdb_steps.proofs.Turning.{RowFacts, LockStage, lock_stage, begun_order, looked_order, wiping_order, next_after}
use Rattle.tdb_steps.proofs.Turning.LockStage.{lock_first, lock_second, lock_both}

-- a look may end with each reply but Full
store_one : (r : Reply) → NotFull r → store_ends 1 (reply_of r) ≡ true
store_one Reply.Ok never = refl
store_one (Reply.Value v) never = refl
store_one (Reply.Pair k v) never = refl
store_one Reply.End never = refl
store_one Reply.KeyMissing never = refl
store_one Reply.KeyThere never = refl
store_one (Reply.Busy o b) never = refl
store_one Reply.ReadOnly never = refl
store_one Reply.NoTransaction never = refl
store_one Reply.InTransaction never = refl
store_one Reply.Nesting never = refl
store_one Reply.Doomed never = refl
store_one (Reply.HeldLocks n) never = refl
store_one Reply.NotLocked never = refl
store_one (Reply.Full len need) never = elim never [ ]
store_one Reply.Memory never = refl
store_one Reply.Yes never = refl
store_one Reply.No never = refl
store_one (Reply.Number n) never = refl

delete_one : (r : Reply) → delete_ends 1 (reply_of r) ≡ true
delete_one Reply.Ok = refl
delete_one (Reply.Value v) = refl
delete_one (Reply.Pair k v) = refl
delete_one Reply.End = refl
delete_one Reply.KeyMissing = refl
delete_one Reply.KeyThere = refl
delete_one (Reply.Busy o b) = refl
delete_one Reply.ReadOnly = refl
delete_one Reply.NoTransaction = refl
delete_one Reply.InTransaction = refl
delete_one Reply.Nesting = refl
delete_one Reply.Doomed = refl
delete_one (Reply.HeldLocks n) = refl
delete_one Reply.NotLocked = refl
delete_one (Reply.Full len need) = refl
delete_one Reply.Memory = refl
delete_one Reply.Yes = refl
delete_one Reply.No = refl
delete_one (Reply.Number n) = refl

store_last : (flag : Flag) (k v : List ℕ) → map_last (store_of flag k v) ≡ 6
store_last Flags.Replace k v = refl
store_last Flags.Insert k v = refl
store_last Flags.Modify k v = refl

store_may_end : (flag : Flag) (k v : List ℕ) (n : ℕ) (r : Law.Reply) → map_ends (store_of flag k v) n r ≡ store_ends n r
store_may_end Flags.Replace k v n r = refl
store_may_end Flags.Insert k v n r = refl
store_may_end Flags.Modify k v n r = refl

module _ (c : Law.MapCommand) (n : ℕ) where
  row_step : (next : Next) (then : Stage) (k last : ℕ) → next ≡ Next.Step then → n ≡ k → map_last c ≡ last → k < last → MapRow c n (next_turn next)
  row_step next then k last led is most less = subst (λ x. MapRow c n (next_turn x)) (sym led) (omega (arith, is, most, less))

  row_done : (next : Next) (r : Reply) (k : ℕ) → next ≡ Next.Done r → n ≡ k → map_ends c k (reply_of r) ≡ true → MapRow c n (next_turn next)
  row_done next r k led is ends = subst (λ x. MapRow c n (next_turn x)) (sym led) (inl (ap (λ i. map_ends c i (reply_of r)) is ∙ ends))

  row_starves : (next : Next) (k last : ℕ) → next ≡ Next.Done Reply.Memory → n ≡ k → map_last c ≡ last → k ≤ last → MapRow c n (next_turn next)
  row_starves next k last led is most less = subst (λ x. MapRow c n (next_turn x)) (sym led) (inr (refl, omega (arith, is, most, less)))

  look_row : (stage : Stage) (next : Next) → map_last c ≡ 1 → ((r : Law.Reply) → map_ends c 1 r ≡ true) → LookAfter stage n → LookOrder stage next → MapRow c n (next_turn next)
  look_row Stage.Begun next most ends is order = row_step next Stage.Chained 0 1 order is most (omega arith)
  look_row Stage.Chained (Next.Done r) most ends is order = row_done (Next.Done r) r 1 refl is (ends (reply_of r))
  look_row Stage.Chained (Next.Step stage) most ends is order = elim order [ ]
  look_row (Stage.Looked found) next most ends is order = elim is [ ]
  look_row (Stage.Listed found) next most ends is order = elim is [ ]
  look_row (Stage.Taken found hand) next most ends is order = elim is [ ]
  look_row (Stage.Changed hand) next most ends is order = elim is [ ]
  look_row (Stage.Wiping locked) next most ends is order = elim is [ ]
  look_row Stage.Ending next most ends is order = elim is [ ]

  store_row : (stage : Stage) (next : Next) → map_last c ≡ 6 → ((k : ℕ) (r : Law.Reply) → map_ends c k r ≡ store_ends k r) → StoreAfter stage n → StoreOrder stage next → MapRow c n (next_turn next)
  store_row Stage.Begun next most ends is order = row_step next Stage.Chained 0 6 order is most (omega arith)
  store_row Stage.Chained next most ends is order = elim (looks_case next order) [
    | look_on found led ↦ row_step next (Stage.Looked found) 1 6 led is most (omega arith)
    | look_ends r led never ↦ row_done next r 1 led is (ends 1 (reply_of r) ∙ store_one r never)
  ]
  store_row (Stage.Looked found) next most ends is order = row_step next (Stage.Listed found) 2 6 order is most (omega arith)
  store_row (Stage.Listed found) next most ends is order = elim (takes_case next order) [
    | take_on place hand led ↦ row_step next (Stage.Taken place hand) 3 6 led is most (omega arith)
    | take_full len need led ↦ row_done next (Reply.Full len need) 3 led is (ends 3 (Law.Reply.Full len need))
    | take_starves led ↦ row_starves next 3 6 led is most (omega arith)
  ]
  store_row (Stage.Taken found hand) next most ends is order = elim (links_case next order) [
    | link_over old led ↦ row_step next (Stage.Changed old) 4 6 led is most (omega arith)
    | link_ends led ↦ row_step next Stage.Ending 4 6 led is most (omega arith)
  ]
  store_row (Stage.Changed hand) next most ends is order = row_step next Stage.Ending 5 6 order is most (omega arith)
  store_row (Stage.Wiping locked) next most ends is order = elim is [ ]
  store_row Stage.Ending next most ends is order = elim is [
    | inl five ↦ row_done next Reply.Ok 5 order five (ends 5 Law.Reply.Done)
    | inr six ↦ row_done next Reply.Ok 6 order six (ends 6 Law.Reply.Done)
  ]

  delete_row : (stage : Stage) (next : Next) → map_last c ≡ 5 → ((k : ℕ) (r : Law.Reply) → map_ends c k r ≡ delete_ends k r) → DeleteAfter stage n → DeleteOrder stage next → MapRow c n (next_turn next)
  delete_row Stage.Begun next most ends is order = row_step next Stage.Chained 0 5 order is most (omega arith)
  delete_row Stage.Chained next most ends is order = elim (looks_case next order) [
    | look_on found led ↦ row_step next (Stage.Looked found) 1 5 led is most (omega arith)
    | look_ends r led never ↦ row_done next r 1 led is (ends 1 (reply_of r) ∙ delete_one r)
  ]
  delete_row (Stage.Looked found) next most ends is order = row_step next (Stage.Listed found) 2 5 order is most (omega arith)
  delete_row (Stage.Listed found) next most ends is order = elim (unlinks_case next order) [
    | unlink_on hand led ↦ row_step next (Stage.Changed hand) 3 5 led is most (omega arith)
    | unlink_starves led ↦ row_starves next 3 5 led is most (omega arith)
  ]
  delete_row (Stage.Taken found hand) next most ends is order = elim is [ ]
  delete_row (Stage.Changed hand) next most ends is order = row_step next Stage.Ending 4 5 order is most (omega arith)
  delete_row (Stage.Wiping locked) next most ends is order = elim is [ ]
  delete_row Stage.Ending next most ends is order = row_done next Reply.Ok 5 order is (ends 5 Law.Reply.Done)

  wipe_row : (stage : Stage) (next : Next) → map_last c ≡ 3 → ((r : Law.Reply) → map_ends c 3 r ≡ true) → WipeAfter stage n → WipeOrder stage next → MapRow c n (next_turn next)
  wipe_row Stage.Begun next most ends is order = row_step next (Stage.Wiping Wipes.Records) 0 3 order is most (omega arith)
  wipe_row Stage.Chained next most ends is order = elim is [ ]
  wipe_row (Stage.Looked found) next most ends is order = elim is [ ]
  wipe_row (Stage.Listed found) next most ends is order = elim is [ ]
  wipe_row (Stage.Taken found hand) next most ends is order = elim is [ ]
  wipe_row (Stage.Changed hand) next most ends is order = elim is [ ]
  wipe_row (Stage.Wiping Wipes.Records) next most ends is order = row_step next (Stage.Wiping Wipes.FreeList) 1 3 order is most (omega arith)
  wipe_row (Stage.Wiping Wipes.FreeList) next most ends is order = elim order [
    | inl led ↦ row_step next Stage.Ending 2 3 led is most (omega arith)
    | inr starved ↦ row_starves next 2 3 starved is most (omega arith)
  ]
  wipe_row Stage.Ending next most ends is order = row_done next Reply.Ok 3 order is (ends Law.Reply.Done)

pub row_of : (command : Plain) (n : ℕ) (stage : Stage) (next : Next) → IsAfter command stage n → InOrder command stage next → MapRow (command_of command) n (next_turn next)
row_of (Fetch k) n stage next is order = look_row (command_of (Fetch k)) n stage next refl (λ r. refl) is order
row_of (Has k) n stage next is order = look_row (command_of (Has k)) n stage next refl (λ r. refl) is order
row_of (Store k v flag) n stage next is order = store_row (command_of (Store k v flag)) n stage next (store_last flag k v) (store_may_end flag k v) is order
row_of (Append k v) n stage next is order = store_row (command_of (Append k v)) n stage next refl (λ i r. refl) is order
row_of (Delete k) n stage next is order = delete_row (command_of (Delete k)) n stage next refl (λ k r. refl) is order
row_of Wipe n stage next is order = wipe_row (command_of Wipe) n stage next refl (λ r. refl) is order

-- so it is of a machine whose stage was taken out for the turn
pub act_row : (command : Plain) (chain : ℕ) (seqnum : Bool) (n : ℕ) (stage taken : Stage) (whole : Option (List ℕ)) (led next : Next) (d : Doing) → d ≡ record { command = command; chain = chain; seqnum = seqnum; stage = stage; whole = whole } → taken ≡ stage
    → InOrder command taken led → led ≡ next → IsAfter d.command d.stage n → MapRow (command_of d.command) n (next_turn next)
act_row command chain seqnum n stage taken whole led next d before out order on =
    subst (λ x. IsAfter x.command x.stage n → MapRow (command_of x.command) n (next_turn next)) (sym before)
    (λ is. row_of command n stage next is (subst (λ x. InOrder command x next) out (subst (InOrder command taken) on order)))

-- a turn that takes a lock leads on in the order of the command
lock_order : (command : Plain) (n : ℕ) (stage : Stage) → LockStage stage → IsAfter command stage n → InOrder command stage (Next.Step (locked_stage command stage))
lock_order command n stage (lock_first at) is = subst (λ x. InOrder command x (Next.Step (locked_stage command x))) (sym at) (begun_order command)
lock_order command n stage (lock_second found at) is = subst (λ x. InOrder command x (Next.Step (locked_stage command x))) (sym at) (looked_order command n found (subst (λ x. IsAfter command x n) at is))
lock_order command n stage (lock_both at) is = subst (λ x. InOrder command x (Next.Step (locked_stage command x))) (sym at) (wiping_order command n (subst (λ x. IsAfter command x n) at is))

module _ (command : Plain) (chain : ℕ) (seqnum : Bool) (n : ℕ) (stage : Stage) (whole : Option (List ℕ)) (e : Doing) (locks : HeldLocks) (owner : ℕ) (old new : List Piece) (rows : Rows) (r : LockRow) (at : row_at rows stage ≡ Some r) (is : IsAfter command stage n) where
  lock_leads : n < map_last (command_of command)
  lock_leads = row_of command n stage (Next.Step (locked_stage command stage)) is (lock_order command n stage (lock_stage rows stage r at) is)

  pub lock_row : (turn : Turn) → LockLed locks owner old new rows r (record { command = command; chain = chain; seqnum = seqnum; stage = stage; whole = whole }) e turn → MapRow (command_of command) n (turn_of turn)
  lock_row Turns.Step L = lock_leads
  lock_row (Turns.Blocked other byte) L = tt
  lock_row (Turns.Done reply) L = inr (ap reply_of L.0, omega (arith, lock_leads))

  pub lock_leaves : (turn : Turn) → LockLed locks owner old new rows r (record { command = command; chain = chain; seqnum = seqnum; stage = stage; whole = whole }) e turn → Leaves (record { command = command; chain = chain; seqnum = seqnum; stage = stage; whole = whole }) e n (turn_of turn)
  lock_leaves Turns.Step L =
      subst (λ x. Leaves (record { command = command; chain = chain; seqnum = seqnum; stage = stage; whole = whole }) x n Law.Turn.Step) (sym L.0)
      (refl, refl, refl, next_after command n stage (locked_stage command stage) is (lock_order command n stage (lock_stage rows stage r at) is))
  lock_leaves (Turns.Blocked other byte) L = L.0
  lock_leaves (Turns.Done reply) L = L.1

-- the lock table after a turn that takes a lock, and after one that takes none
module _ (locks : HeldLocks) (kept : ℕ → ℕ) (owner n : ℕ) (old new : List Piece) (rows : Rows) (H : HoldsBefore locks kept owner n old rows) where
  pub lock_table : (d e : Doing) (r : LockRow) (turn : Turn) → RowFacts rows n r → LockLed locks owner old new rows r d e turn → LocksTurned (locks_in rows) kept owner n old new (turn_of turn)
  lock_table d e r Turns.Step F L = record {
    holds = lock_holds locks kept owner n old rows H r (F.beside locks kept owner old H) F.next new F.low L.1 (λ bare. (L.2 bare).0);
    others = others_changed (is_covered locks r) old new owner (start_of r.region) (end_of r.region) (Some r.kind) L.1 (λ bare. (L.2 bare).0);
    rightly = lock_free locks kept owner n old rows H r (F.beside locks kept owner old H) F.next (λ bare. (L.2 bare).1);
  }
  lock_table d e r (Turns.Blocked other byte) F L = record {
    holds = λ b. ap (λ ps. table_of ps owner b) L.1 ∙ H.holds b;
    others = λ o b differs. ap (λ ps. table_of ps o b) L.1;
    rightly = lock_blocked locks kept owner n old rows H r (F.beside locks kept owner old H) F.next other byte L.2 L.3;
  }
  lock_table d e r (Turns.Done reply) F L = record {
    holds = let_go_holds locks kept owner n old new rows.first rows.second H L.3;
    others = let_go_others locks kept owner n old new rows.first rows.second L.3;
    rightly = lock_free locks kept owner n old rows H r (F.beside locks kept owner old H) F.next (λ bare. L.2);
  }

  pub act_steps : new ≡ old → ((b : ℕ) → locked_next (locks_in rows) n b ≡ 0) → LocksTurned (locks_in rows) kept owner n old new Law.Turn.Step
  act_steps same idle = record {
    holds = λ b. ap (λ ps. table_of ps owner b) same ∙ H.holds b ∙ ap (λ x. max x (kept b)) (let more = next_more (locks_in rows) n b in let none = idle b in omega (arith, more, none));
    others = λ o b differs. ap (λ ps. table_of ps o b) same;
    rightly = idle_free old owner (locked_next (locks_in rows) n) idle;
  }

  pub act_ends : (r : Law.Reply) → AreLetGo locks owner old new rows → ((b : ℕ) → locked_next (locks_in rows) n b ≡ 0) → LocksTurned (locks_in rows) kept owner n old new (Law.Turn.Ends r)
  act_ends r L idle = record {
    holds = let_go_holds locks kept owner n old new rows.first rows.second H L;
    others = let_go_others locks kept owner n old new rows.first rows.second L;
    rightly = idle_free old owner (locked_next (locks_in rows) n) idle;
  }

  -- a turn that takes no lock, and one that lets go with its reply
  pub act_table : (d e : Doing) (turn : Turn) → ActLed d e turn → ((r : Reply) → turn ≡ Turns.Done r → ⊥) → new ≡ old → ((b : ℕ) → locked_next (locks_in rows) n b ≡ 0)
      → LocksTurned (locks_in rows) kept owner n old new (turn_of turn)
  act_table d e Turns.Step L never same idle = act_steps same idle
  act_table d e (Turns.Blocked other byte) L never same idle = elim L [ ]
  act_table d e (Turns.Done reply) L never same idle = elim (never reply refl) [ ]

  pub end_table : (turn : Turn) (r : Reply) → turn ≡ Turns.Done r → AreLetGo locks owner old new rows → ((b : ℕ) → locked_next (locks_in rows) n b ≡ 0)
      → LocksTurned (locks_in rows) kept owner n old new (turn_of turn)
  end_table turn r is L idle = subst (λ x. LocksTurned (locks_in rows) kept owner n old new (turn_of x)) (sym is) (act_ends (reply_of r) L idle)

-- the rows of a machine that is before its first turn again
pub ended_rows : (locks : HeldLocks) (owner : ℕ) (old new : List Piece) (d e : Doing) (turn : Turn) (r : Reply) → turn ≡ Turns.Done r → ActLed d e turn
    → AreLetGo locks owner old new (rows_of e.command e.chain) → AreLetGo locks owner old new (rows_of d.command d.chain)
ended_rows locks owner old new d e turn r is led L =
    let ended : ActLed d e (Turns.Done r) = subst (ActLed d e) is led in
    subst (λ x. AreLetGo locks owner old new (rows_of x.command x.chain)) ended L
