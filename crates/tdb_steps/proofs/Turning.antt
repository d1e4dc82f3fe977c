-- What the row of a command says of each of its turns, and what a turn leaves.
use Rattle.std.proofs.Common.{◌≡◌, ℕ, ◌+◌, ◌≤◌, max, inl, inr, ◌⊎◌, Bool, true, false, ◌&&◌, List, [], ◌++◌, Option, None, Some, refl, sym, ◌∙◌, ap, subst, arith, zero-le, le_refl, nat_le, ◌==◌}
use Rattle.std.specs.Prelude.{if◌then◌else◌}
use Rattle.tdb_space.specs.Form.{Form}
use Rattle.tdb_space.specs.Pairs.{map_of}
use Rattle.tdb_space.specs.Extents.{HandPair}
use Rattle.tdb_space.specs.Accepted.{AcceptWith}
use Rattle.tdb_space.specs.Stays.{ChangesOnly, ChainsStay}
use Rattle.tdb_space.proofs.Stays.Changes.{changes_none, changes_weaker, changes_then}
use Rattle.tdb_locks.specs.HeldLocks.{HeldLocks}
use Rattle.tdb_locks.specs.declared.piece.Piece.{Piece}
use Rattle.tdb_locks.specs.declared.turn.Reply.{Reply}
use Rattle.tdb_law.specs.Commands as Law
use Rattle.tdb_law.specs.Rows.{map_changed}
use Rattle.tdb_law.specs.Openers.{Map}
use Rattle.tdb_law.specs.MapCommands.{map_changes}
use Rattle.tdb_law.specs.Counting.{raised}
use Rattle.tdb_law.specs.Held.{locked, locked_next}
use Rattle.tdb_law.proofs.Locks.{locked_none}
use Rattle.tdb_steps.specs.declared.plain.Plain.{Plain}
use Rattle.tdb_steps.specs.declared.plain.Plain.TheVariants.{Fetch, Has, Store, Append, Delete, Wipe}
use Rattle.tdb_steps.specs.declared.stage.Stage.{Stage}
use Rattle.tdb_steps.specs.declared.stage.WipeStage.TheVariants as Wipes
use Rattle.tdb_steps.specs.declared.stage.Next.{Next}
use Rattle.tdb_steps.specs.declared.rows.LockRow.{LockRow}
use Rattle.tdb_steps.specs.declared.rows.Rows.{Rows}
use Rattle.tdb_steps.specs.declared.rows.Region.TheVariants.{FreeList}
use Rattle.tdb_locks.specs.declared.kind.Kind.TheVariants.{Write}
use Rattle.tdb_law.specs.Rows.{Lock}
use Rattle.std.proofs.lemmas.Bool.{ne_eqb}
use Rattle.tdb_steps.specs.Stages.{hands_in, is_changed, is_done, MayBeOut, IsIdle, first_stage, locked_stage}
use Rattle.tdb_steps.specs.Asked.{Asked}
use Rattle.tdb_steps.specs.Turns.{number_of, Makes}
use Rattle.tdb_steps.specs.PlainCommands.{key_of, asked_of, command_of, reply_of, turn_of}
use Rattle.tdb_steps.specs.LockRows.{strength_of, locks_in, rows_of, reader_rows, writer_rows, wipe_rows, row_at}
use Rattle.tdb_steps.specs.Holdings.{KeptBeside, HoldsBefore}
use Rattle.tdb_steps.specs.Order.{InOrder, LookOrder, StoreOrder, DeleteOrder, WipeOrder, LookAfter, StoreAfter, DeleteAfter, WipeAfter, IsAfter}
use Rattle.tdb_steps.specs.Machines.{Doing, begun, MapTurned, Counted, WantsRecord, DoingKnows, CommandMakes, CommandStops, CommandRightly, IsOn, MachineTurned, MachineStopped}
use Rattle.tdb_steps.specs.Machines.MachineStopped.{in_call, at_number}
use Rattle.tdb_steps.specs.LockTurns.{LockLed, ActRightly}
use Rattle.tdb_locks.specs.declared.turn.Turn.{Turn}
use Rattle.tdb_locks.specs.declared.turn.Turn.TheVariants as Turns
use Rattle.tdb_chain.specs.declared.place.Place.{Place}
use Rattle.tdb_steps.proofs.Made.{same_made}
use Rattle.tdb_steps.proofs.WipeMade.{wipe_waits}
use Rattle.tdb_space.proofs.Pairs.Maps.{home_below}
use Rattle.tdb_steps.specs.Walks.{WalksKept}
use Rattle.tdb_steps.proofs.Walks.{walks_stay, unmoved_walks}
use Rattle.tdb_steps.proofs.CommandMade.{CommandMade, command_made}
use Rattle.tdb_steps.specs.Machines.MapTurned.{map_waits, map_goes_on, map_changes as map_sets, map_answers, map_starves, map_is_full, map_finishes}
use Rattle.tdb_steps.proofs.Holdings.{want}
use Rattle.tdb_steps.proofs.Cases.{looks_case, takes_case, links_case, unlinks_case}
use Rattle.tdb_steps.proofs.Cases.LooksCase.{look_on, look_ends}
use Rattle.tdb_steps.proofs.Cases.TakesCase.{take_on, take_full, take_starves}
use Rattle.tdb_steps.proofs.Cases.LinksCase.{link_over, link_ends}
use Rattle.tdb_steps.proofs.Cases.UnlinksCase.{unlink_on, unlink_starves}
use Rattle.tdb_steps.proofs.Lawful.{store_changed}
use Rattle.tdb_steps.proofs.Short.{first_wants, wants_on}

-- the lock of the free list, in the row of a change
abbrev free_row : LockRow
free_row = record { turn = 2; region = FreeList; kind = Write }

injected : {A : Type 0} {x y : A} → Some x ≡ Some y → x ≡ y
injected e = cc

stepped : {x y : Stage} → Next.Step x ≡ Next.Step y → x ≡ y
stepped e = cc

small_if : (b : Bool) (s : ℕ) → (if b then s else 0) ≤ s
small_if true s = le_refl s
small_if false s = zero-le

-- the same lock, in the row of a wipe
abbrev wipe_row : LockRow
wipe_row = record { turn = 1; region = FreeList; kind = Write }

-- the turn that takes a lock of a row wants just that, and before it nothing stronger is locked
pub record RowFacts (rows : Rows) (n : ℕ) (r : LockRow) : Type 0 where
  pub next : (b : ℕ) → locked_next (locks_in rows) n b ≡ want r b
  pub low : (b : ℕ) → locked (locks_in rows) n b ≤ strength_of r.kind
  pub beside : (locks : HeldLocks) (kept : ℕ → ℕ) (owner : ℕ) (ps : List Piece) → HoldsBefore locks kept owner n ps rows → KeptBeside locks kept r

first_low : (ls : List Lock) (b s n : ℕ) → n ≡ 0 → locked ls n b ≤ s
first_low ls b s n is = let e : locked ls n b ≡ 0 = ap (λ x. locked ls x b) is ∙ locked_none ls b in omega (arith, e)

max_none : (x : ℕ) → max x 0 ≡ x
max_none x = omega arith

none_max : (x : ℕ) → max 0 (max x 0) ≡ x
none_max x = omega arith

both_low : (x y s : ℕ) → x ≤ s → y ≤ s → max x (max y 0) ≤ s
both_low x y s one two = omega (arith, one, two)

reader_first : (chain n : ℕ) → n ≡ 0 → RowFacts (reader_rows chain) n (reader_rows chain).first
reader_first chain n is = record {
  next = λ b. subst (λ x. locked_next (locks_in (reader_rows chain)) x b ≡ want (reader_rows chain).first b) (sym is) (max_none (want (reader_rows chain).first b));
  low = λ b. first_low (locks_in (reader_rows chain)) b 1 n is;
  beside = λ locks kept owner ps H. H.first;
}

writer_first : (chain n : ℕ) → n ≡ 0 → RowFacts (writer_rows chain) n (writer_rows chain).first
writer_first chain n is = record {
  next = λ b. subst (λ x. locked_next (locks_in (writer_rows chain)) x b ≡ want (writer_rows chain).first b) (sym is) (max_none (want (writer_rows chain).first b));
  low = λ b. first_low (locks_in (writer_rows chain)) b 2 n is;
  beside = λ locks kept owner ps H. H.first;
}

writer_second : (chain n : ℕ) → n ≡ 2 → RowFacts (writer_rows chain) n free_row
writer_second chain n is = record {
  next = λ b. subst (λ x. locked_next (locks_in (writer_rows chain)) x b ≡ want free_row b) (sym is) (none_max (want free_row b));
  low = λ b. both_low _ _ 2 (small_if _ 2) (small_if _ 2);
  beside = λ locks kept owner ps H. H.second;
}

writer_facts : (chain n : ℕ) (r : LockRow) → (n ≡ 0) × (Some (writer_rows chain).first ≡ Some r) ⊎ (n ≡ 2) × (Some free_row ≡ Some r) → RowFacts (writer_rows chain) n r
writer_facts chain n r (inl first) = let e : (writer_rows chain).first ≡ r = injected first.1 in subst (RowFacts (writer_rows chain) n) e (writer_first chain n first.0)
writer_facts chain n r (inr second) = let e : free_row ≡ r = injected second.1 in subst (RowFacts (writer_rows chain) n) e (writer_second chain n second.0)

look_facts : (chain n : ℕ) (stage : Stage) (r : LockRow) → LookAfter stage n → row_at (reader_rows chain) stage ≡ Some r → RowFacts (reader_rows chain) n r
look_facts chain n Stage.Begun r is at = let e : (reader_rows chain).first ≡ r = injected at in subst (RowFacts (reader_rows chain) n) e (reader_first chain n is)
look_facts chain n Stage.Chained r is at = cc
look_facts chain n (Stage.Looked found) r is at = elim is [ ]
look_facts chain n (Stage.Listed found) r is at = elim is [ ]
look_facts chain n (Stage.Taken found hand) r is at = elim is [ ]
look_facts chain n (Stage.Changed hand) r is at = elim is [ ]
look_facts chain n (Stage.Wiping locked) r is at = elim is [ ]
look_facts chain n Stage.Ending r is at = elim is [ ]

store_facts : (chain n : ℕ) (stage : Stage) (r : LockRow) → StoreAfter stage n → row_at (writer_rows chain) stage ≡ Some r → RowFacts (writer_rows chain) n r
store_facts chain n Stage.Begun r is at = writer_facts chain n r (inl (is, at))
store_facts chain n Stage.Chained r is at = cc
store_facts chain n (Stage.Looked found) r is at = writer_facts chain n r (inr (is, at))
store_facts chain n (Stage.Listed found) r is at = cc
store_facts chain n (Stage.Taken found hand) r is at = cc
store_facts chain n (Stage.Changed hand) r is at = cc
store_facts chain n (Stage.Wiping locked) r is at = elim is [ ]
store_facts chain n Stage.Ending r is at = cc

delete_facts : (chain n : ℕ) (stage : Stage) (r : LockRow) → DeleteAfter stage n → row_at (writer_rows chain) stage ≡ Some r → RowFacts (writer_rows chain) n r
delete_facts chain n Stage.Begun r is at = writer_facts chain n r (inl (is, at))
delete_facts chain n Stage.Chained r is at = cc
delete_facts chain n (Stage.Looked found) r is at = writer_facts chain n r (inr (is, at))
delete_facts chain n (Stage.Listed found) r is at = cc
delete_facts chain n (Stage.Taken found hand) r is at = elim is [ ]
delete_facts chain n (Stage.Changed hand) r is at = cc
delete_facts chain n (Stage.Wiping locked) r is at = elim is [ ]
delete_facts chain n Stage.Ending r is at = cc

wipe_first : (n : ℕ) → n ≡ 0 → RowFacts wipe_rows n wipe_rows.first
wipe_first n is = record {
  next = λ b. subst (λ x. locked_next (locks_in wipe_rows) x b ≡ want wipe_rows.first b) (sym is) (max_none (want wipe_rows.first b));
  low = λ b. first_low (locks_in wipe_rows) b 2 n is;
  beside = λ locks kept owner ps H. H.first;
}

wipe_second : (n : ℕ) → n ≡ 1 → RowFacts wipe_rows n wipe_row
wipe_second n is = record {
  next = λ b. subst (λ x. locked_next (locks_in wipe_rows) x b ≡ want wipe_row b) (sym is) (none_max (want wipe_row b));
  low = λ b. both_low _ _ 2 (small_if _ 2) (small_if _ 2);
  beside = λ locks kept owner ps H. H.second;
}

wipe_facts : (n : ℕ) (stage : Stage) (r : LockRow) → WipeAfter stage n → row_at wipe_rows stage ≡ Some r → RowFacts wipe_rows n r
wipe_facts n Stage.Begun r is at = let e : wipe_rows.first ≡ r = injected at in subst (RowFacts wipe_rows n) e (wipe_first n is)
wipe_facts n Stage.Chained r is at = elim is [ ]
wipe_facts n (Stage.Looked found) r is at = elim is [ ]
wipe_facts n (Stage.Listed found) r is at = elim is [ ]
wipe_facts n (Stage.Taken found hand) r is at = elim is [ ]
wipe_facts n (Stage.Changed hand) r is at = elim is [ ]
wipe_facts n (Stage.Wiping Wipes.Records) r is at = let e : wipe_row ≡ r = injected at in subst (RowFacts wipe_rows n) e (wipe_second n is)
wipe_facts n (Stage.Wiping Wipes.FreeList) r is at = cc
wipe_facts n Stage.Ending r is at = cc

pub row_facts : (command : Plain) (chain n : ℕ) (stage : Stage) (r : LockRow) → IsAfter command stage n → row_at (rows_of command chain) stage ≡ Some r → RowFacts (rows_of command chain) n r
row_facts (Fetch k) chain n stage r is at = look_facts chain n stage r is at
row_facts (Has k) chain n stage r is at = look_facts chain n stage r is at
row_facts (Store k v flag) chain n stage r is at = store_facts chain n stage r is at
row_facts (Append k v) chain n stage r is at = store_facts chain n stage r is at
row_facts (Delete k) chain n stage r is at = delete_facts chain n stage r is at
row_facts Wipe chain n stage r is at = wipe_facts n stage r is at

-- any other turn wants nothing
nothing_read : (chain n : ℕ) → n ≡ 1 → (b : ℕ) → locked_next (locks_in (reader_rows chain)) n b ≡ 0
nothing_read chain n is b = subst (λ x. locked_next (locks_in (reader_rows chain)) x b ≡ 0) (sym is) refl

nothing_written : (chain n k : ℕ) → n ≡ k → (k ≡ 1) ⊎ (3 ≤ k) → (b : ℕ) → locked_next (locks_in (writer_rows chain)) n b ≡ 0
nothing_written chain n k is apart b =
    let first : (0 == n) ≡ false = ne_eqb 0 n (λ e. elim apart [ inl one ↦ omega (arith, is, e, one) | inr more ↦ omega (arith, is, e, more) ]) in
    let second : (2 == n) ≡ false = ne_eqb 2 n (λ e. elim apart [ inl one ↦ omega (arith, is, e, one) | inr more ↦ omega (arith, is, e, more) ]) in
    rw (first, second) refl

look_idle : (chain n : ℕ) (stage : Stage) → LookAfter stage n → row_at (reader_rows chain) stage ≡ None → (b : ℕ) → locked_next (locks_in (reader_rows chain)) n b ≡ 0
look_idle chain n Stage.Begun is at b = cc
look_idle chain n Stage.Chained is at b = nothing_read chain n is b
look_idle chain n (Stage.Looked found) is at b = elim is [ ]
look_idle chain n (Stage.Listed found) is at b = elim is [ ]
look_idle chain n (Stage.Taken found hand) is at b = elim is [ ]
look_idle chain n (Stage.Changed hand) is at b = elim is [ ]
look_idle chain n (Stage.Wiping locked) is at b = elim is [ ]
look_idle chain n Stage.Ending is at b = elim is [ ]

store_idle : (chain n : ℕ) (stage : Stage) → StoreAfter stage n → row_at (writer_rows chain) stage ≡ None → (b : ℕ) → locked_next (locks_in (writer_rows chain)) n b ≡ 0
store_idle chain n Stage.Begun is at b = cc
store_idle chain n Stage.Chained is at b = nothing_written chain n 1 is (inl refl) b
store_idle chain n (Stage.Looked found) is at b = cc
store_idle chain n (Stage.Listed found) is at b = nothing_written chain n 3 is (inr (omega arith)) b
store_idle chain n (Stage.Taken found hand) is at b = nothing_written chain n 4 is (inr (omega arith)) b
store_idle chain n (Stage.Changed hand) is at b = nothing_written chain n 5 is (inr (omega arith)) b
store_idle chain n (Stage.Wiping locked) is at b = elim is [ ]
store_idle chain n Stage.Ending (inl is) at b = nothing_written chain n 5 is (inr (omega arith)) b
store_idle chain n Stage.Ending (inr is) at b = nothing_written chain n 6 is (inr (omega arith)) b

delete_idle : (chain n : ℕ) (stage : Stage) → DeleteAfter stage n → row_at (writer_rows chain) stage ≡ None → (b : ℕ) → locked_next (locks_in (writer_rows chain)) n b ≡ 0
delete_idle chain n Stage.Begun is at b = cc
delete_idle chain n Stage.Chained is at b = nothing_written chain n 1 is (inl refl) b
delete_idle chain n (Stage.Looked found) is at b = cc
delete_idle chain n (Stage.Listed found) is at b = nothing_written chain n 3 is (inr (omega arith)) b
delete_idle chain n (Stage.Taken found hand) is at b = elim is [ ]
delete_idle chain n (Stage.Changed hand) is at b = nothing_written chain n 4 is (inr (omega arith)) b
delete_idle chain n (Stage.Wiping locked) is at b = elim is [ ]
delete_idle chain n Stage.Ending is at b = nothing_written chain n 5 is (inr (omega arith)) b

nothing_wiped : (n k : ℕ) → n ≡ k → ((b : ℕ) → locked_next (locks_in wipe_rows) k b ≡ 0) → (b : ℕ) → locked_next (locks_in wipe_rows) n b ≡ 0
nothing_wiped n k is nothing b = subst (λ x. locked_next (locks_in wipe_rows) x b ≡ 0) (sym is) (nothing b)

wipe_idle : (n : ℕ) (stage : Stage) → WipeAfter stage n → row_at wipe_rows stage ≡ None → (b : ℕ) → locked_next (locks_in wipe_rows) n b ≡ 0
wipe_idle n Stage.Begun is at b = cc
wipe_idle n Stage.Chained is at b = elim is [ ]
wipe_idle n (Stage.Looked found) is at b = elim is [ ]
wipe_idle n (Stage.Listed found) is at b = elim is [ ]
wipe_idle n (Stage.Taken found hand) is at b = elim is [ ]
wipe_idle n (Stage.Changed hand) is at b = elim is [ ]
wipe_idle n (Stage.Wiping Wipes.Records) is at b = cc
wipe_idle n (Stage.Wiping Wipes.FreeList) is at b = nothing_wiped n 2 is (λ i. refl) b
wipe_idle n Stage.Ending is at b = nothing_wiped n 3 is (λ i. refl) b

pub row_idle : (command : Plain) (chain n : ℕ) (stage : Stage) → IsAfter command stage n → row_at (rows_of command chain) stage ≡ None → (b : ℕ) → locked_next (locks_in (rows_of command chain)) n b ≡ 0
row_idle (Fetch k) chain n stage is at b = look_idle chain n stage is at b
row_idle (Has k) chain n stage is at b = look_idle chain n stage is at b
row_idle (Store k v flag) chain n stage is at b = store_idle chain n stage is at b
row_idle (Append k v) chain n stage is at b = store_idle chain n stage is at b
row_idle (Delete k) chain n stage is at b = delete_idle chain n stage is at b
row_idle Wipe chain n stage is at b = wipe_idle n stage is at b

-- the steps that a command has had after a turn that leads on
look_after : (n : ℕ) (stage onto : Stage) → LookAfter stage n → LookOrder stage (Next.Step onto) → LookAfter onto (n + 1)
look_after n Stage.Begun onto is order = let e : Stage.Chained ≡ onto = sym (stepped order) in subst (λ x. LookAfter x (n + 1)) e (ap (λ k. k + 1) is)
look_after n Stage.Chained onto is order = elim order [ ]
look_after n (Stage.Looked found) onto is order = elim is [ ]
look_after n (Stage.Listed found) onto is order = elim is [ ]
look_after n (Stage.Taken found hand) onto is order = elim is [ ]
look_after n (Stage.Changed hand) onto is order = elim is [ ]
look_after n (Stage.Wiping locked) onto is order = elim is [ ]
look_after n Stage.Ending onto is order = elim is [ ]

store_after : (n : ℕ) (stage onto : Stage) → StoreAfter stage n → StoreOrder stage (Next.Step onto) → StoreAfter onto (n + 1)
store_after n Stage.Begun onto is order = subst (λ x. StoreAfter x (n + 1)) (sym (stepped order)) (ap (λ k. k + 1) is)
store_after n Stage.Chained onto is order = elim (looks_case (Next.Step onto) order) [ look_on found led ↦ subst (λ x. StoreAfter x (n + 1)) (sym (stepped led)) (ap (λ k. k + 1) is) | look_ends r led never ↦ cc ]
store_after n (Stage.Looked found) onto is order = subst (λ x. StoreAfter x (n + 1)) (sym (stepped order)) (ap (λ k. k + 1) is)
store_after n (Stage.Listed found) onto is order = elim (takes_case (Next.Step onto) order) [ take_on place hand led ↦ subst (λ x. StoreAfter x (n + 1)) (sym (stepped led)) (ap (λ k. k + 1) is) | take_full len need led ↦ cc | take_starves led ↦ cc ]
store_after n (Stage.Taken found hand) onto is order = elim (links_case (Next.Step onto) order) [ link_over old led ↦ subst (λ x. StoreAfter x (n + 1)) (sym (stepped led)) (ap (λ k. k + 1) is) | link_ends led ↦ subst (λ x. StoreAfter x (n + 1)) (sym (stepped led)) (inl (ap (λ k. k + 1) is)) ]
store_after n (Stage.Changed hand) onto is order = subst (λ x. StoreAfter x (n + 1)) (sym (stepped order)) (inr (ap (λ k. k + 1) is))
store_after n (Stage.Wiping locked) onto is order = elim is [ ]
store_after n Stage.Ending onto is order = cc

delete_after : (n : ℕ) (stage onto : Stage) → DeleteAfter stage n → DeleteOrder stage (Next.Step onto) → DeleteAfter onto (n + 1)
delete_after n Stage.Begun onto is order = subst (λ x. DeleteAfter x (n + 1)) (sym (stepped order)) (ap (λ k. k + 1) is)
delete_after n Stage.Chained onto is order = elim (looks_case (Next.Step onto) order) [ look_on found led ↦ subst (λ x. DeleteAfter x (n + 1)) (sym (stepped led)) (ap (λ k. k + 1) is) | look_ends r led never ↦ cc ]
delete_after n (Stage.Looked found) onto is order = subst (λ x. DeleteAfter x (n + 1)) (sym (stepped order)) (ap (λ k. k + 1) is)
delete_after n (Stage.Listed found) onto is order = elim (unlinks_case (Next.Step onto) order) [ unlink_on hand led ↦ subst (λ x. DeleteAfter x (n + 1)) (sym (stepped led)) (ap (λ k. k + 1) is) | unlink_starves led ↦ cc ]
delete_after n (Stage.Taken found hand) onto is order = elim is [ ]
delete_after n (Stage.Changed hand) onto is order = subst (λ x. DeleteAfter x (n + 1)) (sym (stepped order)) (ap (λ k. k + 1) is)
delete_after n (Stage.Wiping locked) onto is order = elim is [ ]
delete_after n Stage.Ending onto is order = cc

wipe_after : (n : ℕ) (stage onto : Stage) → WipeAfter stage n → WipeOrder stage (Next.Step onto) → WipeAfter onto (n + 1)
wipe_after n Stage.Begun onto is order = subst (λ x. WipeAfter x (n + 1)) (sym (stepped order)) (ap (λ k. k + 1) is)
wipe_after n Stage.Chained onto is order = elim is [ ]
wipe_after n (Stage.Looked found) onto is order = elim is [ ]
wipe_after n (Stage.Listed found) onto is order = elim is [ ]
wipe_after n (Stage.Taken found hand) onto is order = elim is [ ]
wipe_after n (Stage.Changed hand) onto is order = elim is [ ]
wipe_after n (Stage.Wiping Wipes.Records) onto is order = subst (λ x. WipeAfter x (n + 1)) (sym (stepped order)) (ap (λ k. k + 1) is)
wipe_after n (Stage.Wiping Wipes.FreeList) onto is order = elim order [ inl led ↦ subst (λ x. WipeAfter x (n + 1)) (sym (stepped led)) (ap (λ k. k + 1) is) | inr starved ↦ cc ]
wipe_after n Stage.Ending onto is order = cc

pub next_after : (command : Plain) (n : ℕ) (stage onto : Stage) → IsAfter command stage n → InOrder command stage (Next.Step onto) → IsAfter command onto (n + 1)
next_after (Fetch k) n stage onto is order = look_after n stage onto is order
next_after (Has k) n stage onto is order = look_after n stage onto is order
next_after (Store k v flag) n stage onto is order = store_after n stage onto is order
next_after (Append k v) n stage onto is order = store_after n stage onto is order
next_after (Delete k) n stage onto is order = delete_after n stage onto is order
next_after Wipe n stage onto is order = wipe_after n stage onto is order

-- a command that has had no turn knows nothing of an image
begun_knows : (f : Form) (b : List ℕ) (command : Plain) (chain : ℕ) (seqnum : Bool) → DoingKnows f b (begun command chain seqnum)
begun_knows f b command chain seqnum = record { found = tt; joined = λ key value is. tt; wants = tt }

-- the map and the number of an image in which the number was raised
moved_map : (f : Form) (b x : List ℕ) (c : Law.MapCommand) (n : ℕ) (m : Map) (turn : Law.Turn) → ((key : List ℕ) → map_of f x key ≡ map_of f b key) → MapTurned f b c n m turn → MapTurned f x c n m turn
moved_map f b x c n m turn same (map_waits o byte is before M) = map_waits o byte is before (λ k. M k ∙ sym (same k))
moved_map f b x c n m turn same (map_goes_on is stays M) = map_goes_on is stays (λ k. M k ∙ sym (same k))
moved_map f b x c n m turn same (map_sets is late before after done M) = map_sets is late before after done (λ k. M k ∙ sym (same k))
moved_map f b x c n m turn same (map_answers r is late before says M) = map_answers r is late before says (λ k. M k ∙ sym (same k))
moved_map f b x c n m turn same (map_starves is before M) = map_starves is before (λ k. M k ∙ sym (same k))
moved_map f b x c n m turn same (map_is_full len need is fills late before done M) = map_is_full len need is fills late before done (λ k. M k ∙ sym (same k))
moved_map f b x c n m turn same (map_finishes is after M) = map_finishes is after (λ k. M k ∙ sym (same k))

-- a reply that a world calls done is Ok
pub done_alike : (r : Reply) → is_done r ≡ Law.is_done (reply_of r)
done_alike Reply.Ok = refl
done_alike (Reply.Value v) = refl
done_alike (Reply.Pair k v) = refl
done_alike Reply.End = refl
done_alike Reply.KeyMissing = refl
done_alike Reply.KeyThere = refl
done_alike (Reply.Busy o b) = refl
done_alike Reply.ReadOnly = refl
done_alike Reply.NoTransaction = refl
done_alike Reply.InTransaction = refl
done_alike Reply.Nesting = refl
done_alike Reply.Doomed = refl
done_alike (Reply.HeldLocks n) = refl
done_alike Reply.NotLocked = refl
done_alike (Reply.Full len need) = refl
done_alike Reply.Memory = refl
done_alike Reply.Yes = refl
done_alike Reply.No = refl
done_alike (Reply.Number n) = refl

-- a turn without a lock, that led on or ended
module _ (f : Form) (a m b : List ℕ) (command : Plain) (chain : ℕ) (seqnum : Bool) (n : ℕ) (stage : Stage) (was whole : Option (List ℕ)) (others : List HandPair) where
  abbrev Was : Doing
  Was = record { command = command; chain = chain; seqnum = seqnum; stage = stage; whole = was }

  pub stepped_on : (onto : Stage) → CommandMade f a m command whole n stage (Next.Step onto) others → WantsRecord f m command onto
      → MachineTurned f a m Was (record { command = command; chain = chain; seqnum = seqnum; stage = onto; whole = whole }) n Law.Turn.Step others
  stepped_on onto T wants = record { accepted = T.accepted; knows = record { found = T.knows; joined = T.joined; wants = wants }; only = T.only; map = T.map; number = T.number; walks = T.walks }

  pub ended_so : (r : Reply) → CommandMade f a m command whole n stage (Next.Done r) others → Counted f m b (is_done r && (map_changes (command_of command) && seqnum)) others
      → MachineTurned f a b Was (begun command chain seqnum) n (Law.Turn.Ends (reply_of r)) others
  ended_so r T C = record {
    accepted = C.stay.accepted;
    knows = begun_knows f b command chain seqnum;
    only = changes_then f a m b (λ k. IsOn f command k × (1 ≤ n)) T.only (changes_weaker f m b (λ k. ⊥) (λ k. IsOn f command k × (1 ≤ n)) (λ k never. absurd never) C.stay.only);
    map = λ p M. moved_map f m b (command_of command) n p (Law.Turn.Ends (reply_of r)) C.stay.map (T.map p M);
    number = C.number ∙ ap (raised (is_done r && (map_changes (command_of command) && seqnum))) T.number ∙ ap (λ d. raised (d && (map_changes (command_of command) && seqnum)) (number_of f a)) (done_alike r);
    walks = λ on stands stood spares. subst (WalksKept f a b (key_of command) stands (is_changed stage)) (done_alike r)
        (walks_stay f a m b (key_of command) stands (is_changed stage) (is_done r) others others T.accepted C.stay (home_below f (key_of command) T.accepted.some) (T.walks on stands stood tt));
  }

-- a turn of a machine, whose stage and joined bytes were taken out for it and put back after it, goes on rightly
module _ (f : Form) (a b : List ℕ) (command : Plain) (chain : ℕ) (seqnum : Bool) (stage taken : Stage) (was out : Option (List ℕ)) (limit : ℕ) (stood_on : List ℕ) (led : Next) (d e : Doing) (before : d ≡ record { command = command; chain = chain; seqnum = seqnum; stage = stage; whole = was }) (stage_out : taken ≡ stage) (whole_out : out ≡ was) (rightly : CommandRightly f a b command out limit stood_on taken led) where
  pub right_so : (next : Next) → led ≡ next → CommandRightly f a b command was limit stood_on stage next
  right_so next on = subst (λ x. CommandRightly f a b command was limit stood_on x next) stage_out (subst (λ w. CommandRightly f a b command w limit stood_on taken next) whole_out (subst (CommandRightly f a b command out limit stood_on taken) on rightly))

  pub rightly_stepped : (onto : Stage) → led ≡ Next.Step onto → e.stage ≡ onto → ActRightly f a b d e limit stood_on Turns.Step
  rightly_stepped onto on now = subst (λ x. ActRightly f a b x e limit stood_on Turns.Step) (sym before) (right_so (Next.Step e.stage) (on ∙ ap Next.Step (sym now)))

  pub rightly_ended : (r : Reply) → led ≡ Next.Done r → ActRightly f a b d e limit stood_on (Turns.Done r)
  rightly_ended r on = subst (λ x. ActRightly f a b x e limit stood_on (Turns.Done r)) (sym before) (right_so (Next.Done r) on)

-- and it makes of an image what the command does, and the number is raised
module _ (f : Form) (a m : List ℕ) (command : Plain) (chain : ℕ) (seqnum : Bool) (n : ℕ) (stage taken : Stage) (was out whole : Option (List ℕ)) (led : Next) (d e : Doing) (others : List HandPair) (before : d ≡ record { command = command; chain = chain; seqnum = seqnum; stage = stage; whole = was }) (stage_out : taken ≡ stage) (whole_out : out ≡ was) (order : InOrder command taken led) (made : CommandMakes f a m command out whole taken led) where
  -- what the turn from a stage makes of a machine, given what is so before it
  abbrev From : List ℕ → Doing → Doing → Law.Turn → Type 0
  From b x y turn = IsAfter x.command x.stage n → MayBeOut x.stage others → AcceptWith f a (hands_in x.stage ++ others) → DoingKnows f a x → MachineTurned f a b x y n turn others

  ordered : (next : Next) → led ≡ next → InOrder command stage next
  ordered next on = subst (λ x. InOrder command x next) stage_out (subst (InOrder command taken) on order)

  makes_so : (next : Next) → led ≡ next → CommandMakes f a m command was whole stage next
  makes_so next on = subst (λ x. CommandMakes f a m command was whole x next) stage_out (subst (λ w. CommandMakes f a m command w whole taken next) whole_out (subst (CommandMakes f a m command out whole taken) on made))

  turned_so : (next : Next) → led ≡ next → IsAfter command stage n → MayBeOut stage others → AcceptWith f a (hands_in stage ++ others) → DoingKnows f a (record { command = command; chain = chain; seqnum = seqnum; stage = stage; whole = was }) → CommandMade f a m command whole n stage next others
  turned_so next on is may A K = command_made command f a m was whole n stage next others is (ordered next on) may A K.found K.joined (makes_so next on)

  pub act_stepped : (limit : ℕ) (stood_on : List ℕ) → CommandRightly f a m command out limit stood_on taken led → (onto : Stage) → led ≡ Next.Step onto → e ≡ record { command = command; chain = chain; seqnum = seqnum; stage = onto; whole = whole }
      → From m d e Law.Turn.Step
  act_stepped limit stood_on rightly onto on now =
      subst (λ x. From m x e Law.Turn.Step) (sym before)
      (subst (λ y. From m (record { command = command; chain = chain; seqnum = seqnum; stage = stage; whole = was }) y Law.Turn.Step) (sym now)
      (λ is may A K. stepped_on f a m m command chain seqnum n stage was whole others onto (turned_so (Next.Step onto) on is may A K)
      (wants_on f a m limit stood_on others command was whole stage onto (ordered (Next.Step onto) on) A K.found K.joined (makes_so (Next.Step onto) on)
      (right_so f a m command chain seqnum stage taken was out limit stood_on led d e before stage_out whole_out rightly (Next.Step onto) on) K.wants)))

  pub act_ended : (b : List ℕ) (r : Reply) → led ≡ Next.Done r → e ≡ begun command chain seqnum
      → ((hands : List HandPair) → AcceptWith f m hands → Counted f m b (is_done r && (map_changes (command_of command) && seqnum)) hands) → From b d e (Law.Turn.Ends (reply_of r))
  act_ended b r on now counted =
      subst (λ x. From b x e (Law.Turn.Ends (reply_of r))) (sym before)
      (subst (λ y. From b (record { command = command; chain = chain; seqnum = seqnum; stage = stage; whole = was }) y (Law.Turn.Ends (reply_of r))) (sym now)
      (λ is may A K. let T = turned_so (Next.Done r) on is may A K in ended_so f a m b command chain seqnum n stage was whole others r T (counted others T.accepted)))

  -- the turn was done, and the number couldn't be raised
  pub act_halted : (b : List ℕ) (r : Reply) → led ≡ Next.Done r → ((hands : List HandPair) → AcceptWith f m hands → ChainsStay f m b hands)
      → IsAfter d.command d.stage n → MayBeOut d.stage others → AcceptWith f a (hands_in d.stage ++ others) → DoingKnows f a d → MachineStopped f a b d n others
  act_halted b r on stays =
      subst (λ x. IsAfter x.command x.stage n → MayBeOut x.stage others → AcceptWith f a (hands_in x.stage ++ others) → DoingKnows f a x → MachineStopped f a b x n others) (sym before)
      (λ is may A K.
      (let T = turned_so (Next.Done r) on is may A K in
      let C = stays others T.accepted in
      at_number (reply_of r) (record {
        accepted = C.accepted;
        only = changes_then f a m b (λ k. IsOn f command k × (1 ≤ n)) T.only (changes_weaker f m b (λ k. ⊥) (λ k. IsOn f command k × (1 ≤ n)) (λ k never. absurd never) C.only);
        map = λ p M. moved_map f m b (command_of command) n p (Law.Turn.Ends (reply_of r)) C.map (T.map p M);
      })))

-- the turn of a command failed, whose stage was taken out for it
pub act_broke : (f : Form) (a b : List ℕ) (command : Plain) (chain : ℕ) (seqnum : Bool) (n : ℕ) (stage taken : Stage) (was : Option (List ℕ)) (d : Doing) (others : List HandPair)
    → d ≡ record { command = command; chain = chain; seqnum = seqnum; stage = stage; whole = was } → taken ≡ stage → CommandStops f a b command taken
    → MayBeOut d.stage others → AcceptWith f a (hands_in d.stage ++ others) → DoingKnows f a d → MachineStopped f a b d n others
act_broke f a b command chain seqnum n stage taken was d others before out stops =
    subst (λ x. MayBeOut x.stage others → AcceptWith f a (hands_in x.stage ++ others) → DoingKnows f a x → MachineStopped f a b x n others) (sym before)
    (λ may A K. in_call (subst (CommandStops f a b command) out stops others may A K.found))

-- the stages from which a turn takes a lock
pub data LockStage (stage : Stage) : Type 0 where
  lock_first : stage ≡ Stage.Begun → LockStage stage
  lock_second : (found : Option Place) → stage ≡ Stage.Looked found → LockStage stage
  lock_both : stage ≡ Stage.Wiping Wipes.Records → LockStage stage

pub lock_stage : (rows : Rows) (stage : Stage) (r : LockRow) → row_at rows stage ≡ Some r → LockStage stage
lock_stage rows Stage.Begun r at = lock_first refl
lock_stage rows Stage.Chained r at = cc
lock_stage rows (Stage.Looked found) r at = lock_second found refl
lock_stage rows (Stage.Listed found) r at = cc
lock_stage rows (Stage.Taken found hand) r at = cc
lock_stage rows (Stage.Changed hand) r at = cc
lock_stage rows (Stage.Wiping Wipes.Records) r at = lock_both refl
lock_stage rows (Stage.Wiping Wipes.FreeList) r at = cc
lock_stage rows Stage.Ending r at = cc

-- these turns are idle
pub locks_idle : (stage : Stage) → LockStage stage → IsIdle stage
locks_idle stage (lock_first at) = subst IsIdle (sym at) tt
locks_idle stage (lock_second found at) = subst IsIdle (sym at) tt
locks_idle stage (lock_both at) = subst IsIdle (sym at) tt

-- before them nothing is changed
begun_unchanged : (command : Plain) (n : ℕ) → IsAfter command Stage.Begun n → map_changed (command_of command) n ≡ false
begun_unchanged (Fetch k) n is = refl
begun_unchanged (Has k) n is = refl
begun_unchanged (Store k v flag) n is = store_changed flag k v n ∙ ap (nat_le 5) is
begun_unchanged (Append k v) n is = ap (nat_le 5) is
begun_unchanged (Delete k) n is = ap (nat_le 4) is
begun_unchanged Wipe n is = ap (nat_le 3) is

looked_unchanged : (command : Plain) (n : ℕ) (found : Option Place) → IsAfter command (Stage.Looked found) n → map_changed (command_of command) n ≡ false
looked_unchanged (Fetch k) n found is = refl
looked_unchanged (Has k) n found is = refl
looked_unchanged (Store k v flag) n found is = store_changed flag k v n ∙ ap (nat_le 5) is
looked_unchanged (Append k v) n found is = ap (nat_le 5) is
looked_unchanged (Delete k) n found is = ap (nat_le 4) is
looked_unchanged Wipe n found is = elim is [ ]

wiping_unchanged : (command : Plain) (n : ℕ) → IsAfter command (Stage.Wiping Wipes.Records) n → map_changed (command_of command) n ≡ false
wiping_unchanged (Fetch k) n is = elim is [ ]
wiping_unchanged (Has k) n is = elim is [ ]
wiping_unchanged (Store k v flag) n is = elim is [ ]
wiping_unchanged (Append k v) n is = elim is [ ]
wiping_unchanged (Delete k) n is = elim is [ ]
wiping_unchanged Wipe n is = ap (nat_le 3) is

pub begun_order : (command : Plain) → InOrder command Stage.Begun (Next.Step (first_stage command))
begun_order (Fetch k) = refl
begun_order (Has k) = refl
begun_order (Store k v flag) = refl
begun_order (Append k v) = refl
begun_order (Delete k) = refl
begun_order Wipe = refl

pub looked_order : (command : Plain) (n : ℕ) (found : Option Place) → IsAfter command (Stage.Looked found) n → InOrder command (Stage.Looked found) (Next.Step (Stage.Listed found))
looked_order (Fetch k) n found is = elim is [ ]
looked_order (Has k) n found is = elim is [ ]
looked_order (Store k v flag) n found is = refl
looked_order (Append k v) n found is = refl
looked_order (Delete k) n found is = refl
looked_order Wipe n found is = elim is [ ]

pub wiping_order : (command : Plain) (n : ℕ) → IsAfter command (Stage.Wiping Wipes.Records) n → InOrder command (Stage.Wiping Wipes.Records) (Next.Step (Stage.Wiping Wipes.FreeList))
wiping_order (Fetch k) n is = elim is [ ]
wiping_order (Has k) n is = elim is [ ]
wiping_order (Store k v flag) n is = elim is [ ]
wiping_order (Append k v) n is = elim is [ ]
wiping_order (Delete k) n is = elim is [ ]
wiping_order Wipe n is = refl

-- they make nothing of an image
module _ (f : Form) (a : List ℕ) where
  first_makes : (key : List ℕ) (asked : Asked) → Makes f a a key asked Stage.Begun (Next.Step Stage.Chained)
  first_makes key asked others A K = same_made f a a key asked Stage.Begun (Next.Step Stage.Chained) others refl A refl tt tt

  begun_makes : (command : Plain) (whole : Option (List ℕ)) → CommandMakes f a a command whole whole Stage.Begun (Next.Step (first_stage command))
  begun_makes (Fetch k) whole = first_makes k (asked_of (Fetch k))
  begun_makes (Has k) whole = first_makes k (asked_of (Has k))
  begun_makes (Store k v flag) whole = first_makes k (asked_of (Store k v flag))
  begun_makes (Append k v) whole = λ others A K J. record { made = first_makes k (asked_of (Append k v)) others A K; has_joined = tt }
  begun_makes (Delete k) whole = first_makes k (asked_of (Delete k))
  begun_makes Wipe whole = λ others may A. wipe_waits f a Stage.Begun (Next.Step (Stage.Wiping Wipes.Records)) others A refl

  second_makes : (key : List ℕ) (asked : Asked) (found : Option Place) → Makes f a a key asked (Stage.Looked found) (Next.Step (Stage.Listed found))
  second_makes key asked found others A K = same_made f a a key asked (Stage.Looked found) (Next.Step (Stage.Listed found)) others refl A refl K tt

  looked_makes : (command : Plain) (whole : Option (List ℕ)) (n : ℕ) (found : Option Place) → IsAfter command (Stage.Looked found) n → CommandMakes f a a command whole whole (Stage.Looked found) (Next.Step (Stage.Listed found))
  looked_makes (Fetch k) whole n found is = second_makes k (asked_of (Fetch k)) found
  looked_makes (Has k) whole n found is = second_makes k (asked_of (Has k)) found
  looked_makes (Store k v flag) whole n found is = second_makes k (asked_of (Store k v flag)) found
  looked_makes (Append k v) whole n found is = λ others A K J. record { made = second_makes k (asked_of (Append k v)) found others A K; has_joined = J }
  looked_makes (Delete k) whole n found is = second_makes k (asked_of (Delete k)) found
  looked_makes Wipe whole n found is = elim is [ ]

  wiping_makes : (command : Plain) (whole : Option (List ℕ)) (n : ℕ) → IsAfter command (Stage.Wiping Wipes.Records) n → CommandMakes f a a command whole whole (Stage.Wiping Wipes.Records) (Next.Step (Stage.Wiping Wipes.FreeList))
  wiping_makes (Fetch k) whole n is = elim is [ ]
  wiping_makes (Has k) whole n is = elim is [ ]
  wiping_makes (Store k v flag) whole n is = elim is [ ]
  wiping_makes (Append k v) whole n is = elim is [ ]
  wiping_makes (Delete k) whole n is = elim is [ ]
  wiping_makes Wipe whole n is = λ others may A. wipe_waits f a (Stage.Wiping Wipes.Records) (Next.Step (Stage.Wiping Wipes.FreeList)) others A refl

-- a turn that takes a lock, over an image that stays
module _ (f : Form) (a : List ℕ) (command : Plain) (chain : ℕ) (seqnum : Bool) (n : ℕ) (whole : Option (List ℕ)) (others : List HandPair) where
  abbrev At : Stage → Doing
  At x = record { command = command; chain = chain; seqnum = seqnum; stage = x; whole = whole }

  abbrev Led : Stage → Type 0
  Led x = IsAfter command x n → AcceptWith f a (hands_in x ++ others) → DoingKnows f a (At x) → MachineTurned f a a (At x) (At (locked_stage command x)) n Law.Turn.Step others

  led : (stage : Stage) → LockStage stage → Led stage
  led stage (lock_first at) = subst Led (sym at) (λ is A K. stepped_on f a a a command chain seqnum n Stage.Begun whole whole others (first_stage command)
      (command_made command f a a whole whole n Stage.Begun (Next.Step (first_stage command)) others is (begun_order command) tt A K.found K.joined (begun_makes f a command whole)) (first_wants f a command))
  led stage (lock_second found at) = subst Led (sym at) (λ is A K. stepped_on f a a a command chain seqnum n (Stage.Looked found) whole whole others (Stage.Listed found)
      (command_made command f a a whole whole n (Stage.Looked found) (Next.Step (Stage.Listed found)) others is (looked_order command n found is) tt A K.found K.joined (looked_makes f a command whole n found is)) K.wants)
  led stage (lock_both at) = subst Led (sym at) (λ is A K. stepped_on f a a a command chain seqnum n (Stage.Wiping Wipes.Records) whole whole others (Stage.Wiping Wipes.FreeList)
      (command_made command f a a whole whole n (Stage.Wiping Wipes.Records) (Next.Step (Stage.Wiping Wipes.FreeList)) others is (wiping_order command n is) tt A K.found K.joined (wiping_makes f a command whole n is)) tt)

  unchanged : (stage : Stage) → LockStage stage → IsAfter command stage n → map_changed (command_of command) n ≡ false
  unchanged stage (lock_first at) is = begun_unchanged command n (subst (λ x. IsAfter command x n) at is)
  unchanged stage (lock_second found at) is = looked_unchanged command n found (subst (λ x. IsAfter command x n) at is)
  unchanged stage (lock_both at) is = wiping_unchanged command n (subst (λ x. IsAfter command x n) at is)

  no_hands : (stage : Stage) → LockStage stage → hands_in stage ≡ []
  no_hands stage (lock_first at) = ap hands_in at
  no_hands stage (lock_second found at) = ap hands_in at
  no_hands stage (lock_both at) = ap hands_in at

  not_changed : (stage : Stage) → LockStage stage → is_changed stage ≡ false
  not_changed stage (lock_first at) = ap is_changed at
  not_changed stage (lock_second found at) = ap is_changed at
  not_changed stage (lock_both at) = ap is_changed at

  same_only : ChangesOnly f a a (λ k. IsOn f command k × (1 ≤ n))
  same_only = changes_none f a (λ k. IsOn f command k × (1 ≤ n))

  -- whatever it comes to
  pub lock_turned : (stage : Stage) (e : Doing) (turn : Turn) (locks : HeldLocks) (owner : ℕ) (old new : List Piece) (rows : Rows) (r : LockRow) → row_at rows stage ≡ Some r
      → LockLed locks owner old new rows r (At stage) e turn → IsAfter command stage n → AcceptWith f a (hands_in stage ++ others) → DoingKnows f a (At stage)
      → MachineTurned f a a (At stage) e n (turn_of turn) others
  lock_turned stage e Turns.Step locks owner old new rows r at L is A K = subst (λ x. MachineTurned f a a (At stage) x n Law.Turn.Step others) (sym L.0) (led stage (lock_stage rows stage r at) is A K)
  lock_turned stage e (Turns.Blocked other byte) locks owner old new rows r at L is A K =
      subst (λ x. MachineTurned f a a (At stage) x n (Law.Turn.Blocked other byte) others) (sym L.0)
      (record {
        accepted = A;
        knows = K;
        only = same_only;
        map = λ m M. map_waits other byte refl (unchanged stage (lock_stage rows stage r at) is) M;
        number = refl;
        walks = λ on stands stood spares. unmoved_walks f a (key_of command) stands (is_changed stage) (is_changed stage) refl;
      })
  lock_turned stage e (Turns.Done reply) locks owner old new rows r at L is A K =
      subst (λ x. MachineTurned f a a (At stage) x n (Law.Turn.Ends (reply_of reply)) others) (sym L.1)
      (subst (λ q. MachineTurned f a a (At stage) (begun command chain seqnum) n (Law.Turn.Ends (reply_of q)) others) (sym L.0)
      (record {
        accepted = subst (λ h. AcceptWith f a (h ++ others)) (no_hands stage (lock_stage rows stage r at)) A;
        knows = begun_knows f a command chain seqnum;
        only = same_only;
        map = λ m M. map_starves refl (unchanged stage (lock_stage rows stage r at) is) M;
        number = refl;
        walks = λ on stands stood spares. unmoved_walks f a (key_of command) stands (is_changed stage) false (sym (not_changed stage (lock_stage rows stage r at)));
      }))
