-- The turns of a plain command one after the other, where nothing comes between them.
use Rattle.std.proofs.Common.{◌≡◌, ℕ, ◌+◌, ◌≤◌, List, [], ◌++◌, Bool, true, false, refl, sym, ◌∙◌, ap, subst, arith}
use Rattle.std.specs.Prelude.{◌&&◌}
use Rattle.tdb_space.specs.Form.{Form}
use Rattle.tdb_space.specs.Accepted.{AcceptWith}
use Rattle.tdb_space.specs.Stays.{ChangesOnly}
use Rattle.tdb_space.proofs.Stays.Changes.{changes_none, changes_weaker, changes_then}
use Rattle.tdb_law.specs.Commands.{MapCommand, Reply, is_done}
use Rattle.tdb_law.specs.Commands.MapCommand.{Fetch, Has, Delete, Store, Insert, Modify, Append, Wipe, Check}
use Rattle.tdb_law.specs.Commands.Reply.{Done, Full, Memory}
use Rattle.tdb_law.specs.Commands.Turn.{Step, Ends}
use Rattle.tdb_law.specs.Openers.{Map}
use Rattle.tdb_law.specs.MapCommands.{reply, after, map_changes as may_change}
use Rattle.tdb_law.specs.Counting.{raised}
use Rattle.tdb_law.specs.Ends.{map_last}
use Rattle.tdb_law.specs.Rows.{map_changed}
use Rattle.tdb_law.specs.Images.{image_map}
use Rattle.tdb_law.proofs.Maps.{maps_equal}
use Rattle.tdb_law.proofs.HandsOut.{image_answers}
use Rattle.tdb_locks.specs.HeldLocks.{HeldLocks}
use Rattle.tdb_locks.specs.declared.piece.Piece.{Piece}
use Rattle.tdb_locks.specs.declared.turn.Turn.{Turn}
use Rattle.tdb_locks.specs.declared.turn.Turn.TheVariants as Turns
use Rattle.tdb_steps.specs.declared.plain.Plain.{Plain}
use Rattle.tdb_steps.specs.declared.plain.Plain.TheVariants as Plains
use Rattle.tdb_steps.specs.declared.rows.LockRow.{LockRow}
use Rattle.tdb_steps.specs.declared.rows.Rows.{Rows}
use Rattle.tdb_steps.specs.declared.stage.Stage.{Stage}
use Rattle.tdb_steps.specs.declared.stage.Stage.TheVariants as Stages
use Rattle.tdb_steps.specs.declared.stage.WipeStage.TheVariants.{Records, FreeList}
use Rattle.tdb_steps.specs.Stages.{hands_in, MayBeOut}
use Rattle.tdb_steps.specs.LockTurns.{LockLed}
use Rattle.tdb_steps.specs.Order.{IsAfter}
use Rattle.tdb_steps.specs.Turns.{number_of}
use Rattle.tdb_steps.specs.PlainCommands.{IsMapOf, command_of}
use Rattle.tdb_steps.specs.Machines.{Doing, begun, DoingKnows, Leaves, MachineTurned, MapTurned}
use Rattle.tdb_steps.specs.Machines.MapTurned.{map_waits, map_goes_on, map_changes, map_answers, map_starves, map_is_full, map_finishes}
use Rattle.tdb_steps.proofs.Made.{not_both}
use Rattle.tdb_txn_turns.specs.InsideTxn.Done.{MapDone, ImageDone}
use Rattle.tdb_txn_turns.specs.InsideTxn.Done.MapDone.{answers, starves, is_full}

-- the map of an image so far, by whether the change of a command on map m is made
abbrev pub MapSoFar : Bool → Form → List ℕ → MapCommand → Map → Type 0
MapSoFar true f b c m = (reply c m ≡ Done) × IsMapOf f b (after c m)
MapSoFar false f b c m = IsMapOf f b m

-- So many steps of a command have led from image a to image b, and it is where these steps have brought it.
pub record Progress (f : Form) (a b : List ℕ) (c : Plain) (d : Doing) (n : ℕ) : Type 0 where
  pub accepted : AcceptWith f b (hands_in d.stage ++ [])
  pub knows : DoingKnows f b d
  pub only : ChangesOnly f a b (λ k. Unit {0})
  pub number : number_of f b ≡ number_of f a
  pub map : MapSoFar (map_changed (command_of c) n) f b (command_of c) (image_map f a)

-- a machine is one of this command, which counts so, after so many steps
pub record IsOf (c : Plain) (counting : Bool) (d : Doing) (n : ℕ) : Type 0 where
  pub command : d.command ≡ c
  pub counts : d.seqnum ≡ counting
  pub after : IsAfter d.command d.stage n

-- no hand of another command is out
pub none_out : (stage : Stage) → MayBeOut stage []
none_out Stages.Begun = tt
none_out Stages.Chained = tt
none_out (Stages.Looked found) = tt
none_out (Stages.Listed found) = tt
none_out (Stages.Taken found hand) = tt
none_out (Stages.Changed hand) = tt
none_out (Stages.Wiping Records) = tt
none_out (Stages.Wiping FreeList) = refl
none_out Stages.Ending = tt

-- a command has at most six steps
pub last_few : (c : MapCommand) → map_last c ≤ 6
last_few (Fetch k) = omega arith
last_few (Has k) = omega arith
last_few (Delete k) = omega arith
last_few (Store k v) = omega arith
last_few (Insert k v) = omega arith
last_few (Modify k v) = omega arith
last_few (Append k v) = omega arith
last_few Wipe = omega arith
last_few Check = omega arith

-- no change is made before the first
unchanged : (c : MapCommand) → map_changed c 0 ≡ false
unchanged (Fetch k) = refl
unchanged (Has k) = refl
unchanged (Delete k) = refl
unchanged (Store k v) = refl
unchanged (Insert k v) = refl
unchanged (Modify k v) = refl
unchanged (Append k v) = refl
unchanged Wipe = refl
unchanged Check = refl

ends_is : (r s : Reply) → Ends r ≡ Ends s → r ≡ s
ends_is r s e = cc

module _ (f : Form) (b : List ℕ) (c : MapCommand) (n : ℕ) (m : Map) where
  -- a step from before the change
  step_before : map_changed c n ≡ false → MapTurned f b c n m Step → MapSoFar (map_changed c (n + 1)) f b c m
  step_before e (map_waits o byte t was M) = absurd (cc t)
  step_before e (map_goes_on t same M) = subst (λ p. MapSoFar p f b c m) (sym (same ∙ e)) M
  step_before e (map_changes t late was now done M) = subst (λ p. MapSoFar p f b c m) (sym now) (done, M)
  step_before e (map_answers r t late was says M) = absurd (cc t)
  step_before e (map_starves t was M) = absurd (cc t)
  step_before e (map_is_full len need t fills late was done M) = absurd (cc t)
  step_before e (map_finishes t made M) = absurd (cc t)

  -- and from after it
  step_after : map_changed c n ≡ true → reply c m ≡ Done → MapTurned f b c n (after c m) Step → MapSoFar (map_changed c (n + 1)) f b c m
  step_after e done (map_waits o byte t was M) = absurd (cc t)
  step_after e done (map_goes_on t same M) = subst (λ p. MapSoFar p f b c m) (sym (same ∙ e)) (done, M)
  step_after e done (map_changes t late was now again M) = absurd (not_both (map_changed c n) e was)
  step_after e done (map_answers r t late was says M) = absurd (cc t)
  step_after e done (map_starves t was M) = absurd (cc t)
  step_after e done (map_is_full len need t fills late was again M) = absurd (cc t)
  step_after e done (map_finishes t made M) = absurd (cc t)

  map_is : (k : Map) → IsMapOf f b k → image_map f b ≡ k
  map_is k M = maps_equal (image_map f b) k (λ q. image_answers f b q ∙ sym (M q))

  -- an end from before the change
  end_before : (r : Reply) → map_changed c n ≡ false → MapTurned f b c n m (Ends r) → MapDone c m (image_map f b) r
  end_before r e (map_waits o byte t was M) = absurd (cc t)
  end_before r e (map_goes_on t same M) = absurd (cc t)
  end_before r e (map_changes t late was now done M) = absurd (cc t)
  end_before r e (map_answers s t late was says M) = answers (ends_is r s t ∙ says) (map_is (after c m) M)
  end_before r e (map_starves t was M) = starves (ends_is r Memory t) (map_is m M)
  end_before r e (map_is_full len need t fills late was done M) = is_full len need (ends_is r (Full len need) t) fills done (map_is m M)
  end_before r e (map_finishes t made M) = absurd (not_both (map_changed c n) made e)

  -- and from after it
  end_after : (r : Reply) → map_changed c n ≡ true → reply c m ≡ Done → MapTurned f b c n (after c m) (Ends r) → MapDone c m (image_map f b) r
  end_after r e done (map_waits o byte t was M) = absurd (cc t)
  end_after r e done (map_goes_on t same M) = absurd (cc t)
  end_after r e done (map_changes t late was now again M) = absurd (cc t)
  end_after r e done (map_answers s t late was says M) = absurd (not_both (map_changed c n) e was)
  end_after r e done (map_starves t was M) = absurd (not_both (map_changed c n) e was)
  end_after r e done (map_is_full len need t fills late was again M) = absurd (not_both (map_changed c n) e was)
  end_after r e done (map_finishes t made M) = answers (ends_is r Done t ∙ sym done) (map_is (after c m) M)

module _ (f : Form) (a b : List ℕ) (c : MapCommand) (n : ℕ) (m : Map) where
  so_far_steps : (p : Bool) → map_changed c n ≡ p → MapSoFar p f a c m → ((k : Map) → IsMapOf f a k → MapTurned f b c n k Step) → MapSoFar (map_changed c (n + 1)) f b c m
  so_far_steps false e M turned = step_before f b c n m e (turned m M)
  so_far_steps true e M turned = step_after f b c n m e M.0 (turned (after c m) M.1)

  so_far_ends : (p : Bool) (r : Reply) → map_changed c n ≡ p → MapSoFar p f a c m → ((k : Map) → IsMapOf f a k → MapTurned f b c n k (Ends r)) → MapDone c m (image_map f b) r
  so_far_ends false r e M turned = end_before f b c n m r e (turned m M)
  so_far_ends true r e M turned = end_after f b c n m r e M.0 (turned (after c m) M.1)

-- before the first turn
begun_after : (c : Plain) → IsAfter c Stages.Begun 0
begun_after (Plains.Fetch key) = refl
begun_after (Plains.Has key) = refl
begun_after (Plains.Store key value flag) = refl
begun_after (Plains.Append key value) = refl
begun_after (Plains.Delete key) = refl
begun_after Plains.Wipe = refl

pub of_begun : (d : Doing) → d ≡ begun d.command d.chain d.seqnum → IsOf d.command d.seqnum d 0
of_begun d e = record { command = refl; counts = refl; after = subst (λ s. IsAfter d.command s 0) (sym (ap (λ q. q.stage) e)) (begun_after d.command) }

pub progress_begins : (f : Form) (a : List ℕ) (c : Plain) (chain : ℕ) (seqnum : Bool) → AcceptWith f a [] → Progress f a a c (begun c chain seqnum) 0
progress_begins f a c chain seqnum A = record {
  accepted = A;
  knows = record { found = tt; joined = λ key value e. tt; wants = tt };
  only = changes_none f a (λ k. Unit {0});
  number = refl;
  map = subst (λ p. MapSoFar p f a (command_of c) (image_map f a)) (sym (unchanged (command_of c))) (λ k. image_answers f a k);
}

module _ (f : Form) (a b d : List ℕ) (c : Plain) (seqnum : Bool) (was now : Doing) (n : ℕ) (of : IsOf c seqnum was n) (P : Progress f a b c was n) where
  -- after a step
  pub progress_goes_on : MachineTurned f b d was now n Step [] → Progress f a d c now (n + 1)
  progress_goes_on M = record {
    accepted = M.accepted;
    knows = M.knows;
    only = changes_then f a b d (λ k. Unit {0}) P.only (changes_weaker f b d _ (λ k. Unit {0}) (λ k on. tt) M.only);
    number = M.number ∙ P.number;
    map = so_far_steps f b d (command_of c) n (image_map f a) (map_changed (command_of c) n) refl P.map
        (λ k is. subst (λ p. MapTurned f d (command_of p) n k Step) of.command (M.map k is));
  }

  -- and at the end
  pub progress_ends : (r : Reply) → MachineTurned f b d was now n (Ends r) [] → Leaves was now n (Ends r) → ImageDone f a d (command_of c) seqnum r
  progress_ends r M L = record {
    accepted = subst (λ q. AcceptWith f d (hands_in q.stage ++ [])) L M.accepted;
    front = (changes_then f a b d (λ k. Unit {0}) P.only (changes_weaker f b d _ (λ k. Unit {0}) (λ k on. tt) M.only)).front;
    map = so_far_ends f b d (command_of c) n (image_map f a) (map_changed (command_of c) n) r refl P.map
        (λ k is. subst (λ p. MapTurned f d (command_of p) n k (Ends r)) of.command (M.map k is));
    number = M.number ∙ ap (λ q. raised (is_done r && (may_change (command_of was.command) && was.seqnum)) q) P.number
        ∙ ap (λ p. raised (is_done r && (may_change (command_of p) && was.seqnum)) (number_of f a)) of.command
        ∙ ap (λ q. raised (is_done r && (may_change (command_of c) && q)) (number_of f a)) of.counts;
  }

-- the command is the same after a step
pub of_step : (c : Plain) (seqnum : Bool) (was now : Doing) (n : ℕ) → IsOf c seqnum was n → Leaves was now n Step → IsOf c seqnum now (n + 1)
of_step c seqnum was now n of L = record { command = L.0 ∙ of.command; counts = L.2 ∙ of.counts; after = L.3 }

-- where nobody holds a lock nothing is in the way
pub never_blocked : (locks : HeldLocks) (owner : ℕ) (new : List Piece) (rows : Rows) (r : LockRow) (d e : Doing) (turn : Turn) → LockLed locks owner [] new rows r d e turn
    → (other byte : ℕ) → turn ≡ Turns.Blocked other byte → ⊥
never_blocked locks owner new rows r d e Turns.Step L other byte t = cc t
never_blocked locks owner new rows r d e (Turns.Blocked o b) L other byte t = cc L.3.conflict.holds
never_blocked locks owner new rows r d e (Turns.Done reply) L other byte t = cc t
