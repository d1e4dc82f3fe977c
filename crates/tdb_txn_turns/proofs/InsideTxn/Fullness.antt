-- A command that is done in one turn ends with Full exactly where the image before it has no room.
use Rattle.std.proofs.Common.{◌≡◌, ℕ, zero, suc, ◌+◌, ◌<◌, ◌≤◌, ◌==◌, ◌⊎◌, ◌++◌, List, [], length, Bool, true, false, Option, None, Some, refl, sym, ◌∙◌, ap, subst, inl, inr, arith}
use Rattle.tdb_space.specs.Form.{Form}
use Rattle.tdb_space.specs.Pairs.{map_of}
use Rattle.tdb_space.specs.Extents.{HandPair}
use Rattle.tdb_space.specs.Accepted.{AcceptWith}
use Rattle.tdb_chain.specs.declared.place.Place.{Place}
use Rattle.tdb_locks.specs.declared.turn.Turn.TheVariants as Turns
use Rattle.tdb_law.specs.Commands as Law
use Rattle.tdb_law.specs.Commands.{MapCommand}
use Rattle.tdb_law.specs.Commands.MapCommand.{Fetch, Has, Delete, Store, Insert, Modify, Append, Wipe, Check}
use Rattle.tdb_law.specs.Commands.Command.{OnMap}
use Rattle.tdb_law.specs.Commands.Reply.{Done, Full, Memory}
use Rattle.tdb_law.specs.Commands.Turn.{Step, Ends}
use Rattle.tdb_law.specs.MapCommands.{map_fills}
use Rattle.tdb_law.specs.Ends.{store_ends, map_ends}
use Rattle.tdb_steps.specs.declared.plain.Plain.{Plain}
use Rattle.tdb_steps.specs.declared.plain.Plain.TheVariants as Plains
use Rattle.tdb_steps.specs.declared.stage.Stage.{Stage}
use Rattle.tdb_steps.specs.declared.stage.Stage.TheVariants as Stages
use Rattle.tdb_steps.specs.declared.stage.Next.{Next}
use Rattle.tdb_steps.specs.Stages.{hands_in, IsIdle}
use Rattle.tdb_steps.specs.Asked.{joined}
use Rattle.tdb_steps.specs.Turns.{UpdatesRightly, Finds}
use Rattle.tdb_steps.specs.Order.{StoreAfter, IsAfter}
use Rattle.tdb_steps.specs.PlainCommands.{command_of}
use Rattle.tdb_steps.specs.Machines.{Doing, MapRow, IsQuiet}
use Rattle.tdb_steps.specs.LockTurns.{ActRightly}
use Rattle.tdb_steps.specs.Room.{stored_pair, HasNoRoom, FullExactly, FullAtTake}

-- before its take a store leaves the image as it is
updated_still : (a b : List ℕ) (n : ℕ) (place : Option Place) (onto : Stage) → UpdatesRightly a b n place (Next.Step onto) → b ≡ a
updated_still a b n None onto U = U.1
updated_still a b n (Some place) onto U = U.2

module _ (f : Form) (a b : List ℕ) (limit : ℕ) (stood_on : List ℕ) (n : ℕ) (early : n < 3) where
  store_still : (key : List ℕ) (bytes : ℕ) (stage onto : Stage) → StoreAfter stage n → AcceptWith f a (hands_in stage ++ []) → (IsIdle stage × (stage ≡ Stages.Ending → ⊥) → b ≡ a)
      → (stage ≡ Stages.Chained → Finds f a key (λ place. UpdatesRightly a b bytes place (Next.Step onto))) → b ≡ a
  store_still key bytes Stages.Begun onto is A quiet R = quiet (tt, λ e. cc e)
  store_still key bytes Stages.Chained onto is A quiet R = let F = R refl [] A in updated_still a b bytes F.0 onto F.2
  store_still key bytes (Stages.Looked found) onto is A quiet R = quiet (tt, λ e. cc e)
  store_still key bytes (Stages.Listed found) onto is A quiet R = absurd (omega (arith, is, early))
  store_still key bytes (Stages.Taken found hand) onto is A quiet R = absurd (omega (arith, is, early))
  store_still key bytes (Stages.Changed hand) onto is A quiet R = absurd (omega (arith, is, early))
  store_still key bytes (Stages.Wiping locked) onto is A quiet R = elim is [ ]
  store_still key bytes Stages.Ending onto is A quiet R = elim is [ inl five ↦ absurd (omega (arith, five, early)) | inr six ↦ absurd (omega (arith, six, early)) ]

  module _ (chain : ℕ) (seqnum : Bool) (whole : Option (List ℕ)) (e : Doing) where
    abbrev At : Plain → Stage → Doing
    At command stage = record { command = command; chain = chain; seqnum = seqnum; stage = stage; whole = whole }

    still_by : (command : Plain) (stage : Stage) → IsAfter command stage n → map_fills (command_of command) ≡ true → AcceptWith f a (hands_in stage ++ []) → (IsQuiet (At command stage) → b ≡ a)
        → ((IsIdle stage → ⊥) → ActRightly f a b (At command stage) e limit stood_on Turns.Step) → b ≡ a
    still_by (Plains.Fetch k) stage is fills A quiet R = absurd (cc fills)
    still_by (Plains.Has k) stage is fills A quiet R = absurd (cc fills)
    still_by (Plains.Store k v flag) stage is fills A quiet R =
        store_still k (length v) stage e.stage is A (λ q. quiet (q.0, λ at. absurd (q.1 at)))
        (λ at. subst (λ x. (IsIdle x → ⊥) → ActRightly f a b (At (Plains.Store k v flag) x) e limit stood_on Turns.Step) at R (λ idle. idle))
    still_by (Plains.Append k v) stage is fills A quiet R =
        store_still k (length (joined (map_of f a k) v)) stage e.stage is A (λ q. quiet (q.0, λ at. absurd (q.1 at)))
        (λ at. subst (λ x. (IsIdle x → ⊥) → ActRightly f a b (At (Plains.Append k v) x) e limit stood_on Turns.Step) at R (λ idle. idle) tt)
    still_by (Plains.Delete k) stage is fills A quiet R = absurd (cc fills)
    still_by Plains.Wipe stage is fills A quiet R = absurd (cc fills)

pub still_before : (f : Form) (a b : List ℕ) (limit : ℕ) (stood_on : List ℕ) (d e : Doing) (n : ℕ) → IsAfter d.command d.stage n → n < 3 → map_fills (command_of d.command) ≡ true → AcceptWith f a (hands_in d.stage ++ []) → (IsQuiet d → b ≡ a)
    → ((IsIdle d.stage → ⊥) → ActRightly f a b d e limit stood_on Turns.Step) → b ≡ a
still_before f a b limit stood_on d e n is early fills A quiet R = still_by f a b limit stood_on n early d.chain d.seqnum d.whole e d.command d.stage is fills A quiet R

-- a command that stores a pair fills
pair_fills : (c : MapCommand) (map : List ℕ → Option (List ℕ)) (p : List ℕ × List ℕ) → stored_pair (OnMap c) map ≡ Some p → map_fills c ≡ true
pair_fills (Fetch k) map p e = absurd (cc e)
pair_fills (Has k) map p e = absurd (cc e)
pair_fills (Delete k) map p e = absurd (cc e)
pair_fills (Store k v) map p e = refl
pair_fills (Insert k v) map p e = refl
pair_fills (Modify k v) map p e = refl
pair_fills (Append k v) map p e = refl
pair_fills Wipe map p e = absurd (cc e)
pair_fills Check map p e = absurd (cc e)

-- a store ends only at its look, its take and its end
ends_not : (n : ℕ) → (n == 1) ≡ false → (n == 3) ≡ false → store_ends n Done ≡ false → (r : Law.Reply) → store_ends n r ≡ false
ends_not n look take done Law.Reply.Done = done
ends_not n look take done Law.Reply.End = look
ends_not n look take done Law.Reply.KeyMissing = look
ends_not n look take done Law.Reply.KeyThere = look
ends_not n look take done Law.Reply.ReadOnly = look
ends_not n look take done Law.Reply.NoTransaction = look
ends_not n look take done Law.Reply.InTransaction = look
ends_not n look take done Law.Reply.Nesting = look
ends_not n look take done Law.Reply.Doomed = look
ends_not n look take done Law.Reply.NotLocked = look
ends_not n look take done Law.Reply.Memory = look
ends_not n look take done Law.Reply.Yes = look
ends_not n look take done Law.Reply.No = look
ends_not n look take done (Law.Reply.Value v) = look
ends_not n look take done (Law.Reply.Pair k v) = look
ends_not n look take done (Law.Reply.Busy o b) = look
ends_not n look take done (Law.Reply.Full len need) = take
ends_not n look take done (Law.Reply.HeldLocks m) = look
ends_not n look take done (Law.Reply.Number m) = look

store_row : (c : MapCommand) (n : ℕ) (r : Law.Reply) → map_fills c ≡ true → map_ends c n r ≡ store_ends n r
store_row (Fetch k) n r fills = absurd (cc fills)
store_row (Has k) n r fills = absurd (cc fills)
store_row (Delete k) n r fills = absurd (cc fills)
store_row (Store k v) n r fills = refl
store_row (Insert k v) n r fills = refl
store_row (Modify k v) n r fills = refl
store_row (Append k v) n r fills = refl
store_row Wipe n r fills = absurd (cc fills)
store_row Check n r fills = absurd (cc fills)

memory_by : (c : MapCommand) (n : ℕ) (r : Law.Reply) → map_fills c ≡ true → (n == 1) ≡ false → (n == 3) ≡ false → store_ends n Done ≡ false → MapRow c n (Ends r) → r ≡ Memory
memory_by c n r fills look take done (inl e) = absurd (cc (sym (store_row c n r fills ∙ ends_not n look take done r) ∙ e))
memory_by c n r fills look take done (inr starves) = starves.0

-- how many steps a command has had: fewer than four, or more
data Steps (n : ℕ) : Type 0 where
  none : n ≡ 0 → Steps n
  one : n ≡ 1 → Steps n
  two : n ≡ 2 → Steps n
  three : n ≡ 3 → Steps n
  more : 4 ≤ n → Steps n

steps : (n : ℕ) → Steps n
steps zero = none refl
steps (suc zero) = one refl
steps (suc (suc zero)) = two refl
steps (suc (suc (suc zero))) = three refl
steps (suc (suc (suc (suc n)))) = more (omega arith)

module _ (f : Form) (a b : List ℕ) (limit : ℕ) where
  -- what an image lacks, another that is the same lacks too
  lacks_there : (c : MapCommand) (len need : ℕ) → (map_fills c ≡ true → b ≡ a) → HasNoRoom f a limit (OnMap c) len need → HasNoRoom f b limit (OnMap c) len need
  lacks_there c len need same N = subst (λ i. HasNoRoom f i limit (OnMap c) len need) (sym (same (pair_fills c (map_of f a) (N.key, N.value) N.stores))) N

  lacks_here : (c : MapCommand) (len need : ℕ) → (map_fills c ≡ true → b ≡ a) → HasNoRoom f b limit (OnMap c) len need → HasNoRoom f a limit (OnMap c) len need
  lacks_here c len need same N = subst (λ i. HasNoRoom f i limit (OnMap c) len need) (same (pair_fills c (map_of f b) (N.key, N.value) N.stores)) N

  -- after the take there was room
  pub room_left : (c : MapCommand) (n len need : ℕ) → 3 ≤ n → (4 ≤ n → ⊥) → (map_fills c ≡ true → n ≤ 3 → b ≡ a) → FullAtTake f b limit (record { command = OnMap c; steps = n }) Step → HasNoRoom f a limit (OnMap c) len need → ⊥
  room_left c n len need late over still F N = elim (steps n) [
    | none is ↦ omega (arith, is, late)
    | one is ↦ omega (arith, is, late)
    | two is ↦ omega (arith, is, late)
    | three is ↦ elim ((F.takes is).always len need (lacks_there c len need (λ fills. still fills (omega (arith, is))) N)) [ inl e ↦ cc e | inr e ↦ cc e ]
    | more later ↦ over later
  ]

  -- and at the end
  pub full_ends : (command : Plain) (n : ℕ) (r : Law.Reply) → MapRow (command_of command) n (Ends r) → (4 ≤ n → (len need : ℕ) → HasNoRoom f a limit (OnMap (command_of command)) len need → ⊥) → (map_fills (command_of command) ≡ true → n ≤ 3 → b ≡ a)
      → FullAtTake f b limit (record { command = OnMap (command_of command); steps = n }) (Ends r) → FullExactly f a limit (OnMap (command_of command)) (Ends r)
  full_ends command n r row over still F = record {
    only = λ len need t.
        let is = F.only len need t in
        lacks_here (command_of command) len need (λ fills. still fills (omega (arith, is))) ((F.takes is).only len need t);
    always = λ len need N.
        let c = command_of command in
        let fills = pair_fills c (map_of f a) (N.key, N.value) N.stores in
        elim (steps n) [
          | none is ↦ inr (ap Ends (memory_by c 0 r fills refl refl refl (subst (λ k. MapRow c k (Ends r)) is row)))
          | one is ↦ inr (ap Ends (F.looks is len need (lacks_there c len need (λ so. still so (omega (arith, is))) N) r refl))
          | two is ↦ inr (ap Ends (memory_by c 2 r fills refl refl refl (subst (λ k. MapRow c k (Ends r)) is row)))
          | three is ↦ (F.takes is).always len need (lacks_there c len need (λ so. still so (omega (arith, is))) N)
          | more later ↦ absurd (over later len need N)
        ];
  }
