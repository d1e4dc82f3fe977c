-- A turn of an opener ends with Full exactly where the file has no room for what its command stores.
use Rattle.std.proofs.Common.{◌≡◌, ℕ, ◌++◌, ◌≤◌, List, true, false, Option, None, Some, refl, sym, ◌∙◌, ap, subst, inl, inr, arith}
use Rattle.tdb_space.specs.Form.{Form, form_in}
use Rattle.tdb_space.specs.Pairs.{map_of}
use Rattle.tdb_space.specs.Extents.{HandPair}
use Rattle.tdb_space.specs.Accepted.{AcceptWith}
use Rattle.tdb_locks.specs.declared.turn.Reply.{Reply}
use Rattle.tdb_locks.specs.declared.turn.Turn.{Turn}
use Rattle.tdb_locks.specs.declared.turn.Turn.TheVariants as Turns
use Rattle.tdb_law.specs.Commands as Law
use Rattle.tdb_law.specs.Commands.{WalkCommand}
use Rattle.tdb_law.specs.Commands.Command.{OnMap, OnLocks, Seqnum, OnGroup, OnWalk}
use Rattle.tdb_law.specs.Commands.Reply.{Full, Memory}
use Rattle.tdb_law.specs.Commands.Turn.{Ends}
use Rattle.tdb_law.specs.Openers.{Own, Map, Task as LawTask, seen}
use Rattle.tdb_law.specs.Refusals.{Refusal, says}
use Rattle.tdb_law.specs.Outcomes.{told_by, walk_told, fills, fills_by}
use Rattle.tdb_law.specs.Effects.{Effect, Finds}
use Rattle.tdb_law.specs.Effects.Finds.{finds_pair, finds_end}
use Rattle.tdb_law.specs.Effects.Effect.{effect_waits, effect_goes_on, effect_changes, effect_answers, effect_shows, effect_starves, effect_is_full, effect_is_busy, effect_numbers, effect_finishes}
use Rattle.tdb_law.specs.Turned.{Turned}
use Rattle.tdb_law.specs.World.{State}
use Rattle.tdb_commands.specs.InLaw.{law_opener, law_command, law_reply, law_turn}
use Rattle.tdb_steps.specs.Order.{IsAfter}
use Rattle.tdb_steps.specs.Stages.{hands_in, IsIdle}
use Rattle.tdb_steps.specs.PlainCommands.{command_of, turn_of}
use Rattle.tdb_steps.specs.Machines.{Doing, DoingKnows, MachineTurned, MapRow}
use Rattle.tdb_steps.specs.LockTurns.{ActRightly}
use Rattle.tdb_steps.specs.Memory.{StarvesOutside}
use Rattle.tdb_steps.specs.Room.{stored_pair, FullOutside}
use Rattle.tdb_steps.proofs.Room.{reply_not, ends_so, full_at_take, full_outside}
use Rattle.tdb_openers.specs.declared.opener.Opener.{Opener}
use Rattle.tdb_openers.specs.declared.job.Job.{Job}
use Rattle.tdb_openers.specs.declared.job.Job.TheVariants as Jobs
use Rattle.tdb_openers.specs.declared.job.Task.{Task}
use Rattle.tdb_openers.specs.Openers.{own_of, own_at, command_in, walk_in, IsRefused, JobStands, TaskStands, OpenerStands}
use Rattle.tdb_openers.specs.Openers.IsRefused.{refuses, has_ended}
use Rattle.tdb_openers.specs.Jobs.{IsPlain}
use Rattle.tdb_openers.specs.Worlds.{World, IsBusy, Stands, state_in, law_of_task}
use Rattle.tdb_openers.proofs.Joining.Putting.{by_number}
use Rattle.tdb_openers.proofs.Joining.Recounted.{recounted, recounted_reply, turn_is}

-- a turn that is recounted ends so where it did
full_reply : (r : Law.Reply) (len need : ℕ) → recounted_reply r ≡ Full len need → r ≡ Full len need
full_reply Law.Reply.Done len need e = e
full_reply Law.Reply.End len need e = e
full_reply Law.Reply.KeyMissing len need e = e
full_reply Law.Reply.KeyThere len need e = e
full_reply Law.Reply.ReadOnly len need e = e
full_reply Law.Reply.NoTransaction len need e = e
full_reply Law.Reply.InTransaction len need e = e
full_reply Law.Reply.Nesting len need e = e
full_reply Law.Reply.Doomed len need e = e
full_reply Law.Reply.NotLocked len need e = e
full_reply Law.Reply.Memory len need e = e
full_reply Law.Reply.Yes len need e = e
full_reply Law.Reply.No len need e = e
full_reply (Law.Reply.Value v) len need e = e
full_reply (Law.Reply.Pair k v) len need e = e
full_reply (Law.Reply.Busy o b) len need e = absurd (cc e)
full_reply (Law.Reply.Full l k) len need e = e
full_reply (Law.Reply.HeldLocks n) len need e = e
full_reply (Law.Reply.Number n) len need e = e

full_turn : (u : Law.Turn) (len need : ℕ) → recounted u ≡ Ends (Full len need) → u ≡ Ends (Full len need)
full_turn Law.Turn.Step len need e = absurd (cc e)
full_turn (Law.Turn.Blocked o b) len need e = absurd (cc e)
full_turn (Law.Turn.Ends r) len need e = ap Ends (full_reply r len need (ends_so e))

ends_back : (u : Law.Turn) (r : Law.Reply) → recounted u ≡ Ends r → (s : Law.Reply) × (recounted_reply s ≡ r) × (u ≡ Ends s)
ends_back Law.Turn.Step r e = absurd (cc e)
ends_back (Law.Turn.Blocked o b) r e = absurd (cc e)
ends_back (Law.Turn.Ends s) r e = (s, ends_so e, refl)

full_recounted : (f : Form) (a : List ℕ) (limit : ℕ) (t : LawTask) (u : Law.Turn) → FullOutside f a limit t u → FullOutside f a limit t (recounted u)
full_recounted f a limit t u F = record {
  only = λ len need e. F.only len need (full_turn u len need e);
  takes = λ three len need N. ap recounted (F.takes three len need N);
  looks = λ one len need N r e. let s = ends_back u r e in let L = F.looks one len need N s.0 s.2 in (sym s.1 ∙ ap recounted_reply L.0, L.1);
}

-- so does one that ends for want of memory
memory_reply : (r : Law.Reply) → recounted_reply r ≡ Memory → r ≡ Memory
memory_reply Law.Reply.Done e = e
memory_reply Law.Reply.End e = e
memory_reply Law.Reply.KeyMissing e = e
memory_reply Law.Reply.KeyThere e = e
memory_reply Law.Reply.ReadOnly e = e
memory_reply Law.Reply.NoTransaction e = e
memory_reply Law.Reply.InTransaction e = e
memory_reply Law.Reply.Nesting e = e
memory_reply Law.Reply.Doomed e = e
memory_reply Law.Reply.NotLocked e = e
memory_reply Law.Reply.Memory e = e
memory_reply Law.Reply.Yes e = e
memory_reply Law.Reply.No e = e
memory_reply (Law.Reply.Value v) e = e
memory_reply (Law.Reply.Pair k v) e = e
memory_reply (Law.Reply.Busy o b) e = absurd (cc e)
memory_reply (Law.Reply.Full l k) e = e
memory_reply (Law.Reply.HeldLocks n) e = e
memory_reply (Law.Reply.Number n) e = e

memory_turn : (u : Law.Turn) → recounted u ≡ Ends Memory → u ≡ Ends Memory
memory_turn Law.Turn.Step e = absurd (cc e)
memory_turn (Law.Turn.Blocked o b) e = absurd (cc e)
memory_turn (Law.Turn.Ends r) e = ap Ends (memory_reply r (ends_so e))

pub plain_starves : (f : Form) (t : LawTask) (turn : Turn) → StarvesOutside f t (turn_of turn) → StarvesOutside f t (law_turn turn)
plain_starves f t turn S c on e = S c on (memory_turn (turn_of turn) (turn_is turn ∙ e))

-- of a plain command
pub plain_full : (f : Form) (a b : List ℕ) (d e : Doing) (n limit : ℕ) (stood_on : List ℕ) (others : List HandPair) (turn : Turn) → IsAfter d.command d.stage n → AcceptWith f a (hands_in d.stage ++ others) → DoingKnows f a d
    → MapRow (command_of d.command) n (turn_of turn) → MachineTurned f a b d e n (turn_of turn) others → ((IsIdle d.stage → ⊥) → ActRightly f a b d e limit stood_on turn)
    → StarvesOutside f (record { command = OnMap (command_of d.command); steps = n }) (turn_of turn)
    → FullOutside f a limit (record { command = OnMap (command_of d.command); steps = n }) (law_turn turn)
plain_full f a b d e n limit stood_on others turn is A K row M R S =
    let t : LawTask = record { command = OnMap (command_of d.command); steps = n } in
    subst (FullOutside f a limit t) (turn_is turn)
    (full_recounted f a limit t (turn_of turn) (full_outside f a limit t (turn_of turn) (full_at_take f a b d e n limit stood_on others turn is A K row M.map R) S))

-- the opener's own state tells neither that memory is wanting nor that space is
says_fed : (x : Own) (q : Refusal) → says x q ≡ Memory → ⊥
says_fed x Refusal.OnlyReads e = cc e
says_fed x Refusal.IsPrepared e = cc e
says_fed x Refusal.LocksStand e = cc e
says_fed x Refusal.NothingLocked e = cc e
says_fed x Refusal.NeverNests e = cc e
says_fed x Refusal.NoneOpen e = cc e
says_fed x Refusal.IsDoomed e = cc e

refused_fed : (f : Form) (x : Own) (c : Law.Command) (r : Law.Reply) → IsRefused f x c r → r ≡ Memory → ⊥
refused_fed f x c r R e = elim R [
  | refuses why is says ↦ says_fed x why (sym says ∙ e)
  | has_ended on out none says ↦ cc (sym says ∙ e)
]

pub refused_starves : (f : Form) (x : Own) (c : Law.Command) (r : Reply) (t : LawTask) (turn : Turn) → turn ≡ Turns.Done r → IsRefused f x c (law_reply r) → StarvesOutside f t (law_turn turn)
refused_starves f x c r t turn is R b on e = absurd (refused_fed f x c (law_reply r) R (ends_so (sym (ap law_turn is) ∙ e)))

-- no other command tells that space is wanting
says_not : (x : Own) (q : Refusal) (len need : ℕ) → says x q ≡ Full len need → ⊥
says_not x Refusal.OnlyReads len need e = cc e
says_not x Refusal.IsPrepared len need e = cc e
says_not x Refusal.LocksStand len need e = cc e
says_not x Refusal.NothingLocked len need e = cc e
says_not x Refusal.NeverNests len need e = cc e
says_not x Refusal.NoneOpen len need e = cc e
says_not x Refusal.IsDoomed len need e = cc e

walk_not : (w : WalkCommand) (len need : ℕ) → walk_told w ≡ Full len need → ⊥
walk_not WalkCommand.First len need e = cc e
walk_not WalkCommand.Next len need e = cc e
walk_not WalkCommand.EndWalk len need e = cc e
walk_not WalkCommand.Close len need e = cc e

told_not : (q : Option Refusal) (c : Law.Command) (x : Own) (m : Map) (len need : ℕ) → told_by q c x m ≡ Full len need → ⊥
told_not (Some q) c x m len need e = says_not x q len need e
told_not None (OnMap c) x m len need e = reply_not c (seen x m) len need e
told_not None (OnLocks k) x m len need e = cc e
told_not None Seqnum x m len need e = cc e
told_not None (OnGroup h) x m len need e = cc e
told_not None (OnWalk w) x m len need e = walk_not w len need e

finds_not : (f : Form) (table want : ℕ → ℕ) (m : Map) (len need : ℕ) → Finds f table want m (Full len need) → ⊥
finds_not f table want m len need F = elim F [ finds_pair k v is there held ↦ cc is | finds_end is ↦ cc is ]

-- so a turn that tells it is of a command that fills
fills_so : (f : Form) (free : Type 0) (conflict : ℕ → ℕ → Type 0) (finds : Law.Reply → Type 0) (number : ℕ) (c : Law.Command) (n : ℕ) (x : Own) (file : Map) (turn : Law.Turn) (y : Own) (next : Map) (len need : ℕ)
    → (finds (Full len need) → ⊥) → turn ≡ Ends (Full len need) → Effect f free conflict finds number c n x file turn y next → fills f c x ≡ true
fills_so f free conflict finds number c n x file turn y next len need never t E =
    elim E [
      | effect_waits o b is met yet stays own ↦ absurd (cc (sym t ∙ is))
      | effect_goes_on is clear made stays own ↦ absurd (cc (sym t ∙ is))
      | effect_changes is clear late yet made says stays own ↦ absurd (cc (sym t ∙ is))
      | effect_answers r is clear move count ready yet says stays own ↦ absurd (told_not _ c x file len need (sym (ends_so (sym t ∙ is) ∙ says)))
      | effect_shows r is clear move found stays own ↦ absurd (never (subst finds (sym (ends_so (sym t ∙ is))) found))
      | effect_starves is want yet stays own ↦ absurd (cc (sym t ∙ is))
      | effect_is_full l k is clear fill ready yet says stays own ↦ fill
      | effect_is_busy o b is met busy stays own ↦ absurd (cc (sym t ∙ is))
      | effect_numbers q is clear count says stays own ↦ absurd (cc (sym t ∙ is))
      | effect_finishes is clear made stays own ↦ absurd (cc (sym t ∙ is))
    ]

check_spares : (q : Option Refusal) (x : Own) → fills_by q (OnMap Law.MapCommand.Check) x ≡ false
check_spares None x = refl
check_spares (Some q) x = refl

locks_spare : (q : Option Refusal) (k : Law.LockCommand) (x : Own) → fills_by q (OnLocks k) x ≡ false
locks_spare None k x = refl
locks_spare (Some q) k x = refl

seqnum_spares : (q : Option Refusal) (x : Own) → fills_by q Seqnum x ≡ false
seqnum_spares None x = refl
seqnum_spares (Some q) x = refl

walk_spares : (q : Option Refusal) (w : WalkCommand) (x : Own) → fills_by q (OnWalk w) x ≡ false
walk_spares None w x = refl
walk_spares (Some q) w x = refl

refused_spares : (f : Form) (x : Own) (c : Law.Command) (r : Law.Reply) → IsRefused f x c r → fills f c x ≡ false
refused_spares f x c r R = elim R [
  | refuses why is says ↦ ap (λ q. fills_by q c x) is
  | has_ended on out none says ↦ ap (λ z. fills f z x) on ∙ walk_spares _ WalkCommand.Next x
]

-- a job on no plain command stores nothing
module _ (f : Form) (a : List ℕ) (limit : ℕ) (x : Own) (size : ℕ) (turn : Law.Turn) where
  spares_full : (c : Law.Command) (n : ℕ) → ((len need : ℕ) → turn ≡ Ends (Full len need) → fills f c x ≡ true) → fills f c x ≡ false → ((map : List ℕ → Option (List ℕ)) → 1 ≤ n → stored_pair c map ≡ None)
      → FullOutside f a limit (record { command = c; steps = n }) turn
  spares_full c n full spares none = record {
    only = λ len need t. absurd (cc (sym spares ∙ full len need t));
    takes = λ three len need N. absurd (cc (sym (none (map_of f a) (omega (arith, three))) ∙ N.stores));
    looks = λ one len need N r t. absurd (cc (sym (none (map_of f a) (omega (arith, one))) ∙ N.stores));
  }

  job_full : (job : Job) (n : ℕ) → ((len need : ℕ) → turn ≡ Ends (Full len need) → fills f (command_in job) x ≡ true) → JobStands f x job n size → (IsPlain job → FullOutside f a limit (record { command = command_in job; steps = n }) turn)
      → FullOutside f a limit (record { command = command_in job; steps = n }) turn
  job_full (Jobs.Refused command reply) n full J plain = spares_full (law_command command) n full (refused_spares f x (law_command command) (law_reply reply) J.1) (λ map late. absurd (let none = J.0 in omega (arith, none, late)))
  job_full (Jobs.Plain d) n full J plain = plain tt
  job_full (Jobs.Check checking) n full J plain = spares_full (command_in (Jobs.Check checking)) n full (check_spares _ x) (λ map late. refl)
  job_full (Jobs.Locking locking) n full J plain = spares_full (command_in (Jobs.Locking locking)) n full (locks_spare _ _ x) (λ map late. refl)
  job_full Jobs.Seqnum n full J plain = spares_full (command_in Jobs.Seqnum) n full (seqnum_spares _ x) (λ map late. refl)
  job_full (Jobs.Walk walking) n full J plain = spares_full (command_in (Jobs.Walk walking)) n full (walk_spares _ _ x) (λ map late. refl)

-- a command on a cursor isn't plain
pub plain_beside : (job : Job) (w : WalkCommand) → walk_in job ≡ Some w → IsPlain job → ⊥
plain_beside (Jobs.Refused command reply) w on plain = plain
plain_beside (Jobs.Plain d) w on plain = cc on
plain_beside (Jobs.Check checking) w on plain = plain
plain_beside (Jobs.Locking locking) w on plain = plain
plain_beside Jobs.Seqnum w on plain = plain
plain_beside (Jobs.Walk walking) w on plain = plain

-- nor is it on the map
pub map_beside : (job : Job) (w : WalkCommand) (b : Law.MapCommand) → walk_in job ≡ Some w → command_in job ≡ OnMap b → ⊥
map_beside (Jobs.Refused command reply) w b on is = cc on
map_beside (Jobs.Plain d) w b on is = cc on
map_beside (Jobs.Check checking) w b on is = cc on
map_beside (Jobs.Locking locking) w b on is = cc on
map_beside Jobs.Seqnum w b on is = cc on
map_beside (Jobs.Walk walking) w b on is = cc is

-- A turn of the opener with a number, if it is so of a plain command.
pub world_full : (w : World) (a : List ℕ) (size who : ℕ) (x : Opener) (t : Task) → IsBusy w who x t → Stands w a size → (turn : Turn) (new : State) → Turned (form_in w.header) (state_in w a) (law_opener who) (law_of_task t) (law_turn turn) new
    → (IsPlain t.job → FullOutside (form_in w.header) a w.options.limit (law_of_task t) (law_turn turn)) → FullOutside (form_in w.header) a w.options.limit (law_of_task t) (law_turn turn)
world_full w a size who x t B W turn new T plain =
    let f = form_in w.header in
    let there : (state_in w a).own (law_opener who) ≡ own_of w.options x = ap (λ o. (state_in w a).own o) (by_number who B.number.place B.number.counted) ∙ ap (own_at w.options) B.number.there in
    let stands : JobStands f (own_of w.options x) t.job t.steps size = subst (λ z. TaskStands f (own_of w.options x) z size) B.busy (subst (OpenerStands f w.options size) B.number.there (W.openers_stand B.number.place)).1 in
    job_full f a w.options.limit (own_of w.options x) size (law_turn turn) t.job t.steps
    (λ len need e. subst (λ z. fills f (command_in t.job) z ≡ true) there
    (fills_so f _ _ _ _ (command_in t.job) t.steps ((state_in w a).own (law_opener who)) _ (law_turn turn) _ _ len need (finds_not f _ _ _ len need) e T.effect))
    stands plain
