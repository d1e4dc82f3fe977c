-- The calls of a world that has its disk, by those of its openers.
use Rattle.std.specs.Prelude.{ℕ, ◌≡◌, ◌≢◌, ◌≤◌, ◌<◌, ◌+◌, ◌⊎◌, Bool, false, IsTrue, Result, Ok, Err, IfOk, IfErr, OnOk, OnErr, length, if◌then◌else◌}
use Rattle.std.proofs.Common.{ap, inl, inr, refl, subst}
use Rattle.tdb_disk.specs.Count.{HasCause, RoseBy}
use Rattle.tdb_disk.specs.History.{History, seen}
use Rattle.tdb_law.specs.World.{State}
use Rattle.tdb_space.specs.Opening.{entries, is_open}
use Rattle.tdb_undo.specs.Entries.{lengths}
use Rattle.tdb_undo.specs.Recovery.{recovery_syncs}
use Rattle.tdb_locks.specs.declared.turn.Turn.{Turn}
use Rattle.tdb_locks.specs.declared.turn.Turn.TheVariants.{Step}
use Rattle.tdb_commands.specs.InLaw.{law_command, law_opener, law_turn}
use Rattle.tdb_commands.specs.declared.command.Command.{Command}
use Rattle.tdb_openers.specs.Played.{UnlessIo}
use Rattle.tdb_openers.specs.declared.fault.RunFault.{RunFault}
use Rattle.tdb_openers.specs.declared.standings.OpenerStanding.{OpenerStanding}
use Rattle.tdb_openers.specs.declared.standings.OpenerStanding.TheVariants.{Absent, Idle, Busy}
use Rattle.tdb_world.specs.declared.undoing.Undone.{Undone}
use Rattle.tdb_world.specs.declared.all_openers.JoinRefusal.{JoinRefusal}
use Rattle.tdb_world.specs.declared.all_openers.JoinRefusal.TheVariants as Refusal
use Rattle.tdb_world.specs.Whole.{form_at, Whole}
use Rattle.tdb_world.specs.States.{IsStateOf}
use Rattle.tdb_world.specs.Steps.{GiftLeads, HasCommand, HasNoCommand, HasRoom, JoinLeads, StartWaits, TurnLeads, UndoLeads}
use Rattle.tdb_world.specs.Stops.{IsChanging, IsSafe}
use Rattle.tdb_world.specs.Prepared.{GoesAsPrepared}
use Rattle.tdb_world.specs.Room.{FullOfTurn, StarvesInFile}
use Rattle.tdb_world.specs.Syncs.{SyncsByStage}
use Rattle.tdb_world.specs.OverFile.{OnlyInMemory, OverFile}
use Rattle.tdb_world.specs.OverFiles.Openers.{CannotJoin, HasJoined, IsAbsent, IsLive, StandsSo, WasGiven}
use Rattle.tdb_world.specs.OverFiles.Turns.{CountsFaults, TookTurn, WasUndone}
use Rattle.tdb_world.proofs.Ended.{IsIdleAfter}

-- a call of the openers alone leaves the disk
pub only_memory : (old : OverFile) (w : Whole) → w.openers.header ≡ old.world.openers.header → w.openers.options ≡ old.world.openers.options → OnlyInMemory old (record old { world = w })
only_memory old w header options = record { file = refl; form = record { header = header; options = options } }

-- an opener joined, or why none did, by each refusal
pub has_joined : (old new : OverFile) (r : Result ℕ JoinRefusal) → IfOk r (λ who. who ≡ length old.world.openers.openers + 1)
    → IfOk r (λ who. (h : History) → JoinLeads old.world new.world h who) → new.world.stale ≡ old.world.stale → OnlyInMemory old new → IfOk r (λ who. HasJoined old new who)
has_joined old new (Ok who) number leads stale memory = record { number = number; leads = leads; stale = stale; memory = memory }
has_joined old new (Err e) number leads stale memory = tt

pub cannot_join : (w : OverFile) (was : Whole) (r : Result ℕ JoinRefusal) → was ≡ w.world
    → IfErr r (λ e. (owner : ℕ) → e ≡ Refusal.Blocked owner → (length was.openers.openers < 1000) × ((h : History) (state : State) → IsStateOf was h state → 1 ≤ state.table (law_opener owner) 0))
    → IfErr r (λ e. (count : ℕ) → e ≡ Refusal.Many count → (count ≡ 1000) × (length was.openers.openers ≡ 1000)) → IfErr r (λ e. CannotJoin w e)
cannot_join w was (Ok who) same blocked many = tt
cannot_join w was (Err (Refusal.Blocked owner)) same blocked many =
    subst (λ (x : Whole). (length x.openers.openers < 1000) × ((h : History) (state : State) → IsStateOf x h state → 1 ≤ state.table (law_opener owner) 0)) same (blocked owner refl)
cannot_join w was (Err (Refusal.Many count)) same blocked many = subst (λ (x : Whole). (count ≡ 1000) × (length x.openers.openers ≡ 1000)) same (many count refl)
cannot_join w was (Err Refusal.Memory) same blocked many = tt

-- how an opener stands, by each answer
pub stands_so : (w : OverFile) (who : ℕ) (s : OpenerStanding)
    → (s ≡ Absent → (h : History) (state : State) → IsStateOf w.world h state → (state.own (law_opener who)).live ≡ false) → (s ≡ Absent → HasCommand w.world who → ⊥)
    → (s ≡ Idle → HasNoCommand w.world who) → (s ≡ Busy → HasCommand w.world who) → StandsSo w who s
stands_so w who Absent gone nothing idle busy = record { gone = gone refl; nothing = nothing refl }
stands_so w who Idle gone nothing idle busy = idle refl
stands_so w who Busy gone nothing idle busy = busy refl

-- one that isn't absent is live, and one that isn't idle has a command or is absent
pub live_so : (w : OverFile) (who : ℕ) (s : OpenerStanding) → (s ≡ Idle) ⊎ (s ≡ Busy) → StandsSo w who s → IsLive w who
live_so w who s (inl idle) stands = inl (subst (StandsSo w who) idle stands)
live_so w who s (inr busy) stands = inr (subst (StandsSo w who) busy stands)

pub not_idle : (w : OverFile) (who : ℕ) (s : OpenerStanding) → (s ≡ Absent) ⊎ (s ≡ Busy) → StandsSo w who s → HasCommand w.world who ⊎ IsAbsent w who
not_idle w who s (inl absent) stands = inr (subst (StandsSo w who) absent stands)
not_idle w who s (inr busy) stands = inl (subst (StandsSo w who) busy stands)

-- a command was given
pub was_given : {E : Type 0} (old new : OverFile) (who : ℕ) (command : Command) (r : Result (Unit {0}) E) → OnOk r (HasRoom old.world who command) → OnOk r (HasCommand new.world who)
    → OnOk r ((h : History) → GiftLeads old.world new.world h who (law_command command)) → new.world.stale ≡ old.world.stale → OnlyInMemory old new → OnOk r (WasGiven old new who command)
was_given old new who command (Ok v) room busy leads stale memory = record { room = room; busy = busy; leads = leads; stale = stale; memory = memory }
was_given old new who command (Err e) room busy leads stale memory = tt

-- what a turn of the openers promises is what it promises over their file
pub took_turn : {E : Type 0} (tells : Bool) (old new : OverFile) (who : ℕ) (r : Result Turn E)
    → IfOk r (λ turn. IsTrue tells → TurnLeads old.world new.world old.history new.history who (law_turn turn))
    → IfOk r (λ turn. IsTrue tells → FullOfTurn old.world old.history who (law_turn turn))
    → IfOk r (λ turn. StarvesInFile old.world who (law_turn turn))
    → IfOk r (λ turn. StartWaits old.world who (law_turn turn))
    → IfOk r (λ turn. IsTrue tells → GoesAsPrepared old.world old.history (law_opener who) (law_turn turn))
    → OnOk r (IsTrue tells → (state : State) → IsStateOf old.world old.history state → IsSafe (form_at old.world) old.history → (IsChanging (form_at old.world) state (law_opener who) → ⊥)
    → IsSafe (form_at old.world) new.history)
    → IfOk r (λ turn. SyncsByStage tells old.world old.history who turn old.syncs new.syncs)
    → IfOk r (λ turn. turn ≡ Step → HasCommand new.world who)
    → IfOk r (λ turn. IsTrue tells → IsIdleAfter old.world new.world old.history who turn)
    → OnOk r (new.world.stale ≡ false) → OnOk r (old.size ≤ new.size)
    → OnOk r (new.world.openers.header ≡ old.world.openers.header) → OnOk r (new.world.openers.options ≡ old.world.openers.options)
    → IfOk r (λ turn. TookTurn tells old new who turn)
took_turn tells old new who (Ok turn) leads full starves waits prepared safe syncs busy idle fresh longer header options = record {
  leads = leads;
  full = full;
  starves = starves;
  waits = waits;
  prepared = prepared;
  safe = λ told state S. safe told state S.has S.safe S.calm;
  syncs = syncs;
  busy = busy;
  idle = idle;
  fresh = fresh;
  longer = longer;
  form = record { header = header; options = options };
}
took_turn tells old new who (Err e) leads full starves waits prepared safe syncs busy idle fresh longer header options = tt

-- and so does its count of faults
pub counts_faults : {V E : Type 0} (tells : Bool) (old new : OverFile) (r : Result V E)
    → (IsTrue tells → (state : State) → IsStateOf old.world old.history state → HasCause old.faults new.faults r)
    → OnOk r (new.faults ≡ old.faults) → old.faults ≤ new.faults → CountsFaults tells old new r
counts_faults tells old new r cause done rises = record {
  never_falls = rises;
  done = done;
  failed = λ told state S. (cause told state S).failed;
}

-- what an undo promises is what it promises over their file
pub was_undone : {E : Type 0} (tells : Bool) (old new : OverFile) (r : Result Undone E)
    → OnOk r (IsTrue tells → UndoLeads old.world new.world old.history new.history)
    → IfOk r (λ undone. IsTrue tells → (state : State) → IsStateOf old.world old.history state
    → undone.bytes ≡ (if is_open (form_at old.world) (seen old.history) then lengths (entries (form_at old.world) (seen old.history)) else 0))
    → OnOk r (IsTrue tells → (state : State) → IsStateOf old.world old.history state → IsSafe (form_at old.world) new.history)
    → OnOk r (IsTrue tells → (state : State) → IsStateOf old.world old.history state → RoseBy (1 + recovery_syncs (form_at old.world) (seen old.history)) old.syncs new.syncs)
    → IfOk r (λ undone. undone.bytes ≢ 0 → RoseBy 4 old.syncs new.syncs ⊎ RoseBy 7 old.syncs new.syncs)
    → OnOk r (new.world ≡ record (old.world) { stale = false })
    → IfOk r (λ undone. undone.to ≡ new.size) → OnOk r (new.size ≤ old.size)
    → IfOk r (λ undone. WasUndone tells old new undone)
was_undone tells old new (Ok undone) leads bytes safe syncs made world length shorter = record {
  leads = leads;
  bytes = bytes;
  safe = safe;
  syncs = syncs;
  made = made;
  world = world;
  length = length;
  shorter = shorter;
}
was_undone tells old new (Err e) leads bytes safe syncs made world length shorter = tt

-- a gift leaves the header and the options, also where there was no memory
pub given_form : (old new : Whole) (r : Result OpenerStanding RunFault) → UnlessIo r (new.openers.header ≡ old.openers.header) → UnlessIo r (new.openers.options ≡ old.openers.options)
    → OnErr r (new ≡ old) → (new.openers.header ≡ old.openers.header) × (new.openers.options ≡ old.openers.options)
given_form old new (Ok s) header options same = (header, options)
given_form old new (Err fault) header options same = (ap (λ (w : Whole). w.openers.header) same, ap (λ (w : Whole). w.openers.options) same)
