-- A turn ends with Full exactly where there is no room for it, whoever takes it.
use Rattle.std.proofs.Common.{◌≡◌, ◌≤◌, ℕ, List, [], Bool, true, false, Option, Some, None, refl, sym, ◌∙◌, ap, subst, inr, arith}
use Rattle.std.specs.Prelude.{◌&&◌, is_none, if◌then◌else◌}
use Rattle.tdb_disk.specs.History.{History}
use Rattle.tdb_space.specs.Accepted.{AcceptWith}
use Rattle.tdb_space.specs.Form.{Form, form_in}
use Rattle.tdb_space.specs.Pairs.{map_of}
use Rattle.tdb_words.specs.declared.header.Header.{Header}
use Rattle.tdb_locks.specs.declared.turn.Turn.{Turn as TurnIs}
use Rattle.tdb_law.specs.Commands.{Command, GroupCommand, LockCommand, MapCommand, Reply, Turn, WalkCommand, is_spare}
use Rattle.tdb_law.specs.Commands.MapCommand.{Fetch, Has, Delete, Store, Insert, Modify, Append, Wipe, Check}
use Rattle.tdb_law.specs.Commands.GroupCommand.{Start, Commit, Prepare, Cancel}
use Rattle.tdb_law.specs.Commands.Command.{OnMap, OnLocks, Seqnum, OnGroup, OnWalk}
use Rattle.tdb_law.specs.Commands.Reply.{Full, Memory}
use Rattle.tdb_law.specs.Commands.Turn.{Blocked, Ends}
use Rattle.tdb_law.specs.Effects.{Effect, Finds, IsReady}
use Rattle.tdb_law.specs.Effects.Effect.{effect_waits, effect_goes_on, effect_changes, effect_answers, effect_shows, effect_starves, effect_is_full, effect_is_busy, effect_numbers, effect_finishes}
use Rattle.tdb_law.specs.Effects.Finds.{finds_pair, finds_end}
use Rattle.tdb_law.specs.MapCommands.{map_fills, map_reads}
use Rattle.tdb_law.specs.OneAside.Sides.{Past, Side}
use Rattle.tdb_law.specs.Openers.{Map, Own, outside}
use Rattle.tdb_law.specs.Outcomes.{fills, fills_by, plans, reads_by, told}
use Rattle.tdb_law.specs.Refusals.{Refusal, refusal}
use Rattle.tdb_law.specs.Rows.{look_by}
use Rattle.tdb_law.specs.Turned.{Turned}
use Rattle.tdb_law.specs.World.{State}
use Rattle.tdb_law.proofs.Local.{told_plain}
use Rattle.tdb_law.proofs.Maps.{is_key-refl}
use Rattle.tdb_law.proofs.Tests.{never_true}
use Rattle.tdb_law.specs.OneAside.Shutting.{IsShutOut}
use Rattle.tdb_law.proofs.OneAside.Shut.{others_shut_out}
use Rattle.tdb_steps.specs.Room.{stored_pair, HasNoRoom}
use Rattle.tdb_txn_turns.specs.Room.{NeverFull, PrepareFull}
use Rattle.tdb_txn_turns.proofs.Room.{never}
use Rattle.tdb_txn_turns.specs.declared.committing.Committing.TheVariants as Commits
use Rattle.tdb_txn_turns.specs.declared.preparing.PrepareStage.{PrepareStage}
use Rattle.tdb_txn_turns.specs.declared.preparing.PrepareStage.TheVariants as Plans
use Rattle.tdb_txn_turns.specs.declared.starting.Starting.{Starting}
use Rattle.tdb_commands.specs.InLaw.{law_command, law_opener, law_turn}
use Rattle.tdb_commands.specs.declared.options.Options.{Options}
use Rattle.tdb_txn_owner.specs.Ends.{task_of}
use Rattle.tdb_txn_owner.specs.Holders.{HolderState}
use Rattle.tdb_txn_owner.specs.Room.{StageFull}
use Rattle.tdb_txn_owner.specs.Stages.{Known, KnowsFile, IsSide}
use Rattle.tdb_txn_owner.specs.Turned.{BeginsOn}
use Rattle.tdb_txn_owner.specs.Wanting.{plan_wants, stage_wants}
use Rattle.tdb_txn_owner.specs.declared.stage.Stage.{Stage}
use Rattle.tdb_txn_owner.specs.declared.stage.Stage.TheVariants as At
use Rattle.tdb_txn_owner.specs.declared.wanting.Wants.TheVariants as Wants
use Rattle.tdb_locks.specs.declared.kind.Kind.{Kind}
use Rattle.tdb_openers.specs.Openers.{own_of}
use Rattle.tdb_openers.specs.Worlds.{law_of_task, state_in, World}
use Rattle.tdb_openers.specs.declared.opener.Opener.{Opener}
use Rattle.tdb_openers.specs.declared.job.Task.{Task}
use Rattle.tdb_openers.proofs.Barred.ShutOut.{apart, IsBarred}
use Rattle.tdb_openers.proofs.Joining.Occupied.{own_here, task_here}
use Rattle.tdb_world.specs.Claims.{ClaimStands}
use Rattle.tdb_world.specs.Room.{FullAside}
use Rattle.tdb_world.specs.States.{IsAside, IsStateOf, SideIs}
use Rattle.tdb_world.specs.States.IsStateOf.{of_whole, of_stale}
use Rattle.tdb_world.specs.Whole.{form_at, options_at, Whole}
use Rattle.tdb_world.proofs.ClaimUsed.{listed}
use Rattle.tdb_world.proofs.Staged.{begins_on, wants_early}

-- By the law only a command that stores ends with Full, and not before its look.
ends_same : (r q : Reply) → Ends r ≡ Ends q → r ≡ q
ends_same r q e = cc

never_found : (f : Form) (table want : ℕ → ℕ) (m : Map) (r : Reply) (len need : ℕ) → r ≡ Full len need → Finds f table want m r → ⊥
never_found f table want m r len need e (finds_pair k v is there chain) = cc
never_found f table want m r len need e (finds_end is) = cc

module _ (f : Form) (free : Type 0) (conflict : ℕ → ℕ → Type 0) (table want : ℕ → ℕ) (shown : Map) (number : ℕ) (c : Command) (n : ℕ) (x : Own) (file : Map) (turn : Turn) (y : Own) (next : Map) (len need : ℕ) where
  full_stores : turn ≡ Ends (Full len need) → Effect f free conflict (Finds f table want shown) number c n x file turn y next → (fills f c x ≡ true) × IsReady f c x n
  full_stores e (effect_waits o b is first un map own) = absurd (cc)
  full_stores e (effect_goes_on is free un map own) = absurd (cc)
  full_stores e (effect_changes is free late un made told map own) = absurd (cc)
  full_stores e (effect_answers r is free still un ready unmade says map own) =
      let full : r ≡ Full len need = ends_same r (Full len need) (sym is ∙ e) in
      let plain : is_spare (Full len need) ≡ false = ap is_spare (sym full ∙ says) ∙ told_plain f c x file in
      absurd (never_true (sym plain))
  full_stores e (effect_shows r is free moving found map own) = absurd (never_found f table want shown r len need (ends_same r (Full len need) (sym is ∙ e)) found)
  full_stores e (effect_starves is may un map own) = absurd (cc)
  full_stores e (effect_is_full l m is free may ready un told map own) = (may, ready)
  full_stores e (effect_is_busy o b is first may map own) = absurd (cc)
  full_stores e (effect_numbers q is free may same map own) = absurd (cc)
  full_stores e (effect_finishes is free made map own) = absurd (cc)

key_stored : (b : MapCommand) → map_fills b ≡ true → (k : List ℕ) × (map_reads b k ≡ true)
key_stored (Fetch k) e = absurd (cc e)
key_stored (Has k) e = absurd (cc e)
key_stored (Delete k) e = absurd (cc e)
key_stored (Store k v) e = (k, is_key-refl k)
key_stored (Insert k v) e = (k, is_key-refl k)
key_stored (Modify k v) e = (k, is_key-refl k)
key_stored (Append k v) e = (k, is_key-refl k)
key_stored Wipe e = absurd (cc e)
key_stored Check e = absurd (cc e)

-- a command of an opener without a transaction that stores: it is one on the map, isn't refused, and has had a step
pub record IsStoring (f : Form) (x : Own) (c : Command) (n : ℕ) : Type 0 where
  pub on_map : MapCommand
  pub command : c ≡ OnMap on_map
  pub granted : refusal f (OnMap on_map) x ≡ None
  pub late : 1 ≤ n

module _ (f : Form) (x : Own) (n : ℕ) (none : x.txn ≡ None) where
  out : outside x ≡ true
  out = ap is_none none

  map_storing : (b : MapCommand) (q : Option Refusal) → refusal f (OnMap b) x ≡ q → fills_by q (OnMap b) x ≡ true → ((k : List ℕ) → reads_by q (OnMap b) x k ≡ true → look_by q (OnMap b) x ≤ n)
      → IsStoring f x (OnMap b) n
  map_storing b (Some q) is may ready = absurd (cc may)
  map_storing b None is may ready =
      let key = key_stored b may in
      let late : (if outside x then 1 else 0) ≤ n = ready key.0 (subst (λ o. o && map_reads b key.0 ≡ true) (sym out) key.1) in
      record { on_map = b; command = refl; granted = is; late = subst (λ o. (if o then 1 else 0) ≤ n) out late }

  plans_none : plans x.txn ≡ true → ⊥
  plans_none e = never_true (sym (ap plans none) ∙ e)

  group_not : (g : GroupCommand) (q : Option Refusal) → fills_by q (OnGroup g) x ≡ true → ⊥
  group_not Start None may = cc may
  group_not Commit None may = plans_none may
  group_not Prepare None may = plans_none may
  group_not Cancel None may = cc may
  group_not g (Some q) may = cc may

  locks_not : (l : LockCommand) (q : Option Refusal) → fills_by q (OnLocks l) x ≡ true → ⊥
  locks_not l None may = cc may
  locks_not l (Some q) may = cc may

  walk_not : (l : WalkCommand) (q : Option Refusal) → fills_by q (OnWalk l) x ≡ true → ⊥
  walk_not l None may = cc may
  walk_not l (Some q) may = cc may

  number_not : (q : Option Refusal) → fills_by q Seqnum x ≡ true → ⊥
  number_not None may = cc may
  number_not (Some q) may = cc may

  storing : (c : Command) → fills f c x ≡ true → IsReady f c x n → IsStoring f x c n
  storing (OnMap b) may ready = map_storing b (refusal f (OnMap b) x) refl may ready
  storing (OnLocks l) may ready = absurd (locks_not l (refusal f (OnLocks l) x) may)
  storing Seqnum may ready = absurd (number_not (refusal f Seqnum x) may)
  storing (OnGroup g) may ready = absurd (group_not g (refusal f (OnGroup g) x) may)
  storing (OnWalk l) may ready = absurd (walk_not l (refusal f (OnWalk l) x) may)

-- one that is shut out has had no step of such a command
module _ {w : World} {img : List ℕ} {past : Past} {s : Side} {holder who : ℕ} {x : Opener} {t : Task} {any : List ℕ} {size : ℕ} (C : IsBarred w img past s holder who x t any size) where
  abbrev f : Form
  f = form_in w.header

  abbrev l : ℕ
  l = law_opener who

  own_none : (y : Own) → y ≡ own_of w.options x → y.txn ≡ None
  own_none y is = ap (λ (z : Own). z.txn) is

  stands_out : IsShutOut f (state_in w img) l
  stands_out = others_shut_out f (state_in w img) past s l C.shuts.sound C.shuts.aside C.shuts.shuts (apart C)

  still_new : (y : Own) → y ≡ own_of w.options x → IsStoring f y (law_of_task t).command t.steps → ⊥
  still_new y is T =
      let own = own_here C.busy img in
      let task : (state_in w img).task l ≡ Some (record { command = OnMap T.on_map; steps = t.steps }) = task_here C.busy img ∙ ap (λ c. Some (task_of c t.steps)) T.command in
      let none = stands_out.new T.on_map t.steps task (own_none _ own) (ap (λ z. refusal f (OnMap T.on_map) z) (own ∙ sym is) ∙ T.granted) in
      let late = T.late in
      omega (arith, none, late)

  pub shut_never : (state new : State) (turn : Turn) (len need : ℕ) → state.own l ≡ own_of w.options x → Turned f state l (law_of_task t) turn new → turn ≡ Ends (Full len need) → ⊥
  shut_never state new turn len need own T e =
      let F = full_stores f _ _ (state.table l) _ _ _ (law_of_task t).command t.steps (state.own l) state.file turn (new.own l) new.file len need e T.effect in
      still_new (state.own l) own (storing f (state.own l) t.steps (own_none _ own) (law_of_task t).command F.0 F.1)

-- The turn of one that goes aside by its Start stores nothing.
same_holder : (a b : HolderState) → ◌≡◌ {A = Option HolderState} (Some a) (Some b) → a ≡ b
same_holder a b e = cc

module _ (w : Whole) (h : History) (turn : Turn) (holder : HolderState) (st : Starting) (at : holder.stage ≡ At.Starting st) (is : w.aside ≡ Some holder) (F : FullAside w holder h turn) where
  side_never : (a : Option HolderState) (image : List ℕ) (past : Past) (side : Option Side) → a ≡ Some holder → SideIs w a h image past side → NeverFull turn
  side_never None image past side there A = absurd (cc there)
  side_never (Some other) image past None there A = absurd A
  side_never (Some other) image past (Some s) there A =
      let B : IsAside w holder h image past s = subst (λ z. IsAside w z h image past s) (same_holder other holder there) A in
      subst (λ z. StageFull (form_at w) (options_at w).limit z B.known s.own turn) at (F image past s B)

  pub start_full : (state : State) → IsStateOf w h state → NeverFull turn
  start_full state (of_whole S) = side_never w.aside S.image S.past S.side is S.is_side
  start_full state (of_stale S) = absurd (let none = S.nobody in cc (sym is ∙ none))

-- The turn of the one aside for which the lock of records was taken.
abbrev pub FullByStage : Header → Options → HolderState → History → TurnIs → Type 0
FullByStage hd o h history turn =
    (k : Known) (past : Past) (s : Side) → IsSide (form_in hd) o h.owner h.locks h.stage k past s → KnowsFile (form_in hd) h.stage history k → BeginsOn (form_in hd) h.stage k.file
    → StageFull (form_in hd) o.limit h.stage k s.own (law_turn turn)

module _ (w : Whole) (h : HolderState) (img : List ℕ) (size : ℕ) (before : World) (x : Opener) (S : ClaimStands w h img size before x) (old mid : History) (same : mid ≡ old) where
  pub used_full : (hd : Header) (o : Options) → hd ≡ w.openers.header → o ≡ w.openers.options → (turn : TurnIs) → FullByStage hd o h mid turn → FullAside (record w { openers = before; aside = Some h }) h old (law_turn turn)
  used_full hd o header options turn T image past s A =
      let claimed = listed w h img size before x S in
      let same_header : hd ≡ before.header = header ∙ ap (λ (q : World). q.header) claimed in
      let same_options : o ≡ before.options = options ∙ ap (λ (q : World). q.options) claimed in
      let now : FullByStage before.header before.options h old turn =
      subst (λ q. FullByStage before.header q h old turn) same_options (subst (λ q. FullByStage q o h old turn) same_header (subst (λ q. FullByStage hd o h q turn) same T)) in
      now A.known past s A.side A.file (begins_on (form_in before.header) h.stage A.known.file (λ e. subst (λ i. AcceptWith (form_in before.header) i []) A.image (A.accepted e)))

-- A turn that wants that lock stores nothing: it may be blocked, and memory may be wanting for it.
never_blocked : (owner byte : ℕ) → NeverFull (Blocked owner byte)
never_blocked owner byte = never (Blocked owner byte) (λ len need e. cc e)

plan_blocked : (numbered : Bool) (p : PrepareStage) (kind : Kind) → plan_wants numbered p ≡ Wants.Records kind → (limit : ℕ) (r : List ℕ) (owner byte : ℕ) → PrepareFull p limit r (Blocked owner byte)
plan_blocked numbered Plans.Unchanged kind ws limit r owner byte = never_blocked owner byte
plan_blocked numbered (Plans.Begun txn) kind ws limit r owner byte = never_blocked owner byte
plan_blocked numbered (Plans.Records txn) kind ws limit r owner byte = never_blocked owner byte
plan_blocked numbered (Plans.Locked txn) kind ws limit r owner byte = absurd (cc ws)
plan_blocked numbered (Plans.Planned state) kind ws limit r owner byte = never_blocked owner byte
plan_blocked numbered (Plans.Filled state) kind ws limit r owner byte = never_blocked owner byte

module _ (kind : Kind) (f : Form) (limit : ℕ) (k : Known) (x : Own) (owner byte : ℕ) where
  no_pair : (g : GroupCommand) (map : List ℕ → Option (List ℕ)) (p : List ℕ × List ℕ) → stored_pair (OnGroup g) map ≡ Some p → ⊥
  no_pair g map p e = cc e

  group_stores : (c : Command) (g : GroupCommand) (len need : ℕ) → c ≡ OnGroup g → HasNoRoom f k.image limit c len need → ⊥
  group_stores c g len need is N = let M = subst (λ d. HasNoRoom f k.image limit d len need) is N in no_pair g (map_of f k.image) (M.key, M.value) M.stores

  stage_blocked : (stage : Stage) → stage_wants stage ≡ Wants.Records kind → StageFull f limit stage k x (Blocked owner byte)
  stage_blocked (At.Starting st) ws = never_blocked owner byte
  stage_blocked (At.Open txn None) ws = never_blocked owner byte
  stage_blocked (At.Open txn (Some c)) ws = record {
    only = λ len need e. absurd (cc e);
    always = λ len need L. (let E = wants_early kind (At.Open txn (Some c)) (task_of (law_command c) 0) ws refl in absurd (group_stores (law_command c) E.group len need E.command L.lacks));
  }
  stage_blocked (At.Committing (Commits.Preparing p)) ws = plan_blocked p.numbered p.stage kind ws limit k.file owner byte
  stage_blocked (At.Committing (Commits.Finishing c)) ws = never_blocked owner byte
  stage_blocked (At.Preparing p) ws = plan_blocked p.numbered p.stage kind ws limit k.file owner byte
  stage_blocked (At.Prepared left command) ws = never_blocked owner byte
  stage_blocked (At.Finishing c) ws = never_blocked owner byte

pub blocked_full : (w : Whole) (holder : HolderState) (h : History) (kind : Kind) → stage_wants holder.stage ≡ Wants.Records kind → (owner byte : ℕ) → FullAside w holder h (Blocked owner byte)
blocked_full w holder h kind ws owner byte image past s A = stage_blocked kind (form_at w) (options_at w).limit A.known s.own owner byte holder.stage ws

never_starved : NeverFull (Ends Memory)
never_starved = never (Ends Memory) (λ len need e. cc e)

plan_starved : (numbered : Bool) (p : PrepareStage) (kind : Kind) → plan_wants numbered p ≡ Wants.Records kind → (limit : ℕ) (r : List ℕ) → PrepareFull p limit r (Ends Memory)
plan_starved numbered Plans.Unchanged kind ws limit r = never_starved
plan_starved numbered (Plans.Begun txn) kind ws limit r = never_starved
plan_starved numbered (Plans.Records txn) kind ws limit r = never_starved
plan_starved numbered (Plans.Locked txn) kind ws limit r = absurd (cc ws)
plan_starved numbered (Plans.Planned state) kind ws limit r = never_starved
plan_starved numbered (Plans.Filled state) kind ws limit r = never_starved

stage_starved : (kind : Kind) (f : Form) (limit : ℕ) (k : Known) (x : Own) (stage : Stage) → stage_wants stage ≡ Wants.Records kind → StageFull f limit stage k x (Ends Memory)
stage_starved kind f limit k x (At.Starting st) ws = never_starved
stage_starved kind f limit k x (At.Open txn None) ws = never_starved
stage_starved kind f limit k x (At.Open txn (Some c)) ws = record { only = λ len need e. absurd (cc e); always = λ len need L. inr refl }
stage_starved kind f limit k x (At.Committing (Commits.Preparing p)) ws = plan_starved p.numbered p.stage kind ws limit k.file
stage_starved kind f limit k x (At.Committing (Commits.Finishing c)) ws = never_starved
stage_starved kind f limit k x (At.Preparing p) ws = plan_starved p.numbered p.stage kind ws limit k.file
stage_starved kind f limit k x (At.Prepared left command) ws = never_starved
stage_starved kind f limit k x (At.Finishing c) ws = never_starved

pub starved_full : (w : Whole) (holder : HolderState) (h : History) (kind : Kind) → stage_wants holder.stage ≡ Wants.Records kind → FullAside w holder h (Ends Memory)
starved_full w holder h kind ws image past s A = stage_starved kind (form_at w) (options_at w).limit A.known s.own holder.stage ws
