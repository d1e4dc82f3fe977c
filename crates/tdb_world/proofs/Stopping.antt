-- What a stop leaves in a turn of the opener aside, and after it, while nobody changes the file outside a transaction.
use Rattle.std.proofs.Common.{◌≡◌, ◌⊎◌, ℕ, ◌+◌, List, [], Bool, true, false, slice_get, Option, Some, None, refl, sym, ◌∙◌, ap, subst, inl, inr, arith}
use Rattle.std.specs.Prelude.{◌&&◌}
use Rattle.std.proofs.lemmas.Bool.{cases_eq, cond-false}
use Rattle.tdb_disk.specs.History.{History, seen}
use Rattle.tdb_disk.specs.Stop.{Leaves, LeavesOnly, Quiet}
use Rattle.tdb_disk.proofs.Runs.{leaves_now, leaves_start, leaves_weaker}
use Rattle.tdb_disk.proofs.Stop.{leaves_seen}
use Rattle.tdb_space.specs.Accepted.{AcceptWith}
use Rattle.tdb_space.specs.Form.{Form, form_in}
use Rattle.tdb_space.specs.Opening.{own_map, restored}
use Rattle.tdb_space.specs.Undoing.{Reopens}
use Rattle.tdb_space.proofs.Opening.Undone.{read_as_it_is}
use Rattle.tdb_space.proofs.Undoing.Alike.{exact_reopens}
use Rattle.tdb_words.specs.Header.{sequence_of}
use Rattle.tdb_words.specs.declared.header.Header.{Header}
use Rattle.tdb_locks.specs.declared.piece.Piece.{Piece}
use Rattle.tdb_locks.specs.declared.turn.Turn.{Turn as TurnIs}
use Rattle.tdb_law.specs.Commands.{Command, GroupCommand, Reply, Turn}
use Rattle.tdb_law.specs.Commands.GroupCommand.{Start, Commit}
use Rattle.tdb_law.specs.Commands.Command.{OnGroup}
use Rattle.tdb_law.specs.Commands.Reply.{Busy, Done, Full, Memory, Number}
use Rattle.tdb_law.specs.Commands.Turn.{Ends}
use Rattle.tdb_law.specs.Effects.{Effect, task_left}
use Rattle.tdb_law.specs.Effects.Effect.{effect_waits, effect_goes_on, effect_changes, effect_answers, effect_shows, effect_starves, effect_is_full, effect_is_busy, effect_numbers, effect_finishes}
use Rattle.tdb_law.specs.Images.{image_map}
use Rattle.tdb_law.specs.Openers.{Map, Own, Task, Txn}
use Rattle.tdb_law.specs.Rows.{commits_in, gate_shut, is_changed}
use Rattle.tdb_law.specs.World.{State}
use Rattle.tdb_law.proofs.Walking.{put_else, put_here}
use Rattle.tdb_steps.specs.Turns.{number_of}
use Rattle.tdb_txn_turns.specs.Commits.{OpensAs}
use Rattle.tdb_txn_turns.specs.declared.committing.Committing.TheVariants as Commits
use Rattle.tdb_txn_turns.specs.declared.finishing.Finishing.TheVariants as Finishes
use Rattle.tdb_txn_turns.specs.Starts.{start_steps}
use Rattle.tdb_txn_turns.specs.declared.starting.Starting.{Starting}
use Rattle.tdb_commands.specs.InLaw.{law_opener, law_turn}
use Rattle.tdb_commands.specs.declared.options.Options.{Options}
use Rattle.tdb_law.specs.OneAside.Sides.{Past, Side, beside}
use Rattle.tdb_law.specs.OneAside.Starts.{new_start, with_starts}
use Rattle.tdb_txn_owner.specs.Ends.{task_of}
use Rattle.tdb_txn_owner.specs.Holders.{is_idle, left_stage, HolderState, HolderTurned, StageMayLeave}
use Rattle.tdb_txn_owner.specs.Stages.{stage_task, HasNumbers, HasOuter, IsSide, Known, KnowsFile}
use Rattle.tdb_txn_owner.specs.Turned.{brings, keeps, BeginsOn, KeepsFile, KnowsLeft, MayTurn, RestsLike, StageTurned}
use Rattle.tdb_txn_owner.specs.declared.stage.Stage.{Stage}
use Rattle.tdb_txn_owner.specs.declared.stage.Stage.TheVariants as At
use Rattle.tdb_txn_owner.proofs.GroupEffects.{changed_is}
use Rattle.tdb_txn_owner.proofs.HolderTurns.{busy_task, may_alone, own_table}
use Rattle.tdb_txn_owner.proofs.Planned.{plans_commits}
use Rattle.tdb_txn_owner.proofs.Sided.{same_task}
use Rattle.tdb_txn_owner.proofs.ReadAs.{opens_as, OpensIn}
use Rattle.tdb_openers.specs.Openers.{own_at}
use Rattle.tdb_openers.specs.Worlds.{state_in, World}
use Rattle.tdb_openers.specs.declared.opener.Opener.{Opener}
use Rattle.tdb_world.specs.Claims.{ClaimStands}
use Rattle.tdb_world.specs.States.{state_with, IsStateOf, SideIs}
use Rattle.tdb_world.specs.States.IsStateOf.{of_stale, of_whole}
use Rattle.tdb_world.specs.Steps.{with_aside}
use Rattle.tdb_world.specs.Stops.{IsSafe, IsShutting, OpensToState, OpensToTxn, TransactionsAreSafe, TurnMayLeave}
use Rattle.tdb_world.specs.Whole.{form_at, is_starting, options_at, HolderFits, Whole, WorldFits}
use Rattle.tdb_world.proofs.ClaimUsed.{listed}
use Rattle.tdb_world.proofs.Leading.{begins, begun, here}
use Rattle.tdb_world.proofs.Reopening.{stage_leaves, state_reopens, HasTxn}
use Rattle.tdb_world.proofs.Staged.{knows_stage}
use Rattle.tdb_world.proofs.TurnsLead.{one_state, IsOne}

-- What opens to the map to which a file opens, opens to that of the file once it is undone.
module _ (f : Form) (r a : List ℕ) (O : OpensIn f r a) where
  undone_map : (key : List ℕ) → own_map (restored f a) key ≡ own_map r key
  undone_map key = subst (λ g. own_map (restored g a) key ≡ own_map r key) O.form (O.reopens.opens.holds key)

  undone_number : sequence_of (restored f a) ≡ sequence_of r
  undone_number = subst (λ g. sequence_of (restored g a) ≡ sequence_of r) O.form O.reopens.sequence

  pub undone_reopens : (c : List ℕ) → Reopens r c → Reopens (restored f a) c
  undone_reopens c R = record {
    opens = record { opens = R.opens.opens; holds = λ key. R.opens.holds key ∙ sym (undone_map key) };
    again = R.again;
    sequence = R.sequence ∙ sym undone_number;
  }

-- While the opener aside has a transaction the file is safe.
pub stage_safe : (f : Form) (stage : Stage) (h : History) (k : Known) → HasTxn stage → KnowsFile f stage h k → IsSafe f h
stage_safe f stage h k has K c left =
    let leaves = stage_leaves f stage h k has K in
    undone_reopens f k.file (seen h) (leaves (seen h) (leaves_seen h)) c (leaves c left).reopens

-- So it is where a quiet disk has an accepted file.
pub accepted_safe : (f : Form) (h : History) → Quiet h → AcceptWith f (seen h) [] → IsSafe f h
accepted_safe f h quiet A c left =
    subst (Reopens (restored f (seen h))) (sym (quiet c left))
    (subst (λ r. Reopens r (seen h)) (sym (read_as_it_is f (seen h) A.shut)) (exact_reopens (seen h) (subst (λ g. AcceptWith g (seen h) []) (sym A.form) A)))

-- So it is where the same is read as before, and a stop leaves nothing that it didn't leave before.
no_more_safe : (f : Form) (old new : History) → seen new ≡ seen old → ((c : List ℕ) → Leaves new c → Leaves old c) → IsSafe f old → IsSafe f new
no_more_safe f old new same less safe c left = subst (λ i. Reopens (restored f i) c) (sym same) (safe c (less c left))

-- a turn that leaves a command is no end of it
no_end : (c : Command) (n : ℕ) (turn : Turn) (t : Task) (r : Reply) → task_left c n turn ≡ Some t → turn ≡ Ends r → ⊥
no_end c n turn t r left ends = let none : None ≡ Some t = sym (ap (task_left c n) ends) ∙ left in absurd (cc none)

-- and by it the opener stays as it is
kept_own : {f : Form} {free : Type 0} {conflict : ℕ → ℕ → Type 0} {finds : Reply → Type 0} {number : ℕ} {x y : Own} {m mm : Map} (c : Command) (n : ℕ) (turn : Turn) (t : Task)
    → task_left c n turn ≡ Some t → Effect f free conflict finds number c n x m turn y mm → y ≡ x
kept_own c n turn t left (effect_waits o b is first un map own) = own
kept_own c n turn t left (effect_goes_on is free un map own) = own
kept_own c n turn t left (effect_changes is free late un made told map own) = own
kept_own c n turn t left (effect_answers r is free still un ready unmade says map own) = absurd (no_end c n turn t r left is)
kept_own c n turn t left (effect_shows r is free moving found map own) = absurd (no_end c n turn t r left is)
kept_own c n turn t left (effect_starves is may un map own) = absurd (no_end c n turn t Memory left is)
kept_own c n turn t left (effect_is_full len need is free may ready un told map own) = absurd (no_end c n turn t (Full len need) left is)
kept_own c n turn t left (effect_is_busy o b is first may map own) = absurd (no_end c n turn t (Busy o b) left is)
kept_own c n turn t left (effect_numbers q is free may same map own) = absurd (no_end c n turn t (Number q) left is)
kept_own c n turn t left (effect_finishes is free made map own) = absurd (no_end c n turn t Done left is)

-- An opener in a Start has no transaction, and at every other stage it has one.
module _ (f : Form) (o : Options) (owner : ℕ) (ps : List Piece) (k : Known) (past : Past) (s : Side) where
  starts_without : (st : Starting) → IsSide f o owner ps (At.Starting st) k past s → s.own.txn ≡ None
  starts_without st S = sym (ap (λ (x : Own). x.txn) S.own.bare)

  pub txn_at : (stage : Stage) → HasTxn stage → IsSide f o owner ps stage k past s → (t : Txn) × (s.own.txn ≡ Some t)
  txn_at (At.Starting st) has S = absurd has
  txn_at (At.Open txn command) has S = (_, S.own.txn)
  txn_at (At.Committing c) has S = (S.own.txn, S.own.has.outer.has)
  txn_at (At.Preparing p) has S = (S.own.txn, S.own.has.outer.has)
  txn_at (At.Prepared left command) has S = (S.own.txn, S.own.has.outer.has)
  txn_at (At.Finishing c) has S = (S.own.txn, S.own.has.outer.has)

  pub has_txn_by : (stage : Stage) (t : Txn) → s.own.txn ≡ Some t → IsSide f o owner ps stage k past s → HasTxn stage
  has_txn_by (At.Starting st) t is S = absurd (let none : None ≡ Some t = sym (starts_without st S) ∙ is in cc none)
  has_txn_by (At.Open txn command) t is S = tt
  has_txn_by (At.Committing c) t is S = tt
  has_txn_by (At.Preparing p) t is S = tt
  has_txn_by (At.Prepared left command) t is S = tt
  has_txn_by (At.Finishing c) t is S = tt

-- the end of a transaction leaves an accepted file on a quiet disk
rests_after : (f : Form) (before : Stage) (old new : History) (k : Known) → HasTxn before → KnowsLeft f before None old new k → RestsLike f new k.file
rests_after f (At.Starting st) old new k has K = absurd has
rests_after f (At.Open txn command) old new k has K = K.0
rests_after f (At.Committing c) old new k has K = K.0
rests_after f (At.Preparing p) old new k has K = K.0
rests_after f (At.Prepared left command) old new k has K = K.0
rests_after f (At.Finishing c) old new k has K = K.0

-- A turn of the opener aside leaves a safe file, where it was safe.
module _ (f : Form) (o : Options) (table : ℕ → ℕ → ℕ) (owner : ℕ) (ps rs : List Piece) (old new : History) (k : Known) (past : Past) (s : Side) (t : Task) (turn : Turn) where
  -- no Start follows a transaction
  no_start : (before : Stage) (st : Starting) → HasTxn before → IsSide f o owner ps before k past s
      → StageTurned f o table owner rs before (Some (At.Starting st)) old new k past s t turn → ⊥
  no_start before st has S T =
      let was = txn_at f o owner ps k past s before has S in
      let same : T.side.own ≡ s.own = kept_own t.command t.steps turn _ (sym T.turned.leaves ∙ T.left.task) T.turned.effect in
      let none : None ≡ Some was.0 = sym (starts_without f o owner rs T.known T.later T.side st T.left) ∙ (ap (λ (x : Own). x.txn) same ∙ was.1) in
      absurd (cc none)

  -- a turn of a transaction
  txn_safe : (before : Stage) (after : Option Stage) → HasTxn before → IsSide f o owner ps before k past s → StageTurned f o table owner rs before after old new k past s t turn → IsSafe f new
  txn_safe before None has S T = let R = rests_after f before old new T.known has T.file in accepted_safe f new R.quiet R.accepted
  txn_safe before (Some (At.Starting st)) has S T = absurd (no_start before st has S T)
  txn_safe before (Some (At.Open txn command)) has S T = stage_safe f (At.Open txn command) new T.known tt (knows_stage f before (At.Open txn command) old new T.known T.file)
  txn_safe before (Some (At.Committing c)) has S T = stage_safe f (At.Committing c) new T.known tt (knows_stage f before (At.Committing c) old new T.known T.file)
  txn_safe before (Some (At.Preparing p)) has S T = stage_safe f (At.Preparing p) new T.known tt (knows_stage f before (At.Preparing p) old new T.known T.file)
  txn_safe before (Some (At.Prepared left command)) has S T = stage_safe f (At.Prepared left command) new T.known tt (knows_stage f before (At.Prepared left command) old new T.known T.file)
  txn_safe before (Some (At.Finishing c)) has S T = stage_safe f (At.Finishing c) new T.known tt (knows_stage f before (At.Finishing c) old new T.known T.file)

  -- a turn of a Start leaves the image that is read
  start_reads : (st : Starting) → stage_task (At.Starting st) ≡ Some t → (n : Known) → KeepsFile f s t turn k n → n.file ≡ k.file
  start_reads st mine n (keeps same) = same
  start_reads st mine n (brings txn commits step has image made accepted now) =
      absurd (let is = same_task (task_of (OnGroup Start) (start_steps st)) t mine in let bad = ap (λ (u : Task). u.command) is ∙ commits in cc bad)

  -- and a stop leaves no more than there was
  start_safe : (st : Starting) (after : Option Stage) → stage_task (At.Starting st) ≡ Some t → KnowsFile f (At.Starting st) old k → LeavesOnly old new (Leaves old) → IsSafe f old
      → StageTurned f o table owner rs (At.Starting st) after old new k past s t turn → IsSafe f new
  start_safe st None mine K only safe T = subst (IsSafe f) (sym T.file) safe
  start_safe st (Some (At.Starting st2)) mine K only safe T =
      no_more_safe f old new (T.file.at ∙ (start_reads st mine T.known T.kept ∙ sym K.at)) (leaves_now old new (Leaves old) only) safe
  start_safe st (Some (At.Open txn command)) mine K only safe T = stage_safe f (At.Open txn command) new T.known tt T.file
  start_safe st (Some (At.Committing c)) mine K only safe T = stage_safe f (At.Committing c) new T.known tt T.file
  start_safe st (Some (At.Preparing p)) mine K only safe T = stage_safe f (At.Preparing p) new T.known tt T.file
  start_safe st (Some (At.Prepared left command)) mine K only safe T = stage_safe f (At.Prepared left command) new T.known tt T.file
  start_safe st (Some (At.Finishing c)) mine K only safe T = stage_safe f (At.Finishing c) new T.known tt T.file

  -- so it is at each stage
  pub stage_stays_safe : (before : Stage) (after : Option Stage) → stage_task before ≡ Some t → IsSide f o owner ps before k past s → KnowsFile f before old k
      → LeavesOnly old new (StageMayLeave before old k) → IsSafe f old → StageTurned f o table owner rs before after old new k past s t turn → IsSafe f new
  stage_stays_safe (At.Starting st) after mine S K only safe T = start_safe st after mine K only safe T
  stage_stays_safe (At.Open txn command) after mine S K only safe T = txn_safe (At.Open txn command) after tt S T
  stage_stays_safe (At.Committing c) after mine S K only safe T = txn_safe (At.Committing c) after tt S T
  stage_stays_safe (At.Preparing p) after mine S K only safe T = txn_safe (At.Preparing p) after tt S T
  stage_stays_safe (At.Prepared left command) after mine S K only safe T = txn_safe (At.Prepared left command) after tt S T
  stage_stays_safe (At.Finishing c) after mine S K only safe T = txn_safe (At.Finishing c) after tt S T

-- What opens to the file as it is read opens to each state of the world.
pub opens_to_state : (w : Whole) (h : History) (state : State) → IsStateOf w h state → (c : List ℕ) → Reopens (restored (form_at w) (seen h)) c → OpensToState (form_at w) state c
opens_to_state w h state S c reopens =
    let R = state_reopens w h state S in record { image = restored (form_at w) (seen h); reopens = reopens; file = R.file; number = R.number }

-- Where the history stays, a stop leaves the map that the file has.
pub still_leaves : (w : Whole) (h later : History) (state : State) (o : ℕ) → later ≡ h → IsStateOf w h state → IsSafe (form_at w) h → LeavesOnly h later (TurnMayLeave (form_at w) state o)
still_leaves w h later state o same S safe =
    subst (λ z. LeavesOnly h z (TurnMayLeave (form_at w) state o)) (sym same) (leaves_start h (TurnMayLeave (form_at w) state o) (λ c left. inl (opens_to_state w h state S c (safe c left))))

-- The one aside as a state shows it, and what a stop in its next turn may leave.
module _ (f : Form) (o : Options) (owner : ℕ) (ps : List Piece) (h : History) (k : Known) (past : Past) (s : Side) (p : State) (file : p.file ≡ image_map f k.file)
    (number : p.number ≡ number_of f k.file) (starts : ℕ → Bool) (begun : starts s.here ≡ false) where
  abbrev now : State
  now = with_starts starts (beside p past s)

  -- what it has, and its command
  own_now : now.own s.here ≡ s.own
  own_now = put_here p.own s.here s.own s.here refl

  task_now : now.task s.here ≡ s.task
  task_now = cond-false (starts s.here) (Some new_start) _ begun ∙ put_here p.task s.here s.task s.here refl

  -- what opens to the map before
  opens_before : (c : List ℕ) → Reopens k.file c → OpensToState f now c
  opens_before c reopens = record { image = k.file; reopens = reopens; file = file; number = number }

  -- once the gate is shut it has the transaction's map
  opens_after : k.file ≡ k.image → (c : List ℕ) → OpensAs k.image c → OpensToState f now c
  opens_after same c opens =
      record { image = k.image; reopens = opens_as k.image c opens; file = file ∙ ap (image_map f) same; number = number ∙ ap (number_of f) same }

  -- what opens as the transaction's image
  opens_txn : (g : GroupCommand) (prepared : Option ℕ) (txn : Txn) → HasOuter f k.image g prepared txn s.own → HasNumbers f k (past.numbers s.here) s.own
      → (c : List ℕ) → OpensAs k.image c → OpensToTxn f now s.here c
  opens_txn g prepared txn H N c opens = record {
    txn = txn;
    has = ap (λ (x : Own). x.txn) own_now ∙ H.outer.has;
    image = k.image;
    reopens = opens_as k.image c opens;
    map = H.map;
    number = N.image txn H.outer.has;
  }

  -- the turn after so many steps shuts the gate of a Commit
  shutting : (n : ℕ) (prepared : Option ℕ) (txn : Txn) → HasOuter f k.image Commit prepared txn s.own → s.task ≡ Some (task_of (OnGroup Commit) n) → commits_in txn ≡ true
      → gate_shut prepared n ≡ false → gate_shut prepared (n + 1) ≡ true → IsShutting f now s.here
  shutting n prepared txn H task commits before after = record {
    task = task_of (OnGroup Commit) n;
    has = task_now ∙ task;
    commits = refl;
    not_yet = by_own n ∙ rw (commits, H.prepared_is, before) refl;
    shut = by_own (n + 1) ∙ rw (commits, H.prepared_is, after) refl;
  }
    where
      by_own : (m : ℕ) → is_changed f (OnGroup Commit) (now.own s.here) m ≡ (commits_in txn && gate_shut txn.prepared m)
      by_own m = ap (λ x. is_changed f (OnGroup Commit) x m) own_now ∙ changed_is f s.own txn H.outer m

  -- what the turn that shuts it may leave
  either : (d : List ℕ) → IsShutting f now s.here → (OpensAs k.image d → OpensToTxn f now s.here d) → Reopens k.file d ⊎ OpensAs k.image d → TurnMayLeave f now s.here d
  either d shuts txn left = elim left [ inl old ↦ inl (opens_before d old) | inr opens ↦ inr (shuts, txn opens) ]

  -- by its stage
  pub stage_may_leave : (stage : Stage) → IsSide f o owner ps stage k past s → KnowsFile f stage h k → ((d : List ℕ) → Leaves h d → OpensToState f now d)
      → (d : List ℕ) → StageMayLeave stage h k d → TurnMayLeave f now s.here d
  stage_may_leave (At.Starting st) S K still d left = inl (still d left)
  stage_may_leave (At.Open txn command) S K still d left = inl (opens_before d left)
  stage_may_leave (At.Committing (Commits.Preparing p)) S K still d left = inl (opens_before d left)
  stage_may_leave (At.Committing (Commits.Finishing (Finishes.Open state))) S K still d left = inl (opens_before d left)
  stage_may_leave (At.Committing (Commits.Finishing (Finishes.Applied state))) S K still d left = inl (opens_before d left)
  stage_may_leave (At.Committing (Commits.Finishing (Finishes.Settled state))) S K still d left =
      either d (shutting 7 None S.own.txn S.own.has S.task (plans_commits S.own.txn S.own.has.prepared_is ∙ S.own.change) refl refl) (opens_txn Commit None S.own.txn S.own.has S.numbers d) left
  stage_may_leave (At.Committing (Commits.Finishing Finishes.Shut)) S K still d left = inl (opens_after (K.at.1 (omega arith)) d left)
  stage_may_leave (At.Preparing p) S K still d left = inl (opens_before d left)
  stage_may_leave (At.Prepared left command) S K still d leaves = inl (opens_before d leaves)
  stage_may_leave (At.Finishing (Finishes.Open state)) S K still d left = inl (opens_before d left)
  stage_may_leave (At.Finishing (Finishes.Applied state)) S K still d left = inl (opens_before d left)
  stage_may_leave (At.Finishing (Finishes.Settled state)) S K still d left =
      let changed : commits_in S.own.txn ≡ true = rw (S.own.has.outer.outer, S.own.change, S.own.has.prepared_is) refl in
      either d (shutting 2 (Some 4) S.own.txn S.own.has S.task changed refl refl) (opens_txn Commit (Some 4) S.own.txn S.own.has S.numbers d) left
  stage_may_leave (At.Finishing Finishes.Shut) S K still d left = inl (opens_after (K.at.1 (omega arith)) d left)

-- What the opener by itself says of its turn on a file with this header: what a stop leaves, and what the turn is.
abbrev pub StopsOf : HolderState → History → History → Type 0
StopsOf h old new = (f : Form) (k : Known) → KnowsFile f h.stage old k → LeavesOnly old new (StageMayLeave h.stage old k)

abbrev pub IsTurnOf : Header → Options → HolderState → Option HolderState → History → History → TurnIs → Type 0
IsTurnOf hd o h after old new turn =
    (table : ℕ → ℕ → ℕ) (k : Known) (past : Past) (s : Side) (t : Task) → let f = form_in hd in IsSide f o h.owner h.locks h.stage k past s → KnowsFile f h.stage old k → BeginsOn f h.stage k.file
    → stage_task h.stage ≡ Some t → MayTurn f table s t → HolderTurned f o table h after old new k past s t (law_turn turn)

-- A turn of the one aside, in each state of its world.
module _ (w0 : Whole) (h : HolderState) (fresh : w0.stale ≡ false) (busy : is_idle h.stage ≡ false) (any : List ℕ) (size : ℕ) (F : WorldFits (with_aside w0 h) any size)
    (old : History) (state : State) (S : IsStateOf (with_aside w0 h) old state) (safe : IsSafe (form_at w0) old) where
  abbrev f : Form
  f = form_at w0

  abbrev HF : HolderFits (with_aside w0 h) h size
  HF = F.aside

  abbrev one : IsOne (with_aside w0 h) h old state
  one = one_state w0 h fresh old state S

  abbrev t : Task
  t = (busy_task h.stage busy).0

  mine : stage_task h.stage ≡ Some t
  mine = (busy_task h.stage busy).1

  abbrev shown : State
  shown = with_starts (is_starting w0.starts) (beside (state_in w0.openers one.known.file) one.past one.side)

  -- what a stop in its turn may leave, in the words of the state
  may_leave : (c : List ℕ) → StageMayLeave h.stage old one.known c → TurnMayLeave f state (law_opener h.owner) c
  may_leave c left =
      subst (λ z. TurnMayLeave f z (law_opener h.owner) c) (sym one.is)
      (subst (λ q. TurnMayLeave f shown q c) (sym (here (with_aside w0 h) h any size F HF old one.known one.past one.side one.at t mine))
      (stage_may_leave f (options_at w0) h.owner h.locks old one.known one.past one.side (state_in w0.openers one.known.file) refl refl (is_starting w0.starts)
      (begun (with_aside w0 h) h any size F HF old one.known one.past one.side one.at t mine) h.stage one.at.side one.at.file
      (λ d leaves. subst (λ z. OpensToState f z d) one.is (opens_to_state (with_aside w0 h) old state S d (safe d leaves))) c left))

  module _ (new : History) (stops : StopsOf h old new) where
    only : LeavesOnly old new (StageMayLeave h.stage old one.known)
    only = stops f one.known one.at.file

    pub aside_stops : LeavesOnly old new (TurnMayLeave f state (law_opener h.owner))
    aside_stops = leaves_weaker old new (StageMayLeave h.stage old one.known) (TurnMayLeave f state (law_opener h.owner)) may_leave only

    -- and after it the file is safe
    pub aside_stays_safe : (turn : TurnIs) (after : Option HolderState) → IsTurnOf w0.openers.header (options_at w0) h after old new turn → IsSafe f new
    aside_stays_safe turn after T =
        let k = one.known in
        let s = one.side in
        let S = one.at.side in
        let table = own_table f (options_at w0) h.owner h.locks h.stage k one.past s t S mine in
        let H =
        T table k one.past s t S one.at.file (begins (with_aside w0 h) h any size F HF old k one.past s one.at t mine) mine
        (may_alone f (options_at w0) h.owner h.locks h.stage k one.past s t S mine) in
        stage_stays_safe f (options_at w0) table h.owner h.locks H.locks old new k one.past s t (law_turn turn) h.stage (left_stage after) mine S one.at.file only safe H.turned

-- The same of a turn for which the lock of records was taken, where the file has the history that it had then.
module _ (w : Whole) (h : HolderState) (img : List ℕ) (size : ℕ) (before : World) (x : Opener) (S : ClaimStands w h img size before x) (fresh : w.stale ≡ false)
    (busy : is_idle h.stage ≡ false) (old mid : History) (same : mid ≡ old) (state : State)
    (is : IsStateOf (record w { openers = before; aside = Some h }) old state) (safe : IsSafe (form_in before.header) old) (new : History) (stops : StopsOf h mid new) where
  stops_now : StopsOf h old new
  stops_now = subst (λ q. StopsOf h q new) same stops

  pub used_stops : LeavesOnly old new (TurnMayLeave (form_in before.header) state (law_opener h.owner))
  used_stops = aside_stops (record w { openers = before }) h fresh busy img size S.fits old state is safe new stops_now

  pub used_safe : (hd : Header) (o : Options) → hd ≡ w.openers.header → o ≡ w.openers.options → (turn : TurnIs) (after : Option HolderState) → IsTurnOf hd o h after mid new turn
      → IsSafe (form_in before.header) new
  used_safe hd o header options turn after T =
      let claimed = listed w h img size before x S in
      let same_header : hd ≡ before.header = header ∙ ap (λ (q : World). q.header) claimed in
      let same_options : o ≡ before.options = options ∙ ap (λ (q : World). q.options) claimed in
      aside_stays_safe (record w { openers = before }) h fresh busy img size S.fits old state is safe new stops_now turn after
      (subst (λ q. IsTurnOf before.header q h after old new turn) same_options
      (subst (λ q. IsTurnOf q o h after old new turn) same_header (subst (λ q. IsTurnOf hd o h after q new turn) same T)))

-- an opener among the others has no transaction
without_txn : (o : Options) (x : Option Opener) → (own_at o x).txn ≡ None
without_txn o None = refl
without_txn o (Some x) = refl

module _ (w : Whole) (h : History) (o : ℕ) (txn : Txn) where
  pub no_other : (img : List ℕ) → ((state_in w.openers img).own o).txn ≡ Some txn → ⊥
  no_other img has = let none : None ≡ Some txn = sym (without_txn (options_at w) (slice_get w.openers.openers o)) ∙ has in absurd (cc none)

  -- the one aside has it
  side_safe : (aside : Option HolderState) (img : List ℕ) (past : Past) (side : Option Side) → SideIs w aside h img past side
      → ((state_with w img past side).own o).txn ≡ Some txn → IsSafe (form_at w) h
  side_safe None img past None A has = absurd (no_other img has)
  side_safe None img past (Some s) A has = absurd A
  side_safe (Some holder) img past None A has = absurd A
  side_safe (Some holder) img past (Some s) A has = elim (cases_eq o s.here) [
    | inl is ↦
        let own : s.own.txn ≡ Some txn = sym (ap (λ (x : Own). x.txn) (put_here (state_in w.openers img).own s.here s.own o is)) ∙ has in
        stage_safe (form_at w) holder.stage h A.known (has_txn_by (form_at w) (options_at w) holder.owner holder.locks A.known past s holder.stage txn own A.side) A.file
    | inr other ↦ absurd (no_other img (sym (ap (λ (x : Own). x.txn) (put_else (state_in w.openers img).own s.here s.own o other)) ∙ has))
  ]

-- While an opener has a transaction the file is safe.
pub transactions_safe : TransactionsAreSafe
transactions_safe w h state o txn (of_whole S) has = side_safe w h o txn w.aside S.image S.past S.side S.is_side (subst (λ z. (z.own o).txn ≡ Some txn) S.is has)
transactions_safe w h state o txn (of_stale S) has = absurd (no_other w h o txn S.image (subst (λ z. (z.own o).txn ≡ Some txn) S.is has))
