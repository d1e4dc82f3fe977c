-- The turns of each stage end with Full where there is no room, and only there.
use Rattle.std.proofs.Common.{◌≡◌, ℕ, List, ◌∷◌, [], Bool, true, false, Option, None, Some, refl, sym, ◌∙◌, ap, subst, inl, inr}
use Rattle.std.specs.Prelude.{◌&&◌, ◌||◌, ◌==◌, if◌then◌else◌}
use Rattle.std.proofs.Math.Bool.{and-false}
use Rattle.std.specs.Prelude.{Result, Ok, Err, IfOk}
use Rattle.tdb_disk.specs.History.{History, seen}
use Rattle.tdb_space.specs.Form.{Form}
use Rattle.tdb_space.specs.Pairs.{map_of}
use Rattle.tdb_locks.specs.declared.piece.Piece.{Piece}
use Rattle.tdb_locks.specs.declared.turn.Reply as Replies
use Rattle.tdb_locks.specs.declared.turn.Reply.TheVariants as Reply
use Rattle.tdb_law.specs.Commands as Law
use Rattle.tdb_law.specs.Commands.{MapCommand, is_spare}
use Rattle.tdb_law.specs.Commands.MapCommand.{Fetch, Has, Delete, Store, Insert, Modify, Append, Wipe, Check}
use Rattle.tdb_law.specs.Commands.GroupCommand.{Start, Commit, Prepare, Cancel}
use Rattle.tdb_law.specs.Commands.Command.{OnMap, OnLocks, Seqnum, OnGroup, OnWalk}
use Rattle.tdb_law.specs.Commands.Reply.{Full}
use Rattle.tdb_law.specs.Commands.Turn.{Blocked, Ends}
use Rattle.tdb_law.specs.Effects.{Effect, Finds}
use Rattle.tdb_law.specs.Effects.Effect.{effect_waits, effect_goes_on, effect_changes, effect_answers, effect_shows, effect_starves, effect_is_full, effect_is_busy, effect_numbers, effect_finishes}
use Rattle.tdb_law.specs.Effects.Finds.{finds_pair, finds_end}
use Rattle.tdb_law.specs.Ends.{commit_ends, commit_last, ends_by, not_full, prepare_ends, IsRow}
use Rattle.tdb_law.specs.Openers.{Map, Own, Task, Txn}
use Rattle.tdb_law.specs.Outcomes.{fills, fills_by, plans}
use Rattle.tdb_law.specs.Refusals.{first_that_applies, is_prepared, reads_all, refusal, Refusal, Refusals}
use Rattle.tdb_law.specs.Refusals.Refusal.{OnlyReads, IsPrepared, LocksStand}
use Rattle.tdb_law.specs.OneAside.Sides.{Past, Side}
use Rattle.tdb_law.specs.OneAside.Own.{OwnTurned}
use Rattle.tdb_law.proofs.Local.{told_plain}
use Rattle.tdb_steps.specs.PlainCommands.{reply_of}
use Rattle.tdb_steps.specs.Room.{stored_pair, FullExactly}
use Rattle.tdb_txn_turns.specs.Committings.{commit_turn}
use Rattle.tdb_txn_turns.specs.InsideTxn.OwnTxns.{form_of}
use Rattle.tdb_txn_turns.specs.Prepares.{prepare_turn}
use Rattle.tdb_txn_turns.specs.Room.{CommitFull, FullJustWhere, NeverFull, PrepareFull}
use Rattle.tdb_txn_turns.specs.declared.committing.Committing.{Committing}
use Rattle.tdb_txn_turns.specs.declared.committing.Committing.TheVariants.{Preparing, Finishing}
use Rattle.tdb_txn_turns.specs.declared.committing.CommitTurn.{CommitTurn}
use Rattle.tdb_txn_turns.specs.declared.committing.CommitTurn.TheVariants as Commits
use Rattle.tdb_txn_turns.specs.declared.preparing.PrepareStage.{PrepareStage}
use Rattle.tdb_txn_turns.specs.declared.preparing.PrepareTurn.{PrepareTurn}
use Rattle.tdb_txn_turns.specs.declared.preparing.PrepareTurn.TheVariants as Prepares
use Rattle.tdb_txn_turns.proofs.Room.{never, other_turn}
use Rattle.tdb_commands.specs.InLaw.{law_command, law_opener, law_reply, law_turn}
use Rattle.tdb_commands.specs.declared.command.Command.{Command}
use Rattle.tdb_commands.specs.declared.command.Command.TheVariants as Given
use Rattle.tdb_commands.specs.declared.options.Options.{Options}
use Rattle.tdb_txn_owner.specs.declared.stage.Stage.{Stage}
use Rattle.tdb_txn_owner.specs.Given.{IsMapped}
use Rattle.tdb_txn_owner.specs.declared.open_txn.OpenTxn.{OpenTxn}
use Rattle.tdb_txn_owner.specs.declared.stage.Stage.TheVariants as At
use Rattle.tdb_txn_owner.specs.declared.stage.Went.{Went}
use Rattle.tdb_txn_owner.specs.Ends.{task_of}
use Rattle.tdb_txn_owner.specs.Room.{GrantedFull, GrantedLacks, StageFull}
use Rattle.tdb_txn_owner.specs.Stages.{stage_task, Known, IsSide, KnowsFile}
use Rattle.tdb_txn_owner.specs.Turned.{BeginsOn, MayTurn}
use Rattle.tdb_txn_owner.specs.Wents.{commit_went, prepare_went, TurnsFrom}
use Rattle.tdb_txn_owner.proofs.Sided.{same_task}

-- A turn of a Prepare or of a Commit is one of the opener, of which the law counts the owners from 0.
prepare_blocked : (s : PrepareStage) (limit : ℕ) (r : List ℕ) (owner byte : ℕ) → PrepareFull s limit r (Blocked owner byte) → PrepareFull s limit r (Blocked (law_opener owner) byte)
prepare_blocked s limit r owner byte F = other_turn limit r (Blocked owner byte) (Blocked (law_opener owner) byte) (λ len need e. cc e) (λ e. cc e) (λ len need e. cc e) (λ e. cc e) s F

pub prepare_went_full : (s : PrepareStage) (limit : ℕ) (r : List ℕ) (changed : Bool) (turn : PrepareTurn) → PrepareFull s limit r (prepare_turn turn) → PrepareFull s limit r (law_turn (prepare_went changed turn).turn)
prepare_went_full s limit r changed (Prepares.Step next) F = F
prepare_went_full s limit r changed (Prepares.Blocked owner byte again) F = prepare_blocked s limit r owner byte F
prepare_went_full s limit r changed Prepares.Nothing F = F
prepare_went_full s limit r changed (Prepares.Full len need) F = F
prepare_went_full s limit r changed Prepares.Memory F = F
prepare_went_full s limit r changed (Prepares.Done state) F = F

commit_blocked : (c : Committing) (limit : ℕ) (r : List ℕ) (owner byte : ℕ) → CommitFull c limit r (Blocked owner byte) → CommitFull c limit r (Blocked (law_opener owner) byte)
commit_blocked (Preparing p) limit r owner byte F = prepare_blocked p.stage limit r owner byte F
commit_blocked (Finishing s) limit r owner byte F = never (Blocked (law_opener owner) byte) (λ len need e. cc e)

pub commit_went_full : (c : Committing) (limit : ℕ) (r : List ℕ) (turn : CommitTurn) → CommitFull c limit r (commit_turn turn) → CommitFull c limit r (law_turn (commit_went turn).turn)
commit_went_full c limit r (Commits.Step next) F = F
commit_went_full c limit r (Commits.Blocked owner byte again) F = commit_blocked c limit r owner byte F
commit_went_full c limit r (Commits.Full len need) F = F
commit_went_full c limit r Commits.Memory F = F
commit_went_full c limit r Commits.Done F = F

-- and so is the reply of a command on the map
pub reply_full : (f : Form) (img : List ℕ) (limit : ℕ) (c : Law.Command) (r : Replies.Reply) → FullExactly f img limit c (Ends (reply_of r)) → FullExactly f img limit c (Ends (law_reply r))
reply_full f img limit c Reply.Ok F = F
reply_full f img limit c (Reply.Value v) F = F
reply_full f img limit c (Reply.Pair k v) F = F
reply_full f img limit c Reply.End F = F
reply_full f img limit c Reply.KeyMissing F = F
reply_full f img limit c Reply.KeyThere F = F
reply_full f img limit c (Reply.Busy owner byte) F = record {
  only = λ len need e. absurd (cc e);
  always = λ len need N. elim (F.always len need N) [ inl e ↦ absurd (cc e) | inr e ↦ absurd (cc e) ];
}
reply_full f img limit c Reply.ReadOnly F = F
reply_full f img limit c Reply.NoTransaction F = F
reply_full f img limit c Reply.InTransaction F = F
reply_full f img limit c Reply.Nesting F = F
reply_full f img limit c Reply.Doomed F = F
reply_full f img limit c (Reply.HeldLocks n) F = F
reply_full f img limit c Reply.NotLocked F = F
reply_full f img limit c (Reply.Full len need) F = F
reply_full f img limit c Reply.Memory F = F
reply_full f img limit c Reply.Yes F = F
reply_full f img limit c Reply.No F = F
reply_full f img limit c (Reply.Number n) F = F

-- one that finds no memory is never told that there is no room
pub memory_full : (f : Form) (img : List ℕ) (limit : ℕ) (c : Law.Command) → FullExactly f img limit c (Ends Law.Reply.Memory)
memory_full f img limit c = record { only = λ len need e. absurd (cc e); always = λ len need N. inr refl }

-- what is so of each answer
pub every : {V E : Type 0} (r : Result V E) (P : V → Type 0) → ((v : V) → P v) → IfOk r P
every (Ok v) P all = all v
every (Err e) P all = tt

-- By the law a turn that ends with Full is of a command that fills.
found_not : (f : Form) (table want : ℕ → ℕ) (m : Map) (r : Law.Reply) (len need : ℕ) → Finds f table want m r → r ≡ Full len need → ⊥
found_not f table want m r len need (finds_pair k v is there held) e = cc (sym is ∙ e)
found_not f table want m r len need (finds_end is) e = cc (sym is ∙ e)

same_end : (r s : Law.Reply) → Ends r ≡ Ends s → r ≡ s
same_end r s e = cc

module _ (f : Form) (free : Type 0) (conflict : ℕ → ℕ → Type 0) (finds : Law.Reply → Type 0) (number : ℕ) (c : Law.Command) (n : ℕ) (x y : Own) (file next : Map) (u : Law.Turn) (len need : ℕ) (full : u ≡ Ends (Full len need))
    (none : (r : Law.Reply) → finds r → r ≡ Full len need → ⊥) where
  full_by : Effect f free conflict finds number c n x file u y next → fills f c x ≡ true
  full_by (effect_waits o b turn conf before same own) = absurd (cc (sym turn ∙ full))
  full_by (effect_goes_on turn clear before same own) = absurd (cc (sym turn ∙ full))
  full_by (effect_changes turn clear looks before after says is own) = absurd (cc (sym turn ∙ full))
  full_by (effect_answers r turn clear unmoved uncounted ready before says is own) =
      let same = same_end r (Full len need) (sym turn ∙ full) in
      absurd (let e : true ≡ false = ap is_spare (sym same ∙ says) ∙ told_plain f c x file in cc e)
  full_by (effect_shows r turn clear moved found same own) = absurd (none r found (same_end r (Full len need) (sym turn ∙ full)))
  full_by (effect_starves turn starves before same own) = absurd (cc (sym turn ∙ full))
  full_by (effect_is_full l k turn clear filling ready before says same own) = filling
  full_by (effect_is_busy o b turn conf busies same own) = absurd (cc (sym turn ∙ full))
  full_by (effect_numbers q turn clear counts is same own) = absurd (cc (sym turn ∙ full))
  full_by (effect_finishes turn clear before same own) = absurd (cc (sym turn ∙ full))

module _ (f : Form) (table : ℕ → ℕ → ℕ) (m mm : Map) (q qq : ℕ) (old new : Past) (s z : Side) (t : Task) (turn : Law.Turn) (T : OwnTurned f table m mm q qq old new s z t turn) where
  pub turned_fills : (len need : ℕ) → turn ≡ Ends (Full len need) → fills f t.command s.own ≡ true
  turned_fills len need full = full_by f _ _ _ _ t.command t.steps s.own z.own m mm turn len need full (λ r F e. found_not f _ _ _ r len need F e) T.effect

  pub turned_never : fills f t.command s.own ≡ false → NeverFull turn
  turned_never spares = never turn (λ len need full. let e : true ≡ false = sym (turned_fills len need full) ∙ spares in cc e)

-- a command that isn't refused, or fills by no refusal
spares_by : (c : Law.Command) (x : Own) → fills_by None c x ≡ false → (q : Option Refusal) → fills_by q c x ≡ false
spares_by c x e None = e
spares_by c x e (Some why) = refl

pub spares : (f : Form) (c : Law.Command) (x : Own) → fills_by None c x ≡ false → fills f c x ≡ false
spares f c x e = spares_by c x e (refusal f c x)

fills_granted : (q : Option Refusal) (c : Law.Command) (x : Own) → fills_by q c x ≡ true → q ≡ None
fills_granted None c x e = refl
fills_granted (Some why) c x e = absurd (let no : false ≡ true = e in cc no)

-- In a prepared transaction no command fills: each that would is refused, or has nothing to plan.
module _ (f : Form) (x : Own) (t : Txn) (n : ℕ) (has : x.txn ≡ Some t) (outer : t.depth ≡ 1) (free : t.prepared ≡ Some n) where
  prepared_is : is_prepared x.txn ≡ true
  prepared_is = rw has (rw free refl)

  no_plan : plans x.txn ≡ false
  no_plan = rw has (rw (outer, free) (and-false t.changed))

  writes_not : (c : MapCommand) (only : Bool) (p : Bool) (rest : Refusals) → p ≡ true → fills_by (first_that_applies ((only, OnlyReads) ∷ (p, IsPrepared) ∷ rest)) (OnMap c) x ≡ false
  writes_not c true p rest is = refl
  writes_not c false p rest is = rw is refl

  writer_not : (c : MapCommand) → refusal f (OnMap c) x ≡ first_that_applies ((x.options.read_only, OnlyReads) ∷ (is_prepared x.txn, IsPrepared) ∷ (reads_all x, LocksStand) ∷ []) → fills f (OnMap c) x ≡ false
  writer_not c is = ap (λ q. fills_by q (OnMap c) x) is ∙ writes_not c x.options.read_only (is_prepared x.txn) ((reads_all x, LocksStand) ∷ []) prepared_is

  map_spares : (c : MapCommand) → fills f (OnMap c) x ≡ false
  unfolding refusal
  map_spares (Fetch k) = spares f (OnMap (Fetch k)) x refl
  map_spares (Has k) = spares f (OnMap (Has k)) x refl
  map_spares (Delete k) = spares f (OnMap (Delete k)) x refl
  map_spares (Store k v) = writer_not (Store k v) refl
  map_spares (Insert k v) = writer_not (Insert k v) refl
  map_spares (Modify k v) = writer_not (Modify k v) refl
  map_spares (Append k v) = writer_not (Append k v) refl
  map_spares Wipe = spares f (OnMap Wipe) x refl
  map_spares Check = spares f (OnMap Check) x refl

  prepare_refused : refusal f (OnGroup Prepare) x ≡ Some IsPrepared
  unfolding refusal
  prepare_refused = rw has (rw free refl)

  pub prepared_spares : (c : Law.Command) → fills f c x ≡ false
  prepared_spares (OnMap c) = map_spares c
  prepared_spares (OnLocks c) = spares f (OnLocks c) x refl
  prepared_spares Seqnum = spares f Seqnum x refl
  prepared_spares (OnGroup Start) = spares f (OnGroup Start) x refl
  prepared_spares (OnGroup Commit) = spares f (OnGroup Commit) x no_plan
  prepared_spares (OnGroup Prepare) = ap (λ q. fills_by q (OnGroup Prepare) x) prepare_refused
  prepared_spares (OnGroup Cancel) = spares f (OnGroup Cancel) x refl
  prepared_spares (OnWalk c) = spares f (OnWalk c) x refl

-- The first turn of a Commit or a Prepare doesn't end with Full.
commit_first : (o : Option Txn) (len need : ℕ) → plans o ≡ true → commit_ends o 0 (Full len need) ≡ true → ⊥
commit_first None len need plan e = cc plan
commit_first (Some t) len need plan e =
    let no : false ≡ true = subst (λ b. (if b then (0 == 2) || (not_full (Full len need) && (0 == 8)) else (0 == commit_last (Some t))) ≡ true) plan e in cc no

prepare_first : (o : Option Txn) (len need : ℕ) → plans o ≡ true → prepare_ends o 0 (Full len need) ≡ true → ⊥
prepare_first None len need plan e = cc plan
prepare_first (Some t) len need plan e =
    let no : false ≡ true = subst (λ b. (if b then (0 == 2) || (not_full (Full len need) && (0 == 4)) else (0 == 0)) ≡ true) plan e in cc no

commit_row : (f : Form) (x : Own) (len need : ℕ) → fills f (OnGroup Commit) x ≡ true → IsRow f (OnGroup Commit) x 0 (Ends (Full len need)) → ⊥
commit_row f x len need filling row =
    let granted = fills_granted (refusal f (OnGroup Commit) x) (OnGroup Commit) x filling in
    elim row [
      | inl may ↦ commit_first x.txn len need (subst (λ q. fills_by q (OnGroup Commit) x ≡ true) granted filling) (subst (λ q. ends_by q (OnGroup Commit) x 0 (Full len need) ≡ true) granted may)
      | inr starves ↦ let e = starves.0 in cc e
    ]

prepare_row : (f : Form) (x : Own) (len need : ℕ) → fills f (OnGroup Prepare) x ≡ true → IsRow f (OnGroup Prepare) x 0 (Ends (Full len need)) → ⊥
prepare_row f x len need filling row =
    let granted = fills_granted (refusal f (OnGroup Prepare) x) (OnGroup Prepare) x filling in
    elim row [
      | inl may ↦ prepare_first x.txn len need (subst (λ q. fills_by q (OnGroup Prepare) x ≡ true) granted filling) (subst (λ q. ends_by q (OnGroup Prepare) x 0 (Full len need) ≡ true) granted may)
      | inr starves ↦ let e = starves.0 in cc e
    ]

-- A turn inside the transaction, which isn't prepared: what its own machine says of a command on the map, and the law
-- of each other one.
module _ (f : Form) (img : List ℕ) (limit : ℕ) (x : Own) (turn : Law.Turn) where
  abbrev Goal : Command → Type 0
  Goal c = FullJustWhere (GrantedLacks f img limit c x) turn

  abbrev Fills : Command → Type 0
  Fills c = (len need : ℕ) → turn ≡ Ends (Full len need) → fills f (law_command c) x ≡ true

  by_map : (c : Command) → (refusal f (law_command c) x ≡ None → FullExactly f img limit (law_command c) turn) → Fills c → Goal c
  by_map c exact filling = record {
    only = λ len need full.
        let granted = fills_granted (refusal f (law_command c) x) (law_command c) x (filling len need full) in
        record { granted = granted; lacks = (exact granted).only len need full };
    always = λ len need N. (exact N.granted).always len need N.lacks;
  }

  by_law : (c : Command) → stored_pair (law_command c) (map_of f img) ≡ None → ((len need : ℕ) → turn ≡ Ends (Full len need) → ⊥) → Goal c
  by_law c bare never = record {
    only = λ len need full. absurd (never len need full);
    always = λ len need N. absurd (cc (sym bare ∙ N.lacks.stores));
  }

  spared : (c : Command) → fills f (law_command c) x ≡ false → Fills c → (len need : ℕ) → turn ≡ Ends (Full len need) → ⊥
  spared c none filling len need full = let e : true ≡ false = sym (filling len need full) ∙ none in cc e

  other : (c : Command) → stored_pair (law_command c) (map_of f img) ≡ None → fills_by None (law_command c) x ≡ false → Fills c → Goal c
  other c bare none filling = by_law c bare (spared c (spares f (law_command c) x none) filling)

  pub open_full : (c : Command) → (IsMapped c → refusal f (law_command c) x ≡ None → FullExactly f img limit (law_command c) turn) → Fills c → IsRow f (law_command c) x 0 turn → Goal c
  open_full (Given.Fetch key) exact filling row = by_map (Given.Fetch key) (exact tt) filling
  open_full (Given.Has key) exact filling row = by_map (Given.Has key) (exact tt) filling
  open_full (Given.Store key value flag) exact filling row = by_map (Given.Store key value flag) (exact tt) filling
  open_full (Given.Append key value) exact filling row = by_map (Given.Append key value) (exact tt) filling
  open_full (Given.Delete key) exact filling row = by_map (Given.Delete key) (exact tt) filling
  open_full Given.Wipe exact filling row = by_map Given.Wipe (exact tt) filling
  open_full Given.Check exact filling row = other Given.Check refl refl filling
  open_full (Given.ChainLock key) exact filling row = other (Given.ChainLock key) refl refl filling
  open_full (Given.ChainLockNb key) exact filling row = other (Given.ChainLockNb key) refl refl filling
  open_full (Given.ChainUnlock key) exact filling row = other (Given.ChainUnlock key) refl refl filling
  open_full Given.LockAll exact filling row = other Given.LockAll refl refl filling
  open_full Given.LockAllRead exact filling row = other Given.LockAllRead refl refl filling
  open_full Given.UnlockAll exact filling row = other Given.UnlockAll refl refl filling
  open_full Given.Start exact filling row = other Given.Start refl refl filling
  open_full Given.Commit exact filling row = by_law Given.Commit refl (λ len need full. commit_row f x len need (filling len need full) (subst (IsRow f (OnGroup Commit) x 0) full row))
  open_full Given.Prepare exact filling row = by_law Given.Prepare refl (λ len need full. prepare_row f x len need (filling len need full) (subst (IsRow f (OnGroup Prepare) x 0) full row))
  open_full Given.Cancel exact filling row = other Given.Cancel refl refl filling
  open_full Given.First exact filling row = other Given.First refl refl filling
  open_full Given.Next exact filling row = other Given.Next refl refl filling
  open_full Given.EndWalk exact filling row = other Given.EndWalk refl refl filling
  open_full Given.Seqnum exact filling row = other Given.Seqnum refl refl filling
  open_full Given.Close exact filling row = other Given.Close refl refl filling

-- a Start fills nothing
pub start_spares : (f : Form) (n : ℕ) (x : Own) (t : Task) → Some (task_of (OnGroup Start) n) ≡ Some t → fills f t.command x ≡ false
start_spares f n x t has = subst (λ (u : Task). fills f u.command x ≡ false) (same_task (task_of (OnGroup Start) n) t has) (spares f (OnGroup Start) x refl)

-- what a turn at a stage says of Full
abbrev pub FullsAt : Form → Options → ℕ → List Piece → Stage → History → Law.Turn → Type 0
FullsAt f o owner ps stage h turn =
    (table : ℕ → ℕ → ℕ) (k : Known) (past : Past) (s : Side) (t : Task) → IsSide f o owner ps stage k past s → KnowsFile f stage h k → BeginsOn f stage k.file → stage_task stage ≡ Some t → MayTurn f table s t
    → StageFull f o.limit stage k s.own turn

pub open_stage : (f : Form) (o : Options) (owner : ℕ) (ps rs : List Piece) (txn : OpenTxn) (command : Command) (h new : History) (went : Went) → TurnsFrom f o owner ps rs (At.Open txn (Some command)) went h new
    → GrantedFull o txn (seen h) command (law_turn went.turn) → FullsAt f o owner ps (At.Open txn (Some command)) h (law_turn went.turn)
open_stage f o owner ps rs txn command h new went turns full table k past s t S K begins has M =
    let turn = law_turn went.turn in
    let T = turns table k past s t S K has M in
    let mine = same_task (task_of (law_command command) 0) t has in
    let G = subst (λ base. GrantedFull o txn base command turn) K.at.0.file full in
    let same : form_of txn.own ≡ f = K.at.0.may.header ∙ K.forms.0 in
    open_full f k.image o.limit s.own turn command
    (λ mapped R. subst (λ g. FullExactly g k.image o.limit (law_command command) turn) same
    (subst (λ img. FullExactly (form_of txn.own) img o.limit (law_command command) turn) (sym K.at.0.image)
    (G s.own S.own (subst (λ g. refusal g (law_command command) s.own ≡ None) (sym same) R) K.at.0.may mapped)))
    (λ len need e. subst (λ (u : Task). fills f u.command s.own ≡ true) (sym mine) (turned_fills f table _ _ _ _ _ _ _ _ t turn T.turned len need e))
    (subst (λ (u : Task). IsRow f u.command s.own u.steps turn) (sym mine) T.turned.row)
