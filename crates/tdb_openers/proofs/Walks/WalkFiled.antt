-- What a turn of a command on an opener's cursor leaves of the bytes of a world's file, where they are told: nobody
-- else comes to a record that a delete or another cursor is going to take out of its chain.
use Rattle.std.proofs.Common.{◌≡◌, ◌≢◌, ℕ, zero, suc, ◌+◌, ◌-◌, ◌*◌, ◌<◌, ◌≤◌, ◌⊎◌, ◌++◌, IsTrue, List, [], ◌∷◌, length, slice_get, slice_index_or, set, Bool, true, false, Option, Some, None, refl, sym, ◌∙◌, ap, subst, inl, inr, arith}
use Rattle.std.specs.Prelude.{Contains, MatchBool, ◌^◌}
use Rattle.std.proofs.lemmas.Bool.{cases_eq, cases_Bool, false_from_ne_true}
use Rattle.tdb_space.specs.Form.{Form}
use Rattle.tdb_space.specs.Chain.{Member, chain_of}
use Rattle.tdb_space.specs.Pairs.{home}
use Rattle.tdb_space.specs.Accepted.{AcceptWith}
use Rattle.tdb_space.specs.Stays.{ChainStays}
use Rattle.tdb_space.proofs.Pairs.Maps.{home_below}
use Rattle.tdb_chain.specs.declared.place.Place.{Place}
use Rattle.tdb_chain.specs.Place.{IsFound}
use Rattle.tdb_chain.proofs.PlaceStays.{place_member}
use Rattle.tdb_locks.specs.LockTable.{held}
use Rattle.tdb_locks.specs.HeldLocks.{HeldLocks}
use Rattle.tdb_locks.specs.declared.kind.Kind.{Kind}
use Rattle.tdb_locks.specs.declared.piece.Piece.{Piece}
use Rattle.tdb_locks.specs.declared.turn.Reply.{Reply}
use Rattle.tdb_locks.specs.declared.turn.Turn.{Turn}
use Rattle.tdb_locks.specs.declared.turn.Turn.TheVariants.{Step, Blocked, Done}
use Rattle.tdb_law.specs.Commands.{WalkCommand, Turn as LawTurn}
use Rattle.tdb_law.specs.Commands.Command.{OnWalk}
use Rattle.tdb_law.specs.Openers.{Own}
use Rattle.tdb_law.specs.Refusals.{chain_byte}
use Rattle.tdb_law.specs.Images.{image_map}
use Rattle.tdb_law.specs.Layout.Place.{on_record}
use Rattle.tdb_commands.specs.InLaw.{law_turn}
use Rattle.tdb_steps.specs.declared.plain.Plain.{Plain}
use Rattle.tdb_steps.specs.declared.plain.Plain.TheVariants as Plains
use Rattle.tdb_steps.specs.declared.stage.Stage.{Stage as PlainStage}
use Rattle.tdb_steps.specs.declared.stage.Stage.TheVariants as Stages
use Rattle.tdb_steps.specs.Holdings.{table_of}
use Rattle.tdb_steps.specs.Order.{IsAfter}
use Rattle.tdb_steps.specs.Machines.{Doing, DoingKnows}
use Rattle.tdb_steps.specs.PlainCommands.{key_of, asked_of}
use Rattle.tdb_steps.specs.Stages.{Knows as KnowsOf}
use Rattle.tdb_walk.specs.Spots.{spot_number}
use Rattle.tdb_law.specs.Openers.{Spot}
use Rattle.tdb_walk.specs.declared.standing.Standing.{Standing}
use Rattle.tdb_walk.specs.declared.standing.Standing.TheVariants.{Before, On, Past}
use Rattle.tdb_walk.specs.declared.stage.Stage.{Stage}
use Rattle.tdb_walk.specs.declared.stage.Stage.TheVariants.{Rested, Reading, Writing, Freeing}
use Rattle.tdb_walk.specs.declared.stage.Goal.{Goal}
use Rattle.tdb_walk.specs.declared.stage.Goal.TheVariants as Goals
use Rattle.tdb_walk.specs.declared.stage.Act.{Act}
use Rattle.tdb_walk.specs.declared.stage.Act.TheVariants.{Lock, Move, End}
use Rattle.tdb_walk.specs.declared.stage.StepLock.{StepLock}
use Rattle.tdb_walk.specs.declared.stage.StepLock.TheVariants.{ReadChain, WriteChain, FreeList}
use Rattle.tdb_walk.specs.declared.purging.DeadRecord.{DeadRecord}
use Rattle.tdb_walk.specs.NextLive.{place_of}
use Rattle.tdb_walk.specs.Cursors.{At, HasToPurge, Knows, LeaveLed, LockLed, StepLed, StepMade, StepMoved, WentTo, act_of, dead_of, last_of, rested, spared_of, spot_of, stage_of}
use Rattle.tdb_walk.specs.Cursors.Came.{shown, barred, wants}
use Rattle.tdb_walk.specs.Cursors.MoveLed.{comes, stops, ends, gives_up}
use Rattle.tdb_walk.specs.Cursors.LeaveLed.{leaves, cannot}
use Rattle.tdb_walk.specs.Cursors.WentTo.{arrives, held_up, halts, finishes, lacks}
use Rattle.tdb_walk.specs.Way.{lock_byte}
use Rattle.tdb_walk.specs.InLaw.{IsTurn, goal_of, is_before, is_dropped, is_purging, view_of}
use Rattle.tdb_walk.specs.Again.{CursorLeaves}
use Rattle.tdb_walk.proofs.Again.{cursor_leaves}
use Rattle.tdb_walk.proofs.Lawful.{cursor_is_lawful}
use Rattle.tdb_walk.proofs.Rows.{map_is}
use Rattle.tdb_walk.proofs.Apart.{cursor_comes_apart}
use Rattle.tdb_commands.specs.declared.options.Options.{Options}
use Rattle.tdb_openers.specs.declared.opener.Opener.{Opener}
use Rattle.tdb_openers.specs.declared.job.Job.{Job}
use Rattle.tdb_openers.specs.declared.job.Job.TheVariants as Jobs
use Rattle.tdb_openers.specs.declared.job.Task.{Task}
use Rattle.tdb_openers.specs.Openers.{own_of, spot_by, place_at, spots_of, hands_of_task, walk_in, JobKnows, TaskKnows, OpenerKnows}
use Rattle.tdb_openers.specs.States.{WorldStands, FileStands}
use Rattle.tdb_openers.specs.Jobs.{task_after}
use Rattle.tdb_openers.specs.Laws.{HasTask, IsPut, other_hands, WalkKeepsFile}
use Rattle.tdb_openers.specs.Walked.{WalkTurned}
use Rattle.tdb_openers.specs.Cursors.{is_stood, CursorKnows, FoundSpares, StageSpares, JobSpares, TaskSpares, OpenerSpares, PurgesAlone, StandApart, cursor_at}
use Rattle.tdb_openers.proofs.ExplicitLocks.Strengths.{strengths_are}
use Rattle.tdb_openers.proofs.Walks.Purgers.{one_chain, purger_locks}
use Rattle.tdb_openers.proofs.PlainTurns.Busy.{looked_writes, listed_writes, Writes}
use Rattle.tdb_openers.proofs.Joining.Working.{Works, works, plain_writes}
use Rattle.tdb_openers.proofs.Joining.Stood.{entry, injected, knows_in, some_off, stood_at, stood_by}
use Rattle.tdb_openers.proofs.Files.Filing.{KeepsFile, file_kept, map_left}
use Rattle.tdb_openers.proofs.Walks.WalkReady.{image_accepted, no_hands, walk_before}
use Rattle.tdb_openers.proofs.Walks.WalkHeld.{says_turn}

-- who is in the way has a number
named_by : (ps : List Piece) (other byte : ℕ) (kind : Kind) → ((b : ℕ) → held ps 0 b ≡ None) → held ps other byte ≡ Some kind → other - 1 + 1 ≡ other
named_by ps other byte kind numbered holds =
    elim (cases_eq other 0) [
      | inl e ↦ absurd (let bad = sym (numbered byte) ∙ (ap (λ o. held ps o byte) (sym e) ∙ holds) in cc bad)
      | inr ne ↦ omega (arith, ne)
    ]

module _ (f : Form) (img : List ℕ) (ps : List Piece) (owner : ℕ) (own : HeldLocks) (numbered : (b : ℕ) → held ps 0 b ≡ None) where
  blocked_at : (o p byte byte2 : ℕ) → ◌≡◌ {A = Turn} (Blocked o byte) (Blocked p byte2) → p - 1 + 1 ≡ p → o - 1 + 1 ≡ o
  blocked_at o p byte byte2 e named = let same : o ≡ p = cc in omega (arith, same, named)

  blocked_named : (act : Act) (spared : Standing) (at later : At) (other byte : ℕ) → StepLed f ps owner own act spared at later (Blocked other byte) → StepMoved f img ps owner own act at later (Blocked other byte) → other - 1 + 1 ≡ other
  blocked_named (Lock lock) spared at later other byte L M = named_by ps other byte L.1.kind numbered L.1.conflict.conflict.holds
  blocked_named (Move from) spared at later other byte L (comes live way (shown e s can)) = absurd (cc e)
  blocked_named (Move from) spared at later other byte L (comes live way (barred o z e s K)) = blocked_at other o byte z e (named_by ps o z K.kind numbered K.conflict.conflict.holds)
  blocked_named (Move from) spared at later other byte L (comes live way (wants e s)) = absurd (cc e)
  blocked_named (Move from) spared at later other byte L (stops chain o z way e s) = blocked_at other o byte z e (named_by ps o z way.off.kind numbered way.off.conflict.conflict.holds)
  blocked_named (Move from) spared at later other byte L (ends way e s) = absurd (cc e)
  blocked_named (Move from) spared at later other byte L (gives_up e s) = absurd (cc e)
  blocked_named End spared at later other byte (leaves e s) M = absurd (cc e)
  blocked_named End spared at later other byte (cannot some e s) M = absurd (cc e)

  pub turn_told : (act : Act) (spared : Standing) (at later : At) (did : Turn) → StepLed f ps owner own act spared at later did → StepMoved f img ps owner own act at later did → IsTurn did (law_turn did)
  turn_told act spared at later Step L M = refl
  turn_told act spared at later (Blocked other byte) L M = (other - 1, sym (blocked_named act spared at later other byte L M), refl)
  turn_told act spared at later (Done reply) L M = says_turn f ps owner own numbered act spared at later (Done reply) L

-- the record that a cursor purges at its next turn is the one on which it stands
dead_at : (place : Standing) (stage : Stage) (d : DeadRecord) → dead_of place stage ≡ Some d → (is_purging stage ≡ true) × (place ≡ On d.chain d.off)
dead_at (On chain off) Rested d e = absurd (cc e)
dead_at (On chain off) Reading d e = absurd (cc e)
dead_at (On chain off) Writing d e = absurd (cc e)
dead_at (On chain off) Freeing d e = (refl, λ i. On (injected e i).chain (injected e i).off)
dead_at (Before chain) stage d e = absurd (cc e)
dead_at Past stage d e = absurd (cc e)

spot_there : (place : Standing) (chain off : ℕ) → place_of place ≡ on_record chain off → spot_of place ≡ Some off
spot_there (On c o) chain off e = let same : o ≡ off = cc in ap Some same
spot_there (Before c) chain off e = absurd (cc e)
spot_there Past chain off e = absurd (cc e)

on_spot : (place : Standing) (off : ℕ) → spot_of place ≡ Some off → (chain : ℕ) × (place ≡ On chain off)
on_spot (On chain o) off e = (chain, ap (On chain) (injected e))
on_spot (Before c) off e = absurd (cc e)
on_spot Past off e = absurd (cc e)

-- the entry of another opener
entry_among : (xs : List Opener) (o : ℕ) (z : Opener) → slice_get xs o ≡ Some z → (o < length (spots_of xs)) × (slice_index_or (spots_of xs) o (entry z) ≡ entry z)
entry_among [] o z there = absurd (cc there)
entry_among (x ∷ xs) zero z there = (omega arith, ap entry (injected there))
entry_among (x ∷ xs) (suc o) z there = let more = entry_among xs o z there in let low = more.0 in (omega (arith, low), more.1)

entry_else : (xs : List Opener) (who o : ℕ) (z : Opener) → slice_get xs o ≡ Some z → o ≢ who → (o < length (set (spots_of xs) who 0)) × (slice_index_or (set (spots_of xs) who 0) o (entry z) ≡ entry z)
entry_else [] who o z there ne = absurd (cc there)
entry_else (x ∷ xs) zero zero z there ne = absurd (ne refl)
entry_else (x ∷ xs) (suc who) zero z there ne = (omega arith, ap entry (injected there))
entry_else (x ∷ xs) zero (suc o) z there ne = let more = entry_among xs o z there in let low = more.0 in (omega (arith, low), more.1)
entry_else (x ∷ xs) (suc who) (suc o) z there ne = let more = entry_else xs who o z there (λ e. ne (ap suc e)) in let low = more.0 in (omega (arith, low), more.1)

-- A cursor that is going to purge after a turn was so before it, or that was decided by the turn; it stands where it
-- stood.
module _ (f : Form) (img : List ℕ) (ps : List Piece) (owner : ℕ) (own : HeldLocks) (stood_on : List ℕ) (read_only : Bool) where
  abbrev Purged : At → At → Type 0
  Purged at later = (later.place ≡ at.place) × ((is_purging at.stage ≡ true) ⊎ HasToPurge f img own stood_on read_only at.place at.stage)

  not_rested : {A : Type 0} (place : Standing) (later : At) → later ≡ rested place → is_purging later.stage ≡ true → A
  not_rested place later is due = absurd (let bad : false ≡ true = sym (ap (λ (z : At). is_purging z.stage) is) ∙ due in cc bad)

  as_it_was : (at later : At) → later ≡ at → is_purging later.stage ≡ true → Purged at later
  as_it_was at later is due = (ap (λ (z : At). z.place) is, inl (sym (ap (λ (z : At). is_purging z.stage) is) ∙ due))

  went_purging : (at later : At) (did : Turn) → WentTo f ps owner own at later did → is_purging later.stage ≡ true → Purged at later
  went_purging at later did (arrives key value off e s above can) due = not_rested _ later s due
  went_purging at later did (held_up other byte e s) due = as_it_was at later s due
  went_purging at later did (halts chain other byte e s) due = not_rested _ later s due
  went_purging at later did (finishes e s) due = not_rested _ later s due
  went_purging at later did (lacks e s) due = not_rested _ later s due

  left_purging : (dead : Option DeadRecord) (spared : Standing) (at later : At) (did : Turn) → LeaveLed dead Past spared (Done Reply.Ok) later did → is_purging later.stage ≡ true → Purged at later
  left_purging dead spared at later did (leaves e s) due = not_rested _ later s due
  left_purging dead spared at later did (cannot some e s) due = not_rested _ later s due

  last_purging : (goal : Goal) (place : Standing) (spared : Standing) (at later : At) (did : Turn) → StepLed f ps owner own (last_of goal place) spared at later did → is_purging later.stage ≡ true → Purged at later
  last_purging Goals.First place spared at later did L due = went_purging at later did L due
  last_purging Goals.Next place spared at later did L due = went_purging at later did L due
  last_purging Goals.Leave place spared at later did L due = left_purging _ spared at later did L due

  locked_purging : (lock : StepLock) (spared : Standing) (at later : At) (did : Turn) → LockLed ps owner own lock spared at later did → is_purging later.stage ≡ true
      → (is_purging (stage_of lock) ≡ true → (is_purging at.stage ≡ true) ⊎ HasToPurge f img own stood_on read_only at.place at.stage) → Purged at later
  locked_purging lock spared at later Step L due why = (ap (λ (z : At). z.place) L.0, why (sym (ap (λ (z : At). is_purging z.stage) L.0) ∙ due))
  locked_purging lock spared at later (Blocked other byte) L due why = as_it_was at later L.0 due
  locked_purging lock spared at later (Done reply) L due why = not_rested _ later L.1 due

  pub purging_from : (goal : Goal) (place : Standing) (stage : Stage) (due : Bool) (spared : Standing) (later : At) (did : Turn) → StepLed f ps owner own (act_of goal place stage due) spared (record { place = place; stage = stage }) later did
      → MatchBool due (HasToPurge f img own stood_on read_only place stage) (HasToPurge f img own stood_on read_only place stage → ⊥) → is_purging later.stage ≡ true → Purged (record { place = place; stage = stage }) later
  purging_from goal (On chain off) Rested true spared later did L M now = locked_purging (WriteChain chain) spared (record { place = On chain off; stage = Rested }) later did L now (λ e. inr M)
  purging_from Goals.First (On chain off) Rested false spared later did L M now = went_purging (record { place = On chain off; stage = Rested }) later did L now
  purging_from Goals.Next (On chain off) Rested false spared later did L M now = locked_purging (ReadChain chain) spared (record { place = On chain off; stage = Rested }) later did L now (λ e. absurd (cc e))
  purging_from Goals.Leave (On chain off) Rested false spared later did L M now = left_purging None spared (record { place = On chain off; stage = Rested }) later did L now
  purging_from goal (On chain off) Reading due spared later did L M now = last_purging goal (On chain off) spared (record { place = On chain off; stage = Reading }) later did L now
  purging_from goal (On chain off) Writing due spared later did L M now = locked_purging FreeList spared (record { place = On chain off; stage = Writing }) later did L now (λ e. inl refl)
  purging_from goal (On chain off) Freeing due spared later did L M now = last_purging goal (On chain off) spared (record { place = On chain off; stage = Freeing }) later did L now
  purging_from goal (Before chain) stage due spared later did L M now = last_purging goal (Before chain) spared (record { place = Before chain; stage = stage }) later did L now
  purging_from goal Past stage due spared later did L M now = last_purging goal Past spared (record { place = Past; stage = stage }) later did L now

-- what has to be purged has nobody else on it
spared_else : (f : Form) (img : List ℕ) (own : HeldLocks) (stood_on : List ℕ) (read_only : Bool) (place : Standing) (stage : Stage) (off : ℕ) → HasToPurge f img own stood_on read_only place stage → spot_of place ≡ Some off → Contains stood_on off → ⊥
spared_else f img own stood_on read_only (On chain o) Rested off D e there = D.alone (subst (Contains stood_on) (sym (injected e)) there)
spared_else f img own stood_on read_only (On chain o) Reading off D e there = D
spared_else f img own stood_on read_only (On chain o) Writing off D e there = D
spared_else f img own stood_on read_only (On chain o) Freeing off D e there = D
spared_else f img own stood_on read_only (Before chain) stage off D e there = D
spared_else f img own stood_on read_only Past stage off D e there = D

-- no other cursor stands on the record that a turn purges
pub alone_there : (f : Form) (options : Options) (xs : List Opener) (ps : List Piece) (a : List ℕ) (size who : ℕ) (x : Opener) {t : Task} → FileStands f xs a → HasTask xs who x t
    → (o : ℕ) → o ≢ who → (d : DeadRecord) → dead_of x.walk.cursor.place x.walk.cursor.stage ≡ Some d → place_at (slice_get xs o) ≡ on_record d.chain d.off → ⊥
alone_there f options xs ps a size who x F B o ne d dead there = by_other (slice_get xs o) there (subst (λ z. StandApart (cursor_at z) (cursor_at (slice_get xs o))) B.there (F.alone who o (λ e. ne (sym e))))
  where
    by_other : (z : Option Opener) → place_at z ≡ on_record d.chain d.off → StandApart (Some x.walk.cursor) (cursor_at z) → ⊥
    by_other None at apart = absurd (cc at)
    by_other (Some z) at apart = let D = dead_at x.walk.cursor.place x.walk.cursor.stage d dead in apart D.0 d.off (ap spot_of D.1) (spot_there z.walk.cursor.place d.chain d.off at)

-- a command on the cursor holds no record of the free list, knows nothing of the image, and takes no record out that it
-- has found
left_bare : (job : Job) (w : WalkCommand) (n : ℕ) (turn : LawTurn) → walk_in job ≡ Some w → hands_of_task (task_after job n turn) ≡ []
left_bare job w n LawTurn.Step on = no_hands job w on
left_bare job w n (LawTurn.Blocked o b) on = no_hands job w on
left_bare job w n (LawTurn.Ends r) on = refl

walk_knows : (f : Form) (img : List ℕ) (job : Job) (w : WalkCommand) → walk_in job ≡ Some w → JobKnows f img job
walk_knows f img (Jobs.Refused command reply) w on = absurd (cc on)
walk_knows f img (Jobs.Plain d) w on = absurd (cc on)
walk_knows f img (Jobs.Check checking) w on = absurd (cc on)
walk_knows f img (Jobs.Locking locking) w on = absurd (cc on)
walk_knows f img Jobs.Seqnum w on = absurd (cc on)
walk_knows f img (Jobs.Walk walking) w on = tt

left_knows : (f : Form) (img : List ℕ) (job : Job) (w : WalkCommand) (n : ℕ) (turn : LawTurn) → walk_in job ≡ Some w → TaskKnows f img (task_after job n turn)
left_knows f img job w n LawTurn.Step on = walk_knows f img job w on
left_knows f img job w n (LawTurn.Blocked o b) on = walk_knows f img job w on
left_knows f img job w n (LawTurn.Ends r) on = tt

walk_spares : (stands : ℕ → Bool) (job : Job) (w : WalkCommand) → walk_in job ≡ Some w → JobSpares stands job
walk_spares stands (Jobs.Refused command reply) w on = absurd (cc on)
walk_spares stands (Jobs.Plain d) w on = absurd (cc on)
walk_spares stands (Jobs.Check checking) w on = absurd (cc on)
walk_spares stands (Jobs.Locking locking) w on = absurd (cc on)
walk_spares stands Jobs.Seqnum w on = absurd (cc on)
walk_spares stands (Jobs.Walk walking) w on = tt

left_spares : (stands : ℕ → Bool) (job : Job) (w : WalkCommand) (n : ℕ) (turn : LawTurn) → walk_in job ≡ Some w → TaskSpares stands (task_after job n turn)
left_spares stands job w n LawTurn.Step on = walk_spares stands job w on
left_spares stands job w n (LawTurn.Blocked o b) on = walk_spares stands job w on
left_spares stands job w n (LawTurn.Ends r) on = tt

module _ (f : Form) (options : Options) (xs : List Opener) (ps qs : List Piece) (a b : List ℕ) (size who : ℕ) (x y : Opener) (t : Task) (w : WalkCommand) (did : Turn) (tells : Bool) (told : IsTrue tells)
    (W : WorldStands f options xs ps a size) (F : FileStands f xs a) (B : HasTask xs who x t) (on : walk_in t.job ≡ Some w) (T : WalkTurned tells f a b size ps qs (who + 1) (set (spots_of xs) who 0) w options.read_only t x y did) where
  abbrev at : At
  at = x.walk.cursor

  abbrev later : At
  later = T.stepped.later

  abbrev stood_on : List ℕ
  stood_on = set (spots_of xs) who 0

  accepted : AcceptWith f a (other_hands xs who)
  accepted = image_accepted f options xs ps a size who x t w W B on F

  known : Knows f a at.place at.stage
  known = subst (CursorKnows f a) B.there (F.cursors who)

  small : size < 2 ^ 32
  small = let one = W.short in let two = W.limit in omega (arith, one, two)

  pub walk_made : StepMade f a b (other_hands xs who) at later did
  walk_made = T.stepped.stepped.made told small (other_hands xs who) accepted known

  knows_later : Knows f b later.place later.stage
  knows_later = T.stepped.stepped.knows told small (other_hands xs who) accepted known

  pub told_turn : IsTurn did (law_turn did)
  told_turn =
      turn_told f a ps (who + 1) x.held W.numbered _ _ at later did T.stepped.stepped.taken.led (T.stepped.stepped.taken.moved told (other_hands xs who) accepted known)

  L : CursorLeaves f a b (other_hands xs who) at
  L = cursor_leaves f a b (other_hands xs who) at later did accepted walk_made

  -- the map stays
  map_stays : image_map f b ≡ image_map f a
  map_stays =
      let C = cursor_is_lawful f x.held (own_of options x) w at later (is_before at.place) t.steps who ps T.stepped.mid a b (other_hands xs who) stood_on options.read_only (view_of f a x.held stood_on options.read_only (goal_of w) at.place) did (law_turn did) tells
      told (walk_before f options xs ps a size who x t w W B on F stood_on) T.stepped.stepped.taken walk_made T.stepped.others T.stepped.stepped.placed told_turn in
      elim (map_left f _ _ _ _ (OnWalk w) t.steps (own_of options x) (image_map f a) (law_turn did) _ (image_map f b) C.effect) [
        | inl stays ↦ stays
        | inr made ↦ made.1 ∙ map_is f w (own_of options x) refl (image_map f a)
      ]

  -- the chain of a key that another opener writes stays: who purges a record has its chain locked
  chain_stays : (o : ℕ) → o ≢ who → (k : List ℕ) → 2 ≤ table_of ps (o + 1) (chain_byte f k) → ChainStays f a b (home f k)
  chain_stays o ne k two = L.only.chains (home f k) (home_below f k W.sound.chains.some) (λ purged.
      (let D = dead_at at.place at.stage purged.0 purged.1 in
      let locks = purger_locks f options xs ps a size W who x B.there purged.0.chain purged.0.off D.1 D.0 in
      let mine = subst (λ j. 2 ≤ table_of ps (who + 1) (168 + 4 * j)) (locks.1 ∙ sym purged.2) locks.2 in
      let room = W.sound.apart o who (chain_byte f k) ne in
      omega (arith, mine, two, room)))

  -- another cursor isn't on the record that is purged
  others_apart : (o : ℕ) → o ≢ who → (z : Opener) → slice_get xs o ≡ Some z → PurgesAlone at z.walk.cursor × PurgesAlone z.walk.cursor at
  others_apart o ne z there = (
    subst (λ u. StandApart (Some at) (cursor_at u)) there (subst (λ u. StandApart (cursor_at u) (cursor_at (slice_get xs o))) B.there (F.alone who o (λ e. ne (sym e)))),
    subst (λ u. StandApart (cursor_at u) (Some at)) there (subst (λ u. StandApart (cursor_at (slice_get xs o)) (cursor_at u)) B.there (F.alone o who ne)),
  )

  members : (o : ℕ) → o ≢ who → (z : Opener) → slice_get xs o ≡ Some z → (chain off : ℕ) → z.walk.cursor.place ≡ On chain off → is_purging z.walk.cursor.stage ≡ false → chain < f.chains
      → Member off (chain_of f a chain) → Member off (chain_of f b chain)
  members o ne z there chain off here still low m =
      L.members chain off low m (λ d dead same.
      (let D = dead_at at.place at.stage d dead in
      (others_apart o ne z there).0 D.0 d.off (ap spot_of D.1) (ap spot_of here ∙ ap Some same)))

  -- a cursor comes only to where it stood, or to a record of a chain that nobody else has locked for writing
  arrives_apart : is_dropped (law_turn did) w ≡ false → (chain off : ℕ) → later.place ≡ On chain off → (spot_of at.place ≡ Some off) ⊎ ((o : ℕ) → o ≢ who → table_of ps (o + 1) (lock_byte chain) ≤ 1)
  arrives_apart stays chain off there =
      elim
      (cursor_comes_apart f x.held (own_of options x) w at later (is_before at.place) t.steps who ps T.stepped.mid a b (other_hands xs who) stood_on options.read_only (view_of f a x.held stood_on options.read_only (goal_of w) at.place) did (law_turn did) tells
      told (walk_before f options xs ps a size who x t w W B on F stood_on) T.stepped.stepped.taken walk_made T.stepped.others T.stepped.stepped.placed told_turn stays chain off there) [
        | inl same ↦ inl same
        | inr apart ↦ inr (λ o ne. subst (λ h. h o (lock_byte chain) ≤ 1) (strengths_are ps) (apart o ne))
      ]

  -- where the opener's cursor stands then
  module _ (off : ℕ) (spot : spot_of y.walk.cursor.place ≡ Some off) where
    not_dropped : is_dropped (law_turn did) w ≡ false
    not_dropped =
        elim (cases_Bool (is_dropped (law_turn did) w)) [
          | inl drops ↦ absurd (let bad : ◌≡◌ {A = Option ℕ} None (Some off) = sym (ap (λ v. spot_of v.cursor.place) (T.stepped.ends drops).bare) ∙ spot in cc bad)
          | inr stays ↦ stays
        ]

    cursor_later : y.walk.cursor ≡ later
    cursor_later = (T.stepped.goes_on not_dropped).cursor

    stands_there : (chain : ℕ) × (later.place ≡ On chain off)
    stands_there = on_spot later.place off (sym (ap (λ (c : At). spot_of c.place) cursor_later) ∙ spot)

    abbrev chain : ℕ
    chain = stands_there.0

    member : (chain < f.chains) × Member off (chain_of f b chain)
    member = knows_in f b chain off later.stage (subst (λ p. Knows f b p later.stage) stands_there.1 knows_later)

    -- it stood there, or another's chain is another one
    pub came : (o : ℕ) → o ≢ who → (k : List ℕ) → 2 ≤ table_of ps (o + 1) (chain_byte f k) → Member off (chain_of f a (home f k)) → spot_of at.place ≡ Some off
    came o ne k two m =
        let stays = chain_stays o ne k two in
        let same = one_chain f b (other_hands xs who) chain (home f k) off L.accepted member.0 (home_below f k W.sound.chains.some) member.1 (subst (Member off) (sym stays.same_offsets) m) in
        elim (arrives_apart not_dropped chain off stands_there.1) [
          | inl stood ↦ stood
          | inr apart ↦ absurd (let one = apart o ne in let less = subst (λ j. table_of ps (o + 1) (168 + 4 * j) ≤ 1) same one in omega (arith, less, two))
        ]

    -- where it is going to purge its record, it was so, or that was decided now
    pub purges_there : is_purging y.walk.cursor.stage ≡ true → (spot_of at.place ≡ Some off) × ((is_purging at.stage ≡ true) ⊎ HasToPurge f a x.held stood_on options.read_only at.place at.stage)
    purges_there due =
        let taken = T.stepped.stepped.taken in
        let from = purging_from f a ps (who + 1) x.held stood_on options.read_only (goal_of w) at.place at.stage taken.due (spared_of (goal_of w) at.place) later did taken.led (taken.decided told (other_hands xs who) accepted known)
        (sym (ap (λ (c : At). is_purging c.stage) cursor_later) ∙ due) in
        (ap spot_of (sym from.0) ∙ ap spot_of stands_there.1, from.1)

  module _ (ys : List Opener) (P : IsPut xs who y ys) where
    -- no cursor stands on a record that a delete has found
    found_spares : (o : ℕ) → o ≢ who → (key : List ℕ) → 2 ≤ table_of ps (o + 1) (chain_byte f key) → (off : ℕ) → Member off (chain_of f a (home f key)) → is_stood (spots_of xs) off ≡ false → is_stood (spots_of ys) off ≡ false
    found_spares o ne key two off m bare = false_from_ne_true (is_stood (spots_of ys) off) (λ stood.
        (let s = stood_by ys off stood in
        elim (cases_eq s.place who) [
          | inl is ↦ (let same : s.opener ≡ y = injected (sym s.there ∙ ap (slice_get ys) is ∙ P.there) in
              let spot = ap (λ (z : Opener). spot_of z.walk.cursor.place) (sym same) ∙ ap spot_of s.on in
              let stood_before = came off spot o ne key two m in
              let its = on_spot at.place off stood_before in
              none_both bare (stood_at xs who x its.0 off B.there its.1 (some_off (spots_of ys) off stood)))
          | inr other ↦ none_both bare (stood_at xs s.place s.opener s.chain off (sym (P.others s.place other) ∙ s.there) s.on (some_off (spots_of ys) off stood))
        ]))
      where
        none_both : {z : Bool} → z ≡ false → z ≡ true → ⊥
        none_both isnt is = let bad : false ≡ true = sym isnt ∙ is in cc bad

    stage_spares : (o : ℕ) → o ≢ who → (d : Doing) (command : Plain) (stage : PlainStage) (n : ℕ) → d.command ≡ command → d.stage ≡ stage → (Writes command n → 2 ≤ table_of ps (o + 1) (chain_byte f (key_of command))) → IsAfter command stage n → DoingKnows f a d
        → StageSpares (is_stood (spots_of xs)) command stage → StageSpares (is_stood (spots_of ys)) command stage
    stage_spares o ne d (Plains.Fetch key) stage n ce se writes is K S = tt
    stage_spares o ne d (Plains.Has key) stage n ce se writes is K S = tt
    stage_spares o ne d (Plains.Store key value flag) stage n ce se writes is K S = tt
    stage_spares o ne d (Plains.Append key value) stage n ce se writes is K S = tt
    stage_spares o ne d Plains.Wipe stage n ce se writes is K S = tt
    stage_spares o ne d (Plains.Delete key) stage n ce se writes is K S = delete_spares stage se is S
      where
        found_in : (found : Option Place) (two : 2 ≤ table_of ps (o + 1) (chain_byte f key)) → IsFound f a key found → FoundSpares (is_stood (spots_of xs)) found → FoundSpares (is_stood (spots_of ys)) found
        found_in None two found S = tt
        found_in (Some p) two found S = found_spares o ne key two p.off (subst (λ j. Member p.off (chain_of f a j)) found.at_home (place_member f a p found.place)) S

        knows_at : (stage : PlainStage) → d.stage ≡ stage → KnowsOf f a (key_of d.command) (asked_of d.command) stage
        knows_at stage se = subst (KnowsOf f a (key_of d.command) (asked_of d.command)) se K.found

        delete_spares : (stage : PlainStage) → d.stage ≡ stage → IsAfter (Plains.Delete key) stage n → StageSpares (is_stood (spots_of xs)) (Plains.Delete key) stage → StageSpares (is_stood (spots_of ys)) (Plains.Delete key) stage
        delete_spares Stages.Begun se is S = tt
        delete_spares Stages.Chained se is S = tt
        delete_spares (Stages.Looked found) se is S = found_in found (writes (looked_writes (Plains.Delete key) found n is)) (subst (λ c. IsFound f a (key_of c) found) ce (knows_at (Stages.Looked found) se).found) S
        delete_spares (Stages.Listed found) se is S = found_in found (writes (listed_writes (Plains.Delete key) found n is)) (subst (λ c. IsFound f a (key_of c) found) ce (knows_at (Stages.Listed found) se).found) S
        delete_spares (Stages.Taken found hand) se is S = tt
        delete_spares (Stages.Changed hand) se is S = tt
        delete_spares (Stages.Wiping locked) se is S = tt
        delete_spares Stages.Ending se is S = tt

    job_spares : (o : ℕ) → o ≢ who → (z : Own) (s : Spot) (job : Job) (n : ℕ) → Works f ps size o z s job n → JobKnows f a job → JobSpares (is_stood (spots_of xs)) job → JobSpares (is_stood (spots_of ys)) job
    job_spares o ne z s (Jobs.Refused command reply) n J K S = tt
    job_spares o ne z s (Jobs.Plain d) n J K S = stage_spares o ne d d.command d.stage n refl refl (λ writes. plain_writes f options xs ps a size W o z s d n J writes) J.stands.after K S
    job_spares o ne z s (Jobs.Check checking) n J K S = tt
    job_spares o ne z s (Jobs.Locking locking) n J K S = tt
    job_spares o ne z s Jobs.Seqnum n J K S = tt
    job_spares o ne z s (Jobs.Walk walking) n J K S = tt

    task_spares : (o : ℕ) → o ≢ who → (z : Opener) → slice_get xs o ≡ Some z → (u : Option Task) → z.task ≡ u → TaskKnows f a u → TaskSpares (is_stood (spots_of xs)) u → TaskSpares (is_stood (spots_of ys)) u
    task_spares o ne z there None busy K S = tt
    task_spares o ne z there (Some u) busy K S = job_spares o ne (own_of options z) (spot_by z.walk.cursor) u.job u.steps (works f options xs ps a size W o z u (record { there = there; busy = busy })) K S

    opener_spares : (o : ℕ) → o ≢ who → (z : Option Opener) → slice_get xs o ≡ z → OpenerKnows f a z → OpenerSpares (is_stood (spots_of xs)) z → OpenerSpares (is_stood (spots_of ys)) z
    opener_spares o ne None there K S = tt
    opener_spares o ne (Some z) there K S = task_spares o ne z there z.task refl K S

    -- it is alone where it purges
    alone_now : (o : ℕ) → o ≢ who → (z : Option Opener) → slice_get xs o ≡ z → StandApart (Some y.walk.cursor) (cursor_at z)
    alone_now o ne None there = tt
    alone_now o ne (Some z) there = λ due off spot also.
        (let from = purges_there off spot due in
        elim from.1 [
          | inl was ↦ (others_apart o ne z there).0 was off from.0 also
          | inr has ↦ spared_else f a x.held stood_on options.read_only at.place at.stage off has from.0
              (let its = on_spot z.walk.cursor.place off also in let e = entry_else xs who o z there ne in let off_is : entry z ≡ off = ap spot_number its.1 in
              (o, e.0, subst (λ v. slice_index_or stood_on o v ≡ v) off_is e.1))
        ])

    -- and comes to no record that another purges
    others_alone : (o : ℕ) → o ≢ who → (z : Option Opener) → slice_get xs o ≡ z → StandApart (cursor_at z) (Some y.walk.cursor)
    others_alone o ne None there = tt
    others_alone o ne (Some z) there = λ due off spot also.
        (let its = on_spot z.walk.cursor.place off spot in
        let locks = purger_locks f options xs ps a size W o z there its.0 off its.1 due in
        let K = knows_in f a its.0 off z.walk.cursor.stage (subst (λ p. Knows f a p z.walk.cursor.stage) its.1 (subst (CursorKnows f a) there (F.cursors o))) in
        (others_apart o ne z there).1 due off spot (came off also o ne locks.0 locks.2 (subst (λ j. Member off (chain_of f a j)) (sym locks.1) K.1)))

    own_cursor : CursorKnows f b (Some y)
    own_cursor =
        elim (cases_Bool (is_dropped (law_turn did) w)) [
          | inl drops ↦ subst (λ v. Knows f b v.cursor.place v.cursor.stage) (sym (T.stepped.ends drops).bare) tt
          | inr stays ↦ subst (λ (c : At). Knows f b c.place c.stage) (sym (T.stepped.goes_on stays).cursor) knows_later
        ]

    kept : KeepsFile f xs ys ps a b who y
    kept = record {
      map_stays = λ o ne reads. map_stays;
      chain_stays = chain_stays;
      longer = L.only.front.longer;
      accepted = subst (λ l. AcceptWith f b (l ++ other_hands xs who)) (sym (ap hands_of_task T.task ∙ left_bare t.job w t.steps (law_turn did) on)) L.accepted;
      knows = subst (TaskKnows f b) (sym T.task) (left_knows f b t.job w t.steps (law_turn did) on);
      members = members;
      cursor = own_cursor;
      spares = subst (TaskSpares (is_stood (spots_of ys))) (sym T.task) (left_spares (is_stood (spots_of ys)) t.job w t.steps (law_turn did) on);
      others_spare = λ o ne. opener_spares o ne (slice_get xs o) refl (F.known o) (F.spared o);
      alone = λ o ne. alone_now o ne (slice_get xs o) refl;
      others_alone = λ o ne. others_alone o ne (slice_get xs o) refl;
    }

pub walk_keeps_file : WalkKeepsFile
walk_keeps_file f options xs ys ps qs a b size who x y t w did tells told W F B on P T =
    file_kept f options xs ys ps a b size who y W F P (kept f options xs ps qs a b size who x y t w did tells told W F B on T ys P)
