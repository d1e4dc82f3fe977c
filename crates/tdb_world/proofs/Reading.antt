-- In a world that may only read no turn writes, and so it stays.
use Rattle.std.proofs.Common.{◌≡◌, ◌≢◌, ◌≤◌, ℕ, Bool, true, false, List, slice_get, Option, Some, None, refl, sym, ◌∙◌, ap, subst, inl, inr, arith}
use Rattle.std.proofs.lemmas.Bool.{cases_eq, cond-false, cond-true, ne_eqb}
use Rattle.std.specs.Prelude.{◌&&◌, ◌||◌, ◌==◌, not, if◌then◌else◌}
use Rattle.tdb_disk.specs.History.{History}
use Rattle.tdb_space.specs.Form.{Form}
use Rattle.tdb_locks.specs.HeldLocks.{HeldLocks}
use Rattle.tdb_law.specs.Beginning.{IsLoaded}
use Rattle.tdb_law.specs.Commands.{Command, LockCommand, MapCommand, Reply, Turn, WalkCommand}
use Rattle.tdb_law.specs.Commands.Command.{OnMap, OnLocks, Seqnum, OnGroup, OnWalk}
use Rattle.tdb_law.specs.Commands.GroupCommand.{Start, Commit, Prepare, Cancel}
use Rattle.tdb_law.specs.Commands.LockCommand.{ChainLock, ChainLockNb, ChainUnlock, LockAll, LockAllRead, UnlockAll}
use Rattle.tdb_law.specs.Commands.MapCommand.{Fetch, Has, Delete, Store, Insert, Modify, Append, Wipe, Check}
use Rattle.tdb_law.specs.Commands.Turn.{Step, Blocked, Ends}
use Rattle.tdb_law.specs.Commands.WalkCommand.{First, Next, EndWalk, Close}
use Rattle.tdb_law.specs.Counting.{unsettles_by}
use Rattle.tdb_law.specs.Effects.{task_left, Effect, SpotLeft}
use Rattle.tdb_law.specs.Effects.Effect.{effect_waits, effect_goes_on, effect_changes, effect_answers, effect_shows, effect_starves, effect_is_full, effect_is_busy, effect_numbers, effect_finishes}
use Rattle.tdb_law.specs.Events.{Dies, Given, HasNothing, Joins, OthersStay}
use Rattle.tdb_law.specs.Lines.{commit_steps, leaves_open, txn_leaves_open}
use Rattle.tdb_law.specs.OneAside.Sides.{heads_ahead, whole, Past, Side}
use Rattle.tdb_law.specs.Openers.{ended, outside, Map, Options, Own, Spot, Task, Txn, View}
use Rattle.tdb_law.specs.Outcomes.{changed_txn, own_by, own_cancelled, own_left, own_locked, own_prepared, own_refused, own_spared, own_walked}
use Rattle.tdb_law.specs.Refusals.{refusal, Refusal}
use Rattle.tdb_law.specs.Refusals.Refusal.{OnlyReads}
use Rattle.tdb_law.specs.Turned.{Turned}
use Rattle.tdb_law.specs.World.{State}
use Rattle.tdb_law.proofs.Walking.{put_else, put_here}
use Rattle.tdb_walk.specs.InLaw.{must_purge}
use Rattle.tdb_walk.specs.declared.standing.Standing.{Standing}
use Rattle.tdb_walk.specs.declared.standing.Standing.TheVariants.{On, Before, Past as Over}
use Rattle.tdb_commands.specs.declared.options.Options.{Options as WorldOptions}
use Rattle.tdb_txn_owner.specs.Holders.{HolderState}
use Rattle.tdb_openers.specs.Openers.{law_task}
use Rattle.tdb_openers.specs.States.{view_at, view_for, view_under}
use Rattle.tdb_openers.specs.Worlds.{state_in}
use Rattle.tdb_openers.specs.declared.opener.Opener.{Opener}
use Rattle.tdb_world.specs.Looks.{WritesNothing}
use Rattle.tdb_world.specs.States.{IsStateOf, SideIs}
use Rattle.tdb_world.specs.States.IsStateOf.{of_stale, of_whole}
use Rattle.tdb_world.specs.Whole.{form_at, options_at, Whole}

-- The opener may only read: the file is read-only, it has no transaction, and where its command has had a step its
-- cursor isn't going to purge a record.
pub record OnlyReading (state : State) (o : ℕ) : Type 0 where
  pub read_only : (state.own o).options.read_only ≡ true
  pub outside : (state.own o).txn ≡ None
  pub spares : (t : Task) → state.task o ≡ Some t → 1 ≤ t.steps → (state.spot o).purging ≡ true → (state.spot o).gone ≡ false → ⊥

-- all openers may, and no gate stands open
pub record AllReading (state : State) : Type 0 where
  pub fresh : state.stale ≡ false
  pub each : (o : ℕ) → OnlyReading state o

-- a command that writes is refused
abbrev Reads : Own → Type 0
Reads x = (x.options.read_only ≡ true) × (x.txn ≡ None)

start_refused : (f : Form) (x : Own) → x.options.read_only ≡ true → refusal f (OnGroup Start) x ≡ Some OnlyReads
unfolding refusal
start_refused f x reads = rw reads refl

store_refused : (f : Form) (k v : List ℕ) (x : Own) → x.options.read_only ≡ true → refusal f (OnMap (Store k v)) x ≡ Some OnlyReads
unfolding refusal
store_refused f k v x reads = rw reads refl

insert_refused : (f : Form) (k v : List ℕ) (x : Own) → x.options.read_only ≡ true → refusal f (OnMap (Insert k v)) x ≡ Some OnlyReads
unfolding refusal
insert_refused f k v x reads = rw reads refl

modify_refused : (f : Form) (k v : List ℕ) (x : Own) → x.options.read_only ≡ true → refusal f (OnMap (Modify k v)) x ≡ Some OnlyReads
unfolding refusal
modify_refused f k v x reads = rw reads refl

append_refused : (f : Form) (k v : List ℕ) (x : Own) → x.options.read_only ≡ true → refusal f (OnMap (Append k v)) x ≡ Some OnlyReads
unfolding refusal
append_refused f k v x reads = rw reads refl

delete_refused : (f : Form) (k : List ℕ) (x : Own) → x.options.read_only ≡ true → refusal f (OnMap (Delete k)) x ≡ Some OnlyReads
unfolding refusal
delete_refused f k x reads = rw reads refl

wipe_refused : (f : Form) (x : Own) → x.options.read_only ≡ true → refusal f (OnMap Wipe) x ≡ Some OnlyReads
unfolding refusal
wipe_refused f x reads = rw reads refl

-- so only a command on a cursor unsettles
and_false : (a : Bool) → (a && false) ≡ false
and_false true = refl
and_false false = refl

refused_calm : (q : Option Refusal) (c : Command) (x : Own) (n : ℕ) → q ≡ Some OnlyReads → unsettles_by q c x n ≡ true → ⊥
refused_calm (Some r) c x n is e = cc e
refused_calm None c x n is e = cc is

other_calm : (q : Option Refusal) (c : Command) (x : Own) (n : ℕ) → unsettles_by q c x n ≡ true → (q ≡ None → unsettles_by None c x n ≡ false) → ⊥
other_calm (Some r) c x n e none = cc e
other_calm None c x n e none = let both : true ≡ false = sym e ∙ none refl in cc both

only_walks : (f : Form) (c : Command) (x : Own) (n : ℕ) → x.options.read_only ≡ true → unsettles_by (refusal f c x) c x n ≡ true → (w : WalkCommand) × (c ≡ OnWalk w)
only_walks f (OnMap (Fetch k)) x n reads e = absurd (other_calm (refusal f (OnMap (Fetch k)) x) (OnMap (Fetch k)) x n e (λ none. and_false (outside x)))
only_walks f (OnMap (Has k)) x n reads e = absurd (other_calm (refusal f (OnMap (Has k)) x) (OnMap (Has k)) x n e (λ none. and_false (outside x)))
only_walks f (OnMap (Delete k)) x n reads e = absurd (refused_calm (refusal f (OnMap (Delete k)) x) (OnMap (Delete k)) x n (delete_refused f k x reads) e)
only_walks f (OnMap (Store k v)) x n reads e = absurd (refused_calm (refusal f (OnMap (Store k v)) x) (OnMap (Store k v)) x n (store_refused f k v x reads) e)
only_walks f (OnMap (Insert k v)) x n reads e = absurd (refused_calm (refusal f (OnMap (Insert k v)) x) (OnMap (Insert k v)) x n (insert_refused f k v x reads) e)
only_walks f (OnMap (Modify k v)) x n reads e = absurd (refused_calm (refusal f (OnMap (Modify k v)) x) (OnMap (Modify k v)) x n (modify_refused f k v x reads) e)
only_walks f (OnMap (Append k v)) x n reads e = absurd (refused_calm (refusal f (OnMap (Append k v)) x) (OnMap (Append k v)) x n (append_refused f k v x reads) e)
only_walks f (OnMap Wipe) x n reads e = absurd (refused_calm (refusal f (OnMap Wipe) x) (OnMap Wipe) x n (wipe_refused f x reads) e)
only_walks f (OnMap Check) x n reads e = absurd (other_calm (refusal f (OnMap Check) x) (OnMap Check) x n e (λ none. and_false (outside x)))
only_walks f (OnLocks l) x n reads e = absurd (other_calm (refusal f (OnLocks l) x) (OnLocks l) x n e (λ none. refl))
only_walks f Seqnum x n reads e = absurd (other_calm (refusal f Seqnum x) Seqnum x n e (λ none. refl))
only_walks f (OnGroup g) x n reads e = absurd (other_calm (refusal f (OnGroup g) x) (OnGroup g) x n e (λ none. refl))
only_walks f (OnWalk w) x n reads e = (w, refl)

-- an opener that may only read writes nothing
pub reading_writes_nothing : (f : Form) (state : State) (o : ℕ) → OnlyReading state o → WritesNothing f state o
reading_writes_nothing f state o R = record {
  outside = R.outside;
  no_start = λ task has is granted. (let both : None ≡ Some OnlyReads = sym granted ∙ start_refused f (state.own o) R.read_only in cc both);
  calm = λ M.
      let found = only_walks f M.task.command (state.own o) M.midway.step R.read_only M.midway.unsettles in
      let P = M.purges found.0 found.1 in
      let taken = M.midway.taken in
      R.spares M.task M.has (omega (arith, taken)) P.0 P.1;
}

-- What an opener that may only read has after its command.
reads_left : (t : Option Txn) (x : Own) → t ≡ None → Reads x → Reads (own_left t x)
reads_left None x none R = R
reads_left (Some t) x none R = absurd (cc none)

reads_prepared : (t : Option Txn) (x : Own) (steps : ℕ) → t ≡ None → Reads x → Reads (own_prepared t x steps)
reads_prepared None x steps none R = R
reads_prepared (Some t) x steps none R = absurd (cc none)

reads_cancelled : (t : Option Txn) (x : Own) → t ≡ None → Reads x → Reads (own_cancelled t x)
reads_cancelled None x none R = R
reads_cancelled (Some t) x none R = absurd (cc none)

reads_changed : (c : MapCommand) (t : Option Txn) → t ≡ None → changed_txn c t ≡ None
reads_changed c None none = refl
reads_changed c (Some t) none = absurd (cc none)

reads_locked : (f : Form) (c : LockCommand) (x : Own) → Reads x → Reads (own_locked f c x)
reads_locked f (ChainLock k) x R = R
reads_locked f (ChainLockNb k) x R = R
reads_locked f (ChainUnlock k) x R = R
reads_locked f LockAll x R = R
reads_locked f LockAllRead x R = R
reads_locked f UnlockAll x R = R

reads_walked : (w : WalkCommand) (x : Own) (r : Reply) → Reads x → Reads (own_walked w x r)
reads_walked First x r R = R
reads_walked Next x r R = R
reads_walked EndWalk x r R = R
reads_walked Close x r R = (R.0, refl)

reads_refused : (c : Command) (x : Own) → Reads x → Reads (own_refused c x)
reads_refused (OnGroup Start) x R = R
reads_refused (OnGroup Commit) x R = reads_left x.txn x R.1 R
reads_refused (OnGroup Prepare) x R = reads_left x.txn x R.1 R
reads_refused (OnGroup Cancel) x R = R
reads_refused (OnMap c) x R = R
reads_refused (OnLocks c) x R = R
reads_refused (OnWalk w) x R = R
reads_refused Seqnum x R = R

reads_by : (f : Form) (q : Option Refusal) (c : Command) (x : Own) (steps : ℕ) (r : Reply) (m : Map) → refusal f c x ≡ q → Reads x → Reads (own_by f q c x steps r m)
reads_by f (Some q) c x steps r m is R = reads_refused c x R
reads_by f None (OnMap c) x steps r m is R = (R.0, reads_changed c x.txn R.1)
reads_by f None (OnLocks c) x steps r m is R = reads_locked f c x R
reads_by f None Seqnum x steps r m is R = R
reads_by f None (OnGroup Start) x steps r m is R = absurd (let both : None ≡ Some OnlyReads = sym is ∙ start_refused f x R.0 in cc both)
reads_by f None (OnGroup Commit) x steps r m is R = reads_left x.txn x R.1 R
reads_by f None (OnGroup Prepare) x steps r m is R = reads_prepared x.txn x steps R.1 R
reads_by f None (OnGroup Cancel) x steps r m is R = reads_cancelled x.txn x R.1 R
reads_by f None (OnWalk w) x steps r m is R = reads_walked w x r R

reads_spared : (c : Command) (x : Own) → Reads x → Reads (own_spared c x)
reads_spared (OnGroup Start) x R = R
reads_spared (OnGroup Commit) x R = (R.0, refl)
reads_spared (OnGroup Prepare) x R = (R.0, refl)
reads_spared (OnGroup Cancel) x R = R
reads_spared (OnWalk First) x R = R
reads_spared (OnWalk Next) x R = R
reads_spared (OnWalk EndWalk) x R = R
reads_spared (OnWalk Close) x R = (R.0, refl)
reads_spared (OnMap c) x R = R
reads_spared (OnLocks c) x R = R
reads_spared Seqnum x R = R

reads_after : (f : Form) (free : Type 0) (conflict : ℕ → ℕ → Type 0) (finds : Reply → Type 0) (number : ℕ) (c : Command) (n : ℕ) (x : Own) (file : Map) (turn : Turn) (y : Own) (next : Map) → Effect f free conflict finds number c n x file turn y next
    → Reads x → Reads y
reads_after f free conflict finds number c n x file turn y next (effect_waits o b _ _ _ _ own) R = subst Reads (sym own) R
reads_after f free conflict finds number c n x file turn y next (effect_goes_on _ _ _ _ own) R = subst Reads (sym own) R
reads_after f free conflict finds number c n x file turn y next (effect_changes _ _ _ _ _ _ _ own) R = subst Reads (sym own) R
reads_after f free conflict finds number c n x file turn y next (effect_answers q _ _ _ _ _ _ _ _ own) R = subst Reads (sym own) (reads_by f (refusal f c x) c x n q file refl R)
reads_after f free conflict finds number c n x file turn y next (effect_shows q _ _ _ _ _ own) R = subst Reads (sym own) (reads_by f (refusal f c x) c x n q file refl R)
reads_after f free conflict finds number c n x file turn y next (effect_starves _ _ _ _ own) R = subst Reads (sym own) (reads_spared c x R)
reads_after f free conflict finds number c n x file turn y next (effect_is_full len need _ _ _ _ _ _ _ own) R = subst Reads (sym own) (reads_spared c x R)
reads_after f free conflict finds number c n x file turn y next (effect_is_busy o b _ _ _ _ own) R = subst Reads (sym own) (reads_spared c x R)
reads_after f free conflict finds number c n x file turn y next (effect_numbers q _ _ _ _ _ own) R = subst Reads (sym own) R
reads_after f free conflict finds number c n x file turn y next (effect_finishes _ _ _ _ own) R = subst Reads (sym own) (reads_by f (refusal f c x) c x n _ file refl R)

-- What only the world knows of it: it doesn't come to purge a record.
left_steps : (c : Command) (n : ℕ) (t : Task) → Some (record { command = c; steps = n }) ≡ Some t → t.steps ≡ n
left_steps c n t e = let is : record { command = c; steps = n } ≡ t = cc e in sym (ap (λ (z : Task). z.steps) is)

spares_by : (f : Form) (c : Command) (n : ℕ) (a b : Spot) (v : View) (table want : ℕ → ℕ) (x y : Own) (turn : Turn) → SpotLeft f table want c n x y a v b turn → v.must ≡ false
    → (1 ≤ n → a.purging ≡ true → a.gone ≡ false → ⊥) → (t : Task) → task_left c n turn ≡ Some t → 1 ≤ t.steps → b.purging ≡ true → b.gone ≡ false → ⊥
spares_by f c n a b v table want x y Step L must before t e low purging gone = elim (cases_eq n 0) [
  | inl none ↦
      let here : (n == 0) ≡ true = subst (λ k. (k == 0) ≡ true) (sym none) refl in
      let is : b.purging ≡ v.must = ap (λ (z : Spot). z.purging) L ∙ cond-true (n == 0) v.must a.purging here in
      let both : true ≡ false = sym purging ∙ (is ∙ must) in cc both
  | inr some ↦
      let is : b.purging ≡ a.purging = ap (λ (z : Spot). z.purging) L ∙ cond-false (n == 0) v.must a.purging (ne_eqb n 0 some) in
      before (omega (arith, some)) (sym is ∙ purging) (sym (ap (λ (z : Spot). z.gone) L) ∙ gone)
]
spares_by f c n a b v table want x y (Blocked o byte) L must before t e low purging gone = elim L [
  | inl same ↦ (let steps = left_steps c n t e in before (omega (arith, steps, low)) (sym (ap (λ (z : Spot). z.purging) same) ∙ purging) (sym (ap (λ (z : Spot). z.gone) same) ∙ gone))
  | inr went ↦ (let both : true ≡ false = sym went.1 ∙ gone in cc both)
]
spares_by f c n a b v table want x y (Ends r) L must before t e low purging gone = cc e

-- A turn leaves all openers so.
module _ (f : Form) (old new : State) (who : ℕ) (task : Task) (turn : Turn) (T : Turned f old who task turn new) (must : (old.view who).must ≡ false) where
  turned_one : (o : ℕ) → OnlyReading old o → OnlyReading old who → OnlyReading new o
  turned_one o R W = elim (cases_eq o who) [
    | inl e ↦ subst (OnlyReading new) (sym e) (
        let after = reads_after f _ _ _ _ task.command task.steps (old.own who) old.file turn (new.own who) new.file T.effect (W.read_only, W.outside) in
        record {
          read_only = after.0;
          outside = after.1;
          spares = λ t is. spares_by f task.command task.steps (old.spot who) (new.spot who) (old.view who) _ _ (old.own who) (new.own who) turn T.leaves_spot must (W.spares task T.mine) t (sym T.leaves ∙ is);
        })
    | inr ne ↦ record {
      read_only = ap (λ (z : Own). z.options.read_only) (T.others_own o ne) ∙ R.read_only;
      outside = ap (λ (z : Own). z.txn) (T.others_own o ne) ∙ R.outside;
      spares = λ t is low purging gone.
          R.spares t (sym (T.others o ne) ∙ is) low (sym (ap (λ (z : Spot). z.purging) (T.others_spot o ne)) ∙ purging) (sym (ap (λ (z : Spot). z.gone) (T.others_spot o ne)) ∙ gone);
    }
  ]

  pub turned_reading : AllReading old → AllReading new
  turned_reading A = record { fresh = T.stale; each = λ o. turned_one o (A.each o) (A.each who) }

-- So do a join, a gift and a death.
stay_reading : (f : Form) (old new : State) (who o : ℕ) → OthersStay f old new who → o ≢ who → OnlyReading old o → OnlyReading new o
stay_reading f old new who o S ne R = record {
  read_only = ap (λ (z : Own). z.options.read_only) (S.own o ne) ∙ R.read_only;
  outside = ap (λ (z : Own). z.txn) (S.own o ne) ∙ R.outside;
  spares = λ t is low purging gone.
      R.spares t (sym (S.task o ne) ∙ is) low (sym (ap (λ (z : Spot). z.purging) (S.spot o ne)) ∙ purging) (sym (ap (λ (z : Spot). z.gone) (S.spot o ne)) ∙ gone);
}

new_reading : (old new : State) (who : ℕ) (live : Bool) → new.own who ≡ record (ended (old.own who)) { live = live } → HasNothing new who → OnlyReading old who → OnlyReading new who
new_reading old new who live own N R = record {
  read_only = ap (λ (z : Own). z.options.read_only) own ∙ R.read_only;
  outside = ap (λ (z : Own). z.txn) own;
  spares = λ t is low purging gone. (let both : None ≡ Some t = sym N.task ∙ is in cc both);
}

pub join_reading : (f : Form) (old new : State) (who : ℕ) → Joins f old who new → AllReading old → AllReading new
join_reading f old new who J A = record {
  fresh = J.stale ∙ A.fresh;
  each = λ o. elim (cases_eq o who) [
    | inl e ↦ subst (OnlyReading new) (sym e) (new_reading old new who true J.own J.nothing (A.each who))
    | inr ne ↦ stay_reading f old new who o J.stay ne (A.each o)
  ];
}

leaves_none : (f : Form) (x : Own) (u : Option Task) → x.txn ≡ None → leaves_open f x u ≡ false
leaves_none f x u out = ap (λ t. txn_leaves_open t (commit_steps f x u)) out

pub death_reading : (f : Form) (old new : State) (who : ℕ) → Dies f old who new → AllReading old → AllReading new
death_reading f old new who D A = record {
  fresh = D.stale ∙ (ap (λ b. b || leaves_open f (old.own who) (old.task who)) A.fresh ∙ leaves_none f (old.own who) (old.task who) (A.each who).outside);
  each = λ o. elim (cases_eq o who) [
    | inl e ↦ subst (OnlyReading new) (sym e) (new_reading old new who false D.own D.nothing (A.each who))
    | inr ne ↦ stay_reading f old new who o D.stay ne (A.each o)
  ];
}

given_one : (old new : State) (who : ℕ) (c : Command) → Given old who c new → (o : ℕ) → OnlyReading old o → OnlyReading new o
given_one old new who c G o R = record {
  read_only = ap (λ (z : State). (z.own o).options.read_only) G.rest ∙ R.read_only;
  outside = ap (λ (z : State). (z.own o).txn) G.rest ∙ R.outside;
  spares = λ t is low purging gone. elim (cases_eq o who) [
    | inl e ↦ (let none = left_steps c 0 t (sym G.task ∙ (sym (ap new.task e) ∙ is)) in omega (arith, none, low))
    | inr ne ↦ R.spares t (sym (G.others o ne) ∙ is) low (sym (ap (λ (z : State). (z.spot o).purging) G.rest) ∙ purging) (sym (ap (λ (z : State). (z.spot o).gone) G.rest) ∙ gone)
  ];
}

pub gift_reading : (old new : State) (who : ℕ) (c : Command) → Given old who c new → AllReading old → AllReading new
gift_reading old new who c G A = record { fresh = ap (λ (z : State). z.stale) G.rest ∙ A.fresh; each = λ o. given_one old new who c G o (A.each o) }

-- A state just loaded over a file that is read-only is so.
pub loaded_reading : (f : Form) (state : State) (options : Options) → IsLoaded f state options → options.read_only ≡ true → AllReading state
loaded_reading f state options L reads = record {
  fresh = L.stale;
  each = λ o. record {
    read_only = ap (λ (z : Own). z.options.read_only) (L.own o) ∙ reads;
    outside = ap (λ (z : Own). z.txn) (L.own o);
    spares = λ t is low purging gone. (let both : None ≡ Some t = sym (L.task o) ∙ is in cc both);
  };
}

-- In a state of such a world no cursor comes to purge a record.
purges_none : (a b r d : Bool) → r ≡ true → (a && (b && (not r && d))) ≡ false
purges_none a b true d e = ap (λ z. a && z) (and_false b) ∙ and_false a
purges_none a b false d e = absurd (cc e)

place_must : (f : Form) (img : List ℕ) (own : HeldLocks) (stood_on : List ℕ) (read_only : Bool) (place : Standing) → read_only ≡ true → must_purge f img own stood_on read_only place ≡ false
place_must f img own stood_on read_only (On chain off) e = purges_none _ _ read_only _ e
place_must f img own stood_on read_only (Before chain) e = refl
place_must f img own stood_on read_only Over e = refl

command_must : (f : Form) (options : WorldOptions) (img stood_on : List ℕ) (x : Opener) (c : Command) → options.read_only ≡ true → (view_for f options img stood_on x c).must ≡ false
command_must f options img stood_on x (OnWalk w) e = place_must f img x.held stood_on options.read_only x.walk.cursor.place e
command_must f options img stood_on x (OnMap c) e = refl
command_must f options img stood_on x (OnLocks c) e = refl
command_must f options img stood_on x Seqnum e = refl
command_must f options img stood_on x (OnGroup c) e = refl

task_must : (f : Form) (options : WorldOptions) (img stood_on : List ℕ) (x : Opener) (u : Option Task) → options.read_only ≡ true → (view_under f options img stood_on x u).must ≡ false
task_must f options img stood_on x None e = refl
task_must f options img stood_on x (Some t) e = command_must f options img stood_on x t.command e

opener_must : (f : Form) (options : WorldOptions) (img stood_on : List ℕ) (x : Option Opener) → options.read_only ≡ true → (view_at f options img stood_on x).must ≡ false
opener_must f options img stood_on None e = refl
opener_must f options img stood_on (Some x) e = task_must f options img stood_on x (law_task x.task) e

shut_must : (b : Bool) (heads : ℕ → Bool) (q : State) (o : ℕ) → (q.view o).must ≡ false → ((if b then (λ p. heads_ahead heads (q.mark p)) else q.view) o).must ≡ false
shut_must true heads q o e = refl
shut_must false heads q o e = e

module _ (w : Whole) (h : History) (reads : (options_at w).read_only ≡ true) where
  plain_must : (img : List ℕ) (o : ℕ) → ((state_in w.openers img).view o).must ≡ false
  plain_must img o = opener_must (form_at w) (options_at w) img _ (slice_get w.openers.openers o) reads

  side_must : (holder : Option HolderState) (img : List ℕ) (past : Past) (s : Side) → SideIs w holder h img past (Some s) → s.view.must ≡ false
  side_must None img past s is = absurd is
  side_must (Some hd) img past s is = is.side.keeps

  whole_must : (img : List ℕ) (past : Past) (side : Option Side) (o : ℕ) → SideIs w w.aside h img past side → ((whole (state_in w.openers img) past side).view o).must ≡ false
  whole_must img past None o is = plain_must img o
  whole_must img past (Some s) o is =
      let q = state_in w.openers img in
      let others = if s.shuts then (λ p. heads_ahead s.heads (q.mark p)) else q.view in
      elim (cases_eq o s.here) [
        | inl e ↦ ap (λ (z : View). z.must) (put_here others s.here s.view o e) ∙ side_must w.aside img past s is
        | inr ne ↦ ap (λ (z : View). z.must) (put_else others s.here s.view o ne) ∙ shut_must s.shuts s.heads q o (plain_must img o)
      ]

  pub state_must : (state : State) (o : ℕ) → IsStateOf w h state → (state.view o).must ≡ false
  state_must state o (of_whole S) = ap (λ (z : State). (z.view o).must) S.is ∙ whole_must S.image S.past S.side o S.is_side
  state_must state o (of_stale S) = ap (λ (z : State). (z.view o).must) S.is ∙ plain_must S.image o
