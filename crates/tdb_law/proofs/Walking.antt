-- The lists of walks stand for them after a turn.
use Rattle.std.proofs.Common.{◌≡◌, ℕ, zero, suc, ◌<◌, List, Bool, true, false, not, ◌==◌, Option, Some, None, refl, sym, ◌∙◌, subst, inl, inr, arith}
use Rattle.std.specs.Prelude.{◌&&◌, ◌||◌}
use Rattle.std.proofs.lemmas.Bool.{cases_eq, eq-eqb, ne_eqb}
use Rattle.tdb_space.specs.Form.{Form}
use Rattle.tdb_law.specs.Commands.{MapCommand, Command}
use Rattle.tdb_law.specs.Commands.GroupCommand.{Start, Commit, Prepare, Cancel}
use Rattle.tdb_law.specs.Commands.Command.{OnMap, OnLocks, Seqnum, OnGroup, OnWalk}
use Rattle.tdb_law.specs.Openers.{Own, Txn, seen, has}
use Rattle.tdb_law.specs.MapCommands.{map_touches}
use Rattle.tdb_law.specs.Refusals.{Refusal, refusal}
use Rattle.tdb_law.specs.Rows.{map_changed}
use Rattle.tdb_law.specs.Outcomes.{touches_by, touches, is_touch}
use Rattle.tdb_law.specs.Counting.{takes_by, takes, commit_takes, commit_writes}
use Rattle.tdb_law.specs.World.{State}
use Rattle.tdb_law.specs.Walks.{IsPlain}
use Rattle.tdb_law.specs.Replay.{Replay, any_below, takes_begun, taken, put, still_due}
use Rattle.tdb_law.specs.Standing.{IsOnWay}
use Rattle.tdb_law.proofs.Tests.{never_true, and_both, from_not}

pub put_here : {A : Type 0} (g : ℕ → A) (who : ℕ) (v : A) (o : ℕ) → o ≡ who → put g who v o ≡ v
put_here g who v o e = rw (eq-eqb o who e) refl

pub put_else : {A : Type 0} (g : ℕ → A) (who : ℕ) (v : A) (o : ℕ) → (o ≡ who → ⊥) → put g who v o ≡ g o
put_else g who v o ne = rw (ne_eqb o who ne) refl

-- an opener whose command takes a key is found among those that joined
any_found : (m o : ℕ) (p : ℕ → Bool) → o < m → p o ≡ true → any_below m p ≡ true
any_found zero o p low e = absurd (omega (arith, low))
any_found (suc m) o p low e =
    elim (cases_eq o m) [
      | inl same ↦ (let here : p m ≡ true = subst (λ u. p u ≡ true) same e in rw here refl)
      | inr apart ↦ or_true (p m) (any_below m p) (any_found m o p (omega (arith, low, apart)) e)
    ]
  where
    or_true : (a b : Bool) → b ≡ true → a || b ≡ true
    or_true true b e2 = refl
    or_true false b e2 = e2

not_same : (o who : ℕ) → (o ≡ who → ⊥) → not (o == who) ≡ true
not_same o who ne = rw (ne_eqb o who ne) refl

pub found_taken : (f : Form) (t : Replay) (who o : ℕ) (k : List ℕ) → o < t.joined → (o ≡ who → ⊥) → takes_begun f (t.own o) (t.begun o) k ≡ true → taken f t who k ≡ true
found_taken f t who o k low ne e = any_found t.joined o (λ z. not (z == who) && takes_begun f (t.own z) (t.begun z) k) low (rw (not_same o who ne) e)

-- a command that has had no step takes nothing
late_takes : (c : Command) (z y : Bool) → z && y ≡ true → z ≡ true
late_takes c true y e = refl
late_takes c false y e = e

-- takes, in parts: a plain command takes what it has changed and removes; a commit what its image lacks
-- no command takes a key before its first step
pub map_unchanged : (c : MapCommand) → map_changed c 0 ≡ false
map_unchanged (MapCommand.Fetch k) = refl
map_unchanged (MapCommand.Has k) = refl
map_unchanged (MapCommand.Delete k) = refl
map_unchanged (MapCommand.Store k v) = refl
map_unchanged (MapCommand.Insert k v) = refl
map_unchanged (MapCommand.Modify k v) = refl
map_unchanged (MapCommand.Append k v) = refl
map_unchanged MapCommand.Wipe = refl
map_unchanged MapCommand.Check = refl

writes_none : (p : Option ℕ) → commit_writes p 0 ≡ false
writes_none None = refl
writes_none (Some n) = refl

commit_none : (o : Option Txn) (k : List ℕ) → commit_takes o 0 k ≡ false
commit_none None k = refl
commit_none (Some t) k = rw (writes_none t.prepared) refl

plain_none : (o z y : Bool) → z ≡ false → o && (z && y) ≡ false
plain_none true z y e = rw e refl
plain_none false z y e = refl

takes_none_by : (q : Option Refusal) (c : Command) (x : Own) (k : List ℕ) → takes_by q c x 0 k ≡ false
takes_none_by (Some q) c x k = refl
takes_none_by None (OnMap c) x k = plain_none _ (map_changed c 0) _ (map_unchanged c)
takes_none_by None (OnLocks c) x k = refl
takes_none_by None Seqnum x k = refl
takes_none_by None (OnGroup Start) x k = refl
takes_none_by None (OnGroup Commit) x k = commit_none x.txn k
takes_none_by None (OnGroup Prepare) x k = refl
takes_none_by None (OnGroup Cancel) x k = refl
takes_none_by None (OnWalk c) x k = refl

pub takes_none : (f : Form) (c : Command) (x : Own) (k : List ℕ) → takes f c x 0 k ≡ false
unfolding takes
takes_none f c x k = takes_none_by (refusal f c x) c x k

-- a plain command that touches a key is such a touch
touch_in : (o z : Bool) → o && z ≡ true → z ≡ true
touch_in true z e = e
touch_in false z e = absurd (never_true e)

plain_touch_by : (q : Option Refusal) (c : Command) (x : Own) (k : List ℕ) → IsPlain c → touches_by q c x k ≡ true → is_touch c k ≡ true
plain_touch_by (Some q) c x k plain e = absurd (never_true e)
plain_touch_by None (OnMap c) x k plain e = touch_in _ (map_touches c k) e
plain_touch_by None (OnLocks c) x k plain e = absurd plain
plain_touch_by None Seqnum x k plain e = absurd plain
plain_touch_by None (OnGroup c) x k plain e = absurd plain
plain_touch_by None (OnWalk c) x k plain e = absurd plain

pub plain_touch : (f : Form) (c : Command) (x : Own) (k : List ℕ) → IsPlain c → touches f c x k ≡ true → is_touch c k ≡ true
plain_touch f c x k plain e = plain_touch_by (refusal f c x) c x k plain e

-- walks in other words: the same lists
pub way_alike : (f : Form) (w : State) (o : ℕ) (g h d e : List ℕ → Bool) → ((k : List ℕ) → h k ≡ g k) → ((k : List ℕ) → e k ≡ true → d k ≡ true) → IsOnWay f w o g d → IsOnWay f w o h e
way_alike f w o g h d e same fewer way = record {
  behind = λ k shown. way.behind k (sym (same k) ∙ shown);
  reached = λ k shown. way.reached k (sym (same k) ∙ shown);
  due = λ k owed.
      (elim (way.due k (fewer k owed)) [
        | inl shown ↦ inl (same k ∙ shown)
        | inr rest ↦ inr rest
      ]);
}

-- what a walk owes: it was due, isn't touched, is seen and isn't taken out
pub owed_parts : (f : Form) (z : List ℕ → Bool) (t : Replay) (o : ℕ) (k : List ℕ) → still_due f z t o k ≡ true
    → (t.due o k ≡ true) × (z k ≡ false) × (has (seen (t.own o) t.map) k ≡ true) × (taken f t o k ≡ false)
owed_parts f z t o k e =
    let first = and_both (t.due o k) _ e in
    let second = and_both (not (z k)) _ first.1 in
    let third = and_both (has (seen (t.own o) t.map) k) (not (taken f t o k)) second.1 in
    (first.0, from_not (z k) second.0, third.0, from_not (taken f t o k) third.1)
