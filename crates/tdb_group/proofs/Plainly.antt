-- What the commands of a group are by the law, of an opener that has its transaction and nothing else: none is
-- refused, and each is one that an opener can do by itself.
use Rattle.std.proofs.Common.{◌≡◌, ℕ, ◌+◌, ◌≤◌, Bool, true, false, cond, List, [], ◌∷◌, Option, None, Some, is_some, refl, sym, ◌∙◌, ap, subst, inl, inr, arith}
use Rattle.std.specs.List.{sum}
use Rattle.std.specs.Prelude.{◌&&◌, ◌==◌, length, map, nat_lt}
use Rattle.std.specs.FinMap.{empty, entries, len-empty, len-entries}
use Rattle.std.specs.Ordering.{nat_cmp}
use Rattle.tdb_space.specs.Form.{Form}
use Rattle.tdb_law.specs.Commands.{Command, GroupCommand, MapCommand}
use Rattle.tdb_law.specs.Commands.Command.{OnGroup, OnMap}
use Rattle.tdb_law.specs.Commands.GroupCommand.{Cancel, Commit, Prepare, Start}
use Rattle.tdb_law.specs.Commands.MapCommand.{Fetch, Has, Delete, Store, Insert, Modify, Append, Wipe, Check}
use Rattle.tdb_law.specs.Ends.{commit_last, last_by}
use Rattle.tdb_law.specs.Held.{covers, is_chain, locked_next, may_want, strongest}
use Rattle.tdb_law.specs.Openers.{Options, Own, Txn, explicit_locks, outside}
use Rattle.tdb_law.specs.Outcomes.{busies_by, counts_by, moves, moves_by}
use Rattle.tdb_law.specs.Refusals.{Refusal, held_count, is_doomed, is_nested, is_prepared, refusal}
use Rattle.tdb_law.specs.Refusals.Refusal.{NoneOpen}
use Rattle.tdb_law.specs.Rows.{Lock, commit_locks, locks, locks_by, plans_in, start_locks}
use Rattle.tdb_law.proofs.Tests.{never_true}
use Rattle.tdb_world.proofs.Courses.MayCommit.{commit_granted}
use Rattle.tdb_world.proofs.PreparedTurns.{commit_short}
use Rattle.tdb_group.specs.Members.{with_txn}
use Rattle.tdb_group.specs.Turns.{IsPlain}

-- who has counted no lock holds none
no_counts : (es : List (ℕ × ℕ)) → length es ≡ 0 → sum (map (λ (e : ℕ × ℕ). e.1) es) ≡ 0
no_counts [] none = refl
no_counts (e ∷ es) none = absurd (omega (arith, none))

no_locks : (o : Options) (t : Option Txn) → explicit_locks (with_txn o t) ≡ 0
no_locks o t = let none = no_counts (entries empty) (sym (len-entries empty) ∙ len-empty nat_cmp ℕ) in ap (λ n. n + 0) none

none_held : (o : Options) (t : Option Txn) → held_count (with_txn o t) ≡ 0
none_held o t = ap (λ n. n + 0) (no_locks o t)

unlocked : (o : Options) (t : Option Txn) → nat_lt 0 (explicit_locks (with_txn o t)) ≡ false
unlocked o t = ap (nat_lt 0) (no_locks o t)

-- Which commands aren't refused.
start_granted : (f : Form) (x : Own) → x.txn ≡ None → x.options.read_only ≡ false → held_count x ≡ 0 → refusal f (OnGroup Start) x ≡ None
unfolding refusal
start_granted f x out writes none = rw (writes, out, none) refl

cancel_granted : (f : Form) (x : Own) → outside x ≡ false → refusal f (OnGroup Cancel) x ≡ None
unfolding refusal
cancel_granted f x inner = rw inner refl

cancel_refused : (f : Form) (x : Own) → outside x ≡ true → refusal f (OnGroup Cancel) x ≡ Some NoneOpen
unfolding refusal
cancel_refused f x out = rw out refl

prepare_granted : (f : Form) (x : Own) → outside x ≡ false → is_prepared x.txn ≡ false → is_nested x.txn ≡ false → is_doomed x.txn ≡ false → nat_lt 0 (explicit_locks x) ≡ false
    → refusal f (OnGroup Prepare) x ≡ None
unfolding refusal
prepare_granted f x inner bare outer whole unlocked = rw (inner, bare, outer, whole, unlocked) refl

-- a command on one key
abbrev pub IsKeyed : MapCommand → Type 0
IsKeyed Wipe = ⊥
IsKeyed Check = ⊥
IsKeyed c = Unit {0}

map_granted : (f : Form) (c : MapCommand) (x : Own) → IsKeyed c → x.options.read_only ≡ false → outside x ≡ false → is_prepared x.txn ≡ false → refusal f (OnMap c) x ≡ None
unfolding refusal
map_granted f (Fetch k) x keyed writes inner bare = rw bare refl
map_granted f (Has k) x keyed writes inner bare = rw bare refl
map_granted f (Delete k) x keyed writes inner bare = rw (writes, bare, inner) refl
map_granted f (Store k v) x keyed writes inner bare = rw (writes, bare, inner) refl
map_granted f (Insert k v) x keyed writes inner bare = rw (writes, bare, inner) refl
map_granted f (Modify k v) x keyed writes inner bare = rw (writes, bare, inner) refl
map_granted f (Append k v) x keyed writes inner bare = rw (writes, bare, inner) refl
map_granted f Wipe x keyed writes inner bare = absurd keyed
map_granted f Check x keyed writes inner bare = absurd keyed

-- No lock of a row is stronger than one for writing, so no turn wants more.
abbrev AreWeak : List Lock → Type 0
AreWeak [] = Unit {0}
AreWeak (l ∷ ls) = (l.strength ≤ 2) × AreWeak ls

weak_if : (b : Bool) (n : ℕ) → n ≤ 2 → cond b n 0 ≤ 2
weak_if true n few = few
weak_if false n few = omega arith

none_if : (a b : Bool) → a ≡ false → cond (a && b) 1 0 ≤ 0
none_if true b e = absurd (never_true (sym e))
none_if false b e = omega arith

weak_strongest : (picks : Lock → Bool) (ls : List Lock) (b : ℕ) → AreWeak ls → strongest picks ls b ≤ 2
weak_strongest picks [] b weak = omega arith
weak_strongest picks (l ∷ ls) b weak =
    let here = weak_if (picks l && covers l b) l.strength weak.0 in
    let rest = weak_strongest picks ls b weak.1 in
    omega (arith, here, rest)

weak_want : (f : Form) (c : Command) (x : Own) → moves f c x ≡ false → ((purging : Bool) → AreWeak (locks f c x purging)) → (k b : ℕ) → may_want f c x k b ≤ 2
unfolding may_want
weak_want f c x still weak k b =
    let one : locked_next (locks f c x true) k b ≤ 2 = weak_strongest (λ l. l.turn == k) (locks f c x true) b (weak true) in
    let two : locked_next (locks f c x false) k b ≤ 2 = weak_strongest (λ l. l.turn == k) (locks f c x false) b (weak false) in
    let none : cond (moves f c x && (outside x && is_chain f b)) 1 0 ≤ 0 = none_if (moves f c x) (outside x && is_chain f b) still in
    omega (arith, one, two, none)

weak_start : AreWeak start_locks
weak_start = (omega arith, (omega arith, tt))

weak_plan : (plans numbered : Bool) → AreWeak (cond plans (commit_locks numbered) [])
weak_plan true true = (omega arith, (omega arith, (omega arith, tt)))
weak_plan true false = (omega arith, (omega arith, tt))
weak_plan false numbered = tt

-- a command on the transaction neither moves a cursor, nor asks for a number, nor finds a lock busy; nor does one on
-- the map
group_still : (q : Option Refusal) (g : GroupCommand) (x : Own) → moves_by q (OnGroup g) x ≡ false
group_still None g x = refl
group_still (Some q) g x = refl

group_numberless : (q : Option Refusal) (g : GroupCommand) → counts_by q (OnGroup g) ≡ false
group_numberless None g = refl
group_numberless (Some q) g = refl

group_patient : (q : Option Refusal) (g : GroupCommand) → busies_by q (OnGroup g) ≡ false
group_patient None g = refl
group_patient (Some q) g = refl

map_still : (q : Option Refusal) (c : MapCommand) (x : Own) → moves_by q (OnMap c) x ≡ false
map_still None c x = refl
map_still (Some q) c x = refl

map_numberless : (q : Option Refusal) (c : MapCommand) → counts_by q (OnMap c) ≡ false
map_numberless None c = refl
map_numberless (Some q) c = refl

map_patient : (q : Option Refusal) (c : MapCommand) → busies_by q (OnMap c) ≡ false
map_patient None c = refl
map_patient (Some q) c = refl

-- A command on the transaction, by its row.
group_plain : (f : Form) (g : GroupCommand) (x : Own) (q : Option Refusal) → refusal f (OnGroup g) x ≡ q → last_by q (OnGroup g) x ≤ 8 → ((purging : Bool) → AreWeak (locks_by f q (OnGroup g) x purging)) → x.live ≡ true
    → IsPlain f (OnGroup g) x
group_plain f g x q is few weak live =
    let still = group_still (refusal f (OnGroup g) x) g x in
    record {
      calm = inr tt;
      short = subst (λ z. last_by z (OnGroup g) x ≤ 8) (sym is) few;
      wants = weak_want f (OnGroup g) x still (λ purging. subst (λ z. AreWeak (locks_by f z (OnGroup g) x purging)) (sym is) (weak purging));
      still = still;
      numberless = group_numberless (refusal f (OnGroup g) x) g;
      patient = group_patient (refusal f (OnGroup g) x) g;
      live = live;
    }

-- An opener without a transaction may begin one.
module _ (f : Form) (o : Options) (writes : o.read_only ≡ false) where
  pub starts : refusal f (OnGroup Start) (with_txn o None) ≡ None
  starts = start_granted f (with_txn o None) refl writes (none_held o None)

  pub start_plain : IsPlain f (OnGroup Start) (with_txn o None)
  start_plain = group_plain f Start (with_txn o None) None starts (omega arith) (λ purging. weak_start) refl

-- One without a transaction is refused a Cancel.
pub cancels_nothing : (f : Form) (o : Options) → refusal f (OnGroup Cancel) (with_txn o None) ≡ Some NoneOpen
cancels_nothing f o = cancel_refused f (with_txn o None) refl

pub no_cancel_plain : (f : Form) (o : Options) → IsPlain f (OnGroup Cancel) (with_txn o None)
no_cancel_plain f o = group_plain f Cancel (with_txn o None) (Some NoneOpen) (cancels_nothing f o) (omega arith) (λ purging. tt) refl

-- In its transaction.
module _ (f : Form) (o : Options) (t : Txn) where
  abbrev x : Own
  x = with_txn o (Some t)

  pub cancels : refusal f (OnGroup Cancel) x ≡ None
  cancels = cancel_granted f x refl

  pub cancel_plain : IsPlain f (OnGroup Cancel) x
  cancel_plain = group_plain f Cancel x None cancels (omega arith) (λ purging. tt) refl

  -- one that isn't prepared
  module _ (bare : is_some t.prepared ≡ false) where
    pub keyed : (c : MapCommand) → IsKeyed c → o.read_only ≡ false → refusal f (OnMap c) x ≡ None
    keyed c on writes = map_granted f c x on writes refl bare

    pub map_plain : (c : MapCommand) → IsKeyed c → o.read_only ≡ false → IsPlain f (OnMap c) x
    map_plain c on writes =
        let granted = keyed c on writes in
        let still = map_still (refusal f (OnMap c) x) c x in
        let no_step : last_by (refusal f (OnMap c) x) (OnMap c) x ≡ 0 = subst (λ z. last_by z (OnMap c) x ≡ 0) (sym granted) refl in
        record {
          calm = inl no_step;
          short = omega (arith, no_step);
          wants = weak_want f (OnMap c) x still (λ purging. subst (λ z. AreWeak (locks_by f z (OnMap c) x purging)) (sym granted) tt);
          still = still;
          numberless = map_numberless (refusal f (OnMap c) x) c;
          patient = map_patient (refusal f (OnMap c) x) c;
          live = refl;
        }

    few_steps : (b : Bool) → cond b 4 0 ≤ 8
    few_steps true = omega arith
    few_steps false = omega arith

    module _ (outer : nat_lt 1 t.depth ≡ false) (intact : t.doomed ≡ false) where
      pub prepares : refusal f (OnGroup Prepare) x ≡ None
      prepares = prepare_granted f x refl bare outer intact (unlocked o (Some t))

      pub prepare_plain : IsPlain f (OnGroup Prepare) x
      prepare_plain = group_plain f Prepare x None prepares (few_steps (plans_in t)) (λ purging. weak_plan (plans_in t) t.numbered) refl

  -- one that is
  module _ (prepared : is_some t.prepared ≡ true) (outer : nat_lt 1 t.depth ≡ false) (intact : t.doomed ≡ false) where
    pub commits : refusal f (OnGroup Commit) x ≡ None
    commits = commit_granted f x (λ e. record { outer = outer; whole = intact; unlocked = unlocked o (Some t) }) prepared

    pub commit_plain : IsPlain f (OnGroup Commit) x
    commit_plain =
        let few : commit_last (Some t) ≤ 3 = commit_short t prepared in
        group_plain f Commit x None commits (omega (arith, few)) (λ purging. weak_plan (plans_in t) t.numbered) refl
