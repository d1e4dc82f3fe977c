-- What the laws say of the file: at the beginning, at a key that nobody writes, and where no change is unfinished.
use Rattle.std.proofs.Common.{◌≡◌, ℕ, zero, suc, ◌<◌, List, Bool, true, false, cond, Option, Some, None, refl, sym, ◌∙◌, ap, subst, subst₂, inl, inr, ◌⊎◌, arith}
use Rattle.std.specs.FinMap.{get}
use Rattle.std.proofs.lemmas.Bool.{cases_Bool, cases_eq}
use Rattle.tdb_space.specs.Form.{Form}
use Rattle.tdb_law.specs.Commands.{Command}
use Rattle.tdb_law.specs.Commands.GroupCommand.{Start, Commit, Prepare, Cancel}
use Rattle.tdb_law.specs.Commands.Command.{OnMap, OnLocks, Seqnum, OnGroup, OnWalk}
use Rattle.tdb_law.specs.Openers.{Own, Txn, Map, Task, Options, nowhere, seen, image_or}
use Rattle.tdb_law.specs.Refusals.{Refusal, refusal}
use Rattle.tdb_law.specs.Rows.{changed_by, is_changed, commit_changed, commits_in, gate_shut}
use Rattle.tdb_law.specs.Outcomes.{commits, touches_by, touches, map_by, map_after}
use Rattle.tdb_law.specs.Held.{holding}
use Rattle.tdb_law.specs.World.{State, IsPending, IsSound}
use Rattle.tdb_law.specs.Walks.{IsPlain}
use Rattle.tdb_law.specs.Replay.{Replay}
use Rattle.tdb_law.specs.Standing.{IsSame, Stands}
use Rattle.tdb_law.specs.Beginning.{IsLoaded, beginning, nobody}
use Rattle.tdb_law.specs.Laws.{BeginningStands, FileIsPlain, IsCommitted, QuietIsPlain, NumberIsPlain}
use Rattle.tdb_law.proofs.Maps.{maps_equal}
use Rattle.tdb_law.proofs.Kept.{closed_base}
use Rattle.tdb_law.proofs.Pending.{no_task, pending_touches}
use Rattle.tdb_law.proofs.Tests.{never_true, and_both}

none_some : (place : ℕ) → ◌≡◌ {A = Option ℕ} None (Some place) → ⊥
none_some place e = cc

none_txn : (t : Txn) → ◌≡◌ {A = Option Txn} None (Some t) → ⊥
none_txn t e = cc

-- a world just loaded
module _ (f : Form) (w : State) (options : Options) (L : IsLoaded f w options) where
  idle : (o : ℕ) (d : Command) (y : Own) → IsPending f w o d y → ⊥
  idle o d y p = no_task p.task (sym (L.task o) ∙ p.has_task)

  loaded_sound : IsSound f w
  loaded_sound = record {
    chains = L.chains;
    agrees = λ o b.
        (let bare = closed_base f 0 b (nobody options) in
        let at_rest : holding f (w.own o) (w.spot o) (w.task o) b ≡ holding f (nobody options) nowhere None b =
        ap (λ y. holding f y (w.spot o) (w.task o) b) (L.own o) ∙ (ap (λ v. holding f (nobody options) v (w.task o) b) (L.spot o) ∙ ap (λ t. holding f (nobody options) nowhere t b) (L.task o)) in
        omega (arith, L.table o b, at_rest, bare));
    apart = λ o p b ne. omega (arith, L.table o b, L.table p b);
    stands = λ o place on. absurd (none_some place (sym (ap (λ v. v.stands) (L.spot o)) ∙ on));
    busy_there = λ o t has_task. absurd (no_task t (sym (L.task o) ∙ has_task));
    live_joined = λ o live. absurd (never_true (sym (ap (λ y. y.live) (L.own o)) ∙ live));
    stale = λ stale. absurd (never_true (sym L.stale ∙ stale));
  }

  loaded_stands : Stands f w (beginning options w.file w.number)
  loaded_stands = record {
    joined = sym L.joined;
    same = λ o. subst (IsSame None) (sym (L.task o)) tt;
    owns = λ o. sym (L.own o);
    stale = sym L.stale;
    settled = sym L.settled;
    maps = record { replies = λ o d y p. absurd (idle o d y p); pending = λ o d y p. absurd (idle o d y p); each = λ k. inl refl };
    gone = λ o none. ap (λ v. v.gone) (L.spot o);
    due = λ o k owed. absurd (never_true owed);
    walks = λ o. record { behind = λ k shows. absurd (never_true shows); reached = λ k shows. absurd (never_true shows); due = λ k owed. absurd (never_true owed) };
    image_number = λ o. sym (L.image_number o);
    shut = λ o d y p. absurd (idle o d y p);
    number = inl refl;
    untouched = λ o t has_txn. absurd (none_txn t (sym (ap (λ y. y.txn) (L.own o)) ∙ has_txn));
  }

pub beginning_lawful : BeginningStands
beginning_lawful f w options L = (loaded_sound f w options L, loaded_stands f w options L)

-- a key whose chain nobody holds for writing
pub file_plain : FileIsPlain
file_plain f w s S P k free =
    elim (P.maps.each k) [
      | inl same ↦ same
      | inr by ↦ absurd (omega (arith, pending_touches f w S by.owner by.command by.own by.pending k by.touched, free by.owner))
    ]

-- a pending command that is no command on the map is a Commit, and touches every key
commit_only : (q : Option Refusal) (c : Command) (x : Own) (n : ℕ) (m : Map) → (IsPlain c → ⊥) → changed_by q c x n ≡ true
    → (c ≡ OnGroup Commit) × ((k : List ℕ) → touches_by q c x k ≡ true) × (map_by q c x m ≡ seen x m)
commit_only (Some q) c x n m other e = absurd (never_true e)
commit_only None (OnMap c) x n m other e = absurd (other tt)
commit_only None (OnLocks c) x n m other e = absurd (never_true e)
commit_only None Seqnum x n m other e = absurd (never_true e)
commit_only None (OnGroup Start) x n m other e = absurd (never_true e)
commit_only None (OnGroup Commit) x n m other e = go x.txn e
  where
    go : (o : Option Txn) → commit_changed o n ≡ true → (OnGroup Commit ≡ OnGroup Commit) × ((k : List ℕ) → commits o ≡ true) × (cond (commits o) (image_or o m) m ≡ image_or o m)
    go None e2 = absurd (never_true e2)
    go (Some t) e2 = (let planned = (and_both (commits_in t) (gate_shut t.prepared n) e2).0 in (refl, (λ k. planned), rw planned refl))
commit_only None (OnGroup Prepare) x n m other e = absurd (never_true e)
commit_only None (OnGroup Cancel) x n m other e = absurd (never_true e)
commit_only None (OnWalk c) x n m other e = absurd (never_true e)

commit_alone : (f : Form) (c : Command) (x : Own) (n : ℕ) (m : Map) → (IsPlain c → ⊥) → is_changed f c x n ≡ true
    → (c ≡ OnGroup Commit) × ((k : List ℕ) → touches f c x k ≡ true) × (map_after f c x m ≡ seen x m)
unfolding is_changed
commit_alone f c x n m other e = commit_only (refusal f c x) c x n m other e

-- whether anybody's command is pending can be told
abbrev made_task : Form → Own → Option Task → Bool
made_task f x None = false
made_task f x (Some t) = is_changed f t.command x t.steps

any_or_none : (n : ℕ) (p : ℕ → Bool) → ((o : ℕ) × (p o ≡ true)) ⊎ ((o : ℕ) → o < n → p o ≡ false)
any_or_none zero p = inr (λ o low. absurd (omega (arith, low)))
any_or_none (suc n) p =
    elim (cases_Bool (p n)) [
      | inl here ↦ inl (n, here)
      | inr off ↦ elim (any_or_none n p) [
        | inl found ↦ inl found
        | inr none ↦ inr (λ o low. (elim (cases_eq o n) [ inl e ↦ subst (λ q. p q ≡ false) (sym e) off | inr ne ↦ none o (omega (arith, low, ne)) ]))
      ]
    ]

module _ (f : Form) (w : State) (s : Replay) (S : IsSound f w) (P : Stands f w s) (quiet : (o : ℕ) (t : Task) → w.task o ≡ Some t → IsPlain t.command → ⊥) where
  of_task : (o : ℕ) (t : Option Task) → w.task o ≡ t → made_task f (w.own o) t ≡ true → IsCommitted f w s
  of_task o None e made = absurd (never_true made)
  of_task o (Some t) e made =
      let alone = commit_alone f t.command (w.own o) t.steps s.map (quiet o t e) made in
      let pend : IsPending f w o t.command (w.own o) = record { task = t; has_task = e; command = refl; owned = refl; made = made } in
      record {
        owner = o;
        own = w.own o;
        pending = subst (λ c. IsPending f w o c (w.own o)) alone.0 pend;
        file = maps_equal w.file (seen (w.own o) s.map) (λ k. P.maps.pending o t.command (w.own o) pend k (alone.1 k) ∙ ap (λ g. get g k) alone.2);
      }

  quiet_by : ((o : ℕ) × (made_task f (w.own o) (w.task o) ≡ true)) ⊎ ((o : ℕ) → o < w.joined → made_task f (w.own o) (w.task o) ≡ false) → (w.file ≡ s.map) ⊎ IsCommitted f w s
  quiet_by (inl found) = inr (of_task found.0 (w.task found.0) refl found.1)
  quiet_by (inr none) =
      inl (maps_equal w.file s.map (λ k.
      (elim (P.maps.each k) [
        | inl same ↦ same
        | inr by ↦ (let p = by.pending in
            let low : by.owner < w.joined = S.live_joined by.owner (S.busy_there by.owner p.task p.has_task) in
            let made : made_task f (w.own by.owner) (w.task by.owner) ≡ true =
            ap (made_task f (w.own by.owner)) p.has_task ∙ subst₂ (λ c y. is_changed f c y p.task.steps ≡ true) (sym p.command) (sym p.owned) p.made in
            absurd (never_true (sym (none by.owner low) ∙ made)))
      ])))

pub quiet_plain : QuietIsPlain
quiet_plain f w s S P quiet = quiet_by f w s S P quiet (any_or_none w.joined (λ o. made_task f (w.own o) (w.task o)))

pub number_plain : NumberIsPlain
number_plain f w s S P = P.number
