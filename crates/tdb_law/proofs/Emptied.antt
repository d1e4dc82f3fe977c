-- An opener that joins or dies leaves the others as they were: the world stays sound, and the map and the walks stand.
use Rattle.std.proofs.Common.{◌≡◌, ℕ, ◌<◌, ◌≤◌, List, Bool, true, false, Option, Some, None, is_some, refl, sym, ◌∙◌, ap, subst, subst₂, inl, inr, arith, ◌≢◌}
use Rattle.std.specs.FinMap.{get}
use Rattle.std.proofs.lemmas.Bool.{cases_Bool, cases_eq}
use Rattle.tdb_space.specs.Form.{Form}
use Rattle.tdb_space.specs.Pairs.{home}
use Rattle.tdb_law.specs.Commands.{Command}
use Rattle.tdb_law.specs.Commands.GroupCommand.{Start, Commit, Prepare, Cancel}
use Rattle.tdb_law.specs.Commands.Command.{OnMap, OnLocks, Seqnum, OnGroup, OnWalk}
use Rattle.tdb_law.specs.Openers.{Own, Txn, Map, Task}
use Rattle.tdb_law.specs.Refusals.{Refusal, refusal}
use Rattle.tdb_law.specs.Rows.{is_changed, changed_by, commits_in, gate_shut, commit_changed, map_changed}
use Rattle.tdb_law.specs.Outcomes.{map_after, touches}
use Rattle.tdb_law.specs.World.{State, IsPending, IsSound}
use Rattle.tdb_law.specs.Effects.{IsReady}
use Rattle.tdb_law.specs.Walks.{IsPlain}
use Rattle.tdb_law.specs.Standing.{IsTouchedBy, MapStands, IsOnWay}
use Rattle.tdb_law.proofs.Pending.{same_task}
use Rattle.std.proofs.lemmas.Bool.{and_right}
use Rattle.std.specs.Prelude.{nat_le}
use Rattle.tdb_space.specs.Form.{data_start}
use Rattle.tdb_law.specs.Openers.{outside, nowhere}
use Rattle.tdb_law.specs.Held.{kept, holding}
use Rattle.tdb_law.specs.Events.{OthersStay, HasNothing}
use Rattle.tdb_law.proofs.Local.{Agree, same_told, same_after, untouched}
use Rattle.tdb_law.proofs.Covered.{changed_late}
use Rattle.tdb_law.proofs.Walking.{map_unchanged}
use Rattle.tdb_law.proofs.Pending.{no_task, apart_read}
use Rattle.tdb_law.proofs.Tests.{never_true}

-- before its first step no command has changed the file
gate_start : (p : Option ℕ) → gate_shut p 0 ≡ false
gate_start None = refl
gate_start (Some steps) = and_right (nat_le 4 steps) false refl

commit_start : (o : Option Txn) → commit_changed o 0 ≡ false
commit_start None = refl
commit_start (Some z) = and_right (commits_in z) (gate_shut z.prepared 0) (gate_start z.prepared)

unchanged_start_by : (q : Option Refusal) (c : Command) (x : Own) → changed_by q c x 0 ≡ false
unchanged_start_by (Some q) c x = refl
unchanged_start_by None (OnMap c) x = and_right (outside x) (map_changed c 0) (map_unchanged c)
unchanged_start_by None (OnLocks c) x = refl
unchanged_start_by None Seqnum x = refl
unchanged_start_by None (OnGroup Start) x = refl
unchanged_start_by None (OnGroup Commit) x = commit_start x.txn
unchanged_start_by None (OnGroup Prepare) x = refl
unchanged_start_by None (OnGroup Cancel) x = refl
unchanged_start_by None (OnWalk c) x = refl

pub unchanged_start : (f : Form) (c : Command) (x : Own) → is_changed f c x 0 ≡ false
unfolding is_changed
unchanged_start f c x = unchanged_start_by (refusal f c x) c x

module _ (f : Form) (old new : State) (who : ℕ) (St : OthersStay f old new who) (N : HasNothing new who) where
  pub before_event : (o : ℕ) (d : Command) (y : Own) → o ≢ who → IsPending f new o d y → IsPending f old o d y
  before_event o d y ne p = record { task = p.task; has_task = sym (St.task o ne) ∙ p.has_task; command = p.command; owned = sym (St.own o ne) ∙ p.owned; made = p.made }

  pub after_event : (o : ℕ) (d : Command) (y : Own) → o ≢ who → IsPending f old o d y → IsPending f new o d y
  after_event o d y ne p = record { task = p.task; has_task = St.task o ne ∙ p.has_task; command = p.command; owned = St.own o ne ∙ p.owned; made = p.made }

  pub other_event : (o : ℕ) (d : Command) (y : Own) → IsPending f new o d y → o ≢ who
  other_event o d y p is = no_task p.task (sym N.task ∙ subst (λ q. new.task q ≡ Some p.task) is p.has_task)

  -- the world stays sound
  pub sound_event : IsSound f old → ((b : ℕ) → kept f (new.own who) nowhere b ≤ 0) → ((o : ℕ) → (new.own o).live ≡ true → o < new.joined)
      → (new.stale ≡ true → (o : ℕ) (d : Command) (y : Own) (k : List ℕ) → IsPending f new o d y → touches f d y k ≡ true → ⊥) → IsSound f new
  sound_event S bare there stale = record {
    chains = S.chains;
    agrees = λ o b.
        (elim (cases_eq o who) [
          | inl e ↦ subst (λ p. new.table p b ≡ holding f (new.own p) (new.spot p) (new.task p) b) (sym e) (nothing_held b)
          | inr ne ↦ St.table o b ne ∙ (S.agrees o b ∙ (ap (λ v. holding f (old.own o) (old.spot o) v b) (sym (St.task o ne))
              ∙ (ap (λ v. holding f (old.own o) v (new.task o) b) (sym (St.spot o ne)) ∙ ap (λ v. holding f v (new.spot o) (new.task o) b) (sym (St.own o ne)))))
        ]);
    apart = λ o p b ne.
        (elim (cases_eq o who) [
          | inl e ↦ (let p_other : p ≢ who = λ is. ne (e ∙ sym is) in
              let none : new.table o b ≡ 0 = ap (λ q. new.table q b) e ∙ N.table b in
              omega (arith, none, St.table p b p_other, S.apart o p b ne))
          | inr o_other ↦ elim (cases_eq p who) [
            | inl e ↦ (let none : new.table p b ≡ 0 = ap (λ q. new.table q b) e ∙ N.table b in omega (arith, none, St.table o b o_other, S.apart o p b ne))
            | inr p_other ↦ omega (arith, St.table o b o_other, St.table p b p_other, S.apart o p b ne)
          ]
        ]);
    stands = λ o place on.
        (elim (cases_eq o who) [
          | inl e ↦ absurd (none_stands place (sym (ap (λ v. v.stands) (ap new.spot e ∙ N.spot)) ∙ on))
          | inr ne ↦ subst (λ y. (y.txn ≡ None) × (data_start f ≤ place) × (is_some y.cursor ≡ true)) (sym (St.own o ne)) (S.stands o place (ap (λ v. v.stands) (sym (St.spot o ne)) ∙ on))
        ]);
    busy_there = λ o z has_task.
        (elim (cases_eq o who) [
          | inl e ↦ absurd (no_task z (sym (ap new.task e ∙ N.task) ∙ has_task))
          | inr ne ↦ ap (λ y. y.live) (St.own o ne) ∙ S.busy_there o z (sym (St.task o ne) ∙ has_task)
        ]);
    live_joined = there;
    stale = stale;
  }
    where
      none_stands : (place : ℕ) → ◌≡◌ {A = Option ℕ} None (Some place) → ⊥
      none_stands place e = cc

      nothing_held : (b : ℕ) → new.table who b ≡ holding f (new.own who) (new.spot who) (new.task who) b
      nothing_held b =
          let at_rest : holding f (new.own who) (new.spot who) (new.task who) b ≡ holding f (new.own who) nowhere None b =
          ap (λ v. holding f (new.own who) v (new.task who) b) N.spot ∙ ap (λ v. holding f (new.own who) nowhere v b) N.task in
          omega (arith, N.table b, at_rest, bare b)

  -- where the opener had no change pending the map stands as it stood
  pub maps_idle : (m : Map) → ((d : Command) (y : Own) → IsPending f old who d y → ⊥) → MapStands f old m → MapStands f new m
  maps_idle m never M = record {
    replies = λ o d y p. M.replies o d y (before_event o d y (other_event o d y p) p);
    pending = λ o d y p k touching. ap (λ v. get v k) St.file ∙ M.pending o d y (before_event o d y (other_event o d y p) p) k touching;
    each = λ k.
        (elim (M.each k) [
          | inl same ↦ inl (ap (λ v. get v k) St.file ∙ same)
          | inr by ↦ inr (record {
            owner = by.owner;
            command = by.command;
            own = by.own;
            touched = by.touched;
            pending = after_event by.owner by.command by.own (λ is. never by.command by.own (subst (λ q. IsPending f old q by.command by.own) is by.pending)) by.pending;
          })
        ]);
  }

  -- where it had one that change is the map's from now on
  module _ (S : IsSound f old) (u : Task) (mine : old.task who ≡ Some u) (made : is_changed f u.command (old.own who) u.steps ≡ true) (m : Map) (M : MapStands f old m) where
    ready : IsReady f u.command (old.own who) u.steps
    ready k reading = changed_late f u.command (old.own who) u.steps made

    mine_pending : IsPending f old who u.command (old.own who)
    mine_pending = record { task = u; has_task = mine; command = refl; owned = refl; made = made }

    abbrev now : Map
    now = map_after f u.command (old.own who) m

    agree_other : (o : ℕ) (d : Command) (y : Own) → o ≢ who → IsPending f old o d y → Agree f d y m now
    agree_other o d y ne p k reading = sym (untouched f u.command (old.own who) m k (apart_read f old S o d y p who u mine ne ready k reading))

    its_own : (k : List ℕ) (by : IsTouchedBy f old k) → by.owner ≡ who → touches f u.command (old.own who) k ≡ true
    its_own k by is =
        let p = subst (λ q. IsPending f old q by.command by.own) is by.pending in
        let same : p.task ≡ u = same_task p.task u (sym p.has_task ∙ mine) in
        subst₂ (λ e v. touches f e v k ≡ true) (sym p.command ∙ ap (λ v. v.command) same) (sym p.owned) by.touched

    pub maps_finish : MapStands f new now
    maps_finish = record {
      replies = λ o d y p. (let ne = other_event o d y p in let was = before_event o d y ne p in sym (same_told f d y m now (agree_other o d y ne was)) ∙ M.replies o d y was);
      pending = λ o d y p k touching.
          (let ne = other_event o d y p in let was = before_event o d y ne p in
          ap (λ v. get v k) St.file ∙ (M.pending o d y was k touching ∙ same_after f d y m now (agree_other o d y ne was) k touching));
      each = λ k.
          (elim (cases_Bool (touches f u.command (old.own who) k)) [
            | inl touching ↦ inl (ap (λ v. get v k) St.file ∙ M.pending who u.command (old.own who) mine_pending k touching)
            | inr never ↦ elim (M.each k) [
              | inl same ↦ inl (ap (λ v. get v k) St.file ∙ (same ∙ sym (untouched f u.command (old.own who) m k never)))
              | inr by ↦ inr (record {
                owner = by.owner;
                command = by.command;
                own = by.own;
                touched = by.touched;
                pending = after_event by.owner by.command by.own (λ is. never_true (sym never ∙ its_own k by is)) by.pending;
              })
            ]
          ]);
    }

  -- another's walk stays on its way, unless the opener was in the middle of a plain change
  pub walk_event : ((d : Command) (y : Own) → IsPending f old who d y → IsPlain d → ⊥) → (o : ℕ) → o ≢ who → (g due owed : List ℕ → Bool) → ((k : List ℕ) → owed k ≡ true → due k ≡ true)
      → IsOnWay f old o g due → IsOnWay f new o g owed
  walk_event never o ne g due owed fewer way =
      let shift = St.walk o ne in
      record {
        behind = λ k e.
            (elim (cases_Bool ((new.mark o).ahead k)) [
              | inr off ↦ off
              | inl later ↦ elim (shift.fewer k later) [
                | inl before ↦ absurd (never_true (sym (way.behind k e) ∙ before))
                | inr beyond ↦ absurd (omega (arith, beyond, way.reached k e))
              ]
            ]);
        reached = λ k e. subst (λ v. home f k < v) (sym shift.reached) (way.reached k e);
        due = λ k e.
            (elim (way.due k (fewer k e)) [
              | inl before ↦ inl before
              | inr rest ↦ elim rest [
                | inl ahead ↦ elim (shift.kept k ahead) [ inl later ↦ inr (inl later) | inr lost ↦ absurd lost ]
                | inr by ↦ inr (inr (record {
                  owner = by.owner;
                  command = by.command;
                  own = by.own;
                  plain = by.plain;
                  touched = by.touched;
                  pending = after_event by.owner by.command by.own (λ is. never by.command by.own (subst (λ q. IsPending f old q by.command by.own) is by.pending) by.plain) by.pending;
                  near = elim by.near [ inl is ↦ inl is | inr both ↦ inr (shift.inside ∙ both.0, both.1 ∙ sym shift.reached) ];
                }))
              ]
            ]);
      }
