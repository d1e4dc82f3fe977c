-- The laws of an opener that joins and of one that dies.
use Rattle.std.proofs.Common.{◌≡◌, ℕ, ◌≤◌, List, [], Bool, true, false, cond, Option, Some, None, is_none, is_some, refl, sym, ◌∙◌, ap, subst, subst₂, inl, inr, ◌⊎◌, arith, ◌≢◌}
use Rattle.std.specs.Prelude.{◌&&◌, ◌||◌}
use Rattle.std.proofs.lemmas.Bool.{cases_Bool, cases_eq}
use Rattle.tdb_space.specs.Form.{Form}
use Rattle.tdb_law.specs.Commands.{Command}
use Rattle.tdb_law.specs.Commands.GroupCommand.{Start, Commit, Prepare, Cancel}
use Rattle.tdb_law.specs.Commands.Command.{OnMap, OnLocks, Seqnum, OnGroup, OnWalk}
use Rattle.tdb_law.specs.Openers.{Own, Txn, Map, Spot, Task, seen, has}
use Rattle.tdb_law.specs.Refusals.{Refusal, refusal, chain_byte}
use Rattle.tdb_law.specs.Rows.{is_changed, changed_by, commit_changed, was_planned}
use Rattle.tdb_law.specs.Outcomes.{map_after, touches}
use Rattle.tdb_law.specs.World.{State, IsPending, IsSound}
use Rattle.tdb_law.specs.Walks.{IsPlain}
use Rattle.tdb_law.specs.Replay.{Replay, put}
use Rattle.tdb_law.specs.Standing.{IsSame, MapStands, is_fresh, WalkStandsBy, WalkStands, Stands}
use Rattle.std.proofs.lemmas.Bool.{leb-true}
use Rattle.std.specs.Prelude.{nat_le, nat_lt}
use Rattle.tdb_law.specs.Openers.{nowhere, closed}
use Rattle.tdb_law.specs.Rows.{plans_in, commit_locks, plan_locks}
use Rattle.tdb_law.specs.World.{HasFewChains}
use Rattle.tdb_law.specs.Held.{locked, prepared_held, txn_held, kept_by, kept, held, holding}
use Rattle.tdb_law.specs.Lines.{EndsTransaction, commit_steps_by, commit_steps, is_gate_open, txn_leaves_open, leaves_open, died_map, died_number, MayDie, died_state}
use Rattle.tdb_law.specs.Lines.Line.{Died}
use Rattle.tdb_law.specs.Counting.{brings}
use Rattle.tdb_law.specs.Standing.{IsBringing, IsUntouched}
use Rattle.tdb_law.specs.Events.{OthersStay, HasNothing, Dies}
use Rattle.tdb_law.specs.Laws.{LawfulLine, DeathIsLawful}
use Rattle.tdb_law.proofs.Covered.{commit_covers, held_by}
use Rattle.tdb_law.proofs.Kept.{closed_base}
use Rattle.tdb_law.proofs.Walking.{put_here, put_else, way_alike, owed_parts}
use Rattle.tdb_law.proofs.Pending.{same_task, no_task, pending_touches}
use Rattle.tdb_law.proofs.Saying.{one_txn}
use Rattle.tdb_law.proofs.Emptied.{unchanged_start, before_event, after_event, other_event, sound_event, maps_idle, maps_finish, walk_event}
use Rattle.tdb_law.proofs.Tests.{never_true, and_both, or_cases}

and_false : (a b : Bool) → a ≡ false → a && b ≡ false
and_false true b e = absurd (never_true (sym e))
and_false false b e = refl

-- a command without a line has had no step
same_or_start : (b t : Option Task) → IsSame b t → (b ≡ t) ⊎ ((b ≡ None) × ((u : Task) × (t ≡ Some u) × (u.steps ≡ 0)))
same_or_start None None same = inl refl
same_or_start None (Some u) same = inr (refl, (u, refl, same))
same_or_start (Some v) None same = absurd same
same_or_start (Some v) (Some u) same = inl (ap Some same)

start_made : (f : Form) (x : Own) (u : Task) → u.steps ≡ 0 → is_changed f u.command x u.steps ≡ false
start_made f x u e = ap (is_changed f u.command x) e ∙ unchanged_start f u.command x

died_map_same : (f : Form) (x : Own) (m : Map) (b t : Option Task) → IsSame b t → died_map f x b m ≡ died_map f x t m
died_map_same f x m b t same =
    elim (same_or_start b t same) [
      | inl e ↦ ap (λ z. died_map f x z m) e
      | inr start ↦ (let u = start.1.0 in
          let none : died_map f x (Some u) m ≡ m = rw (start_made f x u start.1.2) refl in
          ap (λ z. died_map f x z m) start.0 ∙ (sym none ∙ ap (λ z. died_map f x z m) (sym start.1.1)))
    ]

died_number_same : (f : Form) (x : Own) (q p : ℕ) (b t : Option Task) → IsSame b t → died_number f x b q p ≡ died_number f x t q p
died_number_same f x q p b t same =
    elim (same_or_start b t same) [
      | inl e ↦ ap (λ z. died_number f x z q p) e
      | inr start ↦ (let u = start.1.0 in
          let none : died_number f x (Some u) q p ≡ q = rw (and_false (is_changed f u.command x u.steps) (brings f u.command x) (start_made f x u start.1.2)) refl in
          ap (λ z. died_number f x z q p) start.0 ∙ (sym none ∙ ap (λ z. died_number f x z q p) (sym start.1.1)))
    ]

no_steps : (q : Option Refusal) (c : Command) → commit_steps_by q c 0 ≡ 0
no_steps (Some q) c = refl
no_steps None (OnMap c) = refl
no_steps None (OnLocks c) = refl
no_steps None Seqnum = refl
no_steps None (OnGroup Start) = refl
no_steps None (OnGroup Commit) = refl
no_steps None (OnGroup Prepare) = refl
no_steps None (OnGroup Cancel) = refl
no_steps None (OnWalk c) = refl

steps_same : (f : Form) (x : Own) (b t : Option Task) → IsSame b t → commit_steps f x b ≡ commit_steps f x t
steps_same f x b t same =
    elim (same_or_start b t same) [
      | inl e ↦ ap (commit_steps f x) e
      | inr start ↦ (let u = start.1.0 in
          let none : commit_steps f x (Some u) ≡ 0 = ap (commit_steps_by (refusal f u.command x) u.command) start.1.2 ∙ no_steps (refusal f u.command x) u.command in
          ap (commit_steps f x) start.0 ∙ (sym none ∙ ap (commit_steps f x) (sym start.1.1)))
    ]

may_die_same : (b t : Option Task) → IsSame b t → MayDie t → MayDie b
may_die_same None t same may = tt
may_die_same (Some v) None same may = absurd same
may_die_same (Some v) (Some u) same may = subst (λ z. EndsTransaction z.command) (sym same) may

-- who leaves a gate open holds every chain for writing
steps_commit : (q : Option Refusal) (c : Command) (n : ℕ) → 5 ≤ commit_steps_by q c n → (q ≡ None) × (c ≡ OnGroup Commit) × (5 ≤ n)
steps_commit (Some q) c n le = absurd (omega (arith, le))
steps_commit None (OnMap c) n le = absurd (omega (arith, le))
steps_commit None (OnLocks c) n le = absurd (omega (arith, le))
steps_commit None Seqnum n le = absurd (omega (arith, le))
steps_commit None (OnGroup Start) n le = absurd (omega (arith, le))
steps_commit None (OnGroup Commit) n le = (refl, refl, le)
steps_commit None (OnGroup Prepare) n le = absurd (omega (arith, le))
steps_commit None (OnGroup Cancel) n le = absurd (omega (arith, le))
steps_commit None (OnWalk c) n le = absurd (omega (arith, le))

module _ (f : Form) (chains : HasFewChains f) (k : List ℕ) where
  open_txn : (z : Txn) (a b : Bool) (p : Option ℕ) (n : ℕ) → (a && b && was_planned p) && is_gate_open p n ≡ true
      → ((5 ≤ n) × (a && b && is_none p ≡ true)) ⊎ (2 ≤ prepared_held z p (chain_byte f k))
  open_txn z false b p n e = absurd (never_true e)
  open_txn z true false p n e = absurd (never_true e)
  open_txn z true true None n e = inl (leb-true 5 n (and_both (nat_le 5 n) (nat_lt n 8) e).0, refl)
  open_txn z true true (Some steps) n e =
      let four : 4 ≤ steps = leb-true 4 steps (and_both (nat_le 4 steps) (nat_lt n 3) (and_both (nat_le 1 steps) (nat_le 4 steps && nat_lt n 3) e).1).0 in
      inr (commit_covers f chains z.numbered steps k (omega (arith, four)))

  planned_held : (o : Option Txn) (z : Txn) (n : ℕ) → o ≡ Some z → plans_in z ≡ true → 5 ≤ n → 2 ≤ locked (plan_locks o) n (chain_byte f k)
  planned_held o z n e planned le =
      subst (λ v. 2 ≤ locked (plan_locks v) n (chain_byte f k)) (sym e)
      (subst (λ b. 2 ≤ locked (cond b (commit_locks z.numbered) []) n (chain_byte f k)) (sym planned) (commit_covers f chains z.numbered n k (omega (arith, le))))

  open_held_by : (x : Own) (a : Spot) (t : Option Task) (o : Option Txn) → x.txn ≡ o → txn_leaves_open o (commit_steps f x t) ≡ true → 2 ≤ holding f x a t (chain_byte f k)
  unfolding held
  open_held_by x a t None e left = absurd (never_true left)
  open_held_by x a None (Some z) e left =
      elim (open_txn z (nat_le z.depth 1) z.changed z.prepared 0 left) [
        | inl planned ↦ absurd (omega (arith, planned.0))
        | inr prepared ↦ (let there : kept f x a (chain_byte f k) ≡ txn_held z (chain_byte f k) = ap (λ v. kept_by f v x a (chain_byte f k)) e in omega (arith, prepared, there))
      ]
  open_held_by x a (Some u) (Some z) e left =
      elim (open_txn z (nat_le z.depth 1) z.changed z.prepared (commit_steps f x (Some u)) left) [
        | inl planned ↦ (let is = steps_commit (refusal f u.command x) u.command u.steps planned.0 in
            let held_there : 2 ≤ held_by f None (OnGroup Commit) x a u.steps (chain_byte f k) = planned_held x.txn z u.steps e planned.1 is.2 in
            let there : 2 ≤ held_by f (refusal f u.command x) u.command x a u.steps (chain_byte f k) = subst₂ (λ q c. 2 ≤ held_by f q c x a u.steps (chain_byte f k)) (sym is.0) (sym is.1) held_there in
            omega (arith, there))
        | inr prepared ↦ (let there : kept f x a (chain_byte f k) ≡ txn_held z (chain_byte f k) = ap (λ v. kept_by f v x a (chain_byte f k)) e in omega (arith, prepared, there))
      ]

-- a commit that has changed the file has a transaction, and is no command on the map
made_txn_by : (q : Option Refusal) (c : Command) (x : Own) (n : ℕ) → EndsTransaction c → changed_by q c x n ≡ true → is_some x.txn ≡ true
made_txn_by (Some q) c x n ends e = absurd (never_true e)
made_txn_by None (OnMap c) x n ends e = absurd ends
made_txn_by None (OnLocks c) x n ends e = absurd ends
made_txn_by None Seqnum x n ends e = absurd ends
made_txn_by None (OnGroup Start) x n ends e = absurd ends
made_txn_by None (OnGroup Commit) x n ends e = go x.txn e
  where
    go : (o : Option Txn) → commit_changed o n ≡ true → is_some o ≡ true
    go None e2 = absurd (never_true e2)
    go (Some z) e2 = refl
made_txn_by None (OnGroup Prepare) x n ends e = absurd (never_true e)
made_txn_by None (OnGroup Cancel) x n ends e = absurd ends
made_txn_by None (OnWalk c) x n ends e = absurd ends

made_txn : (f : Form) (c : Command) (x : Own) (n : ℕ) → EndsTransaction c → is_changed f c x n ≡ true → is_some x.txn ≡ true
unfolding is_changed
made_txn f c x n ends e = made_txn_by (refusal f c x) c x n ends e

ends_plain : (c : Command) → EndsTransaction c → IsPlain c → ⊥
ends_plain (OnMap c) ends plain = ends
ends_plain (OnLocks c) ends plain = ends
ends_plain Seqnum ends plain = ends
ends_plain (OnGroup c) ends plain = plain
ends_plain (OnWalk c) ends plain = ends

none_txn : (u : Txn) → ◌≡◌ {A = Option Txn} None (Some u) → ⊥
none_txn u e = cc

module _ (f : Form) (old new : State) (who : ℕ) (s : Replay) (S : IsSound f old) (P : Stands f old s) (D : Dies f old who new) where
  abbrev x : Own
  x = old.own who

  abbrev St : OthersStay f old new who
  St = D.stay

  abbrev N : HasNothing new who
  N = D.nothing

  abbrev m : Map
  m = s.map

  own_task : (u : Task) → old.task who ≡ Some u → EndsTransaction u.command
  own_task u e = subst MayDie e D.may_die

  never_plain : (d : Command) (y : Own) → IsPending f old who d y → IsPlain d → ⊥
  never_plain d y p plain = ends_plain d (subst EndsTransaction p.command (own_task p.task p.has_task)) plain

  never_pending : (u : Task) → old.task who ≡ Some u → is_changed f u.command x u.steps ≡ false → (d : Command) (y : Own) → IsPending f old who d y → ⊥
  never_pending u mine off d y p =
      let same : p.task ≡ u = same_task p.task u (sym p.has_task ∙ mine) in
      never_true (sym off ∙ subst (λ v. is_changed f v.command x v.steps ≡ true) same (subst₂ (λ e v. is_changed f e v p.task.steps ≡ true) (sym p.command) (sym p.owned) p.made))

  maps_by : (t : Option Task) → old.task who ≡ t → MapStands f new (died_map f x t m)
  maps_by None e = maps_idle f old new who St N m (λ d y p. no_task p.task (sym e ∙ p.has_task)) P.maps
  maps_by (Some u) e =
      elim (cases_Bool (is_changed f u.command x u.steps)) [
        | inl made ↦ subst (λ b. MapStands f new (cond b (map_after f u.command x m) m)) (sym made) (maps_finish f old new who St N S u e made m P.maps)
        | inr off ↦ subst (λ b. MapStands f new (cond b (map_after f u.command x m) m)) (sym off) (maps_idle f old new who St N m (never_pending u e off) P.maps)
      ]

  here : s.own who ≡ x
  here = P.owns who

  map_there : died_map f (s.own who) (s.begun who) m ≡ died_map f x (old.task who) m
  map_there = ap (λ y. died_map f y (s.begun who) m) here ∙ died_map_same f x m (s.begun who) (old.task who) (P.same who)

  -- the number
  other_bringing : (by : IsBringing f old) → by.owner ≢ who → IsBringing f new
  other_bringing by ne = record { owner = by.owner; command = by.command; own = by.own; pending = after_event f old new who St N by.owner by.command by.own ne by.pending; brings = by.brings }

  number_by_task : (t : Option Task) → old.task who ≡ t → (died_number f x t s.number (old.image_number who) ≡ new.number) ⊎ IsBringing f new
  number_by_task None e =
      elim P.number [
        | inl same ↦ inl (same ∙ sym St.number)
        | inr by ↦ inr (other_bringing by (λ is. (let p = subst (λ q. IsPending f old q by.command by.own) is by.pending in no_task p.task (sym e ∙ p.has_task))))
      ]
  number_by_task (Some u) e = by_bool (is_changed f u.command x u.steps && brings f u.command x) refl
    where
      its : (by : IsBringing f old) → by.owner ≡ who → is_changed f u.command x u.steps && brings f u.command x ≡ true
      its by is =
          let p = subst (λ q. IsPending f old q by.command by.own) is by.pending in
          let same : p.task ≡ u = same_task p.task u (sym p.has_task ∙ e) in
          let command : by.command ≡ u.command = sym p.command ∙ ap (λ v. v.command) same in
          let made : is_changed f u.command x u.steps ≡ true = subst (λ v. is_changed f v.command x v.steps ≡ true) same (subst₂ (λ c v. is_changed f c v p.task.steps ≡ true) (sym p.command) (sym p.owned) p.made) in
          rw made (subst₂ (λ c v. brings f c v ≡ true) command (sym p.owned) by.brings)

      by_bool : (b : Bool) → is_changed f u.command x u.steps && brings f u.command x ≡ b → (cond b (old.image_number who) s.number ≡ new.number) ⊎ IsBringing f new
      by_bool true both =
          let parts = and_both _ _ both in
          inl (sym (P.shut who u.command x (record { task = u; has_task = e; command = refl; owned = refl; made = parts.0 }) parts.1) ∙ sym St.number)
      by_bool false off =
          elim P.number [
            | inl same ↦ inl (same ∙ sym St.number)
            | inr by ↦ inr (other_bringing by (λ is. never_true (sym off ∙ its by is)))
          ]

  number_there : (died_number f (s.own who) (s.begun who) s.number (s.image_number who) ≡ new.number) ⊎ IsBringing f new
  number_there =
      elim (number_by_task (old.task who) refl) [
        | inl same ↦ inl (ap (λ y. died_number f y (s.begun who) s.number (s.image_number who)) here
            ∙ (ap (died_number f x (s.begun who) s.number) (P.image_number who) ∙ (died_number_same f x s.number (old.image_number who) (s.begun who) (old.task who) (P.same who) ∙ same)))
        | inr by ↦ inr by
      ]

  -- another's untouched image
  untouched_by_task : (t : Option Task) → old.task who ≡ t → (o : ℕ) (z : Txn) → o ≢ who → (old.own o).txn ≡ Some z → IsUntouched (died_map f x t m) z
  untouched_by_task None e o z ne has_txn = P.untouched o z has_txn
  untouched_by_task (Some u) e o z ne has_txn =
      elim (cases_Bool (is_changed f u.command x u.steps)) [
        | inl made ↦ absurd (one_txn f old S o who ne (ap is_some has_txn) (made_txn f u.command x u.steps (own_task u e) made))
        | inr off ↦ subst (λ b. IsUntouched (cond b (map_after f u.command x m) m) z) (sym off) (P.untouched o z has_txn)
      ]

  abbrev z : Replay
  z = died_state f s who

  -- the state before what is owed is thinned
  abbrev t : Replay
  t = record s {
    map = died_map f (s.own who) (s.begun who) s.map;
    own = put s.own who (closed (s.own who));
    begun = put s.begun who None;
    shown = put s.shown who (λ k. false);
    due = put s.due who (λ k. false);
    stale = s.stale || leaves_open f (s.own who) (s.begun who);
    number = died_number f (s.own who) (s.begun who) s.number (s.image_number who);
    grows = false;
  }

  owns_now : (o : ℕ) → z.own o ≡ new.own o
  owns_now o =
      elim (cases_eq o who) [
        | inl e ↦ put_here s.own who (closed (s.own who)) o e ∙ (ap closed here ∙ (sym D.own ∙ ap new.own (sym e)))
        | inr ne ↦ put_else s.own who (closed (s.own who)) o ne ∙ (P.owns o ∙ sym (St.own o ne))
      ]

  walk_now : (o : ℕ) → WalkStands f new z o
  walk_now o =
      elim (cases_eq o who) [
        | inl e ↦ (let off : is_fresh f (z.begun o) (z.own o) (new.spot o) ≡ false = ap (λ b. is_fresh f b (z.own o) (new.spot o)) (put_here s.begun who None o e) in
            subst (λ b. WalkStandsBy b f new o (z.shown o) (z.due o)) (sym off) (record {
              behind = λ k shows. absurd (never_true (sym (ap (λ g. g k) (put_here s.shown who (λ q. false) o e)) ∙ shows));
              reached = λ k shows. absurd (never_true (sym (ap (λ g. g k) (put_here s.shown who (λ q. false) o e)) ∙ shows));
              due = λ k owed. absurd (never_true (sym (ap (λ g. g k) (put_here s.due who (λ q. false) o e)) ∙ (owed_parts f (λ q. false) t o k owed).0));
            }))
        | inr ne ↦ (let begun : z.begun o ≡ s.begun o = put_else s.begun who None o ne in
            let own : z.own o ≡ s.own o = put_else s.own who (closed (s.own who)) o ne in
            let fresh : is_fresh f (z.begun o) (z.own o) (new.spot o) ≡ is_fresh f (s.begun o) (s.own o) (old.spot o) =
            ap (λ b. is_fresh f b (z.own o) (new.spot o)) begun ∙ (ap (λ y. is_fresh f (s.begun o) y (new.spot o)) own ∙ ap (is_fresh f (s.begun o) (s.own o)) (St.spot o ne)) in
            subst (λ b. WalkStandsBy b f new o (z.shown o) (z.due o)) (sym fresh) (by_fresh o ne (is_fresh f (s.begun o) (s.own o) (old.spot o)) (P.walks o)))
      ]
    where
      by_fresh : (o : ℕ) → o ≢ who → (b : Bool) → WalkStandsBy b f old o (s.shown o) (s.due o) → WalkStandsBy b f new o (z.shown o) (z.due o)
      by_fresh o ne true none = λ k. ap (λ g. g k) (put_else s.shown who (λ q. false) o ne) ∙ none k
      by_fresh o ne false way =
          way_alike f new o (s.shown o) (z.shown o) (z.due o) (z.due o) (λ k. ap (λ g. g k) (put_else s.shown who (λ q. false) o ne)) (λ k owed. owed)
          (walk_event f old new who St N never_plain o ne (s.shown o) (s.due o) (z.due o)
          (λ k owed. sym (ap (λ g. g k) (put_else s.due who (λ q. false) o ne)) ∙ (owed_parts f (λ q. false) t o k owed).0) way)

  open_there : leaves_open f (s.own who) (s.begun who) ≡ leaves_open f x (old.task who)
  open_there = ap (λ y. leaves_open f y (s.begun who)) here ∙ ap (txn_leaves_open x.txn) (steps_same f x (s.begun who) (old.task who) (P.same who))

  stale_none : new.stale ≡ true → (o : ℕ) (d : Command) (y : Own) (k : List ℕ) → IsPending f new o d y → touches f d y k ≡ true → ⊥
  stale_none stale o d y k p touching =
      let ne = other_event f old new who St N o d y p in
      let was = before_event f old new who St N o d y ne p in
      elim (or_cases old.stale (leaves_open f x (old.task who)) (sym D.stale ∙ stale)) [
        | inl before ↦ S.stale before o d y k was touching
        | inr left ↦ (let wide = open_held_by f S.chains k x (old.spot who) (old.task who) x.txn refl left in
            omega (arith, wide, S.agrees who (chain_byte f k), pending_touches f old S o d y was k touching, S.apart o who (chain_byte f k) ne))
      ]

  died_sound : IsSound f new
  died_sound =
      sound_event f old new who St N S
      (λ b. subst (λ y. kept f y nowhere b ≤ 0) (sym D.own) (let le = closed_base f 0 b x in omega (arith, le)))
      (λ o live. (elim (cases_eq o who) [
        | inl e ↦ absurd (never_true (sym (ap (λ y. y.live) (ap new.own e ∙ D.own)) ∙ live))
        | inr ne ↦ omega (arith, D.joined, S.live_joined o (ap (λ y. y.live) (sym (St.own o ne)) ∙ live))
      ]))
      stale_none

  died_stands : Stands f new z
  died_stands = record {
    joined = P.joined ∙ sym D.joined;
    same = λ o.
        (elim (cases_eq o who) [
          | inl e ↦ subst₂ IsSame (sym (put_here s.begun who None o e)) (sym (ap new.task e ∙ N.task)) tt
          | inr ne ↦ subst₂ IsSame (sym (put_else s.begun who None o ne)) (sym (St.task o ne)) (P.same o)
        ]);
    owns = owns_now;
    stale = ap (λ b. b || leaves_open f (s.own who) (s.begun who)) P.stale ∙ (ap (λ b. old.stale || b) open_there ∙ sym D.stale);
    settled = P.settled ∙ sym St.settled;
    maps = subst (MapStands f new) (sym map_there) (maps_by (old.task who) refl);
    gone = λ o none.
        (elim (cases_eq o who) [
          | inl e ↦ ap (λ v. v.gone) (ap new.spot e ∙ N.spot)
          | inr ne ↦ ap (λ v. v.gone) (St.spot o ne) ∙ P.gone o (sym (put_else s.begun who None o ne) ∙ none)
        ]);
    due = λ o k owed. (let parts = owed_parts f (λ q. false) t o k owed in (subst (λ y. has (seen y z.map) k ≡ true) (owns_now o) parts.2, parts.3));
    walks = walk_now;
    image_number = λ o. P.image_number o ∙ sym (St.image_number o);
    shut = λ o d y p bring. St.number ∙ (P.shut o d y (before_event f old new who St N o d y (other_event f old new who St N o d y p) p) bring ∙ sym (St.image_number o));
    number = number_there;
    untouched = λ o v has_txn.
        (elim (cases_eq o who) [
          | inl e ↦ absurd (none_txn v (sym (ap (λ y. y.txn) (ap new.own e ∙ D.own)) ∙ has_txn))
          | inr ne ↦ subst (λ g. IsUntouched g v) (sym map_there) (untouched_by_task (old.task who) refl o v ne (ap (λ y. y.txn) (sym (St.own o ne)) ∙ has_txn))
        ]);
  }

  died_lawful : LawfulLine f new s (Died who)
  died_lawful = record {
    sound = died_sound;
    allowed = (ap (λ y. y.live) here ∙ D.live, may_die_same (s.begun who) (old.task who) (P.same who) D.may_die);
    stands = died_stands;
  }

pub death_lawful : DeathIsLawful
death_lawful f old new who s S P D = died_lawful f old new who s S P D
