-- The laws of an opener that joins, of a command that is given, of a gate that is undone, and of what is only told.
use Rattle.std.proofs.Common.{◌≡◌, ℕ, suc, ◌<◌, ◌≤◌, List, Bool, true, false, Option, Some, None, is_some, refl, sym, ◌∙◌, ap, subst, subst₂, inl, inr, arith, ◌≢◌}
use Rattle.std.specs.FinMap.{get}
use Rattle.std.proofs.lemmas.Bool.{cases_eq}
use Rattle.tdb_space.specs.Form.{Form}
use Rattle.tdb_space.specs.Pairs.{home}
use Rattle.tdb_law.specs.Commands.{Command}
use Rattle.tdb_law.specs.Openers.{Own, Txn, Task, seen, has}
use Rattle.tdb_law.specs.Rows.{is_changed}
use Rattle.tdb_law.specs.Outcomes.{told}
use Rattle.tdb_law.specs.World.{State, IsPending, IsSound}
use Rattle.tdb_law.specs.Replay.{Replay, taken, put}
use Rattle.tdb_law.specs.Standing.{IsSame, IsOnWay, is_fresh, WalkStandsBy, WalkStands, Stands}
use Rattle.std.proofs.Common.{le_trans}
use Rattle.tdb_law.specs.Openers.{nowhere, opened}
use Rattle.tdb_law.specs.Held.{kept, holding}
use Rattle.tdb_law.specs.Lines.{Line, next_line, AllowsLine, most_openers, joined_state}
use Rattle.tdb_law.specs.Lines.Line.{Joined, JoinBlocked, JoinMany, JoinMemory, Took, Grew, Absent, Idle, Occupied, LogsLeft, Unfinished, Died, Undone}
use Rattle.tdb_law.specs.Events.{OthersStay, HasNothing, Joins, Given}
use Rattle.tdb_law.specs.Laws.{JoinIsLawful, IsTold, ToldIsLawful, GiftIsLawful}
use Rattle.tdb_law.proofs.Covered.{none_held}
use Rattle.tdb_law.proofs.Kept.{opened_base}
use Rattle.tdb_law.proofs.Walking.{put_here, put_else, way_alike, owed_parts}
use Rattle.tdb_law.proofs.Pending.{same_task, no_task}
use Rattle.tdb_space.specs.Form.{data_start}
use Rattle.tdb_law.proofs.Saying.{table_may}
use Rattle.tdb_law.proofs.Emptied.{unchanged_start, before_event, after_event, other_event, sound_event, maps_idle, walk_event}
use Rattle.tdb_law.proofs.Tests.{never_true}

none_txn : (u : Txn) → ◌≡◌ {A = Option Txn} None (Some u) → ⊥
none_txn u e = cc

same_txn : (u v : Txn) → ◌≡◌ {A = Option Txn} (Some u) (Some v) → u ≡ v
same_txn u v e = cc

-- the flag of the last line is no part of what stands
pub stands_flag : (f : Form) (w : State) (s : Replay) (b : Bool) → Stands f w s → Stands f w (record s { grows = b })
stands_flag f w s b P = record {
  joined = P.joined;
  same = P.same;
  owns = P.owns;
  stale = P.stale;
  settled = P.settled;
  maps = P.maps;
  gone = P.gone;
  due = P.due;
  walks = P.walks;
  image_number = P.image_number;
  shut = P.shut;
  number = P.number;
  untouched = P.untouched;
}

-- an opener that joins
module _ (f : Form) (old new : State) (who : ℕ) (s : Replay) (S : IsSound f old) (P : Stands f old s) (J : Joins f old who new) where
  abbrev St : OthersStay f old new who
  St = J.stay

  abbrev N : HasNothing new who
  N = J.nothing

  -- it had no command
  idle : (t : Option Task) → old.task who ≡ t → t ≡ None
  idle None e = refl
  idle (Some u) e = absurd (omega (arith, S.live_joined who (S.busy_there who u e), J.first))

  had_none : old.task who ≡ None
  had_none = idle (old.task who) refl

  begun_none : (b : Option Task) → IsSame b None → b ≡ None
  begun_none None same = refl
  begun_none (Some u) same = absurd same

  begun_idle : s.begun who ≡ None
  begun_idle = begun_none (s.begun who) (subst (IsSame (s.begun who)) had_none (P.same who))

  never_pending : (d : Command) (y : Own) → IsPending f old who d y → ⊥
  never_pending d y p = no_task p.task (sym had_none ∙ p.has_task)

  abbrev z : Replay
  z = joined_state f s who

  abbrev t : Replay
  t = record s {
    joined = suc s.joined;
    own = put s.own who (opened (s.own who));
    shown = put s.shown who (λ k. false);
    due = put s.due who (λ k. false);
    grows = false;
  }

  owns_now : (o : ℕ) → z.own o ≡ new.own o
  owns_now o =
      elim (cases_eq o who) [
        | inl e ↦ put_here s.own who (opened (s.own who)) o e ∙ (ap opened (P.owns who) ∙ (sym J.own ∙ ap new.own (sym e)))
        | inr ne ↦ put_else s.own who (opened (s.own who)) o ne ∙ (P.owns o ∙ sym (St.own o ne))
      ]

  walk_now : (o : ℕ) → WalkStands f new z o
  walk_now o =
      elim (cases_eq o who) [
        | inl e ↦ (let off : is_fresh f (z.begun o) (z.own o) (new.spot o) ≡ false = ap (λ b. is_fresh f b (z.own o) (new.spot o)) (ap s.begun e ∙ begun_idle) in
            subst (λ b. WalkStandsBy b f new o (z.shown o) (z.due o)) (sym off) (record {
              behind = λ k shows. absurd (never_true (sym (ap (λ g. g k) (put_here s.shown who (λ q. false) o e)) ∙ shows));
              reached = λ k shows. absurd (never_true (sym (ap (λ g. g k) (put_here s.shown who (λ q. false) o e)) ∙ shows));
              due = λ k owed. absurd (never_true (sym (ap (λ g. g k) (put_here s.due who (λ q. false) o e)) ∙ (owed_parts f (λ q. false) t o k owed).0));
            }))
        | inr ne ↦ (let own : z.own o ≡ s.own o = put_else s.own who (opened (s.own who)) o ne in
            let fresh : is_fresh f (z.begun o) (z.own o) (new.spot o) ≡ is_fresh f (s.begun o) (s.own o) (old.spot o) =
            ap (λ y. is_fresh f (s.begun o) y (new.spot o)) own ∙ ap (is_fresh f (s.begun o) (s.own o)) (St.spot o ne) in
            subst (λ b. WalkStandsBy b f new o (z.shown o) (z.due o)) (sym fresh) (by_fresh o ne (is_fresh f (s.begun o) (s.own o) (old.spot o)) (P.walks o)))
      ]
    where
      by_fresh : (o : ℕ) → o ≢ who → (b : Bool) → WalkStandsBy b f old o (s.shown o) (s.due o) → WalkStandsBy b f new o (z.shown o) (z.due o)
      by_fresh o ne true none = λ k. ap (λ g. g k) (put_else s.shown who (λ q. false) o ne) ∙ none k
      by_fresh o ne false way =
          way_alike f new o (s.shown o) (z.shown o) (z.due o) (z.due o) (λ k. ap (λ g. g k) (put_else s.shown who (λ q. false) o ne)) (λ k owed. owed)
          (walk_event f old new who St N (λ d y p plain. never_pending d y p) o ne (s.shown o) (s.due o) (z.due o)
          (λ k owed. sym (ap (λ g. g k) (put_else s.due who (λ q. false) o ne)) ∙ (owed_parts f (λ q. false) t o k owed).0) way)

  joined_sound : IsSound f new
  joined_sound =
      sound_event f old new who St N S
      (λ b. subst (λ y. kept f y nowhere b ≤ 0) (sym J.own) (let le = opened_base f 0 b (old.own who) in omega (arith, le)))
      (λ o live. (elim (cases_eq o who) [
        | inl e ↦ omega (arith, J.joined, J.first, e)
        | inr ne ↦ omega (arith, J.joined, S.live_joined o (ap (λ y. y.live) (sym (St.own o ne)) ∙ live))
      ]))
      (λ stale o d y k p touching. S.stale (sym J.stale ∙ stale) o d y k (before_event f old new who St N o d y (other_event f old new who St N o d y p) p) touching)

  joined_stands : Stands f new z
  joined_stands = record {
    joined = ap suc P.joined ∙ sym J.joined;
    same = λ o.
        (elim (cases_eq o who) [
          | inl e ↦ subst₂ IsSame (sym (ap s.begun e ∙ begun_idle)) (sym (ap new.task e ∙ N.task)) tt
          | inr ne ↦ subst (IsSame (s.begun o)) (sym (St.task o ne)) (P.same o)
        ]);
    owns = owns_now;
    stale = P.stale ∙ sym J.stale;
    settled = P.settled ∙ sym St.settled;
    maps = maps_idle f old new who St N s.map never_pending P.maps;
    gone = λ o none.
        (elim (cases_eq o who) [
          | inl e ↦ ap (λ v. v.gone) (ap new.spot e ∙ N.spot)
          | inr ne ↦ ap (λ v. v.gone) (St.spot o ne) ∙ P.gone o none
        ]);
    due = λ o k owed. (let parts = owed_parts f (λ q. false) t o k owed in (subst (λ y. has (seen y z.map) k ≡ true) (owns_now o) parts.2, parts.3));
    walks = walk_now;
    image_number = λ o. P.image_number o ∙ sym (St.image_number o);
    shut = λ o d y p bring. St.number ∙ (P.shut o d y (before_event f old new who St N o d y (other_event f old new who St N o d y p) p) bring ∙ sym (St.image_number o));
    number =
        (elim P.number [
          | inl same ↦ inl (same ∙ sym St.number)
          | inr by ↦ inr (record {
            owner = by.owner;
            command = by.command;
            own = by.own;
            brings = by.brings;
            pending = after_event f old new who St N by.owner by.command by.own (λ is. never_pending by.command by.own (subst (λ q. IsPending f old q by.command by.own) is by.pending)) by.pending;
          })
        ]);
    untouched = λ o v has_txn.
        (elim (cases_eq o who) [
          | inl e ↦ absurd (none_txn v (sym (ap (λ y. y.txn) (ap new.own e ∙ J.own)) ∙ has_txn))
          | inr ne ↦ P.untouched o v (ap (λ y. y.txn) (sym (St.own o ne)) ∙ has_txn)
        ]);
  }

pub join_lawful : JoinIsLawful
join_lawful f old new who s S P J = record {
  sound = joined_sound f old new who s S P J;
  allowed = (J.first ∙ sym P.joined, subst (λ n. n < most_openers) (sym P.joined) J.few);
  stands = joined_stands f old new who s S P J;
}

-- what is only told
told_allowed : (f : Form) (w : State) (s : Replay) (line : Line) → IsSound f w → Stands f w s → IsTold f w s line → AllowsLine f s line
told_allowed f w s (Joined who) S P told = absurd told
told_allowed f w s (JoinBlocked owner) S P told = (subst (λ n. n < most_openers) (sym P.joined) told.0, le_trans told.1 (table_may f w S s P owner 0))
told_allowed f w s (Absent who) S P told = ap (λ y. y.live) (P.owns who) ∙ told
told_allowed f w s (Idle who) S P told = (ap (λ y. y.live) (P.owns who) ∙ told.0, begun_idle (s.begun who) (subst (IsSame (s.begun who)) told.1 (P.same who)))
  where
    begun_idle : (b : Option Task) → IsSame b None → b ≡ None
    begun_idle None same = refl
    begun_idle (Some u) same = absurd same
told_allowed f w s (Occupied who) S P told = ap (λ y. y.live) (P.owns who) ∙ told
told_allowed f w s (LogsLeft count) S P told = tt
told_allowed f w s (Unfinished who) S P told = ap (λ y. y.live) (P.owns who) ∙ told.0
told_allowed f w s (Died who) S P told = absurd told
told_allowed f w s JoinMany S P told = subst (λ n. most_openers ≤ n) (sym P.joined) told
told_allowed f w s JoinMemory S P told = tt
told_allowed f w s (Took who c turn) S P told = absurd told
told_allowed f w s (Grew from to) S P told = told
told_allowed f w s (Undone bytes to) S P told = absurd told

told_next : (f : Form) (w : State) (s : Replay) (line : Line) → IsTold f w s line → Stands f w s → Stands f w (next_line f s line)
told_next f w s (Joined who) told P = absurd told
told_next f w s (JoinBlocked owner) told P = stands_flag f w s false P
told_next f w s (Absent who) told P = stands_flag f w s false P
told_next f w s (Idle who) told P = stands_flag f w s false P
told_next f w s (Occupied who) told P = stands_flag f w s false P
told_next f w s (LogsLeft count) told P = stands_flag f w s false P
told_next f w s (Unfinished who) told P = stands_flag f w s false P
told_next f w s (Died who) told P = absurd told
told_next f w s JoinMany told P = stands_flag f w s false P
told_next f w s JoinMemory told P = stands_flag f w s false P
told_next f w s (Took who c turn) told P = absurd told
told_next f w s (Grew from to) told P = stands_flag f w s false P
told_next f w s (Undone bytes to) told P = absurd told

pub told_lawful : ToldIsLawful
told_lawful f w s line S P told = record { sound = S; allowed = told_allowed f w s line S P told; stands = told_next f w s line told P }

-- a command that is given
module _ (f : Form) (old new : State) (who : ℕ) (c : Command) (s : Replay) (S : IsSound f old) (P : Stands f old s) (G : Given old who c new) where
  own_same : (o : ℕ) → new.own o ≡ old.own o
  own_same o = ap (λ w. w.own o) G.rest

  spot_same : (o : ℕ) → new.spot o ≡ old.spot o
  spot_same o = ap (λ w. w.spot o) G.rest

  mark_same : (o : ℕ) → new.mark o ≡ old.mark o
  mark_same o = ap (λ w. w.mark o) G.rest

  number_same : new.number ≡ old.number
  number_same = ap (λ w. w.number) G.rest

  image_same : (o : ℕ) → new.image_number o ≡ old.image_number o
  image_same o = ap (λ w. w.image_number o) G.rest

  given_start : (u : Task) → new.task who ≡ Some u → u ≡ record { command = c; steps = 0 }
  given_start u e = same_task u (record { command = c; steps = 0 }) (sym e ∙ G.task)

  -- the new command has changed nothing, so who was pending is pending
  not_new : (o : ℕ) (d : Command) (y : Own) → IsPending f new o d y → o ≢ who
  not_new o d y p is =
      let start = given_start p.task (subst (λ q. new.task q ≡ Some p.task) is p.has_task) in
      never_true (sym (ap (is_changed f d y) (ap (λ v. v.steps) start) ∙ unchanged_start f d y) ∙ p.made)

  not_old : (o : ℕ) (d : Command) (y : Own) → IsPending f old o d y → o ≢ who
  not_old o d y p is = no_task p.task (sym G.idle ∙ subst (λ q. old.task q ≡ Some p.task) is p.has_task)

  forth : (o : ℕ) (d : Command) (y : Own) → IsPending f new o d y → IsPending f old o d y
  forth o d y p = record { task = p.task; has_task = sym (G.others o (not_new o d y p)) ∙ p.has_task; command = p.command; owned = sym (own_same o) ∙ p.owned; made = p.made }

  back : (o : ℕ) (d : Command) (y : Own) → IsPending f old o d y → IsPending f new o d y
  back o d y p = record { task = p.task; has_task = G.others o (not_old o d y p) ∙ p.has_task; command = p.command; owned = own_same o ∙ p.owned; made = p.made }

  table_same : (o b : ℕ) → new.table o b ≡ old.table o b
  table_same o b = ap (λ w. w.table o b) G.rest

  held_same : (o b : ℕ) → holding f (new.own o) (new.spot o) (new.task o) b ≡ holding f (old.own o) (old.spot o) (old.task o) b
  held_same o b =
      ap (λ y. holding f y (new.spot o) (new.task o) b) (own_same o) ∙ (ap (λ v. holding f (old.own o) v (new.task o) b) (spot_same o) ∙ at_task)
    where
      at_task : holding f (old.own o) (old.spot o) (new.task o) b ≡ holding f (old.own o) (old.spot o) (old.task o) b
      at_task =
          elim (cases_eq o who) [
            | inl e ↦ (let before : holding f (old.own o) (old.spot o) (old.task o) b ≡ holding f (old.own o) (old.spot o) None b = ap (λ t. holding f (old.own o) (old.spot o) t b) (ap old.task e ∙ G.idle) in
                let now : holding f (old.own o) (old.spot o) (new.task o) b ≡ holding f (old.own o) (old.spot o) (Some (record { command = c; steps = 0 })) b =
                ap (λ t. holding f (old.own o) (old.spot o) t b) (ap new.task e ∙ G.task) in
                let none = none_held f c (old.own o) (old.spot o) b in
                omega (arith, before, now, none))
            | inr ne ↦ ap (λ t. holding f (old.own o) (old.spot o) t b) (G.others o ne)
          ]

  given_sound : IsSound f new
  given_sound = record {
    chains = S.chains;
    agrees = λ o b. table_same o b ∙ (S.agrees o b ∙ sym (held_same o b));
    apart = λ o p b ne. omega (arith, table_same o b, table_same p b, S.apart o p b ne);
    stands = λ o place on. subst (λ y. (y.txn ≡ None) × (data_start f ≤ place) × (is_some y.cursor ≡ true)) (sym (own_same o)) (S.stands o place (ap (λ v. v.stands) (sym (spot_same o)) ∙ on));
    busy_there = λ o t has_task.
        (elim (cases_eq o who) [
          | inl e ↦ ap (λ y. y.live) (own_same o ∙ ap old.own e) ∙ G.live
          | inr ne ↦ ap (λ y. y.live) (own_same o) ∙ S.busy_there o t (sym (G.others o ne) ∙ has_task)
        ]);
    live_joined = λ o live. subst (λ n. o < n) (sym (ap (λ w. w.joined) G.rest)) (S.live_joined o (ap (λ y. y.live) (sym (own_same o)) ∙ live));
    stale = λ stale o d y k p touching. S.stale (sym (ap (λ w. w.stale) G.rest) ∙ stale) o d y k (forth o d y p) touching;
  }

  same_now : (b : Option Task) → IsSame b None → IsSame b (Some (record { command = c; steps = 0 }))
  same_now None same = refl
  same_now (Some u) same = absurd same

  way_now : (o : ℕ) (g due : List ℕ → Bool) → IsOnWay f old o g due → IsOnWay f new o g due
  way_now o g due way = record {
    behind = λ k shows. ap (λ v. v.ahead k) (mark_same o) ∙ way.behind k shows;
    reached = λ k shows. subst (λ v. home f k < v.reached) (sym (mark_same o)) (way.reached k shows);
    due = λ k owed.
        (elim (way.due k owed) [
          | inl before ↦ inl before
          | inr rest ↦ elim rest [
            | inl ahead ↦ inr (inl (ap (λ v. v.ahead k) (mark_same o) ∙ ahead))
            | inr by ↦ inr (inr (record {
              owner = by.owner;
              command = by.command;
              own = by.own;
              plain = by.plain;
              touched = by.touched;
              pending = back by.owner by.command by.own by.pending;
              near = elim by.near [ inl is ↦ inl is | inr both ↦ inr (ap (λ v. v.inside) (mark_same o) ∙ both.0, both.1 ∙ ap (λ v. v.reached) (sym (mark_same o))) ];
            }))
          ]
        ]);
  }

  walk_now_given : (o : ℕ) → WalkStands f new s o
  walk_now_given o =
      subst (λ b. WalkStandsBy b f new o (s.shown o) (s.due o)) (sym (ap (is_fresh f (s.begun o) (s.own o)) (spot_same o))) (by_fresh (is_fresh f (s.begun o) (s.own o) (old.spot o)) (P.walks o))
    where
      by_fresh : (b : Bool) → WalkStandsBy b f old o (s.shown o) (s.due o) → WalkStandsBy b f new o (s.shown o) (s.due o)
      by_fresh true none = none
      by_fresh false way = way_now o (s.shown o) (s.due o) way

  file_same : new.file ≡ old.file
  file_same = ap (λ w. w.file) G.rest

  given_stands : Stands f new s
  given_stands = record {
    joined = P.joined ∙ sym (ap (λ w. w.joined) G.rest);
    same = λ o.
        (elim (cases_eq o who) [
          | inl e ↦ subst (IsSame (s.begun o)) (sym (ap new.task e ∙ G.task)) (same_now (s.begun o) (subst (IsSame (s.begun o)) (ap old.task e ∙ G.idle) (P.same o)))
          | inr ne ↦ subst (IsSame (s.begun o)) (sym (G.others o ne)) (P.same o)
        ]);
    owns = λ o. P.owns o ∙ sym (own_same o);
    stale = P.stale ∙ sym (ap (λ w. w.stale) G.rest);
    settled = P.settled ∙ sym (ap (λ w. w.settled) G.rest);
    maps = record {
      replies = λ o d y p. P.maps.replies o d y (forth o d y p);
      pending = λ o d y p k touching. ap (λ g. get g k) file_same ∙ P.maps.pending o d y (forth o d y p) k touching;
      each = λ k.
          (elim (P.maps.each k) [
            | inl same ↦ inl (ap (λ g. get g k) file_same ∙ same)
            | inr by ↦ inr (record { owner = by.owner; command = by.command; own = by.own; touched = by.touched; pending = back by.owner by.command by.own by.pending })
          ]);
    };
    gone = λ o none. ap (λ v. v.gone) (spot_same o) ∙ P.gone o none;
    due = λ o k owed. subst (λ y. (has (seen y s.map) k ≡ true) × (taken f s o k ≡ false)) (sym (own_same o)) (P.due o k owed);
    walks = walk_now_given;
    image_number = λ o. P.image_number o ∙ sym (image_same o);
    shut = λ o d y p bring. number_same ∙ (P.shut o d y (forth o d y p) bring ∙ sym (image_same o));
    number =
        (elim P.number [
          | inl same ↦ inl (same ∙ sym number_same)
          | inr by ↦ inr (record { owner = by.owner; command = by.command; own = by.own; brings = by.brings; pending = back by.owner by.command by.own by.pending })
        ]);
    untouched = λ o v has_txn. P.untouched o v (ap (λ y. y.txn) (sym (own_same o)) ∙ has_txn);
  }

pub gift_lawful : GiftIsLawful
gift_lawful f old new who c s S P G = (given_sound f old new who c s S P G, given_stands f old new who c s S P G)
