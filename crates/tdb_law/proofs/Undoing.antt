-- The law of a gate that is undone: the file's map was the one with the gate undone all along.
use Rattle.std.proofs.Common.{◌≡◌, ℕ, ◌<◌, ◌≤◌, List, Bool, true, false, None, is_some, sym, ◌∙◌, ap, subst, inl, inr, arith}
use Rattle.std.specs.FinMap.{get}
use Rattle.std.proofs.lemmas.Bool.{cases_Bool}
use Rattle.tdb_space.specs.Form.{Form}
use Rattle.tdb_space.specs.Pairs.{home}
use Rattle.tdb_law.specs.Commands.{Command}
use Rattle.tdb_law.specs.Openers.{Own, seen, has}
use Rattle.tdb_law.specs.World.{State, IsPending, IsSound}
use Rattle.tdb_law.specs.Replay.{Replay, taken}
use Rattle.tdb_law.specs.Standing.{IsSame, IsOnWay, is_fresh, WalkStandsBy, WalkStands, Stands}
use Rattle.tdb_space.specs.Form.{data_start}
use Rattle.tdb_law.specs.Held.{holding}
use Rattle.tdb_law.specs.Lines.Line.{Undone}
use Rattle.tdb_law.specs.Lines.{next_line}
use Rattle.tdb_law.specs.Events.{Undoes}
use Rattle.tdb_law.specs.Laws.{UndoIsLawful}
use Rattle.tdb_law.proofs.Beginning.{seen_has}
use Rattle.tdb_law.proofs.Tests.{never_true}

module _ (f : Form) (old new : State) (bytes to : ℕ) (s : Replay) (S : IsSound f old) (P : Stands f old s) (U : Undoes f old new) where
  own_same : (o : ℕ) → new.own o ≡ old.own o
  own_same o = ap (λ w. w.own o) U.rest

  spot_same : (o : ℕ) → new.spot o ≡ old.spot o
  spot_same o = ap (λ w. w.spot o) U.rest

  task_same : (o : ℕ) → new.task o ≡ old.task o
  task_same o = ap (λ w. w.task o) U.rest

  table_same : (o b : ℕ) → new.table o b ≡ old.table o b
  table_same o b = ap (λ w. w.table o b) U.rest

  file_same : new.file ≡ old.file
  file_same = ap (λ w. w.file) U.rest

  number_same : new.number ≡ old.number
  number_same = ap (λ w. w.number) U.rest

  image_same : (o : ℕ) → new.image_number o ≡ old.image_number o
  image_same o = ap (λ w. w.image_number o) U.rest

  forth : (o : ℕ) (d : Command) (y : Own) → IsPending f new o d y → IsPending f old o d y
  forth o d y p = record { task = p.task; has_task = sym (task_same o) ∙ p.has_task; command = p.command; owned = sym (own_same o) ∙ p.owned; made = p.made }

  back : (o : ℕ) (d : Command) (y : Own) → IsPending f old o d y → IsPending f new o d y
  back o d y p = record { task = p.task; has_task = task_same o ∙ p.has_task; command = p.command; owned = own_same o ∙ p.owned; made = p.made }

  undone_sound : IsSound f new
  undone_sound = record {
    chains = S.chains;
    agrees = λ o b. table_same o b ∙ (S.agrees o b ∙ (ap (λ y. holding f y (old.spot o) (old.task o) b) (sym (own_same o))
        ∙ (ap (λ v. holding f (new.own o) v (old.task o) b) (sym (spot_same o)) ∙ ap (λ t. holding f (new.own o) (new.spot o) t b) (sym (task_same o)))));
    apart = λ o p b ne. omega (arith, table_same o b, table_same p b, S.apart o p b ne);
    stands = λ o place on. subst (λ y. (y.txn ≡ None) × (data_start f ≤ place) × (is_some y.cursor ≡ true)) (sym (own_same o)) (S.stands o place (ap (λ v. v.stands) (sym (spot_same o)) ∙ on));
    busy_there = λ o t has_task. ap (λ y. y.live) (own_same o) ∙ S.busy_there o t (sym (task_same o) ∙ has_task);
    live_joined = λ o live. subst (λ n. o < n) (sym (ap (λ w. w.joined) U.rest)) (S.live_joined o (ap (λ y. y.live) (sym (own_same o)) ∙ live));
    stale = λ stale o d y k p touching. never_true (sym U.now ∙ stale);
  }

  -- in a stale world the file has the committed map
  file_map : (k : List ℕ) → get old.file k ≡ get s.map k
  file_map k =
      elim (P.maps.each k) [
        | inl same ↦ same
        | inr by ↦ absurd (S.stale U.was by.owner by.command by.own k by.pending by.touched)
      ]

  still_seen : (o : ℕ) (k : List ℕ) → s.due o k ≡ true → has (seen (old.own o) old.file) k ≡ true
  still_seen o k owed = seen_has (old.own o).txn s.map old.file k (λ there. ap is_some (file_map k) ∙ there) (P.due o k owed).0

  way_now : (o : ℕ) → IsOnWay f old o (s.shown o) (s.due o) → IsOnWay f new o (s.shown o) (s.due o)
  way_now o way =
      let shift = U.walk o in
      record {
        behind = λ k e.
            (elim (cases_Bool ((new.mark o).ahead k)) [
              | inr off ↦ off
              | inl later ↦ elim (shift.fewer k later) [
                | inl before ↦ absurd (never_true (sym (way.behind k e) ∙ before))
                | inr beyond ↦ absurd (omega (arith, beyond, way.reached k e))
              ]
            ]);
        reached = λ k e. subst (λ v. home f k < v) (sym shift.reached) (way.reached k e);
        due = λ k owed.
            (elim (way.due k owed) [
              | inl before ↦ inl before
              | inr rest ↦ elim rest [
                | inl ahead ↦ elim (shift.kept k ahead) [ inl later ↦ inr (inl later) | inr lost ↦ absurd (never_true (sym lost ∙ still_seen o k owed)) ]
                | inr by ↦ inr (inr (record {
                  owner = by.owner;
                  command = by.command;
                  own = by.own;
                  plain = by.plain;
                  touched = by.touched;
                  pending = back by.owner by.command by.own by.pending;
                  near = elim by.near [ inl is ↦ inl is | inr both ↦ inr (shift.inside ∙ both.0, both.1 ∙ sym shift.reached) ];
                }))
              ]
            ]);
      }

  walk_now : (o : ℕ) → WalkStands f new (next_line f s (Undone bytes to)) o
  walk_now o =
      subst (λ b. WalkStandsBy b f new o (s.shown o) (s.due o)) (sym (ap (is_fresh f (s.begun o) (s.own o)) (spot_same o))) (by_fresh (is_fresh f (s.begun o) (s.own o) (old.spot o)) (P.walks o))
    where
      by_fresh : (b : Bool) → WalkStandsBy b f old o (s.shown o) (s.due o) → WalkStandsBy b f new o (s.shown o) (s.due o)
      by_fresh true none = none
      by_fresh false way = way_now o way

  undone_stands : Stands f new (next_line f s (Undone bytes to))
  undone_stands = record {
    joined = P.joined ∙ sym (ap (λ w. w.joined) U.rest);
    same = λ o. subst (IsSame (s.begun o)) (sym (task_same o)) (P.same o);
    owns = λ o. P.owns o ∙ sym (own_same o);
    stale = sym U.now;
    settled = P.settled ∙ sym (ap (λ w. w.settled) U.rest);
    maps = record {
      replies = λ o d y p. P.maps.replies o d y (forth o d y p);
      pending = λ o d y p k touching. ap (λ g. get g k) file_same ∙ P.maps.pending o d y (forth o d y p) k touching;
      each = λ k. inl (ap (λ g. get g k) file_same ∙ file_map k);
    };
    gone = λ o none. ap (λ v. v.gone) (spot_same o) ∙ P.gone o none;
    due = λ o k owed. subst (λ y. (has (seen y s.map) k ≡ true) × (taken f s o k ≡ false)) (sym (own_same o)) (P.due o k owed);
    walks = walk_now;
    image_number = λ o. P.image_number o ∙ sym (image_same o);
    shut = λ o d y p bring. number_same ∙ (P.shut o d y (forth o d y p) bring ∙ sym (image_same o));
    number =
        (elim P.number [
          | inl same ↦ inl (same ∙ sym number_same)
          | inr by ↦ inr (record { owner = by.owner; command = by.command; own = by.own; brings = by.brings; pending = back by.owner by.command by.own by.pending })
        ]);
    untouched = λ o v has_txn. P.untouched o v (ap (λ y. y.txn) (sym (own_same o)) ∙ has_txn);
  }

pub undo_lawful : UndoIsLawful
undo_lawful f old new bytes to s S P U = record {
  sound = undone_sound f old new bytes to s S P U;
  allowed = P.stale ∙ U.was;
  stands = undone_stands f old new bytes to s S P U;
}
