-- Turns of openers that aren't aside are turns of the whole world.
use Rattle.std.proofs.Common.{◌≡◌, ◌≢◌, ℕ, ◌+◌, ◌<◌, ◌≤◌, List, Bool, true, false, cond, ◌==◌, Option, Some, None, refl, sym, ◌∙◌, ap, subst, inl, inr, ◌⊎◌, arith}
use Rattle.std.specs.Prelude.{if◌then◌else◌}
use Rattle.std.proofs.lemmas.Bool.{cases_eq, cases_lt}
use Rattle.tdb_space.specs.Form.{Form}
use Rattle.tdb_law.specs.Commands.{Command, Turn}
use Rattle.tdb_law.specs.Openers.{Own, Spot, Task, View, nowhere}
use Rattle.tdb_law.specs.World.{State, IsSound}
use Rattle.tdb_law.specs.Counting.{takes, settled_after}
use Rattle.tdb_law.specs.Refusals.{refusal}
use Rattle.tdb_law.specs.Outcomes.{moves}
use Rattle.tdb_law.specs.Effects.{IsFree, IsFirstConflict}
use Rattle.tdb_law.specs.Held.{wanted, decided}
use Rattle.tdb_law.specs.Turned.{Turned, want}
use Rattle.tdb_law.specs.Walks.{Lost, Shift, TakenBy}
use Rattle.tdb_law.proofs.Walking.{put_here, put_else}
use Rattle.tdb_law.specs.OneAside.Sides.{Past, Side, heads_ahead, alone, beside, IsPlain, StandsAside}
use Rattle.tdb_law.specs.OneAside.Turns.{IsApart, IsClear, past_after}
use Rattle.tdb_law.specs.OneAside.Laws.{AloneTurns, BesideTurns}
use Rattle.tdb_law.proofs.OneAside.Choices.{shift_choice, hold_choice, aside_stays}
use Rattle.tdb_law.proofs.OneAside.Ungrouped.{stays_out}
use Rattle.tdb_law.proofs.OneAside.Wants.{wants_low}
use Rattle.tdb_law.proofs.OneAside.Idle.{unmoved}
use Rattle.tdb_law.proofs.OneAside.Alike.{here_of, turned_alike}

module _ (f : Form) (p later : State) (past : Past) (who : ℕ) (t : Task) (turn : Turn) (P : IsPlain p) (apart : IsApart (refusal f t.command (p.own who)) t.command) (T : Turned f p who t turn later) where
  -- nobody has a transaction afterwards
  pub plain_after : IsPlain later
  plain_after = record {
    outside = λ o.
        (elim (cases_eq o who) [
          | inl e ↦ subst (λ z. (later.own z).txn ≡ None) (sym e) (stays_out f t.command t.steps (p.own who) (later.own who) apart (P.outside who) _ p.file later.file turn T.effect)
          | inr ne ↦ ap (λ x. x.txn) (T.others_own o ne) ∙ P.outside o
        ]);
    ready = T.stale;
  }

  abbrev past2 : Past
  past2 = past_after f p who t turn past

  pub alone_turned : Turned f (alone p past) who t turn (alone later past2)
  alone_turned =
      turned_alike f p later (alone p past) (alone later past2) who t turn T refl refl (P.outside who) apart refl refl (λ free. free) (λ o b conflict. conflict)
      (λ start o k taken. record { task = taken.task; has_task = taken.has_task; taken_out = taken.taken_out; missed = taken.missed })
      (record {
        joined = T.joined;
        task = T.others;
        own = T.others_own;
        spot = T.others_spot;
        table = T.others_hold;
        walk = T.others_walk;
        image_number = λ o. refl;
        ready = T.ready;
        stale = T.stale;
        settled = refl;
      })

pub alone_turns : AloneTurns
alone_turns f p later past who t turn P apart T = (plain_after f p later past who t turn P apart T, alone_turned f p later past who t turn P apart T)

-- a command that moves no cursor wants the same whichever chains are on the way
unseen : (f : Form) (c : Command) (x : Own) (a : Spot) (u v : View) (n b : ℕ) → moves f c x ≡ false → wanted f c x a u n b ≡ wanted f c x a v n b
unfolding wanted
unseen f c x a u v n b still = rw (unmoved f c x a n still) refl

module _ (f : Form) (p later : State) (past : Past) (s : Side) (who : ℕ) (t : Task) (turn : Turn) (S : IsSound f (beside p past s)) (P : IsPlain p) (A : StandsAside p s) (C : IsClear f p s who t)
    (ne : who ≢ s.here) (apart : IsApart (refusal f t.command (p.own who)) t.command) (T : Turned f p who t turn later) where
  here_else : s.here ≢ who
  here_else e = ne (sym e)

  abbrev q : State
  q = beside p past s

  abbrev after : State
  after = beside later (past_after f p who t turn past) s

  abbrev W : ℕ → ℕ
  W = want f p who t

  its_own : q.own who ≡ p.own who
  its_own = put_else p.own s.here s.own who ne

  aside_after : StandsAside later s
  aside_after = aside_stays p later s A (omega (arith, T.joined)) (T.others s.here here_else) (T.others_spot s.here here_else) (λ b. T.others_hold s.here b here_else)

  -- the world is alike at an opener that isn't aside
  before_here : here_of q who ≡ here_of p who
  before_here = λ i. record {
    task = put_else p.task s.here s.task who ne i;
    own = put_else p.own s.here s.own who ne i;
    spot = put_else p.spot s.here nowhere who ne i;
    mark = put_else p.mark s.here s.mark who ne i;
    table = put_else p.table s.here s.table who ne i;
    file = p.file;
    number = p.number;
  }

  after_here : here_of after who ≡ here_of later who
  after_here = λ i. record {
    task = put_else later.task s.here s.task who ne i;
    own = put_else later.own s.here s.own who ne i;
    spot = put_else later.spot s.here nowhere who ne i;
    mark = put_else later.mark s.here s.mark who ne i;
    table = put_else later.table s.here s.table who ne i;
    file = later.file;
    number = later.number;
  }

  -- what the file adds to its cursor is alike, as far as it matters
  abbrev there : Bool → ℕ → View
  there z = if z then (λ o. heads_ahead s.heads (p.mark o)) else p.view

  its_view : q.view who ≡ there s.shuts who
  its_view = put_else (there s.shuts) s.here s.view who ne

  never_must : (z : Bool) → (p.view who).must ≡ false → (there z who).must ≡ (p.view who).must
  never_must true none = sym none
  never_must false none = refl

  same_must : (q.view who).must ≡ (p.view who).must
  same_must = ap (λ v. v.must) its_view ∙ elim C.sight [ inl calm ↦ ap (λ z. (there z who).must) calm | inr still ↦ never_must s.shuts still.1 ]

  abbrev wants_as : ℕ → View → View → ℕ
  wants_as b u v = wanted f t.command (p.own who) (decided (p.spot who) u t.steps) v t.steps b

  same_want_at : (b : ℕ) → want f q who t b ≡ W b
  same_want_at b =
      ap (λ h. wanted f t.command h.own (decided h.spot (q.view who) t.steps) (q.view who) t.steps b) before_here
      ∙ ap (λ m. wanted f t.command (p.own who) (record (p.spot who) { purging = if t.steps == 0 then m else (p.spot who).purging }) (q.view who) t.steps b) same_must
      ∙ elim C.sight [
        | inl calm ↦ ap (wants_as b (p.view who)) (its_view ∙ ap (λ z. there z who) calm)
        | inr still ↦ unseen f t.command (p.own who) (decided (p.spot who) (p.view who) t.steps) (q.view who) (p.view who) t.steps b still.0
      ]

  same_want : want f q who t ≡ W
  same_want = λ i b. same_want_at b i

  -- what the opener aside holds there, where it isn't what it holds in the plain state, isn't wanted
  bounded : (b : ℕ) → s.table b ≤ 2
  bounded b = let e : q.table s.here b ≡ s.table b = ap (λ g. g b) (put_here p.table s.here s.table s.here refl) in omega (arith, e, S.apart who s.here b ne)

  held_there : (b : ℕ) → (s.table b ≡ p.table s.here b) ⊎ ((W b ≡ 0) × (p.table s.here b ≡ 0))
  held_there b = elim (cases_lt b 48) [
    | inl under ↦ inr (wants_low f t.command (p.own who) (decided (p.spot who) (p.view who) t.steps) (p.view who) t.steps b apart under, A.below b (omega (arith, under)))
    | inr from ↦ elim (cases_eq b 48) [
      | inl is ↦ let none = A.below b (omega (arith, is)) in elim C.number [ inl low ↦ inl (ap s.table is ∙ low ∙ sym none) | inr unwanted ↦ inr (ap W is ∙ unwanted, none) ]
      | inr other ↦ inl (A.records b (omega (arith, from, other)))
    ]
  ]

  conflicts_here : (b : ℕ) → (2 < W b + s.table b → 2 < W b + p.table s.here b) × (2 < W b + p.table s.here b → 2 < W b + s.table b)
  conflicts_here b = elim (held_there b) [
    | inl same ↦ ((λ over. omega (arith, over, same)), (λ over. omega (arith, over, same)))
    | inr none ↦ ((λ over. absurd (omega (arith, over, none.0, bounded b))), (λ over. absurd (omega (arith, over, none.0, none.1))))
  ]

  conflicts : (o b : ℕ) → (2 < W b + q.table o b → 2 < W b + p.table o b) × (2 < W b + p.table o b → 2 < W b + q.table o b)
  conflicts o b = elim (cases_eq o s.here) [
    | inl is ↦
        let mine : q.table o b ≡ s.table b = ap (λ g. g b) (put_here p.table s.here s.table o is) in
        let plain : p.table o b ≡ p.table s.here b = ap (λ z. p.table z b) is in
        ((λ over. omega (arith, plain, (conflicts_here b).0 (omega (arith, over, mine)))), (λ over. omega (arith, mine, (conflicts_here b).1 (omega (arith, over, plain)))))
    | inr other ↦ let same : q.table o b ≡ p.table o b = ap (λ g. g b) (put_else p.table s.here s.table o other) in ((λ over. omega (arith, over, same)), (λ over. omega (arith, over, same)))
  ]

  free_there : IsFree p.table who W → IsFree q.table who W
  free_there F = record {
    free = λ o b other.
        (elim (cases_lt 2 (W b + q.table o b)) [
          | inl over ↦ absurd (omega (arith, (conflicts o b).0 over, F.free o b other))
          | inr fits ↦ fits
        ]);
  }

  conflict_there : (o b : ℕ) → IsFirstConflict p.table who W o b → IsFirstConflict q.table who W o b
  conflict_there o b C = record { other = C.other; conflict = (conflicts o b).1 C.conflict; least = λ z a other over. C.least z a other ((conflicts z a).0 over) }

  -- the opener aside has no command in the plain state, so none of it takes a key out
  no_task : (u : Task) → ◌≡◌ {A = Option Task} None (Some u) → ⊥
  no_task u e = cc

  taken_there : (start : Bool) (o : ℕ) (k : List ℕ) → TakenBy f p start o k → TakenBy f q start o k
  taken_there start o k taken = elim (cases_eq o s.here) [
    | inl is ↦ absurd (no_task taken.task (sym A.idle ∙ (ap p.task (sym is) ∙ taken.has_task)))
    | inr other ↦ record {
      task = taken.task;
      has_task = put_else p.task s.here s.task o other ∙ taken.has_task;
      taken_out = subst (λ x. takes f taken.task.command x taken.task.steps k ≡ true) (sym (put_else p.own s.here s.own o other)) taken.taken_out;
      missed = taken.missed;
    }
  ]

  beside_turned : Turned f q who t turn after
  beside_turned =
      turned_alike f p later q after who t turn T before_here after_here (P.outside who) apart same_want same_must free_there conflict_there taken_there
      (record {
        joined = T.joined;
        task = λ o other. ap (cond (o == s.here) s.task) (T.others o other);
        own = λ o other. ap (cond (o == s.here) s.own) (T.others_own o other);
        spot = λ o other. ap (cond (o == s.here) nowhere) (T.others_spot o other);
        table = λ o b other. hold_choice (o == s.here) s.table (later.table o) (p.table o) b (T.others_hold o b other);
        walk = λ o other.
            shift_choice f (o == s.here) (Lost f t.command t.steps (q.own who) turn false) s.mark (p.mark o) (later.mark o)
            (subst (λ x. Shift f (Lost f t.command t.steps x turn false (p.mark o)) (p.mark o) (later.mark o)) (sym its_own) (T.others_walk o other));
        image_number = λ o. refl;
        ready = T.ready;
        stale = T.stale;
        settled = ap (λ x. settled_after f t.command x t.steps turn past.settled) (sym its_own);
      })

pub beside_turns : BesideTurns
beside_turns f p later past s who t turn S P A C ne apart T = (plain_after f p later past who t turn P apart T, aside_after f p later past s who t turn S P A C ne apart T, beside_turned f p later past s who t turn S P A C ne apart T)
