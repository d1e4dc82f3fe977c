-- Openers that have a Start of which they have had no step: they have locked nothing by it, so nothing else shows it.
use Rattle.std.proofs.Common.{◌≡◌, ◌≢◌, ℕ, max, List, Bool, true, false, cond, ◌||◌, Option, Some, None, refl, sym, ◌∙◌, ap, subst, inl, inr}
use Rattle.std.proofs.lemmas.Bool.{cases_eq, cases_Bool, cond-true, cond-false}
use Rattle.tdb_space.specs.Form.{Form}
use Rattle.tdb_law.specs.Commands.{Command, Turn}
use Rattle.tdb_law.specs.Commands.GroupCommand.{Start}
use Rattle.tdb_law.specs.Commands.Command.{OnGroup}
use Rattle.tdb_law.specs.Openers.{Own, Task}
use Rattle.tdb_law.specs.Rows.{is_changed}
use Rattle.tdb_law.specs.Held.{holding, kept}
use Rattle.tdb_law.specs.World.{State, IsPending, IsSound}
use Rattle.tdb_law.specs.Turned.{Turned}
use Rattle.tdb_law.specs.Walks.{TakenBy, Taken, Moves, Walked}
use Rattle.tdb_law.specs.Walks.Walked.{walk_steps, walk_rests, walk_ends, walk_arrives, walk_finishes, walk_halts, walk_fails}
use Rattle.tdb_law.specs.Lines.{MayDie, leaves_open}
use Rattle.tdb_law.specs.Events.{OthersStay}
use Rattle.tdb_law.proofs.Covered.{none_held}
use Rattle.tdb_law.proofs.Emptied.{unchanged_start}
use Rattle.tdb_law.proofs.Tests.{never_true}
use Rattle.tdb_law.proofs.Walking.{put_here, put_else}
use Rattle.tdb_law.specs.OneAside.Sides.{Past, Side, but_at, alone, beside}
use Rattle.tdb_law.specs.OneAside.Starts.{new_start, with_starts, MayStart}
use Rattle.tdb_law.specs.OneAside.Laws.{StartsAreSound, WholeStartsAreSound, StartsArePlain, StartsStandAside, StartsTurn, StartsJoin, StartsGiven, StartsDie, StartIsGiven, StartEnds, AsideHidesStart}

-- no opener without a command has one
none_some : (t : Task) → ◌≡◌ {A = Option Task} None (Some t) → ⊥
none_some t e = cc

some_same : (t u : Task) → ◌≡◌ {A = Option Task} (Some t) (Some u) → t ≡ u
some_same t u e = cc

module _ (starts : ℕ → Bool) (p : State) where
  abbrev q : State
  q = with_starts starts p

  pub task_is : (o : ℕ) → starts o ≡ true → q.task o ≡ Some new_start
  task_is o e = cond-true (starts o) (Some new_start) (p.task o) e

  pub task_not : (o : ℕ) → starts o ≡ false → q.task o ≡ p.task o
  task_not o e = cond-false (starts o) (Some new_start) (p.task o) e

  module _ (f : Form) (M : MayStart starts p) (S : IsSound f p) where
    start_holds : (o b : ℕ) → starts o ≡ true → p.table o b ≡ holding f (p.own o) (p.spot o) (Some new_start) b
    start_holds o b e =
        let was : p.table o b ≡ holding f (p.own o) (p.spot o) None b = S.agrees o b ∙ ap (λ t. holding f (p.own o) (p.spot o) t b) (M.idle o e) in
        was ∙ ap (λ h. max h (kept f (p.own o) (p.spot o) b)) (sym (none_held f (OnGroup Start) (p.own o) (p.spot o) b))

    start_there : (o : ℕ) (t : Task) → q.task o ≡ Some t → (p.own o).live ≡ true
    start_there o t has = elim (cases_Bool (starts o)) [ inl e ↦ M.live o e | inr e ↦ S.busy_there o t (sym (task_not o e) ∙ has) ]

    pending_before : (o : ℕ) (c : Command) (x : Own) → IsPending f q o c x → IsPending f p o c x
    pending_before o c x P = elim (cases_Bool (starts o)) [
      | inl e ↦
          let is : new_start ≡ P.task = some_same new_start P.task (sym (task_is o e) ∙ P.has_task) in
          let made : is_changed f P.task.command x P.task.steps ≡ true = subst (λ d. is_changed f d x P.task.steps ≡ true) (sym P.command) P.made in
          absurd (never_true (sym (unchanged_start f (OnGroup Start) x) ∙ subst (λ t. is_changed f t.command x t.steps ≡ true) (sym is) made))
      | inr e ↦ record { task = P.task; has_task = sym (task_not o e) ∙ P.has_task; command = P.command; owned = P.owned; made = P.made }
    ]

    pub sound_starts : IsSound f q
    sound_starts = record {
      chains = S.chains;
      agrees = λ o b. elim (cases_Bool (starts o)) [
        | inl e ↦ start_holds o b e ∙ ap (λ t. holding f (p.own o) (p.spot o) t b) (sym (task_is o e))
        | inr e ↦ S.agrees o b ∙ ap (λ t. holding f (p.own o) (p.spot o) t b) (sym (task_not o e))
      ];
      apart = S.apart;
      stands = S.stands;
      busy_there = start_there;
      live_joined = S.live_joined;
      stale = λ was o c x k P. S.stale was o c x k (pending_before o c x P);
    }

pub starts_sound : StartsAreSound
starts_sound f p starts M S = sound_starts starts p f M S

pub starts_plain : StartsArePlain
starts_plain p starts P = record { outside = P.outside; ready = P.ready }

pub starts_aside : StartsStandAside
starts_aside p starts s not A = record { joined = A.joined; idle = task_not starts p s.here not ∙ A.idle; spot = A.spot; records = A.records; below = A.below; shuts = A.shuts }

-- Beside an opener that is aside the others have their Start.
beside_starts : (p : State) (past : Past) (s : Side) (starts : ℕ → Bool) → with_starts (but_at s.here false starts) (beside p past s) ≡ beside (with_starts starts p) past s
beside_starts p past s starts = λ i. record (beside p past s) { task = λ o. at o i }
  where
    at : (o : ℕ) → cond (but_at s.here false starts o) (Some new_start) (but_at s.here s.task p.task o) ≡ but_at s.here s.task (with_starts starts p).task o
    at o = elim (cases_eq o s.here) [
      | inl is ↦ cond-false (but_at s.here false starts o) (Some new_start) _ (put_here starts s.here false o is) ∙ put_here p.task s.here s.task o is ∙ sym (put_here (with_starts starts p).task s.here s.task o is)
      | inr other ↦
          ap (λ z. cond z (Some new_start) (but_at s.here s.task p.task o)) (put_else starts s.here false o other) ∙ ap (cond (starts o) (Some new_start)) (put_else p.task s.here s.task o other)
          ∙ sym (put_else (with_starts starts p).task s.here s.task o other)
    ]

-- who is not here has what it had
else_may : (p : State) (past : Past) (s : Side) (starts : ℕ → Bool) → MayStart starts p → MayStart (but_at s.here false starts) (beside p past s)
else_may p past s starts M = record {
  live = λ o e. elim (cases_eq o s.here) [
    | inl is ↦ absurd (never_true (sym (put_here starts s.here false o is) ∙ e))
    | inr other ↦ ap (λ x. x.live) (put_else p.own s.here s.own o other) ∙ M.live o (sym (put_else starts s.here false o other) ∙ e)
  ];
  idle = λ o e. elim (cases_eq o s.here) [
    | inl is ↦ absurd (never_true (sym (put_here starts s.here false o is) ∙ e))
    | inr other ↦ put_else p.task s.here s.task o other ∙ M.idle o (sym (put_else starts s.here false o other) ∙ e)
  ];
}

pub whole_sound : WholeStartsAreSound
whole_sound f p past None starts M S = sound_starts starts (alone p past) f (record { live = M.live; idle = M.idle }) S
whole_sound f p past (Some s) starts M S = subst (IsSound f) (beside_starts p past s starts) (sound_starts (but_at s.here false starts) (beside p past s) f (else_may p past s starts M) S)

-- one that has a Start isn't one that has none
differs : (starts : ℕ → Bool) (who : ℕ) → starts who ≡ false → (o : ℕ) → starts o ≡ true → o ≢ who
differs starts who ne o e is = never_true (sym ne ∙ ap starts (sym is) ∙ e)

-- What another opener does is the same beside such Starts.
module _ (f : Form) (p later : State) (starts : ℕ → Bool) (who : ℕ) (M : MayStart starts p) (ne : starts who ≡ false) where
  may_later : ((o : ℕ) → o ≢ who → later.task o ≡ p.task o) → ((o : ℕ) → o ≢ who → later.own o ≡ p.own o) → MayStart starts later
  may_later tasks owns = record {
    live = λ o e. ap (λ x. x.live) (owns o (differs starts who ne o e)) ∙ M.live o e;
    idle = λ o e. tasks o (differs starts who ne o e) ∙ M.idle o e;
  }

  same_tasks : ((o : ℕ) → o ≢ who → later.task o ≡ p.task o) → (o : ℕ) → o ≢ who → (with_starts starts later).task o ≡ (with_starts starts p).task o
  same_tasks tasks o other = ap (cond (starts o) (Some new_start)) (tasks o other)

  stay_starts : OthersStay f p later who → OthersStay f (with_starts starts p) (with_starts starts later) who
  stay_starts O = record {
    file = O.file;
    task = same_tasks O.task;
    own = O.own;
    spot = O.spot;
    table = O.table;
    walk = O.walk;
    number = O.number;
    image_number = O.image_number;
    settled = O.settled;
  }

  -- an opener that has another's key out of the file has a command that had a step
  taken_starts : (start : Bool) (k : List ℕ) → Taken f p who start k → Taken f (with_starts starts p) who start k
  taken_starts start k taken = (taken.0, taken.1, by_other taken.0 taken.2)
    where
      by_other : (o : ℕ) → TakenBy f p start o k → TakenBy f (with_starts starts p) start o k
      by_other o T = elim (cases_Bool (starts o)) [
        | inl e ↦ absurd (none_some T.task (sym (M.idle o e) ∙ T.has_task))
        | inr e ↦ record { task = T.task; has_task = task_not starts p o e ∙ T.has_task; taken_out = T.taken_out; missed = T.missed }
      ]

  moves_starts : (start : Bool) (key : Option (List ℕ)) → Moves f p later who start key → Moves f (with_starts starts p) (with_starts starts later) who start key
  moves_starts start key V = record {
    holds = V.holds;
    further = V.further;
    fewer = V.fewer;
    kept = λ k due. elim (V.kept k due) [
      | inl shown ↦ inl shown
      | inr rest ↦ elim rest [ inl ahead ↦ inr (inl ahead) | inr taken ↦ inr (inr (taken_starts start k taken)) ]
    ];
  }

  walk_starts : (c : Command) (n : ℕ) (turn : Turn) → Walked f p later who c n turn → Walked f (with_starts starts p) (with_starts starts later) who c n turn
  walk_starts c n turn (walk_steps e shift) = walk_steps e shift
  walk_starts c n turn (walk_rests o b e gone shift) = walk_rests o b e gone shift
  walk_starts c n turn (walk_ends r e still shift) = walk_ends r e still shift
  walk_starts c n turn (walk_arrives k v e moving R) = walk_arrives k v e moving (record { moved = moves_starts _ (Some k) R.moved; was = R.was; behind = R.behind; reached = R.reached })
  walk_starts c n turn (walk_finishes e moving F) = walk_finishes e moving (record { holds = F.holds; nothing = λ k due. taken_starts _ k (F.nothing k due) })
  walk_starts c n turn (walk_halts o b e moving gone outside V) = walk_halts o b e moving gone outside (moves_starts _ None V)
  walk_starts c n turn (walk_fails e moving) = walk_fails e moving

  turned_starts : (t : Task) (turn : Turn) → Turned f p who t turn later → Turned f (with_starts starts p) who t turn (with_starts starts later)
  turned_starts t turn T = record {
    mine = task_not starts p who ne ∙ T.mine;
    joined = T.joined;
    others = same_tasks T.others;
    others_own = T.others_own;
    others_spot = T.others_spot;
    others_hold = T.others_hold;
    others_number = T.others_number;
    others_walk = T.others_walk;
    row = T.row;
    leaves = task_not starts later who ne ∙ T.leaves;
    leaves_spot = T.leaves_spot;
    effect = T.effect;
    holds = λ b. T.holds b ∙ ap (λ u. holding f (later.own who) (later.spot who) u b) (sym (task_not starts later who ne));
    walks = walk_starts t.command t.steps turn T.walks;
    ready = T.ready;
    stale = T.stale;
    settled = T.settled;
    number = T.number;
    image_number = T.image_number;
  }

pub starts_turn : StartsTurn
starts_turn f p later starts who t turn M ne T = (may_later f p later starts who M ne T.others T.others_own, turned_starts f p later starts who M ne t turn T)

pub starts_join : StartsJoin
starts_join f p later starts who M ne J = (
  may_later f p later starts who M ne J.stay.task J.stay.own,
  record {
    first = J.first;
    few = J.few;
    closed_lock = J.closed_lock;
    stay = stay_starts f p later starts who M ne J.stay;
    nothing = record { task = task_not starts later who ne ∙ J.nothing.task; spot = J.nothing.spot; table = J.nothing.table };
    own = J.own;
    joined = J.joined;
    stale = J.stale;
  },
)

pub starts_die : StartsDie
starts_die f p later starts who M ne D = (
  may_later f p later starts who M ne D.stay.task D.stay.own,
  record {
    live = D.live;
    may_die = subst MayDie (sym (task_not starts p who ne)) D.may_die;
    stay = stay_starts f p later starts who M ne D.stay;
    nothing = record { task = task_not starts later who ne ∙ D.nothing.task; spot = D.nothing.spot; table = D.nothing.table };
    own = D.own;
    joined = D.joined;
    stale = D.stale ∙ ap (λ t. p.stale || leaves_open f (p.own who) t) (sym (task_not starts p who ne));
  },
)

pub starts_given : StartsGiven
starts_given p later starts who c M ne G = (
  record {
    live = λ o e. ap (λ w. (w.own o).live) G.rest ∙ M.live o e;
    idle = λ o e. G.others o (differs starts who ne o e) ∙ M.idle o e;
  },
  record {
    live = G.live;
    idle = task_not starts p who ne ∙ G.idle;
    task = task_not starts later who ne ∙ G.task;
    others = λ o other. ap (cond (starts o) (Some new_start)) (G.others o other);
    rest = ap (with_starts starts) G.rest;
  },
)

pub start_given : StartIsGiven
start_given p starts who M ne live idle = (
  record {
    live = λ o e. elim (cases_eq o who) [
      | inl is ↦ ap (λ z. (p.own z).live) is ∙ live
      | inr other ↦ M.live o (sym (put_else starts who true o other) ∙ e)
    ];
    idle = λ o e. elim (cases_eq o who) [
      | inl is ↦ ap p.task is ∙ idle
      | inr other ↦ M.idle o (sym (put_else starts who true o other) ∙ e)
    ];
  },
  record {
    live = live;
    idle = task_not starts p who ne ∙ idle;
    task = cond-true (but_at who true starts who) (Some new_start) (p.task who) (put_here starts who true who refl);
    others = λ o other. ap (λ z. cond z (Some new_start) (p.task o)) (put_else starts who true o other);
    rest = refl;
  },
)

pub start_ends : StartEnds
start_ends p starts who idle = λ i. record p { task = λ o. at o i }
  where
    at : (o : ℕ) → but_at who None (with_starts starts p).task o ≡ cond (but_at who false starts o) (Some new_start) (p.task o)
    at o = elim (cases_eq o who) [
      | inl is ↦ put_here (with_starts starts p).task who None o is ∙ sym (cond-false (but_at who false starts o) (Some new_start) (p.task o) (put_here starts who false o is) ∙ ap p.task is ∙ idle)
      | inr other ↦ put_else (with_starts starts p).task who None o other ∙ ap (λ z. cond z (Some new_start) (p.task o)) (sym (put_else starts who false o other))
    ]

pub aside_hides : AsideHidesStart
aside_hides p past s starts = λ i. record (beside p past s) { task = λ o. at o i }
  where
    at : (o : ℕ) → but_at s.here s.task (with_starts starts p).task o ≡ but_at s.here s.task (with_starts (but_at s.here false starts) p).task o
    at o = elim (cases_eq o s.here) [
      | inl is ↦ put_here (with_starts starts p).task s.here s.task o is ∙ sym (put_here (with_starts (but_at s.here false starts) p).task s.here s.task o is)
      | inr other ↦
          put_else (with_starts starts p).task s.here s.task o other ∙ ap (λ z. cond z (Some new_start) (p.task o)) (sym (put_else starts s.here false o other))
          ∙ sym (put_else (with_starts (but_at s.here false starts) p).task s.here s.task o other)
    ]
