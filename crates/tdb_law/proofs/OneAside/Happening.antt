-- An opener that joins, one that is given a command and one that dies do so in the whole world.
use Rattle.std.proofs.Common.{◌≡◌, ◌≢◌, ℕ, ◌≤◌, ◌||◌, cond, ◌==◌, Some, None, refl, sym, ◌∙◌, ap, subst, arith}
use Rattle.tdb_space.specs.Form.{Form}
use Rattle.tdb_law.specs.Openers.{nowhere, opened, closed}
use Rattle.tdb_law.specs.World.{State}
use Rattle.tdb_law.specs.Lines.{MayDie, leaves_open}
use Rattle.tdb_law.specs.Events.{OthersStay, HasNothing}
use Rattle.tdb_law.proofs.Walking.{put_else}
use Rattle.tdb_law.specs.OneAside.Sides.{Past, Side, alone, beside, StandsAside}
use Rattle.tdb_law.specs.OneAside.Laws.{JoinsBeside, GivenBeside, DiesBeside}
use Rattle.tdb_law.proofs.OneAside.Choices.{shift_choice, hold_choice, aside_stays}

module _ (p later : State) (past : Past) where
  alone_stay : (f : Form) (who : ℕ) → OthersStay f p later who → OthersStay f (alone p past) (alone later past) who
  alone_stay f who O = record {
    file = O.file;
    task = O.task;
    own = O.own;
    spot = O.spot;
    table = O.table;
    walk = O.walk;
    number = O.number;
    image_number = λ o. refl;
    settled = refl;
  }

  module _ (s : Side) (who : ℕ) (A : StandsAside p s) (ne : who ≢ s.here) where
    here_else : s.here ≢ who
    here_else e = ne (sym e)

    beside_stay : (f : Form) → OthersStay f p later who → OthersStay f (beside p past s) (beside later past s) who
    beside_stay f O = record {
      file = O.file;
      task = λ o other. ap (cond (o == s.here) s.task) (O.task o other);
      own = λ o other. ap (cond (o == s.here) s.own) (O.own o other);
      spot = λ o other. ap (cond (o == s.here) nowhere) (O.spot o other);
      table = λ o b other. hold_choice (o == s.here) s.table (later.table o) (p.table o) b (O.table o b other);
      walk = λ o other. shift_choice f (o == s.here) (λ m k. ⊥) s.mark (p.mark o) (later.mark o) (O.walk o other);
      number = O.number;
      image_number = λ o. refl;
      settled = refl;
    }

    beside_nothing : HasNothing later who → HasNothing (beside later past s) who
    beside_nothing N = record {
      task = put_else later.task s.here s.task who ne ∙ N.task;
      spot = put_else later.spot s.here nowhere who ne ∙ N.spot;
      table = λ b. ap (λ g. g b) (put_else later.table s.here s.table who ne) ∙ N.table b;
    }

    stay_aside : (f : Form) → OthersStay f p later who → p.joined ≤ later.joined → StandsAside later s
    stay_aside f O more = aside_stays p later s A more (O.task s.here here_else) (O.spot s.here here_else) (λ b. O.table s.here b here_else)

pub joins_beside : JoinsBeside
joins_beside f p later past None who A shut J = (tt, record { first = J.first; few = J.few; closed_lock = shut; stay = alone_stay p later past f who J.stay; nothing = record { task = J.nothing.task; spot = J.nothing.spot; table = J.nothing.table }; own = J.own; joined = J.joined; stale = J.stale })
joins_beside f p later past (Some s) who A shut J = (
  stay_aside p later past s who A ne f J.stay (omega (arith, J.joined)),
  record {
    first = J.first;
    few = J.few;
    closed_lock = shut;
    stay = beside_stay p later past s who A ne f J.stay;
    nothing = beside_nothing p later past s who A ne J.nothing;
    own = put_else later.own s.here s.own who ne ∙ J.own ∙ ap opened (sym (put_else p.own s.here s.own who ne));
    joined = J.joined;
    stale = J.stale;
  },
)
  where
    ne : who ≢ s.here
    ne e = omega (arith, e, J.first, A.joined)

pub given_beside : GivenBeside
given_beside p later past None who c A else_where G = (tt, record { live = G.live; idle = G.idle; task = G.task; others = G.others; rest = ap (λ w. alone w past) G.rest })
given_beside p later past (Some s) who c A ne G = (
  aside_stays p later s A (omega (arith, ap (λ w. w.joined) G.rest)) (G.others s.here (λ e. ne (sym e))) (ap (λ w. w.spot s.here) G.rest) (λ b. ap (λ w. w.table s.here b) G.rest),
  record {
    live = ap (λ x. x.live) (put_else p.own s.here s.own who ne) ∙ G.live;
    idle = put_else p.task s.here s.task who ne ∙ G.idle;
    task = put_else later.task s.here s.task who ne ∙ G.task;
    others = λ o other. ap (cond (o == s.here) s.task) (G.others o other);
    rest = ap (λ w. record (beside w past s) { view = (beside p past s).view }) G.rest;
  },
)

pub dies_beside : DiesBeside
dies_beside f p later past None who A else_where D = (tt, record { live = D.live; may_die = D.may_die; stay = alone_stay p later past f who D.stay; nothing = record { task = D.nothing.task; spot = D.nothing.spot; table = D.nothing.table }; own = D.own; joined = D.joined; stale = D.stale })
dies_beside f p later past (Some s) who A ne D = (
  stay_aside p later past s who A ne f D.stay (omega (arith, D.joined)),
  record {
    live = ap (λ x. x.live) same_own ∙ D.live;
    may_die = subst MayDie (sym same_task) D.may_die;
    stay = beside_stay p later past s who A ne f D.stay;
    nothing = beside_nothing p later past s who A ne D.nothing;
    own = put_else later.own s.here s.own who ne ∙ D.own ∙ ap closed (sym same_own);
    joined = D.joined;
    stale = D.stale ∙ ap (λ x. p.stale || leaves_open f x (p.task who)) (sym same_own) ∙ ap (λ t. p.stale || leaves_open f ((beside p past s).own who) t) (sym same_task);
  },
)
  where
    same_own : (beside p past s).own who ≡ p.own who
    same_own = put_else p.own s.here s.own who ne

    same_task : (beside p past s).task who ≡ p.task who
    same_task = put_else p.task s.here s.task who ne
