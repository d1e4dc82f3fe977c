-- A turn of a job on explicit locks: it ends, or is blocked and stands as before.
use Rattle.std.proofs.Common.{◌≡◌, ℕ, List, [], None, refl, sym, ◌∙◌, ap, subst, arith}
use Rattle.tdb_space.specs.Form.{Form}
use Rattle.tdb_locks.specs.declared.piece.Piece.{Piece}
use Rattle.tdb_law.specs.Commands.{Command, Reply, Turn}
use Rattle.tdb_law.specs.Commands.Command.{OnLocks, Seqnum}
use Rattle.tdb_law.specs.Commands.Reply.{Done, Memory, Full, Busy}
use Rattle.tdb_law.specs.Commands.Turn.{Step, Blocked, Ends}
use Rattle.tdb_law.specs.Openers.{Own, Spot, View, Map}
use Rattle.tdb_law.specs.Refusals.{refusal}
use Rattle.tdb_law.specs.Ends.{last_by}
use Rattle.tdb_law.specs.Effects.{Effect, task_left}
use Rattle.tdb_law.specs.Effects.Effect.{effect_waits, effect_goes_on, effect_changes, effect_answers, effect_shows, effect_starves, effect_is_full, effect_is_busy, effect_numbers, effect_finishes}
use Rattle.tdb_openers.specs.declared.job.Job.TheVariants as Jobs
use Rattle.tdb_openers.specs.declared.job.Locking.{Locking}
use Rattle.tdb_openers.specs.Given.{IsShortLocking}
use Rattle.tdb_openers.specs.Openers.{locking_command}
use Rattle.tdb_openers.specs.Turning.{TurnsLocks, TurnsFile}
use Rattle.tdb_openers.specs.Jobs.{JobTurned}

never_ends : {A : Type 0} (turn : Turn) (r : Reply) (o b : ℕ) → turn ≡ Ends r → turn ≡ Blocked o b → A
never_ends turn r o b e is = let bad : Ends r ≡ Blocked o b = sym e ∙ is in absurd (cc bad)

-- a turn that is blocked leaves its opener
blocked_same : (f : Form) (free : Type 0) (conflict : ℕ → ℕ → Type 0) (finds : Reply → Type 0) (number : ℕ) (c : Command) (n : ℕ) (x : Own) (file : Map) (turn : Turn) (y : Own) (next : Map)
    → Effect f free conflict finds number c n x file turn y next → (o b : ℕ) → turn ≡ Blocked o b → y ≡ x
blocked_same f free conflict finds number c n x file turn y next (effect_waits p q e k u s own) o b is = own
blocked_same f free conflict finds number c n x file turn y next (effect_goes_on e k u s own) o b is = own
blocked_same f free conflict finds number c n x file turn y next (effect_changes e k l u v w s own) o b is = own
blocked_same f free conflict finds number c n x file turn y next (effect_answers r e k m q d u w s own) o b is = never_ends turn r o b e is
blocked_same f free conflict finds number c n x file turn y next (effect_shows r e k m w s own) o b is = never_ends turn r o b e is
blocked_same f free conflict finds number c n x file turn y next (effect_starves e k u s own) o b is = never_ends turn Memory o b e is
blocked_same f free conflict finds number c n x file turn y next (effect_is_full len need e k p q u w s own) o b is = never_ends turn (Full len need) o b e is
blocked_same f free conflict finds number c n x file turn y next (effect_is_busy p q e k u s own) o b is = never_ends turn (Busy p q) o b e is
blocked_same f free conflict finds number c n x file turn y next (effect_numbers q e k u w s own) o b is = own
blocked_same f free conflict finds number c n x file turn y next (effect_finishes e k u s own) o b is = never_ends turn Done o b e is

module _ (f : Form) (x y : Own) (s z : Spot) (v : View) (l : Locking) (who size : ℕ) (ps qs : List Piece) (R : refusal f (OnLocks (locking_command l)) x ≡ None) (short : IsShortLocking l) (live : y.live ≡ x.live) where
  first_turn : (turn : Turn) → TurnsLocks f x y z (OnLocks (locking_command l)) 0 (task_left (OnLocks (locking_command l)) 0 turn) who ps qs turn → TurnsFile f x y s v (OnLocks (locking_command l)) 0 who ps [] [] turn
      → JobTurned f x y z (Jobs.Locking l) (Jobs.Locking l) 0 who size ps qs turn
  first_turn Step L T = absurd (let none = ap (λ q. last_by q (OnLocks (locking_command l)) x) R in let some = L.row in omega (arith, none, some))
  first_turn (Blocked o b) L T = record {
    locks = L;
    stands = (refl, subst (λ z. refusal f (OnLocks (locking_command l)) z ≡ None) (sym (blocked_same f _ _ _ _ _ _ _ _ _ _ _ T.effect o b refl)) R, short);
    lives = λ t e. live;
  }
  first_turn (Ends r) L T = record { locks = L; stands = tt; lives = λ t e. live }

  pub locking_turned : (n : ℕ) (turn : Turn) → n ≡ 0 → TurnsLocks f x y z (OnLocks (locking_command l)) 0 (task_left (OnLocks (locking_command l)) 0 turn) who ps qs turn
      → TurnsFile f x y s v (OnLocks (locking_command l)) 0 who ps [] [] turn → JobTurned f x y z (Jobs.Locking l) (Jobs.Locking l) n who size ps qs turn
  locking_turned n turn none L T = subst (λ m. JobTurned f x y z (Jobs.Locking l) (Jobs.Locking l) m who size ps qs turn) (sym none) (first_turn turn L T)

-- a turn of a job that asks for the sequence number does so too
module _ (f : Form) (x : Own) (z : Spot) (who size : ℕ) (ps qs : List Piece) (R : refusal f Seqnum x ≡ None) where
  number_turn : (turn : Turn) → TurnsLocks f x x z Seqnum 0 (task_left Seqnum 0 turn) who ps qs turn → JobTurned f x x z Jobs.Seqnum Jobs.Seqnum 0 who size ps qs turn
  number_turn Step L = absurd (let none = ap (λ q. last_by q Seqnum x) R in let some = L.row in omega (arith, none, some))
  number_turn (Blocked o b) L = record { locks = L; stands = (refl, R); lives = λ t e. refl }
  number_turn (Ends r) L = record { locks = L; stands = tt; lives = λ t e. refl }

  pub number_turned : (n : ℕ) (turn : Turn) → n ≡ 0 → TurnsLocks f x x z Seqnum 0 (task_left Seqnum 0 turn) who ps qs turn → JobTurned f x x z Jobs.Seqnum Jobs.Seqnum n who size ps qs turn
  number_turned n turn none L = subst (λ m. JobTurned f x x z Jobs.Seqnum Jobs.Seqnum m who size ps qs turn) (sym none) (number_turn turn L)
