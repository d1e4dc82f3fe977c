-- What the rows of the law say of the commands of a cursor, whose opener is outside a transaction.
use Rattle.std.proofs.Common.{◌≡◌, ℕ, ◌+◌, ◌<◌, ◌≤◌, List, Bool, true, false, cond, ◌==◌, Option, Some, None, is_some, is_none, refl, sym, ◌∙◌, ap, inl, inr, arith}
use Rattle.std.specs.Prelude.{◌&&◌}
use Rattle.tdb_space.specs.Form.{Form}
use Rattle.std.proofs.lemmas.Bool.{eqb-true, or_cases}
use Rattle.tdb_law.specs.Commands.{WalkCommand, Reply, Turn, is_done}
use Rattle.tdb_law.specs.Commands.WalkCommand.{First, Next, EndWalk, Close}
use Rattle.tdb_law.specs.Commands.Reply.{Memory}
use Rattle.tdb_law.specs.Commands.Command.{OnWalk}
use Rattle.tdb_law.specs.Commands.Turn.{Step, Blocked, Ends}
use Rattle.tdb_law.specs.Openers.{Own, Map}
use Rattle.tdb_law.specs.Rows.{changed_by, is_changed}
use Rattle.tdb_law.specs.Ends.{walk_ends, last_by, last_step, ends_by, may_end, starves_by, starves, IsRow}
use Rattle.tdb_law.specs.Outcomes.{walk_moves, counts_by, counts, told_by, told, walk_told, map_by, map_after, reads_by, own_by, own_after, own_walked, own_spared, key_shown}
use Rattle.tdb_law.specs.Effects.{IsReady}
use Rattle.tdb_law.specs.Counting.{brings_by, brings, number_by}
use Rattle.tdb_law.specs.Turned.{number_next}
use Rattle.tdb_walk.specs.InLaw.{is_close}
use Rattle.tdb_walk.proofs.Holding.{granted}

-- no is not yes
pub never : false ≡ true → ⊥
never e = cc

module _ (f : Form) (w : WalkCommand) (x : Own) (outside : x.txn ≡ None) where
  pub last_is : last_step f (OnWalk w) x ≡ cond (is_some x.cursor) 2 0
  last_is = ap (λ q. last_by q (OnWalk w) x) (granted f w x outside) ∙ ap (λ t. cond (is_none t && is_some x.cursor) 2 0) outside

  pub ends_are : (n : ℕ) (r : Reply) → may_end f (OnWalk w) x n r ≡ walk_ends w x.cursor n
  ends_are n r = ap (λ q. ends_by q (OnWalk w) x n r) (granted f w x outside) ∙ ap (λ t. cond (is_none t) (walk_ends w x.cursor n) (n == 0)) outside

  pub unchanged : (n : ℕ) → is_changed f (OnWalk w) x n ≡ false
  unfolding is_changed
  unchanged n = ap (λ q. changed_by q (OnWalk w) x n) (granted f w x outside)

  pub counts_no : counts f (OnWalk w) x ≡ false
  counts_no = ap (λ q. counts_by q (OnWalk w)) (granted f w x outside)

  pub told_is : (m : Map) → told f (OnWalk w) x m ≡ walk_told w
  told_is m = ap (λ q. told_by q (OnWalk w) x m) (granted f w x outside)

  pub map_is : (m : Map) → map_after f (OnWalk w) x m ≡ m
  map_is m = ap (λ q. map_by q (OnWalk w) x m) (granted f w x outside)

  pub own_is : (n : ℕ) (r : Reply) (m : Map) → own_after f (OnWalk w) x n r m ≡ own_walked w x r
  own_is n r m = ap (λ q. own_by f q (OnWalk w) x n r m) (granted f w x outside)

  pub ready : (n : ℕ) → IsReady f (OnWalk w) x n
  ready n k e = absurd (never (sym (ap (λ q. reads_by q (OnWalk w) x k) (granted f w x outside)) ∙ e))

  brings_no : brings f (OnWalk w) x ≡ false
  brings_no = ap (λ q. brings_by q (OnWalk w) x) (granted f w x outside)

  pub number_is : (n : ℕ) (turn : Turn) (q p : ℕ) → number_next f (OnWalk w) n x turn q p ≡ q
  number_is n Step q p = ap (λ z. cond (z && is_changed f (OnWalk w) x (n + 1)) p q) brings_no
  number_is n (Blocked o b) q p = refl
  number_is n (Ends r) q p = ap (λ z. cond (is_done r) (number_by z (OnWalk w) x q p) q) (granted f w x outside) ∙ either (is_done r)
    where
      either : (z : Bool) → cond z q q ≡ q
      either true = refl
      either false = refl

  -- a command that may end may find no memory, up to then
  pub row_step : (n : ℕ) → is_some x.cursor ≡ true → n < 2 → IsRow f (OnWalk w) x n Step
  row_step n some low = let last : last_step f (OnWalk w) x ≡ 2 = last_is ∙ ap (λ z. cond z 2 0) some in omega (arith, last, low)

  pub row_end : (n : ℕ) (r : Reply) → walk_ends w x.cursor n ≡ true → IsRow f (OnWalk w) x n (Ends r)
  row_end n r e = inl (ends_are n r ∙ e)

starving : (w : WalkCommand) (x : Own) → walk_moves w x ≡ true → starves_by None (OnWalk w) x ≡ true
starving First x e = refl
starving Next x e = e
starving EndWalk x e = absurd (never e)
starving Close x e = absurd (never e)

starving_on : (w : WalkCommand) (x : Own) → is_some x.cursor ≡ true → starves_by None (OnWalk w) x ≡ true
starving_on First x e = refl
starving_on Next x e = e
starving_on EndWalk x e = e
starving_on Close x e = e

pub starves_moving : (f : Form) (w : WalkCommand) (x : Own) → x.txn ≡ None → walk_moves w x ≡ true → starves f (OnWalk w) x ≡ true
starves_moving f w x outside e = ap (λ q. starves_by q (OnWalk w) x) (granted f w x outside) ∙ starving w x e

pub starves_on : (f : Form) (w : WalkCommand) (x : Own) → x.txn ≡ None → is_some x.cursor ≡ true → starves f (OnWalk w) x ≡ true
starves_on f w x outside e = ap (λ q. starves_by q (OnWalk w) x) (granted f w x outside) ∙ starving_on w x e

pub row_memory : (f : Form) (w : WalkCommand) (x : Own) (n : ℕ) → x.txn ≡ None → starves f (OnWalk w) x ≡ true → n ≤ last_step f (OnWalk w) x → IsRow f (OnWalk w) x n (Ends Memory)
row_memory f w x n outside e low = inr (refl, e, low)

-- what the commands that move have in common
pub moves_close : (w : WalkCommand) (x : Own) → walk_moves w x ≡ true → is_close w ≡ false
moves_close First x e = refl
moves_close Next x e = refl
moves_close EndWalk x e = absurd (never e)
moves_close Close x e = absurd (never e)

pub walked_moving : (w : WalkCommand) (x : Own) (r : Reply) → walk_moves w x ≡ true → own_walked w x r ≡ record x { cursor = key_shown r }
walked_moving First x r e = refl
walked_moving Next x r e = refl
walked_moving EndWalk x r e = absurd (never e)
walked_moving Close x r e = absurd (never e)

pub spared_moving : (w : WalkCommand) (x : Own) → walk_moves w x ≡ true → own_spared (OnWalk w) x ≡ record x { cursor = None }
spared_moving First x e = refl
spared_moving Next x e = refl
spared_moving EndWalk x e = absurd (never e)
spared_moving Close x e = absurd (never e)

-- a command ends after two steps at the latest, and without a cursor at once
ends_soon : (w : WalkCommand) (cursor : Option (List ℕ)) (n : ℕ) → walk_ends w cursor n ≡ true → n ≤ cond (is_some cursor) 2 0
ends_soon w None n e = omega (arith, eqb-true n 0 e)
ends_soon First (Some k) n e = elim (or_cases (n == 0) (n == 2) e) [ inl z ↦ omega (arith, eqb-true n 0 z) | inr z ↦ omega (arith, eqb-true n 2 z) ]
ends_soon Next (Some k) n e = elim (or_cases (n == 1) (n == 2) e) [ inl z ↦ omega (arith, eqb-true n 1 z) | inr z ↦ omega (arith, eqb-true n 2 z) ]
ends_soon EndWalk (Some k) n e = elim (or_cases (n == 0) (n == 2) e) [ inl z ↦ omega (arith, eqb-true n 0 z) | inr z ↦ omega (arith, eqb-true n 2 z) ]
ends_soon Close (Some k) n e = elim (or_cases (n == 0) (n == 2) e) [ inl z ↦ omega (arith, eqb-true n 0 z) | inr z ↦ omega (arith, eqb-true n 2 z) ]

pub ends_last : (f : Form) (w : WalkCommand) (x : Own) → x.txn ≡ None → (n : ℕ) → walk_ends w x.cursor n ≡ true → n ≤ last_step f (OnWalk w) x
ends_last f w x outside n e = let last = last_is f w x outside in let low = ends_soon w x.cursor n e in omega (arith, last, low)
