-- The turn of a command inside a transaction that isn't prepared, whatever the command is.
use Rattle.std.proofs.Common.{◌≡◌, ℕ, max, List, [], Bool, true, false, nat_lt, Option, refl, sym, ◌∙◌, ap, inl, arith, None}
use Rattle.std.specs.Prelude.{◌&&◌, if◌then◌else◌}
use Rattle.std.specs.Ordering.{nat_cmp}
use Rattle.std.specs.FinMap.{get-empty, get, empty}
use Rattle.tdb_space.specs.Form.{Form, data_start}
use Rattle.tdb_law.specs.Commands.{Command, Reply, is_done}
use Rattle.tdb_law.specs.Refusals.{Refusal, refusal}
use Rattle.tdb_law.specs.Outcomes.{moves_by, counts_by, told_by, map_by, own_by}
use Rattle.tdb_law.specs.Commands.Turn.{Ends}
use Rattle.tdb_law.specs.Openers.{Own, Map, Spot, View, ended, nowhere, outside, seen}
use Rattle.tdb_law.specs.Rows.{Lock, locks, locks_by, look_by, is_changed, changed_by}
use Rattle.tdb_law.specs.Ends.{ends_by, may_end}
use Rattle.tdb_law.specs.Held.{is_gone, moves_at, kept, held, holding, wanted}
use Rattle.tdb_law.specs.Counting.{number_by, image_number_by, number_seen, image_number_after}
use Rattle.tdb_law.specs.Effects.{Effect, IsFree, IsFirstConflict, Finds}
use Rattle.tdb_law.specs.Effects.Effect.{effect_answers}
use Rattle.tdb_law.specs.Turned.{number_next}
use Rattle.tdb_txn_turns.specs.InsideTxn.Turns.{ReadsAll, TurnsInside, LeavesInside}

pub same_either : {T : Type 0} (b : Bool) (v : T) → (if b then v else v) ≡ v
same_either true v = refl
same_either false v = refl

-- a command that takes no locks, and wants none on the way of a move
module _ (f : Form) (x y : Own) (c : Command) (unlocked : (purging : Bool) → locks f c x purging ≡ []) (inside : outside x ≡ false) where
  pub wants_none : (a : Spot) (v : View) (b : ℕ) → wanted f c x a v 0 b ≡ 0
  unfolding wanted
  wants_none a v b =
      rw (unlocked a.purging, inside)
      (ap (λ m. max (if is_gone c a then 0 else 0) m) (go (moves_at f c x a 0)) ∙ ap (λ m. max m 0) (same_either (is_gone c a) 0) ∙ omega arith)
    where
      go : (b : Bool) → ◌≡◌ {A = ℕ} (if b && false then 1 else 0) 0
      go true = refl
      go false = refl

  took_none : (a : Spot) (b : ℕ) → held f c x a 0 b ≡ 0
  unfolding held
  took_none a b = rw (unlocked a.purging) (same_either (is_gone c a) 0)

  pub inside_of : (n p q : ℕ) (r : Reply) → may_end f c x 0 r ≡ true
      → ((table : ℕ → ℕ → ℕ) (who : ℕ) (want : ℕ → ℕ) (file : Map) → IsFree table who want → ReadsAll table who
      → Effect f (IsFree table who want) (IsFirstConflict table who want) (Finds f (table who) want (seen x file)) (number_seen x n p) c 0 x file (Ends r) y file)
      → ((a z : Spot) (b : ℕ) → kept f y z b ≡ kept f x a b) → number_next f c 0 x (Ends r) n p ≡ n → q ≡ image_number_after f c x (Ends r) n p → TurnsInside f x y c n p q r
  inside_of n p q r row effect same number image_number = record {
    row = inl row;
    effect = effect;
    wants = wants_none;
    holds = λ a z b. ap (λ m. max 0 m) (same a z b) ∙ ap (λ m. max m (kept f x a b)) (sym (took_none a b));
    number = number;
    image_number = image_number;
  }

-- an opener without transaction, explicit locks and cursor holds nothing
pub nothing_held : (f : Form) (x : Own) (b : ℕ) → holding f (ended x) nowhere None b ≡ 0
nothing_held f x b = let none : get (empty {X = ℕ} {R = nat_cmp}) b ≡ None = get-empty nat_cmp b in rw none (go (nat_lt b (data_start f)))
  where
    go : (z : Bool) → ◌≡◌ {A = ℕ} (max 0 (max (max (if z && false then 2 else 0) 0) 0)) 0
    go true = omega arith
    go false = omega arith

-- What a command with this refusal, or with none, comes to in the law's tables where it is done at once, by an opener
-- who is y afterwards.
pub record Comes (f : Form) (x y : Own) (c : Command) (o : Option Refusal) (r : Reply) : Type 0 where
  pub ends : ends_by o c x 0 r ≡ true
  pub unlocked : (purging : Bool) → ◌≡◌ {A = List Lock} (locks_by f o c x purging) []
  pub unmoved : moves_by o c x ≡ false
  pub uncounted : counts_by o c ≡ false
  pub looks : look_by o c x ≡ 0
  pub unchanged : changed_by o c x 0 ≡ false
  pub told : (m : Map) → told_by o c x m ≡ r
  pub map : (m : Map) → map_by o c x m ≡ m
  pub own : (m : Map) → own_by f o c x 0 r m ≡ y
  pub number : (n p : ℕ) → number_by o c x n p ≡ n
  pub image_number : (n p : ℕ) → image_number_by o c x n p ≡ p
  pub within : outside x ≡ false

module _ (f : Form) (x y : Own) (c : Command) (o : Option Refusal) (R : refusal f c x ≡ o) (r : Reply) (C : Comes f x y c o r) where
  changed_none : is_changed f c x 0 ≡ false
  unfolding is_changed
  changed_none = ap (λ q. changed_by q c x 0) R ∙ C.unchanged

  row : may_end f c x 0 r ≡ true
  row = ap (λ q. ends_by q c x 0 r) R ∙ C.ends

  unlocked : (purging : Bool) → locks f c x purging ≡ []
  unlocked purging = ap (λ q. locks_by f q c x purging) R ∙ C.unlocked purging

  effect : (n p : ℕ) (table : ℕ → ℕ → ℕ) (who : ℕ) (want : ℕ → ℕ) (file : Map) → IsFree table who want
      → Effect f (IsFree table who want) (IsFirstConflict table who want) (Finds f (table who) want (seen x file)) (number_seen x n p) c 0 x file (Ends r) y file
  effect n p table who want file free =
      effect_answers r refl free (ap (λ q. moves_by q c x) R ∙ C.unmoved) (ap (λ q. counts_by q c) R ∙ C.uncounted)
      (λ k reading. let early = ap (λ q. look_by q c x) R ∙ C.looks in omega (arith, early)) changed_none
      (sym (ap (λ q. told_by q c x file) R ∙ C.told file)) (sym (ap (λ q. map_by q c x file) R ∙ C.map file)) (sym (ap (λ q. own_by f q c x 0 r file) R ∙ C.own file))

  number : (n p : ℕ) → number_next f c 0 x (Ends r) n p ≡ n
  number n p = ap (λ z. if is_done r then number_by z c x n p else n) R ∙ ap (λ m. if is_done r then m else n) (C.number n p) ∙ same_either (is_done r) n

  image_number : (n p : ℕ) → image_number_after f c x (Ends r) n p ≡ p
  image_number n p =
      ap (λ z. if is_done r then image_number_by z c x n p else p) R ∙ ap (λ m. if is_done r then m else p) (C.image_number n p) ∙ same_either (is_done r) p

  -- the opener holds what it held
  pub answered : (n p : ℕ) → ((a z : Spot) (b : ℕ) → kept f y z b ≡ kept f x a b) → TurnsInside f x y c n p p r
  answered n p same = inside_of f x y c unlocked C.within n p p r row (λ table who want file free reads. effect n p table who want file free) same (number n p) (sym (image_number n p))

  -- its transaction is ended, and it holds nothing
  pub left_so : (n p : ℕ) → ((b : ℕ) → holding f y nowhere None b ≡ 0) → LeavesInside f x y c n p r
  left_so n p nothing = record {
    row = inl row;
    effect = λ table who want file free. effect n p table who want file free;
    wants = wants_none f x y c unlocked C.within;
    holds = nothing;
    number = number n p;
  }
