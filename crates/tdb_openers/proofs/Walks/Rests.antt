-- A cursor that rests: the byte of its record is not that of a chain, of the free list, or one between two words; and
-- what the law says of it.
use Rattle.std.proofs.Common.{◌≡◌, ◌≢◌, ℕ, ◌%◌, ◌<◌, ◌≤◌, List, Bool, true, false, ◌==◌, Option, Some, None, is_some, refl, sym, ◌∙◌, ap, subst, arith, zero-le, le_refl}
use Rattle.std.specs.Prelude.{if◌then◌else◌}
use Rattle.std.proofs.lemmas.Bool.Decides.{nat_tests}
use Rattle.tdb_space.specs.Form.{Form, data_start}
use Rattle.tdb_law.specs.Held.{stand_held}
use Rattle.tdb_walk.specs.declared.standing.Standing.{Standing}
use Rattle.tdb_walk.specs.declared.standing.Standing.TheVariants.{Before, On, Past}
use Rattle.tdb_locks.specs.HeldLocks.{HeldLocks}
use Rattle.tdb_law.specs.Commands.{WalkCommand}
use Rattle.tdb_law.specs.Openers.{Own}
use Rattle.tdb_walk.specs.declared.stage.Stage.{Stage}
use Rattle.tdb_walk.specs.declared.stage.Stage.TheVariants.{Rested, Reading, Writing, Freeing}
use Rattle.tdb_walk.specs.Cursors.{At, IsPlaced, spot_of}
use Rattle.tdb_walk.specs.InLaw.{IsShown, StandsAfter, spot_in, is_before, is_purging}
use Rattle.tdb_walk.specs.Again.{RestsAt}
use Rattle.tdb_walk.specs.declared.walk.Walk.{Walk}
use Rattle.tdb_openers.specs.Openers.{rest_of, spot_by, WalkAfter, WalkStands}
use Rattle.tdb_openers.specs.Turning.{RestsWell, StandsWell, resting}

stand_else : (place b : ℕ) → place ≢ b → stand_held (Some place) b ≡ 0
stand_else place b differs = let e : (place == b) ≡ false = grind (arith, nat_tests) in rw e refl

pub stand_most : (o : Option ℕ) (b : ℕ) → stand_held o b ≤ 1
stand_most None b = zero-le
stand_most (Some place) b = at (place == b)
  where
    at : (t : Bool) → (if t then 1 else 0) ≤ 1
    at true = le_refl 1
    at false = zero-le

module _ (f : Form) (cursor : Option (List ℕ)) where
  pub stand_below : (o : Option ℕ) (b : ℕ) → StandsWell f cursor o → b < data_start f → stand_held o b ≡ 0
  stand_below None b K low = refl
  stand_below (Some place) b K low = let above = (K place refl).above in stand_else place b (λ e. omega (arith, above, low, e))

  pub stand_between : (o : Option ℕ) (b : ℕ) → StandsWell f cursor o → b % 4 ≡ 3 → stand_held o b ≡ 0
  stand_between None b K odd = refl
  stand_between (Some place) b K odd = let aligned = (K place refl).aligned in stand_else place b (λ e. omega (arith, aligned, odd, e))

  -- without a cursor none stands
  pub stand_nowhere : (o : Option ℕ) → StandsWell f cursor o → is_some cursor ≡ false → o ≡ None
  stand_nowhere None K none = refl
  stand_nowhere (Some place) K none = absurd (let c : ◌≡◌ {A = Bool} true false = sym (K place refl).shown ∙ none in cc c)

-- one that rests neither purges nor has let go of everything
still_spot : (f : Form) (shown : Option (List ℕ)) (place : Standing) (stage : Stage) → RestsAt f shown place stage → spot_in (record { place = place; stage = stage }) (is_before place) ≡ resting (record { shown = shown; stands = spot_of place })
still_spot f shown (On chain off) stage R = ap (λ s. record { stands = Some off; purging = is_purging s; gone = false }) R.1
still_spot f shown (Before chain) stage R = absurd R
still_spot f shown Past stage R = ap (λ s. record { stands = None; purging = is_purging s; gone = false }) R.1

pub spot_rests : (f : Form) (walk : Walk) → RestsAt f walk.shown walk.cursor.place walk.cursor.stage → spot_by walk.cursor ≡ resting (rest_of walk)
spot_rests f walk R = still_spot f walk.shown walk.cursor.place walk.cursor.stage R

-- one that rests and has shown no key has ended
pub rests_past : (f : Form) (shown : Option (List ℕ)) (place : Standing) (stage : Stage) → RestsAt f shown place stage → shown ≡ None → place ≡ Past
rests_past f shown (On chain off) stage R none = absurd (let c : ◌≡◌ {A = Option (List ℕ)} None (Some R.0.key) = sym none ∙ R.0.shown in cc c)
rests_past f shown (Before chain) stage R none = absurd R
rests_past f shown Past stage R none = refl

-- where no command is on it, it rests
pub walk_rests : (f : Form) (held : HeldLocks) (x : Own) (w : Option WalkCommand) (n : ℕ) (at : At) → WalkStands f held x w n at → w ≡ None → RestsAt f x.cursor at.place at.stage
walk_rests f held x w n at S none = subst (λ v. WalkAfter f held x v n at) none S.stands

pub walk_still : (f : Form) (held : HeldLocks) (x : Own) (w : Option WalkCommand) (n : ℕ) (at : At) → IsPlaced at.place → RestsAt f x.cursor at.place at.stage → w ≡ None → WalkStands f held x w n at
walk_still f held x w n at P R none = record { placed = P; stands = subst (λ v. WalkAfter f held x v n at) (sym none) R }

-- it stands on a record behind the heads of all chains and at a whole word, and has shown a key
shown_well : (f : Form) (shown : Option (List ℕ)) (chain off : ℕ) → IsPlaced (On chain off) → IsShown f shown chain off → StandsWell f shown (Some off)
shown_well f shown chain off P S off2 e =
    let same : off ≡ off2 = cc in
    subst (RestsWell f shown) same (record { shown = ap is_some S.shown; above = S.above; aligned = P.0 })

nowhere_well : (f : Form) (shown : Option (List ℕ)) → StandsWell f shown None
nowhere_well f shown off e = absurd (cc e)

place_well : (f : Form) (shown : Option (List ℕ)) (place : Standing) (stage : Stage) → IsPlaced place → RestsAt f shown place stage → StandsWell f shown (spot_of place)
place_well f shown (On chain off) stage P R = shown_well f shown chain off P R.0
place_well f shown (Before chain) stage P R = absurd R
place_well f shown Past stage P R = nowhere_well f shown

after_well : (f : Form) (held : HeldLocks) (x : Own) (w : WalkCommand) (place : Standing) (stage : Stage) (gone : Bool) (n : ℕ) → IsPlaced place → StandsAfter f held x w place stage gone n → StandsWell f x.cursor (spot_of place)
after_well f held x w (On chain off) Rested gone n P S = shown_well f x.cursor chain off P S.0
after_well f held x w (On chain off) Reading gone n P S = shown_well f x.cursor chain off P S.0
after_well f held x w (On chain off) Writing gone n P S = shown_well f x.cursor chain off P S.0
after_well f held x w (On chain off) Freeing gone n P S = shown_well f x.cursor chain off P S.0
after_well f held x w (Before chain) stage gone n P S = nowhere_well f x.cursor
after_well f held x w Past stage gone n P S = nowhere_well f x.cursor

stands_well : (f : Form) (held : HeldLocks) (x : Own) (w : Option WalkCommand) (n : ℕ) (at : At) → IsPlaced at.place → WalkAfter f held x w n at → StandsWell f x.cursor (spot_of at.place)
stands_well f held x None n at P S = place_well f x.cursor at.place at.stage P S
stands_well f held x (Some w) n at P S = after_well f held x w at.place at.stage (is_before at.place) n P S

pub walk_well : (f : Form) (held : HeldLocks) (x : Own) (w : Option WalkCommand) (n : ℕ) (at : At) → WalkStands f held x w n at → StandsWell f x.cursor (spot_of at.place)
walk_well f held x w n at S = stands_well f held x w n at S.placed S.stands
