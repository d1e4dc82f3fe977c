-- Who holds no record for writing is about to make no change: a command on the map that may change it is before its
-- first turn, and a cursor isn't going to purge. So is who isn't in the middle of a change.
use Rattle.std.proofs.Common.{◌≡◌, ℕ, List, [], slice_get, Bool, true, false, Some, None, is_none, refl, sym, ◌∙◌, ap, subst, inl, inr, ◌⊎◌, arith}
use Rattle.std.specs.Prelude.{◌&&◌}
use Rattle.std.proofs.lemmas.Bool.{cases_Bool, cases_eq}
use Rattle.tdb_space.specs.Form.{Form}
use Rattle.tdb_locks.specs.HeldLocks.{HeldLocks}
use Rattle.tdb_locks.specs.declared.piece.Piece.{Piece}
use Rattle.tdb_law.specs.Commands.{WalkCommand}
use Rattle.tdb_law.specs.Commands.Command.{OnMap, OnWalk}
use Rattle.tdb_law.specs.Counting.{unsettles_by}
use Rattle.tdb_law.specs.MapCommands.{map_changes, map_touches}
use Rattle.tdb_law.specs.Openers.{Own, Spot}
use Rattle.tdb_law.specs.Refusals.{chain_byte, refusal}
use Rattle.tdb_law.specs.World.{HasFewChains}
use Rattle.tdb_law.proofs.Covered.{touched_held}
use Rattle.tdb_law.proofs.Maps.{is_key-refl}
use Rattle.tdb_steps.specs.declared.plain.Plain.{Plain}
use Rattle.tdb_steps.specs.declared.plain.Plain.TheVariants.{Fetch, Has, Store, Append, Delete, Wipe}
use Rattle.tdb_steps.specs.declared.stage.Stage.TheVariants.{Begun}
use Rattle.tdb_steps.specs.Stages.{IsIdle}
use Rattle.tdb_steps.specs.Order.{IsAfter}
use Rattle.tdb_steps.specs.PlainCommands.{command_of}
use Rattle.tdb_steps.specs.Machines.{Doing, IsQuiet}
use Rattle.tdb_walk.specs.declared.standing.Standing.{Standing}
use Rattle.tdb_walk.specs.declared.standing.Standing.TheVariants.{Before, On, Past}
use Rattle.tdb_walk.specs.declared.stage.Stage.{Stage as CursorStage}
use Rattle.tdb_walk.specs.declared.stage.Stage.TheVariants.{Rested, Reading, Writing, Freeing}
use Rattle.tdb_walk.specs.Cursors.{dead_of}
use Rattle.tdb_walk.specs.InLaw.{StandsAfter, is_purging}
use Rattle.tdb_walk.proofs.Holding.{granted}
use Rattle.tdb_openers.specs.Calm.{WritesNoRecord, IsMidway}
use Rattle.tdb_commands.specs.declared.options.Options.{Options}
use Rattle.tdb_openers.specs.declared.opener.Opener.{Opener}
use Rattle.tdb_openers.specs.States.{WorldStands}
use Rattle.tdb_openers.specs.Turning.{OpenerHolds}
use Rattle.tdb_openers.proofs.Joining.Begun.{begun_stage}
use Rattle.tdb_openers.proofs.PlainTurns.Busy.{store_touches, look_is, touches_is}
use Rattle.tdb_openers.proofs.Walks.Purgers.{purger_locks}

-- a command that may change the map touches a key
touches_some : (command : Plain) → map_changes (command_of command) ≡ true → (k : List ℕ) × (map_touches (command_of command) k ≡ true)
touches_some (Fetch key) e = absurd (cc e)
touches_some (Has key) e = absurd (cc e)
touches_some (Store key value flag) e = (key, store_touches flag key value)
touches_some (Append key value) e = (key, is_key-refl key)
touches_some (Delete key) e = (key, is_key-refl key)
touches_some Wipe e = ([], refl)

begun_quiet : (d : Doing) → d.stage ≡ Begun → IsQuiet d
begun_quiet d e = (subst IsIdle (sym e) tt, λ ends. absurd (let bad = sym e ∙ ends in cc bad))

-- a command on the map that has had n steps
pub plain_calm : (f : Form) → HasFewChains f → (x : Own) (s : Spot) (d : Doing) (n who : ℕ) (ps : List Piece) → is_none x.txn ≡ true → refusal f (OnMap (command_of d.command)) x ≡ None → IsAfter d.command d.stage n
    → OpenerHolds f x s (OnMap (command_of d.command)) n who ps → WritesNoRecord ps who → (map_changes (command_of d.command) ≡ false) ⊎ IsQuiet d
plain_calm f few x s d n who ps out granted is H calm = elim (cases_Bool (map_changes (command_of d.command))) [
  | inr looks ↦ inl looks
  | inl changes ↦ elim (cases_eq n 0) [
    | inl none ↦ inr (begun_quiet d (begun_stage d.command d.stage (subst (IsAfter d.command d.stage) none is)))
    | inr some ↦ absurd (let c = command_of d.command in
        let touched = touches_some d.command changes in
        let before = look_is f c x granted out in
        let two = touched_held f few (OnMap c) x s n touched.0 (touches_is f c x granted out touched.0 touched.1) (omega (arith, before, some)) in
        let all = H.holds (chain_byte f touched.0) in
        let most = calm (chain_byte f touched.0) (omega arith) in
        omega (arith, two, all, most))
  ]
]

-- the cursor of an opener
pub walk_calm : (f : Form) (options : Options) (xs : List Opener) (ps : List Piece) (a : List ℕ) (size who : ℕ) (x : Opener) → WorldStands f options xs ps a size → slice_get xs who ≡ Some x
    → WritesNoRecord ps who → dead_of x.walk.cursor.place x.walk.cursor.stage ≡ None
walk_calm f options xs ps a size who x W there calm = at x.walk.cursor.place x.walk.cursor.stage refl refl
  where
    never : (chain off : ℕ) → x.walk.cursor.place ≡ On chain off → is_purging x.walk.cursor.stage ≡ true → ⊥
    never chain off on due =
        let held = purger_locks f options xs ps a size W who x there chain off on due in
        let two = held.2 in
        let most = calm (chain_byte f held.0) (omega arith) in
        omega (arith, two, most)

    at : (place : Standing) (stage : CursorStage) → x.walk.cursor.place ≡ place → x.walk.cursor.stage ≡ stage → dead_of place stage ≡ None
    at (On chain off) Rested on is = refl
    at (On chain off) Reading on is = refl
    at (On chain off) Writing on is = refl
    at (On chain off) Freeing on is = absurd (never chain off on (ap is_purging is))
    at (Before chain) stage on is = refl
    at Past stage on is = refl

-- a command on the map that isn't in the middle of a change
pub plain_spared : (f : Form) (x : Own) (d : Doing) (n : ℕ) → is_none x.txn ≡ true → refusal f (OnMap (command_of d.command)) x ≡ None → IsAfter d.command d.stage n
    → (IsMidway f x (record { command = OnMap (command_of d.command); steps = n }) → ⊥) → (map_changes (command_of d.command) ≡ false) ⊎ IsQuiet d
plain_spared f x d n out granted is spares = elim (cases_Bool (map_changes (command_of d.command))) [
  | inr looks ↦ inl looks
  | inl changes ↦ elim (cases_eq n 0) [
    | inl none ↦ inr (begun_quiet d (begun_stage d.command d.stage (subst (IsAfter d.command d.stage) none is)))
    | inr some ↦ absurd (let c = command_of d.command in spares (record {
      step = 0;
      taken = omega (arith, some);
      unsettles = ap (λ q. unsettles_by q (OnMap c) x 0) granted ∙ (ap (λ z. z && map_changes c) out ∙ changes);
    }))
  ]
]

-- a command on the cursor that isn't: it has had a step at most, and takes out a dead record only after the second
pub walk_spared : (f : Form) (held : HeldLocks) (x : Own) (w : WalkCommand) (place : Standing) (stage : CursorStage) (gone : Bool) (n : ℕ) → x.txn ≡ None → StandsAfter f held x w place stage gone n
    → (IsMidway f x (record { command = OnWalk w; steps = n }) → ⊥) → dead_of place stage ≡ None
walk_spared f held x w (On chain off) Rested gone n out S spares = refl
walk_spared f held x w (On chain off) Reading gone n out S spares = refl
walk_spared f held x w (On chain off) Writing gone n out S spares = refl
walk_spared f held x w (On chain off) Freeing gone n out S spares = absurd (let two = S.2 in spares (record {
  step = 1;
  taken = omega (arith, two);
  unsettles = ap (λ q. unsettles_by q (OnWalk w) x 1) (granted f w x out);
}))
walk_spared f held x w (Before chain) stage gone n out S spares = refl
walk_spared f held x w Past stage gone n out S spares = refl
