-- What a cursor holds after each turn, and where it stands then, whatever the bytes of the file are.
use Rattle.std.proofs.Common.{◌≡◌, ℕ, ◌+◌, ◌≤◌, true, false, cond, List, Option, Some, is_some, refl, sym, ◌∙◌, ap, subst, inl, inr, ◌⊎◌}
use Rattle.std.specs.Prelude.{◌%◌, IsTrue, unwrap_or}
use Rattle.std.proofs.lemmas.Bool.{cases_Bool}
use Rattle.tdb_space.specs.Form.{Form, data_start}
use Rattle.tdb_locks.specs.HeldLocks.{HeldLocks}
use Rattle.tdb_law.specs.Commands.{WalkCommand, Turn as LawTurn}
use Rattle.tdb_law.specs.Openers.{Own, Map, nowhere}
use Rattle.tdb_walk.specs.declared.standing.Standing.{Standing}
use Rattle.tdb_walk.specs.declared.standing.Standing.TheVariants.{Before, On, Past}
use Rattle.tdb_walk.specs.Cursors.{At, IsPlaced, spot_of}
use Rattle.tdb_walk.specs.InLaw.{IsShown, StandsAfter, is_before, is_close, own_next, spot_in, spot_next}
use Rattle.tdb_walk.specs.Again.{RestsAt, StandsAgain}
use Rattle.tdb_walk.specs.Holds.{CursorHolds}
use Rattle.tdb_walk.proofs.Ahead.{none_some}
use Rattle.tdb_walk.proofs.HeldOn.{shown_of}
use Rattle.tdb_walk.proofs.TurnKinds.{turn_kind}
use Rattle.tdb_walk.proofs.HeldAfter.{kind_held}
use Rattle.tdb_walk.proofs.Parted.{kind_apart}
use Rattle.tdb_walk.proofs.Again.{kind_again}
use Rattle.tdb_walk.proofs.Shown.{turn_shows}

-- a record on which a cursor stands that has shown a key of its chain
stands_well : (f : Form) (c : Option (List ℕ)) (place : Standing) → IsPlaced place → ((chain off : ℕ) → place ≡ On chain off → IsShown f c chain off) → (off : ℕ) → spot_of place ≡ Some off → (is_some c ≡ true) × (data_start f ≤ off) × (off % 4 ≡ 0)
stands_well f c (On chain here) placed shows off is =
    let S = shows chain here refl in
    let same : here ≡ off = ap (λ o. unwrap_or o 0) is in
    (ap is_some S.shown, subst (λ o. data_start f ≤ o) same S.above, subst (λ o. o % 4 ≡ 0) same placed.0)
stands_well f c (Before chain) placed shows off is = absurd (none_some is)
stands_well f c Past placed shows off is = absurd (none_some is)

module _ (f : Form) (own : HeldLocks) (x : Own) (w : WalkCommand) (later : At) (n : ℕ) (m : Map) (placed : IsPlaced later.place) where
  ends_stands : (c : Option (List ℕ)) → (is_close w ≡ false → RestsAt f c later.place later.stage) → (off : ℕ) → (cond (is_close w) nowhere (spot_in later false)).stands ≡ Some off → (is_close w ≡ true) ⊎ (is_close w ≡ false)
      → (is_some c ≡ true) × (data_start f ≤ off) × (off % 4 ≡ 0)
  ends_stands c rests off is (inl closes) = absurd (none_some (sym (ap (λ z. (cond z nowhere (spot_in later false)).stands) closes) ∙ is))
  ends_stands c rests off is (inr stays) =
      stands_well f c later.place placed (λ chain o e. (subst (λ p. RestsAt f c p later.stage) e (rests stays)).0) off (sym (ap (λ z. (cond z nowhere (spot_in later false)).stands) stays) ∙ is)

  turn_stands : (turn : LawTurn) → StandsAgain f own x w later turn n m → (off : ℕ) → (spot_next turn w later).stands ≡ Some off → (is_some (own_next f w n x m turn).cursor ≡ true) × (data_start f ≤ off) × (off % 4 ≡ 0)
  turn_stands LawTurn.Step again off is =
      stands_well f x.cursor later.place placed (λ chain o e. (shown_of f own x w chain o later.stage false (n + 1) (subst (λ p. StandsAfter f own x w p later.stage false (n + 1)) e again)).0) off is
  turn_stands (LawTurn.Blocked o b) again off is =
      stands_well f x.cursor later.place placed (λ chain p e. (shown_of f own x w chain p later.stage false n (subst (λ q. StandsAfter f own x w q later.stage (is_before q) n) e again)).0) off is
  turn_stands (LawTurn.Ends r) again off is = ends_stands (own_next f w n x m (LawTurn.Ends r)).cursor again off is (cases_Bool (is_close w))

pub cursor_holds : CursorHolds
cursor_holds f own x w at later over n who ps qs img stood_on read_only m did turn tells R T O placed says =
    let kind = turn_kind f own x later over n who ps qs img stood_on read_only did (IsTrue tells) w at.place at.stage R T in
    let H = kind_held f own x w later over n who ps qs m at.place at.stage did turn kind R placed says in
    let again = kind_again f own x w later over n who ps qs m turn at.place at.stage did kind R says in
    record {
      row = H.row;
      holds = H.holds;
      apart = kind_apart f own x w later n who ps qs R.apart O at.place at.stage did kind;
      again = again;
      shows = λ stays. turn_shows f x R.outside n m later w turn did stays says (λ r is. subst (λ t. StandsAgain f own x w later t n m) is again stays);
      stands = turn_stands f own x w later n m placed turn again;
    }
