-- A cursor comes to no record of a chain that another opener has locked for writing, as who is going to purge a record
-- has.
use Rattle.std.proofs.Common.{◌≡◌, ◌≢◌, ℕ, ◌+◌, ◌*◌, ◌≤◌, max, List, Bool, false, Option, None, Some, refl, sym, ◌∙◌, ap, subst, inl, inr, ◌⊎◌, arith, unwrap_or}
use Rattle.std.specs.Prelude.{if◌then◌else◌}
use Rattle.tdb_space.specs.Form.{Form}
use Rattle.tdb_space.specs.Pairs.{home}
use Rattle.tdb_law.specs.Commands.{Command, WalkCommand, Turn as LawTurn, Reply as LawReply}
use Rattle.tdb_law.specs.Commands.Command.{OnWalk}
use Rattle.tdb_words.specs.Header.{sequence_at}
use Rattle.tdb_words.specs.Word.{word}
use Rattle.tdb_locks.specs.HeldLocks.{HeldLocks}
use Rattle.tdb_locks.specs.declared.piece.Piece.{Piece}
use Rattle.tdb_law.specs.Held.{wanted, decided}
use Rattle.tdb_law.specs.Openers.{Own, Map, Spot, View, nowhere}
use Rattle.tdb_law.specs.Refusals.{chain_byte}
use Rattle.tdb_law.specs.Effects.{Effect, IsFree, Stays}
use Rattle.tdb_law.specs.Effects.Effect.{effect_waits, effect_goes_on, effect_changes, effect_answers, effect_shows, effect_starves, effect_is_full, effect_is_busy, effect_numbers, effect_finishes}
use Rattle.tdb_law.specs.Effects.Stays.{stands_nowhere, stands_still, stands_on}
use Rattle.tdb_law.specs.Images.{image_map}
use Rattle.tdb_walk.specs.declared.standing.Standing.{Standing}
use Rattle.tdb_walk.specs.declared.standing.Standing.TheVariants.{On}
use Rattle.tdb_walk.specs.declared.stage.Stage.{Stage}
use Rattle.tdb_walk.specs.Cursors.{At, spot_of}
use Rattle.tdb_walk.specs.Way.{lock_byte}
use Rattle.tdb_walk.specs.InLaw.{CursorTurned, is_dropped, is_close, own_next, spot_in, spot_next, strengths}
use Rattle.tdb_walk.specs.Again.{RestsAt, StandsAgain}
use Rattle.tdb_walk.specs.Apart.{CursorComesApart, PurgerHolds}
use Rattle.tdb_walk.specs.declared.stage.Stage.TheVariants.{Rested, Reading, Writing, Freeing}
use Rattle.tdb_walk.proofs.Explicit.{one_at}
use Rattle.tdb_walk.proofs.Holding.{stage_is}
use Rattle.tdb_walk.proofs.Rows.{never}
use Rattle.tdb_walk.proofs.Lawful.{cursor_is_lawful}
use Rattle.tdb_walk.proofs.Again.{cursor_stands_again}

no_place : {A : Type 0} (off : ℕ) → ◌≡◌ {A = Option ℕ} None (Some off) → A
no_place off e = absurd (cc e)

-- a turn that shows a pair finds what it wants free
pair_free : (f : Form) (free : Type 0) (conflict : ℕ → ℕ → Type 0) (finds : LawReply → Type 0) (number : ℕ) (c : Command) (n : ℕ) (x : Own) (file : Map) (turn : LawTurn) (y : Own) (next : Map)
    → Effect f free conflict finds number c n x file turn y next → (k v : List ℕ) → turn ≡ LawTurn.Ends (LawReply.Pair k v) → free
pair_free f free conflict finds number c n x file turn y next (effect_waits o b e k u s own) key v is = absurd (let bad = sym e ∙ is in cc bad)
pair_free f free conflict finds number c n x file turn y next (effect_goes_on e k u s own) key v is = k
pair_free f free conflict finds number c n x file turn y next (effect_changes e k l u z w s own) key v is = k
pair_free f free conflict finds number c n x file turn y next (effect_answers r e k m q d u w s own) key v is = k
pair_free f free conflict finds number c n x file turn y next (effect_shows r e k m w s own) key v is = k
pair_free f free conflict finds number c n x file turn y next (effect_starves e k u s own) key v is = absurd (let bad = sym e ∙ is in cc bad)
pair_free f free conflict finds number c n x file turn y next (effect_is_full len need e k p q u w s own) key v is = k
pair_free f free conflict finds number c n x file turn y next (effect_is_busy o b e k u s own) key v is = absurd (let bad = sym e ∙ is in cc bad)
pair_free f free conflict finds number c n x file turn y next (effect_numbers q e k u w s own) key v is = k
pair_free f free conflict finds number c n x file turn y next (effect_finishes e k u s own) key v is = k

-- where a chain's byte is held or wanted, no other holds it for writing
reads_apart : (t u : ℕ → ℕ → ℕ) (who : ℕ) (want : ℕ → ℕ) → ((o b : ℕ) → o ≢ who → t who b + t o b ≤ 2) → IsFree t who want → (byte : ℕ) → 1 ≤ max (t who byte) (want byte) → (o : ℕ) → o ≢ who → t o byte ≤ 1
reads_apart t u who want apart F byte some o ne = let one = apart o byte ne in let two = F.free o byte ne in omega (arith, some, one, two)

-- the chain of a record on which a cursor rests is that of the key that it shows
rests_in : (f : Form) (c : Option (List ℕ)) (place : Standing) (stage : Stage) (k : List ℕ) (chain off : ℕ) → RestsAt f c place stage → c ≡ Some k → place ≡ On chain off → home f k ≡ chain
rests_in f c place stage k chain off R shows is =
    let R = subst (λ p. RestsAt f c p stage) is R in
    let same : k ≡ R.0.key = ap (λ o. unwrap_or o k) (sym shows ∙ R.0.shown) in
    ap (home f) same ∙ R.0.filed

module _ (f : Form) (own : HeldLocks) (x : Own) (w : WalkCommand) (at later : At) (gone : Bool) (n who : ℕ) (ps qs : List Piece) (m m2 : Map) (q q2 : ℕ) (v : View) (apart : (o b : ℕ) → o ≢ who → strengths ps who b + strengths ps o b ≤ 2) where
  abbrev Comes : ℕ → ℕ → Type 0
  Comes chain off = (spot_of at.place ≡ Some off) ⊎ ((o : ℕ) → o ≢ who → strengths ps o (lock_byte chain) ≤ 1)

  abbrev Turns : LawTurn → Type 0
  Turns turn = CursorTurned f x (own_next f w n x m turn) w n who (spot_in at gone) (spot_next turn w later) v (strengths ps) (strengths qs) m m2 q q2 turn

  ended : (r : LawReply) → Turns (LawTurn.Ends r) → StandsAgain f own x w later (LawTurn.Ends r) n m → (stays : is_close w ≡ false) (chain off : ℕ) → later.place ≡ On chain off
      → Stays f (strengths ps who) (wanted f (OnWalk w) x (decided (spot_in at gone) v n) v n) x (own_next f w n x m (LawTurn.Ends r)) (spot_in at gone) (spot_next (LawTurn.Ends r) w later) r → Comes chain off
  ended r C S stays chain off is (stands_nowhere none) = no_place off (sym none ∙ there ∙ ap spot_of is)
    where
      there : (if is_close w then nowhere else spot_in later false).stands ≡ spot_of later.place
      there = ap (λ t. (if t then nowhere else spot_in later false).stands) stays
  ended r C S stays chain off is (stands_still out inside same still) = inl (sym still ∙ there ∙ ap spot_of is)
    where
      there : (if is_close w then nowhere else spot_in later false).stands ≡ spot_of later.place
      there = ap (λ t. (if t then nowhere else spot_in later false).stands) stays
  ended r C S stays chain off is (stands_on k value place says out later_own stands above some) =
      let free = pair_free f _ _ _ _ _ _ _ _ _ _ _ C.effect k value (ap LawTurn.Ends says) in
      let filed = rests_in f (own_next f w n x m (LawTurn.Ends r)).cursor later.place later.stage k chain off (S stays) (ap (λ (y : Own). y.cursor) later_own) is in
      inr (λ o ne. subst (λ j. strengths ps o (168 + 4 * j) ≤ 1) filed (reads_apart (strengths ps) (strengths ps) who _ apart free (chain_byte f k) some o ne))

  pub comes_apart : (turn : LawTurn) → Turns turn → StandsAgain f own x w later turn n m → is_dropped turn w ≡ false → (chain off : ℕ) → later.place ≡ On chain off → Comes chain off
  comes_apart LawTurn.Step C S stays chain off is = inl (sym (ap (λ (z : Spot). z.stands) C.leaves_spot) ∙ ap spot_of is)
  comes_apart (LawTurn.Blocked o b) C S stays chain off is = elim C.leaves_spot [
    | inl same ↦ inl (sym (ap (λ (z : Spot). z.stands) same) ∙ ap spot_of is)
    | inr left ↦ no_place off (sym left.2 ∙ ap spot_of is)
  ]
  comes_apart (LawTurn.Ends r) C S stays chain off is = ended r C S stays chain off is C.leaves_spot.0

pub cursor_comes_apart : CursorComesApart
cursor_comes_apart f own x w at later gone n who ps qs a b hands stood_on read_only v did turn tells told B T M O placed says stays chain off is =
    comes_apart f own x w at later gone n who ps qs (image_map f a) (image_map f b) (word f.order a sequence_at) (word f.order b sequence_at) v B.ready.apart turn
    (cursor_is_lawful f own x w at later gone n who ps qs a b hands stood_on read_only v did turn tells told B T M O placed says)
    (cursor_stands_again f own x w at later gone n who ps qs a hands stood_on read_only v did turn tells told B T says) stays chain off is

-- a cursor that is going to purge holds its chain
pub purger_holds : PurgerHolds
purger_holds f own x w chain off Rested n out S due = absurd (never due)
purger_holds f own x w chain off Reading n out S due = absurd (never due)
purger_holds f own x w chain off Writing n out S due =
    let whole = stage_is f own x out w chain off Writing false n S (lock_byte chain) in
    let two = one_at (lock_byte chain) 2 (lock_byte chain) refl in
    omega (arith, whole, two)
purger_holds f own x w chain off Freeing n out S due =
    let whole = stage_is f own x out w chain off Freeing false n S (lock_byte chain) in
    let two = one_at (lock_byte chain) 2 (lock_byte chain) refl in
    omega (arith, whole, two)
