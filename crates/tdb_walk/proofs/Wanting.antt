-- What the next turn of a cursor wants, and which conflict blocks it.
use Rattle.std.proofs.Common.{◌≡◌, ◌≢◌, ℕ, ◌+◌, ◌*◌, ◌<◌, ◌≤◌, max, List, Bool, true, false, cond, ◌==◌, Option, Some, None, is_some, is_none, refl, sym, ◌∙◌, ap, subst, inl, inr, ◌⊎◌, arith}
use Rattle.std.specs.Prelude.{◌&&◌, if◌then◌else◌}
use Rattle.std.proofs.lemmas.Bool.{cases_eq}
use Rattle.tdb_space.specs.Form.{Form}
use Rattle.tdb_space.specs.Pairs.{home}
use Rattle.tdb_locks.specs.LockTable.{held, Conflicts, IsFirstConflict as IsFirstIn, IsFree as IsFreeIn}
use Rattle.tdb_locks.specs.declared.kind.Kind.{Kind}
use Rattle.tdb_locks.specs.declared.piece.Piece.{Piece}
use Rattle.tdb_locks.proofs.Strengths.{strength, strength-le, strength-free, kinds_conflict-strength, strength-kinds_conflict}
use Rattle.tdb_law.specs.Commands.{WalkCommand}
use Rattle.tdb_law.specs.Commands.WalkCommand.{First, Next, EndWalk, Close}
use Rattle.tdb_law.specs.Commands.Command.{OnWalk}
use Rattle.tdb_law.specs.Openers.{Own, Spot, View}
use Rattle.tdb_law.specs.Refusals.{chain_byte}
use Rattle.tdb_law.specs.Rows.{walk_locks}
use Rattle.tdb_law.specs.Outcomes.{moves_by, moves, walk_moves}
use Rattle.tdb_law.specs.Held.{locked_next, decided, move_turn, is_chain, wanted}
use Rattle.tdb_law.specs.Effects.{IsFree, IsFirstConflict}
use Rattle.tdb_walk.specs.declared.standing.Standing.TheVariants.{On}
use Rattle.tdb_walk.specs.declared.stage.Stage.{Stage}
use Rattle.tdb_walk.specs.declared.stage.Stage.TheVariants.{Rested, Reading, Writing, Freeing}
use Rattle.tdb_walk.specs.Way.{lock_byte}
use Rattle.tdb_walk.specs.Cursors.{free_byte}
use Rattle.tdb_walk.specs.InLaw.{IsShown, spot_in, strengths}
use Rattle.tdb_walk.proofs.Explicit.{one, one_at, one_off}
use Rattle.tdb_walk.proofs.Holding.{granted, locks_are, purge_locks}

-- a test as a strength
abbrev pub bit : Bool → ℕ
bit z = if z then 1 else 0

-- the chains on the way of a move
abbrev pub on_way : Form → View → ℕ → ℕ
on_way f v b = if is_chain f b && v.way b then 1 else 0

pub moves_are : (f : Form) (w : WalkCommand) (x : Own) → x.txn ≡ None → moves f (OnWalk w) x ≡ walk_moves w x
moves_are f w x outside = ap (λ q. moves_by q (OnWalk w) x) (granted f w x outside)

pub wanted_is : (f : Form) (w : WalkCommand) (x : Own) (a : Spot) (v : View) (n b : ℕ) → x.txn ≡ None
    → wanted f (OnWalk w) x a v n b ≡ max (cond a.gone 0 (locked_next (walk_locks f w x.cursor a.purging) n b)) (bit ((walk_moves w x && cond a.gone true (n == move_turn w a.purging x.cursor)) && (is_chain f b && v.way b)))
unfolding wanted
wanted_is f w x a v n b outside =
    λ i. max (cond a.gone 0 (locked_next (locks_are f w x a.purging outside i) n b)) (bit ((moves_are f w x outside i && cond a.gone true (n == move_turn w a.purging x.cursor)) && (is_none (outside i) && (is_chain f b && v.way b))))

-- where the next turn isn't a move
no_move : (m z y : Bool) → z ≡ false → bit ((m && z) && y) ≡ 0
no_move true z y e = ap (λ u. bit (u && y)) e
no_move false z y e = refl

no_walk : (z y : Bool) → bit ((false && z) && y) ≡ 0
no_walk z y = refl

a_move : (m z y : Bool) → m ≡ true → z ≡ true → bit ((m && z) && y) ≡ bit y
a_move m z y e d = λ i. bit ((e i && d i) && y)

purge_zero : (w : WalkCommand) (key : List ℕ) → (0 == move_turn w true (Some key)) ≡ false
purge_zero First key = refl
purge_zero Next key = refl
purge_zero EndWalk key = refl
purge_zero Close key = refl

purge_one : (w : WalkCommand) (key : List ℕ) → (1 == move_turn w true (Some key)) ≡ false
purge_one First key = refl
purge_one Next key = refl
purge_one EndWalk key = refl
purge_one Close key = refl

purge_two : (w : WalkCommand) (key : List ℕ) → (2 == move_turn w true (Some key)) ≡ true
purge_two First key = refl
purge_two Next key = refl
purge_two EndWalk key = refl
purge_two Close key = refl

pub new_first : (z : Bool) → (0 == move_turn First z None) ≡ true
new_first true = refl
new_first false = refl

module _ (f : Form) (x : Own) (outside : x.txn ≡ None) (v : View) (chain off : ℕ) where
  abbrev spot : Stage → Bool → Spot
  spot stage over = spot_in (record { place = On chain off; stage = stage }) over

  at_key : (key : List ℕ) → home f key ≡ chain → (s b : ℕ) → one (chain_byte f key) s b ≡ one (lock_byte chain) s b
  at_key key filed s b = ap (λ c. one (168 + 4 * c) s b) filed

  -- on a record: a lock of its chain, of the free list, or the way
  pub want_chain : (w : WalkCommand) (over : Bool) (n : ℕ) → IsShown f x.cursor chain off → over ≡ false → n ≡ 0 → v.must ≡ true → (b : ℕ) → wanted f (OnWalk w) x (decided (spot Rested over) v n) v n b ≡ one (lock_byte chain) 2 b
  want_chain w over n S isnt steps must b =
      let is = wanted_is f w x (decided (spot Rested over) v n) v n b outside in
      let row : cond over 0 (locked_next (walk_locks f w x.cursor (cond (n == 0) v.must false)) n b) ≡ one (lock_byte chain) 2 b =
      (λ i. cond (isnt i) 0 (locked_next (walk_locks f w (S.shown i) (cond (steps i == 0) (must i) false)) (steps i) b)) ∙ ap (λ ls. locked_next ls 0 b) (purge_locks f w S.key) ∙ omega arith ∙ at_key S.key S.filed 2 b in
      let still : bit ((walk_moves w x && cond over true (n == move_turn w (cond (n == 0) v.must false) x.cursor)) && (is_chain f b && v.way b)) ≡ 0 =
      (λ i. bit ((walk_moves w x && cond (isnt i) true (steps i == move_turn w (cond (steps i == 0) (must i) false) (S.shown i))) && (is_chain f b && v.way b))) ∙ no_move (walk_moves w x) (0 == move_turn w true (Some S.key)) (is_chain f b && v.way b) (purge_zero w S.key) in
      omega (arith, is, row, still)

  pub want_read : (over : Bool) (n : ℕ) → IsShown f x.cursor chain off → over ≡ false → n ≡ 0 → v.must ≡ false → (b : ℕ) → wanted f (OnWalk Next) x (decided (spot Rested over) v n) v n b ≡ one (lock_byte chain) 1 b
  want_read over n S isnt steps must b =
      let is = wanted_is f Next x (decided (spot Rested over) v n) v n b outside in
      let row : cond over 0 (locked_next (walk_locks f Next x.cursor (cond (n == 0) v.must false)) n b) ≡ one (lock_byte chain) 1 b =
      (λ i. cond (isnt i) 0 (locked_next (walk_locks f Next (S.shown i) (cond (steps i == 0) (must i) false)) (steps i) b)) ∙ omega arith ∙ at_key S.key S.filed 1 b in
      let still : bit ((is_some x.cursor && cond over true (n == move_turn Next (cond (n == 0) v.must false) x.cursor)) && (is_chain f b && v.way b)) ≡ 0 =
      (λ i. bit ((is_some (S.shown i) && cond (isnt i) true (steps i == move_turn Next (cond (steps i == 0) (must i) false) (S.shown i))) && (is_chain f b && v.way b))) in
      omega (arith, is, row, still)

  pub want_free : (w : WalkCommand) (over : Bool) (n : ℕ) → IsShown f x.cursor chain off → over ≡ false → n ≡ 1 → (b : ℕ) → wanted f (OnWalk w) x (decided (spot Writing over) v n) v n b ≡ one free_byte 2 b
  want_free w over n S isnt steps b =
      let is = wanted_is f w x (decided (spot Writing over) v n) v n b outside in
      let row : cond over 0 (locked_next (walk_locks f w x.cursor (cond (n == 0) v.must true)) n b) ≡ one free_byte 2 b =
      (λ i. cond (isnt i) 0 (locked_next (walk_locks f w (S.shown i) (cond (steps i == 0) v.must true)) (steps i) b)) ∙ ap (λ ls. locked_next ls 1 b) (purge_locks f w S.key) ∙ omega arith in
      let still : bit ((walk_moves w x && cond over true (n == move_turn w (cond (n == 0) v.must true) x.cursor)) && (is_chain f b && v.way b)) ≡ 0 =
      (λ i. bit ((walk_moves w x && cond (isnt i) true (steps i == move_turn w (cond (steps i == 0) v.must true) (S.shown i))) && (is_chain f b && v.way b))) ∙ no_move (walk_moves w x) (1 == move_turn w true (Some S.key)) (is_chain f b && v.way b) (purge_one w S.key) in
      omega (arith, is, row, still)

  pub want_next : (over : Bool) (n : ℕ) → IsShown f x.cursor chain off → over ≡ false → n ≡ 1 → (b : ℕ) → wanted f (OnWalk Next) x (decided (spot Reading over) v n) v n b ≡ on_way f v b
  want_next over n S isnt steps b =
      let is = wanted_is f Next x (decided (spot Reading over) v n) v n b outside in
      let row : cond over 0 (locked_next (walk_locks f Next x.cursor (cond (n == 0) v.must false)) n b) ≡ 0 =
      (λ i. cond (isnt i) 0 (locked_next (walk_locks f Next (S.shown i) (cond (steps i == 0) v.must false)) (steps i) b)) ∙ omega arith in
      let still : bit ((is_some x.cursor && cond over true (n == move_turn Next (cond (n == 0) v.must false) x.cursor)) && (is_chain f b && v.way b)) ≡ on_way f v b =
      (λ i. bit ((is_some (S.shown i) && cond (isnt i) true (steps i == move_turn Next (cond (steps i == 0) v.must false) (S.shown i))) && (is_chain f b && v.way b))) in
      omega (arith, is, row, still)

  pub want_first : (over : Bool) (n : ℕ) → IsShown f x.cursor chain off → over ≡ false → n ≡ 0 → v.must ≡ false → (b : ℕ) → wanted f (OnWalk First) x (decided (spot Rested over) v n) v n b ≡ on_way f v b
  want_first over n S isnt steps must b =
      let is = wanted_is f First x (decided (spot Rested over) v n) v n b outside in
      let row : cond over 0 (locked_next (walk_locks f First x.cursor (cond (n == 0) v.must false)) n b) ≡ 0 =
      (λ i. cond (isnt i) 0 (locked_next (walk_locks f First (S.shown i) (cond (steps i == 0) (must i) false)) (steps i) b)) in
      let still : bit (cond over true (n == move_turn First (cond (n == 0) v.must false) x.cursor) && (is_chain f b && v.way b)) ≡ on_way f v b =
      (λ i. bit (cond (isnt i) true (steps i == move_turn First (cond (steps i == 0) (must i) false) (S.shown i)) && (is_chain f b && v.way b))) in
      omega (arith, is, row, still)

  -- after both locks of a purge: the way where the command moves, and else nothing
  pub want_purged : (w : WalkCommand) (over : Bool) (n : ℕ) → IsShown f x.cursor chain off → over ≡ false → n ≡ 2 → (b : ℕ) → wanted f (OnWalk w) x (decided (spot Freeing over) v n) v n b ≡ cond (walk_moves w x) (on_way f v b) 0
  want_purged w over n S isnt steps b =
      let is = wanted_is f w x (decided (spot Freeing over) v n) v n b outside in
      let row : cond over 0 (locked_next (walk_locks f w x.cursor (cond (n == 0) v.must true)) n b) ≡ 0 =
      (λ i. cond (isnt i) 0 (locked_next (walk_locks f w (S.shown i) (cond (steps i == 0) v.must true)) (steps i) b)) ∙ ap (λ ls. locked_next ls 2 b) (purge_locks f w S.key) ∙ omega arith in
      let still : bit ((walk_moves w x && cond over true (n == move_turn w (cond (n == 0) v.must true) x.cursor)) && (is_chain f b && v.way b)) ≡ cond (walk_moves w x) (on_way f v b) 0 =
      (λ i. bit ((walk_moves w x && cond (isnt i) true (steps i == move_turn w (cond (steps i == 0) v.must true) (S.shown i))) && (is_chain f b && v.way b)))
      ∙ ap (λ z. bit ((walk_moves w x && z) && (is_chain f b && v.way b))) (purge_two w S.key) ∙ chosen (walk_moves w x) in
      omega (arith, is, row, still)
    where
      chosen : (m : Bool) → bit ((m && true) && (is_chain f b && v.way b)) ≡ cond m (on_way f v b) 0
      chosen true = refl
      chosen false = refl

  -- a leave that has nothing to purge wants nothing
  pub want_end : (over : Bool) (n : ℕ) → IsShown f x.cursor chain off → over ≡ false → n ≡ 0 → v.must ≡ false → (b : ℕ) → wanted f (OnWalk EndWalk) x (decided (spot Rested over) v n) v n b ≡ 0
  want_end over n S isnt steps must b =
      let is = wanted_is f EndWalk x (decided (spot Rested over) v n) v n b outside in
      let row : cond over 0 (locked_next (walk_locks f EndWalk x.cursor (cond (n == 0) v.must false)) n b) ≡ 0 =
      (λ i. cond (isnt i) 0 (locked_next (walk_locks f EndWalk (S.shown i) (cond (steps i == 0) (must i) false)) (steps i) b)) in
      omega (arith, is, row)

  pub want_close : (over : Bool) (n : ℕ) → IsShown f x.cursor chain off → over ≡ false → n ≡ 0 → v.must ≡ false → (b : ℕ) → wanted f (OnWalk Close) x (decided (spot Rested over) v n) v n b ≡ 0
  want_close over n S isnt steps must b =
      let is = wanted_is f Close x (decided (spot Rested over) v n) v n b outside in
      let row : cond over 0 (locked_next (walk_locks f Close x.cursor (cond (n == 0) v.must false)) n b) ≡ 0 =
      (λ i. cond (isnt i) 0 (locked_next (walk_locks f Close (S.shown i) (cond (steps i == 0) (must i) false)) (steps i) b)) in
      omega (arith, is, row)

-- elsewhere: a move that was blocked goes on, and First begins
pub want_gone : (f : Form) (w : WalkCommand) (x : Own) (a : Spot) (v : View) (n b : ℕ) → x.txn ≡ None → a.gone ≡ true → walk_moves w x ≡ true → wanted f (OnWalk w) x (decided a v n) v n b ≡ on_way f v b
want_gone f w x a v n b outside over moved =
    let is = wanted_is f w x (decided a v n) v n b outside in
    let row : cond a.gone 0 (locked_next (walk_locks f w x.cursor (cond (n == 0) v.must a.purging)) n b) ≡ 0 = ap (λ z. cond z 0 (locked_next (walk_locks f w x.cursor (cond (n == 0) v.must a.purging)) n b)) over in
    let still : bit ((walk_moves w x && cond a.gone true (n == move_turn w (cond (n == 0) v.must a.purging) x.cursor)) && (is_chain f b && v.way b)) ≡ on_way f v b =
    (λ i. bit ((moved i && cond (over i) true (n == move_turn w (cond (n == 0) v.must a.purging) x.cursor)) && (is_chain f b && v.way b))) in
    omega (arith, is, row, still)

pub want_new : (f : Form) (x : Own) (a : Spot) (v : View) (n b : ℕ) → x.txn ≡ None → x.cursor ≡ None → a.gone ≡ false → n ≡ 0 → wanted f (OnWalk First) x (decided a v n) v n b ≡ on_way f v b
want_new f x a v n b outside nothing isnt steps =
    let is = wanted_is f First x (decided a v n) v n b outside in
    let row : cond a.gone 0 (locked_next (walk_locks f First x.cursor (cond (n == 0) v.must a.purging)) n b) ≡ 0 =
    (λ i. cond (isnt i) 0 (locked_next (walk_locks f First (nothing i) (cond (steps i == 0) v.must a.purging)) (steps i) b)) in
    let still : bit (cond a.gone true (n == move_turn First (cond (n == 0) v.must a.purging) x.cursor) && (is_chain f b && v.way b)) ≡ on_way f v b =
    (λ i. bit (cond (isnt i) true (steps i == move_turn First (cond (steps i == 0) v.must a.purging) (nothing i)) && (is_chain f b && v.way b)))
    ∙ ap (λ z. bit (z && (is_chain f b && v.way b))) (new_first v.must) in
    omega (arith, is, row, still)

-- Which conflict stands in the way of one byte, or none.
module _ (ps : List Piece) (who byte : ℕ) (kind : Kind) (want : ℕ → ℕ) (is : (b : ℕ) → want b ≡ one byte (strength (Some kind)) b) where
  free_here : ((p : ℕ) → p ≢ who → strength (Some kind) + strengths ps p byte ≤ 2) → IsFree (strengths ps) who want
  free_here room = record { free = λ p b differs. room_at p b differs }
    where
      room_at : (p b : ℕ) → p ≢ who → want b + strengths ps p b ≤ 2
      room_at p b differs = elim (cases_eq b byte) [
        | inl here ↦
            let same = is b in
            let at = one_at byte (strength (Some kind)) b here in
            let room_there : strength (Some kind) + strengths ps p b ≤ 2 = subst (λ z. strength (Some kind) + strengths ps p z ≤ 2) (sym here) (room p differs) in
            omega (arith, same, at, room_there)
        | inr apart ↦
            let same = is b in
            let off = one_off byte (strength (Some kind)) b apart in
            let most = strength-le (held ps (p + 1) b) in
            omega (arith, same, off, most)
      ]

  -- where no other holds it in conflict
  pub free_one : IsFreeIn ps (who + 1) byte (byte + 1) kind → IsFree (strengths ps) who want
  free_one F = free_here (λ p differs. (let room = strength-free ps (who + 1) byte (byte + 1) kind F (p + 1) byte (λ e. differs (omega (arith, e))) (omega arith) (omega arith) in omega (arith, room)))

  -- where the opener itself holds as much
  pub free_covered : strength (Some kind) ≤ strengths ps who byte → ((p b : ℕ) → p ≢ who → strengths ps who b + strengths ps p b ≤ 2) → IsFree (strengths ps) who want
  free_covered enough apart = free_here (λ p differs. (let room = apart p byte differs in omega (arith, room, enough)))

  first_sooner : (o at : ℕ) (found : Kind) → IsFirstIn ps (who + 1) byte (byte + 1) kind (o + 1) at found → (p b : ℕ) (k : Option Kind) → held ps (p + 1) b ≡ k → p ≢ who → 2 < want b + strengths ps p b → (at < b) ⊎ ((at ≡ b) × (o ≤ p))
  first_sooner o at found F p b None holds differs more =
      let none : strengths ps p b ≡ 0 = ap strength holds in
      let most = strength-le (Some kind) in
      let same = is b in
      absurd (elim (cases_eq b byte) [
        | inl here ↦ let at_byte = one_at byte (strength (Some kind)) b here in omega (arith, more, none, most, same, at_byte)
        | inr apart ↦ let off = one_off byte (strength (Some kind)) b apart in omega (arith, more, none, same, off)
      ])
  first_sooner o at found F p b (Some k) holds differs more =
      let there : strengths ps p b ≡ strength (Some k) = ap strength holds in
      let most = strength-le (Some k) in
      let same = is b in
      elim (cases_eq b byte) [
        | inl here ↦
            let at_byte = one_at byte (strength (Some kind)) b here in
            let clash : Conflicts ps (who + 1) byte (byte + 1) kind (p + 1) b k =
            record { other_owner = λ e. differs (omega (arith, e)); from_start = omega (arith, here); before_end = omega (arith, here); holds = holds; writes = strength-kinds_conflict k kind (omega (arith, more, there, same, at_byte)) } in
            elim (F.least (p + 1) b k clash) [ inl sooner ↦ inl sooner | inr first ↦ inr (first.0, let less = first.1 in omega (arith, less)) ]
        | inr apart ↦ let off = one_off byte (strength (Some kind)) b apart in absurd (omega (arith, more, there, most, same, off))
      ]

  pub first_one : (o at : ℕ) (found : Kind) → IsFirstIn ps (who + 1) byte (byte + 1) kind (o + 1) at found → IsFirstConflict (strengths ps) who want o at
  first_one o at found F = record {
    other = λ e. F.conflict.other_owner (omega (arith, e));
    conflict = strong;
    least = λ p b differs more. first_sooner o at found F p b (held ps (p + 1) b) refl differs more;
  }
    where
      here : at ≡ byte
      here = let low = F.conflict.from_start in let high = F.conflict.before_end in omega (arith, low, high)

      strong : 2 < want at + strengths ps o at
      strong = let both = kinds_conflict-strength found kind F.conflict.writes in let same = is at in let at_byte = one_at byte (strength (Some kind)) at here in let there : strengths ps o at ≡ strength (Some found) = ap strength F.conflict.holds in omega (arith, both, same, at_byte, there)
