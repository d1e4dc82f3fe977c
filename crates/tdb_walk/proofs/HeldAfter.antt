-- The row of each turn of a cursor, and what its opener holds after it, whatever the bytes of the file are.
use Rattle.std.proofs.Common.{◌≡◌, ℕ, ◌+◌, ◌<◌, ◌≤◌, max, Bool, true, false, cond, ◌==◌, nat_lt, List, Option, Some, None, is_some, refl, sym, ◌∙◌, ap, subst, inl, inr, ◌⊎◌, arith}
use Rattle.std.specs.Prelude.{◌&&◌, if◌then◌else◌, unwrap_or}
use Rattle.std.specs.FinMap.{empty, get, get-empty}
use Rattle.std.specs.Ordering.{nat_cmp}
use Rattle.std.proofs.lemmas.Bool.{eq-eqb}
use Rattle.tdb_space.specs.Form.{Form, data_start}
use Rattle.tdb_space.specs.Pairs.{home}
use Rattle.tdb_locks.specs.HeldLocks.{HeldLocks}
use Rattle.tdb_locks.specs.LockTable.{held}
use Rattle.tdb_locks.specs.declared.kind.Kind.TheVariants.{Read}
use Rattle.tdb_locks.specs.declared.piece.Piece.{Piece}
use Rattle.tdb_locks.specs.declared.turn.Reply.{Reply}
use Rattle.tdb_locks.specs.declared.turn.Turn.{Turn}
use Rattle.tdb_locks.proofs.Strengths.{strength}
use Rattle.tdb_law.specs.Commands.{WalkCommand, Turn as LawTurn, Reply as LawReply}
use Rattle.tdb_law.specs.Commands.WalkCommand.{First, Next, EndWalk, Close}
use Rattle.tdb_law.specs.Commands.Command.{OnWalk}
use Rattle.tdb_law.specs.Openers.{Own, Map, closed, nowhere}
use Rattle.tdb_law.specs.Rows.{all_end, walk_locks}
use Rattle.tdb_law.specs.Ends.{IsRow, walk_ends, last_step}
use Rattle.tdb_law.specs.Outcomes.{walk_moves, own_spared}
use Rattle.tdb_law.specs.Held.{explicit_held, stand_held, holding, locked}
use Rattle.tdb_law.specs.Effects.{task_left}
use Rattle.tdb_walk.specs.declared.standing.Standing.{Standing}
use Rattle.tdb_walk.specs.declared.standing.Standing.TheVariants.{Before, On, Past}
use Rattle.tdb_walk.specs.declared.stage.Stage.{Stage}
use Rattle.tdb_walk.specs.declared.stage.StepLock.{StepLock}
use Rattle.tdb_walk.specs.ByteLocks.{with_byte, reads_all}
use Rattle.tdb_walk.specs.Cursors.{At, IsPlaced, LeaveLed, LockLed, WentTo, rested, spot_of, dead_of, let_go, byte_of, kind_of, covers, stage_of, spared_of, held_locked, held_moved}
use Rattle.tdb_walk.specs.Cursors.LeaveLed.{leaves, cannot}
use Rattle.tdb_walk.specs.Cursors.WentTo.{arrives, held_up, halts, finishes, lacks}
use Rattle.tdb_walk.specs.InLaw.{CursorReady, IsReply, IsTurn, StandsAfter, goal_of, is_before, is_close, is_purging, spot_in, spot_next, held_next, own_next, strengths}
use Rattle.tdb_walk.proofs.Explicit.{one, stand_is, taken, covers_record, bare_record}
use Rattle.tdb_walk.proofs.Holding.{stage_held, stage_is, holding_is, resting_is}
use Rattle.tdb_walk.proofs.Rows.{own_is, row_step, row_end, row_memory, starves_moving, starves_on, moves_close, walked_moving, spared_moving, ends_last}
use Rattle.tdb_walk.proofs.HeldOn.{LockFits, holds_now, isnt, last_two, left_for, come_for, some}
use Rattle.tdb_walk.proofs.TurnKinds.{TurnKind}
use Rattle.tdb_walk.proofs.TurnKinds.TurnKind.{kind_locks, kind_moves, kind_leaves}

-- the commands that move, and those that leave
pub data WalkKind (w : WalkCommand) (x : Own) : Type 0 where
  walk_goes : walk_moves w x ≡ true → ((place : Standing) → spared_of (goal_of w) place ≡ Past) → WalkKind w x
  walk_leaves : w ≡ EndWalk → WalkKind w x
  walk_closes : w ≡ Close → WalkKind w x

pub walk_kind : (w : WalkCommand) (x : Own) → is_some x.cursor ≡ true → WalkKind w x
walk_kind First x has = walk_goes refl (λ place. refl)
walk_kind Next x has = walk_goes has (λ place. refl)
walk_kind EndWalk x has = walk_leaves refl
walk_kind Close x has = walk_closes refl

pub memory_reply : (reply : Reply) (r : LawReply) → reply ≡ Reply.Memory → IsReply reply r → r ≡ LawReply.Memory
memory_reply reply r e is = subst (λ q. IsReply q r) e is

-- who has closed holds nothing
off_none : (c : Bool) → max (if c && false then 2 else 0) 0 ≡ 0
off_none true = omega arith
off_none false = omega arith

closed_holds : (f : Form) (x : Own) (z : ℕ) → holding f (closed x) nowhere None z ≡ 0
closed_holds f x z =
    let is = resting_is f (closed x) nowhere z refl in
    let e : get (empty {X = ℕ} {R = nat_cmp}) z ≡ None = get-empty nat_cmp z in
    let none : explicit_held f (closed x) z ≡ 0 = (λ i. max (if nat_lt z (data_start f) && nat_lt 0 (unwrap_or (e i) 0) then 2 else 0) 0) ∙ off_none (nat_lt z (data_start f)) in
    omega (arith, is, none)

-- the row of a turn, and what its opener holds after it
pub record RowHeld (f : Form) (x : Own) (w : WalkCommand) (n who : ℕ) (qs : List Piece) (m : Map) (later : At) (turn : LawTurn) : Type 0 where
  pub row : IsRow f (OnWalk w) x n turn
  pub holds : (z : ℕ) → held_next turn w (strengths qs who z) ≡ holding f (own_next f w n x m turn) (spot_next turn w later) (task_left (OnWalk w) n turn) z

module _ (f : Form) (x : Own) (outside : x.txn ≡ None) (n who : ℕ) (qs : List Piece) (m : Map) where
  abbrev HeldTo : WalkCommand → At → LawTurn → Type 0
  HeldTo w later turn = RowHeld f x w n who qs m later turn

  -- no memory for a leave: the cursor stands where it stood
  spared_held : (chain off : ℕ) → is_some x.cursor ≡ true → n ≤ last_step f (OnWalk EndWalk) x → ((z : ℕ) → strengths qs who z ≡ max (one off 1 z) (explicit_held f x z)) → HeldTo EndWalk (rested (On chain off)) (LawTurn.Ends LawReply.Memory)
  spared_held chain off some low holds = record {
    row = row_memory f EndWalk x n outside (starves_on f EndWalk x outside some) low;
    holds = λ z. (let now = holds z in let after_it = resting_is f x (spot_in (rested (On chain off)) false) z outside in let stand = stand_is off z in omega (arith, now, after_it, stand));
  }

  spared_close : (later : At) → is_some x.cursor ≡ true → n ≤ last_step f (OnWalk Close) x → HeldTo Close later (LawTurn.Ends LawReply.Memory)
  spared_close later some low = record { row = row_memory f Close x n outside (starves_on f Close x outside some) low; holds = λ z. sym (closed_holds f x z) }

  -- a leave ends
  end_held : walk_ends EndWalk x.cursor n ≡ true → ((z : ℕ) → strengths qs who z ≡ explicit_held f x z) → HeldTo EndWalk (rested Past) (LawTurn.Ends LawReply.Done)
  end_held ending holds = record {
    row = row_end f EndWalk x outside n LawReply.Done ending;
    holds = λ z.
        (let now = holds z in
        let after_it : holding f (own_next f EndWalk n x m (LawTurn.Ends LawReply.Done)) (spot_in (rested Past) false) None z ≡ max (explicit_held f x z) (stand_held None z) =
        (λ i. holding f (own_is f EndWalk x outside n LawReply.Done m i) (spot_in (rested Past) false) None z) ∙ resting_is f (record x { cursor = None }) (spot_in (rested Past) false) z outside in
        omega (arith, now, after_it));
  }

  close_held : (later : At) → walk_ends Close x.cursor n ≡ true → HeldTo Close later (LawTurn.Ends LawReply.Done)
  close_held later ending = record { row = row_end f Close x outside n LawReply.Done ending; holds = λ z. sym ((λ i. holding f (own_is f Close x outside n LawReply.Done m i) nowhere None z) ∙ closed_holds f x z) }

  -- a move
  module _ (w : WalkCommand) (moving : walk_moves w x ≡ true) where
    not_close : is_close w ≡ false
    not_close = moves_close w x moving

    spot_is : (place : Standing) (r : LawReply) → spot_next (LawTurn.Ends r) w (rested place) ≡ spot_in (rested place) false
    spot_is place r = ap (λ c. cond c nowhere (spot_in (rested place) false)) not_close

    held_is : (s : ℕ) (r : LawReply) → held_next (LawTurn.Ends r) w s ≡ s
    held_is s r = ap (λ c. cond c 0 s) not_close

    resting : (y : Own) (cursor : Option (List ℕ)) (place : Standing) (r : LawReply) → y ≡ record x { cursor = cursor } → (z : ℕ)
        → holding f y (spot_next (LawTurn.Ends r) w (rested place)) None z ≡ max (explicit_held f x z) (stand_held (spot_of place) z)
    resting y cursor place r is z = (λ i. holding f (is i) (spot_is place r i) None z) ∙ resting_is f (record x { cursor = cursor }) (spot_in (rested place) false) z outside

    starves_held : n ≤ last_step f (OnWalk w) x → ((z : ℕ) → strengths qs who z ≡ explicit_held f x z) → HeldTo w (rested Past) (LawTurn.Ends LawReply.Memory)
    starves_held low holds = record {
      row = row_memory f w x n outside (starves_moving f w x outside moving) low;
      holds = λ z.
          (let now = holds z in
          let is = held_is (strengths qs who z) LawReply.Memory in
          let after_it = resting (own_spared (OnWalk w) x) None Past LawReply.Memory (spared_moving w x moving) z in
          omega (arith, now, is, after_it));
    }

    shows_held : (chain off : ℕ) (key value : List ℕ) → walk_ends w x.cursor n ≡ true → ((z : ℕ) → strengths qs who z ≡ max (one off 1 z) (explicit_held f x z)) → HeldTo w (rested (On chain off)) (LawTurn.Ends (LawReply.Pair key value))
    shows_held chain off key value ending holds = record {
      row = row_end f w x outside n (LawReply.Pair key value) ending;
      holds = λ z.
          (let now = holds z in
          let is = held_is (strengths qs who z) (LawReply.Pair key value) in
          let own_shown = own_is f w x outside n (LawReply.Pair key value) m ∙ walked_moving w x (LawReply.Pair key value) moving in
          let after_it = resting (own_next f w n x m (LawTurn.Ends (LawReply.Pair key value))) (Some key) (On chain off) (LawReply.Pair key value) own_shown z in
          let stand = stand_is off z in
          omega (arith, now, is, after_it, stand));
    }

    finishes_held : walk_ends w x.cursor n ≡ true → ((z : ℕ) → strengths qs who z ≡ explicit_held f x z) → HeldTo w (rested Past) (LawTurn.Ends LawReply.End)
    finishes_held ending holds = record {
      row = row_end f w x outside n LawReply.End ending;
      holds = λ z.
          (let now = holds z in
          let is = held_is (strengths qs who z) LawReply.End in
          let ended = own_is f w x outside n LawReply.End m ∙ walked_moving w x LawReply.End moving in
          let after_it = resting (own_next f w n x m (LawTurn.Ends LawReply.End)) None Past LawReply.End ended z in
          omega (arith, now, is, after_it));
    }

    halts_held : (chain o byte : ℕ) → ((z : ℕ) → strengths qs who z ≡ explicit_held f x z) → HeldTo w (rested (Before chain)) (LawTurn.Blocked o byte)
    halts_held chain o byte holds = record {
      row = refl;
      holds = λ z. (let now = holds z in let after_it = holding_is f w x (spot_in (rested (Before chain)) true) n z outside in omega (arith, now, after_it));
    }

module _ (f : Form) (own : HeldLocks) (x : Own) (w : WalkCommand) (later : At) (over : Bool) (n who : ℕ) (ps qs : List Piece) (m : Map) where
  abbrev at_ : Standing → Stage → At
  at_ place stage = record { place = place; stage = stage }

  abbrev Ready : Standing → Stage → Type 0
  Ready place stage = CursorReady f own x w (at_ place stage) over n who ps

  abbrev Held_ : At → LawTurn → Type 0
  Held_ l turn = RowHeld f x w n who qs m l turn

  carried : (l : At) (turn turn2 : LawTurn) → later ≡ l → turn ≡ turn2 → Held_ l turn2 → Held_ later turn
  carried l turn turn2 is says done = subst (λ k. Held_ k turn) (sym is) (subst (λ t. Held_ l t) (sym says) done)

  -- off every record nothing but the explicit locks is held
  bare_held : (place : Standing) (stage : Stage) → spot_of place ≡ None → ((over ≡ true) ⊎ ((over ≡ false) × (x.cursor ≡ None))) → Ready place stage → (z : ℕ) → strengths ps who z ≡ explicit_held f x z
  bare_held place stage off why R z =
      let is = R.holds z in
      let row = holding_is f w x (spot_in (at_ place stage) over) n z R.outside in
      let none = none_locked why in
      let stand : stand_held (spot_of place) z ≡ 0 = ap (λ o. stand_held o z) off in
      omega (arith, is, row, none, stand)
    where
      none_locked : (over ≡ true) ⊎ ((over ≡ false) × (x.cursor ≡ None)) → cond over 0 (locked (walk_locks f w x.cursor (is_purging stage)) n z) ≡ 0
      none_locked (inl gone) = ap (λ o. cond o 0 (locked (walk_locks f w x.cursor (is_purging stage)) n z)) gone
      none_locked (inr (isnt, nothing)) = λ i. cond (isnt i) 0 (locked (walk_locks f w (nothing i) (is_purging stage)) n z)

  why_before : (chain : ℕ) (stage : Stage) → Ready (Before chain) stage → (over ≡ true) ⊎ ((over ≡ false) × (x.cursor ≡ None))
  why_before chain stage R = elim R.stands.1 [ inl halted ↦ inl halted.0 | inr new ↦ inr (new.0, new.2) ]

  before_held : (chain : ℕ) (stage : Stage) → Ready (Before chain) stage → (z : ℕ) → strengths ps who z ≡ explicit_held f x z
  before_held chain stage R = bare_held (Before chain) stage refl (why_before chain stage R) R

  past_held : (stage : Stage) → Ready Past stage → (z : ℕ) → strengths ps who z ≡ explicit_held f x z
  past_held stage R = bare_held Past stage refl (inr (R.stands.2, R.stands.1)) R

  -- what is left where it leaves for no record
  leaves_to : (place : Standing) (stage : Stage) → Ready place stage → (to : Standing) → spot_of to ≡ None → (z : ℕ) → strength (let_go own (who + 1) place stage to (held ps) (who + 1) z) ≡ explicit_held f x z
  leaves_to (On chain off) stage R (On c o) none z = cc
  leaves_to (On chain off) stage R (Before c) none z = left_for f own x w n who ps chain off stage over R (Before c) z ∙ omega arith
  leaves_to (On chain off) stage R Past none z = left_for f own x w n who ps chain off stage over R Past z ∙ omega arith
  leaves_to (Before chain) stage R to none z = before_held chain stage R z
  leaves_to Past stage R to none z = past_held stage R z

  -- and where it comes to a record
  bare_taken : ((z : ℕ) → strengths ps who z ≡ explicit_held f x z) → (place : Standing) (stage : Stage) → Ready place stage → (off2 : ℕ) → data_start f ≤ off2 → off2 < all_end → (z : ℕ)
      → strength (with_byte (reads_all own) (who + 1) off2 (Some Read) (held ps) (who + 1) z) ≡ max (one off2 1 z) (explicit_held f x z)
  bare_taken only place stage R off2 high far z =
      taken (reads_all own) (who + 1) off2 1 Read (held ps) (λ u. 0) (λ u. explicit_held f x u) refl (λ u. (let is = only u in omega (arith, is))) (covers_record f R.few own x R.explicit off2 high far)
      (λ e. (let bare = bare_record f R.few own x R.explicit off2 high far e in omega (arith, bare))) z ∙ omega arith

  comes_to : (place : Standing) (stage : Stage) → Ready place stage → (chain2 off2 : ℕ) → data_start f ≤ off2 → off2 < all_end → (z : ℕ)
      → strength (let_go own (who + 1) place stage (On chain2 off2) (with_byte (reads_all own) (who + 1) off2 (Some Read) (held ps)) (who + 1) z) ≡ max (one off2 1 z) (explicit_held f x z)
  comes_to (On chain off) stage R chain2 off2 high far z = come_for f own x w n who ps chain off stage over R chain2 off2 high far z
  comes_to (Before chain) stage R chain2 off2 high far z = bare_taken (before_held chain stage R) (Before chain) stage R off2 high far z
  comes_to Past stage R chain2 off2 high far z = bare_taken (past_held stage R) Past stage R off2 high far z

  -- where it is held up it holds what it held
  stays_as : (place : Standing) (stage : Stage) → Ready place stage → (other byte z : ℕ)
      → strength (held_moved own (who + 1) (at_ place stage) place (Turn.Blocked other byte) (held ps) (who + 1) z) ≡ holding f x (spot_in (at_ place stage) (is_before place)) (Some (record { command = OnWalk w; steps = n })) z
  stays_as (On chain off) stage R other byte z =
      R.holds z ∙ ap (λ o. holding f x (spot_in (at_ (On chain off) stage) o) (Some (record { command = OnWalk w; steps = n })) z) (isnt f own x w n who ps chain off stage over R)
  stays_as (Before chain) stage R other byte z =
      let now = before_held chain stage R z in
      let after_it = holding_is f w x (spot_in (at_ (Before chain) stage) true) n z R.outside in
      omega (arith, now, after_it)
  stays_as Past stage R other byte z = R.holds z ∙ ap (λ o. holding f x (spot_in (at_ Past stage) o) (Some (record { command = OnWalk w; steps = n })) z) R.stands.2

  -- a turn that moves
  moves_held : (place : Standing) (stage : Stage) → Ready place stage → walk_moves w x ≡ true → walk_ends w x.cursor n ≡ true → (did : Turn) (turn : LawTurn) → WentTo f ps (who + 1) own (at_ place stage) later did
      → ((z : ℕ) → held qs (who + 1) z ≡ held_moved own (who + 1) (at_ place stage) later.place did (held ps) (who + 1) z) → IsPlaced later.place → IsTurn did turn → Held_ later turn
  moves_held place stage R moving ending did turn (arrives key value off says there above can) holds placed told =
      let (r, is, same) = subst (λ d. IsTurn d turn) says told in
      let far = (subst (λ (l : At). IsPlaced l.place) there placed).1 in
      carried (rested (On (home f key) off)) turn (LawTurn.Ends (LawReply.Pair key value)) there (same ∙ ap LawTurn.Ends is)
      (shows_held f x R.outside n who qs m w moving (home f key) off key value ending
      (λ z. ap strength (holds z) ∙ (λ i. strength (held_moved own (who + 1) (at_ place stage) ((there i).place) (says i) (held ps) (who + 1) z)) ∙ comes_to place stage R (home f key) off above (omega (arith, far)) z))
  moves_held place stage R moving ending did turn (held_up other byte says there) holds placed told =
      let (o, is, same) = subst (λ d. IsTurn d turn) says told in
      carried (at_ place stage) turn (LawTurn.Blocked o byte) there same
      (record { row = refl; holds = λ z. ap strength (holds z) ∙ (λ i. strength (held_moved own (who + 1) (at_ place stage) ((there i).place) (says i) (held ps) (who + 1) z)) ∙ stays_as place stage R other byte z })
  moves_held place stage R moving ending did turn (halts chain other byte says there) holds placed told =
      let (o, is, same) = subst (λ d. IsTurn d turn) says told in
      carried (rested (Before chain)) turn (LawTurn.Blocked o byte) there same
      (halts_held f x R.outside n who qs m w moving chain o byte
      (λ z. ap strength (holds z) ∙ (λ i. strength (held_moved own (who + 1) (at_ place stage) ((there i).place) (says i) (held ps) (who + 1) z)) ∙ leaves_to place stage R (Before chain) refl z))
  moves_held place stage R moving ending did turn (finishes says there) holds placed told =
      let (r, is, same) = subst (λ d. IsTurn d turn) says told in
      carried (rested Past) turn (LawTurn.Ends LawReply.End) there (same ∙ ap LawTurn.Ends is)
      (finishes_held f x R.outside n who qs m w moving ending
      (λ z. ap strength (holds z) ∙ (λ i. strength (held_moved own (who + 1) (at_ place stage) ((there i).place) (says i) (held ps) (who + 1) z)) ∙ leaves_to place stage R Past refl z))
  moves_held place stage R moving ending did turn (lacks says there) holds placed told =
      let (r, is, same) = subst (λ d. IsTurn d turn) says told in
      carried (rested Past) turn (LawTurn.Ends LawReply.Memory) there (same ∙ ap LawTurn.Ends is)
      (starves_held f x R.outside n who qs m w moving (ends_last f w x R.outside n ending)
      (λ z. ap strength (holds z) ∙ (λ i. strength (held_moved own (who + 1) (at_ place stage) ((there i).place) (says i) (held ps) (who + 1) z)) ∙ leaves_to place stage R Past refl z))

  -- no memory for a lock or for a purge
  memory_held : (chain off : ℕ) (stage : Stage) → Ready (On chain off) stage → (turn : LawTurn) → later ≡ rested (spared_of (goal_of w) (On chain off)) → turn ≡ LawTurn.Ends LawReply.Memory
      → ((z : ℕ) → held qs (who + 1) z ≡ let_go own (who + 1) (On chain off) stage later.place (held ps) (who + 1) z) → Held_ later turn
  memory_held chain off stage R turn is says holds = elim (walk_kind w x has) [
    | walk_goes moving past ↦
        let gone_past : later ≡ rested Past = is ∙ ap rested (past (On chain off)) in
        carried (rested Past) turn (LawTurn.Ends LawReply.Memory) gone_past says
        (starves_held f x R.outside n who qs m w moving most (λ z. ap strength (holds z ∙ ap (λ (l : At). let_go own (who + 1) (On chain off) stage l.place (held ps) (who + 1) z) gone_past) ∙ leaves_to (On chain off) stage R Past refl z))
    | walk_leaves e ↦
        let still : later ≡ rested (On chain off) = is ∙ ap (λ c. rested (spared_of (goal_of c) (On chain off))) e in
        carried (rested (On chain off)) turn (LawTurn.Ends LawReply.Memory) still says
        (subst (λ c. RowHeld f x c n who qs m (rested (On chain off)) (LawTurn.Ends LawReply.Memory)) (sym e)
        (spared_held f x R.outside n who qs m chain off has (subst (λ c. n ≤ last_step f (OnWalk c) x) e most)
        (λ z. ap strength (holds z ∙ ap (λ (l : At). let_go own (who + 1) (On chain off) stage l.place (held ps) (who + 1) z) still) ∙ left_for f own x w n who ps chain off stage over R (On chain off) z ∙ kept_byte z)))
    | walk_closes e ↦
        carried later turn (LawTurn.Ends LawReply.Memory) refl says
        (subst (λ c. RowHeld f x c n who qs m later (LawTurn.Ends LawReply.Memory)) (sym e) (spared_close f x R.outside n who qs m later has (subst (λ c. n ≤ last_step f (OnWalk c) x) e most)))
  ]
    where
      has : is_some x.cursor ≡ true
      has = some f own x w n who ps chain off stage over R

      most : n ≤ last_step f (OnWalk w) x
      most = last_two f own x w n who ps chain off stage over R

      kept_byte : (z : ℕ) → max (cond (off == off) (one off 1 z) 0) (explicit_held f x z) ≡ max (one off 1 z) (explicit_held f x z)
      kept_byte z = ap (λ c. max (cond c (one off 1 z) 0) (explicit_held f x z)) (eq-eqb off off refl)

  -- a turn that takes a lock
  locks_held : (chain off : ℕ) (stage : Stage) (lock : StepLock) → Ready (On chain off) stage → LockFits f own x chain off stage lock → n < 2 → StandsAfter f own x w (On chain off) (stage_of lock) false (n + 1) → (did : Turn) (turn : LawTurn)
      → LockLed ps (who + 1) own lock (spared_of (goal_of w) (On chain off)) (at_ (On chain off) stage) later did → ((z : ℕ) → held qs (who + 1) z ≡ held_locked own (who + 1) (at_ (On chain off) stage) later.place lock did (held ps) (who + 1) z)
      → IsTurn did turn → Held_ later turn
  locks_held chain off stage lock R F early next Turn.Step turn led holds says =
      carried (at_ (On chain off) (stage_of lock)) turn LawTurn.Step led.0 says
      (record {
        row = row_step f w x R.outside n (some f own x w n who ps chain off stage over R) early;
        holds = λ z.
            (let is : strengths qs who z ≡ strength (with_byte (covers own lock) (who + 1) (byte_of lock) (Some (kind_of lock)) (held ps) (who + 1) z) = ap strength (holds z) in
            let took = taken (covers own lock) (who + 1) (byte_of lock) (strength (Some (kind_of lock))) (kind_of lock) (held ps) (λ y. max (one off 1 y) (stage_held chain stage y)) (λ y. explicit_held f x y) refl (holds_now f own x w n who ps chain off stage over R) F.enough
            (λ e. (let none = F.bare e in omega (arith, none))) z in
            let after_it = stage_is f own x R.outside w chain off (stage_of lock) false (n + 1) next z in
            let both = F.more z in
            omega (arith, is, took, after_it, both));
      })
  locks_held chain off stage lock R F early next (Turn.Blocked other byte) turn led holds (o, from, says) =
      carried (at_ (On chain off) stage) turn (LawTurn.Blocked o byte) led.0 says (record { row = refl; holds = λ z. ap strength (holds z) ∙ stays_as (On chain off) stage R other byte z })
  locks_held chain off stage lock R F early next (Turn.Done reply) turn led holds (r, is, says) = memory_held chain off stage R turn led.1 (says ∙ ap LawTurn.Ends (memory_reply reply r led.0 is)) holds

  -- a turn that ends a leave
  leaves_held : (place : Standing) (stage : Stage) → Ready place stage → (w ≡ EndWalk) ⊎ (w ≡ Close) → walk_ends w x.cursor n ≡ true → (did : Turn) (turn : LawTurn) → LeaveLed (dead_of place stage) Past (spared_of (goal_of w) place) (Turn.Done Reply.Ok) later did
      → ((z : ℕ) → held qs (who + 1) z ≡ let_go own (who + 1) place stage later.place (held ps) (who + 1) z) → IsTurn did turn → Held_ later turn
  leaves_held place stage R kind ending did turn (leaves is there) holds told =
      let (r, reply, same) = subst (λ d. IsTurn d turn) is told in
      elim kind [
        | inl e ↦
            carried (rested Past) turn (LawTurn.Ends LawReply.Done) there (same ∙ ap LawTurn.Ends reply)
            (subst (λ c. RowHeld f x c n who qs m (rested Past) (LawTurn.Ends LawReply.Done)) (sym e)
            (end_held f x R.outside n who qs m (subst (λ c. walk_ends c x.cursor n ≡ true) e ending)
            (λ z. ap strength (holds z ∙ ap (λ (l : At). let_go own (who + 1) place stage l.place (held ps) (who + 1) z) there) ∙ leaves_to place stage R Past refl z)))
        | inr e ↦
            carried later turn (LawTurn.Ends LawReply.Done) refl (same ∙ ap LawTurn.Ends reply)
            (subst (λ c. RowHeld f x c n who qs m later (LawTurn.Ends LawReply.Done)) (sym e) (close_held f x R.outside n who qs m later (subst (λ c. walk_ends c x.cursor n ≡ true) e ending)))
      ]
  leaves_held (On chain off) stage R kind ending did turn (cannot dead is there) holds told =
      let (r, reply, same) = subst (λ d. IsTurn d turn) is told in
      memory_held chain off stage R turn there (same ∙ ap LawTurn.Ends reply) holds
  leaves_held (Before chain) stage R kind ending did turn (cannot dead is there) holds told = absurd (dead refl)
  leaves_held Past stage R kind ending did turn (cannot dead is there) holds told = absurd (dead refl)

  -- so it is after each turn
  pub kind_held : (place : Standing) (stage : Stage) (did : Turn) (turn : LawTurn) → TurnKind f own x w place stage later n who ps qs did → Ready place stage → IsPlaced later.place → IsTurn did turn → Held_ later turn
  kind_held place stage did turn (kind_locks chain off lock on fits early next led holds) R placed says =
      locks_held chain off stage lock (subst (λ p. Ready p stage) on R) fits early next did turn led holds says
  kind_held place stage did turn (kind_moves moving ending went holds) R placed says = moves_held place stage R moving ending did turn went holds placed says
  kind_held place stage did turn (kind_leaves kind ending led holds) R placed says = leaves_held place stage R kind ending did turn led holds says
