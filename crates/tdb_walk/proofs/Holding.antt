-- What a cursor holds before its turn and after it, by the row of its command.
use Rattle.std.proofs.Common.{◌≡◌, ℕ, ◌+◌, ◌*◌, ◌<◌, ◌≤◌, max, List, [], ◌∷◌, Bool, true, false, cond, Some, None, is_none, refl, sym, ◌∙◌, ap, arith}
use Rattle.std.specs.Prelude.{◌||◌}
use Rattle.tdb_space.specs.Form.{Form, data_start}
use Rattle.tdb_space.specs.Pairs.{home}
use Rattle.tdb_locks.specs.HeldLocks.{HeldLocks}
use Rattle.tdb_locks.proofs.Strengths.{strength}
use Rattle.tdb_law.specs.Commands.{WalkCommand}
use Rattle.tdb_law.specs.Commands.WalkCommand.{First, Next, EndWalk, Close}
use Rattle.tdb_law.specs.Commands.Command.{OnWalk}
use Rattle.tdb_law.specs.Openers.{Own, Spot}
use Rattle.tdb_law.specs.Refusals.{refusal, first_that_applies, is_prepared, chain_byte}
use Rattle.tdb_law.specs.Refusals.Refusal.{IsPrepared}
use Rattle.tdb_law.specs.Rows.{locks, locks_by, walk_locks, lock_chain, lock_free, all_end}
use Rattle.tdb_law.specs.Held.{locked, explicit_held, stand_held, kept_by, held, holding}
use Rattle.tdb_law.specs.World.{HasFewChains}
use Rattle.tdb_walk.specs.declared.standing.Standing.{Standing}
use Rattle.tdb_walk.specs.declared.standing.Standing.TheVariants.{On}
use Rattle.tdb_walk.specs.declared.stage.Stage.{Stage}
use Rattle.tdb_walk.specs.declared.stage.Stage.TheVariants.{Rested, Reading, Writing, Freeing}
use Rattle.tdb_walk.specs.Way.{lock_byte, reads_chain}
use Rattle.tdb_walk.specs.ByteLocks.{Holding, with_byte, reads_all, only_reads}
use Rattle.tdb_walk.specs.Cursors.{free_byte, is_on, let_go}
use Rattle.tdb_walk.specs.InLaw.{HoldsExplicit, StandsAfter, spot_in}
use Rattle.tdb_walk.proofs.Explicit.{one, one_off, gone, stand_is, covers_reading, covers_writing, bare_chain, covers_record, bare_record, ex_free}

-- the locks of a cursor's command on its chain and on the free list
abbrev pub stage_held : ℕ → Stage → ℕ → ℕ
stage_held chain Rested b = 0
stage_held chain Reading b = one (lock_byte chain) 1 b
stage_held chain Writing b = one (lock_byte chain) 2 b
stage_held chain Freeing b = max (one free_byte 2 b) (one (lock_byte chain) 2 b)

-- no walk command of an opener outside a transaction is refused
pub granted : (f : Form) (w : WalkCommand) (x : Own) → x.txn ≡ None → refusal f (OnWalk w) x ≡ None
unfolding refusal
granted f First x outside = ap (λ t. first_that_applies ((is_prepared t, IsPrepared) ∷ [])) outside
granted f Next x outside = ap (λ t. first_that_applies ((is_prepared t, IsPrepared) ∷ [])) outside
granted f EndWalk x outside = ap (λ t. first_that_applies ((is_prepared t, IsPrepared) ∷ [])) outside
granted f Close x outside = refl

pub locks_are : (f : Form) (w : WalkCommand) (x : Own) (z : Bool) → x.txn ≡ None → locks f (OnWalk w) x z ≡ walk_locks f w x.cursor z
locks_are f w x z outside = ap (λ q. locks_by f q (OnWalk w) x z) (granted f w x outside) ∙ ap (λ t. cond (is_none t) (walk_locks f w x.cursor z) []) outside

-- what such an opener holds
pub holding_is : (f : Form) (w : WalkCommand) (x : Own) (a : Spot) (n b : ℕ) → x.txn ≡ None
    → holding f x a (Some (record { command = OnWalk w; steps = n })) b ≡ max (cond a.gone 0 (locked (walk_locks f w x.cursor a.purging) n b)) (max (explicit_held f x b) (stand_held a.stands b))
unfolding held
holding_is f w x a n b outside = λ i. max (cond a.gone 0 (locked (locks_are f w x a.purging outside i) n b)) (kept_by f (outside i) x a b)

pub resting_is : (f : Form) (x : Own) (a : Spot) (b : ℕ) → x.txn ≡ None → holding f x a None b ≡ max (explicit_held f x b) (stand_held a.stands b)
resting_is f x a b outside = (λ i. max 0 (kept_by f (outside i) x a b)) ∙ omega arith

-- the locks of a purge are the same for all commands
pub purge_locks : (f : Form) (w : WalkCommand) (key : List ℕ) → walk_locks f w (Some key) true ≡ lock_chain f 0 key 2 ∷ lock_free 1 2 ∷ []
purge_locks f First key = refl
purge_locks f Next key = refl
purge_locks f EndWalk key = refl
purge_locks f Close key = refl

none_first : (f : Form) (w : WalkCommand) (key : List ℕ) (b : ℕ) → locked (walk_locks f w (Some key) false) 0 b ≡ 0
none_first f First key b = refl
none_first f Next key b = omega arith
none_first f EndWalk key b = refl
none_first f Close key b = refl

module _ (f : Form) (own : HeldLocks) (x : Own) (outside : x.txn ≡ None) (w : WalkCommand) (chain off : ℕ) where
  abbrev ex : ℕ → ℕ
  ex b = explicit_held f x b

  abbrev here : ℕ → ℕ → ℕ
  here s b = one (lock_byte chain) s b

  at_key : (key : List ℕ) → home f key ≡ chain → (s b : ℕ) → one (chain_byte f key) s b ≡ here s b
  at_key key filed s b = ap (λ c. one (168 + 4 * c) s b) filed

  -- by its stage, on a record
  pub stage_is : (stage : Stage) (over : Bool) (n : ℕ) → StandsAfter f own x w (On chain off) stage over n → (b : ℕ)
      → holding f x (spot_in (record { place = On chain off; stage = stage }) over) (Some (record { command = OnWalk w; steps = n })) b ≡ max (max (one off 1 b) (stage_held chain stage b)) (ex b)
  stage_is Rested over n (S, isnt, steps) b =
      let is = holding_is f w x (spot_in (record { place = On chain off; stage = Rested }) over) n b outside in
      let row : cond over 0 (locked (walk_locks f w x.cursor false) n b) ≡ 0 = (λ i. cond (isnt i) 0 (locked (walk_locks f w (S.shown i) false) (steps i) b)) ∙ none_first f w S.key b in
      let stand = stand_is off b in
      omega (arith, is, row, stand)
  stage_is Reading over n (S, isnt, steps, next) b =
      let is = holding_is f w x (spot_in (record { place = On chain off; stage = Reading }) over) n b outside in
      let one_lock : locked (lock_chain f 0 S.key 1 ∷ []) 1 b ≡ one (chain_byte f S.key) 1 b = omega arith in
      let row : cond over 0 (locked (walk_locks f w x.cursor false) n b) ≡ here 1 b = (λ i. cond (isnt i) 0 (locked (walk_locks f (next i) (S.shown i) false) (steps i) b)) ∙ one_lock ∙ at_key S.key S.filed 1 b in
      let stand = stand_is off b in
      omega (arith, is, row, stand)
  stage_is Writing over n (S, isnt, steps, writes) b =
      let is = holding_is f w x (spot_in (record { place = On chain off; stage = Writing }) over) n b outside in
      let one_lock : locked (lock_chain f 0 S.key 2 ∷ lock_free 1 2 ∷ []) 1 b ≡ one (chain_byte f S.key) 2 b = omega arith in
      let row : cond over 0 (locked (walk_locks f w x.cursor true) n b) ≡ here 2 b = (λ i. cond (isnt i) 0 (locked (walk_locks f w (S.shown i) true) (steps i) b)) ∙ ap (λ ls. locked ls 1 b) (purge_locks f w S.key) ∙ one_lock ∙ at_key S.key S.filed 2 b in
      let stand = stand_is off b in
      omega (arith, is, row, stand)
  stage_is Freeing over n (S, isnt, steps, writes) b =
      let is = holding_is f w x (spot_in (record { place = On chain off; stage = Freeing }) over) n b outside in
      let two_locks : locked (lock_chain f 0 S.key 2 ∷ lock_free 1 2 ∷ []) 2 b ≡ max (one free_byte 2 b) (one (chain_byte f S.key) 2 b) = omega arith in
      let row : cond over 0 (locked (walk_locks f w x.cursor true) n b) ≡ max (one free_byte 2 b) (here 2 b) =
      (λ i. cond (isnt i) 0 (locked (walk_locks f w (S.shown i) true) (steps i) b)) ∙ ap (λ ls. locked ls 2 b) (purge_locks f w S.key) ∙ two_locks ∙ ap (λ z. max (one free_byte 2 b) z) (at_key S.key S.filed 2 b) in
      let stand = stand_is off b in
      omega (arith, is, row, stand)

-- What is left where a cursor lets go: the byte of its record, where it stands on that still, and what else it holds.
module _ (f : Form) (few : HasFewChains f) (own : HeldLocks) (x : Own) (E : HoldsExplicit own x) (chain off : ℕ) (low : chain < f.chains) (above : data_start f ≤ off) (below : off < all_end) (owner : ℕ) (later : Standing) (more : ℕ → ℕ)
    (more_chain : more (lock_byte chain) ≡ 0) (more_free : more free_byte ≡ 0) (more_off : is_on later off ≡ false → more off ≡ 0) where
  abbrev now : ℕ → ℕ
  now b = explicit_held f x b

  -- the byte of the record after it
  abbrev pub left_on : Bool → ℕ → ℕ
  left_on still b = cond still (one off 1 b) 0

  left_at : (still : Bool) (b : ℕ) → (b ≡ off → ⊥) → left_on still b ≡ 0
  left_at true b apart = one_off off 1 b apart
  left_at false b apart = refl

  chain_apart : lock_byte chain ≡ off → ⊥
  chain_apart e = absurd (omega (arith, e, low, above))

  free_apart : free_byte ≡ off → ⊥
  free_apart e = absurd (omega (arith, e, above))

  record_gone : (h : Holding) (rest : ℕ → ℕ) (r still : Bool) → reads_all own ≡ r → (still ≡ false → rest off ≡ 0) → ((b : ℕ) → strength (h owner b) ≡ max (max (one off 1 b) (rest b)) (now b))
      → (b : ℕ) → strength (with_byte (r || still) owner off None h owner b) ≡ max (max (left_on still b) (rest b)) (now b)
  record_gone h rest true true e free holds b = holds b
  record_gone h rest false true e free holds b = holds b
  record_gone h rest true false e free holds b = gone true owner off 1 h rest now holds (λ q. covers_record f few own x E off above below e) (λ q. cc) b ∙ omega arith
  record_gone h rest false false e free holds b =
      gone false owner off 1 h rest now holds (λ q. cc) (λ q. (let none = free refl in let bare = bare_record f few own x E off above below e in omega (arith, none, bare))) b ∙ omega arith

  abbrev after : (stage : Stage) → Type 0
  after stage = (h : Holding) → (stage ≡ Writing → only_reads own ≡ false) → (stage ≡ Freeing → only_reads own ≡ false)
      → ((b : ℕ) → strength (h owner b) ≡ max (max (one off 1 b) (max (stage_held chain stage b) (more b))) (now b))
      → (b : ℕ) → strength (let_go own owner (On chain off) stage later h owner b) ≡ max (max (left_on (is_on later off) b) (more b)) (now b)

  stage_off : (stage : Stage) → stage_held chain stage off ≡ 0
  stage_off Rested = refl
  stage_off Reading = one_off (lock_byte chain) 1 off (λ e. chain_apart (sym e))
  stage_off Writing = one_off (lock_byte chain) 2 off (λ e. chain_apart (sym e))
  stage_off Freeing = let p = one_off free_byte 2 off (λ e. free_apart (sym e)) in let q = one_off (lock_byte chain) 2 off (λ e. chain_apart (sym e)) in omega (arith, p, q)

  first_gone : (stage : Stage) (h : Holding) → ((b : ℕ) → strength (h owner b) ≡ max (max (one off 1 b) (max (stage_held chain stage b) (more b))) (now b))
      → (b : ℕ) → strength (with_byte (reads_all own || is_on later off) owner off None h owner b) ≡ max (max (left_on (is_on later off) b) (max (stage_held chain stage b) (more b))) (now b)
  first_gone stage h holds b =
      record_gone h (λ z. max (stage_held chain stage z) (more z)) (reads_all own) (is_on later off) refl (λ isnt. (let p = stage_off stage in let q = more_off isnt in omega (arith, p, q))) holds b

  -- the lock of the chain
  chain_gone : (s : ℕ) (h : Holding) → (reads_chain own chain ≡ true → s ≤ now (lock_byte chain)) → ((b : ℕ) → strength (h owner b) ≡ max (max (one (lock_byte chain) s b) (max (left_on (is_on later off) b) (more b))) (now b))
      → (b : ℕ) → strength (with_byte (reads_chain own chain) owner (lock_byte chain) None h owner b) ≡ max (max (left_on (is_on later off) b) (more b)) (now b)
  chain_gone s h over holds b =
      gone (reads_chain own chain) owner (lock_byte chain) s h (λ z. max (left_on (is_on later off) z) (more z)) now holds over
      (λ e. (let p = left_at (is_on later off) (lock_byte chain) chain_apart in let q = bare_chain f few own x E chain low e in omega (arith, p, q, more_chain))) b

  pub let_go_rested : after Rested
  let_go_rested h writing freeing holds b = first_gone Rested h holds b ∙ omega arith

  pub let_go_reading : after Reading
  let_go_reading h writing freeing holds b =
      chain_gone 1 (with_byte (reads_all own || is_on later off) owner off None h) (covers_reading f few own x E chain low) (λ z. first_gone Reading h holds z ∙ omega arith) b

  pub let_go_writing : after Writing
  let_go_writing h writing freeing holds b =
      chain_gone 2 (with_byte (reads_all own || is_on later off) owner off None h) (λ e. covers_writing f few own x E chain low e (writing refl)) (λ z. first_gone Writing h holds z ∙ omega arith) b

  pub let_go_freeing : after Freeing
  let_go_freeing h writing freeing holds b =
      gone false owner free_byte 2 (with_byte (reads_chain own chain) owner (lock_byte chain) None (with_byte (reads_all own || is_on later off) owner off None h)) (λ z. max (left_on (is_on later off) z) (more z)) now
      (λ z. chain_freed z) (λ q. cc) (λ q. (let p = left_at (is_on later off) free_byte free_apart in let e = ex_free f few own x E in omega (arith, p, e, more_free))) b
    where
      chain_freed : (z : ℕ) → strength (with_byte (reads_chain own chain) owner (lock_byte chain) None (with_byte (reads_all own || is_on later off) owner off None h) owner z) ≡ max (max (one free_byte 2 z) (max (left_on (is_on later off) z) (more z))) (now z)
      chain_freed z =
          gone (reads_chain own chain) owner (lock_byte chain) 2 (with_byte (reads_all own || is_on later off) owner off None h) (λ y. max (one free_byte 2 y) (max (left_on (is_on later off) y) (more y))) now (λ y. first_gone Freeing h holds y ∙ omega arith)
          (λ e. covers_writing f few own x E chain low e (freeing refl))
          (λ e. (let p = left_at (is_on later off) (lock_byte chain) chain_apart in let q = bare_chain f few own x E chain low e in let r = one_off free_byte 2 (lock_byte chain) (λ j. absurd (omega (arith, j))) in omega (arith, p, q, r, more_chain))) z

  pub let_go_kept : (stage : Stage) → after stage
  let_go_kept Rested = let_go_rested
  let_go_kept Reading = let_go_reading
  let_go_kept Writing = let_go_writing
  let_go_kept Freeing = let_go_freeing
