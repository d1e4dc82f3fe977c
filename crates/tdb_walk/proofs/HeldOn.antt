-- What a cursor that stands on a record holds, and what is left of it where it leaves or comes to another record.
use Rattle.std.proofs.Common.{◌≡◌, ℕ, ◌+◌, ◌<◌, ◌≤◌, max, Bool, true, false, cond, ◌==◌, List, Some, is_some, refl, sym, ◌∙◌, ap, subst, inl, inr, arith}
use Rattle.std.proofs.lemmas.Bool.{cases_eq, eqb-true, eqb-false}
use Rattle.tdb_space.specs.Form.{Form, data_start}
use Rattle.tdb_space.proofs.Pairs.Maps.{home_below}
use Rattle.tdb_locks.specs.HeldLocks.{HeldLocks}
use Rattle.tdb_locks.specs.LockTable.{held}
use Rattle.tdb_locks.specs.declared.kind.Kind.TheVariants.{Read}
use Rattle.tdb_locks.specs.declared.piece.Piece.{Piece}
use Rattle.tdb_locks.proofs.Strengths.{strength}
use Rattle.tdb_law.specs.Commands.{WalkCommand}
use Rattle.tdb_law.specs.Commands.Command.{OnWalk}
use Rattle.tdb_law.specs.Openers.{Own}
use Rattle.tdb_law.specs.Rows.{all_end}
use Rattle.tdb_law.specs.Ends.{last_step}
use Rattle.tdb_law.specs.Held.{explicit_held}
use Rattle.tdb_law.specs.World.{HasFewChains}
use Rattle.tdb_walk.specs.declared.standing.Standing.{Standing}
use Rattle.tdb_walk.specs.declared.standing.Standing.TheVariants.{On}
use Rattle.tdb_walk.specs.declared.stage.Stage.{Stage}
use Rattle.tdb_walk.specs.declared.stage.Stage.TheVariants.{Rested, Reading, Writing, Freeing}
use Rattle.tdb_walk.specs.declared.stage.StepLock.{StepLock}
use Rattle.tdb_walk.specs.declared.stage.StepLock.TheVariants.{ReadChain, WriteChain, FreeList}
use Rattle.tdb_walk.specs.Way.{lock_byte}
use Rattle.tdb_walk.specs.ByteLocks.{with_byte, reads_all, only_reads}
use Rattle.tdb_walk.specs.Cursors.{is_on, let_go, byte_of, kind_of, covers, stage_of, free_byte}
use Rattle.tdb_walk.specs.InLaw.{CursorReady, HoldsExplicit, IsShown, StandsAfter, strengths}
use Rattle.tdb_walk.proofs.Explicit.{one, one_at, one_off, taken, covers_reading, covers_writing, covers_record, bare_chain, bare_record, ex_free}
use Rattle.tdb_walk.proofs.Holding.{stage_held, stage_is, let_go_kept}
use Rattle.tdb_walk.proofs.Rows.{last_is}

pub shown_of : (f : Form) (own : HeldLocks) (x : Own) (w : WalkCommand) (chain off : ℕ) (stage : Stage) (over : Bool) (n : ℕ) → StandsAfter f own x w (On chain off) stage over n → IsShown f x.cursor chain off × (over ≡ false) × (n ≤ 2)
shown_of f own x w chain off Rested over n (S, isnt, steps) = (S, isnt, omega (arith, steps))
shown_of f own x w chain off Reading over n (S, isnt, steps, next) = (S, isnt, omega (arith, steps))
shown_of f own x w chain off Writing over n (S, isnt, steps, writes) = (S, isnt, omega (arith, steps))
shown_of f own x w chain off Freeing over n (S, isnt, steps, writes) = (S, isnt, omega (arith, steps))

writes_of : (f : Form) (own : HeldLocks) (x : Own) (w : WalkCommand) (chain off : ℕ) (stage : Stage) (over : Bool) (n : ℕ) → StandsAfter f own x w (On chain off) stage over n → (stage ≡ Writing → only_reads own ≡ false) × (stage ≡ Freeing → only_reads own ≡ false)
writes_of f own x w chain off Rested over n S = ((λ e. cc), (λ e. cc))
writes_of f own x w chain off Reading over n S = ((λ e. cc), (λ e. cc))
writes_of f own x w chain off Writing over n S = ((λ e. S.3), (λ e. S.3))
writes_of f own x w chain off Freeing over n S = ((λ e. S.3), (λ e. S.3))

-- a chain in which a key is filed is one of the file's
pub shown_low : (f : Form) (x : Own) (chain off : ℕ) → HasFewChains f → IsShown f x.cursor chain off → chain < f.chains
shown_low f x chain off few S = subst (λ j. j < f.chains) S.filed (home_below f S.key few.some)

-- A lock that a turn takes on the way to a purge or a move: what is held of its stage then is that lock and what was
-- held before; and the explicit locks cover it, or nothing is held at its byte.
pub record LockFits (f : Form) (own : HeldLocks) (x : Own) (chain off : ℕ) (stage : Stage) (lock : StepLock) : Type 0 where
  pub more : (z : ℕ) → stage_held chain (stage_of lock) z ≡ max (one (byte_of lock) (strength (Some (kind_of lock))) z) (stage_held chain stage z)
  pub enough : covers own lock ≡ true → strength (Some (kind_of lock)) ≤ explicit_held f x (byte_of lock)
  pub bare : covers own lock ≡ false → max (max (one off 1 (byte_of lock)) (stage_held chain stage (byte_of lock))) (explicit_held f x (byte_of lock)) ≡ 0

module _ (f : Form) (few : HasFewChains f) (own : HeldLocks) (x : Own) (E : HoldsExplicit own x) (chain off : ℕ) (S : IsShown f x.cursor chain off) where
  low_chain : chain < f.chains
  low_chain = shown_low f x chain off few S

  pub write_fits : only_reads own ≡ false → LockFits f own x chain off Rested (WriteChain chain)
  write_fits writes = record {
    more = λ z. omega arith;
    enough = λ e. covers_writing f few own x E chain low_chain e writes;
    bare = λ e. (let bare = bare_chain f few own x E chain low_chain e in let apart = one_off off 1 (lock_byte chain) (λ j. absurd (omega (arith, j, S.above, low_chain))) in omega (arith, bare, apart));
  }

  pub read_fits : LockFits f own x chain off Rested (ReadChain chain)
  read_fits = record {
    more = λ z. omega arith;
    enough = λ e. covers_reading f few own x E chain low_chain e;
    bare = λ e. (let bare = bare_chain f few own x E chain low_chain e in let apart = one_off off 1 (lock_byte chain) (λ j. absurd (omega (arith, j, S.above, low_chain))) in omega (arith, bare, apart));
  }

  pub free_fits : LockFits f own x chain off Writing FreeList
  free_fits = record {
    more = λ z. refl;
    enough = λ e. cc;
    bare = λ e.
        (let bare = ex_free f few own x E in let apart = one_off off 1 free_byte (λ j. absurd (omega (arith, j, S.above))) in let chain_off = one_off (lock_byte chain) 2 free_byte (λ j. absurd (omega (arith, j))) in omega (arith, bare, apart, chain_off));
  }

module _ (f : Form) (own : HeldLocks) (x : Own) (w : WalkCommand) (n who : ℕ) (ps : List Piece) (chain off : ℕ) (stage : Stage) (over : Bool) (R : CursorReady f own x w (record { place = On chain off; stage = stage }) over n who ps) where
  pub shown : IsShown f x.cursor chain off
  shown = (shown_of f own x w chain off stage over n R.stands).0

  pub isnt : over ≡ false
  isnt = (shown_of f own x w chain off stage over n R.stands).1

  pub some : is_some x.cursor ≡ true
  some = ap is_some shown.shown

  pub low : chain < f.chains
  low = shown_low f x chain off R.few shown

  below : off < all_end
  below = let high = R.placed.1 in omega (arith, high)

  pub holds_now : (z : ℕ) → strengths ps who z ≡ max (max (one off 1 z) (stage_held chain stage z)) (explicit_held f x z)
  holds_now z = R.holds z ∙ stage_is f own x R.outside w chain off stage over n R.stands z

  pub last_two : n ≤ last_step f (OnWalk w) x
  last_two = let last = last_is f w x R.outside in let two : ◌≡◌ {A = ℕ} (cond (is_some x.cursor) 2 0) 2 = ap (λ z. cond z 2 0) some in let most = (shown_of f own x w chain off stage over n R.stands).2 in omega (arith, last, two, most)

  -- what is left of its locks where it leaves for a place
  pub left_for : (later : Standing) (z : ℕ) → strength (let_go own (who + 1) (On chain off) stage later (held ps) (who + 1) z) ≡ max (cond (is_on later off) (one off 1 z) 0) (explicit_held f x z)
  left_for later z =
      let writes = writes_of f own x w chain off stage over n R.stands in
      let is = let_go_kept f R.few own x R.explicit chain off low shown.above below (who + 1) later (λ y. 0) refl refl (λ e. refl) stage (held ps) writes.0 writes.1 (λ y. (let now = holds_now y in omega (arith, now))) z in
      omega (arith, is)

  -- and where it has taken the byte of the record to which it comes
  pub come_for : (chain2 off2 : ℕ) → data_start f ≤ off2 → off2 < all_end → (z : ℕ) → strength (let_go own (who + 1) (On chain off) stage (On chain2 off2) (with_byte (reads_all own) (who + 1) off2 (Some Read) (held ps)) (who + 1) z) ≡ max (one off2 1 z) (explicit_held f x z)
  come_for chain2 off2 high2 far2 z =
      let writes = writes_of f own x w chain off stage over n R.stands in
      let is = let_go_kept f R.few own x R.explicit chain off low shown.above below (who + 1) (On chain2 off2) (λ y. one off2 1 y) (one_off off2 1 (lock_byte chain) (λ e. absurd (omega (arith, e, low, high2)))) (one_off off2 1 free_byte (λ e. absurd (omega (arith, e, high2))))
      (λ e. one_off off2 1 off (λ same. eqb-false off2 off e (sym same))) stage (with_byte (reads_all own) (who + 1) off2 (Some Read) (held ps)) writes.0 writes.1 (λ y. (let now = took y in omega (arith, now))) z in
      let both = same_byte (off2 == off) refl in
      omega (arith, is, both)
    where
      stage_none : (s : Stage) → stage_held chain s off2 ≡ 0
      stage_none Rested = refl
      stage_none Reading = one_off (lock_byte chain) 1 off2 (λ e. absurd (omega (arith, e, low, high2)))
      stage_none Writing = one_off (lock_byte chain) 2 off2 (λ e. absurd (omega (arith, e, low, high2)))
      stage_none Freeing = let p = one_off free_byte 2 off2 (λ e. absurd (omega (arith, e, high2))) in let q = one_off (lock_byte chain) 2 off2 (λ e. absurd (omega (arith, e, low, high2))) in omega (arith, p, q)

      one_most : (y : ℕ) → one off 1 y ≤ 1
      one_most y = elim (cases_eq y off) [ inl here ↦ (let at_it = one_at off 1 y here in omega (arith, at_it)) | inr apart ↦ (let off_it = one_off off 1 y apart in omega (arith, off_it)) ]

      took : (y : ℕ) → strength (with_byte (reads_all own) (who + 1) off2 (Some Read) (held ps) (who + 1) y) ≡ max (max (one off2 1 y) (max (one off 1 y) (stage_held chain stage y))) (explicit_held f x y)
      took y =
          taken (reads_all own) (who + 1) off2 1 Read (held ps) (λ u. max (one off 1 u) (stage_held chain stage u)) (λ u. explicit_held f x u) refl holds_now (covers_record f R.few own x R.explicit off2 high2 far2)
          (λ e. (let bare = bare_record f R.few own x R.explicit off2 high2 far2 e in let none = stage_none stage in let most = one_most off2 in omega (arith, bare, none, most))) y

      same_byte : (e : Bool) → (off2 == off) ≡ e → cond e (one off 1 z) 0 ≤ one off2 1 z
      same_byte true e = let same : one off2 1 z ≡ one off 1 z = ap (λ o. one o 1 z) (eqb-true off2 off e) in omega (arith, same)
      same_byte false e = omega arith
