-- The effects of a turn of a command on explicit locks, in the words of the law.
use Rattle.std.proofs.Common.{◌≡◌, ℕ, max, List, true, false, None, refl, sym, ◌∙◌, ap, inl, arith}
use Rattle.tdb_words.specs.Word.{word}
use Rattle.tdb_space.specs.Form.{Form}
use Rattle.tdb_locks.specs.declared.piece.Piece.{Piece}
use Rattle.tdb_law.specs.Commands.{LockCommand, Reply}
use Rattle.tdb_law.specs.Commands.Command.{OnLocks}
use Rattle.tdb_law.specs.Commands.LockCommand.{ChainLockNb}
use Rattle.tdb_law.specs.Commands.Reply.{Done, Memory, Busy}
use Rattle.tdb_law.specs.Commands.Turn.{Blocked, Ends}
use Rattle.tdb_law.specs.Openers.{Own, Spot, View, Map}
use Rattle.tdb_law.specs.Refusals.{refusal}
use Rattle.tdb_law.specs.Rows.{is_changed, changed_by, locks_by}
use Rattle.tdb_law.specs.Outcomes.{moves_by, counts_by, told_by, map_by, reads_by, own_by, own_locked, busies_by}
use Rattle.tdb_law.specs.Ends.{IsRow, ends_by, starves_by, lock_starves}
use Rattle.tdb_law.specs.Held.{wanted, decided, locked_next}
use Rattle.tdb_law.specs.Effects.{IsFree, IsFirstConflict}
use Rattle.tdb_law.specs.Effects.Effect.{effect_waits, effect_answers, effect_starves, effect_is_busy}
use Rattle.tdb_law.specs.Counting.{number_by}
use Rattle.tdb_law.specs.Images.{image_map}
use Rattle.tdb_openers.specs.Turning.{law_table, wants, TurnsFile}

module _ (f : Form) (x : Own) (k : LockCommand) (R : refusal f (OnLocks k) x ≡ None) where
  unchanged : (n : ℕ) → is_changed f (OnLocks k) x n ≡ false
  unfolding is_changed
  unchanged n = ap (λ q. changed_by q (OnLocks k) x n) R

  -- the rows allow an end, and a block of one that waits
  pub ends_row : (r : Reply) → IsRow f (OnLocks k) x 0 (Ends r)
  ends_row r = inl (ap (λ q. ends_by q (OnLocks k) x 0 r) R)

  module _ (s : Spot) (v : View) where
    -- what it wants
    pub wants_locks : (b : ℕ) → wants f (OnLocks k) x s v 0 b ≡ locked_next (locks_by f None (OnLocks k) x false) 0 b
    unfolding wanted
    wants_locks b = ap (λ q. max (locked_next (locks_by f q (OnLocks k) x (decided s v 0).purging) 0 b) 0) R ∙ omega arith

    module _ (y : Own) (who : ℕ) (ps : List Piece) (img : List ℕ) where
      pub file_answers : IsFree (law_table ps) who (wants f (OnLocks k) x s v 0) → y ≡ own_locked f k x → TurnsFile f x y s v (OnLocks k) 0 who ps img img (Ends Done)
      file_answers F e = record {
        effect = effect_answers Done refl F (ap (λ q. moves_by q (OnLocks k) x) R) (ap (λ q. counts_by q (OnLocks k)) R) (λ key reads. absurd (ready key reads)) (unchanged 0)
            (sym (ap (λ q. told_by q (OnLocks k) x m) R)) (sym (ap (λ q. map_by q (OnLocks k) x m) R)) (e ∙ sym (ap (λ q. own_by f q (OnLocks k) x 0 Done m) R));
        number = sym (ap (λ q. number_by q (OnLocks k) x (word f.order img 48) 0) R);
      }
        where
          m : Map
          m = image_map f img

          ready : (key : List ℕ) → reads_by (refusal f (OnLocks k) x) (OnLocks k) x key ≡ true → ⊥
          ready key reads = let e : false ≡ true = sym (ap (λ q. reads_by q (OnLocks k) x key) R) ∙ reads in cc e

      pub file_waits : (o b : ℕ) → IsFirstConflict (law_table ps) who (wants f (OnLocks k) x s v 0) o b → y ≡ x → TurnsFile f x y s v (OnLocks k) 0 who ps img img (Blocked o b)
      file_waits o b C e = record { effect = effect_waits o b refl C (unchanged 0) refl e; number = refl }

      pub file_starves : lock_starves k ≡ true → y ≡ x → TurnsFile f x y s v (OnLocks k) 0 who ps img img (Ends Memory)
      file_starves may e = record { effect = effect_starves refl (ap (λ q. starves_by q (OnLocks k) x) R ∙ may) (unchanged 0) refl e; number = refl }

module _ (f : Form) (x y : Own) (s : Spot) (v : View) (key : List ℕ) (R : refusal f (OnLocks (ChainLockNb key)) x ≡ None) (who : ℕ) (ps : List Piece) (img : List ℕ) where
  pub file_busy : (o b : ℕ) → IsFirstConflict (law_table ps) who (wants f (OnLocks (ChainLockNb key)) x s v 0) o b → y ≡ x → TurnsFile f x y s v (OnLocks (ChainLockNb key)) 0 who ps img img (Ends (Busy o b))
  file_busy o b C e = record { effect = effect_is_busy o b refl C (ap (λ q. busies_by q (OnLocks (ChainLockNb key))) R) refl e; number = refl }
