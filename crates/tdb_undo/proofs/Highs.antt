-- The steps of an undo where the undo area stands at the old length or behind it, up to the shut gate.
use Rattle.std.proofs.Common.{◌≡◌, ℕ, ◌+◌, ◌<◌, ◌≤◌, ◌⊎◌, ◌%◌, true, false, List, length, slice_index, sym, ◌∙◌, ap, subst, inl, inr, arith}
use Rattle.std.proofs.lemmas.Bool.{and_left, and_right, and_from, lt-leb, le-leb, lt-ltb, not_from_true, not_from_false}
use Rattle.tdb_disk.specs.History.{History, called, seen, synced, wrote_word, Tried}
use Rattle.tdb_disk.specs.Image.{overlay}
use Rattle.tdb_disk.specs.Stop.{LeavesOnly}
use Rattle.tdb_disk.proofs.Image.{length-overlay}
use Rattle.tdb_disk.proofs.Runs.{leaves_tried, leaves_then_sync, leaves_weaker, leaves_seen_now, quiet_synced, quiet_word}
use Rattle.tdb_words.specs.Word.{word, bytes_of_word}
use Rattle.tdb_space.specs.Form.{Form}
use Rattle.tdb_space.specs.Opening.{Undoable, restored}
use Rattle.tdb_space.specs.Undoing.{area_at, area_end, old_size, Written}
use Rattle.tdb_space.specs.RecoverySteps.{IsHarmless, BlankPast, Behind, TailAt}
use Rattle.tdb_space.proofs.RecoverySteps.Emptying.{word_cleared, word_beside}
use Rattle.tdb_space.proofs.RecoverySteps.Steps.{alike_torn, area_behind, tail_shut, shut_is_tail}
use Rattle.tdb_space.proofs.Opening.Undone.{OldLength, old_length}
use Rattle.tdb_undo.specs.declared.area.Area.{Area}
use Rattle.tdb_undo.specs.Area.{IsAreaOf}
use Rattle.tdb_undo.specs.Torn.{TornIn, Put}
use Rattle.tdb_undo.specs.Recovery.{AllAlike, Undoing, alike, tail, ShutBehind, is_past}
use Rattle.tdb_undo.proofs.Lies.{lies, lies_not}
use Rattle.tdb_undo.proofs.Whole.{same_end, same_old}

module _ (f : Form) (a : List ℕ) (u : Undoable f a) (high : old_size f a ≤ area_at f a) (sized : length a % 4 ≡ 0)
    (area : Area) (is : IsAreaOf f.order a area) (len : ℕ) (long : length a ≡ len) (h one two three four : History) where
  abbrev P : List ℕ → Type 0
  P = Undoing f a

  abbrev zeros : List ℕ
  zeros = bytes_of_word f.order 0

  abbrev x : ℕ
  x = area_at f a

  old : OldLength f a (word f.order a 44)
  old = old_length f a u

  below_out : (i : ℕ) → i < old_size f a → is_past area len i ≡ false
  below_out i low = and_left _ _ (lt-leb area.header.key_len i (omega (arith, low, same_old f a area is)))

  area_out : (i : ℕ) → x ≤ i → i < area_end f a → is_past area len i ≡ false
  area_out i low below = and_right _ _ (and_right _ _ (not_from_true _ (lies area.at (24 + area.header.rec_len) i (omega (arith, low, is.there)) (omega (arith, below, same_end f a area is)))))

  past_in : (i : ℕ) → old_size f a ≤ i → i < len → (i < x) ⊎ (area_end f a ≤ i) → is_past area len i ≡ true
  past_in i low under apart =
      and_from _ _ (le-leb area.header.key_len i (omega (arith, low, same_old f a area is)))
      (and_from _ _ (lt-ltb i len under)
      (not_from_false _ (lies_not area.at (24 + area.header.rec_len) i (elim apart [ inl before ↦ inl (omega (arith, before, is.there)) | inr after ↦ inr (omega (arith, after, same_end f a area is)) ]))))

  harmless : IsHarmless f a (is_past area len)
  harmless = record {
    front = λ i where_at. below_out i (elim where_at [ inl low ↦ omega (arith, low, old.above) | inr known ↦ omega (arith, known.1, old.above) ]);
    area_bytes = area_out;
    others = λ i low none. below_out i low;
  }

  blank_written : (c : List ℕ) → Written f a (seen h) → Put (is_past area len) (λ _. 0) (seen h) c → Written f a c × BlankPast f a c
  blank_written c w put = (
    record {
      sized = put.size ∙ w.sized;
      inside = λ i low apart outside. put.others i (below_out i low) ∙ w.inside i low apart outside;
      there = λ i low under. put.others i (below_out i (omega (arith, under, old.above))) ∙ w.there i low under;
      area_bytes = λ i low under. put.others i (area_out i low under) ∙ w.area_bytes i low under;
    },
    λ i low under apart. put.inside i (past_in i low (omega (arith, under, put.size, w.sized, long)) apart),
  )

  pub high_one : AllAlike f a h → LeavesOnly h one (TornIn (is_past area len) h) → LeavesOnly h one P
  high_one all torn = leaves_weaker h one (TornIn (is_past area len) h) P (λ image t. alike (alike_torn f a t.0 image (is_past area len) harmless (all t.0 t.1) t.2.size t.2.others)) torn

  pub high_two : AllAlike f a h → LeavesOnly h one (TornIn (is_past area len) h) → Tried synced one two → LeavesOnly h two P
  high_two all torn tried = leaves_then_sync h one two P (high_one all torn) tried

  gate_shut : (c d : List ℕ) → Written f a (seen h) → Put (is_past area len) (λ _. 0) (seen h) c → d ≡ overlay c (x + 20) zeros → TailAt f (restored f a) x (area_end f a) d
  gate_shut c d w put is_d =
      let b = blank_written c w put in
      let c_long : length c ≡ length a = put.size ∙ w.sized in
      tail_shut f a u c d high sized b.0 b.1 (ap length is_d ∙ length-overlay c (x + 20) zeros)
      (λ i apart. ap (λ l. slice_index l i) is_d ∙ word_beside f.order c (x + 20) 0 i (elim apart [ inl before ↦ inl before | inr after ↦ inr (omega (arith, after)) ]))
      (λ i from to. ap (λ l. slice_index l i) is_d ∙ word_cleared f.order c (x + 20) i from (omega (arith, to)) (omega (arith, c_long, u.in_place.within)))

  pub high_three : AllAlike f a h → Written f a (seen h) → (w : List ℕ) → w ≡ zeros → LeavesOnly h one (TornIn (is_past area len) h) → Put (is_past area len) (λ _. 0) (seen h) (seen one)
      → two ≡ called one synced → Tried (wrote_word (x + 20) w) two three → LeavesOnly h three P
  high_three all written w is_w torn put is_two tried =
      let so_far = high_two all torn (inr is_two) in
      leaves_tried h two three (wrote_word (x + 20) w) P so_far
      (λ image left. elim (quiet_word two (x + 20) w image (quiet_synced one two is_two) left) [
        | inl same ↦ subst P (sym same) (leaves_seen_now h two P so_far)
        | inr whole ↦ tail high (shut_is_tail f (restored f a) x (area_end f a) image (area_behind f a u high)
            (gate_shut (seen one) image written put (whole ∙ (λ j. overlay (ap seen is_two j) (x + 20) (is_w j)))))
      ]) tried

  pub high_four : AllAlike f a h → Written f a (seen h) → (w : List ℕ) → w ≡ zeros → LeavesOnly h one (TornIn (is_past area len) h) → Put (is_past area len) (λ _. 0) (seen h) (seen one)
      → two ≡ called one synced → three ≡ called two (wrote_word (x + 20) w) → Tried synced three four → LeavesOnly h four P
  high_four all written w is_w torn put is_two is_three tried =
      leaves_then_sync h three four P (high_three all written w is_w torn put is_two (inr is_three)) tried

  pub high_shut : Written f a (seen h) → (w : List ℕ) → w ≡ zeros → Put (is_past area len) (λ _. 0) (seen h) (seen one)
      → two ≡ called one synced → three ≡ called two (wrote_word (x + 20) w) → four ≡ called three synced → ShutBehind f a area (seen four)
  high_shut written w is_w put is_two is_three is_four =
      let e : area_end f a ≡ area.at + 24 + area.header.rec_len = sym (same_end f a area is) in
      subst (λ p. Behind f (restored f a) p (area.at + 24 + area.header.rec_len) × TailAt f (restored f a) p (area.at + 24 + area.header.rec_len) (seen four)) (sym is.there)
      (subst (λ q. Behind f (restored f a) x q × TailAt f (restored f a) x q (seen four)) e
      (area_behind f a u high, gate_shut (seen one) (seen four) written put (ap seen is_four ∙ ap seen is_three ∙ (λ j. overlay (ap seen is_two j) (x + 20) (is_w j)))))
