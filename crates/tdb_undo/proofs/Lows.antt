-- The steps of an undo where the undo area stands below the old length: what a stop leaves of each, and the file at the
-- end.
use Rattle.std.proofs.Common.{◌≡◌, ℕ, ◌+◌, ◌<◌, ◌%◌, List, length, take, slice_index, sym, ◌∙◌, ap, subst, inl, inr, arith}
use Rattle.std.proofs.lemmas.List.{get_or-take, length-take}
use Rattle.tdb_disk.specs.History.{History, called, seen, synced, cut, wrote_word, Tried}
use Rattle.tdb_disk.specs.Image.{overlay}
use Rattle.tdb_disk.specs.Stop.{Leaves, LeavesOnly, Shrunk}
use Rattle.tdb_disk.proofs.Image.{length-overlay}
use Rattle.tdb_disk.proofs.Stop.{leaves_seen}
use Rattle.tdb_disk.proofs.Runs.{leaves_sync, leaves_tried, leaves_then_sync, leaves_weaker, leaves_seen_now, quiet_synced, quiet_word}
use Rattle.tdb_words.specs.Word.{word, bytes_of_word}
use Rattle.tdb_space.specs.Form.{Form}
use Rattle.tdb_space.specs.Opening.{Undoable, restored}
use Rattle.tdb_space.specs.Undoing.{area_at, old_size, UndoneAlike, Written}
use Rattle.tdb_space.proofs.Undoing.Alike.{alike_shrunk}
use Rattle.tdb_space.proofs.RecoverySteps.Emptying.{word_cleared, word_beside}
use Rattle.tdb_space.proofs.RecoverySteps.Steps.{low_exact}
use Rattle.tdb_space.proofs.Opening.Undone.{OldLength, old_length}
use Rattle.tdb_undo.specs.Recovery.{AllAlike, Undoing, alike, exact}

module _ (f : Form) (a : List ℕ) (u : Undoable f a) (low : area_at f a < old_size f a) (h one two three four five : History) where
  abbrev P : List ℕ → Type 0
  P = Undoing f a

  abbrev zeros : List ℕ
  zeros = bytes_of_word f.order 0

  pub low_one : AllAlike f a h → Tried synced h one → LeavesOnly h one P
  low_one all tried = leaves_weaker h one (Leaves h) P (λ image left. alike (all image left)) (leaves_sync h one tried)

  pub low_two : AllAlike f a h → old_size f a % 4 ≡ 0 → one ≡ called h synced → Tried (cut (old_size f a)) one two → LeavesOnly h two P
  low_two all words is_one tried =
      leaves_tried h one two (cut (old_size f a)) P (low_one all (inr is_one))
      (λ image left. alike (shrunk image left.0 (all_one left.0 left.1) left.2)) tried
    where
      all_one : (image : List ℕ) → Leaves one image → UndoneAlike f a image
      all_one image left = subst (UndoneAlike f a) (sym (quiet_synced h one is_one image left ∙ ap seen is_one)) (all (seen h) (leaves_seen h))

      shrunk : (image from : List ℕ) → UndoneAlike f a from → Shrunk (old_size f a) from image → UndoneAlike f a image
      shrunk image from s cut_to = alike_shrunk f a from image u low s cut_to.front (cut_to.aligned s.sized words) (omega (arith, cut_to.no_shorter, s.reach))

  pub low_three : AllAlike f a h → old_size f a % 4 ≡ 0 → one ≡ called h synced → two ≡ called one (cut (old_size f a)) → Tried synced two three → LeavesOnly h three P
  low_three all words is_one is_two tried = leaves_then_sync h two three P (low_two all words is_one (inr is_two)) tried

  -- the file that is cut, and then with its gate shut
  seen_cut : one ≡ called h synced → two ≡ called one (cut (old_size f a)) → three ≡ called two synced → seen three ≡ take (old_size f a) (seen h)
  seen_cut is_one is_two is_three = ap seen is_three ∙ ap seen is_two ∙ ap (λ k. take (old_size f a) (seen k)) is_one

  gate_exact : Written f a (seen h) → (c : List ℕ) → c ≡ overlay (take (old_size f a) (seen h)) (area_at f a + 20) zeros → c ≡ restored f a
  gate_exact w c is =
      let n = old_size f a in
      let x = area_at f a in
      let b = seen h in
      let old : OldLength f a (word f.order a 44) = old_length f a u in
      let cut_long : length (take n b) ≡ n = omega (arith, length-take n b, w.sized, old.within) in
      low_exact f a u b c low w (ap length is ∙ length-overlay (take n b) (x + 20) zeros ∙ cut_long)
      (λ i under beside. ap (λ l. slice_index l i) is
      ∙ word_beside f.order (take n b) (x + 20) 0 i (elim beside [ inl before ↦ inl before | inr after ↦ inr (omega (arith, after)) ])
      ∙ get_or-take n b i 0 under)
      (λ i from to. ap (λ l. slice_index l i) is ∙ word_cleared f.order (take n b) (x + 20) i from (omega (arith, to)) (omega (arith, cut_long, old.apart low)))

  pub low_four : AllAlike f a h → old_size f a % 4 ≡ 0 → Written f a (seen h) → (w : List ℕ) → w ≡ zeros
      → one ≡ called h synced → two ≡ called one (cut (old_size f a)) → three ≡ called two synced → Tried (wrote_word (area_at f a + 20) w) three four → LeavesOnly h four P
  low_four all words written w is_w is_one is_two is_three tried =
      let so_far = low_three all words is_one is_two (inr is_three) in
      leaves_tried h three four (wrote_word (area_at f a + 20) w) P so_far
      (λ image left. elim (quiet_word three (area_at f a + 20) w image (quiet_synced two three is_three) left) [
        | inl same ↦ subst P (sym same) (leaves_seen_now h three P so_far)
        | inr whole ↦ exact (gate_exact written image (whole ∙ (λ j. overlay (seen_cut is_one is_two is_three j) (area_at f a + 20) (is_w j))))
      ]) tried

  pub low_five : AllAlike f a h → old_size f a % 4 ≡ 0 → Written f a (seen h) → (w : List ℕ) → w ≡ zeros
      → one ≡ called h synced → two ≡ called one (cut (old_size f a)) → three ≡ called two synced → four ≡ called three (wrote_word (area_at f a + 20) w) → Tried synced four five → LeavesOnly h five P
  low_five all words written w is_w is_one is_two is_three is_four tried =
      leaves_then_sync h four five P (low_four all words written w is_w is_one is_two is_three (inr is_four)) tried

  pub low_seen : Written f a (seen h) → (w : List ℕ) → w ≡ zeros
      → one ≡ called h synced → two ≡ called one (cut (old_size f a)) → three ≡ called two synced → four ≡ called three (wrote_word (area_at f a + 20) w) → five ≡ called four synced → seen five ≡ restored f a
  low_seen written w is_w is_one is_two is_three is_four is_five =
      gate_exact written (seen five) (ap seen is_five ∙ ap seen is_four ∙ (λ j. overlay (seen_cut is_one is_two is_three j) (area_at f a + 20) (is_w j)))
