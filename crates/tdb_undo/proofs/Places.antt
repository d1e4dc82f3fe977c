-- The steps that place a new undo area.
use Rattle.std.proofs.Common.{◌≡◌, ℕ, ◌+◌, ◌<◌, ◌≤◌, ◌%◌, ◌^◌, List, length, slice_index, refl, sym, ◌∙◌, ap, subst, inl, inr, arith}
use Rattle.std.proofs.lemmas.Bool.{cases_lt}
use Rattle.std.proofs.lemmas.List.{get_or_past}
use Rattle.tdb_disk.specs.History.{History, called, seen, synced, grew, wrote_word, Tried}
use Rattle.tdb_disk.specs.Image.{overlay, padded}
use Rattle.tdb_disk.specs.Stop.{LeavesOnly, Quiet, Grown}
use Rattle.tdb_disk.proofs.Image.{length-overlay, length-padded, padded_below, padded_in}
use Rattle.tdb_disk.proofs.Runs.{leaves_quiet, leaves_tried, leaves_then_sync, leaves_seen_now, quiet_synced, quiet_word}
use Rattle.tdb_words.specs.declared.word.Order.{Order}
use Rattle.tdb_words.specs.Word.{word, bytes_of_word}
use Rattle.tdb_words.proofs.Words.{word_agrees}
use Rattle.tdb_space.specs.Record.{rec_len_of}
use Rattle.tdb_space.proofs.RecoverySteps.Emptying.{word_beside}
use Rattle.tdb_space.proofs.Accepted.Fresh.{word_zero}
use Rattle.tdb_space.proofs.Exchange.Overlaid.{word_put}
use Rattle.tdb_undo.specs.Placing.{Placing, old_area, new_area, IsSet}

-- behind the end of an image every byte counts as 0
past_end : (a : List ℕ) (i : ℕ) → length a ≤ i → slice_index a i ≡ 0
past_end a i high = get_or_past a i 0 high

-- longer by zeros
longer_placing : (o : Order) (b c : List ℕ) (at : ℕ) → 48 ≤ length b → length b ≤ at → length b ≤ length c → length c % 4 ≡ 0
    → ((i : ℕ) → i < length b → slice_index c i ≡ slice_index b i) → ((i : ℕ) → length b ≤ i → slice_index c i ≡ 0) → Placing o b at c
longer_placing o b c at long behind longer sized same zeros = record {
  longer = longer;
  sized = sized;
  same = λ i low _. same i low;
  zeros = λ i high _. zeros i high;
  leads = old_area (word_agrees o c b 44 (λ i from to. same i (omega (arith, to, long)))) (λ i from to. zeros i (omega (arith, from, behind)));
}

pub grown_placing : (o : Order) (b c : List ℕ) (at to : ℕ) → 48 ≤ length b → length b ≤ at → length b % 4 ≡ 0 → to % 4 ≡ 0 → Grown (length b) to b c → Placing o b at c
grown_placing o b c at to long behind words aligned g =
    longer_placing o b c at long behind g.no_shorter (g.aligned words aligned) g.below (λ i high. elim (cases_lt i to) [
      | inl under ↦ elim (g.between i high under) [ inl old ↦ old ∙ past_end b i high | inr zero_there ↦ zero_there ]
      | inr over ↦ g.above i over ∙ past_end b i high
    ])

-- the word at 44 leads to the new area
pub led_placing : (o : Order) (b c : List ℕ) (at : ℕ) → 48 ≤ length b → length b ≤ at → at < 2 ^ 32 → Placing o b at c → rec_len_of o c at ≡ 0 → at + 24 ≤ length c
    → Placing o b at (overlay c 44 (bytes_of_word o at))
led_placing o b c at long behind fits p none within =
    let d = overlay c 44 (bytes_of_word o at) in
    let size : length d ≡ length c = length-overlay c 44 (bytes_of_word o at) in
    let leads : word o d 44 ≡ at = word_put o c 44 at fits (omega (arith, within, behind, long)) in
    let len : rec_len_of o d at ≡ 0 = word_agrees o d c (at + 4) (λ i from to. word_beside o c 44 at i (inr (omega (arith, from, behind, long)))) ∙ none in
    record {
      longer = omega (arith, size, p.longer);
      sized = ap (λ n. n % 4) size ∙ p.sized;
      same = λ i low apart. word_beside o c 44 at i (elim apart [ inl under ↦ inl under | inr over ↦ inr (omega (arith, over)) ]) ∙ p.same i low apart;
      zeros = λ i high apart. word_beside o c 44 at i (inr (omega (arith, high, long))) ∙ p.zeros i high apart;
      leads = new_area leads (ap (λ n. n % 4) len) (omega (arith, len, size, within));
    }

-- and the new area has its length
pub sized_placing : (o : Order) (b c : List ℕ) (at n : ℕ) → 48 ≤ length b → length b ≤ at → n < 2 ^ 32 → n % 4 ≡ 0 → Placing o b at c → word o c 44 ≡ at → at + 24 + n ≤ length c
    → Placing o b at (overlay c (at + 4) (bytes_of_word o n)) × (word o (overlay c (at + 4) (bytes_of_word o n)) 44 ≡ at) × (rec_len_of o (overlay c (at + 4) (bytes_of_word o n)) at ≡ n)
sized_placing o b c at n long behind fits aligned p leads within =
    let d = overlay c (at + 4) (bytes_of_word o n) in
    let size : length d ≡ length c = length-overlay c (at + 4) (bytes_of_word o n) in
    let led : word o d 44 ≡ at = word_agrees o d c 44 (λ i from to. word_beside o c (at + 4) n i (inl (omega (arith, to, behind, long)))) ∙ leads in
    let len : rec_len_of o d at ≡ n = word_put o c (at + 4) n fits (omega (arith, within)) in (
      record {
        longer = omega (arith, size, p.longer);
        sized = ap (λ m. m % 4) size ∙ p.sized;
        same = λ i low apart. word_beside o c (at + 4) n i (inl (omega (arith, low, behind))) ∙ p.same i low apart;
        zeros = λ i high apart. word_beside o c (at + 4) n i (elim apart [ inl under ↦ inl under | inr over ↦ inr (omega (arith, over)) ]) ∙ p.zeros i high apart;
        leads = new_area led (ap (λ m. m % 4) len ∙ aligned) (omega (arith, len, size, within));
      },
      led,
      len,
    )

module _ (o : Order) (at n : ℕ) (h one two three four five six : History) (long : 48 ≤ length (seen h)) (behind : length (seen h) ≤ at) (words : length (seen h) % 4 ≡ 0)
    (aligned : at % 4 ≡ 0) (len_aligned : n % 4 ≡ 0) (short : at + 24 + n < 2 ^ 32) where
  abbrev P : List ℕ → Type 0
  P = Placing o (seen h) at

  to : ℕ
  to = at + 24 + n

  abbrev w44 : List ℕ
  w44 = bytes_of_word o at

  abbrev wn : List ℕ
  wn = bytes_of_word o n

  itself : P (seen h)
  itself = longer_placing o (seen h) (seen h) at long behind (omega arith) words (λ i _. refl) (λ i high. past_end (seen h) i high)

  pub place_one : Quiet h → Tried (grew (at + 24 + n)) h one → LeavesOnly h one P
  place_one quiet tried =
      leaves_tried h h one (grew (at + 24 + n)) P (leaves_quiet h P quiet itself)
      (λ image left. grown_placing o (seen h) image at (at + 24 + n) long behind words (omega (arith, aligned, len_aligned)) (subst (λ from. Grown (length (seen h)) (at + 24 + n) from image) (quiet left.0 left.1) left.2)) tried

  pub place_two : Quiet h → one ≡ called h (grew (at + 24 + n)) → Tried synced one two → LeavesOnly h two P
  place_two quiet is_one tried = leaves_then_sync h one two P (place_one quiet (inr is_one)) tried

  seen_two : one ≡ called h (grew (at + 24 + n)) → two ≡ called one synced → seen two ≡ padded (seen h) (at + 24 + n)
  seen_two is_one is_two = ap seen is_two ∙ ap seen is_one

  -- the grown image
  grown : List ℕ
  grown = padded (seen h) (at + 24 + n)

  grown_length : length (padded (seen h) (at + 24 + n)) ≡ at + 24 + n
  grown_length = omega (arith, length-padded (seen h) (at + 24 + n), behind)

  grown_is : P (padded (seen h) (at + 24 + n))
  grown_is =
      longer_placing o (seen h) (padded (seen h) (at + 24 + n)) at long behind (omega (arith, grown_length, behind)) (omega (arith, grown_length, aligned, len_aligned))
      (λ i low. padded_below (seen h) (at + 24 + n) i low) (λ i high. padded_in (seen h) (at + 24 + n) i high)

  grown_none : rec_len_of o (padded (seen h) (at + 24 + n)) at ≡ 0
  grown_none = word_zero o (padded (seen h) (at + 24 + n)) (at + 4) (λ i from under. padded_in (seen h) (at + 24 + n) i (omega (arith, from, behind)))

  led : P (overlay (padded (seen h) (at + 24 + n)) 44 w44)
  led = led_placing o (seen h) (padded (seen h) (at + 24 + n)) at long behind (omega (arith, short)) grown_is grown_none (omega (arith, grown_length))

  pub place_three : Quiet h → (w : List ℕ) → w ≡ w44 → one ≡ called h (grew (at + 24 + n)) → two ≡ called one synced → Tried (wrote_word 44 w) two three → LeavesOnly h three P
  place_three quiet w is_w is_one is_two tried =
      let so_far = place_two quiet is_one (inr is_two) in
      leaves_tried h two three (wrote_word 44 w) P so_far
      (λ image left. elim (quiet_word two 44 w image (quiet_synced one two is_two) left) [
        | inl same ↦ subst P (sym same) (leaves_seen_now h two P so_far)
        | inr whole ↦ subst P (sym (whole ∙ (λ j. overlay (seen_two is_one is_two j) 44 (is_w j)))) led
      ]) tried

  pub place_four : Quiet h → (w : List ℕ) → w ≡ w44 → one ≡ called h (grew (at + 24 + n)) → two ≡ called one synced → three ≡ called two (wrote_word 44 w) → Tried synced three four → LeavesOnly h four P
  place_four quiet w is_w is_one is_two is_three tried = leaves_then_sync h three four P (place_three quiet w is_w is_one is_two (inr is_three)) tried

  seen_four : (w : List ℕ) → w ≡ w44 → one ≡ called h (grew (at + 24 + n)) → two ≡ called one synced → three ≡ called two (wrote_word 44 w) → four ≡ called three synced
      → seen four ≡ overlay (padded (seen h) (at + 24 + n)) 44 w44
  seen_four w is_w is_one is_two is_three is_four = ap seen is_four ∙ ap seen is_three ∙ (λ j. overlay (seen_two is_one is_two j) 44 (is_w j))

  abbrev last : List ℕ
  last = overlay (overlay (padded (seen h) (at + 24 + n)) 44 w44) (at + 4) wn

  last_is : P last × (word o last 44 ≡ at) × (rec_len_of o last at ≡ n)
  last_is =
      sized_placing o (seen h) (overlay (padded (seen h) (at + 24 + n)) 44 w44) at n long behind (omega (arith, short)) len_aligned led
      (word_put o (padded (seen h) (at + 24 + n)) 44 at (omega (arith, short)) (omega (arith, grown_length, behind, long)))
      (omega (arith, length-overlay (padded (seen h) (at + 24 + n)) 44 w44, grown_length))

  pub place_five : Quiet h → (w v : List ℕ) → w ≡ w44 → v ≡ wn → one ≡ called h (grew (at + 24 + n)) → two ≡ called one synced → three ≡ called two (wrote_word 44 w) → four ≡ called three synced
      → Tried (wrote_word (at + 4) v) four five → LeavesOnly h five P
  place_five quiet w v is_w is_v is_one is_two is_three is_four tried =
      let so_far = place_four quiet w is_w is_one is_two is_three (inr is_four) in
      leaves_tried h four five (wrote_word (at + 4) v) P so_far
      (λ image left. elim (quiet_word four (at + 4) v image (quiet_synced three four is_four) left) [
        | inl same ↦ subst P (sym same) (leaves_seen_now h four P so_far)
        | inr whole ↦ subst P (sym (whole ∙ (λ j. overlay (seen_four w is_w is_one is_two is_three is_four j) (at + 4) (is_v j)))) last_is.0
      ]) tried

  pub place_six : Quiet h → (w v : List ℕ) → w ≡ w44 → v ≡ wn → one ≡ called h (grew (at + 24 + n)) → two ≡ called one synced → three ≡ called two (wrote_word 44 w) → four ≡ called three synced
      → five ≡ called four (wrote_word (at + 4) v) → Tried synced five six → LeavesOnly h six P
  place_six quiet w v is_w is_v is_one is_two is_three is_four is_five tried =
      leaves_then_sync h five six P (place_five quiet w v is_w is_v is_one is_two is_three is_four (inr is_five)) tried

  pub place_set : (w v : List ℕ) → w ≡ w44 → v ≡ wn → one ≡ called h (grew (at + 24 + n)) → two ≡ called one synced → three ≡ called two (wrote_word 44 w) → four ≡ called three synced
      → five ≡ called four (wrote_word (at + 4) v) → six ≡ called five synced → P (seen six) × IsSet o (seen six) at n
  place_set w v is_w is_v is_one is_two is_three is_four is_five is_six =
      let is : seen six ≡ last = ap seen is_six ∙ ap seen is_five ∙ (λ j. overlay (seen_four w is_w is_one is_two is_three is_four j) (at + 4) (is_v j)) in (
        subst P (sym is) last_is.0,
        record {
          there = ap (λ c. word o c 44) is ∙ last_is.1;
          rec_len = ap (λ c. rec_len_of o c at) is ∙ last_is.2;
          size = ap length is ∙ length-overlay (overlay (padded (seen h) (at + 24 + n)) 44 w44) (at + 4) wn ∙ length-overlay (padded (seen h) (at + 24 + n)) 44 w44 ∙ grown_length;
        },
      )
