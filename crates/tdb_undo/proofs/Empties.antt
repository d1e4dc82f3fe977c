-- The steps that empty an undo area behind the restored file, and drop it.
use Rattle.std.proofs.Common.{◌≡◌, ℕ, zero, suc, ◌+◌, ◌*◌, ◌<◌, ◌≤◌, ◌%◌, List, [], ◌∷◌, length, take, slice_index, refl, sym, ◌∙◌, ap, subst, inl, inr, arith}
use Rattle.std.proofs.lemmas.Bool.{cases_lt, cases_eq}
use Rattle.std.proofs.lemmas.List.{get_or-take, length-take, ext_get_or}
use Rattle.tdb_disk.specs.History.{History, called, seen, synced, cut, wrote_word, Tried}
use Rattle.tdb_disk.specs.Image.{overlay}
use Rattle.tdb_disk.specs.Stop.{LeavesOnly, Quiet}
use Rattle.tdb_disk.proofs.Image.{length-overlay}
use Rattle.tdb_disk.proofs.Runs.{leaves_tried, leaves_then_sync, leaves_weaker, leaves_join, leaves_now, leaves_quiet, quiet_synced, quiet_word}
use Rattle.tdb_words.specs.declared.word.Order.{Order}
use Rattle.tdb_words.specs.declared.word.Order.TheVariants.{Little, Big}
use Rattle.tdb_words.specs.Word.{bytes_of_word}
use Rattle.tdb_words.proofs.Words.{word_agrees}
use Rattle.tdb_space.specs.Form.{Form}
use Rattle.tdb_space.specs.Record.{rec_len_of}
use Rattle.tdb_space.specs.Opening.{lies_in}
use Rattle.tdb_space.specs.Undoing.{TailOf}
use Rattle.tdb_space.specs.RecoverySteps.{Behind, TailAt, Emptied, ZerosBehind}
use Rattle.tdb_space.proofs.RecoverySteps.Emptying.{tail_torn, tail_emptied, emptied_more, word_cleared, word_beside, emptied_dropped, zeros_shrunk}
use Rattle.tdb_space.proofs.Accepted.Fresh.{word_zero}
use Rattle.tdb_space.proofs.RecoverySteps.Steps.{shut_is_tail, emptied_is_tail, blank_is_tail}
use Rattle.tdb_undo.specs.Torn.{TornIn, Put}
use Rattle.tdb_undo.specs.Recovery.{HeaderTouched, ZeroAt}
use Rattle.tdb_undo.proofs.Blocks.{put_none, put_zeros}
use Rattle.tdb_undo.proofs.Lies.{lies, lies_not}

-- the four zero bytes, in either order
pub zero_word : (o : Order) → 0 ∷ 0 ∷ 0 ∷ 0 ∷ [] ≡ bytes_of_word o 0
zero_word Little = refl
zero_word Big = refl

pub touched_none : (o : Order) (at : ℕ) (a : List ℕ) → HeaderTouched o at a a
touched_none o at a = record { size = refl; others = λ i _. refl; len = inl refl }

-- one more word of the header is 0
pub touched_more : (o : Order) (at k : ℕ) (a c : List ℕ) → k < 5 → at + 24 ≤ length a → HeaderTouched o at a c → HeaderTouched o at a (overlay c (at + 4 * k) (bytes_of_word o 0))
touched_more o at k a c low within t = record {
  size = length-overlay c (at + 4 * k) (bytes_of_word o 0) ∙ t.size;
  others = λ i out. word_beside o c (at + 4 * k) 0 i (elim out [ inl before ↦ inl (omega (arith, before)) | inr after ↦ inr (omega (arith, after, low)) ]) ∙ t.others i out;
  len = elim (cases_eq k 1) [
    | inl one ↦ inr (word_zero o (overlay c (at + 4 * k) (bytes_of_word o 0)) (at + 4) (λ i from to. word_cleared o c (at + 4 * k) i (omega (arith, one, from)) (omega (arith, one, to)) (omega (arith, one, within, t.size))))
    | inr other ↦ (
        let same : rec_len_of o (overlay c (at + 4 * k) (bytes_of_word o 0)) at ≡ rec_len_of o c at =
        word_agrees o (overlay c (at + 4 * k) (bytes_of_word o 0)) c (at + 4) (λ i from to. word_beside o c (at + 4 * k) 0 i (elim (cases_lt k 1) [ inl under ↦ inr (omega (arith, under, from)) | inr over ↦ inl (omega (arith, over, to, λ (e : k ≡ 1). other e)) ])) in
        elim t.len [ inl old ↦ inl (same ∙ old) | inr none ↦ inr (same ∙ none) ])
  ];
}

-- one more of these words, whatever the call answered
pub word_touched : (o : Order) (at k : ℕ) (h mid new : History) (w : List ℕ) → k < 5 → at + 24 ≤ length (seen h) → w ≡ bytes_of_word o 0 → LeavesOnly h mid (HeaderTouched o at (seen h)) → Tried (wrote_word (at + 4 * k) w) mid new
    → LeavesOnly h new (HeaderTouched o at (seen h))
word_touched o at k h mid new w low within is_w so_far tried =
    leaves_tried h mid new (wrote_word (at + 4 * k) w) (HeaderTouched o at (seen h)) so_far
    (λ image left. elim left.2 [
      | inl same ↦ subst (HeaderTouched o at (seen h)) (sym same) (leaves_now h mid (HeaderTouched o at (seen h)) so_far left.0 left.1)
      | inr whole ↦ subst (HeaderTouched o at (seen h)) (sym (whole ∙ ap (overlay left.0 (at + 4 * k)) is_w)) (touched_more o at k (seen h) left.0 low within (leaves_now h mid (HeaderTouched o at (seen h)) so_far left.0 left.1))
    ]) tried

-- emptying: the content, and then the header
module _ (f : Form) (r : List ℕ) (x n : ℕ) (b : Behind f r x (x + 24 + n)) (h one two : History) where
  abbrev P : List ℕ → Type 0
  P = TailOf f r

  pub content_torn : Quiet h → TailAt f r x (x + 24 + n) (seen h) → LeavesOnly h one (TornIn (lies_in (x + 24) n) h) → LeavesOnly h one P
  content_torn quiet t torn =
      leaves_weaker h one (TornIn (lies_in (x + 24) n) h) P
      (λ image s. shut_is_tail f r x (x + 24 + n) image b
      (tail_torn f r x (x + 24 + n) b (seen h) image t (s.2.size ∙ ap length (quiet s.0 s.1)) (λ i out. s.2.others i (lies_not (x + 24) n i out) ∙ ap (λ l. slice_index l i) (quiet s.0 s.1))))
      torn

  pub content_emptied : TailAt f r x (x + 24 + n) (seen h) → Put (lies_in (x + 24) n) (λ _. 0) (seen h) (seen one) → Emptied f r x (x + 24 + n) (seen one)
  content_emptied t put =
      tail_emptied f r x (x + 24 + n) b (seen one)
      (tail_torn f r x (x + 24 + n) b (seen h) (seen one) t put.size (λ i out. put.others i (lies_not (x + 24) n i out)))
      (λ i from to. put.inside i (lies (x + 24) n i from to))

  touched_emptied : (c d : List ℕ) → Emptied f r x (x + 24 + n) c → HeaderTouched f.order x c d → Emptied f r x (x + 24 + n) d
  touched_emptied c d e t = emptied_more f r x (x + 24 + n) b c d e t.size t.others t.len

  pub header_torn : Quiet h → TailAt f r x (x + 24 + n) (seen h) → LeavesOnly h one (TornIn (lies_in (x + 24) n) h) → Put (lies_in (x + 24) n) (λ _. 0) (seen h) (seen one)
      → LeavesOnly one two (HeaderTouched f.order x (seen one)) → LeavesOnly h two P
  header_torn quiet t torn put touched =
      leaves_join h one two P (content_torn quiet t torn)
      (leaves_weaker one two (HeaderTouched f.order x (seen one)) P (λ image s. emptied_is_tail f r x (x + 24 + n) image b (touched_emptied (seen one) image (content_emptied t put) s)) touched)

  pub header_emptied : TailAt f r x (x + 24 + n) (seen h) → Put (lies_in (x + 24) n) (λ _. 0) (seen h) (seen one) → Put (lies_in x 20) (λ _. 0) (seen one) (seen two)
      → Emptied f r x (x + 24 + n) (seen two) × ZeroAt x 24 (seen two)
  header_emptied t put header =
      let e = content_emptied t put in
      let len : rec_len_of f.order (seen two) x ≡ 0 = word_zero f.order (seen two) (x + 4) (λ i from to. header.inside i (lies x 20 i (omega (arith, from)) (omega (arith, to)))) in
      let all = emptied_more f r x (x + 24 + n) b (seen one) (seen two) e header.size (λ i out. header.others i (lies_not x 20 i out)) (inr len) in
      (all, λ i from to. elim (cases_lt i (x + 20)) [ inl low ↦ header.inside i (lies x 20 i from low) | inr high ↦ all.gate i high to ])

-- dropping: the word at 44, and the cut
module _ (f : Form) (r : List ℕ) (x e : ℕ) (b : Behind f r x e) (h one two three four : History) where
  abbrev Q : List ℕ → Type 0
  Q = TailOf f r

  data_there : 172 ≤ length r
  data_there = omega (arith, b.long)

  dropped : (c d : List ℕ) (w : List ℕ) → w ≡ bytes_of_word f.order 0 → Emptied f r x e c → ZeroAt x 24 c → d ≡ overlay c 44 w → ZerosBehind r d
  dropped c d w is_w t clear is_d =
      let whole : d ≡ overlay c 44 (bytes_of_word f.order 0) = is_d ∙ ap (overlay c 44) is_w in
      emptied_dropped f r x e b c d t (λ i from to. clear i from to) (ap length whole ∙ length-overlay c 44 (bytes_of_word f.order 0))
      (λ i out. ap (λ l. slice_index l i) whole ∙ word_beside f.order c 44 0 i (elim out [ inl low ↦ inl low | inr high ↦ inr (omega (arith, high)) ]))
      (λ i from to. ap (λ l. slice_index l i) whole ∙ word_cleared f.order c 44 i from (omega (arith, to)) (omega (arith, t.reach, b.room, b.past, data_there)))

  pub drop_one : Quiet h → Emptied f r x e (seen h) → ZeroAt x 24 (seen h) → (w : List ℕ) → w ≡ bytes_of_word f.order 0 → Tried (wrote_word 44 w) h one → LeavesOnly h one Q
  drop_one quiet t clear w is_w tried =
      leaves_tried h h one (wrote_word 44 w) Q (leaves_quiet h Q quiet (emptied_is_tail f r x e (seen h) b t))
      (λ image left. elim (quiet_word h 44 w image quiet left) [
        | inl same ↦ subst Q (sym same) (emptied_is_tail f r x e (seen h) b t)
        | inr whole ↦ blank_is_tail f r image b.long (dropped (seen h) image w is_w t clear whole)
      ]) tried

  pub drop_two : Quiet h → Emptied f r x e (seen h) → ZeroAt x 24 (seen h) → (w : List ℕ) → w ≡ bytes_of_word f.order 0 → one ≡ called h (wrote_word 44 w) → Tried synced one two → LeavesOnly h two Q
  drop_two quiet t clear w is_w is_one tried = leaves_then_sync h one two Q (drop_one quiet t clear w is_w (inr is_one)) tried

  behind_two : Emptied f r x e (seen h) → ZeroAt x 24 (seen h) → (w : List ℕ) → w ≡ bytes_of_word f.order 0 → one ≡ called h (wrote_word 44 w) → two ≡ called one synced → ZerosBehind r (seen two)
  behind_two t clear w is_w is_one is_two = dropped (seen h) (seen two) w is_w t clear (ap seen is_two ∙ ap seen is_one)

  pub drop_three : Quiet h → Emptied f r x e (seen h) → ZeroAt x 24 (seen h) → (w : List ℕ) → w ≡ bytes_of_word f.order 0 → length r % 4 ≡ 0 → one ≡ called h (wrote_word 44 w) → two ≡ called one synced
      → Tried (cut (length r)) two three → LeavesOnly h three Q
  drop_three quiet t clear w is_w words is_one is_two tried =
      let z = behind_two t clear w is_w is_one is_two in
      leaves_tried h two three (cut (length r)) Q (drop_two quiet t clear w is_w is_one (inr is_two))
      (λ image left. (
      let from = subst (ZerosBehind r) (sym (quiet_synced one two is_two left.0 left.1)) z in
      blank_is_tail f r image b.long (zeros_shrunk r left.0 image from (omega (arith, data_there)) left.2.front (omega (arith, left.2.no_shorter, from.longer)) (left.2.aligned from.sized words)))) tried

  pub drop_four : Quiet h → Emptied f r x e (seen h) → ZeroAt x 24 (seen h) → (w : List ℕ) → w ≡ bytes_of_word f.order 0 → length r % 4 ≡ 0 → one ≡ called h (wrote_word 44 w) → two ≡ called one synced
      → three ≡ called two (cut (length r)) → Tried synced three four → LeavesOnly h four Q
  drop_four quiet t clear w is_w words is_one is_two is_three tried = leaves_then_sync h three four Q (drop_three quiet t clear w is_w words is_one is_two (inr is_three)) tried

  pub drop_seen : Emptied f r x e (seen h) → ZeroAt x 24 (seen h) → (w : List ℕ) → w ≡ bytes_of_word f.order 0 → ZeroAt 44 4 r → one ≡ called h (wrote_word 44 w) → two ≡ called one synced
      → three ≡ called two (cut (length r)) → four ≡ called three synced → seen four ≡ r
  drop_seen t clear w is_w none is_one is_two is_three is_four =
      let z = behind_two t clear w is_w is_one is_two in
      let is : seen four ≡ take (length r) (seen two) = ap seen is_four ∙ ap seen is_three in
      let long : length (take (length r) (seen two)) ≡ length r = omega (arith, length-take (length r) (seen two), z.longer) in
      is ∙ ext_get_or 0 (take (length r) (seen two)) r long (λ i low. same z i (omega (arith, low, long)))
    where
      same : ZerosBehind r (seen two) → (i : ℕ) → i < length r → slice_index (take (length r) (seen two)) i ≡ slice_index r i
      same z i low = get_or-take (length r) (seen two) i 0 low ∙ elim (cases_lt i 44) [
        | inl under ↦ z.front i low (inl under)
        | inr above ↦ elim (cases_lt i 48) [
          | inl head ↦ z.head i above head ∙ sym (none i above head)
          | inr past ↦ z.front i low (inr past)
        ]
      ]

-- each of four zeros
pub zero_there : (j : ℕ) → slice_index (0 ∷ 0 ∷ 0 ∷ 0 ∷ []) j ≡ 0
zero_there zero = refl
zero_there (suc zero) = refl
zero_there (suc (suc zero)) = refl
zero_there (suc (suc (suc zero))) = refl
zero_there (suc (suc (suc (suc j)))) = refl

-- a run of words goes on from nothing, and by one more
pub words_none : (at : ℕ) (a : List ℕ) → Put (lies_in at (4 * 0)) (λ _. 0) a a
words_none at a = put_none (λ _. 0) at a

pub words_more : (at k : ℕ) (first now : List ℕ) → at + 4 * k + 4 ≤ length first → Put (lies_in at (4 * k)) (λ _. 0) first now → Put (lies_in at (4 * (k + 1))) (λ _. 0) first (overlay now (at + 4 * k) (0 ∷ 0 ∷ 0 ∷ 0 ∷ []))
words_more at k first now within put =
    let e : 4 * k + 4 ≡ 4 * (k + 1) = omega arith in
    subst (λ n. Put (lies_in at n) (λ _. 0) first (overlay now (at + 4 * k) (0 ∷ 0 ∷ 0 ∷ 0 ∷ []))) e
    (put_zeros at (4 * k) 4 first now (0 ∷ 0 ∷ 0 ∷ 0 ∷ []) (omega (arith, within)) refl put (λ j _. zero_there j))
