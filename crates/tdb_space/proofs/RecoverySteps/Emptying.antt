-- The steps of a recovery behind the restored image: its undo area is emptied and given up, and the zeros are cut.
use Rattle.std.proofs.Common.{◌≡◌, ℕ, zero, suc, ◌+◌, ◌<◌, ◌≤◌, ◌⊎◌, List, length, take, refl, sym, ◌∙◌, ap, inl, inr, arith}
use Rattle.std.specs.Prelude.{slice_index, ◌%◌}
use Rattle.std.proofs.lemmas.Bool.{cases_lt, cases_eq}
use Rattle.std.proofs.lemmas.List.{get_or-take, length-take}
use Rattle.std.proofs.lemmas.Grind.{same_number_lists}
use Rattle.tdb_disk.specs.Image.{overlay}
use Rattle.tdb_disk.proofs.Image.{length-overlay, overlay_below, overlay_above, overlay_in}
use Rattle.tdb_words.specs.declared.word.Order.{Order}
use Rattle.tdb_words.specs.declared.word.Order.TheVariants.{Little, Big}
use Rattle.tdb_words.specs.Word.{bytes_of_word}
use Rattle.tdb_words.proofs.Words.{word_agrees}
use Rattle.tdb_space.specs.Form.{Form}
use Rattle.tdb_space.specs.Record.{rec_len_of}
use Rattle.tdb_space.specs.RecoverySteps.{Behind, TailAt, Emptied, ZerosBehind, EmptyingSteps}
use Rattle.tdb_space.proofs.Accepted.Fresh.{word_zero}

module _ (f : Form) (r : List ℕ) (x e : ℕ) (b : Behind f r x e) where
  -- any bytes in the content of the area
  pub tail_torn : (c d : List ℕ) → TailAt f r x e c → length d ≡ length c → ((i : ℕ) → (i < x + 24) ⊎ (e ≤ i) → slice_index d i ≡ slice_index c i) → TailAt f r x e d
  tail_torn c d t size same =
      let rec_len : rec_len_of f.order d x ≡ rec_len_of f.order c x = word_agrees f.order d c (x + 4) (λ i _ to. same i (inl (omega (arith, to)))) in
      record {
        sized = ap (λ n. n % 4) size ∙ t.sized;
        reach = omega (arith, size, t.reach);
        front = λ i low beside. same i (inl (omega (arith, low, b.past))) ∙ t.front i low beside;
        there = word_agrees f.order d c 44 (λ i _ to. same i (inl (omega (arith, to, b.long, b.past)))) ∙ t.there;
        gate = λ i from to. same i (inl to) ∙ t.gate i from to;
        zeros = λ i from to out. same i (elim out [ inl lt ↦ inl (omega arith) | inr le ↦ inr le ]) ∙ t.zeros i from (omega (arith, to, size)) out;
        len = omega (arith, rec_len, t.len);
      }

  -- zeros in all of it
  pub tail_emptied : (c : List ℕ) → TailAt f r x e c → ((i : ℕ) → x + 24 ≤ i → i < e → slice_index c i ≡ 0) → Emptied f r x e c
  tail_emptied c t blank = record {
    sized = t.sized;
    reach = t.reach;
    front = t.front;
    there = t.there;
    gate = t.gate;
    zeros = λ i from to out.
        elim out [
          | inl lt ↦ t.zeros i from to (inl lt)
          | inr le ↦ elim (cases_lt i e) [ inl inside ↦ blank i le inside | inr past ↦ t.zeros i from to (inr past) ]
        ];
    len = inl t.len;
  }

  -- other words in its header, whose gate stays shut, and whose length stays or is 0
  pub emptied_more : (c d : List ℕ) → Emptied f r x e c → length d ≡ length c → ((i : ℕ) → (i < x) ⊎ (x + 20 ≤ i) → slice_index d i ≡ slice_index c i) → (rec_len_of f.order d x ≡ rec_len_of f.order c x) ⊎ (rec_len_of f.order d x ≡ 0) → Emptied f r x e d
  emptied_more c d t size same len = record {
    sized = ap (λ n. n % 4) size ∙ t.sized;
    reach = omega (arith, size, t.reach);
    front = λ i low beside. same i (inl (omega (arith, low, b.past))) ∙ t.front i low beside;
    there = word_agrees f.order d c 44 (λ i _ to. same i (inl (omega (arith, to, b.long, b.past)))) ∙ t.there;
    gate = λ i from to. same i (inr from) ∙ t.gate i from to;
    zeros = λ i from to out. same i (elim out [ inl lt ↦ inl lt | inr le ↦ inr (omega arith) ]) ∙ t.zeros i from (omega (arith, to, size)) out;
    len = elim len [ inr none ↦ inr none | inl stays ↦ elim t.len [ inl full ↦ inl (omega (arith, stays, full)) | inr empty ↦ inr (stays ∙ empty) ] ];
  }

-- the bytes of the word 0
zero_word : (o : Order) (j : ℕ) → j < 4 → slice_index (bytes_of_word o 0) j ≡ 0
zero_word Little zero low = refl
zero_word Little (suc zero) low = refl
zero_word Little (suc (suc zero)) low = refl
zero_word Little (suc (suc (suc j))) low = elim (cases_eq j 0) [ inl e ↦ ap (λ k. slice_index (bytes_of_word Little 0) (suc (suc (suc k)))) e | inr ne ↦ absurd (omega (arith, low, ne)) ]
zero_word Big zero low = refl
zero_word Big (suc zero) low = refl
zero_word Big (suc (suc zero)) low = refl
zero_word Big (suc (suc (suc j))) low = elim (cases_eq j 0) [ inl e ↦ ap (λ k. slice_index (bytes_of_word Big 0) (suc (suc (suc k)))) e | inr ne ↦ absurd (omega (arith, low, ne)) ]

pub four_bytes : (o : Order) (w : ℕ) → length (bytes_of_word o w) ≡ 4
four_bytes Little w = refl
four_bytes Big w = refl

-- a word that is set to 0
pub word_cleared : (o : Order) (c : List ℕ) (at i : ℕ) → at ≤ i → i < at + 4 → at + 4 ≤ length c → slice_index (overlay c at (bytes_of_word o 0)) i ≡ 0
word_cleared o c at i from to room =
    overlay_in c at (bytes_of_word o 0) i from (omega (arith, to, four_bytes o 0)) (omega (arith, to, room)) ∙ zero_word o _ (omega (arith, from, to))

pub word_beside : (o : Order) (c : List ℕ) (at w i : ℕ) → (i < at) ⊎ (at + 4 ≤ i) → slice_index (overlay c at (bytes_of_word o w)) i ≡ slice_index c i
word_beside o c at w i (inl low) = overlay_below c at (bytes_of_word o w) i low
word_beside o c at w i (inr high) = overlay_above c at (bytes_of_word o w) i (omega (arith, high, four_bytes o w))

module _ (f : Form) (r : List ℕ) (x e : ℕ) (b : Behind f r x e) where
  -- a word of the header that is set to 0, but for the gate
  pub emptied_word : (c : List ℕ) (k : ℕ) → Emptied f r x e c → k % 4 ≡ 0 → k < 20 → Emptied f r x e (overlay c (x + k) (bytes_of_word f.order 0))
  emptied_word c k t words low =
      let d = overlay c (x + k) (bytes_of_word f.order 0) in
      let room : x + k + 4 ≤ length c = omega (arith, low, b.room, t.reach) in
      let beside : (i : ℕ) → (i < x + k) ⊎ (x + k + 4 ≤ i) → slice_index d i ≡ slice_index c i = word_beside f.order c (x + k) 0 in
      emptied_more f r x e b c d t (length-overlay c (x + k) (bytes_of_word f.order 0)) (λ i out. beside i (elim out [ inl lt ↦ inl (omega arith) | inr le ↦ inr (omega (arith, le, low, words)) ]))
      (elim (cases_eq k 4) [
        | inl four ↦ inr (word_zero f.order d (x + 4) (λ i from to. word_cleared f.order c (x + k) i (omega (arith, from, four)) (omega (arith, to, four)) room))
        | inr other ↦ inl (word_agrees f.order d c (x + 4) (λ i from to. beside i (elim (cases_lt k 4) [ inl under ↦ inr (omega (arith, under, words, from)) | inr over ↦ inl (omega (arith, over, words, to, other)) ])))
      ])

-- the area is given up, where all of its header is 0
pub emptied_dropped : (f : Form) (r : List ℕ) (x e : ℕ) → Behind f r x e → (c d : List ℕ) → Emptied f r x e c → ((i : ℕ) → x ≤ i → i < x + 24 → slice_index c i ≡ 0) → length d ≡ length c → ((i : ℕ) → (i < 44) ⊎ (48 ≤ i) → slice_index d i ≡ slice_index c i) → ((i : ℕ) → 44 ≤ i → i < 48 → slice_index d i ≡ 0) → ZerosBehind r d
emptied_dropped f r x e b c d t blank size same head = record {
  sized = ap (λ n. n % 4) size ∙ t.sized;
  longer = omega (arith, size, b.past, b.room, t.reach);
  front = λ i low beside. same i beside ∙ t.front i low beside;
  head = head;
  zeros = λ i from to.
      (same i (inr (omega (arith, from, b.long)))
      ∙ elim (cases_lt i x) [
        | inl before ↦ t.zeros i from (omega (arith, to, size)) (inl before)
        | inr high ↦ elim (cases_lt i (x + 24)) [ inl inside ↦ blank i high inside | inr past ↦ t.zeros i from (omega (arith, to, size)) (inr past) ]
      ]);
}

-- the zeros are cut, all or some
pub zeros_shrunk : (r c d : List ℕ) → ZerosBehind r c → 48 ≤ length r → d ≡ take (length d) c → length r ≤ length d → length d % 4 ≡ 0 → ZerosBehind r d
zeros_shrunk r c d z long cut longer sized =
    let same : (i : ℕ) → i < length d → slice_index d i ≡ slice_index c i = λ i low. ap (λ l. slice_index l i) cut ∙ get_or-take (length d) c i 0 low in
    let no_longer : length d ≤ length c = omega (arith, ap length cut, length-take (length d) c) in
    record {
      sized = sized;
      longer = longer;
      front = λ i low beside. same i (omega (arith, low, longer)) ∙ z.front i low beside;
      head = λ i from to. same i (omega (arith, to, long, longer)) ∙ z.head i from to;
      zeros = λ i from to. same i to ∙ z.zeros i from (omega (arith, to, no_longer));
    }

pub zeros_cut : (r c : List ℕ) → ZerosBehind r c → 48 ≤ length r → ((i : ℕ) → 44 ≤ i → i < 48 → slice_index r i ≡ 0) → length c ≡ length r → c ≡ r
zeros_cut r c z long head size =
    same_number_lists c r size (λ i low.
    (let under : i < length r = omega (arith, low, size) in
    elim (cases_lt i 44) [
      | inl before ↦ z.front i under (inl before)
      | inr from ↦ elim (cases_lt i 48) [ inl to ↦ z.head i from to ∙ sym (head i from to) | inr past ↦ z.front i under (inr past) ]
    ]))

pub emptying_steps : (f : Form) (r : List ℕ) (x e : ℕ) → Behind f r x e → EmptyingSteps f r x e
emptying_steps f r x e b = record {
  torn = tail_torn f r x e b;
  emptied = tail_emptied f r x e b;
  header = emptied_word f r x e b;
  dropped = emptied_dropped f r x e b;
  cut = λ c d z. zeros_shrunk r c d z (omega (arith, b.long));
  done = λ c z. zeros_cut r c z (omega (arith, b.long));
}
