-- The last word and the lengths are put into the undo area.
use Rattle.std.proofs.Common.{◌≡◌, ℕ, ◌+◌, ◌-◌, ◌<◌, ◌≤◌, ◌⊎◌, ◌^◌, Bool, true, false, List, [], ◌∷◌, length, slice_index, refl, sym, ◌∙◌, ap, subst, inl, inr, arith}
use Rattle.std.proofs.lemmas.Bool.{cases_lt, or_parts, or_left, or_right, or_from}
use Rattle.tdb_disk.specs.History.{History, seen, synced, Tried, TriedOver}
use Rattle.tdb_disk.specs.Image.{overlay}
use Rattle.tdb_disk.specs.Stop.{LeavesOnly}
use Rattle.tdb_disk.proofs.Image.{length-overlay, overlay_below, overlay_above}
use Rattle.tdb_disk.proofs.Runs.{leaves_then_sync, leaves_weaker}
use Rattle.tdb_words.specs.declared.word.Order.{Order}
use Rattle.tdb_words.specs.Word.{word, bytes_of_word}
use Rattle.tdb_words.specs.Record.{rec_at}
use Rattle.tdb_words.proofs.Words.{word_agrees}
use Rattle.tdb_space.specs.Form.{Form, form_of}
use Rattle.tdb_space.specs.Accepted.{Accept, AcceptWith}
use Rattle.tdb_space.specs.Gate.{InContent}
use Rattle.tdb_space.specs.Moved.{StaysAccepted}
use Rattle.tdb_space.specs.NewArea.{Longer}
use Rattle.tdb_space.specs.Undoing.{area_at, Reopens}
use Rattle.tdb_space.proofs.NewArea.AreaSets.{longer_stays}
use Rattle.tdb_space.proofs.Gate.Contents.{content_free}
use Rattle.tdb_undo.specs.Area.{IsAreaOf, area_of}
use Rattle.tdb_undo.proofs.Clears.{stays_reopens, stays_further, gate}
use Rattle.tdb_undo.proofs.Growths.{grew_seen, longer_area, longer_number}
use Rattle.tdb_undo.proofs.Whole.{same_end}
use Rattle.tdb_space.specs.Extents.{Extent, times}
use Rattle.tdb_space.specs.Runs.{InOrder}
use Rattle.tdb_space.proofs.Extents.Counts.{once_in}
use Rattle.tdb_space.specs.Opening.{lies_in}
use Rattle.tdb_undo.specs.declared.area.Area.{Area}
use Rattle.tdb_undo.specs.Torn.{TornAt, TornIn}
use Rattle.tdb_undo.specs.Growth.{GrewAtMost}
use Rattle.tdb_undo.specs.Content.{AllBeside, BesideRest, PutUpTo, is_content, IsFilled}
use Rattle.tdb_undo.proofs.Blocks.{wider_torn, write_torn}
use Rattle.tdb_undo.proofs.Gives.{stop}
use Rattle.tdb_undo.proofs.Lies.{lies, lies_not, lies_outside}
use Rattle.tdb_undo.proofs.Puts.{entries_content}
use Rattle.tdb_space.proofs.RecoverySteps.Emptying.{four_bytes}
use Rattle.tdb_space.proofs.Exchange.Overlaid.{word_put, word_overlaid}

-- what isn't filled stays in each of the writes
not_words : (a : Area) (i : ℕ) → is_content a i ≡ false → (i < a.at + 8) ⊎ (a.at + 16 ≤ i)
not_words a i out = elim (lies_outside (a.at + 8) 8 i (or_parts _ _ out).0) [ inl low ↦ inl low | inr high ↦ inr (omega (arith, high)) ]

not_content : (a : Area) (i : ℕ) → is_content a i ≡ false → (i < a.at + 24) ⊎ (stop a ≤ i)
not_content a i out = elim (lies_outside (a.at + 24) a.header.rec_len i (or_parts _ _ out).1) [ inl low ↦ inl low | inr high ↦ inr (omega (arith, high)) ]

in_content : (a : Area) (i : ℕ) → a.at + 24 ≤ i → i < stop a → is_content a i ≡ true
in_content a i low high = or_right _ _ (lies (a.at + 24) a.header.rec_len i low (omega (arith, high)))

in_words : (a : Area) (i : ℕ) → a.at + 8 ≤ i → i < a.at + 16 → is_content a i ≡ true
in_words a i low high = or_left _ _ (lies (a.at + 8) 8 i low (omega (arith, high)))

module _ (o : Order) (a : Area) (h one two three four : History) where
  abbrev P : ℕ → Bool
  P = is_content a

  pub fill_one : LeavesOnly h one (TornIn (lies_in (a.at + 24) a.header.rec_len) h) → LeavesOnly h one (TornIn P h)
  fill_one torn = wider_torn h one (lies_in (a.at + 24) a.header.rec_len) P (λ i out. (or_parts _ _ out).1) torn

  pub fill_two : (place n : ℕ) → a.at + 24 ≤ place → place + n ≤ stop a → LeavesOnly h one (TornIn (lies_in (a.at + 24) a.header.rec_len) h) → TriedOver place n one two → LeavesOnly h two (TornIn P h)
  fill_two place n above fits torn tried = write_torn h one two P place n (λ i low high. in_content a i (omega (arith, low, above)) (omega (arith, high, fits))) (fill_one torn) tried

  pub fill_three : (n : ℕ) → n ≤ 8 → LeavesOnly h two (TornIn P h) → TriedOver (a.at + 8) n two three → LeavesOnly h three (TornIn P h)
  fill_three n short so_far tried = write_torn h two three P (a.at + 8) n (λ i low high. in_words a i low (omega (arith, high, short))) so_far tried

  pub fill_four : LeavesOnly h three (TornIn P h) → Tried synced three four → LeavesOnly h four (TornIn P h)
  fill_four so_far tried = leaves_then_sync h three four (TornIn P h) so_far tried

-- the image at the end
pub filled : (o : Order) (a : Area) (es : List Extent) (old_len place n : ℕ) (first b c d w v : List ℕ) → 24 + a.header.rec_len < 2 ^ 32 → stop a ≤ length first → a.at + 24 ≤ place → place + 4 ≤ stop a
    → PutUpTo o a es first b place → w ≡ bytes_of_word o (24 + a.header.rec_len) → c ≡ overlay b place w → length v ≡ 8 → word o v 0 ≡ old_len → word o v 4 ≡ n → n + a.at + 24 ≡ place + 4 → d ≡ overlay c (a.at + 8) v
    → IsFilled o a old_len es first d
filled o a es old_len place n first b c d w v short inside above fits put is_w is_c eight old_is len_is n_is is_d = record {
  size = ap length is_d ∙ length-overlay c (a.at + 8) v ∙ ap length is_c ∙ length-overlay b place w ∙ put.size;
  others = λ i out. beside_words i (not_words a i out) ∙ beside_last i (elim (not_content a i out) [ inl low ↦ inl (omega (arith, low, above)) | inr high ↦ inr (omega (arith, high, fits)) ])
      ∙ put.others i (elim (not_content a i out) [ inl low ↦ inl low | inr high ↦ inr (omega (arith, high, fits)) ]);
  content = entries_content o d (24 + a.header.rec_len) (a.at + 24) place es
      (put.stand d (ap length is_d ∙ length-overlay c (a.at + 8) v ∙ ap length is_c ∙ length-overlay b place w) (λ j out. beside_words j (clear_words j out) ∙ beside_last j (clear_last j out)))
      (word_agrees o d c place (λ i from to. beside_words i (inr (omega (arith, from, above)))) ∙ last_word);
  old_length = first_word;
  data_len = second_word ∙ omega (arith, put.count, n_is);
}
  where
    four : length w ≡ 4
    four = ap length is_w ∙ four_bytes o (24 + a.header.rec_len)

    beside_words : (i : ℕ) → (i < a.at + 8) ⊎ (a.at + 16 ≤ i) → slice_index d i ≡ slice_index c i
    beside_words i (inl low) = ap (λ l. slice_index l i) is_d ∙ overlay_below c (a.at + 8) v i low
    beside_words i (inr high) = ap (λ l. slice_index l i) is_d ∙ overlay_above c (a.at + 8) v i (omega (arith, high, eight))

    beside_last : (i : ℕ) → (i < place) ⊎ (place + 4 ≤ i) → slice_index c i ≡ slice_index b i
    beside_last i (inl low) = ap (λ l. slice_index l i) is_c ∙ overlay_below b place w i low
    beside_last i (inr high) = ap (λ l. slice_index l i) is_c ∙ overlay_above b place w i (omega (arith, high, four))

    clear_words : (j : ℕ) → BesideRest a place j → (j < a.at + 8) ⊎ (a.at + 16 ≤ j)
    clear_words j (inl low) = inl (omega (arith, low))
    clear_words j (inr (inl mid)) = inr (omega (arith, mid.0))
    clear_words j (inr (inr high)) = inr (omega (arith, high))

    clear_last : (j : ℕ) → BesideRest a place j → (j < place) ⊎ (place + 4 ≤ j)
    clear_last j (inl low) = inl (omega (arith, low, above))
    clear_last j (inr (inl mid)) = inl mid.1
    clear_last j (inr (inr high)) = inr (omega (arith, high, fits))

    last_word : word o c place ≡ 24 + a.header.rec_len
    last_word = ap (λ l. word o l place) (is_c ∙ ap (overlay b place) is_w) ∙ word_put o b place (24 + a.header.rec_len) short (omega (arith, fits, inside, put.size))

    c_long : length c ≡ length first
    c_long = ap length is_c ∙ length-overlay b place w ∙ put.size

    first_word : word o d (a.at + 8) ≡ old_len
    first_word = ap (λ l. word o l (a.at + 8)) is_d ∙ ap (word o (overlay c (a.at + 8) v)) (let e : a.at + 8 ≡ a.at + 8 + 0 = omega arith in e) ∙ word_overlaid o c (a.at + 8) v 0 (omega (arith, eight)) (omega (arith, eight, c_long, inside)) ∙ old_is

    second_word : word o d (a.at + 12) ≡ n
    second_word = ap (λ l. word o l (a.at + 12)) is_d ∙ ap (word o (overlay c (a.at + 8) v)) (let e : a.at + 12 ≡ a.at + 8 + 4 = omega arith in e) ∙ word_overlaid o c (a.at + 8) v 4 (omega (arith, eight)) (omega (arith, eight, c_long, inside)) ∙ len_is

-- the area that was read is the one that the image leads to
pub area_is : (o : Order) (img : List ℕ) (area : Area) → IsAreaOf o img area → area ≡ area_of o img
area_is o img area is = λ j. record { at = is.there j; header = (is.head ∙ ap (rec_at o img) is.there) j }

-- a byte beside what is filled
pub content_beside : (a : Area) (i : ℕ) → (i < a.at + 8) ⊎ (((a.at + 16 ≤ i) × (i < a.at + 24)) ⊎ (stop a ≤ i)) → is_content a i ≡ false
content_beside a i (inl low) = or_from _ _ (lies_not (a.at + 8) 8 i (inl low)) (lies_not (a.at + 24) a.header.rec_len i (inl (omega (arith, low))))
content_beside a i (inr (inl mid)) = or_from _ _ (lies_not (a.at + 8) 8 i (inr (omega (arith, mid.0)))) (lies_not (a.at + 24) a.header.rec_len i (inl mid.1))
content_beside a i (inr (inr high)) = or_from _ _ (lies_not (a.at + 8) 8 i (inr (omega (arith, high)))) (lies_not (a.at + 24) a.header.rec_len i (inr (omega (arith, high))))

-- runs that hold no byte of the undo area lie beside it
pub all_beside : (a : Area) (len old from : ℕ) (es : List Extent) → old ≤ len → InOrder from es → ((i : ℕ) → 1 ≤ times es i → i < old) → ((i : ℕ) → a.at ≤ i → i < a.at + 24 + a.header.rec_len → times es i ≡ 0) → AllBeside a len es
all_beside a len old from [] within ordered low clear = tt
all_beside a len old from (e ∷ es) within ordered low clear = (
  omega (arith, low (e.0 + e.1 - 1) (omega (arith, once_in e (e.0 + e.1 - 1) (omega (arith, ordered.1)) (omega (arith, ordered.1)))), within, ordered.1),
  elim (cases_lt a.at (e.0 + e.1)) [
    | inr before ↦ inl before
    | inl past ↦ elim (cases_lt e.0 (a.at + 24 + a.header.rec_len)) [
      | inr behind ↦ inr behind
      | inl under ↦ absurd (elim (cases_lt e.0 a.at) [
        | inl lower ↦ omega (arith, clear a.at (omega arith) (omega arith), once_in e a.at (omega (arith, lower)) past)
        | inr higher ↦ omega (arith, clear e.0 higher under, once_in e e.0 (omega arith) (omega (arith, ordered.1)))
      ])
    ]
  ],
  all_beside a len old (e.0 + e.1 + 1) es within ordered.2 (λ i held. low i (omega (arith, held))) (λ i at to. omega (arith, clear i at to)),
)

-- what is filled counts for nothing while the gate is shut
module _ (f : Form) (a from image : List ℕ) (area : Area) (A : AcceptWith f a []) (long : Longer a from) (there : IsAreaOf f.order from area) (above : 172 ≤ area.at) (torn : TornAt (is_content area) from image) where
  stays : StaysAccepted f a from
  stays = longer_stays f a from A long

  some : word f.order from 44 ≡ 0 → ⊥
  some none = omega (arith, none, there.there, above)

  beside : (i : ℕ) → (i < area.at + 8) ⊎ (((area.at + 16 ≤ i) × (i < area.at + 24)) ⊎ (stop area ≤ i)) → slice_index image i ≡ slice_index from i
  beside i out = torn.others i (content_beside area i out)

  in_content_only : InContent f from image
  in_content_only = record {
    some = some;
    size = torn.size;
    others = λ i out. beside i (elim out [ inl low ↦ inl (omega (arith, low, there.there)) | inr high ↦ inr (inr (omega (arith, high, same_end f from area there))) ]);
    rec_len = word_agrees f.order image from (area_at f from + 4) (λ i at to. beside i (inl (omega (arith, to, there.there))));
    shut = word_agrees f.order image from (area_at f from + 20) (λ i at to. beside i (inr (inl (omega (arith, at, there.there), omega (arith, to, there.there))))) ∙ gate f from stays.accepted some;
  }

  pub filled_stays : StaysAccepted f a image
  filled_stays = stays_further f a from image stays (content_free f from image stays.accepted in_content_only)

  pub filled_reopens : Accept a → form_of a ≡ f → Reopens a image
  filled_reopens accepted is = stays_reopens f a image accepted is filled_stays
      (λ i at to. beside i (inl (omega (arith, to, above))) ∙ longer_number f a from A long i at to)

pub fill_reopens : (f : Form) (a : List ℕ) (h new : History) (area : Area) → Accept a → form_of a ≡ f → GrewAtMost a h → IsAreaOf f.order (seen h) area → 172 ≤ area.at
    → LeavesOnly h new (TornIn (is_content area) h) → LeavesOnly h new (Reopens a)
fill_reopens f a h new area A is grown there above torn =
    let accepted : AcceptWith f a [] = subst (λ g. AcceptWith g a []) is A in
    leaves_weaker h new (TornIn (is_content area) h) (Reopens a)
    (λ image t. (
    let same : area ≡ area_of f.order t.0 = area_is f.order (seen h) area there ∙ longer_area f a (seen h) accepted (grew_seen a h grown) ∙ sym (longer_area f a t.0 accepted (grown t.0 t.1)) in
    let read : IsAreaOf f.order t.0 area = subst (IsAreaOf f.order t.0) (sym same) (record { there = refl; head = refl }) in
    filled_reopens f a t.0 image area accepted (grown t.0 t.1) read above t.2 A is)) torn
