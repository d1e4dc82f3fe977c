-- The images that a stop may leave of short histories, one by one.
use Rattle.std.proofs.Common.{◌≡◌, ℕ, ◌%◌, ◌≤◌, List, [], ◌∷◌, length, take, slice_index, inl, inr, refl, sym, ap, ◌∙◌, arith}
use Rattle.tdb_disk.specs.Image.{overlay, padded}
use Rattle.tdb_disk.specs.ShortHistories.{ShortHistories, eight, four}
use Rattle.tdb_disk.specs.Stop.{Grown}
use Rattle.tdb_disk.proofs.Image.{length-padded, padded_below, padded_in, padded_above}
use Rattle.tdb_disk.proofs.Stop.{torn_overlay, shrunk_nothing}

-- a growth may leave a part of it
grown_part : (part to : ℕ) (image : List ℕ) → length image ≤ part → part ≤ to → part % 4 ≡ 0 → Grown (length image) to image (padded image part)
grown_part part to image more less whole = record {
  no_shorter = omega (arith, length-padded image part);
  no_longer = omega (arith, length-padded image part, more, less);
  aligned = λ old new. (let is : length (padded image part) ≡ part = omega (arith, length-padded image part, more) in ap (λ n. n % 4) is ∙ whole);
  below = λ i low. padded_below image part i low;
  above = λ i high. padded_above image part i (omega (arith, high, less));
  between = λ i low high. inr (padded_in image part i low);
}

-- the first image has another byte than a list at a place
differs : (image from : List ℕ) (place : ℕ) → image ≡ from → slice_index image place ≡ slice_index from place
differs image from place same = ap (λ l. slice_index l place) same

pub short_histories : ShortHistories
short_histories = record {
  any_bytes_written = (eight, refl, torn_overlay 4 eight (165 ∷ 6 ∷ 9 ∷ 0 ∷ []) 4 refl);
  none_outside_it = λ left.
      (let byte : 0 ≡ 1 = left.2.below 0 (omega arith) ∙ differs left.0 eight 0 left.1 in omega (arith, byte));
  word_old = (eight, refl, inl refl);
  word_new = (eight, refl, inr refl);
  word_not_torn = λ left. elim left.2 [
    | inl same ↦ (let byte : 9 ≡ 5 = differs (1 ∷ 2 ∷ 3 ∷ 4 ∷ 9 ∷ 9 ∷ 7 ∷ 8 ∷ []) eight 4 (same ∙ left.1) in omega (arith, byte))
    | inr whole ↦ (let byte : 7 ≡ 9 = ap (λ l. slice_index l 6) (whole ∙ ap (λ from. overlay from 4 (four 9)) left.1) in omega (arith, byte))
  ];
  length_between = (eight, refl, grown_part 12 16 eight (omega arith) (omega arith) refl);
  not_half_a_word = λ left.
      (let aligned : 2 ≡ 0 = left.2.aligned (ap (λ l. length l % 4) left.1) refl in omega (arith, aligned));
  growth_is_zero = λ left. elim (left.2.between 8 (omega arith) (omega arith)) [
    | inl old ↦ (let byte : 7 ≡ 0 = old ∙ differs left.0 eight 8 left.1 in omega (arith, byte))
    | inr new ↦ (let byte : 7 ≡ 0 = new in omega (arith, byte))
  ];
  write_without_its_cut = (eight, (eight, refl, shrunk_nothing 4 eight), torn_overlay 0 eight (9 ∷ 7 ∷ 9 ∷ 7 ∷ []) 4 refl);
  cut_bytes_as_they_were = λ left.
      (let whole : left.0 ≡ eight =
      left.1.2.front ∙ ap (λ n. take n left.1.0) (sym left.2.size) ∙ ap (take 8) left.1.1 in
      let byte : 9 ≡ 5 = left.2.above 4 (omega arith) ∙ differs left.0 eight 4 whole in
      omega (arith, byte));
  sync_is_whole = refl;
  sync_is_last = λ left. (let byte : 5 ≡ 9 = ap (λ l. slice_index l 4) left in omega (arith, byte));
}
