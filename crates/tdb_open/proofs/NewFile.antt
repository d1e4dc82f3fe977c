-- The bytes of a new file are an accepted image without a pair.
use Rattle.std.proofs.Common.{◌≡◌, ℕ, ◌+◌, ◌-◌, ◌*◌, ◌^◌, ◌<◌, ◌≤◌, List, length, take, replicate, refl, sym, ap, ◌∙◌, subst, inl, inr, arith}
use Rattle.std.specs.Prelude.{slice_index}
use Rattle.std.proofs.lemmas.Bool.{cases_lt}
use Rattle.std.proofs.lemmas.List.{length-append, length-replicate, get_or-append_right, get_or-replicate, get_or_past}
use Rattle.std.proofs.Math.Seq.{take-append_seam}
use Rattle.tdb_words.specs.declared.word.Order.{Order}
use Rattle.tdb_words.specs.declared.word.Order.TheVariants.{Little, Big}
use Rattle.tdb_words.specs.declared.hash.HashKind.{HashKind}
use Rattle.tdb_words.specs.Word.{word}
use Rattle.tdb_words.specs.Header.{new_header, header_at, header_fault, HeaderOk}
use Rattle.tdb_words.proofs.NewHeader.{new_header_read, new_header_sound}
use Rattle.tdb_words.proofs.SameHeader.{header_at_front, same_front, same_fault}
use Rattle.tdb_space.specs.Form.{form_of, form_in}
use Rattle.tdb_space.proofs.Accepted.Fresh.{fresh_accepted, fresh_order}
use Rattle.tdb_open.specs.Creating.{heads_length, new_image, IsNewFile}

-- a list of zeros has no other number at any place
zero_at : (n i : ℕ) → slice_index (replicate n 0) i ≡ 0
zero_at n i = elim (cases_lt i n) [
  | inl low ↦ get_or-replicate n i 0 0 low
  | inr high ↦ get_or_past (replicate n 0) i 0 (omega (arith, high, length-replicate {A = ℕ} n 0))
]

module _ (size : ℕ) (order : Order) (hash : HashKind) where
  abbrev img : List ℕ
  img = new_image size order hash

  pub header_long : length (new_header size order hash) ≡ 168
  header_long = by_order order
    where
      by_order : (o : Order) → length (new_header size o hash) ≡ 168
      by_order Little = refl
      by_order Big = refl

  long : length img ≡ 172 + 4 * size
  long = omega (arith, length-append (new_header size order hash) (replicate (heads_length size) 0), header_long, length-replicate {A = ℕ} (heads_length size) 0)

  front : take 168 img ≡ new_header size order hash
  front = ap (λ n. take n img) (sym header_long) ∙ take-append_seam (new_header size order hash) (replicate (heads_length size) 0)

  zeros : (i : ℕ) → 168 ≤ i → slice_index img i ≡ 0
  zeros i past = get_or-append_right (new_header size order hash) (replicate (heads_length size) 0) 168 i 0 header_long past ∙ zero_at (heads_length size) (i - 168)

  module _ (some : 0 < size) (fits : size < 2 ^ 32) where
    said : header_at img ≡ record { order = order; hash = hash; hash_size = size; recovery_start = 0; sequence = 0 }
    said = sym (header_at_front img 168 (omega arith)) ∙ ap header_at front ∙ new_header_read size order hash fits

    sound : HeaderOk img
    sound = record {
      long_enough = omega (arith, long);
      no_fault = sym (same_fault (take 168 img) img (same_front img 168 (omega arith))) ∙ ap header_fault front ∙ new_header_sound size order hash fits some;
    }

    chains : (form_of img).chains ≡ size
    chains = ap (λ h. h.hash_size) said

    no_area : word (form_of img).order img 44 ≡ 0
    no_area = ap (λ h. h.recovery_start) said

    new_file : IsNewFile size order hash img
    new_file = record {
      bytes = refl;
      long = long;
      accepted = fresh_accepted (form_of img) img sound refl (omega (arith, chains, some)) (omega (arith, long, chains)) no_area zeros;
      form = ap form_in said;
      empty = fresh_order (form_of img) img sound refl (omega (arith, chains, some)) (omega (arith, long, chains)) no_area zeros;
    }

    pub is_new_file : (now : List ℕ) → now ≡ img → IsNewFile size order hash now
    is_new_file now same = subst (IsNewFile size order hash) (sym same) new_file
