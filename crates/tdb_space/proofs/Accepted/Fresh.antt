-- An image of just a header and zero heads is accepted, and holds no pair.
use Rattle.std.proofs.Common.{◌≡◌, ℕ, zero, suc, ◌+◌, ◌<◌, ◌≤◌, List, [], ◌++◌, length, refl, ◌∙◌, ap, inl, arith}
use Rattle.std.specs.Prelude.{slice_index}
use Rattle.std.specs.List.{IsDistinct}
use Rattle.std.proofs.lemmas.Bool.{eq-eqb}
use Rattle.tdb_words.specs.declared.word.Order.{Order}
use Rattle.tdb_words.specs.declared.word.Order.TheVariants.{Little, Big}
use Rattle.tdb_words.specs.Word.{word}
use Rattle.tdb_words.specs.Header.{HeaderOk}
use Rattle.tdb_space.specs.Form.{Form, form_of, chain_head, free_head, data_start}
use Rattle.tdb_space.specs.Pairs.{joined, order_of, same_key}
use Rattle.tdb_space.specs.Extents.{times, area, all_extents, extents}
use Rattle.tdb_space.specs.Accepted.{LaidOut, AcceptWith}
use Rattle.tdb_space.proofs.Extents.Counts.{times_all}
use Rattle.tdb_space.proofs.Accepted.Laid.{accepted, order_met}

-- four zero bytes are the word 0
pub word_zero : (o : Order) (img : List ℕ) (at : ℕ) → ((i : ℕ) → at ≤ i → i < at + 4 → slice_index img i ≡ 0) → word o img at ≡ 0
unfolding word
word_zero Little img at zeros =
    omega (arith, zeros at (omega arith) (omega arith), zeros (at + 1) (omega arith) (omega arith), zeros (at + 2) (omega arith) (omega arith), zeros (at + 3) (omega arith) (omega arith))
word_zero Big img at zeros =
    omega (arith, zeros at (omega arith) (omega arith), zeros (at + 1) (omega arith) (omega arith), zeros (at + 2) (omega arith) (omega arith), zeros (at + 3) (omega arith) (omega arith))

-- empty lists joined are empty
joined_empty : {T : Type 0} (n : ℕ) → joined {T = T} n (λ _. []) ≡ []
joined_empty zero = refl
joined_empty (suc n) = ap (λ xs. xs ++ []) (joined_empty n)

no_keys : IsDistinct same_key []
unfolding IsDistinct
no_keys = tt

module _ (f : Form) (img : List ℕ) (ok : HeaderOk img) (form : form_of img ≡ f) (some : 0 < f.chains) (size : length img ≡ data_start f) (no_area : word f.order img 44 ≡ 0) (zeros : (i : ℕ) → 168 ≤ i → slice_index img i ≡ 0) where
  nothing_held : (i : ℕ) → times (all_extents f img (λ _. []) [] []) i ≡ 0
  nothing_held i =
      let chains : times (joined f.chains (λ _. extents f.order img [])) i ≡ 0 = ap (λ es. times es i) (joined_empty f.chains) in
      let undo : times (area f.order img) i ≡ 0 = rw (eq-eqb (word f.order img 44) 0 no_area) refl in
      omega (arith, chains, undo, times_all f img (λ _. []) [] [] i)

  laid : LaidOut f img (λ _. []) [] []
  laid = record {
    header = ok;
    form = form;
    some = some;
    sized = omega (arith, size);
    long = omega (arith, size);
    area_ok = inl no_area;
    shut = inl no_area;
    chains = λ j low. word_zero f.order img (chain_head j) (λ i from to. zeros i (omega arith));
    frees = word_zero f.order img free_head (λ i from to. zeros i (omega arith));
    filed = λ j low. tt;
    keys = λ j low. no_keys;
    held = tt;
    apart = λ i. omega (arith, nothing_held i);
    stray = λ i from to none. absurd (omega (arith, from, to, size));
  }

  pub fresh_accepted : AcceptWith f img []
  fresh_accepted = accepted f img (λ _. []) [] [] laid

  pub fresh_order : order_of f img ≡ []
  fresh_order = order_met f img (λ _. []) [] [] laid ∙ joined_empty f.chains
