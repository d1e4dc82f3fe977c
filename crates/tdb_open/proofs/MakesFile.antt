-- What each call leaves while a new file is made: a growth from nothing, the write of the header and a sync.
use Rattle.std.proofs.Common.{◌≡◌, ℕ, ◌+◌, ◌-◌, List, [], ◌++◌, length, replicate, sym, ap, ◌∙◌, inl, inr, arith}
use Rattle.std.proofs.lemmas.Grind.{common_steps}
use Rattle.std.proofs.lemmas.List.{length-replicate, replicate-append-replicate}
use Rattle.tdb_disk.specs.History.{History, grew, wrote, synced, called, seen, Tried, TriedOver}
use Rattle.tdb_disk.specs.Image.{overlay}
use Rattle.tdb_open.specs.Creating.{heads_length, MadeInPart}

-- bytes that are written over as many others at the front
written_front : (others rest bytes : List ℕ) → length others ≡ length bytes → overlay (others ++ rest) 0 bytes ≡ bytes ++ rest
written_front others rest bytes sized = grind (arith, common_steps)

module _ (size to : ℕ) (sized : to ≡ 168 + heads_length size) (old : History) (empty : seen old ≡ []) where
  abbrev heads : List ℕ
  heads = replicate (heads_length size) 0

  -- a growth puts zeros there
  grown : (g : History) → g ≡ called old (grew to) → seen g ≡ replicate 168 0 ++ heads
  grown g done =
      let all : to - 0 ≡ 168 + heads_length size = omega (arith, sized) in
      ap seen done ∙ ap (λ img. img ++ replicate (to - length img) 0) empty ∙ ap (λ n. replicate n 0) all ∙ sym (replicate-append-replicate 168 (heads_length size) 0)

  -- one that failed puts them there or nothing
  pub broken_grow : (g : History) → Tried (grew to) old g → MadeInPart size (seen g)
  broken_grow g (inl same) = inl (ap seen same ∙ empty)
  broken_grow g (inr done) = inr (replicate 168 0, length-replicate {A = ℕ} 168 0, grown g done)

  module _ (g : History) (is_grown : g ≡ called old (grew to)) where
    -- a write replaces the first of them
    pub written : (w : History) (bytes : List ℕ) → length bytes ≡ 168 → w ≡ called g (wrote 0 bytes) → seen w ≡ bytes ++ heads
    written w bytes long done =
        ap seen done ∙ ap (λ img. overlay img 0 bytes) (grown g is_grown)
        ∙ written_front (replicate 168 0) heads bytes (length-replicate {A = ℕ} 168 0 ∙ sym long)

    -- one that failed leaves them, or any bytes in their place
    pub broken_write : (w : History) (n : ℕ) → n ≡ 168 → TriedOver 0 n g w → MadeInPart size (seen w)
    broken_write w n long (inl same) = inr (replicate 168 0, length-replicate {A = ℕ} 168 0, ap seen same ∙ grown g is_grown)
    broken_write w n long (inr (bytes, same, done)) = inr (bytes, same ∙ long, written w bytes (same ∙ long) done)

    -- and a sync leaves what was written, whatever it answers
    pub synced_now : (w s : History) (bytes : List ℕ) → length bytes ≡ 168 → w ≡ called g (wrote 0 bytes) → Tried synced w s → seen s ≡ bytes ++ heads
    synced_now w s bytes long done (inl same) = ap seen same ∙ written w bytes long done
    synced_now w s bytes long done (inr last) = ap seen last ∙ written w bytes long done
