-- Chains that are followed one after the other.
use Rattle.std.proofs.Common.{◌≡◌, ℕ, ◌+◌, ◌<◌, ◌≤◌, List, ◌++◌, length, append_assoc, length-append, sym, ◌∙◌, ap, subst, inl, inr, arith}
use Rattle.std.proofs.lemmas.Bool.{cases_lt}
use Rattle.tdb_space.specs.Form.{Form, chain_head}
use Rattle.tdb_space.specs.Chain.{chain_of}
use Rattle.tdb_space.specs.Pairs.{pairs, joined}
use Rattle.tdb_space.specs.Extents.{extents}
use Rattle.tdb_space.specs.FirstFault.{Fault, chain_number, Sound, FirstInList}
use Rattle.tdb_space.proofs.Pairs.Listed.{joined_more}
use Rattle.tdb_check.specs.declared.extent.Extent.{Extent}
use Rattle.tdb_check.specs.Extent.{extents_seen}
use Rattle.tdb_check.specs.Followed.{ChainFollowed}
use Rattle.tdb_check.specs.Chains.{Shows, ChainsTo, FirstInChains}

-- one more chain
pub chains_more : (f : Form) (img : List ℕ) (n : ℕ) (old mid new : List Extent) (live more : ℕ) → ChainsTo f img n old mid live → ChainFollowed f n img mid new more → ChainsTo f img (n + 1) old new (live + more)
chains_more f img n old mid new live more h c =
    let held = joined n (λ j. extents f.order img (chain_of f img j)) in
    let next = extents f.order img (chain_of f img n) in
    let both : (extents_seen old ++ held) ++ next ≡ extents_seen old ++ joined (n + 1) (λ j. extents f.order img (chain_of f img j)) =
    append_assoc (extents_seen old) held next ∙ ap (λ es. extents_seen old ++ es) (sym (joined_more n (λ j. extents f.order img (chain_of f img j)))) in
    record {
      sound = λ j low. elim (cases_lt j n) [
        | inl before ↦ h.sound j before
        | inr here ↦ subst (λ k. Sound f (chain_number k) img (chain_head k)) (same_number j low here) c.sound
      ];
      shows = subst (Shows (extents_seen new)) both (c.shows (extents_seen old ++ held) h.shows);
      used =
          (let joint = ap length (joined_more n (λ j. pairs f.order img (chain_of f img j))) in
          let parts = length-append (joined n (λ j. pairs f.order img (chain_of f img j))) (pairs f.order img (chain_of f img n)) in
          omega (arith, h.used, c.used, joint, parts));
    }
  where
    same_number : (j : ℕ) → j < n + 1 → n ≤ j → n ≡ j
    same_number j low high = omega arith

-- the first chain with a fault
pub chains_fault : (f : Form) (img : List ℕ) (n : ℕ) (old mid : List Extent) (live : ℕ) → ChainsTo f img n old mid live → n < f.chains → (e : Fault) → FirstInList f (chain_number n) img (chain_head n) e → FirstInChains f img e
chains_fault f img n old mid live h low e fault = (n, low, h.sound, fault)
