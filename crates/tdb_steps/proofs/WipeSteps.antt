-- What the steps of a wipe make together, and what a step that failed leaves.
use Rattle.std.proofs.Common.{◌≡◌, ℕ, ◌+◌, ◌-◌, ◌*◌, ◌<◌, ◌≤◌, ◌⊎◌, List, [], length, ◌∙◌, ap, subst, inl, inr, arith}
use Rattle.std.specs.Prelude.{slice_index}
use Rattle.tdb_disk.specs.Stop.{Torn}
use Rattle.tdb_words.specs.Word.{word}
use Rattle.tdb_space.specs.Form.{Form, data_start, free_head, chain_head}
use Rattle.tdb_space.specs.Accepted.{AcceptWith}
use Rattle.tdb_space.proofs.Accepted.Areas.{area_within}
use Rattle.tdb_space.proofs.Accepted.Fresh.{word_zero}
use Rattle.tdb_space.specs.Stays.{FrontStays}
use Rattle.tdb_steps.specs.declared.wiping.AreaBounds.{AreaBounds}
use Rattle.tdb_steps.specs.Wiped.{FrontSame, Wiped, WipeStopped, BoundsStand, IsArea, MadeFree, HeadsZeroed, FreedAround, AroundStays}
use Rattle.tdb_steps.specs.Wiped.MadeFree.{as_record, as_zeros}
use Rattle.tdb_steps.specs.Wiped.WipeStopped.{in_stretches, at_end}
use Rattle.tdb_steps.proofs.Stretched.{held}
use Rattle.tdb_steps.proofs.Wipes.{Done, wiped}

-- where the front is the same, it stays
pub front_stays : (f : Form) (a b : List ℕ) → FrontSame f a b → FrontStays f a b
front_stays f a b s = record { longer = omega (arith, s.size); low = λ i low _. s.header i low; undo_area = s.undo_area }

-- only heads changed
pub heads_stay : (f : Form) (a b : List ℕ) → AcceptWith f a [] → Torn free_head (4 * (f.chains + 1)) a b → FrontSame f a b
heads_stay f a b A t = record {
  size = t.size;
  header = t.below;
  undo_area = λ i some. t.above i (omega (arith, (area_within f a i A.area_ok some).0));
}

pub nothing_stays : (f : Form) (a b : List ℕ) → b ≡ a → FrontSame f a b
nothing_stays f a b same = record { size = ap length same; header = λ i _. ap (λ x. slice_index x i) same; undo_area = λ i _. ap (λ x. slice_index x i) same }

-- a stretch that was made free from an image is so from another one that had the same bytes there
made_from : (f : Form) (a m b : List ℕ) (at n next first : ℕ) → ((i : ℕ) → at ≤ i → slice_index m i ≡ slice_index a i) → MadeFree f m b at n next first → MadeFree f a b at n next first
made_from f a m b at n next first same (as_record long header tailer kept begins) = as_record long header tailer (λ i low high. kept i low high ∙ same i (omega (arith, low))) begins
made_from f a m b at n next first same (as_zeros short zeros begins) = as_zeros short zeros begins

module _ (f : Form) (a m b : List ℕ) (p : AreaBounds) (A : AcceptWith f a []) (B : BoundsStand f (length a) p) (P : IsArea f a p) (H : HeadsZeroed f a m) (R : AroundStays f m b p) where
  behind_heads : (i : ℕ) → data_start f ≤ i → slice_index m i ≡ slice_index a i
  behind_heads i from = H.only.above i (omega (arith, from))

  header : (i : ℕ) → i < free_head → slice_index b i ≡ slice_index a i
  header i low = R.low i (omega (arith, low)) (inl low) ∙ H.only.below i low

  undo_area : (i : ℕ) → p.from ≤ i → i < p.to → slice_index b i ≡ slice_index a i
  undo_area i low high = R.undo_area i low high ∙ behind_heads i (omega (arith, low, B.above))

  zeros : (i : ℕ) → free_head + 4 ≤ i → i < data_start f → slice_index b i ≡ 0
  zeros i low high = R.low i high (inr low) ∙ H.zeros i (omega (arith, low)) high

  done : FreedAround f m b p → Done f a b p
  done F = record {
    size = R.size ∙ H.only.size;
    header = header;
    undo_area = undo_area;
    zeros = zeros;
    behind = F.behind;
    first = F.first;
    made_back =
        subst (λ n. MadeFree f a b p.to (n - p.to) 0 F.behind) H.only.size
        (made_from f a m b p.to (length m - p.to) 0 F.behind (λ i low. behind_heads i (omega (arith, low, B.above, B.ordered))) F.back);
    made_front = made_from f a m b (data_start f) (p.from - data_start f) F.behind F.first (λ i low. behind_heads i low) F.front;
    head = F.head;
  }

  pub around_stays : FrontSame f a b
  around_stays = record {
    size = R.size ∙ H.only.size;
    header = header;
    undo_area = λ i some. (let h = held f a p B P i some in undo_area i h.0 h.1);
  }

  pub around_wiped : FreedAround f m b p → Wiped f a b
  around_wiped F = wiped f a b p A B P (done F)

  pub around_stopped : (word f.order b free_head ≡ word f.order m free_head) ⊎ FreedAround f m b p → WipeStopped f a b
  around_stopped (inl same) = in_stretches (record {
    free = same ∙ word_zero f.order m free_head (λ i low high. H.zeros i low (omega (arith, high)));
    chains = λ k low. word_zero f.order b (chain_head k) (λ i from to. zeros i (omega (arith, from)) (omega (arith, to, low)));
  }) around_stays
  around_stopped (inr F) = at_end (around_wiped F)
