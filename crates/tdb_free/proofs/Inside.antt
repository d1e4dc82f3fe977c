-- Writes within the bytes of a hand.
use Rattle.std.proofs.Common.{◌≡◌, ℕ, ◌+◌, ◌≤◌, List, [], ◌∷◌, length, ◌∙◌, ap, inl, inr, arith}
use Rattle.tdb_disk.specs.Image.{overlay}
use Rattle.tdb_disk.specs.Stop.{Torn}
use Rattle.tdb_disk.proofs.Image.{length-overlay}
use Rattle.tdb_space.specs.Form.{Form}
use Rattle.tdb_space.specs.Extents.{Extent, once, times, hand_extents}
use Rattle.tdb_space.specs.Exchange.{InHands}
use Rattle.tdb_space.specs.Stays.{OnlyIn}
use Rattle.tdb_space.proofs.Extents.Counts.{once_out}
use Rattle.tdb_space.proofs.Exchange.Overlaid.{outside, only_then, torn_only, put_only, only_same}

-- a byte that an extent doesn't hold is held by no part of it
pub among : (at m from n i : ℕ) → at ≤ from → from + n ≤ at + m → once (at, m) i ≡ 0 → once (from, n) i ≡ 0
among at m from n i above below none =
    once_out (from, n) i (elim (outside (at, m) i none) [ inl under ↦ inl (omega (arith, under, above)) | inr over ↦ inr (omega (arith, over, below)) ])

-- the header and the tailer of a record are within it
header_among : (off n i : ℕ) → times (hand_extents ((off, n) ∷ [])) i ≡ 0 → once (off, 24) i ≡ 0
header_among off n i none = among off (24 + n) off 24 i (omega arith) (omega arith) (omega (arith, none))

tailer_among : (off n i : ℕ) → times (hand_extents ((off, n) ∷ [])) i ≡ 0 → once (off + 20 + n, 4) i ≡ 0
tailer_among off n i none = among off (24 + n) (off + 20 + n) 4 i (omega arith) (omega arith) (omega (arith, none))

module _ (f : Form) (a b : List ℕ) (off n : ℕ) where
  abbrev hand : List Extent
  hand = hand_extents ((off, n) ∷ [])

  -- nothing was written
  pub inside_same : b ≡ a → InHands f a b ((off, n) ∷ [])
  inside_same e = record { size = ap length e; others = only_same hand a b e }

  -- the header was written in part
  pub inside_torn : Torn off 24 a b → InHands f a b ((off, n) ∷ [])
  inside_torn torn = record { size = torn.size; others = torn_only off 24 hand a b (header_among off n) torn }

  module _ (mid header : List ℕ) (long : length header ≡ 24) (is_mid : mid ≡ overlay a off header) where
    header_only : OnlyIn hand a mid
    header_only = put_only off 24 header hand a mid long (header_among off n) is_mid

    mid_size : length mid ≡ length a
    mid_size = ap length is_mid ∙ length-overlay a off header

    -- the header was written, and the tailer in part
    pub inside_then_torn : Torn (off + 20 + n) 4 mid b → InHands f a b ((off, n) ∷ [])
    inside_then_torn torn = record {
      size = torn.size ∙ mid_size;
      others = only_then hand a mid b header_only (torn_only (off + 20 + n) 4 hand mid b (tailer_among off n) torn);
    }

    -- both were written
    pub inside_both : (tailer : List ℕ) → length tailer ≡ 4 → b ≡ overlay mid (off + 20 + n) tailer → InHands f a b ((off, n) ∷ [])
    inside_both tailer four e = record {
      size = ap length e ∙ length-overlay mid (off + 20 + n) tailer ∙ mid_size;
      others = only_then hand a mid b header_only (put_only (off + 20 + n) 4 tailer hand mid b four (tailer_among off n) e);
    }
