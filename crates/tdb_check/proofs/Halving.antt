-- What is read in all where a part of records is halved until one is left.
use Rattle.std.proofs.Common.{◌≡◌, ℕ, zero, suc, ◌+◌, ◌*◌, ◌^◌, ◌<◌, ◌≤◌, arith}
use Rattle.std.proofs.Math.Nat.{pow-succ'}
use Rattle.tdb_disk.specs.Count.{RoseUpTo}

-- A part of so many records may be halved so often, and for each halving there is one look left of 65.
pub record Halved (look width before now : ℕ) : Type 0 where
  pub left : ℕ
  pub narrow : width ≤ 2 ^ left
  pub no_more : now + left * look ≤ before + 65 * look
  pub never_falls : before ≤ now

pub halved_start : (look width before now : ℕ) → width ≤ 2 ^ 64 → RoseUpTo look before now → Halved look width before now
halved_start look width before now small p = record { left = 64; narrow = small; no_more = omega (arith, p.no_more); never_falls = p.never_falls }

-- one halving more
pub halved_more : (look width next before now after : ℕ) → 1 < width → 2 * next ≤ width + 1 → Halved look width before now → RoseUpTo look now after → Halved look next before after × RoseUpTo (65 * look) before after
halved_more look width next before now after wide half h p = by_left h.left h.narrow h.no_more
  where
    by_left : (left : ℕ) → width ≤ 2 ^ left → now + left * look ≤ before + 65 * look → Halved look next before after × RoseUpTo (65 * look) before after
    by_left zero narrow more = absurd (omega (arith, narrow, wide))
    by_left (suc left) narrow more =
        let double : width ≤ 2 * 2 ^ left = omega (arith, narrow, pow-succ' 2 left) in
        let one : suc left * look ≡ left * look + look = grind arith in (
          record { left = left; narrow = omega (arith, double, half); no_more = omega (arith, more, one, p.no_more); never_falls = omega (arith, h.never_falls, p.never_falls) },
          record { no_more = omega (arith, more, one, p.no_more); never_falls = omega (arith, h.never_falls, p.never_falls) },
        )

pub halved_all : (look width before now : ℕ) → Halved look width before now → RoseUpTo (65 * look) before now
halved_all look width before now h = record { no_more = omega (arith, h.no_more); never_falls = h.never_falls }
