-- The bytes of a front that an entry covers become its old ones.
use Rattle.std.proofs.Common.{◌≡◌, ◌+◌, ◌-◌, ◌≤◌, ◌<◌, ◌⊎◌, ℕ, List, ◌++◌, length, min, take, drop, refl, sym, ◌∙◌, ap, inl, inr, arith}
use Rattle.std.specs.Prelude.{slice_index}
use Rattle.std.proofs.lemmas.Bool.{cases_lt}
use Rattle.std.proofs.lemmas.List.{get_or-take, get_or-drop, get_or_append_left, get_or-append_right, length-take}
use borrow.Rule.Slice.PartMut.{post_of}
use Rattle.tdb_space.specs.Opening.{Entry}
use Rattle.tdb_undo.specs.Entries.{one_back}
use Rattle.tdb_undo.proofs.Lies.{lies, lies_not}

pub not_covered : (e : Entry) (i byte : ℕ) → (i < e.off) ⊎ (e.off + e.len ≤ i) → byte ≡ one_back e i byte
not_covered e i byte out = rw (lies_not e.off e.len i out) refl

pub covered : (e : Entry) (i byte : ℕ) → e.off ≤ i → i < e.off + e.len → slice_index e.olds (i - e.off) ≡ one_back e i byte
covered e i byte low high = rw (lies e.off e.len i low high) refl

pub part_taken : (e : Entry) (off len at : ℕ) (img front buf : List ℕ) (i to : ℕ) → e.off ≡ off → e.len ≡ len → e.olds ≡ take len (drop at img) → to ≡ min (off + len) 64 → off < 64 → i < 64 → length front ≡ 64
    → buf ≡ take (to - off) (drop at img) → length buf ≡ to - off → slice_index (take off front ++ (buf ++ post_of off (to - off) front)) i ≡ one_back e i (slice_index front i)
part_taken e off len at img front buf i to is_off is_len olds is_to low within long read sized =
    let first : length (take off front) ≡ off = omega (arith, length-take off front, long, low) in
    elim (cases_lt i off) [
      | inl below ↦ (
          get_or_append_left (take off front) (buf ++ post_of off (to - off) front) 0 i (omega (arith, below, first))
          ∙ get_or-take off front i 0 below
          ∙ not_covered e i (slice_index front i) (inl (omega (arith, below, is_off))))
      | inr from ↦ (
          get_or-append_right (take off front) (buf ++ post_of off (to - off) front) off i 0 first from
          ∙ elim (cases_lt i to) [
            | inl inside ↦ (
                get_or_append_left buf (post_of off (to - off) front) 0 (i - off) (omega (arith, inside, from, sized))
                ∙ ap (λ l. slice_index l (i - off)) read
                ∙ get_or-take (to - off) (drop at img) (i - off) 0 (omega (arith, inside, from))
                ∙ sym (get_or-take len (drop at img) (i - off) 0 (omega (arith, inside, from, is_to)))
                ∙ ap (λ l. slice_index l (i - off)) (sym olds)
                ∙ ap (λ n. slice_index e.olds (i - n)) (sym is_off)
                ∙ covered e i (slice_index front i) (omega (arith, from, is_off)) (omega (arith, inside, is_to, is_off, is_len)))
            | inr behind ↦ (
                get_or-append_right buf (post_of off (to - off) front) (to - off) (i - off) 0 sized (omega (arith, behind, from))
                ∙ past (i - off - (to - off)) (omega (arith, behind, from, is_to))
                ∙ not_covered e i (slice_index front i) (inr (omega (arith, behind, is_to, within, is_off, is_len))))
          ])
    ]
  where
    past : (k : ℕ) → off + (to - off) + k ≡ i → slice_index (post_of off (to - off) front) k ≡ slice_index front i
    past k is = get_or-drop (to - off) (drop off front) k 0 ∙ get_or-drop off front (to - off + k) 0 ∙ ap (slice_index front) (let e : off + (to - off + k) ≡ i = omega (arith, is) in e)
