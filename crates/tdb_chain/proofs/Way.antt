-- What a look-up reads on its way along a chain, against what it takes in all.
use Rattle.std.proofs.Common.{◌≡◌, ◌≢◌, ℕ, suc, ◌+◌, ◌-◌, ◌<◌, ◌≤◌, ◌&&◌, min, Bool, true, false, List, [], ◌∷◌, length, take, drop, refl, sym, ◌∙◌, ap, inl, inr, cond, arith}
use Rattle.std.specs.Prelude.{◌/◌, ◌==◌, sum_by}
use Rattle.std.proofs.lemmas.Bool.{cases_Bool, and_parts, eqb-true, ne_eqb}
use Rattle.std.proofs.lemmas.List.Sums.{sum_by-cons}
use Rattle.tdb_words.specs.declared.record.Rec.{Rec}
use Rattle.tdb_words.specs.declared.word.Order.{Order}
use Rattle.tdb_words.specs.declared.record.TheConstants.{USED}
use Rattle.tdb_words.specs.Word.{word}
use Rattle.tdb_words.specs.Record.{rec_at}
use Rattle.tdb_words.specs.Hash.{h_of}
use Rattle.tdb_space.specs.Form.{Form, chain_head}
use Rattle.tdb_space.specs.Chain.{offsets, chain_of}
use Rattle.tdb_space.specs.Pairs.{same_key, home}
use Rattle.tdb_space.proofs.Pairs.Maps.{same_key-eq}
use Rattle.tdb_chain.specs.Wanted.{IsWanted}
use Rattle.tdb_chain.specs.Reads.{may_have, long_key_reads, test_reads, has_key, up_to_key, way_reads, find_reads}

-- a record that isn't the wanted one doesn't have the key
pub lacks_key : (f : Form) (img key : List ℕ) (at : ℕ) (r : Rec) (hash : ℕ) → r ≡ rec_at f.order img at → hash ≡ h_of f.hash key → (IsWanted r hash img at key → ⊥) → has_key f img key at ≡ false
lacks_key f img key at r hash read hashed other =
    elim (cases_Bool (has_key f img key at)) [
      | inl has ↦ absurd (other (wanted (and_parts (may_have (rec_at f.order img at) (h_of f.hash key) (length key)) (same_key (take (length key) (drop (at + 24) img)) key) has)))
      | inr lacks ↦ lacks
    ]
  where
    wanted : (may_have (rec_at f.order img at) (h_of f.hash key) (length key) ≡ true) × (same_key (take (length key) (drop (at + 24) img)) key ≡ true) → IsWanted r hash img at key
    wanted both =
        let header = rec_at f.order img at in
        let first = and_parts ((header.magic == USED) && (header.full_hash == h_of f.hash key)) (header.key_len == length key) both.0 in
        let second = and_parts (header.magic == USED) (header.full_hash == h_of f.hash key) first.0 in
        record {
          used = ap (λ (q : Rec). q.magic) read ∙ eqb-true header.magic USED second.0;
          hashed = ap (λ (q : Rec). q.full_hash) read ∙ eqb-true header.full_hash (h_of f.hash key) second.1 ∙ sym hashed;
          as_long = ap (λ (q : Rec). q.key_len) read ∙ eqb-true header.key_len (length key) first.1;
          there = same_key-eq (take (length key) (drop (at + 24) img)) key both.1;
        }

-- what was read of a record, whose key may have been read once more
pub front_within : (f : Form) (img key : List ℕ) (at before now : ℕ) → now ≤ before + min (24 + length key) 512 → now ≤ before + test_reads f img key at
front_within f img key at before now front = omega (arith, front)

pub test_within : (f : Form) (img key : List ℕ) (at before middle now : ℕ) (r : Rec) (hash : ℕ) → r ≡ rec_at f.order img at → hash ≡ h_of f.hash key → middle ≤ before + min (24 + length key) 512 → now ≤ middle + long_key_reads r hash (length key)
    → now ≤ before + test_reads f img key at
test_within f img key at before middle now r hash read hashed front rest =
    let same : long_key_reads r hash (length key) ≡ long_key_reads (rec_at f.order img at) (h_of f.hash key) (length key) = λ i. long_key_reads (read i) (hashed i) (length key) in
    omega (arith, front, rest, same)

-- so many records of the chain were passed, and the next is at this offset: what was read since a number, and what the
-- rest of the chain takes, are no more than the whole look-up
abbrev pub OnTheWay : Form → List ℕ → List ℕ → ℕ → ℕ → ℕ → ℕ → Type 0
OnTheWay f img key turn at start now = now + way_reads f img key (offsets f.order img (length img / 4 - turn) at) ≤ start + find_reads f img key

-- at first only the head was read
pub way_start : (f : Form) (img key : List ℕ) (at start now : ℕ) → at ≡ word f.order img (chain_head (home f key)) → now ≤ start + 4 → OnTheWay f img key 0 at start now
way_start f img key at start now first read =
    let same : length img / 4 - 0 ≡ length img / 4 = omega arith in
    let all : way_reads f img key (offsets f.order img (length img / 4 - 0) at) ≡ way_reads f img key (chain_of f img (home f key)) = λ i. way_reads f img key (offsets f.order img (same i) (first i)) in
    omega (arith, all, read)

module _ (f : Form) (img key : List ℕ) (turn at start now after : ℕ) (some : at ≢ 0) (room : turn < length img / 4) (way : OnTheWay f img key turn at start now) (read : after ≤ now + test_reads f img key at) where
  -- the offsets from this one on
  here : offsets f.order img (length img / 4 - turn) at ≡ at ∷ offsets f.order img (length img / 4 - (turn + 1)) (word f.order img at)
  here =
      let next : suc (length img / 4 - (turn + 1)) ≡ length img / 4 - turn = omega (arith, room) in
      ap (λ n. offsets f.order img n at) (sym next) ∙ (rw (ne_eqb at 0 some) refl)

  -- what the way from here takes
  parts : way_reads f img key (offsets f.order img (length img / 4 - turn) at)
      ≡ test_reads f img key at + sum_by (test_reads f img key) (cond (has_key f img key at) [] (up_to_key f img key (offsets f.order img (length img / 4 - (turn + 1)) (word f.order img at))))
  parts = ap (way_reads f img key) here ∙ sum_by-cons (test_reads f img key) at (cond (has_key f img key at) [] (up_to_key f img key (offsets f.order img (length img / 4 - (turn + 1)) (word f.order img at))))

  -- the record here was read, in part or whole
  pub way_tested : after ≤ start + find_reads f img key
  way_tested = omega (arith, way, read, parts)

  -- it doesn't have the key, and the way goes on
  pub way_passed : has_key f img key at ≡ false → OnTheWay f img key (turn + 1) (word f.order img at) start after
  way_passed lacks =
      let rest : sum_by (test_reads f img key) (cond (has_key f img key at) [] (up_to_key f img key (offsets f.order img (length img / 4 - (turn + 1)) (word f.order img at))))
      ≡ way_reads f img key (offsets f.order img (length img / 4 - (turn + 1)) (word f.order img at)) = rw lacks refl in
      omega (arith, way, read, parts, rest)
