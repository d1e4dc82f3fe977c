-- What a walk over all pairs reads, against what is ahead of it.
use Rattle.std.proofs.Common.{◌≡◌, ◌≢◌, ℕ, suc, ◌+◌, ◌-◌, ◌<◌, ◌≤◌, min, max, List, ◌∷◌, cond, refl, sym, ◌∙◌, ap, inl, inr, arith}
use Rattle.std.specs.Prelude.{◌/◌, ◌==◌, length, sum_by}
use Rattle.std.specs.List.{range_with_len}
use Rattle.std.proofs.lemmas.Bool.{cases_eq, eq-eqb, ne_eqb}
use Rattle.std.proofs.lemmas.List.Sums.{sum_by-cons}
use Rattle.tdb_disk.specs.Count.{RoseUpTo}
use Rattle.tdb_words.specs.declared.record.Rec.{Rec}
use Rattle.tdb_words.specs.declared.record.TheConstants.{USED}
use Rattle.tdb_words.specs.Word.{word}
use Rattle.tdb_words.specs.Record.{rec_at}
use Rattle.tdb_space.specs.Form.{Form, chain_head}
use Rattle.tdb_space.specs.Chain.{offsets, chain_of}
use Rattle.tdb_backup.specs.declared.traversal.Traversal.{Traversal}
use Rattle.tdb_backup.proofs.Walk.{moved}
use Rattle.tdb_backup.specs.Reads.{pair_bytes, record_reads, chain_reads, chains_reads, rest_reads, ahead_reads, ReadsAlong}

-- a used record's pair is read behind what was read of the record at first
pub used_cost : (r : Rec) (end : ℕ) → r.magic ≡ USED → end ≤ 128 → end + (24 + r.key_len + r.data_len - end) ≤ max 128 (pair_bytes r)
used_cost r end used short =
    let bytes : pair_bytes r ≡ 24 + r.key_len + r.data_len = rw (eq-eqb r.magic USED used) refl in
    omega (arith, bytes, short)

-- what was ahead of a walk, and isn't any more, was read at most
pub along : (f : Form) (img : List ℕ) (t u : Traversal) (before now : ℕ) → now + ahead_reads f img u ≤ before + ahead_reads f img t → before ≤ now → ReadsAlong f img t u before now
along f img t u before now sum rises = (omega (arith, sum, rises), record { no_more = omega (arith, sum, rises); never_falls = rises })

-- the walk goes on from where it stands, in a view that is as it was at first
pub goes_on : (f k : Form) (img v : List ℕ) (t u : Traversal) (before now total : ℕ) → k ≡ f → v ≡ img → ReadsAlong k v t u before now → before + ahead_reads f img t ≤ total → now + ahead_reads f img u ≤ total
goes_on f k img v t u before now total form image read so_far =
    let here = moved (λ x i. ReadsAlong x i t u before now) f k img v form image read in
    omega (arith, here.0, here.1.no_more, so_far)

-- and so much was read there at most
pub has_read : (f k : Form) (img v : List ℕ) (t : Traversal) (before now total : ℕ) → k ≡ f → v ≡ img → RoseUpTo (ahead_reads k v t) before now → before + ahead_reads f img t ≤ total → now ≤ total
has_read f k img v t before now total form image read so_far =
    let here = moved (λ x i. RoseUpTo (ahead_reads x i t) before now) f k img v form image read in
    omega (arith, here.no_more, so_far)

-- the record at hand, and those behind it
record_and_rest : (f : Form) (img : List ℕ) (t : Traversal) → 0 < t.left → t.at ≢ 0 → rest_reads f img t ≡ record_reads f img t.at + sum_by (record_reads f img) (offsets f.order img (t.left - 1) (word f.order img t.at))
record_and_rest f img t left some =
    let next : suc (t.left - 1) ≡ t.left = omega (arith, left) in
    ap (λ n. sum_by (record_reads f img) (offsets f.order img n t.at)) (sym next)
    ∙ ap (sum_by (record_reads f img)) (next_offset (t.left - 1))
    ∙ sum_by-cons (record_reads f img) t.at (offsets f.order img (t.left - 1) (word f.order img t.at))
  where
    next_offset : (n : ℕ) → offsets f.order img (suc n) t.at ≡ t.at ∷ offsets f.order img n (word f.order img t.at)
    next_offset n = rw (ne_eqb t.at 0 some) refl

-- the next chain, and those behind it
chain_and_rest : (f : Form) (img : List ℕ) (n : ℕ) → n < f.chains → chains_reads f img n (f.chains - n) ≡ chain_reads f img n + chains_reads f img (n + 1) (f.chains - (n + 1))
chain_and_rest f img n more =
    let next : f.chains - n ≡ suc (f.chains - (n + 1)) = omega (arith, more) in
    ap (chains_reads f img n) next ∙ sum_by-cons (chain_reads f img) n (range_with_len (n + 1) (f.chains - (n + 1)))

-- of the record at hand its header and its first bytes are read, where there is one
pub front_cost : (f : Form) (img : List ℕ) (at n : ℕ) → cond (at == 0) 0 (min 128 n) ≤ record_reads f img at
front_cost f img at n =
    elim (cases_eq at 0) [
      | inl none ↦ (let nothing : cond (at == 0) 0 (min 128 n) ≡ 0 = rw (eq-eqb at 0 none) refl in omega (arith, nothing))
      | inr some ↦ (let front : cond (at == 0) 0 (min 128 n) ≡ min 128 n = rw (ne_eqb at 0 some) refl in omega (arith, front))
    ]

-- where there is one they are so many
pub front_read : (at n : ℕ) → at ≢ 0 → cond (at == 0) 0 (min 128 n) ≡ min 128 n
front_read at n some = rw (ne_eqb at 0 some) refl

-- where the walk stands at no record nothing is read, and else what is read is ahead
pub tested : (f : Form) (img : List ℕ) (t : Traversal) (n before now total : ℕ) → 0 < t.left → now ≤ before + cond (t.at == 0) 0 (min 128 n) → before + rest_reads f img t ≤ total → now ≤ total
tested f img t n before now total left read so_far =
    elim (cases_eq t.at 0) [
      | inl none ↦ (let nothing : cond (t.at == 0) 0 (min 128 n) ≡ 0 = rw (eq-eqb t.at 0 none) refl in omega (arith, nothing, read, so_far))
      | inr some ↦ omega (arith, read, so_far, front_cost f img t.at n, record_and_rest f img t left some)
    ]

-- the record at hand was read whole
pub read_whole : (f : Form) (img : List ℕ) (t : Traversal) (before now total : ℕ) → 0 < t.left → t.at ≢ 0 → now ≤ before + record_reads f img t.at → before + rest_reads f img t ≤ total → now ≤ total
read_whole f img t before now total left some read so_far = omega (arith, read, so_far, record_and_rest f img t left some)

-- the record at hand was passed
pub passed : (f : Form) (img : List ℕ) (t u : Traversal) (before now total : ℕ) → 0 < t.left → t.at ≢ 0 → u.at ≡ word f.order img t.at → u.left ≡ t.left - 1 → now ≤ before + record_reads f img t.at
    → before + rest_reads f img t ≤ total → now + rest_reads f img u ≤ total
passed f img t u before now total left some at fewer read so_far =
    let same : rest_reads f img u ≡ sum_by (record_reads f img) (offsets f.order img (t.left - 1) (word f.order img t.at)) = λ j. sum_by (record_reads f img) (offsets f.order img (fewer j) (at j)) in
    omega (arith, read, so_far, record_and_rest f img t left some, same)

-- the walk went on in the chain at hand
pub went_on : (f : Form) (img : List ℕ) (t u : Traversal) (before now total : ℕ) → u.next_chain ≡ t.next_chain → now + rest_reads f img u ≤ before + rest_reads f img t → before + ahead_reads f img t ≤ total → now + ahead_reads f img u ≤ total
went_on f img t u before now total chain read so_far =
    let behind : chains_reads f img u.next_chain (f.chains - u.next_chain) ≡ chains_reads f img t.next_chain (f.chains - t.next_chain) = ap (λ n. chains_reads f img n (f.chains - n)) chain in
    omega (arith, read, so_far, behind)

-- the next chain was entered
pub entered : (f : Form) (img : List ℕ) (t u : Traversal) (before middle now total : ℕ) → t.next_chain < f.chains → u.next_chain ≡ t.next_chain + 1 → u.at ≡ word f.order img (chain_head t.next_chain) → u.left ≡ length img / 4
    → middle ≤ before + rest_reads f img t → now ≤ middle + 4 → before + ahead_reads f img t ≤ total → now + ahead_reads f img u ≤ total
entered f img t u before middle now total more chain at left read head so_far =
    let same : ahead_reads f img u ≡ sum_by (record_reads f img) (chain_of f img t.next_chain) + chains_reads f img (t.next_chain + 1) (f.chains - (t.next_chain + 1)) =
    λ j. sum_by (record_reads f img) (offsets f.order img (left j) (at j)) + chains_reads f img (chain j) (f.chains - chain j) in
    omega (arith, read, head, so_far, same, chain_and_rest f img t.next_chain more)

-- its head was read
pub head_read : (f : Form) (img : List ℕ) (t : Traversal) (before middle now total : ℕ) → t.next_chain < f.chains → middle ≤ before + rest_reads f img t → now ≤ middle + 4 → before + ahead_reads f img t ≤ total → now ≤ total
head_read f img t before middle now total more read head so_far = omega (arith, read, head, so_far, chain_and_rest f img t.next_chain more)
