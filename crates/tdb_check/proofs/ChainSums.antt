-- What is read of chains, one after the other.
use Rattle.std.proofs.Common.{◌≡◌, ℕ, zero, suc, ◌+◌, ◌-◌, ◌<◌, ◌≤◌, List, [], ◌∙◌, ap, arith}
use Rattle.std.specs.Prelude.{sum_by}
use Rattle.std.specs.List.{range_with_len}
use Rattle.std.proofs.lemmas.List.Sums.{sum_by-cons, sum_by-le-sum_by}
use Rattle.tdb_space.specs.Form.{Form}
use Rattle.tdb_check.specs.Reads.{chain_reads, chains_reads}

range_more : (F : ℕ → ℕ) (a n : ℕ) → sum_by F (range_with_len a (suc n)) ≡ sum_by F (range_with_len a n) + F (a + n)
range_more F a zero =
    let same : a ≡ a + 0 = omega arith in
    omega (arith, sum_by-cons F a [], ap F same)
range_more F a (suc n) =
    let same : (a + 1) + n ≡ a + suc n = omega arith in
    omega (arith, sum_by-cons F a (range_with_len (a + 1) (suc n)), sum_by-cons F a (range_with_len (a + 1) n), range_more F (a + 1) n, ap F same)

-- one more chain
pub chains_push : (r : ℕ) (f : Form) (img : List ℕ) (first n : ℕ) → chains_reads r f img first (n + 1) ≡ chains_reads r f img first n + chain_reads r f img (first + n)
chains_push r f img first n =
    let next : n + 1 ≡ suc n = omega arith in
    ap (chains_reads r f img first) next ∙ range_more (chain_reads r f img) first n

-- a part of them takes no more than all
chains_part : (r : ℕ) (f : Form) (img : List ℕ) (first n more : ℕ) → chains_reads r f img first n ≤ chains_reads r f img first (n + more)
chains_part r f img first n zero =
    let same : n ≡ n + 0 = omega arith in
    omega (arith, ap (chains_reads r f img first) same)
chains_part r f img first n (suc more) =
    let next : (n + more) + 1 ≡ n + suc more = omega arith in
    omega (arith, chains_part r f img first n more, chains_push r f img first (n + more), ap (chains_reads r f img first) next)

-- two parts in a row
pub chains_join : (r : ℕ) (f : Form) (img : List ℕ) (first n more : ℕ) → chains_reads r f img first n + chains_reads r f img (first + n) more ≡ chains_reads r f img first (n + more)
chains_join r f img first n zero =
    let same : n ≡ n + 0 = omega arith in
    omega (arith, ap (chains_reads r f img first) same)
chains_join r f img first n (suc more) =
    let next : (n + more) + 1 ≡ n + suc more = omega arith in
    let place : (first + n) + more ≡ first + (n + more) = omega arith in
    omega (
      arith,
      chains_join r f img first n more,
      range_more (chain_reads r f img) (first + n) more,
      chains_push r f img first (n + more),
      ap (chains_reads r f img first) next,
      ap (chain_reads r f img) place,
    )

-- more rounds take no less
one_less : (f : Form) (img : List ℕ) (j : ℕ) → chain_reads 1 f img j ≤ chain_reads 65 f img j
one_less f img j = omega arith

pub chains_less : (f : Form) (img : List ℕ) (first n : ℕ) → chains_reads 1 f img first n ≤ chains_reads 65 f img first n
chains_less f img first n = sum_by-le-sum_by (chain_reads 1 f img) (chain_reads 65 f img) (range_with_len first n) (one_less f img)

-- the chains before one, in one round each, and that one
pub chains_upto : (f : Form) (img : List ℕ) (first i count : ℕ) → i < count → chains_reads 1 f img first i + chain_reads 65 f img (first + i) ≤ chains_reads 65 f img first count
chains_upto f img first i count low =
    let rest : (i + 1) + (count - (i + 1)) ≡ count = omega (arith, low) in
    omega (arith, chains_less f img first i, chains_push 65 f img first i, chains_part 65 f img first (i + 1) (count - (i + 1)), ap (chains_reads 65 f img first) rest)

-- the chains before a number, in one round each, and so many behind them
pub chains_both : (f : Form) (img : List ℕ) (first count all : ℕ) → first + count ≤ all → chains_reads 1 f img 0 first + chains_reads 65 f img first count ≤ chains_reads 65 f img 0 all
chains_both f img first count all low =
    let here : 0 + first ≡ first = omega arith in
    let rest : (first + count) + (all - (first + count)) ≡ all = omega (arith, low) in
    omega (
      arith,
      chains_less f img 0 first,
      chains_join 65 f img 0 first count,
      ap (λ n. chains_reads 65 f img n count) here,
      chains_part 65 f img 0 (first + count) (all - (first + count)),
      ap (chains_reads 65 f img 0) rest,
    )

pub chains_next : (f : Form) (img : List ℕ) (first count : ℕ) → chains_reads 1 f img 0 first + chains_reads 1 f img first count ≡ chains_reads 1 f img 0 (first + count)
chains_next f img first count =
    let here : 0 + first ≡ first = omega arith in
    omega (arith, chains_join 1 f img 0 first count, ap (λ n. chains_reads 1 f img n count) here)
