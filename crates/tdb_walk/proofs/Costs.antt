-- What a move has read, against what its way takes in all.
use Rattle.std.proofs.Common.{◌≡◌, ◌≢◌, ℕ, zero, suc, ◌+◌, ◌-◌, ◌*◌, ◌<◌, ◌≤◌, min, List, [], ◌∷◌, Some, length, refl, sym, ◌∙◌, ap, arith}
use Rattle.std.specs.Prelude.{◌/◌, sum_by}
use Rattle.std.specs.List.{range_with_len}
use Rattle.std.proofs.lemmas.Bool.{ne_eqb}
use Rattle.std.proofs.lemmas.List.Sums.{sum_by-cons}
use Rattle.tdb_disk.specs.Count.{RoseUpTo}
use Rattle.tdb_words.specs.declared.record.TheConstants.{USED}
use Rattle.tdb_words.specs.Word.{word}
use Rattle.tdb_space.specs.Form.{Form, chain_head}
use Rattle.tdb_space.specs.Record.{magic_of}
use Rattle.tdb_space.specs.Chain.{offsets, chain_of}
use Rattle.tdb_walk.specs.declared.heads.Head.{Head}
use Rattle.tdb_walk.specs.Heads.{IsFirstFilled, heads_read}
use Rattle.tdb_walk.specs.Reads.{records_reads, chain_reads, chains_reads}

-- one header is counted along any list
one_header : (f : Form) (img offs : List ℕ) → 24 ≤ records_reads f img offs
one_header f img [] = omega arith
one_header f img (x ∷ xs) = omega arith

-- so many records of a list from an offset on were passed, and the next is at another: what was read since a number,
-- and what the rest takes, are no more than the whole list
abbrev pub OnTheWay : Form → List ℕ → ℕ → ℕ → ℕ → ℕ → ℕ → Type 0
OnTheWay f img first turn at start now = now + records_reads f img (offsets f.order img (length img / 4 - turn) at) ≤ start + records_reads f img (offsets f.order img (length img / 4) first)

-- at first none was
pub way_start : (f : Form) (img : List ℕ) (first start : ℕ) → OnTheWay f img first 0 first start start
way_start f img first start =
    let same : length img / 4 - 0 ≡ length img / 4 = omega arith in
    let all : records_reads f img (offsets f.order img (length img / 4 - 0) first) ≡ records_reads f img (offsets f.order img (length img / 4) first) = ap (λ n. records_reads f img (offsets f.order img n first)) same in
    omega (arith, all)

-- the way ends behind one header more
pub way_ended : (f : Form) (img : List ℕ) (first turn at start before now : ℕ) → OnTheWay f img first turn at start before → start ≤ before → RoseUpTo 24 before now → RoseUpTo (records_reads f img (offsets f.order img (length img / 4) first)) start now
way_ended f img first turn at start before now way rises read =
    let one = one_header f img (offsets f.order img (length img / 4 - turn) at) in
    record { no_more = omega (arith, way, one, read.no_more); never_falls = omega (arith, rises, read.never_falls) }

-- the record there isn't used, and the way goes on
pub way_passed : (f : Form) (img : List ℕ) (first turn at start before now : ℕ) → OnTheWay f img first turn at start before → at ≢ 0 → turn < length img / 4 → magic_of f.order img at ≢ USED → now ≤ before + 24 → OnTheWay f img first (turn + 1) (word f.order img at) start now
way_passed f img first turn at start before now way some room other read =
    let next : suc (length img / 4 - (turn + 1)) ≡ length img / 4 - turn = omega (arith, room) in
    let parts : records_reads f img (offsets f.order img (length img / 4 - turn) at) ≡ 24 + records_reads f img (offsets f.order img (length img / 4 - (turn + 1)) (word f.order img at)) =
    ap (λ n. records_reads f img (offsets f.order img n at)) (sym next) ∙ rw (ne_eqb at 0 some, ne_eqb (magic_of f.order img at) USED other) refl in
    omega (arith, way, read, parts)

-- each chain takes its head at least
chains_least : (f : Form) (img : List ℕ) (a n : ℕ) → 4 * n ≤ chains_reads f img a n
chains_least f img a zero = omega arith
chains_least f img a (suc n) = omega (arith, sum_by-cons (chain_reads f img) a (range_with_len (a + 1) n), chains_least f img (a + 1) n)

-- these chains, and those behind them
chains_parts : (f : Form) (img : List ℕ) (a m n : ℕ) → chains_reads f img a (m + n) ≡ chains_reads f img a m + chains_reads f img (a + m) n
chains_parts f img a zero n =
    let here : a + 0 ≡ a = omega arith in
    let none : 0 + n ≡ n = omega arith in
    let same : chains_reads f img (a + 0) n ≡ chains_reads f img a n = ap (λ k. chains_reads f img k n) here in
    let all : chains_reads f img a (0 + n) ≡ chains_reads f img a n = ap (chains_reads f img a) none in
    omega (arith, same, all)
chains_parts f img a (suc m) n =
    let on : a + 1 + m ≡ a + suc m = omega arith in
    let next : suc m + n ≡ suc (m + n) = omega arith in
    let all : chains_reads f img a (suc m + n) ≡ chain_reads f img a + chains_reads f img (a + 1) (m + n) = ap (chains_reads f img a) next ∙ sum_by-cons (chain_reads f img) a (range_with_len (a + 1) (m + n)) in
    let same : chains_reads f img (a + 1 + m) n ≡ chains_reads f img (a + suc m) n = ap (λ k. chains_reads f img k n) on in
    omega (arith, all, same, chains_parts f img (a + 1) m n, sum_by-cons (chain_reads f img) a (range_with_len (a + 1) m))

-- the chains from one number up to another, and from there on up to a third
chains_between : (f : Form) (img : List ℕ) (a b c : ℕ) → a ≤ b → b ≤ c → chains_reads f img a (c - a) ≡ chains_reads f img a (b - a) + chains_reads f img b (c - b)
chains_between f img a b c least most =
    let all : c - a ≡ b - a + (c - b) = omega (arith, least, most) in
    let from : a + (b - a) ≡ b = omega (arith, least) in
    ap (chains_reads f img a) all ∙ chains_parts f img a (b - a) (c - b) ∙ ap (λ k. chains_reads f img a (b - a) + chains_reads f img k (c - b)) from

-- the chains up to a number are no more than those up to a greater one
pub chains_fewer : (f : Form) (img : List ℕ) (a b c : ℕ) → b ≤ c → chains_reads f img a (b - a) ≤ chains_reads f img a (c - a)
chains_fewer f img a b c most =
    let parts = chains_parts f img a (b - a) (c - a - (b - a)) in
    let all : b - a + (c - a - (b - a)) ≡ c - a = omega (arith, most) in
    let same : chains_reads f img a (b - a + (c - a - (b - a))) ≡ chains_reads f img a (c - a) = ap (chains_reads f img a) all in
    omega (arith, parts, same)

-- the rest of the chains were passed by their heads
pub heads_passed : (f : Form) (img : List ℕ) (from chain start before now : ℕ) → from ≤ chain → chain ≤ f.chains → before ≤ start + chains_reads f img from (chain - from) → now ≤ before + 4 * (f.chains - chain) → now ≤ start + chains_reads f img from (f.chains - from)
heads_passed f img from chain start before now least most so_far read =
    omega (arith, so_far, read, chains_between f img from chain f.chains least most, chains_least f img chain (f.chains - chain))

-- a chain with records was entered behind these heads, and its records were read
pub chain_entered : (f : Form) (img : List ℕ) (from chain start before middle now : ℕ) (head : Head) → IsFirstFilled f img chain (Some head) → from ≤ chain → before ≤ start + chains_reads f img from (chain - from)
    → middle ≤ before + heads_read f.chains chain (Some head) → now ≤ middle + records_reads f img (offsets f.order img (length img / 4) head.first) → now ≤ start + chains_reads f img from (head.chain + 1 - from)
chain_entered f img from chain start before middle now head first least so_far heads read =
    let h = head.chain in
    let some : word f.order img (chain_head h) ≢ 0 = λ e. first.filled (first.leads ∙ e) in
    let records : records_reads f img (offsets f.order img (length img / 4) head.first) ≡ records_reads f img (chain_of f img h) = ap (λ x. records_reads f img (offsets f.order img (length img / 4) x)) first.leads in
    let whole : chain_reads f img h ≡ 4 + (4 * min 1024 (f.chains - h) + records_reads f img (chain_of f img h)) = rw (ne_eqb (word f.order img (chain_head h)) 0 some) refl in
    let one : h + 1 - h ≡ 1 = omega arith in
    let last : chains_reads f img h (h + 1 - h) ≡ chain_reads f img h + sum_by (chain_reads f img) [] = ap (chains_reads f img h) one ∙ sum_by-cons (chain_reads f img) h [] in
    omega (arith, so_far, heads, read, records, whole, last, chains_between f img from chain (h + 1) least (omega (arith, first.least)), chains_between f img chain h (h + 1) first.least (omega arith), chains_least f img chain (h - chain))
