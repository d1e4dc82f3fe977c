-- Plays of a group, one after the other.
use Rattle.std.proofs.Common.{◌≡◌, ℕ, zero, suc, ◌+◌, ◌-◌, ◌*◌, ◌/◌, ◌%◌, ◌≤◌, ◌<◌, min, drop, List, [], ◌∷◌, ◌++◌, sym, ◌∙◌, ap, arith}
use Rattle.std.specs.List.{flat_map, range_with_len}
use Rattle.std.proofs.lemmas.List.{append_assoc, append-nil, flat_map_more}
use Rattle.std.proofs.lemmas.List.Concat.{flat_map-cons}
use Rattle.std.proofs.lemmas.Grind.{flat_map-append}
use Rattle.std.proofs.lemmas.List.FromFn.{map-range_with_len_more}
use Rattle.std.proofs.lemmas.List.{take-append-drop}
use Rattle.std.proofs.lemmas.List.FromFn.{take-map-range_with_len}
use Rattle.tdb_commands.specs.declared.play.Play.{Play}
use Rattle.tdb_gen.specs.Plays.{gift, gifts, round, rounds, groups, group_plays, group_list, together}

range_behind : (a n : ℕ) → range_with_len a (suc n) ≡ range_with_len a n ++ (a + n) ∷ []
range_behind a zero = ap (λ k. k ∷ []) (let e : a ≡ a + 0 = omega arith in e)
range_behind a (suc n) = ap (λ ks. a ∷ ks) (range_behind (a + 1) n ∙ ap (λ k. range_with_len (a + 1) n ++ k ∷ []) (let e : a + 1 + n ≡ a + suc n = omega arith in e))

-- one round more, and several
pub rounds_more : (i : ℕ) → rounds i ++ round ≡ rounds (i + 1)
rounds_more i =
    flat_map_more (λ k. round) [] (range_with_len 0 i) i
    ∙ ap (λ ks. flat_map (λ k. round) ks) (ap (λ k. range_with_len 0 i ++ k ∷ []) (let e : i ≡ 0 + i = omega arith in e) ∙ sym (range_behind 0 i) ∙ ap (range_with_len 0) (let e : suc i ≡ i + 1 = omega arith in e))

pub rounds_join : (a b : ℕ) → rounds a ++ rounds b ≡ rounds (a + b)
rounds_join a zero = append-nil (rounds a) ∙ ap rounds (let e : a ≡ a + 0 = omega arith in e)
rounds_join a (suc b) =
    ap (λ ps. rounds a ++ ps) (ap rounds (let e : suc b ≡ b + 1 = omega arith in e) ∙ sym (rounds_more b))
    ∙ sym (append_assoc (rounds a) (rounds b) round)
    ∙ ap (λ ps. ps ++ round) (rounds_join a b)
    ∙ rounds_more (a + b)
    ∙ ap rounds (let e : a + b + 1 ≡ a + suc b = omega arith in e)

-- no command, one more, and commands up to a place with those behind it
pub gifts_none : (seed start : ℕ) → gifts seed start (start - start) ≡ []
gifts_none seed start = ap (gifts seed start) (let e : start - start ≡ 0 = omega arith in e)

pub gifts_more : (seed start i : ℕ) → start ≤ i → gifts seed start (i - start) ++ gift seed i ∷ [] ≡ gifts seed start (i + 1 - start)
gifts_more seed start i low =
    sym (map-range_with_len_more (gift seed) start (i - start) i (let e : start + (i - start) ≡ i = omega (arith, low) in e))
    ∙ ap (gifts seed start) (let e : i - start + 1 ≡ i + 1 - start = omega (arith, low) in e)

pub gifts_cut : (seed start n m : ℕ) → n ≤ m → gifts seed start n ++ drop n (gifts seed start m) ≡ gifts seed start m
gifts_cut seed start n m low = ap (λ ps. ps ++ drop n (gifts seed start m)) (sym (take-map-range_with_len (gift seed) start m n low)) ∙ take-append-drop n (gifts seed start m)

-- the plays of one part
one_part : (plays : List Play) → together (plays ∷ []) ≡ plays
one_part plays = flat_map-cons (λ p. p) plays [] ∙ append-nil plays

-- one group more
pub groups_more : (n seed i : ℕ) → together (group_list n seed i) ++ group_plays n seed i ≡ together (group_list n seed (i + 1))
groups_more n seed i =
    sym (flat_map-append (λ plays. plays) (group_list n seed i) (group_plays n seed i ∷ []) ∙ ap (λ ps. together (group_list n seed i) ++ ps) (one_part (group_plays n seed i)))
    ∙ ap together (sym (map-range_with_len_more (group_plays n seed) 0 i i (let e : 0 + i ≡ i = omega arith in e)))

-- how many groups there are
pub groups_up : (n : ℕ) → n / 3 + min 1 (n % 3) ≡ groups n
groups_up n = omega arith

-- the group at a place begins at the next command
pub group_at : (n i : ℕ) → i < n / 3 + min 1 (n % 3) → min n (3 * i) ≡ 3 * i
group_at n i low = omega (arith, low)

pub group_after : (n i k : ℕ) → k ≡ min n (3 * i) → min n (k + 3) ≡ min n (3 * (i + 1))
group_after n i k e = omega (arith, e)

-- groups up to a place, and those behind it
pub groups_cut : (n seed i m : ℕ) → i ≤ m → together (group_list n seed i) ++ together (drop i (group_list n seed m)) ≡ together (group_list n seed m)
groups_cut n seed i m low =
    sym (flat_map-append (λ plays. plays) (group_list n seed i) (drop i (group_list n seed m)))
    ∙ ap together (ap (λ ps. ps ++ drop i (group_list n seed m)) (sym (take-map-range_with_len (group_plays n seed) 0 m i low)) ∙ take-append-drop i (group_list n seed m))
