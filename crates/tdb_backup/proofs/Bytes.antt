-- The bytes of a record that were read, and the pair in them.
use Rattle.std.proofs.Common.{◌≡◌, ℕ, ◌+◌, ◌-◌, ◌≤◌, List, ◌++◌, length, take, drop, append_assoc, length-append, length-take, length-drop, length-take-le, sym, ◌∙◌, ap, arith}
use Rattle.std.proofs.Math.Seq.{take-add, take-append_seam}
use Rattle.std.proofs.lemmas.List.{drop-take, take-take}
use Rattle.std.proofs.lemmas.Grind.{common_steps}
use Rattle.tdb_words.specs.declared.record.Rec.{Rec}
use Rattle.tdb_backup.specs.Held.{IsPairOf}

from_on : (img : List ℕ) (at n : ℕ) → drop n (drop at img) ≡ drop (at + n) img
from_on img at n = grind (arith, common_steps)

-- the rest was read behind what was held, and other bytes follow it
pub joined_rest : (room img rest after : List ℕ) (at held end : ℕ) → held ≤ end → end ≤ length room → take held room ≡ take held (drop at img) → length rest ≡ end - held → rest ≡ take (end - held) (drop (at + held) img) → take end (take held room ++ (rest ++ after)) ≡ take end (drop at img)
joined_rest room img rest after at held end few within front many read =
    let front_len : length (take held room) ≡ held = length-take-le held room (omega (arith, few, within)) in
    let long : end ≡ length (take held room ++ rest) = omega (arith, length-append (take held room) rest, front_len, many, few) in
    let sum : held + (end - held) ≡ end = omega (arith, few) in
    ap (λ n. take n (take held room ++ (rest ++ after))) long
    ∙ ap (take (length (take held room ++ rest))) (sym (append_assoc (take held room) rest after))
    ∙ take-append_seam (take held room ++ rest) after
    ∙ (λ j. front j ++ (read ∙ ap (take (end - held)) (sym (from_on img at held))) j)
    ∙ sym (take-add held (end - held) (drop at img)) ∙ ap (λ n. take n (drop at img)) sum

-- what was held of the first bytes is held of fewer of them, in a room that got longer
pub kept_front : (old new img : List ℕ) (at n held : ℕ) → take (length old) new ≡ old → n ≤ held → held ≤ length old → take held old ≡ take held (drop at img) → take n new ≡ take n (drop at img)
kept_front old new img at n held kept few within front =
    let all : n ≤ length old = omega (arith, few, within) in
    sym (take-take n (length old) new all) ∙ ap (take n) kept ∙ sym (take-take n held old few) ∙ ap (take n) front ∙ take-take n held (drop at img) few

-- bytes that begin alike have the same parts there
part : (bytes shown : List ℕ) (from n end : ℕ) → from + n ≤ end → take end bytes ≡ take end shown → take n (drop from bytes) ≡ take n (drop from shown)
part bytes shown from n end within same =
    let few : n ≤ end - from = omega (arith, within) in
    let sum : from + (end - from) ≡ end = omega (arith, within) in
    let cut = λ (xs : List ℕ). take-take n (end - from) (drop from xs) few in
    let behind = λ (xs : List ℕ). drop-take from (end - from) xs in
    sym (cut bytes) ∙ ap (take n) (sym (behind bytes) ∙ (λ j. drop from (take (sum j) bytes)) ∙ ap (drop from) same ∙ (λ j. drop from (take (sym sum j) shown)) ∙ behind shown) ∙ cut shown

-- the key and the value in the first bytes of a record
pub pair_cut : (bytes img : List ℕ) (at : ℕ) (rec : Rec) → take (24 + rec.key_len + rec.data_len) bytes ≡ take (24 + rec.key_len + rec.data_len) (drop at img)
    → IsPairOf rec img at (take (24 + rec.key_len - 24) (drop 24 bytes), take (24 + rec.key_len + rec.data_len - (24 + rec.key_len)) (drop (24 + rec.key_len) bytes))
pair_cut bytes img at rec read =
    let k = rec.key_len in
    let d = rec.data_len in
    let key_len : 24 + k - 24 ≡ k = omega arith in
    let value_len : 24 + k + d - (24 + k) ≡ d = omega arith in
    let far : at + (24 + k) ≡ at + 24 + k = omega arith in
    let key = ap (λ n. take n (drop 24 bytes)) key_len ∙ part bytes (drop at img) 24 k (24 + k + d) (omega arith) read ∙ ap (take k) (from_on img at 24) in
    let value = ap (λ n. take n (drop (24 + k) bytes)) value_len ∙ part bytes (drop at img) (24 + k) d (24 + k + d) (omega arith) read ∙ ap (take d) (from_on img at (24 + k) ∙ ap (λ n. drop n img) far) in
    λ j. (key j, value j)

-- the same where the header wasn't read with them
pub known_cut : (bytes img : List ℕ) (at : ℕ) (rec : Rec) → take (rec.key_len + rec.data_len) bytes ≡ take (rec.key_len + rec.data_len) (drop (at + 24) img)
    → IsPairOf rec img at (take (rec.key_len - 0) (drop 0 bytes), take (rec.key_len + rec.data_len - rec.key_len) (drop rec.key_len bytes))
known_cut bytes img at rec read =
    let k = rec.key_len in
    let d = rec.data_len in
    let key_len : k - 0 ≡ k = omega arith in
    let value_len : k + d - k ≡ d = omega arith in
    let key = ap (λ n. take n (drop 0 bytes)) key_len ∙ part bytes (drop (at + 24) img) 0 k (k + d) (omega arith) read in
    let value = ap (λ n. take n (drop k bytes)) value_len ∙ part bytes (drop (at + 24) img) k d (k + d) (omega arith) read ∙ ap (take d) (from_on img (at + 24) k) in
    λ j. (key j, value j)

pub key_cut : (bytes : List ℕ) (k d : ℕ) → 24 + k + d ≤ length bytes → length (take (24 + k - 24) (drop 24 bytes)) ≡ k
key_cut bytes k d long = omega (arith, length-take (24 + k - 24) (drop 24 bytes), length-drop 24 bytes, long)

pub known_key_cut : (bytes : List ℕ) (k d : ℕ) → k + d ≤ length bytes → length (take (k - 0) (drop 0 bytes)) ≡ k
known_key_cut bytes k d long = omega (arith, length-take (k - 0) (drop 0 bytes), long)
