-- What a window that goes forward shows: bytes from a later offset on, and those that it keeps.
use Rattle.std.proofs.Common.{◌≡◌, ℕ, ◌+◌, ◌-◌, ◌≤◌, List, ◌++◌, length, take, drop, inl, inr, sym, ◌∙◌, ap, arith}
use Rattle.std.specs.List.{copy_within}
use Rattle.std.proofs.Math.Seq.{take-append_seam}
use Rattle.std.proofs.lemmas.Bool.{cases_eq}
use Rattle.std.proofs.lemmas.List.{drop-take, drop-drop, length-append, length-take-le, length-drop, append_assoc}
use Rattle.std.proofs.lemmas.List.Edits.{take-paste, length-paste}
use Rattle.std.proofs.lemmas.Grind.{common_steps}
use Rattle.tdb_words.specs.declared.word.Order.{Order}
use Rattle.tdb_words.specs.Word.{word}
use Rattle.tdb_words.proofs.Words.{word_of_part}
use Rattle.tdb_check.proofs.Windows.{pieces_join}

-- bytes behind the first k of those that are held
pub held_part : (img buf : List ℕ) (from held k c : ℕ) → k + c ≤ held → take held buf ≡ take held (drop from img) → take c (drop k buf) ≡ take c (drop (from + k) img)
held_part img buf from held k c within shows = sym (part buf) ∙ ap (λ b. drop k (take (k + c) b)) shows ∙ part (drop from img) ∙ ap (take c) (drop-drop k from img)
  where
    part : (b : List ℕ) → drop k (take (k + c) (take held b)) ≡ take c (drop k b)
    part b =
        let front : take (k + c) (take held b) ≡ take (k + c) b = grind (arith, common_steps) in
        ap (drop k) front ∙ drop-take k c b

-- all that is held from an offset on
pub held_from : (img buf : List ℕ) (from held at : ℕ) → from ≤ at → at ≤ from + held → held ≤ length buf → take held buf ≡ take held (drop from img)
    → take (held - (at - from)) (drop (at - from) buf) ≡ take (length (take (held - (at - from)) (drop (at - from) buf))) (drop at img)
held_from img buf from held at back within fits shows =
    let there : from + (at - from) ≡ at = omega arith in
    let rest : length (drop (at - from) buf) ≡ length buf - (at - from) = length-drop (at - from) buf in
    let long : length (take (held - (at - from)) (drop (at - from) buf)) ≡ held - (at - from) = length-take-le (held - (at - from)) (drop (at - from) buf) (omega (arith, rest)) in
    held_part img buf from held (at - from) (held - (at - from)) (omega arith) shows ∙ (λ j. take (sym long j) (drop (there j) img))

-- the last of what is held, from an offset on, where that much is kept
held_last : (img buf : List ℕ) (from held at kept : ℕ) → from ≤ at → kept ≡ (from + held) - at → take held buf ≡ take held (drop from img) → take kept (drop (held - kept) buf) ≡ take kept (drop at img)
held_last img buf from held at kept back is shows =
    elim (cases_eq kept 0) [
      | inl none ↦ (λ j. take (none j) (drop (held - kept) buf)) ∙ (λ j. take (sym none j) (drop at img))
      | inr some ↦
          let there : from + (held - kept) ≡ at = omega (arith, is, some) in
          held_part img buf from held (held - kept) kept (omega (arith, is, some)) shows ∙ ap (λ n. take kept (drop n img)) there
    ]

-- the front of a window that keeps its last bytes, and those that are read behind them, show what stands from a later
-- offset on
pub forward_shows : (img old kept_bytes piece post new : List ℕ) (from held at kept to : ℕ) → from ≤ at → held ≤ length old → kept ≡ (from + held) - at → kept + length piece ≡ to
    → kept_bytes ≡ copy_within old (held - kept) held 0 → piece ≡ take (length piece) (drop (at + kept) img) → take held old ≡ take held (drop from img)
    → new ≡ take kept kept_bytes ++ (piece ++ post) → take to new ≡ take to (drop at img)
forward_shows img old kept_bytes piece post new from held at kept to back fits is all copied read shows now =
    let low : kept ≤ held = omega (arith, is) in
    let much : 0 + (held - (held - kept)) ≡ kept = omega arith in
    let rest : length (drop (held - kept) old) ≡ length old - (held - kept) = length-drop (held - kept) old in
    let front : take kept kept_bytes ≡ take kept (drop at img) =
    ap (take kept) copied ∙ ap (λ n. take n (copy_within old (held - kept) held 0)) (sym much)
    ∙ take-paste old 0 (drop (held - kept) old) (held - (held - kept)) (omega arith) (omega (arith, rest))
    ∙ ap (λ n. take n (drop (held - kept) old)) (omega arith)
    ∙ held_last img old from held at kept back is shows in
    let same : length kept_bytes ≡ length old = ap length copied ∙ length-paste old 0 (drop (held - kept) old) (held - (held - kept)) (omega (arith, low, fits)) (omega (arith, rest)) in
    let size : length (take kept kept_bytes) ≡ kept = length-take-le kept kept_bytes (omega (arith, same, low, fits)) in
    let long : length (take kept kept_bytes ++ piece) ≡ to = length-append (take kept kept_bytes) piece ∙ ap (λ n. n + length piece) size ∙ all in
    ap (take to) (now ∙ sym (append_assoc (take kept kept_bytes) piece post))
    ∙ ap (λ n. take n ((take kept kept_bytes ++ piece) ++ post)) (sym long) ∙ take-append_seam (take kept kept_bytes ++ piece) post
    ∙ ap (λ w. w ++ piece) front ∙ pieces_join img at kept (length piece) piece read ∙ ap (λ n. take n (drop at img)) all

-- the first word of bytes that stand from an offset on
pub first_word : (o : Order) (img bytes : List ℕ) (at : ℕ) → 4 ≤ length bytes → bytes ≡ take (length bytes) (drop at img) → word o bytes 0 ≡ word o img at
first_word o img bytes at long shows =
    let front : at + 0 ≡ at = omega arith in
    ap (λ b. word o b 0) shows ∙ word_of_part o img at (length bytes) 0 (omega (arith, long)) ∙ ap (word o img) front
