-- Writes one behind the other are one, and padding in pieces is padding.
use Rattle.std.proofs.Common.{◌≡◌, ℕ, ◌+◌, ◌-◌, ◌*◌, ◌≤◌, List, ◌++◌, length, replicate, append_assoc, length-append, sym, ◌∙◌, ap, arith}
use Rattle.std.proofs.lemmas.List.{length-replicate, replicate-append-replicate}
use Rattle.tdb_disk.specs.Image.{overlay}
use Rattle.tdb_words.specs.declared.record.TheConstants.{PADDING}
use Rattle.tdb_words.specs.declared.record.Rec.{Rec}
use Rattle.tdb_words.specs.declared.word.Order.{Order}
use Rattle.tdb_words.specs.Word.{bytes_of_word}
use Rattle.tdb_words.specs.Record.{bytes_of_rec}
use Rattle.tdb_space.specs.NewRecord.{record_bytes}
use Rattle.tdb_space.proofs.Exchange.Overlaid.{overlay_both}

-- two writes, the second where the first ended
pub two_written : (a m b : List ℕ) (at place : ℕ) (xs ys : List ℕ) → place ≡ at + length xs → at + length xs + length ys ≤ length a → m ≡ overlay a at xs → b ≡ overlay m place ys → b ≡ overlay a at (xs ++ ys)
two_written a m b at place xs ys behind within first second =
    second ∙ (λ j. overlay (first j) (behind j) ys) ∙ overlay_both a at xs ys within

-- and three
pub three_written : (a m n b : List ℕ) (at second third : ℕ) (xs ys zs : List ℕ) → second ≡ at + length xs → third ≡ at + length xs + length ys → at + length xs + length ys + length zs ≤ length a → m ≡ overlay a at xs → n ≡ overlay m second ys → b ≡ overlay n third zs → b ≡ overlay a at (xs ++ ys ++ zs)
three_written a m n b at second third xs ys zs behind further within p q r =
    let both : length (xs ++ ys) ≡ length xs + length ys = length-append xs ys in
    two_written a n b at third (xs ++ ys) zs (omega (arith, further, both)) (omega (arith, within, both)) (two_written a m n at second xs ys behind (omega (arith, within)) p q) r

-- one more piece of padding
pub piece_more : (a m b : List ℕ) (at i : ℕ) (piece : List ℕ) → piece ≡ replicate 4096 PADDING → at + 4096 * (i + 1) ≤ length a → m ≡ overlay a at (replicate (4096 * i) PADDING) → b ≡ overlay m (at + 4096 * i) piece → b ≡ overlay a at (replicate (4096 * (i + 1)) PADDING)
piece_more a m b at i piece is within first second =
    let long : length (replicate (4096 * i) PADDING) ≡ 4096 * i = length-replicate (4096 * i) PADDING in
    let sum : 4096 * i + 4096 ≡ 4096 * (i + 1) = omega arith in
    two_written a m b at (at + 4096 * i) (replicate (4096 * i) PADDING) (replicate 4096 PADDING) (omega (arith, long)) (omega (arith, long, within, length-replicate 4096 PADDING)) first (second ∙ ap (overlay m (at + 4096 * i)) is)
    ∙ ap (overlay a at) (replicate-append-replicate (4096 * i) 4096 PADDING ∙ ap (λ n. replicate n PADDING) sum)

-- a record's bytes in three parts: up to the value, whole pieces of padding, and the rest
pub record_parts : (o : Order) (r : Rec) (key value : List ℕ) (whole rest : ℕ) → 4096 * whole + rest ≡ r.rec_len - (length key + length value + 4)
    → bytes_of_rec o r ++ key ++ value ++ replicate (4096 * whole) PADDING ++ (replicate rest PADDING ++ bytes_of_word o (24 + r.rec_len)) ≡ record_bytes o r key value
record_parts o r key value whole rest sum =
    sym (append_assoc (bytes_of_rec o r ++ key ++ value ++ replicate (4096 * whole) PADDING) (replicate rest PADDING) (bytes_of_word o (24 + r.rec_len)))
    ∙ ap (λ bytes. bytes ++ bytes_of_word o (24 + r.rec_len)) (
    append_assoc (bytes_of_rec o r ++ key ++ value) (replicate (4096 * whole) PADDING) (replicate rest PADDING)
    ∙ ap (λ bytes. bytes_of_rec o r ++ key ++ value ++ bytes) (replicate-append-replicate (4096 * whole) rest PADDING ∙ ap (λ n. replicate n PADDING) sum)
    )
