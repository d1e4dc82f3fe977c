-- What the first bytes of an image and its length say of its front.
use Rattle.std.proofs.Common.{◌≡◌, ℕ, ◌+◌, ◌<◌, ◌≤◌, true, false, List, length, take, drop, Some, None, refl, sym, ◌∙◌, ap, subst, arith}
use Rattle.std.specs.Prelude.{◌%◌, ◌*◌, nat_lt, is_some}
use Rattle.std.proofs.lemmas.Bool.Decides.{nat_tests}
use Rattle.tdb_words.specs.declared.word.Order.{Order}
use Rattle.tdb_words.specs.declared.header.HeaderFault.{HeaderFault}
use Rattle.tdb_words.specs.declared.what.What.TheVariants.{Short, Header}
use Rattle.tdb_words.specs.Word.{word}
use Rattle.tdb_words.specs.Header.{HeaderOk, header_fault, header_at, header_order, hash_size_of, recovery_start_of, sequence_of}
use Rattle.tdb_words.proofs.Words.{word_of_part}
use Rattle.tdb_words.proofs.SameHeader.{SameHeader, same_front, same_order, same_hash, same_hash_size, same_fault}
use Rattle.tdb_space.specs.Form.{form_of}
use Rattle.tdb_space.specs.FirstFault.{front_fault, is_short}
use Rattle.tdb_space.proofs.FirstFault.Cleared.{below_to}
use Rattle.tdb_check.specs.Front.{is_short_length}

lt_true : (a b : ℕ) → a < b → nat_lt a b ≡ true
lt_true a b h = grind (arith, nat_tests)

-- too short for a header
pub front_short : (img : List ℕ) (len : ℕ) → length img ≡ len → len < 168 → front_fault img ≡ Some (Short, len)
front_short img len long low =
    let test : nat_lt (length img) 168 ≡ true = ap (λ n. nat_lt n 168) long ∙ lt_true len 168 low in
    rw test (λ j. Some (Short, long j))

-- the front that was read has the image's header
pub front_same : (img bytes : List ℕ) → bytes ≡ take 168 (drop 0 img) → SameHeader bytes img
front_same img bytes read = subst (λ b. SameHeader b img) (sym read) (same_front img 168 (omega arith))

-- a header with a fault
pub front_header : (img bytes : List ℕ) (fault : HeaderFault) → 168 ≤ length img → bytes ≡ take 168 (drop 0 img) → header_fault bytes ≡ Some fault → (front_fault img ≡ Some (Header, 0)) × (header_fault img ≡ Some fault)
front_header img bytes fault long read h =
    let same : header_fault img ≡ Some fault = sym (same_fault bytes img (front_same img bytes read)) ∙ h in
    (rw (below_to (length img) 168 long) (rw same refl), same)

-- a header without one, and what it says
pub header_whole : (img bytes : List ℕ) → 168 ≤ length img → bytes ≡ take 168 (drop 0 img) → header_fault bytes ≡ None → HeaderOk img
header_whole img bytes long read h = record { long_enough = long; no_fault = sym (same_fault bytes img (front_same img bytes read)) ∙ h }

word_read : (o : Order) (img bytes : List ℕ) (at : ℕ) → at + 4 ≤ 168 → bytes ≡ take 168 (drop 0 img) → word o bytes at ≡ word o img at
word_read o img bytes at within read =
    let place : 0 + at ≡ at = omega arith in
    ap (λ b. word o b at) read ∙ word_of_part o img 0 168 at within ∙ ap (word o img) place

pub header_read : (img bytes : List ℕ) → bytes ≡ take 168 (drop 0 img) → header_at bytes ≡ header_at img
header_read img bytes read =
    let same = front_same img bytes read in
    let order = same_order bytes img same in
    let recovery : recovery_start_of bytes ≡ recovery_start_of img = (λ j. word (order j) bytes 44) ∙ word_read (header_order img) img bytes 44 (omega arith) read in
    let sequence : sequence_of bytes ≡ sequence_of img = (λ j. word (order j) bytes 48) ∙ word_read (header_order img) img bytes 48 (omega arith) read in
    λ j. record {
      order = order j;
      hash = same_hash bytes img same j;
      hash_size = same_hash_size bytes img same j;
      recovery_start = recovery j;
      sequence = sequence j;
    }

-- the length is none of a file with this header, or is one
short_is : (img : List ℕ) (len chains : ℕ) → length img ≡ len → chains ≡ hash_size_of img → is_short (form_of img) img ≡ is_short_length chains len
short_is img len chains long is = λ j. is_short_length (sym is j) (long j)

pub length_short : (img : List ℕ) (len chains : ℕ) → length img ≡ len → HeaderOk img → chains ≡ hash_size_of img → is_short_length chains len ≡ true → front_fault img ≡ Some (Short, len)
length_short img len chains long ok is short =
    let none : is_some (header_fault img) ≡ false = rw ok.no_fault refl in
    rw (below_to (length img) 168 ok.long_enough) (rw none (rw (short_is img len chains long is ∙ short) (λ j. Some (Short, long j))))

pub front_sound : (img : List ℕ) (len chains : ℕ) → length img ≡ len → HeaderOk img → chains ≡ hash_size_of img → is_short_length chains len ≡ false → front_fault img ≡ None
front_sound img len chains long ok is fits =
    let none : is_some (header_fault img) ≡ false = rw ok.no_fault refl in
    rw (below_to (length img) 168 ok.long_enough) (rw none (rw (short_is img len chains long is ∙ fits) refl))

-- a length that fits is a whole number of words, and reaches the records
pub fits_from : (chains len : ℕ) → is_short_length chains len ≡ false → (len % 4 ≡ 0) × (168 + 4 * (chains + 1) ≤ len)
fits_from chains len h = grind (arith, nat_tests)
