-- What is written is read back, and only what is written changes.
use Rattle.std.proofs.Common.{length-append, ◌≡◌, ℕ, ◌+◌, ◌-◌, ◌<◌, ◌≤◌, ◌⊎◌, ◌^◌, List, ◌++◌, length, take, drop, add-zero, refl, sym, ◌∙◌, ap, subst, inl, inr, arith}
use Rattle.std.specs.Prelude.{slice_index}
use Rattle.std.proofs.lemmas.List.{same_lists, get_or_default, length-take-le, length-drop, get_or-drop, get_or-take, get_or_append_left, get_or-append-add}
use Rattle.tdb_disk.specs.Image.{overlay}
use Rattle.tdb_disk.specs.Stop.{Torn}
use Rattle.tdb_disk.proofs.Image.{length-overlay, overlay_below, overlay_above, overlay_in}
use Rattle.tdb_words.specs.declared.word.Order.{Order}
use Rattle.tdb_words.specs.declared.word.Order.TheVariants.{Little, Big}
use Rattle.tdb_words.specs.Word.{word, bytes_of_word}
use Rattle.tdb_words.proofs.Words.{word_from_bytes, word_made}
use Rattle.tdb_space.specs.Form.{Form}
use Rattle.tdb_space.specs.Record.{next_of}
use Rattle.tdb_space.specs.Extents.{Extent, once, times}
use Rattle.tdb_space.specs.Exchange.{LedPast}
use Rattle.tdb_space.specs.Stays.{OnlyIn}
use Rattle.tdb_space.proofs.Extents.Counts.{where_is}
use Rattle.tdb_space.proofs.Extents.Counts.Lies.{lies, below, above}

-- a word has four bytes
pub word_length : (o : Order) (w : ℕ) → length (bytes_of_word o w) ≡ 4
word_length Little w = refl
word_length Big w = refl

-- a word within the bytes that were written is read back
pub word_overlaid : (o : Order) (img : List ℕ) (at : ℕ) (bytes : List ℕ) (k : ℕ) → k + 4 ≤ length bytes → at + length bytes ≤ length img → word o (overlay img at bytes) (at + k) ≡ word o bytes k
word_overlaid o img at bytes k inside within =
    word_from_bytes o (overlay img at bytes) bytes (at + k) k (λ j less.
    (let place : at + k + j - at ≡ k + j = omega arith in
    overlay_in img at bytes (at + k + j) (omega arith) (omega (arith, less, inside)) (omega (arith, less, inside, within)) ∙ ap (slice_index bytes) place))

-- and so is a word that was written as it is
pub word_put : (o : Order) (img : List ℕ) (at w : ℕ) → w < 2 ^ 32 → at + 4 ≤ length img → word o (overlay img at (bytes_of_word o w)) at ≡ w
word_put o img at w fits within =
    let four : length (bytes_of_word o w) ≡ 4 = word_length o w in
    ap (word o (overlay img at (bytes_of_word o w))) (sym (add-zero at)) ∙ word_overlaid o img at (bytes_of_word o w) 0 (omega (arith, four)) (omega (arith, four, within)) ∙ word_made o w fits

-- and so is a part
pub part_overlaid : (img : List ℕ) (at : ℕ) (bytes : List ℕ) (k n : ℕ) → k + n ≤ length bytes → at + length bytes ≤ length img → take n (drop (at + k) (overlay img at bytes)) ≡ take n (drop k bytes)
part_overlaid img at bytes k n inside within =
    let now = overlay img at bytes in
    let sized : length now ≡ length img = length-overlay img at bytes in
    let len_now : length (take n (drop (at + k) now)) ≡ n = length-take-le n (drop (at + k) now) (omega (arith, length-drop (at + k) now)) in
    let len_was : length (take n (drop k bytes)) ≡ n = length-take-le n (drop k bytes) (omega (arith, length-drop k bytes)) in
    same_lists (take n (drop (at + k) now)) (take n (drop k bytes)) (len_now ∙ sym len_was) (λ j d less.
    (let low : j < n = omega (arith, less, len_now) in
    let place : at + k + j - at ≡ k + j = omega arith in
    get_or_default (take n (drop (at + k) now)) j d 0 less ∙ get_or-take n (drop (at + k) now) j 0 low ∙ get_or-drop (at + k) now j 0
    ∙ overlay_in img at bytes (at + k + j) (omega arith) (omega (arith, low, inside)) (omega (arith, low, inside, within))
    ∙ ap (slice_index bytes) place
    ∙ sym (get_or-drop k bytes j 0) ∙ sym (get_or-take n (drop k bytes) j 0 low) ∙ get_or_default (take n (drop k bytes)) j 0 d (omega (arith, low, len_was))))

-- bytes that are written behind others are written with them
pub overlay_both : (img : List ℕ) (at : ℕ) (xs ys : List ℕ) → at + length xs + length ys ≤ length img → overlay (overlay img at xs) (at + length xs) ys ≡ overlay img at (xs ++ ys)
overlay_both img at xs ys within =
    let front = overlay img at xs in
    let both = overlay img at (xs ++ ys) in
    let last = overlay front (at + length xs) ys in
    let front_long : length front ≡ length img = length-overlay img at xs in
    let last_long : length last ≡ length img = length-overlay front (at + length xs) ys ∙ front_long in
    let both_long : length both ≡ length img = length-overlay img at (xs ++ ys) in
    let sum : length (xs ++ ys) ≡ length xs + length ys = length-append xs ys in
    same_lists last both (last_long ∙ sym both_long) (λ i d low.
    (let there : slice_index last i ≡ slice_index both i =
    elim (where_is (at, length xs) i) [
      | lies from to _ ↦
          overlay_below front (at + length xs) ys i to ∙ overlay_in img at xs i from to (omega (arith, low, last_long))
          ∙ sym (overlay_in img at (xs ++ ys) i from (omega (arith, to, sum)) (omega (arith, low, last_long)) ∙ get_or_append_left xs ys 0 (i - at) (omega (arith, from, to)))
      | below under _ ↦ overlay_below front (at + length xs) ys i (omega (arith, under)) ∙ overlay_below img at xs i under ∙ sym (overlay_below img at (xs ++ ys) i under)
      | above over _ ↦
          elim (where_is (at + length xs, length ys) i) [
            | lies from to _ ↦
                let place : i - at ≡ length xs + (i - (at + length xs)) = omega (arith, from) in
                overlay_in front (at + length xs) ys i from to (omega (arith, low, last_long, front_long))
                ∙ sym (overlay_in img at (xs ++ ys) i (omega (arith, over)) (omega (arith, to, sum)) (omega (arith, low, last_long)) ∙ ap (slice_index (xs ++ ys)) place ∙ get_or-append-add xs ys (i - (at + length xs)) 0)
            | below under _ ↦ absurd (omega (arith, under, over))
            | above past _ ↦
                overlay_above front (at + length xs) ys i past ∙ overlay_above img at xs i over ∙ sym (overlay_above img at (xs ++ ys) i (omega (arith, past, sum)))
          ]
    ] in
    get_or_default last i d 0 low ∙ there ∙ get_or_default both i 0 d (omega (arith, low, last_long, both_long))))

-- the next word of a record is written over the word that led to it
pub led_past_written : (f : Form) (a b : List ℕ) (before y next : ℕ) → next < 2 ^ 32 → next ≡ next_of f.order a y → before + 4 ≤ length a → b ≡ overlay a before (bytes_of_word f.order next) → LedPast f a b before y
led_past_written f a b before y next fits is within written =
    let bytes = bytes_of_word f.order next in
    let four : length bytes ≡ 4 = word_length f.order next in
    subst (λ image. LedPast f a image before y) (sym written) (record {
      size = length-overlay a before bytes;
      next = word_put f.order a before next fits within ∙ is;
      others = λ i outside. elim outside [ inl under ↦ overlay_below a before bytes i under | inr over ↦ overlay_above a before bytes i (omega (arith, four, over)) ];
    })

-- where nothing changed
pub only_same : (es : List Extent) (a b : List ℕ) → b ≡ a → OnlyIn es a b
only_same es a b same i none = ap (λ img. slice_index img i) same

-- bytes that no extent of some holds are held by none of fewer
pub only_within : (es more : List Extent) (a b : List ℕ) → ((i : ℕ) → times more i ≡ 0 → times es i ≡ 0) → OnlyIn es a b → OnlyIn more a b
only_within es more a b fewer only i none = only i (fewer i none)

-- two changes within the same extents
pub only_then : (es : List Extent) (a b c : List ℕ) → OnlyIn es a b → OnlyIn es b c → OnlyIn es a c
only_then es a b c first second i none = second i none ∙ first i none

-- a byte beside an extent
pub outside : (e : Extent) (i : ℕ) → once e i ≡ 0 → (i < e.0) ⊎ (e.0 + e.1 ≤ i)
outside e i none = elim (where_is e i) [ lies _ _ one ↦ absurd (omega (arith, one, none)) | below under _ ↦ inl under | above over _ ↦ inr over ]

-- a write that failed changed bytes of its range at most
pub torn_only : (at n : ℕ) (es : List Extent) (a b : List ℕ) → ((i : ℕ) → times es i ≡ 0 → once (at, n) i ≡ 0) → Torn at n a b → OnlyIn es a b
torn_only at n es a b among torn i none = elim (outside (at, n) i (among i none)) [ inl under ↦ torn.below i under | inr over ↦ torn.above i over ]

-- and one that was done did too
pub put_only : (at n : ℕ) (bytes : List ℕ) (es : List Extent) (a b : List ℕ) → length bytes ≡ n → ((i : ℕ) → times es i ≡ 0 → once (at, n) i ≡ 0) → b ≡ overlay a at bytes → OnlyIn es a b
put_only at n bytes es a b long among put i none =
    ap (λ img. slice_index img i) put
    ∙ elim (outside (at, n) i (among i none)) [ inl under ↦ overlay_below a at bytes i under | inr over ↦ overlay_above a at bytes i (omega (arith, long, over)) ]
