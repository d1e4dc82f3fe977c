-- What pages make of the bytes of a file, place by place.
use Rattle.std.proofs.Common.{◌≡◌, ◌∙◌, ℕ, ◌+◌, ◌*◌, ◌/◌, ◌%◌, ◌-◌, ◌<◌, ◌≤◌, List, [], ◌∷◌, ◌++◌, Some, None, Option, length, take, drop, slice_index, option_map, zero, suc, refl, sym, ap, subst, inl, inr, arith}
use Rattle.std.proofs.lemmas.Bool.{cases_eq, cases_lt, false≢true}
use Rattle.std.proofs.lemmas.List.{same_lists, get_or_default, get_or_past, get_or-take, get_or-drop, length-take, length-take-le, length-drop, places}
use Rattle.std.proofs.lemmas.Grind.{common_steps}
use Rattle.std.proofs.lemmas.Slice.{overwrites}
use borrow.Rule.Slice.PartMut.{put_mid}
use Rattle.std.specs.Prelude.{IsSome}
use Rattle.tdb_disk.specs.Image.{overlay, padded}
use Rattle.tdb_disk.proofs.Image.{length-overlay, length-padded, overlay_below, overlay_above, overlay_in, padded_below, padded_in}
use Rattle.tdb_disk.specs.Stop.{Torn}
use Rattle.tdb_space.proofs.Exchange.Overlaid.{overlay_both}
use Rattle.tdb_txn.specs.Pages.{page_size, page_at, byte_in, byte_over, filled, length_filled, contents, ZeroFrom, PutIn, Added, HasPage}
use Rattle.tdb_txn.specs.declared.page.Page.{Page}
use Rattle.tdb_txn.proofs.Listed.{page_here, page_past}

-- a filled list holds the values of its function
pub filled_at : (byte : ℕ → ℕ) (n i : ℕ) → i < n → slice_index (filled byte n) i ≡ byte i
unfolding filled
filled_at byte zero i low = absurd (omega (arith, low))
filled_at byte (suc n) zero low = refl
filled_at byte (suc n) (suc i) low = filled_at (λ j. byte (suc j)) n i (omega (arith, low))

-- two filled lists whose functions have the same values
pub filled_same : (f g : ℕ → ℕ) (n : ℕ) → ((i : ℕ) → i < n → f i ≡ g i) → filled f n ≡ filled g n
filled_same f g n same =
    let long : length (filled f n) ≡ n = length_filled f n in
    same_lists (filled f n) (filled g n) (long ∙ sym (length_filled g n)) (λ i d low.
    (let under : i < n = omega (arith, low, long) in
    get_or_default (filled f n) i d 0 low ∙ filled_at f n i under ∙ same i under ∙ sym (filled_at g n i under)
    ∙ get_or_default (filled g n) i 0 d (omega (arith, under, length_filled g n))))

-- a list that has the values of a function is the filled one
pub filled_is : (byte : ℕ → ℕ) (n : ℕ) (xs : List ℕ) → length xs ≡ n → ((i : ℕ) → i < n → byte i ≡ slice_index xs i) → filled byte n ≡ xs
filled_is byte n xs long same =
    let filled_long : length (filled byte n) ≡ n = length_filled byte n in
    same_lists (filled byte n) xs (filled_long ∙ sym long) (λ i d low.
    (let under : i < n = omega (arith, low, filled_long) in
    get_or_default (filled byte n) i d 0 low ∙ filled_at byte n i under ∙ same i under ∙ get_or_default xs i 0 d (omega (arith, under, long))))

-- a page that is there
pub page_of : (pages : List Page) (k : ℕ) → HasPage pages k → (page : List ℕ) × (page_at pages k ≡ Some page)
page_of pages k there = some_of (page_at pages k) there
  where
    some_of : (x : Option (List ℕ)) → IsSome x → (page : List ℕ) × (x ≡ Some page)
    some_of None there = absurd (false≢true there)
    some_of (Some page) there = (page, refl)

-- each page has its length
pub page_long : (pages : List Page) (k : ℕ) (page : List ℕ) → page_at pages k ≡ Some page → length page ≡ page_size
page_long [] k page is = absurd (grind (arith, is))
page_long (p ∷ ps) k page is = elim (cases_eq p.number k) [
  | inl same ↦
      let here : Some p.bytes.items ≡ Some page = sym (page_here p ps k same) ∙ is in
      let items : p.bytes.items ≡ page = cc in
      ap length (sym items) ∙ p.whole
  | inr apart ↦ page_long ps k page (sym (page_past p ps k apart) ∙ is)
]

-- where a page is there, its byte counts
pub byte_there : (pages : List Page) (base : List ℕ) (i : ℕ) (page : List ℕ) → page_at pages (i / page_size) ≡ Some page
    → byte_over pages base i ≡ slice_index page (i % page_size)
byte_there pages base i page is = ap (λ p. byte_in p (i % page_size) (slice_index base i)) is

-- where none is, that of the file
pub byte_none : (pages : List Page) (base : List ℕ) (i : ℕ) → page_at pages (i / page_size) ≡ None
    → byte_over pages base i ≡ slice_index base i
byte_none pages base i is = ap (λ p. byte_in p (i % page_size) (slice_index base i)) is

-- a page that was loaded changes no byte
pub loaded : (old new : List Page) (number : ℕ) (page base : List ℕ) (size : ℕ) → Added number page old new
    → ((k : ℕ) → k < page_size → slice_index page k ≡ slice_index base (number * page_size + k))
    → contents new base size ≡ contents old base size
loaded old new number page base size added same = filled_same (byte_over new base) (byte_over old base) size
    (λ i low. elim (cases_eq (i / page_size) number) [
      | inl here ↦
          let place : number * page_size + i % page_size ≡ i = omega (arith, here) in
          let within : i % page_size < page_size = omega arith in
          let there : page_at new (i / page_size) ≡ Some page = ap (page_at new) here ∙ added.here in
          let none : page_at old (i / page_size) ≡ None = ap (page_at old) here ∙ added.before in
          byte_there new base i page there ∙ same (i % page_size) within ∙ ap (slice_index base) place ∙ sym (byte_none old base i none)
      | inr apart ↦ ap (λ p. byte_in p (i % page_size) (slice_index base i)) (added.others (i / page_size) apart)
    ])

-- bytes that are written into a page are written into the file
pub put_over : (old new : List Page) (number within : ℕ) (piece base : List ℕ) (size : ℕ) → PutIn number within piece old new
    → HasPage old number → within + length piece ≤ page_size → number * page_size + within + length piece ≤ size
    → contents new base size ≡ overlay (contents old base size) (number * page_size + within) piece
put_over old new number within piece base size put there one_page inside =
    let at = number * page_size + within in
    let was = contents old base size in
    let old_page = page_of old number there in
    let page = old_page.0 in
    let long : length page ≡ page_size = page_long old number page old_page.1 in
    let was_long : length was ≡ size = length_filled (byte_over old base) size in
    filled_is (byte_over new base) size (overlay was at piece) (length-overlay was at piece ∙ was_long)
    (λ i low. elim (cases_eq (i / page_size) number) [
      | inl here ↦
          let place : number * page_size + i % page_size ≡ i = omega (arith, here) in
          let k_low : i % page_size < page_size = omega arith in
          let before : page_at old (i / page_size) ≡ Some page = ap (page_at old) here ∙ old_page.1 in
          let after : page_at new (i / page_size) ≡ Some (overlay page within piece) =
          ap (page_at new) here ∙ put.here ∙ ap (option_map (λ p. overlay p within piece)) old_page.1 in
          let byte : byte_over new base i ≡ slice_index (overlay page within piece) (i % page_size) = byte_there new base i (overlay page within piece) after in
          let old_byte : slice_index was i ≡ slice_index page (i % page_size) = filled_at (byte_over old base) size i low ∙ byte_there old base i page before in
          elim (cases_lt i at) [
            | inl under ↦ byte ∙ overlay_below page within piece (i % page_size) (omega (arith, under, place)) ∙ sym old_byte ∙ sym (overlay_below was at piece i under)
            | inr from ↦ elim (cases_lt i (at + length piece)) [
              | inl to ↦
                  let same : i % page_size - within ≡ i - at = omega (arith, from, place) in
                  byte ∙ overlay_in page within piece (i % page_size) (omega (arith, from, place)) (omega (arith, to, place)) (omega (arith, k_low, long))
                  ∙ ap (slice_index piece) same ∙ sym (overlay_in was at piece i from to (omega (arith, low, was_long)))
              | inr over ↦ byte ∙ overlay_above page within piece (i % page_size) (omega (arith, over, place)) ∙ sym old_byte ∙ sym (overlay_above was at piece i over)
            ]
          ]
      | inr apart ↦
          let same : byte_over new base i ≡ slice_index was i =
          ap (λ p. byte_in p (i % page_size) (slice_index base i)) (put.others (i / page_size) apart) ∙ sym (filled_at (byte_over old base) size i low) in
          elim (cases_lt i at) [
            | inl under ↦ same ∙ sym (overlay_below was at piece i under)
            | inr from ↦ same ∙ sym (overlay_above was at piece i (elim (cases_lt i (at + length piece)) [
              | inl to ↦ absurd (apart (omega (arith, from, to, one_page)))
              | inr over ↦ over
            ]))
          ]
    ])

-- and no other byte than 0 comes past the length
pub zeros_put : (old new : List Page) (number within : ℕ) (piece : List ℕ) (size : ℕ) → PutIn number within piece old new
    → HasPage old number → number * page_size + within + length piece ≤ size → ZeroFrom size old → ZeroFrom size new
zeros_put old new number within piece size put there inside zeros i past = elim (cases_eq (i / page_size) number) [
  | inl here ↦
      let old_page = page_of old number there in
      let page = old_page.0 in
      let place : number * page_size + i % page_size ≡ i = omega (arith, here) in
      let before : page_at old (i / page_size) ≡ Some page = ap (page_at old) here ∙ old_page.1 in
      let after : page_at new (i / page_size) ≡ Some (overlay page within piece) =
      ap (page_at new) here ∙ put.here ∙ ap (option_map (λ p. overlay p within piece)) old_page.1 in
      let zero_before : slice_index page (i % page_size) ≡ 0 = sym (ap (λ p. byte_in p (i % page_size) 0) before) ∙ zeros i past in
      ap (λ p. byte_in p (i % page_size) 0) after ∙ overlay_above page within piece (i % page_size) (omega (arith, past, place, inside)) ∙ zero_before
  | inr apart ↦ ap (λ p. byte_in p (i % page_size) 0) (put.others (i / page_size) apart) ∙ zeros i past
]

-- bytes of a page are bytes of the file
pub page_read : (pages : List Page) (base : List ℕ) (size number within n : ℕ) (page : List ℕ) → page_at pages number ≡ Some page
    → within + n ≤ page_size → number * page_size + within + n ≤ size
    → take n (drop within page) ≡ take n (drop (number * page_size + within) (contents pages base size))
page_read pages base size number within n page is one_page inside =
    let at = number * page_size + within in
    let now = contents pages base size in
    let long : length page ≡ page_size = page_long pages number page is in
    let now_long : length now ≡ size = length_filled (byte_over pages base) size in
    let len_page : length (take n (drop within page)) ≡ n = length-take-le n (drop within page) (omega (arith, length-drop within page, long)) in
    let len_now : length (take n (drop at now)) ≡ n = length-take-le n (drop at now) (omega (arith, length-drop at now, now_long)) in
    same_lists (take n (drop within page)) (take n (drop at now)) (len_page ∙ sym len_now) (λ j d less.
    (let low : j < n = omega (arith, less, len_page) in
    let here : (at + j) / page_size ≡ number = omega (arith, low, one_page) in
    let place : (at + j) % page_size ≡ within + j = omega (arith, low, one_page) in
    let there : page_at pages ((at + j) / page_size) ≡ Some page = ap (page_at pages) here ∙ is in
    get_or_default (take n (drop within page)) j d 0 less ∙ get_or-take n (drop within page) j 0 low ∙ get_or-drop within page j 0
    ∙ ap (slice_index page) (sym place) ∙ sym (byte_there pages base (at + j) page there) ∙ sym (filled_at (byte_over pages base) size (at + j) (omega (arith, low, inside)))
    ∙ sym (get_or-drop at now j 0) ∙ sym (get_or-take n (drop at now) j 0 low) ∙ get_or_default (take n (drop at now)) j 0 d (omega (arith, low, len_now))))

-- where no page is there, bytes of the file are read
pub file_read : (pages : List Page) (base : List ℕ) (size number within n : ℕ) (buf : List ℕ) → page_at pages number ≡ None
    → within + n ≤ page_size → number * page_size + within + n ≤ size → length buf ≡ n
    → ((k : ℕ) → k < n → slice_index buf k ≡ slice_index base (number * page_size + within + k))
    → buf ≡ take n (drop (number * page_size + within) (contents pages base size))
file_read pages base size number within n buf none one_page inside long same =
    let at = number * page_size + within in
    let now = contents pages base size in
    let now_long : length now ≡ size = length_filled (byte_over pages base) size in
    let len_now : length (take n (drop at now)) ≡ n = length-take-le n (drop at now) (omega (arith, length-drop at now, now_long)) in
    same_lists buf (take n (drop at now)) (long ∙ sym len_now) (λ j d less.
    (let low : j < n = omega (arith, less, long) in
    let here : (at + j) / page_size ≡ number = omega (arith, low, one_page) in
    let nothing : page_at pages ((at + j) / page_size) ≡ None = ap (page_at pages) here ∙ none in
    get_or_default buf j d 0 less ∙ same j low
    ∙ sym (byte_none pages base (at + j) nothing) ∙ sym (filled_at (byte_over pages base) size (at + j) (omega (arith, low, inside)))
    ∙ sym (get_or-drop at now j 0) ∙ sym (get_or-take n (drop at now) j 0 low) ∙ get_or_default (take n (drop at now)) j 0 d (omega (arith, low, len_now))))

-- with no pages it is the file
pub no_pages : (base : List ℕ) (size : ℕ) → length base ≡ size → contents [] base size ≡ base
no_pages base size long = filled_is (byte_over [] base) size base long (λ i low. refl)

-- a greater length adds zeros
pub grown : (pages : List Page) (base : List ℕ) (size to : ℕ) → length base ≤ size → size ≤ to → ZeroFrom size pages
    → contents pages base to ≡ padded (contents pages base size) to
grown pages base size to short longer zeros =
    let was = contents pages base size in
    let was_long : length was ≡ size = length_filled (byte_over pages base) size in
    filled_is (byte_over pages base) to (padded was to) (length-padded was to ∙ omega (arith, was_long, longer)) (λ i low. elim (cases_lt i size) [
      | inl under ↦ sym (filled_at (byte_over pages base) size i under) ∙ sym (padded_below was to i (omega (arith, under, was_long)))
      | inr over ↦
          ap (byte_in (page_at pages (i / page_size)) (i % page_size)) (get_or_past base i 0 (omega (arith, short, over)))
          ∙ zeros i over ∙ sym (padded_in was to i (omega (arith, over, was_long)))
    ])

-- a page that was loaded from the file changes no byte
pub loaded_file : (was old new : List Page) (number : ℕ) (page buf base : List ℕ) (size : ℕ) → old ≡ was → Added number page old new
    → page ≡ buf → ((k : ℕ) → k < page_size → slice_index buf k ≡ slice_index base (number * page_size + k))
    → contents new base size ≡ contents was base size
loaded_file was old new number page buf base size same added is read =
    loaded old new number page base size added (λ k low. ap (λ xs. slice_index xs k) is ∙ read k low)
    ∙ ap (λ pages. contents pages base size) same

-- parts of a range are read one after another
pub part_read : (image buf piece : List ℕ) (off done end : ℕ) → done < end → end ≤ length buf
    → off + length buf ≤ length image → take done buf ≡ take done (drop off image)
    → piece ≡ take (end - done) (drop (off + done) image)
    → take end (put_mid done (end - done) buf piece) ≡ take end (drop off image)
part_read image buf piece off done end more inside range before now =
    let size : length piece ≡ end - done = rw now (grind (arith, common_steps)) in
    let joined : take end (put_mid done (end - done) buf piece) ≡ take done buf ++ piece = grind (arith, common_steps, overwrites) in
    joined ∙ rw (before, now) (same_lists _ _ (grind (arith, common_steps)) (λ k d h. elim (cases_lt k done) [
      | inl front ↦ grind (arith, places)
      | inr back ↦ grind (arith, places)
    ]))

-- a front of a list is a shorter one and what follows
pub front_more : (xs : List ℕ) (done end : ℕ) → done ≤ end → end ≤ length xs → take done xs ++ take (end - done) (drop done xs) ≡ take end xs
front_more xs done end more inside =
    same_lists _ _ (grind (arith, common_steps)) (λ k d h. elim (cases_lt k done) [
      | inl front ↦ grind (arith, places)
      | inr back ↦ grind (arith, places)
    ])

-- parts of a range are written one after another
pub part_written : (image now next bytes : List ℕ) (off done end at : ℕ) → done < end → end ≤ length bytes → off + length bytes ≤ length image
    → at ≡ off + done → now ≡ overlay image off (take done bytes) → next ≡ overlay now at (take (end - done) (drop done bytes))
    → next ≡ overlay image off (take end bytes)
part_written image now next bytes off done end at more inside range place was is =
    let front : length (take done bytes) ≡ done = length-take-le done bytes (omega (arith, more, inside)) in
    let back : length (take (end - done) (drop done bytes)) ≡ end - done =
    length-take-le (end - done) (drop done bytes) (omega (arith, length-drop done bytes, inside)) in
    let where_to : at ≡ off + length (take done bytes) = omega (arith, place, front) in
    let both : take done bytes ++ take (end - done) (drop done bytes) ≡ take end bytes = front_more bytes done end (omega (arith, more)) inside in
    is ∙ ap (λ xs. overlay xs at (take (end - done) (drop done bytes))) was
    ∙ ap (λ n. overlay (overlay image off (take done bytes)) n (take (end - done) (drop done bytes))) where_to
    ∙ overlay_both image off (take done bytes) (take (end - done) (drop done bytes)) (omega (arith, front, back, range, more, inside))
    ∙ ap (overlay image off) both

-- a part of a range is written: only bytes of the range changed
pub torn_part : (image now bytes : List ℕ) (off done : ℕ) → now ≡ overlay image off (take done bytes) → Torn off (length bytes) image now
torn_part image now bytes off done is =
    let short : length (take done bytes) ≤ length bytes = omega (arith, length-take done bytes) in
    subst (Torn off (length bytes) image) (sym is) (record {
      size = length-overlay image off (take done bytes);
      below = λ i low. overlay_below image off (take done bytes) i low;
      above = λ i high. overlay_above image off (take done bytes) i (omega (arith, high, short));
    })

-- bytes that are written into a page are written into the file as it was before the page was loaded
pub put_at : (mid new : List Page) (number within at : ℕ) (piece base image : List ℕ) (size : ℕ) → PutIn number within piece mid new
    → HasPage mid number → within + length piece ≤ page_size → number * page_size + within ≡ at → at + length piece ≤ size
    → contents mid base size ≡ image → contents new base size ≡ overlay image at piece
put_at mid new number within at piece base image size put there one_page place inside same =
    put_over mid new number within piece base size put there one_page (omega (arith, place, inside))
    ∙ ap (λ img. overlay img (number * page_size + within) piece) same ∙ ap (λ n. overlay image n piece) place

-- a greater length adds zeros, where the pages stay
pub grown_to : (old new : List Page) (base : List ℕ) (size now to : ℕ) → new ≡ old → now ≡ to → length base ≤ size → size ≤ to
    → ZeroFrom size old → contents new base now ≡ padded (contents old base size) to
grown_to old new base size now to same is short longer zeros =
    ap (λ pages. contents pages base now) same ∙ ap (contents old base) is ∙ grown old base size to short longer zeros
