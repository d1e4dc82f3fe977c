-- What a stop leaves of each stage of a publication.
use Rattle.std.proofs.Common.{◌≡◌, ℕ, ◌+◌, ◌-◌, ◌<◌, ◌≤◌, ◌==◌, inl, inr, List, [], ◌∷◌, ◌++◌, Some, None, if◌then◌else◌, length, take, drop, slice_index, refl, sym, ap, subst, ◌∙◌, arith}
use Rattle.std.proofs.lemmas.Bool.{cases_lt}
use Rattle.std.proofs.lemmas.Grind.{common_steps}
use Rattle.std.proofs.lemmas.List.{get_or-take, get_or-drop, get_or_append_left, get_or-append_right, ext_get_or, length-append}
use Rattle.tdb_disk.specs.History.{wrote, wrote_word, synced, History, called, seen, Tried, TriedOver}
use Rattle.tdb_disk.specs.Image.{overlay}
use Rattle.tdb_disk.specs.Published.{published, NothingOr}
use Rattle.tdb_disk.specs.Stop.{Quiet, LeavesOnly}
use Rattle.tdb_disk.proofs.Image.{length-overlay, overlay_below, overlay_above, overlay_in}
use Rattle.tdb_disk.proofs.Runs.{leaves_write, leaves_tried, leaves_weaker, leaves_now, leaves_seen_now, quiet_word, leaves_quiet, leaves_then_sync, quiet_synced}

-- the first byte is zero
abbrev pub IsShut : List ℕ → Type 0
IsShut image = slice_index image 0 ≡ 0

-- where the first byte is zero nothing is published
pub shut_publishes_nothing : (image : List ℕ) → IsShut image → published image ≡ None
shut_publishes_nothing image shut = ap (λ n. if n == 0 then None else Some (take 8 (drop 4 image))) shut

first_is_zero : (first : ℕ) (bytes : List ℕ) → (if first == 0 then None else Some bytes) ≡ None → first ≡ 0
first_is_zero first bytes nothing = grind (arith, nothing)

-- where nothing is published the first byte is zero
pub nothing_is_shut : (image : List ℕ) → published image ≡ None → IsShut image
nothing_is_shut image nothing = first_is_zero (slice_index image 0) (take 8 (drop 4 image)) nothing

-- a write behind the first word
pub write_behind : (old mid new : History) (at n : ℕ) → 0 < at → LeavesOnly old mid IsShut → TriedOver at n mid new → LeavesOnly old new IsShut
write_behind old mid new at n behind so_far tried =
    leaves_write old mid new at n IsShut so_far (λ image from left torn. torn.below 0 behind ∙ leaves_now old mid IsShut so_far from left) tried

-- where nothing is published, a stop leaves nothing or what is to be published
pub shut_or : (old new : History) (bytes : List ℕ) → LeavesOnly old new IsShut → LeavesOnly old new (NothingOr bytes)
shut_or old new bytes only =
    leaves_weaker old new IsShut (NothingOr bytes) (λ image shut. inl (shut_publishes_nothing image shut)) only

-- the write of the first word, on a quiet disk
pub open_word : (old mid new : History) (word bytes : List ℕ) → Quiet mid → LeavesOnly old mid IsShut
    → published (overlay (seen mid) 0 word) ≡ Some bytes → Tried (wrote_word 0 word) mid new → LeavesOnly old new (NothingOr bytes)
open_word old mid new word bytes quiet so_far whole tried =
    leaves_tried old mid new (wrote_word 0 word) (NothingOr bytes) (shut_or old mid bytes so_far)
    (λ image left. elim (quiet_word mid 0 word image quiet left) [
      | inl same ↦ inl (subst (λ i. published i ≡ None) (sym same) (shut_publishes_nothing (seen mid) (leaves_seen_now old mid IsShut so_far)))
      | inr written ↦ inr (subst (λ i. published i ≡ Some bytes) (sym written) whole)
    ])
    tried

-- the eight bytes behind the first word of a long enough image
length_behind : (image : List ℕ) → 12 ≤ length image → length (take 8 (drop 4 image)) ≡ 8
length_behind image room = grind (arith, common_steps)

-- the image after a publication
abbrev pub filled : List ℕ → List ℕ → List ℕ → List ℕ
filled image name value = overlay (overlay image 4 name) 8 value

length-filled : (image name value : List ℕ) → length (filled image name value) ≡ length image
length-filled image name value = length-overlay (overlay image 4 name) 8 value ∙ length-overlay image 4 name

-- the bytes of the name and of the value, each at its place
filled_name : (image name value : List ℕ) (k : ℕ) → 12 ≤ length image → length name ≡ 4 → k < 4
    → slice_index (filled image name value) (4 + k) ≡ slice_index name k
filled_name image name value k room named low =
    let back : 4 + k - 4 ≡ k = omega arith in
    overlay_below (overlay image 4 name) 8 value (4 + k) (omega (arith, low))
    ∙ overlay_in image 4 name (4 + k) (omega arith) (omega (arith, low, named)) (omega (arith, low, room))
    ∙ ap (slice_index name) back

filled_value : (image name value : List ℕ) (k : ℕ) → 12 ≤ length image → length value ≡ 4 → k < 4
    → slice_index (filled image name value) (8 + k) ≡ slice_index value k
filled_value image name value k room valued low =
    let back : 8 + k - 8 ≡ k = omega arith in
    overlay_in (overlay image 4 name) 8 value (8 + k) (omega arith) (omega (arith, low, valued)) (omega (arith, low, room, length-overlay image 4 name))
    ∙ ap (slice_index value) back

-- the eight bytes behind the first word
filled_bytes : (image name value word : List ℕ) (k : ℕ) → 12 ≤ length image → length name ≡ 4 → length value ≡ 4 → length word ≡ 4 → k < 8
    → slice_index (overlay (filled image name value) 0 word) (4 + k) ≡ slice_index (name ++ value) k
filled_bytes image name value word k room named valued worded low =
    overlay_above (filled image name value) 0 word (4 + k) (omega (arith, worded))
    ∙ elim (cases_lt k 4) [
      | inl first ↦ filled_name image name value k room named first ∙ sym (get_or_append_left name value 0 k (omega (arith, first, named)))
      | inr second ↦ (
          let place : 8 + (k - 4) ≡ 4 + k = omega (arith, second) in
          ap (slice_index (filled image name value)) (sym place)
          ∙ filled_value image name value (k - 4) room valued (omega (arith, second, low))
          ∙ sym (get_or-append_right name value 4 k 0 named second))
    ]

-- the three overlays of a publication publish the name and the value
pub overlays_publish : (image name value : List ℕ) → 12 ≤ length image → length name ≡ 4 → length value ≡ 4
    → published (overlay (filled image name value) 0 (1 ∷ 0 ∷ 0 ∷ 0 ∷ [])) ≡ Some (name ++ value)
overlays_publish image name value room named valued =
    let word : List ℕ = 1 ∷ 0 ∷ 0 ∷ 0 ∷ [] in
    let sized : length (overlay (filled image name value) 0 word) ≡ length image =
    length-overlay (filled image name value) 0 word ∙ length-filled image name value in
    let first : slice_index (overlay (filled image name value) 0 word) 0 ≡ 1 =
    overlay_in (filled image name value) 0 word 0 (omega arith) (omega arith) (omega (arith, room, length-filled image name value)) in
    let same_length : length (take 8 (drop 4 (overlay (filled image name value) 0 word))) ≡ length (name ++ value) =
    length_behind (overlay (filled image name value) 0 word) (omega (arith, sized, room)) ∙ sym (length-append name value ∙ omega (arith, named, valued)) in
    let bytes : take 8 (drop 4 (overlay (filled image name value) 0 word)) ≡ name ++ value =
    ext_get_or 0 (take 8 (drop 4 (overlay (filled image name value) 0 word))) (name ++ value) same_length
    (λ k low.
    let within : k < 8 = omega (arith, low, length_behind (overlay (filled image name value) 0 word) (omega (arith, sized, room))) in
    get_or-take 8 (drop 4 (overlay (filled image name value) 0 word)) k 0 within
    ∙ get_or-drop 4 (overlay (filled image name value) 0 word) k 0
    ∙ filled_bytes image name value word k room named valued refl within) in
    ap (λ n. if n == 0 then None else Some (take 8 (drop 4 (overlay (filled image name value) 0 word)))) first ∙ ap Some bytes

-- after the first write nothing is published, nor after the second, nor after the sync
pub after_name : (h one : History) (n : ℕ) → Quiet h → published (seen h) ≡ None → TriedOver 4 n h one → LeavesOnly h one IsShut
after_name h one n quiet nothing name =
    write_behind h h one 4 n (omega arith) (leaves_quiet h IsShut quiet (nothing_is_shut (seen h) nothing)) name

pub after_value : (h one two : History) (n m : ℕ) → Quiet h → published (seen h) ≡ None
    → TriedOver 4 n h one → TriedOver 8 m one two → LeavesOnly h two IsShut
after_value h one two n m quiet nothing name value =
    write_behind h one two 8 m (omega arith) (after_name h one n quiet nothing name) value

pub after_sync : (h one two three : History) (n m : ℕ) → Quiet h → published (seen h) ≡ None
    → TriedOver 4 n h one → TriedOver 8 m one two → Tried synced two three → LeavesOnly h three IsShut
after_sync h one two three n m quiet nothing name value sync =
    leaves_then_sync h two three IsShut (after_value h one two n m quiet nothing name value) sync

-- what is seen after the three calls that answered Ok, with the word that opens it
pub seen_published : (h one two three : History) (name value : List ℕ) → 12 ≤ length (seen h) → length name ≡ 4 → length value ≡ 4
    → one ≡ called h (wrote 4 name) → two ≡ called one (wrote 8 value) → three ≡ called two synced
    → published (overlay (seen three) 0 (1 ∷ 0 ∷ 0 ∷ 0 ∷ [])) ≡ Some (name ++ value)
seen_published h one two three name value room named valued first second third =
    let filling : seen three ≡ filled (seen h) name value =
    ap seen third ∙ ap seen second ∙ ap (λ k. overlay (seen k) 8 value) first in
    ap (λ image. published (overlay image 0 (1 ∷ 0 ∷ 0 ∷ 0 ∷ []))) filling ∙ overlays_publish (seen h) name value room named valued

-- after the write of the first word, whatever it answered: nothing is published, or the name and the value
pub after_word : (h one two three four : History) (name value : List ℕ) → Quiet h → published (seen h) ≡ None
    → 12 ≤ length (seen h) → length name ≡ 4 → length value ≡ 4
    → one ≡ called h (wrote 4 name) → two ≡ called one (wrote 8 value) → three ≡ called two synced
    → Tried (wrote_word 0 (1 ∷ 0 ∷ 0 ∷ 0 ∷ [])) three four → LeavesOnly h four (NothingOr (name ++ value))
after_word h one two three four name value quiet nothing room named valued first second third word =
    open_word h three four (1 ∷ 0 ∷ 0 ∷ 0 ∷ []) (name ++ value) (quiet_synced two three third)
    (after_sync h one two three (length name) (length value) quiet nothing
    (inr (name, refl, first)) (inr (value, refl, second)) (inr third))
    (seen_published h one two three name value room named valued first second third)
    word
