-- What a disk shows after the bytes that it lacks of a content are written to it.
use Rattle.std.proofs.Common.{◌≡◌, ℕ, ◌+◌, ◌-◌, ◌<◌, ◌≤◌, List, ◌⊎◌, length, take, drop, min, inl, inr, sym, ◌∙◌, arith}
use Rattle.std.proofs.lemmas.Bool.{cases_lt}
use Rattle.std.proofs.lemmas.Grind.{common_steps}
use Rattle.std.proofs.lemmas.List.{places, same_lists}
use Rattle.tdb_disk.specs.History.{History, cut, grew, seen, Tried, TriedOver}
use Rattle.tdb_disk.specs.Image.{overlay, padded}
use Rattle.tdb_disk.proofs.Image.{length-overlay, overlay_above, overlay_below, padded_below, padded_in}
use Rattle.tdb_cache.specs.Content.{content_bytes, IsWritten, SameWritten}
use Rattle.tdb_cache.specs.declared.content.Content.{Content}

-- the image is the front of the content where no byte is to be written
pub image_if_written : (content : Content) (image : List ℕ) → SameWritten content image
    → length image ≤ length (content_bytes content) → min content.pending.end (length image) ≤ content.pending.start
    → image ≡ take (length image) (content_bytes content)
image_if_written content image same reaches none =
    same_lists _ _ (grind (arith, common_steps)) (λ k d h.
    let within : k < length image = h in
    let written : IsWritten content k = elim (cases_lt k content.pending.start) [
      | inl below ↦ inl below
      | inr from ↦ inr (omega (arith, none, from, within))
    ] in
    let here = same k within written in grind (arith, places, here))

-- and where all those are written
pub image_written : (content : Content) (image : List ℕ) (end : ℕ) → SameWritten content image
    → length image ≤ length (content_bytes content) → end ≡ min content.pending.end (length image)
    → overlay image content.pending.start (take (end - content.pending.start) (drop content.pending.start (content_bytes content)))
    ≡ take (length image) (content_bytes content)
image_written content image end same reaches is_end =
    same_lists _ _ (grind (arith, common_steps)) (λ k d h.
    let within : k < length image = grind (arith, common_steps) in
    elim (cases_lt k content.pending.start) [
      | inl below ↦ let here = same k within (inl below) in grind (arith, places, here)
      | inr from ↦ elim (cases_lt k end) [
        | inl inside ↦ grind (arith, places)
        | inr behind ↦
            let here = same k within (inr (omega (arith, is_end, behind, within))) in grind (arith, places, here)
      ]
    ])

-- a try to write them changes no other byte
pub SameWritten-tried : (content : Content) (old new : History) (n : ℕ) → TriedOver content.pending.start n old new
    → content.pending.start + n ≤ content.pending.end → SameWritten content (seen old) → SameWritten content (seen new)
SameWritten-tried content old new n tried inside same = elim tried [
  | inl unchanged ↦ rw unchanged same
  | inr (bytes, size, is) ↦ rw is (λ at within written.
      let long : at < length (seen old) = grind (arith, length-overlay (seen old) content.pending.start bytes) in
      let before = same at long written in
      elim written [
        | inl below ↦ grind (arith, before, overlay_below (seen old) content.pending.start bytes at below)
        | inr behind ↦ grind (arith, before, overlay_above (seen old) content.pending.start bytes at (omega (arith, size, inside, behind)))
      ])
]

-- a write to the content leaves the bytes that the file has
pub SameWritten-write : (old new : Content) (image bytes : List ℕ) (off : ℕ)
    → content_bytes new ≡ overlay (content_bytes old) off bytes → ((at : ℕ) → IsWritten new at → IsWritten old at)
    → ((at : ℕ) → IsWritten new at → (at < off) ⊎ (off + length bytes ≤ at)) → SameWritten old image → SameWritten new image
SameWritten-write old new image bytes off is before apart same = λ at within written.
    let here = same at within (before at written) in
    rw is (elim (apart at written) [
      | inl below ↦ overlay_below (content_bytes old) off bytes at below ∙ here
      | inr behind ↦ overlay_above (content_bytes old) off bytes at behind ∙ here
    ])

-- a read shows what was written to the content
pub take-overlay : (content bytes : List ℕ) (off size : ℕ) → off + length bytes ≤ size → size ≤ length content
    → take size (overlay content off bytes) ≡ overlay (take size content) off bytes
take-overlay content bytes off size inside reaches =
    same_lists _ _ (grind (arith, common_steps)) (λ k d h. grind (arith, places))

-- a content that is cut to the file's length has the bytes that the file has
pub SameWritten-cut : (old new : Content) (image : List ℕ) → length image ≤ length (content_bytes old)
    → content_bytes new ≡ take (length image) (content_bytes old) → ((at : ℕ) → IsWritten new at → IsWritten old at)
    → SameWritten old image → SameWritten new image
SameWritten-cut old new image reaches is before same = λ at within written.
    let here = same at within (before at written) in rw is (grind (arith, places, here))

-- also where it is made longer then
pub SameWritten-lengthen : (old new : Content) (image : List ℕ) (to : ℕ) → length image ≤ length (content_bytes old)
    → length image ≤ to → content_bytes new ≡ padded (take (length image) (content_bytes old)) to
    → ((at : ℕ) → IsWritten new at → IsWritten old at) → SameWritten old image → SameWritten new image
SameWritten-lengthen old new image to reaches longer is before same = λ at within written.
    let here = same at within (before at written) in rw is (grind (arith, places, here))

-- and a content of zeros behind the file's end is the same as a longer file
pub SameWritten-grow : (content : Content) (front : List ℕ) (old new : History) (to : ℕ)
    → content_bytes content ≡ padded front to → length front ≡ length (seen old) → length (seen old) ≤ to
    → Tried (grew to) old new → SameWritten content (seen old) → SameWritten content (seen new)
SameWritten-grow content front old new to is long longer tried same = elim tried [
  | inl unchanged ↦ rw unchanged same
  | inr grown ↦ rw grown (λ at within written. elim (cases_lt at (length (seen old))) [
    | inl below ↦ same at below written ∙ sym (padded_below (seen old) to at below)
    | inr behind ↦ rw is (padded_in front to at (omega (arith, long, behind)) ∙ sym (padded_in (seen old) to at behind))
  ])
]

-- and the bytes that aren't to be written are those of the file where it may have been cut
pub SameWritten-shorter : (content : Content) (old new : History) (to : ℕ) → Tried (cut to) old new
    → SameWritten content (seen old) → SameWritten content (seen new)
SameWritten-shorter content old new to tried same = elim tried [
  | inl unchanged ↦ rw unchanged same
  | inr done ↦ rw done (λ at within written.
      let before : at < length (seen old) = grind (arith, common_steps) in
      let here = same at before written in grind (arith, places, here))
]
