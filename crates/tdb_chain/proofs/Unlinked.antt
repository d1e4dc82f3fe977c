-- The word that leads to the record of a place leads past it: the record is a hand, and the map loses its key, if it
-- was used.
use Rattle.std.proofs.Common.{◌≡◌, ℕ, ◌+◌, ◌<◌, ◌≤◌, ◌⊎◌, ◌^◌, List, [], ◌∷◌, length, None, sym, ◌∙◌, ap, subst, inl, inr, arith}
use Rattle.std.specs.Prelude.{slice_index}
use Rattle.std.proofs.lemmas.Bool.{cases_lt}
use Rattle.tdb_disk.specs.Image.{overlay}
use Rattle.tdb_words.specs.declared.record.Rec.{Rec}
use Rattle.tdb_words.specs.declared.record.TheConstants.{USED}
use Rattle.tdb_words.specs.declared.word.Order.{Order}
use Rattle.tdb_words.specs.Word.{bytes_of_word}
use Rattle.tdb_space.specs.Form.{Form, chain_head}
use Rattle.tdb_space.specs.Record.{key_at, rec_len_of, magic_of}
use Rattle.tdb_space.specs.Chain.{chain_of, without}
use Rattle.tdb_space.specs.Pairs.{home}
use Rattle.tdb_space.specs.Extents.{Extent, HandPair, once, times, extents, extent_at, hand_extents}
use Rattle.tdb_space.specs.Accepted.{AcceptWith}
use Rattle.tdb_space.specs.Exchange.{Exchanged, LedPast}
use Rattle.tdb_space.specs.Stays.{OnlyIn}
use Rattle.tdb_space.proofs.Extents.Counts.{once_in}
use Rattle.tdb_space.proofs.Chain.Members.{led_from, member_held}
use Rattle.tdb_space.proofs.Exchange.Overlaid.{led_past_written, only_same, put_only, word_length}
use Rattle.tdb_space.proofs.Accepted.Removes.{unlink_exchanged, unlink_map, purge_map, home_of_member}
use Rattle.tdb_chain.specs.declared.place.Place.{Place}
use Rattle.tdb_chain.specs.Place.{IsPlace}
use Rattle.tdb_chain.specs.Changed.{ChainChanged, KeySet, Purged, OldOrWord, hand_at}
use Rattle.tdb_chain.proofs.Changed.{changed_by}
use Rattle.tdb_chain.proofs.PlaceStays.{place_member}

-- the header of a place is that of the image
pub place_magic : (f : Form) (img : List ℕ) (p : Place) → IsPlace f img p → p.rec.magic ≡ magic_of f.order img p.off
place_magic f img p at = ap (λ (r : Rec). r.magic) at.header

pub place_len : (f : Form) (img : List ℕ) (p : Place) → IsPlace f img p → p.rec.rec_len ≡ rec_len_of f.order img p.off
place_len f img p at = ap (λ (r : Rec). r.rec_len) at.header

pub place_hand : (f : Form) (img : List ℕ) (p : Place) → IsPlace f img p → (p.off, rec_len_of f.order img p.off) ≡ hand_at p
place_hand f img p at = λ i. (p.off, sym (place_len f img p at) i)

-- at most the word was written
pub word_only : (o : Order) (a b : List ℕ) (at w : ℕ) (es : List Extent) → ((i : ℕ) → times es i ≡ 0 → once (at, 4) i ≡ 0) → OldOrWord o a at w b → OnlyIn es a b
word_only o a b at w es among (inl same) = only_same es a b same
word_only o a b at w es among (inr put) = put_only at 4 (bytes_of_word o w) es a b (word_length o w) among put

-- the record's next word was written over the word that led to it
pub led_past_place : (f : Form) (a b : List ℕ) (p : Place) → IsPlace f a p → p.rec.next < 2 ^ 32 → p.before + 4 ≤ length a → b ≡ overlay a p.before (bytes_of_word f.order p.rec.next) → LedPast f a b p.before p.off
led_past_place f a b p at fits within put = led_past_written f a b p.before p.off p.rec.next fits (ap (λ (r : Rec). r.next) at.header) within put

module _ (f : Form) (a b : List ℕ) (hands : List HandPair) (p : Place) (A : AcceptWith f a hands) (at : IsPlace f a p) (L : LedPast f a b p.before p.off) where
  -- beside the chain's head and its records nothing was written
  others : (i : ℕ) → (i < chain_head at.chain) ⊎ (chain_head at.chain + 4 ≤ i) → times (extents f.order a (chain_of f a at.chain)) i + times (hand_extents []) i ≡ 0 → slice_index b i ≡ slice_index a i
  others i beside none =
      elim (cases_lt i p.before) [
        | inl under ↦ L.others i (inl under)
        | inr high ↦
            elim (cases_lt i (p.before + 4)) [
              | inl within ↦
                  elim (led_from (chain_head at.chain) (chain_of f a at.chain) p.before p.off at.leads) [
                    | inl e ↦ elim beside [ inl under ↦ absurd (omega (arith, under, high, e)) | inr over ↦ absurd (omega (arith, over, within, e)) ]
                    | inr m ↦ absurd (omega (arith, none, member_held f.order a (chain_of f a at.chain) p.before i m, once_in (extent_at f.order a p.before) i high (omega (arith, within))))
                  ]
              | inr over ↦ L.others i (inr over)
            ]
      ]

  pub unlinked_changed : ChainChanged f a b at.chain (without p.off (chain_of f a at.chain)) [] hands (hand_at p ∷ hands)
  unlinked_changed =
      changed_by f a b at.chain (without p.off (chain_of f a at.chain)) [] hands (hand_at p ∷ hands) at.below A
      (subst (λ h. Exchanged f a b at.chain (chain_of f a at.chain) (without p.off (chain_of f a at.chain)) hands (h ∷ hands)) (place_hand f a p at)
      (unlink_exchanged f a b at.chain p.before p.off hands at.below A at.leads L))
      others

  -- a used record
  pub unlinked_set : p.rec.magic ≡ USED → KeySet f a b (key_at f.order a p.off) None (without p.off (chain_of f a (home f (key_at f.order a p.off)))) [] hands (hand_at p ∷ hands)
  unlinked_set used = record {
    changed = subst (λ j. ChainChanged f a b j (without p.off (chain_of f a j)) [] hands (hand_at p ∷ hands)) (sym here) unlinked_changed;
    map = unlink_map f a b at.chain p.before p.off hands at.below A at.leads L is_used;
  }
    where
      is_used : magic_of f.order a p.off ≡ USED
      is_used = sym (place_magic f a p at) ∙ used

      here : home f (key_at f.order a p.off) ≡ at.chain
      here = home_of_member f a at.chain (chain_of f a at.chain) p.off (A.filed at.chain at.below) (place_member f a p at) is_used

  -- a dead one
  pub unlinked_purged : (p.rec.magic ≡ USED → ⊥) → Purged f a b at.chain (without p.off (chain_of f a at.chain)) hands (hand_at p ∷ hands)
  unlinked_purged other = record {
    changed = unlinked_changed;
    map = purge_map f a b at.chain p.before p.off hands at.below A at.leads L (λ used. other (place_magic f a p at ∙ used));
  }
