-- Where a chain stays, a place in it is still one, and a look-up of a key that is filed there still finds what it
-- found.
use Rattle.std.proofs.Common.{◌≡◌, ℕ, ◌+◌, ◌≤◌, List, length, Option, Some, None, sym, ◌∙◌, ap, subst, arith}
use Rattle.tdb_words.specs.declared.record.Rec.{Rec}
use Rattle.tdb_words.specs.declared.record.TheConstants.{USED}
use Rattle.tdb_words.specs.Word.{word}
use Rattle.tdb_space.specs.Form.{Form, chain_head}
use Rattle.tdb_space.specs.Record.{IsChained, Whole, Fits, rec_len_of, magic_of}
use Rattle.tdb_space.specs.Chain.{Member, Leads, chain_of}
use Rattle.tdb_space.specs.Pairs.{home}
use Rattle.tdb_space.specs.Extents.{HandPair, extent_at}
use Rattle.tdb_space.specs.Exchange.{Agree}
use Rattle.tdb_space.specs.Accepted.{AcceptWith}
use Rattle.tdb_space.specs.Stays.{ChainStays}
use Rattle.tdb_space.proofs.Extents.Counts.{once_in}
use Rattle.tdb_space.proofs.Exchange.Kept.{record_left, key_kept, data_kept}
use Rattle.tdb_space.proofs.Chain.Members.{led_member, member_held}
use Rattle.tdb_space.proofs.Accepted.Removes.{filed_member}
use Rattle.tdb_space.proofs.Stays.Changes.{map_stays}
use Rattle.tdb_space.proofs.Chain.Walks.{linked_whole}
use Rattle.tdb_chain.specs.declared.place.Place.{Place}
use Rattle.tdb_chain.specs.Place.{IsPlace, HoldsKey, IsFound}

-- the record of a place: it is one of its chain, it stands whole, and its header is the one that was read
pub place_member : (f : Form) (img : List ℕ) (p : Place) (at : IsPlace f img p) → Member p.off (chain_of f img at.chain)
place_member f img p at = led_member (chain_head at.chain) (chain_of f img at.chain) p.before p.off at.leads

pub place_whole : (f : Form) (img : List ℕ) (hands : List HandPair) (p : Place) (at : IsPlace f img p) → AcceptWith f img hands → Whole f img p.off × IsChained (magic_of f.order img p.off)
place_whole f img hands p at A = linked_whole f IsChained img (word f.order img (chain_head at.chain)) (chain_of f img at.chain) p.off (A.chains at.chain at.below) (place_member f img p at)

module _ (f : Form) (a b : List ℕ) (hands : List HandPair) (A : AcceptWith f a hands) (longer : length a ≤ length b) where
  -- each byte of a record of the chain stays
  record_still : (k x : ℕ) → Member x (chain_of f a k) → ChainStays f a b k → Agree a b x (x + 24 + rec_len_of f.order a x)
  record_still k x m S i from to = S.bytes i (omega (arith, member_held f.order a (chain_of f a k) x i m, once_in (extent_at f.order a x) i from (omega (arith, to))))

  pub place_stays : (p : Place) (at : IsPlace f a p) → ChainStays f a b at.chain → IsPlace f b p
  place_stays p at S = record {
    chain = at.chain;
    below = at.below;
    leads = subst (λ xs. Leads (chain_head at.chain) xs p.before p.off) (sym S.same_offsets) at.leads;
    header = at.header ∙ sym (record_left f a b p.off longer (place_whole f a hands p at A).0 (record_still at.chain p.off (place_member f a p at) S)).1;
  }

  -- the record that holds a key
  module _ (news : List HandPair) (B : AcceptWith f b news) (key : List ℕ) (S : ChainStays f a b (home f key)) where
    pub holds_stays : (p : Place) → HoldsKey f a key p → HoldsKey f b key p
    unfolding place_stays
    holds_stays p h = record {
      place = place_stays p h.place there;
      at_home = h.at_home;
      used = h.used;
      has_key = key_kept f a b p.off longer whole fits (λ i from to. same i (omega arith) to) ∙ h.has_key;
      mapped = map_stays f a b hands news key A B longer S ∙ h.mapped ∙ ap Some (sym (data_kept f a b p.off longer whole fits (λ i from to. same i (omega arith) to)));
    }
      where
        there : ChainStays f a b h.place.chain
        there = subst (ChainStays f a b) (sym h.at_home) S

        member : Member p.off (chain_of f a h.place.chain)
        member = place_member f a p h.place

        whole : Whole f a p.off
        whole = (place_whole f a hands p h.place A).0

        used : magic_of f.order a p.off ≡ USED
        used = ap (λ (r : Rec). r.magic) (sym h.place.header) ∙ h.used

        fits : Fits f.order a p.off
        fits = (filed_member f a h.place.chain (chain_of f a h.place.chain) p.off (A.filed h.place.chain h.place.below) member used).fits

        same : Agree a b p.off (p.off + 24 + rec_len_of f.order a p.off)
        same = record_still h.place.chain p.off member there

    -- what a look-up of the key finds
    pub found_stays : (found : Option Place) → IsFound f a key found → IsFound f b key found
    found_stays None missing = map_stays f a b hands news key A B longer S ∙ missing
    found_stays (Some p) h = holds_stays p h
