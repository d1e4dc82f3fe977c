-- The record on which a cursor stands after a move is one of the image's chain.
use Rattle.std.proofs.Common.{◌≡◌, ℕ, ◌+◌, ◌==◌, Bool, true, false, cond, List, [], ◌∷◌, Option, Some, None, sym, ◌∙◌, ap, subst, inl, inr, nat_lt}
use Rattle.std.specs.Prelude.{if◌then◌else◌}
use Rattle.std.proofs.lemmas.Bool.{cases_eq}
use Rattle.tdb_words.specs.declared.record.TheConstants.{USED}
use Rattle.tdb_space.specs.Form.{Form}
use Rattle.tdb_space.specs.Record.{key_at, magic_of}
use Rattle.tdb_space.specs.Chain.{chain_of, Member}
use Rattle.tdb_space.proofs.Chain.Walks.{member_first, member_other}
use Rattle.tdb_law.specs.Layout.{Cell, Place, cells, behind, chains_in}
use Rattle.tdb_law.specs.Layout.Place.{off_chains, before_chain, on_record}
use Rattle.tdb_walk.specs.declared.live.Live.{Live}
use Rattle.tdb_walk.specs.declared.standing.Standing.TheVariants.{On}
use Rattle.tdb_walk.specs.NextLive.{first_live, left_in, IsNext, StandsIn}
use Rattle.tdb_walk.proofs.Ahead.{none_some, left_here, left_else}

abbrev place_or : Option Cell → ℕ
place_or None = 0
place_or (Some c) = c.place

abbrev pub off_or : Option Live → ℕ
off_or None = 0
off_or (Some live) = live.off

-- the first live record of a list of records is one of them
live_member : (f : Form) (img : List ℕ) (c : Cell) (offs : List ℕ) → first_live (cells f img offs) ≡ Some c → Member c.place offs
live_member f img c [] e = absurd (none_some e)
live_member f img c (x ∷ xs) e = go (magic_of f.order img x == USED) (λ s. live_member f img c xs s) e
  where
    go : (b : Bool) → (first_live (cells f img xs) ≡ Some c → Member c.place xs) → cond b (Some (record { place = x; key = key_at f.order img x; live = magic_of f.order img x == USED })) (first_live (cells f img xs)) ≡ Some c → Member c.place (x ∷ xs)
    go true rest s = subst (λ y. Member y (x ∷ xs)) (ap place_or s) (member_first x xs)
    go false rest s = member_other c.place x xs (rest s)

behind_member : (f : Form) (img : List ℕ) (c : Cell) (p : ℕ) (offs : List ℕ) → first_live (behind (cells f img offs) p) ≡ Some c → Member c.place offs
behind_member f img c p [] e = absurd (none_some e)
behind_member f img c p (x ∷ xs) e = go (x == p) (λ s. behind_member f img c p xs s) e
  where
    go : (b : Bool) → (first_live (behind (cells f img xs) p) ≡ Some c → Member c.place xs) → first_live (if b then cells f img xs else behind (cells f img xs) p) ≡ Some c → Member c.place (x ∷ xs)
    go true rest s = member_other c.place x xs (live_member f img c xs s)
    go false rest s = member_other c.place x xs (rest s)

-- so is the first one that is left of a chain
before_member : (f : Form) (img : List ℕ) (c : Cell) (i j : ℕ) → first_live (left_in (chains_in f img) (before_chain i) j) ≡ Some c → Member c.place (chain_of f img j)
before_member f img c i j e = go (nat_lt j i) e
  where
    go : (b : Bool) → first_live (if b then [] else chains_in f img j) ≡ Some c → Member c.place (chain_of f img j)
    go true s = absurd (none_some s)
    go false s = live_member f img c (chain_of f img j) s

left_member : (f : Form) (img : List ℕ) (c : Cell) (place : Place) (j : ℕ) → first_live (left_in (chains_in f img) place j) ≡ Some c → Member c.place (chain_of f img j)
left_member f img c off_chains j e = absurd (none_some e)
left_member f img c (before_chain i) j e = before_member f img c i j e
left_member f img c (on_record i p) j e =
    elim (cases_eq j i) [
      | inl here ↦ subst (λ k. Member c.place (chain_of f img k)) (sym here) (behind_member f img c p (chain_of f img i)
          (sym (ap first_live (left_here (chains_in f img) i p)) ∙ subst (λ k. first_live (left_in (chains_in f img) (on_record i p) k) ≡ Some c) here e))
      | inr apart ↦ before_member f img c (i + 1) j (sym (ap first_live (left_else (chains_in f img) i p j apart)) ∙ e)
    ]

-- so the next live record stands in its chain
pub met_member : (f : Form) (img : List ℕ) (place : Place) (live : Live) → IsNext f img place (Some live) → StandsIn f img (On live.chain live.off)
met_member f img place live (cell, next, read) = (next.below, subst (λ x. Member x (chain_of f img live.chain)) (ap off_or read) (left_member f img cell place live.chain next.first))
