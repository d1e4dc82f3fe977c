-- The search for the next live record, by what it finds in the heads and along each chain.
use Rattle.std.proofs.Common.{◌≡◌, ℕ, ◌+◌, ◌<◌, ◌≤◌, List, [], ◌∷◌, Option, Some, None, refl, sym, subst, inl, inr, arith}
use Rattle.std.proofs.lemmas.Bool.{cases_lt, cases_eq}
use Rattle.tdb_words.specs.Word.{word}
use Rattle.tdb_space.specs.Form.{Form, chain_head}
use Rattle.tdb_space.specs.Chain.{Chain, chain_of}
use Rattle.tdb_space.specs.Extents.{HandPair}
use Rattle.tdb_space.specs.Accepted.{AcceptWith}
use Rattle.tdb_law.specs.Layout.{cells, behind, chains_in}
use Rattle.tdb_law.specs.Layout.Place.{before_chain, on_record}
use Rattle.tdb_walk.specs.declared.live.Live.{Live}
use Rattle.tdb_walk.specs.declared.heads.Head.{Head}
use Rattle.tdb_walk.specs.Heads.{AreEmpty, IsFirstFilled}
use Rattle.tdb_walk.specs.Looks.{FindsIn}
use Rattle.tdb_walk.specs.NextLive.{first_live, IsNextLive, live_at, IsNext}
use Rattle.tdb_walk.proofs.Ahead.{found_none, found_some, none_before, next_before, none_on, next_on, next_here}

-- a chain whose head is 0 has no record
no_live : (f : Form) (img : List ℕ) (at : ℕ) (offs : List ℕ) → Chain f img at offs → at ≡ 0 → first_live (cells f img offs) ≡ None
no_live f img at [] p e = refl
no_live f img at (x ∷ xs) p e = absurd (omega (arith, e, p.0, p.1.above))

module _ (f : Form) (img : List ℕ) (hands : List HandPair) (A : AcceptWith f img hands) (from chain : ℕ) (least : from ≤ chain)
    (passed : (j : ℕ) → from ≤ j → j < chain → first_live (chains_in f img j) ≡ None) where
  -- the chains up to the next one that has a record
  pub passed_empty : (to : ℕ) → to ≤ f.chains → AreEmpty (λ j. word f.order img (chain_head j)) chain to → (j : ℕ) → from ≤ j → j < to → first_live (chains_in f img j) ≡ None
  passed_empty to fits empty j above low =
      elim (cases_lt j chain) [
        | inl early ↦ passed j above early
        | inr late ↦ no_live f img (word f.order img (chain_head j)) (chain_of f img j) (A.chains j (omega (arith, low, fits))) (empty j late low)
      ]

  pub search_ends : IsFirstFilled f img chain None → IsNext f img (before_chain from) None
  search_ends empty = none_before (chains_in f img) from f.chains (passed_empty f.chains (omega arith) empty)

  -- the walk along the chain of a head, as one along the image's own list
  walked : (head : Head) (found : Option Live) → IsFirstFilled f img chain (Some head) → FindsIn f img head found → found ≡ live_at f img head.chain (first_live (chains_in f img head.chain))
  walked head found first walks =
      walks (chain_of f img head.chain) (subst (λ y. Chain f img y (chain_of f img head.chain)) (sym first.leads) (A.chains head.chain first.below)) (A.filed head.chain first.below)

  pub search_finds : (head : Head) (live : Live) → IsFirstFilled f img chain (Some head) → FindsIn f img head (Some live) → IsNext f img (before_chain from) (Some live)
  search_finds head live first walks =
      let got = found_some f img head.chain live (first_live (chains_in f img head.chain)) (walked head (Some live) first walks) in (
        got.cell,
        subst (λ k. IsNextLive f (chains_in f img) (before_chain from) k got.cell) (sym got.same)
            (next_before f (chains_in f img) from head.chain got.cell (omega (arith, least, first.least)) first.below (passed_empty head.chain (omega (arith, first.below)) first.empty) got.first),
        got.read,
      )

  pub search_stays : (head : Head) (live : Live) → IsFirstFilled f img chain (Some head) → FindsIn f img head (Some live) → live.chain ≡ head.chain
  search_stays head live first walks = (found_some f img head.chain live (first_live (chains_in f img head.chain)) (walked head (Some live) first walks)).same

  pub search_goes_on : (head : Head) → IsFirstFilled f img chain (Some head) → FindsIn f img head None → (j : ℕ) → from ≤ j → j < head.chain + 1 → first_live (chains_in f img j) ≡ None
  search_goes_on head first walks j above low =
      elim (cases_eq j head.chain) [
        | inl here ↦ subst (λ k. first_live (chains_in f img k) ≡ None) (sym here) (found_none f img head.chain (first_live (chains_in f img head.chain)) (walked head None first walks))
        | inr apart ↦ passed_empty head.chain (omega (arith, first.below)) first.empty j above (omega (arith, low, apart))
      ]

-- behind a record that stands in an image's chain
module _ (f : Form) (img : List ℕ) (chain off : ℕ) where
  -- none is left in its chain, and then it is as before the next one
  pub goes_past : (found : Option Live) → None ≡ live_at f img chain (first_live (behind (chains_in f img chain) off)) → IsNext f img (before_chain (chain + 1)) found → IsNext f img (on_record chain off) found
  goes_past None nothing none = none_on (chains_in f img) chain off (found_none f img chain (first_live (behind (chains_in f img chain) off)) nothing) f.chains none
  goes_past (Some live) nothing (cell, next, read) =
      (cell, next_on (chains_in f img) chain off (found_none f img chain (first_live (behind (chains_in f img chain) off)) nothing) f live.chain cell next, read)

  -- or the first one there is the next
  pub stays_in : (live : Live) → chain < f.chains → Some live ≡ live_at f img chain (first_live (behind (chains_in f img chain) off)) → IsNext f img (on_record chain off) (Some live)
  stays_in live below found =
      let got = found_some f img chain live (first_live (behind (chains_in f img chain) off)) found in
      (got.cell, subst (λ k. IsNextLive f (chains_in f img) (on_record chain off) k got.cell) (sym got.same) (next_here f (chains_in f img) chain off got.cell below got.first), got.read)
