-- The records that were found where something beside a hand looks free are the neighbours of the hand.
use Rattle.std.proofs.Common.{◌≡◌, ℕ, ◌+◌, ◌≤◌, List, Option, Some, None, refl, sym, ◌∙◌, ap, subst, inl, inr, arith}
use Rattle.std.specs.Prelude.{IfSome, MatchOption, if◌then◌else◌}
use Rattle.std.proofs.lemmas.Bool.{cases_eq, eq-eqb, ne_eqb}
use Rattle.tdb_space.specs.Form.{Form}
use Rattle.tdb_space.specs.Record.{rec_len_of}
use Rattle.tdb_space.specs.Chain.{Free}
use Rattle.tdb_free.specs.FreeList.{free_pairs, starts_at, ends_at}
use Rattle.tdb_free.specs.Look.{LooksFree, StartsByTailer, EndsFree}
use Rattle.tdb_free.specs.Search.{IsSpot, SpotWithin, count_before, that_ends}
use Rattle.tdb_free.specs.Walk.{IsFound, IsUpTo, LinkWithin, link_of}
use Rattle.tdb_free.specs.declared.search.Spot.{Spot}
use Rattle.tdb_free.specs.declared.walk.Link.{Link}
use Rattle.tdb_free.proofs.Looked.{none_starts, none_ends, none_long, none_before, ends_first, starts_before}

-- what was found is what was sought
pub spot_sought : (len : ℕ) (sought : Option ℕ) (link : Option Link) (found : Option Spot) → IfSome link (λ k. LinkWithin len sought k)
    → IfSome found (λ p. link ≡ Some (link_of p)) → IfSome found (λ p. sought ≡ Some p.off)
spot_sought len sought link None within led = led
spot_sought len sought link (Some p) within led = (subst (λ o. IfSome o (λ k. LinkWithin len sought k)) led within).leads_there

-- and so it starts where something looks free
pub spot_starts : (at : ℕ) (start : Option ℕ) (found : Option Spot) → IfSome start (λ x. x ≡ at) → IfSome found (λ p. start ≡ Some p.off) → IfSome found (λ p. p.off ≡ at)
spot_starts at start None same is = is
spot_starts at start (Some p) same is = subst (λ o. IfSome o (λ x. x ≡ at)) is same

-- what is left out where it ends elsewhere stands as before, and ends there
pub ends_within : (f : Form) (len at : ℕ) (found : Option Spot) → IfSome found (λ p. SpotWithin p f len) → IfSome (that_ends found at) (λ p. SpotWithin p f len)
ends_within f len at None within = within
ends_within f len at (Some p) within =
    elim (cases_eq (p.off + 24 + p.rec_len) at) [
      | inl e ↦ subst (λ b. IfSome (if b then Some p else None) (λ q. SpotWithin q f len)) (sym (eq-eqb (p.off + 24 + p.rec_len) at e)) within
      | inr ne ↦ subst (λ b. IfSome (if b then Some p else None) (λ q. SpotWithin q f len)) (sym (ne_eqb (p.off + 24 + p.rec_len) at ne)) tt
    ]

pub ends_there : (at : ℕ) (found : Option Spot) → IfSome (that_ends found at) (λ p. p.off + 24 + p.rec_len ≡ at)
ends_there at None = tt
ends_there at (Some p) =
    elim (cases_eq (p.off + 24 + p.rec_len) at) [
      | inl e ↦ subst (λ b. IfSome (if b then Some p else None) (λ q. q.off + 24 + q.rec_len ≡ at)) (sym (eq-eqb (p.off + 24 + p.rec_len) at e)) e
      | inr ne ↦ subst (λ b. IfSome (if b then Some p else None) (λ q. q.off + 24 + q.rec_len ≡ at)) (sym (ne_eqb (p.off + 24 + p.rec_len) at ne)) tt
    ]

module _ (f : Form) (img offs : List ℕ) (from : ℕ) (list : Free f img from offs) where
  -- the record of the list that starts at a place
  pub next_found : (at : ℕ) (start : Option ℕ) → MatchOption start (LooksFree f.order img at → ⊥) (λ _. LooksFree f.order img at) → IfSome start (λ x. x ≡ at)
      → (found : Option Spot) → IsFound f img offs start found → IsSpot f img offs (starts_at at) found
  next_found at None none same found is = subst (λ o. IsSpot f img offs (starts_at at) o) (sym is) (none_starts f img at from offs list none)
  next_found at (Some x) free same found is = subst (λ y. IsSpot f img offs (starts_at y) found) same is

  pub next_up_to : (at : ℕ) (start : Option ℕ) → MatchOption start (LooksFree f.order img at → ⊥) (λ _. LooksFree f.order img at) → IfSome start (λ x. x ≡ at)
      → (most : ℕ) → (LooksFree f.order img at → count_before (starts_at at) (free_pairs f img offs) ≤ most) → IsUpTo f img offs start most
  next_up_to at None none same most up_to = tt
  next_up_to at (Some x) free same most up_to = subst (λ y. count_before (starts_at y) (free_pairs f img offs) ≤ most) (sym same) (up_to free)

  -- the record of the list that ends at a place
  pub previous_found : (at : ℕ) (start : Option ℕ) → MatchOption start (EndsFree f.order img at → ⊥) (λ x. StartsByTailer f.order img at x × LooksFree f.order img x)
      → (found : Option Spot) → IfSome found (λ p. start ≡ Some p.off) → IsFound f img offs start found → IsSpot f img offs (ends_at at) (that_ends found at)
  previous_found at None none found sought is = subst (λ o. IsSpot f img offs (ends_at at) (that_ends o at)) (sym is) (none_ends f img at from offs list none)
  previous_found at (Some start) there None sought is = none_before f img at start there.0 from offs list is
  previous_found at (Some start) there (Some p) sought is =
      let off : p.off ≡ start = subst (λ o. IfSome o (λ x. x ≡ start)) sought refl in
      elim (cases_eq (p.off + 24 + p.rec_len) at) [
        | inl e ↦
            subst (λ b. IsSpot f img offs (ends_at at) (if b then Some p else None)) (sym (eq-eqb (p.off + 24 + p.rec_len) at e))
            (ends_first f img at start there.0 from offs p list is off e)
        | inr ne ↦
            subst (λ b. IsSpot f img offs (ends_at at) (if b then Some p else None)) (sym (ne_eqb (p.off + 24 + p.rec_len) at ne))
            (none_long f img at start there.0 from offs list (λ e. ne ((λ j. off j + 24 + (is.rec_len ∙ ap (rec_len_of f.order img) off) j) ∙ e)))
      ]

  pub previous_up_to : (at : ℕ) (start : Option ℕ) → MatchOption start (EndsFree f.order img at → ⊥) (λ x. StartsByTailer f.order img at x × LooksFree f.order img x)
      → (most : ℕ) → (EndsFree f.order img at → count_before (ends_at at) (free_pairs f img offs) ≤ most) → IsUpTo f img offs start most
  previous_up_to at None none most up_to = tt
  previous_up_to at (Some start) there most up_to = omega (arith, starts_before f img at start there.0 from offs list, up_to (start, there.0, there.1))
