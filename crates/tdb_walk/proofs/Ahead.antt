-- The next live record from a place on, chain by chain.
use Rattle.std.proofs.Common.{◌≡◌, ℕ, ◌+◌, ◌<◌, ◌≤◌, List, [], Option, Some, None, refl, sym, ◌∙◌, ap, subst, inl, inr, arith}
use Rattle.std.proofs.lemmas.Bool.{cases_eq, cases_lt, eq-eqb, ne_eqb, lt-ltb, le-ltb}
use Rattle.tdb_space.specs.Form.{Form}
use Rattle.tdb_law.specs.Layout.{Cell, Chains, behind}
use Rattle.tdb_law.specs.Layout.Place.{before_chain, on_record}
use Rattle.tdb_walk.specs.declared.live.Live.{Live}
use Rattle.tdb_walk.specs.NextLive.{first_live, left_in, NoneLive, IsNextLive, live_at}

-- nothing isn't something
pub none_some : {T : Type 0} {x : T} → None ≡ Some x → ⊥
none_some e = cc

-- where none was found, there is no cell
pub found_none : (f : Form) (img : List ℕ) (chain : ℕ) (o : Option Cell) → None ≡ live_at f img chain o → o ≡ None
found_none f img chain None e = refl
found_none f img chain (Some c) e = absurd (none_some e)

-- a live record that was found is that of a cell
pub record OfCell (f : Form) (img : List ℕ) (chain : ℕ) (live : Live) (o : Option Cell) : Type 0 where
  pub cell : Cell
  pub first : o ≡ Some cell
  pub same : live.chain ≡ chain
  pub read : live_at f img live.chain (Some cell) ≡ Some live

some_chain : {a b : Live} → Some a ≡ Some b → a.chain ≡ b.chain
some_chain {a} {b} e = ap (λ o. chain_or o) e
  where
    chain_or : Option Live → ℕ
    chain_or None = 0
    chain_or (Some live) = live.chain

pub found_some : (f : Form) (img : List ℕ) (chain : ℕ) (live : Live) (o : Option Cell) → Some live ≡ live_at f img chain o → OfCell f img chain live o
found_some f img chain live None e = absurd (none_some (sym e))
found_some f img chain live (Some c) e =
    let same : live.chain ≡ chain = some_chain e in
    record { cell = c; first = refl; same = same; read = ap (λ n. live_at f img n (Some c)) same ∙ sym e }

-- before a chain, all of later ones is left, and nothing of earlier ones
pub left_before : (cs : Chains) (i j : ℕ) → i ≤ j → left_in cs (before_chain i) j ≡ cs j
left_before cs i j late = rw (le-ltb j i late) refl

pub passed_before : (cs : Chains) (i j : ℕ) → j < i → left_in cs (before_chain i) j ≡ []
passed_before cs i j early = rw (lt-ltb j i early) refl

-- none of the chains from one on has a live record
pub none_before : (cs : Chains) (i n : ℕ) → ((j : ℕ) → i ≤ j → j < n → first_live (cs j) ≡ None) → NoneLive cs (before_chain i) n
none_before cs i n none j low =
    elim (cases_lt j i) [
      | inl early ↦ ap first_live (passed_before cs i j early)
      | inr late ↦ ap first_live (left_before cs i j late) ∙ none j late low
    ]

-- on a record, its chain has what stands behind it, and all others as before the next chain
pub left_here : (cs : Chains) (i p : ℕ) → left_in cs (on_record i p) i ≡ behind (cs i) p
left_here cs i p = rw (eq-eqb i i refl) refl

pub left_else : (cs : Chains) (i p j : ℕ) → (j ≡ i → ⊥) → left_in cs (on_record i p) j ≡ left_in cs (before_chain (i + 1)) j
left_else cs i p j apart =
    elim (cases_lt j i) [
      | inl early ↦ rw (ne_eqb j i apart, lt-ltb j i early, lt-ltb j (i + 1) (omega (arith, early))) refl
      | inr late ↦ rw (ne_eqb j i apart, le-ltb j i late, le-ltb j (i + 1) (omega (arith, late, apart))) refl
    ]

module _ (cs : Chains) (i p : ℕ) (nothing : first_live (behind (cs i) p) ≡ None) where
  -- behind the record none is left in its chain, so it is as before the next one
  pub none_on : (n : ℕ) → NoneLive cs (before_chain (i + 1)) n → NoneLive cs (on_record i p) n
  none_on n none j low =
      elim (cases_eq j i) [
        | inl here ↦ subst (λ k. first_live (left_in cs (on_record i p) k) ≡ None) (sym here) (ap first_live (left_here cs i p) ∙ nothing)
        | inr apart ↦ ap first_live (left_else cs i p j apart) ∙ none j low
      ]

  pub next_on : (f : Form) (chain : ℕ) (cell : Cell) → IsNextLive f cs (before_chain (i + 1)) chain cell → IsNextLive f cs (on_record i p) chain cell
  next_on f chain cell next = record {
    below = next.below;
    passed = none_on chain next.passed;
    first = ap first_live (left_else cs i p chain (λ e. early (omega (arith, e)))) ∙ next.first;
  }
    where
      early : chain < i + 1 → ⊥
      early e = none_some (sym (ap first_live (passed_before cs (i + 1) chain e)) ∙ next.first)

-- the first live record behind the record is the next one
pub next_here : (f : Form) (cs : Chains) (i p : ℕ) (cell : Cell) → i < f.chains → first_live (behind (cs i) p) ≡ Some cell → IsNextLive f cs (on_record i p) i cell
next_here f cs i p cell below found = record {
  below = below;
  passed = λ j early. ap first_live (left_else cs i p j (λ e. absurd (omega (arith, e, early))) ∙ passed_before cs (i + 1) j (omega (arith, early)));
  first = ap first_live (left_here cs i p) ∙ found;
}

-- and in a chain from which on all before have none it is so too
pub next_before : (f : Form) (cs : Chains) (i chain : ℕ) (cell : Cell) → i ≤ chain → chain < f.chains → ((j : ℕ) → i ≤ j → j < chain → first_live (cs j) ≡ None) → first_live (cs chain) ≡ Some cell → IsNextLive f cs (before_chain i) chain cell
next_before f cs i chain cell late below none found = record {
  below = below;
  passed = none_before cs i chain none;
  first = ap first_live (left_before cs i chain late) ∙ found;
}
