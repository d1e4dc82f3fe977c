-- The links of the free list, and the records to which they lead.
use Rattle.std.proofs.Common.{◌≡◌, ℕ, List, [], ◌∷◌, Option, Some, None, refl, sym, ◌∙◌, ap, subst, inl, inr}
use Rattle.std.specs.Prelude.{IfSome}
use Rattle.std.specs.List.{find}
use Rattle.std.proofs.lemmas.Bool.{cases_eq, eq-eqb, ne_eqb}
use Rattle.tdb_space.specs.Form.{Form, free_head}
use Rattle.tdb_space.specs.Record.{Whole, rec_len_of, next_of}
use Rattle.tdb_space.specs.Chain.{Free, Leads}
use Rattle.tdb_free.specs.FreeList.{free_pairs, starts_at}
use Rattle.tdb_free.specs.Walk.{IsLed, IsFound}
use Rattle.tdb_free.specs.declared.search.Spot.{Spot}
use Rattle.tdb_free.specs.declared.walk.Link.{Link}
use Rattle.tdb_free.proofs.Passed.{find_here, find_later}

module _ (f : Form) (img : List ℕ) where
  -- a record to which a link leads stands whole
  led_whole : (before y at w : ℕ) (offs : List ℕ) → Free f img at offs → Leads w offs before y → Whole f img y
  led_whole before y at w [] list led = absurd led
  led_whole before y at w (x ∷ xs) list led =
      elim led [
        | inl here ↦ subst (Whole f img) here.1 list.1
        | inr later ↦ led_whole before y (next_of f.order img x) x xs list.3 later
      ]

  -- and it is the one that is found by its offset
  led_found : (before y w : ℕ) (offs : List ℕ) → Leads w offs before y → find (starts_at y) (free_pairs f img offs) ≡ Some (y, rec_len_of f.order img y)
  led_found before y w [] led = absurd led
  led_found before y w (x ∷ xs) led =
      let rest = free_pairs f img xs in
      let at_once : x ≡ y → find (starts_at y) (free_pairs f img (x ∷ xs)) ≡ Some (y, rec_len_of f.order img y) =
      λ e. find_here (starts_at y) (x, rec_len_of f.order img x) rest (eq-eqb x y e) ∙ (λ j. Some (e j, rec_len_of f.order img (e j))) in
      elim led [
        | inl here ↦ at_once here.1
        | inr later ↦
            elim (cases_eq x y) [
              | inl e ↦ at_once e
              | inr ne ↦ find_later (starts_at y) (x, rec_len_of f.order img x) rest (ne_eqb x y ne) ∙ led_found before y x xs later
            ]
      ]

  module _ (offs : List ℕ) where
    -- with no link there is no record
    pub found_none : (sought : Option ℕ) → IsLed f img offs sought None → IsFound f img offs sought None
    found_none None led = refl
    found_none (Some off) led = led

    -- a link leads to a record
    pub found_whole : (at : ℕ) (sought : Option ℕ) (k : Link) → Free f img at offs → IsLed f img offs sought (Some k) → (Whole f img k.at → ⊥) → IsFound f img offs sought None
    found_whole at None k list led never = refl
    found_whole at (Some off) k list led never = absurd (never (led_whole k.before k.at at free_head offs list led.1))

    -- which is the one that is sought
    pub found_there : (sought : Option ℕ) (k : Link) (p : Spot) → IsLed f img offs sought (Some k) → p.off ≡ k.at → p.before ≡ k.before → p.next ≡ next_of f.order img k.at → p.rec_len ≡ rec_len_of f.order img k.at
        → IsFound f img offs sought (Some p)
    found_there None k p led off before next len = absurd (subst (λ o. IfSome o (λ _. ⊥)) (sym led) tt)
    found_there (Some at) k p led off before next len = record {
      leads = subst (λ y. Leads free_head offs p.before y) (sym off) (subst (λ b. Leads free_head offs b k.at) (sym before) led.1);
      next = next ∙ ap (next_of f.order img) (sym off);
      rec_len = len ∙ ap (rec_len_of f.order img) (sym off);
      first = subst (λ y. find (starts_at y) (free_pairs f img offs) ≡ Some (p.off, p.rec_len)) led.0 (led_found k.before k.at free_head offs led.1 ∙ (λ j. Some (sym off j, sym len j)));
    }
