-- A record is taken out of a list: the word that led to it leads past it.
use Rattle.std.proofs.Common.{◌≡◌, ℕ, ◌+◌, ◌<◌, ◌≤◌, ◌⊎◌, List, [], ◌∷◌, length, sym, ◌∙◌, ap, subst, inl, inr, arith}
use Rattle.std.proofs.lemmas.Bool.{cases_lt, cases_eq, eq-eqb, ne_eqb}
use Rattle.tdb_words.specs.Word.{word}
use Rattle.tdb_words.proofs.Words.{word_agrees}
use Rattle.tdb_space.specs.Form.{Form, data_start}
use Rattle.tdb_space.specs.Record.{rec_len_of}
use Rattle.tdb_space.specs.Chain.{Linked, Member, Leads, without}
use Rattle.tdb_space.specs.Extents.{times, once, extents, extent_at}
use Rattle.tdb_space.specs.Exchange.{LedPast}
use Rattle.tdb_space.proofs.Extents.Counts.{once_in}
use Rattle.tdb_space.proofs.Exchange.Kept.{Body, Bodies, words_kept, whole_kept, linked_kept, extents_kept}
use Rattle.tdb_space.proofs.Chain.Walks.{member_cases, member_first, member_other, linked_whole, linked_apart}
use Rattle.tdb_space.proofs.Chain.Members.{bodies_from, nexts_from, member_held, two_members, led_member, led_from, times_without, bodies_without}

-- the list goes on from the place of its first word, past y
led_past : (f : Form) (M : ℕ → Type 0) (a b : List ℕ) (p : ℕ) (xs : List ℕ) (before y : ℕ) → length a ≤ length b → Linked f M a (word f.order a p) xs → (Member p xs → ⊥) → Leads p xs before y → Bodies a b f xs → word f.order b before ≡ word f.order a y → ((z : ℕ) → Member z (p ∷ xs) → (z ≡ before → ⊥) → word f.order b z ≡ word f.order a z) → Linked f M b (word f.order b p) (without y xs)
led_past f M a b p [] before y longer list apart led bodies next others = absurd led
led_past f M a b p (x ∷ xs) before y longer list apart (inl here) bodies next others =
    let rest_word : word f.order b p ≡ word f.order a x = ap (word f.order b) here.0 ∙ next ∙ ap (word f.order a) (sym here.1) in
    let still : (z : ℕ) → Member z xs → word f.order b z ≡ word f.order a z = λ z m.
    others z (member_other z p (x ∷ xs) (member_other z x xs m)) (λ e. apart (subst (λ w. Member w (x ∷ xs)) (e ∙ sym here.0) (member_other z x xs m))) in
    rw (eq-eqb x y here.1) (subst (λ at. Linked f M b at xs) (sym rest_word) (linked_kept f M a b (word f.order a x) xs longer list.3 bodies.1 (nexts_from a b f xs still)))
led_past f M a b p (x ∷ xs) before y longer list apart (inr there) bodies next others =
    let other : x ≡ y → ⊥ = λ e. linked_apart f M a (word f.order a p) x xs list (subst (λ w. Member w xs) (sym e) (led_member x xs before y there)) in
    let passed : p ≡ before → ⊥ = λ e. elim (led_from x xs before y there) [
      | inl same ↦ apart (subst (λ w. Member w (x ∷ xs)) (sym (e ∙ same)) (member_first x xs))
      | inr m ↦ apart (subst (λ w. Member w (x ∷ xs)) (sym e) (member_other before x xs m))
    ] in
    let first : word f.order b p ≡ x = others p (member_first p (x ∷ xs)) passed ∙ list.0 in
    let rest = led_past f M a b x xs before y longer list.3 (linked_apart f M a (word f.order a p) x xs list) there bodies.1 next (λ z m. others z (member_other z p (x ∷ xs) m)) in
    rw (ne_eqb x y other) (first, whole_kept f a b x longer list.1 bodies.0, subst M (sym (words_kept f a b x bodies.0).magic) list.2, rest)

-- what is left where one word of a list was changed, whose records' bytes are held once, and whose first word stands
-- below them
module _ (f : Form) (M : ℕ → Type 0) (a b : List ℕ) (p : ℕ) (xs : List ℕ) (before y : ℕ) (list : Linked f M a (word f.order a p) xs) (low : p + 4 ≤ data_start f) (held : (i : ℕ) → times (extents f.order a xs) i ≤ 1) (led : Leads p xs before y) (L : LedPast f a b before y) where
  longer : length a ≤ length b
  longer = omega (arith, L.size)

  pub unlinked_member : Member y xs
  unlinked_member = led_member p xs before y led

  -- a byte of the word that changed is below the records, or is one of the first four of a record
  pub changed_word : (i : ℕ) → before ≤ i → i < before + 4 → (i < data_start f) ⊎ (1 ≤ times (extents f.order a xs) i)
  changed_word i from to =
      elim (led_from p xs before y led) [
        | inl e ↦ inl (omega (arith, e, low))
        | inr m ↦ inr (omega (arith, once_in (extent_at f.order a before) i from (omega arith), member_held f.order a xs before i m))
      ]

  -- the body of each record stays
  body_stays : (z : ℕ) → Member z xs → Body a b f z
  body_stays z m i from to =
      elim (cases_lt i before) [
        | inl under ↦ L.others i (inl under)
        | inr high ↦
            elim (cases_lt i (before + 4)) [
              | inl within ↦
                  elim (led_from p xs before y led) [
                    | inl e ↦ absurd (omega (arith, e, low, (linked_whole f M a (word f.order a p) xs z list m).0.above))
                    | inr n ↦
                        elim (cases_eq before z) [
                          | inl e ↦ absurd (omega (arith, e))
                          | inr ne ↦
                              absurd (omega (arith, held i, two_members f.order a xs before z i n m ne, once_in (extent_at f.order a before) i high (omega arith), once_in (extent_at f.order a z) i (omega arith) (omega arith)))
                        ]
                  ]
              | inr over ↦ L.others i (inr over)
            ]
      ]

  pub unlinked_bodies : Bodies a b f xs
  unlinked_bodies = bodies_from a b f xs body_stays

  -- each other next word stays
  next_stays : (z : ℕ) → Member z (p ∷ xs) → (z ≡ before → ⊥) → word f.order b z ≡ word f.order a z
  next_stays z m ne =
      word_agrees f.order b a z (λ i from to.
      elim (cases_lt i before) [
        | inl under ↦ L.others i (inl under)
        | inr high ↦
            elim (cases_lt i (before + 4)) [
              | inl within ↦
                  elim (led_from p xs before y led) [
                    | inl e ↦
                        elim (member_cases z p xs m) [
                          | inl e' ↦ absurd (ne (e' ∙ sym e))
                          | inr n ↦ absurd (omega (arith, e, low, (linked_whole f M a (word f.order a p) xs z list n).0.above))
                        ]
                    | inr n ↦
                        elim (member_cases z p xs m) [
                          | inl e' ↦ absurd (omega (arith, e', low, (linked_whole f M a (word f.order a p) xs before list n).0.above))
                          | inr n' ↦
                              absurd (omega (arith, held i, two_members f.order a xs before z i n n' (λ e. ne (sym e)), once_in (extent_at f.order a before) i high (omega arith), once_in (extent_at f.order a z) i from (omega arith)))
                        ]
                  ]
              | inr over ↦ L.others i (inr over)
            ]
      ])

  first_below : Member p xs → ⊥
  first_below m = absurd (omega (arith, low, (linked_whole f M a (word f.order a p) xs p list m).0.above))

  -- the list is the old one without y
  pub unlinked : Linked f M b (word f.order b p) (without y xs)
  unlinked = led_past f M a b p xs before y longer list first_below led unlinked_bodies L.next next_stays

  -- with y the bytes are as before
  pub unlinked_count : (i : ℕ) → times (extents f.order b (without y xs)) i + once (y, 24 + rec_len_of f.order a y) i ≡ times (extents f.order a xs) i
  unlinked_count i =
      let same : times (extents f.order b (without y xs)) i ≡ times (extents f.order a (without y xs)) i = ap (λ es. times es i) (extents_kept f a b (without y xs) (bodies_without a b f xs y unlinked_bodies)) in
      omega (arith, same, times_without f.order a xs y i unlinked_member)
