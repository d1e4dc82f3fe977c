-- One record of a list is changed where it stands.
use Rattle.std.proofs.Common.{◌≡◌, ℕ, ◌+◌, ◌<◌, ◌≤◌, List, [], ◌∷◌, ◌++◌, length, true, false, refl, sym, ◌∙◌, ap, subst, inl, inr, arith}
use Rattle.std.specs.Prelude.{slice_index}
use Rattle.std.specs.Map.{set_value, keys_of}
use Rattle.std.specs.List.{IsDistinct}
use Rattle.std.proofs.lemmas.Bool.{cases_lt, cases_eq, eq-eqb, ne_eqb, false≢true}
use Rattle.std.proofs.lemmas.Cmp.{nat_list_eq_equiv}
use Rattle.std.proofs.lemmas.Map.Keys.{IsDistinct-head, IsDistinct-tail}
use Rattle.tdb_words.specs.declared.record.TheConstants.{USED}
use Rattle.tdb_words.specs.declared.word.Order.{Order}
use Rattle.tdb_words.specs.Word.{word}
use Rattle.tdb_words.proofs.Words.{word_agrees}
use Rattle.tdb_space.specs.Form.{Form}
use Rattle.tdb_space.specs.Record.{Whole, key_at, data_at, magic_of, rec_len_of}
use Rattle.tdb_space.specs.Chain.{Linked, Member, without}
use Rattle.tdb_space.specs.Pairs.{pairs, pair_of, same_key}
use Rattle.tdb_space.specs.Extents.{times, once, extents, extent_at}
use Rattle.tdb_space.specs.Accepted.{Filed, AllFiled}
use Rattle.tdb_space.specs.Exchange.{Touched}
use Rattle.tdb_space.proofs.Extents.Counts.{once_in}
use Rattle.tdb_space.proofs.Exchange.Kept.{Body, Bodies, words_kept, whole_kept, pair_kept, filed_kept, extents_kept, pairs_kept}
use Rattle.tdb_space.proofs.Chain.Walks.{member_cases, member_first, member_other, linked_apart}
use Rattle.tdb_space.proofs.Chain.Members.{bodies_from, two_members}
use Rattle.tdb_space.proofs.Pairs.Maps.{pairs_used, pairs_other, same_key-refl}
use Rattle.tdb_space.proofs.Accepted.Removes.{key_among}

-- all records of a list but one stay, and each next word does
pub record Beside (f : Form) (a b : List ℕ) (xs : List ℕ) (y : ℕ) : Type 0 where
  pub longer : length a ≤ length b
  pub body : (z : ℕ) → Member z xs → (z ≡ y → ⊥) → Body a b f z
  pub next : (z : ℕ) → Member z xs → word f.order b z ≡ word f.order a z
  pub whole : Whole f b y

beside_rest : (f : Form) (a b : List ℕ) (x : ℕ) (xs : List ℕ) (y : ℕ) → Beside f a b (x ∷ xs) y → Beside f a b xs y
beside_rest f a b x xs y h = record {
  longer = h.longer;
  body = λ z m ne. h.body z (member_other z x xs m) ne;
  next = λ z m. h.next z (member_other z x xs m);
  whole = h.whole;
}

-- that is so where one record is touched, and no byte of the list is held twice
pub touched_beside : (f : Form) (M : ℕ → Type 0) (a b : List ℕ) (at : ℕ) (xs : List ℕ) (y : ℕ) → Linked f M a at xs → ((i : ℕ) → times (extents f.order a xs) i ≤ 1) → Member y xs → Touched f a b y → Beside f a b xs y
touched_beside f M a b at xs y list held m T = record {
  longer = omega (arith, T.size);
  body = λ z n ne i from to. outside z n ne i (omega arith) to;
  next = λ z n.
      elim (cases_eq z y) [
        | inl e ↦ word_agrees f.order b a z (λ i from to. T.others i (inl (omega (arith, e))))
        | inr ne ↦ word_agrees f.order b a z (λ i from to. outside z n ne i from (omega arith))
      ];
  whole = T.whole;
}
  where
    outside : (z : ℕ) → Member z xs → (z ≡ y → ⊥) → (i : ℕ) → z ≤ i → i < z + 24 + rec_len_of f.order a z → slice_index b i ≡ slice_index a i
    outside z n ne i from to =
        elim (cases_lt i (y + 4)) [
          | inl under ↦ T.others i (inl under)
          | inr high ↦
              elim (cases_lt i (y + 24 + rec_len_of f.order a y)) [
                | inl within ↦ absurd (omega (arith, held i, two_members f.order a xs z y i n m ne, once_in (extent_at f.order a z) i from (omega arith), once_in (extent_at f.order a y) i (omega arith) (omega arith)))
                | inr over ↦ T.others i (inr over)
              ]
        ]

-- the others of a list whose first record was changed
rest_bodies : (f : Form) (M : ℕ → Type 0) (a b : List ℕ) (at x : ℕ) (xs : List ℕ) (y : ℕ) → Linked f M a at (x ∷ xs) → x ≡ y → Beside f a b (x ∷ xs) y → Bodies a b f xs
rest_bodies f M a b at x xs y list e h =
    bodies_from a b f xs (λ z m. h.body z (member_other z x xs m) (λ same. linked_apart f M a at x xs list (subst (λ w. Member w xs) (same ∙ sym e) m)))

-- the records are linked as before
pub linked_touched : (f : Form) (M : ℕ → Type 0) (a b : List ℕ) (at : ℕ) (xs : List ℕ) (y : ℕ) → Linked f M a at xs → Beside f a b xs y → M (magic_of f.order b y) → Linked f M b at xs
linked_touched f M a b at [] y list h mark = list
linked_touched f M a b at (x ∷ xs) y list h mark =
    let rest = linked_touched f M a b (word f.order a x) xs y list.3 (beside_rest f a b x xs y h) mark in
    let next : Linked f M b (word f.order b x) xs = subst (λ z. Linked f M b z xs) (sym (h.next x (member_first x xs))) rest in
    elim (cases_eq x y) [
      | inl e ↦ (list.0, subst (Whole f b) (sym e) h.whole, subst (λ z. M (magic_of f.order b z)) (sym e) mark, next)
      | inr ne ↦
          let body = h.body x (member_first x xs) ne in
          (list.0, whole_kept f a b x h.longer list.1 body, subst M (sym (words_kept f a b x body).magic) list.2, next)
    ]

-- the bytes that they hold differ by the record's
pub times_touched : (f : Form) (M : ℕ → Type 0) (a b : List ℕ) (at : ℕ) (xs : List ℕ) (y i : ℕ) → Linked f M a at xs → Beside f a b xs y → Member y xs → times (extents f.order b xs) i + once (extent_at f.order a y) i ≡ times (extents f.order a xs) i + once (extent_at f.order b y) i
times_touched f M a b at [] y i list h m = absurd (false≢true m)
times_touched f M a b at (x ∷ xs) y i list h m =
    elim (cases_eq x y) [
      | inl e ↦
          let rest : times (extents f.order b xs) i ≡ times (extents f.order a xs) i = ap (λ es. times es i) (extents_kept f a b xs (rest_bodies f M a b at x xs y list e h)) in
          let old : once (extent_at f.order a x) i ≡ once (extent_at f.order a y) i = ap (λ z. once (extent_at f.order a z) i) e in
          let new : once (extent_at f.order b x) i ≡ once (extent_at f.order b y) i = ap (λ z. once (extent_at f.order b z) i) e in
          omega (arith, rest, old, new)
      | inr ne ↦
          let there : Member y xs = elim (member_cases y x xs m) [ inl here ↦ absurd (ne (sym here)) | inr rest ↦ rest ] in
          let same : once (extent_at f.order b x) i ≡ once (extent_at f.order a x) i = ap (λ n. once (x, 24 + n) i) (words_kept f a b x (h.body x (member_first x xs) ne)).rec_len in
          omega (arith, same, times_touched f M a b (word f.order a x) xs y i list.3 (beside_rest f a b x xs y h) there)
    ]

-- they are filed as before, if the record is
pub filed_touched : (f : Form) (M : ℕ → Type 0) (a b : List ℕ) (j at : ℕ) (xs : List ℕ) (y : ℕ) → Linked f M a at xs → Beside f a b xs y → AllFiled f a j xs → (magic_of f.order b y ≡ USED → Filed f b j y) → AllFiled f b j xs
filed_touched f M a b j at [] y list h filed here = tt
filed_touched f M a b j at (x ∷ xs) y list h filed here =
    let rest = filed_touched f M a b j (word f.order a x) xs y list.3 (beside_rest f a b x xs y h) filed.1 here in
    elim (cases_eq x y) [
      | inl e ↦ (subst (λ z. magic_of f.order b z ≡ USED → Filed f b j z) (sym e) here, rest)
      | inr ne ↦
          let body = h.body x (member_first x xs) ne in
          (λ used. filed_kept f a b j x h.longer list.1 body (filed.0 (sym (words_kept f a b x body).magic ∙ used)), rest)
    ]

-- where the record is no longer used, the pairs are those without it
pub pairs_marked : (f : Form) (M : ℕ → Type 0) (a b : List ℕ) (j at : ℕ) (xs : List ℕ) (y : ℕ) → Linked f M a at xs → Beside f a b xs y → AllFiled f a j xs → (magic_of f.order b y ≡ USED → ⊥) → pairs f.order b xs ≡ pairs f.order a (without y xs)
pairs_marked f M a b j at [] y list h filed dead = refl
pairs_marked f M a b j at (x ∷ xs) y list h filed dead =
    elim (cases_eq x y) [
      | inl e ↦
          rw (eq-eqb x y e) (pairs_other f.order b x xs (λ used. dead (subst (λ z. magic_of f.order b z ≡ USED) e used))
          ∙ pairs_kept f M a b j (word f.order a x) xs h.longer list.3 (rest_bodies f M a b at x xs y list e h) filed.1)
      | inr ne ↦
          let here = pair_kept f a b x h.longer list.1 (h.body x (member_first x xs) ne) (λ used. (filed.0 used).fits) in
          let rest = pairs_marked f M a b j (word f.order a x) xs y list.3 (beside_rest f a b x xs y h) filed.1 dead in
          rw (ne_eqb x y ne) (λ i. here i ++ rest i)
    ]

-- the pair of a used record in front of others, and of another one
pairs_front : (o : Order) (img : List ℕ) (x : ℕ) → magic_of o img x ≡ USED → (ps : List (List ℕ × List ℕ)) → pair_of o img x ++ ps ≡ (key_at o img x, data_at o img x) ∷ ps
pairs_front o img x used ps = rw (eq-eqb (magic_of o img x) USED used) refl

pairs_none : (o : Order) (img : List ℕ) (x : ℕ) → (magic_of o img x ≡ USED → ⊥) → (ps : List (List ℕ × List ℕ)) → pair_of o img x ++ ps ≡ ps
pairs_none o img x other ps = rw (ne_eqb (magic_of o img x) USED other) refl

-- where it has another value for its key, the pairs are those with this value at the key
pub pairs_set : (f : Form) (M : ℕ → Type 0) (a b : List ℕ) (j at : ℕ) (xs : List ℕ) (y : ℕ) → Linked f M a at xs → Beside f a b xs y → AllFiled f a j xs → IsDistinct same_key (keys_of (pairs f.order a xs)) → Member y xs → magic_of f.order a y ≡ USED → magic_of f.order b y ≡ USED → key_at f.order b y ≡ key_at f.order a y → pairs f.order b xs ≡ set_value (same_key (key_at f.order a y)) (pairs f.order a xs) (data_at f.order b y)
pairs_set f M a b j at [] y list h filed distinct m used_a used_b key = absurd (false≢true m)
pairs_set f M a b j at (x ∷ xs) y list h filed distinct m used_a used_b key =
    elim (cases_eq x y) [
      | inl e ↦
          let ux_a : magic_of f.order a x ≡ USED = subst (λ z. magic_of f.order a z ≡ USED) (sym e) used_a in
          let ux_b : magic_of f.order b x ≡ USED = subst (λ z. magic_of f.order b z ≡ USED) (sym e) used_b in
          let met : same_key (key_at f.order a y) (key_at f.order a x) ≡ true = subst (λ z. same_key (key_at f.order a z) (key_at f.order a x) ≡ true) e (same_key-refl (key_at f.order a x)) in
          let rest : pairs f.order b xs ≡ pairs f.order a xs = pairs_kept f M a b j (word f.order a x) xs h.longer list.3 (rest_bodies f M a b at x xs y list e h) filed.1 in
          let set : set_value (same_key (key_at f.order a y)) (pairs f.order a (x ∷ xs)) (data_at f.order b y) ≡ (key_at f.order a x, data_at f.order b y) ∷ pairs f.order a xs =
          ap (λ ps. set_value (same_key (key_at f.order a y)) ps (data_at f.order b y)) (pairs_used f.order a x xs ux_a) ∙ rw met refl in
          let key_x : key_at f.order b x ≡ key_at f.order a x = ap (key_at f.order b) e ∙ key ∙ ap (key_at f.order a) (sym e) in
          pairs_used f.order b x xs ux_b ∙ (λ i. (key_x i, data_at f.order b (e i)) ∷ rest i) ∙ sym set
      | inr ne ↦
          let there : Member y xs = elim (member_cases y x xs m) [ inl here ↦ absurd (ne (sym here)) | inr rest ↦ rest ] in
          let here : pair_of f.order b x ≡ pair_of f.order a x = pair_kept f a b x h.longer list.1 (h.body x (member_first x xs) ne) (λ used. (filed.0 used).fits) in
          elim (cases_eq (magic_of f.order a x) USED) [
            | inl e ↦
                let spread : IsDistinct same_key (key_at f.order a x ∷ keys_of (pairs f.order a xs)) = subst (λ ps. IsDistinct same_key (keys_of ps)) (pairs_used f.order a x xs e) distinct in
                let apart : same_key (key_at f.order a x) (key_at f.order a y) ≡ false = key_among f.order a xs (λ q. same_key (key_at f.order a x) q ≡ false) y (IsDistinct-head same_key (key_at f.order a x) (keys_of (pairs f.order a xs)) spread) there used_a in
                let passed : same_key (key_at f.order a y) (key_at f.order a x) ≡ false = nat_list_eq_equiv.symm (key_at f.order a y) (key_at f.order a x) ∙ apart in
                let rest = pairs_set f M a b j (word f.order a x) xs y list.3 (beside_rest f a b x xs y h) filed.1 (IsDistinct-tail same_key (key_at f.order a x) (keys_of (pairs f.order a xs)) spread) there used_a used_b key in
                let set : set_value (same_key (key_at f.order a y)) (pairs f.order a (x ∷ xs)) (data_at f.order b y) ≡ (key_at f.order a x, data_at f.order a x) ∷ set_value (same_key (key_at f.order a y)) (pairs f.order a xs) (data_at f.order b y) =
                ap (λ ps. set_value (same_key (key_at f.order a y)) ps (data_at f.order b y)) (pairs_used f.order a x xs e) ∙ rw passed refl in
                (λ i. here i ++ rest i) ∙ pairs_front f.order a x e (set_value (same_key (key_at f.order a y)) (pairs f.order a xs) (data_at f.order b y)) ∙ sym set
            | inr other ↦
                let rest = pairs_set f M a b j (word f.order a x) xs y list.3 (beside_rest f a b x xs y h) filed.1 (subst (λ ps. IsDistinct same_key (keys_of ps)) (pairs_other f.order a x xs other) distinct) there used_a used_b key in
                (λ i. here i ++ rest i) ∙ pairs_none f.order a x other (set_value (same_key (key_at f.order a y)) (pairs f.order a xs) (data_at f.order b y))
                ∙ ap (λ ps. set_value (same_key (key_at f.order a y)) ps (data_at f.order b y)) (sym (pairs_other f.order a x xs other))
          ]
    ]
