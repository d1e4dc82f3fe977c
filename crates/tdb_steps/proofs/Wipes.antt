-- An image whose lists were emptied, and of which what the undo area doesn't hold was made free, is wiped.
use Rattle.std.proofs.Common.{◌≡◌, ℕ, zero, suc, ◌+◌, ◌-◌, ◌<◌, ◌≤◌, ◌⊎◌, List, [], ◌++◌, length, refl, sym, ◌∙◌, ap, subst, inl, inr, arith}
use Rattle.std.specs.Prelude.{slice_index, ◌%◌, All}
use Rattle.std.specs.List.{IsDistinct, Contains}
use Rattle.std.specs.Map.{lookup}
use Rattle.std.proofs.lemmas.Bool.{cases_lt}
use Rattle.std.proofs.lemmas.List.Elements.{All-nil}
use Rattle.tdb_words.specs.Word.{word}
use Rattle.tdb_words.proofs.Words.{word_agrees}
use Rattle.tdb_space.specs.Form.{Form, SameHeader, data_start, free_head, chain_head}
use Rattle.tdb_space.specs.Record.{IsFree}
use Rattle.tdb_space.specs.Chain.{Linked, free_of}
use Rattle.tdb_space.specs.Pairs.{joined, order_of, same_key}
use Rattle.tdb_space.specs.Extents.{Extent, times, once, area, extents, all_extents}
use Rattle.tdb_space.specs.Accepted.{AcceptWith, LaidOut, AreaOk, Shut}
use Rattle.tdb_space.specs.Runs.{InOrder}
use Rattle.tdb_space.proofs.Accepted.Areas.{area_still}
use Rattle.tdb_space.proofs.Extents.Counts.{times_all}
use Rattle.tdb_space.proofs.Accepted.Fresh.{word_zero}
use Rattle.tdb_space.proofs.Form.Headers.{form_kept, header_kept}
use Rattle.tdb_space.proofs.Accepted.Laid.{accepted, free_met, order_met}
use Rattle.tdb_steps.specs.declared.wiping.AreaBounds.{AreaBounds}
use Rattle.tdb_steps.specs.Wiped.{IsStretch, IsFreed, IsBlank, FrontSame, Wiped, BoundsStand, IsArea, MadeFree}
use Rattle.tdb_steps.proofs.Stretched.{front, back, held, outside, inside, front_is, back_is, one_of_two}
use Rattle.tdb_steps.proofs.FreeTails.{freed, freed_short, order_less, Tail, tail_none, says, blanks, tail_more, each_more, listed_here, listed_behind}

-- empty lists joined are empty
joined_empty : {T : Type 0} (n : ℕ) → joined {T = T} n (λ _. []) ≡ []
joined_empty zero = refl
joined_empty (suc n) = ap (λ xs. xs ++ []) (joined_empty n)

no_keys : IsDistinct same_key []
unfolding IsDistinct
no_keys = tt

-- what was done to the image: the heads of chains are 0, the undo area and the header stay, and the two stretches were
-- made free
pub record Done (f : Form) (a b : List ℕ) (p : AreaBounds) : Type 0 where
  pub size : length b ≡ length a
  pub header : (i : ℕ) → i < free_head → slice_index b i ≡ slice_index a i
  pub undo_area : (i : ℕ) → p.from ≤ i → i < p.to → slice_index b i ≡ slice_index a i
  pub zeros : (i : ℕ) → free_head + 4 ≤ i → i < data_start f → slice_index b i ≡ 0
  pub behind : ℕ
  pub first : ℕ
  pub made_back : MadeFree f a b p.to (length a - p.to) 0 behind
  pub made_front : MadeFree f a b (data_start f) (p.from - data_start f) behind first
  pub head : word f.order b free_head ≡ first

module _ (f : Form) (a b : List ℕ) (p : AreaBounds) (A : AcceptWith f a []) (B : BoundsStand f (length a) p) (P : IsArea f a p) (D : Done f a b p) where
  abbrev skip : Extent
  skip = (p.from, p.to - p.from)

  abbrev offs_back : List ℕ
  offs_back = freed p.to (length a - p.to) []

  abbrev offs : List ℕ
  offs = freed (data_start f) (p.from - data_start f) offs_back

  sized : length a % 4 ≡ 0
  sized = A.sized

  -- the stretch behind the undo area
  tail_back : Tail f b skip p.to D.behind offs_back
  tail_back =
      tail_more f a b skip p.to (length a - p.to) 0 D.behind (length a + 1) [] B.aligned_to (omega (arith, sized, B.aligned_to, B.within)) (omega (arith, B.above, B.ordered)) (omega (arith, D.size, B.within))
      (omega (arith, B.within)) (λ i low _. outside f a p B P i (inr low)) (λ i low _ high. absurd (omega (arith, low, high, D.size, B.within))) D.made_back
      (tail_none f b skip (length a + 1) 0 (omega (arith, D.size)) refl)

  -- where there is no undo area, there is none
  nothing_back : p.from ≡ length a → p.to ≡ length a → Tail f b skip (length a + 1) D.behind offs_back
  nothing_back all all_to =
      let none : length a - p.to < 28 = omega (arith, all_to) in
      subst (Tail f b skip (length a + 1) D.behind) (sym (freed_none none))
      (tail_none f b skip (length a + 1) D.behind (omega (arith, D.size)) (blanks f a b p.to (length a - p.to) 0 D.behind none D.made_back).begins)
    where
      freed_none : length a - p.to < 28 → offs_back ≡ []
      freed_none short = freed_short p.to (length a - p.to) [] short

  -- the stretch before it
  tail : Tail f b skip (data_start f) D.first offs
  tail =
      elim P.some [
        | inl there ↦
            tail_more f a b skip (data_start f) (p.from - data_start f) D.behind D.first p.to offs_back (omega arith) (omega (arith, B.aligned, B.above)) (omega arith) (omega (arith, D.size, B.above, B.ordered, B.within))
            (omega (arith, B.above, there)) (λ i low high. outside f a p B P i (inl (omega (arith, low, high)))) (λ i low high _. inside f a p B P i (omega (arith, low, B.above)) high) D.made_front tail_back
        | inr none ↦
            tail_more f a b skip (data_start f) (p.from - data_start f) D.behind D.first (length a + 1) offs_back (omega arith) (omega (arith, B.aligned, B.above)) (omega arith) (omega (arith, D.size, B.above, B.ordered, B.within))
            (omega (arith, B.above, none.0)) (λ i low high. outside f a p B P i (inl (omega (arith, low, high)))) (λ i low _ high. absurd (omega (arith, low, high, B.above, none.0, D.size))) D.made_front (nothing_back none.0 none.1)
      ]

  same_header : SameHeader a b
  same_header i where_at = D.header i (elim where_at [ inl low ↦ omega (arith, low) | inr high ↦ omega (arith, high.1) ])

  area_kept : (i : ℕ) → 1 ≤ times (area f.order a) i → slice_index b i ≡ slice_index a i
  area_kept i some = (let h = held f a p B P i some in D.undo_area i h.0 h.1)

  same_area : (area f.order b ≡ area f.order a) × AreaOk f b × Shut f b
  same_area =
      area_still f a b (omega (arith, D.size)) (word_agrees f.order b a 44 (λ i low high. D.header i (omega (arith, high)))) area_kept A.area_ok A.shut

  -- how often a byte is held
  count : (i : ℕ) → times (all_extents f b (λ _. []) offs []) i ≡ times (extents f.order b offs) i + once skip i
  count i =
      let chains : times (joined f.chains (λ _. extents f.order b [])) i ≡ 0 = ap (λ es. times es i) (joined_empty f.chains) in
      let undo : times (area f.order b) i ≡ once skip i = ap (λ es. times es i) same_area.0 ∙ P.bytes i in
      omega (arith, chains, undo, times_all f b (λ _. []) offs [] i)

  laid : LaidOut f b (λ _. []) offs []
  laid = record {
    header = header_kept a b (omega (arith, D.size, A.long)) same_header A.header;
    form = form_kept a b same_header ∙ A.form;
    some = A.some;
    sized = ap (λ n. n % 4) D.size ∙ A.sized;
    long = omega (arith, D.size, A.long);
    area_ok = same_area.1;
    shut = same_area.2;
    chains = λ j low. word_zero f.order b (chain_head j) (λ i from to. D.zeros i (omega (arith, from)) (omega (arith, to, low)));
    frees = subst (λ at. Linked f IsFree b at offs) (sym D.head) tail.linked;
    filed = λ j low. tt;
    keys = λ j low. no_keys;
    held = tt;
    apart = λ i. omega (arith, count i, tail.apart i);
    stray = λ i from to none. inl (tail.rest i from to (sym (count i) ∙ none));
  }

  list : free_of f b ≡ offs
  list = free_met f b (λ _. []) offs [] laid

  empty_order : order_of f b ≡ []
  empty_order = order_met f b (λ _. []) offs [] laid ∙ joined_empty f.chains

  each : All (IsStretch f a) (extents f.order b offs)
  each =
      each_more (IsStretch f a) f a b (data_start f) (p.from - data_start f) D.behind D.first offs_back D.made_front (front_is f a p B P)
      (each_more (IsStretch f a) f a b p.to (length a - p.to) 0 D.behind [] D.made_back (back_is f a p B P) (All-nil (IsStretch f a)))

  front_made : IsFreed f a b (front f p) ⊎ IsBlank b (front f p)
  front_made =
      elim (cases_lt (p.from - data_start f) 28) [
        | inl short ↦ inr (record { short = short; zeros = (blanks f a b (data_start f) (p.from - data_start f) D.behind D.first short D.made_front).zeros })
        | inr long ↦
            let s = says f a b (data_start f) (p.from - data_start f) D.behind D.first long D.made_front in
            inl (record {
              long = long;
              listed = subst (λ xs. Contains (extents f.order b xs) (front f p)) (sym list) (listed_here f a b (data_start f) (p.from - data_start f) D.behind D.first offs_back long D.made_front);
              empty = s.empty;
              kept = s.kept;
            })
      ]

  back_made : IsFreed f a b (back a p) ⊎ IsBlank b (back a p)
  back_made =
      elim (cases_lt (length a - p.to) 28) [
        | inl short ↦ inr (record { short = short; zeros = (blanks f a b p.to (length a - p.to) 0 D.behind short D.made_back).zeros })
        | inr long ↦
            let s = says f a b p.to (length a - p.to) 0 D.behind long D.made_back in
            inl (record {
              long = long;
              listed =
                  subst (λ xs. Contains (extents f.order b xs) (back a p)) (sym list)
                  (listed_behind f b (data_start f) (p.from - data_start f) offs_back (back a p) (listed_here f a b p.to (length a - p.to) 0 D.behind [] long D.made_back));
              empty = s.empty;
              kept = s.kept;
            })
      ]

  pub area_stays : FrontSame f a b
  area_stays = record { size = D.size; header = D.header; undo_area = area_kept }

  pub wiped : Wiped f a b
  wiped = record {
    accepted = accepted f b (λ _. []) offs [] laid;
    no_pair = λ key. ap (lookup (same_key key)) empty_order;
    heads = laid.chains;
    in_order = subst (λ xs. InOrder 0 (extents f.order b xs)) (sym list) (order_less 0 (data_start f) (extents f.order b offs) (omega arith) tail.ordered);
    each = subst (λ xs. All (IsStretch f a) (extents f.order b xs)) (sym list) each;
    stretches = λ e s. elim (one_of_two f a p B P e s) [
      | inl is ↦ subst (λ e. IsFreed f a b e ⊎ IsBlank b e) (sym is) front_made
      | inr is ↦ subst (λ e. IsFreed f a b e ⊎ IsBlank b e) (sym is) back_made
    ];
    stays = area_stays;
  }
