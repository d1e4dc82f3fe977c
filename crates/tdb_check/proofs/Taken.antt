-- Links whose records are put behind one another, and taken out along lists.
use Rattle.std.proofs.Common.{◌≡◌, ◌≢◌, ℕ, zero, suc, ◌+◌, ◌<◌, ◌≤◌, List, [], ◌∷◌, ◌++◌, length, get_or, set, length-append, refl, sym, ◌∙◌, ap, subst, inl, inr, arith}
use Rattle.std.specs.Prelude.{◌==◌, if◌then◌else◌, sum_by, slice_index}
use Rattle.std.proofs.lemmas.Bool.{cases_eq, cases_lt, eq-eqb, ne_eqb}
use Rattle.std.proofs.lemmas.List.{get_or_append_left, get_or_push, get_or-set_same, get_or-set_other, get_or_default, length-set}
use Rattle.std.proofs.lemmas.List.Sums.{sum_by-cons, sum_by-append, sum_by_push, sum_by-set}
use Rattle.tdb_words.specs.Word.{word}
use Rattle.tdb_space.specs.Form.{Form, chain_head}
use Rattle.tdb_space.specs.Record.{next_of}
use Rattle.tdb_space.specs.Pairs.{joined}
use Rattle.tdb_space.specs.FirstFault.{ListKind as Kind}
use Rattle.tdb_space.proofs.Extents.Counts.{joined_same}
use Rattle.tdb_check.specs.declared.links.TheConstants.{NO_LIST}
use Rattle.tdb_check.specs.declared.links.Link.{Link}
use Rattle.tdb_check.specs.declared.links.Links.{Links}
use Rattle.tdb_check.specs.InSequence.{StandsIn, ListFrom}
use Rattle.tdb_check.specs.Links.{LinkAt, AllTold, weight_left, left, LeadsFrom, Reached, StillReached, ListsTaken, HeadsRead}

-- a record that wasn't taken out weighs what it weighs
weight_there : (w : ℕ → ℕ) (l : Link) → l.list ≢ NO_LIST → weight_left w l ≡ w l.at
weight_there w l some = rw (ne_eqb l.list NO_LIST some) refl

-- and one that was weighs nothing
weight_gone : (w : ℕ → ℕ) (l : Link) → l.list ≡ NO_LIST → weight_left w l ≡ 0
weight_gone w l gone = rw (eq-eqb l.list NO_LIST gone) refl

-- no link tells of a record
pub told_none : (kinds : ℕ → Kind) (f : Form) (img : List ℕ) (ls : Links) → length ls.links.items ≡ 0 → AllTold kinds f img ls
told_none kinds f img ls none i d low = absurd (omega (arith, none, low))

none_weigh : (w : ℕ → ℕ) (xs : List Link) → length xs ≡ 0 → sum_by (weight_left w) xs ≡ 0
none_weigh w [] none = refl
none_weigh w (x ∷ xs) none = absurd (omega (arith, none))

-- and none weighs
pub left_none : (w : ℕ → ℕ) (ls : Links) → length ls.links.items ≡ 0 → left w ls ≡ 0
left_none w ls none = none_weigh w ls.links.items none

-- one more link
pub told_push : (kinds : ℕ → Kind) (f : Form) (img : List ℕ) (old : Links) (items : List Link) (l : Link) → items ≡ old.links.items ++ l ∷ [] → AllTold kinds f img old → LinkAt kinds f img l
    → (i : ℕ) (d : Link) → i < length items → (get_or items i d).list ≢ NO_LIST → LinkAt kinds f img (get_or items i d)
told_push kinds f img old items l is told here i d low some =
    let there : get_or items i d ≡ get_or (old.links.items ++ l ∷ []) i d = ap (λ xs. get_or xs i d) is in
    elim (cases_lt i (length old.links.items)) [
      | inl before ↦
          let same : get_or items i d ≡ get_or old.links.items i d = there ∙ get_or_append_left old.links.items (l ∷ []) d i before in
          subst (LinkAt kinds f img) (sym same) (told i d before (λ gone. some (ap (λ (x : Link). x.list) same ∙ gone)))
      | inr behind ↦
          let last : length old.links.items ≡ i = omega (arith, behind, low, ap length is, length-append old.links.items (l ∷ [])) in
          subst (LinkAt kinds f img) (sym (there ∙ get_or_push old.links.items l d i last)) here
    ]

-- weighs more by its record
pub left_push : (w : ℕ → ℕ) (old : Links) (items : List Link) (l : Link) → items ≡ old.links.items ++ l ∷ [] → l.list < NO_LIST → sum_by (weight_left w) items ≡ left w old + w l.at
left_push w old items l is low =
    ap (sum_by (weight_left w)) is ∙ sum_by_push (weight_left w) old.links.items l
    ∙ ap (λ n. left w old + n) (weight_there w l (λ gone. absurd (omega (arith, low, gone))))

-- a link whose record is taken out
pub told_set : (kinds : ℕ → Kind) (f : Form) (img : List ℕ) (old : Links) (i : ℕ) (l : Link) → i < length old.links.items → l.list ≡ NO_LIST → AllTold kinds f img old
    → (k : ℕ) (d : Link) → k < length (set old.links.items i l) → (get_or (set old.links.items i l) k d).list ≢ NO_LIST → LinkAt kinds f img (get_or (set old.links.items i l) k d)
told_set kinds f img old i l low gone told k d under some =
    elim (cases_eq k i) [
      | inl is ↦
          let here : get_or (set old.links.items i l) k d ≡ l = ap (λ n. get_or (set old.links.items i l) n d) is ∙ get_or-set_same old.links.items i l d low in
          absurd (some (ap (λ (x : Link). x.list) here ∙ gone))
      | inr other ↦
          let same : get_or (set old.links.items i l) k d ≡ get_or old.links.items k d = get_or-set_other old.links.items i k l d other in
          let within : k < length old.links.items = omega (arith, under, length-set old.links.items i l) in
          subst (LinkAt kinds f img) (sym same) (told k d within (λ none. some (ap (λ (x : Link). x.list) same ∙ none)))
    ]

-- weighs less by it
pub left_set : (w : ℕ → ℕ) (old : Links) (i : ℕ) (l d : Link) → i < length old.links.items → l.list ≡ NO_LIST → d.list ≢ NO_LIST → d ≡ get_or old.links.items i d → left w old ≡ w d.at + sum_by (weight_left w) (set old.links.items i l)
left_set w old i l d low gone some here =
    omega (
      arith,
      sum_by-set (weight_left w) old.links.items i l d low,
      weight_gone w l gone,
      ap (weight_left w) here,
      weight_there w d some,
    )

all_gone : (w : ℕ → ℕ) (xs : List Link) → ((k : ℕ) (d : Link) → k < length xs → (get_or xs k d).list ≡ NO_LIST) → sum_by (weight_left w) xs ≡ 0
all_gone w [] gone = refl
all_gone w (x ∷ xs) gone =
    omega (
      arith,
      sum_by-cons (weight_left w) x xs,
      weight_gone w x (gone 0 x (omega arith)),
      all_gone w xs (λ k d low. gone (suc k) d (omega (arith, low))),
    )

-- where all records were taken out, none weighs
pub left_all : (w : ℕ → ℕ) (ls : Links) → ((k : ℕ) (d : Link) → k < length ls.links.items → (get_or ls.links.items k d).list ≡ NO_LIST) → left w ls ≡ 0
left_all w ls gone = all_gone w ls.links.items gone

-- one more record follows where the last one leads
leads_more : (f : Form) (kind : Kind) (img : List ℕ) (head : ℕ) (xs : List ℕ) (at : ℕ) → LeadsFrom f kind img head xs at → StandsIn f kind img at → LeadsFrom f kind img head (xs ++ at ∷ []) (next_of f.order img at)
leads_more f kind img head [] at p stands = (p, stands, refl)
leads_more f kind img head (x ∷ xs) at p stands = (p.0, p.1, leads_more f kind img (next_of f.order img x) xs at p.2 stands)

-- where the last one leads to none, this is the whole list
leads_end : (f : Form) (kind : Kind) (img : List ℕ) (head : ℕ) (xs : List ℕ) (to : ℕ) → LeadsFrom f kind img head xs to → to ≡ 0 → ListFrom f kind img head xs
leads_end f kind img head [] to p ends = p ∙ ends
leads_end f kind img head (x ∷ xs) to p ends = (p.0, p.1, leads_end f kind img (next_of f.order img x) xs to p.2 ends)

-- lists of which the one of a number is another
abbrev put : ℕ → List ℕ → (ℕ → List ℕ) → ℕ → List ℕ
put j ys F k = if k == j then ys else F k

put_here : (j : ℕ) (ys : List ℕ) (F : ℕ → List ℕ) (k : ℕ) → k ≡ j → put j ys F k ≡ ys
put_here j ys F k e = rw (eq-eqb k j e) refl

put_other : (j : ℕ) (ys : List ℕ) (F : ℕ → List ℕ) (k : ℕ) → (k ≡ j → ⊥) → put j ys F k ≡ F k
put_other j ys F k ne = rw (ne_eqb k j ne) refl

-- lists without records weigh nothing
none_joined : (w : ℕ → ℕ) (n : ℕ) → sum_by w (joined n (λ _. [])) ≡ 0
none_joined w zero = refl
none_joined w (suc n) = omega (arith, sum_by-append w (joined n (λ _. [])) [], none_joined w n)

-- lists of which one has one more record weigh more by it
joined_more : (w : ℕ → ℕ) (n j x : ℕ) (F : ℕ → List ℕ) → j < n → sum_by w (joined n (put j (F j ++ x ∷ []) F)) ≡ sum_by w (joined n F) + w x
joined_more w zero j x F low = absurd (omega (arith, low))
joined_more w (suc n) j x F low =
    let G : ℕ → List ℕ = put j (F j ++ x ∷ []) F in
    let now = sum_by-append w (joined n G) (G n) in
    let before = sum_by-append w (joined n F) (F n) in
    elim (cases_eq n j) [
      | inl here ↦
          let front : sum_by w (joined n G) ≡ sum_by w (joined n F) = ap (sum_by w) (joined_same n G F (λ k under. put_other j (F j ++ x ∷ []) F k (λ e. absurd (omega (arith, under, e, here))))) in
          let last : sum_by w (G n) ≡ sum_by w (F n ++ x ∷ []) = ap (sum_by w) (put_here j (F j ++ x ∷ []) F n here ∙ ap (λ k. F k ++ x ∷ []) (sym here)) in
          omega (arith, now, before, front, last, sum_by_push w (F n) x)
      | inr other ↦
          let last : sum_by w (G n) ≡ sum_by w (F n) = ap (sum_by w) (put_other j (F j ++ x ∷ []) F n other) in
          omega (arith, now, before, last, joined_more w n j x F (omega (arith, low, other)))
    ]

-- no list was followed yet
reached_none : (kinds : ℕ → Kind) (f : Form) (img heads : List ℕ) (ls : Links) → AllTold kinds f img ls → Reached kinds f img heads ls ls heads
reached_none kinds f img heads ls told = record {
  chain = λ _. [];
  from = λ j low. refl;
  told = told;
  same = λ w. omega (arith, none_joined w (length heads));
}

-- one list was followed by one more record
pub reached_more : (kinds : ℕ → Kind) (f : Form) (img heads : List ℕ) (old mid new : Links) (at now : List ℕ) (j next : ℕ) → Reached kinds f img heads old mid at → j < length at → now ≡ set at j next → StandsIn f (kinds j) img (slice_index at j)
    → next ≡ next_of f.order img (slice_index at j) → AllTold kinds f img new → ((w : ℕ → ℕ) → left w mid ≡ w (slice_index at j) + left w new) → Reached kinds f img heads old new now
reached_more kinds f img heads old mid new at now j next r low is stands leads told less =
    let x = slice_index at j in
    let long : length now ≡ length at = ap length is ∙ length-set at j next in
    let chain : ℕ → List ℕ = put j (r.chain j ++ x ∷ []) r.chain in
    record {
      chain = chain;
      from = λ k under. elim (cases_eq k j) [
        | inl here ↦
            let there : slice_index now k ≡ next_of f.order img x = ap (λ xs. get_or xs k 0) is ∙ ap (λ n. get_or (set at j next) n 0) here ∙ get_or-set_same at j next 0 low ∙ leads in
            let more : LeadsFrom f (kinds k) img (slice_index heads k) (r.chain j ++ x ∷ []) (next_of f.order img x) =
            subst (λ n. LeadsFrom f (kinds n) img (slice_index heads n) (r.chain j ++ x ∷ []) (next_of f.order img x)) (sym here) (leads_more f (kinds j) img (slice_index heads j) (r.chain j) x (r.from j low) stands) in
            subst (λ n. LeadsFrom f (kinds k) img (slice_index heads k) (chain k) n) (sym there)
            (subst (λ ys. LeadsFrom f (kinds k) img (slice_index heads k) ys (next_of f.order img x)) (sym (put_here j (r.chain j ++ x ∷ []) r.chain k here)) more)
        | inr other ↦
            let there : slice_index now k ≡ slice_index at k = ap (λ xs. get_or xs k 0) is ∙ get_or-set_other at j k next 0 other in
            subst (λ n. LeadsFrom f (kinds k) img (slice_index heads k) (chain k) n) (sym there)
            (subst (λ ys. LeadsFrom f (kinds k) img (slice_index heads k) ys (slice_index at k)) (sym (put_other j (r.chain j ++ x ∷ []) r.chain k other)) (r.from k (omega (arith, under, long))))
      ];
      told = told;
      same = λ w. omega (arith, r.same w, less w, joined_more w (length at) j x r.chain low, ap (λ n. sum_by w (joined n chain)) long);
    }

-- each list was followed to its end
pub reached_all : (kinds : ℕ → Kind) (f : Form) (img heads now : List ℕ) (old new : Links) → AllTold kinds f img old → StillReached old heads new now → length now ≡ length heads → ((j : ℕ) → j < length now → slice_index now j ≡ 0) → ListsTaken kinds f img heads old new
reached_all kinds f img heads now old new told still long ends =
    let r = still kinds f img heads old (reached_none kinds f img heads old told) in
    record {
      chain = r.chain;
      from = λ j low.
          (let under : j < length now = omega (arith, low, long) in
          leads_end f (kinds j) img (slice_index heads j) (r.chain j) (slice_index now j) (r.from j under) (ends j under));
      same = λ w. omega (arith, r.same w, ap (λ n. sum_by w (joined n r.chain)) long);
    }

-- one more head was read
pub heads_more : (f : Form) (img heads now : List ℕ) (w : ℕ) → HeadsRead f img heads → now ≡ heads ++ w ∷ [] → w ≡ word f.order img (chain_head (length heads)) → HeadsRead f img now
heads_more f img heads now w read is next j low =
    let there : slice_index now j ≡ get_or (heads ++ w ∷ []) j 0 = ap (λ xs. get_or xs j 0) is in
    elim (cases_lt j (length heads)) [
      | inl before ↦ there ∙ get_or_append_left heads (w ∷ []) 0 j before ∙ read j before
      | inr behind ↦
          let last : length heads ≡ j = omega (arith, behind, low, ap length is, length-append heads (w ∷ [])) in
          there ∙ get_or_push heads w 0 j last ∙ next ∙ ap (λ n. word f.order img (chain_head n)) last
    ]
