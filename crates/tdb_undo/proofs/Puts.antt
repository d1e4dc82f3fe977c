-- Entries are put into the content of the undo area, one after the other.
use Rattle.std.proofs.Common.{◌≡◌, add-one, drop-cons, slice_index_or, ℕ, suc, ◌+◌, ◌-◌, ◌<◌, ◌≤◌, ◌⊎◌, List, [], ◌∷◌, length, take, drop, slice_index, refl, sym, ◌∙◌, ap, inl, inr, arith}
use Rattle.std.proofs.lemmas.List.{get_or-take, get_or-drop, length-take, length-drop, ext_get_or, drop_all}
use Rattle.tdb_disk.specs.History.{History}
use Rattle.tdb_disk.specs.Stop.{LeavesOnly}
use Rattle.tdb_words.specs.declared.word.Order.{Order}
use Rattle.tdb_words.specs.Word.{word}
use Rattle.tdb_words.proofs.Words.{word_agrees}
use Rattle.tdb_space.specs.Extents.{Extent}
use Rattle.tdb_space.specs.Opening.{lies_in}
use Rattle.tdb_space.specs.Planned.{content_length, HasContent}
use Rattle.tdb_undo.specs.declared.area.Area.{Area}
use Rattle.tdb_disk.specs.Image.{overlay}
use Rattle.tdb_disk.proofs.Image.{length-overlay, overlay_below, overlay_above}
use Rattle.tdb_space.proofs.Exchange.Overlaid.{word_overlaid}
use Rattle.tdb_undo.specs.Torn.{TornIn, Put}
use Rattle.tdb_undo.specs.Content.{EntryPut, HasRoom, AllBeside, RunsFit, HasEntries, BesideRest, PutUpTo}
use Rattle.tdb_undo.proofs.Blocks.{wider_torn, join_torn}
use Rattle.tdb_undo.proofs.Gives.{stop}
use Rattle.tdb_undo.proofs.Lies.{lies, lies_not, lies_outside}

-- a content has a word at least
pub content_least : (es : List Extent) → 4 ≤ content_length es
content_least [] = omega arith
content_least (e ∷ es) = omega (arith, content_least es)

-- the same bytes in two stretches of an image
stretch_same : (z : List ℕ) (p q n : ℕ) → p + n ≤ length z → q + n ≤ length z → ((k : ℕ) → k < n → slice_index z (p + k) ≡ slice_index z (q + k)) → take n (drop p z) ≡ take n (drop q z)
stretch_same z p q n left right same =
    let one : length (take n (drop p z)) ≡ n = omega (arith, length-take n (drop p z), length-drop p z, left) in
    let two : length (take n (drop q z)) ≡ n = omega (arith, length-take n (drop q z), length-drop q z, right) in
    ext_get_or 0 (take n (drop p z)) (take n (drop q z)) (one ∙ sym two)
    (λ k low. (let under : k < n = omega (arith, low, one) in
    get_or-take n (drop p z) k 0 under ∙ get_or-drop p z k 0 ∙ same k under ∙ sym (get_or-drop q z k 0) ∙ sym (get_or-take n (drop q z) k 0 under)))

-- How far entries were put into the undo area of an image: those for the runs from this one on are still to come, from
-- this place on
pub record Putting (o : Order) (a : Area) (es rest : List Extent) (first : List ℕ) (place : ℕ) (now : List ℕ) : Type 0 where
  pub size : length now ≡ length first
  pub others : (j : ℕ) → (j < a.at + 24) ⊎ (place ≤ j) → slice_index now j ≡ slice_index first j
  pub count : place + content_length rest ≡ a.at + 24 + content_length es
  pub beside : AllBeside a (length first) rest
  pub goes_on : (z : List ℕ) (end : ℕ) → length z ≡ length now → ((j : ℕ) → BesideRest a place j → slice_index z j ≡ slice_index now j) → HasEntries o z place rest end → HasEntries o z (a.at + 24) es end

pub putting_none : (o : Order) (a : Area) (es : List Extent) (first : List ℕ) → RunsFit a (length first) es → Putting o a es es first (a.at + 24) first
putting_none o a es first fit = record {
  size = refl;
  others = λ j _. refl;
  count = refl;
  beside = fit.beside;
  goes_on = λ z end long keeps has. has;
}

-- there is room for the next one
pub putting_room : (o : Order) (a : Area) (es rest : List Extent) (e : Extent) (first now : List ℕ) (place : ℕ) → RunsFit a (length first) es → Putting o a es (e ∷ rest) first place now → HasRoom a (length first) (place + 8 + e.1) e
putting_room o a es rest e first now place fit p = record {
  fits = omega (arith, p.count, fit.fits, content_least rest);
  within = p.beside.0;
  beside = p.beside.1;
}

-- one more entry
pub putting_more : (o : Order) (a : Area) (es rest : List Extent) (e : Extent) (first now after : List ℕ) (place : ℕ) → Putting o a es (e ∷ rest) first place now → a.at + 24 ≤ place → HasRoom a (length first) (place + 8 + e.1) e → stop a ≤ length first
    → EntryPut o place e now after → Putting o a es rest first (place + 8 + e.1) after
putting_more o a es rest e first now after place p above room inside put = record {
  size = put.size ∙ p.size;
  others = λ j out. kept j (elim out [ inl low ↦ inl (omega (arith, low, above)) | inr high ↦ inr high ]) ∙ p.others j (elim out [ inl low ↦ inl low | inr high ↦ inr (omega (arith, high)) ]);
  count = omega (arith, p.count);
  beside = p.beside.2;
  goes_on = λ z end long keeps has. p.goes_on z end (long ∙ put.size)
      (λ j out. keeps j (elim out [ inl low ↦ inl low | inr rest ↦ inr (elim rest [ inl mid ↦ inl (mid.0, omega (arith, mid.1)) | inr high ↦ inr high ]) ])
      ∙ kept j (elim out [ inl low ↦ inl (omega (arith, low, above)) | inr rest ↦ elim rest [ inl mid ↦ inl mid.1 | inr high ↦ inr (omega (arith, high, room.fits)) ] ])) (
        word_agrees o z after place (λ j from to. keeps j (inr (inl (omega (arith, from, above), omega (arith, to))))) ∙ put.off,
        word_agrees o z after (place + 4) (λ j from to. keeps j (inr (inl (omega (arith, from, above), omega (arith, to))))) ∙ put.len,
        stretch_same z (place + 8) e.0 e.1 (omega (arith, long, put.size, p.size, room.fits, inside)) (omega (arith, long, put.size, p.size, room.within))
            (λ k low. keeps (place + 8 + k) (inr (inl (omega (arith, above), omega (arith, low)))) ∙ put.bytes k low
            ∙ sym (keeps (e.0 + k) (elim room.beside [ inl under ↦ inl (omega (arith, under, low)) | inr over ↦ inr (inr (omega (arith, over))) ])
            ∙ kept (e.0 + k) (elim room.beside [ inl under ↦ inl (omega (arith, under, low, above)) | inr over ↦ inr (omega (arith, over, room.fits)) ]))),
        has,
      );
}
  where
    kept : (j : ℕ) → (j < place) ⊎ (place + 8 + e.1 ≤ j) → slice_index after j ≡ slice_index now j
    kept j out = put.others j (lies_not place (8 + e.1) j (elim out [ inl low ↦ inl low | inr high ↦ inr (omega (arith, high)) ]))

-- there is none to come
pub putting_all : (o : Order) (a : Area) (es : List Extent) (first now : List ℕ) (place : ℕ) → Putting o a es [] first place now → PutUpTo o a es first now place
putting_all o a es first now place p = record { size = p.size; others = p.others; stand = λ z long keeps. p.goes_on z place long keeps refl; count = omega (arith, p.count) }

-- one more entry is torn within the content
pub entry_torn : (a : Area) (place len : ℕ) (h mid new : History) → a.at + 24 ≤ place → place + 8 + len ≤ stop a → LeavesOnly h mid (TornIn (lies_in (a.at + 24) a.header.rec_len) h) → LeavesOnly mid new (TornIn (lies_in place (8 + len)) mid)
    → LeavesOnly h new (TornIn (lies_in (a.at + 24) a.header.rec_len) h)
entry_torn a place len h mid new above fits so_far step =
    join_torn h mid new (lies_in (a.at + 24) a.header.rec_len) so_far
    (wider_torn mid new (lies_in place (8 + len)) (lies_in (a.at + 24) a.header.rec_len)
    (λ i out. lies_not place (8 + len) i (elim (lies_outside (a.at + 24) a.header.rec_len i out) [ inl low ↦ inl (omega (arith, low, above)) | inr high ↦ inr (omega (arith, high, fits)) ])) step)

-- the entries and the last word are the content
pub entries_content : (o : Order) (z : List ℕ) (long at end : ℕ) (es : List Extent) → HasEntries o z at es end → word o z end ≡ long → HasContent o z long at es
entries_content o z long at end [] has last = ap (word o z) has ∙ last
entries_content o z long at end (e ∷ es) has last = (has.0, has.1, has.2, entries_content o z long (at + 8 + e.1) end es has.3 last)

-- the two words, and the bytes behind them, make an entry
pub entry_put : (o : Order) (place : ℕ) (run : Extent) (x y z words : List ℕ) → place + 8 + run.1 ≤ length x → (run.0 + run.1 ≤ place) ⊎ (place + 8 + run.1 ≤ run.0) → length words ≡ 8 → word o words 0 ≡ run.0 → word o words 4 ≡ run.1
    → y ≡ overlay x place words → Put (lies_in (place + 8) run.1) (λ i. slice_index y (run.0 + (i - (place + 8)))) y z → EntryPut o place run x z
entry_put o place run x y z words within apart eight off len is_y put = record {
  size = put.size ∙ ap length is_y ∙ length-overlay x place words;
  others = λ i out. elim (lies_outside place (8 + run.1) i out) [
    | inl low ↦ put.others i (lies_not (place + 8) run.1 i (inl (omega (arith, low)))) ∙ beside i (inl low)
    | inr high ↦ put.others i (lies_not (place + 8) run.1 i (inr (omega (arith, high)))) ∙ beside i (inr (omega (arith, high)))
  ];
  off = word_agrees o z y place (λ i from to. put.others i (lies_not (place + 8) run.1 i (inl (omega (arith, to))))) ∙ ap (word o y) (let e : place ≡ place + 0 = omega arith in e) ∙ head 0 (omega arith) ∙ off;
  len = word_agrees o z y (place + 4) (λ i from to. put.others i (lies_not (place + 8) run.1 i (inl (omega (arith, to))))) ∙ head 4 (omega arith) ∙ len;
  bytes = λ k low. put.inside (place + 8 + k) (lies (place + 8) run.1 (place + 8 + k) (omega arith) (omega (arith, low)))
      ∙ ap (slice_index y) (let e : run.0 + (place + 8 + k - (place + 8)) ≡ run.0 + k = omega arith in e)
      ∙ beside (run.0 + k) (elim apart [ inl before ↦ inl (omega (arith, before, low)) | inr behind ↦ inr (omega (arith, behind)) ]);
}
  where
    beside : (i : ℕ) → (i < place) ⊎ (place + 8 ≤ i) → slice_index y i ≡ slice_index x i
    beside i (inl low) = ap (λ l. slice_index l i) is_y ∙ overlay_below x place words i low
    beside i (inr high) = ap (λ l. slice_index l i) is_y ∙ overlay_above x place words i (omega (arith, high, eight))

    head : (k : ℕ) → k + 4 ≤ 8 → word o y (place + k) ≡ word o words k
    head k small = ap (λ l. word o l (place + k)) is_y ∙ word_overlaid o x place words k (omega (arith, small, eight)) (omega (arith, eight, within))

pub drop_next : (es : List Extent) (i : ℕ) (e : Extent) → i < length es → e ≡ slice_index_or es i e → drop i es ≡ e ∷ drop (i + 1) es
drop_next es i e low is = rw (add-one, drop-cons es i e) (ap (λ f. f ∷ drop (suc i) es) (sym is))

pub drop_end : (es : List Extent) (i : ℕ) → length es ≤ i → drop i es ≡ []
drop_end es i high = drop_all i es high
