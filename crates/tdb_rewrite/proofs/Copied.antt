-- A file that is written anew, pair by pair, from the last one to the first.
use Rattle.std.proofs.Common.{◌≡◌, ℕ, ◌+◌, ◌<◌, ◌≤◌, ◌⊎◌, List, [], ◌∷◌, ◌++◌, zero, suc, length, append_assoc, append-nil, Some, None, Bool, true, false, refl, sym, ◌∙◌, ap, subst, inl, inr, arith}
use Rattle.std.specs.Prelude.{nat_eq, if◌then◌else◌}
use Rattle.std.specs.List.{IsDistinct, AllByRecursion, starts_with}
use Rattle.std.proofs.lemmas.List.Elements.{filter-append}
use Rattle.std.specs.Map.{lookup, keys_of, update}
use Rattle.std.proofs.lemmas.Bool.{cases_lt, cases_eq, cases_Bool, eq-eqb, ne_eqb}
use Rattle.std.proofs.lemmas.Map.{update_same, update_other}
use Rattle.std.proofs.lemmas.Map.Keys.{IsDistinct-head, IsDistinct-tail}
use Rattle.std.proofs.lemmas.Map.Made.{IsDistinct-keys_filter}
use Rattle.tdb_words.specs.Word.{word}
use Rattle.tdb_space.specs.Accepted.{AcceptWith, AllFiled}
use Rattle.tdb_space.specs.Chain.{Linked, chain_of}
use Rattle.tdb_space.specs.Form.{Form, chain_head}
use Rattle.tdb_space.specs.NewRecord.{rec_len_for}
use Rattle.tdb_space.specs.Pairs.{joined, pair_of, pairs, map_of, order_of, same_key, home}
use Rattle.tdb_rewrite.specs.Readable.{Readable}
use Rattle.tdb_space.proofs.Pairs.Listed.{pairs-append, pairs-push}
use Rattle.tdb_check.specs.Report.{chained}
use Rattle.tdb_space.specs.Record.{IsChained}
use Rattle.tdb_space.proofs.Accepted.Laid.{accepted_filed}
use Rattle.tdb_space.proofs.Pairs.Maps.{same_key-eq, same_key-refl, same_key-other, map_home, home_below}
use Rattle.tdb_chain.specs.declared.refusal.ValueRefusal as Value
use Rattle.tdb_free.specs.Growth.{usual_length, grown_length}
use Rattle.tdb_backup.specs.Building.{of_read, of_insert}
use Rattle.tdb_backup.specs.Filling.{Added, AllUsed, InsertCause, HasNoRoom, PutFirst}
use Rattle.tdb_backup.specs.declared.refusal.InsertRefusal.{InsertRefusal}
use Rattle.tdb_backup.specs.declared.refusal.InsertRefusal.TheVariants.{Full, Io, Memory}
use Rattle.tdb_backup.specs.declared.refusal.CopyRefusal.{CopyRefusal}
use Rattle.tdb_backup.specs.declared.refusal.CopyRefusal.TheVariants as Copy
use Rattle.tdb_rewrite.proofs.Walking.{moved}
use Rattle.tdb_rewrite.specs.Places.{HasHeader}
use Rattle.tdb_rewrite.specs.declared.walk.Listed.{Listed}
use Rattle.tdb_rewrite.specs.Rewritten.{AreNew, IsBare, Rewritten, HoldsEnd, RewriteCause, StandsRead, StandsUsed, chosen, of_chain}

-- a bare image has no record in a chain
bare_chain : (f : Form) (img : List ℕ) → IsBare f img → (j : ℕ) → j < f.chains → chain_of f img j ≡ []
bare_chain f img bare j low = none (chain_of f img j) (bare.accepted.chains j low)
  where
    none : (xs : List ℕ) → Linked f IsChained img (word f.order img (chain_head j)) xs → xs ≡ []
    none [] l = refl
    none (x ∷ xs) l = absurd (omega (arith, l.1.above, l.1.within, bare.ends))

-- so it is written anew from no pair
rewritten_bare : (f : Form) (img : List ℕ) → IsBare f img → Rewritten f img []
rewritten_bare f img bare = record {
  accepted = bare.accepted;
  map = λ k. map_home f img k (accepted_filed f img [] bare.accepted)
      ∙ ap (λ xs. lookup (same_key k) (pairs f.order img xs)) (bare_chain f img bare (home f k) (home_below f k bare.accepted.some));
  chains = λ j low. ap (pairs f.order img) (bare_chain f img bare j low);
  all_used = λ j low. subst (AllUsed f.order img) (sym (bare_chain f img bare j low)) tt;
  no_area = bare.no_area;
  each = λ i from to. absurd (omega (arith, from, to, bare.ends));
}

-- a map with a pair more in front
map_first : (done : List (List ℕ × List ℕ)) (p : List ℕ × List ℕ) (k : List ℕ) → update same_key (λ q. lookup (same_key q) done) p.0 (Some p.1) k ≡ lookup (same_key k) (p ∷ done)
map_first done p k =
    elim (cases_Bool (same_key p.0 k)) [
      | inl same ↦
          let e : p.0 ≡ k = same_key-eq p.0 k same in
          let here : same_key k p.0 ≡ true = subst (λ q. same_key k q ≡ true) (sym e) (same_key-refl k) in
          let first : lookup (same_key k) (p ∷ done) ≡ Some p.1 = rw here refl in
          update_same same_key (λ q. lookup (same_key q) done) p.0 (Some p.1) k same ∙ sym first
      | inr other ↦
          let apart : same_key k p.0 ≡ false = same_key-other k p.0 (λ e. (let is : same_key p.0 k ≡ true = subst (λ q. same_key p.0 q ≡ true) (sym e) (same_key-refl p.0) in cc)) in
          let behind : lookup (same_key k) (p ∷ done) ≡ lookup (same_key k) done = rw apart refl in
          update_other same_key (λ q. lookup (same_key q) done) p.0 (Some p.1) k other ∙ sym behind
    ]

-- with a pair more it is written anew from that one too
pub rewritten_more : (f : Form) (a b : List ℕ) (p : List ℕ × List ℕ) (done : List (List ℕ × List ℕ)) → Rewritten f a done → Added f a b p.0 p.1 → PutFirst f a b p.0 p.1 → Rewritten f b (p ∷ done)
rewritten_more f a b p done R added put = record {
  accepted = added.accepted;
  map = λ k. added.map k ∙ (λ j. update same_key (λ q. R.map q j) p.0 (Some p.1) k) ∙ map_first done p k;
  chains = λ j low.
      (elim (cases_eq (home f p.0) j) [
        | inl is ↦
            let filed : of_chain f j (p ∷ done) ≡ p ∷ of_chain f j done = rw (eq-eqb (home f p.0) j is) refl in
            subst (λ k. pairs f.order b (chain_of f b k) ≡ p ∷ pairs f.order a (chain_of f a k)) is put.own ∙ ap (λ ps. p ∷ ps) (R.chains j low) ∙ sym filed
        | inr other ↦
            let filed : of_chain f j (p ∷ done) ≡ of_chain f j done = rw (ne_eqb (home f p.0) j other) refl in
            put.others j low (λ e. other (sym e)) ∙ R.chains j low ∙ sym filed
      ]);
  all_used = put.used R.all_used;
  no_area = put.area ∙ R.no_area;
  each = put.each R.no_area R.each;
}

-- of different keys, one is not among those behind it
absent_behind : (k : List ℕ) (xs : List (List ℕ × List ℕ)) → AllByRecursion (λ y. same_key k y ≡ false) (keys_of xs) → lookup (same_key k) xs ≡ None
absent_behind k [] all = refl
absent_behind k (x ∷ xs) all = rw all.0 (absent_behind k xs all.1)

distinct_behind : (front rest : List (List ℕ × List ℕ)) → IsDistinct same_key (keys_of (front ++ rest)) → IsDistinct same_key (keys_of rest)
distinct_behind [] rest differ = differ
distinct_behind (x ∷ xs) rest differ = distinct_behind xs rest (IsDistinct-tail same_key x.0 (keys_of (xs ++ rest)) differ)

-- the keys of pairs that stand in front of others aren't among those
all_behind : (P : List ℕ → Type 0) (xs ys : List (List ℕ × List ℕ)) → AllByRecursion P (keys_of (xs ++ ys)) → AllByRecursion P (keys_of ys)
all_behind P [] ys all = all
all_behind P (x ∷ xs) ys all = all_behind P xs ys all.1

are_new : (ps done : List (List ℕ × List ℕ)) → IsDistinct same_key (keys_of (ps ++ done)) → AreNew ps done
are_new [] done differ = tt
are_new (p ∷ ps) done differ = (
  absent_behind p.0 done (all_behind (λ y. same_key p.0 y ≡ false) ps done (IsDistinct-head same_key p.0 (keys_of (ps ++ done)) differ)),
  are_new ps done (IsDistinct-tail same_key p.0 (keys_of (ps ++ done)) differ),
)

-- the pairs of the records of all chains are those of the file
joined_pairs : (f : Form) (img : List ℕ) (n : ℕ) → pairs f.order img (joined n (chain_of f img)) ≡ joined n (λ j. pairs f.order img (chain_of f img j))
joined_pairs f img zero = refl
joined_pairs f img (suc n) =
    pairs-append f.order img (joined n (chain_of f img)) (chain_of f img n) ∙ ap (λ ps. ps ++ pairs f.order img (chain_of f img n)) (joined_pairs f img n)

-- each of these records stands whole, and has room for what it holds where it is used
abbrev pub AllStand : Form → List ℕ → List ℕ → Type 0
AllStand f img [] = Unit {0}
AllStand f img (x ∷ xs) = StandsUsed f img x × AllStand f img xs

stand_both : (f : Form) (img xs ys : List ℕ) → AllStand f img xs → AllStand f img ys → AllStand f img (xs ++ ys)
stand_both f img [] ys p q = q
stand_both f img (x ∷ xs) ys p q = (p.0, stand_both f img xs ys p.1 q)

stand_front : (f : Form) (img xs ys : List ℕ) → AllStand f img (xs ++ ys) → AllStand f img xs
stand_front f img [] ys p = tt
stand_front f img (x ∷ xs) ys p = (p.0, stand_front f img xs ys p.1)

stand_last : (f : Form) (img xs : List ℕ) (x : ℕ) → AllStand f img (xs ++ x ∷ []) → StandsUsed f img x
stand_last f img [] x p = p.0
stand_last f img (y ∷ ys) x p = stand_last f img ys x p.1

stand_chain : (f : Form) (img : List ℕ) (j at : ℕ) (xs : List ℕ) → Linked f IsChained img at xs → AllFiled f img j xs → AllStand f img xs
stand_chain f img j at [] l filed = tt
stand_chain f img j at (x ∷ xs) l filed = ((l.1, λ used. (filed.0 used).fits), stand_chain f img j (word f.order img x) xs l.3 filed.1)

stand_joined : (f : Form) (img : List ℕ) → Readable f img → (n : ℕ) → n ≤ f.chains → AllStand f img (joined n (chain_of f img))
stand_joined f img R zero low = tt
stand_joined f img R (suc n) low =
    stand_both f img (joined n (chain_of f img)) (chain_of f img n) (stand_joined f img R n (omega (arith, low)))
    (stand_chain f img n (word f.order img (chain_head n)) (chain_of f img n) (R.chains n (omega (arith, low))) (R.filed n (omega (arith, low))))

-- The records at some offsets are still to be copied, and the pairs of those that were are held: with the others they
-- are all that are chosen.
pub record Ahead (f : Form) (img prefix : List ℕ) (g : Form) (b offs : List ℕ) : Type 0 where
  pub stand : AllStand f img offs
  pub done : List (List ℕ × List ℕ)
  pub split : chosen prefix (order_of f img) ≡ chosen prefix (pairs f.order img offs) ++ done
  pub holds : Rewritten g b done

pub ahead_first : (f : Form) (img prefix : List ℕ) (g : Form) (b offs : List ℕ) → Readable f img → IsBare g b → offs ≡ chained f img → Ahead f img prefix g b offs
ahead_first f img prefix g b offs R bare all = record {
  stand = subst (AllStand f img) (sym all) (stand_joined f img R f.chains (omega arith));
  done = [];
  split = sym (ap (λ xs. chosen prefix (pairs f.order img xs)) all ∙ ap (chosen prefix) (joined_pairs f img f.chains)) ∙ sym (append-nil (chosen prefix (pairs f.order img offs)));
  holds = rewritten_bare g b bare;
}

module _ (f : Form) (img prefix : List ℕ) (g : Form) (b offs : List ℕ) (h : Ahead f img prefix g b offs) where
  pub ahead_end : offs ≡ [] → Rewritten g b (chosen prefix (order_of f img))
  ahead_end none = subst (Rewritten g b) (sym (h.split ∙ ap (λ xs. chosen prefix (pairs f.order img xs) ++ h.done) none)) h.holds

  -- nothing more was copied
  pub ahead_kept : HoldsEnd g b (chosen prefix (order_of f img))
  ahead_kept = (chosen prefix (pairs f.order img offs), h.done, h.split, h.holds)

  module _ (rest : List ℕ) (off : ℕ) (last : offs ≡ rest ++ off ∷ []) where
    pub next_stands : StandsUsed f img off
    next_stands = stand_last f img rest off (subst (AllStand f img) last h.stand)

    pub next_split : chosen prefix (order_of f img) ≡ chosen prefix (pairs f.order img rest) ++ (chosen prefix (pair_of f.order img off) ++ h.done)
    next_split =
        h.split ∙ ap (λ xs. chosen prefix (pairs f.order img xs) ++ h.done) last
        ∙ ap (λ ps. chosen prefix ps ++ h.done) (pairs-push f.order img rest off)
        ∙ ap (λ ps. ps ++ h.done) (filter-append (λ p. starts_with nat_eq p.0 prefix) (pairs f.order img rest) (pair_of f.order img off))
        ∙ append_assoc (chosen prefix (pairs f.order img rest)) (chosen prefix (pair_of f.order img off)) h.done

    -- its key is new
    pub next_new : Readable f img → AreNew (chosen prefix (pair_of f.order img off)) h.done
    next_new R =
        let differ = IsDistinct-keys_filter same_key (λ p. starts_with nat_eq p.0 prefix) (order_of f img) R.differ in
        are_new (chosen prefix (pair_of f.order img off)) h.done
        (distinct_behind (chosen prefix (pairs f.order img rest)) (chosen prefix (pair_of f.order img off) ++ h.done) (subst (λ ps. IsDistinct same_key (keys_of ps)) next_split differ))

    -- it was copied
    pub ahead_more : (now : List ℕ) → Rewritten g now (chosen prefix (pair_of f.order img off) ++ h.done) → Ahead f img prefix g now rest
    ahead_more now holds = record {
      stand = stand_front f img rest (off ∷ []) (subst (AllStand f img) last h.stand);
      done = chosen prefix (pair_of f.order img off) ++ h.done;
      split = next_split;
      holds = holds;
    }

-- why not all of some pairs are added is why not all of more in front of them are
pub cause_more : (g : Form) (b : List ℕ) (ahead tail given : List (List ℕ × List ℕ)) (limit : ℕ) (e : CopyRefusal) → given ≡ ahead ++ tail → RewriteCause g b tail limit e → RewriteCause g b given limit e
cause_more g b ahead tail given limit Copy.Read split cause = (ahead ++ cause.0, cause.1, split ∙ ap (λ ps. ahead ++ ps) cause.2 ∙ sym (append_assoc ahead cause.0 cause.1), cause.3)
cause_more g b ahead tail given limit Copy.Write split cause = tt
cause_more g b ahead tail given limit (Copy.Full len need) split cause = record {
  ahead = ahead ++ cause.ahead;
  next = cause.next;
  done = cause.done;
  split = split ∙ ap (λ ps. ahead ++ ps) cause.split ∙ sym (append_assoc ahead cause.ahead (cause.next ∷ cause.done));
  holds = cause.holds;
  no_room = cause.no_room;
}
cause_more g b ahead tail given limit Copy.Memory split cause = (ahead ++ cause.0, cause.1, split ∙ ap (λ ps. ahead ++ ps) cause.2 ∙ sym (append_assoc ahead cause.0 cause.1), cause.3)

-- which pairs a record brings: none where it isn't used, or where its key doesn't begin with the prefix
pub chosen_unused : (prefix : List ℕ) (ps : List (List ℕ × List ℕ)) (p : List ℕ × List ℕ) (used : Bool) → used ≡ false → ps ≡ (if used then p ∷ [] else []) → chosen prefix ps ≡ []
chosen_unused prefix ps p used isnt same =
    let none : (if used then p ∷ [] else []) ≡ [] = rw isnt refl in
    ap (chosen prefix) (same ∙ none)

module _ (prefix : List ℕ) (ps : List (List ℕ × List ℕ)) (p : List ℕ × List ℕ) (used begins : Bool) (yes : used ≡ true) (is : begins ≡ starts_with nat_eq p.0 prefix) (same : ps ≡ (if used then p ∷ [] else [])) where
  its_pair : ps ≡ p ∷ []
  its_pair = let one : (if used then p ∷ [] else []) ≡ p ∷ [] = rw yes refl in same ∙ one

  pub chosen_other : begins ≡ false → chosen prefix ps ≡ []
  chosen_other isnt =
      let out : chosen prefix (p ∷ []) ≡ [] = rw (sym is ∙ isnt) refl in
      ap (chosen prefix) its_pair ∙ out

  pub chosen_this : begins ≡ true → chosen prefix ps ≡ p ∷ []
  chosen_this so =
      let kept : chosen prefix (p ∷ []) ≡ p ∷ [] = rw (sym is ∙ so) refl in
      ap (chosen prefix) its_pair ∙ kept

-- a file that grows gets no shorter
grown_long : (len need limit to : ℕ) → grown_length len need limit ≡ Some to → len ≤ to
grown_long len need limit to e =
    elim (cases_lt limit (usual_length len need)) [
      | inl past ↦
          elim (cases_lt limit (len + need)) [
            | inl short ↦ grind (arith, e, past, short)
            | inr just ↦ let is : to ≡ len + need = grind (arith, e, past, just) in omega (arith, is)
          ]
      | inr low ↦ let is : to ≡ usual_length len need = grind (arith, e, low) in omega (arith, is)
    ]

pub no_shorter : (size need limit to : ℕ) → (to ≡ size) ⊎ (grown_length size need limit ≡ Some to) → size ≤ to
no_shorter size need limit to (inl same) = omega (arith, same)
no_shorter size need limit to (inr grown) = grown_long size need limit to grown

-- where it brings none the new file is as it was
pub copied_none : (g : Form) (b : List ℕ) (ps done : List (List ℕ × List ℕ)) → ps ≡ [] → Rewritten g b done → Rewritten g b (ps ++ done)
copied_none g b ps done none R = subst (λ qs. Rewritten g b (qs ++ done)) (sym none) R

-- where it brings one that one is added, or is refused
module _ (g : Form) (a b : List ℕ) (ps done : List (List ℕ × List ℕ)) (p : List ℕ × List ℕ) (key value : List ℕ) (one : ps ≡ p ∷ []) (is_key : key ≡ p.0) (is_value : value ≡ p.1) (R : Rewritten g a done) where
  pub copied_one : AreNew ps done → (AcceptWith g a [] → map_of g a key ≡ None → Added g a b key value) → (AcceptWith g a [] → map_of g a key ≡ None → PutFirst g a b key value) → Rewritten g b (ps ++ done)
  copied_one new added put =
      let lone : AreNew (p ∷ []) done = subst (λ qs. AreNew qs done) one new in
      let absent : map_of g a key ≡ None = ap (map_of g a) is_key ∙ R.map p.0 ∙ lone.0 in
      let adds : Added g a b p.0 p.1 = subst (λ q. Added g a b p.0 q) is_value (subst (λ q. Added g a b q value) is_key (added R.accepted absent)) in
      let puts : PutFirst g a b p.0 p.1 = subst (λ q. PutFirst g a b p.0 q) is_value (subst (λ q. PutFirst g a b q value) is_key (put R.accepted absent)) in
      subst (λ qs. Rewritten g b (qs ++ done)) (sym one) (rewritten_more g a b p done R adds puts)

  pub refused_one : (limit : ℕ) (e : InsertRefusal) → (AcceptWith g a [] → InsertCause g a b (rec_len_for (length key) (length value)) limit e) → RewriteCause g b (ps ++ done) limit (of_insert e)
  refused_one limit e cause = of_cause e (cause R.accepted)
    where
      of_cause : (e : InsertRefusal) → InsertCause g a b (rec_len_for (length key) (length value)) limit e → RewriteCause g b (ps ++ done) limit (of_insert e)
      of_cause (Full len need) full =
          let kept = full.no_room.same in
          record {
            ahead = [];
            next = p;
            done = done;
            split = ap (λ qs. qs ++ done) one;
            holds = subst (λ i. Rewritten g i done) (sym kept) R;
            no_room = subst (λ q. HasNoRoom g b b (rec_len_for (length p.0) (length q)) limit len need) is_value (subst (λ q. HasNoRoom g b b (rec_len_for (length q) (length value)) limit len need) is_key (subst (λ i. HasNoRoom g i b (rec_len_for (length key) (length value)) limit len need) (sym kept) full));
          }
      of_cause Io cause = tt
      of_cause Memory kept = (ps, done, refl, subst (λ i. Rewritten g i done) (sym kept) R)

-- where it isn't read the new file is as it was
pub refused_unread : (g : Form) (b : List ℕ) (ps done : List (List ℕ × List ℕ)) (limit : ℕ) (e : Value.ValueRefusal) → Rewritten g b done → RewriteCause g b (ps ++ done) limit (of_read e)
refused_unread g b ps done limit Value.TheVariants.Io R = (ps, done, refl, R)
refused_unread g b ps done limit Value.TheVariants.Memory R = (ps, done, refl, R)

-- where the places aren't read nothing was copied
pub refused_bare : (g : Form) (b : List ℕ) (given : List (List ℕ × List ℕ)) (limit : ℕ) (e : Value.ValueRefusal) → IsBare g b → RewriteCause g b given limit (of_read e)
refused_bare g b given limit Value.TheVariants.Io bare = (given, [], sym (append-nil given), rewritten_bare g b bare)
refused_bare g b given limit Value.TheVariants.Memory bare = (given, [], sym (append-nil given), rewritten_bare g b bare)

-- where the place of the next record isn't read nothing more was copied
pub refused_ahead : (f : Form) (img prefix : List ℕ) (g : Form) (b offs : List ℕ) (limit : ℕ) (e : Value.ValueRefusal) → Ahead f img prefix g b offs → RewriteCause g b (chosen prefix (order_of f img)) limit (of_read e)
refused_ahead f img prefix g b offs limit Value.TheVariants.Io h = ahead_kept f img prefix g b offs h
refused_ahead f img prefix g b offs limit Value.TheVariants.Memory h = ahead_kept f img prefix g b offs h

-- the last of the records that are ahead is copied, or refused, by a call over views that are as they were
module _ (f k : Form) (img v prefix : List ℕ) (g l : Form) (a b offs rest : List ℕ) (found : Listed) (limit : ℕ) (form : k ≡ f) (image : v ≡ img) (same : l ≡ g) (R : Readable f img)
    (h : Ahead f img prefix g a offs) (last : offs ≡ rest ++ found.off ∷ []) (header : HasHeader f img found) where
  stands_there : StandsRead k v found
  stands_there = moved (λ x i. StandsRead x i found) k f v img (sym form) (sym image) (header, next_stands f img prefix g a offs h rest found.off last)

  holds_there : Rewritten l a h.done
  holds_there = subst (λ x. Rewritten x a h.done) (sym same) h.holds

  new_there : AreNew (chosen prefix (pair_of k.order v found.off)) h.done
  new_there = moved (λ x i. AreNew (chosen prefix (pair_of x.order i found.off)) h.done) k f v img (sym form) (sym image) (next_new f img prefix g a offs h rest found.off last R)

  pub step_copied : (StandsRead k v found → (done : List (List ℕ × List ℕ)) → Rewritten l a done → AreNew (chosen prefix (pair_of k.order v found.off)) done → Rewritten l b (chosen prefix (pair_of k.order v found.off) ++ done)) → Ahead f img prefix g b rest
  step_copied copied =
      ahead_more f img prefix g a offs h rest found.off last b
      (moved (λ x i. Rewritten g b (chosen prefix (pair_of x.order i found.off) ++ h.done)) f k img v form image
      (subst (λ x. Rewritten x b (chosen prefix (pair_of k.order v found.off) ++ h.done)) same (copied stands_there h.done holds_there new_there)))

  pub step_refused : (e : CopyRefusal) → (StandsRead k v found → (done : List (List ℕ × List ℕ)) → Rewritten l a done → AreNew (chosen prefix (pair_of k.order v found.off)) done → RewriteCause l b (chosen prefix (pair_of k.order v found.off) ++ done) limit e) → RewriteCause g b (chosen prefix (order_of f img)) limit e
  step_refused e refused =
      cause_more g b (chosen prefix (pairs f.order img rest)) (chosen prefix (pair_of f.order img found.off) ++ h.done) (chosen prefix (order_of f img)) limit e (next_split f img prefix g a offs h rest found.off last)
      (moved (λ x i. RewriteCause g b (chosen prefix (pair_of x.order i found.off) ++ h.done) limit e) f k img v form image
      (subst (λ x. RewriteCause x b (chosen prefix (pair_of k.order v found.off) ++ h.done) limit e) same (refused stands_there h.done holds_there new_there)))
