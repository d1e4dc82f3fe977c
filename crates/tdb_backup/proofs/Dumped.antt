-- What a dump has written and what it still holds, pair by pair; and what is written of it where it is refused.
use Rattle.std.proofs.Common.{◌≡◌, ℕ, ◌+◌, ◌<◌, ◌≤◌, Bool, true, false, List, [], ◌∷◌, ◌++◌, length, take, drop, append_assoc, append-nil, zero, suc, refl, sym, ◌∙◌, ap, subst, inl, inr, arith}
use Rattle.std.specs.Prelude.{map}
use Rattle.std.specs.List.{flat_map}
use Rattle.std.proofs.lemmas.Bool.{cases_eq}
use Rattle.std.proofs.lemmas.List.{length-append, length-take-le, take_at, take-append-le, take-append-drop, map-append}
use Rattle.std.proofs.lemmas.List.Concat.{flat_map-append}
use Rattle.tdb_dump.specs.declared.listing.Listing.{Listing}
use Rattle.tdb_dump.specs.declared.pairs.Pair.{Pair}
use Rattle.tdb_dump.specs.Listing.{entry_text}
use Rattle.tdb_space.specs.Form.{Form}
use Rattle.tdb_space.specs.Chain.{chain_of}
use Rattle.tdb_space.specs.Pairs.{joined, pairs, order_of}
use Rattle.tdb_backup.specs.declared.traversal.Traversal.{Traversal}
use Rattle.tdb_backup.specs.Traversal.{Gave, pair_at_hand}
use Rattle.tdb_backup.specs.Dump.{as_pair, text_of, order_text, listing_of, WroteFront, HandedOn, WroteNext}

-- the front of a list and some of what follows
take_over : (xs ys zs : List ℕ) (n : ℕ) → n ≤ length ys → take (length xs + n) (xs ++ ys ++ zs) ≡ xs ++ take n ys
take_over xs ys zs n short =
    let split : xs ++ ys ≡ xs ++ take n ys ++ drop n ys = ap (λ t. xs ++ t) (sym (take-append-drop n ys)) ∙ sym (append_assoc xs (take n ys) (drop n ys)) in
    let long : length (xs ++ take n ys) ≡ length xs + n = omega (arith, length-append xs (take n ys), length-take-le n ys short) in
    let within : length xs + n ≤ length (xs ++ ys) = omega (arith, length-append xs ys, short) in
    take-append-le (length xs + n) (xs ++ ys) zs within ∙ ap (take (length xs + n)) split ∙ take_at (xs ++ take n ys) (drop n ys) (length xs + n) long

-- the texts of two lists of pairs follow one another
order_text_split : (l : Listing) (given rest : List (List ℕ × List ℕ)) → order_text l (given ++ rest) ≡ order_text l given ++ order_text l rest
order_text_split l given rest =
    ap (λ ps. flat_map (λ (q : Pair). entry_text l q.key q.value) ps) (map-append as_pair given rest)
    ∙ flat_map-append (λ (q : Pair). entry_text l q.key q.value) (map as_pair given) (map as_pair rest)

-- the front of joined lists is that of the first ones
joined_front : {T : Type 0} (n m : ℕ) (F : ℕ → List T) → n ≤ m → (rest : List T) × (joined m F ≡ joined n F ++ rest)
joined_front n zero F le = ([], let e : zero ≡ n = omega (arith, le) in ap (λ k. joined k F) e ∙ sym (append-nil (joined n F)))
joined_front n (suc m) F le =
    elim (cases_eq n (suc m)) [
      | inl e ↦ ([], ap (λ k. joined k F) (sym e) ∙ sym (append-nil (joined n F)))
      | inr other ↦
          let below = joined_front n m F (omega (arith, le, other)) in
          (below.0 ++ F m, ap (λ xs. xs ++ F m) below.1 ∙ append_assoc (joined n F) below.0 (F m))
    ]

-- what a walk has given is the front of the order
pub gave_front : (f : Form) (img : List ℕ) (given : List (List ℕ × List ℕ)) (t : Traversal) → Gave f img given t → (rest : List (List ℕ × List ℕ)) × (order_of f img ≡ given ++ rest)
gave_front f img given t h =
    let more = joined_front t.next_chain f.chains (λ j. pairs f.order img (chain_of f img j)) h.below in
    (pairs f.order img h.ahead ++ more.0, more.1 ∙ ap (λ ps. ps ++ more.0) h.all ∙ append_assoc given (pairs f.order img h.ahead) more.0)

-- so its text is the front of the dump
gave_text : (l : Listing) (f : Form) (img : List ℕ) (given : List (List ℕ × List ℕ)) (t : Traversal) → Gave f img given t → (rest : List ℕ) × (listing_of l f img ≡ order_text l given ++ rest)
gave_text l f img given t h = let more = gave_front f img given t h in (order_text l more.0, ap (order_text l) more.1 ∙ order_text_split l given more.0)

-- The text of these pairs was written behind what was there, up to what is still held of it
pub record Dumped (l : Listing) (before now held : List ℕ) (given : List (List ℕ × List ℕ)) : Type 0 where
  pub done : List ℕ
  pub wrote : now ≡ before ++ done
  pub all : done ++ held ≡ order_text l given

-- at first nothing was written, and nothing is held
pub dumped_start : (l : Listing) (before : List ℕ) → Dumped l before before [] []
dumped_start l before = record { done = []; wrote = sym (append-nil before); all = refl }

-- a pair more is held
pub dumped_pair : (l : Listing) (before now held more : List ℕ) (given : List (List ℕ × List ℕ)) (p : List ℕ × List ℕ) → Dumped l before now held given → more ≡ held ++ entry_text l p.0 p.1 → Dumped l before now more (given ++ p ∷ [])
dumped_pair l before now held more given p d e = record {
  done = d.done;
  wrote = d.wrote;
  all = ap (λ t. d.done ++ t) e ∙ sym (append_assoc d.done held (entry_text l p.0 p.1)) ∙ ap (λ t. t ++ entry_text l p.0 p.1) d.all
      ∙ sym (order_text_split l given (p ∷ []) ∙ ap (λ t. order_text l given ++ t) (append-nil (entry_text l p.0 p.1)));
}

-- what was held is handed on
pub dumped_on : (l : Listing) (before now held later left : List ℕ) (given : List (List ℕ × List ℕ)) → Dumped l before now held given → HandedOn now held later left → Dumped l before later left given
dumped_on l before now held later left given d on =
    elim on [
      | inl same ↦ record { done = d.done; wrote = same.0 ∙ d.wrote; all = ap (λ t. d.done ++ t) same.1 ∙ d.all }
      | inr wrote ↦ record {
        done = d.done ++ held;
        wrote = wrote.0 ∙ ap (λ t. t ++ held) d.wrote ∙ append_assoc before d.done held;
        all = ap (λ t. d.done ++ held ++ t) wrote.1 ∙ append-nil (d.done ++ held) ∙ d.all;
      }
    ]

-- where nothing is held any more, all of the text was written
pub dumped_end : (l : Listing) (before now held : List ℕ) (given : List (List ℕ × List ℕ)) → Dumped l before now held given → held ≡ [] → now ≡ before ++ order_text l given
dumped_end l before now held given d none = d.wrote ∙ ap (λ t. before ++ t) (sym (append-nil d.done) ∙ ap (λ t. d.done ++ t) (sym none) ∙ d.all)

module _ (l : Listing) (f : Form) (img before now held : List ℕ) (given : List (List ℕ × List ℕ)) (t : Traversal) (h : Gave f img given t) (d : Dumped l before now held given) where
  -- what was written is a front of the dump
  pub dumped_front : WroteFront before (listing_of l f img) now
  dumped_front =
      let more = gave_text l f img given t h in
      let whole : listing_of l f img ≡ d.done ++ (held ++ more.0) = more.1 ∙ ap (λ x. x ++ more.0) (sym d.all) ∙ append_assoc d.done held more.0 in
      let cut : take (length d.done) (listing_of l f img) ≡ d.done = ap (take (length d.done)) whole ∙ take_at d.done (held ++ more.0) (length d.done) refl in
      (length d.done, omega (arith, ap length whole, length-append d.done (held ++ more.0)), d.wrote ∙ ap (λ x. before ++ x) (sym cut))

  -- and so it is where only some of what was held is written
  pub dumped_failed : (later : List ℕ) → WroteFront now held later → WroteFront before (listing_of l f img) later
  dumped_failed later wrote =
      let more = gave_text l f img given t h in
      let n = wrote.0 in
      let whole : listing_of l f img ≡ d.done ++ held ++ more.0 = more.1 ∙ ap (λ x. x ++ more.0) (sym d.all) in
      let cut : take (length d.done + n) (listing_of l f img) ≡ d.done ++ take n held = ap (take (length d.done + n)) whole ∙ take_over d.done held more.0 n wrote.1 in (
        length d.done + n,
        omega (arith, wrote.1, ap length whole, length-append (d.done ++ held) more.0, length-append d.done held),
        wrote.2 ∙ ap (λ x. x ++ take n held) d.wrote ∙ append_assoc before d.done (take n held) ∙ ap (λ x. before ++ x) (sym cut),
      )

-- what a listing has written and holds, and the walk that it came with
abbrev pub Listed : Listing → Form → List ℕ → List ℕ → List ℕ → List ℕ → Traversal → Type 0
Listed l f img before now held t = (given : List (List ℕ × List ℕ)) × Gave f img given t × Dumped l before now held given

-- a pair more was listed
pub listed_more : (l : Listing) (f : Form) (img before now held later left : List ℕ) (given : List (List ℕ × List ℕ)) (u : Traversal) → Dumped l before now held given
    → Gave f img (given ++ pair_at_hand u ∷ []) u × HandedOn now (held ++ text_of l (pair_at_hand u)) later left → Listed l f img before later left u
listed_more l f img before now held later left given u d next = (
  given ++ pair_at_hand u ∷ [],
  next.0,
  dumped_on l before now (held ++ text_of l (pair_at_hand u)) later left (given ++ pair_at_hand u ∷ []) (dumped_pair l before now held (held ++ text_of l (pair_at_hand u)) given (pair_at_hand u) d refl) next.1,
)

-- no pair is left, and what is held is handed on
pub listed_all : (l : Listing) (f : Form) (img before now held later left : List ℕ) (given : List (List ℕ × List ℕ)) → Dumped l before now held given → order_of f img ≡ given
    → HandedOn now held later left → length left < 1 → later ≡ before ++ listing_of l f img
listed_all l f img before now held later left given d order on short =
    dumped_end l before later left given (dumped_on l before now held later left given d on) (none left short) ∙ ap (λ ps. before ++ order_text l ps) (sym order)
  where
    none : (xs : List ℕ) → length xs < 1 → xs ≡ []
    none [] short = refl
    none (x ∷ xs) short = absurd (omega (arith, short))

-- where a pair isn't listed, what was written is a front of the dump
pub listed_stopped : (l : Listing) (f : Form) (img before now held later : List ℕ) (given : List (List ℕ × List ℕ)) → Dumped l before now held given → WroteNext l (order_of f img) given now held later
    → WroteFront before (listing_of l f img) later
listed_stopped l f img before now held later given d w =
    let n = w.wrote.0 in
    let more = order_text l w.next in
    let rest = order_text l w.rest in
    let whole : listing_of l f img ≡ d.done ++ (held ++ more) ++ rest =
    ap (order_text l) w.split ∙ order_text_split l (given ++ w.next) w.rest
    ∙ ap (λ t. t ++ rest) (order_text_split l given w.next ∙ ap (λ t. t ++ more) (sym d.all) ∙ append_assoc d.done held more) in
    let cut : take (length d.done + n) (listing_of l f img) ≡ d.done ++ take n (held ++ more) = ap (take (length d.done + n)) whole ∙ take_over d.done (held ++ more) rest n w.wrote.1 in (
      length d.done + n,
      omega (arith, w.wrote.1, ap length whole, length-append (d.done ++ (held ++ more)) rest, length-append d.done (held ++ more)),
      w.wrote.2 ∙ ap (λ x. x ++ take n (held ++ more)) d.wrote ∙ append_assoc before d.done (take n (held ++ more)) ∙ ap (λ x. before ++ x) (sym cut),
    )

-- nothing was written of the next pair
pub none_next : (l : Listing) (f : Form) (img before held now : List ℕ) (given : List (List ℕ × List ℕ)) (t : Traversal) → Gave f img given t → now ≡ before → WroteNext l (order_of f img) given before held now
none_next l f img before held now given t h same =
    let more = gave_front f img given t h in
    record {
      next = [];
      rest = more.0;
      split = more.1 ∙ ap (λ ps. ps ++ more.0) (sym (append-nil given));
      one = omega arith;
      wrote = (0, omega arith, same ∙ sym (append-nil before));
    }

-- some of what was held, and of the next pair, was written
pub one_next : (l : Listing) (f : Form) (img before held now : List ℕ) (given : List (List ℕ × List ℕ)) (p : List ℕ × List ℕ) (u : Traversal) → Gave f img (given ++ p ∷ []) u → WroteFront before (held ++ text_of l p) now
    → WroteNext l (order_of f img) given before held now
one_next l f img before held now given p u h wrote =
    let more = gave_front f img (given ++ p ∷ []) u h in
    record {
      next = p ∷ [];
      rest = more.0;
      split = more.1;
      one = omega arith;
      wrote = subst (λ text. WroteFront before (held ++ text) now) (sym (append-nil (text_of l p))) wrote;
    }
