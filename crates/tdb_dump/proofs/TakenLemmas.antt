-- Lemmas on what a reader has taken.
use Rattle.std.proofs.Common.{◌≡◌, ◌≢◌, ℕ, ◌+◌, ◌<◌, true, false, Option, Some, None, List, [], ◌∷◌, ◌++◌, length, take, drop, get_or, refl, sym, ap, ◌∙◌, subst, arith, length-append, append_assoc}
use Rattle.std.proofs.Common.{Bool, not, ◌||◌}
use Rattle.std.proofs.lemmas.List.Recursion.{or_push}
use Rattle.tdb_dump.specs.declared.key_set.KeySet.{KeySet}
use Rattle.tdb_dump.specs.KeySet.{has}
use Rattle.std.specs.List.{list_any}
use Rattle.std.specs.Str.{bytes_eq}
use Rattle.tdb_dump.specs.declared.pairs.Pair.{Pair}
use Rattle.tdb_dump.specs.declared.partial.Field.TheVariants.{Key}
use Rattle.tdb_dump.specs.declared.partial.Step.TheVariants.{Between}
use Rattle.tdb_dump.specs.declared.partial.Partial.{Partial}
use Rattle.tdb_dump.specs.declared.reader.Reader.{Reader}
use Rattle.tdb_dump.specs.Spelled.{keys_of, has_key, Dump}
use Rattle.tdb_dump.specs.Expected.{LeadsAll, Ends, Bars, at_step}
use Rattle.tdb_dump.specs.Partial.{state_of}
use Rattle.tdb_dump.specs.BadAt.{BeginsWith}
use Rattle.tdb_dump.specs.Reading.{Going}
use Rattle.tdb_dump.specs.declared.reader.ReadRefusal.{ReadRefusal}
use Rattle.tdb_dump.specs.declared.reader.ReadRefusal.TheVariants.{Malformed, Memory}
use Rattle.tdb_dump.specs.Taken.{shown, HasKeysOf, Goes, GoesNoFurther, Took, AddsRecord, RefusedAt, EndsBadlyAt}
use Rattle.tdb_dump.proofs.ReadingLemmas.{keys_of-append, Going_begin, Going_begin-front, Going_leads_all, Going_ends, Repeats_refused, Bars_refused, Dump_going, Unfinished_going}

pub none_of : {A : Type 0} (o : Option A) → ((x : A) → o ≡ Some x → ⊥) → o ≡ None
none_of None h = refl
none_of (Some x) h = absurd (h x refl)

pub no_pairs : (pairs : List Pair) → length pairs ≡ 0 → pairs ≡ []
no_pairs [] h = refl
no_pairs (p ∷ pairs) h = absurd (omega arith)

pub append_no_pairs : (pairs : List Pair) → pairs ≡ pairs ++ []
append_no_pairs [] = refl
append_no_pairs (p ∷ pairs) = ap (λ t. p ∷ t) (append_no_pairs pairs)

pub pair_same : (p : Pair) (key value : List ℕ) → p.key ≡ key → p.value ≡ value → p ≡ record { key = key; value = value }
pair_same p key value k v = λ i. record { key = k i; value = v i }

pub false_from_not : (b : Bool) → true ≡ not b → b ≡ false
false_from_not true e = absurd (cc)
false_from_not false e = refl

-- the first byte
pub take_first : (xs : List ℕ) → 0 < length xs → take 1 xs ≡ get_or xs 0 0 ∷ []
take_first [] h = absurd (omega arith)
take_first (x ∷ xs) h = refl

pub first_and_rest : (xs : List ℕ) → 0 < length xs → xs ≡ get_or xs 0 0 ∷ drop 1 xs
first_and_rest [] h = absurd (omega arith)
first_and_rest (x ∷ xs) h = refl

-- a record at hand in the same state
pub Goes_same : (text : List ℕ) (before : List Pair) (r : Reader) (p : Partial) → state_of p ≡ state_of r.partial → Goes text before r → Goes text before (record r { partial = p })
Goes_same text before r p same goes =
    let going = subst (λ t. (g : Going text before t) × (g.front ≡ goes.going.front)) (sym same) (goes.going, refl) in
    record { going = going.0; keys = goes.keys; start = goes.start ∙ ap (λ t. shown (length t)) (sym going.1); taken = goes.taken }

-- the same keys, and a record at hand in the same state
pub Goes_stays : (text : List ℕ) (before : List Pair) (r : Reader) (p : Partial) (keys : KeySet) → state_of p ≡ state_of r.partial → ((q : List ℕ) → has keys q ≡ has r.keys q) → Goes text before r
    → Goes text before (record r { partial = p; keys = keys })
Goes_stays text before r p keys same kept goes =
    let there = Goes_same text before r p same goes in
    record {
      going = there.going;
      keys = λ q. kept q ∙ goes.keys q;
      start = there.start;
      taken = there.taken;
    }

module _ (text : List ℕ) (before : List Pair) (old new : Reader) (goes : Goes text before old) where
  pub Goes_leads : (xs : List ℕ) → LeadsAll (state_of old.partial) xs (state_of new.partial) → new.keys ≡ old.keys → new.start ≡ old.start → new.taken ≡ shown (old.taken + length xs) → Goes (text ++ xs) (before ++ []) new
  Goes_leads xs leads keys start taken =
      let next = Going_leads_all text before (state_of old.partial) (state_of new.partial) xs goes.going leads in
      subst (λ t. Goes (text ++ xs) t new) (append_no_pairs before) (record {
        going = next.0;
        keys = subst (λ k. HasKeysOf k before) (sym keys) goes.keys;
        start = start ∙ goes.start ∙ ap (λ t. shown (length t)) (sym next.1);
        taken = let was = goes.taken in omega (arith, length-append text xs);
      })

  pub Goes_ends : (c : ℕ) (pair : Pair) → Ends (state_of old.partial) c → AddsRecord old new pair → Goes (text ++ c ∷ []) (before ++ pair ∷ []) new
  Goes_ends c pair ends adds =
      let keys = adds.keys before goes.keys in
      let s = state_of old.partial in
      let fresh : has_key before s.key ≡ false = subst (λ (p : Pair). has_key before p.key ≡ false) adds.pair_is keys.0 in
      let text_after = text ++ c ∷ [] in
      let next = Going_ends text before s c goes.going ends fresh in
      let moved = subst (λ (p : Pair). (g : Going text_after (before ++ p ∷ []) (at_step Between Key [] [])) × (g.front ≡ text_after)) (sym adds.pair_is) next in
      let there = subst (λ t. (g : Going text_after (before ++ pair ∷ []) t) × (g.front ≡ text_after)) (sym adds.state) moved in
      let counted : new.taken ≡ shown (length text_after) = let was = goes.taken in let more = adds.taken in omega (arith, length-append text (c ∷ [])) in
      record {
        going = there.0;
        keys = keys.1;
        start = adds.start ∙ counted ∙ ap (λ t. shown (length t)) (sym there.1);
        taken = counted;
      }

  pub Goes_repeats : (c : ℕ) (tail : List ℕ) → Ends (state_of old.partial) c → has_key before (state_of old.partial).key ≡ true → RefusedAt (text ++ c ∷ tail) before old.start
  Goes_repeats c tail ends came = (length goes.going.front, goes.start, Repeats_refused text before (state_of old.partial) c goes.going ends came tail)

  pub Goes_barred : (c : ℕ) (tail : List ℕ) → Bars (state_of old.partial) c → RefusedAt (text ++ c ∷ tail) before old.taken
  Goes_barred c tail bars = (length text, goes.taken, Bars_refused text before (state_of old.partial) goes.going c bars tail)

pub Goes_whole : (text : List ℕ) (pairs : List Pair) (r : Reader) → Goes text pairs r → (state_of r.partial).step ≡ Between → Dump text pairs
Goes_whole text pairs r goes between = Dump_going text pairs (state_of r.partial) goes.going between

pub Goes_unfinished : (text : List ℕ) (pairs : List Pair) (r : Reader) → Goes text pairs r → (state_of r.partial).step ≢ Between → EndsBadlyAt text pairs r.taken
Goes_unfinished text pairs r goes inside = (length text, goes.taken, Unfinished_going text pairs (state_of r.partial) goes.going inside)

-- the keys with one more
pub HasKeysOf-push : (old new : KeySet) (before : List Pair) (pair : Pair) → ((q : List ℕ) → has new q ≡ (has old q || bytes_eq q pair.key)) → HasKeysOf old before → HasKeysOf new (before ++ pair ∷ [])
HasKeysOf-push old new before pair more keys q =
    let any : has_key (before ++ pair ∷ []) q ≡ (has_key before q || bytes_eq q pair.key) = ap (list_any (bytes_eq q)) (keys_of-append before pair) ∙ or_push (list_any (bytes_eq q)) (bytes_eq q) refl (λ _ _. refl) (keys_of before) pair.key in
    more q ∙ ap (λ b. b || bytes_eq q pair.key) (keys q) ∙ sym any

-- nothing was taken
pub Goes_begin : (r : Reader) → state_of r.partial ≡ at_step Between Key [] [] → ((q : List ℕ) → has r.keys q ≡ false) → r.start ≡ 0 → r.taken ≡ 0 → Goes [] [] r
Goes_begin r state none start taken =
    let begin = subst (λ t. (g : Going [] [] t) × (g.front ≡ [])) (sym state) (Going_begin, Going_begin-front) in
    record {
      going = begin.0;
      keys = none;
      start = start ∙ ap (λ t. shown (length t)) (sym begin.1);
      taken = taken;
    }

-- the text begins with the records whose pairs were given, however it goes on
pub Goes_begins : (text more : List ℕ) (pairs : List Pair) (r : Reader) → Goes text pairs r → BeginsWith (text ++ more) pairs
Goes_begins text more pairs r goes =
    let g = goes.going in
    (g.front, g.part ++ more, ap (λ t. t ++ more) g.whole ∙ append_assoc g.front g.part more, g.records)

pub Took_begin : (r : Reader) → Goes [] [] r → r.refusal ≡ None → Took [] [] r
Took_begin r goes none = record {
  begins = Goes_begins [] [] [] r goes;
  goes = λ _. goes;
  refused = λ at e. absurd (cc);
  wanting = λ e. absurd (cc);
}

-- a reader refuses a piece behind a text
pub Took_refused : (text : List ℕ) (pairs : List Pair) (r : Reader) (e : ReadRefusal) → BeginsWith text pairs → ((at : ℕ) → e ≡ Malformed at → RefusedAt text pairs at)
    → (e ≡ Memory → GoesNoFurther text pairs r) → Took text pairs (record r { refusal = Some e })
Took_refused text pairs r e begins malformed wanting = record {
  begins = begins;
  goes = λ none. absurd (cc);
  refused = λ at is. malformed at (cc);
  wanting = λ is.
      (let (front, rest, split, goes) = wanting (cc) in
      (front, rest, split, record { going = goes.going; keys = goes.keys; start = goes.start; taken = goes.taken }));
}
