-- The text of bytes run by run: those that stand as they are are copied at once.
use Rattle.std.proofs.Common.{◌≡◌, ◌<◌, ◌+◌, ◌-◌, ℕ, List, [], ◌∷◌, ◌++◌, length, take, drop, true, cond, Result, Ok, Err, OnOk, refl, sym, ◌∙◌, ap}
use Rattle.std.specs.Prelude.{slice_index}
use Rattle.std.specs.Result.{is_ok}
use Rattle.std.proofs.Math.Seq.{take-add, take-length}
use Rattle.std.proofs.lemmas.List.{drop_more, length-drop, append_assoc}
use Rattle.std.proofs.lemmas.List.Concat.{flat_map-cons}
use Rattle.std.proofs.lemmas.Grind.{flat_map-append}
use Rattle.tdb_dump.specs.Escape.{is_plain, escaped_byte, escaped}

-- the text of two parts
pub escaped_add : (n m : ℕ) (bs : List ℕ) → escaped (take (n + m) bs) ≡ escaped (take n bs) ++ escaped (take m (drop n bs))
escaped_add n m bs = ap escaped (take-add n m bs) ∙ flat_map-append escaped_byte (take n bs) (take m (drop n bs))

-- a plain byte is its own text
plain_byte : (b : ℕ) → is_plain b ≡ true → escaped_byte b ≡ b ∷ []
unfolding escaped_byte
plain_byte b plain = rw plain refl

-- one more plain byte
pub one_plain : (n : ℕ) (bs : List ℕ) → n < length bs → is_plain (slice_index bs n) ≡ true → escaped (take n bs) ≡ take n bs → escaped (take (n + 1) bs) ≡ take (n + 1) bs
one_plain n bs low plain so =
    let b = slice_index bs n in
    let last : take (n + 1) bs ≡ take n bs ++ b ∷ [] = take-add n 1 bs ∙ ap (λ l. take n bs ++ take 1 l) (drop_more bs n 0 low) in
    let one : escaped (b ∷ []) ≡ b ∷ [] = flat_map-cons escaped_byte b [] ∙ ap (λ t. t ++ []) (plain_byte b plain) in
    ap escaped last ∙ flat_map-append escaped_byte (take n bs) (b ∷ []) ∙ ap (λ t. t ++ escaped (b ∷ [])) so ∙ ap (λ t. take n bs ++ t) one ∙ sym last

-- one run more: what is left of the bytes is the rest behind those so far
pub run_put : (bs old mid new : List ℕ) (done n : ℕ) → mid ≡ old ++ escaped (take done bs) → new ≡ mid ++ escaped (take n (take (length bs - done) (drop done bs))) → new ≡ old ++ escaped (take (done + n) bs)
run_put bs old mid new done n before more =
    let whole : take (length bs - done) (drop done bs) ≡ drop done bs = ap (λ k. take k (drop done bs)) (sym (length-drop done bs)) ∙ take-length (drop done bs) in
    more
    ∙ ap (λ t. t ++ escaped (take n (take (length bs - done) (drop done bs)))) before
    ∙ append_assoc old (escaped (take done bs)) (escaped (take n (take (length bs - done) (drop done bs))))
    ∙ ap (λ t. old ++ t) (ap (λ l. escaped (take done bs) ++ escaped (take n l)) whole ∙ sym (escaped_add done n bs))

-- a text behind which two counted fields and an end were put, which are these bytes together
pub fields_put : {V E : Type 0} (r : Result V E) (old mid next new front count between key gap size value end whole : List ℕ)
    → mid ≡ old ++ front ++ count ++ between ++ key → next ≡ mid ++ gap ++ size ++ between ++ value → new ≡ cond (is_ok r) (next ++ end) next
    → front ++ (count ++ (between ++ (key ++ (gap ++ (size ++ (between ++ (value ++ end))))))) ≡ whole → OnOk r (new ≡ old ++ whole)
fields_put (Ok v) old mid next new front count between key gap size value end whole first second third are =
    third ∙ ap (λ t. t ++ end) (second ∙ ap (λ t. t ++ gap ++ size ++ between ++ value) first) ∙ (simp append_assoc) ∙ ap (λ t. old ++ t) are
fields_put (Err e) old mid next new front count between key gap size value end whole first second third are = tt

-- two lines between an opening and a closing text, by their parts
pub pair_parts : (opening label paren count between key quote newline other size value closing : List ℕ)
    → (opening ++ label ++ paren) ++ (count ++ (between ++ (key ++ ((quote ++ newline ++ other ++ paren) ++ (size ++ (between ++ (value ++ (quote ++ closing))))))))
    ≡ opening ++ (label ++ paren ++ count ++ between ++ key ++ quote) ++ newline ++ (other ++ paren ++ size ++ between ++ value ++ quote) ++ closing
pair_parts opening label paren count between key quote newline other size value closing = simp append_assoc
