-- Pairs of hexadecimal digits that are read one after the other.
use Rattle.std.proofs.Common.{◌≡◌, ℕ, ◌<◌, ◌≤◌, List, [], ◌∷◌, ◌++◌, length, drop, Option, None, Some, Bool, true, false, take, unwrap_or, ◌-◌, refl, sym, ◌∙◌, ap, arith, if◌then◌else◌}
use Rattle.std.specs.Prelude.{IfSome}
use Rattle.std.proofs.lemmas.List.{append_assoc, length-drop, take_all}
use Rattle.std.specs.Option.{option_map}
use Rattle.std.specs.Str.{bytes_eq}
use Rattle.tdb_dump.specs.Escape.{hex_value}
use Rattle.tdb_cmdline.specs.Hex.{byte_of, byte_in_front, onto, hex_pairs, hex_bytes}

same_some : (a b : List ℕ) (o : Option (List ℕ)) → o ≡ Some a → o ≡ Some b → a ≡ b
same_some a b o p q = ap (λ x. unwrap_or x a) (sym p ∙ q)

-- the rest behind a place, as a slice shows it
pub rest_behind : (xs : List ℕ) (n : ℕ) → take (length xs - n) (drop n xs) ≡ drop n xs
rest_behind xs n = take_all (length xs - n) (drop n xs) (omega (arith, length-drop n xs))

-- nothing in front of what is left
pub none_before : (o : Option (List ℕ)) → o ≡ option_map (λ rest. [] ++ rest) o
none_before None = refl
none_before (Some bytes) = refl

-- digits that begin with no pair
no_pair : (digits : List ℕ) → 0 < length digits → byte_in_front digits ≡ None → hex_pairs digits ≡ None
no_pair [] some e = absurd (omega (arith, some))
no_pair (h ∷ []) some e = refl
no_pair (h ∷ l ∷ digits) some e = ap (λ b. onto b (hex_pairs digits)) e

pub no_pairs : (whole bytes left : List ℕ) → hex_pairs whole ≡ option_map (λ rest. bytes ++ rest) (hex_pairs left) → 0 < length left → byte_in_front left ≡ None → hex_pairs whole ≡ None
no_pairs whole bytes left e some none = e ∙ ap (option_map (λ rest. bytes ++ rest)) (no_pair left some none)

-- one more pair
one_pair : (digits : List ℕ) (b : ℕ) → byte_in_front digits ≡ Some b → hex_pairs digits ≡ option_map (λ rest. b ∷ rest) (hex_pairs (drop 2 digits))
one_pair [] b e = let wrong : None ≡ Some b = e in absurd (cc)
one_pair (h ∷ []) b e = let wrong : None ≡ Some b = e in absurd (cc)
one_pair (h ∷ l ∷ digits) b e = ap (λ x. onto x (hex_pairs digits)) e

two_maps : (bytes : List ℕ) (b : ℕ) (o : Option (List ℕ)) → option_map (λ rest. bytes ++ rest) (option_map (λ rest. b ∷ rest) o) ≡ option_map (λ rest. (bytes ++ b ∷ []) ++ rest) o
two_maps bytes b None = refl
two_maps bytes b (Some rest) = ap Some (sym (append_assoc bytes (b ∷ []) rest))

pub more_pairs : (whole bytes left more : List ℕ) (b : ℕ) → hex_pairs whole ≡ option_map (λ rest. bytes ++ rest) (hex_pairs left) → byte_in_front left ≡ Some b → more ≡ drop 2 left
    → hex_pairs whole ≡ option_map (λ rest. (bytes ++ b ∷ []) ++ rest) (hex_pairs more)
more_pairs whole bytes left more b e byte is =
    e ∙ ap (option_map (λ rest. bytes ++ rest)) (one_pair left b byte) ∙ two_maps bytes b (hex_pairs (drop 2 left)) ∙ ap (λ ds. option_map (λ rest. (bytes ++ b ∷ []) ++ rest) (hex_pairs ds)) (sym is)

-- no pair is left
pub all_pairs : (whole bytes left : List ℕ) → hex_pairs whole ≡ option_map (λ rest. bytes ++ rest) (hex_pairs left) → length left ≤ 0 → Some bytes ≡ hex_pairs whole
all_pairs whole bytes (d ∷ left) e none = absurd (omega (arith, none))
all_pairs whole bytes [] e none = sym (e ∙ ap Some (nothing bytes))
  where
    nothing : (bs : List ℕ) → bs ++ [] ≡ bs
    nothing [] = refl
    nothing (b ∷ bs) = ap (λ l. b ∷ l) (nothing bs)

-- bytes are no more than the digits that write them
onto_some : (b : Option ℕ) (o : Option (List ℕ)) (bytes : List ℕ) → onto b o ≡ Some bytes → (x : ℕ) × (rest : List ℕ) × (o ≡ Some rest) × (bytes ≡ x ∷ rest)
onto_some None o bytes e = let wrong : None ≡ Some bytes = e in absurd (cc)
onto_some (Some x) None bytes e = let wrong : None ≡ Some bytes = e in absurd (cc)
onto_some (Some x) (Some rest) bytes e = (x, rest, refl, same_some bytes (x ∷ rest) (Some (x ∷ rest)) e refl)

pairs_short : (digits bytes : List ℕ) → hex_pairs digits ≡ Some bytes → length bytes ≤ length digits
pairs_short [] bytes e = omega (arith, ap length (same_some bytes [] (Some []) e refl))
pairs_short (h ∷ []) bytes e = let wrong : None ≡ Some bytes = e in absurd (cc)
pairs_short (h ∷ l ∷ digits) bytes e =
    let p = onto_some (byte_of (hex_value h) (hex_value l)) (hex_pairs digits) bytes e in
    let rest = pairs_short digits p.1 p.2 in
    omega (arith, rest, ap length p.3)

pub no_longer : (digits : List ℕ) (o : Option (List ℕ)) → o ≡ hex_pairs digits → IfSome o (λ b. length b ≤ length digits)
no_longer digits None is = tt
no_longer digits (Some bytes) is = pairs_short digits bytes (sym is)

pub hex_short : (word bytes : List ℕ) → hex_bytes word ≡ Some bytes → length bytes ≤ length word
hex_short word bytes e = of (bytes_eq word (34 ∷ 34 ∷ [])) e
  where
    of : (b : Bool) → (if b then Some [] else hex_pairs word) ≡ Some bytes → length bytes ≤ length word
    of true e = omega (arith, ap length (same_some bytes [] (Some []) e refl))
    of false e = pairs_short word bytes e
