-- What a change of bytes leaves: a record whose bytes stay is the same record, and a list of such records is the same
-- list. The word at a record's offset, which leads to the next, is told apart from the rest of it.
use Rattle.std.proofs.Common.{◌≡◌, ℕ, ◌+◌, ◌<◌, ◌≤◌, List, [], ◌∷◌, ◌++◌, length, take, drop, refl, sym, ◌∙◌, ap, subst, inl, inr, arith}
use Rattle.std.specs.Prelude.{slice_index, ◌%◌}
use Rattle.std.specs.List.{IsDistinct}
use Rattle.std.specs.Map.{keys_of}
use Rattle.std.proofs.lemmas.Bool.{cases_lt, cases_eq, eq-eqb, ne_eqb}
use Rattle.std.proofs.lemmas.List.{same_lists, get_or_default, length-take-le, length-drop, get_or-drop, get_or-take}
use Rattle.tdb_words.specs.declared.record.TheConstants.{USED}
use Rattle.tdb_words.specs.declared.word.Order.{Order}
use Rattle.tdb_words.specs.Record.{rec_at}
use Rattle.tdb_words.specs.Word.{word}
use Rattle.tdb_words.specs.Hash.{h_of}
use Rattle.tdb_words.proofs.Words.{word_agrees}
use Rattle.tdb_space.specs.Form.{Form, data_start}
use Rattle.tdb_space.specs.Record.{IsChained, Whole, Fits, key_at, data_at, rec_len_of, key_len_of, data_len_of, full_hash_of, magic_of}
use Rattle.tdb_space.specs.Chain.{Linked, Chain}
use Rattle.tdb_space.specs.Pairs.{pair_of, pairs, same_key}
use Rattle.tdb_space.specs.Extents.{times, once, extents, extent_at}
use Rattle.tdb_space.specs.Accepted.{Filed, AllFiled, KeysDiffer}
use Rattle.tdb_space.specs.Exchange.{Agree}
use Rattle.tdb_space.proofs.Extents.Counts.{once_in, once_lies}

-- a word whose four bytes stay
pub word_kept : (o : Order) (a b : List ℕ) (at from to : ℕ) → Agree a b from to → from ≤ at → at + 4 ≤ to → word o b at ≡ word o a at
word_kept o a b at from to same low high = word_agrees o b a at (λ i above below. same i (omega arith) (omega arith))

-- a part whose bytes stay, of an image that doesn't become shorter
pub part_kept : (a b : List ℕ) (at n : ℕ) → at + n ≤ length a → length a ≤ length b → Agree a b at (at + n) → take n (drop at b) ≡ take n (drop at a)
part_kept a b at n within longer same =
    let len_b : length (take n (drop at b)) ≡ n = length-take-le n (drop at b) (omega (arith, length-drop at b)) in
    let len_a : length (take n (drop at a)) ≡ n = length-take-le n (drop at a) (omega (arith, length-drop at a)) in
    same_lists (take n (drop at b)) (take n (drop at a)) (len_b ∙ sym len_a) (λ k d below.
    (let low : k < n = omega (arith, below, len_b) in
    get_or_default (take n (drop at b)) k d 0 below ∙ get_or-take n (drop at b) k 0 low ∙ get_or-drop at b k 0 ∙ same (at + k) (omega arith) (omega arith)
    ∙ sym (get_or-drop at a k 0) ∙ sym (get_or-take n (drop at a) k 0 low) ∙ get_or_default (take n (drop at a)) k 0 d (omega (arith, low, len_a))))

-- all of the record at an offset stays, but for its next word perhaps
abbrev pub Body : List ℕ → List ℕ → Form → ℕ → Type 0
Body a b f x = Agree a b (x + 4) (x + 24 + rec_len_of f.order a x)

-- each of these records stays, but for its next word perhaps
abbrev pub Bodies : List ℕ → List ℕ → Form → List ℕ → Type 0
Bodies a b f [] = Unit {0}
Bodies a b f (x ∷ xs) = Body a b f x × Bodies a b f xs

-- the next word of each of these records stays
abbrev pub Nexts : List ℕ → List ℕ → Form → List ℕ → Type 0
Nexts a b f [] = Unit {0}
Nexts a b f (x ∷ xs) = (word f.order b x ≡ word f.order a x) × Nexts a b f xs

-- each byte of these records stays
abbrev pub Still : List ℕ → List ℕ → Form → List ℕ → Type 0
Still a b f xs = (i : ℕ) → 1 ≤ times (extents f.order a xs) i → slice_index b i ≡ slice_index a i

-- the words of a record behind its next word stay
pub record SameWords (o : Order) (a b : List ℕ) (x : ℕ) : Type 0 where
  pub rec_len : rec_len_of o b x ≡ rec_len_of o a x
  pub key_len : key_len_of o b x ≡ key_len_of o a x
  pub data_len : data_len_of o b x ≡ data_len_of o a x
  pub full_hash : full_hash_of o b x ≡ full_hash_of o a x
  pub magic : magic_of o b x ≡ magic_of o a x

pub words_kept : (f : Form) (a b : List ℕ) (x : ℕ) → Body a b f x → SameWords f.order a b x
words_kept f a b x body = record {
  rec_len = word_kept f.order a b (x + 4) (x + 4) (x + 24 + rec_len_of f.order a x) body (omega arith) (omega arith);
  key_len = word_kept f.order a b (x + 8) (x + 4) (x + 24 + rec_len_of f.order a x) body (omega arith) (omega arith);
  data_len = word_kept f.order a b (x + 12) (x + 4) (x + 24 + rec_len_of f.order a x) body (omega arith) (omega arith);
  full_hash = word_kept f.order a b (x + 16) (x + 4) (x + 24 + rec_len_of f.order a x) body (omega arith) (omega arith);
  magic = word_kept f.order a b (x + 20) (x + 4) (x + 24 + rec_len_of f.order a x) body (omega arith) (omega arith);
}

-- the record stands whole as before
pub whole_kept : (f : Form) (a b : List ℕ) (x : ℕ) → length a ≤ length b → Whole f a x → Body a b f x → Whole f b x
whole_kept f a b x longer whole body =
    let w = words_kept f a b x body in
    let len : rec_len_of f.order b x ≡ rec_len_of f.order a x = w.rec_len in
    let tail : word f.order b (x + 20 + rec_len_of f.order a x) ≡ word f.order a (x + 20 + rec_len_of f.order a x) = word_kept f.order a b (x + 20 + rec_len_of f.order a x) (x + 4) (x + 24 + rec_len_of f.order a x) body (omega arith) (omega arith) in
    record {
      aligned = whole.aligned;
      above = whole.above;
      len_aligned = ap (λ n. n % 4) len ∙ whole.len_aligned;
      len_least = omega (arith, len, whole.len_least);
      within = omega (arith, len, whole.within);
      tailer = ap (λ n. word f.order b (x + 20 + n)) len ∙ tail ∙ whole.tailer ∙ ap (λ n. 24 + n) (sym len);
    }

-- its key and its value, where they fit
pub key_kept : (f : Form) (a b : List ℕ) (x : ℕ) → length a ≤ length b → Whole f a x → Fits f.order a x → Body a b f x → key_at f.order b x ≡ key_at f.order a x
key_kept f a b x longer whole fits body =
    let w = words_kept f a b x body in
    ap (λ n. take n (drop (x + 24) b)) w.key_len
    ∙ part_kept a b (x + 24) (key_len_of f.order a x) (omega (arith, whole.within, fits)) longer (λ i low high. body i (omega arith) (omega (arith, fits)))

pub data_kept : (f : Form) (a b : List ℕ) (x : ℕ) → length a ≤ length b → Whole f a x → Fits f.order a x → Body a b f x → data_at f.order b x ≡ data_at f.order a x
data_kept f a b x longer whole fits body =
    let w = words_kept f a b x body in
    ap (λ n. take n (drop (x + 24 + key_len_of f.order b x) b)) w.data_len
    ∙ ap (λ n. take (data_len_of f.order a x) (drop (x + 24 + n) b)) w.key_len
    ∙ part_kept a b (x + 24 + key_len_of f.order a x) (data_len_of f.order a x) (omega (arith, whole.within, fits)) longer (λ i low high. body i (omega arith) (omega (arith, fits)))

-- where it is filed
pub filed_kept : (f : Form) (a b : List ℕ) (j x : ℕ) → length a ≤ length b → Whole f a x → Body a b f x → Filed f a j x → Filed f b j x
filed_kept f a b j x longer whole body filed =
    let w = words_kept f a b x body in
    let rec_len : rec_len_of f.order b x ≡ rec_len_of f.order a x = w.rec_len in
    let key_len : key_len_of f.order b x ≡ key_len_of f.order a x = w.key_len in
    let data_len : data_len_of f.order b x ≡ data_len_of f.order a x = w.data_len in
    record {
      fits = omega (arith, rec_len, key_len, data_len, filed.fits);
      hashed = w.full_hash ∙ filed.hashed ∙ ap (h_of f.hash) (sym (key_kept f a b x longer whole filed.fits body));
      placed = ap (λ h. h % f.chains) w.full_hash ∙ filed.placed;
    }

-- its pair, where it fits if it is used
pub pair_kept : (f : Form) (a b : List ℕ) (x : ℕ) → length a ≤ length b → Whole f a x → Body a b f x → (magic_of f.order a x ≡ USED → Fits f.order a x) → pair_of f.order b x ≡ pair_of f.order a x
pair_kept f a b x longer whole body fits =
    let magic : magic_of f.order b x ≡ magic_of f.order a x = (words_kept f a b x body).magic in
    elim (cases_eq (magic_of f.order a x) USED) [
      | inl used ↦
          rw (eq-eqb (magic_of f.order b x) USED (magic ∙ used)) (rw (eq-eqb (magic_of f.order a x) USED used)
          (λ i. (key_kept f a b x longer whole (fits used) body i, data_kept f a b x longer whole (fits used) body i) ∷ []))
      | inr other ↦ rw (ne_eqb (magic_of f.order b x) USED (λ e. other (sym magic ∙ e))) (rw (ne_eqb (magic_of f.order a x) USED other) refl)
    ]

-- a list of records that stay has the same extents, the same pairs, and is filed and linked as before
pub extents_kept : (f : Form) (a b : List ℕ) (xs : List ℕ) → Bodies a b f xs → extents f.order b xs ≡ extents f.order a xs
extents_kept f a b [] bodies = refl
extents_kept f a b (x ∷ xs) bodies =
    let len : rec_len_of f.order b x ≡ rec_len_of f.order a x = (words_kept f a b x bodies.0).rec_len in
    let rest = extents_kept f a b xs bodies.1 in
    λ i. (x, 24 + len i) ∷ rest i

pub filed_all_kept : (f : Form) (M : ℕ → Type 0) (a b : List ℕ) (j at : ℕ) (xs : List ℕ) → length a ≤ length b → Linked f M a at xs → Bodies a b f xs → AllFiled f a j xs → AllFiled f b j xs
filed_all_kept f M a b j at [] longer p bodies filed = tt
filed_all_kept f M a b j at (x ∷ xs) longer p bodies filed = (
  λ used. filed_kept f a b j x longer p.1 bodies.0 (filed.0 (sym (words_kept f a b x bodies.0).magic ∙ used)),
  filed_all_kept f M a b j (word f.order a x) xs longer p.3 bodies.1 filed.1,
)

pub pairs_kept : (f : Form) (M : ℕ → Type 0) (a b : List ℕ) (j at : ℕ) (xs : List ℕ) → length a ≤ length b → Linked f M a at xs → Bodies a b f xs → AllFiled f a j xs → pairs f.order b xs ≡ pairs f.order a xs
pairs_kept f M a b j at [] longer p bodies filed = refl
pairs_kept f M a b j at (x ∷ xs) longer p bodies filed =
    let here = pair_kept f a b x longer p.1 bodies.0 (λ used. (filed.0 used).fits) in
    let rest = pairs_kept f M a b j (word f.order a x) xs longer p.3 bodies.1 filed.1 in
    λ i. here i ++ rest i

pub linked_kept : (f : Form) (M : ℕ → Type 0) (a b : List ℕ) (at : ℕ) (xs : List ℕ) → length a ≤ length b → Linked f M a at xs → Bodies a b f xs → Nexts a b f xs → Linked f M b at xs
linked_kept f M a b at [] longer p bodies nexts = p
linked_kept f M a b at (x ∷ xs) longer p bodies nexts = (
  p.0,
  whole_kept f a b x longer p.1 bodies.0,
  subst M (sym (words_kept f a b x bodies.0).magic) p.2,
  subst (λ y. Linked f M b y xs) (sym nexts.0) (linked_kept f M a b (word f.order a x) xs longer p.3 bodies.1 nexts.1),
)

-- where each byte of a list's records stays, the records and what they lead to do
pub bodies_still : (f : Form) (a b : List ℕ) (xs : List ℕ) → Still a b f xs → Bodies a b f xs
bodies_still f a b [] still = tt
bodies_still f a b (x ∷ xs) still = (
  λ i low high. still i (omega (arith, once_in (extent_at f.order a x) i (omega arith) (omega arith))),
  bodies_still f a b xs (λ i held. still i (omega (arith, held))),
)

pub nexts_still : (f : Form) (a b : List ℕ) (xs : List ℕ) → Still a b f xs → Nexts a b f xs
nexts_still f a b [] still = tt
nexts_still f a b (x ∷ xs) still = (
  word_agrees f.order b a x (λ i low high. still i (omega (arith, once_in (extent_at f.order a x) i low (omega arith)))),
  nexts_still f a b xs (λ i held. still i (omega (arith, held))),
)

-- a byte that records of a list hold stands behind the heads and within the image
pub times_within : (f : Form) (M : ℕ → Type 0) (a : List ℕ) (at : ℕ) (xs : List ℕ) (i : ℕ) → Linked f M a at xs → 1 ≤ times (extents f.order a xs) i → (data_start f ≤ i) × (i < length a)
times_within f M a at [] i p held = absurd (omega (arith, held))
times_within f M a at (x ∷ xs) i p held =
    elim (cases_lt 0 (once (extent_at f.order a x) i)) [
      | inl some ↦ let lies = once_lies (extent_at f.order a x) i (omega (arith, some)) in (omega (arith, lies.0, p.1.above), omega (arith, lies.1, p.1.within))
      | inr none ↦ times_within f M a (word f.order a x) xs i p.3 (omega (arith, held, none))
    ]

-- a change outside a record leaves the record: it stands whole, and its six words are the same
pub record_left : (f : Form) (a b : List ℕ) (x : ℕ) → length a ≤ length b → Whole f a x → Agree a b x (x + 24 + rec_len_of f.order a x) → Whole f b x × (rec_at f.order b x ≡ rec_at f.order a x)
record_left f a b x longer whole same =
    let body : Body a b f x = λ i low high. same i (omega arith) high in
    let w = words_kept f a b x body in
    let next : word f.order b x ≡ word f.order a x = word_kept f.order a b x x (x + 24 + rec_len_of f.order a x) same (omega arith) (omega arith) in (
      whole_kept f a b x longer whole body,
      λ i. record { next = next i; rec_len = w.rec_len i; key_len = w.key_len i; data_len = w.data_len i; full_hash = w.full_hash i; magic = w.magic i },
    )

-- a change outside all records of a list leaves the list
pub list_left : (f : Form) (M : ℕ → Type 0) (a b : List ℕ) (at : ℕ) (xs : List ℕ) → length a ≤ length b → Linked f M a at xs → Still a b f xs → Linked f M b at xs
list_left f M a b at xs longer list still = linked_kept f M a b at xs longer list (bodies_still f a b xs still) (nexts_still f a b xs still)

-- what stays of a chain of which each byte does
pub record ChainKept (f : Form) (a b : List ℕ) (j at : ℕ) (xs : List ℕ) : Type 0 where
  pub linked : Chain f b at xs
  pub same_extents : extents f.order b xs ≡ extents f.order a xs
  pub same_pairs : pairs f.order b xs ≡ pairs f.order a xs
  pub filed : AllFiled f b j xs
  pub keys : KeysDiffer f b xs

pub chain_kept : (f : Form) (a b : List ℕ) (j at : ℕ) (xs : List ℕ) → length a ≤ length b → Chain f a at xs → AllFiled f a j xs → KeysDiffer f a xs → Still a b f xs → ChainKept f a b j at xs
chain_kept f a b j at xs longer list filed keys still =
    let bodies = bodies_still f a b xs still in
    let same = pairs_kept f IsChained a b j at xs longer list bodies filed in
    record {
      linked = list_left f IsChained a b at xs longer list still;
      same_extents = extents_kept f a b xs bodies;
      same_pairs = same;
      filed = filed_all_kept f IsChained a b j at xs longer list bodies filed;
      keys = subst (λ ps. IsDistinct same_key (keys_of ps)) (sym same) keys;
    }
