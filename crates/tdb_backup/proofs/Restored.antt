-- A file that is built from the pairs of a dump text.
use Rattle.std.proofs.Common.{◌≡◌, ℕ, ◌+◌, ◌<◌, ◌≤◌, List, [], ◌∷◌, ◌++◌, length, take, drop, get_or, append_assoc, append-nil, refl, sym, ◌∙◌, ap, subst, inl, inr, arith}
use Rattle.std.specs.Prelude.{◌-◌, ◌↔◌, IsTrue, Bool, false}
use Rattle.std.specs.List.{All, IsDistinct, AllByRecursion}
use Rattle.std.specs.Map.{keys_of}
use Rattle.std.specs.Str.{bytes_eq}
use Rattle.std.proofs.lemmas.List.{map-append, take-append-drop, take_more, drop_more, take_all, take_at, take-append-le, length-append, length-take, length-take-le}
use Rattle.std.proofs.lemmas.Bool.{cases_eq, cases_lt, lt-ltb, ltb-true, false≢true}
use Rattle.std.proofs.Math.Dec.{ltb}
use Rattle.std.proofs.lemmas.List.Elements.{All-from_recursion}
use Rattle.std.proofs.Math.Seq.{take-append-add}
use Rattle.tdb_dump.specs.declared.pairs.Pair.{Pair}
use Rattle.tdb_dump.specs.declared.reader.Reader.{Reader}
use Rattle.tdb_dump.specs.declared.reader.ReadRefusal.{ReadRefusal}
use Rattle.tdb_dump.specs.declared.reader.ReadRefusal.TheVariants as Read
use Rattle.tdb_dump.specs.Spelled as Dumps
use Rattle.tdb_dump.specs.Spelled.{IsRecord, Spelled, Dump}
use Rattle.tdb_dump.specs.BadAt.{BadAt, BeginsWith}
use Rattle.tdb_dump.specs.Taken.{RefusedAt, EndsBadlyAt, Took, shown}
use Rattle.tdb_log.specs.Logs.{Logged, ToldAll}
use Rattle.tdb_space.specs.Form.{Form}
use Rattle.tdb_space.specs.Pairs.{same_key}
use Rattle.tdb_backup.specs.declared.refusal.AddRefusal.{AddRefusal}
use Rattle.tdb_backup.specs.declared.refusal.AddRefusal.TheVariants as Add
use Rattle.tdb_backup.specs.declared.refusal.InsertRefusal.TheVariants as Insert
use Rattle.tdb_backup.specs.declared.refusal.RestoreRefusal.TheVariants.{Input, Io}
use Rattle.tdb_backup.specs.declared.restoring.TheConstants.{LONGEST_TEXT}
use Rattle.tdb_backup.specs.Building.{HoldsPairs, BackupRefused, of_added}
use Rattle.tdb_backup.specs.Growths.{CopyHeard, growths_of}
use Rattle.tdb_backup.specs.Restoring.{keys_and_values, IsShort, Restored, HoldsSome, RestoreCause, StopsAt, TextHeard, ToldSome, WentOn, of_added_pair, of_text}
use Rattle.tdb_backup.proofs.Building.{NextPair, key_is_new}

-- ---- the pairs of a text

same_keys : (pairs : List Pair) → keys_of (keys_and_values pairs) ≡ Dumps.keys_of pairs
same_keys [] = refl
same_keys (p ∷ pairs) = ap (λ t. p.key ∷ t) (same_keys pairs)

all_short : (text : List ℕ) (pairs : List Pair) → Spelled text pairs → AllByRecursion IsShort pairs
all_short text [] h = tt
all_short text (p ∷ pairs) (front, rest, split, made, h) = (record { key = made.key_fits; value = made.value_fits }, all_short rest pairs h)

all_behind : (before pairs : List Pair) → AllByRecursion IsShort (before ++ pairs) → AllByRecursion IsShort pairs
all_behind [] pairs h = h
all_behind (p ∷ before) pairs h = all_behind before pairs h.1

-- the pairs with which a text begins are short, and their keys are all different
pub begun_short : (text : List ℕ) (before pairs : List Pair) → BeginsWith text (before ++ pairs) → All IsShort pairs
begun_short text before pairs (front, rest, split, dump) = All-from_recursion IsShort pairs (all_behind before pairs (all_short front (before ++ pairs) dump.spelled))

pub begun_distinct : (text : List ℕ) (pairs : List Pair) → BeginsWith text pairs → IsDistinct same_key (keys_of (keys_and_values pairs))
begun_distinct text pairs (front, rest, split, dump) = subst (IsDistinct same_key) (sym (same_keys pairs)) dump.distinct

pub begun_more : (text more : List ℕ) (pairs : List Pair) → BeginsWith text pairs → BeginsWith (text ++ more) pairs
begun_more text more pairs (front, rest, split, dump) = (front, rest ++ more, ap (λ t. t ++ more) split ∙ append_assoc front rest more, dump)

none_distinct : IsDistinct bytes_eq []
unfolding IsDistinct
none_distinct = tt

pub begun_none : (text : List ℕ) → BeginsWith text []
begun_none text = ([], text, refl, record { spelled = refl; distinct = none_distinct })

-- ---- pair by pair

pub pairs_more : (before pairs : List Pair) (i : ℕ) (p : Pair) → i < length pairs → p ≡ get_or pairs i p
    → keys_and_values (before ++ take (i + 1) pairs) ≡ keys_and_values (before ++ take i pairs) ++ (p.key, p.value) ∷ []
pairs_more before pairs i p low is =
    ap keys_and_values (ap (λ t. before ++ t) (take_more pairs i p low ∙ ap (λ q. take i pairs ++ q ∷ []) (sym is)) ∙ sym (append_assoc before (take i pairs) (p ∷ [])))
    ∙ map-append (λ (q : Pair). (q.key, q.value)) (before ++ take i pairs) (p ∷ [])

-- the pair at a place is the next one behind those before it
pub pair_next : (before pairs : List Pair) (i : ℕ) (p : Pair) → i < length pairs → p ≡ get_or pairs i p → IsDistinct same_key (keys_of (keys_and_values (before ++ pairs)))
    → NextPair (keys_and_values (before ++ pairs)) (keys_and_values (before ++ take i pairs)) (p.key, p.value)
pair_next before pairs i p low is distinct =
    let front = before ++ take i pairs in
    let back = drop (i + 1) pairs in
    let here : drop i pairs ≡ p ∷ back = drop_more pairs i p low ∙ ap (λ q. q ∷ back) (sym is) in
    let cut : before ++ pairs ≡ front ++ p ∷ back =
    ap (λ t. before ++ t) (sym (take-append-drop i pairs) ∙ ap (λ t. take i pairs ++ t) here) ∙ sym (append_assoc before (take i pairs) (p ∷ back)) in
    let split : keys_and_values (before ++ pairs) ≡ keys_and_values front ++ (p.key, p.value) ∷ keys_and_values back =
    ap keys_and_values cut ∙ map-append (λ (q : Pair). (q.key, q.value)) front (p ∷ back) in
    record {
      rest = keys_and_values back;
      split = split;
      new = key_is_new (keys_and_values front) (p.key, p.value) (keys_and_values back) (subst (λ ps. IsDistinct same_key (keys_of ps)) split distinct);
    }

-- a pair wasn't added, or wasn't told of
pub pair_refused : (first : List ℕ) (f : Form) (img text : List ℕ) (pairs : List Pair) (limit : ℕ) (e : AddRefusal) → BeginsWith text pairs → BackupRefused first f img (keys_and_values pairs) limit (of_added e) → RestoreCause first f img text limit (of_added_pair e)
pair_refused first f img text pairs limit (Add.Insert (Insert.Full len need)) begins cause = (pairs, begins, cause)
pair_refused first f img text pairs limit (Add.Insert Insert.Io) begins cause = tt
pair_refused first f img text pairs limit (Add.Insert Insert.Memory) begins cause = (pairs, begins, cause)
pair_refused first f img text pairs limit (Add.Log refusal) begins cause = (pairs, begins, cause)

pub pair_heard : (limit : ℕ) (first : List ℕ) (f : Form) (text : List ℕ) (pairs : List Pair) (old new : List Logged) (e : AddRefusal) → BeginsWith text pairs → CopyHeard limit f first (keys_and_values pairs) old new (of_added e) → TextHeard limit f first text old new (of_added_pair e)
pair_heard limit first f text pairs old new (Add.Insert (Insert.Full len need)) begins heard = (pairs, begins, heard)
pair_heard limit first f text pairs old new (Add.Insert Insert.Io) begins heard = (pairs, begins, heard)
pair_heard limit first f text pairs old new (Add.Insert Insert.Memory) begins heard = (pairs, begins, heard)
pair_heard limit first f text pairs old new (Add.Log refusal) begins heard = (pairs, begins, heard)

-- ---- piece by piece

-- all pairs that were given are held
pub holds_given : (limit : ℕ) (first : List ℕ) (f : Form) (img text more : List ℕ) (pairs : List Pair) → BeginsWith text pairs → HoldsPairs limit first f img (keys_and_values pairs) → HoldsSome limit first f img (text ++ more)
holds_given limit first f img text more pairs begins holds =
    (pairs, begun_more text more pairs begins, record { given = keys_and_values pairs; rest = []; split = sym (append-nil (keys_and_values pairs)); holds = holds })

-- and logs heard of all growths by them
pub told_given : (limit : ℕ) (first : List ℕ) (f : Form) (text more : List ℕ) (pairs : List Pair) (old new : List Logged) → BeginsWith text pairs → ToldAll (growths_of limit f first (keys_and_values pairs)) old new → ToldSome limit f first (text ++ more) old new
told_given limit first f text more pairs old new begins told =
    (pairs, begun_more text more pairs begins, record { given = keys_and_values pairs; rest = []; split = sym (append-nil (keys_and_values pairs)); told = told })

-- a piece, and another one behind it
pub went_on : (limit : ℕ) (told later : Type 0) (f g : Form) (a b c text : List ℕ) (before : List Pair) (piece more : List ℕ) (r s : Reader) (old mid new : List Logged) → g ≡ f → (told → later)
    → (w : WentOn limit told f a b text before piece r old mid) → WentOn limit later g b c (text ++ piece) (before ++ w.pairs) more s mid new → WentOn limit told f a c text before (piece ++ more) s old new
went_on limit told later f g a b c text before piece more r s old mid new same still w there =
    let v = subst (λ x. WentOn limit later x b c (text ++ piece) (before ++ w.pairs) more s mid new) same there in
    let joined = append_assoc before w.pairs v.pairs in
    record {
      pairs = w.pairs ++ v.pairs;
      took = subst (λ t. Took t (before ++ (w.pairs ++ v.pairs)) s) (append_assoc text piece more) (subst (λ ps. Took ((text ++ piece) ++ more) ps s) joined v.took);
      holds = λ t first h. subst (λ ps. HoldsPairs limit first f c (keys_and_values ps)) joined (v.holds (still t) first (w.holds t first h));
      heard = λ t first h start so_far.
          subst (λ ps. ToldAll (growths_of limit f first (keys_and_values ps)) start new) joined (v.heard (still t) first (w.holds t first h) start (w.heard t first h start so_far));
    }

-- ---- what is read of a text

pub read_on : (text left whole buf behind now : List ℕ) (n : ℕ) → whole ≡ text ++ left → n ≤ length buf → left ≡ take n buf ++ now → whole ≡ (text ++ take n (buf ++ behind)) ++ now
read_on text left whole buf behind now n front low read =
    front ∙ ap (λ t. text ++ t) (read ∙ ap (λ t. t ++ now) (sym (take-append-le n buf behind low))) ∙ sym (append_assoc text (take n (buf ++ behind)) now)

pub longer_by : (text buf behind : List ℕ) (n : ℕ) → n ≤ length buf → length (text ++ take n (buf ++ behind)) ≡ length text + n
longer_by text buf behind n low =
    let within : n ≤ length (buf ++ behind) = omega (arith, low, length-append buf behind) in
    length-append text (take n (buf ++ behind)) ∙ ap (λ m. length text + m) (length-take-le n (buf ++ behind) within)

-- the text has ended
pub read_all : (text left whole : List ℕ) (rest : ℕ) → whole ≡ text ++ left → left ≡ [] → length text + rest ≡ LONGEST_TEXT → (text ≡ take LONGEST_TEXT whole) × (IsTrue false ↔ LONGEST_TEXT < length whole)
read_all text left whole rest front none count =
    let same : whole ≡ text = front ∙ ap (λ t. text ++ t) none ∙ append-nil text in
    let short : length whole ≤ LONGEST_TEXT = omega (arith, ap length same, count) in
    (sym (take_all LONGEST_TEXT whole short ∙ same), ((λ e. absurd (false≢true e)), (λ longer. absurd (omega (arith, longer, short)))))

-- the most was read of it, and then n bytes, if there are some
pub read_most : (text left whole buf now : List ℕ) (n : ℕ) → whole ≡ text ++ left → length text ≡ LONGEST_TEXT → n ≤ length buf → left ≡ take n buf ++ now → (n ≡ 0 → left ≡ [])
    → (text ≡ take LONGEST_TEXT whole) × (IsTrue (ltb 0 n) ↔ LONGEST_TEXT < length whole)
read_most text left whole buf now n front most low read end =
    let long : length whole ≡ LONGEST_TEXT + length left = omega (arith, ap length front, length-append text left, most) in
    let some : n ≤ length left = omega (arith, ap length read, length-append (take n buf) now, length-take-le n buf low) in (
      sym (ap (take LONGEST_TEXT) front ∙ take_at text left LONGEST_TEXT most),
      ((λ e. let more : 0 < n = ltb-true 0 n e in omega (arith, more, some, long)), (λ longer. lt-ltb 0 n (more longer))),
    )
  where
    more : LONGEST_TEXT < length whole → 0 < n
    more longer =
        let long : length whole ≡ LONGEST_TEXT + length left = omega (arith, ap length front, length-append text left, most) in
        elim (cases_eq n 0) [
          | inl e ↦ absurd (omega (arith, ap length (end e), longer, long))
          | inr ne ↦ omega (arith, ne)
        ]

-- ---- where a text stops

longest_is : LONGEST_TEXT ≡ 17179869184
longest_is = refl

bad_within : (text : List ℕ) (pairs : List Pair) (place : ℕ) → BadAt text pairs place → place ≤ length text
bad_within text pairs place bad =
    elim (bad.cause) [
      | inl repeats ↦ omega (arith, repeats.1, ap length bad.whole, length-append bad.front bad.rest)
      | inr no_record ↦ no_record.1.within
    ]

-- the place of a text that is short enough is shown as it is
shown_place : (at place : ℕ) → at ≡ shown place → place ≤ LONGEST_TEXT → at ≡ place
shown_place at place shows low = grind (arith, shows, low, longest_is)

front_of_most : (so_far more : List ℕ) → length so_far ≤ LONGEST_TEXT → take LONGEST_TEXT (so_far ++ more) ≡ so_far ++ take (LONGEST_TEXT - length so_far) more
front_of_most so_far more low =
    let n : LONGEST_TEXT ≡ length so_far + (LONGEST_TEXT - length so_far) = omega (arith, low) in
    ap (λ m. take m (so_far ++ more)) n ∙ take-append-add so_far more (LONGEST_TEXT - length so_far)

-- the reader refuses the text, whatever follows
stop_in_piece : (so_far more : List ℕ) (pairs : List Pair) (at : ℕ) → RefusedAt so_far pairs at → length so_far ≤ LONGEST_TEXT → StopsAt (so_far ++ more) pairs at
stop_in_piece so_far more pairs at (place, shows, refused) low =
    let rest = take (LONGEST_TEXT - length so_far) more in
    let within : place ≤ length so_far = subst (λ t. place ≤ length t) (append-nil so_far) (bad_within (so_far ++ []) pairs place (refused.bad [])) in
    let is : at ≡ place = shown_place at place shows (omega (arith, within, low)) in
    let bad : BadAt (so_far ++ rest) pairs at = subst (BadAt (so_far ++ rest) pairs) (sym is) (refused.bad rest) in
    record { bad = inl (subst (λ t. BadAt t pairs at) (sym (front_of_most so_far more low)) bad); never = λ others dump short. refused.never more others dump }

-- the reader refuses a piece
module _ (so_far more : List ℕ) (pairs : List Pair) (limit : ℕ) (first : List ℕ) (f : Form) (begins : BeginsWith so_far pairs) (low : length so_far ≤ LONGEST_TEXT) where
  pub text_refused : (e : ReadRefusal) → ((at : ℕ) → e ≡ Read.Malformed at → RefusedAt so_far pairs at) → (img : List ℕ) → HoldsPairs limit first f img (keys_and_values pairs) → RestoreCause first f img (so_far ++ more) limit (of_text e)
  text_refused (Read.Malformed at) malformed img holds = (pairs, stop_in_piece so_far more pairs at (malformed at refl) low, holds)
  text_refused Read.Memory malformed img holds = holds_given limit first f img so_far more pairs begins holds

  pub text_heard : (e : ReadRefusal) → ((at : ℕ) → e ≡ Read.Malformed at → RefusedAt so_far pairs at) → (old new : List Logged) → ToldAll (growths_of limit f first (keys_and_values pairs)) old new → TextHeard limit f first (so_far ++ more) old new (of_text e)
  text_heard (Read.Malformed at) malformed old new told = (pairs, stop_in_piece so_far more pairs at (malformed at refl) low, told)
  text_heard Read.Memory malformed old new told = told_given limit first f so_far more pairs old new begins told

-- the text ends badly, or where no more of it is read
stop_at_end : (text whole : List ℕ) (pairs : List Pair) (at : ℕ) → text ≡ take LONGEST_TEXT whole → EndsBadlyAt text pairs at → StopsAt whole pairs at
stop_at_end text whole pairs at front (place, shows, ends) =
    let low : length text ≤ LONGEST_TEXT = omega (arith, ap length front, length-take LONGEST_TEXT whole) in
    let within : place ≤ length text = bad_within text pairs place ends.bad in
    let is : at ≡ place = shown_place at place shows (omega (arith, within, low)) in
    let bad : BadAt text pairs at = subst (BadAt text pairs) (sym is) ends.bad in
    record {
      bad = inl (subst (λ t. BadAt t pairs at) front bad);
      never = λ others dump short. ends.never others (subst (λ t. Dump t others) (sym (front ∙ take_all LONGEST_TEXT whole short)) dump);
    }

-- the reader refuses the end
module _ (text whole : List ℕ) (pairs : List Pair) (limit : ℕ) (first : List ℕ) (f : Form) (front : text ≡ take LONGEST_TEXT whole) (begins : BeginsWith text pairs) where
  all_of : text ++ drop LONGEST_TEXT whole ≡ whole
  all_of = ap (λ t. t ++ drop LONGEST_TEXT whole) front ∙ take-append-drop LONGEST_TEXT whole

  pub end_refused : (e : ReadRefusal) → ((at : ℕ) → e ≡ Read.Malformed at → EndsBadlyAt text pairs at) → (img : List ℕ) → HoldsPairs limit first f img (keys_and_values pairs) → RestoreCause first f img whole limit (of_text e)
  end_refused (Read.Malformed at) malformed img holds = (pairs, stop_at_end text whole pairs at front (malformed at refl), holds)
  end_refused Read.Memory malformed img holds = subst (HoldsSome limit first f img) all_of (holds_given limit first f img text (drop LONGEST_TEXT whole) pairs begins holds)

  pub end_heard : (e : ReadRefusal) → ((at : ℕ) → e ≡ Read.Malformed at → EndsBadlyAt text pairs at) → (old new : List Logged) → ToldAll (growths_of limit f first (keys_and_values pairs)) old new → TextHeard limit f first whole old new (of_text e)
  end_heard (Read.Malformed at) malformed old new told = (pairs, stop_at_end text whole pairs at front (malformed at refl), told)
  end_heard Read.Memory malformed old new told = subst (λ t. ToldSome limit f first t old new) all_of (told_given limit first f text (drop LONGEST_TEXT whole) pairs old new begins told)

-- it is no fault of the outside
pub text_no_input : (e : ReadRefusal) → of_text e ≡ Input → ⊥
text_no_input (Read.Malformed at) same = cc
text_no_input Read.Memory same = cc

pub text_no_io : (e : ReadRefusal) → of_text e ≡ Io → ⊥
text_no_io (Read.Malformed at) same = cc
text_no_io Read.Memory same = cc

-- the text goes on behind the most that is read of it
pub stops_at_most : (text whole : List ℕ) (pairs : List Pair) → text ≡ take LONGEST_TEXT whole → LONGEST_TEXT < length whole → Dump text pairs → StopsAt whole pairs LONGEST_TEXT
stops_at_most text whole pairs front longer dump =
    record { bad = inr (longer, subst (λ t. Dump t pairs) front dump, refl); never = λ others d short. absurd (omega (arith, longer, short)) }

-- a text that doesn't go on is short enough
pub short_enough : (whole : List ℕ) (longer : Bool) → longer ≡ false → (LONGEST_TEXT < length whole → IsTrue longer) → length whole ≤ LONGEST_TEXT
short_enough whole longer ends goes_on =
    elim (cases_lt LONGEST_TEXT (length whole)) [
      | inl more ↦ absurd (false≢true (sym ends ∙ goes_on more))
      | inr short ↦ short
    ]

-- the text was read to its end
pub whole_dump : (text whole : List ℕ) (pairs : List Pair) → text ≡ take LONGEST_TEXT whole → length whole ≤ LONGEST_TEXT → Dump text pairs → Dump whole pairs
whole_dump text whole pairs front short dump = subst (λ t. Dump t pairs) (front ∙ take_all LONGEST_TEXT whole short) dump

pub restored_whole : (limit : ℕ) (first : List ℕ) (f : Form) (img text whole : List ℕ) (pairs : List Pair) → text ≡ take LONGEST_TEXT whole → length whole ≤ LONGEST_TEXT → Dump text pairs → HoldsPairs limit first f img (keys_and_values pairs) → Restored limit first f img whole
restored_whole limit first f img text whole pairs front short dump holds = record { pairs = pairs; dump = whole_dump text whole pairs front short dump; short = short; holds = holds }
