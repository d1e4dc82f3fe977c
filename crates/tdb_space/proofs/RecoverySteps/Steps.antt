-- The steps of a recovery, as images: each leaves one that is undone alike, or the restored one with a tail, or the
-- restored one.
use Rattle.std.proofs.Common.{◌≡◌, ℕ, ◌+◌, ◌<◌, ◌≤◌, ◌⊎◌, Bool, false, List, length, refl, sym, ◌∙◌, ap, subst, inl, inr, arith}
use Rattle.std.specs.Prelude.{slice_index, ◌%◌, nat_le, if◌then◌else◌}
use Rattle.std.proofs.lemmas.Bool.{cases_lt, le-leb, lt-leb}
use Rattle.std.proofs.lemmas.Grind.{same_number_lists}
use Rattle.tdb_words.specs.Word.{word}
use Rattle.tdb_words.proofs.Words.{word_agrees}
use Rattle.tdb_space.specs.Form.{Form, data_start}
use Rattle.tdb_space.specs.Record.{rec_len_of, magic_of}
use Rattle.tdb_space.specs.Extents.{times, area}
use Rattle.tdb_space.specs.Accepted.{AreaInPlace, AreaOk, Shut}
use Rattle.tdb_space.specs.Opening.{entries, Undoable, lies_in, last_covering, given_back, undone_byte, restored}
use Rattle.tdb_space.specs.Undoing.{area_at, area_end, old_size, UndoneAlike, Written, TailOf}
use Rattle.tdb_space.specs.RecoverySteps.{IsHarmless, BlankPast, Behind, TailAt, Emptied, ZerosBehind, StepsAreTails, StaysAlike}
use Rattle.tdb_space.proofs.Accepted.Fresh.{word_zero}
use Rattle.tdb_space.proofs.Gate.Contents.{area_not}
use Rattle.tdb_space.proofs.Opening.Undone.{undone_read, undone_length, old_length, read_undone}
use Rattle.tdb_space.proofs.Undoing.Alike.{where_lies, alike_self, alike_shrunk}
use Rattle.tdb_space.proofs.Undoing.Alike.LiesIn.{within, before, behind}

-- a byte that lies in no part of a range, and one that lies in it
out_of_range : (from count i : ℕ) → (i < from) ⊎ (from + count ≤ i) → lies_in from count i ≡ false
out_of_range from count i out = elim (where_lies from count i) [ within high low _ ↦ elim out [ inl lt ↦ absurd (omega arith) | inr le ↦ absurd (omega arith) ] | before _ none ↦ none | behind _ none ↦ none ]

module _ (f : Form) (a : List ℕ) (u : Undoable f a) where
  abbrev x : ℕ
  x = area_at f a

  behind_heads : 172 ≤ x
  behind_heads = omega (arith, u.in_place.above)

  -- a byte of the restored image, by where it stands
  pub restored_length : length (restored f a) ≡ old_size f a
  restored_length = ap length (read_undone f a u) ∙ undone_length f.order a x (entries f a)

  restored_byte : (i : ℕ) → i < old_size f a → slice_index (restored f a) i ≡ undone_byte f.order a x (entries f a) i
  restored_byte i low = ap (λ r. slice_index r i) (read_undone f a u) ∙ undone_read f.order a x (entries f a) i low

  pub restored_given : (i : ℕ) → i < old_size f a → (i < 44) ⊎ (48 ≤ i) → (i < area_at f a) ⊎ (area_end f a ≤ i) → slice_index (restored f a) i ≡ given_back (last_covering (entries f a) i) i (slice_index a i)
  restored_given i low beside outside =
      restored_byte i low
      ∙ rw (out_of_range (x + 20) 4 i (elim outside [ inl lt ↦ inl (omega arith) | inr le ↦ inr (omega arith) ]))
      (rw (out_of_range 44 4 i (elim beside [ inl lt ↦ inl lt | inr le ↦ inr le ]))
      (rw (out_of_range x (24 + rec_len_of f.order a x) i (elim outside [ inl lt ↦ inl lt | inr le ↦ inr (omega arith) ])) refl))

  pub restored_gate : (i : ℕ) → i < old_size f a → area_at f a + 20 ≤ i → i < area_at f a + 24 → slice_index (restored f a) i ≡ 0
  restored_gate i low from to =
      restored_byte i low ∙ elim (where_lies (x + 20) 4 i) [ within _ _ in_it ↦ rw in_it refl | before under _ ↦ absurd (omega arith) | behind over _ ↦ absurd (omega arith) ]

  pub restored_area : (i : ℕ) → i < old_size f a → area_at f a ≤ i → i < area_end f a → (i < area_at f a + 20) ⊎ (area_at f a + 24 ≤ i) → slice_index (restored f a) i ≡ slice_index a i
  restored_area i low from to off_gate =
      restored_byte i low
      ∙ rw (out_of_range (x + 20) 4 i (elim off_gate [ inl lt ↦ inl lt | inr le ↦ inr (omega arith) ]))
      (rw (out_of_range 44 4 i (inr (omega arith)))
      (elim (where_lies x (24 + rec_len_of f.order a x) i) [ within _ _ in_it ↦ rw in_it refl | before under _ ↦ absurd (omega arith) | behind over _ ↦ absurd (omega arith) ]))

  -- the word at 44: it is 0 where the area stands at the old length or behind it, and else stays
  restored_there : (i : ℕ) → 44 ≤ i → i < 48 → (b : Bool) → nat_le (old_size f a) (area_at f a) ≡ b → slice_index (restored f a) i ≡ (if b then 0 else slice_index a i)
  restored_there i from to b e =
      restored_byte i (omega (arith, to, (old_length f a u).above))
      ∙ rw (out_of_range (x + 20) 4 i (inl (omega arith)))
      (elim (where_lies 44 4 i) [ within _ _ in_it ↦ rw in_it (rw e refl) | before under _ ↦ absurd (omega arith) | behind over _ ↦ absurd (omega arith) ])

  pub restored_head : old_size f a ≤ area_at f a → (i : ℕ) → 44 ≤ i → i < 48 → slice_index (restored f a) i ≡ 0
  restored_head past i from to = restored_there i from to _ (le-leb (old_size f a) (area_at f a) past)

  pub restored_stays : area_at f a < old_size f a → (i : ℕ) → 44 ≤ i → i < 48 → slice_index (restored f a) i ≡ slice_index a i
  restored_stays low i from to = restored_there i from to _ (lt-leb (old_size f a) (area_at f a) low)

  pub restored_no_area : old_size f a ≤ area_at f a → word f.order (restored f a) 44 ≡ 0
  restored_no_area past = word_zero f.order (restored f a) 44 (restored_head past)

  -- all is written, the image is cut to the old length, and the gate is shut: it is the restored one
  pub low_exact : (b c : List ℕ) → area_at f a < old_size f a → Written f a b → length c ≡ old_size f a → ((i : ℕ) → i < old_size f a → (i < area_at f a + 20) ⊎ (area_at f a + 24 ≤ i) → slice_index c i ≡ slice_index b i) → ((i : ℕ) → area_at f a + 20 ≤ i → i < area_at f a + 24 → slice_index c i ≡ 0) → c ≡ restored f a
  low_exact b c low w size same gate =
      same_number_lists c (restored f a) (size ∙ sym restored_length) (λ i under. each i (omega (arith, under, size)))
    where
      apart : area_end f a ≤ old_size f a
      apart = (old_length f a u).apart low

      in_area : (i : ℕ) → i < old_size f a → area_at f a ≤ i → i < area_end f a → slice_index c i ≡ slice_index (restored f a) i
      in_area i under from to =
          elim (cases_lt i (area_at f a + 20)) [
            | inl before_gate ↦ same i under (inl before_gate) ∙ w.area_bytes i from to ∙ sym (restored_area i under from to (inl before_gate))
            | inr high ↦
                elim (cases_lt i (area_at f a + 24)) [
                  | inl on_gate ↦ gate i high on_gate ∙ sym (restored_gate i under high on_gate)
                  | inr past_gate ↦ same i under (inr past_gate) ∙ w.area_bytes i from to ∙ sym (restored_area i under from to (inr past_gate))
                ]
          ]

      beside_area : (i : ℕ) → i < old_size f a → (i < area_at f a) ⊎ (area_end f a ≤ i) → slice_index c i ≡ slice_index b i
      beside_area i under out = same i under (elim out [ inl lt ↦ inl (omega arith) | inr le ↦ inr (omega arith) ])

      given : (i : ℕ) → i < old_size f a → (i < 44) ⊎ (48 ≤ i) → (i < area_at f a) ⊎ (area_end f a ≤ i) → slice_index c i ≡ slice_index (restored f a) i
      given i under off out = beside_area i under out ∙ w.inside i under off out ∙ sym (restored_given i under off out)

      outside : (i : ℕ) → i < old_size f a → (i < area_at f a) ⊎ (area_end f a ≤ i) → slice_index c i ≡ slice_index (restored f a) i
      outside i under out =
          elim (cases_lt i 44) [
            | inl front ↦ given i under (inl front) out
            | inr from ↦
                elim (cases_lt i 48) [
                  | inl to ↦ beside_area i under out ∙ w.there i from to ∙ sym (restored_stays low i from to)
                  | inr past ↦ given i under (inr past) out
                ]
          ]

      each : (i : ℕ) → i < old_size f a → slice_index c i ≡ slice_index (restored f a) i
      each i under =
          elim (cases_lt i (area_at f a)) [
            | inl before_area ↦ outside i under (inl before_area)
            | inr from ↦ elim (cases_lt i (area_end f a)) [ inl to ↦ in_area i under from to | inr past ↦ outside i under (inr past) ]
          ]

  -- where the area stands at the old length or behind it, it stands behind the restored image
  pub area_behind : old_size f a ≤ area_at f a → Behind f (restored f a) (area_at f a) (area_end f a)
  area_behind past = record {
    aligned = u.in_place.aligned;
    end_aligned = omega (arith, u.in_place.aligned, u.in_place.len_aligned);
    long = omega (arith, restored_length, (old_length f a u).above);
    past = omega (arith, restored_length, past);
    room = omega arith;
  }

  -- all is written, and zeros stand from the old length on: once the gate is shut, the restored image stands in front
  pub tail_shut : (b c : List ℕ) → old_size f a ≤ area_at f a → length a % 4 ≡ 0 → Written f a b → BlankPast f a b → length c ≡ length b → ((i : ℕ) → (i < area_at f a + 20) ⊎ (area_at f a + 24 ≤ i) → slice_index c i ≡ slice_index b i) → ((i : ℕ) → area_at f a + 20 ≤ i → i < area_at f a + 24 → slice_index c i ≡ 0) → TailAt f (restored f a) (area_at f a) (area_end f a) c
  tail_shut b c past words w blank size same gate =
      let rec_len : rec_len_of f.order c x ≡ rec_len_of f.order a x = word_agrees f.order c a (x + 4) (λ i from to. same i (inl (omega (arith, to))) ∙ w.area_bytes i (omega (arith, from)) (omega (arith, to))) in
      record {
        sized = ap (λ n. n % 4) (size ∙ w.sized) ∙ words;
        reach = omega (arith, size, w.sized, u.in_place.within);
        front = λ i under beside. (let low : i < old_size f a = omega (arith, under, restored_length) in same i (inl (omega (arith, low, past))) ∙ w.inside i low beside (inl (omega (arith, low, past))) ∙ sym (restored_given i low beside (inl (omega (arith, low, past)))));
        there = word_agrees f.order c a 44 (λ i from to. same i (inl (omega (arith, to, behind_heads))) ∙ w.there i from to);
        gate = gate;
        zeros = λ i from to out. same i (elim out [ inl lt ↦ inl (omega arith) | inr le ↦ inr (omega arith) ]) ∙ blank i (omega (arith, from, restored_length)) (omega (arith, to, size)) out;
        len = omega (arith, rec_len);
      }

-- what is written over an image that is undone alike, at harmless places, is undone alike
pub alike_torn : (f : Form) (a c d : List ℕ) (places : ℕ → Bool) → IsHarmless f a places → UndoneAlike f a c → length d ≡ length c → ((i : ℕ) → places i ≡ false → slice_index d i ≡ slice_index c i) → UndoneAlike f a d
alike_torn f a c d places h s size same = record {
  sized = ap (λ n. n % 4) size ∙ s.sized;
  reach = omega (arith, size, s.reach);
  room = omega (arith, size, s.room);
  area_bytes = λ i from to. same i (h.area_bytes i from to) ∙ s.area_bytes i from to;
  front = λ i where_at. same i (h.front i where_at) ∙ s.front i where_at;
  others = λ i low none. same i (h.others i low none) ∙ s.others i low none;
}

pub stays_alike : (f : Form) (a : List ℕ) → Undoable f a → StaysAlike f a
stays_alike f a u = record {
  itself = λ sized. alike_self f a sized u;
  torn = λ c d places. alike_torn f a c d places;
  cut = λ c d low s. alike_shrunk f a c d u low s;
}

-- a byte that no undo area holds stands before it or behind it
area_beside : (f : Form) (c : List ℕ) (x i : ℕ) → word f.order c 44 ≡ x → 1 ≤ x → times (area f.order c) i ≡ 0 → (i < x) ⊎ (x + 24 + rec_len_of f.order c x ≤ i)
area_beside f c x i there some none =
    let len : rec_len_of f.order c (word f.order c 44) ≡ rec_len_of f.order c x = ap (rec_len_of f.order c) there in
    elim (area_not f c i (λ gone. absurd (omega (arith, gone, there, some))) none) [ inl low ↦ inl (omega (arith, low, there)) | inr past ↦ inr (omega (arith, past, there, len)) ]

-- an undo area whose length is a whole number of words and whose gate is shut
module _ (f : Form) (r : List ℕ) (x e : ℕ) (c : List ℕ) (b : Behind f r x e) where
  shut_there : length c % 4 ≡ 0 → e ≤ length c → word f.order c 44 ≡ x → ((i : ℕ) → x + 20 ≤ i → i < x + 24 → slice_index c i ≡ 0) → (rec_len_of f.order c x + (x + 24) ≡ e) ⊎ (rec_len_of f.order c x ≡ 0) → AreaOk f c × Shut f c
  shut_there sized reach there gate len =
      let closed : magic_of f.order c x ≡ 0 = word_zero f.order c (x + 20) (λ i from to. gate i from (omega (arith, to))) in
      let in_place : AreaInPlace f c x = record {
        aligned = b.aligned;
        above = omega (arith, b.long, b.past);
        len_aligned = elim len [ inl full ↦ omega (arith, full, b.aligned, b.end_aligned) | inr empty ↦ omega (arith, empty) ];
        within = elim len [ inl full ↦ omega (arith, full, reach) | inr empty ↦ omega (arith, empty, b.room, reach) ];
        gate = inr closed;
      } in (inr (subst (AreaInPlace f c) (sym there) in_place), inr (ap (magic_of f.order c) there ∙ closed))

  pub shut_is_tail : TailAt f r x e c → TailOf f r c
  shut_is_tail t =
      let shut = shut_there t.sized t.reach t.there t.gate (inl t.len) in
      record {
        longer = omega (arith, b.past, b.room, t.reach);
        sized = t.sized;
        front = t.front;
        area_ok = shut.0;
        shut = shut.1;
        behind = inr (omega (arith, t.there, b.past));
        zeros = λ i from to out. t.zeros i from to (elim (area_beside f c x i t.there (omega (arith, b.long, b.past)) out) [ inl lt ↦ inl lt | inr le ↦ inr (omega (arith, le, t.len)) ]);
      }

  pub emptied_is_tail : Emptied f r x e c → TailOf f r c
  emptied_is_tail t =
      let shut = shut_there t.sized t.reach t.there t.gate t.len in
      record {
        longer = omega (arith, b.past, b.room, t.reach);
        sized = t.sized;
        front = t.front;
        area_ok = shut.0;
        shut = shut.1;
        behind = inr (omega (arith, t.there, b.past));
        zeros = λ i from to out. t.zeros i from to (elim (area_beside f c x i t.there (omega (arith, b.long, b.past)) out) [ inl lt ↦ inl lt | inr le ↦ inr (omega (arith, le)) ]);
      }

-- zeros behind it
pub blank_is_tail : (f : Form) (r c : List ℕ) → data_start f ≤ length r → ZerosBehind r c → TailOf f r c
blank_is_tail f r c long z =
    let none : word f.order c 44 ≡ 0 = word_zero f.order c 44 z.head in
    record { longer = z.longer; sized = z.sized; front = z.front; area_ok = inl none; shut = inl none; behind = inl none; zeros = λ i from to _. z.zeros i from to }

pub steps_are_tails : (f : Form) (r : List ℕ) (x e : ℕ) (c : List ℕ) → StepsAreTails f r x e c
steps_are_tails f r x e c = record { shut = λ b. shut_is_tail f r x e c b; emptied = λ b. emptied_is_tail f r x e c b; blank = blank_is_tail f r c }
