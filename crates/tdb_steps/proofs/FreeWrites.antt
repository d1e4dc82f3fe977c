-- What the writes that make a stretch free put there.
use Rattle.std.proofs.Common.{◌≡◌, ℕ, ◌+◌, ◌-◌, ◌<◌, ◌≤◌, List, length, take, replicate, add-zero, refl, sym, ◌∙◌, ap, subst, inl, inr, arith}
use Rattle.std.specs.Prelude.{slice_index}
use Rattle.std.proofs.lemmas.List.{length-take-le, length-replicate, get_or-take, get_or-replicate}
use Rattle.tdb_disk.specs.Image.{overlay}
use Rattle.tdb_disk.specs.Stop.{Torn}
use Rattle.tdb_disk.proofs.Image.{length-overlay, overlay_below, overlay_above, overlay_in}
use Rattle.tdb_words.specs.declared.word.Order.{Order}
use Rattle.tdb_words.specs.Word.{word}
use Rattle.tdb_words.specs.Record.{rec_at}
use Rattle.tdb_words.proofs.Words.{word_agrees}
use Rattle.tdb_space.specs.Form.{Form, data_start, free_head}
use Rattle.tdb_space.proofs.Exchange.Overlaid.{word_overlaid}
use Rattle.tdb_free.specs.Shortened.{free_record}
use Rattle.tdb_steps.specs.declared.wiping.AreaBounds.{AreaBounds}
use Rattle.tdb_steps.specs.Wiped.{MadeFree, BoundsStand, AroundStays, FreedAround}
use Rattle.tdb_steps.specs.Wiped.MadeFree.{as_record, as_zeros}

-- the first of so many zeros
abbrev pub zeros_of : ℕ → ℕ → List ℕ
zeros_of n m = take n (replicate m 0)

pub zeros_long : (n m : ℕ) → n ≤ m → length (zeros_of n m) ≡ n
zeros_long n m fits = length-take-le n (replicate {A = ℕ} m 0) (omega (arith, fits, length-replicate {A = ℕ} m 0))

pub zero_there : (n m k : ℕ) → n ≤ m → k < n → slice_index (zeros_of n m) k ≡ 0
zero_there n m k fits low = get_or-take n (replicate {A = ℕ} m 0) k 0 low ∙ get_or-replicate m k 0 0 (omega (arith, fits, low))

-- a write changes its range at most
pub put_torn : (a : List ℕ) (at : ℕ) (bytes : List ℕ) (n : ℕ) → length bytes ≡ n → Torn at n a (overlay a at bytes)
put_torn a at bytes n long = record {
  size = length-overlay a at bytes;
  below = λ i low. overlay_below a at bytes i low;
  above = λ i high. overlay_above a at bytes i (omega (arith, high, long));
}

pub torn_put : (a b : List ℕ) (at : ℕ) (bytes : List ℕ) (n : ℕ) → length bytes ≡ n → b ≡ overlay a at bytes → Torn at n a b
torn_put a b at bytes n long put = subst (Torn at n a) (sym put) (put_torn a at bytes n long)

pub torn_wider : (at n from m : ℕ) (a b : List ℕ) → from ≤ at → at + n ≤ from + m → Torn at n a b → Torn from m a b
torn_wider at n from m a b low high t = record { size = t.size; below = λ i under. t.below i (omega (arith, under, low)); above = λ i over. t.above i (omega (arith, over, high)) }

pub torn_then : (at n : ℕ) (a b c : List ℕ) → Torn at n a b → Torn at n b c → Torn at n a c
torn_then at n a b c one two = record { size = two.size ∙ one.size; below = λ i low. two.below i low ∙ one.below i low; above = λ i high. two.above i high ∙ one.above i high }

pub torn_none : (at n : ℕ) (a b : List ℕ) → b ≡ a → Torn at n a b
torn_none at n a b same = record { size = ap length same; below = λ i _. ap (λ x. slice_index x i) same; above = λ i _. ap (λ x. slice_index x i) same }

-- a short stretch was made zero
pub blanked : (f : Form) (a : List ℕ) (from n next : ℕ) → n < 28 → from + n ≤ length a → MadeFree f a (overlay a from (zeros_of n 28)) from n next next
blanked f a from n next short within =
    let long : length (zeros_of n 28) ≡ n = zeros_long n 28 (omega (arith, short)) in
    as_zeros short
    (λ i low high.
    overlay_in a from (zeros_of n 28) i low (omega (arith, high, long)) (omega (arith, high, within))
    ∙ zero_there n 28 (i - from) (omega (arith, short)) (omega (arith, low, high)))
    refl

rec_agrees : (o : Order) (x y : List ℕ) (at : ℕ) → ((i : ℕ) → at ≤ i → i < at + 24 → slice_index x i ≡ slice_index y i) → rec_at o x at ≡ rec_at o y at
rec_agrees o x y at same = λ j. record {
  next = word_agrees o x y at (λ i low high. same i low (omega (arith, high))) j;
  rec_len = word_agrees o x y (at + 4) (λ i low high. same i (omega (arith, low)) (omega (arith, high))) j;
  key_len = word_agrees o x y (at + 8) (λ i low high. same i (omega (arith, low)) (omega (arith, high))) j;
  data_len = word_agrees o x y (at + 12) (λ i low high. same i (omega (arith, low)) (omega (arith, high))) j;
  full_hash = word_agrees o x y (at + 16) (λ i low high. same i (omega (arith, low)) (omega (arith, high))) j;
  magic = word_agrees o x y (at + 20) (λ i low high. same i (omega (arith, low)) (omega (arith, high))) j;
}

-- a header that was written is read back
rec_overlaid : (o : Order) (a : List ℕ) (at : ℕ) (header : List ℕ) → length header ≡ 24 → at + 24 ≤ length a → rec_at o (overlay a at header) at ≡ rec_at o header 0
rec_overlaid o a at header long within = λ j. record {
  next = (ap (word o (overlay a at header)) (sym (add-zero at)) ∙ there 0 (omega arith)) j;
  rec_len = there 4 (omega arith) j;
  key_len = there 8 (omega arith) j;
  data_len = there 12 (omega arith) j;
  full_hash = there 16 (omega arith) j;
  magic = there 20 (omega arith) j;
}
  where
    there : (k : ℕ) → k + 4 ≤ 24 → word o (overlay a at header) (at + k) ≡ word o header k
    there k low = word_overlaid o a at header k (omega (arith, low, long)) (omega (arith, long, within))

-- the header and the tailer of a record were written
module _ (f : Form) (a : List ℕ) (from n next : ℕ) (header tailer : List ℕ) (header_long : length header ≡ 24) (tailer_long : length tailer ≡ 4) (long : 28 ≤ n) (within : from + n ≤ length a) where
  abbrev mid : List ℕ
  mid = overlay a from header

  pub header_torn : Torn from n a mid
  header_torn = torn_wider from 24 from n a mid (omega arith) (omega (arith, long)) (put_torn a from header 24 header_long)

  pub both_torn : Torn from n a (overlay mid (from + n - 4) tailer)
  both_torn =
      torn_then from n a mid (overlay mid (from + n - 4) tailer) header_torn
      (torn_wider (from + n - 4) 4 from n mid (overlay mid (from + n - 4) tailer) (omega (arith, long)) (omega (arith, long)) (put_torn mid (from + n - 4) tailer 4 tailer_long))

  pub record_freed : rec_at f.order header 0 ≡ free_record next (n - 24) → word f.order tailer 0 ≡ n → MadeFree f a (overlay mid (from + n - 4) tailer) from n next from
  record_freed says tail =
      as_record long
      (rec_agrees f.order (overlay mid (from + n - 4) tailer) mid from (λ i low high. overlay_below mid (from + n - 4) tailer i (omega (arith, high, long)))
      ∙ rec_overlaid f.order a from header header_long (omega (arith, long, within)) ∙ says)
      (ap (word f.order (overlay mid (from + n - 4) tailer)) (sym (add-zero (from + n - 4)))
      ∙ word_overlaid f.order mid (from + n - 4) tailer 0 (omega (arith, tailer_long)) (omega (arith, tailer_long, long, within, length-overlay a from header))
      ∙ tail)
      (λ i low high. overlay_below mid (from + n - 4) tailer i (omega (arith, high)) ∙ overlay_above a from header i (omega (arith, low, header_long)))
      refl

-- a stretch that was made free is so in other images with the same bytes there
pub made_moved : (f : Form) (a c b d : List ℕ) (at n next first : ℕ) → ((i : ℕ) → at ≤ i → i < at + n → slice_index a i ≡ slice_index c i)
    → ((i : ℕ) → at ≤ i → i < at + n → slice_index d i ≡ slice_index b i) → MadeFree f a b at n next first → MadeFree f c d at n next first
made_moved f a c b d at n next first same then (as_record long header tailer kept begins) =
    as_record long
    (rec_agrees f.order d b at (λ i low high. then i low (omega (arith, high, long))) ∙ header)
    (word_agrees f.order d b (at + n - 4) (λ i low high. then i (omega (arith, low, long)) (omega (arith, high, long))) ∙ tailer)
    (λ i low high. then i (omega (arith, low)) (omega (arith, high)) ∙ kept i low high ∙ same i (omega (arith, low)) (omega (arith, high)))
    begins
made_moved f a c b d at n next first same then (as_zeros short zeros begins) = as_zeros short (λ i low high. then i low high ∙ zeros i low high) begins

-- the stretch behind the undo area, then the one before it, and then the head of the free list
module _ (f : Form) (a m n b : List ℕ) (p : AreaBounds) (start len : ℕ) (start_is : start ≡ data_start f) (len_is : length a ≡ len) (B : BoundsStand f len p) (T : Torn p.to (len - p.to) a m) (U : Torn start (p.from - start) m n) (V : Torn free_head 4 n b) where
  pub around_still : AroundStays f a b p
  around_still = record {
    size = V.size ∙ U.size ∙ T.size;
    low = λ i low beside.
        elim beside [ inl under ↦ V.below i under | inr over ↦ V.above i over ]
        ∙ U.below i (omega (arith, low, start_is)) ∙ T.below i (omega (arith, low, B.above, B.ordered));
    undo_area = λ i low high.
        V.above i (omega (arith, low, B.above)) ∙ U.above i (omega (arith, low, start_is, B.above)) ∙ T.below i high;
  }

  pub around_freed : (behind first : ℕ) → MadeFree f a m p.to (len - p.to) 0 behind → MadeFree f m n start (p.from - start) behind first → word f.order b free_head ≡ first → FreedAround f a b p
  around_freed behind first back front head = record {
    behind = behind;
    first = first;
    back =
        subst (λ k. MadeFree f a b p.to (k - p.to) 0 behind) (sym len_is)
        (made_moved f a a m b p.to (len - p.to) 0 behind (λ i _ _. refl) (λ i low _. V.above i (omega (arith, low, B.above, B.ordered)) ∙ U.above i (omega (arith, low, start_is, B.above, B.ordered))) back);
    front =
        subst (λ k. MadeFree f a b k (p.from - k) behind first) start_is
        (made_moved f m a n b start (p.from - start) behind first (λ i low high. T.below i (omega (arith, high, low, B.ordered))) (λ i low _. V.above i (omega (arith, low, start_is))) front);
    head = head;
  }

-- once the head of the free list leads to the first of them
pub around_led : (f : Form) (a m n b : List ℕ) (p : AreaBounds) (start len : ℕ) → start ≡ data_start f → length a ≡ len → BoundsStand f len p → Torn p.to (len - p.to) a m → Torn start (p.from - start) m n
    → (behind first : ℕ) → MadeFree f a m p.to (len - p.to) 0 behind → MadeFree f m n start (p.from - start) behind first
    → (bytes : List ℕ) → length bytes ≡ 4 → word f.order bytes 0 ≡ first → b ≡ overlay n 168 bytes → FreedAround f a b p
around_led f a m n b p start len start_is len_is B T U behind first back front bytes four read written =
    around_freed f a m n b p start len start_is len_is B T U (torn_put n b 168 bytes 4 four written) behind first back front
    (ap (λ x. word f.order x 168) written
    ∙ word_overlaid f.order n 168 bytes 0 (omega (arith, four)) (omega (arith, four, T.size, U.size, len_is, B.above, B.ordered, B.within))
    ∙ read)
