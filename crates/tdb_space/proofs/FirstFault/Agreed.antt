-- An image is accepted exactly where it has no fault.
use Rattle.std.proofs.Common.{◌≡◌, ◌≢◌, ℕ, ◌<◌, ◌≤◌, ◌⊎◌, ◌&&◌, ◌||◌, not, Bool, false, List, [], length, Option, Some, None, refl, sym, ◌∙◌, subst, inl, inr, arith}
use Rattle.std.specs.Prelude.{◌%◌, ◌==◌, nat_eq, nat_lt, is_some, is_none, slice_index, if◌then◌else◌}
use Rattle.std.specs.List.{starts_with}
use Rattle.std.proofs.lemmas.Bool.{false≢true, cases_eq, cases_lt, or_parts, ltb-false, eq-eqb, ne_eqb}
use Rattle.std.proofs.lemmas.Bool.Decides.{nat_tests}
use Rattle.tdb_words.specs.declared.record.TheConstants.{GATE_OPEN, GATE_SHUT, PADDING}
use Rattle.tdb_words.specs.declared.header.HeaderFault.{HeaderFault}
use Rattle.tdb_words.specs.declared.header.HeaderFault.TheVariants.{NotTdb, Version, OldLocks, Mutexes, UnknownHash, NoBuckets}
use Rattle.tdb_words.specs.Word.{word}
use Rattle.tdb_words.specs.Header.{HeaderOk, header_fault, hash_size_of, header_order, food, order_named, hash_named, jenkins_locks, mutex_locks}
use Rattle.tdb_space.specs.Form.{Form, form_of, data_start, chain_head, free_head}
use Rattle.tdb_space.specs.Record.{IsChained, IsFree, magic_of}
use Rattle.tdb_space.specs.Chain.{Linked, chain_of, free_of}
use Rattle.tdb_space.specs.Extents.{times}
use Rattle.tdb_space.specs.Accepted.{AreaInPlace, AreaOk, Shut, AllFiled, KeysDiffer, Accept}
use Rattle.tdb_space.specs.FirstFault.{chain_number, free_list, is_short, is_out, is_long, front_fault, area_fault, area_fault_at, extents_of, HasNoFault}
use Rattle.tdb_space.proofs.Chain.Walks.{walk_meets}
use Rattle.tdb_space.proofs.FirstFault.Cleared.{none_parts, none_both, stands_from, stands_to, long_from, long_to, same_from, same_to, below_to, or_none}
use Rattle.tdb_space.proofs.FirstFault.Passed.{passed_filed, sound_listed, sound_from, filed_belong, free_belong, free_keys}

some_never : {T : Type 0} (o : Option T) → is_some o ≡ false → o ≡ None
some_never None h = refl
some_never (Some x) h = absurd (false≢true (sym h))

none_some : {T : Type 0} (o : Option T) → o ≡ None → is_some o ≡ false
none_some o h = rw h refl

-- where six tests in a row find nothing, the last one finds nothing
last_of_six : (a b c d e g : Bool) (u v w x y z : HeaderFault) → (if a then Some u else if b then Some v else if c then Some w else if d then Some x else if e then Some y else if g then Some z else None) ≡ None → g ≡ false
last_of_six a b c d e g u v w x y z h =
    let p = none_parts a u (if b then Some v else if c then Some w else if d then Some x else if e then Some y else if g then Some z else None) h in
    let q = none_parts b v (if c then Some w else if d then Some x else if e then Some y else if g then Some z else None) p.1 in
    let r = none_parts c w (if d then Some x else if e then Some y else if g then Some z else None) q.1 in
    let s = none_parts d x (if e then Some y else if g then Some z else None) r.1 in
    let t = none_parts e y (if g then Some z else None) s.1 in
    (none_parts g z None t.1).0

not_none : (n : ℕ) → (n == 0) ≡ false → 0 < n
not_none n h = grind (arith, nat_tests)

-- a header without a fault has a chain
pub chains_some : (img : List ℕ) → header_fault img ≡ None → 0 < hash_size_of img
unfolding header_fault
chains_some img h =
    let o = header_order img in
    let locks = word o img 40 in
    not_none (hash_size_of img)
    (last_of_six (not (starts_with nat_eq img food)) (is_none (order_named img)) (not ((locks == 0) || (locks == jenkins_locks) || (locks == mutex_locks)))
    ((locks == mutex_locks) && not (word o img 60 == 0)) (is_none (hash_named o (word o img 52) (word o img 56))) (hash_size_of img == 0)
    NotTdb Version OldLocks Mutexes UnknownHash NoBuckets h)

-- what it says that the front has no fault
pub record FrontOk (img : List ℕ) : Type 0 where
  pub header : HeaderOk img
  pub sized : length img % 4 ≡ 0
  pub long : data_start (form_of img) ≤ length img

pub front_ok : (img : List ℕ) → front_fault img ≡ None → FrontOk img
front_ok img h =
    let a = none_parts (nat_lt (length img) 168) _ _ h in
    let b = none_parts (is_some (header_fault img)) _ _ a.1 in
    let c = none_parts (is_short (form_of img) img) _ _ b.1 in
    let parts = or_parts (not (length img % 4 == 0)) (nat_lt (length img) (data_start (form_of img))) c.0 in
    record {
      header = record { long_enough = ltb-false (length img) 168 a.0; no_fault = some_never (header_fault img) b.0 };
      sized = same_from (length img % 4) 0 parts.0;
      long = ltb-false (length img) (data_start (form_of img)) parts.1;
    }

pub front_none : (img : List ℕ) → FrontOk img → front_fault img ≡ None
front_none img h =
    none_both (nat_lt (length img) 168) _ _ (below_to (length img) 168 h.header.long_enough)
    (none_both (is_some (header_fault img)) _ _ (none_some (header_fault img) h.header.no_fault)
    (none_both (is_short (form_of img) img) _ _
    (or_none (not (length img % 4 == 0)) (nat_lt (length img) (data_start (form_of img))) (same_to (length img % 4) 0 h.sized) (below_to (length img) (data_start (form_of img)) h.long))
    refl))

-- an undo area without a fault is in place and shut
area_at_ok : (f : Form) (img : List ℕ) (at : ℕ) → area_fault_at f img at ≡ None → AreaInPlace f img at × (magic_of f.order img at ≡ GATE_SHUT)
area_at_ok f img at h =
    let a = none_parts (is_out f img at) _ _ h in
    let b = none_parts (is_long f img at) _ _ a.1 in
    let c = none_parts (magic_of f.order img at == GATE_OPEN) _ _ b.1 in
    let d = none_parts (not (magic_of f.order img at == GATE_SHUT)) _ _ c.1 in
    let s = stands_from f img at a.0 in
    let l = long_from f img at b.0 in
    let shut = same_from (magic_of f.order img at) GATE_SHUT d.0 in
    (record { aligned = s.0; above = s.1; len_aligned = l.0; within = l.1; gate = inr shut }, shut)

area_at_none : (f : Form) (img : List ℕ) (at : ℕ) → AreaInPlace f img at → magic_of f.order img at ≡ GATE_SHUT → area_fault_at f img at ≡ None
area_at_none f img at h shut =
    none_both (is_out f img at) _ _ (stands_to f img at h.aligned h.above (omega (arith, h.within)))
    (none_both (is_long f img at) _ _ (long_to f img at h.len_aligned h.within)
    (none_both (magic_of f.order img at == GATE_OPEN) _ _ (ne_eqb (magic_of f.order img at) GATE_OPEN (λ e. absurd (omega (arith, e, shut))))
    (none_both (not (magic_of f.order img at == GATE_SHUT)) _ _ (same_to (magic_of f.order img at) GATE_SHUT shut) refl)))

pub area_ok : (f : Form) (img : List ℕ) → area_fault f img ≡ None → AreaOk f img × Shut f img
area_ok f img h =
    elim (cases_eq (word f.order img 44) 0) [
      | inl none ↦ (inl none, inl none)
      | inr some ↦
          let there : area_fault_at f img (word f.order img 44) ≡ None = rw (ne_eqb (word f.order img 44) 0 some) at h in
          let ok = area_at_ok f img (word f.order img 44) there in (inr ok.0, inr ok.1)
    ]

pub area_none : (f : Form) (img : List ℕ) → AreaOk f img → Shut f img → area_fault f img ≡ None
area_none f img ok shut =
    elim (cases_eq (word f.order img 44) 0) [
      | inl none ↦ rw (eq-eqb (word f.order img 44) 0 none) refl
      | inr some ↦ rw (ne_eqb (word f.order img 44) 0 some) (from_parts ok shut some)
    ]
  where
    from_parts : AreaOk f img → Shut f img → word f.order img 44 ≢ 0 → area_fault_at f img (word f.order img 44) ≡ None
    from_parts (inl none) s some = absurd (some none)
    from_parts (inr a) (inl none) some = absurd (some none)
    from_parts (inr a) (inr s) some = area_at_none f img (word f.order img 44) a s

-- the test of a byte that is stray, with plain numbers
stray_from : (low high held byte i : ℕ) → (not (nat_lt i low) && nat_lt i high && (held == 0) && not (byte == 0) && not (byte == PADDING)) ≡ false → low ≤ i → i < high → held ≡ 0 → (byte ≡ 0) ⊎ (byte ≡ PADDING)
stray_from low high held byte i h a b c = elim (cases_eq byte 0) [
  | inl zero_there ↦ inl zero_there
  | inr some ↦ elim (cases_eq byte PADDING) [
    | inl padding ↦ inr padding
    | inr other ↦ absurd (false≢true (sym h ∙ grind (arith, nat_tests)))
  ]
]

stray_to : (low high held byte i : ℕ) → (low ≤ i → i < high → held ≡ 0 → (byte ≡ 0) ⊎ (byte ≡ PADDING)) → (not (nat_lt i low) && nat_lt i high && (held == 0) && not (byte == 0) && not (byte == PADDING)) ≡ false
stray_to low high held byte i h = elim (cases_lt i low) [
  | inl before ↦ grind (arith, nat_tests)
  | inr a ↦ elim (cases_lt i high) [
    | inr past ↦ grind (arith, nat_tests)
    | inl b ↦ elim (cases_eq held 0) [
      | inr some ↦ grind (arith, nat_tests)
      | inl c ↦ elim (h a b c) [ inl e ↦ grind (arith, nat_tests) | inr e ↦ grind (arith, nat_tests) ]
    ]
  ]
]

-- an image without a fault is accepted
pub no_fault_accepted : (img : List ℕ) → HasNoFault img → Accept img
no_fault_accepted img h =
    let f = form_of img in
    let front = front_ok img h.lists.heads.0 in
    let undo = area_ok f img h.lists.heads.1 in
    let met : (j : ℕ) (low : j < f.chains) → chain_of f img j ≡ (h.lists.chains j low).0 =
    λ j low. walk_meets f IsChained img (word f.order img (chain_head j)) (h.lists.chains j low).0 (sound_listed f (chain_number j) img (chain_head j) (h.lists.chains j low)).linked in
    let free = sound_listed f free_list img free_head h.lists.frees in
    record {
      header = front.header;
      form = refl;
      some = chains_some img front.header.no_fault;
      sized = front.sized;
      long = front.long;
      area_ok = undo.0;
      shut = undo.1;
      chains = λ j low. subst (Linked f IsChained img (word f.order img (chain_head j))) (sym (met j low)) (sound_listed f (chain_number j) img (chain_head j) (h.lists.chains j low)).linked;
      frees = subst (Linked f IsFree img (word f.order img free_head)) (sym (walk_meets f IsFree img (word f.order img free_head) h.lists.frees.0 free.linked)) free.linked;
      filed = λ j low. subst (AllFiled f img j) (sym (met j low)) (passed_filed f j img [] (chain_head j) (h.lists.chains j low).0 (h.lists.chains j low).1 (h.lists.chains j low).2);
      keys = λ j low. subst (KeysDiffer f img) (sym (met j low)) (sound_listed f (chain_number j) img (chain_head j) (h.lists.chains j low)).keys;
      held = tt;
      apart = h.apart;
      stray = λ i low high none. stray_from (data_start f) (length img) (times (extents_of img) i) (slice_index img i) i (h.clean i) low high none;
    }

-- an accepted image has no fault
pub accepted_no_fault : (img : List ℕ) → Accept img → HasNoFault img
accepted_no_fault img h =
    let f = form_of img in
    record {
      lists = record {
        heads = (front_none img (record { header = h.header; sized = h.sized; long = h.long }), area_none f img h.area_ok h.shut);
        chains = λ j low. sound_from f (chain_number j) img (chain_head j) (chain_of f img j) (h.chains j low) (filed_belong f j img (chain_of f img j) (h.filed j low)) (h.keys j low);
        frees = sound_from f free_list img free_head (free_of f img) h.frees (free_belong f img (free_of f img)) (free_keys f img (word f.order img free_head) (free_of f img) h.frees);
      };
      apart = h.apart;
      clean = λ i. stray_to (data_start f) (length img) (times (extents_of img) i) (slice_index img i) i (h.stray i);
    }
