-- A list that is followed record by record.
use Rattle.std.proofs.Common.{◌≡◌, ◌≢◌, ℕ, ◌+◌, ◌<◌, ◌||◌, Bool, true, false, List, [], ◌∷◌, ◌++◌, length, eqb, Option, Some, None, append_assoc, append-nil, length-append, refl, sym, ◌∙◌, ap, subst, arith}
use Rattle.std.specs.Prelude.{if◌then◌else◌}
use Rattle.std.specs.List.{list_any}
use Rattle.std.proofs.lemmas.Bool.{ne_eqb, or_parts}
use Rattle.std.proofs.lemmas.List.{map-append}
use Rattle.std.proofs.lemmas.List.Folds.{list_any-append}
use Rattle.tdb_words.specs.declared.record.Rec.{Rec}
use Rattle.tdb_words.specs.declared.record.TheConstants.{USED, FREE}
use Rattle.tdb_words.specs.declared.word.Order.{Order}
use Rattle.tdb_words.specs.Word.{word}
use Rattle.tdb_words.specs.Record.{rec_at}
use Rattle.tdb_space.specs.Form.{Form}
use Rattle.tdb_space.specs.Record.{magic_of}
use Rattle.tdb_space.specs.Extents.{extents, extent_at}
use Rattle.tdb_space.specs.FirstFault.{Fault, ListKind, free_list, Passed, FirstInList, record_fault, is_out, is_bad, has_wrong_tailer, is_misfiled, has_twin, out_of, loop_of}
use Rattle.tdb_space.proofs.FirstFault.Cleared.{none_parts, same_from}
use Rattle.tdb_space.proofs.Chain.Ends.{passed_more, passed_short}
use Rattle.tdb_check.specs.declared.extent.Extent.{Extent}
use Rattle.tdb_check.specs.Extent.{extent_seen, extents_seen}
use Rattle.tdb_check.specs.Followed.{FollowedTo}
use Rattle.tdb_check.specs.Seen.{own_fault, Names}
use Rattle.tdb_check.specs.declared.refusal.CheckRefusal.{CheckRefusal}
use Rattle.tdb_check.specs.declared.refusal.CheckRefusal.TheVariants.{Corrupt, Io, Memory}

-- the faults of the next record, by the tests in their order
module _ (f : Form) (kind : ListKind) (img earlier : List ℕ) (place at : ℕ) where
  pub fault_out : is_out f img at ≡ true → record_fault f kind img earlier place at ≡ Some (out_of kind, place)
  fault_out h = rw h refl

  pub fault_loop : is_out f img at ≡ false → list_any (eqb at) earlier ≡ true → record_fault f kind img earlier place at ≡ Some (loop_of kind, place)
  fault_loop h e = rw h (rw e refl)

  pub fault_own : (e : Fault) → is_out f img at ≡ false → list_any (eqb at) earlier ≡ false → own_fault f kind img at ≡ Some e → record_fault f kind img earlier place at ≡ Some e
  fault_own e h g own = rw h (rw g (by_cases (is_bad f kind img at) (has_wrong_tailer f img at) (is_misfiled f kind img at) _ _ _ _ own))
    where
      by_cases : (a b c : Bool) (x y z : Fault) (rest : Option Fault) → (if a then Some x else if b then Some y else if c then Some z else None) ≡ Some e → (if a then Some x else if b then Some y else if c then Some z else rest) ≡ Some e
      by_cases true b c x y z rest h = h
      by_cases false true c x y z rest h = h
      by_cases false false true x y z rest h = h
      by_cases false false false x y z rest h = cc

  pub fault_none : is_out f img at ≡ false → list_any (eqb at) earlier ≡ false → own_fault f kind img at ≡ None → has_twin f img earlier at ≡ false → record_fault f kind img earlier place at ≡ None
  fault_none h g own alone =
      let a = none_parts (is_bad f kind img at) _ _ own in
      let b = none_parts (has_wrong_tailer f img at) _ _ a.1 in
      let c = none_parts (is_misfiled f kind img at) _ _ b.1 in
      rw h (rw g (rw a.0 (rw b.0 (rw c.0 (rw alone refl)))))

-- what was followed so far: the records that were passed, which are those that were noted, and their extents
pub record Following (f : Form) (kind : ListKind) (img : List ℕ) (head : ℕ) (noted : ℕ → Bool) (old new : List Extent) (turn place at : ℕ) : Type 0 where
  pub xs : List ℕ
  pub passed : Passed f kind img [] head xs place
  pub next : word f.order img place ≡ at
  pub met : (q : ℕ) → noted q ≡ list_any (eqb q) xs
  pub seen : extents_seen new ≡ extents_seen old ++ extents f.order img xs
  pub count : length xs ≡ turn

pub following_start : (f : Form) (kind : ListKind) (img : List ℕ) (head at : ℕ) (noted : ℕ → Bool) (old : List Extent) → word f.order img head ≡ at → ((q : ℕ) → noted q ≡ false) → Following f kind img head noted old old 0 head at
following_start f kind img head at noted old w none = record {
  xs = [];
  passed = refl;
  next = w;
  met = none;
  seen = sym (append-nil (extents_seen old));
  count = refl;
}

pub any_more : (q at : ℕ) (xs : List ℕ) → (eqb q at || list_any (eqb q) xs) ≡ list_any (eqb q) (xs ++ at ∷ [])
any_more q at xs = turned (eqb q at) (list_any (eqb q) xs) ∙ sym (list_any-append (eqb q) xs (at ∷ []))
  where
    turned : (a b : Bool) → (a || b) ≡ (b || (a || false))
    turned true true = refl
    turned true false = refl
    turned false true = refl
    turned false false = refl

pub extents_more : (o : Order) (img xs : List ℕ) (x : ℕ) → extents o img (xs ++ x ∷ []) ≡ extents o img xs ++ extent_at o img x ∷ []
extents_more o img [] x = refl
extents_more o img (y ∷ ys) x = ap (λ es. extent_at o img y ∷ es) (extents_more o img ys x)

-- a good record of the free list isn't used, so it has no twin
free_alone : (f : Form) (img earlier : List ℕ) (at : ℕ) → is_bad f free_list img at ≡ false → has_twin f img earlier at ≡ false
free_alone f img earlier at good =
    let a = or_parts _ _ good in
    let b = or_parts _ _ a.0 in
    let c = or_parts _ _ b.0 in
    rw (ne_eqb (magic_of f.order img at) USED (not_both (magic_of f.order img at) (same_from (magic_of f.order img at) FREE c.0))) refl
  where
    not_both : (m : ℕ) → m ≡ FREE → m ≢ USED
    not_both m free used = absurd (omega (arith, free, used))

module _ (f : Form) (kind : ListKind) (img : List ℕ) (head : ℕ) (noted : ℕ → Bool) (old new : List Extent) (turn place at : ℕ) (h : Following f kind img head noted old new turn place at) where
  pub following_end : at ≡ 0 → FollowedTo f kind img head old new
  following_end zero_there = (h.xs, place, h.passed, h.next ∙ zero_there, h.seen)

  first_fault : (e : Fault) → at ≢ 0 → record_fault f kind img h.xs place at ≡ Some e → FirstInList f kind img head e
  first_fault e some fault = (h.xs, place, h.passed, (λ z. some (sym h.next ∙ z)), subst (λ x. record_fault f kind img h.xs place x ≡ Some e) (sym h.next) fault)

  pub following_out : at ≢ 0 → is_out f img at ≡ true → FirstInList f kind img head (out_of kind, place)
  following_out some out = first_fault (out_of kind, place) some (fault_out f kind img h.xs place at out)

  pub following_loop : at ≢ 0 → is_out f img at ≡ false → noted at ≡ true → FirstInList f kind img head (loop_of kind, place)
  following_loop some stands met = first_fault (loop_of kind, place) some (fault_loop f kind img h.xs place at stands (sym (h.met at) ∙ met))

  pub following_own : (e : Fault) → at ≢ 0 → is_out f img at ≡ false → noted at ≡ false → own_fault f kind img at ≡ Some e → FirstInList f kind img head e
  following_own e some stands new_one own = first_fault e some (fault_own f kind img h.xs place at e stands (sym (h.met at) ∙ new_one) own)

  pub following_never : 0 < length img → turn ≡ length img → ⊥
  following_never some long = absurd (omega (arith, h.count, long, passed_short f kind img head h.xs place some h.passed))

  pub following_next : (noted2 : ℕ → Bool) (next_extents : List Extent) (r : Rec) → at ≢ 0 → record_fault f kind img h.xs place at ≡ None → r ≡ rec_at f.order img at → ((q : ℕ) → noted2 q ≡ (eqb q at || noted q)) → next_extents ≡ new ++ (record { off = at; rec_len = r.rec_len }) ∷ [] → Following f kind img head noted2 old next_extents (turn + 1) at r.next
  following_next noted2 next_extents r some none read more put = record {
    xs = h.xs ++ at ∷ [];
    passed = passed_more f kind img [] head h.xs place at h.passed h.next some none;
    next = sym (ap (λ (x : Rec). x.next) read);
    met = λ q. more q ∙ ap (λ b. eqb q at || b) (h.met q) ∙ any_more q at h.xs;
    seen = ap extents_seen put ∙ map-append extent_seen new ((record { off = at; rec_len = r.rec_len }) ∷ [])
        ∙ (λ j. h.seen j ++ (at, 24 + (read j).rec_len) ∷ [])
        ∙ append_assoc (extents_seen old) (extents f.order img h.xs) (extent_at f.order img at ∷ [])
        ∙ ap (λ es. extents_seen old ++ es) (sym (extents_more f.order img h.xs at));
    count = omega (arith, length-append h.xs (at ∷ []), h.count);
  }

-- one more free record
pub free_more : (f : Form) (img : List ℕ) (head : ℕ) (noted noted2 : ℕ → Bool) (old new next_extents : List Extent) (turn place at : ℕ) (r : Rec) → Following f free_list img head noted old new turn place at → at ≢ 0 → is_out f img at ≡ false → noted at ≡ false → own_fault f free_list img at ≡ None → r ≡ rec_at f.order img at → ((q : ℕ) → noted2 q ≡ (eqb q at || noted q)) → next_extents ≡ new ++ (record { off = at; rec_len = r.rec_len }) ∷ [] → Following f free_list img head noted2 old next_extents (turn + 1) at r.next
free_more f img head noted noted2 old new next_extents turn place at r h some stands new_one own read more put =
    following_next f free_list img head noted old new turn place at h noted2 next_extents r some
    (fault_none f free_list img h.xs place at stands (sym (h.met at) ∙ new_one) own (free_alone f img h.xs at (none_parts (is_bad f free_list img at) _ _ own).0)) read more put

-- a refusal that names a fault with one property names one with another
pub names_then : (e : CheckRefusal) (P Q : Fault → Type 0) → ((x : Fault) → P x → Q x) → Names e P → Names e Q
names_then (Corrupt what at) P Q maps p = maps (what, at) p
names_then Io P Q maps p = tt
names_then Memory P Q maps p = tt

-- a refusal that names a fault names one of which this holds, where it holds of each
pub names_all : (e : CheckRefusal) (P : Fault → Type 0) → ((x : Fault) → P x) → Names e P
names_all (Corrupt what at) P all = all (what, at)
names_all Io P all = tt
names_all Memory P all = tt
