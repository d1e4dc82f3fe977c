-- The commands on a map are local: reply and change depend on the keys that they read alone, and only keys that they
-- touch change.
use Rattle.std.proofs.Common.{◌≡◌, ℕ, List, Bool, true, false, cond, Option, Some, None, is_some, refl, sym, ◌∙◌, ap, inl, inr, unwrap_or, [], ◌++◌}
use Rattle.std.specs.FinMap.{get, insert, remove, len, get-insert, get-remove, same_map, slice_cmp-IsAntisymmetric, nat_cmp-IsAntisymmetric, IsAntisymmetric}
use Rattle.std.specs.Cmp.{IsTotalOrder, tied_itself}
use Rattle.std.specs.Cmp.Lexicographic.{nat_list_cmp_total}
use Rattle.std.specs.Ordering.{is_eq}
use Rattle.std.specs.declared.cmp.Ordering.{Ordering}
use Rattle.std.specs.declared.cmp.Ordering.TheVariants.{Less, Equal, Greater}
use Rattle.std.proofs.lemmas.Bool.{cases_Bool}
use Rattle.tdb_law.specs.Commands.{MapCommand, Reply, is_spare}
use Rattle.tdb_law.specs.Commands.MapCommand.{Fetch, Has, Delete, Store, Insert, Modify, Append, Wipe, Check}
use Rattle.tdb_law.specs.Commands.Reply.{Done, KeyMissing, KeyThere, Yes, No, Number}
use Rattle.tdb_law.specs.Openers.{Map, bytes_cmp, is_key, has}
use Rattle.tdb_law.specs.MapCommands.{reply, after, fetched, map_reads, map_touches}

-- the order of keys is total, and only equal keys tie
pub keys_total : IsTotalOrder bytes_cmp
keys_total = nat_list_cmp_total

pub keys_apart : IsAntisymmetric bytes_cmp
keys_apart = slice_cmp-IsAntisymmetric nat_cmp-IsAntisymmetric

equal_by : (o : Ordering) → is_eq o ≡ true → o ≡ Equal
equal_by Less e = cc
equal_by Equal e = refl
equal_by Greater e = cc

pub is_key-eq : (k q : List ℕ) → is_key k q ≡ true → q ≡ k
is_key-eq k q e = keys_apart q k (equal_by _ e)

pub is_key-refl : (k : List ℕ) → is_key k k ≡ true
is_key-refl k = ap is_eq (tied_itself keys_total k)

-- maps that answer alike are equal
pub maps_equal : (m n : Map) → ((q : List ℕ) → get m q ≡ get n q) → m ≡ n
maps_equal m n alike = same_map keys_total keys_apart m n alike

pub get_put : (m : Map) (k v q : List ℕ) → get (insert m k v) q ≡ cond (is_key k q) (Some v) (get m q)
get_put m k v q = get-insert keys_total m k v q

pub get_drop : (m : Map) (k q : List ℕ) → get (remove m k) q ≡ cond (is_key k q) None (get m q)
get_drop m k q = get-remove keys_total m k q

put_here : (m : Map) (k v q : List ℕ) → is_key k q ≡ true → get (insert m k v) q ≡ Some v
put_here m k v q e = get_put m k v q ∙ rw e refl

put_else : (m : Map) (k v q : List ℕ) → is_key k q ≡ false → get (insert m k v) q ≡ get m q
put_else m k v q e = get_put m k v q ∙ rw e refl

-- what a change at one key leaves elsewhere
cond_else : (b : Bool) (m : Map) (k v q : List ℕ) → is_key k q ≡ false → get (cond b m (insert m k v)) q ≡ get m q
cond_else true m k v q e = refl
cond_else false m k v q e = put_else m k v q e

cond_else_not : (b : Bool) (m : Map) (k v q : List ℕ) → is_key k q ≡ false → get (cond b (insert m k v) m) q ≡ get m q
cond_else_not true m k v q e = put_else m k v q e
cond_else_not false m k v q e = refl

pub after_untouched : (c : MapCommand) (m : Map) (q : List ℕ) → map_touches c q ≡ false → get (after c m) q ≡ get m q
after_untouched (Fetch k) m q e = refl
after_untouched (Has k) m q e = refl
after_untouched (Delete k) m q e = get_drop m k q ∙ rw e refl
after_untouched (Store k v) m q e = put_else m k v q e
after_untouched (Insert k v) m q e = cond_else (has m k) m k v q e
after_untouched (Modify k v) m q e = cond_else_not (has m k) m k v q e
after_untouched (Append k v) m q e = put_else m k _ q e
after_untouched Wipe m q e = absurd_of q e
  where
    absurd_of : (q : List ℕ) → true ≡ false → get (after Wipe m) q ≡ get m q
    absurd_of q e = cc
after_untouched Check m q e = refl

-- where two maps agree at what a command reads
abbrev pub Agree : MapCommand → Map → Map → Type 0
Agree c m n = (q : List ℕ) → map_reads c q ≡ true → get m q ≡ get n q

pub reply_same : (c : MapCommand) (m n : Map) → Agree c m n → reply c m ≡ reply c n
reply_same (Fetch k) m n agree = ap fetched (agree k (is_key-refl k))
reply_same (Has k) m n agree = ap (λ o. cond (is_some o) Yes No) (agree k (is_key-refl k))
reply_same (Delete k) m n agree = ap (λ o. cond (is_some o) Done KeyMissing) (agree k (is_key-refl k))
reply_same (Store k v) m n agree = refl
reply_same (Insert k v) m n agree = ap (λ o. cond (is_some o) KeyThere Done) (agree k (is_key-refl k))
reply_same (Modify k v) m n agree = ap (λ o. cond (is_some o) Done KeyMissing) (agree k (is_key-refl k))
reply_same (Append k v) m n agree = refl
reply_same Wipe m n agree = refl
reply_same Check m n agree = ap (λ z. Number (len z)) (maps_equal m n (λ q. agree q refl))

cond_same : (b d : Bool) (m n : Map) (k v q : List ℕ) → b ≡ d → get m q ≡ get n q → get (cond b m (insert m k v)) q ≡ get (cond d n (insert n k v)) q
cond_same b d m n k v q e same =
    elim (cases_Bool d) [
      | inl t ↦ let b_true : b ≡ true = e ∙ t in rw (b_true, t) same
      | inr t ↦ let b_false : b ≡ false = e ∙ t in rw (b_false, t) (get_put m k v q ∙ (ap (cond (is_key k q) (Some v)) same ∙ sym (get_put n k v q)))
    ]

cond_same_not : (b d : Bool) (m n : Map) (k v q : List ℕ) → b ≡ d → get m q ≡ get n q → get (cond b (insert m k v) m) q ≡ get (cond d (insert n k v) n) q
cond_same_not b d m n k v q e same =
    elim (cases_Bool d) [
      | inl t ↦ let b_true : b ≡ true = e ∙ t in rw (b_true, t) (get_put m k v q ∙ (ap (cond (is_key k q) (Some v)) same ∙ sym (get_put n k v q)))
      | inr t ↦ let b_false : b ≡ false = e ∙ t in rw (b_false, t) same
    ]

-- the value of an append
abbrev joined : Option (List ℕ) → List ℕ → List ℕ
joined o v = unwrap_or o [] ++ v

-- where they agree there, the maps afterwards agree at what it touches
pub after_same : (c : MapCommand) (m n : Map) → Agree c m n → (q : List ℕ) → map_touches c q ≡ true → get (after c m) q ≡ get (after c n) q
after_same (Fetch k) m n agree q e = cc
after_same (Has k) m n agree q e = cc
after_same (Delete k) m n agree q e = get_drop m k q ∙ rw e (sym (get_drop n k q ∙ rw e refl))
after_same (Store k v) m n agree q e = put_here m k v q e ∙ sym (put_here n k v q e)
after_same (Insert k v) m n agree q e = cond_same (has m k) (has n k) m n k v q (ap is_some (agree k (is_key-refl k))) (agree q e)
after_same (Modify k v) m n agree q e = cond_same_not (has m k) (has n k) m n k v q (ap is_some (agree k (is_key-refl k))) (agree q e)
after_same (Append k v) m n agree q e = put_here m k _ q e ∙ (ap (λ o. Some (joined o v)) (agree k (is_key-refl k)) ∙ sym (put_here n k _ q e))
after_same Wipe m n agree q e = refl
after_same Check m n agree q e = cc

-- a command on the map never replies want of memory or space, nor that a lock is held
fetched_plain : (o : Option (List ℕ)) → is_spare (fetched o) ≡ false
fetched_plain None = refl
fetched_plain (Some v) = refl

cond_plain : (b : Bool) (r z : Reply) → is_spare r ≡ false → is_spare z ≡ false → is_spare (cond b r z) ≡ false
cond_plain true r z p q = p
cond_plain false r z p q = q

pub reply_plain : (c : MapCommand) (m : Map) → is_spare (reply c m) ≡ false
reply_plain (Fetch k) m = fetched_plain (get m k)
reply_plain (Has k) m = cond_plain (has m k) Yes No refl refl
reply_plain (Delete k) m = cond_plain (has m k) Done KeyMissing refl refl
reply_plain (Store k v) m = refl
reply_plain (Insert k v) m = cond_plain (has m k) KeyThere Done refl refl
reply_plain (Modify k v) m = cond_plain (has m k) Done KeyMissing refl refl
reply_plain (Append k v) m = refl
reply_plain Wipe m = refl
reply_plain Check m = refl

-- a command that touches a key reads it
pub touches_reads : (c : MapCommand) (q : List ℕ) → map_touches c q ≡ true → map_reads c q ≡ true
touches_reads (Fetch k) q e = cc
touches_reads (Has k) q e = cc
touches_reads (Delete k) q e = e
touches_reads (Store k v) q e = e
touches_reads (Insert k v) q e = e
touches_reads (Modify k v) q e = e
touches_reads (Append k v) q e = e
touches_reads Wipe q e = refl
touches_reads Check q e = cc
