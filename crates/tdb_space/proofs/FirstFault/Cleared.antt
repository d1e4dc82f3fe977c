-- A record without a fault stands whole and is what its list asks for, and the other way round.
use Rattle.std.proofs.Common.{◌≡◌, ℕ, ◌+◌, ◌≤◌, ◌&&◌, ◌||◌, not, Bool, true, false, List, length, Option, Some, None, refl, inl, inr, arith}
use Rattle.std.specs.Prelude.{◌%◌, ◌==◌, nat_eq, nat_lt, if◌then◌else◌}
use Rattle.std.specs.List.{list_any}
use Rattle.std.proofs.lemmas.Bool.{ltb-false, or_parts, eq-eqb, ne_eqb, false≢true, cases_eq}
use Rattle.std.proofs.lemmas.Bool.Decides.{nat_tests}
use Rattle.tdb_words.specs.declared.record.TheConstants.{USED}
use Rattle.tdb_words.specs.Word.{word}
use Rattle.tdb_words.specs.Hash.{h_of}
use Rattle.tdb_space.specs.Form.{Form, data_start}
use Rattle.tdb_space.specs.Record.{Whole, Fits, IsChained, IsFree, rec_len_of, key_len_of, data_len_of, full_hash_of, magic_of, key_at}
use Rattle.tdb_space.specs.Accepted.{Filed}
use Rattle.tdb_space.specs.FirstFault.{ListKind, chain_number, free_list, is_out, is_long, is_bad, has_magic, has_wrong_tailer, is_misfiled, has_twin, record_fault}

-- where the first of two tests finds nothing, the rest finds nothing
pub none_parts : {T : Type 0} (b : Bool) (e : T) (rest : Option T) → (if b then Some e else rest) ≡ None → (b ≡ false) × (rest ≡ None)
none_parts true e rest h = cc
none_parts false e rest h = (refl, h)

pub none_both : {T : Type 0} (b : Bool) (e : T) (rest : Option T) → b ≡ false → rest ≡ None → (if b then Some e else rest) ≡ None
none_both b e rest h r = rw h r

-- no test of a record finds a fault
pub record Clear (f : Form) (kind : ListKind) (img earlier : List ℕ) (at : ℕ) : Type 0 where
  pub stands : is_out f img at ≡ false
  pub new : list_any (nat_eq at) earlier ≡ false
  pub good : is_bad f kind img at ≡ false
  pub tailed : has_wrong_tailer f img at ≡ false
  pub placed : is_misfiled f kind img at ≡ false
  pub alone : has_twin f img earlier at ≡ false

pub clear_from : (f : Form) (kind : ListKind) (img earlier : List ℕ) (place at : ℕ) → record_fault f kind img earlier place at ≡ None → Clear f kind img earlier at
clear_from f kind img earlier place at h =
    let a = none_parts _ _ _ h in
    let b = none_parts _ _ _ a.1 in
    let c = none_parts _ _ _ b.1 in
    let d = none_parts _ _ _ c.1 in
    let e = none_parts _ _ _ d.1 in
    let g = none_parts _ _ _ e.1 in
    record { stands = a.0; new = b.0; good = c.0; tailed = d.0; placed = e.0; alone = g.0 }

pub clear_to : (f : Form) (kind : ListKind) (img earlier : List ℕ) (place at : ℕ) → Clear f kind img earlier at → record_fault f kind img earlier place at ≡ None
clear_to f kind img earlier place at h =
    none_both _ _ _ h.stands (none_both _ _ _ h.new (none_both _ _ _ h.good (none_both _ _ _ h.tailed (none_both _ _ _ h.placed (none_both _ _ _ h.alone refl)))))

-- what it says that a header can stand at an offset
pub stands_from : (f : Form) (img : List ℕ) (at : ℕ) → is_out f img at ≡ false → (at % 4 ≡ 0) × (data_start f ≤ at) × (at + 24 ≤ length img)
stands_from f img at h = grind (arith, nat_tests)

pub stands_to : (f : Form) (img : List ℕ) (at : ℕ) → at % 4 ≡ 0 → data_start f ≤ at → at + 24 ≤ length img → is_out f img at ≡ false
stands_to f img at a b c = grind (arith, nat_tests)

-- what it says that a length fits
pub long_from : (f : Form) (img : List ℕ) (at : ℕ) → is_long f img at ≡ false → (rec_len_of f.order img at % 4 ≡ 0) × (at + 24 + rec_len_of f.order img at ≤ length img)
long_from f img at h = grind (arith, nat_tests)

pub long_to : (f : Form) (img : List ℕ) (at : ℕ) → rec_len_of f.order img at % 4 ≡ 0 → at + 24 + rec_len_of f.order img at ≤ length img → is_long f img at ≡ false
long_to f img at a b = grind (arith, nat_tests)

-- the magics that a list asks for
abbrev pub Marked : ListKind → ℕ → Type 0
Marked (chain_number j) = IsChained
Marked free_list = IsFree

marked_from : (kind : ListKind) (m : ℕ) → not (has_magic kind m) ≡ false → Marked kind m
marked_from (chain_number j) m h = grind (arith, nat_tests)
marked_from free_list m h = grind (arith, nat_tests)

marked_to : (kind : ListKind) (m : ℕ) → Marked kind m → not (has_magic kind m) ≡ false
marked_to (chain_number j) m h = grind (arith, nat_tests)
marked_to free_list m h = grind (arith, nat_tests)

pub same_from : (a b : ℕ) → not (a == b) ≡ false → a ≡ b
same_from a b h = grind (arith, nat_tests)

pub same_to : (a b : ℕ) → a ≡ b → not (a == b) ≡ false
same_to a b h = grind (arith, nat_tests)

pub below_to : (a b : ℕ) → b ≤ a → nat_lt a b ≡ false
below_to a b h = grind (arith, nat_tests)

where_used_from : (m a b : ℕ) → ((m == USED) && nat_lt a b) ≡ false → m ≡ USED → b ≤ a
where_used_from m a b h used = grind (arith, nat_tests)

where_used_to : (m a b : ℕ) → (m ≡ USED → b ≤ a) → ((m == USED) && nat_lt a b) ≡ false
where_used_to m a b h = elim (cases_eq m USED) [ inl used ↦ rw (eq-eqb m USED used) (below_to a b (h used)) | inr other ↦ rw (ne_eqb m USED other) refl ]

pub or_none : (a b : Bool) → a ≡ false → b ≡ false → (a || b) ≡ false
or_none a b h r = rw h r

-- a record that is good and has its tailer stands whole, with a magic of its list, and fits where it is used
pub record Good (f : Form) (kind : ListKind) (img : List ℕ) (at : ℕ) : Type 0 where
  pub whole : Whole f img at
  pub marked : Marked kind (magic_of f.order img at)
  pub fits : magic_of f.order img at ≡ USED → Fits f.order img at

pub good_from : (f : Form) (kind : ListKind) (img : List ℕ) (at : ℕ) → is_out f img at ≡ false → is_bad f kind img at ≡ false → has_wrong_tailer f img at ≡ false → Good f kind img at
good_from f kind img at out bad tail =
    let s = stands_from f img at out in
    let magic = magic_of f.order img at in
    let len = rec_len_of f.order img at in
    let held = key_len_of f.order img at + data_len_of f.order img at + 4 in
    let a = or_parts (not (has_magic kind magic) || is_long f img at || nat_lt len 4) ((magic == USED) && nat_lt len held) bad in
    let b = or_parts (not (has_magic kind magic) || is_long f img at) (nat_lt len 4) a.0 in
    let c = or_parts (not (has_magic kind magic)) (is_long f img at) b.0 in
    let l = long_from f img at c.1 in
    record {
      whole = record { aligned = s.0; above = s.1; len_aligned = l.0; len_least = ltb-false len 4 b.1; within = l.1; tailer = same_from (word f.order img (at + 20 + len)) (24 + len) tail };
      marked = marked_from kind magic c.0;
      fits = where_used_from magic len held a.1;
    }

pub good_to : (f : Form) (kind : ListKind) (img : List ℕ) (at : ℕ) → Good f kind img at → (is_out f img at ≡ false) × (is_bad f kind img at ≡ false) × (has_wrong_tailer f img at ≡ false)
good_to f kind img at h =
    let w = h.whole in
    let magic = magic_of f.order img at in
    let len = rec_len_of f.order img at in
    let held = key_len_of f.order img at + data_len_of f.order img at + 4 in (
      stands_to f img at w.aligned w.above (omega (arith, w.within)),
      or_none (not (has_magic kind magic) || is_long f img at || nat_lt len 4) ((magic == USED) && nat_lt len held)
          (or_none (not (has_magic kind magic) || is_long f img at) (nat_lt len 4)
          (or_none (not (has_magic kind magic)) (is_long f img at) (marked_to kind magic h.marked) (long_to f img at w.len_aligned w.within))
          (below_to len 4 w.len_least))
          (where_used_to magic len held h.fits),
      same_to (word f.order img (at + 20 + len)) (24 + len) w.tailer,
    )

-- a used record of a chain that is good and isn't misfiled is filed there, and the other way round
pub filed_from : (f : Form) (img : List ℕ) (j at : ℕ) → (magic_of f.order img at ≡ USED → Fits f.order img at) → is_misfiled f (chain_number j) img at ≡ false → magic_of f.order img at ≡ USED → Filed f img j at
filed_from f img j at fits h used =
    let hash = full_hash_of f.order img at in
    let own = h_of f.hash (key_at f.order img at) in
    let both : (not (hash == own) || not (hash % f.chains == j)) ≡ false = and_there (magic_of f.order img at == USED) (not (hash == own) || not (hash % f.chains == j)) (eq-eqb (magic_of f.order img at) USED used) h in
    let parts = or_parts (not (hash == own)) (not (hash % f.chains == j)) both in
    record { fits = fits used; hashed = same_from hash own parts.0; placed = same_from (hash % f.chains) j parts.1 }
  where
    and_there : (a b : Bool) → a ≡ true → (a && b) ≡ false → b ≡ false
    and_there true b e h = h
    and_there false b e h = absurd (false≢true e)

pub filed_to : (f : Form) (img : List ℕ) (j at : ℕ) → (magic_of f.order img at ≡ USED → Filed f img j at) → is_misfiled f (chain_number j) img at ≡ false
filed_to f img j at h =
    let hash = full_hash_of f.order img at in
    let own = h_of f.hash (key_at f.order img at) in
    elim (cases_eq (magic_of f.order img at) USED) [
      | inl used ↦ rw (eq-eqb (magic_of f.order img at) USED used) (or_none (not (hash == own)) (not (hash % f.chains == j)) (same_to hash own (h used).hashed) (same_to (hash % f.chains) j (h used).placed))
      | inr other ↦ rw (ne_eqb (magic_of f.order img at) USED other) refl
    ]
