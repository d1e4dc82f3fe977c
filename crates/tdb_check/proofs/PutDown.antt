-- Records are put down: into their lists, behind those that stand before them in the file, and among the noted keys.
use Rattle.std.proofs.Common.{◌≡◌, ◌≢◌, ℕ, ◌+◌, ◌-◌, ◌<◌, ◌≤◌, Option, List, [], ◌∷◌, ◌++◌, length, refl, sym, ◌∙◌, ap, subst, inl, inr, arith}
use Rattle.std.specs.Prelude.{◌==◌, if◌then◌else◌, sum_by}
use Rattle.std.proofs.lemmas.Bool.{cases_eq, eq-eqb, ne_eqb}
use Rattle.std.proofs.lemmas.List.Sums.{sum_by_push}
use Rattle.tdb_words.specs.declared.record.Rec.{Rec}
use Rattle.tdb_words.specs.declared.record.TheConstants.{USED}
use Rattle.tdb_words.specs.Record.{rec_at}
use Rattle.tdb_space.specs.Form.{Form, data_start}
use Rattle.tdb_space.specs.Record.{Fits, magic_of, rec_len_of, key_len_of}
use Rattle.tdb_space.specs.Extents.{Extent as Held, once, times, extent_at, extents}
use Rattle.tdb_space.specs.FirstFault.{chain_number, free_list}
use Rattle.tdb_space.proofs.Extents.Counts.{times-append, once_joined, once_out}
use Rattle.tdb_check.specs.declared.extent.Extent.{Extent}
use Rattle.tdb_check.specs.declared.keys.Noted.{Noted}
use Rattle.tdb_check.specs.declared.keys.Keys.{Keys}
use Rattle.tdb_check.specs.declared.links.Links.{Links}
use Rattle.tdb_check.specs.declared.all_links.AllLinks.{AllLinks}
use Rattle.tdb_check.specs.declared.list_kind.ListKind.{ListKind}
use Rattle.tdb_check.specs.declared.list_kind.ListKind.TheVariants.{Chain, Free}
use Rattle.tdb_check.specs.Area.{area_seen}
use Rattle.tdb_check.specs.Seen.{kind_of}
use Rattle.tdb_check.specs.Keys.{KeptIn, IsKeyed, noted_at, notes_of}
use Rattle.tdb_check.specs.Reads.{key_bytes}
use Rattle.tdb_check.specs.InSequence.{StandsIn, IsAmong}
use Rattle.tdb_check.specs.Links.{AllTold, left, all_left, is_used, is_unused, PutDown, Tiled, GatheredTo}
use Rattle.tdb_check.proofs.Notings.{notes_push_used, notes_push_other}
use Rattle.tdb_check.proofs.Taken.{told_none, left_none}

-- no record
pub put_none : (f : Form) (img : List ℕ) (a : AllLinks) → length a.chained.links.items ≡ 0 → length a.free.links.items ≡ 0 → a.live ≡ 0 → a.dead ≡ 0 → a.free_records ≡ 0 → PutDown f img [] a
put_none f img a chained free live dead free_records = record {
  chained = told_none chain_number f img a.chained chained;
  frees = told_none (λ _. free_list) f img a.free free;
  same = λ w. omega (arith, left_none w a.chained chained, left_none w a.free free);
  live = live ∙ sym (left_none (is_used f.order img) a.chained chained);
  dead = dead ∙ sym (left_none (is_unused f.order img) a.chained chained);
  free_records = free_records ∙ sym (left_none (λ _. 1) a.free free);
}

-- a record that counts for one, or for none, as a used one does
pub put_chained : (f : Form) (img xs : List ℕ) (old new : AllLinks) (at n : ℕ) (r : Rec) → PutDown f img xs old → r ≡ rec_at f.order img at → n ≡ (if r.magic == USED then 1 else 0)
    → AllTold chain_number f img new.chained → ((w : ℕ → ℕ) → left w new.chained ≡ left w old.chained + w at) → new.free ≡ old.free
    → new.live ≡ old.live + n → new.dead ≡ old.dead + (1 - n) → new.free_records ≡ old.free_records → PutDown f img (xs ++ at ∷ []) new
put_chained f img xs old new at n r p header one told more free live dead free_records =
    let magic : r.magic ≡ magic_of f.order img at = ap (λ (x : Rec). x.magic) header in
    let used : n ≡ is_used f.order img at = one ∙ ap (λ (m : ℕ). if m == USED then 1 else 0) magic in
    let unused : 1 - n ≡ is_unused f.order img at = elim (cases_eq (magic_of f.order img at) USED) [
      | inl is ↦
          let yes : is_used f.order img at ≡ 1 = rw (eq-eqb (magic_of f.order img at) USED is) refl in
          let no : is_unused f.order img at ≡ 0 = rw (eq-eqb (magic_of f.order img at) USED is) refl in
          omega (arith, used, yes, no)
      | inr other ↦
          let yes : is_used f.order img at ≡ 0 = rw (ne_eqb (magic_of f.order img at) USED other) refl in
          let no : is_unused f.order img at ≡ 1 = rw (ne_eqb (magic_of f.order img at) USED other) refl in
          omega (arith, used, yes, no)
    ] in
    record {
      chained = told;
      frees = subst (AllTold (λ _. free_list) f img) (sym free) p.frees;
      same = λ w. omega (arith, p.same w, more w, ap (left w) free, sum_by_push w xs at);
      live = omega (arith, live, p.live, used, more (is_used f.order img));
      dead = omega (arith, dead, p.dead, unused, more (is_unused f.order img));
      free_records = free_records ∙ p.free_records ∙ ap (left (λ _. 1)) (sym free);
    }

-- a free record
pub put_free : (f : Form) (img xs : List ℕ) (old new : AllLinks) (at : ℕ) → PutDown f img xs old → AllTold (λ _. free_list) f img new.free → ((w : ℕ → ℕ) → left w new.free ≡ left w old.free + w at)
    → new.chained ≡ old.chained → new.live ≡ old.live → new.dead ≡ old.dead → new.free_records ≡ old.free_records + 1 → PutDown f img (xs ++ at ∷ []) new
put_free f img xs old new at p told more chained live dead free_records = record {
  chained = subst (AllTold chain_number f img) (sym chained) p.chained;
  frees = told;
  same = λ w. omega (arith, p.same w, more w, ap (left w) chained, sum_by_push w xs at);
  live = live ∙ p.live ∙ ap (left (is_used f.order img)) (sym chained);
  dead = dead ∙ p.dead ∙ ap (left (is_unused f.order img)) (sym chained);
  free_records = omega (arith, free_records, p.free_records, more (λ _. 1));
}

-- what a used record holds fits into it, where it stands in a list
standing_fits : (f : Form) (list : ListKind) (img : List ℕ) (at : ℕ) → StandsIn f (kind_of list) img at → magic_of f.order img at ≡ USED → Fits f.order img at
standing_fits f (Chain j) img at s used = (s.filed.1 used).fits
standing_fits f Free img at s used = absurd (omega (arith, s.magic, used))

-- so its key is within the image
pub standing_keyed : (f : Form) (list : ListKind) (img : List ℕ) (at : ℕ) → StandsIn f (kind_of list) img at → IsKeyed f img at
standing_keyed f list img at s used = omega (arith, s.whole.within, standing_fits f list img at s used)

-- and is no longer than it
keys_more : (f : Form) (list : ListKind) (img : List ℕ) (at : ℕ) (xs : List ℕ) → StandsIn f (kind_of list) img at → key_bytes (notes_of f img (xs ++ at ∷ [])) ≤ key_bytes (notes_of f img xs) + rec_len_of f.order img at
keys_more f list img at xs s =
    elim (cases_eq (magic_of f.order img at) USED) [
      | inl used ↦
          let keys = ap key_bytes (notes_push_used f img xs at used) ∙ sum_by_push (λ (e : Noted). e.key_len) (notes_of f img xs) (noted_at f img at) in
          omega (arith, keys, standing_fits f list img at s used)
      | inr other ↦ omega (arith, ap key_bytes (notes_push_other f img xs at other))
    ]

extents_push : (f : Form) (img xs : List ℕ) (at i : ℕ) → times (extents f.order img (xs ++ at ∷ [])) i ≡ times (extents f.order img xs) i + once (extent_at f.order img at) i
extents_push f img [] at i = omega arith
extents_push f img (x ∷ xs) at i = omega (arith, extents_push f img xs at i)

-- no record, and what was passed of the undo area from the data start on
pub gathered_none : (f : Form) (img : List ℕ) (undo rest : Option Extent) (a : AllLinks) (keys : Keys) (to : ℕ) → PutDown f img [] a → KeptIn f img [] keys → data_start f ≤ to
    → ((i : ℕ) → times (area_seen undo) i ≡ once (data_start f, to - data_start f) i + times (area_seen rest) i) → GatheredTo f img undo rest a keys to
gathered_none f img undo rest a keys to put kept above passed = record { xs = []; tiled = λ i. omega (arith, passed i); put = put; kept = kept; short = omega (arith, above) }

-- one more record, and what was passed of the undo area behind it
pub gathered_more : (f : Form) (img : List ℕ) (undo mid rest : Option Extent) (old new : AllLinks) (keys keys2 : Keys) (list : ListKind) (at end to : ℕ) → GatheredTo f img undo mid old keys at → data_start f ≤ at → StandsIn f (kind_of list) img at
    → ((xs : List ℕ) → PutDown f img xs old → PutDown f img (xs ++ at ∷ []) new) → ((xs : List ℕ) → KeptIn f img xs keys → KeptIn f img (xs ++ at ∷ []) keys2)
    → end ≡ at + (24 + rec_len_of f.order img at) → end ≤ to → ((i : ℕ) → times (area_seen mid) i ≡ once (end, to - end) i + times (area_seen rest) i) → GatheredTo f img undo rest new keys2 to
gathered_more f img undo mid rest old new keys keys2 list at end to g above stands puts keeps is high passed = record {
  xs = g.xs ++ at ∷ [];
  tiled = λ i.
      (let start = data_start f in
      let n = 24 + rec_len_of f.order img at in
      let first = once_joined start (at - start) n i in
      let second = once_joined start (end - start) (to - end) i in
      let a : start + (at - start) ≡ at = omega (arith, above) in
      let b : (at - start) + n ≡ end - start = omega (arith, above, is) in
      let c : start + (end - start) ≡ end = omega (arith, above, is) in
      let d : (end - start) + (to - end) ≡ to - start = omega (arith, above, is, high) in
      let one : once (start + (at - start), n) i ≡ once (at, n) i = ap (λ z. once (z, n) i) a in
      let two : once (start, (at - start) + n) i ≡ once (start, end - start) i = ap (λ z. once (start, z) i) b in
      let three : once (start + (end - start), to - end) i ≡ once (end, to - end) i = ap (λ z. once (z, to - end) i) c in
      let four : once (start, (end - start) + (to - end)) i ≡ once (start, to - start) i = ap (λ z. once (start, z) i) d in
      omega (arith, g.tiled i, extents_push f img g.xs at i, passed i, first, second, one, two, three, four));
  put = puts g.xs g.put;
  kept = keeps g.xs g.kept;
  short = omega (arith, g.short, keys_more f list img at g.xs stands, is, high);
}

-- a chain among so many is one among more
pub among_more : (n m : ℕ) (list : ListKind) → n ≤ m → IsAmong n list → IsAmong m list
among_more n m (Chain j) more low = omega (arith, more, low)
among_more n m Free more low = tt
