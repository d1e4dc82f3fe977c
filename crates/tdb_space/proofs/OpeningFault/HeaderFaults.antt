-- A fault of the kind Header is one of the image's own header, or of the header that an undo gives.
use Rattle.std.proofs.Common.{◌≡◌, ℕ, Bool, true, false, not, List, [], ◌∷◌, Option, Some, None, length, refl, sym, ap, subst, inl, inr}
use Rattle.std.specs.Prelude.{◌==◌, if◌then◌else◌, nat_eq, nat_lt}
use Rattle.std.specs.List.{list_any}
use Rattle.std.proofs.lemmas.Bool.{cases_Bool}
use Rattle.std.proofs.lemmas.Option.{same_Some}
use Rattle.tdb_words.specs.declared.record.TheConstants.{GATE_OPEN, GATE_SHUT}
use Rattle.tdb_words.specs.declared.header.HeaderFault.{HeaderFault}
use Rattle.tdb_words.specs.declared.what.What.TheVariants.{Header, Short, AreaBad, UndoBad}
use Rattle.tdb_words.specs.Word.{word}
use Rattle.tdb_words.specs.Header.{header_fault}
use Rattle.tdb_space.specs.Form.{Form, form_of}
use Rattle.tdb_space.specs.FirstFault.{Fault, ListKind, chain_number, free_list, out_of, loop_of, is_short, is_out, is_long, is_bad, has_wrong_tailer, is_misfiled, has_twin, record_fault, front_fault, area_fault, area_fault_at, IsFirstFault, at_front, at_area, in_chain, in_free_list, at_overlap, at_stray}
use Rattle.tdb_space.specs.Record.{rec_len_of, data_len_of, magic_of}
use Rattle.tdb_space.specs.Opening.{Entry, is_bad_cut, is_bad_entry, entry_fault, undo_fault, entries, restored}
use Rattle.tdb_space.specs.OpeningFault.{opening_fault, IsOpeningFault, in_front, in_undo_area, in_restored, IsHeaderFault, own, after_undo}
use Rattle.tdb_space.proofs.FirstFault.Agreed.{front_ok}
use Rattle.tdb_space.proofs.Opening.Undone.{read_as_it_is}
use Rattle.tdb_space.proofs.OpeningFault.OneFault.{opening_from}
use Rattle.tdb_space.proofs.Undoing.Alike.{none_or_some}

-- what is found, if anything, isn't of the kind Header
abbrev NoHeader : Option Fault → Type 0
NoHeader None = Unit {0}
NoHeader (Some e) = e.0 ≡ Header → ⊥

no_header_if : (b : Bool) (e : Fault) (rest : Option Fault) → (e.0 ≡ Header → ⊥) → NoHeader rest → NoHeader (if b then Some e else rest)
no_header_if true e rest here later = here
no_header_if false e rest here later = later

no_header_then : (b : Bool) (first rest : Option Fault) → NoHeader first → NoHeader rest → NoHeader (if b then first else rest)
no_header_then true first rest here later = here
no_header_then false first rest here later = later

found_none : (o : Option Fault) (e : Fault) → NoHeader o → o ≡ Some e → e.0 ≡ Header → ⊥
found_none o e none there = subst NoHeader there none

area_bad : AreaBad ≡ Header → ⊥
area_bad e = cc

undo_bad : UndoBad ≡ Header → ⊥
undo_bad e = cc

no_out : (kind : ListKind) → out_of kind ≡ Header → ⊥
no_out (chain_number j) e = cc
no_out free_list e = cc

no_loop : (kind : ListKind) → loop_of kind ≡ Header → ⊥
no_loop (chain_number j) e = cc
no_loop free_list e = cc

record_none : (f : Form) (kind : ListKind) (img earlier : List ℕ) (place at : ℕ) → NoHeader (record_fault f kind img earlier place at)
record_none f kind img earlier place at =
    no_header_if (is_out f img at) _ _ (no_out kind)
    (no_header_if (list_any (nat_eq at) earlier) _ _ (no_loop kind)
    (no_header_if (is_bad f kind img at) _ _ (λ e. cc)
    (no_header_if (has_wrong_tailer f img at) _ _ (λ e. cc)
    (no_header_if (is_misfiled f kind img at) _ _ (λ e. cc)
    (no_header_if (has_twin f img earlier at) _ _ (λ e. cc) tt)))))

area_none_there : (f : Form) (img : List ℕ) (at : ℕ) → NoHeader (area_fault_at f img at)
area_none_there f img at =
    no_header_if (is_out f img at) _ _ area_bad
    (no_header_if (is_long f img at) _ _ area_bad
    (no_header_if (magic_of f.order img at == GATE_OPEN) _ _ undo_bad
    (no_header_if (not (magic_of f.order img at == GATE_SHUT)) _ _ area_bad tt)))

entry_none : (end size : ℕ) (es : List Entry) → NoHeader (entry_fault end size es)
entry_none end size [] = tt
entry_none end size (e ∷ es) = no_header_if (is_bad_entry end size e) _ _ undo_bad (entry_none end size es)

undo_none : (f : Form) (img : List ℕ) → NoHeader (undo_fault f img)
undo_none f img =
    no_header_if (is_bad_cut f img (word f.order img 44)) _ _ undo_bad
    (no_header_if (nat_lt (rec_len_of f.order img (word f.order img 44)) (data_len_of f.order img (word f.order img 44))) _ _ undo_bad
    (entry_none _ _ (entries f img)))

opening_none : (f : Form) (img : List ℕ) → NoHeader (opening_fault f img)
opening_none f img =
    let x = word f.order img 44 in
    no_header_then (x == 0) None _ tt
    (no_header_if (is_out f img x) _ _ area_bad
    (no_header_if (is_long f img x) _ _ area_bad
    (no_header_then (magic_of f.order img x == GATE_OPEN) _ _ (undo_none f img)
    (no_header_if (not (magic_of f.order img x == GATE_SHUT)) _ _ area_bad tt))))

-- a fault of the front that is of the kind Header
front_header : (img : List ℕ) (e : Fault) → front_fault img ≡ Some e → e.0 ≡ Header → (e.1 ≡ 0) × ((kind : HeaderFault) × (header_fault img ≡ Some kind))
front_header img e h kind =
    elim (none_or_some (header_fault img)) [
      | inr found ↦ (at_start found.1, found)
      | inl fine ↦ absurd (found_none (front_fault img) e (no_front fine) h kind)
    ]
  where
    no_front : header_fault img ≡ None → NoHeader (front_fault img)
    no_front fine = no_header_if (nat_lt (length img) 168) _ _ (λ s. cc) (rw fine (no_header_if (is_short (form_of img) img) _ _ (λ s. cc) tt))

    at_start : {k : HeaderFault} → header_fault img ≡ Some k → e.1 ≡ 0
    at_start bad =
        elim (cases_Bool (nat_lt (length img) 168)) [
          | inl short ↦ (let there : Some (Short, length img) ≡ Some e = rw short at h in absurd (found_none (Some (Short, length img)) e (λ s. cc) there kind))
          | inr long ↦ (let rest = rw long at h in let there : Some (Header, 0) ≡ Some e = rw bad at rest in sym (ap (λ (p : Fault). p.1) (same_Some (Header, 0) e there)))
        ]

-- a first fault of the kind Header is one of the front
first_header : (img : List ℕ) (e : Fault) → IsFirstFault img e → e.0 ≡ Header → front_fault img ≡ Some e
first_header img _ (at_front e h) kind = h
first_header img _ (at_area e front h) kind = absurd (found_none (area_fault (form_of img) img) e (no_header_then (word (form_of img).order img 44 == 0) None _ tt (area_none_there (form_of img) img (word (form_of img).order img 44))) h kind)
first_header img _ (in_chain e j heads low before h) kind = absurd (found_none _ e (record_none (form_of img) (chain_number j) img h.0 h.1 (word (form_of img).order img h.1)) h.4 kind)
first_header img _ (in_free_list e heads chains h) kind = absurd (found_none _ e (record_none (form_of img) free_list img h.0 h.1 (word (form_of img).order img h.1)) h.4 kind)
first_header img _ (at_overlap at lists h) kind = cc
first_header img _ (at_stray at lists apart h) kind = cc

opening_header : (img : List ℕ) (e : Fault) → IsOpeningFault img e → e.0 ≡ Header → IsHeaderFault img e.1
opening_header img _ (in_front e h) kind = (let found = front_header img e h kind in own found.1.0 found.0 found.1.1)
opening_header img _ (in_undo_area e front h) kind = absurd (found_none (opening_fault (form_of img) img) e (opening_none (form_of img) img) h kind)
opening_header img _ (in_restored e front area h) kind =
    let there : front_fault (restored (form_of img) img) ≡ Some e = first_header (restored (form_of img) img) e h kind in
    let found = front_header (restored (form_of img) img) e there kind in
    elim (opening_from (form_of img) img area).1 [
      | inl shut ↦ (let same = ap front_fault (read_as_it_is (form_of img) img shut) in absurd (never same there front))
      | inr u ↦ after_undo found.1.0 found.0 (front_ok img front).header.no_fault u found.1.1
    ]
  where
    never : {a b : Option Fault} {x : Fault} → a ≡ b → a ≡ Some x → b ≡ None → ⊥
    never same some none = cc

pub header_fault_is : (img : List ℕ) (at : ℕ) → IsOpeningFault img (Header, at) → IsHeaderFault img at
header_fault_is img at h = opening_header img (Header, at) h refl
