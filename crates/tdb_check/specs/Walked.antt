-- Records that follow one another, each without a fault but that an earlier one may have its key.
use Rattle.std.specs.Prelude.{◌≡◌, ◌≢◌, ℕ, List, [], ◌∷◌, ◌++◌, Option, Some, None, nat_eq, if◌then◌else◌}
use Rattle.std.specs.List.{list_any}
use Rattle.tdb_words.specs.Word.{word}
use Rattle.tdb_space.specs.Form.{Form}
use Rattle.tdb_space.specs.FirstFault.{Fault, ListKind, is_out, out_of, loop_of}
use Rattle.tdb_check.specs.Seen.{own_fault}

-- what is wrong with the record that the word at a place leads to, after these records of its list, whatever their keys
-- are
abbrev pub fault_but_twin : Form → ListKind → List ℕ → List ℕ → ℕ → ℕ → Option Fault
fault_but_twin f kind img earlier place at =
    if is_out f img at then Some (out_of kind, place)
    else if list_any (nat_eq at) earlier then Some (loop_of kind, place)
    else own_fault f kind img at

-- after the earlier records of a list, from the word at a place on, these records follow one another, and none has such
-- a fault
abbrev pub Walked : Form → ListKind → List ℕ → List ℕ → ℕ → List ℕ → ℕ → Type 0
Walked f kind img earlier place [] last = last ≡ place
Walked f kind img earlier place (x ∷ xs) last =
    (word f.order img place ≡ x) × (x ≢ 0) × (fault_but_twin f kind img earlier place x ≡ None) × Walked f kind img (earlier ++ x ∷ []) x xs last
