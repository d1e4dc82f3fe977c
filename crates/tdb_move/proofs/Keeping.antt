-- That a key which is moved is at each moment in one of the two files.
use Rattle.std.proofs.Common.{ℕ, zero, suc, List, [], ◌∷◌, refl, subst, arith}
use Rattle.std.proofs.lemmas.Bool.{lt-ltb}
use Rattle.tdb_world.specs.Calm.{OpensToMap}
use Rattle.tdb_world.specs.OverFile.{OverFile}
use Rattle.tdb_group.specs.Members.{Maps, form_of_file}
use Rattle.tdb_group.specs.Stops.{OpenAfter, map_if}
use Rattle.tdb_move.specs.Keeping.{HandsOver, KeyIsThere, KeyStays}

-- behind no file the second has it, and behind more the first
key_in : (key value : List ℕ) (ps : ℕ → Maps) (olds : List OverFile) (images : ℕ → List ℕ) (k : ℕ) → HandsOver key value ps olds → OpenAfter k ps olds images → KeyIsThere key value olds images
key_in key value ps [] images k H opens = absurd (omega (arith, H.two))
key_in key value ps (into ∷ []) images k H opens = absurd (omega (arith, H.two))
key_in key value ps (into ∷ from ∷ rest) images zero H opens = record { at = 1; file = from; there = refl; map = (ps 1).before; opens = opens 1 from refl; gives = H.had }
key_in key value ps (into ∷ from ∷ rest) images (suc k) H opens = record { at = 0; file = into; there = refl; map = (ps 0).after; opens = subst (λ b. OpensToMap (form_of_file into) (map_if b (ps 0)) (images 0)) (lt-ltb 0 (suc k) (omega arith)) (opens 0 into refl); gives = H.gets }

pub key_stays : KeyStays
key_stays key value ps olds news least most H after images left =
    let some = after images left in
    key_in key value ps olds images some.0 H some.3
