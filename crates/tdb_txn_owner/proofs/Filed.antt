-- What a turn of a commit makes of the map and the number of the file.
use Rattle.std.proofs.Common.{◌≡◌, ℕ, Bool, true, false, Some, refl, sym, ◌∙◌, ap, arith}
use Rattle.std.specs.Prelude.{◌&&◌, ◌==◌, if◌then◌else◌}
use Rattle.std.proofs.lemmas.Bool.Decides.{nat_tests}
use Rattle.tdb_space.specs.Form.{Form}
use Rattle.tdb_law.specs.Commands.{Reply, Turn}
use Rattle.tdb_law.specs.Commands.Turn.{Ends}
use Rattle.tdb_law.specs.Openers.{Own, Txn}
use Rattle.tdb_law.specs.Images.{image_map}
use Rattle.tdb_law.specs.Rows.{commits_in}
use Rattle.tdb_steps.specs.Turns.{number_of}
use Rattle.tdb_txn_owner.specs.Ends.{shuts, CommitsFile}
use Rattle.tdb_txn_owner.specs.Stages.{HasNumbers, Known}

-- from the turn on that shuts the gate the file has the image
abbrev pub known_by : Known → Bool → Known
known_by k b = if b then record { file = k.image; image = k.image } else k

module _ (f : Form) (k : Known) (x : Own) (txn : Txn) (number : ℕ) (has : x.txn ≡ Some txn) (map : txn.image ≡ image_map f k.image) (N : HasNumbers f k number x) where
  map_by : (b : Bool) → image_map f (known_by k b).file ≡ (if b then txn.image else image_map f k.file)
  map_by true = sym map
  map_by false = refl

  number_by : (b counts : Bool) → txn.numbered ≡ counts → number_of f (known_by k b).file ≡ (if b && txn.numbered then number else number_of f k.file)
  number_by false counts is = refl
  number_by true true is = rw is (sym (N.image txn has))
  number_by true false is = rw is (N.still txn has is)

  pub file_by : (last n : ℕ) (u : Turn) → (u ≡ Ends Reply.Done → commits_in txn ≡ true → k.image ≡ k.file)
      → CommitsFile last n u txn number (image_map f k.file) (image_map f (known_by k (shuts last n u)).file) (number_of f k.file) (number_of f (known_by k (shuts last n u)).file)
  file_by last n u done = record {
    map = map_by (shuts last n u);
    number = number_by (shuts last n u) txn.numbered refl;
    done = λ ends change. (let same = done ends change in record { map = map ∙ ap (image_map f) same; number = λ counts. ap (number_of f) (sym same) ∙ sym (N.image txn has) });
  }

  pub numbers_by : (b : Bool) → HasNumbers f (known_by k b) number x
  numbers_by true = record { image = N.image; still = λ t own counts. refl }
  numbers_by false = N

-- the turn with so many steps before it is this one, or another
pub same_number : (n m : ℕ) → (n == m) ≡ true → n ≡ m
same_number n m e = grind (arith, nat_tests)

pub other_number : (n m : ℕ) → (n == m) ≡ false → n ≡ m → ⊥
other_number n m e same = grind (arith, nat_tests)
