-- What holds over a view of a mended file, which leaves the file under it as it is.
use Rattle.std.proofs.Common.{◌≡◌, ℕ, ◌-◌, ◌≤◌, List, ◌∷◌, take, drop, refl, sym, ◌∙◌, ap, inl, inr, arith}
use Rattle.std.proofs.lemmas.List.{take_all, length-drop}
use Rattle.tdb_disk.specs.History.{History, Tried, seen, synced}
use Rattle.tdb_txn.specs.Pages.{byte_over, length_filled}
use Rattle.tdb_txn.specs.Txn.{txn_image, txn_pages, txn_size}
use Rattle.tdb_txn.specs.declared.txn.Txn.{Txn}
use Rattle.tdb_mend.specs.declared.file.MendedFile.{MendedFile}
use Rattle.tdb_mend.specs.View.{mended_view, SameFile}
use Rattle.tdb_mend.proofs.Viewed.{part_shown}

-- the first name of two is the same
pub first_name : (a b : ℕ) (rest more : List ℕ) → ◌≡◌ {A = List ℕ} (a ∷ rest) (b ∷ more) → a ≡ b
first_name a b rest more same = cc

-- and so is what stands behind them
pub third_name : (a b c d e f : ℕ) (rest more : List ℕ) → ◌≡◌ {A = List ℕ} (a ∷ b ∷ c ∷ rest) (d ∷ e ∷ f ∷ more) → c ≡ f
third_name a b c d e f rest more same = cc

-- all of what stands behind an offset is shown
pub all_behind : (txn : Txn) (base now : List ℕ) (start len : ℕ) → len ≡ txn_size txn - start → txn_image txn now ≡ base → take len (drop start (txn_image txn now)) ≡ drop start base
all_behind txn base now start len long is =
    take_all len (drop start (txn_image txn now)) (omega (arith, long, length-drop start (txn_image txn now), length_filled (byte_over (txn_pages txn) now) (txn_size txn)))
    ∙ ap (drop start) is

-- what is shown of a mended file that is cut
pub cut_view : (m : MendedFile) (base : List ℕ) (len : ℕ) → len ≤ m.len → take len (drop m.start (txn_image m.pages base)) ≡ take len (mended_view m base)
cut_view m base len within = part_shown (drop m.start (txn_image m.pages base)) m.len 0 len (omega (arith, within))

-- a sync changes no byte, whether it was made or not
pub synced_same : (old new : History) → Tried synced old new → seen new ≡ seen old
synced_same old new (inl same) = ap seen same
synced_same old new (inr done) = ap seen done

-- a mended file that stays as it is, and through two calls
pub same_now : (base : List ℕ) (m : MendedFile) → SameFile base m m
same_now base m = record { view = refl; bounds = record { form = refl; file = refl; start = refl; length = refl } }

pub same_then : (base was : List ℕ) (a b c : MendedFile) → was ≡ base → SameFile base a b → SameFile was b c → SameFile base a c
same_then base was a b c e one two = record {
  view = (λ j. mended_view c (sym e j)) ∙ two.view ∙ (λ j. mended_view b (e j)) ∙ one.view;
  bounds = record {
    form = two.bounds.form ∙ one.bounds.form;
    file = two.bounds.file ∙ one.bounds.file;
    start = two.bounds.start ∙ one.bounds.start;
    length = two.bounds.length ∙ one.bounds.length;
  };
}
