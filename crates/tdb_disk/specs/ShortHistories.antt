-- Short histories of a file of eight bytes: images that a stop may leave, and images that it may not.
use Rattle.std.specs.Prelude.{ℕ, List, [], ◌∷◌}
use Rattle.tdb_disk.specs.History.{wrote, wrote_word, grew, cut, synced, History, began, called}
use Rattle.tdb_disk.specs.Stop.{Leaves}

abbrev pub eight : List ℕ
eight = 1 ∷ 2 ∷ 3 ∷ 4 ∷ 5 ∷ 6 ∷ 7 ∷ 8 ∷ []

-- four bytes with this value
abbrev pub four : ℕ → List ℕ
four byte = byte ∷ byte ∷ byte ∷ byte ∷ []

-- a write over the last four bytes
abbrev pub written : History
written = called (began eight) (wrote 4 (four 9))

-- the same as a word
abbrev pub word_written : History
word_written = called (began eight) (wrote_word 4 (four 9))

-- a growth by two words
abbrev pub grown : History
grown = called (began eight) (grew 16)

-- a cut to the first word, and a write over it
abbrev pub cut_and_written : History
cut_and_written = called (called (began eight) (cut 4)) (wrote 0 (four 9))

pub record ShortHistories : Type 0 where
  pub any_bytes_written : Leaves written (1 ∷ 2 ∷ 3 ∷ 4 ∷ 165 ∷ 6 ∷ 9 ∷ 0 ∷ [])
  pub none_outside_it : ¬ Leaves written (0 ∷ 2 ∷ 3 ∷ 4 ∷ 9 ∷ 9 ∷ 9 ∷ 9 ∷ [])
  pub word_old : Leaves word_written eight
  pub word_new : Leaves word_written (1 ∷ 2 ∷ 3 ∷ 4 ∷ 9 ∷ 9 ∷ 9 ∷ 9 ∷ [])
  pub word_not_torn : ¬ Leaves word_written (1 ∷ 2 ∷ 3 ∷ 4 ∷ 9 ∷ 9 ∷ 7 ∷ 8 ∷ [])
  pub length_between : Leaves grown (1 ∷ 2 ∷ 3 ∷ 4 ∷ 5 ∷ 6 ∷ 7 ∷ 8 ∷ 0 ∷ 0 ∷ 0 ∷ 0 ∷ [])
  pub not_half_a_word : ¬ Leaves grown (1 ∷ 2 ∷ 3 ∷ 4 ∷ 5 ∷ 6 ∷ 7 ∷ 8 ∷ 0 ∷ 0 ∷ [])
  pub growth_is_zero : ¬ Leaves grown (1 ∷ 2 ∷ 3 ∷ 4 ∷ 5 ∷ 6 ∷ 7 ∷ 8 ∷ 7 ∷ 0 ∷ 0 ∷ 0 ∷ [])
  pub write_without_its_cut : Leaves cut_and_written (9 ∷ 7 ∷ 9 ∷ 7 ∷ 5 ∷ 6 ∷ 7 ∷ 8 ∷ [])
  pub cut_bytes_as_they_were : ¬ Leaves cut_and_written (1 ∷ 2 ∷ 3 ∷ 4 ∷ 9 ∷ 6 ∷ 7 ∷ 8 ∷ [])
  pub sync_is_whole : Leaves (called written synced) (1 ∷ 2 ∷ 3 ∷ 4 ∷ 9 ∷ 9 ∷ 9 ∷ 9 ∷ [])
  pub sync_is_last : ¬ Leaves (called written synced) eight
