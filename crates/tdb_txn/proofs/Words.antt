-- What a stop leaves of a word that is written by itself.
use Rattle.std.proofs.Common.{◌≡◌, ◌⊎◌, ℕ, List, refl, inl}
use Rattle.tdb_disk.specs.History.{History, seen, synced, wrote_word, Tried}
use Rattle.tdb_disk.specs.Image.{overlay}
use Rattle.tdb_disk.specs.Stop.{LeavesOnly, Quiet}
use Rattle.tdb_disk.proofs.Runs.{leaves_quiet, leaves_tried, leaves_then_sync, quiet_word}

-- with the word or without it
abbrev pub WithWord : History → ℕ → List ℕ → List ℕ → Type 0
WithWord h at w c = (c ≡ seen h) ⊎ (c ≡ overlay (seen h) at w)

-- after the write
pub word_tried : (h one : History) (at : ℕ) (w : List ℕ) → Quiet h → Tried (wrote_word at w) h one → LeavesOnly h one (WithWord h at w)
word_tried h one at w quiet tried =
    leaves_tried h h one (wrote_word at w) (WithWord h at w) (leaves_quiet h (WithWord h at w) quiet (inl refl))
    (λ image left. quiet_word h at w image quiet left) tried

-- and after the sync
pub word_synced : (h one two : History) (at : ℕ) (w : List ℕ) → Quiet h → Tried (wrote_word at w) h one → Tried synced one two → LeavesOnly h two (WithWord h at w)
word_synced h one two at w quiet tried after = leaves_then_sync h one two (WithWord h at w) (word_tried h one at w quiet tried) after
