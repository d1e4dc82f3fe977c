-- A file that grew keeps its pairs and its undo area.
use Rattle.std.proofs.Common.{◌≡◌, ℕ, ◌+◌, ◌%◌, ◌≤◌, ◌<◌, List, [], length, slice_index, refl, sym, ◌∙◌, ap, subst, inl, inr, arith}
use Rattle.tdb_disk.specs.History.{History, grew, called, seen, Tried}
use Rattle.tdb_disk.specs.Stop.{LeavesOnly, Quiet, Grown}
use Rattle.tdb_disk.proofs.Stop.{leaves_seen}
use Rattle.tdb_disk.proofs.Runs.{leaves_start}
use Rattle.tdb_words.specs.Word.{word}
use Rattle.tdb_words.specs.Record.{rec_at}
use Rattle.tdb_words.proofs.Words.{word_agrees}
use Rattle.tdb_space.specs.Form.{Form, form_of}
use Rattle.tdb_space.specs.Accepted.{Accept, AcceptWith}
use Rattle.tdb_space.specs.NewArea.{Longer}
use Rattle.tdb_space.specs.Undoing.{Reopens}
use Rattle.tdb_space.proofs.NewArea.AreaSets.{longer_stays, grown_longer}
use Rattle.tdb_undo.specs.Area.{area_of}
use Rattle.tdb_undo.specs.Growth.{GrewAtMost}
use Rattle.tdb_undo.proofs.Clears.{stays_reopens}

pub longer_itself : (a : List ℕ) → length a % 4 ≡ 0 → Longer a a
longer_itself a words = record {
  longer = omega arith;
  sized = words;
  front = λ i _. refl;
  zeros = λ i from to. absurd (omega (arith, from, to));
}

-- a quiet disk
pub quiet_grew : (h : History) → length (seen h) % 4 ≡ 0 → Quiet h → GrewAtMost (seen h) h
quiet_grew h words quiet = λ c left. subst (Longer (seen h)) (sym (quiet c left)) (longer_itself (seen h) words)

-- a growth of its file to a whole number of words, whatever it answered
pub growth_grew : (h new : History) (to : ℕ) → length (seen h) % 4 ≡ 0 → to % 4 ≡ 0 → Quiet h → Tried (grew to) h new → GrewAtMost (seen h) new
growth_grew h new to words even quiet (inl same) = subst (GrewAtMost (seen h)) (sym same) (quiet_grew h words quiet)
growth_grew h new to words even quiet (inr done) =
    subst (GrewAtMost (seen h)) (sym done)
    (λ c left. grown_longer (seen h) c to words even (subst (λ from. Grown (length (seen h)) to from c) (quiet left.0 left.1) left.2))

-- what is seen then
pub grew_seen : (a : List ℕ) (h : History) → GrewAtMost a h → Longer a (seen h)
grew_seen a h grown = grown (seen h) (leaves_seen h)

module _ (f : Form) (a c : List ℕ) (A : AcceptWith f a []) (g : Longer a c) where
  same_word : (at : ℕ) → at + 4 ≤ length a → word f.order c at ≡ word f.order a at
  same_word at within = word_agrees f.order c a at (λ i from to. g.front i (omega (arith, to, within)))

  header_within : word f.order a 44 + 24 ≤ length a
  header_within = elim A.area_ok [ inl none ↦ omega (arith, none, A.long) | inr there ↦ omega (arith, there.within) ]

  -- the undo area is the same
  pub longer_area : area_of f.order c ≡ area_of f.order a
  longer_area =
      let there = same_word 44 (omega (arith, A.long)) in
      let head : rec_at f.order c (word f.order a 44) ≡ rec_at f.order a (word f.order a 44) = λ j. record {
        next = same_word (word f.order a 44) (omega (arith, header_within)) j;
        rec_len = same_word (word f.order a 44 + 4) (omega (arith, header_within)) j;
        key_len = same_word (word f.order a 44 + 8) (omega (arith, header_within)) j;
        data_len = same_word (word f.order a 44 + 12) (omega (arith, header_within)) j;
        full_hash = same_word (word f.order a 44 + 16) (omega (arith, header_within)) j;
        magic = same_word (word f.order a 44 + 20) (omega (arith, header_within)) j;
      } in
      λ j. record { at = there j; header = (ap (rec_at f.order c) there ∙ head) j }

  pub longer_number : (i : ℕ) → 48 ≤ i → i < 52 → slice_index c i ≡ slice_index a i
  longer_number i from to = g.front i (omega (arith, to, A.long))

-- while nothing is written, a stop leaves a file that opens to the same map
pub grew_reopens : (f : Form) (a : List ℕ) (h : History) → Accept a → form_of a ≡ f → GrewAtMost a h → LeavesOnly h h (Reopens a)
grew_reopens f a h A is grown =
    let accepted : AcceptWith f a [] = subst (λ g. AcceptWith g a []) is A in
    leaves_start h (Reopens a) (λ c left. stays_reopens f a c A is (longer_stays f a c accepted (grown c left)) (longer_number f a c accepted (grown c left)))
