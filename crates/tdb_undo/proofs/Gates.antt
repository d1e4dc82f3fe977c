-- Where the gate word of an undo area stands, and what a stop leaves of a call that writes it.
use Rattle.std.proofs.Common.{◌≡◌, ℕ, ◌+◌, ◌⊎◌, List, refl, sym, ◌∙◌, ap, subst, inl, inr, arith}
use Rattle.tdb_disk.specs.History.{History, called, seen, synced, wrote_word, Tried}
use Rattle.tdb_disk.specs.Image.{overlay}
use Rattle.tdb_disk.specs.Stop.{LeavesOnly, Quiet}
use Rattle.tdb_disk.proofs.Runs.{leaves_quiet, leaves_tried, leaves_then_sync, quiet_word}
use Rattle.tdb_words.specs.Word.{word, bytes_of_word}
use Rattle.tdb_words.specs.declared.record.TheConstants.{GATE_OPEN}
use Rattle.tdb_words.proofs.Words.{word_agrees}
use Rattle.tdb_space.specs.Form.{Form, form_of}
use Rattle.tdb_space.specs.Accepted.{AreaOk, Accept}
use Rattle.tdb_space.specs.Opening.{Undoable}
use Rattle.tdb_space.specs.Undoing.{area_at, Reopens}
use Rattle.tdb_space.specs.Gate.{with_gate_word, gate_opened, IsReadyToOpen}
use Rattle.tdb_space.proofs.Undoing.Alike.{exact_reopens}
use Rattle.tdb_space.proofs.RecoverySteps.Emptying.{word_beside}
use Rattle.tdb_space.proofs.Gate.OpenGate.{gate_keeps}
use Rattle.tdb_undo.specs.Gate.{HasGate}

pub undoable_gate : (f : Form) (a : List ℕ) → Undoable f a → HasGate f a
undoable_gate f a u = record { aligned = u.in_place.aligned; above = omega (arith, u.in_place.above); within = omega (arith, u.in_place.within) }

-- an accepted image that is ready has an undo area
pub ready_gate : (f : Form) (a : List ℕ) → Accept a → form_of a ≡ f → IsReadyToOpen f a → HasGate f a
ready_gate f a accepted is ready = elim (subst (λ g. AreaOk g a) is accepted.area_ok) [
  | inr there ↦ record { aligned = there.aligned; above = omega (arith, there.above); within = omega (arith, there.within) }
  | inl none ↦ absurd (
      let b = gate_opened f a in
      let same : word f.order b 44 ≡ word f.order a 44 = word_agrees f.order b a 44 (λ i from to. word_beside f.order a (area_at f a + 20) GATE_OPEN i (inr (omega (arith, none, from)))) in
      omega (arith, same, none, ready.undoable.in_place.above))
]

-- the word, and the sync
module _ (f : Form) (h one two : History) (w : ℕ) (bytes : List ℕ) (is : bytes ≡ bytes_of_word f.order w) where
  abbrev P : List ℕ → Type 0
  P c = (c ≡ seen h) ⊎ (c ≡ with_gate_word w f (seen h))

  pub gate_one : Quiet h → Tried (wrote_word (area_at f (seen h) + 20) bytes) h one → LeavesOnly h one P
  gate_one quiet tried =
      leaves_tried h h one (wrote_word (area_at f (seen h) + 20) bytes) P (leaves_quiet h P quiet (inl refl))
      (λ image left. elim (quiet_word h (area_at f (seen h) + 20) bytes image quiet left) [ inl same ↦ inl same | inr whole ↦ inr (whole ∙ ap (overlay (seen h) (area_at f (seen h) + 20)) is) ]) tried

  pub gate_two : Quiet h → one ≡ called h (wrote_word (area_at f (seen h) + 20) bytes) → Tried synced one two → LeavesOnly h two P
  gate_two quiet is_one tried = leaves_then_sync h one two P (gate_one quiet (inr is_one)) tried

  pub gate_seen : one ≡ called h (wrote_word (area_at f (seen h) + 20) bytes) → two ≡ called one synced → seen two ≡ with_gate_word w f (seen h)
  gate_seen is_one is_two = ap seen is_two ∙ ap seen is_one ∙ ap (overlay (seen h) (area_at f (seen h) + 20)) is

-- with the gate shut or open, the image reopens
pub opened_reopens : (f : Form) (a c : List ℕ) → Accept a → form_of a ≡ f → IsReadyToOpen f a → (c ≡ a) ⊎ (c ≡ with_gate_word GATE_OPEN f a) → Reopens a c
opened_reopens f a c accepted is ready (inl same) = subst (Reopens a) (sym same) (exact_reopens a accepted)
opened_reopens f a c accepted is ready (inr opened) = subst (Reopens a) (sym (opened ∙ ap (λ g. gate_opened g a) (sym is))) (gate_keeps a accepted (subst (λ g. IsReadyToOpen g a) (sym is) ready)).1
