-- A prepared commit whose gate is shut with nothing written: all stays as it was.
use Rattle.std.proofs.Common.{◌≡◌, ◌∙◌, ℕ, ◌+◌, ◌<◌, ◌≤◌, ◌⊎◌, List, length, slice_index, sym, ap, subst, inl, inr, arith}
use Rattle.tdb_disk.specs.History.{History, seen}
use Rattle.tdb_disk.specs.Image.{overlay}
use Rattle.tdb_disk.specs.Stop.{LeavesOnly, Quiet}
use Rattle.tdb_disk.proofs.Image.{length-overlay, overlay_below, overlay_above}
use Rattle.tdb_disk.proofs.Runs.{leaves_weaker}
use Rattle.tdb_words.specs.declared.record.TheConstants.{GATE_OPEN, GATE_SHUT}
use Rattle.tdb_words.specs.Word.{word, bytes_of_word}
use Rattle.tdb_words.proofs.Words.{word_agrees}
use Rattle.tdb_space.specs.Form.{form_of}
use Rattle.tdb_space.specs.Record.{rec_len_of, magic_of}
use Rattle.tdb_space.specs.Gate.{InContent}
use Rattle.tdb_space.specs.Moved.{StaysAccepted}
use Rattle.tdb_space.specs.Scheme.{Within}
use Rattle.tdb_space.specs.Undoing.{Reopens, area_at, area_end}
use Rattle.tdb_space.proofs.Gate.Contents.{content_free}
use Rattle.tdb_space.proofs.Moved.SameLists.{stays_reopens}
use Rattle.tdb_space.proofs.Exchange.Overlaid.{word_length, word_put}
use Rattle.tdb_space.proofs.Planned.Ready.{area_within}
use Rattle.tdb_space.proofs.Scheme.WritesUndone.{within_itself}
use Rattle.tdb_txn.specs.Commit.{scheme_of, opened, Brings, IsPrepared, IsUndone}
use Rattle.tdb_txn.specs.declared.planned.Plan.{Plan}
use Rattle.tdb_txn.proofs.Words.{WithWord}
use Rattle.tdb_txn.proofs.StatesKept.{fills_of}

module _ (plan : Plan) (a b : List ℕ) (brings : Brings plan a b) where
  abbrev gate : ℕ
  gate = plan.area + 20

  abbrev shut : List ℕ
  shut = overlay (opened plan a) gate (bytes_of_word plan.header.order GATE_SHUT)

  place : (plan.area + plan.area_length ≤ length a) × (52 ≤ plan.area)
  place = let w = area_within (scheme_of plan) a b brings.before brings.planned in (w.2, omega (arith, w.1))

  size : length shut ≡ length a
  size = length-overlay (opened plan a) gate (bytes_of_word plan.header.order GATE_SHUT) ∙ length-overlay a gate (bytes_of_word plan.header.order GATE_OPEN)

  -- beside the gate all bytes stay
  others : (i : ℕ) → (i < gate) ⊎ (gate + 4 ≤ i) → slice_index shut i ≡ slice_index a i
  others i out =
      let s = bytes_of_word plan.header.order GATE_SHUT in
      let o = bytes_of_word plan.header.order GATE_OPEN in
      let s_long : length s ≡ 4 = word_length plan.header.order GATE_SHUT in
      let o_long : length o ≡ 4 = word_length plan.header.order GATE_OPEN in
      elim out [
        | inl low ↦ overlay_below (opened plan a) gate s i low ∙ overlay_below a gate o i low
        | inr high ↦ overlay_above (opened plan a) gate s i (omega (arith, high, s_long)) ∙ overlay_above a gate o i (omega (arith, high, o_long))
      ]

  content : InContent (form_of a) a shut
  content =
      let at : area_at (form_of a) a ≡ plan.area = brings.planned.there in
      let len : rec_len_of (form_of a).order a (area_at (form_of a) a) ≡ rec_len_of (form_of a).order a plan.area = ap (rec_len_of (form_of a).order a) at in
      let end : area_end (form_of a) a ≡ plan.area + plan.area_length = omega (arith, at, len, brings.planned.long) in
      record {
        some = brings.planned.some;
        size = size;
        others = λ i out. others i (elim out [
          | inl low ↦ inl (omega (arith, low, at))
          | inr high ↦ inr (omega (arith, high, end, plan.whole_header))
        ]);
        rec_len = word_agrees (form_of a).order shut a (area_at (form_of a) a + 4) (λ i from to. others i (inl (omega (arith, to, at))));
        shut =
            ap (magic_of (form_of a).order shut) at
            ∙ ap (λ o. word o shut gate) (sym brings.planned.order)
            ∙ word_put plan.header.order (opened plan a) gate GATE_SHUT (omega arith)
            (omega (arith, place.0, plan.whole_header, length-overlay a gate (bytes_of_word plan.header.order GATE_OPEN)));
      }

  pub shut_stays : StaysAccepted (form_of a) a shut
  shut_stays = content_free (form_of a) a shut brings.before content

  pub shut_reopens : Reopens a shut
  shut_reopens = stays_reopens a shut shut_stays (λ i from to. others i (inl (omega (arith, to, place.1))))

-- with the gate open or shut again, the file opens to the map before
pub undo_stops : (plan : Plan) (h new : History) (a b w : List ℕ) → w ≡ bytes_of_word plan.header.order GATE_SHUT → IsPrepared plan h a b
    → LeavesOnly h new (WithWord h (plan.area + 20) w) → LeavesOnly h new (Reopens a)
undo_stops plan h new a b w is state left =
    leaves_weaker h new (WithWord h (plan.area + 20) w) (Reopens a)
    (λ c with_or. elim with_or [
      | inl same ↦ (fills_of plan a b state.brings).undoes c
          (subst (Within (scheme_of plan) (opened plan a)) (sym (same ∙ state.file)) (within_itself (scheme_of plan) (opened plan a)))
      | inr put ↦ subst (Reopens a)
          (sym (put ∙ ap (overlay (seen h) (plan.area + 20)) is ∙ ap (λ x. overlay x (plan.area + 20) (bytes_of_word plan.header.order GATE_SHUT)) state.file))
          (shut_reopens plan a b state.brings)
    ]) left

-- and then all is as it was
pub undo_done : (plan : Plan) (h new : History) (a b w : List ℕ) → w ≡ bytes_of_word plan.header.order GATE_SHUT → IsPrepared plan h a b
    → seen new ≡ overlay (seen h) (plan.area + 20) w → Quiet new → IsUndone new a
undo_done plan h new a b w is state put quiet = record {
  quiet = quiet;
  stays = subst (StaysAccepted (form_of a) a)
      (sym (put ∙ ap (overlay (seen h) (plan.area + 20)) is ∙ ap (λ x. overlay x (plan.area + 20) (bytes_of_word plan.header.order GATE_SHUT)) state.file))
      (shut_stays plan a b state.brings);
}
