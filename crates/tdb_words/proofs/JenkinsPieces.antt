-- What Jenkins' hash holds as pieces come, and what it gives at the end.
use Rattle.std.proofs.Common.{◌≡◌, ℕ, ◌+◌, ◌*◌, ◌-◌, ◌/◌, ◌<◌, ◌≤◌, List, [], ◌∷◌, ◌++◌, length, take, drop, fold, sym, ap, ◌∙◌, arith, length-append, replicate, inl, inr}
use Rattle.std.specs.Prelude.{slice_index}
use Rattle.std.proofs.lemmas.List.{take_all, drop-append-le, get_or-drop, get_or-replicate, get_or_append_left, get_or-append_right, get_or_past}
use Rattle.std.proofs.lemmas.List.Sums.{fold_push, fold-append}
use Rattle.std.proofs.lemmas.Bool.{cases_lt, ne_eqb, eq-eqb}
use Rattle.std.proofs.Math.Seq.{drop-append-add}
use Rattle.tdb_words.specs.declared.jenkins.Mixer.{Mixer}
use Rattle.tdb_words.specs.Hash.{twelves, words_plus, round, mix_of, start_words, final_of, h_jenkins}
use Rattle.tdb_words.specs.Running.{JenkinsHolds}
use Rattle.tdb_words.proofs.Twelves.{added_alike, twelves_join, twelves_front, twelves_more}

-- bytes that wait too
pub holds_waiting : (m : Mixer) (w v : List ℕ) (h k n : ℕ) (bytes piece : List ℕ) → k ≡ h + length piece → take k v ≡ take h w ++ piece → JenkinsHolds m w h n bytes → JenkinsHolds m v k n (bytes ++ piece)
holds_waiting m w v h k n bytes piece held wait x =
    let size = length-append bytes piece in
    let front : 12 * x.full ≤ length bytes = omega (arith, x.count) in
    record {
      full = x.full;
      count = omega (arith, x.count, held, size);
      none_waits = λ none. x.none_waits (omega (arith, none, held));
      words = x.words ∙ ap (fold round (start_words n)) (sym (twelves_front x.full bytes piece front));
      last = wait ∙ ap (λ r. r ++ piece) x.last ∙ sym (drop-append-le (12 * x.full) bytes piece front);
    }

-- rounds for the twelve bytes that waited and for twelves of the rest
pub holds_mixed : (m : Mixer) (w v : List ℕ) (q n k : ℕ) (bytes rest : List ℕ) → length w ≡ 12 → 0 < q → 12 * k + q ≡ length rest → take q v ≡ drop (12 * k) rest → JenkinsHolds m w 12 n bytes → JenkinsHolds (fold round (mix_of (words_plus m w)) (twelves k rest)) v q n (bytes ++ rest)
holds_mixed m w v q n k bytes rest whole some size wait x =
    let waited : drop (12 * x.full) bytes ≡ w = sym x.last ∙ take_all 12 w (omega (arith, whole)) in
    let piece : take 12 (drop (12 * x.full) bytes) ≡ w = ap (take 12) waited ∙ take_all 12 w (omega (arith, whole)) in
    let cut : twelves (x.full + 1 + k) (bytes ++ rest) ≡ (twelves x.full bytes ++ w ∷ []) ++ twelves k rest =
    twelves_join (x.full + 1) k bytes rest (omega (arith, x.count)) ∙ ap (λ t. t ++ twelves k rest) (twelves_more x.full bytes ∙ ap (λ p. twelves x.full bytes ++ p ∷ []) piece) in
    let far : length bytes + 12 * k ≡ 12 * (x.full + 1 + k) = omega (arith, x.count) in
    record {
      full = x.full + 1 + k;
      count = omega (arith, x.count, size, length-append bytes rest);
      none_waits = λ none. absurd (omega (arith, none, some));
      words =
          ap (λ s. fold round (mix_of (words_plus s w)) (twelves k rest)) x.words
          ∙ ap (λ s. fold round s (twelves k rest)) (sym (fold_push round (start_words n) (twelves x.full bytes) w))
          ∙ sym (fold-append round (start_words n) (twelves x.full bytes ++ w ∷ []) (twelves k rest))
          ∙ ap (fold round (start_words n)) (sym cut);
      last = wait ∙ sym (drop-append-add bytes rest (12 * k)) ∙ ap (λ d. drop d (bytes ++ rest)) far;
    }

-- the hash of no bytes
pub ended_empty : (m : Mixer) (w : List ℕ) (h : ℕ) (bytes : List ℕ) → h ≡ 0 → JenkinsHolds m w h (length bytes) bytes → m.c ≡ h_jenkins bytes
unfolding h_jenkins
ended_empty m w h bytes none x =
    let all : x.full ≡ 0 = x.none_waits none in
    let size : length bytes ≡ 0 = omega (arith, x.count, none, all) in
    let full : x.full ≡ (length bytes - 1) / 12 = omega (arith, all, size) in
    rw (eq-eqb (length bytes) 0 size) (ap (λ s. s.c) (x.words ∙ ap (λ k. fold round (start_words (length bytes)) (twelves k bytes)) full))

-- the hash of some bytes, where those that wait are filled with zeros
pub ended_filled : (m : Mixer) (w last : List ℕ) (h : ℕ) (bytes : List ℕ) → 0 < h → h ≤ 12 → ((i : ℕ) → i < 12 → slice_index last i ≡ slice_index (take h w) i) → JenkinsHolds m w h (length bytes) bytes → final_of (words_plus m last) ≡ h_jenkins bytes
unfolding h_jenkins
ended_filled m w last h bytes some most same x =
    let full : (length bytes - 1) / 12 ≡ x.full = omega (arith, x.count) in
    let size : length bytes ≡ 0 → ⊥ = λ e. omega (arith, x.count, e) in
    let filled : words_plus m last ≡ words_plus m (take h w) = added_alike m last (take h w) same in
    rw (ne_eqb (length bytes) 0 size, full) (ap final_of (filled ∙ (λ j. words_plus (x.words j) (x.last j))))

-- bytes with zeros after them read as the bytes do
pub zeros_after : (xs : List ℕ) (h i : ℕ) → length xs ≡ h → i < 12 → slice_index (xs ++ drop h (replicate 12 0)) i ≡ slice_index xs i
zeros_after xs h i size low =
    elim (cases_lt i h) [
      | inl inside ↦ get_or_append_left xs (drop h (replicate 12 0)) 0 i (omega (arith, size, inside))
      | inr past ↦
          get_or-append_right xs (drop h (replicate 12 0)) h i 0 size past
          ∙ get_or-drop h (replicate 12 0) (i - h) 0
          ∙ get_or-replicate 12 (h + (i - h)) 0 0 (omega (arith, past, low))
          ∙ sym (get_or_past xs i 0 (omega (arith, size, past)))
    ]
