-- What the tests of a record's header, tailer and hash say of the record itself.
use Rattle.std.proofs.Common.{◌≡◌, ◌≢◌, ℕ, ◌+◌, true, false, ◌≤◌, ◌||◌, List, length, take, drop, length-take, Some, None, not, eqb, refl, sym, ◌∙◌, ap, arith}
use Rattle.std.specs.Prelude.{◌%◌}
use Rattle.std.proofs.lemmas.Bool.{eq-eqb, ne_eqb}
use Rattle.tdb_words.specs.declared.record.Rec.{Rec}
use Rattle.tdb_words.specs.declared.record.TheConstants.{USED}
use Rattle.tdb_words.specs.declared.word.Order.{Order}
use Rattle.tdb_words.specs.declared.what.What.TheVariants.{BadRecord, Tailer, WrongHash}
use Rattle.tdb_words.specs.Word.{word}
use Rattle.tdb_words.specs.Hash.{h_of}
use Rattle.tdb_words.specs.Record.{rec_at}
use Rattle.tdb_words.proofs.Words.{rec_of_part}
use Rattle.tdb_space.specs.Form.{Form}
use Rattle.tdb_space.specs.Record.{rec_len_of, magic_of, key_at}
use Rattle.tdb_space.specs.FirstFault.{ListKind, chain_number, free_list, is_bad, has_wrong_tailer, is_misfiled}
use Rattle.tdb_check.specs.Seen.{own_fault, is_bad_header, is_misfiled_header}

module _ (f : Form) (kind : ListKind) (img : List ℕ) (at len : ℕ) (r : Rec) (is : r ≡ rec_at f.order img at) (long : length img ≡ len) where
  bad_is : is_bad f kind img at ≡ is_bad_header kind r at len
  bad_is = λ j. is_bad_header kind (sym is j) at (long j)

  pub bad_found : is_bad_header kind r at len ≡ true → own_fault f kind img at ≡ Some (BadRecord, at)
  bad_found h = rw (bad_is ∙ h) refl

  rec_len_is : r.rec_len ≡ rec_len_of f.order img at
  rec_len_is = ap (λ (x : Rec). x.rec_len) is

  tailer_is : (t : ℕ) → t ≡ word f.order img (at + 20 + r.rec_len) → word f.order img (at + 20 + rec_len_of f.order img at) ≡ t
  tailer_is t e = ap (λ n. word f.order img (at + 20 + n)) (sym rec_len_is) ∙ sym e

  tailed_true : (t : ℕ) → t ≡ word f.order img (at + 20 + r.rec_len) → t ≢ 24 + r.rec_len → has_wrong_tailer f img at ≡ true
  tailed_true t e other = rw (ne_eqb (word f.order img (at + 20 + rec_len_of f.order img at)) (24 + rec_len_of f.order img at) (λ same. other (sym (tailer_is t e) ∙ same ∙ ap (λ n. 24 + n) (sym rec_len_is)))) refl

  tailed_false : (t : ℕ) → t ≡ word f.order img (at + 20 + r.rec_len) → t ≡ 24 + r.rec_len → has_wrong_tailer f img at ≡ false
  tailed_false t e same = rw (eq-eqb (word f.order img (at + 20 + rec_len_of f.order img at)) (24 + rec_len_of f.order img at) (tailer_is t e ∙ same ∙ ap (λ n. 24 + n) rec_len_is)) refl

  pub tailer_found : (t : ℕ) → is_bad_header kind r at len ≡ false → t ≡ word f.order img (at + 20 + r.rec_len) → t ≢ 24 + r.rec_len → own_fault f kind img at ≡ Some (Tailer, at)
  tailer_found t h e other = rw (bad_is ∙ h) (rw (tailed_true t e other) refl)

  pub unused_good : (t : ℕ) → is_bad_header kind r at len ≡ false → t ≡ word f.order img (at + 20 + r.rec_len) → t ≡ 24 + r.rec_len → r.magic ≢ USED → own_fault f kind img at ≡ None
  unused_good t h e same other = rw (bad_is ∙ h) (rw (tailed_false t e same) (rw (unused_placed kind (λ used. other (ap (λ (x : Rec). x.magic) is ∙ used))) refl))
    where
      unused_placed : (kind : ListKind) → magic_of f.order img at ≢ USED → is_misfiled f kind img at ≡ false
      unused_placed (chain_number j) no_use = rw (ne_eqb (magic_of f.order img at) USED no_use) refl
      unused_placed free_list no_use = refl

  placed_is : (own : ℕ) → own ≡ h_of f.hash (take r.key_len (drop (at + 24) img)) → r.magic ≡ USED → is_misfiled f kind img at ≡ is_misfiled_header kind r own f.chains
  placed_is own e used = by_kind kind
    where
      hash_is : h_of f.hash (key_at f.order img at) ≡ own
      hash_is = ap (λ (x : Rec). h_of f.hash (take x.key_len (drop (at + 24) img))) (sym is) ∙ sym e

      magic_is : magic_of f.order img at ≡ USED
      magic_is = ap (λ (x : Rec). x.magic) (sym is) ∙ used

      by_kind : (kind : ListKind) → is_misfiled f kind img at ≡ is_misfiled_header kind r own f.chains
      by_kind (chain_number j) = rw (eq-eqb (magic_of f.order img at) USED magic_is) ((λ i. not (eqb (sym is i).full_hash (hash_is i)) || not (eqb ((sym is i).full_hash % f.chains) j)))
      by_kind free_list = refl

  pub misfiled_found : (t own : ℕ) → is_bad_header kind r at len ≡ false → t ≡ word f.order img (at + 20 + r.rec_len) → t ≡ 24 + r.rec_len → own ≡ h_of f.hash (take r.key_len (drop (at + 24) img)) → r.magic ≡ USED → is_misfiled_header kind r own f.chains ≡ true → own_fault f kind img at ≡ Some (WrongHash, at)
  misfiled_found t own h e same key used wrong = rw (bad_is ∙ h) (rw (tailed_false t e same) (rw (placed_is own key used ∙ wrong) refl))

  pub good_found : (t own : ℕ) → is_bad_header kind r at len ≡ false → t ≡ word f.order img (at + 20 + r.rec_len) → t ≡ 24 + r.rec_len → own ≡ h_of f.hash (take r.key_len (drop (at + 24) img)) → r.magic ≡ USED → is_misfiled_header kind r own f.chains ≡ false → own_fault f kind img at ≡ None
  good_found t own h e same key used right = rw (bad_is ∙ h) (rw (tailed_false t e same) (rw (placed_is own key used ∙ right) refl))

-- a header that a window begins with
pub header_seen : (o : Order) (img window : List ℕ) (at held : ℕ) → 24 ≤ held → window ≡ take held (drop at img) → rec_at o window 0 ≡ rec_at o img at
header_seen o img window at held long shows = ap (λ w. rec_at o w 0) shows ∙ rec_of_part o img at held long

-- the same window, by its own length, onto an image that is the same
pub window_again : (img other buf : List ℕ) (at held : ℕ) → held ≤ length buf → take held buf ≡ take held (drop at img) → other ≡ img → take held buf ≡ take (length (take held buf)) (drop at other)
window_again img other buf at held fits shows same =
    let long : length (take held buf) ≡ held = omega (arith, length-take held buf) in
    shows ∙ (λ j. take (sym long j) (drop at (sym same j)))
