-- What the lists of an image say of its layout where they have no fault, and the test of a stray byte.
use Rattle.std.proofs.Common.{◌≡◌, ℕ, ◌<◌, ◌≤◌, ◌⊎◌, ◌&&◌, not, false, List, [], length, sym, ◌∙◌, subst, inl, inr, arith}
use Rattle.std.specs.Prelude.{◌%◌, ◌==◌, nat_lt}
use Rattle.std.proofs.lemmas.Bool.{false≢true, cases_eq, cases_lt}
use Rattle.std.proofs.lemmas.Bool.Decides.{nat_tests}
use Rattle.tdb_words.specs.declared.record.TheConstants.{PADDING}
use Rattle.tdb_words.specs.Word.{word}
use Rattle.tdb_words.specs.Header.{HeaderOk}
use Rattle.tdb_space.specs.Form.{Form, form_of, data_start, chain_head, free_head}
use Rattle.tdb_space.specs.Record.{IsChained, IsFree}
use Rattle.tdb_space.specs.Chain.{Linked, chain_of, free_of}
use Rattle.tdb_space.specs.Accepted.{AreaOk, Shut, AllFiled, KeysDiffer}
use Rattle.tdb_space.specs.FirstFault.{chain_number, free_list, ListsSound}
use Rattle.tdb_space.proofs.Chain.Walks.{walk_meets}
use Rattle.tdb_space.proofs.FirstFault.Agreed.{chains_some, front_ok, area_ok}
use Rattle.tdb_space.proofs.FirstFault.Passed.{passed_filed, sound_listed}

-- the test of a byte that is stray, with plain numbers
pub stray_from : (low high held byte i : ℕ) → (not (nat_lt i low) && nat_lt i high && (held == 0) && not (byte == 0) && not (byte == PADDING)) ≡ false → low ≤ i → i < high → held ≡ 0 → (byte ≡ 0) ⊎ (byte ≡ PADDING)
stray_from low high held byte i h a b c = elim (cases_eq byte 0) [
  | inl zero_there ↦ inl zero_there
  | inr some ↦ elim (cases_eq byte PADDING) [
    | inl padding ↦ inr padding
    | inr other ↦ absurd (false≢true (sym h ∙ grind (arith, nat_tests)))
  ]
]

pub stray_to : (low high held byte i : ℕ) → (low ≤ i → i < high → held ≡ 0 → (byte ≡ 0) ⊎ (byte ≡ PADDING)) → (not (nat_lt i low) && nat_lt i high && (held == 0) && not (byte == 0) && not (byte == PADDING)) ≡ false
stray_to low high held byte i h = elim (cases_lt i low) [
  | inl before ↦ grind (arith, nat_tests)
  | inr a ↦ elim (cases_lt i high) [
    | inr past ↦ grind (arith, nat_tests)
    | inl b ↦ elim (cases_eq held 0) [
      | inr some ↦ grind (arith, nat_tests)
      | inl c ↦ elim (h a b c) [ inl e ↦ grind (arith, nat_tests) | inr e ↦ grind (arith, nat_tests) ]
    ]
  ]
]

-- What it says of the layout of an image that its lists have no fault, whatever bytes two of them hold, and whatever
-- stands in bytes that none does
pub record ListsLaid (f : Form) (img : List ℕ) : Type 0 where
  pub header : HeaderOk img
  pub some : 0 < f.chains
  pub sized : length img % 4 ≡ 0
  pub long : data_start f ≤ length img
  pub area_ok : AreaOk f img
  pub shut : Shut f img
  pub chains : (j : ℕ) → j < f.chains → Linked f IsChained img (word f.order img (chain_head j)) (chain_of f img j)
  pub frees : Linked f IsFree img (word f.order img free_head) (free_of f img)
  pub filed : (j : ℕ) → j < f.chains → AllFiled f img j (chain_of f img j)
  pub keys : (j : ℕ) → j < f.chains → KeysDiffer f img (chain_of f img j)

pub lists_laid : (img : List ℕ) → ListsSound img → ListsLaid (form_of img) img
lists_laid img h =
    let f = form_of img in
    let front = front_ok img h.heads.0 in
    let undo = area_ok f img h.heads.1 in
    let met : (j : ℕ) (low : j < f.chains) → chain_of f img j ≡ (h.chains j low).0 =
    λ j low. walk_meets f IsChained img (word f.order img (chain_head j)) (h.chains j low).0 (sound_listed f (chain_number j) img (chain_head j) (h.chains j low)).linked in
    let free = sound_listed f free_list img free_head h.frees in
    record {
      header = front.header;
      some = chains_some img front.header.no_fault;
      sized = front.sized;
      long = front.long;
      area_ok = undo.0;
      shut = undo.1;
      chains = λ j low. subst (Linked f IsChained img (word f.order img (chain_head j))) (sym (met j low)) (sound_listed f (chain_number j) img (chain_head j) (h.chains j low)).linked;
      frees = subst (Linked f IsFree img (word f.order img free_head)) (sym (walk_meets f IsFree img (word f.order img free_head) h.frees.0 free.linked)) free.linked;
      filed = λ j low. subst (AllFiled f img j) (sym (met j low)) (passed_filed f j img [] (chain_head j) (h.chains j low).0 (h.chains j low).1 (h.chains j low).2);
      keys = λ j low. subst (KeysDiffer f img) (sym (met j low)) (sound_listed f (chain_number j) img (chain_head j) (h.chains j low)).keys;
    }
