-- Two images that differ at most in the sequence number, the word at 48: they are accepted alike, and have the same
-- first fault.
use Rattle.std.proofs.Common.{◌≡◌, ℕ, ◌+◌, ◌<◌, ◌≤◌, ◌&&◌, ◌||◌, not, List, [], ◌∷◌, ◌++◌, map, Some, None, refl, sym, ◌∙◌, ap, subst, inl, inr, arith}
use Rattle.std.specs.Prelude.{◌%◌, ◌==◌, nat_eq, nat_lt, slice_index, if◌then◌else◌}
use Rattle.std.specs.List.{list_any}
use Rattle.std.proofs.lemmas.Bool.{cases_Bool, cases_lt, lt-ltb}
use Rattle.tdb_words.specs.declared.record.TheConstants.{USED, PADDING}
use Rattle.tdb_words.specs.declared.what.What.TheVariants.{BadRecord, Tailer, WrongHash, TwiceKey}
use Rattle.tdb_words.specs.Word.{word}
use Rattle.tdb_words.specs.Hash.{h_of}
use Rattle.tdb_space.specs.Form.{Form, form_of, data_start, chain_head, free_head}
use Rattle.tdb_space.specs.Record.{IsChained, IsFree}
use Rattle.tdb_space.specs.Chain.{Linked, Free, chain_of, free_of, HasChains}
use Rattle.tdb_space.specs.Pairs.{joined, same_key}
use Rattle.tdb_space.specs.Extents.{Extent, times, extents, area}
use Rattle.tdb_space.specs.FirstFault.{Fault, ListKind, chain_number, free_list, out_of, loop_of, is_out, is_bad, has_magic, has_wrong_tailer, is_misfiled, has_twin, record_fault, area_fault, Passed, Sound, FirstInList, HeadsSound, ChainsSound, ListsSound, extents_of, NoOverlap, FirstOverlap, is_stray, IsFirstFault, at_front, at_area, in_chain, in_free_list, at_overlap, at_stray}
use Rattle.tdb_space.specs.Exchange.{ButSequence}
use Rattle.tdb_space.specs.Sequence.{SameVerdict}
use Rattle.tdb_space.proofs.Extents.Counts.{joined_same}
use Rattle.tdb_space.proofs.Chain.Walks.{walk_meets}
use Rattle.tdb_space.proofs.FirstFault.Cleared.{clear_from, stands_from}
use Rattle.tdb_space.proofs.FirstFault.Passed.{sound_listed}
use Rattle.tdb_space.proofs.FirstFault.Agreed.{area_ok}
use Rattle.tdb_space.proofs.Accepted.Areas.{area_still, area_within}
use Rattle.tdb_space.proofs.Sequence.SameImages.{sequence_accepted}
use Rattle.tdb_space.proofs.Sequence.SameRecords.{turned, AllPast, past_more, word_past, rec_len_past, key_len_past, data_len_past, full_hash_past, magic_past, key_past, pairs_past, extents_past}
use Rattle.tdb_space.proofs.Sequence.SameFront.{same_form, same_front_fault, same_area_fault, same_out, past_out, same_long, same_area_ok, same_shut, same_area_word}
use Rattle.tdb_space.proofs.Sequence.SameLists.{linked_past, chain_same, free_same}

-- records that were passed stand past the sequence number, and so does the place of the next word
passed_past : (f : Form) (kind : ListKind) (img earlier : List ℕ) (place : ℕ) (xs : List ℕ) (last : ℕ) → Passed f kind img earlier place xs last → 52 ≤ place → AllPast xs × (52 ≤ last)
passed_past f kind img earlier place [] last p past = (tt, omega (arith, p, past))
passed_past f kind img earlier place (x ∷ xs) last p past =
    let here : 52 ≤ x = omega (arith, (stands_from f img x (clear_from f kind img earlier place x p.2).stands).1) in
    let rest = passed_past f kind img (earlier ++ x ∷ []) x xs last p.3 here in
    ((here, rest.0), rest.1)

-- the offsets of sound chains are the computed ones
sound_chains : (f : Form) (img : List ℕ) → ((j : ℕ) → j < f.chains → Sound f (chain_number j) img (chain_head j)) → HasChains f img
sound_chains f img sound j low =
    let linked = (sound_listed f (chain_number j) img (chain_head j) (sound j low)).linked in
    subst (Linked f IsChained img (word f.order img (chain_head j))) (sym (walk_meets f IsChained img (word f.order img (chain_head j)) (sound j low).0 linked)) linked

sound_free : (f : Form) (img : List ℕ) → Sound f free_list img free_head → Free f img (word f.order img free_head) (free_of f img)
sound_free f img sound =
    let linked = (sound_listed f free_list img free_head sound).linked in
    subst (Linked f IsFree img (word f.order img free_head)) (sym (walk_meets f IsFree img (word f.order img free_head) sound.0 linked)) linked

module _ (a b : List ℕ) (s : ButSequence a b) where
  -- the tests of a record past the sequence number
  same_bad : (f : Form) (kind : ListKind) (x : ℕ) → 52 ≤ x → is_bad f kind b x ≡ is_bad f kind a x
  same_bad f kind x past =
      λ j.
      not (has_magic kind (magic_past a b s f.order x past j)) || same_long a b s f x past j || nat_lt (rec_len_past a b s f.order x past j) 4
      || (magic_past a b s f.order x past j == USED) && nat_lt (rec_len_past a b s f.order x past j) (key_len_past a b s f.order x past j + data_len_past a b s f.order x past j + 4)

  same_tailer : (f : Form) (x : ℕ) → 52 ≤ x → has_wrong_tailer f b x ≡ has_wrong_tailer f a x
  same_tailer f x past =
      ap (λ n. not (word f.order b (x + 20 + n) == 24 + n)) (rec_len_past a b s f.order x past)
      ∙ ap (λ w. not (w == 24 + word f.order a (x + 4))) (word_past a b s f.order (x + 20 + word f.order a (x + 4)) (omega (arith, past)))

  same_misfiled : (f : Form) (kind : ListKind) (x : ℕ) → 52 ≤ x → is_misfiled f kind b x ≡ is_misfiled f kind a x
  same_misfiled f (chain_number n) x past =
      λ j.
      (magic_past a b s f.order x past j == USED)
      && (not (full_hash_past a b s f.order x past j == h_of f.hash (key_past a b s f.order x past j)) || not (full_hash_past a b s f.order x past j % f.chains == n))
  same_misfiled f free_list x past = refl

  same_twin : (f : Form) (earlier : List ℕ) (x : ℕ) → AllPast earlier → 52 ≤ x → has_twin f b earlier x ≡ has_twin f a earlier x
  same_twin f earlier x before past =
      λ j.
      (magic_past a b s f.order x past j == USED)
      && list_any (same_key (key_past a b s f.order x past j)) (map (λ (p : List ℕ × List ℕ). p.0) (pairs_past a b s f.order earlier before j))

  record_same : (f : Form) (kind : ListKind) (earlier : List ℕ) (place x : ℕ) → AllPast earlier → record_fault f kind b earlier place x ≡ record_fault f kind a earlier place x
  record_same f kind earlier place x before =
      elim (cases_Bool (is_out f a x)) [
        | inl out ↦ rw (same_out a b s f x ∙ out) (rw out refl)
        | inr stands ↦
            let past = past_out a b s f x stands in
            λ j.
            if same_out a b s f x j then Some (out_of kind, place)
            else if list_any (nat_eq x) earlier then Some (loop_of kind, place)
            else if same_bad f kind x past j then Some (BadRecord, x)
            else if same_tailer f x past j then Some (Tailer, x)
            else if same_misfiled f kind x past j then Some (WrongHash, x)
            else if same_twin f earlier x before past j then Some (TwiceKey, x)
            else None
      ]

  -- a list passes the same records, is sound alike, and has the same first fault
  passed_same : (f : Form) (kind : ListKind) (earlier : List ℕ) (place : ℕ) (xs : List ℕ) (last : ℕ) → AllPast earlier → 52 ≤ place → Passed f kind a earlier place xs last → Passed f kind b earlier place xs last
  passed_same f kind earlier place [] last before past p = p
  passed_same f kind earlier place (x ∷ xs) last before past p =
      let here : 52 ≤ x = omega (arith, (stands_from f a x (clear_from f kind a earlier place x p.2).stands).1) in (
        word_past a b s f.order place past ∙ p.0,
        p.1,
        record_same f kind earlier place x before ∙ p.2,
        passed_same f kind (earlier ++ x ∷ []) x xs last (past_more earlier x before here) here p.3,
      )

  sound_same : (f : Form) (kind : ListKind) (head : ℕ) → 52 ≤ head → Sound f kind a head → Sound f kind b head
  sound_same f kind head past (xs, last, p, ends) =
      let after = passed_past f kind a [] head xs last p past in
      (xs, last, passed_same f kind [] head xs last tt past p, word_past a b s f.order last after.1 ∙ ends)

  fault_same : (f : Form) (kind : ListKind) (head : ℕ) (e : Fault) → 52 ≤ head → FirstInList f kind a head e → FirstInList f kind b head e
  fault_same f kind head e past (xs, last, p, some, fault) =
      let after = passed_past f kind a [] head xs last p past in
      let next : word f.order b last ≡ word f.order a last = word_past a b s f.order last after.1 in (
        xs,
        last,
        passed_same f kind [] head xs last tt past p,
        (λ none. some (sym next ∙ none)),
        ap (record_fault f kind b xs last) next ∙ record_same f kind xs last (word f.order a last) after.0 ∙ fault,
      )

  -- all that comes before the extents is sound alike
  heads_same : HeadsSound a → HeadsSound b
  heads_same h = (same_front_fault a b s ∙ h.0, ap (λ f. area_fault f b) (same_form a b s) ∙ same_area_fault a b s (form_of a) ∙ h.1)

  chains_same : (n : ℕ) → ChainsSound a n → ChainsSound b n
  chains_same n h j low = subst (λ f. Sound f (chain_number j) b (chain_head j)) (sym (same_form a b s)) (sound_same (form_of a) (chain_number j) (chain_head j) (omega arith) (h j low))

  all_chains_same : ChainsSound a (form_of a).chains → ChainsSound b (form_of b).chains
  all_chains_same h = subst (λ f. ChainsSound b f.chains) (sym (same_form a b s)) (chains_same (form_of a).chains h)

  frees_same : Sound (form_of a) free_list a free_head → Sound (form_of b) free_list b free_head
  frees_same h = subst (λ f. Sound f free_list b free_head) (sym (same_form a b s)) (sound_same (form_of a) free_list free_head (omega arith) h)

  lists_same : ListsSound a → ListsSound b
  lists_same h = record { heads = heads_same h.heads; chains = all_chains_same h.chains; frees = frees_same h.frees }

  -- where it is sound, the extents are the same
  area_same : (f : Form) → area_fault f a ≡ None → area f.order b ≡ area f.order a
  area_same f none =
      let ok = area_ok f a none in
      (area_still f a b (omega (arith, s.size)) (same_area_word a b s f) (λ i held. s.others i (inr (omega (arith, (area_within f a i ok.0 held).0)))) ok.0 ok.1).0

  extents_same : ListsSound a → extents_of b ≡ extents_of a
  extents_same h =
      let f = form_of a in
      let chains = sound_chains f a h.chains in
      let free = sound_free f a h.frees in
      let joins : joined f.chains (λ k. extents f.order b (chain_of f b k)) ≡ joined f.chains (λ k. extents f.order a (chain_of f a k)) =
      joined_same f.chains (λ k. extents f.order b (chain_of f b k)) (λ k. extents f.order a (chain_of f a k)) (λ k low.
      ap (extents f.order b) (chain_same a b s f chains k low) ∙ extents_past a b s f.order (chain_of f a k) (linked_past f IsChained a (word f.order a (chain_head k)) (chain_of f a k) (chains k low))) in
      let frees : extents f.order b (free_of f b) ≡ extents f.order a (free_of f a) =
      ap (extents f.order b) (free_same a b s f free) ∙ extents_past a b s f.order (free_of f a) (linked_past f IsFree a (word f.order a free_head) (free_of f a) free) in
      let undo : area f.order b ≡ area f.order a = area_same f h.heads.1 in
      let here : extents_in f b ≡ extents_in f a = λ j. joins j ++ frees j ++ undo j ++ [] in
      ap (λ g. extents_in g b) (same_form a b s) ∙ here
    where
      extents_in : Form → List ℕ → List Extent
      extents_in f img = joined f.chains (λ k. extents f.order img (chain_of f img k)) ++ extents f.order img (free_of f img) ++ area f.order img ++ []

  overlap_same : ListsSound a → (at : ℕ) → FirstOverlap a at → FirstOverlap b at
  overlap_same h at = subst (λ (es : List Extent). (2 ≤ times es at) × ((i : ℕ) → i < at → times es i ≤ 1)) (sym (extents_same h))

  apart_same : ListsSound a → NoOverlap a → NoOverlap b
  apart_same h = subst (λ (es : List Extent). (i : ℕ) → times es i ≤ 1) (sym (extents_same h))

  stray_same : ListsSound a → (i : ℕ) → is_stray b i ≡ is_stray a i
  stray_same h i =
      elim (cases_lt i 52) [
        | inl low ↦ rw (lt-ltb i (data_start (form_of b)) (omega (arith, low))) (rw (lt-ltb i (data_start (form_of a)) (omega (arith, low))) refl)
        | inr past ↦
            let byte : slice_index b i ≡ slice_index a i = s.others i (inr past) in
            λ j.
            not (nat_lt i (data_start (same_form a b s j))) && nat_lt i (s.size j) && (times (extents_same h j) i == 0)
            && not (byte j == 0) && not (byte j == PADDING)
      ]

  first_same : (e : Fault) → IsFirstFault a e → IsFirstFault b e
  first_same _ (at_front e h) = at_front e (same_front_fault a b s ∙ h)
  first_same _ (at_area e front h) = at_area e (same_front_fault a b s ∙ front) (ap (λ f. area_fault f b) (same_form a b s) ∙ same_area_fault a b s (form_of a) ∙ h)
  first_same _ (in_chain e n heads low before h) =
      in_chain e n (heads_same heads) (subst (λ f. n < f.chains) (sym (same_form a b s)) low) (chains_same n before)
      (subst (λ f. FirstInList f (chain_number n) b (chain_head n) e) (sym (same_form a b s)) (fault_same (form_of a) (chain_number n) (chain_head n) e (omega arith) h))
  first_same _ (in_free_list e heads chains h) =
      in_free_list e (heads_same heads) (all_chains_same chains) (subst (λ f. FirstInList f free_list b free_head e) (sym (same_form a b s)) (fault_same (form_of a) free_list free_head e (omega arith) h))
  first_same _ (at_overlap at lists h) = at_overlap at (lists_same lists) (overlap_same lists at h)
  first_same _ (at_stray at lists apart h) =
      at_stray at (lists_same lists) (apart_same lists apart) (stray_same lists at ∙ h.0, (λ i low. stray_same lists i ∙ h.1 i low))

pub same_verdict : (a b : List ℕ) → ButSequence a b → SameVerdict a b
same_verdict a b s =
    let t = turned a b s in
    record {
      area_ok = λ f. (same_area_ok a b s f, same_area_ok b a t f);
      shut = λ f ok. (same_shut a b s f ok, same_shut b a t f (same_area_ok a b s f ok));
      accepted = λ f hands. ((λ h. sequence_accepted f a b hands h s), (λ h. sequence_accepted f b a hands h t));
      first_fault = λ e. (first_same a b s e, first_same b a t e);
    }
