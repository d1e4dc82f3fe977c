-- What the writing of a file anew gives, from what its parts gave.
use Rattle.std.proofs.Common.{◌≡◌, ◌^◌, ◌<◌, ◌≤◌, ◌+◌, ◌*◌, ◌++◌, ℕ, List, [], ◌∷◌, Option, None, length, refl, sym, ◌∙◌, ap, subst, inl, inr, arith}
use Rattle.std.specs.Prelude.{slice_index, false}
use Rattle.std.proofs.lemmas.Bool.{eq-eqb}
use Rattle.tdb_words.specs.declared.header.Header.{Header}
use Rattle.tdb_words.specs.declared.word.Order.{Order}
use Rattle.tdb_words.specs.Header.{area_head, sequence_of}
use Rattle.tdb_words.specs.Word.{word}
use Rattle.tdb_disk.specs.History.{History, seen, synced, called, wrote_word}
use Rattle.tdb_disk.specs.Image.{overlay}
use Rattle.tdb_disk.proofs.Image.{length-overlay, overlay_below, overlay_above}
use Rattle.tdb_disk.proofs.Runs.{quiet_synced}
use Rattle.tdb_space.specs.Form.{Form, form_of, form_in, chain_head, free_head}
use Rattle.tdb_space.specs.Chain.{chain_of, free_of, HasChains}
use Rattle.tdb_space.specs.Record.{IsChained, IsFree}
use Rattle.tdb_space.specs.Pairs.{order_of, pairs, joined}
use Rattle.tdb_space.specs.Accepted.{AcceptWith}
use Rattle.tdb_space.specs.Exchange.{ButSequence}
use Rattle.tdb_space.specs.Extents.{area, extents, times, all_extents, hand_extents}
use Rattle.tdb_space.proofs.Exchange.Overlaid.{word_overlaid}
use Rattle.tdb_space.proofs.Extents.Counts.{joined_same}
use Rattle.tdb_space.proofs.Sequence.SameImages.{sequence_accepted}
use Rattle.tdb_space.proofs.Sequence.SameLists.{linked_past, chain_same, free_same, map_same_key}
use Rattle.tdb_space.proofs.Sequence.SameRecords.{AllPast, word_beside, magic_past, pairs_past, extents_past}
use Rattle.tdb_backup.specs.Filling.{AllUsed}
use Rattle.tdb_backup.specs.declared.refusal.CopyRefusal.{CopyRefusal}
use Rattle.tdb_backup.specs.declared.refusal.CopyRefusal.TheVariants as C
use Rattle.tdb_rewrite.specs.Readable.{Readable}
use Rattle.tdb_rewrite.specs.Rewritten.{IsBare, Rewritten, RewriteCause, chosen}
use Rattle.tdb_rewrite.proofs.Readable.{accepted_readable}
use Rattle.tdb_open.specs.Creating.{IsNewFile, new_file_header}
use Rattle.tdb_open.specs.Opening.{IsCheckedOn}
use Rattle.tdb_open.specs.declared.creating.NewForm.{NewForm}
use Rattle.tdb_open.specs.declared.opening.Opened.{Opened}
use Rattle.tdb_answer.specs.declared.ending.Ending.{Ending}
use Rattle.tdb_answer.specs.declared.ending.Ending.TheVariants as E
use Rattle.tdb_answer.specs.Commands.Backup.{of_copy}
use Rattle.tdb_answer.specs.Commands.Restore.{of_input}
use Rattle.tdb_answer.specs.Commands.Rewriting.{made_form, IsWrittenAnew, IsNotWritten, GotSequence, NotWrittenTo, EndsUnwritten}

-- a file that was written anew is one with another sequence number too
module _ (f : Form) (a b : List ℕ) (s : ButSequence a b) where
  used_past : (xs : List ℕ) → AllPast xs → AllUsed f.order a xs → AllUsed f.order b xs
  used_past [] past used = tt
  used_past (x ∷ xs) past used = (magic_past a b s f.order x past.0 ∙ used.0, used_past xs past.1 used.1)

  no_area_extent : (img : List ℕ) → word f.order img area_head ≡ 0 → area f.order img ≡ []
  no_area_extent img none = rw (eq-eqb (word f.order img 44) 0 none) refl

  module _ (given : List (List ℕ × List ℕ)) (R : Rewritten f a given) where
    has : HasChains f a
    has = R.accepted.chains

    past : (j : ℕ) → j < f.chains → AllPast (chain_of f a j)
    past j low = linked_past f IsChained a (word f.order a (chain_head j)) (chain_of f a j) (has j low)

    no_area : word f.order b area_head ≡ 0
    no_area = word_beside a b s f.order area_head (inl (omega arith)) ∙ R.no_area

    same_chains : joined f.chains (λ j. extents f.order b (chain_of f b j)) ≡ joined f.chains (λ j. extents f.order a (chain_of f a j))
    same_chains =
        joined_same f.chains (λ j. extents f.order b (chain_of f b j)) (λ j. extents f.order a (chain_of f a j))
        (λ j low. ap (extents f.order b) (chain_same a b s f has j low) ∙ extents_past a b s f.order (chain_of f a j) (past j low))

    same_free : extents f.order b (free_of f b) ≡ extents f.order a (free_of f a)
    same_free =
        ap (extents f.order b) (free_same a b s f R.accepted.frees)
        ∙ extents_past a b s f.order (free_of f a) (linked_past f IsFree a (word f.order a free_head) (free_of f a) R.accepted.frees)

    same_area : area f.order b ≡ area f.order a
    same_area = no_area_extent b no_area ∙ sym (no_area_extent a R.no_area)

    same_extents : all_extents f b (chain_of f b) (free_of f b) [] ≡ all_extents f a (chain_of f a) (free_of f a) []
    same_extents = λ j. same_chains j ++ same_free j ++ same_area j ++ hand_extents []

    pub renumbered : Rewritten f b given
    renumbered = record {
      accepted = sequence_accepted f a b [] R.accepted s;
      map = λ k. map_same_key a b s f has k ∙ R.map k;
      chains = λ j low. ap (pairs f.order b) (chain_same a b s f has j low) ∙ pairs_past a b s f.order (chain_of f a j) (past j low) ∙ R.chains j low;
      all_used = λ j low. subst (AllUsed f.order b) (sym (chain_same a b s f has j low)) (used_past (chain_of f a j) (past j low) (R.all_used j low));
      no_area = no_area;
      each = λ i from to. ap (λ es. times es i) same_extents ∙ R.each i from (omega (arith, to, s.size));
    }

-- the word at 48 was written, and all is on the medium
pub got_sequence : (o : Order) (number : ℕ) (bytes : List ℕ) (old now : History) → length bytes ≡ 4 → word o bytes 0 ≡ number → 52 ≤ length (seen old) → now ≡ called (called old (wrote_word 48 bytes)) synced → GotSequence o number old now
got_sequence o number bytes old now four reads long is =
    let put : seen now ≡ overlay (seen old) 48 bytes = ap seen is in
    record {
      beside = record {
        size = ap length put ∙ length-overlay (seen old) 48 bytes;
        others = λ i beside.
            ap (λ img. slice_index img i) put
            ∙ elim beside [ inl under ↦ overlay_below (seen old) 48 bytes i under | inr over ↦ overlay_above (seen old) 48 bytes i (omega (arith, over, four)) ];
      };
      told = ap (λ img. word o img 48) put ∙ word_overlaid o (seen old) 48 bytes 0 (omega (arith, four)) (omega (arith, four, long)) ∙ reads;
      quiet = quiet_synced (called old (wrote_word 48 bytes)) now is;
    }

-- what was written anew, with the sequence number of the image
pub written_anew : (img prefix : List ℕ) (f : Form) (number : ℕ) (old now : History) → number ≡ sequence_of img → Rewritten f (seen old) (chosen prefix (order_of (form_of img) img)) → GotSequence f.order number old now → IsWrittenAnew img prefix f now
written_anew img prefix f number old now is R got =
    let all : Rewritten f (seen now) (chosen prefix (order_of (form_of img) img)) = renumbered f (seen old) (seen now) got.beside (chosen prefix (order_of (form_of img) img)) R in
    record {
      rewritten = all;
      number = ap (λ o. word o (seen now) 48) (ap (λ g. g.order) all.accepted.form) ∙ got.told ∙ is;
      quiet = got.quiet;
    }

-- a new file is short
pub new_short : (fresh : List ℕ) (form : NewForm) (size : ℕ) → IsNewFile form.size form.order form.hash fresh → 172 + 4 * form.size < 2 ^ 32 → length fresh ≡ size → size < 2 ^ 32
new_short fresh form size file short is = omega (arith, file.long, short, is)

-- the view of an opened file, and that of a new one
module _ (img prefix : List ℕ) (o : Opened) (of_source of_new : Header) (form : NewForm) (as_source : of_source ≡ o.header) (as_new : of_new ≡ new_file_header form) (checked : IsCheckedOn img o) where
  source_form : form_in of_source ≡ form_of img
  source_form = ap form_in as_source ∙ ap form_in checked.header

  new_form : form_in of_new ≡ made_form form
  new_form = ap form_in as_new

  pub opened_readable : Readable (form_in of_source) img
  opened_readable = accepted_readable (form_in of_source) img [] (subst (λ f. AcceptWith f img []) (sym source_form) checked.accepted)

  pub new_bare : (fresh : List ℕ) → IsNewFile form.size form.order form.hash fresh → IsBare (form_in of_new) fresh
  new_bare fresh file =
      let size : (form_of fresh).chains ≡ form.size = ap (λ f. f.chains) file.form in
      let ends : length fresh ≡ 168 + 4 * ((form_of fresh).chains + 1) = omega (arith, file.long, size) in
      subst (λ f. IsBare f fresh) (file.form ∙ sym new_form)
      (record {
        accepted = file.accepted;
        ends = ends;
        no_area = elim file.accepted.area_ok [ inl none ↦ none | inr place ↦ absurd (omega (arith, place.above, place.within, ends)) ];
      })

  pub as_rewritten : (now : List ℕ) → Rewritten (form_in of_new) now (chosen prefix (order_of (form_in of_source) img)) → Rewritten (made_form form) now (chosen prefix (order_of (form_of img) img))
  as_rewritten now done = subst (λ (q : Form × Form). Rewritten q.0 now (chosen prefix (order_of q.1 img))) (λ j. (new_form j, source_form j)) done

  pub as_unwritten : (now : List ℕ) (limit : ℕ) (e : CopyRefusal) → RewriteCause (form_in of_new) now (chosen prefix (order_of (form_in of_source) img)) limit e → IsNotWritten img prefix (made_form form) limit e
  as_unwritten now limit e cause = (now, subst (λ (q : Form × Form). RewriteCause q.0 now (chosen prefix (order_of q.1 img)) limit e) (λ j. (new_form j, source_form j)) cause)

-- what is left of a file that wasn't written to its end, and was removed
module _ (img prefix : List ℕ) (f : Form) (limit : ℕ) (now : Option History) (gone : now ≡ None) where
  unwritten_removed : (r : CopyRefusal) → IsNotWritten img prefix f limit r → NotWrittenTo img prefix f limit (of_copy r) now
  unwritten_removed C.Read refused = tt
  unwritten_removed C.Write refused = tt
  unwritten_removed (C.Full len need) refused = ((len, need, refl, refused), gone)
  unwritten_removed C.Memory refused = gone

  pub removed_unwritten : (r : CopyRefusal) (e : Ending) → e ≡ of_copy r → IsNotWritten img prefix f limit r → NotWrittenTo img prefix f limit e now
  removed_unwritten r e is refused = subst (λ x. NotWrittenTo img prefix f limit x now) (sym is) (unwritten_removed r refused)

-- its ending
pub refused_unwritten : (r : CopyRefusal) (e : Ending) → e ≡ of_copy r → EndsUnwritten e
refused_unwritten r e is = subst EndsUnwritten (sym is) (of r)
  where
    of : (r : CopyRefusal) → EndsUnwritten (of_copy r)
    of C.Read = tt
    of C.Write = tt
    of (C.Full len need) = (len, need, refl)
    of C.Memory = tt

-- it is no usage, tells nothing of the input, and no log refuses it
pub unwritten_asked : (e : Ending) → EndsUnwritten e → e ≡ E.Usage → ⊥
unwritten_asked e ends is = subst EndsUnwritten is ends

pub unwritten_unlogged : (e : Ending) → EndsUnwritten e → e ≡ E.LogFault → ⊥
unwritten_unlogged e ends is = subst EndsUnwritten is ends

pub unwritten_unread : (e : Ending) → EndsUnwritten e → of_input e ≡ false
unwritten_unread (E.Replied reply) ends = refl
unwritten_unread (E.Refused refusal) ends = refl
unwritten_unread (E.Missing name) ends = refl
unwritten_unread (E.There name) ends = refl
unwritten_unread E.Usage ends = refl
unwritten_unread E.DeviceFault ends = refl
unwritten_unread E.LogFault ends = refl
unwritten_unread E.NoMemory ends = refl
unwritten_unread E.InputFault ends = absurd ends
unwritten_unread (E.Malformed at) ends = absurd ends
