-- What a plan answers, as a turn of a commit.
use Rattle.std.proofs.Common.{◌≡◌, ℕ, ◌+◌, ◌<◌, ◌≤◌, List, false, ◌==◌, length, slice_index, refl, sym, ◌∙◌, ap, subst, inl, inr, Ok, arith}
use Rattle.std.specs.Prelude.{Result}
use Rattle.std.proofs.lemmas.Bool.{cases_lt, cases_eq, ne_eqb}
use Rattle.std.proofs.lemmas.List.{ext_get_or}
use Rattle.tdb_disk.specs.History.{History, seen}
use Rattle.tdb_disk.specs.Stop.{LeavesOnly, Quiet}
use Rattle.tdb_words.specs.Word.{word}
use Rattle.tdb_words.specs.declared.word.Order.{Order}
use Rattle.tdb_space.specs.Extents.{Extent, area, extent_at, once, times}
use Rattle.tdb_space.specs.Form.{form_of, SameHeader}
use Rattle.tdb_space.specs.Pairs.{order_of}
use Rattle.tdb_space.specs.Undoing.{Reopens}
use Rattle.tdb_space.proofs.Extents.Counts.{once_lies, once_out}
use Rattle.tdb_space.specs.Accepted.{Accept, AreaInPlace}
use Rattle.tdb_space.proofs.Form.Headers.{form_kept, order_kept}
use Rattle.tdb_words.specs.Header.{header_order, sequence_of}
use Rattle.tdb_words.proofs.Words.{word_agrees}
use Rattle.tdb_txn.specs.Answered.{AnsweredRightly, ChangesNothing, WantsArea, first, other, PlannedFor, keeps, places}
use Rattle.tdb_txn.specs.AreaExtent.{IsAreaExtent, none, there}
use Rattle.tdb_txn.specs.Committing.{HasAreaIn, MayCommit}
use Rattle.tdb_txn.specs.GivenUp.{AreaGivenUp, ExtentGiven, given, too_short}
use Rattle.tdb_txn.specs.Pages.{byte_over, length_filled}
use Rattle.tdb_txn.specs.CommitStates.{planned_plan}
use Rattle.tdb_txn.specs.Planned.{IsPlannedOn}
use Rattle.tdb_txn.specs.Txn.{txn_image, txn_pages, txn_size, txn_start}
use Rattle.tdb_txn.specs.declared.planned.Plan.{Plan}
use Rattle.tdb_txn.specs.declared.planning.ToCommit.{ToCommit}
use Rattle.tdb_txn.specs.declared.planning.ToCommit.TheVariants.{Nothing, Ready}
use Rattle.tdb_txn.specs.declared.refusal.TxnRefusal.{TxnRefusal}
use Rattle.tdb_txn.specs.declared.states.Planned.{Planned}
use Rattle.tdb_txn.specs.declared.txn.Txn.{Txn}
use Rattle.tdb_txn_turns.specs.Commits.{Carries, StandsFor}
use Rattle.tdb_txn_turns.specs.Prepares.{IsReady}

-- an image has an extent of its undo area
has_extent : (o : Order) (r : List ℕ) → (e : Extent) × IsAreaExtent o r e
has_extent o r = elim (cases_eq (word o r 44) 0) [
  | inl absent ↦ ((0, 0), none absent refl)
  | inr some ↦ (extent_at o r (word o r 44), there some refl)
]

-- a byte in that extent is one of the undo area
in_area : (o : Order) (r : List ℕ) (e : Extent) (i : ℕ) → IsAreaExtent o r e → 1 ≤ once e i → 1 ≤ times (area o r) i
in_area o r e i (none absent is) held = absurd (let ends = once_lies (0, 0) i (subst (λ (x : Extent). 1 ≤ once x i) is held) in omega (arith, ends.1))
in_area o r e i (there some is) held =
    let here : once e i ≡ once (extent_at o r (word o r 44)) i = ap (λ (x : Extent). once x i) is in
    let same : times (area o r) i ≡ once (extent_at o r (word o r 44)) i + 0 = (let ne : (word o r 44 == 0) ≡ false = ne_eqb (word o r 44) 0 some in rw ne refl) in
    omega (arith, held, here, same)

-- where nothing is to be committed the transaction's image is the file
module _ (txn : Txn) (r : List ℕ) (may : MayCommit txn r) (nothing : ChangesNothing txn r) (long : txn_start txn ≡ length r) where
  same_byte : (i : ℕ) → i < length r → slice_index (txn_image txn r) i ≡ slice_index r i
  same_byte i low = elim (cases_lt i 48) [
    | inl front ↦ may.keeps.front i (inl front)
    | inr behind ↦
        let e = has_extent (form_of r).order r in
        elim (cases_lt 0 (once e.0 i)) [
          | inl held ↦ may.keeps.undo_area i (in_area (form_of r).order r e.0 i e.1 held)
          | inr out ↦ elim (cases_eq (slice_index (txn_image txn r) i) (slice_index r i)) [
            | inl same ↦ same
            | inr differs ↦ absurd (nothing.bytes e.0 e.1 i (record { low = omega (arith, low, long); beside = inr behind; outside = omega (arith, out); differs = differs }))
          ]
        ]
  ]

  pub nothing_same : txn_image txn r ≡ r
  nothing_same =
      let size : length (txn_image txn r) ≡ length r = length_filled (byte_over (txn_pages txn) r) (txn_size txn) ∙ nothing.size ∙ long in
      ext_get_or 0 (txn_image txn r) r size (λ i low. same_byte i (omega (arith, low, size)))

-- the sequence number stays where an undo area is given up
module _ (r b x : List ℕ) (e : Extent) (A : Accept r) (has : HasAreaIn (form_of r).order r e) (G : AreaGivenUp (form_of r) b x e) where
  place : AreaInPlace (form_of r) r (word (form_of r).order r 44)
  place = elim A.area_ok [ inl absent ↦ absurd (has.some absent) | inr found ↦ found ]

  outside : (i : ℕ) → i < 64 → once e i ≡ 0
  outside i low = let at : e.0 ≡ word (form_of r).order r 44 = ap (λ (y : Extent). y.0) has.extent in once_out e i (inl (omega (arith, low, at, place.above)))

  given_byte : (i : ℕ) → i < 64 → ExtentGiven (form_of r) G.between x e → slice_index x i ≡ slice_index G.between i
  given_byte i low (given long to_list) = to_list.exchanged.low i (omega (arith, low)) (inl (omega (arith, low)))
  given_byte i low (too_short short same) = ap (λ y. slice_index y i) same

  pub number_given : sequence_of x ≡ sequence_of b
  number_given =
      ap (λ o. word o x 48) (order_kept b x G.same_header)
      ∙ word_agrees (header_order b) x b 48 (λ i from to. given_byte i (omega (arith, to)) G.given ∙ G.zeroed.beside i (inr from) (outside i (omega (arith, to))))

-- a plan that is ready carries the transaction
module _ (txn : Txn) (limit : ℕ) (r : List ℕ) (h : History) (plan : Plan) (may : MayCommit txn r) where
  header : SameHeader r (txn_image txn r)
  header i front = may.keeps.front i (elim front [ inl low ↦ inl (omega (arith, low)) | inr high ↦ inr high ])

  carries : (x : List ℕ) → StandsFor (txn_image txn r) x → IsPlannedOn plan h r x → Carries (IsPlannedOn plan) h r (txn_image txn r)
  carries x stands state = record { before = r; after = x; reopens = λ c opens. opens; stands = stands; accepted = may.after; header = header; state = state }

  itself : IsPlannedOn plan h r (txn_image txn r) → Carries (IsPlannedOn plan) h r (txn_image txn r)
  itself state = carries (txn_image txn r) (record { accepted = state.after; header = λ i front. refl; number = refl; same_order = refl }) state

  wanted : (y x : List ℕ) (runs : List Extent) → WantsArea txn r y x runs → IsPlannedOn plan h r x → Carries (IsPlannedOn plan) h r (txn_image txn r)
  wanted y x runs (first no_area same is changed) state = itself (subst (IsPlannedOn plan h r) is state)
  wanted y x runs (other e too_much has changed long replaced) state =
      let form = form_kept r (txn_image txn r) header in
      carries x (record {
        accepted = state.after;
        header = replaced.given_up.same_header;
        number = number_given r (txn_image txn r) x e may.before has replaced.given_up;
        same_order = ap (λ f. order_of f x) form ∙ replaced.given_up.same_order ∙ sym (ap (λ f. order_of f (txn_image txn r)) form);
      }) state

  pub plan_carries : PlannedFor txn limit r h plan → Carries (IsPlannedOn plan) h r (txn_image txn r)
  plan_carries (keeps e keep state) = itself state
  plan_carries (places y x wants long within state) = wanted y x plan.runs wants state

-- the answers of a plan in the file as it is
module _ (txn : Txn) (limit : ℕ) (r b : List ℕ) (h new : History) (R : IsReady txn h r b) where
  may : MayCommit txn (seen h)
  may = subst (MayCommit txn) (sym R.file) R.may

  image : b ≡ txn_image txn (seen h)
  image = R.image ∙ ap (txn_image txn) (sym R.file)

  pub plan_finds_nothing : txn_start txn ≡ length (seen h) → (Quiet h → MayCommit txn (seen h) → AnsweredRightly txn limit (seen h) new (Ok Nothing)) → b ≡ r
  plan_finds_nothing long answered = image ∙ nothing_same txn (seen h) may (answered R.quiet may) long ∙ R.file

  pub plan_is_ready : (state : Planned) → (Quiet h → MayCommit txn (seen h) → AnsweredRightly txn limit (seen h) new (Ok (Ready state))) → Carries (IsPlannedOn (planned_plan state)) new r b
  plan_is_ready state answered =
      subst (Carries (IsPlannedOn (planned_plan state)) new r) (sym image)
      (subst (λ x. Carries (IsPlannedOn (planned_plan state)) new x (txn_image txn (seen h))) R.file (plan_carries txn limit (seen h) new (planned_plan state) may (answered R.quiet may).1))

  pub plan_answer : (answer : Result ToCommit TxnRefusal) → (Quiet h → MayCommit txn (seen h) → AnsweredRightly txn limit (seen h) new answer) → AnsweredRightly txn limit r new answer
  plan_answer answer answered = subst (λ x. AnsweredRightly txn limit x new answer) R.file (answered R.quiet may)

  pub plan_stops : (Quiet h → MayCommit txn (seen h) → LeavesOnly h new (Reopens (seen h))) → LeavesOnly h new (Reopens r)
  plan_stops stops = subst (λ x. LeavesOnly h new (Reopens x)) R.file (stops R.quiet may)
