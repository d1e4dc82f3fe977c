-- What the plan of a commit answers is right.
use Rattle.std.proofs.Common.{◌≡◌, ℕ, ◌+◌, ◌<◌, ◌≤◌, ◌^◌, List, [], ◌∷◌, length, refl, sym, ◌∙◌, ap, subst, Err, arith}
use Rattle.tdb_disk.specs.History.{History, seen}
use Rattle.tdb_disk.specs.Stop.{LeavesOnly, Quiet}
use Rattle.tdb_words.specs.declared.word.Order.{Order}
use Rattle.tdb_words.specs.Word.{word}
use Rattle.tdb_space.specs.Extents.{Extent}
use Rattle.tdb_space.specs.Form.{form_of}
use Rattle.tdb_space.specs.Planned.{content_length}
use Rattle.tdb_space.specs.Runs.{Changed, ChangedRuns}
use Rattle.tdb_space.specs.Undoing.{Reopens}
use Rattle.tdb_space.proofs.Runs.Stretches.{no_run_no_change, runs_one}
use Rattle.tdb_txn.specs.Answered.{ChangesNothing, AreaReplaced, HasSomeRuns, IsNoRoomFor, RunsRefused, WantsArea, first, other, PlannedFor, keeps, places, PlaceRefused, ReplaceRefused, AnsweredRightly}
use Rattle.tdb_txn.specs.AreaExtent.{IsAreaExtent, none, there}
use Rattle.tdb_txn.specs.AreaRoom.{new_area_length}
use Rattle.tdb_txn.specs.Committing.{HasAreaIn, MayCommit, MayKeep, MayPlace}
use Rattle.tdb_txn.specs.EndBelow.{EndBelow}
use Rattle.tdb_txn.specs.Found.{HasRuns}
use Rattle.tdb_txn.specs.Planned.{IsPlannedOn}
use Rattle.tdb_txn.specs.Txn.{txn_image, txn_size, txn_start}
use Rattle.tdb_txn.specs.declared.planned.Plan.{Plan}
use Rattle.tdb_txn.specs.declared.refusal.TxnRefusal.{TxnRefusal}
use Rattle.tdb_txn.specs.declared.refusal.TxnRefusal.TheVariants.{Full, Io, Memory}
use Rattle.tdb_txn.specs.declared.txn.Txn.{Txn}
use Rattle.tdb_txn.proofs.Committed.{first_place}
use Rattle.tdb_txn.proofs.NewAreas.{content_short, runs_end}

-- an image has one extent of an undo area
extent_one : (o : Order) (r : List ℕ) (d e : Extent) → IsAreaExtent o r d → IsAreaExtent o r e → d ≡ e
extent_one o r d e (none zero is) (none also same) = is ∙ sym same
extent_one o r d e (none zero is) (there some same) = absurd (some zero)
extent_one o r d e (there some is) (none zero same) = absurd (some zero)
extent_one o r d e (there some is) (there also same) = is ∙ sym same

pub no_area : (o : Order) (r : List ℕ) (e : Extent) → IsAreaExtent o r e → e.1 ≡ 0 → word o r 44 ≡ 0
no_area o r e (none zero is) short = zero
no_area o r e (there some is) short = absurd (omega (arith, short, ap (λ (x : Extent). x.1) is))

pub no_extent : (o : Order) (r : List ℕ) (e : Extent) → IsAreaExtent o r e → e.1 ≡ 0 → e ≡ (0, 0)
no_extent o r e (none zero is) short = is
no_extent o r e (there some is) short = absurd (omega (arith, short, ap (λ (x : Extent). x.1) is))

pub has_area : (o : Order) (r : List ℕ) (e : Extent) → IsAreaExtent o r e → (e.1 ≡ 0 → ⊥) → HasAreaIn o r e
has_area o r e (none zero is) long = absurd (long (ap (λ (x : Extent). x.1) is))
has_area o r e (there some is) long = record { some = some; extent = is }

no_items : (es : List Extent) → length es ≡ 0 → es ≡ []
no_items [] empty = refl
no_items (e ∷ es) empty = absurd (omega (arith, empty))

-- what leads on from a disk of the same history
pub place_stops : (txn : Txn) (runs : List Extent) (h y new : History) → y ≡ h → (Quiet y → (x : List ℕ) → MayPlace txn (seen y) x runs → LeavesOnly y new (Reopens (seen y)))
    → Quiet h → (x : List ℕ) → MayPlace txn (seen h) x runs → LeavesOnly h new (Reopens (seen h))
place_stops txn runs h y new same = subst (λ (z : History). Quiet z → (x : List ℕ) → MayPlace txn (seen z) x runs → LeavesOnly z new (Reopens (seen z))) same

pub place_planned : (txn : Txn) (runs : List Extent) (plan : Plan) (h y new : History) → y ≡ h
    → (Quiet y → (x : List ℕ) → MayPlace txn (seen y) x runs → IsPlannedOn plan new (seen y) (txn_image txn (seen y)))
    → Quiet h → (x : List ℕ) → MayPlace txn (seen h) x runs → IsPlannedOn plan new (seen h) (txn_image txn (seen h))
place_planned txn runs plan h y new same =
    subst (λ (z : History). Quiet z → (x : List ℕ) → MayPlace txn (seen z) x runs → IsPlannedOn plan new (seen z) (txn_image txn (seen z))) same

pub keep_stops : (txn : Txn) (e : Extent) (runs : List Extent) (h y new : History) → y ≡ h → (Quiet y → MayKeep txn (seen y) e runs → LeavesOnly y new (Reopens (seen y)))
    → Quiet h → MayKeep txn (seen h) e runs → LeavesOnly h new (Reopens (seen h))
keep_stops txn e runs h y new same = subst (λ (z : History). Quiet z → MayKeep txn (seen z) e runs → LeavesOnly z new (Reopens (seen z))) same

pub keep_planned : (txn : Txn) (e : Extent) (runs : List Extent) (plan : Plan) (h y new : History) → y ≡ h
    → (Quiet y → MayKeep txn (seen y) e runs → IsPlannedOn plan new (seen y) (txn_image txn (seen y)))
    → Quiet h → MayKeep txn (seen h) e runs → IsPlannedOn plan new (seen h) (txn_image txn (seen h))
keep_planned txn e runs plan h y new same =
    subst (λ (z : History). Quiet z → MayKeep txn (seen z) e runs → IsPlannedOn plan new (seen z) (txn_image txn (seen z))) same

pub replace_stops : (txn : Txn) (e : Extent) (h y new : History) → y ≡ h
    → (Quiet y → MayCommit txn (seen y) → HasAreaIn (form_of (seen y)).order (seen y) e → LeavesOnly y new (Reopens (seen y)))
    → Quiet h → MayCommit txn (seen h) → HasAreaIn (form_of (seen h)).order (seen h) e → LeavesOnly h new (Reopens (seen h))
replace_stops txn e h y new same =
    subst (λ (z : History). Quiet z → MayCommit txn (seen z) → HasAreaIn (form_of (seen z)).order (seen z) e → LeavesOnly z new (Reopens (seen z))) same

pub replace_refused : (txn : Txn) (e : Extent) (limit : ℕ) (refusal : TxnRefusal) (h y : History) → y ≡ h
    → (MayCommit txn (seen y) → HasAreaIn (form_of (seen y)).order (seen y) e → ReplaceRefused txn limit (seen y) e refusal)
    → MayCommit txn (seen h) → HasAreaIn (form_of (seen h)).order (seen h) e → ReplaceRefused txn limit (seen h) e refusal
replace_refused txn e limit refusal h y same =
    subst (λ (z : History). MayCommit txn (seen z) → HasAreaIn (form_of (seen z)).order (seen z) e → ReplaceRefused txn limit (seen z) e refusal) same

-- the plan of a commit where the undo area is replaced
abbrev pub ReplacePlanned : Txn → Extent → Plan → History → List ℕ → Type 0
ReplacePlanned txn e plan new r = (x : List ℕ) × (b : List ℕ) × AreaReplaced txn r e x b plan.runs × IsPlannedOn plan new r b

pub replace_planned : (txn : Txn) (e : Extent) (plan : Plan) (h y new : History) → y ≡ h
    → (Quiet y → MayCommit txn (seen y) → HasAreaIn (form_of (seen y)).order (seen y) e → ReplacePlanned txn e plan new (seen y))
    → Quiet h → MayCommit txn (seen h) → HasAreaIn (form_of (seen h)).order (seen h) e → ReplacePlanned txn e plan new (seen h)
replace_planned txn e plan h y new same =
    subst (λ (z : History). Quiet z → MayCommit txn (seen z) → HasAreaIn (form_of (seen z)).order (seen z) e → ReplacePlanned txn e plan new (seen z)) same

module _ (txn : Txn) (limit : ℕ) (r : List ℕ) (e : Extent) (runs : List Extent) (may : MayCommit txn r) (is : IsAreaExtent (form_of r).order r e)
    (changed : ChangedRuns r (txn_image txn r) (txn_start txn) e runs) where
  pub nothing : length runs ≡ 0 → txn_size txn ≡ txn_start txn → ChangesNothing txn r
  nothing empty size = record {
    bytes = λ d also i change.
        (no_run_no_change r (txn_image txn r) (txn_start txn) e runs changed).0 (no_items runs empty) i
        (subst (λ (x : Extent). Changed r (txn_image txn r) (txn_start txn) x i) (extent_one (form_of r).order r d e also is) change);
    size = size;
  }

  pub something : (length runs ≡ 0 → txn_size txn ≡ txn_start txn → ⊥) → ChangesNothing txn r → ⊥
  something not N =
      not (ap length ((no_run_no_change r (txn_image txn r) (txn_start txn) e runs changed).1 (λ i change. N.bytes e is i change))) N.size

  -- where there is no undo area
  module _ (short : e.1 ≡ 0) where
    from_none : ChangedRuns r (txn_image txn r) (txn_start txn) (0, 0) runs
    from_none = subst (λ (x : Extent). ChangedRuns r (txn_image txn r) (txn_start txn) x runs) (no_extent (form_of r).order r e is short) changed

    pub may_place : MayPlace txn r r runs
    may_place = first_place txn r runs may (no_area (form_of r).order r e is short) from_none

    pub first_ready : (plan : Plan) (new : History) → plan.runs ≡ runs → plan.area_length ≡ new_area_length (content_length runs) → txn_size txn + plan.area_length ≤ limit
        → IsPlannedOn plan new r (txn_image txn r) → PlannedFor txn limit r new plan
    first_ready plan new same long room planned =
        places r (txn_image txn r)
        (first (no_area (form_of r).order r e is short) refl refl (subst (ChangedRuns r (txn_image txn r) (txn_start txn) (0, 0)) (sym same) from_none))
        (long ∙ ap (λ es. new_area_length (content_length es)) (sym same)) room planned

    pub first_refused : (h : History) (refusal : TxnRefusal) → txn_start txn < 2 ^ 32 → EndBelow (txn_start txn) runs → (ChangesNothing txn r → ⊥) → PlaceRefused (txn_size txn) limit runs refusal
        → AnsweredRightly txn limit r h (Err refusal)
    first_refused h (Full len need) low ends some p = (
      some,
      record {
        x = r;
        b = txn_image txn r;
        runs = runs;
        wants = first (no_area (form_of r).order r e is short) refl refl from_none;
        len_is = p.0;
        need_is = p.1 (content_short (txn_start txn) runs low from_none.in_order ends);
        past = p.2;
      },
    )
    first_refused h Io low ends some p = tt
    first_refused h Memory low ends some p = absurd p

  -- where there is one
  module _ (long : e.1 ≡ 0 → ⊥) where
    pub area_there : HasAreaIn (form_of r).order r e
    area_there = has_area (form_of r).order r e is long

    pub may_keep : 24 + content_length runs ≤ e.1 → MayKeep txn r e runs
    may_keep fits = record { commit = may; there = area_there; fits = fits; changed = changed }

    pub kept_ready : (plan : Plan) (new : History) → 24 + content_length runs ≤ e.1 → plan.runs ≡ runs → IsPlannedOn plan new r (txn_image txn r) → PlannedFor txn limit r new plan
    kept_ready plan new fits same planned = keeps e (subst (MayKeep txn r e) (sym same) (may_keep fits)) planned

    pub other_ready : (plan : Plan) (new : History) → e.1 < 24 + content_length runs → plan.area_length ≡ new_area_length (content_length plan.runs)
        → txn_size txn + plan.area_length ≤ limit → ReplacePlanned txn e plan new r → PlannedFor txn limit r new plan
    other_ready plan new short length room p = places p.0 p.1 (other e runs area_there changed short p.2) length room p.3

    pub other_refused : (h : History) (refusal : TxnRefusal) → e.1 < 24 + content_length runs → (ChangesNothing txn r → ⊥) → ReplaceRefused txn limit r e refusal
        → AnsweredRightly txn limit r h (Err refusal)
    other_refused h (Full len need) short some p = (
      some,
      record {
        x = p.x;
        b = p.b;
        runs = p.runs;
        wants = other e runs area_there changed short p.wants;
        len_is = p.len_is;
        need_is = p.need_is;
        past = p.past;
      },
    )
    other_refused h Io short some p = tt
    other_refused h Memory short some p = record { changes = some; room = λ len need zero N. area_there.some zero }

-- no undo area, so no extent
pub zero_extent : (o : Order) (r : List ℕ) (e : Extent) → IsAreaExtent o r e → word o r 44 ≡ 0 → e.1 ≡ 0
zero_extent o r e (none zero is) also = ap (λ (x : Extent). x.1) is
zero_extent o r e (there some is) zero = absurd (some zero)

-- Where memory was wanting for the runs of what changes.
module _ (txn : Txn) (limit : ℕ) (r : List ℕ) (e : Extent) where
  no_content : (runs : List Extent) → 8 ≤ content_length runs → runs ≡ [] → ⊥
  no_content runs some empty = let bare : content_length runs ≡ 4 = ap content_length empty in omega (arith, some, bare)

  -- why no runs are given
  pub starved_refused : (content : ℕ) (refusal : TxnRefusal) → txn_start txn < 2 ^ 32 → HasRuns r (txn_image txn r) (txn_start txn) e content → IsNoRoomFor content (txn_size txn) limit e refusal
      → RunsRefused txn limit r e refusal
  starved_refused content refusal low H = of refusal
    where
      short : content_length H.runs < 2 ^ 40
      short = content_short (txn_start txn) H.runs low H.changed.in_order (runs_end r (txn_image txn r) (txn_start txn) e H.runs H.changed)

      same : content ≡ content_length H.runs
      same = omega (arith, short, H.long)

      some : HasSomeRuns txn r e H.runs
      some = record { changed = H.changed; some = no_content H.runs H.some }

      small : content < 2 ^ 40
      small = omega (arith, short, same)

      of : (refusal : TxnRefusal) → IsNoRoomFor content (txn_size txn) limit e refusal → RunsRefused txn limit r e refusal
      of (Full len need) p = (p.0, (H.runs, some, p.1, p.2 small ∙ ap new_area_length same, p.3))
      of Io p = absurd p
      of Memory p = (H.runs, some, λ bare. subst (λ n. txn_size txn + new_area_length n ≤ limit) same (p small bare))

  module _ (is : IsAreaExtent (form_of r).order r e) where
    changes_some : (runs : List Extent) → HasSomeRuns txn r e runs → ChangesNothing txn r → ⊥
    changes_some runs H N = H.some ((no_run_no_change r (txn_image txn r) (txn_start txn) e runs H.changed).1 (λ i change. N.bytes e is i change))

    from_zero : (runs : List Extent) → HasSomeRuns txn r e runs → e.1 ≡ 0 → ChangedRuns r (txn_image txn r) (txn_start txn) (0, 0) runs
    from_zero runs H short = subst (λ (x : Extent). ChangedRuns r (txn_image txn r) (txn_start txn) x runs) (no_extent (form_of r).order r e is short) H.changed

    -- the first undo area has the room that its runs want
    fits_first : (runs : List Extent) → HasSomeRuns txn r e runs → (e.1 ≡ 0 → txn_size txn + new_area_length (content_length runs) ≤ limit) → (len need : ℕ) → word (form_of r).order r 44 ≡ 0
        → (x b : List ℕ) (es : List Extent) → WantsArea txn r x b es → len ≡ txn_size txn → need ≡ new_area_length (content_length es) → limit < len + need → ⊥
    fits_first runs H room len need zero x b es (first absent same image changed) length long past =
        let short = zero_extent (form_of r).order r e is zero in
        let one : es ≡ runs = runs_one r (txn_image txn r) (txn_start txn) (0, 0) es runs changed (from_zero runs H short) in
        let more : need ≡ new_area_length (content_length runs) = long ∙ ap (λ fs. new_area_length (content_length fs)) one in
        omega (arith, room short, length, more, past)
    fits_first runs H room len need zero x b es (other d too_much has changed short replaced) length long past = has.some zero

    pub runs_refused : (h : History) (refusal : TxnRefusal) → RunsRefused txn limit r e refusal → AnsweredRightly txn limit r h (Err refusal)
    runs_refused h (Full len need) p = (
      changes_some p.1.0 p.1.1,
      record {
        x = r;
        b = txn_image txn r;
        runs = p.1.0;
        wants = first (no_area (form_of r).order r e is p.0) refl refl (from_zero p.1.0 p.1.1 p.0);
        len_is = p.1.2;
        need_is = p.1.3;
        past = p.1.4;
      },
    )
    runs_refused h Io p = tt
    runs_refused h Memory p = record {
      changes = changes_some p.0 p.1;
      room = λ len need zero N. fits_first p.0 p.1 p.2 len need zero N.x N.b N.runs N.wants N.len_is N.need_is N.past;
    }
