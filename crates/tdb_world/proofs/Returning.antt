-- A turn of the one aside by which it comes back among the others.
use Rattle.std.proofs.Common.{◌≡◌, ℕ, ◌+◌, List, [], Bool, false, nat_lt, Some, None, refl, sym, ◌∙◌, ap, subst, inl, inr, arith}
use Rattle.std.specs.Prelude.{slice_get, not, is_some}
use Rattle.std.specs.FinMap.{empty, get}
use Rattle.std.specs.List.{sum}
use Rattle.std.specs.Map.{values_of}
use Rattle.std.proofs.lemmas.Bool.{cases_Bool}
use Rattle.std.proofs.lemmas.Bool.Decides.{nat_tests}
use Rattle.tdb_disk.specs.History.{History, seen}
use Rattle.tdb_space.specs.Accepted.{AcceptWith}
use Rattle.tdb_space.specs.Form.{Form}
use Rattle.tdb_locks.specs.declared.piece.Piece.{Piece}
use Rattle.tdb_law.specs.Commands.{Turn}
use Rattle.tdb_law.specs.Effects.{task_left}
use Rattle.tdb_law.specs.Images.{image_map}
use Rattle.tdb_law.specs.Layout.{Place, IsOffRecords, chains_in, mark_of}
use Rattle.tdb_law.specs.Openers.{Own, Task}
use Rattle.tdb_law.specs.Turned.{Turned}
use Rattle.tdb_law.specs.Walks.{Lost, Shift}
use Rattle.tdb_law.specs.World.{State, IsSound}
use Rattle.tdb_law.proofs.HandsOut.{image_answers}
use Rattle.tdb_law.proofs.Marking.{all_shift}
use Rattle.tdb_law.proofs.Sound.{sound_after}
use Rattle.tdb_steps.proofs.Cells.{live_mapped}
use Rattle.tdb_commands.specs.InLaw.{law_opener, options_of}
use Rattle.tdb_commands.specs.declared.options.Options.{Options}
use Rattle.tdb_commands.proofs.Counts.{none_counted}
use Rattle.tdb_law.specs.OneAside.Sides.{Past, Side, alone, beside}
use Rattle.tdb_law.specs.OneAside.Starts.{with_starts}
use Rattle.tdb_law.proofs.OneAside.Starting.{starts_turn}
use Rattle.tdb_txn_owner.specs.Holders.{HolderState}
use Rattle.tdb_txn_owner.specs.Lifts.{IsBack}
use Rattle.tdb_txn_owner.specs.Stages.{is_closing, stage_records, stage_task, Known}
use Rattle.tdb_txn_owner.specs.Turned.{KeepsFile, StageTurned, brings, keeps}
use Rattle.tdb_openers.specs.Given.{holds_chains}
use Rattle.tdb_openers.specs.Openers.{all_of, law_task, no_walk, own_at, own_of, place_at, spot_at, spot_by, task_at}
use Rattle.tdb_openers.specs.Turning.{law_table}
use Rattle.tdb_openers.specs.Worlds.{state_in, BytesStand, World}
use Rattle.tdb_openers.specs.declared.opener.Opener.{Opener}
use Rattle.tdb_openers.proofs.Files.Images.{lock_keeps_file}
use Rattle.tdb_openers.proofs.Walks.StillWalks.{still_shift}
use Rattle.tdb_world.specs.States.{writes_all, IsStateOf}
use Rattle.tdb_world.specs.States.IsStateOf.{of_whole}
use Rattle.tdb_world.specs.Whole.{form_at, is_starting, options_at, HolderFits, Whole, WorldFits}
use Rattle.tdb_world.proofs.AsideTurned.{back_turned}
use Rattle.tdb_world.proofs.Claimed.{with_list}
use Rattle.tdb_world.proofs.Leading.{begun, here, off_records, starts_may, stood, there_before, IsAt}
use Rattle.tdb_world.proofs.OthersKept.{others_keep, OneChanges}
use Rattle.tdb_world.proofs.Staged.{knows_back, writing_is, ReadsLike}

zero_of : (n : ℕ) → nat_lt 0 n ≡ false → n ≡ 0
zero_of n e = grind (arith, nat_tests)

-- what an opener has that holds nothing
abbrev pub nothing_of : Options → Bool → Own
nothing_of options live = record { options = options_of options; live = live; txn = None; counts = empty; all = None; cursor = None }

pub bare_own : (options : Options) (x : Opener) → x.walk ≡ no_walk → holds_chains x.held ≡ false → x.held.all ≡ None → own_of options x ≡ nothing_of options x.live
bare_own options x walk chains all =
    let counts = none_counted x.held.chains (zero_of (sum (values_of x.held.chains)) chains) in
    λ i. record { options = options_of options; live = x.live; txn = None; counts = counts i; all = all_of (all i); cursor = (walk i).shown }

-- The opener is back among the others, whom it leaves as they were; it holds nothing, and is live if it stays.
pub record IsBackIn (old : World) (who : ℕ) (stays : Bool) (zs : List Opener) (rs : List Piece) : Type 0 where
  pub opener : Opener
  pub there : slice_get zs (law_opener who) ≡ Some opener
  pub idle : opener.task ≡ None
  pub own : (options : Options) → own_of options opener ≡ nothing_of options stays
  pub walk : opener.walk ≡ no_walk
  pub nothing : (b : ℕ) → law_table rs (law_opener who) b ≡ 0
  pub one : OneChanges old.openers zs old.table rs (law_opener who)
  pub bytes : (img : List ℕ) → BytesStand old img → BytesStand (with_list old zs rs) img

-- Where two accepted images have the same map, a walk that stands on no record stays where it is.
pub same_map_shift : (f : Form) (a b : List ℕ) (place : Place) (lost : List ℕ → Type 0) → AcceptWith f a [] → AcceptWith f b [] → image_map f b ≡ image_map f a → IsOffRecords place
    → Shift f lost (mark_of f (chains_in f a) place) (mark_of f (chains_in f b) place)
same_map_shift f a b place lost A B same off =
    let S = all_shift f (λ k. false) (chains_in f a) (chains_in f b) place off
    (λ k there. inl (live_mapped f b k [] B ∙ (ap is_some (sym (image_answers f b k) ∙ (ap (λ m. get m k) same ∙ image_answers f a k)) ∙ (sym (live_mapped f a k [] A) ∙ there)))) in
    record { inside = S.inside; reached = S.reached; fewer = S.fewer; kept = λ k e. (elim (S.kept k e) [ inl ahead ↦ inl ahead | inr none ↦ absurd (cc none) ]) }

module _ (w : Whole) (h : HolderState) (any : List ℕ) (size : ℕ) (F : WorldFits w any size) (HF : HolderFits w h size) (old : History) (k : Known) (past : Past) (s : Side) (A : IsAt w h old k past s)
    (t : Task) (mine : stage_task h.stage ≡ Some t) (zs : List Opener) (rs : List Piece) (B : IsBackIn w.openers h.owner (not (is_closing h.stage)) zs rs) (new : History) (turn : Turn) (locks : List Piece)
    (T : StageTurned (form_at w) (options_at w) (beside (state_in w.openers k.file) past s).table h.owner locks h.stage None old new k past s t turn) where
  abbrev f : Form
  f = form_at w

  abbrev o : Options
  o = options_at w

  abbrev before : State
  before = beside (state_in w.openers k.file) past s

  at : law_opener h.owner ≡ s.here
  at = here w h any size F HF old k past s A t mine

  one : OneChanges w.openers.openers zs w.openers.table rs s.here
  one = subst (OneChanges w.openers.openers zs w.openers.table rs) at B.one

  -- the end of a command brings no image
  same_by : KeepsFile f s t turn k T.known → T.known.file ≡ k.file
  same_by (keeps same) = same
  same_by (brings txn is step has image made accepted now) =
      absurd (let bad : None ≡ Some (record { command = t.command; steps = t.steps + 1 }) = sym T.left.task ∙ (T.turned.leaves ∙ ap (task_left t.command t.steps) step) in cc bad)

  same : T.known.file ≡ k.file
  same = same_by T.kept

  seen_before : writes_all (stage_records h.stage) ≡ false → seen old ≡ T.known.file
  seen_before none = sym (A.others none).image ∙ sym same

  reads : ReadsLike f h.stage old new T.known
  reads = knows_back f old new T.known h.stage T.file seen_before

  -- others' walks stay
  walks_by : (q : ℕ) → Shift f (Lost f t.command t.steps s.own turn false (mark_of f (chains_in f k.file) (place_at (slice_get w.openers.openers q)))) (mark_of f (chains_in f k.file) (place_at (slice_get w.openers.openers q)))
      (mark_of f (chains_in f (seen new)) (place_at (slice_get w.openers.openers q)))
  walks_by q = elim (cases_Bool (writes_all (stage_records h.stage))) [
    | inl e ↦ same_map_shift f k.file (seen new) (place_at (slice_get w.openers.openers q)) _ (A.accepted (ap is_some (writing_is (stage_records h.stage) e))) (reads.accepted e) (reads.map ∙ ap (image_map f) same)
        (off_records w h any size F HF old k past s A t mine e q)
    | inr none ↦ (let file : k.file ≡ seen new = (A.others none).image ∙ ap seen (sym (reads.still none)) in
        subst (λ i. Shift f (Lost f t.command t.steps s.own turn false (mark_of f (chains_in f k.file) (place_at (slice_get w.openers.openers q)))) (mark_of f (chains_in f k.file) (place_at (slice_get w.openers.openers q)))
        (mark_of f (chains_in f i) (place_at (slice_get w.openers.openers q)))) file (still_shift f _ _))
  ]

  abbrev later : State
  later = state_in (with_list w.openers zs rs) (seen new)

  abbrev back : Side
  back = record T.side { mark = later.mark s.here; shuts = false }

  here_left : law_opener h.owner ≡ T.side.here
  here_left = at ∙ sym T.turned.here

  there : slice_get zs T.side.here ≡ Some B.opener
  there = subst (λ i. slice_get zs i ≡ Some B.opener) here_left B.there

  left_own : T.side.own ≡ nothing_of o (not (is_closing h.stage))
  left_own = sym T.left.own ∙ (λ i. record { options = T.left.options i; live = T.left.live i; txn = None; counts = empty; all = None; cursor = None })

  is_back : IsBack later back
  is_back = record {
    table = λ b. subst (λ i. law_table rs i b ≡ 0) here_left (B.nothing b) ∙ sym (T.left.nothing b);
    task = ap task_at there ∙ (ap law_task B.idle ∙ sym T.left.task);
    own = ap (own_at o) there ∙ (B.own o ∙ sym left_own);
    spot = ap spot_at there ∙ ap (λ z. spot_by z.cursor) B.walk;
    mark = ap later.mark T.turned.here;
  }

  turned : Turned f before s.here t turn (alone later T.later)
  turned =
      back_turned f o o w.openers.openers zs w.openers.table rs h.owner locks h.stage old new k past s t turn T one (seen new) reads.map reads.number
      (others_keep f o w.openers.openers zs w.openers.table rs k.file (seen new) s t turn one (λ q ne. walks_by q)) is_back

  bytes_now : BytesStand (with_list w.openers zs rs) (seen new)
  bytes_now = B.bytes (seen new) (elim (cases_Bool (writes_all (stage_records h.stage))) [
    | inl e ↦
        lock_keeps_file f o w.openers.openers w.openers.table k.file (seen new) size s.here 1 HF.opener (stood w h any size F HF old k past s A t mine) (there_before w h any size F HF old k past s A t mine) HF.bare
        (HF.writes (writing_is (stage_records h.stage) e)) (reads.accepted e)
    | inr none ↦ subst (BytesStand w.openers) ((A.others none).image ∙ ap seen (sym (reads.still none))) (A.others none).bytes
  ])

  module _ (number : ℕ) (S : IsSound f before) (fresh_world : w.stale ≡ false) where
    abbrev after_world : Whole
    after_world = record w { openers = with_list w.openers zs rs; aside = None; number = number }

    pub returns_lead : (after : State) × (task : Task) × IsStateOf after_world new after × Turned f (with_starts (is_starting w.starts) before) (law_opener h.owner) task turn after
    returns_lead =
        let after = alone later T.later in (
          with_starts (is_starting w.starts) after,
          t,
          of_whole (record {
            fresh = fresh_world;
            image = seen new;
            past = T.later;
            side = None;
            is_side = record { image = refl; bytes = bytes_now };
            sound = sound_after f before after s.here t turn S turned;
            is = refl;
          }),
          subst (λ i. Turned f (with_starts (is_starting w.starts) before) i t turn (with_starts (is_starting w.starts) after)) (sym at)
              (starts_turn f before after (is_starting w.starts) s.here t turn (starts_may w h any size F HF old k past s A t mine) (begun w h any size F HF old k past s A t mine) turned).1,
        )
