-- A turn of the one aside leads from a state of the world to another one.
use Rattle.std.proofs.Common.{◌≡◌, ◌⊎◌, ℕ, ◌+◌, List, [], Bool, true, false, Option, Some, None, is_some, refl, sym, ◌∙◌, ap, subst, inl, inr, arith}
use Rattle.std.specs.Prelude.{slice_get}
use Rattle.std.proofs.lemmas.Bool.{cases_Bool}
use Rattle.tdb_disk.specs.History.{History, seen}
use Rattle.tdb_space.specs.Accepted.{AcceptWith}
use Rattle.tdb_space.specs.Form.{Form}
use Rattle.tdb_locks.specs.declared.kind.Kind.{Kind}
use Rattle.tdb_locks.specs.declared.piece.Piece.{Piece}
use Rattle.tdb_locks.specs.declared.turn.Turn.{Turn as TurnIs}
use Rattle.tdb_law.specs.Commands.{Reply, Turn}
use Rattle.tdb_law.specs.Commands.GroupCommand.{Commit}
use Rattle.tdb_law.specs.Commands.Command.{OnGroup}
use Rattle.tdb_law.specs.Commands.Turn.{Step, Blocked, Ends}
use Rattle.tdb_law.specs.Effects.{task_left}
use Rattle.tdb_law.specs.Held.{holding}
use Rattle.tdb_law.specs.Layout.{IsOffRecords}
use Rattle.tdb_law.specs.Openers.{Task, nowhere}
use Rattle.tdb_law.specs.Rows.{is_changed}
use Rattle.tdb_law.specs.Turned.{Turned}
use Rattle.tdb_law.specs.World.{State, IsSound}
use Rattle.tdb_law.proofs.Sound.{sound_after}
use Rattle.tdb_law.proofs.Tests.{never_true}
use Rattle.tdb_steps.specs.Turns.{number_of}
use Rattle.tdb_walk.specs.Cursors.{spot_of}
use Rattle.tdb_walk.specs.NextLive.{place_of}
use Rattle.tdb_walk.specs.declared.standing.Standing.{Standing}
use Rattle.tdb_walk.specs.declared.standing.Standing.TheVariants.{Before, On, Past as Behind}
use Rattle.tdb_commands.specs.InLaw.{law_opener, law_turn}
use Rattle.tdb_commands.specs.declared.options.Options.{Options}
use Rattle.tdb_law.specs.OneAside.Sides.{Past, Side, beside}
use Rattle.tdb_law.specs.OneAside.Starts.{with_starts, MayStart}
use Rattle.tdb_law.proofs.OneAside.Starting.{starts_turn}
use Rattle.tdb_txn_owner.specs.Ends.{task_of, IsBlocked}
use Rattle.tdb_txn_owner.specs.Holders.{HolderState}
use Rattle.tdb_txn_owner.specs.Stages.{stage_records, stage_task, Known, KnowsFile, IsSide, MarkIs}
use Rattle.tdb_txn_owner.specs.Turned.{BeginsOn, KeepsFile, MayTurn, StageTurned, brings, keeps}
use Rattle.tdb_txn_owner.specs.Wanting.{records_after, records_with, stage_wants}
use Rattle.tdb_txn_owner.specs.declared.stage.Stage.{Stage}
use Rattle.tdb_txn_owner.specs.declared.stage.Stage.TheVariants as At
use Rattle.tdb_txn_owner.specs.declared.wanting.Wants.{Wants}
use Rattle.tdb_txn_owner.proofs.Wanted.{wanted_law}
use Rattle.tdb_openers.specs.Openers.{place_at, spot_at}
use Rattle.tdb_openers.specs.ShutOut.{heads_in}
use Rattle.tdb_openers.specs.Worlds.{state_in, BytesStand, IsNumber, Stands}
use Rattle.tdb_openers.specs.declared.opener.Opener.{Opener}
use Rattle.tdb_openers.proofs.ExplicitLocks.Aside.{one_number}
use Rattle.tdb_openers.proofs.Files.Images.{locks_none}
use Rattle.tdb_openers.proofs.Joining.Putting.{by_number}
use Rattle.tdb_openers.proofs.ExplicitLocks.Sharing.{records_are_free}
use Rattle.tdb_world.specs.States.{once, writes_all, IsAside, IsSeen, IsStateOf}
use Rattle.tdb_world.specs.States.IsStateOf.{of_whole}
use Rattle.tdb_world.specs.Whole.{form_at, is_starting, options_at, HolderFits, Whole, WorldFits}
use Rattle.tdb_world.proofs.AsideTurned.{stays_turned}
use Rattle.tdb_world.proofs.Barring.{bars_none, prepared_bars, shut_bars, step_bars, step_own, turn_counts}
use Rattle.tdb_world.proofs.Claimed.{all_claimed, with_list, IsClaimed}
use Rattle.tdb_world.proofs.MayTurn.{may_turn, LeavesFree}
use Rattle.tdb_world.proofs.OthersKept.{OneChanges}
use Rattle.tdb_world.proofs.Staged.{begins_on, change_writes, claimed_once, goes_writing, idle_writing, knows_stage, not_blocked, not_writing, writing_is, writing_txn}
use Rattle.tdb_world.proofs.Standings.{any_image, may_start_whole}

-- The one aside is this side of a state whose image is that which is known of the file.
pub record IsAt (w : Whole) (h : HolderState) (history : History) (k : Known) (past : Past) (s : Side) : Type 0 where
  pub side : IsSide (form_at w) (options_at w) h.owner h.locks h.stage k past s
  pub file : KnowsFile (form_at w) h.stage history k
  pub records : (x : Opener) → IsNumber w.openers h.owner x → x.held.all ≡ once (stage_records h.stage)
  pub shuts : s.shuts ≡ writes_all (stage_records h.stage)
  pub accepted : is_some (stage_records h.stage) ≡ true → AcceptWith (form_at w) k.file []
  pub others : writes_all (stage_records h.stage) ≡ false → IsSeen w history k.file
  pub number : writes_all (stage_records h.stage) ≡ true → s.table 48 ≡ 0 → w.number ≡ number_of (form_at w) k.file
  pub heads : writes_all (stage_records h.stage) ≡ true → s.heads ≡ heads_in (form_at w) (seen history)

pub at_known : (w : Whole) (h : HolderState) (history : History) (img : List ℕ) (past : Past) (s : Side) (A : IsAside w h history img past s) → IsAt w h history A.known past s
at_known w h history img past s A = record {
  side = A.side;
  file = A.file;
  records = A.records;
  shuts = A.shuts;
  accepted = λ e. subst (λ i. AcceptWith (form_at w) i []) A.image (A.accepted e);
  others = λ e. subst (IsSeen w history) A.image (A.others e);
  number = λ e free. A.number e free ∙ ap (number_of (form_at w)) A.image;
  heads = A.heads;
}

pub of_known : (w : Whole) (h : HolderState) (history : History) (k : Known) (past : Past) (s : Side) → IsAt w h history k past s → IsAside w h history k.file past s
of_known w h history k past s A =
    record { known = k; image = refl; side = A.side; file = A.file; records = A.records; shuts = A.shuts; accepted = A.accepted; others = A.others; number = A.number; heads = A.heads }

-- who shuts the others out, and what they may read then, is no matter to the mark of a walk
shut_mark : (f : Form) (k : Known) (stage : Stage) (s : Side) (shuts : Bool) (heads : ℕ → Bool) → MarkIs f k stage s → MarkIs f k stage (record s { shuts = shuts; heads = heads })
shut_mark f k (At.Starting st) s shuts heads M = M
shut_mark f k (At.Open txn command) s shuts heads M = M
shut_mark f k (At.Committing c) s shuts heads M = M
shut_mark f k (At.Preparing p) s shuts heads M = M
shut_mark f k (At.Prepared left command) s shuts heads M = M
shut_mark f k (At.Finishing c) s shuts heads M = M

-- a cursor that stands on no record
off_place : (at : Standing) → spot_of at ≡ None → IsOffRecords (place_of at)
off_place (On chain off) none = absurd (cc none)
off_place (Before chain) none = tt
off_place Behind none = tt

pub off_by : (z : Option Opener) → (spot_at z).stands ≡ None → IsOffRecords (place_at z)
off_by None none = tt
off_by (Some x) none = off_place x.walk.cursor.place none

-- The one aside, before the turn.
module _ (w : Whole) (h : HolderState) (any : List ℕ) (size : ℕ) (F : WorldFits w any size) (HF : HolderFits w h size) (old : History) (k : Known) (past : Past) (s : Side) (A : IsAt w h old k past s)
    (t : Task) (mine : stage_task h.stage ≡ Some t) where
  abbrev f : Form
  f = form_at w

  abbrev o : Options
  o = options_at w

  abbrev p : State
  p = state_in w.openers k.file

  abbrev before : State
  before = beside p past s

  abbrev wants : Wants
  wants = stage_wants h.stage

  pub here : law_opener h.owner ≡ s.here
  here = by_number h.owner s.here A.side.here

  pub begun : is_starting w.starts s.here ≡ false
  begun = ap (is_starting w.starts) (sym here) ∙ HF.begun

  pub stood : Stands w.openers k.file size
  stood = any_image w.openers any k.file size F.openers

  pub begins : BeginsOn f h.stage k.file
  begins = begins_on f h.stage k.file A.accepted

  pub starts_may : MayStart (is_starting w.starts) before
  starts_may = may_start_whole w any size F k.file (Some h) HF old past (Some s) (of_known w h old k past s A)

  pub there_before : slice_get w.openers.openers s.here ≡ Some HF.opener
  there_before = subst (λ i. slice_get w.openers.openers i ≡ Some HF.opener) (sym (by_number h.owner HF.number.place HF.number.counted) ∙ here) HF.number.there

  -- while the one aside writes all records no cursor stands on one
  pub off_records : writes_all (stage_records h.stage) ≡ true → (q : ℕ) → IsOffRecords (place_at (slice_get w.openers.openers q))
  off_records e q =
      off_by (slice_get w.openers.openers q)
      (locks_none f o w.openers.openers w.openers.table k.file size s.here 1 HF.opener stood there_before HF.bare (HF.writes (writing_is (stage_records h.stage) e)) q).cursor

  -- The file is another one only where the turn brings the image of a commit.
  module _ (turn : Turn) (n : Known) where
    pub changed : KeepsFile f s t turn k n → (n.file ≡ k.file) ⊎ ((writes_all (stage_records h.stage) ≡ true) × AcceptWith f n.file [])
    changed (keeps same) = inl same
    changed (brings txn is step has image made accepted now) =
        inr (change_writes f o h.owner h.locks k past s t is made h.stage mine A.side, subst (λ i. AcceptWith f i []) (sym now) accepted)

  -- What the next turn wants has been claimed among the openers.
  module _ (ys : List Opener) (qs : List Piece) (C : IsClaimed w.openers h.owner HF.opener (stage_wants h.stage) ys qs) where
    pub one : OneChanges w.openers.openers ys w.openers.table qs s.here
    one = subst (OneChanges w.openers.openers ys w.openers.table qs) here C.one

    pub may : MayTurn f before.table s t
    may = may_turn f o w.openers.openers w.openers.table any size F.openers k.file past s t wants (wanted_law f o h.owner h.locks h.stage k past s t A.side mine)
        (subst (λ i. LeavesFree w.openers.table i wants) here C.free)

    pub there_claimed : slice_get ys s.here ≡ Some C.opener
    there_claimed = subst (λ i. slice_get ys i ≡ Some C.opener) (sym (by_number h.owner C.number.place C.number.counted) ∙ here) C.number.there

    -- the file is accepted where the one aside has all records, or has claimed them
    accepted_at : (held : Option Kind) → stage_records h.stage ≡ held → (wanted : Wants) → wants ≡ wanted → is_some (records_with wanted held) ≡ true → AcceptWith f k.file []
    accepted_at (Some kind) is wanted ws e = A.accepted (ap is_some is)
    accepted_at None is Wants.Nothing ws e = absurd (cc e)
    accepted_at None is Wants.Transaction ws e = absurd (cc e)
    accepted_at None is (Wants.Records kind) ws e =
        records_are_free f o ys qs k.file size s.here 1 kind C.opener (C.stands k.file size stood) there_claimed C.bare (C.all ∙ ap (λ v. all_claimed v HF.opener.held.all) ws)
        (C.bytes k.file (A.others (ap writes_all is)).bytes)
    accepted_at None is (Wants.Opening numbered) ws e = absurd (cc e)

    -- The turn leaves the opener aside.
    module _ (new : History) (turn : TurnIs) (unblocked : IsBlocked (law_turn turn) → ⊥) (rs : List Piece) (later : Stage)
        (T : StageTurned f o before.table h.owner rs h.stage (Some later) old new k past s t (law_turn turn)) (go : stage_records later ≡ records_after h.stage turn) where
      abbrev Z : Side
      Z = record T.side { shuts = writes_all (stage_records later); heads = heads_in f (seen new) }

      held_after : stage_records later ≡ records_with wants (stage_records h.stage)
      held_after = go ∙ not_blocked turn wants (stage_records h.stage) unblocked

      all_after : C.opener.held.all ≡ once (stage_records later)
      all_after = C.all ∙ (ap (all_claimed wants) (A.records HF.opener HF.number) ∙ (claimed_once wants (stage_records h.stage) ∙ ap once (sym held_after)))

      not_before : writes_all (stage_records later) ≡ false → writes_all (stage_records h.stage) ≡ false
      not_before none = elim (cases_Bool (writes_all (stage_records h.stage))) [
        | inl e ↦ absurd (never_true (sym none ∙ (ap writes_all held_after ∙ goes_writing h.stage e)))
        | inr e ↦ e
      ]

      to : (T.known.file ≡ k.file) ⊎ ((writes_all (stage_records h.stage) ≡ true) × AcceptWith f T.known.file [])
      to = changed (law_turn turn) T.known T.kept

      accepted_after : is_some (stage_records later) ≡ true → AcceptWith f T.known.file []
      accepted_after e = elim to [
        | inl same ↦ subst (λ i. AcceptWith f i []) (sym same) (accepted_at (stage_records h.stage) refl wants refl (ap is_some (sym held_after) ∙ e))
        | inr made ↦ made.1
      ]

      file_after : KnowsFile f later new T.known
      file_after = knows_stage f h.stage later old new T.known T.file

      -- others see the file where they may
      seen_after : writes_all (stage_records later) ≡ false → (T.known.file ≡ seen new) × (T.known.file ≡ k.file)
      seen_after none = (
        sym (file_after.reads (not_writing (stage_records later) none)),
        (elim to [ inl same ↦ same | inr made ↦ absurd (never_true (sym (not_before none) ∙ made.0)) ]),
      )

      -- the opener holds the byte of the sequence number as its command and its transaction say
      mine_holds : s.table 48 ≡ holding f s.own nowhere (Some t) 48
      mine_holds = A.side.holds 48 ∙ ap (λ z. holding f s.own nowhere z 48) (A.side.task ∙ mine)

      left_holds : T.side.table 48 ≡ holding f T.side.own nowhere (task_left t.command t.steps (law_turn turn)) 48
      left_holds = T.turned.holds 48 ∙ ap (λ z. holding f T.side.own nowhere z 48) T.turned.leaves

      step_holds : law_turn turn ≡ Step → T.side.table 48 ≡ holding f s.own nowhere (Some (task_of t.command (t.steps + 1))) 48
      step_holds is =
          left_holds ∙ (ap (λ u. holding f T.side.own nowhere (task_left t.command t.steps u) 48) is ∙ ap (λ x. holding f x nowhere (Some (task_of t.command (t.steps + 1))) 48) (step_own (law_turn turn) is T.turned.effect))

      idle_now : (r : Reply) → law_turn turn ≡ Ends r → T.side.task ≡ None
      idle_now r is = T.turned.leaves ∙ ap (task_left t.command t.steps) is

      barred_by : (u : Turn) → law_turn turn ≡ u → writes_all (stage_records h.stage) ≡ true → writes_all (stage_records later) ≡ true → T.side.table 48 ≡ 0 → s.table 48 ≡ 0
      barred_by Step is e now free = let more = step_bars f s.own t.command t.steps in let before = mine_holds in let after = step_holds is in omega (arith, more, before, after, free)
      barred_by (Blocked owner byte) is e now free = absurd (unblocked (subst IsBlocked (sym is) tt))
      barred_by (Ends r) is e now free =
          let idle = idle_now r is in
          let has = writing_txn f o h.owner h.locks k past s h.stage e A.side in
          let left = idle_writing f o h.owner rs T.known T.later T.side later (sym T.left.task ∙ idle) now T.left in
          let counts = turn_counts f s.own has.0 has.1 (law_turn turn) T.turned.effect left.0 left.1 in
          elim (cases_Bool left.0.numbered) [
            | inl counting ↦ absurd (
                let two = prepared_bars f T.side.own left.0 left.1 counting left.2.0 left.2.1 left.2.2 in
                let now : T.side.table 48 ≡ holding f T.side.own nowhere None 48 = T.turned.holds 48 ∙ ap (λ z. holding f T.side.own nowhere z 48) idle in
                omega (arith, two, now, free))
            | inr uncounting ↦ mine_holds ∙ bars_none f s.own has.0 has.1 (sym counts ∙ uncounting) (Some t)
          ]

      number_by : KeepsFile f s t (law_turn turn) k T.known → T.side.table 48 ≡ 0 → number_of f T.known.file ≡ number_of f k.file
      number_by (keeps same) free = ap (number_of f) same
      number_by (brings txn is step has image made accepted now) free = elim (cases_Bool txn.numbered) [
        | inl counting ↦ absurd (
            let two = shut_bars f s.own txn has counting (t.steps + 1) (subst (λ c. is_changed f c s.own (t.steps + 1) ≡ true) is made) in
            let there : T.side.table 48 ≡ holding f s.own nowhere (Some (task_of (OnGroup Commit) (t.steps + 1))) 48 = step_holds step ∙ ap (λ c. holding f s.own nowhere (Some (task_of c (t.steps + 1))) 48) is in
            omega (arith, two, there, free))
        | inr uncounting ↦ ap (number_of f) now ∙ A.side.numbers.still txn has uncounting
      ]

      -- The number that is kept with the world is that of the file before, or was kept before.
      module _ (number : ℕ) (kept : writes_all (stage_records h.stage) ≡ true → number ≡ w.number)
          (fresh : writes_all (stage_records h.stage) ≡ false → writes_all (stage_records later) ≡ true → number ≡ number_of f (seen old)) where
        number_after : writes_all (stage_records later) ≡ true → T.side.table 48 ≡ 0 → number ≡ number_of f T.known.file
        number_after now free = elim (cases_Bool (writes_all (stage_records h.stage))) [
          | inl e ↦ kept e ∙ (A.number e (barred_by (law_turn turn) refl e now free) ∙ sym (number_by T.kept free))
          | inr none ↦ fresh none now ∙ (ap (number_of f) (A.file.reads (not_writing (stage_records h.stage) none)) ∙ sym (number_by T.kept free))
        ]

        abbrev after_holder : HolderState
        after_holder = record { owner = h.owner; locks = rs; stage = later }

        abbrev after_world : Whole
        after_world = record w { openers = with_list w.openers ys qs; aside = Some after_holder; number = number }

        at_after : IsAt after_world after_holder new T.known T.later Z
        at_after = record {
          side = record {
            here = T.left.here;
            alone = T.left.alone;
            table = T.left.table;
            holds = T.left.holds;
            task = T.left.task;
            keeps = T.left.keeps;
            live = T.left.live;
            options = T.left.options;
            own = T.left.own;
            numbers = T.left.numbers;
            mark = shut_mark f T.known later T.side (writes_all (stage_records later)) (heads_in f (seen new)) T.left.mark;
          };
          file = file_after;
          records = λ x N. ap (λ (z : Opener). z.held.all) (one_number (with_list w.openers ys qs) h.owner x C.opener N C.number) ∙ all_after;
          shuts = refl;
          accepted = accepted_after;
          others = λ none. let both = seen_after none in record { image = both.0; bytes = C.bytes T.known.file (subst (λ i. BytesStand w.openers i) (sym both.1) (A.others (not_before none)).bytes) };
          number = number_after;
          heads = λ e. refl;
        }

        turned : Turned f before s.here t (law_turn turn) (beside (state_in (with_list w.openers ys qs) T.known.file) T.later Z)
        turned =
            stays_turned f o o w.openers.openers ys w.openers.table qs h.owner rs h.stage later old new k past s t (law_turn turn) T one (writes_all (stage_records later)) (heads_in f (seen new))
            (λ q ne. elim to [ inl same ↦ inl same | inr made ↦ inr (off_records made.0 q) ])

        module _ (S : IsSound f before) (fresh_world : w.stale ≡ false) where
          pub stays_leads : (after : State) × (task : Task) × IsStateOf after_world new after × Turned f (with_starts (is_starting w.starts) before) (law_opener h.owner) task (law_turn turn) after
          stays_leads =
              let after = beside (state_in (with_list w.openers ys qs) T.known.file) T.later Z in (
                with_starts (is_starting w.starts) after,
                t,
                of_whole (record {
                  fresh = fresh_world;
                  image = T.known.file;
                  past = T.later;
                  side = Some Z;
                  is_side = of_known after_world after_holder new T.known T.later Z at_after;
                  sound = sound_after f before after s.here t (law_turn turn) S turned;
                  is = refl;
                }),
                subst (λ i. Turned f (with_starts (is_starting w.starts) before) i t (law_turn turn) (with_starts (is_starting w.starts) after)) (sym here)
                    (starts_turn f before after (is_starting w.starts) s.here t (law_turn turn) starts_may begun turned).1,
              )
