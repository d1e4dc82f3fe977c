-- The one aside dies.
use Rattle.std.proofs.Common.{◌≡◌, ◌≢◌, ℕ, List, [], slice_get, Option, Bool, true, false, Some, None, is_some, refl, sym, ◌∙◌, ap, subst, inl, inr, arith}
use Rattle.std.proofs.lemmas.Bool.{cases_Bool}
use Rattle.std.specs.FinMap.{empty}
use Rattle.tdb_disk.specs.History.{History, seen}
use Rattle.tdb_space.specs.Accepted.{AcceptWith}
use Rattle.tdb_space.specs.Form.{Form}
use Rattle.tdb_space.specs.Opening.{restored}
use Rattle.tdb_space.proofs.Opening.Undone.{read_as_it_is}
use Rattle.tdb_locks.specs.declared.kind.Kind.TheVariants.{Write}
use Rattle.tdb_locks.specs.declared.piece.Piece.{Piece}
use Rattle.tdb_law.specs.Commands.{Command}
use Rattle.tdb_law.specs.Events.{Dies}
use Rattle.tdb_law.specs.Images.{image_map}
use Rattle.tdb_law.specs.Layout.{chains_in, mark_of}
use Rattle.tdb_law.specs.Lines.{leaves_open, MayDie}
use Rattle.tdb_law.specs.Openers.{Own, closed, nowhere}
use Rattle.tdb_law.specs.Outcomes.{touches}
use Rattle.tdb_law.specs.Refusals.{chain_byte}
use Rattle.tdb_law.specs.Walks.{Shift}
use Rattle.tdb_law.specs.World.{State, IsPending, IsSound}
use Rattle.tdb_law.proofs.Locks.{chain_place}
use Rattle.tdb_law.proofs.Pending.{pending_touches}
use Rattle.tdb_law.proofs.Tests.{never_true}
use Rattle.tdb_law.proofs.Walking.{put_here, put_else}
use Rattle.tdb_steps.specs.Turns.{number_of}
use Rattle.tdb_commands.specs.InLaw.{law_opener}
use Rattle.tdb_commands.specs.declared.options.Options.{Options}
use Rattle.tdb_law.specs.OneAside.Sides.{Past, Side, alone, beside, StandsAside}
use Rattle.tdb_law.specs.OneAside.Starts.{with_starts}
use Rattle.tdb_law.proofs.OneAside.Starting.{starts_die}
use Rattle.tdb_txn_owner.specs.Holders.{stage_gate, HolderState}
use Rattle.tdb_txn_owner.specs.Stages.{stage_records, stage_task}
use Rattle.tdb_txn_owner.proofs.Gates.{gate_law, gate_rests, gate_undone, gate_writes, IsAtRest, IsUndone}
use Rattle.tdb_openers.specs.Aside.{LocksNoRecord}
use Rattle.tdb_openers.specs.Openers.{own_at, place_at}
use Rattle.tdb_openers.specs.Worlds.{state_in, BytesStand, Stands}
use Rattle.tdb_openers.specs.declared.opener.Opener.{Opener}
use Rattle.tdb_openers.proofs.Joining.Closed.{found}
use Rattle.tdb_openers.proofs.Files.Images.{lock_keeps_file, locks_none}
use Rattle.tdb_openers.proofs.Walks.StillWalks.{still_shift}
use Rattle.tdb_openers.proofs.Joining.Stood.{injected}
use Rattle.tdb_world.specs.States.{writes_all, IsAside, IsStaleState, IsStateOf, IsWholeState, SideIs}
use Rattle.tdb_world.specs.States.IsStateOf.{of_whole, of_stale}
use Rattle.tdb_world.specs.Whole.{Whole, AsideFits, HolderFits, WorldFits, form_at, is_starting, options_at}
use Rattle.tdb_world.proofs.Claimed.{with_list}
use Rattle.tdb_world.proofs.Leading.{off_by}
use Rattle.tdb_world.proofs.OthersKept.{OneChanges}
use Rattle.tdb_world.proofs.Returning.{same_map_shift}
use Rattle.tdb_world.proofs.Staged.{writing_is}
use Rattle.tdb_world.proofs.Standings.{any_image, aside_begun, aside_here, aside_there, may_start_whole, stands_by}
use Rattle.tdb_world.proofs.DeathsAmong.{apart_without, died_sound}

-- While the one aside writes all records nobody has locked one.
pub free_of_locks : (w : Whole) (h : HolderState) (any : List ℕ) (size : ℕ) → Stands w.openers any size → HolderFits w h size → stage_records h.stage ≡ Some Write → (i : List ℕ) (q : ℕ) → LocksNoRecord (form_at w) (state_in w.openers i) q
free_of_locks w h any size W HF e i =
    locks_none (form_at w) (options_at w) w.openers.openers w.openers.table i size (law_opener h.owner) 1 HF.opener (any_image w.openers any i size W) (found w.openers h.owner HF.opener HF.number HF.bare) HF.bare (HF.writes e)

-- where an opener has ended
same_closed : (x y : Own) → x.options ≡ y.options → closed x ≡ closed y
same_closed x y e = λ i. record { options = e i; live = false; txn = None; counts = empty; all = None; cursor = None }

-- What the death of the one aside leaves of the file: image i, which is read as image a was, and is a where others
-- could read it.
record IsLeftAs (f : Form) (writes : Bool) (a i : List ℕ) : Type 0 where
  map : image_map f i ≡ image_map f a
  number : number_of f i ≡ number_of f a
  accepted : writes ≡ true → AcceptWith f i []
  still : writes ≡ false → i ≡ a

-- The one aside dies.
module _ (w : Whole) (h : HolderState) (any : List ℕ) (size : ℕ) (F : WorldFits w any size) (HF : HolderFits w h size) (may : MayDie (stage_task h.stage)) (zs : List Opener) (rs : List Piece)
    (one : OneChanges w.openers.openers zs w.openers.table rs (law_opener h.owner)) (dies : (i : List ℕ) → Dies (form_at w) (state_in w.openers i) (law_opener h.owner) (state_in (with_list w.openers zs rs) i))
    (bytes : (i : List ℕ) → BytesStand w.openers i → BytesStand (with_list w.openers zs rs) i) (history : History) (img : List ℕ) (past : Past) (s : Side) (A : IsAside w h history img past s) where
  abbrev f : Form
  f = form_at w

  abbrev o : Options
  o = options_at w

  abbrev writes : Bool
  writes = writes_all (stage_records h.stage)

  abbrev p : State
  p = state_in w.openers img

  abbrev before : State
  before = beside p past s

  abbrev later : List ℕ → State
  later i = state_in (with_list w.openers zs rs) i

  at : law_opener h.owner ≡ s.here
  at = aside_here w h any size F.openers HF history img past s A

  there : slice_get w.openers.openers s.here ≡ Some HF.opener
  there = aside_there w h any size F.openers HF history img past s A

  stood : Stands w.openers img size
  stood = any_image w.openers any img size F.openers

  others : (q : ℕ) → q ≢ s.here → slice_get zs q ≡ slice_get w.openers.openers q
  others q apart = one.others q (λ is. apart (is ∙ at))

  free : writes ≡ true → (i : List ℕ) (q : ℕ) → LocksNoRecord f (state_in w.openers i) q
  free e i = free_of_locks w h any size F.openers HF (writing_is (stage_records h.stage) e) i

  -- so the others' walks stay where they are
  module _ (i : List ℕ) (L : IsLeftAs f writes img i) where
    walk_by : (q : ℕ) → Shift f (λ k. ⊥) (mark_of f (chains_in f img) (place_at (slice_get w.openers.openers q))) (mark_of f (chains_in f i) (place_at (slice_get w.openers.openers q)))
    walk_by q = elim (cases_Bool writes) [
      | inl e ↦ same_map_shift f img i (place_at (slice_get w.openers.openers q)) (λ k. ⊥) (A.accepted (ap is_some (writing_is (stage_records h.stage) e))) (L.accepted e) L.map (off_by (slice_get w.openers.openers q) (free e img q).cursor)
      | inr none ↦ subst (λ j. Shift f (λ k. ⊥) (mark_of f (chains_in f img) (place_at (slice_get w.openers.openers q))) (mark_of f (chains_in f j) (place_at (slice_get w.openers.openers q)))) (sym (L.still none)) (still_shift f _ _)
    ]

    walk_on : (q : ℕ) → q ≢ s.here → Shift f (λ k. ⊥) (before.mark q) ((later i).mark q)
    walk_on q apart =
        subst (λ m. Shift f (λ k. ⊥) m ((later i).mark q)) (sym (put_else p.mark s.here s.mark q apart))
        (subst (λ z. Shift f (λ k. ⊥) (p.mark q) (mark_of f (chains_in f i) (place_at z))) (sym (others q apart)) (walk_by q))

    bytes_left : BytesStand (with_list w.openers zs rs) i
    bytes_left = bytes i (elim (cases_Bool writes) [
      | inl e ↦ lock_keeps_file f o w.openers.openers w.openers.table img i size s.here 1 HF.opener stood there HF.bare (HF.writes (writing_is (stage_records h.stage) e)) (L.accepted e)
      | inr none ↦ subst (BytesStand w.openers) (sym (L.still none)) (A.others none).bytes
    ])

    -- and it dies by itself
    module _ (gate : Bool) (is : stage_gate h.stage ≡ gate) where
      abbrev after : State
      after = record (alone (later i) past) { stale = gate }

      D : Dies f (state_in w.openers i) s.here (later i)
      D = subst (λ q. Dies f (state_in w.openers i) q (later i)) at (dies i)

      own_here : before.own s.here ≡ s.own
      own_here = put_here p.own s.here s.own s.here refl

      task_here : before.task s.here ≡ s.task
      task_here = put_here p.task s.here s.task s.here refl

      its_own : closed (p.own s.here) ≡ closed s.own
      its_own = same_closed (p.own s.here) s.own (ap (λ z. (own_at o z).options) there ∙ sym A.side.options)

      left_gate : gate ≡ leaves_open f (before.own s.here) (before.task s.here)
      left_gate = sym is ∙ (sym (gate_law f o h.owner h.locks h.stage A.known past s A.side) ∙ (λ j. leaves_open f (sym own_here j) (sym task_here j)))

      aside_dies : Dies f before s.here after
      aside_dies = record {
        live = ap (λ (x : Own). x.live) own_here ∙ A.side.live;
        may_die = subst MayDie (sym (task_here ∙ A.side.task)) may;
        stay = record {
          file = L.map;
          task = λ q apart. D.stay.task q apart ∙ sym (put_else p.task s.here s.task q apart);
          own = λ q apart. D.stay.own q apart ∙ sym (put_else p.own s.here s.own q apart);
          spot = λ q apart. D.stay.spot q apart ∙ sym (put_else p.spot s.here nowhere q apart);
          table = λ q b apart. D.stay.table q b apart ∙ sym (ap (λ (g : ℕ → ℕ). g b) (put_else p.table s.here s.table q apart));
          walk = walk_on;
          number = L.number;
          image_number = λ q. refl;
          settled = refl;
        };
        nothing = record { task = D.nothing.task; spot = D.nothing.spot; table = D.nothing.table };
        own = D.own ∙ (its_own ∙ ap closed (sym own_here));
        joined = D.joined;
        stale = left_gate;
      }

      -- an open gate was that of one who shut all others out
      module _ (S : IsSound f before) where
        shut_out : gate ≡ true → (q : ℕ) (d : Command) (y : Own) (k : List ℕ) → q ≢ s.here → IsPending f before q d y → touches f d y k ≡ true → ⊥
        shut_out e q d y k apart pending touching =
            let B : StandsAside p s = stands_by w (Some h) any size F.openers HF history img past (Some s) A in
            let place = chain_place f S.chains k in
            let mine : before.table s.here (chain_byte f k) ≡ 2 =
            ap (λ (g : ℕ → ℕ). g (chain_byte f k)) (put_here p.table s.here s.table s.here refl)
            ∙ B.shuts (A.shuts ∙ ap writes_all (gate_writes h.stage (is ∙ e))) (chain_byte f k) place.above (omega (arith, place.below, place.far)) in
            let theirs = pending_touches f before S q d y pending k touching in
            let room = S.apart q s.here (chain_byte f k) apart in
            omega (arith, mine, theirs, room)

        after_sound : IsSound f after
        after_sound = died_sound f before after s.here S aside_dies shut_out

        with_theirs : Dies f (with_starts (is_starting w.starts) before) (law_opener h.owner) (with_starts (is_starting w.starts) after)
        with_theirs =
            subst (λ q. Dies f (with_starts (is_starting w.starts) before) q (with_starts (is_starting w.starts) after)) (sym at)
            (starts_die f before after (is_starting w.starts) s.here (may_start_whole w any size F img (Some h) HF history past (Some s) A) (aside_begun w h any size F.openers HF history img past s A) aside_dies).1

  abbrev world : Whole
  world = record w { openers = with_list w.openers zs rs; aside = None; stale = stage_gate h.stage }

  module _ (S : IsSound f before) where
    -- with a gate that is shut
    module _ (is : stage_gate h.stage ≡ false) where
      rests_at : writes ≡ true → IsAtRest f history A.known
      rests_at e = gate_rests f history A.known h.stage is (writing_is (stage_records h.stage) e) A.file

      read_so : writes ≡ true → restored f (seen history) ≡ seen history
      read_so e = read_as_it_is f (seen history) (rests_at e).accepted.shut

      left_shut : IsLeftAs f writes img (seen history)
      left_shut = elim (cases_Bool writes) [
        | inl e ↦ record {
          map = ap (image_map f) (sym (read_so e)) ∙ ((rests_at e).reads.map ∙ ap (image_map f) (sym A.image));
          number = ap (number_of f) (sym (read_so e)) ∙ ((rests_at e).reads.number ∙ ap (number_of f) (sym A.image));
          accepted = λ e. (rests_at e).accepted;
          still = λ none. absurd (never_true (sym none ∙ e));
        }
        | inr none ↦ (let same = sym (A.others none).image in
            record { map = ap (image_map f) same; number = ap (number_of f) same; accepted = λ e. absurd (never_true (sym none ∙ e)); still = λ e. same })
      ]

      shut_state : IsWholeState world history (with_starts (is_starting w.starts) (after (seen history) left_shut false is))
      shut_state = record {
        fresh = is;
        image = seen history;
        past = past;
        side = None;
        is_side = record { image = refl; bytes = bytes_left (seen history) left_shut };
        sound = after_sound (seen history) left_shut false is S;
        is = refl;
      }

    -- with one that is open
    module _ (is : stage_gate h.stage ≡ true) where
      abbrev undone : List ℕ
      undone = restored f (seen history)

      U : IsUndone f history A.known
      U = gate_undone f history A.known h.stage is A.file

      writes_so : writes ≡ true
      writes_so = ap writes_all (gate_writes h.stage is)

      left_open : IsLeftAs f writes img undone
      left_open = record {
        map = U.reads.map ∙ ap (image_map f) (sym A.image);
        number = U.reads.number ∙ ap (number_of f) (sym A.image);
        accepted = λ e. U.accepted;
        still = λ none. absurd (never_true (sym none ∙ writes_so));
      }

      open_state : IsStaleState world history (with_starts (is_starting w.starts) (after undone left_open true is))
      open_state = record {
        stale = is;
        nobody = refl;
        image = undone;
        past = past;
        undone = refl;
        form = U.form;
        reopens = U.reopens;
        accepted = U.accepted;
        apart = (let Dy = D undone left_open true is in apart_without f (state_in w.openers undone) (later undone) s.here Dy.stay Dy.nothing (free writes_so undone));
        sound = after_sound undone left_open true is S;
        is = refl;
      }

    pub holder_dies : (after : State) × IsStateOf world history after × Dies f (with_starts (is_starting w.starts) before) (law_opener h.owner) after
    holder_dies = elim (cases_Bool (stage_gate h.stage)) [
      | inl is ↦ (_, of_stale (open_state is), with_theirs (undone is) (left_open is) true is S)
      | inr is ↦ (_, of_whole (shut_state is), with_theirs (seen history) (left_shut is) false is S)
    ]

-- who is aside in a state
pub side_of : (w : Whole) (h : HolderState) (history : History) (img : List ℕ) (past : Past) (holder : Option HolderState) → holder ≡ Some h → (side : Option Side) → SideIs w holder history img past side
    → (s : Side) × (side ≡ Some s) × IsAside w h history img past s
side_of w h history img past None e side A = absurd (cc e)
side_of w h history img past (Some g) e None A = absurd A
side_of w h history img past (Some g) e (Some s) A = (s, refl, subst (λ z. IsAside w z history img past s) (injected e) A)

pub holder_fits : (w : Whole) (h : HolderState) (any : List ℕ) (size : ℕ) → WorldFits w any size → w.aside ≡ Some h → HolderFits w h size
holder_fits w h any size F e = subst (λ z. AsideFits w z size) e F.aside
