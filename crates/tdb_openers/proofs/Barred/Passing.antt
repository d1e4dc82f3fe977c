-- A move that is shut out is a turn of the law in the whole state, and the world stands after it.
use Rattle.std.proofs.Common.{◌≡◌, ℕ, ◌+◌, ◌-◌, ◌*◌, ◌<◌, max, List, [], slice_get, Bool, true, false, not, nat_le, ◌==◌, Option, Some, None, refl, sym, ◌∙◌, ap, subst, inl, inr, arith}
use Rattle.std.specs.Prelude.{◌&&◌, ◌/◌}
use Rattle.std.proofs.lemmas.Bool.{cases_eq, cases_lt, eq-eqb, ne_eqb, le-leb, leb-true, lt-ltb, le-ltb}
use Rattle.tdb_words.specs.Word.{word}
use Rattle.tdb_space.specs.Accepted.{AcceptWith}
use Rattle.tdb_space.specs.Form.{Form, form_in, chain_head}
use Rattle.tdb_space.specs.Pairs.{home}
use Rattle.tdb_locks.specs.HeldLocks.{HeldLocks}
use Rattle.tdb_locks.specs.declared.turn.Reply.{Reply}
use Rattle.tdb_locks.specs.declared.turn.Turn.{Turn}
use Rattle.tdb_locks.specs.declared.turn.Turn.TheVariants.{Blocked, Done}
use Rattle.tdb_law.specs.Commands as Law
use Rattle.tdb_law.specs.Commands.{WalkCommand}
use Rattle.tdb_law.specs.Commands.WalkCommand.{First, Next, EndWalk, Close}
use Rattle.tdb_law.specs.Commands.Command.{OnWalk}
use Rattle.tdb_law.specs.Openers.{Own, Mark, Spot, Task as LawTask, nowhere}
use Rattle.tdb_law.specs.Outcomes.{walk_moves}
use Rattle.tdb_law.specs.Ends.{walk_ends}
use Rattle.tdb_law.specs.Held.{held, kept, holding}
use Rattle.tdb_law.specs.Images.{image_map}
use Rattle.tdb_law.specs.Layout.{chains_in, mark_of}
use Rattle.tdb_law.specs.Layout.Place.{before_chain, off_chains}
use Rattle.tdb_law.specs.World.{State}
use Rattle.tdb_law.specs.OneAside.Sides.{Past, Side, but_at, beside, IsPlain}
use Rattle.tdb_law.specs.OneAside.Passing.{IsBeforeChain, IsReadyToMove, IsAtMove, IsFirstHead, with_halt, without_walk}
use Rattle.tdb_law.specs.OneAside.Passing.IsReadyToMove.{goes_on, begins_walk}
use Rattle.tdb_law.proofs.Covered.{none_held}
use Rattle.tdb_law.proofs.Tests.{and_both, and_make, never_true}
use Rattle.tdb_law.proofs.OneAside.Committed.{live_mapped}
use Rattle.tdb_law.proofs.OneAside.Parted.{put_back, beside_same}
use Rattle.tdb_law.proofs.OneAside.Passing.{shut_out_ends, shut_out_halts}
use Rattle.tdb_commands.specs.InLaw.{law_opener, law_turn}
use Rattle.tdb_commands.specs.declared.options.Options.{Options}
use Rattle.tdb_walk.specs.declared.standing.Standing.{Standing}
use Rattle.tdb_walk.specs.declared.standing.Standing.TheVariants.{Before, On, Past as PastChains}
use Rattle.tdb_walk.specs.declared.stage.Stage.{Stage}
use Rattle.tdb_walk.specs.Cursors.{At, Knows, spot_of, rested}
use Rattle.tdb_walk.specs.InLaw.{StandsAfter, spot_in, is_before}
use Rattle.tdb_walk.specs.NextLive.{place_of}
use Rattle.tdb_walk.specs.Passing.{PassesTo, enters}
use Rattle.tdb_walk.specs.Spots.{spot_number}
use Rattle.tdb_walk.specs.Way.{IsFilled, lock_byte}
use Rattle.tdb_openers.specs.declared.opener.Opener.{Opener}
use Rattle.tdb_openers.specs.declared.job.Job.TheVariants as Jobs
use Rattle.tdb_openers.specs.declared.job.Walking.{Walking}
use Rattle.tdb_openers.specs.declared.job.Walking.TheVariants as Walks
use Rattle.tdb_openers.specs.declared.job.Task.{Task}
use Rattle.tdb_openers.specs.Laws.{IsPut, MayStand}
use Rattle.tdb_openers.specs.Cursors.{JobSpares, TaskSpares, StandApart, is_stood, cursor_at as walker_at}
use Rattle.tdb_openers.specs.Openers.{own_of, own_at, law_task, task_at, spot_at, spot_by, place_at, spots_of, hands_at, hands_of_job, hands_of_task, walk_command, walk_in, walk_of, steps_of, command_in, TaskKnows, OpenerKnows, WalkStands}
use Rattle.tdb_openers.specs.ShutOut.{HeadsShow, IsMove, IsReplaced, IsTurnBeside, heads_in, is_head, opener_passed, passed_turn}
use Rattle.tdb_openers.specs.Turning.{law_table}
use Rattle.tdb_openers.specs.Worlds.{World, state_in, law_of_task, Stands, BytesStand}
use Rattle.tdb_openers.proofs.Joining.Occupied.{found, stands, job_at, cursor_at, holds, own_here, spot_here, task_here, world_by}
use Rattle.tdb_openers.proofs.Joining.Putting.{off_number, replaced_rest}
use Rattle.tdb_openers.proofs.Joining.Replacing.{file_set, hands_set, other_at, same_at}
use Rattle.tdb_openers.proofs.Joining.Stood.{place_entry, same_spots}
use Rattle.tdb_openers.proofs.PlainTurns.Standing.{put_set}
use Rattle.tdb_openers.proofs.Barred.ShutOut.{IsBarred, apart, keeps_none, stands_on_none}
use Rattle.tdb_openers.proofs.Barred.ShutWorlds.{beside_by}

-- A lock byte is that of no chain with a head where each such chain has none; and it is that of a chain with one.
heads_none : (f : Form) (file : List ℕ) (b : ℕ) → ((j : ℕ) → b ≡ lock_byte j → j < f.chains → word f.order file (chain_head j) ≡ 0) → heads_in f file b ≡ false
heads_none f file b none =
    let j = (b - 168) / 4 in
    elim (cases_eq b (lock_byte j)) [
      | inl is ↦ ap (λ z. z && is_head f file j) (eq-eqb b (lock_byte j) is) ∙ elim (cases_lt j f.chains) [
        | inl low ↦ ap (λ z. z && not (word f.order file (chain_head j) == 0)) (lt-ltb j f.chains low) ∙ ap (λ n. not (n == 0)) (none j is low)
        | inr high ↦ ap (λ z. z && not (word f.order file (chain_head j) == 0)) (le-ltb j f.chains high)
      ]
      | inr other ↦ ap (λ z. z && is_head f file j) (ne_eqb b (lock_byte j) other)
    ]

pub heads_some : (f : Form) (file : List ℕ) (chain : ℕ) → chain < f.chains → IsFilled f file chain → heads_in f file (lock_byte chain) ≡ true
heads_some f file chain low filled =
    let back : (lock_byte chain - 168) / 4 ≡ chain = omega arith in
    ap (λ j. (lock_byte chain == lock_byte j) && is_head f file j) back ∙ ap (λ z. z && is_head f file chain) (eq-eqb (lock_byte chain) (lock_byte chain) refl)
    ∙ ap (λ z. z && not (word f.order file (chain_head chain) == 0)) (lt-ltb chain f.chains low) ∙ ap not (ne_eqb (word f.order file (chain_head chain)) 0 filled)

-- nobody has a transaction among the openers
none_out : (options : Options) (z : Option Opener) → (own_at options z).txn ≡ None
none_out options None = refl
none_out options (Some x) = refl

first_of : (w : WalkCommand) (x : Own) → walk_moves w x ≡ true → (w ≡ Next → ⊥) → w ≡ First
first_of First x moving ne = refl
first_of Next x moving ne = absurd (ne refl)
first_of EndWalk x moving ne = absurd (never_true moving)
first_of Close x moving ne = absurd (never_true moving)

-- the mark before a chain
mark_before : (f : Form) (img : List ℕ) (chain : ℕ) → AcceptWith f img [] → IsBeforeChain f (image_map f img) chain (mark_of f (chains_in f img) (before_chain chain))
mark_before f img chain accepted = record {
  inside = refl;
  reached = refl;
  ahead = λ k. (
    (λ e. (let both = and_both (nat_le chain (home f k)) _ e in (sym (live_mapped f img k [] accepted) ∙ both.1, leb-true chain (home f k) both.0))),
    (λ there. and_make (nat_le chain (home f k)) _ (le-leb chain (home f k) there.1) (live_mapped f img k [] accepted ∙ there.0)),
  );
}

-- What is known of a cursor that moves from a place where it stands on no record, after so many steps.
record IsMoving (f : Form) (x : Own) (w : WalkCommand) (place : Standing) (stage : Stage) (n : ℕ) : Type 0 where
  ready : (img : List ℕ) → AcceptWith f img [] → IsReadyToMove f (image_map f img) x (spot_in (record { place = place; stage = stage }) (is_before place)) (mark_of f (chains_in f img) (place_of place)) w n
  reached : (img : List ℕ) → (mark_of f (chains_in f img) (place_of place)).reached ≡ enters place
  ends : walk_ends w x.cursor n ≡ true
  holds : (b : ℕ) → held f (OnWalk w) x (spot_in (record { place = place; stage = stage }) (is_before place)) n b ≡ 0

gone_held : (f : Form) (w : WalkCommand) (x : Own) (a : Spot) (n b : ℕ) → a.gone ≡ true → held f (OnWalk w) x a n b ≡ 0
unfolding held
gone_held f w x a n b gone = rw gone refl

moves_from : (f : Form) (own : HeldLocks) (x : Own) (w : WalkCommand) (place : Standing) (stage : Stage) (n : ℕ) → walk_moves w x ≡ true → spot_of place ≡ None → StandsAfter f own x w place stage (is_before place) n → IsMoving f x w place stage n
moves_from f own x w (On chain off) stage n moving none S = absurd (cc none)
moves_from f own x w (Before chain) stage n moving none (rests, inl back) = record {
  ready = λ img accepted. goes_on refl back.2 (mark_before f img chain accepted);
  reached = λ img. refl;
  ends = back.2;
  holds = λ b. gone_held f w x (spot_in (record { place = Before chain; stage = stage }) true) n b refl;
}
moves_from f own x w (Before chain) stage n moving none (rests, inr new) = absurd (never_true (sym new.0))
moves_from f own x w PastChains stage n moving none (rests, bare, near, new, asked) = record {
  ready = λ img accepted. begins_walk refl new (first_of w x moving asked) bare refl refl;
  reached = λ img. refl;
  ends = (λ i. walk_ends (first_of w x moving asked i) (bare i) (new i));
  holds = λ b. ap (λ j. held f (OnWalk w) x (spot_in (record { place = PastChains; stage = stage }) false) j b) new ∙ none_held f (OnWalk w) x _ b;
}

-- a cursor on no record stands apart of every other one
none_some : {n : ℕ} → ◌≡◌ {A = Option ℕ} None (Some n) → ⊥
none_some e = cc

apart_first : (at : At) → spot_of at.place ≡ None → (o : Option At) → StandApart (Some at) o
apart_first at none None = tt
apart_first at none (Some other) = λ purges off here there. none_some (sym none ∙ here)

apart_second : (at : At) → spot_of at.place ≡ None → (o : Option At) → StandApart o (Some at)
apart_second at none None = tt
apart_second at none (Some other) = λ purges off here there. none_some (sym none ∙ there)

module _ {w : World} {img : List ℕ} {past : Past} {s : Side} {holder who : ℕ} {x : Opener} {t : Task} {any : List ℕ} {size : ℕ} (C : IsBarred w img past s holder who x t any size) (walking : Walking) (is : t.job ≡ Jobs.Walk walking) (moves : IsMove (Jobs.Walk walking)) where
  abbrev f : Form
  f = form_in w.header

  abbrev l : ℕ
  l = law_opener who

  abbrev own : Own
  own = own_of w.options x

  abbrev place : Standing
  place = x.walk.cursor.place

  abbrev spot : Spot
  spot = spot_by x.walk.cursor

  abbrev lt : LawTask
  lt = law_of_task t

  abbrev p : State
  p = state_in w img

  -- its command moves the cursor
  moving_by : (walking : Walking) → t.job ≡ Jobs.Walk walking → IsMove (Jobs.Walk walking) → walk_moves (walk_command walking) own ≡ true
  moving_by Walks.First is moves = refl
  moving_by Walks.Next is moves = (job_at C.busy C.stands (Jobs.Walk Walks.Next) is).1
  moving_by Walks.EndWalk is moves = absurd moves
  moving_by Walks.Close is moves = absurd moves

  moving : walk_moves (walk_command walking) own ≡ true
  moving = moving_by walking is moves

  M : IsMoving f own (walk_command walking) place x.walk.cursor.stage t.steps
  M = moves_from f x.held own (walk_command walking) place x.walk.cursor.stage t.steps moving (stands_on_none C) (cursor_at C.busy C.stands (Jobs.Walk walking) is).stands

  plain : IsPlain p
  plain = record { outside = λ o. none_out w.options (slice_get w.openers o); ready = refl }

  mark_here : p.mark l ≡ mark_of f (chains_in f img) (place_of place)
  mark_here = ap (λ z. mark_of f (chains_in f img) (place_at z)) (found C.busy)

  reached_here : (p.mark l).reached ≡ enters place
  reached_here = ap (λ (z : Mark). z.reached) mark_here ∙ M.reached img

  at_move : AcceptWith f img [] → IsAtMove f p l lt
  at_move accepted = record {
    walk = walk_command walking;
    asks = ap command_in is;
    outside = none_out w.options (slice_get w.openers l);
    moving = ap (walk_moves (walk_command walking)) (own_here C.busy img) ∙ moving;
    stands = ap (λ (z : Spot). z.stands) (spot_here C.busy img) ∙ stands_on_none C;
    ready = subst (λ z. IsReadyToMove f p.file z (p.spot l) (p.mark l) (walk_command walking) t.steps) (sym (own_here C.busy img))
        (subst (λ z. IsReadyToMove f p.file own z (p.mark l) (walk_command walking) t.steps) (sym (spot_here C.busy img))
        (subst (λ z. IsReadyToMove f p.file own spot z (walk_command walking) t.steps) (sym mark_here) (M.ready img accepted)));
  }

  -- it holds nothing
  holds_nothing : (b : ℕ) → law_table w.table l b ≡ 0
  holds_nothing b =
      let whole = holds C.busy C.stands b in
      let mine : held f (command_in t.job) own spot t.steps b ≡ 0 = ap (λ c. held f c own spot t.steps b) (ap command_in is) ∙ M.holds b in
      let keeps = keeps_none C b in
      omega (arith, whole, mine, keeps)

  -- What it comes to, and the opener in its place.
  module _ (to : Option ℕ) (ys : List Opener) (P : IsPut w.openers l (opener_passed to x) ys) where
    abbrev y : Opener
    y = opener_passed to x

    abbrev v : World
    v = record w { openers = ys }

    abbrev later : State
    later = state_in v img

    abbrev mark_then : Mark
    mark_then = mark_of f (chains_in f img) (place_of y.walk.cursor.place)

    moved_state : record later { view = p.view } ≡ record p {
      task = but_at l (law_task y.task) p.task;
      own = but_at l (own_of w.options y) p.own;
      spot = but_at l (spot_by y.walk.cursor) p.spot;
      mark = but_at l mark_then p.mark;
    }
    moved_state = λ i. record p {
      joined = P.same_length i;
      task = λ o. other_at w.openers ys l x y (found C.busy) P task_at o i;
      own = λ o. other_at w.openers ys l x y (found C.busy) P (own_at w.options) o i;
      spot = λ o. other_at w.openers ys l x y (found C.busy) P spot_at o i;
      mark = λ o. other_at w.openers ys l x y (found C.busy) P (λ z. mark_of f (chains_in f img) (place_at z)) o i;
    }

  -- It has come to no chain: the walk has ended.
  module _ (ys : List Opener) (P : IsPut w.openers l (opener_passed None x) ys) where
    ended_state : record (state_in (record w { openers = ys }) img) { view = p.view } ≡ without_walk p l (mark_of f (chains_in f img) off_chains)
    ended_state = moved_state None ys P ∙ (λ i. record p {
      task = but_at l None p.task;
      own = but_at l (record (sym (own_here C.busy img) i) { cursor = None }) p.own;
      spot = but_at l nowhere p.spot;
      mark = but_at l (mark_of f (chains_in f img) off_chains) p.mark;
    })

    ended_beside : (file : List ℕ) → HeadsShow w img file s → PassesTo f file (enters place) None → IsTurnBeside w (record w { openers = ys }) img past s l lt (law_turn (Done Reply.End))
    ended_beside file H none =
        let m = mark_of f (chains_in f img) off_chains in
        let T = shut_out_ends f p past s l lt m C.shuts.sound plain C.shuts.shuts (apart C) (task_here C.busy img) (at_move H.accepted) H.tell
        (λ b late. ap (λ g. g b) H.heads ∙ heads_none f file b (λ j at low. none j (omega (arith, at, late, reached_here)) low)) in
        beside_by C ys (Law.Turn.Ends Law.Reply.End) (beside (without_walk p l m) past s) T refl
        (sym (beside_same past s C.shuts.shuts (state_in (record w { openers = ys }) img) (without_walk p l m) ended_state)) (opener_passed None x) P

  -- It is blocked before a chain.
  module _ (chain : ℕ) (ys : List Opener) (P : IsPut w.openers l (opener_passed (Some chain) x) ys) where
    halted_state : record (state_in (record w { openers = ys }) img) { view = p.view } ≡ with_halt p l (mark_of f (chains_in f img) (before_chain chain))
    halted_state = moved_state (Some chain) ys P ∙ (λ i. record p {
      task = put_back l (law_task x.task) p.task (ap task_at (found C.busy)) i;
      own = put_back l own p.own (own_here C.busy img) i;
      spot = but_at l (record nowhere { gone = true }) p.spot;
      mark = but_at l (mark_of f (chains_in f img) (before_chain chain)) p.mark;
    })

    halted_beside : (file : List ℕ) → HeadsShow w img file s → PassesTo f file (enters place) (Some chain) → IsTurnBeside w (record w { openers = ys }) img past s l lt (law_turn (Blocked holder (168 + 4 * chain)))
    halted_beside file H at =
        let m = mark_of f (chains_in f img) (before_chain chain) in
        let here : law_opener holder ≡ s.here = (let counted = C.shuts.counted in omega (arith, counted)) in
        let first : IsFirstHead f s (p.mark l).reached chain = record {
          least = (let least = at.least in omega (arith, least, reached_here));
          below = at.below;
          empty = λ b late early. ap (λ g. g b) H.heads ∙ heads_none f file b (λ j is low. at.empty j (omega (arith, is, late, reached_here)) (omega (arith, is, early)));
          head = ap (λ g. g (168 + 4 * chain)) H.heads ∙ heads_some f file chain at.below at.filled;
        } in
        let T = shut_out_halts f p past s l lt m chain C.shuts.sound plain C.shuts.aside C.shuts.shuts (apart C) (task_here C.busy img) (at_move H.accepted) H.tell first (mark_before f img chain H.accepted) in
        subst (λ o. IsTurnBeside w (record w { openers = ys }) img past s l lt (Law.Turn.Blocked o (168 + 4 * chain))) (sym here)
        (beside_by C ys (Law.Turn.Blocked s.here (168 + 4 * chain)) (beside (with_halt p l m) past s) T refl
        (sym (beside_same past s C.shuts.shuts (state_in (record w { openers = ys }) img) (with_halt p l m) halted_state)) (opener_passed (Some chain) x) P)

  passed_to : (to : Option ℕ) (ys : List Opener) → IsPut w.openers l (opener_passed to x) ys → (file : List ℕ) → HeadsShow w img file s → PassesTo f file (enters place) to
      → IsTurnBeside w (record w { openers = ys }) img past s l lt (law_turn (passed_turn holder to))
  passed_to None ys P file H at = ended_beside ys P file H at
  passed_to (Some chain) ys P file H at = halted_beside chain ys P file H at

  -- The world stands.
  passed_off : (to : Option ℕ) → spot_of (opener_passed to x).walk.cursor.place ≡ None
  passed_off None = refl
  passed_off (Some chain) = refl

  passed_holds : (to : Option ℕ) (b : ℕ) → law_table w.table l b ≡ holding f (own_of w.options (opener_passed to x)) (spot_by (opener_passed to x).walk.cursor) (law_task (opener_passed to x).task) b
  passed_holds None b =
      let nothing = holds_nothing b in
      let keeps : kept f own spot b ≡ kept f (own_of w.options (opener_passed None x)) nowhere b = ap (λ o. kept f own (record spot { stands = o }) b) (stands_on_none C) in
      let none = keeps_none C b in
      omega (arith, nothing, keeps, none)
  passed_holds (Some chain) b =
      let halted = record nowhere { gone = true } in
      let nothing = holds_nothing b in
      let keeps : kept f own spot b ≡ kept f own halted b = ap (λ o. kept f own (record spot { stands = o }) b) (stands_on_none C) in
      let none = keeps_none C b in
      let mine : holding f own halted (law_task x.task) b ≡ max (held f (OnWalk (walk_command walking)) own halted t.steps b) (kept f own halted b) = ap (λ o. holding f own halted (law_task o) b) C.busy.busy ∙ ap (λ j. max (held f (command_in j) own halted t.steps b) (kept f own halted b)) is in
      let gone = gone_held f (walk_command walking) own halted t.steps b refl in
      omega (arith, nothing, keeps, none, mine, gone)

  passed_stands : (to : Option ℕ) → MayStand f w.options size (opener_passed to x)
  passed_stands None = record {
    stands = ((stands C.busy C.stands).0, tt, record { placed = tt; stands = (refl, refl) });
    busy_live = λ u busy. absurd (cc busy);
  }
  passed_stands (Some chain) = record {
    stands = (
      (stands C.busy C.stands).0,
      (stands C.busy C.stands).1,
      subst (λ o. WalkStands f x.held own (walk_of o) (steps_of o) (rested (Before chain))) (sym C.busy.busy)
          (subst (λ j. WalkStands f x.held own (walk_in j) t.steps (rested (Before chain))) (sym is) (record { placed = tt; stands = (refl, inl (refl, moving, M.ends)) })),
    );
    busy_live = λ u busy. subst (λ z. (own_at w.options z).live ≡ true) (found C.busy) (C.stands.sound.busy_there l (law_of_task u) (ap task_at (found C.busy) ∙ ap law_task busy));
  }

  pub passed_world : (to : Option ℕ) (ys : List Opener) → IsPut w.openers l (opener_passed to x) ys → Stands (record w { openers = ys }) any size
  passed_world to ys P = world_by C.busy C.stands ys (opener_passed to x) P (passed_holds to) (passed_stands to)

  -- and its bytes
  no_hands : hands_of_task x.task ≡ []
  no_hands = ap hands_of_task C.busy.busy ∙ ap hands_of_job is

  hands_by : (to : Option ℕ) → hands_of_task (opener_passed to x).task ≡ []
  hands_by None = refl
  hands_by (Some chain) = no_hands

  knows_by : (to : Option ℕ) (a : List ℕ) → TaskKnows f a x.task → TaskKnows f a (opener_passed to x).task
  knows_by None a knows = tt
  knows_by (Some chain) a knows = knows

  cursor_by : (to : Option ℕ) (a : List ℕ) → Knows f a (opener_passed to x).walk.cursor.place (opener_passed to x).walk.cursor.stage
  cursor_by None a = tt
  cursor_by (Some chain) a = tt

  spares_by : (to : Option ℕ) (stood : ℕ → Bool) → TaskSpares stood (opener_passed to x).task
  spares_by None stood = tt
  spares_by (Some chain) stood = subst (TaskSpares stood) (sym C.busy.busy) (subst (JobSpares stood) (sym is) tt)

  passed_entry : (to : Option ℕ) → spot_number (opener_passed to x).walk.cursor.place ≡ spot_number place
  passed_entry to = off_number (opener_passed to x).walk.cursor.place (passed_off to) ∙ sym (off_number place (stands_on_none C))

  pub passed_bytes : (to : Option ℕ) (ys : List Opener) → IsPut w.openers l (opener_passed to x) ys → (a : List ℕ) → BytesStand w a → BytesStand (record w { openers = ys }) a
  passed_bytes to ys P a F =
      let y = opener_passed to x in
      let S = put_set w.openers ys l y P in
      let spots : spots_of ys ≡ spots_of w.openers = same_spots w.openers ys (same_at w.openers ys l x y (found C.busy) P place_entry (ap Some (passed_entry to))) in
      file_set w.openers ys l y S f a F (hands_set w.openers ys l y S P.same_length (hands_by to ∙ sym (ap hands_at (found C.busy) ∙ no_hands))) (λ off e. subst (λ z. is_stood z off ≡ true) spots e)
      (knows_by to a (subst (OpenerKnows f a) (found C.busy) (F.known l))) (cursor_by to a) (spares_by to (is_stood (spots_of ys)))
      (λ o ne. (apart_first y.walk.cursor (passed_off to) (walker_at (slice_get w.openers o)), apart_second y.walk.cursor (passed_off to) (walker_at (slice_get w.openers o))))

  -- So it is of the world that has this opener in the place of that one.
  module _ {v : World} (to : Option ℕ) (R : IsReplaced w who (opener_passed to x) v) where
    pub passes_beside : (file : List ℕ) → HeadsShow w img file s → PassesTo f file (enters place) to → IsTurnBeside w v img past s l lt (law_turn (passed_turn holder to))
    passes_beside file H at = subst (λ z. IsTurnBeside w z img past s l lt (law_turn (passed_turn holder to))) (replaced_rest R) (passed_to to v.openers R.put file H at)

    pub passes_world : Stands v any size
    passes_world = subst (λ z. Stands z any size) (replaced_rest R) (passed_world to v.openers R.put)

    pub passes_bytes : (a : List ℕ) → BytesStand w a → BytesStand v a
    passes_bytes a F = subst (λ z. BytesStand z a) (replaced_rest R) (passed_bytes to v.openers R.put a F)
