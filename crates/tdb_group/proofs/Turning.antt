-- One turn of the opener of a file of a group, by the law.
use Rattle.std.proofs.Common.{◌≡◌, ◌≢◌, ℕ, ◌+◌, ◌<◌, ◌≤◌, Bool, true, false, cond, Option, None, Some, refl, sym, ◌∙◌, ap, subst, subst₂, inl, inr, arith}
use Rattle.std.specs.Prelude.{◌&&◌, nat_lt}
use Rattle.std.specs.FinMap.{empty, get, get-empty}
use Rattle.std.specs.Ordering.{nat_cmp}
use Rattle.std.proofs.lemmas.Bool.{cases_eq}
use Rattle.tdb_disk.specs.Stop.{LeavesOnly}
use Rattle.tdb_disk.proofs.Runs.{leaves_start, leaves_weaker}
use Rattle.tdb_space.specs.Form.{Form, data_start, form_in}
use Rattle.tdb_law.specs.Beginning.{nobody}
use Rattle.tdb_law.specs.Commands.{Command, Reply, Turn}
use Rattle.tdb_law.specs.Commands.Command.{OnGroup}
use Rattle.tdb_law.specs.Commands.GroupCommand.{Commit}
use Rattle.tdb_law.specs.Commands.Turn.{Blocked, Ends, Step}
use Rattle.tdb_law.specs.Effects.{task_left}
use Rattle.tdb_law.specs.Ends.{last_step}
use Rattle.tdb_law.specs.Held.{may_want}
use Rattle.tdb_law.specs.Laws.{LawfulTurn}
use Rattle.tdb_law.specs.Openers.{Map, Options, Own, Task, Txn}
use Rattle.tdb_law.specs.Outcomes.{busies, counts, moves}
use Rattle.tdb_law.specs.Replay.{IsInTheWay, Replay, Says, begun_held, line_map, line_own, may_hold, may_keep, next, steps_of}
use Rattle.tdb_law.specs.Replay.Says.{says_busy, says_end, says_full, says_memory, says_number, says_pair, says_plain}
use Rattle.tdb_law.specs.Standing.{IsSame, Stands}
use Rattle.tdb_law.specs.Turned.{Turned}
use Rattle.tdb_law.specs.World.{State, IsSound}
use Rattle.tdb_law.proofs.OneTurn.{turn_lawful}
use Rattle.tdb_law.proofs.Tests.{never_true}
use Rattle.tdb_law.proofs.Walking.{put_else}
use Rattle.tdb_commands.specs.InLaw.{options_of}
use Rattle.tdb_world.specs.OverFile.{OverFile, KeepsForm}
use Rattle.tdb_world.specs.OverFiles.Turns.{IsSafeFor, StopsInTurn}
use Rattle.tdb_world.specs.States.{IsStateOf}
use Rattle.tdb_world.specs.Stops.{IsSafe, TurnMayLeave}
use Rattle.tdb_world.proofs.Stopping.{opens_to_state}
use Rattle.tdb_world.specs.Calm.{IsGroup, OpensToEither}
use Rattle.tdb_world.proofs.Calm.{Calm, calm_opens, not_changing}
use Rattle.tdb_group.specs.Members.{IsMember, form_of_file, options_of_file}
use Rattle.tdb_group.specs.Turns.{Ended, IsPlain, Tells}
use Rattle.tdb_group.specs.Turns.Tells.{tells_full, tells_memory, tells_told}

-- a command that has had so many steps
abbrev pub after_steps : Command → ℕ → Task
after_steps c k = record { command = c; steps = k }

-- an opener that hasn't joined holds nothing
abbrev two_if : Bool → ℕ
two_if z = cond z 2 0

two_if_never : (b : Bool) → two_if (b && false) ≡ 0
two_if_never true = refl
two_if_never false = refl

nobody_keeps : (f : Form) (o : Options) (b : ℕ) → may_keep f None (nobody o) b ≤ 0
nobody_keeps f o b =
    let none : get (empty {X = ℕ} {R = nat_cmp}) b ≡ None = get-empty nat_cmp b in
    rw (none, two_if_never (nat_lt b (data_start f))) (omega arith)

nobody_holds : (f : Form) (q : Replay) (o : Options) (p b : ℕ) → q.own p ≡ nobody o → q.begun p ≡ None → may_hold f q p b ≤ 0
nobody_holds f q o p b own begun =
    let keeps : may_keep f (q.own p).txn (q.own p) b ≤ 0 = subst (λ (y : Own). may_keep f y.txn y b ≤ 0) (sym own) (nobody_keeps f o b) in
    let holds : begun_held f (q.own p) (q.begun p) b ≤ 0 = subst (λ u. begun_held f (q.own p) u b ≤ 0) (sym begun) (omega arith) in
    omega (arith, keeps, holds)

-- a command that has had a line is known with its steps; one that had none has had no step
same_steps : (b : Option Task) (t : Task) → IsSame b (Some t) → steps_of b ≡ t.steps
same_steps None t same = sym same
same_steps (Some u) t same = ap (λ (z : Task). z.steps) same

pub same_none : (b u : Option Task) → u ≡ None → IsSame b u → b ≡ None
same_none None u e same = refl
same_none (Some v) None e same = absurd same
same_none (Some v) (Some u) e same = absurd (cc e)

-- what the law says at the end of a command that an opener can do by itself
says_so : (f : Form) (q : Replay) (c : Command) (r : Reply) → moves f c (q.own 0) ≡ false → counts f c (q.own 0) ≡ false → busies f c (q.own 0) ≡ false → Says f q 0 c r → Tells f c (q.own 0) q.map r
says_so f q c r still numberless patient (says_plain moving counting is) = tells_told is
says_so f q c r still numberless patient (says_pair k v moving is there unseen) = absurd (never_true (sym still ∙ moving))
says_so f q c r still numberless patient (says_end moving is all) = absurd (never_true (sym still ∙ moving))
says_so f q c r still numberless patient (says_number n counting is seen) = absurd (never_true (sym numberless ∙ counting))
says_so f q c r still numberless patient (says_memory is starving) = tells_memory is starving
says_so f q c r still numberless patient (says_full len need is filling told) = tells_full len need is filling told
says_so f q c r still numberless patient (says_busy o b is busy way) = absurd (never_true (sym patient ∙ busy))

-- Nobody else is live in a file of a group, so nobody else has a command, or has begun one.
module _ (m : Map) (x : Own) (u : Option Task) (a : OverFile) (M : IsMember m x u a) where
  pub alone : (o : ℕ) → o ≢ 0 → M.state.task o ≡ None
  alone o ne = of (M.state.task o) refl
    where
      of : (t : Option Task) → M.state.task o ≡ t → M.state.task o ≡ None
      of None e = e
      of (Some t) e =
          let own : M.state.own o ≡ nobody (options_of_file a) = sym (M.stands.owns o) ∙ M.others o ne in
          absurd (never_true (sym (ap (λ (y : Own). y.live) own) ∙ M.sound.busy_there o t e))

  pub unbegun : (o : ℕ) → o ≢ 0 → M.replay.begun o ≡ None
  unbegun o ne = same_none (M.replay.begun o) (M.state.task o) (alone o ne) (M.stands.same o)

-- A file whose opener has had so many steps of a command.
module _ (m : Map) (x : Own) (c : Command) (k : ℕ) (a : OverFile) (M : IsMember m x (Some (after_steps c k)) a) (P : IsPlain (form_of_file a) c x) where
  abbrev f : Form
  f = form_of_file a

  abbrev q : Replay
  q = M.replay

  had : steps_of (q.begun 0) ≡ k
  had = same_steps (q.begun 0) (after_steps c k) (subst (IsSame (q.begun 0)) M.command (M.stands.same 0))

  -- it is calm: the committed map is the file's but for a Commit of its own
  module _ (n : Map) (image : (t : Txn) → c ≡ OnGroup Commit → x.txn ≡ Some t → t.image ≡ n) where
    its_task : (u : Task) → q.begun 0 ≡ Some u → u ≡ after_steps c k
    its_task u e = of (subst (λ b. IsSame b (Some (after_steps c k))) e (subst (IsSame (q.begun 0)) M.command (M.stands.same 0)))
      where
        of : IsSame (Some u) (Some (after_steps c k)) → u ≡ after_steps c k
        of same = same

    calm : (no_step : (last_step f c x ≡ 0) → k ≡ 0) → Calm m n q
    calm no_step = record {
      map = inl M.map;
      begun = λ o u e. (elim (cases_eq o 0) [
        | inl is ↦
            let same = its_task u (ap q.begun (sym is) ∙ e) in
            elim P.calm [
              | inl none ↦ inl (ap (λ (z : Task). z.steps) same ∙ no_step none)
              | inr group ↦ inr (subst IsGroup (sym (ap (λ (z : Task). z.command) same)) group)
            ]
        | inr ne ↦ absurd (let both : None ≡ Some u = sym (unbegun m x (Some (after_steps c k)) a M o ne) ∙ e in cc both)
      ]);
      brings = λ o u e commit t has. (elim (cases_eq o 0) [
        | inl is ↦
            let same = its_task u (ap q.begun (sym is) ∙ e) in
            image t (sym (ap (λ (z : Task). z.command) same) ∙ commit) (ap (λ (y : Own). y.txn) (sym M.own) ∙ ap (λ p. (q.own p).txn) (sym is) ∙ has)
        | inr ne ↦ absurd (let both : None ≡ Some u = sym (unbegun m x (Some (after_steps c k)) a M o ne) ∙ e in cc both)
      ]);
      fresh = M.stands.stale ∙ M.fresh;
    }

    -- so a stop now leaves what opens to the one map or the other
    pub here_stops : ((last_step f c x ≡ 0) → k ≡ 0) → IsSafe f a.history → LeavesOnly a.history a.history (OpensToEither f m n)
    here_stops no_step safe =
        leaves_start a.history (OpensToEither f m n)
        (λ img left. calm_opens f M.state q M.sound M.stands m n (calm no_step) 0 img (inl (opens_to_state a.world a.history M.state M.has img (safe img left))))

    -- and so does one in the next turn, and the file is safe behind it
    pub turn_stops : ((last_step f c x ≡ 0) → k ≡ 0) → (b : OverFile) → StopsInTurn a b 1 → IsSafe f a.history → LeavesOnly a.history b.history (OpensToEither f m n)
    turn_stops no_step b stops safe =
        let C = calm no_step in
        leaves_weaker a.history b.history (TurnMayLeave f M.state 0) (OpensToEither f m n) (λ img may. calm_opens f M.state q M.sound M.stands m n C 0 img may)
        (stops M.state (record { has = M.has; safe = safe; calm = not_changing f M.state q M.sound M.stands m n C 0 }))

    pub turn_safe : ((last_step f c x ≡ 0) → k ≡ 0) → IsSafe f a.history → IsSafeFor a 1 M.state
    turn_safe no_step safe = record { has = M.has; safe = safe; calm = not_changing f M.state q M.sound M.stands m n (calm no_step) 0 }

  -- A turn of it.
  module _ (after : State) (task : Task) (turn : Turn) (T : Turned f M.state 0 task turn after) where
    its : task ≡ after_steps c k
    its = let both : Some task ≡ Some (after_steps c k) = sym T.mine ∙ M.command in cc both

    L : LawfulTurn f after q 0 c turn
    L = subst (λ (z : Task). LawfulTurn f after q 0 z.command turn) its (turn_lawful f M.state after 0 task turn q M.sound M.stands T)

    -- it isn't blocked, since nobody else holds anything
    pub never_blocked : (o b : ℕ) → turn ≡ Blocked o b → ⊥
    never_blocked o b is =
        let way : IsInTheWay f q 0 c o b = (subst (λ z. LawfulTurn f after q 0 c z) is L).allowed.tells in
        let want : may_want f c (q.own 0) (steps_of (q.begun 0)) b ≤ 2 = subst (λ y. may_want f c y (steps_of (q.begun 0)) b ≤ 2) (sym M.own) (P.wants (steps_of (q.begun 0)) b) in
        let hold : may_hold f q o b ≤ 0 = nobody_holds f q (options_of_file a) o b (M.others o way.other) (unbegun m x (Some (after_steps c k)) a M o way.other) in
        let both = way.conflict in
        omega (arith, want, hold, both)

    -- it is a step only before the last
    pub step_below : turn ≡ Step → k < last_step f c x
    step_below is =
        let row : steps_of (q.begun 0) < last_step f c (q.own 0) = (subst (λ z. LawfulTurn f after q 0 c z) is L).allowed.row in
        subst₂ (λ (n : ℕ) (y : Own). n < last_step f c y) had M.own row

    others_stay : (y : Own) (o : ℕ) → o ≢ 0 → (next f q 0 c turn).own o ≡ nobody (options_of_file a)
    others_stay y o ne = put_else q.own 0 (line_own f c (q.own 0) (steps_of (q.begun 0)) turn q.map) o ne ∙ M.others o ne

    -- The file afterwards, where its world has kept its form.
    module _ (b : OverFile) (form : KeepsForm a b) (has : IsStateOf b.world b.history after) where
      same_form : f ≡ form_of_file b
      same_form = ap form_in (sym form.header)

      same_options : options_of_file a ≡ options_of_file b
      same_options = ap options_of (sym form.options)

      member : (end : Map) (y : Own) (u : Option Task) → (next f q 0 c turn).map ≡ end → (next f q 0 c turn).own 0 ≡ y → task_left c k turn ≡ u → IsMember end y u b
      member end y u map own left = record {
        state = after;
        has = has;
        sound = subst (λ g. IsSound g after) same_form L.sound;
        replay = next f q 0 c turn;
        stands = subst (λ g. Stands g after (next f q 0 c turn)) same_form L.stands;
        map = map;
        own = own;
        others = λ o ne. others_stay y o ne ∙ ap nobody same_options;
        command = T.leaves ∙ ap (λ (z : Task). task_left z.command z.steps turn) its ∙ left;
        fresh = T.stale;
      }

      -- after a step it has had one more
      pub stepped : turn ≡ Step → IsMember m x (Some (after_steps c (k + 1))) b
      stepped is =
          member m x (Some (after_steps c (k + 1)))
          (ap (λ z. line_map f c (q.own 0) z q.map) is ∙ M.map)
          (ap (λ z. line_own f c (q.own 0) (steps_of (q.begun 0)) z q.map) is ∙ M.own)
          (ap (task_left c k) is)

      -- and its end
      pub ended : (r : Reply) → turn ≡ Ends r → (end : Map) × (y : Own) × Ended (form_of_file b) c x m r end y × IsMember end y None b
      ended r is =
          let tells : Tells f c (q.own 0) q.map r =
          says_so f q c r (ap (moves f c) M.own ∙ P.still) (ap (counts f c) M.own ∙ P.numberless) (ap (busies f c) M.own ∙ P.patient)
          (subst (λ z. LawfulTurn f after q 0 c z) is L).allowed.tells.0 in
          let end : Map = line_map f c x (Ends r) m in
          let y : Own = line_own f c x k (Ends r) m in
          let here : Ended f c x m r end y = record {
            steps = k;
            says = subst₂ (λ z n. Tells f c z n r) M.own M.map tells;
            map = refl;
            own = refl;
          } in (
            end,
            y,
            subst (λ g. Ended g c x m r end y) same_form here,
            member end y None
                (ap (λ z. line_map f c (q.own 0) z q.map) is ∙ (λ j. line_map f c (M.own j) (Ends r) (M.map j)))
                (ap (λ z. line_own f c (q.own 0) (steps_of (q.begun 0)) z q.map) is ∙ (λ j. line_own f c (M.own j) (had j) (Ends r) (M.map j)))
                (ap (task_left c k) is),
          )
