-- After a turn of a command on an opener's cursor, whatever the bytes of the file are: what the opener has and holds,
-- and where its cursor stands.
use Rattle.std.proofs.Common.{◌≡◌, ◌≢◌, ℕ, ◌+◌, ◌-◌, ◌≤◌, IsTrue, List, Bool, cond, true, false, Option, Some, None, is_some, refl, sym, ◌∙◌, ap, subst, inl, inr, arith, zero-le, le_refl}
use Rattle.std.specs.Prelude.{if◌then◌else◌}
use Rattle.std.proofs.lemmas.Bool.{cases_eq, cases_Bool}
use Rattle.tdb_space.specs.Form.{Form}
use Rattle.tdb_locks.specs.HeldLocks.{HeldLocks}
use Rattle.tdb_locks.specs.LockTable.{held}
use Rattle.tdb_locks.specs.declared.kind.Kind.{Kind}
use Rattle.tdb_locks.specs.declared.piece.Piece.{Piece}
use Rattle.tdb_locks.specs.declared.turn.Reply.{Reply}
use Rattle.tdb_locks.specs.declared.turn.Reply.TheVariants as Replies
use Rattle.tdb_locks.specs.declared.turn.Turn.{Turn}
use Rattle.tdb_locks.specs.declared.turn.Turn.TheVariants.{Step, Blocked, Done}
use Rattle.tdb_law.specs.Commands.{WalkCommand, Reply as LawReply, Turn as LawTurn}
use Rattle.tdb_law.specs.Commands.WalkCommand.{First, Next, EndWalk, Close}
use Rattle.tdb_law.specs.Commands.Command.{OnWalk}
use Rattle.tdb_law.specs.Openers.{Own, Map, nowhere, closed}
use Rattle.tdb_law.specs.Held.{holding}
use Rattle.tdb_law.specs.Effects.{task_left}
use Rattle.tdb_law.specs.Images.{image_map}
use Rattle.tdb_commands.specs.InLaw.{law_turn, law_reply}
use Rattle.tdb_steps.specs.Holdings.{strength}
use Rattle.tdb_walk.specs.declared.standing.Standing.{Standing}
use Rattle.tdb_walk.specs.declared.standing.Standing.TheVariants.{Before, On, Past}
use Rattle.tdb_walk.specs.declared.stage.Stage.{Stage}
use Rattle.tdb_walk.specs.declared.stage.Act.{Act}
use Rattle.tdb_walk.specs.declared.stage.Act.TheVariants.{Lock, Move, End}
use Rattle.tdb_walk.specs.ByteLocks.{Holding, IsKeptFrom}
use Rattle.tdb_walk.specs.Cursors.{At, IsPlaced, StepLed, StepTaken, WentTo, act_of, byte_of, covers, kind_of, held_after, held_moved, spared_of}
use Rattle.tdb_walk.specs.Cursors.LeaveLed.{leaves, cannot}
use Rattle.tdb_walk.specs.Cursors.WentTo.{arrives, held_up, halts, finishes, lacks}
use Rattle.tdb_walk.specs.InLaw.{IsTurn, StandsAfter, goal_of, held_next, is_before, is_close, is_dropped, own_next, spot_in, spot_next, strengths}
use Rattle.tdb_walk.specs.Again.{RestsAt, cursor_after}
use Rattle.tdb_walk.specs.Holds.{CursorHeld}
use Rattle.tdb_walk.proofs.Rows.{last_is, own_is}
use Rattle.tdb_walk.proofs.CursorHeld.{cursor_holds}
use Rattle.tdb_openers.specs.Given.{IsWellHeld}
use Rattle.tdb_commands.specs.declared.options.Options.{Options}
use Rattle.tdb_openers.specs.declared.opener.Opener.{Opener}
use Rattle.tdb_openers.specs.declared.job.Job.{Job}
use Rattle.tdb_openers.specs.declared.job.Job.TheVariants as Jobs
use Rattle.tdb_openers.specs.declared.job.Task.{Task}
use Rattle.tdb_openers.specs.Openers.{own_of, own_at, own_with, task_at, spot_by, command_in, law_task, walk_command, walk_in, walk_of, steps_of, MayAsk, JobStands, TaskStands, WalkAfter, WalkStands, OpenerStands}
use Rattle.tdb_openers.specs.States.{WorldStands}
use Rattle.tdb_openers.specs.Jobs.{task_after}
use Rattle.tdb_openers.specs.Laws.{HasTask, MayStand, WalkKeepsWorld}
use Rattle.tdb_openers.specs.Turning.{law_table, TurnsLocks}
use Rattle.tdb_openers.specs.Walked.{WalkTurned, GoesOn, HasEnded, footing_of}
use Rattle.tdb_openers.proofs.Joining.Arriving.{nothing_well, no_walk_stands}
use Rattle.tdb_openers.proofs.ExplicitLocks.Strengths.{strengths_are}
use Rattle.tdb_openers.proofs.Walks.Purgers.{walks_command}
use Rattle.tdb_openers.proofs.PlainTurns.Standing.{turn_keeps_world}
use Rattle.tdb_openers.proofs.Walks.WalkReady.{walk_ready, walk_few, walk_may}

-- A turn in numbers of the lock table: an opener that is in the way has one from 1 on, and where it isn't known which
-- it is, it counts as 1.
abbrev pub counted : Turn → Turn
counted Step = Step
counted (Blocked other byte) = Blocked (other - 1 + 1) byte
counted (Done reply) = Done reply

module _ (f : Form) (ps : List Piece) (owner : ℕ) (own : HeldLocks) (numbered : (b : ℕ) → held ps 0 b ≡ None) where
  pub kept_named : (covered : Bool) (byte : ℕ) (kind : Kind) (other at : ℕ) → IsKeptFrom covered ps owner byte kind other at → other - 1 + 1 ≡ other
  kept_named covered byte kind other at K =
      elim (cases_eq other 0) [
        | inl e ↦ absurd (let bad = sym (numbered at) ∙ (ap (λ o. held ps o at) (sym e) ∙ K.conflict.conflict.holds) in cc bad)
        | inr ne ↦ omega (arith, ne)
      ]

  went_counted : (at later : At) (did : Turn) → WentTo f ps owner own at later did → WentTo f ps owner own at later (counted did)
  went_counted at later did (arrives key value off e s above can) = arrives key value off (ap counted e) s above can
  went_counted at later did (held_up other byte e s) = held_up (other - 1 + 1) byte (ap counted e) s
  went_counted at later did (halts chain other byte e s) = halts chain (other - 1 + 1) byte (ap counted e) s
  went_counted at later did (finishes e s) = finishes (ap counted e) s
  went_counted at later did (lacks e s) = lacks (ap counted e) s

  led_counted : (act : Act) (spared : Standing) (at later : At) (did : Turn) → StepLed f ps owner own act spared at later did → StepLed f ps owner own act spared at later (counted did)
  led_counted (Lock lock) spared at later Step L = L
  led_counted (Lock lock) spared at later (Blocked other byte) L = (L.0, subst (λ o. IsKeptFrom (covers own lock) ps owner (byte_of lock) (kind_of lock) o byte) (sym (kept_named (covers own lock) (byte_of lock) (kind_of lock) other byte L.1)) L.1)
  led_counted (Lock lock) spared at later (Done reply) L = L
  led_counted (Move from) spared at later did L = went_counted at later did L
  led_counted End spared at later did (leaves e s) = leaves (ap counted e) s
  led_counted End spared at later did (cannot some e s) = cannot some (ap counted e) s

  moved_counted : (at : At) (place : Standing) (did : Turn) (h : Holding) → held_moved own owner at place (counted did) h ≡ held_moved own owner at place did h
  moved_counted at (On chain off) Step h = refl
  moved_counted at (On chain off) (Blocked other byte) h = refl
  moved_counted at (On chain off) (Done reply) h = refl
  moved_counted at (Before chain) did h = refl
  moved_counted at Past did h = refl

  held_counted : (act : Act) (at later : At) (did : Turn) (h : Holding) → held_after own owner act at later (counted did) h ≡ held_after own owner act at later did h
  held_counted (Lock lock) at later Step h = refl
  held_counted (Lock lock) at later (Blocked other byte) h = refl
  held_counted (Lock lock) at later (Done reply) h = refl
  held_counted (Move from) at later did h = moved_counted at later.place did h
  held_counted End at later did h = refl

  -- what a turn says is one of the replies of a cursor
  abbrev IsSaid : Reply → Type 0
  IsSaid reply = IsTurn (Done reply) (law_turn (Done reply))

  said_by : (reply r : Reply) → ◌≡◌ {A = Turn} (Done reply) (Done r) → IsSaid r → IsSaid reply
  said_by reply r e S = let same : r ≡ reply = cc in subst IsSaid same S

  done_said : (act : Act) (spared : Standing) (at later : At) (reply : Reply) → StepLed f ps owner own act spared at later (Done reply) → IsSaid reply
  done_said (Lock lock) spared at later reply L = subst IsSaid (sym L.0) (LawReply.Memory, refl, refl)
  done_said (Move from) spared at later reply (arrives key value off e s above can) = said_by reply (Replies.Pair key value) e (LawReply.Pair key value, refl, refl)
  done_said (Move from) spared at later reply (held_up other byte e s) = absurd (cc e)
  done_said (Move from) spared at later reply (halts chain other byte e s) = absurd (cc e)
  done_said (Move from) spared at later reply (finishes e s) = said_by reply Replies.End e (LawReply.End, refl, refl)
  done_said (Move from) spared at later reply (lacks e s) = said_by reply Replies.Memory e (LawReply.Memory, refl, refl)
  done_said End spared at later reply (leaves e s) = said_by reply Replies.Ok e (LawReply.Done, refl, refl)
  done_said End spared at later reply (cannot some e s) = said_by reply Replies.Memory e (LawReply.Memory, refl, refl)

  pub says_turn : (act : Act) (spared : Standing) (at later : At) (did : Turn) → StepLed f ps owner own act spared at later did → IsTurn (counted did) (law_turn did)
  says_turn act spared at later Step L = refl
  says_turn act spared at later (Blocked other byte) L = (other - 1, refl, refl)
  says_turn act spared at later (Done reply) L = done_said act spared at later reply L

  never_told : {A : Type 0} → IsTrue false → A
  never_told e = absurd (cc e)

  pub taken_counted : (tells : Bool) (img : List ℕ) (mid : List Piece) (stood_on : List ℕ) (goal : _) (read_only : Bool) (at later : At) (did : Turn)
      → StepTaken (IsTrue tells) f img ps mid owner own stood_on goal read_only at later did → StepTaken (IsTrue false) f img ps mid owner own stood_on goal read_only at later (counted did)
  taken_counted tells img mid stood_on goal read_only at later did T = record {
    due = T.due;
    led = led_counted (act_of goal at.place at.stage T.due) (spared_of goal at.place) at later did T.led;
    writes = T.writes;
    holds = λ o b. T.holds o b ∙ sym (ap (λ (h : Holding). h o b) (held_counted (act_of goal at.place at.stage T.due) at later did (held ps)));
    decided = λ told. never_told told;
    moved = λ told. never_told told;
  }

-- after a step, and where it rests, a cursor isn't before a chain
step_inside : (f : Form) (held : HeldLocks) (x : Own) (w : WalkCommand) (place : Standing) (stage : Stage) (n : ℕ) → StandsAfter f held x w place stage false (n + 1) → is_before place ≡ false
step_inside f held x w (On chain off) stage n S = refl
step_inside f held x w (Before chain) stage n S =
    elim S.1 [
      | inl moved ↦ absurd (let e = moved.0 in cc e)
      | inr new ↦ absurd (let e = new.4 in omega (arith, e))
    ]
step_inside f held x w Past stage n S = refl

rest_inside : (f : Form) (cursor : Option (List ℕ)) (place : Standing) (stage : Stage) → RestsAt f cursor place stage → is_before place ≡ false
rest_inside f cursor (On chain off) stage R = refl
rest_inside f cursor (Before chain) stage R = absurd R
rest_inside f cursor Past stage R = refl

-- a command on the cursor stands after so many steps
pub job_walks : (f : Form) (x : Own) (job : Job) (w : WalkCommand) (n size : ℕ) → walk_in job ≡ Some w → n ≤ 2 → MayAsk x w → JobStands f x job n size
job_walks f x (Jobs.Refused command reply) w n size e low may = absurd (cc e)
job_walks f x (Jobs.Plain d) w n size e low may = absurd (cc e)
job_walks f x (Jobs.Check checking) w n size e low may = absurd (cc e)
job_walks f x (Jobs.Locking locking) w n size e low may = absurd (cc e)
job_walks f x Jobs.Seqnum w n size e low may = absurd (cc e)
job_walks f x (Jobs.Walk walking) w n size e low may = (low, (let same : w ≡ walk_command walking = cc in subst (MayAsk x) same may))

two_most : (z : Bool) → cond z 2 0 ≤ 2
two_most true = le_refl 2
two_most false = zero-le

law_left : (job : Job) (n : ℕ) (turn : LawTurn) → law_task (task_after job n turn) ≡ task_left (command_in job) n turn
law_left job n LawTurn.Step = refl
law_left job n (LawTurn.Blocked o b) = refl
law_left job n (LawTurn.Ends r) = refl

-- a Close that ends leaves the opener closed
closed_next : (f : Form) (w : WalkCommand) (n : ℕ) (x : Own) (m : Map) (r : LawReply) → x.txn ≡ None → is_close w ≡ true → own_next f w n x m (LawTurn.Ends r) ≡ closed x
closed_next f First n x m r out e = absurd (cc e)
closed_next f Next n x m r out e = absurd (cc e)
closed_next f EndWalk n x m r out e = absurd (cc e)
closed_next f Close n x m LawReply.Memory out e = refl
closed_next f Close n x m LawReply.Done out e = own_is f Close x out n LawReply.Done m
closed_next f Close n x m LawReply.End out e = own_is f Close x out n LawReply.End m
closed_next f Close n x m LawReply.KeyMissing out e = own_is f Close x out n LawReply.KeyMissing m
closed_next f Close n x m LawReply.KeyThere out e = own_is f Close x out n LawReply.KeyThere m
closed_next f Close n x m LawReply.ReadOnly out e = own_is f Close x out n LawReply.ReadOnly m
closed_next f Close n x m LawReply.NoTransaction out e = own_is f Close x out n LawReply.NoTransaction m
closed_next f Close n x m LawReply.InTransaction out e = own_is f Close x out n LawReply.InTransaction m
closed_next f Close n x m LawReply.Nesting out e = own_is f Close x out n LawReply.Nesting m
closed_next f Close n x m LawReply.Doomed out e = own_is f Close x out n LawReply.Doomed m
closed_next f Close n x m LawReply.NotLocked out e = own_is f Close x out n LawReply.NotLocked m
closed_next f Close n x m LawReply.Yes out e = own_is f Close x out n LawReply.Yes m
closed_next f Close n x m LawReply.No out e = own_is f Close x out n LawReply.No m
closed_next f Close n x m (LawReply.Value v) out e = own_is f Close x out n (LawReply.Value v) m
closed_next f Close n x m (LawReply.Pair k v) out e = own_is f Close x out n (LawReply.Pair k v) m
closed_next f Close n x m (LawReply.Busy o z) out e = own_is f Close x out n (LawReply.Busy o z) m
closed_next f Close n x m (LawReply.Full u v) out e = own_is f Close x out n (LawReply.Full u v) m
closed_next f Close n x m (LawReply.HeldLocks u) out e = own_is f Close x out n (LawReply.HeldLocks u) m
closed_next f Close n x m (LawReply.Number u) out e = own_is f Close x out n (LawReply.Number u) m

-- What the opener y has and holds after a turn, and where its cursor stands, in the words of the law of cursors, where
-- the cursor's step led to this place and lock table.
pub record WalkFacts (f : Form) (options : Options) (mid qs : List Piece) (who size : ℕ) (x y : Opener) (w : WalkCommand) (n : ℕ) (m : Map) (later : At) (turn : LawTurn) : Type 0 where
  pub own : own_of options y ≡ own_next f w n (own_of options x) m turn
  pub spot : spot_by y.walk.cursor ≡ spot_next turn w later
  pub table : (z : ℕ) → law_table qs who z ≡ held_next turn w (strengths mid who z)
  pub others : (o z : ℕ) → o ≢ who → law_table qs o z ≡ strengths mid o z
  pub none : (z : ℕ) → held qs 0 z ≡ held mid 0 z
  pub stands : WalkStands f y.held (own_of options y) (walk_of y.task) (steps_of y.task) y.walk.cursor
  pub well : IsWellHeld y.held
  pub task_stands : TaskStands f (own_of options y) y.task size
  pub live : (u : Task) → y.task ≡ Some u → y.live ≡ true
  pub cursor : is_dropped turn w ≡ false → y.walk.cursor ≡ later

module _ (f : Form) (options : Options) (who size : ℕ) (x : Opener) (t : Task) (w : WalkCommand) (on : walk_in t.job ≡ Some w) (well : IsWellHeld x.held) (busy : x.live ≡ true) (may : MayAsk (own_of options x) w) (few : t.steps ≤ 2) (m : Map)
    (y : Opener) (mid qs : List Piece) (later : At) (placed : IsPlaced later.place) where
  abbrev Facts : LawTurn → Type 0
  Facts turn = WalkFacts f options mid qs who size x y w t.steps m later turn

  abbrev Held : Turn → Type 0
  Held did = CursorHeld f x.held (own_of options x) w later t.steps who mid m (counted did) (law_turn did)

  -- where the opener goes on
  module _ (did : Turn) (G : GoesOn (footing_of x) (footing_of y) later mid qs did) where
    own_shown : own_of options y ≡ record (own_of options x) { cursor = cursor_after did later.place x.walk.shown }
    own_shown = λ i. own_with options (G.live i) (G.held i) (record { shown = G.shown i; stands = None })

    table_on : (z : ℕ) → law_table qs who z ≡ strengths mid who z
    table_on z = ap (λ l. law_table l who z) G.table ∙ ap (λ h. h who z) (sym (strengths_are mid))

    others_on : (o z : ℕ) → o ≢ who → law_table qs o z ≡ strengths mid o z
    others_on o z ne = ap (λ l. law_table l o z) G.table ∙ ap (λ h. h o z) (sym (strengths_are mid))

    placed_on : IsPlaced y.walk.cursor.place
    placed_on = subst (λ (c : At). IsPlaced c.place) (sym G.cursor) placed

    -- with so many steps of its task behind it
    module _ (own : own_of options y ≡ own_of options x) (n : ℕ) (low : n ≤ 2) (task : y.task ≡ Some (record { steps = n; job = t.job })) (gone : Bool) (inside : is_before later.place ≡ gone)
        (S : StandsAfter f x.held (own_of options x) w later.place later.stage gone n) where
      stands_on : WalkStands f y.held (own_of options y) (walk_of y.task) (steps_of y.task) y.walk.cursor
      stands_on = record {
        placed = placed_on;
        stands =
            subst (λ u. WalkAfter f y.held (own_of options y) (walk_of u) (steps_of u) y.walk.cursor) (sym task)
            (subst (λ v. WalkAfter f y.held (own_of options y) v n y.walk.cursor) (sym on)
            (subst (λ (c : At). StandsAfter f y.held (own_of options y) w c.place c.stage (is_before c.place) n) (sym G.cursor)
            (subst (λ g. StandsAfter f y.held (own_of options y) w later.place later.stage g n) (sym inside)
            (subst (λ h. StandsAfter f h (own_of options y) w later.place later.stage gone n) (sym G.held)
            (subst (λ o. StandsAfter f x.held o w later.place later.stage gone n) (sym own) S)))));
      }

      task_on : TaskStands f (own_of options y) y.task size
      task_on = subst (λ u. TaskStands f (own_of options y) u size) (sym task) (job_walks f (own_of options y) t.job w n size on low (subst (λ o. MayAsk o w) (sym own) may))

  -- where it ends its task and goes on
  module _ (reply : Reply) (stays : is_close w ≡ false) (G : GoesOn (footing_of x) (footing_of y) later mid qs (Done reply)) (H : Held (Done reply)) (task : y.task ≡ None) where
    own_ends : own_of options y ≡ own_next f w t.steps (own_of options x) m (LawTurn.Ends (law_reply reply))
    own_ends = own_shown (Done reply) G ∙ sym (H.shows stays)

    rests_now : RestsAt f (own_of options y).cursor later.place later.stage
    rests_now = subst (λ (o : Own). RestsAt f o.cursor later.place later.stage) (sym own_ends) (H.again stays)

    ends_facts : Facts (LawTurn.Ends (law_reply reply))
    ends_facts = record {
      own = own_ends;
      spot = ap spot_by G.cursor ∙ (ap (spot_in later) (rest_inside f (own_of options y).cursor later.place later.stage rests_now) ∙ sym (ap (λ z. if z then nowhere else spot_in later false) stays));
      table = λ z. table_on (Done reply) G z ∙ sym (ap (λ v. if v then 0 else strengths mid who z) stays);
      others = others_on (Done reply) G;
      none = λ z. ap (λ l. held l 0 z) G.table;
      stands = record {
        placed = placed_on (Done reply) G;
        stands = subst (λ u. WalkAfter f y.held (own_of options y) (walk_of u) (steps_of u) y.walk.cursor) (sym task) (subst (λ (c : At). RestsAt f (own_of options y).cursor c.place c.stage) (sym G.cursor) rests_now);
      };
      well = subst IsWellHeld (sym G.held) well;
      task_stands = subst (λ u. TaskStands f (own_of options y) u size) (sym task) tt;
      live = λ u e. G.live ∙ busy;
      cursor = λ stays. G.cursor;
    }

  -- where the opener ends
  module _ (reply : Reply) (drops : is_close w ≡ true) (E : HasEnded (footing_of y) (who + 1) mid qs) (task : y.task ≡ None) where
    own_closed : own_of options y ≡ closed (own_of options x)
    own_closed = λ i. own_with options (E.live i) (E.nothing i) (record { shown = (E.bare i).shown; stands = None })

    closed_facts : Facts (LawTurn.Ends (law_reply reply))
    closed_facts = record {
      own = own_closed ∙ sym (closed_next f w t.steps (own_of options x) m (law_reply reply) refl drops);
      spot = ap (λ v. spot_by v.cursor) E.bare ∙ sym (ap (λ z. if z then nowhere else spot_in later false) drops);
      table = λ z. ap strength (E.gone z) ∙ sym (ap (λ v. if v then 0 else strengths mid who z) drops);
      others = λ o z ne. ap strength (E.others (o + 1) z (λ e. ne (omega (arith, e)))) ∙ ap (λ h. h o z) (sym (strengths_are mid));
      none = λ z. E.others 0 z (λ e. absurd (omega (arith, e)));
      stands =
          subst (λ u. WalkStands f y.held (own_of options y) (walk_of u) (steps_of u) y.walk.cursor) (sym task)
          (subst (λ v. WalkStands f y.held (own_of options y) None 0 v.cursor) (sym E.bare) (no_walk_stands f y.held (own_of options y) (ap (λ v. v.shown) E.bare)));
      well = subst IsWellHeld (sym E.nothing) nothing_well;
      task_stands = subst (λ u. TaskStands f (own_of options y) u size) (sym task) tt;
      live = λ u e. absurd (let bad = sym task ∙ e in cc bad);
      cursor = λ stays. absurd (let bad : true ≡ false = sym drops ∙ stays in cc bad);
    }

  pub walk_facts : (did : Turn) → Held did → y.task ≡ task_after t.job t.steps (law_turn did) → (is_dropped (law_turn did) w ≡ false → GoesOn (footing_of x) (footing_of y) later mid qs did)
      → (is_dropped (law_turn did) w ≡ true → HasEnded (footing_of y) (who + 1) mid qs) → Facts (law_turn did)
  walk_facts Step H task goes ends =
      let G = goes refl in
      let own : own_of options y ≡ own_of options x = own_shown Step G in
      let inside = step_inside f x.held (own_of options x) w later.place later.stage t.steps H.again in
      let last = last_is f w (own_of options x) refl in
      let most = two_most (is_some x.walk.shown) in
      let row = H.row in
      let low : t.steps + 1 ≤ 2 = omega (arith, row, last, most) in
      record {
        own = own;
        spot = ap spot_by G.cursor ∙ ap (spot_in later) inside;
        table = table_on Step G;
        others = others_on Step G;
        none = λ z. ap (λ l. held l 0 z) G.table;
        stands = stands_on Step G own (t.steps + 1) low task false inside H.again;
        well = subst IsWellHeld (sym G.held) well;
        task_stands = task_on Step G own (t.steps + 1) low task false inside H.again;
        live = λ u e. G.live ∙ busy;
        cursor = λ stays. G.cursor;
      }
  walk_facts (Blocked other byte) H task goes ends =
      let G = goes refl in
      let own : own_of options y ≡ own_of options x = own_shown (Blocked other byte) G in
      record {
        own = own;
        spot = ap spot_by G.cursor;
        table = table_on (Blocked other byte) G;
        others = others_on (Blocked other byte) G;
        none = λ z. ap (λ l. held l 0 z) G.table;
        stands = stands_on (Blocked other byte) G own t.steps few task (is_before later.place) refl H.again;
        well = subst IsWellHeld (sym G.held) well;
        task_stands = task_on (Blocked other byte) G own t.steps few task (is_before later.place) refl H.again;
        live = λ u e. G.live ∙ busy;
        cursor = λ stays. G.cursor;
      }
  walk_facts (Done reply) H task goes ends =
      elim (cases_Bool (is_close w)) [
        | inl drops ↦ closed_facts reply drops (ends drops) task
        | inr stays ↦ ends_facts reply stays (goes stays) H task
      ]

module _ (f : Form) (options : Options) (xs : List Opener) (ps qs : List Piece) (a b : List ℕ) (size who : ℕ) (x y : Opener) (t : Task) (w : WalkCommand) (stood_on : List ℕ) (did : Turn) (tells : Bool)
    (W : WorldStands f options xs ps a size) (B : HasTask xs who x t) (on : walk_in t.job ≡ Some w) (T : WalkTurned tells f a b size ps qs (who + 1) stood_on w options.read_only t x y did) where
  abbrev pub later : At
  later = T.stepped.later

  abbrev pub mid : List Piece
  mid = T.stepped.mid

  abbrev turn : LawTurn
  turn = law_turn did

  pub held_after_turn : CursorHeld f x.held (own_of options x) w later t.steps who mid (image_map f a) (counted did) turn
  held_after_turn =
      cursor_holds f x.held (own_of options x) w x.walk.cursor later (is_before x.walk.cursor.place) t.steps who ps mid a stood_on options.read_only (image_map f a) (counted did) turn false
      (walk_ready f options xs ps a size who x t w W B on)
      (taken_counted f ps (who + 1) x.held W.numbered tells a mid stood_on (goal_of w) options.read_only x.walk.cursor later did T.stepped.stepped.taken)
      T.stepped.others T.stepped.stepped.placed
      (says_turn f ps (who + 1) x.held W.numbered _ _ x.walk.cursor later did T.stepped.stepped.taken.led)

  pub facts : (longer : ℕ) → WalkFacts f options mid qs who longer x y w t.steps (image_map f a) later turn
  facts longer =
      walk_facts f options who longer x t w on (subst (OpenerStands f options size) B.there (W.openers_stand who)).0
      (ap (λ z. (own_at options z).live) (sym B.there) ∙ W.sound.busy_there who (record { command = command_in t.job; steps = t.steps }) (ap task_at B.there ∙ ap law_task B.busy))
      (walk_may f options xs ps a size who x t w W B on) (walk_few f options xs ps a size who x t w W B on) (image_map f a) y mid qs later T.stepped.stepped.placed did held_after_turn T.task T.stepped.goes_on T.stepped.ends

  pub law_task_left : law_task y.task ≡ task_left (OnWalk w) t.steps turn
  law_task_left = ap law_task T.task ∙ (law_left t.job t.steps turn ∙ ap (λ c. task_left c t.steps turn) (walks_command t.job w on))

  -- what it makes of the lock table
  pub walk_locks_turned : TurnsLocks f (own_of options x) (own_of options y) (spot_by y.walk.cursor) (OnWalk w) t.steps (law_task y.task) who ps qs turn
  walk_locks_turned =
      let H = held_after_turn in
      let F = facts size in
      record {
        row = H.row;
        leaves = law_task_left;
        holds = λ z. F.table z ∙ (H.holds z ∙ sym (λ i. holding f (F.own i) (F.spot i) (law_task_left i) z));
        others = λ o z ne. F.others o z ne ∙ (ap (λ h. h o z) (strengths_are mid) ∙ ap strength (T.stepped.others (o + 1) z (λ e. ne (omega (arith, e)))));
        apart = λ o z ne. (let room = H.apart o z ne in
            let one = F.table z in
            let two = F.others o z ne in
            let less = held_less turn w (strengths mid who z) in
            omega (arith, room, one, two, less));
        numbered = λ z. ap strength (F.none z ∙ (T.stepped.others 0 z (λ e. absurd (omega (arith, e))) ∙ W.numbered z));
      }
    where
      held_less : (turn : LawTurn) (w : WalkCommand) (s : ℕ) → held_next turn w s ≤ s
      held_less LawTurn.Step w s = le_refl s
      held_less (LawTurn.Blocked o z) w s = le_refl s
      held_less (LawTurn.Ends r) w s = at (is_close w)
        where
          at : (z : Bool) → (if z then 0 else s) ≤ s
          at true = zero-le
          at false = le_refl s

  pub walk_may_stand : (longer : ℕ) → MayStand f options longer y
  walk_may_stand longer = let F = facts longer in record { stands = (F.well, F.task_stands, F.stands); busy_live = F.live }

pub walk_keeps_world : WalkKeepsWorld
walk_keeps_world f options xs ys ps qs a b c size longer who x y t w stood_on did tells W B on P T more less =
    turn_keeps_world f options xs ys ps qs a c size longer who x y t (law_turn did) W B P
    (subst (λ k. TurnsLocks f (own_of options x) (own_of options y) (spot_by y.walk.cursor) k t.steps (law_task y.task) who ps qs (law_turn did)) (sym (walks_command t.job w on))
    (walk_locks_turned f options xs ps qs a b size who x y t w stood_on did tells W B on T))
    (walk_may_stand f options xs ps qs a b size who x y t w stood_on did tells W B on T longer) more less
