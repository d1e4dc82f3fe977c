-- What a turn of an opener that is shut out leaves: the world stands as before, and so does who is aside.
use Rattle.std.proofs.Common.{◌≡◌, ℕ, List, false, None, refl, sym, ◌∙◌, ap, subst, inl, arith}
use Rattle.tdb_space.specs.Form.{Form, form_in}
use Rattle.tdb_locks.specs.HeldLocks.{nothing_held}
use Rattle.tdb_locks.specs.declared.turn.Reply.{Reply}
use Rattle.tdb_locks.specs.declared.turn.Turn.{Turn}
use Rattle.tdb_locks.specs.declared.turn.Turn.TheVariants.{Step, Blocked, Done}
use Rattle.tdb_law.specs.Commands as Law
use Rattle.tdb_law.specs.Commands.WalkCommand.{Close}
use Rattle.tdb_law.specs.Openers.{Own, Task as LawTask, closed}
use Rattle.tdb_law.specs.Held.{explicit_held, stand_held}
use Rattle.tdb_law.specs.Outcomes.{walk_moves}
use Rattle.tdb_law.specs.World.{State}
use Rattle.tdb_law.specs.Turned.{Turned}
use Rattle.tdb_law.proofs.Kept.{closed_base}
use Rattle.tdb_law.specs.OneAside.Sides.{Past, Side, but_at, beside, StandsAside}
use Rattle.tdb_law.specs.OneAside.Turns.{without_task, without_cursor}
use Rattle.tdb_law.proofs.OneAside.Choices.{aside_stays}
use Rattle.tdb_law.proofs.OneAside.Parted.{put_back, beside_same, beside_ended, beside_left, turned_beside}
use Rattle.tdb_commands.specs.InLaw.{law_opener, law_reply, law_turn}
use Rattle.tdb_openers.specs.declared.opener.Opener.{Opener}
use Rattle.tdb_openers.specs.declared.job.Job.{Job}
use Rattle.tdb_openers.specs.declared.job.Job.TheVariants as Jobs
use Rattle.tdb_openers.specs.declared.job.Walking.{Walking}
use Rattle.tdb_openers.specs.declared.job.Walking.TheVariants as Walks
use Rattle.tdb_openers.specs.declared.job.Task.{Task}
use Rattle.tdb_openers.specs.Laws.{IsPut}
use Rattle.tdb_openers.specs.Openers.{own_of, law_task, task_at, spot_at, walk_command, hands_of_job, hands_of_task}
use Rattle.tdb_openers.specs.ShutOut.{IsTurnBeside, IsReplaced, JobMeets, after_job, opener_after}
use Rattle.tdb_openers.specs.Worlds.{World, state_in, law_of_task, Stands, BytesStand}
use Rattle.tdb_openers.proofs.Joining.Arriving.{nothing_well}
use Rattle.tdb_openers.proofs.Barred.Meeting.{kept_walk, job_done}
use Rattle.tdb_openers.proofs.Joining.Occupied.{Rests, found, own_here, job_at, rests_by, world_by, world_same, world_ended, may_end, bytes_ended}
use Rattle.tdb_openers.proofs.Joining.Putting.{replaced_rest}
use Rattle.tdb_openers.proofs.Joining.Replacing.{file_replaced, state_replaced}
use Rattle.tdb_openers.proofs.Barred.ShutOut.{IsBarred, apart, holds_none, stands_on_none}
use Rattle.tdb_openers.proofs.Barred.ShutTurns.{Ended, state_after, cursor_ended, turned}

module _ {w : World} {img : List ℕ} {past : Past} {s : Side} {holder who : ℕ} {x : Opener} {t : Task} {any : List ℕ} {size : ℕ} (C : IsBarred w img past s holder who x t any size) where
  abbrev f : Form
  f = form_in w.header

  abbrev l : ℕ
  l = law_opener who

  abbrev own : Own
  own = own_of w.options x

  abbrev lt : LawTask
  lt = law_of_task t

  abbrev p : State
  p = state_in w img

  abbrev q : State
  q = beside p past s

  -- a job that ends had no step, and its cursor rests
  rests_ended : (walking : Walking) → t.job ≡ Jobs.Walk walking → walk_moves (walk_command walking) own ≡ false → Rests C.busy C.stands
  rests_ended walking is still = let E = cursor_ended C walking is still in record { rests = E.rests; new = E.new; bare = ap hands_of_task C.busy.busy ∙ ap hands_of_job is }

  ends_rest : (j : Job) (reply : Reply) → t.job ≡ j → JobMeets f j holder (Done reply) → Rests C.busy C.stands
  ends_rest (Jobs.Refused command told) reply is M = rests_by C.busy C.stands (Jobs.Refused command told) is refl (job_at C.busy C.stands (Jobs.Refused command told) is).0 refl
  ends_rest (Jobs.Plain d) reply is M = absurd (cc M)
  ends_rest (Jobs.Check checking) reply is M = absurd (cc M)
  ends_rest (Jobs.Locking locking) reply is M = rests_by C.busy C.stands (Jobs.Locking locking) is refl (job_at C.busy C.stands (Jobs.Locking locking) is).0 refl
  ends_rest Jobs.Seqnum reply is M = absurd M
  ends_rest (Jobs.Walk Walks.First) reply is M = absurd M
  ends_rest (Jobs.Walk Walks.Next) reply is M = absurd M
  ends_rest (Jobs.Walk Walks.EndWalk) reply is M = rests_ended Walks.EndWalk is refl
  ends_rest (Jobs.Walk Walks.Close) reply is M = rests_ended Walks.Close is refl

  module _ (ys : List Opener) where
    -- the plain state after a turn
    abbrev later : State
    later = state_in (record w { openers = ys }) img

    -- who is aside stands so still, where another opener takes the place of this one
    pub aside_still : (y : Opener) → IsPut w.openers l y ys → StandsAside later s
    aside_still y P = aside_stays p later s C.shuts.aside (let same = P.same_length in omega (arith, same)) (ap task_at (P.others s.here (λ e. apart C (sym e)))) (ap spot_at (P.others s.here (λ e. apart C (sym e)))) (λ b. refl)

    -- it is this one, but for what the file adds to cursors
    abbrev Plainly : State → Type 0
    Plainly v = record later { view = v.view } ≡ v

    same_state : IsPut w.openers l x ys → Plainly p
    same_state P = state_replaced w.openers ys l x x (found C.busy) P refl f w.options w.table img p.view ∙ (λ i. record p { task = put_back l (law_task x.task) p.task (ap task_at (found C.busy)) i; own = put_back l own p.own (own_here C.busy img) i })

    ended_state : IsPut w.openers l (record x { task = None }) ys → Plainly (without_task p l)
    ended_state P = state_replaced w.openers ys l x (record x { task = None }) (found C.busy) P refl f w.options w.table img p.view ∙ (λ i. record (without_task p l) { own = put_back l own p.own (own_here C.busy img) i })

    -- so it is beside who is aside
    same_beside : IsPut w.openers l x ys → q ≡ beside later past s
    same_beside P = sym (beside_same past s C.shuts.shuts later p (same_state P))

    pub ended_beside : IsPut w.openers l (record x { task = None }) ys → without_task q l ≡ beside later past s
    ended_beside P = sym (beside_same past s C.shuts.shuts later (without_task p l) (ended_state P) ∙ beside_ended past s C.shuts.shuts p l (apart C))

    -- and so after a Close, by which the opener holds nothing, as before
    module _ (E : Ended f own x.walk.cursor.place x.walk.cursor.stage t.steps) (P : IsPut w.openers l (after_job (Jobs.Walk Walks.Close) x) ys) where
      closes : own_of w.options (after_job (Jobs.Walk Walks.Close) x) ≡ closed own
      closes = λ i. record (closed own) { cursor = E.none i }

      closed_state : Plainly (without_cursor Close p l)
      closed_state = state_replaced w.openers ys l x (after_job (Jobs.Walk Walks.Close) x) (found C.busy) P refl f w.options w.table img p.view ∙ (λ i. record (without_task p l) { own = but_at l (is_closed i) p.own; table = tables i })
        where
          is_closed : own_of w.options (after_job (Jobs.Walk Walks.Close) x) ≡ closed (p.own l)
          is_closed = closes ∙ ap closed (sym (own_here C.busy img))

          tables : p.table ≡ but_at l (λ b. 0) p.table
          tables = sym (put_back l (λ b. 0) p.table (λ i b. holds_none C E.new b i))

      closed_beside : without_cursor Close q l ≡ beside later past s
      closed_beside = sym (beside_same past s C.shuts.shuts later (without_cursor Close p l) closed_state ∙ beside_left past s C.shuts.shuts p l (apart C) Close)

      closed_world : Rests C.busy C.stands → Stands (record w { openers = ys }) any size
      closed_world R = world_by C.busy C.stands ys (after_job (Jobs.Walk Walks.Close) x) P
          (λ b. (let nothing = holds_none C E.new b in
          let off = ap (λ o. stand_held o b) (stands_on_none C) in
          let keeps = ap (λ z. explicit_held f z b) closes in
          let bare = closed_base f 0 b own in
          omega (arith, nothing, off, keeps, bare)))
          (may_end C.busy C.stands ys R nothing_held false nothing_well)

    -- after the end of a job
    job_beside : (j : Job) (r : Law.Reply) → t.job ≡ j → IsPut w.openers l (after_job j x) ys → state_after (Law.Turn.Ends r) j q l ≡ beside later past s
    job_beside (Jobs.Refused command reply) r is P = ended_beside P
    job_beside (Jobs.Plain d) r is P = ended_beside P
    job_beside (Jobs.Check checking) r is P = ended_beside P
    job_beside (Jobs.Locking locking) r is P = ended_beside P
    job_beside Jobs.Seqnum r is P = ended_beside P
    job_beside (Jobs.Walk Walks.First) r is P = ended_beside P
    job_beside (Jobs.Walk Walks.Next) r is P = ended_beside P
    job_beside (Jobs.Walk Walks.EndWalk) r is P = ended_beside P
    job_beside (Jobs.Walk Walks.Close) r is P = closed_beside (cursor_ended C Walks.Close is refl) P

    job_settled : (j : Job) (r : Law.Reply) → (state_after (Law.Turn.Ends r) j q l).settled ≡ past.settled
    job_settled (Jobs.Refused command reply) r = refl
    job_settled (Jobs.Plain d) r = refl
    job_settled (Jobs.Check checking) r = refl
    job_settled (Jobs.Locking locking) r = refl
    job_settled Jobs.Seqnum r = refl
    job_settled (Jobs.Walk Walks.First) r = refl
    job_settled (Jobs.Walk Walks.Next) r = refl
    job_settled (Jobs.Walk Walks.EndWalk) r = refl
    job_settled (Jobs.Walk Walks.Close) r = refl

    job_world : (j : Job) → t.job ≡ j → Rests C.busy C.stands → IsPut w.openers l (after_job j x) ys → Stands (record w { openers = ys }) any size
    job_world (Jobs.Refused command reply) is R P = world_ended C.busy C.stands ys R P
    job_world (Jobs.Plain d) is R P = world_ended C.busy C.stands ys R P
    job_world (Jobs.Check checking) is R P = world_ended C.busy C.stands ys R P
    job_world (Jobs.Locking locking) is R P = world_ended C.busy C.stands ys R P
    job_world Jobs.Seqnum is R P = world_ended C.busy C.stands ys R P
    job_world (Jobs.Walk Walks.First) is R P = world_ended C.busy C.stands ys R P
    job_world (Jobs.Walk Walks.Next) is R P = world_ended C.busy C.stands ys R P
    job_world (Jobs.Walk Walks.EndWalk) is R P = world_ended C.busy C.stands ys R P
    job_world (Jobs.Walk Walks.Close) is R P = closed_world (cursor_ended C Walks.Close is refl) P R

    -- and after a turn
    turn_beside : (turn : Turn) → IsPut w.openers l (opener_after turn t.job x) ys → state_after (law_turn turn) t.job q l ≡ beside later past s
    turn_beside Step P = same_beside P
    turn_beside (Blocked owner byte) P = same_beside P
    turn_beside (Done reply) P = job_beside t.job (law_reply reply) refl P

    turn_settled : (turn : Turn) → (state_after (law_turn turn) t.job q l).settled ≡ past.settled
    turn_settled Step = refl
    turn_settled (Blocked owner byte) = refl
    turn_settled (Done reply) = job_settled t.job (law_reply reply)

    turn_world : (turn : Turn) → JobMeets f t.job holder turn → IsPut w.openers l (opener_after turn t.job x) ys → Stands (record w { openers = ys }) any size
    turn_world Step M P = world_same C.busy C.stands ys P
    turn_world (Blocked owner byte) M P = world_same C.busy C.stands ys P
    turn_world (Done reply) M P = job_world t.job refl (ends_rest t.job reply refl M) P

    turn_bytes : (turn : Turn) → JobMeets f t.job holder turn → IsPut w.openers l (opener_after turn t.job x) ys → (a : List ℕ) → BytesStand w a → BytesStand (record w { openers = ys }) a
    turn_bytes Step M P a F = file_replaced w.openers ys l x x (found C.busy) P refl f a (inl refl) F
    turn_bytes (Blocked owner byte) M P a F = file_replaced w.openers ys l x x (found C.busy) P refl f a (inl refl) F
    turn_bytes (Done reply) M P a F = bytes_ended C.busy C.stands ys (ends_rest t.job reply refl M) (after_job t.job x) (kept_walk (Done reply) t.job x) (job_done t.job x) P a F

    -- a turn of the whole state that leads there
    pub beside_by : (turn : Law.Turn) (v : State) → Turned f q l lt turn v → v.settled ≡ past.settled → v ≡ beside later past s → (y : Opener) → IsPut w.openers l y ys → IsTurnBeside w (record w { openers = ys }) img past s l lt turn
    beside_by turn v T settled is y P = record { turned = turned_beside past s C.shuts.shuts p l (apart C) f lt turn later v T settled is; aside = aside_still y P }

  -- so it is of the world that has this opener in the place of that one
  module _ {v : World} (turn : Turn) (M : JobMeets f t.job holder turn) (R : IsReplaced w who (opener_after turn t.job x) v) where
    pub meets_beside : IsTurnBeside w v img past s l lt (law_turn turn)
    meets_beside = subst (λ z. IsTurnBeside w z img past s l lt (law_turn turn)) (replaced_rest R) (beside_by v.openers (law_turn turn) (state_after (law_turn turn) t.job q l) (turned C t.job turn refl M) (turn_settled v.openers turn) (turn_beside v.openers turn R.put) (opener_after turn t.job x) R.put)

    pub meets_world : Stands v any size
    meets_world = subst (λ z. Stands z any size) (replaced_rest R) (turn_world v.openers turn M R.put)

    pub meets_bytes : (a : List ℕ) → BytesStand w a → BytesStand v a
    meets_bytes a F = subst (λ z. BytesStand z a) (replaced_rest R) (turn_bytes v.openers turn M R.put a F)
