-- What a turn leaves of the bytes of a world's file.
use Rattle.std.proofs.Common.{Bool, true, false, ◌≡◌, ◌≢◌, ℕ, ◌+◌, ◌*◌, ◌++◌, ◌<◌, ◌≤◌, List, length, slice_get, Option, Some, None, refl, sym, ◌∙◌, ap, subst, inl, inr, ◌⊎◌, arith}
use Rattle.std.specs.FinMap.{len}
use Rattle.std.proofs.lemmas.Bool.{cases_Bool, cases_eq}
use Rattle.std.proofs.lemmas.Option.{slice_get_within}
use Rattle.tdb_space.specs.Form.{Form}
use Rattle.tdb_space.specs.Chain.{Member, chain_of}
use Rattle.tdb_space.specs.Pairs.{home, joined}
use Rattle.tdb_space.specs.Accepted.{AcceptWith}
use Rattle.tdb_space.specs.Stays.{ChainStays}
use Rattle.tdb_space.proofs.Pairs.Maps.{home_below}
use Rattle.tdb_locks.specs.declared.piece.Piece.{Piece}
use Rattle.tdb_law.specs.Commands.{Command, Reply, Turn}
use Rattle.tdb_law.specs.Openers.{Own, Map, Spot, View}
use Rattle.tdb_law.specs.Refusals.{chain_byte}
use Rattle.tdb_law.specs.Outcomes.{touches, map_after}
use Rattle.tdb_law.specs.Effects.{Effect, IsReady}
use Rattle.tdb_law.specs.Effects.Effect.{effect_waits, effect_goes_on, effect_changes, effect_answers, effect_shows, effect_starves, effect_is_full, effect_is_busy, effect_numbers, effect_finishes}
use Rattle.tdb_law.specs.Images.{image_map}
use Rattle.tdb_law.proofs.Maps.{maps_equal}
use Rattle.tdb_law.proofs.Local.{untouched, reads_touched}
use Rattle.tdb_law.proofs.Covered.{touched_held}
use Rattle.tdb_steps.specs.declared.plain.Plain.{Plain}
use Rattle.tdb_steps.specs.declared.stage.Stage.{Stage}
use Rattle.tdb_steps.specs.declared.stage.Stage.TheVariants.{Begun, Chained, Looked, Listed, Taken, Changed, Wiping, Ending}
use Rattle.tdb_steps.specs.Holdings.{table_of}
use Rattle.tdb_steps.specs.Order.{IsAfter}
use Rattle.tdb_steps.specs.PlainCommands.{key_of}
use Rattle.tdb_steps.specs.Machines.{Doing, DoingKnows}
use Rattle.tdb_steps.proofs.Knowledge.{machine_knowledge_stays}
use Rattle.tdb_commands.specs.declared.options.Options.{Options}
use Rattle.tdb_openers.specs.declared.opener.Opener.{Opener}
use Rattle.tdb_openers.specs.declared.job.Job.{Job}
use Rattle.tdb_openers.specs.declared.job.Job.TheVariants as Jobs
use Rattle.tdb_openers.specs.declared.job.Checking.TheVariants as Checks
use Rattle.tdb_openers.specs.declared.job.Task.{Task}
use Rattle.tdb_openers.specs.Openers.{own_of, spot_by, command_in, walk_in, walk_of, steps_of, hands_at, place_at, spots_of, JobKnows, TaskKnows, OpenerKnows}
use Rattle.tdb_openers.specs.States.{WorldStands, FileStands}
use Rattle.tdb_openers.specs.Turning.{JobIsOn, TurnsFile, TurnsImage}
use Rattle.tdb_openers.specs.Laws.{HasTask, IsPut, hands_but, other_hands, TurnKeepsFile}
use Rattle.tdb_openers.specs.Cursors.{is_stood, CursorKnows, OpenerSpares, StandApart, cursor_at, LeavesCursors}
use Rattle.tdb_law.specs.Layout.{IsStood}
use Rattle.tdb_walk.specs.declared.standing.Standing.{Standing}
use Rattle.tdb_walk.specs.declared.standing.Standing.TheVariants.{Before, On, Past}
use Rattle.tdb_walk.specs.declared.stage.Stage.{Stage as CursorStage}
use Rattle.tdb_walk.specs.declared.stage.Stage.TheVariants.{Rested, Reading, Writing, Freeing}
use Rattle.tdb_walk.specs.NextLive.{place_of}
use Rattle.tdb_walk.specs.Cursors.{Knows}
use Rattle.tdb_walk.specs.InLaw.{is_purging}
use Rattle.tdb_walk.specs.Purging.{IsDeadIn}
use Rattle.tdb_walk.specs.Again.{RestsAt}
use Rattle.tdb_walk.specs.Spots.{spot_number}
use Rattle.tdb_openers.proofs.Walks.Rests.{walk_rests}
use Rattle.tdb_openers.proofs.PlainTurns.Standing.{walk_there}
use Rattle.tdb_openers.proofs.Walks.Purgers.{purger_locks, dead_stays}
use Rattle.tdb_openers.proofs.Joining.Stood.{place_entry, same_spots, stands_among}
use Rattle.tdb_openers.proofs.Joining.AllHands.{from_front}
use Rattle.tdb_openers.proofs.PlainTurns.Busy.{Writes, looked_writes, listed_writes, taken_writes, on_reads}
use Rattle.tdb_openers.proofs.Joining.Working.{Works, works, plain_writes, plain_reads, check_reads, but_here, but_else}

-- a turn leaves the map, or makes it what the command makes of it, once the command has locked what it reads
pub map_left : (f : Form) (free : Type 0) (conflict : ℕ → ℕ → Type 0) (finds : Reply → Type 0) (number : ℕ) (c : Command) (n : ℕ) (x : Own) (file : Map) (turn : Turn) (y : Own) (next : Map)
    → Effect f free conflict finds number c n x file turn y next → (next ≡ file) ⊎ (IsReady f c x n × (next ≡ map_after f c x file))
map_left f free conflict finds number c n x file turn y next E =
    elim E [
      | effect_waits o b is met yet stays own ↦ inl stays
      | effect_goes_on is clear made stays own ↦ inl stays
      | effect_changes is clear late yet made says stays own ↦ inr (λ k e. late, stays)
      | effect_answers r is clear never other ready yet says stays own ↦ inr (ready, stays)
      | effect_shows r is clear move found stays own ↦ inl stays
      | effect_starves is want yet stays own ↦ inl stays
      | effect_is_full len need is clear fill ready yet says stays own ↦ inl stays
      | effect_is_busy o b is met busy stays own ↦ inl stays
      | effect_numbers q is clear count says stays own ↦ inl stays
      | effect_finishes is clear made stays own ↦ inl stays
    ]

-- a machine by its parts
abbrev doing : Plain → ℕ → Bool → Stage → Option (List ℕ) → Doing
doing command chain seqnum stage whole = record { command = command; chain = chain; seqnum = seqnum; stage = stage; whole = whole }

-- What a turn of the opener `who` makes of the file, from image a to image b, where the opener is y after it: the map
-- stays for those who read every chain, and chains stay for those who write them; the image is accepted with the
-- records of commands, and the opener's command knows it; records stay on which other cursors stand that don't purge
-- them; no cursor stands on a record that is taken out.
pub record KeepsFile (f : Form) (xs ys : List Opener) (ps : List Piece) (a b : List ℕ) (who : ℕ) (y : Opener) : Type 0 where
  pub map_stays : (o : ℕ) → o ≢ who → ((k : List ℕ) → 1 ≤ table_of ps (o + 1) (chain_byte f k)) → image_map f b ≡ image_map f a
  pub chain_stays : (o : ℕ) → o ≢ who → (k : List ℕ) → 2 ≤ table_of ps (o + 1) (chain_byte f k) → ChainStays f a b (home f k)
  pub longer : length a ≤ length b
  pub accepted : AcceptWith f b (hands_at (Some y) ++ other_hands xs who)
  pub knows : TaskKnows f b y.task
  pub members : (o : ℕ) → o ≢ who → (z : Opener) → slice_get xs o ≡ Some z → (chain off : ℕ) → z.walk.cursor.place ≡ On chain off → is_purging z.walk.cursor.stage ≡ false → chain < f.chains
      → Member off (chain_of f a chain) → Member off (chain_of f b chain)
  pub cursor : CursorKnows f b (Some y)
  pub spares : OpenerSpares (is_stood (spots_of ys)) (Some y)
  pub others_spare : (o : ℕ) → o ≢ who → OpenerSpares (is_stood (spots_of ys)) (slice_get xs o)
  pub alone : (o : ℕ) → o ≢ who → StandApart (Some y.walk.cursor) (cursor_at (slice_get xs o))
  pub others_alone : (o : ℕ) → o ≢ who → StandApart (cursor_at (slice_get xs o)) (Some y.walk.cursor)

module _ (f : Form) (options : Options) (xs ys : List Opener) (ps : List Piece) (a b : List ℕ) (size who : ℕ) (y : Opener)
    (W : WorldStands f options xs ps a size) (F : FileStands f xs a) (P : IsPut xs who y ys) (K : KeepsFile f xs ys ps a b who y) where
  stage_knows : (command : Plain) (chain : ℕ) (seqnum : Bool) (stage : Stage) (whole : Option (List ℕ)) (n : ℕ) → IsAfter command stage n → (Writes command n → ChainStays f a b (home f (key_of command)))
      → DoingKnows f a (doing command chain seqnum stage whole) → DoingKnows f b (doing command chain seqnum stage whole)
  stage_knows command chain seqnum Begun whole n is stays known = record { found = tt; joined = λ key value e. tt; wants = tt }
  stage_knows command chain seqnum Chained whole n is stays known = record { found = tt; joined = λ key value e. tt; wants = tt }
  stage_knows command chain seqnum (Looked found) whole n is stays known =
      machine_knowledge_stays f a b (doing command chain seqnum (Looked found) whole) _ _ F.accepted K.accepted K.longer (stays (looked_writes command found n is)) known
  stage_knows command chain seqnum (Listed found) whole n is stays known =
      machine_knowledge_stays f a b (doing command chain seqnum (Listed found) whole) _ _ F.accepted K.accepted K.longer (stays (listed_writes command found n is)) known
  stage_knows command chain seqnum (Taken found hand) whole n is stays known =
      machine_knowledge_stays f a b (doing command chain seqnum (Taken found hand) whole) _ _ F.accepted K.accepted K.longer (stays (taken_writes command found hand n is)) known
  stage_knows command chain seqnum (Changed hand) whole n is stays known = record { found = tt; joined = λ key value e. tt; wants = tt }
  stage_knows command chain seqnum (Wiping locked) whole n is stays known = record { found = tt; joined = λ key value e. tt; wants = tt }
  stage_knows command chain seqnum Ending whole n is stays known = record { found = tt; joined = λ key value e. tt; wants = tt }

  job_knows : (o : ℕ) → o ≢ who → (z : Own) (s : Spot) (job : Job) (n : ℕ) → Works f ps size o z s job n → JobKnows f a job → JobKnows f b job
  job_knows o ne z s (Jobs.Refused command reply) n J known = tt
  job_knows o ne z s (Jobs.Plain d) n J known =
      stage_knows d.command d.chain d.seqnum d.stage d.whole n J.stands.after (λ writes. K.chain_stays o ne (key_of d.command) (plain_writes f options xs ps a size W o z s d n J writes)) known
  job_knows o ne z s (Jobs.Check Checks.Begun) n J known = tt
  job_knows o ne z s (Jobs.Check Checks.Records) n J known = tt
  job_knows o ne z s (Jobs.Check Checks.FreeList) n J known = tt
  job_knows o ne z s (Jobs.Check (Checks.Counted keys)) n J known = known ∙ ap len (sym (K.map_stays o ne (check_reads f options xs ps a size W o z s keys n J)))
  job_knows o ne z s (Jobs.Locking locking) n J known = tt
  job_knows o ne z s Jobs.Seqnum n J known = tt
  job_knows o ne z s (Jobs.Walk walking) n J known = tt

  task_knows : (o : ℕ) → o ≢ who → (z : Opener) → slice_get xs o ≡ Some z → (u : Option Task) → z.task ≡ u → TaskKnows f a u → TaskKnows f b u
  task_knows o ne z there None busy known = tt
  task_knows o ne z there (Some u) busy known = job_knows o ne (own_of options z) (spot_by z.walk.cursor) u.job u.steps (works f options xs ps a size W o z u (record { there = there; busy = busy })) known

  opener_knows : (o : ℕ) → o ≢ who → (z : Option Opener) → slice_get xs o ≡ z → OpenerKnows f a z → OpenerKnows f b z
  opener_knows o ne None there known = tt
  opener_knows o ne (Some z) there known = task_knows o ne z there z.task refl known

  -- each cursor still knows its record
  dead_knows : (o : ℕ) → o ≢ who → (z : Opener) → slice_get xs o ≡ Some z → (chain off : ℕ) → z.walk.cursor.place ≡ On chain off → is_purging z.walk.cursor.stage ≡ true
      → (chain < f.chains) × IsDeadIn f a chain off → (chain < f.chains) × IsDeadIn f b chain off
  dead_knows o ne z there chain off on purging D =
      let H = purger_locks f options xs ps a size W o z there chain off on purging in
      let stays = subst (ChainStays f a b) H.1 (K.chain_stays o ne H.0 H.2) in
      (D.0, dead_stays f a b _ chain off D.0 F.accepted K.longer stays D.1)

  cursor_knows : (o : ℕ) → o ≢ who → (z : Opener) → slice_get xs o ≡ Some z → (place : Standing) (stage : CursorStage) → z.walk.cursor.place ≡ place → z.walk.cursor.stage ≡ stage → Knows f a place stage → Knows f b place stage
  cursor_knows o ne z there (On chain off) Rested on is D = (D.0, K.members o ne z there chain off on (ap is_purging is) D.0 D.1)
  cursor_knows o ne z there (On chain off) Reading on is D = (D.0, K.members o ne z there chain off on (ap is_purging is) D.0 D.1)
  cursor_knows o ne z there (On chain off) Writing on is D = dead_knows o ne z there chain off on (ap is_purging is) D
  cursor_knows o ne z there (On chain off) Freeing on is D = dead_knows o ne z there chain off on (ap is_purging is) D
  cursor_knows o ne z there (Before chain) stage on is D = tt
  cursor_knows o ne z there Past stage on is D = tt

  cursors_know : (o : ℕ) → o ≢ who → (z : Option Opener) → slice_get xs o ≡ z → CursorKnows f a z → CursorKnows f b z
  cursors_know o ne None there D = tt
  cursors_know o ne (Some z) there D = cursor_knows o ne z there z.walk.cursor.place z.walk.cursor.stage refl refl D

  -- each cursor that purges its record is the only one there
  stand_apart : (o p : ℕ) → o ≢ p → StandApart (cursor_at (slice_get ys o)) (cursor_at (slice_get ys p))
  stand_apart o p ne =
      elim (cases_eq o who) [
        | inl is ↦ (let other : p ≢ who = λ e. ne (is ∙ sym e) in
            subst (λ q. StandApart (cursor_at (slice_get ys q)) (cursor_at (slice_get ys p))) (sym is)
            (subst (λ z. StandApart (cursor_at z) (cursor_at (slice_get ys p))) (sym P.there) (subst (λ z. StandApart (Some y.walk.cursor) (cursor_at z)) (sym (P.others p other)) (K.alone p other))))
        | inr first ↦ subst (λ z. StandApart (cursor_at z) (cursor_at (slice_get ys p))) (sym (P.others o first))
            (elim (cases_eq p who) [
              | inl is ↦ subst (λ q. StandApart (cursor_at (slice_get xs o)) (cursor_at (slice_get ys q))) (sym is) (subst (λ z. StandApart (cursor_at (slice_get xs o)) (cursor_at z)) (sym P.there) (K.others_alone o first))
              | inr second ↦ subst (λ z. StandApart (cursor_at (slice_get xs o)) (cursor_at z)) (sym (P.others p second)) (F.alone o p ne)
            ])
      ]

  pub file_kept : FileStands f ys b
  file_kept = record {
    accepted = from_front who (λ o. hands_at (slice_get ys o)) (hands_but xs who) (but_here xs who) (λ o ne. but_else xs who o ne ∙ sym (ap hands_at (P.others o ne))) f b (length ys)
        (slice_get_within ys who y P.there)
        (subst (λ n. AcceptWith f b (hands_at (slice_get ys who) ++ joined n (hands_but xs who))) (sym P.same_length)
        (subst (λ l. AcceptWith f b (l ++ other_hands xs who)) (sym (ap hands_at P.there)) K.accepted));
    known = λ o.
        (elim (cases_eq o who) [
          | inl is ↦ subst (λ p. OpenerKnows f b (slice_get ys p)) (sym is) (subst (OpenerKnows f b) (sym P.there) K.knows)
          | inr ne ↦ subst (OpenerKnows f b) (sym (P.others o ne)) (opener_knows o ne (slice_get xs o) refl (F.known o))
        ]);
    cursors = λ o.
        (elim (cases_eq o who) [
          | inl is ↦ subst (λ p. CursorKnows f b (slice_get ys p)) (sym is) (subst (CursorKnows f b) (sym P.there) K.cursor)
          | inr ne ↦ subst (CursorKnows f b) (sym (P.others o ne)) (cursors_know o ne (slice_get xs o) refl (F.cursors o))
        ]);
    spared = λ o.
        (elim (cases_eq o who) [
          | inl is ↦ subst (λ p. OpenerSpares (is_stood (spots_of ys)) (slice_get ys p)) (sym is) (subst (OpenerSpares (is_stood (spots_of ys))) (sym P.there) K.spares)
          | inr ne ↦ subst (OpenerSpares (is_stood (spots_of ys))) (sym (P.others o ne)) (K.others_spare o ne)
        ]);
    alone = stand_apart;
  }

-- A turn of a command that is on no cursor.
module _ (f : Form) (options : Options) (xs ys : List Opener) (ps : List Piece) (a b : List ℕ) (size who : ℕ) (x y : Opener) (t : Task) (v : View) (turn : Turn)
    (W : WorldStands f options xs ps a size) (F : FileStands f xs a) (B : HasTask xs who x t) (P : IsPut xs who y ys)
    (E : TurnsFile f (own_of options x) (own_of options y) (spot_by x.walk.cursor) v (command_in t.job) t.steps who ps a b turn) (T : TurnsImage f t y.task a b (other_hands xs who))
    (off_cursor : walk_in t.job ≡ None) (still : y.walk ≡ x.walk) (L : LeavesCursors f (own_of options x) t y.task turn a b (is_stood (spots_of xs))) where
  mine : Works f ps size who (own_of options x) (spot_by x.walk.cursor) t.job t.steps
  mine = works f options xs ps a size W who x t B

  -- where another opener reads every chain, the map stays
  map_stays : (o : ℕ) → o ≢ who → ((k : List ℕ) → 1 ≤ table_of ps (o + 1) (chain_byte f k)) → image_map f b ≡ image_map f a
  map_stays o ne reads =
      elim (map_left f _ _ _ _ (command_in t.job) t.steps (own_of options x) (image_map f a) turn (own_of options y) (image_map f b) E.effect) [
        | inl stays ↦ stays
        | inr made ↦ made.1 ∙ maps_equal (map_after f (command_in t.job) (own_of options x) (image_map f a)) (image_map f a) (λ q. elim (cases_Bool (touches f (command_in t.job) (own_of options x) q)) [
          | inl e ↦ absurd (let two = touched_held f W.sound.chains (command_in t.job) (own_of options x) (spot_by x.walk.cursor) t.steps q e (made.0 q (reads_touched f (command_in t.job) (own_of options x) q e)) in
              let room = W.sound.apart o who (chain_byte f q) ne in
              omega (arith, two, room, mine.holds (chain_byte f q), reads q))
          | inr e ↦ untouched f (command_in t.job) (own_of options x) (image_map f a) q e
        ])
      ]

  -- the chain of a key that another opener writes stays
  on_locked : (job : Job) (n : ℕ) → Works f ps size who (own_of options x) (spot_by x.walk.cursor) job n → (k : List ℕ) → JobIsOn f job (home f k) → 1 ≤ n → 1 ≤ table_of ps (who + 1) (chain_byte f k)
  on_locked (Jobs.Refused command reply) n K k on start = elim on [ ]
  on_locked (Jobs.Plain d) n K k on start =
      let its = on_reads f d.command k on in
      subst (λ j. 1 ≤ table_of ps (who + 1) (168 + 4 * j)) (sym its.1) (plain_reads f options xs ps a size W who (own_of options x) (spot_by x.walk.cursor) d n K start its.0 its.2)
  on_locked (Jobs.Check checking) n K k on start = elim on [ ]
  on_locked (Jobs.Locking locking) n K k on start = elim on [ ]
  on_locked Jobs.Seqnum n K k on start = elim on [ ]
  on_locked (Jobs.Walk walking) n K k on start = elim on [ ]

  chain_stays : (o : ℕ) → o ≢ who → (k : List ℕ) → 2 ≤ table_of ps (o + 1) (chain_byte f k) → ChainStays f a b (home f k)
  chain_stays o ne k two = T.only.chains (home f k) (home_below f k W.sound.chains.some) (λ on.
      (let one = on_locked t.job t.steps mine k on.0 on.1 in
      let room = W.sound.apart o who (chain_byte f k) ne in
      omega (arith, one, two, room)))

  -- each record on which a cursor stands is in its chain still
  members : (o : ℕ) (z : Opener) → slice_get xs o ≡ Some z → (chain off : ℕ) → z.walk.cursor.place ≡ On chain off → chain < f.chains → Member off (chain_of f a chain) → Member off (chain_of f b chain)
  members o z there chain off on low member =
      L.members chain off low (subst (λ p. IsStood (is_stood (spots_of xs)) (place_of p)) on (subst (λ w. IsStood (is_stood (spots_of xs)) (place_at w)) there (stands_among f options xs ps a size W o))) member

  own_cursor : (place : Standing) (stage : CursorStage) → x.walk.cursor.place ≡ place → RestsAt f x.walk.shown place stage → Knows f a place stage → Knows f b place stage
  own_cursor (On chain off) stage on R D =
      let D = subst (Knows f a (On chain off)) R.1 D in
      subst (Knows f b (On chain off)) (sym R.1) (D.0, members who x B.there chain off on D.0 D.1)
  own_cursor (Before chain) stage on R D = tt
  own_cursor Past stage on R D = tt

  same_entries : spots_of ys ≡ spots_of xs
  same_entries = same_spots xs ys (λ o. elim (cases_eq o who) [
    | inl is ↦ subst (λ p. place_entry (slice_get ys p) ≡ place_entry (slice_get xs p)) (sym is) (ap place_entry P.there ∙ (ap (λ w. Some (spot_number w.cursor.place)) still ∙ sym (ap place_entry B.there)))
    | inr ne ↦ ap place_entry (P.others o ne)
  ])

  -- its cursor rests
  rests : RestsAt f x.walk.shown x.walk.cursor.place x.walk.cursor.stage
  rests = walk_rests f x.held (own_of options x) (walk_of x.task) (steps_of x.task) x.walk.cursor (walk_there f options xs ps a size who x W B.there) (ap walk_of B.busy ∙ off_cursor)

  kept : KeepsFile f xs ys ps a b who y
  kept = record {
    map_stays = map_stays;
    chain_stays = chain_stays;
    longer = T.only.front.longer;
    accepted = T.accepted;
    knows = T.knows;
    members = λ o ne z there chain off on purging low member. members o z there chain off on low member;
    cursor = subst (λ w. Knows f b w.cursor.place w.cursor.stage) (sym still) (own_cursor x.walk.cursor.place x.walk.cursor.stage refl rests (subst (CursorKnows f a) B.there (F.cursors who)));
    spares = subst (λ l. OpenerSpares (is_stood l) (Some y)) (sym same_entries) L.spares;
    others_spare = λ o ne. subst (λ l. OpenerSpares (is_stood l) (slice_get xs o)) (sym same_entries) (F.spared o);
    alone = λ o ne. subst (λ w. StandApart (Some w.cursor) (cursor_at (slice_get xs o))) (sym still) (subst (λ z. StandApart (cursor_at z) (cursor_at (slice_get xs o))) B.there (F.alone who o (λ e. ne (sym e))));
    others_alone = λ o ne. subst (λ w. StandApart (cursor_at (slice_get xs o)) (Some w.cursor)) (sym still) (subst (λ z. StandApart (cursor_at (slice_get xs o)) (cursor_at z)) B.there (F.alone o who ne));
  }

  file_stands : FileStands f ys b
  file_stands = file_kept f options xs ys ps a b size who y W F P kept

pub turn_keeps_file : TurnKeepsFile
turn_keeps_file f options xs ys ps a b size who x y t v turn W F B P E T off_cursor still L = file_stands f options xs ys ps a b size who x y t v turn W F B P E T off_cursor still L
