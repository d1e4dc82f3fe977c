-- One opener of a world in the place of another: what holds at each place, and what stands of the bytes of the file,
-- where they stay.
use Rattle.std.proofs.Common.{◌≡◌, ◌≢◌, ℕ, ◌≤◌, List, [], length, slice_get, Bool, true, Option, Some, None, refl, sym, ◌∙◌, ap, subst, inl, inr, ◌⊎◌, le_refl}
use Rattle.std.proofs.lemmas.Bool.{cases_eq, false_from_ne_true, false≢true}
use Rattle.tdb_space.specs.Form.{Form}
use Rattle.tdb_space.specs.Pairs.{joined}
use Rattle.tdb_space.specs.Accepted.{AcceptWith}
use Rattle.tdb_chain.specs.declared.place.Place.{Place}
use Rattle.tdb_locks.specs.declared.piece.Piece.{Piece}
use Rattle.tdb_law.specs.Openers.{View}
use Rattle.tdb_law.specs.Lines.{most_openers}
use Rattle.tdb_law.specs.Layout.{chains_in, mark_of}
use Rattle.tdb_law.proofs.Walking.{put_here, put_else}
use Rattle.tdb_law.specs.OneAside.Sides.{but_at}
use Rattle.tdb_steps.specs.declared.plain.Plain.{Plain}
use Rattle.tdb_steps.specs.declared.plain.Plain.TheVariants.{Fetch, Has, Store, Append, Delete, Wipe}
use Rattle.tdb_steps.specs.declared.stage.Stage.{Stage}
use Rattle.tdb_steps.specs.declared.stage.Stage.TheVariants.{Begun, Chained, Looked, Listed, Taken, Changed, Wiping, Ending}
use Rattle.tdb_walk.specs.Cursors.{Knows}
use Rattle.tdb_openers.specs.declared.opener.Opener.{Opener}
use Rattle.tdb_openers.specs.declared.job.Job.{Job}
use Rattle.tdb_openers.specs.declared.job.Job.TheVariants as Jobs
use Rattle.tdb_openers.specs.declared.job.Task.{Task}
use Rattle.tdb_commands.specs.declared.options.Options.{Options}
use Rattle.tdb_openers.specs.Laws.{IsPut, MayStand}
use Rattle.tdb_openers.specs.Openers.{own_of, own_at, spot_at, place_at, spots_of, task_at, law_task, hands_of_task, hands_at, TaskKnows, OpenerKnows}
use Rattle.tdb_openers.specs.States.{state_of, WorldStands, FileStands}
use Rattle.tdb_openers.specs.Cursors.{is_stood, CursorKnows, FoundSpares, StageSpares, JobSpares, TaskSpares, OpenerSpares, StandApart, cursor_at}
use Rattle.tdb_openers.proofs.Joining.AllHands.{joined_same}
use Rattle.tdb_openers.proofs.PlainTurns.Standing.{IsSet, Holds, put_set, world_set, held_still}
use Rattle.tdb_openers.proofs.Joining.Stood.{place_entry, same_spots}

-- a command that takes out no record on which cursors stand takes out none where they stand on fewer
module _ (stands fewer : ℕ → Bool) (less : (off : ℕ) → fewer off ≡ true → stands off ≡ true) where
  found_spares : (found : Option Place) → FoundSpares stands found → FoundSpares fewer found
  found_spares None S = tt
  found_spares (Some place) S = false_from_ne_true (fewer place.off) (λ e. false≢true (sym S ∙ less place.off e))

  delete_spares : (key : List ℕ) (stage : Stage) → StageSpares stands (Delete key) stage → StageSpares fewer (Delete key) stage
  delete_spares key Begun S = tt
  delete_spares key Chained S = tt
  delete_spares key (Looked found) S = found_spares found S
  delete_spares key (Listed found) S = found_spares found S
  delete_spares key (Taken found hand) S = tt
  delete_spares key (Changed hand) S = tt
  delete_spares key (Wiping locked) S = tt
  delete_spares key Ending S = tt

  stage_spares : (command : Plain) (stage : Stage) → StageSpares stands command stage → StageSpares fewer command stage
  stage_spares (Fetch key) stage S = tt
  stage_spares (Has key) stage S = tt
  stage_spares (Store key value flag) stage S = tt
  stage_spares (Append key value) stage S = tt
  stage_spares (Delete key) stage S = delete_spares key stage S
  stage_spares Wipe stage S = tt

  job_spares : (job : Job) → JobSpares stands job → JobSpares fewer job
  job_spares (Jobs.Refused command reply) S = tt
  job_spares (Jobs.Plain d) S = stage_spares d.command d.stage S
  job_spares (Jobs.Check checking) S = tt
  job_spares (Jobs.Locking locking) S = tt
  job_spares Jobs.Seqnum S = tt
  job_spares (Jobs.Walk walking) S = tt

  task_spares : (task : Option Task) → TaskSpares stands task → TaskSpares fewer task
  task_spares None S = tt
  task_spares (Some t) S = job_spares t.job S

  opener_spares : (z : Option Opener) → OpenerSpares stands z → OpenerSpares fewer z
  opener_spares None S = tt
  opener_spares (Some x) S = task_spares x.task S

module _ (xs ys : List Opener) (who : ℕ) (y : Opener) (S : IsSet xs who y ys) where
  -- what holds of each opener
  pub at_each : (Q : ℕ → Option Opener → Type 0) → Q who (Some y) → ((o : ℕ) → o ≢ who → Q o (slice_get xs o)) → (o : ℕ) → Q o (slice_get ys o)
  at_each Q its others o =
      elim (cases_eq o who) [
        | inl is ↦ subst (λ p. Q p (slice_get ys p)) (sym is) (subst (Q who) (sym S.there) its)
        | inr ne ↦ subst (Q o) (sym (S.others o ne)) (others o ne)
      ]

  -- the records that commands hold, where this one holds as many
  pub hands_set : length ys ≡ length xs → hands_at (Some y) ≡ hands_at (slice_get xs who) → joined (length ys) (λ o. hands_at (slice_get ys o)) ≡ joined (length xs) (λ o. hands_at (slice_get xs o))
  hands_set same its =
      ap (λ n. joined n (λ o. hands_at (slice_get ys o))) same
      ∙ joined_same (length xs) (λ o. hands_at (slice_get xs o)) (λ o. hands_at (slice_get ys o)) (λ o low. at_each (λ o z. hands_at z ≡ hands_at (slice_get xs o)) its (λ o ne. refl) o)

  -- the bytes stand where they stood, commands hold the same records and cursors stand on no others
  pub file_set : (f : Form) (a : List ℕ) → FileStands f xs a → joined (length ys) (λ o. hands_at (slice_get ys o)) ≡ joined (length xs) (λ o. hands_at (slice_get xs o))
      → ((off : ℕ) → is_stood (spots_of ys) off ≡ true → is_stood (spots_of xs) off ≡ true) → TaskKnows f a y.task → Knows f a y.walk.cursor.place y.walk.cursor.stage → TaskSpares (is_stood (spots_of ys)) y.task
      → ((o : ℕ) → o ≢ who → StandApart (Some y.walk.cursor) (cursor_at (slice_get xs o)) × StandApart (cursor_at (slice_get xs o)) (Some y.walk.cursor)) → FileStands f ys a
  file_set f a F hands less knows cursor spares apart = record {
    accepted = subst (AcceptWith f a) (sym hands) F.accepted;
    known = at_each (λ o z. OpenerKnows f a z) knows (λ o ne. F.known o);
    cursors = at_each (λ o z. CursorKnows f a z) cursor (λ o ne. F.cursors o);
    spared = at_each (λ o z. OpenerSpares (is_stood (spots_of ys)) z) spares (λ o ne. opener_spares (is_stood (spots_of xs)) (is_stood (spots_of ys)) less (slice_get xs o) (F.spared o));
    alone = λ o p ne. at_each (λ o z. o ≢ p → StandApart (cursor_at z) (cursor_at (slice_get ys p))) (its_alone p) (other_alone p) o ne;
  }
    where
      its_alone : (p : ℕ) → who ≢ p → StandApart (Some y.walk.cursor) (cursor_at (slice_get ys p))
      its_alone p = at_each (λ p z. who ≢ p → StandApart (Some y.walk.cursor) (cursor_at z)) (λ ne. absurd (ne refl)) (λ p ne other. (apart p ne).0) p

      other_alone : (p o : ℕ) → o ≢ who → o ≢ p → StandApart (cursor_at (slice_get xs o)) (cursor_at (slice_get ys p))
      other_alone p o other = at_each (λ p z. o ≢ p → StandApart (cursor_at (slice_get xs o)) (cursor_at z)) (λ ne. (apart o other).1) (λ p still ne. F.alone o p ne) p

-- The opener at a place, where another one with its cursor is put there and no lock changes.
module _ (xs ys : List Opener) (who : ℕ) (x y : Opener) (found : slice_get xs who ≡ Some x) (P : IsPut xs who y ys) where
  set : IsSet xs who y ys
  set = put_set xs ys who y P

  -- what is told of each opener, where it is told alike of both; and else
  pub same_at : {A : Type 0} (g : Option Opener → A) → g (Some y) ≡ g (Some x) → (o : ℕ) → g (slice_get ys o) ≡ g (slice_get xs o)
  same_at g same = at_each xs ys who y set (λ o z. g z ≡ g (slice_get xs o)) (same ∙ sym (ap g found)) (λ o ne. refl)

  pub other_at : {A : Type 0} (g : Option Opener → A) (o : ℕ) → g (slice_get ys o) ≡ but_at who (g (Some y)) (λ p. g (slice_get xs p)) o
  other_at g = at_each xs ys who y set (λ o z. g z ≡ but_at who (g (Some y)) (λ p. g (slice_get xs p)) o) (sym (put_here (λ p. g (slice_get xs p)) who (g (Some y)) who refl)) (λ o ne. sym (put_else (λ p. g (slice_get xs p)) who (g (Some y)) o ne))

  -- where it holds what is held for it, the world stands, whatever the bytes of its file are
  pub world_replaced : (f : Form) (options : Options) (ps : List Piece) (a : List ℕ) (size : ℕ) → WorldStands f options xs ps a size → ((b : ℕ) → Holds f options ps who (Some y) b) → MayStand f options size y → WorldStands f options ys ps a size
  world_replaced f options ps a size W holds M =
      world_set f options xs ys ps ps a a size size who y W set (held_still f options xs ps a size who y W holds) M (le_refl size) (subst (λ n. n ≤ most_openers) (sym P.same_length) W.few) W.short

  module _ (walk : y.walk ≡ x.walk) where
    pub same_entries : spots_of ys ≡ spots_of xs
    same_entries = same_spots xs ys (same_at place_entry (ap (λ w. place_entry (Some (record x { walk = w }))) walk))

    same_cursor : cursor_at (Some y) ≡ cursor_at (slice_get xs who)
    same_cursor = ap (λ w. Some w.cursor) walk ∙ sym (ap cursor_at found)

    -- and so do they, where it has the same command, or has none in the place of one that held no record
    pub file_replaced : (f : Form) (a : List ℕ) → (y.task ≡ x.task) ⊎ ((y.task ≡ None) × (hands_of_task x.task ≡ [])) → FileStands f xs a → FileStands f ys a
    file_replaced f a left F =
        file_set xs ys who y set f a F (hands_set xs ys who y set P.same_length (same_hands ∙ sym (ap hands_at found))) (λ off e. subst (λ l. is_stood l off ≡ true) same_entries e)
        (by_task (TaskKnows f a) tt (subst (OpenerKnows f a) found (F.known who)))
        (subst (λ w. Knows f a w.cursor.place w.cursor.stage) (sym walk) (subst (CursorKnows f a) found (F.cursors who)))
        (subst (λ l. TaskSpares (is_stood l) y.task) (sym same_entries) (by_task (TaskSpares (is_stood (spots_of xs))) tt (subst (OpenerSpares (is_stood (spots_of xs))) found (F.spared who))))
        (λ o ne. (subst (λ z. StandApart z (cursor_at (slice_get xs o))) (sym same_cursor) (F.alone who o (λ e. ne (sym e))), subst (StandApart (cursor_at (slice_get xs o))) (sym same_cursor) (F.alone o who ne)))
      where
        by_task : (Q : Option Task → Type 0) → Q None → Q x.task → Q y.task
        by_task Q none q = elim left [ inl same ↦ subst Q (sym same) q | inr gone ↦ subst Q (sym gone.0) none ]

        same_hands : hands_of_task y.task ≡ hands_of_task x.task
        same_hands = elim left [ inl same ↦ ap hands_of_task same | inr gone ↦ ap hands_of_task gone.0 ∙ sym gone.1 ]

    -- in the law's words only its command changes, what it has, and what the file adds to cursors
    pub state_replaced : (f : Form) (options : Options) (ps : List Piece) (img : List ℕ) (views : ℕ → View) → let old = state_of f options xs ps img in
        record (state_of f options ys ps img) { view = views } ≡ record old { task = but_at who (law_task y.task) old.task; own = but_at who (own_of options y) old.own; view = views }
    state_replaced f options ps img views = λ i. record (state_of f options xs ps img) {
      joined = P.same_length i;
      task = λ o. other_at task_at o i;
      own = λ o. other_at (own_at options) o i;
      spot = λ o. same_at spot_at (ap (λ w. spot_at (Some (record x { walk = w }))) walk) o i;
      mark = λ o. mark_of f (chains_in f img) (same_at place_at (ap (λ w. place_at (Some (record x { walk = w }))) walk) o i);
      view = views;
    }
