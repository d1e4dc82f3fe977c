-- A turn of an opener whose command is on no cursor is a turn of the law: its cursor stays, and so do those of others.
use Rattle.std.proofs.Common.{◌≡◌, ℕ, List, slice_get, set, Bool, true, false, ◌==◌, is_some, Option, Some, None, refl, sym, ◌∙◌, ap, subst, inl, inr}
use Rattle.std.proofs.lemmas.Bool.{cases_eq}
use Rattle.std.specs.Prelude.{◌&&◌, if◌then◌else◌}
use Rattle.std.proofs.Math.Bool.{and-false}
use Rattle.tdb_words.specs.Word.{word}
use Rattle.tdb_space.specs.Form.{Form}
use Rattle.tdb_locks.specs.declared.piece.Piece.{Piece}
use Rattle.tdb_law.specs.Commands.{Command, Reply, Turn, is_done}
use Rattle.tdb_law.specs.Commands.WalkCommand.{Next}
use Rattle.tdb_law.specs.Commands.Turn.{Step, Blocked, Ends}
use Rattle.tdb_law.specs.Commands.Command.{OnMap, OnLocks, Seqnum, OnGroup, OnWalk}
use Rattle.tdb_law.specs.Openers.{Own, Spot, View, seen}
use Rattle.tdb_law.specs.Refusals.{Refusal, refusal}
use Rattle.tdb_law.specs.Outcomes.{moves_by, moves}
use Rattle.tdb_law.specs.Counting.{settles_by, settled_after, image_number_by, image_number_after, number_seen}
use Rattle.tdb_law.specs.Ends.{IsRow}
use Rattle.tdb_law.specs.Held.{holding, wanted, decided}
use Rattle.tdb_law.specs.Effects.{Effect, IsFree, IsFirstConflict, Finds, SpotLeft}
use Rattle.tdb_law.specs.Effects.Stays.{stands_still}
use Rattle.tdb_law.specs.Walks.{Lost, Shift, Walked}
use Rattle.tdb_law.specs.Walks.Walked.{walk_steps, walk_rests, walk_ends}
use Rattle.tdb_law.specs.Images.{image_map}
use Rattle.tdb_law.specs.Turned.{number_next}
use Rattle.tdb_commands.specs.declared.options.Options.{Options}
use Rattle.tdb_openers.specs.declared.opener.Opener.{Opener}
use Rattle.tdb_openers.specs.declared.job.Job.{Job}
use Rattle.tdb_openers.specs.declared.job.Job.TheVariants as Jobs
use Rattle.tdb_openers.specs.declared.job.Task.{Task}
use Rattle.tdb_law.specs.Layout.{chains_in, mark_of}
use Rattle.tdb_walk.specs.InLaw.{must_purge}
use Rattle.tdb_walk.specs.Again.{RestsAt}
use Rattle.tdb_walk.proofs.Holding.{granted}
use Rattle.tdb_openers.specs.Openers.IsRefused.{refuses, has_ended}
use Rattle.tdb_openers.specs.Openers.{rest_of, own_of, own_at, spot_by, spot_at, place_at, spots_of, task_at, command_in, walk_in, walk_of, steps_of, law_task, IsRefused, JobStands}
use Rattle.tdb_openers.specs.States.{state_of, view_for, view_under, view_at, WorldStands}
use Rattle.tdb_openers.specs.Turning.{law_table, resting, TurnsWalk}
use Rattle.tdb_openers.specs.Laws.{HasTask, IsPut, TurnIsTurned, view_in}
use Rattle.tdb_openers.proofs.Walks.Rests.{spot_rests, rests_past, walk_rests as rests_there}
use Rattle.tdb_openers.proofs.PlainTurns.Standing.{walk_there}
use Rattle.tdb_openers.proofs.Joining.Single.{either}
use Rattle.tdb_openers.proofs.Joining.Working.{works}

-- the command neither moves a cursor, nor settles the world, nor counts in an image
record Simple (f : Form) (c : Command) (x : Own) : Type 0 where
  still : moves f c x ≡ false
  unsettling : settles_by (refusal f c x) c x ≡ false
  uncounted : (q : ℕ) → image_number_by (refusal f c x) c x q 0 ≡ 0

module _ (f : Form) (options : Options) (x : Opener) where
  refused_simple : (c : Command) (why : Refusal) → refusal f c (own_of options x) ≡ Some why → Simple f c (own_of options x)
  refused_simple c why e = record {
    still = ap (λ r. moves_by r c (own_of options x)) e;
    unsettling = ap (λ r. settles_by r c (own_of options x)) e;
    uncounted = λ q. ap (λ r. image_number_by r c (own_of options x) q 0) e;
  }

  granted_simple : (c : Command) → refusal f c (own_of options x) ≡ None → moves_by None c (own_of options x) ≡ false → settles_by None c (own_of options x) ≡ false
      → ((q : ℕ) → image_number_by None c (own_of options x) q 0 ≡ 0) → Simple f c (own_of options x)
  granted_simple c e m s i = record {
    still = ap (λ r. moves_by r c (own_of options x)) e ∙ m;
    unsettling = ap (λ r. settles_by r c (own_of options x)) e ∙ s;
    uncounted = λ q. ap (λ r. image_number_by r c (own_of options x) q 0) e ∙ i q;
  }

  next_simple : x.walk.shown ≡ None → Simple f (OnWalk Next) (own_of options x)
  next_simple none = granted_simple (OnWalk Next) (granted f Next (own_of options x) refl) (ap is_some none) refl (λ q. refl)

  answered_simple : (c : Command) (r : Reply) → IsRefused f (own_of options x) c r → Simple f c (own_of options x)
  answered_simple c r (refuses why is says) = refused_simple c why is
  answered_simple c r (has_ended is out none says) = subst (λ d. Simple f d (own_of options x)) (sym is) (next_simple none)

  simple : (job : Job) (n size : ℕ) → walk_in job ≡ None → JobStands f (own_of options x) job n size → Simple f (command_in job) (own_of options x)
  simple (Jobs.Refused command reply) n size off K = answered_simple (command_in (Jobs.Refused command reply)) _ K.1
  simple (Jobs.Plain d) n size off K = granted_simple (command_in (Jobs.Plain d)) K.granted refl refl (λ q. refl)
  simple (Jobs.Check checking) n size off K = granted_simple (command_in (Jobs.Check checking)) K.0 refl refl (λ q. refl)
  simple (Jobs.Locking locking) n size off K = granted_simple (command_in (Jobs.Locking locking)) K.1 refl refl (λ q. refl)
  simple Jobs.Seqnum n size off K = granted_simple (command_in Jobs.Seqnum) K.1 refl refl (λ q. refl)
  simple (Jobs.Walk walking) n size off K = absurd (cc off)

-- what is decided of a cursor that doesn't purge, where nothing has to be purged
decided_still : (a : Spot) (v : View) (n : ℕ) → a.purging ≡ false → v.must ≡ false → decided a v n ≡ a
decided_still a v n still none = ap (λ p. record a { purging = p }) (either (n == 0) v.must a.purging (none ∙ sym still))

-- a cursor that rests stays where it stood
spot_left : (f : Form) (table want : ℕ → ℕ) (c : Command) (n : ℕ) (x y : Own) (a b : Spot) (v : View) (turn : Turn) → b ≡ a → a.purging ≡ false → a.gone ≡ false → v.must ≡ false → x.txn ≡ None → y.txn ≡ None → y.cursor ≡ x.cursor
    → SpotLeft f table want c n x y a v b turn
spot_left f table want c n x y a b v Step same still kept none out out_later shown = same ∙ sym (decided_still a v n still none)
spot_left f table want c n x y a b v (Blocked o byte) same still kept none out out_later shown = inl same
spot_left f table want c n x y a b v (Ends r) same still kept none out out_later shown = (stands_still out out_later shown (ap (λ (s : Spot). s.stands) same), ap (λ (s : Spot). s.gone) same ∙ kept)

settled_still : (f : Form) (c : Command) (x : Own) (n : ℕ) (turn : Turn) → Simple f c x → false ≡ settled_after f c x n turn false
settled_still f c x n Step S = sym (either _ false false refl)
settled_still f c x n (Blocked o byte) S = refl
settled_still f c x n (Ends r) S = sym (ap (λ z. if is_done r && z then true else false) S.unsettling ∙ ap (λ z. if z then true else false) (and-false (is_done r)))

uncounted_still : (f : Form) (c : Command) (x : Own) (turn : Turn) (q : ℕ) → Simple f c x → 0 ≡ image_number_after f c x turn q 0
uncounted_still f c x Step q S = refl
uncounted_still f c x (Blocked o byte) q S = refl
uncounted_still f c x (Ends r) q S = sym (either (is_done r) (image_number_by (refusal f c x) c x q 0) 0 (S.uncounted q))

-- a command on no cursor never has to purge a record; nor has a Next without a cursor
module _ (f : Form) (options : Options) (img stood_on : List ℕ) (x : Opener) (R : RestsAt f x.walk.shown x.walk.cursor.place x.walk.cursor.stage) where
  answer_spares : (c : Command) (r : Reply) → IsRefused f (own_of options x) c r → (view_for f options img stood_on x c).must ≡ false
  answer_spares (OnMap c) r I = refl
  answer_spares (OnLocks c) r I = refl
  answer_spares Seqnum r I = refl
  answer_spares (OnGroup g) r I = refl
  answer_spares (OnWalk w) r (refuses why is says) = absurd (let bad = sym (granted f w (own_of options x) refl) ∙ is in cc bad)
  answer_spares (OnWalk w) r (has_ended is out none says) = ap (λ p. must_purge f img x.held stood_on options.read_only p) (rests_past f x.walk.shown x.walk.cursor.place x.walk.cursor.stage R none)

  nothing_due : (job : Job) (n size : ℕ) → walk_in job ≡ None → JobStands f (own_of options x) job n size → (view_for f options img stood_on x (command_in job)).must ≡ false
  nothing_due (Jobs.Refused command reply) n size off K = answer_spares (command_in (Jobs.Refused command reply)) _ K.1
  nothing_due (Jobs.Plain d) n size off K = refl
  nothing_due (Jobs.Check checking) n size off K = refl
  nothing_due (Jobs.Locking locking) n size off K = refl
  nothing_due Jobs.Seqnum n size off K = refl
  nothing_due (Jobs.Walk walking) n size off K = absurd (cc off)

module _ (f : Form) (options : Options) (xs ys : List Opener) (ps qs : List Piece) (a b : List ℕ) (size who : ℕ) (x y : Opener) (t : Task) where
  -- the effect of the turn, by what is wanted and by the opener before it and after it
  abbrev EffectAt : Turn → Spot → View → Option Opener → Option Opener → Type 0
  EffectAt turn s v z w = Effect f (IsFree (law_table ps) who (λ i. wanted f (command_in t.job) (own_at options z) (decided s v t.steps) v t.steps i))
      (IsFirstConflict (law_table ps) who (λ i. wanted f (command_in t.job) (own_at options z) (decided s v t.steps) v t.steps i))
      (Finds f (law_table ps who) (λ i. wanted f (command_in t.job) (own_at options z) (decided s v t.steps) v t.steps i) (seen (own_at options z) (image_map f a))) (number_seen (own_at options z) (word f.order a 48) 0)
      (command_in t.job) t.steps (own_at options z) (image_map f a) turn (own_at options w) (image_map f b)

  module _ (W : WorldStands f options xs ps a size) (B : HasTask xs who x t) (P : IsPut xs who y ys) (off_cursor : walk_in t.job ≡ None) (still : y.walk ≡ x.walk) where
    rests : RestsAt f x.walk.shown x.walk.cursor.place x.walk.cursor.stage
    rests = rests_there f x.held (own_of options x) (walk_of x.task) (steps_of x.task) x.walk.cursor (walk_there f options xs ps a size who x W B.there) (ap walk_of B.busy ∙ off_cursor)

    its_stands : JobStands f (own_of options x) t.job t.steps size
    its_stands = (works f options xs ps a size W who x t B).stands

    its_simple : Simple f (command_in t.job) (own_at options (slice_get xs who))
    its_simple = subst (λ z. Simple f (command_in t.job) (own_at options z)) (sym B.there) (simple f options x t.job t.steps size off_cursor its_stands)

    -- every cursor stays
    same_spot : (o : ℕ) → spot_at (slice_get ys o) ≡ spot_at (slice_get xs o)
    same_spot o = elim (cases_eq o who) [
      | inl is ↦ subst (λ p. spot_at (slice_get ys p) ≡ spot_at (slice_get xs p)) (sym is) (ap spot_at P.there ∙ (ap (λ w. spot_at (Some (record x { walk = w }))) still ∙ sym (ap spot_at B.there)))
      | inr ne ↦ ap spot_at (P.others o ne)
    ]

    same_place : (o : ℕ) → place_at (slice_get ys o) ≡ place_at (slice_get xs o)
    same_place o = elim (cases_eq o who) [
      | inl is ↦ subst (λ p. place_at (slice_get ys p) ≡ place_at (slice_get xs p)) (sym is) (ap place_at P.there ∙ (ap (λ w. place_at (Some (record x { walk = w }))) still ∙ sym (ap place_at B.there)))
      | inr ne ↦ ap place_at (P.others o ne)
    ]

    own_spot : spot_at (slice_get xs who) ≡ resting (rest_of x.walk)
    own_spot = ap spot_at B.there ∙ spot_rests f x.walk rests

    own_view : view_at f options a (set (spots_of xs) who 0) (slice_get xs who) ≡ view_in f options xs a who x t
    own_view = ap (view_at f options a (set (spots_of xs) who 0)) B.there ∙ ap (λ u. view_under f options a (set (spots_of xs) who 0) x (law_task u)) B.busy

    module _ (turn : Turn) (K : (o : ℕ) → TurnsWalk f (own_of options x) (command_in t.job) t.steps turn a b (place_at (slice_get xs o))) where
      shifts : (o : ℕ) (mine : Bool) → Shift f (Lost f (command_in t.job) t.steps (own_at options (slice_get xs who)) turn mine (mark_of f (chains_in f a) (place_at (slice_get xs o))))
          (mark_of f (chains_in f a) (place_at (slice_get xs o))) (mark_of f (chains_in f b) (place_at (slice_get ys o)))
      shifts o mine =
          subst (λ z. Shift f (Lost f (command_in t.job) t.steps (own_at options z) turn mine (mark_of f (chains_in f a) (place_at (slice_get xs o)))) (mark_of f (chains_in f a) (place_at (slice_get xs o))) (mark_of f (chains_in f b) (place_at (slice_get ys o)))) (sym B.there)
          (subst (λ p. Shift f (Lost f (command_in t.job) t.steps (own_of options x) turn mine (mark_of f (chains_in f a) (place_at (slice_get xs o)))) (mark_of f (chains_in f a) (place_at (slice_get xs o))) (mark_of f (chains_in f b) p)) (sym (same_place o)) (K o mine))

    walks : (turn : Turn) → ((o : ℕ) → TurnsWalk f (own_of options x) (command_in t.job) t.steps turn a b (place_at (slice_get xs o)))
        → Walked f (state_of f options xs ps a) (state_of f options ys qs b) who (command_in t.job) t.steps turn
    walks Step K = walk_steps refl (shifts Step K who true)
    walks (Blocked o byte) K = walk_rests o byte refl (ap (λ (s : Spot). s.gone) (same_spot who)) (shifts (Blocked o byte) K who true)
    walks (Ends r) K = walk_ends r refl its_simple.still (λ e. shifts (Ends r) K who true)

pub turn_is_turned : TurnIsTurned
turn_is_turned f options xs ys ps qs a b size who x y t turn W B P T E off_cursor still K = record {
  mine = ap task_at B.there ∙ ap law_task B.busy;
  joined = P.same_length;
  others = λ o ne. ap task_at (P.others o ne);
  others_own = λ o ne. ap (own_at options) (P.others o ne);
  others_spot = λ o ne. ap spot_at (P.others o ne);
  others_hold = λ o i ne. T.others o i ne;
  others_number = λ o ne. refl;
  others_walk = λ o ne. shifts f options xs ys ps qs a b size who x y t W B P off_cursor still turn K o false;
  row = subst (λ z. IsRow f (command_in t.job) (own_at options z) t.steps turn) (sym B.there) T.row;
  leaves = ap task_at P.there ∙ T.leaves;
  leaves_spot = spot_left f _ _ _ _ (own_at options (slice_get xs who)) (own_at options (slice_get ys who)) (spot_at (slice_get xs who)) (spot_at (slice_get ys who)) (view_at f options a (set (spots_of xs) who 0) (slice_get xs who)) turn
      (same_spot f options xs ys ps qs a b size who x y t W B P off_cursor still who) (ap (λ (s : Spot). s.purging) spot) (ap (λ (s : Spot). s.gone) spot)
      (ap (λ (v : View). v.must) view ∙ nothing_due f options a (set (spots_of xs) who 0) x (rests f options xs ys ps qs a b size who x y t W B P off_cursor still) t.job t.steps size off_cursor (its_stands f options xs ys ps qs a b size who x y t W B P off_cursor still))
      (ap (λ z. (own_at options z).txn) B.there) (ap (λ z. (own_at options z).txn) P.there)
      (ap (λ z. (own_at options z).cursor) P.there ∙ (ap (λ w. w.shown) still ∙ sym (ap (λ z. (own_at options z).cursor) B.there)));
  effect =
      subst (λ v. EffectAt f options xs ys ps qs a b size who x y t turn (spot_at (slice_get xs who)) v (slice_get xs who) (slice_get ys who)) (sym view)
      (subst (λ s. EffectAt f options xs ys ps qs a b size who x y t turn s (view_in f options xs a who x t) (slice_get xs who) (slice_get ys who)) (sym (ap spot_at B.there))
      (subst (λ z. EffectAt f options xs ys ps qs a b size who x y t turn (spot_by x.walk.cursor) (view_in f options xs a who x t) z (slice_get ys who)) (sym B.there)
      (subst (λ w. EffectAt f options xs ys ps qs a b size who x y t turn (spot_by x.walk.cursor) (view_in f options xs a who x t) (Some x) w) (sym P.there) E.effect)));
  holds = λ i. T.holds i ∙ sym (ap (λ z. holding f (own_at options z) (spot_at z) (task_at z) i) P.there);
  walks = walks f options xs ys ps qs a b size who x y t W B P off_cursor still turn K;
  ready = refl;
  stale = refl;
  settled = settled_still f (command_in t.job) (own_at options (slice_get xs who)) t.steps turn plain;
  number = subst (λ z. word f.order b 48 ≡ number_next f (command_in t.job) t.steps (own_at options z) turn (word f.order a 48) 0) (sym B.there) E.number;
  image_number = uncounted_still f (command_in t.job) (own_at options (slice_get xs who)) turn (word f.order a 48) plain;
}
  where
    plain : Simple f (command_in t.job) (own_at options (slice_get xs who))
    plain = its_simple f options xs ys ps qs a b size who x y t W B P off_cursor still

    spot : spot_at (slice_get xs who) ≡ resting (rest_of x.walk)
    spot = own_spot f options xs ys ps qs a b size who x y t W B P off_cursor still

    view : view_at f options a (set (spots_of xs) who 0) (slice_get xs who) ≡ view_in f options xs a who x t
    view = own_view f options xs ys ps qs a b size who x y t W B P off_cursor still
