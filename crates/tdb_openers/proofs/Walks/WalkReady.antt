-- Before a turn of a command on an opener's cursor, in a world that stands.
use Rattle.std.proofs.Common.{◌≡◌, ℕ, ◌+◌, ◌-◌, ◌/◌, ◌%◌, ◌≤◌, List, [], ◌∷◌, ◌++◌, slice_get, Bool, cond, true, false, Option, Some, None, refl, sym, ◌∙◌, ap, subst, inl, inr, arith}
use Rattle.std.specs.Prelude.{◌&&◌, is_some, nat_le, nat_lt, if◌then◌else◌}
use Rattle.std.proofs.lemmas.Bool.{cases_lt, false_from_ne_true, le-leb}
use Rattle.std.proofs.Math.Bool.{and-false}
use Rattle.tdb_space.specs.Form.{Form, data_start}
use Rattle.tdb_space.specs.Accepted.{AcceptWith}
use Rattle.tdb_locks.specs.HeldLocks.{HeldLocks}
use Rattle.tdb_locks.specs.LockTable.{held}
use Rattle.tdb_locks.specs.declared.kind.Kind.{Kind}
use Rattle.tdb_locks.specs.declared.piece.Piece.{Piece}
use Rattle.tdb_law.specs.Commands.{WalkCommand}
use Rattle.tdb_law.specs.Commands.WalkCommand.{First, Next, EndWalk, Close}
use Rattle.tdb_law.specs.Commands.Command.{OnWalk}
use Rattle.tdb_law.specs.Refusals.{chain_byte}
use Rattle.tdb_law.specs.Openers.{Own}
use Rattle.tdb_law.specs.Outcomes.{walk_moves}
use Rattle.tdb_law.specs.Rows.{Lock, walk_locks}
use Rattle.tdb_law.specs.Held.{covers, locked, kept, holding}
use Rattle.tdb_law.proofs.Covered.{holding_wide}
use Rattle.tdb_law.proofs.Locks.{within_covers}
use Rattle.tdb_walk.specs.ByteLocks.{HoldsWords, reads_all}
use Rattle.tdb_walk.specs.declared.standing.Standing.{Standing}
use Rattle.tdb_walk.specs.declared.standing.Standing.TheVariants.{Before, On, Past}
use Rattle.tdb_walk.specs.declared.stage.Stage.{Stage}
use Rattle.tdb_walk.specs.declared.stage.Goal.TheVariants as Goals
use Rattle.tdb_walk.specs.InLaw.{StandsAfter, CursorReady, CursorBefore, goal_of, is_before, is_purging, view_of}
use Rattle.tdb_walk.proofs.Viewed.{view_is_so}
use Rattle.tdb_walk.proofs.Holding.{holding_is}
use Rattle.tdb_walk.specs.Spots.{LacksCursor}
use Rattle.tdb_openers.specs.Given.{IsWellHeld}
use Rattle.tdb_commands.specs.declared.options.Options.{Options}
use Rattle.tdb_openers.specs.declared.opener.Opener.{Opener}
use Rattle.tdb_openers.specs.declared.job.Job.{Job}
use Rattle.tdb_openers.specs.declared.job.Job.TheVariants as Jobs
use Rattle.tdb_openers.specs.declared.job.Task.{Task}
use Rattle.tdb_openers.specs.Openers.{rest_of, own_of, own_at, spot_by, spot_at, task_at, walk_in, walk_of, steps_of, walk_command, hands_of_job, MayAsk, WalkAfter, WalkStands, JobStands, OpenerStands}
use Rattle.tdb_openers.specs.States.{WorldStands, FileStands}
use Rattle.tdb_openers.specs.Laws.{HasTask, other_hands}
use Rattle.tdb_openers.specs.Turning.{law_table}
use Rattle.tdb_openers.specs.Cursors.{CursorKnows}
use Rattle.tdb_openers.proofs.ExplicitLocks.Strengths.{strengths_are, explicit_of}
use Rattle.tdb_openers.proofs.Walks.Purgers.{walks_command, stage_shown}
use Rattle.tdb_openers.proofs.Walks.Rests.{walk_well}
use Rattle.tdb_openers.proofs.PlainTurns.Standing.{walk_there, opener_is_ready}
use Rattle.tdb_openers.proofs.Joining.Working.{works, image_is_ready}
use Rattle.tdb_openers.proofs.ExplicitLocks.Beside.{below_bare}
use Rattle.tdb_openers.proofs.ExplicitLocks.Granted.{between_bare, none_held_there}

-- each of these locks is of one byte, at a multiple of 4
abbrev AreWords : List Lock → Type 0
AreWords [] = Unit {0}
AreWords (l ∷ ls) = (l.start % 4 ≡ 0) × (l.end ≡ l.start + 1) × AreWords ls

locked_words : (ls : List Lock) (n b : ℕ) → AreWords ls → b % 4 ≡ 3 → locked ls n b ≡ 0
locked_words [] n b words odd = refl
locked_words (l ∷ ls) n b words odd =
    let bare : covers l b ≡ false = false_from_ne_true (covers l b) (λ e. let parts = within_covers l b e in let start = words.0 in let end = words.1 in absurd (omega (arith, parts.0, parts.1, start, end, odd))) in
    let none : (if nat_lt l.turn n && covers l b then l.strength else 0) ≡ 0 = ap (λ z. if nat_lt l.turn n && z then l.strength else 0) bare ∙ ap (λ z. if z then l.strength else 0) (and-false (nat_lt l.turn n)) in
    omega (arith, none, locked_words ls n b words.2 odd)

walk_words : (f : Form) (w : WalkCommand) (cursor : Option (List ℕ)) (z : Bool) → AreWords (walk_locks f w cursor z)
walk_words f w None z = tt
walk_words f First (Some k) false = tt
walk_words f Next (Some k) false = (omega arith, refl, tt)
walk_words f EndWalk (Some k) false = tt
walk_words f Close (Some k) false = tt
walk_words f First (Some k) true = (omega arith, refl, (refl, refl, tt))
walk_words f Next (Some k) true = (omega arith, refl, (refl, refl, tt))
walk_words f EndWalk (Some k) true = (omega arith, refl, (refl, refl, tt))
walk_words f Close (Some k) true = (omega arith, refl, (refl, refl, tt))

gone_bare : (z : Bool) (n : ℕ) → n ≡ 0 → cond z 0 n ≡ 0
gone_bare true n none = refl
gone_bare false n none = none

high_le : (b : ℕ) → 168 ≤ b → nat_le 168 b ≡ true
high_le b high = le-leb 168 b high

asked_so : (f : Form) (held : HeldLocks) (x : Own) (w : WalkCommand) (place : Standing) (stage : Stage) (gone : Bool) (n : ℕ) → StandsAfter f held x w place stage gone n → LacksCursor (goal_of w) x.cursor → ⊥
asked_so f held x w (On chain off) stage gone n S L =
    let shown = stage_shown f held x w chain off stage gone n S in
    let bad : ◌≡◌ {A = Option (List ℕ)} None (Some shown.key) = sym L.nothing ∙ shown.shown in cc bad
asked_so f held x w (Before chain) stage gone n S L =
    elim S.1 [
      | inl moved ↦ asks_moved w x L moved.1
      | inr new ↦ asks_first w L new.3
    ]
  where
    asks_moved : (w : WalkCommand) (x : Own) → LacksCursor (goal_of w) x.cursor → walk_moves w x ≡ true → ⊥
    asks_moved First x L e = let bad = L.next in cc bad
    asks_moved Next x L e = let bad : true ≡ false = sym e ∙ ap is_some L.nothing in cc bad
    asks_moved EndWalk x L e = let bad = L.next in cc bad
    asks_moved Close x L e = let bad = L.next in cc bad

    asks_first : (w : WalkCommand) → LacksCursor (goal_of w) x.cursor → w ≡ First → ⊥
    asks_first w L e = let bad : Goals.First ≡ Goals.Next = sym (ap goal_of e) ∙ L.next in cc bad
asked_so f held x w Past stage gone n S L = S.4 (is_next w L.next)
  where
    is_next : (w : WalkCommand) → goal_of w ≡ Goals.Next → w ≡ Next
    is_next First e = absurd (cc e)
    is_next Next e = refl
    is_next EndWalk e = absurd (cc e)
    is_next Close e = absurd (cc e)

pub no_hands : (job : Job) (w : WalkCommand) → walk_in job ≡ Some w → hands_of_job job ≡ []
no_hands (Jobs.Refused command reply) w e = refl
no_hands (Jobs.Plain d) w e = absurd (cc e)
no_hands (Jobs.Check checking) w e = refl
no_hands (Jobs.Locking locking) w e = refl
no_hands Jobs.Seqnum w e = refl
no_hands (Jobs.Walk walking) w e = refl

not_all : (all : Option (Kind × ℕ)) → is_some all ≡ false → all ≡ None
not_all None e = refl
not_all (Some a) e = absurd (cc e)

only_first : (a b : Bool) → a && b ≡ false → b ≡ true → a ≡ false
only_first true b e some = absurd (let bad : true ≡ false = sym some ∙ e in cc bad)
only_first false b e some = refl

-- what stands in no chain's byte, nor in one that an explicit lock of all records covers, isn't held
module _ (f : Form) (options : Options) (xs : List Opener) (ps : List Piece) (a : List ℕ) (size who : ℕ) (x : Opener) (t : Task) (w : WalkCommand)
    (W : WorldStands f options xs ps a size) (B : HasTask xs who x t) (on : walk_in t.job ≡ Some w) where
  S : WalkStands f x.held (own_of options x) (walk_of x.task) (steps_of x.task) x.walk.cursor
  S = walk_there f options xs ps a size who x W B.there

  well : IsWellHeld x.held
  well = (subst (OpenerStands f options size) B.there (W.openers_stand who)).0

  stands : StandsAfter f x.held (own_of options x) w x.walk.cursor.place x.walk.cursor.stage (is_before x.walk.cursor.place) t.steps
  stands =
      subst (λ v. WalkAfter f x.held (own_of options x) v t.steps x.walk.cursor) on
      (subst (λ u. WalkAfter f x.held (own_of options x) (walk_of u) (steps_of u) x.walk.cursor) B.busy S.stands)

  pub holds : (b : ℕ) → law_table ps who b ≡ holding f (own_of options x) (spot_by x.walk.cursor) (Some (record { command = OnWalk w; steps = t.steps })) b
  holds b =
      (opener_is_ready f options xs ps a size who x t W B).holds b
      ∙ ap (λ c. holding f (own_of options x) (spot_by x.walk.cursor) (Some (record { command = c; steps = t.steps })) b) (walks_command t.job w on)

  pub walk_ready : CursorReady f x.held (own_of options x) w x.walk.cursor (is_before x.walk.cursor.place) t.steps who ps
  walk_ready = record {
    few = W.sound.chains;
    outside = refl;
    explicit = explicit_of options x.live x.held (rest_of x.walk) well.counts;
    placed = S.placed;
    stands = stands;
    holds = λ b. ap (λ h. h who b) (strengths_are ps) ∙ holds b;
    apart = λ o b ne. subst (λ h. h who b + h o b ≤ 2) (sym (strengths_are ps)) (W.sound.apart who o b (λ e. ne (sym e)));
  }

  -- the bytes between words that it doesn't hold by a lock of all records
  kept_between : (b : ℕ) → b % 4 ≡ 3 → reads_all x.held && nat_le 168 b ≡ false → kept f (own_of options x) (spot_by x.walk.cursor) b ≡ 0
  kept_between b odd uncovered =
      let K = walk_well f x.held (own_of options x) (walk_of x.task) (steps_of x.task) x.walk.cursor S in
      elim (cases_lt b 168) [
        | inl low ↦ below_bare f W.sound.chains options x.live x.held (rest_of x.walk) well.counts K b low
        | inr high ↦ between_bare f options x.live x.held (rest_of x.walk) well.counts K ((b - 167) / 4) b (omega (arith, odd, high)) (not_all x.held.all (only_first (is_some x.held.all) (nat_le 168 b) uncovered (high_le b high)))
      ]

  pub walk_words_held : HoldsWords x.held (who + 1) ps
  walk_words_held b odd uncovered =
      let whole = holds b ∙ holding_is f w (own_of options x) (spot_by x.walk.cursor) t.steps b refl in
      let row = locked_words (walk_locks f w x.walk.shown (is_purging x.walk.cursor.stage)) t.steps b (walk_words f w x.walk.shown (is_purging x.walk.cursor.stage)) odd in
      let gone = gone_bare (is_before x.walk.cursor.place) _ row in
      let bare = kept_between b odd uncovered in
      none_held_there (held ps (who + 1) b) (whole ∙ omega (arith, gone, bare))

  -- a Next is asked of an opener with a cursor
  pub walk_asked : LacksCursor (goal_of w) x.walk.shown → ⊥
  walk_asked L = asked_so f x.held (own_of options x) w x.walk.cursor.place x.walk.cursor.stage (is_before x.walk.cursor.place) t.steps stands L

  pub walk_few : t.steps ≤ 2
  walk_few = few_of t.job on (works f options xs ps a size W who x t B).stands
    where
      few_of : (job : Job) → walk_in job ≡ Some w → JobStands f (own_of options x) job t.steps size → t.steps ≤ 2
      few_of (Jobs.Refused command reply) e K = absurd (cc e)
      few_of (Jobs.Plain d) e K = absurd (cc e)
      few_of (Jobs.Check checking) e K = absurd (cc e)
      few_of (Jobs.Locking locking) e K = absurd (cc e)
      few_of Jobs.Seqnum e K = absurd (cc e)
      few_of (Jobs.Walk walking) e K = K.0

  pub walk_may : MayAsk (own_of options x) w
  walk_may = may_of t.job on (works f options xs ps a size W who x t B).stands
    where
      may_of : (job : Job) → walk_in job ≡ Some w → JobStands f (own_of options x) job t.steps size → MayAsk (own_of options x) w
      may_of (Jobs.Refused command reply) e K = absurd (cc e)
      may_of (Jobs.Plain d) e K = absurd (cc e)
      may_of (Jobs.Check checking) e K = absurd (cc e)
      may_of (Jobs.Locking locking) e K = absurd (cc e)
      may_of Jobs.Seqnum e K = absurd (cc e)
      may_of (Jobs.Walk walking) e K = let same : walk_command walking ≡ w = cc in subst (MayAsk (own_of options x)) same K.1

  -- where the bytes of the file are told
  module _ (F : FileStands f xs a) where
    pub image_accepted : AcceptWith f a (other_hands xs who)
    image_accepted = subst (λ l. AcceptWith f a (l ++ other_hands xs who)) (no_hands t.job w on) (image_is_ready f options xs ps a size who x t W F B).accepted

    pub walk_before : (stood_on : List ℕ) → CursorBefore f x.held (own_of options x) w x.walk.cursor (is_before x.walk.cursor.place) t.steps who ps a (other_hands xs who) stood_on options.read_only
        (view_of f a x.held stood_on options.read_only (goal_of w) x.walk.cursor.place)
    walk_before stood_on = record {
      ready = walk_ready;
      view = view_is_so f a x.held stood_on options.read_only (goal_of w) x.walk.cursor.place;
      wide = λ o b k ne high. subst (λ h. 2 ≤ h o b → 2 ≤ h o (chain_byte f k)) (sym (strengths_are ps)) (wide o b k high);
      accepted = image_accepted;
      known = subst (CursorKnows f a) B.there (F.cursors who);
    }
      where
        wide : (o b : ℕ) (k : List ℕ) → data_start f ≤ b → 2 ≤ law_table ps o b → 2 ≤ law_table ps o (chain_byte f k)
        wide o b k high two =
            let all = W.sound.agrees o (chain_byte f k) in
            let here = W.sound.agrees o b in
            let more = holding_wide f W.sound.chains (own_at options (slice_get xs o)) (spot_at (slice_get xs o)) (task_at (slice_get xs o)) b k high (omega (arith, two, here)) in
            omega (arith, more, all)
