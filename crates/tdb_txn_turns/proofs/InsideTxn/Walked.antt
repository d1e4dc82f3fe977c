-- What a cursor comes to inside a transaction, in the words of the law.
use Rattle.std.proofs.Common.{◌≡◌, ℕ, ◌^◌, length, ◌<◌, ◌≤◌, max, List, Bool, true, false, Option, Some, None, is_some, refl, sym, ◌∙◌, ap, subst, inl, arith}
use Rattle.std.specs.Prelude.{[], ◌&&◌, if◌then◌else◌}
use Rattle.std.proofs.lemmas.Bool.{false≢true}
use Rattle.tdb_space.specs.Form.{Form}
use Rattle.tdb_space.specs.Accepted.{AcceptWith}
use Rattle.tdb_law.specs.Commands.{Reply, WalkCommand, is_done, is_first}
use Rattle.tdb_law.specs.Commands.WalkCommand.{First, Next, EndWalk, Close}
use Rattle.tdb_law.specs.Commands.Command.{OnWalk}
use Rattle.tdb_law.specs.Commands.Reply.{Done, End, Memory}
use Rattle.tdb_law.specs.Commands.Turn.{Ends}
use Rattle.tdb_law.specs.Openers.{Own, Txn, Map, Mark, nowhere, seen}
use Rattle.tdb_law.specs.Refusals.{refusal, chain_byte}
use Rattle.tdb_law.specs.Rows.{Lock, locks, locks_by, is_changed, changed_by}
use Rattle.tdb_law.specs.Outcomes.{moves, moves_by, walk_moves, counts_by, told_by, map_by, key_shown, own_after, own_by, own_spared, reads_by}
use Rattle.tdb_law.specs.Ends.{ends_by, starves, starves_by}
use Rattle.tdb_law.specs.World.{HasFewChains}
use Rattle.tdb_law.specs.Counting.{number_by, image_number_by, number_seen}
use Rattle.tdb_law.specs.Effects.{Effect, IsFree, IsFirstConflict, IsReady, Finds}
use Rattle.tdb_law.specs.Effects.Effect.{effect_answers, effect_shows, effect_starves}
use Rattle.tdb_law.specs.Effects.Finds.{finds_pair, finds_end}
use Rattle.tdb_law.specs.Walks.{Lost, Shift, begins}
use Rattle.tdb_walk.specs.declared.stage.Goal.{Goal}
use Rattle.tdb_walk.specs.declared.stage.Goal.TheVariants as Goals
use Rattle.tdb_law.specs.Images.{image_map}
use Rattle.tdb_steps.specs.Turns.{number_of}
use Rattle.tdb_txn.specs.Pages.{byte_over, length_filled}
use Rattle.tdb_txn.specs.Txn.{txn_pages, txn_size}
use Rattle.tdb_walk.specs.declared.walk.Walk.{Walk}
use Rattle.tdb_txn_turns.specs.declared.inside_txn.own_txn.OwnTxn.{OwnTxn}
use Rattle.tdb_txn_turns.specs.InsideTxn.OwnTxns.{SameTxn, form_of, image_of, law_txn, own_inside}
use Rattle.tdb_txn_turns.specs.InsideTxn.Turns.{ReadsAll, TurnsInside}
use Rattle.tdb_txn_turns.specs.InsideTxn.Walks.{ArrivesInside, CursorCame, CursorDone, FinishesInside, RestsIn, RestsInside, WalkedInside, WalksInside, command_for, is_leave, mark_in, with_cursor}
use Rattle.tdb_txn_turns.specs.InsideTxn.Walks.CursorCame.{comes, passes, starves as starved, leaves, stays}
use Rattle.tdb_txn_turns.specs.InsideTxn.Walks.WalkedInside.{shifts, arrives, finishes, fails}
use Rattle.tdb_txn_turns.proofs.InsideTxn.Inside.{answered, inside_of, same_either}
use Rattle.tdb_txn_turns.proofs.InsideTxn.Lifted.{reads_chain}
use Rattle.tdb_txn_turns.proofs.InsideTxn.Turned.{same_own}

-- an opener inside a transaction that isn't prepared, with a cursor that shows this key
module _ (f : Form) (x : Own) (t : Txn) (unprepared : t.prepared ≡ None) where
  abbrev pub showing : Option (List ℕ) → Own
  showing key = record x { txn = Some t; cursor = key }

  granted : (key : Option (List ℕ)) (w : WalkCommand) → refusal f (OnWalk w) (showing key) ≡ None
  unfolding refusal
  granted key First = rw unprepared refl
  granted key Next = rw unprepared refl
  granted key EndWalk = rw unprepared refl
  granted key Close = refl

  unchanged : (key : Option (List ℕ)) (w : WalkCommand) → is_changed f (OnWalk w) (showing key) 0 ≡ false
  unfolding is_changed
  unchanged key w = ap (λ q. changed_by q (OnWalk w) (showing key) 0) (granted key w)

  ready : (key : Option (List ℕ)) (w : WalkCommand) → IsReady f (OnWalk w) (showing key) 0
  ready key w k e = absurd (false≢true (sym (ap (λ q. reads_by q (OnWalk w) (showing key) k) (granted key w)) ∙ e))

  moves_as : (key : Option (List ℕ)) (w : WalkCommand) → moves f (OnWalk w) (showing key) ≡ walk_moves w (showing key)
  moves_as key w = ap (λ q. moves_by q (OnWalk w) (showing key)) (granted key w)

  starves_as : (key : Option (List ℕ)) (w : WalkCommand) → starves f (OnWalk w) (showing key) ≡ starves_by None (OnWalk w) (showing key)
  starves_as key w = ap (λ q. starves_by q (OnWalk w) (showing key)) (granted key w)

  own_as : (key : Option (List ℕ)) (w : WalkCommand) (r : Reply) (file : Map) → own_after f (OnWalk w) (showing key) 0 r file ≡ own_by f None (OnWalk w) (showing key) 0 r file
  own_as key w r file = ap (λ q. own_by f q (OnWalk w) (showing key) 0 r file) (granted key w)

  -- a Next is asked for where a pair was shown
  abbrev pub HasShown : Goal → Option (List ℕ) → Type 0
  HasShown goal key = goal ≡ Goals.Next → is_some key ≡ true

  moving : (goal : Goal) (key : Option (List ℕ)) → HasShown goal key → is_leave goal ≡ false → moves f (OnWalk (command_for goal)) (showing key) ≡ true
  moving Goals.First key has_shown e = moves_as key First
  moving Goals.Next key has_shown e = moves_as key Next ∙ has_shown refl
  moving Goals.Leave key has_shown e = absurd (false≢true (sym e))

  still : (goal : Goal) (key : Option (List ℕ)) → is_leave goal ≡ true → moves f (OnWalk (command_for goal)) (showing key) ≡ false
  still Goals.First key e = absurd (false≢true e)
  still Goals.Next key e = absurd (false≢true e)
  still Goals.Leave key e = moves_as key EndWalk

  begun : (goal : Goal) (key : Option (List ℕ)) → begins f (OnWalk (command_for goal)) (showing key) nowhere ≡ is_first (OnWalk (command_for goal))
  begun Goals.First key = ap (λ z. z && true) (moves_as key First)
  begun Goals.Next key = refl
  begun Goals.Leave key = refl

  own_moved : (goal : Goal) (was now : Option (List ℕ)) (r : Reply) (file : Map) → is_leave goal ≡ false → now ≡ key_shown r → showing now ≡ own_after f (OnWalk (command_for goal)) (showing was) 0 r file
  own_moved Goals.First was now r file e is = ap showing is ∙ sym (own_as was First r file)
  own_moved Goals.Next was now r file e is = ap showing is ∙ sym (own_as was Next r file)
  own_moved Goals.Leave was now r file e is = absurd (false≢true (sym e))

  spares : (goal : Goal) (was now : Option (List ℕ)) → HasShown goal was → is_leave goal ≡ false → now ≡ None → (starves f (OnWalk (command_for goal)) (showing was) ≡ true) × (showing now ≡ own_spared (OnWalk (command_for goal)) (showing was))
  spares Goals.First was now has_shown e is = (starves_as was First, ap showing is)
  spares Goals.Next was now has_shown e is = (starves_as was Next ∙ has_shown refl, ap showing is)
  spares Goals.Leave was now has_shown e is = absurd (false≢true (sym e))

  -- the effect of its turn
  module _ (few : HasFewChains f) (table : ℕ → ℕ → ℕ) (who : ℕ) (want : ℕ → ℕ) (file : Map) (free : IsFree table who want) (reads : ReadsAll table who) (number : ℕ) where
    abbrev Effected : Goal → Option (List ℕ) → Option (List ℕ) → Reply → Type 0
    Effected goal was now r =
        Effect f (IsFree table who want) (IsFirstConflict table who want) (Finds f (table who) want (seen (showing was) file)) number (OnWalk (command_for goal)) 0 (showing was) file (Ends r) (showing now) file

    chain_read : (k : List ℕ) → 1 ≤ max (table who (chain_byte f k)) (want (chain_byte f k))
    chain_read k = let least = reads_chain f table who k few reads in omega (arith, least)

    ends_leave : (goal : Goal) (was now : Option (List ℕ)) → is_leave goal ≡ true → now ≡ None → Effected goal was now Done
    ends_leave Goals.First was now e is = absurd (false≢true e)
    ends_leave Goals.Next was now e is = absurd (false≢true e)
    ends_leave Goals.Leave was now e is =
        effect_answers Done refl free (moves_as was EndWalk) (ap (λ q. counts_by q (OnWalk EndWalk)) (granted was EndWalk)) (ready was EndWalk) (unchanged was EndWalk)
        (sym (ap (λ q. told_by q (OnWalk EndWalk) (showing was) file) (granted was EndWalk))) (sym (ap (λ q. map_by q (OnWalk EndWalk) (showing was) file) (granted was EndWalk)))
        (ap showing is ∙ sym (own_as was EndWalk Done file))

    stays_on : (goal : Goal) (was now : Option (List ℕ)) → is_leave goal ≡ true → is_some was ≡ true → now ≡ was → Effected goal was now Memory
    stays_on Goals.First was now e some is = absurd (false≢true e)
    stays_on Goals.Next was now e some is = absurd (false≢true e)
    stays_on Goals.Leave was now e some is = effect_starves refl (starves_as was EndWalk ∙ some) (unchanged was EndWalk) refl (ap showing is)

    came_effect : (goal : Goal) (mark later : Mark) (was now : Option (List ℕ)) (r : Reply) → HasShown goal was → CursorCame f t.image goal mark later was now r → Effected goal was now r
    came_effect goal mark later was now r has_shown (comes k v is move shows there arrived) =
        effect_shows r refl free (moving goal was has_shown move) (finds_pair k v is there (chain_read k)) refl (own_moved goal was now r file move (shows ∙ sym (ap key_shown is)))
    came_effect goal mark later was now r has_shown (passes is move ended nothing) =
        effect_shows r refl free (moving goal was has_shown move) (finds_end is) refl (own_moved goal was now r file move (ended ∙ sym (ap key_shown is)))
    came_effect goal mark later was now r has_shown (starved is move ended) =
        let S = spares goal was now has_shown move ended in
        effect_starves (ap Ends is) S.0 (unchanged was (command_for goal)) refl S.1
    came_effect goal mark later was now r has_shown (leaves is leave ended) = subst (Effected goal was now) (sym is) (ends_leave goal was now leave ended)
    came_effect goal mark later was now r has_shown (stays is leave some shows same) = subst (Effected goal was now) (sym is) (stays_on goal was now leave some shows)

  unlocked : (key : Option (List ℕ)) (w : WalkCommand) (purging : Bool) → ◌≡◌ {A = List Lock} (locks f (OnWalk w) (showing key) purging) []
  unlocked key w purging = ap (λ q. locks_by f q (OnWalk w) (showing key) purging) (granted key w)

  pub came_turns : HasFewChains f → (goal : Goal) (mark later : Mark) (was now : Option (List ℕ)) (n p : ℕ) (r : Reply) → HasShown goal was → CursorCame f t.image goal mark later was now r
      → TurnsInside f (showing was) (showing now) (OnWalk (command_for goal)) n p p r
  came_turns few goal mark later was now n p r has_shown C =
      let w = command_for goal in
      inside_of f (showing was) (showing now) (OnWalk w) (unlocked was w) refl n p p r (ap (λ q. ends_by q (OnWalk w) (showing was) 0 r) (granted was w))
      (λ table who want file free reads. came_effect few table who want file free reads (number_seen (showing was) n p) goal mark later was now r has_shown C) (λ a z b. refl)
      (ap (λ q. if is_done r then number_by q (OnWalk w) (showing was) n p else n) (granted was w) ∙ same_either (is_done r) n)
      (sym (ap (λ q. if is_done r then image_number_by q (OnWalk w) (showing was) n p else p) (granted was w) ∙ same_either (is_done r) p))

  -- what it does to its walk
  pub came_walked : (goal : Goal) (mark later : Mark) (was now : Option (List ℕ)) (r : Reply) → HasShown goal was → CursorCame f t.image goal mark later was now r
      → WalkedInside f t.image mark later (showing was) (showing now) (OnWalk (command_for goal)) r
  came_walked goal mark later was now r has_shown (comes k v is move shows there arrived) =
      arrives k v is (moving goal was has_shown move) (subst (λ s. ArrivesInside f t.image mark later s k) (sym (begun goal was)) arrived)
  came_walked goal mark later was now r has_shown (passes is move ended nothing) = finishes is (moving goal was has_shown move) (subst (FinishesInside t.image mark) (sym (begun goal was)) nothing)
  came_walked goal mark later was now r has_shown (starved is move ended) = fails is (moving goal was has_shown move)
  came_walked goal mark later was now r has_shown (leaves is leave ended) = shifts (still goal was leave) (λ some. absurd (false≢true (sym (ap is_some ended) ∙ some)))
  came_walked goal mark later was now r has_shown (stays is leave some shows same) =
      shifts (still goal was leave) (λ some. subst (λ z. Shift f (Lost f (OnWalk (command_for goal)) 0 (showing was) (Ends r) true mark) mark z) (sym same) (record { inside = refl; reached = refl; fewer = λ k e. inl e; kept = λ k e. inl e }))

  -- a Next without a cursor
  pub next_ends : (n p : ℕ) → TurnsInside f (showing None) (showing None) (OnWalk Next) n p p End
  next_ends n p =
      answered f (showing None) (showing None) (OnWalk Next) None (granted None Next) End
      (record {
        ends = refl;
        unlocked = λ purging. refl;
        unmoved = refl;
        uncounted = refl;
        looks = refl;
        unchanged = refl;
        told = λ m. refl;
        map = λ m. refl;
        own = λ m. refl;
        number = λ n p. refl;
        image_number = λ n p. refl;
        within = refl;
      }) n p (λ a z b. refl)

  pub next_walked : (m : Map) (mark later : Mark) → WalkedInside f m mark later (showing None) (showing None) (OnWalk Next) End
  next_walked m mark later = shifts (moves_as None Next) (λ some. absurd (false≢true some))

-- the chains of an accepted image of this length are few
few_chains : (f : Form) (img : List ℕ) → AcceptWith f img [] → length img < 2 ^ 32 → HasFewChains f
few_chains f img A short = record { some = A.some; few = (let long = A.long in omega (arith, long, short)) }

-- So it is over the pages of the opener's transaction.
module _ (x : Own) (old new : OwnTxn) (base : List ℕ) (was now : Walk) (S : SameTxn old new) (changed : new.changed ≡ old.changed) where
  abbrev f : Form
  f = form_of old

  abbrev p : ℕ
  p = number_of f (image_of old base)

  abbrev with_txn : Txn
  with_txn = law_txn (image_map f (image_of old base)) old.txn old.changed old.numbered

  later_own : image_map f (image_of new base) ≡ image_map f (image_of old base) → own_inside (with_cursor x now) old base ≡ own_inside (with_cursor x now) new base
  later_own same = same_own (with_cursor x now) old new base S same changed

  rests_later : (goal : Goal) (r : Reply) → CursorDone f (image_of old base) (image_of new base) goal was now r → RestsInside new base now
  rests_later goal r D = subst (λ g. AcceptWith g (image_of new base) [] → RestsIn g (image_of new base) now → RestsInside new base now) S.form (λ A R. record { accepted = A; cursor = R }) D.image.accepted D.rests

  pub walk_turns : (goal : Goal) (n : ℕ) (r : Reply) → txn_size old.txn < 2 ^ 32 → HasShown f x with_txn refl goal was.shown → RestsInside old base was → CursorDone f (image_of old base) (image_of new base) goal was now r
      → TurnsInside f (own_inside (with_cursor x was) old base) (own_inside (with_cursor x now) new base) (OnWalk (command_for goal)) n p (number_of f (image_of new base)) r
  walk_turns goal n r short has_shown R D =
      let few = few_chains f (image_of old base) R.accepted (subst (λ l. l < 2 ^ 32) (sym (length_filled (byte_over (txn_pages old.txn) base) (txn_size old.txn))) short) in
      subst (λ q. TurnsInside f (own_inside (with_cursor x was) old base) (own_inside (with_cursor x now) new base) (OnWalk (command_for goal)) n p q r) (sym D.image.number)
      (subst (λ y. TurnsInside f (own_inside (with_cursor x was) old base) y (OnWalk (command_for goal)) n p p r) (later_own D.image.map)
      (came_turns f x with_txn refl few goal (mark_in f (image_of old base) was) (mark_in f (image_of new base) now) was.shown now.shown n p r has_shown D.came))

  pub walk_walks : (goal : Goal) (r : Reply) → HasShown f x with_txn refl goal was.shown → CursorDone f (image_of old base) (image_of new base) goal was now r → WalksInside x old new base was now (OnWalk (command_for goal)) r
  walk_walks goal r has_shown D = record {
    walked = subst (λ y. WalkedInside f (image_map f (image_of old base)) (mark_in f (image_of old base) was) (mark_in f (image_of new base) now) (own_inside (with_cursor x was) old base) y (OnWalk (command_for goal)) r) (later_own D.image.map)
        (came_walked f x with_txn refl goal (mark_in f (image_of old base) was) (mark_in f (image_of new base) now) was.shown now.shown r has_shown D.came);
    rests = rests_later goal r D;
  }

  -- a Next without a cursor
  pub next_turns : (goal : Goal) (n : ℕ) → goal ≡ Goals.Next → was.shown ≡ None → TurnsInside f (own_inside (with_cursor x was) old base) (own_inside (with_cursor x was) old base) (OnWalk (command_for goal)) n p p End
  next_turns goal n next none =
      subst (λ g. TurnsInside f (own_inside (with_cursor x was) old base) (own_inside (with_cursor x was) old base) (OnWalk (command_for g)) n p p End) (sym next)
      (subst (λ k. TurnsInside f (own_inside (record x { cursor = k }) old base) (own_inside (record x { cursor = k }) old base) (OnWalk Next) n p p End) (sym none) (next_ends f x with_txn refl n p))

  pub next_walks : (goal : Goal) → goal ≡ Goals.Next → was.shown ≡ None → RestsInside old base was → WalksInside x old old base was was (OnWalk (command_for goal)) End
  next_walks goal next none R = record {
    walked = (let m = image_map f (image_of old base) in let mark = mark_in f (image_of old base) was in
        subst (λ g. WalkedInside f m mark mark (own_inside (with_cursor x was) old base) (own_inside (with_cursor x was) old base) (OnWalk (command_for g)) End) (sym next)
        (subst (λ k. WalkedInside f m mark mark (own_inside (record x { cursor = k }) old base) (own_inside (record x { cursor = k }) old base) (OnWalk Next) End) (sym none) (next_walked f x with_txn refl m mark mark)));
    rests = R;
  }
