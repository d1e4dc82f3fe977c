-- An opener that joins, and a world without any.
use Rattle.std.proofs.Common.{◌≡◌, ◌≢◌, ℕ, zero, suc, ◌+◌, List, [], ◌∷◌, ◌++◌, length, slice_get, true, Option, Some, None, refl, sym, ◌∙◌, ap, subst, arith, le_refl, append-nil, length-append}
use Rattle.std.specs.List.Sorted.{IsStrictlySortedBy}
use Rattle.std.proofs.lemmas.List.Elements.{All-nil}
use Rattle.std.proofs.lemmas.Option.{slice_get_past}
use Rattle.tdb_space.specs.Form.{Form}
use Rattle.tdb_space.specs.Pairs.{joined}
use Rattle.tdb_locks.specs.HeldLocks.{HeldLocks, nothing_held, AreCounts}
use Rattle.tdb_locks.specs.declared.piece.Piece.{Piece}
use Rattle.tdb_law.specs.Openers.{Own, nowhere, opened}
use Rattle.tdb_law.specs.Held.{holding}
use Rattle.tdb_law.specs.Beginning.{nobody}
use Rattle.tdb_law.proofs.Tests.{never_true}
use Rattle.tdb_steps.specs.Holdings.{table_of}
use Rattle.tdb_openers.specs.Given.{IsWellHeld}
use Rattle.tdb_commands.specs.declared.options.Options.{Options}
use Rattle.tdb_commands.specs.InLaw.{options_of}
use Rattle.tdb_openers.specs.declared.opener.Opener.{Opener}
use Rattle.tdb_law.specs.Layout.{chains_in, mark_of}
use Rattle.tdb_law.specs.Walks.{Shift}
use Rattle.tdb_openers.specs.Openers.{no_cursor, no_walk, rest_of, own_of, own_with, own_at, spot_by, walk_of, steps_of, spot_at, place_at, spots_of, task_at, law_task, hands_of_task, hands_at, TaskStands, TaskKnows, WalkStands}
use Rattle.tdb_openers.specs.States.{WorldStands}
use Rattle.tdb_openers.specs.Laws.{IsJoined, JoinKeepsWorld, JoinKeepsFile, JoinJoins, EmptyStands, EmptyFileStands, EmptyIsLoaded}
use Rattle.tdb_openers.proofs.PlainTurns.Standing.{Holds, IsSet, world_set, held_still}
use Rattle.tdb_walk.specs.Cursors.{At, Knows}
use Rattle.tdb_walk.specs.Spots.{spot_number}
use Rattle.tdb_openers.specs.Cursors.{is_stood, TaskSpares, StandApart, cursor_at}
use Rattle.tdb_openers.proofs.Joining.Stood.{spots_pushed, stood_pushed}
use Rattle.tdb_openers.proofs.Joining.AllHands.{joined_same}
use Rattle.tdb_openers.proofs.Joining.Replacing.{file_set}
use Rattle.tdb_openers.proofs.Walks.StillWalks.{still_shift}
use Rattle.tdb_openers.proofs.Joining.Opening.{nobody_holds, nobody_opens}

at_end : (xs : List Opener) (y : Opener) → slice_get (xs ++ (y ∷ [])) (length xs) ≡ Some y
at_end [] y = refl
at_end (x ∷ xs) y = at_end xs y

before_end : (xs : List Opener) (y : Opener) (o : ℕ) → o ≢ length xs → slice_get (xs ++ (y ∷ [])) o ≡ slice_get xs o
before_end [] y zero ne = absurd (ne refl)
before_end [] y (suc o) ne = refl
before_end (x ∷ xs) y zero ne = refl
before_end (x ∷ xs) y (suc o) ne = before_end xs y o (λ e. ne (ap suc e))

nothing_counts : AreCounts []
unfolding IsStrictlySortedBy
nothing_counts = record { in_order = tt; keys = All-nil _; counts = All-nil _ }

-- the cursor of who has none rests
pub no_walk_stands : (f : Form) (held : HeldLocks) (x : Own) → x.cursor ≡ None → WalkStands f held x None 0 no_walk.cursor
no_walk_stands f held x none = record { placed = tt; stands = (none, refl) }

pub nothing_well : IsWellHeld nothing_held
nothing_well = record { counts = nothing_counts; taken = tt; apart = λ e. absurd (never_true e); few = omega arith }

module _ (xs ys : List Opener) (y : Opener) (J : IsJoined xs y ys) where
  is_set : IsSet xs (length xs) y ys
  is_set = record {
    there = ap (λ l. slice_get l (length xs)) J.pushed ∙ at_end xs y;
    others = λ o ne. ap (λ l. slice_get l o) J.pushed ∙ before_end xs y o ne;
  }

  one_more : length ys ≡ suc (length xs)
  one_more = ap length J.pushed ∙ (length-append xs (y ∷ []) ∙ omega arith)

  -- it has what an opener has that hasn't joined, but that it is live
  new_own : (options : Options) → own_of options y ≡ own_with options true nothing_held no_cursor
  new_own options =
      ap (λ l. own_with options l y.held (rest_of y.walk)) J.live ∙ (ap (λ h. own_with options true h (rest_of y.walk)) J.nothing ∙ ap (λ w. own_with options true nothing_held (rest_of w)) J.bare)

  -- its cursor stands nowhere
  new_spot : spot_at (Some y) ≡ nowhere
  new_spot = ap (λ w. spot_by w.cursor) J.bare

  -- it holds nothing, as before
  new_holds : (f : Form) (options : Options) (ps : List Piece) (a : List ℕ) (size : ℕ) → WorldStands f options xs ps a size → (b : ℕ) → Holds f options ps (length xs) (Some y) b
  new_holds f options ps a size W b =
      let before : table_of ps (length xs + 1) b ≡ holding f (nobody (options_of options)) nowhere None b =
      W.sound.agrees (length xs) b ∙ ap (λ z. holding f (own_at options z) (spot_at z) (task_at z) b) (slice_get_past xs (length xs) (le_refl (length xs))) in
      before
      ∙ sym (ap (λ z. holding f (own_of options y) (spot_at (Some y)) (law_task z) b) J.idle ∙ (ap (λ w. holding f w (spot_at (Some y)) None b) (new_own options) ∙ ap (λ s. holding f (own_with options true nothing_held no_cursor) s None b) new_spot))

pub join_keeps_world : JoinKeepsWorld
join_keeps_world f options xs ys ps a size y W J few =
    world_set f options xs ys ps ps a a size size (length xs) y W (is_set xs ys y J) (held_still f options xs ps a size (length xs) y W (new_holds xs ys y J f options ps a size W))
    (record { stands = (subst IsWellHeld (sym J.nothing) nothing_well, subst (λ z. TaskStands f (own_of options y) z size) (sym J.idle) tt, joined_walk); busy_live = λ t e. J.live })
    (le_refl size) (let more = one_more xs ys y J in omega (arith, more, few)) W.short
  where
    joined_walk : WalkStands f y.held (own_of options y) (walk_of y.task) (steps_of y.task) y.walk.cursor
    joined_walk =
        subst (λ t. WalkStands f y.held (own_of options y) (walk_of t) (steps_of t) y.walk.cursor) (sym J.idle)
        (subst (λ w. WalkStands f y.held (own_of options y) None 0 w.cursor) (sym J.bare) (no_walk_stands f y.held (own_of options y) (ap (λ w. w.shown) J.bare)))

-- who has no cursor purges nothing, and stands nowhere
pub bare_apart : (z : Option At) → StandApart (Some no_walk.cursor) z
bare_apart None = tt
bare_apart (Some other) = λ due off on also. absurd (cc on)

pub apart_bare : (z : Option At) → StandApart z (Some no_walk.cursor)
apart_bare None = tt
apart_bare (Some at) = λ due off on also. absurd (cc also)

pub join_keeps_file : JoinKeepsFile
join_keeps_file f xs ys a y F J =
    file_set xs ys (length xs) y S f a F hands (λ off e. subst (λ stands. stands off ≡ true) stand e) (subst (TaskKnows f a) (sym J.idle) tt) (subst (λ w. Knows f a w.cursor.place w.cursor.stage) (sym J.bare) tt)
    (subst (TaskSpares (is_stood (spots_of ys))) (sym J.idle) tt)
    (λ o ne. subst (λ w. StandApart (Some w.cursor) (cursor_at (slice_get xs o)) × StandApart (cursor_at (slice_get xs o)) (Some w.cursor)) (sym J.bare) (bare_apart (cursor_at (slice_get xs o)), apart_bare (cursor_at (slice_get xs o))))
  where
    S : IsSet xs (length xs) y ys
    S = is_set xs ys y J

    stand : is_stood (spots_of ys) ≡ is_stood (spots_of xs)
    stand = ap is_stood (ap spots_of J.pushed ∙ spots_pushed xs y (ap (λ w. spot_number w.cursor.place) J.bare)) ∙ stood_pushed (spots_of xs)

    hands : joined (length ys) (λ o. hands_at (slice_get ys o)) ≡ joined (length xs) (λ o. hands_at (slice_get xs o))
    hands =
        ap (λ n. joined n (λ o. hands_at (slice_get ys o))) (one_more xs ys y J)
        ∙ (ap (λ l. l ++ hands_at (slice_get ys (length xs))) (joined_same (length xs) (λ o. hands_at (slice_get xs o)) (λ o. hands_at (slice_get ys o)) (λ o low. ap hands_at (S.others o (λ e. omega (arith, low, e)))))
        ∙ (ap (λ l. joined (length xs) (λ o. hands_at (slice_get xs o)) ++ l) (ap hands_at S.there ∙ ap hands_of_task J.idle) ∙ append-nil _))

pub join_joins : JoinJoins
join_joins f options xs ys ps a size y W J few = record {
  first = refl;
  few = few;
  closed_lock = nobody_opens f options xs ps a size W;
  stay = record {
    file = refl;
    task = λ o ne. ap task_at (S.others o ne);
    own = λ o ne. ap (own_at options) (S.others o ne);
    spot = λ o ne. ap spot_at (S.others o ne);
    table = λ o b ne. refl;
    walk = λ o ne. subst (λ p. Shift f (λ k. ⊥) (mark_of f (chains_in f a) (place_at (slice_get xs o))) (mark_of f (chains_in f a) p)) (sym (ap place_at (S.others o ne))) (still_shift f _ _);
    number = refl;
    image_number = λ o. refl;
    settled = refl;
  };
  nothing = record {
    task = ap task_at S.there ∙ ap law_task J.idle;
    spot = ap spot_at S.there ∙ new_spot xs ys y J;
    table = λ b. W.sound.agrees (length xs) b ∙ (ap (λ z. holding f (own_at options z) (spot_at z) (task_at z) b) nobody_there ∙ nobody_holds f options b);
  };
  own = ap (own_at options) S.there ∙ (new_own xs ys y J options ∙ sym (ap (λ z. opened (own_at options z)) nobody_there));
  joined = one_more xs ys y J;
  stale = refl;
}
  where
    S : IsSet xs (length xs) y ys
    S = is_set xs ys y J

    nobody_there : slice_get xs (length xs) ≡ None
    nobody_there = slice_get_past xs (length xs) (le_refl (length xs))

pub empty_stands : EmptyStands
empty_stands f options a size chains limit short = record {
  sound = record {
    chains = chains;
    agrees = λ o b. sym (nobody_holds f options b);
    apart = λ o p b ne. omega arith;
    stands = λ o place e. absurd (cc e);
    busy_there = λ o t e. absurd (cc e);
    live_joined = λ o e. absurd (never_true e);
    stale = λ e. absurd (cc e);
  };
  few = omega arith;
  numbered = λ b. refl;
  openers_stand = λ o. tt;
  limit = limit;
  short = short;
}

pub empty_file_stands : EmptyFileStands
empty_file_stands f a A = record { accepted = A; known = λ o. tt; cursors = λ o. tt; spared = λ o. tt; alone = λ o p ne. tt }

pub empty_is_loaded : EmptyIsLoaded
empty_is_loaded f options a chains = record {
  chains = chains;
  joined = refl;
  task = λ o. refl;
  own = λ o. refl;
  spot = λ o. refl;
  table = λ o b. refl;
  stale = refl;
  settled = refl;
  image_number = λ o. refl;
}
