-- The small reports by computation: a line is allowed where what it tells computes to what the replay has.
use Rattle.std.proofs.Common.{◌≡◌, ℕ, ◌+◌, ◌<◌, max, List, [], ◌∷◌, true, false, cond, Option, Some, None, refl, sym, ◌∙◌, ap, subst, inl, inr, arith, lit≤, get_or, ◌++◌}
use Rattle.std.specs.FinMap.{get, insert, empty, entries, len-entries, len-empty}
use Rattle.std.specs.Prelude.{◌&&◌, nat_lt, length, map}
use Rattle.std.specs.List.{sum}
use Rattle.std.specs.Ordering.{nat_cmp}
use Rattle.tdb_law.specs.Refusals.Refusal.{LocksStand}
use Rattle.tdb_law.specs.Beginning.{nobody}
use Rattle.tdb_law.specs.Ends.{IsRow}
use Rattle.tdb_law.specs.Outcomes.{moves, counts, told}
use Rattle.tdb_words.specs.Hash.{h_old}
use Rattle.tdb_law.specs.Commands.MapCommand.{Fetch, Store}
use Rattle.tdb_law.specs.Commands.GroupCommand.{Commit}
use Rattle.tdb_law.specs.Commands.WalkCommand.{First, Next}
use Rattle.tdb_law.specs.Commands.Command.{OnMap, OnGroup, OnWalk}
use Rattle.tdb_law.specs.Commands.Reply.{Done, Memory, Value, Pair}
use Rattle.tdb_law.specs.Commands.Turn.{Step, Ends}
use Rattle.tdb_law.specs.Refusals.{refusal}
use Rattle.tdb_law.specs.Replay.{Replay, IsInTheWay, Says, steps_of, may_keep}
use Rattle.tdb_law.specs.Held.{may_held, may_want}
use Rattle.tdb_law.specs.Replay.Says.{says_plain, says_pair, says_end, says_number, says_memory, says_full, says_busy}
use Rattle.tdb_law.specs.Lines.Line.{Took}
use Rattle.tdb_law.specs.Held.{explicit_held}
use Rattle.tdb_law.specs.Replay.{shown_now}
use Rattle.tdb_law.proofs.Kept.{opened_base}
use Rattle.tdb_law.specs.Lines.{Line, replay}
use Rattle.tdb_law.specs.Reports.{small, a, one, two, one_pair, at_first, byte_a, two_join, row_of_two, options, group, in_group, at_group, row_of_commit, seen_early, blocked_by_nobody, done_unlocked, second_start, shown_twice, IsRight, IsWrong}
use Rattle.tdb_law.specs.Rows.{is_changed}
use Rattle.tdb_law.specs.Counting.{takes}
use Rattle.tdb_law.specs.Openers.{Map, Txn, opened, chain_locks}
use Rattle.tdb_law.specs.MapCommands.{fetched}
use Rattle.tdb_law.proofs.Maps.{get_put}
use Rattle.tdb_law.proofs.Tests.{never_true}

-- what was stored is fetched
stored : (m : Map) (v : List ℕ) → Value v ≡ fetched (get (insert m a v) a)
stored m v = ap fetched (sym (get_put m a v a))

-- the state after the lines so far
abbrev so_far : List Line → Replay
so_far lines = replay small at_first lines

-- a want of 1 conflicts with what is held for writing
above : (r : ℕ) → 2 < 1 + max 2 r
above r = omega arith

not_one : (o : ℕ) → o ≡ 0 → o ≡ 1 → ⊥
not_one o e z = omega arith

-- two openers: the fetch is blocked while the store has its chain, and sees the new value afterwards
pub row_of_two_right : IsRight at_first row_of_two
unfolding h_old refusal may_held may_want is_changed takes
row_of_two_right = (
  (refl, lit≤ tt),
  tt,
  (
    (refl, lit≤ tt),
    tt,
    (
      (refl, record { live = refl; begun = tt; row = lit≤ tt; tells = tt }),
      tt,
      (
        (refl, record { live = refl; begun = tt; row = refl; tells = record { other = not_one 0 refl; conflict = above _ } }),
        tt,
        (
          (refl, record { live = refl; begun = refl; row = inl refl; tells = (says_plain refl refl refl, λ is. cc) }),
          tt,
          (
            (refl, record { live = refl; begun = refl; row = lit≤ tt; tells = tt }),
            tt,
            (
              (refl, record { live = refl; begun = refl; row = inl refl; tells = (says_plain refl refl (stored one_pair two), λ is. cc) }),
              tt,
              tt,
            ),
          ),
        ),
      ),
    ),
  ),
)

-- an opener without explicit locks
no_counts : (es : List (ℕ × ℕ)) → length es ≡ 0 → sum (map (λ e. e.1) es) ≡ 0
no_counts [] e = refl
no_counts (x ∷ es) e = absurd (omega arith)

no_locks : chain_locks (opened (nobody options)) ≡ 0
no_locks = no_counts (entries empty) (sym (len-entries empty) ∙ len-empty nat_cmp ℕ)

-- so a Commit isn't refused
commit_open : refusal small (OnGroup Commit) in_group ≡ None
unfolding refusal
commit_open = subst (λ n. cond (true && nat_lt 0 (n + 0)) (Some LocksStand) None ≡ None) (sym no_locks) refl

commit_step : (k : ℕ) → k < 8 → IsRow small (OnGroup Commit) in_group k Step
commit_step k low = rw commit_open low

commit_end : IsRow small (OnGroup Commit) in_group 8 (Ends Done)
commit_end = inl (rw commit_open refl)

commit_says : (s : Replay) → s.own 0 ≡ in_group → Says small s 0 (OnGroup Commit) Done
commit_says s e =
    says_plain
    (subst (λ y. moves small (OnGroup Commit) y ≡ false) (sym e) (rw commit_open refl))
    (subst (λ y. counts small (OnGroup Commit) y ≡ false) (sym e) (rw commit_open refl))
    (subst (λ y. Done ≡ told small (OnGroup Commit) y s.map) (sym e) (rw commit_open refl))

-- a want of 2 conflicts with what the transaction reads
above_one : (r : ℕ) → 2 < 2 + max r 1
above_one r = omega arith

store_want : may_want small (OnMap (Store a one)) (opened (nobody options)) 0 byte_a ≡ 2
unfolding h_old refusal may_want
store_want = refl

group_keeps : may_keep small (Some group) in_group byte_a ≡ 1
unfolding h_old
group_keeps = refl

store_waits : (s : Replay) → s.own 1 ≡ opened (nobody options) → steps_of (s.begun 1) ≡ 0 → s.own 0 ≡ in_group → IsInTheWay small s 1 (OnMap (Store a one)) 0 byte_a
store_waits s own begun other = record { other = not_one 0 refl; conflict = omega (arith, want, keep) }
  where
    want : may_want small (OnMap (Store a one)) (s.own 1) (steps_of (s.begun 1)) byte_a ≡ 2
    want = ap (λ y. may_want small (OnMap (Store a one)) y (steps_of (s.begun 1)) byte_a) own ∙ (ap (λ n. may_want small (OnMap (Store a one)) (opened (nobody options)) n byte_a) begun ∙ store_want)

    keep : may_keep small (s.own 0).txn (s.own 0) byte_a ≡ 1
    keep = ap (λ y. may_keep small y.txn y byte_a) other ∙ group_keeps

store_step : IsRow small (OnMap (Store a one)) (opened (nobody options)) 0 Step
unfolding refusal
store_step = lit≤ tt

store_end : IsRow small (OnMap (Store a one)) (opened (nobody options)) 1 (Ends Done)
unfolding refusal
store_end = inl refl

store_says : (s : Replay) → s.own 1 ≡ opened (nobody options) → Says small s 1 (OnMap (Store a one)) Done
unfolding refusal
store_says s e =
    says_plain
    (ap (λ y. moves small (OnMap (Store a one)) y) e)
    (ap (λ y. counts small (OnMap (Store a one)) y) e)
    (sym (ap (λ y. told small (OnMap (Store a one)) y s.map) e))

-- a commit in nine turns, with a store of another opener that is blocked until its end
pub row_of_commit_right : IsRight at_group row_of_commit
row_of_commit_right = (
  (refl, record { live = refl; begun = tt; row = refl; tells = store_waits _ refl refl refl }),
  tt,
  (
    (refl, record { live = refl; begun = tt; row = commit_step 0 (lit≤ tt); tells = tt }),
    tt,
    (
      (refl, record { live = refl; begun = refl; row = commit_step 1 (lit≤ tt); tells = tt }),
      tt,
      (
        (refl, record { live = refl; begun = refl; row = commit_step 2 (lit≤ tt); tells = tt }),
        tt,
        (
          (refl, record { live = refl; begun = refl; row = commit_step 3 (lit≤ tt); tells = tt }),
          tt,
          (
            (refl, record { live = refl; begun = refl; row = commit_step 4 (lit≤ tt); tells = tt }),
            tt,
            (
              (refl, record { live = refl; begun = refl; row = commit_step 5 (lit≤ tt); tells = tt }),
              tt,
              (
                (refl, record { live = refl; begun = refl; row = commit_step 6 (lit≤ tt); tells = tt }),
                tt,
                (
                  (refl, record { live = refl; begun = refl; row = commit_step 7 (lit≤ tt); tells = tt }),
                  tt,
                  (
                    (refl, record { live = refl; begun = refl; row = refl; tells = store_waits _ refl refl refl }),
                    tt,
                    (
                      (refl, record { live = refl; begun = refl; row = commit_end; tells = (commit_says _ refl, λ is. cc) }),
                      tt,
                      (
                        (refl, record { live = refl; begun = refl; row = store_step; tells = tt }),
                        tt,
                        (
                          (refl, record { live = refl; begun = refl; row = store_end; tells = (store_says _ refl, λ is. cc) }),
                          tt,
                          tt,
                        ),
                      ),
                    ),
                  ),
                ),
              ),
            ),
          ),
        ),
      ),
    ),
  ),
)

-- a fetch tells what the committed map has
same_value : (v w : List ℕ) → Value v ≡ Value w → v ≡ w
same_value v w e = cc

one_two : two ≡ one → ⊥
one_two e = differ (ap (λ z. get_or z 0 0) e)
  where
    differ : ◌≡◌ {A = ℕ} 50 49 → ⊥
    differ e2 = omega arith

fetch_says : (s : Replay) → s.own 1 ≡ opened (nobody options) → s.map ≡ one_pair → Says small s 1 (OnMap (Fetch a)) (Value two) → ⊥
unfolding refusal
fetch_says s own same (says_plain moving counting e) =
    one_two (same_value two one (e ∙ (ap (λ y. told small (OnMap (Fetch a)) y s.map) own ∙ (ap (λ m. fetched (get m a)) same ∙ sym (stored empty one)))))
fetch_says s own same (says_pair k v moving e there unseen) = cc
fetch_says s own same (says_end moving e all) = cc
fetch_says s own same (says_number q counting e is) = cc
fetch_says s own same (says_memory e want_of) = cc
fetch_says s own same (says_full len need e filling is) = cc
fetch_says s own same (says_busy o b e busy way) = cc

pub seen_early_wrong : IsWrong at_group seen_early
seen_early_wrong l = fetch_says _ refl refl l.2.2.2.2.2.2.2.2.2.0.1.tells.0

-- who holds nothing stands in nobody's way
fetch_want : may_want small (OnMap (Fetch a)) (opened (nobody options)) 0 byte_a ≡ 1
unfolding h_old refusal may_want
fetch_want = refl

pub blocked_by_nobody_wrong : IsWrong at_first blocked_by_nobody
blocked_by_nobody_wrong l =
    let way = l.2.2.0.1.tells in
    let bare = opened_base small 0 byte_a (nobody options) in
    let conflict : 2 < may_want small (OnMap (Fetch a)) (opened (nobody options)) 0 byte_a + max 0 (max (explicit_held small (opened (nobody options)) byte_a) 0) = way.conflict in
    omega (arith, conflict, fetch_want, bare)

-- a store has a step before its end
pub done_unlocked_wrong : IsWrong at_first done_unlocked
unfolding refusal
done_unlocked_wrong l = elim l.2.2.0.1.row [ inl e ↦ never_true e | inr memory ↦ no_memory memory.0 ]
  where
    no_memory : Done ≡ Memory → ⊥
    no_memory e = cc

-- while one opener has a transaction no other starts one
pub second_start_wrong : IsWrong at_group second_start
second_start_wrong l = some_none (l.2.2.0.1.tells.1 refl refl 0 (λ e. omega arith))
  where
    some_none : ◌≡◌ {A = Option Txn} (Some group) None → ⊥
    some_none e = cc

-- a pair is shown once
pub shown_twice_wrong : IsWrong at_first shown_twice
unfolding h_old refusal may_held may_want is_changed takes
shown_twice_wrong l = by_says l.2.2.2.2.0.1.tells.0
  where
    same_key : (k v : List ℕ) → Pair a one ≡ Pair k v → a ≡ k
    same_key k v e = cc

    by_says : Says small (so_far (two_join ++ Took 0 (OnWalk First) (Ends (Pair a one)) ∷ Took 0 (OnWalk Next) Step ∷ [])) 0 (OnWalk Next) (Pair a one) → ⊥
    by_says (says_plain moving counting e) = never_true (sym moving)
    by_says (says_pair k v moving e there unseen) =
        never_true (sym unseen ∙ subst (λ q. shown_now small (so_far (two_join ++ Took 0 (OnWalk First) (Ends (Pair a one)) ∷ Took 0 (OnWalk Next) Step ∷ [])) 0 (OnWalk Next) q ≡ true) (same_key k v e) refl)
    by_says (says_end moving e all) = cc
    by_says (says_number q counting e is) = cc
    by_says (says_memory e want_of) = cc
    by_says (says_full len need e filling is) = cc
    by_says (says_busy o b e busy way) = cc
