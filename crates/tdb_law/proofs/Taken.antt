-- A turn of a small world: a fetch locks its chain.
use Rattle.std.proofs.Common.{◌≡◌, ℕ, ◌≤◌, max, List, Bool, true, false, cond, Some, None, refl, sym, ◌∙◌, ap, arith, lit≤, ◌≢◌}
use Rattle.tdb_law.specs.Openers.{nowhere, opened}
use Rattle.tdb_law.specs.Refusals.{refusal}
use Rattle.tdb_law.specs.Rows.{is_changed}
use Rattle.tdb_law.specs.Held.{holding, wanted}
use Rattle.tdb_law.specs.Effects.Effect.{effect_goes_on}
use Rattle.tdb_law.specs.Walks.{Shift}
use Rattle.tdb_law.specs.Walks.Walked.{walk_steps}
use Rattle.tdb_law.specs.Turned.{want}
use Rattle.tdb_law.specs.Beginning.{nobody}
use Rattle.tdb_law.specs.Reports.{small, options, one_task, one_own, one_at, one_world, FetchLocks}
use Rattle.tdb_law.proofs.Tests.{never_true}
use Rattle.tdb_law.proofs.Kept.{closed_base}
use Rattle.tdb_law.proofs.Walking.{put_else}

still_marks : (lost : List ℕ → Type 0) → Shift small lost (record { inside = false; reached = 0; ahead = λ k. false }) (record { inside = false; reached = 0; ahead = λ k. false })
still_marks lost = record { inside = refl; reached = refl; fewer = λ k e. absurd (never_true e); kept = λ k e. absurd (never_true e) }

other_task : (n : ℕ) (o : ℕ) → o ≢ 0 → one_at n o ≡ None
other_task n o ne = put_else (λ p. None) 0 (Some (one_task n)) o ne

other_own : (o : ℕ) → o ≢ 0 → one_own o ≡ nobody options
other_own o ne = put_else (λ p. nobody options) 0 (opened (nobody options)) o ne

nobody_holds : (o b : ℕ) → o ≢ 0 → holding small (one_own o) nowhere (one_at 0 o) b ≤ 0
nobody_holds o b ne =
    let at_rest : holding small (one_own o) nowhere (one_at 0 o) b ≡ holding small (nobody options) nowhere None b =
    ap (λ y. holding small y nowhere (one_at 0 o) b) (other_own o ne) ∙ ap (λ t. holding small (nobody options) nowhere t b) (other_task 0 o ne) in
    let bare = closed_base small 0 b (nobody options) in
    omega (arith, at_rest, bare)

one_if : (z : Bool) → max (max (cond z 1 0) 0) 0 ≤ 1
one_if true = lit≤ tt
one_if false = lit≤ tt

wants_one : (b : ℕ) → want small (one_world 0) 0 (one_task 0) b ≤ 1
unfolding refusal wanted
wants_one b = one_if _

pub fetch_locks : FetchLocks
unfolding refusal is_changed
fetch_locks = record {
  mine = refl;
  joined = refl;
  others = λ o ne. other_task 1 o ne ∙ sym (other_task 0 o ne);
  others_own = λ o ne. refl;
  others_spot = λ o ne. refl;
  others_hold = λ o b ne. ap (λ t. holding small (one_own o) nowhere t b) (other_task 1 o ne ∙ sym (other_task 0 o ne));
  others_number = λ o ne. refl;
  others_walk = λ o ne. still_marks _;
  row = lit≤ tt;
  leaves = refl;
  leaves_spot = refl;
  effect = effect_goes_on refl (record { free = λ p b ne. omega (arith, nobody_holds p b ne, wants_one b) }) refl refl refl;
  holds = λ b. refl;
  walks = walk_steps refl (still_marks _);
  ready = refl;
  stale = refl;
  settled = refl;
  number = refl;
  image_number = refl;
}
