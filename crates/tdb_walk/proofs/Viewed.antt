-- The view of an opener with a cursor, as two tests.
use Rattle.std.proofs.Common.{◌≡◌, ℕ, zero, suc, ◌-◌, List, Bool, true, false, ◌==◌, nat_le, nat_lt, Option, Some, None, refl, sym, ◌∙◌, ap, subst, inl, inr, arith}
use Rattle.std.specs.Prelude.{◌&&◌, ◌/◌, not, is_none, nat_eq, MatchBool}
use Rattle.std.specs.List.{list_any}
use Rattle.std.proofs.lemmas.Bool.{cases_Bool, cases_lt, eq-eqb, eqb-true, eqb-false, le-leb, leb-true, lt-ltb, ltb-true, false≢true}
use Rattle.std.proofs.lemmas.Cmp.{nat_eq_equiv}
use Rattle.std.proofs.lemmas.Map.Views.{list_any-from_Contains, Contains-from_any}
use Rattle.tdb_words.specs.declared.record.TheConstants.{USED}
use Rattle.tdb_words.specs.Word.{word}
use Rattle.tdb_space.specs.Form.{Form, chain_head}
use Rattle.tdb_space.specs.Record.{magic_of}
use Rattle.tdb_locks.specs.HeldLocks.{HeldLocks}
use Rattle.tdb_law.specs.Layout.{Cell, Chains, Place, chains_in}
use Rattle.tdb_law.proofs.Tests.{and_both, and_make, from_not, to_not}
use Rattle.tdb_walk.specs.declared.standing.Standing.{Standing}
use Rattle.tdb_walk.specs.declared.standing.Standing.TheVariants.{Before, On, Past}
use Rattle.tdb_walk.specs.declared.stage.Stage.TheVariants.{Rested}
use Rattle.tdb_walk.specs.NextLive.{NoneLive, first_live, left_in, place_of}
use Rattle.tdb_walk.specs.Way.{lock_byte, next_chain}
use Rattle.tdb_walk.specs.ByteLocks.{only_reads}
use Rattle.tdb_walk.specs.Cursors.{HasToPurge, IsToPurge, from_of}
use Rattle.tdb_walk.specs.InLaw.{IsOnWay, ViewIsSo, must_purge, none_live, is_on_way}

-- a test that holds exactly where a fact does
by_test : (z : Bool) (X : Type 0) → (z ≡ true → X) → (X → z ≡ true) → MatchBool z X (X → ⊥)
by_test true X to from = to refl
by_test false X to from = λ x. false≢true (from x)

not_true : (b : Bool) → (b ≡ true → ⊥) → b ≡ false
not_true b never = elim (cases_Bool b) [ inl e ↦ absurd (never e) | inr e ↦ e ]

must_to : (f : Form) (img : List ℕ) (own : HeldLocks) (stood_on : List ℕ) (read_only : Bool) (chain off : ℕ) → must_purge f img own stood_on read_only (On chain off) ≡ true → IsToPurge f img own stood_on read_only off
must_to f img own stood_on read_only chain off e =
    let one = and_both (not (magic_of f.order img off == USED)) (not (list_any (nat_eq off) stood_on) && (not read_only && not (only_reads own))) e in
    let two = and_both (not (list_any (nat_eq off) stood_on)) (not read_only && not (only_reads own)) one.1 in
    let three = and_both (not read_only) (not (only_reads own)) two.1 in
    record {
      dead = eqb-false (magic_of f.order img off) USED (from_not (magic_of f.order img off == USED) one.0);
      alone = λ there. false≢true (sym (from_not (list_any (nat_eq off) stood_on) two.0) ∙ list_any-from_Contains nat_eq_equiv off stood_on there);
      writable = from_not read_only three.0;
      writes = from_not (only_reads own) three.1;
    }

must_from : (f : Form) (img : List ℕ) (own : HeldLocks) (stood_on : List ℕ) (read_only : Bool) (chain off : ℕ) → IsToPurge f img own stood_on read_only off → must_purge f img own stood_on read_only (On chain off) ≡ true
must_from f img own stood_on read_only chain off p =
    and_make (not (magic_of f.order img off == USED)) (not (list_any (nat_eq off) stood_on) && (not read_only && not (only_reads own)))
    (to_not (magic_of f.order img off == USED) (not_true (magic_of f.order img off == USED) (λ e. p.dead (eqb-true (magic_of f.order img off) USED e))))
    (and_make (not (list_any (nat_eq off) stood_on)) (not read_only && not (only_reads own))
    (to_not (list_any (nat_eq off) stood_on) (not_true (list_any (nat_eq off) stood_on) (λ e. p.alone (Contains-from_any (λ x y same. eqb-true x y same) off stood_on e))))
    (and_make (not read_only) (not (only_reads own)) (to_not read_only p.writable) (to_not (only_reads own) p.writes)))

must_is : (f : Form) (img : List ℕ) (own : HeldLocks) (stood_on : List ℕ) (read_only : Bool) (place : Standing) → MatchBool (must_purge f img own stood_on read_only place) (HasToPurge f img own stood_on read_only place Rested) (HasToPurge f img own stood_on read_only place Rested → ⊥)
must_is f img own stood_on read_only (On chain off) =
    by_test (must_purge f img own stood_on read_only (On chain off)) (IsToPurge f img own stood_on read_only off) (must_to f img own stood_on read_only chain off) (must_from f img own stood_on read_only chain off)
must_is f img own stood_on read_only (Before chain) = λ never. never
must_is f img own stood_on read_only Past = λ never. never

-- none of the first chains has a live record left
none_true : (o : Option Cell) → is_none o ≡ true → o ≡ None
none_true None e = refl
none_true (Some c) e = absurd (false≢true e)

none_to : (cs : Chains) (place : Place) (n : ℕ) → none_live cs place n ≡ true → NoneLive cs place n
none_to cs place zero e j low = absurd (omega (arith, low))
none_to cs place (suc n) e j low =
    let both = and_both (none_live cs place n) (is_none (first_live (left_in cs place n))) e in
    elim (cases_lt j n) [
      | inl early ↦ none_to cs place n both.0 j early
      | inr late ↦ let same : j ≡ n = omega (arith, low, late) in subst (λ i. first_live (left_in cs place i) ≡ None) (sym same) (none_true (first_live (left_in cs place n)) both.1)
    ]

none_from : (cs : Chains) (place : Place) (n : ℕ) → NoneLive cs place n → none_live cs place n ≡ true
none_from cs place zero none = refl
none_from cs place (suc n) none = and_make (none_live cs place n) (is_none (first_live (left_in cs place n))) (none_from cs place n (λ j low. none j (omega (arith, low)))) (ap is_none (none n (omega arith)))

-- a chain on the way
way_to : (f : Form) (img : List ℕ) (from : Standing) (j : ℕ) → is_on_way f img from j ≡ true → IsOnWay f img from j
way_to f img from j e =
    let one = and_both (nat_le (next_chain f from) j) (nat_lt j f.chains && (not (word f.order img (chain_head j) == 0) && none_live (chains_in f img) (place_of from) j)) e in
    let two = and_both (nat_lt j f.chains) (not (word f.order img (chain_head j) == 0) && none_live (chains_in f img) (place_of from) j) one.1 in
    let three = and_both (not (word f.order img (chain_head j) == 0)) (none_live (chains_in f img) (place_of from) j) two.1 in
    record {
      entered = leb-true (next_chain f from) j one.0;
      below = ltb-true j f.chains two.0;
      filled = eqb-false (word f.order img (chain_head j)) 0 (from_not (word f.order img (chain_head j) == 0) three.0);
      passed = none_to (chains_in f img) (place_of from) j three.1;
    }

way_from : (f : Form) (img : List ℕ) (from : Standing) (j : ℕ) → IsOnWay f img from j → is_on_way f img from j ≡ true
way_from f img from j on =
    and_make (nat_le (next_chain f from) j) (nat_lt j f.chains && (not (word f.order img (chain_head j) == 0) && none_live (chains_in f img) (place_of from) j)) (le-leb (next_chain f from) j on.entered)
    (and_make (nat_lt j f.chains) (not (word f.order img (chain_head j) == 0) && none_live (chains_in f img) (place_of from) j) (lt-ltb j f.chains on.below)
    (and_make (not (word f.order img (chain_head j) == 0)) (none_live (chains_in f img) (place_of from) j)
    (to_not (word f.order img (chain_head j) == 0) (not_true (word f.order img (chain_head j) == 0) (λ e. on.filled (eqb-true (word f.order img (chain_head j)) 0 e)))) (none_from (chains_in f img) (place_of from) j on.passed)))

pub view_is_so : ViewIsSo
view_is_so f img own stood_on read_only goal place = record {
  must = must_is f img own stood_on read_only place;
  way = λ j on.
      (let back : (lock_byte j - 168) / 4 ≡ j = omega arith in
      and_make (lock_byte j == lock_byte ((lock_byte j - 168) / 4)) (is_on_way f img (from_of goal place) ((lock_byte j - 168) / 4)) (eq-eqb (lock_byte j) (lock_byte ((lock_byte j - 168) / 4)) (ap lock_byte (sym back)))
      (ap (is_on_way f img (from_of goal place)) back ∙ way_from f img (from_of goal place) j on));
  ways = λ b e.
      (let both = and_both (b == lock_byte ((b - 168) / 4)) (is_on_way f img (from_of goal place) ((b - 168) / 4)) e in
      ((b - 168) / 4, eqb-true b (lock_byte ((b - 168) / 4)) both.0, way_to f img (from_of goal place) ((b - 168) / 4) both.1));
}
