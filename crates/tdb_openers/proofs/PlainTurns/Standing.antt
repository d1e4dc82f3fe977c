-- What a turn leaves of a world, whatever the bytes of its file are.
use Rattle.std.proofs.Common.{◌≡◌, ◌≢◌, ℕ, ◌+◌, ◌≤◌, List, length, slice_get, true, Option, Some, None, is_some, refl, sym, ◌∙◌, ap, subst, inl, inr, arith}
use Rattle.std.proofs.lemmas.Bool.{cases_eq}
use Rattle.tdb_space.specs.Form.{Form, data_start}
use Rattle.tdb_locks.specs.LockTable.{held}
use Rattle.tdb_locks.specs.declared.kind.Kind.{Kind}
use Rattle.tdb_locks.specs.declared.kind.Kind.TheVariants.{Read, Write}
use Rattle.tdb_locks.specs.declared.piece.Piece.{Piece}
use Rattle.tdb_law.specs.Openers.{Task as LawTask}
use Rattle.tdb_law.specs.Held.{holding}
use Rattle.tdb_law.specs.Lines.{most_openers}
use Rattle.tdb_steps.specs.Holdings.{strength, table_of}
use Rattle.tdb_commands.specs.declared.options.Options.{Options}
use Rattle.tdb_openers.specs.declared.opener.Opener.{Opener}
use Rattle.tdb_openers.specs.Openers.{own_of, own_at, spot_at, walk_of, steps_of, task_at, law_task, OpenerStands, WalkStands}
use Rattle.tdb_openers.specs.States.{WorldStands}
use Rattle.tdb_openers.specs.Laws.{IsPut, MayStand, OpenerIsReady, TurnKeepsWorld}
use Rattle.tdb_openers.proofs.Joining.Single.{opener_longer, busy_at, live_at}
use Rattle.tdb_openers.proofs.Walks.Rests.{walk_well}

-- an opener that has a strength of 0 holds nothing
none_held : (o : Option Kind) → strength o ≡ 0 → o ≡ None
none_held None e = refl
none_held (Some Read) e = absurd (omega (arith, e))
none_held (Some Write) e = absurd (omega (arith, e))

-- what the opener at a place holds
abbrev pub Holds : Form → Options → List Piece → ℕ → Option Opener → ℕ → Type 0
Holds f options ps o z b = table_of ps (o + 1) b ≡ holding f (own_at options z) (spot_at z) (task_at z) b

abbrev Lives : Options → Option Opener → Type 0
Lives options z = (u : LawTask) → task_at z ≡ Some u → (own_at options z).live ≡ true

-- the cursor of an opener of a world that stands
pub walk_there : (f : Form) (options : Options) (xs : List Opener) (ps : List Piece) (a : List ℕ) (size o : ℕ) (x : Opener) → WorldStands f options xs ps a size → slice_get xs o ≡ Some x → WalkStands f x.held (own_of options x) (walk_of x.task) (steps_of x.task) x.walk.cursor
walk_there f options xs ps a size o x W there = (subst (OpenerStands f options size) there (W.openers_stand o)).2

pub opener_is_ready : OpenerIsReady
opener_is_ready f options xs ps a size who x t W B = record {
  holds = λ b.
      W.sound.agrees who b
      ∙ (ap (λ z. holding f (own_at options z) (spot_at z) (task_at z) b) B.there ∙ ap (λ z. holding f (own_of options x) (spot_at (Some x)) (law_task z) b) B.busy);
  apart = λ o b differs. W.sound.apart who o b (λ e. differs (sym e));
  numbered = λ b. ap strength (W.numbered b);
  rests = walk_well f x.held (own_of options x) (walk_of x.task) (steps_of x.task) x.walk.cursor (walk_there f options xs ps a size who x W B.there);
}

-- a cursor that stands on a record stands there well
abbrev StandsSoundly : Form → Options → Option Opener → Type 0
StandsSoundly f options z = (place : ℕ) → (spot_at z).stands ≡ Some place → ((own_at options z).txn ≡ None) × (data_start f ≤ place) × (is_some (own_at options z).cursor ≡ true)

stands_soundly : (f : Form) (options : Options) (size : ℕ) (z : Option Opener) → OpenerStands f options size z → StandsSoundly f options z
stands_soundly f options size None K place e = absurd (cc e)
stands_soundly f options size (Some x) K place e = let well = walk_well f x.held (own_of options x) (walk_of x.task) (steps_of x.task) x.walk.cursor K.2 place e in (refl, well.above, well.shown)

-- one opener is another afterwards, in the same list or at the end of it
pub record IsSet (xs : List Opener) (who : ℕ) (y : Opener) (ys : List Opener) : Type 0 where
  pub there : slice_get ys who ≡ Some y
  pub others : (o : ℕ) → o ≢ who → slice_get ys o ≡ slice_get xs o

pub put_set : (xs ys : List Opener) (who : ℕ) (y : Opener) → IsPut xs who y ys → IsSet xs who y ys
put_set xs ys who y P = record { there = P.there; others = P.others }

-- it holds what it is to hold, and others what they held
pub record HoldsRightly (f : Form) (options : Options) (who : ℕ) (y : Opener) (ps qs : List Piece) : Type 0 where
  pub holds : (b : ℕ) → Holds f options qs who (Some y) b
  pub others : (o b : ℕ) → o ≢ who → table_of qs (o + 1) b ≡ table_of ps (o + 1) b
  pub apart : (o b : ℕ) → o ≢ who → table_of qs (who + 1) b + table_of qs (o + 1) b ≤ 2
  pub numbered : (b : ℕ) → table_of qs 0 b ≡ 0

-- so the world stands after it, whatever the bytes are
module _ (f : Form) (options : Options) (xs ys : List Opener) (ps qs : List Piece) (a b : List ℕ) (size longer who : ℕ) (y : Opener) (W : WorldStands f options xs ps a size)
    (P : IsSet xs who y ys) (T : HoldsRightly f options who y ps qs) (M : MayStand f options longer y) (more : size ≤ longer) where
  agrees : (o i : ℕ) → Holds f options qs o (slice_get ys o) i
  agrees o i =
      elim (cases_eq o who) [
        | inl is ↦ subst (λ p. Holds f options qs p (slice_get ys p) i) (sym is) (subst (λ z. Holds f options qs who z i) (sym P.there) (T.holds i))
        | inr ne ↦ T.others o i ne ∙ (W.sound.agrees o i ∙ sym (ap (λ z. holding f (own_at options z) (spot_at z) (task_at z) i) (P.others o ne)))
      ]

  apart : (o p i : ℕ) → o ≢ p → table_of qs (o + 1) i + table_of qs (p + 1) i ≤ 2
  apart o p i differs =
      elim (cases_eq o who) [
        | inl is ↦ (let room = T.apart p i (λ e. differs (is ∙ sym e)) in
            let same : table_of qs (o + 1) i ≡ table_of qs (who + 1) i = ap (λ q. table_of qs (q + 1) i) is in
            omega (arith, room, same))
        | inr ne ↦ (elim (cases_eq p who) [
          | inl is ↦ (let room = T.apart o i ne in
              let same : table_of qs (p + 1) i ≡ table_of qs (who + 1) i = ap (λ q. table_of qs (q + 1) i) is in
              omega (arith, room, same))
          | inr other ↦ (let room = W.sound.apart o p i differs in
              let one = T.others o i ne in
              let two = T.others p i other in
              omega (arith, room, one, two))
        ])
      ]

  busy_there : (o : ℕ) → Lives options (slice_get ys o)
  busy_there o =
      elim (cases_eq o who) [
        | inl is ↦ subst (λ p. Lives options (slice_get ys p)) (sym is) (subst (Lives options) (sym P.there) (λ u e. busy_at y.task u (y.live ≡ true) M.busy_live e))
        | inr ne ↦ subst (Lives options) (sym (P.others o ne)) (W.sound.busy_there o)
      ]

  stand : (o : ℕ) → OpenerStands f options longer (slice_get ys o)
  stand o =
      elim (cases_eq o who) [
        | inl is ↦ subst (λ p. OpenerStands f options longer (slice_get ys p)) (sym is) (subst (OpenerStands f options longer) (sym P.there) M.stands)
        | inr ne ↦ subst (OpenerStands f options longer) (sym (P.others o ne)) (opener_longer size longer more f options (slice_get xs o) (W.openers_stand o))
      ]

  pub world_set : length ys ≤ most_openers → longer ≤ options.limit → WorldStands f options ys qs b longer
  world_set few less = record {
    sound = record {
      chains = W.sound.chains;
      agrees = agrees;
      apart = apart;
      stands = λ o. stands_soundly f options longer (slice_get ys o) (stand o);
      busy_there = busy_there;
      live_joined = λ o e. live_at options ys o e;
      stale = λ e. absurd (cc e);
    };
    few = few;
    numbered = λ i. none_held (held qs 0 i) (T.numbered i);
    openers_stand = stand;
    limit = W.limit;
    short = less;
  }

pub turn_keeps_world : TurnKeepsWorld
turn_keeps_world f options xs ys ps qs a b size longer who x y t turn W B P T M more less =
    world_set f options xs ys ps qs a b size longer who y W (put_set xs ys who y P) (record { holds = T.holds; others = T.others; apart = T.apart; numbered = T.numbered }) M more
    (subst (λ n. n ≤ most_openers) (sym P.same_length) W.few) less

-- where no lock changes, an opener that holds what it held
pub held_still : (f : Form) (options : Options) (xs : List Opener) (ps : List Piece) (a : List ℕ) (size who : ℕ) (y : Opener) → WorldStands f options xs ps a size
    → ((b : ℕ) → Holds f options ps who (Some y) b) → HoldsRightly f options who y ps ps
held_still f options xs ps a size who y W holds = record {
  holds = holds;
  others = λ o b ne. refl;
  apart = λ o b ne. W.sound.apart who o b (λ e. ne (sym e));
  numbered = λ b. ap strength (W.numbered b);
}
