-- One turn of an opener whose command is on one key: the command goes on, or another has had more steps.
use Rattle.std.proofs.Common.{◌≡◌, ◌≢◌, ℕ, ◌+◌, ◌<◌, List, Option, Some, None, refl, sym, ◌∙◌, ap, subst, inl, inr, arith}
use Rattle.std.proofs.lemmas.Bool.{cases_eq}
use Rattle.tdb_space.specs.Form.{Form}
use Rattle.tdb_law.specs.Commands.{MapCommand, Command, Reply, Turn}
use Rattle.tdb_law.specs.Commands.Command.{OnMap, OnLocks, Seqnum, OnGroup, OnWalk}
use Rattle.tdb_law.specs.Commands.Turn.{Step, Blocked, Ends}
use Rattle.tdb_law.specs.Effects.{Effect, SpotLeft, Stays}
use Rattle.tdb_law.specs.Effects.Effect.{effect_waits, effect_goes_on, effect_changes, effect_answers, effect_shows, effect_starves, effect_is_full, effect_is_busy, effect_numbers, effect_finishes}
use Rattle.tdb_law.specs.Effects.Stays.{stands_nowhere, stands_still, stands_on}
use Rattle.tdb_law.specs.Held.{holding}
use Rattle.tdb_law.specs.Openers.{Own, Map, Spot, View, Task}
use Rattle.tdb_law.specs.Outcomes.{changed_txn, own_by, own_after, own_spared}
use Rattle.tdb_law.specs.Refusals.{Refusal, refusal}
use Rattle.tdb_law.specs.Turned.{Turned, want}
use Rattle.tdb_law.specs.World.{State}
use Rattle.tdb_gen.specs.Rounds.{IsOnKey, IsBare, IsUnderWay, OnKeys, turns_left}
use Rattle.tdb_gen.proofs.Waiting.{keyed_last, ahead}

-- some command has had more steps than this one
abbrev pub IsBelow : State → Task → Type 0
IsBelow w t = (p : ℕ) × (u : Task) × (w.task p ≡ Some u) × (t.steps < u.steps)

-- a command goes on; or nothing changes, and where there is one it isn't the furthest
pub data Moves (old new : State) (who : ℕ) : Type 0 where
  moves_on : turns_left (new.task who) < turns_left (old.task who) → Moves old new who
  stays : ((o : ℕ) → new.task o ≡ old.task o) → ((t : Task) → old.task who ≡ Some t → IsBelow old t) → Moves old new who

-- what one turn of an opener leads to
pub record Took (f : Form) (old new : State) (who : ℕ) : Type 0 where
  pub keys : OnKeys f new
  pub others : (o : ℕ) → o ≢ who → new.task o ≡ old.task o
  pub moves : Moves old new who

pub no_task : (t : Task) → ◌≡◌ {A = Option Task} None (Some t) → ⊥
no_task t e = cc

pub same_task : (t u : Task) → ◌≡◌ {A = Option Task} (Some t) (Some u) → t ≡ u
same_task t u e = cc

no_key : (k : List ℕ) → ◌≡◌ {A = Option (List ℕ)} None (Some k) → ⊥
no_key k e = cc

-- a turn is one of three kinds
ends_no : (r : Reply) → ◌≡◌ {A = Turn} (Ends r) Step → ⊥
ends_no r e = cc

step_no : (p b : ℕ) → ◌≡◌ {A = Turn} Step (Blocked p b) → ⊥
step_no p b e = cc

ends_not : (r : Reply) (p b : ℕ) → ◌≡◌ {A = Turn} (Ends r) (Blocked p b) → ⊥
ends_not r p b e = cc

same_block : (conflict : ℕ → ℕ → Type 0) (o b p e : ℕ) → ◌≡◌ {A = Turn} (Blocked o b) (Blocked p e) → conflict o b → conflict p e
same_block conflict o b p e is met = let one : o ≡ p = cc in let two : b ≡ e = cc in subst (λ z. conflict z e) one (subst (λ z. conflict o z) two met)

-- a command on a key leaves its opener bare
bare_by : (q : Option Refusal) (f : Form) (c : MapCommand) (x : Own) (n : ℕ) (r : Reply) (m : Map) → IsBare x → IsBare (own_by f q (OnMap c) x n r m)
bare_by (Some q) f c x n r m B = B
bare_by None f c x n r m B = record { txn = ap (changed_txn c) B.txn; counts = B.counts; all = B.all; cursor = B.cursor }

bare_after : (f : Form) (c : Command) (x : Own) (n : ℕ) (r : Reply) (m : Map) → IsOnKey c → IsBare x → IsBare (own_after f c x n r m)
bare_after f (OnMap c) x n r m key B = bare_by (refusal f (OnMap c) x) f c x n r m B
bare_after f (OnLocks c) x n r m key B = absurd key
bare_after f Seqnum x n r m key B = absurd key
bare_after f (OnGroup c) x n r m key B = absurd key
bare_after f (OnWalk c) x n r m key B = absurd key

bare_spared : (c : Command) (x : Own) → IsOnKey c → IsBare x → IsBare (own_spared c x)
bare_spared (OnMap c) x key B = B
bare_spared (OnLocks c) x key B = absurd key
bare_spared Seqnum x key B = absurd key
bare_spared (OnGroup c) x key B = absurd key
bare_spared (OnWalk c) x key B = absurd key

module _ (f : Form) (free : Type 0) (conflict : ℕ → ℕ → Type 0) (finds : Reply → Type 0) (number : ℕ) (c : Command) (n : ℕ) (x : Own) (file : Map) (turn : Turn) (y : Own) (next : Map) (key : IsOnKey c) where
  abbrev Did : Type 0
  Did = Effect f free conflict finds number c n x file turn y next

  pub effect_bare : IsBare x → Did → IsBare y
  effect_bare B (effect_waits o b is met unchanged same own) = subst IsBare (sym own) B
  effect_bare B (effect_goes_on is out unchanged same own) = subst IsBare (sym own) B
  effect_bare B (effect_changes is out ready before after told same own) = subst IsBare (sym own) B
  effect_bare B (effect_answers r is out moves counts ready before told same own) = subst IsBare (sym own) (bare_after f c x n r file key B)
  effect_bare B (effect_shows r is out moves found same own) = subst IsBare (sym own) (bare_after f c x n r file key B)
  effect_bare B (effect_starves is starves before same own) = subst IsBare (sym own) (bare_spared c x key B)
  effect_bare B (effect_is_full len need is out fills ready before told same own) = subst IsBare (sym own) (bare_spared c x key B)
  effect_bare B (effect_is_busy o b is met busies same own) = subst IsBare (sym own) (bare_spared c x key B)
  effect_bare B (effect_numbers q is out counts told same own) = subst IsBare (sym own) B
  effect_bare B (effect_finishes is out before same own) = subst IsBare (sym own) (bare_after f c x n Reply.Done file key B)

  -- a step and a block leave the opener, and a block has its conflict
  pub effect_step : turn ≡ Step → Did → y ≡ x
  effect_step step (effect_waits o b is met unchanged same own) = own
  effect_step step (effect_goes_on is out unchanged same own) = own
  effect_step step (effect_changes is out ready before after told same own) = own
  effect_step step (effect_answers r is out moves counts ready before told same own) = absurd (ends_no r (sym is ∙ step))
  effect_step step (effect_shows r is out moves found same own) = absurd (ends_no r (sym is ∙ step))
  effect_step step (effect_starves is starves before same own) = absurd (ends_no _ (sym is ∙ step))
  effect_step step (effect_is_full len need is out fills ready before told same own) = absurd (ends_no _ (sym is ∙ step))
  effect_step step (effect_is_busy o b is met busies same own) = absurd (ends_no _ (sym is ∙ step))
  effect_step step (effect_numbers q is out counts told same own) = absurd (ends_no _ (sym is ∙ step))
  effect_step step (effect_finishes is out before same own) = absurd (ends_no _ (sym is ∙ step))

  pub effect_block : (o b : ℕ) → turn ≡ Blocked o b → Did → (y ≡ x) × conflict o b
  effect_block p e block (effect_waits o b is met unchanged same own) = (own, same_block conflict o b p e (sym is ∙ block) met)
  effect_block p e block (effect_goes_on is out unchanged same own) = absurd (step_no p e (sym is ∙ block))
  effect_block p e block (effect_changes is out ready before after told same own) = absurd (step_no p e (sym is ∙ block))
  effect_block p e block (effect_answers r is out moves counts ready before told same own) = absurd (ends_not r p e (sym is ∙ block))
  effect_block p e block (effect_shows r is out moves found same own) = absurd (ends_not r p e (sym is ∙ block))
  effect_block p e block (effect_starves is starves before same own) = absurd (ends_not _ p e (sym is ∙ block))
  effect_block p e block (effect_is_full len need is out fills ready before told same own) = absurd (ends_not _ p e (sym is ∙ block))
  effect_block p e block (effect_is_busy o b is met busies same own) = absurd (ends_not _ p e (sym is ∙ block))
  effect_block p e block (effect_numbers q is out counts told same own) = absurd (ends_not _ p e (sym is ∙ block))
  effect_block p e block (effect_finishes is out before same own) = absurd (ends_not _ p e (sym is ∙ block))

-- where its cursor stands it stands after
spot_after : (f : Form) (table want : ℕ → ℕ) (c : Command) (n : ℕ) (x y : Own) (a : Spot) (v : View) (z : Spot) (turn : Turn) → IsBare y → a.stands ≡ None → SpotLeft f table want c n x y a v z turn → z.stands ≡ None
spot_after f table want c n x y a v z Step B off e = ap (λ s. s.stands) e ∙ off
spot_after f table want c n x y a v z (Blocked o b) B off (inl e) = ap (λ s. s.stands) e ∙ off
spot_after f table want c n x y a v z (Blocked o b) B off (inr e) = e.2
spot_after f table want c n x y a v z (Ends r) B off e = stayed e.0
  where
    stayed : Stays f table want x y a z r → z.stands ≡ None
    stayed (stands_nowhere none) = none
    stayed (stands_still outside still cursor stood) = stood ∙ off
    stayed (stands_on k u place pair outside own stood high chain) = absurd (no_key k (sym B.cursor ∙ ap (λ o. o.cursor) own))

-- a turn of an opener with this task
module _ (f : Form) (old new : State) (who : ℕ) (task : Task) (K : OnKeys f old) where
  under : (turn : Turn) → Turned f old who task turn new → IsUnderWay (old.own who) task
  under turn T = K.busy who task T.mine

  module _ (turn : Turn) (T : Turned f old who task turn new) where
    bare : IsBare (new.own who)
    bare = effect_bare f _ _ _ _ task.command task.steps (old.own who) old.file turn (new.own who) new.file (under turn T).keyed (K.bare who) T.effect

    agrees : (o b : ℕ) → new.table o b ≡ holding f (new.own o) (new.spot o) (new.task o) b
    agrees o b =
        elim (cases_eq o who) [
          | inl e ↦ subst (λ p. new.table p b ≡ holding f (new.own p) (new.spot p) (new.task p) b) (sym e) (T.holds b)
          | inr ne ↦ T.others_hold o b ne ∙ (K.agrees o b
              ∙ sym (ap (λ y. holding f y (new.spot o) (new.task o) b) (T.others_own o ne) ∙ (ap (λ a. holding f (old.own o) a (new.task o) b) (T.others_spot o ne) ∙ ap (λ t. holding f (old.own o) (old.spot o) t b) (T.others o ne))))
        ]

    all_bare : (o : ℕ) → IsBare (new.own o)
    all_bare o = elim (cases_eq o who) [ inl e ↦ subst (λ p. IsBare (new.own p)) (sym e) bare | inr ne ↦ subst IsBare (sym (T.others_own o ne)) (K.bare o) ]

    nowhere : (o : ℕ) → (new.spot o).stands ≡ None
    nowhere o =
        elim (cases_eq o who) [
          | inl e ↦ ap (λ p. (new.spot p).stands) e ∙ spot_after f (old.table who) (want f old who task) task.command task.steps (old.own who) (new.own who) (old.spot who) (old.view who) (new.spot who) turn bare (K.nowhere who) T.leaves_spot
          | inr ne ↦ ap (λ a. a.stands) (T.others_spot o ne) ∙ K.nowhere o
        ]

  -- the command of the turn's opener after it
  mine_after : (turn : Turn) (T : Turned f old who task turn new) (t : Task) → new.task who ≡ Some t → IsUnderWay (new.own who) t
  mine_after Step T t is =
      let e = same_task (record { command = task.command; steps = task.steps + 1 }) t (sym T.leaves ∙ is) in
      let U = under Step T in
      let row = T.row in
      let most = keyed_last f task.command (old.own who) U.keyed in
      let own = effect_step f _ _ _ _ task.command task.steps (old.own who) old.file Step (new.own who) new.file U.keyed refl T.effect in
      subst (IsUnderWay (new.own who)) e (record { keyed = U.keyed; few = omega (arith, row, most); live = ap (λ y. y.live) own ∙ U.live })
  mine_after (Blocked p b) T t is =
      let e = same_task (record { command = task.command; steps = task.steps }) t (sym T.leaves ∙ is) in
      let U = under (Blocked p b) T in
      let own = effect_block f _ _ _ _ task.command task.steps (old.own who) old.file (Blocked p b) (new.own who) new.file U.keyed p b refl T.effect in
      subst (IsUnderWay (new.own who)) e (record { keyed = U.keyed; few = U.few; live = ap (λ y. y.live) own.0 ∙ U.live })
  mine_after (Ends r) T t is = absurd (no_task t (sym T.leaves ∙ is))

  module _ (turn : Turn) (T : Turned f old who task turn new) where
    busy : (o : ℕ) (t : Task) → new.task o ≡ Some t → IsUnderWay (new.own o) t
    busy o t is =
        elim (cases_eq o who) [
          | inl e ↦ subst (λ p. IsUnderWay (new.own p) t) (sym e) (mine_after turn T t (ap new.task (sym e) ∙ is))
          | inr ne ↦ subst (λ y. IsUnderWay y t) (sym (T.others_own o ne)) (K.busy o t (sym (T.others o ne) ∙ is))
        ]

    keys_after : OnKeys f new
    keys_after = record { agrees = agrees turn T; bare = all_bare turn T; nowhere = nowhere turn T; busy = busy; fresh = T.stale }

  -- the command goes on, or waits
  moves : (turn : Turn) → Turned f old who task turn new → Moves old new who
  moves Step T =
      let U = under Step T in
      let row = T.row in
      let most = keyed_last f task.command (old.own who) U.keyed in
      let before = ap turns_left T.mine in
      let after = ap turns_left T.leaves in
      moves_on (omega (arith, row, most, before, after))
  moves (Blocked p b) T =
      let U = under (Blocked p b) T in
      let met = (effect_block f _ _ _ _ task.command task.steps (old.own who) old.file (Blocked p b) (new.own who) new.file U.keyed p b refl T.effect).1 in
      stays
      (λ o. elim (cases_eq o who) [ inl e ↦ ap new.task e ∙ (T.leaves ∙ (sym T.mine ∙ ap old.task (sym e))) | inr ne ↦ T.others o ne ])
      (λ t is. let e = same_task task t (sym T.mine ∙ is) in let q = ahead f old K who task T.mine p b met.conflict in subst (IsBelow old) e (p, q.0, q.1, q.2))
  moves (Ends r) T =
      let few = (under (Ends r) T).few in
      let before = ap turns_left T.mine in
      let after = ap turns_left T.leaves in
      moves_on (omega (arith, few, before, after))

  pub turn_took : (turn : Turn) → Turned f old who task turn new → Took f old new who
  turn_took turn T = record { keys = keys_after turn T; others = T.others; moves = moves turn T }
