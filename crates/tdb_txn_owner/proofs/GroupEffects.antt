-- What the turns of a Start, a Prepare and a Commit do to the file's map, its number and the opener, in the words of
-- the law.
use Rattle.std.proofs.Common.{◌≡◌, ℕ, ◌+◌, ◌≤◌, Bool, true, false, nat_lt, ◌==◌, Option, Some, None, refl, sym, ap, ◌∙◌, inl, inr, ◌⊎◌, arith}
use Rattle.std.specs.Prelude.{◌&&◌, if◌then◌else◌}
use Rattle.std.proofs.lemmas.Bool.{cases_Bool, eq-eqb, ne_eqb, cases_eq}
use Rattle.std.proofs.Math.Bool.{and-false}
use Rattle.tdb_space.specs.Form.{Form}
use Rattle.tdb_law.specs.Commands.{GroupCommand}
use Rattle.tdb_law.specs.Commands.GroupCommand.{Start, Commit, Prepare}
use Rattle.tdb_law.specs.Commands.Command.{OnGroup}
use Rattle.tdb_law.specs.Commands.Reply.{Done, Full, Memory}
use Rattle.tdb_law.specs.Commands.Turn.{Step, Ends}
use Rattle.tdb_law.specs.Openers.{Own, Map, Txn, ended}
use Rattle.tdb_law.specs.Refusals.{Refusal, refusal}
use Rattle.tdb_law.specs.Rows.{changed_by, commit_changed, commits_in, gate_shut, is_changed, look, plan_look, plans_in}
use Rattle.tdb_law.specs.Outcomes.{begun_txn, counts, counts_by, map_after, own_after, reads}
use Rattle.tdb_law.specs.Counting.{brings, number_after}
use Rattle.tdb_law.specs.Effects.{IsReady}
use Rattle.tdb_law.specs.Effects.Effect.{effect_goes_on, effect_changes, effect_answers, effect_starves, effect_is_full, effect_finishes}
use Rattle.tdb_law.specs.Turned.{number_next}
use Rattle.tdb_txn_owner.specs.Ends.{CommitsFile, IsInFile, IsOuter}
use Rattle.tdb_txn_owner.proofs.Turning.{EffectIs, group_still}

-- a command on the transaction doesn't ask for the number
group_uncounted : (f : Form) (g : GroupCommand) (x : Own) → counts f (OnGroup g) x ≡ false
group_uncounted f g x = go (refusal f (OnGroup g) x)
  where
    go : (o : Option Refusal) → counts_by o (OnGroup g) ≡ false
    go None = refl
    go (Some why) = refl

module _ (f : Form) (x : Own) where
  never_started : (n : ℕ) → is_changed f (OnGroup Start) x n ≡ false
  unfolding is_changed
  never_started n = go (refusal f (OnGroup Start) x)
    where
      go : (o : Option Refusal) → changed_by o (OnGroup Start) x n ≡ false
      go None = refl
      go (Some why) = refl

  never_prepared : (n : ℕ) → is_changed f (OnGroup Prepare) x n ≡ false
  unfolding is_changed
  never_prepared n = go (refusal f (OnGroup Prepare) x)
    where
      go : (o : Option Refusal) → changed_by o (OnGroup Prepare) x n ≡ false
      go None = refl
      go (Some why) = refl

-- a Start of an opener without a transaction
module _ (f : Form) (x : Own) (m : Map) (out : x.txn ≡ None) (granted : refusal f (OnGroup Start) x ≡ None) where
  pub start_goes_on : (n : ℕ) → EffectIs f (OnGroup Start) n x m Step x m
  start_goes_on n free conflict finds number isfree = effect_goes_on refl isfree (never_started f x (n + 1) ∙ sym (never_started f x n)) refl refl

  pub start_starves : (n : ℕ) → EffectIs f (OnGroup Start) n x m (Ends Memory) x m
  start_starves n free conflict finds number isfree = effect_starves refl (rw (granted, out) refl) (never_started f x n) refl refl

  pub start_answers : EffectIs f (OnGroup Start) 2 x m (Ends Done) (record x { txn = Some (begun_txn x m) }) m
  start_answers free conflict finds number isfree =
      effect_answers Done refl isfree (group_still f Start x) (group_uncounted f Start x) (λ k reading. rw (granted, out) (omega arith)) (never_started f x 2)
      (rw granted refl) (rw granted refl) (rw (granted, out) refl)

-- an outer Prepare
module _ (f : Form) (x : Own) (t : Txn) (m : Map) (O : IsOuter f x t Prepare) where
  has : x.txn ≡ Some t
  has = O.has

  granted : refusal f (OnGroup Prepare) x ≡ None
  granted = O.granted

  reads_nothing : (n : ℕ) → IsReady f (OnGroup Prepare) x n
  reads_nothing n k reading = absurd (let none : reads f (OnGroup Prepare) x k ≡ false = rw granted refl in cc)

  outer : nat_lt 1 t.depth ≡ false
  outer = ap (nat_lt 1) O.outer

  pub prepare_goes_on : (n : ℕ) → EffectIs f (OnGroup Prepare) n x m Step x m
  prepare_goes_on n free conflict finds number isfree = effect_goes_on refl isfree (never_prepared f x (n + 1) ∙ sym (never_prepared f x n)) refl refl

  pub prepare_starves : (n : ℕ) → plans_in t ≡ true → EffectIs f (OnGroup Prepare) n x m (Ends Memory) (ended x) m
  prepare_starves n plans free conflict finds number isfree = effect_starves refl (rw (granted, has, plans) refl) (never_prepared f x n) refl refl

  pub prepare_full : (n len need : ℕ) → plans_in t ≡ true → EffectIs f (OnGroup Prepare) n x m (Ends (Full len need)) (ended x) m
  prepare_full n len need plans free conflict finds number isfree =
      effect_is_full len need refl isfree (rw (granted, has, plans) refl) (reads_nothing n) (never_prepared f x n) (rw granted refl) refl refl

  pub prepare_answers : (n : ℕ) → (plans_in t ≡ false → n ≡ 0) → EffectIs f (OnGroup Prepare) n x m (Ends Done) (record x { txn = Some (record t { prepared = Some n }) }) m
  prepare_answers n few free conflict finds number isfree =
      effect_answers Done refl isfree (group_still f Prepare x) (group_uncounted f Prepare x) (reads_nothing n) (never_prepared f x n) (rw granted refl) (rw granted refl) (own (cases_Bool (plans_in t)))
    where
      own : (plans_in t ≡ true) ⊎ (plans_in t ≡ false) → record x { txn = Some (record t { prepared = Some n }) } ≡ own_after f (OnGroup Prepare) x n Done m
      own (inl plans) = rw (granted, has, outer, plans) refl
      own (inr none) = rw (granted, has, outer, none) (ap (λ k. record x { txn = Some (record t { prepared = Some k }) }) (few none))

-- the gate of a commit of this transaction is shut by the turn after so many steps, and not before
pub record ShutsAt (t : Txn) (last : ℕ) : Type 0 where
  pub early : (n : ℕ) → n ≤ last → gate_shut t.prepared n ≡ false
  pub late : gate_shut t.prepared (last + 1) ≡ true
  pub looked : plan_look (Some t) ≤ last

-- an outer Commit
module _ (f : Form) (x : Own) (t : Txn) (O : IsOuter f x t Commit) where
  its_txn : x.txn ≡ Some t
  its_txn = O.has

  allowed : refusal f (OnGroup Commit) x ≡ None
  allowed = O.granted

  alone : nat_lt 1 t.depth ≡ false
  alone = ap (nat_lt 1) O.outer

  pub changed_is : (n : ℕ) → is_changed f (OnGroup Commit) x n ≡ (commits_in t && gate_shut t.prepared n)
  unfolding is_changed
  changed_is n = ap (λ o. changed_by o (OnGroup Commit) x n) allowed ∙ ap (λ o. commit_changed o n) its_txn

  brings_is : brings f (OnGroup Commit) x ≡ (commits_in t && t.numbered)
  brings_is = rw (allowed, its_txn) refl

  look_is : look f (OnGroup Commit) x ≡ plan_look (Some t)
  look_is = rw (allowed, its_txn) refl

  -- it has read nothing too early
  module _ (n : ℕ) (late : commits_in t ≡ true → plan_look (Some t) ≤ n) where
    reads_late : IsReady f (OnGroup Commit) x n
    reads_late k reading = let same = look_is in let after = late (let e : reads f (OnGroup Commit) x k ≡ commits_in t = rw (allowed, its_txn) refl in cc) in omega (arith, same, after)

  pub commit_starves : (n : ℕ) (m : Map) → plans_in t ≡ true → (commits_in t && gate_shut t.prepared n) ≡ false → EffectIs f (OnGroup Commit) n x m (Ends Memory) (ended x) m
  commit_starves n m plans unshut free conflict finds number isfree = effect_starves refl (rw (allowed, its_txn, plans) refl) (changed_is n ∙ unshut) refl refl

  pub commit_full : (n len need : ℕ) (m : Map) → plans_in t ≡ true → plan_look (Some t) ≤ n → (commits_in t && gate_shut t.prepared n) ≡ false
      → EffectIs f (OnGroup Commit) n x m (Ends (Full len need)) (ended x) m
  commit_full n len need m plans late unshut free conflict finds number isfree =
      effect_is_full len need refl isfree (rw (allowed, its_txn, plans) refl) (reads_late n (λ e. late)) (changed_is n ∙ unshut) (rw allowed refl) refl refl

  -- a step of one that has a change, up to the one that shuts the gate
  module _ (last n p q qq : ℕ) (m mm : Map) (S : ShutsAt t last) (commits : commits_in t ≡ true) (F : CommitsFile last n Step t p m mm q qq) where
    open_before : (k : ℕ) → k ≤ last → is_changed f (OnGroup Commit) x k ≡ false
    open_before k within = changed_is k ∙ ap (λ b. commits_in t && b) (S.early k within) ∙ and-false (commits_in t)

    shut_after : n ≡ last → is_changed f (OnGroup Commit) x (n + 1) ≡ true
    shut_after is = changed_is (n + 1) ∙ ap (λ b. b && gate_shut t.prepared (n + 1)) commits ∙ ap (λ k. gate_shut t.prepared (k + 1)) is ∙ S.late

    pub commit_step : n ≤ last → EffectIs f (OnGroup Commit) n x m Step x mm
    commit_step within free conflict finds number isfree = elim (cases_eq n last) [
      | inl is ↦ let shutting : (n == last) ≡ true = eq-eqb n last is in
          effect_changes refl isfree (let same = look_is in let early = S.looked in omega (arith, same, early, is)) (open_before n within) (shut_after is) (rw allowed refl)
          (F.map ∙ rw (shutting, allowed, its_txn, commits) refl) refl
      | inr less ↦ let waiting : (n == last) ≡ false = ne_eqb n last less in
          effect_goes_on refl isfree (open_before (n + 1) (omega (arith, within, less)) ∙ sym (open_before n within)) (F.map ∙ rw waiting refl) refl
    ]

    pub commit_counts : n ≤ last → qq ≡ number_next f (OnGroup Commit) n x Step q p
    commit_counts within = elim (cases_eq n last) [
      | inl is ↦ F.number ∙ rw (eq-eqb n last is, brings_is, commits, shut_after is) (either t.numbered)
      | inr less ↦ F.number ∙ rw (ne_eqb n last less, open_before (n + 1) (omega (arith, within, less))) (neither (brings f (OnGroup Commit) x))
    ]
      where
        either : (b : Bool) → (if b then p else q) ≡ (if b && true then p else q)
        either true = refl
        either false = refl

        neither : (b : Bool) → q ≡ (if b && false then p else q)
        neither true = refl
        neither false = refl

  -- its end, of one that has a change where the image is in the file
  module _ (n p q : ℕ) (m : Map) (late : commits_in t ≡ true → plan_look (Some t) ≤ n) (done : commits_in t ≡ true → IsInFile t p m q) where
    map_stays : (b : Bool) → commits_in t ≡ b → m ≡ map_after f (OnGroup Commit) x m
    map_stays true e = rw (allowed, its_txn, e) (sym (done e).map)
    map_stays false e = rw (allowed, its_txn, e) refl

    pub commit_done : EffectIs f (OnGroup Commit) n x m (Ends Done) (ended x) m
    commit_done free conflict finds number isfree = elim (cases_Bool (commits_in t && gate_shut t.prepared n)) [
      | inl shut ↦ effect_finishes refl isfree (changed_is n ∙ shut) refl (rw (allowed, its_txn, alone) refl)
      | inr unshut ↦ effect_answers Done refl isfree (group_still f Commit x) (group_uncounted f Commit x) (reads_late n late) (changed_is n ∙ unshut)
          (rw allowed refl) (map_stays (commits_in t) refl) (rw (allowed, its_txn, alone) refl)
    ]

    pub done_counts : q ≡ number_after f (OnGroup Commit) x (Ends Done) q p
    done_counts = go (commits_in t) (t.numbered) refl refl
      where
        go : (b c : Bool) → commits_in t ≡ b → t.numbered ≡ c → q ≡ number_after f (OnGroup Commit) x (Ends Done) q p
        go true true e numbered = rw (allowed, its_txn, e, numbered) ((done e).number numbered)
        go true false e numbered = rw (allowed, its_txn, e, numbered) refl
        go false c e numbered = rw (allowed, its_txn, e) refl
