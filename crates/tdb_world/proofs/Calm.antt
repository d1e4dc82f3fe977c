-- Moments of a replay at which no command on the map is in the middle of a change: what a stop leaves there.
use Rattle.std.proofs.Common.{◌≡◌, ℕ, zero, suc, ◌+◌, ◌<◌, Bool, true, false, cond, List, [], ◌∷◌, ◌++◌, Option, None, Some, refl, sym, ◌∙◌, ap, subst, subst₂, inl, inr, ◌⊎◌, arith}
use Rattle.std.specs.Prelude.{◌&&◌, nat_le}
use Rattle.std.specs.FinMap.{get}
use Rattle.std.proofs.lemmas.Bool.{cases_Bool, cases_eq}
use Rattle.tdb_space.specs.Form.{Form}
use Rattle.tdb_law.specs.Commands.{Command}
use Rattle.tdb_law.specs.Commands.Command.{OnMap, OnLocks, Seqnum, OnGroup, OnWalk}
use Rattle.tdb_law.specs.Commands.GroupCommand.{Start, Commit, Prepare, Cancel}
use Rattle.tdb_law.specs.Counting.{unsettles_by}
use Rattle.tdb_law.specs.Lines.{Line, next_line, replay}
use Rattle.tdb_law.specs.Openers.{Map, Own, Task, Txn, image_or}
use Rattle.tdb_law.specs.Outcomes.{commits, map_by, touches_by}
use Rattle.tdb_law.specs.Refusals.{Refusal, refusal}
use Rattle.tdb_law.specs.Replay.{Replay}
use Rattle.tdb_law.specs.Rows.{changed_by, commit_changed, commits_in, gate_shut, is_changed}
use Rattle.tdb_law.specs.Standing.{IsSame, Stands}
use Rattle.tdb_law.specs.World.{State, IsPending, IsSound}
use Rattle.tdb_law.proofs.Emptied.{unchanged_start}
use Rattle.tdb_law.proofs.Joining.{course_lawful}
use Rattle.tdb_law.proofs.Maps.{maps_equal}
use Rattle.tdb_law.proofs.Tests.{and_both, never_true}
use Rattle.tdb_world.specs.Stops.{IsChanging, TurnMayLeave}
use Rattle.tdb_world.specs.Courses.Stops.{IsTransacted, OpensOnTheWay}
use Rattle.tdb_world.specs.Calm.{IsGroup, OpensToEither}

-- The committed map is one of two; a command that has begun has had no step, or is one on the transaction; and a Commit
-- that has begun brings an image with the second map. No gate stands open.
pub record Calm (m n : Map) (q : Replay) : Type 0 where
  pub map : (q.map ≡ m) ⊎ (q.map ≡ n)
  pub begun : (o : ℕ) (u : Task) → q.begun o ≡ Some u → (u.steps ≡ 0) ⊎ IsGroup u.command
  pub brings : (o : ℕ) (u : Task) → q.begun o ≡ Some u → u.command ≡ OnGroup Commit → (t : Txn) → (q.own o).txn ≡ Some t → t.image ≡ n
  pub fresh : q.stale ≡ false

-- a command that isn't done has had no step, or a line tells of it
had_line : (b : Option Task) (t : Task) → IsSame b (Some t) → (t.steps ≡ 0) ⊎ (b ≡ Some t)
had_line None t same = inl same
had_line (Some u) t same = inr (ap (λ z. Some z) same)

-- one on the transaction leaves the world settled
group_settles : (r : Option Refusal) (c : Command) (x : Own) (k : ℕ) → IsGroup c → unsettles_by r c x k ≡ true → ⊥
group_settles (Some r) c x k group e = never_true e
group_settles None (OnGroup g) x k group e = never_true e
group_settles None (OnMap c) x k group e = absurd group
group_settles None (OnLocks c) x k group e = absurd group
group_settles None Seqnum x k group e = absurd group
group_settles None (OnWalk c) x k group e = absurd group

-- One on the transaction that has changed the file is a Commit, and the file has the map of its image.
record Changed (r : Option Refusal) (c : Command) (x : Own) (m : Map) : Type 0 where
  commit : c ≡ OnGroup Commit
  txn : Txn
  has : x.txn ≡ Some txn
  touched : (k : List ℕ) → touches_by r c x k ≡ true
  map : map_by r c x m ≡ txn.image

group_changed : (r : Option Refusal) (c : Command) (x : Own) (k : ℕ) (m : Map) → IsGroup c → changed_by r c x k ≡ true → Changed r c x m
group_changed (Some r) c x k m group e = absurd (never_true e)
group_changed None (OnMap c) x k m group e = absurd group
group_changed None (OnLocks c) x k m group e = absurd group
group_changed None Seqnum x k m group e = absurd group
group_changed None (OnWalk c) x k m group e = absurd group
group_changed None (OnGroup Start) x k m group e = absurd (never_true e)
group_changed None (OnGroup Prepare) x k m group e = absurd (never_true e)
group_changed None (OnGroup Cancel) x k m group e = absurd (never_true e)
group_changed None (OnGroup Commit) x k m group e = of x.txn refl
  where
    of : (t : Option Txn) → x.txn ≡ t → Changed None (OnGroup Commit) x m
    of None has = absurd (never_true (sym (ap (λ z. commit_changed z k) has) ∙ e))
    of (Some t) has =
        let planned : commits_in t ≡ true = (and_both (commits_in t) (gate_shut t.prepared k) (sym (ap (λ z. commit_changed z k) has) ∙ e)).0 in
        let does : commits x.txn ≡ true = ap commits has ∙ planned in
        record {
          commit = refl;
          txn = t;
          has = has;
          touched = λ q. does;
          map = ap (λ b. cond b (image_or x.txn m) m) does ∙ ap (λ z. image_or z m) has;
        }

by_change : (f : Form) (c : Command) (x : Own) (k : ℕ) (m : Map) → IsGroup c → is_changed f c x k ≡ true → Changed (refusal f c x) c x m
unfolding is_changed
by_change f c x k m group e = group_changed (refusal f c x) c x k m group e

-- after one turn no Commit has shut its gate
and_false : (a : Bool) → (a && false) ≡ false
and_false true = refl
and_false false = refl

unshut_by : (r : Option Refusal) (x : Own) → changed_by r (OnGroup Commit) x 1 ≡ false
unshut_by (Some r) x = refl
unshut_by None x = of x.txn
  where
    shut_one : (p : Option ℕ) → gate_shut p 1 ≡ false
    shut_one None = refl
    shut_one (Some steps) = and_false (nat_le 4 steps)

    of : (t : Option Txn) → commit_changed t 1 ≡ false
    of None = refl
    of (Some t) = ap (λ b. commits_in t && b) (shut_one t.prepared) ∙ and_false (commits_in t)

unshut : (f : Form) (x : Own) → is_changed f (OnGroup Commit) x 1 ≡ false
unfolding is_changed
unshut f x = unshut_by (refusal f (OnGroup Commit) x) x

-- whether a command has made its change
abbrev is_made : Form → Own → Option Task → Bool
is_made f x None = false
is_made f x (Some t) = is_changed f t.command x t.steps

any_or_none : (n : ℕ) (p : ℕ → Bool) → ((o : ℕ) × (p o ≡ true)) ⊎ ((o : ℕ) → o < n → p o ≡ false)
any_or_none zero p = inr (λ o low. absurd (omega (arith, low)))
any_or_none (suc n) p =
    elim (cases_Bool (p n)) [
      | inl here ↦ inl (n, here)
      | inr off ↦ elim (any_or_none n p) [
        | inl found ↦ inl found
        | inr none ↦ inr (λ o low. (elim (cases_eq o n) [ inl e ↦ subst (λ q. p q ≡ false) (sym e) off | inr ne ↦ none o (omega (arith, low, ne)) ]))
      ]
    ]

-- A state for which a replay stands.
module _ (f : Form) (w : State) (q : Replay) (S : IsSound f w) (P : Stands f w q) where
  unfinished : (o : ℕ) (t : Task) → w.task o ≡ Some t → (t.steps ≡ 0) ⊎ (q.begun o ≡ Some t)
  unfinished o t e = had_line (q.begun o) t (subst (IsSame (q.begun o)) e (P.same o))

  -- a command without a step has made no change
  unmade : (o : ℕ) (t : Task) → t.steps ≡ 0 → is_changed f t.command (w.own o) t.steps ≡ true → ⊥
  unmade o t none made = never_true (sym (unchanged_start f t.command (w.own o)) ∙ subst (λ k. is_changed f t.command (w.own o) k ≡ true) none made)

  -- where nobody has made a change the file has the committed map
  none_made : ((o : ℕ) → o < w.joined → is_made f (w.own o) (w.task o) ≡ false) → w.file ≡ q.map
  none_made none =
      maps_equal w.file q.map (λ k.
      (elim (P.maps.each k) [
        | inl same ↦ same
        | inr by ↦ (let p = by.pending in
            let low : by.owner < w.joined = S.live_joined by.owner (S.busy_there by.owner p.task p.has_task) in
            let made : is_made f (w.own by.owner) (w.task by.owner) ≡ true =
            ap (is_made f (w.own by.owner)) p.has_task ∙ subst₂ (λ c y. is_changed f c y p.task.steps ≡ true) (sym p.command) (sym p.owned) p.made in
            absurd (never_true (sym (none by.owner low) ∙ made)))
      ]))

  -- where none has begun
  pub rest_file : ((o : ℕ) → q.begun o ≡ None) → w.file ≡ q.map
  rest_file rest = none_made (λ o low. of o (w.task o) refl)
    where
      of : (o : ℕ) (t : Option Task) → w.task o ≡ t → is_made f (w.own o) (w.task o) ≡ false
      of o None e = ap (is_made f (w.own o)) e
      of o (Some t) e = elim (unfinished o t e) [
        | inl none ↦ ap (is_made f (w.own o)) e ∙ ap (λ k. is_changed f t.command (w.own o) k) none ∙ unchanged_start f t.command (w.own o)
        | inr has ↦ absurd (let both : None ≡ Some t = sym (rest o) ∙ has in cc both)
      ]

  -- At a calm moment nobody is in the middle of a change outside a transaction, and the file has one of the two maps.
  module _ (m n : Map) (C : Calm m n q) where
    calm_task : (o : ℕ) (t : Task) → w.task o ≡ Some t → (t.steps ≡ 0) ⊎ IsGroup t.command
    calm_task o t e = elim (unfinished o t e) [ inl none ↦ inl none | inr has ↦ C.begun o t has ]

    pub not_changing : (o : ℕ) → IsChanging f w o → ⊥
    not_changing o M = elim (calm_task o M.task M.has) [
      | inl none ↦ (let taken = M.midway.taken in omega (arith, none, taken))
      | inr group ↦ group_settles (refusal f M.task.command (w.own o)) M.task.command (w.own o) M.midway.step group M.midway.unsettles
    ]

    -- a Commit that has made its change
    of_commit : (o : ℕ) (t : Task) → w.task o ≡ Some t → IsGroup t.command → is_changed f t.command (w.own o) t.steps ≡ true → w.file ≡ n
    of_commit o t e group made = elim (unfinished o t e) [
      | inl none ↦ absurd (unmade o t none made)
      | inr has ↦
          let X = by_change f t.command (w.own o) t.steps q.map group made in
          let pend : IsPending f w o t.command (w.own o) = record { task = t; has_task = e; command = refl; owned = refl; made = made } in
          let file : w.file ≡ X.txn.image = maps_equal w.file X.txn.image (λ k. P.maps.pending o t.command (w.own o) pend k (X.touched k) ∙ ap (λ g. get g k) X.map) in
          file ∙ C.brings o t has X.commit X.txn (ap (λ y. y.txn) (P.owns o) ∙ X.has)
    ]

    of_task : (o : ℕ) (t : Option Task) → w.task o ≡ t → is_made f (w.own o) t ≡ true → w.file ≡ n
    of_task o None e made = absurd (never_true made)
    of_task o (Some t) e made = elim (calm_task o t e) [ inl none ↦ absurd (unmade o t none made) | inr group ↦ of_commit o t e group made ]

    pub calm_file : (w.file ≡ m) ⊎ (w.file ≡ n)
    calm_file = elim (any_or_none w.joined (λ o. is_made f (w.own o) (w.task o))) [
      | inl found ↦ inr (of_task found.0 (w.task found.0) refl found.1)
      | inr none ↦ elim C.map [ inl first ↦ inl (none_made none ∙ first) | inr second ↦ inr (none_made none ∙ second) ]
    ]

    -- so a stop in a turn from here leaves what opens to one of the two
    pub calm_opens : (o : ℕ) (c : List ℕ) → TurnMayLeave f w o c → OpensToEither f m n c
    calm_opens o c (inl O) = elim calm_file [
      | inl first ↦ inl (record { image = O.image; reopens = O.reopens; map = sym first ∙ O.file })
      | inr second ↦ inr (record { image = O.image; reopens = O.reopens; map = sym second ∙ O.file })
    ]
    calm_opens o c (inr (X, O)) = elim (unfinished o X.task X.has) [
      | inl none ↦
          let one : X.task.steps + 1 ≡ 1 = omega (arith, none) in
          let shut : is_changed f (OnGroup Commit) (w.own o) 1 ≡ true = subst (λ d. is_changed f d (w.own o) 1 ≡ true) X.commits (subst (λ k. is_changed f X.task.command (w.own o) k ≡ true) one X.shut) in
          absurd (never_true (sym (unshut f (w.own o)) ∙ shut))
      | inr has ↦ inr (record { image = O.image; reopens = O.reopens; map = sym (C.brings o X.task has X.commits O.txn (ap (λ y. y.txn) (P.owns o) ∙ O.has)) ∙ O.map })
    ]

-- It is calm in front of these lines, between them, and behind them.
abbrev pub AllCalm : Map → Map → Form → Replay → List Line → Type 0
AllCalm m n f q [] = Calm m n q
AllCalm m n f q (line ∷ lines) = Calm m n q × AllCalm m n f (next_line f q line) lines

module _ (m n : Map) (f : Form) where
  pub calm_here : (q : Replay) (lines : List Line) → AllCalm m n f q lines → Calm m n q
  calm_here q [] all = all
  calm_here q (line ∷ lines) all = all.0

  calm_at : (q : Replay) (lines front rest : List Line) → AllCalm m n f q lines → lines ≡ front ++ rest → Calm m n (replay f q front)
  calm_at q lines [] rest all e = calm_here q lines all
  calm_at q [] (a ∷ front) rest all e = absurd (cc e)
  calm_at q (b ∷ lines) (a ∷ front) rest all e =
      let first : b ≡ a = cc e in
      let behind : lines ≡ front ++ rest = cc e in
      subst (λ z. Calm m n (replay f (next_line f q z) front)) first (calm_at (next_line f q b) lines front rest all.1 behind)

  pub calm_end : (q : Replay) (lines : List Line) → AllCalm m n f q lines → Calm m n (replay f q lines)
  calm_end q [] all = all
  calm_end q (line ∷ lines) all = calm_end (next_line f q line) lines all.1

  -- So no state that the lines pass has somebody in the middle of a change, and what opens on their way opens to one of
  -- the two maps.
  module _ (old : State) (q : Replay) (S : IsSound f old) (P : Stands f old q) (lines : List Line) (all : AllCalm m n f q lines) where
    pub calm_transacted : IsTransacted f old lines
    calm_transacted s o X M =
        let L = course_lawful f old s X.leads.0 X.front q S P X.leads.1 in
        not_changing f s (replay f q X.front) L.sound L.stands m n (calm_at q lines X.front X.rest all X.parts) o M

    pub calm_way : (c : List ℕ) → OpensOnTheWay f old lines c → OpensToEither f m n c
    calm_way c (s, o, X, may) =
        let L = course_lawful f old s X.leads.0 X.front q S P X.leads.1 in
        calm_opens f s (replay f q X.front) L.sound L.stands m n (calm_at q lines X.front X.rest all X.parts) o c may
