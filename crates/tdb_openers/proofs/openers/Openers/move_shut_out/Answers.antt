-- The turn is that of a move which passes over empty chains, and the world stands after it.
use Rattle.std.proofs.Common.{◌≡◌, ◌≢◌, ℕ, ◌≤◌, List, Option, Some, None, Ok, Err, IsTrue, length, slice_get, refl, sym, ap, subst, arith, ◌∙◌}
use Rattle.std.specs.Prelude.{Result, IfOk, OnErr}
use Rattle.std.proofs.lemmas.Result.{IfOk-weaker}
use Rattle.tdb_locks.specs.declared.turn.Turn.{Turn}
use Rattle.tdb_locks.specs.declared.turn.Turn.TheVariants.{Step}
use Rattle.tdb_space.specs.Form.{Form, form_in, data_start}
use Rattle.tdb_law.specs.OneAside.Sides.{Past, Side}
use Rattle.tdb_commands.specs.InLaw.{law_opener, law_turn}
use Rattle.tdb_walk.specs.Cursors.{spot_of}
use Rattle.tdb_walk.specs.Passing.{PassesTo, enters}
use Rattle.tdb_openers.specs.declared.job.Job.{Job}
use Rattle.tdb_openers.specs.declared.job.Job.TheVariants as Jobs
use Rattle.tdb_openers.specs.declared.job.Task.{Task}
use Rattle.tdb_openers.specs.declared.job.Walking.{Walking}
use Rattle.tdb_openers.specs.declared.opener.Opener.{Opener}
use Rattle.tdb_openers.specs.ShutOut.{HeadsShow, IsMove, IsPassed, IsReplaced, IsTurnBeside, ShutsOut, opener_passed, passed_turn}
use Rattle.tdb_openers.specs.Worlds.{World, law_of_task, BytesStand, IsBusy, Stands}
use Rattle.tdb_openers.proofs.ExplicitLocks.Aside.{one_number}
use Rattle.tdb_openers.proofs.ExplicitLocks.OwnSide.{own_barred}
use Rattle.tdb_openers.proofs.Joining.Occupied.{one_task}
use Rattle.tdb_openers.proofs.Barred.ShutOut.{IsBarred, stands_on_none}
use Rattle.tdb_openers.proofs.Barred.Passing.{passes_beside, passes_bytes, passes_world}
use Rattle.tdb_openers.proofs.openers.Openers.move_shut_out.Goals as goal

-- a job that moves a cursor is on that
moves_on : (j : Job) → IsMove j → (walking : Walking) × (j ≡ Jobs.Walk walking) × IsMove (Jobs.Walk walking)
moves_on (Jobs.Refused command reply) moves = absurd moves
moves_on (Jobs.Plain d) moves = absurd moves
moves_on (Jobs.Check checking) moves = absurd moves
moves_on (Jobs.Locking locking) moves = absurd moves
moves_on Jobs.Seqnum moves = absurd moves
moves_on (Jobs.Walk walking) moves = (walking, refl, moves)

-- no such turn is a step
never_steps : (holder : ℕ) (to : Option ℕ) → passed_turn holder to ≡ Step → ⊥
never_steps holder None e = cc e
never_steps holder (Some chain) e = cc e

-- an answer in either case
by_case : {V E : Type 0} (r : Result V E) (P : V → Type 0) (Q R : Type 0) → ((x : V) → P x → R) → (Q → R) → IfOk r P → OnErr r Q → R
by_case (Ok x) P Q R ok err p q = ok x p
by_case (Err e) P Q R ok err p q = err q

-- The opener whose turn it is, and what it leads to.
module _ (old new : World) (who holder : ℕ) (x : Opener) (t : Task) (B : IsBusy old who x t) (moves : IsMove t.job) (told : Type 0) (f : Form) (file : List ℕ) (size_of : ℕ) (turn : Turn) (P : IsPassed told f file size_of old who holder x new turn) where
  abbrev to : Option ℕ
  to = P.passed.found

  abbrev walk : (walking : Walking) × (t.job ≡ Jobs.Walk walking) × IsMove (Jobs.Walk walking)
  walk = moves_on t.job moves

  there : IsReplaced old who (opener_passed to x) new
  there = subst (λ y. IsReplaced old who y new) P.passed.after P.replaced

  beside_there : (form : f ≡ form_in old.header) → told → length file ≡ size_of → (any : List ℕ) (size : ℕ) → Stands old any size → (img : List ℕ) (past : Past) (s : Side) → holder ≢ who → ShutsOut old img past s holder → HeadsShow old img file s
      → IsTurnBeside old new img past s (law_opener who) (law_of_task t) (law_turn turn)
  beside_there form tells sized any size W img past s other O H =
      let C : IsBarred old img past s holder who x t any size = record { busy = B; other = other; shuts = O; stands = W } in
      let long : data_start f ≤ size_of = subst (λ g. data_start g ≤ size_of) (sym form) (let reaches = H.reaches in omega (arith, reaches, sized)) in
      subst (λ u. IsTurnBeside old new img past s (law_opener who) (law_of_task t) (law_turn u)) (sym P.passed.says)
      (passes_beside C walk.0 walk.1 walk.2 to there file H (subst (λ g. PassesTo g file (enters x.walk.cursor.place) to) form (P.passed.passed tells long)))

pub pass-requires-clause-there : goal.pass-requires-clause-there
pass-requires-clause-there g c = (c.requires.busy.0, c.requires.busy.2.number)

pub pass-requires-clause-off : goal.pass-requires-clause-off
pass-requires-clause-off g c x N =
    let B = c.requires.busy.2 in
    let C = own_barred c.requires.shut c.requires.other B c.requires.stands.2 in
    subst (λ (z : Opener). spot_of z.walk.cursor.place ≡ None) (one_number c.args.self.now c.args.who c.requires.busy.0 x B.number N) (stands_on_none C)

pub returns-clause-turned : goal.returns-clause-turned
returns-clause-turned g c =
    IfOk-weaker c.pass.result _ _
    (λ turn P told img past s x t B O H. (let moves = subst (λ (u : Task). IsMove u.job) (one_task c.requires.busy.2 B) c.requires.busy.3 in
    beside_there c.args.self.now c.pass.new.self c.args.who c.args.holder x t B moves (IsTrue g.S.Space.tells) (g.S.Space.form c.args.s.now) (g.S.Space.image c.args.s.now) (g.S.Space.size c.args.s.now) turn (P x B.number)
    c.requires.form told (g.met.S.Space.told_size c.args.s.now told) c.requires.stands.0 c.requires.stands.1 c.requires.stands.2 img past s c.requires.other O H))
    c.pass.ensures.passed

pub returns-clause-step : goal.returns-clause-step
returns-clause-step g c = IfOk-weaker c.pass.result _ _ (λ turn P is. (let Q = (P c.requires.busy.0 c.requires.busy.2.number).passed in never_steps c.args.holder Q.found (sym Q.says ∙ is))) c.pass.ensures.passed

pub returns-clause-stands : goal.returns-clause-stands
returns-clause-stands g c img size W =
    let x = c.requires.busy.0 in
    let t = c.requires.busy.1 in
    let B = c.requires.busy.2 in
    by_case c.pass.result _ _ (Stands c.pass.new.self img size)
    (λ turn P. (let Q = P x B.number in
    let C = own_barred c.requires.shut c.requires.other B W in
    let walk = moves_on t.job c.requires.busy.3 in
    passes_world C walk.0 walk.1 walk.2 Q.passed.found (subst (λ y. IsReplaced c.args.self.now c.args.who y c.pass.new.self) Q.passed.after Q.replaced)))
    (λ same. subst (λ z. Stands z img size) (sym same) W) c.pass.ensures.passed c.pass.ensures.stays

pub returns-clause-bytes : goal.returns-clause-bytes
returns-clause-bytes g c img F =
    let x = c.requires.busy.0 in
    let t = c.requires.busy.1 in
    let B = c.requires.busy.2 in
    by_case c.pass.result _ _ (BytesStand c.pass.new.self img)
    (λ turn P. (let Q = P x B.number in
    let C = own_barred c.requires.shut c.requires.other B c.requires.stands.2 in
    let walk = moves_on t.job c.requires.busy.3 in
    passes_bytes C walk.0 walk.1 walk.2 Q.passed.found (subst (λ y. IsReplaced c.args.self.now c.args.who y c.pass.new.self) Q.passed.after Q.replaced) img F))
    (λ same. subst (λ z. BytesStand z img) (sym same) F) c.pass.ensures.passed c.pass.ensures.stays

pub returns-clause-header : goal.returns-clause-header
returns-clause-header g c =
    by_case c.pass.result _ _ _ (λ turn P. ap (λ (z : World). z.header) (P c.requires.busy.0 c.requires.busy.2.number).replaced.rest) (λ same. ap (λ (z : World). z.header) same) c.pass.ensures.passed c.pass.ensures.stays

pub returns-clause-options : goal.returns-clause-options
returns-clause-options g c =
    by_case c.pass.result _ _ _ (λ turn P. ap (λ (z : World). z.options) (P c.requires.busy.0 c.requires.busy.2.number).replaced.rest) (λ same. ap (λ (z : World). z.options) same) c.pass.ensures.passed c.pass.ensures.stays

pub returns-clause-others : goal.returns-clause-others
returns-clause-others g c o ne =
    by_case c.pass.result _ _ _ (λ turn P. (P c.requires.busy.0 c.requires.busy.2.number).replaced.put.others o ne) (λ same. ap (λ (z : World). slice_get z.openers o) same) c.pass.ensures.passed c.pass.ensures.stays

pub returns-clause-joined : goal.returns-clause-joined
returns-clause-joined g c =
    by_case c.pass.result _ _ _ (λ turn P. (P c.requires.busy.0 c.requires.busy.2.number).replaced.put.same_length) (λ same. ap (λ (z : World). length z.openers) same) c.pass.ensures.passed c.pass.ensures.stays
