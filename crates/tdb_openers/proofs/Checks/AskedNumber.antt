-- An opener that asks for the sequence number, and the end of its command.
use Rattle.std.proofs.Common.{◌≡◌, ℕ, List, set, slice_get, false, Option, Some, None, refl, sym, ◌∙◌, ap, subst}
use Rattle.tdb_space.specs.Form.{Form, form_in}
use Rattle.tdb_law.specs.Commands.Command.{Seqnum}
use Rattle.tdb_law.specs.Commands.Reply.{Number}
use Rattle.tdb_law.specs.Commands.Turn.{Ends}
use Rattle.tdb_law.specs.Openers.{Own, Spot, View}
use Rattle.tdb_law.specs.Refusals.{refusal}
use Rattle.tdb_law.specs.World.{State}
use Rattle.tdb_law.specs.Effects.{IsFree}
use Rattle.tdb_law.specs.Turned.{want}
use Rattle.tdb_law.specs.OneAside.Sides.{Past, Side, beside}
use Rattle.tdb_law.specs.OneAside.Turns.{without_task}
use Rattle.tdb_law.specs.OneAside.Turns.EndsAtOnce.{ends_numbered}
use Rattle.tdb_law.proofs.OneAside.Idle.{end_is_turned}
use Rattle.tdb_law.proofs.OneAside.Parted.{put_back}
use Rattle.tdb_commands.specs.InLaw.{law_opener, law_command}
use Rattle.tdb_openers.specs.declared.opener.Opener.{Opener}
use Rattle.tdb_openers.specs.declared.job.Job.{Job}
use Rattle.tdb_openers.specs.declared.job.Job.TheVariants as Jobs
use Rattle.tdb_openers.specs.declared.job.Task.{Task}
use Rattle.tdb_openers.specs.Openers.{own_of, command_in, law_task, spots_of, IsRefused, JobStands}
use Rattle.tdb_openers.specs.Openers.IsRefused.{refuses, has_ended}
use Rattle.tdb_openers.specs.ShutOut.{IsTurnBeside, IsReplaced}
use Rattle.tdb_openers.specs.States.{view_for, view_under, view_at}
use Rattle.tdb_openers.specs.Worlds.{World, state_in, law_of_task, Stands, BytesStand, IsBusy}
use Rattle.tdb_openers.proofs.Joining.Occupied.{Rests, found, own_here, job_at, near_at, rests_by, world_ended, bytes_ended}
use Rattle.tdb_openers.proofs.Joining.Putting.{replaced_rest}
use Rattle.tdb_openers.proofs.Joining.Replacing.{state_replaced, same_at, same_entries}
use Rattle.tdb_openers.proofs.Barred.ShutOut.{IsBarred, its_own, its_spot, its_task}
use Rattle.tdb_openers.proofs.Barred.ShutWorlds.{ended_beside, beside_by}

-- its own state never refuses that
never_refused : (f : Form) (x : Own) → x.txn ≡ None → refusal f Seqnum x ≡ None
unfolding refusal
never_refused f x out = rw out refl

refused_else : (f : Form) (x : Own) (c : _) (r : _) → x.txn ≡ None → IsRefused f x c r → c ≡ Seqnum → ⊥
refused_else f x c r out (refuses why is told) asks = let bad = sym (never_refused f x out) ∙ ap (λ d. refusal f d x) (sym asks) ∙ is in cc bad
refused_else f x c r out (has_ended is free none told) asks = let bad = sym asks ∙ is in cc bad

-- so its job asks for the number
asks_job : (f : Form) (x : Own) (job : Job) (n size : ℕ) → x.txn ≡ None → JobStands f x job n size → command_in job ≡ Seqnum → job ≡ Jobs.Seqnum
asks_job f x (Jobs.Refused command reply) n size out K asks = absurd (refused_else f x (law_command command) _ out K.1 asks)
asks_job f x (Jobs.Plain d) n size out K asks = absurd (cc asks)
asks_job f x (Jobs.Check checking) n size out K asks = absurd (cc asks)
asks_job f x (Jobs.Locking locking) n size out K asks = absurd (cc asks)
asks_job f x Jobs.Seqnum n size out K asks = refl
asks_job f x (Jobs.Walk walking) n size out K asks = absurd (cc asks)

pub asks_there : {w : World} {who : ℕ} {x : Opener} {t : Task} {any : List ℕ} {size : ℕ} → IsBusy w who x t → Stands w any size → command_in t.job ≡ Seqnum → t.job ≡ Jobs.Seqnum
asks_there {w = w} {x = x} {t = t} {size = size} B W asks = asks_job (form_in w.header) (own_of w.options x) t.job t.steps size refl (job_at B W t.job refl) asks

module _ {w : World} {who : ℕ} {x : Opener} {t : Task} {any : List ℕ} {size : ℕ} (B : IsBusy w who x t) (W : Stands w any size) (asks : t.job ≡ Jobs.Seqnum) where
  -- and it has had no step
  pub asks_new : t.steps ≡ 0
  asks_new = (job_at B W Jobs.Seqnum asks).0

  asks_rests : Rests B W
  asks_rests = rests_by B W Jobs.Seqnum asks refl asks_new refl

  module _ {v : World} (R : IsReplaced w who (record x { task = None }) v) where
    pub asked_world : Stands v any size
    asked_world = subst (λ z. Stands z any size) (replaced_rest R) (world_ended B W v.openers asks_rests R.put)

    pub asked_bytes : (a : List ℕ) → BytesStand w a → BytesStand v a
    asked_bytes a F = subst (λ z. BytesStand z a) (replaced_rest R) (bytes_ended B W v.openers asks_rests (record x { task = None }) refl refl R.put a F)

    -- the state is as before without the command: on no cursor, it has no view
    pub asked_state : (img : List ℕ) → state_in v img ≡ without_task (state_in w img) (law_opener who)
    asked_state img = subst (λ z. state_in z img ≡ without_task p l) (replaced_rest R) (ap (λ views. record later { view = views }) (λ i o. view_there o i)
        ∙ (state_replaced w.openers v.openers l x (record x { task = None }) (found B) R.put refl (form_in w.header) w.options w.table img p.view
        ∙ (λ i. record (without_task p l) { own = put_back l (own_of w.options x) p.own (own_here B img) i })))
      where
        l : ℕ
        l = law_opener who

        p : State
        p = state_in w img

        later : State
        later = state_in (record w { openers = v.openers }) img

        views : List ℕ → ℕ → Option Opener → View
        views entries o z = view_at (form_in w.header) w.options img (set entries o 0) z

        no_view_before : (entries : List ℕ) (o : ℕ) → views entries o (Some (record x { task = None })) ≡ views entries o (Some x)
        no_view_before entries o = sym (ap (λ u. view_under (form_in w.header) w.options img (set entries o 0) x (law_task u)) B.busy ∙ ap (λ j. view_for (form_in w.header) w.options img (set entries o 0) x (command_in j)) asks)

        view_there : (o : ℕ) → later.view o ≡ p.view o
        view_there o = ap (λ entries. views entries o (slice_get v.openers o)) (same_entries w.openers v.openers l x (record x { task = None }) (found B) R.put refl)
            ∙ same_at w.openers v.openers l x (record x { task = None }) (found B) R.put (views (spots_of w.openers) o) (no_view_before (spots_of w.openers) o) o

-- Beside an opener that shuts it out, where nobody is in the way of the number, the end that tells it is a turn of the
-- whole state.
pub asked_beside : {w v : World} {img : List ℕ} {past : Past} {s : Side} {holder who : ℕ} {x : Opener} {t : Task} {any : List ℕ} {size : ℕ} → IsBarred w img past s holder who x t any size → t.job ≡ Jobs.Seqnum
    → IsReplaced w who (record x { task = None }) v → let q = beside (state_in w img) past s in IsFree q.table (law_opener who) (want (form_in w.header) q (law_opener who) (law_of_task t))
    → IsTurnBeside w v img past s (law_opener who) (law_of_task t) (Ends (Number q.number))
asked_beside {w = w} {v = v} {img = img} {past = past} {s = s} {who = who} {x = x} {t = t} C asks R free =
    let q = beside (state_in w img) past s in
    let out : (q.own (law_opener who)).txn ≡ None = ap (λ (z : Own). z.txn) (its_own C) in
    let near : (q.spot (law_opener who)).gone ≡ false = ap (λ (z : Spot). z.gone) (its_spot C) ∙ near_at C.busy C.stands Jobs.Seqnum asks refl in
    let T = end_is_turned (form_in w.header) q (law_opener who) (law_of_task t) (Number q.number) C.shuts.sound refl (its_task C) (asks_new C.busy C.stands asks) near
    (ends_numbered (ap command_in asks) (subst (λ c. refusal (form_in w.header) c (q.own (law_opener who)) ≡ None) (sym (ap command_in asks)) (never_refused (form_in w.header) (q.own (law_opener who)) out)) out free refl) in
    subst (λ z. IsTurnBeside w z img past s (law_opener who) (law_of_task t) (Ends (Number q.number))) (replaced_rest R)
    (beside_by C v.openers (Ends (Number q.number)) (without_task q (law_opener who)) T refl (ended_beside C v.openers R.put) (record x { task = None }) R.put)
