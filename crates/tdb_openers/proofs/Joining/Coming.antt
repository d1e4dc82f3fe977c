-- Openers who come to a world, and commands that are given there: it stands as before, and the law says so.
use Rattle.std.proofs.Common.{◌≡◌, ℕ, ◌+◌, ◌<◌, List, [], ◌∷◌, ◌++◌, length, slice_get, Option, Some, Result, Ok, Err, IfOk, OnOk, refl, sym, ap, subst, arith}
use Rattle.tdb_space.specs.Form.{form_in}
use Rattle.tdb_words.specs.declared.header.Header.{Header}
use Rattle.tdb_law.specs.Events.{Joins, Given}
use Rattle.tdb_commands.specs.declared.command.Command.{Command}
use Rattle.tdb_commands.specs.InLaw.{law_opener, law_command}
use Rattle.tdb_openers.specs.declared.opener.Opener.{Opener}
use Rattle.tdb_openers.specs.declared.job.Task.{Task}
use Rattle.tdb_openers.specs.Given.{IsWellHeld}
use Rattle.tdb_openers.specs.Openers.{OpenerStands, command_in}
use Rattle.tdb_openers.specs.Laws.{IsJoined, IsGiven}
use Rattle.tdb_openers.specs.Worlds.{World, state_in, Stands, BytesStand, fresh, IsFree, IsAssigned}
use Rattle.tdb_openers.proofs.Joining.Putting.{by_number}
use Rattle.tdb_openers.proofs.Joining.Arriving.{join_keeps_world, join_keeps_file, join_joins}
use Rattle.tdb_openers.proofs.Joining.Giving.{gift_keeps_world, gift_keeps_file, gift_is_given}

-- what holds of an Ok by what holds of its value
pub ok_from : {V F : Type 0} (r : Result V F) (P : V → Type 0) (Q : Type 0) → ((v : V) → P v → Q) → IfOk r P → OnOk r Q
ok_from (Ok v) P Q from p = from v p
ok_from (Err e) P Q from p = tt

pub if_all : {V F : Type 0} (r : Result V F) (P Q R S : V → Type 0) → ((v : V) → P v → Q v → R v → S v) → IfOk r P → IfOk r Q → IfOk r R → IfOk r S
if_all (Ok v) P Q R S all p q x = all v p q x
if_all (Err e) P Q R S all p q x = tt

-- an opener that joins
abbrev with_fresh : World → World
with_fresh w = record w { openers = w.openers ++ (fresh ∷ []) }

is_joined : (xs : List Opener) → IsJoined xs fresh (xs ++ (fresh ∷ []))
is_joined xs = record { pushed = refl; live = refl; idle = refl; nothing = refl; bare = refl }

module _ (w v : World) (e : v ≡ with_fresh w) (img : List ℕ) where
  pub stands_joined : (size : ℕ) → Stands w img size → length w.openers < 1000 → Stands v img size
  stands_joined size W few = subst (λ z. Stands z img size) (sym e) (join_keeps_world (form_in w.header) w.options w.openers _ w.table img size fresh W (is_joined w.openers) few)

  pub bytes_joined : BytesStand w img → BytesStand v img
  bytes_joined F = subst (λ z. BytesStand z img) (sym e) (join_keeps_file (form_in w.header) w.openers _ img fresh F (is_joined w.openers))

  pub joins_joined : (size who : ℕ) → Stands w img size → who ≡ length w.openers + 1 → length w.openers < 1000 → Joins (form_in w.header) (state_in w img) (law_opener who) (state_in v img)
  joins_joined size who W number few =
      subst (λ z. Joins (form_in w.header) (state_in w img) (law_opener who) (state_in z img)) (sym e)
      (subst (λ o. Joins (form_in w.header) (state_in w img) o (state_in (with_fresh w) img)) (sym (by_number who (length w.openers) number))
      (join_joins (form_in w.header) w.options w.openers _ w.table img size fresh W (is_joined w.openers) few))

-- an opener of a world that stands holds its explicit locks well, and it has no cursor
pub held_free : (w : World) (who : ℕ) (x : Opener) → IsFree w who x → (img : List ℕ) (size : ℕ) → Stands w img size → IsWellHeld x.held
held_free w who x F img size W = (subst (OpenerStands (form_in w.header) w.options size) F.number.there (W.openers_stand F.number.place)).0

-- a command that is given
module _ (w v : World) (who size : ℕ) (x : Opener) (c : Command) (F : IsFree w who x) (A : IsAssigned w who x c size v) (img : List ℕ) where
  abbrev task : Task
  task = A.task

  abbrev now : Opener
  now = record x { task = Some task }

  abbrev with_openers : World → World
  with_openers z = record z { openers = v.openers }

  same_rest : v ≡ with_openers w
  same_rest = ap with_openers A.rest

  abbrev begun : ℕ → Option Task
  begun n = Some (record { steps = n; job = task.job })

  given : IsGiven x task.job now
  given = record { live = F.live; idle = F.idle; task = ap begun A.steps; same_live = refl; same_held = refl; same_walk = refl }

  there : slice_get w.openers A.place ≡ Some x
  there = subst (λ p. slice_get w.openers p ≡ Some x) (let one = F.number.counted in let other = A.counted in omega (arith, one, other)) F.number.there

  pub stands_given : Stands w img size → Stands v img size
  stands_given W = subst (λ z. Stands z img size) (sym same_rest) (gift_keeps_world (form_in w.header) w.options w.openers v.openers w.table img size A.place x now task.job W there A.put given A.stands)

  pub bytes_given : BytesStand w img → BytesStand v img
  bytes_given B = subst (λ z. BytesStand z img) (sym same_rest) (gift_keeps_file (form_in w.header) w.options w.openers v.openers img size A.place x now task.job B there A.put given A.stands)

  pub is_given : Given (state_in w img) (law_opener who) (law_command c) (state_in v img)
  is_given =
      subst (λ z. Given (state_in w img) (law_opener who) (law_command c) (state_in z img)) (sym same_rest)
      (subst (λ d. Given (state_in w img) (law_opener who) d (state_in (with_openers w) img)) A.command
      (subst (λ o. Given (state_in w img) o (command_in task.job) (state_in (with_openers w) img)) (sym (by_number who A.place A.counted))
      (gift_is_given (form_in w.header) w.options w.openers v.openers w.table img A.place x now task.job there A.put given)))

abbrev header_of : World → Header
header_of z = z.header

-- the header stays where a command is given
pub same_header : {w v : World} {who size : ℕ} {x : Opener} {c : Command} → IsAssigned w who x c size v → v.header ≡ w.header
same_header A = ap header_of A.rest
