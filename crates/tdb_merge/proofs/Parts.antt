-- Parts of a merge one after another, parts in which nothing is done, and parts that break off.
use Rattle.std.proofs.Common.{◌≡◌, ℕ, Result, Ok, Err, false, refl, sym, ◌∙◌, ap, subst, inl, inr, arith}
use Rattle.std.specs.Prelude.{Bool, OnOk}
use Rattle.std.proofs.lemmas.Bool.{cases_eq}
use Rattle.tdb_chain.specs.declared.refusal.ValueRefusal.{ValueRefusal}
use Rattle.tdb_chain.specs.declared.refusal.ValueRefusal.TheVariants as Unread
use Rattle.tdb_disk.specs.Count.{Rose}
use Rattle.tdb_disk.specs.History.{seen}
use Rattle.tdb_disk.specs.Stop.{LeavesOnly}
use Rattle.tdb_disk.proofs.Runs.{leaves_join, leaves_start}
use Rattle.tdb_space.specs.Form.{form_in}
use Rattle.tdb_space.specs.Opening.{restored}
use Rattle.tdb_law.specs.Openers.{Map, Own, opened}
use Rattle.tdb_law.specs.Lines.{joined_state}
use Rattle.tdb_law.specs.World.{IsSound}
use Rattle.tdb_law.specs.Standing.{Stands}
use Rattle.tdb_law.proofs.Happening.{join_lawful}
use Rattle.tdb_law.proofs.Walking.{put_else, put_here}
use Rattle.tdb_commands.specs.InLaw.{law_opener}
use Rattle.tdb_world.specs.OverFile.{OverFile}
use Rattle.tdb_world.specs.OverFiles.Openers.{HasJoined}
use Rattle.tdb_world.specs.States.{IsStateOf}
use Rattle.tdb_world.specs.Stops.{IsSafe}
use Rattle.tdb_world.specs.Whole.{form_at}
use Rattle.tdb_world.proofs.Reopening.{state_reopens}
use Rattle.tdb_world.proofs.Stopping.{transactions_safe}
use Rattle.tdb_merge.specs.Faults.{OnDevice, UnlessDevice, of_value}
use Rattle.tdb_world.specs.Calm.{OpensToEither}
use Rattle.tdb_merge.specs.Parts.{AtRest, Inside, IsReadWith, Led, Outside, PartLeaves, Phase, Ran}
use Rattle.tdb_merge.specs.declared.fault.MergeFault.{MergeFault}
use Rattle.tdb_merge.specs.declared.fault.MergeFault.TheVariants.{Full, Starved, Read, Device, Log, Memory}
use Rattle.tdb_world.proofs.Calm.{rest_file}

abbrev Answer : Type 0
Answer = Result (Unit {0}) MergeFault

-- what holds unless the disk failed, and where it did
pub unless_true : (answer : Answer) (P : Type 0) → P → UnlessDevice answer P
unless_true (Ok v) P p = p
unless_true (Err (Full len need)) P p = p
unless_true (Err Starved) P p = p
unless_true (Err Read) P p = p
unless_true (Err Device) P p = tt
unless_true (Err Log) P p = p
unless_true (Err Memory) P p = p

pub unless_more : (answer : Answer) (P Q : Type 0) → (P → Q) → UnlessDevice answer P → UnlessDevice answer Q
unless_more (Ok v) P Q more p = more p
unless_more (Err (Full len need)) P Q more p = more p
unless_more (Err Starved) P Q more p = more p
unless_more (Err Read) P Q more p = more p
unless_more (Err Device) P Q more p = tt
unless_more (Err Log) P Q more p = more p
unless_more (Err Memory) P Q more p = more p

-- what holds where it is done
pub ok_more : (answer : Answer) (P Q : Type 0) → (P → Q) → OnOk answer P → OnOk answer Q
ok_more (Ok v) P Q more p = more p
ok_more (Err e) P Q more p = tt

-- where a part breaks off, what it was to lead to doesn't count
leaves_err : (m n : Map) (A B : Type 0) (w : OverFile) (e : MergeFault) → PartLeaves m n A w (Err e) → PartLeaves m n B w (Err e)
leaves_err m n A B w (Full len need) p = p
leaves_err m n A B w Starved p = p
leaves_err m n A B w Read p = p
leaves_err m n A B w Device p = p
leaves_err m n A B w Log p = p
leaves_err m n A B w Memory p = p

-- the file of a world at rest has the committed map
pub rest_read : (m : Map) (p : Phase) (w : OverFile) → AtRest m p w → IsReadWith m w
rest_read m p w R = sym (rest_file (form_at w.world) R.state R.replay R.sound R.stands R.begun ∙ R.map) ∙ (state_reopens w.world w.history R.state R.has).file

-- a safe one opens to it, whenever the machine stops
pub rest_opens : (m n : Map) (p : Phase) (w : OverFile) → AtRest m p w → IsSafe (form_at w.world) w.history → LeavesOnly w.history w.history (OpensToEither (form_at w.world) m n)
rest_opens m n p w R safe =
    leaves_start w.history (OpensToEither (form_at w.world) m n)
    (λ c left. inl (record { image = restored (form_at w.world) (seen w.history); reopens = safe c left; map = rest_read m p w R }))

-- within a transaction it is safe
pub inside_safe : (m b : Map) (w : OverFile) → AtRest m (Inside b) w → IsSafe (form_at w.world) w.history
inside_safe m b w R = transactions_safe w.world w.history R.state 0 R.own.txn R.has (ap (λ (y : Own). y.txn) (sym (R.stands.owns 0)) ∙ R.own.has)

-- How parts ran.
pub ran_none : (w : OverFile) (answer : Answer) → w.spent ≡ false → Ran w w answer
ran_none w answer unspent = record {
  header = unless_true answer (w.world.openers.header ≡ w.world.openers.header) refl;
  unspent = unless_true answer (w.spent ≡ false) unspent;
  rises = omega arith;
  quiet = unless_true answer (w.faults ≡ w.faults) refl;
}

pub ran_kept : (w v : OverFile) (answer : Answer) → v ≡ w → w.spent ≡ false → Ran w v answer
ran_kept w v answer kept unspent = subst (λ z. Ran w z answer) (sym kept) (ran_none w answer unspent)

pub ran_join : (a b c : OverFile) (answer : Answer) → Ran a b (Ok tt) → Ran b c answer → Ran a c answer
ran_join a b c answer A B = record {
  header = unless_more answer (c.world.openers.header ≡ b.world.openers.header) (c.world.openers.header ≡ a.world.openers.header) (λ same. same ∙ A.header) B.header;
  unspent = B.unspent;
  rises = (let one = A.rises in let two = B.rises in omega (arith, one, two));
  quiet = unless_more answer (c.faults ≡ b.faults) (c.faults ≡ a.faults) (λ same. same ∙ A.quiet) B.quiet;
}

-- a part that was done to its end, as it is if more isn't
pub ran_ended : (a b : OverFile) (answer : Answer) → Ran a b (Ok tt) → Ran a b answer
ran_ended a b answer A = record {
  header = unless_true answer (b.world.openers.header ≡ a.world.openers.header) A.header;
  unspent = unless_true answer (b.spent ≡ false) A.unspent;
  rises = A.rises;
  quiet = unless_true answer (b.faults ≡ a.faults) A.quiet;
}

module _ (t : Bool) (m n : Map) (from : Phase) where
  -- nothing was done
  pub led_none : (w : OverFile) → Led t m n from m from w w (Ok tt)
  led_none w = record {
    left = λ told R. R;
    stops = λ told R safe. rest_opens m n from w R safe;
    safe = λ told R safe. safe;
    rose = λ told R. tt;
  }

  -- one part and then another
  pub led_join : (to last : Phase) (end : Map) (a b c : OverFile) (answer : Answer) → Ran a b (Ok tt) → Led t m n from m to a b (Ok tt) → Led t m n to end last b c answer → Led t m n from end last a c answer
  led_join to last end a b c answer ran A B =
      let same : form_at b.world ≡ form_at a.world = ap form_in ran.header in
      record {
        left = λ told R. B.left told (A.left told R);
        stops = λ told R safe.
            (let mid = subst (λ f. IsSafe f b.history) (sym same) (A.safe told R safe) in
            leaves_join a.history b.history c.history (OpensToEither (form_at a.world) m n) (A.stops told R safe)
            (subst (λ f. LeavesOnly b.history c.history (OpensToEither f m n)) same (B.stops told (A.left told R) mid)));
        safe = λ told R safe.
            (let mid = subst (λ f. IsSafe f b.history) (sym same) (A.safe told R safe) in
            subst (λ f. UnlessDevice answer (IsSafe f c.history)) same (B.safe told (A.left told R) mid));
        rose = λ told R. subst (λ k. OnDevice answer (Rose k c.faults)) ran.quiet (B.rose told (A.left told R));
      }

  -- one that broke off, before others
  pub led_broke : (to last : Phase) (end one : Map) (a b : OverFile) (e : MergeFault) → Led t m n from one to a b (Err e) → Led t m n from end last a b (Err e)
  led_broke to last end one a b e A = record {
    left = λ told R. leaves_err m n (AtRest one to b) (AtRest end last b) b e (A.left told R);
    stops = A.stops;
    safe = A.safe;
    rose = A.rose;
  }

  -- A part that was done to its end, behind which the next pair wasn't read, or there was no memory for it.
  pub led_unread : (to last : Phase) (end : Map) (a b : OverFile) (refusal : ValueRefusal) → Led t m n from m to a b (Ok tt) → Led t m n from end last a b (Err (of_value refusal))
  led_unread to last end a b Unread.Io A = record { left = λ told R. rest_read m to b (A.left told R); stops = A.stops; safe = A.safe; rose = λ told R. tt }
  led_unread to last end a b Unread.Memory A = record { left = λ told R. inl (rest_read m to b (A.left told R)); stops = A.stops; safe = A.safe; rose = λ told R. tt }

  pub led_wanting : (to last : Phase) (end : Map) (a b : OverFile) → Led t m n from m to a b (Ok tt) → Led t m n from end last a b (Err Memory)
  led_wanting to last end a b A = led_unread to last end a b Unread.Memory A

  -- nothing was done, for want of memory
  pub led_not : (last : Phase) (end : Map) (w v : OverFile) → v ≡ w → Led t m n from end last w v (Err Memory)
  led_not last end w v kept = subst (λ z. Led t m n from end last w z (Err Memory)) (sym kept) (led_wanting from last end w w (led_none w))

-- The opener joined.
module _ (t : Bool) (w v : OverFile) (who : ℕ) (J : HasJoined w v who) where
  header : v.world.openers.header ≡ w.world.openers.header
  header = J.memory.form.header

  history : v.history ≡ w.history
  history = ap (λ (x : OverFile). x.history) J.memory.file

  pub join_ran : w.spent ≡ false → Ran w v (Ok tt)
  join_ran unspent =
      let faults : v.faults ≡ w.faults = ap (λ (x : OverFile). x.faults) J.memory.file in
      record {
        header = header;
        unspent = ap (λ (x : OverFile). x.spent) J.memory.file ∙ unspent;
        rises = omega (arith, faults);
        quiet = faults;
      }

  join_rest : (m : Map) → AtRest m Outside w → AtRest m Outside v
  join_rest m R =
      let f = form_at w.world in
      let L = J.leads w.history R.state R.has in
      let o = law_opener who in
      let H = join_lawful f R.state L.0 o R.replay R.sound R.stands L.2 in
      let same : f ≡ form_at v.world = ap form_in (sym header) in
      record {
        state = L.0;
        has = subst (λ h. IsStateOf v.world h L.0) (sym history) L.1;
        sound = subst (λ g. IsSound g L.0) same H.sound;
        replay = joined_state f R.replay o;
        stands = subst (λ g. Stands g L.0 (joined_state f R.replay o)) same H.stands;
        map = R.map;
        begun = R.begun;
        fresh = R.fresh;
        own = elim (cases_eq 0 o) [
          | inl is ↦ ap (λ (y : Own). y.txn) (put_here R.replay.own o (opened (R.replay.own o)) 0 is)
          | inr ne ↦ ap (λ (y : Own). y.txn) (put_else R.replay.own o (opened (R.replay.own o)) 0 ne) ∙ R.own
        ];
      }

  pub join_led : (m n : Map) → Led t m n Outside m Outside w v (Ok tt)
  join_led m n = record {
    left = λ told R. join_rest m R;
    stops = λ told R safe. subst (λ h. LeavesOnly w.history h (OpensToEither (form_at w.world) m n)) (sym history) (rest_opens m n Outside w R safe);
    safe = λ told R safe. subst (IsSafe (form_at w.world)) (sym history) safe;
    rose = λ told R. tt;
  }
