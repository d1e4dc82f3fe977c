-- The turns of a command, one after the other.
use Rattle.std.proofs.Common.{◌≡◌, ℕ, ◌+◌, ◌<◌, ◌≤◌, Bool, false, IsTrue, Option, None, Some, Result, Ok, Err, refl, sym, ◌∙◌, ap, subst, subst₂, inl, arith}
use Rattle.std.specs.Prelude.{IfOk}
use Rattle.tdb_disk.specs.Count.{Rose}
use Rattle.tdb_disk.specs.Stop.{LeavesOnly}
use Rattle.tdb_disk.proofs.Runs.{leaves_join, leaves_weaker}
use Rattle.tdb_space.specs.Form.{form_in}
use Rattle.tdb_law.specs.Commands.{Command}
use Rattle.tdb_law.specs.Commands.Command.{OnGroup}
use Rattle.tdb_law.specs.Commands.GroupCommand.{Commit}
use Rattle.tdb_law.specs.Ends.{last_step}
use Rattle.tdb_law.specs.Openers.{Map, Own, Txn, image_or}
use Rattle.tdb_commands.specs.InLaw.{law_opener, law_reply, law_turn}
use Rattle.tdb_locks.specs.declared.turn.Reply.{Reply}
use Rattle.tdb_locks.specs.declared.turn.Turn.{Turn}
use Rattle.tdb_locks.specs.declared.turn.Turn.TheVariants as Turns
use Rattle.tdb_world.specs.OverFile.{OverFile, KeepsForm, OnlyInMemory}
use Rattle.tdb_world.specs.OverFiles.Turns.{CountsFaults, StopsInTurn, TookTurn}
use Rattle.tdb_world.specs.Steps.{HasCommand}
use Rattle.tdb_world.specs.Stops.{IsSafe}
use Rattle.tdb_world.specs.Calm.{OpensToMap}
use Rattle.tdb_group.specs.Members.{IsMember, form_of_file}
use Rattle.tdb_group.specs.Turns.{CommandLeft, Did, Given, IsPlain, MayOpen, NotGiven, OnIo, Ran, UnlessIo, map_to, new_task}
use Rattle.tdb_group.specs.declared.stop.FileStop.{FileStop}
use Rattle.tdb_group.specs.declared.stop.FileStop.TheVariants.{Refused, Io, LogFailed, Memory as Starved}
use Rattle.tdb_group.proofs.Files.{member_opens}
use Rattle.tdb_group.proofs.Turning.{after_steps, ended, here_stops, never_blocked, step_below, stepped, turn_safe, turn_stops}

-- What holds unless the disk failed.
pub unless_true : {V : Type 0} (answer : Result V FileStop) (P : Type 0) → P → UnlessIo answer P
unless_true (Ok v) P p = p
unless_true (Err (Refused reply)) P p = p
unless_true (Err Io) P p = tt
unless_true (Err LogFailed) P p = p
unless_true (Err Starved) P p = p

pub unless_more : {V : Type 0} (answer : Result V FileStop) (P Q : Type 0) → (P → Q) → UnlessIo answer P → UnlessIo answer Q
unless_more (Ok v) P Q more p = more p
unless_more (Err (Refused reply)) P Q more p = more p
unless_more (Err Io) P Q more p = tt
unless_more (Err LogFailed) P Q more p = more p
unless_more (Err Starved) P Q more p = more p

-- the same of a command that was given before
given_left : (c : Command) (x : Own) (m : Map) (w : OverFile) (answer : Result (Option Reply) FileStop) → IfOk answer (CommandLeft c (Some (new_task c)) x m w) → IfOk answer (CommandLeft c None x m w)
given_left c x m w (Ok None) left = absurd (let none = left.0 in cc none)
given_left c x m w (Ok (Some reply)) left = left
given_left c x m w (Err e) left = tt

-- the map of a transaction that is committed is the one that a stop may find
pub image_to : (c : Command) (x : Own) (m : Map) (t : Txn) → c ≡ OnGroup Commit → x.txn ≡ Some t → t.image ≡ map_to c x m
image_to c x m t is has = subst (λ d. t.image ≡ map_to d x m) (sym is) (sym (ap (λ z. image_or z m) has))

-- So many turns of a command were taken, all of them steps. From a safe file each stop leaves one that opens as it may
-- in the command, and the file is safe.
pub record SoFar (tells : Bool) (a b : OverFile) (k : ℕ) : Type 0 where
  pub busy : HasCommand b.world 1
  pub fresh : b.world.stale ≡ false
  pub unspent : b.spent ≡ false
  pub form : KeepsForm a b
  pub faults : b.faults ≡ a.faults
  pub member : IsTrue tells → (c : Command) (m : Map) (x : Own) → IsMember m x (Some (new_task c)) a → IsPlain (form_of_file a) c x → IsMember m x (Some (after_steps c k)) b × (k ≤ last_step (form_of_file a) c x)
  pub safe : IsTrue tells → (c : Command) (m : Map) (x : Own) → IsMember m x (Some (new_task c)) a → IsPlain (form_of_file a) c x → IsSafe (form_of_file a) a.history → IsSafe (form_of_file a) b.history
  pub stops : IsTrue tells → (c : Command) (m : Map) (x : Own) → IsMember m x (Some (new_task c)) a → IsPlain (form_of_file a) c x → IsSafe (form_of_file a) a.history
      → LeavesOnly a.history b.history (MayOpen (form_of_file a) m c x)

pub keeps_itself : (w : OverFile) → KeepsForm w w
keeps_itself w = record { header = refl; options = refl }

pub keeps_on : (a b z : OverFile) → KeepsForm a b → KeepsForm b z → KeepsForm a z
keeps_on a b z A B = record { header = B.header ∙ A.header; options = B.options ∙ A.options }

-- A turn in the middle of a command.
module _ (tells : Bool) (a b z : OverFile) (k : ℕ) (S : SoFar tells a b k) where
  same : form_of_file b ≡ form_of_file a
  same = ap form_in S.form.header

  module _ (told : IsTrue tells) (c : Command) (m : Map) (x : Own) (M : IsMember m x (Some (new_task c)) a) (P : IsPlain (form_of_file a) c x) where
    here : IsMember m x (Some (after_steps c k)) b
    here = (S.member told c m x M P).0

    plain : IsPlain (form_of_file b) c x
    plain = subst (λ g. IsPlain g c x) (sym same) P

    no_step : (last_step (form_of_file b) c x ≡ 0) → k ≡ 0
    no_step none =
        let low = (S.member told c m x M P).1 in
        let last : last_step (form_of_file a) c x ≡ 0 = subst (λ g. last_step g c x ≡ 0) same none in
        omega (arith, low, last)

    -- each stop in it leaves what it may
    pub more_stops : StopsInTurn b z 1 → IsSafe (form_of_file a) a.history → LeavesOnly a.history z.history (MayOpen (form_of_file a) m c x)
    more_stops stops safe =
        let mid : IsSafe (form_of_file b) b.history = subst (λ g. IsSafe g b.history) (sym same) (S.safe told c m x M P safe) in
        leaves_join a.history b.history z.history (MayOpen (form_of_file a) m c x) (S.stops told c m x M P safe)
        (subst (λ g. LeavesOnly b.history z.history (MayOpen g m c x)) same (turn_stops m x c k b here plain (map_to c x m) (image_to c x m) no_step z stops mid))

    pub more_safe : (turn : Turn) → TookTurn tells b z 1 turn → IsSafe (form_of_file a) a.history → IsSafe (form_of_file a) z.history
    more_safe turn T safe =
        let mid : IsSafe (form_of_file b) b.history = subst (λ g. IsSafe g b.history) (sym same) (S.safe told c m x M P safe) in
        subst (λ g. IsSafe g z.history) same (T.safe told here.state (turn_safe m x c k b here plain (map_to c x m) (image_to c x m) no_step mid))

  -- a step more
  pub so_far_step : TookTurn tells b z 1 Turns.Step → (IsTrue tells → StopsInTurn b z 1) → z.faults ≡ b.faults → z.spent ≡ false → SoFar tells a z (k + 1)
  so_far_step T stops faults unspent = record {
    busy = T.busy refl;
    fresh = T.fresh;
    unspent = unspent;
    form = keeps_on a b z S.form T.form;
    faults = faults ∙ S.faults;
    member = λ told c m x M P.
        (let H = here told c m x M P in
        let Q = plain told c m x M P in
        let L = T.leads told H.state H.has in
        let below = step_below m x c k b H Q L.0 L.1 (law_turn Turns.Step) L.3 refl in
        let first : k < last_step (form_of_file a) c x = subst (λ g. k < last_step g c x) same below in
        let low : k + 1 ≤ last_step (form_of_file a) c x = omega (arith, first) in
        (stepped m x c k b H Q L.0 L.1 (law_turn Turns.Step) L.3 z T.form L.2 refl, low));
    safe = λ told c m x M P safe. more_safe told c m x M P Turns.Step T safe;
    stops = λ told c m x M P safe. more_stops told c m x M P (stops told) safe;
  }

  -- its end
  pub did_ended : (reply : Reply) → TookTurn tells b z 1 (Turns.Done reply) → (IsTrue tells → StopsInTurn b z 1) → (c : Command) → Did tells c (Some (new_task c)) a z (Ok (Some reply))
  did_ended reply T stops c = record {
    left = λ told m x M P.
        (let H = here told c m x M P in
        let L = T.leads told H.state H.has in
        ended m x c k b H (plain told c m x M P) L.0 L.1 (law_turn (Turns.Done reply)) L.3 z T.form L.2 (law_reply reply) refl);
    stops = λ told m x M P safe. more_stops told c m x M P (stops told) safe;
    safe = λ told m x M P safe. more_safe told c m x M P (Turns.Done reply) T safe;
    rose = λ told m x M P. tt;
  }

  -- a turn that is blocked, which never comes
  pub did_blocked : (owner byte : ℕ) → TookTurn tells b z 1 (Turns.Blocked owner byte) → (IsTrue tells → StopsInTurn b z 1) → (c : Command) → Did tells c (Some (new_task c)) a z (Ok None)
  did_blocked owner byte T stops c = record {
    left = λ told m x M P.
        (let H = here told c m x M P in
        let L = T.leads told H.state H.has in
        absurd (never_blocked m x c k b H (plain told c m x M P) L.0 L.1 (law_turn (Turns.Blocked owner byte)) L.3 (law_opener owner) byte refl));
    stops = λ told m x M P safe. more_stops told c m x M P (stops told) safe;
    safe = λ told m x M P safe. more_safe told c m x M P (Turns.Blocked owner byte) T safe;
    rose = λ told m x M P. tt;
  }

  -- a turn in which the disk failed
  pub did_failed : {E : Type 0} (e : E) → CountsFaults {V = Turn} tells b z (Err e) → (IsTrue tells → StopsInTurn b z 1) → (c : Command) → Did tells c (Some (new_task c)) a z (Err Io)
  did_failed e faults stops c = record {
    left = λ told m x M P. tt;
    stops = λ told m x M P safe. more_stops told c m x M P (stops told) safe;
    safe = λ told m x M P safe. tt;
    rose = λ told m x M P.
        (let H = here told c m x M P in
        subst (λ n. Rose n z.faults) S.faults (faults.failed told H.state H.has));
  }

-- no turn was taken yet
pub so_far_none : (tells : Bool) (a : OverFile) → HasCommand a.world 1 → a.world.stale ≡ false → a.spent ≡ false → SoFar tells a a 0
so_far_none tells a busy fresh unspent = record {
  busy = busy;
  fresh = fresh;
  unspent = unspent;
  form = keeps_itself a;
  faults = refl;
  member = λ told c m x M P. (M, omega arith);
  safe = λ told c m x M P safe. safe;
  stops = λ told c m x M P safe. here_stops m x c 0 a M P (map_to c x m) (image_to c x m) (λ none. refl) safe;
}

-- nine turns that are all steps never come
pub did_over : (tells : Bool) (a b : OverFile) → SoFar tells a b 9 → (c : Command) → Did tells c (Some (new_task c)) a b (Ok None)
did_over tells a b S c = record {
  left = λ told m x M P. (let most = (S.member told c m x M P).1 in let few = P.short in absurd (omega (arith, most, few)));
  stops = λ told m x M P safe. S.stops told c m x M P safe;
  safe = λ told m x M P safe. S.safe told c m x M P safe;
  rose = λ told m x M P. tt;
}

-- How the turns ran.
pub ran_so_far : (tells : Bool) (a b : OverFile) (k : ℕ) {V : Type 0} (answer : Result V FileStop) → SoFar tells a b k → Ran a b answer
ran_so_far tells a b k answer S = record {
  form = unless_true answer (KeepsForm a b) S.form;
  unspent = unless_true answer (b.spent ≡ false) S.unspent;
  never_falls = (let same = S.faults in omega (arith, same));
  quiet = unless_true answer (b.faults ≡ a.faults) S.faults;
}

pub ran_failed : (tells : Bool) (a b z : OverFile) (k : ℕ) {V : Type 0} → SoFar tells a b k → b.faults ≤ z.faults → Ran {V = V} a z (Err Io)
ran_failed tells a b z k S rises = record { form = tt; unspent = tt; never_falls = (let same = S.faults in omega (arith, same, rises)); quiet = tt }

-- nothing was done
pub ran_here : {V : Type 0} (a : OverFile) (v : V) → a.spent ≡ false → Ran a a (Ok v)
ran_here a v unspent = record { form = keeps_itself a; unspent = unspent; never_falls = omega arith; quiet = refl }

-- A command that was given, and its turns; and one that wasn't.
pub did_given : (tells : Bool) (c : Command) (a b z : OverFile) (answer : Result (Option Reply) FileStop) → Given tells c a b → Did tells c (Some (new_task c)) b z answer → Did tells c None a z answer
did_given tells c a b z answer G D =
    let same : form_of_file b ≡ form_of_file a = ap form_in G.memory.form.header in
    let history : b.history ≡ a.history = ap (λ (w : OverFile). w.history) G.memory.file in
    let faults : b.faults ≡ a.faults = ap (λ (w : OverFile). w.faults) G.memory.file in
    let plain : (x : Own) → IsPlain (form_of_file a) c x → IsPlain (form_of_file b) c x = λ x P. subst (λ g. IsPlain g c x) (sym same) P in
    let safe_too : IsSafe (form_of_file a) a.history → IsSafe (form_of_file b) b.history = λ safe. subst₂ IsSafe (sym same) (sym history) safe in
    record {
      left = λ told m x M P. given_left c x m z answer (D.left told m x (G.member told m x M) (plain x P));
      stops = λ told m x M P safe. subst₂ (λ g h. LeavesOnly h z.history (MayOpen g m c x)) same history (D.stops told m x (G.member told m x M) (plain x P) (safe_too safe));
      safe = λ told m x M P safe. subst (λ g. UnlessIo answer (IsSafe g z.history)) same (D.safe told m x (G.member told m x M) (plain x P) (safe_too safe));
      rose = λ told m x M P. subst (λ n. OnIo answer (Rose n z.faults)) faults (D.rose told m x (G.member told m x M) (plain x P));
    }

-- a call that follows one in memory
pub ran_memory : {V : Type 0} (a b z : OverFile) (answer : Result V FileStop) → OnlyInMemory a b → Ran b z answer → Ran a z answer
ran_memory a b z answer M R =
    let faults : b.faults ≡ a.faults = ap (λ (w : OverFile). w.faults) M.file in
    record {
      form = unless_more answer (KeepsForm b z) (KeepsForm a z) (λ kept. keeps_on a b z M.form kept) R.form;
      unspent = R.unspent;
      never_falls = (let rises = R.never_falls in omega (arith, faults, rises));
      quiet = unless_more answer (z.faults ≡ b.faults) (z.faults ≡ a.faults) (λ quiet. quiet ∙ faults) R.quiet;
    }

pub ran_given : {V : Type 0} (tells : Bool) (c : Command) (a b z : OverFile) (answer : Result V FileStop) → Given tells c a b → Ran b z answer → Ran a z answer
ran_given tells c a b z answer G R = ran_memory a b z answer G.memory R

pub did_not : (tells : Bool) (c : Command) (a b : OverFile) → NotGiven tells c a b → Did tells c None a b (Ok None)
did_not tells c a b N =
    let history : b.history ≡ a.history = ap (λ (w : OverFile). w.history) N.memory.file in
    record {
      left = λ told m x M P. (let kept = N.member told m x P.live M in (refl, kept.0, kept.1));
      stops = λ told m x M P safe.
          subst (λ h. LeavesOnly a.history h (MayOpen (form_of_file a) m c x)) (sym history)
          (leaves_weaker a.history a.history (OpensToMap (form_of_file a) m) (MayOpen (form_of_file a) m c x) (λ img opens. inl opens) (member_opens m x a M safe));
      safe = λ told m x M P safe. subst (IsSafe (form_of_file a)) (sym history) safe;
      rose = λ told m x M P. tt;
    }

pub ran_not : {V : Type 0} (tells : Bool) (c : Command) (a b : OverFile) (v : V) → a.spent ≡ false → NotGiven tells c a b → Ran a b (Ok v)
ran_not tells c a b v unspent N = ran_memory a b b (Ok v) N.memory (ran_here b v (ap (λ (w : OverFile). w.spent) N.memory.file ∙ unspent))

-- An answer of a call that came to no failure of the disk, by another name.
pub ran_other : {V W : Type 0} (a b : OverFile) (v : V) (answer : Result W FileStop) → Ran a b (Ok v) → Ran a b answer
ran_other a b v answer R = record {
  form = unless_true answer (KeepsForm a b) R.form;
  unspent = unless_true answer (b.spent ≡ false) R.unspent;
  never_falls = R.never_falls;
  quiet = unless_true answer (b.faults ≡ a.faults) R.quiet;
}
