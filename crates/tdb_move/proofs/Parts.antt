-- Parts of a move, one after the other.
use Rattle.std.proofs.Common.{◌≡◌, ◌≢◌, ℕ, ◌≤◌, Bool, IsTrue, List, length, Result, Ok, Err, refl, sym, ◌∙◌, ap, subst, subst₂, inl, inr, arith}
use Rattle.std.specs.Prelude.{IfErr}
use Rattle.std.proofs.lemmas.Bool.{cases_eq}
use Rattle.std.proofs.lemmas.List.{length-set}
use Rattle.tdb_disk.specs.Stop.{LeavesOnly}
use Rattle.tdb_disk.proofs.Runs.{leaves_join, leaves_start}
use Rattle.tdb_law.specs.Openers.{Map}
use Rattle.tdb_law.specs.Replay.{put}
use Rattle.tdb_law.proofs.Walking.{put_else, put_here}
use Rattle.tdb_commands.specs.declared.command.Command.{Command}
use Rattle.tdb_locks.specs.declared.turn.Reply.{Reply}
use Rattle.tdb_locks.specs.declared.turn.Reply.TheVariants as Replied
use Rattle.tdb_log.specs.Logs.{Logged}
use Rattle.tdb_world.specs.Calm.{OpensToMap}
use Rattle.tdb_world.specs.OverFile.{KeepsForm, OverFile}
use Rattle.tdb_group.specs.Calls.{DidAt, PreparedAll}
use Rattle.tdb_group.specs.Each.{PreparationLeft, UnlessFailed, WentOn}
use Rattle.tdb_group.specs.Files.{StaysAt, maps}
use Rattle.tdb_group.specs.Group.{AreCancelled, EachPair, GroupState, HasMaps, IsOpen, Standing}
use Rattle.tdb_group.specs.Members.{Maps, form_of_file}
use Rattle.tdb_group.specs.declared.stop.GroupStop.{GroupStop}
use Rattle.tdb_group.specs.declared.stop.GroupStop.TheVariants.{Refused, Io, LogFailed, Memory}
use Rattle.tdb_group.proofs.Groups.{now_there, some_same, underway_each, underway_opens}
use Rattle.tdb_group.proofs.Parts.{kept_form}
use Rattle.tdb_move.specs.Faults.{OnDevice, UnlessDevice, of_reply, of_stop}
use Rattle.tdb_move.specs.Parts.{FileWent, Goes, LeadsSome, SomeRose, Went}
use Rattle.tdb_move.specs.declared.fault.MoveFault.{MoveFault}
use Rattle.tdb_move.specs.declared.fault.MoveFault.TheVariants as FaultIs

-- what holds, holds unless a disk failed; and so on
pub unless_true : {V : Type 0} (answer : Result V MoveFault) (P : Type 0) → P → UnlessDevice answer P
unless_true (Ok v) P p = p
unless_true (Err FaultIs.KeyMissing) P p = p
unless_true (Err (FaultIs.Full len need)) P p = p
unless_true (Err FaultIs.Device) P p = tt
unless_true (Err FaultIs.Log) P p = p
unless_true (Err FaultIs.Memory) P p = p

pub unless_more : {V : Type 0} (answer : Result V MoveFault) (P Q : Type 0) → (P → Q) → UnlessDevice answer P → UnlessDevice answer Q
unless_more (Ok v) P Q more p = more p
unless_more (Err FaultIs.KeyMissing) P Q more p = more p
unless_more (Err (FaultIs.Full len need)) P Q more p = more p
unless_more (Err FaultIs.Device) P Q more p = tt
unless_more (Err FaultIs.Log) P Q more p = more p
unless_more (Err FaultIs.Memory) P Q more p = more p

pub unless_else : (V : Type 0) (e : MoveFault) → e ≢ FaultIs.Device → (P : Type 0) → UnlessDevice {V = V} (Err e) P → P
unless_else V FaultIs.KeyMissing not P p = p
unless_else V (FaultIs.Full len need) not P p = p
unless_else V FaultIs.Device not P p = absurd (not refl)
unless_else V FaultIs.Log not P p = p
unless_else V FaultIs.Memory not P p = p

pub on_more : {V : Type 0} (answer : Result V MoveFault) (P Q : Type 0) → (P → Q) → OnDevice answer P → OnDevice answer Q
on_more (Ok v) P Q more p = tt
on_more (Err FaultIs.KeyMissing) P Q more p = tt
on_more (Err (FaultIs.Full len need)) P Q more p = tt
on_more (Err FaultIs.Device) P Q more p = more p
on_more (Err FaultIs.Log) P Q more p = tt
on_more (Err FaultIs.Memory) P Q more p = tt

pub on_not : {V : Type 0} (answer : Result V MoveFault) (P : Type 0) → IfErr answer (λ e. e ≢ FaultIs.Device) → OnDevice answer P
on_not (Ok v) P not = tt
on_not (Err FaultIs.KeyMissing) P not = tt
on_not (Err (FaultIs.Full len need)) P not = tt
on_not (Err FaultIs.Device) P not = absurd (not refl)
on_not (Err FaultIs.Log) P not = tt
on_not (Err FaultIs.Memory) P not = tt

pub on_if : (V : Type 0) (e : MoveFault) (P : Type 0) → (e ≡ FaultIs.Device → P) → OnDevice {V = V} (Err e) P
on_if V FaultIs.KeyMissing P p = tt
on_if V (FaultIs.Full len need) P p = tt
on_if V FaultIs.Device P p = p refl
on_if V FaultIs.Log P p = tt
on_if V FaultIs.Memory P p = tt

pub reply_not : (reply : Reply) → of_reply reply ≢ FaultIs.Device
reply_not (Replied.Full len need) e = cc e
reply_not reply e = cc e

-- a stop of the group, as a fault of the move
pub as_fault : (V W : Type 0) (stop : GroupStop) (P : Type 0) → UnlessFailed {V = V} (Err stop) P → UnlessDevice {V = W} (Err (of_stop stop)) P
as_fault V W (Refused at reply) P p = unless_true {V = W} (Err (of_reply reply)) P p
as_fault V W (Io at) P p = tt
as_fault V W (LogFailed at) P p = p
as_fault V W (Memory at) P p = p

-- files that are the same went on, whatever the answer
pub file_here : {V : Type 0} (answer : Result V MoveFault) (a b : OverFile) → a ≡ b → FileWent answer a b
file_here answer a b e = subst (FileWent answer a) e (record {
  rises = omega arith;
  quiet = unless_true answer (a.faults ≡ a.faults) refl;
  form = unless_true answer (KeepsForm a a) (record { header = refl; options = refl });
})

pub file_well : {V W : Type 0} (answer : Result V MoveFault) (v : W) (a b : OverFile) → WentOn {V = W} (Ok v) a b → FileWent answer a b
file_well answer v a b W = record {
  rises = W.rises;
  quiet = unless_true answer (b.faults ≡ a.faults) W.quiet;
  form = unless_true answer (KeepsForm a b) W.form;
}

pub file_broke : (V W : Type 0) (stop : GroupStop) (a b : OverFile) → WentOn {V = W} (Err stop) a b → FileWent {V = V} (Err (of_stop stop)) a b
file_broke V U stop a b W = record {
  rises = W.rises;
  quiet = as_fault U V stop (b.faults ≡ a.faults) W.quiet;
  form = as_fault U V stop (KeepsForm a b) W.form;
}

pub file_join : {V W : Type 0} (first : Result V MoveFault) (second : Result W MoveFault) (a b c : OverFile) → ((P : Type 0) → UnlessDevice first P → P) → FileWent first a b → FileWent second b c → FileWent second a c
file_join first second a b c well A B = record {
  rises = (let one = A.rises in let two = B.rises in omega (arith, one, two));
  quiet = unless_more second (c.faults ≡ b.faults) (c.faults ≡ a.faults) (λ e. e ∙ well (b.faults ≡ a.faults) A.quiet) B.quiet;
  form = unless_more second (KeepsForm b c) (KeepsForm a c) (λ F. (let E = well (KeepsForm a b) A.form in record { header = F.header ∙ E.header; options = F.options ∙ E.options })) B.form;
}

-- a count that rose later rose since the beginning
pub rose_since : (olds mids news : List OverFile) → length mids ≡ length olds → EachPair olds mids (λ n a b. a.faults ≤ b.faults) → SomeRose mids news → SomeRose olds news
rose_since olds mids news count rises S =
    let R = S.rose in
    let O = now_there mids olds (sym count) S.at R.before R.was in
    let up = rises S.at O.0 R.before O.1 R.was in
    let rose = R.rose in
    record { at = S.at; rose = record { before = O.0; after = R.after; was = O.1; is = R.is; rose = omega (arith, up, rose) } }

-- stops of two parts, of which the second leaves the same maps
pub stays_join : (m : Map) (a b c : OverFile) → KeepsForm a b → StaysAt m a b → (n : Map) → n ≡ m → StaysAt n b c → StaysAt m a c
stays_join m a b c F A n e B =
    leaves_join a.history b.history c.history (OpensToMap (form_of_file a) m) A
    (subst₂ (λ g k. LeavesOnly b.history c.history (OpensToMap g k)) (sym (kept_form a b F)) e B)

module _ (tells : Bool) (old mid new : GroupState) {V W : Type 0} (first : Result V MoveFault) (second : Result W MoveFault) (well : (P : Type 0) → UnlessDevice first P → P) where
  pub went_join : Went tells old mid first → (IsTrue tells → (ps : ℕ → Maps) → HasMaps ps old → LeadsSome ps mid) → Went tells mid new second → Went tells old new second
  went_join A leads B = record {
    count = B.count ∙ A.count;
    finished = B.finished ∙ A.finished;
    each = λ n a c was is.
        (let M = now_there old.files mid.files A.count n a was in
        file_join first second a M.0 c well (A.each n a M.0 was M.1) (B.each n M.0 c M.1 is));
    stays = λ told ps has n a c was is.
        (let M = now_there old.files mid.files A.count n a was in
        let L = leads told ps has in
        stays_join (ps n).before a M.0 c (well (KeepsForm a M.0) (A.each n a M.0 was M.1).form) (A.stays told ps has n a M.0 was M.1) (L.maps n).before (L.before n) (B.stays told L.maps L.has n M.0 c M.1 is));
    rose = λ told ps has.
        (let L = leads told ps has in
        on_more second (SomeRose mid.files new.files) (SomeRose old.files new.files) (rose_since old.files mid.files new.files A.count (λ n a b was is. (A.each n a b was is).rises)) (B.rose told L.maps L.has));
  }

  pub goes_join : (IsTrue tells → (ps : ℕ → Maps) → HasMaps ps old → LeadsSome ps mid) → Goes tells mid new second → Goes tells old new second
  goes_join leads B = record {
    going = B.going;
    leads = λ told ps has.
        (let L = leads told ps has in
        unless_more second (LeadsSome L.maps new) (LeadsSome ps new) (λ S. record { maps = S.maps; before = λ n. S.before n ∙ L.before n; has = S.has }) (B.leads told L.maps L.has));
  }

-- nothing was done
module _ (tells : Bool) (g : GroupState) {V : Type 0} where
  pub went_none : g.finished ≡ 0 → Went {V = V} tells g g (Err FaultIs.Memory)
  went_none none = record {
    count = refl;
    finished = refl;
    each = λ n a b was is. file_here (Err FaultIs.Memory) a b (some_same a b (sym was ∙ is));
    stays = λ told ps has n a b was is.
        (let same : a ≡ b = some_same a b (sym was ∙ is) in
        subst (StaysAt (ps n).before a) same
        (leaves_start a.history (OpensToMap (form_of_file a) (ps n).before) (underway_opens g.prepared (ps n) a (underway_each g.prepared ps g.files (subst (λ k. Standing g.prepared k ps g.files) none has) n a was))));
    rose = λ told ps has. tt;
  }

  pub goes_none : IsOpen g → Goes {V = V} tells g g (Err FaultIs.Memory)
  goes_none opened = record { going = opened; leads = λ told ps has. record { maps = ps; before = λ n. refl; has = has } }

-- a command was done in the transaction of a file
module _ (tells : Bool) (old new : GroupState) (n : ℕ) (c : Command) where
  pub did_went : {V : Type 0} (reply : Reply) (later : Result V MoveFault) → IfErr later (λ e. e ≢ FaultIs.Device) → DidAt tells old new n c (Ok reply) → Went tells old new later
  did_went reply later not D = record {
    count = ap (λ (g : GroupState). length g.files) D.files ∙ length-set old.files n D.file;
    finished = ap (λ (g : GroupState). g.finished) D.files;
    each = λ m a b was is. file_well later reply a b (D.went m a b was is);
    stays = D.stays;
    rose = λ told ps has. on_not later (SomeRose old.files new.files) not;
  }

  abbrev pub did_leads : (reply : Reply) → DidAt tells old new n c (Ok reply) → IsTrue tells → (ps : ℕ → Maps) → HasMaps ps old → LeadsSome ps new
  did_leads reply D told ps has =
      let L = D.left told ps has in
      let v = maps (ps n).before L.0 in
      record {
        maps = put ps n v;
        before = λ m. (elim (cases_eq m n) [
          | inl same ↦ ap (λ (p : Maps). p.before) (put_here ps n v m same) ∙ ap (λ k. (ps k).before) (sym same)
          | inr ne ↦ ap (λ (p : Maps). p.before) (put_else ps n v m ne)
        ]);
        has = L.2;
      }

  pub did_goes : {V : Type 0} (reply : Reply) (later : Result V MoveFault) → IsOpen old → DidAt tells old new n c (Ok reply) → Goes tells old new later
  did_goes reply later opened D = record {
    going = unless_true later (IsOpen new) (record { unprepared = ap (λ (g : GroupState). g.prepared) D.files ∙ opened.unprepared; going = ap (λ (g : GroupState). g.stopped) D.files });
    leads = λ told ps has. unless_true later (LeadsSome ps new) (did_leads reply D told ps has);
  }

  -- or the disk of the file failed
  pub did_failed : {V : Type 0} (stop : GroupStop) → DidAt tells old new n c (Err stop) → Went {V = V} tells old new (Err (of_stop stop))
  did_failed {V} stop D =
      subst (λ e. Went {V = V} tells old new (Err (of_stop e))) (sym D.fault) (record {
        count = ap (λ (g : GroupState). length g.files) D.files ∙ length-set old.files n D.file;
        finished = ap (λ (g : GroupState). g.finished) D.files;
        each = λ m a b was is. (let W = D.went m a b was is in record { rises = W.rises; quiet = tt; form = tt });
        stays = D.stays;
        rose = λ told ps has. record { at = n; rose = D.left told ps has };
      })

  pub did_goes_failed : {V : Type 0} (stop : GroupStop) → DidAt tells old new n c (Err stop) → Goes {V = V} tells old new (Err (of_stop stop))
  did_goes_failed {V} stop D = subst (λ e. Goes {V = V} tells old new (Err (of_stop e))) (sym D.fault) (record { going = tt; leads = λ told ps has. tt })

-- the files were prepared, or weren't
module _ (tells : Bool) (old new : GroupState) (before after : List Logged) where
  pub prepared_went : PreparedAll tells old new before after (Ok tt) → Went {V = Unit {0}} tells old new (Ok tt)
  prepared_went P = record {
    count = P.count;
    finished = ap (λ (g : GroupState). g.finished) P.flags;
    each = λ m a b was is. file_well (Ok tt) tt a b (P.went m a b was is);
    stays = P.stays;
    rose = λ told ps has. tt;
  }

  rose_by : (stop : GroupStop) (ps : ℕ → Maps) → PreparationLeft (AreCancelled ps new.files) ps old.files new.files (Err stop) → OnDevice {V = Unit {0}} (Err (of_stop stop)) (SomeRose old.files new.files)
  rose_by (Refused at reply) ps left = on_not {V = Unit {0}} (Err (of_reply reply)) (SomeRose old.files new.files) (reply_not reply)
  rose_by (Io at) ps left = record { at = at; rose = left }
  rose_by (LogFailed at) ps left = tt
  rose_by (Memory at) ps left = tt

  pub prepared_failed : (stop : GroupStop) → PreparedAll tells old new before after (Err stop) → Went {V = Unit {0}} tells old new (Err (of_stop stop))
  prepared_failed stop P = record {
    count = P.count;
    finished = ap (λ (g : GroupState). g.finished) P.flags;
    each = λ m a b was is. file_broke (Unit {0}) (Unit {0}) stop a b (P.went m a b was is);
    stays = P.stays;
    rose = λ told ps has. rose_by stop ps (P.left told ps has);
  }

-- a fault of one call is that of another
unless_as : (V W : Type 0) (e : MoveFault) (P : Type 0) → UnlessDevice {V = V} (Err e) P → UnlessDevice {V = W} (Err e) P
unless_as V W FaultIs.KeyMissing P p = p
unless_as V W (FaultIs.Full len need) P p = p
unless_as V W FaultIs.Device P p = tt
unless_as V W FaultIs.Log P p = p
unless_as V W FaultIs.Memory P p = p

on_as : (V W : Type 0) (e : MoveFault) (P : Type 0) → OnDevice {V = V} (Err e) P → OnDevice {V = W} (Err e) P
on_as V W FaultIs.KeyMissing P p = tt
on_as V W (FaultIs.Full len need) P p = tt
on_as V W FaultIs.Device P p = p
on_as V W FaultIs.Log P p = tt
on_as V W FaultIs.Memory P p = tt

pub went_as : {V W : Type 0} (tells : Bool) (old new : GroupState) (e : MoveFault) → Went {V = V} tells old new (Err e) → Went {V = W} tells old new (Err e)
went_as {V} {W} tells old new e A = record {
  count = A.count;
  finished = A.finished;
  each = λ n a b was is.
      (let F = A.each n a b was is in
      record { rises = F.rises; quiet = unless_as V W e (b.faults ≡ a.faults) F.quiet; form = unless_as V W e (KeepsForm a b) F.form });
  stays = A.stays;
  rose = λ told ps has. on_as V W e (SomeRose old.files new.files) (A.rose told ps has);
}

pub goes_as : {V W : Type 0} (tells : Bool) (old new : GroupState) (e : MoveFault) → Goes {V = V} tells old new (Err e) → Goes {V = W} tells old new (Err e)
goes_as {V} {W} tells old new e A = record { going = unless_as V W e (IsOpen new) A.going; leads = λ told ps has. unless_as V W e (LeadsSome ps new) (A.leads told ps has) }
