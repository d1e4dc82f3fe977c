-- The commands of a move, the preparation and the commits of its two files.
use Rattle.std.proofs.Common.{◌≡◌, ◌≢◌, ℕ, zero, suc, ◌<◌, ◌^◌, Bool, true, IsTrue, List, length, Option, Some, Result, Ok, Err, refl, sym, ◌∙◌, ap, subst, inl, inr, ◌⊎◌, arith}
use Rattle.std.specs.Prelude.{IfErr, IfOk, IsSome, OnOk, nat_lt, slice_get}
use Rattle.std.specs.FinMap.{get, insert, remove}
use Rattle.std.proofs.lemmas.Bool.{lt-ltb}
use Rattle.std.proofs.lemmas.List.{length-set}
use Rattle.std.proofs.lemmas.Option.{slice_get_within}
use Rattle.tdb_disk.specs.Stop.{LeavesOnly}
use Rattle.tdb_disk.proofs.Runs.{leaves_join, leaves_weaker}
use Rattle.tdb_law.specs.Commands.Command.{OnMap}
use Rattle.tdb_law.specs.Commands.MapCommand.{Delete, Fetch, Store}
use Rattle.tdb_law.specs.Openers.{Map}
use Rattle.tdb_commands.specs.InLaw.{law_reply}
use Rattle.tdb_commands.specs.declared.command.Command.TheVariants as Asked
use Rattle.tdb_locks.specs.declared.turn.Reply.{Reply}
use Rattle.tdb_locks.specs.declared.turn.Reply.TheVariants as Replied
use Rattle.tdb_log.specs.Logs.{Logged}
use Rattle.tdb_steps.specs.declared.flag.Flag.TheVariants.{Replace}
use Rattle.tdb_world.specs.Calm.{OpensToEither, OpensToMap}
use Rattle.tdb_world.specs.OverFile.{KeepsForm, OverFile}
use Rattle.tdb_group.specs.Calls.{CancelledAll, DidAt, FinishedNext, PreparedAll}
use Rattle.tdb_group.specs.Commands.{Replies}
use Rattle.tdb_group.specs.Each.{PreparationLeft, StayEach}
use Rattle.tdb_group.specs.Faults.{stop_at}
use Rattle.tdb_group.specs.Files.{IsFull}
use Rattle.tdb_group.specs.Group.{AreCancelled, EachPair, FileStands, GroupState, HasMaps, IsPrepared}
use Rattle.tdb_group.specs.Members.{IsSettled, Maps, form_of_file}
use Rattle.tdb_group.specs.declared.stop.GroupStop.{GroupStop}
use Rattle.tdb_group.specs.declared.stop.GroupStop.TheVariants.{Refused, Io, LogFailed, Memory}
use Rattle.tdb_group.proofs.Groups.{now_there, settled_opens}
use Rattle.tdb_group.proofs.Parts.{kept_form}
use Rattle.tdb_move.specs.Faults.{OnDevice, done_by, of_reply, of_stop}
use Rattle.tdb_move.specs.Parts.{AreFresh, Edited, Fetched, FileWent, GaveUp, LeadsSome, LeadsTo, MoveLeft, MovedIn, OnRefusal, Readied, SomeRose, TellsKey, Went, moved_map, with_value}
use Rattle.tdb_move.specs.declared.fault.MoveFault.{MoveFault}
use Rattle.tdb_move.specs.declared.fault.MoveFault.TheVariants as FaultIs
use Rattle.tdb_move.proofs.Parts.{did_leads, on_not, file_join, file_well, on_more, rose_since}
use Rattle.tdb_move.proofs.Replies.{done_leaves, fetch_found, fetch_keeps, fetch_missed}

-- no reply of a command is a failure of a disk
pub value_not : {V : Type 0} (X : Type 0) (answer : Result V MoveFault) → IfErr answer (λ e. ((e ≡ FaultIs.KeyMissing) × X) ⊎ (e ≡ FaultIs.Memory)) → IfErr answer (λ e. e ≢ FaultIs.Device)
value_not X (Ok v) fault = tt
value_not X (Err e) (inl missing) = λ is. (let m = missing.0 in cc (m, is))
value_not X (Err e) (inr memory) = λ is. cc (memory, is)

pub done_not : (reply : Reply) → IfErr (done_by reply) (λ e. e ≢ FaultIs.Device)
done_not Replied.Ok = tt
done_not (Replied.Full len need) = λ e. cc e
done_not reply = λ e. cc e

pub done_there : (reply : Reply) → IfErr (done_by reply) (λ e. e ≢ FaultIs.KeyMissing)
done_there Replied.Ok = tt
done_there (Replied.Full len need) = λ e. cc e
done_there reply = λ e. cc e

-- a stop of the group doesn't say that a key isn't there
pub stop_there : (stop : GroupStop) → of_stop stop ≢ FaultIs.KeyMissing
stop_there (Refused at reply) = by reply
  where
    by : (r : Reply) → of_reply r ≢ FaultIs.KeyMissing
    by (Replied.Full len need) e = cc e
    by r e = cc e
stop_there (Io at) = λ e. cc e
stop_there (LogFailed at) = λ e. cc e
stop_there (Memory at) = λ e. cc e

-- What the fetch found; what a store left; and a delete.
module _ (tells : Bool) (old new : GroupState) (key : List ℕ) (reply : Reply) where
  fetched_if : DidAt tells old new 1 (Asked.Fetch key) (Ok reply) → (answer : Result (List ℕ) MoveFault) → IfOk answer (λ v. (reply ≡ Replied.Value v) × (length v < 2 ^ 32))
      → IfErr answer (λ e. ((e ≡ FaultIs.KeyMissing) × (reply ≡ Replied.KeyMissing)) ⊎ (e ≡ FaultIs.Memory)) → IsTrue tells → (ps : ℕ → Maps) → HasMaps ps old → Fetched key ps new answer
  fetched_if D (Ok v) ok err told ps has =
      let L = D.left told ps has in (
        fetch_found key v (ps 1).after L.0 (subst (λ r. Replies (OnMap (Fetch key)) (ps 1).after (law_reply r) L.0) ok.0 L.1),
        record { some = did_leads tells old new 1 (Asked.Fetch key) reply D told ps has; into = refl; from = fetch_keeps key (ps 1).after (law_reply reply) L.0 L.1 },
      )
  fetched_if D (Err e) ok (inl missing) told ps has =
      let L = D.left told ps has in
      subst (TellsKey (get (ps 1).after key)) (sym missing.0) (fetch_missed key (ps 1).after L.0 (subst (λ r. Replies (OnMap (Fetch key)) (ps 1).after (law_reply r) L.0) missing.1 L.1))
  fetched_if D (Err e) ok (inr memory) told ps has = subst (TellsKey (get (ps 1).after key)) (sym memory) tt

  -- the same, of a key that is equal to that of the command
  pub fetched_so : (k : List ℕ) → k ≡ key → DidAt tells old new 1 (Asked.Fetch k) (Ok reply) → (answer : Result (List ℕ) MoveFault) → IfOk answer (λ v. (reply ≡ Replied.Value v) × (length v < 2 ^ 32))
      → IfErr answer (λ e. ((e ≡ FaultIs.KeyMissing) × (reply ≡ Replied.KeyMissing)) ⊎ (e ≡ FaultIs.Memory)) → IsTrue tells → (ps : ℕ → Maps) → HasMaps ps old → Fetched key ps new answer
  fetched_so k is D answer ok err told ps has = fetched_if (subst (λ q. DidAt tells old new 1 (Asked.Fetch q) (Ok reply)) is D) answer ok err told ps has

  stored_if : (value : List ℕ) → DidAt tells old new 0 (Asked.Store key value Replace) (Ok reply) → (r : Reply) → reply ≡ r → IsTrue tells → (ps : ℕ → Maps) → HasMaps ps old → OnOk (done_by r) (LeadsTo ps (insert (ps 0).after key value) (ps 1).after new)
  stored_if value D Replied.Ok is told ps has =
      let L = D.left told ps has in
      record {
        some = did_leads tells old new 0 (Asked.Store key value Replace) reply D told ps has;
        into = done_leaves (Store key value) (ps 0).after L.0 (subst (λ z. Replies (OnMap (Store key value)) (ps 0).after (law_reply z) L.0) is L.1);
        from = refl;
      }
  stored_if value D (Replied.Full len need) is told ps has = tt
  stored_if value D r is told ps has = tt

  pub stored_so : (k value : List ℕ) → k ≡ key → DidAt tells old new 0 (Asked.Store k value Replace) (Ok reply) → (answer : Result (Unit {0}) MoveFault) → answer ≡ done_by reply → IsTrue tells → (ps : ℕ → Maps) → HasMaps ps old
      → OnOk answer (LeadsTo ps (insert (ps 0).after key value) (ps 1).after new)
  stored_so k value is D answer says told ps has =
      subst (λ a. OnOk a (LeadsTo ps (insert (ps 0).after key value) (ps 1).after new)) (sym says)
      (stored_if value (subst (λ q. DidAt tells old new 0 (Asked.Store q value Replace) (Ok reply)) is D) reply refl told ps has)

  deleted_if : DidAt tells old new 1 (Asked.Delete key) (Ok reply) → (r : Reply) → reply ≡ r → IsTrue tells → (ps : ℕ → Maps) → HasMaps ps old → OnOk (done_by r) (LeadsTo ps (ps 0).after (remove (ps 1).after key) new)
  deleted_if D Replied.Ok is told ps has =
      let L = D.left told ps has in
      record {
        some = did_leads tells old new 1 (Asked.Delete key) reply D told ps has;
        into = refl;
        from = done_leaves (Delete key) (ps 1).after L.0 (subst (λ z. Replies (OnMap (Delete key)) (ps 1).after (law_reply z) L.0) is L.1);
      }
  deleted_if D (Replied.Full len need) is told ps has = tt
  deleted_if D r is told ps has = tt

  pub deleted_so : (k : List ℕ) → k ≡ key → DidAt tells old new 1 (Asked.Delete k) (Ok reply) → (answer : Result (Unit {0}) MoveFault) → answer ≡ done_by reply → IsTrue tells → (ps : ℕ → Maps) → HasMaps ps old
      → OnOk answer (LeadsTo ps (ps 0).after (remove (ps 1).after key) new)
  deleted_so k is D answer says told ps has =
      subst (λ a. OnOk a (LeadsTo ps (ps 0).after (remove (ps 1).after key) new)) (sym says)
      (deleted_if (subst (λ q. DidAt tells old new 1 (Asked.Delete q) (Ok reply)) is D) reply refl told ps has)

-- what a command that changes a file answers
pub as_done : (not : MoveFault) (reply : Reply) (answer : Result (Unit {0}) MoveFault) → answer ≡ done_by reply → IfErr (done_by reply) (λ e. e ≢ not) → IfErr answer (λ e. e ≢ not)
as_done not reply answer says there = subst (λ a. IfErr a (λ e. e ≢ not)) (sym says) there

-- where the key was found
pub tells_found : (found : Option (List ℕ)) (value : List ℕ) → found ≡ Some value → (e : MoveFault) → e ≢ FaultIs.KeyMissing → TellsKey found e
tells_found found value is FaultIs.KeyMissing not = absurd (not refl)
tells_found found value is (FaultIs.Full len need) not = subst (λ (o : Option (List ℕ)). IsSome o) (sym is) refl
tells_found found value is FaultIs.Device not = tt
tells_found found value is FaultIs.Log not = tt
tells_found found value is FaultIs.Memory not = tt

-- The three commands of a move, from transactions that had changed nothing.
module _ (key : List ℕ) (ps : ℕ → Maps) (fresh : AreFresh ps) where
  pub found_before : (value : List ℕ) → get (ps 1).after key ≡ Some value → get (ps 1).before key ≡ Some value
  found_before value found = ap (λ m. get m key) (sym (fresh 1)) ∙ found

  pub fetch_told : (e : MoveFault) → TellsKey (get (ps 1).after key) e → TellsKey (get (ps 1).before key) e
  fetch_told e told = subst (λ m. TellsKey (get m key) e) (fresh 1) told

  module _ (one two new : GroupState) (value : List ℕ) (found : get (ps 1).after key ≡ Some value) (F : LeadsTo ps (ps 0).after (ps 1).after one) (S : LeadsTo F.some.maps (insert (F.some.maps 0).after key value) (F.some.maps 1).after two) where
    pub edited_so : (answer : Result (Unit {0}) MoveFault) → OnOk answer (LeadsTo S.some.maps (S.some.maps 0).after (remove (S.some.maps 1).after key) new) → IfErr answer (λ e. e ≢ FaultIs.KeyMissing) → Edited key ps new answer
    edited_so (Err e) ok not = tells_found (get (ps 1).before key) value (found_before value found) e not
    edited_so (Ok v) D not = (
      subst (λ (o : Option (List ℕ)). IsSome o) (sym (found_before value found)) refl,
      record {
        some = record { maps = D.some.maps; before = λ n. D.some.before n ∙ S.some.before n ∙ F.some.before n; has = D.some.has };
        into = D.into ∙ S.into ∙ ap (λ m. insert m key value) (F.into ∙ fresh 0) ∙ ap (λ o. with_value key o (ps 0).before) (sym (found_before value found));
        from = D.from ∙ ap (λ m. remove m key) (S.from ∙ F.from ∙ fresh 1);
      },
    )

-- All were cancelled, for a fault that isn't of a disk.
refusal_as : (e : MoveFault) (P : Type 0) → P → OnRefusal e P
refusal_as FaultIs.KeyMissing P p = p
refusal_as (FaultIs.Full len need) P p = p
refusal_as FaultIs.Device P p = tt
refusal_as FaultIs.Log P p = tt
refusal_as FaultIs.Memory P p = tt

module _ (tells : Bool) (old new : GroupState) (fault : MoveFault) where
  pub gave_up : fault ≢ FaultIs.Device → CancelledAll tells old new (Ok tt) → GaveUp tells fault old new fault
  gave_up other C = record {
    went = record {
      count = C.count;
      finished = ap (λ (g : GroupState). g.finished) C.flags;
      each = λ n a b was is. file_well (Err fault) tt a b (C.went n a b was is);
      stays = C.stays;
      rose = λ told ps has. on_not {V = Unit {0}} (Err fault) (SomeRose old.files new.files) other;
    };
    is = inl refl;
    other = other;
    left = λ told ps has. refusal_as fault (AreCancelled ps new.files) (C.left told ps has);
  }

  pub gave_failed : fault ≢ FaultIs.Device → (stop : GroupStop) → CancelledAll tells old new (Err stop) → GaveUp tells fault old new (of_stop stop)
  gave_failed other stop C =
      subst (λ e. GaveUp tells fault old new (of_stop e)) (sym C.fault.0) (record {
        went = record {
          count = C.count;
          finished = ap (λ (g : GroupState). g.finished) C.flags;
          each = λ n a b was is. (let W = C.went n a b was is in record { rises = W.rises; quiet = tt; form = tt });
          stays = C.stays;
          rose = λ told ps has. record { at = stop_at stop; rose = (C.left told ps has).rose };
        };
        is = inr refl;
        other = other;
        left = λ told ps has. tt;
      })

-- The transactions are prepared, or why not.
module _ (key : List ℕ) (ps : ℕ → Maps) (tells : Bool) (mid new : GroupState) (before after : List Logged) (told : IsTrue tells)
    (E : IsSome (get (ps 1).before key) × LeadsTo ps (moved_map key ps 0) (moved_map key ps 1) mid) where
  cancelled_as : AreCancelled E.1.some.maps new.files → AreCancelled ps new.files
  cancelled_as all n w is = subst (λ m. IsSettled m w) (E.1.some.before n) (all n w is)

  pub readied_ok : PreparedAll tells mid new before after (Ok tt) → Readied key ps new (Ok tt)
  readied_ok P = (E.0, record { some = record { maps = E.1.some.maps; before = E.1.some.before; has = (P.done told E.1.some.maps E.1.some.has).0 }; into = E.1.into; from = E.1.from })

  full_by : (reply : Reply) → IsFull reply → AreCancelled ps new.files → TellsKey (get (ps 1).before key) (of_reply reply) × OnRefusal (of_reply reply) (AreCancelled ps new.files)
  full_by (Replied.Full len need) full all = (E.0, all)
  full_by reply full all = absurd full

  readied_by : (stop : GroupStop) → PreparationLeft (AreCancelled E.1.some.maps new.files) E.1.some.maps mid.files new.files (Err stop)
      → TellsKey (get (ps 1).before key) (of_stop stop) × OnRefusal (of_stop stop) (AreCancelled ps new.files)
  readied_by (Refused at reply) left = full_by reply left.0 (cancelled_as left.1)
  readied_by (Io at) left = (tt, tt)
  readied_by (LogFailed at) left = (tt, tt)
  readied_by (Memory at) left = (tt, tt)

  pub readied_not : (stop : GroupStop) → PreparedAll tells mid new before after (Err stop) → Readied key ps new (Err (of_stop stop))
  readied_not stop P = readied_by stop (P.left told E.1.some.maps E.1.some.has)

-- they are cancelled, for a fault of the commands
pub readied_gave : (key : List ℕ) (ps : ℕ → Maps) (tells : Bool) (mid new : GroupState) (fault answer : MoveFault) → IsTrue tells → TellsKey (get (ps 1).before key) fault → LeadsSome ps mid → GaveUp tells fault mid new answer → Readied key ps new (Err answer)
readied_gave key ps tells mid new fault answer told says L G = (
  elim G.is [
    | inl same ↦ subst (TellsKey (get (ps 1).before key)) (sym same) says
    | inr device ↦ subst (TellsKey (get (ps 1).before key)) (sym device) tt
  ],
  of_refusal answer (AreCancelled L.maps new.files) (AreCancelled ps new.files) (λ all n w is. subst (λ m. IsSettled m w) (L.before n) (all n w is)) (G.left told L.maps L.has),
)
  where
    of_refusal : (e : MoveFault) (P Q : Type 0) → (P → Q) → OnRefusal e P → OnRefusal e Q
    of_refusal FaultIs.KeyMissing P Q more p = more p
    of_refusal (FaultIs.Full len need) P Q more p = more p
    of_refusal FaultIs.Device P Q more p = tt
    of_refusal FaultIs.Log P Q more p = tt
    of_refusal FaultIs.Memory P Q more p = tt

-- What a commit of a file comes to, in the words of a move.
pub record Commits (tells : Bool) (old new : GroupState) (answer : Result (Unit {0}) MoveFault) : Type 0 where
  pub count : length new.files ≡ length old.files
  pub each : EachPair old.files new.files (λ n a b. FileWent answer a b)
  pub either : IsTrue tells → (qs : ℕ → Maps) → HasMaps qs old → EachPair old.files new.files (λ n a b. LeavesOnly a.history b.history (OpensToEither (form_of_file a) (qs n).before (qs n).after))
  pub rose : IsTrue tells → (qs : ℕ → Maps) → HasMaps qs old → OnDevice answer (SomeRose old.files new.files)
  pub fault : IfErr answer (λ e. e ≡ FaultIs.Device)

module _ (tells : Bool) (old new : GroupState) where
  pub commits : (n : ℕ) → FinishedNext tells old new (Ok n) → Commits tells old new (Ok tt)
  commits n F = record {
    count = ap (λ (g : GroupState). length g.files) F.files ∙ length-set old.files old.finished F.file;
    each = λ m a b was is. file_well (Ok tt) n a b (F.went m a b was is);
    either = F.either;
    rose = λ told qs has. tt;
    fault = tt;
  }

  pub commit_failed : (stop : GroupStop) → FinishedNext tells old new (Err stop) → Commits tells old new (Err (of_stop stop))
  commit_failed stop F =
      subst (λ e. Commits tells old new (Err (of_stop e))) (sym F.number) (record {
        count = ap (λ (g : GroupState). length g.files) F.files ∙ length-set old.files old.finished F.file;
        each = λ m a b was is. (let W = F.went m a b was is in record { rises = W.rises; quiet = tt; form = tt });
        either = F.either;
        rose = λ told qs has. record { at = old.finished; rose = F.left told qs has };
        fault = refl;
      })

  -- the group between two commits
  pub one_more : (n : ℕ) → FinishedNext tells old new (Ok n) → IsPrepared old → IsPrepared new × (new.finished ≡ suc old.finished) × (length new.files ≡ length old.files)
  one_more n F P = (
    record { prepared = ap (λ (g : GroupState). g.prepared) F.files ∙ P.prepared; going = ap (λ (g : GroupState). g.stopped) F.files },
    ap (λ (g : GroupState). g.finished) F.files,
    ap (λ (g : GroupState). length g.files) F.files ∙ length-set old.files old.finished F.file,
  )

either_more : (m n : Map) (a b c : OverFile) → KeepsForm a b → LeavesOnly a.history b.history (OpensToEither (form_of_file a) m n) → LeavesOnly b.history c.history (OpensToEither (form_of_file b) m n) → LeavesOnly a.history c.history (OpensToEither (form_of_file a) m n)
either_more m n a b c F A B =
    leaves_join a.history b.history c.history (OpensToEither (form_of_file a) m n) A
    (subst (λ g. LeavesOnly b.history c.history (OpensToEither g m n)) (sym (kept_form a b F)) B)

-- two commits
pub commits_join : (tells : Bool) (old mid new : GroupState) (answer : Result (Unit {0}) MoveFault) → Commits tells old mid (Ok tt) → (IsTrue tells → (qs : ℕ → Maps) → HasMaps qs old → HasMaps qs mid) → Commits tells mid new answer → Commits tells old new answer
commits_join tells old mid new answer A leads B = record {
  count = B.count ∙ A.count;
  each = λ n a c was is.
      (let M = now_there old.files mid.files A.count n a was in
      file_join (Ok tt) answer a M.0 c (λ P p. p) (A.each n a M.0 was M.1) (B.each n M.0 c M.1 is));
  either = λ told qs has n a c was is.
      (let M = now_there old.files mid.files A.count n a was in
      either_more (qs n).before (qs n).after a M.0 c (A.each n a M.0 was M.1).form (A.either told qs has n a M.0 was M.1) (B.either told qs (leads told qs has) n M.0 c M.1 is));
  rose = λ told qs has.
      on_more answer (SomeRose mid.files new.files) (SomeRose old.files new.files) (rose_since old.files mid.files new.files A.count (λ n a b was is. (A.each n a b was is).rises)) (B.rose told qs (leads told qs has));
  fault = B.fault;
}

after_is : (key : List ℕ) (qs ps : ℕ → Maps) → (qs 0).after ≡ moved_map key ps 0 → (qs 1).after ≡ moved_map key ps 1 → (n : ℕ) → n < 2 → (qs n).after ≡ moved_map key ps n
after_is key qs ps into from zero low = into
after_is key qs ps into from (suc zero) low = from
after_is key qs ps into from (suc (suc n)) low = absurd (omega (arith, low))

-- The whole: what was prepared is committed.
module _ (tells : Bool) (key : List ℕ) (old mid new : GroupState) (two : length old.files ≡ 2) (A : Went {V = Unit {0}} tells old mid (Ok tt))
    (R : IsTrue tells → (ps : ℕ → Maps) → HasMaps ps old → AreFresh ps → Readied key ps mid (Ok tt)) where
  low_of : (n : ℕ) (a : OverFile) → slice_get old.files n ≡ Some a → n < 2
  low_of n a was = (let low = slice_get_within old.files n a was in omega (arith, low, two))

  whole_stops : (answer : Result (Unit {0}) MoveFault) → Commits tells mid new answer → IsTrue tells → (ps : ℕ → Maps) → HasMaps ps old → AreFresh ps
      → EachPair old.files new.files (λ n a b. LeavesOnly a.history b.history (OpensToEither (form_of_file a) (ps n).before (moved_map key ps n)))
  whole_stops answer B told ps has fresh n a c was is =
      let E = (R told ps has fresh).1 in
      let M = now_there old.files mid.files A.count n a was in
      let F = (A.each n a M.0 was M.1).form in
      let before = E.some.before n in
      let after = after_is key E.some.maps ps E.into E.from n (low_of n a was) in
      leaves_join a.history (M.0).history c.history (OpensToEither (form_of_file a) (ps n).before (moved_map key ps n))
      (leaves_weaker a.history (M.0).history (OpensToMap (form_of_file a) (ps n).before) (OpensToEither (form_of_file a) (ps n).before (moved_map key ps n)) (λ z opens. inl opens) (A.stays told ps has n a M.0 was M.1))
      (subst (λ g. LeavesOnly (M.0).history c.history (OpensToEither g (ps n).before (moved_map key ps n))) (sym (kept_form a M.0 F))
      (subst (λ (t : Map × Map). LeavesOnly (M.0).history c.history (OpensToEither (form_of_file M.0) t.0 t.1)) (λ j. (before j, after j))
      (B.either told E.some.maps E.some.has n M.0 c M.1 is)))

  whole_each : (answer : Result (Unit {0}) MoveFault) → Commits tells mid new answer → EachPair old.files new.files (λ n a b. FileWent answer a b)
  whole_each answer B n a c was is =
      let M = now_there old.files mid.files A.count n a was in
      file_join (Ok tt) answer a M.0 c (λ P p. p) (A.each n a M.0 was M.1) (B.each n M.0 c M.1 is)

  whole_rose : (e : MoveFault) → Commits tells mid new (Err e) → e ≡ FaultIs.Device → IsTrue tells → (ps : ℕ → Maps) → HasMaps ps old → AreFresh ps → SomeRose old.files new.files
  whole_rose e B device told ps has fresh =
      let E = (R told ps has fresh).1 in
      rose_since old.files mid.files new.files A.count (λ n a b was is. (A.each n a b was is).rises)
      (subst (λ z. OnDevice {V = Unit {0}} (Err z) (SomeRose mid.files new.files)) device (B.rose told E.some.maps E.some.has))

  -- a disk failed in one of the commits
  pub moved_failed : (e : MoveFault) → Commits tells mid new (Err e) → MovedIn tells key old new (Err e)
  moved_failed e B = record {
    count = B.count ∙ A.count;
    each = whole_each (Err e) B;
    left = λ told ps has fresh. subst (λ z. MoveLeft key ps old.files new.files (Err z)) (sym B.fault) (whole_rose e B B.fault told ps has fresh);
    stops = whole_stops (Err e) B;
  }

  -- both are committed
  pub moved_whole : Commits tells mid new (Ok tt) → (IsTrue tells → (qs : ℕ → Maps) → HasMaps qs mid → HasMaps qs new) → new.finished ≡ 2 → MovedIn tells key old new (Ok tt)
  moved_whole B leads all = record {
    count = B.count ∙ A.count;
    each = whole_each (Ok tt) B;
    left = λ told ps has fresh.
        (let X = R told ps has fresh in
        let E = X.1 in
        let now = leads told E.some.maps E.some.has in (
          X.0,
          λ n w is.
              (let low = slice_get_within new.files n w is in
              let count = B.count in
              let same = A.count in
              let few : n < 2 = omega (arith, low, count, same, two) in
              let done : nat_lt n new.finished ≡ true = ap (nat_lt n) all ∙ lt-ltb n 2 few in
              settled_opens (moved_map key ps n) w
              (subst (λ m. IsSettled m w) (after_is key E.some.maps ps E.into E.from n few) (subst (λ b. FileStands new.prepared b (E.some.maps n) w) done (now n w is)))),
        ));
    stops = whole_stops (Ok tt) B;
  }

-- It broke off before the commits.
pub moved_not : (tells : Bool) (key : List ℕ) (old new : GroupState) (e : MoveFault) → Went {V = Unit {0}} tells old new (Err e) → (IsTrue tells → (ps : ℕ → Maps) → HasMaps ps old → AreFresh ps → Readied key ps new (Err e)) → MovedIn tells key old new (Err e)
moved_not tells key old new e A R = record {
  count = A.count;
  each = A.each;
  left = λ told ps has fresh. (let X = R told ps has fresh in left_of e ps X.0 X.1 (A.rose told ps has) (A.stays told ps has));
  stops = λ told ps has fresh n a b was is.
      leaves_weaker a.history b.history (OpensToMap (form_of_file a) (ps n).before) (OpensToEither (form_of_file a) (ps n).before (moved_map key ps n)) (λ z opens. inl opens) (A.stays told ps has n a b was is);
}
  where
    left_of : (z : MoveFault) (ps : ℕ → Maps) → TellsKey (get (ps 1).before key) z → OnRefusal z (AreCancelled ps new.files) → OnDevice {V = Unit {0}} (Err z) (SomeRose old.files new.files) → StayEach ps old.files new.files
        → MoveLeft key ps old.files new.files (Err z)
    left_of FaultIs.KeyMissing ps says all rose stay = (says, λ n w is. settled_opens (ps n).before w (all n w is))
    left_of (FaultIs.Full len need) ps says all rose stay = (says, λ n w is. settled_opens (ps n).before w (all n w is))
    left_of FaultIs.Device ps says all rose stay = rose
    left_of FaultIs.Log ps says all rose stay = stay
    left_of FaultIs.Memory ps says all rose stay = stay
