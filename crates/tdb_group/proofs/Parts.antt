-- The calls of a group at one file, from the command that it does there.
use Rattle.std.proofs.Common.{◌≡◌, ℕ, Bool, true, false, IsTrue, List, Option, None, Some, is_some, Result, Ok, Err, refl, sym, ◌∙◌, ap, subst, subst₂, inl, inr}
use Rattle.std.specs.Prelude.{IfErr, OnOk, nat_lt}
use Rattle.tdb_disk.specs.Count.{HasCause, Rose}
use Rattle.tdb_disk.specs.Stop.{LeavesOnly}
use Rattle.tdb_disk.proofs.Runs.{leaves_weaker}
use Rattle.tdb_space.specs.Form.{Form, form_in}
use Rattle.tdb_law.specs.Commands.{Command, MapCommand, Reply as LawReply}
use Rattle.tdb_law.specs.Commands.Command.{OnGroup, OnMap}
use Rattle.tdb_law.specs.Commands.GroupCommand.{Cancel, Commit, Prepare, Start}
use Rattle.tdb_law.specs.Openers.{Map, Options, Own}
use Rattle.tdb_law.specs.World.{State}
use Rattle.tdb_law.proofs.Tests.{never_true}
use Rattle.tdb_commands.specs.InLaw.{law_command, law_reply, law_store, options_of}
use Rattle.tdb_commands.specs.declared.command.Command.{Command as Asked}
use Rattle.tdb_commands.specs.declared.command.Command.TheVariants as Given
use Rattle.tdb_steps.specs.declared.flag.Flag.{Flag}
use Rattle.tdb_locks.specs.declared.turn.Reply.{Reply}
use Rattle.tdb_locks.specs.declared.turn.Reply.TheVariants as Replied
use Rattle.tdb_log.specs.Logs.{Logged, ToldAll, ToldUpTo, growth}
use Rattle.tdb_log.specs.declared.log.LogRefusal.{LogRefusal}
use Rattle.tdb_log.specs.declared.log.LogRefusal.TheVariants as Unheard
use Rattle.tdb_world.specs.Calm.{OpensToEither, OpensToMap}
use Rattle.tdb_world.specs.OverFile.{OverFile, KeepsForm}
use Rattle.tdb_world.specs.Loaded.{IsJustLoaded}
use Rattle.tdb_world.specs.OverFiles.Openers.{HasJoined}
use Rattle.tdb_world.specs.Stops.{IsSafe}
use Rattle.tdb_group.specs.Commands.{IsOnKey}
use Rattle.tdb_group.specs.Commands.Replies.{replies_memory}
use Rattle.tdb_group.specs.Faults.{log_answer, prepare_answer, was_done}
use Rattle.tdb_group.specs.Files.{Applied, Cancelled, Finished, HasNoTxn, HeardGrowth, IsAt, PrepareLeft, Prepared, StaysAt, Started, maps}
use Rattle.tdb_group.specs.Members.{IsMember, IsSettled, IsUnderway, Maps, form_of_file, options_of_file, with_txn}
use Rattle.tdb_group.specs.Turns.{CommandLeft, Did, IsPlain, Ran, map_to}
use Rattle.tdb_group.specs.declared.stop.FileStop.{FileStop}
use Rattle.tdb_group.specs.declared.stop.FileStop.TheVariants.{Io, Memory}
use Rattle.tdb_group.proofs.Files.{applied, cancelled, committed, joined_member, loaded_stays, member_opens, not_cancelled, prepared, refused, started, underway_safe, unstarted}
use Rattle.tdb_group.proofs.Plainly.{IsKeyed, cancel_plain, commit_plain, map_plain, no_cancel_plain, prepare_plain, start_plain}

-- a command that isn't a Commit leaves only what opens to the committed map
one_map : (f : Form) (m : Map) (img : List ℕ) → OpensToEither f m m img → OpensToMap f m img
one_map f m img (inl opens) = opens
one_map f m img (inr opens) = opens

module _ (tells : Bool) (c : Command) (a b : OverFile) (answer : Result (Option Reply) FileStop) (D : Did tells c None a b answer) where
  stays : IsTrue tells → (m : Map) (x : Own) → IsMember m x None a → IsPlain (form_of_file a) c x → IsSafe (form_of_file a) a.history → map_to c x m ≡ m → StaysAt m a b
  stays told m x M P safe same =
      leaves_weaker a.history b.history (OpensToEither (form_of_file a) m m) (OpensToMap (form_of_file a) m) (one_map (form_of_file a) m)
      (subst (λ n. LeavesOnly a.history b.history (OpensToEither (form_of_file a) m n)) same (D.stops told m x M P safe))

-- the options of a file stay with its form
pub kept_options : (a b : OverFile) → KeepsForm a b → options_of_file a ≡ options_of_file b
kept_options a b K = ap options_of (sym K.options)

pub kept_form : (a b : OverFile) → KeepsForm a b → form_of_file a ≡ form_of_file b
kept_form a b K = ap form_in (sym K.header)

-- Where a call broke off, the disk failed.
pub as_io : (P Q : FileStop → Type 0) (e : FileStop) → e ≡ Io → (P Io → Q Io) → P e → Q e
as_io P Q e is more p = subst Q (sym is) (more (subst P is p))

-- a reply with which a command wasn't done
not_done : (reply : Reply) → was_done (Some reply) ≡ false → law_reply reply ≡ LawReply.Done → ⊥
not_done Reply.Ok e is = never_true (sym e)
not_done reply e is = cc is

-- A command on one key.
module _ (tells : Bool) (c : Command) (on : MapCommand) (is : c ≡ OnMap on) (keyed : IsKeyed on) (a b : OverFile) where
  plain_there : (p : Maps) (U : IsUnderway false p a) → IsPlain (form_of_file a) c (with_txn (options_of_file a) (Some U.txn))
  plain_there p U =
      subst (λ z. IsPlain (form_of_file a) z (with_txn (options_of_file a) (Some U.txn))) (sym is)
      (map_plain (form_of_file a) (options_of_file a) U.txn U.leads.ready on keyed U.writes)

  same_map : (x : Own) (m : Map) → map_to c x m ≡ m
  same_map x m = subst (λ z. map_to z x m ≡ m) (sym is) refl

  applied_stays : (answer : Result (Option Reply) FileStop) → Did tells c None a b answer → IsTrue tells → (p : Maps) → IsUnderway false p a → StaysAt p.before a b
  applied_stays answer D told p U =
      let x = with_txn (options_of_file a) (Some U.txn) in
      stays tells c a b answer D told p.before x U.at (plain_there p U) (underway_safe false p a U) (same_map x p.before)

  -- it replied
  pub applied_done : (reply : Reply) → Ran a b (Ok (Some reply)) → Did tells c None a b (Ok (Some reply)) → Applied tells c a b (Ok reply)
  applied_done reply R D = record {
    left = λ told p U.
        (let x = with_txn (options_of_file a) (Some U.txn) in
        let left = D.left told p.before x U.at (plain_there p U) in
        let options = kept_options a b R.form in
        applied p.before b None p.after U.txn c on is reply keyed U.leads (subst (λ (o : Options). o.read_only ≡ false) options U.writes)
        (subst (λ o. CommandLeft c None (with_txn o (Some U.txn)) p.before b (Some reply)) options left));
    stops = λ told p U. applied_stays (Ok (Some reply)) D told p U;
  }

  -- it isn't given, which never comes
  pub applied_none : Did tells c None a b (Ok None) → Applied tells c a b (Ok Replied.Memory)
  applied_none D = record {
    left = λ told p U.
        (let none = D.left told p.before (with_txn (options_of_file a) (Some U.txn)) U.at (plain_there p U) in
        absurd (let both : OnMap on ≡ OnGroup Start = sym is ∙ none.1 in cc both));
    stops = λ told p U. applied_stays (Ok None) D told p U;
  }

  pub applied_failed : Did tells c None a b (Err Io) → Applied tells c a b (Err Io)
  applied_failed D = record {
    left = λ told p U. D.rose told p.before (with_txn (options_of_file a) (Some U.txn)) U.at (plain_there p U);
    stops = λ told p U. applied_stays (Err Io) D told p U;
  }

-- nothing was done, for want of memory
pub applied_not : (tells : Bool) (c : Command) (w : OverFile) → Applied tells c w w (Ok Replied.Memory)
applied_not tells c w = record {
  left = λ told p U. (p.after, replies_memory refl refl, U);
  stops = λ told p U. member_opens p.before _ w U.at (underway_safe false p w U);
}

-- The commands that a group does are such.
pub record OnKey (c : Command) : Type 0 where
  pub on : MapCommand
  pub is : c ≡ OnMap on
  pub keyed : IsKeyed on

stored_on : (flag : Flag) (key value : List ℕ) → OnKey (law_store flag key value)
stored_on Flag.Replace key value = record { on = MapCommand.Store key value; is = refl; keyed = tt }
stored_on Flag.Insert key value = record { on = MapCommand.Insert key value; is = refl; keyed = tt }
stored_on Flag.Modify key value = record { on = MapCommand.Modify key value; is = refl; keyed = tt }

pub on_key : (command : Asked) → IsOnKey command → OnKey (law_command command)
on_key (Given.Fetch key) on = record { on = MapCommand.Fetch key; is = refl; keyed = tt }
on_key (Given.Has key) on = record { on = MapCommand.Has key; is = refl; keyed = tt }
on_key (Given.Store key value flag) on = stored_on flag key value
on_key (Given.Append key value) on = record { on = MapCommand.Append key value; is = refl; keyed = tt }
on_key (Given.Delete key) on = record { on = MapCommand.Delete key; is = refl; keyed = tt }
on_key command on = absurd on

-- The Prepare of a transaction.
module _ (tells : Bool) (a b : OverFile) where
  prepares_there : (p : Maps) (U : IsUnderway false p a) → IsPlain (form_of_file a) (OnGroup Prepare) (with_txn (options_of_file a) (Some U.txn))
  prepares_there p U = prepare_plain (form_of_file a) (options_of_file a) U.txn U.leads.ready (ap (λ d. nat_lt 1 d) U.leads.outer) U.leads.intact

  prepare_stays : (answer : Result (Option Reply) FileStop) → Did tells (OnGroup Prepare) None a b answer → IsTrue tells → (p : Maps) → IsUnderway false p a → StaysAt p.before a b
  prepare_stays answer D told p U =
      let x = with_txn (options_of_file a) (Some U.txn) in
      stays tells (OnGroup Prepare) a b answer D told p.before x U.at (prepares_there p U) (underway_safe false p a U) refl

  module _ (reply : Reply) (R : Ran a b (Ok (Some reply))) (D : Did tells (OnGroup Prepare) None a b (Ok (Some reply))) (told : IsTrue tells) (p : Maps) (U : IsUnderway false p a) where
    writes_then : (options_of_file b).read_only ≡ false
    writes_then = subst (λ (o : Options). o.read_only ≡ false) (kept_options a b R.form) U.writes

    prepare_left : CommandLeft (OnGroup Prepare) None (with_txn (options_of_file b) (Some U.txn)) p.before b (Some reply)
    prepare_left =
        subst (λ o. CommandLeft (OnGroup Prepare) None (with_txn o (Some U.txn)) p.before b (Some reply)) (kept_options a b R.form)
        (D.left told p.before (with_txn (options_of_file a) (Some U.txn)) U.at (prepares_there p U))

    prepare_safe : IsSafe (form_of_file b) b.history
    prepare_safe =
        subst (λ g. IsSafe g b.history) (kept_form a b R.form)
        (D.safe told p.before (with_txn (options_of_file a) (Some U.txn)) U.at (prepares_there p U) (underway_safe false p a U))

  full_left : (len need : ℕ) → Ran a b (Ok (Some (Replied.Full len need))) → Did tells (OnGroup Prepare) None a b (Ok (Some (Replied.Full len need))) → IsTrue tells → (p : Maps) → IsUnderway false p a
      → IsSettled p.before b
  full_left len need R D told p U = record {
    at = refused p.before b None p.after U.txn U.leads (writes_then (Replied.Full len need) R D told p U) len need (prepare_left (Replied.Full len need) R D told p U);
    safe = prepare_safe (Replied.Full len need) R D told p U;
  }

  ok_left : Ran a b (Ok (Some Replied.Ok)) → Did tells (OnGroup Prepare) None a b (Ok (Some Replied.Ok)) → IsTrue tells → (p : Maps) → IsUnderway false p a → IsUnderway true p b
  ok_left R D told p U = prepared p.before b None p.after U.txn U.leads (writes_then Replied.Ok R D told p U) (prepare_left Replied.Ok R D told p U)

  -- by the reply, and by what the last log answered
  log_left : (heard : Result (Unit {0}) LogRefusal) (rest : Result (Unit {0}) FileStop) (p : Maps) → PrepareLeft p a b rest → PrepareLeft p a b (log_answer heard rest)
  log_left (Ok v) rest p left = left
  log_left (Err Unheard.Failed) rest p left = tt
  log_left (Err Unheard.Memory) rest p left = tt

  left_so : (reply : Option Reply) (heard : Result (Unit {0}) LogRefusal) → Ran a b (Ok reply) → Did tells (OnGroup Prepare) None a b (Ok reply) → IsTrue tells → (p : Maps) → IsUnderway false p a
      → PrepareLeft p a b (prepare_answer reply heard)
  left_so None heard R D told p U = log_left heard (Err Memory) p tt
  left_so (Some Replied.Ok) heard R D told p U = log_left heard (Ok tt) p (ok_left R D told p U)
  left_so (Some (Replied.Full len need)) heard R D told p U = (tt, full_left len need R D told p U)
  left_so (Some reply) heard R D told p U = log_left heard (Err Memory) p tt

  pub prepared_so : (reply : Option Reply) (heard : Result (Unit {0}) LogRefusal) → Ran a b (Ok reply) → Did tells (OnGroup Prepare) None a b (Ok reply) → Prepared tells a b (prepare_answer reply heard)
  prepared_so reply heard R D = record {
    left = λ told p U. left_so reply heard R D told p U;
    stops = λ told p U. prepare_stays (Ok reply) D told p U;
  }

  pub prepared_failed : Did tells (OnGroup Prepare) None a b (Err Io) → Prepared tells a b (Err Io)
  prepared_failed D = record {
    left = λ told p U. D.rose told p.before (with_txn (options_of_file a) (Some U.txn)) U.at (prepares_there p U);
    stops = λ told p U. prepare_stays (Err Io) D told p U;
  }

  -- the length of the file wasn't told afterwards
  pub prepared_unmeasured : (reply : Option Reply) (z : OverFile) → z.history ≡ b.history → Rose b.faults z.faults → Ran a b (Ok reply) → Did tells (OnGroup Prepare) None a b (Ok reply) → Prepared tells a z (Err Io)
  prepared_unmeasured reply z history rose R D = record {
    left = λ told p U. subst (λ n. Rose n z.faults) R.quiet rose;
    stops = λ told p U. subst (λ h. LeavesOnly a.history h (OpensToMap (form_of_file a) p.before)) (sym history) (prepare_stays (Ok reply) D told p U);
  }

-- nor before
pub prepared_not : (tells : Bool) (a z : OverFile) → z.history ≡ a.history → Rose a.faults z.faults → Prepared tells a z (Err Io)
prepared_not tells a z history rose = record {
  left = λ told p U. rose;
  stops = λ told p U. subst (λ h. LeavesOnly a.history h (OpensToMap (form_of_file a) p.before)) (sym history) (member_opens p.before _ a U.at (underway_safe false p a U));
}

-- what the last log was told
log_heard : (from to : ℕ) (before after : List Logged) (heard : Result (Unit {0}) LogRefusal) (rest : Result (Unit {0}) FileStop)
    → HeardGrowth from to before after rest → IfErr heard (λ refusal. ToldUpTo refusal (growth from to) before after) → HeardGrowth from to before after (log_answer heard rest)
log_heard from to before after (Ok v) rest heard refused = heard
log_heard from to before after (Err Unheard.Failed) rest heard refused = refused
log_heard from to before after (Err Unheard.Memory) rest heard refused = tt

pub heard_so : (from to : ℕ) (before after : List Logged) (reply : Option Reply) (heard : Result (Unit {0}) LogRefusal) → OnOk heard (ToldAll (growth from to) before after)
    → IfErr heard (λ refusal. ToldUpTo refusal (growth from to) before after) → HeardGrowth from to before after (prepare_answer reply heard)
heard_so from to before after (Some (Replied.Full len need)) heard told refused = tt
heard_so from to before after (Some Replied.Ok) (Ok v) told refused = told
heard_so from to before after (Some Replied.Ok) (Err Unheard.Failed) told refused = refused
heard_so from to before after (Some Replied.Ok) (Err Unheard.Memory) told refused = tt
heard_so from to before after None heard told refused = log_heard from to before after heard (Err Memory) tt refused
heard_so from to before after (Some reply) heard told refused = log_heard from to before after heard (Err Memory) tt refused

-- The length of a file was told: nothing has changed.
pub length_told : {V E : Type 0} (old new : OverFile) (n : V) → old.spent ≡ false → new ≡ record old { faults = new.faults; spent = false } → HasCause {V = V} {F = E} old.faults new.faults (Ok n) → new ≡ old
length_told old new n unspent kept cause = kept ∙ (λ j. record old { faults = cause.done j; spent = sym unspent j })

-- The Commit of a prepared transaction.
module _ (tells : Bool) (a b : OverFile) where
  commits_there : (p : Maps) (U : IsUnderway true p a) → IsPlain (form_of_file a) (OnGroup Commit) (with_txn (options_of_file a) (Some U.txn))
  commits_there p U = commit_plain (form_of_file a) (options_of_file a) U.txn U.leads.ready (ap (λ d. nat_lt 1 d) U.leads.outer) U.leads.intact

  finished_stops : (answer : Result (Option Reply) FileStop) → Did tells (OnGroup Commit) None a b answer → IsTrue tells → (p : Maps) → IsUnderway true p a
      → LeavesOnly a.history b.history (OpensToEither (form_of_file a) p.before p.after)
  finished_stops answer D told p U =
      let x = with_txn (options_of_file a) (Some U.txn) in
      subst (λ n. LeavesOnly a.history b.history (OpensToEither (form_of_file a) p.before n)) U.leads.image
      (D.stops told p.before x U.at (commits_there p U) (underway_safe true p a U))

  commit_left : (reply : Reply) → Ran a b (Ok (Some reply)) → Did tells (OnGroup Commit) None a b (Ok (Some reply)) → IsTrue tells → (p : Maps) → IsUnderway true p a
      → (law_reply reply ≡ LawReply.Done) × IsSettled p.after b
  commit_left reply R D told p U =
      let x = with_txn (options_of_file a) (Some U.txn) in
      let options = kept_options a b R.form in
      let left = D.left told p.before x U.at (commits_there p U) in
      let done = committed p.before b None p.after U.txn reply U.leads (subst (λ o. CommandLeft (OnGroup Commit) None (with_txn o (Some U.txn)) p.before b (Some reply)) options left) in
      let safe = D.safe told p.before x U.at (commits_there p U) (underway_safe true p a U) in
      (done.0, record { at = done.1; safe = subst (λ g. IsSafe g b.history) (kept_form a b R.form) safe })

  never_none : Did tells (OnGroup Commit) None a b (Ok None) → IsTrue tells → (p : Maps) → IsUnderway true p a → ⊥
  never_none D told p U =
      let none = D.left told p.before (with_txn (options_of_file a) (Some U.txn)) U.at (commits_there p U) in
      let is : OnGroup Commit ≡ OnGroup Start = none.1 in cc is

  pub finished_failed : Did tells (OnGroup Commit) None a b (Err Io) → Finished tells a b (Err Io)
  finished_failed D = record {
    left = λ told p U. D.rose told p.before (with_txn (options_of_file a) (Some U.txn)) U.at (commits_there p U);
    stops = λ told p U. finished_stops (Err Io) D told p U;
  }

  pub finished_yes : (reply : Option Reply) → was_done reply ≡ true → Ran a b (Ok reply) → Did tells (OnGroup Commit) None a b (Ok reply) → Finished tells a b (Ok tt)
  finished_yes None e R D = absurd (never_true e)
  finished_yes (Some reply) e R D = record {
    left = λ told p U. (commit_left reply R D told p U).1;
    stops = λ told p U. finished_stops (Ok (Some reply)) D told p U;
  }

  -- another reply, or none, never comes
  pub finished_no : (reply : Option Reply) → was_done reply ≡ false → Ran a b (Ok reply) → Did tells (OnGroup Commit) None a b (Ok reply) → Finished tells a b (Err Io)
  finished_no None e R D = record {
    left = λ told p U. absurd (never_none D told p U);
    stops = λ told p U. finished_stops (Ok None) D told p U;
  }
  finished_no (Some reply) e R D = record {
    left = λ told p U. absurd (not_done reply e (commit_left reply R D told p U).0);
    stops = λ told p U. finished_stops (Ok (Some reply)) D told p U;
  }

-- A Cancel, in a transaction or without one.
module _ (tells : Bool) (a b : OverFile) where
  -- what is known of a file that has a map while its transaction isn't finished, or is over
  record There (m : Map) : Type 0 where
    x : Own
    at : IsMember m x None a
    plain : IsPlain (form_of_file a) (OnGroup Cancel) x
    safe : IsSafe (form_of_file a) a.history
    over : (reply : Reply) → options_of_file a ≡ options_of_file b → CommandLeft (OnGroup Cancel) None x m b (Some reply) → IsMember m (with_txn (options_of_file b) None) None b

  there : (m : Map) → IsAt m a → There m
  there m (inl (prepared, n, U)) = record {
    x = with_txn (options_of_file a) (Some U.txn);
    at = U.at;
    plain = cancel_plain (form_of_file a) (options_of_file a) U.txn;
    safe = underway_safe prepared (maps m n) a U;
    over = λ reply options left. cancelled m b None U.txn reply U.leads.outer (subst (λ o. CommandLeft (OnGroup Cancel) None (with_txn o (Some U.txn)) m b (Some reply)) options left);
  }
  there m (inr S) = record {
    x = with_txn (options_of_file a) None;
    at = S.at;
    plain = no_cancel_plain (form_of_file a) (options_of_file a);
    safe = S.safe;
    over = λ reply options left. not_cancelled m b None reply (subst (λ o. CommandLeft (OnGroup Cancel) None (with_txn o None) m b (Some reply)) options left);
  }

  cancel_stays : (answer : Result (Option Reply) FileStop) → Did tells (OnGroup Cancel) None a b answer → IsTrue tells → (m : Map) → IsAt m a → StaysAt m a b
  cancel_stays answer D told m at = let T = there m at in stays tells (OnGroup Cancel) a b answer D told m T.x T.at T.plain T.safe refl

  cancelled_done : (reply : Reply) → Ran a b (Ok (Some reply)) → Did tells (OnGroup Cancel) None a b (Ok (Some reply)) → Cancelled tells a b (Ok tt)
  cancelled_done reply R D = record {
    left = λ told m at.
        (let T = there m at in
        let options = kept_options a b R.form in
        record {
          at = T.over reply options (D.left told m T.x T.at T.plain);
          safe = subst (λ g. IsSafe g b.history) (kept_form a b R.form) (D.safe told m T.x T.at T.plain T.safe);
        });
    stops = λ told m at. cancel_stays (Ok (Some reply)) D told m at;
  }

  cancelled_none : Did tells (OnGroup Cancel) None a b (Ok None) → Cancelled tells a b (Err Io)
  cancelled_none D = record {
    left = λ told m at.
        (let T = there m at in
        let none = D.left told m T.x T.at T.plain in
        let is : OnGroup Cancel ≡ OnGroup Start = none.1 in absurd (cc is));
    stops = λ told m at. cancel_stays (Ok None) D told m at;
  }

  -- by whether it was given
  pub cancelled_yes : (reply : Option Reply) → is_some reply ≡ true → Ran a b (Ok reply) → Did tells (OnGroup Cancel) None a b (Ok reply) → Cancelled tells a b (Ok tt)
  cancelled_yes None e R D = absurd (never_true e)
  cancelled_yes (Some reply) e R D = cancelled_done reply R D

  pub cancelled_no : (reply : Option Reply) → is_some reply ≡ false → Did tells (OnGroup Cancel) None a b (Ok reply) → Cancelled tells a b (Err Io)
  cancelled_no None e D = cancelled_none D
  cancelled_no (Some reply) e D = absurd (never_true (sym e))

  pub cancelled_failed : Did tells (OnGroup Cancel) None a b (Err Io) → Cancelled tells a b (Err Io)
  cancelled_failed D = record {
    left = λ told m at. (let T = there m at in D.rose told m T.x T.at T.plain);
    stops = λ told m at. cancel_stays (Err Io) D told m at;
  }

-- The opener of a world just loaded joined, and its Start was done or wasn't.
module _ (tells : Bool) (w a b : OverFile) (who : ℕ) (J : HasJoined w a who) where
  -- the file of a world whose opener joined is as it was
  joined_form : form_of_file w ≡ form_of_file a
  joined_form = ap form_in (sym J.memory.form.header)

  joined_history : a.history ≡ w.history
  joined_history = ap (λ (z : OverFile). z.history) J.memory.file

  writes_too : (options_of_file w).read_only ≡ false → (options_of_file a).read_only ≡ false
  writes_too writes = ap (λ o. (options_of o).read_only) J.memory.form.options ∙ writes

  start_there : (state : State) (L : IsJustLoaded w.world w.history state) → IsMember state.file (with_txn (options_of_file a) None) None a
  start_there state L = joined_member w a who J state L

  start_stops : (answer : Result (Option Reply) FileStop) → Did tells (OnGroup Start) None a b answer → IsTrue tells → (state : State) → IsJustLoaded w.world w.history state → (options_of_file w).read_only ≡ false → IsSafe (form_of_file w) w.history
      → StaysAt state.file w b
  start_stops answer D told state L writes safe =
      let safe_too : IsSafe (form_of_file a) a.history = subst₂ IsSafe joined_form (sym joined_history) safe in
      subst₂ (λ g h. LeavesOnly h b.history (OpensToMap g state.file)) (sym joined_form) joined_history
      (stays tells (OnGroup Start) a b answer D told state.file (with_txn (options_of_file a) None) (start_there state L) (start_plain (form_of_file a) (options_of_file a) (writes_too writes)) safe_too refl)

  start_left : (reply : Option Reply) → Ran a b (Ok reply) → Did tells (OnGroup Start) None a b (Ok reply) → IsTrue tells → (state : State) → IsJustLoaded w.world w.history state → (options_of_file w).read_only ≡ false
      → CommandLeft (OnGroup Start) None (with_txn (options_of_file b) None) state.file b reply
  start_left reply R D told state L writes =
      subst (λ o. CommandLeft (OnGroup Start) None (with_txn o None) state.file b reply) (kept_options a b R.form)
      (D.left told state.file (with_txn (options_of_file a) None) (start_there state L) (start_plain (form_of_file a) (options_of_file a) (writes_too writes)))

  writes_on : (reply : Option Reply) → Ran a b (Ok reply) → (options_of_file w).read_only ≡ false → (options_of_file b).read_only ≡ false
  writes_on reply R writes = ap (λ (o : Options). o.read_only) (sym (kept_options a b R.form)) ∙ writes_too writes

  has_none : (m : Map) (z : OverFile) → IsMember m (with_txn (options_of_file z) None) None z → HasNoTxn z
  has_none m z M = (M.state, M.has, ap (λ (y : Own). y.txn) (sym (M.stands.owns 0) ∙ M.own))

  pub started_yes : (reply : Option Reply) → was_done reply ≡ true → Ran a b (Ok reply) → Did tells (OnGroup Start) None a b (Ok reply) → Started tells w b (Ok tt)
  started_yes None e R D = absurd (never_true e)
  started_yes (Some Reply.Ok) e R D = record {
    left = λ told state L writes. started state.file b None (writes_on (Some Reply.Ok) R writes) (start_left (Some Reply.Ok) R D told state L writes);
    stops = λ told state L writes safe. start_stops (Ok (Some Reply.Ok)) D told state L writes safe;
  }
  started_yes (Some reply) e R D = absurd (never_true e)

  start_none : (reply : Option Reply) → was_done reply ≡ false → (m : Map) → (options_of_file b).read_only ≡ false → CommandLeft (OnGroup Start) None (with_txn (options_of_file b) None) m b reply → HasNoTxn b
  start_none None e m writes left = has_none m b left.2
  start_none (Some reply) e m writes left = has_none m b (unstarted m b None reply writes left (not_done reply e))

  pub started_no : (reply : Option Reply) → was_done reply ≡ false → Ran a b (Ok reply) → Did tells (OnGroup Start) None a b (Ok reply) → Started tells w b (Err Memory)
  started_no reply e R D = record {
    left = λ told state L writes. start_none reply e state.file (writes_on reply R writes) (start_left reply R D told state L writes);
    stops = λ told state L writes safe. start_stops (Ok reply) D told state L writes safe;
  }

  pub started_failed : Did tells (OnGroup Start) None a b (Err Io) → Started tells w b (Err Io)
  started_failed D = record {
    left = λ told state L writes.
        subst (λ n. Rose n b.faults) (ap (λ (z : OverFile). z.faults) J.memory.file)
        (D.rose told state.file (with_txn (options_of_file a) None) (start_there state L) (start_plain (form_of_file a) (options_of_file a) (writes_too writes)));
    stops = λ told state L writes safe. start_stops (Err Io) D told state L writes safe;
  }

-- Nobody joined.
pub not_started : (tells : Bool) (w : OverFile) → Started tells w w (Err Memory)
not_started tells w = record {
  left = λ told state L writes. (state, L.of_world, ap (λ (y : Own). y.txn) (L.loaded.own 0));
  stops = λ told state L writes safe. loaded_stays w state L safe;
}
