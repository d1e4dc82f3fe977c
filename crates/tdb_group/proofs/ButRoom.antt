-- A file of which only memory is given back: it is in its transaction as before.
use Rattle.std.proofs.Common.{◌≡◌, Bool, false, Option, None, Some, Result, Ok, Err, sym, ◌∙◌, ap, subst, arith}
use Rattle.tdb_disk.specs.Count.{Rose}
use Rattle.tdb_disk.specs.History.{History}
use Rattle.tdb_disk.specs.Stop.{LeavesOnly}
use Rattle.tdb_law.specs.Beginning.{nobody}
use Rattle.tdb_law.specs.Commands.{Command}
use Rattle.tdb_law.specs.Openers.{Map, Options, Own, Task}
use Rattle.tdb_law.specs.Standing.{Stands}
use Rattle.tdb_law.specs.World.{State, IsSound}
use Rattle.tdb_locks.specs.declared.turn.Reply.{Reply}
use Rattle.tdb_world.specs.Calm.{OpensToMap}
use Rattle.tdb_world.specs.OverFile.{OverFile, KeepsForm, OnlyInMemory}
use Rattle.tdb_world.specs.States.{IsStateOf}
use Rattle.tdb_group.specs.Files.{Applied}
use Rattle.tdb_group.specs.Members.{IsMember, IsUnderway, Maps, form_of_file, options_of_file, with_txn}
use Rattle.tdb_group.specs.Turns.{Ran}
use Rattle.tdb_group.specs.declared.stop.FileStop.{FileStop}
use Rattle.tdb_group.proofs.Loops.{keeps_on, unless_more}
use Rattle.tdb_group.proofs.Parts.{kept_form, kept_options}

module _ (a b : OverFile) (M : OnlyInMemory a b) where
  history : b.history ≡ a.history
  history = ap (λ (w : OverFile). w.history) M.file

  faults : b.faults ≡ a.faults
  faults = ap (λ (w : OverFile). w.faults) M.file

  pub ran_still : (old : OverFile) {V : Type 0} (answer : Result V FileStop) → Ran old a answer → Ran old b answer
  ran_still old answer R = record {
    form = unless_more answer (KeepsForm old a) (KeepsForm old b) (λ kept. keeps_on old a b kept M.form) R.form;
    unspent = unless_more answer (a.spent ≡ false) (b.spent ≡ false) (λ unspent. ap (λ (w : OverFile). w.spent) M.file ∙ unspent) R.unspent;
    never_falls = (let rises = R.never_falls in let same = faults in omega (arith, rises, same));
    quiet = unless_more answer (a.faults ≡ old.faults) (b.faults ≡ old.faults) (λ quiet. faults ∙ quiet) R.quiet;
  }

  module _ (states : (h : History) (state : State) → IsStateOf a.world h state → IsStateOf b.world h state) where
    member_still : (m : Map) (x : Own) (u : Option Task) → IsMember m x u a → IsMember m x u b
    member_still m x u N =
        let form = kept_form a b M.form in
        record {
          state = N.state;
          has = subst (λ h. IsStateOf b.world h N.state) (sym history) (states a.history N.state N.has);
          sound = subst (λ g. IsSound g N.state) form N.sound;
          replay = N.replay;
          stands = subst (λ g. Stands g N.state N.replay) form N.stands;
          map = N.map;
          own = N.own;
          others = λ o ne. N.others o ne ∙ ap nobody (kept_options a b M.form);
          command = N.command;
          fresh = N.fresh;
        }

    underway_still : (prepared : Bool) (p : Maps) → IsUnderway prepared p a → IsUnderway prepared p b
    underway_still prepared p U =
        let options = kept_options a b M.form in
        record {
          txn = U.txn;
          at = subst (λ (o : Options). IsMember p.before (with_txn o (Some U.txn)) None b) options (member_still p.before (with_txn (options_of_file a) (Some U.txn)) None U.at);
          leads = U.leads;
          writes = subst (λ (o : Options). o.read_only ≡ false) options U.writes;
        }

    pub applied_still : (tells : Bool) (c : Command) (old : OverFile) (answer : Result Reply FileStop) → Applied tells c old a answer → Applied tells c old b answer
    applied_still tells c old (Ok reply) A = record {
      left = λ told p U. (let left = A.left told p U in (left.0, left.1, underway_still false _ left.2));
      stops = λ told p U. subst (λ h. LeavesOnly old.history h (OpensToMap (form_of_file old) p.before)) (sym history) (A.stops told p U);
    }
    applied_still tells c old (Err stop) A = record {
      left = λ told p U. subst (λ n. Rose old.faults n) (sym faults) (A.left told p U);
      stops = λ told p U. subst (λ h. LeavesOnly old.history h (OpensToMap (form_of_file old) p.before)) (sym history) (A.stops told p U);
    }
