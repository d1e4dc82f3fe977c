-- A turn of a Commit of a prepared transaction whose gate was opened, as a turn of the opener aside.
use Rattle.std.proofs.Common.{◌≡◌, ℕ, ◌≤◌, ◌+◌, List, [], Bool, true, false, nat_le, Some, refl, sym, ◌∙◌, ap, subst, arith}
use Rattle.std.specs.Prelude.{◌==◌}
use Rattle.std.proofs.lemmas.Bool.Decides.{nat_tests}
use Rattle.tdb_disk.specs.History.{History}
use Rattle.tdb_space.specs.Accepted.{Accept, AcceptWith}
use Rattle.tdb_space.specs.Form.{Form}
use Rattle.tdb_locks.specs.declared.piece.Piece.{Piece}
use Rattle.tdb_law.specs.Commands.{Reply, Turn}
use Rattle.tdb_law.specs.Commands.Turn.{Ends}
use Rattle.tdb_law.specs.Commands.GroupCommand.{Commit}
use Rattle.tdb_law.specs.Commands.Command.{OnGroup}
use Rattle.tdb_law.specs.Openers.{Txn, nowhere}
use Rattle.tdb_law.specs.Effects.{task_left}
use Rattle.tdb_law.specs.Held.{holding, locked_next, txn_held}
use Rattle.tdb_law.specs.Images.{image_map}
use Rattle.tdb_law.specs.Rows.{Lock, commits_in}
use Rattle.tdb_txn_turns.specs.Holding.{HoldsRow, RowTurned}
use Rattle.tdb_txn_turns.specs.Finishes.{finish_steps, finish_turn, FinishLeads, FinishMade, KnowsFinish}
use Rattle.tdb_txn_turns.proofs.Lawful.{finish_holds}
use Rattle.tdb_txn_turns.specs.declared.finishing.Finishing.{Finishing}
use Rattle.tdb_txn_turns.specs.declared.finishing.Finishing.TheVariants.{Open, Applied, Settled, Shut}
use Rattle.tdb_txn_turns.specs.declared.finishing.FinishTurn.{FinishTurn}
use Rattle.tdb_txn_turns.specs.declared.finishing.FinishTurn.TheVariants.{Step, Done}
use Rattle.tdb_steps.specs.Turns.{number_of}
use Rattle.tdb_commands.specs.InLaw.{law_turn}
use Rattle.tdb_law.specs.OneAside.Sides.{Past, Side}
use Rattle.tdb_law.specs.OneAside.Own.{OwnTurned}
use Rattle.tdb_commands.specs.declared.options.Options.{Options}
use Rattle.tdb_txn_owner.specs.declared.stage.Stage.TheVariants as At
use Rattle.tdb_txn_owner.specs.Ends.{task_of, committed, shuts, IsBlocked}
use Rattle.tdb_txn_owner.specs.Stages.{HasOuter, Known, IsSide, KnowsFile}
use Rattle.tdb_txn_owner.specs.Turned.{MayTurn, RestsLike, StageTurned, keeps, brings}
use Rattle.tdb_txn_owner.specs.Waits.{IsAlone, of_finish}
use Rattle.tdb_txn_owner.specs.Wents.{finish_went}
use Rattle.tdb_txn_owner.proofs.Filed.{file_by, known_by, numbers_by, other_number, same_number}
use Rattle.tdb_txn_owner.proofs.Resting.{shut_like}
use Rattle.tdb_txn_owner.proofs.Sided.{begins, leaves, side_after}
use Rattle.tdb_txn_owner.proofs.Turning.{group_still}
use Rattle.tdb_txn_owner.proofs.Waiting.{alone_goes}
use Rattle.tdb_txn_owner.proofs.FinishTurns.{finish_is_own}
use Rattle.tdb_txn_owner.proofs.GroupEffects.{changed_is}

-- an outer prepared transaction in which something was changed is one to commit
prepared_commits : (t : Txn) (steps : ℕ) → t.depth ≡ 1 → t.changed ≡ true → t.prepared ≡ Some steps → 1 ≤ steps → commits_in t ≡ true
prepared_commits t steps outer changed is some = rw (outer, changed, is) (planned steps some)
  where
    planned : (n : ℕ) → 1 ≤ n → nat_le 1 n ≡ true
    planned n some = grind (arith, nat_tests)

few_steps : (s : Finishing) → finish_steps s ≤ 3
few_steps (Open state) = omega arith
few_steps (Applied state) = omega arith
few_steps (Settled state) = omega arith
few_steps Shut = omega arith

-- where the gate was shut it knows that of any image of the file before
shut_next : (s : Finishing) (h : History) (r b : List ℕ) → finish_steps s ≡ 3 → KnowsFinish s h r b → KnowsFinish s h b b
shut_next (Open state) h r b late K = absurd (omega (arith, late))
shut_next (Applied state) h r b late K = absurd (omega (arith, late))
shut_next (Settled state) h r b late K = absurd (omega (arith, late))
shut_next Shut h r b late K = K

-- the image of a commit whose gate is open is accepted
pub settled_accepted : (s : Finishing) (h : History) (r b : List ℕ) → finish_steps s ≡ 2 → KnowsFinish s h r b → Accept b
settled_accepted (Open state) h r b third K = K.accepted
settled_accepted (Applied state) h r b third K = K.accepted
settled_accepted (Settled state) h r b third K = K.accepted
settled_accepted Shut h r b third K = absurd (omega (arith, third))

module _ (f : Form) (o : Options) (table : ℕ → ℕ → ℕ) (owner : ℕ) (ps rs : List Piece) (c : Finishing) (h new : History) (k : Known) (past : Past) (s : Side)
    (S : IsSide f o owner ps (At.Finishing c) k past s) (K : KnowsFile f (At.Finishing c) h k) (M : MayTurn f table s (task_of (OnGroup Commit) (finish_steps c))) where
  abbrev txn : Txn
  txn = S.own.txn

  abbrev steps : ℕ
  steps = finish_steps c

  abbrev Locks : FinishTurn → Type 0
  Locks turn = (row : List Lock) (kept : ℕ → ℕ) (n : ℕ) → HoldsRow row kept owner n ps → ((b : ℕ) → locked_next row n b ≡ 0) → RowTurned false row kept owner n ps rs (finish_turn turn)

  abbrev Goal : FinishTurn → Type 0
  Goal turn = StageTurned f o table owner rs (At.Finishing c) (finish_went turn).stage h new k past s (task_of (OnGroup Commit) (finish_steps c)) (law_turn (finish_went turn).turn)

  holds_row : HoldsRow [] (txn_held txn) owner steps ps
  holds_row b = sym (S.table b) ∙ S.holds b ∙ ap (λ task. holding f s.own nowhere task b) S.task
      ∙ (finish_holds f s.own txn nowhere s.view 4 steps b S.own.has.outer.has S.own.has.prepared_is).0 ∙ omega arith

  commits : commits_in txn ≡ true
  commits = prepared_commits txn 4 S.own.has.outer.outer S.own.change S.own.has.prepared_is (omega arith)

  module _ (turn : FinishTurn) (locks : Locks turn) where
    row_turned : RowTurned false [] (txn_held txn) owner steps ps rs (finish_turn turn)
    row_turned = locks [] (txn_held txn) steps holds_row (λ b. refl)

    alone : (IsBlocked (finish_turn turn) → ⊥) × IsAlone owner rs
    alone = alone_goes false [] (txn_held txn) owner steps ps rs (finish_turn turn) of_finish S.alone row_turned

    abbrev later : Side
    later = side_after s owner rs (committed (finish_turn turn) s.own) (task_left (OnGroup Commit) (finish_steps c) (finish_turn turn))

    abbrev OwnBy : Bool → Turn → Type 0
    OwnBy b u = let after = known_by k b in OwnTurned f table (image_map f k.file) (image_map f after.file) (number_of f k.file) (number_of f after.file) past past s later (task_of (OnGroup Commit) (finish_steps c)) u

    own_turned : FinishLeads c turn → (finish_turn turn ≡ Ends Reply.Done → commits_in txn ≡ true → k.image ≡ k.file) → OwnBy (shuts 2 (finish_steps c) (finish_turn turn)) (finish_turn turn)
    own_turned leads done =
        let after = known_by k (shuts 2 steps (finish_turn turn)) in
        finish_is_own f table (image_map f k.file) (image_map f after.file) (number_of f k.file) (number_of f after.file) owner 4 past past s later s.own txn c turn ps rs
        S.own.has.outer S.own.has.prepared_is (omega arith) commits leads row_turned (λ b. refl)
        (file_by f k s.own txn (past.numbers s.here) S.own.has.outer.has S.own.has.map S.numbers 2 steps (finish_turn turn) done)
        (begins f o table owner ps (At.Finishing c) k past s (task_of (OnGroup Commit) steps) S refl M)
        (leaves past s (task_of (OnGroup Commit) steps) (finish_turn turn) owner rs (committed (finish_turn turn) s.own))
        (λ step. refl)

  module _ (next : Finishing) (locks : Locks (Step next)) (leads : FinishLeads c (Step next)) (made : FinishMade k.file k.image h new (Step next)) where
    turned : (b : Bool) → (finish_steps c == 2) ≡ b → OwnBy (Step next) locks b Turn.Step
    turned b is = subst (λ last. OwnBy (Step next) locks last Turn.Step) is (own_turned (Step next) locks leads (λ ends. absurd (cc ends)))

    side : (b : Bool) → (finish_steps c == 2) ≡ b → (known_by k b).image ≡ k.image → IsSide f o owner rs (At.Finishing next) (known_by k b) past (later (Step next) locks)
    side b is same = record {
      here = S.here;
      alone = (alone (Step next) locks).1;
      table = λ byte. refl;
      holds = (turned b is).holds;
      task = ap (λ n. Some (task_of (OnGroup Commit) n)) (sym leads);
      keeps = S.keeps;
      live = S.live;
      options = S.options;
      own = record { txn = txn; has = subst (λ image. HasOuter f image Commit (Some 4) txn s.own) (sym same) S.own.has; change = S.own.change };
      numbers = numbers_by f k s.own txn (past.numbers s.here) S.own.has.outer.has S.own.has.map S.numbers b;
      mark = tt;
    }

    by_last : (b : Bool) → (finish_steps c == 2) ≡ b → Goal (Step next)
    by_last true is = record {
      known = record { file = k.image; image = k.image };
      later = past;
      side = later (Step next) locks;
      left = side true is refl;
      file = record { at = (shut_next next new k.file k.image (let third = same_number (finish_steps c) 2 is in omega (arith, third, leads)) made, λ late. refl); forms = (K.forms.1, K.forms.1); reads = λ only. absurd (only refl) };
      kept =
          let third = same_number (finish_steps c) 2 is in
          brings txn refl refl S.own.has.outer.has S.own.has.map
          (changed_is f s.own txn S.own.has.outer (steps + 1) ∙ rw (commits, S.own.has.prepared_is, third) refl)
          (subst (λ g. AcceptWith g k.image []) K.forms.1 (settled_accepted c h k.file k.image third K.at.0)) refl;
      still = tt;
      turned = turned true is;
    }
    by_last false is = record {
      known = k;
      later = past;
      side = later (Step next) locks;
      left = side false is refl;
      file = record { at = (made, λ late. absurd (let few = few_steps next in other_number (finish_steps c) 2 is (omega (arith, few, late, leads)))); forms = K.forms; reads = λ only. absurd (only refl) };
      kept = keeps refl;
      still = tt;
      turned = turned false is;
    }

  pub finish_turned : (turn : FinishTurn) → Locks turn → FinishLeads c turn → FinishMade k.file k.image h new turn → Goal turn
  finish_turned (Step next) locks leads made = by_last next locks leads made (finish_steps c == 2) refl
  finish_turned Done locks leads made =
      let same = K.at.1 (let all = ap finish_steps leads in omega (arith, all)) in
      record {
        known = k;
        later = past;
        side = later Done locks;
        left = record { here = S.here; alone = (alone Done locks).1; table = λ b. refl; nothing = (row_turned Done locks).holds; task = refl; own = refl; live = S.live; options = S.options };
        file = (subst (RestsLike f new) (sym same) (shut_like f new k.image K.forms.1 made.1), λ reads. made.0);
        kept = keeps refl;
        still = group_still f Commit s.own;
        turned = own_turned Done locks leads (λ ends change. sym same);
      }
