-- A turn of an outer Commit, as a turn of the opener aside.
use Rattle.std.proofs.Common.{◌≡◌, ℕ, ◌≤◌, ◌+◌, ◌⊎◌, max, List, [], Bool, true, false, None, Some, refl, sym, ◌∙◌, ap, subst, inl, inr, arith}
use Rattle.std.specs.Prelude.{◌==◌}
use Rattle.tdb_disk.specs.History.{History}
use Rattle.tdb_space.specs.Accepted.{Accept, AcceptWith}
use Rattle.tdb_space.specs.Form.{Form, form_of}
use Rattle.tdb_locks.specs.declared.kind.Kind.TheVariants.{Write}
use Rattle.tdb_locks.specs.declared.piece.Piece.{Piece}
use Rattle.tdb_law.specs.Commands.{Reply, Turn}
use Rattle.tdb_law.specs.Commands.Turn.{Ends}
use Rattle.tdb_law.specs.Commands.GroupCommand.{Commit}
use Rattle.tdb_law.specs.Commands.Command.{OnGroup}
use Rattle.tdb_law.specs.Openers.{Txn, ended, nowhere}
use Rattle.tdb_law.specs.Effects.{task_left}
use Rattle.tdb_law.specs.Held.{holding, locked}
use Rattle.tdb_law.specs.Images.{image_map}
use Rattle.tdb_law.specs.Rows.{commits_in, plans_in}
use Rattle.tdb_txn_turns.specs.Holding.{held_after, HoldsRow, RowTurned}
use Rattle.tdb_txn_turns.specs.Prepares.{start_held}
use Rattle.tdb_txn_turns.specs.Committings.{commit_row, commit_steps, commit_turn, CommitLeads, CommitMade, IsNumbered, KnowsCommit, MayGoOn, CanEnd, unchanged, planned, shut}
use Rattle.tdb_txn_turns.specs.Laws.{HasChange, commits}
use Rattle.tdb_txn_turns.proofs.Lawful.{commit_holds}
use Rattle.tdb_txn_turns.specs.declared.committing.Committing.{Committing}
use Rattle.tdb_txn_turns.specs.declared.committing.Committing.TheVariants.{Preparing, Finishing}
use Rattle.tdb_txn_turns.specs.declared.committing.CommitTurn.{CommitTurn}
use Rattle.tdb_txn_turns.specs.declared.committing.CommitTurn.TheVariants.{Step, Blocked, Full, Memory, Done}
use Rattle.tdb_txn_turns.specs.declared.finishing.Finishing.TheVariants.{Open, Applied, Settled, Shut}
use Rattle.tdb_steps.specs.Turns.{number_of}
use Rattle.tdb_commands.specs.InLaw.{law_turn}
use Rattle.tdb_law.specs.OneAside.Sides.{Past, Side}
use Rattle.tdb_law.specs.OneAside.Own.{OwnTurned}
use Rattle.tdb_commands.specs.declared.options.Options.{Options}
use Rattle.tdb_txn_owner.specs.declared.stage.Stage.TheVariants as At
use Rattle.tdb_txn_owner.specs.Ends.{task_of, committed, shuts, IsBlocked}
use Rattle.tdb_txn_owner.specs.Stages.{HasOuter, Known, IsSide, KnowsFile}
use Rattle.tdb_txn_owner.specs.Turned.{IsBackAs, MayTurn, StageTurned, RestsLike, keeps, brings}
use Rattle.tdb_txn_owner.specs.Waits.{IsAlone, of_commit}
use Rattle.tdb_txn_owner.specs.Wents.{commit_went}
use Rattle.tdb_txn_owner.proofs.Sided.{begins, leaves, side_after}
use Rattle.tdb_txn_owner.proofs.PlanStages.{early_like, few_planning, going_or_none, plan_goes, commit_writes}
use Rattle.tdb_txn_owner.proofs.Filed.{file_by, known_by, numbers_by, other_number, same_number}
use Rattle.tdb_txn_owner.proofs.Finished.{settled_accepted}
use Rattle.tdb_txn_owner.proofs.GroupEffects.{changed_is}
use Rattle.tdb_txn_owner.proofs.Planned.{going_row, has_change, plans_commits}
use Rattle.tdb_txn_owner.proofs.Resting.{rests_like, shut_like}
use Rattle.tdb_txn_owner.proofs.Rows.{holds_at_first}
use Rattle.tdb_txn_owner.proofs.Turning.{group_still}
use Rattle.tdb_txn_owner.proofs.Waiting.{alone_goes}
use Rattle.tdb_txn_owner.proofs.CommitTurns.{commit_is_own}

-- a Commit goes on, or nothing was changed
going : (c : Committing) → MayGoOn c ⊎ ((commit_steps c ≡ 0) × ((numbered : Bool) → commit_row c numbered ≡ []))
going (Preparing p) = elim (going_or_none p.stage) [ inl some ↦ inl some | inr none ↦ inr (none.0, λ numbered. none.1 p.numbered) ]
going (Finishing s) = inl tt

-- and so the next one has the change
change_goes : (t : Txn) (c : Committing) → MayGoOn c → plans_in t ≡ true → HasChange t c
change_goes t (Preparing p) some plans = plan_goes t p.stage some plans
change_goes t (Finishing s) some plans = plans

module _ (f : Form) (o : Options) (table : ℕ → ℕ → ℕ) (owner : ℕ) (ps : List Piece) (c : Committing) (h : History) (k : Known) (past : Past) (s : Side)
    (S : IsSide f o owner ps (At.Committing c) k past s) where
  abbrev txn : Txn
  txn = S.own.txn

  abbrev numbered : Bool
  numbered = S.own.txn.numbered

  holds_row : HoldsRow (commit_row c numbered) start_held owner (commit_steps c) ps
  holds_row b = sym (S.table b) ∙ S.holds b ∙ ap (λ task. holding f s.own nowhere task b) S.task ∙ elim (going c) [
    | inl some ↦
        (commit_holds f s.own txn nowhere s.view Commit (commit_steps c) b commits S.own.has.outer.granted S.own.has.outer.has (has_change txn c some S.own.change)).0
        ∙ ap (λ row. max (locked row (commit_steps c) b) (start_held b)) (sym (going_row c numbered some S.own.numbered))
    | inr none ↦
        ap (λ n. holding f s.own nowhere (Some (task_of (OnGroup Commit) n)) b) none.0
        ∙ holds_at_first f s.own txn Commit b S.own.has.outer.has S.own.has.prepared_is
        ∙ (let e = ap (λ row. locked row (commit_steps c) b) (none.1 numbered) in omega (arith, e))
  ]

-- it has eight steps in all
few_in_all : (c : Committing) → commit_steps c ≤ 8
few_in_all (Preparing p) = let few = few_planning p.stage in omega (arith, few)
few_in_all (Finishing (Open state)) = omega arith
few_in_all (Finishing (Applied state)) = omega arith
few_in_all (Finishing (Settled state)) = omega arith
few_in_all (Finishing Shut) = omega arith

-- a Commit whose gate was shut knows that of any image of the file before
shut_next : (c : Committing) (h : History) (r b : List ℕ) → commit_steps c ≡ 8 → KnowsCommit c h r b → KnowsCommit c h b b
shut_next (Preparing p) h r b late K = absurd (let few = few_planning p.stage in omega (arith, late, few))
shut_next (Finishing (Open state)) h r b late K = absurd (omega (arith, late))
shut_next (Finishing (Applied state)) h r b late K = absurd (omega (arith, late))
shut_next (Finishing (Settled state)) h r b late K = absurd (omega (arith, late))
shut_next (Finishing Shut) h r b late K = K

-- the image of one whose next step shuts the gate is accepted
seventh_accepted : (c : Committing) (h : History) (r b : List ℕ) → commit_steps c ≡ 7 → KnowsCommit c h r b → Accept b
seventh_accepted (Preparing p) h r b seventh K = absurd (let few = few_planning p.stage in omega (arith, seventh, few))
seventh_accepted (Finishing s) h r b seventh K = settled_accepted s h r b (omega (arith, seventh)) K

-- up to its plan the file is as it was before
early : (f : Form) (c : Committing) (h : History) (r b : List ℕ) → form_of r ≡ f → MayGoOn c → commit_steps c ≤ 2 → KnowsCommit c h r b → RestsLike f h r
early f (Preparing p) h r b form some third K = early_like f p.stage h r b form some third K
early f (Finishing s) h r b form some third K = absurd (omega (arith, third))

module _ (f : Form) (o : Options) (table : ℕ → ℕ → ℕ) (owner : ℕ) (ps rs : List Piece) (c : Committing) (h new : History) (k : Known) (past : Past) (s : Side)
    (S : IsSide f o owner ps (At.Committing c) k past s) (K : KnowsFile f (At.Committing c) h k) (M : MayTurn f table s (task_of (OnGroup Commit) (commit_steps c))) where
  abbrev has_txn : Txn
  has_txn = S.own.txn

  abbrev steps : ℕ
  steps = commit_steps c

  abbrev Locks : CommitTurn → Type 0
  Locks turn = (numbered : Bool) → IsNumbered c numbered → HoldsRow (commit_row c numbered) start_held owner (commit_steps c) ps
      → RowTurned false (commit_row c numbered) start_held owner (commit_steps c) ps rs (commit_turn turn)

  abbrev Goal : CommitTurn → Type 0
  Goal turn = StageTurned f o table owner rs (At.Committing c) (commit_went turn).stage h new k past s (task_of (OnGroup Commit) (commit_steps c)) (law_turn (commit_went turn).turn)

  module _ (turn : CommitTurn) (locks : Locks turn) where
    row_turned : RowTurned false (commit_row c has_txn.numbered) start_held owner steps ps rs (commit_turn turn)
    row_turned = locks has_txn.numbered S.own.numbered (holds_row f o table owner ps c h k past s S)

    alone : (IsBlocked (commit_turn turn) → ⊥) × IsAlone owner rs
    alone = alone_goes false (commit_row c has_txn.numbered) start_held owner steps ps rs (commit_turn turn) (of_commit c has_txn.numbered) S.alone row_turned

    abbrev later : Side
    later = side_after s owner rs (committed (commit_turn turn) s.own) (task_left (OnGroup Commit) (commit_steps c) (commit_turn turn))

    own_turned : CommitLeads c turn → (commit_turn turn ≡ Ends Reply.Done → commits_in has_txn ≡ true → k.image ≡ k.file)
        → let after = known_by k (shuts 7 (commit_steps c) (commit_turn turn)) in
        OwnTurned f table (image_map f k.file) (image_map f after.file) (number_of f k.file) (number_of f after.file) past past s later (task_of (OnGroup Commit) (commit_steps c)) (commit_turn turn)
    own_turned leads done =
        let after = known_by k (shuts 7 steps (commit_turn turn)) in
        commit_is_own f table (image_map f k.file) (image_map f after.file) (number_of f k.file) (number_of f after.file) owner past past s later s.own has_txn c turn ps rs
        S.own.has.outer S.own.has.prepared_is alone.0 S.own.change S.own.numbered leads row_turned (λ b. refl)
        (file_by f k s.own has_txn (past.numbers s.here) S.own.has.outer.has S.own.has.map S.numbers 7 steps (commit_turn turn) done)
        (begins f o table owner ps (At.Committing c) k past s (task_of (OnGroup Commit) steps) S refl M)
        (leaves past s (task_of (OnGroup Commit) steps) (commit_turn turn) owner rs (committed (commit_turn turn) s.own))
        (λ step. refl)

    -- where the command ends the opener is back
    back : (r : Reply) → commit_turn turn ≡ Ends r → IsBackAs o true owner rs later
    back r ends = record {
      here = S.here;
      alone = alone.1;
      table = λ b. refl;
      nothing = λ b. row_turned.holds b ∙ ap (λ u. held_after false (commit_row c has_txn.numbered) start_held steps u b) ends;
      task = ap (task_left (OnGroup Commit) steps) ends;
      own = ap (λ u. ended (committed u s.own)) ends ∙ sym (ap (λ u. committed u s.own) ends);
      live = ap (λ u. (committed u s.own).live) ends ∙ S.live;
      options = ap (λ u. (committed u s.own).options) ends ∙ S.options;
    }

    over : (r : Reply) → commit_turn turn ≡ Ends r → CommitLeads c turn → (Ends r ≡ Ends Reply.Done → commits_in has_txn ≡ true → k.image ≡ k.file) → new ≡ h → RestsLike f new k.file
        → StageTurned f o table owner rs (At.Committing c) None h new k past s (task_of (OnGroup Commit) (commit_steps c)) (Ends r)
    over r ends leads done same rests = record {
      known = k;
      later = past;
      side = later;
      left = back r ends;
      file = (rests, λ reads. same);
      kept = keeps refl;
      still = group_still f Commit s.own;
      turned = subst
          (λ u. let after = known_by k (shuts 7 steps u) in
          OwnTurned f table (image_map f k.file) (image_map f after.file) (number_of f k.file) (number_of f after.file) past past s later (task_of (OnGroup Commit) (commit_steps c)) u)
          ends (own_turned leads (λ is. done (sym ends ∙ is)));
    }

  -- a step leads to the next stage
  stepped : (next : Committing) → Locks (Step next) → CommitLeads c (Step next) → CommitMade k.file k.image h new c (Step next) → Goal (Step next)
  stepped next locks leads made = by_last (commit_steps c == 7) refl
    where
      turned : (b : Bool) → (commit_steps c == 7) ≡ b → let after = known_by k b in
          OwnTurned f table (image_map f k.file) (image_map f after.file) (number_of f k.file) (number_of f after.file) past past s (later (Step next) locks) (task_of (OnGroup Commit) (commit_steps c)) Turn.Step
      turned b is = subst
          (λ last. let after = known_by k last in
          OwnTurned f table (image_map f k.file) (image_map f after.file) (number_of f k.file) (number_of f after.file) past past s (later (Step next) locks) (task_of (OnGroup Commit) (commit_steps c)) Turn.Step)
          is (own_turned (Step next) locks leads (λ ends. absurd (cc ends)))

      side : (b : Bool) → (commit_steps c == 7) ≡ b → (known_by k b).image ≡ k.image
          → IsSide f o owner rs (At.Committing next) (known_by k b) past (later (Step next) locks)
      side b is same = record {
        here = S.here;
        alone = (alone (Step next) locks).1;
        table = λ byte. refl;
        holds = (turned b is).holds;
        task = ap (λ n. Some (task_of (OnGroup Commit) n)) (sym leads.2);
        keeps = S.keeps;
        live = S.live;
        options = S.options;
        own = record {
          txn = has_txn;
          has = subst (λ image. HasOuter f image Commit None has_txn s.own) (sym same) S.own.has;
          change = change_goes has_txn next leads.1 (has_change has_txn c leads.0 S.own.change);
          numbered = leads.3 has_txn.numbered S.own.numbered;
        };
        numbers = numbers_by f k s.own has_txn (past.numbers s.here) S.own.has.outer.has S.own.has.map S.numbers b;
        mark = tt;
      }

      by_last : (b : Bool) → (commit_steps c == 7) ≡ b → Goal (Step next)
      by_last true is = record {
        known = record { file = k.image; image = k.image };
        later = past;
        side = later (Step next) locks;
        left = side true is refl;
        file = record { at = (shut_next next new k.file k.image (let seventh = same_number (commit_steps c) 7 is in omega (arith, seventh, leads.2)) made, λ late. refl); forms = (K.forms.1, K.forms.1); reads = λ only. absurd (only (ap Some (commit_writes next leads.1 (let more = leads.2 in omega (arith, more))))) };
        kept =
            let seventh = same_number (commit_steps c) 7 is in
            brings has_txn refl refl S.own.has.outer.has S.own.has.map
            (changed_is f s.own has_txn S.own.has.outer (steps + 1) ∙ rw (plans_commits has_txn S.own.has.prepared_is, has_change has_txn c leads.0 S.own.change, S.own.has.prepared_is, seventh) refl)
            (subst (λ g. AcceptWith g k.image []) K.forms.1 (seventh_accepted c h k.file k.image seventh K.at.0)) refl;
        still = tt;
        turned = turned true is;
      }
      by_last false is = record {
        known = k;
        later = past;
        side = later (Step next) locks;
        left = side false is refl;
        file = record { at = (made, λ late. absurd (let few = few_in_all next in other_number (commit_steps c) 7 is (omega (arith, few, late, leads.2)))); forms = K.forms; reads = λ only. absurd (only (ap Some (commit_writes next leads.1 (let more = leads.2 in omega (arith, more))))) };
        kept = keeps refl;
        still = tt;
        turned = turned false is;
      }

  -- what is done where the transaction ends
  finds_same : CanEnd c → (commit_steps c ≡ 2 → k.image ≡ k.file) → commits_in has_txn ≡ true → k.image ≡ k.file
  finds_same (unchanged none is) found change =
      let bare : plans_in has_txn ≡ false = subst (HasChange has_txn) is S.own.change in
      let same = plans_commits has_txn S.own.has.prepared_is in
      absurd (let e : true ≡ false = sym change ∙ same ∙ bare in cc)
  finds_same (planned third) found change = found third
  finds_same (shut is) found change = sym (K.at.1 (let all = ap commit_steps is in omega (arith, all)))

  rests : CanEnd c → CommitMade k.file k.image h new c Done → RestsLike f new k.file
  rests (unchanged none is) made =
      subst (λ d. RestsLike f d k.file) (sym made.0) (rests_like f h k.file K.forms.0 (subst (λ d. KnowsCommit d h k.file k.image) is K.at.0))
  rests (planned third) made = elim (going c) [
    | inl some ↦ subst (λ d. RestsLike f d k.file) (sym made.0) (early f c h k.file k.image K.forms.0 some (omega (arith, third)) K.at.0)
    | inr none ↦ absurd (let first = none.0 in omega (arith, third, first))
  ]
  rests (shut is) made =
      let last : commit_steps c ≡ 8 = ap commit_steps is in
      subst (RestsLike f new) (sym (K.at.1 (omega (arith, last)))) (shut_like f new k.image K.forms.1 (made.2 last))

  pub commit_turned : (turn : CommitTurn) → Locks turn → CommitLeads c turn → CommitMade k.file k.image h new c turn → Goal turn
  commit_turned (Step next) locks leads made = stepped next locks leads made
  commit_turned (Blocked other byte again) locks leads made = absurd ((alone (Blocked other byte again) locks).0 tt)
  commit_turned (Full len need) locks leads made =
      over (Full len need) locks (Reply.Full len need) refl leads (λ ends. absurd (cc ends)) made
      (subst (λ d. RestsLike f d k.file) (sym made) (early f c h k.file k.image K.forms.0 leads.0 (let third = leads.1 in omega (arith, third)) K.at.0))
  commit_turned Memory locks leads made =
      over Memory locks Reply.Memory refl leads (λ ends. absurd (cc ends)) made
      (subst (λ d. RestsLike f d k.file) (sym made) (early f c h k.file k.image K.forms.0 leads.0 (let third = leads.1 in omega (arith, third)) K.at.0))
  commit_turned Done locks leads made = over Done locks Reply.Done refl leads (λ ends. finds_same leads made.1) made.0 (rests leads made)
