-- The commands on transactions within a transaction, and those that do nothing, in the words of the law.
use Rattle.std.proofs.Common.{◌≡◌, ℕ, ◌+◌, ◌-◌, ◌<◌, List, Bool, true, false, nat_lt, nat_le, None, Some, refl, sym, ◌∙◌, ap, subst, arith}
use Rattle.std.specs.Prelude.{◌&&◌, if◌then◌else◌}
use Rattle.std.proofs.lemmas.Bool.{lt-ltb}
use Rattle.std.proofs.lemmas.Bool.Decides.{nat_tests}
use Rattle.tdb_space.specs.Form.{Form}
use Rattle.tdb_law.specs.Commands.{Command}
use Rattle.tdb_law.specs.Commands.GroupCommand.{Start, Commit, Prepare, Cancel}
use Rattle.tdb_law.specs.Commands.WalkCommand.{Close}
use Rattle.tdb_law.specs.Commands.Command.{OnMap, OnLocks, Seqnum, OnGroup, OnWalk}
use Rattle.tdb_law.specs.Commands.Reply.{Done, Doomed, Number}
use Rattle.tdb_law.specs.Openers.{Own, Txn, closed, ended}
use Rattle.tdb_law.specs.Refusals.{refusal, says, Refusal}
use Rattle.tdb_law.specs.Refusals.Refusal.{IsDoomed}
use Rattle.tdb_law.specs.Rows.{locks_by}
use Rattle.tdb_law.specs.Outcomes.{counts_by, own_refused}
use Rattle.tdb_law.specs.Ends.{ends_by}
use Rattle.tdb_law.specs.Counting.{number_seen}
use Rattle.tdb_law.specs.Effects.Effect.{effect_numbers}
use Rattle.tdb_law.specs.Images.{image_map}
use Rattle.tdb_txn.specs.Txn.{txn_depth, txn_doomed, txn_pages, SameView}
use Rattle.tdb_txn.specs.Pages.{contents}
use Rattle.tdb_txn_turns.specs.declared.inside_txn.own_txn.OwnTxn.{OwnTxn}
use Rattle.tdb_txn_turns.specs.InsideTxn.OwnTxns.{law_txn, image_of, form_of, own_inside}
use Rattle.tdb_txn_turns.specs.InsideTxn.Laws.{IsEnd, PreparesInside, RefusesInside}
use Rattle.tdb_txn_turns.specs.InsideTxn.Turns.{TurnsInside, EndsInside, ClosesInside}
use Rattle.tdb_txn_turns.proofs.InsideTxn.Inside.{answered, inside_of, left_so, nothing_held}
use Rattle.tdb_txn_turns.proofs.InsideTxn.Turned.{inside}

not_flat : (d : ℕ) → 1 < d → nat_le d 1 ≡ false
not_flat d deep = grind (arith, nat_tests)

flat_and : (b c : Bool) → b ≡ false → (b && c) ≡ false
flat_and b c e = rw e refl

module _ (f : Form) (x : Own) (t : Txn) (unprepared : t.prepared ≡ None) where
  abbrev before : Own
  before = inside x t

  pub start_inside : (n p : ℕ) → refusal f (OnGroup Start) before ≡ None → TurnsInside f before (inside x (record t { depth = t.depth + 1 })) (OnGroup Start) n p p Done
  start_inside n p R =
      answered f before (inside x (record t { depth = t.depth + 1 })) (OnGroup Start) None R Done
      (record {
        ends = refl;
        unlocked = λ purging. refl;
        unmoved = refl;
        uncounted = refl;
        looks = refl;
        unchanged = refl;
        told = λ m. refl;
        map = λ m. refl;
        own = λ m. refl;
        number = λ n p. refl;
        image_number = λ n p. refl;
        within = refl;
      }) n p (λ a z b. refl)

  cancel_granted : refusal f (OnGroup Cancel) before ≡ None
  unfolding refusal
  cancel_granted = refl

  module _ (deep : 1 < t.depth) where
    nested : nat_lt 1 t.depth ≡ true
    nested = lt-ltb 1 t.depth deep

    flat : nat_le t.depth 1 ≡ false
    flat = not_flat t.depth deep

    pub cancel_inside : (n p : ℕ) → TurnsInside f before (inside x (record t { depth = t.depth - 1; doomed = true })) (OnGroup Cancel) n p p Done
    cancel_inside n p =
        answered f before (inside x (record t { depth = t.depth - 1; doomed = true })) (OnGroup Cancel) None cancel_granted Done
        (record {
          ends = refl;
          unlocked = λ purging. refl;
          unmoved = refl;
          uncounted = refl;
          looks = refl;
          unchanged = refl;
          told = λ m. refl;
          map = λ m. refl;
          own = λ m. rw nested refl;
          number = λ n p. refl;
          image_number = λ n p. refl;
          within = refl;
        }) n p (λ a z b. refl)

    commit_refused : (b : Bool) → t.doomed ≡ b → refusal f (OnGroup Commit) before ≡ (if b then Some IsDoomed else None)
    unfolding refusal
    commit_refused true e = rw e refl
    commit_refused false e = rw (e, nested) refl

    abbrev lower : Own
    lower = inside x (record t { depth = t.depth - 1 })

    pub commit_inside : (n p : ℕ) → t.doomed ≡ false → TurnsInside f before lower (OnGroup Commit) n p p Done
    commit_inside n p whole =
        answered f before lower (OnGroup Commit) None (commit_refused false whole) Done
        (record {
          ends = rw flat refl;
          unlocked = λ purging. rw flat refl;
          unmoved = refl;
          uncounted = refl;
          looks = rw flat refl;
          unchanged = rw flat refl;
          told = λ m. refl;
          map = λ m. rw flat refl;
          own = λ m. rw nested refl;
          number = λ n p. rw flat refl;
          image_number = λ n p. refl;
          within = refl;
        }) n p (λ a z b. refl)

    pub doomed_inside : (n p : ℕ) → t.doomed ≡ true → TurnsInside f before lower (OnGroup Commit) n p p Doomed
    doomed_inside n p doomed =
        answered f before lower (OnGroup Commit) (Some IsDoomed) (commit_refused true doomed) Doomed
        (record {
          ends = refl;
          unlocked = λ purging. refl;
          unmoved = refl;
          uncounted = refl;
          looks = refl;
          unchanged = refl;
          told = λ m. refl;
          map = λ m. refl;
          own = λ m. rw nested refl;
          number = λ n p. refl;
          image_number = λ n p. refl;
          within = refl;
        }) n p (λ a z b. refl)

  -- the outer end without a commit
  module _ (outer : t.depth ≡ 1) where
    last : nat_lt 1 t.depth ≡ false
    last = ap (nat_lt 1) outer

    pub cancel_ends : (n p : ℕ) → EndsInside f before (OnGroup Cancel) n p Done
    cancel_ends n p =
        left_so f before (ended before) (OnGroup Cancel) None cancel_granted Done
        (record {
          ends = refl;
          unlocked = λ purging. refl;
          unmoved = refl;
          uncounted = refl;
          looks = refl;
          unchanged = refl;
          told = λ m. refl;
          map = λ m. refl;
          own = λ m. rw last refl;
          number = λ n p. refl;
          image_number = λ n p. refl;
          within = refl;
        }) n p (nothing_held f before)

    left_ended : (c : Command) → IsEnd c → own_refused c before ≡ ended before
    left_ended (OnMap c) end = absurd end
    left_ended (OnLocks c) end = absurd end
    left_ended Seqnum end = absurd end
    left_ended (OnGroup Start) end = absurd end
    left_ended (OnGroup Commit) end = rw last refl
    left_ended (OnGroup Prepare) end = rw last refl
    left_ended (OnGroup Cancel) end = absurd end
    left_ended (OnWalk w) end = absurd end

    pub refused_ends : (c : Command) (why : Refusal) (n p : ℕ) → IsEnd c → refusal f c before ≡ Some why → EndsInside f before c n p (says before why)
    refused_ends c why n p end R =
        left_so f before (ended before) c (Some why) R (says before why)
        (record {
          ends = refl;
          unlocked = λ purging. refl;
          unmoved = refl;
          uncounted = refl;
          looks = refl;
          unchanged = refl;
          told = λ m. refl;
          map = λ m. refl;
          own = λ m. left_ended c end;
          number = λ n p. refl;
          image_number = λ n p. refl;
          within = refl;
        }) n p (nothing_held f before)

  -- the end of the opener
  close_granted : refusal f (OnWalk Close) before ≡ None
  unfolding refusal
  close_granted = refl

  pub closes_inside : (n p : ℕ) → ClosesInside f before n p
  closes_inside n p =
      left_so f before (closed before) (OnWalk Close) None close_granted Done
      (record {
        ends = refl;
        unlocked = λ purging. refl;
        unmoved = refl;
        uncounted = refl;
        looks = refl;
        unchanged = refl;
        told = λ m. refl;
        map = λ m. refl;
        own = λ m. refl;
        number = λ n p. refl;
        image_number = λ n p. refl;
        within = refl;
      }) n p (nothing_held f before)

-- what does nothing
prepare_granted : (f : Form) (x : Own) (t : Txn) → x.txn ≡ Some t → t.prepared ≡ None → 1 < t.depth → refusal f (OnGroup Prepare) x ≡ None
unfolding refusal
prepare_granted f x t has unprepared deep = rw (has, unprepared, lt-ltb 1 t.depth deep) refl

pub prepares_inside : PreparesInside
prepares_inside f x t n p has unprepared deep =
    answered f x x (OnGroup Prepare) None (prepare_granted f x t has unprepared deep) Done
    (record {
      ends = rw (has, not_flat t.depth deep) refl;
      unlocked = λ purging. rw (has, not_flat t.depth deep) refl;
      unmoved = refl;
      uncounted = refl;
      looks = refl;
      unchanged = refl;
      told = λ m. refl;
      map = λ m. refl;
      own = λ m. rw (has, lt-ltb 1 t.depth deep) refl;
      number = λ n p. refl;
      image_number = λ n p. refl;
      within = rw has refl;
    }) n p (λ a z b. rw has refl)

refused_own : (c : Command) (x : Own) → (IsEnd c → ⊥) → own_refused c x ≡ x
refused_own (OnMap c) x other = refl
refused_own (OnLocks c) x other = refl
refused_own Seqnum x other = refl
refused_own (OnGroup Start) x other = refl
refused_own (OnGroup Commit) x other = absurd (other tt)
refused_own (OnGroup Prepare) x other = absurd (other tt)
refused_own (OnGroup Cancel) x other = refl
refused_own (OnWalk w) x other = refl

pub refuses_inside : RefusesInside
refuses_inside f x t c why n p has other R =
    answered f x x c (Some why) R (says x why)
    (record {
      ends = refl;
      unlocked = λ purging. refl;
      unmoved = refl;
      uncounted = refl;
      looks = refl;
      unchanged = refl;
      told = λ m. refl;
      map = λ m. refl;
      own = λ m. refused_own c x other;
      number = λ n p. refl;
      image_number = λ n p. refl;
      within = rw has refl;
    }) n p (λ a z b. rw has refl)

-- a transaction of which all but its depth stays, and whether it is doomed
abbrev of_txn : OwnTxn → List ℕ → Txn
of_txn t base = law_txn (image_map (form_of t) (image_of t base)) t.txn t.changed t.numbered

pub nested_is : (x : Own) (old new : OwnTxn) (base : List ℕ) (depth : ℕ) (doomed : Bool) → SameView old.txn new.txn → txn_depth new.txn + 1 ≡ depth → txn_doomed new.txn ≡ doomed → new.changed ≡ old.changed → new.numbered ≡ old.numbered
    → inside x (record (of_txn old base) { depth = depth; doomed = doomed }) ≡ own_inside x new base
nested_is x old new base depth doomed V deep told changed numbered =
    ap (λ g. inside x (record { image = image_map g (image_of old base); depth = depth; doomed = doomed; prepared = None; changed = old.changed; numbered = old.numbered })) (sym V.form)
    ∙ ap (λ ps. inside x (record { image = image_map (form_of new) (contents ps base old.txn.size); depth = depth; doomed = doomed; prepared = None; changed = old.changed; numbered = old.numbered })) (sym V.pages)
    ∙ ap (λ size. inside x (record { image = image_map (form_of new) (contents (txn_pages new.txn) base size); depth = depth; doomed = doomed; prepared = None; changed = old.changed; numbered = old.numbered })) (sym V.size)
    ∙ ap (λ d. inside x (record { image = image_map (form_of new) (image_of new base); depth = d; doomed = doomed; prepared = None; changed = old.changed; numbered = old.numbered })) (sym deep)
    ∙ ap (λ b. inside x (record { image = image_map (form_of new) (image_of new base); depth = txn_depth new.txn + 1; doomed = b; prepared = None; changed = old.changed; numbered = old.numbered })) (sym told)
    ∙ ap (λ b. inside x (record { image = image_map (form_of new) (image_of new base); depth = txn_depth new.txn + 1; doomed = txn_doomed new.txn; prepared = None; changed = b; numbered = old.numbered })) (sym changed)
    ∙ ap (λ b. inside x (record { image = image_map (form_of new) (image_of new base); depth = txn_depth new.txn + 1; doomed = txn_doomed new.txn; prepared = None; changed = new.changed; numbered = b })) (sym numbered)

-- the inner Start, Commit and Cancel of such a transaction
module _ (f : Form) (x : Own) (old new : OwnTxn) (base : List ℕ) (n p : ℕ) (V : SameView old.txn new.txn) (changed : new.changed ≡ old.changed) (numbered : new.numbered ≡ old.numbered) where
  abbrev mine : Own
  mine = own_inside x old base

  pub started : txn_depth new.txn ≡ txn_depth old.txn + 1 → txn_doomed new.txn ≡ txn_doomed old.txn → refusal f (OnGroup Start) mine ≡ None → TurnsInside f mine (own_inside x new base) (OnGroup Start) n p p Done
  started deep told R =
      subst (λ y. TurnsInside f mine y (OnGroup Start) n p p Done)
      (nested_is x old new base (txn_depth old.txn + 1 + 1) (txn_doomed old.txn) V (ap (λ d. d + 1) deep) told changed numbered)
      (start_inside f x (of_txn old base) refl n p R)

  module _ (some : 0 < txn_depth old.txn) (deep : txn_depth new.txn + 1 ≡ txn_depth old.txn) where
    two : 1 < txn_depth old.txn + 1
    two = omega (arith, some)

    one_less : txn_depth new.txn + 1 ≡ txn_depth old.txn + 1 - 1
    one_less = omega (arith, deep)

    pub committed : txn_doomed new.txn ≡ txn_doomed old.txn → txn_doomed old.txn ≡ false → TurnsInside f mine (own_inside x new base) (OnGroup Commit) n p p Done
    committed told whole =
        subst (λ y. TurnsInside f mine y (OnGroup Commit) n p p Done) (nested_is x old new base (txn_depth old.txn + 1 - 1) (txn_doomed old.txn) V one_less told changed numbered)
        (commit_inside f x (of_txn old base) refl two n p whole)

    pub refused : txn_doomed new.txn ≡ txn_doomed old.txn → txn_doomed old.txn ≡ true → TurnsInside f mine (own_inside x new base) (OnGroup Commit) n p p Doomed
    refused told doomed =
        subst (λ y. TurnsInside f mine y (OnGroup Commit) n p p Doomed) (nested_is x old new base (txn_depth old.txn + 1 - 1) (txn_doomed old.txn) V one_less told changed numbered)
        (doomed_inside f x (of_txn old base) refl two n p doomed)

    pub cancelled : txn_doomed new.txn ≡ true → TurnsInside f mine (own_inside x new base) (OnGroup Cancel) n p p Done
    cancelled told =
        subst (λ y. TurnsInside f mine y (OnGroup Cancel) n p p Done) (nested_is x old new base (txn_depth old.txn + 1 - 1) true V one_less told changed numbered)
        (cancel_inside f x (of_txn old base) refl two n p)

-- the sequence number that the opener sees
pub numbers_inside : (f : Form) (x : Own) (t : Txn) (n p q : ℕ) → refusal f Seqnum (inside x t) ≡ None → q ≡ number_seen (inside x t) n p → TurnsInside f (inside x t) (inside x t) Seqnum n p p (Number q)
numbers_inside f x t n p q R is =
    inside_of f (inside x t) (inside x t) Seqnum (λ purging. ap (λ o. locks_by f o Seqnum (inside x t) purging) R) refl n p p (Number q) (ap (λ o. ends_by o Seqnum (inside x t) 0 (Number q)) R)
    (λ table who want file free reads. effect_numbers q refl free (ap (λ o. counts_by o Seqnum) R) is refl refl)
    (λ a z b. refl) refl refl
