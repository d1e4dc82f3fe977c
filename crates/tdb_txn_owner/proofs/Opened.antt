-- An opener inside its transaction, before and after a turn.
use Rattle.std.proofs.Common.{◌≡◌, ℕ, ◌+◌, List, Bool, true, false, Option, None, Some, nat_lt, refl, sym, ◌∙◌, ap, subst, arith, []}
use Rattle.std.specs.Prelude.{if◌then◌else◌, ◌&&◌, ◌||◌, not, is_some, ◌<◌, Result, Ok, Err, IfOk}
use Rattle.std.proofs.lemmas.Bool.Decides.{nat_tests}
use Rattle.tdb_space.specs.Accepted.{AcceptWith}
use Rattle.tdb_space.specs.Form.{Form}
use Rattle.tdb_space.proofs.Stays.Changes.{changes_none}
use Rattle.tdb_locks.specs.HeldLocks.{HeldLocks, total_of, AreCounts}
use Rattle.tdb_locks.specs.declared.turn.Reply.{Reply}
use Rattle.tdb_law.specs.Commands as Law
use Rattle.tdb_law.specs.Commands.{Command, GroupCommand, LockCommand, MapCommand, is_done}
use Rattle.tdb_law.specs.Commands.LockCommand.{ChainLock, ChainLockNb, ChainUnlock, LockAll, LockAllRead, UnlockAll}
use Rattle.tdb_law.specs.Commands.GroupCommand.{Prepare}
use Rattle.tdb_law.specs.Commands.Command.{OnMap, OnLocks, Seqnum, OnGroup, OnWalk}
use Rattle.tdb_walk.specs.declared.walk.Walk.{Walk}
use Rattle.tdb_law.specs.MapCommands.{map_changes}
use Rattle.tdb_law.specs.Openers.{Own, Txn, Counts, AllLock}
use Rattle.tdb_law.specs.Images.{image_map}
use Rattle.tdb_law.specs.Outcomes.{moves, moves_by, own_locked}
use Rattle.tdb_law.specs.Refusals.{Refusal, refusal, says}
use Rattle.tdb_steps.specs.PlainCommands.{reply_of}
use Rattle.tdb_steps.specs.Turns.{number_of}
use Rattle.tdb_txn.specs.Pages.{contents}
use Rattle.tdb_txn.specs.Txn.{txn_depth, txn_doomed, txn_pages, SameView}
use Rattle.tdb_txn_turns.specs.Laws.{Ends, commits, prepares}
use Rattle.tdb_txn_turns.specs.declared.inside_txn.own_txn.OwnTxn.{OwnTxn}
use Rattle.tdb_txn_turns.specs.InsideTxn.Counted.{IsCounted, IsInside, CountsInside, own_counted}
use Rattle.tdb_txn_turns.specs.InsideTxn.OwnTxns.{law_txn, image_of, form_of, own_inside}
use Rattle.tdb_txn_turns.specs.InsideTxn.Laws.{IsEnd}
use Rattle.tdb_txn_turns.specs.InsideTxn.Done.MapDone.{starves}
use Rattle.tdb_txn_turns.specs.InsideTxn.Turns.{TurnsInside}
use Rattle.tdb_txn_turns.specs.InsideTxn.Walks.{mark_in, with_cursor, RestsIn, RestsInside, WalkedInside, WalksInside}
use Rattle.tdb_txn_turns.specs.InsideTxn.Walks.WalkedInside.{shifts}
use Rattle.tdb_txn_turns.proofs.InsideTxn.Turned.{run_inside}
use Rattle.tdb_txn_turns.proofs.InsideTxn.Nested.{prepares_inside, refuses_inside}
use Rattle.tdb_commands.specs.InLaw.{law_command, law_reply}
use Rattle.tdb_commands.specs.declared.command.Command.{Command as Given}
use Rattle.tdb_commands.specs.declared.command.Command.TheVariants as Names
use Rattle.tdb_steps.specs.declared.flag.Flag.TheVariants as Flags
use Rattle.std.specs.Option.{option_map}
use Rattle.tdb_commands.specs.declared.options.Options.{Options}
use Rattle.tdb_txn_owner.specs.declared.open_txn.OpenTxn.{OpenTxn}
use Rattle.tdb_txn_owner.specs.Given.{IsInside as StaysInside}
use Rattle.tdb_txn_owner.specs.Open.{HasOpen, GoesOn}
use Rattle.tdb_txn_owner.specs.Stages.{MayBeGiven}
use Rattle.tdb_txn_owner.specs.Refusing.{commit_told, counted_with, StandsAt}
use Rattle.tdb_txn_owner.specs.declared.refusing.Level.{Level}
use Rattle.tdb_txn_owner.proofs.Asked.{told_law}
use Rattle.tdb_txn_owner.proofs.Replies.{idle_inside, same_reply}
use Rattle.tdb_txn_owner.proofs.Turning.{still_shift}

-- the transaction in the law's words
abbrev pub txn_of : OwnTxn → List ℕ → Txn
txn_of own base = law_txn (image_map (form_of own) (image_of own base)) own.txn own.changed own.numbered

-- the opener with its transaction and its cursor is the one that has them
abbrev pub own_of : Own → OpenTxn → List ℕ → Own
own_of x t base = own_inside (with_cursor x t.walk) t.own base

pub same_own : (o : Options) (t : OpenTxn) (base : List ℕ) (x : Own) → HasOpen o t base x → own_of x t base ≡ x
same_own o t base x H = ap (λ (txn : Option Txn). record x { txn = txn; cursor = t.walk.shown }) (sym H.txn) ∙ ap (λ (k : Option (List ℕ)). record x { cursor = k }) (sym H.cursor)

pub is_inside : (o : Options) (t : OpenTxn) (base : List ℕ) (x : Own) → HasOpen o t base x → IsInside x (txn_of t.own base)
is_inside o t base x H = record { has = H.txn; unprepared = refl }

-- an opener with another transaction and another cursor, and the same counts
pub has_next : (o : Options) (old new : OpenTxn) (base : List ℕ) (x : Own) → HasOpen o old base x → new.held ≡ old.held → HasOpen o new base (own_of x new base)
has_next o old new base x H same = record {
  options = H.options;
  txn = refl;
  counted = subst (λ held. IsCounted held (own_of x new base)) (sym same) (record { chains = H.counted.chains; some = H.counted.some; only = H.counted.only; all = H.counted.all });
  cursor = refl;
}

-- a command that isn't on the cursor
abbrev pub IsBeside : Command → Type 0
IsBeside (OnWalk w) = ⊥
IsBeside c = Unit {0}

-- It is no move.
pub unmoved : (f : Form) (c : Command) (x : Own) → IsBeside c → moves f c x ≡ false
unmoved f c x aside = go (refusal f c x) c aside
  where
    go : (q : Option Refusal) (k : Command) → IsBeside k → moves_by q k x ≡ false
    go (Some why) k aside = refl
    go None (OnMap m) aside = refl
    go None (OnLocks l) aside = refl
    go None Seqnum aside = refl
    go None (OnGroup g) aside = refl
    go None (OnWalk w) aside = absurd aside

-- where the cursor and the image stay, so does the walk
module _ (base : List ℕ) (old new : OpenTxn) (image : image_of new.own base ≡ image_of old.own base) (walk : new.walk ≡ old.walk) where
  same_mark : (f : Form) → mark_in f (image_of new.own base) new.walk ≡ mark_in f (image_of old.own base) old.walk
  same_mark f = ap (λ img. mark_in f img new.walk) image ∙ ap (mark_in f (image_of old.own base)) walk

  pub walk_stays : (f : Form) (x y : Own) (c : Command) (r : Law.Reply) → moves f c x ≡ false
      → WalkedInside f (image_map f (image_of old.own base)) (mark_in f (image_of old.own base) old.walk) (mark_in f (image_of new.own base) new.walk) x y c r
  walk_stays f x y c r still = shifts still (λ shown. still_shift f _ _ _ (same_mark f))

  pub rests_still : form_of new.own ≡ form_of old.own → RestsInside old.own base old.walk → RestsInside new.own base new.walk
  rests_still form R =
      let A = subst (λ g. AcceptWith g (image_of old.own base) []) (sym form) R.accepted in
      let cursor = subst (λ g. RestsIn g (image_of old.own base) old.walk) (sym form) R.cursor in
      record {
        accepted = subst (λ img. AcceptWith (form_of new.own) img []) (sym image) A;
        cursor = subst (λ w. RestsIn (form_of new.own) (image_of new.own base) w) (sym walk) (subst (λ img. RestsIn (form_of new.own) img old.walk) (sym image) cursor);
      }

-- commands on explicit locks change the counts alone
counted_keeps : {T : Type 0} (see : Own → T) (f : Form) (k : LockCommand) (x : Own) (r : Law.Reply) → ((counts : Counts) (all : Option AllLock) → see (record x { counts = counts; all = all }) ≡ see x) → see (own_counted f k x r) ≡ see x
counted_keeps see f k x r keeps = by_done (is_done r)
  where
    locked : (k : LockCommand) → see (own_locked f k x) ≡ see x
    locked (ChainLock key) = keeps _ x.all
    locked (ChainLockNb key) = keeps _ x.all
    locked (ChainUnlock key) = keeps _ x.all
    locked LockAll = keeps x.counts _
    locked LockAllRead = keeps x.counts _
    locked UnlockAll = keeps x.counts _

    by_done : (done : Bool) → see (if done then own_locked f k x else x) ≡ see x
    by_done true = locked k
    by_done false = refl

pub counts_on : (o : Options) (own : OwnTxn) (old new : OpenTxn) (base : List ℕ) (x : Own) (k : LockCommand) (r : Law.Reply) → old.own ≡ own → new.own ≡ own → new.walk ≡ old.walk → HasOpen o old base x
    → CountsInside (form_of own) x k new.held r → GoesOn o old new base x (OnLocks k) r
counts_on o own old new base x k r was is walk H C =
    let f = form_of own in
    let y = own_counted f k x r in
    record {
      own = y;
      has = record {
        options = counted_keeps (λ z. z.options) f k x r (λ counts all. refl) ∙ H.options;
        txn = counted_keeps (λ z. z.txn) f k x r (λ counts all. refl) ∙ H.txn ∙ ap (λ t. Some (txn_of t base)) (was ∙ sym is);
        counted = C.counts;
        cursor = counted_keeps (λ z. z.cursor) f k x r (λ counts all. refl) ∙ H.cursor ∙ ap (λ (w : Walk). w.shown) (sym walk);
      };
      live = counted_keeps (λ z. z.live) f k x r (λ counts all. refl);
      turned =
          subst (λ t. TurnsInside (form_of t) x y (OnLocks k) (number_of (form_of t) base) (number_of (form_of t) (image_of t base)) (number_of (form_of t) (image_of new.own base)) r) (sym was)
          (subst (λ t. TurnsInside f x y (OnLocks k) (number_of f base) (number_of f (image_of own base)) (number_of f (image_of t base)) r) (sym is) (C.turned (number_of f base) (number_of f (image_of own base))));
      walked = walk_stays base old new (ap (λ t. image_of t base) (is ∙ sym was)) walk (form_of old.own) x y (OnLocks k) r (unmoved (form_of old.own) (OnLocks k) x tt);
      rests = rests_still base old new (ap (λ t. image_of t base) (is ∙ sym was)) walk (ap form_of (is ∙ sym was));
    }

-- by the reply of the code
pub counts_by : (o : Options) (own : OwnTxn) (old new : OpenTxn) (base : List ℕ) (x : Own) (k : LockCommand) (r : Reply) → old.own ≡ own → new.own ≡ own → new.walk ≡ old.walk → HasOpen o old base x
    → CountsInside (form_of own) x k new.held (reply_of r) → GoesOn o old new base x (OnLocks k) (law_reply r)
counts_by o own old new base x k r was is walk H C =
    let f = form_of own in
    counts_on o own old new base x k (law_reply r) was is walk H
    (subst (CountsInside f x k new.held) (same_reply r (idle_inside f x (own_counted f k x (reply_of r)) (OnLocks k) 0 0 0 (reply_of r) (C.turned 0 0))) C)

-- a turn of a command is one of the command that it is
pub goes_as : (o : Options) (old new : OpenTxn) (base : List ℕ) (x : Own) (cmd k : Given) (r : Law.Reply) → cmd ≡ k → GoesOn o old new base x (law_command k) r → GoesOn o old new base x (law_command cmd) r
goes_as o old new base x cmd k r is G = subst (λ j. GoesOn o old new base x (law_command j) r) (sym is) G

-- the law counts the outer transaction in the depth
pub one_more_deep : (d : ℕ) → nat_lt 1 (d + 1) ≡ nat_lt 0 d
one_more_deep d = grind (arith, nat_tests)

-- the opener at this level
pub stands_at : (o : Options) (t : OpenTxn) (base : List ℕ) (x : Own) (level : Level) → level.prepared ≡ false → level.nested ≡ nat_lt 0 (txn_depth t.own.txn) → level.doomed ≡ txn_doomed t.own.txn → level.walks ≡ is_some t.walk.shown
    → HasOpen o t base x → StandsAt o level t.held x
stands_at o t base x level prepared nested doomed walks H = record {
  options = H.options;
  txn = txn_of t.own base;
  has = H.txn;
  prepared = sym prepared;
  nested = one_more_deep (txn_depth t.own.txn) ∙ sym nested;
  doomed = sym doomed;
  counted = H.counted;
  walks = ap is_some H.cursor ∙ sym walks;
}

-- of an outer Commit and Prepare
module _ (f : Form) (o : Options) (level : Level) (held : HeldLocks) (x : Own) (A : AreCounts held.chains) (S : StandsAt o level held x) (prepared : level.prepared ≡ false) (nested : level.nested ≡ false) where
  passed : (r p : Bool) (q : Option Reply) → p ≡ false → (if r && false then Some Reply.ReadOnly else if p && not true then Some Reply.InTransaction else q) ≡ q
  passed true p q e = rw e refl
  passed false p q e = rw e refl

  asked : (r p : Bool) (q : Option Reply) → p ≡ false → level.nested ≡ false → (if r && false then Some Reply.ReadOnly else if p && not false then Some Reply.InTransaction else if level.nested then None else q) ≡ q
  asked true p q e flat = rw (e, flat) refl
  asked false p q e flat = rw (e, flat) refl

  pub end_told : (g : GroupCommand) → Ends g → option_map law_reply (commit_told level held) ≡ option_map (says x) (refusal f (OnGroup g) x)
  end_told g commits = ap (option_map law_reply) (sym (passed o.read_only level.prepared (commit_told level held) prepared)) ∙ told_law f o level held x A S Names.Commit
  end_told g prepares = ap (option_map law_reply) (sym (asked o.read_only level.prepared (commit_told level held) prepared nested)) ∙ told_law f o level held x A S Names.Prepare

-- a doomed transaction is refused
pub end_whole : (level : Level) (held : HeldLocks) → commit_told level held ≡ None → level.doomed ≡ false
end_whole level held = go level.doomed
  where
    go : (b : Bool) → (if b then Some Reply.Doomed else if not level.nested && nat_lt 0 (total_of held) then Some (Reply.HeldLocks (counted_with held level.walks)) else None) ≡ None → b ≡ false
    go true none = absurd (cc none)
    go false none = refl

-- the turn of a command that leaves the counts
module _ (o : Options) (old new : OpenTxn) (base : List ℕ) (x : Own) (c : Command) (r : Reply) (H : HasOpen o old base x) (same : new.held ≡ old.held) where
  abbrev Turns : ℕ → Law.Reply → Type 0
  Turns q r = let f = form_of old.own in TurnsInside f (own_of x old base) (own_of x new base) c (number_of f base) (number_of f (image_of old.own base)) q r

  pub goes_by : Turns (number_of (form_of old.own) (image_of new.own base)) (reply_of r) → WalksInside x old.own new.own base old.walk new.walk c (reply_of r) → GoesOn o old new base x c (law_reply r)
  goes_by T W =
      let f = form_of old.own in
      let q = number_of f (image_of new.own base) in
      let y = own_of x new base in
      let idle = idle_inside f (own_of x old base) y c (number_of f base) (number_of f (image_of old.own base)) q (reply_of r) T in
      record {
        own = y;
        has = has_next o old new base x H same;
        live = refl;
        turned = subst (λ z. TurnsInside f z y c (number_of f base) (number_of f (image_of old.own base)) q (law_reply r)) (same_own o old base x H) (subst (Turns q) (same_reply r idle) T);
        walked =
            let m = image_map f (image_of old.own base) in
            let mark = mark_in f (image_of old.own base) old.walk in
            let later = mark_in f (image_of new.own base) new.walk in
            subst (λ z. WalkedInside f m mark later z y c (law_reply r)) (same_own o old base x H) (subst (WalkedInside f m mark later (own_of x old base) y c) (same_reply r idle) W.walked);
        rests = λ R. W.rests;
      }

  -- of one beside the cursor that leaves the image too
  pub goes_still : IsBeside c → image_of new.own base ≡ image_of old.own base → form_of new.own ≡ form_of old.own → new.walk ≡ old.walk → Turns (number_of (form_of old.own) (image_of old.own base)) (reply_of r)
      → GoesOn o old new base x c (law_reply r)
  goes_still aside image form walk T =
      let f = form_of old.own in
      let y = own_of x new base in
      let q = number_of f (image_of old.own base) in
      let idle = idle_inside f (own_of x old base) y c (number_of f base) q q (reply_of r) T in
      let turned = subst (Turns q) (same_reply r idle) T in
      record {
        own = y;
        has = has_next o old new base x H same;
        live = refl;
        turned = subst (λ z. TurnsInside f z y c (number_of f base) q (number_of f (image_of new.own base)) (law_reply r)) (same_own o old base x H) (subst (λ img. Turns (number_of f img) (law_reply r)) (sym image) turned);
        walked = walk_stays base old new image walk f x y c (law_reply r) (unmoved f c x aside);
        rests = rests_still base old new image walk form;
      }

-- the refusals of the opener are those of one that has the transaction
pub granted_as : (o : Options) (t : OpenTxn) (base : List ℕ) (x : Own) (c : Command) → HasOpen o t base x → refusal (form_of t.own) c x ≡ None → refusal (form_of t.own) c (own_of x t base) ≡ None
granted_as o t base x c H R = subst (λ y. refusal (form_of t.own) c y ≡ None) (sym (same_own o t base x H)) R

-- where memory is wanting for a command on the map before it is begun
unset : (b c : Bool) → b ≡ (b || (c && false))
unset true c = refl
unset false true = refl
unset false false = refl

pub starved : (o : Options) (t : OpenTxn) (base : List ℕ) (x : Own) (c : MapCommand) → HasOpen o t base x → AcceptWith (form_of t.own) (image_of t.own base) [] → refusal (form_of t.own) (OnMap c) x ≡ None
    → GoesOn o t t base x (OnMap c) Law.Reply.Memory
starved o t base x c H A R =
    let f = form_of t.own in
    let a = image_of t.own base in
    goes_still o t t base x (OnMap c) Reply.Memory H refl tt refl refl refl
    (run_inside (with_cursor x t.walk) t.own t.own base c (number_of f base) Law.Reply.Memory (record { form = refl; start = refl; depth = refl; doomed = refl; numbered = refl }) (granted_as o t base x (OnMap c) H R)
    (record { accepted = A; front = (changes_none f a (λ k. Unit {0})).front; map = starves refl refl; number = refl }) (unset t.own.changed (map_changes c)))

-- what an Ok says, by what it says more
pub weaker : {V F : Type 0} (r : Result V F) (P Q : V → Type 0) → ((v : V) → P v → Q v) → IfOk r P → IfOk r Q
weaker (Ok v) P Q more p = more v p
weaker (Err e) P Q more p = tt

pub weaker_with : {V F : Type 0} (r : Result V F) (P Q S : V → Type 0) → ((v : V) → P v → Q v → S v) → IfOk r P → IfOk r Q → IfOk r S
weaker_with (Ok v) P Q S more p q = more v p q
weaker_with (Err e) P Q S more p q = tt

-- the view of a transaction
pub same_image : (old new : OwnTxn) (base : List ℕ) → SameView old.txn new.txn → image_of new base ≡ image_of old base
same_image old new base V = ap (λ ps. contents ps base new.txn.size) V.pages ∙ ap (contents (txn_pages old.txn) base) V.size

-- an inner Prepare, and what is refused
module _ (o : Options) (t : OpenTxn) (base : List ℕ) (x : Own) (H : HasOpen o t base x) where
  pub prepare_still : 0 < txn_depth t.own.txn → GoesOn o t t base x (OnGroup Prepare) Law.Reply.Done
  prepare_still deep =
      let f = form_of t.own in
      record {
        own = x;
        has = H;
        live = refl;
        turned = prepares_inside f x (txn_of t.own base) (number_of f base) (number_of f (image_of t.own base)) H.txn refl (omega (arith, deep));
        walked = walk_stays base t t refl refl f x x (OnGroup Prepare) Law.Reply.Done (unmoved f (OnGroup Prepare) x tt);
        rests = λ R. R;
      }

  pub refused_still : (c : Command) (why : Refusal) → (IsEnd c → ⊥) → refusal (form_of t.own) c x ≡ Some why → GoesOn o t t base x c (says x why)
  refused_still c why stays R =
      let f = form_of t.own in
      record {
        own = x;
        has = H;
        live = refl;
        turned = refuses_inside f x (txn_of t.own base) c why (number_of f base) (number_of f (image_of t.own base)) H.txn stays R;
        walked = walk_stays base t t refl refl f x x c (says x why) (ap (λ q. moves_by q c x) R);
        rests = λ Rest. Rest;
      }

pub refused_as : (f : Form) (x : Own) (cmd k : Given) (q : Option Refusal) → cmd ≡ k → refusal f (law_command cmd) x ≡ q → refusal f (law_command k) x ≡ q
refused_as f x cmd k q is R = subst (λ j. refusal f (law_command j) x ≡ q) is R

pub goes_is : (o : Options) (old new : OpenTxn) (base : List ℕ) (x : Own) (k c : Command) (r : Law.Reply) → k ≡ c → GoesOn o old new base x k r → GoesOn o old new base x c r
goes_is o old new base x k c r is G = subst (λ j. GoesOn o old new base x j r) is G

-- a command that isn't refused tells no refusal, and one that is refused tells it
pub told_why : (f : Form) (x : Own) (c : Command) (reply : Reply) (q : Option Refusal) → refusal f c x ≡ q → Some (law_reply reply) ≡ option_map (says x) q → (why : Refusal) × (refusal f c x ≡ Some why) × (law_reply reply ≡ says x why)
told_why f x c reply None R told = absurd (cc told)
told_why f x c reply (Some why) R told = (why, R, (let same : law_reply reply ≡ says x why = cc in same))

pub told_none : (f : Form) (x : Own) (c : Command) (q : Option Refusal) → refusal f c x ≡ q → None ≡ option_map (says x) q → refusal f c x ≡ None
told_none f x c None R told = R
told_none f x c (Some why) R told = absurd (cc told)

-- a command that is neither a Commit nor a Prepare ends no transaction where it is refused
pub stays_open : (c : Given) → (c ≡ Names.Commit → ⊥) → (c ≡ Names.Prepare → ⊥) → IsEnd (law_command c) → ⊥
stays_open Names.Commit commit prepare end = commit refl
stays_open Names.Prepare commit prepare end = prepare refl
stays_open (Names.Store key value Flags.Replace) commit prepare end = end
stays_open (Names.Store key value Flags.Insert) commit prepare end = end
stays_open (Names.Store key value Flags.Modify) commit prepare end = end
stays_open c commit prepare end = end

-- what may be given, and doesn't end the transaction, leaves it open
pub stays_outer : (c : Given) (d : ℕ) → (c ≡ Names.Close → ⊥) → (c ≡ Names.Cancel → ⊥) → (c ≡ Names.Commit → ⊥) → (c ≡ Names.Prepare → ⊥) → MayBeGiven c d → StaysInside c d
stays_outer Names.Start d close cancel commit prepare may = may
stays_outer Names.Close d close cancel commit prepare may = close refl
stays_outer Names.Cancel d close cancel commit prepare may = absurd (cancel refl)
stays_outer Names.Commit d close cancel commit prepare may = absurd (commit refl)
stays_outer Names.Prepare d close cancel commit prepare may = absurd (prepare refl)
stays_outer c d close cancel commit prepare may = tt

pub stays_inner : (c : Given) (d : ℕ) → (c ≡ Names.Close → ⊥) → 0 < d → MayBeGiven c d → StaysInside c d
stays_inner Names.Start d close deep may = may
stays_inner Names.Close d close deep may = close refl
stays_inner Names.Cancel d close deep may = deep
stays_inner Names.Commit d close deep may = deep
stays_inner Names.Prepare d close deep may = deep
stays_inner c d close deep may = tt
