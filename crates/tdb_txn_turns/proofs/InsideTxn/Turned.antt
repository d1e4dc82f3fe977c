-- A command on the map inside a transaction, in the words of the law.
use Rattle.std.proofs.Common.{[], ◌≡◌, ℕ, ◌+◌, max, List, Bool, true, false, None, Some, refl, sym, ◌∙◌, ap, subst, inl, arith}
use Rattle.std.specs.Prelude.{◌&&◌, ◌||◌, if◌then◌else◌}
use Rattle.tdb_space.specs.Form.{Form}
use Rattle.tdb_space.specs.Accepted.{AcceptWith}
use Rattle.tdb_space.proofs.Stays.Changes.{changes_none}
use Rattle.tdb_law.specs.Commands.{MapCommand, Reply, is_done}
use Rattle.tdb_law.specs.Commands.Command.{OnMap}
use Rattle.tdb_law.specs.Commands.Turn.{Ends}
use Rattle.tdb_law.specs.Openers.{Own, Txn, Map, Spot, View, seen}
use Rattle.tdb_law.specs.MapCommands.{reply, after, map_changes as may_change}
use Rattle.tdb_law.specs.Refusals.{refusal}
use Rattle.tdb_law.specs.Rows.{locks_by, look_by, is_changed, changed_by}
use Rattle.tdb_law.specs.Outcomes.{moves_by, counts_by, told_by, map_by, own_by, fills_by}
use Rattle.tdb_law.specs.Ends.{ends_by, starves_by}
use Rattle.tdb_law.specs.Held.{locked, locked_next, kept, held, holding, wanted}
use Rattle.tdb_law.specs.Counting.{raised, number_by, image_number_by, number_seen}
use Rattle.tdb_law.specs.Effects.{Effect, IsFree, IsFirstConflict, Finds}
use Rattle.tdb_law.specs.Effects.Effect.{effect_answers, effect_starves, effect_is_full}
use Rattle.tdb_law.specs.Images.{image_map}
use Rattle.tdb_steps.specs.Turns.{number_of}
use Rattle.tdb_txn.specs.Txn.{txn_depth, txn_doomed}
use Rattle.tdb_txn_turns.specs.declared.inside_txn.own_txn.OwnTxn.{OwnTxn}
use Rattle.tdb_txn_turns.specs.InsideTxn.OwnTxns.{law_txn, image_of, form_of, own_inside, SameTxn}
use Rattle.tdb_txn_turns.specs.InsideTxn.Done.{MapDone, ImageDone}
use Rattle.tdb_txn_turns.specs.InsideTxn.Done.MapDone.{answers, starves, is_full}
use Rattle.tdb_txn_turns.specs.InsideTxn.Turns.{TurnsInside}
use Rattle.tdb_txn_turns.proofs.InsideTxn.Inside.{same_either}

-- a transaction with this image, in which something was changed or nothing
abbrev with_image : Txn → Map → Bool → Txn
with_image t n changed = record t { image = n; changed = changed }

abbrev pub inside : Own → Txn → Own
inside x t = record x { txn = Some t }

raised_by : (done changes counting : Bool) (p : ℕ) → raised (done && (changes && counting)) p ≡ (if done then (if changes then raised counting p else p) else p)
raised_by true true counting p = refl
raised_by true false counting p = refl
raised_by false changes counting p = refl

unset : (b : Bool) → (b || false) ≡ b
unset true = refl
unset false = refl

and_false : (b : Bool) → (b && false) ≡ false
and_false true = refl
and_false false = refl

-- an opener with a transaction that isn't prepared, whose command on the map isn't refused
module _ (f : Form) (x : Own) (t : Txn) (c : MapCommand) (unprepared : t.prepared ≡ None) (R : refusal f (OnMap c) (inside x t) ≡ None) where
  abbrev before : Own
  before = inside x t

  -- it wants no lock
  wants_none : (a : Spot) (v : View) (b : ℕ) → wanted f (OnMap c) before a v 0 b ≡ 0
  unfolding wanted
  wants_none a v b = ap (λ q. max (locked_next (locks_by f q (OnMap c) before a.purging) 0 b) 0) R ∙ omega arith

  took_none : (a : Spot) (b : ℕ) → held f (OnMap c) before a 0 b ≡ 0
  unfolding held
  took_none a b = ap (λ q. locked (locks_by f q (OnMap c) before a.purging) 0 b) R

  kept_same : (n : Map) (changed : Bool) (a z : Spot) (b : ℕ) → kept f (inside x (with_image t n changed)) z b ≡ kept f before a b
  kept_same n changed a z b = refl

  holds_same : (n : Map) (changed : Bool) (a z : Spot) (b : ℕ) → holding f (inside x (with_image t n changed)) z None b ≡ holding f before a (Some (record { command = OnMap c; steps = 0 })) b
  holds_same n changed a z b = ap (λ q. max q (kept f before a b)) (sym (took_none a b))

  changed_none : is_changed f (OnMap c) before 0 ≡ false
  unfolding is_changed
  changed_none = ap (λ q. changed_by q (OnMap c) before 0) R

  -- the transaction as the law leaves it
  own_answers : (r : Reply) (n file : Map) (changed : Bool) → r ≡ reply c t.image → n ≡ after c t.image → changed ≡ (t.changed || (may_change c && is_done r))
      → inside x (with_image t n changed) ≡ own_by f (refusal f (OnMap c) before) (OnMap c) before 0 r file
  own_answers r n file changed says is flag =
      ap (λ m. inside x (with_image t m changed)) is
      ∙ ap (λ p. inside x (with_image t (after c t.image) p)) (flag ∙ ap (λ s. t.changed || (may_change c && is_done s)) says)
      ∙ sym (ap (λ q. own_by f q (OnMap c) before 0 r file) R)

  own_stays : (r : Reply) (n : Map) (changed : Bool) → n ≡ t.image → is_done r ≡ false → changed ≡ (t.changed || (may_change c && is_done r)) → inside x (with_image t n changed) ≡ before
  own_stays r n changed is undone flag =
      ap (λ m. inside x (with_image t m changed)) is
      ∙ ap (λ p. inside x (with_image t t.image p)) (flag ∙ ap (λ d. t.changed || (may_change c && d)) undone ∙ ap (λ d. t.changed || d) (and_false (may_change c)) ∙ unset t.changed)

  module _ (table : ℕ → ℕ → ℕ) (who : ℕ) (want : ℕ → ℕ) (file : Map) (free : IsFree table who want) (number : ℕ) where
    abbrev Effected : Reply → Own → Type 0
    Effected r y = Effect f (IsFree table who want) (IsFirstConflict table who want) (Finds f (table who) want (seen before file)) number (OnMap c) 0 before file (Ends r) y file

    effected : (r : Reply) (n : Map) (changed : Bool) → MapDone c t.image n r → changed ≡ (t.changed || (may_change c && is_done r)) → Effected r (inside x (with_image t n changed))
    effected r n changed (answers says is) flag =
        effect_answers r refl free (ap (λ q. moves_by q (OnMap c) before) R) (ap (λ q. counts_by q (OnMap c)) R)
        (λ k reading. let early = ap (λ q. look_by q (OnMap c) before) R in omega (arith, early)) changed_none
        (says ∙ sym (ap (λ q. told_by q (OnMap c) before file) R)) (sym (ap (λ q. map_by q (OnMap c) before file) R))
        (own_answers r n file changed says is flag)
    effected r n changed (starves is_memory is) flag =
        subst (λ s. Effected s (inside x (with_image t n changed))) (sym is_memory)
        (effect_starves refl (ap (λ q. starves_by q (OnMap c) before) R) changed_none refl (own_stays r n changed is (ap is_done is_memory) flag))
    effected r n changed (is_full len need full fills done is) flag =
        subst (λ s. Effected s (inside x (with_image t n changed))) (sym full)
        (effect_is_full len need refl free (ap (λ q. fills_by q (OnMap c) before) R ∙ fills)
        (λ k reading. let early = ap (λ q. look_by q (OnMap c) before) R in omega (arith, early)) changed_none
        (ap (λ q. told_by q (OnMap c) before file) R ∙ done) refl (own_stays r n changed is (ap is_done full) flag))

  pub map_inside : (n p q : ℕ) (m : Map) (changed : Bool) (r : Reply) → MapDone c t.image m r → changed ≡ (t.changed || (may_change c && is_done r))
      → q ≡ raised (is_done r && (may_change c && t.numbered)) p → TurnsInside f before (inside x (with_image t m changed)) (OnMap c) n p q r
  map_inside n p q m changed r M flag counted = record {
    row = inl (ap (λ z. ends_by z (OnMap c) before 0 r) R);
    effect = λ table who want file free reads. effected table who want file free (number_seen before n p) r m changed M flag;
    wants = wants_none;
    holds = holds_same m changed;
    number = ap (λ z. if is_done r then number_by z (OnMap c) before n p else n) R ∙ same_either (is_done r) n;
    image_number = counted ∙ raised_by (is_done r) (may_change c) t.numbered p ∙ sym (ap (λ z. if is_done r then image_number_by z (OnMap c) before n p else p) R);
  }

-- a transaction of which all but its image stays, and whether something was changed
own_is : (x : Own) (old new : OwnTxn) (base : List ℕ) → SameTxn old new → inside x (with_image (law_txn (image_map (form_of old) (image_of old base)) old.txn old.changed old.numbered) (image_map (form_of old) (image_of new base)) new.changed) ≡ own_inside x new base
own_is x old new base S =
    ap (λ g. inside x (record { image = image_map g (image_of new base); depth = txn_depth old.txn + 1; doomed = txn_doomed old.txn; prepared = None; changed = new.changed; numbered = old.numbered })) (sym S.form)
    ∙ ap (λ n. inside x (record { image = image_map (form_of new) (image_of new base); depth = n + 1; doomed = txn_doomed old.txn; prepared = None; changed = new.changed; numbered = old.numbered })) (sym S.depth)
    ∙ ap (λ b. inside x (record { image = image_map (form_of new) (image_of new base); depth = txn_depth new.txn + 1; doomed = b; prepared = None; changed = new.changed; numbered = old.numbered })) (sym S.doomed)
    ∙ ap (λ b. inside x (record { image = image_map (form_of new) (image_of new base); depth = txn_depth new.txn + 1; doomed = txn_doomed new.txn; prepared = None; changed = new.changed; numbered = b })) (sym S.numbered)

pub run_inside : (x : Own) (old new : OwnTxn) (base : List ℕ) (c : MapCommand) (n : ℕ) (r : Reply) → SameTxn old new → refusal (form_of old) (OnMap c) (own_inside x old base) ≡ None
    → ImageDone (form_of old) (image_of old base) (image_of new base) c old.numbered r → new.changed ≡ (old.changed || (may_change c && is_done r))
    → TurnsInside (form_of old) (own_inside x old base) (own_inside x new base) (OnMap c) n (number_of (form_of old) (image_of old base)) (number_of (form_of old) (image_of new base)) r
run_inside x old new base c n r S R D flag =
    let f = form_of old in
    let m = image_map f (image_of new base) in
    let p = number_of f (image_of old base) in
    let q = number_of f (image_of new base) in
    subst (λ y. TurnsInside f (own_inside x old base) y (OnMap c) n p q r) (own_is x old new base S)
    (map_inside f x (law_txn (image_map f (image_of old base)) old.txn old.changed old.numbered) c refl R n p q m new.changed r D.map flag D.number)

-- a command that only looks, and isn't done by that
pub look_done : (f : Form) (a : List ℕ) (c : MapCommand) (counting : Bool) (r : Reply) → may_change c ≡ false → AcceptWith f a [] → MapDone c (image_map f a) (image_map f a) r → ImageDone f a a c counting r
look_done f a c counting r looks A M = record {
  accepted = A;
  front = (changes_none f a (λ k. Unit {0})).front;
  map = M;
  number = sym (ap (λ b. raised (is_done r && (b && counting)) (number_of f a)) looks ∙ ap (λ b. raised b (number_of f a)) (and_false (is_done r)));
}

pub looks_inside : (x : Own) (old new : OwnTxn) (base : List ℕ) (c : MapCommand) (n : ℕ) (r : Reply) → SameTxn old new → image_of new base ≡ image_of old base → new.changed ≡ old.changed → may_change c ≡ false
    → refusal (form_of old) (OnMap c) (own_inside x old base) ≡ None → AcceptWith (form_of old) (image_of old base) []
    → MapDone c (image_map (form_of old) (image_of old base)) (image_map (form_of old) (image_of old base)) r
    → TurnsInside (form_of old) (own_inside x old base) (own_inside x new base) (OnMap c) n (number_of (form_of old) (image_of old base)) (number_of (form_of old) (image_of old base)) r
looks_inside x old new base c n r S same changed looks R A M =
    let f = form_of old in
    let a = image_of old base in
    subst (λ b. TurnsInside f (own_inside x old base) (own_inside x new base) (OnMap c) n (number_of f a) (number_of f b) r) same
    (run_inside x old new base c n r S R (subst (λ b. ImageDone f a b c old.numbered r) (sym same) (look_done f a c old.numbered r looks A M))
    (changed ∙ sym (ap (λ b. old.changed || (b && is_done r)) looks ∙ unset old.changed)))

-- where its map stays, its opener is as before
pub same_own : (x : Own) (old new : OwnTxn) (base : List ℕ) → SameTxn old new → image_map (form_of old) (image_of new base) ≡ image_map (form_of old) (image_of old base) → new.changed ≡ old.changed → own_inside x old base ≡ own_inside x new base
same_own x old new base S same changed =
    ap (λ m. inside x (with_image (law_txn (image_map (form_of old) (image_of old base)) old.txn old.changed old.numbered) m old.changed)) (sym same)
    ∙ ap (λ b. inside x (with_image (law_txn (image_map (form_of old) (image_of old base)) old.txn old.changed old.numbered) (image_map (form_of old) (image_of new base)) b)) (sym changed)
    ∙ own_is x old new base S
