-- What a plain command does to the walk of its opener's cursor, in the words of the law.
use Rattle.std.proofs.Common.{◌≡◌, ℕ, List, [], Bool, true, false, Option, Some, None, is_some, refl, sym, ◌∙◌, ap, subst, inl, inr, ◌⊎◌}
use Rattle.std.specs.Prelude.{Contains, if◌then◌else◌}
use Rattle.std.proofs.lemmas.Bool.{false≢true}
use Rattle.tdb_space.specs.Form.{Form}
use Rattle.tdb_space.specs.Accepted.{AcceptWith}
use Rattle.tdb_law.specs.Commands.{Reply, MapCommand as Maps}
use Rattle.tdb_law.specs.Commands.Command.{OnMap}
use Rattle.tdb_law.specs.Commands.Turn.{Ends}
use Rattle.tdb_law.specs.Openers.{Own, Mark}
use Rattle.tdb_law.specs.Refusals.{Refusal, refusal, is_prepared}
use Rattle.tdb_law.specs.Refusals.Refusal.{OnlyReads, IsPrepared, LocksStand}
use Rattle.tdb_law.specs.Outcomes.{moves_by}
use Rattle.tdb_law.specs.Walks.{Lost, Shift}
use Rattle.tdb_law.specs.Walks.Lost.{lost_by_done}
use Rattle.tdb_law.specs.Layout.{chains_in, mark_of}
use Rattle.tdb_steps.specs.declared.plain.Plain.{Plain}
use Rattle.tdb_steps.specs.declared.plain.Plain.TheVariants.{Fetch, Has, Store, Append, Delete, Wipe}
use Rattle.tdb_steps.specs.PlainCommands.{IsKeyed, command_of}
use Rattle.tdb_walk.specs.declared.standing.Standing.{Standing}
use Rattle.tdb_walk.specs.declared.standing.Standing.TheVariants.{Before, On, Past}
use Rattle.tdb_walk.specs.declared.stage.Stage.{Stage}
use Rattle.tdb_walk.specs.NextLive.{StandsIn, place_of}
use Rattle.tdb_walk.specs.Cursors.{Knows}
use Rattle.tdb_walk.specs.Again.{RestsAt}
use Rattle.tdb_walk.specs.declared.walk.Walk.{Walk}
use Rattle.tdb_txn_turns.specs.declared.inside_txn.own_txn.OwnTxn.{OwnTxn}
use Rattle.tdb_txn_turns.specs.InsideTxn.OwnTxns.{SameTxn, form_of, image_of, own_inside}
use Rattle.tdb_txn_turns.specs.InsideTxn.Spared.{WalkKept}
use Rattle.tdb_txn_turns.specs.InsideTxn.Walks.{IsEntered, RestsIn, RestsInside, WalksInside, mark_in, with_cursor}
use Rattle.tdb_txn_turns.specs.InsideTxn.Walks.WalkedInside.{shifts}

-- a wipe is refused to an opener with a cursor
wipe_refused : (f : Form) (x : Own) → is_some x.cursor ≡ true → refusal f (OnMap Maps.Wipe) x ≡ None → ⊥
unfolding refusal
wipe_refused f x some R = let told = rw some at R in go x.options.read_only (is_prepared x.txn) told
  where
    go : (p q : Bool) → ◌≡◌ {A = Option Refusal} (if p then Some OnlyReads else (if q then Some IsPrepared else Some LocksStand)) None → ⊥
    go true q e = cc e
    go false true e = cc e
    go false false e = cc e

keyed_or_wipe : (command : Plain) → IsKeyed command ⊎ (command ≡ Wipe)
keyed_or_wipe (Fetch key) = inl tt
keyed_or_wipe (Has key) = inl tt
keyed_or_wipe (Store key value flag) = inl tt
keyed_or_wipe (Append key value) = inl tt
keyed_or_wipe (Delete key) = inl tt
keyed_or_wipe Wipe = inr refl

module _ (x : Own) (old new : OwnTxn) (base : List ℕ) (walk : Walk) (command : Plain) (r : Reply) (stood_on : List ℕ) (S : SameTxn old new) (R : RestsInside old base walk) (entered : IsEntered stood_on walk.cursor.place)
    (granted : refusal (form_of old) (OnMap (command_of command)) (own_inside (with_cursor x walk) old base) ≡ None) (accepted : AcceptWith (form_of old) (image_of new base) [])
    (kept : IsKeyed command → (chain off : ℕ) → Contains stood_on off → StandsIn (form_of old) (image_of old base) (On chain off) → WalkKept (form_of old) (image_of old base) (image_of new base) chain off (command_of command) r) where
  abbrev f : Form
  f = form_of old

  abbrev before : Own
  before = own_inside (with_cursor x walk) old base

  abbrev mark : Mark
  mark = mark_in f (image_of old base) walk

  abbrev later : Mark
  later = mark_in f (image_of new base) walk

  -- where its cursor stands on a record the command is on a key
  on_key : is_some walk.shown ≡ true → IsKeyed command
  on_key some = elim (keyed_or_wipe command) [
    | inl keyed ↦ keyed
    | inr wipes ↦ absurd (wipe_refused f before some (subst (λ p. refusal f (OnMap (command_of p)) before ≡ None) wipes granted))
  ]

  -- it stands on a record, or it has ended
  abbrev Left : Type 0
  Left = Knows f (image_of new base) walk.cursor.place walk.cursor.stage × (is_some walk.shown ≡ true → Shift f (Lost f (OnMap (command_of command)) 0 before (Ends r) true mark) mark later)

  on_left : (place : Standing) (stage : Stage) → walk.cursor.place ≡ place → walk.cursor.stage ≡ stage → RestsAt f walk.shown place stage → Knows f (image_of old base) place stage → IsEntered stood_on place → Left
  on_left (On chain off) stage here how rests knows there =
      let K = subst (λ s. Knows f (image_of old base) (On chain off) s) rests.1 knows in
      let W = kept (on_key (ap is_some rests.0.shown)) chain off there K in
      let shift : Shift f (Lost f (OnMap (command_of command)) 0 before (Ends r) true mark) mark later = subst (λ p. Shift f (Lost f (OnMap (command_of command)) 0 before (Ends r) true (mark_at (image_of old base) p)) (mark_at (image_of old base) p) (mark_at (image_of new base) p)) (sym here) (record {
        inside = W.shift.inside;
        reached = W.shift.reached;
        fewer = W.shift.fewer;
        kept = λ k ahead. elim (W.shift.kept k ahead) [ inl still ↦ inl still | inr gone ↦ inr (lost_by_done gone) ];
      }) in
      (subst (λ p. Knows f (image_of new base) p walk.cursor.stage) (sym here) (subst (λ s. Knows f (image_of new base) (On chain off) s) (sym (how ∙ rests.1)) (K.0, W.member)), λ some. shift)
    where
      mark_at : List ℕ → Standing → Mark
      mark_at img p = mark_of f (chains_in f img) (place_of p)
  on_left (Before chain) stage here how rests knows there = absurd rests
  on_left Past stage here how rests knows there = (subst (λ p. Knows f (image_of new base) p walk.cursor.stage) (sym here) tt, λ some. absurd (false≢true (sym (ap is_some rests.0) ∙ some)))

  left : Left
  left = on_left walk.cursor.place walk.cursor.stage refl refl R.cursor.rests R.cursor.knows entered

  pub plain_walks : WalksInside x old new base walk walk (OnMap (command_of command)) r
  plain_walks = record {
    walked = shifts (ap (λ q. moves_by q (OnMap (command_of command)) before) granted) left.1;
    rests = subst (λ g. AcceptWith g (image_of new base) [] → RestsIn g (image_of new base) walk → RestsInside new base walk) S.form (λ A C. record { accepted = A; cursor = C }) accepted (record { rests = R.cursor.rests; knows = left.0 });
  }
