-- After a turn of a cursor the law keeps the key of the last pair as the turn does.
use Rattle.std.proofs.Common.{◌≡◌, ℕ, List, false, Option, None, Some, refl, sym, ◌∙◌, ap, subst}
use Rattle.tdb_space.specs.Form.{Form}
use Rattle.tdb_locks.specs.declared.turn.Reply.{Reply}
use Rattle.tdb_locks.specs.declared.turn.Reply.TheVariants as Replies
use Rattle.tdb_locks.specs.declared.turn.Turn.{Turn}
use Rattle.tdb_locks.specs.declared.turn.Turn.TheVariants as Turns
use Rattle.tdb_law.specs.Commands.{WalkCommand, Turn as LawTurn, Reply as LawReply}
use Rattle.tdb_law.specs.Commands.WalkCommand.{First, Next, EndWalk, Close}
use Rattle.tdb_law.specs.Openers.{Own, Map}
use Rattle.tdb_law.specs.Images.{image_map}
use Rattle.tdb_walk.specs.declared.standing.Standing.{Standing}
use Rattle.tdb_walk.specs.declared.standing.Standing.TheVariants.{Before, On, Past}
use Rattle.tdb_walk.specs.declared.stage.Stage.{Stage}
use Rattle.tdb_walk.specs.Cursors.{At}
use Rattle.tdb_walk.specs.InLaw.{IsTurn, is_close, own_next}
use Rattle.tdb_walk.specs.Again.{RestsAt, StandsAgain, CursorShows, shown_there, cursor_after}
use Rattle.tdb_walk.proofs.Rows.{never, own_is}
use Rattle.tdb_walk.proofs.Again.{cursor_stands_again}

no_key : (k : List ℕ) → ◌≡◌ {A = Option (List ℕ)} None (Some k) → ⊥
no_key k e = cc e

module _ (f : Form) (c : Option (List ℕ)) (stage : Stage) (old : Option (List ℕ)) where
  -- a cursor that shows no key has ended
  none_shown : (reply : Reply) (place : Standing) → RestsAt f c place stage → c ≡ None → None ≡ shown_there place reply old
  none_shown reply (On chain off) R e = absurd (no_key R.0.key (sym e ∙ R.0.shown))
  none_shown reply (Before chain) R e = absurd R
  none_shown reply Past R e = refl

  -- one that shows this key stands on a record
  key_shown : (key value : List ℕ) (place : Standing) → RestsAt f c place stage → c ≡ Some key → Some key ≡ shown_there place (Replies.Pair key value) old
  key_shown key value (On chain off) R e = refl
  key_shown key value (Before chain) R e = absurd R
  key_shown key value Past R e = absurd (no_key key (sym R.0 ∙ e))

  -- a leave for which memory is wanting keeps what was shown
  kept_shown : (place : Standing) → RestsAt f c place stage → c ≡ old → old ≡ shown_there place Replies.Memory old
  kept_shown (On chain off) R e = refl
  kept_shown (Before chain) R e = absurd R
  kept_shown Past R e = sym e ∙ R.0

module _ (f : Form) (x : Own) (out : x.txn ≡ None) (n : ℕ) (m : Map) (later : At) where
  abbrev Shows : WalkCommand → LawTurn → Turn → Type 0
  Shows w turn did = own_next f w n x m turn ≡ record x { cursor = cursor_after did later.place x.cursor }

  abbrev Rests : WalkCommand → LawReply → Type 0
  Rests w r = RestsAt f (own_next f w n x m (LawTurn.Ends r)).cursor later.place later.stage

  with_key : Option (List ℕ) → Own
  with_key c = record x { cursor = c }

  -- the opener is this one after an end, so the key is that of the reply
  ended : (w : WalkCommand) (r : LawReply) (reply : Reply) (c : Option (List ℕ)) → own_next f w n x m (LawTurn.Ends r) ≡ record x { cursor = c } → c ≡ shown_there later.place reply x.cursor → Shows w (LawTurn.Ends r) (Turns.Done reply)
  ended w r reply c own e = own ∙ ap (λ z. record x { cursor = z }) e

  rests_with : (w : WalkCommand) (r : LawReply) (c : Option (List ℕ)) → own_next f w n x m (LawTurn.Ends r) ≡ record x { cursor = c } → Rests w r → RestsAt f c later.place later.stage
  rests_with w r c own R = subst (λ z. RestsAt f z later.place later.stage) (ap (λ (y : Own). y.cursor) own) R

  none_ended : (w : WalkCommand) (r : LawReply) (reply : Reply) → own_next f w n x m (LawTurn.Ends r) ≡ record x { cursor = None } → Rests w r → Shows w (LawTurn.Ends r) (Turns.Done reply)
  none_ended w r reply own R = ended w r reply None own (none_shown f None later.stage x.cursor reply later.place (rests_with w r None own R) refl)

  key_ended : (w : WalkCommand) (key value : List ℕ) → own_next f w n x m (LawTurn.Ends (LawReply.Pair key value)) ≡ record x { cursor = Some key } → Rests w (LawReply.Pair key value)
      → Shows w (LawTurn.Ends (LawReply.Pair key value)) (Turns.Done (Replies.Pair key value))
  key_ended w key value own R = ended w (LawReply.Pair key value) (Replies.Pair key value) (Some key) own (key_shown f (Some key) later.stage x.cursor key value later.place (rests_with w (LawReply.Pair key value) (Some key) own R) refl)

  done_shows : (w : WalkCommand) → is_close w ≡ false → Rests w LawReply.Done → Shows w (LawTurn.Ends LawReply.Done) (Turns.Done Replies.Ok)
  done_shows First stays R = none_ended First LawReply.Done Replies.Ok (own_is f First x out n LawReply.Done m) R
  done_shows Next stays R = none_ended Next LawReply.Done Replies.Ok (own_is f Next x out n LawReply.Done m) R
  done_shows EndWalk stays R = none_ended EndWalk LawReply.Done Replies.Ok (own_is f EndWalk x out n LawReply.Done m) R
  done_shows Close stays R = absurd (never (sym stays))

  end_shows : (w : WalkCommand) → is_close w ≡ false → Rests w LawReply.End → Shows w (LawTurn.Ends LawReply.End) (Turns.Done Replies.End)
  end_shows First stays R = none_ended First LawReply.End Replies.End (own_is f First x out n LawReply.End m) R
  end_shows Next stays R = none_ended Next LawReply.End Replies.End (own_is f Next x out n LawReply.End m) R
  end_shows EndWalk stays R = none_ended EndWalk LawReply.End Replies.End (own_is f EndWalk x out n LawReply.End m) R
  end_shows Close stays R = absurd (never (sym stays))

  pair_shows : (w : WalkCommand) (key value : List ℕ) → is_close w ≡ false → Rests w (LawReply.Pair key value) → Shows w (LawTurn.Ends (LawReply.Pair key value)) (Turns.Done (Replies.Pair key value))
  pair_shows First key value stays R = key_ended First key value (own_is f First x out n (LawReply.Pair key value) m) R
  pair_shows Next key value stays R = key_ended Next key value (own_is f Next x out n (LawReply.Pair key value) m) R
  pair_shows EndWalk key value stays R = none_ended EndWalk (LawReply.Pair key value) (Replies.Pair key value) (own_is f EndWalk x out n (LawReply.Pair key value) m) R
  pair_shows Close key value stays R = absurd (never (sym stays))

  memory_shows : (w : WalkCommand) → is_close w ≡ false → Rests w LawReply.Memory → Shows w (LawTurn.Ends LawReply.Memory) (Turns.Done Replies.Memory)
  memory_shows First stays R = none_ended First LawReply.Memory Replies.Memory refl R
  memory_shows Next stays R = none_ended Next LawReply.Memory Replies.Memory refl R
  memory_shows EndWalk stays R = ended EndWalk LawReply.Memory Replies.Memory x.cursor refl (kept_shown f x.cursor later.stage x.cursor later.place R refl)
  memory_shows Close stays R = absurd (never (sym stays))

  -- the reply tells which turn of the law it is
  says_shows : (w : WalkCommand) (r : LawReply) (reply : Reply) (turn : LawTurn) → turn ≡ LawTurn.Ends r → (Rests w r → Shows w (LawTurn.Ends r) (Turns.Done reply)) → (Rests w r) → Shows w turn (Turns.Done reply)
  says_shows w r reply turn is shows R = subst (λ t. Shows w t (Turns.Done reply)) (sym is) (shows R)

  module _ (w : WalkCommand) (turn : LawTurn) (stays : is_close w ≡ false) (rests : (r : LawReply) → turn ≡ LawTurn.Ends r → Rests w r) where
    ends_as : (reply : Reply) (r q : LawReply) → turn ≡ LawTurn.Ends r → r ≡ q → (Rests w q → Shows w (LawTurn.Ends q) (Turns.Done reply)) → Shows w turn (Turns.Done reply)
    ends_as reply r q is same shows = let e : turn ≡ LawTurn.Ends q = is ∙ ap LawTurn.Ends same in says_shows w q reply turn e shows (rests q e)

    pub reply_shows : (reply : Reply) → IsTurn (Turns.Done reply) turn → Shows w turn (Turns.Done reply)
    reply_shows Replies.Ok says = ends_as Replies.Ok says.0 LawReply.Done says.2 says.1 (done_shows w stays)
    reply_shows (Replies.Pair key value) says = ends_as (Replies.Pair key value) says.0 (LawReply.Pair key value) says.2 says.1 (pair_shows w key value stays)
    reply_shows Replies.End says = ends_as Replies.End says.0 LawReply.End says.2 says.1 (end_shows w stays)
    reply_shows Replies.Memory says = ends_as Replies.Memory says.0 LawReply.Memory says.2 says.1 (memory_shows w stays)
    reply_shows (Replies.Value v) says = absurd says.1
    reply_shows Replies.KeyMissing says = absurd says.1
    reply_shows Replies.KeyThere says = absurd says.1
    reply_shows (Replies.Busy o b) says = absurd says.1
    reply_shows Replies.ReadOnly says = absurd says.1
    reply_shows Replies.NoTransaction says = absurd says.1
    reply_shows Replies.InTransaction says = absurd says.1
    reply_shows Replies.Nesting says = absurd says.1
    reply_shows Replies.Doomed says = absurd says.1
    reply_shows (Replies.HeldLocks count) says = absurd says.1
    reply_shows Replies.NotLocked says = absurd says.1
    reply_shows (Replies.Full len need) says = absurd says.1
    reply_shows Replies.Yes says = absurd says.1
    reply_shows Replies.No says = absurd says.1
    reply_shows (Replies.Number q) says = absurd says.1

  pub turn_shows : (w : WalkCommand) (turn : LawTurn) (did : Turn) → is_close w ≡ false → IsTurn did turn → ((r : LawReply) → turn ≡ LawTurn.Ends r → Rests w r) → Shows w turn did
  turn_shows w turn Turns.Step stays says rests = subst (λ t. Shows w t Turns.Step) (sym says) refl
  turn_shows w turn (Turns.Blocked o b) stays says rests = subst (λ t. Shows w t (Turns.Blocked o b)) (sym says.2) refl
  turn_shows w turn (Turns.Done reply) stays says rests = reply_shows w turn stays rests reply says

pub cursor_shows : CursorShows
cursor_shows f own x w at later gone n who ps qs a hands stood_on read_only v did turn tells told B T says stays =
    turn_shows f x B.ready.outside n (image_map f a) later w turn did stays says
    (λ r is. subst (λ t. StandsAgain f own x w later t n (image_map f a)) is (cursor_stands_again f own x w at later gone n who ps qs a hands stood_on read_only v did turn tells told B T says) stays)
