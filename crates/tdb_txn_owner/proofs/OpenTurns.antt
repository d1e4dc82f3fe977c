-- A turn inside a transaction that leaves it open, as a turn of the opener aside.
use Rattle.std.proofs.Common.{◌≡◌, ℕ, ◌<◌, List, Bool, true, false, Option, None, Some, refl, sym, ◌∙◌, ap, subst, arith}
use Rattle.std.specs.Prelude.{◌^◌, if◌then◌else◌}
use Rattle.tdb_disk.specs.History.{History, seen as bytes_seen}
use Rattle.tdb_disk.specs.Stop.{Quiet}
use Rattle.tdb_space.specs.Form.{Form}
use Rattle.tdb_locks.specs.declared.piece.Piece.{Piece}
use Rattle.tdb_locks.specs.declared.turn.Reply.{Reply}
use Rattle.tdb_law.specs.Commands as Law
use Rattle.tdb_law.specs.Commands.Command.{OnMap, OnLocks, Seqnum, OnGroup, OnWalk}
use Rattle.tdb_law.specs.Commands.GroupCommand.{Start, Commit, Prepare, Cancel}
use Rattle.tdb_law.specs.Commands.Turn.{Ends}
use Rattle.tdb_law.specs.Commands.{is_done}
use Rattle.tdb_law.specs.Counting.{image_number_after, image_number_by}
use Rattle.tdb_law.specs.Images.{image_map}
use Rattle.tdb_law.specs.MapCommands.{map_changes}
use Rattle.tdb_law.specs.Openers.{Own, Txn, image_or, seen}
use Rattle.tdb_law.specs.Refusals.{Refusal, refusal}
use Rattle.tdb_law.specs.Walks.{Walked}
use Rattle.tdb_law.specs.World.{HasFewChains, State}
use Rattle.tdb_law.specs.OneAside.Own.{OwnTurned, ShowsSide}
use Rattle.tdb_law.specs.OneAside.Sides.{Past, Side, but_at}
use Rattle.tdb_steps.specs.Turns.{number_of}
use Rattle.tdb_txn.specs.Committing.{MayCommit}
use Rattle.tdb_txn.specs.Pages.{byte_over, length_filled}
use Rattle.tdb_txn.specs.Txn.{txn_pages, txn_size}
use Rattle.tdb_txn_turns.specs.Prepares.{IsReady}
use Rattle.tdb_txn_turns.specs.InsideTxn.OwnTxns.{form_of, image_of}
use Rattle.tdb_txn_turns.specs.InsideTxn.Turns.{TurnsInside}
use Rattle.tdb_txn_turns.specs.InsideTxn.Walks.{mark_in, WalkedInside}
use Rattle.tdb_txn_turns.proofs.InsideTxn.Inside.{same_either}
use Rattle.tdb_txn_turns.proofs.InsideTxn.Lifted.{walks_are_lawful}
use Rattle.tdb_commands.specs.InLaw.{law_command, law_reply}
use Rattle.tdb_commands.specs.declared.command.Command.{Command as Given}
use Rattle.tdb_txn_owner.specs.declared.open_txn.OpenTxn.{OpenTxn}
use Rattle.tdb_commands.specs.declared.options.Options.{Options}
use Rattle.tdb_txn_owner.specs.declared.stage.Stage.TheVariants as At
use Rattle.tdb_txn_owner.specs.Ends.{task_of, TurnLeaves}
use Rattle.tdb_txn_owner.specs.Open.{GoesOn}
use Rattle.tdb_txn_owner.specs.Stages.{Known, HasNumbers, IsSide, KnowsFile}
use Rattle.tdb_txn_owner.specs.Turned.{MayTurn, StageTurned, keeps}
use Rattle.tdb_txn_owner.proofs.InsideTurns.{inside_is_own, reads_all}
use Rattle.tdb_txn_owner.proofs.Opened.{txn_of}
use Rattle.tdb_txn_owner.proofs.Sided.{begins, put_here, put_other, same_txn, side_after}

-- where changes aren't counted the image keeps its number
module _ (x : Own) (t : Txn) (has : x.txn ≡ Some t) (uncounted : t.numbered ≡ false) (n p : ℕ) where
  kept_by : (q : Option Refusal) (c : Law.Command) → image_number_by q c x n p ≡ p
  kept_by (Some why) c = refl
  kept_by None (OnMap m) = rw (has, uncounted) (same_either (map_changes m) p)
  kept_by None (OnLocks l) = refl
  kept_by None Seqnum = refl
  kept_by None (OnGroup Start) = rw has refl
  kept_by None (OnGroup Commit) = refl
  kept_by None (OnGroup Prepare) = refl
  kept_by None (OnGroup Cancel) = refl
  kept_by None (OnWalk w) = refl

  number_kept : (f : Form) (c : Law.Command) (r : Law.Reply) → image_number_after f c x (Ends r) n p ≡ p
  number_kept f c r = go (is_done r)
    where
      go : (b : Bool) → (if b then image_number_by (refusal f c x) c x n p else p) ≡ p
      go true = kept_by (refusal f c x) c
      go false = refl

-- A command that was given to a transaction that is this one afterwards.
module _ (o : Options) (table : ℕ → ℕ → ℕ) (owner : ℕ) (ps : List Piece) (h new : History) (old then_ : OpenTxn) (command : Given) (reply : Reply) (k : Known) (past : Past) (s : Side)
    (same : new ≡ h) (form : form_of then_.own ≡ form_of old.own) (numbered : then_.own.numbered ≡ old.own.numbered) (short : txn_size old.own.txn < 2 ^ 32)
    (S : IsSide (form_of old.own) o owner ps (At.Open old (Some command)) k past s) (K : KnowsFile (form_of old.own) (At.Open old (Some command)) h k) (M : MayTurn (form_of old.own) table s (task_of (law_command command) 0))
    (may : MayCommit then_.own.txn k.file) (G : GoesOn o old then_ k.file s.own (law_command command) (law_reply reply)) where
  abbrev f : Form
  f = form_of old.own

  abbrev c : Law.Command
  c = law_command command

  abbrev r : Law.Reply
  r = law_reply reply

  abbrev txn : Txn
  txn = txn_of old.own k.file

  abbrev before : List ℕ
  before = image_of old.own k.file

  abbrev after : List ℕ
  after = image_of then_.own k.file

  abbrev later : Past
  later = record { settled = past.settled; numbers = but_at s.here (number_of (form_of old.own) (image_of then_.own k.file)) past.numbers }

  abbrev side : Side
  side = record (side_after s owner ps G.own None) { mark = mark_in (form_of old.own) (image_of then_.own k.file) then_.walk }

  image_is : k.image ≡ before
  image_is = K.at.0.image

  number_is : past.numbers s.here ≡ number_of f before
  number_is = S.numbers.image txn S.own.txn ∙ ap (number_of f) image_is

  turned : TurnsInside f s.own G.own c (number_of f k.file) (past.numbers s.here) (number_of f after) r
  turned = subst (λ p. TurnsInside f s.own G.own c (number_of f k.file) p (number_of f after) r) (sym number_is) G.turned

  few : HasFewChains f
  few =
      let A = K.at.1.accepted in
      let long = A.long in
      let sized = length_filled (byte_over (txn_pages old.own.txn) k.file) (txn_size old.own.txn) in
      record { some = A.some; few = omega (arith, long, sized, short) }

  walked_in : (w v : State) → ShowsSide w s (image_map f k.file) → ShowsSide v side (image_map f k.file)
      → WalkedInside f (seen (w.own s.here) w.file) (w.mark s.here) (v.mark s.here) (w.own s.here) (v.own s.here) c r
  walked_in w v W V =
      let sees : seen (w.own s.here) w.file ≡ image_map f before = ap (λ x. seen x w.file) W.own ∙ ap (λ t. image_or t w.file) S.own.txn in
      let stood : w.mark s.here ≡ mark_in f before old.walk = W.mark ∙ S.mark ∙ ap (λ img. mark_in f img old.walk) image_is in
      subst (λ m. WalkedInside f m (w.mark s.here) (v.mark s.here) (w.own s.here) (v.own s.here) c r) (sym sees)
      (subst (λ a. WalkedInside f (image_map f before) a (v.mark s.here) (w.own s.here) (v.own s.here) c r) (sym stood)
      (subst (λ b. WalkedInside f (image_map f before) (mark_in f before old.walk) b (w.own s.here) (v.own s.here) c r) (sym V.mark)
      (subst (λ x. WalkedInside f (image_map f before) (mark_in f before old.walk) side.mark x (v.own s.here) c r) (sym W.own)
      (subst (λ y. WalkedInside f (image_map f before) (mark_in f before old.walk) side.mark s.own y c r) (sym V.own) G.walked))))

  walks : (w v : State) → ShowsSide w s (image_map f k.file) → ShowsSide v side (image_map f k.file) → Walked f w v s.here c 0 (Ends r)
  walks w v W V =
      walks_are_lawful f w v s.here c r few
      (reads_all f w.table s side s.own txn S.own.txn refl (record { in_table = W.table; holds = S.holds; goes_on = λ b. sym (S.table b) }))
      (ap (λ a. a.gone) W.spot) (walked_in w v W V)

  leaves_as : TurnLeaves past later s side (task_of c 0) (Ends r) G.own past.settled (number_of f after)
  leaves_as = record {
    here = refl;
    own = refl;
    task = refl;
    settled = refl;
    number = put_here s.here (number_of f after) past.numbers;
    others = λ p differs. put_other s.here (number_of f after) p past.numbers differs;
  }

  own_goes : OwnTurned f table (image_map f k.file) (image_map f k.file) (number_of f k.file) (number_of f k.file) past later s side (task_of c 0) (Ends r)
  own_goes =
      inside_is_own f table (image_map f k.file) (number_of f k.file) (number_of f after) past later s side s.own G.own txn c r S.own.txn turned
      (record { in_table = M.in_table; holds = S.holds; goes_on = λ b. sym (S.table b) }) walks
      (begins f o table owner ps (At.Open old (Some command)) k past s (task_of c 0) S refl M) leaves_as

  numbers : HasNumbers f (record { file = k.file; image = after }) (later.numbers s.here) G.own
  numbers = record {
    image = λ t has. put_here s.here (number_of f after) past.numbers;
    still = λ t has uncounted.
        let was : txn.numbered ≡ false = sym numbered ∙ ap (λ (u : Txn). u.numbered) (same_txn (txn_of then_.own k.file) t (sym G.has.txn ∙ has)) ∙ uncounted in
        turned.image_number ∙ number_kept s.own txn S.own.txn was (number_of f k.file) (past.numbers s.here) f c r ∙ S.numbers.image txn S.own.txn ∙ S.numbers.still txn S.own.txn was;
  }

  ready : IsReady then_.own.txn new k.file after
  ready = record { quiet = subst Quiet (sym same) K.at.0.quiet; file = ap bytes_seen same ∙ K.at.0.file; may = may; image = refl }

  pub stays_turned : StageTurned f o table owner ps (At.Open old (Some command)) (Some (At.Open then_ None)) h new k past s (task_of c 0) (Ends r)
  stays_turned =
      let rests = G.rests K.at.1 in
      record {
        known = record { file = k.file; image = after };
        later = later;
        side = side;
        left = record {
          here = S.here;
          alone = S.alone;
          table = λ b. refl;
          holds = own_goes.holds;
          task = refl;
          keeps = S.keeps;
          live = G.live ∙ S.live;
          options = G.has.options;
          own = G.has;
          numbers = numbers;
          mark = refl;
        };
        file = record { at = (ready, rests); forms = (K.forms.0, rests.accepted.form ∙ form); reads = λ only. ap bytes_seen same ∙ K.at.0.file };
        kept = keeps refl;
        still = tt;
        turned = own_goes;
      }
