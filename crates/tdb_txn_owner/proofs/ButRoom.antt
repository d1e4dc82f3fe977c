-- Where all of a transaction but its room is as it was, its opener stands as before.
use Rattle.std.proofs.Common.{◌≡◌, ◌≤◌, ℕ, ◌+◌, List, Bool, Option, None, Some, sym, ◌∙◌, ap, subst}
use Rattle.tdb_disk.specs.History.{History}
use Rattle.tdb_words.specs.declared.header.Header.{Header}
use Rattle.tdb_space.specs.Accepted.{Accept}
use Rattle.tdb_space.specs.Form.{Form}
use Rattle.tdb_locks.specs.declared.piece.Piece.{Piece}
use Rattle.tdb_law.specs.Images.{image_map}
use Rattle.tdb_law.specs.OneAside.Sides.{Past, Side}
use Rattle.tdb_law.specs.Openers.{Map, Own, Txn}
use Rattle.tdb_txn.specs.Committing.{MayCommit}
use Rattle.tdb_txn.specs.Pages.{contents}
use Rattle.tdb_txn.specs.Planning.{KeepsFront}
use Rattle.tdb_txn.specs.Txn.{txn_depth, txn_doomed, txn_pages}
use Rattle.tdb_walk.specs.declared.walk.Walk.{Walk}
use Rattle.tdb_txn_turns.specs.InsideTxn.Counted.{IsCounted}
use Rattle.tdb_txn_turns.specs.InsideTxn.OwnTxns.{form_of, image_of}
use Rattle.tdb_txn_turns.specs.InsideTxn.Walks.{mark_in, RestsInside}
use Rattle.tdb_txn_turns.specs.Prepares.{IsReady}
use Rattle.tdb_commands.specs.declared.command.Command.{Command}
use Rattle.tdb_commands.specs.declared.options.Options.{Options}
use Rattle.tdb_txn_owner.specs.ButRoom.{OpenButRoom, StageButRoom}
use Rattle.tdb_txn_owner.specs.ButRoom.StageButRoom.{open_stage, same_stage}
use Rattle.tdb_txn_owner.specs.Open.{HasOpen, OpenFits}
use Rattle.tdb_txn_owner.specs.Stages.{stage_records, CommandFits, IsFit, IsSide, KnowsFile, Known}
use Rattle.tdb_txn_owner.specs.declared.open_txn.OpenTxn.{OpenTxn}
use Rattle.tdb_txn_owner.specs.declared.stage.Stage.{Stage}
use Rattle.tdb_txn_owner.specs.declared.stage.Stage.TheVariants as At
use Rattle.tdb_txn_owner.proofs.Opened.{rests_still, txn_of}

-- An open transaction of which all but its room is as it was.
module _ (t u : OpenTxn) (S : OpenButRoom t u) where
  image : (base : List ℕ) → image_of u.own base ≡ image_of t.own base
  image base = ap (λ ps. contents ps base u.own.txn.size) S.txn.pages ∙ ap (contents (txn_pages t.own.txn) base) S.txn.only.size

  form : form_of u.own ≡ form_of t.own
  form = S.txn.only.form

  abbrev with_all : Map → ℕ → Bool → Bool → Bool → Txn
  with_all m depth doomed changed numbered = record { image = m; depth = depth + 1; doomed = doomed; prepared = None; changed = changed; numbered = numbered }

  -- in the words of the law it is the same
  txn_same : (base : List ℕ) → txn_of u.own base ≡ txn_of t.own base
  txn_same base =
      ap (λ g. with_all (image_map g (image_of u.own base)) (txn_depth u.own.txn) (txn_doomed u.own.txn) u.own.changed u.own.numbered) form
      ∙ ap (λ img. with_all (image_map (form_of t.own) img) (txn_depth u.own.txn) (txn_doomed u.own.txn) u.own.changed u.own.numbered) (image base)
      ∙ ap (λ d. with_all (image_map (form_of t.own) (image_of t.own base)) d (txn_doomed u.own.txn) u.own.changed u.own.numbered) S.txn.only.depth
      ∙ ap (λ b. with_all (image_map (form_of t.own) (image_of t.own base)) (txn_depth t.own.txn) b u.own.changed u.own.numbered) S.txn.only.doomed
      ∙ ap (λ b. with_all (image_map (form_of t.own) (image_of t.own base)) (txn_depth t.own.txn) (txn_doomed t.own.txn) b u.own.numbered) S.changed
      ∙ ap (λ b. with_all (image_map (form_of t.own) (image_of t.own base)) (txn_depth t.own.txn) (txn_doomed t.own.txn) t.own.changed b) S.numbered

  has_open : (o : Options) (base : List ℕ) (x : Own) → HasOpen o t base x → HasOpen o u base x
  has_open o base x H = record {
    options = H.options;
    txn = H.txn ∙ ap Some (sym (txn_same base));
    counted = subst (λ held. IsCounted held x) (sym S.held) H.counted;
    cursor = H.cursor ∙ ap (λ (w : Walk). w.shown) (sym S.walk);
  }

  may_commit : (r : List ℕ) → MayCommit t.own.txn r → MayCommit u.own.txn r
  may_commit r M = record {
    before = M.before;
    after = subst Accept (sym (image r)) M.after;
    header = form ∙ M.header;
    keeps = subst (KeepsFront r) (sym (image r)) M.keeps;
  }

  is_ready : (h : History) (r b : List ℕ) → IsReady t.own.txn h r b → IsReady u.own.txn h r b
  is_ready h r b R = record { quiet = R.quiet; file = R.file; may = may_commit r R.may; image = R.image ∙ sym (image r) }

  rests : (base : List ℕ) → RestsInside t.own base t.walk → RestsInside u.own base u.walk
  rests base R = rests_still base t u (image base) S.walk form R

  open_fits : (h : Header) (limit size : ℕ) → OpenFits t h limit size → OpenFits u h limit size
  open_fits h limit size F = record {
    header = F.header ∙ sym form;
    sized = F.sized ∙ sym S.txn.only.start;
    within = subst (λ n. n ≤ limit) (sym S.txn.only.size) F.within;
  }

  module _ (command : Option Command) where
    side_open : (f : Form) (o : Options) (owner : ℕ) (ps : List Piece) (k : Known) (past : Past) (s : Side) → IsSide f o owner ps (At.Open t command) k past s → IsSide f o owner ps (At.Open u command) k past s
    side_open f o owner ps k past s I = record {
      here = I.here;
      alone = I.alone;
      table = I.table;
      holds = I.holds;
      task = I.task;
      keeps = I.keeps;
      live = I.live;
      options = I.options;
      own = has_open o k.file s.own I.own;
      numbers = I.numbers;
      mark = I.mark ∙ ap (mark_in f k.image) (sym S.walk);
    }

    file_open : (f : Form) (h : History) (k : Known) → KnowsFile f (At.Open t command) h k → KnowsFile f (At.Open u command) h k
    file_open f h k K = record { at = (is_ready h k.file k.image K.at.0, rests k.file K.at.1); forms = K.forms; reads = K.reads }

    fit_open : (h : Header) (limit size : ℕ) → IsFit (At.Open t command) h limit size → IsFit (At.Open u command) h limit size
    fit_open h limit size F = (open_fits h limit size F.0, subst (CommandFits command) (sym S.txn.only.depth) F.1)

-- A stage of which all but the room is as it was.
pub same_records : (old new : Stage) → StageButRoom old new → stage_records new ≡ stage_records old
same_records old new (open_stage t u command is now S) = ap stage_records now ∙ sym (ap stage_records is)
same_records old new (same_stage same) = ap stage_records same

pub still_side : (old new : Stage) → StageButRoom old new → (f : Form) (o : Options) (owner : ℕ) (ps : List Piece) (k : Known) (past : Past) (s : Side) → IsSide f o owner ps old k past s → IsSide f o owner ps new k past s
still_side old new (open_stage t u command is now S) f o owner ps k past s I =
    subst (λ z. IsSide f o owner ps z k past s) (sym now) (side_open t u S command f o owner ps k past s (subst (λ z. IsSide f o owner ps z k past s) is I))
still_side old new (same_stage same) f o owner ps k past s I = subst (λ z. IsSide f o owner ps z k past s) (sym same) I

pub still_file : (old new : Stage) → StageButRoom old new → (f : Form) (h : History) (k : Known) → KnowsFile f old h k → KnowsFile f new h k
still_file old new (open_stage t u command is now S) f h k K = subst (λ z. KnowsFile f z h k) (sym now) (file_open t u S command f h k (subst (λ z. KnowsFile f z h k) is K))
still_file old new (same_stage same) f h k K = subst (λ z. KnowsFile f z h k) (sym same) K

pub still_fit : (old new : Stage) → StageButRoom old new → (h : Header) (limit size : ℕ) → IsFit old h limit size → IsFit new h limit size
still_fit old new (open_stage t u command is now S) h limit size F = subst (λ z. IsFit z h limit size) (sym now) (fit_open t u S command h limit size (subst (λ z. IsFit z h limit size) is F))
still_fit old new (same_stage same) h limit size F = subst (λ z. IsFit z h limit size) (sym same) F
