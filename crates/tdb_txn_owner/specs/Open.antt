-- An opener inside its transaction, which isn't prepared, in the words of the law.
use Rattle.std.specs.Prelude.{◌≡◌, ℕ, ◌≤◌, List, Some}
use Rattle.tdb_words.specs.declared.header.Header.{Header}
use Rattle.tdb_space.specs.Form.{form_in}
use Rattle.tdb_law.specs.Commands.{Command as LawCommand, Reply}
use Rattle.tdb_law.specs.Openers.{Own}
use Rattle.tdb_law.specs.Images.{image_map}
use Rattle.tdb_steps.specs.Turns.{number_of}
use Rattle.tdb_txn.specs.Txn.{txn_size, txn_start}
use Rattle.tdb_txn_turns.specs.InsideTxn.Counted.{IsCounted}
use Rattle.tdb_txn_turns.specs.InsideTxn.OwnTxns.{law_txn, image_of, form_of}
use Rattle.tdb_txn_turns.specs.InsideTxn.Turns.{TurnsInside}
use Rattle.tdb_txn_turns.specs.InsideTxn.Walks.{mark_in, RestsInside, WalkedInside}
use Rattle.tdb_commands.specs.declared.options.Options.{Options}
use Rattle.tdb_txn_owner.specs.declared.open_txn.OpenTxn.{OpenTxn}
use Rattle.tdb_commands.specs.InLaw.{options_of}

-- The opener has this transaction over a file with these bytes, these explicit locks, and this cursor.
pub record HasOpen (o : Options) (t : OpenTxn) (base : List ℕ) (x : Own) : Type 0 where
  pub options : x.options ≡ options_of o
  pub txn : x.txn ≡ Some (law_txn (image_map (form_of t.own) (image_of t.own base)) t.own.txn t.own.changed t.own.numbered)
  pub counted : IsCounted t.held x
  pub cursor : x.cursor ≡ t.walk.shown

-- The turn of a command that leaves the transaction open: the opener is another one afterwards, and the turn is one of
-- the law's, also by what it does to the walk of the cursor, which rests again. The file stays, and the numbers are
-- those of the file and of the images.
pub record GoesOn (o : Options) (old new : OpenTxn) (base : List ℕ) (x : Own) (c : LawCommand) (r : Reply) : Type 0 where
  pub own : Own
  pub has : HasOpen o new base own
  pub live : own.live ≡ x.live
  pub turned : TurnsInside (form_of old.own) x own c (number_of (form_of old.own) base) (number_of (form_of old.own) (image_of old.own base)) (number_of (form_of old.own) (image_of new.own base)) r
  pub walked : WalkedInside (form_of old.own) (image_map (form_of old.own) (image_of old.own base)) (mark_in (form_of old.own) (image_of old.own base) old.walk) (mark_in (form_of old.own) (image_of new.own base) new.walk) x own c r
  pub rests : RestsInside old.own base old.walk → RestsInside new.own base new.walk

-- what the transaction asks of the file's header and length, where it may get so many bytes
pub record OpenFits (t : OpenTxn) (h : Header) (limit size : ℕ) : Type 0 where
  pub header : form_in h ≡ form_of t.own
  pub sized : size ≡ txn_start t.own.txn
  pub within : txn_size t.own.txn ≤ limit
