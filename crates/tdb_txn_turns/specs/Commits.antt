-- What is known of a file while a transaction is committed into it.
use Rattle.std.specs.Prelude.{◌≡◌, List, [], ℕ}
use Rattle.tdb_disk.specs.History.{History, seen}
use Rattle.tdb_disk.specs.Stop.{Quiet}
use Rattle.tdb_words.specs.Header.{sequence_of}
use Rattle.tdb_space.specs.Accepted.{Accept, AcceptWith}
use Rattle.tdb_space.specs.Form.{form_of, SameHeader}
use Rattle.tdb_space.specs.Pairs.{order_of}
use Rattle.tdb_space.specs.Undoing.{Reopens}

-- Image x stands for image b of the transaction: it is accepted, and has the header of b, its sequence number, and its
-- pairs in their order. It is b, or b without an undo area that was too short for the commit.
pub record StandsFor (b x : List ℕ) : Type 0 where
  pub accepted : Accept x
  pub header : SameHeader b x
  pub number : sequence_of x ≡ sequence_of b
  pub same_order : order_of (form_of b) x ≡ order_of (form_of b) b

-- an image opens to the map of image b, with its sequence number
pub record OpensAs (b c : List ℕ) : Type 0 where
  pub image : List ℕ
  pub stands : StandsFor b image
  pub opens : Reopens image c

-- A commit from image r of the file to image b of the transaction has come to a state, which speaks of an image of the
-- file and of one that is written: what opens to the map of the first opens to that of r, and the second stands for b.
-- Image b is accepted, and has the header of r.
pub record Carries (State : History → List ℕ → List ℕ → Type 0) (h : History) (r b : List ℕ) : Type 0 where
  pub before : List ℕ
  pub after : List ℕ
  pub reopens : (c : List ℕ) → Reopens before c → Reopens r c
  pub stands : StandsFor b after
  pub accepted : Accept b
  pub header : SameHeader r b
  pub state : State h before after

-- a stop leaves the file as it is, and it is accepted, in the form of image r, and opens to the map of that
pub record RestsAt (h : History) (r : List ℕ) : Type 0 where
  pub quiet : Quiet h
  pub accepted : AcceptWith (form_of r) (seen h) []
  pub opens : Reopens r (seen h)
