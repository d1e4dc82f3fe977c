-- How a file grows as pairs are added to it, and what logs hear of that.
use Rattle.std.specs.Prelude.{◌≡◌, ℕ, List, [], ◌∷◌, ◌++◌, Option, None, Some, Result, Ok, Err}
use Rattle.tdb_log.specs.Logs.{Logged, ToldAll, ToldUpTo, growth}
use Rattle.tdb_log.specs.declared.notice.Notice.{Notice}
use Rattle.tdb_space.specs.Form.{Form}
use Rattle.tdb_backup.specs.Room.{Room, record_lengths, room_in, room_left}
use Rattle.tdb_backup.specs.declared.refusal.AddRefusal.{AddRefusal}
use Rattle.tdb_backup.specs.declared.refusal.AddRefusal.TheVariants as Add
use Rattle.tdb_backup.specs.declared.refusal.BackupRefusal.{BackupRefusal}
use Rattle.tdb_backup.specs.declared.refusal.BackupRefusal.TheVariants as Backup
use Rattle.tdb_backup.specs.declared.refusal.CopyRefusal.TheVariants as Copy

-- the growth of a file of this length as a record is taken from it, and those that follow, where there is room for it
abbrev pub growths_on : ℕ → (Room → List Notice) → Option Room → List Notice
growths_on len rest None = []
growths_on len rest (Some left) = growth len left.len ++ rest left

-- The growths of a file with this room as records of these lengths are taken, one after the other: of each at which it
-- grows, from its length before to that after. They end where there is no room for one within the limit.
abbrev pub growths : ℕ → Room → List ℕ → List Notice
growths limit r [] = []
growths limit r (n ∷ ns) = growths_on r.len (λ left. growths limit left ns) (room_left limit r n)

-- those of an image to which these pairs are added in their order
abbrev pub growths_of : ℕ → Form → List ℕ → List (List ℕ × List ℕ) → List Notice
growths_of limit f first given = growths limit (room_in f first) (record_lengths given)

-- the last log was told the growths as the first of these pairs were added
pub record ToldFront (limit : ℕ) (f : Form) (first : List ℕ) (order : List (List ℕ × List ℕ)) (old new : List Logged) : Type 0 where
  pub given : List (List ℕ × List ℕ)
  pub rest : List (List ℕ × List ℕ)
  pub split : order ≡ given ++ rest
  pub told : ToldAll (growths_of limit f first given) old new

-- What logs heard as one pair was to be added, by the lengths of the file before and after: that it grew, if it did; or
-- nothing, where the pair wasn't added.
abbrev pub AddHeard : ℕ → ℕ → List Logged → List Logged → Result (Unit {0}) AddRefusal → Type 0
AddHeard from to old new (Ok v) = ToldAll (growth from to) old new
AddHeard from to old new (Err (Add.Insert e)) = new ≡ old
AddHeard from to old new (Err (Add.Log refusal)) = ToldUpTo refusal (growth from to) old new

-- What logs heard where not all of these pairs were added: the growths up to some pair; where there was no room for
-- one, all that there are; and where the last log refused one, those before it.
abbrev pub CopyHeard : ℕ → Form → List ℕ → List (List ℕ × List ℕ) → List Logged → List Logged → BackupRefusal → Type 0
CopyHeard limit f first order old new (Backup.Copy (Copy.Full len need)) = ToldAll (growths_of limit f first order) old new
CopyHeard limit f first order old new (Backup.Copy Copy.Read) = ToldFront limit f first order old new
CopyHeard limit f first order old new (Backup.Copy Copy.Write) = ToldFront limit f first order old new
CopyHeard limit f first order old new (Backup.Copy Copy.Memory) = ToldFront limit f first order old new
CopyHeard limit f first order old new (Backup.Log refusal) = ToldUpTo refusal (growths_of limit f first order) old new

-- Behind what was told of the growths as some pairs were added, logs heard those of all of these.
abbrev pub CarriesTold : ℕ → Form → List ℕ → List (List ℕ × List ℕ) → List (List ℕ × List ℕ) → List Logged → List Logged → Type 0
CarriesTold limit f first done all old new = (start : List Logged) → ToldAll (growths_of limit f first done) start old → ToldAll (growths_of limit f first all) start new
