-- What a store of a value makes of an image, and why it is refused.
use Rattle.std.specs.Prelude.{◌≡◌, ℕ, ◌+◌, ◌||◌, Bool, false, nat_le, List, length, is_some}
use Rattle.tdb_space.specs.Form.{Form}
use Rattle.tdb_space.specs.Chain.{free_of}
use Rattle.tdb_free.specs.FreeList.{free_pairs, first_fit}
use Rattle.tdb_free.specs.declared.refusal.FreeRefusal as Free
use Rattle.tdb_free.specs.declared.list_refusal.ListRefusal as Listing
use Rattle.tdb_edit.specs.declared.refusal.StoreRefusal.{StoreRefusal}
use Rattle.tdb_edit.specs.declared.refusal.StoreRefusal.TheVariants.{Full, Io, Memory}

-- an image has room for a record of so many bytes behind its header, within a limit: it can grow by the record, or a
-- free record is long enough
abbrev pub has_room : Form → List ℕ → ℕ → ℕ → Bool
has_room f img rec_len limit = nat_le (length img + (24 + rec_len)) limit || is_some (first_fit (free_pairs f img (free_of f img)) rec_len)

-- a store is refused as the record that it takes, and as the list that is looked through
abbrev pub of_free : Free.FreeRefusal → StoreRefusal
of_free (Free.TheVariants.Full len need) = Full len need
of_free Free.TheVariants.Io = Io

abbrev pub of_list : Listing.ListRefusal → StoreRefusal
of_list Listing.TheVariants.Io = Io
of_list Listing.TheVariants.Memory = Memory

-- the record that was to be taken found no room; that takes no memory
abbrev pub FoundNoRoom : Form → List ℕ → ℕ → ℕ → StoreRefusal → Type 0
FoundNoRoom f img rec_len limit (Full len need) = has_room f img rec_len limit ≡ false
FoundNoRoom f img rec_len limit Io = Unit {0}
FoundNoRoom f img rec_len limit Memory = ⊥

-- A refusal of a store for want of room is right: there is none for a record of so many bytes behind its header, and it
-- tells the length of the image and what the record needs with its header.
abbrev pub FullRightly : Form → List ℕ → ℕ → ℕ → StoreRefusal → Type 0
FullRightly f img rec_len limit (Full len need) = (has_room f img rec_len limit ≡ false) × (len ≡ length img) × (need ≡ 24 + rec_len)
FullRightly f img rec_len limit Io = Unit {0}
FullRightly f img rec_len limit Memory = Unit {0}
