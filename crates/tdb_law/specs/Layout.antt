-- Where a walk has come in the chains of an image, and what changes of a chain leave of that.
use Rattle.std.specs.Prelude.{ℕ, ◌+◌, ◌≡◌, ◌≢◌, ◌⊎◌, List, [], ◌∷◌, Bool, true, false, ◌&&◌, ◌||◌, nat_lt, nat_le, ◌==◌, if◌then◌else◌}
use Rattle.tdb_words.specs.declared.record.TheConstants.{USED}
use Rattle.tdb_space.specs.Form.{Form}
use Rattle.tdb_space.specs.Record.{key_at, magic_of}
use Rattle.tdb_space.specs.Chain.{chain_of}
use Rattle.tdb_space.specs.Pairs.{home}
use Rattle.tdb_law.specs.Openers.{Mark, is_key}
use Rattle.tdb_law.specs.Walks.{Shift}

-- a record of a chain: its offset, its key, and whether it is used rather than dead
pub record Cell : Type 0 where
  pub place : ℕ
  pub key : List ℕ
  pub live : Bool

-- the records of the chains, each chain in its order
abbrev pub Chains : Type 0
Chains = ℕ → List Cell

-- those of an image
abbrev pub cells : Form → List ℕ → List ℕ → List Cell
cells f img [] = []
cells f img (x ∷ xs) = record { place = x; key = key_at f.order img x; live = magic_of f.order img x == USED } ∷ cells f img xs

abbrev pub chains_in : Form → List ℕ → Chains
chains_in f img j = cells f img (chain_of f img j)

-- where a cursor is: nowhere, before a chain, or on a record of a chain
pub data Place : Type 0 where
  off_chains : Place
  before_chain : ℕ → Place
  on_record : ℕ → ℕ → Place

-- some used record of these has the key
abbrev pub live_in : List Cell → List ℕ → Bool
live_in [] k = false
live_in (c ∷ cs) k = (c.live && is_key c.key k) || live_in cs k

-- the records behind the one at an offset
abbrev pub behind : List Cell → ℕ → List Cell
behind [] p = []
behind (c ∷ cs) p = if c.place == p then cs else behind cs p

-- The keys that are further on: those of later chains, and in the chain of the record on which the cursor stands those
-- behind it.
abbrev pub ahead_of : Form → Chains → Place → List ℕ → Bool
ahead_of f cs off_chains k = false
ahead_of f cs (before_chain i) k = nat_le i (home f k) && live_in (cs (home f k)) k
ahead_of f cs (on_record i p) k = if home f k == i then live_in (behind (cs i) p) k else nat_lt i (home f k) && live_in (cs (home f k)) k

abbrev pub inside_of : Place → Bool
inside_of off_chains = false
inside_of (before_chain i) = false
inside_of (on_record i p) = true

abbrev pub reached_of : Place → ℕ
reached_of off_chains = 0
reached_of (before_chain i) = i
reached_of (on_record i p) = i + 1

-- where a walk has come
abbrev pub mark_of : Form → Chains → Place → Mark
mark_of f cs place = record { inside = inside_of place; reached = reached_of place; ahead = ahead_of f cs place }

-- A chain keeps, but for one key: every other key has its used record in it as before, also behind each record on which
-- a cursor stands; and no key has come behind such a record.
pub record Keeps (stands : ℕ → Bool) (key : List ℕ) (cs later : List Cell) : Type 0 where
  pub whole : (q : List ℕ) → is_key key q ≡ false → live_in later q ≡ live_in cs q
  pub behind_same : (p : ℕ) (q : List ℕ) → stands p ≡ true → is_key key q ≡ false → live_in (behind later p) q ≡ live_in (behind cs p) q
  pub behind_fewer : (p : ℕ) (q : List ℕ) → stands p ≡ true → live_in (behind later p) q ≡ true → live_in (behind cs p) q ≡ true

-- a chain without its record at an offset, and with that record marked dead
abbrev pub unlinked : List Cell → ℕ → List Cell
unlinked [] old = []
unlinked (c ∷ cs) old = if c.place == old then cs else c ∷ unlinked cs old

abbrev pub killed : List Cell → ℕ → List Cell
killed [] old = []
killed (c ∷ cs) old = if c.place == old then record c { live = false } ∷ cs else c ∷ killed cs old

-- the first record at an offset has the key, where there is one
abbrev pub HasKeyAt : List Cell → ℕ → List ℕ → Type 0
HasKeyAt [] old key = Unit {0}
HasKeyAt (c ∷ cs) old key = ((c.place == old) ≡ true → c.key ≡ key) × ((c.place == old) ≡ false → HasKeyAt cs old key)

-- A new record in front, one taken out on which no cursor stands, and one marked dead keep their chain.
abbrev pub LinkKeeps : Type 0
LinkKeeps = (stands : ℕ → Bool) (new : Cell) (cs : List Cell) → stands new.place ≡ false → Keeps stands new.key cs (new ∷ cs)

abbrev pub UnlinkKeeps : Type 0
UnlinkKeeps = (stands : ℕ → Bool) (key : List ℕ) (old : ℕ) (cs : List Cell) → stands old ≡ false → HasKeyAt cs old key → Keeps stands key cs (unlinked cs old)

abbrev pub KillKeeps : Type 0
KillKeeps = (stands : ℕ → Bool) (key : List ℕ) (old : ℕ) (cs : List Cell) → HasKeyAt cs old key → Keeps stands key cs (killed cs old)

-- a cursor's record is one of those that are stood on
abbrev pub IsStood : (ℕ → Bool) → Place → Type 0
IsStood stands (on_record i p) = stands p ≡ true
IsStood stands place = Unit {0}

-- One chain keeps but for a key, and all others stay: then a walk shifts, where the key is still further on or is lost.
abbrev pub WalksShift : Type 0
WalksShift = (f : Form) (stands : ℕ → Bool) (key : List ℕ) (lost : List ℕ → Bool) (cs later : Chains) (place : Place) → Keeps stands key (cs (home f key)) (later (home f key))
    → ((j : ℕ) → j ≢ home f key → later j ≡ cs j) → IsStood stands place
    → ((q : List ℕ) → is_key key q ≡ true → ahead_of f cs place q ≡ true → (ahead_of f later place q ≡ true) ⊎ (lost q ≡ true))
    → Shift f (λ k. lost k ≡ true) (mark_of f cs place) (mark_of f later place)

-- Whatever becomes of the chains, a walk that stands on no record shifts, where each key that was there is there or is
-- lost.
abbrev pub IsOffRecords : Place → Type 0
IsOffRecords (on_record i p) = ⊥
IsOffRecords place = Unit {0}

abbrev pub AllShift : Type 0
AllShift = (f : Form) (lost : List ℕ → Bool) (cs later : Chains) (place : Place) → IsOffRecords place
    → ((k : List ℕ) → live_in (cs (home f k)) k ≡ true → (live_in (later (home f k)) k ≡ true) ⊎ (lost k ≡ true))
    → Shift f (λ k. lost k ≡ true) (mark_of f cs place) (mark_of f later place)
