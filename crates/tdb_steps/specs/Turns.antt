-- What a turn of a command makes of the image.
use Rattle.std.specs.Prelude.{◌≡◌, ℕ, ◌+◌, ◌≤◌, ◌<◌, ◌⊎◌, Bool, true, false, List, [], ◌∷◌, ◌++◌, length, slice_index, Option, None, Some, Contains}
use Rattle.std.specs.Map.{update}
use Rattle.tdb_words.specs.Word.{word}
use Rattle.tdb_words.specs.Header.{sequence_at}
use Rattle.tdb_space.specs.Form.{Form, chain_head, free_head}
use Rattle.tdb_space.specs.Pairs.{map_of, home, same_key}
use Rattle.tdb_space.specs.Extents.{HandPair, once, times, extents, hand_extents}
use Rattle.tdb_space.specs.Accepted.{AcceptWith, IsFiled}
use Rattle.tdb_space.specs.Stays.{ChangesOnly, ChainStays}
use Rattle.tdb_space.specs.Chain.{chain_of, free_of}
use Rattle.tdb_space.specs.NewRecord.{rec_len_for}
use Rattle.tdb_free.specs.FreeList.{GivenBack}
use Rattle.tdb_free.specs.Growth.{TakenBy, NoRoom}
use Rattle.tdb_chain.specs.declared.place.Place.{Place}
use Rattle.tdb_chain.specs.Place.{HoldsKey, IsFound}
use Rattle.tdb_chain.specs.Changed.{hand_at}
use Rattle.tdb_locks.specs.declared.turn.Reply.{Reply}
use Rattle.tdb_steps.specs.declared.stage.Stage.{Stage}
use Rattle.tdb_steps.specs.declared.stage.Stage.TheVariants.{Begun, Chained, Looked, Listed, Taken, Changed, Wiping, Ending}
use Rattle.tdb_steps.specs.declared.stage.WipeStage.TheVariants.{FreeList}
use Rattle.tdb_steps.specs.declared.stage.Next.{Next}
use Rattle.tdb_steps.specs.declared.stage.Next.TheVariants.{Step, Done}
use Rattle.tdb_steps.specs.Asked.{Asked, appends, joined, wipes}
use Rattle.tdb_steps.specs.Wiped.{Wiped}
use Rattle.tdb_steps.specs.Walks.{KeepsWalks}
use Rattle.tdb_steps.specs.Stages.{hands_in, hands_after, MayBeOut, HoldsChain, Knows, KnowsAfter, IsJoined, JoinedAfter, is_changed, is_changed_after, IsEnd}

-- the sequence number of an image
abbrev pub number_of : Form → List ℕ → ℕ
number_of f img = word f.order img sequence_at

-- The map after a turn, by whether the change was made before it and is made after it: only the turn that makes the
-- change changes the map, and at the key alone, to the value that the command leaves there.
abbrev pub MapBy : Bool → Bool → Form → List ℕ → List ℕ → List ℕ → Asked → Type 0
MapBy false true f a b key asked = (other : List ℕ) → map_of f b other ≡ update same_key (map_of f a) key (asked.left (map_of f a key)) other
MapBy _ _ f a b key asked = (other : List ℕ) → map_of f b other ≡ map_of f a other

-- a reply that says that memory or space is wanting
pub data IsWant (reply : Reply) : Type 0 where
  memory : reply ≡ Reply.Memory → IsWant reply
  full : (len need : ℕ) → reply ≡ Reply.Full len need → IsWant reply

-- What the end of a command says: after the change, that it is done; before it, what the command asks for of the key's
-- value in the map, or that memory or space is wanting.
abbrev pub Says : Stage → Asked → Option (List ℕ) → Next → Type 0
Says _ asked v (Step stage) = Unit {0}
Says (Changed hand) asked v (Done reply) = reply ≡ Reply.Ok
Says Ending asked v (Done reply) = reply ≡ Reply.Ok
Says _ asked v (Done reply) = IsWant reply ⊎ (reply ≡ asked.reply v)

-- A turn led from image a to image b, where other hands are out that stay as they are. The new image is accepted with
-- the hands that the command holds then, and it knows of the new image what its stage says. At most the chain of its
-- key changed, and that only while it is locked; a turn before that changes nothing. The sequence number stays, and
-- walks keep their keys.
pub record TurnMade (f : Form) (a b key : List ℕ) (asked : Asked) (old : Stage) (next : Next) (others : List HandPair) : Type 0 where
  pub accepted : AcceptWith f b (hands_after next ++ others)
  pub knows : KnowsAfter f b key asked next
  pub only : ChangesOnly f a b (λ k. (k ≡ home f key) × HoldsChain old)
  pub map : MapBy (is_changed old) (is_changed_after next) f a b key asked
  pub says : Says old asked (map_of f a key) next
  pub number : number_of f b ≡ number_of f a
  pub walks : KeepsWalks f a b key old next

-- what a turn from this stage makes of an image, for whatever other hands are out
abbrev pub Makes : Form → List ℕ → List ℕ → List ℕ → Asked → Stage → Next → Type 0
Makes f a b key asked old next =
    (others : List HandPair) → AcceptWith f a (hands_in old ++ others) → Knows f a key asked old → TurnMade f a b key asked old next others

-- how often a byte is held by what a turn on a key may write to, of a command that has these hands: the heads of the
-- key's chain and of the free list, the records of both, and the hands
abbrev pub of_turn : Form → List ℕ → List ℕ → List HandPair → ℕ → ℕ
of_turn f a key own i =
    once (chain_head (home f key), 4) i + once (free_head, 4) i + times (extents f.order a (chain_of f a (home f key))) i + times (extents f.order a (free_of f a)) i + times (hand_extents own) i

-- A turn on a key, of a command that has these hands, failed, and led from image a to image b. At most bytes of these
-- changed: the heads of the key's chain and of the free list, the records of both, and the hands. So each byte of the
-- header, of the undo area, of all other chains and of others' hands is as it was. Each chain head of b leads to whole
-- records alone, filed by their keys' hashes, or to none; and no other key lost its value, or has another.
pub record TurnStopped (f : Form) (a b key : List ℕ) (own : List HandPair) : Type 0 where
  pub bytes : (i : ℕ) → i < length a → of_turn f a key own i ≡ 0 → slice_index b i ≡ slice_index a i
  pub only : ChangesOnly f a b (λ k. k ≡ home f key)
  pub filed : IsFiled f b
  pub map : (other : List ℕ) → same_key key other ≡ false → map_of f b other ≡ map_of f a other

-- what a turn from this stage leaves where it fails, whatever the command asks for and whatever other hands are out
abbrev pub Stops : Form → List ℕ → List ℕ → List ℕ → Stage → Type 0
Stops f a b key old = (asked : Asked) (others : List HandPair) → AcceptWith f a (hands_in old ++ others) → Knows f a key asked old → TurnStopped f a b key (hands_in old)

-- A turn that takes a record of so many bytes behind its header leads to a record as the free list gives it, or as it
-- gives it after the file has grown up to the limit. It ends with Full only where neither can be, and says how long the
-- file is and what is needed.
abbrev pub TakesRightly : Form → List ℕ → List ℕ → ℕ → ℕ → Option Place → Next → Type 0
TakesRightly f a b rec_len limit found (Step (Taken place hand)) =
    (place ≡ found) × ((hands : List HandPair) → AcceptWith f a hands → TakenBy f a b (free_of f a) rec_len limit hand)
TakesRightly f a b rec_len limit found (Step _) = ⊥
TakesRightly f a b rec_len limit found (Done (Reply.Full len need)) =
    (len ≡ length a) × (need ≡ 24 + rec_len) × ((hands : List HandPair) → AcceptWith f a hands → NoRoom f a b (free_of f a) rec_len limit)
TakesRightly f a b rec_len limit found (Done reply) = reply ≡ Reply.Memory

-- A turn that links a new record in place of the old one leads to the old record as a hand, or to the end where there
-- was none.
abbrev pub LinkedOver : Form → List ℕ → HandPair → Option Place → Next → Type 0
LinkedOver f a hand None next = (others : List HandPair) → AcceptWith f a (hand ∷ others) → next ≡ Step Ending
LinkedOver f a hand (Some place) next = (others : List HandPair) → AcceptWith f a (hand ∷ others) → next ≡ Step (Changed (hand_at place))

-- The old record is marked as dead exactly where a cursor stands on it; else it is a hand then, where there was one.
abbrev pub LinksRightly : Form → List ℕ → HandPair → List ℕ → Option Place → Next → Type 0
LinksRightly f a hand stood_on None next = (others : List HandPair) → AcceptWith f a (hand ∷ others) → next ≡ Step Ending
LinksRightly f a hand stood_on (Some place) next = (key : List ℕ) (others : List HandPair) → AcceptWith f a (hand ∷ others) → HoldsKey f a key place
    → (Contains stood_on place.off × (next ≡ Step Ending)) ⊎ ((Contains stood_on place.off → ⊥) × (next ≡ Step (Changed (hand_at place))))

-- A store updates the record that it found where it stands exactly where the value fits, and else goes on with what it
-- found, in the same image.
abbrev pub UpdatesRightly : List ℕ → List ℕ → ℕ → Option Place → Next → Type 0
UpdatesRightly a b n None (Step stage) = (stage ≡ Looked None) × (b ≡ a)
UpdatesRightly a b n (Some place) (Step stage) = (stage ≡ Looked (Some place)) × (place.rec.rec_len < place.rec.key_len + n + 4) × (b ≡ a)
UpdatesRightly a b n None (Done Reply.Ok) = ⊥
UpdatesRightly a b n (Some place) (Done Reply.Ok) = place.rec.key_len + n + 4 ≤ place.rec.rec_len
UpdatesRightly a b n place _ = Unit {0}

-- A delete marks the record that it found as dead exactly where a cursor stands on it, and else goes on with it.
abbrev pub MarksRightly : List ℕ → Option Place → Next → Type 0
MarksRightly stood_on None (Step stage) = ⊥
MarksRightly stood_on (Some place) (Step stage) = (stage ≡ Looked (Some place)) × (Contains stood_on place.off → ⊥)
MarksRightly stood_on None (Done Reply.Ok) = ⊥
MarksRightly stood_on (Some place) (Done Reply.Ok) = Contains stood_on place.off
MarksRightly stood_on place _ = Unit {0}

-- what a look finds in an accepted image, and that the turn goes on rightly from there
abbrev pub Finds : Form → List ℕ → List ℕ → (Option Place → Type 0) → Type 0
Finds f a key Rightly = (others : List HandPair) → AcceptWith f a others → (place : Option Place) × IsFound f a key place × Rightly place

-- A turn that gives the old record back makes of the free list what a give makes of it.
abbrev pub GivesRightly : Form → List ℕ → List ℕ → HandPair → Next → Type 0
GivesRightly f a b hand next = (next ≡ Step Ending) × ((others : List HandPair) → AcceptWith f a (hand ∷ others) → GivenBack f a b hand others)

-- The turns of a delete, in their order: after the lock of the chain the look, after that of the free list the
-- unlinking, then the give, and the end.
abbrev pub DeletesRightly : Form → List ℕ → List ℕ → List ℕ → List ℕ → Stage → Next → Type 0
DeletesRightly f a b key stood_on Begun next = next ≡ Step Chained
DeletesRightly f a b key stood_on Chained next = Finds f a key (λ place. MarksRightly stood_on place next)
DeletesRightly f a b key stood_on (Looked found) next = next ≡ Step (Listed found)
DeletesRightly f a b key stood_on (Listed (Some place)) next = (next ≡ Done Reply.Memory) ⊎ (next ≡ Step (Changed (hand_at place)))
DeletesRightly f a b key stood_on (Listed None) next = ⊥
DeletesRightly f a b key stood_on (Taken found hand) next = ⊥
DeletesRightly f a b key stood_on (Changed hand) next = GivesRightly f a b hand next
DeletesRightly f a b key stood_on (Wiping stage) next = ⊥
DeletesRightly f a b key stood_on Ending next = next ≡ Done Reply.Ok

-- The turns of a store, in their order: after the lock of the chain the look, after that of the free list the take and
-- the link, then the give where an old record was taken out, and the end.
abbrev pub StoresRightly : Form → List ℕ → List ℕ → List ℕ → ℕ → ℕ → ℕ → List ℕ → Stage → Next → Type 0
StoresRightly f a b key value_len rec_len limit stood_on Begun next = next ≡ Step Chained
StoresRightly f a b key value_len rec_len limit stood_on Chained next = Finds f a key (λ place. UpdatesRightly a b value_len place next)
StoresRightly f a b key value_len rec_len limit stood_on (Looked found) next = next ≡ Step (Listed found)
StoresRightly f a b key value_len rec_len limit stood_on (Listed found) next = TakesRightly f a b rec_len limit found next
StoresRightly f a b key value_len rec_len limit stood_on (Taken found hand) next = LinksRightly f a hand stood_on found next
StoresRightly f a b key value_len rec_len limit stood_on (Changed hand) next = GivesRightly f a b hand next
StoresRightly f a b key value_len rec_len limit stood_on (Wiping stage) next = ⊥
StoresRightly f a b key value_len rec_len limit stood_on Ending next = next ≡ Done Reply.Ok

-- The turns of an append that has joined these bytes, or none: those of a store of what the key has, and the rest
-- behind it.
abbrev pub AppendsRightly : Form → List ℕ → List ℕ → List ℕ → List ℕ → Option (List ℕ) → ℕ → List ℕ → Stage → Next → Type 0
AppendsRightly f a b key more whole limit stood_on stage next = IsJoined f a key more whole stage
    → StoresRightly f a b key (length (joined (map_of f a key) more)) (rec_len_for (length key) (length (joined (map_of f a key) more))) limit stood_on stage next

-- the turns of a command that only looks: after the lock of the chain the look, which ends it
abbrev pub LooksRightly : Stage → Next → Type 0
LooksRightly Begun next = next ≡ Step Chained
LooksRightly _ next = IsEnd next

-- A turn of an append makes of an image what the append asks for, and the append has the bytes that it writes then.
-- What it has joined is `was` before the turn, and `now` after it.
pub record AppendMade (f : Form) (a b key more : List ℕ) (now : Option (List ℕ)) (old : Stage) (next : Next) (others : List HandPair) : Type 0 where
  pub made : TurnMade f a b key (appends more) old next others
  pub has_joined : JoinedAfter f b key more now next

abbrev pub AppendMakes : Form → List ℕ → List ℕ → List ℕ → List ℕ → Option (List ℕ) → Option (List ℕ) → Stage → Next → Type 0
AppendMakes f a b key more was now old next =
    (others : List HandPair) → AcceptWith f a (hands_in old ++ others) → Knows f a key (appends more) old → IsJoined f a key more was old → AppendMade f a b key more now old next others

-- The map after a turn of a wipe: only the turn that makes the change changes it, and then each key has what a wipe
-- leaves there.
abbrev pub MapWiped : Bool → Bool → Form → List ℕ → List ℕ → Type 0
MapWiped false true f a b = (key : List ℕ) → map_of f b key ≡ wipes.left (map_of f a key)
MapWiped _ _ f a b = (key : List ℕ) → map_of f b key ≡ map_of f a key

-- A turn of a wipe led from image a to image b, where other hands are out that stay as they are. The new image is
-- accepted with them. Any chain may have changed, but only while all are locked. The sequence number stays.
pub record WipeMade (f : Form) (a b : List ℕ) (old : Stage) (next : Next) (others : List HandPair) : Type 0 where
  pub accepted : AcceptWith f b (hands_after next ++ others)
  pub only : ChangesOnly f a b (λ k. HoldsChain old)
  pub map : MapWiped (is_changed old) (is_changed_after next) f a b
  pub number : number_of f b ≡ number_of f a

-- what such a turn makes of an image, for whatever other hands may be out
abbrev pub WipeMakes : Form → List ℕ → List ℕ → Stage → Next → Type 0
WipeMakes f a b old next = (others : List HandPair) → MayBeOut old others → AcceptWith f a (hands_in old ++ others) → WipeMade f a b old next others

-- after both locks an image without hands is wiped, unless that ends the command
abbrev pub WipesRightly : Form → List ℕ → List ℕ → Stage → Next → Type 0
WipesRightly f a b (Wiping FreeList) (Step stage) = AcceptWith f a [] → Wiped f a b
WipesRightly f a b stage next = b ≡ a

-- What a command knows between two of its turns it still knows after any change that leaves the chain of its key: so it
-- does after the turns of other openers, since it has that chain locked.
abbrev pub KnowledgeStays : Type 0
KnowledgeStays =
    (f : Form) (a b key : List ℕ) (asked : Asked) (stage : Stage) (hands news : List HandPair) → AcceptWith f a hands → AcceptWith f b news → length a ≤ length b
    → ChainStays f a b (home f key) → Knows f a key asked stage → Knows f b key asked stage
