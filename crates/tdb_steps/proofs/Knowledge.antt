-- What a command knows of its key stays so where the chain of the key does.
use Rattle.std.proofs.Common.{◌≡◌, ℕ, ◌≤◌, List, length, Option, sym, ◌∙◌, ap, subst}
use Rattle.tdb_space.specs.Form.{Form}
use Rattle.tdb_space.specs.Pairs.{map_of, home}
use Rattle.tdb_space.specs.Extents.{HandPair}
use Rattle.tdb_space.specs.Accepted.{AcceptWith}
use Rattle.tdb_space.specs.Stays.{ChainStays}
use Rattle.tdb_space.proofs.Stays.Changes.{map_stays}
use Rattle.tdb_chain.specs.declared.place.Place.{Place}
use Rattle.tdb_chain.proofs.PlaceStays.{found_stays}
use Rattle.tdb_steps.specs.declared.stage.Stage.{Stage}
use Rattle.tdb_steps.specs.Asked.{Asked, joined}
use Rattle.tdb_steps.specs.declared.plain.Plain.{Plain}
use Rattle.tdb_steps.specs.declared.plain.Plain.TheVariants.{Fetch, Has, Store, Append, Delete, Wipe}
use Rattle.tdb_steps.specs.Stages.{IsKnown, IsTooShort, IsJoined}
use Rattle.tdb_steps.specs.Turns.{KnowledgeStays}
use Rattle.tdb_steps.specs.PlainCommands.{key_of, asked_of}
use Rattle.tdb_steps.specs.Machines.{CantUpdate, WantsRecord, MachineKnowledgeStays}

known_stays : (f : Form) (a b key : List ℕ) (asked : Asked) (place : Option Place) (hands news : List HandPair) → AcceptWith f a hands → AcceptWith f b news → length a ≤ length b → ChainStays f a b (home f key) → IsKnown f a key asked place → IsKnown f b key asked place
known_stays f a b key asked place hands news A B longer S known = record {
  found = found_stays f a b hands A longer news B key S place known.found;
  granted = ap asked.reply (map_stays f a b hands news key A B longer S) ∙ known.granted;
}

pub knowledge_stays : KnowledgeStays
knowledge_stays f a b key asked Stage.Begun hands news A B longer S known = tt
knowledge_stays f a b key asked Stage.Chained hands news A B longer S known = tt
knowledge_stays f a b key asked (Stage.Looked place) hands news A B longer S known = known_stays f a b key asked place hands news A B longer S known
knowledge_stays f a b key asked (Stage.Listed place) hands news A B longer S known = known_stays f a b key asked place hands news A B longer S known
knowledge_stays f a b key asked (Stage.Taken place hand) hands news A B longer S known = known_stays f a b key asked place hands news A B longer S known
knowledge_stays f a b key asked (Stage.Changed hand) hands news A B longer S known = tt
knowledge_stays f a b key asked (Stage.Wiping locked) hands news A B longer S known = tt
knowledge_stays f a b key asked Stage.Ending hands news A B longer S known = tt

-- so do the bytes that an append has joined
joined_stays : (f : Form) (a b key more : List ℕ) (whole : Option (List ℕ)) (stage : Stage) → map_of f b key ≡ map_of f a key → IsJoined f a key more whole stage → IsJoined f b key more whole stage
joined_stays f a b key more whole Stage.Begun same J = tt
joined_stays f a b key more whole Stage.Chained same J = tt
joined_stays f a b key more whole (Stage.Looked place) same J = J ∙ ap (λ v. joined v more) (sym same)
joined_stays f a b key more whole (Stage.Listed place) same J = J ∙ ap (λ v. joined v more) (sym same)
joined_stays f a b key more whole (Stage.Taken place hand) same J = J ∙ ap (λ v. joined v more) (sym same)
joined_stays f a b key more whole (Stage.Changed hand) same J = tt
joined_stays f a b key more whole (Stage.Wiping locked) same J = tt
joined_stays f a b key more whole Stage.Ending same J = tt

-- and what it has found is still too short
short_stays : (f : Form) (a b : List ℕ) (command : Plain) (found : Option Place) → map_of f b (key_of command) ≡ map_of f a (key_of command) → CantUpdate f a command found → CantUpdate f b command found
short_stays f a b (Fetch key) found same short = tt
short_stays f a b (Has key) found same short = tt
short_stays f a b (Store key value flag) found same short = short
short_stays f a b (Append key more) found same short = subst (λ v. IsTooShort (length (joined v more)) found) (sym same) short
short_stays f a b (Delete key) found same short = tt
short_stays f a b Wipe found same short = tt

wants_stays : (f : Form) (a b : List ℕ) (command : Plain) (stage : Stage) → map_of f b (key_of command) ≡ map_of f a (key_of command) → WantsRecord f a command stage → WantsRecord f b command stage
wants_stays f a b command Stage.Begun same short = tt
wants_stays f a b command Stage.Chained same short = tt
wants_stays f a b command (Stage.Looked place) same short = short_stays f a b command place same short
wants_stays f a b command (Stage.Listed place) same short = short_stays f a b command place same short
wants_stays f a b command (Stage.Taken place hand) same short = tt
wants_stays f a b command (Stage.Changed hand) same short = tt
wants_stays f a b command (Stage.Wiping locked) same short = tt
wants_stays f a b command Stage.Ending same short = tt

pub machine_knowledge_stays : MachineKnowledgeStays
machine_knowledge_stays f a b d hands news A B longer S K = record {
  found = knowledge_stays f a b (key_of d.command) (asked_of d.command) d.stage hands news A B longer S K.found;
  wants = wants_stays f a b d.command d.stage (map_stays f a b hands news (key_of d.command) A B longer S) K.wants;
  joined = λ key value is. joined_stays f a b key value d.whole d.stage (map_stays f a b hands news key A B longer (subst (λ k. ChainStays f a b (home f k)) (ap key_of is) S)) (K.joined key value is);
}
