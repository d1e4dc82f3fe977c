-- From its look to its take, what a store or an append has found is too short for its value.
use Rattle.std.proofs.Common.{◌≡◌, ℕ, ◌++◌, List, length, Bool, true, false, Option, None, Some, refl, sym, subst}
use Rattle.tdb_space.specs.Form.{Form}
use Rattle.tdb_space.specs.Pairs.{map_of}
use Rattle.tdb_space.specs.NewRecord.{rec_len_for}
use Rattle.tdb_space.specs.Extents.{HandPair}
use Rattle.tdb_space.specs.Accepted.{AcceptWith}
use Rattle.tdb_chain.specs.declared.place.Place.{Place}
use Rattle.tdb_steps.specs.declared.plain.Plain.{Plain}
use Rattle.tdb_steps.specs.declared.plain.Plain.TheVariants.{Fetch, Has, Store, Append, Delete, Wipe}
use Rattle.tdb_steps.specs.declared.stage.Stage.{Stage}
use Rattle.tdb_steps.specs.declared.stage.Stage.TheVariants.{Begun, Chained, Looked, Listed, Taken, Changed, Wiping, Ending}
use Rattle.tdb_steps.specs.declared.stage.Next.{Next}
use Rattle.tdb_steps.specs.Asked.{Asked, appends, joined}
use Rattle.tdb_steps.specs.Stages.{hands_in, is_changed, first_stage, Knows, IsTooShort}
use Rattle.tdb_steps.specs.Turns.{MapBy, UpdatesRightly, StoresRightly}
use Rattle.tdb_steps.specs.Order.{StoreOrder, InOrder}
use Rattle.tdb_steps.specs.PlainCommands.{key_of, asked_of}
use Rattle.tdb_steps.specs.Machines.{HasJoined, CantUpdate, WantsRecord, CommandMakes, CommandRightly}
use Rattle.tdb_steps.proofs.Cases.{takes_case, links_case}
use Rattle.tdb_steps.proofs.Cases.TakesCase.{take_on, take_full, take_starves}
use Rattle.tdb_steps.proofs.Cases.LinksCase.{link_over, link_ends}

stepped : {x y : Stage} → Next.Step x ≡ Next.Step y → x ≡ y
stepped e = cc

-- the first turn looks at nothing
pub first_wants : (f : Form) (img : List ℕ) (command : Plain) → WantsRecord f img command (first_stage command)
first_wants f img (Fetch key) = tt
first_wants f img (Has key) = tt
first_wants f img (Store key value flag) = tt
first_wants f img (Append key value) = tt
first_wants f img (Delete key) = tt
first_wants f img Wipe = tt

-- what a stage has found is too short for so many bytes
abbrev ShortAt : ℕ → Stage → Type 0
ShortAt n (Looked found) = IsTooShort n found
ShortAt n (Listed found) = IsTooShort n found
ShortAt n stage = Unit {0}

-- a machine wants what its stage does, if nothing has changed
wants_so : (f : Form) (img : List ℕ) (command : Plain) (n : ℕ) (stage : Stage) → ((found : Option Place) → is_changed stage ≡ false → IsTooShort n found → CantUpdate f img command found) → ShortAt n stage → WantsRecord f img command stage
wants_so f img command n Begun short S = tt
wants_so f img command n Chained short S = tt
wants_so f img command n (Looked found) short S = short found refl S
wants_so f img command n (Listed found) short S = short found refl S
wants_so f img command n (Taken found hand) short S = tt
wants_so f img command n (Changed hand) short S = tt
wants_so f img command n (Wiping locked) short S = tt
wants_so f img command n Ending short S = tt

-- a command that takes no record wants none
wants_none : (f : Form) (img : List ℕ) (command : Plain) → ((found : Option Place) → CantUpdate f img command found) → (stage : Stage) → WantsRecord f img command stage
wants_none f img command none Begun = tt
wants_none f img command none Chained = tt
wants_none f img command none (Looked found) = none found
wants_none f img command none (Listed found) = none found
wants_none f img command none (Taken found hand) = tt
wants_none f img command none (Changed hand) = tt
wants_none f img command none (Wiping locked) = tt
wants_none f img command none Ending = tt

module _ (f : Form) (a m : List ℕ) (limit : ℕ) (stood_on : List ℕ) (others : List HandPair) where
  -- a step of a store
  found_short : (n : ℕ) (place : Option Place) (onto : Stage) → UpdatesRightly a m n place (Next.Step onto) → ShortAt n onto
  found_short n None onto U = subst (ShortAt n) (sym U.0) tt
  found_short n (Some place) onto U = subst (ShortAt n) (sym U.0) U.1

  store_short : (key : List ℕ) (n rec_len : ℕ) (stage onto : Stage) → StoreOrder stage (Next.Step onto) → AcceptWith f a (hands_in stage ++ others)
      → StoresRightly f a m key n rec_len limit stood_on stage (Next.Step onto) → ShortAt n stage → ShortAt n onto
  store_short key n rec_len Begun onto order A R S = subst (ShortAt n) (sym (stepped order)) tt
  store_short key n rec_len Chained onto order A R S = let F = R others A in found_short n F.0 onto F.2
  store_short key n rec_len (Looked found) onto order A R S = subst (ShortAt n) (sym (stepped order)) S
  store_short key n rec_len (Listed found) onto order A R S = elim (takes_case (Next.Step onto) order) [
    | take_on place hand is ↦ subst (ShortAt n) (sym (stepped is)) tt
    | take_full len need is ↦ absurd (cc is)
    | take_starves is ↦ absurd (cc is)
  ]
  store_short key n rec_len (Taken found hand) onto order A R S = elim (links_case (Next.Step onto) order) [
    | link_over hand is ↦ subst (ShortAt n) (sym (stepped is)) tt
    | link_ends is ↦ subst (ShortAt n) (sym (stepped is)) tt
  ]
  store_short key n rec_len (Changed hand) onto order A R S = subst (ShortAt n) (sym (stepped order)) tt
  store_short key n rec_len (Wiping locked) onto order A R S = elim order [ ]
  store_short key n rec_len Ending onto order A R S = absurd (cc order)

  -- what a machine wants is what its stage has found too little for
  stored_short : (command : Plain) (n : ℕ) → ((found : Option Place) → CantUpdate f a command found → IsTooShort n found) → (stage : Stage) → WantsRecord f a command stage → ShortAt n stage
  stored_short command n short Begun W = tt
  stored_short command n short Chained W = tt
  stored_short command n short (Looked found) W = short found W
  stored_short command n short (Listed found) W = short found W
  stored_short command n short (Taken found hand) W = tt
  stored_short command n short (Changed hand) W = tt
  stored_short command n short (Wiping locked) W = tt
  stored_short command n short Ending W = tt

  -- the map stays where nothing has changed after a turn
  map_same : (key : List ℕ) (asked : Asked) (was now : Bool) → now ≡ false → MapBy was now f a m key asked → map_of f m key ≡ map_of f a key
  map_same key asked true true yet M = absurd (cc yet)
  map_same key asked true false yet M = M key
  map_same key asked false true yet M = absurd (cc yet)
  map_same key asked false false yet M = M key

  -- a step of any command
  pub wants_on : (command : Plain) (was whole : Option (List ℕ)) (stage onto : Stage) → InOrder command stage (Next.Step onto) → AcceptWith f a (hands_in stage ++ others)
      → Knows f a (key_of command) (asked_of command) stage → HasJoined f a command was stage → CommandMakes f a m command was whole stage (Next.Step onto)
      → CommandRightly f a m command was limit stood_on stage (Next.Step onto) → WantsRecord f a command stage → WantsRecord f m command onto
  wants_on (Fetch key) was whole stage onto order A K J made R W = wants_none f m (Fetch key) (λ found. tt) onto
  wants_on (Has key) was whole stage onto order A K J made R W = wants_none f m (Has key) (λ found. tt) onto
  wants_on (Store key value flag) was whole stage onto order A K J made R W =
      wants_so f m (Store key value flag) (length value) onto (λ found yet short. short)
      (store_short key (length value) (rec_len_for (length key) (length value)) stage onto order A R (stored_short (Store key value flag) (length value) (λ found short. short) stage W))
  wants_on (Append key more) was whole stage onto order A K J made R W =
      let n = length (joined (map_of f a key) more) in
      let T = made others A K (J key more refl) in
      wants_so f m (Append key more) n onto
      (λ found yet short. subst (λ v. IsTooShort (length (joined v more)) found) (sym (map_same key (appends more) (is_changed stage) (is_changed onto) yet T.made.map)) short)
      (store_short key n (rec_len_for (length key) n) stage onto order A (R (J key more refl)) (stored_short (Append key more) n (λ found short. short) stage W))
  wants_on (Delete key) was whole stage onto order A K J made R W = wants_none f m (Delete key) (λ found. tt) onto
  wants_on Wipe was whole stage onto order A K J made R W = wants_none f m Wipe (λ found. tt) onto
