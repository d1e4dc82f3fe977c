-- A merge from its beginning to its end.
use Rattle.std.proofs.Common.{◌≡◌, ℕ, List, [], Result, Ok, Err, refl, sym, ◌∙◌, ap, subst, inl, inr}
use Rattle.std.specs.Prelude.{◌⊎◌, Bool, IsTrue, OnOk, nat_eq}
use Rattle.std.specs.FinMap.{get}
use Rattle.std.specs.List.{IsDistinct, starts_with}
use Rattle.std.specs.Map.{keys_of, lookup}
use Rattle.std.specs.Option.{option_or}
use Rattle.std.proofs.lemmas.Map.Made.{IsDistinct-keys_filter}
use Rattle.tdb_disk.specs.History.{History, seen}
use Rattle.tdb_disk.specs.Stop.{Quiet}
use Rattle.tdb_disk.proofs.Runs.{leaves_weaker}
use Rattle.tdb_space.specs.Accepted.{AcceptWith}
use Rattle.tdb_space.specs.Extents.{HandPair}
use Rattle.tdb_space.specs.Form.{Form, form_in}
use Rattle.tdb_space.specs.Opening.{restored}
use Rattle.tdb_space.specs.Pairs.{map_of, order_of, same_key}
use Rattle.tdb_space.specs.Undoing.{Reopens}
use Rattle.tdb_space.proofs.Opening.Undone.{read_as_it_is}
use Rattle.tdb_space.proofs.Pairs.Orders.{order_distinct}
use Rattle.tdb_space.proofs.Undoing.Alike.{exact_reopens}
use Rattle.tdb_law.specs.Beginning.{beginning}
use Rattle.tdb_law.specs.Images.{image_map}
use Rattle.tdb_law.specs.Openers.{Map}
use Rattle.tdb_law.specs.World.{State}
use Rattle.tdb_law.proofs.HandsOut.{image_answers}
use Rattle.tdb_law.proofs.Plainly.{beginning_lawful}
use Rattle.tdb_commands.specs.InLaw.{options_of}
use Rattle.tdb_rewrite.specs.Rewritten.{chosen}
use Rattle.tdb_world.specs.Loaded.{IsJustLoaded}
use Rattle.tdb_world.specs.OverFile.{OverFile}
use Rattle.tdb_world.specs.Stops.{IsSafe}
use Rattle.tdb_world.specs.Whole.{form_at, options_at}
use Rattle.tdb_merge.specs.Faults.{UnlessDevice}
use Rattle.tdb_merge.specs.Merged.{Holding, IsReadHolding, MergeKeeps, MergeLeaves, Merges, OpensHolding, OpensHoldingEither, StopsHolding, merged}
use Rattle.tdb_world.specs.Calm.{OpensToEither, OpensToMap}
use Rattle.tdb_merge.specs.Parts.{AtRest, Committed, Inside, IsReadWith, Led, Outside, PartLeaves, Ran, stored}
use Rattle.tdb_merge.specs.declared.fault.MergeFault.{MergeFault}
use Rattle.tdb_merge.specs.declared.fault.MergeFault.TheVariants.{Full, Starved, Read, Device, Log, Memory}
use Rattle.tdb_merge.proofs.Parts.{inside_safe, rest_read}
use Rattle.tdb_merge.proofs.Stored.{stored_gives}

-- a file is safe that is accepted, and all of which is on the medium
accepted_safe : (f : Form) (h : History) → AcceptWith f (seen h) [] → Quiet h → IsSafe f h
accepted_safe f h accepted quiet c left =
    let itself : Reopens (seen h) (seen h) = exact_reopens (seen h) (subst (λ g. AcceptWith g (seen h) []) (sym accepted.form) accepted) in
    subst (λ (q : List ℕ × List ℕ). Reopens q.0 q.1) (λ i. (sym (read_as_it_is f (seen h) accepted.shut) i, sym (quiet c left) i)) itself

-- a world that is just loaded is at rest, with the map of its file
pub first_rest : (w : OverFile) (state : State) → IsJustLoaded w.world w.history state → AtRest state.file Outside w
first_rest w state J =
    let f = form_at w.world in
    let options = options_of (options_at w.world) in
    let begun = beginning_lawful f state options J.loaded in
    record {
      state = state;
      has = J.of_world;
      sound = begun.0;
      replay = beginning options state.file state.number;
      stands = begun.1;
      map = refl;
      begun = λ o. refl;
      fresh = refl;
      own = refl;
    }

-- the chosen pairs of an accepted file have different keys
pub chosen_differ : (f : Form) (img : List ℕ) (hands : List HandPair) (prefix : List ℕ) → AcceptWith f img hands → IsDistinct same_key (keys_of (chosen prefix (order_of f img)))
chosen_differ f img hands prefix A = IsDistinct-keys_filter same_key (λ p. starts_with nat_eq p.0 prefix) (order_of f img) (order_distinct f img hands A)

-- from the pairs on it is safe, and so it is when it is done
pub safe_end : (t : Bool) (m n : Map) (a b c : OverFile) (answer : Result (Unit {0}) MergeFault) → IsTrue t → Ran a b (Ok tt) → Led t m n (Inside m) m (Inside n) a b (Ok tt) → Led t m n (Inside n) n Committed b c answer → AtRest m (Inside m) a
    → UnlessDevice answer (IsSafe (form_at a.world) c.history)
safe_end t m n a b c answer tells ran C D R =
    let same : form_at b.world ≡ form_at a.world = ap form_in ran.header in
    let rest = C.left tells R in
    subst (λ f. UnlessDevice answer (IsSafe f c.history)) same (D.safe tells rest (inside_safe m n b rest))

-- so it is said of one that is done, from what a caller knows
pub safe_done : (s t : Bool) (f : Form) (img : List ℕ) (w : OverFile) (P : Type 0) (answer : Result (Unit {0}) MergeFault)
    → (IsTrue s → IsTrue t → (hands : List HandPair) → AcceptWith f img hands → (m : Map) → AtRest m Outside w → UnlessDevice answer P)
    → OnOk answer (IsTrue s → IsTrue t → (hands : List HandPair) → AcceptWith f img hands → (m : Map) → AtRest m Outside w → P)
safe_done s t f img w P (Ok v) safe = safe
safe_done s t f img w P (Err e) safe = tt

-- What maps say of keys, in the words of what is held.
module _ (w v : OverFile) (state : State) (J : IsJustLoaded w.world w.history state) (A : AcceptWith (form_at w.world) (seen w.history) []) (given : List (List ℕ × List ℕ)) (differ : IsDistinct same_key (keys_of given)) where
  abbrev f : Form
  f = form_at w.world

  abbrev before : Holding
  before = map_of f (seen w.history)

  abbrev after : Holding
  after = merged before given

  abbrev n : Map
  n = stored state.file given

  gives_before : (key : List ℕ) → get state.file key ≡ before key
  gives_before key = ap (λ g. get g key) J.over.file ∙ image_answers f (seen w.history) key

  gives_after : (key : List ℕ) → get n key ≡ after key
  gives_after key = stored_gives state.file given differ key ∙ ap (option_or (lookup (same_key key) given)) (gives_before key)

  opens_holding : (m : Map) (held : Holding) → ((key : List ℕ) → get m key ≡ held key) → (c : List ℕ) → OpensToMap f m c → OpensHolding f held c
  opens_holding m held gives c O = record {
    image = O.image;
    reopens = O.reopens;
    holds = λ key. sym (image_answers f O.image key) ∙ ap (λ g. get g key) (sym O.map) ∙ gives key;
  }

  either_holding : (c : List ℕ) → OpensToEither f state.file n c → OpensHoldingEither f before after c
  either_holding c (inl O) = inl (opens_holding state.file before gives_before c O)
  either_holding c (inr O) = inr (opens_holding n after gives_after c O)

  -- the world afterwards has the same header
  module _ (same : v.world.openers.header ≡ w.world.openers.header) where
    form : form_at v.world ≡ f
    form = ap form_in same

    reads : (m : Map) → IsReadWith m v → m ≡ image_map f (restored f (seen v.history))
    reads m read = subst (λ g. m ≡ image_map g (restored g (seen v.history))) form read

    read_holding : (m : Map) (held : Holding) → ((key : List ℕ) → get m key ≡ held key) → IsReadWith m v → IsReadHolding f held (seen v.history)
    read_holding m held gives read key =
        sym (image_answers f (restored f (seen v.history)) key) ∙ ap (λ g. get g key) (sym (reads m read)) ∙ gives key

    either_read : IsReadWith state.file v ⊎ IsReadWith n v → IsReadHolding f before (seen v.history) ⊎ IsReadHolding f after (seen v.history)
    either_read (inl read) = inl (read_holding state.file before gives_before read)
    either_read (inr read) = inr (read_holding n after gives_after read)

    -- a safe one opens to what it is read as
    stops_holding : (m : Map) (held : Holding) → ((key : List ℕ) → get m key ≡ held key) → IsReadWith m v → IsSafe f v.history → StopsHolding f held v.history
    stops_holding m held gives read safe c left = opens_holding m held gives c (record { image = restored f (seen v.history); reopens = safe c left; map = reads m read })

  -- what it leaves
  left_by : (answer : Result (Unit {0}) MergeFault) → UnlessDevice answer (v.world.openers.header ≡ w.world.openers.header) → PartLeaves state.file n (AtRest n Committed v) v answer → OnOk answer (IsSafe f v.history)
      → MergeLeaves f before after v.history answer
  left_by (Ok u) same left safe = stops_holding same n after gives_after (rest_read n Committed v left) safe
  left_by (Err (Full len need)) same left safe = read_holding same state.file before gives_before left
  left_by (Err Starved) same left safe = read_holding same state.file before gives_before left
  left_by (Err Read) same left safe = read_holding same state.file before gives_before left
  left_by (Err Device) same left safe = tt
  left_by (Err Log) same left safe = either_read same left
  left_by (Err Memory) same left safe = either_read same left

  kept_by : (answer : Result (Unit {0}) MergeFault) → UnlessDevice answer (v.world.openers.header ≡ w.world.openers.header) → PartLeaves state.file n (AtRest n Committed v) v answer → UnlessDevice answer (IsSafe f v.history)
      → MergeKeeps f before v.history answer
  kept_by (Ok u) same left safe = tt
  kept_by (Err (Full len need)) same left safe = stops_holding same state.file before gives_before left safe
  kept_by (Err Starved) same left safe = stops_holding same state.file before gives_before left safe
  kept_by (Err Read) same left safe = stops_holding same state.file before gives_before left safe
  kept_by (Err Device) same left safe = tt
  kept_by (Err Log) same left safe = tt
  kept_by (Err Memory) same left safe = tt

  pub merges : (t : Bool) (answer : Result (Unit {0}) MergeFault) → IsTrue t → Ran w v answer → Led t state.file n Outside n Committed w v answer → OnOk answer (IsSafe f v.history) → Merges f given w.history v.history answer
  merges t answer tells ran led safe =
      let R = first_rest w state J in
      record {
        left = left_by answer ran.header (led.left tells R) safe;
        stops = λ quiet. leaves_weaker w.history v.history (OpensToEither f state.file n) (OpensHoldingEither f before after) either_holding (led.stops tells R (accepted_safe f w.history A quiet));
        kept = λ quiet. kept_by answer ran.header (led.left tells R) (led.safe tells R (accepted_safe f w.history A quiet));
      }
