-- A turn of any command, in the words of a world.
use Rattle.std.proofs.Common.{◌≡◌, ℕ, ◌+◌, ◌≤◌, inl, inr, List, [], ◌++◌, Option, None, refl, sym, ◌∙◌, ap, subst, arith, nat_le, false}
use Rattle.std.specs.FinMap.{get-empty}
use Rattle.tdb_space.specs.Form.{Form}
use Rattle.tdb_space.specs.Pairs.{map_of, home}
use Rattle.tdb_space.specs.Extents.{HandPair}
use Rattle.tdb_space.specs.Accepted.{AcceptWith}
use Rattle.tdb_space.specs.Stays.{ChangesOnly}
use Rattle.tdb_space.proofs.Stays.Changes.{changes_weaker}
use Rattle.tdb_locks.specs.declared.turn.Reply.{Reply}
use Rattle.tdb_law.specs.Commands as Law
use Rattle.tdb_law.specs.Openers.{Map}
use Rattle.tdb_law.specs.MapCommands.{after}
use Rattle.tdb_steps.specs.declared.plain.Plain.{Plain}
use Rattle.tdb_steps.specs.declared.plain.Plain.TheVariants.{Fetch, Has, Store, Append, Delete, Wipe}
use Rattle.tdb_steps.specs.declared.stage.Stage.{Stage}
use Rattle.tdb_steps.specs.declared.stage.WipeStage.TheVariants as Wipes
use Rattle.tdb_steps.specs.declared.stage.Next.{Next}
use Rattle.tdb_steps.specs.Asked.{wipes}
use Rattle.tdb_steps.specs.Stages.{hands_in, hands_after, MayBeOut, HoldsChain, Knows, KnowsAfter, IsJoined, JoinedAfter, Leads}
use Rattle.tdb_steps.specs.Turns.{number_of, TurnMade, WipeMade}
use Rattle.tdb_steps.specs.Walks.{KeepsWalks}
use Rattle.tdb_steps.specs.Order.{InOrder, WipeOrder, LookAfter, StoreAfter, DeleteAfter, WipeAfter, IsAfter}
use Rattle.tdb_steps.specs.PlainCommands.{IsKeyed, key_of, asked_of, command_of, IsMapOf}
use Rattle.tdb_steps.specs.Machines.{HasJoined, CommandMakes, IsOn, MapTurned}
use Rattle.tdb_steps.specs.Machines.MapTurned.{map_goes_on, map_changes, map_starves, map_finishes}
use Rattle.tdb_steps.proofs.Lawful.{next_turn, map_turned}

-- the chain of the key, or all chains, are held from the second turn on
look_late : (n : ℕ) (stage : Stage) → LookAfter stage n → HoldsChain stage → 1 ≤ n
look_late n Stage.Begun is holds = elim holds [ ]
look_late n Stage.Chained is holds = omega (arith, is)
look_late n (Stage.Looked found) is holds = elim is [ ]
look_late n (Stage.Listed found) is holds = elim is [ ]
look_late n (Stage.Taken found hand) is holds = elim is [ ]
look_late n (Stage.Changed hand) is holds = elim is [ ]
look_late n (Stage.Wiping locked) is holds = elim is [ ]
look_late n Stage.Ending is holds = elim is [ ]

store_late : (n : ℕ) (stage : Stage) → StoreAfter stage n → HoldsChain stage → 1 ≤ n
store_late n Stage.Begun is holds = elim holds [ ]
store_late n Stage.Chained is holds = omega (arith, is)
store_late n (Stage.Looked found) is holds = omega (arith, is)
store_late n (Stage.Listed found) is holds = omega (arith, is)
store_late n (Stage.Taken found hand) is holds = omega (arith, is)
store_late n (Stage.Changed hand) is holds = omega (arith, is)
store_late n (Stage.Wiping locked) is holds = elim is [ ]
store_late n Stage.Ending is holds = elim is [ inl five ↦ omega (arith, five) | inr six ↦ omega (arith, six) ]

delete_late : (n : ℕ) (stage : Stage) → DeleteAfter stage n → HoldsChain stage → 1 ≤ n
delete_late n Stage.Begun is holds = elim holds [ ]
delete_late n Stage.Chained is holds = omega (arith, is)
delete_late n (Stage.Looked found) is holds = omega (arith, is)
delete_late n (Stage.Listed found) is holds = omega (arith, is)
delete_late n (Stage.Taken found hand) is holds = elim is [ ]
delete_late n (Stage.Changed hand) is holds = omega (arith, is)
delete_late n (Stage.Wiping locked) is holds = elim is [ ]
delete_late n Stage.Ending is holds = omega (arith, is)

wipe_late : (n : ℕ) (stage : Stage) → WipeAfter stage n → HoldsChain stage → 1 ≤ n
wipe_late n Stage.Begun is holds = elim holds [ ]
wipe_late n Stage.Chained is holds = elim is [ ]
wipe_late n (Stage.Looked found) is holds = elim is [ ]
wipe_late n (Stage.Listed found) is holds = elim is [ ]
wipe_late n (Stage.Taken found hand) is holds = elim is [ ]
wipe_late n (Stage.Changed hand) is holds = elim is [ ]
wipe_late n (Stage.Wiping Wipes.Records) is holds = omega (arith, is)
wipe_late n (Stage.Wiping Wipes.FreeList) is holds = omega (arith, is)
wipe_late n Stage.Ending is holds = omega (arith, is)

held_late : (command : Plain) (n : ℕ) (stage : Stage) → IsAfter command stage n → HoldsChain stage → 1 ≤ n
held_late (Fetch k) n stage is holds = look_late n stage is holds
held_late (Has k) n stage is holds = look_late n stage is holds
held_late (Store k v flag) n stage is holds = store_late n stage is holds
held_late (Append k v) n stage is holds = store_late n stage is holds
held_late (Delete k) n stage is holds = delete_late n stage is holds
held_late Wipe n stage is holds = wipe_late n stage is holds

-- what a turn of a command that has had n steps, and has joined these bytes after it, makes of an image
pub record CommandMade (f : Form) (a b : List ℕ) (command : Plain) (whole : Option (List ℕ)) (n : ℕ) (stage : Stage) (next : Next) (others : List HandPair) : Type 0 where
  pub accepted : AcceptWith f b (hands_after next ++ others)
  pub knows : KnowsAfter f b (key_of command) (asked_of command) next
  pub joined : Leads (HasJoined f b command whole) next
  pub only : ChangesOnly f a b (λ k. IsOn f command k × (1 ≤ n))
  pub map : (m : Map) → IsMapOf f a m → MapTurned f b (command_of command) n m (next_turn next)
  pub number : number_of f b ≡ number_of f a
  pub walks : IsKeyed command → KeepsWalks f a b (key_of command) stage next

on_key : (command : Plain) → IsKeyed command → (f : Form) (k : ℕ) → k ≡ home f (key_of command) → IsOn f command k
on_key (Fetch key) keyed f k at_home = at_home
on_key (Has key) keyed f k at_home = at_home
on_key (Store key v flag) keyed f k at_home = at_home
on_key (Append key v) keyed f k at_home = at_home
on_key (Delete key) keyed f k at_home = at_home
on_key Wipe keyed f k at_home = elim keyed [ ]

-- only an append joins bytes
none_joined : (f : Form) (b : List ℕ) (command : Plain) (whole : Option (List ℕ)) (next : Next) → ((key value : List ℕ) → command ≡ Append key value → ⊥) → Leads (HasJoined f b command whole) next
none_joined f b command whole (Next.Step stage) never = λ key value is. absurd (never key value is)
none_joined f b command whole (Next.Done r) never = tt

has_joined : (f : Form) (b k v : List ℕ) (whole : Option (List ℕ)) (next : Next) → JoinedAfter f b k v whole next → Leads (HasJoined f b (Append k v) whole) next
has_joined f b k v whole (Next.Step stage) J = λ key value is.
    let same_key : k ≡ key = cc in
    let same_value : v ≡ value = cc in
    subst (λ x. IsJoined f b x value whole stage) same_key (subst (λ y. IsJoined f b k y whole stage) same_value J)
has_joined f b k v whole (Next.Done r) J = tt

-- a turn of a command that is on a key
keyed_made : (command : Plain) → IsKeyed command → (f : Form) (a b : List ℕ) (whole : Option (List ℕ)) (n : ℕ) (stage : Stage) (next : Next) (others : List HandPair) → IsAfter command stage n → InOrder command stage next → Knows f a (key_of command) (asked_of command) stage
    → Leads (HasJoined f b command whole) next → TurnMade f a b (key_of command) (asked_of command) stage next others → CommandMade f a b command whole n stage next others
keyed_made command keyed f a b whole n stage next others is order K J T = record {
  accepted = T.accepted;
  knows = T.knows;
  joined = J;
  only = changes_weaker f a b (λ k. (k ≡ home f (key_of command)) × HoldsChain stage) (λ k. IsOn f command k × (1 ≤ n)) (λ k both. (on_key command keyed f k both.0, held_late command n stage is both.1)) T.only;
  map = λ m M. map_turned command keyed f a b stage next n m others M is order K T;
  number = T.number;
  walks = λ on. T.walks;
}

-- a turn of a wipe
wipe_knows : (f : Form) (b : List ℕ) (stage : Stage) (next : Next) → WipeOrder stage next → KnowsAfter f b [] wipes next
wipe_knows f b Stage.Begun next order = subst (KnowsAfter f b [] wipes) (sym order) tt
wipe_knows f b Stage.Chained next order = elim order [ ]
wipe_knows f b (Stage.Looked found) next order = elim order [ ]
wipe_knows f b (Stage.Listed found) next order = elim order [ ]
wipe_knows f b (Stage.Taken found hand) next order = elim order [ ]
wipe_knows f b (Stage.Changed hand) next order = elim order [ ]
wipe_knows f b (Stage.Wiping Wipes.Records) next order = subst (KnowsAfter f b [] wipes) (sym order) tt
wipe_knows f b (Stage.Wiping Wipes.FreeList) next order = elim order [ inl led ↦ subst (KnowsAfter f b [] wipes) (sym led) tt | inr starved ↦ subst (KnowsAfter f b [] wipes) (sym starved) tt ]
wipe_knows f b Stage.Ending next order = subst (KnowsAfter f b [] wipes) (sym order) tt

module _ (f : Form) (a b : List ℕ) (n : ℕ) (m : Map) (M : IsMapOf f a m) (others : List HandPair) where
  led_to : (stage : Stage) (next then : Next) → next ≡ then → WipeMade f a b stage next others → (WipeMade f a b stage then others → MapTurned f b Law.MapCommand.Wipe n m (next_turn then)) → MapTurned f b Law.MapCommand.Wipe n m (next_turn next)
  led_to stage next then is T turned = subst (λ x. MapTurned f b Law.MapCommand.Wipe n m (next_turn x)) (sym is) (turned (subst (λ x. WipeMade f a b stage x others) is T))

  same_map : ((key : List ℕ) → map_of f b key ≡ map_of f a key) → IsMapOf f b m
  same_map same k = M k ∙ sym (same k)

  no_map : ((key : List ℕ) → map_of f b key ≡ None) → IsMapOf f b (after Law.MapCommand.Wipe m)
  no_map none k = get-empty _ k ∙ sym (none k)

  before : (k : ℕ) → n ≡ k → nat_le 3 k ≡ false → nat_le 3 n ≡ false
  before k is early = ap (nat_le 3) is ∙ early

  wipe_turned : (stage : Stage) (next : Next) → WipeAfter stage n → WipeOrder stage next → WipeMade f a b stage next others → MapTurned f b Law.MapCommand.Wipe n m (next_turn next)
  wipe_turned Stage.Begun next is order T = led_to Stage.Begun next (Next.Step (Stage.Wiping Wipes.Records)) order T (λ U. map_goes_on refl (subst (λ x. nat_le 3 (x + 1) ≡ nat_le 3 x) (sym is) refl) (same_map U.map))
  wipe_turned Stage.Chained next is order T = elim is [ ]
  wipe_turned (Stage.Looked found) next is order T = elim is [ ]
  wipe_turned (Stage.Listed found) next is order T = elim is [ ]
  wipe_turned (Stage.Taken found hand) next is order T = elim is [ ]
  wipe_turned (Stage.Changed hand) next is order T = elim is [ ]
  wipe_turned (Stage.Wiping Wipes.Records) next is order T =
      led_to (Stage.Wiping Wipes.Records) next (Next.Step (Stage.Wiping Wipes.FreeList)) order T (λ U. map_goes_on refl (subst (λ x. nat_le 3 (x + 1) ≡ nat_le 3 x) (sym is) refl) (same_map U.map))
  wipe_turned (Stage.Wiping Wipes.FreeList) next is order T = elim order [
    | inl led ↦ led_to (Stage.Wiping Wipes.FreeList) next (Next.Step Stage.Ending) led T (λ U. map_changes refl (omega (arith, is)) (before 2 is refl) (ap (λ x. nat_le 3 (x + 1)) is) refl (no_map U.map))
    | inr starved ↦ led_to (Stage.Wiping Wipes.FreeList) next (Next.Done Reply.Memory) starved T (λ U. map_starves refl (before 2 is refl) (same_map U.map))
  ]
  wipe_turned Stage.Ending next is order T = led_to Stage.Ending next (Next.Done Reply.Ok) order T (λ U. map_finishes refl (ap (nat_le 3) is) (same_map U.map))

wipe_made : (f : Form) (a b : List ℕ) (whole : Option (List ℕ)) (n : ℕ) (stage : Stage) (next : Next) (others : List HandPair) → WipeAfter stage n → WipeOrder stage next → WipeMade f a b stage next others → CommandMade f a b Wipe whole n stage next others
wipe_made f a b whole n stage next others is order T = record {
  accepted = T.accepted;
  knows = wipe_knows f b stage next order;
  joined = none_joined f b Wipe whole next (λ k v is. cc);
  only = changes_weaker f a b (λ k. HoldsChain stage) (λ k. Unit {0} × (1 ≤ n)) (λ k holds. (tt, wipe_late n stage is holds)) T.only;
  map = λ m M. wipe_turned f a b n m M others stage next is order T;
  number = T.number;
  walks = λ on. absurd on;
}

-- every command
pub command_made : (command : Plain) (f : Form) (a b : List ℕ) (was whole : Option (List ℕ)) (n : ℕ) (stage : Stage) (next : Next) (others : List HandPair) → IsAfter command stage n → InOrder command stage next → MayBeOut stage others → AcceptWith f a (hands_in stage ++ others)
    → Knows f a (key_of command) (asked_of command) stage → HasJoined f a command was stage → CommandMakes f a b command was whole stage next → CommandMade f a b command whole n stage next others
command_made (Fetch k) f a b was whole n stage next others is order out A K J made = keyed_made (Fetch k) tt f a b whole n stage next others is order K (none_joined f b (Fetch k) whole next (λ q v e. cc)) (made others A K)
command_made (Has k) f a b was whole n stage next others is order out A K J made = keyed_made (Has k) tt f a b whole n stage next others is order K (none_joined f b (Has k) whole next (λ q v e. cc)) (made others A K)
command_made (Store k v flag) f a b was whole n stage next others is order out A K J made = keyed_made (Store k v flag) tt f a b whole n stage next others is order K (none_joined f b (Store k v flag) whole next (λ q w e. cc)) (made others A K)
command_made (Append k v) f a b was whole n stage next others is order out A K J made =
    let T = made others A K (J k v refl) in
    keyed_made (Append k v) tt f a b whole n stage next others is order K (has_joined f b k v whole next T.has_joined) T.made
command_made (Delete k) f a b was whole n stage next others is order out A K J made = keyed_made (Delete k) tt f a b whole n stage next others is order K (none_joined f b (Delete k) whole next (λ q v e. cc)) (made others A K)
command_made Wipe f a b was whole n stage next others is order out A K J made = wipe_made f a b whole n stage next others is order (made others out A)
