-- What a turn makes of an image, by what its call does to it.
use Rattle.std.proofs.Common.{◌≡◌, ℕ, ◌<◌, arith, inl, inr, Bool, true, false, List, [], ◌∷◌, ◌++◌, length, Option, None, Some, refl, sym, ◌∙◌, ap, subst}
use Rattle.std.specs.Map.{update}
use Rattle.std.proofs.lemmas.Map.{update-update, update_same}
use Rattle.tdb_words.proofs.Words.{word_agrees}
use Rattle.tdb_space.specs.Form.{Form}
use Rattle.tdb_space.specs.Pairs.{map_of, home, same_key}
use Rattle.tdb_space.specs.Extents.{HandPair, AllHandOk}
use Rattle.tdb_space.specs.Accepted.{AcceptWith}
use Rattle.tdb_space.specs.Stays.{ChainsStay}
use Rattle.tdb_space.proofs.Pairs.Maps.{home_below, same_key-refl}
use Rattle.tdb_space.proofs.Stays.Changes.{changes_none, changes_weaker, changes_then}
use Rattle.tdb_chain.specs.declared.place.Place.{Place}
use Rattle.tdb_chain.specs.Place.{IsPlace, HoldsKey}
use Rattle.tdb_chain.specs.Changed.{KeySet, ChainChanged, OldOrWord, hand_at, word_before}
use Rattle.tdb_chain.proofs.Changed.{header_stays}
use Rattle.tdb_chain.proofs.Unlinked.{word_only}
use Rattle.tdb_chain.proofs.PlaceStays.{found_stays}
use Rattle.tdb_free.specs.Growth.{CanBeTaken, RefusedRightly, NoRoom, SaysLengths}
use Rattle.tdb_free.proofs.Traded.{can_take}
use Rattle.tdb_free.specs.declared.refusal.FreeRefusal.{FreeRefusal}
use Rattle.tdb_free.specs.declared.refusal.FreeRefusal.TheVariants as Refused
use Rattle.tdb_space.specs.Chain.{free_of, chain_of, without}
use Rattle.std.specs.Prelude.{◌^◌, ◌+◌, slice_index, unwrap_or, IfOk, Result, Ok, Err, cond, Contains}
use Rattle.tdb_locks.specs.declared.turn.Reply.{Reply}
use Rattle.tdb_steps.specs.declared.stage.Stage.{Stage}
use Rattle.tdb_steps.specs.declared.stage.Next.{Next}
use Rattle.tdb_words.specs.declared.record.TheConstants.{USED}
use Rattle.tdb_space.specs.Record.{key_at, data_at}
use Rattle.tdb_steps.specs.declared.flag.Flag.{Flag}
use Rattle.tdb_steps.specs.declared.flag.Flag.TheVariants as Flags
use Rattle.tdb_steps.specs.Asked.{Asked, appends, joined, deleted, deletes, stored, stores}
use Rattle.tdb_steps.specs.Stages.{IsKnown, hands_after, HoldsChain, KnowsAfter, is_changed, is_changed_after, IsEnd, JoinedAfter}
use Rattle.tdb_steps.specs.Walks.{KeepsWalks}
use Rattle.tdb_steps.proofs.Walks.{ChangesInPlace, stays_walks, in_place_walks, taken_walks, walks_then}
use Rattle.tdb_steps.specs.Turns.{number_of, MapBy, Says, TurnMade, LinkedOver, LinksRightly, MarksRightly}
use Rattle.tdb_steps.specs.Turns.IsWant.{full}

-- what is so of an answer that is Ok is so by two other facts
pub of_both : {V F : Type 0} (r : Result V F) (P Q R : V → Type 0) → ((v : V) → P v → Q v → R v) → IfOk r P → IfOk r Q → IfOk r R
of_both (Ok v) P Q R both p q = both v p q
of_both (Err e) P Q R both p q = tt

-- no is not yes
pub never_true : false ≡ true → ⊥
never_true e = cc

-- a test isn't answered both ways
pub not_both : (b : Bool) → b ≡ true → b ≡ false → ⊥
not_both b is isnt = cc

-- what holds of a view after a call that only looked holds of the view before it
pub moved : (P : Form → List ℕ → Type 0) (f g : Form) (a v : List ℕ) → g ≡ f → v ≡ a → P g v → P f a
moved P f g a v same_form same_image holds = subst (P f) same_image (subst (λ x. P x v) same_form holds)

-- the sequence number stays where the header does
pub number_same : (f : Form) (a b : List ℕ) → ((i : ℕ) → i < 168 → slice_index b i ≡ slice_index a i) → number_of f b ≡ number_of f a
number_same f a b same = word_agrees f.order b a 48 (λ i from to. same i (omega (arith, to)))

-- so it does where a chain and hands change
pub chain_number : (f : Form) (a b : List ℕ) (k : ℕ) (offs : List ℕ) (own before after : List HandPair) → AcceptWith f a before → k < f.chains → AllHandOk f a own → ChainChanged f a b k offs own before after → number_of f b ≡ number_of f a
chain_number f a b k offs own before after A low held C = number_same f a b (header_stays f a b k offs own before after low A held C)

-- a turn that leaves the map isn't the one that makes the change, and one that makes it sets the key's value
map_left : (x y : Bool) (f : Form) (a b key : List ℕ) (asked : Asked) → y ≡ x → ((other : List ℕ) → map_of f b other ≡ map_of f a other) → MapBy x y f a b key asked
map_left true true f a b key asked same left = left
map_left true false f a b key asked same left = left
map_left false true f a b key asked same left = absurd (never_true (sym same))
map_left false false f a b key asked same left = left

map_set : (x y : Bool) (f : Form) (a b key : List ℕ) (asked : Asked) → x ≡ false → y ≡ true → ((other : List ℕ) → map_of f b other ≡ update same_key (map_of f a) key (asked.left (map_of f a key)) other) → MapBy x y f a b key asked
map_set true y f a b key asked before after set = absurd (never_true (sym before))
map_set false true f a b key asked before after set = set
map_set false false f a b key asked before after set = absurd (never_true after)

-- a turn that leaves all chains
pub stays_made : (f : Form) (a b key : List ℕ) (asked : Asked) (old : Stage) (next : Next) (hands others : List HandPair) → AcceptWith f a hands → ChainsStay f a b (hands_after next ++ others) → number_of f b ≡ number_of f a → is_changed_after next ≡ is_changed old → KnowsAfter f b key asked next → Says old asked (map_of f a key) next → TurnMade f a b key asked old next others
stays_made f a b key asked old next hands others A S number same knows says = record {
  accepted = S.accepted;
  knows = knows;
  only = changes_weaker f a b (λ k. ⊥) (λ k. (k ≡ home f key) × HoldsChain old) (λ k never. absurd never) S.only;
  map = map_left (is_changed old) (is_changed_after next) f a b key asked same S.map;
  says = says;
  number = number;
  walks = stays_walks f a b key old next hands (hands_after next ++ others) A S same;
}

-- a turn that leaves the image as it is
pub same_made : (f : Form) (a b key : List ℕ) (asked : Asked) (old : Stage) (next : Next) (others : List HandPair) → b ≡ a → AcceptWith f a (hands_after next ++ others) → is_changed_after next ≡ is_changed old → KnowsAfter f a key asked next → Says old asked (map_of f a key) next → TurnMade f a b key asked old next others
same_made f a b key asked old next others stands A same knows says =
    subst (λ img. TurnMade f a img key asked old next others) (sym stands)
    (stays_made f a a key asked old next (hands_after next ++ others) others A (record { accepted = A; map = λ k. refl; only = changes_none f a (λ k. ⊥) }) refl same knows says)

-- a turn that sets the value of the key
pub set_made : (f : Form) (a b key : List ℕ) (asked : Asked) (old : Stage) (next : Next) (others : List HandPair) (value : Option (List ℕ)) (offs : List ℕ) (own before : List HandPair) → KeySet f a b key value offs own before (hands_after next ++ others) → number_of f b ≡ number_of f a → HoldsChain old → is_changed old ≡ false → is_changed_after next ≡ true → asked.left (map_of f a key) ≡ value → KnowsAfter f b key asked next → Says old asked (map_of f a key) next → KeepsWalks f a b key old next → TurnMade f a b key asked old next others
set_made f a b key asked old next others value offs own before K number holds first after left knows says walks = record {
  accepted = K.changed.accepted;
  knows = knows;
  only = changes_weaker f a b (λ k. k ≡ home f key) (λ k. (k ≡ home f key) × HoldsChain old) (λ k at_home. (at_home, holds)) K.changed.only;
  map = map_set (is_changed old) (is_changed_after next) f a b key asked first after (λ other. K.map other ∙ ap (λ v. update same_key (map_of f a) key v other) (sym left));
  says = says;
  number = number;
  walks = walks;
}

-- what was known of the key is still so where its chain stays
pub known_stays : (f : Form) (a b key : List ℕ) (asked : Asked) (place : Option Place) (hands news : List HandPair) → AcceptWith f a hands → ChainsStay f a b news → IsKnown f a key asked place → IsKnown f b key asked place
known_stays f a b key asked place hands news A S known = record {
  found = found_stays f a b hands A S.only.front.longer news S.accepted key (S.only.chains (home f key) (home_below f key A.some) (λ never. never)) place known.found;
  granted = ap asked.reply (S.map key) ∙ known.granted;
}

-- the turn that takes a record
pub took_made : (f : Form) (a b key : List ℕ) (asked : Asked) (place : Option Place) (h : HandPair) (others : List HandPair) → AcceptWith f a others → IsKnown f a key asked place → ChainsStay f a b (h ∷ others) → number_of f b ≡ number_of f a → TurnMade f a b key asked (Stage.Listed place) (Next.Step (Stage.Taken place h)) others
took_made f a b key asked place h others A known S number =
    stays_made f a b key asked (Stage.Listed place) (Next.Step (Stage.Taken place h)) others others A S number refl (known_stays f a b key asked place others (h ∷ others) A S known) tt

-- and the one that finds none
pub full_made : (f : Form) (a b key : List ℕ) (asked : Asked) (place : Option Place) (len need : ℕ) (others : List HandPair) → AcceptWith f a others → b ≡ a → TurnMade f a b key asked (Stage.Listed place) (Next.Done (Reply.Full len need)) others
full_made f a b key asked place len need others A same =
    same_made f a b key asked (Stage.Listed place) (Next.Done (Reply.Full len need)) others same A refl tt (inl (full len need refl))

-- a refusal for want of room was right also of the view before a call that only looked
pub no_room : (f g : Form) (a v b : List ℕ) (n m limit len need : ℕ) (e : FreeRefusal) → g ≡ f → v ≡ a → m ≡ n → e ≡ Refused.Full len need → ((offs : List ℕ) → CanBeTaken g v offs → RefusedRightly g v b offs m limit e) → length a < 2 ^ 32 → (hands : List HandPair) → AcceptWith f a hands → NoRoom f a b (free_of f a) n limit
no_room f g a v b n m limit len need e same_form same_image same is clause short hands A =
    moved (λ x img. (offs : List ℕ) → CanBeTaken x img offs → NoRoom x img b offs n limit) f g a v same_form same_image
    (subst (λ r. (offs : List ℕ) → CanBeTaken g v offs → RefusedRightly g v b offs n limit r) is (subst (λ k. (offs : List ℕ) → CanBeTaken g v offs → RefusedRightly g v b offs k limit e) same clause))
    (free_of f a) (can_take f a hands A short)

-- and it said the lengths
pub said_lengths : (size m len need : ℕ) (e : FreeRefusal) → e ≡ Refused.Full len need → SaysLengths size m e → (len ≡ size) × (need ≡ 24 + m)
said_lengths size m len need e is says = subst (SaysLengths size m) is says

-- the turn of a delete that takes the record out
pub unlinked_made : (f g : Form) (a v b key : List ℕ) (p : Place) (h : HandPair) (others : List HandPair) → g ≡ f → v ≡ a → ((hands : List HandPair) → AcceptWith g v hands → IsPlace g v p → p.rec.magic ≡ USED → KeySet g v b (key_at g.order v p.off) None (without p.off (chain_of g v (home g (key_at g.order v p.off)))) [] hands (h ∷ hands)) → h ≡ hand_at p → OldOrWord g.order v p.before p.rec.next b → AcceptWith f a others → IsKnown f a key deletes (Some p) → TurnMade f a b key deletes (Stage.Listed (Some p)) (Next.Step (Stage.Changed h)) others
unlinked_made f g a v b key p h others same_form same_image clause is_hand written A known =
    let H = known.found in
    let K = moved (λ x img. (hands : List HandPair) → AcceptWith x img hands → IsPlace x img p → p.rec.magic ≡ USED → KeySet x img b (key_at x.order img p.off) None (without p.off (chain_of x img (home x (key_at x.order img p.off)))) [] hands (h ∷ hands)) f g a v same_form same_image clause others A H.place H.used in
    let L = subst (λ q. KeySet f a b q None (without p.off (chain_of f a (home f q))) [] others (h ∷ others)) H.has_key K in
    set_made f a b key deletes (Stage.Listed (Some p)) (Next.Step (Stage.Changed h)) others None (without p.off (chain_of f a (home f key))) [] others L
    (chain_number f a b (home f key) (without p.off (chain_of f a (home f key))) [] others (h ∷ others) A (home_below f key A.some) tt L.changed) tt refl refl refl tt tt
    (taken_walks f a b key (Stage.Listed (Some p)) h others (h ∷ others) p A H L refl is_hand
    (word_only f.order a b p.before p.rec.next (word_before (Some p)) (λ i none. omega (arith, none)) (moved (λ x img. OldOrWord x.order img p.before p.rec.next b) f g a v same_form same_image written)))

-- The turn of a store that marks the old record as dead and links the new one. Between the two the key is missing.
module _ (f g : Form) (a m b key value : List ℕ) (p : Place) (h : HandPair) (flag : Flag) (next : Next) (others : List HandPair) (same_form : g ≡ f) (A : AcceptWith f a (h ∷ others)) (H : HoldsKey f a key p) (K : KeySet f a m key None (chain_of f a (home f key)) [] (h ∷ others) (h ∷ others)) (written : ChangesInPlace a m p) where
  missing : map_of f m key ≡ None
  missing = K.map key ∙ update_same same_key (map_of f a) key None key (same_key-refl key)

  pub beside_ends : ((hands : List HandPair) → AcceptWith g m (h ∷ hands) → next ≡ Next.Step Stage.Ending) → next ≡ Next.Step Stage.Ending
  beside_ends clause = subst (λ x. (hands : List HandPair) → AcceptWith x m (h ∷ hands) → next ≡ Next.Step Stage.Ending) same_form clause others K.changed.accepted

  at_end : TurnMade f m b key (stores Flags.Replace value) (Stage.Taken None h) (Next.Step Stage.Ending) others → TurnMade f a b key (stores flag value) (Stage.Taken (Some p) h) (Next.Step Stage.Ending) others
  at_end T = record {
    accepted = T.accepted;
    knows = tt;
    only = changes_then f a m b (λ k. (k ≡ home f key) × HoldsChain (Stage.Taken (Some p) h)) (changes_weaker f a m (λ k. k ≡ home f key) (λ k. (k ≡ home f key) × HoldsChain (Stage.Taken (Some p) h)) (λ k at_home. (at_home, tt)) K.changed.only) T.only;
    map = λ q. T.map q ∙ ap (λ o. cond (same_key key q) (Some value) o) (K.map q) ∙ update-update same_key (map_of f a) key None (Some value) q;
    says = tt;
    number = T.number ∙ chain_number f a m (home f key) (chain_of f a (home f key)) [] (h ∷ others) (h ∷ others) A (home_below f key A.some) tt K.changed;
    walks = walks_then f a m b key (Stage.Taken (Some p) h) (Stage.Taken None h) (Next.Step Stage.Ending) (Next.Step Stage.Ending) (h ∷ others) None K refl refl refl refl (λ stands spares. spares)
        (in_place_walks f a m key (Stage.Taken (Some p) h) (Next.Step Stage.Ending) (h ∷ others) p None A H K refl refl written) T.walks;
  }

  pub beside_made : ((hands : List HandPair) → AcceptWith g m (h ∷ hands) → next ≡ Next.Step Stage.Ending) → ((hands : List HandPair) → AcceptWith g m (h ∷ hands) → IsKnown g m key (stores Flags.Replace value) None → TurnMade g m b key (stores Flags.Replace value) (Stage.Taken None h) next hands) → TurnMade f a b key (stores flag value) (Stage.Taken (Some p) h) next others
  beside_made ended clause =
      let e = beside_ends ended in
      let T = subst (λ x. (hands : List HandPair) → AcceptWith x m (h ∷ hands) → IsKnown x m key (stores Flags.Replace value) None → TurnMade x m b key (stores Flags.Replace value) (Stage.Taken None h) next hands) same_form clause others K.changed.accepted (record { found = missing; granted = refl }) in
      subst (λ n. TurnMade f a b key (stores flag value) (Stage.Taken (Some p) h) n others) (sym e) (at_end (subst (λ n. TurnMade f m b key (stores Flags.Replace value) (Stage.Taken None h) n others) e T))

-- how a link goes, by whether a cursor stands on the old record
module _ (f : Form) (a : List ℕ) (h : HandPair) (stood_on : List ℕ) (found : Option Place) (next : Next) where
  pub none_rightly : found ≡ None → LinkedOver f a h found next → LinksRightly f a h stood_on found next
  none_rightly is linked = subst (λ p. LinkedOver f a h p next → LinksRightly f a h stood_on p next) (sym is) (λ ended. ended) linked

  pub over_rightly : (old : Place) → found ≡ Some old → (Contains stood_on old.off → ⊥) → ((others : List HandPair) → AcceptWith f a (h ∷ others) → next ≡ Next.Step (Stage.Changed (hand_at old))) → LinksRightly f a h stood_on found next
  over_rightly old is never led = subst (λ p. LinksRightly f a h stood_on p next) (sym is) (λ key others A holds. inr (never, led others A))

  pub beside_rightly : (old : Place) → found ≡ Some old → Contains stood_on old.off → ((key : List ℕ) (others : List HandPair) → AcceptWith f a (h ∷ others) → HoldsKey f a key old → next ≡ Next.Step Stage.Ending) → LinksRightly f a h stood_on found next
  beside_rightly old is stands ended = subst (λ p. LinksRightly f a h stood_on p next) (sym is) (λ key others A holds. inl (stands, ended key others A holds))

-- the turn that changes the record of the key where it stands
pub in_place_made : (f g : Form) (a v b key : List ℕ) (asked : Asked) (value : Option (List ℕ)) (p : Place) (others : List HandPair) → g ≡ f → v ≡ a → ((hands : List HandPair) (k : List ℕ) → AcceptWith g v hands → HoldsKey g v k p → KeySet g v b k value (chain_of g v (home g k)) [] hands hands) → asked.left (map_of f a key) ≡ value → AcceptWith f a others → IsKnown f a key asked (Some p) → ChangesInPlace v b p → TurnMade f a b key asked Stage.Chained (Next.Done Reply.Ok) others
in_place_made f g a v b key asked value p others same_form same_image clause left A known written =
    let K = moved (λ x img. (hands : List HandPair) (k : List ℕ) → AcceptWith x img hands → HoldsKey x img k p → KeySet x img b k value (chain_of x img (home x k)) [] hands hands) f g a v same_form same_image clause others key A known.found in
    set_made f a b key asked Stage.Chained (Next.Done Reply.Ok) others value (chain_of f a (home f key)) [] others K
    (chain_number f a b (home f key) (chain_of f a (home f key)) [] others others A (home_below f key A.some) tt K.changed) tt refl refl left tt (inr (sym known.granted))
    (in_place_walks f a b key Stage.Chained (Next.Done Reply.Ok) others p value A known.found K refl refl (subst (λ img. ChangesInPlace img b p) same_image written))

-- a store of a key that is there is granted but for an Insert, and a delete always
pub there_granted : (flag : Flag) (there : Option (List ℕ)) (v : List ℕ) → (flag ≡ Flags.Insert → ⊥) → there ≡ Some v → stored flag there ≡ Reply.Ok
there_granted Flags.Replace there v never is = refl
there_granted Flags.Insert there v never is = absurd (never refl)
there_granted Flags.Modify there v never is = ap (stored Flags.Modify) is

pub delete_known : (f : Form) (a key : List ℕ) (place : Place) → HoldsKey f a key place → IsKnown f a key deletes (Some place)
delete_known f a key place holds = record { found = holds; granted = ap deleted holds.mapped }

pub store_known : (f : Form) (a key value : List ℕ) (flag : Flag) (place : Place) → (flag ≡ Flags.Insert → ⊥) → HoldsKey f a key place → IsKnown f a key (stores flag value) (Some place)
store_known f a key value flag place never holds = record { found = holds; granted = there_granted flag (map_of f a key) (data_at f.order a place.off) never holds.mapped }

-- a delete that ends in a mark goes rightly
pub marked_rightly : (stood_on : List ℕ) (place : Place) (next : Next) → IsEnd next → Contains stood_on place.off → MarksRightly stood_on (Some place) next
marked_rightly stood_on place (Next.Step stage) ended stands = absurd ended
marked_rightly stood_on place (Next.Done Reply.Ok) ended stands = stands
marked_rightly stood_on place (Next.Done reply) ended stands = tt

-- a turn of a store of the bytes that an append writes is one of the append
module _ (f : Form) (a b key more bytes : List ℕ) where
  as_map : (x y : Bool) → (x ≡ false → y ≡ true → bytes ≡ joined (map_of f a key) more) → MapBy x y f a b key (stores Flags.Replace bytes) → MapBy x y f a b key (appends more)
  as_map true true same set = set
  as_map true false same set = set
  as_map false true same set = λ other. set other ∙ ap (λ v. update same_key (map_of f a) key (Some v) other) (same refl refl)
  as_map false false same set = set

  as_known : (img : List ℕ) (place : Option Place) → IsKnown f img key (stores Flags.Replace bytes) place → IsKnown f img key (appends more) place
  as_known img place known = record { found = known.found; granted = refl }

  as_knows : (img : List ℕ) (next : Next) → KnowsAfter f img key (stores Flags.Replace bytes) next → KnowsAfter f img key (appends more) next
  as_knows img (Next.Step Stage.Begun) known = tt
  as_knows img (Next.Step Stage.Chained) known = tt
  as_knows img (Next.Step (Stage.Looked place)) known = as_known img place known
  as_knows img (Next.Step (Stage.Listed place)) known = as_known img place known
  as_knows img (Next.Step (Stage.Taken place hand)) known = as_known img place known
  as_knows img (Next.Step (Stage.Changed hand)) known = tt
  as_knows img (Next.Step (Stage.Wiping locked)) known = tt
  as_knows img (Next.Step Stage.Ending) known = tt
  as_knows img (Next.Done reply) known = tt

  as_says : (stage : Stage) (next : Next) → Says stage (stores Flags.Replace bytes) (map_of f a key) next → Says stage (appends more) (map_of f a key) next
  as_says stage (Next.Step onto) says = tt
  as_says Stage.Begun (Next.Done reply) says = says
  as_says Stage.Chained (Next.Done reply) says = says
  as_says (Stage.Looked place) (Next.Done reply) says = says
  as_says (Stage.Listed place) (Next.Done reply) says = says
  as_says (Stage.Taken place hand) (Next.Done reply) says = says
  as_says (Stage.Changed hand) (Next.Done reply) says = says
  as_says (Stage.Wiping locked) (Next.Done reply) says = says
  as_says Stage.Ending (Next.Done reply) says = says

  pub as_append : (stage : Stage) (next : Next) (others : List HandPair) → (is_changed stage ≡ false → is_changed_after next ≡ true → bytes ≡ joined (map_of f a key) more) → TurnMade f a b key (stores Flags.Replace bytes) stage next others → TurnMade f a b key (appends more) stage next others
  as_append stage next others same T = record {
    accepted = T.accepted;
    knows = as_knows b next T.knows;
    only = T.only;
    map = as_map (is_changed stage) (is_changed_after next) same T.map;
    says = as_says stage next T.says;
    number = T.number;
    walks = T.walks;
  }

-- where the map stays, an append still has the bytes that it writes
pub joined_after : (f : Form) (a b key more : List ℕ) (whole : Option (List ℕ)) (next : Next) → unwrap_or whole more ≡ joined (map_of f a key) more → MapBy false (is_changed_after next) f a b key (appends more) → JoinedAfter f b key more whole next
joined_after f a b key more whole (Next.Step Stage.Begun) same map = tt
joined_after f a b key more whole (Next.Step Stage.Chained) same map = tt
joined_after f a b key more whole (Next.Step (Stage.Looked place)) same map = same ∙ ap (λ v. joined v more) (sym (map key))
joined_after f a b key more whole (Next.Step (Stage.Listed place)) same map = same ∙ ap (λ v. joined v more) (sym (map key))
joined_after f a b key more whole (Next.Step (Stage.Taken place hand)) same map = same ∙ ap (λ v. joined v more) (sym (map key))
joined_after f a b key more whole (Next.Step (Stage.Changed hand)) same map = tt
joined_after f a b key more whole (Next.Step (Stage.Wiping locked)) same map = tt
joined_after f a b key more whole (Next.Step Stage.Ending) same map = tt
joined_after f a b key more whole (Next.Done reply) same map = tt
