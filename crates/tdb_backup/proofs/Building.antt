-- A map that is built from pairs whose keys are all different.
use Rattle.std.proofs.Common.{◌≡◌, List, ℕ, [], ◌∷◌, ◌++◌, append_assoc, Option, Some, None, Err, Bool, true, false, refl, sym, ◌∙◌, ap, subst, inl, inr}
use Rattle.std.specs.Map.{lookup, keys_of, update}
use Rattle.std.specs.List.{IsDistinct, AllByRecursion}
use Rattle.std.specs.Option.{option_or}
use Rattle.std.proofs.lemmas.Bool.{cases_Bool, MatchBool-at_true, MatchBool-at_false}
use Rattle.std.proofs.lemmas.Map.{update_same, update_other}
use Rattle.std.proofs.lemmas.Map.Keys.{IsDistinct-head, IsDistinct-tail}
use Rattle.std.specs.Prelude.{cond, MatchBool, length}
use Rattle.tdb_chain.specs.declared.refusal.ValueRefusal as Value
use Rattle.tdb_log.specs.Logs.{Logged, ToldAll, growth}
use Rattle.tdb_space.specs.NewRecord.{rec_len_for}
use Rattle.tdb_space.specs.Form.{Form}
use Rattle.tdb_space.specs.Extents.{HandPair}
use Rattle.tdb_space.specs.Accepted.{AcceptWith}
use Rattle.tdb_space.specs.Pairs.{same_key, map_of, order_of}
use Rattle.tdb_space.proofs.Pairs.Orders.{order_distinct}
use Rattle.tdb_space.proofs.Pairs.Maps.{same_key-eq, same_key-refl, same_key-other, lookup_append, lookup_absent}
use Rattle.tdb_backup.specs.declared.traversal.Traversal.{Traversal}
use Rattle.tdb_backup.specs.Traversal.{Gave, pair_at_hand}
use Rattle.tdb_backup.specs.Filling.{AddCause, Added, Filled, HasNoRoom, Inserted}
use Rattle.tdb_backup.specs.Growths.{AddHeard, CopyHeard, ToldFront, growths_of}
use Rattle.tdb_backup.specs.declared.refusal.AddRefusal.{AddRefusal}
use Rattle.tdb_backup.specs.declared.refusal.AddRefusal.TheVariants.{Insert, Log}
use Rattle.tdb_backup.specs.declared.refusal.BackupRefusal.TheVariants.{Copy}
use Rattle.tdb_backup.specs.declared.refusal.InsertRefusal.TheVariants.{Full, Io, Memory}
use Rattle.tdb_backup.specs.Building.{HoldsPairs, HoldsFront, BackupRefused, CopyCause, of_added, of_read}
use Rattle.tdb_backup.specs.Room.{room_in}
use Rattle.tdb_backup.proofs.Walk.{moved}
use Rattle.tdb_backup.proofs.Dumped.{gave_front}
use Rattle.tdb_backup.proofs.Growths.{heard_next, told_next}
use Rattle.tdb_backup.proofs.Rooms.{room_of_more}

-- what holds of each key holds of one in the middle
among : (P : List ℕ → Type 0) (front : List (List ℕ × List ℕ)) (p : List ℕ × List ℕ) (rest : List (List ℕ × List ℕ)) → AllByRecursion P (keys_of (front ++ p ∷ rest)) → P p.0
among P [] p rest all = all.0
among P (x ∷ xs) p rest all = among P xs p rest all.1

-- two keys that differ do so both ways
same_key-swap : (k q : List ℕ) → same_key k q ≡ false → same_key q k ≡ false
same_key-swap k q differ = same_key-other q k (λ e. false_is_not_true (sym differ ∙ subst (λ x. same_key x q ≡ true) e (same_key-refl q)))
  where
    false_is_not_true : false ≡ true → ⊥
    false_is_not_true e = cc

-- of different keys, none is among those before it
pub key_is_new : (front : List (List ℕ × List ℕ)) (p : List ℕ × List ℕ) (rest : List (List ℕ × List ℕ)) → IsDistinct same_key (keys_of (front ++ p ∷ rest)) → lookup (same_key p.0) front ≡ None
key_is_new [] p rest differ = refl
key_is_new (x ∷ xs) p rest differ =
    let apart : same_key p.0 x.0 ≡ false = same_key-swap x.0 p.0 (among (λ y. same_key x.0 y ≡ false) xs p rest (IsDistinct-head same_key x.0 (keys_of (xs ++ p ∷ rest)) differ)) in
    rw apart (key_is_new xs p rest (IsDistinct-tail same_key x.0 (keys_of (xs ++ p ∷ rest)) differ))

-- a pair more, with a new key, is the map with its value at the key
pub map_pushed : (given : List (List ℕ × List ℕ)) (p : List ℕ × List ℕ) (k : List ℕ) → lookup (same_key p.0) given ≡ None → update same_key (λ q. lookup (same_key q) given) p.0 (Some p.1) k ≡ lookup (same_key k) (given ++ p ∷ [])
map_pushed given p k new =
    elim (cases_Bool (same_key p.0 k)) [
      | inl same ↦
          let e : p.0 ≡ k = same_key-eq p.0 k same in
          let here : same_key k p.0 ≡ true = subst (λ q. same_key k q ≡ true) (sym e) (same_key-refl k) in
          let last : lookup (same_key k) (p ∷ []) ≡ Some p.1 = rw here refl in
          update_same same_key (λ q. lookup (same_key q) given) p.0 (Some p.1) k same
          ∙ sym (lookup_absent (same_key k) given (p ∷ []) (subst (λ q. lookup (same_key q) given ≡ None) e new) ∙ last)
      | inr other ↦
          let apart : same_key k p.0 ≡ false = same_key-swap p.0 k other in
          let last : lookup (same_key k) (p ∷ []) ≡ None = rw apart refl in
          update_other same_key (λ q. lookup (same_key q) given) p.0 (Some p.1) k other
          ∙ sym (lookup_append (same_key k) given (p ∷ []) ∙ ap (option_or (lookup (same_key k) given)) last ∙ or_none (lookup (same_key k) given))
    ]
  where
    or_none : (o : Option (List ℕ)) → option_or o None ≡ o
    or_none None = refl
    or_none (Some x) = refl

-- A walk over an accepted image comes to a pair: its key is new, and after it other pairs follow
pub record NextPair (order given : List (List ℕ × List ℕ)) (p : List ℕ × List ℕ) : Type 0 where
  pub rest : List (List ℕ × List ℕ)
  pub split : order ≡ given ++ p ∷ rest
  pub new : lookup (same_key p.0) given ≡ None

pub next_pair : (f : Form) (img : List ℕ) (hands : List HandPair) (given : List (List ℕ × List ℕ)) (p : List ℕ × List ℕ) (t : Traversal) → AcceptWith f img hands → Gave f img (given ++ p ∷ []) t → NextPair (order_of f img) given p
next_pair f img hands given p t A h =
    let front = gave_front f img (given ++ p ∷ []) t h in
    let split : order_of f img ≡ given ++ p ∷ front.0 = front.1 ∙ append_assoc given (p ∷ []) front.0 in
    record {
      rest = front.0;
      split = split;
      new = key_is_new given p front.0 (subst (λ ps. IsDistinct same_key (keys_of ps)) split (order_distinct f img hands A));
    }

-- the image that holds some pairs doesn't have a new key
pub holds_not : (limit : ℕ) (first : List ℕ) (f : Form) (img : List ℕ) (given : List (List ℕ × List ℕ)) (k : List ℕ) → HoldsPairs limit first f img given → lookup (same_key k) given ≡ None → map_of f img k ≡ None
holds_not limit first f img given k h new = h.map k ∙ new

-- with the pair added it holds that one too
pub holds_more : (limit : ℕ) (first : List ℕ) (f : Form) (a b : List ℕ) (given : List (List ℕ × List ℕ)) (p : List ℕ × List ℕ) → HoldsPairs limit first f a given → lookup (same_key p.0) given ≡ None → Added f a b p.0 p.1
    → Filled f a b (rec_len_for (length p.0) (length p.1)) limit → HoldsPairs limit first f b (given ++ p ∷ [])
holds_more limit first f a b given p h new added left = record {
  accepted = added.accepted;
  map = λ k. added.map k ∙ ap (λ old. cond (same_key p.0 k) (Some p.1) old) (h.map k) ∙ map_pushed given p k new;
  room = room_of_more limit (room_in f first) (room_in f a) (room_in f b) given p h.room left.room;
  header = λ i low. left.header i low ∙ h.header i low;
}

-- what was given is a front of the order
pub holds_front : (limit : ℕ) (first : List ℕ) (f g : Form) (img b : List ℕ) (given : List (List ℕ × List ℕ)) (t : Traversal) → Gave f img given t → HoldsPairs limit first g b given → HoldsFront limit first g b (order_of f img)
holds_front limit first f g img b given t h holds = let front = gave_front f img given t h in record { given = given; rest = front.0; split = front.1; holds = holds }

-- what an image that holds some pairs is told of the next one, by the form and the bytes that are at hand
module _ (limit : ℕ) (first : List ℕ) (f l : Form) (a b : List ℕ) (given : List (List ℕ × List ℕ)) (p : List ℕ × List ℕ) (key value : List ℕ) (same : l ≡ f) (same_key_there : key ≡ p.0) (same_value : value ≡ p.1)
    (holds : HoldsPairs limit first f a given) (new : lookup (same_key p.0) given ≡ None) where
  next_there : {P : Type 0} → (AcceptWith l a [] → map_of l a key ≡ None → P) → P
  next_there told = told (subst (λ x. AcceptWith x a []) (sym same) holds.accepted) ((λ j. map_of (same j) a (same_key_there j)) ∙ holds.map p.0 ∙ new)

  pub inserted_next : (AcceptWith l a [] → map_of l a key ≡ None → Inserted l a b key value limit) → Inserted f a b p.0 p.1 limit
  inserted_next inserted = subst (λ (q : Form × (List ℕ × List ℕ)). Inserted q.0 a b q.1.0 q.1.1 limit) (λ j. (same j, (same_key_there j, same_value j))) (next_there inserted)

  pub cause_next : (e : AddRefusal) → (AcceptWith l a [] → map_of l a key ≡ None → AddCause l a b key value limit e) → AddCause f a b p.0 p.1 limit e
  cause_next e cause = subst (λ (q : Form × (List ℕ × List ℕ)). AddCause q.0 a b q.1.0 q.1.1 limit e) (λ j. (same j, (same_key_there j, same_value j))) (next_there cause)

-- the next pair was added
pub added_next : (limit : ℕ) (first : List ℕ) (f : Form) (a b : List ℕ) (given : List (List ℕ × List ℕ)) (p : List ℕ × List ℕ) → HoldsPairs limit first f a given → lookup (same_key p.0) given ≡ None → Inserted f a b p.0 p.1 limit
    → HoldsPairs limit first f b (given ++ p ∷ [])
added_next limit first f a b given p holds new inserted = holds_more limit first f a b given p holds new inserted.added inserted.filled

-- the next pair wasn't added, or wasn't told of
pub refused_next : (first : List ℕ) (f : Form) (a b : List ℕ) (order given : List (List ℕ × List ℕ)) (p : List ℕ × List ℕ) (limit : ℕ) (e : AddRefusal) → NextPair order given p → HoldsPairs limit first f a given → AddCause f a b p.0 p.1 limit e
    → BackupRefused first f b order limit (of_added e)
refused_next first f a b order given p limit (Insert (Full len need)) next holds full =
    let kept = full.no_room.same in
    record {
      given = given;
      next = p;
      rest = next.rest;
      split = next.split;
      holds = subst (λ i. HoldsPairs limit first f i given) (sym kept) holds;
      no_room = subst (λ i. HasNoRoom f i b (rec_len_for (length p.0) (length p.1)) limit len need) (sym kept) full;
    }
refused_next first f a b order given p limit (Insert Io) next holds cause = tt
refused_next first f a b order given p limit (Insert Memory) next holds kept =
    record { given = given; rest = p ∷ next.rest; split = next.split; holds = subst (λ i. HoldsPairs limit first f i given) (sym kept) holds }
refused_next first f a b order given p limit (Log refusal) next holds inserted =
    record { given = given ++ p ∷ []; rest = next.rest; split = next.split ∙ sym (append_assoc given (p ∷ []) next.rest); holds = added_next limit first f a b given p holds next.new inserted }

-- The walk has given these pairs, the new file holds them, and logs heard of each growth.
pub record Built (limit : ℕ) (first : List ℕ) (f : Form) (img : List ℕ) (t : Traversal) (g : Form) (a : List ℕ) (start logs : List Logged) : Type 0 where
  pub given : List (List ℕ × List ℕ)
  pub gave : Gave f img given t
  pub holds : HoldsPairs limit first g a given
  pub told : ToldAll (growths_of limit g first given) start logs

module _ (limit : ℕ) (first : List ℕ) (f k : Form) (img v : List ℕ) (hands : List HandPair) (g l : Form) (a b : List ℕ) (t u : Traversal) (more : Bool) (start old : List Logged) (form : k ≡ f) (image : v ≡ img) (same : l ≡ g) (A : AcceptWith f img hands)
    (d : Built limit first f img t g a start old)
    (answer : (hands : List HandPair) → AcceptWith k v hands → (given : List (List ℕ × List ℕ)) → Gave k v given t
    → MatchBool more (Gave k v (given ++ pair_at_hand u ∷ []) u) (Gave k v given u × (order_of k v ≡ given))) where
  answered : MatchBool more (Gave k v (d.given ++ pair_at_hand u ∷ []) u) (Gave k v d.given u × (order_of k v ≡ d.given))
  answered = answer hands (moved (λ x i. AcceptWith x i hands) k f v img (sym form) (sym image) A) d.given (moved (λ x i. Gave x i d.given t) k f v img (sym form) (sym image) d.gave)

  given_more : more ≡ true → Gave f img (d.given ++ pair_at_hand u ∷ []) u
  given_more another =
      moved (λ x i. Gave x i (d.given ++ pair_at_hand u ∷ []) u) f k img v form image
      (MatchBool-at_true (Gave k v (d.given ++ pair_at_hand u ∷ []) u) (Gave k v d.given u × (order_of k v ≡ d.given)) another answered)

  -- no pair is left
  order_given : more ≡ false → order_of f img ≡ d.given
  order_given ended =
      let all = MatchBool-at_false (Gave k v (d.given ++ pair_at_hand u ∷ []) u) (Gave k v d.given u × (order_of k v ≡ d.given)) ended answered in
      moved (λ x i. order_of x i ≡ d.given) f k img v form image all.1

  pub built_all : more ≡ false → HoldsPairs limit first g a (order_of f img)
  built_all ended = subst (HoldsPairs limit first g a) (sym (order_given ended)) d.holds

  pub told_all : more ≡ false → ToldAll (growths_of limit g first (order_of f img)) start old
  told_all ended = subst (λ o. ToldAll (growths_of limit g first o) start old) (sym (order_given ended)) d.told

  -- a pair more was given
  module _ (another : more ≡ true) (key value : List ℕ) (same_key_there : key ≡ (pair_at_hand u).0) (same_value : value ≡ (pair_at_hand u).1) (new : List Logged) (from to : ℕ) (is_from : from ≡ length a) (is_to : to ≡ length b) where
    next : NextPair (order_of f img) d.given (pair_at_hand u)
    next = next_pair f img hands d.given (pair_at_hand u) u A (given_more another)

    -- and was added
    pub built_more : (AcceptWith l a [] → map_of l a key ≡ None → Inserted l a b key value limit) → ToldAll (growth from to) old new → Built limit first f img u g b start new
    built_more inserted told =
        let p = pair_at_hand u in
        let made = inserted_next limit first g l a b d.given p key value same same_key_there same_value d.holds next.new inserted in
        record {
          given = d.given ++ p ∷ [];
          gave = given_more another;
          holds = added_next limit first g a b d.given p d.holds next.new made;
          told = told_next limit first g a d.given d.holds p b from to is_from is_to start old new d.told made.filled told;
        }

    -- but wasn't added, or not told of
    module _ (e : AddRefusal) (cause : AcceptWith l a [] → map_of l a key ≡ None → AddCause l a b key value limit e) where
      why : AddCause g a b (pair_at_hand u).0 (pair_at_hand u).1 limit e
      why = cause_next limit first g l a b d.given (pair_at_hand u) key value same same_key_there same_value d.holds next.new e cause

      pub built_refused : BackupRefused first g b (order_of f img) limit (of_added e)
      built_refused = refused_next first g a b (order_of f img) d.given (pair_at_hand u) limit e next d.holds why

      pub heard_refused : AddHeard from to old new (Err e) → CopyHeard limit g first (order_of f img) start new (of_added e)
      heard_refused heard = heard_next limit first g a d.given d.holds (pair_at_hand u) b from to is_from is_to start old new d.told (order_of f img) next.rest next.split e why heard

-- a pair wasn't read
module _ (limit : ℕ) (first : List ℕ) (f g : Form) (img a : List ℕ) (t : Traversal) (start logs : List Logged) (d : Built limit first f img t g a start logs) where
  pub built_unread : (e : Value.ValueRefusal) → CopyCause first g a (order_of f img) limit (of_read e)
  built_unread Value.TheVariants.Io = holds_front limit first f g img a d.given t d.gave d.holds
  built_unread Value.TheVariants.Memory = holds_front limit first f g img a d.given t d.gave d.holds

  told_front : ToldFront limit g first (order_of f img) start logs
  told_front = let front = gave_front f img d.given t d.gave in record { given = d.given; rest = front.0; split = front.1; told = d.told }

  pub heard_unread : (e : Value.ValueRefusal) → CopyHeard limit g first (order_of f img) start logs (Copy (of_read e))
  heard_unread Value.TheVariants.Io = told_front
  heard_unread Value.TheVariants.Memory = told_front
