-- The growths of a file as pairs are added to it, and what logs heard of them.
use Rattle.std.proofs.Common.{◌≡◌, ℕ, ◌+◌, ◌<◌, List, [], ◌∷◌, ◌++◌, append_assoc, append-nil, length, Option, Some, None, Err, refl, sym, ◌∙◌, ap, subst, inl, inr, arith}
use Rattle.std.specs.Prelude.{option_and_then}
use Rattle.std.proofs.lemmas.Bool.{cases_lt}
use Rattle.std.proofs.lemmas.List.{map-append}
use Rattle.tdb_log.specs.Logs.{Logged, ToldAll, ToldUpTo, growth}
use Rattle.tdb_log.specs.declared.log.LogRefusal.{LogRefusal}
use Rattle.tdb_log.proofs.Telling.{told_joined, told_then_refused, refused_before}
use Rattle.tdb_space.specs.Accepted.{AcceptWith}
use Rattle.tdb_space.specs.Chain.{free_of}
use Rattle.tdb_space.specs.Form.{Form}
use Rattle.tdb_space.specs.NewRecord.{rec_len_for}
use Rattle.tdb_space.specs.Pairs.{map_of}
use Rattle.tdb_free.specs.FreeList.{free_pairs, taken, taken_as}
use Rattle.tdb_free.specs.Growth.{grown_length, usual_length}
use Rattle.tdb_backup.specs.Building.{HoldsPairs, of_added}
use Rattle.tdb_backup.specs.Filling.{AddCause, Added, Filled, HasNoRoom, InsertCause, Inserted}
use Rattle.tdb_backup.specs.Growths.{AddHeard, CopyHeard, growths, growths_of, growths_on}
use Rattle.tdb_backup.specs.Room.{Room, record_lengths, room_behind, room_in, room_left}
use Rattle.tdb_backup.specs.declared.refusal.AddRefusal.{AddRefusal}
use Rattle.tdb_backup.specs.declared.refusal.AddRefusal.TheVariants.{Insert, Log}
use Rattle.tdb_backup.specs.declared.refusal.InsertRefusal.{InsertRefusal}
use Rattle.tdb_backup.specs.declared.refusal.InsertRefusal.TheVariants.{Full, Io, Memory}
use Rattle.tdb_backup.proofs.Walk.{moved}

-- those of records behind others, from the room that the first of these leaves
growths_from : (limit len : ℕ) (first : Option Room) (s : Room) (ns ms : List ℕ) → ((u : Room) → room_behind limit u ns ≡ Some s → growths limit u (ns ++ ms) ≡ growths limit u ns ++ growths limit s ms)
    → option_and_then (λ u. room_behind limit u ns) first ≡ Some s → growths_on len (λ u. growths limit u (ns ++ ms)) first ≡ growths_on len (λ u. growths limit u ns) first ++ growths limit s ms
growths_from limit len None s ns ms rest never = absurd (cc)
growths_from limit len (Some u) s ns ms rest there = ap (λ l. growth len u.len ++ l) (rest u there) ∙ sym (append_assoc (growth len u.len) (growths limit u ns) (growths limit s ms))

-- and behind all of them
growths_behind : (limit : ℕ) (r s : Room) (ns ms : List ℕ) → room_behind limit r ns ≡ Some s → growths limit r (ns ++ ms) ≡ growths limit r ns ++ growths limit s ms
growths_behind limit r s [] ms behind = let here : r ≡ s = cc in ap (λ q. growths limit q ms) here
growths_behind limit r s (n ∷ ns) ms behind = growths_from limit r.len (room_left limit r n) s ns ms (λ u there. growths_behind limit u s ns ms there) behind

-- where no record fits, and the file can't grow so far, there is no growth
no_growth : (len need limit : ℕ) → limit < len + need → grown_length len need limit ≡ None
no_growth len need limit past =
    elim (cases_lt limit (usual_length len need)) [
      | inl usual ↦ grind (arith, past, usual)
      | inr low ↦ absurd (omega (arith, past, low))
    ]

no_room_left : (f : Form) (a b : List ℕ) (n limit len need : ℕ) → HasNoRoom f a b n limit len need → room_left limit (room_in f a) n ≡ None
no_room_left f a b n limit len need h =
    let none : taken (free_pairs f a (free_of f a)) n ≡ None = ap (taken_as (free_pairs f a (free_of f a)) n) h.no_room.none_fits in
    let short : grown_length (length a) (24 + n) limit ≡ None = no_growth (length a) (24 + n) limit h.no_room.past in
    rw none (rw short refl)

-- pairs behind those that an image holds
module _ (limit : ℕ) (first : List ℕ) (f : Form) (a : List ℕ) (given : List (List ℕ × List ℕ)) (holds : HoldsPairs limit first f a given) where
  growths_then : (rest : List (List ℕ × List ℕ)) → growths_of limit f first (given ++ rest) ≡ growths_of limit f first given ++ growths limit (room_in f a) (record_lengths rest)
  growths_then rest =
      ap (growths limit (room_in f first)) (map-append (λ (q : List ℕ × List ℕ). rec_len_for (length q.0) (length q.1)) given rest)
      ∙ growths_behind limit (room_in f first) (room_in f a) (record_lengths given) (record_lengths rest) holds.room

  module _ (p : List ℕ × List ℕ) (b : List ℕ) where
    -- the next one was added
    growths_next : (rest : List (List ℕ × List ℕ)) → Filled f a b (rec_len_for (length p.0) (length p.1)) limit
        → growths_of limit f first (given ++ p ∷ rest) ≡ growths_of limit f first given ++ (growth (length a) (length b) ++ growths limit (room_in f b) (record_lengths rest))
    growths_next rest filled =
        growths_then (p ∷ rest) ∙ ap (λ o. growths_of limit f first given ++ growths_on (length a) (λ u. growths limit u (record_lengths rest)) o) filled.room

    -- there was no room for it
    growths_end : (rest : List (List ℕ × List ℕ)) (len need : ℕ) → HasNoRoom f a b (rec_len_for (length p.0) (length p.1)) limit len need
        → growths_of limit f first (given ++ p ∷ rest) ≡ growths_of limit f first given
    growths_end rest len need full =
        growths_then (p ∷ rest)
        ∙ ap (λ o. growths_of limit f first given ++ growths_on (length a) (λ u. growths limit u (record_lengths rest)) o) (no_room_left f a b (rec_len_for (length p.0) (length p.1)) limit len need full)
        ∙ append-nil (growths_of limit f first given)

    module _ (from to : ℕ) (is_from : from ≡ length a) (is_to : to ≡ length b) (start old new : List Logged) (told : ToldAll (growths_of limit f first given) start old) where
      same_growth : growth from to ≡ growth (length a) (length b)
      same_growth = λ j. growth (is_from j) (is_to j)

      -- it was told
      pub told_next : Filled f a b (rec_len_for (length p.0) (length p.1)) limit → ToldAll (growth from to) old new → ToldAll (growths_of limit f first (given ++ p ∷ [])) start new
      told_next filled more =
          let all = growths_next [] filled ∙ ap (λ ns. growths_of limit f first given ++ ns) (append-nil (growth (length a) (length b))) in
          subst (λ ns. ToldAll ns start new) (sym all)
          (told_joined (growths_of limit f first given) (growth (length a) (length b)) start old new told (subst (λ ns. ToldAll ns old new) same_growth more))

      -- or the last log refused it
      growth_untold : (rest : List (List ℕ × List ℕ)) (refusal : LogRefusal) → Filled f a b (rec_len_for (length p.0) (length p.1)) limit → ToldUpTo refusal (growth from to) old new
          → ToldUpTo refusal (growths_of limit f first (given ++ p ∷ rest)) start new
      growth_untold rest refusal filled up =
          let more = growths limit (room_in f b) (record_lengths rest) in
          subst (λ ns. ToldUpTo refusal ns start new) (sym (growths_next rest filled))
          (told_then_refused refusal (growths_of limit f first given) (growth (length a) (length b) ++ more) start old new told
          (refused_before refusal (growth (length a) (length b)) more old new (subst (λ ns. ToldUpTo refusal ns old new) same_growth up)))

      -- what logs heard where it wasn't added, or wasn't told of
      pub heard_next : (order rest : List (List ℕ × List ℕ)) → order ≡ given ++ p ∷ rest → (e : AddRefusal) → AddCause f a b p.0 p.1 limit e → AddHeard from to old new (Err e) → CopyHeard limit f first order start new (of_added e)
      heard_next order rest split (Insert (Full len need)) cause heard =
          subst (λ o. ToldAll (growths_of limit f first o) start new) (sym split)
          (subst (λ ns. ToldAll ns start new) (sym (growths_end rest len need cause)) (subst (ToldAll (growths_of limit f first given) start) (sym heard) told))
      heard_next order rest split (Insert Io) cause heard = record { given = given; rest = p ∷ rest; split = split; told = subst (ToldAll (growths_of limit f first given) start) (sym heard) told }
      heard_next order rest split (Insert Memory) cause heard = record { given = given; rest = p ∷ rest; split = split; told = subst (ToldAll (growths_of limit f first given) start) (sym heard) told }
      heard_next order rest split (Log refusal) cause heard = subst (λ o. ToldUpTo refusal (growths_of limit f first o) start new) (sym split) (growth_untold rest refusal cause.filled heard)

-- what an insert made of an image, where its length was looked at before and after
module _ (f k : Form) (a v w b key value : List ℕ) (limit : ℕ) (form : k ≡ f) (image : v ≡ a) (later : b ≡ w) (A : AcceptWith f a []) where
  accepted_there : AcceptWith k v []
  accepted_there = moved (λ x i. AcceptWith x i []) k f v a (sym form) (sym image) A

  pub inserted_between : map_of f a key ≡ None → (AcceptWith k v [] → map_of k v key ≡ None → Added k v w key value)
      → (AcceptWith k v [] → map_of k v key ≡ None → Filled k v w (rec_len_for (length key) (length value)) limit) → Inserted f a b key value limit
  inserted_between none added filled =
      let absent : map_of k v key ≡ None = moved (λ x i. map_of x i key ≡ None) k f v a (sym form) (sym image) none in
      subst (λ i. Inserted f a i key value limit) (sym later)
      (moved (λ x i. Inserted x i w key value limit) f k a v form image (record { added = added accepted_there absent; filled = filled accepted_there absent }))

  pub unadded_between : (e : InsertRefusal) → (AcceptWith k v [] → InsertCause k v w (rec_len_for (length key) (length value)) limit e) → InsertCause f a w (rec_len_for (length key) (length value)) limit e
  unadded_between e cause = moved (λ x i. InsertCause x i w (rec_len_for (length key) (length value)) limit e) f k a v form image (cause accepted_there)
