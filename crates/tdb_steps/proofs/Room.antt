-- A turn of a machine ends with Full exactly where the image has no room for what its command stores.
use Rattle.std.proofs.Common.{◌≡◌, ℕ, ◌+◌, ◌<◌, ◌≤◌, ◌++◌, List, length, Bool, true, false, Option, None, Some, refl, sym, ◌∙◌, ap, subst, inl, inr, ◌⊎◌, arith}
use Rattle.std.specs.Prelude.{is_some, if◌then◌else◌}
use Rattle.std.specs.FinMap.{get}
use Rattle.std.proofs.lemmas.Bool.{cases_lt, eqb-true}
use Rattle.tdb_space.specs.Form.{Form}
use Rattle.tdb_space.specs.Chain.{free_of}
use Rattle.tdb_space.specs.Pairs.{map_of}
use Rattle.tdb_space.specs.NewRecord.{rec_len_for}
use Rattle.tdb_space.specs.Extents.{HandPair}
use Rattle.tdb_space.specs.Accepted.{AcceptWith}
use Rattle.tdb_free.specs.FreeList.{free_pairs, first_fit}
use Rattle.tdb_free.specs.Growth.{TakenBy, grown_length, usual_length}
use Rattle.tdb_free.specs.Growth.TakenBy.{as_it_was, after_growth}
use Rattle.tdb_chain.specs.declared.place.Place.{Place}
use Rattle.tdb_chain.specs.Place.{IsFound}
use Rattle.tdb_locks.specs.declared.turn.Reply.{Reply}
use Rattle.tdb_locks.specs.declared.turn.Turn.{Turn}
use Rattle.tdb_locks.specs.declared.turn.Turn.TheVariants as Turns
use Rattle.tdb_law.specs.Commands as Law
use Rattle.tdb_law.specs.Commands.Command.{OnMap}
use Rattle.tdb_law.specs.Commands.Reply.{Done, Memory, Full}
use Rattle.tdb_law.specs.Commands.Turn.{Ends}
use Rattle.tdb_law.specs.Openers.{Map, Task, has}
use Rattle.tdb_law.specs.MapCommands.{reply, fetched, map_fills}
use Rattle.tdb_law.specs.Ends.{store_ends}
use Rattle.tdb_law.specs.Images.{image_map}
use Rattle.tdb_law.proofs.HandsOut.{image_answers}
use Rattle.tdb_steps.specs.declared.flag.Flag.{Flag}
use Rattle.tdb_steps.specs.declared.flag.Flag.TheVariants as Flags
use Rattle.tdb_steps.specs.declared.plain.Plain.{Plain}
use Rattle.tdb_steps.specs.declared.plain.Plain.TheVariants.{Fetch, Has, Store, Append, Delete, Wipe}
use Rattle.tdb_steps.specs.declared.stage.Stage.{Stage}
use Rattle.tdb_steps.specs.declared.stage.Stage.TheVariants.{Begun, Chained, Looked, Listed, Taken, Changed, Wiping, Ending}
use Rattle.tdb_steps.specs.declared.stage.Next.{Next}
use Rattle.tdb_steps.specs.Asked.{stored, joined}
use Rattle.tdb_steps.specs.Stages.{hands_in, IsIdle, IsTooShort}
use Rattle.tdb_steps.specs.Turns.{TakesRightly, UpdatesRightly, Finds}
use Rattle.tdb_steps.specs.Order.{StoreAfter, IsAfter}
use Rattle.tdb_steps.specs.PlainCommands.{command_of, store_of, reply_of, turn_of, IsMapOf}
use Rattle.tdb_steps.specs.Machines.{Doing, DoingKnows, MapTurned, MapRow}
use Rattle.tdb_steps.specs.Machines.MapTurned.{map_waits, map_goes_on, map_changes, map_answers, map_starves, map_is_full, map_finishes}
use Rattle.tdb_steps.specs.LockTurns.{ActRightly}
use Rattle.tdb_words.specs.declared.record.Rec.{Rec}
use Rattle.tdb_words.specs.Record.{rec_at}
use Rattle.tdb_steps.proofs.FoundOnce.{found_once}
use Rattle.tdb_steps.proofs.Lawful.{is_command, done_ok}
use Rattle.tdb_steps.proofs.Turning.{done_alike}
use Rattle.tdb_steps.specs.Memory.{may_starve, StarvesOutside}
use Rattle.tdb_steps.specs.Room.{stored_pair, HasNoRoom, FullExactly, FullAtTake, FullOutside, IsAppend}

-- a file grows by no less than is needed
pub grown_more : (len need limit to : ℕ) → grown_length len need limit ≡ Some to → limit < len + need → ⊥
grown_more len need limit to e past =
    elim (cases_lt limit (usual_length len need)) [
      | inl more ↦ grind (arith, e, more, past)
      | inr low ↦ omega (arith, low, past)
    ]

-- no reply on a map says that space is wanting
fetch_not : (o : Option (List ℕ)) (len need : ℕ) → fetched o ≡ Full len need → ⊥
fetch_not None len need e = cc e
fetch_not (Some v) len need e = cc e

either_not : (z : Bool) (p q : Law.Reply) (len need : ℕ) → (p ≡ Full len need → ⊥) → (q ≡ Full len need → ⊥) → (if z then p else q) ≡ Full len need → ⊥
either_not true p q len need one two e = one e
either_not false p q len need one two e = two e

pub reply_not : (c : Law.MapCommand) (m : Map) (len need : ℕ) → reply c m ≡ Full len need → ⊥
reply_not (Law.MapCommand.Fetch k) m len need e = fetch_not (get m k) len need e
reply_not (Law.MapCommand.Has k) m len need e = either_not (has m k) Law.Reply.Yes Law.Reply.No len need (λ z. cc z) (λ z. cc z) e
reply_not (Law.MapCommand.Delete k) m len need e = either_not (has m k) Done Law.Reply.KeyMissing len need (λ z. cc z) (λ z. cc z) e
reply_not (Law.MapCommand.Store k v) m len need e = cc e
reply_not (Law.MapCommand.Insert k v) m len need e = either_not (has m k) Law.Reply.KeyThere Done len need (λ z. cc z) (λ z. cc z) e
reply_not (Law.MapCommand.Modify k v) m len need e = either_not (has m k) Done Law.Reply.KeyMissing len need (λ z. cc z) (λ z. cc z) e
reply_not (Law.MapCommand.Append k v) m len need e = cc e
reply_not Law.MapCommand.Wipe m len need e = cc e
reply_not Law.MapCommand.Check m len need e = cc e

pub ends_so : {r s : Law.Reply} → Ends r ≡ Ends s → r ≡ s
ends_so e = cc

-- so a turn that ends so is of a command that stores
pub full_fills : (f : Form) (b : List ℕ) (c : Law.MapCommand) (n : ℕ) (m : Map) (turn : Law.Turn) (len need : ℕ) → turn ≡ Ends (Full len need) → MapTurned f b c n m turn → map_fills c ≡ true
full_fills f b c n m turn len need t (map_waits o byte is was M) = absurd (cc (sym t ∙ is))
full_fills f b c n m turn len need t (map_goes_on is same M) = absurd (cc (sym t ∙ is))
full_fills f b c n m turn len need t (map_changes is late was now done M) = absurd (cc (sym t ∙ is))
full_fills f b c n m turn len need t (map_answers r is late was says M) = absurd (reply_not c m len need (sym (ends_so (sym t ∙ is) ∙ says)))
full_fills f b c n m turn len need t (map_starves is was M) = absurd (cc (sym t ∙ is))
full_fills f b c n m turn len need t (map_is_full l k is fills late was done M) = fills
full_fills f b c n m turn len need t (map_finishes is made M) = absurd (cc (sym t ∙ is))

-- a reply in the words of the law that says so
full_reply : (r : Reply) (len need : ℕ) → reply_of r ≡ Full len need → r ≡ Reply.Full len need
full_reply Reply.Ok len need e = cc
full_reply (Reply.Value v) len need e = cc
full_reply (Reply.Pair k v) len need e = cc
full_reply Reply.End len need e = cc
full_reply Reply.KeyMissing len need e = cc
full_reply Reply.KeyThere len need e = cc
full_reply (Reply.Busy o b) len need e = cc
full_reply Reply.ReadOnly len need e = cc
full_reply Reply.NoTransaction len need e = cc
full_reply Reply.InTransaction len need e = cc
full_reply Reply.Nesting len need e = cc
full_reply Reply.Doomed len need e = cc
full_reply (Reply.HeldLocks n) len need e = cc
full_reply Reply.NotLocked len need e = cc
full_reply (Reply.Full l k) len need e = cc
full_reply Reply.Memory len need e = cc
full_reply Reply.Yes len need e = cc
full_reply Reply.No len need e = cc
full_reply (Reply.Number n) len need e = cc

some_is : {p q : List ℕ × List ℕ} → Some p ≡ Some q → p ≡ q
some_is e = cc

-- A command that stores this value of this key lacks room for just these.
module _ (f : Form) (a key value : List ℕ) (limit : ℕ) (c : Law.Command) (stores : stored_pair c (map_of f a) ≡ Some (key, value)) (len need : ℕ) (N : HasNoRoom f a limit c len need) where
  lack_key : N.key ≡ key
  lack_key = ap (λ (p : List ℕ × List ℕ). p.0) (some_is (sym N.stores ∙ stores))

  lack_value : N.value ≡ value
  lack_value = ap (λ (p : List ℕ × List ℕ). p.1) (some_is (sym N.stores ∙ stores))

  lack_len : rec_len_for (length N.key) (length N.value) ≡ rec_len_for (length key) (length value)
  lack_len = ap (λ k. rec_len_for (length k) (length N.value)) lack_key ∙ ap (λ v. rec_len_for (length key) (length v)) lack_value

  lack_found : IsFound f a key N.place
  lack_found = subst (λ k. IsFound f a k N.place) lack_key N.found

  lack_short : IsTooShort (length value) N.place
  lack_short = subst (λ v. IsTooShort (length v) N.place) lack_value N.too_short

-- The turn that takes a record, of a command that stores this value of this key, whose record was found.
module _ (f : Form) (a b key value : List ℕ) (limit : ℕ) (found : Option Place) (hands : List HandPair) (A : AcceptWith f a hands) (c : Law.Command) (stores : stored_pair c (map_of f a) ≡ Some (key, value))
    (F : IsFound f a key found) (short : IsTooShort (length value) found) where
  abbrev rec_len : ℕ
  rec_len = rec_len_for (length key) (length value)

  -- what such a turn has come to
  abbrev Takes : Stage → Turn → Type 0
  Takes onto Turns.Step = TakesRightly f a b rec_len limit found (Next.Step onto)
  Takes onto (Turns.Blocked owner byte) = ⊥
  Takes onto (Turns.Done r) = TakesRightly f a b rec_len limit found (Next.Done r)

  full_only : (r : Reply) (len need : ℕ) → r ≡ Reply.Full len need → TakesRightly f a b rec_len limit found (Next.Done r) → HasNoRoom f a limit c len need
  full_only r len need is T =
      let R = subst (λ z. TakesRightly f a b rec_len limit found (Next.Done z)) is T in
      let N = R.2 hands A in
      record {
        key = key;
        value = value;
        stores = stores;
        place = found;
        found = F;
        too_short = short;
        none_fits = N.none_fits;
        past = (let past = N.past in let l = R.0 in let k = R.1 in omega (arith, past, l, k));
        length_is = R.0;
        need_is = R.1;
      }

  only_by : (onto : Stage) (turn : Turn) (len need : ℕ) → turn_of turn ≡ Ends (Full len need) → Takes onto turn → HasNoRoom f a limit c len need
  only_by onto Turns.Step len need t T = absurd (cc t)
  only_by onto (Turns.Blocked owner byte) len need t T = absurd (cc t)
  only_by onto (Turns.Done r) len need t T = full_only r len need (full_reply r len need (ends_so t)) T

  -- where there is no room no record is taken
  taken_not : first_fit (free_pairs f a (free_of f a)) rec_len ≡ None → limit < length a + (24 + rec_len) → (hand : HandPair) → TakenBy f a b (free_of f a) rec_len limit hand → ⊥
  taken_not none past hand (as_it_was T) = cc (sym none ∙ T.first)
  taken_not none past hand (after_growth T) = grown_more (length a) (24 + rec_len) limit T.to T.grown past

  abbrev Either : ℕ → ℕ → Law.Turn → Type 0
  Either len need turn = (turn ≡ Ends (Full len need)) ⊎ (turn ≡ Ends Memory)

  starved : (r : Reply) (len need : ℕ) → r ≡ Reply.Memory → Either len need (Ends (reply_of r))
  starved r len need is = inr (ap (λ z. Ends (reply_of z)) is)

  ended_by : (r : Reply) (len need : ℕ) → len ≡ length a → need ≡ 24 + rec_len → TakesRightly f a b rec_len limit found (Next.Done r) → Either len need (Ends (reply_of r))
  ended_by Reply.Ok len need l k T = starved Reply.Ok len need T
  ended_by (Reply.Value v) len need l k T = starved (Reply.Value v) len need T
  ended_by (Reply.Pair q v) len need l k T = starved (Reply.Pair q v) len need T
  ended_by Reply.End len need l k T = starved Reply.End len need T
  ended_by Reply.KeyMissing len need l k T = starved Reply.KeyMissing len need T
  ended_by Reply.KeyThere len need l k T = starved Reply.KeyThere len need T
  ended_by (Reply.Busy o z) len need l k T = starved (Reply.Busy o z) len need T
  ended_by Reply.ReadOnly len need l k T = starved Reply.ReadOnly len need T
  ended_by Reply.NoTransaction len need l k T = starved Reply.NoTransaction len need T
  ended_by Reply.InTransaction len need l k T = starved Reply.InTransaction len need T
  ended_by Reply.Nesting len need l k T = starved Reply.Nesting len need T
  ended_by Reply.Doomed len need l k T = starved Reply.Doomed len need T
  ended_by (Reply.HeldLocks n) len need l k T = starved (Reply.HeldLocks n) len need T
  ended_by Reply.NotLocked len need l k T = starved Reply.NotLocked len need T
  ended_by (Reply.Full x y) len need l k T = inl (ap (λ z. Ends (Full z y)) (T.0 ∙ sym l) ∙ ap (λ z. Ends (Full len z)) (T.1 ∙ sym k))
  ended_by Reply.Memory len need l k T = starved Reply.Memory len need T
  ended_by Reply.Yes len need l k T = starved Reply.Yes len need T
  ended_by Reply.No len need l k T = starved Reply.No len need T
  ended_by (Reply.Number n) len need l k T = starved (Reply.Number n) len need T

  taken_by : (onto : Stage) → first_fit (free_pairs f a (free_of f a)) rec_len ≡ None → limit < length a + (24 + rec_len) → TakesRightly f a b rec_len limit found (Next.Step onto) → ⊥
  taken_by Begun none past T = T
  taken_by Chained none past T = T
  taken_by (Looked place) none past T = T
  taken_by (Listed place) none past T = T
  taken_by (Taken place hand) none past T = taken_not none past hand (T.1 hands A)
  taken_by (Changed hand) none past T = T
  taken_by (Wiping locked) none past T = T
  taken_by Ending none past T = T

  always_so : (onto : Stage) (turn : Turn) (len need : ℕ) → first_fit (free_pairs f a (free_of f a)) rec_len ≡ None → limit < length a + (24 + rec_len) → len ≡ length a → need ≡ 24 + rec_len → Takes onto turn → Either len need (turn_of turn)
  always_so onto Turns.Step len need none past l k T = absurd (taken_by onto none past T)
  always_so onto (Turns.Blocked owner byte) len need none past l k T = absurd T
  always_so onto (Turns.Done r) len need none past l k T = ended_by r len need l k T

  always_by : (onto : Stage) (turn : Turn) (len need : ℕ) → HasNoRoom f a limit c len need → Takes onto turn → Either len need (turn_of turn)
  always_by onto turn len need N T =
      let long = lack_len f a key value limit c stores len need N in
      let k : need ≡ 24 + rec_len = N.need_is ∙ ap (λ n. 24 + n) long in
      always_so onto turn len need (subst (λ n. first_fit (free_pairs f a (free_of f a)) n ≡ None) long N.none_fits)
      (let past = N.past in let l = N.length_is in omega (arith, past, l, k)) N.length_is k T

  pub exactly_by : (onto : Stage) (turn : Turn) → Takes onto turn → FullExactly f a limit c (turn_of turn)
  exactly_by onto turn T = record { only = λ len need t. only_by onto turn len need t T; always = λ len need N. always_by onto turn len need N T }

-- a store is at its take after three steps
at_take : (stage : Stage) (n : ℕ) → StoreAfter stage n → n ≡ 3 → (found : Option Place) × (stage ≡ Listed found)
at_take Begun n is three = absurd (omega (arith, is, three))
at_take Chained n is three = absurd (omega (arith, is, three))
at_take (Looked found) n is three = absurd (omega (arith, is, three))
at_take (Listed found) n is three = (found, refl)
at_take (Taken found hand) n is three = absurd (omega (arith, is, three))
at_take (Changed hand) n is three = absurd (omega (arith, is, three))
at_take (Wiping locked) n is three = elim is [ ]
at_take Ending n is three = elim is [ inl five ↦ absurd (omega (arith, five, three)) | inr six ↦ absurd (omega (arith, six, three)) ]

at_look : (stage : Stage) (n : ℕ) → StoreAfter stage n → n ≡ 1 → stage ≡ Chained
at_look Begun n is one = absurd (omega (arith, is, one))
at_look Chained n is one = refl
at_look (Looked found) n is one = absurd (omega (arith, is, one))
at_look (Listed found) n is one = absurd (omega (arith, is, one))
at_look (Taken found hand) n is one = absurd (omega (arith, is, one))
at_look (Changed hand) n is one = absurd (omega (arith, is, one))
at_look (Wiping locked) n is one = elim is [ ]
at_look Ending n is one = elim is [ inl five ↦ absurd (omega (arith, five, one)) | inr six ↦ absurd (omega (arith, six, one)) ]

-- where a command would be done on the map, its turn ends so, or for want of memory or space
ends_as : (f : Form) (b : List ℕ) (c : Law.MapCommand) (n : ℕ) (m : Map) (turn : Law.Turn) (r : Law.Reply) → turn ≡ Ends r → reply c m ≡ Done → MapTurned f b c n m turn → (r ≡ Done) ⊎ ((r ≡ Memory) ⊎ ((len : ℕ) × (need : ℕ) × (r ≡ Full len need)))
ends_as f b c n m turn r t done (map_waits o byte is was M) = absurd (cc (sym t ∙ is))
ends_as f b c n m turn r t done (map_goes_on is same M) = absurd (cc (sym t ∙ is))
ends_as f b c n m turn r t done (map_changes is late was now granted M) = absurd (cc (sym t ∙ is))
ends_as f b c n m turn r t done (map_answers s is late was says M) = inl (ends_so (sym t ∙ is) ∙ (says ∙ done))
ends_as f b c n m turn r t done (map_starves is was M) = inr (inl (ends_so (sym t ∙ is)))
ends_as f b c n m turn r t done (map_is_full len need is fills late was granted M) = inr (inr (len, need, ends_so (sym t ∙ is)))
ends_as f b c n m turn r t done (map_finishes is made M) = inl (ends_so (sym t ∙ is))

-- The look of a command that stores so many bytes under a key, whose record is too short.
module _ (f : Form) (a b key : List ℕ) (bytes : ℕ) (others : List HandPair) (A : AcceptWith f a others) where
  not_updated : (p q : Option Place) → IsFound f a key p → IsFound f a key q → IsTooShort bytes q → UpdatesRightly a b bytes p (Next.Done Reply.Ok) → ⊥
  not_updated None q P Q short U = U
  not_updated (Some p) None P Q short U = cc (sym P.mapped ∙ Q)
  not_updated (Some p) (Some q) P Q short U =
      let same : p.rec ≡ q.rec = P.place.header ∙ (ap (rec_at f.order a) (found_once f a key others A p q P Q) ∙ sym Q.place.header) in
      let fits = subst (λ (r : Rec). r.key_len + bytes + 4 ≤ r.rec_len) same U in
      omega (arith, fits, short)

  looks_by : (answer : Reply) (r : Law.Reply) → reply_of answer ≡ r → Finds f a key (λ place. UpdatesRightly a b bytes place (Next.Done answer)) → (q : Option Place) → IsFound f a key q → IsTooShort bytes q → r ≡ Done → ⊥
  looks_by answer r is finds q Q short done =
      let ok : answer ≡ Reply.Ok = done_ok answer (done_alike answer ∙ ap Law.is_done (is ∙ done)) in
      let F = (subst (λ x. Finds f a key (λ place. UpdatesRightly a b bytes place (Next.Done x))) ok finds) others A in
      not_updated F.0 q F.1 Q short F.2

-- the pair that a store stores whose flag takes the key
store_pair : (flag : Flag) (k v : List ℕ) (map : List ℕ → Option (List ℕ)) (o : Option (List ℕ)) → map k ≡ o → stored flag o ≡ Reply.Ok → stored_pair (OnMap (store_of flag k v)) map ≡ Some (k, v)
store_pair Flags.Replace k v map o e ok = refl
store_pair Flags.Insert k v map None e ok = ap (λ z. if is_some z then None else Some (k, v)) e
store_pair Flags.Insert k v map (Some old) e ok = absurd (cc ok)
store_pair Flags.Modify k v map None e ok = absurd (cc ok)
store_pair Flags.Modify k v map (Some old) e ok = ap (λ z. if is_some z then Some (k, v) else None) e

-- a flag takes the key where a pair is stored
pair_ok : (flag : Flag) (k v : List ℕ) (map : List ℕ → Option (List ℕ)) (o : Option (List ℕ)) (p : List ℕ × List ℕ) → map k ≡ o → stored_pair (OnMap (store_of flag k v)) map ≡ Some p → stored flag o ≡ Reply.Ok
pair_ok Flags.Replace k v map o p e stores = refl
pair_ok Flags.Insert k v map None p e stores = refl
pair_ok Flags.Insert k v map (Some old) p e stores = absurd (cc (sym (ap (λ z. if is_some z then None else Some (k, v)) e) ∙ stores))
pair_ok Flags.Modify k v map None p e stores = absurd (cc (sym (ap (λ z. if is_some z then Some (k, v) else None) e) ∙ stores))
pair_ok Flags.Modify k v map (Some old) p e stores = refl

-- a store ends so only after three steps
three_steps : (n len need : ℕ) (P : Type 0) → (store_ends n (Full len need) ≡ true) ⊎ ((Full len need ≡ Memory) × P) → n ≡ 3
three_steps n len need P (inl is) = eqb-true n 3 is
three_steps n len need P (inr starves) = absurd (cc starves.0)

store_late : (flag : Flag) (k v : List ℕ) (n : ℕ) (turn : Law.Turn) (len need : ℕ) → turn ≡ Ends (Full len need) → MapRow (store_of flag k v) n turn → n ≡ 3
store_late Flags.Replace k v n turn len need t row = three_steps n len need _ (subst (MapRow (Law.MapCommand.Store k v) n) t row)
store_late Flags.Insert k v n turn len need t row = three_steps n len need _ (subst (MapRow (Law.MapCommand.Insert k v) n) t row)
store_late Flags.Modify k v n turn len need t row = three_steps n len need _ (subst (MapRow (Law.MapCommand.Modify k v) n) t row)

module _ (f : Form) (a b : List ℕ) (chain : ℕ) (seqnum : Bool) (whole : Option (List ℕ)) (n limit : ℕ) (stood_on : List ℕ) (others : List HandPair) (e : Doing) (turn : Turn) where
  abbrev At : Plain → Stage → Doing
  At command stage = record { command = command; chain = chain; seqnum = seqnum; stage = stage; whole = whole }

  abbrev m : Map
  m = image_map f a

  -- a command that stores nothing
  none_full : (c : Law.MapCommand) → map_fills c ≡ false → ((map : List ℕ → Option (List ℕ)) → stored_pair (OnMap c) map ≡ None) → MapTurned f b c n m (turn_of turn) → FullAtTake f a limit (record { command = OnMap c; steps = n }) (turn_of turn)
  none_full c spares none M = record {
    only = λ len need t. absurd (cc (sym spares ∙ full_fills f b c n m (turn_of turn) len need t M));
    takes = λ three. record {
      only = λ len need t. absurd (cc (sym spares ∙ full_fills f b c n m (turn_of turn) len need t M));
      always = λ len need N. absurd (cc (sym (none (map_of f a)) ∙ N.stores));
    };
    looks = λ one len need N r t. absurd (cc (sym (none (map_of f a)) ∙ N.stores));
  }

  -- a store at its take
  store_takes : (flag : Flag) (k v : List ℕ) (found : Option Place) (to : Turn) → ActRightly f a b (At (Store k v flag) (Listed found)) e limit stood_on to → AcceptWith f a others → DoingKnows f a (At (Store k v flag) (Listed found))
      → FullExactly f a limit (OnMap (store_of flag k v)) (turn_of to)
  store_takes flag k v found Turns.Step R A K = exactly_by f a b k v limit found others A (OnMap (store_of flag k v)) (store_pair flag k v (map_of f a) (map_of f a k) refl K.found.granted) K.found.found K.wants e.stage Turns.Step R
  store_takes flag k v found (Turns.Blocked owner byte) R A K = absurd R
  store_takes flag k v found (Turns.Done r) R A K = exactly_by f a b k v limit found others A (OnMap (store_of flag k v)) (store_pair flag k v (map_of f a) (map_of f a k) refl K.found.granted) K.found.found K.wants e.stage (Turns.Done r) R

  -- at its look
  store_looks : (flag : Flag) (k v : List ℕ) (to : Turn) → ActRightly f a b (At (Store k v flag) Chained) e limit stood_on to → AcceptWith f a others → (r : Law.Reply) → turn_of to ≡ Ends r → r ≡ Done → (q : Option Place) → IsFound f a k q
      → IsTooShort (length v) q → ⊥
  store_looks flag k v Turns.Step R A r t done q Q short = cc t
  store_looks flag k v (Turns.Blocked owner byte) R A r t done q Q short = cc t
  store_looks flag k v (Turns.Done answer) R A r t done q Q short = looks_by f a b k (length v) others A answer r (ends_so t) R q Q short done

  -- and so an append
  append_takes : (k v : List ℕ) (found : Option Place) (to : Turn) → ActRightly f a b (At (Append k v) (Listed found)) e limit stood_on to → AcceptWith f a others → DoingKnows f a (At (Append k v) (Listed found))
      → FullExactly f a limit (OnMap (Law.MapCommand.Append k v)) (turn_of to)
  append_takes k v found Turns.Step R A K = exactly_by f a b k (joined (map_of f a k) v) limit found others A (OnMap (Law.MapCommand.Append k v)) refl K.found.found K.wants e.stage Turns.Step (R (K.joined k v refl))
  append_takes k v found (Turns.Blocked owner byte) R A K = absurd R
  append_takes k v found (Turns.Done r) R A K = exactly_by f a b k (joined (map_of f a k) v) limit found others A (OnMap (Law.MapCommand.Append k v)) refl K.found.found K.wants e.stage (Turns.Done r) (R (K.joined k v refl))

  append_looks : (k v : List ℕ) (to : Turn) → ActRightly f a b (At (Append k v) Chained) e limit stood_on to → AcceptWith f a others → (r : Law.Reply) → turn_of to ≡ Ends r → r ≡ Done → (q : Option Place) → IsFound f a k q
      → IsTooShort (length (joined (map_of f a k) v)) q → ⊥
  append_looks k v Turns.Step R A r t done q Q short = cc t
  append_looks k v (Turns.Blocked owner byte) R A r t done q Q short = cc t
  append_looks k v (Turns.Done answer) R A r t done q Q short = looks_by f a b k (length (joined (map_of f a k) v)) others A answer r (ends_so t) (R tt) q Q short done

  -- where a command would be done, a look that doesn't end so ends for want of memory
  memory_so : (c : Law.MapCommand) → reply c m ≡ Done → ((len need : ℕ) → turn_of turn ≡ Ends (Full len need) → n ≡ 3) → n ≡ 1 → MapTurned f b c n m (turn_of turn) → (r : Law.Reply) → turn_of turn ≡ Ends r → (r ≡ Done → ⊥) → r ≡ Memory
  memory_so c done late one M r t never = elim (ends_as f b c n m (turn_of turn) r t done M) [
    | inl is ↦ absurd (never is)
    | inr rest ↦ elim rest [
      | inl starves ↦ starves
      | inr full ↦ absurd (let three = late full.0 full.1 (t ∙ ap Ends full.2) in omega (arith, one, three))
    ]
  ]

  full_by : (command : Plain) (stage : Stage) → IsAfter command stage n → AcceptWith f a (hands_in stage ++ others) → DoingKnows f a (At command stage) → MapRow (command_of command) n (turn_of turn)
      → MapTurned f b (command_of command) n m (turn_of turn) → ((IsIdle stage → ⊥) → ActRightly f a b (At command stage) e limit stood_on turn)
      → FullAtTake f a limit (record { command = OnMap (command_of command); steps = n }) (turn_of turn)
  full_by (Fetch k) stage is A K row M R = none_full (Law.MapCommand.Fetch k) refl (λ map. refl) M
  full_by (Has k) stage is A K row M R = none_full (Law.MapCommand.Has k) refl (λ map. refl) M
  full_by (Store k v flag) stage is A K row M R = record {
    only = λ len need t. store_late flag k v n (turn_of turn) len need t row;
    takes = λ three.
        let at = at_take stage n is three in
        store_takes flag k v at.0 turn (subst (λ x. (IsIdle x → ⊥) → ActRightly f a b (At (Store k v flag) x) e limit stood_on turn) at.1 R (λ idle. idle))
        (subst (λ x. AcceptWith f a (hands_in x ++ others)) at.1 A) (subst (λ x. DoingKnows f a (At (Store k v flag) x)) at.1 K);
    looks = λ one len need N r t.
        let at = at_look stage n is one in
        let c = OnMap (store_of flag k v) in
        let ok = pair_ok flag k v (map_of f a) (map_of f a k) (N.key, N.value) refl N.stores in
        let stores = store_pair flag k v (map_of f a) (map_of f a k) refl ok in
        memory_so (store_of flag k v) ((is_command (Store k v flag) tt).replies m ∙ (ap (λ o. reply_of (stored flag o)) (image_answers f a k) ∙ ap reply_of ok)) (λ l z u. store_late flag k v n (turn_of turn) l z u row) one M r t
        (λ done. store_looks flag k v turn (subst (λ x. (IsIdle x → ⊥) → ActRightly f a b (At (Store k v flag) x) e limit stood_on turn) at R (λ idle. idle))
        (subst (λ x. AcceptWith f a (hands_in x ++ others)) at A) r t done N.place (lack_found f a k v limit c stores len need N) (lack_short f a k v limit c stores len need N));
  }
  full_by (Append k v) stage is A K row M R = record {
    only = λ len need t. three_steps n len need _ (subst (MapRow (Law.MapCommand.Append k v) n) t row);
    takes = λ three.
        let at = at_take stage n is three in
        append_takes k v at.0 turn (subst (λ x. (IsIdle x → ⊥) → ActRightly f a b (At (Append k v) x) e limit stood_on turn) at.1 R (λ idle. idle))
        (subst (λ x. AcceptWith f a (hands_in x ++ others)) at.1 A) (subst (λ x. DoingKnows f a (At (Append k v) x)) at.1 K);
    looks = λ one len need N r t.
        let at = at_look stage n is one in
        let c = OnMap (Law.MapCommand.Append k v) in
        let w = joined (map_of f a k) v in
        memory_so (Law.MapCommand.Append k v) refl (λ l z u. three_steps n l z _ (subst (MapRow (Law.MapCommand.Append k v) n) u row)) one M r t
        (λ done. append_looks k v turn (subst (λ x. (IsIdle x → ⊥) → ActRightly f a b (At (Append k v) x) e limit stood_on turn) at R (λ idle. idle))
        (subst (λ x. AcceptWith f a (hands_in x ++ others)) at A) r t done N.place (lack_found f a k w limit c refl len need N) (lack_short f a k w limit c refl len need N));
  }
  full_by (Delete k) stage is A K row M R = none_full (Law.MapCommand.Delete k) refl (λ map. refl) M
  full_by Wipe stage is A K row M R = none_full Law.MapCommand.Wipe refl (λ map. refl) M

-- A turn of a machine ends with Full exactly where there is no room.
pub full_at_take : (f : Form) (a b : List ℕ) (d e : Doing) (n limit : ℕ) (stood_on : List ℕ) (others : List HandPair) (turn : Turn) → IsAfter d.command d.stage n → AcceptWith f a (hands_in d.stage ++ others) → DoingKnows f a d
    → MapRow (command_of d.command) n (turn_of turn) → ((m : Map) → IsMapOf f a m → MapTurned f b (command_of d.command) n m (turn_of turn)) → ((IsIdle d.stage → ⊥) → ActRightly f a b d e limit stood_on turn)
    → FullAtTake f a limit (record { command = OnMap (command_of d.command); steps = n }) (turn_of turn)
full_at_take f a b d e n limit stood_on others turn is A K row map R =
    full_by f a b d.chain d.seqnum d.whole n limit stood_on others e turn d.command d.stage is A K row (map (image_map f a) (λ k. image_answers f a k)) R

-- Outside a transaction neither a take nor a look but that of an append ends for want of memory.
abbrev Starves : Form → Law.Command → ℕ → Type 0
Starves f c n = (b : Law.MapCommand) → c ≡ OnMap b → may_starve f b n ≡ true

take_fed : (f : Form) (c : Law.Command) (n : ℕ) (map : List ℕ → Option (List ℕ)) (p : List ℕ × List ℕ) → stored_pair c map ≡ Some p → n ≡ 3 → Starves f c n → ⊥
take_fed f (OnMap (Law.MapCommand.Store k v)) n map p stores three S = let e = subst (λ i. may_starve f (Law.MapCommand.Store k v) i ≡ true) three (S (Law.MapCommand.Store k v) refl) in cc e
take_fed f (OnMap (Law.MapCommand.Insert k v)) n map p stores three S = let e = subst (λ i. may_starve f (Law.MapCommand.Insert k v) i ≡ true) three (S (Law.MapCommand.Insert k v) refl) in cc e
take_fed f (OnMap (Law.MapCommand.Modify k v)) n map p stores three S = let e = subst (λ i. may_starve f (Law.MapCommand.Modify k v) i ≡ true) three (S (Law.MapCommand.Modify k v) refl) in cc e
take_fed f (OnMap (Law.MapCommand.Append k v)) n map p stores three S = let e = subst (λ i. may_starve f (Law.MapCommand.Append k v) i ≡ true) three (S (Law.MapCommand.Append k v) refl) in cc e
take_fed f (OnMap (Law.MapCommand.Fetch k)) n map p stores three S = cc stores
take_fed f (OnMap (Law.MapCommand.Has k)) n map p stores three S = cc stores
take_fed f (OnMap (Law.MapCommand.Delete k)) n map p stores three S = cc stores
take_fed f (OnMap Law.MapCommand.Wipe) n map p stores three S = cc stores
take_fed f (OnMap Law.MapCommand.Check) n map p stores three S = cc stores
take_fed f (Law.Command.OnLocks l) n map p stores three S = cc stores
take_fed f Law.Command.Seqnum n map p stores three S = cc stores
take_fed f (Law.Command.OnGroup h) n map p stores three S = cc stores
take_fed f (Law.Command.OnWalk w) n map p stores three S = cc stores

look_fed : (f : Form) (c : Law.Command) (n : ℕ) (map : List ℕ → Option (List ℕ)) (p : List ℕ × List ℕ) → stored_pair c map ≡ Some p → n ≡ 1 → Starves f c n → IsAppend c
look_fed f (OnMap (Law.MapCommand.Store k v)) n map p stores one S = let e = subst (λ i. may_starve f (Law.MapCommand.Store k v) i ≡ true) one (S (Law.MapCommand.Store k v) refl) in absurd (cc e)
look_fed f (OnMap (Law.MapCommand.Insert k v)) n map p stores one S = let e = subst (λ i. may_starve f (Law.MapCommand.Insert k v) i ≡ true) one (S (Law.MapCommand.Insert k v) refl) in absurd (cc e)
look_fed f (OnMap (Law.MapCommand.Modify k v)) n map p stores one S = let e = subst (λ i. may_starve f (Law.MapCommand.Modify k v) i ≡ true) one (S (Law.MapCommand.Modify k v) refl) in absurd (cc e)
look_fed f (OnMap (Law.MapCommand.Append k v)) n map p stores one S = tt
look_fed f (OnMap (Law.MapCommand.Fetch k)) n map p stores one S = absurd (cc stores)
look_fed f (OnMap (Law.MapCommand.Has k)) n map p stores one S = absurd (cc stores)
look_fed f (OnMap (Law.MapCommand.Delete k)) n map p stores one S = absurd (cc stores)
look_fed f (OnMap Law.MapCommand.Wipe) n map p stores one S = absurd (cc stores)
look_fed f (OnMap Law.MapCommand.Check) n map p stores one S = absurd (cc stores)
look_fed f (Law.Command.OnLocks l) n map p stores one S = absurd (cc stores)
look_fed f Law.Command.Seqnum n map p stores one S = absurd (cc stores)
look_fed f (Law.Command.OnGroup h) n map p stores one S = absurd (cc stores)
look_fed f (Law.Command.OnWalk w) n map p stores one S = absurd (cc stores)

-- So outside one a turn ends with Full just where there is no room.
pub full_outside : (f : Form) (a : List ℕ) (limit : ℕ) (t : Task) (turn : Law.Turn) → FullAtTake f a limit t turn → StarvesOutside f t turn → FullOutside f a limit t turn
full_outside f a limit t turn F S = record {
  only = λ len need e. let three = F.only len need e in (three, (F.takes three).only len need e);
  takes = λ three len need N. elim ((F.takes three).always len need N) [
    | inl full ↦ full
    | inr none ↦ absurd (take_fed f t.command t.steps (map_of f a) (N.key, N.value) N.stores three (λ b is. S b is none))
  ];
  looks = λ one len need N r e.
      let wants : r ≡ Memory = F.looks one len need N r e in
      (wants, look_fed f t.command t.steps (map_of f a) (N.key, N.value) N.stores one (λ b is. S b is (e ∙ ap Ends wants)));
}
