-- The turns of a command, in the words of a world.
use Rattle.std.proofs.Common.{◌≡◌, ℕ, ◌+◌, ◌≤◌, inl, inr, ◌⊎◌, Bool, true, false, cond, List, Option, None, Some, refl, sym, ◌∙◌, ap, subst, arith, nat_le}
use Rattle.std.specs.FinMap.{get, insert, remove}
use Rattle.std.proofs.lemmas.Bool.{cases_Bool, false_from_ne_true}
use Rattle.tdb_space.specs.Form.{Form}
use Rattle.tdb_space.specs.Pairs.{map_of, same_key}
use Rattle.tdb_space.specs.Extents.{HandPair}
use Rattle.tdb_space.proofs.Pairs.Maps.{same_key-eq, same_key-refl}
use Rattle.tdb_locks.specs.declared.turn.Reply.{Reply}
use Rattle.tdb_law.specs.Commands as Law
use Rattle.tdb_law.specs.Openers.{Map, is_key}
use Rattle.tdb_law.specs.MapCommands.{reply, after, map_fills}
use Rattle.tdb_law.specs.Rows.{map_changed}
use Rattle.tdb_law.proofs.Maps.{is_key-eq, is_key-refl, get_put, get_drop}
use Rattle.tdb_steps.specs.declared.flag.Flag.{Flag}
use Rattle.tdb_steps.specs.declared.flag.Flag.TheVariants as Flags
use Rattle.tdb_steps.specs.declared.plain.Plain.{Plain}
use Rattle.tdb_steps.specs.declared.plain.Plain.TheVariants.{Fetch, Has, Store, Append, Delete, Wipe}
use Rattle.tdb_steps.specs.declared.stage.Stage.{Stage}
use Rattle.tdb_steps.specs.declared.stage.Next.{Next}
use Rattle.tdb_steps.specs.Asked.{Asked, stored, joined}
use Rattle.tdb_steps.specs.Stages.{is_changed, Knows, is_done}
use Rattle.tdb_steps.specs.Turns.{MapBy, TurnMade, IsWant}
use Rattle.tdb_steps.specs.Turns.IsWant.{memory, full}
use Rattle.tdb_steps.specs.PlainCommands.{IsKeyed, key_of, asked_of, command_of, store_of, reply_of, IsMapOf}
use Rattle.tdb_chain.specs.declared.place.Place.{Place}
use Rattle.tdb_steps.proofs.Cases.{looks_case, takes_case, links_case, unlinks_case}
use Rattle.tdb_steps.proofs.Cases.LooksCase.{look_on, look_ends}
use Rattle.tdb_steps.proofs.Cases.TakesCase.{take_on, take_full, take_starves}
use Rattle.tdb_steps.proofs.Cases.LinksCase.{link_over, link_ends}
use Rattle.tdb_steps.proofs.Cases.UnlinksCase.{unlink_on, unlink_starves}
use Rattle.tdb_steps.specs.Order.{NotFull, LooksOn, LookOrder, StoreOrder, DeleteOrder, InOrder, LookAfter, StoreAfter, DeleteAfter, IsAfter}
use Rattle.tdb_steps.specs.Machines.{MapTurned}
use Rattle.tdb_steps.specs.Machines.MapTurned.{map_goes_on, map_changes, map_answers, map_starves, map_is_full, map_finishes}

-- the keys of the two kinds of map are told apart alike
alike : (k q : List ℕ) → is_key k q ≡ same_key k q
alike k q = elim (cases_Bool (same_key k q)) [
  | inl same ↦ let e : k ≡ q = same_key-eq k q same in subst (λ x. is_key k x ≡ same_key k x) e (is_key-refl k ∙ sym (same_key-refl k))
  | inr apart ↦ false_from_ne_true (is_key k q) (λ e. let s : q ≡ k = is_key-eq k q e in let t : same_key k q ≡ true = subst (λ x. same_key k x ≡ true) (sym s) (same_key-refl k) in cc) ∙ sym apart
]

-- a command of a world asks of its key what a plain command asks: the reply, and the map where it is granted and where
-- it isn't
pub record IsCommand (c : Law.MapCommand) (key : List ℕ) (asked : Asked) : Type 0 where
  pub replies : (m : Map) → reply c m ≡ reply_of (asked.reply (get m key))
  pub granted : (m : Map) → asked.reply (get m key) ≡ Reply.Ok → (q : List ℕ) → get (after c m) q ≡ cond (same_key key q) (asked.left (get m key)) (get m q)
  pub refused : (m : Map) → (asked.reply (get m key) ≡ Reply.Ok → ⊥) → (q : List ℕ) → get (after c m) q ≡ get m q

put_in : (m : Map) (k v q : List ℕ) → get (insert m k v) q ≡ cond (same_key k q) (Some v) (get m q)
put_in m k v q = get_put m k v q ∙ ap (λ b. cond b (Some v) (get m q)) (alike k q)

drop_in : (m : Map) (k q : List ℕ) → get (remove m k) q ≡ cond (same_key k q) None (get m q)
drop_in m k q = get_drop m k q ∙ ap (λ b. cond b None (get m q)) (alike k q)

-- by what the map has at the key
fetch_replies : (m : Map) (k : List ℕ) (o : Option (List ℕ)) → get m k ≡ o → reply (Law.MapCommand.Fetch k) m ≡ reply_of ((asked_of (Fetch k)).reply (get m k))
fetch_replies m k None e = rw e refl
fetch_replies m k (Some v) e = rw e refl

fetch_never : (k : List ℕ) (o : Option (List ℕ)) → (asked_of (Fetch k)).reply o ≡ Reply.Ok → ⊥
fetch_never k None e = cc
fetch_never k (Some v) e = cc

has_replies : (m : Map) (k : List ℕ) (o : Option (List ℕ)) → get m k ≡ o → reply (Law.MapCommand.Has k) m ≡ reply_of ((asked_of (Has k)).reply (get m k))
has_replies m k None e = rw e refl
has_replies m k (Some v) e = rw e refl

has_never : (k : List ℕ) (o : Option (List ℕ)) → (asked_of (Has k)).reply o ≡ Reply.Ok → ⊥
has_never k None e = cc
has_never k (Some v) e = cc

store_replies : (flag : Flag) (m : Map) (k v : List ℕ) (o : Option (List ℕ)) → get m k ≡ o → reply (store_of flag k v) m ≡ reply_of (stored flag (get m k))
store_replies Flags.Replace m k v o e = refl
store_replies Flags.Insert m k v None e = rw e refl
store_replies Flags.Insert m k v (Some w) e = rw e refl
store_replies Flags.Modify m k v None e = rw e refl
store_replies Flags.Modify m k v (Some w) e = rw e refl

store_granted : (flag : Flag) (m : Map) (k v : List ℕ) (o : Option (List ℕ)) → get m k ≡ o → stored flag o ≡ Reply.Ok → (q : List ℕ) → get (after (store_of flag k v) m) q ≡ cond (same_key k q) (Some v) (get m q)
store_granted Flags.Replace m k v o e ok q = put_in m k v q
store_granted Flags.Insert m k v None e ok q = rw e (put_in m k v q)
store_granted Flags.Insert m k v (Some w) e ok q = cc
store_granted Flags.Modify m k v None e ok q = cc
store_granted Flags.Modify m k v (Some w) e ok q = rw e (put_in m k v q)

store_refused : (flag : Flag) (m : Map) (k v : List ℕ) (o : Option (List ℕ)) → get m k ≡ o → (stored flag o ≡ Reply.Ok → ⊥) → (q : List ℕ) → get (after (store_of flag k v) m) q ≡ get m q
store_refused Flags.Replace m k v None e never q = absurd (never refl)
store_refused Flags.Replace m k v (Some w) e never q = absurd (never refl)
store_refused Flags.Insert m k v None e never q = absurd (never refl)
store_refused Flags.Insert m k v (Some w) e never q = rw e refl
store_refused Flags.Modify m k v None e never q = rw e refl
store_refused Flags.Modify m k v (Some w) e never q = absurd (never refl)

delete_replies : (m : Map) (k : List ℕ) (o : Option (List ℕ)) → get m k ≡ o → reply (Law.MapCommand.Delete k) m ≡ reply_of ((asked_of (Delete k)).reply (get m k))
delete_replies m k None e = rw e refl
delete_replies m k (Some v) e = rw e refl

missing : (m : Map) (k q : List ℕ) → get m k ≡ None → (b : Bool) → same_key k q ≡ b → cond b None (get m q) ≡ get m q
missing m k q e true same = sym (subst (λ x. get m x ≡ None) (same_key-eq k q same) e)
missing m k q e false apart = refl

delete_refused : (m : Map) (k : List ℕ) (o : Option (List ℕ)) → get m k ≡ o → ((asked_of (Delete k)).reply o ≡ Reply.Ok → ⊥) → (q : List ℕ) → get (after (Law.MapCommand.Delete k) m) q ≡ get m q
delete_refused m k None e never q = drop_in m k q ∙ missing m k q e (same_key k q) refl
delete_refused m k (Some v) e never q = absurd (never refl)

pub is_command : (command : Plain) → IsKeyed command → IsCommand (command_of command) (key_of command) (asked_of command)
is_command (Fetch k) keyed = record { replies = λ m. fetch_replies m k (get m k) refl; granted = λ m ok q. absurd (fetch_never k (get m k) ok); refused = λ m never q. refl }
is_command (Has k) keyed = record { replies = λ m. has_replies m k (get m k) refl; granted = λ m ok q. absurd (has_never k (get m k) ok); refused = λ m never q. refl }
is_command (Store k v flag) keyed = record { replies = λ m. store_replies flag m k v (get m k) refl; granted = λ m ok q. store_granted flag m k v (get m k) refl ok q; refused = λ m never q. store_refused flag m k v (get m k) refl never q }
is_command (Append k v) keyed = record { replies = λ m. refl; granted = λ m ok q. put_in m k (joined (get m k) v) q; refused = λ m never q. absurd (never refl) }
is_command (Delete k) keyed = record { replies = λ m. delete_replies m k (get m k) refl; granted = λ m ok q. drop_in m k q; refused = λ m never q. delete_refused m k (get m k) refl never q }
is_command Wipe keyed = elim keyed [ ]

pub done_ok : (r : Reply) → is_done r ≡ true → r ≡ Reply.Ok
done_ok Reply.Ok e = refl
done_ok (Reply.Value v) e = cc
done_ok (Reply.Pair k v) e = cc
done_ok Reply.End e = cc
done_ok Reply.KeyMissing e = cc
done_ok Reply.KeyThere e = cc
done_ok (Reply.Busy o b) e = cc
done_ok Reply.ReadOnly e = cc
done_ok Reply.NoTransaction e = cc
done_ok Reply.InTransaction e = cc
done_ok Reply.Nesting e = cc
done_ok Reply.Doomed e = cc
done_ok (Reply.HeldLocks n) e = cc
done_ok Reply.NotLocked e = cc
done_ok (Reply.Full len need) e = cc
done_ok Reply.Memory e = cc
done_ok Reply.Yes e = cc
done_ok Reply.No e = cc
done_ok (Reply.Number n) e = cc

never_full : (r : Reply) (len need : ℕ) → r ≡ Reply.Full len need → NotFull r → ⊥
never_full r len need e never = subst NotFull e never

-- a turn that leads on, or ends
abbrev pub next_turn : Next → Law.Turn
next_turn (Next.Step stage) = Law.Turn.Step
next_turn (Next.Done r) = Law.Turn.Ends (reply_of r)

module _ (f : Form) (a b : List ℕ) (c : Law.MapCommand) (key : List ℕ) (asked : Asked) (C : IsCommand c key asked) (n : ℕ) (m : Map) (M : IsMapOf f a m) where
  left_map : ((other : List ℕ) → map_of f b other ≡ map_of f a other) → IsMapOf f b m
  left_map same k = M k ∙ sym (same k)

  ok_reply : asked.reply (map_of f a key) ≡ Reply.Ok → reply c m ≡ Law.Reply.Done
  ok_reply ok = C.replies m ∙ ap (λ o. reply_of (asked.reply o)) (M key) ∙ ap reply_of ok

  set_map : asked.reply (map_of f a key) ≡ Reply.Ok → MapBy false true f a b key asked → IsMapOf f b (after c m)
  set_map ok set q =
      C.granted m (ap asked.reply (M key) ∙ ok) q ∙ ap (λ o. cond (same_key key q) (asked.left (get m key)) o) (M q) ∙ ap (λ o. cond (same_key key q) (asked.left o) (map_of f a q)) (M key) ∙ sym (set q)

  answered : (r : Reply) (done : Bool) → is_done r ≡ done → r ≡ asked.reply (map_of f a key) → MapBy false done f a b key asked → IsMapOf f b (after c m)
  answered r true is says set = set_map (sym says ∙ done_ok r is) set
  answered r false is says same = λ q. C.refused m (λ ok. let e : is_done r ≡ true = ap is_done (says ∙ sym (ap asked.reply (M key)) ∙ ok) in cc) q ∙ left_map same q

  -- a look that ends the command
  pub look_turned : (r : Reply) → 1 ≤ n → map_changed c n ≡ false → NotFull r → IsWant r ⊎ (r ≡ asked.reply (map_of f a key)) → MapBy false (is_done r) f a b key asked → MapTurned f b c n m (Law.Turn.Ends (reply_of r))
  look_turned r late before never (inl (memory e)) by = map_starves (ap (λ x. Law.Turn.Ends (reply_of x)) e) before (left_map (subst (λ x. MapBy false (is_done x) f a b key asked) e by))
  look_turned r late before never (inl (full len need e)) by = absurd (never_full r len need e never)
  look_turned r late before never (inr says) by = map_answers (reply_of r) refl late before (ap reply_of says ∙ sym (ap (λ o. reply_of (asked.reply o)) (M key)) ∙ sym (C.replies m)) (answered r (is_done r) refl says by)

  goes : (k : ℕ) → n ≡ k → map_changed c (k + 1) ≡ map_changed c k → ((other : List ℕ) → map_of f b other ≡ map_of f a other) → MapTurned f b c n m Law.Turn.Step
  goes k is same stays = map_goes_on refl (subst (λ x. map_changed c (x + 1) ≡ map_changed c x) (sym is) same) (left_map stays)

  changes : (k : ℕ) → n ≡ k → 1 ≤ k → map_changed c k ≡ false → map_changed c (k + 1) ≡ true → asked.reply (map_of f a key) ≡ Reply.Ok → MapBy false true f a b key asked → MapTurned f b c n m Law.Turn.Step
  changes k is late before now ok set = map_changes refl (subst (λ x. 1 ≤ x) (sym is) late) (subst (λ x. map_changed c x ≡ false) (sym is) before) (subst (λ x. map_changed c (x + 1) ≡ true) (sym is) now) (ok_reply ok) (set_map ok set)

  starves : map_changed c n ≡ false → ((other : List ℕ) → map_of f b other ≡ map_of f a other) → MapTurned f b c n m (Law.Turn.Ends Law.Reply.Memory)
  starves before stays = map_starves refl before (left_map stays)

-- the turns of each kind of command
module _ (f : Form) (a b : List ℕ) (c : Law.MapCommand) (key : List ℕ) (asked : Asked) (C : IsCommand c key asked) (n : ℕ) (m : Map) (M : IsMapOf f a m) (others : List HandPair) where
  with_next : (stage : Stage) (next then : Next) → next ≡ then → TurnMade f a b key asked stage next others → (TurnMade f a b key asked stage then others → MapTurned f b c n m (next_turn then)) → MapTurned f b c n m (next_turn next)
  with_next stage next then is T turned = subst (λ x. MapTurned f b c n m (next_turn x)) (sym is) (turned (subst (λ x. TurnMade f a b key asked stage x others) is T))

  at_least_one : (k : ℕ) → n ≡ k → 1 ≤ k → 1 ≤ n
  at_least_one k is late = omega (arith, is, late)

  pub looks_turned : (stage : Stage) (next : Next) → ((k : ℕ) → map_changed c k ≡ false) → LookAfter stage n → LookOrder stage next → TurnMade f a b key asked stage next others → MapTurned f b c n m (next_turn next)
  looks_turned Stage.Begun next never is order T = with_next Stage.Begun next (Next.Step Stage.Chained) order T (λ U. goes f a b c key asked C n m M 0 is (never 1 ∙ sym (never 0)) U.map)
  looks_turned Stage.Chained (Next.Done r) never is order T = look_turned f a b c key asked C n m M r (at_least_one 1 is (omega arith)) (never n) order T.says T.map
  looks_turned Stage.Chained (Next.Step stage) never is order T = elim order [ ]
  looks_turned (Stage.Looked found) next never is order T = elim is [ ]
  looks_turned (Stage.Listed found) next never is order T = elim is [ ]
  looks_turned (Stage.Taken found hand) next never is order T = elim is [ ]
  looks_turned (Stage.Changed hand) next never is order T = elim is [ ]
  looks_turned (Stage.Wiping locked) next never is order T = elim is [ ]
  looks_turned Stage.Ending next never is order T = elim is [ ]

  -- the first three turns of a change
  change_begins : (next : Next) → n ≡ 0 → next ≡ Next.Step Stage.Chained → map_changed c 0 ≡ false → map_changed c 1 ≡ false → TurnMade f a b key asked Stage.Begun next others → MapTurned f b c n m (next_turn next)
  change_begins next is order before now T = with_next Stage.Begun next (Next.Step Stage.Chained) order T (λ U. goes f a b c key asked C n m M 0 is (now ∙ sym before) U.map)

  change_looks : (next : Next) → n ≡ 1 → LooksOn next → map_changed c 1 ≡ false → map_changed c 2 ≡ false → TurnMade f a b key asked Stage.Chained next others → MapTurned f b c n m (next_turn next)
  change_looks next is order before now T = elim (looks_case next order) [
    | look_on found led ↦ with_next Stage.Chained next (Next.Step (Stage.Looked found)) led T (λ U. goes f a b c key asked C n m M 1 is (now ∙ sym before) U.map)
    | look_ends r led never ↦ with_next Stage.Chained next (Next.Done r) led T (λ U. look_turned f a b c key asked C n m M r (at_least_one 1 is (omega arith)) (ap (map_changed c) is ∙ before) never U.says U.map)
  ]

  change_lists : (found : Option Place) (next : Next) → n ≡ 2 → next ≡ Next.Step (Stage.Listed found) → map_changed c 2 ≡ false → map_changed c 3 ≡ false → TurnMade f a b key asked (Stage.Looked found) next others → MapTurned f b c n m (next_turn next)
  change_lists found next is order before now T = with_next (Stage.Looked found) next (Next.Step (Stage.Listed found)) order T (λ U. goes f a b c key asked C n m M 2 is (now ∙ sym before) U.map)

  change_gives : (hand : HandPair) (next : Next) (k : ℕ) → n ≡ k → next ≡ Next.Step Stage.Ending → map_changed c k ≡ true → map_changed c (k + 1) ≡ true → TurnMade f a b key asked (Stage.Changed hand) next others → MapTurned f b c n m (next_turn next)
  change_gives hand next k is order before now T = with_next (Stage.Changed hand) next (Next.Step Stage.Ending) order T (λ U. goes f a b c key asked C n m M k is (now ∙ sym before) U.map)

  change_ends : (next : Next) → next ≡ Next.Done Reply.Ok → map_changed c n ≡ true → TurnMade f a b key asked Stage.Ending next others → MapTurned f b c n m (next_turn next)
  change_ends next order late T = with_next Stage.Ending next (Next.Done Reply.Ok) order T (λ U. map_finishes refl late (left_map f a b c key asked C n m M U.map))

  pub stores_turned : (stage : Stage) (next : Next) → ((k : ℕ) → map_changed c k ≡ nat_le 5 k) → map_fills c ≡ true → StoreAfter stage n → StoreOrder stage next → Knows f a key asked stage → TurnMade f a b key asked stage next others → MapTurned f b c n m (next_turn next)
  stores_turned Stage.Begun next by fills is order K T = change_begins next is order (by 0) (by 1) T
  stores_turned Stage.Chained next by fills is order K T = change_looks next is order (by 1) (by 2) T
  stores_turned (Stage.Looked found) next by fills is order K T = change_lists found next is order (by 2) (by 3) T
  stores_turned (Stage.Listed found) next by fills is order K T =
      let before : map_changed c n ≡ false = ap (map_changed c) is ∙ by 3 in
      elim (takes_case next order) [
        | take_on place hand led ↦ with_next (Stage.Listed found) next (Next.Step (Stage.Taken place hand)) led T (λ U. goes f a b c key asked C n m M 3 is (by 4 ∙ sym (by 3)) U.map)
        | take_full len need led ↦ with_next (Stage.Listed found) next (Next.Done (Reply.Full len need)) led T (λ U. map_is_full len need refl fills (at_least_one 3 is (omega arith)) before (ok_reply f a b c key asked C n m M K.granted) (left_map f a b c key asked C n m M U.map))
        | take_starves led ↦ with_next (Stage.Listed found) next (Next.Done Reply.Memory) led T (λ U. starves f a b c key asked C n m M before U.map)
      ]
  stores_turned (Stage.Taken found hand) next by fills is order K T = elim (links_case next order) [
    | link_over old led ↦ with_next (Stage.Taken found hand) next (Next.Step (Stage.Changed old)) led T (λ U. changes f a b c key asked C n m M 4 is (omega arith) (by 4) (by 5) K.granted U.map)
    | link_ends led ↦ with_next (Stage.Taken found hand) next (Next.Step Stage.Ending) led T (λ U. changes f a b c key asked C n m M 4 is (omega arith) (by 4) (by 5) K.granted U.map)
  ]
  stores_turned (Stage.Changed hand) next by fills is order K T = change_gives hand next 5 is order (by 5) (by 6) T
  stores_turned (Stage.Wiping locked) next by fills is order K T = elim is [ ]
  stores_turned Stage.Ending next by fills is order K T =
      change_ends next order (elim is [ inl five ↦ ap (map_changed c) five ∙ by 5 | inr six ↦ ap (map_changed c) six ∙ by 6 ]) T

  pub deletes_turned : (stage : Stage) (next : Next) → ((k : ℕ) → map_changed c k ≡ nat_le 4 k) → DeleteAfter stage n → DeleteOrder stage next → Knows f a key asked stage → TurnMade f a b key asked stage next others → MapTurned f b c n m (next_turn next)
  deletes_turned Stage.Begun next by is order K T = change_begins next is order (by 0) (by 1) T
  deletes_turned Stage.Chained next by is order K T = change_looks next is order (by 1) (by 2) T
  deletes_turned (Stage.Looked found) next by is order K T = change_lists found next is order (by 2) (by 3) T
  deletes_turned (Stage.Listed found) next by is order K T = elim (unlinks_case next order) [
    | unlink_on hand led ↦ with_next (Stage.Listed found) next (Next.Step (Stage.Changed hand)) led T (λ U. changes f a b c key asked C n m M 3 is (omega arith) (by 3) (by 4) K.granted U.map)
    | unlink_starves led ↦ with_next (Stage.Listed found) next (Next.Done Reply.Memory) led T (λ U. starves f a b c key asked C n m M (ap (map_changed c) is ∙ by 3) U.map)
  ]
  deletes_turned (Stage.Taken found hand) next by is order K T = elim is [ ]
  deletes_turned (Stage.Changed hand) next by is order K T = change_gives hand next 4 is order (by 4) (by 5) T
  deletes_turned (Stage.Wiping locked) next by is order K T = elim is [ ]
  deletes_turned Stage.Ending next by is order K T = change_ends next order (ap (map_changed c) is ∙ by 5) T

store_fills : (flag : Flag) (k v : List ℕ) → map_fills (store_of flag k v) ≡ true
store_fills Flags.Replace k v = refl
store_fills Flags.Insert k v = refl
store_fills Flags.Modify k v = refl

pub store_changed : (flag : Flag) (k v : List ℕ) (n : ℕ) → map_changed (store_of flag k v) n ≡ nat_le 5 n
store_changed Flags.Replace k v n = refl
store_changed Flags.Insert k v n = refl
store_changed Flags.Modify k v n = refl

-- after so many steps the stage of a command tells whether its change is made
store_stage : (stage : Stage) (n : ℕ) → StoreAfter stage n → is_changed stage ≡ nat_le 5 n
store_stage Stage.Begun n is = sym (ap (nat_le 5) is)
store_stage Stage.Chained n is = sym (ap (nat_le 5) is)
store_stage (Stage.Looked found) n is = sym (ap (nat_le 5) is)
store_stage (Stage.Listed found) n is = sym (ap (nat_le 5) is)
store_stage (Stage.Taken found hand) n is = sym (ap (nat_le 5) is)
store_stage (Stage.Changed hand) n is = sym (ap (nat_le 5) is)
store_stage (Stage.Wiping locked) n is = absurd is
store_stage Stage.Ending n is = elim is [ inl five ↦ sym (ap (nat_le 5) five) | inr six ↦ sym (ap (nat_le 5) six) ]

look_stage : (stage : Stage) (n : ℕ) → LookAfter stage n → is_changed stage ≡ false
look_stage Stage.Begun n is = refl
look_stage Stage.Chained n is = refl
look_stage (Stage.Looked found) n is = refl
look_stage (Stage.Listed found) n is = refl
look_stage (Stage.Taken found hand) n is = refl
look_stage (Stage.Changed hand) n is = absurd is
look_stage (Stage.Wiping locked) n is = refl
look_stage Stage.Ending n is = absurd is

delete_stage : (stage : Stage) (n : ℕ) → DeleteAfter stage n → is_changed stage ≡ nat_le 4 n
delete_stage Stage.Begun n is = sym (ap (nat_le 4) is)
delete_stage Stage.Chained n is = sym (ap (nat_le 4) is)
delete_stage (Stage.Looked found) n is = sym (ap (nat_le 4) is)
delete_stage (Stage.Listed found) n is = sym (ap (nat_le 4) is)
delete_stage (Stage.Taken found hand) n is = absurd is
delete_stage (Stage.Changed hand) n is = sym (ap (nat_le 4) is)
delete_stage (Stage.Wiping locked) n is = absurd is
delete_stage Stage.Ending n is = sym (ap (nat_le 4) is)

pub changed_after : (command : Plain) → IsKeyed command → (stage : Stage) (n : ℕ) → IsAfter command stage n → is_changed stage ≡ map_changed (command_of command) n
changed_after (Fetch k) keyed stage n is = look_stage stage n is
changed_after (Has k) keyed stage n is = look_stage stage n is
changed_after (Store k v flag) keyed stage n is = store_stage stage n is ∙ sym (store_changed flag k v n)
changed_after (Append k v) keyed stage n is = store_stage stage n is
changed_after (Delete k) keyed stage n is = delete_stage stage n is
changed_after Wipe keyed stage n is = absurd keyed

-- every command that is on a key
pub map_turned : (command : Plain) → IsKeyed command → (f : Form) (a b : List ℕ) (stage : Stage) (next : Next) (n : ℕ) (m : Map) (others : List HandPair) → IsMapOf f a m → IsAfter command stage n → InOrder command stage next → Knows f a (key_of command) (asked_of command) stage
    → TurnMade f a b (key_of command) (asked_of command) stage next others → MapTurned f b (command_of command) n m (next_turn next)
map_turned (Fetch k) keyed f a b stage next n m others M is order K T = looks_turned f a b _ _ _ (is_command (Fetch k) keyed) n m M others stage next (λ k. refl) is order T
map_turned (Has k) keyed f a b stage next n m others M is order K T = looks_turned f a b _ _ _ (is_command (Has k) keyed) n m M others stage next (λ k. refl) is order T
map_turned (Store k v flag) keyed f a b stage next n m others M is order K T = stores_turned f a b _ _ _ (is_command (Store k v flag) keyed) n m M others stage next (store_changed flag k v) (store_fills flag k v) is order K T
map_turned (Append k v) keyed f a b stage next n m others M is order K T = stores_turned f a b _ _ _ (is_command (Append k v) keyed) n m M others stage next (λ k. refl) refl is order K T
map_turned (Delete k) keyed f a b stage next n m others M is order K T = deletes_turned f a b _ _ _ (is_command (Delete k) keyed) n m M others stage next (λ k. refl) is order K T
map_turned Wipe keyed f a b stage next n m others M is order K T = elim keyed [ ]
