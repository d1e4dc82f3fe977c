-- What a turn of a plain command leaves of the cursors beside it: a record is taken out of its chain only where none
-- stands on it.
use Rattle.std.proofs.Common.{◌≡◌, ℕ, ◌+◌, ◌<◌, List, ◌∷◌, ◌++◌, Bool, true, false, Option, None, Some, refl, sym, ◌∙◌, ap, subst, inl, inr, arith}
use Rattle.std.specs.Prelude.{◌&&◌, nat_eq, nat_lt, length, Contains}
use Rattle.std.specs.List.{list_any}
use Rattle.std.proofs.lemmas.Bool.{cases_eq, eqb-true, false_from_ne_true, false≢true}
use Rattle.std.proofs.lemmas.Map.Views.{Contains-from_any}
use Rattle.tdb_space.specs.Form.{Form}
use Rattle.tdb_space.specs.Chain.{Member, chain_of}
use Rattle.tdb_space.specs.Pairs.{map_of}
use Rattle.tdb_space.specs.Record.{data_at}
use Rattle.tdb_space.specs.NewRecord.{rec_len_for}
use Rattle.tdb_space.specs.Extents.{HandPair}
use Rattle.tdb_space.specs.Accepted.{AcceptWith}
use Rattle.tdb_chain.specs.declared.place.Place.{Place as FoundPlace}
use Rattle.tdb_chain.specs.Place.{HoldsKey, IsFound}
use Rattle.tdb_locks.specs.declared.turn.Turn.{Turn}
use Rattle.tdb_locks.specs.declared.turn.Turn.TheVariants as Turns
use Rattle.tdb_law.specs.Commands.{Command, Turn as LawTurn}
use Rattle.tdb_law.specs.Commands.Command.{OnMap}
use Rattle.tdb_law.specs.Openers.{Own, Mark}
use Rattle.tdb_law.specs.Outcomes.{touched, is_touch}
use Rattle.tdb_law.specs.Walks.{Lost}
use Rattle.tdb_law.specs.Walks.Lost.{lost_by_done, lost_by_taking, lost_by_passing}
use Rattle.tdb_law.specs.Refusals.{refusal}
use Rattle.tdb_law.specs.Layout.{Place, IsStood, IsOffRecords, chains_in, mark_of}
use Rattle.tdb_law.specs.Layout.Place.{off_chains, before_chain, on_record}
use Rattle.tdb_law.proofs.Tests.{and_both}
use Rattle.tdb_commands.specs.InLaw.{law_turn}
use Rattle.tdb_steps.specs.declared.plain.Plain.{Plain}
use Rattle.tdb_steps.specs.declared.plain.Plain.TheVariants.{Fetch, Has, Store, Append, Delete, Wipe}
use Rattle.tdb_steps.specs.declared.stage.Stage.{Stage}
use Rattle.tdb_steps.specs.declared.stage.Stage.TheVariants.{Begun, Chained, Looked, Listed, Taken, Changed, Wiping, Ending}
use Rattle.tdb_steps.specs.declared.stage.Next.{Next}
use Rattle.tdb_steps.specs.Asked.{Asked, joined}
use Rattle.tdb_steps.specs.Stages.{hands_in, IsIdle, Knows}
use Rattle.tdb_steps.specs.Order.{StoreAfter, DeleteAfter, IsAfter}
use Rattle.tdb_steps.specs.PlainCommands.{IsKeyed, asked_of, command_of, turn_of}
use Rattle.tdb_steps.specs.Turns.{LinksRightly, StoresRightly, DeletesRightly, MarksRightly}
use Rattle.tdb_steps.specs.Walks.{SparesStood}
use Rattle.tdb_steps.specs.Machines.{Doing, DoingKnows, MachineTurned, Leaves, Spares, IsQuiet, CommandRightly}
use Rattle.tdb_steps.specs.LockTurns.{ActRightly}
use Rattle.tdb_steps.specs.Shifts.{StandsBeside}
use Rattle.tdb_steps.proofs.Shifts.{turns_shift, stood_stay}
use Rattle.tdb_openers.specs.declared.job.Job.TheVariants as Jobs
use Rattle.tdb_openers.specs.Jobs.{task_after}
use Rattle.tdb_openers.specs.Turning.{TurnsWalk}
use Rattle.tdb_openers.specs.Cursors.{is_stood, StageSpares, TaskSpares, CommandClears, CursorsBeside, LeavesCursors}
use Rattle.tdb_openers.proofs.Joining.Begun.{begun_stage}
use Rattle.tdb_steps.proofs.FoundOnce.{found_once}
use Rattle.tdb_openers.proofs.Joining.Recounted.{recounted, turn_is, same_done}
use Rattle.tdb_openers.proofs.Walks.StillWalks.{still_walk}

stepped : {x y : Stage} → Next.Step x ≡ Next.Step y → x ≡ y
stepped e = cc

changed : {h k : HandPair} → Changed h ≡ Changed k → h ≡ k
changed e = cc

looked : {p q : Option FoundPlace} → Looked p ≡ Looked q → p ≡ q
looked e = cc

someone : {p q : FoundPlace} → Some p ≡ Some q → p ≡ q
someone e = cc

-- where the entries don't have a record, nobody stands on it
unstood : (spots : List ℕ) (off : ℕ) → (Contains spots off → ⊥) → is_stood spots off ≡ false
unstood spots off none = false_from_ne_true (is_stood spots off) (λ e. none (Contains-from_any (λ x y same. eqb-true x y same) off spots (and_both (nat_lt 0 off) (list_any (nat_eq off) spots) e).1))

module _ (f : Form) (a b : List ℕ) (limit : ℕ) (spots : List ℕ) (others : List HandPair) (n : ℕ) where
  -- a link that leads to an old record as a hand has taken out one on which nobody stands
  link_spares : (key : List ℕ) (found : Option FoundPlace) (hand gone : HandPair) → AcceptWith f a (hand ∷ others) → IsFound f a key found → LinksRightly f a hand spots found (Next.Step (Changed gone)) → is_stood spots gone.0 ≡ false
  link_spares key None hand gone A F R = absurd (let bad = stepped (R others A) in cc bad)
  link_spares key (Some place) hand gone A F R = elim (R key others A F) [
    | inl w ↦ absurd (let bad = stepped w.1 in cc bad)
    | inr w ↦ subst (λ (h : HandPair). is_stood spots h.0 ≡ false) (sym (changed (stepped w.1))) (unstood spots place.off w.0)
  ]

  store_spares : (key : List ℕ) (value_len rec_len : ℕ) (asked : Asked) (stage : Stage) (gone : HandPair) → StoreAfter stage n → n + 1 ≡ 5 → AcceptWith f a (hands_in stage ++ others) → Knows f a key asked stage
      → ((IsIdle stage → ⊥) → StoresRightly f a b key value_len rec_len limit spots stage (Next.Step (Changed gone))) → is_stood spots gone.0 ≡ false
  store_spares key value_len rec_len asked Begun gone is late A K R = absurd (omega (arith, is, late))
  store_spares key value_len rec_len asked Chained gone is late A K R = absurd (omega (arith, is, late))
  store_spares key value_len rec_len asked (Looked found) gone is late A K R = absurd (omega (arith, is, late))
  store_spares key value_len rec_len asked (Listed found) gone is late A K R = absurd (omega (arith, is, late))
  store_spares key value_len rec_len asked (Taken found hand) gone is late A K R = link_spares key found hand gone A K.found (R (λ idle. idle))
  store_spares key value_len rec_len asked (Changed hand) gone is late A K R = absurd (omega (arith, is, late))
  store_spares key value_len rec_len asked (Wiping locked) gone is late A K R = elim is [ ]
  store_spares key value_len rec_len asked Ending gone is late A K R = absurd (elim is [ inl five ↦ omega (arith, five, late) | inr six ↦ omega (arith, six, late) ])

  -- a delete takes out the record that it has found
  delete_spares : (key : List ℕ) (stage : Stage) (gone : HandPair) → DeleteAfter stage n → n + 1 ≡ 4 → ((IsIdle stage → ⊥) → DeletesRightly f a b key spots stage (Next.Step (Changed gone))) → StageSpares (is_stood spots) (Delete key) stage
      → is_stood spots gone.0 ≡ false
  delete_spares key Begun gone is late R S = absurd (omega (arith, is, late))
  delete_spares key Chained gone is late R S = absurd (omega (arith, is, late))
  delete_spares key (Looked found) gone is late R S = absurd (omega (arith, is, late))
  delete_spares key (Listed None) gone is late R S = absurd (R (λ idle. idle))
  delete_spares key (Listed (Some place)) gone is late R S = elim (R (λ idle. idle)) [
    | inl w ↦ absurd (cc w)
    | inr w ↦ subst (λ (h : HandPair). is_stood spots h.0 ≡ false) (sym (changed (stepped w))) S
  ]
  delete_spares key (Taken found hand) gone is late R S = elim is [ ]
  delete_spares key (Changed hand) gone is late R S = absurd (omega (arith, is, late))
  delete_spares key (Wiping locked) gone is late R S = elim is [ ]
  delete_spares key Ending gone is late R S = absurd (omega (arith, is, late))

  -- it looks for one on which nobody stands
  mark_spares : (p : Option FoundPlace) (place : FoundPlace) → MarksRightly spots p (Next.Step (Looked (Some place))) → is_stood spots place.off ≡ false
  mark_spares None place M = absurd M
  mark_spares (Some p) place M = subst (λ (q : FoundPlace). is_stood spots q.off ≡ false) (sym (someone (looked M.0))) (unstood spots p.off M.1)

  look_spares : (key : List ℕ) (stage : Stage) (place : FoundPlace) → DeleteAfter stage n → n + 1 ≡ 2 → AcceptWith f a (hands_in stage ++ others) → ((IsIdle stage → ⊥) → DeletesRightly f a b key spots stage (Next.Step (Looked (Some place))))
      → is_stood spots place.off ≡ false
  look_spares key Begun place is late A R = absurd (omega (arith, is, late))
  look_spares key Chained place is late A R = let found = R (λ idle. idle) others A in mark_spares found.0 place found.2
  look_spares key (Looked found) place is late A R = absurd (omega (arith, is, late))
  look_spares key (Listed found) place is late A R = absurd (omega (arith, is, late))
  look_spares key (Taken found hand) place is late A R = elim is [ ]
  look_spares key (Changed hand) place is late A R = absurd (omega (arith, is, late))
  look_spares key (Wiping locked) place is late A R = elim is [ ]
  look_spares key Ending place is late A R = absurd (omega (arith, is, late))

  -- and it is that record still once the free list is locked, since the file hasn't changed
  list_spares : (key : List ℕ) (asked : Asked) (stage : Stage) (place : FoundPlace) → DeleteAfter stage n → n + 1 ≡ 3 → AcceptWith f a (hands_in stage ++ others) → Knows f a key asked stage → HoldsKey f b key place → (IsIdle stage → (stage ≡ Ending → ⊥) → b ≡ a)
      → StageSpares (is_stood spots) (Delete key) stage → is_stood spots place.off ≡ false
  list_spares key asked Begun place is late A K H same S = absurd (omega (arith, is, late))
  list_spares key asked Chained place is late A K H same S = absurd (omega (arith, is, late))
  list_spares key asked (Looked None) place is late A K H same S = absurd (let H = subst (λ i. HoldsKey f i key place) (same tt (λ e. cc e)) H in
      let c : ◌≡◌ {A = Option (List ℕ)} None (Some (data_at f.order a place.off)) = sym K.found ∙ H.mapped in cc c)
  list_spares key asked (Looked (Some p)) place is late A K H same S = subst (λ o. is_stood spots o ≡ false) (found_once f a key others A p place K.found (subst (λ i. HoldsKey f i key place) (same tt (λ e. cc e)) H)) S
  list_spares key asked (Listed found) place is late A K H same S = absurd (omega (arith, is, late))
  list_spares key asked (Taken found hand) place is late A K H same S = elim is [ ]
  list_spares key asked (Changed hand) place is late A K H same S = absurd (omega (arith, is, late))
  list_spares key asked (Wiping locked) place is late A K H same S = elim is [ ]
  list_spares key asked Ending place is late A K H same S = absurd (omega (arith, is, late))

  module _ (chain : ℕ) (seqnum : Bool) (whole whole_then : Option (List ℕ)) where
    abbrev at : Plain → Option (List ℕ) → Stage → Doing
    at command bytes stage = record { command = command; chain = chain; seqnum = seqnum; stage = stage; whole = bytes }

    abbrev Goes : Plain → Stage → Stage → Type 0
    Goes command stage later = (IsIdle stage → ⊥) → CommandRightly f a b command whole limit spots stage (Next.Step later)

    unlink_spares : (command : Plain) (stage : Stage) (gone : HandPair) → IsAfter command stage n → IsAfter command (Changed gone) (n + 1) → AcceptWith f a (hands_in stage ++ others) → DoingKnows f a (at command whole stage) → Goes command stage (Changed gone)
        → StageSpares (is_stood spots) command stage → is_stood spots gone.0 ≡ false
    unlink_spares (Fetch key) stage gone is late A K R S = elim late [ ]
    unlink_spares (Has key) stage gone is late A K R S = elim late [ ]
    unlink_spares (Store key value flag) stage gone is late A K R S = store_spares key (length value) (rec_len_for (length key) (length value)) (asked_of (Store key value flag)) stage gone is late A K.found R
    unlink_spares (Append key value) stage gone is late A K R S =
        store_spares key (length (joined (map_of f a key) value)) (rec_len_for (length key) (length (joined (map_of f a key) value))) (asked_of (Append key value)) stage gone is late A K.found (λ busy. R busy (K.joined key value refl))
    unlink_spares (Delete key) stage gone is late A K R S = delete_spares key stage gone is late R S
    unlink_spares Wipe stage gone is late A K R S = elim late [ ]

    -- so it spares each record on which a cursor stands
    step_spares : (command : Plain) (stage later : Stage) → IsAfter command stage n → IsAfter command later (n + 1) → AcceptWith f a (hands_in stage ++ others) → DoingKnows f a (at command whole stage) → Goes command stage later
        → StageSpares (is_stood spots) command stage → SparesStood (is_stood spots) (Next.Step later)
    step_spares command stage Begun is late A K R S = tt
    step_spares command stage Chained is late A K R S = tt
    step_spares command stage (Looked found) is late A K R S = tt
    step_spares command stage (Listed found) is late A K R S = tt
    step_spares command stage (Taken found hand) is late A K R S = tt
    step_spares command stage (Changed gone) is late A K R S = unlink_spares command stage gone is late A K R S
    step_spares command stage (Wiping locked) is late A K R S = tt
    step_spares command stage Ending is late A K R S = tt

    delete_left : (key : List ℕ) (stage later : Stage) → DeleteAfter stage n → DeleteAfter later (n + 1) → AcceptWith f a (hands_in stage ++ others) → DoingKnows f a (at (Delete key) whole stage) → DoingKnows f b (at (Delete key) whole_then later)
        → (IsIdle stage → (stage ≡ Ending → ⊥) → b ≡ a) → Goes (Delete key) stage later → StageSpares (is_stood spots) (Delete key) stage → StageSpares (is_stood spots) (Delete key) later
    delete_left key stage Begun is late A K L same R S = tt
    delete_left key stage Chained is late A K L same R S = tt
    delete_left key stage (Looked None) is late A K L same R S = tt
    delete_left key stage (Looked (Some place)) is late A K L same R S = look_spares key stage place is late A R
    delete_left key stage (Listed None) is late A K L same R S = tt
    delete_left key stage (Listed (Some place)) is late A K L same R S = list_spares key (asked_of (Delete key)) stage place is late A K.found L.found.found same S
    delete_left key stage (Taken found hand) is late A K L same R S = tt
    delete_left key stage (Changed hand) is late A K L same R S = tt
    delete_left key stage (Wiping locked) is late A K L same R S = tt
    delete_left key stage Ending is late A K L same R S = tt

    stage_left : (command : Plain) (stage later : Stage) → IsAfter command stage n → IsAfter command later (n + 1) → AcceptWith f a (hands_in stage ++ others) → DoingKnows f a (at command whole stage) → DoingKnows f b (at command whole_then later)
        → (IsIdle stage → (stage ≡ Ending → ⊥) → b ≡ a) → Goes command stage later → StageSpares (is_stood spots) command stage → StageSpares (is_stood spots) command later
    stage_left (Fetch key) stage later is late A K L same R S = tt
    stage_left (Has key) stage later is late A K L same R S = tt
    stage_left (Store key value flag) stage later is late A K L same R S = tt
    stage_left (Append key value) stage later is late A K L same R S = tt
    stage_left (Delete key) stage later is late A K L same R S = delete_left key stage later is late A K L same R S
    stage_left Wipe stage later is late A K L same R S = tt

-- a walk that stands on no record on which a cursor stands, where none does, is off all records
off_records : (stands : ℕ → Bool) → ((off : ℕ) → stands off ≡ false) → (place : Place) → IsStood stands place → IsOffRecords place
off_records stands none off_chains on = tt
off_records stands none (before_chain i) on = tt
off_records stands none (on_record i p) on = false≢true (sym (none p) ∙ on)

-- what is lost by a turn, whatever number its opener has
same_touched : (c : Command) (t : LawTurn) (k : List ℕ) → touched c (recounted t) k ≡ touched c t k
same_touched c LawTurn.Step k = refl
same_touched c (LawTurn.Blocked o byte) k = refl
same_touched c (LawTurn.Ends r) k = ap (λ z. z && is_touch c k) (same_done r)

lost_recounted : (f : Form) (c : Command) (n : ℕ) (x : Own) (t : LawTurn) (mine : Bool) (mark : Mark) (k : List ℕ) → Lost f c n x t mine mark k → Lost f c n x (recounted t) mine mark k
lost_recounted f c n x t mine mark k (lost_by_done e) = lost_by_done (same_touched c t k ∙ e)
lost_recounted f c n x t mine mark k (lost_by_taking another step taken) = lost_by_taking another (ap recounted step) taken
lost_recounted f c n x t mine mark k (lost_by_passing step made touches plain near) = lost_by_passing (ap recounted step) made touches plain near

walk_recounted : (f : Form) (x : Own) (c : Command) (n : ℕ) (t : LawTurn) (a b : List ℕ) (place : Place) → TurnsWalk f x c n t a b place → TurnsWalk f x c n (recounted t) a b place
walk_recounted f x c n t a b place W mine =
    let S = W mine in
    record {
      inside = S.inside;
      reached = S.reached;
      fewer = S.fewer;
      kept = λ k e. elim (S.kept k e) [ inl there ↦ inl there | inr lost ↦ inr (lost_recounted f c n x t mine (mark_of f (chains_in f a) place) k lost) ];
    }

-- the beginning isn't the end
begun_not : {stage : Stage} → stage ≡ Begun → stage ≡ Ending → ⊥
begun_not is e = let bad = sym is ∙ e in cc bad

-- a machine after a step is the same command with another stage
same_machine : (d e : Doing) → e.command ≡ d.command → e.chain ≡ d.chain → e.seqnum ≡ d.seqnum → e ≡ record d { stage = e.stage; whole = e.whole }
same_machine d e command chain seqnum = λ i. record e { command = command i; chain = chain i; seqnum = seqnum i }

module _ (f : Form) (a b : List ℕ) (d e : Doing) (n : ℕ) (turn : Turn) (others : List HandPair) (x : Own) (limit : ℕ) (spots : List ℕ)
    (A : AcceptWith f a (hands_in d.stage ++ others)) (K : DoingKnows f a d) (M : MachineTurned f a b d e n (turn_of turn) others) (is : IsAfter d.command d.stage n) (L : Leaves d e n (turn_of turn))
    (out : x.txn ≡ None) (granted : refusal f (OnMap (command_of d.command)) x ≡ None) (quiet : IsQuiet d → b ≡ a) (R : (IsIdle d.stage → ⊥) → ActRightly f a b d e limit spots turn)
    (C : CursorsBeside f a (is_stood spots) (record { steps = n; job = Jobs.Plain d })) where
  abbrev stands : ℕ → Bool
  stands = is_stood spots

  quiet_stays : IsIdle d.stage → (d.stage ≡ Ending → ⊥) → b ≡ a
  quiet_stays idle more = quiet (idle, λ e. absurd (more e))

  spares : (t : Turn) → turn ≡ t → Spares stands e (turn_of t)
  spares Turns.Step t =
      let left = subst (λ u. Leaves d e n (turn_of u)) t L in
      step_spares f a b limit spots others n d.chain d.seqnum d.whole e.whole d.command d.stage e.stage is (subst (λ p. IsAfter p e.stage (n + 1)) left.0 left.3) A K
      (λ busy. subst (ActRightly f a b d e limit spots) t (R busy)) C.spares
  spares (Turns.Blocked o byte) t = tt
  spares (Turns.Done reply) t = tt

  task_spares : (t : Turn) → turn ≡ t → TaskSpares stands (task_after (Jobs.Plain e) n (law_turn t))
  task_spares Turns.Step t =
      let left = subst (λ u. Leaves d e n (turn_of u)) t L in
      subst (λ p. StageSpares stands p e.stage) (sym left.0)
      (stage_left f a b limit spots others n d.chain d.seqnum d.whole e.whole d.command d.stage e.stage is (subst (λ p. IsAfter p e.stage (n + 1)) left.0 left.3) A K
      (subst (DoingKnows f b) (same_machine d e left.0 left.1 left.2) M.knows) quiet_stays (λ busy. subst (ActRightly f a b d e limit spots) t (R busy)) C.spares)
  task_spares (Turns.Blocked o byte) t = let same = subst (λ u. Leaves d e n (turn_of u)) t L in subst (λ (q : Doing). StageSpares stands q.command q.stage) (sym same) C.spares
  task_spares (Turns.Done reply) t = tt

  -- a wipe changes nothing before it has all records locked
  wipe_waits : d.command ≡ Wipe → n ≡ 0 → b ≡ a
  wipe_waits same none =
      let at = begun_stage d.command d.stage (subst (IsAfter d.command d.stage) none is) in
      quiet_stays (subst IsIdle (sym at) tt) (begun_not at)

  keyed_walks : (place : Place) → StandsBeside d.command stands place → TurnsWalk f x (OnMap (command_of d.command)) n (turn_of turn) a b place
  keyed_walks place beside mine = turns_shift f a b d e n (turn_of turn) others x stands place mine A M is L out granted C.in_chains (spares turn refl) beside

  -- a command on a key leaves each cursor its record, and so does a wipe that isn't beside any
  walks_in : (command : Plain) → d.command ≡ command → (place : Place) → IsStood stands place → TurnsWalk f x (OnMap (command_of d.command)) n (turn_of turn) a b place
  walks_in Wipe same place on = elim (cases_eq n 0) [
    | inl none ↦ still_walk f x (OnMap (command_of d.command)) n (turn_of turn) a b place (wipe_waits same none)
    | inr some ↦ keyed_walks place (subst (λ p. StandsBeside p stands place) (sym same) (off_records stands (subst (λ p. CommandClears stands p n) same C.clears (omega (arith, some))) place on))
  ]
  walks_in (Fetch key) same place on = keyed_walks place (subst (λ p. StandsBeside p stands place) (sym same) on)
  walks_in (Has key) same place on = keyed_walks place (subst (λ p. StandsBeside p stands place) (sym same) on)
  walks_in (Store key value flag) same place on = keyed_walks place (subst (λ p. StandsBeside p stands place) (sym same) on)
  walks_in (Append key value) same place on = keyed_walks place (subst (λ p. StandsBeside p stands place) (sym same) on)
  walks_in (Delete key) same place on = keyed_walks place (subst (λ p. StandsBeside p stands place) (sym same) on)

  abbrev Stays : Type 0
  Stays = (chain off : ℕ) → chain < f.chains → stands off ≡ true → Member off (chain_of f a chain) → Member off (chain_of f b chain)

  keyed_members : IsKeyed d.command → Stays
  keyed_members keyed = λ chain off low on there. stood_stay f a b d e n (turn_of turn) others stands A M keyed C.in_chains (spares turn refl) chain off low on there

  members_in : (command : Plain) → d.command ≡ command → Stays
  members_in Wipe same = λ chain off low on there. elim (cases_eq n 0) [
    | inl none ↦ subst (λ i. Member off (chain_of f i chain)) (sym (wipe_waits same none)) there
    | inr some ↦ absurd (false≢true (sym (subst (λ p. CommandClears stands p n) same C.clears (omega (arith, some)) off) ∙ on))
  ]
  members_in (Fetch key) same = keyed_members (subst IsKeyed (sym same) tt)
  members_in (Has key) same = keyed_members (subst IsKeyed (sym same) tt)
  members_in (Store key value flag) same = keyed_members (subst IsKeyed (sym same) tt)
  members_in (Append key value) same = keyed_members (subst IsKeyed (sym same) tt)
  members_in (Delete key) same = keyed_members (subst IsKeyed (sym same) tt)

  pub plain_cursors : LeavesCursors f x (record { steps = n; job = Jobs.Plain d }) (task_after (Jobs.Plain e) n (law_turn turn)) (law_turn turn) a b (is_stood spots)
  plain_cursors = record {
    walks = λ place on. subst (λ t. TurnsWalk f x (OnMap (command_of d.command)) n t a b place) (turn_is turn) (walk_recounted f x _ n (turn_of turn) a b place (walks_in d.command refl place on));
    members = members_in d.command refl;
    spares = task_spares turn refl;
  }
