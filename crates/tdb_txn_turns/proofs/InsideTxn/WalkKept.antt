-- The turns of a plain command one after the other leave the walk of a cursor that stands on a record.
use Rattle.std.proofs.Common.{◌≡◌, ℕ, ◌+◌, ◌<◌, List, [], ◌++◌, Bool, true, false, None, refl, sym, ◌∙◌, ap, subst, inl, inr, arith}
use Rattle.std.specs.Prelude.{◌&&◌, ◌==◌, Contains}
use Rattle.std.specs.FinMap.{empty}
use Rattle.std.proofs.lemmas.Bool.{eq-eqb, eqb-true, ne_eqb, false≢true}
use Rattle.std.proofs.lemmas.Bool.Decides.{nat_tests}
use Rattle.tdb_space.specs.Form.{Form}
use Rattle.tdb_space.specs.Chain.{Member, chain_of}
use Rattle.tdb_space.specs.Accepted.{AcceptWith}
use Rattle.tdb_law.specs.Commands.{MapCommand, Reply, Turn, is_done}
use Rattle.tdb_law.specs.Commands.MapCommand.{Fetch, Has, Delete, Store, Insert, Modify, Append, Wipe, Check}
use Rattle.tdb_law.specs.Commands.Command.{OnMap}
use Rattle.tdb_law.specs.Commands.Turn.{Step, Blocked, Ends}
use Rattle.tdb_law.specs.Openers.{Own, Map, Mark}
use Rattle.tdb_law.specs.MapCommands.{map_touches}
use Rattle.tdb_law.specs.Refusals.{refusal}
use Rattle.tdb_law.specs.Rows.{changed_by, is_changed, map_changed}
use Rattle.tdb_law.specs.Outcomes.{touched, touches, touches_by}
use Rattle.tdb_law.specs.Walks.{Lost, Shift}
use Rattle.tdb_law.specs.Walks.Lost.{lost_by_done, lost_by_taking, lost_by_passing}
use Rattle.tdb_law.specs.Images.{image_map}
use Rattle.tdb_law.specs.Layout.{chains_in, mark_of}
use Rattle.tdb_law.specs.Layout.Place.{on_record}
use Rattle.tdb_law.proofs.HandsOut.{image_answers}
use Rattle.tdb_steps.specs.declared.flag.Flag.TheVariants as Flags
use Rattle.tdb_steps.specs.declared.plain.Plain.{Plain}
use Rattle.tdb_steps.specs.declared.plain.Plain.TheVariants as Plains
use Rattle.tdb_steps.specs.declared.stage.Stage.{Stage}
use Rattle.tdb_steps.specs.declared.stage.Stage.TheVariants as Stages
use Rattle.tdb_steps.specs.declared.stage.Next.{Next}
use Rattle.tdb_steps.specs.Stages.{hands_in}
use Rattle.tdb_steps.specs.Order.{IsAfter}
use Rattle.tdb_steps.specs.PlainCommands.{IsKeyed, command_of}
use Rattle.tdb_steps.specs.Walks.{SparesStood, StandInChains}
use Rattle.tdb_steps.specs.Shifts.{StandsBeside}
use Rattle.tdb_steps.specs.Machines.{Doing, Leaves, MachineTurned, MapTurned, Spares}
use Rattle.tdb_steps.specs.Machines.MapTurned.{map_waits, map_goes_on, map_changes, map_answers, map_starves, map_is_full, map_finishes}
use Rattle.tdb_steps.proofs.Made.{not_both}
use Rattle.tdb_steps.proofs.Shifts.{stood_stay, turns_shift}
use Rattle.tdb_txn_turns.specs.InsideTxn.Spared.{StageSpares, TurnSpares, WalkKept}

-- where a walk on a record has come in an image
abbrev mark_on : Form → List ℕ → ℕ → ℕ → Mark
mark_on f img chain off = mark_of f (chains_in f img) (on_record chain off)

-- After so many steps the record is one of its chain still, and each key that was further on is so still, unless the
-- change is made and touches it.
pub record WalkSoFar (f : Form) (a b : List ℕ) (chain off : ℕ) (c : MapCommand) (n : ℕ) : Type 0 where
  pub member : Member off (chain_of f b chain)
  pub shift : Shift f (λ k. (map_changed c n && map_touches c k) ≡ true) (mark_on f a chain off) (mark_on f b chain off)

-- two shifts, one after the other
shift_then : (f : Form) (First Then Lost_ : List ℕ → Type 0) (mark later last : Mark) → ((k : List ℕ) → First k → Lost_ k) → ((k : List ℕ) → Then k → Lost_ k) → Shift f First mark later → Shift f Then later last → Shift f Lost_ mark last
shift_then f First Then Lost_ mark later last one two S T = record {
  inside = T.inside ∙ S.inside;
  reached = T.reached ∙ S.reached;
  fewer = λ k ahead. elim (T.fewer k ahead) [ inl was ↦ S.fewer k was | inr far ↦ inr (let same = S.reached in omega (arith, far, same)) ];
  kept = λ k ahead. elim (S.kept k ahead) [
    | inl still ↦ elim (T.kept k still) [ inl there ↦ inl there | inr lost ↦ inr (two k lost) ]
    | inr lost ↦ inr (one k lost)
  ];
}

-- what is changed stays changed
changed_more : (c : MapCommand) (n : ℕ) → map_changed c n ≡ true → map_changed c (n + 1) ≡ true
changed_more (Fetch k) n e = e
changed_more (Has k) n e = e
changed_more (Check) n e = e
changed_more (Delete k) n e = grind (arith, nat_tests)
changed_more (Store k v) n e = grind (arith, nat_tests)
changed_more (Insert k v) n e = grind (arith, nat_tests)
changed_more (Modify k v) n e = grind (arith, nat_tests)
changed_more (Append k v) n e = grind (arith, nat_tests)
changed_more Wipe n e = grind (arith, nat_tests)

both : (x y z : Bool) → (x ≡ true → z ≡ true) → (x && y) ≡ true → (z && y) ≡ true
both true y z then e = ap (λ w. w && y) (then refl) ∙ e
both false y z then e = absurd (false≢true e)

-- an end behind the change says that it is done
made_done : (f : Form) (b : List ℕ) (c : MapCommand) (n : ℕ) (m : Map) (r : Reply) → map_changed c n ≡ true → MapTurned f b c n m (Ends r) → is_done r ≡ true
made_done f b c n m r made (map_waits o byte t was M) = absurd (cc t)
made_done f b c n m r made (map_goes_on t same M) = absurd (cc t)
made_done f b c n m r made (map_changes t late was now done M) = absurd (cc t)
made_done f b c n m r made (map_answers s t late was says M) = absurd (not_both (map_changed c n) made was)
made_done f b c n m r made (map_starves t was M) = absurd (not_both (map_changed c n) made was)
made_done f b c n m r made (map_is_full len need t fills late was done M) = absurd (not_both (map_changed c n) made was)
made_done f b c n m r made (map_finishes t now M) = ap is_done (reply_in t)
  where
    reply_in : {p q : Reply} → Ends p ≡ Ends q → p ≡ q
    reply_in e = cc

-- an opener without a transaction, by whose state no command on a key is refused
abbrev bare : Own
bare = record { options = record { nesting = true; read_only = false; seqnum = false }; live = true; txn = None; counts = empty; all = None; cursor = None }

granted : (f : Form) (command : Plain) → IsKeyed command → refusal f (OnMap (command_of command)) bare ≡ None
unfolding refusal
granted f (Plains.Fetch key) keyed = refl
granted f (Plains.Has key) keyed = refl
granted f (Plains.Store key value Flags.Replace) keyed = refl
granted f (Plains.Store key value Flags.Insert) keyed = refl
granted f (Plains.Store key value Flags.Modify) keyed = refl
granted f (Plains.Append key value) keyed = refl
granted f (Plains.Delete key) keyed = refl
granted f Plains.Wipe keyed = absurd keyed

module _ (f : Form) (stood_on : List ℕ) (chain off : ℕ) (low : chain < f.chains) (there : Contains stood_on off) where
  abbrev stands : ℕ → Bool
  stands p = p == off

  -- a turn from image b to image d
  module _ (b d : List ℕ) (was now : Doing) (n : ℕ) (turn : Turn) (A : AcceptWith f b (hands_in was.stage ++ [])) (M : MachineTurned f b d was now n turn []) (is : IsAfter was.command was.stage n) (L : Leaves was now n turn)
      (keyed : IsKeyed was.command) (member : Member off (chain_of f b chain)) (S : TurnSpares stood_on now turn) where
    in_chains : StandInChains f b stands
    in_chains p on = (chain, low, subst (λ q. Member q (chain_of f b chain)) (sym (eqb-true p off on)) member)

    stage_spares : (stage : Stage) → StageSpares stood_on stage now.command → SparesStood stands (Next.Step stage)
    stage_spares Stages.Begun T = tt
    stage_spares Stages.Chained T = tt
    stage_spares (Stages.Looked found) T = tt
    stage_spares (Stages.Listed found) T = tt
    stage_spares (Stages.Taken found hand) T = tt
    stage_spares (Stages.Changed hand) T = ne_eqb hand.0 off (λ e. T (subst (Contains stood_on) (sym e) there))
    stage_spares (Stages.Wiping locked) T = tt
    stage_spares Stages.Ending T = tt

    turn_spares : (t : Turn) → TurnSpares stood_on now t → Spares stands now t
    turn_spares Step T = stage_spares now.stage T
    turn_spares (Blocked o byte) T = tt
    turn_spares (Ends r) T = tt

    beside : (command : Plain) → IsKeyed command → StandsBeside command stands (on_record chain off)
    beside (Plains.Fetch key) k = eq-eqb off off refl
    beside (Plains.Has key) k = eq-eqb off off refl
    beside (Plains.Store key value flag) k = eq-eqb off off refl
    beside (Plains.Append key value) k = eq-eqb off off refl
    beside (Plains.Delete key) k = eq-eqb off off refl
    beside Plains.Wipe k = absurd k

    member_then : Member off (chain_of f d chain)
    member_then = stood_stay f b d was now n turn [] stands A M keyed in_chains (turn_spares turn S) chain off low (eq-eqb off off refl) member

    abbrev c : MapCommand
    c = command_of was.command

    turn_shift : Shift f (Lost f (OnMap c) n bare turn true (mark_on f b chain off)) (mark_on f b chain off) (mark_on f d chain off)
    turn_shift = turns_shift f b d was now n turn [] bare stands (on_record chain off) true A M is L refl (granted f was.command keyed) in_chains (turn_spares turn S) (beside was.command keyed)

    made_in : is_changed f (OnMap c) bare (n + 1) ≡ true → map_changed c (n + 1) ≡ true
    unfolding is_changed
    made_in e = sym (ap (λ q. changed_by q (OnMap c) bare (n + 1)) (granted f was.command keyed)) ∙ e

    touches_in : (k : List ℕ) → touches f (OnMap c) bare k ≡ true → map_touches c k ≡ true
    touches_in k e = sym (ap (λ q. touches_by q (OnMap c) bare k) (granted f was.command keyed)) ∙ e

    -- what is lost by a step, and by an end
    lost_by_step : (k : List ℕ) → turn ≡ Step → Lost f (OnMap c) n bare turn true (mark_on f b chain off) k → (map_changed c (n + 1) && map_touches c k) ≡ true
    lost_by_step k step (lost_by_done e) = absurd (false≢true (sym (ap (λ t. touched (OnMap c) t k) step) ∙ e))
    lost_by_step k step (lost_by_taking other t taken) = absurd (false≢true (sym other))
    lost_by_step k step (lost_by_passing t made touch plain near) = ap (λ z. z && map_touches c k) (made_in made) ∙ touches_in k touch

    lost_by_end : (k : List ℕ) (r : Reply) → turn ≡ Ends r → Lost f (OnMap c) n bare turn true (mark_on f b chain off) k → touched (OnMap c) (Ends r) k ≡ true
    lost_by_end k r end (lost_by_done e) = sym (ap (λ t. touched (OnMap c) t k) end) ∙ e
    lost_by_end k r end (lost_by_taking other t taken) = absurd (false≢true (sym other))
    lost_by_end k r end (lost_by_passing t made touch plain near) = absurd (let bad = sym end ∙ t in cc bad)

  -- before the first turn
  pub walk_begins : (a : List ℕ) (command : MapCommand) → Member off (chain_of f a chain) → WalkSoFar f a a chain off command 0
  walk_begins a command member = record { member = member; shift = record { inside = refl; reached = refl; fewer = λ k e. inl e; kept = λ k e. inl e } }

  module _ (a b d : List ℕ) (command : Plain) (was now : Doing) (n : ℕ) (same : was.command ≡ command) (keyed : IsKeyed command) (is : IsAfter was.command was.stage n) (A : AcceptWith f b (hands_in was.stage ++ []))
      (W : WalkSoFar f a b chain off (command_of command) n) where
    key_was : IsKeyed was.command
    key_was = subst IsKeyed (sym same) keyed

    -- after a step
    pub walk_goes_on : MachineTurned f b d was now n Step [] → Leaves was now n Step → TurnSpares stood_on now Step → WalkSoFar f a d chain off (command_of command) (n + 1)
    walk_goes_on M L S = record {
      member = member_then b d was now n Step A M is L key_was W.member S;
      shift = shift_then f _ _ (λ k. (map_changed (command_of command) (n + 1) && map_touches (command_of command) k) ≡ true) (mark_on f a chain off) (mark_on f b chain off) (mark_on f d chain off)
          (λ k. both (map_changed (command_of command) n) (map_touches (command_of command) k) (map_changed (command_of command) (n + 1)) (changed_more (command_of command) n))
          (λ k lost. subst (λ p. (map_changed (command_of p) (n + 1) && map_touches (command_of p) k) ≡ true) same (lost_by_step b d was now n Step A M is L key_was W.member S k refl lost)) W.shift
          (turn_shift b d was now n Step A M is L key_was W.member S);
    }

    -- and at the end
    pub walk_ends_so : (r : Reply) → MachineTurned f b d was now n (Ends r) [] → Leaves was now n (Ends r) → WalkKept f a d chain off (command_of command) r
    walk_ends_so r M L = record {
      member = member_then b d was now n (Ends r) A M is L key_was W.member tt;
      shift = shift_then f _ _ (λ k. touched (OnMap (command_of command)) (Ends r) k ≡ true) (mark_on f a chain off) (mark_on f b chain off) (mark_on f d chain off)
          (λ k. both (map_changed (command_of command) n) (map_touches (command_of command) k) (is_done r)
          (λ made. made_done f d (command_of command) n (image_map f b) r made (subst (λ p. MapTurned f d (command_of p) n (image_map f b) (Ends r)) same (M.map (image_map f b) (image_answers f b)))))
          (λ k lost. subst (λ p. touched (OnMap (command_of p)) (Ends r) k ≡ true) same (lost_by_end b d was now n (Ends r) A M is L key_was W.member tt k r refl lost)) W.shift
          (turn_shift b d was now n (Ends r) A M is L key_was W.member tt);
    }
