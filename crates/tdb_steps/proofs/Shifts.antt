-- A turn of a plain command shifts every walk.
use Rattle.std.proofs.Common.{◌≡◌, ℕ, ◌+◌, ◌++◌, ◌⊎◌, List, Bool, true, false, Option, Some, None, is_none, is_some, nat_le, nat_lt, refl, sym, ◌∙◌, ap, subst, inl, inr, arith}
use Rattle.std.specs.Prelude.{◌&&◌, if◌then◌else◌, cond}
use Rattle.std.specs.FinMap.{get, insert}
use Rattle.std.proofs.lemmas.Bool.{cases_Bool, cases_eq, eq-eqb, ne_eqb, leb-true, ltb-true}
use Rattle.tdb_space.specs.Form.{Form}
use Rattle.tdb_space.specs.Pairs.{home}
use Rattle.tdb_space.specs.Chain.{Member, chain_of}
use Rattle.tdb_space.specs.Extents.{HandPair}
use Rattle.tdb_space.specs.Accepted.{AcceptWith}
use Rattle.tdb_space.proofs.Pairs.Maps.{home_below}
use Rattle.tdb_law.specs.Commands.{Reply, Turn, MapCommand, is_done}
use Rattle.tdb_law.specs.Commands.Command.{OnMap}
use Rattle.tdb_law.specs.Commands.Turn.{Step, Ends}
use Rattle.tdb_law.specs.Openers.{Own, Map, has, is_key}
use Rattle.tdb_law.specs.Refusals.{refusal}
use Rattle.tdb_law.specs.MapCommands.{reply, after, map_removes, map_touches, fetched}
use Rattle.tdb_law.specs.Rows.{is_changed as is_made, changed_by, map_changed}
use Rattle.tdb_law.specs.Outcomes.{touches_by, touched}
use Rattle.tdb_law.specs.Counting.{takes, takes_by}
use Rattle.tdb_law.specs.Walks.{Lost, Shift}
use Rattle.tdb_law.specs.Walks.Lost.{lost_by_done, lost_by_taking, lost_by_passing}
use Rattle.tdb_law.specs.Layout.{Chains, Place, Keeps, IsStood, ahead_of, behind, chains_in, inside_of, live_in, mark_of, reached_of}
use Rattle.tdb_law.specs.Layout.Place.{off_chains, before_chain, on_record}
use Rattle.tdb_law.specs.Images.{image_map}
use Rattle.tdb_law.proofs.HandsOut.{image_answers}
use Rattle.tdb_law.proofs.Maps.{get_put, is_key-eq, is_key-refl}
use Rattle.tdb_law.proofs.Tests.{never_true, and_both}
use Rattle.tdb_steps.specs.declared.flag.Flag.TheVariants as Flags
use Rattle.tdb_steps.specs.declared.plain.Plain.{Plain}
use Rattle.tdb_steps.specs.declared.plain.Plain.TheVariants.{Fetch, Has, Store, Append, Delete, Wipe}
use Rattle.tdb_steps.specs.Stages.{hands_in, is_changed}
use Rattle.tdb_steps.specs.PlainCommands.{IsKeyed, IsMapOf, command_of, key_of}
use Rattle.tdb_steps.specs.Order.{IsAfter}
use Rattle.tdb_steps.specs.Walks.{StandInChains, KeepsAll, KeepsBy}
use Rattle.tdb_steps.specs.Machines.{Doing, MachineTurned, MapTurned, IsOn, Leaves, Spares, is_changed_then}
use Rattle.tdb_steps.specs.Machines.MapTurned.{map_waits, map_goes_on, map_changes, map_answers, map_starves, map_is_full, map_finishes}
use Rattle.tdb_steps.specs.Shifts.{StandsBeside, StoodStay, TurnsShift}
use Rattle.tdb_steps.proofs.Cells.{live_mapped}
use Rattle.tdb_steps.proofs.Lawful.{changed_after}
use Rattle.tdb_steps.proofs.Walks.{stays_kept}

-- what a walk has further on, by where it stands
module _ (f : Form) (cs later : Chains) (lost : List ℕ → Type 0) where
  -- the keys of a whole chain that were there are there, or are lost
  abbrev pub WholeKept : Type 0
  WholeKept = (k : List ℕ) → live_in (cs (home f k)) k ≡ true → (live_in (later (home f k)) k ≡ true) ⊎ lost k

  shift_off : Shift f lost (mark_of f cs off_chains) (mark_of f later off_chains)
  shift_off = record { inside = refl; reached = refl; fewer = λ k e. absurd (never_true e); kept = λ k e. absurd (never_true e) }

  shift_before : (i : ℕ) → WholeKept → Shift f lost (mark_of f cs (before_chain i)) (mark_of f later (before_chain i))
  shift_before i whole = record {
    inside = refl;
    reached = refl;
    fewer = λ k e. inr (leb-true i (home f k) (and_both (nat_le i (home f k)) (live_in (later (home f k)) k) e).0);
    kept = λ k e. let both = and_both (nat_le i (home f k)) (live_in (cs (home f k)) k) e in elim (whole k both.1) [
      | inl there ↦ inl (ap (λ z. z && live_in (later (home f k)) k) both.0 ∙ there)
      | inr gone ↦ inr gone
    ];
  }

  module _ (i p : ℕ) where
    ahead_here : (xs : Chains) (k : List ℕ) → home f k ≡ i → ahead_of f xs (on_record i p) k ≡ live_in (behind (xs i) p) k
    ahead_here xs k e = ap (λ z. if z then live_in (behind (xs i) p) k else nat_lt i (home f k) && live_in (xs (home f k)) k) (eq-eqb (home f k) i e)

    ahead_else : (xs : Chains) (k : List ℕ) → (home f k ≡ i → ⊥) → ahead_of f xs (on_record i p) k ≡ (nat_lt i (home f k) && live_in (xs (home f k)) k)
    ahead_else xs k ne = ap (λ z. if z then live_in (behind (xs i) p) k else nat_lt i (home f k) && live_in (xs (home f k)) k) (ne_eqb (home f k) i ne)

    shift_on : ((k : List ℕ) → home f k ≡ i → live_in (behind (later i) p) k ≡ true → live_in (behind (cs i) p) k ≡ true)
        → ((k : List ℕ) → home f k ≡ i → live_in (behind (cs i) p) k ≡ true → (live_in (behind (later i) p) k ≡ true) ⊎ lost k) → WholeKept
        → Shift f lost (mark_of f cs (on_record i p)) (mark_of f later (on_record i p))
    shift_on fewer kept whole = record {
      inside = refl;
      reached = refl;
      fewer = λ k e. elim (cases_eq (home f k) i) [
        | inl here ↦ inl (ahead_here cs k here ∙ fewer k here (sym (ahead_here later k here) ∙ e))
        | inr ne ↦ inr (let both = and_both (nat_lt i (home f k)) (live_in (later (home f k)) k) (sym (ahead_else later k ne) ∙ e) in let above = ltb-true i (home f k) both.0 in omega (arith, above))
      ];
      kept = λ k e. elim (cases_eq (home f k) i) [
        | inl here ↦ elim (kept k here (sym (ahead_here cs k here) ∙ e)) [ inl there ↦ inl (ahead_here later k here ∙ there) | inr gone ↦ inr gone ]
        | inr ne ↦
            let both = and_both (nat_lt i (home f k)) (live_in (cs (home f k)) k) (sym (ahead_else cs k ne) ∙ e) in
            elim (whole k both.1) [ inl there ↦ inl (ahead_else later k ne ∙ ap (λ z. z && live_in (later (home f k)) k) both.0 ∙ there) | inr gone ↦ inr gone ]
      ];
    }

-- a command that is done has the key of its own, and one that takes none out leaves it in the map
fetch_undone : (o : Option (List ℕ)) → fetched o ≡ Reply.Done → ⊥
fetch_undone None e = cc
fetch_undone (Some v) e = cc

has_undone : (h : Bool) → (if h then Reply.Yes else Reply.No) ≡ Reply.Done → ⊥
has_undone true e = cc
has_undone false e = cc

done_touches : (command : Plain) → IsKeyed command → (m : Map) (k : List ℕ) → reply (command_of command) m ≡ Reply.Done → is_key (key_of command) k ≡ true → map_touches (command_of command) k ≡ true
done_touches (Fetch q) keyed m k done same = absurd (fetch_undone (get m q) done)
done_touches (Has q) keyed m k done same = absurd (has_undone (has m q) done)
done_touches (Store q v Flags.Replace) keyed m k done same = same
done_touches (Store q v Flags.Insert) keyed m k done same = same
done_touches (Store q v Flags.Modify) keyed m k done same = same
done_touches (Append q v) keyed m k done same = same
done_touches (Delete q) keyed m k done same = same
done_touches Wipe keyed m k done same = absurd keyed

put_there : (m : Map) (q v : List ℕ) → is_some (get (insert m q v) q) ≡ true
put_there m q v = ap is_some (get_put m q v q) ∙ ap (λ z. is_some (cond z (Some v) (get m q))) (is_key-refl q)

inserted : (m : Map) (q v : List ℕ) (h : Bool) → (if h then Reply.KeyThere else Reply.Done) ≡ Reply.Done → is_some (get (if h then m else insert m q v) q) ≡ true
inserted m q v true e = cc
inserted m q v false e = put_there m q v

modified : (m : Map) (q v : List ℕ) (h : Bool) → (if h then Reply.Done else Reply.KeyMissing) ≡ Reply.Done → is_some (get (if h then insert m q v else m) q) ≡ true
modified m q v true e = put_there m q v
modified m q v false e = cc

after_has : (command : Plain) → IsKeyed command → (m : Map) → map_removes (command_of command) ≡ false → reply (command_of command) m ≡ Reply.Done → is_some (get (after (command_of command) m) (key_of command)) ≡ true
after_has (Fetch q) keyed m keeps done = absurd (fetch_undone (get m q) done)
after_has (Has q) keyed m keeps done = absurd (has_undone (has m q) done)
after_has (Store q v Flags.Replace) keyed m keeps done = put_there m q v
after_has (Store q v Flags.Insert) keyed m keeps done = inserted m q v (has m q) done
after_has (Store q v Flags.Modify) keyed m keeps done = modified m q v (has m q) done
after_has (Append q v) keyed m keeps done = put_there m q _
after_has (Delete q) keyed m keeps done = absurd (never_true (sym keeps))
after_has Wipe keyed m keeps done = absurd keyed

on_home : (command : Plain) → IsKeyed command → (f : Form) (j : ℕ) → IsOn f command j → j ≡ home f (key_of command)
on_home (Fetch q) keyed f j on = on
on_home (Has q) keyed f j on = on
on_home (Store q v flag) keyed f j on = on
on_home (Append q v) keyed f j on = on
on_home (Delete q) keyed f j on = on
on_home Wipe keyed f j on = absurd keyed

done_reply : (r : Reply) → is_done r ≡ true → r ≡ Reply.Done
done_reply Reply.Done e = refl
done_reply Reply.End e = cc
done_reply Reply.KeyMissing e = cc
done_reply Reply.KeyThere e = cc
done_reply Reply.ReadOnly e = cc
done_reply Reply.NoTransaction e = cc
done_reply Reply.InTransaction e = cc
done_reply Reply.Nesting e = cc
done_reply Reply.Doomed e = cc
done_reply Reply.NotLocked e = cc
done_reply Reply.Memory e = cc
done_reply Reply.Yes e = cc
done_reply Reply.No e = cc
done_reply (Reply.Value v) e = cc
done_reply (Reply.Pair k v) e = cc
done_reply (Reply.Busy o b) e = cc
done_reply (Reply.Full len need) e = cc
done_reply (Reply.HeldLocks n) e = cc
done_reply (Reply.Number n) e = cc

module _ (f : Form) (a b : List ℕ) (d e : Doing) (n : ℕ) (turn : Turn) (others : List HandPair) (x : Own) (stands : ℕ → Bool) (place : Place) (mine : Bool)
    (A : AcceptWith f a (hands_in d.stage ++ others)) (T : MachineTurned f a b d e n turn others) (is : IsAfter d.command d.stage n) (L : Leaves d e n turn)
    (out : x.txn ≡ None) (granted : refusal f (OnMap (command_of d.command)) x ≡ None) where
  abbrev c : MapCommand
  c = command_of d.command

  abbrev key : List ℕ
  key = key_of d.command

  abbrev m : Map
  m = image_map f a

  abbrev Gone : List ℕ → Type 0
  Gone k = Lost f (OnMap c) n x turn mine (mark_of f (chains_in f a) place) k

  turned : MapTurned f b c n m turn
  turned = T.map m (image_answers f a)

  -- how a key is lost: by a command that is done, by one that takes it out, or by one that links its record anew
  gone_done : (k : List ℕ) → turn ≡ Ends Reply.Done → map_touches c k ≡ true → Gone k
  gone_done k t touches = lost_by_done (ap (λ u. touched (OnMap c) u k) t ∙ touches)

  made : map_changed c (n + 1) ≡ true → is_made f (OnMap c) x (n + 1) ≡ true
  unfolding is_made
  made now = ap (λ q. changed_by q (OnMap c) x (n + 1)) granted ∙ ap (λ o. is_none o && map_changed c (n + 1)) out ∙ now

  passes : (k : List ℕ) → turn ≡ Step → map_changed c (n + 1) ≡ true → map_touches c k ≡ true → (mine ≡ true) ⊎ ((inside_of place ≡ true) × (home f k + 1 ≡ reached_of place)) → Gone k
  passes k t now touches by = lost_by_passing t (made now) (ap (λ q. touches_by q (OnMap c) x k) granted ∙ ap (λ o. is_none o && map_touches c k) out ∙ touches) tt by

  taken : (k : List ℕ) → map_changed c (n + 1) ≡ true → map_removes c ≡ true → map_touches c k ≡ true → takes f (OnMap c) x (n + 1) k ≡ true
  unfolding takes
  taken k now removes touches =
      ap (λ q. takes_by q (OnMap c) x (n + 1) k) granted ∙ ap (λ o. is_none o && (map_changed c (n + 1) && (map_removes c && map_touches c k))) out
      ∙ ap (λ z. z && (map_removes c && map_touches c k)) now ∙ ap (λ z. z && map_touches c k) removes ∙ touches

  gone_taken : (k : List ℕ) → turn ≡ Step → map_changed c (n + 1) ≡ true → map_removes c ≡ true → map_touches c k ≡ true → Gone k
  gone_taken k t now removes touches = elim (cases_Bool mine) [
    | inl is_mine ↦ passes k t now touches (inl is_mine)
    | inr another ↦ lost_by_taking another t (taken k now removes touches)
  ]

  -- where the map stays, so does each key in its whole chain
  mapped_still : (k : List ℕ) → IsMapOf f b m → live_in (chains_in f a (home f k)) k ≡ true → live_in (chains_in f b (home f k)) k ≡ true
  mapped_still k M there = live_mapped f b k (hands_in e.stage ++ others) T.accepted ∙ ap is_some (sym (M k) ∙ image_answers f a k) ∙ sym (live_mapped f a k (hands_in d.stage ++ others) A) ∙ there

  -- a wipe
  wiped_whole : d.command ≡ Wipe → MapTurned f b MapCommand.Wipe n m turn → (k : List ℕ) → live_in (chains_in f a (home f k)) k ≡ true → (live_in (chains_in f b (home f k)) k ≡ true) ⊎ Gone k
  wiped_whole wipes (map_waits o byte t un M) k there = inl (mapped_still k M there)
  wiped_whole wipes (map_goes_on t same M) k there = inl (mapped_still k M there)
  wiped_whole wipes (map_changes t late un now done M) k there = inr (gone_taken k t (ap (λ q. map_changed (command_of q) (n + 1)) wipes ∙ now) (ap (λ q. map_removes (command_of q)) wipes) (ap (λ q. map_touches (command_of q) k) wipes))
  wiped_whole wipes (map_answers r t late un says M) k there = inr (gone_done k (t ∙ ap Ends says) (ap (λ q. map_touches (command_of q) k) wipes))
  wiped_whole wipes (map_starves t un M) k there = inl (mapped_still k M there)
  wiped_whole wipes (map_is_full len need t fills late un done M) k there = inl (mapped_still k M there)
  wiped_whole wipes (map_finishes t now M) k there = inl (mapped_still k M there)

  -- a command on a key
  module _ (keyed : IsKeyed d.command) (stood : StandInChains f a stands) (spares : Spares stands e turn) where
    changed_before : is_changed d.stage ≡ map_changed c n
    changed_before = changed_after d.command keyed d.stage n is

    changed_then : turn ≡ Step → is_changed_then d e turn ≡ map_changed c (n + 1)
    changed_then t =
        let left = subst (Leaves d e n) t L in
        ap (is_changed_then d e) t ∙ changed_after e.command (subst IsKeyed (sym left.0) keyed) e.stage (n + 1) left.3 ∙ ap (λ q. map_changed (command_of q) (n + 1)) left.0

    -- its own key, where the turn makes the change
    own_key : is_changed d.stage ≡ false → is_changed_then d e turn ≡ true → (k : List ℕ) → is_key key k ≡ true → MapTurned f b c n m turn
        → ((live_in (chains_in f b (home f k)) k ≡ true) ⊎ Gone k) × (inside_of place ≡ true → home f k + 1 ≡ reached_of place → Gone k)
    own_key before later k same (map_waits o byte t un M) = absurd (never_true (sym before ∙ (ap (is_changed_then d e) (sym t) ∙ later)))
    own_key before later k same (map_goes_on t still M) = absurd (never_true (sym before ∙ changed_before ∙ sym still ∙ sym (changed_then t) ∙ later))
    own_key before later k same (map_changes t late un now done M) =
        let touches = done_touches d.command keyed m k done same in (
          elim (cases_Bool (map_removes c)) [
            | inl removes ↦ inr (gone_taken k t now removes touches)
            | inr leaves ↦ inl (live_mapped f b k (hands_in e.stage ++ others) T.accepted ∙ ap is_some (sym (M k)) ∙ ap (λ q. is_some (get (after c m) q)) (is_key-eq key k same) ∙ after_has d.command keyed m leaves done)
          ],
          λ inside reached. passes k t now touches (inr (inside, reached)),
        )
    own_key before later k same (map_answers r t late un says M) =
        let done = done_reply r (sym (ap (is_changed_then d e) t) ∙ later) in
        let gone = gone_done k (t ∙ ap Ends done) (done_touches d.command keyed m k (sym says ∙ done) same) in
        (inr gone, λ inside reached. gone)
    own_key before later k same (map_starves t un M) = absurd (never_true (sym (ap (is_changed_then d e) t) ∙ later))
    own_key before later k same (map_is_full len need t fills late un done M) = absurd (never_true (sym (ap (is_changed_then d e) t) ∙ later))
    own_key before later k same (map_finishes t now M) = absurd (never_true (sym before ∙ changed_before ∙ now))

    -- what the chain of a key keeps of it
    record Held (j : ℕ) (k : List ℕ) : Type 0 where
      fewer : (p : ℕ) → stands p ≡ true → live_in (behind (chains_in f b j) p) k ≡ true → live_in (behind (chains_in f a j) p) k ≡ true
      whole : live_in (chains_in f a j) k ≡ true → (live_in (chains_in f b j) k ≡ true) ⊎ Gone k
      rest : (p : ℕ) → stands p ≡ true → inside_of place ≡ true → home f k + 1 ≡ reached_of place → live_in (behind (chains_in f a j) p) k ≡ true → (live_in (behind (chains_in f b j) p) k ≡ true) ⊎ Gone k

    from_all : (j : ℕ) (k : List ℕ) → KeepsAll stands (chains_in f a j) (chains_in f b j) → Held j k
    from_all j k K = record {
      fewer = λ p on there. sym (K.behind_same p k on) ∙ there;
      whole = λ there. inl (K.whole k ∙ there);
      rest = λ p on inside reached there. inl (K.behind_same p k on ∙ there);
    }

    from_change : (k : List ℕ) → home f k ≡ home f key → is_changed d.stage ≡ false → is_changed_then d e turn ≡ true → Keeps stands key (chains_in f a (home f key)) (chains_in f b (home f key)) → Held (home f key) k
    from_change k at_home before later K = elim (cases_Bool (is_key key k)) [
      | inl same ↦
          let own = own_key before later k same turned in
          record {
            fewer = λ p on there. K.behind_fewer p k on there;
            whole = λ there. subst (λ j. (live_in (chains_in f b j) k ≡ true) ⊎ Gone k) at_home own.0;
            rest = λ p on inside reached there. inr (own.1 inside reached);
          }
      | inr other ↦ record {
        fewer = λ p on there. K.behind_fewer p k on there;
        whole = λ there. inl (K.whole k other ∙ there);
        rest = λ p on inside reached there. inl (K.behind_same p k on other ∙ there);
      }
    ]

    by_kind : (u v : Bool) → is_changed d.stage ≡ u → is_changed_then d e turn ≡ v → KeepsBy u v stands key (chains_in f a (home f key)) (chains_in f b (home f key)) → (k : List ℕ) → home f k ≡ home f key → Held (home f key) k
    by_kind true true before later K k at_home = from_all (home f key) k K
    by_kind true false before later K k at_home = from_all (home f key) k K
    by_kind false true before later K k at_home = from_change k at_home before later K
    by_kind false false before later K k at_home = from_all (home f key) k K

    held_at : (k : List ℕ) → Held (home f k) k
    held_at k = elim (cases_eq (home f k) (home f key)) [
      | inl at_home ↦ subst (λ j. Held j k) (sym at_home) (by_kind (is_changed d.stage) (is_changed_then d e turn) refl refl (T.walks keyed stands stood spares).keeps k at_home)
      | inr apart ↦
          let low = home_below f k A.some in
          from_all (home f k) k (stays_kept f a b (hands_in d.stage ++ others) A T.only.front.longer (home f k) low stands (T.only.chains (home f k) low (λ may. apart (on_home d.command keyed f (home f k) may.0))))
    ]

    key_shifts : (at : Place) → place ≡ at → IsStood stands at → Shift f Gone (mark_of f (chains_in f a) at) (mark_of f (chains_in f b) at)
    key_shifts off_chains same on = shift_off f (chains_in f a) (chains_in f b) Gone
    key_shifts (before_chain i) same on = shift_before f (chains_in f a) (chains_in f b) Gone i (λ k. (held_at k).whole)
    key_shifts (on_record i p) same on =
        shift_on f (chains_in f a) (chains_in f b) Gone i p
        (λ k here there. subst (λ j. live_in (behind (chains_in f a j) p) k ≡ true) here ((held_at k).fewer p on (subst (λ j. live_in (behind (chains_in f b j) p) k ≡ true) (sym here) there)))
        (λ k here there. subst (λ j. (live_in (behind (chains_in f b j) p) k ≡ true) ⊎ Gone k) here
        ((held_at k).rest p on (ap inside_of same) (ap (λ z. z + 1) here ∙ sym (ap reached_of same)) (subst (λ j. live_in (behind (chains_in f a j) p) k ≡ true) (sym here) there)))
        (λ k. (held_at k).whole)

  wipe_shifts : d.command ≡ Wipe → (at : Place) → StandsBeside Wipe stands at → Shift f Gone (mark_of f (chains_in f a) at) (mark_of f (chains_in f b) at)
  wipe_shifts wipes off_chains beside = shift_off f (chains_in f a) (chains_in f b) Gone
  wipe_shifts wipes (before_chain i) beside = shift_before f (chains_in f a) (chains_in f b) Gone i (wiped_whole wipes (subst (λ q. MapTurned f b (command_of q) n m turn) wipes turned))
  wipe_shifts wipes (on_record i p) beside = absurd beside

  each : (command : Plain) → d.command ≡ command → StandInChains f a stands → Spares stands e turn → StandsBeside command stands place → Shift f Gone (mark_of f (chains_in f a) place) (mark_of f (chains_in f b) place)
  each (Fetch q) same stood spares beside = key_shifts (subst IsKeyed (sym same) tt) stood spares place refl beside
  each (Has q) same stood spares beside = key_shifts (subst IsKeyed (sym same) tt) stood spares place refl beside
  each (Store q v flag) same stood spares beside = key_shifts (subst IsKeyed (sym same) tt) stood spares place refl beside
  each (Append q v) same stood spares beside = key_shifts (subst IsKeyed (sym same) tt) stood spares place refl beside
  each (Delete q) same stood spares beside = key_shifts (subst IsKeyed (sym same) tt) stood spares place refl beside
  each Wipe same stood spares beside = wipe_shifts same place beside

pub turns_shift : TurnsShift
turns_shift f a b d e n turn others x stands place mine A T is L out granted stood spares beside = each f a b d e n turn others x stands place mine A T is L out granted d.command refl stood spares beside

pub stood_stay : StoodStay
stood_stay f a b d e n turn others stands A T keyed stood spares j p low on there = elim (cases_eq j (home f (key_of d.command))) [
  | inl at_home ↦ subst (λ i. Member p (chain_of f b i)) (sym at_home) ((T.walks keyed stands stood spares).members p on (subst (λ i. Member p (chain_of f a i)) at_home there))
  | inr apart ↦ subst (Member p) (sym (T.only.chains j low (λ may. apart (on_home d.command keyed f j may.0))).same_offsets) there
]
