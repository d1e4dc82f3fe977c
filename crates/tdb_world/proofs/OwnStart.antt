-- The first turn of a Start: its opener goes aside by it, or is barred by who is aside already.
use Rattle.std.proofs.Common.{◌≡◌, ◌≢◌, ◌⊎◌, ℕ, zero, suc, ◌+◌, ◌<◌, ◌≤◌, max, List, [], ◌∷◌, set, slice_get, slice_set, sum, Bool, true, false, cond, nat_le, nat_lt, Option, Some, None, is_none, zero-le, refl, sym, ◌∙◌, ap, subst, inl, inr, arith}
use Rattle.std.specs.Prelude.{◌&&◌}
use Rattle.std.specs.FinMap.{empty}
use Rattle.std.specs.Map.{values_of}
use Rattle.std.proofs.lemmas.Bool.{cases_eq, cond-true, cond-false}
use Rattle.std.proofs.lemmas.Bool.Decides.{nat_tests}
use Rattle.std.proofs.lemmas.List.{length-set}
use Rattle.tdb_disk.specs.History.{History}
use Rattle.tdb_space.specs.Form.{Form}
use Rattle.tdb_law.specs.Commands.{Turn}
use Rattle.tdb_law.specs.Commands.GroupCommand.{Start}
use Rattle.tdb_law.specs.Commands.Command.{OnGroup}
use Rattle.tdb_law.specs.Commands.Reply.{Memory}
use Rattle.tdb_law.specs.Commands.Turn.{Blocked, Ends}
use Rattle.tdb_law.specs.Effects.Effect.{effect_starves}
use Rattle.tdb_law.specs.Effects.Stays.{stands_nowhere}
use Rattle.tdb_law.specs.Ends.{starves, starves_by}
use Rattle.tdb_law.specs.Held.{all_held, decided, holding, kept, locked_next}
use Rattle.tdb_law.specs.Openers.{Own, Task, ended, nowhere}
use Rattle.tdb_law.specs.Refusals.{refusal, held_count}
use Rattle.tdb_law.specs.Outcomes.{moves_by}
use Rattle.tdb_law.specs.Rows.{is_changed, start_locks}
use Rattle.tdb_law.specs.Turned.{Turned, want}
use Rattle.tdb_law.specs.Walks.Walked.{walk_ends}
use Rattle.tdb_law.proofs.Covered.{none_held}
use Rattle.tdb_law.specs.World.{State, IsSound}
use Rattle.tdb_law.proofs.Emptied.{unchanged_start}
use Rattle.tdb_law.proofs.Tests.{never_true}
use Rattle.tdb_law.proofs.Walking.{put_here, put_else}
use Rattle.tdb_txn_turns.specs.declared.starting.Starting.TheVariants as Starts
use Rattle.tdb_txn_turns.proofs.Lawful.{start_holds}
use Rattle.tdb_law.specs.OneAside.Sides.{Past, Side, but_at, alone, beside, whole}
use Rattle.tdb_law.specs.OneAside.Turns.{without_task}
use Rattle.tdb_law.specs.OneAside.Starts.{new_start, with_starts, MayStart}
use Rattle.tdb_law.proofs.OneAside.Idle.{still_shift, waiting_is_turned}
use Rattle.tdb_law.proofs.OneAside.Parted.{put_back}
use Rattle.tdb_law.proofs.OneAside.Starting.{start_ends, starts_sound, task_is}
use Rattle.tdb_commands.specs.InLaw.{law_opener}
use Rattle.tdb_txn_owner.specs.Holders.{HolderState}
use Rattle.tdb_txn_owner.specs.Stages.{Known, IsSide}
use Rattle.tdb_txn_owner.specs.declared.stage.Stage.TheVariants as At
use Rattle.tdb_txn_owner.proofs.Keeping.{keeps_nothing}
use Rattle.tdb_openers.specs.Openers.{all_of, law_task, no_walk, own_at, own_of, spot_at, spot_by, spots_of, task_at, OpenerStands}
use Rattle.tdb_openers.specs.States.{view_at, view_under}
use Rattle.tdb_openers.specs.Worlds.{World, state_in}
use Rattle.tdb_openers.specs.declared.opener.Opener.{Opener}
use Rattle.tdb_openers.proofs.ExplicitLocks.Aside.{held_before}
use Rattle.tdb_openers.proofs.Joining.Closed.{bare_walk}
use Rattle.tdb_commands.proofs.Counts.{none_counted, sum_counted}
use Rattle.tdb_openers.proofs.Joining.Opening.{low_is_free}
use Rattle.tdb_world.specs.States.{state_with, IsAside, IsSeen, IsStateOf, SideIs}
use Rattle.tdb_world.specs.States.IsStateOf.{of_whole, of_stale}
use Rattle.tdb_world.specs.Steps.{with_aside}
use Rattle.tdb_world.specs.Whole.{Whole, form_at, options_at, is_starting, AsideFits, HolderFits, StartFits, WorldFits}
use Rattle.tdb_world.proofs.Standings.{may_start_whole}

-- where one has no Start any more, the others have theirs
pub gone_there : (xs : List Bool) (o : ℕ) → is_starting (slice_set xs o false) o ≡ false
gone_there [] o = refl
gone_there (x ∷ xs) zero = refl
gone_there (x ∷ xs) (suc o) = gone_there xs o

pub gone_else : (xs : List Bool) (o q : ℕ) → q ≢ o → is_starting (slice_set xs o false) q ≡ is_starting xs q
gone_else [] o q ne = refl
gone_else (x ∷ xs) zero zero ne = absurd (ne refl)
gone_else (x ∷ xs) zero (suc q) ne = refl
gone_else (x ∷ xs) (suc o) zero ne = refl
gone_else (x ∷ xs) (suc o) (suc q) ne = gone_else xs o q (λ e. ne (ap suc e))

-- no explicit lock of a chain is counted
bare_sum : (n : ℕ) → nat_lt 0 n ≡ false → n ≡ 0
bare_sum n e = grind (arith, nat_tests)

start_granted : (f : Form) (x : Own) → x.txn ≡ None → x.options.read_only ≡ false → held_count x ≡ 0 → refusal f (OnGroup Start) x ≡ None
unfolding refusal
start_granted f x out writes none = rw (writes, out, none) refl

-- what a Start wants at its first turn
first_there : locked_next start_locks 0 8 ≡ 2
first_there = refl

first_else : (b : ℕ) → b ≢ 8 → locked_next start_locks 0 b ≡ 0
first_else b ne = let off : (nat_le 8 b && nat_lt b 9) ≡ false = grind (arith, nat_tests) in rw off refl

-- An opener with a Start that has had no turn: it has nothing, and its Start isn't refused.
some_opener : (a b : Opener) → ◌≡◌ {A = Option Opener} (Some a) (Some b) → a ≡ b
some_opener a b e = cc

module _ (w : Whole) (o : ℕ) (any : List ℕ) (size : ℕ) (F : WorldFits w any size) (begun : is_starting w.starts o ≡ true) where
  abbrev f : Form
  f = form_at w

  abbrev S : StartFits w o
  S = F.starts o begun

  abbrev x : Opener
  x = S.opener

  abbrev own : Own
  own = own_of (options_at w) x

  walk : x.walk ≡ no_walk
  walk = bare_walk w.openers (o + 1) x (record { place = o; counted = refl; there = S.there }) S.bare any size F.openers

  uncounted : own.counts ≡ empty
  uncounted = none_counted x.held.chains (bare_sum (sum (values_of x.held.chains)) S.bare.no_chains)

  bare : ended own ≡ own
  bare = λ i. record own { counts = sym uncounted i; all = ap all_of (sym S.none) i; cursor = sym S.bare.no_cursor i }

  counts_none : held_count own ≡ 0
  counts_none =
      let well = subst (OpenerStands f (options_at w) size) S.there (F.openers.openers_stand o) in
      let summed = sum_counted x.held.chains well.0.counts.in_order in
      let none = bare_sum (sum (values_of x.held.chains)) S.bare.no_chains in
      ap held_count (λ i. record own { all = ap all_of S.none i; cursor = S.bare.no_cursor i }) ∙ omega (arith, summed, none)

  pub granted : refusal f (OnGroup Start) own ≡ None
  granted = start_granted f own refl S.writes counts_none

  module _ (img : List ℕ) (past : Past) where
    abbrev p : State
    p = state_in w.openers img

    own_is : p.own o ≡ own
    own_is = ap (own_at (options_at w)) S.there

    idle : p.task o ≡ None
    idle = ap task_at S.there ∙ ap law_task S.bare.idle

    spot_is : p.spot o ≡ nowhere
    spot_is = ap spot_at S.there ∙ ap (λ z. spot_by z.cursor) walk

    holds_none : (b : ℕ) → p.table o b ≡ 0
    holds_none b = held_before f (options_at w) w.openers.openers w.openers.table any size o x F.openers S.there S.bare b ∙ ap (λ all. all_held (all_of all) b) S.none

    -- the side that it is then
    abbrev side : Side
    side = record { here = o; table = λ b. 0; task = Some new_start; own = own; view = p.view o; mark = p.mark o; shuts = false; heads = λ b. false }

    same_state : (starts later : ℕ → Bool) → starts o ≡ true → later o ≡ false → ((q : ℕ) → q ≢ o → later q ≡ starts q) → with_starts starts (alone p past) ≡ with_starts later (beside p past side)
    same_state starts later has gone others = λ i. record (alone p past) {
      task = λ q. at q i;
      table = sym (put_back o (λ b. 0) p.table (λ j b. holds_none b j)) i;
      own = sym (put_back o own p.own own_is) i;
      spot = sym (put_back o nowhere p.spot spot_is) i;
      view = sym (put_back o (p.view o) p.view refl) i;
      mark = sym (put_back o (p.mark o) p.mark refl) i;
    }
      where
        at : (q : ℕ) → cond (starts q) (Some new_start) (p.task q) ≡ cond (later q) (Some new_start) (but_at o (Some new_start) p.task q)
        at q = elim (cases_eq q o) [
          | inl is ↦ cond-true (starts q) (Some new_start) (p.task q) (ap starts is ∙ has)
              ∙ sym (cond-false (later q) (Some new_start) (but_at o (Some new_start) p.task q) (ap later is ∙ gone) ∙ put_here p.task o (Some new_start) q is)
          | inr other ↦ ap (λ z. cond z (Some new_start) (p.task q)) (sym (others q other)) ∙ ap (cond (later q) (Some new_start)) (sym (put_else p.task o (Some new_start) q other))
        ]

    -- its Start alone
    abbrev one : ℕ → Bool
    one = but_at o true (λ q. false)

    one_may : MayStart one (alone p past)
    one_may = record {
      live = λ q e. elim (cases_eq q o) [
        | inl is ↦ ap (λ z. (p.own z).live) is ∙ (ap (λ (z : Own). z.live) own_is ∙ S.bare.live)
        | inr other ↦ absurd (never_true (sym (put_else (λ q. false) o true q other) ∙ e))
      ];
      idle = λ q e. elim (cases_eq q o) [
        | inl is ↦ ap p.task is ∙ idle
        | inr other ↦ absurd (never_true (sym (put_else (λ q. false) o true q other) ∙ e))
      ];
    }

    sound_aside : IsSound f (alone p past) → IsSound f (beside p past side)
    sound_aside sound = subst (IsSound f) (same_state one (λ q. false) (put_here (λ q. false) o true o refl) refl (λ q other. sym (put_else (λ q. false) o true q other))) (starts_sound f (alone p past) one one_may sound)

    view_keeps : (p.view o).must ≡ false
    view_keeps =
        let others = set (spots_of w.openers.openers) o 0 in
        ap (λ z. (view_at f (options_at w) img others z).must) S.there ∙ ap (λ u. (view_under f (options_at w) img others x (law_task u)).must) S.bare.idle

    abbrev known : Known
    known = record { file = img; image = img }

    bare_txn : (t : _) → ◌≡◌ {A = Option _} (own.txn) (Some t) → ⊥
    bare_txn t e = cc

    is_side : (who : ℕ) → who ≡ o + 1 → IsSound f (beside p past side) → IsSide f (options_at w) who [] (At.Starting Starts.Begun) known past side
    is_side who named sound = record {
      here = named;
      alone = λ q b ne. refl;
      table = λ b. refl;
      holds = λ b. (let row = (start_holds f own nowhere (p.view o) 0 b granted refl).0 in let none = keeps_nothing f own refl uncounted (ap all_of S.none) b in omega (arith, row, none));
      task = refl;
      keeps = view_keeps;
      live = S.bare.live;
      options = refl;
      own = record { bare = bare; granted = granted };
      numbers = record { image = λ t has. absurd (bare_txn t has); still = λ t has. absurd (bare_txn t has) };
      mark = tt;
    }

    -- so it is aside of a world in which its Start is gone
    module _ (who : ℕ) (named : who ≡ o + 1) where
      abbrev dropped : Whole
      dropped = record w { starts = slice_set w.starts o false }

      abbrev holder : HolderState
      holder = record { owner = who; locks = []; stage = At.Starting Starts.Begun }

      is_aside : (h : History) → IsSound f (beside p past side) → IsSeen w h img → IsAside (with_aside dropped holder) holder h img past side
      is_aside h sound N = record {
        known = known;
        image = refl;
        side = is_side who named sound;
        file = record { at = sym N.image; forms = tt; reads = λ ne. sym N.image };
        records = λ q M. ap (λ (z : Opener). z.held.all) (some_opener q S.opener (sym M.there ∙ (ap (slice_get w.openers.openers) (let counted = M.counted in omega (arith, counted, named)) ∙ S.there))) ∙ S.none;
        shuts = refl;
        accepted = λ e. absurd (never_true e);
        others = λ e. record { image = N.image; bytes = N.bytes };
        number = λ e. absurd (never_true e);
        heads = λ e. absurd (never_true e);
      }

-- a world without the Start stands
module _ (w : Whole) (o : ℕ) (img : List ℕ) (size : ℕ) (F : WorldFits w img size) where
  abbrev dropped_now : Whole
  dropped_now = record w { starts = slice_set w.starts o false }

  start_still : (v : Whole) → v.openers ≡ w.openers → v.starts ≡ slice_set w.starts o false → (q : ℕ) → is_starting v.starts q ≡ true → StartFits v q
  start_still v same starts q e =
      let e2 = ap (λ z. is_starting z q) (sym starts) ∙ e in
      let other : q ≢ o = λ is. never_true (sym (gone_there w.starts o) ∙ ap (is_starting (slice_set w.starts o false)) (sym is) ∙ e2) in
      let S = F.starts q (sym (gone_else w.starts o q other) ∙ e2) in
      record { opener = S.opener; there = ap (λ (z : World). slice_get z.openers q) same ∙ S.there; bare = S.bare; none = S.none; writes = ap (λ (z : World). z.options.read_only) same ∙ S.writes }

  gone_from : (q : ℕ) → is_starting w.starts q ≡ false → is_starting (slice_set w.starts o false) q ≡ false
  gone_from q none = elim (cases_eq q o) [ inl is ↦ ap (is_starting (slice_set w.starts o false)) is ∙ gone_there w.starts o | inr other ↦ gone_else w.starts o q other ∙ none ]

  aside_still : (a : Option HolderState) → AsideFits w a size → AsideFits dropped_now a size
  aside_still None H = tt
  aside_still (Some h) H = record { opener = H.opener; number = record { place = H.number.place; counted = H.number.counted; there = H.number.there }; bare = H.bare; writes = H.writes; reads = H.reads; fit = H.fit; begun = gone_from (law_opener h.owner) H.begun }

  pub dropped_fits : WorldFits dropped_now img size
  dropped_fits = record { openers = F.openers; each = length-set w.starts o false ∙ F.each; starts = start_still dropped_now refl refl; aside = aside_still w.aside F.aside; stale = λ e. record { nobody = (F.stale e).nobody; lengths = (F.stale e).lengths } }

  -- also where its opener goes aside
  pub aside_fits : w.stale ≡ false → is_starting w.starts o ≡ true → (who : ℕ) → who ≡ o + 1 → WorldFits (with_aside dropped_now (record { owner = who; locks = []; stage = At.Starting Starts.Begun })) img size
  aside_fits fresh begun who named =
      let S = F.starts o begun in
      let h : HolderState = record { owner = who; locks = []; stage = At.Starting Starts.Begun } in
      record {
        openers = F.openers;
        each = length-set w.starts o false ∙ F.each;
        starts = start_still (with_aside dropped_now h) refl refl;
        aside = record {
          opener = S.opener;
          number = record { place = o; counted = named; there = S.there };
          bare = S.bare;
          writes = λ e. absurd (cc e);
          reads = λ e. absurd (cc e);
          fit = F.openers.short;
          begun = ap (is_starting (slice_set w.starts o false)) (omega (arith, named)) ∙ gone_there w.starts o;
        };
        stale = λ e. absurd (never_true (sym fresh ∙ e));
      }

  -- a state in which nobody is aside is one in which it is
  module _ (begun : is_starting w.starts o ≡ true) (fresh : w.stale ≡ false) (nobody : w.aside ≡ None) (who : ℕ) (named : who ≡ o + 1) (h : History) (state : State) where
    abbrev starter : HolderState
    starter = record { owner = who; locks = []; stage = At.Starting Starts.Begun }

    went : (a : List ℕ) (past : Past) (side : Option Side) → SideIs w None h a past side → IsSound (form_at w) (whole (state_in w.openers a) past side) → state ≡ state_with w a past side → IsStateOf (with_aside dropped_now starter) h state
    went a past (Some s) N sound is = absurd N
    went a past None N sound is =
        let now = sound_aside w o img size F begun a past sound in
        of_whole (record {
          fresh = fresh;
          image = a;
          past = past;
          side = Some (side w o img size F begun a past);
          is_side = is_aside w o img size F begun a past who named h now N;
          sound = now;
          is = is ∙ same_state w o img size F begun a past (is_starting w.starts) (is_starting (slice_set w.starts o false)) begun (gone_there w.starts o) (gone_else w.starts o);
        })

    pub goes_aside : IsStateOf w h state → IsStateOf (with_aside dropped_now starter) h state
    goes_aside (of_whole W) = went W.image W.past W.side (subst (λ a. SideIs w a h W.image W.past W.side) nobody W.is_side) W.sound W.is
    goes_aside (of_stale W) = absurd (never_true (sym fresh ∙ W.stale))

-- Beside one aside: its first turn is blocked where that one holds the lock of transactions, and ends for want of
-- memory else.
module _ (w : Whole) (o : ℕ) (any : List ℕ) (size : ℕ) (F : WorldFits w any size) (begun : is_starting w.starts o ≡ true) (fresh : w.stale ≡ false) (hd : HolderState) (there : w.aside ≡ Some hd) (h : History) where
  abbrev g : Form
  g = form_at w

  abbrev starts : ℕ → Bool
  starts = is_starting w.starts

  fits_aside : HolderFits w hd size
  fits_aside = subst (λ a. AsideFits w a size) there F.aside

  module _ (img : List ℕ) (past : Past) (s : Side) (A : IsAside w hd h img past s) (sound : IsSound g (beside (state_in w.openers img) past s)) where
    abbrev r : State
    r = beside (state_in w.openers img) past s

    abbrev q : State
    q = with_starts starts r

    here_is : law_opener hd.owner ≡ s.here
    here_is = let counted = A.side.here in omega (arith, counted)

    not_starting : starts s.here ≡ false
    not_starting = ap starts (sym here_is) ∙ fits_aside.begun

    other : o ≢ s.here
    other e = never_true (sym not_starting ∙ (ap starts (sym e) ∙ begun))

    sound_q : IsSound g q
    sound_q = starts_sound g r starts (may_start_whole w any size F img (Some hd) fits_aside h past (Some s) A) sound

    own_q : q.own o ≡ own w o any size F begun
    own_q = put_else (state_in w.openers img).own s.here s.own o other ∙ own_is w o any size F begun img past

    task_q : q.task o ≡ Some new_start
    task_q = task_is starts r o begun

    granted_q : refusal g (OnGroup Start) (q.own o) ≡ None
    granted_q = subst (λ z. refusal g (OnGroup Start) z ≡ None) (sym own_q) (granted w o any size F begun)

    out_q : (q.own o).txn ≡ None
    out_q = ap (λ (z : Own). z.txn) own_q

    wants : (b : ℕ) → want g q o new_start b ≡ locked_next start_locks 0 b
    wants b = (start_holds g (q.own o) (decided (q.spot o) (q.view o) 0) (q.view o) 0 b granted_q out_q).1

    low : (p b : ℕ) → p ≢ s.here → b < 164 → q.table p b ≡ 0
    low p b ne under = ap (λ z. z b) (put_else (state_in w.openers img).table s.here s.table p ne) ∙ low_is_free g (options_at w) w.openers.openers w.openers.table any size F.openers (p + 1) b under

    at_side : q.table s.here 8 ≡ s.table 8
    at_side = ap (λ z. z 8) (put_here (state_in w.openers img).table s.here s.table s.here refl)

    least : (p b : ℕ) → p ≢ o → 2 < want g q o new_start b + q.table p b → (8 < b) ⊎ ((8 ≡ b) × (s.here ≤ p))
    least p b ne over = elim (cases_eq b 8) [
      | inl is ↦ elim (cases_eq p s.here) [
        | inl here ↦ inr (sym is, omega (arith, here))
        | inr off ↦ absurd (let none = low p b off (omega (arith, is)) in let two : want g q o new_start b ≡ 2 = wants b ∙ ap (locked_next start_locks 0) is in omega (arith, over, none, two))
      ]
      | inr off ↦ absurd (let none = wants b ∙ first_else b off in let most = sound_q.apart p o b ne in omega (arith, over, none, most))
    ]

    unchanged : is_changed g (OnGroup Start) (q.own o) 0 ≡ false
    unchanged = unchanged_start g (OnGroup Start) (q.own o)

    blocked : 0 < s.table 8 → Turned g q o new_start (Blocked s.here 8) q
    blocked some = waiting_is_turned g q o new_start s.here 8 sound_q refl task_q refl unchanged (record {
      other = λ e. other (sym e);
      conflict = let two : want g q o new_start 8 ≡ 2 = wants 8 in let held = at_side in omega (arith, two, held, some);
      least = least;
    })

    idle_r : r.task o ≡ None
    idle_r = put_else (state_in w.openers img).task s.here s.task o other ∙ idle w o any size F begun img past

    spot_q : q.spot o ≡ nowhere
    spot_q = put_else (state_in w.openers img).spot s.here nowhere o other ∙ spot_is w o any size F begun img past

    starved : Turned g q o new_start (Ends Memory) (without_task q o)
    starved = record {
      mine = task_q;
      joined = refl;
      others = λ p ne. put_else q.task o None p ne;
      others_own = λ p ne. refl;
      others_spot = λ p ne. refl;
      others_hold = λ p b ne. refl;
      others_number = λ p ne. refl;
      others_walk = λ p ne. still_shift g _ _;
      row = inr (refl, starving, zero-le);
      leaves = put_here q.task o None o refl;
      leaves_spot = (stands_nowhere (ap (λ z. z.stands) spot_q), ap (λ z. z.gone) spot_q);
      effect = effect_starves refl starving unchanged refl refl;
      holds = λ b. sound_q.agrees o b ∙ ap (λ u. holding g (q.own o) (q.spot o) u b) task_q ∙ ap (λ n. max n (kept g (q.own o) (q.spot o) b)) (none_held g (OnGroup Start) (q.own o) (q.spot o) b)
          ∙ sym (ap (λ u. holding g (q.own o) (q.spot o) u b) (put_here q.task o None o refl));
      walks = walk_ends Memory refl (ap (λ z. moves_by z (OnGroup Start) (q.own o)) granted_q) (λ cursor. still_shift g _ _);
      ready = refl;
      stale = refl;
      settled = refl;
      number = refl;
      image_number = refl;
    }
      where
        starving : starves g (OnGroup Start) (q.own o) ≡ true
        starving = ap (λ z. starves_by z (OnGroup Start) (q.own o)) granted_q ∙ ap is_none out_q

    dropped_state : without_task q o ≡ with_starts (is_starting (slice_set w.starts o false)) r
    dropped_state = start_ends r starts o idle_r ∙ (λ i. with_starts (λ p. gone_at p i) r)
      where
        gone_at : (p : ℕ) → but_at o false starts p ≡ is_starting (slice_set w.starts o false) p
        gone_at p = elim (cases_eq p o) [
          | inl is ↦ put_here starts o false p is ∙ sym (ap (is_starting (slice_set w.starts o false)) is ∙ gone_there w.starts o)
          | inr off ↦ put_else starts o false p off ∙ sym (gone_else w.starts o p off)
        ]

    aside_dropped : IsAside (record w { starts = slice_set w.starts o false }) hd h img past s
    aside_dropped = record {
      known = A.known;
      image = A.image;
      side = A.side;
      file = A.file;
      records = A.records;
      shuts = A.shuts;
      accepted = A.accepted;
      others = λ e. (let N = A.others e in record { image = N.image; bytes = N.bytes });
      number = A.number;
      heads = A.heads;
    }

  abbrev Leads : Whole → State → Turn → Type 0
  Leads v state turn = (after : State) × (task : Task) × IsStateOf v h after × Turned g state o task turn after

  blocked_at : ((k : Known) (past : Past) (s : Side) → IsSide g (options_at w) hd.owner hd.locks hd.stage k past s → 0 < s.table 8) → (state : State) → IsStateOf w h state
      → (img : List ℕ) (past : Past) (side : Option Side) → SideIs w (Some hd) h img past side → IsSound g (whole (state_in w.openers img) past side) → state ≡ state_with w img past side → Leads w state (Blocked (law_opener hd.owner) 8)
  blocked_at holds state W img past None A sound is = absurd A
  blocked_at holds state W img past (Some s) A sound is = (
    state,
    new_start,
    W,
    subst (λ z. Turned g z o new_start (Blocked (law_opener hd.owner) 8) z) (sym is) (subst (λ p. Turned g (q img past s A sound) o new_start (Blocked p 8) (q img past s A sound)) (sym (here_is img past s A sound)) (blocked img past s A sound (holds A.known past s A.side))),
  )

  pub start_blocked : ((k : Known) (past : Past) (s : Side) → IsSide g (options_at w) hd.owner hd.locks hd.stage k past s → 0 < s.table 8) → (state : State) → IsStateOf w h state → Leads w state (Blocked (law_opener hd.owner) 8)
  start_blocked holds state (of_whole W) = blocked_at holds state (of_whole W) W.image W.past W.side (subst (λ a. SideIs w a h W.image W.past W.side) there W.is_side) W.sound W.is
  start_blocked holds state (of_stale W) = absurd (never_true (sym fresh ∙ W.stale))

  abbrev without_start : Whole
  without_start = record w { starts = slice_set w.starts o false }

  starved_at : (state : State) (img : List ℕ) (past : Past) (side : Option Side) → SideIs w (Some hd) h img past side → IsSound g (whole (state_in w.openers img) past side) → state ≡ state_with w img past side → Leads without_start state (Ends Memory)
  starved_at state img past None A sound is = absurd A
  starved_at state img past (Some s) A sound is = (
    state_with without_start img past (Some s),
    new_start,
    of_whole (record { fresh = fresh; image = img; past = past; side = Some s; is_side = subst (λ a. SideIs without_start a h img past (Some s)) (sym there) (aside_dropped img past s A sound); sound = sound; is = refl }),
    subst (λ z. Turned g z o new_start (Ends Memory) (state_with without_start img past (Some s))) (sym is) (subst (Turned g (q img past s A sound) o new_start (Ends Memory)) (dropped_state img past s A sound) (starved img past s A sound)),
  )

  pub start_starved : (state : State) → IsStateOf w h state → Leads without_start state (Ends Memory)
  start_starved state (of_whole W) = starved_at state W.image W.past W.side (subst (λ a. SideIs w a h W.image W.past W.side) there W.is_side) W.sound W.is
  start_starved state (of_stale W) = absurd (never_true (sym fresh ∙ W.stale))
