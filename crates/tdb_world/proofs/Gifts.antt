-- A command that is given to an opener of the world.
use Rattle.std.proofs.Common.{◌≡◌, ◌≢◌, ◌≤◌, ◌<◌, ℕ, zero, suc, ◌+◌, List, [], ◌∷◌, slice_get, length, set, Option, Bool, true, false, Some, None, is_some, not, nat_lt, ltb-false, is_none, ◌&&◌, sum, if◌then◌else◌, refl, sym, ◌∙◌, ap, subst, arith, inl, inr}
use Rattle.std.specs.Map.{values_of}
use Rattle.std.specs.Prelude.{IfSome}
use Rattle.std.proofs.Math.ListN.{length-set}
use Rattle.std.proofs.lemmas.Bool.{cases_eq}
use Rattle.std.proofs.lemmas.Option.{slice_get_within}
use Rattle.std.proofs.lemmas.Bool.Decides.{nat_tests}
use Rattle.tdb_disk.specs.History.{History}
use Rattle.tdb_space.specs.Form.{Form, data_start, form_in}
use Rattle.tdb_locks.specs.declared.kind.Kind.{Kind}
use Rattle.tdb_law.specs.Commands.{Command}
use Rattle.tdb_law.specs.Commands.GroupCommand.{Start}
use Rattle.tdb_law.specs.Commands.Command.{OnGroup}
use Rattle.tdb_law.specs.Events.{Given}
use Rattle.tdb_law.specs.Held.{holding, task_held}
use Rattle.tdb_law.specs.Openers.{Own, Spot, Task, all_count, outside}
use Rattle.tdb_law.specs.Refusals.{first_that_applies, held_count, is_prepared, refusal}
use Rattle.tdb_law.specs.Refusals.Refusal.{OnlyReads, IsPrepared, NeverNests, LocksStand}
use Rattle.tdb_law.specs.Rows.{is_changed}
use Rattle.tdb_law.specs.World.{State, IsPending, IsSound}
use Rattle.tdb_law.proofs.Covered.{none_held}
use Rattle.tdb_law.proofs.Emptied.{unchanged_start}
use Rattle.tdb_law.proofs.Pending.{same_task}
use Rattle.tdb_law.proofs.Tests.{never_true}
use Rattle.tdb_law.proofs.Walking.{put_here, put_else}
use Rattle.tdb_commands.specs.InLaw.{law_command, law_opener}
use Rattle.tdb_commands.specs.declared.command.Command.{Command as Asked}
use Rattle.tdb_law.specs.OneAside.Sides.{Past, Side, alone, but_at, whole}
use Rattle.tdb_law.specs.OneAside.Starts.{MayStart, with_starts}
use Rattle.tdb_law.proofs.OneAside.Happening.{given_beside}
use Rattle.tdb_law.proofs.OneAside.Starting.{start_given, starts_given}
use Rattle.tdb_words.specs.declared.header.Header.{Header}
use Rattle.tdb_commands.specs.declared.options.Options.{Options}
use Rattle.tdb_txn_owner.specs.Ends.{task_of}
use Rattle.tdb_txn_owner.specs.Holders.{is_idle, with_command, HolderState}
use Rattle.tdb_txn_owner.specs.Stages.{stage_records, stage_task, IsFit, IsSide, KnowsFile, Known}
use Rattle.tdb_txn_owner.specs.declared.stage.Stage.{Stage}
use Rattle.tdb_txn_owner.specs.declared.stage.Stage.TheVariants as At
use Rattle.tdb_openers.specs.Aside.{IsBare, LocksNoRecord}
use Rattle.tdb_openers.specs.Given.{IsWellHeld}
use Rattle.tdb_openers.specs.Laws.{IsPut}
use Rattle.tdb_openers.specs.Openers.{all_of, law_task, own_at, own_of, task_at, OpenerStands}
use Rattle.tdb_openers.specs.Worlds.{World, state_in, BytesStand, IsAssigned, IsFree, IsNumber, Stands}
use Rattle.tdb_openers.specs.declared.opener.Opener.{Opener}
use Rattle.tdb_commands.proofs.Counts.{sum_counted}
use Rattle.tdb_openers.proofs.Joining.Putting.{by_number}
use Rattle.tdb_world.specs.States.{IsAside, IsSeen, IsStaleState, IsStateOf, IsWholeState, SideIs, once, writes_all}
use Rattle.tdb_world.specs.States.IsStateOf.{of_whole, of_stale}
use Rattle.tdb_world.specs.Steps.{GiftLeads, HasCommand, IsAmong}
use Rattle.tdb_world.specs.Steps.HasCommand.{by_aside, by_start, by_job}
use Rattle.tdb_world.specs.Steps.IsAmong.{among_all, among_others}
use Rattle.tdb_world.specs.Whole.{Whole, AsideFits, HolderFits, StartFits, WorldFits, form_at, is_starting}
use Rattle.tdb_world.proofs.Standings.{aside_here, may_start, may_start_whole, own_else, same_holder, side_else, stands_by, task_else, there_named}

-- A world stays sound when a command is given, of which the file doesn't have the change.
module _ (f : Form) (old new : State) (who : ℕ) (c : Command) (S : IsSound f old) (G : Given old who c new) where
  own_same : (o : ℕ) → new.own o ≡ old.own o
  own_same o = ap (λ w. w.own o) G.rest

  spot_same : (o : ℕ) → new.spot o ≡ old.spot o
  spot_same o = ap (λ w. w.spot o) G.rest

  table_same : (o b : ℕ) → new.table o b ≡ old.table o b
  table_same o b = ap (λ w. w.table o b) G.rest

  given_start : (u : Task) → new.task who ≡ Some u → u ≡ record { command = c; steps = 0 }
  given_start u e = same_task u (record { command = c; steps = 0 }) (sym e ∙ G.task)

  not_new : (o : ℕ) (d : Command) (y : Own) → IsPending f new o d y → o ≢ who
  not_new o d y p is =
      let start = given_start p.task (subst (λ q. new.task q ≡ Some p.task) is p.has_task) in
      never_true (sym (ap (is_changed f d y) (ap (λ v. v.steps) start) ∙ unchanged_start f d y) ∙ p.made)

  forth : (o : ℕ) (d : Command) (y : Own) → IsPending f new o d y → IsPending f old o d y
  forth o d y p = record { task = p.task; has_task = sym (G.others o (not_new o d y p)) ∙ p.has_task; command = p.command; owned = sym (own_same o) ∙ p.owned; made = p.made }

  held_same : (o b : ℕ) → holding f (new.own o) (new.spot o) (new.task o) b ≡ holding f (old.own o) (old.spot o) (old.task o) b
  held_same o b =
      ap (λ y. holding f y (new.spot o) (new.task o) b) (own_same o) ∙ (ap (λ v. holding f (old.own o) v (new.task o) b) (spot_same o) ∙ at_task)
    where
      at_task : holding f (old.own o) (old.spot o) (new.task o) b ≡ holding f (old.own o) (old.spot o) (old.task o) b
      at_task =
          elim (cases_eq o who) [
            | inl e ↦ (let before : holding f (old.own o) (old.spot o) (old.task o) b ≡ holding f (old.own o) (old.spot o) None b = ap (λ t. holding f (old.own o) (old.spot o) t b) (ap old.task e ∙ G.idle) in
                let now : holding f (old.own o) (old.spot o) (new.task o) b ≡ holding f (old.own o) (old.spot o) (Some (record { command = c; steps = 0 })) b =
                ap (λ t. holding f (old.own o) (old.spot o) t b) (ap new.task e ∙ G.task) in
                let none = none_held f c (old.own o) (old.spot o) b in
                omega (arith, before, now, none))
            | inr ne ↦ ap (λ t. holding f (old.own o) (old.spot o) t b) (G.others o ne)
          ]

  pub given_sound : IsSound f new
  given_sound = record {
    chains = S.chains;
    agrees = λ o b. table_same o b ∙ (S.agrees o b ∙ sym (held_same o b));
    apart = λ o p b ne. omega (arith, table_same o b, table_same p b, S.apart o p b ne);
    stands = λ o place on. subst (λ y. (y.txn ≡ None) × (data_start f ≤ place) × (is_some y.cursor ≡ true)) (sym (own_same o)) (S.stands o place (ap (λ v. v.stands) (sym (spot_same o)) ∙ on));
    busy_there = λ o t has_task.
        (elim (cases_eq o who) [
          | inl e ↦ ap (λ y. y.live) (own_same o ∙ ap old.own e) ∙ G.live
          | inr ne ↦ ap (λ y. y.live) (own_same o) ∙ S.busy_there o t (sym (G.others o ne) ∙ has_task)
        ]);
    live_joined = λ o live. subst (λ n. o < n) (sym (ap (λ w. w.joined) G.rest)) (S.live_joined o (ap (λ y. y.live) (sym (own_same o)) ∙ live));
    stale = λ stale o d y k p touching. S.stale (sym (ap (λ w. w.stale) G.rest) ∙ stale) o d y k (forth o d y p) touching;
  }

-- The one aside isn't an opener among the others.
pub apart_holder : (w : Whole) (who : ℕ) → 1 ≤ who → IsAmong w who → (h : HolderState) → w.aside ≡ Some h → (place : ℕ) → h.owner ≡ place + 1 → place ≢ law_opener who
apart_holder w who named (among_all none) h e place counted same = let both : None ≡ Some h = sym none ∙ e in cc both
apart_holder w who named (among_others g some other) h e place counted same =
    let owner : g.owner ≡ h.owner = ap (λ (z : HolderState). z.owner) (same_holder w h g e some) in
    other (omega (arith, counted, owner, same, named))

-- among these openers the one aside has its number as before
abbrev StillNumbered : Whole → World → Type 0
StillNumbered w ws = (holder : HolderState) (x : Opener) → w.aside ≡ Some holder → IsNumber ws holder.owner x → IsNumber w.openers holder.owner x

-- The world with other openers and other Starts, where the bytes stand as before.
module _ (w : Whole) (ys : List Opener) (ss : List Bool) (h : History) where
  abbrev pub moved : Whole
  moved = record w { openers = record w.openers { openers = ys }; starts = ss }

  seen_moves : ((img : List ℕ) → BytesStand w.openers img → BytesStand moved.openers img) → (img : List ℕ) → IsSeen w h img → IsSeen moved h img
  seen_moves bytes img S = record { image = S.image; bytes = bytes img S.bytes }

  side_moves : ((img : List ℕ) → BytesStand w.openers img → BytesStand moved.openers img) → StillNumbered w moved.openers → (holder : Option HolderState) → w.aside ≡ holder → (img : List ℕ) (past : Past) (side : Option Side)
      → SideIs w holder h img past side → SideIs moved holder h img past side
  side_moves bytes numbered None e img past None is = seen_moves bytes img is
  side_moves bytes numbered None e img past (Some s) is = absurd is
  side_moves bytes numbered (Some holder) e img past None is = absurd is
  side_moves bytes numbered (Some holder) e img past (Some s) A = record {
    known = A.known;
    image = A.image;
    side = A.side;
    file = A.file;
    records = λ x N. A.records x (numbered holder x e N);
    shuts = A.shuts;
    accepted = A.accepted;
    others = λ e. seen_moves bytes img (A.others e);
    number = A.number;
    heads = A.heads;
  }

among_moved : (w : Whole) (ys : List Opener) (ss : List Bool) (who : ℕ) → IsAmong w who → IsAmong (record w { openers = record w.openers { openers = ys }; starts = ss }) who
among_moved w ys ss who (among_all none) = among_all none
among_moved w ys ss who (among_others h some other) = among_others h some other

-- A command that isn't a beginning Start: among the others one opener is put.
module _ (w : Whole) (who : ℕ) (named : 1 ≤ who) (among : IsAmong w who) (ne : is_starting w.starts (law_opener who) ≡ false) (ys : List Opener) (y : Opener) (P : IsPut w.openers.openers (law_opener who) y ys) where
  abbrev v : Whole
  v = record w { openers = record w.openers { openers = ys } }

  start_else : (o : ℕ) → is_starting w.starts o ≡ true → StartFits w o → StartFits v o
  start_else o e F = record {
    opener = F.opener;
    there = P.others o (λ is. never_true (sym ne ∙ ap (is_starting w.starts) (sym is) ∙ e)) ∙ F.there;
    bare = F.bare;
    none = F.none;
    writes = F.writes;
  }

  holder_else : (holder : Option HolderState) → w.aside ≡ holder → (size : ℕ) → AsideFits w holder size → AsideFits v holder size
  holder_else None e size F = tt
  holder_else (Some h) e size F = record {
    opener = F.opener;
    number = record { place = F.number.place; counted = F.number.counted; there = P.others F.number.place (apart_holder w who named among h e F.number.place F.number.counted) ∙ F.number.there };
    bare = F.bare;
    writes = F.writes;
    reads = F.reads;
    fit = F.fit;
    begun = F.begun;
  }

  still_numbered : StillNumbered w v.openers
  still_numbered h x e N = record { place = N.place; counted = N.counted; there = sym (P.others N.place (apart_holder w who named among h e N.place N.counted)) ∙ N.there }

  pub put_fits : ((img : List ℕ) (size : ℕ) → Stands w.openers img size → Stands v.openers img size) → (img : List ℕ) (size : ℕ) → WorldFits w img size → WorldFits v img size
  put_fits keeps img size F = record {
    openers = keeps img size F.openers;
    each = F.each ∙ sym P.same_length;
    starts = λ o e. start_else o e (F.starts o e);
    aside = holder_else w.aside refl size F.aside;
    stale = λ e. record { nobody = (F.stale e).nobody; lengths = λ i n short. keeps i n ((F.stale e).lengths i n short) };
  }

  module _ (c : Command) (any : List ℕ) (size : ℕ) (F : WorldFits w any size) (h : History) (bytes : (img : List ℕ) → BytesStand w.openers img → BytesStand v.openers img)
      (G : (img : List ℕ) → Given (state_in w.openers img) (law_opener who) c (state_in v.openers img)) (state : State) where
    module _ (S : IsWholeState w h state) where
      abbrev p : State
      p = whole (state_in w.openers S.image) S.past S.side

      abbrev q : State
      q = whole (state_in v.openers S.image) S.past S.side

      whole_given : Given p (law_opener who) c q
      whole_given =
          (given_beside (state_in w.openers S.image) (state_in v.openers S.image) S.past S.side (law_opener who) c (stands_by w w.aside any size F.openers F.aside h S.image S.past S.side S.is_side)
          (side_else w who named among w.aside refl h S.image S.past S.side S.is_side) (G S.image)).1

      whole_after : IsWholeState v h (with_starts (is_starting w.starts) q)
      whole_after = record {
        fresh = S.fresh;
        image = S.image;
        past = S.past;
        side = S.side;
        is_side = side_moves w ys w.starts h bytes still_numbered w.aside refl S.image S.past S.side S.is_side;
        sound = given_sound (form_at w) p q (law_opener who) c S.sound whole_given;
        is = refl;
      }

      given_whole : Given state (law_opener who) c (with_starts (is_starting w.starts) q)
      given_whole =
          subst (λ z. Given z (law_opener who) c (with_starts (is_starting w.starts) q)) (sym S.is)
          (starts_given p q (is_starting w.starts) (law_opener who) c (may_start_whole w any size F S.image w.aside F.aside h S.past S.side S.is_side) ne whole_given).1

    module _ (S : IsStaleState w h state) where
      abbrev stale_at : State → State
      stale_at z = record (alone z S.past) { stale = true }

      stale_given : Given (stale_at (state_in w.openers S.image)) (law_opener who) c (stale_at (state_in v.openers S.image))
      stale_given = let H = G S.image in record { live = H.live; idle = H.idle; task = H.task; others = H.others; rest = ap stale_at H.rest }

      apart : (o : ℕ) → LocksNoRecord (form_at w) (state_in v.openers S.image) o
      apart o =
          let H = G S.image in
          let new = state_in v.openers S.image in
          let old = state_in w.openers S.image in
          let own : new.own o ≡ old.own o = ap (λ (z : State). z.own o) H.rest in
          let spot : new.spot o ≡ old.spot o = ap (λ (z : State). z.spot o) H.rest in
          record {
            command = λ b from upto. elim (cases_eq o (law_opener who)) [
              | inl e ↦ ap (λ t. task_held (form_at w) (new.own o) (new.spot o) t b) (ap new.task e ∙ H.task) ∙ none_held (form_at w) c (new.own o) (new.spot o) b
              | inr other ↦
                  ap (λ x. task_held (form_at w) x (new.spot o) (new.task o) b) own
                  ∙ (ap (λ z. task_held (form_at w) (old.own o) z (new.task o) b) spot ∙ (ap (λ t. task_held (form_at w) (old.own o) (old.spot o) t b) (H.others o other) ∙ (S.apart o).command b from upto))
            ];
            cursor = ap (λ (z : Spot). z.stands) spot ∙ (S.apart o).cursor;
          }

      stale_after : IsStaleState v h (with_starts (is_starting w.starts) (stale_at (state_in v.openers S.image)))
      stale_after = record {
        stale = S.stale;
        nobody = S.nobody;
        image = S.image;
        past = S.past;
        undone = S.undone;
        form = S.form;
        reopens = S.reopens;
        accepted = S.accepted;
        apart = apart;
        sound = given_sound (form_at w) (stale_at (state_in w.openers S.image)) (stale_at (state_in v.openers S.image)) (law_opener who) c S.sound stale_given;
        is = refl;
      }

      given_stale : Given state (law_opener who) c (with_starts (is_starting w.starts) (stale_at (state_in v.openers S.image)))
      given_stale =
          subst (λ z. Given z (law_opener who) c (with_starts (is_starting w.starts) (stale_at (state_in v.openers S.image)))) (sym S.is)
          (starts_given (stale_at (state_in w.openers S.image)) (stale_at (state_in v.openers S.image)) (is_starting w.starts) (law_opener who) c
          (let M = may_start w any size F S.image in record { live = M.live; idle = M.idle }) ne stale_given).1

    pub put_given : IsStateOf w h state → (after : State) × IsStateOf v h after × Given state (law_opener who) c after
    put_given (of_whole S) = (with_starts (is_starting w.starts) (q S), of_whole (whole_after S), given_whole S)
    put_given (of_stale S) = (with_starts (is_starting w.starts) (stale_at S (state_in v.openers S.image)), of_stale (stale_after S), given_stale S)

-- A Start that isn't refused: its opener has nothing, and may change the file.
last_and_first : (a b c d : Bool) → first_that_applies ((a, OnlyReads) ∷ (b, IsPrepared) ∷ (c, NeverNests) ∷ (d, LocksStand) ∷ []) ≡ None → (a ≡ false) × (d ≡ false)
last_and_first false false false false e = (refl, refl)
last_and_first false false false true e = absurd (cc e)
last_and_first false false true d e = absurd (cc e)
last_and_first false true c d e = absurd (cc e)
last_and_first true b c d e = absurd (cc e)

none_locked : (all : Option (Kind × ℕ)) → IfSome all (λ z. 0 < z.1) → all_count (all_of all) ≤ 0 → all ≡ None
none_locked None taken few = refl
none_locked (Some z) taken few = absurd (omega (arith, taken, few))

none_shown : (o : Option (List ℕ)) → (if is_some o then 1 else 0) ≤ 0 → o ≡ None
none_shown None few = refl
none_shown (Some k) few = absurd (omega (arith, few))

granted_start : (f : Form) (x : Own) → x.txn ≡ None → refusal f (OnGroup Start) x ≡ None → (x.options.read_only ≡ false) × (held_count x ≤ 0)
unfolding refusal
granted_start f x out granted =
    let both = last_and_first x.options.read_only (is_prepared x.txn) (not (outside x) && not x.options.nesting) (outside x && nat_lt 0 (held_count x)) granted in
    (both.0, ltb-false 0 (held_count x) (sym (ap (λ o. is_none o && nat_lt 0 (held_count x)) out) ∙ both.1))

record MayBegin (w : World) (x : Opener) : Type 0 where
  bare : IsBare x
  none : x.held.all ≡ None
  writes : w.options.read_only ≡ false

may_begin : (w : World) (img : List ℕ) (size o : ℕ) (x : Opener) → Stands w img size → slice_get w.openers o ≡ Some x → x.live ≡ true → x.task ≡ None → refusal (form_in w.header) (OnGroup Start) (own_of w.options x) ≡ None → MayBegin w x
may_begin w img size o x W there live idle granted =
    let G = granted_start (form_in w.header) (own_of w.options x) refl granted in
    let well : IsWellHeld x.held = (subst (OpenerStands (form_in w.header) w.options size) there (W.openers_stand o)).0 in
    let count : sum (values_of x.held.chains) + all_count (all_of x.held.all) + (if is_some x.walk.shown then 1 else 0) ≤ 0 =
    (let chains = sum_counted x.held.chains well.counts.in_order in let few = G.1 in omega (arith, chains, few)) in
    record {
      bare = record { live = live; idle = idle; no_chains = (let none : sum (values_of x.held.chains) ≤ 0 = omega (arith, count) in grind (arith, nat_tests, none)); no_cursor = none_shown x.walk.shown (omega (arith, count)) };
      none = none_locked x.held.all well.taken (omega (arith, count));
      writes = G.0;
    }

set_here : (starts : List Bool) (l : ℕ) → l < length starts → is_starting (set starts l true) l ≡ true
set_here [] l low = absurd (omega (arith, low))
set_here (b ∷ starts) zero low = refl
set_here (b ∷ starts) (suc l) low = set_here starts l (omega (arith, low))

set_other : (starts : List Bool) (l o : ℕ) → o ≢ l → is_starting (set starts l true) o ≡ is_starting starts o
set_other [] l o ne = refl
set_other (b ∷ starts) zero zero ne = absurd (ne refl)
set_other (b ∷ starts) zero (suc o) ne = refl
set_other (b ∷ starts) (suc l) zero ne = refl
set_other (b ∷ starts) (suc l) (suc o) ne = set_other starts l o (λ e. ne (ap suc e))

module _ (w : Whole) (who : ℕ) (named : 1 ≤ who) (among : IsAmong w who) (ne : is_starting w.starts (law_opener who) ≡ false) (x : Opener) (X : IsFree w.openers who x)
    (any : List ℕ) (granted : refusal (form_at w) (OnGroup Start) (own_of w.openers.options x) ≡ None) where
  abbrev l : ℕ
  l = law_opener who

  abbrev begun : Whole
  begun = record w { starts = set w.starts l true }

  there : slice_get w.openers.openers l ≡ Some x
  there = there_named w.openers who x X.number

  within : (img : List ℕ) (size : ℕ) → WorldFits w img size → l < length w.starts
  within img size F = let low = slice_get_within w.openers.openers l x there in let each = F.each in omega (arith, low, each)

  holder_begun : (holder : Option HolderState) → w.aside ≡ holder → (size : ℕ) → AsideFits w holder size → AsideFits begun holder size
  holder_begun None e size F = tt
  holder_begun (Some h) e size F = record {
    opener = F.opener;
    number = F.number;
    bare = F.bare;
    writes = F.writes;
    reads = F.reads;
    fit = F.fit;
    begun = set_other w.starts l (law_opener h.owner) (let counted = F.number.counted in apart_holder w who named among h e (law_opener h.owner) (omega (arith, counted))) ∙ F.begun;
  }

  start_begun : (img : List ℕ) (size : ℕ) → WorldFits w img size → (o : ℕ) → is_starting (set w.starts l true) o ≡ true → StartFits begun o
  start_begun img size F o e = elim (cases_eq o l) [
    | inl is ↦ (let M = may_begin w.openers img size l x F.openers there X.live X.idle granted in
        record { opener = x; there = ap (slice_get w.openers.openers) is ∙ there; bare = M.bare; none = M.none; writes = M.writes })
    | inr other ↦ (let S = F.starts o (sym (set_other w.starts l o other) ∙ e) in record { opener = S.opener; there = S.there; bare = S.bare; none = S.none; writes = S.writes })
  ]

  pub begun_fits : (img : List ℕ) (size : ℕ) → WorldFits w img size → WorldFits begun img size
  begun_fits img size F = record {
    openers = F.openers;
    each = length-set w.starts l true ∙ F.each;
    starts = start_begun img size F;
    aside = holder_begun w.aside refl size F.aside;
    stale = λ e. record { nobody = (F.stale e).nobody; lengths = (F.stale e).lengths };
  }

  pub begun_busy : (img : List ℕ) (size : ℕ) → WorldFits w img size → HasCommand begun who
  begun_busy img size F = by_start (set_here w.starts l (within img size F)) (among_moved w w.openers.openers (set w.starts l true) who among)

  module _ (size : ℕ) (F : WorldFits w any size) (h : History) (state : State) where
    same_begun : (o : ℕ) → but_at l true (is_starting w.starts) o ≡ is_starting (set w.starts l true) o
    same_begun o = elim (cases_eq o l) [
      | inl is ↦ put_here (is_starting w.starts) l true o is ∙ sym (ap (is_starting (set w.starts l true)) is ∙ set_here w.starts l (within any size F))
      | inr other ↦ put_else (is_starting w.starts) l true o other ∙ sym (set_other w.starts l o other)
    ]

    begins_at : (p : State) → MayStart (is_starting w.starts) p → (p.own l).live ≡ true → p.task l ≡ None → state ≡ with_starts (is_starting w.starts) p → Given state l (OnGroup Start) (with_starts (is_starting begun.starts) p)
    begins_at p M live idle is =
        subst (λ z. Given z l (OnGroup Start) (with_starts (is_starting begun.starts) p)) (sym is)
        (subst (λ z. Given (with_starts (is_starting w.starts) p) l (OnGroup Start) z) (λ i. with_starts (λ o. same_begun o i) p) (start_given p (is_starting w.starts) l M ne live idle).1)

    pub begun_given : IsStateOf w h state → (after : State) × IsStateOf begun h after × Given state l (OnGroup Start) after
    begun_given (of_whole S) =
        let p = whole (state_in w.openers S.image) S.past S.side in
        let else_where = side_else w who named among w.aside refl h S.image S.past S.side S.is_side in (
          with_starts (is_starting begun.starts) p,
          of_whole (record {
            fresh = S.fresh;
            image = S.image;
            past = S.past;
            side = S.side;
            is_side = side_moves w w.openers.openers (set w.starts l true) h (λ img B. B) (λ holder x e N. N) w.aside refl S.image S.past S.side S.is_side;
            sound = S.sound;
            is = refl;
          }),
          begins_at p (may_start_whole w any size F S.image w.aside F.aside h S.past S.side S.is_side)
              (ap (λ z. z.live) (own_else (state_in w.openers S.image) S.past S.side l else_where) ∙ (ap (λ z. (own_at w.openers.options z).live) there ∙ X.live))
              (task_else (state_in w.openers S.image) S.past S.side l else_where ∙ (ap task_at there ∙ ap law_task X.idle)) S.is,
        )
    begun_given (of_stale S) =
        let p = record (alone (state_in w.openers S.image) S.past) { stale = true } in (
          with_starts (is_starting begun.starts) p,
          of_stale (record { stale = S.stale; nobody = S.nobody; image = S.image; past = S.past; undone = S.undone; form = S.form; reopens = S.reopens; accepted = S.accepted; apart = S.apart; sound = S.sound; is = refl }),
          begins_at p (let M = may_start w any size F S.image in record { live = M.live; idle = M.idle }) (ap (λ z. (own_at w.openers.options z).live) there ∙ X.live) (ap task_at there ∙ ap law_task X.idle) S.is,
        )

among_same : (w v : Whole) (who : ℕ) → v.aside ≡ w.aside → IsAmong w who → IsAmong v who
among_same w v who e (among_all none) = among_all (e ∙ none)
among_same w v who e (among_others h some other) = among_others h (e ∙ some) other

-- An opener among the others is assigned a command.
module _ (w : Whole) (who : ℕ) (named : 1 ≤ who) (among : IsAmong w who) (ne : is_starting w.starts (law_opener who) ≡ false) (ws : World) (x : Opener) (given : Asked) (size : ℕ) (A : IsAssigned w.openers who x given size ws) where
  same_world : ws ≡ record w.openers { openers = ws.openers }
  same_world = ap (λ (z : World). record z { openers = ws.openers }) A.rest

  abbrev after_world : Whole
  after_world = record w { openers = ws }

  back : record w { openers = record w.openers { openers = ws.openers } } ≡ after_world
  back = λ i. record w { openers = sym same_world i }

  put_there : IsPut w.openers.openers (law_opener who) (record x { task = Some A.task }) ws.openers
  put_there = subst (λ o. IsPut w.openers.openers o (record x { task = Some A.task }) ws.openers) (sym (by_number who A.place A.counted)) A.put

  pub assigned_fits : ((img : List ℕ) (size : ℕ) → Stands w.openers img size → Stands ws img size) → (img : List ℕ) (size : ℕ) → WorldFits w img size → WorldFits after_world img size
  assigned_fits stands img size F =
      subst (λ z. WorldFits z img size) back
      (put_fits w who named among ne ws.openers (record x { task = Some A.task }) put_there (λ i n W. subst (λ z. Stands z i n) same_world (stands i n W)) img size F)

  pub assigned_busy : HasCommand after_world who
  assigned_busy = by_job (record x { task = Some A.task }) A.task (record { number = record { place = A.place; counted = A.counted; there = A.put.there }; busy = refl }) ne (among_same w after_world who refl among)

  pub assigned_given : (any : List ℕ) (size : ℕ) → WorldFits w any size → ((img : List ℕ) → BytesStand w.openers img → BytesStand ws img)
      → ((img : List ℕ) → Given (state_in w.openers img) (law_opener who) (law_command given) (state_in ws img)) → (h : History) → GiftLeads w after_world h who (law_command given)
  assigned_given any size F bytes G h state is =
      let J = put_given w who named among ne ws.openers (record x { task = Some A.task }) put_there (law_command given) any size F h
      (λ img B. subst (λ z. BytesStand z img) same_world (bytes img B)) (λ img. subst (λ z. Given (state_in w.openers img) (law_opener who) (law_command given) (state_in z img)) same_world (G img)) state is in
      (J.0, subst (λ z. IsStateOf z h J.0) back J.1, J.2)

-- The one aside is given a command.
given_records : (stage : Stage) (c : Asked) → stage_records (with_command stage c) ≡ stage_records stage
given_records (At.Starting s) c = refl
given_records (At.Open txn command) c = refl
given_records (At.Committing k) c = refl
given_records (At.Preparing p) c = refl
given_records (At.Prepared left command) c = refl
given_records (At.Finishing k) c = refl

given_task_is : (stage : Stage) (c : Asked) → is_idle stage ≡ true → stage_task (with_command stage c) ≡ Some (task_of (law_command c) 0)
given_task_is (At.Starting s) c e = absurd (cc e)
given_task_is (At.Open txn command) c e = refl
given_task_is (At.Committing k) c e = absurd (cc e)
given_task_is (At.Preparing p) c e = absurd (cc e)
given_task_is (At.Prepared left command) c e = refl
given_task_is (At.Finishing k) c e = absurd (cc e)

pub idle_stage : (stage : Stage) → stage_task stage ≡ None → is_idle stage ≡ true
idle_stage (At.Starting s) e = absurd (cc e)
idle_stage (At.Open txn None) e = refl
idle_stage (At.Open txn (Some c)) e = absurd (cc e)
idle_stage (At.Committing k) e = absurd (cc e)
idle_stage (At.Preparing p) e = absurd (cc e)
idle_stage (At.Prepared left None) e = refl
idle_stage (At.Prepared left (Some c)) e = absurd (cc e)
idle_stage (At.Finishing k) e = absurd (cc e)

module _ (w : Whole) (h : HolderState) (e : w.aside ≡ Some h) (c : Asked) where
  abbrev pub given_holder : HolderState
  given_holder = record h { stage = with_command h.stage c }

  abbrev pub aside_given_world : Whole
  aside_given_world = record w { aside = Some given_holder }

  records : stage_records (with_command h.stage c) ≡ stage_records h.stage
  records = given_records h.stage c

  holder_of : (size : ℕ) → AsideFits w w.aside size → HolderFits w h size
  holder_of size F = subst (λ z. AsideFits w z size) e F

  holder_given : (size : ℕ) → ((hd : Header) (limit size : ℕ) → IsFit h.stage hd limit size → IsFit (with_command h.stage c) hd limit size) → HolderFits w h size → HolderFits aside_given_world given_holder size
  holder_given size fit F = record {
    opener = F.opener;
    number = F.number;
    bare = F.bare;
    writes = λ is. F.writes (sym records ∙ is);
    reads = λ is. F.reads (sym records ∙ is);
    fit = fit w.openers.header w.openers.options.limit size F.fit;
    begun = F.begun;
  }

  pub aside_given_fits : ((hd : Header) (limit size : ℕ) → IsFit h.stage hd limit size → IsFit (with_command h.stage c) hd limit size) → (img : List ℕ) (size : ℕ) → WorldFits w img size → WorldFits aside_given_world img size
  aside_given_fits fit img size F = record {
    openers = F.openers;
    each = F.each;
    starts = λ o s. (let S = F.starts o s in record { opener = S.opener; there = S.there; bare = S.bare; none = S.none; writes = S.writes });
    aside = holder_given size fit (holder_of size F.aside);
    stale = λ s. absurd (let both : None ≡ Some h = sym (F.stale s).nobody ∙ e in cc both);
  }

  pub aside_given_busy : is_idle h.stage ≡ true → (who : ℕ) → who ≡ h.owner → HasCommand aside_given_world who
  aside_given_busy idle who is = by_aside given_holder (task_of (law_command c) 0) refl is (given_task_is h.stage c idle)

  module _ (none : stage_task h.stage ≡ None) (any : List ℕ) (size : ℕ) (F : WorldFits w any size)
      (sides : (f : Form) (o : Options) (k : Known) (past : Past) (s : Side) → IsSide f o h.owner h.locks h.stage k past s → IsSide f o h.owner h.locks (with_command h.stage c) k past (record s { task = Some (task_of (law_command c) 0) }))
      (files : (f : Form) (hist : History) (k : Known) → KnowsFile f h.stage hist k → KnowsFile f (with_command h.stage c) hist k) (hist : History) (state : State) where
    abbrev m : ℕ
    m = law_opener h.owner

    abbrev side_then : Side → Side
    side_then s = record s { task = Some (task_of (law_command c) 0) }

    aside_then : (img : List ℕ) (past : Past) (s : Side) → IsAside w h hist img past s → IsAside aside_given_world given_holder hist img past (side_then s)
    aside_then img past s A = record {
      known = A.known;
      image = A.image;
      side = sides (form_at w) w.openers.options A.known past s A.side;
      file = files (form_at w) hist A.known A.file;
      records = λ x N. A.records x N ∙ ap once (sym records);
      shuts = A.shuts ∙ ap writes_all (sym records);
      accepted = λ some. A.accepted (ap is_some (sym records) ∙ some);
      others = λ reads. (let B = A.others (ap writes_all (sym records) ∙ reads) in record { image = B.image; bytes = B.bytes });
      number = λ writes. A.number (ap writes_all (sym records) ∙ writes);
      heads = λ writes. A.heads (ap writes_all (sym records) ∙ writes);
    }

    gives : (img : List ℕ) (past : Past) (s : Side) → IsAside w h hist img past s → Given (whole (state_in w.openers img) past (Some s)) m (law_command c) (whole (state_in w.openers img) past (Some (side_then s)))
    gives img past s A =
        let p = state_in w.openers img in
        let here : m ≡ s.here = aside_here w h any size F.openers (holder_of size F.aside) hist img past s A in
        record {
          live = ap (λ (z : Own). z.live) (put_here p.own s.here s.own m here) ∙ A.side.live;
          idle = put_here p.task s.here s.task m here ∙ A.side.task ∙ none;
          task = put_here p.task s.here (side_then s).task m here;
          others = λ o other. (let apart : o ≢ s.here = λ is. other (is ∙ sym here) in put_else p.task s.here (side_then s).task o apart ∙ sym (put_else p.task s.here s.task o apart));
          rest = refl;
        }

    gives_state : (img : List ℕ) (past : Past) (side : Option Side) → w.stale ≡ false → SideIs w (Some h) hist img past side → SideIs w w.aside hist img past side → IsSound (form_at w) (whole (state_in w.openers img) past side)
        → (after : State) × IsStateOf aside_given_world hist after × Given (with_starts (is_starting w.starts) (whole (state_in w.openers img) past side)) m (law_command c) after
    gives_state img past None fresh A is S = absurd A
    gives_state img past (Some s) fresh A is S =
        let p = whole (state_in w.openers img) past (Some s) in
        let q = whole (state_in w.openers img) past (Some (side_then s)) in
        let G = gives img past s A in (
          with_starts (is_starting w.starts) q,
          of_whole (record { fresh = fresh; image = img; past = past; side = Some (side_then s); is_side = aside_then img past s A; sound = given_sound (form_at w) p q m (law_command c) S G; is = refl }),
          (starts_given p q (is_starting w.starts) m (law_command c) (may_start_whole w any size F img w.aside F.aside hist past (Some s) is) (holder_of size F.aside).begun G).1,
        )

    pub aside_given : IsStateOf w hist state → (after : State) × IsStateOf aside_given_world hist after × Given state m (law_command c) after
    aside_given (of_whole S) =
        let J = gives_state S.image S.past S.side S.fresh (subst (λ z. SideIs w z hist S.image S.past S.side) e S.is_side) S.is_side S.sound in
        (J.0, J.1, subst (λ z. Given z m (law_command c) J.0) (sym S.is) J.2)
    aside_given (of_stale S) = absurd (let both : None ≡ Some h = sym S.nobody ∙ e in cc both)
