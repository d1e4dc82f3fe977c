-- A turn of an outer Start, as a turn of the opener aside.
use Rattle.std.proofs.Common.{◌≡◌, ℕ, ◌+◌, ◌*◌, max, List, [], Bool, true, false, Option, None, Some, unwrap_or, refl, sym, ◌∙◌, ap, subst, arith}
use Rattle.std.specs.Prelude.{slice_index}
use Rattle.std.specs.Ordering.{nat_cmp}
use Rattle.std.specs.FinMap.{get, empty, get-empty}
use Rattle.tdb_disk.specs.History.{History, seen}
use Rattle.tdb_space.specs.Accepted.{Accept, AcceptWith}
use Rattle.tdb_space.specs.Form.{Form}
use Rattle.tdb_locks.specs.HeldLocks.{nothing_held}
use Rattle.tdb_locks.specs.declared.piece.Piece.{Piece}
use Rattle.tdb_locks.specs.declared.turn.Reply.{Reply as ReplyIs}
use Rattle.tdb_locks.specs.declared.turn.Turn.{Turn as TurnIs}
use Rattle.tdb_law.specs.Commands.{Reply, Turn}
use Rattle.tdb_law.specs.Commands.Turn.{Ends}
use Rattle.tdb_law.specs.Commands.GroupCommand.{Start}
use Rattle.tdb_law.specs.Commands.Command.{OnGroup}
use Rattle.tdb_law.specs.Openers.{Mark, Own, nowhere}
use Rattle.tdb_law.specs.Outcomes.{begun_txn}
use Rattle.tdb_law.specs.Effects.{task_left}
use Rattle.tdb_law.specs.Held.{holding, kept, locked}
use Rattle.tdb_law.specs.Images.{image_map}
use Rattle.tdb_law.specs.Rows.{start_locks}
use Rattle.tdb_steps.specs.Turns.{number_of}
use Rattle.tdb_txn.specs.Txn.{txn_depth, txn_form, txn_image}
use Rattle.tdb_txn.specs.declared.txn.Txn.{Txn}
use Rattle.tdb_txn_turns.specs.Holding.{HoldsRow, RowTurned}
use Rattle.tdb_txn_turns.specs.Prepares.{IsReady}
use Rattle.tdb_txn_turns.specs.Starts.{start_steps, start_turn, BegunOn, IsNewTxn, StartLeads, StartMade}
use Rattle.tdb_txn_turns.proofs.Lawful.{start_holds}
use Rattle.tdb_txn_turns.specs.declared.starting.Starting.{Starting}
use Rattle.tdb_txn_turns.specs.declared.starting.Starting.TheVariants.{Begun, Claimed, Reading}
use Rattle.tdb_txn_turns.specs.declared.starting.StartTurn.{StartTurn}
use Rattle.tdb_txn_turns.specs.declared.starting.StartTurn.TheVariants.{Step, Blocked, Memory, Done}
use Rattle.tdb_walk.specs.Again.{RestsAt}
use Rattle.tdb_walk.specs.Cursors.{At, Knows, rested}
use Rattle.tdb_walk.specs.declared.standing.Standing.TheVariants.{Past as Nowhere}
use Rattle.tdb_walk.specs.declared.walk.Walk.{Walk}
use Rattle.tdb_txn_turns.specs.InsideTxn.Counted.{IsCounted}
use Rattle.tdb_txn_turns.specs.InsideTxn.Walks.{mark_in, RestsIn, RestsInside}
use Rattle.tdb_txn_turns.specs.declared.inside_txn.own_txn.OwnTxn.{OwnTxn}
use Rattle.tdb_commands.specs.InLaw.{law_turn}
use Rattle.tdb_law.specs.OneAside.Sides.{Past, Side, but_at}
use Rattle.tdb_law.specs.OneAside.Own.{OwnTurned}
use Rattle.tdb_commands.specs.declared.options.Options.{Options}
use Rattle.tdb_txn_owner.specs.declared.open_txn.OpenTxn.{OpenTxn}
use Rattle.tdb_txn_owner.specs.declared.stage.Stage.TheVariants as At
use Rattle.tdb_txn_owner.specs.declared.stage.Went.{Went}
use Rattle.tdb_txn_owner.specs.Ends.{task_of, started, start_number, start_settles, IsBlocked, TurnLeaves}
use Rattle.tdb_txn_owner.specs.Stages.{Known, IsSide, KnowsFile}
use Rattle.tdb_txn_owner.specs.Turned.{BeginsOn, MayTurn, StageTurned, keeps}
use Rattle.tdb_txn_owner.specs.Waits.{IsAlone, of_start}
use Rattle.tdb_txn_owner.specs.Wents.{StartWent}
use Rattle.tdb_txn_owner.proofs.Keeping.{keeps_nothing}
use Rattle.tdb_txn_owner.proofs.Opened.{txn_of}
use Rattle.tdb_txn_owner.proofs.Sided.{begins, leaves, put_here, put_other, side_after}
use Rattle.tdb_txn_owner.proofs.Turning.{group_still}
use Rattle.tdb_txn_owner.proofs.Waiting.{alone_goes}
use Rattle.tdb_txn_owner.proofs.StartTurns.{start_is_own}

-- no lock is counted in a transaction that has just begun
pub counts_none : (x : Own) → x.counts ≡ empty → x.all ≡ None → IsCounted nothing_held x
counts_none x none all = record {
  chains = λ chain. ap (λ o. unwrap_or o 0) (absent (168 + 4 * chain));
  some = λ b n is. absurd (let no = absent b in let e : ◌≡◌ {A = Option ℕ} None (Some n) = sym no ∙ is in cc e);
  only = λ b apart. absent b;
  all = all;
}
  where
    absent : (b : ℕ) → get x.counts b ≡ None
    absent b = ap (λ m. get m b) none ∙ get-empty nat_cmp b

-- a transaction that has just begun may be committed
new_ready : (f : Form) (old new : History) (txn : Txn) (r : List ℕ) (len : ℕ) → AcceptWith f r [] → seen old ≡ r → IsNewTxn f len txn → BegunOn old new txn → IsReady txn new r r
new_ready f old new txn r len A file N B =
    let now : seen new ≡ r = B.same ∙ file in
    let image : txn_image txn r ≡ r = ap (txn_image txn) (sym now) ∙ B.image ∙ now in
    let accepted : Accept r = subst (λ g. AcceptWith g r []) (sym A.form) A in
    record {
      quiet = B.quiet;
      file = now;
      may = record {
        before = accepted;
        after = subst Accept (sym image) accepted;
        header = N.form ∙ sym A.form;
        keeps = record { front = λ i at. ap (λ x. slice_index x i) image; undo_area = λ i inside. ap (λ x. slice_index x i) image };
      };
      image = sym image;
    }

-- an opener without a cursor
rests_new : (f : Form) (img : List ℕ) (walk : Walk) → walk.cursor ≡ rested Nowhere → walk.shown ≡ None → RestsIn f img walk
rests_new f img walk cursor shown = record {
  rests = subst (λ (at : At). RestsAt f walk.shown at.place at.stage) (sym cursor) (shown, refl);
  knows = subst (λ (at : At). Knows f img at.place at.stage) (sym cursor) tt;
}

rests_first : (f : Form) (txn : OwnTxn) (walk : Walk) (r : List ℕ) → AcceptWith f r [] → txn_form txn.txn ≡ f → txn_image txn.txn r ≡ r → walk.cursor ≡ rested Nowhere → walk.shown ≡ None → RestsInside txn r walk
rests_first f txn walk r A form image cursor shown = record {
  accepted = subst (λ img. AcceptWith (txn_form txn.txn) img []) (sym image) (subst (λ g. AcceptWith g r []) (sym form) A);
  cursor = rests_new (txn_form txn.txn) (txn_image txn.txn r) walk cursor shown;
}

-- its third turn is taken on an accepted file
reading : (f : Form) (start : Starting) (file : List ℕ) → start_steps start ≡ 2 → BeginsOn f (At.Starting start) file → AcceptWith f file []
reading f Begun file third accepted = absurd (omega (arith, third))
reading f Claimed file third accepted = absurd (omega (arith, third))
reading f Reading file third accepted = accepted

module _ (f : Form) (o : Options) (table : ℕ → ℕ → ℕ) (owner len : ℕ) (ps rs : List Piece) (start : Starting) (h new : History) (k : Known) (past : Past) (s : Side)
    (S : IsSide f o owner ps (At.Starting start) k past s) (K : KnowsFile f (At.Starting start) h k) (M : MayTurn f table s (task_of (OnGroup Start) (start_steps start))) where
  abbrev steps : ℕ
  steps = start_steps start

  abbrev Locks : StartTurn → Type 0
  Locks turn = HoldsRow start_locks (λ b. 0) owner (start_steps start) ps → RowTurned true start_locks (λ b. 0) owner (start_steps start) ps rs (start_turn turn)

  outside : s.own.txn ≡ None
  outside = sym (ap (λ x. x.txn) S.own.bare)

  keeps_none : (b : ℕ) → kept f s.own nowhere b ≡ 0
  keeps_none = keeps_nothing f s.own outside (sym (ap (λ x. x.counts) S.own.bare)) (sym (ap (λ x. x.all) S.own.bare))

  holds_row : HoldsRow start_locks (λ b. 0) owner steps ps
  holds_row b = sym (S.table b) ∙ S.holds b ∙ ap (λ task. holding f s.own nowhere task b) S.task ∙ (start_holds f s.own nowhere s.view steps b S.own.granted outside).0 ∙ ap (max (locked start_locks steps b)) (keeps_none b)

  module _ (turn : StartTurn) (locks : Locks turn) where
    row_turned : RowTurned true start_locks (λ b. 0) owner steps ps rs (start_turn turn)
    row_turned = locks holds_row

    alone : (IsBlocked (start_turn turn) → ⊥) × IsAlone owner rs
    alone = alone_goes true start_locks (λ b. 0) owner steps ps rs (start_turn turn) of_start S.alone row_turned

    abbrev own_after : Own
    own_after = started (start_turn turn) s.own (image_map f k.file)

    abbrev side_then : Mark → Side
    side_then mark = record (side_after s owner rs (started (start_turn turn) s.own (image_map f k.file)) (task_left (OnGroup Start) (start_steps start) (start_turn turn))) { mark = mark }

    abbrev Turned : Past → Mark → Type 0
    Turned then_past mark = OwnTurned f table (image_map f k.file) (image_map f k.file) (number_of f k.file) (number_of f k.file) past then_past s (side_then mark) (task_of (OnGroup Start) (start_steps start)) (start_turn turn)

    own_turned : (then_past : Past) (mark : Mark) → StartLeads f len start turn
        → TurnLeaves past then_past s (side_then mark) (task_of (OnGroup Start) (start_steps start)) (start_turn turn) own_after (start_settles (start_turn turn) past.settled) (start_number (start_turn turn) (number_of f k.file) (past.numbers s.here))
        → (start_turn turn ≡ Turn.Step → mark ≡ s.mark) → Turned then_past mark
    own_turned then_past mark leads L stays =
        start_is_own f f table (image_map f k.file) (number_of f k.file) len owner past then_past s (side_then mark) s.own start turn ps rs
        outside S.own.granted keeps_none alone.0 leads row_turned (λ b. refl)
        (begins f o table owner ps (At.Starting start) k past s (task_of (OnGroup Start) steps) S refl M) L stays

  abbrev Goal : Went → Type 0
  Goal went = StageTurned f o table owner rs (At.Starting start) went.stage h new k past s (task_of (OnGroup Start) (start_steps start)) (law_turn went.turn)

  stepped : (next : Starting) → Locks (Step next) → StartLeads f len start (Step next) → new ≡ h → Goal (record { turn = TurnIs.Step; stage = Some (At.Starting next) })
  stepped next locks leads made =
      let T = own_turned (Step next) locks past s.mark leads (leaves past s (task_of (OnGroup Start) steps) Turn.Step owner rs s.own) (λ step. refl) in
      record {
        known = k;
        later = past;
        side = side_then (Step next) locks s.mark;
        left = record {
          here = S.here;
          alone = (alone (Step next) locks).1;
          table = λ byte. refl;
          holds = T.holds;
          task = ap (λ n. Some (task_of (OnGroup Start) n)) (sym leads);
          keeps = S.keeps;
          live = S.live;
          options = S.options;
          own = S.own;
          numbers = S.numbers;
          mark = tt;
        };
        file = record { at = ap seen made ∙ K.at; forms = tt; reads = λ only. ap seen made ∙ K.at };
        kept = keeps refl;
        still = tt;
        turned = T;
      }

  starved : Locks Memory → StartLeads f len start Memory → new ≡ h → Goal (record { turn = TurnIs.Done ReplyIs.Memory; stage = None })
  starved locks leads made =
      let T = own_turned Memory locks past s.mark leads (leaves past s (task_of (OnGroup Start) steps) (Ends Reply.Memory) owner rs s.own) (λ step. refl) in
      record {
        known = k;
        later = past;
        side = side_then Memory locks s.mark;
        left = record { here = S.here; alone = (alone Memory locks).1; table = λ b. refl; nothing = (row_turned Memory locks).holds; task = refl; own = S.own.bare; live = S.live; options = S.options };
        file = made;
        kept = keeps refl;
        still = group_still f Start s.own;
        turned = T;
      }

  module _ (txn : Txn) (t : OpenTxn) (numbered : Bool) (counting : numbered ≡ o.seqnum) (is : t.own ≡ record { txn = txn; changed = false; numbered = numbered }) (held : t.held ≡ nothing_held)
      (cursor : t.walk.cursor ≡ rested Nowhere) (shown : t.walk.shown ≡ None) where
    abbrev then_past : Past
    then_past = record { settled = true; numbers = but_at s.here (number_of f k.file) past.numbers }

    own_is : IsNewTxn f len txn → txn_image txn k.file ≡ k.file → begun_txn s.own (image_map f k.file) ≡ txn_of t.own k.file
    own_is N image =
        ap (λ b. record { image = image_map f k.file; depth = 1; doomed = false; prepared = None; changed = false; numbered = b }) (ap (λ options. options.seqnum) S.options ∙ sym counting)
        ∙ ap (λ img. record { image = image_map f img; depth = 1; doomed = false; prepared = None; changed = false; numbered = numbered }) (sym image)
        ∙ ap (λ g. record { image = image_map g (txn_image txn k.file); depth = 1; doomed = false; prepared = None; changed = false; numbered = numbered }) (sym N.form)
        ∙ ap (λ d. record { image = image_map (txn_form txn) (txn_image txn k.file); depth = d + 1; doomed = false; prepared = None; changed = false; numbered = numbered }) (sym N.depth)
        ∙ ap (λ b. record { image = image_map (txn_form txn) (txn_image txn k.file); depth = txn_depth txn + 1; doomed = b; prepared = None; changed = false; numbered = numbered }) (sym N.doomed)
        ∙ ap (λ own. txn_of own k.file) (sym is)

    begun : Locks (Done txn) → StartLeads f len start (Done txn) → BeginsOn f (At.Starting start) k.file → BegunOn h new txn → Goal (record { turn = TurnIs.Done ReplyIs.Ok; stage = Some (At.Open t None) })
    begun locks leads accepted made =
        let A = reading f start k.file leads.0 accepted in
        let ready = new_ready f h new txn k.file len A K.at leads.1 made in
        let ready_then = subst (λ own. IsReady own.txn new k.file k.file) (sym is) ready in
        let T = own_turned (Done txn) locks then_past (mark_in f k.file t.walk) leads (record {
          here = refl;
          own = refl;
          task = refl;
          settled = refl;
          number = put_here s.here (number_of f k.file) past.numbers;
          others = λ p differs. put_other s.here (number_of f k.file) p past.numbers differs;
        }) (λ step. absurd (cc step)) in
        record {
          known = record { file = k.file; image = k.file };
          later = then_past;
          side = side_then (Done txn) locks (mark_in f k.file t.walk);
          left = record {
            here = S.here;
            alone = (alone (Done txn) locks).1;
            table = λ byte. refl;
            holds = T.holds;
            task = refl;
            keeps = S.keeps;
            live = S.live;
            options = S.options;
            own = record {
              options = S.options;
              txn = ap Some (own_is leads.1 (sym ready.image));
              counted = subst (λ counts. IsCounted counts (own_after (Done txn) locks)) (sym held) (counts_none (own_after (Done txn) locks) (sym (ap (λ x. x.counts) S.own.bare)) (sym (ap (λ x. x.all) S.own.bare)));
              cursor = sym (ap (λ x. x.cursor) S.own.bare) ∙ sym shown;
            };
            numbers = record { image = λ u has. put_here s.here (number_of f k.file) past.numbers; still = λ u has counts. refl };
            mark = refl;
          };
          file = record { at = (ready_then, rests_first f t.own t.walk k.file A (ap (λ own. txn_form own.txn) is ∙ leads.1.form) (sym ready_then.image) cursor shown); forms = (A.form, A.form); reads = λ only. ready_then.file };
          kept = keeps refl;
          still = tt;
          turned = T;
        }

  pub start_turned : (turn : StartTurn) (numbered : Bool) (went : Went) → numbered ≡ o.seqnum → StartWent numbered start turn went → Locks turn → StartLeads f len start turn → BeginsOn f (At.Starting start) k.file → StartMade h new turn → Goal went
  start_turned (Step next) numbered went counting W locks leads accepted made = subst Goal (sym W) (stepped next locks leads made)
  start_turned (Blocked other byte) numbered went counting W locks leads accepted made = absurd ((alone (Blocked other byte) locks).0 tt)
  start_turned Memory numbered went counting W locks leads accepted made = subst Goal (sym W) (starved locks leads made)
  start_turned (Done txn) numbered went counting W locks leads accepted made = subst Goal (sym W.5) (begun txn W.0 numbered counting W.1 W.2 W.3 W.4 locks leads accepted made)
