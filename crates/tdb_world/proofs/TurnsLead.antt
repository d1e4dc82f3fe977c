-- What a turn of the one aside leads to, from each state of its world.
use Rattle.std.proofs.Common.{◌≡◌, ℕ, ◌≤◌, List, [], true, false, length, Option, Some, None, is_some, refl, sym, ◌∙◌, ap, subst, arith}
use Rattle.std.specs.Prelude.{not}
use Rattle.tdb_disk.specs.History.{History, seen}
use Rattle.tdb_space.specs.Accepted.{AcceptWith}
use Rattle.tdb_space.specs.Form.{Form}
use Rattle.tdb_locks.specs.declared.kind.Kind.{Kind}
use Rattle.tdb_locks.specs.declared.kind.Kind.TheVariants.{Write}
use Rattle.tdb_locks.specs.declared.turn.Turn.{Turn as TurnIs}
use Rattle.tdb_law.specs.Commands.Reply.{Memory}
use Rattle.tdb_law.specs.Commands.Turn.{Blocked, Ends}
use Rattle.tdb_law.specs.Openers.{Task}
use Rattle.tdb_law.specs.Turned.{Turned}
use Rattle.tdb_law.specs.World.{State, IsSound}
use Rattle.tdb_law.proofs.Tests.{never_true}
use Rattle.tdb_steps.specs.Turns.{number_of}
use Rattle.tdb_commands.specs.InLaw.{law_opener, law_turn}
use Rattle.tdb_commands.specs.declared.options.Options.{Options}
use Rattle.tdb_law.specs.OneAside.Sides.{Past, Side, beside, whole}
use Rattle.tdb_law.specs.OneAside.Starts.{with_starts}
use Rattle.tdb_txn_turns.specs.declared.starting.Starting.TheVariants as Starts
use Rattle.tdb_txn_owner.specs.Ends.{IsBlocked}
use Rattle.tdb_txn_owner.specs.Holders.{is_idle, left_stage, HolderState, HolderTurned}
use Rattle.tdb_txn_owner.specs.Stages.{is_closing, stage_records, stage_task, Known, KnowsFile, IsSide}
use Rattle.tdb_txn_owner.specs.Turned.{BeginsOn, MayTurn}
use Rattle.tdb_txn_owner.specs.Wanting.{stage_wants, RecordsGo}
use Rattle.tdb_txn_owner.specs.declared.stage.Stage.{Stage}
use Rattle.tdb_txn_owner.specs.declared.stage.Stage.TheVariants as At
use Rattle.tdb_txn_owner.specs.declared.wanting.Wants.TheVariants as Wants
use Rattle.tdb_txn_owner.proofs.HolderTurns.{busy_task, may_alone, own_table}
use Rattle.tdb_openers.specs.Aside.{HoldsRecords}
use Rattle.tdb_openers.specs.Worlds.{state_in, BytesStand, World}
use Rattle.tdb_world.specs.Claims.{Claimed, IsBarred, IsReleased, IsSettled}
use Rattle.tdb_world.specs.States.{state_with, writes_all, IsStateOf, SideIs}
use Rattle.tdb_world.specs.States.IsStateOf.{of_whole, of_stale}
use Rattle.tdb_world.specs.Steps.{with_aside, TurnLeads}
use Rattle.tdb_world.specs.Whole.{form_at, is_starting, options_at, HolderFits, Whole, WorldFits}
use Rattle.tdb_world.proofs.Blocked.{barred_turned}
use Rattle.tdb_world.proofs.Claimed.{as_list, claimed, claimed_list, with_list, IsClaimed}
use Rattle.tdb_world.proofs.Leading.{at_known, begins, may, stays_leads, stood, IsAt}
use Rattle.tdb_world.proofs.Released.{let_go, released, released_list}
use Rattle.tdb_world.proofs.Returning.{returns_lead, IsBackIn}
use Rattle.tdb_world.proofs.OthersKept.{OneChanges}
use Rattle.tdb_world.proofs.Staged.{came_to_write, not_blocked, not_writing, wants_early, wants_open, writing_wants}
use Rattle.tdb_world.proofs.Starved.{starved_so}

-- A state of a world in which one is aside, by the image that is known of the file.
pub record IsOne (w : Whole) (h : HolderState) (history : History) (state : State) : Type 0 where
  pub known : Known
  pub past : Past
  pub side : Side
  pub at : IsAt w h history known past side
  pub sound : IsSound (form_at w) (beside (state_in w.openers known.file) past side)
  pub is : state ≡ with_starts (is_starting w.starts) (beside (state_in w.openers known.file) past side)

module _ (w : Whole) (h : HolderState) (fresh : w.stale ≡ false) (history : History) (state : State) where
  pub one_state : IsStateOf (with_aside w h) history state → IsOne (with_aside w h) h history state
  one_state (of_whole S) = by_again S.image S.past S.side S.is_side S.sound S.is
    where
      by_again : (image : List ℕ) (past : Past) (side : Option Side) → SideIs (with_aside w h) (Some h) history image past side → IsSound (form_at w) (whole (state_in w.openers image) past side)
          → state ≡ state_with (with_aside w h) image past side → IsOne (with_aside w h) h history state
      by_again image past None A S is = absurd A
      by_again image past (Some s) A S is = record {
        known = A.known;
        past = past;
        side = s;
        at = at_known (with_aside w h) h history image past s A;
        sound = subst (λ i. IsSound (form_at w) (beside (state_in w.openers i) past s)) A.image S;
        is = is ∙ ap (λ i. with_starts (is_starting w.starts) (beside (state_in w.openers i) past s)) A.image;
      }
  one_state (of_stale S) = absurd (never_true (sym fresh ∙ S.stale))

-- who wants to write all records has them
plans_with : (stage : Stage) → stage_wants stage ≡ Wants.Records Write → is_some (stage_records stage) ≡ true
plans_with (At.Starting Starts.Begun) ws = absurd (cc ws)
plans_with (At.Starting Starts.Claimed) ws = absurd (cc ws)
plans_with (At.Starting Starts.Reading) ws = absurd (cc ws)
plans_with (At.Open txn command) ws = refl
plans_with (At.Committing c) ws = refl
plans_with (At.Preparing p) ws = refl
plans_with (At.Prepared left command) ws = refl
plans_with (At.Finishing c) ws = refl

module _ (w0 : Whole) (h : HolderState) (fresh : w0.stale ≡ false) (busy : is_idle h.stage ≡ false) (any : List ℕ) (size : ℕ) (F : WorldFits (with_aside w0 h) any size) where
  abbrev w : Whole
  w = with_aside w0 h

  abbrev f : Form
  f = form_at w0

  abbrev o : Options
  o = options_at w0

  abbrev HF : HolderFits (with_aside w0 h) h size
  HF = F.aside

  abbrev t : Task
  t = (busy_task h.stage busy).0

  mine : stage_task h.stage ≡ Some t
  mine = (busy_task h.stage busy).1

  -- another opener's lock is in the way: nothing has changed
  pub blocked_leads : (history : History) (owner byte : ℕ) → IsBarred w0.openers h.owner (stage_wants h.stage) owner byte → TurnLeads w w history history h.owner (Blocked (law_opener owner) byte)
  blocked_leads history owner byte B = λ state S.
      let one = one_state w0 h fresh history state S in
      let now = with_starts (is_starting w0.starts) (beside (state_in w0.openers one.known.file) one.past one.side) in (
        state,
        t,
        S,
        subst (λ z. Turned f z (law_opener h.owner) t (Blocked (law_opener owner) byte) z) (sym one.is)
            (barred_turned w h any size F HF history one.known one.past one.side one.at t mine owner byte (stage_wants h.stage) refl B),
      )

  -- what the next turn wants has been claimed
  module _ (v : World) (Cl : Claimed w0.openers h.owner HF.opener (stage_wants h.stage) v) where
    abbrev pub C : IsClaimed w0.openers h.owner HF.opener (stage_wants h.stage) v.openers v.table
    C = claimed w0.openers h.owner HF.opener HF.number HF.bare (stage_wants h.stage) v Cl

    list : v ≡ with_list w0.openers v.openers v.table
    list = claimed_list w0.openers h.owner HF.opener (stage_wants h.stage) v Cl

    module _ (number : ℕ) (kept : (stage_wants h.stage ≡ Wants.Records Write → ⊥) → number ≡ w0.number) (old new : History) (read : stage_wants h.stage ≡ Wants.Records Write → 52 ≤ length (seen old) → number ≡ number_of f (seen old))
        (turn : TurnIs) (z : World) (bytes : (img : List ℕ) → BytesStand v img → BytesStand z img) where
      abbrev pub IsTurn : Option HolderState → Type 0
      IsTurn after =
          (table : ℕ → ℕ → ℕ) (k : Known) (past : Past) (s : Side) (t : Task) → IsSide f o h.owner h.locks h.stage k past s → KnowsFile f h.stage old k → BeginsOn f h.stage k.file
          → stage_task h.stage ≡ Some t → MayTurn f table s t → HolderTurned f o table h after old new k past s t (law_turn turn)

      abbrev pub Goes : Option HolderState → Type 0
      Goes after = (k : Known) (past : Past) (s : Side) → IsSide f o h.owner h.locks h.stage k past s → KnowsFile f h.stage old k → BeginsOn f h.stage k.file → IsBlocked (law_turn turn) → ⊥

      module _ (state : State) (one : IsOne w h old state) where
        abbrev k : Known
        k = one.known

        abbrev s : Side
        s = one.side

        abbrev before : State
        before = beside (state_in w0.openers k.file) one.past s

        may_now : MayTurn f before.table s t
        may_now = may w h any size F HF old k one.past s one.at t mine v.openers v.table C

        begins_now : BeginsOn f h.stage k.file
        begins_now = begins w h any size F HF old k one.past s one.at t mine

        keeps_number : writes_all (stage_records h.stage) ≡ true → number ≡ w0.number
        keeps_number e = kept (writing_wants h.stage Write e)

        reads_number : writes_all (stage_records h.stage) ≡ false → stage_wants h.stage ≡ Wants.Records Write → number ≡ number_of f (seen old)
        reads_number none ws =
            let A : AcceptWith f k.file [] = one.at.accepted (plans_with h.stage ws) in
            let file : seen old ≡ k.file = one.at.file.reads (not_writing (stage_records h.stage) none) in
            read ws (let long = A.long in let same = ap length file in omega (arith, long, same))

        leads : (after : Option HolderState) → IsTurn after → Goes after → RecordsGo h.stage turn (left_stage after) → IsSettled v h.owner C.opener (is_closing h.stage) after z
            → (next : State) × (task : Task) × IsStateOf (record w0 { openers = z; aside = after; number = number }) new next × Turned f state (law_opener h.owner) task (law_turn turn) next
        leads (Some later) T G go settled =
            let H = T before.table k one.past s t one.at.side one.at.file begins_now mine may_now in
            let unblocked = G k one.past s one.at.side one.at.file begins_now in
            let found = stays_leads w h any size F HF old k one.past s one.at t mine v.openers v.table C new turn unblocked H.locks later.stage H.turned go number keeps_number
            (λ none now. reads_number none (came_to_write (stage_wants h.stage) (stage_records h.stage) none (ap writes_all (sym (go ∙ not_blocked turn (stage_wants h.stage) (stage_records h.stage) unblocked)) ∙ now)))
            one.sound fresh in
            let holder : record { owner = h.owner; locks = H.locks; stage = later.stage } ≡ later = (λ i. record { owner = sym H.left.0 i; locks = sym H.left.1 i; stage = later.stage }) in
            let openers : with_list w0.openers v.openers v.table ≡ z = sym (settled ∙ list) in (
              found.0,
              found.1,
              subst (λ q. IsStateOf (record w0 { openers = z; aside = Some q; number = number }) new found.0) holder
                  (subst (λ q. IsStateOf (record w0 { openers = q; aside = Some (record { owner = h.owner; locks = H.locks; stage = later.stage }); number = number }) new found.0) openers found.2),
              subst (λ q. Turned f q (law_opener h.owner) found.1 (law_turn turn) found.0) (sym one.is) found.3,
            )
        leads None T G go settled =
            let H = T before.table k one.past s t one.at.side one.at.file begins_now mine may_now in
            let before_stood = C.stands k.file size (stood w h any size F HF old k one.past s one.at t mine) in
            let rel = subst (λ q. IsReleased q h.owner C.opener (is_closing h.stage) z) list settled in
            let kept_bytes = subst (λ q. (img : List ℕ) → BytesStand q img → BytesStand z img) list bytes in
            let back = released w0.openers h.owner v.openers v.table C.opener C.number C.bare C.one C.bytes k.file size before_stood z kept_bytes (is_closing h.stage) rel in
            let found = returns_lead w h any size F HF old k one.past s one.at t mine z.openers z.table back new (law_turn turn) H.locks H.turned number one.sound fresh in
            let openers : with_list w0.openers z.openers z.table ≡ z =
            sym (released_list w0.openers h.owner v.openers v.table C.opener C.number C.bare C.one C.bytes k.file size before_stood z kept_bytes (is_closing h.stage) rel) in (
              found.0,
              found.1,
              subst (λ q. IsStateOf (record w0 { openers = q; aside = None; number = number }) new found.0) openers found.2,
              subst (λ q. Turned f q (law_opener h.owner) found.1 (law_turn turn) found.0) (sym one.is) found.3,
            )

      pub settled_leads : (after : Option HolderState) → IsTurn after → Goes after → RecordsGo h.stage turn (left_stage after) → IsSettled v h.owner C.opener (is_closing h.stage) after z
          → TurnLeads w (record w0 { openers = z; aside = after; number = number }) old new h.owner (law_turn turn)
      settled_leads after T G go settled = λ state S. leads state (one_state w0 h fresh old state S) after T G go settled

  -- memory was wanting for the lock
  module _ (kind : Kind) (ws : stage_wants h.stage ≡ Wants.Records kind) (history : History) (z : World) (freed : HoldsRecords w0.openers h.owner HF.opener None z)
      (bytes : (img : List ℕ) → BytesStand w0.openers img → BytesStand z img)
      (T : (table : ℕ → ℕ → ℕ) (k : Known) (past : Past) (s : Side) (t : Task) → IsSide f o h.owner h.locks h.stage k past s → KnowsFile f h.stage history k → stage_task h.stage ≡ Some t → MayTurn f table s t
      → HolderTurned f o table h None history history k past s t (Ends Memory)) where
    pub starved_leads : TurnLeads w (record w0 { openers = z; aside = None }) history history h.owner (Ends Memory)
    starved_leads = λ state S.
        let one = one_state w0 h fresh history state S in
        let k = one.known in
        let s = one.side in
        let now = beside (state_in w0.openers k.file) one.past s in
        let H = T (own_table f o h.owner h.locks h.stage k one.past s t one.at.side mine) k one.past s t one.at.side one.at.file mine (may_alone f o h.owner h.locks h.stage k one.past s t one.at.side mine) in
        let turned = starved_so f o (own_table f o h.owner h.locks h.stage k one.past s t one.at.side mine) now.table h.owner H.locks h.stage history history k one.past s t (wants_early kind h.stage t ws mine) H.turned in
        let alone_one : OneChanges w0.openers.openers w0.openers.openers w0.openers.table w0.openers.table (law_opener h.owner) = record { same_length = refl; others = λ q ne. refl; table = λ q b ne. refl } in
        let back = let_go w0.openers h.owner w0.openers.openers w0.openers.table HF.opener HF.number HF.bare alone_one (λ img G. G) k.file size (stood w h any size F HF history k one.past s one.at t mine) z bytes freed in
        let stays = subst (λ b. IsBackIn w0.openers h.owner b z.openers z.table) (sym (ap not (wants_open kind h.stage ws))) back in
        let found = returns_lead w h any size F HF history k one.past s one.at t mine z.openers z.table stays history (Ends Memory) H.locks turned w0.number one.sound fresh in (
          found.0,
          found.1,
          subst (λ q. IsStateOf (record w0 { openers = q; aside = None }) history found.0) (sym (as_list w0.openers z freed.rest)) found.2,
          subst (λ q. Turned f q (law_opener h.owner) found.1 (Ends Memory) found.0) (sym one.is) found.3,
        )
