-- What follows of a turn from what stood when the lock of records was taken for it.
use Rattle.std.proofs.Common.{◌≡◌, ℕ, ◌≤◌, List, length, false, Option, Some, sym, ◌∙◌, ap, subst}
use Rattle.std.specs.Prelude.{IfSome}
use Rattle.tdb_disk.specs.History.{History, seen}
use Rattle.tdb_words.specs.declared.header.Header.{Header}
use Rattle.tdb_locks.specs.declared.kind.Kind.TheVariants.{Write}
use Rattle.tdb_locks.specs.declared.turn.Turn.{Turn as TurnIs}
use Rattle.tdb_law.specs.Openers.{Task}
use Rattle.tdb_steps.specs.Turns.{number_of}
use Rattle.tdb_commands.specs.InLaw.{law_turn}
use Rattle.tdb_commands.specs.declared.options.Options.{Options}
use Rattle.tdb_law.specs.OneAside.Sides.{Past, Side}
use Rattle.tdb_space.specs.Form.{form_in}
use Rattle.tdb_txn_owner.specs.Ends.{IsBlocked}
use Rattle.tdb_txn_owner.specs.Holders.{is_idle, left_stage, HolderState, HolderTurned}
use Rattle.tdb_txn_owner.specs.Stages.{is_closing, stage_task, IsFitLeft, IsSide, Known, KnowsFile}
use Rattle.tdb_txn_owner.specs.Turned.{BeginsOn, MayTurn}
use Rattle.tdb_txn_owner.specs.declared.wanting.Wants.TheVariants as Wants
use Rattle.tdb_txn_owner.specs.Wanting.{stage_wants, RecordsGo}
use Rattle.tdb_openers.specs.Worlds.{BytesStand, IsNumber, Stands, World}
use Rattle.tdb_openers.specs.declared.opener.Opener.{Opener}
use Rattle.tdb_openers.proofs.ExplicitLocks.Aside.{one_number}
use Rattle.tdb_openers.proofs.Files.Images.{image_keeps_world}
use Rattle.tdb_world.specs.Claims.{Claimed, ClaimStands, IsSettled}
use Rattle.tdb_world.specs.Steps.{with_aside, TurnLeads}
use Rattle.tdb_world.specs.Whole.{Whole, WorldFits}
use Rattle.tdb_world.proofs.Claimed.{claimed, claimed_list, with_list, IsClaimed}
use Rattle.tdb_world.proofs.Fitting.{fits_settled}
use Rattle.tdb_world.proofs.TurnsLead.{settled_leads}

module _ (w : Whole) (h : HolderState) (img : List ℕ) (size : ℕ) (before : World) (x : Opener) (S : ClaimStands w h img size before x) where
  abbrev pub w0 : Whole
  w0 = record w { openers = before }

  pub at_opener : Claimed before h.owner S.fits.aside.opener (stage_wants h.stage) w.openers
  at_opener = subst (λ y. Claimed before h.owner y (stage_wants h.stage) w.openers) (one_number before h.owner x S.fits.aside.opener S.number S.fits.aside.number) S.claimed

  abbrev pub C : IsClaimed before h.owner S.fits.aside.opener (stage_wants h.stage) w.openers.openers w.openers.table
  C = claimed before h.owner S.fits.aside.opener S.fits.aside.number S.fits.aside.bare (stage_wants h.stage) w.openers at_opener

  pub listed : w.openers ≡ with_list before w.openers.openers w.openers.table
  listed = claimed_list before h.owner S.fits.aside.opener (stage_wants h.stage) w.openers at_opener

  pub number_now : IsNumber w.openers h.owner C.opener
  number_now = subst (λ q. IsNumber q h.owner C.opener) (sym listed) C.number

  pub stood_now : Stands w.openers img size
  stood_now = subst (λ q. Stands q img size) (sym listed) (C.stands img size S.fits.openers)

  -- after the turn the world fits the file, which got no shorter, and no longer than it may be
  module _ (number : ℕ) (turn : TurnIs) (z : World) (header : z.header ≡ w.openers.header) (options : z.options ≡ w.openers.options) (stands : (img : List ℕ) (size : ℕ) → Stands w.openers img size → Stands z img size)
      (bytes : (img : List ℕ) → BytesStand w.openers img → BytesStand z img) (later : List ℕ) (longer : ℕ) (more : size ≤ longer) (within : size ≤ w.openers.options.limit → longer ≤ w.openers.options.limit) where
    stood_later : Stands z later longer
    stood_later =
        let W = stands img size stood_now in
        image_keeps_world (form_in z.header) z.options z.openers z.table img later size longer W more (subst (λ o. longer ≤ o.limit) (sym options) (within (subst (λ o. size ≤ o.limit) options W.short)))

    pub used_fits : (after : Option HolderState) → IsSettled w.openers h.owner C.opener (is_closing h.stage) after z → RecordsGo h.stage turn (left_stage after) → IfSome after (λ q. q.owner ≡ h.owner)
        → IsFitLeft (left_stage after) w.openers.header w.openers.options.limit longer → WorldFits (record w { openers = z; aside = after; number = number }) later longer
    used_fits after settled go owner fit =
        fits_settled w0 h img size S.fits number w.openers at_opener turn z stands bytes later longer stood_later after settled go owner
        (subst (λ (q : World). IsFitLeft (left_stage after) q.header q.options.limit longer) listed fit)

  -- and it leads to a state of that world
  module _ (fresh : w.stale ≡ false) (busy : is_idle h.stage ≡ false) (number : ℕ) (kept : (stage_wants h.stage ≡ Wants.Records Write → ⊥) → number ≡ w.number) (old new : History)
      (read : stage_wants h.stage ≡ Wants.Records Write → 52 ≤ length (seen old) → number ≡ number_of (form_in w.openers.header) (seen old)) (turn : TurnIs) (z : World)
      (bytes : (img : List ℕ) → BytesStand w.openers img → BytesStand z img) (after : Option HolderState) where
    -- the turn by itself, on a file with this header and these options
    abbrev pub ByItself : Header → Options → Type 0
    ByItself hd op =
        (table : ℕ → ℕ → ℕ) (k : Known) (past : Past) (s : Side) (t : Task) → IsSide (form_in hd) op h.owner h.locks h.stage k past s → KnowsFile (form_in hd) h.stage old k → BeginsOn (form_in hd) h.stage k.file
        → stage_task h.stage ≡ Some t → MayTurn (form_in hd) table s t → HolderTurned (form_in hd) op table h after old new k past s t (law_turn turn)

    abbrev pub Unblocked : Header → Options → Type 0
    Unblocked hd op = (k : Known) (past : Past) (s : Side) → IsSide (form_in hd) op h.owner h.locks h.stage k past s → KnowsFile (form_in hd) h.stage old k → BeginsOn (form_in hd) h.stage k.file → IsBlocked (law_turn turn) → ⊥

    pub used_leads : (hd : Header) (op : Options) → hd ≡ w.openers.header → op ≡ w.openers.options → ByItself hd op → Unblocked hd op → RecordsGo h.stage turn (left_stage after)
        → IsSettled w.openers h.owner C.opener (is_closing h.stage) after z → TurnLeads (with_aside w0 h) (record w { openers = z; aside = after; number = number }) old new h.owner (law_turn turn)
    used_leads hd op header options T G go settled =
        let same_header : hd ≡ before.header = header ∙ ap (λ (q : World). q.header) listed in
        let same_options : op ≡ before.options = options ∙ ap (λ (q : World). q.options) listed in
        settled_leads w0 h fresh busy img size S.fits w.openers at_opener number kept old new
        (λ ws long. read ws long ∙ ap (λ (q : World). number_of (form_in q.header) (seen old)) listed) turn z bytes after
        (subst (λ q. ByItself before.header q) same_options (subst (λ q. ByItself q op) same_header T))
        (subst (λ q. Unblocked before.header q) same_options (subst (λ q. Unblocked q op) same_header G)) go settled
