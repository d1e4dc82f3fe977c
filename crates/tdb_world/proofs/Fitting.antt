-- What holds of a world whatever the bytes of its file are, after a turn of the one aside.
use Rattle.std.proofs.Common.{◌≡◌, ℕ, List, Option, Some, None, refl, sym, ◌∙◌, ap, subst}
use Rattle.std.specs.Prelude.{IfSome}
use Rattle.tdb_locks.specs.declared.kind.Kind.{Kind}
use Rattle.tdb_locks.specs.declared.kind.Kind.TheVariants.{Read, Write}
use Rattle.tdb_locks.specs.declared.turn.Turn.{Turn as TurnIs}
use Rattle.tdb_locks.specs.declared.turn.Turn.TheVariants as Turns
use Rattle.tdb_law.proofs.Tests.{never_true}
use Rattle.tdb_commands.specs.InLaw.{law_opener}
use Rattle.tdb_txn_owner.specs.Holders.{left_stage, HolderState}
use Rattle.tdb_txn_owner.specs.Stages.{is_closing, stage_records, IsFit, IsFitLeft}
use Rattle.tdb_txn_owner.specs.Wanting.{records_by, stage_wants, RecordsGo}
use Rattle.tdb_txn_owner.specs.declared.wanting.Wants.{Wants}
use Rattle.tdb_openers.specs.Aside.{HoldsRecords}
use Rattle.tdb_openers.specs.Worlds.{BytesStand, IsNumber, Stands, World}
use Rattle.tdb_openers.specs.declared.opener.Opener.{Opener}
use Rattle.tdb_world.specs.Claims.{Claimed, IsReleased, IsSettled}
use Rattle.tdb_world.specs.States.{writes_all}
use Rattle.tdb_world.specs.Steps.{with_aside}
use Rattle.tdb_world.specs.Whole.{is_starting, AsideFits, Whole, WorldFits}
use Rattle.tdb_world.proofs.Claimed.{all_claimed, as_list, claimed, claimed_list, with_list, IsClaimed}
use Rattle.tdb_world.proofs.OthersKept.{OneChanges}
use Rattle.tdb_world.proofs.Released.{released, released_list}
use Rattle.tdb_world.proofs.Staged.{writing_wants}

-- who writes all records after the turn has claimed them so, or held them so
claims_write : (turn : TurnIs) (wants : Wants) (held : Option Kind) (all : Option (Kind × ℕ)) → (held ≡ Some Write → all ≡ Some (Write, 1)) → (held ≡ Some Write → (kind : Kind) → wants ≡ Wants.Records kind → ⊥)
    → records_by turn wants held ≡ Some Write → all_claimed wants all ≡ Some (Write, 1)
claims_write Turns.Step Wants.Nothing held all has not_again e = has e
claims_write Turns.Step Wants.Transaction held all has not_again e = has e
claims_write Turns.Step (Wants.Records kind) held all has not_again e = ap (λ (k : Kind). Some (k, 1)) (cc e)
claims_write Turns.Step (Wants.Opening numbered) held all has not_again e = has e
claims_write (Turns.Blocked owner byte) Wants.Nothing held all has not_again e = has e
claims_write (Turns.Blocked owner byte) Wants.Transaction held all has not_again e = has e
claims_write (Turns.Blocked owner byte) (Wants.Records kind) held all has not_again e = absurd (not_again e kind refl)
claims_write (Turns.Blocked owner byte) (Wants.Opening numbered) held all has not_again e = has e
claims_write (Turns.Done reply) Wants.Nothing held all has not_again e = has e
claims_write (Turns.Done reply) Wants.Transaction held all has not_again e = has e
claims_write (Turns.Done reply) (Wants.Records kind) held all has not_again e = ap (λ (k : Kind). Some (k, 1)) (cc e)
claims_write (Turns.Done reply) (Wants.Opening numbered) held all has not_again e = has e

-- who reads all records after the turn has claimed them, or held them
claims_read : (turn : TurnIs) (wants : Wants) (held : Option Kind) (all : Option (Kind × ℕ)) → (held ≡ Some Read → (kind : Kind) × (all ≡ Some (kind, 1)))
    → records_by turn wants held ≡ Some Read → (kind : Kind) × (all_claimed wants all ≡ Some (kind, 1))
claims_read Turns.Step Wants.Nothing held all has e = has e
claims_read Turns.Step Wants.Transaction held all has e = has e
claims_read Turns.Step (Wants.Records kind) held all has e = (kind, refl)
claims_read Turns.Step (Wants.Opening numbered) held all has e = has e
claims_read (Turns.Blocked owner byte) Wants.Nothing held all has e = has e
claims_read (Turns.Blocked owner byte) Wants.Transaction held all has e = has e
claims_read (Turns.Blocked owner byte) (Wants.Records kind) held all has e = (kind, refl)
claims_read (Turns.Blocked owner byte) (Wants.Opening numbered) held all has e = has e
claims_read (Turns.Done reply) Wants.Nothing held all has e = has e
claims_read (Turns.Done reply) Wants.Transaction held all has e = has e
claims_read (Turns.Done reply) (Wants.Records kind) held all has e = (kind, refl)
claims_read (Turns.Done reply) (Wants.Opening numbered) held all has e = has e

module _ (w0 : Whole) (h : HolderState) (any : List ℕ) (size : ℕ) (F : WorldFits (with_aside w0 h) any size) (number : ℕ) where
  -- what the others keep
  module _ (z : World) (list : z ≡ with_list w0.openers z.openers z.table) (one : OneChanges w0.openers.openers z.openers w0.openers.table z.table (law_opener h.owner)) (img : List ℕ) (longer : ℕ) (W : Stands z img longer) where
    pub fits_with : (after : Option HolderState) → AsideFits (record w0 { openers = z; aside = after; number = number }) after longer → WorldFits (record w0 { openers = z; aside = after; number = number }) img longer
    fits_with after A = record {
      openers = W;
      each = F.each ∙ sym one.same_length;
      starts = λ o e. (let S = F.starts o e in
          record {
            opener = S.opener;
            there = one.others o (λ is. never_true (sym F.aside.begun ∙ (ap (is_starting w0.starts) (sym is) ∙ e))) ∙ S.there;
            bare = S.bare;
            none = S.none;
            writes = ap (λ (q : World). q.options.read_only) list ∙ S.writes;
          });
      aside = A;
      stale = λ e. absurd (let both : Some h ≡ None = (F.stale e).nobody in cc both);
    }

  abbrev x : Opener
  x = F.aside.opener

  -- after a turn for which the lock was claimed
  module _ (v : World) (Cl : Claimed w0.openers h.owner x (stage_wants h.stage) v) (turn : TurnIs) (z : World) (stands : (img : List ℕ) (size : ℕ) → Stands v img size → Stands z img size)
      (bytes : (img : List ℕ) → BytesStand v img → BytesStand z img) (img : List ℕ) (longer : ℕ) (W : Stands z img longer) where
    abbrev pub C : IsClaimed w0.openers h.owner x (stage_wants h.stage) v.openers v.table
    C = claimed w0.openers h.owner x F.aside.number F.aside.bare (stage_wants h.stage) v Cl

    list : v ≡ with_list w0.openers v.openers v.table
    list = claimed_list w0.openers h.owner x (stage_wants h.stage) v Cl

    pub fits_settled : (after : Option HolderState) → IsSettled v h.owner C.opener (is_closing h.stage) after z → RecordsGo h.stage turn (left_stage after) → IfSome after (λ q. q.owner ≡ h.owner)
        → IsFitLeft (left_stage after) w0.openers.header w0.openers.options.limit longer → WorldFits (record w0 { openers = z; aside = after; number = number }) img longer
    fits_settled (Some later) same go owner fit =
        let now : z ≡ with_list w0.openers v.openers v.table = same ∙ list in
        fits_with z (now ∙ ap (λ (q : World). with_list w0.openers q.openers q.table) (sym same)) (subst (λ (q : World). OneChanges w0.openers.openers q.openers w0.openers.table q.table (law_opener h.owner)) (sym same) C.one) img longer W (Some later)
        (record {
          opener = C.opener;
          number = subst (λ i. IsNumber z i C.opener) (sym owner) (subst (λ q. IsNumber q h.owner C.opener) (sym now) C.number);
          bare = C.bare;
          writes = λ e. C.all ∙ claims_write turn (stage_wants h.stage) (stage_records h.stage) x.held.all F.aside.writes (λ e kind ws. writing_wants h.stage kind (ap writes_all e) ws) (sym go ∙ e);
          reads = λ e. (let R = claims_read turn (stage_wants h.stage) (stage_records h.stage) x.held.all F.aside.reads (sym go ∙ e) in (R.0, C.all ∙ R.1));
          fit = subst (λ (q : World). IsFit later.stage q.header q.options.limit longer) (sym now) fit;
          begun = ap (λ i. is_starting w0.starts (law_opener i)) owner ∙ F.aside.begun;
        })
    fits_settled None R go owner fit =
        let rel = subst (λ q. IsReleased q h.owner C.opener (is_closing h.stage) z) list R in
        let kept = subst (λ q. (img : List ℕ) → BytesStand q img → BytesStand z img) list bytes in
        let stood = C.stands any size F.openers in
        let back = released w0.openers h.owner v.openers v.table C.opener C.number C.bare C.one C.bytes any size stood z kept (is_closing h.stage) rel in
        fits_with z (released_list w0.openers h.owner v.openers v.table C.opener C.number C.bare C.one C.bytes any size stood z kept (is_closing h.stage) rel) back.one img longer W None tt

  -- and where memory was wanting for it
  module _ (z : World) (freed : HoldsRecords w0.openers h.owner x None z) (W : Stands z any size) where
    pub fits_starved : WorldFits (record w0 { openers = z; aside = None; number = number }) any size
    fits_starved = fits_with z (as_list w0.openers z freed.rest) (record { same_length = freed.put.same_length; others = freed.put.others; table = freed.others }) any size W None tt
