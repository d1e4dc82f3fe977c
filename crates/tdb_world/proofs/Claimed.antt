-- The openers after the lock of all records that comes before a turn of the one aside.
use Rattle.std.proofs.Common.{◌≡◌, ℕ, List, Option, Some, refl, sym, ◌∙◌, ap, subst}
use Rattle.tdb_locks.specs.declared.kind.Kind.{Kind}
use Rattle.tdb_locks.specs.declared.piece.Piece.{Piece}
use Rattle.tdb_commands.specs.InLaw.{law_opener}
use Rattle.tdb_txn_owner.specs.declared.wanting.Wants.{Wants}
use Rattle.tdb_openers.specs.Aside.{with_records, AreFree, HoldsRecords, IsBare}
use Rattle.tdb_openers.specs.Worlds.{BytesStand, IsNumber, Stands, World}
use Rattle.tdb_openers.specs.declared.opener.Opener.{Opener}
use Rattle.tdb_openers.proofs.ExplicitLocks.Aside.{bytes_with, stands_with, taken_apart}
use Rattle.tdb_world.specs.Claims.{Claimed}
use Rattle.tdb_world.proofs.MayTurn.{LeavesFree}
use Rattle.tdb_world.proofs.OthersKept.{OneChanges}
use Rattle.tdb_world.proofs.Settled.{bare_after, named_after}

-- openers with these in a list, and these locks
abbrev pub with_list : World → List Opener → List Piece → World
with_list w ys qs = record w { openers = ys; table = qs }

-- what the opener holds of all records after the lock
abbrev pub all_claimed : Wants → Option (Kind × ℕ) → Option (Kind × ℕ)
all_claimed (Wants.Records kind) all = Some (kind, 1)
all_claimed wants all = all

-- The opener has what its next turn wants, others leave it that, and all of the world stands as before.
pub record IsClaimed (old : World) (who : ℕ) (x : Opener) (wants : Wants) (ys : List Opener) (qs : List Piece) : Type 0 where
  pub opener : Opener
  pub number : IsNumber (with_list old ys qs) who opener
  pub bare : IsBare opener
  pub all : opener.held.all ≡ all_claimed wants x.held.all
  pub one : OneChanges old.openers ys old.table qs (law_opener who)
  pub free : LeavesFree old.table (law_opener who) wants
  pub stands : (img : List ℕ) (size : ℕ) → Stands old img size → Stands (with_list old ys qs) img size
  pub bytes : (img : List ℕ) → BytesStand old img → BytesStand (with_list old ys qs) img

-- where the openers are the same but for their list and their locks, they are those
pub as_list : (old new : World) → record new { openers = old.openers; table = old.table } ≡ old → new ≡ with_list old new.openers new.table
as_list old new rest = ap (λ (z : World). with_list z new.openers new.table) rest

module _ (old : World) (who : ℕ) (x : Opener) (N : IsNumber old who x) (B : IsBare x) where
  by_records : (kind : Kind) (new : World) → HoldsRecords old who x (Some (kind, 1)) new → AreFree old who kind → IsClaimed old who x (Wants.Records kind) new.openers new.table
  by_records kind new H F =
      let list = as_list old new H.rest in
      record {
        opener = with_records x (Some (kind, 1));
        number = subst (λ z. IsNumber z who (with_records x (Some (kind, 1)))) list (named_after H N);
        bare = bare_after (Some (kind, 1)) B;
        all = refl;
        one = record { same_length = H.put.same_length; others = H.put.others; table = H.others };
        free = F;
        stands = λ img size W. subst (λ z. Stands z img size) list (stands_with old who x N B (Some (kind, 1)) refl new H img (taken_apart old who x N B kind F) size W);
        bytes = λ img G. subst (λ z. BytesStand z img) list (bytes_with old who x N B (Some (kind, 1)) refl new H img G);
      }

  by_none : (wants : Wants) → LeavesFree old.table (law_opener who) wants → all_claimed wants x.held.all ≡ x.held.all → IsClaimed old who x wants old.openers old.table
  by_none wants free same = record {
    opener = x;
    number = N;
    bare = B;
    all = sym same;
    one = record { same_length = refl; others = λ o ne. refl; table = λ o b ne. refl };
    free = free;
    stands = λ img size W. W;
    bytes = λ img G. G;
  }

  kept_so : (wants : Wants) (new : World) → new ≡ old → IsClaimed old who x wants old.openers old.table → IsClaimed old who x wants new.openers new.table
  kept_so wants new same C = subst (λ z. IsClaimed old who x wants z.openers z.table) (sym same) C

  pub claimed : (wants : Wants) (new : World) → Claimed old who x wants new → IsClaimed old who x wants new.openers new.table
  claimed (Wants.Records kind) new C = by_records kind new C.0 C.1
  claimed Wants.Nothing new C = kept_so Wants.Nothing new C (by_none Wants.Nothing tt refl)
  claimed Wants.Transaction new C = kept_so Wants.Transaction new C (by_none Wants.Transaction tt refl)
  claimed (Wants.Opening numbered) new C = kept_so (Wants.Opening numbered) new C (by_none (Wants.Opening numbered) tt refl)

pub claimed_list : (old : World) (who : ℕ) (x : Opener) (wants : Wants) (new : World) → Claimed old who x wants new → new ≡ with_list old new.openers new.table
claimed_list old who x (Wants.Records kind) new C = as_list old new C.0.rest
claimed_list old who x Wants.Nothing new C = C ∙ sym (ap (λ (z : World). with_list old z.openers z.table) C)
claimed_list old who x Wants.Transaction new C = C ∙ sym (ap (λ (z : World). with_list old z.openers z.table) C)
claimed_list old who x (Wants.Opening numbered) new C = C ∙ sym (ap (λ (z : World). with_list old z.openers z.table) C)
