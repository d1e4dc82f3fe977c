-- What letting go of all records, and ending, leave of the openers.
use Rattle.std.proofs.Common.{◌≡◌, ℕ, ◌+◌, List, Bool, true, false, Some, None, refl, sym, ◌∙◌, ap, subst, arith}
use Rattle.std.specs.Prelude.{slice_get, not}
use Rattle.tdb_locks.specs.LockTable.{held}
use Rattle.tdb_locks.specs.declared.piece.Piece.{Piece}
use Rattle.tdb_commands.specs.InLaw.{law_opener}
use Rattle.tdb_steps.specs.Holdings.{strength}
use Rattle.tdb_openers.specs.Aside.{with_records, HoldsRecords, IsBare}
use Rattle.tdb_openers.specs.Died.{died, HasDied}
use Rattle.tdb_openers.specs.Worlds.{BytesStand, IsNumber, Stands, World}
use Rattle.tdb_openers.specs.declared.opener.Opener.{Opener}
use Rattle.tdb_openers.proofs.Joining.Closed.{bare_walk}
use Rattle.tdb_openers.proofs.Joining.Putting.{by_number}
use Rattle.tdb_world.specs.Claims.{IsReleased}
use Rattle.tdb_world.proofs.Claimed.{as_list, with_list}
use Rattle.tdb_world.proofs.OthersKept.{OneChanges}
use Rattle.tdb_world.proofs.Returning.{bare_own, nothing_of, IsBackIn}

module _ (old : World) (who : ℕ) (ys : List Opener) (qs : List Piece) (y : Opener) (N : IsNumber (with_list old ys qs) who y) (B : IsBare y) (one : OneChanges old.openers ys old.table qs (law_opener who))
    (kept : (img : List ℕ) → BytesStand old img → BytesStand (with_list old ys qs) img) (img : List ℕ) (size : ℕ) (W : Stands (with_list old ys qs) img size) (new : World)
    (bytes : (img : List ℕ) → BytesStand (with_list old ys qs) img → BytesStand new img) where
  abbrev v : World
  v = with_list old ys qs

  pub let_go : HoldsRecords v who y None new → IsBackIn old who true new.openers new.table
  let_go H = record {
    opener = with_records y None;
    there = H.put.there;
    idle = B.idle;
    own = λ options. bare_own options (with_records y None) (bare_walk v who y N B img size W) B.no_chains refl ∙ ap (nothing_of options) B.live;
    walk = bare_walk v who y N B img size W;
    nothing = H.holds;
    one = record { same_length = H.put.same_length ∙ one.same_length; others = λ o ne. H.put.others o ne ∙ one.others o ne; table = λ o b ne. H.others o b ne ∙ one.table o b ne };
    bytes = λ i G. subst (λ z. BytesStand z i) (as_list v new H.rest) (bytes i (kept i G));
  }

  pub ended : (mid : World) → HoldsRecords v who y None mid → HasDied mid who new → IsBackIn old who false new.openers new.table
  ended mid H D =
      let at : law_opener who ≡ D.place = by_number who D.place D.counted in
      record {
        opener = died;
        there = subst (λ i. slice_get new.openers i ≡ Some died) (sym at) D.put.there;
        idle = refl;
        own = λ options. refl;
        walk = refl;
        nothing = λ b. ap strength (subst (λ i. held new.table i b ≡ None) (let counted = D.counted in omega (arith, at, counted)) (D.lost b));
        one = record {
          same_length = D.put.same_length ∙ (H.put.same_length ∙ one.same_length);
          others = λ o ne. D.put.others o (λ is. ne (is ∙ sym at)) ∙ (H.put.others o ne ∙ one.others o ne);
          table = λ o b ne. ap strength (D.others (o + 1) b (λ is. ne (let counted = D.counted in omega (arith, is)))) ∙ (H.others o b ne ∙ one.table o b ne);
        };
        bytes = λ i G. subst (λ z. BytesStand z i) (as_list mid new D.rest ∙ ap (λ z. with_list z new.openers new.table) (as_list v mid H.rest)) (bytes i (kept i G));
      }

  pub released : (closes : Bool) → IsReleased v who y closes new → IsBackIn old who (not closes) new.openers new.table
  released true R = ended R.0 R.1 R.2
  released false R = let_go R

  pub released_list : (closes : Bool) → IsReleased v who y closes new → new ≡ with_list old new.openers new.table
  released_list true R = as_list R.0 new R.2.rest ∙ ap (λ z. with_list z new.openers new.table) (as_list v R.0 R.1.rest)
  released_list false R = as_list v new R.rest
