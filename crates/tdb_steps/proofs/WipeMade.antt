-- What a turn of a wipe makes of an image.
use Rattle.std.proofs.Common.{◌≡◌, ℕ, Bool, true, false, List, [], ◌++◌, refl, sym, subst, arith}
use Rattle.tdb_space.specs.Form.{Form}
use Rattle.tdb_space.specs.Extents.{HandPair}
use Rattle.tdb_space.specs.Accepted.{AcceptWith}
use Rattle.tdb_space.specs.Stays.{FrontStays}
use Rattle.tdb_space.proofs.Stays.Changes.{changes_none}
use Rattle.tdb_steps.specs.Wiped.{Wiped, FrontSame}
use Rattle.tdb_steps.specs.Stages.{hands_after, HoldsChain, is_changed, is_changed_after}
use Rattle.tdb_steps.specs.Turns.{MapWiped, WipeMade}
use Rattle.tdb_steps.proofs.Made.{number_same}
use Rattle.tdb_steps.specs.declared.stage.Stage.{Stage}
use Rattle.tdb_steps.specs.declared.stage.WipeStage.TheVariants as Wipes
use Rattle.tdb_steps.specs.declared.stage.Next.{Next}

front_stays : (f : Form) (a b : List ℕ) → FrontSame f a b → FrontStays f a b
front_stays f a b S = record { longer = let e = S.size in omega (arith, e); low = λ i below apart. S.header i below; undo_area = S.undo_area }

-- the turn that wipes
pub wiped_made : (f : Form) (a b : List ℕ) (others : List HandPair) → others ≡ [] → Wiped f a b → WipeMade f a b (Stage.Wiping Wipes.FreeList) (Next.Step Stage.Ending) others
wiped_made f a b others none W = record {
  accepted = subst (λ hands. AcceptWith f b hands) (sym none) W.accepted;
  only = record { front = front_stays f a b W.stays; chains = λ k below never. absurd (never tt) };
  map = W.no_pair;
  number = number_same f a b W.stays.header;
}

map_kept : (f : Form) (a : List ℕ) (old : Stage) (next : Next) → is_changed_after next ≡ is_changed old → MapWiped (is_changed old) (is_changed_after next) f a a
map_kept f a old next same = kept (is_changed old) (is_changed_after next) same
  where
    kept : (x y : Bool) → y ≡ x → MapWiped x y f a a
    kept true true e = λ key. refl
    kept true false e = λ key. refl
    kept false true e = cc
    kept false false e = λ key. refl

-- a turn that leaves the image
pub wipe_waits : (f : Form) (a : List ℕ) (old : Stage) (next : Next) (others : List HandPair) → AcceptWith f a (hands_after next ++ others) → is_changed_after next ≡ is_changed old → WipeMade f a a old next others
wipe_waits f a old next others A same = record { accepted = A; only = changes_none f a (λ k. HoldsChain old); map = map_kept f a old next same; number = refl }
