-- A value is stored where there is room for a new record, so that no other refusal comes than that of the disk.
use Rattle.std.proofs.Common.{◌≡◌, ◌≢◌, ℕ, List, [], Some, true, refl, sym, ◌∙◌, subst}
use Rattle.std.proofs.lemmas.Bool.{false≢true}
use Rattle.tdb_space.specs.Form.{Form}
use Rattle.tdb_space.specs.Pairs.{home}
use Rattle.tdb_space.proofs.Stays.Changes.{changes_none}
use Rattle.tdb_chain.specs.Changed.{KeySet}
use Rattle.tdb_edit.specs.declared.refusal.StoreRefusal.{StoreRefusal}
use Rattle.tdb_edit.specs.declared.refusal.StoreRefusal.TheVariants.{Full, Io, Memory}
use Rattle.tdb_edit.specs.Edited.{KeyChanged, OnlyKeyChanges}
use Rattle.tdb_edit.specs.Stored.{has_room, FoundNoRoom, FullRightly}

-- the record was changed where it stands
pub updated : (f : Form) (a b key value : List ℕ) (offs : List ℕ) → KeySet f a b key (Some value) offs [] [] [] → KeyChanged f a b key (Some value)
updated f a b key value offs set = record { accepted = set.changed.accepted; map = set.map; only = set.changed.only }

-- where there is room, none is told to be wanting
pub never_full : (f : Form) (a : List ℕ) (n limit : ℕ) (e : StoreRefusal) → has_room f a n limit ≡ true → FoundNoRoom f a n limit e → FullRightly f a n limit e
never_full f a n limit (Full len need) room none = absurd (false≢true (sym none ∙ room))
never_full f a n limit Io room none = tt
never_full f a n limit Memory room none = tt

pub only_io : {P : Type 0} → (f : Form) (a : List ℕ) (n limit : ℕ) (e : StoreRefusal) → has_room f a n limit ≡ true → FoundNoRoom f a n limit e → e ≢ Io → P
only_io f a n limit (Full len need) room none other = absurd (false≢true (sym none ∙ room))
only_io f a n limit Io room none other = absurd (other refl)
only_io f a n limit Memory room none other = absurd none

-- nothing was written
pub still_only : (f : Form) (a b key : List ℕ) → b ≡ a → OnlyKeyChanges f a b key
still_only f a b key same = subst (λ img. OnlyKeyChanges f a img key) (sym same) (changes_none f a (λ k. k ≡ home f key))
