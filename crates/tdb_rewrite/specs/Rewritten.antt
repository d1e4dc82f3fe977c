-- What a file is that was written anew from pairs, and why it isn't written to the end.
use Rattle.std.specs.Prelude.{◌≡◌, ℕ, ◌==◌, ◌<◌, None, List, [], ◌∷◌, ◌++◌, length, filter, nat_eq}
use Rattle.std.specs.List.{starts_with}
use Rattle.std.specs.Map.{lookup}
use Rattle.tdb_words.specs.declared.record.TheConstants.{USED}
use Rattle.tdb_words.specs.Header.{area_head}
use Rattle.tdb_words.specs.Word.{word}
use Rattle.tdb_space.specs.Accepted.{AcceptWith}
use Rattle.tdb_space.specs.Chain.{chain_of}
use Rattle.tdb_space.specs.Form.{Form, data_start}
use Rattle.tdb_space.specs.NewRecord.{rec_len_for}
use Rattle.tdb_space.specs.Pairs.{pairs, map_of, same_key, home}
use Rattle.tdb_space.specs.Record.{Whole, Fits, magic_of}
use Rattle.tdb_backup.specs.Filling.{AllUsed, HoldsEach, HasNoRoom}
use Rattle.tdb_backup.specs.declared.refusal.CopyRefusal.{CopyRefusal}
use Rattle.tdb_backup.specs.declared.refusal.CopyRefusal.TheVariants.{Read, Write, Full, Memory}
use Rattle.tdb_rewrite.specs.Places.{HasHeader}
use Rattle.tdb_rewrite.specs.declared.walk.Listed.{Listed}

-- of these pairs those whose key begins with a prefix, in their order
abbrev pub chosen : List ℕ → List (List ℕ × List ℕ) → List (List ℕ × List ℕ)
chosen prefix given = filter (λ p. starts_with nat_eq p.0 prefix) given

-- of these pairs those whose key is filed in chain j, in their order
abbrev pub of_chain : Form → ℕ → List (List ℕ × List ℕ) → List (List ℕ × List ℕ)
of_chain f j given = filter (λ p. home f p.0 == j) given

-- the image is accepted, ends where its data start, and has no undo area: so it holds no pair
pub record IsBare (f : Form) (img : List ℕ) : Type 0 where
  pub accepted : AcceptWith f img []
  pub ends : length img ≡ data_start f
  pub no_area : word f.order img area_head ≡ 0

-- The image is accepted, and its map is that of these pairs. Each chain has just its own of them, in their order. No
-- record is dead, there is no undo area, and each byte from the data start on belongs to a record.
pub record Rewritten (f : Form) (img : List ℕ) (given : List (List ℕ × List ℕ)) : Type 0 where
  pub accepted : AcceptWith f img []
  pub map : (k : List ℕ) → map_of f img k ≡ lookup (same_key k) given
  pub chains : (j : ℕ) → j < f.chains → pairs f.order img (chain_of f img j) ≡ of_chain f j given
  pub all_used : (j : ℕ) → j < f.chains → AllUsed f.order img (chain_of f img j)
  pub no_area : word f.order img area_head ≡ 0
  pub each : HoldsEach f img []

-- the record at an offset stands whole, and has room for what it holds where it is used
abbrev pub StandsUsed : Form → List ℕ → ℕ → Type 0
StandsUsed f img at = Whole f img at × (magic_of f.order img at ≡ USED → Fits f.order img at)

-- a record that a walk gave stands whole, has room for what it holds where it is used, and has the image's header
abbrev pub StandsRead : Form → List ℕ → Listed → Type 0
StandsRead f img x = HasHeader f img x × StandsUsed f img x.off

-- the keys of these pairs aren't among those of others
abbrev pub AreNew : List (List ℕ × List ℕ) → List (List ℕ × List ℕ) → Type 0
AreNew [] done = Unit {0}
AreNew (p ∷ ps) done = (lookup (same_key p.0) done ≡ None) × AreNew ps done

-- the image holds the last of these pairs
abbrev pub HoldsEnd : Form → List ℕ → List (List ℕ × List ℕ) → Type 0
HoldsEnd f img given = (ahead : List (List ℕ × List ℕ)) × (done : List (List ℕ × List ℕ)) × (given ≡ ahead ++ done) × Rewritten f img done

-- the image holds the last of these pairs, and has no room for the one before them within a limit
pub record FullBefore (f : Form) (img : List ℕ) (given : List (List ℕ × List ℕ)) (limit len need : ℕ) : Type 0 where
  pub ahead : List (List ℕ × List ℕ)
  pub next : List ℕ × List ℕ
  pub done : List (List ℕ × List ℕ)
  pub split : given ≡ ahead ++ next ∷ done
  pub holds : Rewritten f img done
  pub no_room : HasNoRoom f img img (rec_len_for (length next.0) (length next.1)) limit len need

-- why not all of these pairs are added, where the image is this one then
abbrev pub RewriteCause : Form → List ℕ → List (List ℕ × List ℕ) → ℕ → CopyRefusal → Type 0
RewriteCause f img given limit Read = HoldsEnd f img given
RewriteCause f img given limit Write = Unit {0}
RewriteCause f img given limit (Full len need) = FullBefore f img given limit len need
RewriteCause f img given limit Memory = HoldsEnd f img given
