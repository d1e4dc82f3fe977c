-- The pair of a record whose header was read.
use Rattle.std.proofs.Common.{◌≡◌, ◌≢◌, ℕ, ◌+◌, ◌<◌, ◌≤◌, ◌⊎◌, List, [], ◌∷◌, length, sym, ◌∙◌, ap, subst, inl, inr, arith}
use Rattle.tdb_words.specs.declared.record.TheConstants.{USED}
use Rattle.tdb_words.specs.declared.record.Rec.{Rec}
use Rattle.tdb_words.specs.Record.{rec_at}
use Rattle.tdb_space.specs.Form.{Form}
use Rattle.tdb_space.specs.Record.{magic_of}
use Rattle.tdb_space.specs.Pairs.{pair_of}
use Rattle.tdb_backup.specs.Held.{IsPairOf}
use Rattle.tdb_rewrite.specs.Rewritten.{StandsUsed}
use Rattle.tdb_rewrite.proofs.Adding.{pair_used, pair_other}

module _ (f : Form) (img : List ℕ) (off : ℕ) (rec : Rec) (read : rec ≡ rec_at f.order img off) (stands : StandsUsed f img off) where
  its_magic : rec.magic ≡ magic_of f.order img off
  its_magic = ap (λ (r : Rec). r.magic) read

  -- where it isn't used it has none
  pub unused_none : rec.magic ≢ USED → pair_of f.order img off ≡ []
  unused_none other = pair_other f.order img off (λ used. other (its_magic ∙ used))

  -- where it is, the pair lies within the image
  pub used_within : rec.magic ≡ USED → off + 24 + rec.key_len + rec.data_len ≤ length img
  used_within used =
      let fits = stands.1 (sym its_magic ∙ used) in
      omega (arith, stands.0.within, fits, ap (λ (r : Rec). r.key_len) read, ap (λ (r : Rec). r.data_len) read)

  -- so none is there where its header says another magic, or that it lies beyond the end
  pub no_pair : (len : ℕ) → len ≡ length img → (rec.magic ≢ USED) ⊎ ((rec.magic ≡ USED) × (len < off + 24 + rec.key_len + rec.data_len)) → pair_of f.order img off ≡ []
  no_pair len long (inl other) = unused_none other
  no_pair len long (inr beyond) = absurd (omega (arith, long, beyond.1, used_within beyond.0))

  -- and it is the one that was read
  pub used_pair : rec.magic ≡ USED → (p : List ℕ × List ℕ) → IsPairOf rec img off p → pair_of f.order img off ≡ p ∷ []
  used_pair used p is =
      let there : IsPairOf (rec_at f.order img off) img off p = subst (λ r. IsPairOf r img off p) read is in
      pair_used f.order img off (sym its_magic ∙ used) ∙ ap (λ q. q ∷ []) (sym there)
