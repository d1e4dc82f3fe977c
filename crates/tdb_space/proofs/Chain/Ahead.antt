-- A look-up that follows the chain of a key, record by record: what is still ahead of it holds the answer.
use Rattle.std.proofs.Common.{◌≡◌, ℕ, ◌+◌, ◌<◌, ◌≤◌, List, [], ◌∷◌, ◌++◌, length, Some, None, refl, sym, ◌∙◌, ap, subst, arith}
use Rattle.std.specs.Prelude.{◌/◌}
use Rattle.std.specs.Map.{lookup}
use Rattle.tdb_words.specs.declared.record.TheConstants.{USED}
use Rattle.tdb_words.specs.Word.{word}
use Rattle.tdb_words.specs.Hash.{h_of}
use Rattle.tdb_space.specs.Form.{Form, chain_head}
use Rattle.tdb_space.specs.Record.{IsChained, key_at, data_at, magic_of, full_hash_of}
use Rattle.tdb_space.specs.Chain.{Chain, IsLink, chain_of, Member}
use Rattle.tdb_space.specs.Pairs.{pairs, same_key, map_of, home}
use Rattle.tdb_space.specs.Accepted.{Filed, AllFiled, IsFiled}
use Rattle.tdb_space.proofs.Chain.Walks.{linked_short, member_first, member_other}
use Rattle.tdb_space.proofs.Pairs.Maps.{lookup_passed, lookup_met, map_home, home_below}

-- from the key's chain some records were passed and the next is at this offset: the answer is the look-up in the rest
pub record Ahead (f : Form) (img k : List ℕ) (passed at : ℕ) : Type 0 where
  pub left : List ℕ
  pub chain : Chain f img at left
  pub filed : AllFiled f img (home f k) left
  pub same : map_of f img k ≡ lookup (same_key k) (pairs f.order img left)
  pub count : passed + length left ≤ length img / 4

-- at the head nothing was passed
pub ahead_start : (f : Form) (img k : List ℕ) → IsFiled f img → Ahead f img k 0 (word f.order img (chain_head (home f k)))
ahead_start f img k h =
    let low = home_below f k h.some in
    record {
      left = chain_of f img (home f k);
      chain = h.chains (home f k) low;
      filed = h.filed (home f k) low;
      same = map_home f img k h;
      count = omega (arith, linked_short f IsChained img (word f.order img (chain_head (home f k))) (chain_of f img (home f k)) (h.chains (home f k) low));
    }

-- what is ahead where the offset isn't 0: a record of the chain, filed if it is used; and fewer records were passed
-- than the image has words
pub record Next (f : Form) (img k : List ℕ) (passed at : ℕ) : Type 0 where
  pub link : IsLink f img at
  pub filed : magic_of f.order img at ≡ USED → Filed f img (home f k) at
  pub room : passed < length img / 4

pub ahead_record : (f : Form) (img k : List ℕ) (passed at : ℕ) → Ahead f img k passed at → (at ≡ 0 → ⊥) → Next f img k passed at
ahead_record f img k passed at h some = from_left h.left h.chain h.filed h.count
  where
    from_left : (left : List ℕ) → Chain f img at left → AllFiled f img (home f k) left → passed + length left ≤ length img / 4 → Next f img k passed at
    from_left [] p filed count = absurd (some p)
    from_left (x ∷ xs) p filed count = record {
      link = subst (IsLink f img) (sym p.0) (p.1, p.2);
      filed = subst (λ y. magic_of f.order img y ≡ USED → Filed f img (home f k) y) (sym p.0) filed.0;
      room = omega arith;
    }

-- a record that isn't used or has another key is passed
pub ahead_more : (f : Form) (img k : List ℕ) (passed at : ℕ) → Ahead f img k passed at → (at ≡ 0 → ⊥) → (magic_of f.order img at ≡ USED → key_at f.order img at ≡ k → ⊥) → Ahead f img k (passed + 1) (word f.order img at)
ahead_more f img k passed at h some lacks = from_left h.left h.chain h.filed h.same h.count
  where
    from_left : (left : List ℕ) → Chain f img at left → AllFiled f img (home f k) left → map_of f img k ≡ lookup (same_key k) (pairs f.order img left) → passed + length left ≤ length img / 4 → Ahead f img k (passed + 1) (word f.order img at)
    from_left [] p filed same count = absurd (some p)
    from_left (x ∷ xs) p filed same count = record {
      left = xs;
      chain = subst (λ y. Chain f img (word f.order img y) xs) (sym p.0) p.3;
      filed = filed.1;
      same = same ∙ lookup_passed f.order img k x xs (subst (λ y. magic_of f.order img y ≡ USED → key_at f.order img y ≡ k → ⊥) p.0 lacks);
      count = omega arith;
    }

-- a used record with the key holds the answer
pub ahead_found : (f : Form) (img k : List ℕ) (passed at : ℕ) → Ahead f img k passed at → (at ≡ 0 → ⊥) → magic_of f.order img at ≡ USED → key_at f.order img at ≡ k → map_of f img k ≡ Some (data_at f.order img at)
ahead_found f img k passed at h some used same_there = from_left h.left h.chain h.same
  where
    from_left : (left : List ℕ) → Chain f img at left → map_of f img k ≡ lookup (same_key k) (pairs f.order img left) → map_of f img k ≡ Some (data_at f.order img at)
    from_left [] p same = absurd (some p)
    from_left (x ∷ xs) p same =
        same ∙ lookup_met f.order img k x xs (subst (λ y. magic_of f.order img y ≡ USED) p.0 used) (subst (λ y. key_at f.order img y ≡ k) p.0 same_there) ∙ ap (λ y. Some (data_at f.order img y)) (sym p.0)

-- at the end of the chain the key isn't there
pub ahead_end : (f : Form) (img k : List ℕ) (passed at : ℕ) → Ahead f img k passed at → at ≡ 0 → map_of f img k ≡ None
ahead_end f img k passed at h zero_there = from_left h.left h.chain h.same
  where
    from_left : (left : List ℕ) → Chain f img at left → map_of f img k ≡ lookup (same_key k) (pairs f.order img left) → map_of f img k ≡ None
    from_left [] p same = same
    from_left (x ∷ xs) p same = absurd (omega (arith, zero_there, p.0, p.1.above))

-- a record that may hold a key holds it only where its hash is the key's
pub other_hash : (f : Form) (img k : List ℕ) (j at : ℕ) → (magic_of f.order img at ≡ USED → Filed f img j at) → (full_hash_of f.order img at ≡ h_of f.hash k → ⊥) → magic_of f.order img at ≡ USED → key_at f.order img at ≡ k → ⊥
other_hash f img k j at filed other used same = other ((filed used).hashed ∙ ap (h_of f.hash) same)

-- where the key's chain has no used record with the key, the map has nothing there
pub map_missing : (f : Form) (img k : List ℕ) → IsFiled f img → ((x : ℕ) → Member x (chain_of f img (home f k)) → magic_of f.order img x ≡ USED → key_at f.order img x ≡ k → ⊥) → map_of f img k ≡ None
map_missing f img k h lacks = map_home f img k h ∙ none_there (chain_of f img (home f k)) lacks
  where
    none_there : (xs : List ℕ) → ((x : ℕ) → Member x xs → magic_of f.order img x ≡ USED → key_at f.order img x ≡ k → ⊥) → lookup (same_key k) (pairs f.order img xs) ≡ None
    none_there [] lacks = refl
    none_there (x ∷ xs) lacks = lookup_passed f.order img k x xs (lacks x (member_first x xs)) ∙ none_there xs (λ y m. lacks y (member_other y x xs m))

-- where the key's chain leads over records without the key to a used record with it, the map has its value there
pub map_found : (f : Form) (img k before : List ℕ) (x : ℕ) (after : List ℕ) → IsFiled f img → chain_of f img (home f k) ≡ before ++ x ∷ after → ((y : ℕ) → Member y before → magic_of f.order img y ≡ USED → key_at f.order img y ≡ k → ⊥) → magic_of f.order img x ≡ USED → key_at f.order img x ≡ k → map_of f img k ≡ Some (data_at f.order img x)
map_found f img k before x after h e lacks used same =
    map_home f img k h ∙ ap (λ xs. lookup (same_key k) (pairs f.order img xs)) e ∙ reached before lacks
  where
    reached : (xs : List ℕ) → ((y : ℕ) → Member y xs → magic_of f.order img y ≡ USED → key_at f.order img y ≡ k → ⊥) → lookup (same_key k) (pairs f.order img (xs ++ x ∷ after)) ≡ Some (data_at f.order img x)
    reached [] lacks = lookup_met f.order img k x after used same
    reached (y ∷ ys) lacks = lookup_passed f.order img k y (ys ++ x ∷ after) (lacks y (member_first y ys)) ∙ reached ys (λ z m. lacks z (member_other z y ys m))
