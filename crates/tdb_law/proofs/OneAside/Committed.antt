-- Walks over a file into which a commit puts another image lose only what that image lacks.
use Rattle.std.proofs.Common.{◌≡◌, ℕ, ◌+◌, List, [], ◌∷◌, Bool, true, false, cond, nat_le, not, Option, Some, None, is_some, refl, sym, ◌∙◌, ap, inl, inr, arith}
use Rattle.std.specs.Prelude.{◌&&◌, ◌||◌}
use Rattle.std.specs.Map.{lookup}
use Rattle.std.proofs.lemmas.Bool.{cases_Bool, cases_eq, eq-eqb, ne_eqb, leb-true, le-leb}
use Rattle.tdb_words.specs.declared.record.TheConstants.{USED}
use Rattle.tdb_space.specs.Form.{Form}
use Rattle.tdb_space.specs.Record.{key_at, data_at, magic_of}
use Rattle.tdb_space.specs.Chain.{chain_of}
use Rattle.tdb_space.specs.Pairs.{home, pairs, same_key}
use Rattle.tdb_space.specs.Extents.{HandPair}
use Rattle.tdb_space.specs.Accepted.{AcceptWith}
use Rattle.tdb_space.proofs.Pairs.Maps.{map_home}
use Rattle.tdb_law.specs.Commands.GroupCommand.{Commit}
use Rattle.tdb_law.specs.Commands.Command.{OnGroup}
use Rattle.tdb_law.specs.Commands.Turn.{Step}
use Rattle.tdb_law.specs.Openers.{Own, Txn, Mark, is_key, has}
use Rattle.tdb_law.specs.Refusals.{Refusal, refusal}
use Rattle.tdb_law.specs.Rows.{commits_in, gate_shut, commit_changed, changed_by, is_changed}
use Rattle.tdb_law.specs.Counting.{commit_writes, commit_takes, takes_by, takes}
use Rattle.tdb_law.specs.Images.{image_map}
use Rattle.tdb_law.specs.Layout.{cells, chains_in, live_in, mark_of}
use Rattle.tdb_law.specs.Walks.{Lost, Shift}
use Rattle.tdb_law.specs.Walks.Lost.{lost_by_taking}
use Rattle.tdb_law.proofs.HandsOut.{same_test, image_answers}
use Rattle.tdb_law.proofs.Marking.{all_shift}
use Rattle.tdb_law.proofs.Tests.{and_both, from_not}
use Rattle.tdb_law.specs.OneAside.Laws.{CommitShifts, GateShifts}

-- a key is live in the cells of these records exactly where a look-up in their pairs finds it
live_found : (f : Form) (img k : List ℕ) (xs : List ℕ) → live_in (cells f img xs) k ≡ is_some (lookup (same_key k) (pairs f.order img xs))
live_found f img k [] = refl
live_found f img k (x ∷ xs) = elim (cases_eq (magic_of f.order img x) USED) [
  | inl used ↦ rw (eq-eqb (magic_of f.order img x) USED used) (by_key (is_key (key_at f.order img x) k) (same_key k (key_at f.order img x)) (same_test k (key_at f.order img x)) (live_found f img k xs))
  | inr other ↦ rw (ne_eqb (magic_of f.order img x) USED other) (live_found f img k xs)
]
  where
    by_key : (u v : Bool) → u ≡ v → live_in (cells f img xs) k ≡ is_some (lookup (same_key k) (pairs f.order img xs)) → u || live_in (cells f img xs) k ≡ is_some (cond v (Some (data_at f.order img x)) (lookup (same_key k) (pairs f.order img xs)))
    by_key true v e rest = rw (sym e) refl
    by_key false v e rest = rw (sym e) rest

-- so it is in its own chain exactly where the map of the image has it
pub live_mapped : (f : Form) (img k : List ℕ) (hands : List HandPair) → AcceptWith f img hands → live_in (chains_in f img (home f k)) k ≡ has (image_map f img) k
live_mapped f img k hands I = live_found f img k (chain_of f img (home f k)) ∙ ap is_some (sym (image_answers f img k ∙ map_home f img k (record { some = I.some; chains = I.chains; filed = I.filed })))

-- another word for what is lost
shift_lost : (f : Form) (lost gone : List ℕ → Type 0) (m later : Mark) → ((k : List ℕ) → lost k → gone k) → Shift f lost m later → Shift f gone m later
shift_lost f lost gone m later to S = record { inside = S.inside; reached = S.reached; fewer = S.fewer; kept = λ k e. (elim (S.kept k e) [ inl ahead ↦ inl ahead | inr none ↦ inr (to k none) ]) }

pub image_shifts : CommitShifts
image_shifts f a b hands place B off =
    shift_lost f (λ k. not (has (image_map f b) k) ≡ true) (λ k. has (image_map f b) k ≡ false) (mark_of f (chains_in f a) place) (mark_of f (chains_in f b) place) (λ k lacks. from_not (has (image_map f b) k) lacks)
    (all_shift f (λ k. not (has (image_map f b) k)) (chains_in f a) (chains_in f b) place off
    (λ k there. elim (cases_Bool (has (image_map f b) k)) [ inl stays ↦ inl (live_mapped f b k hands B ∙ stays) | inr lacks ↦ inr (ap not lacks) ]))

-- a commit that has shut its gate has begun to write its image before
shut_writes : (prepared : Option ℕ) (n : ℕ) → gate_shut prepared n ≡ true → commit_writes prepared n ≡ true
shut_writes None n e = le-leb 6 n (omega (arith, leb-true 8 n e))
shut_writes (Some steps) n e = le-leb 1 n (omega (arith, leb-true 3 n (and_both (nat_le 4 steps) (nat_le 3 n) e).1))

module _ (x : Own) (txn : Txn) (its : x.txn ≡ Some txn) (n : ℕ) (k : List ℕ) (lacks : has txn.image k ≡ false) where
  commit_takes_out : commit_changed x.txn n ≡ true → commit_takes x.txn n k ≡ true
  commit_takes_out e =
      let parts = and_both (commits_in txn) (gate_shut txn.prepared n) (sym (ap (λ o. commit_changed o n) its) ∙ e) in
      ap (λ o. commit_takes o n k) its ∙ ap (λ z. z && not (has txn.image k)) (shut_writes txn.prepared n parts.1) ∙ ap not lacks

  takes_out : (q : Option Refusal) → changed_by q (OnGroup Commit) x n ≡ true → takes_by q (OnGroup Commit) x n k ≡ true
  takes_out None e = commit_takes_out e
  takes_out (Some q) e = e

  pub commit_taken : (f : Form) → is_changed f (OnGroup Commit) x n ≡ true → takes f (OnGroup Commit) x n k ≡ true
  unfolding is_changed takes
  commit_taken f e = takes_out (refusal f (OnGroup Commit) x) e

pub gate_shifts : GateShifts
gate_shifts f x txn n a b hands place its image made B off =
    shift_lost f (λ k. has (image_map f b) k ≡ false) (Lost f (OnGroup Commit) n x Step false (mark_of f (chains_in f a) place)) (mark_of f (chains_in f a) place) (mark_of f (chains_in f b) place)
    (λ k lacks. lost_by_taking refl refl (commit_taken x txn its (n + 1) k (ap (λ m. has m k) image ∙ lacks) f made)) (image_shifts f a b hands place B off)
