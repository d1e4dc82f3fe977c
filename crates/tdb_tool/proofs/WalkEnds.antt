-- A walk of one opener over the pairs of a file ends.
use Rattle.std.proofs.Common.{◌≡◌, ℕ, zero, suc, ◌+◌, ◌/◌, ◌≤◌, Bool, true, false, List, [], ◌∷◌, ◌++◌, length, Option, None, Some, refl, sym, ◌∙◌, ap, subst, arith}
use Rattle.std.specs.Prelude.{◌||◌, IsSome}
use Rattle.std.specs.FinMap.{get}
use Rattle.std.specs.List.{AllByRecursion, IsDistinct, list_any}
use Rattle.std.specs.Map.{lookup}
use Rattle.std.proofs.lemmas.Bool.{false≢true}
use Rattle.std.proofs.lemmas.Cmp.{nat_list_eq_equiv}
use Rattle.std.proofs.lemmas.Map.Keys.{IsDistinct-cons}
use Rattle.std.proofs.lemmas.Map.Steps.{length-le_from_keys}
use Rattle.tdb_space.proofs.Pairs.Maps.{same_key-eq, same_key-other}
use Rattle.tdb_space.specs.Accepted.{AcceptWith}
use Rattle.tdb_space.specs.Extents.{HandPair}
use Rattle.tdb_space.specs.Form.{Form}
use Rattle.tdb_space.specs.Pairs.{same_key, order_of}
use Rattle.tdb_law.proofs.HandsOut.{image_answers}
use Rattle.tdb_law.specs.Commands.{WalkCommand}
use Rattle.tdb_law.specs.Commands.Command.{OnWalk}
use Rattle.tdb_law.specs.Commands.WalkCommand.{First, Next}
use Rattle.tdb_law.specs.Images.{image_map}
use Rattle.tdb_law.specs.Lines.{Line}
use Rattle.tdb_law.specs.Outcomes.{moves}
use Rattle.tdb_law.specs.Plays.{Gives}
use Rattle.tdb_law.specs.Plays.Play.{Do}
use Rattle.tdb_law.specs.World.{State}
use Rattle.tdb_tool.proofs.Moves.{IsMove, Passed, sight, shows, Comes, play_comes, play_idle}
use Rattle.tdb_tool.proofs.FewPairs.{pairs_fit}

-- First, and then Next
abbrev pub move_at : ℕ → WalkCommand
move_at zero = First
move_at (suc n) = Next

is_move : (n : ℕ) → IsMove (move_at n)
is_move zero = tt
is_move (suc n) = tt

-- so many moves, each of which gave a pair, in the words of the law
abbrev pub Moved : Form → ℕ → ℕ → State → List Line → State → Type 0
Moved f who zero old lines new = (lines ≡ []) × (new ≡ old)
Moved f who (suc n) old lines new =
    (mid : State) × (front : List Line) × (rest : List Line) × (lines ≡ front ++ rest) × Moved f who n old front mid × Gives f mid (Do who (OnWalk (move_at n))) rest new × (list_any shows rest ≡ true)

module _ (f : Form) (who : ℕ) where
  -- The keys of the pairs: they differ, the opener saw each, and the walk has passed them.
  record Shown (n : ℕ) (old new : State) : Type 0 where
    keys : List (List ℕ)
    count : length keys ≡ n
    apart : IsDistinct same_key keys
    there : AllByRecursion (λ k. IsSome (get (sight f who old) k)) keys
    passed : AllByRecursion (Passed f who new) keys
    sees : sight f who new ≡ sight f who old

  new_key : (k : List ℕ) (ks : List (List ℕ)) (mid : State) → (Passed f who mid k → ⊥) → AllByRecursion (Passed f who mid) ks → AllByRecursion (λ q. same_key k q ≡ false) ks
  new_key k [] mid fresh passed = tt
  new_key k (q ∷ ks) mid fresh passed = (same_key-other k q (λ e. fresh (subst (Passed f who mid) (sym e) passed.0)), new_key k ks mid fresh passed.1)

  all_kept : (ks : List (List ℕ)) (old new : State) → ((k : List ℕ) → Passed f who old k → Passed f who new k) → AllByRecursion (Passed f who old) ks → AllByRecursion (Passed f who new) ks
  all_kept [] old new keeps p = tt
  all_kept (k ∷ ks) old new keeps p = (keeps k p.0, all_kept ks old new keeps p.1)

  none_apart : IsDistinct same_key []
  unfolding IsDistinct
  none_apart = tt

  is_some : (o : Option (List ℕ)) (v : List ℕ) → o ≡ Some v → IsSome o
  is_some o v e = subst IsSome (sym e) refl

  shown_more : (n : ℕ) (old mid new : State) → Shown n old mid → Comes f who (move_at n) (is_move n) mid new → Shown (suc n) old new
  shown_more zero old mid new s c = record {
    keys = c.key ∷ [];
    count = refl;
    apart = IsDistinct-cons same_key c.key [] tt none_apart;
    there = (is_some _ c.value (ap (λ m. get m c.key) (sym s.sees) ∙ c.there), tt);
    passed = (c.passed, tt);
    sees = c.sees ∙ s.sees;
  }
  shown_more (suc n) old mid new s c = record {
    keys = c.key ∷ s.keys;
    count = (let count = s.count in omega (arith, count));
    apart = IsDistinct-cons same_key c.key s.keys (new_key c.key s.keys mid (c.fresh refl) s.passed) s.apart;
    there = (is_some _ c.value (ap (λ m. get m c.key) (sym s.sees) ∙ c.there), s.there);
    passed = (c.passed, all_kept s.keys mid new (c.kept refl) s.passed);
    sees = c.sees ∙ s.sees;
  }

  moved_shown : (n : ℕ) (old new : State) (lines : List Line) → Moved f who n old lines new → Shown n old new
  moved_shown zero old new lines m = record { keys = []; count = refl; apart = none_apart; there = tt; passed = tt; sees = ap (sight f who) m.1 }
  moved_shown (suc n) old new lines (mid, front, rest, cut, before, last, pair) = shown_more n old mid new (moved_shown n old mid front before) (play_comes f who (move_at n) (is_move n) mid new rest last pair)

  -- before the first of them the opener had no command, and a First wasn't refused
  pub first_moves : (n : ℕ) (old new : State) (lines : List Line) → Moved f who (suc n) old lines new → (old.task who ≡ None) × (moves f (OnWalk First) (old.own who) ≡ true)
  first_moves zero old new lines (mid, front, rest, cut, before, last, pair) =
      subst (λ (s : State). (s.task who ≡ None) × (moves f (OnWalk First) (s.own who) ≡ true)) before.1
      (play_idle f who First tt mid new rest last pair, (play_comes f who First tt mid new rest last pair).moving)
  first_moves (suc n) old new lines (mid, front, rest, cut, before, last, pair) = first_moves n old mid front before

  -- no more moves give pairs than a file has room for
  pub moves_fit : (n : ℕ) (old new : State) (lines : List Line) (img : List ℕ) (hands : List HandPair) → AcceptWith f img hands → sight f who old ≡ image_map f img → Moved f who n old lines new → n ≤ length img / 28 + 1
  moves_fit n old new lines img hands A is m =
      let s = moved_shown n old new lines m in
      let few = length-le_from_keys nat_list_eq_equiv s.keys (order_of f img) s.apart (known s.keys (all_seen s.keys s.there)) in
      omega (arith, few, s.count, pairs_fit f img hands A)
    where
      all_seen : (ks : List (List ℕ)) → AllByRecursion (λ k. IsSome (get (sight f who old) k)) ks → AllByRecursion (λ k. IsSome (lookup (same_key k) (order_of f img))) ks
      all_seen [] t = tt
      all_seen (k ∷ ks) t = (subst IsSome (ap (λ m. get m k) is ∙ image_answers f img k) t.0, all_seen ks t.1)

      known : (ks : List (List ℕ)) → AllByRecursion (λ k. IsSome (lookup (same_key k) (order_of f img))) ks → (q : List ℕ) → list_any (same_key q) ks ≡ true → IsSome (lookup (same_key q) (order_of f img))
      known [] t q e = absurd (false≢true e)
      known (k ∷ ks) t q e = of (same_key q k) refl (known ks t.1 q)
        where
          of : (b : Bool) → same_key q k ≡ b → (list_any (same_key q) ks ≡ true → IsSome (lookup (same_key q) (order_of f img))) → IsSome (lookup (same_key q) (order_of f img))
          of true here rest = subst (λ z. IsSome (lookup (same_key z) (order_of f img))) (sym (same_key-eq q k here)) t.0
          of false not_here rest = rest (ap (λ b. b || list_any (same_key q) ks) (sym not_here) ∙ e)
