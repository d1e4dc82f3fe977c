-- Which pairs of a walk are stored, one after another.
use Rattle.std.proofs.Common.{◌≡◌, ℕ, Bool, true, false, List, [], ◌∷◌, ◌++◌, Result, Ok, Err, refl, sym, ◌∙◌, ap, subst}
use Rattle.std.specs.Prelude.{MatchBool, nat_eq}
use Rattle.std.specs.FinMap.{insert}
use Rattle.std.specs.List.{starts_with}
use Rattle.std.proofs.lemmas.Bool.{MatchBool-at_false, MatchBool-at_true}
use Rattle.std.proofs.lemmas.List.Elements.{filter-append}
use Rattle.tdb_space.specs.Accepted.{AcceptWith}
use Rattle.tdb_space.specs.Extents.{HandPair}
use Rattle.tdb_space.specs.Form.{Form}
use Rattle.tdb_space.specs.Pairs.{order_of}
use Rattle.tdb_law.specs.Openers.{Map}
use Rattle.tdb_backup.specs.Traversal.{Gave, pair_at_hand}
use Rattle.tdb_backup.specs.declared.traversal.Traversal.{Traversal}
use Rattle.tdb_commands.specs.InLaw.{law_command}
use Rattle.tdb_commands.specs.declared.command.Command.{Command}
use Rattle.tdb_commands.specs.declared.command.Command.TheVariants.{Store}
use Rattle.tdb_steps.specs.declared.flag.Flag.TheVariants.{Replace}
use Rattle.tdb_rewrite.specs.Rewritten.{chosen}
use Rattle.tdb_world.specs.OverFile.{OverFile}
use Rattle.tdb_merge.specs.Parts.{Does, Inside, Led, Phase, Ran, stored}
use Rattle.tdb_merge.specs.declared.fault.MergeFault.{MergeFault}
use Rattle.tdb_merge.proofs.Commands.{store_does}
use Rattle.tdb_merge.proofs.Parts.{led_broke, led_join, led_none}
use Rattle.tdb_merge.proofs.Stored.{stored_join}

-- what holds of one view holds of another that has the same form and the same bytes
moved : (P : Form → List ℕ → Type 0) (f k : Form) (a b : List ℕ) → k ≡ f → b ≡ a → P k b → P f a
moved P f k a b form image there = subst (P f) image (subst (λ x. P x b) form there)

-- a pair is chosen where its key begins with the prefix
module _ (prefix key : List ℕ) (p : List ℕ × List ℕ) (begins : Bool) (is : begins ≡ starts_with nat_eq key prefix) (same : key ≡ p.0) where
  tested : starts_with nat_eq p.0 prefix ≡ begins
  tested = ap (λ k. starts_with nat_eq k prefix) (sym same) ∙ sym is

  pub none_chosen : begins ≡ false → chosen prefix (p ∷ []) ≡ []
  none_chosen isnt = rw (tested ∙ isnt) refl

  pub one_chosen : begins ≡ true → chosen prefix (p ∷ []) ≡ p ∷ []
  one_chosen so = rw (tested ∙ so) refl

-- so the pair at hand isn't stored, or it is
module _ (t : Bool) (m n b : Map) (prefix : List ℕ) (p : List ℕ × List ℕ) where
  pub led_passed : (w : OverFile) → chosen prefix (p ∷ []) ≡ [] → Led t m n (Inside b) m (Inside (stored b (chosen prefix (p ∷ [])))) w w (Ok tt)
  led_passed w none = subst (λ ps. Led t m n (Inside b) m (Inside (stored b ps)) w w (Ok tt)) (sym none) (led_none t m n (Inside b) w)

  pub led_stored : (w v : OverFile) (answer : Result (Unit {0}) MergeFault) (command : Command) → chosen prefix (p ∷ []) ≡ p ∷ [] → command ≡ Store p.0 p.1 Replace
      → (Does m n (Inside b) m (Inside (insert b p.0 p.1)) (law_command command) → Led t m n (Inside b) m (Inside (insert b p.0 p.1)) w v answer)
      → Led t m n (Inside b) m (Inside (stored b (chosen prefix (p ∷ [])))) w v answer
  led_stored w v answer command one is led =
      subst (λ ps. Led t m n (Inside b) m (Inside (stored b ps)) w v answer) (sym one)
      (led (subst (λ c. Does m n (Inside b) m (Inside (insert b p.0 p.1)) (law_command c)) (sym is) (store_does m n b p.0 p.1)))

-- the chosen ones of some pairs and of one more
chosen_more : (prefix : List ℕ) (given : List (List ℕ × List ℕ)) (p : List ℕ × List ℕ) (m : Map) → stored (stored m (chosen prefix given)) (chosen prefix (p ∷ [])) ≡ stored m (chosen prefix (given ++ p ∷ []))
chosen_more prefix given p m =
    sym (stored_join m (chosen prefix given) (chosen prefix (p ∷ []))) ∙ ap (stored m) (sym (filter-append (λ q. starts_with nat_eq q.0 prefix) given (p ∷ [])))

-- The chosen ones of the pairs that a walk has given are stored between two moments.
pub record SoFar (t : Bool) (f : Form) (img prefix : List ℕ) (walk : Traversal) (a b : OverFile) : Type 0 where
  pub given : List (List ℕ × List ℕ)
  pub gave : Gave f img given walk
  pub led : (m n : Map) → Led t m n (Inside m) m (Inside (stored m (chosen prefix given))) a b (Ok tt)

pub so_far_none : (t : Bool) (f : Form) (img prefix : List ℕ) (walk : Traversal) (a : OverFile) → Gave f img [] walk → SoFar t f img prefix walk a a
so_far_none t f img prefix walk a gave = record { given = []; gave = gave; led = λ m n. led_none t m n (Inside m) a }

-- the walk goes on over a view that is as it was
module _ (t : Bool) (f k : Form) (img v prefix : List ℕ) (hands : List HandPair) (walk next : Traversal) (more : Bool) (a b : OverFile) (form : k ≡ f) (image : v ≡ img) (A : AcceptWith f img hands) (H : SoFar t f img prefix walk a b)
    (answer : (hands : List HandPair) → AcceptWith k v hands → (given : List (List ℕ × List ℕ)) → Gave k v given walk
    → MatchBool more (Gave k v (given ++ pair_at_hand next ∷ []) next) (Gave k v given next × (order_of k v ≡ given))) where
  told : MatchBool more (Gave k v (H.given ++ pair_at_hand next ∷ []) next) (Gave k v H.given next × (order_of k v ≡ H.given))
  told = answer hands (moved (λ x i. AcceptWith x i hands) k f v img (sym form) (sym image) A) H.given (moved (λ x i. Gave x i H.given walk) k f v img (sym form) (sym image) H.gave)

  -- to one more pair, which is stored
  module _ (another : more ≡ true) (c : OverFile) (ran : Ran a b (Ok tt)) where
    with_pair : (answer : Result (Unit {0}) MergeFault) (m n : Map)
        → Led t m n (Inside (stored m (chosen prefix H.given))) m (Inside (stored (stored m (chosen prefix H.given)) (chosen prefix (pair_at_hand next ∷ [])))) b c answer
        → Led t m n (Inside m) m (Inside (stored m (chosen prefix (H.given ++ pair_at_hand next ∷ [])))) a c answer
    with_pair answer m n stores =
        subst (λ z. Led t m n (Inside m) m (Inside z) a c answer) (chosen_more prefix H.given (pair_at_hand next) m)
        (led_join t m n (Inside m) (Inside (stored m (chosen prefix H.given))) (Inside (stored (stored m (chosen prefix H.given)) (chosen prefix (pair_at_hand next ∷ [])))) m a b c answer ran (H.led m n) stores)

    pub so_far_more : ((m n b2 : Map) → Led t m n (Inside b2) m (Inside (stored b2 (chosen prefix (pair_at_hand next ∷ [])))) b c (Ok tt)) → SoFar t f img prefix next a c
    so_far_more stores = record {
      given = H.given ++ pair_at_hand next ∷ [];
      gave = moved (λ x i. Gave x i (H.given ++ pair_at_hand next ∷ []) next) f k img v form image
          (MatchBool-at_true (Gave k v (H.given ++ pair_at_hand next ∷ []) next) (Gave k v H.given next × (order_of k v ≡ H.given)) another told);
      led = λ m n. with_pair (Ok tt) m n (stores m n (stored m (chosen prefix H.given)));
    }

    -- or which is refused
    pub so_far_broke : (e : MergeFault) (m n : Map) (last : Phase) → ((m n b2 : Map) → Led t m n (Inside b2) m (Inside (stored b2 (chosen prefix (pair_at_hand next ∷ [])))) b c (Err e)) → Led t m n (Inside m) m last a c (Err e)
    so_far_broke e m n last stores =
        led_broke t m n (Inside m) (Inside (stored m (chosen prefix (H.given ++ pair_at_hand next ∷ [])))) last m m a c e (with_pair (Err e) m n (stores m n (stored m (chosen prefix H.given))))

  -- to its end
  pub so_far_all : more ≡ false → (m n : Map) → Led t m n (Inside m) m (Inside (stored m (chosen prefix (order_of f img)))) a b (Ok tt)
  so_far_all ended m n =
      let all = MatchBool-at_false (Gave k v (H.given ++ pair_at_hand next ∷ []) next) (Gave k v H.given next × (order_of k v ≡ H.given)) ended told in
      let order : order_of f img ≡ H.given = moved (λ x i. order_of x i ≡ H.given) f k img v form image all.1 in
      subst (λ ps. Led t m n (Inside m) m (Inside (stored m (chosen prefix ps))) a b (Ok tt)) (sym order) (H.led m n)
