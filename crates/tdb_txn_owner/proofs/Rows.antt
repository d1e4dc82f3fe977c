-- What an opener with a transaction holds before the first step of a command on it.
use Rattle.std.proofs.Common.{◌≡◌, ℕ, max, List, [], ◌∷◌, false, nat_lt, None, Some, refl, ap, ◌∙◌, arith}
use Rattle.std.specs.Prelude.{◌&&◌, if◌then◌else◌}
use Rattle.std.proofs.lemmas.Bool.Decides.{nat_tests}
use Rattle.tdb_space.specs.Form.{Form}
use Rattle.tdb_law.specs.Commands.{GroupCommand}
use Rattle.tdb_law.specs.Commands.Command.{OnGroup}
use Rattle.tdb_law.specs.Openers.{Own, Txn, nowhere}
use Rattle.tdb_law.specs.Rows.{Lock, locks}
use Rattle.tdb_law.specs.Held.{covers, held, holding, kept, locked}
use Rattle.tdb_txn_turns.specs.Prepares.{start_held}
use Rattle.tdb_txn_owner.specs.Ends.{task_of}

never_below : (n : ℕ) → nat_lt n 0 ≡ false
never_below n = grind (arith, nat_tests)

-- no turn was taken, and so no lock
pub locked_none : (ls : List Lock) (b : ℕ) → locked ls 0 b ≡ 0
locked_none [] b = refl
locked_none (l ∷ ls) b = ap (λ t. max (if t && covers l b then l.strength else 0) (locked ls 0 b)) (never_below l.turn) ∙ ap (max 0) (locked_none ls b) ∙ omega arith

took_none : (f : Form) (x : Own) (g : GroupCommand) (b : ℕ) → held f (OnGroup g) x nowhere 0 b ≡ 0
unfolding held
took_none f x g b = locked_none (locks f (OnGroup g) x false) b

-- it holds the locks of its Start
pub holds_at_first : (f : Form) (x : Own) (txn : Txn) (g : GroupCommand) (b : ℕ) → x.txn ≡ Some txn → txn.prepared ≡ None → holding f x nowhere (Some (task_of (OnGroup g) 0)) b ≡ start_held b
holds_at_first f x txn g b has free = ap (λ m. max m (kept f x nowhere b)) (took_none f x g b) ∙ rw (has, free) (omega arith)
