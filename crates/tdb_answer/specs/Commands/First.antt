-- The commands that show the first pair of a file, and the one behind it.
use Rattle.std.specs.Prelude.{ℕ, Option, None, Some, List, [], ◌∷◌}
use Rattle.tdb_space.specs.Form.{form_of}
use Rattle.tdb_space.specs.Pairs.{order_of}
use Rattle.tdb_answer.specs.declared.ending.Reply.{Reply}
use Rattle.tdb_answer.specs.declared.ending.Reply.TheVariants.{Pair, End}

-- the first of these pairs, if there is one
abbrev pub first_pair_of : List (List ℕ × List ℕ) → Option (List ℕ × List ℕ)
first_pair_of [] = None
first_pair_of (pair ∷ pairs) = Some pair

-- that pair, or that there is none
abbrev pub pair_shown : Option (List ℕ × List ℕ) → Reply
pair_shown None = End
pair_shown (Some pair) = Pair pair.0 pair.1

-- what is replied over a file that is read as these bytes: the first pair in the order of its chains; and that there is
-- no pair behind it, since none was shown before
abbrev pub first_reply : List ℕ → Reply
first_reply img = pair_shown (first_pair_of (order_of (form_of img) img))

abbrev pub next_reply : List ℕ → Reply
next_reply img = End
