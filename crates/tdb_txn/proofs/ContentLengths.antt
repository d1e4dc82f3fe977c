-- How long the content of an undo area is, run by run.
use Rattle.std.proofs.Common.{◌≡◌, ◌∙◌, ℕ, ◌+◌, ◌<◌, List, [], ◌∷◌, ◌++◌, get_or, length, take, ap, arith}
use Rattle.std.proofs.lemmas.List.{take_more}
use Rattle.tdb_space.specs.Extents.{Extent}
use Rattle.tdb_space.specs.Planned.{content_length}

-- with a run at the end
pub content_end : (es : List Extent) (e : Extent) → content_length (es ++ e ∷ []) ≡ content_length es + (8 + e.1)
content_end [] e = omega arith
content_end (f ∷ fs) e = omega (arith, content_end fs e)

-- with one run more of a list
pub content_more : (es : List Extent) (k : ℕ) (e : Extent) → k < length es → get_or es k e ≡ e → content_length (take (k + 1) es) ≡ content_length (take k es) + (8 + e.1)
content_more es k e low is = ap content_length (take_more es k e low ∙ ap (λ (f : Extent). take k es ++ f ∷ []) is) ∙ content_end (take k es) e
