-- A walk along a list of records, step by step.
use Rattle.std.proofs.Common.{◌≡◌, ℕ, ◌-◌, ◌≤◌, List, [], ◌∷◌, length, Option, None, Some, refl, sym, ◌∙◌, ap, subst, arith}
use Rattle.std.specs.Prelude.{◌/◌}
use Rattle.tdb_words.specs.declared.record.Rec.{Rec}
use Rattle.tdb_words.specs.Record.{rec_at}
use Rattle.tdb_words.specs.Word.{word}
use Rattle.tdb_space.specs.Form.{Form}
use Rattle.tdb_space.specs.Record.{Whole}
use Rattle.tdb_space.specs.Chain.{Linked}
use Rattle.tdb_space.proofs.Chain.Walks.{linked_short}
use Rattle.tdb_rewrite.specs.Walk.{IsWholeList, Ahead, Gives}
use Rattle.tdb_rewrite.specs.declared.walk.Listed.{Listed}
use Rattle.tdb_rewrite.specs.declared.walk.ListWalk.{ListWalk}

-- what holds of a form and an image holds of those that are the same
pub moved : (P : Form → List ℕ → Type 0) (f k : Form) (a b : List ℕ) → k ≡ f → b ≡ a → P k b → P f a
moved P f k a b form image there = subst (P f) image (subst (λ x. P x b) form there)

-- a list of records of some kind is a list of records
pub whole_list : (f : Form) (M : ℕ → Type 0) (img : List ℕ) (at : ℕ) (offs : List ℕ) → Linked f M img at offs → IsWholeList f img at offs
whole_list f M img at [] l = l
whole_list f M img at (x ∷ xs) l = (l.0, l.1, tt, whole_list f M img (word f.order img x) xs l.3)

pub list_there : (f k : Form) (a b offs : List ℕ) (p q : ℕ) → k ≡ f → b ≡ a → q ≡ p → IsWholeList f a (word f.order a p) offs → IsWholeList k b (word k.order b q) offs
list_there f k a b offs p q form image same l =
    moved (λ x i. IsWholeList x i (word x.order i q) offs) k f b a (sym form) (sym image) (subst (λ y. IsWholeList f a (word f.order a y) offs) (sym same) l)

-- a step over a view that is as it was
pub step_there : (f k : Form) (a b offs : List ℕ) (walk next : ListWalk) (given : Option Listed) → k ≡ f → b ≡ a → (Ahead k b offs walk → Gives k b offs given next) → Ahead f a offs walk → Gives f a offs given next
step_there f k a b offs walk next given form image step h =
    moved (λ x i. Gives x i offs given next) f k a b form image (step (moved (λ x i. Ahead x i offs walk) k f b a (sym form) (sym image) h))

-- where no record is given none was ahead
pub none_given : (f : Form) (img offs : List ℕ) (next : ListWalk) (given : Option Listed) → ((x : Listed) → given ≡ Some x → ⊥) → Gives f img offs given next → offs ≡ []
none_given f img offs next None never g = g
none_given f img offs next (Some x) never g = absurd (never x refl)

-- at the head of a list all of it is ahead
pub ahead_first : (f : Form) (img offs : List ℕ) (at : ℕ) (walk : ListWalk) → IsWholeList f img at offs → walk.at ≡ at → walk.left ≡ length img / 4 → Ahead f img offs walk
ahead_first f img offs at walk l same left = record {
  linked = subst (λ x. IsWholeList f img x offs) (sym same) l;
  room = omega (arith, left, linked_short f (λ _. Unit {0}) img at offs l);
}

module _ (f : Form) (img offs : List ℕ) (walk : ListWalk) (h : Ahead f img offs walk) where
  -- where no record may be read none is ahead
  pub none_left : walk.left ≡ 0 → offs ≡ []
  none_left zero = from offs h.room
    where
      from : (xs : List ℕ) → length xs ≤ walk.left → xs ≡ []
      from [] room = refl
      from (x ∷ xs) room = absurd (omega (arith, room, zero))

  -- nor where no record stands whole
  pub none_there : (Whole f img walk.at → ⊥) → offs ≡ []
  none_there never = from offs h.linked
    where
      from : (xs : List ℕ) → IsWholeList f img walk.at xs → xs ≡ []
      from [] linked = refl
      from (x ∷ xs) linked = absurd (never (subst (Whole f img) (sym linked.0) linked.1))

  -- the record at hand is the first one ahead, and the walk goes on with the others
  pub found_next : (rec : Rec) (next : ListWalk) → (walk.at ≡ 0 → ⊥) → rec ≡ rec_at f.order img walk.at → next.at ≡ rec.next → next.left ≡ walk.left - 1
      → Gives f img offs (Some (record { off = walk.at; rec = rec })) next
  found_next rec next some read at left = from offs h.linked h.room
    where
      from : (xs : List ℕ) → IsWholeList f img walk.at xs → length xs ≤ walk.left → Gives f img xs (Some (record { off = walk.at; rec = rec })) next
      from [] linked room = absurd (some linked)
      from (x ∷ xs) linked room =
          let leads : next.at ≡ word f.order img x = at ∙ ap (λ (r : Rec). r.next) read ∙ ap (word f.order img) linked.0 in (
            xs,
            ap (λ y. y ∷ xs) (sym linked.0),
            read,
            record { linked = subst (λ y. IsWholeList f img y xs) (sym leads) linked.3; room = omega (arith, left, room) },
          )
