-- The walk along one chain, record by record, to its first live record or to its end.
use Rattle.std.proofs.Common.{◌≡◌, ℕ, ◌+◌, ◌≤◌, List, [], ◌∷◌, Some, None, length, refl, sym, ◌∙◌, ap, subst, inl, inr, arith}
use Rattle.std.specs.Prelude.{◌/◌, ◌==◌}
use Rattle.std.proofs.lemmas.Bool.{cases_eq, eq-eqb, ne_eqb, false≢true}
use Rattle.tdb_words.specs.declared.record.TheConstants.{USED}
use Rattle.tdb_words.specs.Word.{word}
use Rattle.tdb_space.specs.Form.{Form}
use Rattle.tdb_space.specs.Record.{Whole, IsChained, key_at, magic_of}
use Rattle.tdb_space.specs.Chain.{Chain, Member}
use Rattle.tdb_space.specs.Accepted.{AllFiled, Filed}
use Rattle.tdb_space.proofs.Chain.Walks.{linked_short, member_cases}
use Rattle.tdb_law.specs.Layout.{cells, behind}
use Rattle.tdb_walk.specs.NextLive.{first_live}

-- so many records of a chain were passed, none of which is live, and the rest of it begins at this offset
pub record Left (f : Form) (img : List ℕ) (chain : ℕ) (offs : List ℕ) (passed at : ℕ) : Type 0 where
  pub rest : List ℕ
  pub linked : Chain f img at rest
  pub filed : AllFiled f img chain rest
  pub room : passed + length rest ≤ length img / 4
  pub same : first_live (cells f img offs) ≡ first_live (cells f img rest)

-- at first nothing was passed
pub left_start : (f : Form) (img : List ℕ) (chain : ℕ) (offs : List ℕ) (at : ℕ) → Chain f img at offs → AllFiled f img chain offs → Left f img chain offs 0 at
left_start f img chain offs at linked filed = record {
  rest = offs;
  linked = linked;
  filed = filed;
  room = omega (arith, linked_short f IsChained img at offs linked);
  same = refl;
}

module _ (f : Form) (img : List ℕ) (chain : ℕ) (offs : List ℕ) (passed at : ℕ) (w : Left f img chain offs passed at) where
  -- where no record stands, the chain has no more
  pub left_end : (Whole f img at → ⊥) → first_live (cells f img offs) ≡ None
  left_end never = w.same ∙ go w.rest w.linked
    where
      go : (rest : List ℕ) → Chain f img at rest → first_live (cells f img rest) ≡ None
      go [] p = refl
      go (x ∷ xs) p = absurd (never (subst (Whole f img) (sym p.0) p.1))

  -- as many records were passed as the image has words
  pub left_all : length img / 4 ≤ passed → first_live (cells f img offs) ≡ None
  left_all all = w.same ∙ go w.rest w.room
    where
      go : (rest : List ℕ) → passed + length rest ≤ length img / 4 → first_live (cells f img rest) ≡ None
      go [] room = refl
      go (x ∷ xs) room = absurd (omega (arith, room, all))

  -- the record there isn't live
  pub left_more : (at ≡ 0 → ⊥) → (magic_of f.order img at ≡ USED → ⊥) → Left f img chain offs (passed + 1) (word f.order img at)
  left_more some dead = go w.rest w.linked w.filed w.room w.same
    where
      skipped : (x : ℕ) (xs : List ℕ) → at ≡ x → first_live (cells f img (x ∷ xs)) ≡ first_live (cells f img xs)
      skipped x xs here = rw (ne_eqb (magic_of f.order img x) USED (λ e. dead (ap (magic_of f.order img) here ∙ e))) refl

      go : (rest : List ℕ) → Chain f img at rest → AllFiled f img chain rest → passed + length rest ≤ length img / 4 → first_live (cells f img offs) ≡ first_live (cells f img rest) → Left f img chain offs (passed + 1) (word f.order img at)
      go [] p filed room same = absurd (some p)
      go (x ∷ xs) p filed room same = record {
        rest = xs;
        linked = subst (λ y. Chain f img (word f.order img y) xs) (sym p.0) p.3;
        filed = filed.1;
        room = omega (arith, room);
        same = same ∙ skipped x xs p.0;
      }

  -- the record there is live
  pub left_met : (at ≡ 0 → ⊥) → magic_of f.order img at ≡ USED → Filed f img chain at × (first_live (cells f img offs) ≡ Some (record { place = at; key = key_at f.order img at; live = magic_of f.order img at == USED }))
  left_met some used = go w.rest w.linked w.filed w.same
    where
      met : (x : ℕ) (xs : List ℕ) → magic_of f.order img x ≡ USED → first_live (cells f img (x ∷ xs)) ≡ Some (record { place = x; key = key_at f.order img x; live = magic_of f.order img x == USED })
      met x xs e = rw (eq-eqb (magic_of f.order img x) USED e) refl

      go : (rest : List ℕ) → Chain f img at rest → AllFiled f img chain rest → first_live (cells f img offs) ≡ first_live (cells f img rest) → Filed f img chain at × (first_live (cells f img offs) ≡ Some (record { place = at; key = key_at f.order img at; live = magic_of f.order img at == USED }))
      go [] p filed same = absurd (some p)
      go (x ∷ xs) p filed same =
          let there : magic_of f.order img x ≡ USED = ap (magic_of f.order img) (sym p.0) ∙ used in (
            subst (Filed f img chain) (sym p.0) (filed.0 there),
            same ∙ met x xs there ∙ (λ j. Some (record { place = sym p.0 j; key = key_at f.order img (sym p.0 j); live = magic_of f.order img (sym p.0 j) == USED })),
          )

-- what stands behind a record of a chain: the rest of the chain, to which the record's next word leads
pub record Rest (f : Form) (img : List ℕ) (chain : ℕ) (offs : List ℕ) (off : ℕ) : Type 0 where
  pub whole : Whole f img off
  pub rest : List ℕ
  pub linked : Chain f img (word f.order img off) rest
  pub filed : AllFiled f img chain rest
  pub same : behind (cells f img offs) off ≡ cells f img rest

pub rest_behind : (f : Form) (img : List ℕ) (chain : ℕ) (first off : ℕ) (offs : List ℕ) → Chain f img first offs → AllFiled f img chain offs → Member off offs → Rest f img chain offs off
rest_behind f img chain first off [] p filed m = absurd (false≢true m)
rest_behind f img chain first off (x ∷ xs) p filed m =
    elim (cases_eq x off) [
      | inl e ↦ record {
        whole = subst (Whole f img) e p.1;
        rest = xs;
        linked = subst (λ y. Chain f img (word f.order img y) xs) e p.3;
        filed = filed.1;
        same = rw (eq-eqb x off e) refl;
      }
      | inr ne ↦
          elim (member_cases off x xs m) [
            | inl e ↦ absurd (ne (sym e))
            | inr there ↦
                let r = rest_behind f img chain (word f.order img x) off xs p.3 filed.1 there in
                record { whole = r.whole; rest = r.rest; linked = r.linked; filed = r.filed; same = rw (ne_eqb x off ne) r.same }
          ]
    ]
