-- The key among the first bytes of the record is that of the image.
use Rattle.std.proofs.Common.{◌≡◌, ◌+◌, ◌-◌, length, take, drop, sym, ◌∙◌, ap, subst, inl, inr, arith, true}
use Rattle.std.specs.Prelude.{MatchBool}
use Rattle.std.proofs.lemmas.Bool.{cases_Bool, false≢true}
use Rattle.tdb_space.proofs.Pairs.Maps.{same_key-eq, same_key-refl}
use Rattle.tdb_space.proofs.Record.Pieces.{piece_of}
use Rattle.tdb_space.specs.Pairs.{same_key}
use Rattle.tdb_chain.specs.Wanted.{IsWanted}
use Rattle.tdb_chain.proofs.walk.is_wanted.Goals as goal

pub returns-then-end-front-clause-wanted : goal.returns-then-end-front-clause-wanted
returns-then-end-front-clause-wanted g c told shows =
    let img = g.S.Space.image c.args.s.now in
    let key = c.args.key.now in
    let front = c.args.front.now in
    let at = c.args.at in
    let wanted = IsWanted c.args.rec.now c.args.hash img at key in
    let count : 24 + length key - 24 ≡ length key = omega arith in
    let there : take (length key) (drop (at + 24) img) ≡ take (24 + length key - 24) (drop 24 front) =
    piece_of img front at 24 (length key) c.if-end-front.true (sym shows) ∙ ap (λ n. take n (drop 24 front)) (sym count) in
    let answer : c.eq.result ≡ same_key (take (24 + length key - 24) (drop 24 front)) key = c.eq.ensures in
    elim (cases_Bool c.eq.result) [
      | inl same ↦
          subst (λ b. MatchBool b wanted (wanted → ⊥)) (sym same) (record {
            used = c.if-rec-ne-USED.false;
            hashed = c.if-rec-hash.false;
            as_long = c.if-rec-key.false;
            there = there ∙ same_key-eq (take (24 + length key - 24) (drop 24 front)) key (sym answer ∙ same);
          })
      | inr other ↦
          subst (λ b. MatchBool b wanted (wanted → ⊥)) (sym other)
          (λ w. false≢true (sym other ∙ answer ∙ subst (λ k. same_key k key ≡ true) (sym (sym there ∙ w.there)) (same_key-refl key)))
    ]
