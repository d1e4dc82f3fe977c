use Rattle.std.proofs.Common.{◌≡◌, ◌||◌, ℕ, List, refl, sym, ◌∙◌, ap, subst}
use Rattle.std.specs.Str.{bytes_eq}
use Rattle.tdb_dump.specs.KeySet.{has}
use Rattle.tdb_dump.specs.Spelled.{has_key}
use Rattle.tdb_dump.proofs.TakenLemmas.{Goes_stays, HasKeysOf-push, pair_same, false_from_not}
use Rattle.tdb_dump.proofs.reader.Reader.end_record.Goals as goal

pub returns-clause-added : goal.returns-clause-added
returns-clause-added c =
    let s = c.args.self.now in
    let key : c.key.result.now ≡ c.finish.result.key = c.key.ensures ∙ sym c.finish.ensures.pair.0 in
    let more = subst (λ (k : List ℕ). (q : List ℕ) → has c.insert.new.self q ≡ (has s.keys q || bytes_eq q k)) key c.in_ok-insert.ensures.keys in
    record {
      pair_is = pair_same _ _ _ c.finish.ensures.pair.0 c.finish.ensures.pair.1;
      keys = λ before has. (
        ap (has_key before) (sym key) ∙ sym (has c.key.result.now) ∙ false_from_not _ (sym c.if-not-branch.false ∙ c.in_ok-insert.ensures.added),
        HasKeysOf-push s.keys c.insert.new.self before c.finish.result more has,
      );
      state = c.finish.ensures.state;
      taken = c.saturating_add-self.ensures;
      start = refl;
    }

pub returns-in_err-insert-clause-wanting : goal.returns-in_err-insert-clause-wanting
returns-in_err-insert-clause-wanting c = λ wanting text pairs goes. Goes_stays text pairs c.args.self.now c.args.self.now.partial c.insert.new.self refl c.in_err-insert.ensures.err goes
