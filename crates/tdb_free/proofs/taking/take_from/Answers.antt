-- The record is taken whole, or its end is.
use Rattle.std.proofs.lemmas.Result.{on_err_weaker}
use Rattle.std.proofs.Common.{◌≡◌, ◌+◌, ◌-◌, IsTrue, List, [], ◌∷◌, ℕ, Some, ◌∙◌, sym, inl, inr, arith}
use Rattle.tdb_free.specs.FreeList.{ListedOnce, is_long_enough}
use Rattle.tdb_free.specs.Removal.{LeftOut, rest_of}
use Rattle.tdb_free.specs.Search.{IsFirst}
use Rattle.tdb_free.specs.TakenFrom.{TakenFrom}
use Rattle.tdb_free.specs.Shortened.{Shortened}
use Rattle.tdb_free.proofs.CutOrWhole.{taken_whole, taken_cut}
use Rattle.tdb_free.proofs.OnlyList.{record_only}
use Rattle.tdb_free.proofs.Removed.{taken_out}
use Rattle.tdb_free.proofs.Results.{ok_both}
use Rattle.tdb_free.proofs.Stopped.{exchanged_only, same_only}
use Rattle.tdb_free.proofs.taking.take_from.Goals as goal

pub returns-then-spot-rec_len-lt-LEAST_LEFT-clause-taken : goal.returns-then-spot-rec_len-lt-LEAST_LEFT-clause-taken
returns-then-spot-rec_len-lt-LEAST_LEFT-clause-taken g c =
    let f = g.S.Space.form c.args.s.now in
    let a = g.S.Space.image c.args.s.now in
    let b = g.S.Space.image c.take_whole.new.s in
    let p = c.args.spot.now in
    ok_both c.take_whole.result (λ h. h ≡ (p.off, p.rec_len))
    (λ h. IsTrue g.S.Space.tells → (offs : List ℕ) → ListedOnce f a offs → IsFirst f a offs (is_long_enough c.args.rec_len) p → TakenFrom f a b offs c.args.rec_len h)
    (IsTrue g.S.Space.tells → LeftOut f a b (Some p)) c.take_whole.ensures.hand c.take_whole.ensures.past
    (λ h is past told offs F is_first. taken_whole f a b offs c.args.rec_len p F is_first h (omega (arith, c.if-spot-rec_len-lt-LEAST_LEFT.true, c.requires.long)) is (past told is_first.next))

pub returns-else-spot-rec_len-lt-LEAST_LEFT-clause-taken : goal.returns-else-spot-rec_len-lt-LEAST_LEFT-clause-taken
returns-else-spot-rec_len-lt-LEAST_LEFT-clause-taken g c =
    let f = g.S.Space.form c.args.s.now in
    let a = g.S.Space.image c.args.s.now in
    let b = g.S.Space.image c.take_end.new.s in
    let p = c.args.spot.now in
    ok_both c.take_end.result (λ h. h ≡ (p.off + p.rec_len - c.args.rec_len, c.args.rec_len))
    (λ h. IsTrue g.S.Space.tells → (offs : List ℕ) → ListedOnce f a offs → IsFirst f a offs (is_long_enough c.args.rec_len) p → TakenFrom f a b offs c.args.rec_len h)
    (IsTrue g.S.Space.tells → Shortened f a b p.off (p.rec_len - (24 + c.args.rec_len))) c.take_end.ensures.hand c.take_end.ensures.shortened
    (λ h is shortened told offs F is_first. taken_cut f a b offs c.args.rec_len p F is_first h c.requires.whole_words (omega (arith, c.if-spot-rec_len-lt-LEAST_LEFT.false)) is (shortened told))

pub returns-then-spot-rec_len-lt-LEAST_LEFT-clause-stopped : goal.returns-then-spot-rec_len-lt-LEAST_LEFT-clause-stopped
returns-then-spot-rec_len-lt-LEAST_LEFT-clause-stopped g c =
    let f = g.S.Space.form c.args.s.now in
    let a = g.S.Space.image c.args.s.now in
    let b = g.S.Space.image c.take_whole.new.s in
    let p = c.args.spot.now in
    on_err_weaker c.take_whole.result (λ stopped told offs L F.
    elim (stopped told) [
      | inl same ↦ same_only f a b offs [] same
      | inr left ↦ let T = taken_out f a b offs (is_long_enough c.args.rec_len) (Some p) L F left in exchanged_only f a b offs (rest_of (Some p) offs) [] ((p.off, p.rec_len) ∷ []) T.exchanged
    ]) c.take_whole.ensures.stopped

pub returns-else-spot-rec_len-lt-LEAST_LEFT-clause-stopped : goal.returns-else-spot-rec_len-lt-LEAST_LEFT-clause-stopped
returns-else-spot-rec_len-lt-LEAST_LEFT-clause-stopped g c =
    let f = g.S.Space.form c.args.s.now in
    let a = g.S.Space.image c.args.s.now in
    let b = g.S.Space.image c.take_end.new.s in
    on_err_weaker c.take_end.result (λ only told offs L F.
    (let size = g.met.S.Space.told_size c.take_end.new.s told ∙ c.take_end.ensures.size ∙ sym (g.met.S.Space.told_size c.args.s.now told) in
    record_only f a b offs (is_long_enough c.args.rec_len) c.args.spot.now size L F (only told))) c.take_end.ensures.stopped
