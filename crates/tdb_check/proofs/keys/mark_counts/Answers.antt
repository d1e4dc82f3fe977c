-- One more record.
use Rattle.std.proofs.Common.{◌≡◌, ◌<◌, ◌≤◌, ◌+◌, ◌⊎◌, length, get_or, refl, sym, ◌∙◌, ap, subst, inl, inr, arith}
use Rattle.std.specs.Prelude.{◌%◌, slice_index}
use Rattle.std.proofs.lemmas.Bool.{cases_lt}
use Rattle.std.proofs.lemmas.List.{length-set, get_or_default}
use Rattle.tdb_check.specs.declared.keys.Noted.{Noted}
use Rattle.tdb_check.proofs.Alike.{CountsFirst, counts_all, counts_more}
use Rattle.tdb_check.proofs.keys.mark_counts.Goals as goal

pub loop-record-preserved : goal.loop-record-preserved
loop-record-preserved c =
    let v = c.loop-record.invariant in
    let counts = c.loop-record.counts.items in
    let i = c.loop-record.record-index in
    let none : Noted = record { mark = 0; key_len = 0; at = 0 } in
    let mark = (get_or c.args.noted.now i none).mark in
    let place = mark % c.args.places in
    let there : place ≡ mark % length counts = ap (λ m. mark % m) (sym v.long) in
    let some : 0 < length counts = omega (arith, v.long, c.requires.some) in
    let low : place < length counts = omega (arith, there, some) in
    let read : c.index.result.now ≡ slice_index counts place = c.index.ensures ∙ get_or_default counts place c.index.result.now 0 low in
    let n = c.saturating_add.result in
    let one : (n ≡ slice_index counts place + 1) ⊎ (2 ≤ n) = elim (cases_lt c.index.result.now 255) [
      | inl under ↦ inl (omega (arith, c.saturating_add.ensures, read, under))
      | inr over ↦ inr (omega (arith, c.saturating_add.ensures, over))
    ] in
    record {
      long = length-set counts place n ∙ v.long;
      counted = counts_more counts _ c.args.noted.now i place n none c.loop-record-test.true there low refl one v.counted;
    }

pub returns-clause-counted : goal.returns-clause-counted
returns-clause-counted c =
    let end : c.loop-record.record-index ≡ length c.args.noted.now = omega (arith, c.loop-record-test.false, c.loop-record.auto.record-index-end) in
    counts_all c.loop-record.counts.items c.args.noted.now (subst (CountsFirst c.loop-record.counts.items c.args.noted.now) end c.loop-record.invariant.counted)
