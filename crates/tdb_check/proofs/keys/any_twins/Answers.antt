-- One has the key of one before it, or none has.
use Rattle.std.proofs.Common.{◌≡◌, ℕ, List, ◌+◌, ◌<◌, ◌≤◌, length, sym, ◌∙◌, ap, subst, inl, inr, arith, rules}
use Rattle.std.proofs.lemmas.Bool.{MatchBool-at_true, MatchBool-at_false, cases_lt}
use Rattle.tdb_space.specs.Form.{Form}
use Rattle.tdb_check.specs.Keys.{AllNoted, TwinAt, NoTwinBefore}
use Rattle.tdb_check.proofs.Notings.{ApartTo, apart_all, twin_not}
use Rattle.tdb_check.specs.declared.keys.Noted.{Noted}
use Rattle.tdb_check.proofs.Pairs.{pairs_more, pairs_take}
use Rattle.tdb_check.proofs.Rising.{rose_then, rose_within}
use Rattle.tdb_check.proofs.SameViews.{same_view}
use Rattle.tdb_check.proofs.keys.any_twins.Goals as goal

pub returns-in-Err-clause-no_fault : goal.returns-in-Err-clause-no_fault
returns-in-Err-clause-no_fault g c told long mark all =
    let f = g.S.Space.form c.args.s.now in
    let img = g.S.Space.image c.args.s.now in
    let f2 = g.S.Space.form c.loop-i.s in
    let img2 = g.S.Space.image c.loop-i.s in
    let v = c.loop-i.invariant in
    c.in-Err.ensures.no_fault told (ap length v.looked.image ∙ long) mark (same_view (λ h i. AllNoted mark h i c.args.sorted.now) f f2 img img2 v.looked.form v.looked.image all)

pub returns-then-twin-clause-twins : goal.returns-then-twin-clause-twins
returns-then-twin-clause-twins g c told long mark all =
    let f = g.S.Space.form c.args.s.now in
    let img = g.S.Space.image c.args.s.now in
    let f2 = g.S.Space.form c.loop-i.s in
    let img2 = g.S.Space.image c.loop-i.s in
    let v = c.loop-i.invariant in
    let there : AllNoted mark f2 img2 c.args.sorted.now = same_view (λ h i. AllNoted mark h i c.args.sorted.now) f f2 img img2 v.looked.form v.looked.image all in
    let twin : TwinAt f2 img2 c.args.sorted.now c.loop-i.i = MatchBool-at_true _ _ c.if-twin.true (c.in-Ok.ensures.twin told (ap length v.looked.image ∙ long) mark there) in
    let low : c.loop-i.i < length c.args.sorted.now = omega arith in
    twin_not f img c.args.sorted.now c.loop-i.i (record { mark = 0; key_len = 0; at = 0 }) low (same_view (λ h i. TwinAt h i c.args.sorted.now c.loop-i.i) f2 f img2 img (sym v.looked.form) (sym v.looked.image) twin)

pub returns-clause-twins : goal.returns-clause-twins
returns-clause-twins g c told long mark all =
    let f = g.S.Space.form c.args.s.now in
    let img = g.S.Space.image c.args.s.now in
    let end : c.loop-i.i ≡ length c.args.sorted.now = omega arith in
    apart_all f img c.args.sorted.now (record { mark = 0; key_len = 0; at = 0 }) (subst (ApartTo f img c.args.sorted.now) end (c.loop-i.invariant.apart told long mark all))

pub returns-in-Err-clause-bytes_read : goal.returns-in-Err-clause-bytes_read
returns-in-Err-clause-bytes_read g c =
    let i = c.loop-i.i in
    let none : Noted = record { mark = 0; key_len = 0; at = 0 } in
    let low : i < length c.args.sorted.now = omega arith in
    rose_then _ _ _ _ _ _ c.loop-i.invariant.bytes_read (c.in-Err.ensures.bytes_read none) (omega (arith, pairs_more c.args.sorted.now i none low, pairs_take (i + 1) c.args.sorted.now))

pub returns-then-twin-clause-bytes_read : goal.returns-then-twin-clause-bytes_read
returns-then-twin-clause-bytes_read g c =
    let i = c.loop-i.i in
    let none : Noted = record { mark = 0; key_len = 0; at = 0 } in
    let low : i < length c.args.sorted.now = omega arith in
    rose_then _ _ _ _ _ _ c.loop-i.invariant.bytes_read (c.in-Ok.ensures.bytes_read none) (omega (arith, pairs_more c.args.sorted.now i none low, pairs_take (i + 1) c.args.sorted.now))

-- one more has no twin before it
apart_more : (f : Form) (img : List ℕ) (es : List Noted) (i : ℕ) → ApartTo f img es i → NoTwinBefore f img es i 0 → ApartTo f img es (i + 1)
apart_more f img es i h one = record {
  each = λ q low. elim (cases_lt q i) [
    | inl before ↦ h.each q before
    | inr here ↦ subst (λ n. NoTwinBefore f img es n 0) (same_place i q low here) one
  ];
}
  where
    same_place : (i q : ℕ) → q < i + 1 → i ≤ q → i ≡ q
    same_place i q low high = omega (arith, low, high)

pub loop-i-preserved : goal.loop-i-preserved
loop-i-preserved g c =
    let f = g.S.Space.form c.args.s.now in
    let img = g.S.Space.image c.args.s.now in
    let f2 = g.S.Space.form c.loop-i.s in
    let img2 = g.S.Space.image c.loop-i.s in
    let v = c.loop-i.invariant in
    let i = c.loop-i.i in
    let none : Noted = record { mark = 0; key_len = 0; at = 0 } in
    let low : i < length c.args.sorted.now = omega arith in
    record {
      apart = λ told long mark all.
          (let there : AllNoted mark f2 img2 c.args.sorted.now = same_view (λ h k. AllNoted mark h k c.args.sorted.now) f f2 img img2 v.looked.form v.looked.image all in
          let alone : NoTwinBefore f2 img2 c.args.sorted.now i 0 = MatchBool-at_false _ _ c.if-twin.false (c.in-Ok.ensures.twin told (ap length v.looked.image ∙ long) mark there) in
          apart_more f img c.args.sorted.now i (v.apart told long mark all) (same_view (λ h k. NoTwinBefore h k c.args.sorted.now i 0) f2 f img2 img (sym v.looked.form) (sym v.looked.image) alone));
      bytes_read = rose_then _ _ _ _ _ _ v.bytes_read (c.in-Ok.ensures.bytes_read none) (omega (arith, pairs_more c.args.sorted.now i none low));
      looked = search rules;
      faults = search rules;
    }

pub returns-clause-bytes_read : goal.returns-clause-bytes_read
returns-clause-bytes_read g c = rose_within _ _ _ _ c.loop-i.invariant.bytes_read (omega (arith, pairs_take c.loop-i.i c.args.sorted.now))
