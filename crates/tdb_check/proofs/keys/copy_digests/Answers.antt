-- One record more, marked by the digest of its key.
use Rattle.std.proofs.Common.{◌≡◌, ℕ, List, ◌+◌, ◌<◌, ◌≤◌, ◌∷◌, ◌++◌, [], length, length-append, map, take, get_or, sym, ◌∙◌, ap, arith, rules}
use Rattle.std.proofs.lemmas.List.{take_more, take_all, map-append}
use Rattle.std.proofs.lemmas.List.Sums.{sum_by_push, sum_by-take-le}
use Rattle.tdb_check.specs.declared.keys.Noted.{Noted}
use Rattle.tdb_check.specs.Keys.{AllNoted, key_of_noted, digest_mark, digested}
use Rattle.tdb_check.specs.Reads.{key_bytes}
use Rattle.tdb_check.proofs.SameViews.{same_view}
use Rattle.tdb_check.proofs.Rising.{rose_then, rose_within}
use Rattle.tdb_check.proofs.keys.copy_digests.Goals as goal

-- the lengths so far and that of one more
longer : (es : List Noted) (i : ℕ) (d : Noted) → i < length es → key_bytes (take (i + 1) es) ≡ key_bytes (take i es) + (get_or es i d).key_len
longer es i d low = ap key_bytes (take_more es i d low) ∙ sum_by_push (λ (x : Noted). x.key_len) (take i es) (get_or es i d)

pub returns-in-Err-clause-no_fault : goal.returns-in-Err-clause-no_fault
returns-in-Err-clause-no_fault g c told long mark all =
    let v = c.loop-record.invariant in
    let none : Noted = record { mark = 0; key_len = 0; at = 0 } in
    let there = same_view (λ h i. AllNoted mark h i c.args.noted.now) (g.S.Space.form c.args.s.now) (g.S.Space.form c.loop-record.s) (g.S.Space.image c.args.s.now) (g.S.Space.image c.loop-record.s) v.looked.form v.looked.image all in
    let low : c.loop-record.record-index < length c.args.noted.now = omega arith in
    c.in-Err.ensures.no_fault told (ap length v.looked.image ∙ long) mark (there c.loop-record.record-index none low)

pub loop-record-preserved : goal.loop-record-preserved
loop-record-preserved g c =
    let f = g.S.Space.form c.args.s.now in
    let img = g.S.Space.image c.args.s.now in
    let v = c.loop-record.invariant in
    let i = c.loop-record.record-index in
    let none : Noted = record { mark = 0; key_len = 0; at = 0 } in
    let one = get_or c.args.noted.now i none in
    let low : i < length c.args.noted.now = omega arith in
    let put = c.in_ok-put.ensures in
    record {
      marked = λ told long mark all.
          (let there = same_view (λ h k. AllNoted mark h k c.args.noted.now) f (g.S.Space.form c.loop-record.s) img (g.S.Space.image c.loop-record.s) v.looked.form v.looked.image all in
          let is : c.in-Ok.mark ≡ digest_mark (key_of_noted f img one) =
          c.in-Ok.ensures.mark told mark (there i none low) ∙ (λ k. digest_mark (key_of_noted (v.looked.form k) (v.looked.image k) one)) in
          put ∙ (λ k. v.marked told long mark all k ++ (record { mark = is k; key_len = one.key_len; at = one.at }) ∷ [])
          ∙ sym (map-append (digested f img) (take i c.args.noted.now) (one ∷ [])) ∙ ap (map (digested f img)) (sym (take_more c.args.noted.now i none low)));
      long = ap length put ∙ length-append c.loop-record.sorted.items ((record { mark = c.in-Ok.mark; key_len = one.key_len; at = one.at }) ∷ []) ∙ ap (λ n. n + 1) v.long;
      bytes_read = rose_then _ _ _ _ _ _ v.bytes_read c.in-Ok.ensures.bytes_read (omega (arith, longer c.args.noted.now i none low));
      looked = search rules;
      faults = search rules;
    }

pub returns-clause-marked : goal.returns-clause-marked
returns-clause-marked g c told long mark all =
    let end : length c.args.noted.now ≤ c.loop-record.record-index = omega arith in
    c.loop-record.invariant.marked told long mark all ∙ ap (map (digested (g.S.Space.form c.args.s.now) (g.S.Space.image c.args.s.now))) (take_all c.loop-record.record-index c.args.noted.now end)

pub returns-in-Err-clause-bytes_read : goal.returns-in-Err-clause-bytes_read
returns-in-Err-clause-bytes_read g c =
    let i = c.loop-record.record-index in
    let none : Noted = record { mark = 0; key_len = 0; at = 0 } in
    let low : i < length c.args.noted.now = omega arith in
    rose_then _ _ _ _ _ _ c.loop-record.invariant.bytes_read c.in-Err.ensures.bytes_read
    (omega (arith, longer c.args.noted.now i none low, sum_by-take-le (λ (x : Noted). x.key_len) c.args.noted.now (i + 1)))

pub returns-in_err-put-clause-bytes_read : goal.returns-in_err-put-clause-bytes_read
returns-in_err-put-clause-bytes_read g c =
    let i = c.loop-record.record-index in
    let none : Noted = record { mark = 0; key_len = 0; at = 0 } in
    let low : i < length c.args.noted.now = omega arith in
    rose_then _ _ _ _ _ _ c.loop-record.invariant.bytes_read c.in-Ok.ensures.bytes_read
    (omega (arith, longer c.args.noted.now i none low, sum_by-take-le (λ (x : Noted). x.key_len) c.args.noted.now (i + 1)))

pub returns-clause-bytes_read : goal.returns-clause-bytes_read
returns-clause-bytes_read g c = rose_within _ _ _ _ c.loop-record.invariant.bytes_read (sum_by-take-le (λ (x : Noted). x.key_len) c.args.noted.now c.loop-record.record-index)
