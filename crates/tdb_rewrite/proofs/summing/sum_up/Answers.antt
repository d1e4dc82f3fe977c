-- The numbers of an accepted file.
use Rattle.std.proofs.Common.{◌≡◌, ◌-◌, ◌^◌, ◌≤◌, [], length, sym, ◌∙◌, subst, arith}
use Rattle.tdb_space.specs.Form.{form_of}
use Rattle.tdb_space.specs.Pairs.{order_of}
use Rattle.tdb_space.specs.Accepted.{AcceptWith}
use Rattle.tdb_rewrite.specs.Sums.{key_bytes, value_bytes, Sums}
use Rattle.tdb_rewrite.specs.Summary.{greatest_free}
use Rattle.tdb_rewrite.proofs.Walking.{moved}
use Rattle.tdb_rewrite.proofs.Bounds.{keys_whole, values_whole}
use Rattle.tdb_rewrite.proofs.summing.sum_up.Goals as goal

pub returns-clause-summed_up : goal.returns-clause-summed_up
returns-clause-summed_up g c told stated accepted counted =
    let f = g.S.Space.form c.args.s.now in
    let img = g.S.Space.image c.args.s.now in
    let same : f ≡ form_of img = stated accepted.header in
    let there : AcceptWith f img [] = subst (λ x. AcceptWith x img []) (sym same) accepted in
    let sums = c.in_ok-sums.sums in
    let k = g.S.Space.form c.len.new.self in
    let v = g.S.Space.image c.len.new.self in
    let form : k ≡ f = c.len.ensures.form in
    let image : v ≡ img = c.len.ensures.image in
    let summed = c.in_ok-sums.ensures.sums told [] (moved (λ x i. AcceptWith x i []) k f v img (sym form) (sym image) there) in
    let h : Sums (order_of f img) sums = moved (λ x i. Sums (order_of x i) sums) f k img v form image summed in
    let m = g.S.Space.form c.pair_bytes.new.s in
    let w = g.S.Space.image c.pair_bytes.new.s in
    let form_then : m ≡ f = c.pair_bytes.ensures.looked.form ∙ form in
    let image_then : w ≡ img = c.pair_bytes.ensures.looked.image ∙ image in
    let free = c.in_ok-largest_free.ensures.largest told [] (moved (λ x i. AcceptWith x i []) m f w img (sym form_then) (sym image_then) there) in
    let largest = c.in_ok-largest_free.largest_free in
    let greatest : largest ≡ greatest_free f img = moved (λ x i. largest ≡ greatest_free x i) f m img w form_then image_then free in
    let short : length img ≤ 2 ^ 64 - 1 = omega (arith, g.met.S.Space.told_size c.args.s.now told, c.in_ok-len.ensures.length) in record {
      report = counted;
      key_bytes = subst (λ x. sums.keys ≡ key_bytes (order_of x img)) same (keys_whole f img [] there short sums h);
      data_bytes = subst (λ x. sums.values ≡ value_bytes (order_of x img)) same (values_whole f img [] there short sums h);
      largest_free = subst (λ x. largest ≡ greatest_free x img) same greatest;
    }
