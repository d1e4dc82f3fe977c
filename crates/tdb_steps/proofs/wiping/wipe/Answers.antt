-- The heads, and then the stretches.
use Rattle.std.proofs.Common.{◌≡◌, ◌+◌, ◌*◌, ◌∙◌, ap, sym, subst, arith, length}
use Rattle.std.specs.Prelude.{MatchOption, IfSome, ◌⊎◌, ◌/◌}
use Rattle.std.proofs.lemmas.Result.{on_ok_weaker, on_err_weaker}
use Rattle.tdb_disk.specs.Count.{RoseUpTo}
use Rattle.tdb_words.specs.Word.{word}
use Rattle.tdb_space.specs.Form.{free_head}
use Rattle.tdb_space.specs.Accepted.{AreaOk}
use Rattle.tdb_chain.specs.Reads.{write_reads}
use Rattle.tdb_steps.specs.Wiped.{IsArea, BoundsStand, HeadsZeroed, FreedAround, AroundStays}
use Rattle.tdb_steps.proofs.Made.{moved}
use Rattle.tdb_steps.proofs.WipeSteps.{around_wiped, around_stopped}
use Rattle.tdb_steps.proofs.wiping.wipe.Goals as goal

pub returns-clause-wiped : goal.returns-clause-wiped
returns-clause-wiped g c = on_ok_weaker c.free_around.result (λ freed told small A.
    (let f = g.S.Space.form c.args.s.now in
    let f1 = g.S.Space.form c.len.new.self in
    let f2 = g.S.Space.form c.area_bounds.new.s in
    let f3 = g.S.Space.form c.zero_heads.new.s in
    let a = g.S.Space.image c.args.s.now in
    let a1 = g.S.Space.image c.len.new.self in
    let a2 = g.S.Space.image c.area_bounds.new.s in
    let m = g.S.Space.image c.zero_heads.new.s in
    let b = g.S.Space.image c.free_around.new.s in
    let p = c.in-Some.area in
    let e1 : f1 ≡ f = c.len.ensures.form in
    let e2 : f2 ≡ f = c.area_bounds.ensures.looked.form ∙ e1 in
    let e3 : f3 ≡ f = c.zero_heads.ensures.wrote.form ∙ e2 in
    let i1 : a1 ≡ a = c.len.ensures.image in
    let i2 : a2 ≡ a = c.area_bounds.ensures.looked.image ∙ i1 in
    let sized : c.in_ok-len.len ≡ length a = omega (arith, c.in_ok-len.ensures.length, g.met.S.Space.told_size c.args.s.now told) in
    let found : IsArea f1 a1 p = subst (λ found. MatchOption found ⊥ (IsArea f1 a1)) c.in-Some.is (c.in_ok-area.ensures.found told (moved AreaOk f1 f a1 a (sym e1) (sym i1) A.area_ok)) in
    let P : IsArea f a p = moved (λ x y. IsArea x y p) f f1 a a1 e1 i1 found in
    let stands : BoundsStand f1 c.in_ok-len.len p = subst (λ found. IfSome found (BoundsStand f1 c.in_ok-len.len)) c.in-Some.is c.in_ok-area.ensures.stands in
    let B : BoundsStand f (length a) p = subst (λ n. BoundsStand f n p) sized (subst (λ x. BoundsStand x c.in_ok-len.len p) e1 stands) in
    let H : HeadsZeroed f a m = moved (λ x y. HeadsZeroed x y m) f f2 a a2 e2 i2 (c.in_ok-zero_heads.ensures.zeroed told) in
    let R : AroundStays f m b p = subst (λ x. AroundStays x m b p) e3 (c.free_around.ensures.stays told) in
    around_wiped f a m b p A B P H R (subst (λ x. FreedAround x m b p) e3 (freed told)))) c.free_around.ensures.freed

pub returns-clause-stopped : goal.returns-clause-stopped
returns-clause-stopped g c = on_err_weaker c.free_around.result (λ stopped told A.
    (let f = g.S.Space.form c.args.s.now in
    let f1 = g.S.Space.form c.len.new.self in
    let f2 = g.S.Space.form c.area_bounds.new.s in
    let f3 = g.S.Space.form c.zero_heads.new.s in
    let a = g.S.Space.image c.args.s.now in
    let a1 = g.S.Space.image c.len.new.self in
    let a2 = g.S.Space.image c.area_bounds.new.s in
    let m = g.S.Space.image c.zero_heads.new.s in
    let b = g.S.Space.image c.free_around.new.s in
    let p = c.in-Some.area in
    let e1 : f1 ≡ f = c.len.ensures.form in
    let e2 : f2 ≡ f = c.area_bounds.ensures.looked.form ∙ e1 in
    let e3 : f3 ≡ f = c.zero_heads.ensures.wrote.form ∙ e2 in
    let i1 : a1 ≡ a = c.len.ensures.image in
    let i2 : a2 ≡ a = c.area_bounds.ensures.looked.image ∙ i1 in
    let sized : c.in_ok-len.len ≡ length a = omega (arith, c.in_ok-len.ensures.length, g.met.S.Space.told_size c.args.s.now told) in
    let found : IsArea f1 a1 p = subst (λ found. MatchOption found ⊥ (IsArea f1 a1)) c.in-Some.is (c.in_ok-area.ensures.found told (moved AreaOk f1 f a1 a (sym e1) (sym i1) A.area_ok)) in
    let P : IsArea f a p = moved (λ x y. IsArea x y p) f f1 a a1 e1 i1 found in
    let stands : BoundsStand f1 c.in_ok-len.len p = subst (λ found. IfSome found (BoundsStand f1 c.in_ok-len.len)) c.in-Some.is c.in_ok-area.ensures.stands in
    let B : BoundsStand f (length a) p = subst (λ n. BoundsStand f n p) sized (subst (λ x. BoundsStand x c.in_ok-len.len p) e1 stands) in
    let H : HeadsZeroed f a m = moved (λ x y. HeadsZeroed x y m) f f2 a a2 e2 i2 (c.in_ok-zero_heads.ensures.zeroed told) in
    let R : AroundStays f m b p = subst (λ x. AroundStays x m b p) e3 (c.free_around.ensures.stays told) in
    around_stopped f a m b p A B P H R
    (subst (λ x. (word x.order b free_head ≡ word x.order m free_head) ⊎ FreedAround x m b p) e3 (stopped told)))) c.free_around.ensures.stopped

-- what was read where something is written
pub returns-in_err-zero_heads-clause-bytes_read : goal.returns-in_err-zero_heads-clause-bytes_read
returns-in_err-zero_heads-clause-bytes_read g c =
    let chains : (g.S.Space.form c.area_bounds.new.s).chains ≡ (g.S.Space.form c.args.s.now).chains = ap (λ x. x.chains) (c.area_bounds.ensures.looked.form ∙ c.len.ensures.form) in
    let heads = subst (λ n. RoseUpTo (write_reads (n / 1024 + 1) (4 * n + 4)) (g.S.Space.bytes_read c.area_bounds.new.s) (g.S.Space.bytes_read c.zero_heads.new.s)) chains c.zero_heads.ensures.bytes_read in
    record {
      no_more = omega (arith, c.len.ensures.bytes_read, c.area_bounds.ensures.bytes_read.no_more, heads.no_more);
      never_falls = omega (arith, c.len.ensures.bytes_read, c.area_bounds.ensures.bytes_read.never_falls, heads.never_falls);
    }

pub returns-clause-bytes_read : goal.returns-clause-bytes_read
returns-clause-bytes_read g c =
    let chains : (g.S.Space.form c.area_bounds.new.s).chains ≡ (g.S.Space.form c.args.s.now).chains = ap (λ x. x.chains) (c.area_bounds.ensures.looked.form ∙ c.len.ensures.form) in
    let heads = subst (λ n. RoseUpTo (write_reads (n / 1024 + 1) (4 * n + 4)) (g.S.Space.bytes_read c.area_bounds.new.s) (g.S.Space.bytes_read c.zero_heads.new.s)) chains c.zero_heads.ensures.bytes_read in
    record {
      no_more = omega (arith, c.len.ensures.bytes_read, c.area_bounds.ensures.bytes_read.no_more, heads.no_more, c.free_around.ensures.bytes_read.no_more);
      never_falls = omega (arith, c.len.ensures.bytes_read, c.area_bounds.ensures.bytes_read.never_falls, heads.never_falls, c.free_around.ensures.bytes_read.never_falls);
    }
