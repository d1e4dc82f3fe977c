-- A hand of an accepted image is one that can be given, and what is given or stops on the way leaves the rest.
use Rattle.std.proofs.Common.{◌≡◌, ℕ, ◌<◌, ◌^◌, List, [], ◌∷◌, length, subst, arith}
use Rattle.tdb_disk.specs.Count.{RoseUpTo}
use Rattle.tdb_words.specs.Word.{word}
use Rattle.tdb_space.specs.Form.{Form, free_head}
use Rattle.tdb_space.specs.Chain.{free_of, Free}
use Rattle.tdb_space.specs.Extents.{HandPair}
use Rattle.tdb_free.specs.FreeList.{CanBeGiven, Given}
use Rattle.tdb_free.specs.GiveStopped.{GiveStopped}
use Rattle.tdb_free.specs.Walk.{FreeBesideUpTo}
use Rattle.tdb_free.specs.Reads.{give_reads}
use Rattle.tdb_free.proofs.Accepted.{can_be_given, given_back}
use Rattle.tdb_free.proofs.Results.{on_err}
use Rattle.tdb_free.proofs.Stopped.{stopped_before, exchanged_only, same_only, still_accepted}
use Rattle.tdb_free.proofs.giving.give.Goals as goal

-- what holds of a hand over one view holds of it over another of the same image
moved : (R : Form → List ℕ → HandPair → Type 0) (f k : Form) (a i : List ℕ) (h p : HandPair) → k ≡ f → i ≡ a → p ≡ h → R k i p → R f a h
moved R f k a i h p form image same r = subst (λ x. R x a h) form (subst (λ y. R k y h) image (subst (λ z. R k i z) same r))

pub returns-clause-kept : goal.returns-clause-kept
returns-clause-kept g c told small hands accepted =
    let f = g.S.Space.form c.args.s.now in
    let a = g.S.Space.image c.args.s.now in
    let b = g.S.Space.image c.give_stretch.new.s in
    let offs = free_of f a in
    let h = c.args.h in
    let short : length a < 2 ^ 32 = omega (arith, small, g.met.S.Space.told_size c.args.s.now told) in
    let passed : HandPair = (c.off.result, c.rec_len.result) in
    let same : passed ≡ h = λ j. (c.off.ensures.value j, c.rec_len.ensures.value j) in
    let G = moved (λ x y z. CanBeGiven x y offs z → Given x y b offs z) f (g.S.Space.form c.len.new.self) a (g.S.Space.image c.len.new.self) h passed c.len.ensures.form c.len.ensures.image same (c.in_ok-give_stretch.ensures.given told offs) in
    given_back f a b h hands accepted (G (can_be_given f a h hands accepted short))

pub returns-clause-only : goal.returns-clause-only
returns-clause-only g c told offs C =
    let f = g.S.Space.form c.args.s.now in
    let a = g.S.Space.image c.args.s.now in
    let b = g.S.Space.image c.give_stretch.new.s in
    let h = c.args.h in
    let passed : HandPair = (c.off.result, c.rec_len.result) in
    let same : passed ≡ h = λ j. (c.off.ensures.value j, c.rec_len.ensures.value j) in
    let G = moved (λ x y z. CanBeGiven x y offs z → Given x y b offs z) f (g.S.Space.form c.len.new.self) a (g.S.Space.image c.len.new.self) h passed c.len.ensures.form c.len.ensures.image same (c.in_ok-give_stretch.ensures.given told offs) C in
    exchanged_only f a b offs (G.at ∷ G.stay) (h ∷ []) [] G.exchanged

-- the length wasn't told
pub returns-in_err-len-clause-stopped : goal.returns-in_err-len-clause-stopped
returns-in_err-len-clause-stopped g c = on_err c.from_residual.result (λ told offs C.
    stopped_before (g.S.Space.form c.args.s.now) (g.S.Space.image c.args.s.now) (g.S.Space.image c.len.new.self) offs c.args.h C c.len.ensures.image)

pub returns-in_err-len-clause-stopped_kept : goal.returns-in_err-len-clause-stopped_kept
returns-in_err-len-clause-stopped_kept g c = on_err c.from_residual.result (λ told small hands accepted.
    (let f = g.S.Space.form c.args.s.now in
    let a = g.S.Space.image c.args.s.now in
    let b = g.S.Space.image c.len.new.self in
    let short : length a < 2 ^ 32 = omega (arith, small, g.met.S.Space.told_size c.args.s.now told) in
    still_accepted f a b c.args.h hands accepted (stopped_before f a b (free_of f a) c.args.h (can_be_given f a c.args.h hands accepted short) c.len.ensures.image)))

pub returns-in_err-len-clause-only : goal.returns-in_err-len-clause-only
returns-in_err-len-clause-only g c told offs C =
    same_only (g.S.Space.form c.args.s.now) (g.S.Space.image c.args.s.now) (g.S.Space.image c.len.new.self) offs (c.args.h ∷ []) c.len.ensures.image

-- the give stopped on the way
pub returns-in_err-give_stretch-clause-stopped : goal.returns-in_err-give_stretch-clause-stopped
returns-in_err-give_stretch-clause-stopped g c = on_err c.from_residual-in_err-give_stretch.result (λ told offs.
    (let passed : HandPair = (c.off.result, c.rec_len.result) in
    let same : passed ≡ c.args.h = λ j. (c.off.ensures.value j, c.rec_len.ensures.value j) in
    moved (λ x y z. CanBeGiven x y offs z → GiveStopped x y (g.S.Space.image c.give_stretch.new.s) offs z) (g.S.Space.form c.args.s.now) (g.S.Space.form c.len.new.self) (g.S.Space.image c.args.s.now) (g.S.Space.image c.len.new.self) c.args.h passed
    c.len.ensures.form c.len.ensures.image same (c.in_err-give_stretch.ensures.stopped told offs)))

pub returns-in_err-give_stretch-clause-stopped_kept : goal.returns-in_err-give_stretch-clause-stopped_kept
returns-in_err-give_stretch-clause-stopped_kept g c = on_err c.from_residual-in_err-give_stretch.result (λ told small hands accepted.
    (let f = g.S.Space.form c.args.s.now in
    let a = g.S.Space.image c.args.s.now in
    let b = g.S.Space.image c.give_stretch.new.s in
    let offs = free_of f a in
    let passed : HandPair = (c.off.result, c.rec_len.result) in
    let same : passed ≡ c.args.h = λ j. (c.off.ensures.value j, c.rec_len.ensures.value j) in
    let short : length a < 2 ^ 32 = omega (arith, small, g.met.S.Space.told_size c.args.s.now told) in
    let S = moved (λ x y z. CanBeGiven x y offs z → GiveStopped x y b offs z) f (g.S.Space.form c.len.new.self) a (g.S.Space.image c.len.new.self) c.args.h passed c.len.ensures.form c.len.ensures.image same (c.in_err-give_stretch.ensures.stopped told offs) in
    still_accepted f a b c.args.h hands accepted (S (can_be_given f a c.args.h hands accepted short))))

pub returns-in_err-give_stretch-clause-only : goal.returns-in_err-give_stretch-clause-only
returns-in_err-give_stretch-clause-only g c told offs C =
    let f = g.S.Space.form c.args.s.now in
    let a = g.S.Space.image c.args.s.now in
    let b = g.S.Space.image c.give_stretch.new.s in
    let passed : HandPair = (c.off.result, c.rec_len.result) in
    let same : passed ≡ c.args.h = λ j. (c.off.ensures.value j, c.rec_len.ensures.value j) in
    let S = moved (λ x y z. CanBeGiven x y offs z → GiveStopped x y b offs z) f (g.S.Space.form c.len.new.self) a (g.S.Space.image c.len.new.self) c.args.h passed c.len.ensures.form c.len.ensures.image same (c.in_err-give_stretch.ensures.stopped told offs) C in
    exchanged_only f a b offs S.news (c.args.h ∷ []) S.out S.exchanged

-- what was read of the list
pub returns-in_err-give_stretch-clause-walked : goal.returns-in_err-give_stretch-clause-walked
returns-in_err-give_stretch-clause-walked g c told offs list most up_to =
    let f = g.S.Space.form c.args.s.now in
    let a = g.S.Space.image c.args.s.now in
    let passed : HandPair = (c.off.result, c.rec_len.result) in
    let same : passed ≡ c.args.h = λ j. (c.off.ensures.value j, c.rec_len.ensures.value j) in
    let walked = moved (λ x y z. Free x y (word x.order y free_head) offs → FreeBesideUpTo x y offs z most → RoseUpTo (give_reads most) (g.S.Space.bytes_read c.len.new.self) (g.S.Space.bytes_read c.give_stretch.new.s))
    f (g.S.Space.form c.len.new.self) a (g.S.Space.image c.len.new.self) c.args.h passed c.len.ensures.form c.len.ensures.image same (λ l up. c.give_stretch.ensures.walked told offs l most up) list up_to in
    record { no_more = omega (arith, walked.no_more, c.len.ensures.bytes_read); never_falls = omega (arith, walked.never_falls, c.len.ensures.bytes_read) }

pub returns-clause-walked : goal.returns-clause-walked
returns-clause-walked g c told offs list most up_to =
    let f = g.S.Space.form c.args.s.now in
    let a = g.S.Space.image c.args.s.now in
    let passed : HandPair = (c.off.result, c.rec_len.result) in
    let same : passed ≡ c.args.h = λ j. (c.off.ensures.value j, c.rec_len.ensures.value j) in
    let walked = moved (λ x y z. Free x y (word x.order y free_head) offs → FreeBesideUpTo x y offs z most → RoseUpTo (give_reads most) (g.S.Space.bytes_read c.len.new.self) (g.S.Space.bytes_read c.give_stretch.new.s))
    f (g.S.Space.form c.len.new.self) a (g.S.Space.image c.len.new.self) c.args.h passed c.len.ensures.form c.len.ensures.image same (λ l up. c.give_stretch.ensures.walked told offs l most up) list up_to in
    record { no_more = omega (arith, walked.no_more, c.len.ensures.bytes_read); never_falls = omega (arith, walked.never_falls, c.len.ensures.bytes_read) }
