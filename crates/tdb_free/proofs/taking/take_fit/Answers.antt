-- The first record that is long enough is taken from.
use Rattle.std.proofs.Common.{◌∙◌, List, ℕ, subst, arith}
use Rattle.tdb_disk.specs.Count.{RoseUpTo}
use Rattle.tdb_words.specs.Word.{word}
use Rattle.tdb_space.specs.Form.{Form, free_head}
use Rattle.tdb_space.specs.Chain.{Free, free_of}
use Rattle.tdb_free.specs.FreeList.{ListedOnce, is_long_enough, free_pairs}
use Rattle.tdb_free.specs.Search.{IsFirst, IsSpot}
use Rattle.tdb_free.specs.TakenFrom.{TakenFrom}
use Rattle.tdb_free.specs.Reads.{search_reads}
use Rattle.tdb_free.proofs.Accepted.{can_be_taken, taken_kept}
use Rattle.tdb_free.proofs.taking.take_fit.Goals as goal

pub returns-clause-taken : goal.returns-clause-taken
returns-clause-taken g c told offs listed short =
    let f = g.S.Space.form c.args.s.now in
    let img = g.S.Space.image c.args.s.now in
    let b = g.S.Space.image c.take_from.new.s in
    let n = c.args.rec_len in
    let hand = c.in_ok-take_from.field-0 in
    let form = c.find_fit.ensures.looked.form ∙ c.len.ensures.form in
    let image = c.find_fit.ensures.looked.image ∙ c.len.ensures.image in
    let Sought : Form → List ℕ → Type 0 = λ x i. Free x i (word x.order i free_head) offs → IsSpot x i offs (is_long_enough n) c.in_ok-spot.field-0 in
    let Taking : Form → List ℕ → Type 0 = λ x i. ListedOnce x i offs → IsFirst x i offs (is_long_enough n) c.in-Some.spot → TakenFrom x i b offs n hand in
    let sought = subst (λ x. Sought x img) c.len.ensures.form (subst (Sought (g.S.Space.form c.len.new.self)) c.len.ensures.image (c.in_ok-spot.ensures.found told offs)) in
    let taking = subst (λ x. Taking x img) form (subst (Taking (g.S.Space.form c.find_fit.new.s)) image (c.in_ok-take_from.ensures.taken told offs)) in
    taking listed (subst (IsSpot f img offs (is_long_enough n)) c.in-Some.is (sought listed.list))

pub returns-clause-kept : goal.returns-clause-kept
returns-clause-kept g c told hands accepted short =
    let f = g.S.Space.form c.args.s.now in
    let img = g.S.Space.image c.args.s.now in
    taken_kept f img (g.S.Space.image c.take_from.new.s) c.args.rec_len hands c.in_ok-take_from.field-0 accepted
    (returns-clause-taken g c told (free_of f img) (can_be_taken f img hands accepted) short)

-- what was read up to each end
pub returns-in_err-spot-clause-reads : goal.returns-in_err-spot-clause-reads
returns-in_err-spot-clause-reads g c told offs list =
    let f = g.S.Space.form c.args.s.now in
    let img = g.S.Space.image c.args.s.now in
    let Walked : Form → List ℕ → Type 0 = λ x i. Free x i (word x.order i free_head) offs → RoseUpTo (search_reads c.args.rec_len (free_pairs x i offs)) (g.S.Space.bytes_read c.len.new.self) (g.S.Space.bytes_read c.find_fit.new.s) in
    let walked = subst (λ x. Walked x img) c.len.ensures.form (subst (Walked (g.S.Space.form c.len.new.self)) c.len.ensures.image (c.find_fit.ensures.reads told offs)) list in
    record { no_more = omega (arith, walked.no_more, c.len.ensures.bytes_read); never_falls = omega (arith, walked.never_falls, c.len.ensures.bytes_read) }

pub returns-in_default-clause-reads : goal.returns-in_default-clause-reads
returns-in_default-clause-reads g c told offs list =
    let f = g.S.Space.form c.args.s.now in
    let img = g.S.Space.image c.args.s.now in
    let Walked : Form → List ℕ → Type 0 = λ x i. Free x i (word x.order i free_head) offs → RoseUpTo (search_reads c.args.rec_len (free_pairs x i offs)) (g.S.Space.bytes_read c.len.new.self) (g.S.Space.bytes_read c.find_fit.new.s) in
    let walked = subst (λ x. Walked x img) c.len.ensures.form (subst (Walked (g.S.Space.form c.len.new.self)) c.len.ensures.image (c.find_fit.ensures.reads told offs)) list in
    record { no_more = omega (arith, walked.no_more, c.len.ensures.bytes_read); never_falls = omega (arith, walked.never_falls, c.len.ensures.bytes_read) }

pub returns-then-end-clause-reads : goal.returns-then-end-clause-reads
returns-then-end-clause-reads g c told offs list =
    let f = g.S.Space.form c.args.s.now in
    let img = g.S.Space.image c.args.s.now in
    let Walked : Form → List ℕ → Type 0 = λ x i. Free x i (word x.order i free_head) offs → RoseUpTo (search_reads c.args.rec_len (free_pairs x i offs)) (g.S.Space.bytes_read c.len.new.self) (g.S.Space.bytes_read c.find_fit.new.s) in
    let walked = subst (λ x. Walked x img) c.len.ensures.form (subst (Walked (g.S.Space.form c.len.new.self)) c.len.ensures.image (c.find_fit.ensures.reads told offs)) list in
    record { no_more = omega (arith, walked.no_more, c.len.ensures.bytes_read); never_falls = omega (arith, walked.never_falls, c.len.ensures.bytes_read) }

pub returns-in_err-take_from-clause-reads : goal.returns-in_err-take_from-clause-reads
returns-in_err-take_from-clause-reads g c told offs list =
    let f = g.S.Space.form c.args.s.now in
    let img = g.S.Space.image c.args.s.now in
    let Walked : Form → List ℕ → Type 0 = λ x i. Free x i (word x.order i free_head) offs → RoseUpTo (search_reads c.args.rec_len (free_pairs x i offs)) (g.S.Space.bytes_read c.len.new.self) (g.S.Space.bytes_read c.find_fit.new.s) in
    let walked = subst (λ x. Walked x img) c.len.ensures.form (subst (Walked (g.S.Space.form c.len.new.self)) c.len.ensures.image (c.find_fit.ensures.reads told offs)) list in
    record { no_more = omega (arith, walked.no_more, c.len.ensures.bytes_read, c.take_from.ensures.bytes_read.no_more); never_falls = omega (arith, walked.never_falls, c.len.ensures.bytes_read, c.take_from.ensures.bytes_read.never_falls) }

pub returns-clause-reads : goal.returns-clause-reads
returns-clause-reads g c told offs list =
    let f = g.S.Space.form c.args.s.now in
    let img = g.S.Space.image c.args.s.now in
    let Walked : Form → List ℕ → Type 0 = λ x i. Free x i (word x.order i free_head) offs → RoseUpTo (search_reads c.args.rec_len (free_pairs x i offs)) (g.S.Space.bytes_read c.len.new.self) (g.S.Space.bytes_read c.find_fit.new.s) in
    let walked = subst (λ x. Walked x img) c.len.ensures.form (subst (Walked (g.S.Space.form c.len.new.self)) c.len.ensures.image (c.find_fit.ensures.reads told offs)) list in
    record { no_more = omega (arith, walked.no_more, c.len.ensures.bytes_read, c.take_from.ensures.bytes_read.no_more); never_falls = omega (arith, walked.never_falls, c.len.ensures.bytes_read, c.take_from.ensures.bytes_read.never_falls) }
