-- The file grew, what it gained was given, and the record is in the list then.
use Rattle.std.proofs.Common.{◌<◌, ◌^◌, length, sym, ◌∙◌, subst, arith, ◌+◌, List, ℕ, ◌∷◌, ap}
use Rattle.tdb_disk.specs.Count.{RoseUpTo}
use Rattle.tdb_words.specs.Word.{word}
use Rattle.tdb_space.specs.Form.{Form, free_head}
use Rattle.tdb_space.specs.Chain.{free_of, Free}
use Rattle.tdb_free.specs.FreeList.{free_pairs}
use Rattle.tdb_free.specs.Growth.{CanBeTaken, grown_length}
use Rattle.tdb_free.specs.Growth.TakenBy.{as_it_was}
use Rattle.tdb_free.specs.TakenFrom.{IsTaken}
use Rattle.tdb_free.specs.Reads.{give_reads, search_reads, write_reads}
use Rattle.tdb_free.proofs.Growth.{SecondLook, not_some, second_look, look_finds, look_takes, given_moved}
use Rattle.tdb_free.proofs.Costs.{pairs_long, second_search}
use Rattle.tdb_free.proofs.Accepted.{can_be_taken}
use Rattle.tdb_free.proofs.OnlyList.{take_only}
use Rattle.tdb_free.proofs.Traded.{can_take, taken_stays}
use Rattle.tdb_free.proofs.growing.take.Goals as goal

pub returns-in-Some-2-clause-taken : goal.returns-in-Some-2-clause-taken
returns-in-Some-2-clause-taken g c told offs C =
    let f = g.S.Space.form c.args.s.now in
    let a = g.S.Space.image c.args.s.now in
    let b = g.S.Space.image c.take_fit-2.new.s in
    let n = c.args.rec_len in
    let first = subst (IsTaken f a (g.S.Space.image c.take_fit.new.s) offs n) (not_some c.in_ok-hand.field-0 c.in_default.not-Some) (c.in_ok-hand.ensures.taken told offs C.listed C.short) in
    let sized = c.in_ok-len.ensures.length ∙ c.take_fit.ensures.size ∙ sym (g.met.S.Space.told_size c.args.s.now told) in
    let form = c.len.ensures.form ∙ c.take_fit.ensures.wrote.form in
    let look = second_look f a b offs n c.args.limit C c.requires.whole_words c.requires.least c.requires.limit (g.S.Space.form c.len.new.self) (g.S.Space.form c.grow_by.new.s)
    (g.S.Space.image c.len.new.self) (g.S.Space.image c.grow_by.new.s) c.in_ok-len.len c.in-Some-grown_length.to c.in_ok-hand-2.field-0 form (c.grow_by.ensures.wrote.form ∙ form)
    (c.len.ensures.image ∙ first.1) sized (sym c.grown_length.ensures ∙ c.in-Some-grown_length.is) (c.in_ok-grow_by.ensures.given told offs) (c.in_ok-hand-2.ensures.taken told) in
    look_takes f a b offs n c.args.limit c.in-Some-2.hand first.0 (subst (SecondLook f a b offs n c.args.limit) c.in-Some-2.is look)

pub returns-in-None-clause-full : goal.returns-in-None-clause-full
returns-in-None-clause-full g c told offs C =
    let f = g.S.Space.form c.args.s.now in
    let a = g.S.Space.image c.args.s.now in
    let b = g.S.Space.image c.take_fit-2.new.s in
    let n = c.args.rec_len in
    let first = subst (IsTaken f a (g.S.Space.image c.take_fit.new.s) offs n) (not_some c.in_ok-hand.field-0 c.in_default.not-Some) (c.in_ok-hand.ensures.taken told offs C.listed C.short) in
    let sized = c.in_ok-len.ensures.length ∙ c.take_fit.ensures.size ∙ sym (g.met.S.Space.told_size c.args.s.now told) in
    let form = c.len.ensures.form ∙ c.take_fit.ensures.wrote.form in
    let look = second_look f a b offs n c.args.limit C c.requires.whole_words c.requires.least c.requires.limit (g.S.Space.form c.len.new.self) (g.S.Space.form c.grow_by.new.s)
    (g.S.Space.image c.len.new.self) (g.S.Space.image c.grow_by.new.s) c.in_ok-len.len c.in-Some-grown_length.to c.in_ok-hand-2.field-0 form (c.grow_by.ensures.wrote.form ∙ form)
    (c.len.ensures.image ∙ first.1) sized (sym c.grown_length.ensures ∙ c.in-Some-grown_length.is) (c.in_ok-grow_by.ensures.given told offs) (c.in_ok-hand-2.ensures.taken told) in
    absurd (look_finds f a b offs n c.args.limit C c.requires.whole_words c.requires.least c.requires.limit (subst (SecondLook f a b offs n c.args.limit) c.in-None.is look))

pub returns-in_err-hand-2-clause-only : goal.returns-in_err-hand-2-clause-only
returns-in_err-hand-2-clause-only g c told offs C =
    let f = g.S.Space.form c.args.s.now in
    let a = g.S.Space.image c.args.s.now in
    let n = c.args.rec_len in
    let first = subst (IsTaken f a (g.S.Space.image c.take_fit.new.s) offs n) (not_some c.in_ok-hand.field-0 c.in_default.not-Some) (c.in_ok-hand.ensures.taken told offs C.listed C.short) in
    let sized = c.in_ok-len.ensures.length ∙ c.take_fit.ensures.size ∙ sym (g.met.S.Space.told_size c.args.s.now told) in
    let form = c.len.ensures.form ∙ c.take_fit.ensures.wrote.form in
    take_only f a (g.S.Space.image c.take_fit-2.new.s) offs n c.args.limit C c.requires.whole_words c.requires.least c.requires.limit (g.S.Space.form c.len.new.self) (g.S.Space.form c.grow_by.new.s)
    (g.S.Space.image c.len.new.self) (g.S.Space.image c.grow_by.new.s) c.in_ok-len.len c.in-Some-grown_length.to form (c.grow_by.ensures.wrote.form ∙ form)
    (c.len.ensures.image ∙ first.1) sized (sym c.grown_length.ensures ∙ c.in-Some-grown_length.is) (c.in_ok-grow_by.ensures.given told offs) (c.in_err-hand-2.ensures.only told)

pub returns-in-Some-2-clause-only : goal.returns-in-Some-2-clause-only
returns-in-Some-2-clause-only g c told offs C =
    let f = g.S.Space.form c.args.s.now in
    let a = g.S.Space.image c.args.s.now in
    let n = c.args.rec_len in
    let first = subst (IsTaken f a (g.S.Space.image c.take_fit.new.s) offs n) (not_some c.in_ok-hand.field-0 c.in_default.not-Some) (c.in_ok-hand.ensures.taken told offs C.listed C.short) in
    let sized = c.in_ok-len.ensures.length ∙ c.take_fit.ensures.size ∙ sym (g.met.S.Space.told_size c.args.s.now told) in
    let form = c.len.ensures.form ∙ c.take_fit.ensures.wrote.form in
    take_only f a (g.S.Space.image c.take_fit-2.new.s) offs n c.args.limit C c.requires.whole_words c.requires.least c.requires.limit (g.S.Space.form c.len.new.self) (g.S.Space.form c.grow_by.new.s)
    (g.S.Space.image c.len.new.self) (g.S.Space.image c.grow_by.new.s) c.in_ok-len.len c.in-Some-grown_length.to form (c.grow_by.ensures.wrote.form ∙ form)
    (c.len.ensures.image ∙ first.1) sized (sym c.grown_length.ensures ∙ c.in-Some-grown_length.is) (c.in_ok-grow_by.ensures.given told offs) (c.in_ok-hand-2.ensures.only told)

pub returns-in-None-clause-only : goal.returns-in-None-clause-only
returns-in-None-clause-only g c told offs C =
    let f = g.S.Space.form c.args.s.now in
    let a = g.S.Space.image c.args.s.now in
    let n = c.args.rec_len in
    let first = subst (IsTaken f a (g.S.Space.image c.take_fit.new.s) offs n) (not_some c.in_ok-hand.field-0 c.in_default.not-Some) (c.in_ok-hand.ensures.taken told offs C.listed C.short) in
    let sized = c.in_ok-len.ensures.length ∙ c.take_fit.ensures.size ∙ sym (g.met.S.Space.told_size c.args.s.now told) in
    let form = c.len.ensures.form ∙ c.take_fit.ensures.wrote.form in
    take_only f a (g.S.Space.image c.take_fit-2.new.s) offs n c.args.limit C c.requires.whole_words c.requires.least c.requires.limit (g.S.Space.form c.len.new.self) (g.S.Space.form c.grow_by.new.s)
    (g.S.Space.image c.len.new.self) (g.S.Space.image c.grow_by.new.s) c.in_ok-len.len c.in-Some-grown_length.to form (c.grow_by.ensures.wrote.form ∙ form)
    (c.len.ensures.image ∙ first.1) sized (sym c.grown_length.ensures ∙ c.in-Some-grown_length.is) (c.in_ok-grow_by.ensures.given told offs) (c.in_ok-hand-2.ensures.only told)

-- an accepted image stays so with the hand out, whether the list had a record that was long enough or the file grew
pub returns-in-Some-clause-kept : goal.returns-in-Some-clause-kept
returns-in-Some-clause-kept g c told small hands accepted =
    let f = g.S.Space.form c.args.s.now in
    let a = g.S.Space.image c.args.s.now in
    let b = g.S.Space.image c.take_fit.new.s in
    let n = c.args.rec_len in
    let hand = c.in-Some.hand in
    let short : length a < 2 ^ 32 = omega (arith, small, g.met.S.Space.told_size c.args.s.now told) in
    let offs = free_of f a in
    let T = subst (IsTaken f a b offs n) c.in-Some.is (c.in_ok-hand.ensures.taken told offs (can_be_taken f a hands accepted) short) in
    taken_stays f a b hands n c.args.limit hand accepted c.requires.whole_words c.requires.least (as_it_was T)

pub returns-in-Some-2-clause-kept : goal.returns-in-Some-2-clause-kept
returns-in-Some-2-clause-kept g c told small hands accepted =
    let f = g.S.Space.form c.args.s.now in
    let a = g.S.Space.image c.args.s.now in
    let short : length a < 2 ^ 32 = omega (arith, small, g.met.S.Space.told_size c.args.s.now told) in
    taken_stays f a (g.S.Space.image c.take_fit-2.new.s) hands c.args.rec_len c.args.limit c.in-Some-2.hand accepted c.requires.whole_words c.requires.least
    (returns-in-Some-2-clause-taken g c told (free_of f a) (can_take f a hands accepted short))

-- what was read up to each end, where the file didn't grow
pub returns-in_err-hand-clause-reads : goal.returns-in_err-hand-clause-reads
returns-in_err-hand-clause-reads g c told offs C =
    let first = c.take_fit.ensures.reads told offs C.listed.list in
    record { no_more = omega (arith, first.no_more); never_falls = omega (arith, first.never_falls) }

pub returns-in-Some-clause-reads : goal.returns-in-Some-clause-reads
returns-in-Some-clause-reads g c told offs C =
    let first = c.take_fit.ensures.reads told offs C.listed.list in
    record { no_more = omega (arith, first.no_more); never_falls = omega (arith, first.never_falls) }

pub returns-in_err-len-clause-reads : goal.returns-in_err-len-clause-reads
returns-in_err-len-clause-reads g c told offs C =
    let first = c.take_fit.ensures.reads told offs C.listed.list in
    record { no_more = omega (arith, first.no_more, c.len.ensures.bytes_read); never_falls = omega (arith, first.never_falls, c.len.ensures.bytes_read) }

pub returns-then-len-ne0-clause-reads : goal.returns-then-len-ne0-clause-reads
returns-then-len-ne0-clause-reads g c told offs C =
    let first = c.take_fit.ensures.reads told offs C.listed.list in
    record { no_more = omega (arith, first.no_more, c.len.ensures.bytes_read); never_falls = omega (arith, first.never_falls, c.len.ensures.bytes_read) }

pub returns-in_default-grown_length-clause-reads : goal.returns-in_default-grown_length-clause-reads
returns-in_default-grown_length-clause-reads g c told offs C =
    let first = c.take_fit.ensures.reads told offs C.listed.list in
    record { no_more = omega (arith, first.no_more, c.len.ensures.bytes_read); never_falls = omega (arith, first.never_falls, c.len.ensures.bytes_read) }

-- and where it grew
pub returns-in_err-grow_by-clause-reads : goal.returns-in_err-grow_by-clause-reads
returns-in_err-grow_by-clause-reads g c told offs C =
    let f = g.S.Space.form c.args.s.now in
    let a = g.S.Space.image c.args.s.now in
    let n = c.args.rec_len in
    let first = c.take_fit.ensures.reads told offs C.listed.list in
    let missed = subst (IsTaken f a (g.S.Space.image c.take_fit.new.s) offs n) (not_some c.in_ok-hand.field-0 c.in_default.not-Some) (c.in_ok-hand.ensures.taken told offs C.listed C.short) in
    let form = c.len.ensures.form ∙ c.take_fit.ensures.wrote.form in
    let Gave : Form → List ℕ → Type 0 = λ x i. CanBeTaken x i offs → RoseUpTo (give_reads (length offs)) (g.S.Space.bytes_read c.len.new.self) (g.S.Space.bytes_read c.grow_by.new.s) in
    let gave = subst (λ x. Gave x a) form (subst (Gave (g.S.Space.form c.len.new.self)) (c.len.ensures.image ∙ missed.1) (c.grow_by.ensures.reads told offs)) C in
    let long = pairs_long f a offs in
    record { no_more = omega (arith, first.no_more, c.len.ensures.bytes_read, gave.no_more, long); never_falls = omega (arith, first.never_falls, c.len.ensures.bytes_read, gave.never_falls) }

pub returns-in_err-hand-2-clause-reads : goal.returns-in_err-hand-2-clause-reads
returns-in_err-hand-2-clause-reads g c told offs C =
    let f = g.S.Space.form c.args.s.now in
    let a = g.S.Space.image c.args.s.now in
    let n = c.args.rec_len in
    let first = c.take_fit.ensures.reads told offs C.listed.list in
    let missed = subst (IsTaken f a (g.S.Space.image c.take_fit.new.s) offs n) (not_some c.in_ok-hand.field-0 c.in_default.not-Some) (c.in_ok-hand.ensures.taken told offs C.listed C.short) in
    let form = c.len.ensures.form ∙ c.take_fit.ensures.wrote.form in
    let Gave : Form → List ℕ → Type 0 = λ x i. CanBeTaken x i offs → RoseUpTo (give_reads (length offs)) (g.S.Space.bytes_read c.len.new.self) (g.S.Space.bytes_read c.grow_by.new.s) in
    let gave = subst (λ x. Gave x a) form (subst (Gave (g.S.Space.form c.len.new.self)) (c.len.ensures.image ∙ missed.1) (c.grow_by.ensures.reads told offs)) C in
    let long = pairs_long f a offs in
    let sized = c.in_ok-len.ensures.length ∙ c.take_fit.ensures.size ∙ sym (g.met.S.Space.told_size c.args.s.now told) in
    let grows = ap (λ m. grown_length m (24 + n) c.args.limit) (sym sized) ∙ sym c.grown_length.ensures ∙ c.in-Some-grown_length.is in
    let w = g.S.Space.image c.grow_by.new.s in
    let G = given_moved f (g.S.Space.form c.len.new.self) a (g.S.Space.image c.len.new.self) w offs c.in_ok-len.len c.in-Some-grown_length.to form (c.len.ensures.image ∙ missed.1) sized (c.in_ok-grow_by.ensures.given told offs) C in
    let Again : Form → Type 0 = λ x. (os : List ℕ) → Free x w (word x.order w free_head) os → RoseUpTo (search_reads n (free_pairs x w os) + write_reads 2 24) (g.S.Space.bytes_read c.grow_by.new.s) (g.S.Space.bytes_read c.take_fit-2.new.s) in
    let again = subst Again (c.grow_by.ensures.wrote.form ∙ form) (c.take_fit-2.ensures.reads told) (G.at ∷ G.stay) G.exchanged.linked in
    let short = second_search f a offs n c.args.limit c.in-Some-grown_length.to C c.requires.whole_words grows w G in
    record { no_more = omega (arith, first.no_more, c.len.ensures.bytes_read, gave.no_more, long, again.no_more, short); never_falls = omega (arith, first.never_falls, c.len.ensures.bytes_read, gave.never_falls, again.never_falls) }

pub returns-in-Some-2-clause-reads : goal.returns-in-Some-2-clause-reads
returns-in-Some-2-clause-reads g c told offs C =
    let f = g.S.Space.form c.args.s.now in
    let a = g.S.Space.image c.args.s.now in
    let n = c.args.rec_len in
    let first = c.take_fit.ensures.reads told offs C.listed.list in
    let missed = subst (IsTaken f a (g.S.Space.image c.take_fit.new.s) offs n) (not_some c.in_ok-hand.field-0 c.in_default.not-Some) (c.in_ok-hand.ensures.taken told offs C.listed C.short) in
    let form = c.len.ensures.form ∙ c.take_fit.ensures.wrote.form in
    let Gave : Form → List ℕ → Type 0 = λ x i. CanBeTaken x i offs → RoseUpTo (give_reads (length offs)) (g.S.Space.bytes_read c.len.new.self) (g.S.Space.bytes_read c.grow_by.new.s) in
    let gave = subst (λ x. Gave x a) form (subst (Gave (g.S.Space.form c.len.new.self)) (c.len.ensures.image ∙ missed.1) (c.grow_by.ensures.reads told offs)) C in
    let long = pairs_long f a offs in
    let sized = c.in_ok-len.ensures.length ∙ c.take_fit.ensures.size ∙ sym (g.met.S.Space.told_size c.args.s.now told) in
    let grows = ap (λ m. grown_length m (24 + n) c.args.limit) (sym sized) ∙ sym c.grown_length.ensures ∙ c.in-Some-grown_length.is in
    let w = g.S.Space.image c.grow_by.new.s in
    let G = given_moved f (g.S.Space.form c.len.new.self) a (g.S.Space.image c.len.new.self) w offs c.in_ok-len.len c.in-Some-grown_length.to form (c.len.ensures.image ∙ missed.1) sized (c.in_ok-grow_by.ensures.given told offs) C in
    let Again : Form → Type 0 = λ x. (os : List ℕ) → Free x w (word x.order w free_head) os → RoseUpTo (search_reads n (free_pairs x w os) + write_reads 2 24) (g.S.Space.bytes_read c.grow_by.new.s) (g.S.Space.bytes_read c.take_fit-2.new.s) in
    let again = subst Again (c.grow_by.ensures.wrote.form ∙ form) (c.take_fit-2.ensures.reads told) (G.at ∷ G.stay) G.exchanged.linked in
    let short = second_search f a offs n c.args.limit c.in-Some-grown_length.to C c.requires.whole_words grows w G in
    record { no_more = omega (arith, first.no_more, c.len.ensures.bytes_read, gave.no_more, long, again.no_more, short); never_falls = omega (arith, first.never_falls, c.len.ensures.bytes_read, gave.never_falls, again.never_falls) }

pub returns-in-None-clause-reads : goal.returns-in-None-clause-reads
returns-in-None-clause-reads g c told offs C =
    let f = g.S.Space.form c.args.s.now in
    let a = g.S.Space.image c.args.s.now in
    let n = c.args.rec_len in
    let first = c.take_fit.ensures.reads told offs C.listed.list in
    let missed = subst (IsTaken f a (g.S.Space.image c.take_fit.new.s) offs n) (not_some c.in_ok-hand.field-0 c.in_default.not-Some) (c.in_ok-hand.ensures.taken told offs C.listed C.short) in
    let form = c.len.ensures.form ∙ c.take_fit.ensures.wrote.form in
    let Gave : Form → List ℕ → Type 0 = λ x i. CanBeTaken x i offs → RoseUpTo (give_reads (length offs)) (g.S.Space.bytes_read c.len.new.self) (g.S.Space.bytes_read c.grow_by.new.s) in
    let gave = subst (λ x. Gave x a) form (subst (Gave (g.S.Space.form c.len.new.self)) (c.len.ensures.image ∙ missed.1) (c.grow_by.ensures.reads told offs)) C in
    let long = pairs_long f a offs in
    let sized = c.in_ok-len.ensures.length ∙ c.take_fit.ensures.size ∙ sym (g.met.S.Space.told_size c.args.s.now told) in
    let grows = ap (λ m. grown_length m (24 + n) c.args.limit) (sym sized) ∙ sym c.grown_length.ensures ∙ c.in-Some-grown_length.is in
    let w = g.S.Space.image c.grow_by.new.s in
    let G = given_moved f (g.S.Space.form c.len.new.self) a (g.S.Space.image c.len.new.self) w offs c.in_ok-len.len c.in-Some-grown_length.to form (c.len.ensures.image ∙ missed.1) sized (c.in_ok-grow_by.ensures.given told offs) C in
    let Again : Form → Type 0 = λ x. (os : List ℕ) → Free x w (word x.order w free_head) os → RoseUpTo (search_reads n (free_pairs x w os) + write_reads 2 24) (g.S.Space.bytes_read c.grow_by.new.s) (g.S.Space.bytes_read c.take_fit-2.new.s) in
    let again = subst Again (c.grow_by.ensures.wrote.form ∙ form) (c.take_fit-2.ensures.reads told) (G.at ∷ G.stay) G.exchanged.linked in
    let short = second_search f a offs n c.args.limit c.in-Some-grown_length.to C c.requires.whole_words grows w G in
    record { no_more = omega (arith, first.no_more, c.len.ensures.bytes_read, gave.no_more, long, again.no_more, short); never_falls = omega (arith, first.never_falls, c.len.ensures.bytes_read, gave.never_falls, again.never_falls) }
