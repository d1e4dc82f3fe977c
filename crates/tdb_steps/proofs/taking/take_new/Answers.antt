-- A record is taken, or none can be.
use Rattle.std.proofs.Common.{◌+◌, ◌<◌, ◌^◌, [], ◌∷◌, ℕ, List, length, refl, sym, ◌∙◌, ap, subst, arith}
use Rattle.tdb_disk.specs.Count.{RoseUpTo}
use Rattle.tdb_space.specs.Chain.{free_of}
use Rattle.tdb_space.specs.Extents.{HandPair}
use Rattle.tdb_space.specs.Accepted.{AcceptWith}
use Rattle.tdb_space.specs.Stays.{ChainsStay}
use Rattle.tdb_space.specs.NewRecord.{rec_len_for}
use Rattle.tdb_free.proofs.Traded.{can_take}
use Rattle.tdb_free.specs.FreeList.{free_pairs}
use Rattle.tdb_free.specs.Reads.{take_reads}
use Rattle.tdb_free.specs.Growth.{CanBeTaken, TakenBy}
use Rattle.tdb_free.specs.OnlyList.{OnlyListChanges}
use Rattle.tdb_steps.proofs.Made.{moved, number_same, took_made, full_made, no_room, said_lengths}
use Rattle.tdb_steps.proofs.Stopped.{stopped_list}
use Rattle.tdb_space.proofs.Results.{ok_not}
use Rattle.tdb_steps.proofs.taking.take_new.Goals as goal

pub returns-in-Ok-take-clause-made : goal.returns-in-Ok-take-clause-made
returns-in-Ok-take-clause-made g c told small key asked others A known =
    let f = g.S.Space.form c.args.s.now in
    let a = g.S.Space.image c.args.s.now in
    let b = g.S.Space.image c.take.new.s in
    let h = c.in-Ok-take.hand in
    let short = g.met.S.Space.told_size c.args.s.now told in
    took_made f a b key asked c.args.found h others A known
    (moved (λ x img. (hands : List HandPair) → AcceptWith x img hands → ChainsStay x img b (h ∷ hands)) f (g.S.Space.form c.ready.new.self) a (g.S.Space.image c.ready.new.self) c.ready.ensures.form c.ready.ensures.image (c.in-Ok-take.ensures.kept told (omega (arith, c.ready.ensures.size, small))) others A)
    (number_same f a b (moved (λ x img. (offs : List ℕ) → CanBeTaken x img offs → OnlyListChanges x img b offs []) f (g.S.Space.form c.ready.new.self) a (g.S.Space.image c.ready.new.self) c.ready.ensures.form c.ready.ensures.image (c.take.ensures.only told) (free_of f a) (can_take f a others A (omega (arith, short, small)))).header)

pub returns-in-Ok-take-clause-rightly : goal.returns-in-Ok-take-clause-rightly
returns-in-Ok-take-clause-rightly g c told small =
    let f = g.S.Space.form c.args.s.now in
    let a = g.S.Space.image c.args.s.now in
    let b = g.S.Space.image c.take.new.s in
    let h = c.in-Ok-take.hand in
    let n = rec_len_for c.args.key_len c.args.value_len in
    let short : length a < 2 ^ 32 = omega (arith, g.met.S.Space.told_size c.args.s.now told, small) in (
      refl,
      λ hands A.
          moved (λ x img. (offs : List ℕ) → CanBeTaken x img offs → TakenBy x img b offs n c.args.limit h) f (g.S.Space.form c.ready.new.self) a (g.S.Space.image c.ready.new.self) c.ready.ensures.form c.ready.ensures.image
          (subst (λ m. (offs : List ℕ) → CanBeTaken (g.S.Space.form c.ready.new.self) (g.S.Space.image c.ready.new.self) offs → TakenBy (g.S.Space.form c.ready.new.self) (g.S.Space.image c.ready.new.self) b offs m c.args.limit h) c.rec_len_for-rec_len.ensures (c.in-Ok-take.ensures.taken told))
          (free_of f a) (can_take f a hands A short),
    )

pub returns-in-Err-Full-clause-made : goal.returns-in-Err-Full-clause-made
returns-in-Err-Full-clause-made g c told small key asked others A known =
    let f = g.S.Space.form c.args.s.now in
    let a = g.S.Space.image c.args.s.now in
    let b = g.S.Space.image c.take.new.s in
    let short : length a < 2 ^ 32 = omega (arith, g.met.S.Space.told_size c.args.s.now told, small) in
    let none = no_room f (g.S.Space.form c.ready.new.self) a (g.S.Space.image c.ready.new.self) b (rec_len_for c.args.key_len c.args.value_len) c.rec_len_for-rec_len.result c.args.limit c.in-Err-Full.len c.in-Err-Full.need c.in-Err-Full.field-0
    c.ready.ensures.form c.ready.ensures.image c.rec_len_for-rec_len.ensures c.in-Err-Full.field-0-is (c.in-Err-Full.ensures.full told) short others A in
    full_made f a b key asked c.args.found _ _ others A none.same

pub returns-in-Err-Full-clause-rightly : goal.returns-in-Err-Full-clause-rightly
returns-in-Err-Full-clause-rightly g c told small =
    let f = g.S.Space.form c.args.s.now in
    let a = g.S.Space.image c.args.s.now in
    let b = g.S.Space.image c.take.new.s in
    let short : length a < 2 ^ 32 = omega (arith, g.met.S.Space.told_size c.args.s.now told, small) in
    let says = said_lengths (g.S.Space.size c.ready.new.self) c.rec_len_for-rec_len.result c.in-Err-Full.len c.in-Err-Full.need c.in-Err-Full.field-0 c.in-Err-Full.field-0-is c.in-Err-Full.ensures.lengths in (
      c.in-Err-Full.len-is ∙ says.0 ∙ c.ready.ensures.size ∙ sym (g.met.S.Space.told_size c.args.s.now told),
      c.in-Err-Full.need-is ∙ says.1 ∙ ap (λ m. 24 + m) c.rec_len_for-rec_len.ensures,
      no_room f (g.S.Space.form c.ready.new.self) a (g.S.Space.image c.ready.new.self) b (rec_len_for c.args.key_len c.args.value_len) c.rec_len_for-rec_len.result c.args.limit c.in-Err-Full.len c.in-Err-Full.need c.in-Err-Full.field-0
          c.ready.ensures.form c.ready.ensures.image c.rec_len_for-rec_len.ensures c.in-Err-Full.field-0-is (c.in-Err-Full.ensures.full told) short,
    )

-- the take failed
pub returns-in-Err-Io-clause-stopped : goal.returns-in-Err-Io-clause-stopped
returns-in-Err-Io-clause-stopped g c told small key others A =
    let f = g.S.Space.form c.args.s.now in
    let a = g.S.Space.image c.args.s.now in
    let b = g.S.Space.image c.take.new.s in
    let short : length a < 2 ^ 32 = omega (arith, g.met.S.Space.told_size c.args.s.now told, small) in
    stopped_list f a b [] others A (λ i. omega arith)
    (moved (λ x img. (offs : List ℕ) → CanBeTaken x img offs → OnlyListChanges x img b offs []) f (g.S.Space.form c.ready.new.self) a (g.S.Space.image c.ready.new.self) c.ready.ensures.form c.ready.ensures.image (c.take.ensures.only told) (free_of f a) (can_take f a others A short))
    key

-- what was read
pub returns-in-Ok-take-clause-reads : goal.returns-in-Ok-take-clause-reads
returns-in-Ok-take-clause-reads g c told small hands A =
    let f = g.S.Space.form c.args.s.now in
    let a = g.S.Space.image c.args.s.now in
    let short : length a < 2 ^ 32 = omega (arith, g.met.S.Space.told_size c.args.s.now told, small) in
    let took = moved (λ x img. (offs : List ℕ) → CanBeTaken x img offs → RoseUpTo (take_reads c.rec_len_for-rec_len.result (free_pairs x img offs)) (g.S.Space.bytes_read c.ready.new.self) (g.S.Space.bytes_read c.take.new.s)) f (g.S.Space.form c.ready.new.self) a (g.S.Space.image c.ready.new.self)
    c.ready.ensures.form c.ready.ensures.image (c.take.ensures.reads told) (free_of f a) (can_take f a hands A short) in
    let same = ap (λ m. take_reads m (free_pairs f a (free_of f a))) c.rec_len_for-rec_len.ensures in
    record { no_more = omega (arith, took.no_more, same, c.ready.ensures.bytes_read); never_falls = omega (arith, took.never_falls, c.ready.ensures.bytes_read) }

pub returns-in-Err-Full-clause-reads : goal.returns-in-Err-Full-clause-reads
returns-in-Err-Full-clause-reads g c told small hands A =
    let f = g.S.Space.form c.args.s.now in
    let a = g.S.Space.image c.args.s.now in
    let short : length a < 2 ^ 32 = omega (arith, g.met.S.Space.told_size c.args.s.now told, small) in
    let took = moved (λ x img. (offs : List ℕ) → CanBeTaken x img offs → RoseUpTo (take_reads c.rec_len_for-rec_len.result (free_pairs x img offs)) (g.S.Space.bytes_read c.ready.new.self) (g.S.Space.bytes_read c.take.new.s)) f (g.S.Space.form c.ready.new.self) a (g.S.Space.image c.ready.new.self)
    c.ready.ensures.form c.ready.ensures.image (c.take.ensures.reads told) (free_of f a) (can_take f a hands A short) in
    let same = ap (λ m. take_reads m (free_pairs f a (free_of f a))) c.rec_len_for-rec_len.ensures in
    record { no_more = omega (arith, took.no_more, same, c.ready.ensures.bytes_read); never_falls = omega (arith, took.never_falls, c.ready.ensures.bytes_read) }

pub returns-in-Err-Io-clause-reads : goal.returns-in-Err-Io-clause-reads
returns-in-Err-Io-clause-reads g c told small hands A =
    let f = g.S.Space.form c.args.s.now in
    let a = g.S.Space.image c.args.s.now in
    let short : length a < 2 ^ 32 = omega (arith, g.met.S.Space.told_size c.args.s.now told, small) in
    let took = moved (λ x img. (offs : List ℕ) → CanBeTaken x img offs → RoseUpTo (take_reads c.rec_len_for-rec_len.result (free_pairs x img offs)) (g.S.Space.bytes_read c.ready.new.self) (g.S.Space.bytes_read c.take.new.s)) f (g.S.Space.form c.ready.new.self) a (g.S.Space.image c.ready.new.self)
    c.ready.ensures.form c.ready.ensures.image (c.take.ensures.reads told) (free_of f a) (can_take f a hands A short) in
    let same = ap (λ m. take_reads m (free_pairs f a (free_of f a))) c.rec_len_for-rec_len.ensures in
    record { no_more = omega (arith, took.no_more, same, c.ready.ensures.bytes_read); never_falls = omega (arith, took.never_falls, c.ready.ensures.bytes_read) }

-- where the room has no bound, it could be made
pub returns-in_default-clause-starves : goal.returns-in_default-clause-starves
returns-in_default-clause-starves g c is free = ok_not c.ready.result (c.ready.ensures.unbounded free) c.in_default.not-Ok
