-- The record was taken and linked, or it wasn't taken.
use Rattle.std.proofs.Common.{◌+◌, ◌<◌, ◌^◌, [], ℕ, List, length, sym, ◌∙◌, subst, arith, ◌≤◌, ap}
use Rattle.std.proofs.lemmas.Result.{err_from_is_err_and}
use Rattle.tdb_disk.specs.Count.{RoseUpTo}
use Rattle.tdb_space.specs.Chain.{free_of}
use Rattle.tdb_space.specs.NewRecord.{rec_len_for}
use Rattle.tdb_free.specs.FreeList.{free_pairs}
use Rattle.tdb_free.specs.Growth.{CanBeTaken, RefusedRightly, SaysLengths}
use Rattle.tdb_free.specs.Reads.{take_reads}
use Rattle.tdb_free.proofs.Traded.{can_take}
use Rattle.tdb_backup.proofs.Walk.{moved}
use Rattle.tdb_backup.proofs.Inserting.{stays_short, inserted, refused}
use Rattle.tdb_backup.proofs.Prepending.{put_first_there}
use Rattle.tdb_backup.specs.Filling.{Filled}
use Rattle.tdb_backup.proofs.Rooms.{filled}
use Rattle.tdb_backup.proofs.filling.insert_new.Goals as goal

pub returns-in_err-hand-clause-refused : goal.returns-in_err-hand-clause-refused
returns-in_err-hand-clause-refused g c =
    let p = err_from_is_err_and c.from_residual-in_err-hand.result c.from_residual-in_err-hand.ensures.1 in
    let f = g.S.Space.form c.args.s.now in
    let k = g.S.Space.form c.ready.new.self in
    let a = g.S.Space.image c.args.s.now in
    let v = g.S.Space.image c.ready.new.self in
    let b = g.S.Space.image c.take.new.s in
    let n = rec_len_for (length c.args.key.now) (length c.args.value.now) in
    let e = c.in_err-hand.field-0.0 in
    rw (p.1, p.2)
    (λ told small A.
    (let long = g.met.S.Space.told_size c.args.s.now told in
    let short : length a < 2 ^ 32 = omega (arith, long, small) in
    let full = subst (λ m. (offs : List ℕ) → CanBeTaken k v offs → RefusedRightly k v b offs m c.args.limit e) c.rec_len_for-rec_len.ensures (c.in_err-hand.ensures.full told) in
    let right = moved (λ x img. (offs : List ℕ) → CanBeTaken x img offs → RefusedRightly x img b offs n c.args.limit e) f k a v c.ready.ensures.form c.ready.ensures.image full (free_of f a) (can_take f a [] A short) in
    let says = subst (λ m. SaysLengths (g.S.Space.size c.ready.new.self) m e) c.rec_len_for-rec_len.ensures c.in_err-hand.ensures.lengths in
    refused f a b n c.args.limit (g.S.Space.size c.ready.new.self) e (c.ready.ensures.size ∙ sym long) right says))

pub returns-in-Some-clause-added : goal.returns-in-Some-clause-added
returns-in-Some-clause-added g c told small A none =
    let before : g.S.Space.size c.ready.new.self < 2 ^ 32 = omega (arith, c.ready.ensures.size, small) in
    let after : g.S.Space.size c.take.new.s < 2 ^ 32 = stays_short (g.S.Space.size c.ready.new.self) (g.S.Space.size c.ready.new.self) (24 + c.rec_len_for-rec_len.result) c.args.limit (g.S.Space.size c.take.new.s) before c.requires.limit c.take.ensures.size in
    inserted (g.S.Space.form c.args.s.now) (g.S.Space.form c.ready.new.self) (g.S.Space.form c.take.new.s) (g.S.Space.image c.args.s.now) (g.S.Space.image c.ready.new.self) (g.S.Space.image c.take.new.s) (g.S.Space.image c.link.new.s)
    c.args.key.now c.args.value.now c.in_ok-hand.hand c.in_ok-old.field-0 A none c.ready.ensures.form c.ready.ensures.image (c.take.ensures.wrote.form ∙ c.ready.ensures.form)
    (c.in_ok-hand.ensures.kept told before) (c.in_ok-old.ensures.set told after) (c.in_ok-old.ensures.back told after)

pub returns-in_default-clause-added : goal.returns-in_default-clause-added
returns-in_default-clause-added g c told small A none =
    let before : g.S.Space.size c.ready.new.self < 2 ^ 32 = omega (arith, c.ready.ensures.size, small) in
    let after : g.S.Space.size c.take.new.s < 2 ^ 32 = stays_short (g.S.Space.size c.ready.new.self) (g.S.Space.size c.ready.new.self) (24 + c.rec_len_for-rec_len.result) c.args.limit (g.S.Space.size c.take.new.s) before c.requires.limit c.take.ensures.size in
    inserted (g.S.Space.form c.args.s.now) (g.S.Space.form c.ready.new.self) (g.S.Space.form c.take.new.s) (g.S.Space.image c.args.s.now) (g.S.Space.image c.ready.new.self) (g.S.Space.image c.take.new.s) (g.S.Space.image c.link.new.s)
    c.args.key.now c.args.value.now c.in_ok-hand.hand c.in_ok-old.field-0 A none c.ready.ensures.form c.ready.ensures.image (c.take.ensures.wrote.form ∙ c.ready.ensures.form)
    (c.in_ok-hand.ensures.kept told before) (c.in_ok-old.ensures.set told after) (c.in_ok-old.ensures.back told after)

pub returns-in-Some-clause-first : goal.returns-in-Some-clause-first
returns-in-Some-clause-first g c told small A none =
    let f = g.S.Space.form c.args.s.now in
    let k = g.S.Space.form c.ready.new.self in
    let l = g.S.Space.form c.take.new.s in
    let a = g.S.Space.image c.args.s.now in
    let v = g.S.Space.image c.ready.new.self in
    let before : g.S.Space.size c.ready.new.self < 2 ^ 32 = omega (arith, c.ready.ensures.size, small) in
    let after : g.S.Space.size c.take.new.s < 2 ^ 32 = stays_short (g.S.Space.size c.ready.new.self) (g.S.Space.size c.ready.new.self) (24 + c.rec_len_for-rec_len.result) c.args.limit (g.S.Space.size c.take.new.s) before c.requires.limit c.take.ensures.size in
    let short : length a < 2 ^ 32 = omega (arith, g.met.S.Space.told_size c.args.s.now told, small) in
    put_first_there f k l a v (g.S.Space.image c.take.new.s) (g.S.Space.image c.link.new.s) c.args.key.now c.args.value.now c.rec_len_for-rec_len.result c.args.limit c.in_ok-hand.hand c.in_ok-old.field-0 A short
    (omega (arith, c.rec_len_for-rec_len.ensures)) (omega (arith, c.rec_len_for-rec_len.ensures)) c.requires.limit none c.ready.ensures.form c.ready.ensures.image (c.take.ensures.wrote.form ∙ c.ready.ensures.form)
    (c.in_ok-hand.ensures.kept told before) (c.in_ok-hand.ensures.taken told) (c.in_ok-old.ensures.set told after) (c.in_ok-old.ensures.back told after) (c.link.ensures.written told)

pub returns-in_default-clause-first : goal.returns-in_default-clause-first
returns-in_default-clause-first g c told small A none =
    let f = g.S.Space.form c.args.s.now in
    let k = g.S.Space.form c.ready.new.self in
    let l = g.S.Space.form c.take.new.s in
    let a = g.S.Space.image c.args.s.now in
    let v = g.S.Space.image c.ready.new.self in
    let before : g.S.Space.size c.ready.new.self < 2 ^ 32 = omega (arith, c.ready.ensures.size, small) in
    let after : g.S.Space.size c.take.new.s < 2 ^ 32 = stays_short (g.S.Space.size c.ready.new.self) (g.S.Space.size c.ready.new.self) (24 + c.rec_len_for-rec_len.result) c.args.limit (g.S.Space.size c.take.new.s) before c.requires.limit c.take.ensures.size in
    let short : length a < 2 ^ 32 = omega (arith, g.met.S.Space.told_size c.args.s.now told, small) in
    put_first_there f k l a v (g.S.Space.image c.take.new.s) (g.S.Space.image c.link.new.s) c.args.key.now c.args.value.now c.rec_len_for-rec_len.result c.args.limit c.in_ok-hand.hand c.in_ok-old.field-0 A short
    (omega (arith, c.rec_len_for-rec_len.ensures)) (omega (arith, c.rec_len_for-rec_len.ensures)) c.requires.limit none c.ready.ensures.form c.ready.ensures.image (c.take.ensures.wrote.form ∙ c.ready.ensures.form)
    (c.in_ok-hand.ensures.kept told before) (c.in_ok-hand.ensures.taken told) (c.in_ok-old.ensures.set told after) (c.in_ok-old.ensures.back told after) (c.link.ensures.written told)

pub returns-in-Some-clause-filled : goal.returns-in-Some-clause-filled
returns-in-Some-clause-filled g c told small A none =
    let f = g.S.Space.form c.args.s.now in
    let k = g.S.Space.form c.ready.new.self in
    let l = g.S.Space.form c.take.new.s in
    let a = g.S.Space.image c.args.s.now in
    let v = g.S.Space.image c.ready.new.self in
    let b = g.S.Space.image c.take.new.s in
    let d = g.S.Space.image c.link.new.s in
    let before : g.S.Space.size c.ready.new.self < 2 ^ 32 = omega (arith, c.ready.ensures.size, small) in
    let after : g.S.Space.size c.take.new.s < 2 ^ 32 = stays_short (g.S.Space.size c.ready.new.self) (g.S.Space.size c.ready.new.self) (24 + c.rec_len_for-rec_len.result) c.args.limit (g.S.Space.size c.take.new.s) before c.requires.limit c.take.ensures.size in
    let short : length a < 2 ^ 32 = omega (arith, g.met.S.Space.told_size c.args.s.now told, small) in
    subst (λ n. Filled f a d n c.args.limit) c.rec_len_for-rec_len.ensures
    (filled f k l a v b d c.args.key.now c.args.value.now c.rec_len_for-rec_len.result c.args.limit c.in_ok-hand.hand c.in_ok-old.field-0 A short
    (omega (arith, c.rec_len_for-rec_len.ensures)) (omega (arith, c.rec_len_for-rec_len.ensures)) c.requires.limit none c.ready.ensures.form c.ready.ensures.image (c.take.ensures.wrote.form ∙ c.ready.ensures.form)
    (c.in_ok-hand.ensures.kept told before) (c.in_ok-hand.ensures.taken told) (c.take.ensures.only told) (c.in_ok-old.ensures.set told after) (c.link.ensures.written told))

pub returns-in_default-clause-filled : goal.returns-in_default-clause-filled
returns-in_default-clause-filled g c told small A none =
    let f = g.S.Space.form c.args.s.now in
    let k = g.S.Space.form c.ready.new.self in
    let l = g.S.Space.form c.take.new.s in
    let a = g.S.Space.image c.args.s.now in
    let v = g.S.Space.image c.ready.new.self in
    let b = g.S.Space.image c.take.new.s in
    let d = g.S.Space.image c.link.new.s in
    let before : g.S.Space.size c.ready.new.self < 2 ^ 32 = omega (arith, c.ready.ensures.size, small) in
    let after : g.S.Space.size c.take.new.s < 2 ^ 32 = stays_short (g.S.Space.size c.ready.new.self) (g.S.Space.size c.ready.new.self) (24 + c.rec_len_for-rec_len.result) c.args.limit (g.S.Space.size c.take.new.s) before c.requires.limit c.take.ensures.size in
    let short : length a < 2 ^ 32 = omega (arith, g.met.S.Space.told_size c.args.s.now told, small) in
    subst (λ n. Filled f a d n c.args.limit) c.rec_len_for-rec_len.ensures
    (filled f k l a v b d c.args.key.now c.args.value.now c.rec_len_for-rec_len.result c.args.limit c.in_ok-hand.hand c.in_ok-old.field-0 A short
    (omega (arith, c.rec_len_for-rec_len.ensures)) (omega (arith, c.rec_len_for-rec_len.ensures)) c.requires.limit none c.ready.ensures.form c.ready.ensures.image (c.take.ensures.wrote.form ∙ c.ready.ensures.form)
    (c.in_ok-hand.ensures.kept told before) (c.in_ok-hand.ensures.taken told) (c.take.ensures.only told) (c.in_ok-old.ensures.set told after) (c.link.ensures.written told))

-- what was read
pub returns-in_err-hand-clause-reads : goal.returns-in_err-hand-clause-reads
returns-in_err-hand-clause-reads g c told small A =
    let f = g.S.Space.form c.args.s.now in
    let a = g.S.Space.image c.args.s.now in
    let short : length a < 2 ^ 32 = omega (arith, g.met.S.Space.told_size c.args.s.now told, small) in
    let took = moved (λ x img. (offs : List ℕ) → CanBeTaken x img offs → RoseUpTo (take_reads c.rec_len_for-rec_len.result (free_pairs x img offs)) (g.S.Space.bytes_read c.ready.new.self) (g.S.Space.bytes_read c.take.new.s)) f (g.S.Space.form c.ready.new.self) a (g.S.Space.image c.ready.new.self)
    c.ready.ensures.form c.ready.ensures.image (c.take.ensures.reads told) (free_of f a) (can_take f a [] A short) in
    let same = ap (λ m. take_reads m (free_pairs f a (free_of f a))) c.rec_len_for-rec_len.ensures in
    record { no_more = omega (arith, took.no_more, same, c.ready.ensures.bytes_read); never_falls = omega (arith, took.never_falls, c.ready.ensures.bytes_read) }

pub returns-in_err-old-clause-reads : goal.returns-in_err-old-clause-reads
returns-in_err-old-clause-reads g c told small A =
    let f = g.S.Space.form c.args.s.now in
    let a = g.S.Space.image c.args.s.now in
    let short : length a < 2 ^ 32 = omega (arith, g.met.S.Space.told_size c.args.s.now told, small) in
    let took = moved (λ x img. (offs : List ℕ) → CanBeTaken x img offs → RoseUpTo (take_reads c.rec_len_for-rec_len.result (free_pairs x img offs)) (g.S.Space.bytes_read c.ready.new.self) (g.S.Space.bytes_read c.take.new.s)) f (g.S.Space.form c.ready.new.self) a (g.S.Space.image c.ready.new.self)
    c.ready.ensures.form c.ready.ensures.image (c.take.ensures.reads told) (free_of f a) (can_take f a [] A short) in
    let same = ap (λ m. take_reads m (free_pairs f a (free_of f a))) c.rec_len_for-rec_len.ensures in
    let hand : c.in_ok-hand.hand.1 ≤ rec_len_for (length c.args.key.now) (length c.args.value.now) + 35 = omega (arith, c.in_ok-hand.ensures.no_longer, c.rec_len_for-rec_len.ensures) in
    record {
      no_more = omega (arith, took.no_more, same, c.ready.ensures.bytes_read, c.link.ensures.bytes_read.no_more, hand);
      never_falls = omega (arith, took.never_falls, c.ready.ensures.bytes_read, c.link.ensures.bytes_read.never_falls);
    }

pub returns-in-Some-clause-reads : goal.returns-in-Some-clause-reads
returns-in-Some-clause-reads g c told small A =
    let f = g.S.Space.form c.args.s.now in
    let a = g.S.Space.image c.args.s.now in
    let short : length a < 2 ^ 32 = omega (arith, g.met.S.Space.told_size c.args.s.now told, small) in
    let took = moved (λ x img. (offs : List ℕ) → CanBeTaken x img offs → RoseUpTo (take_reads c.rec_len_for-rec_len.result (free_pairs x img offs)) (g.S.Space.bytes_read c.ready.new.self) (g.S.Space.bytes_read c.take.new.s)) f (g.S.Space.form c.ready.new.self) a (g.S.Space.image c.ready.new.self)
    c.ready.ensures.form c.ready.ensures.image (c.take.ensures.reads told) (free_of f a) (can_take f a [] A short) in
    let same = ap (λ m. take_reads m (free_pairs f a (free_of f a))) c.rec_len_for-rec_len.ensures in
    let hand : c.in_ok-hand.hand.1 ≤ rec_len_for (length c.args.key.now) (length c.args.value.now) + 35 = omega (arith, c.in_ok-hand.ensures.no_longer, c.rec_len_for-rec_len.ensures) in
    record {
      no_more = omega (arith, took.no_more, same, c.ready.ensures.bytes_read, c.link.ensures.bytes_read.no_more, hand);
      never_falls = omega (arith, took.never_falls, c.ready.ensures.bytes_read, c.link.ensures.bytes_read.never_falls);
    }

pub returns-in_default-clause-reads : goal.returns-in_default-clause-reads
returns-in_default-clause-reads g c told small A =
    let f = g.S.Space.form c.args.s.now in
    let a = g.S.Space.image c.args.s.now in
    let short : length a < 2 ^ 32 = omega (arith, g.met.S.Space.told_size c.args.s.now told, small) in
    let took = moved (λ x img. (offs : List ℕ) → CanBeTaken x img offs → RoseUpTo (take_reads c.rec_len_for-rec_len.result (free_pairs x img offs)) (g.S.Space.bytes_read c.ready.new.self) (g.S.Space.bytes_read c.take.new.s)) f (g.S.Space.form c.ready.new.self) a (g.S.Space.image c.ready.new.self)
    c.ready.ensures.form c.ready.ensures.image (c.take.ensures.reads told) (free_of f a) (can_take f a [] A short) in
    let same = ap (λ m. take_reads m (free_pairs f a (free_of f a))) c.rec_len_for-rec_len.ensures in
    let hand : c.in_ok-hand.hand.1 ≤ rec_len_for (length c.args.key.now) (length c.args.value.now) + 35 = omega (arith, c.in_ok-hand.ensures.no_longer, c.rec_len_for-rec_len.ensures) in
    record {
      no_more = omega (arith, took.no_more, same, c.ready.ensures.bytes_read, c.link.ensures.bytes_read.no_more, hand);
      never_falls = omega (arith, took.never_falls, c.ready.ensures.bytes_read, c.link.ensures.bytes_read.never_falls);
    }
