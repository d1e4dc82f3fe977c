-- The first fault of each stage, and the counts where no stage has one.
use Rattle.std.proofs.Common.{◌≡◌, ◌+◌, ◌++◌, Option, None, Some, IfSome, length, sum_by, sym, ◌∙◌, ap, subst, arith}
use Rattle.std.proofs.lemmas.Result.{err_from_is_err_and}
use Rattle.tdb_disk.specs.Count.{RoseUpTo}
use Rattle.tdb_space.specs.Form.{form_of, data_start}
use Rattle.tdb_space.specs.Accepted.{Accept}
use Rattle.tdb_space.specs.Extents.{area}
use Rattle.tdb_space.specs.FirstFault.{HeadsSound, area_fault, at_front, at_area}
use Rattle.tdb_check.specs.Area.{area_seen}
use Rattle.tdb_check.specs.Extent.{extents_seen}
use Rattle.tdb_check.specs.Lists.{ListsFollowed, FirstInLists}
use Rattle.tdb_check.specs.Reads.{sequence_reads, lists_reads}
use Rattle.tdb_check.specs.Report.{Counted}
use Rattle.tdb_check.specs.Stray.{FirstAmong, NoFaultAmong}
use Rattle.tdb_check.proofs.Checked.{lists_first, extents_first, all_accepted}
use Rattle.tdb_check.proofs.Following.{names_then}
use Rattle.tdb_check.proofs.Rising.{rose_then, rose_within}
use Rattle.tdb_check.proofs.Still.{still_then}
use Rattle.tdb_check.proofs.whole_file.check.Goals as goal

pub returns-in_err-len-clause-first_fault : goal.returns-in_err-len-clause-first_fault
returns-in_err-len-clause-first_fault g c =
    let p = err_from_is_err_and c.from_residual.result c.from_residual.ensures.1 in
    rw (p.1, p.2) (λ told same. names_then c.in_err-len.field-0.0 _ _ (λ fault h. at_front fault h) (c.in_err-len.ensures.bad told same))

pub returns-in_err-area-clause-first_fault : goal.returns-in_err-area-clause-first_fault
returns-in_err-area-clause-first_fault g c =
    let p = err_from_is_err_and c.from_residual-in_err-area.result c.from_residual-in_err-area.ensures.1 in
    let first = c.in_ok-len.ensures.looked in
    rw (p.1, p.2)
    (λ told same.
    (let front = c.in_ok-len.ensures.sound told same in
    let long : length (g.S.Space.image c.args.s.now) ≡ c.in_ok-len.len = g.met.S.Space.told_size c.args.s.now told ∙ sym c.in_ok-len.ensures.length in
    names_then c.in_err-area.field-0.0 _ _
    (λ fault h. at_area fault front.0 (still_then (λ f img. area_fault f img ≡ Some fault) (first.form ∙ front.1) first.image h))
    (c.in_err-area.ensures.bad told (ap length first.image ∙ long))))

pub returns-in_err-lists-clause-first_fault : goal.returns-in_err-lists-clause-first_fault
returns-in_err-lists-clause-first_fault g c =
    let p = err_from_is_err_and c.from_residual-in_err-lists.result c.from_residual-in_err-lists.ensures.1 in
    let first = c.in_ok-len.ensures.looked in
    let second = c.in_ok-area.ensures.looked in
    let quick = c.in_ok-report.ensures.looked in
    rw (p.1, p.2)
    (λ told same.
    (let front = c.in_ok-len.ensures.sound told same in
    let long : length (g.S.Space.image c.args.s.now) ≡ c.in_ok-len.len = g.met.S.Space.told_size c.args.s.now told ∙ sym c.in_ok-len.ensures.length in
    let none = c.in_ok-area.ensures.sound told (ap length first.image ∙ long) in
    let heads : HeadsSound (g.S.Space.image c.args.s.now) = (front.0, still_then (λ f img. area_fault f img ≡ None) (first.form ∙ front.1) first.image none.0) in
    names_then c.in_err-lists.field-0.0 _ _
    (λ fault h. lists_first (g.S.Space.image c.args.s.now) fault heads (still_then (λ f img. FirstInLists f img fault) (quick.form ∙ second.form ∙ first.form ∙ front.1) (quick.image ∙ second.image ∙ first.image) h))
    (c.in_err-lists.ensures.bad told (ap length (quick.image ∙ second.image ∙ first.image) ∙ long))))

pub returns-in_err-dead_bytes-clause-first_fault : goal.returns-in_err-dead_bytes-clause-first_fault
returns-in_err-dead_bytes-clause-first_fault g c =
    let p = err_from_is_err_and c.from_residual-in_err-dead_bytes.result c.from_residual-in_err-dead_bytes.ensures.1 in
    let first = c.in_ok-len.ensures.looked in
    let second = c.in_ok-area.ensures.looked in
    let quick = c.in_ok-report.ensures.looked in
    let third = c.in_ok-lists.ensures.looked in
    let l = c.in_ok-lists.lists in
    rw (p.1, p.2)
    (λ told same.
    (let img = g.S.Space.image c.args.s.now in
    let front = c.in_ok-len.ensures.sound told same in
    let long : length img ≡ c.in_ok-len.len = g.met.S.Space.told_size c.args.s.now told ∙ sym c.in_ok-len.ensures.length in
    let none = c.in_ok-area.ensures.sound told (ap length first.image ∙ long) in
    let heads : HeadsSound (g.S.Space.image c.args.s.now) = (front.0, still_then (λ f i. area_fault f i ≡ None) (first.form ∙ front.1) first.image none.0) in
    let followed = still_then (λ f i. ListsFollowed f i l) (quick.form ∙ second.form ∙ first.form ∙ front.1) (quick.image ∙ second.image ∙ first.image) (c.in_ok-lists.ensures.sound told (ap length (quick.image ∙ second.image ∙ first.image) ∙ long)) in
    let there : area_seen c.in_ok-area.area ≡ area (form_of img).order img = none.1 ∙ (λ j. area ((first.form ∙ front.1) j).order (first.image j)) in
    let seen : extents_seen c.put_area.new.extents.items ≡ extents_seen l.extents.items ++ area (form_of img).order img = c.in_ok-put_area.ensures ∙ ap (λ es. extents_seen l.extents.items ++ es) there in
    names_then c.in_err-dead_bytes.field-0.0 _ _
    (λ fault h. extents_first img l (extents_seen c.put_area.new.extents.items) fault heads followed seen
    (still_then (λ f i. FirstAmong (extents_seen c.put_area.new.extents.items) (data_start f) i fault) (third.form ∙ quick.form ∙ second.form ∙ first.form ∙ front.1) (third.image ∙ quick.image ∙ second.image ∙ first.image) h))
    (c.in_err-dead_bytes.ensures.bad told (ap length (third.image ∙ quick.image ∙ second.image ∙ first.image) ∙ long))))

pub returns-clause-accepted : goal.returns-clause-accepted
returns-clause-accepted g c told same =
    let first = c.in_ok-len.ensures.looked in
    let second = c.in_ok-area.ensures.looked in
    let quick = c.in_ok-report.ensures.looked in
    let third = c.in_ok-lists.ensures.looked in
    let l = c.in_ok-lists.lists in
    let img = g.S.Space.image c.args.s.now in
    let front = c.in_ok-len.ensures.sound told same in
    let long : length img ≡ c.in_ok-len.len = g.met.S.Space.told_size c.args.s.now told ∙ sym c.in_ok-len.ensures.length in
    let none = c.in_ok-area.ensures.sound told (ap length first.image ∙ long) in
    let heads : HeadsSound (g.S.Space.image c.args.s.now) = (front.0, still_then (λ f i. area_fault f i ≡ None) (first.form ∙ front.1) first.image none.0) in
    let followed = still_then (λ f i. ListsFollowed f i l) (quick.form ∙ second.form ∙ first.form ∙ front.1) (quick.image ∙ second.image ∙ first.image) (c.in_ok-lists.ensures.sound told (ap length (quick.image ∙ second.image ∙ first.image) ∙ long)) in
    let there : area_seen c.in_ok-area.area ≡ area (form_of img).order img = none.1 ∙ (λ j. area ((first.form ∙ front.1) j).order (first.image j)) in
    let seen : extents_seen c.put_area.new.extents.items ≡ extents_seen l.extents.items ++ area (form_of img).order img = c.in_ok-put_area.ensures ∙ ap (λ es. extents_seen l.extents.items ++ es) there in
    all_accepted img l (extents_seen c.put_area.new.extents.items) c.in_ok-dead_bytes.dead_bytes c.area_len.result heads followed seen
    (still_then (λ f i. NoFaultAmong (extents_seen c.put_area.new.extents.items) (data_start f) i c.in_ok-dead_bytes.dead_bytes) (third.form ∙ quick.form ∙ second.form ∙ first.form ∙ front.1) (third.image ∙ quick.image ∙ second.image ∙ first.image)
    (c.in_ok-dead_bytes.ensures.clean told (ap length (third.image ∙ quick.image ∙ second.image ∙ first.image) ∙ long)))
    (c.area_len.ensures ∙ ap (sum_by (λ e. e.1)) there)

pub returns-in_err-len-clause-bytes_in_all : goal.returns-in_err-len-clause-bytes_in_all
returns-in_err-len-clause-bytes_in_all g c told = rose_within _ _ _ _ c.in_err-len.ensures.bytes_read (omega arith)

pub returns-in_err-area-clause-bytes_in_all : goal.returns-in_err-area-clause-bytes_in_all
returns-in_err-area-clause-bytes_in_all g c told = rose_within _ _ _ _ (rose_then _ _ 196 _ _ _ c.in_ok-len.ensures.bytes_read c.in_err-area.ensures.bytes_read (omega arith)) (omega arith)

pub returns-in_err-lists-clause-bytes_in_all : goal.returns-in_err-lists-clause-bytes_in_all
returns-in_err-lists-clause-bytes_in_all g c told =
    let f = g.S.Space.form c.args.s.now in
    let img = g.S.Space.image c.args.s.now in
    let first = c.in_ok-len.ensures.looked in
    let second = c.in_ok-area.ensures.looked in
    let quick = c.in_ok-report.ensures.looked in
    let long : length img ≡ c.in_ok-len.len = g.met.S.Space.told_size c.args.s.now told ∙ sym c.in_ok-len.ensures.length in
    let front = rose_then _ _ 196 _ _ _ c.in_ok-len.ensures.bytes_read c.in_ok-area.ensures.bytes_read (omega arith) in
    let order = subst (λ i. RoseUpTo (sequence_reads i) (g.S.Space.bytes_read c.read_area.new.s) (g.S.Space.bytes_read c.check_in_sequence.new.s)) (second.image ∙ first.image)
    (c.in_ok-report.ensures.bytes_read told (ap length (second.image ∙ first.image) ∙ long)) in
    let heads = rose_then _ _ (196 + sequence_reads img) _ _ _ front order (omega arith) in
    let lists = still_then (λ h i. RoseUpTo (lists_reads 65 h i) (g.S.Space.bytes_read c.check_in_sequence.new.s) (g.S.Space.bytes_read c.follow_lists.new.s)) (quick.form ∙ second.form ∙ first.form) (quick.image ∙ second.image ∙ first.image)
    (c.in_err-lists.ensures.bytes_in_all told (ap length (quick.image ∙ second.image ∙ first.image) ∙ long)) in
    rose_then _ _ _ _ _ _ heads lists (omega arith)

pub returns-in_err-put_area-clause-bytes_in_all : goal.returns-in_err-put_area-clause-bytes_in_all
returns-in_err-put_area-clause-bytes_in_all g c told =
    let f = g.S.Space.form c.args.s.now in
    let img = g.S.Space.image c.args.s.now in
    let first = c.in_ok-len.ensures.looked in
    let second = c.in_ok-area.ensures.looked in
    let quick = c.in_ok-report.ensures.looked in
    let long : length img ≡ c.in_ok-len.len = g.met.S.Space.told_size c.args.s.now told ∙ sym c.in_ok-len.ensures.length in
    let front = rose_then _ _ 196 _ _ _ c.in_ok-len.ensures.bytes_read c.in_ok-area.ensures.bytes_read (omega arith) in
    let order = subst (λ i. RoseUpTo (sequence_reads i) (g.S.Space.bytes_read c.read_area.new.s) (g.S.Space.bytes_read c.check_in_sequence.new.s)) (second.image ∙ first.image)
    (c.in_ok-report.ensures.bytes_read told (ap length (second.image ∙ first.image) ∙ long)) in
    let heads = rose_then _ _ (196 + sequence_reads img) _ _ _ front order (omega arith) in
    let lists = still_then (λ h i. RoseUpTo (lists_reads 65 h i) (g.S.Space.bytes_read c.check_in_sequence.new.s) (g.S.Space.bytes_read c.follow_lists.new.s)) (quick.form ∙ second.form ∙ first.form) (quick.image ∙ second.image ∙ first.image)
    (c.in_ok-lists.ensures.bytes_in_all told (ap length (quick.image ∙ second.image ∙ first.image) ∙ long)) in
    rose_then _ _ _ _ _ _ heads lists (omega arith)

pub returns-in_err-dead_bytes-clause-bytes_in_all : goal.returns-in_err-dead_bytes-clause-bytes_in_all
returns-in_err-dead_bytes-clause-bytes_in_all g c told =
    let f = g.S.Space.form c.args.s.now in
    let img = g.S.Space.image c.args.s.now in
    let first = c.in_ok-len.ensures.looked in
    let second = c.in_ok-area.ensures.looked in
    let quick = c.in_ok-report.ensures.looked in
    let long : length img ≡ c.in_ok-len.len = g.met.S.Space.told_size c.args.s.now told ∙ sym c.in_ok-len.ensures.length in
    let front = rose_then _ _ 196 _ _ _ c.in_ok-len.ensures.bytes_read c.in_ok-area.ensures.bytes_read (omega arith) in
    let order = subst (λ i. RoseUpTo (sequence_reads i) (g.S.Space.bytes_read c.read_area.new.s) (g.S.Space.bytes_read c.check_in_sequence.new.s)) (second.image ∙ first.image)
    (c.in_ok-report.ensures.bytes_read told (ap length (second.image ∙ first.image) ∙ long)) in
    let heads = rose_then _ _ (196 + sequence_reads img) _ _ _ front order (omega arith) in
    let lists = still_then (λ h i. RoseUpTo (lists_reads 65 h i) (g.S.Space.bytes_read c.check_in_sequence.new.s) (g.S.Space.bytes_read c.follow_lists.new.s)) (quick.form ∙ second.form ∙ first.form) (quick.image ∙ second.image ∙ first.image)
    (c.in_ok-lists.ensures.bytes_in_all told (ap length (quick.image ∙ second.image ∙ first.image) ∙ long)) in
    rose_then (196 + sequence_reads img + lists_reads 65 f img) _ _ _ _ _ (rose_then _ _ _ _ _ _ heads lists (omega arith)) c.in_err-dead_bytes.ensures.bytes_read (omega (arith, long))

pub returns-clause-bytes_in_all : goal.returns-clause-bytes_in_all
returns-clause-bytes_in_all g c told =
    let f = g.S.Space.form c.args.s.now in
    let img = g.S.Space.image c.args.s.now in
    let first = c.in_ok-len.ensures.looked in
    let second = c.in_ok-area.ensures.looked in
    let quick = c.in_ok-report.ensures.looked in
    let long : length img ≡ c.in_ok-len.len = g.met.S.Space.told_size c.args.s.now told ∙ sym c.in_ok-len.ensures.length in
    let front = rose_then _ _ 196 _ _ _ c.in_ok-len.ensures.bytes_read c.in_ok-area.ensures.bytes_read (omega arith) in
    let order = subst (λ i. RoseUpTo (sequence_reads i) (g.S.Space.bytes_read c.read_area.new.s) (g.S.Space.bytes_read c.check_in_sequence.new.s)) (second.image ∙ first.image)
    (c.in_ok-report.ensures.bytes_read told (ap length (second.image ∙ first.image) ∙ long)) in
    let heads = rose_then _ _ (196 + sequence_reads img) _ _ _ front order (omega arith) in
    let lists = still_then (λ h i. RoseUpTo (lists_reads 65 h i) (g.S.Space.bytes_read c.check_in_sequence.new.s) (g.S.Space.bytes_read c.follow_lists.new.s)) (quick.form ∙ second.form ∙ first.form) (quick.image ∙ second.image ∙ first.image)
    (c.in_ok-lists.ensures.bytes_in_all told (ap length (quick.image ∙ second.image ∙ first.image) ∙ long)) in
    rose_then (196 + sequence_reads img + lists_reads 65 f img) _ _ _ _ _ (rose_then _ _ _ _ _ _ heads lists (omega arith)) c.in_ok-dead_bytes.ensures.bytes_read (omega (arith, long))

pub returns-clause-bytes_read : goal.returns-clause-bytes_read
returns-clause-bytes_read g c told =
    let f = g.S.Space.form c.args.s.now in
    let img = g.S.Space.image c.args.s.now in
    let first = c.in_ok-len.ensures.looked in
    let second = c.in_ok-area.ensures.looked in
    let quick = c.in_ok-report.ensures.looked in
    let long : length img ≡ c.in_ok-len.len = g.met.S.Space.told_size c.args.s.now told ∙ sym c.in_ok-len.ensures.length in
    let front = rose_then _ _ 196 _ _ _ c.in_ok-len.ensures.bytes_read c.in_ok-area.ensures.bytes_read (omega arith) in
    let order = subst (λ i. RoseUpTo (sequence_reads i) (g.S.Space.bytes_read c.read_area.new.s) (g.S.Space.bytes_read c.check_in_sequence.new.s)) (second.image ∙ first.image)
    (c.in_ok-report.ensures.bytes_read told (ap length (second.image ∙ first.image) ∙ long)) in
    let heads = rose_then _ _ (196 + sequence_reads img) _ _ _ front order (omega arith) in
    let lists = still_then (λ h i. RoseUpTo (lists_reads 1 h i) (g.S.Space.bytes_read c.check_in_sequence.new.s) (g.S.Space.bytes_read c.follow_lists.new.s)) (quick.form ∙ second.form ∙ first.form) (quick.image ∙ second.image ∙ first.image)
    (c.in_ok-lists.ensures.bytes_read told (ap length (quick.image ∙ second.image ∙ first.image) ∙ long)) in
    rose_then (196 + sequence_reads img + lists_reads 1 f img) _ _ _ _ _ (rose_then _ _ _ _ _ _ heads lists (omega arith)) c.in_ok-dead_bytes.ensures.bytes_read (omega (arith, long))

some_of : {X : Type 0} (o : Option X) (x : X) (P : X → Type 0) → o ≡ Some x → IfSome o P → P x
some_of o x P is h = subst (λ e. IfSome e P) is h

pub returns-in-Some-clause-accepted : goal.returns-in-Some-clause-accepted
returns-in-Some-clause-accepted g c told same =
    let first = c.in_ok-len.ensures.looked in
    let second = c.in_ok-area.ensures.looked in
    let img = g.S.Space.image c.args.s.now in
    let front = c.in_ok-len.ensures.sound told same in
    let long : length img ≡ c.in_ok-len.len = g.met.S.Space.told_size c.args.s.now told ∙ sym c.in_ok-len.ensures.length in
    let none = c.in_ok-area.ensures.sound told (ap length first.image ∙ long) in
    let heads : HeadsSound img = (front.0, still_then (λ f i. area_fault f i ≡ None) (first.form ∙ front.1) first.image none.0) in
    let image : g.S.Space.image c.read_area.new.s ≡ img = second.image ∙ first.image in
    let form : g.S.Space.form c.read_area.new.s ≡ form_of (g.S.Space.image c.read_area.new.s) = second.form ∙ first.form ∙ front.1 ∙ sym (ap form_of image) in
    let there : area_seen c.in_ok-area.area ≡ area (g.S.Space.form c.read_area.new.s).order (g.S.Space.image c.read_area.new.s) = none.1 ∙ (λ j. area (sym second.form j).order (sym second.image j)) in
    subst (λ i. Accept i × Counted i c.in-Some.report) image
    (some_of c.in_ok-report.field-0 c.in-Some.report _ c.in-Some.is c.in_ok-report.ensures.accepted told (ap length image ∙ long) form (subst HeadsSound (sym image) heads) there)
