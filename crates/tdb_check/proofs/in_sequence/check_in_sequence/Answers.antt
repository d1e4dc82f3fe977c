-- A file that was read in sequence, with lists that have just its records and keys that differ, and what was read of
-- it.
use Rattle.std.proofs.Common.{◌≡◌, ℕ, ◌+◌, ◌-◌, ◌*◌, ◌≤◌, None, Option, List, length, sym, ◌∙◌, ap, subst, arith}
use Rattle.std.proofs.lemmas.Result.{err_from_is_err_and}
use Rattle.tdb_disk.specs.Count.{RoseUpTo}
use Rattle.tdb_space.specs.Accepted.{KeysDiffer, Accept}
use Rattle.tdb_space.specs.Form.{Form, data_start}
use Rattle.tdb_check.specs.declared.extent.Extent.{Extent}
use Rattle.tdb_check.specs.declared.keys.Keys.{Keys}
use Rattle.tdb_check.specs.declared.all_links.AllLinks.{AllLinks}
use Rattle.tdb_check.specs.Links.{PutDown, AreLists, GatheredTo}
use Rattle.tdb_check.specs.Keys.{KeptIn}
use Rattle.tdb_check.specs.Reads.{key_bytes, sequence_reads}
use Rattle.tdb_check.specs.Report.{Counted}
use Rattle.tdb_check.proofs.Gathered.{accepted_in_sequence}
use Rattle.tdb_check.proofs.Rising.{rose_then}
use Rattle.tdb_check.proofs.SameViews.{same_view}
use Rattle.tdb_check.proofs.Still.{still_then}
use Rattle.tdb_check.proofs.in_sequence.check_in_sequence.Goals as goal

-- the records once, the heads once, and the keys 14 times
all_read : (f : Form) (img : List ℕ) (undo : Option Extent) (a : AllLinks) (keys rest : Keys) (len x y z w : ℕ) → length img ≡ len → GatheredTo f img undo None a keys len → key_bytes rest.noted.items ≤ key_bytes keys.noted.items
    → RoseUpTo (len - data_start f) x y → RoseUpTo (4 + 4 * f.chains) y z → RoseUpTo (14 * key_bytes rest.noted.items) z w → RoseUpTo (sequence_reads img) x w
all_read f img undo a keys rest len x y z w long g fewer records heads twins =
    let noted = ap key_bytes g.kept.noted in
    rose_then len _ _ _ _ _ (rose_then _ _ _ _ _ _ records heads (omega (arith, g.short))) twins (omega (arith, g.short, noted, long, fewer))

pub returns-in_err-differ-clause-no_fault : goal.returns-in_err-differ-clause-no_fault
returns-in_err-differ-clause-no_fault g c =
    let p = err_from_is_err_and c.from_residual-in_err-differ.result c.from_residual-in_err-differ.ensures.1 in
    let f = g.S.Space.form c.args.s.now in
    let img = g.S.Space.image c.args.s.now in
    let form = c.are_lists.ensures.looked.form ∙ c.gather.ensures.looked.form in
    let image = c.are_lists.ensures.looked.image ∙ c.gather.ensures.looked.image in
    rw (p.1, p.2)
    (λ told long.
    (let gathered = c.in_ok-gather.ensures.gathered c.if-not-branch.false told long (c.in_ok-lists.ensures.none f img) (c.in_ok-keys.ensures f img) in
    let alike = c.in_ok-keep_alike.ensures.kept f img gathered.xs gathered.kept in
    c.in_err-differ.ensures.no_fault told (ap length image ∙ long) alike.ys (same_view (λ h i. KeptIn h i alike.ys c.keep_alike.new.self) f (g.S.Space.form c.are_lists.new.s) img (g.S.Space.image c.are_lists.new.s) form image alike.kept)))

pub returns-in_err-differ-clause-bytes_read : goal.returns-in_err-differ-clause-bytes_read
returns-in_err-differ-clause-bytes_read g c told long =
    let f = g.S.Space.form c.args.s.now in
    let img = g.S.Space.image c.args.s.now in
    let gathered = c.in_ok-gather.ensures.gathered c.if-not-branch.false told long (c.in_ok-lists.ensures.none f img) (c.in_ok-keys.ensures f img) in
    let heads = subst (λ h. RoseUpTo (4 + 4 * h.chains) (g.S.Space.bytes_read c.gather.new.s) (g.S.Space.bytes_read c.are_lists.new.s)) c.gather.ensures.looked.form c.are_lists.ensures.bytes_read in
    all_read f img c.args.undo c.gather.new.lists c.gather.new.keys c.keep_alike.new.self c.args.len _ _ _ _ long gathered c.in_ok-keep_alike.ensures.bytes c.gather.ensures.bytes_read heads c.differ.ensures.bytes_read

pub returns-then-not-branch-3-clause-bytes_read : goal.returns-then-not-branch-3-clause-bytes_read
returns-then-not-branch-3-clause-bytes_read g c told long =
    let f = g.S.Space.form c.args.s.now in
    let img = g.S.Space.image c.args.s.now in
    let gathered = c.in_ok-gather.ensures.gathered c.if-not-branch.false told long (c.in_ok-lists.ensures.none f img) (c.in_ok-keys.ensures f img) in
    let heads = subst (λ h. RoseUpTo (4 + 4 * h.chains) (g.S.Space.bytes_read c.gather.new.s) (g.S.Space.bytes_read c.are_lists.new.s)) c.gather.ensures.looked.form c.are_lists.ensures.bytes_read in
    all_read f img c.args.undo c.gather.new.lists c.gather.new.keys c.keep_alike.new.self c.args.len _ _ _ _ long gathered c.in_ok-keep_alike.ensures.bytes c.gather.ensures.bytes_read heads c.differ.ensures.bytes_read

pub returns-clause-bytes_read : goal.returns-clause-bytes_read
returns-clause-bytes_read g c told long =
    let f = g.S.Space.form c.args.s.now in
    let img = g.S.Space.image c.args.s.now in
    let gathered = c.in_ok-gather.ensures.gathered c.if-not-branch.false told long (c.in_ok-lists.ensures.none f img) (c.in_ok-keys.ensures f img) in
    let heads = subst (λ h. RoseUpTo (4 + 4 * h.chains) (g.S.Space.bytes_read c.gather.new.s) (g.S.Space.bytes_read c.are_lists.new.s)) c.gather.ensures.looked.form c.are_lists.ensures.bytes_read in
    all_read f img c.args.undo c.gather.new.lists c.gather.new.keys c.keep_alike.new.self c.args.len _ _ _ _ long gathered c.in_ok-keep_alike.ensures.bytes c.gather.ensures.bytes_read heads c.differ.ensures.bytes_read

pub returns-clause-accepted : goal.returns-clause-accepted
returns-clause-accepted g c told long form heads there =
    let f = g.S.Space.form c.args.s.now in
    let img = g.S.Space.image c.args.s.now in
    let lists = c.gather.new.lists in
    let first = c.gather.ensures.looked in
    let form_there : g.S.Space.form c.are_lists.new.s ≡ f = c.are_lists.ensures.looked.form ∙ first.form in
    let image_there : g.S.Space.image c.are_lists.new.s ≡ img = c.are_lists.ensures.looked.image ∙ first.image in
    let gathered = c.in_ok-gather.ensures.gathered c.if-not-branch.false told long (c.in_ok-lists.ensures.none f img) (c.in_ok-keys.ensures f img) in
    let alike = c.in_ok-keep_alike.ensures.kept f img gathered.xs gathered.kept in
    let kept = same_view (λ h i. KeptIn h i alike.ys c.keep_alike.new.self) f (g.S.Space.form c.are_lists.new.s) img (g.S.Space.image c.are_lists.new.s) form_there image_there alike.kept in
    let differ = c.in_ok-differ.ensures.differ c.if-not-branch-3.false told (ap length image_there ∙ long) alike.ys kept in
    let put = same_view (λ h i. PutDown h i gathered.xs lists) f (g.S.Space.form c.gather.new.s) img (g.S.Space.image c.gather.new.s) first.form first.image gathered.put in
    let are = c.in_ok-are_lists.ensures.lists c.if-not-branch-2.false told gathered.xs put in
    subst (λ n. Accept img × Counted img (record { live = lists.live; dead_records = lists.dead; free_records = lists.free_records; dead_bytes = 0; area = n })) (sym c.area_len.ensures)
    (accepted_in_sequence f img c.args.len c.args.undo lists c.gather.new.keys long form heads there gathered
    (still_then (λ h i. AreLists h i lists) first.form first.image are)
    (alike.enough (still_then (λ h i. KeysDiffer h i alike.ys) form_there image_there differ)))
