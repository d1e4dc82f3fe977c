-- The bytes of a page were compared, and none between it and what was looked at before changes.
use Rattle.std.proofs.Common.{◌≡◌, ◌+◌, ◌*◌, ◌≤◌, ℕ, List, length, slice_index, sym, subst, arith, rules}
use Rattle.tdb_txn.specs.Pages.{page_size}
use Rattle.tdb_txn.proofs.Gathered.{found_skip}
use Rattle.tdb_txn.proofs.comparing.scan_page.Goals as goal

pub returns-clause-found : goal.returns-clause-found
returns-clause-found g c told x b blanked now between so_far =
    let old = c.args.comparison.now.old_length in
    let skip = c.args.comparison.now.skip in
    let at = c.args.page.now.number * page_size in
    let found = c.args.found.now in
    let fits : at + length c.read_old.new.buf ≤ old = search rules in
    let small : length c.read_old.new.buf ≤ page_size = search rules in
    c.scan_bytes.ensures.found x b old fits (c.in_ok-read_old.ensures.bytes told x blanked)
    (λ k low. subst (λ (ys : List ℕ). slice_index ys k ≡ slice_index b (at + k)) (sym c.deref.ensures.value) (now k (omega (arith, low, small)) (omega (arith, low, fits))))
    (found_skip x b old skip found at c.requires.behind (λ i from to here. here.differs (between i from to)) so_far)
