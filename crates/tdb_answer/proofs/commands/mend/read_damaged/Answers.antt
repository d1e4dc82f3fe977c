use Rattle.std.proofs.Common.{rules, ◌≡◌, ◌+◌, ◌≤◌, List, ℕ, None, length, drop, sym, ◌∙◌, ap, subst, inl, arith}
use Rattle.std.specs.Prelude.{IsTrue, ◌≢◌}
use Rattle.tdb_disk.specs.History.{Tried, seen, synced}
use Rattle.tdb_words.specs.Header.{header_at}
use Rattle.tdb_space.specs.Form.{form_in, form_of, data_start}
use Rattle.tdb_space.specs.Pairs.{order_of}
use Rattle.tdb_check.specs.Front.{Refuses}
use Rattle.tdb_check.specs.Seen.{Names}
use Rattle.tdb_mend.specs.Mutexes.{database_at, database_in}
use Rattle.tdb_mend.specs.Files.{looked_at, file_front_fault}
use Rattle.tdb_mend.specs.Mended.{mended, bytes_mended, CanBeMended, HasHeader, IsMendFault}
use Rattle.tdb_open.specs.declared.halt.Halt.TheVariants.{Log}
use Rattle.tdb_open.specs.declared.limits.TheConstants.{LONGEST_FILE}
use Rattle.tdb_open.proofs.Errors.{if_this_err}
use Rattle.tdb_open.proofs.Openings.{front_no_log, check_no_log}
use Rattle.tdb_answer.specs.Commands.Mend.{IsReadAs}
use Rattle.tdb_answer.specs.Damaged.{CanMend, MendHalts}
use Rattle.tdb_answer.proofs.Mending.{front_unmended, check_unmended}
use Rattle.tdb_answer.proofs.commands.mend.read_damaged.Goals as goal
use Rattle.tdb_answer.proofs.commands.mend.read_damaged.Goals.{After-mend}

-- nothing was written before it is mended
pub returns-in_err-len-clause-tried : goal.returns-in_err-len-clause-tried
returns-in_err-len-clause-tried g c = inl c.len.ensures.history

pub returns-then-len-gt-LONGEST_FILE-clause-tried : goal.returns-then-len-gt-LONGEST_FILE-clause-tried
returns-then-len-gt-LONGEST_FILE-clause-tried g c = inl c.len.ensures.history

-- a front that is refused
pub returns-in_err-database-clause-tried : goal.returns-in_err-database-clause-tried
returns-in_err-database-clause-tried g c = inl (c.find_database.ensures.history ∙ c.len.ensures.history)

pub returns-in_err-database-clause-refused : goal.returns-in_err-database-clause-refused
returns-in_err-database-clause-refused g c =
    let img = seen (g.D.Disk.history c.args.disk.now) in
    if_this_err (λ halt. IsTrue g.D.Disk.tells → MendHalts img halt) c.from_residual-in_err-database.result _ (search rules)
    (λ told. front_unmended img
    (omega (arith, g.met.D.Disk.told_size c.args.disk.now told, c.in_ok-len.ensures.length, c.if-len-gt-LONGEST_FILE.false))
    c.in_err-database.field-0.0
    (subst (λ h. Refuses (looked_at (seen h)) c.in_err-database.field-0.0) c.in_ok-len.ensures.history (c.in_err-database.ensures.refused told)))

pub returns-in_err-database-clause-no_log : goal.returns-in_err-database-clause-no_log
returns-in_err-database-clause-no_log g c = if_this_err (λ halt. halt ≢ Log) c.from_residual-in_err-database.result _ (search rules) (front_no_log c.in_err-database.field-0.0)

-- a sound one: the heads of the chains stand within the file
pub mend-requires-clause-heads : goal.mend-requires-clause-heads
mend-requires-clause-heads g c = subst (λ n. c.in_ok-database.database.start + data_start (form_in c.in_ok-database.database.header) ≤ n) (sym c.find_database.ensures.size) c.in_ok-database.ensures.long

pub mend-requires-clause-short : goal.mend-requires-clause-short
mend-requires-clause-short g c = omega (arith, c.find_database.ensures.size, c.len.ensures.size, c.in_ok-len.ensures.length, c.if-len-gt-LONGEST_FILE.false)

module _ (g : _) (c : After-mend g) where
  abbrev img : List ℕ
  img = seen (g.D.Disk.history c.args.disk.now)

  same : g.D.Disk.history c.find_database.new.d ≡ g.D.Disk.history c.args.disk.now
  same = c.find_database.ensures.history ∙ c.len.ensures.history

  abbrev looked : List ℕ
  looked = seen (g.D.Disk.history c.find_database.new.d)

  module _ (told : IsTrue g.D.Disk.tells) where
    within : length img ≤ LONGEST_FILE
    within = omega (arith, g.met.D.Disk.told_size c.args.disk.now told, c.in_ok-len.ensures.length, c.if-len-gt-LONGEST_FILE.false)

    front : file_front_fault img ≡ None
    front = subst (λ h. file_front_fault (seen h) ≡ None) c.in_ok-len.ensures.history (c.in_ok-database.ensures.header told).front

    -- the database stands where it was found
    behind : drop c.in_ok-database.database.start looked ≡ database_in looked
    behind = (λ j. drop (c.in_ok-database.ensures.start told j) looked) ∙ ap (λ h. drop (database_at (seen h)) looked) (sym c.find_database.ensures.history)

    has : HasHeader (drop c.in_ok-database.database.start looked) c.in_ok-database.database.header
    has =
        subst (λ x. HasHeader x c.in_ok-database.database.header) (sym behind)
        (subst (λ h. HasHeader (database_in (seen h)) c.in_ok-database.database.header) (sym c.find_database.ensures.history) (c.in_ok-database.ensures.header told))

-- it can't be mended
pub returns-in_err-file-clause-refused : goal.returns-in_err-file-clause-refused
returns-in_err-file-clause-refused g c =
    let a = (goal.at.returns-in_err-file-clause-refused g c).After-mend in
    if_this_err (λ halt. IsTrue g.D.Disk.tells → MendHalts (img g a) halt) c.from_residual-in_err-file.result _ (search rules)
    (λ told. check_unmended (img g a) (within g a told) (front g a told) c.in_err-file.field-0.0
    (subst (λ h. Names c.in_err-file.field-0.0 (IsMendFault (database_in (seen h)))) (same g a)
    (subst (λ x. Names c.in_err-file.field-0.0 (IsMendFault x)) (behind g a told) (c.in_err-file.ensures.refused told (has g a told)))))

pub returns-in_err-file-clause-no_log : goal.returns-in_err-file-clause-no_log
returns-in_err-file-clause-no_log g c = if_this_err (λ halt. halt ≢ Log) c.from_residual-in_err-file.result _ (search rules) (check_no_log c.in_err-file.field-0.0)

pub returns-in_err-file-clause-tried : goal.returns-in_err-file-clause-tried
returns-in_err-file-clause-tried g c =
    let a = (goal.at.returns-in_err-file-clause-tried g c).After-mend in
    subst (λ h. Tried synced h (g.D.Disk.history c.mend.new.d)) (same g a) c.mend.ensures.tried

-- it is read as the stock library would read it
pub returns-clause-can_mend : goal.returns-clause-can_mend
returns-clause-can_mend g c told =
    let a = (goal.at.returns-clause-can_mend g c).After-mend in
    subst (λ h. CanMend (seen h)) (same g a)
    (record {
      within = subst (λ h. length (seen h) ≤ LONGEST_FILE) (sym (same g a)) (within g a told);
      front = subst (λ h. file_front_fault (seen h) ≡ None) (sym (same g a)) (front g a told);
      mends = subst CanBeMended (behind g a told) (c.in_ok-file.ensures.accepted told (has g a told)).0;
    })

pub returns-clause-read : goal.returns-clause-read
returns-clause-read g c told =
    let a = (goal.at.returns-clause-read g c).After-mend in
    let at = behind g a told in
    let pairs = c.in_ok-file.ensures.same_pairs told (has g a told) in
    subst (λ h. IsReadAs c.in_ok-file.file (seen h)) (same g a)
    (record {
      readable = pairs.0;
      pairs = pairs.1 ∙ (λ j. order_of (form_of (mended (at j))) (mended (at j)));
      header = (c.in_ok-file.ensures.shown told (has g a told)).1 ∙ (λ j. header_at (mended (at j)));
      bytes = c.in_ok-file.ensures.bytes told (has g a told) ∙ ap bytes_mended at;
    })

pub returns-clause-length : goal.returns-clause-length
returns-clause-length g c = c.in_ok-file.ensures.length ∙ c.find_database.ensures.size ∙ c.len.ensures.size

pub returns-clause-most : goal.returns-clause-most
returns-clause-most g c = omega (arith, c.in_ok-file.ensures.length, c.find_database.ensures.size, c.len.ensures.size, c.in_ok-len.ensures.length, c.if-len-gt-LONGEST_FILE.false)

pub returns-clause-tried : goal.returns-clause-tried
returns-clause-tried g c =
    let a = (goal.at.returns-clause-tried g c).After-mend in
    subst (λ h. Tried synced h (g.D.Disk.history c.mend.new.d)) (same g a) c.mend.ensures.tried
