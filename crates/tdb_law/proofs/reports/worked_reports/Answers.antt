-- The laws are the lemmas.
use Rattle.tdb_law.proofs.Reported.{row_of_two_right, row_of_commit_right, seen_early_wrong, blocked_by_nobody_wrong, done_unlocked_wrong, second_start_wrong, shown_twice_wrong}
use Rattle.tdb_law.proofs.Taken.{fetch_locks}
use Rattle.tdb_law.proofs.reports.worked_reports.Goals as goal

pub returns : goal.returns
returns c = record {
  turn = fetch_locks;
  two_openers = row_of_two_right;
  nine_turns = row_of_commit_right;
  early = seen_early_wrong;
  nobody = blocked_by_nobody_wrong;
  unlocked = done_unlocked_wrong;
  second = second_start_wrong;
  twice = shown_twice_wrong;
}
