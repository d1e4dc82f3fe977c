-- The laws of what the file is read as.
use Rattle.tdb_txn_owner.proofs.ReadAs.{prepare_reads, commit_reads, shut_commit_reads, finish_reads, shut_finish_reads, prepared_reads, rest_reads, end_reads}
use Rattle.tdb_txn_owner.proofs.reads.files_are_read.Goals as goal

pub returns-clause-prepare : goal.returns-clause-prepare
returns-clause-prepare c = prepare_reads

pub returns-clause-commit : goal.returns-clause-commit
returns-clause-commit c = commit_reads

pub returns-clause-commit_shut : goal.returns-clause-commit_shut
returns-clause-commit_shut c = shut_commit_reads

pub returns-clause-finish : goal.returns-clause-finish
returns-clause-finish c = finish_reads

pub returns-clause-finish_shut : goal.returns-clause-finish_shut
returns-clause-finish_shut c = shut_finish_reads

pub returns-clause-prepared : goal.returns-clause-prepared
returns-clause-prepared c = prepared_reads

pub returns-clause-rest : goal.returns-clause-rest
returns-clause-rest c = rest_reads

pub returns-clause-end : goal.returns-clause-end
returns-clause-end c = end_reads
