use Rattle.tdb_commands.proofs.NameLemmas.{each_command, each_reply, each_turn, each_play, each_line}
use Rattle.tdb_commands.proofs.laws.law_names.Goals as goal

pub returns-clause-commands : goal.returns-clause-commands
returns-clause-commands c = each_command

pub returns-clause-replies : goal.returns-clause-replies
returns-clause-replies c = each_reply

pub returns-clause-turns : goal.returns-clause-turns
returns-clause-turns c = each_turn

pub returns-clause-plays : goal.returns-clause-plays
returns-clause-plays c = each_play

pub returns-clause-lines : goal.returns-clause-lines
returns-clause-lines c = each_line
