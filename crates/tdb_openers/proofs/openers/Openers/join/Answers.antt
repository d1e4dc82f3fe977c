-- It joins as the law says, and the world stands as before.
use Rattle.tdb_openers.proofs.PlainTurns.Stepping.{ok_both}
use Rattle.tdb_openers.proofs.Joining.Coming.{ok_from, if_all, stands_joined, bytes_joined, joins_joined}
use Rattle.tdb_openers.proofs.openers.Openers.join.Goals as goal

pub returns-clause-stands : goal.returns-clause-stands
returns-clause-stands c =
    ok_both c.push_opener.result _ _ _ (λ who e few img size W. stands_joined c.args.self.now c.push_opener.new.self e img size W few) c.push_opener.ensures.joined c.push_opener.ensures.few

pub returns-clause-bytes : goal.returns-clause-bytes
returns-clause-bytes c = ok_from c.push_opener.result _ _ (λ who e img F. bytes_joined c.args.self.now c.push_opener.new.self e img F) c.push_opener.ensures.joined

pub returns-clause-joins : goal.returns-clause-joins
returns-clause-joins c =
    if_all c.push_opener.result _ _ _ _ (λ who e number few img size W. joins_joined c.args.self.now c.push_opener.new.self e img size who W number few)
    c.push_opener.ensures.joined c.push_opener.ensures.number c.push_opener.ensures.few
