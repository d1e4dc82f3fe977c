-- The command is done, and all else is as it was.
use Rattle.std.proofs.Common.{◌≡◌, ◌∙◌, ap}
use Rattle.tdb_law.specs.Commands.Command.{Seqnum}
use Rattle.tdb_openers.specs.Openers.{command_in}
use Rattle.tdb_openers.specs.Worlds.{World}
use Rattle.tdb_openers.proofs.Checks.AskedNumber.{asks_there, asked_world, asked_bytes, asked_state, asked_beside}
use Rattle.tdb_openers.proofs.Joining.Occupied.{one_task}
use Rattle.tdb_openers.proofs.Barred.ShutOut.{IsBarred}
use Rattle.tdb_openers.proofs.openers.Openers.end_seqnum.Goals as goal

pub returns-clause-ended : goal.returns-clause-ended
returns-clause-ended c img =
    let x = c.requires.asks.0 in
    let B = c.requires.asks.2 in
    let W = c.requires.stands.2 in
    asked_state B W (asks_there B W c.requires.asks.3) (c.drop_task.ensures x B.number) img

pub returns-clause-turned : goal.returns-clause-turned
returns-clause-turned c holder img past s x t B other O free =
    let W = c.requires.stands.2 in
    let D = c.requires.asks.2 in
    let asks : command_in t.job ≡ Seqnum = ap (λ u. command_in u.job) (one_task B D) ∙ c.requires.asks.3 in
    let C : IsBarred c.args.self.now img past s holder c.args.who x t c.requires.stands.0 c.requires.stands.1 = record { busy = B; other = other; shuts = O; stands = W } in
    asked_beside C (asks_there B W asks) (c.drop_task.ensures x B.number) free

pub returns-clause-stands : goal.returns-clause-stands
returns-clause-stands c img size W =
    let B = c.requires.asks.2 in
    asked_world B W (asks_there B W c.requires.asks.3) (c.drop_task.ensures c.requires.asks.0 B.number)

pub returns-clause-bytes : goal.returns-clause-bytes
returns-clause-bytes c img F =
    let B = c.requires.asks.2 in
    let W = c.requires.stands.2 in
    asked_bytes B W (asks_there B W c.requires.asks.3) (c.drop_task.ensures c.requires.asks.0 B.number) img F

pub returns-clause-header : goal.returns-clause-header
returns-clause-header c = let R = c.drop_task.ensures c.requires.asks.0 c.requires.asks.2.number in ap (λ (z : World). z.header) R.rest

pub returns-clause-options : goal.returns-clause-options
returns-clause-options c = let R = c.drop_task.ensures c.requires.asks.0 c.requires.asks.2.number in ap (λ (z : World). z.options) R.rest

pub returns-clause-others : goal.returns-clause-others
returns-clause-others c = let R = c.drop_task.ensures c.requires.asks.0 c.requires.asks.2.number in R.put.others

pub returns-clause-joined : goal.returns-clause-joined
returns-clause-joined c = let R = c.drop_task.ensures c.requires.asks.0 c.requires.asks.2.number in R.put.same_length
