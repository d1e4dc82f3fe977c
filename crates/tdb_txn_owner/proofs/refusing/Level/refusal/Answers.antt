-- Each way replies what the table says.
use Rattle.std.proofs.Common.{◌≡◌, Bool, true, false, Option, Some, refl, sym, ◌∙◌, ap}
use Rattle.std.specs.Prelude.{◌&&◌, not, if◌then◌else◌}
use Rattle.std.specs.Option.{option_map}
use Rattle.tdb_space.specs.Form.{form_in}
use Rattle.tdb_locks.specs.declared.turn.Reply.{Reply}
use Rattle.tdb_commands.specs.InLaw.{law_reply}
use Rattle.tdb_txn_owner.specs.Refusing.{is_writer, passes_prepared, inside_told}
use Rattle.tdb_txn_owner.proofs.Asked.{told_law}
use Rattle.tdb_txn_owner.proofs.refusing.Level.refusal.Goals as goal

-- the reply that these two tests choose
chosen : (forbidden closed : Bool) (r s t : Option Reply) (b c : Bool) → forbidden ≡ b → closed ≡ c → (if b then r else if c then s else t) ≡ (if forbidden then r else if closed then s else t)
chosen forbidden closed r s t b c first second = rw (first, second) refl

pub returns-then-is_forbidden : goal.returns-then-is_forbidden
returns-then-is_forbidden c x S =
    let a = c.args in
    let f = form_in a.header.now in
    let told = chosen (a.options.now.read_only && is_writer a.command.now) (a.self.prepared && not (passes_prepared a.command.now)) (Some Reply.ReadOnly) (Some Reply.InTransaction)
    (inside_told f a.self a.options.now.nesting a.held.now a.command.now) true (a.self.prepared && not (passes_prepared a.command.now)) (sym c.is_forbidden.ensures ∙ c.if-is_forbidden.true) refl in
    ap (option_map law_reply) told ∙ told_law f a.options.now a.self a.held.now x c.requires.counts S a.command.now

pub returns-then-is_closed : goal.returns-then-is_closed
returns-then-is_closed c x S =
    let a = c.args in
    let f = form_in a.header.now in
    let told = chosen (a.options.now.read_only && is_writer a.command.now) (a.self.prepared && not (passes_prepared a.command.now)) (Some Reply.ReadOnly) (Some Reply.InTransaction)
    (inside_told f a.self a.options.now.nesting a.held.now a.command.now) false true (sym c.is_forbidden.ensures ∙ c.if-is_forbidden.false) (sym c.is_closed.ensures ∙ c.if-is_closed.true) in
    ap (option_map law_reply) told ∙ told_law f a.options.now a.self a.held.now x c.requires.counts S a.command.now

pub returns : goal.returns
returns c x S =
    let a = c.args in
    let f = form_in a.header.now in
    let told = chosen (a.options.now.read_only && is_writer a.command.now) (a.self.prepared && not (passes_prepared a.command.now)) (Some Reply.ReadOnly) (Some Reply.InTransaction)
    (inside_told f a.self a.options.now.nesting a.held.now a.command.now) false false (sym c.is_forbidden.ensures ∙ c.if-is_forbidden.false) (sym c.is_closed.ensures ∙ c.if-is_closed.false) in
    ap (option_map law_reply) (c.refusal_inside.ensures ∙ told) ∙ told_law f a.options.now a.self a.held.now x c.requires.counts S a.command.now
