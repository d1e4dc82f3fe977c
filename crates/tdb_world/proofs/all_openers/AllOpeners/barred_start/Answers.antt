-- The Start waits for who is aside, or ends and leaves all else as it is.
use Rattle.std.proofs.Common.{◌≡◌, ◌<◌, ℕ, false, slice_set, Option, None, Some, sym, ◌∙◌, ap, subst}
use Rattle.std.proofs.lemmas.Bool.{false≢true}
use Rattle.tdb_law.specs.Commands.Reply.{Memory}
use Rattle.tdb_law.specs.Commands.Turn.{Blocked, Ends}
use Rattle.tdb_steps.specs.Holdings.{table_of}
use Rattle.tdb_txn_owner.specs.Holders.{HolderState}
use Rattle.tdb_commands.specs.InLaw.{law_opener}
use Rattle.tdb_world.specs.Steps.{TurnLeads}
use Rattle.tdb_world.specs.Whole.{Whole, WorldFits}
use Rattle.tdb_world.proofs.OwnStart.{dropped_fits, start_blocked, start_starved}
use Rattle.tdb_world.proofs.all_openers.AllOpeners.barred_start.Goals as goal

-- without the Start of this opener
abbrev without : ℕ → Whole → Whole
without who w = record w { starts = slice_set w.starts (law_opener who) false }

pub returns-then-holds-clause-turned : goal.returns-then-holds-clause-turned
returns-then-holds-clause-turned c img size h F state S =
    let w = c.args.self.now in
    let there = ap (λ (z : Whole). z.aside) (sym c.self.view_is) ∙ c.in-Some.is in
    subst (λ o. TurnLeads w w h h c.args.who (Blocked (law_opener o) 8)) (sym c.owner.ensures)
    (λ state S. start_blocked w (law_opener c.args.who) img size F c.requires.begun c.requires.fresh c.in-Some.holder there h (λ k past s side. (c.holds.ensures.law _ _ k past s side).0 c.if-holds.true) state S) state S

pub returns-clause-fits : goal.returns-clause-fits
returns-clause-fits c img size F =
    let now : c.drop_start.new.self ≡ without c.args.who c.args.self.now = c.drop_start.ensures in
    subst (λ z. WorldFits z img size) (sym now) (dropped_fits c.args.self.now (law_opener c.args.who) img size F)

pub returns-clause-turned : goal.returns-clause-turned
returns-clause-turned c img size h F =
    let w = c.args.self.now in
    let now : c.drop_start.new.self ≡ without c.args.who w = c.drop_start.ensures in
    let there = ap (λ (z : Whole). z.aside) (sym c.self.view_is) ∙ c.in-Some.is in
    subst (λ z. TurnLeads w z h h c.args.who (Ends Memory)) (sym now) (start_starved w (law_opener c.args.who) img size F c.requires.begun c.requires.fresh c.in-Some.holder there h)

-- the one aside is one opener
abbrev held_by : HolderState → Option HolderState → HolderState
held_by h None = h
held_by h (Some other) = other

pub returns-then-holds-clause-waits : goal.returns-then-holds-clause-waits
returns-then-holds-clause-waits c h there some =
    let mine = ap (λ (z : Whole). z.aside) (sym c.self.view_is) ∙ c.in-Some.is in
    let same : c.in-Some.holder ≡ h = ap (held_by h) (sym mine ∙ there) in
    ap (λ o. Blocked (law_opener o) 8) (c.owner.ensures ∙ ap (λ (z : HolderState). z.owner) same)

pub returns-clause-waits : goal.returns-clause-waits
returns-clause-waits c h there some =
    let mine = ap (λ (z : Whole). z.aside) (sym c.self.view_is) ∙ c.in-Some.is in
    let same : c.in-Some.holder ≡ h = ap (held_by h) (sym mine ∙ there) in
    absurd (false≢true (sym c.if-holds.false ∙ c.holds.ensures.table.1 (subst (λ (z : HolderState). 0 < table_of z.locks z.owner 8) (sym same) some)))
