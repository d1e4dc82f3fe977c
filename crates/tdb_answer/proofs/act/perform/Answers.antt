use Rattle.std.proofs.Common.{sym, subst}
use Rattle.tdb_cmdline.specs.declared.act.Verb.TheVariants.{Show, Delete}
use Rattle.tdb_answer.specs.Acts.{Acted}
use Rattle.tdb_answer.proofs.act.perform.Goals as goal

-- what these four do is the same whatever the limit is
pub returns-in-Show-clause-acted : goal.returns-in-Show-clause-acted
returns-in-Show-clause-acted g c told =
    let limit = c.args.act.now.limit in
    let old = g.D.Disk.history c.args.disk.now in
    let now = g.D.Disk.history c.show.new.disk in
    subst (λ verb. Acted limit verb old now c.show.result) (sym c.in-Show.is)
    (subst (λ key. Acted limit (Show key) old now c.show.result) c.as_slice.ensures (c.show.ensures.acted limit told))

pub returns-in-Delete-clause-acted : goal.returns-in-Delete-clause-acted
returns-in-Delete-clause-acted g c told =
    let limit = c.args.act.now.limit in
    let old = g.D.Disk.history c.args.disk.now in
    let now = g.D.Disk.history c.delete.new.disk in
    subst (λ verb. Acted limit verb old now c.delete.result) (sym c.in-Delete.is)
    (subst (λ key. Acted limit (Delete key) old now c.delete.result) c.as_slice-in-Delete.ensures (c.delete.ensures.acted limit told))

pub returns-in-Erase-clause-acted : goal.returns-in-Erase-clause-acted
returns-in-Erase-clause-acted g c told =
    let limit = c.args.act.now.limit in
    let old = g.D.Disk.history c.args.disk.now in
    let now = g.D.Disk.history c.erase.new.disk in
    subst (λ verb. Acted limit verb old now c.erase.result) (sym c.in-Erase.is) (c.erase.ensures.acted limit told)

pub returns-in-First-clause-acted : goal.returns-in-First-clause-acted
returns-in-First-clause-acted g c told =
    let limit = c.args.act.now.limit in
    let old = g.D.Disk.history c.args.disk.now in
    let now = g.D.Disk.history c.first.new.disk in
    subst (λ verb. Acted limit verb old now c.first.result) (sym c.in-First.is) (c.first.ensures.acted limit told)
