use Rattle.std.proofs.Common.{◌≡◌, ◌∙◌, [], true, false, Err, Some, Option, sym, ap, subst, inl, inr}
use Rattle.std.proofs.lemmas.Result.{on_ok_weaker, IfOk-weaker, IfErr-weaker}
use Rattle.tdb_disk.specs.History.{History, seen, began}
use Rattle.tdb_disk.specs.declared.files.Take.TheVariants.{ReadOnly, New}
use Rattle.tdb_answer.specs.Commands.Mend.{IsMended, MendLeft, StaysSynced, mend_ending}
use Rattle.tdb_answer.proofs.BackingUp.{untaken_counted, given_counted}
use Rattle.tdb_answer.proofs.Damaged.{stays_synced}
use Rattle.tdb_answer.proofs.Held.{held_there, same_or_other}
use Rattle.tdb_answer.proofs.Mending.{file_unmended, untaken_unmended, synced_there, line_text}
use Rattle.tdb_answer.proofs.commands.mend.mend_file.Goals as goal
use Rattle.tdb_answer.proofs.commands.mend.mend_file.Goals.{After-give}

-- it isn't to be made
not_new : ReadOnly ≡ New → ⊥
not_new is = cc

-- the file that was taken is what was held at its name
there : (g : _) (c : After-give g) → g.F.D.Disk.tells ≡ true → g.F.Files.held c.args.files.now c.args.file.now ≡ Some (g.F.D.Disk.history c.in-Ok.disk)
there g c told = held_there (g.F.Files.held c.args.files.now c.args.file.now) (began []) (g.F.D.Disk.history c.in-Ok.disk)
    (λ none. let wrong = (c.in-Ok.ensures.missing told).1 (none, not_new) in cc) (c.in-Ok.ensures.disk told)

-- the new file was made, or wasn't
pub returns-clause-made : goal.returns-clause-made
returns-clause-made g c =
    let a = (goal.at.returns-clause-made g c).After-give in
    let first = c.in-Ok.ensures.held_others c.args.new.now c.requires.differ in
    let last = sym (c.give.ensures.held_others c.args.new.now c.requires.differ) in
    let was = g.F.D.Disk.history c.in-Ok.disk in
    on_ok_weaker c.mend_disk-mended.result (λ made told.
    record { was = was; there = there g a told; mends = subst (λ (q : Option History × Option History). IsMended (seen was) q.0 q.1) (λ j. (first j, last j)) (made told) })
    c.mend_disk-mended.ensures.made

pub returns-clause-told : goal.returns-clause-told
returns-clause-told g c =
    let a = (goal.at.returns-clause-told g c).After-give in
    IfOk-weaker c.mend_disk-mended.result _ _ (λ n changed told e text stands.
    line_text (g.F.Files.held c.args.files.now c.args.file.now) (g.F.D.Disk.history c.in-Ok.disk) n e text (there g a told) (changed told) stands)
    c.mend_disk-mended.ensures.changed

pub returns-clause-refused : goal.returns-clause-refused
returns-clause-refused g c =
    let a = (goal.at.returns-clause-refused g c).After-give in
    let first = c.in-Ok.ensures.held_others c.args.new.now c.requires.differ in
    let last = sym (c.give.ensures.held_others c.args.new.now c.requires.differ) in
    let was = g.F.D.Disk.history c.in-Ok.disk in
    IfErr-weaker c.mend_disk-mended.result _ _ (λ e left told.
    inr (was, there g a told, subst (λ (q : Option History × Option History). MendLeft (seen was) c.args.new.now q.0 e q.1) (λ j. (first j, last j)) (left told)))
    c.mend_disk-mended.ensures.refused

pub returns-clause-kept : goal.returns-clause-kept
returns-clause-kept g c told =
    synced_there (g.F.Files.held c.args.files.now c.args.file.now) (g.F.Files.held c.give.new.self c.args.file.now) (g.F.D.Disk.history c.in-Ok.disk) (g.F.D.Disk.history c.mend_disk-mended.new.from)
    (there g ((goal.at.returns-clause-kept g c).After-give) told) (c.give.ensures.held told) c.mend_disk-mended.ensures.tried

pub returns-clause-counted : goal.returns-clause-counted
returns-clause-counted g c =
    given_counted (g.F.Files.faults c.args.files.now) (g.F.Files.faults c.take.new.self) (g.F.Files.faults c.mend_disk-mended.new.files) (g.F.Files.faults c.give.new.self)
    (g.F.D.Disk.faults c.in-Ok.disk) (g.F.D.Disk.faults c.mend_disk-mended.new.from) (mend_ending c.mend_disk-mended.result)
    c.in-Ok.ensures.cause.done c.in-Ok.ensures.disk_faults c.mend_disk-mended.ensures.counted c.give.ensures.sound c.give.ensures.faulty c.give.ensures.faults

-- the file wasn't taken
pub returns-in-Err-clause-refused : goal.returns-in-Err-clause-refused
returns-in-Err-clause-refused g c told =
    file_unmended c.args.file.now c.args.new.now (g.F.Files.held c.args.files.now c.args.file.now) (g.F.Files.held c.args.files.now c.args.new.now) (g.F.Files.held c.take.new.self c.args.new.now)
    c.in-Err.refusal c.untaken.result (c.in-Err.ensures.refused_held c.args.new.now) (λ is. ((c.in-Err.ensures.missing told).0 (ap Err is)).0) (λ is. not_new (c.in-Err.ensures.there_how (ap Err is))) c.untaken.ensures

pub returns-in-Err-clause-kept : goal.returns-in-Err-clause-kept
returns-in-Err-clause-kept g c told =
    let held = g.F.Files.held c.args.files.now c.args.file.now in
    subst (StaysSynced held) (sym (c.in-Err.ensures.refused_held c.args.file.now)) (stays_synced held)

pub returns-in-Err-clause-known : goal.returns-in-Err-clause-known
returns-in-Err-clause-known g c = untaken_unmended c.args.file.now c.in-Err.refusal c.untaken.result c.untaken.ensures

pub returns-in-Err-clause-counted : goal.returns-in-Err-clause-counted
returns-in-Err-clause-counted g c =
    untaken_counted (g.F.Files.faults c.args.files.now) (g.F.Files.faults c.take.new.self) c.args.file.now c.in-Err.refusal c.untaken.result
    c.in-Err.ensures.cause.never_falls c.in-Err.ensures.cause.failed c.in-Err.ensures.cause.refused c.untaken.ensures

-- every name is free: that of the file since it was given back, and each other one as before
pub returns-clause-given_back : goal.returns-clause-given_back
returns-clause-given_back g c other = elim (same_or_other other c.args.file.now) [
  | inl is ↦ subst (λ n. g.F.Files.is_taken c.give.new.self n ≡ false) (sym is) c.give.ensures.free
  | inr apart ↦ c.give.ensures.taken_others other apart ∙ c.mend_disk-mended.ensures.taken other ∙ c.in-Ok.ensures.taken_others other apart ∙ c.requires.free other
]
