use Rattle.std.proofs.Common.{rules, arith, ◌≤◌, ◌+◌, length, sym, ap, ◌∙◌, subst, refl, Some, Err, inl, inr}
use Rattle.tdb_script.proofs.LoopLemmas.{Reading, begun, read_more, read_all, read_bad, read_starved, read_long, ends_in}
use Rattle.tdb_script.proofs.script.read_script.Goals as goal
use Rattle.tdb_script.proofs.script.read_script.Goals.{else-is_long-via-then-is_long+else-end-ge-LONGEST_SCRIPT, else-is_long-via-else-is_long}

pub loop-left-init : goal.loop-left-init
loop-left-init c = subst (λ ps. Reading c.args.text.now ps 0 (Some c.args.text)) (sym c.new-plays.ensures) (begun c.args.text)

-- the line ends within the text
pub overflow_add-end : goal.overflow_add-end
overflow_add-end c =
    let g = subst (λ l. Reading c.args.text.now c.loop-left.plays c.loop-left.at l) c.in-Some.is c.loop-left.invariant in
    let within : c.loop-left.at + length c.first_line.result.0.now ≤ length c.args.text.now =
    ends_in c.args.text.now c.loop-left.plays c.loop-left.at c.in-Some.rest c.first_line.result.0.now c.first_line.result.1 g c.first_line.ensures.len in
    search rules

pub overflow_add-at : goal.overflow_add-at
overflow_add-at c =
    let g = subst (λ l. Reading c.args.text.now c.loop-left.plays c.loop-left.at l) c.in-Some.is c.loop-left.invariant in
    let within : c.loop-left.at + length c.first_line.result.0.now ≤ length c.args.text.now =
    ends_in c.args.text.now c.loop-left.plays c.loop-left.at c.in-Some.rest c.first_line.result.0.now c.first_line.result.1 g c.first_line.ensures.len in
    search rules

-- the longest script ends in the line
pub returns-then-end-ge-LONGEST_SCRIPT-clause-refused : goal.returns-then-end-ge-LONGEST_SCRIPT-clause-refused
returns-then-end-ge-LONGEST_SCRIPT-clause-refused c =
    let g = subst (λ l. Reading c.args.text.now c.loop-left.plays c.loop-left.at l) c.in-Some.is c.loop-left.invariant in
    read_long c.args.text.now c.loop-left.plays c.loop-left.at (c.loop-left.at + length c.first_line.result.0.now) c.in-Some.rest c.first_line.result.0.now c.first_line.result.1
    g c.first_line.ensures.lines c.if-is_long.true refl c.if-end-ge-LONGEST_SCRIPT.true

-- the line says nothing of a script
pub returns-in-Err-NoReading-clause-refused : goal.returns-in-Err-NoReading-clause-refused
returns-in-Err-NoReading-clause-refused c =
    let g = subst (λ l. Reading c.args.text.now c.loop-left.plays c.loop-left.at l) c.in-Some.is c.loop-left.invariant in
    let none = c.add_line.ensures.refused (c.in-Err-NoReading.is ∙ ap Err c.in-Err-NoReading.field-0-is) in
    elim c.else-is_long.branch [
      | else-is_long-via-then-is_long+else-end-ge-LONGEST_SCRIPT w ↦
          read_bad c.args.text.now c.loop-left.plays c.loop-left.at (c.loop-left.at + length c.first_line.result.0.now) c.in-Some.rest c.first_line.result.0.now
          c.first_line.result.1 g c.first_line.ensures.lines none refl (inr (omega arith))
      | else-is_long-via-else-is_long w ↦
          read_bad c.args.text.now c.loop-left.plays c.loop-left.at (c.loop-left.at + length c.first_line.result.0.now) c.in-Some.rest c.first_line.result.0.now
          c.first_line.result.1 g c.first_line.ensures.lines none refl (inl (omega arith))
    ]

-- memory is wanting for the line
pub returns-in-Err-Memory-clause-refused : goal.returns-in-Err-Memory-clause-refused
returns-in-Err-Memory-clause-refused c =
    let g = subst (λ l. Reading c.args.text.now c.loop-left.plays c.loop-left.at l) c.in-Some.is c.loop-left.invariant in
    let counts = c.add_line.ensures.wanting (c.in-Err-Memory.is ∙ ap Err c.in-Err-Memory.field-0-is) in
    elim c.else-is_long.branch [
      | else-is_long-via-then-is_long+else-end-ge-LONGEST_SCRIPT w ↦
          read_starved c.args.text.now c.loop-left.plays c.loop-left.at (c.loop-left.at + length c.first_line.result.0.now) c.in-Some.rest c.first_line.result.0.now
          c.first_line.result.1 g c.first_line.ensures.lines counts refl (inr (omega arith))
      | else-is_long-via-else-is_long w ↦
          read_starved c.args.text.now c.loop-left.plays c.loop-left.at (c.loop-left.at + length c.first_line.result.0.now) c.in-Some.rest c.first_line.result.0.now
          c.first_line.result.1 g c.first_line.ensures.lines counts refl (inl (omega arith))
    ]

-- the line says something
pub loop-left-preserved : goal.loop-left-preserved
loop-left-preserved c =
    let g = subst (λ l. Reading c.args.text.now c.loop-left.plays c.loop-left.at l) c.in-Some.is c.loop-left.invariant in
    let end = c.loop-left.at + length c.first_line.result.0.now in
    let said = c.in-Ok.ensures.read in
    subst (λ ps. Reading c.args.text.now ps (end + 1) c.first_line.result.1) (sym said.2) (elim c.else-is_long.branch [
      | else-is_long-via-then-is_long+else-end-ge-LONGEST_SCRIPT w ↦
          read_more c.args.text.now c.loop-left.plays c.loop-left.at end c.in-Some.rest c.first_line.result.0.now c.first_line.result.1 said.0
          g c.first_line.ensures.lines c.first_line.ensures.len said.1 refl (inr (omega arith))
      | else-is_long-via-else-is_long w ↦
          read_more c.args.text.now c.loop-left.plays c.loop-left.at end c.in-Some.rest c.first_line.result.0.now c.first_line.result.1 said.0
          g c.first_line.ensures.lines c.first_line.ensures.len said.1 refl (inl (omega arith))
    ])

-- every line was read
pub returns-clause-read : goal.returns-clause-read
returns-clause-read c =
    read_all c.args.text.now c.loop-left.plays c.loop-left.at (subst (λ l. Reading c.args.text.now c.loop-left.plays c.loop-left.at l) c.in_default.is c.loop-left.invariant)
