-- Each arm replies what the table says of its commands.
use Rattle.std.proofs.Common.{◌≡◌, Bool, Option, is_some, inl, inr, sym, ◌∙◌, ap, refl}
use Rattle.std.specs.Option.{option_map}
use Rattle.std.specs.Prelude.{None}
use Rattle.tdb_space.specs.Form.{Form, form_in}
use Rattle.tdb_locks.specs.HeldLocks.{HeldLocks, AreCounts}
use Rattle.tdb_locks.specs.declared.turn.Reply.{Reply}
use Rattle.tdb_law.specs.Refusals.{refusal, says}
use Rattle.tdb_commands.specs.InLaw.{law_command, law_reply}
use Rattle.tdb_commands.specs.declared.command.Command.{Command}
use Rattle.tdb_commands.specs.declared.options.Options.{Options}
use Rattle.tdb_openers.specs.Openers.{AtRest, own_with}
use Rattle.tdb_openers.proofs.ExplicitLocks.Asking.{change_told, held_told, told_in, told_law}
use Rattle.tdb_openers.proofs.refusing.refusal_by.Goals as goal

-- what is told of an opener with or without a cursor is the law's reply, wherever its cursor rests
abbrev Told : Form → Options → HeldLocks → Bool → Command → Option Reply → Type 0
Told f o held walks cmd r = (live : Bool) (rest : AtRest) → walks ≡ is_some rest.shown
    → option_map law_reply r ≡ option_map (says (own_with o live held rest)) (refusal f (law_command cmd) (own_with o live held rest))

arm : (f : Form) (o : Options) (held : HeldLocks) (walks : Bool) → AreCounts held.chains → (cmd k : Command) (r : Option Reply) → cmd ≡ k → r ≡ told_in f o.read_only held walks k → Told f o held walks cmd r
arm f o held walks counts cmd k r is e live rest same =
    ap (option_map law_reply) (e ∙ (ap (told_in f o.read_only held walks) (sym is) ∙ ap (λ w. told_in f o.read_only held w cmd) same)) ∙ told_law f o live held rest counts cmd

change_by : (read_only : Bool) (held : HeldLocks) (walks t u : Bool) → t ≡ u → change_told read_only held walks t ≡ change_told read_only held walks u
change_by read_only held walks t u e = ap (change_told read_only held walks) e

held_by : (held : HeldLocks) (walks t u : Bool) → t ≡ u → held_told held walks t ≡ held_told held walks u
held_by held walks t u e = ap (held_told held walks) e

pub returns-in-Check : goal.returns-in-Check
returns-in-Check c =
    let a = c.args in
    arm (form_in a.header.now) a.options.now a.held.now a.walks c.requires.counts a.command.now _ _ c.in-Check.is (c.held_if.ensures ∙ held_by a.held.now a.walks _ _ c.has_chains_or_cursor.ensures)

pub returns-in-Wipe : goal.returns-in-Wipe
returns-in-Wipe c =
    let a = c.args in
    arm (form_in a.header.now) a.options.now a.held.now a.walks c.requires.counts a.command.now _ _ c.in-Wipe.is (c.change_refusal.ensures ∙ change_by a.options.now.read_only a.held.now a.walks _ _ c.stops_wipe.ensures)

pub returns-in-ChainUnlock : goal.returns-in-ChainUnlock
returns-in-ChainUnlock c =
    let a = c.args in
    arm (form_in a.header.now) a.options.now a.held.now a.walks c.requires.counts a.command.now _ _ c.in-ChainUnlock.is c.unlock_refusal.ensures

pub returns-in-LockAll : goal.returns-in-LockAll
returns-in-LockAll c =
    let a = c.args in
    arm (form_in a.header.now) a.options.now a.held.now a.walks c.requires.counts a.command.now _ _ c.in-LockAll.is (c.held_if-in-LockAll.ensures ∙ held_by a.held.now a.walks _ _ c.stops_lock_all.ensures)

pub returns-in-LockAllRead : goal.returns-in-LockAllRead
returns-in-LockAllRead c =
    let a = c.args in
    arm (form_in a.header.now) a.options.now a.held.now a.walks c.requires.counts a.command.now _ _ c.in-LockAllRead.is (c.held_if-in-LockAllRead.ensures ∙ held_by a.held.now a.walks _ _ c.stops_lock_all_read.ensures)

pub returns-in-UnlockAll : goal.returns-in-UnlockAll
returns-in-UnlockAll c =
    let a = c.args in
    arm (form_in a.header.now) a.options.now a.held.now a.walks c.requires.counts a.command.now _ _ c.in-UnlockAll.is c.unlock_all_refusal.ensures

pub returns-in-Start : goal.returns-in-Start
returns-in-Start c =
    let a = c.args in
    arm (form_in a.header.now) a.options.now a.held.now a.walks c.requires.counts a.command.now _ _ c.in-Start.is (c.change_refusal-in-Start.ensures ∙ change_by a.options.now.read_only a.held.now a.walks _ _ c.stops_start.ensures)

pub returns-in-Commit : goal.returns-in-Commit
returns-in-Commit c =
    let a = c.args in
    elim c.in-Commit.is [
      | inl e ↦ arm (form_in a.header.now) a.options.now a.held.now a.walks c.requires.counts a.command.now _ _ e refl
      | inr more ↦ elim more [
        | inl e ↦ arm (form_in a.header.now) a.options.now a.held.now a.walks c.requires.counts a.command.now _ _ e refl
        | inr e ↦ arm (form_in a.header.now) a.options.now a.held.now a.walks c.requires.counts a.command.now _ _ e refl
      ]
    ]

pub returns-in-ChainLock : goal.returns-in-ChainLock
returns-in-ChainLock c =
    let a = c.args in
    let e = c.held_if-in-ChainLock.ensures ∙ held_by a.held.now a.walks _ _ c.has_read_all.ensures in
    elim c.in-ChainLock.is [
      | inl w ↦ arm (form_in a.header.now) a.options.now a.held.now a.walks c.requires.counts a.command.now _ _ w.1 e
      | inr w ↦ arm (form_in a.header.now) a.options.now a.held.now a.walks c.requires.counts a.command.now _ _ w.1 e
    ]

pub returns-in-Store : goal.returns-in-Store
returns-in-Store c =
    let a = c.args in
    let e = c.change_refusal-in-Store.ensures ∙ change_by a.options.now.read_only a.held.now a.walks _ _ c.has_read_all-in-Store.ensures in
    elim c.in-Store.is [
      | inl w ↦ arm (form_in a.header.now) a.options.now a.held.now a.walks c.requires.counts a.command.now _ _ w.3 e
      | inr more ↦ elim more [
        | inl w ↦ arm (form_in a.header.now) a.options.now a.held.now a.walks c.requires.counts a.command.now _ _ w.2 e
        | inr w ↦ arm (form_in a.header.now) a.options.now a.held.now a.walks c.requires.counts a.command.now _ _ w.1 e
      ]
    ]

pub returns-in-Fetch : goal.returns-in-Fetch
returns-in-Fetch c =
    let a = c.args in
    let at = λ (k : Command) (e : a.command.now ≡ k) (none : None ≡ told_in (form_in a.header.now) a.options.now.read_only a.held.now a.walks k). arm (form_in a.header.now) a.options.now a.held.now a.walks c.requires.counts a.command.now k None e none in
    elim c.in-Fetch.is [
      | inl w ↦ at _ w.1 refl
      | inr b ↦ elim b [
        | inl w ↦ at _ w.1 refl
        | inr d ↦ elim d [
          | inl e ↦ at _ e refl
          | inr g ↦ elim g [
            | inl e ↦ at _ e refl
            | inr h ↦ elim h [
              | inl e ↦ at _ e refl
              | inr i ↦ elim i [ inl e ↦ at _ e refl | inr e ↦ at _ e refl ]
            ]
          ]
        ]
      ]
    ]
