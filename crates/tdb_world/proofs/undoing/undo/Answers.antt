-- The sync leaves what is seen of the file, and no undo makes it longer.
use Rattle.std.proofs.Common.{◌≡◌, ℕ, ◌+◌, ◌⊎◌, List, if◌then◌else◌, IsTrue, inl, inr, sym, ◌∙◌, ap, subst}
use Rattle.tdb_disk.specs.Count.{RoseBy}
use Rattle.tdb_disk.specs.History.{History, seen}
use Rattle.tdb_disk.specs.Stop.{LeavesOnly, Quiet}
use Rattle.tdb_disk.proofs.Runs.{quiet_synced}
use Rattle.tdb_space.specs.Accepted.{Shut}
use Rattle.tdb_space.specs.Form.{form_in, form_of, Form}
use Rattle.tdb_space.specs.Opening.{entries, is_open, restored, Mild, Opens}
use Rattle.tdb_space.specs.Undoing.{Reopens}
use Rattle.tdb_undo.specs.Entries.{lengths}
use Rattle.tdb_undo.specs.Recovery.{recovery_syncs}
use Rattle.tdb_world.specs.Stops.{IsSafe}
use Rattle.tdb_world.proofs.GateUndone.{restored_by, rose_then}
use Rattle.tdb_world.proofs.SafeUndo.{never_cut, sync_stops, undo_stops}
use Rattle.tdb_world.proofs.Spared.{still_stops}
use Rattle.tdb_world.proofs.undoing.undo.Given
use Rattle.tdb_world.proofs.undoing.undo.Goals as goal
use Rattle.tdb_world.proofs.undoing.undo.Goals.{After-cut_back, After-put_back, After-sync}

pub returns-clause-restored : goal.returns-clause-restored
returns-clause-restored g c told =
    restored_by (form_in c.args.header.now) (g.D.Disk.history c.args.d.now) (g.D.Disk.history c.sync.new.self) (g.D.Disk.history c.put_back.new.d) (g.D.Disk.history c.cut_back.new.d)
    c.in_ok-len.len (g.D.Disk.size c.put_back.new.d) (ap seen (c.in_ok-sync.ensures.done told) ∙ ap seen c.len.ensures.history) (c.in_ok-bytes.ensures.restored told)
    (c.in_ok-len.ensures.length ∙ sym (g.met.D.Disk.told_size c.args.d.now told)) (g.met.D.Disk.told_size c.put_back.new.d told) c.cut_back.ensures.still

pub returns-clause-bytes : goal.returns-clause-bytes
returns-clause-bytes g c told =
    let f = form_in c.args.header.now in
    subst (λ a. form_of a ≡ f → Opens a → c.in_ok-bytes.bytes ≡ (if is_open f a then lengths (entries f a) else 0)) (ap seen (c.in_ok-sync.ensures.done told) ∙ ap seen c.len.ensures.history) (c.in_ok-bytes.ensures.bytes told)

pub returns-clause-syncs : goal.returns-clause-syncs
returns-clause-syncs g c told is opens =
    let f = form_in c.args.header.now in
    let a = seen (g.D.Disk.history c.args.d.now) in
    let n = recovery_syncs f a in
    let undone = subst (λ a. form_of a ≡ f → Opens a → RoseBy (recovery_syncs f a) (g.D.Disk.syncs c.sync.new.self) (g.D.Disk.syncs c.put_back.new.d)) (ap seen (c.in_ok-sync.ensures.done told) ∙ ap seen c.len.ensures.history)
    (c.in_ok-bytes.ensures.syncs told) is opens in
    subst (λ z. RoseBy (1 + n) z (g.D.Disk.syncs c.cut_back.new.d)) c.len.ensures.syncs
    (subst (RoseBy (1 + n) (g.D.Disk.syncs c.len.new.self)) (sym c.cut_back.ensures.syncs)
    (rose_then 1 n (g.D.Disk.syncs c.len.new.self) (g.D.Disk.syncs c.sync.new.self) (g.D.Disk.syncs c.put_back.new.d) c.in_ok-sync.ensures.syncs undone))

pub returns-in_err-len-clause-stops : goal.returns-in_err-len-clause-stops
returns-in_err-len-clause-stops g c told safe form opens again =
    still_stops (form_in c.args.header.now) (g.D.Disk.history c.args.d.now) (g.D.Disk.history c.len.new.self) c.len.ensures.history safe

-- what a stop leaves of the sync, whatever it answered
module _ (g : Given.Over) (c : After-sync g) where
  sync_leaves : IsSafe (form_in c.args.header.now) (g.D.Disk.history c.args.d.now)
      → LeavesOnly (g.D.Disk.history c.args.d.now) (g.D.Disk.history c.sync.new.self) (Reopens (restored (form_in c.args.header.now) (seen (g.D.Disk.history c.args.d.now))))
  sync_leaves = sync_stops (form_in c.args.header.now) (g.D.Disk.history c.args.d.now) (g.D.Disk.history c.len.new.self) (g.D.Disk.history c.sync.new.self) c.len.ensures.history c.sync.ensures.tried

pub returns-in_err-sync-clause-stops : goal.returns-in_err-sync-clause-stops
returns-in_err-sync-clause-stops g c told safe form opens again = sync_leaves g (goal.at.returns-in_err-sync-clause-stops g c).After-sync safe

-- and of the undo
module _ (g : Given.Over) (c : After-put_back g) (told : IsTrue g.D.Disk.tells) where
  abbrev f : Form
  f = form_in c.args.header.now

  abbrev h : History
  h = g.D.Disk.history c.args.d.now

  abbrev mid : History
  mid = g.D.Disk.history c.sync.new.self

  same : seen mid ≡ seen h
  same = ap seen (c.in_ok-sync.ensures.done told) ∙ ap seen c.len.ensures.history

  quiet : Quiet mid
  quiet = quiet_synced (g.D.Disk.history c.len.new.self) mid (c.in_ok-sync.ensures.done told)

  undo_leaves : IsSafe f h → form_of (seen h) ≡ f → Opens (seen h) → Shut (form_of (seen h)) (seen h) ⊎ Mild (seen h) → LeavesOnly h (g.D.Disk.history c.put_back.new.d) (Reopens (restored f (seen h)))
  undo_leaves safe form opens again =
      undo_stops f h mid (g.D.Disk.history c.put_back.new.d) same form opens (sync_stops f h (g.D.Disk.history c.len.new.self) mid c.len.ensures.history c.sync.ensures.tried safe)
      quiet (c.put_back.ensures.stops told) again

pub returns-in_err-bytes-clause-stops : goal.returns-in_err-bytes-clause-stops
returns-in_err-bytes-clause-stops g c told = undo_leaves g (goal.at.returns-in_err-bytes-clause-stops g c).After-put_back told

-- nothing is cut then
module _ (g : Given.Over) (c : After-cut_back g) (told : IsTrue g.D.Disk.tells) where
  abbrev a : List ℕ
  a = seen (g.D.Disk.history c.args.d.now)

  uncut : form_of a ≡ form_in c.args.header.now → Opens a → g.D.Disk.history c.cut_back.new.d ≡ g.D.Disk.history c.put_back.new.d
  uncut form opens =
      never_cut (form_in c.args.header.now) (g.D.Disk.history c.args.d.now) (g.D.Disk.history c.sync.new.self) (g.D.Disk.history c.put_back.new.d)
      (ap seen (c.in_ok-sync.ensures.done told) ∙ ap seen c.len.ensures.history) form opens
      (g.D.Disk.history c.cut_back.new.d) c.in_ok-len.len (g.D.Disk.size c.put_back.new.d) (c.in_ok-bytes.ensures.restored told)
      (c.in_ok-len.ensures.length ∙ sym (g.met.D.Disk.told_size c.args.d.now told)) (g.met.D.Disk.told_size c.put_back.new.d told) c.cut_back.ensures.still

  uncut_leaves : form_of a ≡ form_in c.args.header.now → Opens a → LeavesOnly (g.D.Disk.history c.args.d.now) (g.D.Disk.history c.put_back.new.d) (Reopens (restored (form_in c.args.header.now) a))
      → LeavesOnly (g.D.Disk.history c.args.d.now) (g.D.Disk.history c.cut_back.new.d) (Reopens (restored (form_in c.args.header.now) a))
  uncut_leaves form opens = subst (λ z. LeavesOnly (g.D.Disk.history c.args.d.now) z (Reopens (restored (form_in c.args.header.now) a))) (sym (uncut form opens))

pub returns-in_err-to-clause-stops : goal.returns-in_err-to-clause-stops
returns-in_err-to-clause-stops g c told safe form opens again =
    let at = goal.at.returns-in_err-to-clause-stops g c in uncut_leaves g at.After-cut_back told form opens (undo_leaves g at.After-put_back told safe form opens again)

pub returns-clause-stops : goal.returns-clause-stops
returns-clause-stops g c told safe form opens again =
    let at = goal.at.returns-clause-stops g c in uncut_leaves g at.After-cut_back told form opens (undo_leaves g at.After-put_back told safe form opens again)

pub returns-clause-quiet : goal.returns-clause-quiet
returns-clause-quiet g c told form opens =
    let at = goal.at.returns-clause-quiet g c in subst Quiet (sym (uncut g at.After-cut_back told form opens)) (c.in_ok-bytes.ensures.quiet told (quiet g at.After-put_back told))

-- bytes are told only where an undo was made
pub returns-clause-made : goal.returns-clause-made
returns-clause-made g c some =
    subst (λ was. RoseBy 4 was (g.D.Disk.syncs c.cut_back.new.d) ⊎ RoseBy 7 was (g.D.Disk.syncs c.cut_back.new.d)) c.len.ensures.syncs
    (subst (λ now. RoseBy 4 (g.D.Disk.syncs c.len.new.self) now ⊎ RoseBy 7 (g.D.Disk.syncs c.len.new.self) now) (sym c.cut_back.ensures.syncs)
    (elim (c.in_ok-bytes.ensures.made some) [
      | inl few ↦ inl (rose_then 1 3 (g.D.Disk.syncs c.len.new.self) (g.D.Disk.syncs c.sync.new.self) (g.D.Disk.syncs c.put_back.new.d) c.in_ok-sync.ensures.syncs few)
      | inr more ↦ inr (rose_then 1 6 (g.D.Disk.syncs c.len.new.self) (g.D.Disk.syncs c.sync.new.self) (g.D.Disk.syncs c.put_back.new.d) c.in_ok-sync.ensures.syncs more)
    ]))
