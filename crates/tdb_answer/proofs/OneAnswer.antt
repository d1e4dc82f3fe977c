-- What is due is one thing.
use Rattle.std.proofs.Common.{◌≡◌, ◌⊎◌, ℕ, ◌≤◌, false, List, Option, None, Some, length, refl, sym, ◌∙◌, ap, inl, inr, arith}
use Rattle.tdb_words.specs.declared.what.What.TheVariants.{Header as BadHeader}
use Rattle.tdb_words.specs.Header.{HeaderOk}
use Rattle.tdb_disk.specs.History.{History, seen}
use Rattle.std.proofs.lemmas.Bool.{false≢true}
use Rattle.tdb_space.specs.Form.{form_of}
use Rattle.tdb_space.specs.Opening.{is_open, Opens}
use Rattle.tdb_space.specs.OpeningFault.{in_front}
use Rattle.tdb_space.proofs.OpeningFault.OneFault.{one_opening, never_both_ways}
use Rattle.tdb_cmdline.specs.declared.act.Act.{Act}
use Rattle.tdb_cmdline.specs.declared.look.Look.{Look}
use Rattle.tdb_cmdline.specs.declared.ask.Task.{Task}
use Rattle.tdb_cmdline.specs.declared.ask.Task.TheVariants.{Create, On, Read, Rescue, Print, Repack, Restore, Backup, Verify, Convert, Merge, Mend, Move, Turns, Session, Generate}
use Rattle.tdb_answer.specs.declared.ending.Ending.{Ending}
use Rattle.tdb_answer.specs.declared.ending.Ending.TheVariants.{Refused}
use Rattle.tdb_open.specs.declared.halt.Refusal.{Refusal}
use Rattle.tdb_open.specs.declared.halt.Refusal.TheVariants.{TooLong, Header, Corrupt, NeedsRecovery}
use Rattle.tdb_open.specs.declared.limits.TheConstants.{LONGEST_FILE}
use Rattle.tdb_cmdline.specs.Ask.{Ask}
use Rattle.tdb_answer.specs.Ending.{status_of, Replies, Refuses, LookReplies, RefusesToRead, PrintsOpened, MakingDue, TaskDue, Due}
use Rattle.tdb_answer.specs.Commands.Rescue.{CanRescue, IsUnreadable, RescueDue}
use Rattle.tdb_cmdline.specs.declared.lines.create.NewFile.{NewFile}
use Rattle.tdb_open.specs.Opening.{CanOpen, IsRefused, OpensToRead, CanRead, HasOpenGate, IsRefusedToRead, IsRefusedToReadBelow, IsRefusedBelow}
use Rattle.tdb_answer.proofs.Damaged.{unmendable_one}

-- a file is refused in one way
refusal_one : (img : List ℕ) (r s : Refusal) → IsRefused img r → IsRefused img s → r ≡ s
refusal_one img (TooLong a) (TooLong b) p q = ap TooLong (p.0 ∙ sym q.0)
refusal_one img (TooLong a) (Header f) p q = absurd (omega (arith, p.0, p.1, q.0))
refusal_one img (TooLong a) (Corrupt w at) p q = absurd (omega (arith, p.0, p.1, q.0))
refusal_one img (Header f) (TooLong b) p q = absurd (omega (arith, q.0, q.1, p.0))
refusal_one img (Header f) (Header g) p q = let both : Some f ≡ Some g = sym p.2 ∙ q.2 in cc
refusal_one img (Header f) (Corrupt w at) p q = absurd (q.1 p.1)
refusal_one img (Corrupt v a) (TooLong b) p q = absurd (omega (arith, q.0, q.1, p.0))
refusal_one img (Corrupt v a) (Header g) p q = absurd (p.1 q.1)
refusal_one img (TooLong a) NeedsRecovery p q = absurd q
refusal_one img (Header f) NeedsRecovery p q = absurd q
refusal_one img (Corrupt w at) NeedsRecovery p q = absurd q
refusal_one img NeedsRecovery s p q = absurd p
refusal_one img (Corrupt v a) (Corrupt w b) p q = let same = one_opening img (v, a) (w, b) p.2 q.2 in λ j. Corrupt (same j).0 (same j).1

-- a file that is refused with status 3 can't be opened
pub refused_faulty : (img : List ℕ) (r : Refusal) → IsRefused img r → status_of (Refused r) ≡ 3 → Opens img → ⊥
refused_faulty img (TooLong len) p three opens = absurd (omega (arith, three))
refused_faulty img (Header f) p three opens = never_both_ways img (BadHeader, 0) (in_front (BadHeader, 0) p.1) opens
refused_faulty img (Corrupt w at) p three opens = never_both_ways img (w, at) p.2 opens
refused_faulty img NeedsRecovery p three opens = p

-- and one that is no longer than the longest is refused so
pub below_faulty : (limit : ℕ) (img : List ℕ) (r : Refusal) → IsRefusedBelow limit img r → status_of (Refused r) ≡ 3 → Opens img → ⊥
below_faulty limit img r (inl p) three opens = let six : status_of (Refused r) ≡ 6 = ap (λ x. status_of (Refused x)) p.0 in absurd (omega (arith, three, six))
below_faulty limit img r (inr p) three opens = refused_faulty img r p.1 three opens

pub refused_three : (img : List ℕ) (r : Refusal) → IsRefused img r → length img ≤ LONGEST_FILE → status_of (Refused r) ≡ 3
refused_three img (TooLong len) p short = absurd (omega (arith, p.0, p.1, short))
refused_three img (Header f) p short = refl
refused_three img (Corrupt w at) p short = refl
refused_three img NeedsRecovery p short = refl

pub below_three : (limit : ℕ) (img : List ℕ) (r : Refusal) → IsRefusedBelow limit img r → length img ≤ LONGEST_FILE → length img ≤ limit → status_of (Refused r) ≡ 3
below_three limit img r (inl p) short within = absurd (omega (arith, p.1, within))
below_three limit img r (inr p) short within = refused_three img r p.1 short

not_both : (img : List ℕ) (r : Refusal) → CanOpen img → IsRefused img r → ⊥
not_both img r can p = refused_faulty img r p (refused_three img r p can.within) can.opens

-- a file that is to be read alone is refused as others are, or its gate is open
refused_either : (img : List ℕ) (r : Refusal) → IsRefusedToRead img r → (IsRefused img r × (HasOpenGate img → ⊥)) ⊎ ((r ≡ NeedsRecovery) × HasOpenGate img)
refused_either img (TooLong len) p = inl (p, λ gate. absurd (omega (arith, p.0, p.1, gate.within)))
refused_either img (Header f) p = inl (p, λ gate. let both : None ≡ Some (BadHeader, 0) = sym gate.front ∙ p.1 in cc)
refused_either img (Corrupt w at) p = inl p
refused_either img NeedsRecovery p = inr (refl, p)

read_refusal_one : (img : List ℕ) (r s : Refusal) → IsRefusedToRead img r → IsRefusedToRead img s → r ≡ s
read_refusal_one img r s p q = of (refused_either img r p) (refused_either img s q)
  where
    of : (IsRefused img r × (HasOpenGate img → ⊥)) ⊎ ((r ≡ NeedsRecovery) × HasOpenGate img) → (IsRefused img s × (HasOpenGate img → ⊥)) ⊎ ((s ≡ NeedsRecovery) × HasOpenGate img) → r ≡ s
    of (inl a) (inl b) = refusal_one img r s a.0 b.0
    of (inl a) (inr b) = absurd (a.1 b.1)
    of (inr a) (inl b) = absurd (b.1 a.1)
    of (inr a) (inr b) = a.0 ∙ sym b.0

shut_or_open : (img : List ℕ) → is_open (form_of img) img ≡ false → HasOpenGate img → ⊥
shut_or_open img shut gate = false≢true (sym shut ∙ gate.gate_open)

-- such a file can't be opened so where that has status 3, and has it where it is no longer than the longest
pub read_faulty : (img : List ℕ) (r : Refusal) → IsRefusedToRead img r → status_of (Refused r) ≡ 3 → OpensToRead img → ⊥
read_faulty img r p three opens = elim (refused_either img r p) [
  | inl a ↦ refused_faulty img r a.0 three opens.opens
  | inr b ↦ shut_or_open img opens.shut b.1
]

pub read_three : (img : List ℕ) (r : Refusal) → IsRefusedToRead img r → length img ≤ LONGEST_FILE → status_of (Refused r) ≡ 3
read_three img r p short = elim (refused_either img r p) [
  | inl a ↦ refused_three img r a.0 short
  | inr b ↦ ap (λ x. status_of (Refused x)) b.0
]

not_both_read : (img : List ℕ) (r : Refusal) → CanRead img → IsRefusedToRead img r → ⊥
not_both_read img r can p = read_faulty img r p (read_three img r p can.can_open.within) (record { opens = can.can_open.opens; shut = can.shut })

look_one : (look : Look) (img : List ℕ) (x y : Ending) → LookReplies look img x ⊎ RefusesToRead img x → LookReplies look img y ⊎ RefusesToRead img y → x ≡ y
look_one look img x y (inl p) (inl q) = p.replied ∙ sym q.replied
look_one look img x y (inl p) (inr q) = absurd (not_both_read img q.refusal p.can_read q.right)
look_one look img x y (inr p) (inl q) = absurd (not_both_read img p.refusal q.can_read p.right)
look_one look img x y (inr p) (inr q) = p.refused ∙ ap Refused (read_refusal_one img p.refusal q.refusal p.right q.right) ∙ sym q.refused

-- a file that may have so many bytes is refused in one way, and not where it has no more and is opened
below_one : (limit : ℕ) (img : List ℕ) (r s : Refusal) → IsRefusedBelow limit img r → IsRefusedBelow limit img s → r ≡ s
below_one limit img r s (inl p) (inl q) = p.0 ∙ sym q.0
below_one limit img r s (inl p) (inr q) = absurd (omega (arith, p.1, q.0))
below_one limit img r s (inr p) (inl q) = absurd (omega (arith, q.1, p.0))
below_one limit img r s (inr p) (inr q) = refusal_one img r s p.1 q.1

pub below_opened : (limit : ℕ) (img : List ℕ) (r : Refusal) → length img ≤ limit → CanOpen img → IsRefusedBelow limit img r → ⊥
below_opened limit img r within can (inl p) = absurd (omega (arith, p.1, within))
below_opened limit img r within can (inr p) = not_both img r can p.1

act_one : (act : Act) (img : List ℕ) (x y : Ending) → Replies act img x ⊎ Refuses act.limit img x → Replies act img y ⊎ Refuses act.limit img y → x ≡ y
act_one act img x y (inl p) (inl q) = p.replied ∙ sym q.replied
act_one act img x y (inl p) (inr q) = absurd (below_opened act.limit img q.refusal p.within p.can_open q.right)
act_one act img x y (inr p) (inl q) = absurd (below_opened act.limit img p.refusal q.within q.can_open p.right)
act_one act img x y (inr p) (inr q) = p.refused ∙ ap Refused (below_one act.limit img p.refusal q.refusal p.right q.right) ∙ sym q.refused

making_one : (form : NewFile) (x y : Ending) → MakingDue form x → MakingDue form y → x ≡ y
making_one form x y (inl p) (inl q) = p.1 ∙ sym q.1
making_one form x y (inl p) (inr q) = absurd (omega (arith, p.0, q.0))
making_one form x y (inr p) (inl q) = absurd (omega (arith, p.0, q.0))
making_one form x y (inr p) (inr q) = p.1 ∙ sym q.1

print_one : (limit : ℕ) (img : List ℕ) (x y : Ending) → PrintsOpened limit img x ⊎ Refuses limit img x → PrintsOpened limit img y ⊎ Refuses limit img y → x ≡ y
print_one limit img x y (inl p) (inl q) = p.printed ∙ sym q.printed
print_one limit img x y (inl p) (inr q) = absurd (below_opened limit img q.refusal p.within p.can_open q.right)
print_one limit img x y (inr p) (inl q) = absurd (below_opened limit img p.refusal q.within q.can_open p.right)
print_one limit img x y (inr p) (inr q) = p.refused ∙ ap Refused (below_one limit img p.refusal q.refusal p.right q.right) ∙ sym q.refused

-- a file of which nothing can be read is refused in one way
unreadable_one : (img : List ℕ) (r s : Refusal) → IsUnreadable img r → IsUnreadable img s → r ≡ s
unreadable_one img (TooLong a) (TooLong b) p q = ap TooLong (p.0 ∙ sym q.0)
unreadable_one img (TooLong a) (Header f) p q = absurd (omega (arith, p.0, p.1, q.0))
unreadable_one img (TooLong a) (Corrupt w at) p q = absurd (omega (arith, p.0, p.1, q.0))
unreadable_one img (Header f) (TooLong b) p q = absurd (omega (arith, q.0, q.1, p.0))
unreadable_one img (Header f) (Header g) p q = let both : Some f ≡ Some g = sym p.2 ∙ q.2 in cc
unreadable_one img (Header f) (Corrupt w at) p q = absurd (omega (arith, p.1, q.2, q.3))
unreadable_one img (Corrupt v a) (TooLong b) p q = absurd (omega (arith, q.0, q.1, p.0))
unreadable_one img (Corrupt v a) (Header g) p q = absurd (omega (arith, q.1, p.2, p.3))
unreadable_one img (Corrupt v a) (Corrupt w b) p q = λ j. Corrupt ((p.1 ∙ sym q.1) j) ((p.2 ∙ sym q.2) j)
unreadable_one img (TooLong a) NeedsRecovery p q = absurd q
unreadable_one img (Header f) NeedsRecovery p q = absurd q
unreadable_one img (Corrupt w at) NeedsRecovery p q = absurd q
unreadable_one img NeedsRecovery s p q = absurd p

-- one that is refused with status 3 has no header without a fault
pub unreadable_faulty : (img : List ℕ) (r : Refusal) → IsUnreadable img r → status_of (Refused r) ≡ 3 → HeaderOk img → ⊥
unreadable_faulty img (TooLong len) p three ok = absurd (omega (arith, three))
unreadable_faulty img (Header f) p three ok = let both : None ≡ Some f = sym ok.no_fault ∙ p.2 in cc
unreadable_faulty img (Corrupt w at) p three ok = absurd (omega (arith, p.2, p.3, ok.long_enough))
unreadable_faulty img NeedsRecovery p three ok = p

-- and one that is no longer than the longest is refused so
pub unreadable_three : (img : List ℕ) (r : Refusal) → IsUnreadable img r → length img ≤ LONGEST_FILE → status_of (Refused r) ≡ 3
unreadable_three img (TooLong len) p short = absurd (omega (arith, p.0, p.1, short))
unreadable_three img (Header f) p short = refl
unreadable_three img (Corrupt w at) p short = refl
unreadable_three img NeedsRecovery p short = refl

not_both_rescued : (img : List ℕ) (r : Refusal) → CanRescue img → IsUnreadable img r → ⊥
not_both_rescued img r can p = unreadable_faulty img r p (unreadable_three img r p can.within) can.header

rescue_one : (img : List ℕ) (x y : Ending) → RescueDue img x → RescueDue img y → x ≡ y
rescue_one img x y (inl p) (inl q) = p.1 ∙ sym q.1
rescue_one img x y (inl p) (inr q) = absurd (not_both_rescued img q.0 p.0 q.1)
rescue_one img x y (inr p) (inl q) = absurd (not_both_rescued img p.0 q.0 p.1)
rescue_one img x y (inr p) (inr q) = p.2 ∙ ap Refused (unreadable_one img p.0 q.0 p.1 q.1) ∙ sym q.2

-- a file that may have so many bytes is refused to be read alone in one way, and not where it has no more and is opened
read_below_one : (limit : ℕ) (img : List ℕ) (r s : Refusal) → IsRefusedToReadBelow limit img r → IsRefusedToReadBelow limit img s → r ≡ s
read_below_one limit img r s (inl p) (inl q) = p.0 ∙ sym q.0
read_below_one limit img r s (inl p) (inr q) = absurd (omega (arith, p.1, q.0))
read_below_one limit img r s (inr p) (inl q) = absurd (omega (arith, p.0, q.1))
read_below_one limit img r s (inr p) (inr q) = read_refusal_one img r s p.1 q.1

pub not_read_below : (limit : ℕ) (img : List ℕ) (r : Refusal) → length img ≤ limit → CanRead img → IsRefusedToReadBelow limit img r → ⊥
not_read_below limit img r within can (inl p) = absurd (omega (arith, p.1, within))
not_read_below limit img r within can (inr p) = not_both_read img r can p.1

pub read_below_faulty : (limit : ℕ) (img : List ℕ) (r : Refusal) → IsRefusedToReadBelow limit img r → status_of (Refused r) ≡ 3 → OpensToRead img → ⊥
read_below_faulty limit img r (inl p) three opens = let six : status_of (Refused r) ≡ 6 = ap (λ x. status_of (Refused x)) p.0 in absurd (omega (arith, six, three))
read_below_faulty limit img r (inr p) three opens = read_faulty img r p.1 three opens

pub read_below_three : (limit : ℕ) (img : List ℕ) (r : Refusal) → IsRefusedToReadBelow limit img r → length img ≤ LONGEST_FILE → length img ≤ limit → status_of (Refused r) ≡ 3
read_below_three limit img r (inl p) short within = absurd (omega (arith, p.1, within))
read_below_three limit img r (inr p) short within = read_three img r p.1 short

task_one : (task : Task) (name : List ℕ) (held : Option History) (x y : Ending) → TaskDue task name held x → TaskDue task name held y → x ≡ y
task_one (On act) name None x y p q = p ∙ sym q
task_one (On act) name (Some h) x y p q = act_one act (seen h) x y p q
task_one (Read look) name None x y p q = p ∙ sym q
task_one (Read look) name (Some h) x y p q = look_one look (seen h) x y p q
task_one Rescue name None x y p q = p ∙ sym q
task_one Rescue name (Some h) x y p q = rescue_one (seen h) x y p q
task_one (Print printout limit) name None x y p q = p ∙ sym q
task_one (Print printout limit) name (Some h) x y p q = print_one limit (seen h) x y p q
task_one (Mend new) name None x y p q = p ∙ sym q
task_one (Mend new) name (Some h) x y p q = p.refused ∙ ap Refused (unmendable_one (seen h) p.refusal q.refusal p.right q.right) ∙ sym q.refused
task_one (Convert new made prefix) name None x y p q = p ∙ sym q
task_one (Convert new made prefix) name (Some h) x y p q = p.refused ∙ ap Refused (read_below_one made.limit (seen h) p.refusal q.refusal p.right q.right) ∙ sym q.refused
task_one (Merge into prefix limit) name None x y p q = p ∙ sym q
task_one (Merge into prefix limit) name (Some h) x y p q = p.refused ∙ ap Refused (read_below_one limit (seen h) p.refusal q.refusal p.right q.right) ∙ sym q.refused
task_one (Repack limit) name None x y p q = p ∙ sym q
task_one (Repack limit) name (Some h) x y p q = p.refused ∙ ap Refused (below_one limit (seen h) p.refusal q.refusal p.right q.right) ∙ sym q.refused
task_one (Create form) name None x y p q = making_one form x y p q
task_one (Create form) name (Some h) x y p q = p ∙ sym q
task_one (Restore limit) name None x y p q = absurd p
task_one (Restore limit) name (Some h) x y p q = p ∙ sym q
task_one (Backup more suffix) name held x y p q = absurd p
task_one (Verify more suffix) name held x y p q = absurd p
task_one (Move key into limit) name held x y p q = absurd p
task_one (Turns options) name held x y p q = absurd p
task_one (Session limit) name held x y p q = absurd p
task_one (Generate commands seed) name None x y p q = absurd p
task_one (Generate commands seed) name (Some h) x y p q = p ∙ sym q

pub due_one : (ask : Option Ask) (held : List ℕ → Option History) (x y : Ending) → Due ask held x → Due ask held y → x ≡ y
due_one None held x y p q = p ∙ sym q
due_one (Some ask) held x y p q = task_one ask.task ask.file (held ask.file) x y p q
