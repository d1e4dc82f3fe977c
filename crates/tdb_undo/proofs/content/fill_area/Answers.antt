-- The entries, the last word, the lengths, and the sync.
use Rattle.std.proofs.Common.{◌≡◌, ◌+◌, ◌-◌, ◌≤◌, length, sym, subst, ◌∙◌, ap, arith}
use Rattle.std.specs.Prelude.{IfSome}
use Rattle.tdb_disk.specs.Count.{RoseBy}
use Rattle.tdb_disk.specs.History.{seen}
use Rattle.tdb_disk.proofs.Runs.{quiet_synced}
use Rattle.tdb_space.proofs.RecoverySteps.Emptying.{four_bytes}
use Rattle.tdb_undo.specs.Content.{AllPut}
use Rattle.tdb_undo.proofs.Fills.{fill_two, fill_three, fill_four, filled}
use Rattle.tdb_undo.proofs.content.fill_area.Goals as goal

pub returns-in_err-write-clause-stops : goal.returns-in_err-write-clause-stops
returns-in_err-write-clause-stops g c told =
    let inside = (subst (λ o. IfSome o (λ p. (c.args.area.now.at + 24 ≤ p) × (p + 4 ≤ c.args.area.now.at + 24 + c.args.area.now.header.rec_len))) c.in-Some.is c.in_ok-place.ensures.within) in
    let four : (length c.word_bytes.result) ≡ 4 = ap length c.word_bytes.ensures.bytes ∙ four_bytes c.args.order _ in
    fill_two c.args.order c.args.area.now (g.D.Disk.history c.args.d.now) (g.D.Disk.history c.put_runs.new.d) (g.D.Disk.history c.write.new.self) (g.D.Disk.history c.write.new.self) (g.D.Disk.history c.write.new.self) c.in-Some.place (length c.word_bytes.result) inside.0 (omega (arith, inside.1, four)) (c.put_runs.ensures.stops told) c.write.ensures.tried

pub returns-in_err-write-2-clause-stops : goal.returns-in_err-write-2-clause-stops
returns-in_err-write-2-clause-stops g c told =
    let inside = (subst (λ o. IfSome o (λ p. (c.args.area.now.at + 24 ≤ p) × (p + 4 ≤ c.args.area.now.at + 24 + c.args.area.now.header.rec_len))) c.in-Some.is c.in_ok-place.ensures.within) in
    let four : (length c.word_bytes.result) ≡ 4 = ap length c.word_bytes.ensures.bytes ∙ four_bytes c.args.order _ in
    fill_three c.args.order c.args.area.now (g.D.Disk.history c.args.d.now) (g.D.Disk.history c.put_runs.new.d) (g.D.Disk.history c.write.new.self) (g.D.Disk.history c.write-2.new.self) (g.D.Disk.history c.write-2.new.self) (length c.two_words-lens.result) (omega arith) (fill_two c.args.order c.args.area.now (g.D.Disk.history c.args.d.now) (g.D.Disk.history c.put_runs.new.d) (g.D.Disk.history c.write.new.self) (g.D.Disk.history c.write-2.new.self) (g.D.Disk.history c.write-2.new.self) c.in-Some.place (length c.word_bytes.result) inside.0 (omega (arith, inside.1, four)) (c.put_runs.ensures.stops told) c.write.ensures.tried) c.write-2.ensures.tried

pub returns-in_err-sync-clause-stops : goal.returns-in_err-sync-clause-stops
returns-in_err-sync-clause-stops g c told =
    let inside = (subst (λ o. IfSome o (λ p. (c.args.area.now.at + 24 ≤ p) × (p + 4 ≤ c.args.area.now.at + 24 + c.args.area.now.header.rec_len))) c.in-Some.is c.in_ok-place.ensures.within) in
    let four : (length c.word_bytes.result) ≡ 4 = ap length c.word_bytes.ensures.bytes ∙ four_bytes c.args.order _ in
    fill_four c.args.order c.args.area.now (g.D.Disk.history c.args.d.now) (g.D.Disk.history c.put_runs.new.d) (g.D.Disk.history c.write.new.self) (g.D.Disk.history c.write-2.new.self) (g.D.Disk.history c.sync.new.self) (fill_three c.args.order c.args.area.now (g.D.Disk.history c.args.d.now) (g.D.Disk.history c.put_runs.new.d) (g.D.Disk.history c.write.new.self) (g.D.Disk.history c.write-2.new.self) (g.D.Disk.history c.sync.new.self) (length c.two_words-lens.result) (omega arith) (fill_two c.args.order c.args.area.now (g.D.Disk.history c.args.d.now) (g.D.Disk.history c.put_runs.new.d) (g.D.Disk.history c.write.new.self) (g.D.Disk.history c.write-2.new.self) (g.D.Disk.history c.sync.new.self) c.in-Some.place (length c.word_bytes.result) inside.0 (omega (arith, inside.1, four)) (c.put_runs.ensures.stops told) c.write.ensures.tried) c.write-2.ensures.tried) c.sync.ensures.tried

pub returns-clause-stops : goal.returns-clause-stops
returns-clause-stops g c told =
    let inside = (subst (λ o. IfSome o (λ p. (c.args.area.now.at + 24 ≤ p) × (p + 4 ≤ c.args.area.now.at + 24 + c.args.area.now.header.rec_len))) c.in-Some.is c.in_ok-place.ensures.within) in
    let four : (length c.word_bytes.result) ≡ 4 = ap length c.word_bytes.ensures.bytes ∙ four_bytes c.args.order _ in
    fill_four c.args.order c.args.area.now (g.D.Disk.history c.args.d.now) (g.D.Disk.history c.put_runs.new.d) (g.D.Disk.history c.write.new.self) (g.D.Disk.history c.write-2.new.self) (g.D.Disk.history c.sync.new.self) (fill_three c.args.order c.args.area.now (g.D.Disk.history c.args.d.now) (g.D.Disk.history c.put_runs.new.d) (g.D.Disk.history c.write.new.self) (g.D.Disk.history c.write-2.new.self) (g.D.Disk.history c.sync.new.self) (length c.two_words-lens.result) (omega arith) (fill_two c.args.order c.args.area.now (g.D.Disk.history c.args.d.now) (g.D.Disk.history c.put_runs.new.d) (g.D.Disk.history c.write.new.self) (g.D.Disk.history c.write-2.new.self) (g.D.Disk.history c.sync.new.self) c.in-Some.place (length c.word_bytes.result) inside.0 (omega (arith, inside.1, four)) (c.put_runs.ensures.stops told) c.write.ensures.tried) c.write-2.ensures.tried) c.sync.ensures.tried

pub returns-clause-filled : goal.returns-clause-filled
returns-clause-filled g c told short fit =
    let inside = (subst (λ o. IfSome o (λ p. (c.args.area.now.at + 24 ≤ p) × (p + 4 ≤ c.args.area.now.at + 24 + c.args.area.now.header.rec_len))) c.in-Some.is c.in_ok-place.ensures.within) in
    let put = subst (AllPut c.args.order c.args.area.now c.args.runs.now (seen (g.D.Disk.history c.args.d.now)) (seen (g.D.Disk.history c.put_runs.new.d))) c.in-Some.is (c.in_ok-place.ensures.filled told fit) in
    (filled c.args.order c.args.area.now c.args.runs.now c.args.old_len c.in-Some.place (c.in-Some.place + 4 - (c.args.area.now.at + 24)) (seen (g.D.Disk.history c.args.d.now)) (seen (g.D.Disk.history c.put_runs.new.d)) (seen (g.D.Disk.history c.write.new.self)) (seen (g.D.Disk.history c.sync.new.self)) c.word_bytes.result c.two_words-lens.result short (omega (arith, (g.met.D.Disk.told_size c.args.d.now told ∙ sym c.requires.length), c.requires.room)) inside.0 inside.1 put c.word_bytes.ensures.bytes (ap seen (c.in_ok-write.ensures.done told)) (omega arith) c.two_words-lens.ensures.first c.two_words-lens.ensures.second (omega (arith, inside.0)) (ap seen (c.in_ok-sync.ensures.done told) ∙ ap seen (c.in_ok-write-2.ensures.done told)), quiet_synced _ _ (c.in_ok-sync.ensures.done told), subst (λ n. RoseBy 1 n (g.D.Disk.syncs c.sync.new.self)) (c.write-2.ensures.syncs ∙ c.write.ensures.syncs ∙ c.put_runs.ensures.syncs) c.in_ok-sync.ensures.syncs)
