-- The first word, one more, and the sync.
use Rattle.std.proofs.Common.{◌≡◌, ◌+◌, ◌*◌, sym, subst, ap, arith, rules}
use Rattle.tdb_disk.specs.History.{seen}
use Rattle.tdb_disk.proofs.Runs.{leaves_quiet, leaves_then_sync, quiet_synced}
use Rattle.tdb_space.specs.Opening.{lies_in}
use Rattle.tdb_undo.specs.Torn.{Put}
use Rattle.tdb_undo.specs.Recovery.{HeaderTouched}
use Rattle.tdb_undo.proofs.Empties.{zero_word, touched_none, word_touched, words_none, words_more}
use Rattle.tdb_undo.proofs.emptying.blank_header.Goals as goal

pub loop-k-init : goal.loop-k-init
loop-k-init g c = record {
  stops = λ told quiet. leaves_quiet (g.D.Disk.history c.args.d.now) (HeaderTouched c.args.order c.args.at (seen (g.D.Disk.history c.args.d.now))) quiet (touched_none c.args.order c.args.at (seen (g.D.Disk.history c.args.d.now)));
  put = λ told. words_none c.args.at (seen (g.D.Disk.history c.args.d.now));
  size = search rules;
  faults = search rules;
  syncs = search rules;
  bytes_read = search rules;
}

pub returns-in_err-write_word-clause-stops : goal.returns-in_err-write_word-clause-stops
returns-in_err-write_word-clause-stops g c told quiet =
    word_touched c.args.order c.args.at c.loop-k.k _ (g.D.Disk.history c.loop-k.d) _ _ c.loop-k-test.true (omega (arith, g.met.D.Disk.told_size c.args.d.now told, c.requires.within)) (zero_word c.args.order)
    (c.loop-k.invariant.stops told quiet) c.write_word.ensures.tried

pub loop-k-preserved : goal.loop-k-preserved
loop-k-preserved g c = record {
  stops = λ told quiet.
      word_touched c.args.order c.args.at c.loop-k.k _ (g.D.Disk.history c.loop-k.d) _ _ c.loop-k-test.true (omega (arith, g.met.D.Disk.told_size c.args.d.now told, c.requires.within)) (zero_word c.args.order)
      (c.loop-k.invariant.stops told quiet) c.write_word.ensures.tried;
  put = λ told.
      subst (Put (lies_in c.args.at (4 * (c.loop-k.k + 1))) (λ _. 0) (seen (g.D.Disk.history c.args.d.now))) (sym (ap seen (c.in_ok-write_word.ensures.done told)))
      (words_more c.args.at c.loop-k.k (seen (g.D.Disk.history c.args.d.now)) (seen (g.D.Disk.history c.loop-k.d)) (omega (arith, g.met.D.Disk.told_size c.args.d.now told, c.requires.within, c.loop-k-test.true)) (c.loop-k.invariant.put told));
  size = search rules;
  faults = search rules;
  syncs = search rules;
  bytes_read = search rules;
}

pub returns-in_err-sync-clause-stops : goal.returns-in_err-sync-clause-stops
returns-in_err-sync-clause-stops g c told quiet =
    leaves_then_sync _ (g.D.Disk.history c.loop-k.d) _ (HeaderTouched c.args.order c.args.at (seen (g.D.Disk.history c.args.d.now))) (c.loop-k.invariant.stops told quiet) c.sync.ensures.tried

pub returns-clause-stops : goal.returns-clause-stops
returns-clause-stops g c told quiet =
    leaves_then_sync _ (g.D.Disk.history c.loop-k.d) _ (HeaderTouched c.args.order c.args.at (seen (g.D.Disk.history c.args.d.now))) (c.loop-k.invariant.stops told quiet) c.sync.ensures.tried

pub returns-clause-put : goal.returns-clause-put
returns-clause-put g c told =
    let all : c.loop-k.k ≡ 5 = omega arith in
    subst (Put (lies_in c.args.at 20) (λ _. 0) (seen (g.D.Disk.history c.args.d.now))) (sym (ap seen (c.in_ok-sync.ensures.done told)))
    (subst (λ n. Put (lies_in c.args.at (4 * n)) (λ _. 0) (seen (g.D.Disk.history c.args.d.now)) (seen (g.D.Disk.history c.loop-k.d))) all (c.loop-k.invariant.put told))

pub returns-clause-quiet : goal.returns-clause-quiet
returns-clause-quiet g c told = quiet_synced _ _ (c.in_ok-sync.ensures.done told)
