-- The command in the words of the law, and what it leaves to a commit.
use Rattle.std.proofs.Common.{◌≡◌, None, refl, rules}
use Rattle.std.specs.Prelude.{is_some, true}
use Rattle.tdb_disk.specs.History.{seen}
use Rattle.tdb_steps.specs.PlainCommands.{reply_of}
use Rattle.tdb_steps.specs.Turns.{number_of}
use Rattle.tdb_walk.specs.declared.stage.Goal.TheVariants.{Next}
use Rattle.tdb_txn_turns.specs.InsideTxn.OwnTxns.{form_of}
use Rattle.tdb_txn_turns.proofs.InsideTxn.Fronts.{may_commit_still}
use Rattle.tdb_txn_turns.proofs.InsideTxn.Walked.{next_turns, walk_turns, walk_walks}
use Rattle.tdb_txn_turns.proofs.InsideTxn.Overlays.{ok_so, weaker}
use Rattle.tdb_txn_turns.proofs.inside_txn.own_txn.OwnTxn.walk.Goals.{else-eq-via-then-eq+else-is_none, else-eq-via-else-eq}
use Rattle.tdb_txn_turns.proofs.inside_txn.own_txn.OwnTxn.walk.Given as Given
use Rattle.tdb_txn_turns.proofs.inside_txn.own_txn.OwnTxn.walk.Goals as goal

pub returns-then-is_none-clause-turned : goal.returns-then-is_none-clause-turned
returns-then-is_none-clause-turned g c told R x =
    let old = c.args.self.now in
    let base = seen (g.D.Disk.history c.args.d.now) in
    let next : c.args.goal ≡ Next = search rules in
    let none : c.args.walk.now.shown ≡ None = search rules in
    next_turns x old old base c.args.walk.now c.args.walk.now (record { form = refl; start = refl; depth = refl; doomed = refl; numbered = refl }) refl c.args.goal (number_of (form_of old) base) next none

-- a Next behind the test is one of a cursor that has shown a pair
has_shown : (g : Given.Over) (c : goal.After-walk_in_pages g) → c.args.goal ≡ Next → is_some c.args.walk.now.shown ≡ true
has_shown g c = elim c.else-eq.branch [
  | else-eq-via-then-eq+else-is_none w ↦ λ next. search rules
  | else-eq-via-else-eq w ↦ λ next. search rules
]

pub returns-clause-turned : goal.returns-clause-turned
returns-clause-turned g c =
    let old = c.args.self.now in
    let base = seen (g.D.Disk.history c.args.d.now) in
    let e = c.walk_in_pages.ensures in
    weaker c.walk_in_pages.result _ _
    (λ reply done told R x.
    walk_turns x old (record { txn = c.walk_in_pages.new.txn; changed = old.changed; numbered = old.numbered }) base c.args.walk.now c.walk_in_pages.new.walk
    (record { form = e.form; start = e.start; depth = e.depth; doomed = e.doomed; numbered = refl }) refl c.args.goal (number_of (form_of old) base) (reply_of reply) c.requires.short (has_shown g c) R (done told R.accepted R.cursor)) e.done

pub returns-clause-walks : goal.returns-clause-walks
returns-clause-walks g c =
    let old = c.args.self.now in
    let base = seen (g.D.Disk.history c.args.d.now) in
    let e = c.walk_in_pages.ensures in
    weaker c.walk_in_pages.result _ _
    (λ reply done told R x.
    walk_walks x old (record { txn = c.walk_in_pages.new.txn; changed = old.changed; numbered = old.numbered }) base c.args.walk.now c.walk_in_pages.new.walk
    (record { form = e.form; start = e.start; depth = e.depth; doomed = e.doomed; numbered = refl }) refl c.args.goal (reply_of reply) (has_shown g c) (done told R.accepted R.cursor)) e.done

pub returns-clause-purges : goal.returns-clause-purges
returns-clause-purges g c = weaker c.walk_in_pages.result _ _ (λ reply done told R. (done told R.accepted R.cursor).purge) c.walk_in_pages.ensures.done

pub returns-clause-image : goal.returns-clause-image
returns-clause-image g c = ok_so c.walk_in_pages.result _ _ (λ reply done told R. (done told R.accepted R.cursor).image) c.walk_in_pages.ensures.done

pub returns-clause-commits : goal.returns-clause-commits
returns-clause-commits g c =
    let old = c.args.self.now in
    let base = seen (g.D.Disk.history c.args.d.now) in
    let e = c.walk_in_pages.ensures in
    ok_so c.walk_in_pages.result _ _
    (λ reply done told R M. let D = done told R.accepted R.cursor in may_commit_still old.txn c.walk_in_pages.new.txn base e.form D.image.accepted D.image.front M) e.done
