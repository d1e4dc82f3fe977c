-- Blocked, the opener has its command again; else that is done.
use Rattle.std.proofs.Common.{◌≡◌, Some, sym, ◌∙◌, ap}
use Rattle.tdb_openers.specs.declared.opener.Opener.{Opener}
use Rattle.tdb_openers.specs.declared.job.Task.{Task}
use Rattle.tdb_openers.specs.ShutOut.{opener_after}
use Rattle.tdb_space.specs.Form.{form_in}
use Rattle.tdb_openers.proofs.Barred.Meeting.{ends_job, without_job, same_job}
use Rattle.tdb_openers.proofs.opener.Opener.turn_shut_out.Goals.{in-Blocked, in-Step}
use Rattle.tdb_openers.proofs.opener.Opener.turn_shut_out.Goals as goal

pub returns-clause-after : goal.returns-clause-after
returns-clause-after c t busy =
    let x : Opener = c.args.self.now in
    let now : Task = c.in-Some.now in
    let has : x.task ≡ Some now = sym c.take.ensures.value ∙ c.in-Some.is in
    let same = same_job x.task now t has busy in
    elim c.match-turn.branch [
      | in-Blocked w ↦
          let put : record x { task = Some (record { steps = now.steps; job = c.turn_shut_out-turn.new.self }) } ≡ x = ap (λ j. record x { task = Some (record { steps = now.steps; job = j }) }) (c.turn_shut_out-turn.ensures.waits _ _ w.in-Blocked.is) ∙ ap (λ o. record x { task = o }) (sym has) in
          w.self-is ∙ put ∙ sym (ap (λ u. opener_after u t.job x) w.in-Blocked.is)
      | in-Step w ↦
          w.self-is ∙ w.end_job.ensures ∙ c.turn_shut_out-turn.ensures.left (record x { task = c.take.new.self }) ∙ without_job now.job x c.take.new.self
          ∙ (ends_job (form_in c.args.header.now) now.job c.args.holder c.turn_shut_out-turn.result x c.turn_shut_out-turn.ensures.meets w.in-Step.is ∙ ap (λ j. opener_after c.turn_shut_out-turn.result j x) same)
    ]
