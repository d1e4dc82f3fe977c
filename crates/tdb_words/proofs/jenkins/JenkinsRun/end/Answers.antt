use Rattle.std.proofs.Common.{◌∙◌, ap, arith, rules, ◌++◌, drop, replicate, take, length, ◌≡◌}
use Rattle.tdb_words.specs.Hash.{final_of, words_plus}
use Rattle.tdb_words.proofs.JenkinsPieces.{ended_empty, ended_filled, zeros_after}
use Rattle.tdb_words.proofs.jenkins.JenkinsRun.end.Goals as goal

pub returns-then-self-eq0 : goal.returns-then-self-eq0
returns-then-self-eq0 c bytes held = ended_empty c.args.self.mixer c.args.self.waiting c.args.self.held bytes c.if-self-eq0.true held

pub returns : goal.returns
returns c bytes held =
    let run = c.args.self in
    let size : length (take run.held run.waiting) ≡ run.held = search rules in
    let front : c.copy_from_slice.new.self ≡ take run.held run.waiting = c.copy_from_slice.ensures.after in
    c.finish.ensures ∙ ap final_of (c.add.ensures ∙ ap (λ xs. words_plus run.mixer (xs ++ drop run.held (replicate 12 0))) front)
    ∙ ended_filled run.mixer run.waiting (take run.held run.waiting ++ drop run.held (replicate 12 0)) run.held bytes (omega arith) run.room (λ i low. zeros_after (take run.held run.waiting) run.held i size low) held
