-- A front of equal bytes is as many of them.
use Rattle.std.proofs.Common.{◌+◌, ◌%◌, ◌∙◌, ap, replicate}
use Rattle.std.proofs.lemmas.Result.{IfOk-weaker}
use Rattle.std.proofs.lemmas.List.{take-replicate}
use Rattle.tdb_gen.proofs.generator.value.Goals as goal

pub returns-clause-value : goal.returns-clause-value
returns-clause-value c =
    IfOk-weaker c.copy.result _ _ (λ b e. e ∙ (take-replicate c.args.len 255 _ c.requires ∙ ap (λ k. replicate c.args.len (97 + k % 26)) c.key_in.ensures)) c.copy.ensures
