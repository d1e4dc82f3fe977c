use Rattle.std.proofs.Common.{◌∙◌, ap, ◌*◌}
use Rattle.tdb_words.specs.Hash.{mix_of, words_plus}
use Rattle.tdb_words.proofs.Twelves.{round_more, rest_from}
use Rattle.tdb_words.proofs.jenkins.Mixer.mix_all.Goals as goal

pub loop-i-preserved : goal.loop-i-preserved
loop-i-preserved c =
    let mixer = c.loop-i.mixer in
    let bytes = c.args.bytes.now in
    c.mix-mixer.ensures ∙ ap mix_of (c.add.ensures ∙ ap (words_plus mixer) (rest_from (12 * c.loop-i.i) bytes)) ∙ round_more mixer c.args.self c.loop-i.i bytes c.loop-i.invariant
