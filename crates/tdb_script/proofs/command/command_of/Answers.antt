use Rattle.std.proofs.Common.{◌≡◌, [], ◌∷◌, ap, ◌∙◌, subst}
use Rattle.tdb_script.specs.Lines.{words_of}
use Rattle.tdb_script.specs.Script.{IsCommand}
use Rattle.tdb_script.proofs.command.command_of.Goals as goal

-- two words that are no command
pub returns-in_default-first_word-2-clause-refused : goal.returns-in_default-first_word-2-clause-refused
returns-in_default-first_word-2-clause-refused c is command p =
    let name = c.in-Some.name.now in
    let word = c.in-Some-first_word.word.now in
    let words : words_of c.args.line.now ≡ name ∷ word ∷ [] =
    c.in-Some.ensures ∙ ap (λ ws. name ∷ ws) (c.in-Some-first_word.ensures ∙ ap (λ ws. word ∷ ws) (c.in_default-first_word-2.ensures)) in
    c.keyed.ensures.refused is command (subst (λ ws. IsCommand ws command) words p)

-- three words that are none
pub returns-in-None-clause-refused : goal.returns-in-None-clause-refused
returns-in-None-clause-refused c is command p =
    let name = c.in-Some.name.now in
    let word = c.in-Some-first_word.word.now in
    let more = c.in-Some-first_word-2.more.now in
    let words : words_of c.args.line.now ≡ name ∷ word ∷ more ∷ [] =
    c.in-Some.ensures
    ∙ ap (λ ws. name ∷ ws) (c.in-Some-first_word.ensures ∙ ap (λ ws. word ∷ ws) (c.in-Some-first_word-2.ensures ∙ ap (λ ws. more ∷ ws) (c.in-None.ensures))) in
    c.valued.ensures.refused is command (subst (λ ws. IsCommand ws command) words p)
