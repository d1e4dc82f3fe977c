use Rattle.std.proofs.Common.{◌≡◌, ◌∙◌, ℕ, ◌+◌, ◌-◌, ◌*◌, ◌/◌, ap, arith, rules, subst, List, ◌++◌, take, drop, length, fold, length-drop, append_assoc, zero-add, ◌<◌, ◌≤◌}
use Rattle.std.proofs.lemmas.List.{take-append-drop, length-take-le}
use Rattle.tdb_words.specs.Hash.{mix_of, words_plus, round, twelves}
use Rattle.tdb_words.specs.Running.{JenkinsHolds}
use Rattle.tdb_words.proofs.Twelves.{rest_from}
use Rattle.tdb_words.proofs.JenkinsPieces.{holds_waiting, holds_mixed}
use Rattle.tdb_words.proofs.jenkins.JenkinsRun.feed.Goals as goal

pub returns-then-piece-room : goal.returns-then-piece-room
returns-then-piece-room c n bytes held =
    let e = c.hold.ensures in
    rw e.mixer (holds_waiting _ _ _ _ _ n bytes c.args.piece.now e.held e.waiting held)

pub returns : goal.returns
returns c n bytes held =
    let run = c.args.self.now in
    let piece = c.args.piece.now in
    let room : ℕ = 12 - run.held in
    let rest : List ℕ = take (length piece - room) (drop room piece) in
    let full : ℕ = (length rest - 1) / 12 in
    let filled = c.hold-2.new.self in
    let e = c.hold-2.ensures in
    let twelve : filled.held ≡ 12 = omega (arith, e.held, length-take-le room piece (omega arith), run.room) in
    let first : JenkinsHolds filled.mixer filled.waiting filled.held n (bytes ++ take room piece) =
    rw e.mixer (holds_waiting _ _ _ _ _ n bytes (take room piece) e.held e.waiting held) in
    let first_full : JenkinsHolds filled.mixer filled.waiting 12 n (bytes ++ take room piece) =
    subst (λ h. JenkinsHolds filled.mixer filled.waiting h n (bytes ++ take room piece)) twelve first in
    let last = c.hold-3.new.self in
    let l = c.hold-3.ensures in
    let mixer : last.mixer ≡ fold round (mix_of (words_plus filled.mixer filled.waiting)) (twelves full rest) =
    l.mixer ∙ c.mix_all-self.ensures ∙ ap (λ s. fold round s (twelves full rest)) (c.mix.ensures ∙ ap mix_of c.add.ensures) in
    let wait : take last.held last.waiting ≡ drop (12 * full) rest = l.waiting ∙ rest_from (12 * full) rest in
    let some : 1 ≤ length rest = omega (arith, length-drop room piece, ap length (rest_from room piece), c.if-piece-room.false) in
    let held_last : last.held ≡ length rest - 12 * full = l.held ∙ zero-add _ ∙ ap length (rest_from (12 * full) rest) ∙ length-drop (12 * full) rest in
    let size : 12 * full + last.held ≡ length rest = omega (arith, held_last, some) in
    let left : 0 < last.held = omega (arith, held_last, some) in
    let joined : (bytes ++ take room piece) ++ rest ≡ bytes ++ piece =
    append_assoc bytes (take room piece) rest ∙ ap (λ r. bytes ++ r) (ap (λ r. take room piece ++ r) (rest_from room piece) ∙ take-append-drop room piece) in
    rw (mixer, ← joined) (holds_mixed filled.mixer filled.waiting last.waiting last.held n full (bytes ++ take room piece) rest (search rules) left size wait first_full)
