-- The first bytes tell whether there are mutexes, and the word is set where there are.
use Rattle.std.proofs.Common.{◌≡◌, ◌∷◌, [], length, take, drop, sym, ◌∙◌, ap, arith}
use Rattle.tdb_words.specs.Word.{bytes_of_word}
use Rattle.tdb_words.specs.Header.{header_order}
use Rattle.tdb_disk.specs.Image.{overlay}
use Rattle.tdb_undo.proofs.Empties.{zero_word}
use Rattle.tdb_mend.specs.Mutexes.{database_at}
use Rattle.tdb_mend.proofs.Unlocked.{begins_front, unlocked_none, unlocked_some, unlocked_front}
use Rattle.tdb_mend.proofs.undoing.unlock.Goals as goal

pub returns-in_ok-put-clause-set : goal.returns-in_ok-put-clause-set
returns-in_ok-put-clause-set g c told n within reaches =
    let img = g.S.Space.image c.args.s.now in
    let long : length img ≡ g.S.Space.size c.args.s.now = g.met.S.Space.told_size c.args.s.now told in
    let read : c.read.new.buf ≡ take 168 (drop 0 img) = c.in_ok-read.ensures.bytes told in
    let starts : c.database_at.result ≡ database_at img = c.database_at.ensures.start ∙ ap database_at read ∙ begins_front img 168 (omega arith) (omega (arith, long, c.requires)) in
    let zeros : 0 ∷ 0 ∷ 0 ∷ 0 ∷ [] ≡ bytes_of_word (header_order img) 0 = zero_word (header_order img) in
    let put : g.S.Space.image c.put.new.self ≡ overlay img 60 (bytes_of_word (header_order img) 0) = c.in_ok-put.ensures.set told ∙ (λ j. overlay (c.read.ensures.image j) 60 (zeros j)) in
    ap (take n) (put ∙ sym (unlocked_some img (λ none. c.if-database_at-ne0.true (starts ∙ none)))) ∙ unlocked_front img n within (omega (arith, long, reaches))

pub returns-else-database_at-ne0-clause-set : goal.returns-else-database_at-ne0-clause-set
returns-else-database_at-ne0-clause-set g c told n within reaches =
    let img = g.S.Space.image c.args.s.now in
    let long : length img ≡ g.S.Space.size c.args.s.now = g.met.S.Space.told_size c.args.s.now told in
    let read : c.read.new.buf ≡ take 168 (drop 0 img) = c.in_ok-read.ensures.bytes told in
    let starts : c.database_at.result ≡ database_at img = c.database_at.ensures.start ∙ ap database_at read ∙ begins_front img 168 (omega arith) (omega (arith, long, c.requires)) in
    ap (take n) (c.read.ensures.image ∙ sym (unlocked_none img (sym starts ∙ c.if-database_at-ne0.false))) ∙ unlocked_front img n within (omega (arith, long, reaches))
