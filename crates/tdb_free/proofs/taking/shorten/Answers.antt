-- The header and the tailer that were written are read back.
use Rattle.std.proofs.Common.{◌≡◌, ◌+◌, List, [], ◌∷◌, length, take, drop, refl, sym, ◌∙◌, ap, subst, arith, rules}
use Rattle.std.proofs.lemmas.List.{length-take-le, length-drop}
use Rattle.tdb_words.specs.Word.{word}
use Rattle.tdb_words.specs.Record.{rec_at}
use Rattle.tdb_space.specs.Spare.{spent, SpentUpTo}
use Rattle.tdb_space.proofs.SpareLeft.Rooms.{room_spent, room_tried, room_then}
use Rattle.tdb_disk.specs.Image.{overlay}
use Rattle.tdb_disk.specs.Stop.{Torn}
use Rattle.tdb_space.specs.Extents.{Extent}
use Rattle.tdb_space.proofs.Exchange.Overlaid.{only_then, torn_only, put_only}
use Rattle.tdb_free.proofs.Inside.{among}
use Rattle.tdb_free.proofs.Results.{on_err}
use Rattle.tdb_free.specs.Shortened.{Shortened, free_record}
use Rattle.tdb_free.proofs.Overlaid.{shortened_written}
use Rattle.tdb_free.proofs.taking.shorten.Goals as goal

pub returns-in_err-write-2-clause-spare : goal.returns-in_err-write-2-clause-spare
returns-in_err-write-2-clause-spare g c =
    let header = c.rec_bytes.result in
    let all : length header ≡ 24 = search rules in
    let long : length (take 20 (drop 4 header)) ≡ 20 = length-take-le 20 (drop 4 header) (omega (arith, all, length-drop 4 header)) in
    let four : length c.word_bytes.result ≡ 4 = search rules in
    room_then (g.S.Space.spare c.args.s.now) (g.S.Space.spare c.write.new.self) (g.S.Space.spare c.write-2.new.self) 1 20 1 4
    (room_spent (g.S.Space.spare c.args.s.now) (g.S.Space.spare c.write.new.self) 20 (c.in_ok-write.ensures.spare ∙ ap (spent (g.S.Space.spare c.args.s.now)) long))
    (room_tried (g.S.Space.spare c.write.new.self) (g.S.Space.spare c.write-2.new.self) 4 (subst (λ n. SpentUpTo (g.S.Space.spare c.write.new.self) n (g.S.Space.spare c.write-2.new.self)) four c.in_err-write-2.ensures.spare))

pub returns-clause-shortened : goal.returns-clause-shortened
returns-clause-shortened g c told =
    let f = g.S.Space.form c.args.s.now in
    let a = g.S.Space.image c.args.s.now in
    let at = c.args.spot.now.off in
    let header = c.rec_bytes.result in
    let tailer = c.word_bytes.result in
    let part = take 20 (drop 4 header) in
    let place = at + 20 + c.args.rec_len in
    let all : length header ≡ 24 = search rules in
    let long : length part ≡ 20 = length-take-le 20 (drop 4 header) (omega (arith, all, length-drop 4 header)) in
    let four : length tailer ≡ 4 = search rules in
    let order : c.order-order.result ≡ f.order = c.order-order.ensures in
    let made = ap (λ o. rec_at o header 0) (sym order) ∙ c.rec_bytes.ensures.read_back in
    let tail : word f.order tailer 0 ≡ 24 + c.args.rec_len = ap (λ o. word o tailer 0) (sym order) ∙ c.word_bytes.ensures.read_back in
    let written : g.S.Space.image c.write-2.new.self ≡ overlay (overlay a (at + 4) part) place tailer =
    c.in_ok-write-2.ensures.image told ∙ ap (λ i. overlay i place tailer) (c.in_ok-write.ensures.image told) in
    subst (λ b. Shortened f a b at c.args.rec_len) (sym written)
    (shortened_written f a at c.args.rec_len header part tailer refl long four c.requires.least
    (omega (arith, g.met.S.Space.told_size c.args.s.now told, c.requires.stands.within, c.requires.shorter)) (free_record c.args.spot.now.next c.args.rec_len) made refl tail)

-- the header was written in part
pub returns-in_err-write-clause-stopped : goal.returns-in_err-write-clause-stopped
returns-in_err-write-clause-stopped g c = on_err c.from_residual.result (λ told.
    (let at = c.args.spot.now.off in
    let header = c.rec_bytes.result in
    let all : length header ≡ 24 = search rules in
    let long : length (take 20 (drop 4 header)) ≡ 20 = length-take-le 20 (drop 4 header) (omega (arith, all, length-drop 4 header)) in
    torn_only (at + 4) 20 ((at + 4, 20 + c.args.spot.now.rec_len) ∷ []) (g.S.Space.image c.args.s.now) (g.S.Space.image c.write.new.self)
    (λ i none. among (at + 4) (20 + c.args.spot.now.rec_len) (at + 4) 20 i (omega arith) (omega arith) (omega (arith, none)))
    (subst (λ n. Torn (at + 4) n (g.S.Space.image c.args.s.now) (g.S.Space.image c.write.new.self)) long (c.in_err-write.ensures.image told))))

-- it was written, and the tailer in part
pub returns-in_err-write-2-clause-stopped : goal.returns-in_err-write-2-clause-stopped
returns-in_err-write-2-clause-stopped g c = on_err c.from_residual-in_err-write-2.result (λ told.
    (let at = c.args.spot.now.off in
    let a = g.S.Space.image c.args.s.now in
    let mid = g.S.Space.image c.write.new.self in
    let b = g.S.Space.image c.write-2.new.self in
    let header = c.rec_bytes.result in
    let es : List Extent = (at + 4, 20 + c.args.spot.now.rec_len) ∷ [] in
    let place = at + 20 + c.args.rec_len in
    let all : length header ≡ 24 = search rules in
    let long : length (take 20 (drop 4 header)) ≡ 20 = length-take-le 20 (drop 4 header) (omega (arith, all, length-drop 4 header)) in
    let four : length c.word_bytes.result ≡ 4 = search rules in
    only_then es a mid b
    (put_only (at + 4) 20 (take 20 (drop 4 header)) es a mid long (λ i none. among (at + 4) (20 + c.args.spot.now.rec_len) (at + 4) 20 i (omega arith) (omega arith) (omega (arith, none))) (c.in_ok-write.ensures.image told))
    (torn_only place 4 es mid b (λ i none. among (at + 4) (20 + c.args.spot.now.rec_len) place 4 i (omega arith) (omega (arith, c.requires.shorter)) (omega (arith, none)))
    (subst (λ n. Torn place n mid b) four (c.in_err-write-2.ensures.image told)))))
