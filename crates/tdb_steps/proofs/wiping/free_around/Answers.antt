-- The stretch behind the undo area, the one before it, and the head of the free list.
use Rattle.std.proofs.Common.{◌≡◌, ◌-◌, length, sym, subst, ◌∙◌, ap, inl, inr, arith, rules}
use Rattle.tdb_words.specs.Word.{word}
use Rattle.tdb_words.proofs.Words.{word_agrees}
use Rattle.tdb_space.specs.Form.{Form, data_start, free_head}
use Rattle.tdb_space.proofs.SpareLeft.Rooms.{room_for, room_spent, room_tried, room_then}
use Rattle.tdb_space.proofs.Results.{on_err}
use Rattle.tdb_steps.specs.Wiped.{MadeFree}
use Rattle.tdb_steps.proofs.FreeWrites.{torn_none, torn_put, around_still, around_led}
use Rattle.tdb_steps.proofs.wiping.free_around.Goals as goal

pub returns-in_err-behind-clause-stopped : goal.returns-in_err-behind-clause-stopped
returns-in_err-behind-clause-stopped g c = on_err c.from_residual.result (λ told.
    inl (word_agrees (g.S.Space.form c.args.s.now).order (g.S.Space.image c.free_stretch.new.s) (g.S.Space.image c.args.s.now) free_head
    (λ i low high. (c.free_stretch.ensures.only told).below i (omega (arith, high, c.requires.stands.above, c.requires.stands.ordered)))))

pub returns-in_err-first-clause-stopped : goal.returns-in_err-first-clause-stopped
returns-in_err-first-clause-stopped g c = on_err c.from_residual-in_err-first.result (λ told.
    inl (word_agrees (g.S.Space.form c.args.s.now).order (g.S.Space.image c.free_stretch-2.new.s) (g.S.Space.image c.args.s.now) free_head
    (λ i low high.
    (c.free_stretch-2.ensures.only told).below i (omega (arith, high, c.data_start-start.ensures, c.hash_size.ensures))
    ∙ (c.free_stretch.ensures.only told).below i (omega (arith, high, c.requires.stands.above, c.requires.stands.ordered)))))

pub write_word-requires-clause-room : goal.write_word-requires-clause-room
write_word-requires-clause-room g c =
    let s = g.S.Space.spare c.args.s.now in
    let t = g.S.Space.spare c.free_stretch.new.s in
    let u = g.S.Space.spare c.free_stretch-2.new.s in
    room_for u 1 4 ((room_then s t u 2 28 2 28 c.free_stretch.ensures.spare c.free_stretch-2.ensures.spare).each 1 4 c.requires.room) (omega arith) 4 (omega arith)

pub returns-in_err-write_word-clause-stopped : goal.returns-in_err-write_word-clause-stopped
returns-in_err-write_word-clause-stopped g c = on_err c.from_residual-in_err-write_word.result (λ told.
    (let f = g.S.Space.form c.args.s.now in
    let a = g.S.Space.image c.args.s.now in
    let m = g.S.Space.image c.free_stretch.new.s in
    let n = g.S.Space.image c.free_stretch-2.new.s in
    let b = g.S.Space.image c.write_word.new.self in
    let start = c.data_start-start.result in
    let start_is : start ≡ data_start f = omega (arith, c.data_start-start.ensures, c.hash_size.ensures) in
    let len_is : length a ≡ c.args.len = omega (arith, g.met.S.Space.told_size c.args.s.now told, c.requires.length) in
    let four : length c.word_bytes.result ≡ 4 = search rules in
    let form = c.free_stretch.ensures.wrote.form in
    let order : c.order-order.result ≡ f.order = c.order-order.ensures ∙ ap (λ (x : Form). x.order) (c.free_stretch-2.ensures.wrote.form ∙ form) in
    let read : word f.order c.word_bytes.result 0 ≡ c.in_ok-first.first = ap (λ o. word o c.word_bytes.result 0) (sym order) ∙ c.word_bytes.ensures.read_back in
    let front = subst (λ x. MadeFree x m n start (c.args.area.from - start) c.in_ok-behind.behind c.in_ok-first.first) form (c.in_ok-first.ensures.freed told) in
    elim (c.in_err-write_word.ensures.image told) [
      | inl same ↦
          inl (ap (λ x. word f.order x free_head) same
          ∙ word_agrees f.order n a free_head
          (λ i low high.
          (c.free_stretch-2.ensures.only told).below i (omega (arith, high, start_is))
          ∙ (c.free_stretch.ensures.only told).below i (omega (arith, high, c.requires.stands.above, c.requires.stands.ordered))))
      | inr written ↦ inr (around_led f a m n b c.args.area start c.args.len start_is len_is c.requires.stands (c.free_stretch.ensures.only told) (c.free_stretch-2.ensures.only told) c.in_ok-behind.behind c.in_ok-first.first
          (c.in_ok-behind.ensures.freed told) front c.word_bytes.result four read written)
    ]))

pub returns-clause-freed : goal.returns-clause-freed
returns-clause-freed g c told =
    let f = g.S.Space.form c.args.s.now in
    let a = g.S.Space.image c.args.s.now in
    let m = g.S.Space.image c.free_stretch.new.s in
    let n = g.S.Space.image c.free_stretch-2.new.s in
    let b = g.S.Space.image c.write_word.new.self in
    let start = c.data_start-start.result in
    let start_is : start ≡ data_start f = omega (arith, c.data_start-start.ensures, c.hash_size.ensures) in
    let len_is : length a ≡ c.args.len = omega (arith, g.met.S.Space.told_size c.args.s.now told, c.requires.length) in
    let four : length c.word_bytes.result ≡ 4 = search rules in
    let form = c.free_stretch.ensures.wrote.form in
    let order : c.order-order.result ≡ f.order = c.order-order.ensures ∙ ap (λ (x : Form). x.order) (c.free_stretch-2.ensures.wrote.form ∙ form) in
    let read : word f.order c.word_bytes.result 0 ≡ c.in_ok-first.first = ap (λ o. word o c.word_bytes.result 0) (sym order) ∙ c.word_bytes.ensures.read_back in
    let front = subst (λ x. MadeFree x m n start (c.args.area.from - start) c.in_ok-behind.behind c.in_ok-first.first) form (c.in_ok-first.ensures.freed told) in
    around_led f a m n b c.args.area start c.args.len start_is len_is c.requires.stands (c.free_stretch.ensures.only told) (c.free_stretch-2.ensures.only told) c.in_ok-behind.behind c.in_ok-first.first
    (c.in_ok-behind.ensures.freed told) front c.word_bytes.result four read (c.in_ok-write_word.ensures.image told)

pub returns-in_err-write_word-clause-stays : goal.returns-in_err-write_word-clause-stays
returns-in_err-write_word-clause-stays g c told =
    let f = g.S.Space.form c.args.s.now in
    let a = g.S.Space.image c.args.s.now in
    let m = g.S.Space.image c.free_stretch.new.s in
    let n = g.S.Space.image c.free_stretch-2.new.s in
    let b = g.S.Space.image c.write_word.new.self in
    let start = c.data_start-start.result in
    let start_is : start ≡ data_start f = omega (arith, c.data_start-start.ensures, c.hash_size.ensures) in
    let len_is : length a ≡ c.args.len = omega (arith, g.met.S.Space.told_size c.args.s.now told, c.requires.length) in
    let four : length c.word_bytes.result ≡ 4 = search rules in
    around_still f a m n b c.args.area start c.args.len start_is len_is c.requires.stands (c.free_stretch.ensures.only told) (c.free_stretch-2.ensures.only told)
    (elim (c.in_err-write_word.ensures.image told) [
      | inl same ↦ torn_none free_head 4 n b same
      | inr written ↦ torn_put n b free_head c.word_bytes.result 4 four written
    ])

pub returns-clause-stays : goal.returns-clause-stays
returns-clause-stays g c told =
    let f = g.S.Space.form c.args.s.now in
    let a = g.S.Space.image c.args.s.now in
    let m = g.S.Space.image c.free_stretch.new.s in
    let n = g.S.Space.image c.free_stretch-2.new.s in
    let b = g.S.Space.image c.write_word.new.self in
    let start = c.data_start-start.result in
    let start_is : start ≡ data_start f = omega (arith, c.data_start-start.ensures, c.hash_size.ensures) in
    let len_is : length a ≡ c.args.len = omega (arith, g.met.S.Space.told_size c.args.s.now told, c.requires.length) in
    let four : length c.word_bytes.result ≡ 4 = search rules in
    around_still f a m n b c.args.area start c.args.len start_is len_is c.requires.stands (c.free_stretch.ensures.only told) (c.free_stretch-2.ensures.only told)
    (torn_put n b free_head c.word_bytes.result 4 four (c.in_ok-write_word.ensures.image told))

pub returns-in_err-write_word-clause-spare : goal.returns-in_err-write_word-clause-spare
returns-in_err-write_word-clause-spare g c =
    let s = g.S.Space.spare c.args.s.now in
    let t = g.S.Space.spare c.free_stretch.new.s in
    let u = g.S.Space.spare c.free_stretch-2.new.s in
    let v = g.S.Space.spare c.write_word.new.self in
    room_then s u v 4 56 1 4 (room_then s t u 2 28 2 28 c.free_stretch.ensures.spare c.free_stretch-2.ensures.spare) (room_tried u v 4 c.in_err-write_word.ensures.spare)

pub returns-clause-spare : goal.returns-clause-spare
returns-clause-spare g c =
    let s = g.S.Space.spare c.args.s.now in
    let t = g.S.Space.spare c.free_stretch.new.s in
    let u = g.S.Space.spare c.free_stretch-2.new.s in
    let v = g.S.Space.spare c.write_word.new.self in
    room_then s u v 4 56 1 4 (room_then s t u 2 28 2 28 c.free_stretch.ensures.spare c.free_stretch-2.ensures.spare) (room_spent u v 4 c.in_ok-write_word.ensures.spare)
