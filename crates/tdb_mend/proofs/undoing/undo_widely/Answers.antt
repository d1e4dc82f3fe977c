-- A fault of the content or of an entry, and what is left otherwise.
use Rattle.std.proofs.Common.{◌≡◌, ◌+◌, ◌*◌, None, length, take, sym, subst, ◌∙◌, ap, arith}
use Rattle.std.specs.Prelude.{slice_index}
use Rattle.std.proofs.lemmas.Result.{err_from_is_err_and}
use Rattle.tdb_disk.specs.Image.{overlay}
use Rattle.tdb_space.specs.Form.{data_start}
use Rattle.tdb_space.proofs.Exchange.Overlaid.{word_length}
use Rattle.tdb_check.proofs.Following.{names_then}
use Rattle.tdb_undo.proofs.Empties.{zero_word, zero_there}
use Rattle.tdb_mend.specs.Area.{content_fault_in}
use Rattle.tdb_mend.specs.Giving.{content_end_of, entries_of, GivenBack}
use Rattle.tdb_mend.specs.WideUndo.{unparsed}
use Rattle.tdb_mend.proofs.Undone.{content_bad, content_good, content_parts, wide_within, undone_is, same_undone}
use Rattle.tdb_mend.proofs.undoing.undo_widely.Goals as goal

pub returns-in-Some-clause-bad : goal.returns-in-Some-clause-bad
returns-in-Some-clause-bad g c told is =
    let f = g.S.Space.form c.args.s.now in
    let img = g.S.Space.image c.args.s.now in
    let start : 168 + 4 * (c.hash_size.result + 1) ≡ data_start f = ap (λ n. 168 + 4 * (n + 1)) c.hash_size.ensures in
    let long : length img ≡ c.args.len = g.met.S.Space.told_size c.args.s.now told ∙ sym c.requires.length in
    content_bad f img c.args.area.now is c.args.len _ long (ap (λ n. content_fault_in c.args.area.now n c.args.len) (sym start) ∙ sym c.content_fault.ensures ∙ c.in-Some.is)

-- what give_back asks for
pub give_back-requires-clause-room : goal.give_back-requires-clause-room
give_back-requires-clause-room g c = omega (arith, c.requires.stands.within, c.requires.length, c.area_head_left.ensures.looked.size)

pub give_back-requires-clause-content : goal.give_back-requires-clause-content
give_back-requires-clause-content g c = (content_parts c.args.area.now (168 + 4 * (c.hash_size.result + 1)) c.args.len (sym c.content_fault.ensures ∙ c.in_default.is)).2

pub give_back-requires-clause-old_length : goal.give_back-requires-clause-old_length
give_back-requires-clause-old_length g c =
    let parts = content_parts c.args.area.now (168 + 4 * (c.hash_size.result + 1)) c.args.len (sym c.content_fault.ensures ∙ c.in_default.is) in
    omega (arith, parts.1, c.requires.length, c.area_head_left.ensures.looked.size)

pub returns-in_err-give_back-clause-bad : goal.returns-in_err-give_back-clause-bad
returns-in_err-give_back-clause-bad g c =
    let p = err_from_is_err_and c.from_residual-in_err-give_back.result c.from_residual-in_err-give_back.ensures.1 in
    let f = g.S.Space.form c.args.s.now in
    let img = g.S.Space.image c.args.s.now in
    let a = c.args.area.now in
    let start : 168 + 4 * (c.hash_size.result + 1) ≡ data_start f = ap (λ n. 168 + 4 * (n + 1)) c.hash_size.ensures in
    let good : content_fault_in a (data_start f) c.args.len ≡ None = ap (λ n. content_fault_in c.args.area.now n c.args.len) (sym start) ∙ sym c.content_fault.ensures ∙ c.in_default.is in
    let looked = c.in_ok-head.ensures.looked in
    rw (p.1, p.2)
    (λ told is.
    (let long : length img ≡ c.args.len = g.met.S.Space.told_size c.args.s.now told ∙ sym c.requires.length in
    names_then c.in_err-give_back.field-0.0 _ _
    (λ fault h. content_good f img a is c.args.len _ long good ((λ j. unparsed (content_end_of a) (entries_of (sym looked.form j).order (sym looked.image j) a)) ∙ h))
    (c.in_err-give_back.ensures.bad told)))

pub returns-in_err-put-clause-bad : goal.returns-in_err-put-clause-bad
returns-in_err-put-clause-bad g c =
    let p = err_from_is_err_and c.from_residual-in_err-put.result c.from_residual-in_err-put.ensures.1 in
    rw (p.1, p.2) (λ told is. names_then c.in_err-put.field-0.0 _ _ (λ fault none. absurd none) c.in_err-put.ensures.refusal)

pub returns-in_err-put-2-clause-bad : goal.returns-in_err-put-2-clause-bad
returns-in_err-put-2-clause-bad g c =
    let p = err_from_is_err_and c.from_residual-in_err-put-2.result c.from_residual-in_err-put-2.ensures.1 in
    rw (p.1, p.2) (λ told is. names_then c.in_err-put-2.field-0.0 _ _ (λ fault none. absurd none) c.in_err-put-2.ensures.refusal)

pub returns-clause-within : goal.returns-clause-within
returns-clause-within g c =
    let start : 168 + 4 * (c.hash_size.result + 1) ≡ data_start (g.S.Space.form c.args.s.now) = ap (λ n. 168 + 4 * (n + 1)) c.hash_size.ensures in
    let good : content_fault_in c.args.area.now (data_start (g.S.Space.form c.args.s.now)) c.args.len ≡ None = ap (λ n. content_fault_in c.args.area.now n c.args.len) (sym start) ∙ sym c.content_fault.ensures ∙ c.in_default.is in
    omega (arith, c.wide_len.ensures.left, (wide_within c.args.area.now (data_start (g.S.Space.form c.args.s.now)) c.args.len c.requires.stands good).1)

pub returns-clause-reaches : goal.returns-clause-reaches
returns-clause-reaches g c =
    let start : 168 + 4 * (c.hash_size.result + 1) ≡ data_start (g.S.Space.form c.args.s.now) = ap (λ n. 168 + 4 * (n + 1)) c.hash_size.ensures in
    let good : content_fault_in c.args.area.now (data_start (g.S.Space.form c.args.s.now)) c.args.len ≡ None = ap (λ n. content_fault_in c.args.area.now n c.args.len) (sym start) ∙ sym c.content_fault.ensures ∙ c.in_default.is in
    omega (arith, c.wide_len.ensures.left, (wide_within c.args.area.now (data_start (g.S.Space.form c.args.s.now)) c.args.len c.requires.stands good).0)

pub returns-clause-undone : goal.returns-clause-undone
returns-clause-undone g c told is =
    let f = g.S.Space.form c.args.s.now in
    let img = g.S.Space.image c.args.s.now in
    let a = c.args.area.now in
    let es = entries_of f.order img a in
    let start : 168 + 4 * (c.hash_size.result + 1) ≡ data_start f = ap (λ n. 168 + 4 * (n + 1)) c.hash_size.ensures in
    let long : length img ≡ c.args.len = g.met.S.Space.told_size c.args.s.now told ∙ sym c.requires.length in
    let good : content_fault_in a (data_start f) c.args.len ≡ None = ap (λ n. content_fault_in c.args.area.now n c.args.len) (sym start) ∙ sym c.content_fault.ensures ∙ c.in_default.is in
    let looked = c.in_ok-head.ensures.looked in
    let back = c.in_ok-give_back.ensures.given told in
    let parsed : unparsed (content_end_of a) (entries_of f.order img a) ≡ None = (λ j. unparsed (content_end_of a) (entries_of (sym looked.form j).order (sym looked.image j) a)) ∙ back.0 in
    let b = g.S.Space.image c.give_back.new.s in
    let given : GivenBack a (entries_of f.order img a) img b =
    subst (λ x. GivenBack a (entries_of f.order x a) x b) looked.image (subst (λ q. GivenBack a (entries_of q.order (g.S.Space.image c.area_head_left.new.s) a) (g.S.Space.image c.area_head_left.new.s) b) looked.form back.1) in
    let z = c.word_bytes-shut.result in
    let zero = c.word_bytes-shut.ensures.bytes in
    let gate : g.S.Space.image c.put-2.new.self ≡ overlay (g.S.Space.image c.put.new.self) (a.at + 20) z = c.in_ok-put-2.ensures.set told ∙ ap (λ n. overlay (g.S.Space.image c.put.new.self) n z) c.gate.ensures in
    let whole = undone_is a img es (data_start f) c.args.len b (g.S.Space.image c.put.new.self) (g.S.Space.image c.put-2.new.self) c.in_ok-head.head z c.requires.stands (omega arith) long good given
    c.in_ok-head.ensures.four (c.in_ok-head.ensures.bytes told) (ap length zero ∙ word_length c.order.result 0)
    (λ k. ap (λ xs. slice_index xs k) (zero ∙ sym (zero_word c.order.result)) ∙ zero_there k) (c.in_ok-put.ensures.set told) gate in (
      content_good f img a is c.args.len _ long good parsed,
      ap (λ n. take n (g.S.Space.image c.put-2.new.self)) c.wide_len.ensures.left ∙ whole ∙ same_undone f img a is,
    )
