-- The record stands in its chain, and the walk goes on from its next word.
use Rattle.std.proofs.Common.{◌≡◌, ℕ, List, length, sym, ◌∙◌, ap, subst, arith}
use Rattle.std.specs.Prelude.{◌/◌, IsTrue, IfSome}
use Rattle.std.proofs.lemmas.Result.{IfOk-weaker}
use Rattle.tdb_disk.specs.Count.{RoseUpTo}
use Rattle.tdb_words.specs.declared.record.Rec.{Rec}
use Rattle.tdb_words.specs.Word.{word}
use Rattle.tdb_words.specs.Record.{rec_at}
use Rattle.tdb_space.specs.Chain.{Chain, Member, offsets}
use Rattle.tdb_space.specs.Accepted.{AllFiled}
use Rattle.tdb_law.specs.Layout.{cells, behind}
use Rattle.tdb_walk.specs.NextLive.{first_live, live_at}
use Rattle.tdb_walk.specs.Reads.{records_reads}
use Rattle.tdb_walk.proofs.Views.{moved}
use Rattle.tdb_walk.proofs.Left.{rest_behind}
use Rattle.tdb_walk.proofs.records.live_behind.Goals as goal

pub returns-in_default-clause-found : goal.returns-in_default-clause-found
returns-in_default-clause-found g c told first offs linked filed m =
    let f = g.S.Space.form c.args.s.now in
    let img = g.S.Space.image c.args.s.now in
    let r = rest_behind f img c.args.chain first c.args.off offs linked filed m in
    absurd (c.in_default.not-Some (rec_at f.order img c.args.off) (c.in_ok-rec.ensures.there told r.whole))

pub returns-clause-found : goal.returns-clause-found
returns-clause-found g c =
    let f = g.S.Space.form c.args.s.now in
    let img = g.S.Space.image c.args.s.now in
    let f2 = g.S.Space.form c.read_listed.new.s in
    let img2 = g.S.Space.image c.read_listed.new.s in
    let chain = c.args.chain in
    let off = c.args.off in
    let next = c.in-Some.rec.next in
    IfOk-weaker c.live_from.result
    (λ found. IsTrue g.S.Space.tells → (offs : List ℕ) → Chain f2 img2 next offs → AllFiled f2 img2 chain offs → found ≡ live_at f2 img2 chain (first_live (cells f2 img2 offs)))
    (λ found. IsTrue g.S.Space.tells → (first : ℕ) (offs : List ℕ) → Chain f img first offs → AllFiled f img chain offs → Member off offs → found ≡ live_at f img chain (first_live (behind (cells f img offs) off)))
    (λ found walks told first offs linked filed m.
    (let r = rest_behind f img chain first off offs linked filed m in
    let leads : next ≡ word f.order img off = ap (λ (q : Rec). q.next) (subst (λ there. IfSome there (λ q. q ≡ rec_at f.order img off)) c.in-Some.is (c.in_ok-rec.ensures.header told)) in
    moved (λ x i. (all : List ℕ) → Chain x i next all → AllFiled x i chain all → found ≡ live_at x i chain (first_live (cells x i all))) f f2 img img2 c.in_ok-rec.ensures.looked.form c.in_ok-rec.ensures.looked.image (walks told)
    r.rest (subst (λ y. Chain f img y r.rest) (sym leads) r.linked) r.filed ∙ ap (λ cs. live_at f img chain (first_live cs)) (sym r.same)))
    c.live_from.ensures.found

-- its own header, and then those behind it
pub returns-clause-reads : goal.returns-clause-reads
returns-clause-reads g c told =
    let f = g.S.Space.form c.args.s.now in
    let img = g.S.Space.image c.args.s.now in
    let leads : c.in-Some.rec.next ≡ word f.order img c.args.off = ap (λ (q : Rec). q.next) (subst (λ there. IfSome there (λ q. q ≡ rec_at f.order img c.args.off)) c.in-Some.is (c.in_ok-rec.ensures.header told)) in
    let rest = subst (λ next. RoseUpTo (records_reads f img (offsets f.order img (length img / 4) next)) (g.S.Space.bytes_read c.read_listed.new.s) (g.S.Space.bytes_read c.live_from.new.s)) leads
    (moved (λ x i. RoseUpTo (records_reads x i (offsets x.order i (length i / 4) c.in-Some.rec.next)) (g.S.Space.bytes_read c.read_listed.new.s) (g.S.Space.bytes_read c.live_from.new.s))
    f (g.S.Space.form c.read_listed.new.s) img (g.S.Space.image c.read_listed.new.s) c.in_ok-rec.ensures.looked.form c.in_ok-rec.ensures.looked.image (c.live_from.ensures.reads told)) in
    record { no_more = omega (arith, rest.no_more, c.read_listed.ensures.bytes_read.no_more); never_falls = omega (arith, rest.never_falls, c.read_listed.ensures.bytes_read.never_falls) }
