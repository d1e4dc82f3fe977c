-- Behind the last live record of its chain a cursor goes on as before the next one.
use Rattle.std.proofs.Common.{◌≡◌, ◌+◌, ℕ, List, None, Some, sym, ◌∙◌, subst}
use Rattle.std.specs.Prelude.{IsTrue}
use Rattle.std.proofs.lemmas.Result.{IfOk-weaker}
use Rattle.tdb_words.specs.Word.{word}
use Rattle.tdb_space.specs.Form.{Form, chain_head}
use Rattle.tdb_space.specs.Chain.{Chain, Member, chain_of}
use Rattle.tdb_space.specs.Extents.{HandPair}
use Rattle.tdb_space.specs.Accepted.{AcceptWith, AllFiled}
use Rattle.tdb_locks.specs.HeldLocks.{HeldLocks}
use Rattle.tdb_locks.specs.declared.piece.Piece.{Piece}
use Rattle.tdb_law.specs.Layout.{cells, behind, chains_in}
use Rattle.tdb_law.specs.Layout.Place.{before_chain, on_record}
use Rattle.tdb_walk.specs.declared.way.Way.{Way}
use Rattle.tdb_walk.specs.declared.way.Way.TheVariants.{Met, Blocked, End}
use Rattle.tdb_walk.specs.NextLive.{StandsIn, first_live, live_at, place_of}
use Rattle.tdb_walk.specs.Way.{IsWay, next_chain}
use Rattle.tdb_walk.proofs.Ahead.{found_none, none_on}
use Rattle.tdb_walk.proofs.Searched.{goes_past}
use Rattle.tdb_walk.proofs.Views.{moved}
use Rattle.tdb_walk.proofs.way.move_on.Goals as goal

-- where its chain has no live record left, a way from before the next one is a way from the record
from_record : (f : Form) (img : List ℕ) (ps : List Piece) (owner : ℕ) (own : HeldLocks) (chain off : ℕ) (way : Way) → None ≡ live_at f img chain (first_live (behind (chains_in f img chain) off))
    → IsWay f img ps owner own (before_chain (chain + 1)) (chain + 1) way → IsWay f img ps owner own (on_record chain off) (chain + 1) way
from_record f img ps owner own chain off (Met live) nothing walks = (goes_past f img chain off (Some live) nothing walks.0, walks.1)
from_record f img ps owner own chain off End nothing walks = (goes_past f img chain off None nothing walks.0, walks.1)
from_record f img ps owner own chain off (Blocked at other byte) nothing walks = record {
  above = walks.above;
  below = walks.below;
  passed = none_on (chains_in f img) chain off (found_none f img chain (first_live (behind (chains_in f img chain) off)) nothing) at walks.passed;
  free = walks.free;
  filled = walks.filled;
  off = walks.off;
}

pub returns-in_default-clause-way : goal.returns-in_default-clause-way
returns-in_default-clause-way g c =
    let f = g.S.Space.form c.args.s.now in
    let img = g.S.Space.image c.args.s.now in
    let f2 = g.S.Space.form c.live_behind.new.s in
    let img2 = g.S.Space.image c.live_behind.new.s in
    let ps = c.args.locks.now in
    let owner = c.args.owner in
    let own = c.args.own.now in
    let place = c.args.place in
    let chain = c.in-On.chain in
    let off = c.in-On.off in
    IfOk-weaker c.pass_chains-in-On.result (λ way. IsTrue g.S.Space.tells → (hands : List HandPair) → AcceptWith f2 img2 hands → IsWay f2 img2 ps owner own (before_chain (chain + 1)) (chain + 1) way)
    (λ way. IsTrue g.S.Space.tells → (hands : List HandPair) → AcceptWith f img hands → StandsIn f img place → IsWay f img ps owner own (place_of place) (next_chain f place) way)
    (λ way walks told hands A stands.
    (let on = subst (StandsIn f img) c.in-On.is stands in
    let found = moved (λ x i. (first : ℕ) (offs : List ℕ) → Chain x i first offs → AllFiled x i chain offs → Member off offs → c.in_ok-live-in-On.field-0 ≡ live_at x i chain (first_live (behind (cells x i offs) off)))
    f (g.S.Space.form c.len.new.self) img (g.S.Space.image c.len.new.self) c.len.ensures.form c.len.ensures.image (c.in_ok-live-in-On.ensures.found told) (word f.order img (chain_head chain)) (chain_of f img chain) (A.chains chain on.0) (A.filed chain on.0) on.1 in
    subst (λ p. IsWay f img ps owner own (place_of p) (next_chain f p) way) (sym c.in-On.is)
    (from_record f img ps owner own chain off way (sym c.in_default.is ∙ found)
    (moved (λ x i. (hs : List HandPair) → AcceptWith x i hs → IsWay x i ps owner own (before_chain (chain + 1)) (chain + 1) way) f f2 img img2 (c.live_behind.ensures.looked.form ∙ c.len.ensures.form) (c.live_behind.ensures.looked.image ∙ c.len.ensures.image) (walks told) hands A))))
    c.pass_chains-in-On.ensures.way
