-- The chain at hand is read to its end, and then the next one; where all chains were passed, the order was given.
use Rattle.std.proofs.Common.{◌≡◌, ◌+◌, ◌*◌, ◌<◌, ◌≤◌, ◌∷◌, ◌++◌, [], length, ◌∙◌, sym, ap, rules, arith}
use Rattle.std.specs.Prelude.{◌/◌}
use Rattle.std.proofs.lemmas.Bool.{MatchBool-at_false}
use Rattle.tdb_words.specs.Word.{word}
use Rattle.tdb_space.specs.Form.{chain_head}
use Rattle.tdb_space.specs.Accepted.{AcceptWith}
use Rattle.tdb_free.proofs.Results.{on_err}
use Rattle.tdb_backup.specs.Traversal.{Gave, GaveChains, pair_at_hand}
use Rattle.tdb_backup.specs.Reads.{rest_reads}
use Rattle.tdb_backup.proofs.Costs.{along, went_on, entered, head_read}
use Rattle.tdb_backup.proofs.Walk.{moved, gave_all, gave_chains, entered_fewer}
use Rattle.tdb_backup.proofs.traversal.Traversal.advance.Goals as goal

-- a file that is too short for its heads isn't accepted
pub returns-then-len-data_start-clause-gave : goal.returns-then-len-data_start-clause-gave
returns-then-len-data_start-clause-gave g c told hands A given h =
    let chains = c.hash_size-chains.ensures ∙ ap (λ x. x.chains) c.len.ensures.form in
    absurd (omega (arith, A.long, g.met.S.Space.told_size c.args.s.now told, c.in_ok-len.ensures.length, c.data_start.ensures, chains, c.if-len-data_start.true))

pub returns-in_err-advance_in_chain-clause-kept : goal.returns-in_err-advance_in_chain-clause-kept
returns-in_err-advance_in_chain-clause-kept g c =
    let f = g.S.Space.form c.args.s.now in
    let k = g.S.Space.form c.loop-self.s in
    let img = g.S.Space.image c.args.s.now in
    let v = g.S.Space.image c.loop-self.s in
    let looked = c.loop-self.invariant.looked in
    on_err c.from_residual-in_err-advance_in_chain.result (λ told hands A given h.
    (let before = moved (λ x i. Gave x i given c.loop-self.self) k f v img (sym looked.form) (sym looked.image) (c.loop-self.invariant.gave told hands A given h) in
    moved (λ x i. Gave x i given c.advance_in_chain.new.self) f k img v looked.form looked.image (c.in_err-advance_in_chain.ensures.kept told given before)))

pub returns-then-self-chains-clause-gave : goal.returns-then-self-chains-clause-gave
returns-then-self-chains-clause-gave g c told hands A given h =
    let f = g.S.Space.form c.args.s.now in
    let k = g.S.Space.form c.loop-self.s in
    let img = g.S.Space.image c.args.s.now in
    let v = g.S.Space.image c.loop-self.s in
    let n = c.advance_in_chain.new.self in
    let looked = c.loop-self.invariant.looked in
    let chains = c.hash_size-chains.ensures ∙ ap (λ x. x.chains) c.len.ensures.form in
    let before = moved (λ x i. Gave x i given c.loop-self.self) k f v img (sym looked.form) (sym looked.image) (c.loop-self.invariant.gave told hands A given h) in
    let ended = MatchBool-at_false (Gave k v (given ++ pair_at_hand n ∷ []) n) (GaveChains k v given n) c.if-branch.false (c.in_ok-advance_in_chain.ensures.gave told given before) in
    let end = moved (λ x i. GaveChains x i given n) f k img v looked.form looked.image ended in
    (gave_chains f img given n end, gave_all f img given n end (omega (arith, c.if-self-chains.true, chains)))

pub loop-self-preserved : goal.loop-self-preserved
loop-self-preserved g c = record {
  gave = λ told hands A given h.
      (let f = g.S.Space.form c.args.s.now in
      let k = g.S.Space.form c.loop-self.s in
      let m = g.S.Space.form c.advance_in_chain.new.s in
      let img = g.S.Space.image c.args.s.now in
      let v = g.S.Space.image c.loop-self.s in
      let w = g.S.Space.image c.advance_in_chain.new.s in
      let n = c.advance_in_chain.new.self in
      let looked = c.loop-self.invariant.looked in
      let form = c.advance_in_chain.ensures.looked.form ∙ looked.form in
      let image = c.advance_in_chain.ensures.looked.image ∙ looked.image in
      let before = moved (λ x i. Gave x i given c.loop-self.self) k f v img (sym looked.form) (sym looked.image) (c.loop-self.invariant.gave told hands A given h) in
      let ended = MatchBool-at_false (Gave k v (given ++ pair_at_hand n ∷ []) n) (GaveChains k v given n) c.if-branch.false (c.in_ok-advance_in_chain.ensures.gave told given before) in
      let end = moved (λ x i. GaveChains x i given n) m k w v (sym c.advance_in_chain.ensures.looked.form) (sym c.advance_in_chain.ensures.looked.image) ended in
      let there = moved (λ x i. AcceptWith x i hands) m f w img (sym form) (sym image) A in
      moved (λ x i. Gave x i given c.enter_chain.new.self) f m img w form image (c.enter_chain.ensures.gave told hands there given end));
  no_more =
      (let chains = c.hash_size-chains.ensures ∙ ap (λ x. x.chains) c.len.ensures.form in
      let more : c.loop-self.self.next_chain < (g.S.Space.form c.args.s.now).chains = omega (arith, c.if-self-chains.false, chains, c.advance_in_chain.ensures.same_chain) in
      let counted : 4 * c.enter_chain.new.self.left ≤ g.S.Space.size c.args.s.now = omega (arith, c.in_ok-enter_chain.ensures.counted, c.in_ok-len.ensures.length) in
      entered_fewer (g.S.Space.form c.args.s.now).chains (g.S.Space.size c.args.s.now) _ c.loop-self.self c.enter_chain.new.self more
      (c.in_ok-enter_chain.ensures.entered ∙ ap (λ x. x + 1) c.advance_in_chain.ensures.same_chain) counted c.loop-self.invariant.no_more);
  looked = search rules;
  faults = search rules;
  bytes_read = search rules;
  reads = λ told.
      (let f = g.S.Space.form c.args.s.now in
      let img = g.S.Space.image c.args.s.now in
      let looked = c.loop-self.invariant.looked in
      let form = c.advance_in_chain.ensures.looked.form ∙ looked.form in
      let image = c.advance_in_chain.ensures.looked.image ∙ looked.image in
      let t = c.loop-self.self in
      let chain = c.advance_in_chain.ensures.same_chain in
      let more : t.next_chain < f.chains = omega (arith, c.if-self-chains.false, c.hash_size-chains.ensures ∙ ap (λ x. x.chains) c.len.ensures.form, chain) in
      let middle = moved (λ x i. g.S.Space.bytes_read c.advance_in_chain.new.s ≤ g.S.Space.bytes_read c.loop-self.s + rest_reads x i t) f (g.S.Space.form c.loop-self.s) img (g.S.Space.image c.loop-self.s) looked.form looked.image (c.in_ok-advance_in_chain.ensures.reads_at_most told).no_more in
      let head = c.in_ok-enter_chain.ensures.head told ∙ (λ j. word (form j).order (image j) (chain_head (chain j))) in
      let long : c.in_ok-len.len ≡ length img = c.in_ok-len.ensures.length ∙ sym (g.met.S.Space.told_size c.args.s.now told) in
      entered f img t c.enter_chain.new.self (g.S.Space.bytes_read c.loop-self.s) (g.S.Space.bytes_read c.advance_in_chain.new.s) (g.S.Space.bytes_read c.enter_chain.new.s) _ more
      (c.in_ok-enter_chain.ensures.entered ∙ ap (λ n. n + 1) chain) head (c.in_ok-enter_chain.ensures.all_left ∙ ap (λ n. n / 4) long) middle c.in_ok-enter_chain.ensures.bytes_read.no_more (c.loop-self.invariant.reads told));
}

pub returns-in_err-enter_chain-clause-kept : goal.returns-in_err-enter_chain-clause-kept
returns-in_err-enter_chain-clause-kept g c =
    let f = g.S.Space.form c.args.s.now in
    let k = g.S.Space.form c.loop-self.s in
    let m = g.S.Space.form c.advance_in_chain.new.s in
    let img = g.S.Space.image c.args.s.now in
    let v = g.S.Space.image c.loop-self.s in
    let w = g.S.Space.image c.advance_in_chain.new.s in
    let n = c.advance_in_chain.new.self in
    let looked = c.loop-self.invariant.looked in
    let form = c.advance_in_chain.ensures.looked.form ∙ looked.form in
    let image = c.advance_in_chain.ensures.looked.image ∙ looked.image in
    on_err c.from_residual-in_err-enter_chain.result (λ told hands A given h.
    (let before = moved (λ x i. Gave x i given c.loop-self.self) k f v img (sym looked.form) (sym looked.image) (c.loop-self.invariant.gave told hands A given h) in
    let ended = MatchBool-at_false (Gave k v (given ++ pair_at_hand n ∷ []) n) (GaveChains k v given n) c.if-branch.false (c.in_ok-advance_in_chain.ensures.gave told given before) in
    let end = moved (λ x i. GaveChains x i given n) m k w v (sym c.advance_in_chain.ensures.looked.form) (sym c.advance_in_chain.ensures.looked.image) ended in
    let there = moved (λ x i. AcceptWith x i hands) m f w img (sym form) (sym image) A in
    moved (λ x i. Gave x i given c.enter_chain.new.self) f m img w form image (c.enter_chain.ensures.gave told hands there given end)))

-- what was read
pub returns-in_err-advance_in_chain-clause-reads_at_most : goal.returns-in_err-advance_in_chain-clause-reads_at_most
returns-in_err-advance_in_chain-clause-reads_at_most g c told =
    let v = c.loop-self.invariant in
    let middle = moved (λ x i. g.S.Space.bytes_read c.advance_in_chain.new.s ≤ g.S.Space.bytes_read c.loop-self.s + rest_reads x i c.loop-self.self) (g.S.Space.form c.args.s.now) (g.S.Space.form c.loop-self.s) (g.S.Space.image c.args.s.now) (g.S.Space.image c.loop-self.s) v.looked.form v.looked.image
    (c.advance_in_chain.ensures.reads_at_most told).no_more in
    record { no_more = omega (arith, middle, v.reads told); never_falls = omega (arith, v.bytes_read, c.advance_in_chain.ensures.bytes_read) }

pub returns-then-branch-clause-reads : goal.returns-then-branch-clause-reads
returns-then-branch-clause-reads g c told more =
    let f = g.S.Space.form c.args.s.now in
    let img = g.S.Space.image c.args.s.now in
    let v = c.loop-self.invariant in
    let t = c.loop-self.self in
    let u = c.advance_in_chain.new.self in
    let read = moved (λ x i. g.S.Space.bytes_read c.advance_in_chain.new.s + rest_reads x i u ≤ g.S.Space.bytes_read c.loop-self.s + rest_reads x i t) f (g.S.Space.form c.loop-self.s) img (g.S.Space.image c.loop-self.s) v.looked.form v.looked.image
    (c.in_ok-advance_in_chain.ensures.reads told c.if-branch.true) in
    along f img c.args.self.now u (g.S.Space.bytes_read c.args.s.now) (g.S.Space.bytes_read c.advance_in_chain.new.s)
    (went_on f img t u (g.S.Space.bytes_read c.loop-self.s) (g.S.Space.bytes_read c.advance_in_chain.new.s) _ c.advance_in_chain.ensures.same_chain read (v.reads told))
    (omega (arith, v.bytes_read, c.advance_in_chain.ensures.bytes_read))

pub returns-then-branch-clause-reads_at_most : goal.returns-then-branch-clause-reads_at_most
returns-then-branch-clause-reads_at_most g c told =
    let v = c.loop-self.invariant in
    let middle = moved (λ x i. g.S.Space.bytes_read c.advance_in_chain.new.s ≤ g.S.Space.bytes_read c.loop-self.s + rest_reads x i c.loop-self.self) (g.S.Space.form c.args.s.now) (g.S.Space.form c.loop-self.s) (g.S.Space.image c.args.s.now) (g.S.Space.image c.loop-self.s) v.looked.form v.looked.image
    (c.advance_in_chain.ensures.reads_at_most told).no_more in
    record { no_more = omega (arith, middle, v.reads told); never_falls = omega (arith, v.bytes_read, c.advance_in_chain.ensures.bytes_read) }

pub returns-then-self-chains-clause-reads_at_most : goal.returns-then-self-chains-clause-reads_at_most
returns-then-self-chains-clause-reads_at_most g c told =
    let v = c.loop-self.invariant in
    let middle = moved (λ x i. g.S.Space.bytes_read c.advance_in_chain.new.s ≤ g.S.Space.bytes_read c.loop-self.s + rest_reads x i c.loop-self.self) (g.S.Space.form c.args.s.now) (g.S.Space.form c.loop-self.s) (g.S.Space.image c.args.s.now) (g.S.Space.image c.loop-self.s) v.looked.form v.looked.image
    (c.advance_in_chain.ensures.reads_at_most told).no_more in
    record { no_more = omega (arith, middle, v.reads told); never_falls = omega (arith, v.bytes_read, c.advance_in_chain.ensures.bytes_read) }

pub returns-in_err-enter_chain-clause-reads_at_most : goal.returns-in_err-enter_chain-clause-reads_at_most
returns-in_err-enter_chain-clause-reads_at_most g c told =
    let f = g.S.Space.form c.args.s.now in
    let img = g.S.Space.image c.args.s.now in
    let v = c.loop-self.invariant in
    let t = c.loop-self.self in
    let more : t.next_chain < f.chains = omega (arith, c.if-self-chains.false, c.hash_size-chains.ensures ∙ ap (λ x. x.chains) c.len.ensures.form, c.advance_in_chain.ensures.same_chain) in
    let middle = moved (λ x i. g.S.Space.bytes_read c.advance_in_chain.new.s ≤ g.S.Space.bytes_read c.loop-self.s + rest_reads x i t) f (g.S.Space.form c.loop-self.s) img (g.S.Space.image c.loop-self.s) v.looked.form v.looked.image
    (c.advance_in_chain.ensures.reads_at_most told).no_more in
    record {
      no_more = head_read f img t (g.S.Space.bytes_read c.loop-self.s) (g.S.Space.bytes_read c.advance_in_chain.new.s) (g.S.Space.bytes_read c.enter_chain.new.s) _ more middle c.enter_chain.ensures.bytes_read.no_more (v.reads told);
      never_falls = omega (arith, v.bytes_read, c.advance_in_chain.ensures.bytes_read, c.enter_chain.ensures.bytes_read.never_falls);
    }
