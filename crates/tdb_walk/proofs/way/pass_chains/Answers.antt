-- One chain more, and where the way ends.
use Rattle.std.proofs.Common.{◌≡◌, ◌+◌, ◌-◌, ◌≤◌, ◌<◌, Some, None, length, ◌∙◌, ap, subst, arith, rules}
use Rattle.std.specs.Prelude.{◌/◌, IfSome}
use Rattle.tdb_walk.specs.declared.heads.Head.{Head}
use Rattle.tdb_walk.specs.declared.looking.Look.TheVariants.{Seen}
use Rattle.tdb_disk.specs.Count.{RoseUpTo}
use Rattle.tdb_space.specs.Form.{Form}
use Rattle.tdb_space.specs.Chain.{offsets}
use Rattle.tdb_walk.specs.Heads.{IsFirstFilled, heads_read}
use Rattle.tdb_walk.specs.Looks.{Shows, ShowsOf}
use Rattle.tdb_walk.specs.Reads.{records_reads, chains_reads}
use Rattle.tdb_walk.specs.Way.{LooksRightly}
use Rattle.tdb_walk.proofs.Costs.{chain_entered, chains_fewer, heads_passed}
use Rattle.tdb_walk.proofs.Views.{moved}
use Rattle.tdb_walk.proofs.Locked.{can_read_then, held_off_then}
use Rattle.tdb_walk.proofs.Searched.{search_goes_on}
use Rattle.tdb_walk.proofs.Ways.{way_free, way_ends, way_meets, way_stops}
use Rattle.tdb_walk.proofs.way.pass_chains.Goals as goal

-- no chain further on has a record
pub returns-in_default-clause-way : goal.returns-in_default-clause-way
returns-in_default-clause-way g c told hands A =
    let f = g.S.Space.form c.args.s.now in
    let img = g.S.Space.image c.args.s.now in
    let v = c.loop-chain.invariant in
    let chain = c.loop-chain.chain in
    way_ends f img c.args.locks.now c.args.owner c.args.own.now c.args.from chain (v.free told) hands A v.least (v.passed told hands A)
    (moved (λ x i. IsFirstFilled x i chain None) f (g.S.Space.form c.loop-chain.s) img (g.S.Space.image c.loop-chain.s) v.looked.form v.looked.image
    (subst (IsFirstFilled (g.S.Space.form c.loop-chain.s) (g.S.Space.image c.loop-chain.s) chain) c.in_default.is (c.in_ok-head.ensures.found told)))

-- the next chain with records has a live one
pub returns-in-Seen-Some-clause-way : goal.returns-in-Seen-Some-clause-way
returns-in-Seen-Some-clause-way g c told hands A =
    let f = g.S.Space.form c.args.s.now in
    let img = g.S.Space.image c.args.s.now in
    let f2 = g.S.Space.form c.first_filled.new.s in
    let img2 = g.S.Space.image c.first_filled.new.s in
    let v = c.loop-chain.invariant in
    let chain = c.loop-chain.chain in
    let head = c.in-Some.head in
    let seen = c.in-Seen-Some.is ∙ ap Seen c.in-Seen-Some.field-0-is in
    let first = moved (λ x i. IsFirstFilled x i chain (Some head)) f (g.S.Space.form c.loop-chain.s) img (g.S.Space.image c.loop-chain.s) v.looked.form v.looked.image
    (subst (IsFirstFilled (g.S.Space.form c.loop-chain.s) (g.S.Space.image c.loop-chain.s) chain) c.in-Some.is (c.in_ok-head.ensures.found told)) in
    way_meets f img c.args.locks.now c.args.owner c.args.own.now c.args.from chain (v.free told) hands A v.least (v.passed told hands A) head c.in-Seen-Some.live first
    (moved (λ x i. Shows x i head (Seen (Some c.in-Seen-Some.live))) f f2 img img2 (c.in_ok-head.ensures.looked.form ∙ v.looked.form) (c.in_ok-head.ensures.looked.image ∙ v.looked.image)
    (subst (Shows f2 img2 head) seen (c.in_ok-live.ensures.shows told)))
    (can_read_then c.args.owner c.args.locks.now c.loop-chain.locks c.args.own.now head.chain v.same (subst (LooksRightly c.loop-chain.locks c.args.owner c.args.own.now head.chain) seen c.in_ok-live.ensures.rightly))

-- it can't be read
pub returns-in-Stopped-clause-way : goal.returns-in-Stopped-clause-way
returns-in-Stopped-clause-way g c told hands A =
    let f = g.S.Space.form c.args.s.now in
    let img = g.S.Space.image c.args.s.now in
    let v = c.loop-chain.invariant in
    let chain = c.loop-chain.chain in
    let head = c.in-Some.head in
    let first = moved (λ x i. IsFirstFilled x i chain (Some head)) f (g.S.Space.form c.loop-chain.s) img (g.S.Space.image c.loop-chain.s) v.looked.form v.looked.image
    (subst (IsFirstFilled (g.S.Space.form c.loop-chain.s) (g.S.Space.image c.loop-chain.s) chain) c.in-Some.is (c.in_ok-head.ensures.found told)) in
    way_stops f img c.args.locks.now c.args.owner c.args.own.now c.args.from chain (v.free told) hands A v.least (v.passed told hands A) head c.in-Stopped.owner c.in-Stopped.byte first
    (held_off_then c.args.owner c.args.locks.now c.loop-chain.locks c.args.own.now head.chain c.in-Stopped.owner c.in-Stopped.byte v.same
    (subst (LooksRightly c.loop-chain.locks c.args.owner c.args.own.now head.chain) c.in-Stopped.is c.in_ok-live.ensures.rightly))

-- it has no live record
pub loop-chain-preserved : goal.loop-chain-preserved
loop-chain-preserved g c =
    let f = g.S.Space.form c.args.s.now in
    let img = g.S.Space.image c.args.s.now in
    let f2 = g.S.Space.form c.first_filled.new.s in
    let img2 = g.S.Space.image c.first_filled.new.s in
    let v = c.loop-chain.invariant in
    let chain = c.loop-chain.chain in
    let head = c.in-Some.head in
    let seen = c.in-Seen-None.is ∙ ap Seen c.in-Seen-None.field-0-is in
    let bounds = subst (λ found. IfSome found (λ (h : Head). (chain ≤ h.chain) × (h.chain < (g.S.Space.form c.loop-chain.s).chains))) c.in-Some.is c.in_ok-head.ensures.within in
    record {
      passed = λ told hands A.
          (let first = moved (λ x i. IsFirstFilled x i chain (Some head)) f (g.S.Space.form c.loop-chain.s) img (g.S.Space.image c.loop-chain.s) v.looked.form v.looked.image
          (subst (IsFirstFilled (g.S.Space.form c.loop-chain.s) (g.S.Space.image c.loop-chain.s) chain) c.in-Some.is (c.in_ok-head.ensures.found told)) in
          search_goes_on f img hands A c.args.from chain v.least (v.passed told hands A) head first
          (moved (λ x i. Shows x i head (Seen None)) f f2 img img2 (c.in_ok-head.ensures.looked.form ∙ v.looked.form) (c.in_ok-head.ensures.looked.image ∙ v.looked.image)
          (subst (Shows f2 img2 head) seen (c.in_ok-live.ensures.shows told))));
      free = λ told.
          (let first = moved (λ x i. IsFirstFilled x i chain (Some head)) f (g.S.Space.form c.loop-chain.s) img (g.S.Space.image c.loop-chain.s) v.looked.form v.looked.image
          (subst (IsFirstFilled (g.S.Space.form c.loop-chain.s) (g.S.Space.image c.loop-chain.s) chain) c.in-Some.is (c.in_ok-head.ensures.found told)) in
          way_free f img c.args.locks.now c.args.owner c.args.own.now c.args.from chain (v.free told) head first
          (can_read_then c.args.owner c.args.locks.now c.loop-chain.locks c.args.own.now head.chain v.same (subst (LooksRightly c.loop-chain.locks c.args.owner c.args.own.now head.chain) seen c.in_ok-live.ensures.rightly)));
      same = λ owner byte. c.in_ok-live.ensures.locks owner byte ∙ v.same owner byte;
      reads = λ told.
          (let first = moved (λ x i. IsFirstFilled x i chain (Some head)) f (g.S.Space.form c.loop-chain.s) img (g.S.Space.image c.loop-chain.s) v.looked.form v.looked.image
          (subst (IsFirstFilled (g.S.Space.form c.loop-chain.s) (g.S.Space.image c.loop-chain.s) chain) c.in-Some.is (c.in_ok-head.ensures.found told)) in
          let chains : (g.S.Space.form c.loop-chain.s).chains ≡ f.chains = ap (λ (x : Form). x.chains) v.looked.form in
          let heads = subst (λ found. RoseUpTo (heads_read (g.S.Space.form c.loop-chain.s).chains chain found) (g.S.Space.bytes_read c.loop-chain.s) (g.S.Space.bytes_read c.first_filled.new.s)) c.in-Some.is c.in_ok-head.ensures.cost in
          let records = moved (λ x i. RoseUpTo (records_reads x i (offsets x.order i (length i / 4) head.first)) (g.S.Space.bytes_read c.first_filled.new.s) (g.S.Space.bytes_read c.look_along.new.s)) f (g.S.Space.form c.first_filled.new.s) img (g.S.Space.image c.first_filled.new.s)
          (c.in_ok-head.ensures.looked.form ∙ v.looked.form) (c.in_ok-head.ensures.looked.image ∙ v.looked.image) (c.look_along.ensures.reads told) in
          let entered = chain_entered f img c.args.from chain (g.S.Space.bytes_read c.args.s.now) (g.S.Space.bytes_read c.loop-chain.s) (g.S.Space.bytes_read c.first_filled.new.s) (g.S.Space.bytes_read c.look_along.new.s) head first v.least (v.reads told) (omega (arith, heads.no_more, ap (λ n. heads_read n chain (Some head)) chains)) records.no_more in
          entered);
      most = omega (arith, v.most, bounds.1, c.hash_size-chains.ensures, ap (λ (x : Form). x.chains) v.looked.form);
      least = omega (arith, bounds.0, v.least);
      looked = search rules;
      faults = search rules;
      bytes_read = search rules;
    }

-- what was read of heads alone
pub returns-in_err-head-clause-reads_at_most : goal.returns-in_err-head-clause-reads_at_most
returns-in_err-head-clause-reads_at_most g c told =
    let f = g.S.Space.form c.args.s.now in
    let img = g.S.Space.image c.args.s.now in
    let v = c.loop-chain.invariant in
    let chain = c.loop-chain.chain in
    let chains : (g.S.Space.form c.loop-chain.s).chains ≡ f.chains = ap (λ (x : Form). x.chains) v.looked.form in
    record {
      no_more = heads_passed f img c.args.from chain (g.S.Space.bytes_read c.args.s.now) (g.S.Space.bytes_read c.loop-chain.s) (g.S.Space.bytes_read c.first_filled.new.s) v.least (omega (arith, c.loop-chain-test.true, c.hash_size-chains.ensures)) (v.reads told) (omega (arith, c.first_filled.ensures.bytes_read.no_more, chains));
      never_falls = omega (arith, v.bytes_read, c.first_filled.ensures.bytes_read.never_falls);
    }

pub returns-in_default-clause-reads : goal.returns-in_default-clause-reads
returns-in_default-clause-reads g c told =
    let f = g.S.Space.form c.args.s.now in
    let img = g.S.Space.image c.args.s.now in
    let v = c.loop-chain.invariant in
    let chain = c.loop-chain.chain in
    let chains : (g.S.Space.form c.loop-chain.s).chains ≡ f.chains = ap (λ (x : Form). x.chains) v.looked.form in
    record {
      no_more = heads_passed f img c.args.from chain (g.S.Space.bytes_read c.args.s.now) (g.S.Space.bytes_read c.loop-chain.s) (g.S.Space.bytes_read c.first_filled.new.s) v.least (omega (arith, c.loop-chain-test.true, c.hash_size-chains.ensures)) (v.reads told) (omega (arith, c.first_filled.ensures.bytes_read.no_more, chains));
      never_falls = omega (arith, v.bytes_read, c.first_filled.ensures.bytes_read.never_falls);
    }

pub returns-in_default-clause-reads_at_most : goal.returns-in_default-clause-reads_at_most
returns-in_default-clause-reads_at_most g c told =
    let f = g.S.Space.form c.args.s.now in
    let img = g.S.Space.image c.args.s.now in
    let v = c.loop-chain.invariant in
    let chain = c.loop-chain.chain in
    let chains : (g.S.Space.form c.loop-chain.s).chains ≡ f.chains = ap (λ (x : Form). x.chains) v.looked.form in
    record {
      no_more = heads_passed f img c.args.from chain (g.S.Space.bytes_read c.args.s.now) (g.S.Space.bytes_read c.loop-chain.s) (g.S.Space.bytes_read c.first_filled.new.s) v.least (omega (arith, c.loop-chain-test.true, c.hash_size-chains.ensures)) (v.reads told) (omega (arith, c.first_filled.ensures.bytes_read.no_more, chains));
      never_falls = omega (arith, v.bytes_read, c.first_filled.ensures.bytes_read.never_falls);
    }

-- and where a chain was looked at
pub returns-in_err-live-clause-reads_at_most : goal.returns-in_err-live-clause-reads_at_most
returns-in_err-live-clause-reads_at_most g c told =
    let f = g.S.Space.form c.args.s.now in
    let img = g.S.Space.image c.args.s.now in
    let v = c.loop-chain.invariant in
    let chain = c.loop-chain.chain in
    let head = c.in-Some.head in
    let first = moved (λ x i. IsFirstFilled x i chain (Some head)) f (g.S.Space.form c.loop-chain.s) img (g.S.Space.image c.loop-chain.s) v.looked.form v.looked.image
    (subst (IsFirstFilled (g.S.Space.form c.loop-chain.s) (g.S.Space.image c.loop-chain.s) chain) c.in-Some.is (c.in_ok-head.ensures.found told)) in
    let chains : (g.S.Space.form c.loop-chain.s).chains ≡ f.chains = ap (λ (x : Form). x.chains) v.looked.form in
    let heads = subst (λ found. RoseUpTo (heads_read (g.S.Space.form c.loop-chain.s).chains chain found) (g.S.Space.bytes_read c.loop-chain.s) (g.S.Space.bytes_read c.first_filled.new.s)) c.in-Some.is c.in_ok-head.ensures.cost in
    let records = moved (λ x i. RoseUpTo (records_reads x i (offsets x.order i (length i / 4) head.first)) (g.S.Space.bytes_read c.first_filled.new.s) (g.S.Space.bytes_read c.look_along.new.s)) f (g.S.Space.form c.first_filled.new.s) img (g.S.Space.image c.first_filled.new.s)
    (c.in_ok-head.ensures.looked.form ∙ v.looked.form) (c.in_ok-head.ensures.looked.image ∙ v.looked.image) (c.look_along.ensures.reads told) in
    let entered = chain_entered f img c.args.from chain (g.S.Space.bytes_read c.args.s.now) (g.S.Space.bytes_read c.loop-chain.s) (g.S.Space.bytes_read c.first_filled.new.s) (g.S.Space.bytes_read c.look_along.new.s) head first v.least (v.reads told) (omega (arith, heads.no_more, ap (λ n. heads_read n chain (Some head)) chains)) records.no_more in
    record {
      no_more = omega (arith, entered, chains_fewer f img c.args.from (head.chain + 1) f.chains (omega (arith, first.below)));
      never_falls = omega (arith, v.bytes_read, heads.never_falls, records.never_falls);
    }

pub returns-in-Seen-Some-clause-reads : goal.returns-in-Seen-Some-clause-reads
returns-in-Seen-Some-clause-reads g c told =
    let f = g.S.Space.form c.args.s.now in
    let img = g.S.Space.image c.args.s.now in
    let v = c.loop-chain.invariant in
    let chain = c.loop-chain.chain in
    let head = c.in-Some.head in
    let first = moved (λ x i. IsFirstFilled x i chain (Some head)) f (g.S.Space.form c.loop-chain.s) img (g.S.Space.image c.loop-chain.s) v.looked.form v.looked.image
    (subst (IsFirstFilled (g.S.Space.form c.loop-chain.s) (g.S.Space.image c.loop-chain.s) chain) c.in-Some.is (c.in_ok-head.ensures.found told)) in
    let chains : (g.S.Space.form c.loop-chain.s).chains ≡ f.chains = ap (λ (x : Form). x.chains) v.looked.form in
    let heads = subst (λ found. RoseUpTo (heads_read (g.S.Space.form c.loop-chain.s).chains chain found) (g.S.Space.bytes_read c.loop-chain.s) (g.S.Space.bytes_read c.first_filled.new.s)) c.in-Some.is c.in_ok-head.ensures.cost in
    let records = moved (λ x i. RoseUpTo (records_reads x i (offsets x.order i (length i / 4) head.first)) (g.S.Space.bytes_read c.first_filled.new.s) (g.S.Space.bytes_read c.look_along.new.s)) f (g.S.Space.form c.first_filled.new.s) img (g.S.Space.image c.first_filled.new.s)
    (c.in_ok-head.ensures.looked.form ∙ v.looked.form) (c.in_ok-head.ensures.looked.image ∙ v.looked.image) (c.look_along.ensures.reads told) in
    let entered = chain_entered f img c.args.from chain (g.S.Space.bytes_read c.args.s.now) (g.S.Space.bytes_read c.loop-chain.s) (g.S.Space.bytes_read c.first_filled.new.s) (g.S.Space.bytes_read c.look_along.new.s) head first v.least (v.reads told) (omega (arith, heads.no_more, ap (λ n. heads_read n chain (Some head)) chains)) records.no_more in
    let own = subst (ShowsOf head.chain) (c.in-Seen-Some.is ∙ ap Seen c.in-Seen-Some.field-0-is) c.in_ok-live.ensures.chain in
    record {
      no_more = omega (arith, entered, ap (λ n. chains_reads f img c.args.from (n + 1 - c.args.from)) own);
      never_falls = omega (arith, v.bytes_read, heads.never_falls, records.never_falls);
    }

pub returns-in-Seen-Some-clause-reads_at_most : goal.returns-in-Seen-Some-clause-reads_at_most
returns-in-Seen-Some-clause-reads_at_most g c told =
    let f = g.S.Space.form c.args.s.now in
    let img = g.S.Space.image c.args.s.now in
    let v = c.loop-chain.invariant in
    let chain = c.loop-chain.chain in
    let head = c.in-Some.head in
    let first = moved (λ x i. IsFirstFilled x i chain (Some head)) f (g.S.Space.form c.loop-chain.s) img (g.S.Space.image c.loop-chain.s) v.looked.form v.looked.image
    (subst (IsFirstFilled (g.S.Space.form c.loop-chain.s) (g.S.Space.image c.loop-chain.s) chain) c.in-Some.is (c.in_ok-head.ensures.found told)) in
    let chains : (g.S.Space.form c.loop-chain.s).chains ≡ f.chains = ap (λ (x : Form). x.chains) v.looked.form in
    let heads = subst (λ found. RoseUpTo (heads_read (g.S.Space.form c.loop-chain.s).chains chain found) (g.S.Space.bytes_read c.loop-chain.s) (g.S.Space.bytes_read c.first_filled.new.s)) c.in-Some.is c.in_ok-head.ensures.cost in
    let records = moved (λ x i. RoseUpTo (records_reads x i (offsets x.order i (length i / 4) head.first)) (g.S.Space.bytes_read c.first_filled.new.s) (g.S.Space.bytes_read c.look_along.new.s)) f (g.S.Space.form c.first_filled.new.s) img (g.S.Space.image c.first_filled.new.s)
    (c.in_ok-head.ensures.looked.form ∙ v.looked.form) (c.in_ok-head.ensures.looked.image ∙ v.looked.image) (c.look_along.ensures.reads told) in
    let entered = chain_entered f img c.args.from chain (g.S.Space.bytes_read c.args.s.now) (g.S.Space.bytes_read c.loop-chain.s) (g.S.Space.bytes_read c.first_filled.new.s) (g.S.Space.bytes_read c.look_along.new.s) head first v.least (v.reads told) (omega (arith, heads.no_more, ap (λ n. heads_read n chain (Some head)) chains)) records.no_more in
    record {
      no_more = omega (arith, entered, chains_fewer f img c.args.from (head.chain + 1) f.chains (omega (arith, first.below)));
      never_falls = omega (arith, v.bytes_read, heads.never_falls, records.never_falls);
    }

pub returns-in-Stopped-clause-reads : goal.returns-in-Stopped-clause-reads
returns-in-Stopped-clause-reads g c told =
    let f = g.S.Space.form c.args.s.now in
    let img = g.S.Space.image c.args.s.now in
    let v = c.loop-chain.invariant in
    let chain = c.loop-chain.chain in
    let head = c.in-Some.head in
    let first = moved (λ x i. IsFirstFilled x i chain (Some head)) f (g.S.Space.form c.loop-chain.s) img (g.S.Space.image c.loop-chain.s) v.looked.form v.looked.image
    (subst (IsFirstFilled (g.S.Space.form c.loop-chain.s) (g.S.Space.image c.loop-chain.s) chain) c.in-Some.is (c.in_ok-head.ensures.found told)) in
    let chains : (g.S.Space.form c.loop-chain.s).chains ≡ f.chains = ap (λ (x : Form). x.chains) v.looked.form in
    let heads = subst (λ found. RoseUpTo (heads_read (g.S.Space.form c.loop-chain.s).chains chain found) (g.S.Space.bytes_read c.loop-chain.s) (g.S.Space.bytes_read c.first_filled.new.s)) c.in-Some.is c.in_ok-head.ensures.cost in
    let records = moved (λ x i. RoseUpTo (records_reads x i (offsets x.order i (length i / 4) head.first)) (g.S.Space.bytes_read c.first_filled.new.s) (g.S.Space.bytes_read c.look_along.new.s)) f (g.S.Space.form c.first_filled.new.s) img (g.S.Space.image c.first_filled.new.s)
    (c.in_ok-head.ensures.looked.form ∙ v.looked.form) (c.in_ok-head.ensures.looked.image ∙ v.looked.image) (c.look_along.ensures.reads told) in
    let entered = chain_entered f img c.args.from chain (g.S.Space.bytes_read c.args.s.now) (g.S.Space.bytes_read c.loop-chain.s) (g.S.Space.bytes_read c.first_filled.new.s) (g.S.Space.bytes_read c.look_along.new.s) head first v.least (v.reads told) (omega (arith, heads.no_more, ap (λ n. heads_read n chain (Some head)) chains)) records.no_more in
    record {
      no_more = entered;
      never_falls = omega (arith, v.bytes_read, heads.never_falls, records.never_falls);
    }

pub returns-in-Stopped-clause-reads_at_most : goal.returns-in-Stopped-clause-reads_at_most
returns-in-Stopped-clause-reads_at_most g c told =
    let f = g.S.Space.form c.args.s.now in
    let img = g.S.Space.image c.args.s.now in
    let v = c.loop-chain.invariant in
    let chain = c.loop-chain.chain in
    let head = c.in-Some.head in
    let first = moved (λ x i. IsFirstFilled x i chain (Some head)) f (g.S.Space.form c.loop-chain.s) img (g.S.Space.image c.loop-chain.s) v.looked.form v.looked.image
    (subst (IsFirstFilled (g.S.Space.form c.loop-chain.s) (g.S.Space.image c.loop-chain.s) chain) c.in-Some.is (c.in_ok-head.ensures.found told)) in
    let chains : (g.S.Space.form c.loop-chain.s).chains ≡ f.chains = ap (λ (x : Form). x.chains) v.looked.form in
    let heads = subst (λ found. RoseUpTo (heads_read (g.S.Space.form c.loop-chain.s).chains chain found) (g.S.Space.bytes_read c.loop-chain.s) (g.S.Space.bytes_read c.first_filled.new.s)) c.in-Some.is c.in_ok-head.ensures.cost in
    let records = moved (λ x i. RoseUpTo (records_reads x i (offsets x.order i (length i / 4) head.first)) (g.S.Space.bytes_read c.first_filled.new.s) (g.S.Space.bytes_read c.look_along.new.s)) f (g.S.Space.form c.first_filled.new.s) img (g.S.Space.image c.first_filled.new.s)
    (c.in_ok-head.ensures.looked.form ∙ v.looked.form) (c.in_ok-head.ensures.looked.image ∙ v.looked.image) (c.look_along.ensures.reads told) in
    let entered = chain_entered f img c.args.from chain (g.S.Space.bytes_read c.args.s.now) (g.S.Space.bytes_read c.loop-chain.s) (g.S.Space.bytes_read c.first_filled.new.s) (g.S.Space.bytes_read c.look_along.new.s) head first v.least (v.reads told) (omega (arith, heads.no_more, ap (λ n. heads_read n chain (Some head)) chains)) records.no_more in
    record {
      no_more = omega (arith, entered, chains_fewer f img c.args.from (head.chain + 1) f.chains (omega (arith, first.below)));
      never_falls = omega (arith, v.bytes_read, heads.never_falls, records.never_falls);
    }

-- no chain is left
pub returns-clause-reads : goal.returns-clause-reads
returns-clause-reads g c told =
    let v = c.loop-chain.invariant in
    let f = g.S.Space.form c.args.s.now in
    let same : c.loop-chain.chain - c.args.from ≡ f.chains - c.args.from = omega (arith, v.most, v.least, c.loop-chain-test.false, c.hash_size-chains.ensures) in
    record { no_more = omega (arith, v.reads told, ap (chains_reads f (g.S.Space.image c.args.s.now) c.args.from) same); never_falls = v.bytes_read }

pub returns-clause-reads_at_most : goal.returns-clause-reads_at_most
returns-clause-reads_at_most g c told =
    let v = c.loop-chain.invariant in
    let f = g.S.Space.form c.args.s.now in
    let same : c.loop-chain.chain - c.args.from ≡ f.chains - c.args.from = omega (arith, v.most, v.least, c.loop-chain-test.false, c.hash_size-chains.ensures) in
    record { no_more = omega (arith, v.reads told, ap (chains_reads f (g.S.Space.image c.args.s.now) c.args.from) same); never_falls = v.bytes_read }
