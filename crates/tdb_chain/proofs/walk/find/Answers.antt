-- The first word, one step more, and the ways out of the walk.
use Rattle.std.proofs.Common.{◌≡◌, length, refl, sym, ◌∙◌, ap, subst, arith, rules}
use Rattle.std.specs.Prelude.{◌+◌, ◌<◌, ◌/◌, ◌%◌, IsTrue}
use Rattle.std.proofs.lemmas.Bool.{MatchBool-at_true, MatchBool-at_false}
use Rattle.tdb_words.specs.declared.record.Rec.{Rec}
use Rattle.tdb_words.specs.Word.{word}
use Rattle.tdb_words.specs.Record.{rec_at}
use Rattle.tdb_words.specs.Hash.{h_of}
use Rattle.tdb_space.specs.Form.{chain_head}
use Rattle.tdb_space.specs.Pairs.{home}
use Rattle.tdb_space.proofs.Accepted.Laid.{accepted_filed}
use Rattle.tdb_space.specs.Standing.{HeaderStands}
use Rattle.tdb_chain.specs.Place.{LiesWithin}
use Rattle.tdb_chain.specs.Wanted.{IsWanted}
use Rattle.tdb_chain.proofs.Way.{OnTheWay, front_within, test_within, way_start, way_passed, way_tested, lacks_key}
use Rattle.tdb_chain.proofs.Walked.{walked_start, walked_out, walked_long, walked_more, walked_found, front_shown}
use Rattle.tdb_chain.proofs.walk.find.Goals as goal

pub loop-turn-init : goal.loop-turn-init
loop-turn-init g c =
    let f = g.S.Space.form c.args.s.now in
    let img = g.S.Space.image c.args.s.now in
    let key = c.args.key.now in
    let hash : c.hash_of-hash.result ≡ h_of f.hash key = c.hash_of-hash.ensures ∙ ap (λ kind. h_of kind key) (c.hash.ensures ∙ ap (λ x. x.hash) c.len.ensures.form) in
    let chains : c.hash_size.result ≡ f.chains = c.hash_size.ensures ∙ ap (λ x. x.chains) c.len.ensures.form in
    let chain : c.chain_of.result ≡ home f key = c.chain_of.ensures ∙ (λ j. hash j % chains j) in
    let head : c.chain_head-before.result ≡ chain_head (home f key) = c.chain_head-before.ensures ∙ ap chain_head chain in
    let first : IsTrue g.S.Space.tells → c.in_ok-at.at ≡ word f.order img c.chain_head-before.result =
    λ told. c.in_ok-at.ensures.value told ∙ (λ j. word (c.len.ensures.form j).order (c.len.ensures.image j) c.chain_head-before.result) in
    record {
      walked = λ told filed. walked_start f img key c.chain_head-before.result c.in_ok-at.at filed head (first told);
      led = search rules;
      aligned = search rules;
      short = search rules;
      looked = search rules;
      faults = search rules;
      bytes_read = search rules;
      reads = λ told. way_start f img key c.in_ok-at.at _ _ (first told ∙ ap (word f.order img) head) (omega (arith, c.in_ok-at.ensures.bytes_read.no_more, c.len.ensures.bytes_read));
    }

-- no record can stand there
pub returns-then-not-header_stands-clause-found : goal.returns-then-not-header_stands-clause-found
returns-then-not-header_stands-clause-found g c told hands accepted =
    let f = g.S.Space.form c.args.s.now in
    let img = g.S.Space.image c.args.s.now in
    let v = c.loop-turn.invariant in
    let long = g.met.S.Space.told_size c.args.s.now told in
    let chains : c.hash_size-in-loop-turn.result ≡ f.chains = c.hash_size-in-loop-turn.ensures ∙ ap (λ x. x.chains) v.looked.form in
    walked_out f img c.args.key.now c.loop-turn._turn c.loop-turn.before c.loop-turn.at (v.walked told (accepted_filed f img hands accepted))
    (λ aligned above within. MatchBool-at_false (HeaderStands c.hash_size-in-loop-turn.result c.in_ok-len.len c.loop-turn.at) (HeaderStands c.hash_size-in-loop-turn.result c.in_ok-len.len c.loop-turn.at → ⊥) c.if-not-header_stands.true c.header_stands.ensures
    (record { aligned = aligned; above = omega (arith, above, chains); within = omega (arith, within, long, c.in_ok-len.ensures.length) }))

-- the record there doesn't lie within the file
pub returns-then-not-lies_within-clause-found : goal.returns-then-not-lies_within-clause-found
returns-then-not-lies_within-clause-found g c told hands accepted =
    let f = g.S.Space.form c.args.s.now in
    let img = g.S.Space.image c.args.s.now in
    let v = c.loop-turn.invariant in
    let len : length img ≡ c.in_ok-len.len = g.met.S.Space.told_size c.args.s.now told ∙ sym c.in_ok-len.ensures.length in
    let read : c.in_ok-front.front.rec ≡ rec_at f.order img c.loop-turn.at = c.in_ok-front.ensures.header told ∙ (λ j. rec_at (v.looked.form j).order (v.looked.image j) c.loop-turn.at) in
    walked_long f img c.args.key.now c.loop-turn._turn c.loop-turn.before c.loop-turn.at (v.walked told (accepted_filed f img hands accepted)) c.in_ok-front.front.rec read
    (λ lies. MatchBool-at_false (LiesWithin c.in_ok-front.front.rec c.loop-turn.at c.in_ok-len.len) (LiesWithin c.in_ok-front.front.rec c.loop-turn.at c.in_ok-len.len → ⊥) c.if-not-lies_within.true c.lies_within.ensures (subst (LiesWithin c.in_ok-front.front.rec c.loop-turn.at) len lies))

-- the record with the key
pub returns-then-branch-clause-found : goal.returns-then-branch-clause-found
returns-then-branch-clause-found g c told hands accepted =
    let f = g.S.Space.form c.args.s.now in
    let img = g.S.Space.image c.args.s.now in
    let key = c.args.key.now in
    let at = c.loop-turn.at in
    let rec = c.in_ok-front.front.rec in
    let v = c.loop-turn.invariant in
    let chains : c.hash_size-in-loop-turn.result ≡ f.chains = c.hash_size-in-loop-turn.ensures ∙ ap (λ x. x.chains) v.looked.form in
    let stands = MatchBool-at_true (HeaderStands c.hash_size-in-loop-turn.result c.in_ok-len.len at) (HeaderStands c.hash_size-in-loop-turn.result c.in_ok-len.len at → ⊥) c.if-not-header_stands.false c.header_stands.ensures in
    let read : rec ≡ rec_at f.order img at = c.in_ok-front.ensures.header told ∙ (λ j. rec_at (v.looked.form j).order (v.looked.image j) at) in
    let now = g.S.Space.image c.read_front.new.s in
    let shown = front_shown c.read_front.new.window (g.S.Space.image c.loop-turn.s) now at c.in_ok-front.front.held (omega (arith, c.in_ok-front.ensures.held.1, c.in_ok-front.ensures.long)) c.in_ok-front.ensures.looked.image (c.in_ok-front.ensures.shows told) in
    let wanted = subst (λ i. IsWanted rec c.hash_of-hash.result i at key) (c.read_front.ensures.looked.image ∙ v.looked.image) (MatchBool-at_true (IsWanted rec c.hash_of-hash.result now at key) (IsWanted rec c.hash_of-hash.result now at key → ⊥) c.if-branch.true (c.in_ok-is_wanted.ensures.wanted told shown)) in
    walked_found f img key c.loop-turn._turn c.loop-turn.before at (v.walked told (accepted_filed f img hands accepted))
    (record { off = at; before = c.loop-turn.before; rec = rec }) c.hash_of-hash.result c.requires.chains (omega (arith, stands.above, chains)) refl refl read wanted

-- one step more
pub loop-turn-preserved : goal.loop-turn-preserved
loop-turn-preserved g c =
    let f = g.S.Space.form c.args.s.now in
    let img = g.S.Space.image c.args.s.now in
    let key = c.args.key.now in
    let at = c.loop-turn.at in
    let rec = c.in_ok-front.front.rec in
    let v = c.loop-turn.invariant in
    let len : IsTrue g.S.Space.tells → length img ≡ c.in_ok-len.len = λ told. g.met.S.Space.told_size c.args.s.now told ∙ sym c.in_ok-len.ensures.length in
    let chains : c.hash_size-in-loop-turn.result ≡ f.chains = c.hash_size-in-loop-turn.ensures ∙ ap (λ x. x.chains) v.looked.form in
    let hash : c.hash_of-hash.result ≡ h_of f.hash key = c.hash_of-hash.ensures ∙ ap (λ kind. h_of kind key) (c.hash.ensures ∙ ap (λ x. x.hash) c.len.ensures.form) in
    let stands = MatchBool-at_true (HeaderStands c.hash_size-in-loop-turn.result c.in_ok-len.len at) (HeaderStands c.hash_size-in-loop-turn.result c.in_ok-len.len at → ⊥) c.if-not-header_stands.false c.header_stands.ensures in
    let read : IsTrue g.S.Space.tells → rec ≡ rec_at f.order img at = λ told. c.in_ok-front.ensures.header told ∙ (λ j. rec_at (v.looked.form j).order (v.looked.image j) at) in
    let lies : IsTrue g.S.Space.tells → LiesWithin rec at (length img) = λ told. subst (LiesWithin rec at) (sym (len told)) (MatchBool-at_true (LiesWithin rec at c.in_ok-len.len) (LiesWithin rec at c.in_ok-len.len → ⊥) c.if-not-lies_within.false c.lies_within.ensures) in
    let now = g.S.Space.image c.read_front.new.s in
    let other : IsTrue g.S.Space.tells → IsWanted rec c.hash_of-hash.result img at key → ⊥ = λ told wanted.
    (let shown = front_shown c.read_front.new.window (g.S.Space.image c.loop-turn.s) now at c.in_ok-front.front.held (omega (arith, c.in_ok-front.ensures.held.1, c.in_ok-front.ensures.long)) c.in_ok-front.ensures.looked.image (c.in_ok-front.ensures.shows told) in
    MatchBool-at_false (IsWanted rec c.hash_of-hash.result now at key) (IsWanted rec c.hash_of-hash.result now at key → ⊥) c.if-branch.false (c.in_ok-is_wanted.ensures.wanted told shown) (subst (λ i. IsWanted rec c.hash_of-hash.result i at key) (sym (c.read_front.ensures.looked.image ∙ v.looked.image)) wanted)) in
    record {
      walked = λ told filed. walked_more f img key c.loop-turn._turn c.loop-turn.before at (v.walked told filed) rec c.hash_of-hash.result (omega (arith, stands.above, chains)) (read told) hash (lies told) (other told);
      led = search rules;
      aligned = search rules;
      short = search rules;
      looked = search rules;
      faults = search rules;
      bytes_read = search rules;
      reads = λ told.
          (let some : at ≡ 0 → ⊥ = λ e. absurd (omega (arith, e, stands.above)) in
          let room : c.loop-turn._turn < length img / 4 = omega (arith, c.loop-turn-test.true, ap (λ n. n / 4) (len told)) in
          let after = test_within f img key at (g.S.Space.bytes_read c.loop-turn.s) (g.S.Space.bytes_read c.read_front.new.s) (g.S.Space.bytes_read c.is_wanted.new.s) rec c.hash_of-hash.result (read told) hash c.read_front.ensures.bytes_read.no_more c.is_wanted.ensures.bytes_read.no_more in
          subst (λ n. OnTheWay f img key (c.loop-turn._turn + 1) n (g.S.Space.bytes_read c.args.s.now) (g.S.Space.bytes_read c.is_wanted.new.s)) (sym (ap (λ (q : Rec). q.next) (read told)))
          (way_passed f img key c.loop-turn._turn at (g.S.Space.bytes_read c.args.s.now) (g.S.Space.bytes_read c.loop-turn.s) (g.S.Space.bytes_read c.is_wanted.new.s) some room (v.reads told) after (lacks_key f img key at rec c.hash_of-hash.result (read told) hash (other told))));
    }

-- what was read where the walk ends
pub returns-in_err-front-clause-reads : goal.returns-in_err-front-clause-reads
returns-in_err-front-clause-reads g c told =
    let f = g.S.Space.form c.args.s.now in
    let img = g.S.Space.image c.args.s.now in
    let key = c.args.key.now in
    let at = c.loop-turn.at in
    let v = c.loop-turn.invariant in
    let len : length img ≡ c.in_ok-len.len = g.met.S.Space.told_size c.args.s.now told ∙ sym c.in_ok-len.ensures.length in
    let stands = MatchBool-at_true (HeaderStands c.hash_size-in-loop-turn.result c.in_ok-len.len at) (HeaderStands c.hash_size-in-loop-turn.result c.in_ok-len.len at → ⊥) c.if-not-header_stands.false c.header_stands.ensures in
    let room : c.loop-turn._turn < length img / 4 = omega (arith, c.loop-turn-test.true, ap (λ n. n / 4) len) in
    record {
      no_more = way_tested f img key c.loop-turn._turn at (g.S.Space.bytes_read c.args.s.now) (g.S.Space.bytes_read c.loop-turn.s) (g.S.Space.bytes_read c.read_front.new.s) (λ e. absurd (omega (arith, e, stands.above))) room (v.reads told)
          (front_within f img key at (g.S.Space.bytes_read c.loop-turn.s) (g.S.Space.bytes_read c.read_front.new.s) c.read_front.ensures.bytes_read.no_more);
      never_falls = omega (arith, v.bytes_read, c.read_front.ensures.bytes_read.never_falls);
    }

pub returns-then-not-lies_within-clause-reads : goal.returns-then-not-lies_within-clause-reads
returns-then-not-lies_within-clause-reads g c told =
    let f = g.S.Space.form c.args.s.now in
    let img = g.S.Space.image c.args.s.now in
    let key = c.args.key.now in
    let at = c.loop-turn.at in
    let v = c.loop-turn.invariant in
    let len : length img ≡ c.in_ok-len.len = g.met.S.Space.told_size c.args.s.now told ∙ sym c.in_ok-len.ensures.length in
    let stands = MatchBool-at_true (HeaderStands c.hash_size-in-loop-turn.result c.in_ok-len.len at) (HeaderStands c.hash_size-in-loop-turn.result c.in_ok-len.len at → ⊥) c.if-not-header_stands.false c.header_stands.ensures in
    let room : c.loop-turn._turn < length img / 4 = omega (arith, c.loop-turn-test.true, ap (λ n. n / 4) len) in
    record {
      no_more = way_tested f img key c.loop-turn._turn at (g.S.Space.bytes_read c.args.s.now) (g.S.Space.bytes_read c.loop-turn.s) (g.S.Space.bytes_read c.read_front.new.s) (λ e. absurd (omega (arith, e, stands.above))) room (v.reads told)
          (front_within f img key at (g.S.Space.bytes_read c.loop-turn.s) (g.S.Space.bytes_read c.read_front.new.s) c.read_front.ensures.bytes_read.no_more);
      never_falls = omega (arith, v.bytes_read, c.read_front.ensures.bytes_read.never_falls);
    }

pub returns-in_err-is_wanted-clause-reads : goal.returns-in_err-is_wanted-clause-reads
returns-in_err-is_wanted-clause-reads g c told =
    let f = g.S.Space.form c.args.s.now in
    let img = g.S.Space.image c.args.s.now in
    let key = c.args.key.now in
    let at = c.loop-turn.at in
    let v = c.loop-turn.invariant in
    let len : length img ≡ c.in_ok-len.len = g.met.S.Space.told_size c.args.s.now told ∙ sym c.in_ok-len.ensures.length in
    let stands = MatchBool-at_true (HeaderStands c.hash_size-in-loop-turn.result c.in_ok-len.len at) (HeaderStands c.hash_size-in-loop-turn.result c.in_ok-len.len at → ⊥) c.if-not-header_stands.false c.header_stands.ensures in
    let room : c.loop-turn._turn < length img / 4 = omega (arith, c.loop-turn-test.true, ap (λ n. n / 4) len) in
    let rec = c.in_ok-front.front.rec in
    let hash : c.hash_of-hash.result ≡ h_of f.hash key = c.hash_of-hash.ensures ∙ ap (λ kind. h_of kind key) (c.hash.ensures ∙ ap (λ x. x.hash) c.len.ensures.form) in
    let read : rec ≡ rec_at f.order img at = c.in_ok-front.ensures.header told ∙ (λ j. rec_at (v.looked.form j).order (v.looked.image j) at) in
    record {
      no_more = way_tested f img key c.loop-turn._turn at (g.S.Space.bytes_read c.args.s.now) (g.S.Space.bytes_read c.loop-turn.s) (g.S.Space.bytes_read c.is_wanted.new.s) (λ e. absurd (omega (arith, e, stands.above))) room (v.reads told)
          (test_within f img key at (g.S.Space.bytes_read c.loop-turn.s) (g.S.Space.bytes_read c.read_front.new.s) (g.S.Space.bytes_read c.is_wanted.new.s) rec c.hash_of-hash.result read hash c.read_front.ensures.bytes_read.no_more c.is_wanted.ensures.bytes_read.no_more);
      never_falls = omega (arith, v.bytes_read, c.read_front.ensures.bytes_read.never_falls, c.is_wanted.ensures.bytes_read.never_falls);
    }

pub returns-then-branch-clause-reads : goal.returns-then-branch-clause-reads
returns-then-branch-clause-reads g c told =
    let f = g.S.Space.form c.args.s.now in
    let img = g.S.Space.image c.args.s.now in
    let key = c.args.key.now in
    let at = c.loop-turn.at in
    let v = c.loop-turn.invariant in
    let len : length img ≡ c.in_ok-len.len = g.met.S.Space.told_size c.args.s.now told ∙ sym c.in_ok-len.ensures.length in
    let stands = MatchBool-at_true (HeaderStands c.hash_size-in-loop-turn.result c.in_ok-len.len at) (HeaderStands c.hash_size-in-loop-turn.result c.in_ok-len.len at → ⊥) c.if-not-header_stands.false c.header_stands.ensures in
    let room : c.loop-turn._turn < length img / 4 = omega (arith, c.loop-turn-test.true, ap (λ n. n / 4) len) in
    let rec = c.in_ok-front.front.rec in
    let hash : c.hash_of-hash.result ≡ h_of f.hash key = c.hash_of-hash.ensures ∙ ap (λ kind. h_of kind key) (c.hash.ensures ∙ ap (λ x. x.hash) c.len.ensures.form) in
    let read : rec ≡ rec_at f.order img at = c.in_ok-front.ensures.header told ∙ (λ j. rec_at (v.looked.form j).order (v.looked.image j) at) in
    record {
      no_more = way_tested f img key c.loop-turn._turn at (g.S.Space.bytes_read c.args.s.now) (g.S.Space.bytes_read c.loop-turn.s) (g.S.Space.bytes_read c.is_wanted.new.s) (λ e. absurd (omega (arith, e, stands.above))) room (v.reads told)
          (test_within f img key at (g.S.Space.bytes_read c.loop-turn.s) (g.S.Space.bytes_read c.read_front.new.s) (g.S.Space.bytes_read c.is_wanted.new.s) rec c.hash_of-hash.result read hash c.read_front.ensures.bytes_read.no_more c.is_wanted.ensures.bytes_read.no_more);
      never_falls = omega (arith, v.bytes_read, c.read_front.ensures.bytes_read.never_falls, c.is_wanted.ensures.bytes_read.never_falls);
    }
