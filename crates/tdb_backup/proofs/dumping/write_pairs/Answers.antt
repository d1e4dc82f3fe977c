-- Each pair's text is held and handed on; what was written is a front of the dump, and in the end all of it.
use Rattle.std.proofs.Common.{◌≡◌, ◌++◌, ◌∷◌, [], refl, sym, subst, rules, arith}
use Rattle.std.proofs.lemmas.Bool.{MatchBool-at_true, MatchBool-at_false}
use Rattle.tdb_free.proofs.Results.{on_err}
use Rattle.tdb_space.specs.Pairs.{order_of}
use Rattle.tdb_space.specs.Accepted.{AcceptWith}
use Rattle.tdb_backup.specs.Traversal.{Gave, pair_at_hand}
use Rattle.tdb_backup.specs.Dump.{text_of, HandedOn, WroteNext}
use Rattle.tdb_backup.proofs.Walk.{moved}
use Rattle.tdb_backup.proofs.Costs.{goes_on, has_read}
use Rattle.tdb_backup.proofs.Dumped.{Dumped, dumped_start, dumped_failed, listed_more, listed_all, listed_stopped}
use Rattle.tdb_backup.proofs.dumping.write_pairs.Goals as goal

pub loop-text-init : goal.loop-text-init
loop-text-init g c = record {
  dumped = λ told heard hands A.
      (let w = g.K.Sink.written c.args.out.now in (
        [],
        c.new-traversal.ensures.gave (g.S.Space.form c.args.s.now) (g.S.Space.image c.args.s.now),
        subst (λ held. Dumped c.args.listing w w held []) (sym c.new-text.ensures.items) (dumped_start c.args.listing w),
      ));
  looked = search rules;
  faults = refl;
  sink_faults = refl;
  bytes_read = search rules;
  reads = λ told. omega (arith, c.new-traversal.ensures.reads (g.S.Space.form c.args.s.now) (g.S.Space.image c.args.s.now));
}

pub loop-text-preserved : goal.loop-text-preserved
loop-text-preserved g c =
    let f = g.S.Space.form c.args.s.now in
    let k = g.S.Space.form c.loop-text.s in
    let img = g.S.Space.image c.args.s.now in
    let v = g.S.Space.image c.loop-text.s in
    let u = c.list_next.new.traversal in
    let looked = c.loop-text.invariant.looked in
    record {
      dumped = λ told heard hands A.
          (let before = g.K.Sink.written c.args.out.now in
          let now = g.K.Sink.written c.loop-text.out in
          let later = g.K.Sink.written c.list_next.new.out in
          let held = c.loop-text.text.items in
          let left = c.list_next.new.text.items in
          let d = c.loop-text.invariant.dumped told heard hands A in
          let there = c.in_ok-list_next.ensures.listed told heard hands (moved (λ x i. AcceptWith x i hands) k f v img (sym looked.form) (sym looked.image) A) d.0
          (moved (λ x i. Gave x i d.0 c.loop-text.traversal) k f v img (sym looked.form) (sym looked.image) d.1) in
          let next = MatchBool-at_true (Gave k v (d.0 ++ pair_at_hand u ∷ []) u × HandedOn now (held ++ text_of c.args.listing (pair_at_hand u)) later left)
          ((order_of k v ≡ d.0) × (later ≡ now) × (c.list_next.new.text ≡ c.loop-text.text)) c.if-branch.true there in
          listed_more c.args.listing f img before now held later left d.0 u d.2 (moved (λ x i. Gave x i (d.0 ++ pair_at_hand u ∷ []) u) f k img v looked.form looked.image next.0, next.1));
      looked = search rules;
      faults = search rules;
      sink_faults = search rules;
      bytes_read = search rules;
      reads = λ told. goes_on f k img v c.loop-text.traversal u (g.S.Space.bytes_read c.loop-text.s) (g.S.Space.bytes_read c.list_next.new.s) _ looked.form looked.image (c.in_ok-list_next.ensures.reads told c.if-branch.true) (c.loop-text.invariant.reads told);
    }

pub returns-in_err-list_next-clause-front : goal.returns-in_err-list_next-clause-front
returns-in_err-list_next-clause-front g c = on_err c.from_residual.result (λ told heard hands A.
    (let f = g.S.Space.form c.args.s.now in
    let k = g.S.Space.form c.loop-text.s in
    let img = g.S.Space.image c.args.s.now in
    let v = g.S.Space.image c.loop-text.s in
    let looked = c.loop-text.invariant.looked in
    let now = g.K.Sink.written c.loop-text.out in
    let later = g.K.Sink.written c.list_next.new.out in
    let held = c.loop-text.text.items in
    let d = c.loop-text.invariant.dumped told heard hands A in
    let there = c.in_err-list_next.ensures.front told heard hands (moved (λ x i. AcceptWith x i hands) k f v img (sym looked.form) (sym looked.image) A) d.0
    (moved (λ x i. Gave x i d.0 c.loop-text.traversal) k f v img (sym looked.form) (sym looked.image) d.1) in
    listed_stopped c.args.listing f img (g.K.Sink.written c.args.out.now) now held later d.0 d.2
    (moved (λ x i. WroteNext c.args.listing (order_of x i) d.0 now held later) f k img v looked.form looked.image there)))

pub returns-in_err-hand_on-clause-front : goal.returns-in_err-hand_on-clause-front
returns-in_err-hand_on-clause-front g c = on_err c.from_residual-in_err-hand_on.result (λ told heard hands A.
    (let f = g.S.Space.form c.args.s.now in
    let k = g.S.Space.form c.loop-text.s in
    let img = g.S.Space.image c.args.s.now in
    let v = g.S.Space.image c.loop-text.s in
    let u = c.list_next.new.traversal in
    let looked = c.loop-text.invariant.looked in
    let now = g.K.Sink.written c.loop-text.out in
    let later = g.K.Sink.written c.list_next.new.out in
    let held = c.loop-text.text.items in
    let left = c.list_next.new.text.items in
    let d = c.loop-text.invariant.dumped told heard hands A in
    let there = c.in_ok-list_next.ensures.listed told heard hands (moved (λ x i. AcceptWith x i hands) k f v img (sym looked.form) (sym looked.image) A) d.0
    (moved (λ x i. Gave x i d.0 c.loop-text.traversal) k f v img (sym looked.form) (sym looked.image) d.1) in
    let end = MatchBool-at_false (Gave k v (d.0 ++ pair_at_hand u ∷ []) u × HandedOn now (held ++ text_of c.args.listing (pair_at_hand u)) later left)
    ((order_of k v ≡ d.0) × (later ≡ now) × (c.list_next.new.text ≡ c.loop-text.text)) c.if-branch.false there in
    dumped_failed c.args.listing f img (g.K.Sink.written c.args.out.now) later left d.0 c.loop-text.traversal d.1
    (subst (λ x. Dumped c.args.listing (g.K.Sink.written c.args.out.now) x left d.0) (sym end.1) (subst (λ x. Dumped c.args.listing (g.K.Sink.written c.args.out.now) now x.items d.0) (sym end.2) d.2))
    (g.K.Sink.written c.hand_on.new.out) (c.in_err-hand_on.ensures.failed heard)))

pub returns-clause-written : goal.returns-clause-written
returns-clause-written g c told heard hands A =
    let f = g.S.Space.form c.args.s.now in
    let k = g.S.Space.form c.loop-text.s in
    let img = g.S.Space.image c.args.s.now in
    let v = g.S.Space.image c.loop-text.s in
    let u = c.list_next.new.traversal in
    let looked = c.loop-text.invariant.looked in
    let before = g.K.Sink.written c.args.out.now in
    let now = g.K.Sink.written c.loop-text.out in
    let later = g.K.Sink.written c.list_next.new.out in
    let held = c.loop-text.text.items in
    let left = c.list_next.new.text.items in
    let d = c.loop-text.invariant.dumped told heard hands A in
    let there = c.in_ok-list_next.ensures.listed told heard hands (moved (λ x i. AcceptWith x i hands) k f v img (sym looked.form) (sym looked.image) A) d.0
    (moved (λ x i. Gave x i d.0 c.loop-text.traversal) k f v img (sym looked.form) (sym looked.image) d.1) in
    let end = MatchBool-at_false (Gave k v (d.0 ++ pair_at_hand u ∷ []) u × HandedOn now (held ++ text_of c.args.listing (pair_at_hand u)) later left)
    ((order_of k v ≡ d.0) × (later ≡ now) × (c.list_next.new.text ≡ c.loop-text.text)) c.if-branch.false there in
    listed_all c.args.listing f img before later left (g.K.Sink.written c.hand_on.new.out) c.hand_on.new.text.items d.0
    (subst (λ x. Dumped c.args.listing before x left d.0) (sym end.1) (subst (λ x. Dumped c.args.listing before now x.items d.0) (sym end.2) d.2))
    (moved (λ x i. order_of x i ≡ d.0) f k img v looked.form looked.image end.0) (c.in_ok-hand_on.ensures.done heard) (c.in_ok-hand_on.ensures.left (omega arith))

-- what was read
pub returns-in_err-list_next-clause-reads : goal.returns-in_err-list_next-clause-reads
returns-in_err-list_next-clause-reads g c told =
    let v = c.loop-text.invariant in
    record {
      no_more = has_read (g.S.Space.form c.args.s.now) (g.S.Space.form c.loop-text.s) (g.S.Space.image c.args.s.now) (g.S.Space.image c.loop-text.s) c.loop-text.traversal (g.S.Space.bytes_read c.loop-text.s) (g.S.Space.bytes_read c.list_next.new.s) _ v.looked.form v.looked.image
          (c.list_next.ensures.reads_at_most told) (v.reads told);
      never_falls = omega (arith, v.bytes_read, c.list_next.ensures.bytes_read);
    }

pub returns-in_err-hand_on-clause-reads : goal.returns-in_err-hand_on-clause-reads
returns-in_err-hand_on-clause-reads g c told =
    let v = c.loop-text.invariant in
    record {
      no_more = has_read (g.S.Space.form c.args.s.now) (g.S.Space.form c.loop-text.s) (g.S.Space.image c.args.s.now) (g.S.Space.image c.loop-text.s) c.loop-text.traversal (g.S.Space.bytes_read c.loop-text.s) (g.S.Space.bytes_read c.list_next.new.s) _ v.looked.form v.looked.image
          (c.list_next.ensures.reads_at_most told) (v.reads told);
      never_falls = omega (arith, v.bytes_read, c.list_next.ensures.bytes_read);
    }

pub returns-clause-reads : goal.returns-clause-reads
returns-clause-reads g c told =
    let v = c.loop-text.invariant in
    record {
      no_more = has_read (g.S.Space.form c.args.s.now) (g.S.Space.form c.loop-text.s) (g.S.Space.image c.args.s.now) (g.S.Space.image c.loop-text.s) c.loop-text.traversal (g.S.Space.bytes_read c.loop-text.s) (g.S.Space.bytes_read c.list_next.new.s) _ v.looked.form v.looked.image
          (c.list_next.ensures.reads_at_most told) (v.reads told);
      never_falls = omega (arith, v.bytes_read, c.list_next.ensures.bytes_read);
    }
