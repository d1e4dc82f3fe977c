-- The look of an append, and its other turns.
use Rattle.std.proofs.Common.{◌≡◌, ◌<◌, ◌⊎◌, List, None, length, refl, sym, subst, arith}
use Rattle.std.specs.Prelude.{◌^◌, IsTrue, IfOk, OnErr, unwrap_or}
use Rattle.std.proofs.lemmas.Result.{IfOk-weaker, on_err_weaker}
use Rattle.tdb_space.specs.Extents.{HandPair}
use Rattle.tdb_space.specs.Accepted.{AcceptWith}
use Rattle.tdb_space.specs.Pairs.{map_of}
use Rattle.tdb_space.specs.NewRecord.{rec_len_for}
use Rattle.tdb_steps.specs.Asked.{appends, joined, stores}
use Rattle.tdb_steps.specs.Turns.{Makes, Stops, AppendMakes, Finds, UpdatesRightly, StoresRightly, AppendsRightly}
use Rattle.tdb_steps.specs.Order.{StoreOrder, LooksOn}
use Rattle.tdb_steps.specs.Memory.{StarvesBounded, StarvesRightly}
use Rattle.tdb_steps.specs.Reads.{costs_of, TurnReads}
use Rattle.tdb_steps.specs.declared.plain.Plain.TheVariants.{Append}
use Rattle.tdb_steps.specs.declared.plain.Plain.TheVariants as Plain
use Rattle.tdb_steps.specs.declared.flag.Flag.TheVariants as Flags
use Rattle.tdb_steps.specs.declared.stage.Stage.TheVariants as Stage
use Rattle.tdb_steps.specs.declared.stage.Next.TheVariants as Next
use Rattle.tdb_locks.specs.declared.turn.Reply.TheVariants as Reply
use Rattle.tdb_steps.proofs.Made.{of_both}
use Rattle.tdb_steps.proofs.Reading.{other_turn}
use Rattle.tdb_steps.proofs.Appended.{look_appended, store_appended, look_rightly, store_rightly}
use Rattle.tdb_steps.proofs.Starving.{append_looks, bounded_starves}
use Rattle.tdb_steps.proofs.append_turns.append_turn.Goals as goal

pub returns-in-Chained-clause-made : goal.returns-in-Chained-clause-made
returns-in-Chained-clause-made g c =
    let f = g.S.Space.form c.args.s.now in
    let a = g.S.Space.image c.args.s.now in
    let b = g.S.Space.image c.look_to_append.new.s in
    let key = c.args.key.now in
    let more = c.args.more.now in
    let whole = c.look_to_append.new.whole in
    subst (λ then. IfOk c.look_to_append.result (λ next. IsTrue g.S.Space.tells → g.S.Space.size c.args.s.now < 2 ^ 32 → AppendMakes f a b key more c.args.whole.now whole then next)) (sym c.in-Chained.is)
    (of_both c.look_to_append.result (λ next. IsTrue g.S.Space.tells → Makes f a b key (appends more) Stage.Chained next)
    (λ next. IsTrue g.S.Space.tells → (hands : List HandPair) → AcceptWith f a hands → (next ≡ Next.Done Reply.Memory) ⊎ (unwrap_or whole more ≡ joined (map_of f a key) more))
    (λ next. IsTrue g.S.Space.tells → g.S.Space.size c.args.s.now < 2 ^ 32 → AppendMakes f a b key more c.args.whole.now whole Stage.Chained next)
    (λ next made same told small. look_appended f a b key more c.args.whole.now whole next (made told) (same told)) c.look_to_append.ensures.made c.look_to_append.ensures.joined)

pub returns-in-Chained-clause-rightly : goal.returns-in-Chained-clause-rightly
returns-in-Chained-clause-rightly g c =
    let f = g.S.Space.form c.args.s.now in
    let a = g.S.Space.image c.args.s.now in
    let b = g.S.Space.image c.look_to_append.new.s in
    let key = c.args.key.now in
    let more = c.args.more.now in
    let whole = c.look_to_append.new.whole in
    subst (λ then. IfOk c.look_to_append.result (λ next. IsTrue g.S.Space.tells → g.S.Space.size c.args.s.now < 2 ^ 32 → AppendsRightly f a b key more c.args.whole.now c.args.limit c.args.stood_on.now then next)) (sym c.in-Chained.is)
    (of_both c.look_to_append.result (λ next. IsTrue g.S.Space.tells → Finds f a key (λ place. UpdatesRightly a b (length (unwrap_or whole more)) place next))
    (λ next. IsTrue g.S.Space.tells → (hands : List HandPair) → AcceptWith f a hands → (next ≡ Next.Done Reply.Memory) ⊎ (unwrap_or whole more ≡ joined (map_of f a key) more))
    (λ next. IsTrue g.S.Space.tells → g.S.Space.size c.args.s.now < 2 ^ 32 → AppendsRightly f a b key more c.args.whole.now c.args.limit c.args.stood_on.now Stage.Chained next)
    (λ next rightly same told small. look_rightly f a b key more c.args.limit c.args.stood_on.now c.args.whole.now whole next (rightly told) (same told)) c.look_to_append.ensures.rightly c.look_to_append.ensures.joined)

pub returns-in-Chained-clause-leads : goal.returns-in-Chained-clause-leads
returns-in-Chained-clause-leads g c = c.look_to_append.ensures.leads _

pub returns-in_default : goal.returns-in_default
returns-in_default g c =
    let f = g.S.Space.form c.args.s.now in
    let a = g.S.Space.image c.args.s.now in
    let b = g.S.Space.image c.store_joined.new.s in
    let key = c.args.key.now in
    let more = c.args.more.now in
    let whole = c.args.whole.now in
    let spare = g.S.Space.spare c.args.s.now in
    record {
      made = of_both c.store_joined.result (λ next. IsTrue g.S.Space.tells → g.S.Space.size c.args.s.now < 2 ^ 32 → Makes f a b key (stores Flags.Replace (unwrap_or whole more)) c.args.stage next) (StoreOrder c.args.stage)
          (λ next. IsTrue g.S.Space.tells → g.S.Space.size c.args.s.now < 2 ^ 32 → AppendMakes f a b key more whole whole c.args.stage next)
          (λ next makes order told small. store_appended f a b key more whole whole c.args.stage next c.in_default.not-Chained order (makes told small)) c.store_joined.ensures.made c.store_joined.ensures.order;
      rightly = IfOk-weaker c.store_joined.result (λ next. IsTrue g.S.Space.tells → g.S.Space.size c.args.s.now < 2 ^ 32 → StoresRightly f a b key (length (unwrap_or whole more)) (rec_len_for (length key) (length (unwrap_or whole more))) c.args.limit c.args.stood_on.now c.args.stage next)
          (λ next. IsTrue g.S.Space.tells → g.S.Space.size c.args.s.now < 2 ^ 32 → AppendsRightly f a b key more whole c.args.limit c.args.stood_on.now c.args.stage next)
          (λ next rightly told small. store_rightly f a b key more c.args.limit c.args.stood_on.now whole c.args.stage next c.in_default.not-Chained (rightly told small)) c.store_joined.ensures.rightly;
      order = c.store_joined.ensures.order;
      starves = IfOk-weaker c.store_joined.result (StarvesBounded spare) (StarvesRightly spare (Append key more) c.args.stage) (bounded_starves spare (Append key more) c.args.stage) c.store_joined.ensures.starves;
      room = c.store_joined.ensures.room;
      leads = c.store_joined.ensures.leads;
      short = c.requires.whole;
      keeps = λ never. refl;
      stopped = c.store_joined.ensures.stopped;
      idle = c.store_joined.ensures.idle;
      longer = c.store_joined.ensures.longer;
      within = c.store_joined.ensures.within;
      wrote = c.store_joined.ensures.wrote;
      cause = c.store_joined.ensures.cause;
      bytes_read = c.store_joined.ensures.bytes_read;
      reads = λ told small hands A.
          other_turn (costs_of f a (Plain.Append key more) whole) (costs_of f a (Plain.Store key (unwrap_or whole more) Flags.Replace) None) 0 c.args.stage (g.S.Space.bytes_read c.args.s.now) (g.S.Space.bytes_read c.store_joined.new.s)
          (record { taking = refl; giving = refl; wiping = refl }) c.in_default.not-Chained (c.store_joined.ensures.reads told small hands A);
    }

pub returns-in-Chained-clause-stopped : goal.returns-in-Chained-clause-stopped
returns-in-Chained-clause-stopped g c =
    let f = g.S.Space.form c.args.s.now in
    let a = g.S.Space.image c.args.s.now in
    let b = g.S.Space.image c.look_to_append.new.s in
    subst (λ then. OnErr c.look_to_append.result (IsTrue g.S.Space.tells → g.S.Space.size c.args.s.now < 2 ^ 32 → Stops f a b c.args.key.now then)) (sym c.in-Chained.is)
    (on_err_weaker c.look_to_append.result (λ stopped told small asked others A known. stopped told others A) c.look_to_append.ensures.stopped)

pub returns-in-Chained-clause-reads : goal.returns-in-Chained-clause-reads
returns-in-Chained-clause-reads g c told small hands A =
    let f = g.S.Space.form c.args.s.now in
    let a = g.S.Space.image c.args.s.now in
    let look = c.look_to_append.ensures.reads told hands A in
    subst (λ stage. TurnReads (costs_of f a (Plain.Append c.args.key.now c.args.more.now) c.args.whole.now) 0 stage (g.S.Space.bytes_read c.args.s.now) (g.S.Space.bytes_read c.look_to_append.new.s)) (sym c.in-Chained.is)
    (record { no_more = omega (arith, look.no_more); never_falls = look.never_falls })

-- the look takes a value
pub returns-in-Chained-clause-starves : goal.returns-in-Chained-clause-starves
returns-in-Chained-clause-starves g c =
    IfOk-weaker c.look_to_append.result LooksOn _ (λ next order. append_looks (g.S.Space.spare c.args.s.now) c.args.key.now c.args.more.now c.args.stage next c.in-Chained.is) c.look_to_append.ensures.order
