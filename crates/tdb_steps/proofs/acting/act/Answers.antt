-- A turn of a command is that of its kind.
use Rattle.std.proofs.Common.{◌<◌, List, ◌++◌, length, sym, subst}
use Rattle.std.specs.Prelude.{◌^◌, IsTrue, IfOk, OnErr}
use Rattle.std.proofs.lemmas.Result.{IfOk-weaker, on_err_weaker}
use Rattle.tdb_space.specs.NewRecord.{rec_len_for}
use Rattle.tdb_steps.specs.Asked.{fetches, asks, stores, appends, deletes}
use Rattle.tdb_steps.specs.Turns.{Makes, TurnStopped, AppendMakes, StoresRightly, AppendsRightly, DeletesRightly, LooksRightly}
use Rattle.tdb_steps.specs.Machines.{CommandMakes, CommandStops, CommandRightly}
use Rattle.tdb_steps.specs.Reads.{costs_of, TurnReads}
use Rattle.tdb_steps.specs.declared.plain.Plain.TheVariants as Plain
use Rattle.tdb_space.specs.Extents.{HandPair}
use Rattle.tdb_space.specs.Accepted.{AcceptWith}
use Rattle.tdb_space.proofs.Results.{on_err}
use Rattle.tdb_steps.specs.Stages.{hands_in, Knows, MayBeOut}
use Rattle.tdb_steps.proofs.Stopped.{stopped_nothing}
use Rattle.tdb_steps.specs.Order.{AnswersHas, LookOrder}
use Rattle.tdb_steps.specs.Memory.{StarvesBounded, StarvesRightly}
use Rattle.tdb_steps.proofs.Starving.{fetch_starves, has_starves, bounded_starves}
use Rattle.tdb_steps.proofs.acting.act.Goals as goal

pub returns-in-Fetch-clause-made : goal.returns-in-Fetch-clause-made
returns-in-Fetch-clause-made g c =
    let f = g.S.Space.form c.args.s.now in
    let a = g.S.Space.image c.args.s.now in
    let b = g.S.Space.image c.fetch_turn.new.s in
    let stage = c.args.stage in
    let whole = c.args.whole.now in
    subst (λ x. IfOk c.fetch_turn.result (λ next. IsTrue g.S.Space.tells → g.S.Space.size c.args.s.now < 2 ^ 32 → CommandMakes f a b x whole whole stage next)) (sym c.in-Fetch.is)
    (IfOk-weaker c.fetch_turn.result (λ next. IsTrue g.S.Space.tells → Makes f a b c.as_slice.result.now fetches stage next)
    (λ next. IsTrue g.S.Space.tells → g.S.Space.size c.args.s.now < 2 ^ 32 → Makes f a b c.in-Fetch.key fetches stage next)
    (λ next made told small. subst (λ k. Makes f a b k fetches stage next) c.as_slice.ensures (made told)) c.fetch_turn.ensures.made)

pub returns-in-Has-clause-made : goal.returns-in-Has-clause-made
returns-in-Has-clause-made g c =
    let f = g.S.Space.form c.args.s.now in
    let a = g.S.Space.image c.args.s.now in
    let b = g.S.Space.image c.has_turn.new.s in
    let stage = c.args.stage in
    let whole = c.args.whole.now in
    subst (λ x. IfOk c.has_turn.result (λ next. IsTrue g.S.Space.tells → g.S.Space.size c.args.s.now < 2 ^ 32 → CommandMakes f a b x whole whole stage next)) (sym c.in-Has.is)
    (IfOk-weaker c.has_turn.result (λ next. IsTrue g.S.Space.tells → Makes f a b c.as_slice-in-Has.result.now asks stage next)
    (λ next. IsTrue g.S.Space.tells → g.S.Space.size c.args.s.now < 2 ^ 32 → Makes f a b c.in-Has.key asks stage next)
    (λ next made told small. subst (λ k. Makes f a b k asks stage next) c.as_slice-in-Has.ensures (made told)) c.has_turn.ensures.made)

pub returns-in-Store-clause-made : goal.returns-in-Store-clause-made
returns-in-Store-clause-made g c =
    let f = g.S.Space.form c.args.s.now in
    let a = g.S.Space.image c.args.s.now in
    let b = g.S.Space.image c.store_turn.new.s in
    let stage = c.args.stage in
    let whole = c.args.whole.now in
    subst (λ x. IfOk c.store_turn.result (λ next. IsTrue g.S.Space.tells → g.S.Space.size c.args.s.now < 2 ^ 32 → CommandMakes f a b x whole whole stage next)) (sym c.in-Store.is)
    (IfOk-weaker c.store_turn.result (λ next. IsTrue g.S.Space.tells → g.S.Space.size c.args.s.now < 2 ^ 32 → Makes f a b c.as_slice-in-Store.result.now (stores c.in-Store.flag c.as_slice-in-Store-2.result.now) stage next)
    (λ next. IsTrue g.S.Space.tells → g.S.Space.size c.args.s.now < 2 ^ 32 → Makes f a b c.in-Store.key (stores c.in-Store.flag c.in-Store.value) stage next)
    (λ next made told small. subst (λ v. Makes f a b c.in-Store.key (stores c.in-Store.flag v) stage next) c.as_slice-in-Store-2.ensures (subst (λ k. Makes f a b k (stores c.in-Store.flag c.as_slice-in-Store-2.result.now) stage next) c.as_slice-in-Store.ensures (made told small)))
    c.store_turn.ensures.made)

pub returns-in-Append-clause-made : goal.returns-in-Append-clause-made
returns-in-Append-clause-made g c =
    let f = g.S.Space.form c.args.s.now in
    let a = g.S.Space.image c.args.s.now in
    let b = g.S.Space.image c.append_turn.new.s in
    let stage = c.args.stage in
    let was = c.args.whole.now in
    let now = c.append_turn.new.whole in
    subst (λ x. IfOk c.append_turn.result (λ next. IsTrue g.S.Space.tells → g.S.Space.size c.args.s.now < 2 ^ 32 → CommandMakes f a b x was now stage next)) (sym c.in-Append.is)
    (IfOk-weaker c.append_turn.result (λ next. IsTrue g.S.Space.tells → g.S.Space.size c.args.s.now < 2 ^ 32 → AppendMakes f a b c.as_slice-in-Append.result.now c.as_slice-in-Append-2.result.now was now stage next)
    (λ next. IsTrue g.S.Space.tells → g.S.Space.size c.args.s.now < 2 ^ 32 → AppendMakes f a b c.in-Append.key c.in-Append.value was now stage next)
    (λ next made told small. subst (λ v. AppendMakes f a b c.in-Append.key v was now stage next) c.as_slice-in-Append-2.ensures (subst (λ k. AppendMakes f a b k c.as_slice-in-Append-2.result.now was now stage next) c.as_slice-in-Append.ensures (made told small)))
    c.append_turn.ensures.made)

pub returns-in-Delete-clause-made : goal.returns-in-Delete-clause-made
returns-in-Delete-clause-made g c =
    let f = g.S.Space.form c.args.s.now in
    let a = g.S.Space.image c.args.s.now in
    let b = g.S.Space.image c.delete_turn.new.s in
    let stage = c.args.stage in
    let whole = c.args.whole.now in
    subst (λ x. IfOk c.delete_turn.result (λ next. IsTrue g.S.Space.tells → g.S.Space.size c.args.s.now < 2 ^ 32 → CommandMakes f a b x whole whole stage next)) (sym c.in-Delete.is)
    (IfOk-weaker c.delete_turn.result (λ next. IsTrue g.S.Space.tells → g.S.Space.size c.args.s.now < 2 ^ 32 → Makes f a b c.as_slice-in-Delete.result.now deletes stage next)
    (λ next. IsTrue g.S.Space.tells → g.S.Space.size c.args.s.now < 2 ^ 32 → Makes f a b c.in-Delete.key deletes stage next)
    (λ next made told small. subst (λ k. Makes f a b k deletes stage next) c.as_slice-in-Delete.ensures (made told small)) c.delete_turn.ensures.made)

pub returns-in-Wipe-clause-made : goal.returns-in-Wipe-clause-made
returns-in-Wipe-clause-made g c =
    subst (λ x. IfOk c.wipe_turn.result (λ next. IsTrue g.S.Space.tells → g.S.Space.size c.args.s.now < 2 ^ 32 → CommandMakes (g.S.Space.form c.args.s.now) (g.S.Space.image c.args.s.now) (g.S.Space.image c.wipe_turn.new.s) x c.args.whole.now c.args.whole.now c.args.stage next))
    (sym c.in-Wipe.is) c.wipe_turn.ensures.made

-- so a turn goes on rightly as those of its kind do
pub returns-in-Fetch-clause-rightly : goal.returns-in-Fetch-clause-rightly
returns-in-Fetch-clause-rightly g c =
    subst (λ x. IfOk c.fetch_turn.result (λ next. IsTrue g.S.Space.tells → g.S.Space.size c.args.s.now < 2 ^ 32 → CommandRightly (g.S.Space.form c.args.s.now) (g.S.Space.image c.args.s.now) (g.S.Space.image c.fetch_turn.new.s) x c.args.whole.now c.args.limit c.args.stood_on.now c.args.stage next)) (sym c.in-Fetch.is)
    (IfOk-weaker c.fetch_turn.result (LooksRightly c.args.stage) (λ next. IsTrue g.S.Space.tells → g.S.Space.size c.args.s.now < 2 ^ 32 → LooksRightly c.args.stage next) (λ next rightly told small. rightly) c.fetch_turn.ensures.rightly)

pub returns-in-Has-clause-rightly : goal.returns-in-Has-clause-rightly
returns-in-Has-clause-rightly g c =
    subst (λ x. IfOk c.has_turn.result (λ next. IsTrue g.S.Space.tells → g.S.Space.size c.args.s.now < 2 ^ 32 → CommandRightly (g.S.Space.form c.args.s.now) (g.S.Space.image c.args.s.now) (g.S.Space.image c.has_turn.new.s) x c.args.whole.now c.args.limit c.args.stood_on.now c.args.stage next)) (sym c.in-Has.is)
    (IfOk-weaker c.has_turn.result (LooksRightly c.args.stage) (λ next. IsTrue g.S.Space.tells → g.S.Space.size c.args.s.now < 2 ^ 32 → LooksRightly c.args.stage next) (λ next rightly told small. rightly) c.has_turn.ensures.rightly)

pub returns-in-Store-clause-rightly : goal.returns-in-Store-clause-rightly
returns-in-Store-clause-rightly g c =
    let f = g.S.Space.form c.args.s.now in
    let a = g.S.Space.image c.args.s.now in
    let b = g.S.Space.image c.store_turn.new.s in
    subst (λ x. IfOk c.store_turn.result (λ next. IsTrue g.S.Space.tells → g.S.Space.size c.args.s.now < 2 ^ 32 → CommandRightly f a b x c.args.whole.now c.args.limit c.args.stood_on.now c.args.stage next)) (sym c.in-Store.is)
    (subst (λ v. IfOk c.store_turn.result (λ next. IsTrue g.S.Space.tells → g.S.Space.size c.args.s.now < 2 ^ 32 → StoresRightly f a b c.in-Store.key (length v) (rec_len_for (length c.in-Store.key) (length v)) c.args.limit c.args.stood_on.now c.args.stage next)) c.as_slice-in-Store-2.ensures
    (subst (λ k. IfOk c.store_turn.result (λ next. IsTrue g.S.Space.tells → g.S.Space.size c.args.s.now < 2 ^ 32 → StoresRightly f a b k (length c.as_slice-in-Store-2.result.now) (rec_len_for (length k) (length c.as_slice-in-Store-2.result.now)) c.args.limit c.args.stood_on.now c.args.stage next)) c.as_slice-in-Store.ensures c.store_turn.ensures.rightly))

pub returns-in-Append-clause-rightly : goal.returns-in-Append-clause-rightly
returns-in-Append-clause-rightly g c =
    let f = g.S.Space.form c.args.s.now in
    let a = g.S.Space.image c.args.s.now in
    let b = g.S.Space.image c.append_turn.new.s in
    let was = c.args.whole.now in
    subst (λ x. IfOk c.append_turn.result (λ next. IsTrue g.S.Space.tells → g.S.Space.size c.args.s.now < 2 ^ 32 → CommandRightly f a b x was c.args.limit c.args.stood_on.now c.args.stage next)) (sym c.in-Append.is)
    (subst (λ v. IfOk c.append_turn.result (λ next. IsTrue g.S.Space.tells → g.S.Space.size c.args.s.now < 2 ^ 32 → AppendsRightly f a b c.in-Append.key v was c.args.limit c.args.stood_on.now c.args.stage next)) c.as_slice-in-Append-2.ensures
    (subst (λ k. IfOk c.append_turn.result (λ next. IsTrue g.S.Space.tells → g.S.Space.size c.args.s.now < 2 ^ 32 → AppendsRightly f a b k c.as_slice-in-Append-2.result.now was c.args.limit c.args.stood_on.now c.args.stage next)) c.as_slice-in-Append.ensures c.append_turn.ensures.rightly))

pub returns-in-Delete-clause-rightly : goal.returns-in-Delete-clause-rightly
returns-in-Delete-clause-rightly g c =
    let f = g.S.Space.form c.args.s.now in
    let a = g.S.Space.image c.args.s.now in
    let b = g.S.Space.image c.delete_turn.new.s in
    subst (λ x. IfOk c.delete_turn.result (λ next. IsTrue g.S.Space.tells → g.S.Space.size c.args.s.now < 2 ^ 32 → CommandRightly f a b x c.args.whole.now c.args.limit c.args.stood_on.now c.args.stage next)) (sym c.in-Delete.is)
    (subst (λ k. IfOk c.delete_turn.result (λ next. IsTrue g.S.Space.tells → g.S.Space.size c.args.s.now < 2 ^ 32 → DeletesRightly f a b k c.args.stood_on.now c.args.stage next)) c.as_slice-in-Delete.ensures c.delete_turn.ensures.rightly)

pub returns-in-Wipe-clause-rightly : goal.returns-in-Wipe-clause-rightly
returns-in-Wipe-clause-rightly g c =
    subst (λ x. IfOk c.wipe_turn.result (λ next. IsTrue g.S.Space.tells → g.S.Space.size c.args.s.now < 2 ^ 32 → CommandRightly (g.S.Space.form c.args.s.now) (g.S.Space.image c.args.s.now) (g.S.Space.image c.wipe_turn.new.s) x c.args.whole.now c.args.limit c.args.stood_on.now c.args.stage next))
    (sym c.in-Wipe.is) c.wipe_turn.ensures.rightly

-- and where it fails, it leaves what those of its kind do
pub returns-in-Fetch-clause-stopped : goal.returns-in-Fetch-clause-stopped
returns-in-Fetch-clause-stopped g c =
    let f = g.S.Space.form c.args.s.now in
    let a = g.S.Space.image c.args.s.now in
    let b = g.S.Space.image c.fetch_turn.new.s in
    let stage = c.args.stage in
    subst (λ x. OnErr c.fetch_turn.result (IsTrue g.S.Space.tells → g.S.Space.size c.args.s.now < 2 ^ 32 → CommandStops f a b x stage)) (sym c.in-Fetch.is)
    (on_err c.fetch_turn.result (λ told small others may A known. stopped_nothing f a b c.in-Fetch.key (hands_in stage) (hands_in stage ++ others) A c.fetch_turn.ensures.looked.image))

pub returns-in-Has-clause-stopped : goal.returns-in-Has-clause-stopped
returns-in-Has-clause-stopped g c =
    let f = g.S.Space.form c.args.s.now in
    let a = g.S.Space.image c.args.s.now in
    let b = g.S.Space.image c.has_turn.new.s in
    let stage = c.args.stage in
    subst (λ x. OnErr c.has_turn.result (IsTrue g.S.Space.tells → g.S.Space.size c.args.s.now < 2 ^ 32 → CommandStops f a b x stage)) (sym c.in-Has.is)
    (on_err c.has_turn.result (λ told small others may A known. stopped_nothing f a b c.in-Has.key (hands_in stage) (hands_in stage ++ others) A c.has_turn.ensures.looked.image))

pub returns-in-Store-clause-stopped : goal.returns-in-Store-clause-stopped
returns-in-Store-clause-stopped g c =
    let f = g.S.Space.form c.args.s.now in
    let a = g.S.Space.image c.args.s.now in
    let b = g.S.Space.image c.store_turn.new.s in
    let stage = c.args.stage in
    subst (λ x. OnErr c.store_turn.result (IsTrue g.S.Space.tells → g.S.Space.size c.args.s.now < 2 ^ 32 → CommandStops f a b x stage)) (sym c.in-Store.is)
    (subst (λ k. OnErr c.store_turn.result (IsTrue g.S.Space.tells → g.S.Space.size c.args.s.now < 2 ^ 32 → (others : List HandPair) → MayBeOut stage others → AcceptWith f a (hands_in stage ++ others) → Knows f a k (stores c.in-Store.flag c.in-Store.value) stage → TurnStopped f a b k (hands_in stage))) c.as_slice-in-Store.ensures
    (on_err_weaker c.store_turn.result (λ stopped told small others may A known. stopped told small (stores c.in-Store.flag c.in-Store.value) others A known) c.store_turn.ensures.stopped))

pub returns-in-Append-clause-stopped : goal.returns-in-Append-clause-stopped
returns-in-Append-clause-stopped g c =
    let f = g.S.Space.form c.args.s.now in
    let a = g.S.Space.image c.args.s.now in
    let b = g.S.Space.image c.append_turn.new.s in
    let stage = c.args.stage in
    subst (λ x. OnErr c.append_turn.result (IsTrue g.S.Space.tells → g.S.Space.size c.args.s.now < 2 ^ 32 → CommandStops f a b x stage)) (sym c.in-Append.is)
    (subst (λ k. OnErr c.append_turn.result (IsTrue g.S.Space.tells → g.S.Space.size c.args.s.now < 2 ^ 32 → (others : List HandPair) → MayBeOut stage others → AcceptWith f a (hands_in stage ++ others) → Knows f a k (appends c.in-Append.value) stage → TurnStopped f a b k (hands_in stage))) c.as_slice-in-Append.ensures
    (on_err_weaker c.append_turn.result (λ stopped told small others may A known. stopped told small (appends c.in-Append.value) others A known) c.append_turn.ensures.stopped))

pub returns-in-Delete-clause-stopped : goal.returns-in-Delete-clause-stopped
returns-in-Delete-clause-stopped g c =
    let f = g.S.Space.form c.args.s.now in
    let a = g.S.Space.image c.args.s.now in
    let b = g.S.Space.image c.delete_turn.new.s in
    let stage = c.args.stage in
    subst (λ x. OnErr c.delete_turn.result (IsTrue g.S.Space.tells → g.S.Space.size c.args.s.now < 2 ^ 32 → CommandStops f a b x stage)) (sym c.in-Delete.is)
    (subst (λ k. OnErr c.delete_turn.result (IsTrue g.S.Space.tells → g.S.Space.size c.args.s.now < 2 ^ 32 → (others : List HandPair) → MayBeOut stage others → AcceptWith f a (hands_in stage ++ others) → Knows f a k deletes stage → TurnStopped f a b k (hands_in stage))) c.as_slice-in-Delete.ensures
    (on_err_weaker c.delete_turn.result (λ stopped told small others may A known. stopped told small deletes others A known) c.delete_turn.ensures.stopped))

pub returns-in-Wipe-clause-stopped : goal.returns-in-Wipe-clause-stopped
returns-in-Wipe-clause-stopped g c =
    let f = g.S.Space.form c.args.s.now in
    let a = g.S.Space.image c.args.s.now in
    let b = g.S.Space.image c.wipe_turn.new.s in
    let stage = c.args.stage in
    subst (λ x. OnErr c.wipe_turn.result (IsTrue g.S.Space.tells → g.S.Space.size c.args.s.now < 2 ^ 32 → CommandStops f a b x stage)) (sym c.in-Wipe.is)
    (on_err_weaker c.wipe_turn.result (λ stopped told small others may A known. stopped told others may A) c.wipe_turn.ensures.stopped)

-- and it reads what they do
pub returns-in-Fetch-clause-reads : goal.returns-in-Fetch-clause-reads
returns-in-Fetch-clause-reads g c told small hands A =
    let f = g.S.Space.form c.args.s.now in
    let img = g.S.Space.image c.args.s.now in
    subst (λ command. TurnReads (costs_of f img command c.args.whole.now) 0 c.args.stage (g.S.Space.bytes_read c.args.s.now) (g.S.Space.bytes_read c.fetch_turn.new.s)) (sym c.in-Fetch.is)
    (subst (λ x. TurnReads (costs_of f img (Plain.Fetch x) c.args.whole.now) 0 c.args.stage (g.S.Space.bytes_read c.args.s.now) (g.S.Space.bytes_read c.fetch_turn.new.s)) c.as_slice.ensures (c.fetch_turn.ensures.reads told small hands A))

pub returns-in-Has-clause-reads : goal.returns-in-Has-clause-reads
returns-in-Has-clause-reads g c told small hands A =
    let f = g.S.Space.form c.args.s.now in
    let img = g.S.Space.image c.args.s.now in
    subst (λ command. TurnReads (costs_of f img command c.args.whole.now) 0 c.args.stage (g.S.Space.bytes_read c.args.s.now) (g.S.Space.bytes_read c.has_turn.new.s)) (sym c.in-Has.is)
    (subst (λ x. TurnReads (costs_of f img (Plain.Has x) c.args.whole.now) 0 c.args.stage (g.S.Space.bytes_read c.args.s.now) (g.S.Space.bytes_read c.has_turn.new.s)) c.as_slice-in-Has.ensures (c.has_turn.ensures.reads told small hands A))

pub returns-in-Store-clause-reads : goal.returns-in-Store-clause-reads
returns-in-Store-clause-reads g c told small hands A =
    let f = g.S.Space.form c.args.s.now in
    let img = g.S.Space.image c.args.s.now in
    subst (λ command. TurnReads (costs_of f img command c.args.whole.now) 0 c.args.stage (g.S.Space.bytes_read c.args.s.now) (g.S.Space.bytes_read c.store_turn.new.s)) (sym c.in-Store.is)
    (subst (λ x. TurnReads (costs_of f img (Plain.Store c.in-Store.key x c.in-Store.flag) c.args.whole.now) 0 c.args.stage (g.S.Space.bytes_read c.args.s.now) (g.S.Space.bytes_read c.store_turn.new.s)) c.as_slice-in-Store-2.ensures (subst (λ x. TurnReads (costs_of f img (Plain.Store x c.as_slice-in-Store-2.result.now c.in-Store.flag) c.args.whole.now) 0 c.args.stage (g.S.Space.bytes_read c.args.s.now) (g.S.Space.bytes_read c.store_turn.new.s)) c.as_slice-in-Store.ensures (c.store_turn.ensures.reads told small hands A)))

pub returns-in-Append-clause-reads : goal.returns-in-Append-clause-reads
returns-in-Append-clause-reads g c told small hands A =
    let f = g.S.Space.form c.args.s.now in
    let img = g.S.Space.image c.args.s.now in
    subst (λ command. TurnReads (costs_of f img command c.args.whole.now) 0 c.args.stage (g.S.Space.bytes_read c.args.s.now) (g.S.Space.bytes_read c.append_turn.new.s)) (sym c.in-Append.is)
    (subst (λ x. TurnReads (costs_of f img (Plain.Append c.in-Append.key x) c.args.whole.now) 0 c.args.stage (g.S.Space.bytes_read c.args.s.now) (g.S.Space.bytes_read c.append_turn.new.s)) c.as_slice-in-Append-2.ensures (subst (λ x. TurnReads (costs_of f img (Plain.Append x c.as_slice-in-Append-2.result.now) c.args.whole.now) 0 c.args.stage (g.S.Space.bytes_read c.args.s.now) (g.S.Space.bytes_read c.append_turn.new.s)) c.as_slice-in-Append.ensures (c.append_turn.ensures.reads told small hands A)))

pub returns-in-Delete-clause-reads : goal.returns-in-Delete-clause-reads
returns-in-Delete-clause-reads g c told small hands A =
    let f = g.S.Space.form c.args.s.now in
    let img = g.S.Space.image c.args.s.now in
    subst (λ command. TurnReads (costs_of f img command c.args.whole.now) 0 c.args.stage (g.S.Space.bytes_read c.args.s.now) (g.S.Space.bytes_read c.delete_turn.new.s)) (sym c.in-Delete.is)
    (subst (λ x. TurnReads (costs_of f img (Plain.Delete x) c.args.whole.now) 0 c.args.stage (g.S.Space.bytes_read c.args.s.now) (g.S.Space.bytes_read c.delete_turn.new.s)) c.as_slice-in-Delete.ensures (c.delete_turn.ensures.reads told small hands A))

pub returns-in-Wipe-clause-reads : goal.returns-in-Wipe-clause-reads
returns-in-Wipe-clause-reads g c told small hands A =
    subst (λ command. TurnReads (costs_of (g.S.Space.form c.args.s.now) (g.S.Space.image c.args.s.now) command c.args.whole.now) 0 c.args.stage (g.S.Space.bytes_read c.args.s.now) (g.S.Space.bytes_read c.wipe_turn.new.s)) (sym c.in-Wipe.is) c.wipe_turn.ensures.reads

-- over a disk it ends for want of memory only where it takes a value
pub returns-in-Fetch-clause-starves : goal.returns-in-Fetch-clause-starves
returns-in-Fetch-clause-starves g c =
    let spare = g.S.Space.spare c.args.s.now in
    subst (λ x. IfOk c.fetch_turn.result (StarvesRightly spare x c.args.stage)) (sym c.in-Fetch.is)
    (IfOk-weaker c.fetch_turn.result (LookOrder c.args.stage) (StarvesRightly spare (Plain.Fetch c.in-Fetch.key) c.args.stage) (fetch_starves spare c.in-Fetch.key c.args.stage) c.fetch_turn.ensures.order)

pub returns-in-Has-clause-starves : goal.returns-in-Has-clause-starves
returns-in-Has-clause-starves g c =
    let spare = g.S.Space.spare c.args.s.now in
    IfOk-weaker c.has_turn.result AnswersHas (StarvesRightly spare c.args.command.now c.args.stage) (has_starves spare c.args.command.now c.args.stage) c.has_turn.ensures.says

pub returns-in-Store-clause-starves : goal.returns-in-Store-clause-starves
returns-in-Store-clause-starves g c =
    let spare = g.S.Space.spare c.args.s.now in
    IfOk-weaker c.store_turn.result (StarvesBounded spare) (StarvesRightly spare c.args.command.now c.args.stage) (bounded_starves spare c.args.command.now c.args.stage) c.store_turn.ensures.starves

pub returns-in-Append-clause-starves : goal.returns-in-Append-clause-starves
returns-in-Append-clause-starves g c =
    subst (λ x. IfOk c.append_turn.result (StarvesRightly (g.S.Space.spare c.args.s.now) x c.args.stage)) (sym c.in-Append.is) c.append_turn.ensures.starves

pub returns-in-Delete-clause-starves : goal.returns-in-Delete-clause-starves
returns-in-Delete-clause-starves g c =
    let spare = g.S.Space.spare c.args.s.now in
    IfOk-weaker c.delete_turn.result (StarvesBounded spare) (StarvesRightly spare c.args.command.now c.args.stage) (bounded_starves spare c.args.command.now c.args.stage) c.delete_turn.ensures.starves

pub returns-in-Wipe-clause-starves : goal.returns-in-Wipe-clause-starves
returns-in-Wipe-clause-starves g c =
    let spare = g.S.Space.spare c.args.s.now in
    IfOk-weaker c.wipe_turn.result (StarvesBounded spare) (StarvesRightly spare c.args.command.now c.args.stage) (bounded_starves spare c.args.command.now c.args.stage) c.wipe_turn.ensures.starves
