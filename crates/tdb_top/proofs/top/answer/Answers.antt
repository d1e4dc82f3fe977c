use Rattle.std.proofs.Common.{◌≡◌, Option, None, Some, Ok, map, string_bytes, refl, ◌∙◌, ap, sym, subst}
use Rattle.std.specs.Prelude.{OnErr, unwrap_or}
use Rattle.tdb_disk.specs.Count.{Rose}
use Rattle.tdb_cmdline.specs.Ask.{Ask, asked, ask_of}
use Rattle.tdb_answer.specs.declared.ending.Ending.TheVariants.{Usage}
use Rattle.tdb_answer.specs.Commands.Session.{SessionHeld}
use Rattle.tdb_answer.specs.Commands.Turns.{AllPlayed}
use Rattle.tdb_answer.specs.Looks.{ending_of}
use Rattle.tdb_answer.specs.Printed.{TaskText}
use Rattle.tdb_answer.specs.Reads.{ask_reads}
use Rattle.tdb_answer.specs.Stops.{SaysAllLines, StopsScripted}
use Rattle.tdb_answer.specs.Takes.{MayTake, ask_takes}
use Rattle.tdb_answer.proofs.Looking.{began_as}
use Rattle.tdb_answer.proofs.Runs.{asked_cause}
use Rattle.tdb_top.specs.AnsweredWords.{AnsweredWords}
use Rattle.tdb_top.specs.Outside.{Outside, outside, input_between, output_between}
use Rattle.tdb_top.proofs.Answering.{words_unread, nothing_asked}
use Rattle.tdb_top.proofs.top.answer.Goals as goal

-- two that are asked for are one
one_ask : (a b : Ask) → Some a ≡ Some b → a ≡ b
one_ask a b is = ap (λ (o : Option Ask). unwrap_or o b) is

-- what was asked for is done
pub returns-in-Ok-Some-clause-answered : goal.returns-in-Ok-Some-clause-answered
returns-in-Ok-Some-clause-answered g c =
    let input = input_between g.S.Source.tells before after in
    let done = c.answer_ask.ensures in
    let r = c.answer_ask.result in
    subst (λ a. AnsweredWords g.F.D.Disk.tells g.S.Source.tells g.K.Sink.tells a before after r) (rw c.in-Ok-Some.field-0-is at c.in-Ok-Some.ensures.read)
    (record {
      cause = λ told. asked_cause (Some ask) ask before.held input before.faults after.faults (ending_of r) refl (done.cause told);
      left = λ told. (done.others, done.left told);
      began = λ told. began_as (TaskText ask.task ask.file before.held) _ before.written after.written r (λ e text is. is) (done.began told);
      played = λ options name asks told is.
          (let same = one_ask ask _ asks in
          subst (λ n. AllPlayed options input (output_between g.K.Sink.tells before after) before.logs after.logs (before.held n) (after.held n)) (ap (λ (a : Ask). a.file) same)
          (done.played options (ap (λ (a : Ask). a.task) same) told is));
      stops = λ options name asks told.
          (let same = one_ask ask _ asks in
          subst (λ n. StopsScripted input options (before.held n) (after.held n) g.K.Sink.tells (SaysAllLines r) (OnErr r ⊥) (Rose before.faults after.faults → ⊥) before.written after.written)
          (ap (λ (a : Ask). a.file) same) (done.stops options (ap (λ (a : Ask). a.task) same) told));
      served = λ limit name asks told.
          (let same = one_ask ask _ asks in
          subst (λ n. SessionHeld limit input (before.held n) (after.held n) g.K.Sink.tells before.written after.written before.logs after.logs r)
          (ap (λ (a : Ask). a.file) same) (done.served limit (ap (λ (a : Ask). a.task) same) told));
      told = done.told;
      counted = done.counted;
      output_cause = done.output_cause;
      heard = done.heard;
      unread = λ unread. (done.unread unread).1;
      usage = λ is. absurd (done.asked is);
      usage_exact = λ none. absurd (some_asks none);
    })
  where
    before : Outside
    before = outside g.F.Files g.S.Source g.K.Sink g.L.Logs c.args.files.now c.args.input.now c.args.output.now c.args.logs.now

    after : Outside
    after = outside g.F.Files g.S.Source g.K.Sink g.L.Logs c.answer_ask.new.files c.answer_ask.new.input c.answer_ask.new.output c.answer_ask.new.logs

    ask : Ask
    ask = asked c.in-Ok-Some.ask

    some_asks : {a : Ask} → Some a ≡ None → ⊥
    some_asks is = cc

pub returns-in-Ok-Some-clause-input_untouched : goal.returns-in-Ok-Some-clause-input_untouched
returns-in-Ok-Some-clause-input_untouched g c unread = (c.answer_ask.ensures.unread (ap ask_reads (rw c.in-Ok-Some.field-0-is at c.in-Ok-Some.ensures.read) ∙ unread)).0

-- nothing was asked for, or there was no memory for the words
pub returns-in-Ok-None-clause-answered : goal.returns-in-Ok-None-clause-answered
returns-in-Ok-None-clause-answered g c =
    let at = outside g.F.Files g.S.Source g.K.Sink g.L.Logs c.args.files.now c.args.input.now c.args.output.now c.args.logs.now in
    subst (λ a. AnsweredWords g.F.D.Disk.tells g.S.Source.tells g.K.Sink.tells a at at (Ok Usage)) (rw c.in-Ok-None.field-0-is at c.in-Ok-None.ensures.read)
    (nothing_asked g.F.D.Disk.tells g.S.Source.tells g.K.Sink.tells at)

pub returns-in-Err-clause-answered : goal.returns-in-Err-clause-answered
returns-in-Err-clause-answered g c =
    words_unread g.F.D.Disk.tells g.S.Source.tells g.K.Sink.tells
    (outside g.F.Files g.S.Source g.K.Sink g.L.Logs c.args.files.now c.args.input.now c.args.output.now c.args.logs.now) (ask_of (map string_bytes c.args.words.now))

-- the files may be taken as the words say
pub answer_ask-requires-clause-take : goal.answer_ask-requires-clause-take
answer_ask-requires-clause-take g c = subst (λ a. MayTake g.F.Files.may_take (ask_takes a)) (sym (rw c.in-Ok-Some.field-0-is at c.in-Ok-Some.ensures.read)) c.requires.take
