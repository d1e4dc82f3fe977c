-- What logs hear of an opening, from what its parts told them.
use Rattle.std.proofs.Common.{◌≡◌, ◌≢◌, ◌<◌, ℕ, false, List, [], ◌∷◌, ◌++◌, length, Some, None, Result, Ok, Err, refl, sym, ◌∙◌, ap, subst, inl, inr, arith, append_assoc}
use Rattle.std.specs.Prelude.{◌==◌, IfOk, IfErr, OnOk, count_by, sum_by}
use Rattle.std.proofs.lemmas.Bool.{cases_lt, false≢true}
use Rattle.tdb_disk.specs.Count.{HasCauseOf}
use Rattle.tdb_disk.specs.History.{History}
use Rattle.tdb_space.specs.Form.{form_of}
use Rattle.tdb_space.specs.Record.{magic_of}
use Rattle.tdb_space.specs.Chain.{free_of}
use Rattle.tdb_space.specs.Pairs.{order_of}
use Rattle.tdb_space.specs.Extents.{area}
use Rattle.tdb_words.specs.declared.record.TheConstants.{DEAD}
use Rattle.tdb_space.specs.FirstFault.{front_fault}
use Rattle.tdb_space.specs.Opening.{entries}
use Rattle.tdb_space.specs.OpeningFault.{opening_fault}
use Rattle.tdb_space.proofs.OpeningFault.OneFault.{opens_or_fault}
use Rattle.tdb_words.specs.declared.what.What.TheVariants.{Header as BadHeader}
use Rattle.tdb_check.specs.Front.{Refuses}
use Rattle.tdb_check.specs.Report.{Counted, chained, bytes_held_by_none}
use Rattle.tdb_check.specs.declared.front.FrontRefusal as Front
use Rattle.tdb_check.specs.declared.report.Report.{Report}
use Rattle.tdb_log.specs.Logs.{Logged, Took, LastBecame, LastRefused, ToldAll, ToldUpTo}
use Rattle.tdb_log.specs.declared.log.LogRefusal.{LogRefusal}
use Rattle.tdb_log.specs.declared.log.LogRefusal.TheVariants as L
use Rattle.tdb_log.specs.declared.notice.Notice.{Notice}
use Rattle.tdb_log.specs.declared.notice.Notice.TheVariants as N
use Rattle.tdb_undo.specs.Entries.{lengths}
use Rattle.tdb_undo.specs.Refusal.{Names as Tells}
use Rattle.tdb_undo.specs.declared.refusal.UndoRefusal as Undo
use Rattle.tdb_open.specs.declared.halt.Halt.{Halt}
use Rattle.tdb_open.specs.declared.halt.Halt.TheVariants.{Refused, Device, Memory, Log}
use Rattle.tdb_open.specs.declared.halt.Refusal.{Refusal}
use Rattle.tdb_open.specs.declared.halt.Refusal.TheVariants.{TooLong, Header, Corrupt, NeedsRecovery}
use Rattle.tdb_open.specs.declared.opening.Opened.{Opened}
use Rattle.tdb_open.specs.Opening.{opened_bytes, CanRead, HasOpenGate, IsUndone, IsOpenedOn, IsCheckedOn, UndoneIfOpen, HaltsRightly, ReadHaltsRightly, HaltsAtFault, HaltLeaves, asks_for_undo, of_front, of_undo, of_log}
use Rattle.tdb_open.specs.Notices.{checked, refusal_tells, verdict, UndoTells, OpeningTells, tells_checked, tells_refused, UndoTold, RefusesNotice, OpeningHeard, UndoHeard, ReadingHeard, IsTooLong, BelowHeard, ReadingBelowHeard}
use Rattle.tdb_open.proofs.Openings.{none_some, no_open_gate, read_opened}

-- notices that were told, and then more
told_joined : (a b : List Notice) (old mid new : List Logged) → ToldAll a old mid → ToldAll b mid new → ToldAll (a ++ b) old new
told_joined [] b old mid new here more = subst (λ (l : List Logged). ToldAll b l new) here more
told_joined (n ∷ a) b old mid new here more = (here.0, here.1, told_joined a b here.0 mid new here.2 more)

-- notices that were told, and then some of which one was refused
told_then_refused : (refusal : LogRefusal) (a b : List Notice) (old mid new : List Logged) → ToldAll a old mid → ToldUpTo refusal b mid new → ToldUpTo refusal (a ++ b) old new
told_then_refused refusal a b old mid new here more = record {
  front = a ++ more.front;
  notice = more.notice;
  rest = more.rest;
  parts = ap (λ (l : List Notice). a ++ l) more.parts ∙ sym (append_assoc a more.front (more.notice ∷ more.rest));
  mid = more.mid;
  told = told_joined a more.front old mid more.mid here more.told;
  refused = more.refused;
}

-- the first of some notices is refused
pub first_refused : (refusal : LogRefusal) (notice : Notice) (rest : List Notice) (old new : List Logged) → LastRefused refusal old new → ToldUpTo refusal (notice ∷ rest) old new
first_refused refusal notice rest old new refused = record { front = []; notice = notice; rest = rest; parts = refl; mid = old; told = refl; refused = refused }

-- none is where there are none
no_notice : (front : List Notice) (notice : Notice) (rest : List Notice) → [] ≡ front ++ notice ∷ rest → ⊥
no_notice [] notice rest is = cc
no_notice (n ∷ front) notice rest is = cc

untold : (refusal : LogRefusal) (old new : List Logged) → ToldUpTo refusal [] old new → ⊥
untold refusal old new up = no_notice up.front up.notice up.rest up.parts

-- a file that is undone has an open gate
gate_of : (img : List ℕ) → IsUndone img → HasOpenGate img
gate_of img undone = record { within = undone.within; front = undone.front; gate_open = undone.gate_open }

-- of one that isn't no undo is told
not_told : (img : List ℕ) (logs : List Logged) → (IsUndone img → ⊥) → UndoTold img logs logs
not_told img logs none = ([], inr (refl, none), refl)

-- a file that was looked at as it is, and isn't one to be undone first
pub read_heard_undo : (img : List ℕ) (logs : List Logged) (o : Opened) → CanRead img → UndoHeard img logs logs (Ok o)
read_heard_undo img logs o can = not_told img logs (λ undone. no_open_gate img can.shut (gate_of img undone))

pub kept_heard : (img : List ℕ) (logs : List Logged) (halt : Halt) → asks_for_undo halt ≡ false → halt ≢ Log → ReadHaltsRightly img halt → UndoHeard img logs logs (Err halt)
kept_heard img logs (Refused (TooLong len)) asks other h = not_told img logs (λ undone. absurd (omega (arith, h.0, h.1, undone.within)))
kept_heard img logs (Refused (Header fault)) asks other h = not_told img logs (λ undone. none_some (front_fault img) _ undone.front h.1)
kept_heard img logs (Refused (Corrupt what at)) asks other h = not_told img logs (λ undone. h.1 (gate_of img undone))
kept_heard img logs (Refused NeedsRecovery) asks other h = absurd (false≢true (sym asks))
kept_heard img logs Device asks other h = inl refl
kept_heard img logs Memory asks other h = inl (not_told img logs (λ undone. h (gate_of img undone)))
kept_heard img logs Log asks other h = absurd (other refl)

-- a front that is refused where one with an open gate was seen, and an undo area that is
pub front_heard : (img : List ℕ) (logs : List Logged) (e : Front.FrontRefusal) → front_fault img ≡ None → Refuses img e → UndoHeard img logs logs (Err (of_front e))
front_heard img logs (Front.TheVariants.Short len) front h = absurd (none_some (front_fault img) _ front h)
front_heard img logs (Front.TheVariants.Header fault) front h = absurd (none_some (front_fault img) _ front h.0)
front_heard img logs Front.TheVariants.Io front h = inl refl

pub undo_heard : (img : List ℕ) (logs : List Logged) (e : Undo.UndoRefusal) → Tells e (λ fault. opening_fault (form_of img) img ≡ Some fault) → UndoHeard img logs logs (Err (of_undo e))
undo_heard img logs (Undo.TheVariants.UndoBad what at) h = not_told img logs (λ undone. none_some (opening_fault (form_of img) img) _ undone.sound h)
undo_heard img logs Undo.TheVariants.Io h = inl refl

-- the counts of an image
counts_of : (img : List ℕ) → (report : Report) × Counted img report
counts_of img = (
  record {
    live = length (order_of (form_of img) img);
    dead_records = count_by (λ x. magic_of (form_of img).order img x == DEAD) (chained (form_of img) img);
    free_records = length (free_of (form_of img) img);
    dead_bytes = bytes_held_by_none img;
    area = sum_by (λ e. e.1) (area (form_of img).order img);
  },
  record { live = refl; dead_records = refl; free_records = refl; dead_bytes = refl; area = refl },
)

-- a log's refusal, as an answer, where it refused a notice of the opening
refusal_heard : (img : List ℕ) (refusal : LogRefusal) (old new : List Logged) → RefusesNotice refusal img old new → OpeningHeard img old new (Err (of_log refusal))
refusal_heard img L.Failed old new refuses = refuses
refusal_heard img L.Memory old new refuses = inr refuses

refusal_undo : (img : List ℕ) (refusal : LogRefusal) (old new : List Logged) → RefusesNotice refusal img old new → UndoHeard img old new (Err (of_log refusal))
refusal_undo img L.Failed old new refuses = refuses
refusal_undo img L.Memory old new refuses = inr refuses

refusal_read : (img : List ℕ) (refusal : LogRefusal) (old new : List Logged) → RefusesNotice refusal img old new → ReadingHeard img old new (Err (of_log refusal))
refusal_read img L.Failed old new refuses = refuses
refusal_read img L.Memory old new refuses = inr refuses

-- a file that was undone
module _ (img : List ℕ) (undone : IsUndone img) (bytes : ℕ) (sum : bytes ≡ lengths (entries (form_of img) img)) where
  tells_undo : UndoTells img (N.Recovered bytes ∷ [])
  tells_undo = inl (ap (λ n. N.Recovered n ∷ []) sum, undone)

  own_header : front_fault img ≡ Some (BadHeader, 0) → ⊥
  own_header header = none_some (front_fault img) (BadHeader, 0) undone.front header

  -- what its opening tells in all
  undo_goes_on : (verdict : List Notice) × OpeningTells img (N.Recovered bytes ∷ verdict)
  undo_goes_on = elim (opens_or_fault img) [
    | inl opens ↦ (let counts = counts_of (opened_bytes img) in (checked counts.0 ∷ [], tells_checked (N.Recovered bytes ∷ []) counts.0 tells_undo (record { opens = opens; within = undone.within }) counts.1 refl))
    | inr found ↦ (let refusal : Refusal = Corrupt found.0.0 found.0.1 in (refusal_tells refusal, tells_refused (N.Recovered bytes ∷ []) refusal tells_undo (undone.within, own_header, found.1) refl))
  ]

  -- a log refuses to be told of the undo
  pub undo_refused : (refusal : LogRefusal) (old new : List Logged) → LastRefused refusal old new → UndoHeard img old new (Err (of_log refusal))
  undo_refused refusal old new refused = let on = undo_goes_on in
      refusal_undo img refusal old new (N.Recovered bytes ∷ on.0, on.1, first_refused refusal (N.Recovered bytes) on.0 old new refused)

  -- it is told, and the opening goes on, which tells nothing more by itself
  pub undo_told : (old new : List Logged) (answer : Result Opened Halt) → LastBecame (Took (N.Recovered bytes)) old new → IfErr answer (λ halt. HaltsAtFault (opened_bytes img) halt) → UndoHeard img old new answer
  undo_told old new answer took = of answer
    where
      told : UndoTold img old new
      told = (N.Recovered bytes ∷ [], tells_undo, (new, took, refl))

      of : (answer : Result Opened Halt) → IfErr answer (λ halt. HaltsAtFault (opened_bytes img) halt) → UndoHeard img old new answer
      of (Ok o) h = told
      of (Err (Refused refusal)) h = told
      of (Err Device) h = inr told
      of (Err Memory) h = inl told
      of (Err Log) h = absurd h

-- the answer is told, of a file that was looked at as it is
pub read_heard : (img : List ℕ) (old new : List Logged) (answer : Result Opened Halt) → IfErr answer (λ halt. halt ≢ Log) → ToldAll (verdict answer) old new → ReadingHeard img old new answer
read_heard img old new (Ok o) other all = all
read_heard img old new (Err (Refused refusal)) other all = all
read_heard img old new (Err Device) other all = all
read_heard img old new (Err Memory) other all = inl all
read_heard img old new (Err Log) other all = absurd (other refl)

-- and of any other
pub answer_heard : (img : List ℕ) (old mid new : List Logged) (answer : Result Opened Halt) → UndoHeard img old mid answer → ToldAll (verdict answer) mid new → OpeningHeard img old new answer
answer_heard img old mid new (Ok o) h all = (h.0, h.1, told_joined h.0 (checked o.report ∷ []) old mid new h.2 all)
answer_heard img old mid new (Err (Refused refusal)) h all = (h.0, h.1, told_joined h.0 (refusal_tells refusal) old mid new h.2 all)
answer_heard img old mid new (Err Device) h all = subst (λ (l : List Logged). OpeningHeard img old l (Err Device)) (sym all) h
answer_heard img old mid new (Err Memory) h all = subst (λ (l : List Logged). OpeningHeard img old l (Err Memory)) (sym all) h
answer_heard img old mid new (Err Log) h all = subst (λ (l : List Logged). OpeningHeard img old l (Err Log)) (sym all) h

-- how a look ends where a log refuses to be told of it
log_read_rightly : (refusal : LogRefusal) (img : List ℕ) → (HasOpenGate img → ⊥) → ReadHaltsRightly img (of_log refusal)
log_read_rightly L.Failed img none = none
log_read_rightly L.Memory img none = none

pub log_rightly : (refusal : LogRefusal) (img : List ℕ) → HaltsRightly img (of_log refusal)
log_rightly L.Failed img = tt
log_rightly L.Memory img = tt

-- A log refuses to be told of the answer: the file is one that is opened, or it is refused for a fault with a place.
module _ (refusal : LogRefusal) (img : List ℕ) where
  pub read_refused_rightly : (old new : List Logged) (answer : Result Opened Halt) → IfOk answer (λ o. CanRead img) → IfErr answer (λ halt. ReadHaltsRightly img halt)
      → ToldUpTo refusal (verdict answer) old new → ReadHaltsRightly img (of_log refusal)
  read_refused_rightly old new (Ok o) can h up = log_read_rightly refusal img (no_open_gate img can.shut)
  read_refused_rightly old new (Err (Refused (Corrupt what at))) can h up = log_read_rightly refusal img h.1
  read_refused_rightly old new (Err (Refused (TooLong len))) can h up = absurd (untold refusal old new up)
  read_refused_rightly old new (Err (Refused (Header fault))) can h up = absurd (untold refusal old new up)
  read_refused_rightly old new (Err (Refused NeedsRecovery)) can h up = absurd (untold refusal old new up)
  read_refused_rightly old new (Err Device) can h up = absurd (untold refusal old new up)
  read_refused_rightly old new (Err Memory) can h up = absurd (untold refusal old new up)
  read_refused_rightly old new (Err Log) can h up = absurd (untold refusal old new up)

  pub read_refused_heard : (old new : List Logged) (answer : Result Opened Halt) → IfOk answer (λ o. CanRead img) → IfOk answer (λ o. IsCheckedOn img o) → IfErr answer (λ halt. ReadHaltsRightly img halt)
      → ToldUpTo refusal (verdict answer) old new → ReadingHeard img old new (Err (of_log refusal))
  read_refused_heard old new (Ok o) can sound h up =
      refusal_read img refusal old new (checked o.report ∷ [], tells_checked [] o.report (inr (refl, λ undone. no_open_gate img can.shut (gate_of img undone))) can.can_open (read_opened img o can sound).counted refl, up)
  read_refused_heard old new (Err (Refused (Corrupt what at))) can sound h up =
      refusal_read img refusal old new (N.Refused what at ∷ [], tells_refused [] (Corrupt what at) (inr (refl, λ undone. h.1 (gate_of img undone))) h.0 refl, up)
  read_refused_heard old new (Err (Refused (TooLong len))) can sound h up = absurd (untold refusal old new up)
  read_refused_heard old new (Err (Refused (Header fault))) can sound h up = absurd (untold refusal old new up)
  read_refused_heard old new (Err (Refused NeedsRecovery)) can sound h up = absurd (untold refusal old new up)
  read_refused_heard old new (Err Device) can sound h up = absurd (untold refusal old new up)
  read_refused_heard old new (Err Memory) can sound h up = absurd (untold refusal old new up)
  read_refused_heard old new (Err Log) can sound h up = absurd (untold refusal old new up)

  pub refused_heard : (old mid new : List Logged) (answer : Result Opened Halt) → IfOk answer (λ o. IsOpenedOn img o) → IfErr answer (λ halt. HaltsRightly img halt)
      → UndoHeard img old mid answer → ToldUpTo refusal (verdict answer) mid new → OpeningHeard img old new (Err (of_log refusal))
  refused_heard old mid new (Ok o) opened right h up =
      refusal_heard img refusal old new (h.0 ++ checked o.report ∷ [], tells_checked h.0 o.report h.1 opened.can_open opened.counted refl, told_then_refused refusal h.0 (checked o.report ∷ []) old mid new h.2 up)
  refused_heard old mid new (Err (Refused r)) opened right h up =
      refusal_heard img refusal old new (h.0 ++ refusal_tells r, tells_refused h.0 r h.1 right refl, told_then_refused refusal h.0 (refusal_tells r) old mid new h.2 up)
  refused_heard old mid new (Err Device) opened right h up = absurd (untold refusal mid new up)
  refused_heard old mid new (Err Memory) opened right h up = absurd (untold refusal mid new up)
  refused_heard old mid new (Err Log) opened right h up = absurd (untold refusal mid new up)

-- what such a refusal leaves of the file, and that no call failed
pub log_leaves : (refusal : LogRefusal) (old now : History) → UndoneIfOpen old now → HaltLeaves (of_log refusal) old now
log_leaves L.Failed old now left = left
log_leaves L.Memory old now left = left

pub refused_leaves : (refusal : LogRefusal) (before after : List Logged) (old now : History) (answer : Result Opened Halt) → OnOk answer (UndoneIfOpen old now) → IfErr answer (λ halt. HaltLeaves halt old now)
    → ToldUpTo refusal (verdict answer) before after → HaltLeaves (of_log refusal) old now
refused_leaves refusal before after old now (Ok o) left halted up = log_leaves refusal old now left
refused_leaves refusal before after old now (Err (Refused r)) left halted up = log_leaves refusal old now halted
refused_leaves refusal before after old now (Err Device) left halted up = absurd (untold refusal before after up)
refused_leaves refusal before after old now (Err Memory) left halted up = absurd (untold refusal before after up)
refused_leaves refusal before after old now (Err Log) left halted up = absurd (untold refusal before after up)

log_no_device : (refusal : LogRefusal) → of_log refusal ≢ Device
log_no_device L.Failed is = cc
log_no_device L.Memory is = cc

pub refused_cause : (refusal : LogRefusal) (before after : List Logged) (faults now : ℕ) (answer : Result Opened Halt) → HasCauseOf Device faults now answer
    → ToldUpTo refusal (verdict answer) before after → HasCauseOf {V = Opened} Device faults now (Err (of_log refusal))
refused_cause refusal before after faults now answer cause up = record {
  never_falls = cause.never_falls;
  failed = λ is. absurd (log_no_device refusal is);
  refused = λ other. as_before answer cause up;
  done = tt;
}
  where
    as_before : (answer : Result Opened Halt) → HasCauseOf Device faults now answer → ToldUpTo refusal (verdict answer) before after → now ≡ faults
    as_before (Ok o) cause up = cause.done
    as_before (Err (Refused r)) cause up = cause.refused (λ is. cc)
    as_before (Err Device) cause up = absurd (untold refusal before after up)
    as_before (Err Memory) cause up = absurd (untold refusal before after up)
    as_before (Err Log) cause up = absurd (untold refusal before after up)

-- of a file whose length can't be told, or that has more bytes than it may, logs hear nothing
pub no_length_heard : (limit : ℕ) (img : List ℕ) (logs : List Logged) → BelowHeard limit img logs logs (Err Device)
no_length_heard limit img logs = elim (cases_lt limit (length img)) [
  | inl more ↦ inl (more, refl, inr refl)
  | inr within ↦ inr (within, inl refl)
]

pub no_length_unread : (limit : ℕ) (img : List ℕ) (logs : List Logged) → ReadingBelowHeard limit img logs logs (Err Device)
no_length_unread limit img logs = elim (cases_lt limit (length img)) [
  | inl more ↦ inl (more, refl, inr refl)
  | inr within ↦ inr (within, refl)
]

-- where its length is known, and too great, that is answered
pub long_unheard : (limit len : ℕ) (img : List ℕ) (logs : List Logged) → len ≡ length img → limit < len → (limit < length img) × (logs ≡ logs) × IsTooLong img (Err (Refused (TooLong len)))
long_unheard limit len img logs is past = (omega (arith, is, past), refl, inl (ap (λ n. Err (Refused (TooLong n))) is))
