-- The calls of a group, from what they come to at its files.
use Rattle.std.proofs.Common.{◌≡◌, ◌≢◌, ℕ, zero, suc, ◌<◌, ◌≤◌, Bool, true, false, IsTrue, List, [], ◌∷◌, ◌++◌, length, set, Some, Result, Ok, Err, refl, sym, ◌∙◌, ap, subst, subst₂, inl, inr, ◌⊎◌, arith}
use Rattle.std.specs.Prelude.{nat_lt, slice_get}
use Rattle.std.proofs.lemmas.Bool.{cases_eq}
use Rattle.std.proofs.lemmas.List.{length-append, length-set}
use Rattle.tdb_disk.specs.Count.{Rose}
use Rattle.tdb_disk.specs.Stop.{LeavesOnly}
use Rattle.tdb_disk.proofs.Runs.{leaves_join, leaves_start}
use Rattle.tdb_space.specs.Form.{Form}
use Rattle.tdb_law.specs.Openers.{Map}
use Rattle.tdb_law.specs.Replay.{put}
use Rattle.tdb_law.proofs.Tests.{never_true}
use Rattle.tdb_law.proofs.Walking.{put_else, put_here}
use Rattle.tdb_commands.specs.InLaw.{law_command}
use Rattle.tdb_commands.specs.declared.command.Command.{Command}
use Rattle.tdb_locks.specs.declared.turn.Reply.{Reply}
use Rattle.tdb_log.specs.Logs.{Logged}
use Rattle.tdb_world.specs.Calm.{OpensToEither, OpensToMap}
use Rattle.tdb_world.specs.Loaded.{IsJustLoaded}
use Rattle.tdb_world.specs.OverFile.{OverFile}
use Rattle.tdb_group.specs.Calls.{Added, CancelledAll, DidAt, FinishedNext, IsStopOfAdding, NotAdded, PreparedAll}
use Rattle.tdb_group.specs.Commands.{Replies}
use Rattle.tdb_group.specs.Each.{AllWell, CancelledEach, PreparationLeft, PreparedEach, RoseAt, StayEach, WentOn, cancel_answer}
use Rattle.tdb_group.specs.Faults.{at_file, refused, stop_at}
use Rattle.tdb_group.specs.Files.{Applied, Finished, HasNoTxn, IsAt, IsFull, StartLeft, Started, StaysAt, maps}
use Rattle.tdb_group.specs.Group.{AreCancelled, EachFile, EachPair, FileStands, GroupState, HasMaps, IsSoundGroup, Standing}
use Rattle.tdb_group.specs.Members.{IsSettled, IsUnderway, Maps, form_of_file, options_of_file}
use Rattle.tdb_group.specs.Stops.{After, AfterSome, map_if}
use Rattle.tdb_group.specs.Turns.{Ran}
use Rattle.tdb_group.specs.declared.stop.FileStop.{FileStop}
use Rattle.tdb_group.specs.declared.stop.FileStop.TheVariants as StopIs
use Rattle.tdb_group.specs.declared.stop.GroupStop.{GroupStop}
use Rattle.tdb_group.specs.declared.stop.GroupStop.TheVariants.{Refused, Io, LogFailed, Memory}
use Rattle.tdb_group.proofs.Each.{stays_here, went_broke, went_here, went_well}
use Rattle.tdb_group.proofs.Groups.{each_now, each_set, finished_standing, finishing_after, get_set_else, get_set_here, not_below, now_there, some_same, standing_after, stands_opens, stays_after, underway_each}
use Rattle.tdb_group.proofs.Parts.{kept_form}

-- the files of a group that is prepared or isn't, with none finished
standing_as : (g : GroupState) (prepared : Bool) (finished : ℕ) (ps : ℕ → Maps) → g.prepared ≡ prepared → g.finished ≡ finished → HasMaps ps g → Standing prepared finished ps g.files
standing_as g prepared finished ps is so_many has = subst₂ (λ b j. Standing b j ps g.files) is so_many has

-- What holds of a file that became another, and of all others as they are, holds of each.
pair_set : (files : List OverFile) (n : ℕ) (old now : OverFile) (P : ℕ → OverFile → OverFile → Type 0) → slice_get files n ≡ Some old → P n old now → ((m : ℕ) (w : OverFile) → slice_get files m ≡ Some w → P m w w)
    → EachPair files (set files n now) P
pair_set files n old now P here became others m one two was is = elim (cases_eq m n) [
  | inl same ↦
      let first : old ≡ one = some_same old one (sym here ∙ ap (slice_get files) (sym same) ∙ was) in
      let last : now ≡ two = some_same now two (sym (get_set_here files n old now here) ∙ ap (slice_get (set files n now)) (sym same) ∙ is) in
      subst (λ k. P k one two) (sym same) (subst (λ (z : OverFile × OverFile). P n z.0 z.1) (λ j. (first j, last j)) became)
  | inr ne ↦ (let stays : one ≡ two = some_same one two (sym was ∙ sym (get_set_else files n m now ne) ∙ is) in subst (P m one) stays (others m one was))
]

-- One file of a group is in its transaction, with other maps.
module _ (prepared : Bool) (finished : ℕ) (ps : ℕ → Maps) (n : ℕ) (v : Maps) (w : OverFile) where
  -- so it stands, where it isn't finished
  here_stands : finished ≤ n → IsUnderway prepared v w → FileStands prepared (nat_lt n finished) (put ps n v n) w
  here_stands high U =
      subst₂ (λ b p. FileStands prepared b p w) (sym (not_below n finished high)) (sym (put_here ps n v n refl)) U

  else_stands : (m : ℕ) (one : OverFile) → m ≢ n → FileStands prepared (nat_lt m finished) (ps m) one → FileStands prepared (nat_lt m finished) (put ps n v m) one
  else_stands m one ne stands = subst (λ p. FileStands prepared (nat_lt m finished) p one) (sym (put_else ps n v m ne)) stands

-- A world was added.
last_or_else : (files : List OverFile) (b : OverFile) (m : ℕ) (w : OverFile) → slice_get (files ++ b ∷ []) m ≡ Some w → ((m ≡ length files) × (w ≡ b)) ⊎ ((m < length files) × (slice_get files m ≡ Some w))
last_or_else [] b zero w is = inl (refl, some_same w b (sym is))
last_or_else [] b (suc m) w is = absurd (cc is)
last_or_else (x ∷ files) b zero w is = inr (omega arith, is)
last_or_else (x ∷ files) b (suc m) w is = elim (last_or_else files b m w is) [ inl last ↦ inl (ap suc last.0, last.1) | inr else ↦ (let low = else.0 in inr (omega (arith, low), else.1)) ]

pub sound_more : (b : OverFile) (old : GroupState) → IsSoundGroup old → length old.files < 1000 → b.spent ≡ false → IsSoundGroup (record old { files = old.files ++ b ∷ [] })
sound_more b old S few unspent = record {
  few = (let more = length-append old.files (b ∷ []) in omega (arith, more, few));
  finished = (let more = length-append old.files (b ∷ []) in let done = S.finished in omega (arith, more, done));
  begun = S.begun;
  unspent = λ going n w is. (elim (last_or_else old.files b n w is) [
    | inl last ↦ subst (λ (z : OverFile). z.spent ≡ false) (sym last.1) unspent
    | inr else ↦ S.unspent going n w else.1
  ]);
}

module _ (tells : Bool) (w b : OverFile) (old : GroupState) where
  pub added : old.prepared ≡ false → old.finished ≤ length old.files → (options_of_file w).read_only ≡ false → Ran {V = Unit {0}} w b (Ok tt) → Started tells w b (Ok tt) → Added tells w old (record old { files = old.files ++ b ∷ [] }) (length old.files)
  added unprepared few writes R S = record {
    number = refl;
    begun = b;
    files = refl;
    ran = R;
    leads = λ told state L ps has m one is.
        (let n = length old.files in
        let v = maps state.file state.file in
        elim (last_or_else old.files b m one is) [
          | inl last ↦
              subst₂ (λ k z. FileStands old.prepared (nat_lt k old.finished) (put ps n v k) z) (sym last.0) (sym last.1)
              (here_stands old.prepared old.finished ps n v b few (subst (λ p. IsUnderway p v b) (sym unprepared) (S.left told state L writes)))
          | inr else ↦
              let low = else.0 in
              else_stands old.prepared old.finished ps n v w m one (λ same. absurd (omega (arith, low, same))) (has m one else.1)
        ]);
    stops = λ told state L safe. S.stops told state L writes safe;
  }

  pub not_added : (stop : FileStop) → (options_of_file w).read_only ≡ false → Ran {V = Unit {0}} w b (Err stop) → Started tells w b (Err stop) → ((stop ≡ StopIs.Io) × (b.spent ≡ true)) ⊎ (stop ≡ StopIs.Memory)
      → NotAdded tells w b old old (at_file stop (length old.files))
  not_added stop writes R S fault = record {
    same = refl;
    rises = R.never_falls;
    cause = cause_of stop R S fault;
    stops = λ told state L safe. S.stops told state L writes safe;
  }
    where
      cause_of : (s : FileStop) → Ran {V = Unit {0}} w b (Err s) → Started tells w b (Err s) → ((s ≡ StopIs.Io) × (b.spent ≡ true)) ⊎ (s ≡ StopIs.Memory) → IsStopOfAdding tells w b (length old.files) (at_file s (length old.files))
      cause_of StopIs.Io R S (inl io) = (refl, io.1, λ told state L. S.left told state L writes)
      cause_of StopIs.Memory R S fault = (refl, R.unspent, R.quiet, λ told state L. S.left told state L writes)
      cause_of StopIs.Io R S (inr memory) = absurd (cc memory)
      cause_of (StopIs.Refused reply) R S (inl io) = absurd (let is = io.0 in cc is)
      cause_of (StopIs.Refused reply) R S (inr memory) = absurd (cc memory)
      cause_of StopIs.LogFailed R S (inl io) = absurd (let is = io.0 in cc is)
      cause_of StopIs.LogFailed R S (inr memory) = absurd (cc memory)

-- there was no room in the group for another world
pub never_added : (tells : Bool) (w : OverFile) (old : GroupState) → (options_of_file w).read_only ≡ false → w.spent ≡ false → Started tells w w (Err StopIs.Memory) → NotAdded tells w w old old (Memory (length old.files))
never_added tells w old writes unspent S = record {
  same = refl;
  rises = omega arith;
  cause = (refl, unspent, refl, λ told state L. S.left told state L writes);
  stops = λ told state L safe. S.stops told state L writes safe;
}

-- A command was done at one file.
module _ (tells : Bool) (old : GroupState) (n : ℕ) (c : Command) (file now : OverFile) (here : slice_get old.files n ≡ Some file) (unprepared : old.prepared ≡ false) (going : old.stopped ≡ false) (none : old.finished ≡ 0) where
  each_underway : (ps : ℕ → Maps) → HasMaps ps old → EachFile old.files (λ m w. IsUnderway false (ps m) w)
  each_underway ps has = underway_each false ps old.files (standing_as old false 0 ps unprepared none has)

  did_stays : (answer : Result Reply FileStop) → Applied tells (law_command c) file now answer → IsTrue tells → (ps : ℕ → Maps) → HasMaps ps old → StayEach ps old.files (set old.files n now)
  did_stays answer A told ps has =
      pair_set old.files n file now (λ m one two. StaysAt (ps m).before one two) here (A.stops told (ps n) (each_underway ps has n file here)) (λ m w is. stays_here false (ps m) w (each_underway ps has m w is))

  did_stops : (answer : Result Reply FileStop) → Applied tells (law_command c) file now answer → IsTrue tells → (ps : ℕ → Maps) → HasMaps ps old → AfterSome 0 0 ps old.files (set old.files n now)
  did_stops answer A told ps has = stays_after ps old.files (set old.files n now) (length-set old.files n now) (did_stays answer A told ps has)

  did_went : {V : Type 0} (answer : Result V GroupStop) → WentOn answer file now → EachPair old.files (set old.files n now) (λ m a b. WentOn answer a b)
  did_went answer W = pair_set old.files n file now (λ m a b. WentOn answer a b) here W (λ m w is. went_here answer w)

  pub did_done : (reply : Reply) → Ran {V = Reply} file now (Ok reply) → Applied tells (law_command c) file now (Ok reply) → DidAt tells old (record old { files = set old.files n now }) n c (Ok reply)
  did_done reply R A = record {
    file = now;
    files = λ j. record old { files = set old.files n now; stopped = going j };
    fault = tt;
    went = did_went (Ok reply) (went_well (Ok reply) file now reply R);
    stays = λ told ps has. did_stays (Ok reply) A told ps has;
    left = λ told ps has.
        (let L = A.left told (ps n) (each_underway ps has n file here) in
        let v = maps (ps n).before L.0 in (
          L.0,
          L.1,
          each_set old.files n file now (λ m w. FileStands old.prepared (nat_lt m old.finished) (ps m) w) (λ m w. FileStands old.prepared (nat_lt m old.finished) (put ps n v m) w) here has
              (λ m w ne stands. else_stands old.prepared old.finished ps n v now m w ne stands)
              (here_stands old.prepared old.finished ps n v now (omega (arith, none)) (subst (λ p. IsUnderway p v now) (sym unprepared) L.2)),
        ));
    stops = λ told ps has. did_stops (Ok reply) A told ps has;
  }

  pub did_failed : Ran {V = Reply} file now (Err StopIs.Io) → Applied tells (law_command c) file now (Err StopIs.Io) → DidAt tells old (record old { files = set old.files n now; stopped = true }) n c (Err (Io n))
  did_failed R A = record {
    file = now;
    files = refl;
    fault = refl;
    went = did_went (Err (Io n)) (went_broke n file now StopIs.Io R);
    stays = λ told ps has. did_stays (Err StopIs.Io) A told ps has;
    left = λ told ps has. record { before = file; after = now; was = here; is = get_set_here old.files n file now here; rose = A.left told (ps n) (each_underway ps has n file here) };
    stops = λ told ps has. did_stops (Err StopIs.Io) A told ps has;
  }

-- The first file that isn't finished was finished.
module _ (tells : Bool) (old : GroupState) (file now : OverFile) (here : slice_get old.files old.finished ≡ Some file) (prepared : old.prepared ≡ true) (going : old.stopped ≡ false) where
  prepared_standing : (ps : ℕ → Maps) → HasMaps ps old → Standing true old.finished ps old.files
  prepared_standing ps has = standing_as old true old.finished ps prepared refl has

  it_underway : (ps : ℕ → Maps) → HasMaps ps old → IsUnderway true (ps old.finished) file
  it_underway ps has = subst (λ b. FileStands true b (ps old.finished) file) (not_below old.finished old.finished (omega arith)) (prepared_standing ps has old.finished file here)

  finish_stops : (answer : Result (Unit {0}) FileStop) → Finished tells file now answer → IsTrue tells → (ps : ℕ → Maps) → HasMaps ps old → AfterSome old.finished (suc old.finished) ps old.files (set old.files old.finished now)
  finish_stops answer F told ps has = finishing_after old.finished ps old.files file now here (prepared_standing ps has) (F.stops told (ps old.finished) (it_underway ps has))

  finish_went : {V : Type 0} (answer : Result V GroupStop) → WentOn answer file now → EachPair old.files (set old.files old.finished now) (λ n a b. WentOn answer a b)
  finish_went answer W = pair_set old.files old.finished file now (λ n a b. WentOn answer a b) here W (λ n w is. went_here answer w)

  -- the other files stay at the one map or the other
  one_of : (f : Form) (finished : Bool) (p : Maps) (c : List ℕ) → OpensToMap f (map_if finished p) c → OpensToEither f p.before p.after c
  one_of f true p c opens = inr opens
  one_of f false p c opens = inl opens

  finish_either : (answer : Result (Unit {0}) FileStop) → Finished tells file now answer → IsTrue tells → (ps : ℕ → Maps) → HasMaps ps old
      → EachPair old.files (set old.files old.finished now) (λ n a b. LeavesOnly a.history b.history (OpensToEither (form_of_file a) (ps n).before (ps n).after))
  finish_either answer F told ps has =
      pair_set old.files old.finished file now (λ n a b. LeavesOnly a.history b.history (OpensToEither (form_of_file a) (ps n).before (ps n).after)) here (F.stops told (ps old.finished) (it_underway ps has))
      (λ n w is. leaves_start w.history (OpensToEither (form_of_file w) (ps n).before (ps n).after) (λ c left.
      one_of (form_of_file w) (nat_lt n old.finished) (ps n) c (stands_opens true (nat_lt n old.finished) (ps n) w (prepared_standing ps has n w is) c left)))

  pub finish_done : (k : ℕ) → k ≡ suc old.finished → Ran {V = Unit {0}} file now (Ok tt) → Finished tells file now (Ok tt) → FinishedNext tells old (record old { files = set old.files old.finished now; finished = k }) (Ok old.finished)
  finish_done k is R F = record {
    file = now;
    files = λ j. record old { files = set old.files old.finished now; finished = is j; stopped = going j };
    number = refl;
    went = finish_went (Ok old.finished) (went_well (Ok old.finished) file now tt R);
    either = λ told ps has. finish_either (Ok tt) F told ps has;
    left = λ told ps has.
        (let standing = finished_standing old.finished ps old.files file now here (prepared_standing ps has) (F.left told (ps old.finished) (it_underway ps has)) in (
          subst₂ (λ b j. Standing b j ps (set old.files old.finished now)) (sym prepared) (sym is) standing,
          standing_after true (suc old.finished) ps (set old.files old.finished now) standing,
        ));
    stops = λ told ps has. finish_stops (Ok tt) F told ps has;
  }

  pub finish_failed : Ran {V = Unit {0}} file now (Err StopIs.Io) → Finished tells file now (Err StopIs.Io) → FinishedNext tells old (record old { files = set old.files old.finished now; stopped = true }) (Err (Io old.finished))
  finish_failed R F = record {
    file = now;
    files = refl;
    number = refl;
    went = finish_went (Err (Io old.finished)) (went_broke old.finished file now StopIs.Io R);
    either = λ told ps has. finish_either (Err StopIs.Io) F told ps has;
    left = λ told ps has. record { before = file; after = now; was = here; is = get_set_here old.files old.finished file now here; rose = F.left told (ps old.finished) (it_underway ps has) };
    stops = λ told ps has. finish_stops (Err StopIs.Io) F told ps has;
  }

-- Files in their transactions, or whose transactions are over, are each at their maps before.
at_each : (g : GroupState) (ps : ℕ → Maps) → g.finished ≡ 0 → HasMaps ps g → EachFile g.files (λ n w. IsAt (ps n).before w)
at_each g ps none has n w is = inl (g.prepared, (ps n).after, underway_each g.prepared ps g.files (standing_as g g.prepared 0 ps refl none has) n w is)

-- All were cancelled.
pub all_cancelled : (tells : Bool) (old : GroupState) (news : List OverFile) → old.finished ≡ 0 → CancelledEach tells old.files news (Ok tt) → CancelledAll tells old (record old { files = news; stopped = true }) (Ok tt)
all_cancelled tells old news none C = record {
  flags = refl;
  count = C.count;
  fault = tt;
  went = C.went;
  stays = λ told ps has. C.stops told ps (at_each old ps none has);
  left = λ told ps has. C.left told ps (at_each old ps none has);
  stops = λ told ps has. stays_after ps old.files news C.count (C.stops told ps (at_each old ps none has));
}

pub cancel_failed : (tells : Bool) (old : GroupState) (news : List OverFile) (at : ℕ) → old.finished ≡ 0 → CancelledEach tells old.files news (Err at) → CancelledAll tells old (record old { files = news; stopped = true }) (Err (Io at))
cancel_failed tells old news at none C = record {
  flags = refl;
  count = C.count;
  fault = (refl, C.number);
  went = C.went;
  stays = λ told ps has. C.stops told ps (at_each old ps none has);
  left = λ told ps has. C.left told ps (at_each old ps none has);
  stops = λ told ps has. stays_after ps old.files news C.count (C.stops told ps (at_each old ps none has));
}

-- No disk failed: no world is spent.
pub well_unspent : (olds news : List OverFile) → length news ≡ length olds → AllWell olds news → EachFile news (λ n w. w.spent ≡ false)
well_unspent olds news count well = each_now olds news (λ n w. w.spent ≡ false) count (λ n old now was is. (well n old now was is).unspent)

pub sound_prepared : (old : GroupState) (news : List OverFile) → IsSoundGroup old → length news ≡ length old.files → AllWell old.files news → IsSoundGroup (record old { files = news; prepared = true })
sound_prepared old news S count well = record {
  few = (let few = S.few in omega (arith, few, count));
  finished = (let done = S.finished in omega (arith, done, count));
  begun = λ e. absurd (never_true (sym e));
  unspent = λ going. well_unspent old.files news count well;
}

-- Files were prepared.
module _ (tells : Bool) (old : GroupState) (before after : List Logged) (unprepared : old.prepared ≡ false) (going : old.stopped ≡ false) (none : old.finished ≡ 0) where
  unprepared_standing : (ps : ℕ → Maps) → HasMaps ps old → Standing false 0 ps old.files
  unprepared_standing ps has = standing_as old false 0 ps unprepared none has

  pub all_prepared : (news : List OverFile) → PreparedEach tells old.files news before after (Ok tt) → PreparedAll tells old (record old { files = news; prepared = true }) before after (Ok tt)
  all_prepared news E = record {
    flags = λ j. record old { files = news; prepared = true; stopped = going j };
    count = E.count;
    number = tt;
    heard = E.heard;
    went = E.went;
    stays = λ told ps has. E.stops told ps (unprepared_standing ps has);
    left = λ told ps has. E.left told ps (unprepared_standing ps has);
    done = λ told ps has.
        (let standing = E.left told ps (unprepared_standing ps has) in (subst (λ k. Standing true k ps news) (sym none) standing, standing_after true 0 ps news standing));
    stops = λ told ps has. stays_after ps old.files news E.count (E.stops told ps (unprepared_standing ps has));
  }

  -- one isn't, and not for want of room
  left_else : (stop : GroupStop) (One Two : Type 0) (ps : ℕ → Maps) (news : List OverFile) → ((at : ℕ) (reply : Reply) → stop ≡ Refused at reply → ⊥)
      → PreparationLeft One ps old.files news (Err stop) → PreparationLeft Two ps old.files news (Err stop)
  left_else (Refused at reply) One Two ps news not left = absurd (not at reply refl)
  left_else (Io at) One Two ps news not left = left
  left_else (LogFailed at) One Two ps news not left = left
  left_else (Memory at) One Two ps news not left = left

  pub preparing_failed : (news : List OverFile) (stop : GroupStop) → ((at : ℕ) (reply : Reply) → stop ≡ Refused at reply → ⊥) → PreparedEach tells old.files news before after (Err stop)
      → PreparedAll tells old (record old { files = news; stopped = true }) before after (Err stop)
  preparing_failed news stop not E = record {
    flags = λ j. record old { files = news; prepared = unprepared j; stopped = true };
    count = E.count;
    number = E.number;
    heard = E.heard;
    went = E.went;
    stays = λ told ps has. E.stops told ps (unprepared_standing ps has);
    left = λ told ps has. left_else stop (EachFile news (λ n w. IsAt (ps n).before w)) (AreCancelled ps news) ps news not (E.left told ps (unprepared_standing ps has));
    done = λ told ps has. tt;
    stops = λ told ps has. stays_after ps old.files news E.count (E.stops told ps (unprepared_standing ps has));
  }

  -- there was no room for one, and all were cancelled
  module _ (mids news : List OverFile) (at : ℕ) (reply : Reply) (E : PreparedEach tells old.files mids before after (Err (Refused at reply))) where
    both_stay : (answer : Result (Unit {0}) ℕ) → CancelledEach tells mids news answer → IsTrue tells → (ps : ℕ → Maps) → HasMaps ps old → StayEach ps old.files news
    both_stay answer C told ps has n one two was is =
        let S = unprepared_standing ps has in
        let M = now_there old.files mids E.count n one was in
        let same = kept_form one M.0 (E.well n one M.0 was M.1).form in
        leaves_join one.history M.0.history two.history (OpensToMap (form_of_file one) (ps n).before) (E.stops told ps S n one M.0 was M.1)
        (subst (λ g. LeavesOnly M.0.history two.history (OpensToMap g (ps n).before)) (sym same) (C.stops told ps (E.left told ps S).1 n M.0 two M.1 is))

    -- the two calls one after the other
    both_went : (answer : Result (Unit {0}) ℕ) → CancelledEach tells mids news answer → EachPair old.files news (λ n a b. WentOn {V = Unit {0}} (Err (refused (Refused at reply) answer)) a b)
    both_went answer C n one two was is =
        let M = now_there old.files mids E.count n one was in
        went_both answer one M.0 two (E.well n one M.0 was M.1) (C.went n M.0 two M.1 is)
      where
        went_both : (answer : Result (Unit {0}) ℕ) (a b d : OverFile) → Ran {V = Unit {0}} a b (Ok tt) → WentOn (cancel_answer answer) b d → WentOn {V = Unit {0}} (Err (refused (Refused at reply) answer)) a d
        went_both (Ok v) a b d R W = record {
          rises = (let one = R.never_falls in let two = W.rises in omega (arith, one, two));
          quiet = W.quiet ∙ R.quiet;
          form = record { header = W.form.header ∙ R.form.header; options = W.form.options ∙ R.form.options };
        }
        went_both (Err k) a b d R W = record {
          rises = (let one = R.never_falls in let two = W.rises in omega (arith, one, two));
          quiet = tt;
          form = tt;
        }

    rose_since : (k : ℕ) → RoseAt mids news k → RoseAt old.files news k
    rose_since k R =
        let O = now_there mids old.files (sym E.count) k R.before R.was in
        record { before = O.0; after = R.after; was = O.1; is = R.is; rose = subst (λ f. Rose f R.after.faults) ((E.well k O.0 R.before O.1 R.was).quiet) R.rose }

    pub refused_room : (answer : Result (Unit {0}) ℕ) → CancelledEach tells mids news answer
        → PreparedAll tells old (record old { files = news; stopped = true }) before after (Err (refused (Refused at reply) answer))
    refused_room (Ok v) C = record {
      flags = λ j. record old { files = news; prepared = unprepared j; stopped = true };
      count = C.count ∙ E.count;
      number = E.number;
      heard = tt;
      went = both_went (Ok v) C;
      stays = λ told ps has. both_stay (Ok v) C told ps has;
      left = λ told ps has. (let L = E.left told ps (unprepared_standing ps has) in (L.0, C.left told ps L.1));
      done = λ told ps has. tt;
      stops = λ told ps has. stays_after ps old.files news (C.count ∙ E.count) (both_stay (Ok v) C told ps has);
    }
    refused_room (Err k) C = record {
      flags = λ j. record old { files = news; prepared = unprepared j; stopped = true };
      count = C.count ∙ E.count;
      number = subst (λ n. k < n) E.count C.number;
      heard = tt;
      went = both_went (Err k) C;
      stays = λ told ps has. both_stay (Err k) C told ps has;
      left = λ told ps has. rose_since k (C.left told ps (E.left told ps (unprepared_standing ps has)).1).rose;
      done = λ told ps has. tt;
      stops = λ told ps has. stays_after ps old.files news (C.count ∙ E.count) (both_stay (Err k) C told ps has);
    }
