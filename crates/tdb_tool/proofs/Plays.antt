-- One play of a session, from what the world gives.
use Rattle.std.proofs.Common.{◌≡◌, ℕ, List, [], ◌∷◌, ◌++◌, Option, None, Some, Result, Ok, Err, refl, sym, ◌∙◌, ap, subst, inl, inr, arith}
use Rattle.std.specs.Prelude.{Bool, IsTrue}
use Rattle.std.proofs.lemmas.List.{append-nil}
use Rattle.tdb_space.specs.Form.{Form}
use Rattle.tdb_backup.specs.Dump.{WroteFront}
use Rattle.tdb_dump.specs.declared.listing.Listing.{Listing}
use Rattle.tdb_law.specs.Plays.{Gives}
use Rattle.tdb_law.specs.World.{State}
use Rattle.tdb_log.specs.Logs.{Logged}
use Rattle.tdb_log.specs.declared.log.LogRefusal.{LogRefusal}
use Rattle.tdb_log.specs.declared.log.LogRefusal.TheVariants as Unheard
use Rattle.tdb_commands.specs.InLaw.{law_play, law_lines}
use Rattle.tdb_commands.specs.declared.line.Line.{Line}
use Rattle.tdb_commands.specs.declared.play.Play.{Play}
use Rattle.tdb_openers.specs.Played.{PlaysLast}
use Rattle.tdb_openers.specs.declared.fault.RunFault.{RunFault}
use Rattle.tdb_openers.specs.declared.fault.RunFault.TheVariants as Run
use Rattle.tdb_world.specs.Whole.{form_at}
use Rattle.tdb_world.specs.Stops.{IsSafe}
use Rattle.tdb_world.specs.OverFile.{OverFile, moment_of}
use Rattle.tdb_world.specs.OverFiles.Plays.{RunAnswer, is_io, TookPlay}
use Rattle.tdb_world.specs.Courses.Hearing.{HeardBy}
use Rattle.tdb_world.specs.Courses.Stops.{IsTransacted}
use Rattle.tdb_tool.specs.declared.fault.SessionFault.{SessionFault}
use Rattle.tdb_tool.specs.declared.fault.SessionFault.TheVariants as F
use Rattle.tdb_tool.specs.Parts.{Silent, Told, AllDone, AllCame}
use Rattle.tdb_tool.specs.Replies.{lines_text, tell_pair}
use Rattle.tdb_world.specs.Courses.Scene.{Scene, scene, IsStateAt}
use Rattle.tdb_tool.specs.Serving.{of_run, of_log, fault_of, UnlessBroken, HeardSo, CallsBetween, Deed, StopsBetween, DoneBetween, Led, Ran, PlayDone, PlayBegun, Played, EndsPrinted}
use Rattle.tdb_tool.proofs.Calling.{calls_taken}
use Rattle.tdb_tool.proofs.Coming.{IsToo, led_as}
use Rattle.tdb_tool.proofs.Hearing.{heard_or_refused}
use Rattle.tdb_tool.proofs.PartLemmas.{one_done, one_begun, all_came}
use Rattle.tdb_tool.proofs.HeldText.{ended}
use Rattle.tdb_tool.proofs.Telling.{front_all, front_none, nothing_behind}

-- one play of a part that is no list
pub silent_done : (f : Form) (play : Play) (old new : State) (lines : List Line) → Gives f old (law_play play) (law_lines lines) new → AllDone (Silent play ∷ []) f old lines [] new
silent_done f play old new lines G =
    one_done f (Silent play) old new lines (record { count = 0; mid = old; front = []; rest = lines; lines_cut = refl; going = (refl, refl); last = G; ends = refl })

silent_begun : (f : Form) (play : Play) (old new : State) (lines : List Line) → PlaysLast f old (law_play play) (law_lines lines) new → AllCame (Silent play ∷ []) f old lines [] new
silent_begun f play old new lines B = one_begun f (Silent play) old new lines (record { count = 0; mid = old; front = []; rest = lines; lines_cut = refl; going = (refl, refl); last = B })

-- a play that led from one moment to another, by this answer
module _ (disk_tells told : Bool) (a b : OverFile) (first lines : List Line) (empty : first ≡ []) (play : Play) (written : List ℕ) (logs heard : List Logged) where
  abbrev form : Form
  form = form_at a.world

  -- with what stops meanwhile leave, and what logs heard; the world is spent where the disk failed
  abbrev Taken : RunAnswer → Type 0
  Taken answer = TookPlay disk_tells (moment_of a first) (moment_of b lines) logs heard play answer

  abbrev Spent : RunAnswer → Type 0
  Spent answer = b.spent ≡ is_io answer

  abbrev Before : Scene
  Before = scene a written logs

  abbrev After : List ℕ → Scene
  After now = scene b now heard

  -- what the lines that were added make, whatever their text is
  abbrev Begins : Deed → Type 0
  Begins part = (f : Form) (old new : State) (ls : List Line) → PlaysLast f old (law_play play) (law_lines ls) new → (text : List ℕ) × part f old ls text new

  -- it broke off, and nothing was written
  pub play_broke : (whole part : Deed) → Begins part → (fault : RunFault) → Taken (Err fault) → Spent (Err fault) → Led disk_tells told whole part Before (After written) (Some (of_run fault))
  play_broke whole part begins Run.Io taken spent = record {
    header = tt;
    options = tt;
    unspent = tt;
    rises = taken.led.rises;
    quiet = tt;
    runs = λ tells state is.
        (let r = taken.led.told tells state is in
        let p = begins form state r.0 taken.led.added r.1 in
        let stops : IsSafe form a.history → IsTransacted form state (law_lines taken.led.added) → StopsBetween Before (After written) (Some F.Device) form state taken.led.added
        = λ safe calm. (let S = taken.stops tells state taken.led.added is taken.led.lines safe calm in record { stops = S.stops; stays = S.stays; safe = tt }) in
        let calls : CallsBetween Before (After written) (Some F.Device) taken.led.added = calls_taken a b first lines taken.led.added (Err Run.Io) (Some F.Device) (λ P p. p) (taken.led.calls tells state is) in
        (r.0, (taken.led.added, p.0, (p.1, stops, taken.heard tells state taken.led.added is taken.led.lines, calls), λ out. (0, omega arith, sym (append-nil written)))));
    rose = λ tells state is. taken.led.rose tells state is;
  }
  play_broke whole part begins Run.Memory taken spent = record {
    header = taken.led.header;
    options = taken.led.options;
    unspent = spent;
    rises = taken.led.rises;
    quiet = taken.led.quiet;
    runs = λ tells state is.
        (let r = taken.led.told tells state is in
        let p = begins form state r.0 taken.led.added (inl r.2) in
        let stops : IsSafe form a.history → IsTransacted form state (law_lines taken.led.added) → StopsBetween Before (After written) (Some F.Memory) form state taken.led.added
        = λ safe calm. (let S = taken.stops tells state taken.led.added is taken.led.lines safe calm in record { stops = S.stops; stays = S.stays; safe = S.left.3 }) in
        let calls : CallsBetween Before (After written) (Some F.Memory) taken.led.added = calls_taken a b first lines taken.led.added (Err Run.Memory) (Some F.Memory) (λ P p. p) (taken.led.calls tells state is) in
        (r.0, r.1, (taken.led.added, p.0, (p.1, stops, taken.heard tells state taken.led.added is taken.led.lines, calls), λ out. (0, omega arith, sym (append-nil written)))));
    rose = λ tells state is. tt;
  }

  -- it was taken
  module _ (answer : Result (Unit {0}) LogRefusal) (taken : Taken (Ok answer)) (spent : Spent (Ok answer)) where
    alone : taken.led.added ≡ lines
    alone = sym (taken.led.lines ∙ ap (λ f. f ++ taken.led.added) empty)

    gave : IsTrue disk_tells → (state : State) → IsStateAt Before state → (now : List ℕ) → (new : State) × IsStateAt (After now) new × Gives form state (law_play play) (law_lines lines) new
    gave tells state is now = let r = taken.led.told tells state is in (r.0, r.1, subst (λ ls. Gives form state (law_play play) (law_lines ls) r.0) alone r.2)

    all_lines : lines ≡ first ++ lines
    all_lines = sym (ap (λ f. f ++ lines) empty)

    stops_at : IsTrue disk_tells → (state : State) → IsStateAt Before state → (now : List ℕ) → IsSafe form a.history → IsTransacted form state (law_lines lines)
        → StopsBetween Before (After now) None form state lines
    stops_at tells state is now safe calm = let S = taken.stops tells state lines is all_lines safe calm in record { stops = S.stops; stays = S.stays; safe = S.left.3 }

    -- and no log refused, or one did, as is told by its answer
    heard_as : (told_so : Result (Unit {0}) LogRefusal) → answer ≡ told_so → IsTrue disk_tells → (state : State) → IsStateAt Before state → HeardBy logs lines heard (Ok told_so)
    heard_as told_so so tells state is = subst (λ r. HeardBy logs lines heard (Ok r)) so (taken.heard tells state lines is all_lines)

    -- and its lines tell the calls by which it was, whatever came then
    calls_at : (now : List ℕ) (after : Option SessionFault) → ((A : Type 0) → A → UnlessBroken after A) → IsTrue disk_tells → (state : State) → IsStateAt Before state → CallsBetween Before (After now) after lines
    calls_at now after moved tells state is = subst (CallsBetween Before (After now) after) alone (calls_taken a b first lines taken.led.added (Ok answer) after moved (taken.led.calls tells state is))

    pub play_silent : (unit : Unit {0}) → answer ≡ Ok unit → Ran disk_tells told Before (After written) (Silent play ∷ []) None
    play_silent unit so = record {
      header = taken.led.header;
      options = taken.led.options;
      unspent = spent;
      rises = taken.led.rises;
      quiet = taken.led.quiet;
      runs = λ tells state is.
          (let r = gave tells state is written in
          (r.0, r.1, (lines, [], (silent_done form play state r.0 lines r.2, stops_at tells state is written, heard_as (Ok unit) so tells state is, calls_at written None (λ A x. x) tells state is), λ out. sym (append-nil written))));
      rose = λ tells state is. tt;
    }

    -- and its text was written
    pub play_told : (listing : Option Listing) (now : List ℕ) → (IsTrue told → now ≡ written ++ lines_text listing lines) → (unit : Unit {0}) → answer ≡ Ok unit
        → (pair : Bool) → pair ≡ tell_pair lines → Played disk_tells told Before (After now) play listing (Ok pair)
    play_told listing now all unit so pair gives = record {
      header = taken.led.header;
      options = taken.led.options;
      unspent = spent;
      rises = taken.led.rises;
      quiet = taken.led.quiet;
      runs = λ tells state is.
          (let r = gave tells state is now in (r.0, r.1, (lines, lines_text listing lines, ((r.2, refl, gives), stops_at tells state is now, heard_as (Ok unit) so tells state is, calls_at now None (λ A x. x) tells state is), all)));
      rose = λ tells state is. tt;
    }

    -- it was taken, and then it broke off
    module _ (whole part : Deed) (now text : List ℕ) (makes : (state new : State) → Gives form state (law_play play) (law_lines lines) new → part form state lines text new) where
      broke : (fault : SessionFault) → ((A : Type 0) → A → UnlessBroken (Some fault) A) → IsTrue disk_tells → (state : State) → IsStateAt Before state → HeardSo (Some fault) logs lines heard
          → (new : State) × IsStateAt (After now) new × DoneBetween Before (After now) (Some fault) part form state lines text new
      broke fault moved tells state is so =
          let r = gave tells state is now in
          let stops : IsSafe form a.history → IsTransacted form state (law_lines lines) → StopsBetween Before (After now) (Some fault) form state lines
          = λ safe calm. (let S = stops_at tells state is now safe calm in record { stops = S.stops; stays = S.stays; safe = moved (IsSafe form b.history) S.safe }) in
          (r.0, r.1, (makes state r.0 r.2, stops, so, calls_at now (Some fault) moved tells state is))

      -- memory was wanting for its text, of which a front was written
      untold : (IsTrue told → WroteFront written text now) → Led disk_tells told whole part Before (After now) (Some F.Memory)
      untold front = record {
        header = taken.led.header;
        options = taken.led.options;
        unspent = spent;
        rises = taken.led.rises;
        quiet = taken.led.quiet;
        runs = λ tells state is.
            (let r = broke F.Memory (λ A x. x) tells state is (heard_or_refused logs heard lines answer (taken.heard tells state lines is all_lines)) in (r.0, r.1, (lines, text, r.2, front)));
        rose = λ tells state is. tt;
      }

      -- or all of it, and a log had refused
      refused : (IsTrue told → now ≡ written ++ text) → (refusal : LogRefusal) → answer ≡ Err refusal → Led disk_tells told whole part Before (After now) (Some (of_log refusal))
      refused all Unheard.Failed so = record {
        header = taken.led.header;
        options = taken.led.options;
        unspent = spent;
        rises = taken.led.rises;
        quiet = taken.led.quiet;
        runs = λ tells state is.
            (let r = broke F.Log (λ A x. x) tells state is (heard_as (Err Unheard.Failed) so tells state is) in (r.0, r.1, (lines, text, r.2, all)));
        rose = λ tells state is. tt;
      }
      refused all Unheard.Memory so = record {
        header = taken.led.header;
        options = taken.led.options;
        unspent = spent;
        rises = taken.led.rises;
        quiet = taken.led.quiet;
        runs = λ tells state is.
            (let r = broke F.Memory (λ A x. x) tells state is (inr (Unheard.Memory, heard_as (Err Unheard.Memory) so tells state is)) in
            (r.0, r.1, (lines, text, r.2, λ out. front_all written text now (all out))));
        rose = λ tells state is. tt;
      }

    module _ (listing : Option Listing) (now : List ℕ) where
      begun : (state new : State) → Gives form state (law_play play) (law_lines lines) new → PlayBegun play listing form state lines (lines_text listing lines) new
      begun state new gives = (inr gives, refl)

      pub play_untold : now ≡ written → Played disk_tells told Before (After now) play listing (Err F.Memory)
      play_untold none = untold (PlayDone play listing (Err F.Memory)) (PlayBegun play listing) now (lines_text listing lines) begun (λ out. front_none written (lines_text listing lines) now none)

      pub play_refused : (refusal : LogRefusal) → answer ≡ Err refusal → (IsTrue told → now ≡ written ++ lines_text listing lines) → Played disk_tells told Before (After now) play listing (Err (of_log refusal))
      play_refused refusal so all = refused (PlayDone play listing (Err (of_log refusal))) (PlayBegun play listing) now (lines_text listing lines) begun all refusal so

    pub silent_refused : (refusal : LogRefusal) → answer ≡ Err refusal → Ran disk_tells told Before (After written) (Silent play ∷ []) (Some (of_log refusal))
    silent_refused refusal so =
        refused (AllDone (Silent play ∷ [])) (AllCame (Silent play ∷ [])) written [] (λ state new gives. silent_begun form play state new lines (inr gives)) (λ out. sym (append-nil written)) refusal so

-- what was begun of a play, with its text
pub silent_begins : (play : Play) (f : Form) (old new : State) (lines : List Line) → PlaysLast f old (law_play play) (law_lines lines) new → (text : List ℕ) × AllCame (Silent play ∷ []) f old lines text new
silent_begins play f old new lines B = ([], silent_begun f play old new lines B)

pub play_begins : (play : Play) (listing : Option Listing) (f : Form) (old new : State) (lines : List Line) → PlaysLast f old (law_play play) (law_lines lines) new → (text : List ℕ) × PlayBegun play listing f old lines text new
play_begins play listing f old new lines B = (lines_text listing lines, (B, refl))

-- a play whose reply is printed is a part
module _ (disk_tells told : Bool) (old new : Scene) where
  told_done : (play : Play) (answer : Result Bool SessionFault) → IsToo (PlayDone play None answer) (AllDone (Told play ∷ []))
  told_done play answer f a b lines text (gives, u, pair) =
      subst (λ t. AllDone (Told play ∷ []) f a lines t b) (sym u) (one_done f (Told play) a b lines (record { count = 0; mid = a; front = []; rest = lines; lines_cut = refl; going = (refl, refl); last = gives; ends = refl }))

  told_begun : (play : Play) → IsToo (PlayBegun play None) (AllCame (Told play ∷ []))
  told_begun play f a b lines text (last, u) =
      subst (λ t. AllCame (Told play ∷ []) f a lines t b) (sym u) (one_begun f (Told play) a b lines (record { count = 0; mid = a; front = []; rest = lines; lines_cut = refl; going = (refl, refl); last = last }))

  told_ran : (play : Play) (answer : Result Bool SessionFault) → Played disk_tells told old new play None answer → Ran disk_tells told old new (Told play ∷ []) (fault_of answer)
  told_ran play answer p =
      led_as disk_tells told (PlayDone play None answer) (PlayBegun play None) (AllDone (Told play ∷ [])) (AllCame (Told play ∷ [])) (told_done play answer) (told_begun play) old new (fault_of answer) p

-- and its reply is printed, where nothing else is held
module _ (disk_tells told : Bool) (a b : OverFile) (written held text now : List ℕ) (logs heard : List Logged) (play : Play) where
  pub told_printed : held ≡ [] → (taken : Result Bool SessionFault) → Played disk_tells told (scene a written logs) (scene b (written ++ text) heard) play None taken
      → (answer : Option SessionFault) → EndsPrinted told (fault_of taken) written (held ++ text) now answer → Ran disk_tells told (scene a written logs) (scene b now heard) (Told play ∷ []) answer
  told_printed empty taken p answer ends =
      ended disk_tells told (AllDone (Told play ∷ [])) (AllCame (Told play ∷ [])) (λ f old new lines made done. all_came f (Told play ∷ []) old new lines made done) (scene a written logs) b heard written held text
      (λ out. ([], sym (append-nil written))) now (fault_of taken) answer ends
      (subst (λ w. Ran disk_tells told (scene a written logs) (scene b (w ++ text) heard) (Told play ∷ []) (fault_of taken)) (sym (nothing_behind written held empty))
      (told_ran disk_tells told (scene a written logs) (scene b (written ++ text) heard) play taken p))
