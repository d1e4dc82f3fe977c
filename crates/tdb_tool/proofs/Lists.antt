-- Lists of pairs, move by move.
use Rattle.std.proofs.Common.{◌≡◌, ℕ, zero, suc, ◌+◌, ◌-◌, ◌≤◌, Bool, true, false, List, [], ◌∷◌, ◌++◌, length, Option, None, Some, Result, Ok, Err, refl, sym, ◌∙◌, ap, subst, inr, add-one, arith}
use Rattle.std.specs.Prelude.{IsTrue, ◌||◌}
use Rattle.std.specs.List.{list_any}
use Rattle.std.proofs.lemmas.List.{append_assoc, append-nil, map-append}
use Rattle.std.proofs.lemmas.Grind.{flat_map-append}
use Rattle.tdb_disk.specs.History.{seen}
use Rattle.tdb_backup.specs.Dump.{WroteFront}
use Rattle.tdb_dump.specs.declared.listing.Listing.{Listing}
use Rattle.tdb_law.specs.Commands.Command.{OnWalk}
use Rattle.tdb_law.specs.Plays.{Play as LawPlay, Gives}
use Rattle.tdb_law.specs.World.{State}
use Rattle.tdb_log.specs.Logs.{Logged}
use Rattle.tdb_locks.specs.declared.turn.Reply.{Reply}
use Rattle.tdb_locks.specs.declared.turn.Turn.{Turn}
use Rattle.tdb_commands.specs.InLaw.{law_turn, law_line, law_lines, law_play}
use Rattle.tdb_commands.specs.declared.line.Line.{Line}
use Rattle.tdb_commands.specs.declared.play.Play.{Play}
use Rattle.tdb_space.specs.Form.{Form}
use Rattle.tdb_world.specs.Whole.{form_at}
use Rattle.tdb_tool.specs.declared.limits.TheConstants.{MOST_MOVES}
use Rattle.tdb_tool.specs.declared.fault.SessionFault.{SessionFault}
use Rattle.tdb_tool.specs.declared.fault.SessionFault.TheVariants as F
use Rattle.tdb_tool.specs.Parts.{Listed, move, Going, AllDone, AllCame}
use Rattle.tdb_tool.specs.Replies.{ends_with_pair, tells_pair, tell_pair, line_text, lines_text}
use Rattle.tdb_world.specs.Courses.Scene.{Scene, scene, IsStateAt}
use Rattle.tdb_world.specs.OverFile.{OverFile, FitsFile}
use Rattle.tdb_tool.specs.Serving.{fault_of, Deed, Led, Ran, PlayDone, PlayBegun, Played, HeldBehind, EndsPrinted}
use Rattle.tdb_tool.proofs.Coming.{Follows, IsToo, led_nowhere, led_on, led_but_input}
use Rattle.tdb_tool.proofs.HeldText.{led_moved, written_front, ended}
use Rattle.tdb_tool.proofs.Telling.{nothing_behind}
use Rattle.tdb_tool.proofs.WalkEnds.{move_at, Moved as LawMoved, first_moves, moves_fit}
use Rattle.tdb_tool.proofs.Moves.{ends_pair, shows}
use Rattle.tdb_tool.proofs.PartLemmas.{one_done, one_begun, all_came, going_course}
use Rattle.tdb_tool.proofs.Sights.{sees_within}

-- so many moves of a list, each of which gave a pair, with their text
abbrev pub Moved : Listing → ℕ → Deed
Moved listing n f old lines text new = Going f (Listed listing) old n lines new × (text ≡ lines_text (Some listing) lines)

module _ (listing : Listing) where
  both_texts : (front rest : List Line) (text more : List ℕ) → text ≡ lines_text (Some listing) front → more ≡ lines_text (Some listing) rest → lines_text (Some listing) (front ++ rest) ≡ text ++ more
  both_texts front rest text more e u = flat_map-append (line_text (Some listing)) front rest ∙ ap (λ t. t ++ lines_text (Some listing) rest) (sym e) ∙ ap (λ t. text ++ t) (sym u)

  -- none were made, and one more is
  pub no_moves : (f : Form) (old : State) → Moved listing 0 f old [] [] old
  no_moves f old = ((refl, refl), refl)

  pub one_more : (n : ℕ) → Follows (Moved listing n) (PlayDone (move n) (Some listing) (Ok true)) (Moved listing (suc n))
  one_more n f old mid new front rest text more (going, e) (gives, u, pair) = ((mid, front, rest, refl, going, gives, sym pair), sym (both_texts front rest text more e u))

  -- the last one gave no pair
  pub list_ends : (n : ℕ) → Follows (Moved listing n) (PlayDone (move n) (Some listing) (Ok false)) (AllDone (Listed listing ∷ []))
  list_ends n f old mid new front rest text more (going, e) (gives, u, pair) =
      subst (λ t. AllDone (Listed listing ∷ []) f old (front ++ rest) t new) (both_texts front rest text more e u)
      (one_done f (Listed listing) old new (front ++ rest) (record { count = n; mid = mid; front = front; rest = rest; lines_cut = refl; going = going; last = gives; ends = sym pair }))

  -- or it broke off
  pub list_breaks : (n : ℕ) → Follows (Moved listing n) (PlayBegun (move n) (Some listing)) (AllCame (Listed listing ∷ []))
  list_breaks n f old mid new front rest text more (going, e) (last, u) =
      subst (λ t. AllCame (Listed listing ∷ []) f old (front ++ rest) t new) (both_texts front rest text more e u)
      (one_begun f (Listed listing) old new (front ++ rest) (record { count = n; mid = mid; front = front; rest = rest; lines_cut = refl; going = going; last = last }))

  last_begun : (n : ℕ) (answer : Result Bool SessionFault) → Follows (Moved listing n) (PlayDone (move n) (Some listing) answer) (AllCame (Listed listing ∷ []))
  last_begun n answer f old mid new front rest text more moved (gives, u, pair) = list_breaks n f old mid new front rest text more moved (inr gives, u)

-- a list goes on, ends, or breaks off, at a moment to which so many moves have led
module _ (disk_tells told : Bool) (listing : Listing) where
  abbrev Came : Deed
  Came = AllCame (Listed listing ∷ [])

  abbrev pub SoFar : ℕ → Scene → Scene → Type 0
  SoFar n start now = Led disk_tells told (Moved listing n) Came start now None

  module _ (n : ℕ) (start mid now : Scene) (so_far : SoFar n start mid) (play : Play) (is : play ≡ move n) where
    behind : (answer : Result Bool SessionFault) (both : Deed) → Follows (Moved listing n) (PlayDone (move n) (Some listing) answer) both → Played disk_tells told mid now play (Some listing) answer → Led disk_tells told both Came start now (fault_of answer)
    behind answer both follows p =
        led_on disk_tells told (Moved listing n) Came (PlayDone (move n) (Some listing) answer) (PlayBegun (move n) (Some listing)) both Came
        (λ f old new lines text moved. going_course f (Listed listing) n old new lines moved.0) follows (list_breaks listing n) start mid now so_far (fault_of answer)
        (subst (λ m. Played disk_tells told mid now m (Some listing) answer) is p)

    -- so far the moves came with the one more, however that ended
    pub list_so_far : (answer : Result Bool SessionFault) → Played disk_tells told mid now play (Some listing) answer → Led disk_tells told Came Came start now (fault_of answer)
    list_so_far answer p = behind answer Came (last_begun listing n answer) p

    pub list_on : Played disk_tells told mid now play (Some listing) (Ok true) → SoFar (n + 1) start now
    list_on p = subst (λ m. SoFar m start now) (sym (add-one n)) (behind (Ok true) (Moved listing (suc n)) (one_more listing n) p)

    pub list_end : Played disk_tells told mid now play (Some listing) (Ok false) → Ran disk_tells told start now (Listed listing ∷ []) None
    list_end p = behind (Ok false) (AllDone (Listed listing ∷ [])) (list_ends listing n) p

    pub list_broke : (fault : SessionFault) → (fault ≡ F.Input → ⊥) → Played disk_tells told mid now play (Some listing) (Err fault) → Ran disk_tells told start now (Listed listing ∷ []) (Some fault)
    list_broke fault other p = led_but_input disk_tells told Came (AllDone (Listed listing ∷ [])) Came start now fault other (list_so_far (Err fault) p)

-- lines tell a pair where they do in the words of the law
line_shows : (line : Line) → shows (law_line line) ≡ tells_pair line
line_shows (Line.Took who command Turn.Step) = refl
line_shows (Line.Took who command (Turn.Blocked owner byte)) = refl
line_shows (Line.Took who command (Turn.Done reply)) = of reply
  where
    of : (reply : Reply) → ends_pair (law_turn (Turn.Done reply)) ≡ ends_with_pair (Turn.Done reply)
    of Reply.Ok = refl
    of (Reply.Value value) = refl
    of (Reply.Pair key value) = refl
    of Reply.End = refl
    of Reply.KeyMissing = refl
    of Reply.KeyThere = refl
    of (Reply.Busy owner byte) = refl
    of Reply.ReadOnly = refl
    of Reply.NoTransaction = refl
    of Reply.InTransaction = refl
    of Reply.Nesting = refl
    of Reply.Doomed = refl
    of (Reply.HeldLocks count) = refl
    of Reply.NotLocked = refl
    of (Reply.Full len need) = refl
    of Reply.Memory = refl
    of Reply.Yes = refl
    of Reply.No = refl
    of (Reply.Number n) = refl
line_shows (Line.Joined who) = refl
line_shows (Line.JoinBlocked owner) = refl
line_shows Line.JoinMany = refl
line_shows Line.JoinMemory = refl
line_shows (Line.Grew from to) = refl
line_shows (Line.Absent who) = refl
line_shows (Line.Idle who) = refl
line_shows (Line.Occupied who) = refl
line_shows (Line.LogsLeft count) = refl
line_shows (Line.Unfinished who) = refl
line_shows (Line.Died who) = refl
line_shows (Line.Undone bytes to) = refl

lines_show : (lines : List Line) → list_any shows (law_lines lines) ≡ tell_pair lines
lines_show [] = refl
lines_show (line ∷ lines) = ap (λ b. b || list_any shows (law_lines lines)) (line_shows line) ∙ ap (λ b. tells_pair line || b) (lines_show lines)

going_moved : (f : Form) (listing : Listing) (n : ℕ) (old new : State) (lines : List Line) → Going f (Listed listing) old n lines new → LawMoved f 0 n old (law_lines lines) new
going_moved f listing zero old new lines g = (ap law_lines g.0, g.1)
going_moved f listing (suc n) old new lines (mid, front, rest, cut, going, gives, pair) = (
  mid,
  law_lines front,
  law_lines rest,
  ap law_lines cut ∙ map-append law_line front rest,
  going_moved f listing n old mid front going,
  move_in n gives,
  lines_show rest ∙ pair,
)
  where
    move_in : (n : ℕ) → Gives f mid (law_play (move n)) (law_lines rest) new → Gives f mid (LawPlay.Do 0 (OnWalk (move_at n))) (law_lines rest) new
    move_in zero gives = gives
    move_in (suc n) gives = gives

-- so many moves can't all have given pairs over a file that isn't too long
module _ (disk_tells told : Bool) (listing : Listing) (n : ℕ) (start now : Scene) (so_far : SoFar disk_tells told listing n start now) (many : MOST_MOVES ≤ n) (fits : FitsFile start.over)
    (sized : IsTrue disk_tells → length (seen start.over.history) ≡ start.over.size) where
  too_many : IsTrue disk_tells → (state : State) → IsStateAt start state → ⊥
  too_many heard state is =
      let f = form_at start.over.world in
      let p = so_far.runs heard state is in
      let lines = law_lines p.2.0 in
      let moved = going_moved f listing n state p.0 p.2.0 p.2.2.0.0 in
      let some : suc (n - 1) ≡ n = omega (arith, many) in
      let first = first_moves f 0 (n - 1) state p.0 lines (subst (λ m. LawMoved f 0 m state lines p.0) (sym some) moved) in
      let short = fits.openers.short in
      let limit = fits.openers.limit in
      let size : length (seen start.over.history) ≤ 4294963200 = (let same = sized heard in omega (arith, same, short, limit)) in
      let S = sees_within start.over.world start.over.history start.over.size 4294963200 fits size limit state is first.0 first.1 in
      let few = moves_fit f 0 n state p.0 lines S.image S.hands S.accepted S.map moved in
      let within = S.short in
      omega (arith, few, within, many)

  pub list_full : Ran disk_tells told start now (Listed listing ∷ []) None
  list_full = record {
    header = so_far.header;
    options = so_far.options;
    unspent = so_far.unspent;
    rises = so_far.rises;
    quiet = so_far.quiet;
    runs = λ heard state is. absurd (too_many heard state is);
    rose = so_far.rose;
  }

-- what was written at a moment is there
abbrev pub Grew : Bool → Scene → List ℕ → Type 0
Grew told start written = IsTrue told → (done : List ℕ) × (written ≡ start.written ++ done)

-- nothing was written since
pub grew_none : (told : Bool) (start : Scene) → Grew told start start.written
grew_none told start out = ([], sym (append-nil start.written))

-- The text of the moves so far was written, but for what is held of it.
module _ (disk_tells told : Bool) (listing : Listing) where
  all_came_of : IsToo (AllDone (Listed listing ∷ [])) (AllCame (Listed listing ∷ []))
  all_came_of f old new lines text done = all_came f (Listed listing ∷ []) old new lines text done

  -- no move was made, and nothing is held
  pub held_none : (a : OverFile) (written held : List ℕ) (logs : List Logged) → a.spent ≡ false → held ≡ [] → SoFar disk_tells told listing 0 (scene a written logs) (scene a (written ++ held) logs)
  held_none a written held logs unspent empty =
      subst (λ w. SoFar disk_tells told listing 0 (scene a written logs) (scene a w logs)) (sym (nothing_behind written held empty))
      (led_nowhere disk_tells told (Moved listing 0) (AllCame (Listed listing ∷ [])) (scene a written logs) (no_moves listing) unspent)

  module _ (n : ℕ) (start : Scene) (a b : OverFile) (written held text now : List ℕ) (logs heard : List Logged) (so_far : SoFar disk_tells told listing n start (scene a (written ++ held) logs))
      (grew : Grew told start written) (play : Play) (is : play ≡ move n) where
    abbrev Made : Result Bool SessionFault → Type 0
    Made answer = Played disk_tells told (scene a (written ++ held) logs) (scene b ((written ++ held) ++ text) heard) play (Some listing) answer

    -- a pair more is held, or written
    pub held_on : Made (Ok true) → (left : List ℕ) → (IsTrue told → HeldBehind written (held ++ text) now left) → SoFar disk_tells told listing (n + 1) start (scene b (now ++ left) heard)
    held_on p left on =
        led_moved disk_tells told (Moved listing (n + 1)) (AllCame (Listed listing ∷ [])) start b heard ((written ++ held) ++ text) (now ++ left) (λ out. same (on out)) None
        (list_on disk_tells told listing n start (scene a (written ++ held) logs) (scene b ((written ++ held) ++ text) heard) so_far play is p)
      where
        same : HeldBehind written (held ++ text) now left → now ++ left ≡ (written ++ held) ++ text
        same (front, wrote, cut) = ap (λ t. t ++ left) wrote ∙ append_assoc written front left ∙ ap (λ t. written ++ t) cut ∙ sym (append_assoc written held text)

    pub grew_on : (left : List ℕ) → (IsTrue told → HeldBehind written (held ++ text) now left) → Grew told start now
    grew_on left on out =
        let g = grew out in
        let h = on out in
        (g.0 ++ h.0, h.1 ∙ ap (λ t. t ++ h.0) g.1 ∙ append_assoc start.written g.0 h.0)

    -- the output failed at it
    pub held_lost : Made (Ok true) → (IsTrue told → WroteFront written (held ++ text) now) → Ran disk_tells told start (scene b now heard) (Listed listing ∷ []) (Some F.Output)
    held_lost p some =
        written_front disk_tells told (AllCame (Listed listing ∷ [])) (AllCame (Listed listing ∷ [])) (λ f old new lines made came. came) start b heard written held text grew now (AllDone (Listed listing ∷ [])) some None refl
        (list_so_far disk_tells told listing n start (scene a (written ++ held) logs) (scene b ((written ++ held) ++ text) heard) so_far play is (Ok true) p)

    -- the list ends, or breaks off
    pub end_printed : Made (Ok false) → (answer : Option SessionFault) → EndsPrinted told None written (held ++ text) now answer → Ran disk_tells told start (scene b now heard) (Listed listing ∷ []) answer
    end_printed p answer ends =
        ended disk_tells told (AllDone (Listed listing ∷ [])) (AllCame (Listed listing ∷ [])) all_came_of start b heard written held text grew now None answer ends
        (list_end disk_tells told listing n start (scene a (written ++ held) logs) (scene b ((written ++ held) ++ text) heard) so_far play is p)

    pub broke_printed : (fault : SessionFault) → (fault ≡ F.Input → ⊥) → Made (Err fault) → (answer : Option SessionFault) → EndsPrinted told (Some fault) written (held ++ text) now answer
        → Ran disk_tells told start (scene b now heard) (Listed listing ∷ []) answer
    broke_printed fault other p answer ends =
        ended disk_tells told (AllDone (Listed listing ∷ [])) (AllCame (Listed listing ∷ [])) all_came_of start b heard written held text grew now (Some fault) answer ends
        (list_broke disk_tells told listing n start (scene a (written ++ held) logs) (scene b ((written ++ held) ++ text) heard) so_far play is fault other p)

  -- it is cut off
  pub full_printed : (n : ℕ) (start : Scene) (a : OverFile) (written held text now : List ℕ) (logs : List Logged) → SoFar disk_tells told listing n start (scene a (written ++ held) logs) → MOST_MOVES ≤ n → FitsFile start.over
      → (IsTrue disk_tells → length (seen start.over.history) ≡ start.over.size) → Grew told start written → text ≡ [] → (answer : Option SessionFault) → EndsPrinted told None written (held ++ text) now answer
      → Ran disk_tells told start (scene a now logs) (Listed listing ∷ []) answer
  full_printed n start a written held text now logs so_far many fits sized grew empty answer ends =
      ended disk_tells told (AllDone (Listed listing ∷ [])) (AllCame (Listed listing ∷ [])) all_came_of start a logs written held text grew now None answer ends
      (subst (λ w. Ran disk_tells told start (scene a w logs) (Listed listing ∷ []) None) (sym (nothing_behind (written ++ held) text empty))
      (list_full disk_tells told listing n start (scene a (written ++ held) logs) so_far many fits sized))
