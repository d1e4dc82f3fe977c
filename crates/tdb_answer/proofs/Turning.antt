-- What turns over a file give, from what their parts gave.
use Rattle.std.proofs.Common.{◌≡◌, ◌⊎◌, ℕ, ◌<◌, ◌≤◌, false, List, [], ◌++◌, length, take, Option, None, Some, Result, Ok, Err, refl, sym, ◌∙◌, ap, subst, inl, inr, arith}
use Rattle.std.specs.Prelude.{Bool, IsTrue}
use Rattle.std.proofs.lemmas.List.{append-nil, take_all}
use Rattle.tdb_disk.specs.Count.{Rose}
use Rattle.tdb_disk.specs.History.{History, seen}
use Rattle.tdb_disk.specs.declared.files.TakeRefusal.{TakeRefusal}
use Rattle.tdb_disk.specs.declared.files.TakeRefusal.TheVariants as Take
use Rattle.tdb_space.specs.Form.{form_of}
use Rattle.tdb_check.specs.Report.{Counted}
use Rattle.tdb_log.specs.Logs.{Logged}
use Rattle.tdb_commands.specs.declared.line.Line.{Line}
use Rattle.tdb_commands.specs.declared.play.Play.{Play}
use Rattle.tdb_script.specs.Script.{Script, BadAt, IsRefused as NoScript}
use Rattle.tdb_script.specs.declared.script.ScriptRefusal.{ScriptRefusal}
use Rattle.tdb_script.specs.declared.script.ScriptRefusal.TheVariants as Unread
use Rattle.tdb_script.specs.declared.limits.TheConstants.{LONGEST_SCRIPT}
use Rattle.tdb_script.proofs.PartLemmas.{stays_bad}
use Rattle.tdb_script.specs.Text.{report_text}
use Rattle.tdb_commands.specs.declared.options.Options.{Options}
use Rattle.tdb_world.proofs.Courses.Coming.{whole_comes}
use Rattle.tdb_cmdline.specs.declared.ask.Task.TheVariants.{Turns}
use Rattle.tdb_answer.specs.declared.ending.Ending.{Ending}
use Rattle.tdb_answer.specs.declared.ending.Ending.TheVariants as E
use Rattle.tdb_answer.specs.declared.ending.Reply.TheVariants.{Played}
use Rattle.tdb_answer.specs.declared.ending.Unprinted.{Unprinted}
use Rattle.tdb_answer.specs.declared.ending.Unprinted.TheVariants as Rest
use Rattle.tdb_open.specs.declared.halt.Fault.TheVariants as F
use Rattle.tdb_open.specs.declared.halt.Halt.{Halt}
use Rattle.tdb_open.specs.declared.halt.Halt.TheVariants as H
use Rattle.tdb_open.specs.declared.opening.Opened.{Opened}
use Rattle.tdb_answer.specs.declared.scripts.ScriptFault.{ScriptFault}
use Rattle.tdb_answer.specs.declared.scripts.ScriptFault.TheVariants as Bad
use Rattle.tdb_answer.specs.Commands.Restore.{HeardBy, of_input}
use Rattle.tdb_answer.specs.Commands.Turns.{IsScript, PlaysSo, script_unread, script_bad, no_file, file_refused, file_opened, PlayedWhole, CameOver, IsReport, report_so_far, report_whole, ReportHeard, MayEndBefore, turned_nothing, turned_halt, turned_report, TurnsHeard, IsPlayedSoFar, ReportFront, TurnsText, TurnsLeave, AllPlayed}
use Rattle.tdb_answer.specs.Ending.{task_failed, task_wanting, task_unlogged, Untaken, of_halt, CountedIf}
use Rattle.tdb_answer.specs.Input.{Input}
use Rattle.tdb_answer.specs.Looks.{ending_of, Began}
use Rattle.tdb_open.specs.Opening.{opened_bytes}
use Rattle.tdb_answer.specs.Output.{Output}
use Rattle.tdb_answer.specs.Playing.{PlayedFront, PlayedFile, file_unplayed, file_played, PlayedAll, PlaysCause, plays_nowhere, plays_refused, plays_opened, plays_failed, plays_wanting, plays_unlogged, broke_off, PlaysEnd}
use Rattle.tdb_tool.specs.Serving.{HeardSo}
use Rattle.tdb_answer.specs.Reads.{AskCause}
use Rattle.tdb_answer.specs.Scripts.{IsUnscripted, of_script, unscripted}
use Rattle.tdb_answer.proofs.Unlogged.{untaken_unlogged}
use Rattle.tdb_open.specs.Loading.{IsOpened, TurnOpeningHeard}

-- how plays end is told as it is
pub unplayed_input : (halt : Halt) → of_input (of_halt halt) ≡ false
unplayed_input (H.Refused refusal) = refl
unplayed_input H.Device = refl
unplayed_input H.Memory = refl
unplayed_input H.Log = refl

pub unplayed_asked : (halt : Halt) → of_halt halt ≡ E.Usage → ⊥
unplayed_asked (H.Refused refusal) is = cc
unplayed_asked H.Device is = cc
unplayed_asked H.Memory is = cc
unplayed_asked H.Log is = cc

-- how often the disk failed where the file wasn't opened
pub halt_counted : (tells : Bool) (before after : ℕ) (halt : Halt) → before ≤ after → (halt ≡ H.Device → Rose before after) → ((halt ≡ H.Device → ⊥) → after ≡ before) → CountedIf tells before after (of_halt halt)
halt_counted tells before after (H.Refused refusal) falls failed refused = record { never_falls = falls; failed = λ is. (let wrong : E.Refused refusal ≡ E.DeviceFault = is in cc); sound = λ other. refused (λ is. let wrong : H.Refused refusal ≡ H.Device = is in cc) }
halt_counted tells before after H.Device falls failed refused = record { never_falls = falls; failed = λ is told. failed refl; sound = λ other. absurd (other refl) }
halt_counted tells before after H.Memory falls failed refused = record { never_falls = falls; failed = λ is. (let wrong : E.NoMemory ≡ E.DeviceFault = is in cc); sound = λ other. refused (λ is. let wrong : H.Memory ≡ H.Device = is in cc) }
halt_counted tells before after H.Log falls failed refused = record { never_falls = falls; failed = λ is. (let wrong : E.LogFault ≡ E.DeviceFault = is in cc); sound = λ other. refused (λ is. let wrong : H.Log ≡ H.Device = is in cc) }

module _ (options : Options) (name : List ℕ) (h now : History) (plays : List Play) (told : Bool) (w0 w1 : List ℕ) (logs later : List Logged) where
  abbrev On : Result Ending Unprinted → Type 0
  On r = PlayedFile options h now plays told w0 w1 logs later r

  came_whole : (f : _) (img b : List ℕ) (before after : List ℕ) (mid : List Logged) → PlayedWhole f options img plays b told before after mid later → CameOver f options img b
  came_whole f img b before after mid p = (plays, p.lines, p.left, record { old = p.leads.old; loaded = p.leads.loaded; over = p.leads.over; came = whole_comes f _ p.leads.old _ _ p.leads.course }, p.over)

  so_far : (opened : History) → IsOpened options h opened → CameOver (form_of (seen opened)) options (seen opened) (seen now) → IsPlayedSoFar options h now
  so_far opened is came = record { opened = opened; is_opened = is; came = came }

  module _ (held : Option History) (there : held ≡ Some h) where
    -- why they ended so
    pub cause_played : (before after : ℕ) (r : Result Ending Unprinted) → On r → (ending_of r ≡ E.DeviceFault → Rose before after) → PlaysCause options name held before after (ending_of r)
    cause_played before after _ (file_unplayed (H.Refused refusal) opened same hears) rose = plays_refused h refusal there opened.0
    cause_played before after _ (file_unplayed H.Device opened same hears) rose = plays_failed (rose refl)
    cause_played before after _ (file_unplayed H.Memory opened same hears) rose = plays_wanting
    cause_played before after _ (file_unplayed H.Log opened same hears) rose = plays_unlogged
    cause_played before after _ (file_played (Ok (Ok v)) on) rose = plays_opened h there on.opens
    cause_played before after _ (file_played (Ok (Err F.Device)) on) rose = plays_failed (rose refl)
    cause_played before after _ (file_played (Ok (Err F.Memory)) on) rose = plays_wanting
    cause_played before after _ (file_played (Ok (Err F.Log)) on) rose = plays_unlogged
    cause_played before after _ (file_played (Err Rest.Report) on) rose = plays_opened h there on.opens
    cause_played before after _ (file_played (Err Rest.Fault) on) rose = plays_failed (rose refl)
    cause_played before after _ (file_played (Err Rest.Pairs) on) rose = absurd on.over
    cause_played before after _ (file_played (Err Rest.Files) on) rose = absurd on.over

    -- what they left
    pub left_played : (given : Option History) (r : Result Ending Unprinted) → given ≡ Some now → On r → TurnsLeave options held (ending_of r) given
    left_played given r is on = subst (λ o. TurnsLeave options o (ending_of r) given) (sym there) (of r on)
      where
        of : (r : Result Ending Unprinted) → On r → TurnsLeave options (Some h) (ending_of r) given
        of _ (file_unplayed (H.Refused refusal) opened same hears) = (now, is, opened.1)
        of _ (file_unplayed H.Device opened same hears) = (now, is, tt)
        of _ (file_unplayed H.Memory opened same hears) = (now, is, inl opened)
        of _ (file_unplayed H.Log opened same hears) = (now, is, inl opened)
        of _ (file_played (Ok (Ok v)) on) = (now, is, (refl, so_far on.opened on.is_opened (came_whole (form_of (seen on.opened)) (seen on.opened) (seen now) w0 w1 on.mid on.over)))
        of _ (file_played (Ok (Err F.Device)) on) = (now, is, tt)
        of _ (file_played (Ok (Err F.Memory)) on) = (now, is, inr (so_far on.opened on.is_opened on.over.1))
        of _ (file_played (Ok (Err F.Log)) on) = (now, is, inr (so_far on.opened on.is_opened on.over.1))
        of _ (file_played (Err Rest.Report) on) = (now, is, (refl, so_far on.opened on.is_opened on.over.1))
        of _ (file_played (Err Rest.Fault) on) = (now, is, tt)
        of _ (file_played (Err Rest.Pairs) on) = absurd on.over
        of _ (file_played (Err Rest.Files) on) = absurd on.over

    -- what they wrote
    front_text : (opened : History) (mid : List Logged) (answer : PlaysEnd) → IsOpened options h opened → IsTrue told → PlayedFront (form_of (seen opened)) options (seen opened) told w0 w1 mid later answer → (text : List ℕ) × ReportFront options (opened_bytes (seen h)) text × (w1 ≡ w0 ++ text)
    front_text opened mid answer is heard p =
        let w = p.2 heard in
        (take w.0 (report_text p.0), (p.0, subst (λ img. IsReport (form_of img) options img p.0) is.reads p.1, w.0, refl), w.2)

    pub began_played : (r : Result Ending Unprinted) → IsTrue told → On r → Began (TurnsText options held) w0 w1 r
    began_played r heard on = subst (λ o. Began (TurnsText options o) w0 w1 r) (sym there) (of r on)
      where
        none : w1 ≡ w0 → w1 ≡ w0 ++ []
        none same = same ∙ sym (append-nil w0)

        of : (r : Result Ending Unprinted) → On r → Began (TurnsText options (Some h)) w0 w1 r
        of _ (file_unplayed (H.Refused refusal) opened same hears) = ([], refl, none same)
        of _ (file_unplayed H.Device opened same hears) = ([], inl refl, none same)
        of _ (file_unplayed H.Memory opened same hears) = ([], inl refl, none same)
        of _ (file_unplayed H.Log opened same hears) = ([], inl refl, none same)
        of _ (file_played (Ok (Ok v)) on) =
            let p = on.over in
            let text = report_text (p.lines ++ p.more) in (
              text,
              (p.lines ++ p.more, subst (λ img. IsReport (form_of img) options img (p.lines ++ p.more)) on.is_opened.reads (report_whole plays p.lines p.more p.left p.leads p.ends), length text, sym (take_all (length text) text (omega arith))),
              p.printed heard,
            )
        of _ (file_played (Ok (Err F.Device)) on) = let p = front_text on.opened on.mid (Ok (Err F.Device)) on.is_opened heard on.over in (p.0, inr p.1, p.2)
        of _ (file_played (Ok (Err F.Memory)) on) = let p = front_text on.opened on.mid (Ok (Err F.Memory)) on.is_opened heard on.over.0 in (p.0, inr p.1, p.2)
        of _ (file_played (Ok (Err F.Log)) on) = let p = front_text on.opened on.mid (Ok (Err F.Log)) on.is_opened heard on.over.0 in (p.0, inr p.1, p.2)
        of _ (file_played (Err Rest.Report) on) =
            let p = front_text on.opened on.mid (Err Rest.Report) on.is_opened heard on.over.0 in
            (p.0, p.1, length p.0, p.2 ∙ ap (λ t. w0 ++ t) (sym (take_all (length p.0) p.0 (omega arith))))
        of _ (file_played (Err Rest.Fault) on) =
            let p = front_text on.opened on.mid (Err Rest.Fault) on.is_opened heard on.over in
            (p.0, inr p.1, length p.0, p.2 ∙ ap (λ t. w0 ++ t) (sym (take_all (length p.0) p.0 (omega arith))))
        of _ (file_played (Err Rest.Pairs) on) = absurd on.over
        of _ (file_played (Err Rest.Files) on) = absurd on.over

    -- and where they were played whole
    pub all_played : (given : Option History) (r : Result Ending Unprinted) → given ≡ Some now → On r → r ≡ Ok (E.Replied Played) → PlayedAll options plays held given told w0 w1 logs later
    all_played given _ is (file_unplayed (H.Refused refusal) opened same hears) e = let wrong : Ok (E.Refused refusal) ≡ Ok (E.Replied Played) = e in absurd (cc)
    all_played given _ is (file_unplayed H.Device opened same hears) e = let wrong : Ok E.DeviceFault ≡ Ok (E.Replied Played) = e in absurd (cc)
    all_played given _ is (file_unplayed H.Memory opened same hears) e = let wrong : Ok E.NoMemory ≡ Ok (E.Replied Played) = e in absurd (cc)
    all_played given _ is (file_unplayed H.Log opened same hears) e = let wrong : Ok E.LogFault ≡ Ok (E.Replied Played) = e in absurd (cc)
    all_played given _ is (file_played (Ok (Ok v)) on) e = (h, now, there, is, on)
    all_played given _ is (file_played (Ok (Err F.Device)) on) e = let wrong : Ok E.DeviceFault ≡ Ok (E.Replied Played) = e in absurd (cc)
    all_played given _ is (file_played (Ok (Err F.Memory)) on) e = let wrong : Ok E.NoMemory ≡ Ok (E.Replied Played) = e in absurd (cc)
    all_played given _ is (file_played (Ok (Err F.Log)) on) e = let wrong : Ok E.LogFault ≡ Ok (E.Replied Played) = e in absurd (cc)
    all_played given _ is (file_played (Err rest) on) e = let wrong : Err rest ≡ Ok (E.Replied Played) = e in absurd (cc)

    -- what logs heard of them
    reported : (opened : History) (mid : List Logged) (found : Opened) (answer : PlaysEnd) (e : Ending) → IsOpened options h opened → Counted (opened_bytes (seen h)) found.report → TurnOpeningHeard options (seen h) logs mid (Ok found)
        → ((lines : List Line) → HeardSo (broke_off answer) mid lines later → ReportHeard e mid lines later) → PlayedFront (form_of (seen opened)) options (seen opened) told w0 w1 mid later answer → TurnsHeard options held e logs later
    reported opened mid found answer e is counted hears so p =
        subst (λ o. TurnsHeard options o e logs later) (sym there) (turned_report found mid p.0 counted hears (subst (λ img. IsReport (form_of img) options img p.0) is.reads p.1) (so p.0 p.3))

    halted : (halt : Halt) → TurnOpeningHeard options (seen h) logs later (Err halt) → TurnsHeard options held (of_halt halt) logs later
    halted halt hears = subst (λ o. TurnsHeard options o (of_halt halt) logs later) (sym there) (turned_halt halt refl hears)

    pub heard_played : (r : Result Ending Unprinted) → On r → TurnsHeard options held (ending_of r) logs later
    heard_played _ (file_unplayed halt opened same hears) = halted halt hears
    heard_played _ (file_played (Ok (Ok v)) on) =
        let p = on.over in
        subst (λ o. TurnsHeard options o (E.Replied Played) logs later) (sym there)
        (turned_report on.found on.mid p.lines on.counted on.heard
        (subst (λ img. IsReport (form_of img) options img p.lines) on.is_opened.reads
        (report_so_far plays p.lines p.left (record { old = p.leads.old; loaded = p.leads.loaded; over = p.leads.over; came = whole_comes (form_of (seen on.opened)) _ p.leads.old _ _ p.leads.course })))
        (inl p.heard))
    heard_played _ (file_played (Ok (Err F.Device)) on) = reported on.opened on.mid on.found (Ok (Err F.Device)) E.DeviceFault on.is_opened on.counted on.heard (λ lines so. so) on.over
    heard_played _ (file_played (Ok (Err F.Memory)) on) = reported on.opened on.mid on.found (Ok (Err F.Memory)) E.NoMemory on.is_opened on.counted on.heard (λ lines so. so) on.over.0
    heard_played _ (file_played (Ok (Err F.Log)) on) = reported on.opened on.mid on.found (Ok (Err F.Log)) E.LogFault on.is_opened on.counted on.heard (λ lines so. so) on.over.0
    heard_played _ (file_played (Err Rest.Report) on) = reported on.opened on.mid on.found (Err Rest.Report) (E.Replied Played) on.is_opened on.counted on.heard (λ lines so. so) on.over.0
    heard_played _ (file_played (Err Rest.Fault) on) = reported on.opened on.mid on.found (Err Rest.Fault) E.DeviceFault on.is_opened on.counted on.heard (λ lines so. so) on.over
    heard_played _ (file_played (Err Rest.Pairs) on) = absurd on.over
    heard_played _ (file_played (Err Rest.Files) on) = absurd on.over

-- no log fails before a file is looked into
before_unlogged : (e : Ending) → MayEndBefore e → e ≡ E.LogFault → ⊥
before_unlogged e may is = subst MayEndBefore is may

-- a file that wasn't looked into
pub heard_nothing : (options : Options) (held : Option History) (e : Ending) (logs later : List Logged) → MayEndBefore e → later ≡ logs → TurnsHeard options held e logs later
heard_nothing options None e logs later may same = (same, before_unlogged e may)
heard_nothing options (Some h) e logs later may same = turned_nothing may same

pub heard_unscripted : (fault : ScriptFault) → MayEndBefore (unscripted fault)
heard_unscripted Bad.Input = tt
heard_unscripted (Bad.Malformed at) = tt
heard_unscripted Bad.Memory = tt

-- a file that wasn't taken
module _ (options : Options) (name : List ℕ) (held : Option History) (refusal : TakeRefusal) (e : Ending) (free : refusal ≡ Take.There → ⊥) (gone : refusal ≡ Take.Missing → held ≡ None) where
  pub untaken_plays : (before after : ℕ) → (refusal ≡ Take.Failed → Rose before after) → Untaken name refusal e → PlaysCause options name held before after e
  untaken_plays before after rose is = of refusal free gone rose is
    where
      of : (r : TakeRefusal) → (r ≡ Take.There → ⊥) → (r ≡ Take.Missing → held ≡ None) → (r ≡ Take.Failed → Rose before after) → Untaken name r e → PlaysCause options name held before after e
      of Take.Missing free gone rose (inl is) = subst (PlaysCause options name held before after) (sym is) (plays_nowhere (gone refl))
      of Take.Missing free gone rose (inr is) = subst (PlaysCause options name held before after) (sym is) plays_wanting
      of Take.There free gone rose is = absurd (free refl)
      of Take.Failed free gone rose is = subst (PlaysCause options name held before after) (sym is) (plays_failed (rose refl))
      of Take.Memory free gone rose is = subst (PlaysCause options name held before after) (sym is) plays_wanting

  pub untaken_heard : (logs later : List Logged) → later ≡ logs → Untaken name refusal e → TurnsHeard options held e logs later
  untaken_heard logs later same is = of refusal free gone is
    where
      of : (r : TakeRefusal) → (r ≡ Take.There → ⊥) → (r ≡ Take.Missing → held ≡ None) → Untaken name r e → TurnsHeard options held e logs later
      of Take.Missing free gone is = subst (λ o. TurnsHeard options o e logs later) (sym (gone refl)) (same, untaken_unlogged name Take.Missing e is)
      of Take.There free gone is = absurd (free refl)
      of Take.Failed free gone is = subst (λ x. TurnsHeard options held x logs later) (sym is) (heard_nothing options held E.DeviceFault logs later tt same)
      of Take.Memory free gone is = subst (λ x. TurnsHeard options held x logs later) (sym is) (heard_nothing options held E.NoMemory logs later tt same)

  left_where : (given o : Option History) (x : Ending) → given ≡ o → ((h : History) → TurnsLeave options (Some h) x (Some h)) → TurnsLeave options o x given
  left_where given None x same at = same
  left_where given (Some h) x same at = subst (TurnsLeave options (Some h) x) (sym same) (at h)

  pub untaken_leaves : (given : Option History) → given ≡ held → Untaken name refusal e → TurnsLeave options held e given
  untaken_leaves given same is = of refusal free gone is
    where
      of : (r : TakeRefusal) → (r ≡ Take.There → ⊥) → (r ≡ Take.Missing → held ≡ None) → Untaken name r e → TurnsLeave options held e given
      of Take.Missing free gone is = subst (λ o. TurnsLeave options o e given) (sym (gone refl)) (same ∙ gone refl)
      of Take.There free gone is = absurd (free refl)
      of Take.Failed free gone is = subst (λ x. TurnsLeave options held x given) (sym is) (left_where given held E.DeviceFault same (λ h. (h, refl, tt)))
      of Take.Memory free gone is = subst (λ x. TurnsLeave options held x given) (sym is) (left_where given held E.NoMemory same (λ h. (h, refl, inl (inr refl))))

  pub untaken_writes : Untaken name refusal e → TurnsText options held e []
  untaken_writes is = of refusal free gone is
    where
      at_fault : (o : Option History) → TurnsText options o E.DeviceFault []
      at_fault None = refl
      at_fault (Some h) = inl refl

      at_memory : (o : Option History) → TurnsText options o E.NoMemory []
      at_memory None = refl
      at_memory (Some h) = inl refl

      of : (r : TakeRefusal) → (r ≡ Take.There → ⊥) → (r ≡ Take.Missing → held ≡ None) → Untaken name r e → TurnsText options held e []
      of Take.Missing free gone is = subst (λ o. TurnsText options o e []) (sym (gone refl)) refl
      of Take.There free gone is = absurd (free refl)
      of Take.Failed free gone is = subst (λ x. TurnsText options held x []) (sym is) (at_fault held)
      of Take.Memory free gone is = subst (λ x. TurnsText options held x []) (sym is) (at_memory held)

-- a text that isn't a script, read so far
pub bad_whole : (slice text more left : List ℕ) (refusal : ScriptRefusal) → slice ≡ text → left ≡ text ++ more → (more ≡ []) ⊎ (LONGEST_SCRIPT < length text) → NoScript slice refusal → IsUnscripted left (of_script refusal)
bad_whole slice text more left Unread.Memory same is end bad = tt
bad_whole slice text more left (Unread.Malformed at) same is (inl none) bad =
    let whole : left ≡ slice = is ∙ ap (λ m. text ++ m) none ∙ append-nil text ∙ sym same in
    subst (λ t. BadAt t at) (sym whole) bad
bad_whole slice text more left (Unread.Malformed at) same is (inr long) bad = subst (λ t. BadAt t at) (sym is) (stays_bad text more at long (subst (λ t. BadAt t at) same bad))

-- turns whose script was read
module _ (input : Input) (options : Options) (name : List ℕ) (held : Option History) (before after : ℕ) where
  by_plays : (e : Ending) → PlaysSo input options name held e → AskCause input (Turns options) name held before after e
  by_plays e so = inr (inr (inl (record { options = options; turns = refl; why = so })))

  pub plays_asked : (e : Ending) → IsScript input → PlaysCause options name held before after e → AskCause input (Turns options) name held before after e
  plays_asked _ script (plays_nowhere none) = by_plays (E.Missing name) (no_file script none)
  plays_asked _ script (plays_refused h refusal there right) = by_plays (E.Refused refusal) (file_refused h refusal script there right)
  plays_asked _ script (plays_opened h there opens) = by_plays (E.Replied Played) (file_opened h script there opens)
  plays_asked _ script (plays_failed rose) = inl (task_failed rose)
  plays_asked _ script plays_wanting = inl task_wanting
  plays_asked _ script plays_unlogged = inl task_unlogged

  -- and whose input has none
  pub unscripted_asked : (fault : ScriptFault) → (IsTrue input.tells → IsUnscripted input.text fault) → (fault ≡ Bad.Input → Rose input.faults_before input.faults_after) → AskCause input (Turns options) name held before after (unscripted fault)
  unscripted_asked Bad.Input bad rose = by_plays E.InputFault (script_unread (rose refl))
  unscripted_asked (Bad.Malformed at) bad rose = by_plays (E.Malformed at) (script_bad at bad)
  unscripted_asked Bad.Memory bad rose = inl task_wanting

pub unscripted_leaves : (options : Options) (held given : Option History) (fault : ScriptFault) → given ≡ held → TurnsLeave options held (unscripted fault) given
unscripted_leaves options None given fault same = same
unscripted_leaves options (Some h) given Bad.Input same = (h, same, refl)
unscripted_leaves options (Some h) given (Bad.Malformed at) same = (h, same, refl)
unscripted_leaves options (Some h) given Bad.Memory same = (h, same, inl (inr refl))

pub unscripted_writes : (options : Options) (held : Option History) (fault : ScriptFault) → TurnsText options held (unscripted fault) []
unscripted_writes options None fault = refl
unscripted_writes options (Some h) Bad.Input = refl
unscripted_writes options (Some h) (Bad.Malformed at) = refl
unscripted_writes options (Some h) Bad.Memory = inl refl

pub unscripted_heard : (before after : ℕ) (fault : ScriptFault) → (fault ≡ Bad.Input → Rose before after) → ((fault ≡ Bad.Input → ⊥) → after ≡ before) → HeardBy before after (unscripted fault)
unscripted_heard before after Bad.Input failed refused = record { failed = λ is. failed refl; told = inr (inl refl) }
unscripted_heard before after (Bad.Malformed at) failed refused = record { failed = λ is. (let wrong : E.Malformed at ≡ E.InputFault = is in cc); told = inl (refused (λ is. let wrong : Bad.Malformed at ≡ Bad.Input = is in cc)) }
unscripted_heard before after Bad.Memory failed refused = record { failed = λ is. (let wrong : E.NoMemory ≡ E.InputFault = is in cc); told = inl (refused (λ is. let wrong : Bad.Memory ≡ Bad.Input = is in cc)) }

pub all_asked : (options : Options) (input : Input) (output : Output) (logs later : List Logged) (plays : List Play) (old now : Option History) → (IsTrue input.tells → Script input.text plays)
    → PlayedAll options plays old now output.tells output.before output.after logs later → AllPlayed options input output logs later old now
all_asked options input output logs later plays old now script p =
    let on = p.4 in
    (p.0, p.1, p.2, p.3, record { opened = on.opened; is_opened = on.is_opened; found = on.found; mid = on.mid; counted = on.counted; heard = on.heard; plays = plays; script = script; whole = on.over })
