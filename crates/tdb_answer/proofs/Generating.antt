-- Generated commands on a new file: their report is lawful from the empty map on, and what their end gives.
use Rattle.std.proofs.Common.{◌≡◌, ◌≢◌, ℕ, ◌<◌, ◌≤◌, false, arith, List, [], length, Option, None, Some, Result, Ok, Err, refl, sym, ◌∙◌, ap, subst, inl, inr}
use Rattle.std.specs.Prelude.{Bool, IsTrue, IsSome, IfErr, IfOk, OnOk}
use Rattle.std.specs.FinMap.{empty, from_entries}
use Rattle.std.proofs.lemmas.Bool.{false≢true}
use Rattle.tdb_words.specs.Header.{sequence_at}
use Rattle.tdb_words.specs.Word.{word}
use Rattle.tdb_words.specs.declared.word.Order.TheVariants.{Little}
use Rattle.tdb_words.specs.declared.hash.HashKind.TheVariants.{Old}
use Rattle.tdb_disk.specs.Count.{Rose}
use Rattle.tdb_disk.specs.History.{History, seen, synced, called}
use Rattle.tdb_disk.specs.declared.files.TakeRefusal.{TakeRefusal}
use Rattle.tdb_disk.specs.declared.files.TakeRefusal.TheVariants as Take
use Rattle.tdb_disk.proofs.Runs.{quiet_synced}
use Rattle.tdb_space.specs.Accepted.{AcceptWith}
use Rattle.tdb_space.specs.Form.{Form}
use Rattle.tdb_space.specs.Pairs.{order_of}
use Rattle.tdb_law.specs.Beginning.{beginning}
use Rattle.tdb_law.specs.Images.{image_map}
use Rattle.tdb_law.specs.Lines.{IsLawful}
use Rattle.tdb_law.specs.Openers.{Map}
use Rattle.tdb_law.proofs.Joining.{course_lawful}
use Rattle.tdb_law.proofs.Plainly.{beginning_lawful}
use Rattle.tdb_log.specs.Logs.{Logged}
use Rattle.tdb_log.specs.declared.log.LogRefusal.TheVariants as Unheard
use Rattle.tdb_commands.specs.InLaw.{law_plays, law_lines, options_of}
use Rattle.tdb_commands.specs.declared.options.Options.{Options}
use Rattle.tdb_world.proofs.Courses.Coming.{whole_comes}
use Rattle.tdb_gen.proofs.Takings.{heard_whole}
use Rattle.tdb_gen.specs.Generated.{Generated as IsLoad, GeneratedOver, HasFile}
use Rattle.tdb_gen.specs.Summary.{summary_text}
use Rattle.tdb_gen.specs.Plays.{gen_plays}
use Rattle.tdb_gen.specs.Taking.{UnlessIo}
use Rattle.tdb_gen.specs.declared.fault.GenFault.{GenFault}
use Rattle.tdb_gen.specs.declared.fault.GenFault.TheVariants as F
use Rattle.tdb_gen.specs.declared.summary.Summary.{Summary}
use Rattle.tdb_answer.specs.declared.ending.Ending.{Ending}
use Rattle.tdb_answer.specs.declared.ending.Ending.TheVariants as E
use Rattle.tdb_answer.specs.declared.ending.Reply.TheVariants as Reply
use Rattle.tdb_cmdline.specs.declared.limits.TheConstants.{DEFAULT_SIZE}
use Rattle.tdb_disk.specs.declared.disk.Disk.{Ghosts}
use Rattle.tdb_open.specs.Creating.{new_length, IsNewFile}
use Rattle.tdb_open.specs.declared.creating.NewForm.{NewForm}
use Rattle.tdb_world.specs.declared.creating.CreateRefusal.{CreateRefusal}
use Rattle.tdb_world.specs.declared.creating.CreateRefusal.TheVariants as Refused
use Rattle.tdb_world.specs.OverFiles.Opening.{IsNotMade}
use Rattle.tdb_answer.specs.Commands.Generate.{gen_options, new_file, HeardBroken, FilledSo, of_gen, all_done, GenLeaves, GenHeard}
use Rattle.tdb_answer.specs.Commands.Restore.{new_form, of_input}
use Rattle.tdb_answer.specs.Ending.{task_failed, task_wanting, task_unlogged, Untaken, CountedIf}
use Rattle.tdb_answer.specs.Reads.{GenCause}

-- a new file holds no key, and its sequence number is 0
no_keys : (img : List ℕ) → IsNewFile DEFAULT_SIZE Little Old img → image_map new_form img ≡ empty
no_keys img file = ap from_entries (subst (λ f. order_of f img ≡ []) file.form file.empty)

no_number : word Little new_file sequence_at ≡ 0
unfolding word
no_number = refl

-- the report of generated commands is lawful from the map of their first image on
report : (f : Form) (options : Options) (a b : List ℕ) (commands seed : ℕ) (s : Summary) (p : IsLoad f options a commands seed b s) → IsLawful f (beginning (options_of options) (image_map f a) (word f.order a sequence_at)) (law_lines p.lines)
report f options a b commands seed s p =
    let begun = beginning_lawful f p.first (options_of options) p.begins.loaded in
    subst (λ (q : Map × ℕ). IsLawful f (beginning (options_of options) q.0 q.1) (law_lines p.lines)) (λ j. (p.begins.file.file j, p.begins.file.number j))
    (course_lawful f p.first p.last (law_plays (gen_plays commands seed)) (law_lines p.lines) (beginning (options_of options) p.first.file p.first.number) begun.0 begun.1 p.course).lawful

-- over another image that is the same
abbrev moved : (f : Form) (options : Options) (a b c : List ℕ) (commands seed : ℕ) (s : Summary) → c ≡ b → IsLoad f options a commands seed b s → IsLoad f options a commands seed c s
moved f options a b c commands seed s e p = record {
  first = p.first;
  begins = p.begins;
  last = p.last;
  file = subst (λ img. HasFile f img p.last) (sym e) p.file;
  lines = p.lines;
  course = p.course;
  done = p.done;
  accepted = subst (λ img. AcceptWith f img []) (sym e) p.accepted;
  commands = p.commands;
  counts = p.counts;
  live = subst (λ img. s.live ≡ length (order_of f img)) (sym e) p.live;
  size = subst (λ img. s.length ≡ length img) (sym e) p.size;
}

-- a file of this form that may be so long isn't made only where a call of the disk failed
pub not_made : {D : Type 0} (g : Ghosts D) (form : NewForm) (options : Options) (old now : D) (refusal : CreateRefusal) → new_length form ≤ options.limit → IsNotMade g form options old now refusal → refusal ≡ Refused.Device
not_made g form options old now Refused.Device short N = refl
not_made g form options old now (Refused.TooLong len) short N = (let long = N.too_long len refl in absurd (omega (arith, short, long.0, long.1)))

module _ (commands seed : ℕ) where
  module _ (logs later : List Logged) where
    -- a sync puts what they did on the medium
    pub filled_synced : (s : Summary) (text : List ℕ) (old now : History) → text ≡ summary_text s → IsNewFile DEFAULT_SIZE Little Old new_file → GeneratedOver new_form gen_options new_file commands seed (seen old) logs later (Ok s) → now ≡ called old synced
        → FilledSo commands seed now logs later (Ok text)
    filled_synced s text old now is file (load, heard) done =
        let p = moved new_form gen_options new_file (seen old) (seen now) commands seed s (ap seen done) load in (
          s,
          is,
          record {
            generated = p;
            lawful = subst (λ (q : Map × ℕ). IsLawful new_form (beginning (options_of gen_options) q.0 q.1) (law_lines p.lines)) (λ j. (no_keys new_file file j, no_number j)) (report new_form gen_options new_file (seen now) commands seed s p);
            quiet = quiet_synced old now done;
          },
          heard,
        )

    -- where they weren't all done
    pub filled_broken : (e : GenFault) (now : History) → GeneratedOver new_form gen_options new_file commands seed (seen now) logs later (Err e) → FilledSo commands seed now logs later (Err e)
    filled_broken F.Io now broken = inr broken
    filled_broken F.Memory now (last, file, came) = (last, came)
    filled_broken F.Log now (last, file, came) = (last, came)

    -- they were, and then something else failed
    pub done_broken : (fault : GenFault) → (fault ≡ F.Log → ⊥) → (s : Summary) (img : List ℕ) → GeneratedOver new_form gen_options new_file commands seed img logs later (Ok s) → HeardBroken commands seed fault logs later
    done_broken fault apart s img (load, heard) = (
      load.last,
      record {
        first = load.first;
        begins = load.begins;
        lines = load.lines;
        came = whole_comes new_form (law_plays (gen_plays commands seed)) load.first load.last (law_lines load.lines) load.course;
        heard = heard_whole fault logs later load.lines apart heard;
      },
    )

    -- they were, and then the text was made and the file synced, or one of these failed
    pub done_finished : (s : Summary) (old now : History) (r : Result (List ℕ) GenFault) → IfOk r (λ text. text ≡ summary_text s) → OnOk r (now ≡ called old synced) → IfErr r (λ e. e ≢ F.Log)
        → IsNewFile DEFAULT_SIZE Little Old new_file → GeneratedOver new_form gen_options new_file commands seed (seen old) logs later (Ok s) → FilledSo commands seed now logs later r
    done_finished s old now (Ok text) is done apart file over = filled_synced s text old now is file over done
    done_finished s old now (Err F.Io) is done apart file over = inr (done_broken F.Io (λ e. cc) s (seen old) over)
    done_finished s old now (Err F.Memory) is done apart file over = done_broken F.Memory (λ e. cc) s (seen old) over
    done_finished s old now (Err F.Log) is done apart file over = absurd (apart refl)

    -- what logs heard, by the ending
    pub done_heard : (text : List ℕ) (now : History) (given : Option History) → given ≡ Some now → FilledSo commands seed now logs later (Ok text) → GenHeard commands seed given (E.Replied (Reply.Generated text)) logs later
    done_heard text now given is (s, told, g, heard) = (s, now, ap Reply.Generated told, is, g, heard)

    pub broken_heard : (fault : GenFault) (e : Ending) (now : History) (given : Option History) → e ≡ of_gen fault → FilledSo commands seed now logs later (Err fault) → GenHeard commands seed given e logs later
    broken_heard F.Io e now given is filled = subst (λ x. GenHeard commands seed given x logs later) (sym is) filled
    broken_heard F.Memory e now given is filled = subst (λ x. GenHeard commands seed given x logs later) (sym is) (inr filled)
    broken_heard F.Log e now given is filled = subst (λ x. GenHeard commands seed given x logs later) (sym is) filled

    -- and where the file couldn't be removed then
    pub kept_heard : (fault : GenFault) (now : History) (given : Option History) → FilledSo commands seed now logs later (Err fault) → GenHeard commands seed given E.DeviceFault logs later
    kept_heard F.Io now given filled = filled
    kept_heard F.Memory now given (last, came) = inr (last, record { first = came.first; begins = came.begins; lines = came.lines; came = came.came; heard = came.heard })
    kept_heard F.Log now given (last, came) = inr (last, record { first = came.first; begins = came.begins; lines = came.lines; came = came.came; heard = inr (Unheard.Failed, came.heard) })

    pub untaken_heard : (name : List ℕ) (given : Option History) (refusal : TakeRefusal) (e : Ending) → later ≡ logs → (refusal ≡ Take.Missing → ⊥) → Untaken name refusal e → GenHeard commands seed given e logs later
    untaken_heard name given Take.Missing e same other is = absurd (other refl)
    untaken_heard name given Take.There e same other (inl is) = subst (λ x. GenHeard commands seed given x logs later) (sym is) same
    untaken_heard name given Take.There e same other (inr is) = subst (λ x. GenHeard commands seed given x logs later) (sym is) (inl same)
    untaken_heard name given Take.Failed e same other is = subst (λ x. GenHeard commands seed given x logs later) (sym is) (inl same)
    untaken_heard name given Take.Memory e same other is = subst (λ x. GenHeard commands seed given x logs later) (sym is) (inl same)

  module _ (name : List ℕ) (held : Option History) (before after : ℕ) where
    abbrev Cause : Ending → Type 0
    Cause e = GenCause commands seed name held before after e

    -- all of them were done, or not
    pub done_cause : held ≡ None → (text : List ℕ) (now : History) (logs later : List Logged) → FilledSo commands seed now logs later (Ok text) → Cause (E.Replied (Reply.Generated text))
    done_cause fresh text now logs later filled = inr (fresh, all_done filled.0 (seen now) (ap (λ t. E.Replied (Reply.Generated t)) filled.1) filled.2.generated)

    pub broken_cause : (fault : GenFault) (e : Ending) → e ≡ of_gen fault → (fault ≡ F.Io → Rose before after) → Cause e
    broken_cause F.Io e is rose = subst Cause (sym is) (inl (task_failed (rose refl)))
    broken_cause F.Memory e is rose = subst Cause (sym is) (inl task_wanting)
    broken_cause F.Log e is rose = subst Cause (sym is) (inl task_unlogged)

  -- what is left
  pub done_left : (held given : Option History) (text : List ℕ) (now : History) (logs later : List Logged) → held ≡ None → given ≡ Some now → FilledSo commands seed now logs later (Ok text) → GenLeaves commands seed held (E.Replied (Reply.Generated text)) given
  done_left held given text now logs later fresh is filled = (filled.0, ap Reply.Generated filled.1, (now, fresh, is, filled.2))

  pub broken_left : (held given : Option History) (fault : GenFault) (e : Ending) → held ≡ None → given ≡ None → e ≡ of_gen fault → GenLeaves commands seed held e given
  broken_left held given fault e fresh gone is = subst (λ x. GenLeaves commands seed held x given) (sym is) (of fault)
    where
      of : (fault : GenFault) → GenLeaves commands seed held (of_gen fault) given
      of F.Io = λ some. gone ∙ sym fresh
      of F.Memory = gone ∙ sym fresh
      of F.Log = gone ∙ sym fresh

  pub failed_left : (held given : Option History) → held ≡ None → GenLeaves commands seed held E.DeviceFault given
  failed_left held given fresh some = absurd (false≢true (subst IsSome fresh some))

  pub untaken_left : (name : List ℕ) (held given : Option History) (refusal : TakeRefusal) (e : Ending) → given ≡ held → (refusal ≡ Take.Missing → ⊥) → Untaken name refusal e → GenLeaves commands seed held e given
  untaken_left name held given Take.Missing e same other is = absurd (other refl)
  untaken_left name held given Take.There e same other (inl is) = subst (λ x. GenLeaves commands seed held x given) (sym is) same
  untaken_left name held given Take.There e same other (inr is) = subst (λ x. GenLeaves commands seed held x given) (sym is) same
  untaken_left name held given Take.Failed e same other is = subst (λ x. GenLeaves commands seed held x given) (sym is) (λ some. same)
  untaken_left name held given Take.Memory e same other is = subst (λ x. GenLeaves commands seed held x given) (sym is) same

-- the endings of commands that weren't all done
pub broken_asked : (fault : GenFault) (e : Ending) → e ≡ of_gen fault → e ≡ E.Usage → ⊥
broken_asked F.Io e is usage = let wrong : E.DeviceFault ≡ E.Usage = sym is ∙ usage in cc
broken_asked F.Memory e is usage = let wrong : E.NoMemory ≡ E.Usage = sym is ∙ usage in cc
broken_asked F.Log e is usage = let wrong : E.LogFault ≡ E.Usage = sym is ∙ usage in cc

pub broken_unread : (fault : GenFault) (e : Ending) → e ≡ of_gen fault → of_input e ≡ false
broken_unread F.Io e is = ap of_input is
broken_unread F.Memory e is = ap of_input is
broken_unread F.Log e is = ap of_input is

-- how often the disk had failed where they weren't all done
pub broken_counted : (tells : Bool) (start last : ℕ) (fault : GenFault) (e : Ending) → e ≡ of_gen fault → start ≤ last → (IsTrue tells → fault ≡ F.Io → Rose start last) → UnlessIo {V = List ℕ} (Err fault) (last ≡ start) → CountedIf tells start last e
broken_counted tells start last F.Io e is low rose quiet = record { never_falls = low; failed = λ device told. rose told refl; sound = λ other. absurd (other is) }
broken_counted tells start last F.Memory e is low rose quiet = record { never_falls = low; failed = λ device. (let wrong : E.NoMemory ≡ E.DeviceFault = sym is ∙ device in cc); sound = λ other. quiet }
broken_counted tells start last F.Log e is low rose quiet = record { never_falls = low; failed = λ device. (let wrong : E.LogFault ≡ E.DeviceFault = sym is ∙ device in cc); sound = λ other. quiet }

-- how often the files had, by how often the disk had that was taken and given back
pub given_counted : (tells : Bool) (before mid now start last : ℕ) (e : Ending) → mid ≡ before → start ≡ 0 → CountedIf tells start last e → (last ≡ 0 → now ≡ mid) → (0 < last → Rose mid now) → mid ≤ now → CountedIf tells before now e
given_counted tells before mid now start last e took fresh counted sound faulty later = record {
  never_falls = omega (arith, took, later);
  failed = λ is told.
      (let rose = counted.failed is told in
      let some : 0 < last = omega (arith, rose, fresh) in
      subst (λ n. Rose n now) took (faulty some));
  sound = λ other. sound (counted.sound other ∙ fresh) ∙ took;
}
