-- A walk of `clap` over plain words is refused where the line has no reading, and shows the line elsewhere.
use Rattle.std.proofs.Common.{◌≡◌, ◌⊎◌, Bool, true, false, List, [], ◌∷◌, ◌++◌, Option, Some, None, refl, sym, ◌∙◌, ap, ap₂, subst, inl, inr, option_and_then, fold}
use Rattle.std.proofs.lemmas.Bool.{cases_Bool, false≢true, and_parts}
use Rattle.tdb_space.specs.Pairs.{same_key}
use Rattle.tdb_space.proofs.Pairs.Maps.{same_key-eq}
use Rattle.clap.specs.Words.{Row}
use Rattle.clap.specs.Kinds.{Kinds, or_else}
use Rattle.clap.specs.Walk.{Walk, Waiting, arg_by_id, idle, option, positional, walked, used, settled}
use Rattle.clap.specs.Faults.{turn_fault, walk_fault, settle_fault}
use Rattle.tdb_cmdline.specs.declared.options.Command.{Command}
use Rattle.tdb_cmdline.specs.declared.options.Kind.{Kind}
use Rattle.tdb_cmdline.specs.declared.options.Kind.TheVariants.{Valued, Flag}
use Rattle.tdb_cmdline.specs.declared.options.GivenOption.{GivenOption}
use Rattle.tdb_cmdline.specs.declared.options.Line.{Line}
use Rattle.tdb_cmdline.specs.Options.{Reading, options_of, kind_of, is_given, with_option, with_option_word, with_word, with_words, whole}
use Rattle.tdb_cmdline.specs.Words.{is_short, is_option}
use Rattle.tdb_cmdline.specs.Clap.{positions_id, all_plain, is_plain}
use Rattle.tdb_cmdline.proofs.Clap.Rules.{option_rule, rules, shape, is_name, names, named, by_id, by_positions_id}
use Rattle.tdb_cmdline.proofs.Clap.Words.{Text, fails, fails_first, fails_second, IsIdle, stands, settling, settled_with, Says, Uses, trailing_word, plain_word, end_word, value_word}
use Rattle.tdb_cmdline.proofs.Clap.Rows.{Shows, shows_position, shows_use, first_use, second_use, values_fit, value_of_use}
use Rattle.tdb_cmdline.proofs.Clap.Views.{OptionWord, PositionWord, view, says}

abbrev pub dashes : Text
dashes = 45 ∷ 45 ∷ []

abbrev pub reading_at : List GivenOption → List Text → Option Text → Bool → Reading
reading_at os ps waiting ended = record { options = os; positions = ps; waiting = waiting; ended = ended }

-- what plain words are one by one
plain_trailing : (word : Text) (words : List Text) → all_plain true (word ∷ words) ≡ true → (is_short word ≡ true) × (all_plain true words ≡ true)
plain_trailing word words plain = elim (cases_Bool (is_short word)) [
  | inl short ↦ (short, rw short at plain)
  | inr long ↦ absurd (false≢true (rw long at plain))
]

abbrev IsPlainNext : Text → List Text → Type 0
IsPlainNext word words = ((word ≡ dashes) × (all_plain true words ≡ true)) ⊎ ((same_key word dashes ≡ false) × (is_plain word ≡ true) × (all_plain false words ≡ true))

plain_next : (word : Text) (words : List Text) → all_plain false (word ∷ words) ≡ true → (is_short word ≡ true) × IsPlainNext word words
plain_next word words plain = elim (cases_Bool (is_short word)) [
  | inr long ↦ absurd (false≢true (rw long at plain))
  | inl short ↦ (
    short,
    elim (cases_Bool (same_key word dashes)) [
      | inl end ↦ inl (same_key-eq word dashes end, rw (short, end) at plain)
      | inr apart ↦
          let parts = and_parts (is_plain word) (all_plain false words) (rw (short, apart) at plain) in
          inr (apart, parts.0, parts.1)
    ],
  )
]

module _ (command : Command) where
  abbrev pub run_fault : Walk → List Text → Kinds
  run_fault w words = or_else (walk_fault (shape (options_of command)) [] w words) (settle_fault (rules (options_of command)) false (fold (walked (rules (options_of command)) []) w words).held)

  abbrev pub run_rows : Walk → List Text → List Row
  run_rows w words = (settled (rules (options_of command)) (fold (walked (rules (options_of command)) []) w words).held).rows

  abbrev turn : Walk → Text → Kinds
  turn w word = turn_fault (shape (options_of command)) [] w word

  abbrev after : Walk → Text → Walk
  after w word = walked (rules (options_of command)) [] w word

  abbrev pub settling_now : List Row → Option (Text × List Text) → Kinds
  settling_now rows pending = settling (options_of command) (names command) rows pending

  turn_fails : (w : Walk) (word : Text) (words : List Text) → fails (turn w word) ≡ true → fails (run_fault w (word ∷ words)) ≡ true
  unfolding walk_fault
  turn_fails w word words f = fails_first _ _ (fails_first (turn w word) (walk_fault (shape (options_of command)) [] (after w word) words) f)

  turn_passes : (w : Walk) (word : Text) (words : List Text) → turn w word ≡ [] → run_fault w (word ∷ words) ≡ run_fault (after w word) words
  unfolding walk_fault
  turn_passes w word words none = rw none refl

  no_words : (w : Walk) → run_fault w [] ≡ settle_fault (rules (options_of command)) false w.held
  unfolding walk_fault
  no_words w = refl

  -- ---- a use that is refused once it is settled

  record Doomed (ended : Bool) (w : Walk) : Type 0 where
    rows : List Row
    pending : Option (Text × List Text)
    waiting : Waiting
    at : w ≡ stands rows pending waiting ended
    fault : fails (settling_now rows pending) ≡ true
    takes : (ended ≡ true) ⊎ IsIdle waiting

  says_fails : (rows : List Row) (pending : Option (Text × List Text)) (k : Option Kind) (name : Text) (v : Option Text) (f : Kinds) (n : Walk) → fails (settling_now rows pending) ≡ true
      → Says (options_of command) (names command) rows pending k name v f n → fails f ≡ true
  says_fails rows pending (Some Valued) name None f n doomed said = ap fails said.0 ∙ doomed
  says_fails rows pending (Some Valued) name (Some v) f n doomed said = ap fails said.0 ∙ fails_first _ _ doomed
  says_fails rows pending (Some Flag) name None f n doomed said = ap fails said.0 ∙ fails_first _ _ doomed
  says_fails rows pending (Some Flag) name (Some v) f n doomed said = said
  says_fails rows pending None name v f n doomed said = said

  doomed_word : (w : Walk) (word : Text) → Doomed false w → is_plain word ≡ true → same_key word dashes ≡ false → fails (turn w word) ≡ true
  doomed_word w word d plain apart = subst (λ u. fails (turn u word) ≡ true) (sym d.at) (elim (view command word plain) [
    | inl end ↦ absurd (false≢true (sym apart ∙ ap (λ t. same_key t dashes) end))
    | inr (inl p) ↦ ap fails (plain_word (options_of command) (names command) d.rows d.pending word d.waiting (idle_of d.takes) p.no_end p.no_long p.no_short).0 ∙ d.fault
    | inr (inr p) ↦ says_fails d.rows d.pending (kind_of command p.use_of.name) p.use_of.name p.use_of.value _ _ d.fault (p.use_of.said d.rows d.pending d.waiting)
  ])
    where
      idle_of : ((false ≡ true) ⊎ IsIdle d.waiting) → IsIdle d.waiting
      idle_of (inl e) = absurd (false≢true e)
      idle_of (inr i) = i

  doomed_end : (w : Walk) → Doomed false w → (turn w dashes ≡ []) × Doomed true (after w dashes)
  doomed_end w d =
      let step = end_word (options_of command) (names command) d.rows d.pending d.waiting in
      (ap (λ u. turn u dashes) d.at ∙ step.0, record { rows = d.rows; pending = d.pending; waiting = d.waiting; at = ap (λ u. after u dashes) d.at ∙ step.1; fault = d.fault; takes = inl refl })

  doomed_run : (words : List Text) (ended : Bool) (w : Walk) → Doomed ended w → all_plain ended words ≡ true → fails (run_fault w words) ≡ true
  doomed_run [] ended w d plain = ap fails (no_words w ∙ ap (λ u. settle_fault (rules (options_of command)) false u.held) d.at) ∙ d.fault
  doomed_run (word ∷ words) true w d plain =
      turn_fails w word words (ap fails (ap (λ u. turn u word) d.at ∙ (trailing_word (options_of command) (names command) d.rows d.pending word d.waiting).0) ∙ d.fault)
  doomed_run (word ∷ words) false w d plain = elim (plain_next word words plain).1 [
    | inl p ↦
        let step = doomed_end w d in
        subst (λ t. fails (run_fault w (t ∷ words)) ≡ true) (sym p.0) (ap fails (turn_passes w dashes words step.0) ∙ doomed_run words true (after w dashes) step.1 p.1)
    | inr p ↦ turn_fails w word words (doomed_word w word d p.1 p.0)
  ]

  -- ---- the line and the walk

  -- no option waits for its value
  pub record Idles (os : List GivenOption) (ps : List Text) (ended : Bool) (w : Walk) : Type 0 where
    pub rows : List Row
    pub pending : Option (Text × List Text)
    pub waiting : Waiting
    pub is_idle : IsIdle waiting
    pub at : w ≡ stands rows pending waiting ended
    pub settles : settling_now rows pending ≡ []
    pub shows : Shows command os ps (settled_with (options_of command) (names command) rows pending)

  pub record Waiting_for (name : Text) (os : List GivenOption) (ps : List Text) (w : Walk) : Type 0 where
    pub rows : List Row
    pub at : w ≡ stands rows (Some (name, [])) (option name) false
    pub known : kind_of command name ≡ Some Valued
    pub shows : Shows command os ps rows

  abbrev pub Sees : Option Text → List GivenOption → List Text → Bool → Walk → Type 0
  Sees None os ps ended w = Idles os ps ended w
  Sees (Some name) os ps ended w = (ended ≡ false) × Waiting_for name os ps w

  abbrev pub line_after : Reading → List Text → Option Line
  line_after reading words = option_and_then (λ r. whole r.waiting r) (with_words command reading words)

  abbrev pub Agrees : Option Line → Kinds → List Row → Type 0
  Agrees None f rows = fails f ≡ true
  Agrees (Some line) f rows = (f ≡ []) × Shows command line.options line.positions rows

  abbrev pub Run : Reading → Walk → List Text → Type 0
  Run reading w words = Agrees (line_after reading words) (run_fault w words) (run_rows w words)

  stops : (reading : Reading) (w : Walk) (word : Text) (words : List Text) → with_word command reading word ≡ None → fails (run_fault w (word ∷ words)) ≡ true → Run reading w (word ∷ words)
  stops reading w word words none f = rw none f

  goes_on : (reading after_it : Reading) (w : Walk) (word : Text) (words : List Text) → with_word command reading word ≡ Some after_it → turn w word ≡ []
      → Run after_it (after w word) words → Run reading w (word ∷ words)
  goes_on reading after_it w word words some none rest = rw (some, turn_passes w word words none) rest

  lacks_value : (rows : List Row) (name : Text) → kind_of command name ≡ Some Valued → fails (settling_now rows (Some (name, []))) ≡ true
  lacks_value rows name known = rw (by_id (options_of command) name Valued (named (options_of command) name Valued (names command) known) known) refl

  -- a position
  position_seen : (os : List GivenOption) (ps : List Text) (ended : Bool) (rows : List Row) (word : Text) (w : Walk) → Shows command os ps rows
      → w ≡ stands rows (Some (positions_id, word ∷ [])) positional ended → Idles os (ps ++ word ∷ []) ended w
  position_seen os ps ended rows word w shows at = record {
    rows = rows;
    pending = Some (positions_id, word ∷ []);
    waiting = positional;
    is_idle = tt;
    at = at;
    settles = rw (by_positions_id (options_of command) (names command)) refl;
    shows = rw (by_positions_id (options_of command) (names command)) (shows_position command os ps rows _ word shows);
  }

  trailing_step : (os : List GivenOption) (ps : List Text) (w : Walk) (word : Text) → Idles os ps true w → (turn w word ≡ []) × Idles os (ps ++ word ∷ []) true (after w word)
  trailing_step os ps w word i =
      let step = trailing_word (options_of command) (names command) i.rows i.pending word i.waiting in
      (ap (λ u. turn u word) i.at ∙ step.0 ∙ i.settles, position_seen os ps true (settled_with (options_of command) (names command) i.rows i.pending) word (after w word) i.shows (ap (λ u. after u word) i.at ∙ step.1))

  position_step : (os : List GivenOption) (ps : List Text) (w : Walk) (word : Text) → Idles os ps false w → PositionWord command word → (turn w word ≡ []) × Idles os (ps ++ word ∷ []) false (after w word)
  position_step os ps w word i p =
      let step = plain_word (options_of command) (names command) i.rows i.pending word i.waiting i.is_idle p.no_end p.no_long p.no_short in
      (ap (λ u. turn u word) i.at ∙ step.0 ∙ i.settles, position_seen os ps false (settled_with (options_of command) (names command) i.rows i.pending) word (after w word) i.shows (ap (λ u. after u word) i.at ∙ step.1))

  -- `--`
  end_step : (os : List GivenOption) (ps : List Text) (w : Walk) → Idles os ps false w → (turn w dashes ≡ []) × Idles os ps true (after w dashes)
  end_step os ps w i =
      let step = end_word (options_of command) (names command) i.rows i.pending i.waiting in
      (ap (λ u. turn u dashes) i.at ∙ step.0, record { rows = i.rows; pending = i.pending; waiting = i.waiting; is_idle = i.is_idle; at = ap (λ u. after u dashes) i.at ∙ step.1; settles = i.settles; shows = i.shows })

  -- an option word
  abbrev Stepped : Option Reading → Kinds → Walk → Type 0
  Stepped None f n = fails f ≡ true
  Stepped (Some reading) f n = (f ≡ []) × Sees reading.waiting reading.options reading.positions reading.ended n × (reading.ended ≡ false)

  use_step : (os : List GivenOption) (ps : List Text) (rows : List Row) (pending : Option (Text × List Text)) (k : Kind) (name : Text) (values : List Text) (f : Kinds) (n : Walk)
      → values_fit k values → kind_of command name ≡ Some k → settling_now rows pending ≡ [] → Shows command os ps (settled_with (options_of command) (names command) rows pending)
      → Uses (options_of command) (names command) rows pending k name values f n → Stepped (with_option (reading_at os ps None false) name (value_of_use values)) f n
  use_step os ps rows pending k name values f n fit known settles shows uses = elim (cases_Bool (is_given name os)) [
    | inl before ↦ rw before (ap fails uses.0 ∙ fails_second (settling_now rows pending) _ (second_use name (settled_with (options_of command) (names command) rows pending) k values fit (shows.met name is ∙ before)))
    | inr new ↦
        let none = shows.met name is ∙ new in
        rw new (
          uses.0 ∙ ap₂ or_else settles (first_use name (settled_with (options_of command) (names command) rows pending) k values fit none),
          record {
            rows = used (option_rule name k) values (settled_with (options_of command) (names command) rows pending);
            pending = None;
            waiting = idle;
            is_idle = tt;
            at = uses.1;
            settles = refl;
            shows = shows_use command os ps (settled_with (options_of command) (names command) rows pending) name k values fit is known none shows;
          },
          refl,
        )
  ]
    where
      is : is_name name ≡ true
      is = named (options_of command) name k (names command) known

  said_step : (os : List GivenOption) (ps : List Text) (rows : List Row) (pending : Option (Text × List Text)) (k : Option Kind) (name : Text) (v : Option Text) (f : Kinds) (n : Walk)
      → kind_of command name ≡ k → settling_now rows pending ≡ [] → Shows command os ps (settled_with (options_of command) (names command) rows pending)
      → Says (options_of command) (names command) rows pending k name v f n → Stepped (says k name v (reading_at os ps None false)) f n
  said_step os ps rows pending (Some Valued) name None f n known settles shows said = (said.0 ∙ settles, (refl, record { rows = settled_with (options_of command) (names command) rows pending; at = said.1; known = known; shows = shows }), refl)
  said_step os ps rows pending (Some Valued) name (Some v) f n known settles shows said = use_step os ps rows pending Valued name (v ∷ []) f n tt known settles shows said
  said_step os ps rows pending (Some Flag) name None f n known settles shows said = use_step os ps rows pending Flag name [] f n tt known settles shows said
  said_step os ps rows pending (Some Flag) name (Some v) f n known settles shows said = said
  said_step os ps rows pending None name v f n known settles shows said = said

  option_step : (os : List GivenOption) (ps : List Text) (w : Walk) (word : Text) → Idles os ps false w → (o : OptionWord command word)
      → Stepped (with_option_word (kind_of command word) command (reading_at os ps None false) word) (turn w word) (after w word)
  option_step os ps w word i o =
      subst (λ u. Stepped (with_option_word (kind_of command word) command (reading_at os ps None false) word) (turn u word) (after u word)) (sym i.at)
      (rw (o.reading (reading_at os ps None false)) (said_step os ps i.rows i.pending (kind_of command o.name) o.name o.value _ _ refl i.settles i.shows (o.said i.rows i.pending i.waiting)))

  -- the value of the option before it: it is taken, or refused once it is settled
  value_at : (os : List GivenOption) (ps : List Text) (w : Walk) (word : Text) (words : List Text) (name : Text) (g : Waiting_for name os ps w) → is_short word ≡ true → PositionWord command word → all_plain false words ≡ true
      → ((o : List GivenOption) → Idles o ps false (after w word) → Run (reading_at o ps None false) (after w word) words)
      → Run (reading_at os ps (Some name) false) w (word ∷ words)
  value_at os ps w word words name g short p plain rest = elim (cases_Bool (is_given name os)) [
    | inl before ↦
        stops (reading_at os ps (Some name) false) w word words (rw (short, p.no_option, before) refl)
        (ap fails (turn_passes w word words passes) ∙ doomed_run words false (after w word) (record {
          rows = g.rows;
          pending = Some (name, word ∷ []);
          waiting = idle;
          at = at;
          fault = rw rule (second_use name g.rows Valued (word ∷ []) tt (g.shows.met name is ∙ before));
          takes = inr tt;
        }) plain)
    | inr new ↦
        let none = g.shows.met name is ∙ new in
        goes_on (reading_at os ps (Some name) false) (reading_at (os ++ record { name = name; value = Some word } ∷ []) ps None false) w word words (rw (short, p.no_option, new) refl) passes
        (rest (os ++ record { name = name; value = Some word } ∷ []) (record {
          rows = g.rows;
          pending = Some (name, word ∷ []);
          waiting = idle;
          is_idle = tt;
          at = at;
          settles = rw rule (first_use name g.rows Valued (word ∷ []) tt none);
          shows = rw rule (shows_use command os ps g.rows name Valued (word ∷ []) tt is g.known none g.shows);
        }))
  ]
    where
      is : is_name name ≡ true
      is = named (options_of command) name Valued (names command) g.known

      rule : arg_by_id (rules (options_of command)) name ≡ Some (option_rule name Valued)
      rule = by_id (options_of command) name Valued is g.known

      passes : turn w word ≡ []
      passes = ap (λ u. turn u word) g.at ∙ (value_word (options_of command) (names command) g.rows name word g.known p.no_end p.no_long p.no_short).0

      at : after w word ≡ stands g.rows (Some (name, word ∷ [])) idle false
      at = ap (λ u. after u word) g.at ∙ (value_word (options_of command) (names command) g.rows name word g.known p.no_end p.no_long p.no_short).1

  -- no value for the option before it
  no_value_at : (os : List GivenOption) (ps : List Text) (w : Walk) (word : Text) (words : List Text) (name : Text) (g : Waiting_for name os ps w) → is_short word ≡ true → is_option word ≡ true
      → fails (run_fault w (word ∷ words)) ≡ true → Run (reading_at os ps (Some name) false) w (word ∷ words)
  no_value_at os ps w word words name g short is f = stops (reading_at os ps (Some name) false) w word words (rw (short, is) refl) f

  waits_doomed : (os : List GivenOption) (ps : List Text) (w : Walk) (name : Text) → Waiting_for name os ps w → (turn w dashes ≡ []) × Doomed true (after w dashes)
  waits_doomed os ps w name g =
      let step = end_word (options_of command) (names command) g.rows (Some (name, [])) (option name) in
      (ap (λ u. turn u dashes) g.at ∙ step.0, record { rows = g.rows; pending = Some (name, []); waiting = option name; at = ap (λ u. after u dashes) g.at ∙ step.1; fault = lacks_value g.rows name g.known; takes = inl refl })

  -- all words
  run_use : (reading : Option Reading) (os : List GivenOption) (ps : List Text) (w : Walk) (word : Text) (words : List Text) → with_word command (reading_at os ps None false) word ≡ reading → Stepped reading (turn w word) (after w word)
      → ((r : Reading) → Sees r.waiting r.options r.positions r.ended (after w word) → r.ended ≡ false → Run r (after w word) words)
      → Run (reading_at os ps None false) w (word ∷ words)
  run_use None os ps w word words is step rest = stops (reading_at os ps None false) w word words is (turn_fails w word words step)
  run_use (Some r) os ps w word words is step rest = goes_on (reading_at os ps None false) r w word words is step.0 (rest r step.1 step.2)

  pub run : (words : List Text) (os : List GivenOption) (ps : List Text) (o : Option Text) (ended : Bool) (w : Walk) → Sees o os ps ended w → all_plain ended words ≡ true
      → Run (reading_at os ps o ended) w words
  run [] os ps None ended w i plain = (
    no_words w ∙ ap (λ u. settle_fault (rules (options_of command)) false u.held) i.at ∙ i.settles,
    subst (λ u. Shows command os ps (settled (rules (options_of command)) u.held).rows) (sym i.at) i.shows,
  )
  run [] os ps (Some name) ended w g plain =
      ap fails (no_words w ∙ ap (λ u. settle_fault (rules (options_of command)) false u.held) g.1.at) ∙ lacks_value g.1.rows name g.1.known
  run (word ∷ words) os ps None true w i plain =
      let short = plain_trailing word words plain in
      let step = trailing_step os ps w word i in
      goes_on (reading_at os ps None true) (reading_at os (ps ++ word ∷ []) None true) w word words (rw short.0 refl) step.0
      (run words os (ps ++ word ∷ []) None true (after w word) step.1 short.1)
  run (word ∷ words) os ps None false w i plain =
      let short = plain_next word words plain in
      elim short.1 [
        | inl e ↦
            let step = end_step os ps w i in
            subst (λ t. Run (reading_at os ps None false) w (t ∷ words)) (sym e.0)
            (goes_on (reading_at os ps None false) (reading_at os ps None true) w dashes words refl step.0 (run words os ps None true (after w dashes) step.1 e.1))
        | inr e ↦
            elim (view command word e.1) [
              | inl end ↦ absurd (false≢true (sym e.0 ∙ ap (λ t. same_key t dashes) end))
              | inr (inl p) ↦
                  let step = position_step os ps w word i p in
                  goes_on (reading_at os ps None false) (reading_at os (ps ++ word ∷ []) None false) w word words (rw (short.0, e.0, p.no_option) refl) step.0
                  (run words os (ps ++ word ∷ []) None false (after w word) step.1 e.2)
              | inr (inr p) ↦ run_use (with_option_word (kind_of command word) command (reading_at os ps None false) word) os ps w word words (rw (short.0, e.0, p.option) refl) (option_step os ps w word i p.use_of)
                  (λ r sees none. run words r.options r.positions r.waiting r.ended (after w word) sees (ap (λ b. all_plain b words) none ∙ e.2))
            ]
      ]
  run (word ∷ words) os ps (Some name) true w g plain = absurd (false≢true (sym g.0))
  run (word ∷ words) os ps (Some name) false w g plain =
      let short = plain_next word words plain in
      elim short.1 [
        | inl e ↦
            let step = waits_doomed os ps w name g.1 in
            subst (λ t. Run (reading_at os ps (Some name) false) w (t ∷ words)) (sym e.0)
            (no_value_at os ps w dashes words name g.1 refl refl (ap fails (turn_passes w dashes words step.0) ∙ doomed_run words true (after w dashes) step.1 e.1))
        | inr e ↦
            elim (view command word e.1) [
              | inl end ↦ absurd (false≢true (sym e.0 ∙ ap (λ t. same_key t dashes) end))
              | inr (inl p) ↦ value_at os ps w word words name g.1 short.0 p e.2 (λ o idles. run words o ps None false (after w word) idles e.2)
              | inr (inr p) ↦ no_value_at os ps w word words name g.1 short.0 p.option
                  (turn_fails w word words (ap (λ u. fails (turn u word)) g.1.at ∙ says_fails g.1.rows (Some (name, [])) (kind_of command p.use_of.name) p.use_of.name p.use_of.value _ _ (lacks_value g.1.rows name g.1.known) (p.use_of.said g.1.rows (Some (name, [])) (option name))))
            ]
      ]
