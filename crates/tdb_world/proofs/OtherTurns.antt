-- What a turn of an opener that isn't aside leaves of a world: it stands, and from each of its states the turn leads to
-- one of it.
use Rattle.std.proofs.Common.{◌≡◌, ◌≢◌, ℕ, ◌<◌, ◌≤◌, ◌⊎◌, List, [], length, slice_get, Bool, true, false, Option, Some, None, is_some, refl, sym, ◌∙◌, ap, subst, inl, inr, arith}
use Rattle.std.specs.Prelude.{if◌then◌else◌}
use Rattle.std.proofs.lemmas.Bool.{cases_Bool}
use Rattle.tdb_disk.specs.History.{History, seen}
use Rattle.tdb_words.specs.declared.header.Header.{Header}
use Rattle.tdb_space.specs.Accepted.{AcceptWith}
use Rattle.tdb_space.specs.Form.{Form, form_in}
use Rattle.tdb_space.specs.Pairs.{home}
use Rattle.tdb_space.proofs.Pairs.Maps.{home_below}
use Rattle.tdb_locks.specs.declared.kind.Kind.{Kind}
use Rattle.tdb_locks.specs.declared.kind.Kind.TheVariants.{Read, Write}
use Rattle.tdb_locks.specs.declared.piece.Piece.{Piece}
use Rattle.tdb_law.specs.Commands.{Command, Turn}
use Rattle.tdb_law.specs.Commands.Reply.{Full}
use Rattle.tdb_law.specs.Commands.Turn.{Ends}
use Rattle.tdb_law.specs.Counting.{settled_after}
use Rattle.tdb_law.specs.Images.{image_map}
use Rattle.tdb_law.specs.Openers.{Own, Task as LawTask, has}
use Rattle.tdb_law.specs.Refusals.{Refusal, refusal, chain_byte}
use Rattle.tdb_law.specs.Turned.{Turned}
use Rattle.tdb_law.specs.World.{State, IsSound}
use Rattle.tdb_law.proofs.Sound.{sound_after}
use Rattle.tdb_law.proofs.Tests.{never_true}
use Rattle.tdb_steps.specs.Turns.{number_of}
use Rattle.tdb_law.specs.OneAside.Sides.{Past, Side, beside, whole, StandsAside}
use Rattle.tdb_law.specs.OneAside.Passing.{IsOut}
use Rattle.tdb_law.specs.OneAside.Starts.{MayStart}
use Rattle.tdb_law.specs.OneAside.Turns.{IsApart, IsClear, IsUngrouped, past_after}
use Rattle.tdb_law.proofs.OneAside.Beside.{alone_turns, beside_turns}
use Rattle.tdb_law.proofs.OneAside.Starting.{starts_turn}
use Rattle.tdb_commands.specs.InLaw.{law_opener, law_command}
use Rattle.tdb_commands.specs.declared.options.Options.{Options}
use Rattle.tdb_txn_owner.specs.Heads.{HeadsHold, is_written}
use Rattle.tdb_txn_owner.specs.Holders.{HolderState}
use Rattle.tdb_txn_owner.specs.Stages.{commit_records, plan_records, prepared_records, stage_records, IsFit, IsSide, Known, KnowsFile}
use Rattle.tdb_txn_owner.specs.declared.stage.Stage.{Stage}
use Rattle.tdb_txn_owner.specs.declared.stage.Stage.TheVariants as At
use Rattle.tdb_openers.specs.Calm.{WritesNoRecord}
use Rattle.tdb_openers.specs.Openers.{command_in, own_of, IsRefused, JobStands}
use Rattle.tdb_openers.specs.Openers.IsRefused.{refuses, has_ended}
use Rattle.tdb_txn_owner.proofs.HeadsTold.{heads_there, lacked_out}
use Rattle.tdb_openers.specs.ShutOut.{ShutsOut, HeadsShow, IsTurnBeside, heads_in}
use Rattle.tdb_openers.specs.Worlds.{World, state_in, law_of_task, BytesStand, IsBusy, IsNumber, Stands}
use Rattle.tdb_openers.specs.declared.job.Job.{Job}
use Rattle.tdb_openers.specs.declared.job.Job.TheVariants as Jobs
use Rattle.tdb_openers.specs.declared.job.Task.{Task}
use Rattle.tdb_openers.specs.declared.opener.Opener.{Opener}
use Rattle.tdb_openers.proofs.Barred.ShutOut.{its_own, IsBarred}
use Rattle.tdb_openers.proofs.Barred.Passing.{heads_some}
use Rattle.tdb_openers.proofs.Joining.Occupied.{job_at, own_here}
use Rattle.tdb_openers.proofs.ExplicitLocks.Sharing.{others_write_none}
use Rattle.tdb_world.specs.Shut.{IsOpen, IsShutBy}
use Rattle.tdb_world.specs.States.{once, writes_all, state_with, IsAside, IsSeen, IsStateOf, IsWholeState, SideIs}
use Rattle.tdb_world.specs.States.IsStateOf.{of_whole, of_stale}
use Rattle.tdb_world.specs.Steps.{IsAmong}
use Rattle.tdb_world.specs.Steps.IsAmong.{among_all, among_others}
use Rattle.tdb_world.specs.Whole.{Whole, form_at, options_at, is_starting, AsideFits, HolderFits, StartFits, WorldFits}
use Rattle.tdb_world.proofs.Fullness.{shut_never}
use Rattle.tdb_world.proofs.NumberHeld.{number_held}
use Rattle.tdb_world.proofs.Outside.{aside_not}
use Rattle.tdb_world.proofs.Standings.{aside_here, may_start_whole, plain, stands_aside, there_named}

-- Only this opener changes.
pub record OnlyOne (w v : World) (l : ℕ) : Type 0 where
  pub header : v.header ≡ w.header
  pub options : v.options ≡ w.options
  pub joined : length v.openers ≡ length w.openers
  pub others : (o : ℕ) → o ≢ l → slice_get v.openers o ≡ slice_get w.openers o

-- the world with these openers
abbrev pub with_openers : Whole → World → Whole
with_openers w v = record w { openers = v }

pub put_openers : (old new : Whole) → record new { openers = old.openers } ≡ old → new ≡ with_openers old new.openers
put_openers old new rest = ap (λ (z : Whole). record z { openers = new.openers }) rest

-- The head of a key's chain isn't 0, where the heads tell of an image that has it.
head_there : (f : Form) (bytes img : List ℕ) (s : Side) (k : List ℕ) → 0 < f.chains → s.heads ≡ heads_in f bytes → HeadsHold f bytes img → has (image_map f img) k ≡ true → s.heads (chain_byte f k) ≡ true
head_there f bytes img s k some is H there = ap (λ g. g (chain_byte f k)) is ∙ heads_some f bytes (home f k) (home_below f k some) (H.keys k there)

-- So a key of the file's map is in such a chain, or is out of the file.
heads_tell : (f : Form) (bytes : List ℕ) (s : Side) (r b : List ℕ) (written : Bool) → 0 < f.chains → s.heads ≡ heads_in f bytes → HeadsHold f bytes (if written then b else r) → (k : List ℕ)
    → (written ≡ true → has (image_map f b) k ≡ false → IsOut f s k) → has (image_map f r) k ≡ true → (s.heads (chain_byte f k) ≡ true) ⊎ IsOut f s k
heads_tell f bytes s r b false some is H k out there = inl (head_there f bytes r s k some is H there)
heads_tell f bytes s r b true some is H k out there = elim (cases_Bool (has (image_map f b) k)) [
  | inl kept ↦ inl (head_there f bytes b s k some is H kept)
  | inr lacks ↦ inr (out refl lacks)
]

some_holder : (a b : HolderState) → ◌≡◌ {A = Option HolderState} (Some a) (Some b) → a ≡ b
some_holder a b e = cc

none_holder : (a : HolderState) → ◌≡◌ {A = Option HolderState} None (Some a) → ⊥
none_holder a e = cc

-- who isn't aside is no holder
pub else_where : (w : Whole) (who : ℕ) (h : HolderState) (x : Opener) → 1 ≤ who → IsAmong w who → w.aside ≡ Some h → IsNumber w.openers h.owner x → law_opener h.owner ≢ law_opener who
else_where w who h x named (among_all none) is N = absurd (none_holder h (sym none ∙ is))
else_where w who h x named (among_others other there ne) is N =
    let same : other.owner ≡ h.owner = ap (λ (z : HolderState). z.owner) (some_holder other h (sym there ∙ is)) in
    let counted = N.counted in
    λ e. ne (omega (arith, same, counted, named, e))

-- The length of the file that a stage fits, where others may change that.
is_read : (k : Kind) → (◌≡◌ {A = Option Kind} (Some k) (Some Write) → ⊥) → ◌≡◌ {A = Option Kind} (Some k) (Some Read)
is_read Read never = refl
is_read Write never = absurd (never refl)

fit_open : (stage : Stage) (h : Header) (limit size longer : ℕ) → (stage_records stage ≡ Some Write → ⊥) → (stage_records stage ≡ Some Read → longer ≡ size) → longer ≤ limit → IsFit stage h limit size → IsFit stage h limit longer
fit_open (At.Starting s) h limit size longer never reads short F = short
fit_open (At.Open txn command) h limit size longer never reads short F = subst (IsFit (At.Open txn command) h limit) (sym (reads refl)) F
fit_open (At.Committing c) h limit size longer never reads short F = subst (IsFit (At.Committing c) h limit) (sym (reads (is_read (commit_records c) never))) F
fit_open (At.Preparing p) h limit size longer never reads short F = subst (IsFit (At.Preparing p) h limit) (sym (reads (is_read (plan_records p.stage) never))) F
fit_open (At.Prepared left command) h limit size longer never reads short F = subst (IsFit (At.Prepared left command) h limit) (sym (reads (is_read (prepared_records left) never))) F
fit_open (At.Finishing s) h limit size longer never reads short F = absurd (never refl)

module _ (w : Whole) (v : World) (l : ℕ) (K : OnlyOne w.openers v l) where
  abbrev left : Whole
  left = with_openers w v

  start_kept : (o : ℕ) → o ≢ l → StartFits w o → StartFits left o
  start_kept o ne S = record { opener = S.opener; there = K.others o ne ∙ S.there; bare = S.bare; none = S.none; writes = ap (λ (z : Options). z.read_only) K.options ∙ S.writes }

  pub holder_kept : (h : HolderState) (size longer : ℕ) → law_opener h.owner ≢ l → (IsFit h.stage w.openers.header w.openers.options.limit size → IsFit h.stage w.openers.header w.openers.options.limit longer)
      → HolderFits w h size → HolderFits left h longer
  holder_kept h size longer ne fit H = record {
    opener = H.opener;
    number = record { place = H.number.place; counted = H.number.counted; there = K.others H.number.place (λ e. ne (let counted = H.number.counted in omega (arith, counted, e))) ∙ H.number.there };
    bare = H.bare;
    writes = H.writes;
    reads = H.reads;
    fit = subst (λ z. IsFit h.stage z v.options.limit longer) (sym K.header) (subst (λ (o : Options). IsFit h.stage w.openers.header o.limit longer) (sym K.options) (fit H.fit));
    begun = H.begun;
  }

  pub fits_kept : (a b : List ℕ) (size longer : ℕ) → w.stale ≡ false → is_starting w.starts l ≡ false → WorldFits w a size → Stands v b longer → AsideFits left w.aside longer → WorldFits left b longer
  fits_kept a b size longer fresh begun F W aside = record {
    openers = W;
    each = F.each ∙ sym K.joined;
    starts = λ o e. start_kept o (λ is. never_true (sym begun ∙ ap (is_starting w.starts) (sym is) ∙ e)) (F.starts o e);
    aside = aside;
    stale = λ e. absurd (never_true (sym fresh ∙ e));
  }

-- The world stands by such a turn: nobody shuts the others out, and the file has got longer at most where no record was
-- held; or the length is the same.
module _ (w : Whole) (v : World) (who : ℕ) (named : 1 ≤ who) (among : IsAmong w who) (begun : is_starting w.starts (law_opener who) ≡ false) (K : OnlyOne w.openers v (law_opener who)) where
  aside_kept : (size longer : ℕ) → ((h : HolderState) → w.aside ≡ Some h → HolderFits w h size → IsFit h.stage w.openers.header w.openers.options.limit size → IsFit h.stage w.openers.header w.openers.options.limit longer)
      → (a : Option HolderState) → w.aside ≡ a → AsideFits w a size → AsideFits (with_openers w v) a longer
  aside_kept size longer fit None is H = tt
  aside_kept size longer fit (Some h) is H = holder_kept w v (law_opener who) K h size longer (else_where w who h H.opener named among is H.number) (fit h is H) H

  pub same_fits : w.stale ≡ false → (img : List ℕ) (size : ℕ) → WorldFits w img size → Stands v img size → WorldFits (with_openers w v) img size
  same_fits fresh img size F W = fits_kept w v (law_opener who) K img img size size fresh begun F W (aside_kept size size (λ h is H fit. fit) w.aside refl F.aside)

  pub open_fits : w.stale ≡ false → IsOpen w → (a b : List ℕ) (size longer : ℕ) → (WritesNoRecord w.openers.table (law_opener who) → longer ≡ size) → WorldFits w a size → Stands v b longer → WorldFits (with_openers w v) b longer
  open_fits fresh nobody a b size longer calm F W = fits_kept w v (law_opener who) K a b size longer fresh begun F W (aside_kept size longer
      (λ h is H fit. fit_open h.stage w.openers.header w.openers.options.limit size longer (nobody h is) (λ reads. calm (reads_calm h is H reads)) (let short = W.short in let limit = ap (λ (z : Options). z.limit) K.options in omega (arith, short, limit)) fit)
      w.aside refl F.aside)
    where
      reads_calm : (h : HolderState) → w.aside ≡ Some h → HolderFits w h size → stage_records h.stage ≡ Some Read → WritesNoRecord w.openers.table (law_opener who)
      reads_calm h is H reads =
          let R = H.reads reads in
          others_write_none (form_at w) (options_at w) w.openers.openers w.openers.table a size (law_opener h.owner) 1 R.0 H.opener F.openers (there_named w.openers h.owner H.opener H.number) H.bare R.1 (law_opener who)
          (λ e. else_where w who h H.opener named among is H.number (sym e))

  pub still_among : IsAmong (with_openers w v) who
  still_among = still among
    where
      still : IsAmong w who → IsAmong (with_openers w v) who
      still (among_all none) = among_all none
      still (among_others h is ne) = among_others h is ne

-- a command of an opener that has no transaction begins and ends none
ungrouped_apart : (q : Option Refusal) (c : Command) → IsUngrouped c → IsApart q c
ungrouped_apart None c is = is
ungrouped_apart (Some why) c is = tt

refused_apart : (f : Form) (x : Own) (c : Command) (r : _) → IsRefused f x c r → IsApart (refusal f c x) c
refused_apart f x c r (refuses why is told) = subst (λ q. IsApart q c) (sym is) tt
refused_apart f x c r (has_ended is out none told) = ungrouped_apart (refusal f c x) c (subst IsUngrouped (sym is) tt)

job_apart : (f : Form) (x : Own) (job : Job) (n size : ℕ) → JobStands f x job n size → IsApart (refusal f (command_in job) x) (command_in job)
job_apart f x (Jobs.Refused command reply) n size K = refused_apart f x (law_command command) _ K.1
job_apart f x (Jobs.Plain d) n size K = ungrouped_apart (refusal f (command_in (Jobs.Plain d)) x) (command_in (Jobs.Plain d)) tt
job_apart f x (Jobs.Check checking) n size K = ungrouped_apart (refusal f (command_in (Jobs.Check checking)) x) (command_in (Jobs.Check checking)) tt
job_apart f x (Jobs.Locking locking) n size K = ungrouped_apart (refusal f (command_in (Jobs.Locking locking)) x) (command_in (Jobs.Locking locking)) tt
job_apart f x Jobs.Seqnum n size K = ungrouped_apart (refusal f (command_in Jobs.Seqnum) x) (command_in Jobs.Seqnum) tt
job_apart f x (Jobs.Walk walking) n size K = ungrouped_apart (refusal f (command_in (Jobs.Walk walking)) x) (command_in (Jobs.Walk walking)) tt

-- A side is the same where only whether the world is settled is another, and before it holds any record where the file
-- has other bytes.
side_past : {f : Form} {o : Options} {owner : ℕ} {ps : List Piece} {stage : Stage} {k : Known} {past : Past} {s : Side} (z : Bool) → IsSide f o owner ps stage k past s → IsSide f o owner ps stage k (record past { settled = z }) s
side_past z S = record { here = S.here; alone = S.alone; table = S.table; holds = S.holds; task = S.task; keeps = S.keeps; live = S.live; options = S.options; own = S.own; numbers = S.numbers; mark = S.mark }

never_writes : (all : Option Kind) → (all ≡ Some Write → ⊥) → writes_all all ≡ false
never_writes None ne = refl
never_writes (Some Read) ne = refl
never_writes (Some Write) ne = absurd (ne refl)

none_kind : (k : Kind) → ◌≡◌ {A = Option Kind} (Some k) None → ⊥
none_kind k e = cc

module _ (f : Form) (o : Options) (owner : ℕ) (ps : List Piece) (k : Known) (past : Past) (s : Side) (b : List ℕ) where
  abbrev seen_now : Known
  seen_now = record k { file = b }

  abbrev Goes : Stage → Type 0
  Goes stage = IsSide f o owner ps stage seen_now past s × ((h : History) → seen h ≡ b → KnowsFile f stage h seen_now)

  side_new : (stage : Stage) → stage_records stage ≡ None → IsSide f o owner ps stage k past s → Goes stage
  side_new (At.Starting st) none S = (
    record {
      here = S.here;
      alone = S.alone;
      table = S.table;
      holds = S.holds;
      task = S.task;
      keeps = S.keeps;
      live = S.live;
      options = S.options;
      own = record { bare = S.own.bare; granted = S.own.granted };
      numbers = record { image = λ t has. absurd (bare_none t has); still = λ t has. absurd (bare_none t has) };
      mark = tt;
    },
    λ h is. record { at = is; forms = tt; reads = λ ne. is },
  )
    where
      bare_none : (t : _) → s.own.txn ≡ Some t → ⊥
      bare_none t has = let none = ap (λ (z : Own). z.txn) S.own.bare ∙ has in cc none
  side_new (At.Open txn command) none S = absurd (none_kind Read none)
  side_new (At.Committing c) none S = absurd (none_kind (commit_records c) none)
  side_new (At.Preparing p) none S = absurd (none_kind (plan_records p.stage) none)
  side_new (At.Prepared left command) none S = absurd (none_kind (prepared_records left) none)
  side_new (At.Finishing c) none S = absurd (none_kind Write none)

-- By a turn of an opener with this task.
module _ (w : Whole) (v : World) (who : ℕ) (x : Opener) (t : Task) (turn : Turn) (any : List ℕ) (size : ℕ) (named : 1 ≤ who) (B : IsBusy w.openers who x t) (among : IsAmong w who) (begun : is_starting w.starts (law_opener who) ≡ false)
    (fresh : w.stale ≡ false) (F : WorldFits w any size) (K : OnlyOne w.openers v (law_opener who)) where
  abbrev f : Form
  f = form_at w

  abbrev l : ℕ
  l = law_opener who

  abbrev lt : LawTask
  lt = law_of_task t

  abbrev then_ : Whole
  then_ = with_openers w v

  apart : (img : List ℕ) → IsApart (refusal f lt.command ((state_in w.openers img).own l)) lt.command
  apart img = subst (λ y. IsApart (refusal f lt.command y) lt.command) (sym (own_here B img)) (job_apart f (own_of (options_at w) x) t.job t.steps size (job_at B F.openers t.job refl))

  -- where the turn leads, from a state of this image
  pub record Leads (later : History) (img : List ℕ) (past : Past) (side : Option Side) : Type 0 where
    pub image : List ℕ
    pub after : Past
    pub is_side : SideIs then_ w.aside later image after side
    pub turned : Turned f (whole (state_in w.openers img) past side) l lt turn (whole (state_in v image) after side)
    pub may : MayStart (is_starting w.starts) (whole (state_in w.openers img) past side)

  abbrev Reaches : History → State → Type 0
  Reaches later state = (after : State) × (task : LawTask) × IsStateOf then_ later after × Turned f state l task turn after

  reached : (h later : History) (state : State) (W : IsWholeState w h state) → Leads later W.image W.past W.side → Reaches later state
  reached h later state W L =
      let now = whole (state_in v L.image) L.after W.side in
      let sound : IsSound f now = sound_after f (whole (state_in w.openers W.image) W.past W.side) now l lt turn W.sound L.turned in (
        state_with then_ L.image L.after W.side,
        lt,
        of_whole (record { fresh = fresh; image = L.image; past = L.after; side = W.side; is_side = L.is_side; sound = subst (λ z. IsSound (form_in z) now) (sym K.header) sound; is = refl }),
        subst (λ z. Turned f z l lt turn (state_with then_ L.image L.after W.side)) (sym W.is)
            (starts_turn f (whole (state_in w.openers W.image) W.past W.side) now (is_starting w.starts) l lt turn L.may begun L.turned).1,
      )

  pub leads : (h later : History) → ((img : List ℕ) (past : Past) (side : Option Side) → IsSound f (whole (state_in w.openers img) past side) → SideIs w w.aside h img past side → Leads later img past side)
      → (state : State) → IsStateOf w h state → Reaches later state
  leads h later by state (of_whole W) = reached h later state W (by W.image W.past W.side W.sound W.is_side)
  leads h later by state (of_stale W) = absurd (never_true (sym fresh ∙ W.stale))

  -- who is aside
  module _ (h : HolderState) (is : w.aside ≡ Some h) where
    fits : HolderFits w h size
    fits = subst (λ a. AsideFits w a size) is F.aside

    apart_from : law_opener h.owner ≢ l
    apart_from = else_where w who h fits.opener named among is fits.number

    module _ (history : History) (img : List ℕ) (past : Past) (s : Side) (A : IsAside w h history img past s) where
      stands : StandsAside (state_in w.openers img) s
      stands = stands_aside w h any size F.openers fits history img past s A

      its_here : law_opener h.owner ≡ s.here
      its_here = aside_here w h any size F.openers fits history img past s A

      else_there : l ≢ s.here
      else_there e = apart_from (its_here ∙ sym e)

      may : MayStart (is_starting w.starts) (beside (state_in w.openers img) past s)
      may = may_start_whole w any size F img (Some h) fits history past (Some s) A

      -- it is aside of the openers that are left, in a file that is known so
      abbrev Stays : History → List ℕ → Known → Bool → Type 0
      Stays now b k z = IsSide f (options_at w) h.owner h.locks h.stage k past s → KnowsFile f h.stage now k → b ≡ k.file → (is_some (stage_records h.stage) ≡ true → AcceptWith f b [])
          → (writes_all (stage_records h.stage) ≡ false → IsSeen then_ now b) → (writes_all (stage_records h.stage) ≡ true → s.table 48 ≡ 0 → w.number ≡ number_of f b)
          → (writes_all (stage_records h.stage) ≡ true → s.heads ≡ heads_in f (seen now)) → IsAside then_ h now b (record past { settled = z }) s

      stays : (now : History) (b : List ℕ) (k : Known) (z : Bool) → Stays now b k z
      stays now b k z S file same accepted others number heads = record {
        known = k;
        image = same;
        side = subst (λ y. IsSide (form_in y) (options_at then_) h.owner h.locks h.stage k (record past { settled = z }) s) (sym K.header)
            (subst (λ y. IsSide f y h.owner h.locks h.stage k (record past { settled = z }) s) (sym K.options) (side_past z S));
        file = subst (λ y. KnowsFile (form_in y) h.stage now k) (sym K.header) file;
        records = λ q N. A.records q (record { place = N.place; counted = N.counted; there = sym (K.others N.place (λ e. apart_from (let counted = N.counted in omega (arith, counted, e)))) ∙ N.there });
        shuts = A.shuts;
        accepted = λ some. subst (λ y. AcceptWith (form_in y) b []) (sym K.header) (accepted some);
        others = others;
        number = λ writes none. number writes none ∙ ap (λ y. number_of (form_in y) b) (sym K.header);
        heads = λ writes. heads writes ∙ ap (λ y. heads_in (form_in y) (seen now)) (sym K.header);
      }

  -- nobody shuts the others out, and the turn is one on the bytes of the file
  module _ (h later : History) (nobody : IsOpen w) (bytes : BytesStand w.openers (seen h) → BytesStand v (seen later))
      (turned : BytesStand w.openers (seen h) → Turned f (state_in w.openers (seen h)) l lt turn (state_in v (seen later))) (calm : WritesNoRecord w.openers.table l → later ≡ h) where
    turned_at : (img : List ℕ) → IsSeen w h img → Turned f (state_in w.openers img) l lt turn (state_in v (seen later))
    turned_at img N = subst (λ a. BytesStand w.openers a → Turned f (state_in w.openers a) l lt turn (state_in v (seen later))) (sym N.image) turned N.bytes

    seen_at : (img : List ℕ) → IsSeen w h img → IsSeen then_ later (seen later)
    seen_at img N = record { image = refl; bytes = bytes (subst (BytesStand w.openers) N.image N.bytes) }

    alone_leads : w.aside ≡ None → (img : List ℕ) (past : Past) → IsSeen w h img → Leads later img past None
    alone_leads is img past N = record {
      image = seen later;
      after = past_after f (state_in w.openers img) l lt turn past;
      is_side = subst (λ a. SideIs then_ a later (seen later) (past_after f (state_in w.openers img) l lt turn past) None) (sym is) (seen_at img N);
      turned = (alone_turns f (state_in w.openers img) (state_in v (seen later)) past l lt turn (plain w.openers img) (apart img) (turned_at img N)).1;
      may = may_start_whole w any size F img None tt h past None N;
    }

    module _ (hd : HolderState) (is : w.aside ≡ Some hd) (img : List ℕ) (past : Past) (s : Side) (A : IsAside w hd h img past s) where
      abbrev p : State
      p = state_in w.openers img

      abbrev z : Bool
      z = settled_after f lt.command (p.own l) lt.steps turn past.settled

      free : writes_all (stage_records hd.stage) ≡ false
      free = never_writes (stage_records hd.stage) (nobody hd is)

      N : IsSeen w h img
      N = A.others free

      not_writing : {C : Type 0} → writes_all (stage_records hd.stage) ≡ true → C
      not_writing writes = absurd (never_true (sym free ∙ writes))

      clear : IsClear f p s l lt
      clear = record { sight = inl (A.shuts ∙ free); number = inl (elim (number_held A.side) [ inl none ↦ none | inr two ↦ absurd (nobody hd is two.1) ]) }

      -- by how it holds all records
      aside_by : (all : Option Kind) → stage_records hd.stage ≡ all → IsAside then_ hd later (seen later) (record past { settled = z }) s
      aside_by None none =
          let G = side_new f (options_at w) hd.owner hd.locks A.known past s (seen later) hd.stage none A.side in
          stays hd is h img past s A later (seen later) (record A.known { file = seen later }) z G.0 (G.1 later refl) refl (λ some. absurd (never_true (sym (ap is_some none) ∙ some))) (λ e. seen_at img N) (λ writes e. not_writing writes) (λ writes. not_writing writes)
      aside_by (Some Read) reads =
          let H = fits hd is in
          let same : later ≡ h =
          calm (others_write_none f (options_at w) w.openers.openers w.openers.table any size (law_opener hd.owner) 1 Read H.opener F.openers (there_named w.openers hd.owner H.opener H.number) H.bare (A.records H.opener H.number ∙ ap once reads) l
          (λ e. apart_from hd is (sym e))) in
          stays hd is h img past s A later (seen later) A.known z A.side (subst (λ y. KnowsFile f hd.stage y A.known) (sym same) A.file) (ap seen same ∙ (sym N.image ∙ A.image))
          (λ some. subst (λ y. AcceptWith f y []) (N.image ∙ ap seen (sym same)) (A.accepted some)) (λ e. seen_at img N) (λ writes e. not_writing writes) (λ writes. not_writing writes)
      aside_by (Some Write) writes = absurd (nobody hd is writes)

      beside_leads : IsSound f (beside p past s) → Leads later img past (Some s)
      beside_leads sound = record {
        image = seen later;
        after = record past { settled = z };
        is_side = subst (λ a. SideIs then_ a later (seen later) (record past { settled = z }) (Some s)) (sym is) (aside_by (stage_records hd.stage) refl);
        turned = (beside_turns f p (state_in v (seen later)) past s l lt turn sound (plain w.openers img) (stands hd is h img past s A) clear (else_there hd is h img past s A) (apart img) (turned_at img N)).2;
        may = may hd is h img past s A;
      }

    open_by : (a : Option HolderState) → w.aside ≡ a → (img : List ℕ) (past : Past) (side : Option Side) → IsSound f (whole (state_in w.openers img) past side) → SideIs w a h img past side → Leads later img past side
    open_by None is img past None sound S = alone_leads is img past S
    open_by None is img past (Some s) sound S = absurd S
    open_by (Some hd) is img past None sound S = absurd S
    open_by (Some hd) is img past (Some s) sound S = beside_leads hd is img past s S sound

    pub open_leads : (state : State) → IsStateOf w h state → Reaches later state
    open_leads = leads h later (open_by w.aside refl)

  -- the one aside shuts the others out, and nothing of the file changes
  module _ (h : History) (owner : ℕ) (bars : Bool) (Z : IsShutBy w owner bars)
      (turned : (img : List ℕ) (past : Past) (s : Side) → ShutsOut w.openers img past s owner → (bars ≡ true → 2 ≤ s.table 48) → (bars ≡ false → (s.table 48 ≡ 0) × (w.number ≡ number_of f img))
      → HeadsShow w.openers img (seen h) s → IsTurnBeside w.openers v img past s l lt turn) where
    module _ (img : List ℕ) (past : Past) (s : Side) (sound : IsSound f (beside (state_in w.openers img) past s)) (A : IsAside w Z.holder h img past s) where
      all_writes : writes_all (stage_records Z.holder.stage) ≡ true
      all_writes = ap writes_all Z.writes

      shuts : ShutsOut w.openers img past s owner
      shuts = record { counted = Z.named ∙ A.side.here; shuts = A.shuts ∙ all_writes; sound = sound; aside = stands Z.holder Z.aside h img past s A }

      is_held : bars ≡ true → 2 ≤ s.table 48
      is_held e = elim (number_held A.side) [
        | inl none ↦ absurd (let some = (Z.number f (options_at w) A.known past s A.side).0 e in omega (arith, none, some))
        | inr two ↦ (let held = two.0 in omega (arith, held))
      ]

      is_none : bars ≡ false → s.table 48 ≡ 0
      is_none e = elim (number_held A.side) [
        | inl none ↦ none
        | inr two ↦ absurd (let held = two.0 in never_true (sym e ∙ (Z.number f (options_at w) A.known past s A.side).1 (omega (arith, held))))
      ]

      -- what the heads tell
      abbrev written : Bool
      written = is_written Z.holder.stage

      hold : HeadsHold f (seen h) (if written then A.known.image else A.known.file)
      hold = heads_there f Z.holder.stage h A.known Z.writes A.file

      shows : HeadsShow w.openers img (seen h) s
      shows = record {
        accepted = accepted;
        reaches = hold.reaches;
        heads = A.heads all_writes;
        tell = λ k there. heads_tell f (seen h) s A.known.file A.known.image written accepted.some (A.heads all_writes) hold k
            (λ e. lacked_out f (options_at w) Z.holder.owner Z.holder.locks Z.holder.stage A.known past s A.side e k) (ap (λ i. has (image_map f i) k) (sym A.image) ∙ there);
      }
        where
          accepted : AcceptWith f img []
          accepted = A.accepted (ap is_some Z.writes)

      U : IsTurnBeside w.openers v img past s l lt turn
      U = turned img past s shuts is_held (λ e. (is_none e, A.number all_writes (is_none e))) shows

      abbrev kept : Past
      kept = past_after f (state_in w.openers img) l lt turn past

      still : IsAside then_ Z.holder h img kept s
      still = stays Z.holder Z.aside h img past s A h img A.known kept.settled A.side A.file A.image A.accepted (λ e. absurd (never_true (sym e ∙ all_writes))) A.number A.heads

      shut_by : Leads h img past (Some s)
      shut_by = record {
        image = img;
        after = kept;
        is_side = subst (λ a. SideIs then_ a h img kept (Some s)) (sym Z.aside) still;
        turned = U.turned;
        may = may Z.holder Z.aside h img past s A;
      }

    shut_at : (img : List ℕ) (past : Past) (side : Option Side) → IsSound f (whole (state_in w.openers img) past side) → SideIs w (Some Z.holder) h img past side → Leads h img past side
    shut_at img past None sound S = absurd S
    shut_at img past (Some s) sound A = shut_by img past s sound A

    -- it doesn't end with Full
    never_at : (len need : ℕ) → turn ≡ Ends (Full len need) → (img : List ℕ) (past : Past) (side : Option Side) → IsSound f (whole (state_in w.openers img) past side) → SideIs w (Some Z.holder) h img past side → ⊥
    never_at len need e img past None sound S = absurd S
    never_at len need e img past (Some s) sound A =
        let C : IsBarred w.openers img past s owner who x t any size =
        record { busy = B; other = λ is. aside_not w who Z.holder Z.aside (sym is ∙ Z.named) among; shuts = shuts img past s sound A; stands = F.openers } in
        shut_never C (beside (state_in w.openers img) past s) _ turn len need (its_own C) (U img past s sound A).turned e

    pub shut_not_full : (state : State) → IsStateOf w h state → (len need : ℕ) → turn ≡ Ends (Full len need) → ⊥
    shut_not_full state (of_whole W) len need e = never_at len need e W.image W.past W.side W.sound (subst (λ a. SideIs w a h W.image W.past W.side) Z.aside W.is_side)
    shut_not_full state (of_stale W) len need e = never_true (sym fresh ∙ W.stale)

    pub shut_leads : (state : State) → IsStateOf w h state → Reaches h state
    shut_leads = leads h h (λ img past side sound S. shut_at img past side sound (subst (λ a. SideIs w a h img past side) Z.aside S))
