-- Calls on files one after the other, each of which is touched once.
use Rattle.std.proofs.Common.{◌≡◌, ◌≢◌, ℕ, zero, suc, ◌+◌, ◌<◌, ◌≤◌, Bool, true, false, IsTrue, List, [], ◌∷◌, ◌++◌, get_or, length, set, take, drop, Some, Result, Ok, Err, refl, sym, ◌∙◌, ap, subst, inl, inr, ◌⊎◌, add-one, append-nil, append_assoc, arith}
use Rattle.std.specs.Prelude.{IfErr, MatchResult, slice_get}
use Rattle.std.proofs.lemmas.Bool.{cases_eq}
use Rattle.std.proofs.lemmas.List.{length-set, take_all}
use Rattle.std.proofs.lemmas.Option.{slice_get_read, slice_get_within}
use Rattle.tdb_log.specs.Logs.{Logged, ToldAll, ToldUpTo, growth}
use Rattle.tdb_log.specs.declared.log.LogRefusal.TheVariants as Unheard
use Rattle.tdb_log.proofs.Telling.{refused_before, told_joined, told_then_refused}
use Rattle.tdb_disk.specs.Count.{Rose}
use Rattle.tdb_law.specs.Openers.{Map}
use Rattle.tdb_world.specs.OverFile.{KeepsForm, OverFile}
use Rattle.tdb_group.specs.Each.{AllWell, CancelledEach, HeardEach, PreparationLeft, PreparedEach, RoseAt, StayEach, UnlessFailed, WellIfDone, WentOn, cancel_answer, growths, with_file}
use Rattle.tdb_group.specs.Faults.{at_file, stop_at}
use Rattle.tdb_group.specs.Files.{Cancelled, HeardGrowth, IsAt, PrepareLeft, Prepared, StaysAt}
use Rattle.tdb_group.specs.Group.{EachFile, EachPair, Standing}
use Rattle.tdb_group.specs.Members.{IsSettled, IsUnderway, Maps}
use Rattle.tdb_group.specs.Turns.{Ran}
use Rattle.tdb_group.specs.declared.stop.FileStop.{FileStop}
use Rattle.tdb_group.specs.declared.stop.FileStop.TheVariants.{Refused, Io, LogFailed, Memory}
use Rattle.tdb_group.specs.declared.stop.GroupStop.{GroupStop}
use Rattle.tdb_group.specs.declared.stop.GroupStop.TheVariants as Stopped
use Rattle.tdb_group.proofs.Files.{member_opens, underway_safe}
use Rattle.tdb_group.proofs.Groups.{each_now, get_set_else, get_set_here, now_there, some_same, standing_each, underway_each}
use Rattle.tdb_group.proofs.Loops.{keeps_itself, ran_here}

-- what holds, holds unless a disk failed
pub unless_failed : {V : Type 0} (answer : Result V GroupStop) (P : Type 0) → P → UnlessFailed answer P
unless_failed (Ok v) P p = p
unless_failed (Err (Stopped.Refused at reply)) P p = p
unless_failed (Err (Stopped.Io at)) P p = tt
unless_failed (Err (Stopped.LogFailed at)) P p = p
unless_failed (Err (Stopped.Memory at)) P p = p

-- A file on which a call was done went on, whatever the group answers, and so did one that wasn't touched.
pub went_well : {V W : Type 0} (answer : Result V GroupStop) (old now : OverFile) (w : W) → Ran old now (Ok w) → WentOn answer old now
went_well answer old now w R = record {
  rises = R.never_falls;
  quiet = unless_failed answer (now.faults ≡ old.faults) R.quiet;
  form = unless_failed answer (KeepsForm old now) R.form;
}

pub went_here : {V : Type 0} (answer : Result V GroupStop) (w : OverFile) → WentOn answer w w
went_here answer w = record {
  rises = omega arith;
  quiet = unless_failed answer (w.faults ≡ w.faults) refl;
  form = unless_failed answer (KeepsForm w w) (keeps_itself w);
}

-- and one at which the call broke off
pub went_broke : {V W : Type 0} (at : ℕ) (old now : OverFile) (stop : FileStop) → Ran {V = W} old now (Err stop) → WentOn {V = V} (Err (at_file stop at)) old now
went_broke at old now (Refused reply) R = record { rises = R.never_falls; quiet = R.quiet; form = R.form }
went_broke at old now Io R = record { rises = R.never_falls; quiet = tt; form = tt }
went_broke at old now LogFailed R = record { rises = R.never_falls; quiet = R.quiet; form = R.form }
went_broke at old now Memory R = record { rises = R.never_falls; quiet = R.quiet; form = R.form }

-- The first so many files became others in this way, and the rest are as they were.
pub record UpTo (at : ℕ) (Became : ℕ → OverFile → OverFile → Type 0) (olds news : List OverFile) : Type 0 where
  pub count : length news ≡ length olds
  pub done : (n : ℕ) (old now : OverFile) → n < at → slice_get olds n ≡ Some old → slice_get news n ≡ Some now → Became n old now
  pub left : (n : ℕ) → at ≤ n → slice_get news n ≡ slice_get olds n

pub none_yet : (Became : ℕ → OverFile → OverFile → Type 0) (files : List OverFile) → UpTo 0 Became files files
none_yet Became files = record {
  count = refl;
  done = λ n old now low was is. absurd (omega (arith, low));
  left = λ n high. refl;
}

-- one more
pub one_more : (at : ℕ) (Became : ℕ → OverFile → OverFile → Type 0) (olds mids : List OverFile) (old now : OverFile) → UpTo at Became olds mids → slice_get mids at ≡ Some old → Became at old now
    → UpTo (at + 1) Became olds (set mids at now)
one_more at Became olds mids old now U here became = record {
  count = length-set mids at now ∙ U.count;
  done = λ n one two low was is. (elim (cases_eq n at) [
    | inl same ↦
        let first : one ≡ old = some_same one old (sym was ∙ ap (slice_get olds) same ∙ sym (U.left at (omega arith)) ∙ here) in
        let last : now ≡ two = some_same now two (sym (get_set_here mids at old now here) ∙ ap (slice_get (set mids at now)) (sym same) ∙ is) in
        subst (λ k. Became k one two) (sym same) (subst (λ (z : OverFile × OverFile). Became at z.0 z.1) (λ j. (sym first j, last j)) became)
    | inr ne ↦ U.done n one two (omega (arith, low, ne)) was (sym (get_set_else mids at n now ne) ∙ is)
  ]);
  left = λ n high. (let ne : n ≢ at = λ same. absurd (omega (arith, high, same)) in get_set_else mids at n now ne ∙ U.left n (omega (arith, high)));
}

-- The next one was read: it is as it was.
pub next_there : (at : ℕ) (Became : ℕ → OverFile → OverFile → Type 0) (olds mids : List OverFile) (next : OverFile) → UpTo at Became olds mids → at < length olds → next ≡ get_or mids at next
    → (slice_get olds at ≡ Some next) × (slice_get mids at ≡ Some next)
next_there at Became olds mids next U low read =
    let count = U.count in
    let here = slice_get_read mids (length mids) at next refl (omega (arith, low, count)) read in
    (sym (U.left at (omega arith)) ∙ here, here)

-- in another way
pub up_to_as : (at : ℕ) (Became Other : ℕ → OverFile → OverFile → Type 0) (olds news : List OverFile) → UpTo at Became olds news
    → ((n : ℕ) (old now : OverFile) → n < at → slice_get olds n ≡ Some old → Became n old now → Other n old now) → UpTo at Other olds news
up_to_as at Became Other olds news U other = record {
  count = U.count;
  done = λ n old now low was is. other n old now low was (U.done n old now low was is);
  left = U.left;
}

-- what holds of those that became others, and of those that stayed, holds of all
pub all_pairs : (at : ℕ) (Became : ℕ → OverFile → OverFile → Type 0) (olds news : List OverFile) → UpTo at Became olds news → ((n : ℕ) (w : OverFile) → at ≤ n → slice_get olds n ≡ Some w → Became n w w)
    → EachPair olds news Became
all_pairs at Became olds news U stay n old now was is = elim (below_or_not n at) [
  | inl low ↦ U.done n old now low was is
  | inr high ↦ (let same : now ≡ old = some_same now old (sym is ∙ U.left n high ∙ was) in subst (Became n old) (sym same) (stay n old high was))
]
  where
    below_or_not : (a b : ℕ) → (a < b) ⊎ (b ≤ a)
    below_or_not a zero = inr (omega arith)
    below_or_not zero (suc b) = inl (omega arith)
    below_or_not (suc a) (suc b) = elim (below_or_not a b) [ inl low ↦ inl (omega (arith, low)) | inr high ↦ inr (omega (arith, high)) ]

pub every_pair : (at : ℕ) (Became : ℕ → OverFile → OverFile → Type 0) (olds news : List OverFile) → UpTo at Became olds news → at ≡ length olds → EachPair olds news Became
every_pair at Became olds news U all n old now was is = (let low = slice_get_within olds n old was in U.done n old now (omega (arith, low, all)) was is)

-- the growths of the first so many files, and of one more
growths_none : (olds news : List OverFile) → growths (take 0 olds) (take 0 news) ≡ []
growths_none olds news = refl

growths_more : (n : ℕ) (olds news : List OverFile) (old mid now : OverFile) → slice_get olds n ≡ Some old → slice_get news n ≡ Some mid
    → growths (take (suc n) olds) (take (suc n) (set news n now)) ≡ growths (take n olds) (take n news) ++ growth old.size now.size
growths_more n [] news old mid now was is = absurd (cc was)
growths_more n (x ∷ olds) [] old mid now was is = absurd (cc is)
growths_more zero (x ∷ olds) (y ∷ news) old mid now was is = (let same = some_same x old was in ap (λ (z : OverFile). growth z.size now.size ++ []) same ∙ append-nil (growth old.size now.size))
growths_more (suc n) (x ∷ olds) (y ∷ news) old mid now was is =
    ap (λ g. growth x.size y.size ++ g) (growths_more n olds news old mid now was is) ∙ sym (append_assoc (growth x.size y.size) (growths (take n olds) (take n news)) (growth old.size now.size))

-- those of the first so many files, and of the rest
growths_nil : (olds : List OverFile) → growths olds [] ≡ []
growths_nil [] = refl
growths_nil (x ∷ olds) = refl

growths_split : (n : ℕ) (olds news : List OverFile) → growths olds news ≡ growths (take n olds) (take n news) ++ growths (drop n olds) (drop n news)
growths_split zero olds news = refl
growths_split (suc n) [] news = refl
growths_split (suc n) (x ∷ olds) [] = sym (growths_nil (drop n olds))
growths_split (suc n) (x ∷ olds) (y ∷ news) =
    ap (λ g. growth x.size y.size ++ g) (growths_split n olds news) ∙ sym (append_assoc (growth x.size y.size) (growths (take n olds) (take n news)) (growths (drop n olds) (drop n news)))

-- A file was prepared.
pub record PreparedOne (tells : Bool) (n : ℕ) (old now : OverFile) : Type 0 where
  pub ran : Ran {V = Unit {0}} old now (Ok tt)
  pub prepared : Prepared tells old now (Ok tt)

-- The first so many files were prepared.
pub record PreparedUpTo (tells : Bool) (at : ℕ) (olds news : List OverFile) (before after : List Logged) : Type 0 where
  pub files : UpTo at (PreparedOne tells) olds news
  pub heard : ToldAll (growths (take at olds) (take at news)) before after

pub prepared_none : (tells : Bool) (files : List OverFile) (logs : List Logged) → PreparedUpTo tells 0 files files logs logs
prepared_none tells files logs = record { files = none_yet (PreparedOne tells) files; heard = refl }

-- A file stays, where nothing was done.
pub stays_here : (prepared : Bool) (p : Maps) (w : OverFile) → IsUnderway prepared p w → StaysAt p.before w w
stays_here prepared p w U = member_opens p.before _ w U.at (underway_safe prepared p w U)

-- One file more, between two lists of which the first has it.
module _ (tells : Bool) (at : ℕ) (olds mids : List OverFile) (before between after : List Logged) (S : PreparedUpTo tells at olds mids before between) (old now : OverFile) (here : slice_get mids at ≡ Some old) where
  was : slice_get olds at ≡ Some old
  was = sym (S.files.left at (omega arith)) ∙ here

  pub prepared_more : Ran {V = Unit {0}} old now (Ok tt) → Prepared tells old now (Ok tt) → HeardGrowth old.size now.size between after (Ok tt) → PreparedUpTo tells (at + 1) olds (set mids at now) before after
  prepared_more R P heard = record {
    files = one_more at (PreparedOne tells) olds mids old now S.files here (record { ran = R; prepared = P });
    heard = rw (add-one, growths_more at olds mids old old now was here) (told_joined (growths (take at olds) (take at mids)) (growth old.size now.size) before between after S.heard heard);
  }

  -- it breaks off
  module _ (stop : FileStop) (R : Ran {V = Unit {0}} old now (Err stop)) (P : Prepared tells old now (Err stop)) (heard : HeardGrowth old.size now.size between after (Err stop)) (unspent : EachFile olds (λ n w. w.spent ≡ false)) where
    news : List OverFile
    news = set mids at now

    count : length (set mids at now) ≡ length olds
    count = length-set mids at now ∙ S.files.count

    low : at < length olds
    low = slice_get_within olds at old was

    number : IfErr {T = Unit {0}} (Err (at_file stop at)) (λ s. stop_at s < length olds)
    number = number_of stop
      where
        number_of : (s : FileStop) → stop_at (at_file s at) < length olds
        number_of (Refused reply) = low
        number_of Io = low
        number_of LogFailed = low
        number_of Memory = low

    -- what holds of this file, of those in front of it and of those behind it holds of all
    all : (P : ℕ → OverFile → OverFile → Type 0) → ((n : ℕ) (one two : OverFile) → slice_get olds n ≡ Some one → PreparedOne tells n one two → P n one two) → P at old now
        → ((n : ℕ) (w : OverFile) → slice_get olds n ≡ Some w → P n w w) → EachPair olds (set mids at now) P
    all Q front it behind =
        all_pairs (at + 1) Q olds (set mids at now)
        (one_more at Q olds mids old now (up_to_as at (PreparedOne tells) Q olds mids S.files (λ n one two low is. front n one two is)) here it) (λ n w high is. behind n w is)

    module _ (told : IsTrue tells) (ps : ℕ → Maps) (standing : Standing false 0 ps olds) where
      underway : EachFile olds (λ n w. IsUnderway false (ps n) w)
      underway = underway_each false ps olds standing

      stay : StayEach ps olds (set mids at now)
      stay = all (λ n one two. StaysAt (ps n).before one two)
          (λ n one two is D. D.prepared.stops told (ps n) (underway n one is))
          (P.stops told (ps at) (underway at old was))
          (λ n w is. stays_here false (ps n) w (underway n w is))

      at_each : IsSettled (ps at).before now → EachFile (set mids at now) (λ n w. IsAt (ps n).before w)
      at_each settled = each_now olds (set mids at now) (λ n w. IsAt (ps n).before w) count
          (all (λ n one two. IsAt (ps n).before two)
          (λ n one two is D. inl (true, (ps n).after, D.prepared.left told (ps n) (underway n one is)))
          (inr settled)
          (λ n w is. inl (false, (ps n).after, underway n w is)))

    well_if : (s : FileStop) → Ran {V = Unit {0}} old now (Err s) → WellIfDone olds (set mids at now) (Err (at_file s at))
    well_if (Refused reply) R = all (λ n one two. Ran {V = Unit {0}} one two (Ok tt)) (λ n one two is D. D.ran)
        (record { form = R.form; unspent = R.unspent; never_falls = R.never_falls; quiet = R.quiet }) (λ n w is. ran_here w tt (unspent n w is))
    well_if s R = tt

    rose_at : Rose old.faults now.faults → RoseAt olds (set mids at now) at
    rose_at rose = record { before = old; after = now; was = was; is = get_set_here mids at old now here; rose = rose }

    left_of : (told : IsTrue tells) (ps : ℕ → Maps) (standing : Standing false 0 ps olds) (s : FileStop) → PrepareLeft (ps at) old now (Err s)
        → PreparationLeft (EachFile (set mids at now) (λ n w. IsAt (ps n).before w)) ps olds (set mids at now) (Err (at_file s at))
    left_of told ps standing (Refused reply) left = (left.0, at_each told ps standing left.1)
    left_of told ps standing Io left = rose_at left
    left_of told ps standing s left = tt

    heard_of : (s : FileStop) → HeardGrowth old.size now.size between after (Err s) → HeardEach olds (set mids at now) before after (Err (at_file s at))
    heard_of LogFailed heard =
        let front = told_then_refused Unheard.Failed (growths (take at olds) (take at mids)) (growth old.size now.size) before between after S.heard heard in
        let some = subst (λ l. ToldUpTo Unheard.Failed l before after) (sym (growths_more at olds mids old old now was here)) front in
        subst (λ l. ToldUpTo Unheard.Failed l before after) (sym (growths_split (suc at) olds (set mids at now)))
        (refused_before Unheard.Failed (growths (take (suc at) olds) (take (suc at) (set mids at now))) (growths (drop (suc at) olds) (drop (suc at) (set mids at now))) before after some)
    heard_of s heard = tt

    pub prepared_broken : PreparedEach tells olds (set mids at now) before after (Err (at_file stop at))
    prepared_broken = record {
      count = count;
      number = number;
      well = well_if stop R;
      went = all (λ n one two. WentOn {V = Unit {0}} (Err (at_file stop at)) one two)
          (λ n one two is D. went_well (Err (at_file stop at)) one two tt D.ran) (went_broke at old now stop R) (λ n w is. went_here (Err (at_file stop at)) w);
      heard = heard_of stop heard;
      left = λ told ps standing. left_of told ps standing stop (P.left told (ps at) (underway told ps standing at old was));
      stops = λ told ps standing. stay told ps standing;
    }

-- All were prepared.
pub prepared_all : (tells : Bool) (at : ℕ) (olds news : List OverFile) (before after : List Logged) → PreparedUpTo tells at olds news before after → at ≡ length olds → PreparedEach tells olds news before after (Ok tt)
prepared_all tells at olds news before after S all = record {
  count = S.files.count;
  number = tt;
  well = λ n old now was is. (pairs n old now was is).ran;
  went = λ n old now was is. went_well (Ok tt) old now tt (pairs n old now was is).ran;
  heard = subst (λ (z : List OverFile × List OverFile). ToldAll (growths z.0 z.1) before after) (λ j. (whole olds (sym all) j, whole news (S.files.count ∙ sym all) j)) S.heard;
  left = λ told ps standing.
      standing_each true ps news (each_now olds news (λ n w. IsUnderway true (ps n) w) S.files.count (λ n old now was is.
      ((pairs n old now was is).prepared.left told (ps n) (underway_each false ps olds standing n old was))));
  stops = λ told ps standing n old now was is. (pairs n old now was is).prepared.stops told (ps n) (underway_each false ps olds standing n old was);
}
  where
    pairs : EachPair olds news (PreparedOne tells)
    pairs = every_pair at (PreparedOne tells) olds news S.files all

    whole : (files : List OverFile) → length files ≡ at → take at files ≡ files
    whole files is = take_all at files (omega (arith, is))

-- The transaction of a file was cancelled, or its disk failed; and whether that is so of it by the answer so far.
pub record CancelledOne (tells : Bool) (answer : Result (Unit {0}) ℕ) (n : ℕ) (old now : OverFile) : Type 0 where
  pub own : Result (Unit {0}) FileStop
  pub ran : Ran old now own
  pub cancelled : Cancelled tells old now own
  pub fits : MatchResult answer (λ _. own ≡ Ok tt) (λ k. (n < k → own ≡ Ok tt) × (n ≡ k → (e : FileStop) × (own ≡ Err e)))

pub record CancelledUpTo (tells : Bool) (at : ℕ) (olds news : List OverFile) (answer : Result (Unit {0}) ℕ) : Type 0 where
  pub files : UpTo at (CancelledOne tells answer) olds news
  pub number : IfErr answer (λ k. k < at)

pub cancelled_none_yet : (tells : Bool) (files : List OverFile) → CancelledUpTo tells 0 files files (Ok tt)
cancelled_none_yet tells files = record { files = none_yet (CancelledOne tells (Ok tt)) files; number = tt }

-- one file more
module _ (tells : Bool) (at : ℕ) (olds mids : List OverFile) (old now : OverFile) (here : slice_get mids at ≡ Some old) where
  pub cancelled_more : (answer : Result (Unit {0}) ℕ) (own : Result (Unit {0}) FileStop) → CancelledUpTo tells at olds mids answer → Cancelled tells old now own
      → Ran old now own → CancelledUpTo tells (at + 1) olds (set mids at now) (with_file answer own at)
  cancelled_more (Ok v) (Ok w) S C R = record {
    files = one_more at (CancelledOne tells (Ok tt)) olds mids old now S.files here (record { own = Ok w; ran = R; cancelled = C; fits = refl });
    number = tt;
  }
  cancelled_more (Ok v) (Err e) S C R = record {
    files = one_more at (CancelledOne tells (Err at)) olds mids old now
        (up_to_as at (CancelledOne tells (Ok tt)) (CancelledOne tells (Err at)) olds mids S.files (λ n one two low is D.
        (record { own = D.own; ran = D.ran; cancelled = D.cancelled; fits = (λ less. D.fits, λ same. absurd (omega (arith, low, same))) })))
        here (record { own = Err e; ran = R; cancelled = C; fits = (λ less. absurd (omega (arith, less)), λ same. (e, refl)) });
    number = omega arith;
  }
  cancelled_more (Err k) own S C R = record {
    files = one_more at (CancelledOne tells (Err k)) olds mids old now S.files here
        (record { own = own; ran = R; cancelled = C; fits = (λ less. (let low = S.number in absurd (omega (arith, low, less))), λ same. (let low = S.number in absurd (omega (arith, low, same)))) });
    number = (let low = S.number in omega (arith, low));
  }

-- a list has something at each place below its length
found : (files : List OverFile) (k : ℕ) → k < length files → (w : OverFile) × (slice_get files k ≡ Some w)
found [] k low = absurd (omega (arith, low))
found (w ∷ files) zero low = (w, refl)
found (w ∷ files) (suc k) low = found files k (omega (arith, low))

-- Each went on, quietly where none broke off.
went_own : (answer : Result (Unit {0}) ℕ) (own : Result (Unit {0}) FileStop) (n : ℕ) (old now : OverFile) → Ran old now own
    → MatchResult answer (λ _. own ≡ Ok tt) (λ k. (n < k → own ≡ Ok tt) × (n ≡ k → (e : FileStop) × (own ≡ Err e))) → WentOn (cancel_answer answer) old now
went_own (Ok v) own n old now R is = went_well (Ok tt) old now tt (subst (Ran old now) is R)
went_own (Err k) own n old now R fits = record { rises = R.never_falls; quiet = tt; form = tt }

-- The transactions of all were cancelled.
module _ (tells : Bool) (at : ℕ) (olds news : List OverFile) where
  each_went : (answer : Result (Unit {0}) ℕ) → CancelledUpTo tells at olds news answer → at ≡ length olds → EachPair olds news (λ n old now. WentOn (cancel_answer answer) old now)
  each_went answer S all n old now was is =
      let D = every_pair at (CancelledOne tells answer) olds news S.files all n old now was is in
      went_own answer D.own n old now D.ran D.fits

  each_stays : (answer : Result (Unit {0}) ℕ) → CancelledUpTo tells at olds news answer → at ≡ length olds → IsTrue tells → (ps : ℕ → Maps) → EachFile olds (λ n w. IsAt (ps n).before w) → StayEach ps olds news
  each_stays answer S all told ps ats n old now was is =
      (every_pair at (CancelledOne tells answer) olds news S.files all n old now was is).cancelled.stops told (ps n).before (ats n old was)

  settled_by : (own : Result (Unit {0}) FileStop) (m : Map) (old now : OverFile) → own ≡ Ok tt → MatchResult own (λ _. IsSettled m now) (λ _. Rose old.faults now.faults) → IsSettled m now
  settled_by (Ok v) m old now is left = left
  settled_by (Err e) m old now is left = absurd (cc is)

  rose_by : (own : Result (Unit {0}) FileStop) (m : Map) (old now : OverFile) → (e : FileStop) × (own ≡ Err e) → MatchResult own (λ _. IsSettled m now) (λ _. Rose old.faults now.faults) → Rose old.faults now.faults
  rose_by (Ok v) m old now (e, is) left = absurd (cc is)
  rose_by (Err f) m old now is left = left

  settled_or_rose : (own : Result (Unit {0}) FileStop) (m : Map) (old now : OverFile) → MatchResult own (λ _. IsSettled m now) (λ _. Rose old.faults now.faults) → IsSettled m now ⊎ Rose old.faults now.faults
  settled_or_rose (Ok v) m old now left = inl left
  settled_or_rose (Err e) m old now left = inr left

  pub cancelled_all : (answer : Result (Unit {0}) ℕ) → CancelledUpTo tells at olds news answer → at ≡ length olds → CancelledEach tells olds news answer
  cancelled_all (Ok v) S all = record {
    count = S.files.count;
    number = tt;
    went = each_went (Ok tt) S all;
    left = λ told ps ats.
        each_now olds news (λ n w. IsSettled (ps n).before w) S.files.count (λ n old now was is.
        (let D = every_pair at (CancelledOne tells (Ok tt)) olds news S.files all n old now was is in
        settled_by D.own (ps n).before old now D.fits (D.cancelled.left told (ps n).before (ats n old was))));
    stops = each_stays (Ok tt) S all;
  }
  cancelled_all (Err k) S all = record {
    count = S.files.count;
    number = (let low = S.number in omega (arith, low, all));
    went = each_went (Err k) S all;
    left = λ told ps ats. record {
      rose = failed_at told ps ats;
      before = λ n now is less.
          (let O = now_there news olds (sym S.files.count) n now is in
          let D = every_pair at (CancelledOne tells (Err k)) olds news S.files all n O.0 now O.1 is in
          settled_by D.own (ps n).before O.0 now (D.fits.0 less) (D.cancelled.left told (ps n).before (ats n O.0 O.1)));
      others = λ n old now was is.
          (let D = every_pair at (CancelledOne tells (Err k)) olds news S.files all n old now was is in
          settled_or_rose D.own (ps n).before old now (D.cancelled.left told (ps n).before (ats n old was)));
    };
    stops = each_stays (Err k) S all;
  }
    where
      failed_at : IsTrue tells → (ps : ℕ → Maps) → EachFile olds (λ n w. IsAt (ps n).before w) → RoseAt olds news k
      failed_at told ps ats =
          let low = S.number in
          let O : (w : OverFile) × (slice_get olds k ≡ Some w) = found olds k (omega (arith, low, all)) in
          let N = now_there olds news S.files.count k O.0 O.1 in
          let D = every_pair at (CancelledOne tells (Err k)) olds news S.files all k O.0 N.0 O.1 N.1 in
          record { before = O.0; after = N.0; was = O.1; is = N.1; rose = rose_by D.own (ps k).before O.0 N.0 (D.fits.1 refl) (D.cancelled.left told (ps k).before (ats k O.0 O.1)) }
