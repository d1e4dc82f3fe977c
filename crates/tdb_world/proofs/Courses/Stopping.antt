-- What a stop leaves while plays are taken: where nothing is done on the disk, and of one part after another.
use Rattle.std.proofs.Common.{◌≡◌, ◌⊎◌, ⊎_elim, ℕ, Bool, IsTrue, List, [], ◌∷◌, ◌++◌, Result, Ok, Err, refl, sym, ◌∙◌, ap, subst, inl, inr, append_assoc, append-nil}
use Rattle.std.proofs.lemmas.List.{append_cancel_left, map-append}
use Rattle.tdb_disk.specs.History.{History, Extends, seen}
use Rattle.tdb_disk.specs.Stop.{LeavesOnly}
use Rattle.tdb_disk.proofs.Runs.{leaves_join, leaves_start, leaves_weaker}
use Rattle.tdb_space.specs.Form.{Form, form_in}
use Rattle.tdb_space.specs.Opening.{restored}
use Rattle.tdb_law.specs.Lines.{Line as LawLine}
use Rattle.tdb_law.specs.Plays.{Play, Gives}
use Rattle.tdb_law.specs.World.{State}
use Rattle.tdb_commands.specs.declared.line.Line.{Line}
use Rattle.tdb_commands.specs.InLaw.{law_line, law_lines}
use Rattle.tdb_openers.specs.Played.{UnlessIo}
use Rattle.tdb_openers.specs.declared.fault.RunFault.{RunFault}
use Rattle.tdb_openers.specs.declared.fault.RunFault.TheVariants.{Io, Memory}
use Rattle.tdb_openers.proofs.Joining.Courses.{course_join}
use Rattle.tdb_world.specs.Died.{IsReadAs}
use Rattle.tdb_world.specs.States.{IsStateOf}
use Rattle.tdb_world.specs.Stops.{IsSafe, OpensToState}
use Rattle.tdb_world.specs.Whole.{Whole, form_at}
use Rattle.tdb_world.proofs.Reopening.{state_reopens}
use Rattle.tdb_world.specs.Courses.Led.{Moment, IsStateAt}
use Rattle.tdb_world.specs.Courses.Stops.{Leads, Passes, PassesBehind, IsTransacted, OpensAndStays, OpensBehind, OpensOnTheWay, StaysSince, StaysTold, StopsOn, StopsLed, TellsDone}
use Rattle.tdb_world.proofs.Courses.Leading.{lines_join}

module _ (f : Form) where
  -- no play leads on, one does, and some do behind others
  pub leads_none : (state : State) → Leads f state [] state
  leads_none state = ([], (refl, refl))

  pub leads_one : (old new : State) (play : Play) (lines : List LawLine) → Gives f old play lines new → Leads f old lines new
  leads_one old new play lines G = (play ∷ [], (new, lines, [], sym (append-nil lines), G, (refl, refl)))

  pub leads_join : (old mid new : State) (front rest : List LawLine) → Leads f old front mid → Leads f mid rest new → Leads f old (front ++ rest) new
  leads_join old mid new front rest one two = (one.0 ++ two.0, course_join f one.0 two.0 old mid new front rest one.1 two.1)

  -- a report passes the state that it begins with, and what its parts pass
  pub passes_here : (old : State) (lines : List LawLine) → Passes f old lines old
  passes_here old lines = record { front = []; rest = lines; parts = refl; leads = leads_none old }

  pub passes_front : (old s : State) (front rest : List LawLine) → Passes f old front s → Passes f old (front ++ rest) s
  passes_front old s front rest P =
      record { front = P.front; rest = P.rest ++ rest; parts = ap (λ ls. ls ++ rest) P.parts ∙ append_assoc P.front P.rest rest; leads = P.leads }

  pub passes_behind : (old mid s : State) (front rest : List LawLine) → Leads f old front mid → Passes f mid rest s → Passes f old (front ++ rest) s
  passes_behind old mid s front rest L P = record {
    front = front ++ P.front;
    rest = P.rest;
    parts = ap (λ ls. front ++ ls) P.parts ∙ sym (append_assoc front P.front P.rest);
    leads = leads_join old mid s front P.front L P.leads;
  }

-- no line is cut out of none; and where lines of two parts are cut at one, one of the parts is
pub none_cut : {A : Type 0} (front rest : List A) (x : A) → [] ≡ front ++ x ∷ rest → ⊥
none_cut [] rest x e = cc
none_cut (y ∷ front) rest x e = cc

pub cut_in : {A : Type 0} (a b front rest : List A) (x : A) → a ++ b ≡ front ++ x ∷ rest
    → ((behind : List A) × (a ≡ front ++ x ∷ behind) × (rest ≡ behind ++ b)) ⊎ ((before : List A) × (front ≡ a ++ before) × (b ≡ before ++ x ∷ rest))
cut_in [] b front rest x e = inr (front, refl, e)
cut_in (y ∷ a) b [] rest x e =
    let first : y ≡ x = cc in
    let others : a ++ b ≡ rest = cc in
    inl (a, ap (λ z. z ∷ a) first, sym others)
cut_in (y ∷ a) b (z ∷ front) rest x e =
    let first : y ≡ z = cc in
    let others : a ++ b ≡ front ++ x ∷ rest = cc in
    ⊎_elim (λ h. inl (h.0, ap (λ l. y ∷ l) h.1 ∙ ap (λ w. w ∷ (front ++ x ∷ h.0)) first, h.2)) (λ h. inr (h.0, ap (λ l. z ∷ l) h.1 ∙ ap (λ w. w ∷ (a ++ h.0)) (sym first), h.2)) (cut_in a b front rest x others)

-- What was told stays: where nothing was told, where lines tell of what led to now, and of one part after another.
pub nothing_stays : (f : Form) (old new : History) (state : State) → StaysTold f old new state []
nothing_stays f old new state front rest line cut done = absurd (none_cut front rest line cut)

-- a history goes on from one that another goes on from
further_on : (a b c : History) → Extends a b → Extends b c → Extends a c
further_on a b c one two = (leaves_join a b c (λ image. Unit {0}) (record { extends = one; each = λ image left. tt }) (record { extends = two; each = λ image left. tt })).extends

module _ (f : Form) (old new : History) (state after : State) (further : Extends old new) (reads : IsReadAs f (seen new) after) (safe : IsSafe f new) where
  stays_now : (front rest : List LawLine) → Leads f state front after → StaysSince f old new state front rest
  stays_now front rest leads = record {
    since = new;
    begins = further;
    reached = after;
    leads = leads;
    reads = reads;
    stays = leaves_start new (OpensBehind f state front rest)
        (λ c left. (
          after,
          0,
          record { more = []; left = rest; parts = refl; leads = subst (λ ls. Leads f state ls after) (sym (append-nil front)) leads },
          inl (record { image = restored f (seen new); reopens = safe c left; file = reads.file; number = reads.number }),
        ));
  }

  pub lines_stay : (lines : List LawLine) → ((front rest : List LawLine) (line : LawLine) → lines ≡ front ++ line ∷ rest → TellsDone line → Leads f state (front ++ line ∷ []) after)
      → StaysTold f old new state lines
  lines_stay lines leads front rest line cut done = stays_now (front ++ line ∷ []) rest (leads front rest line cut done)

  line_leads : (only : LawLine) → Leads f state (only ∷ []) after → (front rest : List LawLine) (line : LawLine) → only ∷ [] ≡ front ++ line ∷ rest → Leads f state (front ++ line ∷ []) after
  line_leads only leads [] rest line cut =
      let same : only ≡ line = cc in
      subst (λ l. Leads f state (l ∷ []) after) same leads
  line_leads only leads (x ∷ front) rest line cut =
      let others : [] ≡ front ++ line ∷ rest = cc in
      absurd (none_cut front rest line others)

  -- one line, or none
  pub line_stays : (lines : List LawLine) → ((lines ≡ []) ⊎ ((only : LawLine) × (lines ≡ only ∷ []))) → Leads f state lines after → StaysTold f old new state lines
  line_stays lines (inl none) leads = subst (StaysTold f old new state) (sym none) (nothing_stays f old new state)
  line_stays lines (inr (only, is)) leads =
      subst (StaysTold f old new state) (sym is) (lines_stay (only ∷ []) (λ front rest line cut done. line_leads only (subst (λ ls. Leads f state ls after) is leads) front rest line cut))

-- one part, which leads on, and another behind it
module _ (f : Form) (a b c : History) (state mid : State) (one two : List LawLine) (leads : Leads f state one mid) where
  longer_behind : (front rest : List LawLine) (s : State) → PassesBehind f state front rest s → PassesBehind f state front (rest ++ two) s
  longer_behind front rest s P =
      record { more = P.more; left = P.left ++ two; parts = ap (λ ls. ls ++ two) P.parts ∙ append_assoc P.more P.left two; leads = P.leads }

  passes_later : (front rest : List LawLine) → one ≡ front ++ rest → (s : State) → Passes f mid two s → PassesBehind f state front (rest ++ two) s
  passes_later front rest cut s P = record {
    more = rest ++ P.front;
    left = P.rest;
    parts = ap (λ ls. rest ++ ls) P.parts ∙ sym (append_assoc rest P.front P.rest);
    leads = subst (λ ls. Leads f state ls s) (ap (λ ls. ls ++ P.front) cut ∙ append_assoc front rest P.front) (leads_join f state mid s one P.front leads P.leads);
  }

  passes_after : (front rest : List LawLine) (s : State) → PassesBehind f mid front rest s → PassesBehind f state (one ++ front) rest s
  passes_after front rest s P = record {
    more = P.more;
    left = P.left;
    parts = P.parts;
    leads = subst (λ ls. Leads f state ls s) (sym (append_assoc one front P.more)) (leads_join f state mid s one (front ++ P.more) leads P.leads);
  }

  front_stays : (front rest : List LawLine) → one ≡ front ++ rest → StaysSince f a b state front rest → LeavesOnly b c (OpensOnTheWay f mid two) → StaysSince f a c state front (rest ++ two)
  front_stays front rest cut S next = record {
    since = S.since;
    begins = S.begins;
    reached = S.reached;
    leads = S.leads;
    reads = S.reads;
    stays = leaves_join S.since b c (OpensBehind f state front (rest ++ two))
        (leaves_weaker S.since b (OpensBehind f state front rest) (OpensBehind f state front (rest ++ two)) (λ i O. (O.0, O.1, longer_behind front rest O.0 O.2, O.3)) S.stays)
        (leaves_weaker b c (OpensOnTheWay f mid two) (OpensBehind f state front (rest ++ two)) (λ i O. (O.0, O.1, passes_later front rest cut O.0 O.2, O.3)) next);
  }

  rest_stays : Extends a b → (front rest : List LawLine) → StaysSince f b c mid front rest → StaysSince f a c state (one ++ front) rest
  rest_stays further front rest S = record {
    since = S.since;
    begins = further_on a b S.since further S.begins;
    reached = S.reached;
    leads = leads_join f state mid S.reached one front leads S.leads;
    reads = S.reads;
    stays = leaves_weaker S.since c (OpensBehind f mid front rest) (OpensBehind f state (one ++ front) rest) (λ i O. (O.0, O.1, passes_after front rest O.0 O.2, O.3)) S.stays;
  }

  both_stay : OpensAndStays f a b state one → OpensAndStays f b c mid two → StaysTold f a c state (one ++ two)
  both_stay first next front rest line cut done =
      elim (cut_in one two front rest line cut) [
        | inl h ↦ subst (StaysSince f a c state (front ++ line ∷ [])) (sym h.2)
            (front_stays (front ++ line ∷ []) h.0 (h.1 ∙ sym (append_assoc front (line ∷ []) h.0)) (first.stays front h.0 line h.1 done) next.opens)
        | inr h ↦ subst (λ ls. StaysSince f a c state ls rest) (sym (ap (λ ls. ls ++ line ∷ []) h.1 ∙ append_assoc one h.0 (line ∷ [])))
            (rest_stays first.opens.extends (h.0 ++ line ∷ []) rest (next.stays h.0 rest line h.2 done))
      ]

  pub both_open : OpensAndStays f a b state one → OpensAndStays f b c mid two → OpensAndStays f a c state (one ++ two)
  both_open first next = record {
    opens = leaves_join a b c (OpensOnTheWay f state (one ++ two))
        (leaves_weaker a b (OpensOnTheWay f state one) (OpensOnTheWay f state (one ++ two)) (λ i O. (O.0, O.1, passes_front f state O.0 one two O.2, O.3)) first.opens)
        (leaves_weaker b c (OpensOnTheWay f mid two) (OpensOnTheWay f state (one ++ two)) (λ i O. (O.0, O.1, passes_behind f state mid O.0 one two leads O.2, O.3)) next.opens);
    stays = both_stay first next;
  }

-- what leads to the history that they go on from, and leaves only what opens on their way
pub opens_before : (f : Form) (a b c : History) (state : State) (lines : List LawLine) → LeavesOnly a b (OpensOnTheWay f state lines) → OpensAndStays f b c state lines → OpensAndStays f a c state lines
opens_before f a b c state lines first next = record {
  opens = leaves_join a b c (OpensOnTheWay f state lines) first next.opens;
  stays = λ front rest line cut done. (let S = next.stays front rest line cut done in
      record { since = S.since; begins = further_on a b S.since first.extends S.begins; reached = S.reached; leads = S.leads; reads = S.reads; stays = S.stays });
}

-- the file of a world opens to a state that it has now, where it is safe
pub safe_opens : (w : Whole) (h : History) (state : State) → IsStateOf w h state → IsSafe (form_at w) h → LeavesOnly h h (OpensToState (form_at w) state)
safe_opens w h state is safe =
    let f = form_at w in
    let R = state_reopens w h state is in
    leaves_start h (OpensToState f state) (λ c left. record { image = restored f (seen h); reopens = safe c left; file = R.file; number = R.number })

-- what opens to the state that a report begins with opens on the way
pub opens_first : (f : Form) (h g : History) (state : State) (o : ℕ) (lines : List LawLine) → LeavesOnly h g (OpensToState f state) → LeavesOnly h g (OpensOnTheWay f state lines)
opens_first f h g state o lines only =
    leaves_weaker h g (OpensToState f state) (OpensOnTheWay f state lines) (λ c O. (state, o, passes_here f state lines, inl O)) only

-- what follows from what holds unless the disk failed
unless_weaker : {V : Type 0} (r : Result V RunFault) (X Y : Type 0) → (X → Y) → UnlessIo r X → UnlessIo r Y
unless_weaker (Ok v) X Y more x = more x
unless_weaker (Err Memory) X Y more x = more x
unless_weaker (Err Io) X Y more x = tt

-- the lines that were added are these
pub same_added : (old new added more : List Line) → new ≡ old ++ added → new ≡ old ++ more → added ≡ more
same_added old new added more one two = append_cancel_left old added more (sym one ∙ two)

-- What leads from one moment to another without a call on the disk.
pub stops_still : {V : Type 0} (tells : Bool) (old new : Moment) (r : Result V RunFault) (more : List Line) → new.history ≡ old.history → new.lines ≡ old.lines ++ more
    → (IsTrue tells → (state : State) → IsStateAt old state → UnlessIo r ((after : State) × IsStateAt new after × Leads (form_at old.world) state (law_lines more) after))
    → (IsTrue tells → (state : State) → IsStateAt old state → IsSafe (form_at old.world) old.history → StaysTold (form_at old.world) old.history old.history state (law_lines more)) → StopsLed tells old new r
stops_still tells old new r more same lines leads stays told state added is eq safe calm =
    let f = form_at old.world in
    let cut : more ≡ added = same_added old.lines new.lines more added lines eq in
    record {
      stops = subst (λ h. LeavesOnly old.history h (OpensOnTheWay f state (law_lines added))) (sym same)
          (opens_first f old.history old.history state 0 (law_lines added) (safe_opens old.world old.history state is safe));
      stays = subst (λ (q : History × List Line). StaysTold f old.history q.0 state (law_lines q.1)) (λ i. (sym same i, cut i)) (stays told state is safe);
      left = unless_weaker r ((after : State) × IsStateAt new after × Leads f state (law_lines more) after)
          ((after : State) × IsStateAt new after × Leads f state (law_lines added) after × IsSafe f new.history)
          (λ J. (J.0, J.1, subst (λ ls. Leads f state (law_lines ls) J.0) cut J.2, subst (IsSafe f) (sym same) safe)) (leads told state is);
    }

-- nothing was done
unless_done : {V : Type 0} (r : Result V RunFault) (X : Type 0) → X → UnlessIo r X
unless_done (Ok v) X x = x
unless_done (Err Memory) X x = x
unless_done (Err Io) X x = tt

pub stops_none : {V : Type 0} (tells : Bool) (old new : Moment) (r : Result V RunFault) → new.world ≡ old.world → new.history ≡ old.history → new.lines ≡ old.lines → StopsLed tells old new r
stops_none tells old new r world same lines =
    stops_still tells old new r [] same (lines ∙ sym (append-nil old.lines))
    (λ told state is.
    unless_done r ((after : State) × IsStateAt new after × Leads (form_at old.world) state [] after)
    (state, subst (λ h. IsStateOf new.world h state) (sym same) (subst (λ w. IsStateOf w old.history state) (sym world) is), leads_none (form_at old.world) state))
    (λ told state is safe. nothing_stays (form_at old.world) old.history old.history state)

-- the same of another answer
pub stops_whole : {V W : Type 0} (tells : Bool) (old new : Moment) (v : V) (w : W) → StopsLed tells old new (Ok v) → StopsLed tells old new (Ok w)
stops_whole tells old new v w A told state added is eq safe calm = let S = A told state added is eq safe calm in record { stops = S.stops; stays = S.stays; left = S.left }

pub stops_fault : {V W : Type 0} (tells : Bool) (old new : Moment) (e : RunFault) → StopsLed {V = V} tells old new (Err e) → StopsLed {V = W} tells old new (Err e)
stops_fault tells old new Memory A told state added is eq safe calm = let S = A told state added is eq safe calm in record { stops = S.stops; stays = S.stays; left = S.left }
stops_fault tells old new Io A told state added is eq safe calm = let S = A told state added is eq safe calm in record { stops = S.stops; stays = S.stays; left = tt }

-- One after the other.
module _ {U V : Type 0} (tells : Bool) (old mid new : Moment) (u : U) (front rest : List Line) (header : mid.world.openers.header ≡ old.world.openers.header)
    (one : mid.lines ≡ old.lines ++ front) (two : new.lines ≡ mid.lines ++ rest) where
  stops_behind : (r : Result V RunFault) (state m : State) (la lb : List LawLine) → OpensAndStays (form_at old.world) old.history mid.history state la → Leads (form_at old.world) state la m
      → StopsOn mid new r m lb → StopsOn old new r state (la ++ lb)
  stops_behind r state m la lb first leads T =
      let f = form_at old.world in
      let W = both_open f old.history mid.history new.history state m la lb leads first (subst (λ g. OpensAndStays (form_in g) mid.history new.history m lb) header (record { opens = T.stops; stays = T.stays })) in
      record {
        stops = W.opens;
        stays = W.stays;
        left = unless_weaker r ((after : State) × IsStateAt new after × Leads (form_at mid.world) m lb after × IsSafe (form_at mid.world) new.history)
            ((after : State) × IsStateAt new after × Leads f state (la ++ lb) after × IsSafe f new.history)
            (λ J. (J.0, J.1, leads_join f state m J.0 la lb leads (subst (λ g. Leads (form_in g) m lb J.0) header J.2), subst (λ g. IsSafe (form_in g) new.history) header J.3)) T.left;
      }

  pub stops_join : (r : Result V RunFault) → StopsLed tells old mid (Ok u) → StopsLed tells mid new r → StopsLed tells old new r
  stops_join r A B told state added is eq safe calm =
      let f = form_at old.world in
      let la = law_lines front in
      let lb = law_lines rest in
      let cut : la ++ lb ≡ law_lines added =
      sym (map-append law_line front rest) ∙ ap law_lines (same_added old.lines new.lines (front ++ rest) added (lines_join old.lines mid.lines new.lines front rest one two) eq) in
      let calm_both : IsTransacted f state (la ++ lb) = subst (IsTransacted f state) (sym cut) calm in
      let S = A told state front is one safe (λ s o P. calm_both s o (passes_front f state s la lb P)) in
      let J = S.left in
      let T = B told J.0 rest J.1 two (subst (λ g. IsSafe (form_in g) mid.history) (sym header) J.3)
      (subst (λ g. IsTransacted (form_in g) J.0 lb) (sym header) (λ s o P. calm_both s o (passes_behind f state J.0 s la lb J.2 P))) in
      subst (StopsOn old new r state) cut (stops_behind r state J.0 la lb (record { opens = S.stops; stays = S.stays }) J.2 T)
