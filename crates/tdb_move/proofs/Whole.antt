-- A move from its beginning to its end.
use Rattle.std.proofs.Common.{◌≡◌, ℕ, zero, suc, ◌≤◌, Bool, true, false, cond, IsTrue, List, [], ◌∷◌, ◌++◌, length, Option, None, Some, Result, Ok, Err, refl, sym, ◌∙◌, ap, subst, inl, inr, ◌⊎◌, arith}
use Rattle.std.specs.Prelude.{IsSome, nat_lt, slice_get}
use Rattle.std.proofs.lemmas.Bool.{cases_Bool}
use Rattle.std.specs.FinMap.{get, remove}
use Rattle.tdb_disk.specs.Count.{Rose}
use Rattle.tdb_disk.specs.History.{History, seen}
use Rattle.tdb_disk.specs.Stop.{LeavesOnly, Quiet}
use Rattle.tdb_disk.proofs.Runs.{leaves_join, leaves_now, leaves_weaker}
use Rattle.tdb_space.specs.Accepted.{AcceptWith}
use Rattle.tdb_space.specs.Form.{Form}
use Rattle.tdb_space.specs.Pairs.{same_key}
use Rattle.tdb_space.specs.Undoing.{Reopens}
use Rattle.tdb_space.proofs.Opening.Undone.{read_as_it_is}
use Rattle.tdb_space.proofs.Undoing.Alike.{exact_reopens}
use Rattle.tdb_law.specs.Openers.{Map, is_key}
use Rattle.tdb_law.specs.Replay.{put}
use Rattle.tdb_law.specs.World.{State}
use Rattle.tdb_space.proofs.Pairs.Maps.{same_key-other, same_key-refl}
use Rattle.tdb_law.proofs.HandsOut.{image_answers}
use Rattle.tdb_law.proofs.Maps.{get_drop, get_put, is_key-eq, is_key-refl}
use Rattle.tdb_law.proofs.Tests.{never_true}
use Rattle.tdb_law.proofs.Walking.{put_else}
use Rattle.tdb_world.specs.Calm.{OpensToEither, OpensToMap}
use Rattle.tdb_world.specs.Loaded.{IsJustLoaded}
use Rattle.tdb_world.specs.OverFile.{KeepsForm, OverFile}
use Rattle.tdb_world.specs.Stops.{IsSafe}
use Rattle.tdb_merge.specs.Merged.{Holding, OpensHolding, OpensHoldingEither}
use Rattle.tdb_group.specs.Calls.{Added, IsStopOfAdding, NotAdded}
use Rattle.tdb_group.specs.Each.{StayEach}
use Rattle.tdb_group.specs.Files.{StaysAt, maps}
use Rattle.tdb_group.specs.Group.{FileStands, GroupState, HasMaps, no_files}
use Rattle.tdb_group.specs.Members.{Maps, form_of_file}
use Rattle.tdb_group.specs.declared.stop.GroupStop.{GroupStop}
use Rattle.tdb_group.specs.declared.stop.GroupStop.TheVariants.{Refused, Io, LogFailed, Memory}
use Rattle.tdb_group.proofs.Groups.{some_same}
use Rattle.tdb_group.proofs.Parts.{kept_form}
use Rattle.tdb_move.specs.Faults.{OnDevice, UnlessDevice, of_stop}
use Rattle.tdb_move.specs.Moved.{Both, BothStay, MoveKeeps, MoveLeaves, Moves, both_of, moved, put as put_in}
use Rattle.tdb_move.specs.Parts.{AreFresh, BothBegan, FileWent, MoveLeft, MovedIn, NotBoth, OpenEach, SomeRose, moved_map, two_maps, with_value}
use Rattle.tdb_move.specs.declared.fault.MoveFault.{MoveFault}
use Rattle.tdb_move.specs.declared.fault.MoveFault.TheVariants as FaultIs
use Rattle.tdb_move.proofs.Parts.{stays_join, unless_more}

-- Two worlds were added to a group.
module _ (tells : Bool) (from into : OverFile) (one two : GroupState) (n m : ℕ) (A : Added tells into no_files one n) (B : Added tells from one two m) where
  both_is : two ≡ record { files = A.begun ∷ B.begun ∷ []; prepared = false; finished = 0; stopped = false }
  both_is = B.files ∙ ap (λ (g : GroupState). record g { files = g.files ++ B.begun ∷ [] }) A.files

  nothing : (ps : ℕ → Maps) → HasMaps ps no_files
  nothing ps k w is = absurd (cc is)

  second : m ≡ 1
  second = B.number ∙ ap (λ (g : GroupState). length g.files) A.files

  leads_both : IsTrue tells → (s t : State) → IsJustLoaded from.world from.history s → IsJustLoaded into.world into.history t → HasMaps (put (put (two_maps t.file s.file) 0 (maps t.file t.file)) 1 (maps s.file s.file)) two
  leads_both told s t J K =
      subst (λ k. HasMaps (put (put (two_maps t.file s.file) 0 (maps t.file t.file)) k (maps s.file s.file)) two) second
      (B.leads told s J (put (two_maps t.file s.file) 0 (maps t.file t.file))
      (subst (λ k. HasMaps (put (two_maps t.file s.file) k (maps t.file t.file)) one) A.number (A.leads told t K (two_maps t.file s.file) (nothing (two_maps t.file s.file)))))

  -- these are the maps of the two
  same_maps : (v u : Map) (k : ℕ) → put (put (two_maps v u) 0 (maps v v)) 1 (maps u u) k ≡ two_maps v u k
  same_maps v u zero = refl
  same_maps v u (suc zero) = refl
  same_maps v u (suc (suc k)) = put_else (put (two_maps v u) 0 (maps v v)) 1 (maps u u) (suc (suc k)) (λ e. absurd (omega (arith, e))) ∙ put_else (two_maps v u) 0 (maps v v) (suc (suc k)) (λ e. absurd (omega (arith, e)))

  pub both_began : BothBegan tells from into two
  both_began = record {
    file = B.begun;
    other = A.begun;
    is = both_is;
    file_ran = B.ran;
    other_ran = A.ran;
    leads = λ told s t J K n w is. subst (λ p. FileStands two.prepared (nat_lt n two.finished) p w) (same_maps t.file s.file n) (leads_both told s t J K n w is);
    file_stays = B.stops;
    other_stays = A.stops;
  }

-- The first wasn't added; or the second.
not_added : (tells : Bool) (w now : OverFile) (at : ℕ) (stop : GroupStop) → IsStopOfAdding tells w now at stop
    → ((of_stop stop ≡ FaultIs.Memory) × (now.faults ≡ w.faults)) ⊎ ((of_stop stop ≡ FaultIs.Device) × (IsTrue tells → (s : State) → IsJustLoaded w.world w.history s → Rose w.faults now.faults))
not_added tells w now at (Memory k) cause = inl (refl, cause.2)
not_added tells w now at (Io k) cause = inr (refl, cause.2)
not_added tells w now at (Refused k reply) cause = absurd cause
not_added tells w now at (LogFailed k) cause = absurd cause

device_memory : (e : MoveFault) → e ≡ FaultIs.Memory → e ≡ FaultIs.Device → ⊥
device_memory e m d = cc (m, d)

pub first_not : (tells : Bool) (from into now : OverFile) (one : GroupState) (stop : GroupStop) → from.spent ≡ from.spent → NotAdded tells into now no_files one stop
    → (IsTrue tells → (s : State) → IsJustLoaded from.world from.history s → IsSafe (form_of_file from) from.history → StaysAt s.file from from) → NotBoth tells from into from now (of_stop stop)
first_not tells from into now one stop same N stays = record {
  is = (elim (not_added tells into now _ stop N.cause) [ inl memory ↦ inl memory.0 | inr device ↦ inr device.0 ]);
  from_rises = omega arith;
  into_rises = N.rises;
  quiet = λ e. (refl, (elim (not_added tells into now _ stop N.cause) [ inl memory ↦ memory.1 | inr device ↦ absurd (device_memory (of_stop stop) e device.0) ]));
  rose = λ e told s t J K. (elim (not_added tells into now _ stop N.cause) [ inl memory ↦ absurd (device_memory (of_stop stop) memory.0 e) | inr device ↦ inr (device.1 told t K) ]);
  from_stays = stays;
  into_stays = N.stops;
}

pub second_not : (tells : Bool) (from into now : OverFile) (one two : GroupState) (n : ℕ) (stop : GroupStop) (A : Added tells into no_files one n) → NotAdded tells from now one two stop → (w : OverFile) → w ≡ A.begun → NotBoth tells from into now w (of_stop stop)
second_not tells from into now one two n stop A N w is =
    subst (λ z. NotBoth tells from into now z (of_stop stop)) (sym is) (record {
      is = (elim (not_added tells from now _ stop N.cause) [ inl memory ↦ inl memory.0 | inr device ↦ inr device.0 ]);
      from_rises = N.rises;
      into_rises = A.ran.never_falls;
      quiet = λ e. ((elim (not_added tells from now _ stop N.cause) [ inl memory ↦ memory.1 | inr device ↦ absurd (device_memory (of_stop stop) e device.0) ]), A.ran.quiet);
      rose = λ e told s t J K. (elim (not_added tells from now _ stop N.cause) [ inl memory ↦ absurd (device_memory (of_stop stop) memory.0 e) | inr device ↦ inl (device.1 told s J) ]);
      from_stays = N.stops;
      into_stays = A.stops;
    })

-- the one file of a list
pub last_one : (xs : List OverFile) (w b : OverFile) → b ∷ [] ≡ xs ++ w ∷ [] → w ≡ b
last_one [] w b e = cc e
last_one (x ∷ []) w b e = absurd (cc e)
last_one (x ∷ y ∷ xs) w b e = absurd (cc e)

-- a file is safe that is accepted, and all of which is on the medium
accepted_safe : (f : Form) (h : History) → AcceptWith f (seen h) [] → Quiet h → IsSafe f h
accepted_safe f h accepted quiet c left =
    let itself : Reopens (seen h) (seen h) = exact_reopens (seen h) (subst (λ g. AcceptWith g (seen h) []) (sym accepted.form) accepted) in
    subst (λ (q : List ℕ × List ℕ). Reopens q.0 q.1) (λ i. (sym (read_as_it_is f (seen h) accepted.shut) i, sym (quiet c left) i)) itself

-- What maps say of keys, in the words of what is held.
opens_holding : (f : Form) (m : Map) (held : Holding) → ((key : List ℕ) → get m key ≡ held key) → (c : List ℕ) → OpensToMap f m c → OpensHolding f held c
opens_holding f m held gives c O = record {
  image = O.image;
  reopens = O.reopens;
  holds = λ key. sym (image_answers f O.image key) ∙ ap (λ g. get g key) (sym O.map) ∙ gives key;
}

either_holding : (f : Form) (m n : Map) (one two : Holding) → ((key : List ℕ) → get m key ≡ one key) → ((key : List ℕ) → get n key ≡ two key) → (c : List ℕ) → OpensToEither f m n c → OpensHoldingEither f one two c
either_holding f m n one two gives then c (inl O) = inl (opens_holding f m one gives c O)
either_holding f m n one two gives then c (inr O) = inr (opens_holding f n two then c O)

same_test : (k q : List ℕ) → is_key k q ≡ same_key k q
same_test k q = elim (cases_Bool (is_key k q)) [
  | inl e ↦ e ∙ sym (subst (λ u. same_key k u ≡ true) (sym (is_key-eq k q e)) (same_key-refl k))
  | inr off ↦ off ∙ sym (same_key-other k q (λ e. never_true (sym off ∙ subst (λ u. is_key k u ≡ true) e (is_key-refl k))))
]

-- a map with a value under a key, or none, gives what is held so
with_gives : (key : List ℕ) (value : Option (List ℕ)) (m : Map) (held : Holding) → ((q : List ℕ) → get m q ≡ held q) → (q : List ℕ) → get (with_value key value m) q ≡ put_in held key value q
with_gives key None m held gives q = get_drop m key q ∙ ap (λ b. cond b None (get m q)) (same_test key q) ∙ ap (cond (same_key key q) None) (gives q)
with_gives key (Some v) m held gives q = get_put m key v q ∙ ap (λ b. cond b (Some v) (get m q)) (same_test key q) ∙ ap (cond (same_key key q) (Some v)) (gives q)

-- what two hold, unless a disk failed
unless_and : {V : Type 0} (answer : Result V MoveFault) (P Q : Type 0) → UnlessDevice answer P → UnlessDevice answer Q → UnlessDevice answer (P × Q)
unless_and (Ok v) P Q p q = (p, q)
unless_and (Err FaultIs.KeyMissing) P Q p q = (p, q)
unless_and (Err (FaultIs.Full len need)) P Q p q = (p, q)
unless_and (Err FaultIs.Device) P Q p q = tt
unless_and (Err FaultIs.Log) P Q p q = (p, q)
unless_and (Err FaultIs.Memory) P Q p q = (p, q)

fresh_two : (v u : Map) → AreFresh (two_maps v u)
fresh_two v u zero = refl
fresh_two v u (suc n) = refl

-- one of two files is that whose disk failed
some_two : (o f i w : OverFile) → SomeRose (o ∷ f ∷ []) (i ∷ w ∷ []) → Rose f.faults w.faults ⊎ Rose o.faults i.faults
some_two o f i w S = of S.at S.rose.before S.rose.after S.rose.was S.rose.is S.rose.rose
  where
    of : (n : ℕ) (a b : OverFile) → slice_get (o ∷ f ∷ []) n ≡ Some a → slice_get (i ∷ w ∷ []) n ≡ Some b → Rose a.faults b.faults → Rose f.faults w.faults ⊎ Rose o.faults i.faults
    of zero a b was is rose = inr (subst (λ z. Rose z i.faults) (ap (λ (x : OverFile). x.faults) (sym (some_same o a was))) (subst (Rose a.faults) (ap (λ (x : OverFile). x.faults) (sym (some_same i b is))) rose))
    of (suc zero) a b was is rose = inl (subst (λ z. Rose z w.faults) (ap (λ (x : OverFile). x.faults) (sym (some_same f a was))) (subst (Rose a.faults) (ap (λ (x : OverFile). x.faults) (sym (some_same w b is))) rose))
    of (suc (suc n)) a b was is rose = absurd (cc was)

-- The two worlds of a move, just loaded over accepted files.
module _ (key : List ℕ) (from into : OverFile) (s t : State) (J : IsJustLoaded from.world from.history s) (K : IsJustLoaded into.world into.history t)
    (from_accepted : AcceptWith (form_of_file from) (seen from.history) []) (into_accepted : AcceptWith (form_of_file into) (seen into.history) []) where
  abbrev held : Both
  held = both_of (form_of_file from) (form_of_file into) from.history into.history

  gives_from : (q : List ℕ) → get s.file q ≡ held.from q
  gives_from q = ap (λ m. get m q) J.over.file ∙ image_answers (form_of_file from) (seen from.history) q

  gives_into : (q : List ℕ) → get t.file q ≡ held.into q
  gives_into q = ap (λ m. get m q) K.over.file ∙ image_answers (form_of_file into) (seen into.history) q

  moved_from : (q : List ℕ) → get (remove s.file key) q ≡ (moved key held).from q
  moved_from q = with_gives key None s.file held.from gives_from q

  moved_into : (q : List ℕ) → get (with_value key (get s.file key) t.file) q ≡ (moved key held).into q
  moved_into q = with_gives key (get s.file key) t.file held.into gives_into q ∙ ap (λ o. put_in held.into key o q) (gives_from key)

  from_safe : Quiet from.history → IsSafe (form_of_file from) from.history
  from_safe quiet = accepted_safe (form_of_file from) from.history from_accepted quiet

  into_safe : Quiet into.history → IsSafe (form_of_file into) into.history
  into_safe quiet = accepted_safe (form_of_file into) into.history into_accepted quiet

  -- files that stay open to what they held
  stay_from : (w : OverFile) → StaysAt s.file from w → LeavesOnly from.history w.history (OpensHolding (form_of_file from) held.from)
  stay_from w stays = leaves_weaker from.history w.history (OpensToMap (form_of_file from) s.file) (OpensHolding (form_of_file from) held.from) (λ c opens. opens_holding (form_of_file from) s.file held.from gives_from c opens) stays

  stay_into : (w : OverFile) → StaysAt t.file into w → LeavesOnly into.history w.history (OpensHolding (form_of_file into) held.into)
  stay_into w stays = leaves_weaker into.history w.history (OpensToMap (form_of_file into) t.file) (OpensHolding (form_of_file into) held.into) (λ c opens. opens_holding (form_of_file into) t.file held.into gives_into c opens) stays

  both_stay : (w i : OverFile) → StaysAt s.file from w → StaysAt t.file into i → BothStay (form_of_file from) (form_of_file into) held w.history i.history
  both_stay w i A B = record {
    from_stays = λ c left. leaves_now from.history w.history (OpensHolding (form_of_file from) held.from) (stay_from w A) c left;
    into_stays = λ c left. leaves_now into.history i.history (OpensHolding (form_of_file into) held.into) (stay_into i B) c left;
  }

  -- no group was made of them
  pub moves_not : (tells : Bool) (w i : OverFile) (fault : MoveFault) → IsTrue tells → NotBoth tells from into w i fault → Moves (form_of_file from) (form_of_file into) key from.history into.history w.history i.history (Err fault)
  moves_not tells w i fault told N = record {
    left = left_of fault N.is;
    kept = λ quiet silent. kept_of fault N.is (both_stay w i (N.from_stays told s J (from_safe quiet)) (N.into_stays told t K (into_safe silent)));
    from_stops = λ quiet. leaves_weaker from.history w.history (OpensHolding (form_of_file from) held.from) (OpensHoldingEither (form_of_file from) held.from (moved key held).from) (λ c opens. inl opens) (stay_from w (N.from_stays told s J (from_safe quiet)));
    into_stops = λ quiet. leaves_weaker into.history i.history (OpensHolding (form_of_file into) held.into) (OpensHoldingEither (form_of_file into) held.into (moved key held).into) (λ c opens. inl opens) (stay_into i (N.into_stays told t K (into_safe quiet)));
  }
    where
      left_of : (e : MoveFault) → (e ≡ FaultIs.Memory) ⊎ (e ≡ FaultIs.Device) → MoveLeaves (form_of_file from) (form_of_file into) key held w.history i.history (Err e)
      left_of e (inl memory) = subst (λ z. MoveLeaves (form_of_file from) (form_of_file into) key held w.history i.history (Err z)) (sym memory) tt
      left_of e (inr device) = subst (λ z. MoveLeaves (form_of_file from) (form_of_file into) key held w.history i.history (Err z)) (sym device) tt

      kept_of : (e : MoveFault) → (e ≡ FaultIs.Memory) ⊎ (e ≡ FaultIs.Device) → BothStay (form_of_file from) (form_of_file into) held w.history i.history → MoveKeeps (form_of_file from) (form_of_file into) held w.history i.history (Err e)
      kept_of e (inl memory) stay = subst (λ z. MoveKeeps (form_of_file from) (form_of_file into) held w.history i.history (Err z)) (sym memory) stay
      kept_of e (inr device) stay = subst (λ z. MoveKeeps (form_of_file from) (form_of_file into) held w.history i.history (Err z)) (sym device) tt

-- A group was made of them, and the key moved in it or not.
module _ (tells : Bool) (key : List ℕ) (from into : OverFile) (g h : GroupState) (B : BothBegan tells from into g) (answer : Result (Unit {0}) MoveFault) (M : MovedIn tells key g h answer) (w i : OverFile) (files : h.files ≡ i ∷ w ∷ []) where
  from_was : slice_get g.files 1 ≡ Some B.file
  from_was = ap (λ (z : GroupState). slice_get z.files 1) B.is

  into_was : slice_get g.files 0 ≡ Some B.other
  into_was = ap (λ (z : GroupState). slice_get z.files 0) B.is

  from_is : slice_get h.files 1 ≡ Some w
  from_is = ap (λ (l : List OverFile). slice_get l 1) files

  into_is : slice_get h.files 0 ≡ Some i
  into_is = ap (λ (l : List OverFile). slice_get l 0) files

  from_went : FileWent answer B.file w
  from_went = M.each 1 B.file w from_was from_is

  into_went : FileWent answer B.other i
  into_went = M.each 0 B.other i into_was into_is

  pub from_rises : from.faults ≤ w.faults
  from_rises = let one = B.file_ran.never_falls in let two = from_went.rises in omega (arith, one, two)

  pub into_rises : into.faults ≤ i.faults
  into_rises = let one = B.other_ran.never_falls in let two = into_went.rises in omega (arith, one, two)

  pub both_quiet : UnlessDevice answer ((w.faults ≡ from.faults) × (i.faults ≡ into.faults))
  both_quiet =
      unless_and answer (w.faults ≡ from.faults) (i.faults ≡ into.faults)
      (unless_more answer (w.faults ≡ B.file.faults) (w.faults ≡ from.faults) (λ e. e ∙ B.file_ran.quiet) from_went.quiet)
      (unless_more answer (i.faults ≡ B.other.faults) (i.faults ≡ into.faults) (λ e. e ∙ B.other_ran.quiet) into_went.quiet)

  module _ (told : IsTrue tells) (s t : State) (J : IsJustLoaded from.world from.history s) (K : IsJustLoaded into.world into.history t) where
    abbrev ps : ℕ → Maps
    ps = two_maps t.file s.file

    left_so : MoveLeft key ps g.files h.files answer
    left_so = M.left told ps (B.leads told s t J K) (fresh_two t.file s.file)

    pub both_rose : OnDevice answer (Rose from.faults w.faults ⊎ Rose into.faults i.faults)
    both_rose = of answer left_so
      where
        here : SomeRose g.files h.files → Rose from.faults w.faults ⊎ Rose into.faults i.faults
        here S =
            elim (some_two B.other B.file i w (subst (λ (l : List OverFile). SomeRose l (i ∷ w ∷ [])) (ap (λ (z : GroupState). z.files) B.is) (subst (SomeRose g.files) files S))) [
              | inl rose ↦ inl (subst (λ n. Rose n w.faults) B.file_ran.quiet rose)
              | inr rose ↦ inr (subst (λ n. Rose n i.faults) B.other_ran.quiet rose)
            ]

        of : (a : Result (Unit {0}) MoveFault) → MoveLeft key ps g.files h.files a → OnDevice a (Rose from.faults w.faults ⊎ Rose into.faults i.faults)
        of (Ok v) left = tt
        of (Err FaultIs.KeyMissing) left = tt
        of (Err (FaultIs.Full len need)) left = tt
        of (Err FaultIs.Device) left = here left
        of (Err FaultIs.Log) left = tt
        of (Err FaultIs.Memory) left = tt

    module _ (from_accepted : AcceptWith (form_of_file from) (seen from.history) []) (into_accepted : AcceptWith (form_of_file into) (seen into.history) []) where
      abbrev b : Both
      b = both_of (form_of_file from) (form_of_file into) from.history into.history

      gave : (q : List ℕ) → get s.file q ≡ b.from q
      gave q = gives_from key from into s t J K from_accepted into_accepted q

      -- the forms of the files at first and now
      from_form : UnlessDevice answer (form_of_file from ≡ form_of_file w)
      from_form = unless_more answer (KeepsForm B.file w) (form_of_file from ≡ form_of_file w) (λ F. kept_form from B.file B.file_ran.form ∙ kept_form B.file w F) from_went.form

      into_form : UnlessDevice answer (form_of_file into ≡ form_of_file i)
      into_form = unless_more answer (KeepsForm B.other i) (form_of_file into ≡ form_of_file i) (λ F. kept_form into B.other B.other_ran.form ∙ kept_form B.other i F) into_went.form

      -- what both open to now
      open_both : (ms : ℕ → Map) (c : Both) → ((q : List ℕ) → get (ms 1) q ≡ c.from q) → ((q : List ℕ) → get (ms 0) q ≡ c.into q) → form_of_file from ≡ form_of_file w → form_of_file into ≡ form_of_file i → OpenEach ms h.files
          → BothStay (form_of_file from) (form_of_file into) c w.history i.history
      open_both ms c gives gives_too same too each = record {
        from_stays = λ z left. opens_holding (form_of_file from) (ms 1) c.from gives z (subst (λ f. OpensToMap f (ms 1) z) (sym same) (each 1 w from_is z left));
        into_stays = λ z left. opens_holding (form_of_file into) (ms 0) c.into gives_too z (subst (λ f. OpensToMap f (ms 0) z) (sym too) (each 0 i into_is z left));
      }

      leaves_so : (a : Result (Unit {0}) MoveFault) → MoveLeft key ps g.files h.files a → UnlessDevice a (form_of_file from ≡ form_of_file w) → UnlessDevice a (form_of_file into ≡ form_of_file i)
          → MoveLeaves (form_of_file from) (form_of_file into) key b w.history i.history a
      leaves_so (Ok v) left same too = (
        subst (λ (o : Option (List ℕ)). IsSome o) (gave key) left.0,
        open_both (moved_map key ps) (moved key b) (moved_from key from into s t J K from_accepted into_accepted) (moved_into key from into s t J K from_accepted into_accepted) same too left.1,
      )
      leaves_so (Err FaultIs.KeyMissing) left same too = (sym (gave key) ∙ left.0, open_both (λ n. (ps n).before) b gave (gives_into key from into s t J K from_accepted into_accepted) same too left.1)
      leaves_so (Err (FaultIs.Full len need)) left same too = (
        subst (λ (o : Option (List ℕ)). IsSome o) (gave key) left.0,
        open_both (λ n. (ps n).before) b gave (gives_into key from into s t J K from_accepted into_accepted) same too left.1,
      )
      leaves_so (Err FaultIs.Device) left same too = tt
      leaves_so (Err FaultIs.Log) left same too = tt
      leaves_so (Err FaultIs.Memory) left same too = tt

      -- where nothing was moved
      kept_stay : Quiet from.history → Quiet into.history → StayEach ps g.files h.files → BothStay (form_of_file from) (form_of_file into) b w.history i.history
      kept_stay quiet silent stay =
          both_stay key from into s t J K from_accepted into_accepted w i
          (stays_join s.file from B.file w B.file_ran.form (B.file_stays told s J (from_safe key from into s t J K from_accepted into_accepted quiet)) s.file refl (stay 1 B.file w from_was from_is))
          (stays_join t.file into B.other i B.other_ran.form (B.other_stays told t K (into_safe key from into s t J K from_accepted into_accepted silent)) t.file refl (stay 0 B.other i into_was into_is))

      keeps_so : (a : Result (Unit {0}) MoveFault) → MoveLeft key ps g.files h.files a → Quiet from.history → Quiet into.history → MoveKeeps (form_of_file from) (form_of_file into) b w.history i.history a
      keeps_so (Ok v) left quiet silent = tt
      keeps_so (Err FaultIs.KeyMissing) left quiet silent = tt
      keeps_so (Err (FaultIs.Full len need)) left quiet silent = tt
      keeps_so (Err FaultIs.Device) left quiet silent = tt
      keeps_so (Err FaultIs.Log) left quiet silent = kept_stay quiet silent left
      keeps_so (Err FaultIs.Memory) left quiet silent = kept_stay quiet silent left

      -- a file that began at its map, and then stops at that or as moved
      began_then : (m n : Map) (a f z : OverFile) → KeepsForm a f → StaysAt m a f → LeavesOnly f.history z.history (OpensToEither (form_of_file f) m n) → LeavesOnly a.history z.history (OpensToEither (form_of_file a) m n)
      began_then m n a f z F A C =
          leaves_join a.history f.history z.history (OpensToEither (form_of_file a) m n)
          (leaves_weaker a.history f.history (OpensToMap (form_of_file a) m) (OpensToEither (form_of_file a) m n) (λ c opens. inl opens) A)
          (subst (λ x. LeavesOnly f.history z.history (OpensToEither x m n)) (sym (kept_form a f F)) C)

      pub moves : Moves (form_of_file from) (form_of_file into) key from.history into.history w.history i.history answer
      moves = record {
        left = leaves_so answer left_so from_form into_form;
        kept = λ quiet silent. keeps_so answer left_so quiet silent;
        from_stops = λ quiet.
            leaves_weaker from.history w.history (OpensToEither (form_of_file from) s.file (moved_map key ps 1)) (OpensHoldingEither (form_of_file from) b.from (moved key b).from)
            (either_holding (form_of_file from) s.file (moved_map key ps 1) b.from (moved key b).from gave (moved_from key from into s t J K from_accepted into_accepted))
            (began_then s.file (moved_map key ps 1) from B.file w B.file_ran.form (B.file_stays told s J (from_safe key from into s t J K from_accepted into_accepted quiet))
            (M.stops told ps (B.leads told s t J K) (fresh_two t.file s.file) 1 B.file w from_was from_is));
        into_stops = λ quiet.
            leaves_weaker into.history i.history (OpensToEither (form_of_file into) t.file (moved_map key ps 0)) (OpensHoldingEither (form_of_file into) b.into (moved key b).into)
            (either_holding (form_of_file into) t.file (moved_map key ps 0) b.into (moved key b).into (gives_into key from into s t J K from_accepted into_accepted) (moved_into key from into s t J K from_accepted into_accepted))
            (began_then t.file (moved_map key ps 0) into B.other i B.other_ran.form (B.other_stays told t K (into_safe key from into s t J K from_accepted into_accepted quiet))
            (M.stops told ps (B.leads told s t J K) (fresh_two t.file s.file) 0 B.other i into_was into_is));
      }
