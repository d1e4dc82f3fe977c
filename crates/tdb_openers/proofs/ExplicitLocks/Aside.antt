-- An opener without a command that takes all records, or lets go of them: it holds nothing else, and the world stands
-- as before.
use Rattle.std.proofs.Common.{◌≡◌, ◌≢◌, ℕ, ◌+◌, ◌-◌, ◌<◌, ◌≤◌, max, List, slice_get, Bool, true, false, nat_lt, sum, Option, Some, None, is_some, slice_index_or, slice_set, Result, Ok, Err, OnOk, OnErr, IfErr, refl, sym, ◌∙◌, ap, subst, inl, inr, arith, le_refl}
use Rattle.std.specs.Prelude.{IfSome, if◌then◌else◌}
use Rattle.std.proofs.lemmas.Bool.{cases_Bool}
use Rattle.std.proofs.lemmas.Bool.Decides.{nat_tests}
use Rattle.std.specs.Map.{values_of}
use Rattle.tdb_space.specs.Form.{Form, form_in}
use Rattle.tdb_locks.specs.HeldLocks.{HeldLocks, AreCounts, nothing_held}
use Rattle.tdb_locks.specs.LockTable.{ChangesRange, held}
use Rattle.tdb_locks.specs.LockTable as Table
use Rattle.tdb_locks.specs.declared.kind.Kind.{Kind}
use Rattle.tdb_locks.specs.declared.kind.Kind.TheVariants.{Read, Write}
use Rattle.tdb_locks.specs.declared.locks.LockRefusal.{LockRefusal}
use Rattle.tdb_locks.specs.declared.locks.LockRefusal.TheVariants.{Conflict, Memory}
use Rattle.tdb_locks.specs.declared.piece.Piece.{Piece}
use Rattle.tdb_commands.specs.InLaw.{law_opener}
use Rattle.tdb_law.specs.Lines.{most_openers}
use Rattle.tdb_law.specs.Rows.{lock_all, all_end}
use Rattle.tdb_law.specs.Held.{covers, all_held, holding}
use Rattle.tdb_law.specs.Effects.{IsFree, IsFirstConflict}
use Rattle.tdb_steps.specs.Holdings.{strength, table_of, KeptBeside}
use Rattle.tdb_steps.specs.LockRows.{strength_of}
use Rattle.tdb_steps.proofs.Holdings.{row_free, row_blocked, taken_at, let_go_at}
use Rattle.tdb_walk.specs.Again.{RestsAt}
use Rattle.tdb_openers.specs.Aside.{IsBare, HoldsRecords, AreFree, AreBarred, with_records, wants_all}
use Rattle.tdb_openers.specs.Cursors.{is_stood, CursorKnows, OpenerSpares, StandApart, cursor_at}
use Rattle.tdb_openers.specs.Given.{holds_chains, IsWellHeld}
use Rattle.tdb_openers.specs.Laws.{IsPut}
use Rattle.tdb_openers.specs.Locked.{IsInTheWay, all_row}
use Rattle.tdb_openers.specs.Openers.{all_of, own_with, own_of, own_at, rest_of, spot_by, spot_at, spots_of, walk_of, steps_of, task_at, law_task, hands_at, OpenerStands, OpenerKnows, TaskStands}
use Rattle.tdb_openers.specs.States.{WorldStands, FileStands}
use Rattle.tdb_openers.specs.Turning.{law_table}
use Rattle.tdb_openers.specs.Worlds.{World, IsNumber, Stands, BytesStand}
use Rattle.tdb_openers.specs.declared.opener.Opener.{Opener}
use Rattle.tdb_commands.specs.declared.options.Options.{Options}
use Rattle.tdb_openers.proofs.ExplicitLocks.Beside.{all_alone}
use Rattle.tdb_openers.proofs.ExplicitLocks.Granted.{none_held_there}
use Rattle.tdb_openers.proofs.Joining.Putting.{by_number, numbered, put_numbered}
use Rattle.tdb_openers.proofs.Joining.Replacing.{at_each, file_set, hands_set}
use Rattle.tdb_openers.proofs.Walks.Rests.{spot_rests, walk_rests, walk_still, walk_well}
use Rattle.tdb_openers.proofs.ExplicitLocks.Shifted.{at_most_two, free_law, first_law}
use Rattle.tdb_openers.proofs.PlainTurns.Standing.{IsSet, put_set, world_set}
use Rattle.tdb_openers.proofs.Joining.Stood.{injected, place_entry, same_spots}

-- a lock of all records is of this many bytes, and holds nothing elsewhere
all_off : (all : Option (Kind × ℕ)) (b : ℕ) → covers (lock_all 0 1) b ≡ false → all_held (all_of all) b ≡ 0
all_off None b off = refl
all_off (Some a) b off = ap (λ z. max (if z then strength_of a.0 else 0) 0) off

once_held : (kind : Kind) (count b : ℕ) → all_held (all_of (Some (kind, count))) b ≡ wants_all kind b
once_held kind count b = omega arith

pub strong_some : (kind : Kind) → (0 < strength_of kind) × (strength_of kind ≤ 2)
strong_some Read = (omega arith, omega arith)
strong_some Write = (omega arith, omega arith)

wants_off : (kind : Kind) (b : ℕ) → wants_all kind b ≤ 0 → covers (lock_all 0 1) b ≡ false
wants_off kind b none = elim (cases_Bool (covers (lock_all 0 1) b)) [
  | inr off ↦ off
  | inl on ↦ absurd (let here : wants_all kind b ≡ strength_of kind = ap (λ z. if z then strength_of kind else 0) on in omega (arith, none, here, (strong_some kind).0))
]

pub wants_most : (kind : Kind) (b : ℕ) → wants_all kind b ≤ 2
wants_most kind b = most (covers (lock_all 0 1) b)
  where
    most : (z : Bool) → (if z then strength_of kind else 0) ≤ 2
    most true = (strong_some kind).1
    most false = omega arith

-- where it isn't covered it is taken whole
module _ (ps qs : List Piece) (who : ℕ) (kind : Kind) (before : (b : ℕ) → covers (lock_all 0 1) b ≡ false → law_table ps who b ≡ 0) where
  not_kept : KeptBeside nothing_held (λ b. 0) (all_row kind)
  not_kept = record { covered = λ e. absurd (cc e); bare = λ e b low high. refl }

  pub all_taken : ChangesRange ps qs (who + 1) 168 all_end (Some kind) → (b : ℕ) → law_table qs who b ≡ wants_all kind b
  all_taken C b = elim (taken_at nothing_held (λ b. 0) (who + 1) ps qs (all_row kind) not_kept (λ e. absurd (cc e)) (λ e. C) b) [
    | inr taken ↦ taken.1
    | inl same ↦ let none = before b (wants_off kind b same.0) in omega (arith, same.0, same.1, none)
  ]

  pub all_let_go : ChangesRange ps qs (who + 1) 168 all_end None → (b : ℕ) → law_table qs who b ≡ 0
  all_let_go C b = elim (let_go_at nothing_held (λ b. 0) (who + 1) ps qs (all_row Read) (record { covered = λ e. absurd (cc e); bare = λ e b low high. refl }) (record { covered = λ e. absurd (cc e); bare = λ e. C }) b) [
    | inr gone ↦ gone.1
    | inl same ↦ let none = before b (wants_off Read b same.0) in omega (arith, same.1, none)
  ]

zero_of : (n : ℕ) → nat_lt 0 n ≡ false → n ≡ 0
zero_of n e = grind (arith, nat_tests)

-- a count of all records that was taken once at most
abbrev pub IsOnce : Option (Kind × ℕ) → Type 0
IsOnce all = IfSome all (λ z. z.1 ≡ 1)

once_well : (held : HeldLocks) → IsWellHeld held → holds_chains held ≡ false → (all : Option (Kind × ℕ)) → IsOnce all → IsWellHeld (record { chains = held.chains; all = all })
once_well held H none None once = record { counts = H.counts; taken = tt; apart = λ e. none; few = let zero_sum = zero_of (sum (values_of held.chains)) none in omega (arith, zero_sum) }
once_well held H none (Some z) once = record { counts = H.counts; taken = omega (arith, once); apart = λ e. none; few = let zero_sum = zero_of (sum (values_of held.chains)) none in omega (arith, zero_sum, once) }

-- the world, and the opener in it that is bare
module _ (f : Form) (options : Options) (xs : List Opener) (ps : List Piece) (a : List ℕ) (size who : ℕ) (x : Opener) (W : WorldStands f options xs ps a size) (there : slice_get xs who ≡ Some x) (B : IsBare x) where
  stands : OpenerStands f options size (Some x)
  stands = subst (OpenerStands f options size) there (W.openers_stand who)

  pub rests : RestsAt f x.walk.shown x.walk.cursor.place x.walk.cursor.stage
  rests = walk_rests f x.held (own_of options x) (walk_of x.task) (steps_of x.task) x.walk.cursor stands.2 (ap walk_of B.idle)

  -- it holds what its lock of all records holds
  holds_alone : (held : HeldLocks) → AreCounts held.chains → holds_chains held ≡ false → (b : ℕ) → holding f (own_with options x.live held (rest_of x.walk)) (spot_by x.walk.cursor) (law_task x.task) b ≡ all_held (all_of held.all) b
  holds_alone held counts none b =
      let own = own_with options x.live held (rest_of x.walk) in
      let alone = all_alone f W.sound.chains options x.live held (rest_of x.walk) counts (walk_well f x.held (own_of options x) (walk_of x.task) (steps_of x.task) x.walk.cursor stands.2) none (ap is_some B.no_cursor) b in
      ap (λ t. holding f own (spot_by x.walk.cursor) t b) (ap law_task B.idle) ∙ (ap (λ s. holding f own s None b) (spot_rests f x.walk rests) ∙ omega (arith, alone))

  pub held_before : (b : ℕ) → law_table ps who b ≡ all_held (all_of x.held.all) b
  held_before b = W.sound.agrees who b ∙ (ap (λ z. holding f (own_at options z) (spot_at z) (task_at z) b) there ∙ holds_alone x.held stands.0.counts B.no_chains b)

  pub held_off : (b : ℕ) → covers (lock_all 0 1) b ≡ false → law_table ps who b ≡ 0
  held_off b off = held_before b ∙ all_off x.held.all b off

  module _ (ys : List Opener) (qs : List Piece) (all : Option (Kind × ℕ)) (once : IsOnce all) (P : IsPut xs who (with_records x all) ys) (holds : (b : ℕ) → law_table qs who b ≡ all_held (all_of all) b)
      (others : (o b : ℕ) → o ≢ who → law_table qs o b ≡ law_table ps o b) (numbered : (b : ℕ) → table_of qs 0 b ≡ 0) (free : (o b : ℕ) → o ≢ who → all_held (all_of all) b + law_table ps o b ≤ 2) where
    abbrev y : Opener
    y = with_records x all

    well : IsWellHeld y.held
    well = once_well x.held stands.0 B.no_chains all once

    pub records_world : WorldStands f options ys qs a size
    records_world =
        world_set f options xs ys ps qs a a size size who y W (record { there = P.there; others = P.others })
        (record {
          holds = λ b. holds b ∙ sym (holds_alone y.held well.counts B.no_chains b);
          others = others;
          apart = λ o b ne. let mine = holds b in let theirs = others o b ne in let room = free o b ne in omega (arith, mine, theirs, room);
          numbered = numbered;
        })
        (record {
          stands = (well, subst (λ t. TaskStands f (own_of options y) t size) (sym B.idle) tt, walk_still f y.held (own_of options y) (walk_of x.task) (steps_of x.task) x.walk.cursor stands.2.placed rests (ap walk_of B.idle));
          busy_live = λ t e. B.live;
        })
        (le_refl size) (subst (λ n. n ≤ most_openers) (sym P.same_length) W.few) W.short

-- the bytes stand too, since commands and cursors are those that were there
module _ (f : Form) (xs ys : List Opener) (a : List ℕ) (who : ℕ) (x : Opener) (all : Option (Kind × ℕ)) (there : slice_get xs who ≡ Some x) (P : IsPut xs who (with_records x all) ys) where
  set : IsSet xs who (with_records x all) ys
  set = put_set xs ys who (with_records x all) P

  same_entries : spots_of ys ≡ spots_of xs
  same_entries = same_spots xs ys (at_each xs ys who (with_records x all) set (λ o z. place_entry z ≡ place_entry (slice_get xs o)) (sym (ap place_entry there)) (λ o ne. refl))

  pub records_file : FileStands f xs a → FileStands f ys a
  records_file F =
      file_set xs ys who (with_records x all) set f a F (hands_set xs ys who (with_records x all) set P.same_length (sym (ap hands_at there))) (λ off e. subst (λ l. is_stood l off ≡ true) same_entries e)
      (subst (OpenerKnows f a) there (F.known who)) (subst (CursorKnows f a) there (F.cursors who)) (subst (λ l. OpenerSpares (is_stood l) (Some x)) (sym same_entries) (subst (OpenerSpares (is_stood (spots_of xs))) there (F.spared who)))
      (λ o ne. (subst (λ z. StandApart (cursor_at z) (cursor_at (slice_get xs o))) there (F.alone who o (λ e. ne (sym e))), subst (λ z. StandApart (cursor_at (slice_get xs o)) (cursor_at z)) there (F.alone o who ne)))

-- so of a world, by the number of the opener
module _ (w : World) (who : ℕ) (x : Opener) (N : IsNumber w who x) (B : IsBare x) where
  there_now : slice_get w.openers (law_opener who) ≡ Some x
  there_now = subst (λ p. slice_get w.openers p ≡ Some x) (sym (by_number who N.place N.counted)) N.there

  named : law_opener who + 1 ≡ who
  named = let number = N.counted in omega (arith, number)

  module _ (img : List ℕ) (size : ℕ) (W : Stands w img size) (qs : List Piece) where
    off : (b : ℕ) → covers (lock_all 0 1) b ≡ false → law_table w.table (law_opener who) b ≡ 0
    off = held_off (form_in w.header) w.options w.openers w.table img size (law_opener who) x W there_now B

    none_at : (o : ℕ) → o ≢ law_opener who → o + 1 ≢ who
    none_at o ne e = ne (let number = N.counted in omega (arith, number, e))

    holds_by : (all : Option (Kind × ℕ)) (now : Option Kind) (ys : List Opener) → IsPut w.openers (law_opener who) (with_records x all) ys → ChangesRange w.table qs who 168 all_end now
        → ((b : ℕ) → law_table qs (law_opener who) b ≡ all_held (all_of all) b) → HoldsRecords w who x all (record { header = w.header; options = w.options; openers = ys; table = qs })
    holds_by all now ys P C holds = record {
      put = P;
      holds = holds;
      others = λ o b ne. ap strength (C.others (o + 1) b (none_at o ne));
      numbered = λ b. ap strength (C.others 0 b (λ e. let number = N.counted in omega (arith, number, e)) ∙ W.numbered b);
      rest = refl;
    }

    pub takes_records : (kind : Kind) (ys : List Opener) → IsPut w.openers (law_opener who) (with_records x (Some (kind, 1))) ys → ChangesRange w.table qs who 168 all_end (Some kind)
        → HoldsRecords w who x (Some (kind, 1)) (record { header = w.header; options = w.options; openers = ys; table = qs })
    takes_records kind ys P C = holds_by (Some (kind, 1)) (Some kind) ys P C
        (λ b. all_taken w.table qs (law_opener who) kind off (subst (λ o. ChangesRange w.table qs o 168 all_end (Some kind)) (sym named) C) b ∙ sym (once_held kind 1 b))

    pub leaves_records : (ys : List Opener) → IsPut w.openers (law_opener who) (with_records x None) ys → ChangesRange w.table qs who 168 all_end None → HoldsRecords w who x None (record { header = w.header; options = w.options; openers = ys; table = qs })
    leaves_records ys P C = holds_by None None ys P C (all_let_go w.table qs (law_opener who) Read off (subst (λ o. ChangesRange w.table qs o 168 all_end None) (sym named) C))

  -- what conflicts is told in the law's numbers
  pub are_free : (kind : Kind) → Table.IsFree w.table who 168 all_end kind → AreFree w who kind
  are_free kind F = free_law w.table (law_opener who) (wants_all kind) (subst (λ o. IsFree (table_of w.table) o (wants_all kind)) (sym named) (row_free who w.table (all_row kind) F))

  pub are_barred : (img : List ℕ) (size : ℕ) → Stands w img size → (kind : Kind) (refusal : LockRefusal) → IsInTheWay w.table who (all_row kind) refusal → AreBarred w who kind refusal
  are_barred img size W kind (Conflict owner byte there) C =
      first_law w.table (law_opener who) (wants_all kind) owner byte (λ b. ap strength (W.numbered b)) (wants_most kind byte)
      (subst (λ o. IsFirstConflict (table_of w.table) o (wants_all kind) owner byte) (sym named) (row_blocked who w.table (all_row kind) owner byte there C))
  are_barred img size W kind Memory C = tt

  module _ (all : Option (Kind × ℕ)) (once : IsOnce all) (v : World) (H : HoldsRecords w who x all v) (img : List ℕ) where
    abbrev with_parts : World → World
    with_parts z = record z { openers = v.openers; table = v.table }

    same_rest : v ≡ with_parts w
    same_rest = ap with_parts H.rest

    pub stands_with : ((o b : ℕ) → o ≢ law_opener who → all_held (all_of all) b + law_table w.table o b ≤ 2) → (size : ℕ) → Stands w img size → Stands v img size
    stands_with free size W = subst (λ z. Stands z img size) (sym same_rest)
        (records_world (form_in w.header) w.options w.openers w.table img size (law_opener who) x W there_now B v.openers v.table all once H.put H.holds H.others H.numbered free)

    pub bytes_with : BytesStand w img → BytesStand v img
    bytes_with F = subst (λ z. BytesStand z img) (sym same_rest) (records_file (form_in w.header) w.openers v.openers img (law_opener who) x all there_now H.put F)

  pub taken_apart : (kind : Kind) → AreFree w who kind → (o b : ℕ) → o ≢ law_opener who → all_held (all_of (Some (kind, 1))) b + law_table w.table o b ≤ 2
  taken_apart kind F o b ne = let room = F.free o b ne in let same = once_held kind 1 b in omega (arith, room, same)

pub left_apart : (ps : List Piece) (o b : ℕ) → all_held (all_of None) b + law_table ps o b ≤ 2
left_apart ps o b = let most = at_most_two (held ps (o + 1) b) in omega (arith, most)

-- the opener with a number, put back with another lock of all records
pub one_number : (w : World) (who : ℕ) (x y : Opener) → IsNumber w who x → IsNumber w who y → x ≡ y
one_number w who x y N M =
    let same : N.place ≡ M.place = let one = N.counted in let other = M.counted in omega (arith, one, other) in
    injected (sym N.there ∙ ap (slice_get w.openers) same ∙ M.there)

pub put_records : (w : World) (who : ℕ) (x d y : Opener) (all : Option (Kind × ℕ)) → IsNumber w who x → d ≡ slice_index_or w.openers (who - 1) d → y ≡ with_records d all → IsPut w.openers (law_opener who) (with_records x all) (slice_set w.openers (who - 1) y)
put_records w who x d y all N item same =
    subst (λ i. IsPut w.openers i (with_records x all) (slice_set w.openers (who - 1) y)) (sym (by_number who N.place N.counted))
    (subst (λ z. IsPut w.openers N.place z (slice_set w.openers (who - 1) y)) (same ∙ ap (λ z. with_records z all) (numbered w.openers who N.place x d N.counted N.there item))
    (put_numbered w.openers who N.place x y N.counted N.there))

-- what holds of a world, where it is seen as another
module _ (v w : World) (e : v ≡ w) (who : ℕ) (x y : Opener) (M : IsNumber w who y) (B : IsBare y) (N : IsNumber w who x) (img : List ℕ) (size : ℕ) (W : Stands w img size) (d z : Opener) (qs : List Piece) (item : d ≡ slice_index_or v.openers (who - 1) d) where
  bare_too : IsBare x
  bare_too = subst IsBare (one_number w who y x M N) B

  seen : IsNumber v who x
  seen = subst (λ u. IsNumber u who x) (sym e) N

  pub claims : (kind : Kind) → z ≡ with_records d (Some (kind, 1)) → ChangesRange v.table qs who 168 all_end (Some kind)
      → HoldsRecords w who x (Some (kind, 1)) (record { header = v.header; options = v.options; openers = slice_set v.openers (who - 1) z; table = qs })
  claims kind same C = subst (λ u. HoldsRecords u who x (Some (kind, 1)) (record { header = v.header; options = v.options; openers = slice_set v.openers (who - 1) z; table = qs })) e
      (takes_records v who x seen bare_too img size (subst (λ u. Stands u img size) (sym e) W) qs kind (slice_set v.openers (who - 1) z) (put_records v who x d z (Some (kind, 1)) seen item same) C)

  pub releases : z ≡ with_records d None → ChangesRange v.table qs who 168 all_end None → HoldsRecords w who x None (record { header = v.header; options = v.options; openers = slice_set v.openers (who - 1) z; table = qs })
  releases same C = subst (λ u. HoldsRecords u who x None (record { header = v.header; options = v.options; openers = slice_set v.openers (who - 1) z; table = qs })) e
      (leaves_records v who x seen bare_too img size (subst (λ u. Stands u img size) (sym e) W) qs (slice_set v.openers (who - 1) z) (put_records v who x d z None seen item same) C)

-- nothing is held before all records, where the opener holds nothing else
pub alone_there : (w : World) (who : ℕ) (x : Opener) → IsNumber w who x → IsBare x → (img : List ℕ) (size : ℕ) → Stands w img size → held w.table who 167 ≡ None
alone_there w who x N B img size W =
    let none = off w who x N B img size W w.table 167 refl in
    subst (λ o. held w.table o 167 ≡ None) (named w who x N B) (none_held_there (held w.table (law_opener who + 1) 167) none)

-- an answer that is Ok or not
pub on_both : {V F : Type 0} (r : Result V F) (P Q R : Type 0) → (P → Q → R) → OnOk r P → OnOk r Q → OnOk r R
on_both (Ok v) P Q R both p q = both p q
on_both (Err e) P Q R both p q = tt

pub on_one : {V F : Type 0} (r : Result V F) (P R : Type 0) → (P → R) → OnOk r P → OnOk r R
on_one (Ok v) P R from p = from p
on_one (Err e) P R from p = tt

pub if_refused : {V F : Type 0} (r : Result V F) (P R : F → Type 0) → ((e : F) → P e → R e) → IfErr r P → IfErr r R
if_refused (Ok v) P R from p = tt
if_refused (Err e) P R from p = from e p

pub either_way : {V F : Type 0} (r : Result V F) (P Q R S : Type 0) → (P → Q → R) → (S → R) → OnOk r P → OnOk r Q → OnErr r S → R
either_way (Ok v) P Q R S both other p q s = both p q
either_way (Err e) P Q R S both other p q s = other s
