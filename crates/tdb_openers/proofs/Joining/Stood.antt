-- The records on which the cursors of a world stand: the entries in their list are those of its openers.
use Rattle.std.proofs.Common.{◌≡◌, ℕ, zero, suc, ◌+◌, max, ◌<◌, ◌≤◌, List, [], ◌∷◌, ◌++◌, slice_get, Bool, true, false, Option, None, Some, is_some, refl, sym, ◌∙◌, ap, subst, inl, inr, arith}
use Rattle.std.specs.Prelude.{◌&&◌, ◌||◌, nat_eq, nat_lt}
use Rattle.std.specs.List.{list_any}
use Rattle.std.proofs.lemmas.Bool.{cases_eq, eqb-true, eq-eqb, ne_eqb, lt-ltb, ltb-true, false_from_ne_true, false≢true}
use Rattle.tdb_space.specs.Form.{Form}
use Rattle.tdb_space.specs.Chain.{Member, chain_of}
use Rattle.tdb_locks.specs.declared.piece.Piece.{Piece}
use Rattle.tdb_law.specs.Commands.{MapCommand}
use Rattle.tdb_law.specs.Commands.Command.{OnMap}
use Rattle.tdb_law.specs.Rows.{all_end, lock_all, lock_free, map_locks}
use Rattle.tdb_law.specs.Held.{locked, stand_held, held, kept, holding}
use Rattle.tdb_law.specs.Refusals.{refusal}
use Rattle.tdb_law.specs.Layout.{IsStood}
use Rattle.tdb_law.proofs.Locks.{covers_within, first_locked}
use Rattle.tdb_law.proofs.Tests.{and_both, and_make, or_cases, never_true}
use Rattle.tdb_steps.specs.declared.plain.Plain.{Plain}
use Rattle.tdb_steps.specs.declared.plain.Plain.TheVariants.{Fetch, Has, Store, Append, Delete, Wipe}
use Rattle.tdb_steps.specs.Holdings.{table_of}
use Rattle.tdb_steps.specs.Machines.{Doing}
use Rattle.tdb_steps.specs.PlainCommands.{command_of}
use Rattle.tdb_steps.specs.Walks.{StandInChains}
use Rattle.tdb_walk.specs.declared.standing.Standing.{Standing}
use Rattle.tdb_walk.specs.declared.standing.Standing.TheVariants.{Before, On, Past}
use Rattle.tdb_walk.specs.declared.stage.Stage.{Stage}
use Rattle.tdb_walk.specs.declared.stage.Stage.TheVariants.{Rested, Reading, Writing, Freeing}
use Rattle.tdb_walk.specs.Cursors.{IsPlaced, Knows, spot_of}
use Rattle.tdb_walk.specs.NextLive.{place_of}
use Rattle.tdb_walk.specs.Spots.{spot_number}
use Rattle.tdb_commands.specs.declared.options.Options.{Options}
use Rattle.tdb_openers.specs.declared.opener.Opener.{Opener}
use Rattle.tdb_openers.specs.declared.job.Job.{Job}
use Rattle.tdb_openers.specs.declared.job.Job.TheVariants as Jobs
use Rattle.tdb_openers.specs.declared.job.Task.{Task}
use Rattle.tdb_openers.specs.Openers.{rest_of, own_of, own_at, spot_by, walk_of, steps_of, spot_at, place_at, spots_of, task_at, command_in, JobStands, OpenerStands}
use Rattle.tdb_openers.specs.States.{WorldStands, FileStands}
use Rattle.tdb_openers.specs.Cursors.{is_stood, CursorKnows, OpenerSpares, TaskSpares, CommandClears, JobClears, CursorsBeside}
use Rattle.tdb_openers.specs.Laws.{HasTask, CursorsAreBeside}
use Rattle.tdb_openers.proofs.PlainTurns.Busy.{held_is}
use Rattle.tdb_openers.proofs.PlainTurns.PlainRows.{allowed}
use Rattle.tdb_openers.proofs.Walks.Rests.{walk_well}
use Rattle.tdb_openers.proofs.PlainTurns.Standing.{walk_there}
use Rattle.tdb_openers.proofs.Joining.Working.{works}

abbrev pub entry : Opener → ℕ
entry x = spot_number x.walk.cursor.place

pub injected : {A : Type 0} {x y : A} → Some x ≡ Some y → x ≡ y
injected e = cc

or_second : (a b : Bool) → b ≡ true → a || b ≡ true
or_second true b e = refl
or_second false b e = e

-- an entry that isn't 0 is that of a cursor on a record
on_place : (place : Standing) (off : ℕ) → 0 < off → off ≡ spot_number place → (chain : ℕ) × (place ≡ On chain off)
on_place (On chain p) off some e = (chain, ap (On chain) (sym e))
on_place (Before chain) off some e = absurd (omega (arith, some, e))
on_place Past off some e = absurd (omega (arith, some, e))

-- the opener at a place, whose cursor stands on a record
pub record StandsOn (xs : List Opener) (off : ℕ) : Type 0 where
  pub place : ℕ
  pub opener : Opener
  pub chain : ℕ
  pub there : slice_get xs place ≡ Some opener
  pub on : opener.walk.cursor.place ≡ On chain off

found_by : (xs : List Opener) (off : ℕ) → 0 < off → list_any (nat_eq off) (spots_of xs) ≡ true → StandsOn xs off
found_by [] off some e = absurd (never_true e)
found_by (x ∷ xs) off some e = elim (or_cases (nat_eq off (entry x)) (list_any (nat_eq off) (spots_of xs)) e) [
  | inl here ↦ (let at = on_place x.walk.cursor.place off some (eqb-true off (entry x) here) in record { place = 0; opener = x; chain = at.0; there = refl; on = at.1 })
  | inr later ↦ (let w = found_by xs off some later in record { place = suc w.place; opener = w.opener; chain = w.chain; there = w.there; on = w.on })
]

-- no record has the offset 0
pub some_off : (l : List ℕ) (off : ℕ) → is_stood l off ≡ true → 0 < off
some_off l off e = ltb-true 0 off (and_both (nat_lt 0 off) (list_any (nat_eq off) l) e).0

pub stood_by : (xs : List Opener) (off : ℕ) → is_stood (spots_of xs) off ≡ true → StandsOn xs off
stood_by xs off e = found_by xs off (some_off (spots_of xs) off e) (and_both (nat_lt 0 off) (list_any (nat_eq off) (spots_of xs)) e).1

-- and each cursor on a record has its entry
has_entry : (xs : List Opener) (o : ℕ) (x : Opener) (off : ℕ) → slice_get xs o ≡ Some x → off ≡ entry x → list_any (nat_eq off) (spots_of xs) ≡ true
has_entry [] o x off there e = absurd (cc there)
has_entry (z ∷ zs) zero x off there e =
    let same : z ≡ x = injected there in
    ap (λ t. t || list_any (nat_eq off) (spots_of zs)) (eq-eqb off (entry z) (e ∙ ap entry (sym same)))
has_entry (z ∷ zs) (suc o) x off there e = or_second (nat_eq off (entry z)) (list_any (nat_eq off) (spots_of zs)) (has_entry zs o x off there e)

pub stood_at : (xs : List Opener) (o : ℕ) (x : Opener) (chain off : ℕ) → slice_get xs o ≡ Some x → x.walk.cursor.place ≡ On chain off → 0 < off → is_stood (spots_of xs) off ≡ true
stood_at xs o x chain off there on some = and_make (nat_lt 0 off) (list_any (nat_eq off) (spots_of xs)) (lt-ltb 0 off some) (has_entry xs o x off there (sym (ap spot_number on)))

-- openers with the same cursors have the same entries
abbrev pub place_entry : Option Opener → Option ℕ
place_entry None = None
place_entry (Some x) = Some (entry x)

pub same_spots : (xs ys : List Opener) → ((o : ℕ) → place_entry (slice_get ys o) ≡ place_entry (slice_get xs o)) → spots_of ys ≡ spots_of xs
same_spots [] [] same = refl
same_spots [] (y ∷ ys) same = absurd (let e = same 0 in cc e)
same_spots (x ∷ xs) [] same = absurd (let e = same 0 in cc e)
same_spots (x ∷ xs) (y ∷ ys) same =
    let first : entry y ≡ entry x = injected (same 0) in
    ap (λ n. n ∷ spots_of ys) first ∙ ap (λ l. entry x ∷ l) (same_spots xs ys (λ o. same (suc o)))

-- an opener without a cursor comes behind the others: its entry is 0, which is no record
pub spots_pushed : (xs : List Opener) (y : Opener) → entry y ≡ 0 → spots_of (xs ++ (y ∷ [])) ≡ spots_of xs ++ (0 ∷ [])
spots_pushed [] y none = ap (λ n. n ∷ []) none
spots_pushed (x ∷ xs) y none = ap (λ l. entry x ∷ l) (spots_pushed xs y none)

any_pushed : (off : ℕ) (l : List ℕ) → 0 < off → list_any (nat_eq off) (l ++ (0 ∷ [])) ≡ list_any (nat_eq off) l
any_pushed off [] some = ap (λ t. t || false) (ne_eqb off 0 (λ e. omega (arith, e, some)))
any_pushed off (x ∷ l) some = ap (λ t. nat_eq off x || t) (any_pushed off l some)

pub stood_pushed : (l : List ℕ) → is_stood (l ++ (0 ∷ [])) ≡ is_stood l
stood_pushed l = λ i off. at off i
  where
    at : (off : ℕ) → is_stood (l ++ (0 ∷ [])) off ≡ is_stood l off
    at zero = refl
    at (suc off) = ap (λ t. nat_lt 0 (suc off) && t) (any_pushed (suc off) l (omega arith))

-- what a cursor on a record knows
pub knows_in : (f : Form) (img : List ℕ) (chain off : ℕ) (stage : Stage) → Knows f img (On chain off) stage → (chain < f.chains) × Member off (chain_of f img chain)
knows_in f img chain off Rested K = K
knows_in f img chain off Reading K = K
knows_in f img chain off Writing K = (K.0, K.1.member)
knows_in f img chain off Freeing K = (K.0, K.1.member)

in_chains : (f : Form) (a : List ℕ) (xs : List Opener) → ((o : ℕ) → CursorKnows f a (slice_get xs o)) → StandInChains f a (is_stood (spots_of xs))
in_chains f a xs known off e =
    let w = stood_by xs off e in
    let K = knows_in f a w.chain off w.opener.walk.cursor.stage (subst (λ p. Knows f a p w.opener.walk.cursor.stage) w.on (subst (CursorKnows f a) w.there (known w.place))) in
    (w.chain, K.0, K.1)

-- a cursor holds the byte of its record
pub stands_held : (f : Form) (options : Options) (xs : List Opener) (ps : List Piece) (a : List ℕ) (size : ℕ) → WorldStands f options xs ps a size → (o : ℕ) (z : Opener) (chain off : ℕ) → slice_get xs o ≡ Some z → z.walk.cursor.place ≡ On chain off → 1 ≤ table_of ps (o + 1) off
stands_held f options xs ps a size W o z chain off there on =
    let whole = W.sound.agrees o off ∙ ap (λ y. holding f (own_at options y) (spot_at y) (task_at y) off) there in
    let own : stand_held (spot_of z.walk.cursor.place) off ≡ 1 = ap (λ p. stand_held (spot_of p) off) on ∙ (rw (eq-eqb off off refl) refl) in
    omega (arith, whole, own)

module _ (f : Form) (options : Options) (xs : List Opener) (ps : List Piece) (a : List ℕ) (size who : ℕ) (x : Opener) (t : Task) (W : WorldStands f options xs ps a size) (B : HasTask xs who x t) where
  -- a wipe that has had a step has all records locked, so no cursor stands on one
  wipe_alone : (d : Doing) → t.job ≡ Jobs.Plain d → d.command ≡ Wipe → 1 ≤ t.steps → (off : ℕ) → is_stood (spots_of xs) off ≡ true → ⊥
  wipe_alone d is wipes some off stood =
      let w = stood_by xs off stood in
      let S = walk_there f options xs ps a size w.place w.opener W w.there in
      let well = walk_well f w.opener.held (own_of options w.opener) (walk_of w.opener.task) (steps_of w.opener.task) w.opener.walk.cursor S off (ap spot_of w.on) in
      let placed = subst IsPlaced w.on S.placed in
      let K = works f options xs ps a size W who x t B in
      let stands = subst (λ j. JobStands f (own_of options x) j t.steps size) is K.stands in
      let granted : refusal f (OnMap MapCommand.Wipe) (own_of options x) ≡ None = subst (λ p. refusal f (OnMap (command_of p)) (own_of options x) ≡ None) wipes stands.granted in
      let above = well.above in
      let low : 168 ≤ off = omega (arith, above) in
      let high : off < all_end = (let p = placed.1 in omega (arith, p)) in
      let first = first_locked (lock_all 0 2) (lock_free 1 2 ∷ []) t.steps off (omega (arith, some)) (covers_within (lock_all 0 2) off low high) in
      let mine = K.holds off ∙ ap (λ j. max (held f (command_in j) (own_of options x) (spot_by x.walk.cursor) t.steps off) (kept f (own_of options x) (spot_by x.walk.cursor) off)) is in
      let its : held f (OnMap (command_of d.command)) (own_of options x) (spot_by x.walk.cursor) t.steps off ≡ locked (map_locks f MapCommand.Wipe) t.steps off =
      ap (λ p. held f (OnMap (command_of p)) (own_of options x) (spot_by x.walk.cursor) t.steps off) wipes ∙ held_is f MapCommand.Wipe (own_of options x) granted refl (spot_by x.walk.cursor) t.steps off in
      elim (cases_eq w.place who) [
        | inl same ↦ (let z : w.opener ≡ x = injected (sym w.there ∙ ap (slice_get xs) same ∙ B.there) in
            let well_held = (subst (OpenerStands f options size) B.there (W.openers_stand who)).0 in
            let bare = (allowed f W.sound.chains options x.live x.held (rest_of x.walk) well_held.counts (walk_well f x.held (own_of options x) (walk_of x.task) (steps_of x.task) x.walk.cursor (walk_there f options xs ps a size who x W B.there)) Wipe granted).0 in
            let shown = subst (λ y. is_some y.walk.shown ≡ true) z well.shown in
            false≢true (sym bare ∙ shown))
        | inr ne ↦ (let one = stands_held f options xs ps a size W w.place w.opener w.chain off w.there w.on in
            let room = W.sound.apart w.place who off ne in
            omega (arith, one, room, first, mine, its))
      ]

  clears_in : (d : Doing) → t.job ≡ Jobs.Plain d → (command : Plain) → d.command ≡ command → CommandClears (is_stood (spots_of xs)) command t.steps
  clears_in d is (Fetch key) same = tt
  clears_in d is (Has key) same = tt
  clears_in d is (Store key value flag) same = tt
  clears_in d is (Append key value) same = tt
  clears_in d is (Delete key) same = tt
  clears_in d is Wipe same = λ some off. false_from_ne_true (is_stood (spots_of xs) off) (λ e. wipe_alone d is same some off e)

  clears : (job : Job) → t.job ≡ job → JobClears (is_stood (spots_of xs)) job t.steps
  clears (Jobs.Refused command reply) is = tt
  clears (Jobs.Plain d) is = clears_in d is d.command refl
  clears (Jobs.Check checking) is = tt
  clears (Jobs.Locking locking) is = tt
  clears Jobs.Seqnum is = tt
  clears (Jobs.Walk walking) is = tt

  beside : FileStands f xs a → CursorsBeside f a (is_stood (spots_of xs)) t
  beside F = record {
    in_chains = in_chains f a xs F.cursors;
    spares = subst (TaskSpares (is_stood (spots_of xs))) B.busy (subst (OpenerSpares (is_stood (spots_of xs))) B.there (F.spared who));
    clears = clears t.job refl;
  }

pub cursors_are_beside : CursorsAreBeside
cursors_are_beside f options xs ps a size who x t W F B = beside f options xs ps a size who x t W B F

-- where the cursor of an opener stands on a record, that has its entry
pub stands_among : (f : Form) (options : Options) (xs : List Opener) (ps : List Piece) (a : List ℕ) (size : ℕ) → WorldStands f options xs ps a size → (o : ℕ) → IsStood (is_stood (spots_of xs)) (place_at (slice_get xs o))
stands_among f options xs ps a size W o = at_opener (slice_get xs o) refl
  where
    at_place : (x : Opener) (place : Standing) → slice_get xs o ≡ Some x → x.walk.cursor.place ≡ place → IsStood (is_stood (spots_of xs)) (place_of place)
    at_place x (On chain off) there on =
        let well = walk_well f x.held (own_of options x) (walk_of x.task) (steps_of x.task) x.walk.cursor (walk_there f options xs ps a size o x W there) off (ap spot_of on) in
        let above = well.above in
        stood_at xs o x chain off there on (omega (arith, above))
    at_place x (Before chain) there on = tt
    at_place x Past there on = tt

    at_opener : (z : Option Opener) → slice_get xs o ≡ z → IsStood (is_stood (spots_of xs)) (place_at z)
    at_opener None there = tt
    at_opener (Some x) there = at_place x x.walk.cursor.place there refl
