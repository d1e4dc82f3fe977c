-- A command that is given: its opener holds what it held, and no record yet.
use Rattle.std.proofs.Common.{true, false, is_some, Option, ◌≡◌, ℕ, ◌+◌, ◌≤◌, max, List, length, slice_get, Some, None, refl, sym, ◌∙◌, ap, subst, le_refl}
use Rattle.tdb_space.specs.Form.{Form}
use Rattle.tdb_space.specs.Pairs.{joined}
use Rattle.tdb_law.specs.Openers.{Own, Spot}
use Rattle.tdb_law.specs.Lines.{most_openers}
use Rattle.tdb_law.specs.Held.{held, kept, holding}
use Rattle.tdb_law.proofs.Covered as Covered
use Rattle.tdb_steps.specs.Holdings.{table_of}
use Rattle.tdb_openers.specs.Given.{IsWellHeld}
use Rattle.tdb_commands.specs.declared.options.Options.{Options}
use Rattle.tdb_openers.specs.declared.opener.Opener.{Opener}
use Rattle.tdb_openers.specs.declared.job.Job.{Job}
use Rattle.tdb_openers.specs.declared.job.Job.TheVariants as Jobs
use Rattle.tdb_law.specs.Layout.{chains_in, mark_of}
use Rattle.tdb_locks.specs.HeldLocks.{HeldLocks}
use Rattle.tdb_law.specs.Commands.{WalkCommand}
use Rattle.tdb_law.specs.Commands.WalkCommand.{First, Next, EndWalk, Close}
use Rattle.tdb_walk.specs.declared.standing.Standing.{Standing}
use Rattle.tdb_walk.specs.declared.standing.Standing.TheVariants.{Before, On, Past}
use Rattle.tdb_walk.specs.declared.stage.Stage.{Stage as CursorStage}
use Rattle.tdb_walk.specs.InLaw.{StandsAfter, is_before}
use Rattle.tdb_walk.specs.Again.{RestsAt}
use Rattle.tdb_walk.proofs.Again.{cursor_begins}
use Rattle.tdb_openers.specs.Openers.{rest_of, own_of, own_with, own_at, spot_by, walk_command, walk_in, walk_of, steps_of, MayAsk, WalkAfter, spot_at, place_at, spots_of, task_at, command_in, law_task, hands_of_task, hands_at, JobStands, TaskStands, OpenerStands, WalkStands, TaskKnows}
use Rattle.tdb_openers.specs.States.{state_of}
use Rattle.tdb_openers.specs.Laws.{IsGiven, GiftKeepsWorld, GiftKeepsFile, GiftIsGiven}
use Rattle.tdb_openers.proofs.PlainTurns.Standing.{Holds, IsSet, put_set, world_set, held_still}
use Rattle.tdb_walk.specs.Cursors.{At, Knows}
use Rattle.tdb_walk.specs.Spots.{spot_number}
use Rattle.tdb_openers.specs.Cursors.{is_stood, CursorKnows, TaskSpares, StandApart, cursor_at}
use Rattle.tdb_openers.proofs.Joining.Stood.{place_entry, same_spots}
use Rattle.tdb_openers.proofs.Walks.Rests.{walk_rests}
use Rattle.tdb_openers.proofs.Joining.Replacing.{at_each, hands_set, file_set}
use Rattle.tdb_openers.proofs.Joining.Begun.{bare_hands, bare_knows, bare_spares}

-- the opener has what it had
same_own : (options : Options) (x y : Opener) (job : Job) → IsGiven x job y → own_of options y ≡ own_of options x
same_own options x y job G =
    ap (λ l. own_with options l y.held (rest_of y.walk)) G.same_live ∙ ap (λ h. own_with options x.live h (rest_of y.walk)) G.same_held ∙ ap (λ w. own_with options x.live x.held (rest_of w)) G.same_walk

-- and its cursor stands where it stood
same_cursor : (x y : Opener) (job : Job) → IsGiven x job y → spot_at (Some y) ≡ spot_at (Some x)
same_cursor x y job G = ap (λ w. spot_by w.cursor) G.same_walk

-- a cursor that rests can be asked for any command
asks_well : (f : Form) (x : Own) (w : WalkCommand) (place : Standing) (stage : CursorStage) → RestsAt f x.cursor place stage → MayAsk x w → w ≡ Next → place ≡ Past → ⊥
asks_well f x First place stage R may is past = absurd (cc is)
asks_well f x Next place stage R may is past = let none = (subst (λ p. RestsAt f x.cursor p stage) past R).0 in let bad : true ≡ false = sym may ∙ ap is_some none in cc bad
asks_well f x EndWalk place stage R may is past = absurd (cc is)
asks_well f x Close place stage R may is past = absurd (cc is)

not_before : (f : Form) (cursor : Option (List ℕ)) (place : Standing) (stage : CursorStage) → RestsAt f cursor place stage → is_before place ≡ false
not_before f cursor (On chain off) stage R = refl
not_before f cursor (Before chain) stage R = absurd R
not_before f cursor Past stage R = refl

walk_begins : (f : Form) (held : HeldLocks) (x : Own) (at : At) (size : ℕ) → RestsAt f x.cursor at.place at.stage → (job : Job) → JobStands f x job 0 size → WalkAfter f held x (walk_in job) 0 at
walk_begins f held x at size R (Jobs.Refused command reply) K = R
walk_begins f held x at size R (Jobs.Plain d) K = R
walk_begins f held x at size R (Jobs.Check checking) K = R
walk_begins f held x at size R (Jobs.Locking locking) K = R
walk_begins f held x at size R Jobs.Seqnum K = R
walk_begins f held x at size R (Jobs.Walk walking) K =
    let w = walk_command walking in
    subst (λ gone. StandsAfter f held x w at.place at.stage gone 0) (sym (not_before f x.cursor at.place at.stage R)) (cursor_begins f held x w at.place at.stage R (asks_well f x w at.place at.stage R K.1))

pub gift_keeps_world : GiftKeepsWorld
gift_keeps_world f options xs ys ps a size who x y job W there P G K =
    world_set f options xs ys ps ps a a size size who y W (put_set xs ys who y P) (held_still f options xs ps a size who y W holds)
    (record { stands = (subst IsWellHeld (sym G.same_held) (subst (OpenerStands f options size) there (W.openers_stand who)).0, subst (λ z. TaskStands f (own_of options y) z size) (sym G.task) (subst (λ w. JobStands f w job 0 size) (sym (same_own options x y job G)) K), given_walk); busy_live = λ t e. G.same_live ∙ G.live })
    (le_refl size) (subst (λ n. n ≤ most_openers) (sym P.same_length) W.few) W.short
  where
    rests : RestsAt f x.walk.shown x.walk.cursor.place x.walk.cursor.stage
    rests = walk_rests f x.held (own_of options x) (walk_of x.task) (steps_of x.task) x.walk.cursor (subst (OpenerStands f options size) there (W.openers_stand who)).2 (ap walk_of G.idle)

    given_walk : WalkStands f y.held (own_of options y) (walk_of y.task) (steps_of y.task) y.walk.cursor
    given_walk =
        subst (λ t. WalkStands f y.held (own_of options y) (walk_of t) (steps_of t) y.walk.cursor) (sym G.task)
        (subst (λ o. WalkStands f y.held o (walk_in job) 0 y.walk.cursor) (sym (same_own options x y job G))
        (subst (λ h. WalkStands f h (own_of options x) (walk_in job) 0 y.walk.cursor) (sym G.same_held)
        (subst (λ w. WalkStands f x.held (own_of options x) (walk_in job) 0 w.cursor) (sym G.same_walk)
        (record { placed = (subst (OpenerStands f options size) there (W.openers_stand who)).2.placed; stands = walk_begins f x.held (own_of options x) x.walk.cursor size rests job K }))))

    holds : (b : ℕ) → Holds f options ps who (Some y) b
    holds b =
        let s : Spot = spot_at (Some x) in
        let before : table_of ps (who + 1) b ≡ holding f (own_of options x) s None b =
        W.sound.agrees who b ∙ (ap (λ z. holding f (own_at options z) (spot_at z) (task_at z) b) there ∙ ap (λ z. holding f (own_of options x) s (law_task z) b) G.idle) in
        let none : held f (command_in job) (own_of options x) s 0 b ≡ 0 = Covered.none_held f (command_in job) (own_of options x) s b in
        let after : holding f (own_of options y) (spot_at (Some y)) (law_task y.task) b ≡ max (held f (command_in job) (own_of options x) s 0 b) (kept f (own_of options x) s b) =
        ap (λ z. holding f (own_of options y) (spot_at (Some y)) (law_task z) b) G.task
        ∙ (ap (λ w. holding f w (spot_at (Some y)) (Some (record { command = command_in job; steps = 0 })) b) (same_own options x y job G) ∙ ap (λ z. holding f (own_of options x) z (Some (record { command = command_in job; steps = 0 })) b) (same_cursor x y job G)) in
        before ∙ (ap (λ n. max n (kept f (own_of options x) s b)) (sym none) ∙ sym after)

pub gift_keeps_file : GiftKeepsFile
gift_keeps_file f options xs ys a size who x y job F there P G K =
    file_set xs ys who y set f a F same_hands (λ off e. subst (λ l. is_stood l off ≡ true) same_entries e) (subst (TaskKnows f a) (sym G.task) (bare_knows f (own_of options x) size a job K))
    (subst (λ w. Knows f a w.cursor.place w.cursor.stage) (sym G.same_walk) (subst (CursorKnows f a) there (F.cursors who))) (subst (TaskSpares (is_stood (spots_of ys))) (sym G.task) (bare_spares f (own_of options x) size job (is_stood (spots_of ys)) K))
    (λ o ne. subst (λ z. StandApart z (cursor_at (slice_get xs o)) × StandApart (cursor_at (slice_get xs o)) z) its_cursor (F.alone who o (λ e. ne (sym e)), F.alone o who ne))
  where
    set : IsSet xs who y ys
    set = put_set xs ys who y P

    its_cursor : cursor_at (slice_get xs who) ≡ Some y.walk.cursor
    its_cursor = ap cursor_at there ∙ ap (λ w. Some w.cursor) (sym G.same_walk)

    same_entries : spots_of ys ≡ spots_of xs
    same_entries = same_spots xs ys (λ o. at_each xs ys who y set (λ o z. place_entry z ≡ place_entry (slice_get xs o)) (ap (λ w. Some (spot_number w.cursor.place)) G.same_walk ∙ sym (ap place_entry there)) (λ o ne. refl) o)

    here : hands_at (Some y) ≡ hands_at (slice_get xs who)
    here = ap hands_of_task G.task ∙ (bare_hands f (own_of options x) size job K ∙ sym (ap hands_at there ∙ ap hands_of_task G.idle))

    same_hands : joined (length ys) (λ o. hands_at (slice_get ys o)) ≡ joined (length xs) (λ o. hands_at (slice_get xs o))
    same_hands = hands_set xs ys who y set P.same_length here

pub gift_is_given : GiftIsGiven
gift_is_given f options xs ys ps a who x y job there P G = record {
  live = ap (λ z. (own_at options z).live) there ∙ G.live;
  idle = ap task_at there ∙ ap law_task G.idle;
  task = ap task_at P.there ∙ ap law_task G.task;
  others = λ o ne. ap task_at (P.others o ne);
  rest = λ i. record (state_of f options xs ps a) { joined = P.same_length i; own = λ o. same o i; spot = λ o. same_spot o i; mark = λ o. mark_of f (chains_in f a) (same_place o i) };
}
  where
    set : IsSet xs who y ys
    set = put_set xs ys who y P

    same : (o : ℕ) → own_at options (slice_get ys o) ≡ own_at options (slice_get xs o)
    same = at_each xs ys who y set (λ o z. own_at options z ≡ own_at options (slice_get xs o)) (same_own options x y job G ∙ sym (ap (own_at options) there)) (λ o ne. refl)

    same_spot : (o : ℕ) → spot_at (slice_get ys o) ≡ spot_at (slice_get xs o)
    same_spot = at_each xs ys who y set (λ o z. spot_at z ≡ spot_at (slice_get xs o)) (same_cursor x y job G ∙ sym (ap spot_at there)) (λ o ne. refl)

    same_place : (o : ℕ) → place_at (slice_get ys o) ≡ place_at (slice_get xs o)
    same_place = at_each xs ys who y set (λ o z. place_at z ≡ place_at (slice_get xs o)) (ap (λ w. place_at (Some (record x { walk = w }))) G.same_walk ∙ sym (ap place_at there)) (λ o ne. refl)
