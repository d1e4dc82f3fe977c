-- A turn of the opener with the number is a turn of the world.
use Rattle.std.proofs.Common.{◌≡◌, ◌<◌, ◌+◌, ◌-◌, ℕ, None, Some, set, slice_get, slice_set, IsTrue, sym, ap, subst, ◌∙◌, arith}
use Rattle.tdb_space.specs.Form.{form_in}
use Rattle.tdb_openers.specs.Laws.{MayStand, other_hands}
use Rattle.tdb_law.specs.Turned.{Turned}
use Rattle.tdb_commands.specs.InLaw.{law_opener, law_turn}
use Rattle.std.proofs.lemmas.Result.{IfOk-weaker, on_err_weaker}
use Rattle.tdb_steps.proofs.Made.{of_both}
use Rattle.tdb_openers.specs.States.{state_of}
use Rattle.tdb_openers.specs.Worlds.{IsBusy, Stands, BytesStand, state_in, law_of_task}
use Rattle.tdb_openers.specs.Turning.{resting, OpenerHolds, ImageBefore}
use Rattle.tdb_openers.specs.Calm.{WritesNoRecord, IsMidway}
use Rattle.tdb_walk.specs.Cursors.{dead_of}
use Rattle.tdb_openers.specs.Openers.{rest_of, own_of, command_in}
use Rattle.tdb_walk.specs.Cursors.{StepStops}
use Rattle.tdb_walk.specs.Spots.{spot_number}
use Rattle.tdb_openers.proofs.Joining.Putting.{numbered, by_number, others_put, spots_still}
use Rattle.tdb_openers.proofs.PlainTurns.Stepping.{Locked, Filed, ok_so, ok_both, stands_before, holds_before, task_busy, busy_after, image_before, world_after, file_after, turned_after}
use Rattle.std.specs.Option.{option_map}
use Rattle.tdb_openers.specs.Openers.{walk_command, walk_of}
use Rattle.tdb_openers.specs.declared.opener.Opener.{Opener}
use Rattle.tdb_steps.specs.Room.{FullOutside}
use Rattle.tdb_openers.proofs.PlainTurns.Fullness.{world_full, plain_beside, map_beside}
use Rattle.tdb_openers.proofs.Walks.WalkStepping.{calm_before, spared_before}
use Rattle.tdb_openers.proofs.Walks.WalkStepping.{Walks, walk_stopped, ok_of, spots_put, walk_busy, words_before, asked_before, walk_busy_after, walk_world_after, walk_file_after, walk_turned_after}
use Rattle.tdb_openers.specs.Stopped.{JobStopped}
use Rattle.tdb_steps.specs.Memory.{StarvesOutside}
use Rattle.tdb_openers.proofs.openers.Openers.turn.Goals as goal

pub turn-requires-clause-busy : goal.turn-requires-clause-busy
turn-requires-clause-busy g c =
    let e = c.self.view_is in (
      c.requires.busy.1,
      task_busy c.self.inside.header c.self.inside.options c.self.inside.list.items c.self.inside.locks (g.S.Space.image c.args.s.now) (g.S.Space.size c.args.s.now) c.args.who c.requires.busy.0 c.in-Some.opener.now c.requires.busy.1
          (subst (λ w. IsBusy w c.args.who c.requires.busy.0 c.requires.busy.1) (sym e) c.requires.busy.2) c.in-Some.ensures.item.1
          (subst (λ w. Stands w (g.S.Space.image c.args.s.now) (g.S.Space.size c.args.s.now)) (sym e) c.requires.stands) (sym c.walking.ensures ∙ ap (option_map walk_command) c.in_default-walking.is),
    )

pub turn-requires-clause-stands : goal.turn-requires-clause-stands
turn-requires-clause-stands g c =
    let e = c.self.view_is in
    let form = c.requires.form ∙ ap (λ w. form_in w.header) (sym e) in
    subst (λ f. MayStand f c.self.inside.options (g.S.Space.size c.args.s.now) c.in-Some.opener.now) (sym form)
    (stands_before c.self.inside.header c.self.inside.options c.self.inside.list.items c.self.inside.locks (g.S.Space.image c.args.s.now) (g.S.Space.size c.args.s.now) c.args.who c.requires.busy.0 c.in-Some.opener.now c.requires.busy.1
    (subst (λ w. IsBusy w c.args.who c.requires.busy.0 c.requires.busy.1) (sym e) c.requires.busy.2) c.in-Some.ensures.item.1
    (subst (λ w. Stands w (g.S.Space.image c.args.s.now) (g.S.Space.size c.args.s.now)) (sym e) c.requires.stands) (sym c.walking.ensures ∙ ap (option_map walk_command) c.in_default-walking.is))

pub turn-requires-clause-holds : goal.turn-requires-clause-holds
turn-requires-clause-holds g c u busy =
    let e = c.self.view_is in
    let form = c.requires.form ∙ ap (λ w. form_in w.header) (sym e) in
    subst (λ f. (n : ℕ) × (c.args.who ≡ n + 1) × OpenerHolds f (own_of c.self.inside.options c.in-Some.opener.now) (resting (rest_of c.in-Some.opener.now.walk)) (command_in u.job) u.steps n c.self.inside.locks) (sym form)
    (holds_before c.self.inside.header c.self.inside.options c.self.inside.list.items c.self.inside.locks (g.S.Space.image c.args.s.now) (g.S.Space.size c.args.s.now) c.args.who c.requires.busy.0 c.in-Some.opener.now c.requires.busy.1
    (subst (λ w. IsBusy w c.args.who c.requires.busy.0 c.requires.busy.1) (sym e) c.requires.busy.2) c.in-Some.ensures.item.1
    (subst (λ w. Stands w (g.S.Space.image c.args.s.now) (g.S.Space.size c.args.s.now)) (sym e) c.requires.stands) (sym c.walking.ensures ∙ ap (option_map walk_command) c.in_default-walking.is) u busy)

pub returns-clause-stands : goal.returns-clause-stands
returns-clause-stands g c =
    let e = c.self.view_is in
    let form = c.requires.form ∙ ap (λ w. form_in w.header) (sym e) in
    let d = c.in-Some.opener.now in
    let y = c.turn.new.self in
    ok_so c.turn.result (Locked (g.S.Space.form c.args.s.now) c.self.inside.options d y c.args.who c.self.inside.locks c.turn.new.locks) (MayStand (g.S.Space.form c.args.s.now) c.self.inside.options (g.S.Space.size c.turn.new.s) y) _
    (λ turn L M. world_after c.self.inside.header c.self.inside.options c.self.inside.list.items c.self.inside.locks (g.S.Space.image c.args.s.now) (g.S.Space.size c.args.s.now) c.args.who c.requires.busy.0 d c.requires.busy.1
    (subst (λ w. IsBusy w c.args.who c.requires.busy.0 c.requires.busy.1) (sym e) c.requires.busy.2) c.in-Some.ensures.item.1
    (subst (λ w. Stands w (g.S.Space.image c.args.s.now) (g.S.Space.size c.args.s.now)) (sym e) c.requires.stands) (sym c.walking.ensures ∙ ap (option_map walk_command) c.in_default-walking.is)
    y c.turn.new.locks (g.S.Space.image c.turn.new.s) turn
    (subst (λ f. Locked f c.self.inside.options d y c.args.who c.self.inside.locks c.turn.new.locks turn) form L) c.turn.ensures.walk (g.S.Space.size c.turn.new.s)
    (subst (λ f. MayStand f c.self.inside.options (g.S.Space.size c.turn.new.s) y) form M) c.turn.ensures.longer c.turn.ensures.within)
    c.turn.ensures.locks c.turn.ensures.stands

pub returns-clause-bytes : goal.returns-clause-bytes
returns-clause-bytes g c =
    let e = c.self.view_is in
    let form = c.requires.form ∙ ap (λ w. form_in w.header) (sym e) in
    let d = c.in-Some.opener.now in
    let y = c.turn.new.self in
    let a = g.S.Space.image c.args.s.now in
    let b = g.S.Space.image c.turn.new.s in
    ok_both c.turn.result (Locked (g.S.Space.form c.args.s.now) c.self.inside.options d y c.args.who c.self.inside.locks c.turn.new.locks) (λ turn. IsTrue g.S.Space.tells → Filed (g.S.Space.form c.args.s.now) c.self.inside.options d y c.args.who c.self.inside.locks c.self.inside.spots a b turn) _
    (λ turn L T told bytes. file_after c.self.inside.header c.self.inside.options c.self.inside.list.items c.self.inside.locks a (g.S.Space.size c.args.s.now) c.args.who c.requires.busy.0 d c.requires.busy.1
    (subst (λ w. IsBusy w c.args.who c.requires.busy.0 c.requires.busy.1) (sym e) c.requires.busy.2) c.in-Some.ensures.item.1
    (subst (λ w. Stands w a (g.S.Space.size c.args.s.now)) (sym e) c.requires.stands) (sym c.walking.ensures ∙ ap (option_map walk_command) c.in_default-walking.is)
    y c.turn.new.locks b turn
    (subst (λ f. Locked f c.self.inside.options d y c.args.who c.self.inside.locks c.turn.new.locks turn) form L) c.turn.ensures.walk
    (subst (λ w. BytesStand w a) (sym e) bytes)
    (subst (λ l. Filed (form_in c.self.inside.header) c.self.inside.options d y c.args.who c.self.inside.locks l a b turn) c.self.invariant (subst (λ f. Filed f c.self.inside.options d y c.args.who c.self.inside.locks c.self.inside.spots a b turn) form (T told))))
    c.turn.ensures.locks c.turn.ensures.file

pub returns-clause-turned : goal.returns-clause-turned
returns-clause-turned g c =
    let e = c.self.view_is in
    let form = c.requires.form ∙ ap (λ w. form_in w.header) (sym e) in
    let d = c.in-Some.opener.now in
    let y = c.turn.new.self in
    let a = g.S.Space.image c.args.s.now in
    let b = g.S.Space.image c.turn.new.s in
    of_both c.turn.result (Locked (g.S.Space.form c.args.s.now) c.self.inside.options d y c.args.who c.self.inside.locks c.turn.new.locks) (λ turn. IsTrue g.S.Space.tells → Filed (g.S.Space.form c.args.s.now) c.self.inside.options d y c.args.who c.self.inside.locks c.self.inside.spots a b turn) _
    (λ turn L T told bytes x t B. subst (λ w. Turned (form_in w.header) (state_in w a) (law_opener c.args.who) (law_of_task t) (law_turn turn)
    (state_of (form_in c.self.inside.header) c.self.inside.options (slice_set c.self.inside.list.items (c.args.who - 1) y) c.turn.new.locks b)) e
    (turned_after c.self.inside.header c.self.inside.options c.self.inside.list.items c.self.inside.locks a (g.S.Space.size c.args.s.now) c.args.who x d t
    (subst (λ w. IsBusy w c.args.who x t) (sym e) B) c.in-Some.ensures.item.1
    (subst (λ w. Stands w a (g.S.Space.size c.args.s.now)) (sym e) c.requires.stands) (sym c.walking.ensures ∙ ap (option_map walk_command) c.in_default-walking.is)
    y c.turn.new.locks b turn
    (subst (λ f. Locked f c.self.inside.options d y c.args.who c.self.inside.locks c.turn.new.locks turn) form L) c.turn.ensures.walk
    (subst (λ w. BytesStand w a) (sym e) bytes)
    (subst (λ l. Filed (form_in c.self.inside.header) c.self.inside.options d y c.args.who c.self.inside.locks l a b turn) c.self.invariant (subst (λ f. Filed f c.self.inside.options d y c.args.who c.self.inside.locks c.self.inside.spots a b turn) form (T told)))))
    c.turn.ensures.locks c.turn.ensures.file

pub returns-clause-full : goal.returns-clause-full
returns-clause-full g c =
    let e = c.self.view_is in
    let form = c.requires.form ∙ ap (λ w. form_in w.header) (sym e) in
    let header = c.self.inside.header in
    let options = c.self.inside.options in
    let xs = c.self.inside.list.items in
    let ps = c.self.inside.locks in
    let a = g.S.Space.image c.args.s.now in
    let size = g.S.Space.size c.args.s.now in
    let W = subst (λ w. Stands w a size) (sym e) c.requires.stands in
    let off = sym c.walking.ensures ∙ ap (option_map walk_command) c.in_default-walking.is in
    let item = c.in-Some.ensures.item.1 in
    let d = c.in-Some.opener.now in
    of_both c.turn.result _ _ _
    (λ turn turned full told bytes x t B.
    let K = subst (λ w. IsBusy w c.args.who x t) (sym e) B in
    let before = image_before header options xs ps a size c.args.who x d t K item W off (subst (λ w. BytesStand w a) (sym e) bytes) in
    world_full c.args.self.now a size c.args.who x t B c.requires.stands turn _ (turned told bytes x t B)
    (λ plain. subst (λ w. FullOutside (form_in w.header) a w.options.limit (law_of_task t) (law_turn turn)) e
    (subst (λ f. FullOutside f a options.limit (law_of_task t) (law_turn turn)) form
    (full told t K.number.place (other_hands xs K.number.place) (task_busy header options xs ps a size c.args.who x d t K item W off) K.number.counted
    (subst (λ f. ImageBefore f t.job a (other_hands xs K.number.place)) (sym form) before) plain))))
    (returns-clause-turned g c) c.turn.ensures.full

pub returns-clause-busy : goal.returns-clause-busy
returns-clause-busy g c =
    let e = c.self.view_is in
    let form = c.requires.form ∙ ap (λ w. form_in w.header) (sym e) in
    let d = c.in-Some.opener.now in
    let y = c.turn.new.self in
    IfOk-weaker c.turn.result (Locked (g.S.Space.form c.args.s.now) c.self.inside.options d y c.args.who c.self.inside.locks c.turn.new.locks) _
    (λ turn L is. busy_after c.self.inside.header c.self.inside.options c.self.inside.list.items c.self.inside.locks (g.S.Space.image c.args.s.now) (g.S.Space.size c.args.s.now) c.args.who c.requires.busy.0 d c.requires.busy.1
    (subst (λ w. IsBusy w c.args.who c.requires.busy.0 c.requires.busy.1) (sym e) c.requires.busy.2) c.in-Some.ensures.item.1
    (subst (λ w. Stands w (g.S.Space.image c.args.s.now) (g.S.Space.size c.args.s.now)) (sym e) c.requires.stands) (sym c.walking.ensures ∙ ap (option_map walk_command) c.in_default-walking.is)
    y c.turn.new.locks (g.S.Space.image c.turn.new.s) turn
    (subst (λ f. Locked f c.self.inside.options d y c.args.who c.self.inside.locks c.turn.new.locks turn) form L) c.turn.ensures.walk is)
    c.turn.ensures.locks

pub returns-clause-cause : goal.returns-clause-cause
returns-clause-cause g c told bytes =
    let e = c.self.view_is in
    let form = c.requires.form ∙ ap (λ w. form_in w.header) (sym e) in
    let header = c.self.inside.header in
    let options = c.self.inside.options in
    let xs = c.self.inside.list.items in
    let ps = c.self.inside.locks in
    let a = g.S.Space.image c.args.s.now in
    let size = g.S.Space.size c.args.s.now in
    let x = c.requires.busy.0 in
    let t = c.requires.busy.1 in
    let B = subst (λ w. IsBusy w c.args.who x t) (sym e) c.requires.busy.2 in
    let W = subst (λ w. Stands w a size) (sym e) c.requires.stands in
    let off = sym c.walking.ensures ∙ ap (option_map walk_command) c.in_default-walking.is in
    let item = c.in-Some.ensures.item.1 in
    let d = c.in-Some.opener.now in
    c.turn.ensures.cause told t B.number.place (other_hands xs B.number.place) (task_busy header options xs ps a size c.args.who x d t B item W off) B.number.counted
    (subst (λ f. ImageBefore f t.job a (other_hands xs B.number.place)) (sym form) (image_before header options xs ps a size c.args.who x d t B item W off (subst (λ w. BytesStand w a) (sym e) bytes)))

pub invariant_of-self-2 : goal.invariant_of-self-2
invariant_of-self-2 g c = c.self.invariant ∙ sym (spots_still c.self.inside.list.items (c.args.who - 1) c.in-Some.opener.now c.turn.new.self c.in-Some.ensures.item.1 c.turn.ensures.walk)

-- A turn of a command on its cursor.
pub walk_turn-requires-clause-busy : goal.walk_turn-requires-clause-busy
walk_turn-requires-clause-busy g c =
    let e = c.self.view_is in
    walk_busy c.self.inside.header c.self.inside.options c.self.inside.list.items c.self.inside.locks (g.S.Space.image c.args.s.now) (g.S.Space.size c.args.s.now) c.args.who c.requires.busy.0 c.in-Some.opener.now c.requires.busy.1
    (subst (λ w. IsBusy w c.args.who c.requires.busy.0 c.requires.busy.1) (sym e) c.requires.busy.2) c.in-Some.ensures.item.1
    (subst (λ w. Stands w (g.S.Space.image c.args.s.now) (g.S.Space.size c.args.s.now)) (sym e) c.requires.stands) (walk_command c.in-Some-walking.walking)
    (sym c.walking.ensures ∙ ap (option_map walk_command) c.in-Some-walking.is)

pub walk_turn-requires-clause-words : goal.walk_turn-requires-clause-words
walk_turn-requires-clause-words g c =
    let e = c.self.view_is in
    words_before c.self.inside.header c.self.inside.options c.self.inside.list.items c.self.inside.locks (g.S.Space.image c.args.s.now) (g.S.Space.size c.args.s.now) c.args.who c.requires.busy.0 c.in-Some.opener.now c.requires.busy.1
    (subst (λ w. IsBusy w c.args.who c.requires.busy.0 c.requires.busy.1) (sym e) c.requires.busy.2) c.in-Some.ensures.item.1
    (subst (λ w. Stands w (g.S.Space.image c.args.s.now) (g.S.Space.size c.args.s.now)) (sym e) c.requires.stands) (walk_command c.in-Some-walking.walking)
    (sym c.walking.ensures ∙ ap (option_map walk_command) c.in-Some-walking.is)

pub walk_turn-requires-clause-asked : goal.walk_turn-requires-clause-asked
walk_turn-requires-clause-asked g c =
    let e = c.self.view_is in
    asked_before c.self.inside.header c.self.inside.options c.self.inside.list.items c.self.inside.locks (g.S.Space.image c.args.s.now) (g.S.Space.size c.args.s.now) c.args.who c.requires.busy.0 c.in-Some.opener.now c.requires.busy.1
    (subst (λ w. IsBusy w c.args.who c.requires.busy.0 c.requires.busy.1) (sym e) c.requires.busy.2) c.in-Some.ensures.item.1
    (subst (λ w. Stands w (g.S.Space.image c.args.s.now) (g.S.Space.size c.args.s.now)) (sym e) c.requires.stands) (walk_command c.in-Some-walking.walking)
    (sym c.walking.ensures ∙ ap (option_map walk_command) c.in-Some-walking.is)

pub invariant_of-self : goal.invariant_of-self
invariant_of-self g c =
    c.walk_turn.ensures.spots
    ∙ (ap (λ l. set l (c.args.who - 1) (spot_number c.walk_turn.new.self.walk.cursor.place)) c.self.invariant ∙ sym (spots_put c.self.inside.list.items (c.args.who - 1) c.walk_turn.new.self))

pub returns-in-Some-walking-clause-stands : goal.returns-in-Some-walking-clause-stands
returns-in-Some-walking-clause-stands g c =
    let e = c.self.view_is in
    let form = c.requires.form ∙ ap (λ w. form_in w.header) (sym e) in
    let d = c.in-Some.opener.now in
    let y = c.walk_turn.new.self in
    let w = walk_command c.in-Some-walking.walking in
    let a = g.S.Space.image c.args.s.now in
    let b = g.S.Space.image c.walk_turn.new.s in
    let size = g.S.Space.size c.args.s.now in
    ok_of c.walk_turn.result (Walks g.S.Space.tells (g.S.Space.form c.args.s.now) c.self.inside.options.read_only d y c.args.who c.self.inside.locks c.walk_turn.new.locks c.self.inside.spots w a b size) _
    (λ turn T. walk_world_after c.self.inside.header c.self.inside.options c.self.inside.list.items c.self.inside.locks a size c.args.who c.requires.busy.0 d c.requires.busy.1
    (subst (λ w. IsBusy w c.args.who c.requires.busy.0 c.requires.busy.1) (sym e) c.requires.busy.2) c.in-Some.ensures.item.1
    (subst (λ w. Stands w a size) (sym e) c.requires.stands) w (sym c.walking.ensures ∙ ap (option_map walk_command) c.in-Some-walking.is) g.S.Space.tells
    y c.walk_turn.new.locks b turn
    (subst (λ l. Walks g.S.Space.tells (form_in c.self.inside.header) c.self.inside.options.read_only d y c.args.who c.self.inside.locks c.walk_turn.new.locks l w a b size turn) c.self.invariant
    (subst (λ f. Walks g.S.Space.tells f c.self.inside.options.read_only d y c.args.who c.self.inside.locks c.walk_turn.new.locks c.self.inside.spots w a b size turn) form T))
    b (g.S.Space.size c.walk_turn.new.s) c.walk_turn.ensures.size)
    c.walk_turn.ensures.turned

pub returns-in-Some-walking-clause-bytes : goal.returns-in-Some-walking-clause-bytes
returns-in-Some-walking-clause-bytes g c =
    let e = c.self.view_is in
    let form = c.requires.form ∙ ap (λ w. form_in w.header) (sym e) in
    let d = c.in-Some.opener.now in
    let y = c.walk_turn.new.self in
    let w = walk_command c.in-Some-walking.walking in
    let a = g.S.Space.image c.args.s.now in
    let b = g.S.Space.image c.walk_turn.new.s in
    let size = g.S.Space.size c.args.s.now in
    ok_of c.walk_turn.result (Walks g.S.Space.tells (g.S.Space.form c.args.s.now) c.self.inside.options.read_only d y c.args.who c.self.inside.locks c.walk_turn.new.locks c.self.inside.spots w a b size) _
    (λ turn T told bytes. walk_file_after c.self.inside.header c.self.inside.options c.self.inside.list.items c.self.inside.locks a size c.args.who c.requires.busy.0 d c.requires.busy.1
    (subst (λ w. IsBusy w c.args.who c.requires.busy.0 c.requires.busy.1) (sym e) c.requires.busy.2) c.in-Some.ensures.item.1
    (subst (λ w. Stands w a size) (sym e) c.requires.stands) w (sym c.walking.ensures ∙ ap (option_map walk_command) c.in-Some-walking.is) g.S.Space.tells
    y c.walk_turn.new.locks b turn
    (subst (λ l. Walks g.S.Space.tells (form_in c.self.inside.header) c.self.inside.options.read_only d y c.args.who c.self.inside.locks c.walk_turn.new.locks l w a b size turn) c.self.invariant
    (subst (λ f. Walks g.S.Space.tells f c.self.inside.options.read_only d y c.args.who c.self.inside.locks c.walk_turn.new.locks c.self.inside.spots w a b size turn) form T))
    told (subst (λ w. BytesStand w a) (sym e) bytes))
    c.walk_turn.ensures.turned

pub returns-in-Some-walking-clause-turned : goal.returns-in-Some-walking-clause-turned
returns-in-Some-walking-clause-turned g c =
    let e = c.self.view_is in
    let form = c.requires.form ∙ ap (λ w. form_in w.header) (sym e) in
    let d = c.in-Some.opener.now in
    let y = c.walk_turn.new.self in
    let w = walk_command c.in-Some-walking.walking in
    let a = g.S.Space.image c.args.s.now in
    let b = g.S.Space.image c.walk_turn.new.s in
    let size = g.S.Space.size c.args.s.now in
    IfOk-weaker c.walk_turn.result (Walks g.S.Space.tells (g.S.Space.form c.args.s.now) c.self.inside.options.read_only d y c.args.who c.self.inside.locks c.walk_turn.new.locks c.self.inside.spots w a b size) _
    (λ turn T told bytes x t B. subst (λ v. Turned (form_in v.header) (state_in v a) (law_opener c.args.who) (law_of_task t) (law_turn turn)
    (state_of (form_in c.self.inside.header) c.self.inside.options (slice_set c.self.inside.list.items (c.args.who - 1) y) c.walk_turn.new.locks b)) e
    (walk_turned_after c.self.inside.header c.self.inside.options c.self.inside.list.items c.self.inside.locks a size c.args.who x d t
    (subst (λ w. IsBusy w c.args.who x t) (sym e) B) c.in-Some.ensures.item.1
    (subst (λ w. Stands w a size) (sym e) c.requires.stands) w (sym c.walking.ensures ∙ ap (option_map walk_command) c.in-Some-walking.is) g.S.Space.tells
    y c.walk_turn.new.locks b turn
    (subst (λ l. Walks g.S.Space.tells (form_in c.self.inside.header) c.self.inside.options.read_only d y c.args.who c.self.inside.locks c.walk_turn.new.locks l w a b size turn) c.self.invariant
    (subst (λ f. Walks g.S.Space.tells f c.self.inside.options.read_only d y c.args.who c.self.inside.locks c.walk_turn.new.locks c.self.inside.spots w a b size turn) form T))
    told (subst (λ w. BytesStand w a) (sym e) bytes)))
    c.walk_turn.ensures.turned

pub returns-in-Some-walking-clause-full : goal.returns-in-Some-walking-clause-full
returns-in-Some-walking-clause-full g c =
    let e = c.self.view_is in
    let xs = c.self.inside.list.items in
    let a = g.S.Space.image c.args.s.now in
    let d = c.in-Some.opener.now in
    IfOk-weaker c.walk_turn.result _ _
    (λ turn turned told bytes x t B.
    let N = (subst (λ w. IsBusy w c.args.who x t) (sym e) B).number in
    let walks = sym (ap (λ (z : Opener). walk_of z.task) (numbered xs c.args.who N.place x d N.counted N.there c.in-Some.ensures.item.1) ∙ ap walk_of B.busy) ∙ (sym c.walking.ensures ∙ ap (option_map walk_command) c.in-Some-walking.is) in
    world_full c.args.self.now a (g.S.Space.size c.args.s.now) c.args.who x t B c.requires.stands turn _ (turned told bytes x t B) (λ plain. absurd (plain_beside t.job _ walks plain)))
    (returns-in-Some-walking-clause-turned g c)

pub returns-in-Some-walking-clause-busy : goal.returns-in-Some-walking-clause-busy
returns-in-Some-walking-clause-busy g c =
    let e = c.self.view_is in
    let form = c.requires.form ∙ ap (λ w. form_in w.header) (sym e) in
    let d = c.in-Some.opener.now in
    let y = c.walk_turn.new.self in
    let w = walk_command c.in-Some-walking.walking in
    let a = g.S.Space.image c.args.s.now in
    let b = g.S.Space.image c.walk_turn.new.s in
    let size = g.S.Space.size c.args.s.now in
    IfOk-weaker c.walk_turn.result (Walks g.S.Space.tells (g.S.Space.form c.args.s.now) c.self.inside.options.read_only d y c.args.who c.self.inside.locks c.walk_turn.new.locks c.self.inside.spots w a b size) _
    (λ turn T is. walk_busy_after c.self.inside.header c.self.inside.options c.self.inside.list.items c.self.inside.locks a size c.args.who c.requires.busy.0 d c.requires.busy.1
    (subst (λ w. IsBusy w c.args.who c.requires.busy.0 c.requires.busy.1) (sym e) c.requires.busy.2) c.in-Some.ensures.item.1
    (subst (λ w. Stands w a size) (sym e) c.requires.stands) w (sym c.walking.ensures ∙ ap (option_map walk_command) c.in-Some-walking.is) g.S.Space.tells
    y c.walk_turn.new.locks b turn
    (subst (λ l. Walks g.S.Space.tells (form_in c.self.inside.header) c.self.inside.options.read_only d y c.args.who c.self.inside.locks c.walk_turn.new.locks l w a b size turn) c.self.invariant
    (subst (λ f. Walks g.S.Space.tells f c.self.inside.options.read_only d y c.args.who c.self.inside.locks c.walk_turn.new.locks c.self.inside.spots w a b size turn) form T)) is)
    c.walk_turn.ensures.turned

-- An opener that holds no record for writing only looks at the file.
pub returns-clause-calm : goal.returns-clause-calm
returns-clause-calm g c calm =
    let number = c.requires.busy.2.number.counted in
    c.turn.ensures.calm (law_opener c.args.who) (omega (arith, number)) (subst (λ w. WritesNoRecord w.table (law_opener c.args.who)) (sym c.self.view_is) calm)

pub returns-in-Some-walking-clause-calm : goal.returns-in-Some-walking-clause-calm
returns-in-Some-walking-clause-calm g c calm =
    let e = c.self.view_is in
    c.walk_turn.ensures.idle
    (calm_before c.self.inside.header c.self.inside.options c.self.inside.list.items c.self.inside.locks (g.S.Space.image c.args.s.now) (g.S.Space.size c.args.s.now) c.args.who c.requires.busy.0 c.in-Some.opener.now c.requires.busy.1
    (subst (λ w. IsBusy w c.args.who c.requires.busy.0 c.requires.busy.1) (sym e) c.requires.busy.2) c.in-Some.ensures.item.1
    (subst (λ w. Stands w (g.S.Space.image c.args.s.now) (g.S.Space.size c.args.s.now)) (sym e) c.requires.stands) (walk_command c.in-Some-walking.walking)
    (sym c.walking.ensures ∙ ap (option_map walk_command) c.in-Some-walking.is)
    (subst (λ w. WritesNoRecord w.table (law_opener c.args.who)) (sym e) calm))

-- So does one that isn't in the middle of a change.
pub returns-clause-spared : goal.returns-clause-spared
returns-clause-spared g c x t B spares =
    let e = c.self.view_is in
    let form = c.requires.form ∙ ap (λ w. form_in w.header) (sym e) in
    let header = c.self.inside.header in
    let options = c.self.inside.options in
    let xs = c.self.inside.list.items in
    let ps = c.self.inside.locks in
    let a = g.S.Space.image c.args.s.now in
    let size = g.S.Space.size c.args.s.now in
    let d = c.in-Some.opener.now in
    let K = subst (λ w. IsBusy w c.args.who x t) (sym e) B in
    let W = subst (λ w. Stands w a size) (sym e) c.requires.stands in
    let off = sym c.walking.ensures ∙ ap (option_map walk_command) c.in_default-walking.is in
    let item = c.in-Some.ensures.item.1 in
    c.turn.ensures.spared t (task_busy header options xs ps a size c.args.who x d t K item W off)
    (subst (λ f. IsMidway f (own_of options d) (law_of_task t) → ⊥) (sym form)
    (subst (λ z. IsMidway (form_in header) (own_of options z) (law_of_task t) → ⊥) (sym (numbered xs c.args.who K.number.place x d K.number.counted K.number.there item))
    (subst (λ w. IsMidway (form_in w.header) (own_of w.options x) (law_of_task t) → ⊥) (sym e) spares)))

pub returns-in-Some-walking-clause-spared : goal.returns-in-Some-walking-clause-spared
returns-in-Some-walking-clause-spared g c x t B spares =
    let e = c.self.view_is in
    c.walk_turn.ensures.idle
    (spared_before c.self.inside.header c.self.inside.options c.self.inside.list.items c.self.inside.locks (g.S.Space.image c.args.s.now) (g.S.Space.size c.args.s.now)
    c.args.who x c.in-Some.opener.now t
    (subst (λ w. IsBusy w c.args.who x t) (sym e) B) c.in-Some.ensures.item.1
    (subst (λ w. Stands w (g.S.Space.image c.args.s.now) (g.S.Space.size c.args.s.now)) (sym e) c.requires.stands) (walk_command c.in-Some-walking.walking)
    (sym c.walking.ensures ∙ ap (option_map walk_command) c.in-Some-walking.is)
    (subst (λ w. IsMidway (form_in w.header) (own_of w.options x) (law_of_task t) → ⊥) (sym e) spares))

-- And so does one whose cursor doesn't purge a record.
pub returns-clause-moves : goal.returns-clause-moves
returns-clause-moves g c x t B moves =
    let N = (subst (λ w. IsBusy w c.args.who x t) (sym c.self.view_is) B).number in
    let same = numbered c.self.inside.list.items c.args.who N.place x c.in-Some.opener.now N.counted N.there c.in-Some.ensures.item.1 in
    let off = sym c.walking.ensures ∙ ap (option_map walk_command) c.in_default-walking.is in
    absurd (let both : Some moves.walk ≡ None = sym moves.on ∙ (sym (ap (λ (z : Opener). walk_of z.task) same ∙ ap walk_of B.busy) ∙ off) in cc both)

pub returns-in-Some-walking-clause-moves : goal.returns-in-Some-walking-clause-moves
returns-in-Some-walking-clause-moves g c x t B moves =
    let N = (subst (λ w. IsBusy w c.args.who x t) (sym c.self.view_is) B).number in
    let same = numbered c.self.inside.list.items c.args.who N.place x c.in-Some.opener.now N.counted N.there c.in-Some.ensures.item.1 in
    c.walk_turn.ensures.idle (subst (λ (z : Opener). dead_of z.walk.cursor.place z.walk.cursor.stage ≡ None) (sym same) moves.spares)

-- The other openers stay.
pub returns-clause-others : goal.returns-clause-others
returns-clause-others g c o ne =
    let N = c.requires.busy.2.number in
    others_put c.self.inside.list.items c.args.who N.place c.requires.busy.0 c.turn.new.self N.counted (ap (λ w. slice_get w.openers N.place) c.self.view_is ∙ N.there) o ne ∙ ap (λ w. slice_get w.openers o) c.self.view_is

pub returns-in-Some-walking-clause-others : goal.returns-in-Some-walking-clause-others
returns-in-Some-walking-clause-others g c o ne =
    let N = c.requires.busy.2.number in
    others_put c.self.inside.list.items c.args.who N.place c.requires.busy.0 c.walk_turn.new.self N.counted (ap (λ w. slice_get w.openers N.place) c.self.view_is ∙ N.there) o ne ∙ ap (λ w. slice_get w.openers o) c.self.view_is

-- What a turn that failed leaves of the file.
pub returns-clause-stopped : goal.returns-clause-stopped
returns-clause-stopped g c =
    let e = c.self.view_is in
    let form = c.requires.form ∙ ap (λ w. form_in w.header) (sym e) in
    let header = c.self.inside.header in
    let options = c.self.inside.options in
    let xs = c.self.inside.list.items in
    let ps = c.self.inside.locks in
    let a = g.S.Space.image c.args.s.now in
    let b = g.S.Space.image c.turn.new.s in
    let size = g.S.Space.size c.args.s.now in
    let W = subst (λ w. Stands w a size) (sym e) c.requires.stands in
    let off = sym c.walking.ensures ∙ ap (option_map walk_command) c.in_default-walking.is in
    let item = c.in-Some.ensures.item.1 in
    let d = c.in-Some.opener.now in
    on_err_weaker c.turn.result
    (λ stopped told bytes x t B.
    (let K = subst (λ w. IsBusy w c.args.who x t) (sym e) B in
    let N = K.number in
    let others = other_hands xs N.place in
    let before = image_before header options xs ps a size c.args.who x d t K item W off (subst (λ w. BytesStand w a) (sym e) bytes) in
    let left = stopped told t N.place others (task_busy header options xs ps a size c.args.who x d t K item W off) N.counted (subst (λ f. ImageBefore f t.job a others) (sym form) before) in
    subst (λ w. JobStopped (form_in w.header) a b x.walk.cursor t.job t.steps (other_hands w.openers (law_opener c.args.who))) e
    (subst (λ p. JobStopped (form_in header) a b x.walk.cursor t.job t.steps (other_hands xs p)) (sym (by_number c.args.who N.place N.counted))
    (subst (λ (z : Opener). JobStopped (form_in header) a b z.walk.cursor t.job t.steps others) (numbered xs c.args.who N.place x d N.counted N.there item)
    (subst (λ f. JobStopped f a b d.walk.cursor t.job t.steps others) form left))))) c.turn.ensures.stopped

pub returns-in-Some-walking-clause-stopped : goal.returns-in-Some-walking-clause-stopped
returns-in-Some-walking-clause-stopped g c =
    let e = c.self.view_is in
    let form = c.requires.form ∙ ap (λ w. form_in w.header) (sym e) in
    let header = c.self.inside.header in
    let options = c.self.inside.options in
    let xs = c.self.inside.list.items in
    let ps = c.self.inside.locks in
    let a = g.S.Space.image c.args.s.now in
    let b = g.S.Space.image c.walk_turn.new.s in
    let size = g.S.Space.size c.args.s.now in
    let W = subst (λ w. Stands w a size) (sym e) c.requires.stands in
    let d = c.in-Some.opener.now in
    let short = W.short in
    let limit = W.limit in
    let small : size < 4294967296 = omega (arith, short, limit) in
    on_err_weaker c.walk_turn.result
    (λ stopped told bytes x t B.
    subst (λ w. JobStopped (form_in w.header) a b x.walk.cursor t.job t.steps (other_hands w.openers (law_opener c.args.who))) e
    (walk_stopped header options xs ps a size c.args.who x d t (subst (λ w. IsBusy w c.args.who x t) (sym e) B) c.in-Some.ensures.item.1 W (walk_command c.in-Some-walking.walking)
    (sym c.walking.ensures ∙ ap (option_map walk_command) c.in-Some-walking.is) (subst (λ w. BytesStand w a) (sym e) bytes) b
    (subst (λ f. StepStops f a b d.walk.cursor) form (stopped told small)))) c.walk_turn.ensures.stopped

-- Where memory is wanting.
pub returns-clause-starves : goal.returns-clause-starves
returns-clause-starves g c =
    let e = c.self.view_is in
    let form = c.requires.form ∙ ap (λ w. form_in w.header) (sym e) in
    let header = c.self.inside.header in
    let xs = c.self.inside.list.items in
    let ps = c.self.inside.locks in
    let a = g.S.Space.image c.args.s.now in
    let size = g.S.Space.size c.args.s.now in
    let W = subst (λ w. Stands w a size) (sym e) c.requires.stands in
    let off = sym c.walking.ensures ∙ ap (option_map walk_command) c.in_default-walking.is in
    IfOk-weaker c.turn.result _ _
    (λ turn starves x t B.
    let K = subst (λ w. IsBusy w c.args.who x t) (sym e) B in
    subst (λ w. StarvesOutside (form_in w.header) (law_of_task t) (law_turn turn)) e
    (subst (λ f. StarvesOutside f (law_of_task t) (law_turn turn)) form
    (starves t (task_busy header c.self.inside.options xs ps a size c.args.who x c.in-Some.opener.now t K c.in-Some.ensures.item.1 W off)))) c.turn.ensures.starves

pub returns-in-Some-walking-clause-starves : goal.returns-in-Some-walking-clause-starves
returns-in-Some-walking-clause-starves g c =
    let e = c.self.view_is in
    IfOk-weaker c.walk_turn.result _ _
    (λ turn walked x t B b on ends.
    let N = (subst (λ w. IsBusy w c.args.who x t) (sym e) B).number in
    let walks = sym (ap (λ (z : Opener). walk_of z.task) (numbered c.self.inside.list.items c.args.who N.place x c.in-Some.opener.now N.counted N.there c.in-Some.ensures.item.1) ∙ ap walk_of B.busy) ∙ (sym c.walking.ensures ∙ ap (option_map walk_command) c.in-Some-walking.is) in
    absurd (map_beside t.job _ b walks on)) c.walk_turn.ensures.turned
